-- A function ends only behind where its body was opened.
use Rattle.std.proofs.Common.{◌≡◌, Bool, true, false, cond, not, ◌&&◌, List, [], ◌∷◌, ◌++◌, Some, refl, sym, ap, ◌∙◌, subst}
use Rattle.op_table.specs.declared.rows.Level.{Level}
use Rattle.op_table.specs.declared.rows.Level.TheVariants.{Source, Checked, Split, Low}
use Rattle.module_grammar.specs.declared.symbols.Rule.{Rule}
use Rattle.module_grammar.specs.declared.symbols.Rule.TheVariants as rule
use Rattle.module_grammar.specs.declared.symbols.Act.{Act}
use Rattle.module_grammar.specs.declared.symbols.Act.TheVariants as act
use Rattle.module_grammar.specs.declared.symbols.Symbol.{Symbol}
use Rattle.module_grammar.specs.declared.symbols.Symbol.TheVariants as symbol
use Rattle.module_grammar.specs.declared.state.TextToken.{TextToken}
use Rattle.module_grammar.specs.declared.state.State.{State}
use Rattle.module_grammar.specs.Engine.{Line, first_line, line_at}
use Rattle.module_grammar.specs.Rules.{grammar, lines}

-- whether a body is to be opened before this act, where `behind` says so of what comes after it
abbrev pub asks_at : Act → Bool → Bool
asks_at act.EndFunc behind = true
asks_at act.OpenBody behind = false
asks_at _ behind = behind

-- the same of symbols: a function ends before a body is opened
abbrev pub asks_body : Bool → List Symbol → Bool
asks_body behind [] = behind
asks_body behind (symbol.Word c ∷ k) = asks_body behind k
asks_body behind (symbol.Do a ∷ k) = asks_at a (asks_body behind k)
asks_body behind (symbol.Rule r ∷ k) = asks_body behind k

asks-append : (xs k : List Symbol) (behind : Bool) → asks_body behind (xs ++ k) ≡ asks_body (asks_body behind k) xs
asks-append [] k behind = refl
asks-append (symbol.Word c ∷ xs) k behind = asks-append xs k behind
asks-append (symbol.Do a ∷ xs) k behind = ap (asks_at a) (asks-append xs k behind)
asks-append (symbol.Rule r ∷ xs) k behind = asks-append xs k behind

-- ---- the lines

-- none of the lines ends a function whose body it doesn't open
abbrev all_free : List Line → Bool
all_free [] = true
all_free (l ∷ ls) = not (asks_body false l.after) && all_free ls

lines-free : (level : Level) (r : Rule) → all_free (lines level r) ≡ true
lines-free Source rule.Body = refl
lines-free Checked rule.Body = refl
lines-free Split rule.Body = refl
lines-free Low rule.Body = refl
lines-free Source rule.Form = refl
lines-free Checked rule.Form = refl
lines-free Split rule.Form = refl
lines-free Low rule.Form = refl
lines-free level _ = refl

both : (a b : Bool) → not a && b ≡ true → (a ≡ false) × (b ≡ true)
both false b e = (refl, e)
both true b e = absurd cc

chosen-free : (level : Level) (ls : List Line) (s : State) (t : TextToken) (l : Line) → first_line (grammar level) ls s t ≡ Some l → all_free ls ≡ true → asks_body false l.after ≡ false
chosen-free level [] s t l is all = absurd cc
chosen-free level (x ∷ ls) s t l is all =
    let free = both (asks_body false x.after) (all_free ls) all in
    by ((grammar level).accepts x.first s t) is free.0 (λ again. chosen-free level ls s t l again free.1)
  where
    by : (b : Bool) → cond b (Some x) (first_line (grammar level) ls s t) ≡ Some l → asks_body false x.after ≡ false
        → (first_line (grammar level) ls s t ≡ Some l → asks_body false l.after ≡ false) → asks_body false l.after ≡ false
    by true is free again = let same : x ≡ l = cc in subst (λ (y : Line). asks_body false y.after ≡ false) same free
    by false is free again = again is

only-behind : (xs : List Symbol) (behind : Bool) → asks_body false xs ≡ false → asks_body behind xs ≡ true → behind ≡ true
only-behind xs true e f = refl
only-behind xs false e f = sym e ∙ f

-- where a line asks for a body, what stands behind its rule does
pub line-asks : (level : Level) (r : Rule) (s : State) (t : TextToken) (l : Line) (k : List Symbol) → line_at (grammar level) r s t ≡ Some l
    → asks_body false (l.after ++ k) ≡ true → asks_body false k ≡ true
line-asks level r s t l k is asks =
    only-behind l.after (asks_body false k) (chosen-free level (lines level r) s t l is (lines-free level r)) (sym (asks-append l.after k false) ∙ asks)
