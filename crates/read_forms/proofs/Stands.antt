-- Where a state stands, by the symbols that are left: outside the functions' bodies, or inside one and inside so many regions.
use Rattle.std.proofs.Common.{◌≡◌, ℕ, zero, suc, Bool, true, false, cond, List, [], ◌∷◌, ◌++◌, map, Some, refl, ap, ◌∙◌, subst}
use Rattle.std.specs.Prelude.{⊤}
use Rattle.op_table.specs.declared.rows.Level.{Level}
use Rattle.op_table.specs.declared.rows.Level.TheVariants.{Source, Checked, Split, Low}
use Rattle.module_grammar.specs.declared.symbols.Rule.{Rule}
use Rattle.module_grammar.specs.declared.symbols.Rule.TheVariants as rule
use Rattle.module_grammar.specs.declared.symbols.Act.{Act}
use Rattle.module_grammar.specs.declared.symbols.Act.TheVariants as act
use Rattle.module_grammar.specs.declared.symbols.Symbol.{Symbol}
use Rattle.module_grammar.specs.declared.symbols.Symbol.TheVariants as symbol
use Rattle.module_grammar.specs.declared.state.TextToken.{TextToken}
use Rattle.module_grammar.specs.declared.state.State.{State}
use Rattle.module_grammar.specs.Engine.{Line, first_line, line_at}
use Rattle.module_grammar.specs.Rules.{grammar, lines}

-- Nowhere: the symbols are out of order. Outside a body. Inside a body and so many regions of it: `true` says that the open
-- operation has no regions.
pub data Stand : Type 0 where
  nowhere : Stand
  outside : Stand
  inside : ℕ → Bool → Stand

-- where a state stands before an act, by where it stands behind it
abbrev pub before_act : Act → Stand → Stand
before_act act.BeginFunc outside = outside
before_act act.BeginFunc _ = nowhere
before_act act.OpenBody (inside zero blank) = outside
before_act act.OpenBody _ = nowhere
before_act act.EndFunc outside = inside zero true
before_act act.EndFunc _ = nowhere
before_act act.BeginOp (inside n blank) = inside n true
before_act act.BeginOp _ = nowhere
before_act act.EndOp (inside n blank) = inside n false
before_act act.EndOp _ = nowhere
before_act act.HeldResults (inside n blank) = inside n false
before_act act.HeldResults _ = nowhere
before_act act.OpenRegion (inside (suc n) blank) = inside n false
before_act act.OpenRegion _ = nowhere
before_act act.CloseRegion (inside n false) = inside (suc n) true
before_act act.CloseRegion _ = nowhere
before_act _ p = p

-- rules outside the bodies; rules of a body's operations; rules that open regions or end an operation; and others
pub data Sort : Type 0 where
  of_funcs of_ops of_form other : Sort

abbrev pub sort_of : Rule → Sort
sort_of rule.Text = of_funcs
sort_of rule.Funcs = of_funcs
sort_of rule.Body = of_ops
sort_of rule.Form = of_form
sort_of rule.Branches = of_form
sort_of rule.BranchTypes = of_form
sort_of rule.BranchTypeList = of_form
sort_of rule.Else = of_form
sort_of rule.Held = of_form
sort_of rule.AfterHeld = of_form
sort_of rule.AfterHeldColon = of_form
sort_of _ = other

-- the same before a rule
abbrev pub before_sort : Sort → Stand → Stand
before_sort of_funcs outside = outside
before_sort of_funcs _ = nowhere
before_sort of_ops (inside n blank) = inside n true
before_sort of_ops _ = nowhere
before_sort of_form (inside n false) = inside n false
before_sort of_form _ = nowhere
before_sort other p = p

abbrev pub before_rule : Rule → Stand → Stand
before_rule r p = before_sort (sort_of r) p

-- the same before symbols
abbrev pub before : Stand → List Symbol → Stand
before p [] = p
before p (symbol.Word c ∷ k) = before p k
before p (symbol.Do a ∷ k) = before_act a (before p k)
before p (symbol.Rule r ∷ k) = before_rule r (before p k)

pub before-append : (xs k : List Symbol) (p : Stand) → before p (xs ++ k) ≡ before (before p k) xs
before-append [] k p = refl
before-append (symbol.Word c ∷ xs) k p = before-append xs k p
before-append (symbol.Do a ∷ xs) k p = ap (before_act a) (before-append xs k p)
before-append (symbol.Rule r ∷ xs) k p = ap (before_rule r) (before-append xs k p)

-- ---- the lines

abbrev pub IsSomewhere : Stand → Type 0
IsSomewhere nowhere = ⊥
IsSomewhere _ = ⊤

-- each line stands where its rule stands
abbrev pub StandAs : Rule → List Line → Stand → Type 0
StandAs r ls p = map (λ (l : Line). before p l.after) ls ≡ map (λ (l : Line). before_rule r p) ls

text-stands : (level : Level) (p : Stand) → IsSomewhere (before_rule rule.Text p) → StandAs rule.Text (lines level rule.Text) p
text-stands level outside is = refl
text-stands level nowhere is = elim is [ ]
text-stands level (inside n blank) is = elim is [ ]

funcs-stand : (level : Level) (p : Stand) → IsSomewhere (before_rule rule.Funcs p) → StandAs rule.Funcs (lines level rule.Funcs) p
funcs-stand level outside is = refl
funcs-stand level nowhere is = elim is [ ]
funcs-stand level (inside n blank) is = elim is [ ]

body-stands : (level : Level) (n : ℕ) (blank : Bool) → StandAs rule.Body (lines level rule.Body) (inside n blank)
body-stands Source n blank = refl
body-stands Checked n blank = refl
body-stands Split n blank = refl
body-stands Low n blank = refl

form-stands : (level : Level) (n : ℕ) → StandAs rule.Form (lines level rule.Form) (inside n false)
form-stands Source n = refl
form-stands Checked n = refl
form-stands Split n = refl
form-stands Low n = refl

region-stands : (level : Level) (r : Rule) (n : ℕ) → sort_of r ≡ of_form → StandAs r (lines level r) (inside n false)
region-stands level rule.Form n e = form-stands level n
region-stands level rule.Branches n e = refl
region-stands level rule.BranchTypes n e = refl
region-stands level rule.BranchTypeList n e = refl
region-stands level rule.Else n e = refl
region-stands level rule.Held n e = refl
region-stands level rule.AfterHeld n e = refl
region-stands level rule.AfterHeldColon n e = refl
region-stands level _ n e = absurd cc

form-sorted : (level : Level) (r : Rule) (p : Stand) → sort_of r ≡ of_form → IsSomewhere (before_sort of_form p) → StandAs r (lines level r) p
form-sorted level r (inside n false) e is = region-stands level r n e
form-sorted level r (inside n true) e is = elim is [ ]
form-sorted level r outside e is = elim is [ ]
form-sorted level r nowhere e is = elim is [ ]

body-sorted : (level : Level) (p : Stand) → IsSomewhere (before_sort of_ops p) → StandAs rule.Body (lines level rule.Body) p
body-sorted level (inside n blank) is = body-stands level n blank
body-sorted level outside is = elim is [ ]
body-sorted level nowhere is = elim is [ ]

lines-stand : (level : Level) (r : Rule) (p : Stand) → IsSomewhere (before_rule r p) → StandAs r (lines level r) p
lines-stand level rule.Text p is = text-stands level p is
lines-stand level rule.Funcs p is = funcs-stand level p is
lines-stand level rule.Body p is = body-sorted level p is
lines-stand level rule.Form p is = form-sorted level rule.Form p refl is
lines-stand level rule.Branches p is = form-sorted level rule.Branches p refl is
lines-stand level rule.BranchTypes p is = form-sorted level rule.BranchTypes p refl is
lines-stand level rule.BranchTypeList p is = form-sorted level rule.BranchTypeList p refl is
lines-stand level rule.Else p is = form-sorted level rule.Else p refl is
lines-stand level rule.Held p is = form-sorted level rule.Held p refl is
lines-stand level rule.AfterHeld p is = form-sorted level rule.AfterHeld p refl is
lines-stand level rule.AfterHeldColon p is = form-sorted level rule.AfterHeldColon p refl is
lines-stand level _ p is = refl

chosen-stands : (level : Level) (r : Rule) (p : Stand) (ls : List Line) (s : State) (t : TextToken) (l : Line) → first_line (grammar level) ls s t ≡ Some l → StandAs r ls p
    → before p l.after ≡ before_rule r p
chosen-stands level r p [] s t l is all = absurd cc
chosen-stands level r p (x ∷ ls) s t l is all =
    let first : before p x.after ≡ before_rule r p = cc in
    let others : StandAs r ls p = cc in
    by ((grammar level).accepts x.first s t) is first (λ again. chosen-stands level r p ls s t l again others)
  where
    by : (b : Bool) → cond b (Some x) (first_line (grammar level) ls s t) ≡ Some l → before p x.after ≡ before_rule r p
        → (first_line (grammar level) ls s t ≡ Some l → before p l.after ≡ before_rule r p) → before p l.after ≡ before_rule r p
    by true is first again = let same : x ≡ l = cc in subst (λ (y : Line). before p y.after ≡ before_rule r p) same first
    by false is first again = again is

-- the line that a token begins stands where its rule does
pub line-stands : (level : Level) (r : Rule) (p : Stand) (s : State) (t : TextToken) (l : Line) (k : List Symbol) → line_at (grammar level) r s t ≡ Some l
    → IsSomewhere (before_rule r (before p k)) → before p (l.after ++ k) ≡ before_rule r (before p k)
line-stands level r p s t l k is there =
    before-append l.after k p ∙ chosen-stands level r (before p k) (lines level r) s t l is (lines-stand level r (before p k) there)
