-- What acts add, against the words that stand among them: every line has at most one act of a sort more than words behind its first.
use Rattle.std.proofs.Common.{◌≡◌, ◌≤◌, ℕ, suc, ◌+◌, nat_le, Bool, true, false, cond, ◌&&◌, List, [], ◌∷◌, ◌++◌, length, Some, refl, subst, arith}
use Rattle.std.proofs.lemmas.Bool.{leb-true}
use Rattle.op_table.specs.declared.rows.Level.{Level}
use Rattle.module_grammar.specs.declared.symbols.Rule.{Rule}
use Rattle.module_grammar.specs.declared.symbols.Act.{Act}
use Rattle.module_grammar.specs.declared.symbols.Symbol.{Symbol}
use Rattle.module_grammar.specs.declared.symbols.Symbol.TheVariants as symbol
use Rattle.module_grammar.specs.declared.state.TextToken.{TextToken}
use Rattle.module_grammar.specs.declared.state.State.{State}
use Rattle.module_grammar.specs.Engine.{Line, Table, Leads, first_line}
use Rattle.module_grammar.specs.State.{does}
use Rattle.module_grammar.specs.Rules.{grammar, lines}

abbrev pub words : List Symbol → ℕ
words [] = 0
words (symbol.Word c ∷ k) = suc (words k)
words (symbol.Do a ∷ k) = words k
words (symbol.Rule r ∷ k) = words k

-- what the acts among the symbols weigh
abbrev pub weight : (Act → ℕ) → List Symbol → ℕ
weight w [] = 0
weight w (symbol.Word c ∷ k) = weight w k
weight w (symbol.Do a ∷ k) = w a + weight w k
weight w (symbol.Rule r ∷ k) = weight w k

pub words-append : (xs k : List Symbol) → words (xs ++ k) ≡ words xs + words k
words-append [] k = omega arith
words-append (symbol.Word c ∷ xs) k = let h = words-append xs k in omega (arith, h)
words-append (symbol.Do a ∷ xs) k = words-append xs k
words-append (symbol.Rule r ∷ xs) k = words-append xs k

pub weight-append : (w : Act → ℕ) (xs k : List Symbol) → weight w (xs ++ k) ≡ weight w xs + weight w k
weight-append w [] k = omega arith
weight-append w (symbol.Word c ∷ xs) k = weight-append w xs k
weight-append w (symbol.Do a ∷ xs) k = let h = weight-append w xs k in omega (arith, h)
weight-append w (symbol.Rule r ∷ xs) k = weight-append w xs k

-- ---- the line that is chosen

abbrev pub all_lines : (Line → Bool) → List Line → Bool
all_lines test [] = true
all_lines test (l ∷ ls) = test l && all_lines test ls

pub both : (a b : Bool) → a && b ≡ true → (a ≡ true) × (b ≡ true)
both true b e = (refl, e)
both false b e = absurd cc

pub chosen : (g : Table TextToken State) (test : Line → Bool) (ls : List Line) (s : State) (t : TextToken) (l : Line) → first_line g ls s t ≡ Some l → all_lines test ls ≡ true → test l ≡ true
chosen g test [] s t l is all = absurd cc
chosen g test (x ∷ ls) s t l is all = step (g.accepts x.first s t) is (both (test x) (all_lines test ls) all).0 (λ again. chosen g test ls s t l again (both (test x) (all_lines test ls) all).1)
  where
    step : (b : Bool) → cond b (Some x) (first_line g ls s t) ≡ Some l → test x ≡ true → (first_line g ls s t ≡ Some l → test l ≡ true) → test l ≡ true
    step true is ok again = let same : x ≡ l = cc in subst (λ (y : Line). test y ≡ true) same ok
    step false is ok again = again is

pub chosen-fits : (g : Table TextToken State) (ls : List Line) (s : State) (t : TextToken) (l : Line) → first_line g ls s t ≡ Some l → g.accepts l.first s t ≡ true
chosen-fits g [] s t l is = absurd cc
chosen-fits g (x ∷ ls) s t l is = step (g.accepts x.first s t) refl is (λ again. chosen-fits g ls s t l again)
  where
    step : (b : Bool) → g.accepts x.first s t ≡ b → cond b (Some x) (first_line g ls s t) ≡ Some l → (first_line g ls s t ≡ Some l → g.accepts l.first s t ≡ true) → g.accepts l.first s t ≡ true
    step true e is again = let same : x ≡ l = cc in subst (λ (y : Line). g.accepts y.first s t ≡ true) same e
    step false e is again = again is

-- ---- a number that acts raise

-- a line's acts weigh at most one more than it has words behind the first
abbrev pub is_light : (Act → ℕ) → Line → Bool
is_light w l = nat_le (weight w l.after) (suc (words l.after))

module _ (f : State → ℕ) (w : Act → ℕ) (raised : (a : Act) (s : State) → f (does a s) ≤ w a + f s) (kept : (t : TextToken) (s : State) → f (record s { last = t }) ≡ f s)
    (level : Level) (light : (r : Rule) → all_lines (is_light w) (lines level r) ≡ true) where
  pub raised-by : (k : List Symbol) (s : State) (ts : List TextToken) (s' : State) → Leads (grammar level) k s ts s' → f s' + words k ≤ (f s + weight w k) + length ts
  raised-by _ _ _ _ (Leads.ended s) = omega arith
  raised-by _ _ _ _ (Leads.word c k s t ts s' e d) =
      let h = raised-by k (record s { last = t }) ts s' d in
      let same = kept t s in
      omega (arith, h, same)
  raised-by _ _ _ _ (Leads.act a k s ts s' d) =
      let h = raised-by k (does a s) ts s' d in
      let more = raised a s in
      omega (arith, h, more)
  raised-by _ _ _ _ (Leads.line r k s t ts s' l e d) =
      let h = raised-by (l.after ++ k) (record s { last = t }) ts s' d in
      let same = kept t s in
      let small = leb-true (weight w l.after) (suc (words l.after)) (chosen (grammar level) (is_light w) (lines level r) s t l e (light r)) in
      let many = words-append l.after k in
      let heavy = weight-append w l.after k in
      omega (arith, h, same, small, many, heavy)
  raised-by _ _ _ _ (Leads.nothing r k s ts s' e n d) = raised-by k s ts s' d
