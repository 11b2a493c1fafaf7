-- Where one token fits and another doesn't, a word that is sought fits first.
use Rattle.std.proofs.Common.{◌≡◌, Bool, true, false, cond, ◌&&◌, ◌||◌, List, [], ◌∷◌, ◌++◌, Option, Some, None, refl, sym, ◌∙◌, subst}
use Rattle.op_table.specs.declared.rows.Level.{Level}
use Rattle.module_grammar.specs.declared.symbols.Class.{Class}
use Rattle.module_grammar.specs.declared.symbols.Rule.{Rule}
use Rattle.module_grammar.specs.declared.symbols.Symbol.{Symbol}
use Rattle.module_grammar.specs.declared.symbols.Symbol.TheVariants as symbol
use Rattle.module_grammar.specs.declared.sought.Sought.{Sought}
use Rattle.module_grammar.specs.declared.state.TextToken.{TextToken}
use Rattle.module_grammar.specs.declared.state.State.{State}
use Rattle.module_grammar.specs.Engine.{Line, Place, first_line, line_at, step}
use Rattle.module_grammar.specs.State.{does}
use Rattle.module_grammar.specs.Rules.{grammar, lines, may_end, is_of, allows}
use Rattle.module_grammar.specs.Faults.{seeks, any_first, fits_first}
use Rattle.module_grammar.proofs.Runs.{by_test, by_option, step-line, step-nothing, step-refused}
use Rattle.module_grammar.proofs.Ends.{and-both}

pub or-left : (a b : Bool) → a ≡ true → a || b ≡ true
or-left true b e = refl
or-left false b e = absurd cc

pub or-right : (a b : Bool) → b ≡ true → a || b ≡ true
or-right true b e = refl
or-right false b e = e

pub only : (a : Bool) → a || false ≡ true → a ≡ true
only true h = refl
only false h = absurd cc

-- a word takes a token, or refuses it
word-taken : (level : Level) (c : Class) (k : List Symbol) (s : State) (t : TextToken) (p : Place State)
    → step (grammar level) (symbol.Word c ∷ k) s t ≡ Some p → is_of c t && allows c s t ≡ true
word-taken level c k s t p e =
    by_test (is_of c t && allows c s t)
    (λ y. y)
    (λ n. let a : None ≡ Some p =
    subst (λ b. cond {A = Option (Place State)} b (Some (record { left = k; state = (grammar level).reads c t s })) None ≡ Some p) n e in absurd cc)

word-refused : (level : Level) (c : Class) (k : List Symbol) (s : State) (t : TextToken)
    → step (grammar level) (symbol.Word c ∷ k) s t ≡ None → is_of c t && allows c s t ≡ false
word-refused level c k s t e =
    by_test (is_of c t && allows c s t)
    (λ y. let q : Place State = record { left = k; state = (grammar level).reads c t s } in
    let a : Some q ≡ None = subst (λ b. cond {A = Option (Place State)} b (Some q) None ≡ None) y e in absurd cc)
    (λ n. n)

-- a rule of which a token begins no line
line-refused : (level : Level) (r : Rule) (k : List Symbol) (s : State) (t : TextToken)
    → step (grammar level) (symbol.Rule r ∷ k) s t ≡ None → line_at (grammar level) r s t ≡ None
line-refused level r k s t e =
    by_option (line_at (grammar level) r s t)
    (λ l f. let q : Place State = record { left = l.after ++ k; state = (grammar level).reads l.first t s } in
    let a : Some q ≡ None = sym (step-line (grammar level) r k s t l f) ∙ e in absurd cc)
    (λ f. f)

-- Each class that has the right token and not the wrong one is sought.
module _ (level : Level) (w : Sought) (right wrong : TextToken)
    (known : (c : Class) (s : State) → is_of c right && allows c s right ≡ true → is_of c wrong && allows c s wrong ≡ false → seeks w c ≡ true) where
  line-sought : (ls : List Line) (s : State) (l : Line) → first_line (grammar level) ls s right ≡ Some l
      → first_line (grammar level) ls s wrong ≡ None → any_first (seeks w) ls ≡ true
  line-sought [] s l e f = absurd cc
  line-sought (x ∷ ls) s l e f =
      by_test (is_of x.first wrong && allows x.first s wrong)
      (λ y. let a : Some x ≡ None = subst (λ b. cond {A = Option Line} b (Some x) (first_line (grammar level) ls s wrong) ≡ None) y f in absurd cc)
      (λ n. by_test (is_of x.first right && allows x.first s right)
      (λ y. or-left (seeks w x.first) _ (known x.first s y n))
      (λ m. or-right (seeks w x.first) _ (line-sought ls s l
      (subst (λ b. cond {A = Option Line} b (Some x) (first_line (grammar level) ls s right) ≡ Some l) m e)
      (subst (λ b. cond {A = Option Line} b (Some x) (first_line (grammar level) ls s wrong) ≡ None) n f))))

  pub step-sought : (k : List Symbol) (s : State) (p : Place State) → step (grammar level) k s right ≡ Some p
      → step (grammar level) k s wrong ≡ None → fits_first level w k ≡ true
  step-sought [] s p e f = absurd cc
  step-sought (symbol.Word c ∷ k) s p e f = known c s (word-taken level c k s right p e) (word-refused level c k s wrong f)
  step-sought (symbol.Do a ∷ k) s p e f = step-sought k (does a s) p e f
  step-sought (symbol.Rule r ∷ k) s p e f =
      let n = line-refused level r k s wrong f in
      by_option (line_at (grammar level) r s right)
      (λ l g. or-left (any_first (seeks w) (lines level r)) _ (line-sought (lines level r) s l g n))
      (λ g. by_test (may_end r)
      (λ y. or-right (any_first (seeks w) (lines level r)) _ (and-both (may_end r) _ y
      (step-sought k s p (sym (step-nothing (grammar level) r k s right y g) ∙ e) (sym (step-nothing (grammar level) r k s wrong y n) ∙ f))))
      (λ z. let a : None ≡ Some p = sym (step-refused (grammar level) r k s right z g) ∙ e in absurd cc))
