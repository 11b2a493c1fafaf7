-- What symbols owe, rule by rule, so that a text that they lead over ends as is wanted.
use Rattle.std.proofs.Common.{◌≡◌, ◌<◌, Bool, true, false, cond, ◌&&◌, List, [], ◌∷◌, ◌++◌, Option, Some, refl, sym, subst, arith}
use Rattle.op_table.specs.declared.rows.Level.{Level}
use Rattle.module_grammar.specs.declared.symbols.Rule.{Rule}
use Rattle.module_grammar.specs.declared.symbols.Symbol.{Symbol}
use Rattle.module_grammar.specs.declared.symbols.Symbol.TheVariants as symbol
use Rattle.module_grammar.specs.Engine.{Line, Leads, first_line}
use Rattle.module_grammar.specs.declared.state.TextToken.{TextToken}
use Rattle.module_grammar.specs.declared.state.State.{State}
use Rattle.module_grammar.specs.State.{does}
use Rattle.module_grammar.specs.Rules.{grammar, is_of, allows, may_end, lines}
use Rattle.module_grammar.proofs.Grows.{leads-grew}
use Rattle.module_grammar.proofs.Runs.{by_test}
use Rattle.mlir_print.specs.Printable.{AreBytes}
use Rattle.read_forms.specs.Reads.{HaveBytes}

-- fewer values are named than there are numbers
abbrev pub IsSmall : State → Type 0
IsSmall s = s.counted < 4294967295

-- what is asked before a rule, and the states that a rule may lead to
pub record Triples : Type 1 where
  pub Before : Rule → State → Type 0
  pub Outcome : Rule → State → Type 0
  pub after : (r : Rule) (s : State) → Outcome r s → State

-- what symbols owe in a state, so that they lead to wanted states alone
abbrev pub Owes : Triples → List Symbol → (State → Type 0) → State → Type 0
Owes h [] Wanted s = Wanted s
Owes h (symbol.Word c ∷ k) Wanted s = (t : TextToken) → AreBytes t.text → is_of c t ≡ true → Owes h k Wanted (record s { last = t })
Owes h (symbol.Do a ∷ k) Wanted s = IsSmall (does a s) → Owes h k Wanted (does a s)
Owes h (symbol.Rule r ∷ k) Wanted s = h.Before r s × ((x : h.Outcome r s) → IsSmall (h.after r s x) → Owes h k Wanted (h.after r s x))

-- a state that the rule may lead to
abbrev pub Reached : Triples → Rule → State → State → Type 0
Reached h r s s' = (x : h.Outcome r s) × (h.after r s x ≡ s')

-- what each of these lines owes
abbrev pub EachOwes : Triples → List Line → (State → Type 0) → State → Type 0
EachOwes h [] Wanted s = Unit {0}
EachOwes h (l ∷ ls) Wanted s = ((t : TextToken) → AreBytes t.text → is_of l.first t ≡ true → Owes h l.after Wanted (record s { last = t })) × EachOwes h ls Wanted s

-- the rules lead where they say
pub record AreSound (h : Triples) (level : Level) : Type 0 where
  pub by_line : (r : Rule) (s : State) → IsSmall s → h.Before r s → EachOwes h (lines level r) (Reached h r s) s
  pub by_none : (r : Rule) (s : State) → IsSmall s → may_end r ≡ true → h.Before r s → Reached h r s s

-- ---- soundness

pub owes-more : (h : Triples) (k : List Symbol) (P Q : State → Type 0) (s : State) → ((s' : State) → IsSmall s' → P s' → Q s') → IsSmall s → Owes h k P s → Owes h k Q s
owes-more h [] P Q s f m o = f s m o
owes-more h (symbol.Word c ∷ k) P Q s f m o = λ t b a. owes-more h k P Q (record s { last = t }) f m (o t b a)
owes-more h (symbol.Do a ∷ k) P Q s f m o = λ n. owes-more h k P Q (does a s) f n (o n)
owes-more h (symbol.Rule r ∷ k) P Q s f m o = (o.0, λ x n. owes-more h k P Q (h.after r s x) f n (o.1 x n))

pub owes-then : (h : Triples) (j k : List Symbol) (Q : State → Type 0) (s : State) → Owes h j (λ s'. Owes h k Q s') s → Owes h (j ++ k) Q s
owes-then h [] k Q s o = o
owes-then h (symbol.Word c ∷ j) k Q s o = λ t b a. owes-then h j k Q (record s { last = t }) (o t b a)
owes-then h (symbol.Do a ∷ j) k Q s o = λ n. owes-then h j k Q (does a s) (o n)
owes-then h (symbol.Rule r ∷ j) k Q s o = (o.0, λ x n. owes-then h j k Q (h.after r s x) (o.1 x n))

and-first : (a b : Bool) → a && b ≡ true → a ≡ true
and-first true b e = refl
and-first false b e = absurd cc

line-owes : (h : Triples) (level : Level) (ls : List Line) (Q : State → Type 0) (s : State) (t : TextToken) (l : Line) → AreBytes t.text
    → first_line (grammar level) ls s t ≡ Some l → EachOwes h ls Q s → Owes h l.after Q (record s { last = t })
line-owes h level [] Q s t l b e o = absurd cc
line-owes h level (x ∷ ls) Q s t l b e o =
    by_test (is_of x.first t && allows x.first s t)
    (λ y. let a : Some x ≡ Some l = subst (λ (c : Bool). cond {A = Option Line} c (Some x) (first_line (grammar level) ls s t) ≡ Some l) y e in
    let same : x ≡ l = cc in
    subst (λ (z : Line). Owes h z.after Q (record s { last = t })) same (o.0 t b (and-first (is_of x.first t) (allows x.first s t) y)))
    (λ n. line-owes h level ls Q s t l b (subst (λ (c : Bool). cond {A = Option Line} c (Some x) (first_line (grammar level) ls s t) ≡ Some l) n e) o.1)

small-before : (level : Level) (k : List Symbol) (s : State) (ts : List TextToken) (s' : State) → Leads (grammar level) k s ts s' → IsSmall s' → IsSmall s
small-before level k s ts s' d m = let g = leads-grew level k s ts s' d in omega (arith, g.counted, m)

-- where each rule is sound, what is owed is met
pub met : (h : Triples) (level : Level) → AreSound h level → (Q : State → Type 0) (k : List Symbol) (s : State) (ts : List TextToken) (s' : State)
    → Leads (grammar level) k s ts s' → HaveBytes ts → IsSmall s' → Owes h k Q s → Q s'
met h level f Q _ _ _ _ (Leads.ended s) b m o = o
met h level f Q _ _ _ _ (Leads.word c k s t ts s' e d) b m o =
    met h level f Q k (record s { last = t }) ts s' d b.1 m (o t b.0 (and-first (is_of c t) (allows c s t) e))
met h level f Q _ _ _ _ (Leads.act a k s ts s' d) b m o =
    met h level f Q k (does a s) ts s' d b m (o (small-before level k (does a s) ts s' d m))
met h level f Q _ _ _ _ (Leads.line r k s t ts s' l e d) b m o =
    let n = small-before level (l.after ++ k) (record s { last = t }) ts s' d m in
    let w = line-owes h level (lines level r) (Reached h r s) s t l b.0 e (f.by_line r s n o.0) in
    met h level f Q (l.after ++ k) (record s { last = t }) ts s' d b.1 m
    (owes-then h l.after k Q (record s { last = t })
    (owes-more h l.after (Reached h r s) (λ x. Owes h k Q x) (record s { last = t })
    (λ x i w. subst (λ (y : State). Owes h k Q y) w.1 (o.1 w.0 (subst (λ (y : State). IsSmall y) (sym w.1) i))) n w))
met h level f Q _ _ _ _ (Leads.nothing r k s ts s' e n d) b m o =
    let i = small-before level k s ts s' d m in
    let w = f.by_none r s i e o.0 in
    met h level f Q k s ts s' d b m (subst (λ (y : State). Owes h k Q y) w.1 (o.1 w.0 (subst (λ (y : State). IsSmall y) (sym w.1) i)))
