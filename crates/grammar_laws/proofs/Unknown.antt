-- Where an unknown operation or type is answered, one that is known fits.
use Rattle.std.proofs.Common.{◌≡◌, ℕ, Bool, true, false, cond, ◌&&◌, ◌||◌, List, [], ◌∷◌, ◌++◌, Option, Some, None, Err, is_some, nat_le, nat_lt, ◌+◌, refl, sym, ap, ◌∙◌, subst}
use Rattle.op_table.specs.declared.kind.OpKind.TheVariants as op
use Rattle.op_table.specs.declared.rows.Level.{Level}
use Rattle.op_table.specs.declared.rows.Level.TheVariants.{Source, Checked, Split, Low}
use Rattle.module_grammar.specs.declared.symbols.Class.{Class}
use Rattle.module_grammar.specs.declared.symbols.Class.TheVariants as class
use Rattle.module_grammar.specs.declared.symbols.Rule.{Rule}
use Rattle.module_grammar.specs.declared.symbols.Rule.TheVariants as rule
use Rattle.module_grammar.specs.declared.symbols.Symbol.{Symbol}
use Rattle.module_grammar.specs.declared.symbols.Symbol.TheVariants as symbol
use Rattle.module_grammar.specs.declared.sought.Sought.{Sought}
use Rattle.module_grammar.specs.declared.sought.Sought.TheVariants as sought
use Rattle.module_grammar.specs.declared.faults.TextLimits.{TextLimits}
use Rattle.module_grammar.specs.declared.faults.Limited.{Limited}
use Rattle.module_grammar.specs.declared.faults.Limited.TheVariants as limited
use Rattle.module_grammar.specs.declared.faults.GrammarFault.{GrammarFault}
use Rattle.module_grammar.specs.declared.faults.GrammarFault.TheVariants as fault
use Rattle.module_grammar.specs.declared.state.TextToken.{TextToken}
use Rattle.module_grammar.specs.declared.state.State.{State}
use Rattle.module_grammar.specs.declared.state.DictEntry.{DictEntry}
use Rattle.module_grammar.specs.declared.state.DictEntry.TheVariants as entry
use Rattle.module_grammar.specs.Engine.{Place, Begins, good_then, line_at, step}
use Rattle.module_grammar.specs.State.{at_start, does, up, with_names}
use Rattle.module_grammar.specs.Rules.{grammar, lines, may_end, is_of, is_byte, allows}
use Rattle.module_grammar.specs.Tokens.{number_of, type_of, memref_type}
use Rattle.module_grammar.specs.Endings.{endings, usable, plain_sample}
use Rattle.module_grammar.specs.Texts.{whole}
use Rattle.module_grammar.specs.Faults.{seeks, any_first, fits_first, begins_type, is_op_class, is_type_class, settled, reached, limit_passed, op_place, value_place, place_in, results_open, values_before, fault_there, held_past, held_fault, names_fault, fault_or, wide_fault, entry_fault, token_fault, second_fault, is_unknown_op, is_unknown_type, is_wide_number, is_second_name, counts_held, open_name_past, IsCause, names_no_op, names_form, begins_no_type, IsWithin, IsUnknown, TellsUnknownType, parsed}
use Rattle.module_grammar.proofs.Runs.{by_test, by_option, begins-before, step-nothing, step-line, step-word}
use Rattle.module_grammar.proofs.Ends.{and-left, and-right, step-keeps, completes}
use Rattle.module_grammar.proofs.Source.{can-end, whole-good}
use Rattle.grammar_laws.proofs.Texts.{text-begins, begins-text}
use Rattle.module_grammar.proofs.Walks.{settle-good, begins-on, names-first-fault}

-- ---- a token that fits

is-some : {A : Type 0} (o : Option A) (a : A) → o ≡ Some a → is_some o ≡ true
is-some o a e = ap is_some e

-- a token with the property fits here
abbrev pub Fits : Level → (TextToken → Bool) → List Symbol → State → Type 0
Fits level test k s = (t : TextToken) × (test t ≡ true) × (is_some (step (grammar level) k s t) ≡ true)

pub after-line : (level : Level) (r : Rule) (k : List Symbol) (s : State) (t : TextToken)
    → is_some (line_at (grammar level) r s t) ≡ true → is_some (step (grammar level) (symbol.Rule r ∷ k) s t) ≡ true
after-line level r k s t h =
    by_option (line_at (grammar level) r s t)
    (λ l e. is-some (step (grammar level) (symbol.Rule r ∷ k) s t) _ (step-line (grammar level) r k s t l e))
    (λ e. let a : false ≡ true = sym (ap is_some e) ∙ h in absurd cc)

after-rule : (level : Level) (r : Rule) (k : List Symbol) (s : State) (t : TextToken) → may_end r ≡ true
    → is_some (step (grammar level) k s t) ≡ true → is_some (step (grammar level) (symbol.Rule r ∷ k) s t) ≡ true
after-rule level r k s t m h =
    by_option (line_at (grammar level) r s t)
    (λ l e. is-some (step (grammar level) (symbol.Rule r ∷ k) s t) _ (step-line (grammar level) r k s t l e))
    (λ e. ap is_some (step-nothing (grammar level) r k s t m e) ∙ h)

after-word : (level : Level) (c : Class) (k : List Symbol) (s : State) (t : TextToken) → is_of c t && allows c s t ≡ true
    → is_some (step (grammar level) (symbol.Word c ∷ k) s t) ≡ true
after-word level c k s t h = is-some (step (grammar level) (symbol.Word c ∷ k) s t) _ (step-word (grammar level) c k s t h)

-- where lines and words that are sought have a token with the property, one fits where such a word fits first
pub fits-some : (level : Level) (w : Sought) (test : TextToken → Bool)
    → ((r : Rule) (s : State) → any_first (seeks w) (lines level r) ≡ true
    → (t : TextToken) × (test t ≡ true) × (is_some (line_at (grammar level) r s t) ≡ true))
    → ((c : Class) (s : State) → usable c ≡ true → seeks w c ≡ true → (t : TextToken) × (test t ≡ true) × (is_of c t && allows c s t ≡ true))
    → (k : List Symbol) (s : State) → good_then (grammar level) (endings level) k class.End ≡ true
    → fits_first level w k ≡ true → Fits level test k s
fits-some level w test in_lines in_words [] s g f = absurd cc
fits-some level w test in_lines in_words (symbol.Word c ∷ k) s g f =
    let x = in_words c s (and-left (usable c) _ g) f in (x.0, x.1, after-word level c k s x.0 x.2)
fits-some level w test in_lines in_words (symbol.Do a ∷ k) s g f = fits-some level w test in_lines in_words k (does a s) g f
fits-some level w test in_lines in_words (symbol.Rule r ∷ k) s g f =
    by_test (any_first (seeks w) (lines level r))
    (λ y. let x = in_lines r s y in (x.0, x.1, after-line level r k s x.0 x.2))
    (λ n. let h : may_end r && fits_first level w k ≡ true = subst (λ (b : Bool). b || (may_end r && fits_first level w k) ≡ true) n f in
    let x = fits-some level w test in_lines in_words k s (and-right ((endings level).follows r _) _ g) (and-right (may_end r) _ h) in
    (x.0, x.1, after-rule level r k s x.0 (and-left (may_end r) _ h) x.2))

-- ---- operations

abbrev op_token : TextToken
op_token = plain_sample (class.OpName op.ArithAddi)

op-line : (level : Level) (r : Rule) (s : State) → any_first (seeks sought.Op) (lines level r) ≡ true
    → is_some (line_at (grammar level) r s op_token) ≡ true
unfolding is_of allows
op-line Source rule.Body s e = refl
op-line Checked rule.Body s e = refl
op-line Split rule.Body s e = refl
op-line Low rule.Body s e = refl
op-line Source rule.Form s e = refl
op-line Checked rule.Form s e = refl
op-line Split rule.Form s e = refl
op-line Low rule.Form s e = refl
op-line level _ s e = absurd cc

op-word : (c : Class) → is_op_class c ≡ true → usable c ≡ true → ⊥
op-word (class.OpName k) e u = absurd cc
op-word _ e u = absurd cc

op-named : (level : Level) → names_form level op_token ≡ true
op-named Source = refl
op-named Checked = refl
op-named Split = refl
op-named Low = refl

op-fits : (level : Level) (k : List Symbol) (s : State) → good_then (grammar level) (endings level) k class.End ≡ true
    → fits_first level sought.Op k ≡ true → Fits level (names_form level) k s
op-fits level k s g f =
    fits-some level sought.Op (names_form level)
    (λ r s e. (op_token, op-named level, op-line level r s e))
    (λ c s u e. absurd (op-word c e u)) k s g f

-- ---- types

type-line : (level : Level) (r : Rule) (s : State) → any_first (seeks sought.Type) (lines level r) ≡ true
    → is_some (line_at (grammar level) r s (plain_sample class.PlainType)) ≡ true
unfolding is_of allows number_of type_of
type-line level rule.Type s e = refl
type-line level rule.Types s e = refl
type-line level rule.ResultTypes s e = refl
type-line level rule.AfterHeldColon s e = refl
type-line level rule.BranchTypes s e = refl
type-line level rule.BranchTypeList s e = refl
type-line Source rule.Body s e = absurd cc
type-line Checked rule.Body s e = absurd cc
type-line Split rule.Body s e = absurd cc
type-line Low rule.Body s e = absurd cc
type-line Source rule.Form s e = absurd cc
type-line Checked rule.Form s e = absurd cc
type-line Split rule.Form s e = absurd cc
type-line Low rule.Form s e = absurd cc
type-line level _ s e = absurd cc

type-word : (c : Class) (s : State) → is_type_class c ≡ true
    → (begins_type (plain_sample c) ≡ true) × (is_of c (plain_sample c) && allows c s (plain_sample c) ≡ true)
unfolding is_of allows type_of memref_type
type-word class.PlainType s e = (refl, refl)
type-word class.ValueType s e = (refl, refl)
type-word class.Payload s e = (refl, refl)
type-word class.MemrefType s e = (refl, refl)
type-word class.GroupType s e = (refl, refl)
type-word class.TruthType s e = (refl, refl)
type-word _ s e = absurd cc

type-fits : (level : Level) (k : List Symbol) (s : State) → good_then (grammar level) (endings level) k class.End ≡ true
    → fits_first level sought.Type k ≡ true → Fits level begins_type k s
type-fits level k s g f =
    fits-some level sought.Type begins_type
    (λ r s e. (plain_sample class.PlainType, (type-word class.PlainType s refl).0, type-line level r s e))
    (λ c s u e. let h = type-word c s e in (plain_sample c, h.0, h.1)) k s g f

-- ---- the place that tokens reach

pub reached-some : (level : Level) (k : List Symbol) (s : State) (u : TextToken) (front : List TextToken) (p q : Place State)
    → step (grammar level) k s u ≡ Some p → reached level k s (u ∷ front) ≡ Some q
    → reached level (settled p.left p.state).left (settled p.left p.state).state front ≡ Some q
reached-some level k s u front p q f e = sym (rw (f, reached) refl) ∙ e

pub reached-none : {X : Type 0} (level : Level) (k : List Symbol) (s : State) (u : TextToken) (front : List TextToken) (q : Place State)
    → step (grammar level) k s u ≡ None → reached level k s (u ∷ front) ≡ Some q → X
reached-none level k s u front q f e = let a : None ≡ Some q = sym (rw (f, reached) refl) ∙ e in absurd cc

step-good : (level : Level) (k : List Symbol) (s : State) (u : TextToken) (p : Place State)
    → good_then (grammar level) (endings level) k class.End ≡ true → step (grammar level) k s u ≡ Some p
    → good_then (grammar level) (endings level) (settled p.left p.state).left class.End ≡ true
step-good level k s u p g f = settle-good level p.left p.state (step-keeps (grammar level) (endings level) (can-end level) class.End k s u p g f)

pub reached-good : (level : Level) (front : List TextToken) (k : List Symbol) (s : State) (q : Place State)
    → good_then (grammar level) (endings level) k class.End ≡ true → reached level k s front ≡ Some q
    → good_then (grammar level) (endings level) q.left class.End ≡ true
reached-good level [] k s q g e =
    let same : record { left = k; state = s } ≡ q = cc in
    subst (λ (x : Place State). good_then (grammar level) (endings level) x.left class.End ≡ true) same g
reached-good level (u ∷ front) k s q g e =
    by_option (step (grammar level) k s u)
    (λ p f. reached-good level front (settled p.left p.state).left (settled p.left p.state).state q (step-good level k s u p g f)
    (reached-some level k s u front p q f e))
    (λ f. reached-none level k s u front q f e)

begins-here : (level : Level) (k : List Symbol) (s : State) (t : TextToken) → good_then (grammar level) (endings level) k class.End ≡ true
    → is_some (step (grammar level) k s t) ≡ true → Begins (grammar level) k s (t ∷ [])
begins-here level k s t g h =
    by_option (step (grammar level) k s t)
    (λ p f. begins-before (grammar level) k s t [] p f
    (completes (grammar level) (endings level) (can-end level) class.End p.left p.state
    (step-keeps (grammar level) (endings level) (can-end level) class.End k s t p g f)))
    (λ f. let a : false ≡ true = sym (ap is_some f) ∙ h in absurd cc)

pub begins-there : (level : Level) (front : List TextToken) (k : List Symbol) (s : State) (q : Place State) (t : TextToken)
    → good_then (grammar level) (endings level) k class.End ≡ true → reached level k s front ≡ Some q
    → is_some (step (grammar level) q.left q.state t) ≡ true → Begins (grammar level) k s (front ++ t ∷ [])
begins-there level [] k s q t g e h =
    let same : q ≡ record { left = k; state = s } = cc in
    begins-here level k s t g (subst (λ (x : Place State). is_some (step (grammar level) x.left x.state t) ≡ true) same h)
begins-there level (u ∷ front) k s q t g e h =
    by_option (step (grammar level) k s u)
    (λ p f. begins-on level k s u (front ++ t ∷ []) p f
    (begins-there level front (settled p.left p.state).left (settled p.left p.state).state q t (step-good level k s u p g f)
    (reached-some level k s u front p q f e) h))
    (λ f. reached-none level k s u front q f e)

-- ---- which faults are answered

-- the fault is of an unknown operation, or of an unknown type
abbrev tells-op : GrammarFault → Bool
tells-op (fault.UnknownOp at) = true
tells-op _ = false

abbrev tells-type : GrammarFault → Bool
tells-type (fault.UnknownType at) = true
tells-type _ = false

module _ (tells : GrammarFault → Bool) where
  neither : (b : Bool) (f g : GrammarFault) → tells f ≡ false → tells g ≡ false → tells (cond b f g) ≡ false
  neither true f g h i = h
  neither false f g h i = i

  some-or : (b : Bool) (g : GrammarFault) (o : Option GrammarFault) → tells g ≡ false → ((f : GrammarFault) → o ≡ Some f → tells f ≡ false)
      → (f : GrammarFault) → cond b (Some g) o ≡ Some f → tells f ≡ false
  some-or true g o h k f e = let same : g ≡ f = cc in subst (λ (x : GrammarFault). tells x ≡ false) same h
  some-or false g o h k f e = k f e

  none : (f : GrammarFault) → None ≡ Some f → tells f ≡ false
  none f e = absurd cc

-- `tells` is a test that holds of no limit and of no wrong syntax
module _ (tells : GrammarFault → Bool) (no_limit : (w : Limited) (at : ℕ) → tells (fault.Limit w at) ≡ false) where
  pub limit-not : (limits : TextLimits) (s now : State) (t : TextToken) (f : GrammarFault) → limit_passed limits s now t ≡ Some f → tells f ≡ false
  limit-not limits s now t =
      some-or tells (nat_lt limits.operations now.begun) (fault.Limit limited.Operations (op_place s t)) _ (no_limit limited.Operations (op_place s t))
      (some-or tells (nat_lt limits.functions now.functions) (fault.Limit limited.Functions t.at) _ (no_limit limited.Functions t.at)
      (some-or tells (nat_lt limits.depth now.deepest) (fault.Limit limited.Depth t.at) _ (no_limit limited.Depth t.at)
      (some-or tells (nat_lt limits.values now.counted) (fault.Limit limited.Values (value_place limits.values s t)) None
      (no_limit limited.Values (value_place limits.values s t)) (none tells))))

  pub second-not : (limits : TextLimits) (level : Level) (k : List Symbol) (s : State) (t : TextToken) (ts : List TextToken)
      → ((at : ℕ) → tells (fault.Syntax at) ≡ false) → tells (second_fault limits level k s t ts) ≡ false
  second-not limits level k s t ts no_syntax =
      neither tells (fits_first level sought.Op k && nat_lt limits.operations (s.begun + 1)) (fault.Limit limited.Operations t.at) _
      (no_limit limited.Operations t.at)
      (neither tells (nat_lt limits.values (up (with_names s.counted (results_open k s)) (cond (fits_first level sought.Op k) (values_before ts) 1)))
      (fault.Limit limited.Values t.at) (fault.Syntax t.at) (no_limit limited.Values t.at) (no_syntax t.at))

-- `tells` is a test that holds of no fault but of unknown operations or types
module _ (tells : GrammarFault → Bool) (no_limit : (w : Limited) (at : ℕ) → tells (fault.Limit w at) ≡ false)
    (no_syntax : (at : ℕ) → tells (fault.Syntax at) ≡ false) (no_number : (at : ℕ) → tells (fault.WideNumber at) ≡ false) where
  wide-not : (e : DictEntry) (f : GrammarFault) → wide_fault e ≡ Some f → tells f ≡ false
  wide-not (entry.Whole (Some n) at) f e = some-or tells (nat_le 4294967296 n) (fault.Syntax at) None (no_syntax at) (none tells) f e
  wide-not (entry.Whole None at) f e = some-or tells true (fault.WideNumber at) None (no_number at) (none tells) f e
  wide-not _ f e = absurd cc

  entry-not : (b : Bool) (e : DictEntry) (f : GrammarFault) → cond b (wide_fault e) None ≡ Some f → tells f ≡ false
  entry-not true e f h = wide-not e f h
  entry-not false e f h = absurd cc

  rest-of : (b : Bool) (held : GrammarFault) (o : Option ℕ) (e : Option GrammarFault) (f : GrammarFault) → tells held ≡ false
      → ((g : GrammarFault) → e ≡ Some g → tells g ≡ false)
      → tells (cond b held (names_fault o (fault_or e f))) ≡ true → cond b held (names_fault o (fault_or e f)) ≡ f
  rest-of true held o e f h k x = let a : false ≡ true = sym h ∙ x in absurd cc
  rest-of false held (Some at) e f h k x = let a : false ≡ true = sym (no_limit limited.Values at) ∙ x in absurd cc
  rest-of false held None (Some g) f h k x = let a : false ≡ true = sym (k g refl) ∙ x in absurd cc
  rest-of false held None None f h k x = refl

  fault-is : (limits : TextLimits) (level : Level) (k : List Symbol) (s : State) (t : TextToken) (ts : List TextToken)
      → tells (fault_there limits level k s t ts) ≡ true → fault_there limits level k s t ts ≡ token_fault limits level k s t ts
  fault-is limits level k s t ts =
      rest-of (counts_held level k s t) (held_fault limits s t) (open_name_past limits k s t) (entry_fault level k s t) (token_fault limits level k s t ts)
      (neither tells (nat_lt limits.operations (s.begun + 1)) (fault.Limit limited.Operations (place_in s.held 0 t.at))
      (fault.Limit limited.Values (place_in s.held 0 t.at)) (no_limit limited.Operations (place_in s.held 0 t.at))
      (no_limit limited.Values (place_in s.held 0 t.at)))
      (entry-not (fits_first level sought.EntryEnd k && (is_byte 44 t.kind || is_byte 125 t.kind)) s.entry)

pick-op : (a b c d : Bool) (x at : ℕ) (second : GrammarFault) → tells-op second ≡ false
    → cond a (fault.UnknownOp x) (cond b (fault.UnknownType x) (cond c (fault.WideNumber x) (cond d second (fault.Syntax x)))) ≡ fault.UnknownOp at
    → (a ≡ true) × (x ≡ at)
pick-op true b c d x at second n e = (refl, cc)
pick-op false true c d x at second n e = absurd cc
pick-op false false true d x at second n e = absurd cc
pick-op false false false true x at second n e = let a : false ≡ true = sym n ∙ ap tells-op e in absurd cc
pick-op false false false false x at second n e = absurd cc

pick-type : (a b c d : Bool) (x at : ℕ) (second : GrammarFault) → tells-type second ≡ false
    → cond a (fault.UnknownOp x) (cond b (fault.UnknownType x) (cond c (fault.WideNumber x) (cond d second (fault.Syntax x)))) ≡ fault.UnknownType at
    → (b ≡ true) × (x ≡ at)
pick-type true b c d x at second n e = absurd cc
pick-type false true c d x at second n e = (refl, cc)
pick-type false false true d x at second n e = absurd cc
pick-type false false false true x at second n e = let a : false ≡ true = sym n ∙ ap tells-type e in absurd cc
pick-type false false false false x at second n e = absurd cc

refused-op : (limits : TextLimits) (level : Level) (k : List Symbol) (s : State) (t : TextToken) (ts : List TextToken) (at : ℕ)
    → fault_there limits level k s t ts ≡ fault.UnknownOp at → (is_unknown_op level k t ≡ true) × (t.at ≡ at)
refused-op limits level k s t ts at e =
    let h = fault-is tells-op (λ w x. refl) (λ x. refl) (λ x. refl) limits level k s t ts (ap tells-op e) in
    pick-op (is_unknown_op level k t) (is_unknown_type level k t) (is_wide_number level k t) (is_second_name level k t) t.at at
    (second_fault limits level k s t ts) (second-not tells-op (λ w x. refl) limits level k s t ts (λ x. refl)) (sym h ∙ e)

refused-type : (limits : TextLimits) (level : Level) (k : List Symbol) (s : State) (t : TextToken) (ts : List TextToken) (at : ℕ)
    → fault_there limits level k s t ts ≡ fault.UnknownType at → (is_unknown_type level k t ≡ true) × (t.at ≡ at)
refused-type limits level k s t ts at e =
    let h = fault-is tells-type (λ w x. refl) (λ x. refl) (λ x. refl) limits level k s t ts (ap tells-type e) in
    pick-type (is_unknown_op level k t) (is_unknown_type level k t) (is_wide_number level k t) (is_second_name level k t) t.at at
    (second_fault limits level k s t ts) (second-not tells-type (λ w x. refl) limits level k s t ts (λ x. refl)) (sym h ∙ e)

-- ---- the laws

and-parts : (a b c : Bool) → (a && b && c) ≡ true → (a ≡ true) × ((b && c) ≡ true)
and-parts true true true e = (refl, refl)
and-parts true true false e = absurd cc
and-parts true false c e = absurd cc
and-parts false b c e = absurd cc

pub unknown : (limits : TextLimits) (level : Level) (front : List TextToken) (place : Place State) (t : TextToken) (rest : List TextToken) (at : ℕ) (wrong right : TextToken → Bool)
    → reached level whole at_start front ≡ Some place → IsWithin limits place.state → Begins (grammar level) whole at_start front
    → (Begins (grammar level) whole at_start (front ++ t ∷ []) → ⊥) → held_past limits place.left place.state ≡ None → t.at ≡ at → wrong t ≡ true
    → Fits level right place.left place.state → IsUnknown limits level (front ++ t ∷ rest) at wrong right
unknown limits level front place t rest at wrong right r i b refuses n h w x = record {
  front = front;
  token = t;
  rest = rest;
  parts = refl;
  here = h;
  is_wrong = w;
  within = record { place = place; leads = r; within = i; held = n };
  fits = text-begins level front b;
  refused = λ y. refuses (begins-text level (front ++ t ∷ []) y);
  other = x.0;
  is_right = x.1;
  goes_on = text-begins level (front ++ x.0 ∷ []) (begins-there level front whole at_start place x.0 (whole-good level) r x.2);
}

cause-op : (limits : TextLimits) (level : Level) (front : List TextToken) (place : Place State) (rest : List TextToken) (f : GrammarFault) (at : ℕ)
    → reached level whole at_start front ≡ Some place → IsWithin limits place.state → Begins (grammar level) whole at_start front
    → IsCause limits level whole at_start front place rest f → f ≡ fault.UnknownOp at
    → IsUnknown limits level (front ++ rest) at (names_no_op level) (names_form level)
cause-op limits level front place _ _ at r i b (IsCause.refused t rest refuses n) e =
    let u = refused-op limits level place.left place.state t rest at e in
    let p = and-parts (fits_first level sought.Op place.left) _ _ u.0 in
    unknown limits level front place t rest at (names_no_op level) (names_form level) r i b refuses n u.1 p.1
    (op-fits level place.left place.state (reached-good level front whole at_start place (whole-good level) r) p.0)
cause-op limits level front place _ _ at r i b (IsCause.passed t rest p f c g j) e =
    let a : false ≡ true = sym (limit-not tells-op (λ w x. refl) limits place.state (settled p.left p.state).state t f j) ∙ ap tells-op e in absurd cc
cause-op limits level front place _ _ at r i b (IsCause.held t rest x refuses n) e = absurd cc
cause-op limits level front place _ _ at r i b (IsCause.cut h) e = absurd cc
cause-op limits level front place _ _ at r i b (IsCause.passed_last last f g j) e =
    let a : false ≡ true = sym (limit-not tells-op (λ w x. refl) limits place.state last place.state.last f j) ∙ ap tells-op e in absurd cc

cause-type : (limits : TextLimits) (level : Level) (front : List TextToken) (place : Place State) (rest : List TextToken) (f : GrammarFault) (at : ℕ)
    → reached level whole at_start front ≡ Some place → IsWithin limits place.state → Begins (grammar level) whole at_start front
    → IsCause limits level whole at_start front place rest f → f ≡ fault.UnknownType at
    → IsUnknown limits level (front ++ rest) at begins_no_type begins_type
cause-type limits level front place _ _ at r i b (IsCause.refused t rest refuses n) e =
    let u = refused-type limits level place.left place.state t rest at e in
    unknown limits level front place t rest at begins_no_type begins_type r i b refuses n u.1 (and-right (fits_first level sought.Type place.left) _ u.0)
    (type-fits level place.left place.state (reached-good level front whole at_start place (whole-good level) r)
    (and-left (fits_first level sought.Type place.left) _ u.0))
cause-type limits level front place _ _ at r i b (IsCause.passed t rest p f c g j) e =
    let a : false ≡ true = sym (limit-not tells-type (λ w x. refl) limits place.state (settled p.left p.state).state t f j) ∙ ap tells-type e in absurd cc
cause-type limits level front place _ _ at r i b (IsCause.held t rest x refuses n) e = absurd cc
cause-type limits level front place _ _ at r i b (IsCause.cut h) e = absurd cc
cause-type limits level front place _ _ at r i b (IsCause.passed_last last f g j) e =
    let a : false ≡ true = sym (limit-not tells-type (λ w x. refl) limits place.state last place.state.last f j) ∙ ap tells-type e in absurd cc

pub told-unknown-op : (limits : TextLimits) (level : Level) (ts : List TextToken) (at : ℕ)
    → parsed limits level ts ≡ Err (fault.UnknownOp at) → IsUnknown limits level ts at (names_no_op level) (names_form level)
told-unknown-op limits level ts at e =
    let h = names-first-fault limits level ts (fault.UnknownOp at) e in
    subst (λ (x : List TextToken). IsUnknown limits level x at (names_no_op level) (names_form level)) (sym h.parts)
    (cause-op limits level h.front h.place h.rest (fault.UnknownOp at) at h.leads h.within h.fits h.cause refl)

pub tells-unknown-type : TellsUnknownType
tells-unknown-type limits level ts at e =
    let h = names-first-fault limits level ts (fault.UnknownType at) e in
    subst (λ (x : List TextToken). IsUnknown limits level x at begins_no_type begins_type) (sym h.parts)
    (cause-type limits level h.front h.place h.rest (fault.UnknownType at) at h.leads h.within h.fits h.cause refl)
