-- Where a number is answered as too wide, another number fits, or an entry ends that has it.
use Rattle.std.proofs.Common.{◌≡◌, ◌⊎◌, inl, inr, ℕ, Bool, true, false, cond, ◌&&◌, List, [], ◌∷◌, ◌++◌, Option, Some, None, is_some, nat_le, nat_lt, ◌+◌, refl, sym, ap, ◌∙◌, subst}
use Rattle.op_table.specs.declared.rows.Level.{Level}
use Rattle.op_table.specs.declared.rows.Level.TheVariants.{Source, Checked, Split, Low}
use Rattle.module_grammar.specs.declared.symbols.Class.{Class}
use Rattle.module_grammar.specs.declared.symbols.Class.TheVariants as class
use Rattle.module_grammar.specs.declared.symbols.Rule.{Rule}
use Rattle.module_grammar.specs.declared.symbols.Rule.TheVariants as rule
use Rattle.module_grammar.specs.declared.symbols.Symbol.{Symbol}
use Rattle.module_grammar.specs.declared.sought.Sought.TheVariants as sought
use Rattle.module_grammar.specs.declared.faults.TextLimits.{TextLimits}
use Rattle.module_grammar.specs.declared.faults.Limited.TheVariants as limited
use Rattle.module_grammar.specs.declared.faults.GrammarFault.{GrammarFault}
use Rattle.module_grammar.specs.declared.faults.GrammarFault.TheVariants as fault
use Rattle.module_grammar.specs.declared.state.TextToken.{TextToken}
use Rattle.module_grammar.specs.declared.state.State.{State}
use Rattle.module_grammar.specs.declared.state.DictEntry.{DictEntry}
use Rattle.module_grammar.specs.declared.state.DictEntry.TheVariants as entry
use Rattle.module_grammar.specs.Engine.{Place, Begins, good_then, line_at}
use Rattle.module_grammar.specs.State.{at_start}
use Rattle.module_grammar.specs.Tokens.{number_of}
use Rattle.module_grammar.specs.Rules.{grammar, lines, is_of, allows}
use Rattle.module_grammar.specs.Endings.{endings, plain_sample}
use Rattle.module_grammar.specs.Texts.{whole}
use Rattle.module_grammar.specs.Faults.{seeks, any_first, fits_first, is_number_class, settled, reached, place_in, open_name_past, counts_held, held_fault, names_fault, fault_or, wide_fault, entry_fault, token_fault, second_fault, fault_there, held_past, is_unknown_op, is_unknown_type, is_wide_number, is_second_name, IsWithin, IsCause, IsUnknown}
use Rattle.module_grammar.proofs.Ends.{and-left, and-right}
use Rattle.module_grammar.proofs.Walks.{names-first-fault}
use Rattle.module_grammar.proofs.Source.{whole-good}
use Rattle.grammar_laws.specs.WideNumbers.{is_number, ends_entry, IsWideEntry, TellsWideNumber}
use Rattle.grammar_laws.proofs.Texts.{text-begins, begins-text}
use Rattle.grammar_laws.proofs.Unknown.{Fits, fits-some, limit-not, second-not, unknown, reached-good}

-- ---- a number that fits

number-line : (level : Level) (r : Rule) (s : State) → any_first (seeks sought.Number) (lines level r) ≡ true
    → is_some (line_at (grammar level) r s (plain_sample class.Number)) ≡ true
unfolding is_of allows number_of
number-line level rule.Literal s e = refl
number-line Source rule.Body s e = absurd cc
number-line Checked rule.Body s e = absurd cc
number-line Split rule.Body s e = absurd cc
number-line Low rule.Body s e = absurd cc
number-line Source rule.Form s e = absurd cc
number-line Checked rule.Form s e = absurd cc
number-line Split rule.Form s e = absurd cc
number-line Low rule.Form s e = absurd cc
number-line level _ s e = absurd cc

number-word : (c : Class) (s : State) → is_number_class c ≡ true
    → (is_number (plain_sample c) ≡ true) × (is_of c (plain_sample c) && allows c s (plain_sample c) ≡ true)
unfolding is_of allows number_of
number-word class.Number s e = (refl, refl)
number-word class.Negated s e = (refl, refl)
number-word _ s e = absurd cc

number-fits : (level : Level) (k : List Symbol) (s : State) → good_then (grammar level) (endings level) k class.End ≡ true
    → fits_first level sought.Number k ≡ true → Fits level is_number k s
number-fits level k s g f =
    fits-some level sought.Number is_number
    (λ r s e. (plain_sample class.Number, refl, number-line level r s e))
    (λ c s u e. let h = number-word c s e in (plain_sample c, h.0, h.1)) k s g f

-- ---- which faults are answered

abbrev tells-wide : GrammarFault → Bool
tells-wide (fault.WideNumber at) = true
tells-wide _ = false

pick-wide : (a b c d : Bool) (x at : ℕ) (second : GrammarFault) → tells-wide second ≡ false
    → cond a (fault.UnknownOp x) (cond b (fault.UnknownType x) (cond c (fault.WideNumber x) (cond d second (fault.Syntax x)))) ≡ fault.WideNumber at
    → (c ≡ true) × (x ≡ at)
pick-wide true b c d x at second n e = absurd cc
pick-wide false true c d x at second n e = absurd cc
pick-wide false false true d x at second n e = (refl, cc)
pick-wide false false false true x at second n e = let a : false ≡ true = sym n ∙ ap tells-wide e in absurd cc
pick-wide false false false false x at second n e = absurd cc

-- the number of an entry, or the token
abbrev IsEither : Bool → Option GrammarFault → GrammarFault → ℕ → Type 0
IsEither held o f at = (o ≡ Some (fault.WideNumber at)) ⊎ (f ≡ fault.WideNumber at)

either-of : (b : Bool) (held : GrammarFault) (o : Option ℕ) (e : Option GrammarFault) (f : GrammarFault) (at : ℕ) → tells-wide held ≡ false
    → cond b held (names_fault o (fault_or e f)) ≡ fault.WideNumber at → IsEither b e f at
either-of true held o e f at h x = let a : false ≡ true = sym h ∙ ap tells-wide x in absurd cc
either-of false held (Some y) e f at h x = absurd cc
either-of false held None (Some g) f at h x = inl (ap (λ (y : GrammarFault). Some y) x)
either-of false held None None f at h x = inr x

held-not : (b : Bool) (x y : ℕ) → tells-wide (cond b (fault.Limit limited.Operations x) (fault.Limit limited.Values y)) ≡ false
held-not true x y = refl
held-not false x y = refl

entry-wide : (e : DictEntry) (at : ℕ) → wide_fault e ≡ Some (fault.WideNumber at) → e ≡ entry.Whole None at
entry-wide (entry.Whole (Some n) x) at e = by (nat_le 4294967296 n) e
  where
    by : (b : Bool) → cond b (Some (fault.Syntax x)) None ≡ Some (fault.WideNumber at) → entry.Whole (Some n) x ≡ entry.Whole None at
    by true f = absurd cc
    by false f = absurd cc
entry-wide (entry.Whole None x) at e = let same : x ≡ at = cc in ap (λ (y : ℕ). entry.Whole None y) same
entry-wide _ at e = absurd cc

entry-of : (b : Bool) (e : DictEntry) (at : ℕ) → cond b (wide_fault e) None ≡ Some (fault.WideNumber at) → (b ≡ true) × (e ≡ entry.Whole None at)
entry-of true e at h = (refl, entry-wide e at h)
entry-of false e at h = absurd cc

-- ---- the law

refused-wide : (limits : TextLimits) (level : Level) (front : List TextToken) (place : Place State) (t : TextToken) (rest : List TextToken) (at : ℕ)
    → reached level whole at_start front ≡ Some place → IsWithin limits place.state → Begins (grammar level) whole at_start front
    → (Begins (grammar level) whole at_start (front ++ t ∷ []) → ⊥) → held_past limits place.left place.state ≡ None
    → fault_there limits level place.left place.state t rest ≡ fault.WideNumber at
    → IsUnknown limits level (front ++ t ∷ rest) at is_number is_number ⊎ IsWideEntry limits level (front ++ t ∷ rest) at
refused-wide limits level front place t rest at r i b refuses n e =
    by (either-of (counts_held level place.left place.state t) (held_fault limits place.state t) (open_name_past limits place.left place.state t)
    (entry_fault level place.left place.state t) (token_fault limits level place.left place.state t rest) at
    (held-not (nat_lt limits.operations (place.state.begun + 1)) (place_in place.state.held 0 t.at) (place_in place.state.held 0 t.at)) e)
  where
    by : IsEither (counts_held level place.left place.state t) (entry_fault level place.left place.state t) (token_fault limits level place.left place.state t rest) at
        → IsUnknown limits level (front ++ t ∷ rest) at is_number is_number ⊎ IsWideEntry limits level (front ++ t ∷ rest) at
    by (inl f) =
        let h = entry-of (fits_first level sought.EntryEnd place.left && ends_entry t) place.state.entry at f in
        inr (record {
          front = front;
          token = t;
          rest = rest;
          parts = refl;
          within = record { place = place; leads = r; within = i; held = n };
          wide = h.1;
          ends = and-right (fits_first level sought.EntryEnd place.left) _ h.0;
          fits = text-begins level front b;
          refused = λ y. refuses (begins-text level (front ++ t ∷ []) y);
        })
    by (inr f) =
        let h = pick-wide (is_unknown_op level place.left t) (is_unknown_type level place.left t) (is_wide_number level place.left t)
        (is_second_name level place.left t) t.at at (second_fault limits level place.left place.state t rest)
        (second-not tells-wide (λ w x. refl) limits level place.left place.state t rest (λ x. refl)) f in
        inl (unknown limits level front place t rest at is_number is_number r i b refuses n h.1
        (and-right (fits_first level sought.Number place.left) _ h.0)
        (number-fits level place.left place.state (reached-good level front whole at_start place (whole-good level) r)
        (and-left (fits_first level sought.Number place.left) _ h.0)))

cause-wide : (limits : TextLimits) (level : Level) (front : List TextToken) (place : Place State) (rest : List TextToken) (f : GrammarFault) (at : ℕ)
    → reached level whole at_start front ≡ Some place → IsWithin limits place.state → Begins (grammar level) whole at_start front
    → IsCause limits level whole at_start front place rest f → f ≡ fault.WideNumber at
    → IsUnknown limits level (front ++ rest) at is_number is_number ⊎ IsWideEntry limits level (front ++ rest) at
cause-wide limits level front place _ _ at r i b (IsCause.refused t rest refuses n) e = refused-wide limits level front place t rest at r i b refuses n e
cause-wide limits level front place _ _ at r i b (IsCause.held t rest x refuses n) e = absurd cc
cause-wide limits level front place _ _ at r i b (IsCause.passed t rest p f c g j) e =
    let a : false ≡ true = sym (limit-not tells-wide (λ w x. refl) limits place.state (settled p.left p.state).state t f j) ∙ ap tells-wide e in absurd cc
cause-wide limits level front place _ _ at r i b (IsCause.cut h) e = absurd cc
cause-wide limits level front place _ _ at r i b (IsCause.passed_last last f g j) e =
    let a : false ≡ true = sym (limit-not tells-wide (λ w x. refl) limits place.state last place.state.last f j) ∙ ap tells-wide e in absurd cc

pub tells-wide-number : TellsWideNumber
tells-wide-number limits level ts at e =
    let h = names-first-fault limits level ts (fault.WideNumber at) e in
    subst (λ (x : List TextToken). IsUnknown limits level x at is_number is_number ⊎ IsWideEntry limits level x at) (sym h.parts)
    (cause-wide limits level h.front h.place h.rest (fault.WideNumber at) at h.leads h.within h.fits h.cause refl)
