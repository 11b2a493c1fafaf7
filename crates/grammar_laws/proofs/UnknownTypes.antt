-- A number is answered as an unknown type where a token that begins a type fits, but not each name, and no number.
use Rattle.std.proofs.Common.{◌≡◌, ℕ, Bool, true, false, cond, ◌&&◌, ◌-◌, List, [], ◌∷◌, ◌++◌, None, Err, is_some, refl, sym, ap, ◌∙◌, subst}
use Rattle.op_table.specs.declared.rows.Level.{Level}
use Rattle.op_table.specs.declared.rows.Level.TheVariants.{Source, Checked, Split, Low}
use Rattle.module_grammar.specs.declared.symbols.Class.{Class}
use Rattle.module_grammar.specs.declared.symbols.Class.TheVariants as class
use Rattle.module_grammar.specs.declared.symbols.Rule.{Rule}
use Rattle.module_grammar.specs.declared.symbols.Rule.TheVariants as rule
use Rattle.module_grammar.specs.declared.symbols.Symbol.{Symbol}
use Rattle.module_grammar.specs.declared.symbols.Symbol.TheVariants as symbol
use Rattle.module_grammar.specs.declared.sought.Sought.TheVariants as sought
use Rattle.module_grammar.specs.declared.faults.TextLimits.{TextLimits}
use Rattle.module_grammar.specs.declared.faults.GrammarFault.TheVariants as fault
use Rattle.module_grammar.specs.declared.state.TextToken.{TextToken}
use Rattle.module_grammar.specs.declared.state.State.{State}
use Rattle.module_grammar.specs.Engine.{line_at, step}
use Rattle.module_grammar.specs.State.{at_start}
use Rattle.module_grammar.specs.Rules.{grammar, lines, may_end, is_of, allows, is_one, are_new}
use Rattle.module_grammar.specs.Tokens.{is_number_kind, number_of, type_of}
use Rattle.module_grammar.specs.Endings.{usable, plain_sample, follow, is_among, start}
use Rattle.module_grammar.specs.Texts.{whole}
use Rattle.module_grammar.specs.Faults.{seeks, any_first, fits_first, names_open, results_open, counts_values, name_past, open_name_past, counts_held, held_fault, entry_fault, token_fault, parsed}
use Rattle.module_grammar.proofs.Runs.{by_test}
use Rattle.module_grammar.proofs.Ends.{and-left, and-right, and-both}
use Rattle.module_grammar.proofs.Source.{whole-good}
use Rattle.grammar_laws.specs.UnknownTypes.{FindsUnknownTypeAtNumber}
use Rattle.grammar_laws.proofs.Texts.{text-begins, begins-text}
use Rattle.grammar_laws.proofs.Unknown.{after-line, reached-good, begins-there}
use Rattle.grammar_laws.proofs.Fitting.{step-sought}
use Rattle.grammar_laws.proofs.TokenClasses.{type-class}
use Rattle.grammar_laws.proofs.Exact.{either, first, IsGood, first-sought, begins_still, reached-still, refused-there, taken-there, type-names, type-ops, type-entries, and-right-false, first-of-three, not-both, no-entry, told, type-told, parsed-there}

abbrev number_token : TextToken
number_token = plain_sample class.HeldNumber

-- ---- where the number of a held name's values fits

abbrev is_plain_type : Class → Bool
is_plain_type class.PlainType = true
is_plain_type _ = false

plain-type : (c : Class) → is_plain_type c ≡ true → c ≡ class.PlainType
plain-type class.PlainType e = refl
plain-type _ e = absurd cc

follows-none : (ds : List Class) → is_among class.PlainType ds ≡ false
follows-none [] = refl
follows-none (d ∷ ds) = follows-none ds

held-words : (c : Class) → usable c ≡ true → seeks sought.HeldNumber c ≡ true → is_plain_type c ≡ true
held-words class.HeldNumber u e = absurd cc
held-words _ u e = absurd cc

held-rules : (level : Level) (r : Rule) → any_first (seeks sought.HeldNumber) (lines level r) ≡ true → (c : Class) → is_among c (follow r) ≡ true
    → is_plain_type (cond (may_end r) c (start level r).first) ≡ true
unfolding is_of allows number_of type_of
held-rules level rule.AfterHeldColon e c h = refl
held-rules Source rule.Body e c h = absurd cc
held-rules Checked rule.Body e c h = absurd cc
held-rules Split rule.Body e c h = absurd cc
held-rules Low rule.Body e c h = absurd cc
held-rules Source rule.Form e c h = absurd cc
held-rules Checked rule.Form e c h = absurd cc
held-rules Split rule.Form e c h = absurd cc
held-rules Low rule.Form e c h = absurd cc
held-rules level _ e c h = absurd cc

held-line : (level : Level) (r : Rule) (s : State) → any_first (seeks sought.HeldNumber) (lines level r) ≡ true
    → is_one s.held && are_new s s.held ≡ true → is_some (line_at (grammar level) r s number_token) ≡ true
unfolding is_of allows number_of
held-line level rule.AfterHeldColon s e h = rw h refl
held-line Source rule.Body s e h = absurd cc
held-line Checked rule.Body s e h = absurd cc
held-line Split rule.Body s e h = absurd cc
held-line Low rule.Body s e h = absurd cc
held-line Source rule.Form s e h = absurd cc
held-line Checked rule.Form s e h = absurd cc
held-line Split rule.Form s e h = absurd cc
held-line Low rule.Form s e h = absurd cc
held-line level _ s e h = absurd cc

held-fits : (level : Level) (k : List Symbol) (s : State) → IsGood level k → begins_still k ≡ true → fits_first level sought.HeldNumber k ≡ true
    → is_one s.held && are_new s s.held ≡ true → is_some (step (grammar level) k s number_token) ≡ true
held-fits level [] s g b f h = absurd cc
held-fits level (symbol.Do a ∷ k) s g b f h = absurd cc
held-fits level (symbol.Word c ∷ k) s g b f h =
    let p = plain-type c (held-words c (and-left (usable c) _ g) f) in
    let a : seeks sought.HeldNumber class.PlainType ≡ true = subst (λ (x : Class). seeks sought.HeldNumber x ≡ true) p f in absurd cc
held-fits level (symbol.Rule r ∷ k) s g b f h =
    by_test (any_first (seeks sought.HeldNumber) (lines level r))
    (λ y. after-line level r k s number_token (held-line level r s y h))
    (λ n. let e = either (any_first (seeks sought.HeldNumber) (lines level r)) (may_end r && fits_first level sought.HeldNumber k) f n in
    let p = plain-type (first level k)
    (first-sought level sought.HeldNumber is_plain_type held-words (held-rules level) k (and-right (is_among (first level k) (follow r)) _ g) (and-right (may_end r) _ e)) in
    let a : is_among class.PlainType (follow r) ≡ true = subst (λ (x : Class). is_among x (follow r) ≡ true) p (and-left _ _ g) in
    let c : false ≡ true = sym (follows-none (follow r)) ∙ a in absurd cc)

-- ---- the fault that is answered there

two-of-four : (a b c d : Bool) → (a && b && c && d) ≡ true → (a ≡ true) × ((c && d) ≡ true)
two-of-four true true c d e = (refl, e)
two-of-four true false c d e = absurd cc
two-of-four false b c d e = absurd cc

no-values : (level : Level) (k : List Symbol) → fits_first level sought.Type k ≡ true → counts_values k ≡ false
no-values level (symbol.Word class.Number ∷ k) f = absurd cc
no-values level (symbol.Word _ ∷ k) f = refl
no-values level (symbol.Rule r ∷ k) f = refl
no-values level (symbol.Do a ∷ k) f = refl
no-values level [] f = refl

no-open : (limits : TextLimits) (level : Level) (k : List Symbol) (s : State) (t : TextToken) → fits_first level sought.Type k ≡ true
    → names_open k ≡ false → open_name_past limits k s t ≡ None
no-open limits level k s t f o =
    let e : results_open k s ≡ [] = rw o refl in
    let g : name_past (results_open k s) (limits.values - s.counted) ≡ None = rw e refl in
    let h : counts_values k && is_number_kind t.kind ≡ false = and-right-false (counts_values k) (is_number_kind t.kind) (no-values level k f) in
    rw g (rw h refl)

pub finds-unknown-type-at-number : FindsUnknownTypeAtNumber
finds-unknown-type-at-number limits level ts at u number none x x_named x_refused =
    let q = u.within.place in
    let r = u.within.leads in
    let good = reached-good level u.front whole at_start q (whole-good level) r in
    let still = reached-still level u.front whole at_start q refl r in
    let refuses = refused-there level u.front q u.token r (λ b. u.refused (text-begins level (u.front ++ u.token ∷ []) b)) in
    let takes = taken-there level u.front whole at_start q u.other r (begins-text level (u.front ++ u.other ∷ []) u.goes_on) in
    let x_refuses = refused-there level u.front q x r (λ b. x_refused (text-begins level (u.front ++ x ∷ []) b)) in
    let fits = step-sought level sought.Type u.other x (type-class u.other x u.is_right x_named) q.left q.state takes.0 takes.1 x_refuses in
    let held = not-both (counts_held level q.left q.state u.token) (λ y.
    let z = two-of-four (fits_first level sought.HeldNumber q.left) (is_number_kind u.token.kind) (is_one q.state.held) (are_new q.state q.state.held) y in
    none number_token refl (text-begins level (u.front ++ number_token ∷ [])
    (begins-there level u.front whole at_start q number_token (whole-good level) r (held-fits level q.left q.state good still z.0 z.1)))) in
    subst (λ (y : List TextToken). parsed limits level y ≡ Err (fault.UnknownType at)) (sym u.parts)
    (parsed-there limits level u.front q u.token u.rest (fault.UnknownType at) r u.within.within u.within.held refuses
    (told (counts_held level q.left q.state u.token) (held_fault limits q.state u.token) (open_name_past limits q.left q.state u.token)
    (entry_fault level q.left q.state u.token) (token_fault limits level q.left q.state u.token u.rest) held
    (no-open limits level q.left q.state u.token fits (type-names level q.left good still fits))
    (no-entry level q.left q.state u.token (and-right-false (fits_first level sought.EntryEnd q.left) _ (type-entries level q.left good fits)))
    ∙ type-told limits level q.left q.state u.token u.rest (first-of-three (fits_first level sought.Op q.left) _ _ (type-ops level q.left good fits))
    (and-both _ _ fits u.is_wrong)
    ∙ ap (λ (y : ℕ). fault.UnknownType y) u.here))
