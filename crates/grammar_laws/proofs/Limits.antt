-- Where a limit is answered, what was read passes it, and so does every text that goes on there.
use Rattle.std.proofs.Common.{◌≡◌, ◌≤◌, ◌<◌, ℕ, Bool, true, false, cond, List, [], ◌∷◌, ◌++◌, Option, Some, None, Ok, nat_lt, refl, sym, ap, ◌∙◌, subst, arith}
use Rattle.std.proofs.lemmas.Bool.{ltb-true}
use Rattle.op_table.specs.declared.rows.Level.{Level}
use Rattle.module_grammar.specs.declared.symbols.Symbol.{Symbol}
use Rattle.module_grammar.specs.declared.faults.TextLimits.{TextLimits}
use Rattle.module_grammar.specs.declared.faults.Limited.{Limited}
use Rattle.module_grammar.specs.declared.faults.Limited.TheVariants as limited
use Rattle.module_grammar.specs.declared.faults.GrammarFault.{GrammarFault}
use Rattle.module_grammar.specs.declared.faults.GrammarFault.TheVariants as fault
use Rattle.module_grammar.specs.declared.state.TextToken.{TextToken}
use Rattle.module_grammar.specs.declared.state.State.{State}
use Rattle.module_grammar.specs.Engine.{Place, Leads, Begins, step, close, closed}
use Rattle.module_grammar.specs.State.{at_start}
use Rattle.module_grammar.specs.Rules.{grammar}
use Rattle.module_grammar.specs.Texts.{whole}
use Rattle.module_grammar.specs.Faults.{IsWithin, limit_passed, settled, reached, IsCause}
use Rattle.module_grammar.proofs.Runs.{by_option, leads-run, run-leads, leads-after}
use Rattle.module_grammar.proofs.Grows.{Grew, leads-grew}
use Rattle.module_grammar.proofs.Walks.{next_state, settle-run, names-first-fault}
use Rattle.grammar_laws.specs.Limits.{number, most, HaveMore, place_of_limit, IsPassed, PassesLimit}
use Rattle.grammar_laws.proofs.Texts.{text-begins, begins-text}
use Rattle.grammar_laws.proofs.Unknown.{reached-some, reached-none}

-- ---- texts go on from the place that tokens lead to

leads-there : (level : Level) (front : List TextToken) (k : List Symbol) (s : State) (q : Place State) (ts : List TextToken) (s' : State)
    → reached level k s front ≡ Some q → Leads (grammar level) k s (front ++ ts) s' → Leads (grammar level) q.left q.state ts s'
leads-there level [] k s q ts s' e d =
    let same : record { left = k; state = s } ≡ q = cc in
    subst (λ (x : Place State). Leads (grammar level) x.left x.state ts s') same d
leads-there level (u ∷ front) k s q ts s' e d =
    by_option (step (grammar level) k s u)
    (λ p f. let r = leads-after (grammar level) k s u (front ++ ts) p s' f d in
    leads-there level front (settled p.left p.state).left (next_state level p) q ts s' (reached-some level k s u front p q f e)
    (run-leads (grammar level) (front ++ ts) _ _ s'
    (sym (settle-run level p.left p.state (front ++ ts)) ∙ leads-run (grammar level) p.left p.state (front ++ ts) s' r)))
    (λ f. reached-none level k s u front q f e)

reached-more : (level : Level) (front : List TextToken) (k : List Symbol) (s : State) (t : TextToken) (p q : Place State)
    → reached level k s front ≡ Some p → step (grammar level) p.left p.state t ≡ Some q
    → reached level k s (front ++ t ∷ []) ≡ Some (settled q.left q.state)
reached-more level [] k s t p q e h =
    let same : record { left = k; state = s } ≡ p = cc in
    let f : step (grammar level) k s t ≡ Some q = subst (λ (x : Place State). step (grammar level) x.left x.state t ≡ Some q) (sym same) h in
    rw (f, reached) refl
reached-more level (u ∷ front) k s t p q e h =
    by_option (step (grammar level) k s u)
    (λ r f. let a : reached level (settled r.left r.state).left (settled r.left r.state).state front ≡ Some p = sym (rw (f, reached) refl) ∙ e in
    rw (f, reached) (reached-more level front (settled r.left r.state).left (settled r.left r.state).state t p q a h))
    (λ f. reached-none level k s u front p f e)

-- ---- which limit is passed

number-grew : (which : Limited) (s s' : State) → Grew s s' → number which s ≤ number which s'
number-grew limited.Operations s s' g = g.begun
number-grew limited.Functions s s' g = g.functions
number-grew limited.Depth s s' g = g.deepest
number-grew limited.Values s s' g = g.counted

-- what a limit that is passed tells
abbrev IsTold : TextLimits → State → State → TextToken → Limited → ℕ → Type 0
IsTold limits s now t which at = (at ≡ place_of_limit limits which s t) × (most which limits < number which now)

told : (limits : TextLimits) (s now : State) (t : TextToken) (w : Limited) (which : Limited) (at : ℕ) (rest : Option GrammarFault)
    → cond (nat_lt (most w limits) (number w now)) (Some (fault.Limit w (place_of_limit limits w s t))) rest ≡ Some (fault.Limit which at)
    → (rest ≡ Some (fault.Limit which at) → IsTold limits s now t which at) → IsTold limits s now t which at
told limits s now t w which at rest e later = by (nat_lt (most w limits) (number w now)) refl e
  where
    by : (b : Bool) → nat_lt (most w limits) (number w now) ≡ b
        → cond b (Some (fault.Limit w (place_of_limit limits w s t))) rest ≡ Some (fault.Limit which at) → IsTold limits s now t which at
    by true f g =
        let same : w ≡ which = cc in
        let there : place_of_limit limits w s t ≡ at = cc in
        subst (λ (x : Limited). (at ≡ place_of_limit limits x s t) × (most x limits < number x now)) same
        (sym there, ltb-true (most w limits) (number w now) f)
    by false f g = later g

limit-told : (limits : TextLimits) (s now : State) (t : TextToken) (which : Limited) (at : ℕ)
    → limit_passed limits s now t ≡ Some (fault.Limit which at) → IsTold limits s now t which at
limit-told limits s now t which at e =
    told limits s now t limited.Operations which at _ e (λ f.
    told limits s now t limited.Functions which at _ f (λ g.
    told limits s now t limited.Depth which at _ g (λ h.
    told limits s now t limited.Values which at None h (λ i. absurd cc))))

-- ---- the causes

have-more : (limits : TextLimits) (level : Level) (which : Limited) (front : List TextToken) (q : Place State)
    → reached level whole at_start front ≡ Some q → most which limits < number which q.state → HaveMore level which front (most which limits)
have-more limits level which front q e h more s d =
    let g = number-grew which q.state s (leads-grew level q.left q.state more s (leads-there level front whole at_start q more s e d)) in
    omega (arith, g, h)

ends-so : (level : Level) (q : Place State) (last s : State) → close (grammar level) q.left q.state ≡ Some last
    → Leads (grammar level) q.left q.state [] s → last ≡ s
ends-so level q last s e d =
    let a : closed {T = TextToken} (close (grammar level) q.left q.state) ≡ Ok s = leads-run (grammar level) q.left q.state [] s d in
    let b : closed {T = TextToken} (Some last) ≡ Ok s = subst (λ (o : Option State). closed {T = TextToken} o ≡ Ok s) e a in
    let c : last ≡ s = cc in c

cause-passed : (limits : TextLimits) (level : Level) (front : List TextToken) (place : Place State) (rest : List TextToken) (f : GrammarFault) (which : Limited) (at : ℕ)
    → reached level whole at_start front ≡ Some place → IsWithin limits place.state → Begins (grammar level) whole at_start front
    → IsCause limits level whole at_start front place rest f → f ≡ fault.Limit which at → IsPassed limits level (front ++ rest) which at
cause-passed limits level front place _ _ which at r i b (IsCause.refused t rest refuses n) e =
    IsPassed.by_names front t rest place refl (r, i) (text-begins level front b) (λ y. refuses (begins-text level (front ++ t ∷ []) y)) (rw n e)
cause-passed limits level front place _ _ which at r i b (IsCause.held t rest x refuses n) e =
    IsPassed.by_names front t rest place refl (r, i) (text-begins level front b) (λ y. refuses (begins-text level (front ++ t ∷ []) y)) (rw n e)
cause-passed limits level front place _ _ which at r i b (IsCause.passed t rest p f begins takes passes) e =
    let h = limit-told limits place.state (settled p.left p.state).state t which at (passes ∙ ap (λ (x : GrammarFault). Some x) e) in
    let q = reached-more level front whole at_start t place p r takes in
    IsPassed.by_token front t rest place (number which (settled p.left p.state).state) refl (r, i) (text-begins level (front ++ t ∷ []) begins)
    (settled p.left p.state, q, refl) h.1 (have-more limits level which (front ++ t ∷ []) (settled p.left p.state) q h.1) h.0
cause-passed limits level front place _ _ which at r i b (IsCause.cut h) e = absurd cc
cause-passed limits level front place _ _ which at r i b (IsCause.passed_last last f ends passes) e =
    let h = limit-told limits place.state last place.state.last which at (passes ∙ ap (λ (x : GrammarFault). Some x) e) in
    IsPassed.by_end (λ s d. subst (λ (x : State). most which limits < number which x)
    (ends-so level place last s ends (leads-there level front whole at_start place [] s r d)) h.1)

pub passes-limit : PassesLimit
passes-limit limits level ts which at e =
    let h = names-first-fault limits level ts (fault.Limit which at) e in
    subst (λ (x : List TextToken). IsPassed limits level x which at) (sym h.parts)
    (cause-passed limits level h.front h.place h.rest (fault.Limit which at) which at h.leads h.within h.fits h.cause refl)
