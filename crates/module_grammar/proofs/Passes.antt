-- One token more of a walk, and its end.
use Rattle.std.proofs.Common.{◌≡◌, ◌<◌, ℕ, ◌+◌, length, get_or, drop, add-one, drop-cons, Bool, true, false, cond, ◌||◌, List, [], ◌∷◌, ◌++◌, Option, Some, None, Result, Ok, Err, IfOk, MatchBool, option_map, nat_lt, refl, sym, ap, ◌∙◌, subst}
use Rattle.op_table.specs.declared.rows.Level.{Level}
use Rattle.op_table.specs.declared.rows.Level.TheVariants.{Source}
use Rattle.module_grammar.specs.declared.symbols.Symbol.{Symbol}
use Rattle.module_grammar.specs.declared.symbols.Symbol.TheVariants as symbol
use Rattle.module_grammar.specs.declared.faults.TextLimits.{TextLimits}
use Rattle.module_grammar.specs.declared.faults.GrammarFault.{GrammarFault}
use Rattle.module_grammar.specs.declared.state.TextToken.{TextToken}
use Rattle.module_grammar.specs.declared.state.State.{State}
use Rattle.module_grammar.specs.Engine.{Place, step, close}
use Rattle.module_grammar.specs.State.{at_start, does}
use Rattle.module_grammar.specs.Rules.{grammar, may_end}
use Rattle.module_grammar.specs.Texts.{whole}
use Rattle.module_grammar.specs.Machines.{IsStopped, IsLed, IsTaken}
use Rattle.module_grammar.specs.Faults.{passes, limit_passed, settled, reached, walk, refusal}
use Rattle.module_grammar.proofs.Runs.{by_option}
use Rattle.module_grammar.proofs.Walks.{walk-refused, walk-passed, walk-on}

none_of : (a b c d : Bool) → (a || b || c || d) ≡ false → (a ≡ false) × ((b ≡ false) × ((c ≡ false) × (d ≡ false)))
none_of true b c d e = absurd cc
none_of false true c d e = absurd cc
none_of false false true d e = absurd cc
none_of false false false true e = absurd cc
none_of false false false false e = (refl, (refl, (refl, refl)))

pub none_passes : (limits : TextLimits) (before now : State) (t : TextToken) → passes limits now ≡ false → limit_passed limits before now t ≡ None
none_passes limits before now t e =
    let h = none_of (nat_lt limits.operations now.begun) (nat_lt limits.functions now.functions) (nat_lt limits.depth now.deepest)
    (nat_lt limits.values now.counted) e in
    rw h.0 (rw h.1.0 (rw h.1.1.0 (rw h.1.1.1 refl)))

-- the end is the same at every level
pub closes_alike : (level : Level) (k : List Symbol) (s : State) → close (grammar level) k s ≡ close (grammar Source) k s
closes_alike level [] s = refl
closes_alike level (symbol.Word c ∷ k) s = refl
closes_alike level (symbol.Do a ∷ k) s = closes_alike level k (does a s)
closes_alike level (symbol.Rule r ∷ k) s = ap (λ (o : Option State). cond (may_end r) o None) (closes_alike level k s)

pub reached_more : (level : Level) (front : List TextToken) (k : List Symbol) (s : State) (t : TextToken) (p q : Place State)
    → reached level k s front ≡ Some p → step (grammar level) p.left p.state t ≡ Some q
    → reached level k s (front ++ t ∷ []) ≡ Some (settled q.left q.state)
reached_more level [] k s t p q e h =
    let same : record { left = k; state = s } ≡ p = cc in
    let f : step (grammar level) k s t ≡ Some q = subst (λ (x : Place State). step (grammar level) x.left x.state t ≡ Some q) (sym same) h in
    rw (f, reached) refl
reached_more level (u ∷ front) k s t p q e h =
    by_option (step (grammar level) k s u)
    (λ r f. let a : reached level (settled r.left r.state).left (settled r.left r.state).state front ≡ Some p = sym (rw (f, reached) refl) ∙ e in
    rw (f, reached) (reached_more level front (settled r.left r.state).left (settled r.left r.state).state t p q a h))
    (λ f. let a : None ≡ Some p = sym (rw (f, reached) refl) ∙ e in absurd cc)

-- a fault that is told at each place is told at the place that is reached
pub told_fault : (tells : Place State → Option GrammarFault) (fault : Place State → GrammarFault) (o : Option (Place State)) (f : GrammarFault)
    → ((p : Place State) → tells p ≡ Some (fault p)) → option_map tells o ≡ Some (Some f) → option_map fault o ≡ Some f
told_fault tells fault None f each e = absurd cc
told_fault tells fault (Some p) f each e =
    let there : tells p ≡ Some f = cc in
    let same : Some (fault p) ≡ Some f = sym (each p) ∙ there in same

pub told_always : {A : Type 0} (tells : Place State → Option GrammarFault) (fault : Place State → GrammarFault) (o : Option (Place State))
    → ((p : Place State) → tells p ≡ Some (fault p)) → option_map tells o ≡ Some None → A
told_always tells fault None each e = absurd cc
told_always tells fault (Some p) each e =
    let there : tells p ≡ None = cc in
    let same : Some (fault p) ≡ None = sym (each p) ∙ there in absurd cc

-- ---- one token

stopped : (limits : TextLimits) (level : Level) (before : Place State) (t : TextToken) (ts : List TextToken) (f : GrammarFault)
    → step (grammar level) before.left before.state t ≡ None → refusal limits level before.left before.state t ts ≡ f
    → IsStopped limits level before t ts f
stopped limits level before t ts f h e = walk-refused limits level before.left before.state t ts h ∙ ap (λ (x : GrammarFault). Err x) e

refused_of : (limits : TextLimits) (level : Level) (o : Option (Place State)) (before : Place State) (t : TextToken) (ts : List TextToken) (f : GrammarFault)
    → o ≡ Some before → option_map (λ (p : Place State). refusal limits level p.left p.state t ts) o ≡ Some f
    → refusal limits level before.left before.state t ts ≡ f
refused_of limits level None before t ts f e g = absurd cc
refused_of limits level (Some p) before t ts f e g =
    let same : p ≡ before = cc in
    let a : refusal limits level p.left p.state t ts ≡ f = cc in
    subst (λ (x : Place State). refusal limits level x.left x.state t ts ≡ f) same a

-- a token that doesn't fit behind the tokens has this fault
is_refused : (limits : TextLimits) (level : Level) (o : Option (Place State)) (before : Place State) (t : TextToken) (ts : List TextToken) (f : GrammarFault)
    → o ≡ Some before → step (grammar level) before.left before.state t ≡ None
    → option_map (λ (p : Place State). refusal limits level p.left p.state t ts) o ≡ Some f
    → IsStopped limits level before t ts f
is_refused limits level o before t ts f e h g = stopped limits level before t ts f h (refused_of limits level o before t ts f e g)

passed_of : (limits : TextLimits) (o : Option (Place State)) (before : Place State) (now : State) (t : TextToken) (f : Option GrammarFault)
    → o ≡ Some before → option_map (λ (p : Place State). limit_passed limits p.state now t) o ≡ Some f
    → limit_passed limits before.state now t ≡ f
passed_of limits None before now t f e g = absurd cc
passed_of limits (Some p) before now t f e g =
    let same : p ≡ before = cc in
    let a : limit_passed limits p.state now t ≡ f = cc in
    subst (λ (x : Place State). limit_passed limits x.state now t ≡ f) same a

-- a token that fits behind the tokens passes a limit
is_stopped : (limits : TextLimits) (level : Level) (o : Option (Place State)) (before q after : Place State) (t : TextToken) (ts : List TextToken) (f : GrammarFault)
    → o ≡ Some before → step (grammar level) before.left before.state t ≡ Some q → after ≡ settled q.left q.state
    → option_map (λ (p : Place State). limit_passed limits p.state after.state t) o ≡ Some (Some f)
    → IsStopped limits level before t ts f
is_stopped limits level o before q after t ts f e h same g =
    let a : limit_passed limits before.state after.state t ≡ Some f = passed_of limits o before after.state t (Some f) e g in
    let b : limit_passed limits before.state (settled q.left q.state).state t ≡ Some f =
    subst (λ (x : Place State). limit_passed limits before.state x.state t ≡ Some f) same a in
    walk-passed limits level before.left before.state t ts q f h b

led : (limits : TextLimits) (level : Level) (before q : Place State) (t : TextToken) → step (grammar level) before.left before.state t ≡ Some q
    → limit_passed limits before.state (settled q.left q.state).state t ≡ None → IsLed limits level before (settled q.left q.state) t
led limits level before q t h b = record {
  goes_on = λ ts. walk-on limits level before.left before.state t ts q h b;
  reaches = λ front e. reached_more level front whole at_start t before q e h;
}

-- a token that fits behind the tokens leads on
is_led : (limits : TextLimits) (level : Level) (o : Option (Place State)) (before q after : Place State) (t : TextToken)
    → o ≡ Some before → step (grammar level) before.left before.state t ≡ Some q → after ≡ settled q.left q.state
    → option_map (λ (p : Place State). limit_passed limits p.state after.state t) o ≡ Some None
    → IsLed limits level before after t
is_led limits level o before q after t e h same g =
    let a : limit_passed limits before.state after.state t ≡ None = passed_of limits o before after.state t None e g in
    subst (λ (x : Place State). IsLed limits level before x t) (sym same)
    (led limits level before q t h (subst (λ (x : Place State). limit_passed limits before.state x.state t ≡ None) same a))

taken_with : (limits : TextLimits) (level : Level) (o : Option (Place State)) (before q after : Place State) (t : TextToken) (ts : List TextToken)
    (f : Option GrammarFault) → o ≡ Some before → step (grammar level) before.left before.state t ≡ Some q → after ≡ settled q.left q.state
    → option_map (λ (p : Place State). limit_passed limits p.state after.state t) o ≡ Some f
    → IsTaken limits level before after t ts f
taken_with limits level o before q after t ts (Some f) e h same g = is_stopped limits level o before q after t ts f e h same g
taken_with limits level o before q after t ts None e h same g = is_led limits level o before q after t e h same g

step_fits : (level : Level) (before q : Place State) (t u : TextToken) (b : Bool) → b ≡ true → u ≡ t
    → MatchBool b (step (grammar level) before.left before.state u ≡ Some q) (step (grammar level) before.left before.state u ≡ None)
    → step (grammar level) before.left before.state t ≡ Some q
step_fits level before q t u true e same h = subst (λ (x : TextToken). step (grammar level) before.left before.state x ≡ Some q) same h
step_fits level before q t u false e same h = absurd cc

step_fails : (level : Level) (before q : Place State) (t u : TextToken) (b : Bool) → b ≡ false → u ≡ t
    → MatchBool b (step (grammar level) before.left before.state u ≡ Some q) (step (grammar level) before.left before.state u ≡ None)
    → step (grammar level) before.left before.state t ≡ None
step_fails level before q t u false e same h = subst (λ (x : TextToken). step (grammar level) before.left before.state x ≡ None) same h
step_fails level before q t u true e same h = absurd cc

-- a token that fits behind the tokens leads on, or passes a limit
pub is_taken : {E : Type 0} (limits : TextLimits) (level : Level) (o : Option (Place State)) (before q after : Place State) (t u : TextToken) (ts : List TextToken)
    (b : Bool) (r : Result (Option GrammarFault) E) → o ≡ Some before → b ≡ true → u ≡ t
    → MatchBool b (step (grammar level) before.left before.state u ≡ Some q) (step (grammar level) before.left before.state u ≡ None)
    → after ≡ settled q.left q.state
    → IfOk r (λ f. option_map (λ (p : Place State). limit_passed limits p.state after.state t) o ≡ Some f)
    → IfOk r (λ f. IsTaken limits level before after t ts f)
is_taken limits level o before q after t u ts b (Ok f) e y same h led g =
    taken_with limits level o before q after t ts f e (step_fits level before q t u b y same h) led g
is_taken limits level o before q after t u ts b (Err x) e y same h led g = tt

-- a token that doesn't fit behind the tokens has its fault
pub is_faulty : (limits : TextLimits) (level : Level) (o : Option (Place State)) (before q : Place State) (t u : TextToken) (ts : List TextToken) (b : Bool)
    (f : GrammarFault) → o ≡ Some before → b ≡ false → u ≡ t
    → MatchBool b (step (grammar level) before.left before.state u ≡ Some q) (step (grammar level) before.left before.state u ≡ None)
    → option_map (λ (p : Place State). refusal limits level p.left p.state t ts) o ≡ Some f → IsStopped limits level before t ts f
is_faulty limits level o before q t u ts b f e n same h g =
    is_refused limits level o before t ts f e (step_fails level before q t u b n same h) g

-- ---- the tokens of a loop

next_of : (ts : List TextToken) (i : ℕ) (d : TextToken) → i < length ts → drop i ts ≡ get_or ts i d ∷ drop (i + 1) ts
next_of ts i d h = rw add-one (drop-cons ts i d h)

-- a fault at a token of the loop is the answer
pub walk_stops : (limits : TextLimits) (level : Level) (ts : List TextToken) (i : ℕ) (t : TextToken) (before after : Place State) (o : Option GrammarFault) (f : GrammarFault)
    (r : Result State GrammarFault) → i < length ts → t ≡ get_or ts i t → o ≡ Some f → IsTaken limits level before after t (drop (i + 1) ts) o
    → walk limits level before.left before.state (drop i ts) ≡ r → r ≡ Err f
walk_stops limits level ts i t before after None f r h same is l e = absurd cc
walk_stops limits level ts i t before after (Some g) f r h same is l e =
    let g_is : g ≡ f = cc in
    let s : IsStopped limits level before (get_or ts i t) (drop (i + 1) ts) g =
    subst (λ (x : TextToken). IsStopped limits level before x (drop (i + 1) ts) g) same l in
    sym e ∙ ap (λ (x : List TextToken). walk limits level before.left before.state x) (next_of ts i t h) ∙ s
    ∙ ap (λ (x : GrammarFault). Err x) g_is
