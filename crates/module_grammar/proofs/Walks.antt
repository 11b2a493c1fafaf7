-- A text within the limits is walked to its end, and what is walked is such a text.
use Rattle.std.proofs.Common.{◌≡◌, ◌≤◌, ℕ, true, cond, List, [], ◌∷◌, ◌++◌, Option, Some, None, Result, Ok, Err, nat_lt, refl, sym, ap, ◌∙◌, subst, arith, le-ltb, ltb-false}
use Rattle.op_table.specs.declared.rows.Level.{Level}
use Rattle.ir_forms.specs.declared.ops.Module.{Module}
use Rattle.module_grammar.specs.declared.symbols.Symbol.{Symbol}
use Rattle.module_grammar.specs.declared.symbols.Symbol.TheVariants as symbol
use Rattle.module_grammar.specs.declared.faults.TextLimits.{TextLimits}
use Rattle.module_grammar.specs.declared.faults.GrammarFault.{GrammarFault}
use Rattle.module_grammar.specs.declared.faults.GrammarFault.TheVariants as fault
use Rattle.module_grammar.specs.declared.faults.Limited.TheVariants as limited
use Rattle.module_grammar.specs.declared.symbols.Class.TheVariants as class
use Rattle.module_grammar.specs.Engine.{Place, Leads, Begins, good_then, step, close, closed, run}
use Rattle.module_grammar.specs.declared.state.TextToken.{TextToken}
use Rattle.module_grammar.specs.declared.state.State.{State}
use Rattle.module_grammar.specs.State.{at_start, module_of, does}
use Rattle.module_grammar.specs.Rules.{grammar}
use Rattle.module_grammar.specs.Endings.{endings}
use Rattle.module_grammar.specs.Texts.{whole}
use Rattle.module_grammar.specs.Faults.{IsWithin, IsTextWithin, limit_passed, fault_there, held_past, refusal, settled, ended, walk, module_or, reached, IsCause, HasFault, AcceptsExactly, NamesFirstFault}
use Rattle.module_grammar.proofs.Ends.{step-keeps, completes}
use Rattle.module_grammar.proofs.Source.{can-end, whole-good}
use Rattle.module_grammar.proofs.Runs.{by_test, by_option, leads-run, run-leads, step-leads, run-act, run-some, run-none, begins-after, begins-before}
use Rattle.module_grammar.proofs.Grows.{Grew, leads-grew}

-- ---- the actions that stand first

pub settle-run : (level : Level) (k : List Symbol) (s : State) (ts : List TextToken)
    → run (grammar level) k s ts ≡ run (grammar level) (settled k s).left (settled k s).state ts
settle-run level [] s ts = refl
settle-run level (symbol.Word c ∷ k) s ts = refl
settle-run level (symbol.Do a ∷ k) s ts = run-act (grammar level) a k s ts ∙ settle-run level k (does a s) ts
settle-run level (symbol.Rule r ∷ k) s ts = refl

pub settle-leads : (level : Level) (k : List Symbol) (s : State) (ts : List TextToken) (s' : State)
    → Leads (grammar level) (settled k s).left (settled k s).state ts s' → Leads (grammar level) k s ts s'
settle-leads level [] s ts s' d = d
settle-leads level (symbol.Word c ∷ k) s ts s' d = d
settle-leads level (symbol.Do a ∷ k) s ts s' d = Leads.act a k s ts s' (settle-leads level k (does a s) ts s' d)
settle-leads level (symbol.Rule r ∷ k) s ts s' d = d

-- ---- limits

passes : (limit n : ℕ) (f : GrammarFault) (rest : Option GrammarFault) → n ≤ limit → rest ≡ None
    → cond (nat_lt limit n) (Some f) rest ≡ None
passes limit n f rest h e = rw (le-ltb limit n h) e

pub none-passed : (limits : TextLimits) (s now : State) (t : TextToken) → IsWithin limits now → limit_passed limits s now t ≡ None
none-passed limits s now t h =
    passes _ _ _ _ h.operations (passes _ _ _ _ h.functions (passes _ _ _ _ h.depth (passes _ _ _ _ h.values refl)))

not-past : (limit n : ℕ) (f : GrammarFault) (rest : Option GrammarFault) → cond (nat_lt limit n) (Some f) rest ≡ None
    → (n ≤ limit) × (rest ≡ None)
not-past limit n f rest e =
    by_test (nat_lt limit n)
    (λ y. let a : Some f ≡ None = subst (λ b. cond {A = Option GrammarFault} b (Some f) rest ≡ None) y e in absurd cc)
    (λ z. (ltb-false limit n z, subst (λ b. cond {A = Option GrammarFault} b (Some f) rest ≡ None) z e))

within-now : (limits : TextLimits) (s now : State) (t : TextToken) → limit_passed limits s now t ≡ None → IsWithin limits now
within-now limits s now t e =
    let a = not-past limits.operations now.begun _ _ e in
    let b = not-past limits.functions now.functions _ _ a.1 in
    let c = not-past limits.depth now.deepest _ _ b.1 in
    let d = not-past limits.values now.counted _ _ c.1 in
    record { operations = a.0; functions = b.0; depth = c.0; values = d.0 }

pub within-before : (limits : TextLimits) (s s' : State) → Grew s s' → IsWithin limits s' → IsWithin limits s
within-before limits s s' g h = record {
  operations = omega (arith, g.begun, h.operations);
  functions = omega (arith, g.functions, h.functions);
  depth = omega (arith, g.deepest, h.depth);
  values = omega (arith, g.counted, h.values);
}

-- ---- one token of a walk

abbrev pub next_state : Level → Place State → State
next_state level p = (settled p.left p.state).state

pub walk-refused : (limits : TextLimits) (level : Level) (k : List Symbol) (s : State) (t : TextToken) (ts : List TextToken)
    → step (grammar level) k s t ≡ None → walk limits level k s (t ∷ ts) ≡ Err (refusal limits level k s t ts)
walk-refused limits level k s t ts e = rw (e, walk) refl

pub walk-passed : (limits : TextLimits) (level : Level) (k : List Symbol) (s : State) (t : TextToken) (ts : List TextToken) (p : Place State) (f : GrammarFault)
    → step (grammar level) k s t ≡ Some p → limit_passed limits s (next_state level p) t ≡ Some f
    → walk limits level k s (t ∷ ts) ≡ Err f
walk-passed limits level k s t ts p f e h = rw (e, walk) (rw h refl)

pub walk-on : (limits : TextLimits) (level : Level) (k : List Symbol) (s : State) (t : TextToken) (ts : List TextToken) (p : Place State)
    → step (grammar level) k s t ≡ Some p → limit_passed limits s (next_state level p) t ≡ None
    → walk limits level k s (t ∷ ts) ≡ walk limits level (settled p.left p.state).left (next_state level p) ts
walk-on limits level k s t ts p e h = rw (e, walk) (rw h refl)

-- ---- what is walked

close-leads : (level : Level) (k : List Symbol) (s s' : State) → close (grammar level) k s ≡ Some s' → Leads (grammar level) k s [] s'
close-leads level k s s' e = run-leads (grammar level) [] k s s' (ap (λ (o : Option State). closed {T = TextToken} o) e)

ended-some : (limits : TextLimits) (last s s' : State) → ended limits (Some last) s ≡ Ok s' → (last ≡ s') × IsWithin limits last
ended-some limits last s s' e =
    by_option (limit_passed limits s last s.last)
    (λ f g. let a : Err f ≡ Ok s' = sym (rw (g, ended) refl) ∙ e in absurd cc)
    (λ g. let a : Ok last ≡ Ok s' = sym (rw (g, ended) refl) ∙ e in (let b : last ≡ s' = cc in b, within-now limits s last s.last g))

-- what is walked is a text, and within the limits
record IsWalked (limits : TextLimits) (level : Level) (k : List Symbol) (s : State) (ts : List TextToken) (s' : State) : Type 0 where
  leads : Leads (grammar level) k s ts s'
  within : IsWithin limits s'

end-walked : (limits : TextLimits) (level : Level) (k : List Symbol) (s s' : State) (o : Option State)
    → close (grammar level) k s ≡ o → ended limits o s ≡ Ok s' → IsWalked limits level k s [] s'
end-walked limits level k s s' (Some x) e f =
    let h = ended-some limits x s s' f in
    record { leads = close-leads level k s s' (e ∙ ap (λ (y : State). Some y) h.0); within = subst (λ (y : State). IsWithin limits y) h.0 h.1 }
end-walked limits level k s s' None e f = absurd cc

walked : (limits : TextLimits) (level : Level) (ts : List TextToken) (k : List Symbol) (s s' : State)
    → walk limits level k s ts ≡ Ok s' → IsWalked limits level k s ts s'
walked limits level [] k s s' e = end-walked limits level k s s' (close (grammar level) k s) refl e
walked limits level (t ∷ ts) k s s' e =
    by_option (step (grammar level) k s t)
    (λ p f. by_option (limit_passed limits s (next_state level p) t)
    (λ x g. let a : Err x ≡ Ok s' = sym (walk-passed limits level k s t ts p x f g) ∙ e in absurd cc)
    (λ g. let r = walked limits level ts (settled p.left p.state).left (next_state level p) s' (sym (walk-on limits level k s t ts p f g) ∙ e) in
    record { leads = step-leads (grammar level) k s t ts p s' f (settle-leads level p.left p.state ts s' r.leads); within = r.within }))
    (λ f. let a : Err (refusal limits level k s t ts) ≡ Ok s' = sym (walk-refused limits level k s t ts f) ∙ e in absurd cc)

-- a text within the limits is walked
end-walks : (limits : TextLimits) (level : Level) (k : List Symbol) (s s' : State) (o : Option State)
    → close (grammar level) k s ≡ o → closed {T = TextToken} o ≡ Ok s' → IsWithin limits s' → ended limits o s ≡ Ok s'
end-walks limits level k s s' (Some x) e f h =
    let same : s' ≡ x = cc in
    rw (none-passed limits s x s.last (subst (λ (y : State). IsWithin limits y) same h), ended) (ap (λ (y : State). Ok y) (sym same))
end-walks limits level k s s' None e f h = absurd cc

walks : (limits : TextLimits) (level : Level) (ts : List TextToken) (k : List Symbol) (s s' : State)
    → run (grammar level) k s ts ≡ Ok s' → IsWithin limits s' → walk limits level k s ts ≡ Ok s'
walks limits level [] k s s' e h = end-walks limits level k s s' (close (grammar level) k s) refl e h
walks limits level (t ∷ ts) k s s' e h =
    by_option (step (grammar level) k s t)
    (λ p f. let r : run (grammar level) (settled p.left p.state).left (next_state level p) ts ≡ Ok s' =
    sym (settle-run level p.left p.state ts) ∙ sym (run-some (grammar level) k s t ts p f) ∙ e in
    let d = run-leads (grammar level) ts (settled p.left p.state).left (next_state level p) s' r in
    walk-on limits level k s t ts p f
    (none-passed limits s (next_state level p) t (within-before limits (next_state level p) s' (leads-grew level _ _ ts s' d) h))
    ∙ walks limits level ts (settled p.left p.state).left (next_state level p) s' r h)
    (λ f. let a : Err (t ∷ ts) ≡ Ok s' = sym (run-none (grammar level) k s t ts f) ∙ e in absurd cc)

is-text : (limits : TextLimits) (level : Level) (ts : List TextToken) (m : Module) (o : Result State GrammarFault)
    → walk limits level whole at_start ts ≡ o → module_or o ≡ Ok m → IsTextWithin limits level ts m
is-text limits level ts m (Ok s) e f =
    let w = walked limits level ts whole at_start s e in
    let h : m ≡ module_of s = cc in (s, w.leads, h, w.within)
is-text limits level ts m (Err x) e f = absurd cc

pub accepts-exactly : AcceptsExactly
accepts-exactly limits level ts m = (
  λ e. is-text limits level ts m (walk limits level whole at_start ts) refl e,
  λ t. ap module_or (walks limits level ts whole at_start t.0 (leads-run (grammar level) whole at_start ts t.0 t.1) t.3)
      ∙ ap (λ (x : Module). Ok x) (sym t.2),
)

-- ---- the first fault

pub settle-good : (level : Level) (k : List Symbol) (s : State)
    → good_then (grammar level) (endings level) k class.End ≡ true
    → good_then (grammar level) (endings level) (settled k s).left class.End ≡ true
settle-good level [] s h = h
settle-good level (symbol.Word c ∷ k) s h = h
settle-good level (symbol.Do a ∷ k) s h = settle-good level k (does a s) h
settle-good level (symbol.Rule r ∷ k) s h = h

-- what begins behind a token that fits, and the other way round
pub begins-on : (level : Level) (k : List Symbol) (s : State) (t : TextToken) (front : List TextToken) (p : Place State) → step (grammar level) k s t ≡ Some p
    → Begins (grammar level) (settled p.left p.state).left (next_state level p) front → Begins (grammar level) k s (t ∷ front)
begins-on level k s t front p e b =
    begins-before (grammar level) k s t front p e (b.0, b.1, settle-leads level p.left p.state (front ++ b.0) b.1 b.2)

pub begins-from : (level : Level) (k : List Symbol) (s : State) (t : TextToken) (front : List TextToken) (p : Place State) → step (grammar level) k s t ≡ Some p
    → Begins (grammar level) k s (t ∷ front) → Begins (grammar level) (settled p.left p.state).left (next_state level p) front
begins-from level k s t front p e b =
    let c = begins-after (grammar level) k s t front p e b in (
      c.0,
      c.1,
      run-leads (grammar level) (front ++ c.0) _ _ c.1
          (sym (settle-run level p.left p.state (front ++ c.0)) ∙ leads-run (grammar level) p.left p.state (front ++ c.0) c.1 c.2),
    )

cause-before : (limits : TextLimits) (level : Level) (k : List Symbol) (s : State) (t : TextToken) (front : List TextToken) (p : Place State)
    (place : Place State) (rest : List TextToken) (f : GrammarFault) → step (grammar level) k s t ≡ Some p
    → IsCause limits level (settled p.left p.state).left (next_state level p) front place rest f
    → IsCause limits level k s (t ∷ front) place rest f
cause-before limits level k s t front p place _ _ e (IsCause.refused u rest h n) =
    IsCause.refused u rest (λ b. h (begins-from level k s t (front ++ u ∷ []) p e b)) n
cause-before limits level k s t front p place _ _ e (IsCause.held u rest at h n) =
    IsCause.held u rest at (λ b. h (begins-from level k s t (front ++ u ∷ []) p e b)) n
cause-before limits level k s t front p place _ _ e (IsCause.passed u rest q f b g i) =
    IsCause.passed u rest q f (begins-on level k s t (front ++ u ∷ []) p e b) g i
cause-before limits level k s t front p place _ _ e (IsCause.cut h) = IsCause.cut h
cause-before limits level k s t front p place _ _ e (IsCause.passed_last last f g i) = IsCause.passed_last last f g i

reached-on : (level : Level) (k : List Symbol) (s : State) (t : TextToken) (ts : List TextToken) (p : Place State) → step (grammar level) k s t ≡ Some p
    → reached level k s (t ∷ ts) ≡ reached level (settled p.left p.state).left (next_state level p) ts
reached-on level k s t ts p e = rw (e, reached) refl

fault-on : (limits : TextLimits) (level : Level) (k : List Symbol) (s : State) (t : TextToken) (ts : List TextToken) (p : Place State) (f : GrammarFault)
    → step (grammar level) k s t ≡ Some p → HasFault limits level (settled p.left p.state).left (next_state level p) ts f
    → HasFault limits level k s (t ∷ ts) f
fault-on limits level k s t ts p f e h = record {
  front = t ∷ h.front;
  rest = h.rest;
  parts = ap (λ (x : List TextToken). t ∷ x) h.parts;
  place = h.place;
  leads = reached-on level k s t h.front p e ∙ h.leads;
  within = h.within;
  fits = begins-on level k s t h.front p e h.fits;
  cause = cause-before limits level k s t h.front p h.place h.rest f e h.cause;
}

-- the fault stands at the first of these tokens
fault-here : (limits : TextLimits) (level : Level) (k : List Symbol) (s : State) (ts : List TextToken) (f : GrammarFault) → IsWithin limits s
    → Begins (grammar level) k s [] → IsCause limits level k s [] (record { left = k; state = s }) ts f → HasFault limits level k s ts f
fault-here limits level k s ts f h b c = record {
  front = [];
  rest = ts;
  parts = refl;
  place = record { left = k; state = s };
  leads = refl;
  within = h;
  fits = b;
  cause = c;
}

end-fault : (limits : TextLimits) (level : Level) (k : List Symbol) (s : State) (f : GrammarFault) (o : Option State) → IsWithin limits s
    → Begins (grammar level) k s [] → close (grammar level) k s ≡ o → ended limits o s ≡ Err f → HasFault limits level k s [] f
end-fault limits level k s f (Some last) h b e g =
    by_option (limit_passed limits s last s.last)
    (λ x i. let a : Err x ≡ Err f = sym (rw (i, ended) refl) ∙ g in
    let same : x ≡ f = cc in fault-here limits level k s [] f h b (IsCause.passed_last last f e (i ∙ ap (λ (y : GrammarFault). Some y) same)))
    (λ i. let a : Ok last ≡ Err f = sym (rw (i, ended) refl) ∙ g in absurd cc)
end-fault limits level k s f None h b e g =
    let same : fault.Syntax s.last.at ≡ f = cc in
    subst (λ (y : GrammarFault). HasFault limits level k s [] y) same (fault-here limits level k s [] (fault.Syntax s.last.at) h b (IsCause.cut e))

refused-here : (limits : TextLimits) (level : Level) (k : List Symbol) (s : State) (t : TextToken) (ts : List TextToken) → IsWithin limits s
    → Begins (grammar level) k s [] → step (grammar level) k s t ≡ None → HasFault limits level k s (t ∷ ts) (refusal limits level k s t ts)
refused-here limits level k s t ts h b e =
    by_option (held_past limits k s)
    (λ at f. subst (λ (x : GrammarFault). HasFault limits level k s (t ∷ ts) x) (sym (rw f refl))
    (fault-here limits level k s (t ∷ ts) (fault.Limit limited.Values at) h b (IsCause.held t ts at refused f)))
    (λ f. subst (λ (x : GrammarFault). HasFault limits level k s (t ∷ ts) x) (sym (rw f refl))
    (fault-here limits level k s (t ∷ ts) (fault_there limits level k s t ts) h b (IsCause.refused t ts refused f)))
  where
    refused : Begins (grammar level) k s (t ∷ []) → ⊥
    refused c = let a : Err (t ∷ c.0) ≡ Ok c.1 =
        sym (run-none (grammar level) k s t c.0 e) ∙ leads-run (grammar level) k s (t ∷ c.0) c.1 c.2 in absurd cc

pub has-fault : (limits : TextLimits) (level : Level) (ts : List TextToken) (k : List Symbol) (s : State) (f : GrammarFault)
    → good_then (grammar level) (endings level) k class.End ≡ true → IsWithin limits s
    → walk limits level k s ts ≡ Err f → HasFault limits level k s ts f
has-fault limits level [] k s f g h e =
    end-fault limits level k s f (close (grammar level) k s) h (completes (grammar level) (endings level) (can-end level) class.End k s g) refl e
has-fault limits level (t ∷ ts) k s f g h e =
    by_option (step (grammar level) k s t)
    (λ p i. let gp : good_then (grammar level) (endings level) (settled p.left p.state).left class.End ≡ true =
    settle-good level p.left p.state (step-keeps (grammar level) (endings level) (can-end level) class.End k s t p g i) in
    by_option (limit_passed limits s (next_state level p) t)
    (λ x j. let a : Err x ≡ Err f = sym (walk-passed limits level k s t ts p x i j) ∙ e in
    let same : x ≡ f = cc in
    fault-here limits level k s (t ∷ ts) f h (completes (grammar level) (endings level) (can-end level) class.End k s g)
    (IsCause.passed t ts p f
    (begins-on level k s t [] p i (completes (grammar level) (endings level) (can-end level) class.End _ _ gp)) i
    (j ∙ ap (λ (y : GrammarFault). Some y) same)))
    (λ j. fault-on limits level k s t ts p f i
    (has-fault limits level ts (settled p.left p.state).left (next_state level p) f gp (within-now limits s (next_state level p) t j)
    (sym (walk-on limits level k s t ts p i j) ∙ e))))
    (λ i. let a : Err (refusal limits level k s t ts) ≡ Err f = sym (walk-refused limits level k s t ts i) ∙ e in
    let same : refusal limits level k s t ts ≡ f = cc in
    subst (λ (y : GrammarFault). HasFault limits level k s (t ∷ ts) y) same
    (refused-here limits level k s t ts h (completes (grammar level) (endings level) (can-end level) class.End k s g) i))

parsed-fault : (limits : TextLimits) (level : Level) (ts : List TextToken) (f : GrammarFault) (o : Result State GrammarFault)
    → walk limits level whole at_start ts ≡ o → module_or o ≡ Err f → HasFault limits level whole at_start ts f
parsed-fault limits level ts f (Ok s) e g = absurd cc
parsed-fault limits level ts f (Err x) e g =
    let same : x ≡ f = cc in
    has-fault limits level ts whole at_start f (whole-good level)
    (record { operations = omega arith; functions = omega arith; depth = omega arith; values = omega arith })
    (e ∙ ap (λ (y : GrammarFault). Err y) same)

pub names-first-fault : NamesFirstFault
names-first-fault limits level ts f e = parsed-fault limits level ts f (walk limits level whole at_start ts) refl e
