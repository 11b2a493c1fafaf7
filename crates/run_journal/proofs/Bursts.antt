-- Bursts within limits: how they go on, what they leave, and which bursts without limits they are.
use Rattle.std.proofs.Common.{◌≡◌, ◌≢◌, ◌⊎◌, ℕ, zero, suc, ◌+◌, ◌-◌, ◌<◌, ◌≤◌, Bool, true, false, cond, Option, Some, None, refl, sym, ap, subst, ◌∙◌, inl, inr, arith}
use Rattle.low_forms.specs.declared.code.LowModule.{LowModule}
use Rattle.source_meaning.specs.Values.{maybe}
use Rattle.step_core.specs.declared.limits.Limit.{Limit}
use Rattle.step_core.specs.declared.limits.Limits.{Limits}
use Rattle.step_core.specs.Shared.{Took, Stuck, Idle, Stopped, Takes}
use Rattle.step_core.specs.Core.{Core, core_step, limit_at, limited, limited_step}
use Rattle.step_core.specs.Runs.{after, step, next_is_local, one_local, one_more, burst, longest_burst}
use Rattle.run_journal.specs.Within.{step_within, one_local_within, burst_within}
use Rattle.run_journal.proofs.Steps.{OnlySteps, no_steps, more_steps, local_only, step_free}

-- ---- how a burst goes on

abbrev goes_of : (Core → ℕ × Core) → Core → Option Core → ℕ × Core
goes_of go c o = one_more (maybe None (λ next. Some (go next)) o) c

pub one_more_burst : (l : Limits) (code : LowModule) (n t : ℕ) (c next : Core) → next_is_local code c t ≡ true → step_within l code t c ≡ Some next →
    burst_within l code (suc n) t c ≡ ((burst_within l code n t next).0 + 1, (burst_within l code n t next).1)
unfolding burst_within
one_more_burst l code n t c next is step =
    let one : one_local_within l code t c ≡ Some next = ap (λ b. cond b (step_within l code t c) None) is ∙ step in
    ap (goes_of (burst_within l code n t) c) one

none_local : (b : Bool) (o : Option Core) → (b ≡ false) ⊎ (o ≡ None) → cond b o None ≡ None
none_local true o (inl is) = absurd (cc)
none_local true o (inr is) = is
none_local false o why = refl

pub burst_ends : (l : Limits) (code : LowModule) (n t : ℕ) (c : Core) → (next_is_local code c t ≡ false) ⊎ (step_within l code t c ≡ None) →
    burst_within l code n t c ≡ (0, c)
unfolding burst_within
burst_ends l code zero t c why = refl
burst_ends l code (suc n) t c why = ap (goes_of (burst_within l code n t) c) (none_local (next_is_local code c t) (step_within l code t c) why)

pub none_left : (l : Limits) (code : LowModule) (t : ℕ) (c : Core) → burst_within l code 0 t c ≡ (0, c)
unfolding burst_within
none_left l code t c = refl

-- ---- what it leaves

abbrev Left : Core → ℕ → ℕ → ℕ × Core → Type 0
Left c t n taken = OnlySteps c taken.1 t taken.0 × (taken.0 ≤ n)

left_at : (l : Limits) (code : LowModule) (n t : ℕ) (c : Core) (b : Bool) (o : Option Core) → next_is_local code c t ≡ b → step_within l code t c ≡ o →
    ((next : Core) → Left next t n (burst_within l code n t next)) → Left c t (suc n) (goes_of (burst_within l code n t) c (cond b o None))
left_at l code n t c false o is took rest = (no_steps c t, omega arith)
left_at l code n t c true None is took rest = (no_steps c t, omega arith)
left_at l code n t c true (Some next) is took rest =
    let more = rest next in
    let both : OnlySteps c (burst_within l code n t next).1 t (1 + (burst_within l code n t next).0) = more_steps c next _ t 1 _ (local_only l code c next t is took) more.0 in
    (subst (λ k. OnlySteps c (burst_within l code n t next).1 t k) (omega arith) both, omega (arith, more.1))

pub burst_left : (l : Limits) (code : LowModule) (n t : ℕ) (c : Core) → Left c t n (burst_within l code n t c)
unfolding burst_within
burst_left l code zero t c = (no_steps c t, omega arith)
burst_left l code (suc n) t c = left_at l code n t c (next_is_local code c t) (step_within l code t c) refl refl (λ next. burst_left l code n t next)

-- ---- it is the burst without limits, or ends before a step that would pass one

abbrev pub Near : Limits → LowModule → ℕ → ℕ → Core → ℕ × Core → ℕ × Core → Type 0
Near l code n t c within free =
    (within ≡ free) ⊎ ((within.0 < n) × (passed : Limit) × (limited_step l code within.1 t ≡ Stopped passed))

-- how a step within limits and one without are near
data Steps (l : Limits) (code : LowModule) (t : ℕ) (c : Core) : Type 0 where
  Both : (next : Core) → step_within l code t c ≡ Some next → step code t c ≡ Some next → Steps l code t c
  Neither : step_within l code t c ≡ None → step code t c ≡ None → Steps l code t c
  Limited : (passed : Limit) → step_within l code t c ≡ None → limited_step l code c t ≡ Stopped passed → Steps l code t c

steps_by : (l : Limits) (code : LowModule) (t : ℕ) (c : Core) (passed : Option Limit) (took : Took Core) → limit_at l code c t ≡ passed → core_step code c t ≡ took → Steps l code t c
steps_by l code t c passed Stuck p is = Neither (ap (λ x. after (limited (limit_at l code c t) x)) is) (ap after is)
steps_by l code t c passed Idle p is = Neither (ap (λ x. after (limited (limit_at l code c t) x)) is) (ap after is)
steps_by l code t c passed (Stopped m) p is = Neither (ap (λ x. after (limited (limit_at l code c t) x)) is) (ap after is)
steps_by l code t c None (Takes next ws act) p is =
    Both next (ap (λ x. after (limited (limit_at l code c t) x)) is ∙ ap (λ o. after (limited o (Takes next ws act))) p) (ap after is)
steps_by l code t c (Some m) (Takes next ws act) p is =
    let stops : limited_step l code c t ≡ Stopped m = ap (λ x. limited (limit_at l code c t) x) is ∙ ap (λ o. limited o (Takes next ws act)) p in
    Limited m (ap after stops) stops

steps_are : (l : Limits) (code : LowModule) (t : ℕ) (c : Core) → Steps l code t c
steps_are l code t c = steps_by l code t c (limit_at l code c t) (core_step code c t) refl refl

near_more : (l : Limits) (code : LowModule) (n t : ℕ) (c : Core) (within free : ℕ × Core) → Near l code n t c within free →
    Near l code (suc n) t c (within.0 + 1, within.1) (free.0 + 1, free.1)
near_more l code n t c within free (inl same) = inl (ap (λ p. (p.0 + 1, p.1)) same)
near_more l code n t c within free (inr stops) = inr (omega (arith, stops.0), stops.1, stops.2)

near_step : (l : Limits) (code : LowModule) (n t : ℕ) (c : Core) → ((next : Core) → Near l code n t c (burst_within l code n t next) (burst code n t next)) → Steps l code t c →
    Near l code (suc n) t c (goes_of (burst_within l code n t) c (step_within l code t c)) (goes_of (burst code n t) c (step code t c))
near_step l code n t c rest (Both next within free) =
    rw (within, free) (near_more l code n t c (burst_within l code n t next) (burst code n t next) (rest next))
near_step l code n t c rest (Neither within free) = rw (within, free) (inl refl)
near_step l code n t c rest (Limited passed within stops) = rw within (inr (omega arith, passed, stops))

near_at : (l : Limits) (code : LowModule) (n t : ℕ) (c : Core) (b : Bool) → ((next : Core) → Near l code n t c (burst_within l code n t next) (burst code n t next)) →
    Near l code (suc n) t c (goes_of (burst_within l code n t) c (cond b (step_within l code t c) None)) (goes_of (burst code n t) c (cond b (step code t c) None))
near_at l code n t c false rest = inl refl
near_at l code n t c true rest = near_step l code n t c rest (steps_are l code t c)

pub burst_near : (l : Limits) (code : LowModule) (n t : ℕ) (c : Core) → Near l code n t c (burst_within l code n t c) (burst code n t c)
unfolding burst_within burst
burst_near l code zero t c = inl refl
burst_near l code (suc n) t c = near_at l code n t c (next_is_local code c t) (λ next. burst_near l code n t next)

-- ---- the loop that takes a burst

-- so many of its steps were taken
pub record IsBegun (l : Limits) (code : LowModule) (start now : Core) (t taken : ℕ) : Type 0 where
  pub rest : burst_within l code longest_burst t start
      ≡ ((burst_within l code (longest_burst - taken) t now).0 + taken, (burst_within l code (longest_burst - taken) t now).1)
  pub keeps : OnlySteps start now t taken

pub none_begun : (l : Limits) (code : LowModule) (start : Core) (t : ℕ) → IsBegun l code start start t 0
none_begun l code start t = record {
  rest = ap (λ n. (n, (burst_within l code longest_burst t start).1)) (omega arith);
  keeps = no_steps start t;
}

pub next_begun : (l : Limits) (code : LowModule) (start now next : Core) (t taken : ℕ) → IsBegun l code start now t taken → taken < longest_burst →
    next_is_local code now t ≡ true → step_within l code t now ≡ Some next → IsBegun l code start next t (taken + 1)
next_begun l code start now next t taken so below is step =
    let left : longest_burst - taken ≡ suc (longest_burst - (taken + 1)) = omega (arith, below) in
    let one : burst_within l code (longest_burst - taken) t now
    ≡ ((burst_within l code (longest_burst - (taken + 1)) t next).0 + 1, (burst_within l code (longest_burst - (taken + 1)) t next).1) =
    ap (λ n. burst_within l code n t now) left ∙ one_more_burst l code (longest_burst - (taken + 1)) t now next is step in
    record {
      rest = so.rest ∙ (ap (λ p. (p.0 + taken, p.1)) one
          ∙ ap (λ n. (n, (burst_within l code (longest_burst - (taken + 1)) t next).1)) (omega arith));
      keeps = more_steps start now next t taken 1 so.keeps (local_only l code now next t is step);
    }

pub begun_ends : (l : Limits) (code : LowModule) (start now : Core) (t taken : ℕ) → IsBegun l code start now t taken →
    (next_is_local code now t ≡ false) ⊎ (step_within l code t now ≡ None) → burst_within l code longest_burst t start ≡ (taken, now)
begun_ends l code start now t taken so why =
    so.rest ∙ (ap (λ p. (p.0 + taken, p.1)) (burst_ends l code (longest_burst - taken) t now why) ∙ ap (λ n. (n, now)) (omega arith))

pub begun_whole : (l : Limits) (code : LowModule) (start now : Core) (t taken : ℕ) → IsBegun l code start now t taken → longest_burst ≤ taken → taken ≤ longest_burst →
    burst_within l code longest_burst t start ≡ (longest_burst, now)
begun_whole l code start now t taken so high low =
    let none : longest_burst - taken ≡ 0 = omega (arith, high) in
    let all : taken ≡ longest_burst = omega (arith, high, low) in
    so.rest ∙ (ap (λ n. ((burst_within l code n t now).0 + taken, (burst_within l code n t now).1)) none
    ∙ (ap (λ p. (p.0 + taken, p.1)) (none_left l code t now) ∙ ap (λ n. (n, now)) (omega (arith, all))))
