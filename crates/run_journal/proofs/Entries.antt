-- Entries: which are possible, what they make, and how a journal goes on behind one.
use Rattle.std.proofs.Common.{inl, inr, MatchOption, ◌≡◌, ◌≢◌, ◌⊎◌, ℕ, zero, suc, ◌+◌, ◌-◌, ◌*◌, ◌^◌, ◌<◌, ◌≤◌, nat_eq, nat_lt, Bool, true, false, cond, List, [], ◌∷◌, length, get_or, drop, Option, Some, None, is_some, IsSome, refl, sym, ap, subst, ◌∙◌, arith, drop-cons, add-one}
use Rattle.std.proofs.lemmas.List.{drop_all}
use Rattle.std.proofs.lemmas.Bool.Decides.{nat_tests}
use Rattle.ir_forms.specs.declared.args.ArgValue.{ArgValue}
use Rattle.ir_forms.specs.declared.args.ArgValue.TheVariants as arg
use Rattle.ir_forms.specs.declared.runs.ObjNo.{ObjNo}
use Rattle.low_forms.specs.declared.code.LowModule.{LowModule}
use Rattle.source_meaning.specs.Values.{maybe}
use Rattle.step_core.specs.declared.ends.Entry.{Entry}
use Rattle.step_core.specs.declared.limits.Limits.{Limits}
use Rattle.step_core.specs.declared.tasks.Task.{Task}
use Rattle.step_core.specs.State.{argument_cells, task_at}
use Rattle.step_core.specs.Shared.{Took, Idle, Stopped}
use Rattle.step_core.specs.Plain.{by_local, ready_step, plain_step, changes}
use Rattle.step_core.specs.Core.{Core, overlay, limited, limited_step, limit_at, may_step}
use Rattle.step_core.specs.Runs.{after, and_then, longest_burst, burst, after_burst, step, entry_after, replay}
use Rattle.step_core.specs.Tasks.{IsReady}
use Rattle.task_stack.specs.Local.{free_step}
use Rattle.run_journal.specs.declared.faults.TaskLook.{TaskLook}
use Rattle.run_journal.specs.declared.faults.ReplayFault.TheVariants.{NotARun}
use Rattle.run_journal.specs.Within.{step_within, burst_within, after_burst_within, entry_within, replay_within}
use Rattle.run_journal.specs.Replay.{local_ahead, look, look_of, first_fault, fault_at}
use Rattle.run_journal.specs.Laws.{IsImpossible, ImpossibleByCases, ReplayedOrNamed, EntriesWithinArePossible, ReplaysWithinArePossible}
use Rattle.run_journal.specs.Growth.{HasRoom, IsWithin, EntriesStayWithin, StartsAreWithin}
use Rattle.run_journal.proofs.Steps.{OnlySteps, Grows, step_free, step_grows}
use Rattle.run_journal.proofs.Bursts.{Near, burst_ends, burst_left, burst_near}

-- ---- an entry by its burst

pub after_full : (l : Limits) (code : LowModule) (t : ℕ) (taken : ℕ × Core) → longest_burst ≤ taken.0 → after_burst_within l code t taken ≡ Some taken.1
after_full l code t taken high = let test : nat_lt taken.0 longest_burst ≡ false = grind (arith, nat_tests, high) in rw test refl

pub after_short : (l : Limits) (code : LowModule) (t : ℕ) (taken : ℕ × Core) → taken.0 < longest_burst → after_burst_within l code t taken ≡ step_within l code t taken.1
after_short l code t taken below = let test : nat_lt taken.0 longest_burst ≡ true = grind (arith, nat_tests, below) in rw test refl

pub entry_agrees : (l : Limits) (code : LowModule) (c : Core) (entry : Entry) (o : Option Core) → (burst_within l code longest_burst entry.task c).0 ≡ entry.local →
    after_burst_within l code entry.task (burst_within l code longest_burst entry.task c) ≡ o → entry_within l code c entry ≡ o
entry_agrees l code c entry o same is =
    let test : nat_eq entry.local (burst_within l code longest_burst entry.task c).0 ≡ true = grind (arith, nat_tests, same) in rw test is

pub entry_differs : (l : Limits) (code : LowModule) (c : Core) (entry : Entry) → (burst_within l code longest_burst entry.task c).0 ≢ entry.local → entry_within l code c entry ≡ None
entry_differs l code c entry other =
    let test : nat_eq entry.local (burst_within l code longest_burst entry.task c).0 ≡ false = grind (arith, nat_tests, other) in rw test refl

either_none : (b : Bool) (x : Option Core) → x ≡ None → cond b x None ≡ None
either_none true x is = is
either_none false x is = refl

-- a task that can't take a step has no possible entry
pub entry_refused : (l : Limits) (code : LowModule) (c : Core) (entry : Entry) → step_within l code entry.task c ≡ None → entry_within l code c entry ≡ None
entry_refused l code c entry none =
    let stays : burst_within l code longest_burst entry.task c ≡ (0, c) = burst_ends l code longest_burst entry.task c (inr none) in
    let follows : after_burst_within l code entry.task (burst_within l code longest_burst entry.task c) ≡ None = ap (after_burst_within l code entry.task) stays ∙ none in
    either_none (nat_eq entry.local (burst_within l code longest_burst entry.task c).0) _ follows

cond_some : (b : Bool) (x : Option Core) (y : Core) → cond b x None ≡ Some y → (b ≡ true) × (x ≡ Some y)
cond_some true x y is = (refl, is)
cond_some false x y is = absurd (cc)

-- ---- what is possible within limits is possible without

agrees_free : (b : Bool) (o p : Option Core) (next : Core) → (o ≡ Some next → p ≡ Some next) → cond b o None ≡ Some next → cond b p None ≡ Some next
agrees_free true o p next free is = free is
agrees_free false o p next free is = is

follows_free : (l : Limits) (code : LowModule) (t : ℕ) (b : Bool) (at next : Core) → cond b (step_within l code t at) (Some at) ≡ Some next → cond b (step code t at) (Some at) ≡ Some next
follows_free l code t true at next is = step_free l code at next t is
follows_free l code t false at next is = is

pair_free : (l : Limits) (code : LowModule) (entry : Entry) (taken : ℕ × Core) (next : Core) →
    cond (nat_eq entry.local taken.0) (after_burst_within l code entry.task taken) None ≡ Some next → cond (nat_eq entry.local taken.0) (after_burst code entry.task taken) None ≡ Some next
pair_free l code entry taken next is =
    agrees_free (nat_eq entry.local taken.0) (after_burst_within l code entry.task taken) (after_burst code entry.task taken) next
    (follows_free l code entry.task (nat_lt taken.0 longest_burst) taken.1 next) is

near_free : (l : Limits) (code : LowModule) (c next : Core) (entry : Entry) → Near l code longest_burst entry.task c (burst_within l code longest_burst entry.task c) (burst code longest_burst entry.task c) →
    entry_within l code c entry ≡ Some next → entry_after code c entry ≡ Some next
near_free l code c next entry (inl same) is =
    ap (λ p. cond (nat_eq entry.local p.0) (after_burst code entry.task p) None) (sym same) ∙ pair_free l code entry (burst_within l code longest_burst entry.task c) next is
near_free l code c next entry (inr stops) is =
    let follows = (cond_some (nat_eq entry.local (burst_within l code longest_burst entry.task c).0) _ next is).1 in
    let none : step_within l code entry.task (burst_within l code longest_burst entry.task c).1 ≡ None = ap after stops.2 in
    let both : Some next ≡ None = sym follows ∙ (after_short l code entry.task (burst_within l code longest_burst entry.task c) stops.0 ∙ none) in
    absurd (cc)

pub entries_within_are_possible : EntriesWithinArePossible
entries_within_are_possible l code c next entry is = near_free l code c next entry (burst_near l code longest_burst entry.task c) is

then_free : (f g : Core → Option Core) (o p : Option Core) (last : Core) → ((next : Core) → o ≡ Some next → p ≡ Some next) → ((next : Core) → f next ≡ Some last → g next ≡ Some last) →
    and_then f o ≡ Some last → and_then g p ≡ Some last
then_free f g None p last first later is = absurd (cc)
then_free f g (Some next) p last first later is = let same = first next refl in rw same (later next is)

pub replays_within_are_possible : ReplaysWithinArePossible
replays_within_are_possible l code [] c last is = is
replays_within_are_possible l code (entry ∷ entries) c last is =
    then_free (replay_within l code entries) (replay code entries) (entry_within l code c entry) (entry_after code c entry) last
    (λ next. entries_within_are_possible l code c next entry) (λ next. replays_within_are_possible l code entries next last) is

-- ---- what entries make

follows_within : (l : Limits) (code : LowModule) (k : ℕ) (c at next : Core) (t n : ℕ) (b : Bool) → IsWithin k c → OnlySteps c at t n → n ≤ 4096 →
    cond b (step_within l code t at) (Some at) ≡ Some next → IsWithin (k + 1) next
follows_within l code k c at next t n true within keeps most is =
    let grows = step_grows l code at next t is in
    record {
      steps = omega (arith, grows.steps, keeps.steps, within.steps, most);
      tasks = omega (arith, grows.tasks, keeps.tasks, within.tasks);
      objects = omega (arith, grows.objects, keeps.objects, within.objects);
      buffers = omega (arith, grows.buffers, keeps.buffers, within.buffers);
    }
follows_within l code k c at next t n false within keeps most is =
    let same : at ≡ next = cc in
    subst (IsWithin (k + 1)) same (record {
      steps = omega (arith, keeps.steps, within.steps, most);
      tasks = omega (arith, keeps.tasks, within.tasks);
      objects = omega (arith, keeps.objects, within.objects);
      buffers = omega (arith, keeps.buffers, within.buffers);
    })

pub entries_stay_within : EntriesStayWithin
entries_stay_within l code k c next entry within is =
    let t : ℕ = entry.task in
    let left = burst_left l code longest_burst t c in
    let follows = (cond_some (nat_eq entry.local (burst_within l code longest_burst t c).0) _ next is).1 in
    follows_within l code k c (burst_within l code longest_burst t c).1 next t (burst_within l code longest_burst t c).0
    (nat_lt (burst_within l code longest_burst t c).0 longest_burst) within left.0 left.1 follows

pub cells_most : (args : List ArgValue) → length (argument_cells args) ≤ length args
cells_most [] = omega arith
cells_most (arg.Number n ∷ args) = let more = cells_most args in omega (arith, more)
cells_most (arg.Cells dims cells ∷ args) = let more = cells_most args in omega (arith, more)

pub starts_are_within : StartsAreWithin
starts_are_within n f args few = record {
  steps = omega arith;
  tasks = omega arith;
  objects = omega arith;
  buffers = (let cells = cells_most args in omega (arith, few, cells));
}

pub within_room : (k : ℕ) (c : Core) → IsWithin k c → k < 2 ^ 27 → HasRoom c
within_room k c within few = record {
  steps = omega (arith, within.steps, few);
  tasks = omega (arith, within.tasks, few);
  objects = omega (arith, within.objects, few);
  buffers = omega (arith, within.buffers, few);
}

-- ---- what is told of a task

ready_look : (l : Limits) (code : LowModule) (c : Core) (t : ℕ) → IsReady c.plain.tasks t →
    look l code c t ≡ Some (record { parked = false; local = (burst_within l code longest_burst t c).0 })
ready_look l code c t r = ap (λ o. maybe None (λ task. Some (look_of l code c t task)) o) r

pub seen_ready : (l : Limits) (code : LowModule) (c now : Core) (t local : ℕ) → IsReady c.plain.tasks t → burst_within l code longest_burst t c ≡ (local, now) →
    Some (record { parked = false; local = local }) ≡ look l code c t
seen_ready l code c now t local r taken =
    sym (ready_look l code c t r ∙ ap (λ p. let seen : TaskLook = record { parked = false; local = p.0 } in Some seen) taken)

pub seen_none : (l : Limits) (code : LowModule) (c : Core) (t : ℕ) → task_at c.plain t ≡ None → None ≡ look l code c t
seen_none l code c t gone = sym (ap (λ o. maybe None (λ task. Some (look_of l code c t task)) o) gone)

pub seen_parked : (l : Limits) (code : LowModule) (c : Core) (t local : ℕ) (task : Task) (o : ObjNo) → task_at c.plain t ≡ Some task → task.parked ≡ Some o →
    local ≡ local_ahead code longest_burst task.stack → Some (record { parked = true; local = local }) ≡ look l code c t
seen_parked l code c t local task o there parked count =
    let here : look l code c t ≡ Some (look_of l code c t task) = ap (λ x. maybe None (λ task. Some (look_of l code c t task)) x) there in
    let waits : look_of l code c t task ≡ record { parked = true; local = local_ahead code longest_burst task.stack } =
    ap (λ p. let seen : TaskLook = record { parked = is_some p; local = maybe (burst_within l code longest_burst t c).0 (λ x. local_ahead code longest_burst task.stack) p } in seen) parked in
    sym (here ∙ ap Some (waits ∙ ap (λ n. let seen : TaskLook = record { parked = true; local = n } in seen) (sym count)))

-- a task that isn't there or is parked takes no step
idle_none : (l : Limits) (code : LowModule) (c : Core) (t : ℕ) → plain_step code c.plain t ≡ Idle → step_within l code t c ≡ None
idle_none l code c t idle = ap (λ took. after (limited (limit_at l code c t) (overlay (may_step code c t) c (changes code c.plain t) took))) idle

pub gone_none : (l : Limits) (code : LowModule) (c : Core) (t : ℕ) → task_at c.plain t ≡ None → step_within l code t c ≡ None
gone_none l code c t gone = idle_none l code c t (ap (λ o. maybe Idle (ready_step code c.plain t) o) gone)

pub parked_none : (l : Limits) (code : LowModule) (c : Core) (t : ℕ) (task : Task) (o : ObjNo) → task_at c.plain t ≡ Some task → task.parked ≡ Some o → step_within l code t c ≡ None
parked_none l code c t task o there parked =
    idle_none l code c t (ap (λ x. maybe Idle (ready_step code c.plain t) x) there
    ∙ ap (λ p. maybe (by_local (free_step code task.stack) code c.plain t task.stack) (λ x. Idle) p) parked)

-- ---- which entries aren't possible

data Sees (l : Limits) (code : LowModule) (c : Core) (t : ℕ) : Type 0 where
  Gone : look l code c t ≡ None → step_within l code t c ≡ None → Sees l code c t
  Waits : (n : ℕ) → look l code c t ≡ Some (record { parked = true; local = n }) → step_within l code t c ≡ None → Sees l code c t
  Works : look l code c t ≡ Some (record { parked = false; local = (burst_within l code longest_burst t c).0 }) → Sees l code c t

sees_task : (l : Limits) (code : LowModule) (c : Core) (t : ℕ) (task : Task) (parked : Option ObjNo) → task_at c.plain t ≡ Some task → task.parked ≡ parked → Sees l code c t
sees_task l code c t task None there is =
    Works (ap (λ o. maybe None (λ task. Some (look_of l code c t task)) o) there
    ∙ ap (λ p. let seen : TaskLook = record { parked = is_some p; local = maybe (burst_within l code longest_burst t c).0 (λ x. local_ahead code longest_burst task.stack) p } in Some seen) is)
sees_task l code c t task (Some o) there is =
    Waits (local_ahead code longest_burst task.stack) (sym (seen_parked l code c t _ task o there is refl)) (parked_none l code c t task o there is)

sees_at : (l : Limits) (code : LowModule) (c : Core) (t : ℕ) (o : Option Task) → task_at c.plain t ≡ o → Sees l code c t
sees_at l code c t None is = Gone (sym (seen_none l code c t is)) (gone_none l code c t is)
sees_at l code c t (Some task) is = sees_task l code c t task task.parked is refl

sees : (l : Limits) (code : LowModule) (c : Core) (t : ℕ) → Sees l code c t
sees l code c t = sees_at l code c t (task_at c.plain t) refl

-- a test of numbers, and what it tells
data Compared (a b : ℕ) : Type 0 where
  Same : a ≡ b → Compared a b
  Other : a ≢ b → Compared a b

compared : (a b : ℕ) → Compared a b
compared zero zero = Same refl
compared zero (suc b) = Other (λ e. omega arith)
compared (suc a) zero = Other (λ e. omega arith)
compared (suc a) (suc b) = elim (compared a b) [ Same e ↦ Same (ap (λ n. suc n) e) | Other f ↦ Other (λ e. f (omega arith)) ]

agreed : (l : Limits) (code : LowModule) (c : Core) (entry : Entry) → entry_within l code c entry ≡ None → (burst_within l code longest_burst entry.task c).0 ≡ entry.local →
    (entry.local < longest_burst) × (step_within l code entry.task (burst_within l code longest_burst entry.task c).1 ≡ None)
agreed l code c entry none same =
    let taken : ℕ × Core = burst_within l code longest_burst entry.task c in
    let follows : after_burst_within l code entry.task taken ≡ None = sym (entry_agrees l code c entry _ same refl) ∙ none in
    let most : taken.0 ≤ longest_burst = (burst_left l code longest_burst entry.task c).1 in
    elim (compared taken.0 longest_burst) [
      | Same full ↦ absurd (let both : Some taken.1 ≡ None = sym (after_full l code entry.task taken (omega (arith, full))) ∙ follows in cc both)
      | Other short ↦ (omega (arith, same, short, most), sym (after_short l code entry.task taken (omega (arith, short, most))) ∙ follows)
    ]

to_cases : (l : Limits) (code : LowModule) (c : Core) (entry : Entry) → Sees l code c entry.task → entry_within l code c entry ≡ None → IsImpossible l code c entry (look l code c entry.task)
to_cases l code c entry (Gone is step) none = subst (IsImpossible l code c entry) (sym is) tt
to_cases l code c entry (Waits n is step) none = subst (IsImpossible l code c entry) (sym is) (inl refl)
to_cases l code c entry (Works is) none = subst (IsImpossible l code c entry) (sym is)
    (elim (compared (burst_within l code longest_burst entry.task c).0 entry.local) [
      | Same same ↦ inr (inr (agreed l code c entry none same))
      | Other other ↦ inr (inl other)
    ])

late_refused : (l : Limits) (code : LowModule) (c : Core) (entry : Entry) → (entry.local < longest_burst) × (step_within l code entry.task (burst_within l code longest_burst entry.task c).1 ≡ None) →
    entry_within l code c entry ≡ None
late_refused l code c entry late =
    let taken : ℕ × Core = burst_within l code longest_burst entry.task c in
    elim (compared taken.0 entry.local) [
      | Same same ↦ entry_agrees l code c entry None same (after_short l code entry.task taken (omega (arith, same, late.0)) ∙ late.1)
      | Other other ↦ entry_differs l code c entry other
    ]

of_cases : (l : Limits) (code : LowModule) (c : Core) (entry : Entry) → Sees l code c entry.task → IsImpossible l code c entry (look l code c entry.task) → entry_within l code c entry ≡ None
of_cases l code c entry (Gone is step) why = entry_refused l code c entry step
of_cases l code c entry (Waits n is step) why = entry_refused l code c entry step
of_cases l code c entry (Works is) why =
    let here : IsImpossible l code c entry (Some (record { parked = false; local = (burst_within l code longest_burst entry.task c).0 })) = subst (IsImpossible l code c entry) is why in
    elim here [
      | inl waits ↦ absurd (let both : false ≡ true = waits in cc both)
      | inr rest ↦ elim rest [
        | inl other ↦ entry_differs l code c entry other
        | inr late ↦ late_refused l code c entry late
      ]
    ]

pub impossible_by_cases : ImpossibleByCases
impossible_by_cases l code c entry = (to_cases l code c entry (sees l code c entry.task), of_cases l code c entry (sees l code c entry.task))

named_or : (l : Limits) (code : LowModule) (k : ℕ) (entry : Entry) (entries : List Entry) (seen : Option TaskLook) (o : Option Core) →
    ((next : Core) → MatchOption (replay_within l code entries next) (IsSome (first_fault l code (k + 1) entries next)) (λ end. first_fault l code (k + 1) entries next ≡ None)) →
    MatchOption (and_then (replay_within l code entries) o) (IsSome (fault_at k entry seen (first_fault l code (k + 1) entries) o))
    (λ end. fault_at k entry seen (first_fault l code (k + 1) entries) o ≡ None)
named_or l code k entry entries seen None rest = refl
named_or l code k entry entries seen (Some next) rest = rest next

pub replayed_or_named : ReplayedOrNamed
replayed_or_named l code k [] c = refl
replayed_or_named l code k (entry ∷ entries) c =
    named_or l code k entry entries (look l code c entry.task) (entry_within l code c entry) (λ next. replayed_or_named l code (k + 1) entries next)

-- ---- how a journal goes on

-- so many entries of the journal were taken
pub record IsReplayed (l : Limits) (code : LowModule) (start c : Core) (journal : List Entry) (k : ℕ) : Type 0 where
  pub state : replay_within l code journal start ≡ replay_within l code (drop k journal) c
  pub fault : first_fault l code 0 journal start ≡ first_fault l code k (drop k journal) c
  pub within : IsWithin k c

opened : (journal : List Entry) (k : ℕ) (d : Entry) → k < length journal → drop k journal ≡ get_or journal k d ∷ drop (k + 1) journal
opened journal k d below = drop-cons journal k d below ∙ ap (λ n. get_or journal k d ∷ drop n journal) (sym (add-one k))

pub none_replayed : (l : Limits) (code : LowModule) (start : Core) (journal : List Entry) → IsWithin 0 start → IsReplayed l code start start journal 0
none_replayed l code start journal within = record { state = refl; fault = refl; within = within }

pub replay_next : (l : Limits) (code : LowModule) (start c next : Core) (journal : List Entry) (k : ℕ) (d : Entry) → k < length journal →
    IsReplayed l code start c journal k → entry_within l code c (get_or journal k d) ≡ Some next → IsReplayed l code start next journal (k + 1)
replay_next l code start c next journal k d below so is = record {
  state = so.state ∙ (ap (λ es. replay_within l code es c) (opened journal k d below) ∙ ap (and_then (replay_within l code (drop (k + 1) journal))) is);
  fault = so.fault ∙ (ap (λ es. first_fault l code k es c) (opened journal k d below)
      ∙ ap (fault_at k (get_or journal k d) (look l code c (get_or journal k d).task) (first_fault l code (k + 1) (drop (k + 1) journal))) is);
  within = entries_stay_within l code k c next (get_or journal k d) so.within is;
}

pub replay_stops : (l : Limits) (code : LowModule) (start c : Core) (journal : List Entry) (k : ℕ) (d : Entry) → k < length journal →
    IsReplayed l code start c journal k → entry_within l code c (get_or journal k d) ≡ None →
    first_fault l code 0 journal start ≡ Some (NotARun k (get_or journal k d) (look l code c (get_or journal k d).task))
replay_stops l code start c journal k d below so is =
    so.fault ∙ (ap (λ es. first_fault l code k es c) (opened journal k d below)
    ∙ ap (fault_at k (get_or journal k d) (look l code c (get_or journal k d).task) (first_fault l code (k + 1) (drop (k + 1) journal))) is)

pub replay_ends : (l : Limits) (code : LowModule) (start c : Core) (journal : List Entry) (k : ℕ) → length journal ≤ k →
    IsReplayed l code start c journal k → replay_within l code journal start ≡ Some c
replay_ends l code start c journal k high so = so.state ∙ ap (λ es. replay_within l code es c) (drop_all k journal high)
