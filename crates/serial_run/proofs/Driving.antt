-- How a journal goes on by one more entry, and how a run ends.
use Rattle.std.proofs.Common.{◌≡◌, ℕ, ◌+◌, ◌-◌, ◌<◌, ◌≤◌, ◌^◌, inl, inr, List, [], ◌∷◌, ◌++◌, length, Option, Some, None, Bool, true, false, true≢false, IsTrue, ◌↔◌, Result, Ok, Err, OnErr, refl, sym, ap, subst, ◌∙◌, arith, length-append}
use Rattle.low_forms.specs.declared.code.LowModule.{LowModule}
use Rattle.step_core.specs.declared.ends.Entry.{Entry}
use Rattle.step_core.specs.declared.limits.Limits.{Limits}
use Rattle.step_core.specs.Core.{Core}
use Rattle.step_core.specs.Runs.{IsFinished, and_then, replay}
use Rattle.step_core.specs.declared.limits.Limit.{Limit}
use Rattle.step_core.specs.State.{live_tasks}
use Rattle.step_core.specs.Running.{Running}
use Rattle.step_core.specs.Tasks.{IsIdle}
use Rattle.run_journal.specs.Growth.{HasRoom, IsWithin}
use Rattle.run_journal.specs.Within.{entry_within, replay_within}
use Rattle.run_journal.proofs.Entries.{entries_stay_within, starts_are_within, within_room, replays_within_are_possible}
use Rattle.serial_run.specs.declared.outcome.Outcome.TheVariants.{Finished, Short, Stopped, Spent}
use Rattle.serial_run.specs.Outcomes.{IsStart, IsPossible, IsStuck, StopsAt, HasOutcome}
use Rattle.serial_run.specs.Turns.{SameTasks}

-- so many entries lead from this start to this state
pub record IsDriven (l : Limits) (code : LowModule) (start c : Core) (journal : List Entry) (noted : ℕ) : Type 0 where
  pub replayed : replay_within l code journal start ≡ Some c
  pub within : IsWithin noted c
  pub count : length journal ≡ noted

pub none_driven : (l : Limits) (code : LowModule) (start : Core) (journal : List Entry) → IsStart start → journal ≡ [] → IsDriven l code start start journal 0
none_driven l code start journal is empty = record {
  replayed = ap (λ es. replay_within l code es start) empty;
  within = subst (IsWithin 0) (sym is.3) (starts_are_within is.0 is.1 is.2 is.4);
  count = ap length empty;
}

push_on : (o : Option Core) (f g : Core → Option Core) (c last : Core) → and_then f o ≡ Some c → ((x : Core) → f x ≡ Some c → g x ≡ Some last) → and_then g o ≡ Some last
push_on None f g c last is more = absurd (cc)
push_on (Some x) f g c last is more = more x is

-- the journal leads to c, and one more entry from there to `last`
replay_push : (l : Limits) (code : LowModule) (journal : List Entry) (entry : Entry) (start c last : Core) → replay_within l code journal start ≡ Some c →
    entry_within l code c entry ≡ Some last → replay_within l code (journal ++ entry ∷ []) start ≡ Some last
replay_push l code [] entry start c last is next =
    let same : start ≡ c = cc in
    let here : entry_within l code start entry ≡ Some last = ap (λ x. entry_within l code x entry) same ∙ next in
    ap (and_then (replay_within l code [])) here
replay_push l code (e ∷ journal) entry start c last is next =
    push_on (entry_within l code start e) (replay_within l code journal) (replay_within l code (journal ++ entry ∷ [])) c last is
    (λ x reached. replay_push l code journal entry x c last reached next)

pub driven_push : (l : Limits) (code : LowModule) (start c next : Core) (journal longer : List Entry) (noted : ℕ) (entry : Entry) → IsDriven l code start c journal noted →
    longer ≡ journal ++ entry ∷ [] → entry_within l code c entry ≡ Some next → IsDriven l code start next longer (noted + 1)
driven_push l code start c next journal longer noted entry driven is took = record {
  replayed = ap (λ es. replay_within l code es start) is ∙ replay_push l code journal entry start c next driven.replayed took;
  within = entries_stay_within l code noted c next entry driven.within took;
  count = ap length is ∙ (let both = length-append journal (entry ∷ []) in omega (arith, both, driven.count));
}

pub driven_leads : (l : Limits) (code : LowModule) (start c : Core) (journal longer : List Entry) (noted : ℕ) → IsDriven l code start c journal noted → longer ≡ journal →
    replay code longer start ≡ Some c
driven_leads l code start c journal longer noted driven same =
    ap (λ es. replay code es start) same ∙ replays_within_are_possible l code journal start c driven.replayed

-- ---- of a run

pub on_err : {T E : Type 0} (r : Result T E) (P : Type 0) → P → OnErr r P
on_err (Ok _) P holds = tt
on_err (Err _) P holds = holds

pub is_finished : (c : Core) (b : Bool) → IsTrue b ↔ IsFinished c → b ≡ true → IsFinished c
is_finished c b both is = both.0 is

pub is_unfinished : (c : Core) (b : Bool) → IsTrue b ↔ IsFinished c → b ≡ false → IsFinished c → ⊥
is_unfinished c b both is finished = true≢false (sym (both.1 finished) ∙ is)

pub none_possible : (code : LowModule) (start : Core) (journal : List Entry) → journal ≡ [] → IsPossible code start journal
none_possible code start journal empty = (start, ap (λ es. replay code es start) empty)

abbrev pub Driven : Running → Running → List Entry → ℕ → Type 0
Driven start now journal noted = (now.code ≡ start.code) × (now.limits ≡ start.limits) × IsDriven start.limits start.code start.core now.core journal noted

pub driven_starts : (start : Running) (journal : List Entry) → IsStart start.core → journal ≡ [] → Driven start start journal 0
driven_starts start journal is empty = (refl, refl, none_driven start.limits start.code start.core journal is empty)

leads : (start now : Running) (journal : List Entry) (noted : ℕ) → Driven start now journal noted → replay start.code journal start.core ≡ Some now.core
leads start now journal noted so = driven_leads start.limits start.code start.core now.core journal journal noted so.2 refl

module _ (start now new : Running) (journal : List Entry) (noted : ℕ) (so : Driven start now journal noted) where
  here_within : (entry : Entry) (o : Option Core) → entry_within now.limits now.code now.core entry ≡ o → entry_within start.limits start.code now.core entry ≡ o
  here_within entry o is = ap (λ l. entry_within l start.code now.core entry) (sym so.1) ∙ (ap (λ code. entry_within now.limits code now.core entry) (sym so.0) ∙ is)

  pub driven_next : (longer : List Entry) (entry : Entry) → longer ≡ journal ++ entry ∷ [] → (new.code ≡ now.code) × (new.limits ≡ now.limits) →
      entry_within now.limits now.code now.core entry ≡ Some new.core → Driven start new longer (noted + 1)
  driven_next longer entry is same took = (
    same.0 ∙ so.0,
    same.1 ∙ so.1,
    driven_push start.limits start.code start.core now.core new.core journal longer noted entry so.2 is (here_within entry (Some new.core) took),
  )

  pub driven_possible : (same : List Entry) → same ≡ journal → IsPossible start.code start.core same
  driven_possible same is = (now.core, driven_leads start.limits start.code start.core now.core journal same noted so.2 is)

  pub driven_room : noted < 2 ^ 24 → HasRoom now.core
  driven_room few = within_room noted now.core so.2.within (omega (arith, few))

  -- an entry that is noted, also where memory runs out after it
  pub noted_possible : (longer : List Entry) (entry : Entry) → longer ≡ journal ++ entry ∷ [] → entry_within now.limits now.code now.core entry ≡ Some new.core →
      IsPossible start.code start.core longer
  noted_possible longer entry is took =
      let more = driven_push start.limits start.code start.core now.core new.core journal longer noted entry so.2 is (here_within entry (Some new.core) took) in
      (new.core, driven_leads start.limits start.code start.core new.core longer longer (noted + 1) more refl)

  pub few_tasks : noted < 2 ^ 24 → SameTasks now.core new.core → length new.core.plain.tasks < 2 ^ 32 - 1
  few_tasks few same = let room = driven_room few in omega (arith, room.tasks, same.1)

  pub out_finished : (most : ℕ) → IsFinished now.core → noted ≤ most → HasOutcome start.limits start.code most start.core journal now.core Finished
  out_finished most finished few = (leads start now journal noted so, finished, (let count = so.2.count in omega (arith, count, few)))

  pub out_spent : (most : ℕ) → (IsFinished now.core → ⊥) → most ≤ noted → noted ≤ most → HasOutcome start.limits start.code most start.core journal now.core Spent
  out_spent most unfinished high low = (leads start now journal noted so, unfinished, (let count = so.2.count in omega (arith, count, high, low)))

  pub out_idle : (most parked : ℕ) → (IsFinished now.core → ⊥) → parked ≡ live_tasks now.core.plain.tasks → ((t : ℕ) → IsIdle now.core.plain.tasks t) → noted < most →
      HasOutcome start.limits start.code most start.core journal now.core (Short parked)
  out_idle most parked unfinished live idle few =
      (now.core, leads start now journal noted so, unfinished, live, inl idle, (let count = so.2.count in omega (arith, count, few)))

  pub out_stuck : (most parked t : ℕ) → (IsFinished now.core → ⊥) → parked ≡ live_tasks new.core.plain.tasks → IsStuck now.code now.core t × SameTasks now.core new.core → noted < most →
      HasOutcome start.limits start.code most start.core journal new.core (Short parked)
  out_stuck most parked t unfinished live stuck few =
      (now.core, leads start now journal noted so, unfinished, live ∙ stuck.1.0, inr (t, subst (λ code. IsStuck code now.core t) so.0 stuck.0), (let count = so.2.count in omega (arith, count, few)))

  pub out_stopped : (most t : ℕ) (limit : Limit) → (IsFinished now.core → ⊥) → StopsAt limit now.limits now.code now.core t × SameTasks now.core new.core → noted < most →
      HasOutcome start.limits start.code most start.core journal new.core (Stopped limit)
  out_stopped most t limit unfinished stops few =
      let here : StopsAt limit start.limits start.code now.core t = subst (λ code. StopsAt limit start.limits code now.core t) so.0 (subst (λ l. StopsAt limit l now.code now.core t) so.1 stops.0) in
      (now.core, leads start now journal noted so, unfinished, (t, here), (let count = so.2.count in omega (arith, count, few)))
