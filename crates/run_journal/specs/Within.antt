-- Bursts, entries and journals of runs that have limits: a step that would pass one isn't taken.
use Rattle.std.specs.Prelude.{ℕ, zero, suc, nat_lt, nat_eq, cond, List, [], ◌∷◌, Option, Some, None}
use Rattle.low_forms.specs.declared.code.LowModule.{LowModule}
use Rattle.source_meaning.specs.Values.{maybe}
use Rattle.step_core.specs.declared.ends.Entry.{Entry}
use Rattle.step_core.specs.declared.limits.Limits.{Limits}
use Rattle.step_core.specs.Core.{Core, limited_step}
use Rattle.step_core.specs.Runs.{after, and_then, next_is_local, one_more, longest_burst}

abbrev pub step_within : Limits → LowModule → ℕ → Core → Option Core
step_within l code t c = after (limited_step l code c t)

abbrev pub one_local_within : Limits → LowModule → ℕ → Core → Option Core
one_local_within l code t c = cond (next_is_local code c t) (step_within l code t c) None

-- how many local steps a task can take in a row, at most so many, and the state after them. They end before the next shared
-- step, before one that is stuck, and before a call where there are as many frames as may be.
unfoldable pub burst_within : Limits → LowModule → ℕ → ℕ → Core → ℕ × Core
burst_within l code zero t c = (0, c)
burst_within l code (suc most) t c =
    one_more (maybe None (λ next. Some (burst_within l code most t next)) (one_local_within l code t c)) c

-- below the longest burst the step that follows is taken too
abbrev pub after_burst_within : Limits → LowModule → ℕ → ℕ × Core → Option Core
after_burst_within l code t taken = cond (nat_lt taken.0 longest_burst) (step_within l code t taken.1) (Some taken.1)

-- an entry is possible where its number is that of the task's local steps
abbrev pub entry_within : Limits → LowModule → Core → Entry → Option Core
entry_within l code c entry =
    let taken : ℕ × Core = burst_within l code longest_burst entry.task c in
    cond (nat_eq entry.local taken.0) (after_burst_within l code entry.task taken) None

abbrev pub replay_within : Limits → LowModule → List Entry → Core → Option Core
replay_within l code [] c = Some c
replay_within l code (entry ∷ entries) c = and_then (replay_within l code entries) (entry_within l code c entry)
