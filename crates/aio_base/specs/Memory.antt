-- Sources and sinks in memory, and what one call does to them.
use Rattle.std.specs.Prelude.{ℕ, ◌+◌, ◌-◌, ◌<◌, ◌≤◌, ◌⊎◌, min, List, [], ◌++◌, length, drop, Contains}
use Rattle.aio_base.specs.Faults.{next_count}

-- an input in memory: the bytes left, the numbers of the calls that fail, and the counts of calls and of faults so far
pub record Input : Type 0 where
  pub left : List ℕ
  pub fails : List ℕ
  pub calls : ℕ
  pub faults : ℕ

-- an input before its first call
abbrev pub fresh_input : List ℕ → List ℕ → Input
fresh_input bytes fails = record { left = bytes; fails = fails; calls = 0; faults = 0 }

-- the next read fails: its number, from 1, stands among those that fail
abbrev pub ReadFails : Input → Type 0
ReadFails input = Contains input.fails (input.calls + 1)

-- how many bytes the next read gives, for a piece of this length
abbrev pub read_count : Input → ℕ → ℕ
read_count input room = min room (length input.left)

-- a read gave this many bytes
abbrev pub after_read : Input → ℕ → Input
after_read input count = record {
  left = drop count input.left;
  fails = input.fails;
  calls = next_count input.calls;
  faults = input.faults;
}

-- a read failed
abbrev pub after_failed_read : Input → Input
after_failed_read input = record {
  left = input.left;
  fails = input.fails;
  calls = next_count input.calls;
  faults = next_count input.faults;
}

-- an output in memory: the bytes taken, the most that one call takes, the most bytes in all,
-- the numbers of the calls that fail, and the counts of calls and of faults so far
pub record Output : Type 0 where
  pub taken : List ℕ
  pub step : ℕ
  pub room : ℕ
  pub fails : List ℕ
  pub calls : ℕ
  pub faults : ℕ

-- an output before its first call
abbrev pub fresh_output : ℕ → ℕ → List ℕ → Output
fresh_output step room fails = record { taken = []; step = step; room = room; fails = fails; calls = 0; faults = 0 }

-- the next write of this piece fails: by its number, from 1, or because the room is used up
abbrev pub WriteFails : Output → List ℕ → Type 0
WriteFails output piece =
    Contains output.fails (output.calls + 1) ⊎ ((output.room ≤ length output.taken) × (0 < length piece))

-- how many bytes of a piece of this length the next write takes
abbrev pub write_count : Output → ℕ → ℕ
write_count output len = min (min len output.step) (output.room - length output.taken)

-- a write took these bytes
abbrev pub after_write : Output → List ℕ → Output
after_write output bytes = record {
  taken = output.taken ++ bytes;
  step = output.step;
  room = output.room;
  fails = output.fails;
  calls = next_count output.calls;
  faults = output.faults;
}

-- a write failed
abbrev pub after_failed_write : Output → Output
after_failed_write output = record {
  taken = output.taken;
  step = output.step;
  room = output.room;
  fails = output.fails;
  calls = next_count output.calls;
  faults = next_count output.faults;
}
