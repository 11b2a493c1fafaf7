-- Small traces, worked out.
use Rattle.std.specs.Prelude.{◌≡◌, Bool, true, false, List, [], ◌∷◌, Some, None}
use Rattle.ir_forms.specs.declared.names.Action.{Action}
use Rattle.ir_forms.specs.declared.names.Action.TheVariants.{Read, Write, Create, Add, Launch, Enter, JoinAll, Await, AwaitAll, End}
use Rattle.ir_forms.specs.declared.names.ElementName.TheVariants.{Token}
use Rattle.ir_forms.specs.declared.names.MadeName.{MadeName}
use Rattle.ir_forms.specs.declared.names.MadeName.TheVariants.{Argument, Made}
use Rattle.ir_forms.specs.declared.names.TraceEntry.{TraceEntry}
use Rattle.ir_forms.specs.Names.{Path}
use Rattle.race_order.specs.Race.{first_race_in}

-- an entry of the task of this path
abbrev pub by : Path → Action → TraceEntry
by p a = record { task = p; action = a }

-- the buffer that the root was given
abbrev pub buffer : MadeName
buffer = Argument 0

-- the tasks that the root launches by its first three actions
abbrev pub first : Path
first = 1 ∷ []

abbrev pub second : Path
second = 2 ∷ []

abbrev pub third : Path
third = 3 ∷ []

-- a task that reads or writes the first cell, and one that does so beside it
abbrev pub two : Action → Action → List TraceEntry
two a b =
    by [] (Launch 0) ∷ by first a ∷ by first (End true) ∷ by [] (Launch 0) ∷ by second b ∷ by second (End true) ∷ by [] (End true) ∷ []

-- the same with the first awaited before the second is launched
abbrev pub awaited : Action → Action → List TraceEntry
awaited a b =
    by [] (Launch 0) ∷ by first a ∷ by first (End true) ∷ by [] (Await (Token first)) ∷ by [] (Launch 0) ∷ by third b ∷ by third (End true) ∷ by [] (End true) ∷ []

-- two tasks read, the last one is awaited, and the root writes: the last access hides the first
abbrev pub hidden : List TraceEntry
hidden =
    by [] (Launch 0) ∷ by first (Read buffer 0) ∷ by first (End true) ∷ by [] (Launch 0) ∷ by second (Read buffer 0) ∷ by second (End true) ∷
    by [] (Await (Token second)) ∷ by [] (Write buffer 0) ∷ by [] (End true) ∷ []

-- a group that the root makes and awaits, of the token of a task that writes
abbrev pub group : MadeName
group = Made [] 1

abbrev pub through_group : List TraceEntry
through_group =
    by [] (Create 2) ∷ by [] (Launch 0) ∷ by second (Write buffer 0) ∷ by second (End true) ∷ by [] (Add group (Token second) false) ∷
    by [] (Launch 0) ∷ by (4 ∷ []) (Write buffer 1) ∷ by (4 ∷ []) (End true) ∷ by [] (Add group (Token (4 ∷ [])) false) ∷
    by [] (AwaitAll group) ∷ by [] (Write buffer 0) ∷ by [] (Write buffer 1) ∷ by [] (End true) ∷ []

-- two iterations that write so, and what their maker does before and behind them
abbrev pub in_loop : Action → Action → List TraceEntry
in_loop a b =
    by [] (Write buffer 0) ∷ by [] (Enter 2 true) ∷ by (2 ∷ 0 ∷ []) a ∷ by (2 ∷ 0 ∷ []) (End true) ∷ by (2 ∷ 1 ∷ []) b ∷ by (2 ∷ 1 ∷ []) (End true) ∷
    by [] JoinAll ∷ by [] (Write buffer 0) ∷ by [] (End true) ∷ []

-- two tasks add to one group, and use their ranks or not
abbrev pub adders : Bool → Bool → List TraceEntry
adders u v =
    by [] (Create 2) ∷ by [] (Launch 0) ∷ by second (Add group (Token second) u) ∷ by second (End true) ∷ by [] (Launch 0) ∷ by third (Add group (Token third) v) ∷ by third (End true) ∷
    by [] (AwaitAll group) ∷ by [] (End true) ∷ []

-- what the first races of these are
pub record WorkedRaces : Type 0 where
  pub two_reads : first_race_in (two (Read buffer 0) (Read buffer 0)) ≡ None
  pub two_writes : first_race_in (two (Write buffer 0) (Write buffer 0)) ≡ Some (1, 4)
  pub write_and_read : first_race_in (two (Write buffer 0) (Read buffer 0)) ≡ Some (1, 4)
  pub read_and_write : first_race_in (two (Read buffer 0) (Write buffer 0)) ≡ Some (1, 4)
  pub other_cells : first_race_in (two (Write buffer 0) (Write buffer 1)) ≡ None
  pub behind_await : first_race_in (awaited (Write buffer 0) (Write buffer 0)) ≡ None
  pub behind_last_access : first_race_in hidden ≡ Some (1, 7)
  pub grouped : first_race_in through_group ≡ None
  pub loop_cells : first_race_in (in_loop (Write buffer 0) (Write buffer 1)) ≡ None
  pub loop_race : first_race_in (in_loop (Write buffer 0) (Write buffer 0)) ≡ Some (2, 4)
  pub unused_ranks : first_race_in (adders false false) ≡ None
  pub first_used : first_race_in (adders true false) ≡ Some (2, 5)
  pub second_used : first_race_in (adders false true) ≡ Some (2, 5)
