-- What worked runs show, under the names of the source.
use Rattle.std.specs.Prelude.{◌≡◌, ℕ, Bool, true, false, List, [], ◌∷◌, Some}
use Rattle.std.specs.Option.{option_map}
use Rattle.ir_forms.specs.declared.names.Action.TheVariants.{Launch, Await, End}
use Rattle.ir_forms.specs.declared.names.ElementName.TheVariants.{Value}
use Rattle.ir_forms.specs.declared.names.TraceEntry.{TraceEntry}
use Rattle.low_forms.specs.declared.code.LowFunc.{LowFunc}
use Rattle.low_forms.specs.declared.code.LowModule.{LowModule}
use Rattle.machines.specs.Machine.{run}
use Rattle.source_meaning.specs.Sequential.{shows}
use Rattle.task_stack.specs.Worked.{main}
use Rattle.step_core.specs.Worked.{awaits_seven, seven, error, times, high_seven, gives_seven, gives_none}
use Rattle.code_machines.specs.Named.{named_high, named_lowered}

-- the list that a run of these tasks' steps shows
abbrev pub high_shows : LowModule → LowFunc → List ℕ → List TraceEntry → Type 0
high_shows code f ts trace = option_map (λ r. r.1) (run (named_high code main f []) ts (named_high code main f []).start) ≡ Some trace

abbrev pub lowered_shows : LowModule → LowFunc → List ℕ → List TraceEntry → Type 0
lowered_shows code f ts trace = option_map (λ r. r.1) (run (named_lowered code main f []) ts (named_lowered code main f []).start) ≡ Some trace

-- a task with one value is launched; it ends well, or not; its value is awaited; the root ends likewise
abbrev pub one_task : Bool → List TraceEntry
one_task ok = shows [] (Launch 1) ∷ shows (1 ∷ []) (End ok) ∷ shows [] (Await (Value (1 ∷ []) 0)) ∷ shows [] (End ok) ∷ []

abbrev pub SevenShows : Type 0
SevenShows = lowered_shows seven awaits_seven (times 7 0 (times 9 1 (times 10 0 []))) (one_task true)

abbrev pub ErrorShows : Type 0
ErrorShows = lowered_shows error awaits_seven (times 12 0 (times 7 1 (times 5 0 []))) (one_task false)

abbrev pub HighSevenShows : Type 0
HighSevenShows = high_shows (record { funcs = high_seven ∷ gives_seven ∷ [] }) high_seven (0 ∷ 1 ∷ 1 ∷ 0 ∷ 0 ∷ []) (one_task true)

abbrev pub HighErrorShows : Type 0
HighErrorShows = high_shows (record { funcs = high_seven ∷ gives_none ∷ [] }) high_seven (0 ∷ 1 ∷ 1 ∷ 0 ∷ 0 ∷ 0 ∷ []) (one_task false)

abbrev pub WorkedShows : Type 0
WorkedShows = SevenShows × ErrorShows × HighSevenShows × HighErrorShows
