-- How the code's sequence of tasks follows that of the definitions.
use Rattle.std.specs.Prelude.{◌≡◌, ℕ, ◌+◌, nat_lt, cond, List, [], ◌∷◌, ◌++◌, map, reverse, Option, Some, None, slice_get}
use Rattle.ir_forms.specs.Names.{Path, launched_by}
use Rattle.ir_forms.specs.declared.args.ArgValue.{ArgValue}
use Rattle.ir_forms.specs.declared.names.Action.{Action}
use Rattle.ir_forms.specs.declared.runs.Out.{Out}
use Rattle.ir_forms.specs.declared.types.CellTy.{CellTy}
use Rattle.ir_forms.specs.declared.types.Ty.{Ty}
use Rattle.ir_forms.specs.declared.ops.ValueNo.{ValueNo}
use Rattle.source_meaning.specs.declared.ends.SourceEnd.{SourceEnd}
use Rattle.source_meaning.specs.declared.ends.SourceEnd.TheVariants.{Done, Failed}
use Rattle.source_meaning.specs.Values.{maybe}
use Rattle.source_meaning.specs.Tasks.{Program, Task, Loop, Answer, Outcome, Gave, FailedAt, resumed}
use Rattle.source_meaning.specs.World.{World}
use Rattle.source_meaning.specs.Start.{out_cell, outs, buffers_out}
use Rattle.source_meaning.specs.Sequential as run
use Rattle.source_meaning.specs.Sequential.{iteration, Moved, On, Over, Metered, metered}
use Rattle.source_tasks.specs.Pending.{joined}
use Rattle.source_state.specs.Seen.{Alike}
use Rattle.source_meaning.specs.Parts.{func_params, func_results}
use Rattle.source_eval.specs.declared.sequence.Entry.{Entry}
use Rattle.source_eval.specs.declared.joins.Running.{Running}
use Rattle.source_eval.specs.declared.sequence.Sequence.{Sequence}

-- the iteration that begins before a loop is joined, if one is left
abbrev pub left_to_begin : ℕ → Task → Option Task
left_to_begin begun t = maybe None (λ (loop : Loop). cond (nat_lt begun loop.total) (Some (iteration loop begun)) None) (joined t)

-- a task that runs
abbrev pub running_of : Running → run.Running
running_of r = record { path = r.path; taken = r.taken; begun = r.begun; task = r.task }

-- the tasks that run, the one that steps first
abbrev pub stack_of : Sequence → List run.Running
stack_of s = running_of s.top ∷ map running_of (reverse s.below.items)

-- the same tasks run, in a world that is alike, and the same was done
pub record IsLike (s : Sequence) (w : run.Sequence) : Type 0 where
  pub stack : w.stack ≡ stack_of s
  pub world : Alike s.shared w.world
  pub trace : w.trace ≡ s.entries

-- the run goes on with a sequence like this one, or is over with this end and its trace
abbrev pub IsMoved : Option SourceEnd → Sequence → Moved → Type 0
IsMoved None s m = (w : run.Sequence) × (m ≡ On w) × IsLike s w
IsMoved (Some end) s m = m ≡ Over end s.entries

-- cells with their type
abbrev pub cells_out : CellTy → List ℕ → List Out
cells_out elem cells = map (λ n. record { ty = out_cell elem; bits = n }) cells

-- the end of a run whose root, of a function with these results and parameters, ended so
abbrev pub end_from : List Ty → List (ValueNo × Ty) → World → Outcome → SourceEnd
end_from results params w (Gave vs) = Done (outs results vs) (buffers_out w 0 params)
end_from results params w (FailedAt at) = Failed at

-- the task was put on top
pub record IsPut (s new : Sequence) (q : Path) (t : Task) : Type 0 where
  pub stack : stack_of new ≡ run.born q t ∷ stack_of s
  pub shared : new.shared ≡ s.shared
  pub entries : new.entries ≡ s.entries

-- the top task has taken an action, and goes on with the answer below the task that it launched
pub record IsTaken (s new : Sequence) (at : ℕ) (xs : List ValueNo) (action : Action) (given : Answer) (child : Option Task) : Type 0 where
  pub stack : stack_of new ≡
      maybe [] (λ t. run.born (launched_by s.top.path (s.top.taken + 1)) t ∷ []) child
      ++ record { path = s.top.path; taken = s.top.taken + 1; begun = 0; task = resumed at xs s.top.task given } ∷ map running_of (reverse s.below.items)
  pub shared : new.shared ≡ s.shared
  pub entries : new.entries ≡ s.entries ++ run.shows s.top.path action ∷ []

-- the function at this place has these results and parameters
abbrev pub IsEntry : Program → ℕ → Entry → Type 0
IsEntry p k e = (func_results (slice_get p.funcs k) ≡ e.results.now) × (func_params (slice_get p.funcs k) ≡ e.params.now)

-- the run goes on with a sequence like this one, so many operations begun, or it is over with this end
abbrev pub IsMetered : Option SourceEnd → ℕ → Sequence → Metered → Type 0
IsMetered None begun s m = (m.0 ≡ begun) × IsMoved None s m.1
IsMetered (Some end) begun s m = IsMoved (Some end) s m.1

-- some steps of a run come to this
abbrev pub HasCome : Program → ℕ → ℕ → List ArgValue → Option SourceEnd → ℕ → Sequence → Type 0
HasCome p entry fuel args end begun s = (steps : ℕ) × IsMetered end begun s (metered p entry fuel steps (run.start p entry args))
