-- Names, as a fold over what a run shows: the task that is launched by the k-th action of p is p.k, and the group or buffer
-- that this action makes is (p, k). The buffer of parameter j is that of the argument j.
use Rattle.std.specs.Prelude.{ℕ, zero, suc, ◌+◌, List, [], ◌∷◌, ◌++◌, slice_get, slice_set}
use Rattle.ir_forms.specs.declared.args.ArgValue.{ArgValue}
use Rattle.ir_forms.specs.declared.args.ArgValue.TheVariants as arg
use Rattle.ir_forms.specs.declared.names.Action.{Action}
use Rattle.ir_forms.specs.declared.names.Action.TheVariants as act
use Rattle.ir_forms.specs.declared.names.ElementName.{ElementName}
use Rattle.ir_forms.specs.declared.names.ElementName.TheVariants.{Token, Value}
use Rattle.ir_forms.specs.declared.names.MadeName.{MadeName}
use Rattle.ir_forms.specs.declared.names.MadeName.TheVariants.{Argument, Made}
use Rattle.ir_forms.specs.declared.names.TraceEntry.{TraceEntry}
use Rattle.ir_forms.specs.Names.{Path, launched_by}
use Rattle.machines.specs.Reading.{Reader}
use Rattle.source_meaning.specs.Values.{or_else}
use Rattle.source_meaning.specs.Sequential.{shows}
use Rattle.code_machines.specs.Numbered.{Numbered, Reads, Writes, Allocs, Creates, Adds, Launches, Awaits, AwaitsAll, Ends}

-- the paths of tasks with how many actions each has taken, and the names of groups and buffers, all by their numbers
pub record Names : Type 0 where
  pub tasks : List (Path × ℕ)
  pub groups : List MadeName
  pub buffers : List MadeName

-- the path of a task with the number of its actions
abbrev pub task_of : Names → ℕ → Path × ℕ
task_of k t = or_else ([], 0) (slice_get k.tasks t)

abbrev pub path_of : Names → ℕ → Path
path_of k t = (task_of k t).0

abbrev pub group_of : Names → ℕ → MadeName
group_of k g = or_else (Argument 0) (slice_get k.groups g)

abbrev pub buffer_of : Names → ℕ → MadeName
buffer_of k b = or_else (Argument 0) (slice_get k.buffers b)

-- what a task gives at a place
abbrev pub element_of : Path → ℕ → ElementName
element_of q zero = Token q
element_of q (suc j) = Value q j

-- the name of what the next action of a task makes
abbrev pub made_next : Names → ℕ → MadeName
made_next k t = Made (task_of k t).0 ((task_of k t).1 + 1)

-- ---- what is known after each thing

-- the task has taken one more action
abbrev pub counted : ℕ → Names → Names
counted t k = record k { tasks = slice_set k.tasks t ((task_of k t).0, (task_of k t).1 + 1) }

abbrev pub after : Names → Numbered → Names
after k (Reads t b c) = counted t k
after k (Writes t b c) = counted t k
after k (Allocs t b n) = counted t (record k { buffers = k.buffers ++ made_next k t ∷ [] })
after k (Creates t g n) = counted t (record k { groups = k.groups ++ made_next k t ∷ [] })
after k (Adds t g q j used) = counted t k
after k (Launches t q r) = counted t (record k { tasks = k.tasks ++ (launched_by (path_of k t) ((task_of k t).1 + 1), 0) ∷ [] })
after k (Awaits t q j) = counted t k
after k (AwaitsAll t g) = counted t k
after k (Ends t ok) = counted t k

-- ---- what it reads as

abbrev pub action : Names → Numbered → Action
action k (Reads t b c) = act.Read (buffer_of k b) c
action k (Writes t b c) = act.Write (buffer_of k b) c
action k (Allocs t b n) = act.Alloc n
action k (Creates t g n) = act.Create n
action k (Adds t g q j used) = act.Add (group_of k g) (element_of (path_of k q) j) used
action k (Launches t q r) = act.Launch r
action k (Awaits t q j) = act.Await (element_of (path_of k q) j)
action k (AwaitsAll t g) = act.AwaitAll (group_of k g)
action k (Ends t ok) = act.End ok

-- who took it
abbrev pub taker : Numbered → ℕ
taker (Reads t b c) = t
taker (Writes t b c) = t
taker (Allocs t b n) = t
taker (Creates t g n) = t
taker (Adds t g q j used) = t
taker (Launches t q r) = t
taker (Awaits t q j) = t
taker (AwaitsAll t g) = t
taker (Ends t ok) = t

-- ---- the start

-- the names of the buffers of the parameters from j on
abbrev pub argument_names : ℕ → List ArgValue → List MadeName
argument_names j [] = []
argument_names j (arg.Number n ∷ args) = argument_names (j + 1) args
argument_names j (arg.Cells dims cells ∷ args) = Argument j ∷ argument_names (j + 1) args

-- Names along a run with these arguments.
abbrev pub paths : List ArgValue → Reader Numbered TraceEntry
paths args = record {
  Known = Names;
  first = record { tasks = ([], 0) ∷ []; groups = []; buffers = argument_names 0 args };
  after = after;
  reads = λ k x. shows (path_of k (taker x)) (action k x) ∷ [];
}
