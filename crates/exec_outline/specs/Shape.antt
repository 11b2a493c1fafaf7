-- A module in which each region of `async.execute` is a function of its own: a task.
use Rattle.std.specs.Prelude.{ℕ, ◌+◌, cond, Bool, true, false, List, [], ◌∷◌, ◌++◌, map, drop, length, replicate, slice_get, Option, Some, None, codes}
use Rattle.op_table.specs.declared.kind.OpKind.{OpKind}
use Rattle.op_table.specs.declared.kind.OpKind.TheVariants as op
use Rattle.ir_forms.specs.declared.ops.Attr.TheVariants as attr
use Rattle.ir_forms.specs.declared.ops.Op.{Op, Op-F, roll-Op}
use Rattle.ir_forms.specs.declared.ops.Op.TheFolds.{fold-Op, fold-Region}
use Rattle.ir_forms.specs.declared.ops.Region.{Region, Region-F, out-Region, roll-Region}
use Rattle.ir_forms.specs.declared.ops.Func.{Func}
use Rattle.ir_forms.specs.declared.ops.Module.{Module}
use Rattle.ir_forms.specs.declared.ops.ValueNo.{ValueNo}
use Rattle.ir_forms.specs.declared.types.Ty.{Ty}
use Rattle.ir_forms.specs.declared.types.Ty.TheVariants as ty
use Rattle.ir_forms.specs.declared.types.ValTy.TheVariants as val
pub use Rattle.made_funcs.specs.Captures.{captures}
pub use Rattle.made_funcs.specs.Names.{made_name}
pub use Rattle.made_funcs.specs.Values.{Typed, as_values, first_free, numbered, type_in, typed, typed_in, values_in, values_inside, values_of}

-- ---- the name of the task of this number

abbrev pub task_name : List Func → ℕ → List ℕ
task_name funcs k = made_name funcs (codes "aio.task.") k

-- ---- a task

abbrev pub tokens : ℕ → List Ty
tokens n = replicate n ty.Token

-- what a value of this type holds; another type stays as it is
abbrev pub held : Ty → Ty
held (ty.Value (val.Int w)) = ty.Int w
held (ty.Value val.Index) = ty.Index
held (ty.Value (val.Memref m)) = ty.Memref m
held t = t

-- an await of a token or value
abbrev pub await : ℕ → ValueNo × Ty → Typed → Op
await at p results = roll-Op (record { kind = op.AsyncAwait; at = at; operands = p.0 ∷ []; groups = []; written = p.1 ∷ []; results = map (λ r. r.0) results; types = map (λ r. r.1) results; attr = attr.None; regions = [] })

abbrev pub awaits_each : ℕ → Typed → List Op
awaits_each at ps = map (λ p. await at p []) ps

-- awaits of values, each for the parameter that gets what it holds, as long as there are parameters
abbrev pub awaits_for : ℕ → Typed → Typed → List Op
awaits_for at [] qs = []
awaits_for at (p ∷ ps) [] = await at p [] ∷ awaits_for at ps []
awaits_for at (p ∷ ps) (q ∷ qs) = await at p (q ∷ []) ∷ awaits_for at ps qs

-- how many dependencies an `async.execute` has: its first group of operands
abbrev pub dependency_count : List ℕ → ℕ
dependency_count [] = 0
dependency_count (n ∷ groups) = n

module _ {X Y : Type 0} (values : Typed) (o : Op-F X Y) where
  -- the parameters for what is awaited have numbers that no value of the function has
  abbrev pub dependencies : Typed
  dependencies = numbered (first_free values) (tokens (dependency_count o.groups))

  abbrev pub value_operands : Typed
  value_operands = numbered (first_free values + dependency_count o.groups) o.written

  -- the awaits of dependencies and value operands, and then the operations of the region, up to its `async.yield`
  abbrev pub task_ops : Region → List Op
  task_ops body = (awaits_each o.at dependencies ++ awaits_for o.at value_operands (out-Region body).params) ++ (out-Region body).ops

  -- the function of a task; what the region captures keeps its numbers
  abbrev pub task : List ℕ → List ℕ → Region → Func
  task name captured body = record {
    name = name;
    params = (dependencies ++ value_operands) ++ typed_in values captured;
    results = map held (drop 1 o.types);
    body = roll-Region (record { params = []; ops = task_ops body });
    at = o.at;
  }

-- the launch of a task, in the place of its region
abbrev pub launch : {X Y : Type 0} → Op-F X Y → List ℕ → List ℕ → Op
launch o name captured = roll-Op (record { kind = o.kind; at = o.at; operands = o.operands ++ as_values captured; groups = o.groups; written = o.written; results = o.results; types = o.types; attr = attr.Callee name; regions = [] })

-- ---- a module with its tasks

-- What comes of a thing before which so many tasks stand: itself without the regions of tasks, and the functions of the
-- tasks in it, by the places where they begin: one that holds others comes before them.
abbrev pub Outlining : Type 0 → Type 0
Outlining A = ℕ → A × List Func

-- one after another
abbrev pub in_order : {A : Type 0} → List (ℕ → A × List Func) → ℕ → List A × List Func
in_order [] k = ([], [])
in_order (f ∷ fs) k = ((f k).0 ∷ (in_order fs (k + length (f k).1)).0, (f k).1 ++ (in_order fs (k + length (f k).1)).1)

abbrev pub is_execute : OpKind → Bool
is_execute op.AsyncExecute = true
is_execute _ = false

-- the region of a task
abbrev pub task_region : {X : Type 0} → OpKind → List X → Option X
task_region kind regions = cond (is_execute kind) (slice_get regions 0) None

-- an operation that isn't launched keeps its regions
abbrev pub kept : Op-F (Outlining Op) (Outlining Region) → List Region × List Func → Op × List Func
kept o made = (roll-Op (record { kind = o.kind; at = o.at; operands = o.operands; groups = o.groups; written = o.written; results = o.results; types = o.types; attr = o.attr; regions = made.0 }), made.1)

module _ (funcs : List Func) (values : Typed) where
  -- the launch of a task, whose function comes before those in it
  abbrev pub launched : {X Y : Type 0} → Op-F X Y → ℕ → Region × List Func → Op × List Func
  launched o k made = (
    launch o (task_name funcs k) (captures made.0),
    task values o (task_name funcs k) (captures made.0) made.0 ∷ made.1,
  )

  abbrev pub outlined_as : Op-F (Outlining Op) (Outlining Region) → Option (ℕ → Region × List Func) → Outlining Op
  outlined_as o (Some r) k = launched o k (r (k + 1))
  outlined_as o None k = kept o (in_order o.regions k)

  abbrev pub op_outlined : Op-F (Outlining Op) (Outlining Region) → Outlining Op
  op_outlined o k = outlined_as o (task_region o.kind o.regions) k

  abbrev pub region_outlined : Region-F (Outlining Op) (Outlining Region) → Outlining Region
  region_outlined r k = (roll-Region (record { params = r.params; ops = (in_order r.ops k).0 }), (in_order r.ops k).1)

  abbrev pub outlined_op : Op → Outlining Op
  outlined_op = fold-Op (Outlining Op) (Outlining Region) op_outlined region_outlined

  abbrev pub outlined_region : Region → Outlining Region
  outlined_region = fold-Region (Outlining Op) (Outlining Region) op_outlined region_outlined

abbrev pub with_body : Func → Region × List Func → Func × List Func
with_body f made = (record f { body = made.0 }, made.1)

abbrev pub outlined_func : List Func → Func → Outlining Func
outlined_func funcs f k = with_body f (outlined_region funcs (values_of f) f.body k)

-- the functions of the tasks stand behind all others
abbrev pub module_of : List Func × List Func → Module
module_of made = record { funcs = made.0 ++ made.1 }

abbrev pub outlined : Module → Module
outlined program = module_of (in_order (map (outlined_func program.funcs) program.funcs) 0)
