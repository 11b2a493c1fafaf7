-- Lowered code as a machine, over the whole core, without limits other than the sizes of groups. It shows objects by their
-- numbers.
use Rattle.std.specs.Prelude.{ℕ, zero, suc, not, Bool, List, [], ◌∷◌, Option, None}
use Rattle.std.specs.Option.{option_map}
use Rattle.ir_forms.specs.declared.args.ArgValue.{ArgValue}
use Rattle.ir_forms.specs.declared.runs.FuncNo.{FuncNo}
use Rattle.low_forms.specs.declared.code.LowFunc.{LowFunc}
use Rattle.low_forms.specs.declared.code.LowModule.{LowModule}
use Rattle.machines.specs.Machine.{Machine}
use Rattle.machines.specs.Machine as machine
use Rattle.source_meaning.specs.declared.ends.SourceEnd.{SourceEnd}
use Rattle.async_objects.specs.declared.kinds.Kind.{Kind}
use Rattle.async_objects.specs.Objects.{object_at, is_error}
use Rattle.step_core.specs.State.{Plain}
use Rattle.step_core.specs.Shared as core
use Rattle.step_core.specs.Shared.{Act, Took, Stuck, Idle, Stopped, Takes}
use Rattle.step_core.specs.Core.{Core, core_step, start}
use Rattle.code_machines.specs.HighCode.{next_is_used, ended_well, HasEnded}

-- what a step shows, with objects by their numbers
pub data ByObject : Type 0 where
  Reads : (task buffer cell : ℕ) → ByObject
  Writes : (task buffer cell : ℕ) → ByObject
  Allocs : (task buffer cells : ℕ) → ByObject
  Creates : (task object : ℕ) (kind : Kind) → ByObject
  Adds : (task group element : ℕ) (used : Bool) → ByObject
  Launches : (task child : ℕ) → ByObject
  Looks : (task object : ℕ) → ByObject
  Sets : (task object : ℕ) (ok : Bool) → ByObject
  -- the root's end, or that of a task which has set its token
  Ends : (task : ℕ) (root : Option Bool) → ByObject

-- the root's end
abbrev pub root_at : Plain → ℕ → Option Bool
root_at s zero = option_map ended_well s.root_end
root_at s (suc t) = None

-- what a step from the first state to the second shows
abbrev pub core_shown : LowModule → Plain → Plain → ℕ → Act → List ByObject
core_shown code s after t core.Nothing = []
core_shown code s after t (core.Reads b c) = Reads t b c ∷ []
core_shown code s after t (core.Writes b c) = Writes t b c ∷ []
core_shown code s after t (core.Allocates b n) = Allocs t b n ∷ []
core_shown code s after t (core.Creates o) = Creates t o.0 (object_at after.objects o).kind ∷ []
core_shown code s after t (core.Adds g x rank) = Adds t g.0 x.0 (next_is_used code s t) ∷ []
core_shown code s after t (core.Launches q) = Launches t q.0 ∷ []
core_shown code s after t (core.Looks o) = Looks t o.0 ∷ []
core_shown code s after t (core.Sets o state) = Sets t o.0 (not (is_error state)) ∷ []
core_shown code s after t core.Ends = Ends t (root_at after t) ∷ []

abbrev pub core_took : LowModule → Core → ℕ → Took Core → machine.Took Core ByObject
core_took code c t Stuck = machine.Stuck
core_took code c t Idle = machine.Idle
core_took code c t (Stopped l) = machine.Stopped
core_took code c t (Takes after wakes act) = machine.Takes after (core_shown code c.plain after.plain t act)

-- The function of this number with these arguments.
abbrev pub lowered : LowModule → FuncNo → LowFunc → List ArgValue → Machine ByObject SourceEnd
lowered code n f args = record {
  State = Core;
  Who = ℕ;
  start = start n f args;
  step = λ c t. core_took code c t (core_step code c t);
  Ended = λ c e. HasEnded c.plain e;
}
