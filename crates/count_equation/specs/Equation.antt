-- What each object is owed in a state, by an ownership table, and the count equation.
use Rattle.std.specs.Prelude.{◌≡◌, ◌≤◌, ℕ, ◌+◌, ◌-◌, ◌==◌, cond, List, [], ◌∷◌, length, Option, Some, None, slice_get}
use Rattle.low_forms.specs.declared.code.Instr.{Instr}
use Rattle.low_forms.specs.declared.code.Term.{Term}
use Rattle.low_forms.specs.declared.code.Block.{Block}
use Rattle.low_forms.specs.declared.code.LowFunc.{LowFunc}
use Rattle.low_forms.specs.declared.code.LowModule.{LowModule}
use Rattle.low_forms.specs.Edges.{count_to}
use Rattle.low_forms.specs.Owns.{takes, takes_at_end}
use Rattle.source_meaning.specs.Values.{maybe}
use Rattle.async_objects.specs.declared.object.Object.{Object}
use Rattle.async_objects.specs.Objects.{object_at}
use Rattle.async_objects.specs.Counts.{count_at}
use Rattle.task_stack.specs.declared.frames.Place.{Place}
use Rattle.task_stack.specs.declared.frames.Frame.{Frame}
use Rattle.task_stack.specs.declared.frames.Saved.{Saved}
use Rattle.task_stack.specs.declared.frames.Saved.TheVariants as saved
use Rattle.task_stack.specs.Frames.{Stack}
use Rattle.task_stack.specs.Local.{standing}
use Rattle.own_tables.specs.declared.table.OwnTable.{OwnTable}
use Rattle.own_tables.specs.Numbers.{number_of}
use Rattle.own_tables.specs.Owns.{IsReached, is_object_reg, kept}
use Rattle.count_sums.specs.Sums.{total, owned}
use Rattle.step_core.specs.declared.tasks.Task.{Task}
use Rattle.step_core.specs.Core.{Core, own_count}

-- ---- what a frame owns, by register

-- the number of a register of an object; other registers own nothing
abbrev pub for_object : ℕ → LowFunc → ℕ → ℕ
for_object n f r = cond (is_object_reg f r) n 0

-- where a frame stands
abbrev pub at_place : LowModule → OwnTable → Place → ℕ → ℕ
at_place code table p r = maybe 0 (λ f. for_object (number_of table p.func.0 p.block.0 p.at r) f r) (slice_get code.funcs p.func.0)

-- what the next instruction takes: a call, where a frame waits
abbrev pub taken_by : LowFunc → List Instr → Term → ℕ → ℕ
taken_by f [] t r = count_to r (takes_at_end f t)
taken_by f (i ∷ is) t r = count_to r (takes f i)

abbrev pub taken : LowModule → Place → ℕ → ℕ
taken code p r = maybe 0 (λ st. taken_by st.func st.rest.instrs st.rest.term r) (standing code p)

-- a frame that waits in a call owns what the call leaves
abbrev pub waiting : LowModule → OwnTable → Place → ℕ → ℕ
waiting code table p r = at_place code table p r - taken code p r

-- what the frame keeps where its copy is first resumed, which is in the first block
abbrev pub kept_in : Option Block → ℕ → ℕ
kept_in block r = maybe 0 (λ b. kept b.instrs r) block

abbrev pub frame_part : LowModule → Place → ℕ → ℕ
frame_part code p r = cond (p.block.0 == 0) (maybe 0 (λ f. for_object (kept_in (slice_get f.blocks 0) r) f r) (slice_get code.funcs p.func.0)) 0

-- of n references at a place, of which a part stays with the frame: a frame that has a kept copy owns them all, and the
-- copy none, until one of them goes on by itself
abbrev pub shared_out : Saved → ℕ → ℕ → ℕ
shared_out saved.Nothing n part = n
shared_out (saved.Kept copy) n part = n
shared_out saved.Taken n part = part
shared_out saved.Copied n part = n - part

abbrev pub working : LowModule → OwnTable → Place → Saved → ℕ → ℕ
working code table p s r = shared_out s (at_place code table p r) (frame_part code p r)

-- ---- what is owed to an object

abbrev pub below_owns : LowModule → OwnTable → ℕ → Frame → ℕ
below_owns code table o frame = owned (waiting code table frame.current.place) o frame.current.regs

abbrev pub stack_owns : LowModule → OwnTable → ℕ → Stack → ℕ
stack_owns code table o stack =
    owned (working code table stack.top.current.place stack.top.saved) o stack.top.current.regs + total (below_owns code table o) stack.below

abbrev pub task_owns : LowModule → OwnTable → ℕ → Option Task → ℕ
task_owns code table o task = maybe 0 (λ it. stack_owns code table o it.stack) task

-- by the frames of all tasks, and by the object itself: a token or a value that isn't set has one, and a group one for each
-- element that it waits for
abbrev pub owed : LowModule → OwnTable → ℕ → List (Option Task) → List Object → ℕ
owed code table o tasks objects = total (task_owns code table o) tasks + own_count (object_at objects (record { 0 = o }))

abbrev pub CountEquation : LowModule → OwnTable → Core → Type 0
CountEquation code table c = (o : ℕ) → count_at c.counts o ≡ owed code table o c.plain.tasks c.plain.objects

-- ---- what holds beside it

-- a frame stands in a block that some path leads to
pub record Stands (code : LowModule) (p : Place) : Type 0 where
  pub func : LowFunc
  pub there : slice_get code.funcs p.func.0 ≡ Some func
  pub reached : IsReached func p.block.0

abbrev pub StandsWorking : LowModule → Option Task → Type 0
StandsWorking code None = Unit {0}
StandsWorking code (Some task) = Stands code task.stack.top.current.place

abbrev pub AllStand : LowModule → List (Option Task) → Type 0
AllStand code tasks = (t : ℕ) (task : Option Task) → slice_get tasks t ≡ Some task → StandsWorking code task

-- the equation, only objects that were made have counts, and working frames stand in code
pub record Holds (code : LowModule) (table : OwnTable) (c : Core) : Type 0 where
  pub equation : CountEquation code table c
  pub made : (o : ℕ) → length c.plain.objects ≤ o → count_at c.counts o ≡ 0
  pub stands : AllStand code c.plain.tasks
