-- Which rows are covered so far: instructions that take no references, those of saves, resumes, sets and groups aside, in a frame
-- without a kept copy.
use Rattle.std.specs.Prelude.{◌≡◌, ◌≤◌, ℕ, true, List, [], ◌∷◌, Option, Some, None, slice_get}
use Rattle.low_forms.specs.declared.code.Instr.{Instr}
use Rattle.low_forms.specs.declared.code.Term.{Term}
use Rattle.low_forms.specs.declared.code.Block.{Block}
use Rattle.low_forms.specs.declared.code.LowFunc.{LowFunc}
use Rattle.low_forms.specs.declared.code.LowModule.{LowModule}
use Rattle.low_forms.specs.Edges.{count_to}
use Rattle.low_forms.specs.Owns.{references}
use Rattle.task_stack.specs.declared.effects.Effect.{Effect}
use Rattle.task_stack.specs.declared.effects.Effect.TheVariants as effect
use Rattle.task_stack.specs.declared.frames.Saved.{Saved}
use Rattle.task_stack.specs.declared.frames.Saved.TheVariants as saved
use Rattle.task_stack.specs.Effects.{effect_of}
use Rattle.task_stack.specs.Local.{Standing, standing}
use Rattle.own_tables.specs.Owns.{is_object_reg}
use Rattle.step_core.specs.declared.rows.SharedRow.{SharedRow}
use Rattle.step_core.specs.declared.rows.SharedRow.TheVariants as row
use Rattle.step_core.specs.declared.tasks.Task.{Task}
use Rattle.step_core.specs.Rows.{shared_row}
use Rattle.step_core.specs.State.{task_at}
use Rattle.step_core.specs.Core.{Core}

abbrev pub CoversShared : SharedRow → Type 0
CoversShared row.Allocate = Unit {0}
CoversShared row.Deallocate = Unit {0}
CoversShared row.LoadCell = Unit {0}
CoversShared row.StoreCell = Unit {0}
CoversShared row.Create = Unit {0}
CoversShared row.CreateGroup = Unit {0}
CoversShared row.Await = Unit {0}
CoversShared row.IsError = Unit {0}
CoversShared row.Store = Unit {0}
CoversShared row.Load = Unit {0}
CoversShared _ = ⊥

abbrev pub CoversEffect : Effect → SharedRow → Type 0
CoversEffect (effect.Computes n) r = Unit {0}
CoversEffect effect.Skips r = Unit {0}
CoversEffect effect.AddsReferences r = Unit {0}
CoversEffect effect.DropsReferences r = Unit {0}
CoversEffect effect.Shared r = CoversShared r
CoversEffect _ r = ⊥

abbrev pub CoversNext : List Instr → Type 0
CoversNext [] = ⊥
CoversNext (i ∷ is) = CoversEffect (effect_of i.kind) (shared_row i.kind)

abbrev pub CoversAt : Option Standing → Type 0
CoversAt None = ⊥
CoversAt (Some st) = CoversNext st.rest.instrs

abbrev pub HasNoCopy : Saved → Type 0
HasNoCopy saved.Nothing = Unit {0}
HasNoCopy _ = ⊥

abbrev pub CoversTask : LowModule → Option Task → Type 0
CoversTask code None = ⊥
CoversTask code (Some task) = HasNoCopy task.stack.top.saved × CoversAt (standing code task.stack.top.current.place)

-- the next step of the task is at a covered row
abbrev pub Covers : LowModule → Core → ℕ → Type 0
Covers code c t = CoversTask code (task_at c.plain t)

-- ---- branches

abbrev pub CoversEnd : Effect → Type 0
CoversEnd effect.Jumps = Unit {0}
CoversEnd effect.Branches = Unit {0}
CoversEnd _ = ⊥

abbrev pub CoversLast : List Instr → Term → Type 0
CoversLast [] t = CoversEnd (effect_of t.instr.kind)
CoversLast (i ∷ is) t = ⊥

abbrev pub BranchesAt : Option Standing → Type 0
BranchesAt None = ⊥
BranchesAt (Some st) = CoversLast st.rest.instrs st.rest.term

abbrev pub BranchesTask : LowModule → Option Task → Type 0
BranchesTask code None = ⊥
BranchesTask code (Some task) = HasNoCopy task.stack.top.saved × BranchesAt (standing code task.stack.top.current.place)

-- the next step of the task is a branch
abbrev pub Branches : LowModule → Core → ℕ → Type 0
Branches code c t = BranchesTask code (task_at c.plain t)

-- No block has two parameters in one register of an object. (What a branch hands over twice to one register is lost there,
-- and the table doesn't tell.)
abbrev pub ParamsOnce : LowModule → Type 0
ParamsOnce code =
    (k : ℕ) (f : LowFunc) → slice_get code.funcs k ≡ Some f → (c : ℕ) (b : Block) → slice_get f.blocks c ≡ Some b → (r : ℕ) → is_object_reg f r ≡ true → count_to r (references f b.params) ≤ 1
