-- Half-lowered code: launches and awaits are rows of their own, and no row of coroutines stands in it.
use Rattle.std.specs.Prelude.{◌≡◌, ◌≤◌, ◌&&◌, ◌^◌, ℕ, not, cond, Bool, true, false, List, [], ◌++◌, map, length, Some, slice_get}
use Rattle.op_table.specs.declared.kind.OpKind.TheVariants.{FuncCall, AsyncCoroSave, AsyncCoroSuspend, AsyncRuntimeResume, AsyncRuntimeAwait, AsyncRuntimeAwaitAndResume}
use Rattle.ir_forms.specs.declared.types.Ty.{Ty}
use Rattle.ir_forms.specs.declared.types.Ty.TheVariants.{Int, Index, Memref}
use Rattle.ir_forms.specs.Numbers.{joined}
use Rattle.low_flow.specs.Lists.{has}
use Rattle.low_forms.specs.declared.code.LowKind.{LowKind}
use Rattle.low_forms.specs.declared.code.LowKind.TheVariants.{Row}
use Rattle.low_forms.specs.declared.code.Block.{Block}
use Rattle.low_forms.specs.declared.code.LowFunc.{LowFunc}
use Rattle.low_forms.specs.declared.code.LowModule.{LowModule}
use Rattle.low_forms.specs.Registers.{every}
use Rattle.low_forms.specs.Assigned.{numbers, block_assigns}
use Rattle.coro_lower.specs.declared.label.End.{End}
use Rattle.coro_lower.specs.declared.label.End.TheVariants as end
use Rattle.coro_lower.specs.Layout.{end_of}
use Rattle.register_laws.specs.Laws.{block_uses}

-- ---- rows of coroutines: calls of them, and what saves, suspends, resumes and waits

abbrev pub is_of_coroutines : LowKind → Bool
is_of_coroutines (Row FuncCall) = true
is_of_coroutines (Row AsyncCoroSave) = true
is_of_coroutines (Row AsyncCoroSuspend) = true
is_of_coroutines (Row AsyncRuntimeResume) = true
is_of_coroutines (Row AsyncRuntimeAwait) = true
is_of_coroutines (Row AsyncRuntimeAwaitAndResume) = true
is_of_coroutines _ = false

abbrev pub holds_none : Block → Bool
holds_none b = every (λ i. not (is_of_coroutines i.kind)) b.instrs && not (is_of_coroutines b.term.instr.kind)

-- ---- a value may hold the type

abbrev pub can_be_held : Ty → Bool
can_be_held (Int w) = true
can_be_held Index = true
can_be_held (Memref m) = true
can_be_held _ = false

-- ---- failure blocks of a coroutine are emptied, and all other blocks stay

abbrev pub is_emptied : End → Bool
is_emptied end.Fails = true
is_emptied _ = false

abbrev pub stays : LowFunc → Block → Bool
stays f b = not (is_emptied (end_of f b))

abbrev pub kept_assigns : LowFunc → Block → List ℕ
kept_assigns f b = cond (stays f b) (block_assigns b) []

-- what a function defines in blocks that stay
abbrev pub kept_definitions : LowFunc → List ℕ
kept_definitions f = numbers f.params ++ joined (map (kept_assigns f) f.blocks)

-- what blocks that stay use is defined in such blocks
abbrev pub UsesKept : LowFunc → Type 0
UsesKept f = (k : ℕ) (b : Block) (r : ℕ) → slice_get f.blocks k ≡ Some b → stays f b ≡ true → has r (block_uses b) ≡ true → has r (kept_definitions f) ≡ true

-- ---- the premise

pub record IsHalfLowered (f : LowFunc) : Type 0 where
  -- each block has a number
  pub few : length f.blocks ≤ 2 ^ 32
  pub plain : every holds_none f.blocks ≡ true
  -- values hold what a task gives
  pub held : f.coroutine ≡ true → every can_be_held f.results ≡ true
  pub kept : UsesKept f

abbrev pub HalfLowered : LowModule → Type 0
HalfLowered code = (k : ℕ) (f : LowFunc) → slice_get code.funcs k ≡ Some f → IsHalfLowered f
