-- Well formed code without counts is as the pass of counts asks.
use Rattle.std.specs.Prelude.{◌≡◌, ◌≤◌, ◌&&◌, not, ℕ, Bool, true, false, Some, slice_get}
use Rattle.op_table.specs.declared.kind.OpKind.TheVariants.{AsyncCoroSave, AsyncRuntimeStore, AsyncRuntimeSetAvailable, AsyncRuntimeSetError, AsyncRuntimeAddRef, AsyncRuntimeDropRef}
use Rattle.ir_verify.specs.Types.{has_async_cells}
use Rattle.low_forms.specs.declared.code.LowKind.{LowKind}
use Rattle.low_forms.specs.declared.code.LowKind.TheVariants.{Row, Await}
use Rattle.low_forms.specs.declared.code.Block.{Block}
use Rattle.low_forms.specs.declared.code.LowFunc.{LowFunc}
use Rattle.low_forms.specs.declared.code.LowModule.{LowModule}
use Rattle.low_forms.specs.Registers.{every}
use Rattle.low_forms.specs.Edges.{count_to}
use Rattle.low_forms.specs.WellFormed.{IsWellFormed}
use Rattle.register_numbers.specs.Renumbered.{definitions}
use Rattle.own_tables.specs.Owns.{Owns, IsReached}
use Rattle.ref_counting.specs.Shape.{counted_func}
use Rattle.owned_laws.specs.Laws.{IsUncounted, own_number}

-- what saves, sets an object that it has created, counts, or awaits at the end of a block
abbrev pub is_foreign : LowKind → Bool
is_foreign (Row AsyncCoroSave) = true
is_foreign (Row AsyncRuntimeStore) = true
is_foreign (Row AsyncRuntimeSetAvailable) = true
is_foreign (Row AsyncRuntimeSetError) = true
is_foreign (Row AsyncRuntimeAddRef) = true
is_foreign (Row AsyncRuntimeDropRef) = true
is_foreign Await = true
is_foreign _ = false

abbrev pub none_foreign : Block → Bool
none_foreign b = every (λ i. not (is_foreign i.kind)) b.instrs && not (is_foreign b.term.instr.kind)

-- What is asked of a function beside that it is well formed. No memref has objects in its cells, each register is defined
-- once at most, and each block is reached.
pub record IsPlainCode (f : LowFunc) : Type 0 where
  pub plain : f.coroutine ≡ false
  pub rows : every none_foreign f.blocks ≡ true
  pub cells : every (λ t. not (has_async_cells t)) f.regs ≡ true
  pub once : (r : ℕ) → count_to r (definitions f) ≤ 1
  pub reached : (c : ℕ) (b : Block) → slice_get f.blocks c ≡ Some b → IsReached f c

abbrev pub PlainCodeUncounted : Type 0
PlainCodeUncounted = (code : LowModule) (f : LowFunc) → IsWellFormed code f → IsPlainCode f → IsUncounted f

abbrev pub PlainCodeOwns : Type 0
PlainCodeOwns = (code : LowModule) (f : LowFunc) → IsWellFormed code f → IsPlainCode f → Owns (counted_func f) (own_number f)
