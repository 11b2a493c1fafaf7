-- Rows of half-lowered code: none is of coroutines, and code of operations has no end of a failed task.
use Rattle.std.proofs.Common.{◌≡◌, Bool, true, false, List, refl}
use Rattle.std.specs.Prelude.{not}
use Rattle.op_table.specs.declared.kind.OpKind.{OpKind}
use Rattle.op_table.specs.declared.kind.OpKind.TheVariants.{FuncCall, AioFail, AsyncCoroSave, AsyncCoroSuspend, AsyncRuntimeResume, AsyncRuntimeAwait, AsyncRuntimeAwaitAndResume}
use Rattle.ir_forms.specs.declared.ops.Func.{Func}
use Rattle.low_forms.specs.declared.code.LowKind.{LowKind}
use Rattle.low_forms.specs.declared.code.LowKind.TheVariants.{Row}
use Rattle.low_forms.specs.declared.code.Block.{Block}
use Rattle.low_forms.specs.Registers.{every}
use Rattle.low_forms.proofs.Words.{and_right}
use Rattle.scf_blocks.specs.declared.role.Role.{Role}
use Rattle.scf_blocks.specs.declared.role.Role.TheVariants as role
use Rattle.scf_blocks.specs.Tree.{role_of}
use Rattle.scf_blocks.specs.Lowered.{lowered_func}
use Rattle.block_laws.proofs.Rows.{Test, Passes, EachPasses, instr_passes, block_passes, code_blocks, code_passes, blocks_pass}
use Rattle.block_laws.proofs.Words.{every_more}
use Rattle.coro_laws.specs.Half.{is_of_coroutines, holds_none}

-- ---- kinds

abbrev pub is_fail : LowKind → Bool
is_fail (Row AioFail) = true
is_fail _ = false

abbrev foreign : Test
foreign kind a = not (is_of_coroutines kind)

abbrev lasting : Test
lasting kind a = not (is_fail kind)

abbrev foreign_role : Role → Bool
foreign_role (role.Plain kind) = not (is_of_coroutines kind)
foreign_role _ = true

abbrev lasting_role : Role → Bool
lasting_role (role.Plain kind) = not (is_fail kind)
lasting_role _ = true

each_foreign : (kind : OpKind) → foreign_role (role_of kind) ≡ true
each_foreign FuncCall = refl
each_foreign AsyncCoroSave = refl
each_foreign AsyncCoroSuspend = refl
each_foreign AsyncRuntimeResume = refl
each_foreign AsyncRuntimeAwait = refl
each_foreign AsyncRuntimeAwaitAndResume = refl
each_foreign _ = refl

each_lasting : (kind : OpKind) → lasting_role (role_of kind) ≡ true
each_lasting AioFail = refl
each_lasting _ = refl

passes_foreign : (funcs : List Func) (r : Role) → foreign_role r ≡ true → Passes foreign funcs r
passes_foreign funcs (role.Plain kind) is = λ a. is
passes_foreign funcs role.Assertion is = tt
passes_foreign funcs role.Choice is = tt
passes_foreign funcs role.Counted is = tt
passes_foreign funcs role.Tested is = tt
passes_foreign funcs role.Call is = tt
passes_foreign funcs role.TriedCall is = tt
passes_foreign funcs role.Await is = tt
passes_foreign funcs role.End is = tt
passes_foreign funcs role.Condition is = tt
passes_foreign funcs role.Nothing is = tt

passes_lasting : (funcs : List Func) (r : Role) → lasting_role r ≡ true → Passes lasting funcs r
passes_lasting funcs (role.Plain kind) is = λ a. is
passes_lasting funcs role.Assertion is = tt
passes_lasting funcs role.Choice is = tt
passes_lasting funcs role.Counted is = tt
passes_lasting funcs role.Tested is = tt
passes_lasting funcs role.Call is = tt
passes_lasting funcs role.TriedCall is = tt
passes_lasting funcs role.Await is = tt
passes_lasting funcs role.End is = tt
passes_lasting funcs role.Condition is = tt
passes_lasting funcs role.Nothing is = tt

-- ---- code

all_foreign : (funcs : List Func) → EachPasses foreign funcs
all_foreign funcs = record {
  own = λ kind. passes_foreign funcs (role_of kind) (each_foreign kind);
  adds = refl;
  compares = refl;
  bit = λ b. refl;
  goes = refl;
  chooses = refl;
  called = λ a. refl;
  waits = refl;
  returns = refl;
}

all_lasting : (funcs : List Func) → EachPasses lasting funcs
all_lasting funcs = record {
  own = λ kind. passes_lasting funcs (role_of kind) (each_lasting kind);
  adds = refl;
  compares = refl;
  bit = λ b. refl;
  goes = refl;
  chooses = refl;
  called = λ a. refl;
  waits = refl;
  returns = refl;
}

pub none_held : (funcs : List Func) (f : Func) → every holds_none (lowered_func funcs f).blocks ≡ true
none_held funcs f = blocks_pass foreign funcs (all_foreign funcs) (record { constant = λ n. refl; ends = refl }) f

abbrev pub lasts : Block → Bool
lasts b = not (is_fail b.term.instr.kind)

-- no block of a function's code ends as a failure block does
pub code_lasts : (funcs : List Func) (f : Func) → every lasts (code_blocks funcs f) ≡ true
code_lasts funcs f =
    every_more (block_passes lasting) lasts (code_blocks funcs f) (λ b is. and_right (every (instr_passes lasting) b.instrs) (lasts b) is)
    (code_passes lasting funcs (all_lasting funcs) f)
