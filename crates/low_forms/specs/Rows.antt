-- The table of lowered instructions: one row for each kind.
use Rattle.std.specs.Prelude.{true, false}
use Rattle.op_table.specs.declared.kind.OpKind.{OpKind}
use Rattle.op_table.specs.declared.kind.OpKind.TheVariants.{ArithConstant, ArithAddi, ArithSubi, ArithMuli, ArithDivsi, ArithDivui, ArithRemsi, ArithRemui, ArithAndi, ArithOri, ArithXori, ArithShli, ArithShrsi, ArithShrui, ArithMaxsi, ArithMinsi, ArithMaxui, ArithMinui, ArithCmpi, ArithSelect, ArithExtsi, ArithExtui, ArithTrunci, ArithIndexCast, ArithIndexCastui, MemrefAlloc, MemrefDealloc, MemrefDim, MemrefLoad, MemrefStore, CfBr, CfCondBr, FuncCall, AioCall, FuncReturn, AioFail, AioFinish, AsyncCoroId, AsyncCoroBegin, AsyncCoroSave, AsyncCoroSuspend, AsyncCoroFree, AsyncCoroEnd, AsyncRuntimeCreate, AsyncRuntimeCreateGroup, AsyncRuntimeAddToGroup, AsyncRuntimeResume, AsyncRuntimeAwait, AsyncRuntimeAwaitAndResume, AsyncRuntimeIsError, AsyncRuntimeStore, AsyncRuntimeLoad, AsyncRuntimeSetAvailable, AsyncRuntimeSetError, AsyncRuntimeAddRef, AsyncRuntimeDropRef}
use Rattle.low_forms.specs.declared.code.LowKind.{LowKind}
use Rattle.low_forms.specs.declared.code.LowKind.TheVariants.{Row, Launch, Await}
use Rattle.low_forms.specs.declared.row.LowRow.{LowRow}
use Rattle.low_forms.specs.declared.row.Slot.TheVariants as slot
use Rattle.low_forms.specs.declared.row.Rest.TheVariants as rest
use Rattle.low_forms.specs.declared.row.Results.TheVariants as results
use Rattle.low_forms.specs.declared.row.AttrSlot.TheVariants as carries
use Rattle.low_forms.specs.declared.row.Targets.TheVariants as to
use Rattle.low_forms.specs.declared.row.StepKind.TheVariants as step
use Rattle.low_forms.specs.declared.row.Change.TheVariants as change

-- a local instruction without operands, results, targets and references: each row says what it has beside this
abbrev pub plain : LowRow
plain = record {
  stands = true;
  first = slot.Absent;
  second = slot.Absent;
  third = slot.Absent;
  rest = rest.Nothing;
  result = slot.Absent;
  results = results.Own;
  attr = carries.Nothing;
  targets = to.Instruction;
  step = step.Local;
  uses = 0;
  takes = false;
  gives = false;
  change = change.Nothing;
}

abbrev pub row_of_kind : OpKind → LowRow
row_of_kind ArithConstant = record plain { result = slot.OfLiteral; attr = carries.Literal }
row_of_kind ArithAddi = record plain { first = slot.Number; second = slot.Like 0; result = slot.Like 0 }
row_of_kind ArithSubi = record plain { first = slot.Number; second = slot.Like 0; result = slot.Like 0 }
row_of_kind ArithMuli = record plain { first = slot.Number; second = slot.Like 0; result = slot.Like 0 }
row_of_kind ArithDivsi = record plain { first = slot.Number; second = slot.Like 0; result = slot.Like 0 }
row_of_kind ArithDivui = record plain { first = slot.Number; second = slot.Like 0; result = slot.Like 0 }
row_of_kind ArithRemsi = record plain { first = slot.Number; second = slot.Like 0; result = slot.Like 0 }
row_of_kind ArithRemui = record plain { first = slot.Number; second = slot.Like 0; result = slot.Like 0 }
row_of_kind ArithAndi = record plain { first = slot.Number; second = slot.Like 0; result = slot.Like 0 }
row_of_kind ArithOri = record plain { first = slot.Number; second = slot.Like 0; result = slot.Like 0 }
row_of_kind ArithXori = record plain { first = slot.Number; second = slot.Like 0; result = slot.Like 0 }
row_of_kind ArithShli = record plain { first = slot.Number; second = slot.Like 0; result = slot.Like 0 }
row_of_kind ArithShrsi = record plain { first = slot.Number; second = slot.Like 0; result = slot.Like 0 }
row_of_kind ArithShrui = record plain { first = slot.Number; second = slot.Like 0; result = slot.Like 0 }
row_of_kind ArithMaxsi = record plain { first = slot.Number; second = slot.Like 0; result = slot.Like 0 }
row_of_kind ArithMinsi = record plain { first = slot.Number; second = slot.Like 0; result = slot.Like 0 }
row_of_kind ArithMaxui = record plain { first = slot.Number; second = slot.Like 0; result = slot.Like 0 }
row_of_kind ArithMinui = record plain { first = slot.Number; second = slot.Like 0; result = slot.Like 0 }
row_of_kind ArithCmpi = record plain { first = slot.Number; second = slot.Like 0; result = slot.Truth; attr = carries.Pred }
row_of_kind ArithSelect = record plain { first = slot.Truth; second = slot.Number; third = slot.Like 1; result = slot.Like 1 }
row_of_kind ArithExtsi = record plain { first = slot.Number; result = slot.Wider }
row_of_kind ArithExtui = record plain { first = slot.Number; result = slot.Wider }
row_of_kind ArithTrunci = record plain { first = slot.Number; result = slot.Narrower }
row_of_kind ArithIndexCast = record plain { first = slot.Number; result = slot.Recast }
row_of_kind ArithIndexCastui = record plain { first = slot.Number; result = slot.Recast }
row_of_kind MemrefAlloc = record plain { rest = rest.Sizes; result = slot.Memref; step = step.Shared }
row_of_kind MemrefDealloc = record plain { first = slot.Memref; step = step.Shared }
row_of_kind MemrefDim = record plain { first = slot.Memref; second = slot.Index; result = slot.Index }
row_of_kind MemrefLoad = record plain { first = slot.Memref; rest = rest.Indices 0; result = slot.CellOf 0; step = step.Shared }
row_of_kind MemrefStore = record plain { first = slot.CellOf 1; second = slot.Memref; rest = rest.Indices 1; step = step.Shared }
row_of_kind CfBr = record plain { targets = to.One; takes = true }
row_of_kind CfCondBr = record plain { first = slot.Truth; targets = to.Either; takes = true }
row_of_kind FuncCall = record plain { rest = rest.Params; results = results.Called; attr = carries.Coroutine; takes = true; gives = true }
row_of_kind AioCall = record plain { rest = rest.Params; attr = carries.Plain; targets = to.Call; takes = true; gives = true }
row_of_kind FuncReturn = record plain { rest = rest.Returned; targets = to.Ends; step = step.Ends; takes = true }
row_of_kind AioFail = record plain { first = slot.Code; targets = to.Ends; step = step.Ends }
row_of_kind AioFinish = record plain { targets = to.Ends; step = step.Shared }
row_of_kind AsyncCoroId = record plain { result = slot.CoroId }
row_of_kind AsyncCoroBegin = record plain { first = slot.CoroId; result = slot.CoroHandle }
row_of_kind AsyncCoroSave = record plain { first = slot.CoroHandle; result = slot.CoroState }
row_of_kind AsyncCoroSuspend = record plain { first = slot.CoroState; targets = to.Suspend }
row_of_kind AsyncCoroFree = record plain { first = slot.CoroId; second = slot.CoroHandle }
row_of_kind AsyncCoroEnd = record plain { first = slot.CoroHandle }
row_of_kind AsyncRuntimeCreate = record plain { result = slot.Element; step = step.Shared; gives = true }
row_of_kind AsyncRuntimeCreateGroup = record plain { first = slot.Index; result = slot.Group; step = step.Shared; gives = true }
row_of_kind AsyncRuntimeAddToGroup = record plain { first = slot.Element; second = slot.Group; result = slot.Index; step = step.Shared; uses = 2 }
row_of_kind AsyncRuntimeResume = record plain { first = slot.CoroHandle; step = step.Shared }
row_of_kind AsyncRuntimeAwait = record plain { first = slot.Object; step = step.Shared; uses = 1 }
row_of_kind AsyncRuntimeAwaitAndResume = record plain { first = slot.Object; second = slot.CoroHandle; step = step.Shared; uses = 1 }
row_of_kind AsyncRuntimeIsError = record plain { first = slot.Object; result = slot.Truth; step = step.Shared; uses = 1 }
row_of_kind AsyncRuntimeStore = record plain { first = slot.HeldBy 1; second = slot.Value; step = step.Shared }
row_of_kind AsyncRuntimeLoad = record plain { first = slot.Value; result = slot.HeldBy 0; step = step.Shared; uses = 1 }
row_of_kind AsyncRuntimeSetAvailable = record plain { first = slot.Element; step = step.Shared }
row_of_kind AsyncRuntimeSetError = record plain { first = slot.Element; step = step.Shared }
row_of_kind AsyncRuntimeAddRef = record plain { first = slot.Object; attr = carries.Count; step = step.Counts; uses = 1; change = change.Adds }
row_of_kind AsyncRuntimeDropRef = record plain { first = slot.Object; attr = carries.Count; step = step.Counts; change = change.Drops }
row_of_kind _ = record plain { stands = false }

abbrev pub row_of : LowKind → LowRow
row_of (Row kind) = row_of_kind kind
row_of Launch = record plain { rest = rest.Params; results = results.Launched; attr = carries.Coroutine; step = step.Shared; takes = true; gives = true }
row_of Await = record plain { first = slot.Object; targets = to.Await; step = step.Shared; uses = 1 }
