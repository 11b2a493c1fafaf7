-- What shared instructions do, by their kinds.
use Rattle.op_table.specs.declared.kind.OpKind.{OpKind}
use Rattle.op_table.specs.declared.kind.OpKind.TheVariants as op
use Rattle.low_forms.specs.declared.code.LowKind.{LowKind}
use Rattle.low_forms.specs.declared.code.LowKind.TheVariants.{Row, Launch, Await}
use Rattle.step_core.specs.declared.rows.SharedRow.{SharedRow}
use Rattle.step_core.specs.declared.rows.SharedRow.TheVariants as row

abbrev pub row_of_kind : OpKind → SharedRow
row_of_kind op.MemrefAlloc = row.Allocate
row_of_kind op.MemrefDealloc = row.Deallocate
row_of_kind op.MemrefLoad = row.LoadCell
row_of_kind op.MemrefStore = row.StoreCell
row_of_kind op.FuncReturn = row.Return
row_of_kind op.AioFail = row.Fail
row_of_kind op.AioFinish = row.Finish
row_of_kind op.AsyncRuntimeCreate = row.Create
row_of_kind op.AsyncRuntimeCreateGroup = row.CreateGroup
row_of_kind op.AsyncRuntimeAddToGroup = row.AddToGroup
row_of_kind op.AsyncRuntimeResume = row.Resume
row_of_kind op.AsyncRuntimeAwait = row.Await
row_of_kind op.AsyncRuntimeAwaitAndResume = row.AwaitAndResume
row_of_kind op.AsyncRuntimeIsError = row.IsError
row_of_kind op.AsyncRuntimeStore = row.Store
row_of_kind op.AsyncRuntimeLoad = row.Load
row_of_kind op.AsyncRuntimeSetAvailable = row.SetAvailable
row_of_kind op.AsyncRuntimeSetError = row.SetError
row_of_kind _ = row.Absent

abbrev pub shared_row : LowKind → SharedRow
shared_row (Row kind) = row_of_kind kind
shared_row Launch = row.Absent
shared_row Await = row.Absent
