-- What instructions do, by their kinds.
use Rattle.int_ops.specs.declared.BinOp.TheVariants as bin
use Rattle.op_table.specs.declared.kind.OpKind.{OpKind}
use Rattle.op_table.specs.declared.kind.OpKind.TheVariants as op
use Rattle.low_forms.specs.declared.code.LowKind.{LowKind}
use Rattle.low_forms.specs.declared.code.LowKind.TheVariants.{Row, Launch, Await}
use Rattle.task_stack.specs.declared.effects.Effect.{Effect}
use Rattle.task_stack.specs.declared.effects.Effect.TheVariants as effect
use Rattle.task_stack.specs.declared.effects.Number.TheVariants as number

abbrev pub effect_of_kind : OpKind → Effect
effect_of_kind op.ArithConstant = effect.Computes number.Constant
effect_of_kind op.ArithAddi = effect.Computes (number.Binary bin.Add)
effect_of_kind op.ArithSubi = effect.Computes (number.Binary bin.Sub)
effect_of_kind op.ArithMuli = effect.Computes (number.Binary bin.Mul)
effect_of_kind op.ArithDivsi = effect.Computes (number.Binary bin.DivS)
effect_of_kind op.ArithDivui = effect.Computes (number.Binary bin.DivU)
effect_of_kind op.ArithRemsi = effect.Computes (number.Binary bin.RemS)
effect_of_kind op.ArithRemui = effect.Computes (number.Binary bin.RemU)
effect_of_kind op.ArithAndi = effect.Computes (number.Binary bin.And)
effect_of_kind op.ArithOri = effect.Computes (number.Binary bin.Or)
effect_of_kind op.ArithXori = effect.Computes (number.Binary bin.Xor)
effect_of_kind op.ArithShli = effect.Computes (number.Binary bin.Shl)
effect_of_kind op.ArithShrsi = effect.Computes (number.Binary bin.ShrS)
effect_of_kind op.ArithShrui = effect.Computes (number.Binary bin.ShrU)
effect_of_kind op.ArithMaxsi = effect.Computes (number.Binary bin.MaxS)
effect_of_kind op.ArithMinsi = effect.Computes (number.Binary bin.MinS)
effect_of_kind op.ArithMaxui = effect.Computes (number.Binary bin.MaxU)
effect_of_kind op.ArithMinui = effect.Computes (number.Binary bin.MinU)
effect_of_kind op.ArithCmpi = effect.Computes number.Compare
effect_of_kind op.ArithSelect = effect.Computes number.Select
effect_of_kind op.ArithExtsi = effect.Computes number.ExtendSign
effect_of_kind op.ArithIndexCast = effect.Computes number.ExtendSign
effect_of_kind op.ArithExtui = effect.Computes number.FitWidth
effect_of_kind op.ArithTrunci = effect.Computes number.FitWidth
effect_of_kind op.ArithIndexCastui = effect.Computes number.FitWidth
effect_of_kind op.MemrefDim = effect.Computes number.Dimension
effect_of_kind op.AsyncCoroId = effect.Computes number.Zero
effect_of_kind op.AsyncCoroBegin = effect.Computes number.Zero
effect_of_kind op.AsyncCoroFree = effect.Skips
effect_of_kind op.AsyncCoroEnd = effect.Skips
effect_of_kind op.CfBr = effect.Jumps
effect_of_kind op.CfCondBr = effect.Branches
effect_of_kind op.FuncCall = effect.Launches
effect_of_kind op.AioCall = effect.Calls
effect_of_kind op.FuncReturn = effect.Returns
effect_of_kind op.AioFail = effect.Fails
effect_of_kind op.AsyncCoroSave = effect.Saves
effect_of_kind op.AsyncCoroSuspend = effect.Suspends
effect_of_kind op.AsyncRuntimeAddRef = effect.AddsReferences
effect_of_kind op.AsyncRuntimeDropRef = effect.DropsReferences
effect_of_kind op.MemrefAlloc = effect.Shared
effect_of_kind op.MemrefDealloc = effect.Shared
effect_of_kind op.MemrefLoad = effect.Shared
effect_of_kind op.MemrefStore = effect.Shared
effect_of_kind op.AioFinish = effect.Shared
effect_of_kind op.AsyncRuntimeCreate = effect.Shared
effect_of_kind op.AsyncRuntimeCreateGroup = effect.Shared
effect_of_kind op.AsyncRuntimeAddToGroup = effect.Shared
effect_of_kind op.AsyncRuntimeResume = effect.Shared
effect_of_kind op.AsyncRuntimeAwait = effect.Shared
effect_of_kind op.AsyncRuntimeAwaitAndResume = effect.Shared
effect_of_kind op.AsyncRuntimeIsError = effect.Shared
effect_of_kind op.AsyncRuntimeStore = effect.Shared
effect_of_kind op.AsyncRuntimeLoad = effect.Shared
effect_of_kind op.AsyncRuntimeSetAvailable = effect.Shared
effect_of_kind op.AsyncRuntimeSetError = effect.Shared
effect_of_kind _ = effect.Absent

abbrev pub effect_of : LowKind → Effect
effect_of (Row kind) = effect_of_kind kind
effect_of Launch = effect.Shared
effect_of Await = effect.Shared
