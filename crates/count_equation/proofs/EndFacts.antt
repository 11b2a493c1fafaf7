-- What the table of instructions says of branches.
use Rattle.std.proofs.Common.{◌≡◌, true, false, refl}
use Rattle.op_table.specs.declared.kind.OpKind.{OpKind}
use Rattle.op_table.specs.declared.kind.OpKind.TheVariants as op
use Rattle.low_forms.specs.declared.code.LowKind.{LowKind}
use Rattle.low_forms.specs.declared.code.LowKind.TheVariants.{Row, Launch, Await}
use Rattle.low_forms.specs.declared.row.Slot.TheVariants as slot
use Rattle.low_forms.specs.declared.row.Rest.TheVariants as rest
use Rattle.low_forms.specs.declared.row.Targets.{Targets}
use Rattle.low_forms.specs.declared.row.Targets.TheVariants as to
use Rattle.low_forms.specs.Rows.{row_of}
use Rattle.low_forms.specs.Saves.{is_suspend}
use Rattle.task_stack.specs.declared.effects.Effect.{Effect}
use Rattle.task_stack.specs.declared.effects.Effect.TheVariants as effect
use Rattle.task_stack.specs.Effects.{effect_of, effect_of_kind}

abbrev pub Branching : Targets → LowKind → Type 0
Branching ts k = ((row_of k).takes ≡ true) × ((row_of k).targets ≡ ts) × (is_suspend k ≡ false) × ((row_of k).second ≡ slot.Absent) × ((row_of k).rest ≡ rest.Nothing)

abbrev pub EndIs : Effect → LowKind → Type 0
EndIs effect.Jumps k = Branching to.One k × ((row_of k).first ≡ slot.Absent)
EndIs effect.Branches k = Branching to.Either k × ((row_of k).first ≡ slot.Truth)
EndIs _ k = Unit {0}

by_kind : (k : OpKind) → EndIs (effect_of_kind k) (Row k)
by_kind op.AioCall = tt
by_kind op.AioFail = tt
by_kind op.AioFinish = tt
by_kind op.AioTryCall = tt
by_kind op.ArithAddi = tt
by_kind op.ArithAndi = tt
by_kind op.ArithCmpi = tt
by_kind op.ArithConstant = tt
by_kind op.ArithDivsi = tt
by_kind op.ArithDivui = tt
by_kind op.ArithExtsi = tt
by_kind op.ArithExtui = tt
by_kind op.ArithIndexCast = tt
by_kind op.ArithIndexCastui = tt
by_kind op.ArithMaxsi = tt
by_kind op.ArithMaxui = tt
by_kind op.ArithMinsi = tt
by_kind op.ArithMinui = tt
by_kind op.ArithMuli = tt
by_kind op.ArithOri = tt
by_kind op.ArithRemsi = tt
by_kind op.ArithRemui = tt
by_kind op.ArithSelect = tt
by_kind op.ArithShli = tt
by_kind op.ArithShrsi = tt
by_kind op.ArithShrui = tt
by_kind op.ArithSubi = tt
by_kind op.ArithTrunci = tt
by_kind op.ArithXori = tt
by_kind op.AsyncAddToGroup = tt
by_kind op.AsyncAwait = tt
by_kind op.AsyncAwaitAll = tt
by_kind op.AsyncCoroBegin = tt
by_kind op.AsyncCoroEnd = tt
by_kind op.AsyncCoroFree = tt
by_kind op.AsyncCoroId = tt
by_kind op.AsyncCoroSave = tt
by_kind op.AsyncCoroSuspend = tt
by_kind op.AsyncCreateGroup = tt
by_kind op.AsyncExecute = tt
by_kind op.AsyncRuntimeAddRef = tt
by_kind op.AsyncRuntimeAddToGroup = tt
by_kind op.AsyncRuntimeAwait = tt
by_kind op.AsyncRuntimeAwaitAndResume = tt
by_kind op.AsyncRuntimeCreate = tt
by_kind op.AsyncRuntimeCreateGroup = tt
by_kind op.AsyncRuntimeDropRef = tt
by_kind op.AsyncRuntimeIsError = tt
by_kind op.AsyncRuntimeLoad = tt
by_kind op.AsyncRuntimeResume = tt
by_kind op.AsyncRuntimeSetAvailable = tt
by_kind op.AsyncRuntimeSetError = tt
by_kind op.AsyncRuntimeStore = tt
by_kind op.AsyncYield = tt
by_kind op.CfAssert = tt
by_kind op.CfBr = ((refl, refl, refl, refl, refl), refl)
by_kind op.CfCondBr = ((refl, refl, refl, refl, refl), refl)
by_kind op.FuncCall = tt
by_kind op.FuncFunc = tt
by_kind op.FuncReturn = tt
by_kind op.MemrefAlloc = tt
by_kind op.MemrefDealloc = tt
by_kind op.MemrefDim = tt
by_kind op.MemrefLoad = tt
by_kind op.MemrefStore = tt
by_kind op.BuiltinModule = tt
by_kind op.ScfCondition = tt
by_kind op.ScfFor = tt
by_kind op.ScfIf = tt
by_kind op.ScfParallel = tt
by_kind op.ScfReduce = tt
by_kind op.ScfWhile = tt
by_kind op.ScfYield = tt

pub end_is : (k : LowKind) → EndIs (effect_of k) k
end_is (Row k) = by_kind k
end_is Launch = tt
end_is Await = tt
