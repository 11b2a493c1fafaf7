-- What the table of instructions says of the covered rows.
use Rattle.std.proofs.Common.{◌≡◌, true, false, refl}
use Rattle.op_table.specs.declared.kind.OpKind.{OpKind}
use Rattle.op_table.specs.declared.kind.OpKind.TheVariants as op
use Rattle.low_forms.specs.declared.code.LowKind.{LowKind}
use Rattle.low_forms.specs.declared.code.LowKind.TheVariants.{Row, Launch, Await}
use Rattle.low_forms.specs.declared.row.LowRow.{LowRow}
use Rattle.low_forms.specs.declared.row.Slot.{Slot}
use Rattle.low_forms.specs.declared.row.Slot.TheVariants as slot
use Rattle.low_forms.specs.declared.row.Results.TheVariants as results
use Rattle.low_forms.specs.declared.row.Change.{Change}
use Rattle.low_forms.specs.declared.row.Change.TheVariants as change
use Rattle.low_forms.specs.Rows.{row_of, row_of_kind}
use Rattle.task_stack.specs.declared.effects.Effect.{Effect}
use Rattle.task_stack.specs.declared.effects.Effect.TheVariants as effect
use Rattle.task_stack.specs.Effects.{effect_of, effect_of_kind}
use Rattle.step_core.specs.declared.rows.SharedRow.{SharedRow}
use Rattle.step_core.specs.declared.rows.SharedRow.TheVariants as row
use Rattle.step_core.specs.Rows as shared
use Rattle.step_core.specs.Rows.{shared_row}

-- it leaves references alone
abbrev pub Neutral : LowRow → Type 0
Neutral r = (r.takes ≡ false) × (r.gives ≡ false) × (r.change ≡ change.Nothing)

abbrev pub Counting : Change → LowRow → Type 0
Counting c r = (r.takes ≡ false) × (r.gives ≡ false) × (r.change ≡ c) × (r.first ≡ slot.Object)

abbrev pub Making : Slot → LowRow → Type 0
Making s r = (r.takes ≡ false) × (r.gives ≡ true) × (r.change ≡ change.Nothing) × (r.results ≡ results.Own) × (r.result ≡ s)

abbrev pub SharedIs : SharedRow → LowRow → Type 0
SharedIs row.Create r = Making slot.Element r
SharedIs row.CreateGroup r = Making slot.Group r
SharedIs row.Allocate r = Neutral r
SharedIs row.Deallocate r = Neutral r
SharedIs row.LoadCell r = Neutral r
SharedIs row.StoreCell r = Neutral r
SharedIs row.Await r = Neutral r
SharedIs row.IsError r = Neutral r
SharedIs row.Store r = Neutral r
SharedIs row.Load r = Neutral r
SharedIs _ r = Unit {0}

abbrev pub EffectIs : Effect → SharedRow → LowRow → Type 0
EffectIs (effect.Computes n) s r = Neutral r
EffectIs effect.Skips s r = Neutral r
EffectIs effect.AddsReferences s r = Counting change.Adds r
EffectIs effect.DropsReferences s r = Counting change.Drops r
EffectIs effect.Shared s r = SharedIs s r
EffectIs _ s r = Unit {0}

by_kind : (k : OpKind) → EffectIs (effect_of_kind k) (shared.row_of_kind k) (row_of_kind k)
by_kind op.AioCall = tt
by_kind op.AioFail = tt
by_kind op.AioFinish = tt
by_kind op.AioTryCall = tt
by_kind op.ArithAddi = (refl, refl, refl)
by_kind op.ArithAndi = (refl, refl, refl)
by_kind op.ArithCmpi = (refl, refl, refl)
by_kind op.ArithConstant = (refl, refl, refl)
by_kind op.ArithDivsi = (refl, refl, refl)
by_kind op.ArithDivui = (refl, refl, refl)
by_kind op.ArithExtsi = (refl, refl, refl)
by_kind op.ArithExtui = (refl, refl, refl)
by_kind op.ArithIndexCast = (refl, refl, refl)
by_kind op.ArithIndexCastui = (refl, refl, refl)
by_kind op.ArithMaxsi = (refl, refl, refl)
by_kind op.ArithMaxui = (refl, refl, refl)
by_kind op.ArithMinsi = (refl, refl, refl)
by_kind op.ArithMinui = (refl, refl, refl)
by_kind op.ArithMuli = (refl, refl, refl)
by_kind op.ArithOri = (refl, refl, refl)
by_kind op.ArithRemsi = (refl, refl, refl)
by_kind op.ArithRemui = (refl, refl, refl)
by_kind op.ArithSelect = (refl, refl, refl)
by_kind op.ArithShli = (refl, refl, refl)
by_kind op.ArithShrsi = (refl, refl, refl)
by_kind op.ArithShrui = (refl, refl, refl)
by_kind op.ArithSubi = (refl, refl, refl)
by_kind op.ArithTrunci = (refl, refl, refl)
by_kind op.ArithXori = (refl, refl, refl)
by_kind op.AsyncAddToGroup = tt
by_kind op.AsyncAwait = tt
by_kind op.AsyncAwaitAll = tt
by_kind op.AsyncCoroBegin = (refl, refl, refl)
by_kind op.AsyncCoroEnd = (refl, refl, refl)
by_kind op.AsyncCoroFree = (refl, refl, refl)
by_kind op.AsyncCoroId = (refl, refl, refl)
by_kind op.AsyncCoroSave = tt
by_kind op.AsyncCoroSuspend = tt
by_kind op.AsyncCreateGroup = tt
by_kind op.AsyncExecute = tt
by_kind op.AsyncRuntimeAddRef = (refl, refl, refl, refl)
by_kind op.AsyncRuntimeAddToGroup = tt
by_kind op.AsyncRuntimeAwait = (refl, refl, refl)
by_kind op.AsyncRuntimeAwaitAndResume = tt
by_kind op.AsyncRuntimeCreate = (refl, refl, refl, refl, refl)
by_kind op.AsyncRuntimeCreateGroup = (refl, refl, refl, refl, refl)
by_kind op.AsyncRuntimeDropRef = (refl, refl, refl, refl)
by_kind op.AsyncRuntimeIsError = (refl, refl, refl)
by_kind op.AsyncRuntimeLoad = (refl, refl, refl)
by_kind op.AsyncRuntimeResume = tt
by_kind op.AsyncRuntimeSetAvailable = tt
by_kind op.AsyncRuntimeSetError = tt
by_kind op.AsyncRuntimeStore = (refl, refl, refl)
by_kind op.AsyncYield = tt
by_kind op.CfAssert = tt
by_kind op.CfBr = tt
by_kind op.CfCondBr = tt
by_kind op.FuncCall = tt
by_kind op.FuncFunc = tt
by_kind op.FuncReturn = tt
by_kind op.MemrefAlloc = (refl, refl, refl)
by_kind op.MemrefDealloc = (refl, refl, refl)
by_kind op.MemrefDim = (refl, refl, refl)
by_kind op.MemrefLoad = (refl, refl, refl)
by_kind op.MemrefStore = (refl, refl, refl)
by_kind op.BuiltinModule = tt
by_kind op.ScfCondition = tt
by_kind op.ScfFor = tt
by_kind op.ScfIf = tt
by_kind op.ScfParallel = tt
by_kind op.ScfReduce = tt
by_kind op.ScfWhile = tt
by_kind op.ScfYield = tt

pub row_is : (k : LowKind) → EffectIs (effect_of k) (shared_row k) (row_of k)
row_is (Row k) = by_kind k
row_is Launch = tt
row_is Await = tt
