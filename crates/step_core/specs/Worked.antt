-- Small code, and what its runs come to.
use Rattle.std.specs.Prelude.{◌≡◌, ℕ, zero, suc, true, false, List, [], ◌∷◌, Option, Some, None}
use Rattle.std.specs.Option.{option_map}
use Rattle.int_ops.specs.declared.Width.TheVariants as wd
use Rattle.ir_forms.specs.declared.runs.ObjNo.{ObjNo}
use Rattle.ir_forms.specs.declared.types.OutTy.TheVariants as out
use Rattle.ir_forms.specs.declared.types.Ty.TheVariants as ty
use Rattle.ir_forms.specs.declared.types.ValTy.TheVariants as held
use Rattle.op_table.specs.declared.kind.OpKind.TheVariants as op
use Rattle.low_forms.specs.declared.code.LowAttr as low_attr
use Rattle.low_forms.specs.declared.code.LowAttr.TheVariants as low
use Rattle.low_forms.specs.declared.code.LowKind.{LowKind}
use Rattle.low_forms.specs.declared.code.LowKind.TheVariants as kind
use Rattle.low_forms.specs.declared.code.Instr.{Instr}
use Rattle.low_forms.specs.declared.code.LowFunc.{LowFunc}
use Rattle.low_forms.specs.declared.code.LowModule.{LowModule}
use Rattle.task_stack.specs.Worked.{regs, row, constant, end, block, func, main}
use Rattle.step_core.specs.declared.ends.Counts.{Counts}
use Rattle.step_core.specs.declared.ends.End.{End}
use Rattle.step_core.specs.declared.ends.End.TheVariants.{Done, Failed}
use Rattle.step_core.specs.declared.ends.Entry.{Entry}
use Rattle.step_core.specs.declared.limits.Limit.TheVariants as limit
use Rattle.step_core.specs.State.{counts_of, end_of, live_tasks}
use Rattle.step_core.specs.Shared.{Took, Stopped, Stuck}
use Rattle.step_core.specs.Core.{Core, core_step, start}
use Rattle.step_core.specs.Runs.{run, replay}
use Rattle.step_core.specs.High as high
use Rattle.step_core.specs.High.{High}

-- ---- what is seen of a state

-- its end, how many tasks are left, what was made, and the counts of objects, with those that are gone
pub record Seen : Type 0 where
  pub end : Option End
  pub tasks : ℕ
  pub made : Counts
  pub counts : List ℕ
  pub gone : List ObjNo

abbrev pub seen : Core → Seen
seen c = record { end = end_of c.plain; tasks = live_tasks c.plain.tasks; made = counts_of c.plain; counts = c.counts; gone = c.gone }

abbrev pub entry : ℕ → ℕ → Entry
entry t n = record { task = t; local = n }

-- ---- a task is launched, gives seven, and is awaited

abbrev pub awaits_seven : LowFunc
awaits_seven = record {
  name = [];
  coroutine = false;
  params = [];
  results = ty.Int wd.W64 ∷ [];
  regs = ty.Token ∷ ty.Value (held.Int wd.W64) ∷ ty.Int wd.W1 ∷ ty.Int wd.W64 ∷ ty.Int wd.W64 ∷ [];
  blocks =
      block [] (row op.FuncCall [] (0 ∷ 1 ∷ []) (low.Callee (record { 0 = 1 }))
      ∷ row op.AsyncRuntimeDropRef (0 ∷ []) [] (low.Count 1)
      ∷ row op.AsyncRuntimeAwait (1 ∷ []) [] low.None
      ∷ row op.AsyncRuntimeIsError (1 ∷ []) (2 ∷ []) low.None ∷ []) (end op.CfCondBr (2 ∷ []) low.None (2 ∷ 1 ∷ []))
      ∷ block [] (row op.AsyncRuntimeLoad (1 ∷ []) (3 ∷ []) low.None
      ∷ row op.AsyncRuntimeDropRef (1 ∷ []) [] (low.Count 1) ∷ []) (end op.FuncReturn (3 ∷ []) low.None [])
      ∷ block [] (row op.AsyncRuntimeDropRef (1 ∷ []) [] (low.Count 1)
      ∷ constant 5 4 ∷ []) (end op.AioFail (4 ∷ []) low.None []) ∷ [];
}

-- the coroutine, whose task sets its objects by these instructions
abbrev pub coroutine_of : List Instr → LowFunc
coroutine_of sets = record {
  name = [];
  coroutine = true;
  params = [];
  results = ty.Token ∷ ty.Value (held.Int wd.W64) ∷ [];
  regs = ty.Token ∷ ty.Value (held.Int wd.W64) ∷ ty.CoroId ∷ ty.CoroHandle ∷ ty.CoroState ∷ ty.Int wd.W64 ∷ [];
  blocks =
      block [] (row op.AsyncRuntimeCreate [] (0 ∷ []) low.None
      ∷ row op.AsyncRuntimeCreate [] (1 ∷ []) low.None
      ∷ row op.AsyncCoroId [] (2 ∷ []) low.None
      ∷ row op.AsyncCoroBegin (2 ∷ []) (3 ∷ []) low.None
      ∷ row op.AsyncCoroSave (3 ∷ []) (4 ∷ []) low.None
      ∷ row op.AsyncRuntimeResume (3 ∷ []) [] low.None ∷ []) (end op.AsyncCoroSuspend (4 ∷ []) low.None (3 ∷ 1 ∷ 2 ∷ []))
      ∷ block [] sets (end op.CfBr [] low.None (2 ∷ []))
      ∷ block [] (row op.AsyncCoroFree (2 ∷ 3 ∷ []) [] low.None
      ∷ row op.AsyncCoroEnd (3 ∷ []) [] low.None ∷ []) (end op.AioFinish [] low.None [])
      ∷ block [] (row op.AsyncCoroEnd (3 ∷ []) [] low.None ∷ []) (end op.FuncReturn (0 ∷ 1 ∷ []) low.None []) ∷ [];
}

abbrev pub seven : LowModule
seven = record {
  funcs = awaits_seven ∷ coroutine_of (constant 7 5
      ∷ row op.AsyncRuntimeStore (5 ∷ 1 ∷ []) [] low.None
      ∷ row op.AsyncRuntimeSetAvailable (1 ∷ []) [] low.None
      ∷ row op.AsyncRuntimeSetAvailable (0 ∷ []) [] low.None ∷ []) ∷ [];
}

-- the task works while the root is parked
abbrev pub seven_journal : List Entry
seven_journal =
    entry 0 1 ∷ entry 0 0 ∷ entry 0 3 ∷ entry 0 4 ∷ entry 1 2 ∷ entry 1 0 ∷ entry 1 0 ∷ entry 1 3 ∷ entry 0 0 ∷ entry 0 1 ∷ entry 0 1 ∷ []

abbrev pub seven_end : Option End
seven_end = Some (Done (record { ty = out.Int wd.W64; bits = 7 } ∷ []) [])

abbrev pub token : ObjNo
token = record { 0 = 0 }

abbrev pub its_value : ObjNo
its_value = record { 0 = 1 }

-- the root and the task have ended, both objects are gone, the token first, and so many steps were taken
abbrev pub ended : Option End → ℕ → Seen
ended e n = record { end = e; tasks = 0; made = record { tasks = 1; objects = 2; steps = n }; counts = 0 ∷ 0 ∷ []; gone = token ∷ its_value ∷ [] }

abbrev pub SevenIsReplayed : Type 0
SevenIsReplayed = option_map seen (replay seven seven_journal (start main awaits_seven [])) ≡ Some (ended seven_end 26)

-- ---- in another order the task has ended before the root goes on from its launch; the end is the same

abbrev pub times : ℕ → ℕ → List ℕ → List ℕ
times zero t ts = ts
times (suc n) t ts = t ∷ times n t ts

abbrev pub SevenIsRun : Type 0
SevenIsRun = option_map seen (run seven (times 7 0 (times 9 1 (times 10 0 []))) (start main awaits_seven [])) ≡ Some (ended seven_end 26)

-- ---- the task sets its objects in error: the await fails, at the operation that its failure names

abbrev pub error : LowModule
error = record {
  funcs = awaits_seven ∷ coroutine_of (row op.AsyncRuntimeSetError (1 ∷ []) [] low.None ∷ row op.AsyncRuntimeSetError (0 ∷ []) [] low.None ∷ []) ∷ [];
}

abbrev pub ErrorFailsTheAwait : Type 0
ErrorFailsTheAwait = option_map seen (run error (times 12 0 (times 7 1 (times 5 0 []))) (start main awaits_seven [])) ≡ Some (ended (Some (Failed 5)) 24)

-- ---- a token is added twice to a group of two, which is done once the token is set; a third add is stopped by the size

abbrev pub fills : LowFunc
fills = record {
  name = [];
  coroutine = false;
  params = [];
  results = [];
  regs = ty.Index ∷ ty.Group ∷ ty.Token ∷ ty.Index ∷ ty.Index ∷ ty.Index ∷ [];
  blocks = block [] (constant 2 0
      ∷ row op.AsyncRuntimeCreateGroup (0 ∷ []) (1 ∷ []) low.None
      ∷ row op.AsyncRuntimeCreate [] (2 ∷ []) low.None
      ∷ row op.AsyncRuntimeAddToGroup (2 ∷ 1 ∷ []) (3 ∷ []) low.None
      ∷ row op.AsyncRuntimeAddToGroup (2 ∷ 1 ∷ []) (4 ∷ []) low.None
      ∷ row op.AsyncRuntimeSetAvailable (2 ∷ []) [] low.None
      ∷ row op.AsyncRuntimeAwait (1 ∷ []) [] low.None
      ∷ row op.AsyncRuntimeDropRef (2 ∷ []) [] (low.Count 1)
      ∷ row op.AsyncRuntimeAddToGroup (1 ∷ 1 ∷ []) (5 ∷ []) low.None ∷ []) (end op.FuncReturn [] low.None []) ∷ [];
}

abbrev pub overfills : LowFunc
overfills = record {
  name = [];
  coroutine = false;
  params = [];
  results = [];
  regs = ty.Index ∷ ty.Group ∷ ty.Token ∷ ty.Index ∷ ty.Index ∷ [];
  blocks = block [] (constant 1 0
      ∷ row op.AsyncRuntimeCreateGroup (0 ∷ []) (1 ∷ []) low.None
      ∷ row op.AsyncRuntimeCreate [] (2 ∷ []) low.None
      ∷ row op.AsyncRuntimeAddToGroup (2 ∷ 1 ∷ []) (3 ∷ []) low.None
      ∷ row op.AsyncRuntimeAddToGroup (2 ∷ 1 ∷ []) (4 ∷ []) low.None ∷ []) (end op.FuncReturn [] low.None []) ∷ [];
}

-- one reference of each is left to the task where the token is set
abbrev pub GroupIsDone : Type 0
GroupIsDone = option_map seen (run (record { funcs = fills ∷ [] }) (times 8 0 []) (start main fills [])) ≡ Some (record {
  end = None;
  tasks = 1;
  made = record { tasks = 0; objects = 2; steps = 8 };
  counts = 1 ∷ 0 ∷ [];
  gone = its_value ∷ [];
})

-- the step after so many steps of the root
abbrev pub step_after : ℕ → LowModule → LowFunc → Option (Took Core)
step_after n code f = option_map (λ c. core_step code c 0) (run code (times n 0 []) (start main f []))

abbrev pub FullGroupStops : Type 0
FullGroupStops = step_after 4 (record { funcs = overfills ∷ [] }) overfills ≡ Some (Stopped (limit.Group 1))

-- a group is no element
abbrev pub GroupIsNoElement : Type 0
GroupIsNoElement = step_after 8 (record { funcs = fills ∷ [] }) fills ≡ Some Stuck

-- ---- with the high rows: the task's end is awaited, and its value goes to the block behind

abbrev pub row_high : LowKind → List ℕ → List ℕ → low_attr.LowAttr → Instr
row_high kind operands results attr = record { kind = kind; operands = regs operands; results = regs results; attr = attr }

abbrev pub high_seven : LowFunc
high_seven = record {
  name = [];
  coroutine = false;
  params = [];
  results = ty.Int wd.W64 ∷ [];
  regs = ty.Token ∷ ty.Value (held.Int wd.W64) ∷ ty.Int wd.W64 ∷ ty.Int wd.W64 ∷ [];
  blocks =
      block [] (row_high kind.Launch [] (0 ∷ 1 ∷ []) (low.Callee (record { 0 = 1 })) ∷ [])
      (record { instr = row_high kind.Await (1 ∷ []) [] low.None; targets = record { block = record { 0 = 1 }; args = [] } ∷ record { block = record { 0 = 2 }; args = [] } ∷ [] })
      ∷ block (2 ∷ []) [] (end op.FuncReturn (2 ∷ []) low.None [])
      ∷ block [] (constant 5 3 ∷ []) (end op.AioFail (3 ∷ []) low.None []) ∷ [];
}

-- a task that gives seven, and one that fails
abbrev pub gives_seven : LowFunc
gives_seven = func true (ty.Int wd.W64 ∷ []) 1 (block [] (constant 7 0 ∷ []) (end op.FuncReturn (0 ∷ []) low.None []) ∷ [])

abbrev pub gives_none : LowFunc
gives_none = func true (ty.Int wd.W64 ∷ []) 1 (block [] (constant 7 0 ∷ []) (end op.AioFail (0 ∷ []) low.None []) ∷ [])

abbrev pub high_seen : High → Option End × ℕ
high_seen h = (end_of h.plain, h.plain.steps)

abbrev pub HighSevenIsRun : Type 0
HighSevenIsRun = option_map high_seen (high.run (record { funcs = high_seven ∷ gives_seven ∷ [] }) (0 ∷ 1 ∷ 1 ∷ 0 ∷ 0 ∷ []) (high.start main high_seven [])) ≡ Some (seven_end, 5)

abbrev pub HighErrorFailsTheAwait : Type 0
HighErrorFailsTheAwait = option_map high_seen (high.run (record { funcs = high_seven ∷ gives_none ∷ [] }) (0 ∷ 1 ∷ 1 ∷ 0 ∷ 0 ∷ 0 ∷ []) (high.start main high_seven [])) ≡ Some (Some (Failed 5), 6)

-- ---- all of them

abbrev pub WorkedRuns : Type 0
WorkedRuns = SevenIsReplayed × SevenIsRun × ErrorFailsTheAwait × GroupIsDone × FullGroupStops × GroupIsNoElement × HighSevenIsRun × HighErrorFailsTheAwait
