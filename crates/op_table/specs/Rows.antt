-- The table of operations, and what its look-ups give.
use Rattle.std.specs.Prelude.{ℕ, Bool, true, false, List, [], ◌∷◌, ◌&&◌, Option, Some, None, cond, codes, nat_le, not, filter}
use Rattle.std.specs.List.{find}
use Rattle.std.specs.Ordering.{is_lt, nat_cmp}
use Rattle.std.specs.Cmp.Lexicographic.{slice_cmp}
use Rattle.std.specs.Str.{bytes_eq}
use Rattle.op_table.specs.declared.kind.OpKind.{OpKind}
use Rattle.op_table.specs.declared.kind.OpKind.TheVariants.{AioCall, AioFail, AioFinish, AioTryCall, ArithAddi, ArithAndi, ArithCmpi, ArithConstant, ArithDivsi, ArithDivui, ArithExtsi, ArithExtui, ArithIndexCast, ArithIndexCastui, ArithMaxsi, ArithMaxui, ArithMinsi, ArithMinui, ArithMuli, ArithOri, ArithRemsi, ArithRemui, ArithSelect, ArithShli, ArithShrsi, ArithShrui, ArithSubi, ArithTrunci, ArithXori, AsyncAddToGroup, AsyncAwait, AsyncAwaitAll, AsyncCoroBegin, AsyncCoroEnd, AsyncCoroFree, AsyncCoroId, AsyncCoroSave, AsyncCoroSuspend, AsyncCreateGroup, AsyncExecute, AsyncRuntimeAddRef, AsyncRuntimeAddToGroup, AsyncRuntimeAwait, AsyncRuntimeAwaitAndResume, AsyncRuntimeCreate, AsyncRuntimeCreateGroup, AsyncRuntimeDropRef, AsyncRuntimeIsError, AsyncRuntimeLoad, AsyncRuntimeResume, AsyncRuntimeSetAvailable, AsyncRuntimeSetError, AsyncRuntimeStore, AsyncYield, CfAssert, CfBr, CfCondBr, FuncCall, FuncFunc, FuncReturn, MemrefAlloc, MemrefDealloc, MemrefDim, MemrefLoad, MemrefStore, BuiltinModule, ScfCondition, ScfFor, ScfIf, ScfParallel, ScfReduce, ScfWhile, ScfYield}
use Rattle.op_table.specs.declared.form.Form.{Form}
use Rattle.op_table.specs.declared.form.Form.TheVariants.{Binary, Compare, Select, Extend, Truncate, IndexCast, Constant, Assert, Call, TryCall, Return, For, If, While, Condition, Parallel, Reduce, Yield, Alloc, Dealloc, Load, Store, Dim, Execute, TaskYield, Await, AwaitAll, CreateGroup, AddToGroup, Other}
use Rattle.op_table.specs.declared.rows.Count.{Count}
use Rattle.op_table.specs.declared.rows.Count.TheVariants.{Exactly, Any}
use Rattle.op_table.specs.declared.rows.OpRow.{OpRow}
use Rattle.op_table.specs.declared.rows.Level.{Level}
use Rattle.op_table.specs.declared.rows.Level.TheVariants.{Source, Checked, Split, Low}

-- what the table says of one kind: the bytes of the name, how many operands, results and regions there are, the first
-- level whose texts may hold it, and the form that it has in common with others
pub record Row : Type 0 where
  pub name : List ℕ
  pub operands : Count
  pub results : Count
  pub regions : ℕ
  pub level : Level
  pub form : Form

abbrev line : List ℕ → Count → Count → ℕ → Level → Form → Row
line n o r g l f = record { name = n; operands = o; results = r; regions = g; level = l; form = f }

-- the row that the program has
abbrev pub row_seen : OpRow → Row
row_seen r = record { name = r.name.now; operands = r.operands; results = r.results; regions = r.regions; level = r.level; form = r.form }

abbrev pub row_of : OpKind → Row
row_of AioCall = line (codes "aio.call") Any (Exactly 0) 0 Low Other
row_of AioFail = line (codes "aio.fail") (Exactly 1) (Exactly 0) 0 Low Other
row_of AioFinish = line (codes "aio.finish") (Exactly 0) (Exactly 0) 0 Low Other
row_of AioTryCall = line (codes "aio.try_call") Any (Exactly 1) 0 Split TryCall
row_of ArithAddi = line (codes "arith.addi") (Exactly 2) (Exactly 1) 0 Source Binary
row_of ArithAndi = line (codes "arith.andi") (Exactly 2) (Exactly 1) 0 Source Binary
row_of ArithCmpi = line (codes "arith.cmpi") (Exactly 2) (Exactly 1) 0 Source Compare
row_of ArithConstant = line (codes "arith.constant") (Exactly 0) (Exactly 1) 0 Source Constant
row_of ArithDivsi = line (codes "arith.divsi") (Exactly 2) (Exactly 1) 0 Source Binary
row_of ArithDivui = line (codes "arith.divui") (Exactly 2) (Exactly 1) 0 Source Binary
row_of ArithExtsi = line (codes "arith.extsi") (Exactly 1) (Exactly 1) 0 Source Extend
row_of ArithExtui = line (codes "arith.extui") (Exactly 1) (Exactly 1) 0 Source Extend
row_of ArithIndexCast = line (codes "arith.index_cast") (Exactly 1) (Exactly 1) 0 Source IndexCast
row_of ArithIndexCastui = line (codes "arith.index_castui") (Exactly 1) (Exactly 1) 0 Source IndexCast
row_of ArithMaxsi = line (codes "arith.maxsi") (Exactly 2) (Exactly 1) 0 Source Binary
row_of ArithMaxui = line (codes "arith.maxui") (Exactly 2) (Exactly 1) 0 Source Binary
row_of ArithMinsi = line (codes "arith.minsi") (Exactly 2) (Exactly 1) 0 Source Binary
row_of ArithMinui = line (codes "arith.minui") (Exactly 2) (Exactly 1) 0 Source Binary
row_of ArithMuli = line (codes "arith.muli") (Exactly 2) (Exactly 1) 0 Source Binary
row_of ArithOri = line (codes "arith.ori") (Exactly 2) (Exactly 1) 0 Source Binary
row_of ArithRemsi = line (codes "arith.remsi") (Exactly 2) (Exactly 1) 0 Source Binary
row_of ArithRemui = line (codes "arith.remui") (Exactly 2) (Exactly 1) 0 Source Binary
row_of ArithSelect = line (codes "arith.select") (Exactly 3) (Exactly 1) 0 Source Select
row_of ArithShli = line (codes "arith.shli") (Exactly 2) (Exactly 1) 0 Source Binary
row_of ArithShrsi = line (codes "arith.shrsi") (Exactly 2) (Exactly 1) 0 Source Binary
row_of ArithShrui = line (codes "arith.shrui") (Exactly 2) (Exactly 1) 0 Source Binary
row_of ArithSubi = line (codes "arith.subi") (Exactly 2) (Exactly 1) 0 Source Binary
row_of ArithTrunci = line (codes "arith.trunci") (Exactly 1) (Exactly 1) 0 Source Truncate
row_of ArithXori = line (codes "arith.xori") (Exactly 2) (Exactly 1) 0 Source Binary
row_of AsyncAddToGroup = line (codes "async.add_to_group") (Exactly 2) (Exactly 1) 0 Source AddToGroup
row_of AsyncAwait = line (codes "async.await") (Exactly 1) Any 0 Source Await
row_of AsyncAwaitAll = line (codes "async.await_all") (Exactly 1) (Exactly 0) 0 Source AwaitAll
row_of AsyncCoroBegin = line (codes "async.coro.begin") (Exactly 1) (Exactly 1) 0 Low Other
row_of AsyncCoroEnd = line (codes "async.coro.end") (Exactly 1) (Exactly 0) 0 Low Other
row_of AsyncCoroFree = line (codes "async.coro.free") (Exactly 2) (Exactly 0) 0 Low Other
row_of AsyncCoroId = line (codes "async.coro.id") (Exactly 0) (Exactly 1) 0 Low Other
row_of AsyncCoroSave = line (codes "async.coro.save") (Exactly 1) (Exactly 1) 0 Low Other
row_of AsyncCoroSuspend = line (codes "async.coro.suspend") (Exactly 1) (Exactly 0) 0 Low Other
row_of AsyncCreateGroup = line (codes "async.create_group") (Exactly 1) (Exactly 1) 0 Source CreateGroup
row_of AsyncExecute = line (codes "async.execute") Any Any 1 Source Execute
row_of AsyncRuntimeAddRef = line (codes "async.runtime.add_ref") (Exactly 1) (Exactly 0) 0 Low Other
row_of AsyncRuntimeAddToGroup = line (codes "async.runtime.add_to_group") (Exactly 2) (Exactly 1) 0 Low Other
row_of AsyncRuntimeAwait = line (codes "async.runtime.await") (Exactly 1) (Exactly 0) 0 Low Other
row_of AsyncRuntimeAwaitAndResume = line (codes "async.runtime.await_and_resume") (Exactly 2) (Exactly 0) 0 Low Other
row_of AsyncRuntimeCreate = line (codes "async.runtime.create") (Exactly 0) (Exactly 1) 0 Low Other
row_of AsyncRuntimeCreateGroup = line (codes "async.runtime.create_group") (Exactly 1) (Exactly 1) 0 Low Other
row_of AsyncRuntimeDropRef = line (codes "async.runtime.drop_ref") (Exactly 1) (Exactly 0) 0 Low Other
row_of AsyncRuntimeIsError = line (codes "async.runtime.is_error") (Exactly 1) (Exactly 1) 0 Low Other
row_of AsyncRuntimeLoad = line (codes "async.runtime.load") (Exactly 1) (Exactly 1) 0 Low Other
row_of AsyncRuntimeResume = line (codes "async.runtime.resume") (Exactly 1) (Exactly 0) 0 Low Other
row_of AsyncRuntimeSetAvailable = line (codes "async.runtime.set_available") (Exactly 1) (Exactly 0) 0 Low Other
row_of AsyncRuntimeSetError = line (codes "async.runtime.set_error") (Exactly 1) (Exactly 0) 0 Low Other
row_of AsyncRuntimeStore = line (codes "async.runtime.store") (Exactly 2) (Exactly 0) 0 Low Other
row_of AsyncYield = line (codes "async.yield") Any (Exactly 0) 0 Source TaskYield
row_of CfAssert = line (codes "cf.assert") (Exactly 1) (Exactly 0) 0 Source Assert
row_of CfBr = line (codes "cf.br") Any (Exactly 0) 0 Low Other
row_of CfCondBr = line (codes "cf.cond_br") Any (Exactly 0) 0 Low Other
row_of FuncCall = line (codes "func.call") Any Any 0 Source Call
row_of FuncFunc = line (codes "func.func") (Exactly 0) (Exactly 0) 1 Source Other
row_of FuncReturn = line (codes "func.return") Any (Exactly 0) 0 Source Return
row_of MemrefAlloc = line (codes "memref.alloc") Any (Exactly 1) 0 Source Alloc
row_of MemrefDealloc = line (codes "memref.dealloc") (Exactly 1) (Exactly 0) 0 Source Dealloc
row_of MemrefDim = line (codes "memref.dim") (Exactly 2) (Exactly 1) 0 Source Dim
row_of MemrefLoad = line (codes "memref.load") Any (Exactly 1) 0 Source Load
row_of MemrefStore = line (codes "memref.store") Any (Exactly 0) 0 Source Store
row_of BuiltinModule = line (codes "module") (Exactly 0) (Exactly 0) 1 Source Other
row_of ScfCondition = line (codes "scf.condition") Any (Exactly 0) 0 Source Condition
row_of ScfFor = line (codes "scf.for") Any Any 1 Source For
row_of ScfIf = line (codes "scf.if") (Exactly 1) Any 2 Source If
row_of ScfParallel = line (codes "scf.parallel") Any (Exactly 0) 1 Source Parallel
row_of ScfReduce = line (codes "scf.reduce") (Exactly 0) (Exactly 0) 0 Source Reduce
row_of ScfWhile = line (codes "scf.while") Any Any 2 Source While
row_of ScfYield = line (codes "scf.yield") Any (Exactly 0) 0 Source Yield

abbrev pub name_of : OpKind → List ℕ
name_of k = (row_of k).name

-- each kind once, in the byte order of the names
abbrev pub all_kinds : List OpKind
all_kinds = AioCall ∷ AioFail ∷ AioFinish ∷ AioTryCall ∷ ArithAddi ∷ ArithAndi ∷ ArithCmpi ∷ ArithConstant ∷ ArithDivsi ∷ ArithDivui ∷ ArithExtsi ∷ ArithExtui ∷ ArithIndexCast ∷ ArithIndexCastui ∷ ArithMaxsi ∷ ArithMaxui ∷ ArithMinsi ∷ ArithMinui ∷ ArithMuli ∷ ArithOri ∷ ArithRemsi ∷ ArithRemui ∷ ArithSelect ∷ ArithShli ∷ ArithShrsi ∷ ArithShrui ∷ ArithSubi ∷ ArithTrunci ∷ ArithXori ∷ AsyncAddToGroup ∷ AsyncAwait ∷ AsyncAwaitAll ∷ AsyncCoroBegin ∷ AsyncCoroEnd ∷ AsyncCoroFree ∷ AsyncCoroId ∷ AsyncCoroSave ∷ AsyncCoroSuspend ∷ AsyncCreateGroup ∷ AsyncExecute ∷ AsyncRuntimeAddRef ∷ AsyncRuntimeAddToGroup ∷ AsyncRuntimeAwait ∷ AsyncRuntimeAwaitAndResume ∷ AsyncRuntimeCreate ∷ AsyncRuntimeCreateGroup ∷ AsyncRuntimeDropRef ∷ AsyncRuntimeIsError ∷ AsyncRuntimeLoad ∷ AsyncRuntimeResume ∷ AsyncRuntimeSetAvailable ∷ AsyncRuntimeSetError ∷ AsyncRuntimeStore ∷ AsyncYield ∷ CfAssert ∷ CfBr ∷ CfCondBr ∷ FuncCall ∷ FuncFunc ∷ FuncReturn ∷ MemrefAlloc ∷ MemrefDealloc ∷ MemrefDim ∷ MemrefLoad ∷ MemrefStore ∷ BuiltinModule ∷ ScfCondition ∷ ScfFor ∷ ScfIf ∷ ScfParallel ∷ ScfReduce ∷ ScfWhile ∷ ScfYield ∷ []

-- the first of the kinds whose row has this name
abbrev pub found_among : List OpKind → List ℕ → Option OpKind
found_among kinds text = find (λ k. bytes_eq (name_of k) text) kinds

-- the kind whose row has this name
unfoldable pub found : List ℕ → Option OpKind
found text = found_among all_kinds text

-- whether each name comes before the next one in byte order
abbrev pub ascends : List (List ℕ) → Bool
ascends [] = true
ascends (x ∷ []) = true
ascends (x ∷ y ∷ rest) = is_lt (slice_cmp nat_cmp x y) && ascends (y ∷ rest)

-- a level's place in the order of the levels
abbrev pub place_of : Level → ℕ
place_of Source = 0
place_of Checked = 1
place_of Split = 2
place_of Low = 3

-- texts of a level may hold a kind whose row has this level or an earlier one
abbrev pub stands_at : OpKind → Level → Bool
stands_at k l = nat_le (place_of (row_of k).level) (place_of l)

abbrev pub is_other : Form → Bool
is_other Other = true
is_other _ = false

-- function bodies of a level may hold the kinds that stand there and have a form
abbrev pub stands_in_body : OpKind → Level → Bool
stands_in_body k l = not (is_other (row_of k).form) && stands_at k l

-- these kinds, in the order of their names
abbrev pub body_kinds : Level → List OpKind
body_kinds l = filter (λ k. stands_in_body k l) all_kinds

-- what is there, where it passes the test
abbrev pub kept : {X : Type 0} → (X → Bool) → Option X → Option X
kept test None = None
kept test (Some x) = cond (test x) (Some x) None

-- the kinds that end a region or a block
abbrev pub is_terminator : OpKind → Bool
is_terminator AioCall = true
is_terminator AioFail = true
is_terminator AioFinish = true
is_terminator AsyncCoroSuspend = true
is_terminator AsyncYield = true
is_terminator CfBr = true
is_terminator CfCondBr = true
is_terminator FuncReturn = true
is_terminator ScfCondition = true
is_terminator ScfReduce = true
is_terminator ScfYield = true
is_terminator _ = false
