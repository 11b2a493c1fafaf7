-- Which modules are the meaning of their printed text: each operation has what its form writes and nothing besides, values are
-- numbered in the order of the text, and each operand is visible where it is used.
use Rattle.std.specs.Prelude.{◌≡◌, ◌<◌, ◌≤◌, ◌⊎◌, ℕ, zero, suc, ◌+◌, ◌-◌, ◌^◌, Bool, true, false, List, [], ◌∷◌, ◌++◌, length, map, replicate, IsTrue, ⊤}
use Rattle.std.specs.List.{Contains}
use Rattle.int_ops.specs.declared.Width.TheVariants.{W1}
use Rattle.int_ops.specs.declared.Pred.{Pred}
use Rattle.op_table.specs.declared.kind.OpKind.{OpKind}
use Rattle.op_table.specs.declared.kind.OpKind.TheVariants as op
use Rattle.op_table.specs.declared.rows.Level.{Level}
use Rattle.op_table.specs.declared.form.Form.{Form}
use Rattle.op_table.specs.declared.form.Form.TheVariants as shape
use Rattle.op_table.specs.Rows.{row_of, stands_at}
use Rattle.ir_forms.specs.declared.ops.Op.{Op, out-Op}
use Rattle.ir_forms.specs.declared.ops.Region.{Region, out-Region}
use Rattle.ir_forms.specs.declared.ops.Func.{Func}
use Rattle.ir_forms.specs.declared.ops.Module.{Module}
use Rattle.ir_forms.specs.declared.ops.ValueNo.{ValueNo}
use Rattle.ir_forms.specs.declared.ops.Attr.{Attr}
use Rattle.ir_forms.specs.declared.ops.Attr.TheVariants as attr
use Rattle.ir_forms.specs.declared.types.Ty.{Ty}
use Rattle.ir_forms.specs.declared.types.Ty.TheVariants as ty
use Rattle.ir_forms.specs.declared.types.ValTy.{ValTy}
use Rattle.ir_forms.specs.declared.types.ValTy.TheVariants as val
use Rattle.ir_forms.specs.declared.types.NumTy.TheVariants as num
use Rattle.ir_forms.specs.declared.types.CellTy.{CellTy}
use Rattle.ir_forms.specs.declared.types.CellTy.TheVariants as cell
use Rattle.ir_forms.specs.declared.types.Dim.{Dim}
use Rattle.ir_forms.specs.declared.types.Dim.TheVariants.{Fixed, Dynamic}
use Rattle.ir_forms.specs.declared.types.MemTy.{MemTy}
use Rattle.ir_forms.specs.Ops.{kind_of, operands_of, written_of, results_of, attr_of, regions_of, ops_of}

abbrev pub AreBytes : List ℕ → Type 0
AreBytes [] = ⊤
AreBytes (b ∷ bs) = (b < 256) × AreBytes bs

-- ---- types

-- a text writes at most four dimensions, each at most 2^24
abbrev pub IsWrittenDim : Dim → Type 0
IsWrittenDim (Fixed n) = n ≤ 2 ^ 24
IsWrittenDim Dynamic = ⊤

abbrev pub AreWrittenDims : List Dim → Type 0
AreWrittenDims [] = ⊤
AreWrittenDims (d ∷ ds) = IsWrittenDim d × AreWrittenDims ds

abbrev pub IsWrittenMemref : MemTy → Type 0
IsWrittenMemref m = (length m.dims ≤ 4) × AreWrittenDims m.dims

abbrev pub IsWrittenPayload : ValTy → Type 0
IsWrittenPayload (val.Int w) = ⊤
IsWrittenPayload val.Index = ⊤
IsWrittenPayload (val.Memref m) = IsWrittenMemref m

-- a text can write the type
abbrev pub IsWritten : Ty → Type 0
IsWritten (ty.Int w) = ⊤
IsWritten ty.Index = ⊤
IsWritten (ty.Memref m) = IsWrittenMemref m
IsWritten ty.Token = ⊤
IsWritten (ty.Value v) = IsWrittenPayload v
IsWritten ty.Group = ⊤
IsWritten ty.CoroId = ⊥
IsWritten ty.CoroHandle = ⊥
IsWritten ty.CoroState = ⊥
IsWritten ty.Untyped = ⊥

abbrev pub AreWritten : List Ty → Type 0
AreWritten [] = ⊤
AreWritten (t ∷ ts) = IsWritten t × AreWritten ts

-- what awaiting a value of this type gives, if it gives anything
abbrev pub payloads : Ty → List Ty
payloads (ty.Value (val.Int w)) = ty.Int w ∷ []
payloads (ty.Value val.Index) = ty.Index ∷ []
payloads (ty.Value (val.Memref m)) = ty.Memref m ∷ []
payloads _ = []

-- the same of a launch's value operand: what is no value gives its parameter no type
abbrev pub payload : Ty → Ty
payload t = first (payloads t)
  where
    first : List Ty → Ty
    first [] = ty.Untyped
    first (t ∷ ts) = t

abbrev pub cell_type : CellTy → Ty
cell_type (cell.Int w) = ty.Int w
cell_type cell.Index = ty.Index
cell_type cell.Token = ty.Token
cell_type cell.Group = ty.Group
cell_type (cell.Value (num.Int w)) = ty.Value (val.Int w)
cell_type (cell.Value num.Index) = ty.Value val.Index

-- ---- what an operation of a form has

abbrev pub types_of : Op → List Ty
types_of o = (out-Op o).types

abbrev pub params_of : Region → List (ValueNo × Ty)
params_of region = (out-Region region).params

abbrev pub param_types : Region → List Ty
param_types region = map (λ p. p.1) (params_of region)

-- the operation has so many operands, and exactly these parts
pub record Has (o : Op) (operands : ℕ) (a : Attr) (groups : List ℕ) (written types : List Ty) (params : List (List Ty)) : Type 0 where
  pub operand_count : length (operands_of o) ≡ operands
  pub attr_is : attr_of o ≡ a
  pub groups_are : (out-Op o).groups ≡ groups
  pub written_are : written_of o ≡ written
  pub types_are : types_of o ≡ types
  pub params_are : map param_types (regions_of o) ≡ params

-- as many types as types are given, the rest without one
abbrev pub typed_by : ℕ → List Ty → List Ty
typed_by zero ts = []
typed_by (suc n) [] = ty.Untyped ∷ typed_by n []
typed_by (suc n) (t ∷ ts) = t ∷ typed_by n ts

-- so many values have types exactly where there are any
abbrev pub HaveTypes : ℕ → List Ty → Type 0
HaveTypes zero [] = ⊤
HaveTypes (suc n) (t ∷ ts) = ⊤
HaveTypes _ _ = ⊥

abbrev pub IsBinary : ℕ → Op → Type 0
IsBinary n o = (t : Ty) × IsWritten t × Has o n attr.None [] (t ∷ t ∷ []) (t ∷ []) []

abbrev pub IsCast : Op → Type 0
IsCast o = (t : Ty) × (u : Ty) × IsWritten t × IsWritten u × Has o 1 attr.None [] (t ∷ []) (u ∷ []) []

abbrev pub IsConstant : Op → Type 0
IsConstant o =
    ((truth : Bool) × Has o 0 (attr.Truth truth) [] [] (ty.Int W1 ∷ []) [])
    ⊎ ((n : ℕ) × (t : Ty) × (n < 2 ^ 64) × IsWritten t × Has o 0 (attr.Literal false n) [] [] (t ∷ []) [])
    ⊎ ((n : ℕ) × (t : Ty) × (n ≤ 2 ^ 63) × IsWritten t × Has o 0 (attr.Literal true n) [] [] (t ∷ []) [])

-- values and their types behind a terminator's name, after so many operands that stand in parentheses
abbrev pub IsYield : ℕ → Op → Type 0
IsYield before o =
    (n : ℕ) × (ts : List Ty) × AreWritten ts × HaveTypes n ts × Has o (before + n) attr.None [] ts [] []

abbrev pub IsCall : (List Ty → Type 0) → Op → Type 0
IsCall Results o =
    (name : List ℕ) × (ts : List Ty) × (us : List Ty) × AreBytes name × AreWritten ts × AreWritten us × Results us × Has o (length (operands_of o)) (attr.Callee name) [] ts us []

abbrev pub IsFor : Op → Type 0
IsFor o = (n : ℕ) × (ts : List Ty) × AreWritten ts × HaveTypes n ts × Has o (3 + n) attr.None [] [] ts ((ty.Index ∷ typed_by n ts) ∷ [])

abbrev pub IsWhile : Op → Type 0
IsWhile o =
    (ws : List Ty) × (ts : List Ty) × (ps : List Ty) × AreWritten ws × AreWritten ts × AreWritten ps
    × Has o (length (operands_of o)) attr.None [] ws ts (typed_by (length (operands_of o)) ws ∷ ps ∷ [])

-- three groups of bounds, each of at least one and below 2^32
abbrev pub IsParallel : Op → Type 0
IsParallel o =
    (a : ℕ) × (b : ℕ) × (c : ℕ) × (n : ℕ) × (a < 2 ^ 32 - 1) × (b < 2 ^ 32 - 1) × (c < 2 ^ 32 - 1)
    × Has o (suc a + (suc b + suc c)) attr.None (suc a ∷ suc b ∷ suc c ∷ []) [] [] (replicate (suc n) ty.Index ∷ [])

-- dependencies, and values with their parameters, below 2^32 of each
abbrev pub IsExecute : Op → Type 0
IsExecute o =
    (n : ℕ) × (ws : List Ty) × (ts : List Ty) × (n < 2 ^ 32) × (length ws < 2 ^ 32) × AreWritten ws × AreWritten ts
    × Has o (n + length ws) attr.None (n ∷ length ws ∷ []) ws (ty.Token ∷ ts) (map payload ws ∷ [])

-- an operation of this form has what the form writes
abbrev pub HasParts : Form → Op → Type 0
HasParts shape.Binary o = IsBinary 2 o
HasParts shape.Compare o = (p : Pred) × (t : Ty) × IsWritten t × Has o 2 (attr.Pred p) [] (t ∷ t ∷ []) (ty.Int W1 ∷ []) []
HasParts shape.Select o = IsBinary 3 o
HasParts shape.Extend o = IsCast o
HasParts shape.Truncate o = IsCast o
HasParts shape.IndexCast o = IsCast o
HasParts shape.Constant o = IsConstant o
HasParts shape.Assert o = (text : List ℕ) × AreBytes text × Has o 1 (attr.Text text) [] [] [] []
HasParts shape.Call o = IsCall (λ us. ⊤) o
HasParts shape.TryCall o = IsCall (λ us. us ≡ ty.Int W1 ∷ []) o
HasParts shape.Return o = IsYield 0 o
HasParts shape.For o = IsFor o
HasParts shape.If o = (ts : List Ty) × AreWritten ts × Has o 1 attr.None [] [] ts ([] ∷ [] ∷ [])
HasParts shape.While o = IsWhile o
HasParts shape.Condition o = IsYield 1 o
HasParts shape.Parallel o = IsParallel o
HasParts shape.Reduce o = Has o 0 attr.None [] [] [] []
HasParts shape.Yield o = IsYield 0 o
HasParts shape.Alloc o = (m : MemTy) × IsWrittenMemref m × Has o (length (operands_of o)) attr.None [] [] (ty.Memref m ∷ []) []
HasParts shape.Dealloc o = (m : MemTy) × IsWrittenMemref m × Has o 1 attr.None [] (ty.Memref m ∷ []) [] []
HasParts shape.Load o = (m : MemTy) × (n : ℕ) × IsWrittenMemref m × Has o (n + 1) attr.None [] (ty.Memref m ∷ []) (cell_type m.elem ∷ []) []
HasParts shape.Store o = (m : MemTy) × (n : ℕ) × IsWrittenMemref m × Has o (n + 2) attr.None [] (ty.Memref m ∷ []) [] []
HasParts shape.Dim o = (m : MemTy) × IsWrittenMemref m × Has o 2 attr.None [] (ty.Memref m ∷ []) (ty.Index ∷ []) []
HasParts shape.Execute o = IsExecute o
HasParts shape.TaskYield o = IsYield 0 o
HasParts shape.Await o = (t : Ty) × IsWritten t × Has o 1 attr.None [] (t ∷ []) (payloads t) []
HasParts shape.AwaitAll o = Has o 1 attr.None [] [] [] []
HasParts shape.CreateGroup o = Has o 1 attr.None [] [] (ty.Group ∷ []) []
HasParts shape.AddToGroup o = (t : Ty) × IsWritten t × Has o 2 attr.None [] (t ∷ []) (ty.Index ∷ []) []
HasParts shape.Other o = ⊥

-- an operation of this kind has what its form writes
abbrev pub HasForm : OpKind → Op → Type 0
HasForm k o = HasParts (row_of k).form o

-- ---- the ends of regions

-- the kind of the last of these operations
abbrev pub ends_with : OpKind → List Op → Type 0
ends_with k [] = ⊥
ends_with k (o ∷ []) = kind_of o ≡ k
ends_with k (o ∷ p ∷ ops) = ends_with k (p ∷ ops)

-- Where a text may leave out a region's terminator, the region has it, so that the reader makes none. A conditional without
-- results may have an empty second region: that is one that isn't written.
abbrev pub IsEnded : OpKind → ℕ → List Ty → List Op → Type 0
IsEnded op.ScfFor i [] ops = ends_with op.ScfYield ops
IsEnded op.ScfIf zero [] ops = ends_with op.ScfYield ops
IsEnded op.ScfIf (suc i) [] ops = (ops ≡ []) ⊎ ends_with op.ScfYield ops
IsEnded op.AsyncExecute i (t ∷ []) ops = ends_with op.AsyncYield ops
IsEnded op.ScfParallel i ts ops = ends_with op.ScfReduce ops
IsEnded _ i ts ops = ⊤

-- ---- values

-- the number of the next value, and the values that are visible
pub record Scope : Type 0 where
  pub next : ℕ
  pub seen : List ℕ

abbrev pub numbers : List ValueNo → List ℕ
numbers vs = map (λ v. v.0) vs

-- these values number on from n, below the number that stands for no value
abbrev pub NumberOn : ℕ → List ValueNo → Type 0
NumberOn n [] = ⊤
NumberOn n (v ∷ vs) = (v.0 ≡ n) × (n < 2 ^ 32 - 1) × NumberOn (n + 1) vs

abbrev pub AreSeen : List ℕ → List ValueNo → Type 0
AreSeen seen [] = ⊤
AreSeen seen (v ∷ vs) = Contains seen v.0 × AreSeen seen vs

abbrev pub defining : Scope → List ValueNo → Scope
defining s vs = record { next = s.next + length vs; seen = s.seen ++ numbers vs }

-- the operations of a region, or the regions of an operation that number from a place on
pub data Part : Type 0 where
  Ops : List Op → Part
  Regions : Op → ℕ → List Region → Part

-- The part prints from one scope to another. An operation's results are numbered before what stands in it, and become visible
-- behind it; a region's parameters are visible in the region alone.
pub data Prints (level : Level) : Part → Scope → Scope → Type 0 where
  no_ops : (s : Scope) → Prints level (Ops []) s s
  operation : (o : Op) (os : List Op) (s inner end : Scope) → IsTrue (stands_at (kind_of o) level) → HasForm (kind_of o) o
      → (out-Op o).at < 2 ^ 32 → NumberOn s.next (results_of o) → AreSeen s.seen (operands_of o)
      → Prints level (Regions o 0 (regions_of o)) (record { next = s.next + length (results_of o); seen = s.seen }) inner
      → Prints level (Ops os) (record { next = inner.next; seen = s.seen ++ numbers (results_of o) }) end
      → Prints level (Ops (o ∷ os)) s end
  no_regions : (o : Op) (i : ℕ) (s : Scope) → Prints level (Regions o i []) s s
  region : (o : Op) (i : ℕ) (r : Region) (rs : List Region) (s inner end : Scope) → NumberOn s.next (map (λ p. p.0) (params_of r))
      → IsEnded (kind_of o) i (types_of o) (ops_of r)
      → Prints level (Ops (ops_of r)) (defining s (map (λ p. p.0) (params_of r))) inner
      → Prints level (Regions o (i + 1) rs) (record { next = inner.next; seen = s.seen }) end
      → Prints level (Regions o i (r ∷ rs)) s end

abbrev pub IsPrintableFunc : Level → Func → Type 0
IsPrintableFunc level f =
    AreBytes f.name × AreWritten (map (λ p. p.1) f.params) × AreWritten f.results × (params_of f.body ≡ []) × (f.at < 2 ^ 32)
    × NumberOn 0 (map (λ p. p.0) f.params)
    × ((end : Scope) × Prints level (Ops (ops_of f.body)) (defining (record { next = 0; seen = [] }) (map (λ p. p.0) f.params)) end)

abbrev pub ArePrintable : Level → List Func → Type 0
ArePrintable level [] = ⊤
ArePrintable level (f ∷ fs) = IsPrintableFunc level f × ArePrintable level fs

-- the module is the meaning of its printed text at this level
abbrev pub IsPrintable : Level → Module → Type 0
IsPrintable level m = ArePrintable level m.funcs
