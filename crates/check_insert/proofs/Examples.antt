use Rattle.std.specs.Prelude.{◌≡◌, refl, ℕ, Bool, true, false, List, [], ◌∷◌, map, codes}
use Rattle.int_ops.specs.declared.Pred.{Pred}
use Rattle.int_ops.specs.declared.Pred.TheVariants as is
use Rattle.int_ops.specs.declared.Width.TheVariants.{W1, W8}
use Rattle.op_table.specs.declared.kind.OpKind.{OpKind}
use Rattle.op_table.specs.declared.kind.OpKind.TheVariants as op
use Rattle.ir_forms.specs.declared.ops.Attr.{Attr}
use Rattle.ir_forms.specs.declared.ops.Attr.TheVariants as attr
use Rattle.ir_forms.specs.declared.ops.Op.{Op, Op-F, roll-Op}
use Rattle.ir_forms.specs.declared.ops.Region.{Region, roll-Region}
use Rattle.ir_forms.specs.declared.ops.ValueNo.{ValueNo}
use Rattle.ir_forms.specs.declared.types.CellTy.TheVariants as cell
use Rattle.ir_forms.specs.declared.types.Dim.TheVariants.{Fixed, Dynamic}
use Rattle.ir_forms.specs.declared.types.Ty.{Ty}
use Rattle.ir_forms.specs.declared.types.Ty.TheVariants as ty
use Rattle.check_insert.specs.Shape.{check_between, check_quotient, insertion}

abbrev v : ℕ → ValueNo
v n = record { 0 = n }

abbrev vs : List ℕ → List ValueNo
vs ns = map v ns

abbrev made : OpKind → List ℕ → List ℕ → List Ty → List Ty → Attr → List Region → Op
made k results operands written types a regions = roll-Op (record { kind = k; at = 2; operands = vs operands; groups = []; written = written; results = vs results; types = types; attr = a; regions = regions })

abbrev i1 : Ty
i1 = ty.Int W1

abbrev i8 : Ty
i8 = ty.Int W8

abbrev number : ℕ → Ty → Bool → ℕ → Op
number v t negative n = made op.ArithConstant (v ∷ []) [] [] (t ∷ []) (attr.Literal negative n) []

abbrev compared : ℕ → Ty → Pred → ℕ → ℕ → Op
compared v t p a b = made op.ArithCmpi (v ∷ []) (a ∷ b ∷ []) (t ∷ t ∷ []) (i1 ∷ []) (attr.Pred p) []

abbrev two : OpKind → ℕ → Ty → ℕ → ℕ → Op
two k v t a b = made k (v ∷ []) (a ∷ b ∷ []) (t ∷ t ∷ []) (t ∷ []) attr.None []

abbrev holds : List ℕ → ℕ → Op
holds text a = made op.CfAssert [] (a ∷ []) [] [] (attr.Text text) []

abbrev divides : Op-F Op Region
divides = record { kind = op.ArithDivsi; at = 2; operands = v 0 ∷ v 1 ∷ []; groups = []; written = i8 ∷ i8 ∷ []; results = v 10 ∷ []; types = i8 ∷ []; attr = attr.None; regions = [] }

pub division :
    (insertion divides 2).ops ≡ number 2 i8 false 0 ∷ compared 3 i8 is.Ne 1 2 ∷ number 4 i8 true 128 ∷ compared 5 i8 is.Ne 0 4 ∷ number 6 i8 true 1 ∷ compared 7 i8 is.Ne 1 6 ∷ two op.ArithOri 8 i1 5 7 ∷ two op.ArithAndi 9 i1 3 8 ∷ holds (codes "division has no result") 9 ∷ []
unfolding check_quotient
division = refl

abbrev allocates : Op-F Op Region
allocates = record { kind = op.MemrefAlloc; at = 2; operands = v 0 ∷ []; groups = []; written = []; results = v 7 ∷ []; types = ty.Memref (record { elem = cell.Index; dims = Fixed 4 ∷ Dynamic ∷ [] }) ∷ []; attr = attr.None; regions = [] }

abbrev out_of_range : List ℕ
out_of_range = codes "allocation out of range"

pub allocation : (insertion allocates 1).ops ≡ number 1 ty.Index false 16777216 ∷ compared 2 ty.Index is.Ule 0 1 ∷ holds out_of_range 2 ∷ number 3 ty.Index false 4 ∷ compared 4 ty.Index is.Ule 3 1 ∷ holds out_of_range 4 ∷ two op.ArithMuli 5 ty.Index 3 0 ∷ compared 6 ty.Index is.Ule 5 1 ∷ holds out_of_range 6 ∷ []
allocation = refl

abbrev runs : Op-F Op Region
runs = record { kind = op.ScfParallel; at = 2; operands = v 0 ∷ v 1 ∷ v 2 ∷ []; groups = 1 ∷ 1 ∷ 1 ∷ []; written = []; results = []; types = []; attr = attr.None; regions = [] }

abbrev failed : List ℕ
failed = codes "parallel loop failed"

abbrev region : List Op → Region
region ops = roll-Region (record { params = []; ops = ops })

pub parallel : (insertion runs 3).ops ≡
    number 3 ty.Index true 4611686018427387904 ∷ compared 4 ty.Index is.Sge 0 3 ∷ holds failed 4
    ∷ number 5 ty.Index false 4611686018427387904 ∷ compared 6 ty.Index is.Sle 0 5 ∷ holds failed 6
    ∷ compared 7 ty.Index is.Sge 1 3 ∷ holds failed 7 ∷ compared 8 ty.Index is.Sle 1 5 ∷ holds failed 8
    ∷ number 9 ty.Index false 1 ∷ compared 10 ty.Index is.Sge 2 9 ∷ holds failed 10 ∷ compared 11 ty.Index is.Sle 2 5 ∷ holds failed 11
    ∷ compared 12 ty.Index is.Sle 1 0
    ∷ made op.ScfIf (13 ∷ []) (12 ∷ []) [] (ty.Index ∷ []) attr.None (
    region (number 14 ty.Index false 0 ∷ made op.ScfYield [] (14 ∷ []) (ty.Index ∷ []) [] attr.None [] ∷ [])
    ∷ region (two op.ArithSubi 15 ty.Index 1 0 ∷ two op.ArithSubi 16 ty.Index 15 9 ∷ two op.ArithDivui 17 ty.Index 16 2 ∷ two op.ArithAddi 18 ty.Index 17 9 ∷ made op.ScfYield [] (18 ∷ []) (ty.Index ∷ []) [] attr.None [] ∷ [])
    ∷ [])
    ∷ number 19 ty.Index false 2147483648 ∷ compared 20 ty.Index is.Ule 13 19 ∷ holds failed 20
    ∷ compared 21 ty.Index is.Ule 13 19 ∷ holds failed 21 ∷ []
unfolding check_between
parallel = refl
