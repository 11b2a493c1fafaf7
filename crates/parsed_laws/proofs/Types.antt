-- The types of a function that is read are small.
use Rattle.std.proofs.Common.{◌≡◌, ◌≤◌, ℕ, List, [], ◌∷◌, length, map, slice_get, inl, inr, sym, ap, ◌∙◌, subst, arith}
use Rattle.std.specs.Prelude.{⊤}
use Rattle.op_table.specs.declared.rows.Level.{Level}
use Rattle.op_table.specs.declared.form.Form.{Form}
use Rattle.op_table.specs.declared.form.Form.TheVariants as shape
use Rattle.op_table.specs.Rows.{row_of}
use Rattle.ir_forms.specs.declared.ops.Attr.{Attr}
use Rattle.ir_forms.specs.declared.ops.Func.{Func}
use Rattle.ir_forms.specs.declared.ops.Op.{Op, Op-F, out-Op, roll-Op, out-roll-Op}
use Rattle.ir_forms.specs.declared.ops.Op.TheFolds.{fold-roll-Op, fold-roll-Region}
use Rattle.ir_forms.specs.declared.ops.Region.{Region, Region-F, roll-Region, out-roll-Region}
use Rattle.ir_forms.specs.declared.types.CellTy.{CellTy}
use Rattle.ir_forms.specs.declared.types.CellTy.TheVariants as cell
use Rattle.ir_forms.specs.declared.types.NumTy.TheVariants as num
use Rattle.ir_forms.specs.declared.types.Dim.{Dim}
use Rattle.ir_forms.specs.declared.types.Dim.TheVariants.{Fixed, Dynamic}
use Rattle.ir_forms.specs.declared.types.Ty.{Ty}
use Rattle.ir_forms.specs.declared.types.Ty.TheVariants as ty
use Rattle.ir_forms.specs.declared.types.ValTy.TheVariants as val
use Rattle.ir_forms.specs.Ops.{written_of}
use Rattle.ir_verify.specs.Places.{params_of}
use Rattle.source_meaning.specs.Parts.{dims_of, joined}
use Rattle.source_meaning.specs.TaskOrder.{Each}
use Rattle.check_insert.specs.Shape.{rank}
use Rattle.check_laws.specs.Rows.{IsNumber}
use Rattle.check_laws.specs.Laws.{HasNoBodyParams}
use Rattle.check_laws.proofs.Defined.{each_append}
use Rattle.check_laws.specs.Fits.{AreSmall, HasSmallTypes, SmallTypes, Types, types_at, types_under, types_in, types_inside}
use Rattle.mlir_print.specs.Printable.{AreWritten, AreWrittenDims, Has, HasForm, HasParts, IsWritten, Scope, cell_type, payloads, types_of}
use Rattle.read_forms.proofs.Shows.{Piece, Shows}
use Rattle.read_forms.proofs.Outcomes.{FuncShows}

-- ---- types that a text can write

-- the first of these types, where there is one, is small
abbrev IsSmall : List Ty → Type 0
IsSmall (ty.Memref m ∷ ts) = (length m.dims ≤ 4) × AreSmall m.dims
IsSmall _ = ⊤

small-dims : (dims : List Dim) → AreWrittenDims dims → AreSmall dims
small-dims [] h = tt
small-dims (Fixed n ∷ dims) h = (h.0, small-dims dims h.1)
small-dims (Dynamic ∷ dims) h = small-dims dims h.1

small-one : (t : Ty) (ts : List Ty) → IsWritten t → IsSmall (t ∷ ts)
small-one (ty.Memref m) ts h = (h.0, small-dims m.dims h.1)
small-one _ ts h = tt

small : (ts : List Ty) → AreWritten ts → IsSmall ts
small [] h = tt
small (t ∷ ts) h = small-one t ts h.0

small-payloads : (t : Ty) → IsWritten t → IsSmall (payloads t)
small-payloads (ty.Value (val.Memref m)) h = small-one (ty.Memref m) [] h
small-payloads (ty.Value (val.Int w)) h = tt
small-payloads (ty.Value val.Index) h = tt
small-payloads _ h = tt

small-cell : (c : CellTy) → IsSmall (cell_type c ∷ [])
small-cell (cell.Int w) = tt
small-cell cell.Index = tt
small-cell cell.Token = tt
small-cell cell.Group = tt
small-cell (cell.Value (num.Int w)) = tt
small-cell (cell.Value num.Index) = tt

rank-of : (ts : List Ty) → IsSmall ts → IsNumber (rank ts)
rank-of (ty.Memref m ∷ ts) h = let few = h.0 in omega (arith, few)
rank-of _ h = omega arith

dims-of : (ts : List Ty) → IsSmall ts → AreSmall (dims_of (slice_get ts 0))
dims-of (ty.Memref m ∷ ts) h = h.1
dims-of _ h = tt

-- ---- what a form writes

-- so it is for both lists of an operation's types
abbrev HasSmall : Op → Type 0
HasSmall o = IsSmall (written_of o) × IsSmall (types_of o)

given : {o : Op} {n : ℕ} {a : Attr} {groups : List ℕ} {ws ts : List Ty} {params : List (List Ty)} → Has o n a groups ws ts params → IsSmall ws → IsSmall ts → HasSmall o
given h w t = (subst IsSmall (sym h.written_are) w, subst IsSmall (sym h.types_are) t)

parts-small : (f : Form) (o : Op) → HasParts f o → HasSmall o
parts-small shape.Binary o h = given h.2 (small-one h.0 (h.0 ∷ []) h.1) (small-one h.0 [] h.1)
parts-small shape.Compare o h = given h.3 (small-one h.1 (h.1 ∷ []) h.2) tt
parts-small shape.Select o h = given h.2 (small-one h.0 (h.0 ∷ []) h.1) (small-one h.0 [] h.1)
parts-small shape.Extend o h = given h.4 (small-one h.0 [] h.2) (small-one h.1 [] h.3)
parts-small shape.Truncate o h = given h.4 (small-one h.0 [] h.2) (small-one h.1 [] h.3)
parts-small shape.IndexCast o h = given h.4 (small-one h.0 [] h.2) (small-one h.1 [] h.3)
parts-small shape.Constant o (inl h) = given h.1 tt tt
parts-small shape.Constant o (inr (inl h)) = given h.4 tt (small-one h.1 [] h.3)
parts-small shape.Constant o (inr (inr h)) = given h.4 tt (small-one h.1 [] h.3)
parts-small shape.Assert o h = given h.2 tt tt
parts-small shape.Call o h = given h.7 (small h.1 h.4) (small h.2 h.5)
parts-small shape.TryCall o h = given h.7 (small h.1 h.4) (small h.2 h.5)
parts-small shape.Return o h = given h.4 (small h.1 h.2) tt
parts-small shape.For o h = given h.4 tt (small h.1 h.2)
parts-small shape.If o h = given h.2 tt (small h.0 h.1)
parts-small shape.While o h = given h.6 (small h.0 h.3) (small h.1 h.4)
parts-small shape.Condition o h = given h.4 (small h.1 h.2) tt
parts-small shape.Parallel o h = given h.7 tt tt
parts-small shape.Reduce o h = given h tt tt
parts-small shape.Yield o h = given h.4 (small h.1 h.2) tt
parts-small shape.Alloc o h = given h.2 tt (small-one (ty.Memref h.0) [] h.1)
parts-small shape.Dealloc o h = given h.2 (small-one (ty.Memref h.0) [] h.1) tt
parts-small shape.Load o h = given h.3 (small-one (ty.Memref h.0) [] h.2) (small-cell h.0.elem)
parts-small shape.Store o h = given h.3 (small-one (ty.Memref h.0) [] h.2) tt
parts-small shape.Dim o h = given h.2 (small-one (ty.Memref h.0) [] h.1) tt
parts-small shape.Execute o h = given h.7 (small h.1 h.5) tt
parts-small shape.TaskYield o h = given h.4 (small h.1 h.2) tt
parts-small shape.Await o h = given h.2 (small-one h.0 [] h.1) (small-payloads h.0 h.1)
parts-small shape.AwaitAll o h = given h tt tt
parts-small shape.CreateGroup o h = given h tt tt
parts-small shape.AddToGroup o h = given h.2 (small-one h.0 [] h.1) tt
parts-small shape.Other o h = absurd h

node-small : (x : Op-F Op Region) → HasForm x.kind (roll-Op x) → SmallTypes (x.written, x.types)
node-small x h =
    let small : HasSmall (roll-Op x) = parts-small (row_of x.kind).form (roll-Op x) h in
    let laid : out-Op (roll-Op x) ≡ x = out-roll-Op x in (
      rank-of x.written (subst (λ (z : Op-F Op Region). IsSmall z.written) laid small.0),
      dims-of x.types (subst (λ (z : Op-F Op Region). IsSmall z.types) laid small.1),
    )

-- ---- what is read

abbrev types_of_piece : Piece → List Types
types_of_piece (Piece.Ops ops) = joined (map types_in ops)
types_of_piece (Piece.Regions k types i regions) = joined (map types_inside regions)

op-types : (x : Op-F Op Region) → types_in (roll-Op x) ≡ (x.written, x.types) ∷ joined (map types_inside x.regions)
op-types x = fold-roll-Op (List Types) (List Types) types_at types_under x

region-types : (y : Region-F Op Region) → types_inside (roll-Region y) ≡ joined (map types_in y.ops)
region-types y = fold-roll-Region (List Types) (List Types) types_at types_under y

all-small : (level : Level) (p : Piece) (a b : Scope) → Shows level p a b → Each SmallTypes (types_of_piece p)
all-small level _ _ _ (Shows.no_ops s) = tt
all-small level _ _ _ (Shows.one_op x os s inner end st f n r u regions more) =
    each_append SmallTypes (types_in (roll-Op x)) (joined (map types_in os))
    (subst (Each SmallTypes) (sym (op-types x)) (node-small x f, all-small level _ _ _ regions))
    (all-small level _ _ _ more)
all-small level _ _ _ (Shows.no_regions k ts i s) = tt
all-small level _ _ _ (Shows.region k ts i y rs s inner end n e ops more) =
    each_append SmallTypes (types_inside (roll-Region y)) (joined (map types_inside rs))
    (subst (Each SmallTypes) (sym (region-types y)) (all-small level _ _ _ ops))
    (all-small level _ _ _ more)

pub small_types : (level : Level) (f : Func) → FuncShows level f → HasSmallTypes f
small_types level f h =
    let y : Region-F Op Region = record { params = []; ops = h.ops } in
    subst (Each SmallTypes) (sym (ap types_inside h.body ∙ region-types y)) (all-small level _ _ _ h.shows)

-- ---- bodies

pub no_params : (level : Level) (f : Func) → FuncShows level f → HasNoBodyParams f
no_params level f h =
    let y : Region-F Op Region = record { params = []; ops = h.ops } in
    ap params_of h.body ∙ ap (λ (z : Region-F Op Region). z.params) (out-roll-Region y)
