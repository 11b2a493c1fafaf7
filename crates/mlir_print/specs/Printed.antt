-- The printed text of a module.
use Rattle.std.specs.Prelude.{ℕ, suc, ◌+◌, ◌^◌, ◌-◌, min, ◌==◌, Bool, true, false, if◌then◌else◌, List, [], ◌∷◌, codes}
use Rattle.mlir_lex.specs.declared.kinds.TokenKind.TheVariants as kind
use Rattle.op_table.specs.declared.kind.OpKind.{OpKind}
use Rattle.op_table.specs.declared.kind.OpKind.TheVariants as op
use Rattle.op_table.specs.Rows.{name_of}
use Rattle.ir_forms.specs.declared.ops.Op.{Op, Op-F, out-Op}
use Rattle.ir_forms.specs.declared.ops.Op.TheFolds.{fold-Op, fold-Region}
use Rattle.ir_forms.specs.declared.ops.Region.{Region, Region-F}
use Rattle.ir_forms.specs.declared.ops.Func.{Func}
use Rattle.ir_forms.specs.declared.ops.Module.{Module}
use Rattle.ir_forms.specs.declared.ops.ValueNo.{ValueNo}
use Rattle.ir_forms.specs.declared.types.Ty.{Ty}
use Rattle.ir_forms.specs.Ops.{kind_of, results_of, regions_of, ops_of}
use Rattle.mlir_print.specs.Docs.{Doc, Empty, Token, Blank, Line, ◌<>◌, bytes_of, deeper, word, mark, number, colon, equals, keyword, parens, commas}
use Rattle.mlir_print.specs.Types.{results_if_any}
use Rattle.mlir_print.specs.Tokens.{symbol}
use Rattle.mlir_print.specs.Forms.{form, values, param, types_of, params_of}

-- A part of the text, and the number of the last operation in it. Operations are numbered from 1 in the order of the text,
-- functions too.
pub record Printed : Type 0 where
  pub doc : Doc
  pub last : ℕ

-- nothing, after this many operations
abbrev pub nothing : ℕ → Printed
nothing last = record { doc = Empty; last = last }

-- the number of the next operation; numbers end at 2^32 - 1
abbrev pub next : ℕ → ℕ
next last = min (last + 1) (2 ^ 32 - 1)

-- ---- the numbers of operations that aren't their places

abbrev pub number_dict : ℕ → Doc
number_dict at = mark 123 <> word (codes "aio.at") <> equals <> number at <> colon <> word (codes "i64") <> mark 125

-- behind an operation
abbrev pub op_number : ℕ → ℕ → Doc
op_number at place = if at == place then Empty else Blank <> number_dict at

-- before the body of a function
abbrev pub func_number : ℕ → ℕ → Doc
func_number at place = if at == place then Empty else keyword (codes "attributes") <> number_dict at

-- ---- operations and regions

-- the results and ` = `, where there are any
abbrev pub results_doc : List ValueNo → Doc
results_doc [] = Empty
results_doc (v ∷ vs) = values (v ∷ vs) <> equals

-- the line that gives a region's parameters their types, where it shows them and has any
abbrev pub block_line : Bool → List ℕ → List (ValueNo × Ty) → Doc
block_line true indent (p ∷ ps) = Line indent <> Token kind.BlockName (codes "^b") <> parens (commas param (p ∷ ps)) <> Blank <> mark 58
block_line _ indent params = Empty

-- what stands before the region at a place
abbrev pub opening : OpKind → ℕ → Doc
opening op.ScfIf (suc i) = keyword (codes "else")
opening op.ScfWhile (suc i) = keyword (codes "do")
opening _ i = Blank

-- the region at a place shows its own parameters: those of the others stand in the form
abbrev pub shows_params : OpKind → ℕ → Bool
shows_params op.ScfWhile (suc i) = true
shows_params _ i = false

abbrev pub lacks_both : List Ty → List Op → Bool
lacks_both [] [] = true
lacks_both _ _ = false

-- the second region of a conditional without results, where it has no operations
abbrev pub is_left_out : OpKind → ℕ → List Ty → List Op → Bool
is_left_out op.ScfIf (suc i) ts ops = lacks_both ts ops
is_left_out _ i ts ops = false

-- an operation that stands this far in, after this many operations
abbrev pub OfOp : Type 0
OfOp = Op → List ℕ → ℕ → Printed

-- a region in braces that shows its parameters or doesn't, of an operation that stands this far in, likewise
abbrev pub OfRegion : Type 0
OfRegion = Region → Bool → List ℕ → ℕ → Printed

-- the region at a place of an operation, before the others
abbrev pub region_first : Op → ℕ → Printed → Printed → Printed
region_first o i region rest = record { doc = opening (kind_of o) i <> region.doc <> rest.doc; last = rest.last }

-- the regions of an operation, which number from i on
abbrev pub of_regions : List OfRegion → List Region → Op → ℕ → List ℕ → ℕ → Printed
of_regions (f ∷ fs) (region ∷ regions) o i indent last =
    let first : Printed = f region (shows_params (kind_of o) i) indent last in
    if is_left_out (kind_of o) i (types_of o) (ops_of region) then of_regions fs regions o (i + 1) indent last
    else region_first o i first (of_regions fs regions o (i + 1) indent first.last)
of_regions _ _ o i indent last = nothing last

-- an operation of this place in the text, with its regions
abbrev pub with_regions : Op → ℕ → Printed → Printed
with_regions o place inner = record {
  doc = results_doc (results_of o) <> word (name_of (kind_of o)) <> form (kind_of o) o <> inner.doc <> op_number (out-Op o).at place;
  last = inner.last;
}

abbrev pub op_step : Op-F OfOp OfRegion → OfOp
op_step layer o indent last = with_regions o (next last) (of_regions layer.regions (regions_of o) o 0 indent (next last))

-- a line for an operation, before those of the others
abbrev pub line_first : List ℕ → Printed → Printed → Printed
line_first indent first rest = record { doc = Line indent <> first.doc <> rest.doc; last = rest.last }

abbrev pub lines_of : List OfOp → List Op → List ℕ → ℕ → Printed
lines_of (f ∷ fs) (o ∷ os) indent last =
    let first : Printed = f o indent last in
    line_first indent first (lines_of fs os indent first.last)
lines_of _ _ indent last = nothing last

-- these lines in braces
abbrev pub braced : Region → Bool → List ℕ → Printed → Printed
braced region shows indent lines = record {
  doc = mark 123 <> block_line shows (deeper indent) (params_of region) <> lines.doc <> Line indent <> mark 125;
  last = lines.last;
}

abbrev pub region_step : Region-F OfOp OfRegion → OfRegion
region_step layer region shows indent last = braced region shows indent (lines_of layer.ops (ops_of region) (deeper indent) last)

unfoldable pub printed_op : OfOp
printed_op o indent last = fold-Op OfOp OfRegion op_step region_step o o indent last

unfoldable pub printed_region : OfRegion
printed_region region shows indent last = fold-Region OfOp OfRegion op_step region_step region region shows indent last

-- these regions of an operation, which number from i on
abbrev pub printed_regions : List Region → Op → ℕ → List ℕ → ℕ → Printed
printed_regions [] o i indent last = nothing last
printed_regions (region ∷ regions) o i indent last =
    let first : Printed = printed_region region (shows_params (kind_of o) i) indent last in
    if is_left_out (kind_of o) i (types_of o) (ops_of region) then printed_regions regions o (i + 1) indent last
    else region_first o i first (printed_regions regions o (i + 1) indent first.last)

-- a line for each of these operations
abbrev pub printed_lines : List Op → List ℕ → ℕ → Printed
printed_lines [] indent last = nothing last
printed_lines (o ∷ os) indent last =
    let first : Printed = printed_op o indent last in
    line_first indent first (printed_lines os indent first.last)

-- ---- functions and modules

-- what stands before a function's body
abbrev pub func_head : Func → ℕ → Doc
func_head f place =
    word (codes "func.func") <> Blank <> symbol f.name <> parens (commas param f.params) <> results_if_any f.results
    <> func_number f.at place <> Blank

abbrev pub printed_func : Func → ℕ → Printed
printed_func f last =
    let body : Printed = printed_region f.body false [] (next last) in
    record { doc = func_head f (next last) <> body.doc; last = body.last }

-- each function, and the end of its line
abbrev pub printed_funcs : List Func → ℕ → Doc
printed_funcs [] last = Empty
printed_funcs (f ∷ fs) last = (printed_func f last).doc <> Line [] <> printed_funcs fs (printed_func f last).last

abbrev pub module_doc : Module → Doc
module_doc m = printed_funcs m.funcs 0

-- the printed text of a module
abbrev pub printed : Module → List ℕ
printed m = bytes_of (module_doc m)
