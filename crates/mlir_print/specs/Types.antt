-- The texts of types.
use Rattle.std.specs.Prelude.{ℕ, List, [], ◌∷◌, ◌++◌, codes, decimal}
use Rattle.mlir_lex.specs.declared.kinds.TokenKind.TheVariants as kind
use Rattle.int_ops.specs.declared.Width.{Width}
use Rattle.int_ops.specs.declared.Width.TheVariants.{W1, W8, W16, W32, W64}
use Rattle.ir_forms.specs.declared.types.Ty.{Ty}
use Rattle.ir_forms.specs.declared.types.Ty.TheVariants as ty
use Rattle.ir_forms.specs.declared.types.ValTy.{ValTy}
use Rattle.ir_forms.specs.declared.types.ValTy.TheVariants as val
use Rattle.ir_forms.specs.declared.types.NumTy.{NumTy}
use Rattle.ir_forms.specs.declared.types.NumTy.TheVariants as num
use Rattle.ir_forms.specs.declared.types.CellTy.{CellTy}
use Rattle.ir_forms.specs.declared.types.CellTy.TheVariants as cell
use Rattle.ir_forms.specs.declared.types.Dim.{Dim}
use Rattle.ir_forms.specs.declared.types.Dim.TheVariants.{Fixed, Dynamic}
use Rattle.ir_forms.specs.declared.types.MemTy.{MemTy}
use Rattle.mlir_print.specs.Docs.{Doc, Empty, Token, ◌<>◌, word, mark, parens, commas, arrow}

abbrev pub width_name : Width → List ℕ
width_name W1 = codes "i1"
width_name W8 = codes "i8"
width_name W16 = codes "i16"
width_name W32 = codes "i32"
width_name W64 = codes "i64"

abbrev pub number_name : NumTy → List ℕ
number_name (num.Int w) = width_name w
number_name num.Index = codes "index"

-- the word in front of the type of what a value holds
unfoldable pub value_word : List ℕ
value_word = codes "!async.value"

-- ---- memrefs, each one token

abbrev pub cell_text : CellTy → List ℕ
cell_text (cell.Int w) = width_name w
cell_text cell.Index = codes "index"
cell_text cell.Token = codes "!async.token"
cell_text cell.Group = codes "!async.group"
cell_text (cell.Value n) = value_word ++ 60 ∷ number_name n ++ 62 ∷ []

abbrev pub dim_text : Dim → List ℕ
dim_text (Fixed n) = decimal n ++ codes "x"
dim_text Dynamic = codes "?x"

abbrev pub dims_text : List Dim → List ℕ
dims_text [] = []
dims_text (d ∷ ds) = dim_text d ++ dims_text ds

abbrev pub memref_text : MemTy → List ℕ
memref_text m = codes "memref<" ++ dims_text m.dims ++ cell_text m.elem ++ codes ">"

-- ---- types

-- what an `!async.value` holds
abbrev pub payload_doc : ValTy → Doc
payload_doc (val.Int w) = word (width_name w)
payload_doc val.Index = word (codes "index")
payload_doc (val.Memref m) = Token kind.Memref (memref_text m)

-- a parameter without a type prints as nothing
abbrev pub type_doc : Ty → Doc
type_doc (ty.Int w) = word (width_name w)
type_doc ty.Index = word (codes "index")
type_doc (ty.Memref m) = Token kind.Memref (memref_text m)
type_doc ty.Token = Token kind.BangName (codes "!async.token")
type_doc (ty.Value v) = Token kind.BangName value_word <> mark 60 <> payload_doc v <> mark 62
type_doc ty.Group = Token kind.BangName (codes "!async.group")
type_doc ty.CoroId = Token kind.BangName (codes "!async.coro.id")
type_doc ty.CoroHandle = Token kind.BangName (codes "!async.coro.handle")
type_doc ty.CoroState = Token kind.BangName (codes "!async.coro.state")
type_doc ty.Untyped = Empty

abbrev pub types : List Ty → Doc
types ts = commas type_doc ts

-- types of results: one stands alone, none or several in parentheses
abbrev pub result_types : List Ty → Doc
result_types (t ∷ []) = type_doc t
result_types ts = parens (types ts)

-- ` -> ` and the types of results, where there are any
abbrev pub results_if_any : List Ty → Doc
results_if_any [] = Empty
results_if_any (t ∷ ts) = arrow <> result_types (t ∷ ts)
