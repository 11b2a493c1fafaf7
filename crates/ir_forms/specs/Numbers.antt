-- The numbers of a module's operations, and how many there are.
use Rattle.std.specs.Prelude.{◌≡◌, ℕ, zero, suc, ◌+◌, List, [], ◌∷◌, ◌++◌, map}
use Rattle.ir_forms.specs.declared.ops.Op.{Op, Op-F, roll-Op}
use Rattle.ir_forms.specs.declared.ops.Op.TheFolds.{fold-Op, fold-Region}
use Rattle.ir_forms.specs.declared.ops.Region.{Region, Region-F, roll-Region}
use Rattle.ir_forms.specs.declared.ops.Func.{Func}
use Rattle.ir_forms.specs.declared.ops.Module.{Module}

-- ---- how many operations there are

abbrev pub sum_of : List ℕ → ℕ
sum_of [] = 0
sum_of (n ∷ ns) = n + sum_of ns

abbrev pub op_size : Op-F ℕ ℕ → ℕ
op_size layer = 1 + sum_of layer.regions

abbrev pub region_size : Region-F ℕ ℕ → ℕ
region_size layer = sum_of layer.ops

-- an operation and those in its regions
abbrev pub operations_in : Op → ℕ
operations_in = fold-Op ℕ ℕ op_size region_size

abbrev pub operations_inside : Region → ℕ
operations_inside = fold-Region ℕ ℕ op_size region_size

-- a function counts as one
abbrev pub operations_under : Func → ℕ
operations_under f = 1 + operations_inside f.body

abbrev pub operations_of : Module → ℕ
operations_of program = sum_of (map operations_under program.funcs)

-- ---- the numbers, in the order of the text

-- What is numbered from here on: with the number that was given last before it, the thing with its numbers, and the
-- number that was given last.
abbrev pub Numbering : Type 0 → Type 0
Numbering A = ℕ → A × ℕ

-- one after another
abbrev pub in_turn : {A : Type 0} → List (ℕ → A × ℕ) → ℕ → List A × ℕ
in_turn [] given = ([], given)
in_turn (f ∷ fs) given = ((f given).0 ∷ (in_turn fs (f given).1).0, (in_turn fs (f given).1).1)

-- an operation comes before what stands in its regions
abbrev pub op_numbers : Op-F (Numbering Op) (Numbering Region) → Numbering Op
op_numbers layer given = (
  roll-Op (record { kind = layer.kind; at = given + 1; operands = layer.operands; groups = layer.groups; written = layer.written; results = layer.results; types = layer.types; attr = layer.attr; regions = (in_turn layer.regions (given + 1)).0 }),
  (in_turn layer.regions (given + 1)).1,
)

abbrev pub region_numbers : Region-F (Numbering Op) (Numbering Region) → Numbering Region
region_numbers layer given =
    (roll-Region (record { params = layer.params; ops = (in_turn layer.ops given).0 }), (in_turn layer.ops given).1)

abbrev pub numbered_op : Op → Numbering Op
numbered_op = fold-Op (Numbering Op) (Numbering Region) op_numbers region_numbers

abbrev pub numbered_region : Region → Numbering Region
numbered_region = fold-Region (Numbering Op) (Numbering Region) op_numbers region_numbers

abbrev pub numbered_func : Func → Numbering Func
numbered_func f given =
    (record f { at = given + 1; body = (numbered_region f.body (given + 1)).0 }, (numbered_region f.body (given + 1)).1)

-- a module whose operations are numbered from 1
abbrev pub renumbered : Module → Module
renumbered program = record { funcs = (in_turn (map numbered_func program.funcs) 0).0 }

-- ---- what the laws speak of

abbrev pub joined : {A : Type 0} → List (List A) → List A
joined [] = []
joined (xs ∷ more) = xs ++ joined more

abbrev pub numbers_at : Op-F (List ℕ) (List ℕ) → List ℕ
numbers_at layer = layer.at ∷ joined layer.regions

abbrev pub numbers_under : Region-F (List ℕ) (List ℕ) → List ℕ
numbers_under layer = joined layer.ops

-- the numbers of an operation and of those in its regions, in the order of the text
abbrev pub numbers_in : Op → List ℕ
numbers_in = fold-Op (List ℕ) (List ℕ) numbers_at numbers_under

abbrev pub numbers_inside : Region → List ℕ
numbers_inside = fold-Region (List ℕ) (List ℕ) numbers_at numbers_under

abbrev pub func_numbers : Func → List ℕ
func_numbers f = f.at ∷ numbers_inside f.body

abbrev pub numbers_of : Module → List ℕ
numbers_of program = joined (map func_numbers program.funcs)

-- as many numbers, the first behind this one
abbrev pub numbers_behind : ℕ → ℕ → List ℕ
numbers_behind last zero = []
numbers_behind last (suc n) = (last + 1) ∷ numbers_behind (last + 1) n

abbrev pub op_unnumbered : Op-F Op Region → Op
op_unnumbered layer = roll-Op (record layer { at = 0 })

-- an operation with no number, and none in its regions
abbrev pub unnumbered_op : Op → Op
unnumbered_op = fold-Op Op Region op_unnumbered roll-Region

abbrev pub unnumbered_region : Region → Region
unnumbered_region = fold-Region Op Region op_unnumbered roll-Region

abbrev pub unnumbered_func : Func → Func
unnumbered_func f = record f { at = 0; body = unnumbered_region f.body }

abbrev pub unnumbered : Module → Module
unnumbered program = record { funcs = map unnumbered_func program.funcs }

-- ---- the laws

-- the operations of a numbered module have the numbers from 1 on, in the order of the text
abbrev pub NumbersInOrder : Type 0
NumbersInOrder = (program : Module) → numbers_of (renumbered program) ≡ numbers_behind 0 (operations_of program)

abbrev pub RenumberedOnce : Type 0
RenumberedOnce = (program : Module) → renumbered (renumbered program) ≡ renumbered program

-- nothing but the numbers changes
abbrev pub NumbersAlone : Type 0
NumbersAlone = (program : Module) → unnumbered (renumbered program) ≡ unnumbered program
