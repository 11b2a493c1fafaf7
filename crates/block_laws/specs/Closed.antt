-- Trees of operations that use only what is visible.
use Rattle.std.specs.Prelude.{◌≡◌, ◌<◌, ℕ, true, List, [], ◌∷◌, length, Option, Some, None}
use Rattle.low_flow.specs.Lists.{has}
use Rattle.ir_forms.specs.declared.ops.ValueNo.{ValueNo}
use Rattle.ir_forms.specs.declared.ops.Func.{Func}
use Rattle.scf_blocks.specs.Tree.{Var, values_of, Ops, gives, decides, plain, asserts, branches, counts, cycles, calls, tries, awaits}
use Rattle.scf_blocks.specs.Lowered.{func_tree}

-- the value is among these numbers
abbrev pub Sees : List ℕ → ValueNo → Type 0
Sees names x = has x.0 names ≡ true

abbrev pub SeesAll : List ℕ → List ValueNo → Type 0
SeesAll names [] = Unit {0}
SeesAll names (x ∷ xs) = Sees names x × SeesAll names xs

-- there is an operand, and it is visible
abbrev pub SeesOne : List ℕ → Option ValueNo → Type 0
SeesOne names None = ⊥
SeesOne names (Some x) = Sees names x

-- these values become visible
abbrev pub with_names : List ValueNo → List ℕ → List ℕ
with_names [] names = names
with_names (x ∷ xs) names = with_names xs (x.0 ∷ names)

abbrev pub with_named : List Var → List ℕ → List ℕ
with_named xs names = with_names (values_of xs) names

-- Each use is of a value that is visible there. What a region defines isn't visible behind it, and a counted loop gives no
-- more results than its head takes values beside the counter.
abbrev pub Closed : Ops → List ℕ → Type 0
Closed (gives vs) names = SeesAll names vs
Closed (decides c vs) names = SeesOne names c × SeesAll names vs
Closed (plain kind a args rs rest) names = SeesAll names args × Closed rest (with_named rs names)
Closed (asserts at c rest) names = SeesOne names c × Closed rest names
Closed (branches c on off rs rest) names = SeesOne names c × Closed on names × Closed off names × Closed rest (with_named rs names)
Closed (counts lower upper step inits params body rs rest) names =
    SeesOne names lower × SeesOne names upper × SeesOne names step × SeesAll names inits × (length rs < length params)
    × Closed body (with_named params names) × Closed rest (with_names rs names)
Closed (cycles inits params before passed after rs rest) names =
    SeesAll names inits × Closed before (with_named params names) × Closed after (with_named passed names) × Closed rest (with_named rs names)
Closed (calls a args rs rest) names = SeesAll names args × Closed rest (with_named rs names)
Closed (tries a args rs rest) names = SeesAll names args × Closed rest (with_named rs names)
Closed (awaits at o rs rest) names = SeesOne names o × Closed rest (with_named rs names)

-- the operations of a function use its parameters and what they define
abbrev pub IsClosed : Func → Type 0
IsClosed f = Closed (func_tree f) (with_named f.params [])
