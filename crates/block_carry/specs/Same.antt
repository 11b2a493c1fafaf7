-- Values of code as values of the source, by what is known of numbers and objects.
use Rattle.std.specs.Prelude.{◌≡◌, ℕ, zero, suc, take, List, [], ◌∷◌, Option, Some, slice_get}
use Rattle.ir_forms.specs.declared.names.ElementName.{ElementName}
use Rattle.ir_forms.specs.declared.names.ElementName.TheVariants.{Token, Value}
use Rattle.ir_forms.specs.declared.names.MadeName.{MadeName}
use Rattle.ir_forms.specs.Shapes.{product}
use Rattle.low_forms.specs.declared.code.Reg.{Reg}
use Rattle.source_meaning.specs.declared.values.Val as source
use Rattle.source_meaning.specs.declared.values.Val.TheVariants.{Number, Memory, Element, Group}
use Rattle.source_meaning.specs.Values.{Env, named}
use Rattle.async_objects.specs.declared.kinds.Val.{Val}
use Rattle.async_objects.specs.declared.kinds.Val.TheVariants as val
use Rattle.task_stack.specs.Registers.{held}
use Rattle.step_core.specs.High.{Ref}
use Rattle.step_core.specs.High as high
use Rattle.code_machines.specs.Paths.{Names}
use Rattle.code_machines.specs.Naming.{HasPath, Stay}
use Rattle.scf_blocks.specs.Code.{Scope, known}

-- The names of tasks, groups and buffers by their numbers, what objects stand for, and how many cells buffers have.
pub record Known : Type 0 where
  pub names : Names
  pub refs : List Ref
  pub cells : List ℕ

-- ---- values

-- an object is that token or value of a task
abbrev pub IsElement : Known → ElementName → Option Ref → Type 0
IsElement k (Token p) (Some (high.Element q zero)) = HasPath k.names q p
IsElement k (Value p j) (Some (high.Element q (suc i))) = HasPath k.names q p × (i ≡ j)
IsElement k _ _ = ⊥

-- an object is that group
abbrev pub IsGroup : Known → MadeName → Option Ref → Type 0
IsGroup k g (Some (high.Group n)) = slice_get k.names.groups n ≡ Some g
IsGroup k g _ = ⊥

-- a value of the source and one of code are the same
abbrev pub IsSame : Known → source.Val → Val → Type 0
IsSame k (Number n) (val.Number m) = m ≡ n
IsSame k (Memory b dims) (val.Buffer number rank sizes) =
    (slice_get k.names.buffers number ≡ Some b) × (take rank sizes ≡ dims) × (slice_get k.cells number ≡ Some (product dims))
IsSame k (Element x) (val.Object o) = IsElement k x (slice_get k.refs o.0)
IsSame k (Group g) (val.Object o) = IsGroup k g (slice_get k.refs o.0)
IsSame k _ _ = ⊥

-- one by one
abbrev pub AreSame : Known → List source.Val → List Val → Type 0
AreSame k [] [] = Unit {0}
AreSame k (v ∷ vs) (w ∷ ws) = IsSame k v w × AreSame k vs ws
AreSame k _ _ = ⊥

-- each visible value is what its register holds
abbrev pub Agree : Known → Scope → Env → List Val → Type 0
Agree k scope env regs = (x : ℕ) (r : Reg) → known scope x ≡ Some r → IsSame k (named env x) (held regs r.0)

-- what was known still is
pub record Later (k after : Known) : Type 0 where
  pub names : Stay k.names after.names
  pub refs : (o : ℕ) (r : Ref) → slice_get k.refs o ≡ Some r → slice_get after.refs o ≡ Some r
  pub cells : (b n : ℕ) → slice_get k.cells b ≡ Some n → slice_get after.cells b ≡ Some n
