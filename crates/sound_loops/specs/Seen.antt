-- What is visible at a place, and operations that break nothing there.
use Rattle.std.specs.Prelude.{◌≡◌, true, false, List, [], ◌∷◌, ◌++◌, Some, ⊤}
use Rattle.ir_forms.specs.declared.ops.Func.{Func}
use Rattle.ir_forms.specs.declared.ops.Op.{Op}
use Rattle.ir_forms.specs.declared.ops.ValueNo.{ValueNo}
use Rattle.ir_forms.specs.declared.types.Ty.{Ty}
use Rattle.ir_forms.specs.declared.types.Ty.TheVariants as ty
use Rattle.ir_forms.specs.Ops.{results_of}
use Rattle.ir_verify.specs.Places.{Around, Seen, defined, places_at, types_of}
use Rattle.ir_verify.specs.Scopes.{lookup}
use Rattle.ir_verify.specs.Types.{has_async_cells, same_type}
use Rattle.loop_blocks.specs.Made.{Typed}
use Rattle.sound_laws.specs.Extended.{AreFine}

-- these are visible with their types
abbrev pub AreSeen : Seen → Typed → Type 0
AreSeen now [] = ⊤
AreSeen now (p ∷ ps) = (lookup now p.0.0 ≡ Some p.1) × AreSeen now ps

-- these are visible as indexes
abbrev pub AllIndex : Seen → List ValueNo → Type 0
AllIndex now [] = ⊤
AllIndex now (v ∷ vs) = (lookup now v.0 ≡ Some ty.Index) × AllIndex now vs

-- a type that is written, of cells that may be
pub record IsSoundType (t : Ty) : Type 0 where
  pub same : same_type t t ≡ true
  pub cells : has_async_cells t ≡ false

abbrev pub AreSound : Typed → Type 0
AreSound [] = ⊤
AreSound (p ∷ ps) = IsSoundType p.1 × AreSound ps

module _ (funcs : List Func) where
  -- an operation that isn't its region's last one breaks nothing where it sees these values, nor does what stands in it
  abbrev pub FineAt : Seen → Op → Type 0
  FineAt seen o = (around : Around) → AreFine (places_at funcs o around seen false)

  -- nor do these, one behind another
  abbrev pub Front : Seen → List Op → Type 0
  Front seen [] = ⊤
  Front seen (o ∷ os) = FineAt seen o × Front (seen ++ defined (results_of o) (types_of o)) os
