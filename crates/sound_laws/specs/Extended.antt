-- Code with operations inserted and its values renamed.
use Rattle.std.specs.Prelude.{◌≡◌, ℕ, Bool, true, false, List, [], ◌∷◌, ◌++◌, IsTrue, ⊤}
use Rattle.op_table.specs.declared.kind.OpKind.{OpKind}
use Rattle.op_table.specs.declared.rows.Level.{Level}
use Rattle.op_table.specs.Rows.{stands_at}
use Rattle.ir_forms.specs.declared.ops.Op.{Op}
use Rattle.ir_forms.specs.declared.ops.Region.{Region}
use Rattle.ir_forms.specs.declared.ops.Func.{Func}
use Rattle.ir_forms.specs.declared.ops.ValueNo.{ValueNo}
use Rattle.ir_forms.specs.declared.types.Ty.{Ty}
use Rattle.ir_forms.specs.Ops.{kind_of, operands_of, written_of, results_of, attr_of, regions_of, ops_of}
use Rattle.ir_verify.specs.declared.fault.VerifyKind.{VerifyKind}
use Rattle.ir_verify.specs.declared.place.Nest.{Nest}
use Rattle.ir_verify.specs.Breaks.{breaks}
use Rattle.ir_verify.specs.Calls.{calls_at}
use Rattle.ir_verify.specs.Levels.{kinds_at}
use Rattle.ir_verify.specs.Places.{Around, Seen, Spot, defined, params_of, places_at, types_of}
use Rattle.ir_verify.specs.Rules.{groups_of}
use Rattle.source_meaning.specs.Renaming.{renamed_values, renamed_params}

-- ---- places that break nothing

abbrev pub IsFine : Spot → Type 0
IsFine s = (kind : VerifyKind) → breaks kind s ≡ false

abbrev pub AreFine : List Spot → Type 0
AreFine [] = ⊤
AreFine (s ∷ spots) = IsFine s × AreFine spots

-- all these kinds stand at the level
abbrev pub StandAt : Level → List OpKind → Type 0
StandAt level [] = ⊤
StandAt level (k ∷ ks) = IsTrue (stands_at k level) × StandAt level ks

-- An operation that a pass makes: where it sees these values, and isn't its region's last one, neither it nor what stands in it
-- breaks a rule, whatever is round it. Nothing in it is a call, and all of it stands at the level.
pub record IsMade (funcs : List Func) (level : Level) (seen : Seen) (op : Op) : Type 0 where
  pub fine : (around : Around) → AreFine (places_at funcs op around seen false)
  pub calls_nothing : (nest : Nest) → calls_at funcs op nest ≡ []
  pub stands : StandAt level (kinds_at op)

-- ---- code that is kept

-- the names of the code's own values, and what each is called in the extended code
pub record Names : Type 0 where
  pub is_own : ℕ → Bool
  pub renamed : ℕ → ℕ

-- two of the code's own values have two names
abbrev pub IsDistinct : Names → Type 0
IsDistinct names = (v w : ℕ) → names.is_own v ≡ true → names.is_own w ≡ true → names.renamed v ≡ names.renamed w → v ≡ w

abbrev pub AreOwn : Names → List ValueNo → Type 0
AreOwn names [] = ⊤
AreOwn names (v ∷ vs) = (names.is_own v.0 ≡ true) × AreOwn names vs

abbrev pub AreOwnParams : Names → List (ValueNo × Ty) → Type 0
AreOwnParams names [] = ⊤
AreOwnParams names (p ∷ params) = (names.is_own p.0.0 ≡ true) × AreOwnParams names params

-- none of these is what one of the code's own values is called
abbrev pub AreNew : Names → List ValueNo → Type 0
AreNew names [] = ⊤
AreNew names (w ∷ ws) = ((v : ℕ) → names.is_own v ≡ true → names.renamed v ≡ w.0 → ⊥) × AreNew names ws

-- the second operation is the first one under the other names, but for its number and its regions
pub record IsKept (names : Names) (o p : Op) : Type 0 where
  pub kind : kind_of p ≡ kind_of o
  pub operands : operands_of p ≡ renamed_values names.renamed (operands_of o)
  pub groups : groups_of p ≡ groups_of o
  pub written : written_of p ≡ written_of o
  pub results : results_of p ≡ renamed_values names.renamed (results_of o)
  pub types : types_of p ≡ types_of o
  pub attr : attr_of p ≡ attr_of o

-- ---- code with operations inserted

pub data Part : Type 0 where
  Ops : List Op → Part
  Regions : List Region → Part

-- The second part is the first one under the other names, with operations inserted before some that were there. It sees these
-- values.
pub data Extends (funcs : List Func) (level : Level) (names : Names) : Part → Part → Seen → Type 0 where
  no_ops : (seen : Seen) → Extends funcs level names (Ops []) (Ops []) seen
  inserts : (made o : Op) (os ps : List Op) (seen : Seen) → IsMade funcs level seen made → AreNew names (results_of made)
      → Extends funcs level names (Ops (o ∷ os)) (Ops ps) (seen ++ defined (results_of made) (types_of made))
      → Extends funcs level names (Ops (o ∷ os)) (Ops (made ∷ ps)) seen
  keeps : (o p : Op) (os ps : List Op) (seen : Seen) → IsKept names o p → AreOwn names (results_of o)
      → Extends funcs level names (Regions (regions_of o)) (Regions (regions_of p)) seen
      → Extends funcs level names (Ops os) (Ops ps) (seen ++ defined (results_of p) (types_of p))
      → Extends funcs level names (Ops (o ∷ os)) (Ops (p ∷ ps)) seen
  no_regions : (seen : Seen) → Extends funcs level names (Regions []) (Regions []) seen
  region : (r s : Region) (rs ss : List Region) (seen : Seen) → params_of s ≡ renamed_params names.renamed (params_of r) → AreOwnParams names (params_of r)
      → Extends funcs level names (Ops (ops_of r)) (Ops (ops_of s)) (seen ++ params_of s)
      → Extends funcs level names (Regions rs) (Regions ss) seen
      → Extends funcs level names (Regions (r ∷ rs)) (Regions (s ∷ ss)) seen

-- the second function is the first one under the other names, with operations inserted
pub record IsExtended (funcs : List Func) (level : Level) (names : Names) (f g : Func) : Type 0 where
  pub name : g.name ≡ f.name
  pub results : g.results ≡ f.results
  pub params : g.params ≡ renamed_params names.renamed f.params
  pub own : AreOwnParams names f.params
  pub body_params : params_of g.body ≡ renamed_params names.renamed (params_of f.body)
  pub body_own : AreOwnParams names (params_of f.body)
  pub body : Extends funcs level names (Ops (ops_of f.body)) (Ops (ops_of g.body)) (g.params ++ params_of g.body)
