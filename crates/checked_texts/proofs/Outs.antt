-- The parts of what the passes make.
use Rattle.std.proofs.Common.{◌≡◌, ℕ, List, [], ◌∷◌, ◌++◌, map, refl, ap, ◌∙◌}
use Rattle.ir_forms.specs.declared.ops.Op.{Op, Op-F, out-Op, roll-Op, out-roll-Op}
use Rattle.ir_forms.specs.declared.ops.Op.TheFolds.{fold-Op, fold-Region, fold_out-Op, fold_out-Region}
use Rattle.ir_forms.specs.declared.ops.Region.{Region, Region-F, out-Region, roll-Region, out-roll-Region}
use Rattle.ir_forms.specs.Numbers.{Numbering, in_turn, joined}
use Rattle.ir_forms.specs.Ops.{kind_of, operands_of, written_of, results_of, attr_of, regions_of, ops_of}
use Rattle.ir_verify.specs.Places.{params_of, types_of}
use Rattle.ir_verify.specs.Rules.{groups_of}
use Rattle.made_ops.specs.Made.{begun}
use Rattle.made_ops.specs.declared.insertion.Insertion.{Insertion}
use Rattle.source_meaning.specs.Renaming.{op_renamed, region_renamed, renamed_op, renamed_params, renamed_region, renamed_node}
use Rattle.check_insert.specs.declared.guard.Guard.{Guard}
use Rattle.check_insert.specs.declared.guard.Guard.TheVariants as guard
use Rattle.check_insert.specs.Shape.{checked_op, checked_region, guard_of, guarded, op_checked, region_checked}

-- the operation with other regions
abbrev pub with_regions : Op → List Region → Op
with_regions o rs = roll-Op (record { kind = kind_of o; at = (out-Op o).at; operands = operands_of o; groups = groups_of o; written = written_of o; results = results_of o; types = types_of o; attr = attr_of o; regions = rs })

abbrev pub before : Op → ℕ → Insertion
before o free = guarded (guard_of (kind_of o)) (out-Op o) (begun (out-Op o).at free)

guarded_same : (g : Guard) (o : Op) (rs : List (Numbering Region)) (i : Insertion) →
    guarded g (let n : Op-F (Numbering (List Op)) (Numbering Region) = record { kind = kind_of o; at = (out-Op o).at; operands = operands_of o; groups = groups_of o; written = written_of o; results = results_of o; types = types_of o; attr = attr_of o; regions = rs } in n) i
    ≡ guarded g (out-Op o) i
guarded_same guard.Nothing o rs i = refl
guarded_same g o rs i = refl

pub op_out : (o : Op) (free : ℕ) → checked_op o free ≡ (
  (before o free).ops ++ with_regions o (in_turn (map checked_region (regions_of o)) (before o free).free).0 ∷ [],
  (in_turn (map checked_region (regions_of o)) (before o free).free).1,
)
op_out o free =
    ap (λ (f : Numbering (List Op)). f free) (fold_out-Op (Numbering (List Op)) (Numbering Region) op_checked region_checked o)
    ∙ ap (λ (i : Insertion). (i.ops ++ with_regions o (in_turn (map checked_region (regions_of o)) i.free).0 ∷ [], (in_turn (map checked_region (regions_of o)) i.free).1))
    (guarded_same (guard_of (kind_of o)) o (map checked_region (regions_of o)) (begun (out-Op o).at free))

pub region_out : (r : Region) (free : ℕ) → checked_region r free ≡ (
  roll-Region (record { params = params_of r; ops = joined (in_turn (map checked_op (ops_of r)) free).0 }),
  (in_turn (map checked_op (ops_of r)) free).1,
)
region_out r free = ap (λ (f : Numbering Region). f free) (fold_out-Region (Numbering (List Op)) (Numbering Region) op_checked region_checked r)

module _ (σ : ℕ → ℕ) where
  pub parts : (o : Op) → out-Op (renamed_op σ o) ≡ renamed_node σ (out-Op o)
  unfolding renamed_op renamed_region
  parts o = ap out-Op (fold_out-Op Op Region (op_renamed σ) (region_renamed σ) o) ∙ out-roll-Op _

  pub region_parts : (r : Region) → out-Region (renamed_region σ r) ≡ record { params = renamed_params σ (out-Region r).params; ops = map (renamed_op σ) (out-Region r).ops }
  unfolding renamed_op renamed_region
  region_parts r = ap out-Region (fold_out-Region Op Region (op_renamed σ) (region_renamed σ) r) ∙ out-roll-Region _
