-- The equations of the places.
use Rattle.std.proofs.Common.{◌≡◌, ℕ, ◌+◌, Bool, List, [], ◌∷◌, ◌++◌, map, ap, refl, ◌∙◌}
use Rattle.ir_forms.specs.declared.ops.Op.{Op}
use Rattle.ir_forms.specs.declared.ops.Op.TheFolds.{fold-Op, fold-Region, fold_out-Op, fold_out-Region}
use Rattle.ir_forms.specs.declared.ops.Region.{Region}
use Rattle.ir_forms.specs.declared.ops.Func.{Func}
use Rattle.ir_forms.specs.Ops.{results_of, regions_of, ops_of}
use Rattle.ir_verify.specs.Places.{Around, Seen, Spot, OfOp, OfRegion, op_step, region_step, of_regions, of_ops, places_at, places_in, places_along, places_held, place_of, within, params_of, defined, types_of, is_none_left}

module _ (funcs : List Func) where
  held : (regions : List Region) (around : Around) (op : Op) (r : ℕ) (seen : Seen) →
      of_regions funcs (map (fold-Region OfOp OfRegion (op_step funcs) (region_step funcs)) regions) regions around op r seen ≡ places_held funcs regions around op r seen
  unfolding places_in
  held [] around op r seen = refl
  held (region ∷ regions) around op r seen = ap (λ rest. places_in funcs region (within around op r) seen ++ rest) (held regions around op (r + 1) seen)

  along : (ops : List Op) (around : Around) (seen : Seen) →
      of_ops funcs (map (fold-Op OfOp OfRegion (op_step funcs) (region_step funcs)) ops) ops around seen ≡ places_along funcs ops around seen
  unfolding places_at
  along [] around seen = refl
  along (op ∷ ops) around seen = ap (λ rest. places_at funcs op around seen (is_none_left ops) ++ rest) (along ops around (seen ++ defined (results_of op) (types_of op)))

  pub places_at-out : (op : Op) (around : Around) (seen : Seen) (last : Bool) →
      places_at funcs op around seen last ≡ record { seen = seen; place = place_of funcs around last op } ∷ places_held funcs (regions_of op) around op 0 seen
  unfolding places_at
  places_at-out op around seen last =
      ap (λ (f : OfOp). f op around seen last) (fold_out-Op OfOp OfRegion (op_step funcs) (region_step funcs) op)
      ∙ ap (λ (rest : List Spot). record { seen = seen; place = place_of funcs around last op } ∷ rest) (held (regions_of op) around op 0 seen)

  pub places_in-out : (region : Region) (around : Around) (seen : Seen) →
      places_in funcs region around seen ≡ places_along funcs (ops_of region) around (seen ++ params_of region)
  unfolding places_in
  places_in-out region around seen =
      ap (λ (f : OfRegion). f region around seen) (fold_out-Region OfOp OfRegion (op_step funcs) (region_step funcs) region)
      ∙ along (ops_of region) around (seen ++ params_of region)
