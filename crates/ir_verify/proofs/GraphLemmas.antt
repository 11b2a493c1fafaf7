-- The calls of a function, one region or operation after another.
use Rattle.std.proofs.Common.{◌≡◌, ℕ, suc, ◌+◌, ◌<◌, List, [], ◌∷◌, ◌++◌, map, length, drop, get_or, ap, refl, sym, ◌∙◌, append_assoc, add-one}
use Rattle.std.proofs.Math.Seq.{drop-cons}
use Rattle.ir_forms.specs.declared.ops.Op.{Op}
use Rattle.ir_forms.specs.declared.ops.Op.TheFolds.{fold-Op, fold-Region, fold_out-Op, fold_out-Region}
use Rattle.ir_forms.specs.declared.ops.Region.{Region}
use Rattle.ir_forms.specs.declared.ops.Func.{Func}
use Rattle.ir_forms.specs.Ops.{kind_of, attr_of, regions_of, ops_of}
use Rattle.ir_verify.specs.declared.calls.Call.{Call}
use Rattle.ir_verify.specs.declared.place.Nest.{Nest}
use Rattle.ir_verify.specs.Calls.{CallsOf, all_calls, call_of, op_calls, region_calls, calls_at, calls_in, calls_along, calls_held}
use Rattle.ir_verify.specs.Places.{nest_in}

module _ (funcs : List Func) where
  held : (regions : List Region) (nest : Nest) → all_calls (map (fold-Region CallsOf CallsOf (op_calls funcs) (region_calls funcs)) regions) nest ≡ calls_held funcs regions nest
  unfolding calls_in
  held [] nest = refl
  held (region ∷ regions) nest = ap (λ cs. calls_in funcs region nest ++ cs) (held regions nest)

  along : (ops : List Op) (nest : Nest) → all_calls (map (fold-Op CallsOf CallsOf (op_calls funcs) (region_calls funcs)) ops) nest ≡ calls_along funcs ops nest
  unfolding calls_at
  along [] nest = refl
  along (op ∷ ops) nest = ap (λ cs. calls_at funcs op nest ++ cs) (along ops nest)

  calls_at-out : (op : Op) (nest : Nest) → calls_at funcs op nest ≡ call_of funcs (kind_of op) (attr_of op) nest ++ calls_held funcs (regions_of op) (nest_in (kind_of op) nest)
  unfolding calls_at
  calls_at-out op nest =
      ap (λ (f : CallsOf). f nest) (fold_out-Op CallsOf CallsOf (op_calls funcs) (region_calls funcs) op)
      ∙ ap (λ (cs : List Call). call_of funcs (kind_of op) (attr_of op) nest ++ cs) (held (regions_of op) (nest_in (kind_of op) nest))

  calls_in-out : (region : Region) (nest : Nest) → calls_in funcs region nest ≡ calls_along funcs (ops_of region) nest
  unfolding calls_in
  calls_in-out region nest = ap (λ (f : CallsOf). f nest) (fold_out-Region CallsOf CallsOf (op_calls funcs) (region_calls funcs) region) ∙ along (ops_of region) nest

  pub op_begins : (op : Op) (regions : List Region) (nest inner : Nest) (old now : List Call) → now ≡ old ++ call_of funcs (kind_of op) (attr_of op) nest → inner ≡ nest_in (kind_of op) nest → regions ≡ regions_of op →
      now ++ calls_held funcs regions inner ≡ old ++ calls_at funcs op nest
  op_begins op regions nest inner old now now_is inner_is are =
      ap (λ (rest : List Region). now ++ calls_held funcs rest inner) are
      ∙ ap (λ (n : Nest). now ++ calls_held funcs (regions_of op) n) inner_is
      ∙ ap (λ cs. cs ++ calls_held funcs (regions_of op) (nest_in (kind_of op) nest)) now_is
      ∙ append_assoc old (call_of funcs (kind_of op) (attr_of op) nest) (calls_held funcs (regions_of op) (nest_in (kind_of op) nest))
      ∙ ap (λ cs. old ++ cs) (sym (calls_at-out op nest))

  pub region_begins : (region : Region) (ops : List Op) (nest : Nest) (calls : List Call) → ops ≡ ops_of region → calls ++ calls_along funcs ops nest ≡ calls ++ calls_in funcs region nest
  region_begins region ops nest calls are = ap (λ (rest : List Op). calls ++ calls_along funcs rest nest) are ∙ ap (λ cs. calls ++ cs) (sym (calls_in-out region nest))

  pub held_next : (regions : List Region) (region : Region) (i : ℕ) (nest : Nest) (calls after whole : List Call) → i < length regions → region ≡ get_or regions i region →
      after ≡ calls ++ calls_in funcs region nest → calls ++ calls_held funcs (drop i regions) nest ≡ whole → after ++ calls_held funcs (drop (i + 1) regions) nest ≡ whole
  held_next regions region i nest calls after whole inside at is so_far =
      let front : drop i regions ≡ region ∷ drop (suc i) regions = drop-cons regions i region inside ∙ ap (λ x. x ∷ drop (suc i) regions) (sym at) in
      rw (is, add-one) (append_assoc calls (calls_in funcs region nest) (calls_held funcs (drop (suc i) regions) nest)) ∙ ap (λ (rest : List Region). calls ++ calls_held funcs rest nest) (sym front) ∙ so_far

  pub along_next : (ops : List Op) (op : Op) (i : ℕ) (nest : Nest) (calls after whole : List Call) → i < length ops → op ≡ get_or ops i op →
      after ≡ calls ++ calls_at funcs op nest → calls ++ calls_along funcs (drop i ops) nest ≡ whole → after ++ calls_along funcs (drop (i + 1) ops) nest ≡ whole
  along_next ops op i nest calls after whole inside at is so_far =
      let front : drop i ops ≡ op ∷ drop (suc i) ops = drop-cons ops i op inside ∙ ap (λ x. x ∷ drop (suc i) ops) (sym at) in
      rw (is, add-one) (append_assoc calls (calls_at funcs op nest) (calls_along funcs (drop (suc i) ops) nest)) ∙ ap (λ (rest : List Op). calls ++ calls_along funcs rest nest) (sym front) ∙ so_far
