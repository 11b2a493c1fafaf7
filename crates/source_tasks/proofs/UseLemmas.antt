-- The operands of a function, one region or operation after another.
use Rattle.std.proofs.Common.{◌≡◌, ℕ, suc, ◌+◌, ◌<◌, List, [], ◌∷◌, ◌++◌, map, length, drop, get_or, ap, refl, sym, ◌∙◌, append_assoc, add-one}
use Rattle.std.proofs.Math.Seq.{drop-cons}
use Rattle.ir_forms.specs.declared.ops.Op.{Op}
use Rattle.ir_forms.specs.declared.ops.Op.TheFolds.{fold-Op, fold-Region, fold_out-Op, fold_out-Region}
use Rattle.ir_forms.specs.declared.ops.Region.{Region}
use Rattle.ir_forms.specs.declared.ops.Func.{Func}
use Rattle.ir_forms.specs.declared.ops.ValueNo.{ValueNo}
use Rattle.ir_forms.specs.Ops.{operands_of, regions_of, ops_of}
use Rattle.source_meaning.specs.Parts.{joined, uses_at, uses_under, uses_of}
use Rattle.source_tasks.specs.Uses.{uses_under_op, uses_in, uses_along, uses_held}

held : (regions : List Region) → joined (map (fold-Region (List ValueNo) (List ValueNo) uses_at uses_under) regions) ≡ uses_held regions
unfolding uses_in
held [] = refl
held (region ∷ regions) = ap (λ vs. uses_in region ++ vs) (held regions)

along : (ops : List Op) → joined (map (fold-Op (List ValueNo) (List ValueNo) uses_at uses_under) ops) ≡ uses_along ops
unfolding uses_under_op
along [] = refl
along (op ∷ ops) = ap (λ vs. uses_under_op op ++ vs) (along ops)

op-out : (op : Op) → uses_under_op op ≡ operands_of op ++ uses_held (regions_of op)
unfolding uses_under_op
op-out op = fold_out-Op (List ValueNo) (List ValueNo) uses_at uses_under op ∙ ap (λ (vs : List ValueNo). operands_of op ++ vs) (held (regions_of op))

region-out : (region : Region) → uses_in region ≡ uses_along (ops_of region)
unfolding uses_in
region-out region = fold_out-Region (List ValueNo) (List ValueNo) uses_at uses_under region ∙ along (ops_of region)

-- the operands of a function are those of its body
pub func_uses : (f : Func) → uses_of f ≡ uses_in f.body
unfolding uses_in
func_uses f = refl

pub op_begins : (op : Op) (regions : List Region) (old now own : List ValueNo) → now ≡ old ++ own → own ≡ operands_of op → regions ≡ regions_of op →
    now ++ uses_held regions ≡ old ++ uses_under_op op
op_begins op regions old now own now_is own_is are =
    ap (λ (rest : List Region). now ++ uses_held rest) are
    ∙ ap (λ vs. vs ++ uses_held (regions_of op)) (now_is ∙ ap (λ vs. old ++ vs) own_is)
    ∙ append_assoc old (operands_of op) (uses_held (regions_of op))
    ∙ ap (λ vs. old ++ vs) (sym (op-out op))

pub region_begins : (region : Region) (ops : List Op) (uses : List ValueNo) → ops ≡ ops_of region → uses ++ uses_along ops ≡ uses ++ uses_in region
region_begins region ops uses are = ap (λ (rest : List Op). uses ++ uses_along rest) are ∙ ap (λ vs. uses ++ vs) (sym (region-out region))

pub held_next : (regions : List Region) (region : Region) (i : ℕ) (uses after whole : List ValueNo) → i < length regions → region ≡ get_or regions i region →
    after ≡ uses ++ uses_in region → uses ++ uses_held (drop i regions) ≡ whole → after ++ uses_held (drop (i + 1) regions) ≡ whole
held_next regions region i uses after whole inside at is so_far =
    let front : drop i regions ≡ region ∷ drop (suc i) regions = drop-cons regions i region inside ∙ ap (λ x. x ∷ drop (suc i) regions) (sym at) in
    rw (is, add-one) (append_assoc uses (uses_in region) (uses_held (drop (suc i) regions))) ∙ ap (λ (rest : List Region). uses ++ uses_held rest) (sym front) ∙ so_far

pub along_next : (ops : List Op) (op : Op) (i : ℕ) (uses after whole : List ValueNo) → i < length ops → op ≡ get_or ops i op →
    after ≡ uses ++ uses_under_op op → uses ++ uses_along (drop i ops) ≡ whole → after ++ uses_along (drop (i + 1) ops) ≡ whole
along_next ops op i uses after whole inside at is so_far =
    let front : drop i ops ≡ op ∷ drop (suc i) ops = drop-cons ops i op inside ∙ ap (λ x. x ∷ drop (suc i) ops) (sym at) in
    rw (is, add-one) (append_assoc uses (uses_under_op op) (uses_along (drop (suc i) ops))) ∙ ap (λ (rest : List Op). uses ++ uses_along rest) (sym front) ∙ so_far
