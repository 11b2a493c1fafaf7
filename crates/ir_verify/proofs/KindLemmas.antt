-- The kinds of a module's operations.
use Rattle.std.proofs.Common.{◌≡◌, ℕ, suc, ◌+◌, ◌<◌, List, [], ◌∷◌, ◌++◌, map, length, drop, get_or, ap, refl, sym, ◌∙◌, add-one}
use Rattle.std.proofs.Math.Seq.{drop-cons}
use Rattle.op_table.specs.declared.kind.OpKind.{OpKind}
use Rattle.op_table.specs.declared.rows.Level.{Level}
use Rattle.op_table.specs.Rows.{row_of}
use Rattle.ir_forms.specs.declared.ops.Op.{Op}
use Rattle.ir_forms.specs.declared.ops.Op.TheFolds.{fold-Op, fold-Region, fold_out-Op, fold_out-Region}
use Rattle.ir_forms.specs.declared.ops.Region.{Region}
use Rattle.ir_forms.specs.declared.ops.Func.{Func}
use Rattle.ir_forms.specs.Ops.{kind_of, regions_of, ops_of}
use Rattle.ir_verify.specs.Levels.{joined, op_kinds, region_kinds, kinds_at, kinds_in, kinds_along, kinds_held, kinds_of, later, latest}

held : (regions : List Region) → joined (map (fold-Region (List OpKind) (List OpKind) op_kinds region_kinds) regions) ≡ kinds_held regions
unfolding kinds_in
held [] = refl
held (region ∷ regions) = ap (λ ks. kinds_in region ++ ks) (held regions)

along : (ops : List Op) → joined (map (fold-Op (List OpKind) (List OpKind) op_kinds region_kinds) ops) ≡ kinds_along ops
unfolding kinds_at
along [] = refl
along (op ∷ ops) = ap (λ ks. kinds_at op ++ ks) (along ops)

pub kinds_at-out : (op : Op) → kinds_at op ≡ kind_of op ∷ kinds_held (regions_of op)
unfolding kinds_at
kinds_at-out op = fold_out-Op (List OpKind) (List OpKind) op_kinds region_kinds op ∙ ap (λ (ks : List OpKind). kind_of op ∷ ks) (held (regions_of op))

pub kinds_in-out : (region : Region) → kinds_in region ≡ kinds_along (ops_of region)
unfolding kinds_in
kinds_in-out region = fold_out-Region (List OpKind) (List OpKind) op_kinds region_kinds region ∙ along (ops_of region)

-- ---- the latest level, one list after another

pub latest_append : (l : Level) (xs ys : List OpKind) → latest l (xs ++ ys) ≡ latest (latest l xs) ys
latest_append l [] ys = refl
latest_append l (k ∷ xs) ys = latest_append (later l (row_of k).level) xs ys

pub held_next : (regions : List Region) (region : Region) (i : ℕ) (l after whole : Level) → i < length regions → region ≡ get_or regions i region → after ≡ latest l (kinds_in region) →
    latest l (kinds_held (drop i regions)) ≡ whole → latest after (kinds_held (drop (i + 1) regions)) ≡ whole
held_next regions region i l after whole inside at is so_far =
    let front : drop i regions ≡ region ∷ drop (suc i) regions = drop-cons regions i region inside ∙ ap (λ x. x ∷ drop (suc i) regions) (sym at) in
    let split : latest l (kinds_held (drop i regions)) ≡ latest (latest l (kinds_in region)) (kinds_held (drop (suc i) regions)) =
    ap (λ (rest : List Region). latest l (kinds_held rest)) front ∙ latest_append l (kinds_in region) (kinds_held (drop (suc i) regions)) in
    rw (is, add-one) (sym split) ∙ so_far

pub along_next : (ops : List Op) (op : Op) (i : ℕ) (l after whole : Level) → i < length ops → op ≡ get_or ops i op → after ≡ latest l (kinds_at op) →
    latest l (kinds_along (drop i ops)) ≡ whole → latest after (kinds_along (drop (i + 1) ops)) ≡ whole
along_next ops op i l after whole inside at is so_far =
    let front : drop i ops ≡ op ∷ drop (suc i) ops = drop-cons ops i op inside ∙ ap (λ x. x ∷ drop (suc i) ops) (sym at) in
    let split : latest l (kinds_along (drop i ops)) ≡ latest (latest l (kinds_at op)) (kinds_along (drop (suc i) ops)) =
    ap (λ (rest : List Op). latest l (kinds_along rest)) front ∙ latest_append l (kinds_at op) (kinds_along (drop (suc i) ops)) in
    rw (is, add-one) (sym split) ∙ so_far

pub funcs_next : (funcs : List Func) (f : Func) (i : ℕ) (l after whole : Level) → i < length funcs → f ≡ get_or funcs i f → after ≡ latest l (kinds_in f.body) →
    latest l (kinds_of (drop i funcs)) ≡ whole → latest after (kinds_of (drop (i + 1) funcs)) ≡ whole
funcs_next funcs f i l after whole inside at is so_far =
    let front : drop i funcs ≡ f ∷ drop (suc i) funcs = drop-cons funcs i f inside ∙ ap (λ x. x ∷ drop (suc i) funcs) (sym at) in
    let split : latest l (kinds_of (drop i funcs)) ≡ latest (latest l (kinds_in f.body)) (kinds_of (drop (suc i) funcs)) =
    ap (λ (rest : List Func). latest l (kinds_of rest)) front ∙ latest_append l (kinds_in f.body) (kinds_of (drop (suc i) funcs)) in
    rw (is, add-one) (sym split) ∙ so_far

pub op_begins : (op : Op) (regions : List Region) (l own now : Level) → own ≡ (row_of (kind_of op)).level → now ≡ later l own → regions ≡ regions_of op → latest now (kinds_held regions) ≡ latest l (kinds_at op)
op_begins op regions l own now own_is now_is are =
    ap (λ (rest : List Region). latest now (kinds_held rest)) are
    ∙ ap (λ (m : Level). latest m (kinds_held (regions_of op))) (now_is ∙ ap (λ (m : Level). later l m) own_is)
    ∙ sym (ap (λ (ks : List OpKind). latest l ks) (kinds_at-out op))

pub region_begins : (region : Region) (ops : List Op) (l : Level) → ops ≡ ops_of region → latest l (kinds_along ops) ≡ latest l (kinds_in region)
region_begins region ops l are = ap (λ (rest : List Op). latest l (kinds_along rest)) are ∙ sym (ap (λ (ks : List OpKind). latest l ks) (kinds_in-out region))
