-- The equations of the tree.
use Rattle.std.proofs.Common.{◌≡◌, ℕ, zero, suc, ◌+◌, ◌≤◌, List, [], ◌∷◌, map, length, drop, slice_get, Some, None, ap, refl, ◌∙◌}
use Rattle.ir_forms.specs.declared.ops.Op.{Op, out-Op}
use Rattle.ir_forms.specs.declared.ops.Op.TheFolds.{fold-Op, fold_out-Op, fold_out-Region}
use Rattle.ir_forms.specs.declared.ops.Region.{Region}
use Rattle.ir_forms.specs.Ops.{kind_of, operands_of, results_of, attr_of, regions_of, ops_of}
use Rattle.scf_blocks.specs.Tree.{Ops, gives, Nested, nested_at, Parts, op_before, op_step, region_step, chained, role_of, typed, tree_before, nested_of, tree, params_of, params_at, tree_at}
use Rattle.scf_blocks.proofs.Lists.{drop_got, drop_end}

chained_tree : (ops : List Op) → chained (map (fold-Op (Ops → Ops) Nested op_step region_step) ops) ≡ tree ops
unfolding tree_before
chained_tree [] = refl
chained_tree (op ∷ ops) = ap (λ rest. tree_before op rest) (chained_tree ops)

nested_is : (region : Region) → nested_of region ≡ record { params = params_of region; ops = tree (ops_of region) }
unfolding nested_of
nested_is region =
    fold_out-Region (Ops → Ops) Nested op_step region_step region
    ∙ ap (λ (ops : Ops). let n : Nested = record { params = params_of region; ops = ops } in n) (chained_tree (ops_of region))

pub params_nested : (rs : List Region) (k : ℕ) → (nested_at (map nested_of rs) k).params ≡ params_at rs k
params_nested [] k = refl
params_nested (r ∷ rs) zero = ap (λ n. n.params) (nested_is r)
params_nested (r ∷ rs) (suc k) = params_nested rs k

pub ops_nested : (rs : List Region) (k : ℕ) → (nested_at (map nested_of rs) k).ops ≡ tree_at rs k
ops_nested [] k = refl
ops_nested (r ∷ rs) zero = ap (λ n. n.ops) (nested_is r)
ops_nested (r ∷ rs) (suc k) = ops_nested rs k

-- what an operation carries
abbrev pub parts_in : Op → Parts
parts_in op = record { at = (out-Op op).at; operands = operands_of op; results = typed (results_of op) (out-Op op).types; attr = attr_of op }

pub before_is : (op : Op) (rest : Ops) → tree_before op rest ≡ op_before (role_of (kind_of op)) (parts_in op) (map nested_of (regions_of op)) rest
unfolding tree_before nested_of
before_is op rest = ap (λ (f : Ops → Ops). f rest) (fold_out-Op (Ops → Ops) Nested op_step region_step op)

-- ---- the region at a place

pub params_some : (rs : List Region) (k : ℕ) (r : Region) → Some r ≡ slice_get rs k → params_of r ≡ params_at rs k
params_some [] k r e = cc
params_some (x ∷ rs) zero r e = let h : r ≡ x = cc in ap params_of h
params_some (x ∷ rs) (suc k) r e = params_some rs k r e

pub params_none : (rs : List Region) (k : ℕ) → None ≡ slice_get rs k → [] ≡ params_at rs k
params_none [] k e = refl
params_none (x ∷ rs) zero e = cc
params_none (x ∷ rs) (suc k) e = params_none rs k e

pub tree_some : (rs : List Region) (k : ℕ) (r : Region) → Some r ≡ slice_get rs k → tree (ops_of r) ≡ tree_at rs k
tree_some [] k r e = cc
tree_some (x ∷ rs) zero r e = let h : r ≡ x = cc in ap (λ y. tree (ops_of y)) h
tree_some (x ∷ rs) (suc k) r e = tree_some rs k r e

pub tree_none : (rs : List Region) (k : ℕ) → None ≡ slice_get rs k → gives [] ≡ tree_at rs k
tree_none [] k e = refl
tree_none (x ∷ rs) zero e = cc
tree_none (x ∷ rs) (suc k) e = tree_none rs k e

-- ---- the operations from a place on

pub tree_next : (ops : List Op) (k : ℕ) (op : Op) → slice_get ops k ≡ Some op → tree (drop k ops) ≡ tree_before op (tree (drop (k + 1) ops))
tree_next ops k op e = ap tree (drop_got ops k op e)

pub tree_end : (ops : List Op) (k : ℕ) → length ops ≤ k → tree (drop k ops) ≡ gives []
tree_end ops k le = ap tree (drop_end ops k le)
