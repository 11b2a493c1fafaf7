-- What a region uses from outside.
use Rattle.std.specs.Prelude.{ℕ, List, [], ◌∷◌, ◌++◌, map}
use Rattle.std.specs.BTreeMap.{is_at}
use Rattle.std.specs.BTreeSet.{insert_key}
use Rattle.std.specs.Ordering.{nat_cmp}
use Rattle.std.specs.Set.{remove_key}
use Rattle.ir_forms.specs.declared.ops.Op.{Op, Op-F}
use Rattle.ir_forms.specs.declared.ops.Op.TheFolds.{fold-Op, fold-Region}
use Rattle.ir_forms.specs.declared.ops.Region.{Region, Region-F}
use Rattle.ir_forms.specs.declared.ops.ValueNo.{ValueNo}
use Rattle.ir_forms.specs.Numbers.{joined}
use Rattle.made_funcs.specs.Values.{values_inside}

abbrev pub numbers : List ValueNo → List ℕ
numbers vs = map (λ v. v.0) vs

abbrev pub op_uses : Op-F (List ℕ) (List ℕ) → List ℕ
op_uses o = numbers o.operands ++ joined o.regions

abbrev pub region_uses : Region-F (List ℕ) (List ℕ) → List ℕ
region_uses r = joined r.ops

-- the numbers of what an operation and those in its regions use
abbrev pub uses_in : Op → List ℕ
uses_in = fold-Op (List ℕ) (List ℕ) op_uses region_uses

abbrev pub uses_inside : Region → List ℕ
uses_inside = fold-Region (List ℕ) (List ℕ) op_uses region_uses

-- numbers in their order, each once, and those that come to them
abbrev pub with_all : List ℕ → List ℕ → List ℕ
with_all ks [] = ks
with_all ks (n ∷ ns) = with_all (insert_key nat_cmp ks n) ns

-- without these
abbrev pub without_all : List ℕ → List ℕ → List ℕ
without_all ks [] = ks
without_all ks (n ∷ ns) = without_all (remove_key (is_at (nat_cmp n)) ks) ns

-- what the operations of a region use, without what is defined in it
abbrev pub captures : Region → List ℕ
captures r = without_all (with_all [] (uses_inside r)) (map (λ p. p.0.0) (values_inside r))
