-- A module with its checks defines no value twice.
use Rattle.std.proofs.Common.{◌≡◌, ◌≤◌, ℕ, zero, suc, ◌+◌, max, List, [], ◌∷◌, ◌++◌, map, length, Some, slice_get, refl, sym, ap, ◌∙◌, subst, arith}
use Rattle.std.specs.List.{All}
use Rattle.ir_forms.specs.declared.ops.Op.{Op, roll-Op, out-roll-Op}
use Rattle.ir_forms.specs.declared.ops.Op.TheFolds.{ind-Region}
use Rattle.ir_forms.specs.declared.ops.Region.{Region, roll-Region, out-roll-Region}
use Rattle.ir_forms.specs.declared.ops.Func.{Func}
use Rattle.ir_forms.specs.declared.ops.Module.{Module}
use Rattle.ir_forms.specs.declared.ops.ValueNo.{ValueNo}
use Rattle.ir_forms.specs.Ops.{results_of, regions_of, ops_of}
use Rattle.ir_verify.specs.Places.{Seen, params_of}
use Rattle.ir_verify.specs.Verdict.{IsSound}
use Rattle.source_meaning.specs.Parts.{joined, names_of}
use Rattle.number_laws.specs.Laws.{numbers_from, ValuesInOrder}
use Rattle.value_numbers.specs.Numbers.{values_in, values_inside, values_of, as_numbers, defined_in, numbered_values}
use Rattle.check_insert.specs.Shape.{above, above_op, above_params, above_region, checked, checked_func, first_free, greatest}
use Rattle.checked_values.specs.Laws.{DefinesOnce, IsInOrder, CheckedInOrder}
use Rattle.sound_laws.proofs.Merges.{Below, merged_once, once_of, once_at}
use Rattle.sound_laws.proofs.Numbered.{values_at, values_under}
use Rattle.sound_laws.proofs.Whole.{sound_fine}
use Rattle.check_insert.proofs.Extended.{above_op_out, above_region_out, func_merged}

-- ---- all that a function defines is below the first free number

least_left : (a b n : ℕ) → max a b ≤ n → a ≤ n
least_left a b n h = omega (arith, h)

least_right : (a b n : ℕ) → max a b ≤ n → b ≤ n
least_right a b n h = omega (arith, h)

below_both : (n : ℕ) (xs ys : List ValueNo) → Below n xs → Below n ys → Below n (xs ++ ys)
below_both n [] ys f g = g
below_both n (x ∷ xs) ys f g = (f.0, below_both n xs ys f.1 g)

below_above : (n : ℕ) (vs : List ValueNo) → above vs ≤ n → Below n vs
below_above n [] h = tt
below_above n (v ∷ vs) h = (let le : v.0 + 1 ≤ n = least_left (v.0 + 1) (above vs) n h in omega (arith, le), below_above n vs (least_right (v.0 + 1) (above vs) n h))

below_params : (n : ℕ) (ps : Seen) → above_params ps ≤ n → Below n (names_of ps)
below_params n [] h = tt
below_params n (p ∷ ps) h = (let le : p.0.0 + 1 ≤ n = least_left (p.0.0 + 1) (above_params ps) n h in omega (arith, le), below_params n ps (least_right (p.0.0 + 1) (above_params ps) n h))

module _ (n : ℕ) where
  abbrev OfOp : Op → Type 0
  OfOp o = above_op o ≤ n → Below n (values_in o)

  abbrev OfRegion : Region → Type 0
  OfRegion r = above_region r ≤ n → Below n (values_inside r)

  held : (regions : List ((r : Region) × OfRegion r)) → greatest (map above_region (map (λ e. e.0) regions)) ≤ n → Below n (joined (map values_inside (map (λ e. e.0) regions)))
  held [] h = tt
  held (e ∷ regions) h =
      let rs : List Region = map (λ e. e.0) regions in
      below_both n (values_inside e.0) (joined (map values_inside rs)) (e.1 (least_left (above_region e.0) (greatest (map above_region rs)) n h)) (held regions (least_right (above_region e.0) (greatest (map above_region rs)) n h))

  along : (ops : List ((o : Op) × OfOp o)) → greatest (map above_op (map (λ e. e.0) ops)) ≤ n → Below n (joined (map values_in (map (λ e. e.0) ops)))
  along [] h = tt
  along (e ∷ ops) h =
      let os : List Op = map (λ e. e.0) ops in
      below_both n (values_in e.0) (joined (map values_in os)) (e.1 (least_left (above_op e.0) (greatest (map above_op os)) n h)) (along ops (least_right (above_op e.0) (greatest (map above_op os)) n h))

  of_op : (o : Op) (regions : List ((r : Region) × OfRegion r)) → regions_of o ≡ map (λ e. e.0) regions → OfOp o
  of_op o regions are = λ low.
      let lows : max (above (results_of o)) (greatest (map above_region (regions_of o))) ≤ n = subst (λ k. k ≤ n) (above_op_out o) low in
      subst (Below n) (sym (values_at o))
      (below_both n (results_of o) (joined (map values_inside (regions_of o))) (below_above n (results_of o) (least_left (above (results_of o)) (greatest (map above_region (regions_of o))) n lows))
      (subst (λ (rs : List Region). Below n (joined (map values_inside rs))) (sym are)
      (held regions (subst (λ (rs : List Region). greatest (map above_region rs) ≤ n) are (least_right (above (results_of o)) (greatest (map above_region (regions_of o))) n lows)))))

  of_region : (r : Region) (ops : List ((o : Op) × OfOp o)) → ops_of r ≡ map (λ e. e.0) ops → OfRegion r
  of_region r ops are = λ low.
      let lows : max (above_params (params_of r)) (greatest (map above_op (ops_of r))) ≤ n = subst (λ k. k ≤ n) (above_region_out r) low in
      subst (Below n) (sym (values_under r))
      (below_both n (names_of (params_of r)) (joined (map values_in (ops_of r))) (below_params n (params_of r) (least_left (above_params (params_of r)) (greatest (map above_op (ops_of r))) n lows))
      (subst (λ (os : List Op). Below n (joined (map values_in os))) (sym are)
      (along ops (subst (λ (os : List Op). greatest (map above_op os) ≤ n) are (least_right (above_params (params_of r)) (greatest (map above_op (ops_of r))) n lows)))))

  below_region : (r : Region) → OfRegion r
  below_region = ind-Region OfOp OfRegion
      (λ x y is. of_op (roll-Op x) y.regions (ap (λ layer. layer.regions) (out-roll-Op x) ∙ sym (ap (λ layer. layer.regions) is)))
      (λ x y is. of_region (roll-Region x) y.ops (ap (λ layer. layer.ops) (out-roll-Region x) ∙ sym (ap (λ layer. layer.ops) is)))

below_first : (f : Func) → Below (first_free f) (values_of f)
below_first f =
    below_both (first_free f) (names_of f.params) (values_inside f.body) (below_params (first_free f) f.params (least_left (above_params f.params) (above_region f.body) (first_free f) (omega arith)))
    (below_region (first_free f) f.body (least_right (above_params f.params) (above_region f.body) (first_free f) (omega arith)))

-- ---- functions

pub once : (program : Module) → IsSound program.funcs → (k : ℕ) (f : Func) → slice_get program.funcs k ≡ Some f → DefinesOnce f → DefinesOnce (checked_func f)
once program sound k f at distinct =
    once_at (values_of (checked_func f)) (merged_once (func_merged program.funcs (checked program).funcs f (sound_fine program.funcs sound k f at)) (below_first f) (once_of (values_of f) distinct))

as_many : (vs : List ValueNo) → length (as_numbers vs) ≡ length vs
as_many [] = refl
as_many (v ∷ vs) = ap suc (as_many vs)

so_many : (n k : ℕ) → length (numbers_from n k) ≡ k
so_many n zero = refl
so_many n (suc k) = ap suc (so_many (n + 1) k)

pub in_order : ValuesInOrder → (f : Func) → DefinesOnce f → IsInOrder (numbered_values f)
in_order law f distinct =
    let e : defined_in (numbered_values f) ≡ numbers_from 0 (length (values_of f)) = law f distinct in
    let count : length (values_of f) ≡ length (values_of (numbered_values f)) = sym (so_many 0 (length (values_of f))) ∙ sym (ap (λ (xs : List ℕ). length xs) e) ∙ as_many (values_of (numbered_values f)) in
    e ∙ ap (numbers_from 0) count

-- ---- lists of functions

pub all_mapped : (P Q : Func → Type 0) (h : Func → Func) (fs : List Func) → ((k : ℕ) (f : Func) → slice_get fs k ≡ Some f → P f → Q (h f)) → All P fs → All Q (map h fs)
all_mapped P Q h [] step all k d under = absurd (omega arith)
all_mapped P Q h (f ∷ fs) step all zero d under = step 0 f refl (all 0 f (omega arith))
all_mapped P Q h (f ∷ fs) step all (suc k) d under = all_mapped P Q h fs (λ j g at. step (suc j) g at) (λ j x low. all (suc j) x (omega (arith, low))) k d (omega arith)

pub checked_in_order : ValuesInOrder → CheckedInOrder
checked_in_order law program sound all =
    let mine : All DefinesOnce (checked program).funcs = all_mapped DefinesOnce DefinesOnce checked_func program.funcs (once program sound) all in
    (mine, all_mapped DefinesOnce IsInOrder numbered_values (checked program).funcs (λ k f at distinct. in_order law f distinct) mine)
