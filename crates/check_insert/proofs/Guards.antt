-- What guards an operation that breaks nothing is made of sound operations.
use Rattle.std.proofs.Common.{◌≡◌, ◌≤◌, ◌<◌, ℕ, zero, suc, ◌+◌, ◌-◌, ◌==◌, ◌&&◌, ◌||◌, cond, Bool, true, false, if◌then◌else◌, List, [], ◌∷◌, length, take, drop, Option, Some, None, slice_get, refl, sym, ap, ◌∙◌, subst, arith, zero-add}
use Rattle.std.specs.Prelude.{nat_le, nat_lt, unwrap_or}
use Rattle.std.proofs.lemmas.Bool.Decides.{nat_tests}
use Rattle.std.proofs.lemmas.List.Sums.{sum_by-cons}
use Rattle.int_ops.specs.declared.Pred.TheVariants.{Ult}
use Rattle.op_table.specs.declared.kind.OpKind.{OpKind}
use Rattle.op_table.specs.declared.kind.OpKind.TheVariants as op
use Rattle.op_table.specs.declared.form.Form.{Form}
use Rattle.op_table.specs.declared.form.Form.TheVariants.{Binary, Load, Store, Alloc, CreateGroup, For, Parallel}
use Rattle.op_table.specs.declared.form.Form.TheVariants as shape
use Rattle.op_table.specs.declared.rows.Count.TheVariants.{Exactly}
use Rattle.op_table.specs.declared.rows.Level.TheVariants.{Checked}
use Rattle.op_table.specs.Rows.{row_of}
use Rattle.ir_forms.specs.declared.ops.Func.{Func}
use Rattle.ir_forms.specs.declared.ops.Op.{Op, out-Op}
use Rattle.ir_forms.specs.declared.ops.ValueNo.{ValueNo}
use Rattle.ir_forms.specs.declared.types.Dim.{Dim}
use Rattle.ir_forms.specs.declared.types.Dim.TheVariants.{Fixed, Dynamic}
use Rattle.ir_forms.specs.declared.types.NumTy.{NumTy}
use Rattle.ir_forms.specs.declared.types.NumTy.TheVariants as num
use Rattle.ir_forms.specs.declared.types.Ty.{Ty}
use Rattle.ir_forms.specs.declared.types.Ty.TheVariants as ty
use Rattle.ir_forms.specs.Ops.{kind_of, operands_of, written_of}
use Rattle.ir_verify.specs.Forms.{form}
use Rattle.ir_verify.specs.Places.{Around, Place, Spot, Seen, place_of, types_of}
use Rattle.ir_verify.specs.Rules.{first_type, groups_of, group, dimensions, bound_place, are_groups, groups_fit, load_operand, operand_fits, written_fits, written_asked, result_fits, types_asked, types_given, counted}
use Rattle.ir_verify.specs.Scopes.{lookup}
use Rattle.ir_verify.specs.Types.{same_type, is_number, is_index, is_open, open_dims, dims_of}
use Rattle.made_ops.specs.Made.{type_of, width_of}
use Rattle.made_ops.specs.declared.insertion.Insertion.{Insertion}
use Rattle.made_ops.specs.declared.insertion.Operand.TheVariants.{Number}
use Rattle.check_insert.specs.declared.guard.Guard.TheVariants as guard
use Rattle.check_insert.specs.Shape.{asked_sizes, check, check_access, check_divisor, given, guard_of, guarded, message, most_elements, number_type, operand_at, rank, ranges, ranges_of, sizes}
use Rattle.sound_laws.specs.Extended.{IsFine}
use Rattle.sound_laws.specs.Made.{below, Fits, IsGood, Grows}
use Rattle.sound_laws.proofs.Making.{behind_visible, grows_self}
use Rattle.sound_laws.proofs.Facts.{Reads, reads, writes, writes_cells, gives_type, counts, index_type, same_as_number}
use Rattle.sound_laws.proofs.Sight.{Sees, equal}
use Rattle.check_insert.proofs.Rows.{All_of, FitsRange, check_good, check_divisor_good, check_quotient_good, check_indexes_good, check_most_good, check_sizes_good, check_bounds_good, check_ranges_good}

-- ---- lists

taken_at : (a : ℕ) (vs : List ValueNo) (j : ℕ) (v : ValueNo) → slice_get (take a vs) j ≡ Some v → (j < a) × (slice_get vs j ≡ Some v)
taken_at zero vs j v at = cc
taken_at (suc a) [] j v at = cc
taken_at (suc a) (x ∷ vs) zero v at = (omega arith, at)
taken_at (suc a) (x ∷ vs) (suc j) v at = let again : (j < a) × (slice_get vs j ≡ Some v) = taken_at a vs j v at in (omega (arith, again.0), again.1)

dropped_at : (a : ℕ) (vs : List ValueNo) (j : ℕ) → slice_get (drop a vs) j ≡ slice_get vs (a + j)
dropped_at zero vs j = ap (λ n. slice_get vs n) (sym (zero-add j))
dropped_at (suc a) [] j = refl
dropped_at (suc a) (x ∷ vs) j = let place : suc a + j ≡ suc (a + j) = omega arith in dropped_at a vs j ∙ ap (λ n. slice_get (x ∷ vs) n) (sym place)

or_index : (a b : Bool) → (a || b) ≡ true → a ≡ false → b ≡ true
or_index true b h e = cc
or_index false b h e = h

not_at_most : (n i : ℕ) → i < n → nat_le n i ≡ false
not_at_most n i h = grind (arith, nat_tests)

below_is : (i n : ℕ) → i < n → nat_lt i n ≡ true
below_is i n h = grind (arith, nat_tests)

not_below : (i n : ℕ) → n ≤ i → nat_lt i n ≡ false
not_below i n h = grind (arith, nat_tests)

first_at : (xs : List Ty) (t : Ty) → slice_get xs 0 ≡ Some t → first_type xs ≡ t
first_at [] t e = cc
first_at (x ∷ xs) t e = let same : x ≡ t = cc in same

-- the number type of a list that begins with a type of numbers
typed : (r : Ty) (ts : List Ty) → is_number r ≡ true → r ≡ type_of (number_type (r ∷ ts))
typed (ty.Int w) ts h = refl
typed ty.Index ts h = refl
typed r ts h = cc

and_one : (a b : Bool) → (a && b) ≡ true → a ≡ true
and_one true b e = refl
and_one false b e = cc

-- an operand of an operation on numbers has the type of its result
of_result : (ws ts : List Ty) → length ws ≡ 2 → length ts ≡ 1 → ((t : Ty) → slice_get ws 0 ≡ Some t → (is_number t && same_type (first_type ws) t) ≡ true) →
    ((t : Ty) → slice_get ts 0 ≡ Some t → same_type (first_type ws) t ≡ true) → (u : Ty) → same_type (first_type ws) u ≡ true → u ≡ type_of (number_type ts)
of_result [] ts w t hw ht u hu = absurd (omega arith)
of_result (x ∷ ws) [] w t hw ht u hu = absurd (omega arith)
of_result (x ∷ ws) (r ∷ ts) w t hw ht u hu =
    let n : is_number x ≡ true = and_one (is_number x) _ (hw x refl) in
    let rx : r ≡ x = same_as_number x r n (ht r refl) in
    let ux : u ≡ x = same_as_number x u n hu in
    ux ∙ sym rx ∙ typed r ts (subst (λ y. is_number y ≡ true) (sym rx) n)

module _ (more : List Func) (first : ℕ) (funcs : List Func) (a : Around) (last : Bool) (o : Op) (seen now : Seen)
    (fine : IsFine (record { seen = seen; place = place_of funcs a last o })) (sees : Sees (below first) seen now) where
  abbrev s : Spot
  s = record { seen = seen; place = place_of funcs a last o }

  abbrev p : Place
  p = place_of funcs a last o

  abbrev G : Insertion → Type 0
  G i = IsGood more Checked first now i

  abbrev To : Insertion → Insertion → Type 0
  To i j = Grows more Checked first now i j

  abbrev IsIndex : ValueNo → Type 0
  IsIndex v = lookup now v.0 ≡ Some ty.Index

  -- an operand, with its type
  record Read (i : ℕ) (v : ValueNo) : Type 0 where
    type : Ty
    visible : lookup now v.0 ≡ Some type
    fits : operand_fits (form o) p i type ≡ true

  read : (i : ℕ) (v : ValueNo) → slice_get (operands_of o) i ≡ Some v → Read i v
  read i v at =
      let r : Reads s fine i v = reads s fine i v at in
      record { type = r.type; visible = sees.same v.0 (sees.own v.0 r.type r.visible) ∙ r.visible; fits = r.fits }

  -- an operand that has a type where it is there
  operand_fit : (k : ℕ) (t : NumTy) → ((u : Ty) → operand_fits (form o) p k u ≡ true → u ≡ type_of t) → Fits now t (operand_at (operands_of o) k)
  operand_fit k t typed = step (slice_get (operands_of o) k) refl
    where
      step : (x : Option ValueNo) → slice_get (operands_of o) k ≡ x → Fits now t (given x)
      step None at = tt
      step (Some v) at = let r : Read k v = read k v at in r.visible ∙ ap (λ (u : Ty). Some u) (typed r.type r.fits)

  index_at : (k : ℕ) (v : ValueNo) → slice_get (operands_of o) k ≡ Some v → ((u : Ty) → operand_fits (form o) p k u ≡ true → is_index u ≡ true) → IsIndex v
  index_at k v at is = let r : Read k v = read k v at in r.visible ∙ ap (λ (u : Ty). Some u) (index_type r.type (is r.type r.fits))

  in_form : (f : Form) → form o ≡ f → (k : ℕ) (u : Ty) → operand_fits (form o) p k u ≡ true → operand_fits f p k u ≡ true
  in_form f e k u h = subst (λ g. operand_fits g p k u ≡ true) e h

  -- ---- numbers

  binary_fit : form o ≡ Binary → types_asked p ≡ 1 → (k : ℕ) → Fits now (number_type (types_of o)) (operand_at (operands_of o) k)
  binary_fit e asked k = operand_fit k (number_type (types_of o)) (λ u h.
      of_result (written_of o) (types_of o) ((counts s fine).written ∙ ap (λ f. written_asked f p) e) ((counts s fine).types ∙ asked)
      (λ t at. subst (λ f. written_fits f p 0 t ≡ true) e (writes s fine 0 t at))
      (λ t at. subst (λ f. result_fits f p 0 t ≡ true) e (gives_type s fine 0 t at))
      u (in_form Binary e k u h))

  -- ---- accesses

  -- the values of an access, the buffer first
  abbrev AreAccess : List ValueNo → Type 0
  AreAccess vs = (j : ℕ) (v : ValueNo) → slice_get vs j ≡ Some v → (u : Ty) × (lookup now v.0 ≡ Some u) × (load_operand o j u ≡ true)

  access_good : (text : List ℕ) (ws : List Ty) (vs : List ValueNo) (i : Insertion) → G i → written_of o ≡ ws → AreAccess vs → To i (check_access text ws vs i)
  access_good text [] vs i good e h = grows_self more Checked first now i good
  access_good text (ty.Memref m ∷ ts) [] i good e h = grows_self more Checked first now i good
  access_good text (ty.Memref m ∷ ts) (buffer ∷ vs) i good e h =
      let b : (u : Ty) × (lookup now buffer.0 ≡ Some u) × (load_operand o 0 u ≡ true) = h 0 buffer refl in
      check_indexes_good more first now text m buffer 0 m.dims vs i good
      (record {
        type = b.0;
        visible = behind_visible now i.ops buffer.0 b.0 b.1;
        same = subst (λ (ws : List Ty). same_type (first_type ws) b.0 ≡ true) e b.2;
        cells = writes_cells s fine 0 (ty.Memref m) (ap (λ (ws : List Ty). slice_get ws 0) e);
      })
      (λ j v at under.
      let x : (u : Ty) × (lookup now v.0 ≡ Some u) × (load_operand o (suc j) u ≡ true) = h (suc j) v at in
      let open_so : (nat_le (length m.dims) j || is_index x.0) ≡ true = subst (λ (ws : List Ty). (nat_le (length (dims_of (first_type ws))) j || is_index x.0) ≡ true) e x.2 in
      x.1 ∙ ap (λ (u : Ty). Some u) (index_type x.0 (or_index (nat_le (length m.dims) j) (is_index x.0) open_so (not_at_most (length m.dims) j under))))
  access_good text (t ∷ ts) vs i good e h = grows_self more Checked first now i good

  loads : form o ≡ Load → AreAccess (operands_of o)
  loads e j v at = let r : Read j v = read j v at in (r.type, r.visible, in_form Load e j r.type r.fits)

  stores : form o ≡ Store → AreAccess (drop 1 (operands_of o))
  stores e j v at =
      let place : 1 + j ≡ suc j = omega arith in
      let there : slice_get (operands_of o) (suc j) ≡ Some v = ap (λ n. slice_get (operands_of o) n) (sym place) ∙ sym (dropped_at 1 (operands_of o) j) ∙ at in
      let r : Read (suc j) v = read (suc j) v there in
      (r.type, r.visible, in_form Store e (suc j) r.type r.fits)

  -- ---- allocations

  open_more : (d : Dim) (dims : List Dim) → open_dims (d ∷ dims) ≡ cond (is_open d) 1 0 + open_dims dims
  open_more d dims = sum_by-cons (λ x. cond (is_open x) 1 0) d dims

  sizes_fit : (dims : List Dim) (vs : List ValueNo) → ((j : ℕ) (v : ValueNo) → slice_get vs j ≡ Some v → j < open_dims dims → IsIndex v) → All_of (Fits now num.Index) (sizes dims vs)
  sizes_fit [] vs h = tt
  sizes_fit (Fixed n ∷ dims) vs h = (tt, sizes_fit dims vs (λ j v at under. h j v at (let e : open_dims (Fixed n ∷ dims) ≡ 0 + open_dims dims = open_more (Fixed n) dims in omega (arith, e, under))))
  sizes_fit (Dynamic ∷ dims) [] h = (tt, sizes_fit dims [] (λ j v at under. cc))
  sizes_fit (Dynamic ∷ dims) (v ∷ vs) h =
      let e : open_dims (Dynamic ∷ dims) ≡ 1 + open_dims dims = open_more Dynamic dims in
      (h 0 v refl (omega (arith, e)), sizes_fit dims vs (λ j w at under. h (suc j) w at (omega (arith, e, under))))

  asked_fit : (ts : List Ty) → ((j : ℕ) (v : ValueNo) → slice_get (operands_of o) j ≡ Some v → j < open_dims (dims_of (first_type ts)) → IsIndex v) → All_of (Fits now num.Index) (asked_sizes ts (operands_of o))
  asked_fit [] h = tt
  asked_fit (ty.Memref m ∷ ts) h = sizes_fit m.dims (operands_of o) h
  asked_fit (t ∷ ts) h = tt

  allocates : form o ≡ Alloc → (j : ℕ) (v : ValueNo) → slice_get (operands_of o) j ≡ Some v → j < open_dims (dims_of (first_type (types_of o))) → IsIndex v
  allocates e j v at under = index_at j v at (λ u h.
      or_index (nat_le (open_dims (dims_of (first_type (types_of o)))) j) (is_index u) (in_form Alloc e j u h) (not_at_most (open_dims (dims_of (first_type (types_of o)))) j under))

  -- ---- parallel loops

  abbrev AreIndexes : List ValueNo → Type 0
  AreIndexes vs = (j : ℕ) (v : ValueNo) → slice_get vs j ≡ Some v → IsIndex v

  ranges_fit : (ls us ss : List ValueNo) → AreIndexes ls → AreIndexes us → AreIndexes ss → All_of (FitsRange now) (ranges ls us ss)
  ranges_fit [] us ss hl hu hs = tt
  ranges_fit (l ∷ ls) [] ss hl hu hs = tt
  ranges_fit (l ∷ ls) (u ∷ us) [] hl hu hs = tt
  ranges_fit (l ∷ ls) (u ∷ us) (x ∷ ss) hl hu hs =
      (record { lower = hl 0 l refl; upper = hu 0 u refl; step = hs 0 x refl }, ranges_fit ls us ss (λ j v at. hl (suc j) v at) (λ j v at. hu (suc j) v at) (λ j v at. hs (suc j) v at))

  bound_index : form o ≡ Parallel → (i b : ℕ) (v : ValueNo) → slice_get (operands_of o) i ≡ Some v → bound_place o i ≡ b → b < dimensions o → IsIndex v
  bound_index e i b v at is under = index_at i v at (λ u h.
      or_index (nat_le (dimensions o) (bound_place o i)) (is_index u) (in_form Parallel e i u h) (ap (λ n. nat_le (dimensions o) n) is ∙ not_at_most (dimensions o) b under))

  bound_first : (i : ℕ) → i < group o 0 → bound_place o i ≡ i
  bound_first i h = ap (λ b. if b then i else (if nat_lt i (group o 0 + group o 1) then i - group o 0 else i - (group o 0 + group o 1))) (below_is i (group o 0) h)

  bound_second : (i : ℕ) → group o 0 ≤ i → i < group o 0 + group o 1 → bound_place o i ≡ i - group o 0
  bound_second i above under =
      ap (λ b. if b then i else (if nat_lt i (group o 0 + group o 1) then i - group o 0 else i - (group o 0 + group o 1))) (not_below i (group o 0) above)
      ∙ ap (λ b. if b then i - group o 0 else i - (group o 0 + group o 1)) (below_is i (group o 0 + group o 1) under)

  bound_third : (i : ℕ) → group o 0 + group o 1 ≤ i → bound_place o i ≡ i - (group o 0 + group o 1)
  bound_third i above =
      ap (λ b. if b then i else (if nat_lt i (group o 0 + group o 1) then i - group o 0 else i - (group o 0 + group o 1))) (not_below i (group o 0) (omega (arith, above)))
      ∙ ap (λ b. if b then i - group o 0 else i - (group o 0 + group o 1)) (not_below i (group o 0 + group o 1) above)

  ranges_of_fit : form o ≡ Parallel → (gs : List ℕ) → groups_of o ≡ gs → are_groups gs (dimensions o) ≡ true → All_of (FitsRange now) (ranges_of gs (operands_of o))
  ranges_of_fit e [] is h = tt
  ranges_of_fit e (x ∷ []) is h = tt
  ranges_of_fit e (x ∷ y ∷ []) is h = tt
  ranges_of_fit e (x ∷ y ∷ z ∷ w ∷ gs) is h = cc
  ranges_of_fit e (x ∷ y ∷ z ∷ []) is h =
      let vs : List ValueNo = operands_of o in
      let n : ℕ = dimensions o in
      let ex : x ≡ n = equal x n (and_one (x == n) _ h) in
      let ey : y ≡ n = equal y n (second (x == n) (y == n) (z == n) h) in
      let ez : z ≡ n = equal z n (third (x == n) (y == n) (z == n) h) in
      let g0 : group o 0 ≡ n = ap (λ (l : List ℕ). unwrap_or (slice_get l 0) 0) is ∙ ex in
      let g1 : group o 1 ≡ n = ap (λ (l : List ℕ). unwrap_or (slice_get l 1) 0) is ∙ ey in
      ranges_fit (take x vs) (take y (drop x vs)) (take z (drop y (drop x vs)))
      (λ j v at.
      let t : (j < x) × (slice_get vs j ≡ Some v) = taken_at x vs j v at in
      bound_index e j j v t.1 (bound_first j (omega (arith, t.0, ex, g0))) (omega (arith, t.0, ex)))
      (λ j v at.
      let t : (j < y) × (slice_get (drop x vs) j ≡ Some v) = taken_at y (drop x vs) j v at in
      bound_index e (x + j) j v (sym (dropped_at x vs j) ∙ t.1) (bound_second (x + j) (omega (arith, ex, g0)) (omega (arith, t.0, ex, ey, g0, g1)) ∙ (let away : x + j - group o 0 ≡ j = omega (arith, ex, g0) in away)) (omega (arith, t.0, ey)))
      (λ j v at.
      let t : (j < z) × (slice_get (drop y (drop x vs)) j ≡ Some v) = taken_at z (drop y (drop x vs)) j v at in
      bound_index e (x + (y + j)) j v (sym (dropped_at x vs (y + j)) ∙ sym (dropped_at y (drop x vs) j) ∙ t.1) (bound_third (x + (y + j)) (omega (arith, ex, ey, g0, g1)) ∙ (let away : x + (y + j) - (group o 0 + group o 1) ≡ j = omega (arith, ex, ey, g0, g1) in away)) (omega (arith, t.0, ez)))
    where
      second : (a b c : Bool) → (a && (b && c)) ≡ true → b ≡ true
      second true true c h = refl
      second true false c h = cc
      second false b c h = cc

      third : (a b c : Bool) → (a && (b && c)) ≡ true → c ≡ true
      third true true c h = h
      third true false c h = cc
      third false b c h = cc

  -- ---- the table

  form_from : (k : OpKind) → kind_of o ≡ k → form o ≡ (row_of k).form
  form_from k e = ap (λ x. (row_of x).form) e

  one_result : (k : OpKind) → kind_of o ≡ k → (row_of k).results ≡ Exactly 1 → types_asked p ≡ 1
  one_result k e r = ap (λ x. counted (row_of x).results (types_given (row_of x).form p)) e ∙ ap (λ c. counted c (types_given (row_of k).form p)) r

  divides : (k : OpKind) (text : List ℕ) (i : Insertion) → G i → kind_of o ≡ k → (row_of k).form ≡ Binary → (row_of k).results ≡ Exactly 1 → To i (check_divisor text (number_type (types_of o)) (operand_at (operands_of o) 1) i)
  divides k text i good e f r = check_divisor_good more first now text (number_type (types_of o)) (operand_at (operands_of o) 1) i good (binary_fit (form_from k e ∙ f) (one_result k e r) 1)

  shifts : (k : OpKind) (text : List ℕ) (i : Insertion) → G i → kind_of o ≡ k → (row_of k).form ≡ Binary → (row_of k).results ≡ Exactly 1 →
      To i (check text Ult (number_type (types_of o)) (operand_at (operands_of o) 1) (Number (width_of (number_type (types_of o)))) i)
  shifts k text i good e f r =
      check_good more first now text Ult (number_type (types_of o)) (operand_at (operands_of o) 1) (Number (width_of (number_type (types_of o)))) i good (binary_fit (form_from k e ∙ f) (one_result k e r) 1) tt

  index_fit : (f : Form) → form o ≡ f → (k : ℕ) → ((u : Ty) → operand_fits f p k u ≡ true → is_index u ≡ true) → Fits now num.Index (operand_at (operands_of o) k)
  index_fit f e k is = operand_fit k num.Index (λ u h. index_type u (is u (in_form f e k u h)))

  pub guarded_good : (k : OpKind) → kind_of o ≡ k → (i : Insertion) → G i → To i (guarded (guard_of k) (out-Op o) i)
  guarded_good op.ArithDivsi e i good =
      check_quotient_good more first now (message guard.Quotient) (number_type (types_of o)) (operand_at (operands_of o) 0) (operand_at (operands_of o) 1) i good
      (binary_fit (form_from op.ArithDivsi e) (one_result op.ArithDivsi e refl) 0) (binary_fit (form_from op.ArithDivsi e) (one_result op.ArithDivsi e refl) 1)
  guarded_good op.ArithDivui e i good = divides op.ArithDivui (message guard.Divisor) i good e refl refl
  guarded_good op.ArithRemsi e i good = divides op.ArithRemsi (message guard.Divisor) i good e refl refl
  guarded_good op.ArithRemui e i good = divides op.ArithRemui (message guard.Divisor) i good e refl refl
  guarded_good op.ArithShli e i good = shifts op.ArithShli (message guard.Shift) i good e refl refl
  guarded_good op.ArithShrsi e i good = shifts op.ArithShrsi (message guard.Shift) i good e refl refl
  guarded_good op.ArithShrui e i good = shifts op.ArithShrui (message guard.Shift) i good e refl refl
  guarded_good op.AsyncCreateGroup e i good =
      check_most_good more first now (message guard.Group) most_elements (operand_at (operands_of o) 0) i good (index_fit CreateGroup (form_from op.AsyncCreateGroup e) 0 (λ u h. h))
  guarded_good op.MemrefAlloc e i good =
      check_sizes_good more first now (message guard.Alloc) (asked_sizes (types_of o) (operands_of o)) i good (asked_fit (types_of o) (allocates (form_from op.MemrefAlloc e)))
  guarded_good op.MemrefDim e i good =
      check_good more first now (message guard.Dimension) Ult num.Index (operand_at (operands_of o) 1) (Number (rank (written_of o))) i good (index_fit shape.Dim (form_from op.MemrefDim e) 1 (λ u h. h)) tt
  guarded_good op.MemrefLoad e i good = access_good (message guard.Load) (written_of o) (operands_of o) i good refl (loads (form_from op.MemrefLoad e))
  guarded_good op.MemrefStore e i good = access_good (message guard.Store) (written_of o) (drop 1 (operands_of o)) i good refl (stores (form_from op.MemrefStore e))
  guarded_good op.ScfFor e i good =
      check_bounds_good more first now (message guard.Bounds) (operand_at (operands_of o) 0) (operand_at (operands_of o) 1) (operand_at (operands_of o) 2) i good
      (index_fit For (form_from op.ScfFor e) 0 (λ u h. h)) (index_fit For (form_from op.ScfFor e) 1 (λ u h. h)) (index_fit For (form_from op.ScfFor e) 2 (λ u h. h))
  guarded_good op.ScfParallel e i good =
      let f : form o ≡ Parallel = form_from op.ScfParallel e in
      check_ranges_good more first now (message guard.Parallel) (ranges_of (groups_of o) (operands_of o)) i good (ranges_of_fit f (groups_of o) refl (subst (λ g. groups_fit g o ≡ true) f (counts s fine).groups))
  guarded_good k e i good = grows_self more Checked first now i good
