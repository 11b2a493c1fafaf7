-- Each row of checks is made of sound operations.
use Rattle.std.proofs.Common.{◌≡◌, ◌<◌, ℕ, suc, ◌+◌, List, [], ◌∷◌, ◌++◌, length, Some, slice_get, refl, arith}
use Rattle.int_ops.specs.declared.Pred.{Pred}
use Rattle.int_ops.specs.declared.Pred.TheVariants.{Ne, Sge, Sle, Ule, Ult}
use Rattle.int_ops.specs.declared.Width.TheVariants.{W1}
use Rattle.op_table.specs.declared.kind.OpKind.TheVariants as op
use Rattle.op_table.specs.declared.form.Form.TheVariants.{Binary}
use Rattle.op_table.specs.declared.rows.Level.TheVariants.{Checked}
use Rattle.ir_forms.specs.declared.ops.Func.{Func}
use Rattle.ir_forms.specs.declared.ops.ValueNo.{ValueNo}
use Rattle.ir_forms.specs.declared.types.MemTy.{MemTy}
use Rattle.ir_forms.specs.declared.types.Dim.{Dim}
use Rattle.ir_forms.specs.declared.types.NumTy.{NumTy}
use Rattle.ir_forms.specs.declared.types.NumTy.TheVariants as num
use Rattle.ir_forms.specs.declared.types.Ty.TheVariants as ty
use Rattle.ir_verify.specs.Places.{Seen}
use Rattle.ir_verify.specs.Scopes.{lookup}
use Rattle.made_ops.specs.Made.{asserts, binary, compare, dimension, least, minus_one, truth, turns, type_of}
use Rattle.made_ops.specs.declared.insertion.Insertion.{Insertion}
use Rattle.made_ops.specs.declared.insertion.Operand.{Operand}
use Rattle.made_ops.specs.declared.insertion.Operand.TheVariants.{Value, Number}
use Rattle.check_insert.specs.declared.parts.Range.{Range}
use Rattle.check_insert.specs.Shape.{check, check_between, check_bounds, check_divisor, check_given, check_index, check_indexes, check_most, check_products, check_products_from, check_quotient, check_range, check_ranges, check_sizes, check_turns, each, greatest_bound, least_bound, most_cells, most_elements}
use Rattle.sound_laws.specs.Made.{behind, Fits, IsGood, Grows, Gives}
use Rattle.sound_laws.proofs.Making.{HasRow, behind_visible, grows_self, grows_on}
use Rattle.sound_laws.proofs.Growing.{HasBuffer, fits_later, compare_good, binary_good, dimension_good, asserts_good, turns_good}

or_row : HasRow op.ArithOri Binary 2 1
or_row = record { form = refl; operands = refl; results = refl; regions = refl; level = refl }

and_row : HasRow op.ArithAndi Binary 2 1
and_row = record { form = refl; operands = refl; results = refl; regions = refl; level = refl }

product_row : HasRow op.ArithMuli Binary 2 1
product_row = record { form = refl; operands = refl; results = refl; regions = refl; level = refl }

-- all of these have it
abbrev pub All_of : {A : Type 0} → (A → Type 0) → List A → Type 0
All_of P [] = Unit {0}
All_of P (x ∷ xs) = P x × All_of P xs

-- a dimension of a loop whose bounds and step are visible
pub record FitsRange (seen : Seen) (r : Range) : Type 0 where
  pub lower : lookup seen r.lower.0 ≡ Some ty.Index
  pub upper : lookup seen r.upper.0 ≡ Some ty.Index
  pub step : lookup seen r.step.0 ≡ Some ty.Index

module _ (more : List Func) (first : ℕ) (seen : Seen) (text : List ℕ) where
  abbrev G : Insertion → Type 0
  G i = IsGood more Checked first seen i

  abbrev To : Insertion → Insertion → Type 0
  To i j = Grows more Checked first seen i j

  abbrev now : Insertion → Seen
  now i = behind seen i.ops

  fit_now : (i : Insertion) (t : NumTy) (a : Operand) → Fits seen t a → Fits (now i) t a
  fit_now i t (Value v) h = behind_visible seen i.ops v.0 (type_of t) h
  fit_now i t (Number n) h = tt

  check_now : (p : Pred) (t : NumTy) (a b : Operand) (i : Insertion) → G i → Fits (now i) t a → Fits (now i) t b → To i (check text p t a b i)
  check_now p t a b i good fa fb =
      let c : ValueNo × Insertion = compare p t a b i in
      let g : Gives more Checked first seen (ty.Int W1) i c = compare_good more Checked first seen p t a b i good fa fb in
      grows_on more Checked first seen i c.1 (asserts text c.0 c.1) g.grows (asserts_good more Checked first seen text c.0 c.1 g.grows.good g.has)

  pub check_good : (p : Pred) (t : NumTy) (a b : Operand) (i : Insertion) → G i → Fits seen t a → Fits seen t b → To i (check text p t a b i)
  check_good p t a b i good fa fb = check_now p t a b i good (fit_now i t a fa) (fit_now i t b fb)

  pub check_divisor_good : (t : NumTy) (b : Operand) (i : Insertion) → G i → Fits seen t b → To i (check_divisor text t b i)
  check_divisor_good t b i good fb = check_good Ne t b (Number 0) i good fb tt

  pub check_quotient_good : (t : NumTy) (a b : Operand) (i : Insertion) → G i → Fits seen t a → Fits seen t b → To i (check_quotient text t a b i)
  unfolding check_quotient
  check_quotient_good t a b i good fa fb =
      let c : ValueNo × Insertion = compare Ne t b (Number 0) i in
      let gc : Gives more Checked first seen (ty.Int W1) i c = compare_good more Checked first seen Ne t b (Number 0) i good (fit_now i t b fb) tt in
      let d : ValueNo × Insertion = compare Ne t a (Number (least t)) c.1 in
      let gd : Gives more Checked first seen (ty.Int W1) c.1 d = compare_good more Checked first seen Ne t a (Number (least t)) c.1 gc.grows.good (fit_now c.1 t a fa) tt in
      let e : ValueNo × Insertion = compare Ne t b (Number (minus_one t)) d.1 in
      let ge : Gives more Checked first seen (ty.Int W1) d.1 e = compare_good more Checked first seen Ne t b (Number (minus_one t)) d.1 gd.grows.good (fit_now d.1 t b fb) tt in
      let f : ValueNo × Insertion = binary op.ArithOri truth (Value d.0) (Value e.0) e.1 in
      let gf : Gives more Checked first seen (ty.Int W1) e.1 f = binary_good more Checked first seen op.ArithOri truth (Value d.0) (Value e.0) e.1 or_row ge.grows.good (ge.grows.keeps d.0.0 (ty.Int W1) gd.has) ge.has in
      let ce : To c.1 e.1 = grows_on more Checked first seen c.1 d.1 e.1 gd.grows ge.grows in
      let cf : To c.1 f.1 = grows_on more Checked first seen c.1 e.1 f.1 ce gf.grows in
      let g : ValueNo × Insertion = binary op.ArithAndi truth (Value c.0) (Value f.0) f.1 in
      let gg : Gives more Checked first seen (ty.Int W1) f.1 g = binary_good more Checked first seen op.ArithAndi truth (Value c.0) (Value f.0) f.1 and_row gf.grows.good (cf.keeps c.0.0 (ty.Int W1) gc.has) gf.has in
      grows_on more Checked first seen i g.1 (asserts text g.0 g.1)
      (grows_on more Checked first seen i c.1 g.1 gc.grows (grows_on more Checked first seen c.1 f.1 g.1 cf gg.grows))
      (asserts_good more Checked first seen text g.0 g.1 gg.grows.good gg.has)

  -- ---- accesses

  buffer_later : (i j : Insertion) (m : MemTy) (v : ValueNo) → To i j → HasBuffer more Checked first seen (now i) m v → HasBuffer more Checked first seen (now j) m v
  buffer_later i j m v g h = record { type = h.type; visible = g.keeps v.0 h.type h.visible; same = h.same; cells = h.cells }

  check_index_good : (m : MemTy) (buffer : ValueNo) (k : ℕ) (v : ValueNo) (i : Insertion) → G i → HasBuffer more Checked first seen (now i) m buffer → Fits seen num.Index (Value v) → To i (check_index text m buffer k v i)
  unfolding check_index
  check_index_good m buffer k v i good hb hv =
      let d : ValueNo × Insertion = dimension m buffer k i in
      let g : Gives more Checked first seen ty.Index i d = dimension_good more Checked first seen m buffer k i good hb in
      grows_on more Checked first seen i d.1 (check text Ult num.Index (Value v) (Value d.0) d.1) g.grows (check_now Ult num.Index (Value v) (Value d.0) d.1 g.grows.good (fit_now d.1 num.Index (Value v) hv) g.has)

  pub check_indexes_good : (m : MemTy) (buffer : ValueNo) (k : ℕ) (dims : List Dim) (vs : List ValueNo) (i : Insertion) → G i → HasBuffer more Checked first seen (now i) m buffer →
      ((j : ℕ) (v : ValueNo) → slice_get vs j ≡ Some v → j < length dims → Fits seen num.Index (Value v)) → To i (check_indexes text m buffer k dims vs i)
  check_indexes_good m buffer k [] vs i good hb h = grows_self more Checked first seen i good
  check_indexes_good m buffer k (d ∷ dims) [] i good hb h = grows_self more Checked first seen i good
  check_indexes_good m buffer k (d ∷ dims) (v ∷ vs) i good hb h =
      let j : Insertion = check_index text m buffer k v i in
      let g : To i j = check_index_good m buffer k v i good hb (h 0 v refl (omega arith)) in
      grows_on more Checked first seen i j (check_indexes text m buffer (k + 1) dims vs j) g
      (check_indexes_good m buffer (k + 1) dims vs j g.good (buffer_later i j m buffer g hb) (λ n w at under. h (suc n) w at (omega arith)))

  -- ---- limits

  check_most_now : (limit : ℕ) (n : Operand) (i : Insertion) → G i → Fits (now i) num.Index n → To i (check_most text limit n i)
  check_most_now limit n i good h = check_now Ule num.Index n (Number limit) i good h tt

  pub check_most_good : (limit : ℕ) (n : Operand) (i : Insertion) → G i → Fits seen num.Index n → To i (check_most text limit n i)
  check_most_good limit n i good h = check_most_now limit n i good (fit_now i num.Index n h)

  check_given_good : (limit : ℕ) (n : Operand) (i : Insertion) → G i → Fits seen num.Index n → To i (check_given text limit n i)
  check_given_good limit (Value v) i good h = check_most_good limit (Value v) i good h
  check_given_good limit (Number n) i good h = grows_self more Checked first seen i good

  each_good : {A : Type 0} (f : A → Insertion → Insertion) (P : A → Type 0) → ((x : A) (i : Insertion) → G i → P x → To i (f x i)) → (xs : List A) (i : Insertion) → G i → All_of P xs → To i (each f xs i)
  each_good f P ok [] i good h = grows_self more Checked first seen i good
  each_good f P ok (x ∷ xs) i good h =
      let g : To i (f x i) = ok x i good h.0 in
      grows_on more Checked first seen i (f x i) (each f xs (f x i)) g (each_good f P ok xs (f x i) g.good h.1)

  all_later : (i j : Insertion) (ns : List Operand) → To i j → All_of (Fits (now i) num.Index) ns → All_of (Fits (now j) num.Index) ns
  all_later i j [] g h = tt
  all_later i j (n ∷ ns) g h = (fits_later more Checked first seen i j num.Index n g h.0, all_later i j ns g h.1)

  all_now : (i : Insertion) (ns : List Operand) → All_of (Fits seen num.Index) ns → All_of (Fits (now i) num.Index) ns
  all_now i [] h = tt
  all_now i (n ∷ ns) h = (fit_now i num.Index n h.0, all_now i ns h.1)

  check_products_from_good : (limit : ℕ) (n : Operand) (ks : List Operand) (i : Insertion) → G i → Fits (now i) num.Index n → All_of (Fits (now i) num.Index) ks → To i (check_products_from text limit n ks i)
  check_products_from_good limit n [] i good hn hk = grows_self more Checked first seen i good
  check_products_from_good limit n (k ∷ ks) i good hn hk =
      let p : ValueNo × Insertion = binary op.ArithMuli num.Index n k i in
      let gp : Gives more Checked first seen ty.Index i p = binary_good more Checked first seen op.ArithMuli num.Index n k i product_row good hn hk.0 in
      let j : Insertion = check_most text limit (Value p.0) p.1 in
      let gj : To p.1 j = check_most_now limit (Value p.0) p.1 gp.grows.good gp.has in
      let ij : To i j = grows_on more Checked first seen i p.1 j gp.grows gj in
      grows_on more Checked first seen i j (check_products_from text limit (Value p.0) ks j) ij
      (check_products_from_good limit (Value p.0) ks j gj.good (gj.keeps p.0.0 ty.Index gp.has) (all_later i j ks ij hk.1))

  check_products_good : (limit : ℕ) (ns : List Operand) (i : Insertion) → G i → All_of (Fits (now i) num.Index) ns → To i (check_products text limit ns i)
  check_products_good limit [] i good h = grows_self more Checked first seen i good
  check_products_good limit (n ∷ ns) i good h =
      let j : Insertion = check_most text limit n i in
      let g : To i j = check_most_now limit n i good h.0 in
      grows_on more Checked first seen i j (check_products_from text limit n ns j) g
      (check_products_from_good limit n ns j g.good (fits_later more Checked first seen i j num.Index n g h.0) (all_later i j ns g h.1))

  pub check_sizes_good : (ns : List Operand) (i : Insertion) → G i → All_of (Fits seen num.Index) ns → To i (check_sizes text ns i)
  check_sizes_good ns i good h =
      let j : Insertion = each (check_given text most_cells) ns i in
      let g : To i j = each_good (check_given text most_cells) (Fits seen num.Index) (λ n k good fit. check_given_good most_cells n k good fit) ns i good h in
      grows_on more Checked first seen i j (check_products text most_cells ns j) g (check_products_good most_cells ns j g.good (all_now j ns h))

  -- ---- loops

  check_between_good : (low : ℕ) (n : Operand) (i : Insertion) → G i → Fits seen num.Index n → To i (check_between text low n i)
  unfolding check_between
  check_between_good low n i good h =
      let j : Insertion = check text Sge num.Index n (Number low) i in
      let g : To i j = check_good Sge num.Index n (Number low) i good h tt in
      grows_on more Checked first seen i j (check text Sle num.Index n (Number greatest_bound) j) g (check_good Sle num.Index n (Number greatest_bound) j g.good h tt)

  pub check_bounds_good : (lower upper step : Operand) (i : Insertion) → G i → Fits seen num.Index lower → Fits seen num.Index upper → Fits seen num.Index step → To i (check_bounds text lower upper step i)
  check_bounds_good lower upper step i good hl hu hs =
      let j : Insertion = check_between text least_bound lower i in
      let gj : To i j = check_between_good least_bound lower i good hl in
      let k : Insertion = check_between text least_bound upper j in
      let gk : To j k = check_between_good least_bound upper j gj.good hu in
      grows_on more Checked first seen i k (check_between text 1 step k) (grows_on more Checked first seen i j k gj gk) (check_between_good 1 step k gk.good hs)

  all_behind : (s : Seen) (ns : List Operand) (v : ValueNo) → All_of (Fits s num.Index) ns → lookup s v.0 ≡ Some ty.Index → All_of (Fits s num.Index) (ns ++ Value v ∷ [])
  all_behind s [] v h is = (is, tt)
  all_behind s (n ∷ ns) v h is = (h.0, all_behind s ns v h.1 is)

  check_turns_good : (ns : List Operand) (rs : List Range) (i : Insertion) → G i → All_of (Fits (now i) num.Index) ns → All_of (FitsRange seen) rs →
      To i (check_turns text ns rs i).1 × All_of (Fits (now (check_turns text ns rs i).1) num.Index) (check_turns text ns rs i).0
  check_turns_good ns [] i good hn h = (grows_self more Checked first seen i good, hn)
  check_turns_good ns (r ∷ rs) i good hn h =
      let n : ValueNo × Insertion = turns r.lower r.upper r.step i in
      let gn : Gives more Checked first seen ty.Index i n =
      turns_good more Checked first seen r.lower r.upper r.step i good (behind_visible seen i.ops r.lower.0 ty.Index h.0.lower) (behind_visible seen i.ops r.upper.0 ty.Index h.0.upper) (behind_visible seen i.ops r.step.0 ty.Index h.0.step) in
      let j : Insertion = check_most text most_elements (Value n.0) n.1 in
      let gj : To n.1 j = check_most_now most_elements (Value n.0) n.1 gn.grows.good gn.has in
      let ij : To i j = grows_on more Checked first seen i n.1 j gn.grows gj in
      let rest : To j (check_turns text (ns ++ Value n.0 ∷ []) rs j).1 × All_of (Fits (now (check_turns text (ns ++ Value n.0 ∷ []) rs j).1) num.Index) (check_turns text (ns ++ Value n.0 ∷ []) rs j).0 =
      check_turns_good (ns ++ Value n.0 ∷ []) rs j gj.good (all_behind (now j) ns n.0 (all_later i j ns ij hn) (gj.keeps n.0.0 ty.Index gn.has)) h.1 in
      (grows_on more Checked first seen i j (check_turns text (ns ++ Value n.0 ∷ []) rs j).1 ij rest.0, rest.1)

  pub check_ranges_good : (rs : List Range) (i : Insertion) → G i → All_of (FitsRange seen) rs → To i (check_ranges text rs i)
  check_ranges_good rs i good h =
      let j : Insertion = each (check_range text) rs i in
      let gj : To i j = each_good (check_range text) (FitsRange seen) (λ r k good fit. check_bounds_good (Value r.lower) (Value r.upper) (Value r.step) k good fit.lower fit.upper fit.step) rs i good h in
      let t : List Operand × Insertion = check_turns text [] rs j in
      let gt : To j t.1 × All_of (Fits (now t.1) num.Index) t.0 = check_turns_good [] rs j gj.good tt h in
      grows_on more Checked first seen i t.1 (check_products text most_elements t.0 t.1) (grows_on more Checked first seen i j t.1 gj gt.0) (check_products_good most_elements t.0 t.1 gt.0.good gt.1)
