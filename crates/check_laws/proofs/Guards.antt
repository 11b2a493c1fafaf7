-- What stands before an operation passes exactly where its numbers do.
use Rattle.std.proofs.Common.{◌≡◌, ◌⊎◌, ◌<◌, ◌≤◌, ℕ, zero, suc, ◌+◌, ◌*◌, ◌^◌, nat_lt, nat_le, Bool, true, false, List, [], ◌∷◌, length, Some, slice_get, refl, sym, ap, ap₂, subst, ◌∙◌, arith, inl, inr}
use Rattle.std.specs.Prelude.{◌&&◌, ⊤}
use Rattle.std.specs.Option.{is_some}
use Rattle.std.proofs.lemmas.Bool.Decides.{leb_tells}
use Rattle.std.proofs.lemmas.Bool.{true≢false}
use Rattle.int_ops.specs.Arithmetic.{compares}
use Rattle.int_ops.specs.declared.BinOp.TheVariants as bin
use Rattle.int_ops.specs.declared.Pred.{Pred}
use Rattle.int_ops.specs.declared.Pred.TheVariants.{Ne, Ult, Ule, Sge, Sle}
use Rattle.op_table.specs.declared.kind.OpKind.TheVariants as op
use Rattle.ir_forms.specs.declared.ops.Attr.TheVariants as attr
use Rattle.ir_forms.specs.declared.ops.ValueNo.{ValueNo}
use Rattle.ir_forms.specs.declared.types.Dim.{Dim}
use Rattle.ir_forms.specs.declared.types.NumTy.{NumTy}
use Rattle.ir_forms.specs.declared.types.NumTy.TheVariants as num
use Rattle.ir_forms.specs.declared.types.MemTy.{MemTy}
use Rattle.ir_forms.specs.declared.types.Ty.TheVariants as ty
use Rattle.made_ops.specs.declared.insertion.Insertion.{Insertion}
use Rattle.made_ops.specs.declared.insertion.Operand.{Operand}
use Rattle.made_ops.specs.declared.insertion.Operand.TheVariants as from
use Rattle.made_ops.specs.Made as made
use Rattle.check_insert.specs.Shape as shape
use Rattle.source_meaning.specs.Values.{Env, named, number_in, dims_in}
use Rattle.source_meaning.specs.Rows.{result_at, is_bound, is_step, are_bounds}
use Rattle.source_meaning.specs.Tasks.{Program}
use Rattle.source_meaning.specs.Steps.{computes}
use Rattle.check_laws.specs.Rows.{answer, passes, IsNumber, are_below, are_most, products_from, products}
use Rattle.check_laws.proofs.Numbers.{below_number, most_number, compares_number, and_true}
use Rattle.check_laws.proofs.Turns.{mul_is}
use Rattle.check_laws.specs.Silent.{Keeps, standing}
use Rattle.check_laws.proofs.Running.{keeps_then, Extends, ext_same, ext_then, ext_acts, ext_binary, ext_compare, ext_dimension, Stands, Yields, Checked, numeral, IsGiven, given_more, numeral_kept, constant_made, gives_number, compare_made, binary_made, assert_made, check_then, yield_then}

-- ---- what extends an insertion

module _ (text : List ℕ) where
  pub ext_check : (p : Pred) (t : NumTy) (a b : Operand) (i : Insertion) → Extends i (shape.check text p t a b i)
  ext_check p t a b i =
      ext_then i (made.compare p t a b i).1 _ (ext_compare p t a b i) (ext_acts op.CfAssert ((made.compare p t a b i).0 ∷ []) [] (attr.Text text) (made.compare p t a b i).1)

  ext_index : (m : MemTy) (buffer : ValueNo) (k : ℕ) (v : ValueNo) (i : Insertion) → Extends i (shape.check_index text m buffer k v i)
  unfolding shape.check_index
  ext_index m buffer k v i =
      let d = made.dimension m buffer k i in
      ext_then i (made.dimension m buffer k i).1 _ (ext_dimension m buffer k i) (ext_check Ult num.Index (from.Value v) (from.Value (made.dimension m buffer k i).0) (made.dimension m buffer k i).1)

  pub ext_indexes : (m : MemTy) (buffer : ValueNo) (k : ℕ) (dims : List Dim) (vs : List ValueNo) (i : Insertion) → Extends i (shape.check_indexes text m buffer k dims vs i)
  ext_indexes m buffer k [] vs i = ext_same i
  ext_indexes m buffer k (d ∷ dims) [] i = ext_same i
  ext_indexes m buffer k (d ∷ dims) (v ∷ vs) i = ext_then i (shape.check_index text m buffer k v i) _ (ext_index m buffer k v i) (ext_indexes m buffer (k + 1) dims vs (shape.check_index text m buffer k v i))

  pub ext_most : (limit : ℕ) (n : Operand) (i : Insertion) → Extends i (shape.check_most text limit n i)
  ext_most limit n i = ext_check Ule num.Index n (from.Number limit) i

  ext_given : (limit : ℕ) (n : Operand) (i : Insertion) → Extends i (shape.check_given text limit n i)
  ext_given limit (from.Value v) i = ext_most limit (from.Value v) i
  ext_given limit (from.Number n) i = ext_same i

  pub ext_each : {A : Type 0} (f : A → Insertion → Insertion) → ((x : A) (i : Insertion) → Extends i (f x i)) → (xs : List A) (i : Insertion) → Extends i (shape.each f xs i)
  ext_each f e [] i = ext_same i
  ext_each f e (x ∷ xs) i = ext_then i (f x i) _ (e x i) (ext_each f e xs (f x i))

  ext_products_from : (limit : ℕ) (n : Operand) (ks : List Operand) (i : Insertion) → Extends i (shape.check_products_from text limit n ks i)
  ext_products_from limit n [] i = ext_same i
  ext_products_from limit n (k ∷ ks) i =
      let j : Insertion = (made.binary op.ArithMuli num.Index n k i).1 in
      let v : ValueNo = (made.binary op.ArithMuli num.Index n k i).0 in
      ext_then i j _ (ext_binary op.ArithMuli num.Index n k i) (ext_then j (shape.check_most text limit (from.Value v) j) _ (ext_most limit (from.Value v) j) (ext_products_from limit (from.Value v) ks (shape.check_most text limit (from.Value v) j)))

  pub ext_products : (limit : ℕ) (ns : List Operand) (i : Insertion) → Extends i (shape.check_products text limit ns i)
  ext_products limit [] i = ext_same i
  ext_products limit (n ∷ ns) i = ext_then i (shape.check_most text limit n i) _ (ext_most limit n i) (ext_products_from limit n ns (shape.check_most text limit n i))

  ext_between : (low : ℕ) (b : Operand) (i : Insertion) → Extends i (shape.check_between text low b i)
  unfolding shape.check_between
  ext_between low b i =
      let j : Insertion = shape.check text Sge num.Index b (from.Number low) i in
      ext_then i j _ (ext_check Sge num.Index b (from.Number low) i) (ext_check Sle num.Index b (from.Number shape.greatest_bound) j)

  pub ext_bounds : (lower upper step : Operand) (i : Insertion) → Extends i (shape.check_bounds text lower upper step i)
  ext_bounds lower upper step i =
      let j : Insertion = shape.check_between text shape.least_bound lower i in
      let l : Insertion = shape.check_between text shape.least_bound upper j in
      ext_then i j _ (ext_between shape.least_bound lower i) (ext_then j l _ (ext_between shape.least_bound upper j) (ext_between 1 step l))

  module _ (q : Program) where
    -- ---- one check

    pub check_made : (start env : Env) (i : Insertion) (p : Pred) (t : NumTy) (a b : Operand) → Stands q start i env → IsGiven q (made.width_of t) i.free a → IsGiven q (made.width_of t) i.free b →
        Checked q start i env (shape.check text p t a b i) (passes (answer (made.width_of t) p (numeral q env a) (numeral q env b)))
    check_made start env i p t a b s ga gb =
        let y = compare_made q start env i p t a b s ga gb in
        yield_then q start env i (made.compare p t a b i) (answer (made.width_of t) p (numeral q env a) (numeral q env b)) _ (passes (answer (made.width_of t) p (numeral q env a) (numeral q env b)))
        (ext_compare p t a b i) y (assert_made q start y.other (made.compare p t a b i).1 text (made.compare p t a b i).0 (answer (made.width_of t) p (numeral q env a) (numeral q env b)) y.stands y.value)

    -- the same, told by another test
    pub told_by : (start env : Env) (i j : Insertion) (b c : Bool) → b ≡ c → Checked q start i env j b → Checked q start i env j c
    told_by start env i j b c e h = subst (Checked q start i env j) e h

    -- ---- quotients

    pub quotient_made : (start env : Env) (i : Insertion) (t : NumTy) (a b : Operand) → Stands q start i env → IsGiven q (made.width_of t) i.free a → IsGiven q (made.width_of t) i.free b →
        0 < 2 ^ made.width_of t → made.least t < 2 ^ made.width_of t →
        (fits all : ℕ) → result_at 1 bin.Or (answer (made.width_of t) Ne (numeral q env a) (made.least t)) (answer (made.width_of t) Ne (numeral q env b) (made.minus_one t)) ≡ Some fits →
        result_at 1 bin.And (answer (made.width_of t) Ne (numeral q env b) 0) fits ≡ Some all →
        Checked q start i env (shape.check_quotient text t a b i) (passes all)
    unfolding shape.check_quotient
    quotient_made start env i t a b s ga gb some fit fits all e f =
        let w : ℕ = made.width_of t in
        let c1 = made.compare Ne t b (from.Number 0) i in
        let i1 : Insertion = (made.compare Ne t b (from.Number 0) i).1 in
        let c2 = made.compare Ne t a (from.Number (made.least t)) i1 in
        let i2 : Insertion = (made.compare Ne t a (from.Number (made.least t)) i1).1 in
        let c3 = made.compare Ne t b (from.Number (made.minus_one t)) i2 in
        let i3 : Insertion = (made.compare Ne t b (from.Number (made.minus_one t)) i2).1 in
        let v1 : ValueNo = (made.compare Ne t b (from.Number 0) i).0 in
        let v2 : ValueNo = (made.compare Ne t a (from.Number (made.least t)) i1).0 in
        let v3 : ValueNo = (made.compare Ne t b (from.Number (made.minus_one t)) i2).0 in
        let i4 : Insertion = (made.binary op.ArithOri made.truth (from.Value v2) (from.Value v3) i3).1 in
        let v4 : ValueNo = (made.binary op.ArithOri made.truth (from.Value v2) (from.Value v3) i3).0 in
        let i5 : Insertion = (made.binary op.ArithAndi made.truth (from.Value v1) (from.Value v4) i4).1 in
        let v5 : ValueNo = (made.binary op.ArithAndi made.truth (from.Value v1) (from.Value v4) i4).0 in
        let y1 = compare_made q start env i Ne t b (from.Number 0) s gb some in
        let a1 = given_more q w i.free i1.free a y1.grows ga in
        let b1 = given_more q w i.free i1.free b y1.grows gb in
        let y2 = compare_made q start y1.other i1 Ne t a (from.Number (made.least t)) y1.stands a1 fit in
        let b2 = given_more q w i1.free i2.free b y2.grows b1 in
        let y3 = compare_made q start y2.other i2 Ne t b (from.Number (made.minus_one t)) y2.stands b2 (omega arith) in
        let n1 = y1.value in
        let n2 = y2.value ∙ ap (λ x. answer w Ne x (made.least t)) (numeral_kept q w i.free env y1.other a y1.keeps ga) in
        let n3 = y3.value ∙ ap (λ x. answer w Ne x (made.minus_one t)) (numeral_kept q w i1.free y1.other y2.other b y2.keeps b1 ∙ numeral_kept q w i.free env y1.other b y1.keeps gb) in
        let l1 : v1.0 < i1.free = y1.below in
        let l2 : v2.0 < i2.free = y2.below in
        let l3 : v3.0 < i3.free = y3.below in
        let g2 : i1.free ≤ i2.free = y2.grows in
        let g3 : i2.free ≤ i3.free = y3.grows in
        let y4 = binary_made q start y3.other i3 op.ArithOri bin.Or made.truth (from.Value v2) (from.Value v3) fits (λ o vs u. refl) (λ o vs h. refl) y3.stands (omega arith) l3
        (ap₂ (result_at 1 bin.Or) (ap number_in (y3.keeps v2.0 l2) ∙ n2) n3 ∙ e) in
        let l4 : v4.0 < i4.free = y4.below in
        let g4 : i3.free ≤ i4.free = y4.grows in
        let k1 : number_in (named y4.other v1.0) ≡ answer w Ne (numeral q env b) 0 = ap number_in (y4.keeps v1.0 (omega arith) ∙ (y3.keeps v1.0 (omega arith) ∙ y2.keeps v1.0 l1)) ∙ n1 in
        let y5 = binary_made q start y4.other i4 op.ArithAndi bin.And made.truth (from.Value v1) (from.Value v4) all (λ o vs u. refl) (λ o vs h. refl) y4.stands (omega arith) l4
        (ap₂ (result_at 1 bin.And) k1 y4.value ∙ f) in
        let l : Insertion = made.asserts text v5 i5 in
        let c5 = assert_made q start y5.other i5 text v5 all y5.stands y5.value in
        yield_then q start env i c1 (answer w Ne (numeral q env b) 0) l (passes all) (ext_compare Ne t b (from.Number 0) i) y1
        (yield_then q start y1.other i1 c2 (answer w Ne (numeral q y1.other a) (made.least t)) l (passes all) (ext_compare Ne t a (from.Number (made.least t)) i1) y2
        (yield_then q start y2.other i2 c3 (answer w Ne (numeral q y2.other b) (made.minus_one t)) l (passes all) (ext_compare Ne t b (from.Number (made.minus_one t)) i2) y3
        (yield_then q start y3.other i3 (made.binary op.ArithOri made.truth (from.Value v2) (from.Value v3) i3) fits l (passes all) (ext_binary op.ArithOri made.truth (from.Value v2) (from.Value v3) i3) y4
        (yield_then q start y4.other i4 (made.binary op.ArithAndi made.truth (from.Value v1) (from.Value v4) i4) all l (passes all) (ext_binary op.ArithAndi made.truth (from.Value v1) (from.Value v4) i4) y5 c5))))

    -- ---- numbers of 64 bits

    -- the operands read these numbers
    abbrev pub Reads : Env → ℕ → List Operand → List ℕ → Type 0
    Reads env free [] [] = ⊤
    Reads env free (a ∷ ns) (x ∷ xs) = (IsGiven q 64 free a × (numeral q env a ≡ x) × IsNumber x) × Reads env free ns xs
    Reads env free _ _ = ⊥

    pub reads_kept : (env other : Env) (free more : ℕ) (ns : List Operand) (xs : List ℕ) → free ≤ more → Keeps free env other → Reads env free ns xs → Reads other more ns xs
    reads_kept env other free more [] [] l k h = tt
    reads_kept env other free more [] (x ∷ xs) l k h = absurd h
    reads_kept env other free more (a ∷ ns) [] l k h = absurd h
    reads_kept env other free more (a ∷ ns) (x ∷ xs) l k h =
        ((given_more q 64 free more a l h.0.0, numeral_kept q 64 free env other a k h.0.0 ∙ h.0.1, h.0.2), reads_kept env other free more ns xs l k h.1)

    pub most_made : (start env : Env) (i : Insertion) (limit : ℕ) (a : Operand) (x : ℕ) → Stands q start i env → IsGiven q 64 i.free a → numeral q env a ≡ x → IsNumber x → IsNumber limit →
        Checked q start i env (shape.check_most text limit a i) (nat_le x limit)
    most_made start env i limit a x s g e h l =
        told_by start env i (shape.check_most text limit a i) _ (nat_le x limit) (ap (λ y. passes (answer 64 Ule y limit)) e ∙ most_number x limit h l) (check_made start env i Ule num.Index a (from.Number limit) s g l)

    pub compared_made : (start env : Env) (i : Insertion) (p : Pred) (limit : ℕ) (a : Operand) (x : ℕ) → Stands q start i env → IsGiven q 64 i.free a → numeral q env a ≡ x → IsNumber x → IsNumber limit →
        Checked q start i env (shape.check text p num.Index a (from.Number limit) i) (compares 64 p x limit)
    compared_made start env i p limit a x s g e h l =
        told_by start env i (shape.check text p num.Index a (from.Number limit) i) _ (compares 64 p x limit) (ap (λ y. passes (answer 64 p y limit)) e ∙ compares_number p x limit h l) (check_made start env i p num.Index a (from.Number limit) s g l)

    between_made : (start env : Env) (i : Insertion) (low : ℕ) (a : Operand) (x : ℕ) → IsNumber low → Stands q start i env → IsGiven q 64 i.free a → numeral q env a ≡ x → IsNumber x →
        Checked q start i env (shape.check_between text low a i) (compares 64 Sge x low && compares 64 Sle x shape.greatest_bound)
    unfolding shape.check_between
    between_made start env i low a x lh s g e h =
        let j : Insertion = shape.check text Sge num.Index a (from.Number low) i in
        check_then q start env i j _ (compares 64 Sge x low) (compares 64 Sle x shape.greatest_bound) (ext_check Sge num.Index a (from.Number low) i) (ext_check Sle num.Index a (from.Number shape.greatest_bound) j)
        (compared_made start env i Sge low a x s g e h lh)
        (λ p _. compared_made start p.other j Sle shape.greatest_bound a x p.stands (given_more q 64 i.free j.free a p.grows g) (numeral_kept q 64 i.free env p.other a p.keeps g ∙ e) h (omega arith))

    pub bounds_made : (start env : Env) (i : Insertion) (a b c : Operand) (x y z : ℕ) → Stands q start i env → Reads env i.free (a ∷ b ∷ c ∷ []) (x ∷ y ∷ z ∷ []) →
        Checked q start i env (shape.check_bounds text a b c i) (are_bounds x y z)
    bounds_made start env i a b c x y z s h =
        let j : Insertion = shape.check_between text shape.least_bound a i in
        let l : Insertion = shape.check_between text shape.least_bound b j in
        told_by start env i (shape.check_bounds text a b c i) (is_bound x && (is_bound y && is_step z)) (are_bounds x y z) (order (is_bound x) (is_bound y) (is_step z))
        (check_then q start env i j _ (is_bound x) (is_bound y && is_step z) (ext_between shape.least_bound a i) (ext_then j l _ (ext_between shape.least_bound b j) (ext_between 1 c l)) (between_made start env i shape.least_bound a x (omega arith) s h.0.0 h.0.1 h.0.2)
        (λ p _. let g = reads_kept env p.other i.free j.free (a ∷ b ∷ c ∷ []) (x ∷ y ∷ z ∷ []) p.grows p.keeps h in
        check_then q start p.other j l _ (is_bound y) (is_step z) (ext_between shape.least_bound b j) (ext_between 1 c l) (between_made start p.other j shape.least_bound b y (omega arith) p.stands g.1.0.0 g.1.0.1 g.1.0.2)
        (λ r _. let f = reads_kept p.other r.other j.free l.free (a ∷ b ∷ c ∷ []) (x ∷ y ∷ z ∷ []) r.grows r.keeps g in
        between_made start r.other l 1 c z (omega arith) r.stands f.1.1.0.0 f.1.1.0.1 f.1.1.0.2))) where
          order : (u v w : Bool) → (u && (v && w)) ≡ (u && v && w)
          order true v w = refl
          order false v w = refl

    -- ---- products

    pub most_below : (x limit : ℕ) → nat_le x limit ≡ true → x ≤ limit
    most_below x limit e = go (leb_tells x limit) where
      go : ((nat_le x limit ≡ true) × (x ≤ limit)) ⊎ ((nat_le x limit ≡ false) × (limit < x)) → x ≤ limit
      go (inl a) = a.1
      go (inr a) = absurd (true≢false (sym e ∙ a.0))

    products_from_made : (start env : Env) (i : Insertion) (limit : ℕ) (n : Operand) (x : ℕ) (ks : List Operand) (xs : List ℕ) → Stands q start i env → limit * limit < 2 ^ 64 → limit < 2 ^ 64 →
        IsGiven q 64 i.free n → numeral q env n ≡ x → x ≤ limit → Reads env i.free ks xs → are_most limit xs ≡ true → Checked q start i env (shape.check_products_from text limit n ks i) (products_from limit x xs)
    products_from_made start env i limit n x [] [] s sq l g e m r am = record { other = env; stands = s; keeps = λ y b. refl; grows = omega arith }
    products_from_made start env i limit n x [] (y ∷ xs) s sq l g e m r am = absurd r
    products_from_made start env i limit n x (k ∷ ks) [] s sq l g e m r am = absurd r
    products_from_made start env i limit n x (k ∷ ks) (y ∷ xs) s sq l g e m r am =
        let j : Insertion = (made.binary op.ArithMuli num.Index n k i).1 in
        let v : ValueNo = (made.binary op.ArithMuli num.Index n k i).0 in
        let h : Insertion = shape.check_most text limit (from.Value v) j in
        let ay = and_true (nat_le y limit) (are_most limit xs) am in
        let my : y ≤ limit = most_below y limit ay.0 in
        let small : x * y < 2 ^ 64 = under x y limit m my sq in
        let p = binary_made q start env i op.ArithMuli bin.Mul num.Index n k (x * y) (λ o vs u. refl) (λ o vs h. refl) s g r.0.0 (ap₂ (result_at 64 bin.Mul) e r.0.1 ∙ mul_is x y (omega arith) r.0.2 small) in
        yield_then q start env i (made.binary op.ArithMuli num.Index n k i) (x * y) _ (products_from limit x (y ∷ xs)) (ext_binary op.ArithMuli num.Index n k i) p
        (check_then q start p.other j h _ (nat_le (x * y) limit) (products_from limit (x * y) xs) (ext_most limit (from.Value v) j) (ext_products_from limit (from.Value v) ks h)
        (most_made start p.other j limit (from.Value v) (x * y) p.stands p.below p.value small l)
        (λ t ok. let far = keeps_then i.free j.free env p.other t.other p.grows p.keeps t.keeps in
        let up : i.free ≤ h.free = let a = p.grows in let b = t.grows in omega arith in
        products_from_made start t.other h limit (from.Value v) (x * y) ks xs t.stands sq l (let a = p.below in let b = t.grows in omega arith) (ap number_in (t.keeps v.0 p.below) ∙ p.value) (most_below (x * y) limit ok)
        (reads_kept env t.other i.free h.free ks xs up far r.1) ay.1)) where
          under : (x y limit : ℕ) → x ≤ limit → y ≤ limit → limit * limit < 2 ^ 64 → x * y < 2 ^ 64
          under x y limit a b c = grind arith

    pub products_made : (start env : Env) (i : Insertion) (limit : ℕ) (ns : List Operand) (xs : List ℕ) → Stands q start i env → limit * limit < 2 ^ 64 → limit < 2 ^ 64 →
        Reads env i.free ns xs → are_most limit xs ≡ true → Checked q start i env (shape.check_products text limit ns i) (products limit xs)
    products_made start env i limit [] [] s sq l r am = record { other = env; stands = s; keeps = λ y b. refl; grows = omega arith }
    products_made start env i limit [] (x ∷ xs) s sq l r am = absurd r
    products_made start env i limit (n ∷ ns) [] s sq l r am = absurd r
    products_made start env i limit (n ∷ ns) (x ∷ xs) s sq l r am =
        let j : Insertion = shape.check_most text limit n i in
        let ax = and_true (nat_le x limit) (are_most limit xs) am in
        check_then q start env i j _ (nat_le x limit) (products_from limit x xs) (ext_most limit n i) (ext_products_from limit n ns j)
        (most_made start env i limit n x s r.0.0 r.0.1 r.0.2 l)
        (λ t ok. products_from_made start t.other j limit n x ns xs t.stands sq l (given_more q 64 i.free j.free n t.grows r.0.0) (numeral_kept q 64 i.free env t.other n t.keeps r.0.0 ∙ r.0.1) (most_below x limit ok)
        (reads_kept env t.other i.free j.free ns xs t.grows t.keeps r.1) ax.1)

    -- fixed sizes are at most the limit
    abbrev pub AreSmall : ℕ → List Operand → Type 0
    AreSmall limit [] = ⊤
    AreSmall limit (from.Value v ∷ ns) = AreSmall limit ns
    AreSmall limit (from.Number n ∷ ns) = (n ≤ limit) × AreSmall limit ns

    most_is : (x limit : ℕ) → x ≤ limit → nat_le x limit ≡ true
    most_is x limit l = go (leb_tells x limit) where
      go : ((nat_le x limit ≡ true) × (x ≤ limit)) ⊎ ((nat_le x limit ≡ false) × (limit < x)) → nat_le x limit ≡ true
      go (inl a) = a.0
      go (inr a) = absurd (let m : limit < x = a.1 in omega arith)

    givens_made : (start env : Env) (i : Insertion) (limit : ℕ) (ns : List Operand) (xs : List ℕ) → Stands q start i env → limit < 2 ^ 64 → Reads env i.free ns xs → AreSmall limit ns →
        Checked q start i env (shape.each (shape.check_given text limit) ns i) (are_most limit xs)
    givens_made start env i limit [] [] s l r sm = record { other = env; stands = s; keeps = λ y b. refl; grows = omega arith }
    givens_made start env i limit [] (x ∷ xs) s l r sm = absurd r
    givens_made start env i limit (n ∷ ns) [] s l r sm = absurd r
    givens_made start env i limit (from.Value v ∷ ns) (x ∷ xs) s l r sm =
        let j : Insertion = shape.check_most text limit (from.Value v) i in
        check_then q start env i j _ (nat_le x limit) (are_most limit xs) (ext_most limit (from.Value v) i) (ext_each (shape.check_given text limit) (ext_given limit) ns j)
        (most_made start env i limit (from.Value v) x s r.0.0 r.0.1 r.0.2 l)
        (λ t ok. givens_made start t.other j limit ns xs t.stands l (reads_kept env t.other i.free j.free ns xs t.grows t.keeps r.1) sm)
    givens_made start env i limit (from.Number n ∷ ns) (x ∷ xs) s l r sm =
        told_by start env i _ (are_most limit xs) (nat_le x limit && are_most limit xs) (ap (λ b. b && are_most limit xs) (sym (most_is x limit (subst (λ y. y ≤ limit) r.0.1 sm.0))))
        (givens_made start env i limit ns xs s l r.1 sm.1)

    pub sizes_made : (start env : Env) (i : Insertion) (ns : List Operand) (xs : List ℕ) → Stands q start i env → Reads env i.free ns xs → AreSmall shape.most_cells ns →
        Checked q start i env (shape.check_sizes text ns i) (are_most shape.most_cells xs && products shape.most_cells xs)
    sizes_made start env i ns xs s r sm =
        let j : Insertion = shape.each (shape.check_given text shape.most_cells) ns i in
        check_then q start env i j _ (are_most shape.most_cells xs) (products shape.most_cells xs) (ext_each (shape.check_given text shape.most_cells) (ext_given shape.most_cells) ns i) (ext_products shape.most_cells ns j)
        (givens_made start env i shape.most_cells ns xs s (omega arith) r sm)
        (λ t ok. products_made start t.other j shape.most_cells ns xs t.stands (omega arith) (omega arith) (reads_kept env t.other i.free j.free ns xs t.grows t.keeps r) ok)

    -- ---- indexes

    dimension_made : (start env : Env) (i : Insertion) (m : MemTy) (buffer : ValueNo) (k d : ℕ) → Stands q start i env → buffer.0 < i.free → IsNumber k → slice_get (dims_in (named env buffer.0)) k ≡ Some d →
        Yields q start i env (made.dimension m buffer k i) d
    dimension_made start env i m buffer k d s below h e =
        let c = constant_made q start env i num.Index k s h in
        let j : Insertion = (made.constant num.Index k i).1 in
        let x : ValueNo = (made.constant num.Index k i).0 in
        let y = gives_number q start c.other j op.MemrefDim (buffer ∷ x ∷ []) (ty.Memref m ∷ []) ty.Index attr.None d c.stands (ap is_some (ap₂ (λ v n. slice_get (dims_in v) n) (c.keeps buffer.0 below) c.value ∙ e))
        (λ k' n' fs r. ap (computes (record { kind = op.MemrefDim; at = j.at; operands = buffer ∷ x ∷ []; groups = []; written = ty.Memref m ∷ []; results = made.next_value j ∷ []; types = ty.Index ∷ []; attr = attr.None; regions = [] }) (standing k' n' fs r c.other)) (ap₂ (λ v n. slice_get (dims_in v) n) (c.keeps buffer.0 below) c.value ∙ e)) in
        record { other = y.other; stands = y.stands; keeps = keeps_then i.free j.free env c.other y.other c.grows c.keeps y.keeps; grows = let a = c.grows in let b = y.grows in omega arith; below = y.below; value = y.value }

    index_made : (start env : Env) (i : Insertion) (m : MemTy) (buffer : ValueNo) (k d : ℕ) (v : ValueNo) (x : ℕ) → Stands q start i env → buffer.0 < i.free → IsNumber k → slice_get (dims_in (named env buffer.0)) k ≡ Some d →
        IsNumber d → v.0 < i.free → number_in (named env v.0) ≡ x → IsNumber x → Checked q start i env (shape.check_index text m buffer k v i) (nat_lt x d)
    unfolding shape.check_index
    index_made start env i m buffer k d v x s below h e hd g ex hx =
        let y = dimension_made start env i m buffer k d s below h e in
        let j : Insertion = (made.dimension m buffer k i).1 in
        let z : ValueNo = (made.dimension m buffer k i).0 in
        yield_then q start env i (made.dimension m buffer k i) d _ (nat_lt x d) (ext_dimension m buffer k i) y
        (told_by start y.other j _ _ (nat_lt x d) (ap₂ (λ a b. passes (answer 64 Ult a b)) (ap number_in (y.keeps v.0 g) ∙ ex) y.value ∙ below_number x d hx hd)
        (check_made start y.other j Ult num.Index (from.Value v) (from.Value z) y.stands (let a = y.grows in omega arith) y.below))

    -- these indexes read these numbers
    abbrev pub AreRead : Env → ℕ → List ValueNo → List ℕ → Type 0
    AreRead env free [] [] = ⊤
    AreRead env free (v ∷ vs) (x ∷ xs) = ((v.0 < free) × (number_in (named env v.0) ≡ x) × IsNumber x) × AreRead env free vs xs
    AreRead env free _ _ = ⊥

    are_read_kept : (env other : Env) (free more : ℕ) (vs : List ValueNo) (xs : List ℕ) → free ≤ more → Keeps free env other → AreRead env free vs xs → AreRead other more vs xs
    are_read_kept env other free more [] [] l k h = tt
    are_read_kept env other free more [] (x ∷ xs) l k h = absurd h
    are_read_kept env other free more (v ∷ vs) [] l k h = absurd h
    are_read_kept env other free more (v ∷ vs) (x ∷ xs) l k h =
        ((let b : v.0 < free = h.0.0 in omega arith, ap number_in (k v.0 h.0.0) ∙ h.0.1, h.0.2), are_read_kept env other free more vs xs l k h.1)

    -- the sizes of the dimensions from a place on
    abbrev pub SizesFrom : Env → ValueNo → ℕ → List ℕ → Type 0
    SizesFrom env buffer k [] = ⊤
    SizesFrom env buffer k (d ∷ ds) = (IsNumber k × (slice_get (dims_in (named env buffer.0)) k ≡ Some d) × IsNumber d) × SizesFrom env buffer (k + 1) ds

    sizes_kept : (env other : Env) (buffer : ValueNo) (k : ℕ) (ds : List ℕ) → named other buffer.0 ≡ named env buffer.0 → SizesFrom env buffer k ds → SizesFrom other buffer k ds
    sizes_kept env other buffer k [] e h = tt
    sizes_kept env other buffer k (d ∷ ds) e h = ((h.0.0, ap (λ v. slice_get (dims_in v) k) e ∙ h.0.1, h.0.2), sizes_kept env other buffer (k + 1) ds e h.1)

    pub indexes_made : (start env : Env) (i : Insertion) (m : MemTy) (buffer : ValueNo) (k : ℕ) (dims : List Dim) (ds : List ℕ) (vs : List ValueNo) (xs : List ℕ) → Stands q start i env → buffer.0 < i.free →
        length ds ≡ length dims → SizesFrom env buffer k ds → AreRead env i.free vs xs → Checked q start i env (shape.check_indexes text m buffer k dims vs i) (are_below ds xs)
    indexes_made start env i m buffer k [] [] vs xs s b e sf r = record { other = env; stands = s; keeps = λ y l. refl; grows = omega arith }
    indexes_made start env i m buffer k [] (d ∷ ds) vs xs s b e sf r = absurd (let f : suc (length ds) ≡ zero = e in omega arith)
    indexes_made start env i m buffer k (dim ∷ dims) [] vs xs s b e sf r = absurd (let f : zero ≡ suc (length dims) = e in omega arith)
    indexes_made start env i m buffer k (dim ∷ dims) (d ∷ ds) [] [] s b e sf r = record { other = env; stands = s; keeps = λ y l. refl; grows = omega arith }
    indexes_made start env i m buffer k (dim ∷ dims) (d ∷ ds) [] (x ∷ xs) s b e sf r = absurd r
    indexes_made start env i m buffer k (dim ∷ dims) (d ∷ ds) (v ∷ vs) [] s b e sf r = absurd r
    indexes_made start env i m buffer k (dim ∷ dims) (d ∷ ds) (v ∷ vs) (x ∷ xs) s b e sf r =
        let j : Insertion = shape.check_index text m buffer k v i in
        check_then q start env i j _ (nat_lt x d) (are_below ds xs) (ext_index m buffer k v i) (ext_indexes m buffer (k + 1) dims vs j)
        (index_made start env i m buffer k d v x s b sf.0.0 sf.0.1 sf.0.2 r.0.0 r.0.1 r.0.2)
        (λ t ok. indexes_made start t.other j m buffer (k + 1) dims ds vs xs t.stands (let a = t.grows in omega arith) (let f : suc (length ds) ≡ suc (length dims) = e in omega arith)
        (sizes_kept env t.other buffer (k + 1) ds (t.keeps buffer.0 b) sf.1) (are_read_kept env t.other i.free j.free vs xs t.grows t.keeps r.1))
