-- What stands before a parallel loop: its bounds, its turns, and the products of these.
use Rattle.std.proofs.Common.{◌≡◌, ◌<◌, ◌≤◌, ℕ, ◌+◌, ◌-◌, ◌/◌, ◌^◌, nat_eq, nat_le, Bool, true, false, cond, List, [], ◌∷◌, ◌++◌, Some, refl, sym, ap, ap₂, subst, ◌∙◌, arith, pos, ◌-ℤ◌}
use Rattle.std.specs.Prelude.{◌&&◌}
use Rattle.std.proofs.lemmas.List.{append_assoc}
use Rattle.int_ops.specs.Arithmetic.{compares, residue}
use Rattle.int_ops.specs.declared.BinOp.TheVariants as bin
use Rattle.int_ops.specs.declared.Pred.TheVariants.{Sle}
use Rattle.int_ops.proofs.Readings.{residue-below}
use Rattle.op_table.specs.declared.kind.OpKind.TheVariants as op
use Rattle.ir_forms.specs.declared.ops.Attr.TheVariants as attr
use Rattle.ir_forms.specs.declared.ops.Op.{Op}
use Rattle.ir_forms.specs.declared.ops.Region.{Region, out-roll-Region}
use Rattle.ir_forms.specs.declared.ops.ValueNo.{ValueNo}
use Rattle.ir_forms.specs.declared.types.NumTy.{NumTy}
use Rattle.ir_forms.specs.declared.types.NumTy.TheVariants as num
use Rattle.ir_forms.specs.Ops.{ops_of}
use Rattle.ir_verify.specs.declared.place.Nest.{Nest}
use Rattle.made_ops.specs.declared.insertion.Insertion.{Insertion}
use Rattle.made_ops.specs.declared.insertion.Operand.{Operand}
use Rattle.made_ops.specs.declared.insertion.Operand.TheVariants as from
use Rattle.made_ops.specs.Made as made
use Rattle.made_ops.specs.Made.{Makes}
use Rattle.check_insert.specs.Shape as shape
use Rattle.check_insert.specs.declared.parts.Range.{Range}
use Rattle.source_meaning.specs.declared.values.Val.{Val}
use Rattle.source_meaning.specs.Values.{Env, named, put, bind, number_in}
use Rattle.source_meaning.specs.Parts.{Node, region_of}
use Rattle.source_meaning.specs.Rows.{bit, result_at, turns_between, are_bounds}
use Rattle.source_meaning.specs.Tasks.{Program, After, Joins, Goes}
use Rattle.source_meaning.specs.Flow.{entered}
use Rattle.check_laws.specs.Rows.{answer, IsNumber, are_most, products, all_bounds, all_turns}
use Rattle.check_laws.proofs.Numbers.{whole, and_true, and_assoc}
use Rattle.check_laws.proofs.Turns.{sub_is, less_one, div_is, add_one_is, steps_forward, between_some, turns_some, turns_none, steps_number, turns_number}
use Rattle.check_laws.specs.Silent.{Keeps, standing, Ahead, here, goes_on}
use Rattle.check_laws.proofs.Running.{keeps_then, Extends, ext_then, ext_constant, ext_binary, ext_compare, then_ahead, runs_more, made_step, made_safe, Stands, Yields, Checked, knows_more, constant_made, compare_made, binary_made, check_then, yield_then, named_put_same, named_put_other}
use Rattle.check_laws.proofs.Guards.{ext_each, ext_most, ext_products, ext_bounds, told_by, Reads, reads_kept, most_made, bounds_made, products_made}

-- ---- what extends an insertion

-- what makes a value extends each insertion
abbrev pub Extending : Makes ValueNo → Type 0
Extending f = (i : Insertion) → Extends i (f i).1

ext_chooses : (t : NumTy) (c : ValueNo) (f g : Makes ValueNo) → Extending f → Extending g → (i : Insertion) → Extends i (made.chooses t c f g i).1
ext_chooses t c f g ef eg i =
    let a : Insertion = record i { free = i.free + 1 } in
    let r = made.yielding t f a in
    let b : Insertion = (made.yielding t f a).1 in
    let x = (ef (made.inside a)).grows in
    let y = (eg (made.inside b)).grows in
    let up : i.free ≤ (made.yielding t g b).1.free = omega arith in
    record { more = _; ops = refl; grows = up; at_same = refl }

ext_counted : (l u s : ValueNo) → Extending (made.counted_turns l u s)
ext_counted l u s i =
    let v1 : ValueNo = (made.binary op.ArithSubi num.Index (from.Value u) (from.Value l) i).0 in
    let i1 : Insertion = (made.binary op.ArithSubi num.Index (from.Value u) (from.Value l) i).1 in
    let v2 : ValueNo = (made.binary op.ArithSubi num.Index (from.Value v1) (from.Number 1) i1).0 in
    let i2 : Insertion = (made.binary op.ArithSubi num.Index (from.Value v1) (from.Number 1) i1).1 in
    let v3 : ValueNo = (made.binary op.ArithDivui num.Index (from.Value v2) (from.Value s) i2).0 in
    let i3 : Insertion = (made.binary op.ArithDivui num.Index (from.Value v2) (from.Value s) i2).1 in
    ext_then i i1 _ (ext_binary op.ArithSubi num.Index (from.Value u) (from.Value l) i) (ext_then i1 i2 _ (ext_binary op.ArithSubi num.Index (from.Value v1) (from.Number 1) i1)
    (ext_then i2 i3 _ (ext_binary op.ArithDivui num.Index (from.Value v2) (from.Value s) i2) (ext_binary op.ArithAddi num.Index (from.Value v3) (from.Number 1) i3)))

pub ext_turns : (l u s : ValueNo) → Extending (made.turns l u s)
ext_turns l u s i =
    let c : ValueNo = (made.compare Sle num.Index (from.Value u) (from.Value l) i).0 in
    let j : Insertion = (made.compare Sle num.Index (from.Value u) (from.Value l) i).1 in
    ext_then i j _ (ext_compare Sle num.Index (from.Value u) (from.Value l) i) (ext_chooses num.Index c (made.constant num.Index 0) (made.counted_turns l u s) (ext_constant num.Index 0) (ext_counted l u s) j)

module _ (q : Program) where
  -- ---- a value that is chosen

  -- a region that gives a value leads behind its operation
  region_run : (env : Env) (i : Insertion) (t : NumTy) (f : Makes ValueNo) (n : ℕ) → (y : Yields q env (made.inside i) env (f (made.inside i)) n) →
      (k : ℕ) (m : Nest) (fs : List (After × List Op)) (rest : List Op) (xs : List ValueNo) →
      Ahead q (standing k m fs rest (bind xs (named y.other (f (made.inside i)).0.0 ∷ []) y.other)) (standing k m ((Joins xs, rest) ∷ fs) (ops_of (made.yielding t f i).0) env)
  region_run env i t f n y k m fs rest xs =
      subst (λ ops. Ahead q (standing k m fs rest (bind xs (named y.other (f (made.inside i)).0.0 ∷ []) y.other)) (standing k m ((Joins xs, rest) ∷ fs) ops env)) (sym (ap (λ r. r.ops) (out-roll-Region _)))
      (then_ahead q (y.stands.runs k m ((Joins xs, rest) ∷ fs) _) (goes_on (made_safe q k m ((Joins xs, rest) ∷ fs) [] y.other _ refl) (made_step q k m ((Joins xs, rest) ∷ fs) [] y.other _) here))

  inside_stands : (start env : Env) (i : Insertion) (free : ℕ) → i.free ≤ free → Stands q start i env → Stands q env (made.inside (record i { free = free })) env
  inside_stands start env i free l s = record { runs = λ k n fs r. here; known = knows_more q env env i.free free i.known l (λ x b. refl) s.known }

  -- the region that is taken
  abbrev Taken : Bool → Env → NumTy → Makes ValueNo → Makes ValueNo → Insertion → ℕ → Type 0
  Taken true env t f g a n = Yields q env (made.inside (made.yielding t f a).1) env (g (made.inside (made.yielding t f a).1)) n
  Taken false env t f g a n = Yields q env (made.inside a) env (f (made.inside a)) n

  chosen_from : (start env : Env) (i : Insertion) (t : NumTy) (c : ValueNo) (f g : Makes ValueNo) (n free : ℕ) (val : Val) (other : Env) (r s : Region) → Stands q start i env →
      i.free + 1 ≤ free → Keeps (i.free + 1) env other → number_in val ≡ n →
      ((k : ℕ) (m : Nest) (fs : List (After × List Op)) (rest : List Op) →
      Ahead q (standing k m fs rest (put other i.free val)) (standing k m fs (made.made_op op.ScfIf (c ∷ []) [] (made.next_value i ∷ []) (made.type_of t ∷ []) attr.None (r ∷ s ∷ []) (record i { free = free }) ∷ rest) env)) →
      Yields q start i env (made.next_value i, made.placed (made.made_op op.ScfIf (c ∷ []) [] (made.next_value i ∷ []) (made.type_of t ∷ []) attr.None (r ∷ s ∷ []) (record i { free = free })) (record i { free = free })) n
  chosen_from start env i t c f g n free val other r s st up keeps e run =
      let kept : Keeps i.free env (put other i.free val) = (λ x b. named_put_other other i.free x val (λ same. let d : x < x = subst (λ y. x < y) same b in omega arith) ∙ keeps x (omega arith)) in
      record {
        other = put other i.free val;
        stands = record { runs = runs_more q i.ops _ start env (put other i.free val) st.runs run; known = knows_more q env (put other i.free val) i.free free i.known (omega arith) kept st.known };
        keeps = kept;
        grows = omega arith;
        below = omega arith;
        value = ap number_in (named_put_same other i.free val) ∙ e;
      }

  chosen_made : (start env : Env) (i : Insertion) (t : NumTy) (c : ValueNo) (f g : Makes ValueNo) (n : ℕ) → Extending f → Extending g → Stands q start i env →
      (b : Bool) → nat_eq (number_in (named env c.0)) 0 ≡ b → Taken b env t f g (record i { free = i.free + 1 }) n → Yields q start i env (made.chooses t c f g i) n
  chosen_made start env i t c f g n ef eg s true e y =
      let a : Insertion = record i { free = i.free + 1 } in
      let b : Insertion = (made.yielding t f a).1 in
      let x = (ef (made.inside a)).grows in
      let z = (eg (made.inside b)).grows in
      let far : i.free + 1 ≤ (made.yielding t g b).1.free = omega arith in
      let near : i.free + 1 ≤ b.free = omega arith in
      let l : Insertion = record i { free = (made.yielding t g b).1.free } in
      let o : Node = record { kind = op.ScfIf; at = i.at; operands = c ∷ []; groups = []; written = []; results = made.next_value i ∷ []; types = made.type_of t ∷ []; attr = attr.None; regions = (made.yielding t f a).0 ∷ (made.yielding t g b).0 ∷ [] } in
      chosen_from start env i t c f g n (made.yielding t g b).1.free (named y.other (g (made.inside b)).0.0) y.other (made.yielding t f a).0 (made.yielding t g b).0 s far (λ w h. y.keeps w (omega arith)) y.value
      (λ k m fs rest. goes_on (made_safe q k m fs rest env o refl) (made_step q k m fs rest env o ∙ ap (λ v. Goes (entered (Joins (made.next_value i ∷ [])) (region_of o (cond v 1 0)) [] (standing k m fs rest env))) e)
      (region_run env b t g n y k m fs rest (made.next_value i ∷ [])))
  chosen_made start env i t c f g n ef eg s false e y =
      let a : Insertion = record i { free = i.free + 1 } in
      let b : Insertion = (made.yielding t f a).1 in
      let x = (ef (made.inside a)).grows in
      let z = (eg (made.inside b)).grows in
      let far : i.free + 1 ≤ (made.yielding t g b).1.free = omega arith in
      let o : Node = record { kind = op.ScfIf; at = i.at; operands = c ∷ []; groups = []; written = []; results = made.next_value i ∷ []; types = made.type_of t ∷ []; attr = attr.None; regions = (made.yielding t f a).0 ∷ (made.yielding t g b).0 ∷ [] } in
      chosen_from start env i t c f g n (made.yielding t g b).1.free (named y.other (f (made.inside a)).0.0) y.other (made.yielding t f a).0 (made.yielding t g b).0 s far y.keeps y.value
      (λ k m fs rest. goes_on (made_safe q k m fs rest env o refl) (made_step q k m fs rest env o ∙ ap (λ v. Goes (entered (Joins (made.next_value i ∷ [])) (region_of o (cond v 1 0)) [] (standing k m fs rest env))) e)
      (region_run env a t f n y k m fs rest (made.next_value i ∷ [])))

  -- ---- the turns of a dimension

  counted_made : (text : List ℕ) (start env : Env) (i : Insertion) (l u s : ValueNo) (x y z : ℕ) → Stands q start i env → Reads text q env i.free (from.Value l ∷ from.Value u ∷ from.Value s ∷ []) (x ∷ y ∷ z ∷ []) →
      are_bounds x y z ≡ true → compares 64 Sle y x ≡ false → Yields q start i env (made.counted_turns l u s i) (turns_between x y z)
  counted_made text start env i l u s x y z st h ok e =
      let d : ℕ = residue 64 (pos y -ℤ pos x) in
      let some : 0 < d = between_some x y h.0.2 h.1.0.2 e in
      let below = residue-below 64 (pos y -ℤ pos x) in
      let v1 : ValueNo = (made.binary op.ArithSubi num.Index (from.Value u) (from.Value l) i).0 in
      let i1 : Insertion = (made.binary op.ArithSubi num.Index (from.Value u) (from.Value l) i).1 in
      let v2 : ValueNo = (made.binary op.ArithSubi num.Index (from.Value v1) (from.Number 1) i1).0 in
      let i2 : Insertion = (made.binary op.ArithSubi num.Index (from.Value v1) (from.Number 1) i1).1 in
      let v3 : ValueNo = (made.binary op.ArithDivui num.Index (from.Value v2) (from.Value s) i2).0 in
      let i3 : Insertion = (made.binary op.ArithDivui num.Index (from.Value v2) (from.Value s) i2).1 in
      let y1 = binary_made q start env i op.ArithSubi bin.Sub num.Index (from.Value u) (from.Value l) d (λ o vs t. refl) (λ o vs h. refl) st h.1.0.0 h.0.0 (ap₂ (result_at 64 bin.Sub) h.1.0.1 h.0.1 ∙ sub_is y x h.1.0.2 h.0.2) in
      let y2 = binary_made q start y1.other i1 op.ArithSubi bin.Sub num.Index (from.Value v1) (from.Number 1) (d - 1) (λ o vs t. refl) (λ o vs h. refl) y1.stands y1.below (omega arith) (ap (λ w. result_at 64 bin.Sub w 1) y1.value ∙ less_one d below some) in
      let g1 = y1.grows in
      let g2 = y2.grows in
      let bs : s.0 < i.free = h.1.1.0.0 in
      let vs : number_in (named y2.other s.0) ≡ z = ap number_in (y2.keeps s.0 (omega arith) ∙ y1.keeps s.0 bs) ∙ h.1.1.0.1 in
      let low : d - 1 < 2 ^ 64 = omega arith in
      let y3 = binary_made q start y2.other i2 op.ArithDivui bin.DivU num.Index (from.Value v2) (from.Value s) ((d - 1) / z) (λ o ws t. refl) (λ o ws h. h) y2.stands y2.below (let r : s.0 < i2.free = omega arith in r)
      (ap₂ (result_at 64 bin.DivU) y2.value vs ∙ div_is (d - 1) z low h.1.1.0.2 (steps_forward x y z ok)) in
      let y4 = binary_made q start y3.other i3 op.ArithAddi bin.Add num.Index (from.Value v3) (from.Number 1) (turns_between x y z) (λ o ws t. refl) (λ o ws h. refl) y3.stands y3.below (omega arith)
      (ap (λ w. result_at 64 bin.Add w 1) y3.value ∙ (add_one_is ((d - 1) / z) (steps_number x y z some) ∙ ap Some (sym (turns_some x y z e)))) in
      record {
        other = y4.other;
        stands = y4.stands;
        keeps = keeps_then i.free i1.free env y1.other y4.other g1 y1.keeps (keeps_then i1.free i2.free y1.other y2.other y4.other g2 y2.keeps (keeps_then i2.free i3.free y2.other y3.other y4.other y3.grows y3.keeps y4.keeps));
        grows = let g3 = y3.grows in let g4 = y4.grows in omega arith;
        below = y4.below;
        value = y4.value;
      }

  abbrev values : ValueNo → ValueNo → ValueNo → List Operand
  values l u s = from.Value l ∷ from.Value u ∷ from.Value s ∷ []

  pub turns_made : (text : List ℕ) (start env : Env) (i : Insertion) (l u s : ValueNo) (x y z : ℕ) → Stands q start i env → Reads text q env i.free (values l u s) (x ∷ y ∷ z ∷ []) →
      are_bounds x y z ≡ true → Yields q start i env (made.turns l u s i) (turns_between x y z)
  turns_made text start env i l u s x y z st h ok =
      let p = compare_made q start env i Sle num.Index (from.Value u) (from.Value l) st h.1.0.0 h.0.0 in
      let c : ValueNo = (made.compare Sle num.Index (from.Value u) (from.Value l) i).0 in
      let j : Insertion = (made.compare Sle num.Index (from.Value u) (from.Value l) i).1 in
      let n : number_in (named p.other c.0) ≡ answer 64 Sle y x = p.value ∙ ap₂ (answer 64 Sle) h.1.0.1 h.0.1 in
      let r = reads_kept text q env p.other i.free j.free (values l u s) (x ∷ y ∷ z ∷ []) p.grows p.keeps h in
      let t = go p.other j c p.stands r (n ∙ ap bit (ap₂ (compares 64 Sle) (whole y h.1.0.2) (whole x h.0.2))) (compares 64 Sle y x) refl in
      record {
        other = t.other;
        stands = t.stands;
        keeps = keeps_then i.free j.free env p.other t.other p.grows p.keeps t.keeps;
        grows = let a = p.grows in let b = t.grows in omega arith;
        below = t.below;
        value = t.value;
      } where
        go : (other : Env) (j : Insertion) (c : ValueNo) → Stands q start j other → Reads text q other j.free (values l u s) (x ∷ y ∷ z ∷ []) → number_in (named other c.0) ≡ bit (compares 64 Sle y x) →
            (b : Bool) → compares 64 Sle y x ≡ b → Yields q start j other (made.chooses num.Index c (made.constant num.Index 0) (made.counted_turns l u s) j) (turns_between x y z)
        go other j c sj r n true e =
            chosen_made start other j num.Index c (made.constant num.Index 0) (made.counted_turns l u s) (turns_between x y z) (ext_constant num.Index 0) (ext_counted l u s) sj false (ap (λ m. nat_eq m 0) (n ∙ ap bit e))
            (subst (λ m. Yields q other (made.inside (record j { free = j.free + 1 })) other (made.constant num.Index 0 (made.inside (record j { free = j.free + 1 }))) m) (sym (turns_none x y z e))
            (constant_made q other other (made.inside (record j { free = j.free + 1 })) num.Index 0 (inside_stands start other j (j.free + 1) (omega arith) sj) (omega arith)))
        go other j c sj r n false e =
            let a : Insertion = record j { free = j.free + 1 } in
            let b : Insertion = (made.yielding num.Index (made.constant num.Index 0) a).1 in
            let up : j.free + 1 ≤ b.free = (ext_constant num.Index 0 (made.inside a)).grows in
            let far : j.free ≤ b.free = omega arith in
            chosen_made start other j num.Index c (made.constant num.Index 0) (made.counted_turns l u s) (turns_between x y z) (ext_constant num.Index 0) (ext_counted l u s) sj true (ap (λ m. nat_eq m 0) (n ∙ ap bit e))
            (counted_made text other other (made.inside b) l u s x y z (inside_stands start other j b.free far sj)
            (reads_kept text q other other j.free b.free (values l u s) (x ∷ y ∷ z ∷ []) far (λ w h. refl) r) ok e)

  -- ---- all dimensions

  module _ (text : List ℕ) where
    -- the ranges read these bounds and steps
    abbrev pub RangesRead : Env → ℕ → List Range → List ℕ → List ℕ → List ℕ → Type 0
    RangesRead env free [] xs ys zs = (all_bounds xs ys zs ≡ true) × (all_turns xs ys zs ≡ [])
    RangesRead env free (r ∷ rs) (x ∷ xs) (y ∷ ys) (z ∷ zs) = Reads text q env free (values r.lower r.upper r.step) (x ∷ y ∷ z ∷ []) × RangesRead env free rs xs ys zs
    RangesRead env free (r ∷ rs) _ _ _ = ⊥

    pub ranges_kept : (env other : Env) (free more : ℕ) (rs : List Range) (xs ys zs : List ℕ) → free ≤ more → Keeps free env other → RangesRead env free rs xs ys zs → RangesRead other more rs xs ys zs
    ranges_kept env other free more [] xs ys zs l k h = h
    ranges_kept env other free more (r ∷ rs) [] ys zs l k h = absurd h
    ranges_kept env other free more (r ∷ rs) (x ∷ xs) [] zs l k h = absurd h
    ranges_kept env other free more (r ∷ rs) (x ∷ xs) (y ∷ ys) [] l k h = absurd h
    ranges_kept env other free more (r ∷ rs) (x ∷ xs) (y ∷ ys) (z ∷ zs) l k h =
        (reads_kept text q env other free more (values r.lower r.upper r.step) (x ∷ y ∷ z ∷ []) l k h.0, ranges_kept env other free more rs xs ys zs l k h.1)

    ext_range : (r : Range) (i : Insertion) → Extends i (shape.check_range text r i)
    ext_range r i = ext_bounds text (from.Value r.lower) (from.Value r.upper) (from.Value r.step) i

    bounds_each : (start env : Env) (i : Insertion) (rs : List Range) (xs ys zs : List ℕ) → Stands q start i env → RangesRead env i.free rs xs ys zs →
        Checked q start i env (shape.each (shape.check_range text) rs i) (all_bounds xs ys zs)
    bounds_each start env i [] xs ys zs s h = subst (Checked q start i env i) (sym h.0) (record { other = env; stands = s; keeps = λ y b. refl; grows = omega arith })
    bounds_each start env i (r ∷ rs) [] ys zs s h = absurd h
    bounds_each start env i (r ∷ rs) (x ∷ xs) [] zs s h = absurd h
    bounds_each start env i (r ∷ rs) (x ∷ xs) (y ∷ ys) [] s h = absurd h
    bounds_each start env i (r ∷ rs) (x ∷ xs) (y ∷ ys) (z ∷ zs) s h =
        let j : Insertion = shape.check_range text r i in
        check_then q start env i j _ (are_bounds x y z) (all_bounds xs ys zs) (ext_range r i) (ext_each text (shape.check_range text) ext_range rs j)
        (bounds_made text q start env i (from.Value r.lower) (from.Value r.upper) (from.Value r.step) x y z s h.0)
        (λ t ok. bounds_each start t.other j rs xs ys zs t.stands (ranges_kept env t.other i.free j.free rs xs ys zs t.grows t.keeps h.1))

    abbrev limit : ℕ
    limit = shape.most_elements

    -- what stands behind the bounds
    abbrev turned : List Operand → List Range → Insertion → Insertion
    turned ns rs i = shape.check_products text limit (shape.check_turns text ns rs i).0 (shape.check_turns text ns rs i).1

    ext_turned : (ns : List Operand) (rs : List Range) (i : Insertion) → Extends i (turned ns rs i)
    ext_turned ns [] i = ext_products text limit ns i
    ext_turned ns (r ∷ rs) i =
        let v : ValueNo = (made.turns r.lower r.upper r.step i).0 in
        let j : Insertion = (made.turns r.lower r.upper r.step i).1 in
        let l : Insertion = shape.check_most text limit (from.Value v) j in
        ext_then i j _ (ext_turns r.lower r.upper r.step i) (ext_then j l _ (ext_most text limit (from.Value v) j) (ext_turned (ns ++ from.Value v ∷ []) rs l))

    reads_more : (env : Env) (free : ℕ) (ns : List Operand) (ts : List ℕ) (v : ValueNo) (t : ℕ) → Reads text q env free ns ts → v.0 < free → number_in (named env v.0) ≡ t → IsNumber t → Reads text q env free (ns ++ from.Value v ∷ []) (ts ++ t ∷ [])
    reads_more env free [] [] v t h b e m = ((b, e, m), tt)
    reads_more env free [] (y ∷ ts) v t h b e m = absurd h
    reads_more env free (n ∷ ns) [] v t h b e m = absurd h
    reads_more env free (n ∷ ns) (y ∷ ts) v t h b e m = (h.0, reads_more env free ns ts v t h.1 b e m)

    most_more : (ts : List ℕ) (t : ℕ) → are_most limit ts ≡ true → nat_le t limit ≡ true → are_most limit (ts ++ t ∷ []) ≡ true
    most_more [] t h e = ap (λ b. b && true) e
    most_more (y ∷ ts) t h e = let a = and_true (nat_le y limit) (are_most limit ts) h in ap₂ (λ b c. b && c) a.0 (most_more ts t a.1 e)

    turns_each : (start env : Env) (i : Insertion) (ns : List Operand) (ts : List ℕ) (rs : List Range) (xs ys zs : List ℕ) → Stands q start i env → Reads text q env i.free ns ts → are_most limit ts ≡ true →
        RangesRead env i.free rs xs ys zs → all_bounds xs ys zs ≡ true → Checked q start i env (turned ns rs i) (are_most limit (all_turns xs ys zs) && products limit (ts ++ all_turns xs ys zs))
    turns_each start env i ns ts [] xs ys zs s n m h ok =
        subst (λ us. Checked q start i env (turned ns [] i) (are_most limit us && products limit (ts ++ us))) (sym h.1)
        (subst (λ us. Checked q start i env (turned ns [] i) (products limit us)) (none_behind ts) (products_made text q start env i limit ns ts s (omega arith) (omega arith) n m)) where
          none_behind : (us : List ℕ) → us ≡ us ++ []
          none_behind [] = refl
          none_behind (u ∷ us) = ap (λ vs. u ∷ vs) (none_behind us)
    turns_each start env i ns ts (r ∷ rs) [] ys zs s n m h ok = absurd h
    turns_each start env i ns ts (r ∷ rs) (x ∷ xs) [] zs s n m h ok = absurd h
    turns_each start env i ns ts (r ∷ rs) (x ∷ xs) (y ∷ ys) [] s n m h ok = absurd h
    turns_each start env i ns ts (r ∷ rs) (x ∷ xs) (y ∷ ys) (z ∷ zs) s n m h ok =
        let v : ValueNo = (made.turns r.lower r.upper r.step i).0 in
        let j : Insertion = (made.turns r.lower r.upper r.step i).1 in
        let l : Insertion = shape.check_most text limit (from.Value v) j in
        let t : ℕ = turns_between x y z in
        let both = and_true (are_bounds x y z) (all_bounds xs ys zs) ok in
        let p = turns_made text start env i r.lower r.upper r.step x y z s h.0 both.0 in
        let tn : IsNumber t = turns_number x y z h.0.0.2 h.0.1.0.2 in
        let end : List ℕ = all_turns xs ys zs in
        yield_then q start env i (made.turns r.lower r.upper r.step i) t _ (are_most limit (t ∷ end) && products limit (ts ++ t ∷ end)) (ext_turns r.lower r.upper r.step i) p
        (told_by text q start p.other j (turned ns (r ∷ rs) i) (nat_le t limit && (are_most limit end && products limit (ts ++ t ∷ end))) (are_most limit (t ∷ end) && products limit (ts ++ t ∷ end))
        (sym (and_assoc (nat_le t limit) (are_most limit end) (products limit (ts ++ t ∷ end))))
        (check_then q start p.other j l _ (nat_le t limit) (are_most limit end && products limit (ts ++ t ∷ end)) (ext_most text limit (from.Value v) j) (ext_turned (ns ++ from.Value v ∷ []) rs l)
        (most_made text q start p.other j limit (from.Value v) t p.stands p.below p.value tn (omega arith))
        (λ c fit.
        let far : Keeps i.free env c.other = keeps_then i.free j.free env p.other c.other p.grows p.keeps c.keeps in
        let up : i.free ≤ l.free = let a = p.grows in let b = c.grows in omega arith in
        subst (λ us. Checked q start l c.other (turned (ns ++ from.Value v ∷ []) rs l) (are_most limit end && products limit us)) (append_assoc ts (t ∷ []) end)
        (turns_each start c.other l (ns ++ from.Value v ∷ []) (ts ++ t ∷ []) rs xs ys zs c.stands
        (reads_more c.other l.free ns ts v t (reads_kept text q env c.other i.free l.free ns ts up far n) (let a = p.below in let b = c.grows in omega arith) (ap number_in (c.keeps v.0 p.below) ∙ p.value) tn)
        (most_more ts t m fit) (ranges_kept env c.other i.free l.free rs xs ys zs up far h.1) both.1))))

    pub ranges_made : (start env : Env) (i : Insertion) (rs : List Range) (xs ys zs : List ℕ) → Stands q start i env → RangesRead env i.free rs xs ys zs →
        Checked q start i env (shape.check_ranges text rs i) (all_bounds xs ys zs && (are_most limit (all_turns xs ys zs) && products limit (all_turns xs ys zs)))
    ranges_made start env i rs xs ys zs s h =
        let j : Insertion = shape.each (shape.check_range text) rs i in
        check_then q start env i j _ (all_bounds xs ys zs) (are_most limit (all_turns xs ys zs) && products limit (all_turns xs ys zs)) (ext_each text (shape.check_range text) ext_range rs i) (ext_turned [] rs j)
        (bounds_each start env i rs xs ys zs s h)
        (λ t ok. turns_each start t.other j [] [] rs xs ys zs t.stands tt refl (ranges_kept env t.other i.free j.free rs xs ys zs t.grows t.keeps h) ok)
