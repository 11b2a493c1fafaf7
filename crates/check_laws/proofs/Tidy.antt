-- What is made reads values that are made or that its operation reads, and calls nothing.
use Rattle.std.proofs.Common.{◌≡◌, ◌<◌, ◌≤◌, ℕ, zero, suc, ◌+◌, Bool, true, false, cond, List, [], ◌∷◌, ◌++◌, map, drop, take, Option, Some, None, slice_get, refl, sym, ap, ap₂, subst, ◌∙◌, arith}
use Rattle.std.specs.Prelude.{IfSome, ⊤, ◌&&◌, ◌==◌}
use Rattle.int_ops.specs.declared.Pred.{Pred}
use Rattle.int_ops.specs.declared.Pred.TheVariants.{Ne, Ult, Ule, Sle, Sge}
use Rattle.op_table.specs.declared.kind.OpKind.{OpKind}
use Rattle.op_table.specs.declared.kind.OpKind.TheVariants as op
use Rattle.ir_forms.specs.declared.ops.Attr.{Attr}
use Rattle.ir_forms.specs.declared.ops.Attr.TheVariants as attr
use Rattle.ir_forms.specs.declared.ops.Op.{Op, Op-F, roll-Op}
use Rattle.ir_forms.specs.declared.ops.Op.TheFolds.{fold-Op, fold-Region, fold-roll-Op, fold-roll-Region}
use Rattle.ir_forms.specs.declared.ops.Region.{Region, Region-F, roll-Region}
use Rattle.ir_forms.specs.declared.ops.Func.{Func}
use Rattle.ir_forms.specs.declared.ops.ValueNo.{ValueNo}
use Rattle.ir_forms.specs.declared.types.Dim.{Dim}
use Rattle.ir_forms.specs.declared.types.Dim.TheVariants.{Fixed, Dynamic}
use Rattle.ir_forms.specs.declared.types.MemTy.{MemTy}
use Rattle.ir_forms.specs.declared.types.NumTy.{NumTy}
use Rattle.ir_forms.specs.declared.types.NumTy.TheVariants as num
use Rattle.ir_forms.specs.declared.types.Ty.{Ty}
use Rattle.ir_forms.specs.declared.types.Ty.TheVariants as ty
use Rattle.ir_verify.specs.declared.calls.Call.{Call}
use Rattle.ir_verify.specs.declared.place.Nest.{Nest}
use Rattle.ir_verify.specs.Breaks.{is_call}
use Rattle.ir_verify.specs.Calls.{CallsOf, calls_at, calls_in, op_calls, region_calls, call_to, callee_place, all_calls}
use Rattle.ir_verify.specs.Forms.{form_of}
use Rattle.ir_verify.specs.Places.{nest_in}
use Rattle.made_ops.specs.declared.insertion.Insertion.{Insertion}
use Rattle.made_ops.specs.declared.insertion.Known.{Known}
use Rattle.made_ops.specs.declared.insertion.Operand.{Operand}
use Rattle.made_ops.specs.declared.insertion.Operand.TheVariants as from
use Rattle.made_ops.specs.Made as made
use Rattle.made_ops.specs.Made.{Makes}
use Rattle.check_insert.specs.declared.guard.Guard.{Guard}
use Rattle.check_insert.specs.declared.guard.Guard.TheVariants as guard
use Rattle.check_insert.specs.declared.parts.Range.{Range}
use Rattle.check_insert.specs.Shape as shape
use Rattle.source_meaning.specs.Parts.{Node, joined, uses_at, uses_under}
use Rattle.source_meaning.specs.Steps.{is_among}
use Rattle.source_meaning.specs.TaskOrder.{Each}

-- ---- operands

-- the operands of an operation and of those in its regions
abbrev pub uses_in : Op → List ValueNo
uses_in o = fold-Op (List ValueNo) (List ValueNo) uses_at uses_under o

abbrev pub uses_inside : Region → List ValueNo
uses_inside r = fold-Region (List ValueNo) (List ValueNo) uses_at uses_under r

pub uses-made : (x : Op-F Op Region) → uses_in (roll-Op x) ≡ x.operands ++ joined (map uses_inside x.regions)
uses-made x = fold-roll-Op (List ValueNo) (List ValueNo) uses_at uses_under x

pub uses-held : (x : Region-F Op Region) → uses_inside (roll-Region x) ≡ joined (map uses_in x.ops)
uses-held x = fold-roll-Region (List ValueNo) (List ValueNo) uses_at uses_under x

pub each_append : {X : Type 0} (Q : X → Type 0) (xs ys : List X) → Each Q xs → Each Q ys → Each Q (xs ++ ys)
each_append Q [] ys h g = g
each_append Q (x ∷ xs) ys h g = (h.0, each_append Q xs ys h.1 g)

each_then : {X : Type 0} (Q : X → Type 0) (xs : List X) (x : X) → Each Q xs → Q x → Each Q (xs ++ x ∷ [])
each_then Q [] x h g = (g, tt)
each_then Q (y ∷ xs) x h g = (h.0, each_then Q xs x h.1 g)

module _ (funcs : List Func) (own : List ValueNo) (least : ℕ) where
  -- a value that is made, or one of the operation's own
  abbrev pub Allowed : ValueNo → Type 0
  Allowed v = v.0 < least → is_among v.0 own ≡ true

  pub record TidyOp (o : Op) : Type 0 where
    pub reads : Each Allowed (uses_in o)
    pub calls : (nest : Nest) → calls_at funcs o nest ≡ []

  pub record TidyRegion (r : Region) : Type 0 where
    pub reads : Each Allowed (uses_inside r)
    pub calls : (nest : Nest) → calls_in funcs r nest ≡ []

  pub record Tidy (i : Insertion) : Type 0 where
    pub ops : Each TidyOp i.ops
    pub free : least ≤ i.free
    pub known : Each (λ (k : Known). least ≤ k.value.0) i.known

  made_allowed : (v : ValueNo) → least ≤ v.0 → Allowed v
  made_allowed v l h = absurd (omega arith)

  -- ---- operations

  joined_reads : (rs : List Region) → Each TidyRegion rs → Each Allowed (joined (map uses_inside rs))
  joined_reads [] h = tt
  joined_reads (r ∷ rs) h = each_append Allowed (uses_inside r) (joined (map uses_inside rs)) h.0.reads (joined_reads rs h.1)

  no_calls : (rs : List Region) → Each TidyRegion rs → (nest : Nest) → all_calls (map (fold-Region CallsOf CallsOf (op_calls funcs) (region_calls funcs)) rs) nest ≡ []
  unfolding calls_in
  no_calls [] h nest = refl
  no_calls (r ∷ rs) h nest = ap₂ (λ xs ys. xs ++ ys) (h.0.calls nest) (no_calls rs h.1 nest)

  tidy_op : (x : Op-F Op Region) → is_call (form_of x.kind) ≡ false → Each Allowed x.operands → Each TidyRegion x.regions → TidyOp (roll-Op x)
  unfolding calls_at
  tidy_op x e h g = record {
    reads = subst (Each Allowed) (sym (uses-made x)) (each_append Allowed x.operands (joined (map uses_inside x.regions)) h (joined_reads x.regions g));
    calls = λ nest. ap (λ (f : CallsOf). f nest) (fold-roll-Op CallsOf CallsOf (op_calls funcs) (region_calls funcs) x)
        ∙ (ap₂ (λ (xs ys : List Call). xs ++ ys) (ap (λ b. cond b (call_to (callee_place funcs x.attr) nest) []) e) (no_calls x.regions g (nest_in x.kind nest)));
  }

  joined_ops : (os : List Op) → Each TidyOp os → Each Allowed (joined (map uses_in os))
  joined_ops [] h = tt
  joined_ops (o ∷ os) h = each_append Allowed (uses_in o) (joined (map uses_in os)) h.0.reads (joined_ops os h.1)

  no_calls_in : (os : List Op) → Each TidyOp os → (nest : Nest) → all_calls (map (fold-Op CallsOf CallsOf (op_calls funcs) (region_calls funcs)) os) nest ≡ []
  unfolding calls_at
  no_calls_in [] h nest = refl
  no_calls_in (o ∷ os) h nest = ap₂ (λ xs ys. xs ++ ys) (h.0.calls nest) (no_calls_in os h.1 nest)

  tidy_region : (os : List Op) → Each TidyOp os → TidyRegion (roll-Region (record { params = []; ops = os }))
  unfolding calls_in
  tidy_region os h = record {
    reads = subst (Each Allowed) (sym (uses-held (record { params = []; ops = os }))) (joined_ops os h);
    calls = λ nest. ap (λ (f : CallsOf). f nest) (fold-roll-Region CallsOf CallsOf (op_calls funcs) (region_calls funcs) (record { params = []; ops = os })) ∙ no_calls_in os h nest;
  }

  -- what makes a value keeps an insertion tidy, and the value is one that may be read
  pub record Given (r : ValueNo × Insertion) : Type 0 where
    pub tidy : Tidy r.1
    pub allowed : Allowed r.0

  tidy_acts : (kind : OpKind) (operands : List ValueNo) (written : List Ty) (a : Attr) (i : Insertion) → is_call (form_of kind) ≡ false → Each Allowed operands → Tidy i → Tidy (made.acts kind operands written a i)
  tidy_acts kind operands written a i e h t = record { ops = each_then TidyOp i.ops _ t.ops (tidy_op _ e h tt); free = t.free; known = t.known }

  tidy_gives : (kind : OpKind) (operands : List ValueNo) (written : List Ty) (ty_ : Ty) (a : Attr) (i : Insertion) → is_call (form_of kind) ≡ false → Each Allowed operands → Tidy i → Given (made.gives kind operands written ty_ a i)
  tidy_gives kind operands written ty_ a i e h t = record {
    tidy = record { ops = each_then TidyOp i.ops _ t.ops (tidy_op _ e h tt); free = let l = t.free in omega arith; known = t.known };
    allowed = made_allowed (made.next_value i) t.free;
  }

  tidy_found : (t : NumTy) (n : ℕ) (known : List Known) → Each (λ (k : Known). least ≤ k.value.0) known → IfSome (made.found t n known) (λ v. least ≤ v.0)
  tidy_found t n [] h = tt
  tidy_found t n (k ∷ known) h = go (made.same_number k.ty t && k.bits == n) (tidy_found t n known h.1) where
    go : (b : Bool) → IfSome (made.found t n known) (λ v. least ≤ v.0) → IfSome (cond b (Some k.value) (made.found t n known)) (λ v. least ≤ v.0)
    go true g = h.0
    go false g = g

  tidy_constant_from : (t : NumTy) (n : ℕ) (i : Insertion) (v : Option ValueNo) → IfSome v (λ v. least ≤ v.0) → Tidy i → Given (made.found_or_new t n v i)
  tidy_constant_from t n i (Some v) h d = record { tidy = d; allowed = made_allowed v h }
  tidy_constant_from t n i None h d = record {
    tidy = record { ops = each_then TidyOp i.ops _ d.ops (tidy_op _ refl tt tt); free = let l = d.free in omega arith; known = each_then (λ (k : Known). least ≤ k.value.0) i.known _ d.known d.free };
    allowed = made_allowed (made.next_value i) d.free;
  }

  tidy_constant : (t : NumTy) (n : ℕ) (i : Insertion) → Tidy i → Given (made.constant t n i)
  tidy_constant t n i d = tidy_constant_from t n i (made.found t n i.known) (tidy_found t n i.known d.known) d

  abbrev pub Reads : Operand → Type 0
  Reads (from.Value v) = Allowed v
  Reads (from.Number n) = ⊤

  tidy_operand : (t : NumTy) (a : Operand) (i : Insertion) → Reads a → Tidy i → Given (made.operand t a i)
  tidy_operand t (from.Value v) i h d = record { tidy = d; allowed = h }
  tidy_operand t (from.Number n) i h d = tidy_constant t n i d

  tidy_binary : (kind : OpKind) (t : NumTy) (a b : Operand) (i : Insertion) → is_call (form_of kind) ≡ false → Reads a → Reads b → Tidy i → Given (made.binary kind t a b i)
  tidy_binary kind t a b i e ha hb d =
      let x = tidy_operand t a i ha d in
      let y = tidy_operand t b (made.operand t a i).1 hb x.tidy in
      tidy_gives kind _ _ _ _ (made.operand t b (made.operand t a i).1).1 e (x.allowed, (y.allowed, tt)) y.tidy

  tidy_compare : (p : Pred) (t : NumTy) (a b : Operand) (i : Insertion) → Reads a → Reads b → Tidy i → Given (made.compare p t a b i)
  tidy_compare p t a b i ha hb d =
      let x = tidy_operand t a i ha d in
      let y = tidy_operand t b (made.operand t a i).1 hb x.tidy in
      tidy_gives op.ArithCmpi _ _ _ _ (made.operand t b (made.operand t a i).1).1 refl (x.allowed, (y.allowed, tt)) y.tidy

  tidy_dimension : (m : MemTy) (buffer : ValueNo) (k : ℕ) (i : Insertion) → Allowed buffer → Tidy i → Given (made.dimension m buffer k i)
  tidy_dimension m buffer k i h d =
      let x = tidy_constant num.Index k i d in
      tidy_gives op.MemrefDim _ _ _ _ (made.constant num.Index k i).1 refl (h, (x.allowed, tt)) x.tidy

  -- ---- a value that is chosen

  inside_tidy : (i : Insertion) → Tidy i → Tidy (made.inside i)
  inside_tidy i d = record { ops = tt; free = d.free; known = d.known }

  -- what makes a value
  abbrev Giving : Makes ValueNo → Type 0
  Giving f = (i : Insertion) → Tidy i → Given (f i)

  yielding_tidy : (t : NumTy) (f : Makes ValueNo) (i : Insertion) → Giving f → Tidy i → TidyRegion (made.yielding t f i).0 × Tidy (made.yielding t f i).1
  yielding_tidy t f i g d =
      let x = g (made.inside i) (inside_tidy i d) in
      let y = tidy_acts op.ScfYield ((f (made.inside i)).0 ∷ []) (made.type_of t ∷ []) attr.None (f (made.inside i)).1 refl (x.allowed, tt) x.tidy in
      (tidy_region _ y.ops, record { ops = d.ops; free = y.free; known = d.known })

  tidy_chooses : (t : NumTy) (c : ValueNo) (f g : Makes ValueNo) (i : Insertion) → Allowed c → Giving f → Giving g → Tidy i → Given (made.chooses t c f g i)
  tidy_chooses t c f g i hc hf hg d =
      let a : Insertion = record i { free = i.free + 1 } in
      let da : Tidy a = record { ops = d.ops; free = let l = d.free in omega arith; known = d.known } in
      let x = yielding_tidy t f a hf da in
      let y = yielding_tidy t g (made.yielding t f a).1 hg x.1 in
      record {
        tidy = record { ops = each_then TidyOp i.ops _ d.ops (tidy_op _ refl (hc, tt) (x.0, (y.0, tt))); free = y.1.free; known = d.known };
        allowed = made_allowed (made.next_value i) d.free;
      }

  tidy_turns : (l u s : ValueNo) (i : Insertion) → Allowed l → Allowed u → Allowed s → Tidy i → Given (made.turns l u s i)
  tidy_turns l u s i hl hu hs d =
      let c = tidy_compare Sle num.Index (from.Value u) (from.Value l) i hu hl d in
      tidy_chooses num.Index _ (made.constant num.Index 0) (made.counted_turns l u s) (made.compare Sle num.Index (from.Value u) (from.Value l) i).1 c.allowed (tidy_constant num.Index 0) counted c.tidy where
        counted : Giving (made.counted_turns l u s)
        counted j e =
            let v1 = made.binary op.ArithSubi num.Index (from.Value u) (from.Value l) j in
            let a = tidy_binary op.ArithSubi num.Index (from.Value u) (from.Value l) j refl hu hl e in
            let b = tidy_binary op.ArithSubi num.Index (from.Value v1.0) (from.Number 1) v1.1 refl a.allowed tt a.tidy in
            let v2 = made.binary op.ArithSubi num.Index (from.Value v1.0) (from.Number 1) v1.1 in
            let c = tidy_binary op.ArithDivui num.Index (from.Value v2.0) (from.Value s) v2.1 refl b.allowed hs b.tidy in
            let v3 = made.binary op.ArithDivui num.Index (from.Value v2.0) (from.Value s) v2.1 in
            tidy_binary op.ArithAddi num.Index (from.Value v3.0) (from.Number 1) v3.1 refl c.allowed tt c.tidy

  -- ---- checks

  module _ (text : List ℕ) where
    tidy_check : (p : Pred) (t : NumTy) (a b : Operand) (i : Insertion) → Reads a → Reads b → Tidy i → Tidy (shape.check text p t a b i)
    tidy_check p t a b i ha hb d = let c = tidy_compare p t a b i ha hb d in tidy_acts op.CfAssert _ _ _ (made.compare p t a b i).1 refl (c.allowed, tt) c.tidy

    tidy_quotient : (t : NumTy) (a b : Operand) (i : Insertion) → Reads a → Reads b → Tidy i → Tidy (shape.check_quotient text t a b i)
    unfolding shape.check_quotient
    tidy_quotient t a b i ha hb d =
        let c1 = made.compare Ne t b (from.Number 0) i in
        let y1 = tidy_compare Ne t b (from.Number 0) i hb tt d in
        let c2 = made.compare Ne t a (from.Number (made.least t)) c1.1 in
        let y2 = tidy_compare Ne t a (from.Number (made.least t)) c1.1 ha tt y1.tidy in
        let c3 = made.compare Ne t b (from.Number (made.minus_one t)) c2.1 in
        let y3 = tidy_compare Ne t b (from.Number (made.minus_one t)) c2.1 hb tt y2.tidy in
        let c4 = made.binary op.ArithOri made.truth (from.Value c2.0) (from.Value c3.0) c3.1 in
        let y4 = tidy_binary op.ArithOri made.truth (from.Value c2.0) (from.Value c3.0) c3.1 refl y2.allowed y3.allowed y3.tidy in
        let c5 = made.binary op.ArithAndi made.truth (from.Value c1.0) (from.Value c4.0) c4.1 in
        let y5 = tidy_binary op.ArithAndi made.truth (from.Value c1.0) (from.Value c4.0) c4.1 refl y1.allowed y4.allowed y4.tidy in
        tidy_acts op.CfAssert (c5.0 ∷ []) [] (attr.Text text) c5.1 refl (y5.allowed, tt) y5.tidy

    tidy_each : {A : Type 0} (P : A → Type 0) (f : A → Insertion → Insertion) → ((x : A) (i : Insertion) → P x → Tidy i → Tidy (f x i)) → (xs : List A) (i : Insertion) → Each P xs → Tidy i → Tidy (shape.each f xs i)
    tidy_each P f g [] i h d = d
    tidy_each P f g (x ∷ xs) i h d = tidy_each P f g xs (f x i) h.1 (g x i h.0 d)

    tidy_index : (m : MemTy) (buffer : ValueNo) (k : ℕ) (v : ValueNo) (i : Insertion) → Allowed buffer → Allowed v → Tidy i → Tidy (shape.check_index text m buffer k v i)
    unfolding shape.check_index
    tidy_index m buffer k v i hb hv d =
        let x = tidy_dimension m buffer k i hb d in
        tidy_check Ult num.Index (from.Value v) (from.Value (made.dimension m buffer k i).0) (made.dimension m buffer k i).1 hv x.allowed x.tidy

    tidy_indexes : (m : MemTy) (buffer : ValueNo) (k : ℕ) (dims : List Dim) (vs : List ValueNo) (i : Insertion) → Allowed buffer → Each Allowed vs → Tidy i → Tidy (shape.check_indexes text m buffer k dims vs i)
    tidy_indexes m buffer k [] vs i hb hv d = d
    tidy_indexes m buffer k (dim ∷ dims) [] i hb hv d = d
    tidy_indexes m buffer k (dim ∷ dims) (v ∷ vs) i hb hv d = tidy_indexes m buffer (k + 1) dims vs (shape.check_index text m buffer k v i) hb hv.1 (tidy_index m buffer k v i hb hv.0 d)

    tidy_access : (types : List Ty) (vs : List ValueNo) (i : Insertion) → Each Allowed vs → Tidy i → Tidy (shape.check_access text types vs i)
    tidy_access (ty.Memref m ∷ ts) (buffer ∷ vs) i h d = tidy_indexes m buffer 0 m.dims vs i h.0 h.1 d
    tidy_access (ty.Memref m ∷ ts) [] i h d = d
    tidy_access [] vs i h d = d
    tidy_access (ty.Int w ∷ ts) vs i h d = d
    tidy_access (ty.Index ∷ ts) vs i h d = d
    tidy_access (ty.Token ∷ ts) vs i h d = d
    tidy_access (ty.Value v ∷ ts) vs i h d = d
    tidy_access (ty.Group ∷ ts) vs i h d = d
    tidy_access (ty.CoroId ∷ ts) vs i h d = d
    tidy_access (ty.CoroHandle ∷ ts) vs i h d = d
    tidy_access (ty.CoroState ∷ ts) vs i h d = d
    tidy_access (ty.Untyped ∷ ts) vs i h d = d

    tidy_most : (limit : ℕ) (n : Operand) (i : Insertion) → Reads n → Tidy i → Tidy (shape.check_most text limit n i)
    tidy_most limit n i h d = tidy_check Ule num.Index n (from.Number limit) i h tt d

    tidy_given : (limit : ℕ) (n : Operand) (i : Insertion) → Reads n → Tidy i → Tidy (shape.check_given text limit n i)
    tidy_given limit (from.Value v) i h d = tidy_most limit (from.Value v) i h d
    tidy_given limit (from.Number n) i h d = d

    tidy_products_from : (limit : ℕ) (n : Operand) (ks : List Operand) (i : Insertion) → Reads n → Each Reads ks → Tidy i → Tidy (shape.check_products_from text limit n ks i)
    tidy_products_from limit n [] i h g d = d
    tidy_products_from limit n (k ∷ ks) i h g d =
        let p = made.binary op.ArithMuli num.Index n k i in
        let x = tidy_binary op.ArithMuli num.Index n k i refl h g.0 d in
        tidy_products_from limit (from.Value p.0) ks (shape.check_most text limit (from.Value p.0) p.1) x.allowed g.1 (tidy_most limit (from.Value p.0) p.1 x.allowed x.tidy)

    tidy_products : (limit : ℕ) (ns : List Operand) (i : Insertion) → Each Reads ns → Tidy i → Tidy (shape.check_products text limit ns i)
    tidy_products limit [] i h d = d
    tidy_products limit (n ∷ ns) i h d = tidy_products_from limit n ns (shape.check_most text limit n i) h.0 h.1 (tidy_most limit n i h.0 d)

    tidy_sizes : (ns : List Operand) (i : Insertion) → Each Reads ns → Tidy i → Tidy (shape.check_sizes text ns i)
    tidy_sizes ns i h d = tidy_products shape.most_cells ns _ h (tidy_each Reads (shape.check_given text shape.most_cells) (tidy_given shape.most_cells) ns i h d)

    tidy_between : (low : ℕ) (n : Operand) (i : Insertion) → Reads n → Tidy i → Tidy (shape.check_between text low n i)
    unfolding shape.check_between
    tidy_between low n i h d = tidy_check Sle num.Index n (from.Number shape.greatest_bound) (shape.check text Sge num.Index n (from.Number low) i) h tt (tidy_check Sge num.Index n (from.Number low) i h tt d)

    tidy_bounds : (a b c : Operand) (i : Insertion) → Reads a → Reads b → Reads c → Tidy i → Tidy (shape.check_bounds text a b c i)
    tidy_bounds a b c i ha hb hc d = tidy_between 1 c _ hc (tidy_between shape.least_bound b _ hb (tidy_between shape.least_bound a i ha d))

    abbrev pub ReadsRange : Range → Type 0
    ReadsRange r = Allowed r.lower × Allowed r.upper × Allowed r.step

    tidy_range : (r : Range) (i : Insertion) → ReadsRange r → Tidy i → Tidy (shape.check_range text r i)
    tidy_range r i h d = tidy_bounds (from.Value r.lower) (from.Value r.upper) (from.Value r.step) i h.0 h.1 h.2 d

    tidy_turned : (ns : List Operand) (rs : List Range) (i : Insertion) → Each Reads ns → Each ReadsRange rs → Tidy i →
        Tidy (shape.check_products text shape.most_elements (shape.check_turns text ns rs i).0 (shape.check_turns text ns rs i).1)
    tidy_turned ns [] i h g d = tidy_products shape.most_elements ns i h d
    tidy_turned ns (r ∷ rs) i h g d =
        let t = made.turns r.lower r.upper r.step i in
        let x = tidy_turns r.lower r.upper r.step i g.0.0 g.0.1 g.0.2 d in
        tidy_turned (ns ++ from.Value t.0 ∷ []) rs (shape.check_most text shape.most_elements (from.Value t.0) t.1) (each_then Reads ns (from.Value t.0) h x.allowed) g.1 (tidy_most shape.most_elements (from.Value t.0) t.1 x.allowed x.tidy)

    tidy_ranges : (rs : List Range) (i : Insertion) → Each ReadsRange rs → Tidy i → Tidy (shape.check_ranges text rs i)
    tidy_ranges rs i h d = tidy_turned [] rs (shape.each (shape.check_range text) rs i) tt h (tidy_each ReadsRange (shape.check_range text) tidy_range rs i h d)

  -- ---- the insertion before an operation

  given_read : (vs : List ValueNo) (k : ℕ) → Each Allowed vs → Reads (shape.given (slice_get vs k))
  given_read [] k h = tt
  given_read (v ∷ vs) zero h = h.0
  given_read (v ∷ vs) (suc k) h = given_read vs k h.1

  sizes_read : (dims : List Dim) (vs : List ValueNo) → Each Allowed vs → Each Reads (shape.sizes dims vs)
  sizes_read [] vs h = tt
  sizes_read (Fixed n ∷ dims) vs h = (tt, sizes_read dims vs h)
  sizes_read (Dynamic ∷ dims) [] h = (tt, sizes_read dims [] h)
  sizes_read (Dynamic ∷ dims) (v ∷ vs) h = (h.0, sizes_read dims vs h.1)

  asked_read : (types : List Ty) (vs : List ValueNo) → Each Allowed vs → Each Reads (shape.asked_sizes types vs)
  asked_read [] vs h = tt
  asked_read (ty.Memref m ∷ ts) vs h = sizes_read m.dims vs h
  asked_read (ty.Int w ∷ ts) vs h = tt
  asked_read (ty.Index ∷ ts) vs h = tt
  asked_read (ty.Token ∷ ts) vs h = tt
  asked_read (ty.Value v ∷ ts) vs h = tt
  asked_read (ty.Group ∷ ts) vs h = tt
  asked_read (ty.CoroId ∷ ts) vs h = tt
  asked_read (ty.CoroHandle ∷ ts) vs h = tt
  asked_read (ty.CoroState ∷ ts) vs h = tt
  asked_read (ty.Untyped ∷ ts) vs h = tt

  ranges_read : (ls us ss : List ValueNo) → Each Allowed ls → Each Allowed us → Each Allowed ss → Each (ReadsRange []) (shape.ranges ls us ss)
  ranges_read [] us ss a b c = tt
  ranges_read (l ∷ ls) [] ss a b c = tt
  ranges_read (l ∷ ls) (u ∷ us) [] a b c = tt
  ranges_read (l ∷ ls) (u ∷ us) (s ∷ ss) a b c = ((a.0, b.0, c.0), ranges_read ls us ss a.1 b.1 c.1)

  each_take : (n : ℕ) (xs : List ValueNo) → Each Allowed xs → Each Allowed (take n xs)
  each_take zero [] h = tt
  each_take (suc n) [] h = tt
  each_take zero (x ∷ xs) h = tt
  each_take (suc n) (x ∷ xs) h = (h.0, each_take n xs h.1)

  each_drop : (n : ℕ) (xs : List ValueNo) → Each Allowed xs → Each Allowed (drop n xs)
  each_drop zero [] h = tt
  each_drop (suc n) [] h = tt
  each_drop zero (x ∷ xs) h = h
  each_drop (suc n) (x ∷ xs) h = each_drop n xs h.1

  groups_read : (gs : List ℕ) (vs : List ValueNo) → Each Allowed vs → Each (ReadsRange []) (shape.ranges_of gs vs)
  groups_read [] vs h = tt
  groups_read (a ∷ []) vs h = tt
  groups_read (a ∷ b ∷ []) vs h = tt
  groups_read (a ∷ b ∷ c ∷ gs) vs h =
      ranges_read _ _ _ (each_take a vs h) (each_take b (drop a vs) (each_drop a vs h)) (each_take c (drop b (drop a vs)) (each_drop b (drop a vs) (each_drop a vs h)))

  tidy_guarded : (g : Guard) (o : Node) (i : Insertion) → Each Allowed o.operands → Tidy i → Tidy (shape.guarded g o i)
  tidy_guarded guard.Nothing o i h d = d
  tidy_guarded guard.Divisor o i h d = tidy_check (shape.message guard.Divisor) Ne (shape.number_type o.types) (shape.operand_at o.operands 1) (from.Number 0) i (given_read o.operands 1 h) tt d
  tidy_guarded guard.Quotient o i h d = tidy_quotient (shape.message guard.Quotient) _ _ _ i (given_read o.operands 0 h) (given_read o.operands 1 h) d
  tidy_guarded guard.Shift o i h d = tidy_check (shape.message guard.Shift) Ult (shape.number_type o.types) (shape.operand_at o.operands 1) (from.Number (made.width_of (shape.number_type o.types))) i (given_read o.operands 1 h) tt d
  tidy_guarded guard.Load o i h d = tidy_access (shape.message guard.Load) o.written o.operands i h d
  tidy_guarded guard.Store o i h d = tidy_access (shape.message guard.Store) o.written (drop 1 o.operands) i (each_drop 1 o.operands h) d
  tidy_guarded guard.Dimension o i h d = tidy_check (shape.message guard.Dimension) Ult num.Index (shape.operand_at o.operands 1) (from.Number (shape.rank o.written)) i (given_read o.operands 1 h) tt d
  tidy_guarded guard.Alloc o i h d = tidy_sizes (shape.message guard.Alloc) _ i (asked_read o.types o.operands h) d
  tidy_guarded guard.Group o i h d = tidy_most (shape.message guard.Group) _ _ i (given_read o.operands 0 h) d
  tidy_guarded guard.Bounds o i h d = tidy_bounds (shape.message guard.Bounds) _ _ _ i (given_read o.operands 0 h) (given_read o.operands 1 h) (given_read o.operands 2 h) d
  tidy_guarded guard.Parallel o i h d = tidy_ranges (shape.message guard.Parallel) _ i (groups_read o.groups o.operands h) d

  begun_tidy : (at_ free : ℕ) → least ≤ free → Tidy (made.begun at_ free)
  begun_tidy at_ free l = record { ops = tt; free = l; known = tt }

  pub insertion_tidy : (o : Node) (free : ℕ) → least ≤ free → Each Allowed o.operands → Tidy (shape.insertion o free)
  insertion_tidy o free l h = tidy_guarded (shape.guard_of o.kind) o (made.begun o.at free) h (begun_tidy o.at free l)
