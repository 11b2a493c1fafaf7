-- The functions of a module with checks are its functions, and insertions.
use Rattle.std.proofs.Common.{◌≡◌, ◌⊎◌, ◌<◌, ◌≤◌, ℕ, ◌+◌, max, Bool, true, false, cond, List, [], ◌∷◌, ◌++◌, map, refl, sym, ap, ap₂, subst, ◌∙◌, arith, nat_eq, inl, inr}
use Rattle.std.specs.Prelude.{◌||◌}
use Rattle.std.proofs.lemmas.Bool.{true≢false}
use Rattle.std.proofs.lemmas.Bool.Decides.{eqb_tells}
use Rattle.std.proofs.lemmas.List.{append_assoc}
use Rattle.ir_forms.specs.declared.ops.Attr.{Attr}
use Rattle.ir_forms.specs.declared.ops.Func.{Func}
use Rattle.ir_forms.specs.declared.ops.Op.{Op, Op-F, out-Op, roll-Op, out-roll-Op}
use Rattle.ir_forms.specs.declared.ops.Op.TheFolds.{fold-Op, fold-Region, fold-roll-Op, fold-roll-Region, fold_out-Op, fold_out-Region, ind-Region}
use Rattle.ir_forms.specs.declared.ops.Region.{Region, Region-F, out-Region, roll-Region, out-roll-Region}
use Rattle.ir_forms.specs.declared.ops.ValueNo.{ValueNo}
use Rattle.ir_forms.specs.Numbers.{Numbering, in_turn}
use Rattle.ir_forms.specs.Numbers as numbering
use Rattle.ir_forms.specs.Ops.{ops_of}
use Rattle.ir_verify.specs.declared.place.Nest.{Nest}
use Rattle.ir_verify.specs.declared.place.Nest.TheVariants.{InFunction}
use Rattle.ir_verify.specs.Calls.{CallsOf, calls_at, calls_in, op_calls, region_calls, call_of, call_to, all_calls, callee_place}
use Rattle.ir_verify.specs.Breaks.{is_call}
use Rattle.ir_verify.specs.Forms.{form_of}
use Rattle.op_table.specs.declared.kind.OpKind.{OpKind}
use Rattle.ir_verify.specs.Places.{nest_in}
use Rattle.made_ops.specs.declared.insertion.Insertion.{Insertion}
use Rattle.check_insert.specs.declared.guard.Guard.{Guard}
use Rattle.check_insert.specs.declared.guard.Guard.TheVariants as guard
use Rattle.check_insert.specs.Shape as shape
use Rattle.source_meaning.specs.Parts.{joined, uses_of}
use Rattle.source_meaning.specs.Steps.{is_among}
use Rattle.source_meaning.specs.TaskOrder.{Each}
use Rattle.check_laws.specs.Fits.{Types, SmallTypes, types_at, types_under, types_in, types_inside, HasSmallTypes}
use Rattle.check_laws.proofs.Guarded.{Below}
use Rattle.check_laws.proofs.Alike.{LikeOps, none, more, LikeRegions, no_more, one_more}
use Rattle.check_laws.proofs.Tidy.{uses_in, uses_inside, uses-made, uses-held, TidyOp, insertion_tidy}

-- ---- induction

each_of : {A : Type 0} (P : A → Type 0) (ys : List ((x : A) × P x)) → Each P (map (λ e. e.0) ys)
each_of P [] = tt
each_of P (y ∷ ys) = (y.1, each_of P ys)

pub tree : (P : Op → Type 0) (Q : Region → Type 0) → ((x : Op-F Op Region) → Each Q x.regions → P (roll-Op x)) →
    ((x : Region-F Op Region) → Each P x.ops → Q (roll-Region x)) → (region : Region) → Q region
tree P Q op_step region_step = ind-Region P Q
    (λ x y is. op_step x (subst (λ (z : Op-F Op Region). Each Q z.regions) is (each_of Q y.regions)))
    (λ x y is. region_step x (subst (λ (z : Region-F Op Region). Each P z.ops) is (each_of P y.ops)))

-- ---- one layer

-- an insertion reads no region
guarded_same : (g : Guard) (x : Op-F Op Region) (rs : List (Numbering Region)) (i : Insertion) →
    shape.guarded {X = Numbering (List Op)} {Y = Numbering Region} g (record { kind = x.kind; at = x.at; operands = x.operands; groups = x.groups; written = x.written; results = x.results; types = x.types; attr = x.attr; regions = rs }) i ≡ shape.guarded g x i
guarded_same guard.Nothing x rs i = refl
guarded_same guard.Divisor x rs i = refl
guarded_same guard.Quotient x rs i = refl
guarded_same guard.Shift x rs i = refl
guarded_same guard.Load x rs i = refl
guarded_same guard.Store x rs i = refl
guarded_same guard.Dimension x rs i = refl
guarded_same guard.Alloc x rs i = refl
guarded_same guard.Group x rs i = refl
guarded_same guard.Bounds x rs i = refl
guarded_same guard.Parallel x rs i = refl

abbrev regions_checked : List Region → ℕ → List Region × ℕ
regions_checked rs = in_turn (map shape.checked_region rs)

abbrev behind : Op-F Op Region → Insertion → List Op × ℕ
behind x i = (i.ops ++ roll-Op (record x { regions = (regions_checked x.regions i.free).0 }) ∷ [], (regions_checked x.regions i.free).1)

checked-made : (x : Op-F Op Region) (free : ℕ) → shape.checked_op (roll-Op x) free ≡ behind x (shape.insertion x free)
checked-made x free =
    ap (λ (f : Numbering (List Op)). f free) (fold-roll-Op (Numbering (List Op)) (Numbering Region) shape.op_checked shape.region_checked x)
    ∙ ap (λ i. behind x i) (guarded_same (shape.guard_of x.kind) x (map shape.checked_region x.regions) _)

checked-held : (x : Region-F Op Region) (free : ℕ) →
    shape.checked_region (roll-Region x) free ≡ (roll-Region (record x { ops = numbering.joined (in_turn (map shape.checked_op x.ops) free).0 }), (in_turn (map shape.checked_op x.ops) free).1)
checked-held x free = ap (λ (f : Numbering Region). f free) (fold-roll-Region (Numbering (List Op)) (Numbering Region) shape.op_checked shape.region_checked x)

types-made : (x : Op-F Op Region) → types_in (roll-Op x) ≡ (x.written, x.types) ∷ joined (map types_inside x.regions)
types-made x = fold-roll-Op (List Types) (List Types) types_at types_under x

types-held : (x : Region-F Op Region) → types_inside (roll-Region x) ≡ joined (map types_in x.ops)
types-held x = fold-roll-Region (List Types) (List Types) types_at types_under x

pub above-made : (x : Op-F Op Region) → shape.above_op (roll-Op x) ≡ max (shape.above x.results) (shape.greatest (map shape.above_region x.regions))
above-made x = fold-roll-Op ℕ ℕ shape.op_above shape.region_above x

pub above-held : (x : Region-F Op Region) → shape.above_region (roll-Region x) ≡ max (shape.above_params x.params) (shape.greatest (map shape.above_op x.ops))
above-held x = fold-roll-Region ℕ ℕ shape.op_above shape.region_above x

-- ---- numbers

pub first_part : (a b c : ℕ) → max a b ≤ c → a ≤ c
first_part a b c h = omega arith

pub second_part : (a b c : ℕ) → max a b ≤ c → b ≤ c
second_part a b c h = omega arith

pub below_above : (b : ℕ) (vs : List ValueNo) → shape.above vs ≤ b → Below b vs
below_above b [] h = tt
below_above b (v ∷ vs) h = ((let l = first_part (v.0 + 1) (shape.above vs) b h in omega arith), below_above b vs (second_part (v.0 + 1) (shape.above vs) b h))

each_front : {A : Type 0} (P : A → Type 0) (xs ys : List A) → Each P (xs ++ ys) → Each P xs
each_front P [] ys h = tt
each_front P (x ∷ xs) ys h = (h.0, each_front P xs ys h.1)

each_back : {A : Type 0} (P : A → Type 0) (xs ys : List A) → Each P (xs ++ ys) → Each P ys
each_back P [] ys h = h
each_back P (x ∷ xs) ys h = each_back P xs ys h.1

-- ---- all layers

same_among : (v : ValueNo) (vs : List ValueNo) → is_among v.0 (v ∷ vs) ≡ true
same_among v vs = go (eqb_tells v.0 v.0) where
  go : ((nat_eq v.0 v.0) ≡ true) × (v.0 ≡ v.0) ⊎ ((nat_eq v.0 v.0) ≡ false) × (v.0 ≡ v.0 → ⊥) → is_among v.0 (v ∷ vs) ≡ true
  go (inl a) = ap (λ c. cond c true (is_among v.0 vs)) a.0
  go (inr a) = absurd (a.1 refl)

later_among : (x : ℕ) (y : ValueNo) (ys : List ValueNo) → is_among x ys ≡ true → is_among x (y ∷ ys) ≡ true
later_among x y ys h = go (nat_eq y.0 x) where
  go : (t : Bool) → cond t true (is_among x ys) ≡ true
  go true = refl
  go false = h

more_among : (least : ℕ) (y : ValueNo) (ys xs : List ValueNo) → Each (λ v. v.0 < least → is_among v.0 ys ≡ true) xs → Each (λ v. v.0 < least → is_among v.0 (y ∷ ys) ≡ true) xs
more_among least y ys [] h = tt
more_among least y ys (x ∷ xs) h = ((λ l. later_among x.0 y ys (h.0 l)), more_among least y ys xs h.1)

all_among : (least : ℕ) (vs : List ValueNo) → Each (λ v. v.0 < least → is_among v.0 vs ≡ true) vs
all_among least [] = tt
all_among least (v ∷ vs) = ((λ l. same_among v vs), more_among least v vs vs (all_among least vs))

insertion_grows : (o : Op-F Op Region) (free : ℕ) → free ≤ (shape.insertion o free).free
insertion_grows o free = (insertion_tidy [] o.operands free o free (omega arith) (all_among free o.operands)).free

module _ (b : ℕ) where
  abbrev IsBelow : List ValueNo → Type 0
  IsBelow vs = Each (λ v. v.0 < b) vs

  record OpDone (o : Op) (free : ℕ) : Type 0 where
    inserted : ℕ
    regions : List Region
    ops : (shape.checked_op o free).0 ≡ (shape.insertion (out-Op o) free).ops ++ roll-Op (record (out-Op o) { regions = regions }) ∷ []
    grows : free ≤ (shape.checked_op o free).1
    operands : Below b (out-Op o).operands
    results : Below b (out-Op o).results
    small : SmallTypes ((out-Op o).written, (out-Op o).types)
    like : LikeRegions b (out-Op o).regions regions

  record RegionDone (r : Region) (free : ℕ) : Type 0 where
    params : (out-Region (shape.checked_region r free).0).params ≡ (out-Region r).params
    ops : LikeOps b (out-Region r).ops (out-Region (shape.checked_region r free).0).ops
    grows : free ≤ (shape.checked_region r free).1

  abbrev OpLaw : Op → Type 0
  OpLaw o = (free : ℕ) → b ≤ free → IsBelow (uses_in o) → Each SmallTypes (types_in o) → shape.above_op o ≤ b → OpDone o free

  abbrev RegionLaw : Region → Type 0
  RegionLaw r = (free : ℕ) → b ≤ free → IsBelow (uses_inside r) → Each SmallTypes (types_inside r) → shape.above_region r ≤ b → RegionDone r free

  regions_done : (rs : List Region) → Each RegionLaw rs → (free : ℕ) → b ≤ free → IsBelow (joined (map uses_inside rs)) → Each SmallTypes (joined (map types_inside rs)) → shape.greatest (map shape.above_region rs) ≤ b →
      LikeRegions b rs (regions_checked rs free).0 × (free ≤ (regions_checked rs free).1)
  regions_done [] laws free l reads small names = (no_more, omega arith)
  regions_done (r ∷ rs) laws free l reads small names =
      let one = laws.0 free l (each_front (λ v. v.0 < b) (uses_inside r) (joined (map uses_inside rs)) reads) (each_front SmallTypes (types_inside r) (joined (map types_inside rs)) small) (first_part (shape.above_region r) (shape.greatest (map shape.above_region rs)) b names) in
      let next_ : ℕ = (shape.checked_region r free).1 in
      let up : free ≤ next_ = one.grows in
      let others = regions_done rs laws.1 next_ (omega arith) (each_back (λ v. v.0 < b) (uses_inside r) (joined (map uses_inside rs)) reads) (each_back SmallTypes (types_inside r) (joined (map types_inside rs)) small) (second_part (shape.above_region r) (shape.greatest (map shape.above_region rs)) b names) in
      let far : next_ ≤ (regions_checked rs next_).1 = others.1 in
      (one_more r (shape.checked_region r free).0 one.params one.ops others.0, omega arith)

  ops_done : (ops : List Op) → Each OpLaw ops → (free : ℕ) → b ≤ free → IsBelow (joined (map uses_in ops)) → Each SmallTypes (joined (map types_in ops)) → shape.greatest (map shape.above_op ops) ≤ b →
      LikeOps b ops (numbering.joined (in_turn (map shape.checked_op ops) free).0) × (free ≤ (in_turn (map shape.checked_op ops) free).1)
  ops_done [] laws free l reads small names = (none, omega arith)
  ops_done (o ∷ ops) laws free l reads small names =
      let one = laws.0 free l (each_front (λ v. v.0 < b) (uses_in o) (joined (map uses_in ops)) reads) (each_front SmallTypes (types_in o) (joined (map types_in ops)) small) (first_part (shape.above_op o) (shape.greatest (map shape.above_op ops)) b names) in
      let next_ : ℕ = (shape.checked_op o free).1 in
      let up : free ≤ next_ = one.grows in
      let others = ops_done ops laws.1 next_ (omega arith) (each_back (λ v. v.0 < b) (uses_in o) (joined (map uses_in ops)) reads) (each_back SmallTypes (types_in o) (joined (map types_in ops)) small) (second_part (shape.above_op o) (shape.greatest (map shape.above_op ops)) b names) in
      let far : next_ ≤ (in_turn (map shape.checked_op ops) next_).1 = others.1 in
      let tail : List Op = numbering.joined (in_turn (map shape.checked_op ops) next_).0 in
      let o' : Op = roll-Op (record (out-Op o) { regions = one.regions }) in (
        subst (λ xs. LikeOps b (o ∷ ops) xs) (sym (ap (λ xs. xs ++ tail) one.ops ∙ append_assoc (shape.insertion (out-Op o) free).ops (o' ∷ []) tail))
            (more o free one.regions l one.operands one.results one.small one.like others.0),
        omega arith,
      )

  op_law : (x : Op-F Op Region) → Each RegionLaw x.regions → OpLaw (roll-Op x)
  op_law x laws free l reads small names =
      let types : Each SmallTypes ((x.written, x.types) ∷ joined (map types_inside x.regions)) = subst (Each SmallTypes) (types-made x) small in
      let mine : IsBelow (x.operands ++ joined (map uses_inside x.regions)) = subst IsBelow (uses-made x) reads in
      let top : max (shape.above x.results) (shape.greatest (map shape.above_region x.regions)) ≤ b = subst (λ n. n ≤ b) (above-made x) names in
      let i : Insertion = shape.insertion x free in
      let up : free ≤ i.free = insertion_grows x free in
      let rs = regions_done x.regions laws i.free (omega arith) (each_back (λ v. v.0 < b) x.operands (joined (map uses_inside x.regions)) mine) types.1 (second_part (shape.above x.results) (shape.greatest (map shape.above_region x.regions)) b top) in
      let far : i.free ≤ (regions_checked x.regions i.free).1 = rs.1 in
      let seen : shape.checked_op (roll-Op x) free ≡ behind x i = checked-made x free in
      let out : out-Op (roll-Op x) ≡ x = out-roll-Op x in
      record {
        inserted = i.free;
        regions = (regions_checked x.regions i.free).0;
        ops = ap (λ (p : List Op × ℕ). p.0) seen ∙ ap (λ y. (shape.insertion y free).ops ++ roll-Op (record y { regions = (regions_checked x.regions i.free).0 }) ∷ []) (sym out);
        grows = subst (λ (p : List Op × ℕ). free ≤ p.1) (sym seen) (omega arith);
        operands = subst (λ y. Below b y.operands) (sym out) (each_front (λ v. v.0 < b) x.operands (joined (map uses_inside x.regions)) mine);
        results = subst (λ y. Below b y.results) (sym out) (below_above b x.results (first_part (shape.above x.results) (shape.greatest (map shape.above_region x.regions)) b top));
        small = subst (λ y. SmallTypes (y.written, y.types)) (sym out) types.0;
        like = subst (λ y. LikeRegions b y.regions (regions_checked x.regions i.free).0) (sym out) rs.0;
      }

  region_law : (x : Region-F Op Region) → Each OpLaw x.ops → RegionLaw (roll-Region x)
  region_law x laws free l reads small names =
      let mine : IsBelow (joined (map uses_in x.ops)) = subst IsBelow (uses-held x) reads in
      let top : max (shape.above_params x.params) (shape.greatest (map shape.above_op x.ops)) ≤ b = subst (λ n. n ≤ b) (above-held x) names in
      let os = ops_done x.ops laws free l mine (subst (Each SmallTypes) (types-held x) small) (second_part (shape.above_params x.params) (shape.greatest (map shape.above_op x.ops)) b top) in
      let new : List Op = numbering.joined (in_turn (map shape.checked_op x.ops) free).0 in
      let seen = checked-held x free in
      let out : out-Region (roll-Region x) ≡ x = out-roll-Region x in
      let out' : out-Region (shape.checked_region (roll-Region x) free).0 ≡ record x { ops = new } = ap (λ (p : Region × ℕ). out-Region p.0) seen ∙ out-roll-Region (record x { ops = new }) in
      record {
        params = ap (λ y. y.params) out' ∙ sym (ap (λ y. y.params) out);
        ops = subst (λ ys. LikeOps b (out-Region (roll-Region x)).ops ys) (sym (ap (λ y. y.ops) out')) (subst (λ ys. LikeOps b ys new) (sym (ap (λ y. y.ops) out)) os.0);
        grows = subst (λ (p : Region × ℕ). free ≤ p.1) (sym seen) os.1;
      }

  region_done : (r : Region) → RegionLaw r
  region_done = tree OpLaw RegionLaw op_law region_law

-- a function with checks
pub func_like : (f : Func) → Each (λ v. v.0 < shape.first_free f) (uses_of f) → HasSmallTypes f → LikeOps (shape.first_free f) (ops_of f.body) (ops_of (shape.checked_func f).body)
func_like f reads small = (region_done (shape.first_free f) f.body (shape.first_free f) (omega arith) reads small (second_part (shape.above_params f.params) (shape.above_region f.body) (shape.first_free f) (omega arith))).ops

-- ---- what it reads

pub op_uses : (o : Op) → uses_in o ≡ (out-Op o).operands ++ joined (map uses_inside (out-Op o).regions)
op_uses o = fold_out-Op (List ValueNo) (List ValueNo) _ _ o

pub region_uses : (r : Region) → uses_inside r ≡ joined (map uses_in (ops_of r))
region_uses r = fold_out-Region (List ValueNo) (List ValueNo) _ _ r

module _ (x : ℕ) where
  among_append : (xs ys : List ValueNo) → is_among x (xs ++ ys) ≡ (is_among x xs || is_among x ys)
  among_append [] ys = refl
  among_append (y ∷ xs) ys = go (nat_eq y.0 x) (among_append xs ys) where
    go : (t : Bool) → is_among x (xs ++ ys) ≡ (is_among x xs || is_among x ys) → cond t true (is_among x (xs ++ ys)) ≡ (cond t true (is_among x xs) || is_among x ys)
    go true h = refl
    go false h = h

  joined_append : (os ps : List Op) → joined (map uses_in (os ++ ps)) ≡ joined (map uses_in os) ++ joined (map uses_in ps)
  joined_append [] ps = refl
  joined_append (o ∷ os) ps = ap (λ xs. uses_in o ++ xs) (joined_append os ps) ∙ sym (append_assoc (uses_in o) (joined (map uses_in os)) (joined (map uses_in ps)))

  -- what may be read is an operand of its own
  allowed_among : (least : ℕ) (own xs : List ValueNo) → x < least → Each (λ v. v.0 < least → is_among v.0 own ≡ true) xs → is_among x xs ≡ true → is_among x own ≡ true
  allowed_among least own [] l h e = absurd (true≢false (sym e))
  allowed_among least own (y ∷ xs) l h e = go (nat_eq y.0 x) (eqb_tells y.0 x) (allowed_among least own xs l h.1) e where
    go : (t : Bool) → ((nat_eq y.0 x) ≡ true) × (y.0 ≡ x) ⊎ ((nat_eq y.0 x) ≡ false) × (y.0 ≡ x → ⊥) → (is_among x xs ≡ true → is_among x own ≡ true) → cond (nat_eq y.0 x) true (is_among x xs) ≡ true → is_among x own ≡ true
    go t (inl a) later f = subst (λ z. is_among z own ≡ true) a.1 (h.0 (subst (λ z. z < least) (sym a.1) l))
    go t (inr a) later f = later (sym (ap (λ c. cond c true (is_among x xs)) a.0) ∙ f)

  joined_allowed : (funcs : List Func) (least : ℕ) (own : List ValueNo) (os : List Op) → Each (TidyOp funcs own least) os → Each (λ v. v.0 < least → is_among v.0 own ≡ true) (joined (map uses_in os))
  joined_allowed funcs least own [] h = tt
  joined_allowed funcs least own (o ∷ os) h = both_parts (uses_in o) (joined (map uses_in os)) h.0.reads (joined_allowed funcs least own os h.1) where
    both_parts : (xs ys : List ValueNo) → Each (λ v. v.0 < least → is_among v.0 own ≡ true) xs → Each (λ v. v.0 < least → is_among v.0 own ≡ true) ys → Each (λ v. v.0 < least → is_among v.0 own ≡ true) (xs ++ ys)
    both_parts [] ys a b = b
    both_parts (y ∷ xs) ys a b = (a.0, both_parts xs ys a.1 b)

absorbed : (m a r w : Bool) → (m ≡ true → a ≡ true) → (m || ((a || r) || w)) ≡ ((a || r) || w)
absorbed true true r w h = refl
absorbed true false r w h = absurd (true≢false (sym (h refl)))
absorbed false a r w h = refl

-- the insertions of an operation read what it reads, and call nothing
pub insertion_is_tidy : (funcs : List Func) (o : Op-F Op Region) (free : ℕ) → Each (TidyOp funcs o.operands free) (shape.insertion o free).ops
insertion_is_tidy funcs o free = (insertion_tidy funcs o.operands free o free (omega arith) (all_among free o.operands)).ops

mutual
  pub ops_uses : (b x : ℕ) {ops other : List Op} → x < b → LikeOps b ops other → is_among x (joined (map uses_in other)) ≡ is_among x (joined (map uses_in ops))
  ops_uses b x l none = refl
  ops_uses b x l (more o free rs {rest = rest} {other = other} up reads names small w d) =
      let made : List Op = (shape.insertion (out-Op o) free).ops in
      let o' : Op = roll-Op (record (out-Op o) { regions = rs }) in
      let a : Bool = is_among x (out-Op o).operands in
      let m : Bool = is_among x (joined (map uses_in made)) in
      let r' : Bool = is_among x (joined (map uses_inside rs)) in
      let r : Bool = is_among x (joined (map uses_inside (out-Op o).regions)) in
      let v' : Bool = is_among x (joined (map uses_in other)) in
      let v : Bool = is_among x (joined (map uses_in rest)) in
      let own : is_among x (uses_in o') ≡ (a || r') = ap (is_among x) (uses-made (record (out-Op o) { regions = rs })) ∙ among_append x (out-Op o).operands (joined (map uses_inside rs)) in
      let old : is_among x (uses_in o) ≡ (a || r) = ap (is_among x) (op_uses o) ∙ among_append x (out-Op o).operands (joined (map uses_inside (out-Op o).regions)) in
      let left : is_among x (joined (map uses_in (made ++ o' ∷ other))) ≡ (m || ((a || r') || v')) =
      ap (is_among x) (joined_append x made (o' ∷ other)) ∙ (among_append x (joined (map uses_in made)) (uses_in o' ++ joined (map uses_in other))
      ∙ ap (λ t. m || t) (among_append x (uses_in o') (joined (map uses_in other)) ∙ ap (λ t. t || v') own)) in
      let right : is_among x (uses_in o ++ joined (map uses_in rest)) ≡ ((a || r) || v) = among_append x (uses_in o) (joined (map uses_in rest)) ∙ ap (λ t. t || v) old in
      left ∙ (absorbed m a r' v' (allowed_among x free (out-Op o).operands (joined (map uses_in made)) (let k : x < b = l in omega arith) (joined_allowed x [] free (out-Op o).operands made (insertion_is_tidy [] (out-Op o) free)))
      ∙ (ap₂ (λ s t. (a || s) || t) (regions_uses b x l w) (ops_uses b x l d) ∙ sym right))

  pub regions_uses : (b x : ℕ) {rs ss : List Region} → x < b → LikeRegions b rs ss → is_among x (joined (map uses_inside ss)) ≡ is_among x (joined (map uses_inside rs))
  regions_uses b x l no_more = refl
  regions_uses b x l (one_more r s {rs = rs} {ss = ss} e d w) =
      among_append x (uses_inside s) (joined (map uses_inside ss))
      ∙ (ap₂ (λ t u. t || u) (ap (is_among x) (region_uses s) ∙ (ops_uses b x l d ∙ sym (ap (is_among x) (region_uses r)))) (regions_uses b x l w)
      ∙ sym (among_append x (uses_inside r) (joined (map uses_inside rs))))

-- ---- what it calls

module _ (one other_ : List Func) (callees : (a : Attr) → callee_place other_ a ≡ callee_place one a) where
  abbrev of_op : List Func → Op → CallsOf
  of_op funcs o = fold-Op CallsOf CallsOf (op_calls funcs) (region_calls funcs) o

  abbrev of_region : List Func → Region → CallsOf
  of_region funcs r = fold-Region CallsOf CallsOf (op_calls funcs) (region_calls funcs) r

  op_called : (funcs : List Func) (o : Op) (nest : Nest) → of_op funcs o nest ≡ call_of funcs (out-Op o).kind (out-Op o).attr nest ++ all_calls (map (of_region funcs) (out-Op o).regions) (nest_in (out-Op o).kind nest)
  op_called funcs o nest = ap (λ (f : CallsOf). f nest) (fold_out-Op CallsOf CallsOf (op_calls funcs) (region_calls funcs) o)

  made_called : (funcs : List Func) (x : Op-F Op Region) (nest : Nest) → of_op funcs (roll-Op x) nest ≡ call_of funcs x.kind x.attr nest ++ all_calls (map (of_region funcs) x.regions) (nest_in x.kind nest)
  made_called funcs x nest = ap (λ (f : CallsOf). f nest) (fold-roll-Op CallsOf CallsOf (op_calls funcs) (region_calls funcs) x)

  region_called : (funcs : List Func) (r : Region) (nest : Nest) → of_region funcs r nest ≡ all_calls (map (of_op funcs) (ops_of r)) nest
  region_called funcs r nest = ap (λ (f : CallsOf). f nest) (fold_out-Region CallsOf CallsOf (op_calls funcs) (region_calls funcs) r)

  none_called : (own : List ValueNo) (least : ℕ) (os ps : List Op) (nest : Nest) → Each (TidyOp other_ own least) os → all_calls (map (of_op other_) (os ++ ps)) nest ≡ all_calls (map (of_op other_) ps) nest
  unfolding calls_at
  none_called own least [] ps nest h = refl
  none_called own least (o ∷ os) ps nest h = ap (λ xs. xs ++ all_calls (map (of_op other_) (os ++ ps)) nest) (h.0.calls nest) ∙ none_called own least os ps nest h.1

  same_call : (kind : OpKind) (a : Attr) (nest : Nest) → call_of other_ kind a nest ≡ call_of one kind a nest
  same_call kind a nest = ap (λ c. cond (is_call (form_of kind)) (call_to c nest) []) (callees a)

  mutual
    ops_called : (b : ℕ) {ops other : List Op} (nest : Nest) → LikeOps b ops other → all_calls (map (of_op other_) other) nest ≡ all_calls (map (of_op one) ops) nest
    ops_called b nest none = refl
    ops_called b nest (more o free rs {rest = rest} {other = other} up reads names small w d) =
        let o' : Op-F Op Region = record (out-Op o) { regions = rs } in
        none_called (out-Op o).operands free (shape.insertion (out-Op o) free).ops (roll-Op o' ∷ other) nest (insertion_is_tidy other_ (out-Op o) free)
        ∙ ap₂ (λ xs ys. xs ++ ys)
        (made_called other_ o' nest ∙ (ap₂ (λ xs ys. xs ++ ys) (same_call (out-Op o).kind (out-Op o).attr nest) (regions_called b (nest_in (out-Op o).kind nest) w) ∙ sym (op_called one o nest)))
        (ops_called b nest d)

    regions_called : (b : ℕ) {rs ss : List Region} (nest : Nest) → LikeRegions b rs ss → all_calls (map (of_region other_) ss) nest ≡ all_calls (map (of_region one) rs) nest
    regions_called b nest no_more = refl
    regions_called b nest (one_more r s {rs = rs} {ss = ss} e d w) =
        ap₂ (λ xs ys. xs ++ ys) (region_called other_ s nest ∙ (ops_called b nest d ∙ sym (region_called one r nest))) (regions_called b nest w)

  pub body_called : (b : ℕ) (r s : Region) → LikeOps b (ops_of r) (ops_of s) → calls_in other_ s InFunction ≡ calls_in one r InFunction
  unfolding calls_in
  body_called b r s d = region_called other_ s InFunction ∙ (ops_called b InFunction d ∙ sym (region_called one r InFunction))
