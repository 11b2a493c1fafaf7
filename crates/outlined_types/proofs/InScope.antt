-- Outlined operations use what is visible, or what they define.
use Rattle.std.proofs.Common.{◌≡◌, ◌⊎◌, inl, inr, ℕ, suc, ◌+◌, ◌==◌, cond, Bool, true, false, List, [], ◌∷◌, ◌++◌, length, map, Option, Some, None, slice_get, refl, sym, ap, ap₂, ◌∙◌, subst}
use Rattle.op_table.specs.declared.rows.Level.{Level}
use Rattle.ir_forms.specs.declared.ops.Attr.TheVariants as attr
use Rattle.ir_forms.specs.declared.ops.Func.{Func}
use Rattle.ir_forms.specs.declared.ops.Op.{Op, Op-F, out-Op, roll-Op}
use Rattle.ir_forms.specs.declared.ops.Op.TheFolds.{fold_out-Op, fold_out-Region, fold-roll-Op, fold-roll-Region}
use Rattle.ir_forms.specs.declared.ops.Region.{Region, Region-F, roll-Region}
use Rattle.ir_forms.specs.declared.ops.ValueNo.{ValueNo}
use Rattle.ir_forms.specs.declared.types.Ty.{Ty}
use Rattle.ir_forms.specs.declared.types.Ty.TheVariants as ty
use Rattle.ir_forms.specs.Numbers.{joined}
use Rattle.ir_forms.specs.Ops.{kind_of, operands_of, ops_of, regions_of, results_of}
use Rattle.ir_verify.specs.Places.{Around, Seen, Spot, defined, is_none_left, params_of, place_of, places_along, places_at, places_held, places_in, types_of, within}
use Rattle.ir_verify.specs.Scopes.{lookup}
use Rattle.ir_verify.proofs.PlaceLemmas.{places_at-out, places_in-out}
use Rattle.made_funcs.specs.Captures.{captures, numbers, op_uses, region_uses, uses_in, uses_inside}
use Rattle.made_funcs.specs.Values.{op_values, region_values}
use Rattle.made_laws.specs.Laws.{Among}
use Rattle.made_laws.proofs.Captures.{captures_are}
use Rattle.mlir_print.specs.Printable.{Ops, Part, Prints, Regions, Scope, no_ops, no_regions, operation, region}
use Rattle.sound_laws.specs.Extended.{AreFine, IsFine}
use Rattle.sound_laws.proofs.Facts.{reads}
use Rattle.sound_laws.proofs.Sight.{equal, lookup_append, or_else}
use Rattle.sound_laws.proofs.Sound.{fine_front, fine_rest}
use Rattle.exec_outline.specs.Shape.{Outlining, Typed, as_values, in_order, is_execute, kept, launch, op_outlined, outlined_as, outlined_op, outlined_region, region_outlined, task_name, typed, values_in, values_inside}
use Rattle.outlined_types.specs.Scoped.{AreInScope, IsVisible, OutlinedInScope, numbers_of}

-- ---- lists

pub among_front : (xs ys : List ℕ) (n : ℕ) → Among xs n → Among (xs ++ ys) n
among_front [] ys n is = absurd is
among_front (x ∷ xs) ys n (inl e) = inl e
among_front (x ∷ xs) ys n (inr more) = inr (among_front xs ys n more)

pub among_back : (xs ys : List ℕ) (n : ℕ) → Among ys n → Among (xs ++ ys) n
among_back [] ys n is = is
among_back (x ∷ xs) ys n is = inr (among_back xs ys n is)

pub among_either : (xs ys : List ℕ) (n : ℕ) → Among (xs ++ ys) n → Among xs n ⊎ Among ys n
among_either [] ys n is = inr is
among_either (x ∷ xs) ys n (inl e) = inl (inl e)
among_either (x ∷ xs) ys n (inr more) = elim (among_either xs ys n more) [ inl h ↦ inl (inr h) | inr h ↦ inr h ]

pub numbers_both : (xs ys : Typed) → numbers_of (xs ++ ys) ≡ numbers_of xs ++ numbers_of ys
numbers_both [] ys = refl
numbers_both (x ∷ xs) ys = ap (λ (ns : List ℕ). x.0.0 ∷ ns) (numbers_both xs ys)

defined_front : (xs ys : Typed) (n : ℕ) → Among (numbers_of xs) n → Among (numbers_of (xs ++ ys)) n
defined_front xs ys n is = subst (λ (ns : List ℕ). Among ns n) (sym (numbers_both xs ys)) (among_front (numbers_of xs) (numbers_of ys) n is)

defined_back : (xs ys : Typed) (n : ℕ) → Among (numbers_of ys) n → Among (numbers_of (xs ++ ys)) n
defined_back xs ys n is = subst (λ (ns : List ℕ). Among ns n) (sym (numbers_both xs ys)) (among_back (numbers_of xs) (numbers_of ys) n is)

pub same_typed : (vs : List ValueNo) (ts : List Ty) → defined vs ts ≡ typed vs ts
same_typed [] ts = refl
same_typed (v ∷ vs) [] = ap (λ (ps : Typed). (v, ty.Untyped) ∷ ps) (same_typed vs [])
same_typed (v ∷ vs) (t ∷ ts) = ap (λ (ps : Typed). (v, t) ∷ ps) (same_typed vs ts)

uses_both : (vs ws : List ValueNo) (n : ℕ) → Among (numbers (vs ++ ws)) n → Among (numbers vs) n ⊎ Among (numbers ws) n
uses_both [] ws n is = inr is
uses_both (v ∷ vs) ws n (inl e) = inl (inl e)
uses_both (v ∷ vs) ws n (inr more) = elim (uses_both vs ws n more) [ inl h ↦ inl (inr h) | inr h ↦ inr h ]

of_values : (ns : List ℕ) (n : ℕ) → Among (numbers (as_values ns)) n → Among ns n
of_values [] n is = is
of_values (m ∷ ns) n (inl e) = inl e
of_values (m ∷ ns) n (inr more) = inr (of_values ns n more)

-- ---- what is visible

pub found : (d : Typed) (n : ℕ) (t : Ty) → lookup d n ≡ Some t → Among (numbers_of d) n
found [] n t is = cc
found (x ∷ d) n t is = by (x.0.0 == n) refl is (found d n t)
  where
    by : (b : Bool) → (x.0.0 == n) ≡ b → cond b (Some x.1) (lookup d n) ≡ Some t → (lookup d n ≡ Some t → Among (numbers_of d) n) → Among (numbers_of (x ∷ d)) n
    by true e is again = inl (equal x.0.0 n e)
    by false e is again = inr (again is)

-- what is visible behind definitions was visible, or is one of them
pub seen_more : (seen d : Seen) (n : ℕ) → IsVisible (seen ++ d) n → IsVisible seen n ⊎ Among (numbers_of d) n
seen_more seen d n is = by (lookup seen n) refl (sym (lookup_append seen d n) ∙ is.1)
  where
    by : (o : Option Ty) → lookup seen n ≡ o → or_else o (lookup d n) ≡ Some is.0 → IsVisible seen n ⊎ Among (numbers_of d) n
    by (Some u) there e = inl (u, there)
    by None there e = inr (found d n is.0 e)

-- the operands of an operation that breaks no rule are visible
operands_seen : (s : Spot) (fine : IsFine s) (vs : List ValueNo) → ((i : ℕ) (v : ValueNo) → slice_get vs i ≡ Some v → IsVisible s.seen v.0) → (n : ℕ) → Among (numbers vs) n → IsVisible s.seen n
operands_seen s fine [] each n is = absurd is
operands_seen s fine (v ∷ vs) each n (inl e) = subst (λ k. IsVisible s.seen k) e (each 0 v refl)
operands_seen s fine (v ∷ vs) each n (inr more) = operands_seen s fine vs (λ i w at. each (suc i) w at) n more

module _ (level : Level) (funcs : List Func) (values : Typed) where
  abbrev pub ops_out : List Op → ℕ → List Op × List Func
  ops_out os k = in_order (map (outlined_op funcs values) os) k

  abbrev pub regions_out : List Region → ℕ → List Region × List Func
  regions_out rs k = in_order (map (outlined_region funcs values) rs) k

  -- an operation without the regions of tasks
  abbrev pub layer : Op → Op-F (Outlining Op) (Outlining Region)
  layer o = record { kind = (out-Op o).kind; at = (out-Op o).at; operands = (out-Op o).operands; groups = (out-Op o).groups; written = (out-Op o).written; results = (out-Op o).results; types = (out-Op o).types; attr = (out-Op o).attr; regions = map (outlined_region funcs values) (out-Op o).regions }

  pub op_is : (o : Op) (k : ℕ) → outlined_op funcs values o k ≡ op_outlined funcs values (layer o) k
  op_is o k = ap (λ (f : Outlining Op). f k) (fold_out-Op (Outlining Op) (Outlining Region) (op_outlined funcs values) (region_outlined funcs values) o)

  pub region_is : (r : Region) (k : ℕ) → outlined_region funcs values r k ≡ (roll-Region (record { params = params_of r; ops = (ops_out (ops_of r) k).0 }), (ops_out (ops_of r) k).1)
  region_is r k = ap (λ (f : Outlining Region). f k) (fold_out-Region (Outlining Op) (Outlining Region) (op_outlined funcs values) (region_outlined funcs values) r)

  -- ---- uses and definitions of made operations and regions

  abbrev OpInScope : Seen → Op → Type 0
  OpInScope seen p = AreInScope seen (uses_in p) (values_in p)

  pub made_uses : (x : Op-F Op Region) → uses_in (roll-Op x) ≡ numbers x.operands ++ joined (map uses_inside x.regions)
  made_uses x = fold-roll-Op (List ℕ) (List ℕ) op_uses region_uses x

  pub made_values : (x : Op-F Op Region) → values_in (roll-Op x) ≡ typed x.results x.types ++ joined (map values_inside x.regions)
  made_values x = fold-roll-Op Typed Typed op_values region_values x

  region_scope : (seen : Seen) (ps : Typed) (ops : List Op) → AreInScope (seen ++ ps) (joined (map uses_in ops)) (joined (map values_in ops))
      → AreInScope seen (uses_inside (roll-Region (record { params = ps; ops = ops }))) (values_inside (roll-Region (record { params = ps; ops = ops })))
  region_scope seen ps ops is =
      let x : Region-F Op Region = record { params = ps; ops = ops } in
      let uses : uses_inside (roll-Region x) ≡ joined (map uses_in ops) = fold-roll-Region (List ℕ) (List ℕ) op_uses region_uses x in
      let own : values_inside (roll-Region x) ≡ ps ++ joined (map values_in ops) = fold-roll-Region Typed Typed op_values region_values x in
      subst (λ (us : List ℕ). AreInScope seen us (values_inside (roll-Region x))) (sym uses) (subst (λ (vs : Typed). AreInScope seen (joined (map uses_in ops)) vs) (sym own) inner)
    where
      inner : AreInScope seen (joined (map uses_in ops)) (ps ++ joined (map values_in ops))
      inner n among = elim (is n among) [
        | inl h ↦ elim (seen_more seen ps n h) [ inl g ↦ inl g | inr g ↦ inr (defined_front ps (joined (map values_in ops)) n g) ]
        | inr h ↦ inr (defined_back ps (joined (map values_in ops)) n h)
      ]

  -- one thing, and then others
  more_scope : (seen : Seen) (us ws : List ℕ) (vs ds : Typed) → AreInScope seen us vs → AreInScope seen ws ds → AreInScope seen (us ++ ws) (vs ++ ds)
  more_scope seen us ws vs ds f g n among = elim (among_either us ws n among) [
    | inl h ↦ elim (f n h) [ inl i ↦ inl i | inr i ↦ inr (defined_front vs ds n i) ]
    | inr h ↦ elim (g n h) [ inl i ↦ inl i | inr i ↦ inr (defined_back vs ds n i) ]
  ]

  -- each region is in scope, and so are all
  abbrev pub EachInScope : Seen → List Region → Type 0
  EachInScope seen [] = Unit {0}
  EachInScope seen (r ∷ rs) = AreInScope seen (uses_inside r) (values_inside r) × EachInScope seen rs

  all_scope : (seen : Seen) (rs : List Region) → EachInScope seen rs → AreInScope seen (joined (map uses_inside rs)) (joined (map values_inside rs))
  all_scope seen [] each n among = absurd among
  all_scope seen (r ∷ rs) each n among = more_scope seen (uses_inside r) (joined (map uses_inside rs)) (values_inside r) (joined (map values_inside rs)) each.0 (all_scope seen rs each.1) n among

  -- operations behind one see its results
  behind_scope : (seen d : Seen) (p : Op) (ws : List ℕ) (ds : Typed) → ((n : ℕ) → Among (numbers_of d) n → Among (numbers_of (values_in p)) n) → OpInScope seen p → AreInScope (seen ++ d) ws ds
      → AreInScope seen (uses_in p ++ ws) (values_in p ++ ds)
  behind_scope seen d p ws ds own f g n among = elim (among_either (uses_in p) ws n among) [
    | inl h ↦ elim (f n h) [ inl i ↦ inl i | inr i ↦ inr (defined_front (values_in p) ds n i) ]
    | inr h ↦ elim (g n h) [
      | inl i ↦ elim (seen_more seen d n i) [ inl j ↦ inl j | inr j ↦ inr (defined_front (values_in p) ds n (own n j)) ]
      | inr i ↦ inr (defined_back (values_in p) ds n i)
    ]
  ]

  -- what is shown of one operation: it is in scope, and defines its results
  record Shown (seen : Seen) (o p : Op) : Type 0 where
    scope : OpInScope seen p
    own : (n : ℕ) → Among (numbers_of (defined (results_of o) (types_of o))) n → Among (numbers_of (values_in p)) n

  module _ (o : Op) (seen : Seen) (uses : (n : ℕ) → Among (numbers (operands_of o)) n → IsVisible seen n) where
    made_shown : (x : Op-F Op Region) → x.results ≡ results_of o → x.types ≡ types_of o → ((n : ℕ) → Among (numbers x.operands) n → IsVisible seen n)
        → AreInScope seen (joined (map uses_inside x.regions)) (joined (map values_inside x.regions)) → Shown seen o (roll-Op x)
    made_shown x rs ts here inside =
        let ds : Typed = joined (map values_inside x.regions) in
        let is : values_in (roll-Op x) ≡ defined (results_of o) (types_of o) ++ ds = made_values x ∙ ap (λ (ps : Typed). ps ++ ds) (ap₂ (λ (vs : List ValueNo) (us : List Ty). typed vs us) rs ts ∙ sym (same_typed (results_of o) (types_of o))) in
        record {
          scope = subst (λ (us : List ℕ). AreInScope seen us (values_in (roll-Op x))) (sym (made_uses x))
              (subst (λ (vs : Typed). AreInScope seen (numbers x.operands ++ joined (map uses_inside x.regions)) vs) (sym is)
              (more_scope seen (numbers x.operands) (joined (map uses_inside x.regions)) (defined (results_of o) (types_of o)) ds (λ n h. inl (here n h)) inside));
          own = λ n h. subst (λ (vs : Typed). Among (numbers_of vs) n) (sym is) (defined_front (defined (results_of o) (types_of o)) ds n h);
        }

    launch_shown : (k : ℕ) (r : Region) → AreInScope seen (uses_inside r) (values_inside r) → Shown seen o (launch (layer o) (task_name funcs k) (captures r))
    launch_shown k r inside =
        made_shown (record { kind = (layer o).kind; at = (layer o).at; operands = operands_of o ++ as_values (captures r); groups = (layer o).groups; written = (layer o).written; results = results_of o; types = types_of o; attr = attr.Callee (task_name funcs k); regions = [] })
        refl refl (λ n h. elim (uses_both (operands_of o) (as_values (captures r)) n h) [
          | inl g ↦ uses n g
          | inr g ↦ caught n (of_values (captures r) n g)
        ]) (λ n h. absurd h)
      where
        caught : (n : ℕ) → Among (captures r) n → IsVisible seen n
        caught n among =
            let c = (captures_are r n).0 among in
            elim (inside n c.0) [ inl i ↦ i | inr i ↦ absurd (c.1 i) ]

    kept_shown : (made : List Region × List Func) → AreInScope seen (joined (map uses_inside made.0)) (joined (map values_inside made.0)) → Shown seen o (kept (layer o) made).0
    kept_shown made inside =
        made_shown (record { kind = (layer o).kind; at = (layer o).at; operands = operands_of o; groups = (layer o).groups; written = (layer o).written; results = results_of o; types = types_of o; attr = (layer o).attr; regions = made.0 })
        refl refl uses inside

    by_region : (b : Bool) (rs : List Region) → regions_of o ≡ rs → ((k : ℕ) → EachInScope seen (regions_out rs k).0) → (k : ℕ)
        → Shown seen o (outlined_as funcs values (layer o) (cond b (slice_get (map (outlined_region funcs values) rs) 0) None) k).0
    by_region false rs e all k = kept_shown (regions_out (regions_of o) k) (all_scope seen (regions_out (regions_of o) k).0 (subst (λ (ys : List Region). EachInScope seen (regions_out ys k).0) (sym e) (all k)))
    by_region true [] e all k = kept_shown (regions_out (regions_of o) k) (all_scope seen (regions_out (regions_of o) k).0 (subst (λ (ys : List Region). EachInScope seen (regions_out ys k).0) (sym e) (all k)))
    by_region true (r ∷ rs) e all k = launch_shown k (outlined_region funcs values r (k + 1)).0 (all (k + 1)).0

    op_shown : ((k : ℕ) → EachInScope seen (regions_out (regions_of o) k).0) → (k : ℕ) → Shown seen o (outlined_op funcs values o k).0
    op_shown all k = subst (λ (x : Op × List Func). Shown seen o x.0) (sym (op_is o k)) (by_region (is_execute (kind_of o)) (regions_of o) refl all k)

  -- ---- all operations of a text

  abbrev pub Goal : Part → Type 0
  Goal (Ops os) = (k : ℕ) (a : Around) (seen : Seen) → AreFine (places_along funcs os a seen) → AreInScope seen (joined (map uses_in (ops_out os k).0)) (joined (map values_in (ops_out os k).0))
  Goal (Regions o i rs) = (k : ℕ) (a : Around) (h : Op) (j : ℕ) (seen : Seen) → AreFine (places_held funcs rs a h j seen) → EachInScope seen (regions_out rs k).0

  pub in_scope : {x : Part} {from to : Scope} → Prints level x from to → Goal x
  in_scope (no_ops s) = λ k a seen fine n among. absurd among
  in_scope (operation o os s inner end stands form at new uses regions rest) = λ k a seen fine.
      let after : Seen = seen ++ defined (results_of o) (types_of o) in
      let spot : Spot = record { seen = seen; place = place_of funcs a (is_none_left os) o } in
      let here : AreFine (spot ∷ places_held funcs (regions_of o) a o 0 seen) =
      subst AreFine (places_at-out funcs o a seen (is_none_left os)) (fine_front (places_at funcs o a seen (is_none_left os)) (places_along funcs os a after) fine) in
      let visible : (n : ℕ) → Among (numbers (operands_of o)) n → IsVisible seen n = operands_seen spot here.0 (operands_of o) (λ i v at. (let r = reads spot here.0 i v at in (r.type, r.visible))) in
      let p : Op × List Func = outlined_op funcs values o k in
      let shown : Shown seen o p.0 = op_shown o seen visible (λ j. in_scope regions j a o 0 seen here.1) k in
      let next : ℕ = k + length p.1 in
      behind_scope seen (defined (results_of o) (types_of o)) p.0 (joined (map uses_in (ops_out os next).0)) (joined (map values_in (ops_out os next).0)) shown.own shown.scope
      (in_scope rest next a after (fine_rest (places_at funcs o a seen (is_none_left os)) (places_along funcs os a after) fine))
  in_scope (no_regions o i s) = λ k a h j seen fine. tt
  in_scope (region o i r rs s inner end new ended ops rest) = λ k a h j seen fine.
      let here : AreFine (places_along funcs (ops_of r) (within a h j) (seen ++ params_of r)) =
      subst AreFine (places_in-out funcs r (within a h j) seen) (fine_front (places_in funcs r (within a h j) seen) (places_held funcs rs a h (j + 1) seen) fine) in
      let q : Region × List Func = outlined_region funcs values r k in
      let inside : AreInScope seen (uses_inside q.0) (values_inside q.0) =
      subst (λ (x : Region × List Func). AreInScope seen (uses_inside x.0) (values_inside x.0)) (sym (region_is r k)) (region_scope seen (params_of r) (ops_out (ops_of r) k).0 (in_scope ops k (within a h j) (seen ++ params_of r) here)) in
      (inside, in_scope rest (k + length q.1) a h (j + 1) seen (fine_rest (places_in funcs r (within a h j) seen) (places_held funcs rs a h (j + 1) seen) fine))

pub outlined_in_scope : OutlinedInScope
outlined_in_scope level funcs values os from to prints k around seen fine = in_scope level funcs values prints k around seen fine
