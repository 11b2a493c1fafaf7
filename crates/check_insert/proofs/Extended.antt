-- A sound module with its checks is the module with sound operations inserted.
use Rattle.std.proofs.Common.{◌≡◌, ◌≤◌, ◌<◌, ℕ, zero, suc, ◌+◌, max, Bool, true, false, List, [], ◌∷◌, ◌++◌, map, length, Option, Some, None, slice_get, refl, sym, ap, ◌∙◌, subst, arith, append_assoc}
use Rattle.std.specs.Prelude.{nat_lt}
use Rattle.std.proofs.lemmas.Bool.Decides.{nat_tests}
use Rattle.op_table.specs.declared.rows.Level.TheVariants.{Checked}
use Rattle.ir_forms.specs.declared.ops.Op.{Op, Op-F, out-Op, roll-Op, out-roll-Op}
use Rattle.ir_forms.specs.declared.ops.Op.TheFolds.{fold_out-Op, fold_out-Region, ind-Region}
use Rattle.ir_forms.specs.declared.ops.Region.{Region, Region-F, out-Region, roll-Region, out-roll-Region}
use Rattle.ir_forms.specs.declared.ops.Func.{Func}
use Rattle.ir_forms.specs.declared.ops.Module.{Module}
use Rattle.ir_forms.specs.declared.ops.ValueNo.{ValueNo}
use Rattle.ir_forms.specs.declared.types.Ty.{Ty}
use Rattle.ir_forms.specs.Numbers.{Numbering, in_turn, joined}
use Rattle.ir_forms.specs.Ops.{kind_of, operands_of, written_of, results_of, attr_of, regions_of, ops_of}
use Rattle.ir_verify.specs.Places.{Around, Seen, params_of, types_of, defined, is_none_left, within, in_body, place_of, places_at, places_in, places_along, places_held}
use Rattle.ir_verify.specs.Rules.{groups_of}
use Rattle.ir_verify.specs.Scopes.{lookup}
use Rattle.ir_verify.specs.Verdict.{IsSound, body_places}
use Rattle.ir_verify.proofs.PlaceLemmas.{places_at-out, places_in-out}
use Rattle.made_ops.specs.Made.{begun}
use Rattle.made_ops.specs.declared.insertion.Insertion.{Insertion}
use Rattle.check_insert.specs.declared.guard.Guard.{Guard}
use Rattle.check_insert.specs.declared.guard.Guard.TheVariants as guard
use Rattle.check_insert.specs.Shape.{above, above_op, above_params, above_region, checked, checked_func, checked_op, checked_region, first_free, greatest, guard_of, guarded, op_above, op_checked, region_above, region_checked}
use Rattle.sound_laws.specs.Extended.{AreFine, Names, IsDistinct, AreOwn, AreOwnParams, IsKept, Ops, Regions, Extends, no_ops, inserts, keeps, no_regions, region, IsExtended}
use Rattle.sound_laws.specs.Laws.{AreExtended}
use Rattle.sound_laws.specs.Made.{behind, below, Runs, values_along, AreMade, IsGood, Grows}
use Rattle.sound_laws.proofs.Sight.{Sees, sees_none, sees_own, sees_new, own_found, own_defined, lookup_append, or_else}
use Rattle.sound_laws.proofs.Sound.{fine_front, fine_rest}
use Rattle.sound_laws.proofs.Whole.{same_values, same_params, sound_fine}
use Rattle.source_meaning.specs.Parts.{names_of}
use Rattle.value_numbers.specs.Numbers.{values_in, values_inside, values_of}
use Rattle.sound_laws.proofs.Making.{nothing_more, values_both}
use Rattle.sound_laws.proofs.Merges.{Merges, all_merged, merged_both, merged_new, merged_old}
use Rattle.sound_laws.proofs.Numbered.{values_at, values_under}
use Rattle.check_insert.proofs.Guards.{guarded_good}

-- ---- numbers below the first free one

least_left : (a b n : ℕ) → max a b ≤ n → a ≤ n
least_left a b n h = omega (arith, h)

least_right : (a b n : ℕ) → max a b ≤ n → b ≤ n
least_right a b n h = omega (arith, h)

is_below : (v n : ℕ) → v + 1 ≤ n → nat_lt v n ≡ true
is_below v n h = grind (arith, nat_tests)

below_is : (v n : ℕ) → nat_lt v n ≡ true → v < n
below_is v n h = grind (arith, nat_tests)

own_above : (first : ℕ) (vs : List ValueNo) → above vs ≤ first → AreOwn (below first) vs
own_above first [] h = tt
own_above first (v ∷ vs) h = (is_below v.0 first (least_left (v.0 + 1) (above vs) first h), own_above first vs (least_right (v.0 + 1) (above vs) first h))

own_above_params : (first : ℕ) (ps : Seen) → above_params ps ≤ first → AreOwnParams (below first) ps
own_above_params first [] h = tt
own_above_params first (p ∷ ps) h = (is_below p.0.0 first (least_left (p.0.0 + 1) (above_params ps) first h), own_above_params first ps (least_right (p.0.0 + 1) (above_params ps) first h))

-- ---- the parts of what is made

-- the operation with other regions
abbrev with_regions : Op → List Region → Op
with_regions o rs = roll-Op (record { kind = kind_of o; at = (out-Op o).at; operands = operands_of o; groups = groups_of o; written = written_of o; results = results_of o; types = types_of o; attr = attr_of o; regions = rs })

abbrev before : Op → ℕ → Insertion
before o free = guarded (guard_of (kind_of o)) (out-Op o) (begun (out-Op o).at free)

guarded_same : (g : Guard) (o : Op) (rs : List (Numbering Region)) (i : Insertion) →
    guarded g (let n : Op-F (Numbering (List Op)) (Numbering Region) = record { kind = kind_of o; at = (out-Op o).at; operands = operands_of o; groups = groups_of o; written = written_of o; results = results_of o; types = types_of o; attr = attr_of o; regions = rs } in n) i
    ≡ guarded g (out-Op o) i
guarded_same guard.Nothing o rs i = refl
guarded_same g o rs i = refl

op_out : (o : Op) (free : ℕ) → checked_op o free ≡ (
  (before o free).ops ++ with_regions o (in_turn (map checked_region (regions_of o)) (before o free).free).0 ∷ [],
  (in_turn (map checked_region (regions_of o)) (before o free).free).1,
)
op_out o free =
    ap (λ (f : Numbering (List Op)). f free) (fold_out-Op (Numbering (List Op)) (Numbering Region) op_checked region_checked o)
    ∙ ap (λ (i : Insertion). (i.ops ++ with_regions o (in_turn (map checked_region (regions_of o)) i.free).0 ∷ [], (in_turn (map checked_region (regions_of o)) i.free).1))
    (guarded_same (guard_of (kind_of o)) o (map checked_region (regions_of o)) (begun (out-Op o).at free))

region_out : (r : Region) (free : ℕ) → checked_region r free ≡ (
  roll-Region (record { params = params_of r; ops = joined (in_turn (map checked_op (ops_of r)) free).0 }),
  (in_turn (map checked_op (ops_of r)) free).1,
)
region_out r free = ap (λ (f : Numbering Region). f free) (fold_out-Region (Numbering (List Op)) (Numbering Region) op_checked region_checked r)

pub above_op_out : (o : Op) → above_op o ≡ max (above (results_of o)) (greatest (map above_region (regions_of o)))
above_op_out o = fold_out-Op ℕ ℕ op_above region_above o

pub above_region_out : (r : Region) → above_region r ≡ max (above_params (params_of r)) (greatest (map above_op (ops_of r)))
above_region_out r = fold_out-Region ℕ ℕ op_above region_above r

module _ (funcs more : List Func) (first : ℕ) where
  abbrev names : Names
  names = below first

  abbrev Ext : List Op → List Op → Seen → Type 0
  Ext os ps now = Extends more Checked names (Ops os) (Ops ps) now

  distinct : IsDistinct names
  distinct v w a b e = e

  -- all that is visible is below the next number
  abbrev Bounded : Seen → ℕ → Type 0
  Bounded now free = (v : ℕ) (t : Ty) → lookup now v ≡ Some t → v < free

  bounded_own : (now d : Seen) (free : ℕ) → first ≤ free → Bounded now free → AreOwnParams names d → Bounded (now ++ d) free
  bounded_own now d free le bounded own v t is = step (lookup now v) refl (sym (lookup_append now d v) ∙ is)
    where
      step : (o : Option Ty) → lookup now v ≡ o → or_else o (lookup d v) ≡ Some t → v < free
      step (Some u) there e = bounded v u there
      step None there e = let low : v < first = below_is v first (own_found names distinct d v t own e) in omega (arith, low, le)

  sees_made : (seen now : Seen) (os : List Op) → AreMade more Checked first now os → Sees names seen now → Sees names seen (behind now os)
  sees_made seen now [] made sees = sees
  sees_made seen now (o ∷ os) made sees = sees_made seen (now ++ defined (results_of o) (types_of o)) os made.2 (sees_new names distinct seen now (results_of o) (types_of o) sees made.1)

  insert_all : (o : Op) (os qs made : List Op) (now : Seen) → AreMade more Checked first now made → Ext (o ∷ os) qs (behind now made) → Ext (o ∷ os) (made ++ qs) now
  insert_all o os qs [] now h rest = rest
  insert_all o os qs (x ∷ made) now h rest = inserts x o os (made ++ qs) now h.0 h.1 (insert_all o os qs made (now ++ defined (results_of x) (types_of x)) h.2 rest)

  -- an operation behind its insertion
  record OpDone (o : Op) (free : ℕ) (seen now : Seen) : Type 0 where
    made : List Op
    op : Op
    are : (checked_op o free).0 ≡ made ++ op ∷ []
    sound : AreMade more Checked first now made
    kept : IsKept names o op
    own : AreOwn names (results_of o)
    regions : Extends more Checked names (Regions (regions_of o)) (Regions (regions_of op)) (behind now made)
    later : free ≤ (checked_op o free).1
    sees : Sees names (seen ++ defined (results_of o) (types_of o)) (behind now made ++ defined (results_of op) (types_of op))
    bounded : Bounded (behind now made ++ defined (results_of op) (types_of op)) (checked_op o free).1
    merged : Merges (values_in o) free (checked_op o free).1 (values_along (checked_op o free).0)

  -- a region with its checks
  record RegionDone (r : Region) (free : ℕ) (now : Seen) : Type 0 where
    params : params_of (checked_region r free).0 ≡ params_of r
    own : AreOwnParams names (params_of r)
    ops : Ext (ops_of r) (ops_of (checked_region r free).0) (now ++ params_of (checked_region r free).0)
    later : free ≤ (checked_region r free).1
    merged : Merges (values_inside r) free (checked_region r free).1 (values_inside (checked_region r free).0)

  abbrev OfOp : Op → Type 0
  OfOp o = (a : Around) (seen now : Seen) (free : ℕ) (last : Bool) → first ≤ free → Sees names seen now → Bounded now free → above_op o ≤ first → AreFine (places_at funcs o a seen last) → OpDone o free seen now

  abbrev OfRegion : Region → Type 0
  OfRegion r = (a : Around) (seen now : Seen) (free : ℕ) → first ≤ free → Sees names seen now → Bounded now free → above_region r ≤ first → AreFine (places_in funcs r a seen) → RegionDone r free now

  abbrev MergesRegions : List Region → ℕ → Type 0
  MergesRegions rs free = Merges (joined (map values_inside rs)) free (in_turn (map checked_region rs) free).1 (joined (map values_inside (in_turn (map checked_region rs) free).0))

  abbrev MergesOps : List Op → ℕ → Type 0
  MergesOps os free = Merges (values_along os) free (in_turn (map checked_op os) free).1 (values_along (joined (in_turn (map checked_op os) free).0))

  held : (regions : List ((r : Region) × OfRegion r)) (a : Around) (o : Op) (k : ℕ) (seen now : Seen) (free : ℕ) → first ≤ free → Sees names seen now → Bounded now free → greatest (map above_region (map (λ e. e.0) regions)) ≤ first →
      AreFine (places_held funcs (map (λ e. e.0) regions) a o k seen) →
      Extends more Checked names (Regions (map (λ e. e.0) regions)) (Regions (in_turn (map checked_region (map (λ e. e.0) regions)) free).0) now × (free ≤ (in_turn (map checked_region (map (λ e. e.0) regions)) free).1)
      × MergesRegions (map (λ e. e.0) regions) free
  held [] a o k seen now free le sees bounded low fine = (no_regions now, omega arith, all_merged free)
  held (e ∷ regions) a o k seen now free le sees bounded low fine =
      let rs : List Region = map (λ e. e.0) regions in
      let one : RegionDone e.0 free now =
      e.1 (within a o k) seen now free le sees bounded (least_left (above_region e.0) (greatest (map above_region rs)) first low) (fine_front (places_in funcs e.0 (within a o k) seen) (places_held funcs rs a o (k + 1) seen) fine) in
      let then : ℕ = (checked_region e.0 free).1 in
      let rest : Extends more Checked names (Regions rs) (Regions (in_turn (map checked_region rs) then).0) now × (then ≤ (in_turn (map checked_region rs) then).1) × MergesRegions rs then =
      held regions a o (k + 1) seen now then (omega (arith, le, one.later)) sees (λ v t is. let under : v < free = bounded v t is in omega (arith, under, one.later))
      (least_right (above_region e.0) (greatest (map above_region rs)) first low) (fine_rest (places_in funcs e.0 (within a o k) seen) (places_held funcs rs a o (k + 1) seen) fine) in (
        region e.0 (checked_region e.0 free).0 rs (in_turn (map checked_region rs) then).0 now (one.params ∙ same_params (params_of e.0)) one.own one.ops rest.0,
        omega (arith, one.later, rest.1),
        merged_both (in_turn (map checked_region rs) then).1 (joined (map values_inside rs)) (joined (map values_inside (in_turn (map checked_region rs) then).0)) one.merged rest.2,
      )

  along : (ops : List ((o : Op) × OfOp o)) (a : Around) (seen now : Seen) (free : ℕ) → first ≤ free → Sees names seen now → Bounded now free → greatest (map above_op (map (λ e. e.0) ops)) ≤ first →
      AreFine (places_along funcs (map (λ e. e.0) ops) a seen) →
      Ext (map (λ e. e.0) ops) (joined (in_turn (map checked_op (map (λ e. e.0) ops)) free).0) now × (free ≤ (in_turn (map checked_op (map (λ e. e.0) ops)) free).1)
      × MergesOps (map (λ e. e.0) ops) free
  along [] a seen now free le sees bounded low fine = (no_ops now, omega arith, all_merged free)
  along (e ∷ ops) a seen now free le sees bounded low fine =
      let os : List Op = map (λ e. e.0) ops in
      let after : Seen = seen ++ defined (results_of e.0) (types_of e.0) in
      let one : OpDone e.0 free seen now =
      e.1 a seen now free (is_none_left os) le sees bounded (least_left (above_op e.0) (greatest (map above_op os)) first low) (fine_front (places_at funcs e.0 a seen (is_none_left os)) (places_along funcs os a after) fine) in
      let then : ℕ = (checked_op e.0 free).1 in
      let others : List Op = joined (in_turn (map checked_op os) then).0 in
      let now2 : Seen = behind now one.made ++ defined (results_of one.op) (types_of one.op) in
      let rest : Ext os others now2 × (then ≤ (in_turn (map checked_op os) then).1) × MergesOps os then =
      along ops a after now2 then (omega (arith, le, one.later)) one.sees one.bounded (least_right (above_op e.0) (greatest (map above_op os)) first low) (fine_rest (places_at funcs e.0 a seen (is_none_left os)) (places_along funcs os a after) fine) in
      let here : Ext (e.0 ∷ os) (one.op ∷ others) (behind now one.made) = keeps e.0 one.op os others (behind now one.made) one.kept one.own one.regions rest.0 in
      let whole : (checked_op e.0 free).0 ++ others ≡ one.made ++ (one.op ∷ others) = ap (λ (xs : List Op). xs ++ others) one.are ∙ append_assoc one.made (one.op ∷ []) others in (
        subst (λ (qs : List Op). Ext (e.0 ∷ os) qs now) (sym whole) (insert_all e.0 os (one.op ∷ others) one.made now one.sound here),
        omega (arith, one.later, rest.1),
        subst (Merges (values_in e.0 ++ values_along os) free (in_turn (map checked_op os) then).1) (sym (values_both (checked_op e.0 free).0 others))
            (merged_both (in_turn (map checked_op os) then).1 (values_along os) (values_along others) one.merged rest.2),
      )

  of_op : (o : Op) (regions : List ((r : Region) × OfRegion r)) → regions_of o ≡ map (λ e. e.0) regions → OfOp o
  of_op o regions are = λ a seen now free last le sees bounded low fine.
      let was : AreFine (record { seen = seen; place = place_of funcs a last o } ∷ places_held funcs (regions_of o) a o 0 seen) = subst AreFine (places_at-out funcs o a seen last) fine in
      let lows : max (above (results_of o)) (greatest (map above_region (regions_of o))) ≤ first = subst (λ n. n ≤ first) (above_op_out o) low in
      let start : IsGood more Checked first now (begun (out-Op o).at free) = record { made = tt; bounded = bounded; above = le; known = tt } in
      let grown : Grows more Checked first now (begun (out-Op o).at free) (before o free) = guarded_good more first funcs a last o seen now was.0 sees (kind_of o) refl (begun (out-Op o).at free) start in
      let i : Insertion = before o free in
      let here : Seen = behind now i.ops in
      let inner : Extends more Checked names (Regions (map (λ e. e.0) regions)) (Regions (in_turn (map checked_region (map (λ e. e.0) regions)) i.free).0) here × (i.free ≤ (in_turn (map checked_region (map (λ e. e.0) regions)) i.free).1) × MergesRegions (map (λ e. e.0) regions) i.free =
      held regions a o 0 seen here i.free grown.good.above (sees_made seen now i.ops grown.good.made sees) grown.good.bounded
      (subst (λ (rs : List Region). greatest (map above_region rs) ≤ first) are (least_right (above (results_of o)) (greatest (map above_region (regions_of o))) first lows))
      (subst (λ (rs : List Region). AreFine (places_held funcs rs a o 0 seen)) are was.1) in
      let inside : Extends more Checked names (Regions (regions_of o)) (Regions (in_turn (map checked_region (regions_of o)) i.free).0) here × (i.free ≤ (in_turn (map checked_region (regions_of o)) i.free).1) × MergesRegions (regions_of o) i.free =
      subst (λ (rs : List Region). Extends more Checked names (Regions rs) (Regions (in_turn (map checked_region rs) i.free).0) here × (i.free ≤ (in_turn (map checked_region rs) i.free).1) × MergesRegions rs i.free) (sym are) inner in
      let p : Op = with_regions o (in_turn (map checked_region (regions_of o)) i.free).0 in
      let e : out-Op p ≡ record { kind = kind_of o; at = (out-Op o).at; operands = operands_of o; groups = groups_of o; written = written_of o; results = results_of o; types = types_of o; attr = attr_of o; regions = (in_turn (map checked_region (regions_of o)) i.free).0 } = out-roll-Op _ in
      let kept : IsKept names o p = record {
        kind = ap (λ (n : Op-F Op Region). n.kind) e;
        operands = ap (λ (n : Op-F Op Region). n.operands) e ∙ same_values (operands_of o);
        groups = ap (λ (n : Op-F Op Region). n.groups) e;
        written = ap (λ (n : Op-F Op Region). n.written) e;
        results = ap (λ (n : Op-F Op Region). n.results) e ∙ same_values (results_of o);
        types = ap (λ (n : Op-F Op Region). n.types) e;
        attr = ap (λ (n : Op-F Op Region). n.attr) e;
      } in
      let own : AreOwn names (results_of o) = own_above first (results_of o) (least_left (above (results_of o)) (greatest (map above_region (regions_of o))) first lows) in
      let end : ℕ = (in_turn (map checked_region (regions_of o)) i.free).1 in
      let last_is : (checked_op o free).1 ≡ end = ap (λ (x : List Op × ℕ). x.1) (op_out o free) in
      let same : defined (results_of p) (types_of p) ≡ defined (results_of o) (types_of o) =
      ap (λ (vs : List ValueNo). defined vs (types_of p)) (ap (λ (n : Op-F Op Region). n.results) e) ∙ ap (λ (ts : List Ty). defined (results_of o) ts) (ap (λ (n : Op-F Op Region). n.types) e) in
      let owned : AreOwnParams names (defined (results_of o) (types_of o)) = own_defined names (results_of o) (types_of o) own in
      let rs : List Region = (in_turn (map checked_region (regions_of o)) i.free).0 in
      let kept_values : values_in p ≡ results_of o ++ joined (map values_inside rs) =
      values_at p ∙ ap (λ (vs : List ValueNo). vs ++ joined (map values_inside (regions_of p))) (ap (λ (n : Op-F Op Region). n.results) e) ∙ ap (λ (xs : List Region). results_of o ++ joined (map values_inside xs)) (ap (λ (n : Op-F Op Region). n.regions) e) in
      let of_kept : Merges (values_in o) i.free end (values_in p ++ []) =
      subst (λ (us : List ValueNo). Merges us i.free end (values_in p ++ [])) (sym (values_at o))
      (subst (Merges (results_of o ++ joined (map values_inside (regions_of o))) i.free end) (sym (nothing_more (values_in p) ∙ kept_values))
      (merged_both end (joined (map values_inside (regions_of o))) (joined (map values_inside rs)) (merged_old (results_of o) i.free) inside.2)) in
      let of_made : Merges [] free i.free (values_along i.ops) = merged_new (values_along i.ops) free i.free (subst (λ (os : List Op). Runs free i.free (values_along os)) (sym grown.are) grown.numbers) in
      let merged : Merges (values_in o) free end (values_along (i.ops ++ p ∷ [])) =
      subst (Merges (values_in o) free end) (sym (values_both i.ops (p ∷ []))) (merged_both end (values_in o) (values_in p ++ []) of_made of_kept) in
      record {
        merged = subst (λ (x : List Op × ℕ). Merges (values_in o) free x.1 (values_along x.0)) (sym (op_out o free)) merged;
        made = i.ops;
        op = p;
        are = ap (λ (x : List Op × ℕ). x.0) (op_out o free);
        sound = grown.good.made;
        kept = kept;
        own = own;
        regions = subst (λ (rs : List Region). Extends more Checked names (Regions (regions_of o)) (Regions rs) here) (sym (ap (λ (n : Op-F Op Region). n.regions) e)) inside.0;
        later = subst (λ n. free ≤ n) (sym last_is) (omega (arith, grown.free, inside.1));
        sees = subst (λ (d : Seen). Sees names (seen ++ defined (results_of o) (types_of o)) (here ++ d)) (sym (same ∙ same_params (defined (results_of o) (types_of o))))
            (sees_own names distinct seen here (defined (results_of o) (types_of o)) (sees_made seen now i.ops grown.good.made sees) owned);
        bounded = subst (λ n. Bounded (here ++ defined (results_of p) (types_of p)) n) (sym last_is)
            (subst (λ (d : Seen). Bounded (here ++ d) end) (sym same)
            (bounded_own here (defined (results_of o) (types_of o)) end (omega (arith, grown.good.above, inside.1)) (λ v t is. let under : v < i.free = grown.good.bounded v t is in omega (arith, under, inside.1)) owned));
      }

  of_region : (r : Region) (ops : List ((o : Op) × OfOp o)) → ops_of r ≡ map (λ e. e.0) ops → OfRegion r
  of_region r ops are = λ a seen now free le sees bounded low fine.
      let was : AreFine (places_along funcs (ops_of r) a (seen ++ params_of r)) = subst AreFine (places_in-out funcs r a seen) fine in
      let lows : max (above_params (params_of r)) (greatest (map above_op (ops_of r))) ≤ first = subst (λ n. n ≤ first) (above_region_out r) low in
      let own : AreOwnParams names (params_of r) = own_above_params first (params_of r) (least_left (above_params (params_of r)) (greatest (map above_op (ops_of r))) first lows) in
      let here : Seen = now ++ params_of r in
      let inner : Ext (map (λ e. e.0) ops) (joined (in_turn (map checked_op (map (λ e. e.0) ops)) free).0) here × (free ≤ (in_turn (map checked_op (map (λ e. e.0) ops)) free).1) × MergesOps (map (λ e. e.0) ops) free =
      along ops a (seen ++ params_of r) here free le
      (subst (λ (d : Seen). Sees names (seen ++ params_of r) (now ++ d)) (sym (same_params (params_of r))) (sees_own names distinct seen now (params_of r) sees own))
      (bounded_own now (params_of r) free le bounded own)
      (subst (λ (os : List Op). greatest (map above_op os) ≤ first) are (least_right (above_params (params_of r)) (greatest (map above_op (ops_of r))) first lows))
      (subst (λ (os : List Op). AreFine (places_along funcs os a (seen ++ params_of r))) are was) in
      let inside : Ext (ops_of r) (joined (in_turn (map checked_op (ops_of r)) free).0) here × (free ≤ (in_turn (map checked_op (ops_of r)) free).1) × MergesOps (ops_of r) free =
      subst (λ (os : List Op). Ext os (joined (in_turn (map checked_op os) free).0) here × (free ≤ (in_turn (map checked_op os) free).1) × MergesOps os free) (sym are) inner in
      let made : Region-F Op Region = record { params = params_of r; ops = joined (in_turn (map checked_op (ops_of r)) free).0 } in
      let e : out-Region (checked_region r free).0 ≡ made = ap (λ (x : Region × ℕ). out-Region x.0) (region_out r free) ∙ out-roll-Region made in
      let params : params_of (checked_region r free).0 ≡ params_of r = ap (λ (l : Region-F Op Region). l.params) e in
      let end : ℕ = (in_turn (map checked_op (ops_of r)) free).1 in
      let values : values_inside (checked_region r free).0 ≡ names_of (params_of r) ++ values_along (joined (in_turn (map checked_op (ops_of r)) free).0) =
      values_under (checked_region r free).0 ∙ ap (λ (l : Region-F Op Region). names_of l.params ++ values_along l.ops) e in
      let merged : Merges (names_of (params_of r) ++ values_along (ops_of r)) free end (names_of (params_of r) ++ values_along (joined (in_turn (map checked_op (ops_of r)) free).0)) =
      merged_both end (values_along (ops_of r)) (values_along (joined (in_turn (map checked_op (ops_of r)) free).0)) (merged_old (names_of (params_of r)) free) inside.2 in
      record {
        merged = subst (λ n. Merges (values_inside r) free n (values_inside (checked_region r free).0)) (sym (ap (λ (x : Region × ℕ). x.1) (region_out r free)))
            (subst (λ (us : List ValueNo). Merges us free end (values_inside (checked_region r free).0)) (sym (values_under r))
            (subst (Merges (names_of (params_of r) ++ values_along (ops_of r)) free end) (sym values) merged));
        params = params;
        own = own;
        ops = subst (λ (os : List Op). Ext (ops_of r) os (now ++ params_of (checked_region r free).0)) (sym (ap (λ (l : Region-F Op Region). l.ops) e))
            (subst (λ (ps : Seen). Ext (ops_of r) (joined (in_turn (map checked_op (ops_of r)) free).0) (now ++ ps)) (sym params) inside.0);
        later = subst (λ n. free ≤ n) (sym (ap (λ (x : Region × ℕ). x.1) (region_out r free))) inside.1;
      }

  region_done : (r : Region) → OfRegion r
  region_done = ind-Region OfOp OfRegion
      (λ x y is. of_op (roll-Op x) y.regions (ap (λ layer. layer.regions) (out-roll-Op x) ∙ sym (ap (λ layer. layer.regions) is)))
      (λ x y is. of_region (roll-Region x) y.ops (ap (λ layer. layer.ops) (out-roll-Region x) ∙ sym (ap (λ layer. layer.ops) is)))

-- ---- functions and modules

body_done : (funcs more : List Func) (f : Func) → AreFine (body_places funcs f false) → RegionDone funcs more (first_free f) f.body (first_free f) f.params
body_done funcs more f fine =
    let first : ℕ = first_free f in
    let names : Names = below first in
    let own : AreOwnParams names f.params = own_above_params first f.params (least_left (above_params f.params) (above_region f.body) first (omega arith)) in
    let heads : Sees names f.params f.params = subst (λ (d : Seen). Sees names f.params d) (sym (same_params f.params)) (sees_own names (λ v w a b e. e) [] [] f.params (sees_none names) own) in
    region_done funcs more first f.body (in_body f false) f.params f.params first (omega arith) heads (bounded_own funcs more first [] f.params first (omega arith) (λ v t is. cc) own)
    (least_right (above_params f.params) (above_region f.body) first (omega arith)) fine

func_done : (funcs more : List Func) (f : Func) → AreFine (body_places funcs f false) → IsExtended more Checked (below (first_free f)) f (checked_func f)
func_done funcs more f fine =
    let done : RegionDone funcs more (first_free f) f.body (first_free f) f.params = body_done funcs more f fine in
    record {
      name = refl;
      results = refl;
      params = same_params f.params;
      own = own_above_params (first_free f) f.params (least_left (above_params f.params) (above_region f.body) (first_free f) (omega arith));
      body_params = done.params ∙ same_params (params_of f.body);
      body_own = done.own;
      body = done.ops;
    }

-- what a function with its checks defines is what it defined, with the made values among it
pub func_merged : (funcs more : List Func) (f : Func) → AreFine (body_places funcs f false) → Merges (values_of f) (first_free f) (checked_region f.body (first_free f)).1 (values_of (checked_func f))
func_merged funcs more f fine =
    let done : RegionDone funcs more (first_free f) f.body (first_free f) f.params = body_done funcs more f fine in
    merged_both (checked_region f.body (first_free f)).1 (values_inside f.body) (values_inside (checked_region f.body (first_free f)).0) (merged_old (names_of f.params) (first_free f)) done.merged

abbrev pub first_at : Option Func → ℕ
first_at None = 0
first_at (Some f) = first_free f

abbrev pub checked_names : List Func → ℕ → Names
checked_names funcs k = below (first_at (slice_get funcs k))

count_mapped : {X Y : Type 0} (h : X → Y) (xs : List X) → length (map h xs) ≡ length xs
count_mapped h [] = refl
count_mapped h (x ∷ xs) = ap suc (count_mapped h xs)

mapped : {X Y : Type 0} (h : X → Y) (xs : List X) (k : ℕ) (x : X) (y : Y) → slice_get xs k ≡ Some x → slice_get (map h xs) k ≡ Some y → h x ≡ y
mapped h [] k x y p q = cc
mapped h (z ∷ xs) zero x y p q = let e : z ≡ x = cc in let f : h z ≡ y = cc in ap h (sym e) ∙ f
mapped h (z ∷ xs) (suc k) x y p q = mapped h xs k x y p q

pub checked_extends : (program : Module) → IsSound program.funcs → AreExtended Checked (checked_names program.funcs) program.funcs (checked program).funcs
checked_extends program sound = record {
  count = count_mapped checked_func program.funcs;
  distinct = λ k v w a b e. e;
  each = λ k f g p q.
      let done : IsExtended (checked program).funcs Checked (below (first_free f)) f (checked_func f) = func_done program.funcs (checked program).funcs f (sound_fine program.funcs sound k f p) in
      subst (λ (o : Option Func). IsExtended (checked program).funcs Checked (below (first_at o)) f g) (sym p) (subst (λ (h : Func). IsExtended (checked program).funcs Checked (below (first_free f)) f h) (mapped checked_func program.funcs k f g p q) done);
}
