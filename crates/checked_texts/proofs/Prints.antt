-- Operations that are formed, break nothing and are numbered in order print.
use Rattle.std.proofs.Common.{◌≡◌, ◌≤◌, ◌<◌, ℕ, zero, suc, ◌+◌, ◌-◌, ◌^◌, ◌==◌, cond, Bool, true, false, List, [], ◌∷◌, ◌++◌, map, length, Option, Some, None, slice_get, refl, sym, ap, ◌∙◌, subst, arith}
use Rattle.std.specs.List.{Contains, slice_index_or}
use Rattle.op_table.specs.declared.rows.Level.{Level}
use Rattle.ir_forms.specs.declared.ops.Op.{Op}
use Rattle.ir_forms.specs.declared.ops.Region.{Region}
use Rattle.ir_forms.specs.declared.ops.Func.{Func}
use Rattle.ir_forms.specs.declared.ops.ValueNo.{ValueNo}
use Rattle.ir_forms.specs.declared.types.Ty.{Ty}
use Rattle.ir_forms.specs.Ops.{operands_of, results_of, regions_of, ops_of}
use Rattle.ir_verify.specs.Places.{Around, Place, Spot, Seen, types_of, defined, is_none_left, within, place_of, places_at, places_in, places_along, places_held}
use Rattle.ir_verify.specs.Scopes.{lookup}
use Rattle.ir_verify.proofs.PlaceLemmas.{places_at-out, places_in-out}
use Rattle.source_meaning.specs.Parts.{joined, names_of}
use Rattle.value_numbers.specs.Numbers.{values_in, values_inside}
use Rattle.sound_laws.specs.Extended.{IsFine, AreFine}
use Rattle.sound_laws.specs.Made.{Runs, values_along}
use Rattle.sound_laws.proofs.Facts.{Reads, reads}
use Rattle.sound_laws.proofs.Numbered.{values_at, values_under}
use Rattle.sound_laws.proofs.Sight.{equal}
use Rattle.sound_laws.proofs.Sound.{fine_front, fine_rest}
use Rattle.mlir_print.specs.Printable.{AreSeen, NumberOn, Part, Ops, Regions, Prints, Scope, defining, no_ops, no_regions, numbers, operation, params_of, region}
use Rattle.checked_texts.proofs.Formed.{Formed, formed, formed_none, formed_no_regions, formed_region}

abbrev pub sight : Seen → List ℕ
sight seen = map (λ e. e.0.0) seen

pub sight_both : (xs ys : Seen) → sight (xs ++ ys) ≡ sight xs ++ sight ys
sight_both [] ys = refl
sight_both (x ∷ xs) ys = ap (λ rest. x.0.0 ∷ rest) (sight_both xs ys)

sight_defined : (vs : List ValueNo) (ts : List Ty) → sight (defined vs ts) ≡ numbers vs
sight_defined [] ts = refl
sight_defined (v ∷ vs) [] = ap (λ rest. v.0 ∷ rest) (sight_defined vs [])
sight_defined (v ∷ vs) (t ∷ ts) = ap (λ rest. v.0 ∷ rest) (sight_defined vs ts)

pub sight_params : (ps : Seen) → sight ps ≡ numbers (map (λ p. p.0) ps)
sight_params [] = refl
sight_params (p ∷ ps) = ap (λ rest. p.0.0 ∷ rest) (sight_params ps)

visible_in : (seen : Seen) (v : ℕ) (t : Ty) → lookup seen v ≡ Some t → Contains (sight seen) v
visible_in [] v t is = cc
visible_in (e ∷ seen) v t is = step (e.0.0 == v) refl is (visible_in seen v t)
  where
    step : (b : Bool) → (e.0.0 == v) ≡ b → cond b (Some e.1) (lookup seen v) ≡ Some t → (lookup seen v ≡ Some t → Contains (sight seen) v) → Contains (e.0.0 ∷ sight seen) v
    step true is found again = (0, omega arith, equal e.0.0 v is)
    step false is found again = let c : Contains (sight seen) v = again found in (suc c.0, omega (arith, c.1), c.2)

are_seen : (s : Spot) (fine : IsFine s) (vs : List ValueNo) → ((i : ℕ) (v : ValueNo) → slice_get vs i ≡ Some v → (j : ℕ) × (slice_get (operands_of s.place.op) j ≡ Some v)) → AreSeen (sight s.seen) vs
are_seen s fine [] h = tt
are_seen s fine (v ∷ vs) h =
    let at : (j : ℕ) × (slice_get (operands_of s.place.op) j ≡ Some v) = h 0 v refl in
    let r : Reads s fine at.0 v = reads s fine at.0 v at.1 in
    (visible_in s.seen v.0 r.type r.visible, are_seen s fine vs (λ i w at. h (suc i) w at))

pub runs_end : (a b : ℕ) (vs : List ValueNo) → Runs a b vs → a + length vs ≡ b
runs_end a b [] h = let e : a ≡ b = h in omega (arith, e)
runs_end a b (v ∷ vs) h = let e : a + 1 + length vs ≡ b = runs_end (a + 1) b vs h.1 in omega (arith, e)

pub runs_split : (a c : ℕ) (xs ys : List ValueNo) → Runs a c (xs ++ ys) → (b : ℕ) × Runs a b xs × Runs b c ys
runs_split a c [] ys h = (a, refl, h)
runs_split a c (x ∷ xs) ys h = let again : (b : ℕ) × Runs (a + 1) b xs × Runs b c ys = runs_split (a + 1) c xs ys h.1 in (again.0, (h.0, again.1), again.2)

pub number_on : (n b : ℕ) (vs : List ValueNo) → Runs n b vs → b ≤ 2 ^ 32 - 1 → NumberOn n vs
number_on n b [] h le = tt
number_on n b (v ∷ vs) h le = (h.0, (let e : n + 1 + length vs ≡ b = runs_end (n + 1) b vs h.1 in omega (arith, e, le)), number_on (n + 1) b vs h.1 le)

-- the part prints, from these visible numbers on and up to a next number
pub record Printed (level : Level) (part : Part) (next : ℕ) (seen : List ℕ) (m : ℕ) : Type 0 where
  pub end : Scope
  pub prints : Prints level part (record { next = next; seen = seen }) end
  pub next_is : end.next ≡ m

module _ (level : Level) (funcs : List Func) where
  abbrev Print : Part → Type 0
  Print (Ops os) = (n m : ℕ) (a : Around) (seen : Seen) → Runs n m (values_along os) → m ≤ 2 ^ 32 - 1 → AreFine (places_along funcs os a seen) → Printed level (Ops os) n (sight seen) m
  Print (Regions o i rs) = (n m : ℕ) (a : Around) (k : ℕ) (seen : Seen) → Runs n m (joined (map values_inside rs)) → m ≤ 2 ^ 32 - 1 → AreFine (places_held funcs rs a o k seen) → Printed level (Regions o i rs) n (sight seen) m

  pub print : {part : Part} → Formed level part → Print part
  print formed_none = λ n m a seen run le fine. record { end = record { next = n; seen = sight seen }; prints = no_ops (record { next = n; seen = sight seen }); next_is = run }
  print (formed o os stands form at regions rest) = λ n m a seen run le fine.
      let after : Seen = seen ++ defined (results_of o) (types_of o) in
      let here : AreFine (record { seen = seen; place = place_of funcs a (is_none_left os) o } ∷ places_held funcs (regions_of o) a o 0 seen) =
      subst AreFine (places_at-out funcs o a seen (is_none_left os)) (fine_front (places_at funcs o a seen (is_none_left os)) (places_along funcs os a after) fine) in
      let one : (b : ℕ) × Runs n b (values_in o) × Runs b m (values_along os) = runs_split n m (values_in o) (values_along os) run in
      let two : (b : ℕ) × Runs n b (results_of o) × Runs b one.0 (joined (map values_inside (regions_of o))) =
      runs_split n one.0 (results_of o) (joined (map values_inside (regions_of o))) (subst (Runs n one.0) (values_at o) one.1) in
      let up : one.0 ≤ 2 ^ 32 - 1 = let e : one.0 + length (values_along os) ≡ m = runs_end one.0 m (values_along os) one.2 in omega (arith, e, le) in
      let up_results : two.0 ≤ 2 ^ 32 - 1 =
      let e : two.0 + length (joined (map values_inside (regions_of o))) ≡ one.0 = runs_end two.0 one.0 (joined (map values_inside (regions_of o))) two.2 in omega (arith, e, up) in
      let inner : Printed level (Regions o 0 (regions_of o)) two.0 (sight seen) one.0 = print regions two.0 one.0 a 0 seen two.2 up here.1 in
      let more : Printed level (Ops os) one.0 (sight after) m = print rest one.0 m a after one.2 le (fine_rest (places_at funcs o a seen (is_none_left os)) (places_along funcs os a after) fine) in
      let begin : n + length (results_of o) ≡ two.0 = runs_end n two.0 (results_of o) two.1 in
      let same : sight after ≡ sight seen ++ numbers (results_of o) = sight_both seen (defined (results_of o) (types_of o)) ∙ ap (λ xs. sight seen ++ xs) (sight_defined (results_of o) (types_of o)) in
      record {
        end = more.end;
        prints =
            operation o os (record { next = n; seen = sight seen }) inner.end more.end stands form at (number_on n two.0 (results_of o) two.1 up_results)
            (are_seen (record { seen = seen; place = place_of funcs a (is_none_left os) o }) here.0 (operands_of o) (λ i v at. (i, at)))
            (subst (λ k. Prints level (Regions o 0 (regions_of o)) (record { next = k; seen = sight seen }) inner.end) (sym begin) inner.prints)
            (subst (λ k. Prints level (Ops os) (record { next = k; seen = sight seen ++ numbers (results_of o) }) more.end) (sym inner.next_is)
            (subst (λ xs. Prints level (Ops os) (record { next = one.0; seen = xs }) more.end) same more.prints));
        next_is = more.next_is;
      }
  print (formed_no_regions o i) = λ n m a k seen run le fine. record { end = record { next = n; seen = sight seen }; prints = no_regions o i (record { next = n; seen = sight seen }); next_is = run }
  print (formed_region o i r rs ended ops rest) = λ n m a k seen run le fine.
      let inside : Seen = seen ++ params_of r in
      let here : AreFine (places_along funcs (ops_of r) (within a o k) inside) =
      subst AreFine (places_in-out funcs r (within a o k) seen) (fine_front (places_in funcs r (within a o k) seen) (places_held funcs rs a o (k + 1) seen) fine) in
      let one : (b : ℕ) × Runs n b (values_inside r) × Runs b m (joined (map values_inside rs)) = runs_split n m (values_inside r) (joined (map values_inside rs)) run in
      let two : (b : ℕ) × Runs n b (names_of (params_of r)) × Runs b one.0 (values_along (ops_of r)) =
      runs_split n one.0 (names_of (params_of r)) (values_along (ops_of r)) (subst (Runs n one.0) (values_under r) one.1) in
      let up : one.0 ≤ 2 ^ 32 - 1 = let e : one.0 + length (joined (map values_inside rs)) ≡ m = runs_end one.0 m (joined (map values_inside rs)) one.2 in omega (arith, e, le) in
      let up_params : two.0 ≤ 2 ^ 32 - 1 = let e : two.0 + length (values_along (ops_of r)) ≡ one.0 = runs_end two.0 one.0 (values_along (ops_of r)) two.2 in omega (arith, e, up) in
      let inner : Printed level (Ops (ops_of r)) two.0 (sight inside) one.0 = print ops two.0 one.0 (within a o k) inside two.2 up here in
      let more : Printed level (Regions o (i + 1) rs) one.0 (sight seen) m = print rest one.0 m a (k + 1) seen one.2 le (fine_rest (places_in funcs r (within a o k) seen) (places_held funcs rs a o (k + 1) seen) fine) in
      let begin : n + length (names_of (params_of r)) ≡ two.0 = runs_end n two.0 (names_of (params_of r)) two.1 in
      let same : sight inside ≡ sight seen ++ numbers (names_of (params_of r)) = sight_both seen (params_of r) ∙ ap (λ xs. sight seen ++ xs) (sight_params (params_of r)) in
      record {
        end = more.end;
        prints =
            region o i r rs (record { next = n; seen = sight seen }) inner.end more.end (number_on n two.0 (names_of (params_of r)) two.1 up_params) ended
            (subst (λ k. Prints level (Ops (ops_of r)) (record { next = k; seen = sight seen ++ numbers (names_of (params_of r)) }) inner.end) (sym begin)
            (subst (λ xs. Prints level (Ops (ops_of r)) (record { next = two.0; seen = xs }) inner.end) same inner.prints))
            (subst (λ k. Prints level (Regions o (i + 1) rs) (record { next = k; seen = sight seen }) more.end) (sym inner.next_is) more.prints);
        next_is = more.next_is;
      }
