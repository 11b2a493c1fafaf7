-- From the tables to the first race.
use Rattle.std.proofs.Common.{◌≡◌, ℕ, zero, suc, ◌+◌, ◌-◌, ◌<◌, ◌≤◌, Bool, true, false, cond, List, [], ◌∷◌, ◌++◌, length, take, refl, sym, ap, subst, ◌∙◌, arith, Option, Some, None, add-one}
use Rattle.std.specs.Prelude.{max, not, nat_le, ◌&&◌, slice_get, ◌⊎◌, ⊤}
use mathlib.Core.Logic.{inl, inr}
use Rattle.std.proofs.Math.Nat.{eq-or-lt_of_le}
use Rattle.std.proofs.lemmas.Slice.Eq.{bytes_eq-Decides}
use Rattle.ir_forms.specs.declared.names.Action.{Action}
use Rattle.ir_forms.specs.declared.names.Action.TheVariants.{Add, JoinAll, Await, AwaitAll}
use Rattle.ir_forms.specs.declared.names.MadeName.{MadeName}
use Rattle.ir_forms.specs.declared.names.TraceEntry.{TraceEntry}
use Rattle.ir_forms.specs.Names.{Path, same_path, same_made, maker, iteration_of}
use Rattle.race_order.specs.Known as known
use Rattle.race_order.specs.Known.{Counts, Sight, greatest, one_more, own, learned, known_by_members, known_by_all, added, makes, after_entry, after_entries, knows_nothing}
use Rattle.race_order.specs.Race.{entries_of, is_known, are_racing, races, IsAnswer}
use Rattle.race_order.specs.Sights.{sight}
use Rattle.race_order.specs.Touch.{touched, alike, races_by}
use Rattle.race_order.proofs.FirstRace.{within_or}
use Rattle.race_order.proofs.Meets.{meets, clash_meets}

-- ---- one entry more

take_next : (trace : List TraceEntry) (n : ℕ) (e : TraceEntry) → slice_get trace n ≡ Some e → take (suc n) trace ≡ take n trace ++ e ∷ []
take_next [] n e h = absurd (cc h)
take_next (d ∷ trace) zero e h = let same : d ≡ e = cc h in ap (λ x. x ∷ []) same
take_next (d ∷ trace) (suc n) e h = ap (λ t. d ∷ t) (take_next trace n e h)

entries_append : (trace more : List TraceEntry) (s : Sight) → after_entries (trace ++ more) s ≡ after_entries more (after_entries trace s)
entries_append [] more s = refl
entries_append (e ∷ trace) more s = entries_append trace more (after_entry e s)

pub sight_next : (trace : List TraceEntry) (n : ℕ) (e : TraceEntry) → slice_get trace n ≡ Some e → sight trace (n + 1) ≡ after_entry e (sight trace n)
sight_next trace n e h = rw add-one (ap (λ t. after_entries t knows_nothing) (take_next trace n e h) ∙ entries_append (take n trace) (e ∷ []) knows_nothing)

count_append : (p : Path) (trace : List TraceEntry) (e : TraceEntry) → entries_of p (trace ++ e ∷ []) ≡ cond (same_path e.task p) (suc (entries_of p trace)) (entries_of p trace)
count_append p [] e = refl
count_append p (d ∷ trace) e = both (same_path d.task p) (same_path e.task p) (count_append p trace e) where
  both : (a b : Bool) → entries_of p (trace ++ e ∷ []) ≡ cond b (suc (entries_of p trace)) (entries_of p trace) → cond a (suc (entries_of p (trace ++ e ∷ []))) (entries_of p (trace ++ e ∷ [])) ≡ cond b (suc (cond a (suc (entries_of p trace)) (entries_of p trace))) (cond a (suc (entries_of p trace)) (entries_of p trace))
  both true true h = ap suc h
  both true false h = ap suc h
  both false true h = h
  both false false h = h

pub count_next : (p : Path) (trace : List TraceEntry) (n : ℕ) (e : TraceEntry) → slice_get trace n ≡ Some e → entries_of p (take (n + 1) trace) ≡ cond (same_path e.task p) (suc (entries_of p (take n trace))) (entries_of p (take n trace))
count_next p trace n e h = rw add-one (ap (entries_of p) (take_next trace n e h) ∙ count_append p (take n trace) e)

-- ---- counts are at most the number of entries

AreFew : ℕ → List known.Added → Type 0
AreFew n [] = ⊤
AreFew n (a ∷ adds) = ((q : Path) → a.adder q ≤ n) × AreFew n adds

record IsFew (n : ℕ) (s : Sight) : Type 0 where
  knows : (p q : Path) → s.knows p q ≤ n
  taken : (p : Path) → s.taken p ≤ n
  adds : AreFew n s.adds

members_few : (n : ℕ) (g : MadeName) (s : Sight) (adds : List known.Added) (q : Path) → ((p q : Path) → s.knows p q ≤ n) → AreFew n adds → known_by_members g s adds q ≤ n
unfolding AreFew
members_few n g s [] q h k = omega arith
members_few n g s (a ∷ adds) q h k = both (same_made a.group g) (members_few n g s adds q h k.1) (h (maker a.element) q) (k.0 q) where
  both : (b : Bool) → known_by_members g s adds q ≤ n → s.knows (maker a.element) q ≤ n → a.adder q ≤ n → cond b (max (max (s.knows (maker a.element) q) (a.adder q)) (known_by_members g s adds q)) (known_by_members g s adds q) ≤ n
  both true x y z = omega (arith, x, y, z)
  both false x y z = x

all_few : (n : ℕ) (p : Path) (k m : ℕ) (s : Sight) (q : Path) → ((p q : Path) → s.knows p q ≤ n) → known_by_all p k m s q ≤ n
all_few n p k zero s q h = omega arith
all_few n p k (suc m) s q h = omega (arith, h (iteration_of p k m) q, all_few n p k m s q h)

learned_few : (a : Action) (n : ℕ) (p : Path) (s : Sight) (q : Path) → ((p q : Path) → s.knows p q ≤ n) → AreFew n s.adds → learned p a s q ≤ n
learned_few (Await x) n p s q h k = h (maker x) q
learned_few (AwaitAll g) n p s q h k = members_few n g s s.adds q h k
learned_few JoinAll n p s q h k = all_few n p (s.taken p) (s.turns p) s q h
learned_few _ n p s q h k = omega arith

own_few : (e : TraceEntry) (n : ℕ) (s : Sight) → IsFew n s → (q : Path) → own e s q ≤ suc n
own_few e n s h q = both (same_path e.task q) (h.knows e.task q) (learned_few e.action n e.task s q h.knows h.adds) where
  both : (b : Bool) → s.knows e.task q ≤ n → learned e.task e.action s q ≤ n → max (cond b (suc (s.knows e.task q)) (s.knows e.task q)) (learned e.task e.action s q) ≤ suc n
  both true x y = omega (arith, x, y)
  both false x y = omega (arith, x, y)

pick_few : (b c : Bool) (m : ℕ) (f g : Counts) → ((q : Path) → f q ≤ m) → ((q : Path) → g q ≤ m) → (q : Path) → (cond b f (cond c f g)) q ≤ m
pick_few true c m f g h k = h
pick_few false true m f g h k = h
pick_few false false m f g h k = k

adds_few_more : (n : ℕ) (adds : List known.Added) → AreFew n adds → AreFew (suc n) adds
unfolding AreFew
adds_few_more n [] h = h
adds_few_more n (a ∷ adds) h = ((λ q. omega (arith, h.0 q)), adds_few_more n adds h.1)

added_few : (a : Action) (n : ℕ) (f : Counts) (adds : List known.Added) → ((q : Path) → f q ≤ suc n) → AreFew n adds → AreFew (suc n) (added a f adds)
unfolding AreFew
added_few (Add g x used) n f adds h k = (h, adds_few_more n adds k)
added_few _ n f adds h k = adds_few_more n adds k

few_step : (e : TraceEntry) (n : ℕ) (s : Sight) → IsFew n s → IsFew (suc n) (after_entry e s)
few_step e n s h = record {
  knows = λ p q. pick_few (same_path e.task p) (makes e.action e.task (suc (s.taken e.task)) p) (suc n) (own e s) (s.knows p) (own_few e n s h) (λ r. omega (arith, h.knows p r)) q;
  taken = λ p. both (same_path e.task p) (s.taken p) (h.taken p);
  adds = added_few e.action n (own e s) s.adds (own_few e n s h) h.adds;
} where
  both : (b : Bool) (t : ℕ) → t ≤ n → cond b (suc t) t ≤ suc n
  both true t l = omega (arith, l)
  both false t l = omega (arith, l)

few_all : (trace : List TraceEntry) (m k : ℕ) (s : Sight) → m + length trace ≡ k → IsFew m s → IsFew k (after_entries trace s)
few_all [] m k s e h = subst (λ n. IsFew n s) (let f : m ≡ k = omega (arith, e) in f) h
few_all (d ∷ trace) m k s e h = few_all trace (suc m) k (after_entry d s) (omega (arith, e)) (few_step d m s h)

few_first : IsFew 0 knows_nothing
unfolding AreFew
few_first = record { knows = λ p q. omega arith; taken = λ p. omega arith; adds = tt }

take_few : (trace : List TraceEntry) (n : ℕ) → length (take n trace) ≤ n
take_few [] zero = omega arith
take_few [] (suc n) = omega arith
take_few (e ∷ trace) zero = omega arith
take_few (e ∷ trace) (suc n) = omega (arith, take_few trace n)

pub knows_few : (trace : List TraceEntry) (n : ℕ) (p q : Path) → (sight trace n).knows p q ≤ n
knows_few trace n p q = omega (arith, (few_all (take n trace) 0 (length (take n trace)) knows_nothing (omega arith) few_first).knows p q, take_few trace n)

pub taken_few : (trace : List TraceEntry) (n : ℕ) (p : Path) → (sight trace n).taken p ≤ n
taken_few trace n p = omega (arith, (few_all (take n trace) 0 (length (take n trace)) knows_nothing (omega arith) few_first).taken p, take_few trace n)

-- ---- places in a trace

pub within_trace : (trace : List TraceEntry) (i : ℕ) (e : TraceEntry) → slice_get trace i ≡ Some e → i < length trace
within_trace [] i e h = absurd (cc h)
within_trace (d ∷ trace) zero e h = omega arith
within_trace (d ∷ trace) (suc i) e h = omega (arith, within_trace trace i e h)

pub entry_at : (trace : List TraceEntry) (n : ℕ) → n < length trace → (e : TraceEntry) × (slice_get trace n ≡ Some e)
entry_at [] n l = absurd (omega (arith, l))
entry_at (d ∷ trace) zero l = (d, refl)
entry_at (d ∷ trace) (suc n) l = entry_at trace n (omega (arith, l))

-- ---- ranks, and races by them

entries_few : (p : Path) (trace : List TraceEntry) → entries_of p trace ≤ length trace
entries_few p [] = omega arith
entries_few p (e ∷ trace) = both (same_path e.task p) (entries_few p trace) where
  both : (b : Bool) → entries_of p trace ≤ length trace → cond b (suc (entries_of p trace)) (entries_of p trace) ≤ suc (length trace)
  both true l = omega (arith, l)
  both false l = omega (arith, l)

pub rank_few : (p : Path) (trace : List TraceEntry) (n : ℕ) → entries_of p (take n trace) ≤ n
rank_few p trace n = omega (arith, entries_few p (take n trace), take_few trace n)

pub ranks_next : (trace : List TraceEntry) (n r : ℕ) (d : TraceEntry) (p : Path) (before after : ℕ) → slice_get trace n ≡ Some d → r ≡ entries_of d.task (take n trace) → before ≡ entries_of p (take n trace) → after ≡ cond (same_path d.task p) (r + 1) before → after ≡ entries_of p (take (n + 1) trace)
ranks_next trace n r d p before after at e b k = k ∙ (split (same_path d.task p) refl ∙ sym (count_next p trace n d at)) where
  split : (t : Bool) → same_path d.task p ≡ t → cond t (r + 1) before ≡ cond t (suc (entries_of p (take n trace))) (entries_of p (take n trace))
  split true s = rw add-one (ap suc (e ∙ ap (λ q. entries_of q (take n trace)) ((bytes_eq-Decides d.task p).0 s)))
  split false s = b

pub rank_is : (trace : List TraceEntry) (n r : ℕ) (d : TraceEntry) → slice_get trace n ≡ Some d → r ≡ entries_of d.task (take n trace) → r + 1 ≡ entries_of d.task (take (n + 1) trace)
rank_is trace n r d at e = ranks_next trace n r d d.task (entries_of d.task (take n trace)) (r + 1) at e refl (sym (ap (λ t. cond t (r + 1) (entries_of d.task (take n trace))) ((bytes_eq-Decides d.task d.task).1 refl)))

meets_alike : (o : Option (List ℕ × Bool)) (t : List ℕ × Bool) → meets o (Some t) ≡ alike o t
meets_alike None t = refl
meets_alike (Some u) t = refl

pub race_is : (trace : List TraceEntry) (i j rank : ℕ) (d e : TraceEntry) (s : Sight) (touch : List ℕ × Bool) → slice_get trace i ≡ Some d → slice_get trace j ≡ Some e → s ≡ sight trace j → Some touch ≡ touched e.action → rank ≡ entries_of d.task (take (i + 1) trace) → races trace i j ≡ races_by (s.knows e.task) d rank e touch
race_is trace i j rank d e s touch at_i at_j same t r =
    ap (λ o. are_racing trace i o j (slice_get trace j)) at_i ∙ (ap (are_racing trace i (Some d) j) at_j
    ∙ (ap (λ c. (not (same_path d.task e.task) && c) && not (is_known trace i d j e)) (clash_meets d.action e.action ∙ (ap (meets (touched d.action)) (sym t) ∙ meets_alike (touched d.action) touch))
    ∙ (ap (λ n. (not (same_path d.task e.task) && alike (touched d.action) touch) && not (nat_le n ((sight trace j).knows e.task d.task))) (sym r)
    ∙ ap (λ (x : Sight). (not (same_path d.task e.task) && alike (touched d.action) touch) && not (nat_le rank (x.knows e.task d.task))) (sym same))))

-- an entry that touches nothing races with none
pub no_touch : (trace : List TraceEntry) (h j : ℕ) (e : TraceEntry) → slice_get trace j ≡ Some e → touched e.action ≡ None → races trace h j ≡ false
no_touch trace h j e at_j t = ap (are_racing trace h (slice_get trace h) j) at_j ∙ by (slice_get trace h) where
  meets_none : (o : Option (List ℕ × Bool)) → meets o None ≡ false
  meets_none None = refl
  meets_none (Some u) = refl

  none : (a b : Bool) → (a && false) && b ≡ false
  none true true = refl
  none true false = refl
  none false true = refl
  none false false = refl

  by : (o : Option TraceEntry) → are_racing trace h o j (Some e) ≡ false
  by None = refl
  by (Some d) = ap (λ c. (not (same_path d.task e.task) && c) && not (is_known trace h d j e)) (clash_meets d.action e.action ∙ (ap (meets (touched d.action)) t ∙ meets_none (touched d.action))) ∙ none (not (same_path d.task e.task)) (not (is_known trace h d j e))

pub none_more : (trace : List TraceEntry) (n j : ℕ) → races trace n j ≡ false → ((h : ℕ) → h < n → races trace h j ≡ false) → (h : ℕ) → h < n + 1 → races trace h j ≡ false
none_more trace n j e f h l = split (eq-or-lt_of_le (let m : h ≤ n = omega (arith, l) in m)) where
  split : (h ≡ n) ⊎ (h < n) → races trace h j ≡ false
  split (inl m) = subst (λ x. races trace x j ≡ false) (sym m) e
  split (inr m) = f h m

pub pairs_more : (trace : List TraceEntry) (n : ℕ) → ((h : ℕ) → h < n → races trace h n ≡ false) → ((h k : ℕ) → h < k → k < n → races trace h k ≡ false) → (h k : ℕ) → h < k → k < n + 1 → races trace h k ≡ false
pairs_more trace n e f h k l m = split (eq-or-lt_of_le (let o : k ≤ n = omega (arith, m) in o)) where
  split : (k ≡ n) ⊎ (k < n) → races trace h k ≡ false
  split (inl o) = subst (λ x. races trace h x ≡ false) (sym o) (e h (subst (λ x. h < x) o l))
  split (inr o) = f h k l o

pub ordered : (trace : List TraceEntry) (n : ℕ) → length trace ≤ n → ((h k : ℕ) → h < k → k < n → races trace h k ≡ false) → IsAnswer trace None
ordered trace n l f = λ i j m. within_or trace i j (λ o. f i j m (omega (arith, o, l)))
