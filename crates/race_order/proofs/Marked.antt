-- The marks tell where an entry races with none.
use Rattle.std.proofs.Common.{◌≡◌, ℕ, suc, ◌+◌, ◌<◌, ◌≤◌, ◌^◌, ◌==◌, Bool, true, false, cond, List, [], ◌∷◌, length, take, refl, sym, ap, subst, ◌∙◌, arith, Option, Some, None, Result, Ok, Err, OnOk}
use Rattle.std.specs.Prelude.{not, nat_le, ◌&&◌, slice_get, ◌⊎◌}
use mathlib.Core.Logic.{inl, inr}
use Rattle.std.proofs.Math.Nat.{eq-or-lt_of_le}
use Rattle.std.proofs.lemmas.Bool.{le-leb, eqb-true}
use Rattle.std.proofs.lemmas.Slice.Eq.{bytes_eq-Decides}
use Rattle.ir_forms.specs.declared.names.TraceEntry.{TraceEntry}
use Rattle.ir_forms.specs.Names.{Path, same_path}
use Rattle.race_order.specs.declared.table.Table.{Table}
use Rattle.race_order.specs.declared.tasks.Tasks.{Tasks}
use Rattle.race_order.specs.declared.marks.Marks.{Marks}
use Rattle.race_order.specs.Clocks.{count, IsTree, Grows, HasEmpty}
use Rattle.race_order.specs.Known.{Sight, after_entry, after_entries, knows_nothing}
use Rattle.race_order.specs.Race.{entries_of, races}
use Rattle.race_order.specs.Sights.{number_in, sight, AreNumbers, Holds}
use Rattle.race_order.specs.Touch.{touched, alike}
use Rattle.race_order.specs.Marks.{mark_of, same_touch, AreMarked, IsMarked}
use Rattle.race_order.proofs.Trees.{tree_grows, count_grows, empty_tree}
use Rattle.race_order.proofs.Step.{eqb-yes}
use Rattle.race_order.proofs.Last.{more_entries}
use Rattle.race_order.proofs.Answer.{entry_at, race_is}

pub on_ok3 : {T E : Type 0} (r : Result T E) (A B C D : Type 0) → (A → B → C → D) → OnOk r A → OnOk r B → OnOk r C → OnOk r D
on_ok3 (Ok x) A B C D f a b c = f a b c
on_ok3 (Err e) A B C D f a b c = a

-- a table's entry is set
pub set_tree : (table after : Table) (n0 n1 : List (ℕ × ℕ)) (d made : ℕ) (key other : List ℕ) → Grows n0 n1 → IsTree n1 d made → IsTree n0 d (number_in table other) → number_in after other ≡ cond (same_path key other) made (number_in table other) → IsTree n1 d (number_in after other)
set_tree table after n0 n1 d made key other g h k e = subst (λ r. IsTree n1 d r) (sym e) (split (same_path key other)) where
  split : (b : Bool) → IsTree n1 d (cond b made (number_in table other))
  split true = h
  split false = tree_grows n0 n1 d (number_in table other) g k

pub set_value : (table after : Table) (n0 n1 : List (ℕ × ℕ)) (d root made number rank : ℕ) (key other : List ℕ) (k : ℕ) → Grows n0 n1 → IsTree n0 d (number_in table other) → root ≡ number_in table key → number_in after other ≡ cond (same_path key other) made (number_in table other)
    → count n1 d made k ≡ cond (number == k) rank (count n0 d root k) → count n1 d (number_in after other) k ≡ cond (same_path key other) (cond (number == k) rank (count n0 d (number_in table other) k)) (count n0 d (number_in table other) k)
set_value table after n0 n1 d root made number rank key other k g tree r e v = ap (λ x. count n1 d x k) e ∙ split (same_path key other) refl where
  split : (b : Bool) → same_path key other ≡ b → count n1 d (cond b made (number_in table other)) k ≡ cond b (cond (number == k) rank (count n0 d (number_in table other) k)) (count n0 d (number_in table other) k)
  split true s = v ∙ ap (λ x. cond (number == k) rank (count n0 d x k)) (r ∙ ap (number_in table) ((bytes_eq-Decides key other).0 s))
  split false s = count_grows n0 n1 d (number_in table other) k g tree

pub marked_heavy : (number rank d : ℕ) (n0 n1 : List (ℕ × ℕ)) (key : List ℕ) (heavy : Bool) (before : Marks) (table : Table) → heavy ≡ true → ((t : List ℕ × Bool) → IsTree n0 d (mark_of before t)) → Grows n0 n1 → ((other : List ℕ) → IsTree n1 d (number_in table other))
    → ((other : List ℕ) (k : ℕ) → k < 2 ^ d → count n1 d (number_in table other) k ≡ cond (same_path key other) (cond (number == k) rank (count n0 d (number_in before.heavy other) k)) (count n0 d (number_in before.heavy other) k))
    → IsMarked number rank d n0 n1 (key, heavy) before (record { light = before.light; heavy = table })
marked_heavy number rank d n0 n1 key heavy before table e old g trees value = subst (λ h. IsMarked number rank d n0 n1 (key, h) before (record { light = before.light; heavy = table })) (sym e) (record { grows = g; trees = λ t. tree t.0 t.1; value = λ t k l. is t.0 t.1 k l }) where
  tree : (x : List ℕ) (b : Bool) → IsTree n1 d (cond b (number_in table x) (number_in before.light x))
  tree x true = trees x
  tree x false = tree_grows n0 n1 d (number_in before.light x) g (old (x, false))

  is : (x : List ℕ) (b : Bool) (k : ℕ) → k < 2 ^ d → count n1 d (cond b (number_in table x) (number_in before.light x)) k ≡ cond (b && same_path key x) (cond (number == k) rank (count n0 d (cond b (number_in before.heavy x) (number_in before.light x)) k)) (count n0 d (cond b (number_in before.heavy x) (number_in before.light x)) k)
  is x true k l = value x k l
  is x false k l = count_grows n0 n1 d (number_in before.light x) k g (old (x, false))

pub marked_light : (number rank d : ℕ) (n0 n1 : List (ℕ × ℕ)) (key : List ℕ) (heavy : Bool) (before : Marks) (table : Table) → heavy ≡ false → ((t : List ℕ × Bool) → IsTree n0 d (mark_of before t)) → Grows n0 n1 → ((other : List ℕ) → IsTree n1 d (number_in table other))
    → ((other : List ℕ) (k : ℕ) → k < 2 ^ d → count n1 d (number_in table other) k ≡ cond (same_path key other) (cond (number == k) rank (count n0 d (number_in before.light other) k)) (count n0 d (number_in before.light other) k))
    → IsMarked number rank d n0 n1 (key, heavy) before (record { light = table; heavy = before.heavy })
marked_light number rank d n0 n1 key heavy before table e old g trees value = subst (λ h. IsMarked number rank d n0 n1 (key, h) before (record { light = table; heavy = before.heavy })) (sym e) (record { grows = g; trees = λ t. tree t.0 t.1; value = λ t k l. is t.0 t.1 k l }) where
  tree : (x : List ℕ) (b : Bool) → IsTree n1 d (cond b (number_in before.heavy x) (number_in table x))
  tree x true = tree_grows n0 n1 d (number_in before.heavy x) g (old (x, true))
  tree x false = trees x

  is : (x : List ℕ) (b : Bool) (k : ℕ) → k < 2 ^ d → count n1 d (cond b (number_in before.heavy x) (number_in table x)) k ≡ cond (not b && same_path key x) (cond (number == k) rank (count n0 d (cond b (number_in before.heavy x) (number_in before.light x)) k)) (count n0 d (cond b (number_in before.heavy x) (number_in before.light x)) k)
  is x true k l = count_grows n0 n1 d (number_in before.heavy x) k g (old (x, true))
  is x false k l = value x k l

pub marks_grow : (trace : List TraceEntry) (n : ℕ) (numbers : Path → ℕ) (d : ℕ) (n0 n1 : List (ℕ × ℕ)) (marks : Marks) → Grows n0 n1 → AreMarked trace n numbers d n0 marks → AreMarked trace n numbers d n1 marks
marks_grow trace n numbers d n0 n1 marks g h = record {
  trees = λ t. tree_grows n0 n1 d (mark_of marks t) g (h.trees t);
  marked = λ i x t l at e. subst (λ m. entries_of x.task (take (i + 1) trace) ≤ m) (sym (count_grows n0 n1 d (mark_of marks t) (numbers x.task) g (h.trees t))) (h.marked i x t l at e);
}

same_self : (t : List ℕ × Bool) → same_touch t t ≡ true
same_self t = by t.0 t.1 ((bytes_eq-Decides t.0 t.0).1 refl) where
  by : (x : List ℕ) (b : Bool) → same_path x x ≡ true → cond b (b && same_path x x) (not b && same_path x x) ≡ true
  by x true e = e
  by x false e = e

-- after an entry that touches something
pub marked_next : (trace : List TraceEntry) (n : ℕ) (numbers : Path → ℕ) (d number rank : ℕ) (n0 n1 : List (ℕ × ℕ)) (m0 m1 : Marks) (e : TraceEntry) (u : List ℕ × Bool) → slice_get trace n ≡ Some e → Some u ≡ touched e.action → number ≡ numbers e.task → rank ≡ entries_of e.task (take (n + 1) trace) → 0 < numbers e.task → AreNumbers d numbers
    → AreMarked trace n numbers d n0 m0 → IsMarked number rank d n0 n1 u m0 m1 → AreMarked trace (n + 1) numbers d n1 m1
marked_next trace n numbers d number rank n0 n1 m0 m1 e u at_n touch num r pos are h k = record { trees = k.trees; marked = λ i x t l at_i at_t. subst (λ m. entries_of x.task (take (i + 1) trace) ≤ m) (sym (k.value t (numbers x.task) (are.within x.task))) (place i x t (eq-or-lt_of_le (let m : i ≤ n = omega (arith, l) in m)) at_i at_t) } where
  greater : (x : TraceEntry) (i old : ℕ) (a b : Bool) → (number == numbers x.task) ≡ b → i ≤ n → entries_of x.task (take (i + 1) trace) ≤ old → entries_of x.task (take (i + 1) trace) ≤ cond a (cond b rank old) old
  greater x i old false b s l f = f
  greater x i old true false s l f = f
  greater x i old true true s l f =
      let same : number ≡ numbers x.task = eqb-true number (numbers x.task) s in
      let task : e.task ≡ x.task = are.apart e.task x.task pos (sym num ∙ same) in
      omega (arith, r ∙ ap (λ p. entries_of p (take (n + 1) trace)) task, more_entries x.task trace (i + 1) (n + 1) (omega (arith, l)))

  place : (i : ℕ) (x : TraceEntry) (t : List ℕ × Bool) → (i ≡ n) ⊎ (i < n) → slice_get trace i ≡ Some x → touched x.action ≡ Some t → entries_of x.task (take (i + 1) trace) ≤ cond (same_touch u t) (cond (number == numbers x.task) rank (count n0 d (mark_of m0 t) (numbers x.task))) (count n0 d (mark_of m0 t) (numbers x.task))
  place i x t (inr l) at_i at_t = greater x i (count n0 d (mark_of m0 t) (numbers x.task)) (same_touch u t) (number == numbers x.task) refl (omega (arith, l)) (h.marked i x t l at_i at_t)
  place i x t (inl m) at_i at_t =
      let same : e ≡ x = cc (sym at_n ∙ (ap (λ j. slice_get trace j) (sym m) ∙ at_i)) in
      let touches : u ≡ t = cc (touch ∙ (ap (λ (z : TraceEntry). touched z.action) same ∙ at_t)) in
      let one : same_touch u t ≡ true = ap (same_touch u) (sym touches) ∙ same_self u in
      let two : (number == numbers x.task) ≡ true = eqb-yes number (numbers x.task) (num ∙ ap (λ (z : TraceEntry). numbers z.task) same) in
      let three : rank ≡ entries_of x.task (take (i + 1) trace) = r ∙ (ap (λ (z : TraceEntry). entries_of z.task (take (n + 1) trace)) same ∙ ap (λ j. entries_of x.task (take (j + 1) trace)) (sym m)) in
      subst (λ a. entries_of x.task (take (i + 1) trace) ≤ cond a (cond (number == numbers x.task) rank (count n0 d (mark_of m0 t) (numbers x.task))) (count n0 d (mark_of m0 t) (numbers x.task))) (sym one)
      (subst (λ b. entries_of x.task (take (i + 1) trace) ≤ cond b rank (count n0 d (mark_of m0 t) (numbers x.task))) (sym two) (omega (arith, three)))

-- after an entry that touches nothing
pub unmarked_next : (trace : List TraceEntry) (n : ℕ) (numbers : Path → ℕ) (d : ℕ) (nodes : List (ℕ × ℕ)) (marks : Marks) (e : TraceEntry) → slice_get trace n ≡ Some e → None ≡ touched e.action → AreMarked trace n numbers d nodes marks → AreMarked trace (n + 1) numbers d nodes marks
unmarked_next trace n numbers d nodes marks e at_n none h = record { trees = h.trees; marked = λ i x t l at_i at_t. place i x t (eq-or-lt_of_le (let m : i ≤ n = omega (arith, l) in m)) at_i at_t } where
  place : (i : ℕ) (x : TraceEntry) (t : List ℕ × Bool) → (i ≡ n) ⊎ (i < n) → slice_get trace i ≡ Some x → touched x.action ≡ Some t → entries_of x.task (take (i + 1) trace) ≤ count nodes d (mark_of marks t) (numbers x.task)
  place i x t (inr l) at_i at_t = h.marked i x t l at_i at_t
  place i x t (inl m) at_i at_t =
      let same : e ≡ x = cc (sym at_n ∙ (ap (λ j. slice_get trace j) (sym m) ∙ at_i)) in
      absurd (cc (none ∙ (ap (λ (z : TraceEntry). touched z.action) same ∙ at_t)))

-- what is clear races with none
pub clear_none : (trace : List TraceEntry) (j : ℕ) (tasks : Tasks) (nodes : List (ℕ × ℕ)) (marks : Marks) (clock : ℕ) (e : TraceEntry) (u : List ℕ × Bool) → j < length trace → slice_get trace j ≡ Some e → Some u ≡ touched e.action → clock ≡ number_in tasks.clocks e.task → Holds (sight trace j) tasks nodes → AreMarked trace j (number_in tasks.numbers) tasks.depth nodes marks
    → ((t : List ℕ × Bool) → alike (Some t) u ≡ true → (k : ℕ) → count nodes tasks.depth (mark_of marks t) k ≤ count nodes tasks.depth clock k) → (h : ℕ) → h < j → races trace h j ≡ false
clear_none trace j tasks nodes marks clock e u within at_j touch c holds m clear h l = by (entry_at trace h (omega (arith, l, within))) where
  off : (a b : Bool) → (a && false) && b ≡ false
  off true b = refl
  off false b = refl

  off_last : (a : Bool) → a && false ≡ false
  off_last true = refl
  off_last false = refl

  alike_by : (d : TraceEntry) (t : List ℕ × Bool) (b : Bool) → slice_get trace h ≡ Some d → touched d.action ≡ Some t → alike (Some t) u ≡ b → (not (same_path d.task e.task) && b) && not (nat_le (entries_of d.task (take (h + 1) trace)) ((sight trace j).knows e.task d.task)) ≡ false
  alike_by d t false at_h t_is a = off (not (same_path d.task e.task)) (not (nat_le (entries_of d.task (take (h + 1) trace)) ((sight trace j).knows e.task d.task)))
  alike_by d t true at_h t_is a = ap (λ b. (not (same_path d.task e.task) && true) && not b) (le-leb (entries_of d.task (take (h + 1) trace)) ((sight trace j).knows e.task d.task) (omega (arith, m.marked h d t l at_h t_is, clear t a (number_in tasks.numbers d.task), ap (λ r. count nodes tasks.depth r (number_in tasks.numbers d.task)) c, (holds.clocks e.task).1 d.task))) ∙ off_last (not (same_path d.task e.task) && true)

  touch_by : (d : TraceEntry) (o : Option (List ℕ × Bool)) → slice_get trace h ≡ Some d → touched d.action ≡ o → (not (same_path d.task e.task) && alike o u) && not (nat_le (entries_of d.task (take (h + 1) trace)) ((sight trace j).knows e.task d.task)) ≡ false
  touch_by d None at_h o_is = off (not (same_path d.task e.task)) (not (nat_le (entries_of d.task (take (h + 1) trace)) ((sight trace j).knows e.task d.task)))
  touch_by d (Some t) at_h o_is = alike_by d t (alike (Some t) u) at_h o_is refl

  by : (d : TraceEntry) × (slice_get trace h ≡ Some d) → races trace h j ≡ false
  by d = race_is trace h j (entries_of d.0.task (take (h + 1) trace)) d.0 e (sight trace j) u d.1 at_j refl touch refl ∙ touch_by d.0 (touched d.0.action) d.1 refl

-- before the first entry
pub marked_first : (trace : List TraceEntry) (numbers : Path → ℕ) (d : ℕ) (nodes : List (ℕ × ℕ)) (marks : Marks) → HasEmpty nodes → ((t : List ℕ × Bool) → mark_of marks t ≡ 0) → AreMarked trace 0 numbers d nodes marks
marked_first trace numbers d nodes marks e z = record {
  trees = λ t. subst (λ r. IsTree nodes d r) (sym (z t)) (empty_tree nodes d e);
  marked = λ i x t l at_i at_t. absurd (omega (arith, l));
}

-- a task's number of entries is its rank
taken_is : (trace : List TraceEntry) (s : Sight) (p : Path) → (after_entries trace s).taken p ≡ s.taken p + entries_of p trace
taken_is [] s p = let e : s.taken p ≡ s.taken p + 0 = omega arith in e
taken_is (e ∷ trace) s p = taken_is trace (after_entry e s) p ∙ both (same_path e.task p) where
  both : (b : Bool) → cond b (suc (s.taken p)) (s.taken p) + entries_of p trace ≡ s.taken p + cond b (suc (entries_of p trace)) (entries_of p trace)
  both true = let f : suc (s.taken p) + entries_of p trace ≡ s.taken p + suc (entries_of p trace) = omega arith in f
  both false = refl

pub rank_taken : (trace : List TraceEntry) (n : ℕ) (p : Path) → (sight trace n).taken p ≡ entries_of p (take n trace)
rank_taken trace n p = let f : 0 + entries_of p (take n trace) ≡ entries_of p (take n trace) = omega arith in taken_is (take n trace) knows_nothing p ∙ f
