-- What holds after an entry.
use Rattle.std.proofs.Common.{◌≡◌, ℕ, zero, suc, ◌+◌, ◌<◌, ◌^◌, ◌==◌, Bool, true, false, cond, List, [], ◌∷◌, ◌++◌, length, refl, sym, ap, subst, ◌∙◌, arith, Some, add-one, length-append}
use Rattle.std.specs.Prelude.{max, slice_get}
use Rattle.std.proofs.lemmas.Bool.{true≢false}
use Rattle.std.proofs.lemmas.Bool.Decides.{nat_tests}
use Rattle.std.proofs.lemmas.Slice.Eq.{bytes_eq-Decides}
use Rattle.ir_forms.specs.declared.names.Action.{Action}
use Rattle.ir_forms.specs.declared.names.Action.TheVariants.{Add}
use Rattle.ir_forms.specs.declared.names.TraceEntry.{TraceEntry}
use Rattle.ir_forms.specs.Names.{Path, same_path}
use Rattle.race_order.specs.declared.table.Table.{Table}
use Rattle.race_order.specs.declared.tasks.Added.{Added}
use Rattle.race_order.specs.declared.tasks.Tasks.{Tasks}
use Rattle.race_order.specs.Clocks.{count, IsTree, Grows}
use Rattle.race_order.specs.Known as known
use Rattle.race_order.specs.Known.{Counts, Sight, greatest, one_more, own, added, makes, entered, after_entry}
use Rattle.race_order.specs.Sights.{number_in, counted, Shows, AreAdds, AreNumbers, Holds, IsAddedTo, IsKept}
use Rattle.race_order.specs.Known.{knows_nothing}
use Rattle.race_order.specs.Clocks.{HasEmpty}
use Rattle.race_order.proofs.Trees.{grows_twice, empty_grows, eqb-no, empty_tree, empty_counts}
use Rattle.race_order.proofs.Learn.{shows_grows, adds_grow}

pub eqb-yes : (a b : ℕ) → a ≡ b → (a == b) ≡ true
eqb-yes a b h = grind (arith, nat_tests)

pub raise : (numbers : Path → ℕ) (d : ℕ) (n0 n1 : List (ℕ × ℕ)) (before raised : ℕ) (p : Path) (f : Counts) → AreNumbers d numbers → 0 < numbers p → Shows numbers d n0 before f → IsTree n1 d raised
    → ((other : ℕ) → other < 2 ^ d → count n1 d raised other ≡ cond (numbers p == other) (count n0 d before (numbers p) + 1) (count n0 d before other)) → Shows numbers d n1 raised (one_more p f)
raise numbers d n0 n1 before raised p f are l shows tree value = (tree, λ q. split q (same_path p q) refl ∙ sym (value (numbers q) (are.within q))) where
  split : (q : Path) (b : Bool) → same_path p q ≡ b → cond b (suc (f q)) (f q) ≡ cond (numbers p == numbers q) (count n0 d before (numbers p) + 1) (count n0 d before (numbers q))
  split q true e =
      let same : p ≡ q = (bytes_eq-Decides p q).0 e in
      let equal : numbers p ≡ numbers q = ap numbers same in
      rw add-one (ap suc (shows.1 q ∙ ap (λ k. count n0 d before k) (sym equal)) ∙ sym (ap (λ t. cond t (suc (count n0 d before (numbers p))) (count n0 d before (numbers q))) (eqb-yes (numbers p) (numbers q) equal)))
  split q false e =
      let other : (numbers p == numbers q) ≡ false = eqb-no (numbers p) (numbers q) (λ h. true≢false (sym ((bytes_eq-Decides p q).1 (are.apart p q l h)) ∙ e)) in
      shows.1 q ∙ sym (ap (λ t. cond t (count n0 d before (numbers p) + 1) (count n0 d before (numbers q))) other)

pub owns : (numbers : Path → ℕ) (d : ℕ) (n0 n1 n2 : List (ℕ × ℕ)) (raised made : ℕ) (f g : Counts) → Grows n0 n1 → Shows numbers d n1 raised f → Grows n1 n2 × Shows numbers d n2 made (greatest (counted numbers d n1 raised) g) → Grows n0 n2 × Shows numbers d n2 made (greatest f g)
owns numbers d n0 n1 n2 raised made f g grows shows h = (grows_twice n0 n1 n2 grows h.0, (h.1.0, λ q. ap (λ x. max x (g q)) (shows.1 q) ∙ h.1.1 q))

shows_cond : (numbers : Path → ℕ) (d : ℕ) (nodes : List (ℕ × ℕ)) (b : Bool) (r t : ℕ) (f g : Counts) → Shows numbers d nodes r f → Shows numbers d nodes t g → Shows numbers d nodes (cond b r t) (cond b f g)
shows_cond numbers d nodes true r t f g h k = h
shows_cond numbers d nodes false r t f g h k = k

got_more : (items more : List Added) (n : ℕ) (x : Added) → slice_get items n ≡ Some x → slice_get (items ++ more) n ≡ Some x
got_more [] more n x e = absurd (cc e)
got_more (y ∷ items) more zero x e = e
got_more (y ∷ items) more (suc n) x e = got_more items more n x e

got_last : (items : List Added) (x : Added) → slice_get (items ++ x ∷ []) (length items) ≡ Some x
got_last [] x = refl
got_last (y ∷ items) x = got_last items x

adds_more : (numbers : Path → ℕ) (d : ℕ) (nodes : List (ℕ × ℕ)) (adds : List known.Added) (items more : List Added) → AreAdds numbers d nodes adds items → AreAdds numbers d nodes adds (items ++ more)
adds_more numbers d nodes [] items more h = h
adds_more numbers d nodes (a ∷ adds) items more h = (h.0, got_more items more (length adds) h.0 h.1, h.2, h.3, h.4, adds_more numbers d nodes adds items more h.5)

-- both lists of adds after an entry
BothAdds : (Path → ℕ) → ℕ → List (ℕ × ℕ) → List known.Added → List Added → Type 0
BothAdds numbers d nodes adds items = (length items ≡ length adds) × AreAdds numbers d nodes adds items

kept_adds : (a : Action) (numbers : Path → ℕ) (d : ℕ) (nodes : List (ℕ × ℕ)) (root : ℕ) (f : Counts) (adds : List known.Added) (before after : List Added) → Shows numbers d nodes root f → length before ≡ length adds → AreAdds numbers d nodes adds before → IsAddedTo a root before after → BothAdds numbers d nodes (added a f adds) after
unfolding BothAdds
kept_adds (Add g x used) numbers d nodes root f adds before after shows l h k = (
  ap length k.1 ∙ (length-append before (k.0 ∷ []) ∙ (let e : length before + 1 ≡ suc (length adds) = omega (arith, l) in e)),
  (
    k.0,
    ap (λ i. slice_get i (length adds)) k.1 ∙ subst (λ n. slice_get (before ++ k.0 ∷ []) n ≡ Some k.0) l (got_last before k.0),
    k.2,
    k.3,
    subst (λ r. Shows numbers d nodes r f) (sym k.4) shows,
    subst (λ i. AreAdds numbers d nodes adds i) (sym k.1) (adds_more numbers d nodes adds before (k.0 ∷ []) h),
  ),
)
kept_adds _ numbers d nodes root f adds before after shows l h k = (ap length k ∙ l, subst (λ i. AreAdds numbers d nodes adds i) (sym k) h)

pub holds_after : (e : TraceEntry) (s : Sight) (before after : Tasks) (n0 n1 : List (ℕ × ℕ)) (root : ℕ) → Holds s before n0 → Grows n0 n1 → Shows (number_in before.numbers) before.depth n1 root (own e s) → IsKept e root before after → Holds (after_entry e s) after n1
unfolding BothAdds
holds_after e s before after n0 n1 root h g shows k = record {
  empty = empty_grows n0 n1 g h.empty;
  taken = λ p. k.taken p ∙ same_taken p (same_path e.task p) refl;
  turns = λ p. k.turns p ∙ ap (λ t. cond (same_path e.task p) (entered e.action t) t) (h.turns p);
  clocks = λ p. moved (number_in after.clocks p) (cond (same_path e.task p) (own e s) (cond (makes e.action e.task (suc (s.taken e.task)) p) (own e s) (s.knows p)))
      (subst (λ r. Shows (number_in before.numbers) before.depth n1 r (cond (same_path e.task p) (own e s) (cond (makes e.action e.task (suc (s.taken e.task)) p) (own e s) (s.knows p)))) (sym (k.clocks p ∙ ap (λ t. cond (same_path e.task p) root (cond (makes e.action e.task t p) root (number_in before.clocks p))) raised))
      (shows_cond (number_in before.numbers) before.depth n1 (same_path e.task p) root (cond (makes e.action e.task (suc (s.taken e.task)) p) root (number_in before.clocks p)) (own e s) (cond (makes e.action e.task (suc (s.taken e.task)) p) (own e s) (s.knows p)) shows
      (shows_cond (number_in before.numbers) before.depth n1 (makes e.action e.task (suc (s.taken e.task)) p) root (number_in before.clocks p) (own e s) (s.knows p) shows (shows_grows (number_in before.numbers) before.depth n0 n1 (number_in before.clocks p) (s.knows p) g (h.clocks p)))));
  adds_len = both.0;
  adds = subst (λ (t : Table). AreAdds (number_in t) after.depth n1 (added e.action (own e s) s.adds) after.adds) (sym k.numbers) (subst (λ d. AreAdds (number_in before.numbers) d n1 (added e.action (own e s) s.adds) after.adds) (sym k.depth) both.1);
} where
  raised : number_in before.taken e.task + 1 ≡ suc (s.taken e.task)
  raised = rw add-one (ap suc (h.taken e.task))

  moved : (r : ℕ) (f : Counts) → Shows (number_in before.numbers) before.depth n1 r f → Shows (number_in after.numbers) after.depth n1 r f
  moved r f t = subst (λ (x : Table). Shows (number_in x) after.depth n1 r f) (sym k.numbers) (subst (λ d. Shows (number_in before.numbers) d n1 r f) (sym k.depth) t)

  same_taken : (p : Path) (b : Bool) → same_path e.task p ≡ b → cond b (number_in before.taken e.task + 1) (number_in before.taken p) ≡ cond b (suc (s.taken p)) (s.taken p)
  same_taken p true t = raised ∙ ap (λ x. suc (s.taken x)) ((bytes_eq-Decides e.task p).0 t)
  same_taken p false t = h.taken p

  both : (length after.adds ≡ length (added e.action (own e s) s.adds)) × AreAdds (number_in before.numbers) before.depth n1 (added e.action (own e s) s.adds) after.adds
  both = kept_adds e.action (number_in before.numbers) before.depth n1 root (own e s) s.adds before.adds after.adds shows h.adds_len (adds_grow (number_in before.numbers) before.depth n0 n1 s.adds before.adds g h.adds) k.adds

-- the same, of the numbers that the code has
pub raised_by : (numbers : Path → ℕ) (d : ℕ) (n0 n1 : List (ℕ × ℕ)) (before raised number c : ℕ) (p : Path) (f : Counts) → AreNumbers d numbers → 0 < numbers p → Shows numbers d n0 before f → number ≡ numbers p → c ≡ count n0 d before number → IsTree n1 d raised
    → ((other : ℕ) → other < 2 ^ d → count n1 d raised other ≡ cond (number == other) (c + 1) (count n0 d before other)) → Shows numbers d n1 raised (one_more p f)
raised_by numbers d n0 n1 before raised number c p f are l shows e ec tree value = raise numbers d n0 n1 before raised p f are l shows tree
    (λ other m. value other m ∙ (ap (λ n. cond (n == other) (c + 1) (count n0 d before other)) e ∙ ap (λ n. cond (numbers p == other) (n + 1) (count n0 d before other)) (ec ∙ ap (λ n. count n0 d before n) e)))

-- before the first entry
pub holds_first : (tasks : Tasks) (nodes : List (ℕ × ℕ)) → ((p : Path) → number_in tasks.taken p ≡ 0) → ((p : Path) → number_in tasks.turns p ≡ 0) → ((p : Path) → number_in tasks.clocks p ≡ 0) → tasks.adds ≡ [] → HasEmpty nodes → Holds knows_nothing tasks nodes
holds_first tasks nodes t u c a e = record {
  empty = e;
  taken = t;
  turns = u;
  clocks = λ p. (subst (λ r. IsTree nodes tasks.depth r) (sym (c p)) (empty_tree nodes tasks.depth e), λ q. sym (ap (λ r. count nodes tasks.depth r (number_in tasks.numbers q)) (c p) ∙ empty_counts nodes tasks.depth (number_in tasks.numbers q) e));
  adds_len = ap length a;
  adds = tt;
}
