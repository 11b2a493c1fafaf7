-- What the members of a group teach.
use Rattle.std.proofs.Common.{◌≡◌, ℕ, ◌+◌, ◌<◌, Bool, true, false, cond, List, length, refl, sym, ap, subst, ◌∙◌, arith, Some, add-one}
use Rattle.std.specs.Prelude.{max, slice_get}
use Rattle.ir_forms.specs.declared.names.MadeName.{MadeName}
use Rattle.ir_forms.specs.Names.{Path, same_path, same_made, maker}
use Rattle.race_order.specs.declared.tasks.Added.{Added}
use Rattle.race_order.specs.declared.tasks.Tasks.{Tasks}
use Rattle.race_order.specs.Keys.{made_key}
use Rattle.race_order.specs.Clocks.{count, IsTree, Grows}
use Rattle.race_order.specs.Known as known
use Rattle.race_order.specs.Known.{Counts, Sight, greatest, known_by_members}
use Rattle.race_order.specs.Sights.{number_in, counted, Shows, Holds, with_member, oldest}
use Rattle.std.proofs.Common.{Result, IfOk}
use Rattle.race_order.proofs.Trees.{grows_twice, count_grows, ok_map}
use Rattle.race_order.proofs.Learn.{Stands, stands, none_oldest, key_tells}

pub members_start : (numbers : Path → ℕ) (d : ℕ) (nodes : List (ℕ × ℕ)) (raised : ℕ) (g : MadeName) (s : Sight) → IsTree nodes d raised → Shows numbers d nodes raised (greatest (counted numbers d nodes raised) (known_by_members g s (oldest 0 s.adds)))
members_start numbers d nodes raised g s h = (h, λ q. ap (λ l. max (counted numbers d nodes raised q) (known_by_members g s l q)) (none_oldest s.adds) ∙ zero_least (counted numbers d nodes raised q)) where
  zero_least : (n : ℕ) → max n 0 ≡ n
  zero_least n = omega arith

-- one add more
with_one : (b : Bool) (f k a r : ℕ) → max f (cond b (max (max k a) r) r) ≡ cond b (max (max (max f r) k) a) (max f r)
with_one true f k a r = omega arith
with_one false f k a r = refl

-- an add of both lists teaches the same
taught : (s : Sight) (tasks : Tasks) (nodes : List (ℕ × ℕ)) (key : List ℕ) (g : MadeName) (own : ℕ) (f r : Counts) (a : known.Added) (x : Added) (q : Path) → Holds s tasks nodes → key ≡ made_key g
    → (f q ≡ count nodes tasks.depth own (number_in tasks.numbers q)) → x.group.items ≡ made_key a.group → x.maker.items ≡ maker a.element → Shows (number_in tasks.numbers) tasks.depth nodes x.adder a.adder
    → with_member tasks nodes key x own (number_in tasks.numbers q) ≡ cond (same_made a.group g) (max (max (f q) (s.knows (maker a.element) q)) (a.adder q)) (f q)
taught s tasks nodes key g own f r a x q h e shown group made adder =
    ap (λ t. cond t (max (max (count nodes tasks.depth own (number_in tasks.numbers q)) (count nodes tasks.depth (number_in tasks.clocks x.maker.items) (number_in tasks.numbers q))) (count nodes tasks.depth x.adder (number_in tasks.numbers q))) (count nodes tasks.depth own (number_in tasks.numbers q))) (ap (λ y. same_path y key) group ∙ (ap (λ y. same_path (made_key a.group) y) e ∙ key_tells a.group g))
    ∙ (ap (λ n. cond (same_made a.group g) (max (max n (count nodes tasks.depth (number_in tasks.clocks x.maker.items) (number_in tasks.numbers q))) (count nodes tasks.depth x.adder (number_in tasks.numbers q))) n) (sym shown)
    ∙ (ap (λ n. cond (same_made a.group g) (max (max (f q) n) (count nodes tasks.depth x.adder (number_in tasks.numbers q))) (f q)) (ap (λ p. count nodes tasks.depth (number_in tasks.clocks p) (number_in tasks.numbers q)) made ∙ sym ((h.clocks (maker a.element)).1 q))
    ∙ ap (λ n. cond (same_made a.group g) (max (max (f q) (s.knows (maker a.element) q)) n) (f q)) (sym (adder.1 q))))

pub join_member : (s : Sight) (tasks : Tasks) (n0 n1 n2 : List (ℕ × ℕ)) (key : List ℕ) (g : MadeName) (raised own made n : ℕ) (x : Added) → Holds s tasks n1 → key ≡ made_key g → n < length s.adds → slice_get tasks.adds n ≡ Some x
    → Grows n0 n1 × Shows (number_in tasks.numbers) tasks.depth n1 own (greatest (counted (number_in tasks.numbers) tasks.depth n0 raised) (known_by_members g s (oldest n s.adds)))
    → Grows n1 n2 × IsTree n2 tasks.depth made → ((k : ℕ) → count n2 tasks.depth made k ≡ with_member tasks n1 key x own k)
    → Grows n0 n2 × Shows (number_in tasks.numbers) tasks.depth n2 made (greatest (counted (number_in tasks.numbers) tasks.depth n0 raised) (known_by_members g s (oldest (n + 1) s.adds)))
unfolding Stands
join_member s tasks n0 n1 n2 key g raised own made n x h e l at_n shown grown value =
    let y : Stands (number_in tasks.numbers) tasks.depth n1 s.adds tasks.adds n = stands (number_in tasks.numbers) tasks.depth n1 s.adds tasks.adds n l h.adds in
    let same : y.2.0 ≡ x = cc (sym y.2.1 ∙ at_n) in (
      grows_twice n0 n1 n2 shown.0 grown.0,
      (
        grown.1,
        λ q. rw add-one (
            ap (λ t. max (counted (number_in tasks.numbers) tasks.depth n0 raised q) (known_by_members g s t q)) y.1
            ∙ (with_one (same_made y.0.group g) (counted (number_in tasks.numbers) tasks.depth n0 raised q) (s.knows (maker y.0.element) q) (y.0.adder q) (known_by_members g s (oldest n s.adds) q)
            ∙ (sym (taught s tasks n1 key g own (greatest (counted (number_in tasks.numbers) tasks.depth n0 raised) (known_by_members g s (oldest n s.adds))) (λ p. 0) y.0 x q h e (shown.1.1 q)
            (ap (λ (z : Added). z.group.items) (sym same) ∙ y.2.2) (ap (λ (z : Added). z.maker.items) (sym same) ∙ y.2.3) (subst (λ (z : Added). Shows (number_in tasks.numbers) tasks.depth n1 z.adder y.0.adder) same y.2.4))
            ∙ sym (value (number_in tasks.numbers q))))),
      ),
    )

pub joined_member : {E : Type 0} (tasks : Tasks) (n0 n1 n2 : List (ℕ × ℕ)) (key : List ℕ) (x : Added) (own learned clock : ℕ) (r : Result ℕ E) → same_path x.group.items key ≡ true → clock ≡ number_in tasks.clocks x.maker.items → Grows n0 n1 → IsTree n0 tasks.depth x.adder
    → ((k : ℕ) → count n1 tasks.depth learned k ≡ max (count n0 tasks.depth own k) (count n0 tasks.depth clock k)) → IfOk r (λ made. (k : ℕ) → count n2 tasks.depth made k ≡ max (count n1 tasks.depth learned k) (count n1 tasks.depth x.adder k))
    → IfOk r (λ made. (k : ℕ) → count n2 tasks.depth made k ≡ with_member tasks n0 key x own k)
joined_member tasks n0 n1 n2 key x own learned clock r e c g h v w =
    ok_map r (λ made. (k : ℕ) → count n2 tasks.depth made k ≡ max (count n1 tasks.depth learned k) (count n1 tasks.depth x.adder k)) (λ made. (k : ℕ) → count n2 tasks.depth made k ≡ with_member tasks n0 key x own k)
    (λ made u k. u k ∙ (ap (λ n. max n (count n1 tasks.depth x.adder k)) (v k ∙ ap (λ n. max (count n0 tasks.depth own k) (count n0 tasks.depth n k)) c) ∙ (ap (λ n. max (max (count n0 tasks.depth own k) (count n0 tasks.depth (number_in tasks.clocks x.maker.items) k)) n) (count_grows n0 n1 tasks.depth x.adder k g h)
    ∙ sym (ap (λ t. cond t (max (max (count n0 tasks.depth own k) (count n0 tasks.depth (number_in tasks.clocks x.maker.items) k)) (count n0 tasks.depth x.adder k)) (count n0 tasks.depth own k)) e)))) w
