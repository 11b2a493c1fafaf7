-- What a task of a part of a run has come to know, that part has done.
use Rattle.std.specs.Prelude.{◌⊎◌, max}
use mathlib.Core.Logic.{inl, inr}
use Rattle.std.proofs.Common.{◌≡◌, ◌<◌, ◌≤◌, ℕ, zero, suc, ◌+◌, Bool, true, false, cond, List, [], ◌∷◌, ◌++◌, length, Some, None, refl, sym, ap, subst, ◌∙◌, arith}
use Rattle.std.proofs.Math.Nat.{max-le}
use Rattle.std.proofs.lemmas.Bool.{true≢false}
use Rattle.ir_forms.specs.declared.names.ElementName.{ElementName}
use Rattle.ir_forms.specs.declared.names.MadeName.{MadeName}
use Rattle.ir_forms.specs.Names.{Path, iteration_of, same_path, same_made, maker}
use Rattle.race_order.specs.Known.{Counts, one_more, known_by_all, known_by_members, learned, own, added, makes, is_iteration}
use Rattle.one_end.specs.Programs.{Act, Reads, Writes, Allocs, Creates, Adds, Launches, Enters, JoinsAll, AwaitsOne, AwaitsAll, Ends, Program, shown}
use Rattle.one_end.specs.Runs.{Event, Log, history, taken, turns, turns_in, Ended, Takes, IsRun, begun, made_by, iteration_made, members, joins, Each, IsComplete, Can, entry_of}
use Rattle.one_end.proofs.Orders.{sight, known}
use Rattle.one_end.proofs.Basics.{path_cases, bool_cases, here, there, Older, older_same_list, older_trans, older_tail, older_length}
use Rattle.one_end.proofs.Histories.{taken_own, taken_other, Found, find_older, run_older, older_taken, older_at}
use Rattle.one_end.proofs.Makers.{Origin, begun_origin, begun_later, acted_begun, SameMaker, one_maker, made_how}
use Rattle.one_end.proofs.Pairs.{Part, part_older, did_in, ended_whole, ended_begun, made_not_root}
use Rattle.one_end.proofs.Groups.{full_inside, member_each}
use Rattle.one_end.proofs.Bounds.{sight_taken, sight_turns, known_own, known_made, known_other, bounded}

module _ {D : Type 0} where
  -- an action that is shown to make a task makes it
  iteration_some : (p : Path) (k : ℕ) (q : Path) (i j : ℕ) (ds : List D) → i ≤ j → j < i + length ds → iteration_of p k j ≡ q → (d : D) × (iteration_made p k q i ds ≡ Some d)
  iteration_some p k q i j [] l m e = absurd (omega (arith, l, m))
  iteration_some p k q i j (d ∷ ds) l m e = split (path_cases (iteration_of p k i) q) (iteration_some p k q (suc i) j ds) where
    split : (iteration_of p k i ≡ q) ⊎ (iteration_of p k i ≡ q → ⊥) → (suc i ≤ j → j < suc i + length ds → iteration_of p k j ≡ q → (d : D) × (iteration_made p k q (suc i) ds ≡ Some d)) → (c : D) × (cond (same_path (iteration_of p k i) q) (Some d) (iteration_made p k q (suc i) ds) ≡ Some c)
    split (inl h) f = (d, here (iteration_of p k i) q (Some d) (iteration_made p k q (suc i) ds) h)
    split (inr n) f =
        let other : (i ≡ j → ⊥) = λ w. n (subst (λ t. iteration_of p k t ≡ q) (sym w) e) in
        let rest = f (omega (arith, l, other)) (omega (arith, m)) e in
        (rest.0, there (iteration_of p k i) q (Some d) (iteration_made p k q (suc i) ds) n ∙ rest.1)

is_iteration_yes : (p : Path) (k n : ℕ) (q : Path) → is_iteration p k n q ≡ true → (i : ℕ) × (i < n) × (iteration_of p k i ≡ q)
is_iteration_yes p k zero q e = absurd (true≢false (sym e))
is_iteration_yes p k (suc n) q e = split (path_cases (iteration_of p k n) q) (is_iteration_yes p k n q) where
  split : (iteration_of p k n ≡ q) ⊎ (iteration_of p k n ≡ q → ⊥) → (is_iteration p k n q ≡ true → (i : ℕ) × (i < n) × (iteration_of p k i ≡ q)) → (i : ℕ) × (i < suc n) × (iteration_of p k i ≡ q)
  split (inl h) f = (n, omega arith, h)
  split (inr m) f =
      let rest = f (sym (there (iteration_of p k n) q true (is_iteration p k n q) m) ∙ e) in
      (rest.0, omega (arith, rest.1), rest.2)

module _ {D V : Type 0} where
  pub makes_made : (a : Act D V) (p : Path) (k : ℕ) (q : Path) → makes (shown a) p k q ≡ true → (d : D) × (made_by a p k q ≡ Some d)
  makes_made (Launches d r) p k q e = (d, ap (λ t. cond t (Some d) None) e)
  makes_made (Enters ds s) p k q e =
      let i = is_iteration_yes p k (length ds) q e in
      iteration_some p k q 0 i.0 ds (omega arith) (omega (arith, i.1)) i.2
  makes_made (Reads b i) p k q e = absurd (true≢false (sym e))
  makes_made (Writes b i n) p k q e = absurd (true≢false (sym e))
  makes_made (Allocs n) p k q e = absurd (true≢false (sym e))
  makes_made (Creates n) p k q e = absurd (true≢false (sym e))
  makes_made (Adds g x u) p k q e = absurd (true≢false (sym e))
  makes_made JoinsAll p k q e = absurd (true≢false (sym e))
  makes_made (AwaitsOne x) p k q e = absurd (true≢false (sym e))
  makes_made (AwaitsAll g) p k q e = absurd (true≢false (sym e))
  makes_made (Ends o) p k q e = absurd (true≢false (sym e))

module _ {D V : Type 0} (P : Program D V) (whole : Log D V) (whole_runs : IsRun P whole) (log : Log D V) (runs : IsRun P log) (part : Part log whole) where
  -- at the log f of the whole
  pub Sound : Log D V → Type 0
  Sound f = (q : Path) (d : D) → begun P log q ≡ Some d → taken f q ≤ taken log q → (r : Path) → known f q r ≤ taken log r

  pub Sounds : Log D V → Type 0
  Sounds [] = Sound []
  Sounds (e ∷ f) = Sound (e ∷ f) × Sounds f

  pub sound_here : (f : Log D V) → Sounds f → Sound f
  unfolding Sounds
  sound_here [] h = h
  sound_here (e ∷ f) h = h.0

  pub sounds_after : (b f : Log D V) → Sounds (b ++ f) → Sounds f
  unfolding Sounds
  sounds_after [] f h = h
  sounds_after (e ∷ b) f h = sounds_after b f h.1

  pub sounds_older : (f g : Log D V) → Older f g → Sounds g → Sounds f
  sounds_older f g o h = sounds_after o.0 f (subst Sounds o.1 h)

  -- what a task knows that has ended in an earlier part
  known_ended : (f past : Log D V) (m r : Path) → Older f whole → Older past log → Sound f → Ended past m → known f m r ≤ taken log r
  unfolding Sound
  known_ended f past m r o p s e = s m made.0 (begun_later P past log m made.0 p made.1) (omega (arith, ap length (ended_whole P whole past m whole_runs (part_older past log whole p part) e), older_taken f whole m o, older_taken past log m p)) r where
    made : (d : D) × (begun P past m ≡ Some d)
    made = ended_begun P past m (run_older P past log p runs) e

  all_sound : (f past : Log D V) (p : Path) (k n : ℕ) (r : Path) → Older f whole → Older past log → Sound f → ((i : ℕ) → i < n → Ended past (iteration_of p k i)) → known_by_all p k n (sight f) r ≤ taken log r
  all_sound f past p k zero r o q s h = omega arith
  all_sound f past p k (suc n) r o q s h = max-le (known_ended f past (iteration_of p k n) r o q s (h n (omega arith))) (all_sound f past p k n r o q s (λ i l. h i (omega (arith, l))))

  -- the members of a full group, as they stand in g
  members_sound : (f past : Log D V) (group : MadeName) (r : Path) → Older f whole → Older past log → Sounds f → IsComplete past group → (g : Log D V) → Older g f → known_by_members group (sight f) (sight g).adds r ≤ taken log r
  unfolding Sound
  members_sound f past group r o q s full [] l = omega arith
  members_sound f past group r o q s full (y ∷ g) l = by_act y.act refl (members_sound f past group r o q s full g (older_tail y g f l)) where
    in_whole : Older (y ∷ g) whole
    in_whole = older_trans (y ∷ g) f whole l o

    add : (x : ElementName) → joins y.act group ≡ x ∷ [] → (max (known f (maker x) r) (own (entry_of y) (sight g) r)) ≤ taken log r
    add x j = max-le (known_ended f past (maker x) r o q (sound_here f s) (subst (Each (λ z. Ended past (maker z))) j member).0) (subst (λ (c : Counts). c r ≤ taken log r) (known_own y g y.task refl) (sound_here (y ∷ g) (sounds_older (y ∷ g) f l s) y.task adder.0 (begun_later P past log y.task adder.0 q adder.1) (omega (arith, taken_own y g y.task refl, within, older_taken past log y.task q)) r)) where
      within : taken g y.task < taken past y.task
      within = full_inside P whole past group full.most whole_runs (part_older past log whole q part) full.created full.full y g in_whole (omega (arith, ap length j))

      did : Older (y ∷ history g y.task) (history past y.task)
      did = did_in whole past y g (part_older past log whole q part) in_whole within

      adder : (d : D) × (begun P past y.task ≡ Some d)
      adder = acted_begun P past y.task y (history g y.task) (run_older P past log q runs) did

      at : Found past y.task y (history g y.task)
      at = find_older past y.task y (history g y.task) did

      member : Each (λ z. Ended past (maker z)) (joins y.act group)
      member = member_each (λ z. Ended past (maker z)) at.older.0 y at.past group (subst (λ t. Each (λ z. Ended past (maker z)) (members t group)) at.older.1 full.ended)

    by_act : (a : Act D V) → y.act ≡ a → known_by_members group (sight f) (sight g).adds r ≤ taken log r → known_by_members group (sight f) (added (shown a) (own (entry_of y) (sight g)) (sight g).adds) r ≤ taken log r
    by_act (Adds h x u) e rest = by_group (same_made h group) refl where
      by_group : (t : Bool) → same_made h group ≡ t → cond t (max (max (known f (maker x) r) (own (entry_of y) (sight g) r)) (known_by_members group (sight f) (sight g).adds r)) (known_by_members group (sight f) (sight g).adds r) ≤ taken log r
      by_group true i = max-le (add x (ap (λ t. joins t group) e ∙ ap (λ t. cond t (x ∷ []) []) i)) rest
      by_group false i = rest
    by_act (Reads b i) e rest = rest
    by_act (Writes b i n) e rest = rest
    by_act (Allocs n) e rest = rest
    by_act (Creates n) e rest = rest
    by_act (Launches d n) e rest = rest
    by_act (Enters ds t) e rest = rest
    by_act JoinsAll e rest = rest
    by_act (AwaitsOne x) e rest = rest
    by_act (AwaitsAll h) e rest = rest
    by_act (Ends z) e rest = rest

  -- what an action teaches that the part has taken too
  learned_sound : (e : Event D V) (f past : Log D V) (r : Path) → Older f whole → Older past log → Sounds f → Can past e.task e.act → history past e.task ≡ history f e.task → learned e.task (shown e.act) (sight f) r ≤ taken log r
  learned_sound e f past r o q s can did = by_act e.act can where
    joining : ((i : ℕ) → i < turns past e.task → Ended past (iteration_of e.task (taken past e.task) i)) → (t n : ℕ) → t ≡ taken past e.task → n ≡ turns past e.task → known_by_all e.task t n (sight f) r ≤ taken log r
    joining can t n u v = all_sound f past e.task t n r o q (sound_here f s) (λ i l. subst (λ z. Ended past (iteration_of e.task z i)) (sym u) (can i (omega (arith, l, v))))

    by_act : (a : Act D V) → Can past e.task a → learned e.task (shown a) (sight f) r ≤ taken log r
    by_act (AwaitsOne x) can = known_ended f past (maker x) r o q (sound_here f s) can
    by_act (AwaitsAll g) can = members_sound f past g r o q s can f (older_same_list f)
    by_act JoinsAll can = joining can ((sight f).taken e.task) ((sight f).turns e.task) (sight_taken f e.task ∙ ap length (sym did)) (sight_turns f e.task ∙ ap turns_in (sym did))
    by_act (Reads b i) can = omega arith
    by_act (Writes b i n) can = omega arith
    by_act (Allocs n) can = omega arith
    by_act (Creates n) can = omega arith
    by_act (Adds g x u) can = omega arith
    by_act (Launches d n) can = omega arith
    by_act (Enters ds t) can = omega arith
    by_act (Ends z) can = omega arith

  own_sound : (e : Event D V) (f : Log D V) (r : Path) → Older (e ∷ f) whole → Sounds f → taken f e.task < taken log e.task → own (entry_of e) (sight f) r ≤ taken log r
  unfolding Sound
  own_sound e f r o s l = max-le (one_more_le (path_cases e.task r)) (learned_sound e f at.past r (older_tail e f whole o) (older_tail e at.past log at.older) s takes.can at.did) where
    did : Older (e ∷ history f e.task) (history log e.task)
    did = did_in whole log e f part o l

    at : Found log e.task e (history f e.task)
    at = find_older log e.task e (history f e.task) did

    takes : Takes P at.past e
    takes = (run_older P (e ∷ at.past) log at.older runs).0

    made : (d : D) × (begun P log e.task ≡ Some d)
    made = acted_begun P log e.task e (history f e.task) runs did

    one_more_le : (e.task ≡ r) ⊎ (e.task ≡ r → ⊥) → one_more e.task (known f e.task) r ≤ taken log r
    one_more_le (inl h) = subst (λ t. one_more e.task (known f e.task) t ≤ taken log t) h (omega (arith, here e.task e.task (suc (known f e.task e.task)) (known f e.task e.task) refl, (bounded f).knows e.task e.task, l))
    one_more_le (inr n) = omega (arith, there e.task r (suc (known f e.task r)) (known f e.task r) n, sound_here f s e.task made.0 made.1 (omega (arith, l)) r)

  -- a task of the part is made in the whole by what the part has done
  made_inside : (e : Event D V) (f : Log D V) (q : Path) (d : D) → Older (e ∷ f) whole → begun P log q ≡ Some d → makes (shown e.act) e.task (suc ((sight f).taken e.task)) q ≡ true → taken f e.task < taken log e.task
  made_inside e f q d o b m = split (begun_origin P log q d b) where
    made : (c : D) × (made_by e.act e.task (suc (taken f e.task)) q ≡ Some c)
    made = makes_made e.act e.task (suc (taken f e.task)) q (subst (λ n. makes (shown e.act) e.task (suc n) q ≡ true) (sight_taken f e.task) m)

    mine : Origin whole q made.0
    mine = record { by = e.task; event = e; did = history f e.task; at = older_at e f whole o; makes = made.1 }

    split : ((q ≡ []) × (d ≡ P.root)) ⊎ Origin log q d → taken f e.task < taken log e.task
    split (inl w) = absurd (made_not_root P e.act e.task (suc (taken f e.task)) q w.0 (made_how e.act e.task (suc (taken f e.task)) q made.0 made.1))
    split (inr g) = omega (arith, same.place, subst (λ t. length (g.event ∷ g.did) ≤ taken log t) same.path (older_length (g.event ∷ g.did) (history log g.by) g.at)) where
      theirs : Origin whole q d
      theirs = record { by = g.by; event = g.event; did = g.did; at = older_trans (g.event ∷ g.did) (history log g.by) (history whole g.by) g.at (part g.by); makes = g.makes }

      same : SameMaker P g.by e.task g.did (history f e.task)
      same = one_maker P whole q d made.0 whole_runs theirs mine

  -- at one event more of the whole
  sound_step : (e : Event D V) (f : Log D V) → Older (e ∷ f) whole → Sounds f → Sound (e ∷ f)
  unfolding Sound
  sound_step e f o s q d b l r = split (path_cases e.task q) (bool_cases (makes (shown e.act) e.task (suc ((sight f).taken e.task)) q)) where
    split : (e.task ≡ q) ⊎ (e.task ≡ q → ⊥) → (makes (shown e.act) e.task (suc ((sight f).taken e.task)) q ≡ true) ⊎ (makes (shown e.act) e.task (suc ((sight f).taken e.task)) q ≡ false) → known (e ∷ f) q r ≤ taken log r
    split (inl h) m = subst (λ (c : Counts). c r ≤ taken log r) (sym (known_own e f q h)) (own_sound e f r o s (subst (λ t. taken f t < taken log t) (sym h) (omega (arith, l, taken_own e f q h))))
    split (inr n) (inl m) = subst (λ (c : Counts). c r ≤ taken log r) (sym (known_made e f q n m)) (own_sound e f r o s (made_inside e f q d o b m))
    split (inr n) (inr m) = subst (λ (c : Counts). c r ≤ taken log r) (sym (known_other e f q n m)) (sound_here f s q d b (omega (arith, l, taken_other e f q n)) r)

  sounds_at : (f : Log D V) → Older f whole → Sounds f
  unfolding Sounds Sound
  sounds_at [] o = λ q d b l r. omega arith
  sounds_at (e ∷ f) o = let rest = sounds_at f (older_tail e f whole o) in (sound_step e f o rest, rest)

  pub sounds : Sounds whole
  sounds = sounds_at whole (older_same_list whole)

  -- what a task of the part knows at a log of the whole that it has reached, the part has done
  pub sound_at : (f : Log D V) → Older f whole → (q : Path) (d : D) → begun P log q ≡ Some d → taken f q ≤ taken log q → (r : Path) → known f q r ≤ taken log r
  unfolding Sound
  sound_at f o = sound_here f (sounds_older f whole o sounds)
