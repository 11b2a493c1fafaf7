-- What is known are entries that there are.
use Rattle.std.specs.Prelude.{◌⊎◌, max}
use mathlib.Core.Logic.{inl, inr}
use Rattle.std.proofs.Common.{◌≡◌, ◌≤◌, ℕ, zero, suc, Bool, true, false, cond, List, [], ◌∷◌, refl, sym, ap, subst, ◌∙◌, arith}
use Rattle.std.proofs.Math.Nat.{max-le}
use Rattle.ir_forms.specs.declared.names.Action.{Action}
use Rattle.ir_forms.specs.declared.names.MadeName.{MadeName}
use Rattle.ir_forms.specs.declared.names.Action.TheVariants.{Read, Write, Alloc, Create, Add, Launch, Enter, JoinAll, Await, AwaitAll, End}
use Rattle.ir_forms.specs.Names.{Path, iteration_of, same_made, maker}
use Rattle.race_order.specs.Known.{Counts, Sight, Added, one_more, known_by_all, known_by_members, learned, own, entered, added, makes}
use Rattle.one_end.specs.Programs.{Act, Reads, Writes, Allocs, Creates, Adds, Launches, Enters, JoinsAll, AwaitsOne, AwaitsAll, Ends, shown}
use Rattle.one_end.specs.Runs.{Event, Log, taken, turns, turns_in, turns_of, entry_of, Each}
use Rattle.one_end.proofs.Orders.{sight, known}
use Rattle.one_end.proofs.Basics.{path_cases, bool_cases, here, there}
use Rattle.one_end.proofs.Histories.{history_own, history_other, taken_own, taken_other, older_taken}

-- ---- bounds

all_le : (p : Path) (k m : ℕ) (s : Sight) (r : Path) (n : ℕ) → ((q : Path) → s.knows q r ≤ n) → known_by_all p k m s r ≤ n
all_le p k zero s r n h = omega arith
all_le p k (suc m) s r n h = max-le (h (iteration_of p k m)) (all_le p k m s r n h)

members_le : (g : MadeName) (s : Sight) (adds : List Added) (r : Path) (n : ℕ) → ((q : Path) → s.knows q r ≤ n) → Each (λ (a : Added). a.adder r ≤ n) adds → known_by_members g s adds r ≤ n
members_le g s [] r n h k = omega arith
members_le g s (a ∷ adds) r n h k = split (same_made a.group g) (members_le g s adds r n h k.1) where
  split : (t : Bool) → known_by_members g s adds r ≤ n → cond t (max (max (s.knows (maker a.element) r) (a.adder r)) (known_by_members g s adds r)) (known_by_members g s adds r) ≤ n
  split true rest = max-le (max-le (h (maker a.element)) k.0) rest
  split false rest = rest

learned_le : (p : Path) (a : Action) (s : Sight) (r : Path) (n : ℕ) → ((q : Path) → s.knows q r ≤ n) → Each (λ (a : Added). a.adder r ≤ n) s.adds → learned p a s r ≤ n
learned_le p (Await x) s r n h k = h (maker x)
learned_le p (AwaitAll g) s r n h k = members_le g s s.adds r n h k
learned_le p JoinAll s r n h k = all_le p (s.taken p) (s.turns p) s r n h
learned_le p (Read b i) s r n h k = omega arith
learned_le p (Write b i) s r n h k = omega arith
learned_le p (Alloc m) s r n h k = omega arith
learned_le p (Create m) s r n h k = omega arith
learned_le p (Add g x u) s r n h k = omega arith
learned_le p (Launch m) s r n h k = omega arith
learned_le p (Enter m b) s r n h k = omega arith
learned_le p (End b) s r n h k = omega arith

each_le : (adds : List Added) (r : Path) (m n : ℕ) → m ≤ n → Each (λ (a : Added). a.adder r ≤ m) adds → Each (λ (a : Added). a.adder r ≤ n) adds
each_le [] r m n l h = tt
each_le (a ∷ adds) r m n l h = (omega (arith, l, h.0), each_le adds r m n l h.1)

added_le : (a : Action) (c : Counts) (adds : List Added) (r : Path) (n : ℕ) → c r ≤ n → Each (λ (a : Added). a.adder r ≤ n) adds → Each (λ (a : Added). a.adder r ≤ n) (added a c adds)
added_le (Add g x u) c adds r n l h = (l, h)
added_le (Await x) c adds r n l h = h
added_le (AwaitAll g) c adds r n l h = h
added_le JoinAll c adds r n l h = h
added_le (Read b i) c adds r n l h = h
added_le (Write b i) c adds r n l h = h
added_le (Alloc m) c adds r n l h = h
added_le (Create m) c adds r n l h = h
added_le (Launch m) c adds r n l h = h
added_le (Enter m b) c adds r n l h = h
added_le (End b) c adds r n l h = h

module _ {D V : Type 0} where
  -- ---- what the sight says

  pub sight_taken : (log : Log D V) (p : Path) → (sight log).taken p ≡ taken log p
  sight_taken [] p = refl
  sight_taken (e ∷ log) p = split (path_cases e.task p) (sight_taken log p) where
    split : (e.task ≡ p) ⊎ (e.task ≡ p → ⊥) → (sight log).taken p ≡ taken log p → one_more e.task (sight log).taken p ≡ taken (e ∷ log) p
    split (inl h) k = here e.task p (suc ((sight log).taken p)) ((sight log).taken p) h ∙ (ap suc k ∙ sym (taken_own e log p h))
    split (inr n) k = there e.task p (suc ((sight log).taken p)) ((sight log).taken p) n ∙ (k ∙ sym (taken_other e log p n))

  entered_same : (a : Act D V) (n : ℕ) → entered (shown a) n ≡ turns_of a n
  entered_same (Enters ds s) n = refl
  entered_same (Reads b i) n = refl
  entered_same (Writes b i m) n = refl
  entered_same (Allocs m) n = refl
  entered_same (Creates m) n = refl
  entered_same (Adds g x u) n = refl
  entered_same (Launches d r) n = refl
  entered_same JoinsAll n = refl
  entered_same (AwaitsOne x) n = refl
  entered_same (AwaitsAll g) n = refl
  entered_same (Ends o) n = refl

  pub sight_turns : (log : Log D V) (p : Path) → (sight log).turns p ≡ turns log p
  sight_turns [] p = refl
  sight_turns (e ∷ log) p = split (path_cases e.task p) (sight_turns log p) where
    split : (e.task ≡ p) ⊎ (e.task ≡ p → ⊥) → (sight log).turns p ≡ turns log p → (sight (e ∷ log)).turns p ≡ turns (e ∷ log) p
    split (inl h) k = here e.task p (entered (shown e.act) ((sight log).turns p)) ((sight log).turns p) h ∙ (ap (entered (shown e.act)) k ∙ (entered_same e.act (turns log p) ∙ ap turns_in (sym (history_own e log p h))))
    split (inr n) k = there e.task p (entered (shown e.act) ((sight log).turns p)) ((sight log).turns p) n ∙ (k ∙ ap turns_in (sym (history_other e log p n)))

  -- ---- what a task knows after an entry

  pub known_own : (e : Event D V) (log : Log D V) (q : Path) → e.task ≡ q → known (e ∷ log) q ≡ own (entry_of e) (sight log)
  known_own e log q h = here e.task q (own (entry_of e) (sight log)) (cond (makes (shown e.act) e.task (suc ((sight log).taken e.task)) q) (own (entry_of e) (sight log)) ((sight log).knows q)) h

  pub known_made : (e : Event D V) (log : Log D V) (q : Path) → (e.task ≡ q → ⊥) → makes (shown e.act) e.task (suc ((sight log).taken e.task)) q ≡ true → known (e ∷ log) q ≡ own (entry_of e) (sight log)
  known_made e log q n m = there e.task q (own (entry_of e) (sight log)) (cond (makes (shown e.act) e.task (suc ((sight log).taken e.task)) q) (own (entry_of e) (sight log)) ((sight log).knows q)) n ∙ ap (λ t. cond t (own (entry_of e) (sight log)) ((sight log).knows q)) m

  pub known_other : (e : Event D V) (log : Log D V) (q : Path) → (e.task ≡ q → ⊥) → makes (shown e.act) e.task (suc ((sight log).taken e.task)) q ≡ false → known (e ∷ log) q ≡ known log q
  known_other e log q n m = there e.task q (own (entry_of e) (sight log)) (cond (makes (shown e.act) e.task (suc ((sight log).taken e.task)) q) (own (entry_of e) (sight log)) ((sight log).knows q)) n ∙ ap (λ t. cond t (own (entry_of e) (sight log)) ((sight log).knows q)) m

  pub record Bounded (log : Log D V) : Type 0 where
    pub knows : (q r : Path) → known log q r ≤ taken log r
    pub adds : (r : Path) → Each (λ (a : Added). a.adder r ≤ taken log r) (sight log).adds

  one_more_le : (e : Event D V) (log : Log D V) (c : Counts) (r : Path) → c r ≤ taken log r → one_more e.task c r ≤ taken (e ∷ log) r
  one_more_le e log c r h = split (path_cases e.task r) where
    split : (e.task ≡ r) ⊎ (e.task ≡ r → ⊥) → one_more e.task c r ≤ taken (e ∷ log) r
    split (inl w) = omega (arith, h, here e.task r (suc (c r)) (c r) w, taken_own e log r w)
    split (inr n) = omega (arith, h, there e.task r (suc (c r)) (c r) n, taken_other e log r n)

  taken_more : (e : Event D V) (log : Log D V) (r : Path) → taken log r ≤ taken (e ∷ log) r
  taken_more e log r = older_taken log (e ∷ log) r (e ∷ [], refl)

  own_le : (e : Event D V) (log : Log D V) (r : Path) → Bounded log → own (entry_of e) (sight log) r ≤ taken (e ∷ log) r
  own_le e log r b = max-le (one_more_le e log (known log e.task) r (b.knows e.task r)) (omega (arith, taken_more e log r, learned_le e.task (shown e.act) (sight log) r (taken log r) (λ q. b.knows q r) (b.adds r)))

  pub bounded : (log : Log D V) → Bounded log
  bounded [] = record { knows = λ q r. omega arith; adds = λ r. tt }
  bounded (e ∷ log) = step (bounded log) where
    step : Bounded log → Bounded (e ∷ log)
    step b = record {
      knows = λ q r. knows q r (path_cases e.task q) (bool_cases (makes (shown e.act) e.task (suc ((sight log).taken e.task)) q));
      adds = λ r. added_le (shown e.act) (own (entry_of e) (sight log)) (sight log).adds r (taken (e ∷ log) r) (own_le e log r b) (each_le (sight log).adds r (taken log r) (taken (e ∷ log) r) (taken_more e log r) (b.adds r));
    } where
      knows : (q r : Path) → (e.task ≡ q) ⊎ (e.task ≡ q → ⊥) → (makes (shown e.act) e.task (suc ((sight log).taken e.task)) q ≡ true) ⊎ (makes (shown e.act) e.task (suc ((sight log).taken e.task)) q ≡ false) → known (e ∷ log) q r ≤ taken (e ∷ log) r
      knows q r (inl h) m = subst (λ (c : Counts). c r ≤ taken (e ∷ log) r) (sym (known_own e log q h)) (own_le e log r b)
      knows q r (inr n) (inl m) = subst (λ (c : Counts). c r ≤ taken (e ∷ log) r) (sym (known_made e log q n m)) (own_le e log r b)
      knows q r (inr n) (inr m) = subst (λ (c : Counts). c r ≤ taken (e ∷ log) r) (sym (known_other e log q n m)) (omega (arith, b.knows q r, taken_more e log r))
