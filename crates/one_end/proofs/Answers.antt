-- An action that a part of a run comes to is told what it is told in the whole run.
use Rattle.std.specs.Prelude.{ltb, ◌&&◌, ◌||◌, nat_eq, is_some}
use Rattle.std.proofs.Common.{◌≡◌, ◌<◌, ◌≤◌, ℕ, zero, suc, ◌+◌, Bool, true, false, cond, List, [], ◌∷◌, ◌++◌, length, Some, None, refl, sym, ap, subst, ◌∙◌, arith}
use Rattle.std.proofs.Math.Dec.{eqb-suc-zero}
use Rattle.std.proofs.lemmas.Bool.{true≢false, eq-eqb, eqb-true}
use Rattle.ir_forms.specs.declared.names.ElementName.{ElementName}
use Rattle.ir_forms.specs.declared.names.MadeName.{MadeName}
use Rattle.ir_forms.specs.declared.names.Action.TheVariants.{Read, Write, Add}
use Rattle.ir_forms.specs.Names.{Path, iteration_of, same_made, maker}
use Rattle.race_order.specs.Known.{Counts}
use Rattle.race_order.specs.Race.{clash}
use Rattle.one_end.specs.Programs.{Act, Reads, Writes, Allocs, Creates, Adds, Launches, Enters, JoinsAll, AwaitsOne, AwaitsAll, Ends, Number, Program, is_good, shown}
use Rattle.one_end.specs.Runs.{Event, Log, history, taken, turns, turns_in, outcome, last_end, Ended, IsRun, begun, cell, joins, members, size, Each, all_of, all_below, IsComplete, Can, unless_failed, awaited, answer}
use Rattle.one_end.proofs.Orders.{InOrder}
use Rattle.one_end.proofs.Basics.{older_tail}
use Rattle.one_end.proofs.Pairs.{Part, older_part, size_same, ended_whole}
use Rattle.one_end.proofs.Weights.{inside, weigh, inside_light, same_weight}
use Rattle.one_end.proofs.Groups.{made_yes, made_same, adds_to, members_weight, room_for}
use Rattle.one_end.proofs.Touches.{only, touches_same, kept_order, puts, cell_only, is_any, enters_group, members_only}

-- ---- which actions touch a cell or a group

pub self_touch : (b : MadeName) (i : ℕ) → same_made b b && nat_eq i i ≡ true
self_touch b i = ap (λ t. t && nat_eq i i) (made_same b) ∙ eq-eqb i i refl

both_used : (g : MadeName) (u v : Bool) → u || v ≡ true → same_made g g && (u || v) ≡ true
both_used g u v h = ap (λ t. t && (u || v)) (made_same g) ∙ h

or_true : (u : Bool) → u || true ≡ true
or_true true = refl
or_true false = refl

true_or : (u : Bool) → true || u ≡ true
true_or true = refl
true_or false = refl

module _ {D V : Type 0} where
  puts_write : (b : MadeName) (i : ℕ) (a : Act D V) → puts b i a ≡ true → (n : ℕ) × (shown a ≡ Write b i)
  puts_write b i (Writes c j n) e = split (same_made c b) refl (nat_eq j i) refl e where
    split : (s : Bool) → same_made c b ≡ s → (t : Bool) → nat_eq j i ≡ t → is_some (cond (s && t) (Some n) None) ≡ true → (n : ℕ) × (Write c j ≡ Write b i)
    split true h true k w = (n, ap (λ t. Write t j) (made_yes c b h) ∙ ap (Write b) (eqb-true j i k))
    split true h false k w = absurd (true≢false (sym w))
    split false h t k w = absurd (true≢false (sym w))
  puts_write b i (Reads c j) e = absurd (true≢false (sym e))
  puts_write b i (Allocs n) e = absurd (true≢false (sym e))
  puts_write b i (Creates n) e = absurd (true≢false (sym e))
  puts_write b i (Adds g x u) e = absurd (true≢false (sym e))
  puts_write b i (Launches d r) e = absurd (true≢false (sym e))
  puts_write b i (Enters ds s) e = absurd (true≢false (sym e))
  puts_write b i JoinsAll e = absurd (true≢false (sym e))
  puts_write b i (AwaitsOne x) e = absurd (true≢false (sym e))
  puts_write b i (AwaitsAll g) e = absurd (true≢false (sym e))
  puts_write b i (Ends o) e = absurd (true≢false (sym e))

  record IsAdd (g : MadeName) (a : Act D V) : Type 0 where
    pub element : ElementName
    pub used : Bool
    pub is_add : shown a ≡ Add g element used

  enters_add : (g : MadeName) (a : Act D V) → enters_group g a ≡ true → IsAdd g a
  enters_add g (Adds h x u) e = split (same_made h g) refl e where
    split : (s : Bool) → same_made h g ≡ s → is_any (cond s (x ∷ []) []) ≡ true → IsAdd g (Adds h x u)
    split true i w = record { element = x; used = u; is_add = ap (λ t. Add t x u) (made_yes h g i) }
    split false i w = absurd (true≢false (sym w))
  enters_add g (Reads c j) e = absurd (true≢false (sym e))
  enters_add g (Writes c j n) e = absurd (true≢false (sym e))
  enters_add g (Allocs n) e = absurd (true≢false (sym e))
  enters_add g (Creates n) e = absurd (true≢false (sym e))
  enters_add g (Launches d r) e = absurd (true≢false (sym e))
  enters_add g (Enters ds s) e = absurd (true≢false (sym e))
  enters_add g JoinsAll e = absurd (true≢false (sym e))
  enters_add g (AwaitsOne x) e = absurd (true≢false (sym e))
  enters_add g (AwaitsAll h) e = absurd (true≢false (sym e))
  enters_add g (Ends o) e = absurd (true≢false (sym e))

  puts_clash : (b : MadeName) (i : ℕ) (a c : Act D V) → puts b i a ≡ true → puts b i c ≡ true → clash (shown a) (shown c) ≡ true
  puts_clash b i a c h k = subst (λ t. clash t (shown c) ≡ true) (sym (puts_write b i a h).1) (subst (λ t. clash (Write b i) t ≡ true) (sym (puts_write b i c k).1) (self_touch b i))

  read_after : (b : MadeName) (i : ℕ) (c : Act D V) → puts b i c ≡ true → clash (shown c) (Read b i) ≡ true
  read_after b i c h = subst (λ t. clash t (Read b i) ≡ true) (sym (puts_write b i c h).1) (self_touch b i)

  read_before : (b : MadeName) (i : ℕ) (c : Act D V) → puts b i c ≡ true → clash (Read b i) (shown c) ≡ true
  read_before b i c h = subst (λ t. clash (Read b i) t ≡ true) (sym (puts_write b i c h).1) (self_touch b i)

  add_after : (g : MadeName) (x : ElementName) (c : Act D V) → enters_group g c ≡ true → clash (shown c) (Add g x true) ≡ true
  add_after g x c h = let a = enters_add g c h in subst (λ t. clash t (Add g x true) ≡ true) (sym a.is_add) (both_used g a.used true (or_true a.used))

  add_before : (g : MadeName) (x : ElementName) (c : Act D V) → enters_group g c ≡ true → clash (Add g x true) (shown c) ≡ true
  add_before g x c h = let a = enters_add g c h in subst (λ t. clash (Add g x true) t ≡ true) (sym a.is_add) (both_used g true a.used (true_or a.used))

-- ---- tests of all members

pub failing : {X : Type 0} → (X → Bool) → List X → ℕ
failing test [] = 0
failing test (x ∷ xs) = cond (test x) (failing test xs) (suc (failing test xs))

pub failing_append : {X : Type 0} (test : X → Bool) (xs ys : List X) → failing test (xs ++ ys) ≡ failing test xs + failing test ys
unfolding failing
failing_append test [] ys = omega arith
failing_append test (x ∷ xs) ys = split (test x) (failing_append test xs ys) where
  split : (t : Bool) → failing test (xs ++ ys) ≡ failing test xs + failing test ys → cond t (failing test (xs ++ ys)) (suc (failing test (xs ++ ys))) ≡ cond t (failing test xs) (suc (failing test xs)) + failing test ys
  split true h = h
  split false h = omega (arith, h)

pub none_failing : {X : Type 0} (test : X → Bool) (xs : List X) → Each (λ x. test x ≡ true) xs → failing test xs ≡ 0
unfolding failing
none_failing test [] h = refl
none_failing test (x ∷ xs) h = ap (λ t. cond t (failing test xs) (suc (failing test xs))) h.0 ∙ none_failing test xs h.1

pub each_passes : {X : Type 0} (test : X → Bool) (xs : List X) → failing test xs ≡ 0 → Each (λ x. test x ≡ true) xs
unfolding failing
each_passes test [] h = tt
each_passes test (x ∷ xs) h = split (test x) refl (each_passes test xs) where
  split : (t : Bool) → test x ≡ t → (failing test xs ≡ 0 → Each (λ x. test x ≡ true) xs) → (test x ≡ true) × Each (λ x. test x ≡ true) xs
  split true e f = (e, f (sym (ap (λ t. cond t (failing test xs) (suc (failing test xs))) e) ∙ h))
  split false e f = absurd (omega (arith, sym (ap (λ t. cond t (failing test xs) (suc (failing test xs))) e) ∙ h))

all_failing : {X : Type 0} (test : X → Bool) (xs : List X) → all_of test xs ≡ nat_eq (failing test xs) 0
unfolding failing
all_failing test [] = refl
all_failing test (x ∷ xs) = split (test x) (all_failing test xs) where
  split : (t : Bool) → all_of test xs ≡ nat_eq (failing test xs) 0 → cond t (all_of test xs) false ≡ nat_eq (cond t (failing test xs) (suc (failing test xs))) 0
  split true h = h
  split false h = sym (eqb-suc-zero (failing test xs))

all_same : {X : Type 0} (s t : X → Bool) (xs : List X) → Each (λ x. s x ≡ t x) xs → all_of s xs ≡ all_of t xs
all_same s t [] h = refl
all_same s t (x ∷ xs) h = ap (λ z. cond z (all_of s xs) false) h.0 ∙ ap (λ z. cond (t x) z false) (all_same s t xs h.1)

below_same : (s t : ℕ → Bool) (n : ℕ) → ((i : ℕ) → i < n → s i ≡ t i) → all_below s n ≡ all_below t n
below_same s t zero h = refl
below_same s t (suc n) h = ap (λ z. cond z (all_below s n) false) (h n (omega arith)) ∙ ap (λ z. cond (t n) z false) (below_same s t n (λ i l. h i (omega (arith, l))))

pub each_map : {X : Type 0} (Q R : X → Type 0) (xs : List X) → ((x : X) → Q x → R x) → Each Q xs → Each R xs
each_map Q R [] f h = tt
each_map Q R (x ∷ xs) f h = (f x h.0, each_map Q R xs f h.1)

-- ---- weights of what a group holds

module _ {D V : Type 0} where
  -- how many of the elements that the action adds fail the test
  abbrev pub fails_in : (ElementName → Bool) → MadeName → Act D V → ℕ
  fails_in test g a = failing test (joins a g)

  pub failing_weight : (test : ElementName → Bool) (g : MadeName) (log : Log D V) → failing test (members log g) ≡ weigh (fails_in test g) log
  unfolding failing
  failing_weight test g [] = refl
  failing_weight test g (e ∷ log) = failing_append test (joins e.act g) (members log g) ∙ ap (λ n. failing test (joins e.act g) + n) (failing_weight test g log)

  none_added : (test : ElementName → Bool) (g : MadeName) (a : Act D V) → adds_to g a ≡ 0 → fails_in test g a ≡ 0
  unfolding failing
  none_added test g a h = split (joins a g) h where
    split : (xs : List ElementName) → length xs ≡ 0 → failing test xs ≡ 0
    split [] h = refl
    split (x ∷ xs) h = absurd (omega (arith, h))

  same_heavy : (v w : Act D V → ℕ) (c : Counts) (log : Log D V) → ((a : Act D V) → v a ≡ 0 → w a ≡ 0) → weigh v log ≤ weigh v (inside c log) → weigh w (inside c log) ≡ weigh w log
  same_heavy v w c [] h l = refl
  same_heavy v w c (e ∷ log) h l = split (ltb (taken log e.task) (c e.task)) l (same_heavy v w c log h) where
    split : (t : Bool) → v e.act + weigh v log ≤ weigh v (cond t (e ∷ inside c log) (inside c log)) → (weigh v log ≤ weigh v (inside c log) → weigh w (inside c log) ≡ weigh w log) → weigh w (cond t (e ∷ inside c log) (inside c log)) ≡ w e.act + weigh w log
    split true q f = omega (arith, f (omega (arith, q)))
    split false q f = omega (arith, f (omega (arith, q)), h e.act (omega (arith, q, inside_light v c log)))

module _ {D V : Type 0} (P : Program D V) (whole : Log D V) (whole_runs : IsRun P whole) where
  -- a part with a full group has all of it
  pub full_weight : (log : Log D V) (g : MadeName) (n : ℕ) (test : ElementName → Bool) → Part log whole → size log g ≡ Some n → n ≤ length (members log g) → failing test (members log g) ≡ failing test (members whole g)
  full_weight log g n test part s l = failing_weight test g log ∙ (same_weight (fails_in test g) whole log part ∙ (same_heavy (adds_to g) (fails_in test g) (taken log) whole (none_added test g) heavy ∙ sym (failing_weight test g whole))) where
    heavy : weigh (adds_to g) whole ≤ weigh (adds_to g) (inside (taken log) whole)
    heavy = omega (arith, l, room_for P whole g n whole_runs (size_same whole log g n part s), members_weight g whole, members_weight g log, same_weight (adds_to g) whole log part)

  pub ended_same : (log : Log D V) (p : Path) → Part log whole → Ended log p → outcome log p ≡ outcome whole p
  ended_same log p part e = ap last_end (ended_whole P whole log p whole_runs part e)

  -- whether a full group's members are all good
  members_good : (log : Log D V) (g : MadeName) → Part log whole → IsComplete log g → all_of (λ x. is_good (outcome log (maker x))) (members log g) ≡ all_of (λ x. is_good (outcome whole (maker x))) (members whole g)
  members_good log g part full = all_same (λ x. is_good (outcome log (maker x))) test (members log g) (each_map (λ x. Ended log (maker x)) (λ x. is_good (outcome log (maker x)) ≡ test x) (members log g) (λ x e. ap is_good (ended_same log (maker x) part e)) full.ended) ∙ (all_failing test (members log g) ∙ (ap (λ n. nat_eq n 0) (full_weight log g full.most test part full.created full.full) ∙ sym (all_failing test (members whole g)))) where
    test : ElementName → Bool
    test x = is_good (outcome whole (maker x))

module _ {D V : Type 0} (P : Program D V) (whole : Log D V) (whole_runs : IsRun P whole) (ordered : InOrder whole) (log : Log D V) (runs : IsRun P log) (part : Part log whole) where
  -- the answer to the next action of a task
  pub answer_same : (x : Event D V) (b f : Log D V) → whole ≡ b ++ x ∷ f → history f x.task ≡ history log x.task → (d : D) → begun P log x.task ≡ Some d → Can log x.task x.act → Can f x.task x.act → answer P log x.task x.act ≡ answer P f x.task x.act
  answer_same x b f at did d made can can_there = by_act x.act refl can can_there where
    in_whole : Part f whole
    in_whole = older_part f whole (older_tail x f whole (b, at))

    next : taken f x.task ≡ taken log x.task
    next = ap length did

    touched : (t : Act D V → Bool) → ((c : Act D V) → t c ≡ true → clash (shown c) (shown x.act) ≡ true) → ((c : Act D V) → t c ≡ true → clash (shown x.act) (shown c) ≡ true) → only t (inside (taken log) whole) ≡ only t f
    touched t h k = touches_same P whole whole_runs ordered log runs part x f next d made t h k b at

    outcomes : (p : Path) → Ended log p → Ended f p → outcome log p ≡ outcome f p
    outcomes p e h = ended_same P whole whole_runs log p part e ∙ sym (ended_same P whole whole_runs f p in_whole h)

    rank : (g : MadeName) (y : ElementName) → x.act ≡ Adds g y true → length (members log g) ≡ length (members f g)
    rank g y e = members_weight g log ∙ (same_weight (adds_to g) whole log part ∙ (sym (members_weight g (inside (taken log) whole)) ∙ ap length (members_only g (inside (taken log) whole) ∙ (ap (λ z. members z g) (touched (enters_group g) (λ c h. subst (λ a. clash (shown c) (shown a) ≡ true) (sym e) (add_after g y c h)) (λ c h. subst (λ a. clash (shown a) (shown c) ≡ true) (sym e) (add_before g y c h))) ∙ sym (members_only g f)))))

    number : (c : MadeName) (i : ℕ) → x.act ≡ Reads c i → cell P log c i ≡ cell P f c i
    number c i e = cell_only P c i log ∙ (ap (λ z. cell P z c i) (kept_order P whole whole_runs ordered (puts c i) (puts_clash c i) log runs part ∙ touched (puts c i) (λ a h. subst (λ z. clash (shown a) (shown z) ≡ true) (sym e) (read_after c i a h)) (λ a h. subst (λ z. clash (shown z) (shown a) ≡ true) (sym e) (read_before c i a h))) ∙ sym (cell_only P c i f))

    by_act : (a : Act D V) → x.act ≡ a → Can log x.task a → Can f x.task a → answer P log x.task a ≡ answer P f x.task a
    by_act (Reads c i) e can there = ap Number (number c i e)
    by_act (Adds g y true) e can there = ap Number (rank g y e)
    by_act (Adds g y false) e can there = refl
    by_act JoinsAll e can there = ap unless_failed (below_same (λ i. is_good (outcome log (iteration_of x.task (taken log x.task) i))) (λ i. is_good (outcome f (iteration_of x.task (taken log x.task) i))) (turns log x.task) (λ i l. ap is_good (outcomes (iteration_of x.task (taken log x.task) i) (can i l) (subst (λ t. Ended f (iteration_of x.task t i)) next (there i (subst (λ t. i < turns_in t) (sym did) l))))) ∙ (ap (λ n. all_below (λ i. is_good (outcome f (iteration_of x.task n i))) (turns log x.task)) (sym next) ∙ ap (λ h. all_below (λ i. is_good (outcome f (iteration_of x.task (taken f x.task) i))) (turns_in h)) (sym did)))
    by_act (AwaitsOne y) e can there = ap awaited (outcomes (maker y) can there)
    by_act (AwaitsAll g) e can there = ap unless_failed (members_good P whole whole_runs log g part can ∙ sym (members_good P whole whole_runs f g in_whole there))
    by_act (Writes c i n) e can there = refl
    by_act (Allocs n) e can there = refl
    by_act (Creates n) e can there = refl
    by_act (Launches c r) e can there = refl
    by_act (Enters ds s) e can there = refl
    by_act (Ends o) e can there = refl

  -- a cell where the part has done all
  pub cell_same : (b : MadeName) (i : ℕ) → inside (taken log) whole ≡ whole → cell P log b i ≡ cell P whole b i
  cell_same b i e = cell_only P b i log ∙ (ap (λ z. cell P z b i) (kept_order P whole whole_runs ordered (puts b i) (puts_clash b i) log runs part ∙ ap (only (puts b i)) e) ∙ sym (cell_only P b i whole))
