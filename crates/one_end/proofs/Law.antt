-- One end for every order of tasks.
use Rattle.std.specs.Prelude.{◌⊎◌, ltb, is_some}
use mathlib.Core.Logic.{inl, inr}
use Rattle.std.proofs.Common.{◌≡◌, ◌<◌, ◌≤◌, ℕ, ◌+◌, Bool, true, false, cond, [], ◌∷◌, ◌++◌, length, map, Option, Some, None, refl, sym, ap, subst, ◌∙◌, arith}
use Rattle.std.proofs.lemmas.Bool.{ltb-true, ltb-false, lt-ltb, true≢false}
use Rattle.ir_forms.specs.declared.names.ElementName.{ElementName}
use Rattle.ir_forms.specs.declared.names.MadeName.{MadeName}
use Rattle.ir_forms.specs.Names.{Path, iteration_of, maker}
use Rattle.race_order.specs.Known.{Counts}
use Rattle.one_end.specs.Programs.{Act, Reads, Writes, Allocs, Creates, Adds, Launches, Enters, JoinsAll, AwaitsOne, AwaitsAll, Ends, Outcome, Answer, Program}
use Rattle.one_end.specs.Runs.{Event, Log, history, taken, answers, turns_in, outcome, last_end, Ended, Takes, IsRun, IsFinished, IsEnabled, begun, joins, members, size, HasRoom, IsComplete, Can, answer}
use Rattle.one_end.proofs.Orders.{InOrder, in_order}
use Rattle.one_end.specs.OneEnd.{OneEnd, Agrees}
use Rattle.one_end.proofs.Basics.{path_cases, Older, older_same_list, older_tail, older_length, older_within, older_equal, none≢some, some_inj, next_after}
use Rattle.one_end.proofs.Histories.{history_own, history_other, taken_own, taken_other, Found, find_older, run_older}
use Rattle.one_end.proofs.Makers.{begun_later}
use Rattle.one_end.proofs.Pairs.{Part, older_part, older_nil, begun_same, ended_whole, size_same}
use Rattle.one_end.proofs.Weights.{inside, weigh, inside_light, same_weight}
use Rattle.one_end.proofs.Groups.{made_same, adds_to, members_weight, full_inside}
use Rattle.one_end.proofs.Answers.{answer_same, cell_same, failing, none_failing, each_passes, each_map, fails_in, failing_weight, full_weight}

module _ {D V : Type 0} where
  same_event : (x w : Event D V) → x.task ≡ w.task → x.act ≡ w.act → x.answer ≡ w.answer → x ≡ w
  same_event x w t a r = ap (λ z. make z x.act x.answer) t ∙ (ap (λ z. make w.task z x.answer) a ∙ ap (λ z. make w.task w.act z) r) where
    make : Path → Act D V → Answer V → Event D V
    make t a r = record { task = t; act = a; answer = r }

module _ {D V : Type 0} (P : Program D V) (whole : Log D V) (whole_runs : IsRun P whole) (finished : IsFinished P whole) (ordered : InOrder whole) where
  -- the action that the task takes next in the whole
  next_in : (log : Log D V) (p : Path) (d : D) → Part log whole → begun P log p ≡ Some d → outcome log p ≡ None → (w : Event D V) × Older (w ∷ history log p) (history whole p)
  next_in log p d part made lives = split (part p).0 (part p).1 where
    end : Ended whole p
    end = finished p d (begun_same P whole log p d whole_runs part made)

    split : (m : Log D V) → history whole p ≡ m ++ history log p → (w : Event D V) × Older (w ∷ history log p) (history whole p)
    split [] e = absurd (none≢some end.0 (sym lives ∙ (ap last_end (sym e) ∙ end.1)))
    split (y ∷ m) e = let w = next_after y m (history log p) in (w.0, subst (λ t. Older (w.0 ∷ history log p) t) (sym e) w.1)

  -- one action more is the whole's
  part_step : (x : Event D V) (log : Log D V) → IsRun P (x ∷ log) → Part log whole → Part (x ∷ log) whole
  part_step x log runs part q = by_path (path_cases x.task q) where
    takes : Takes P log x
    takes = runs.0

    next : (w : Event D V) × Older (w ∷ history log x.task) (history whole x.task)
    next = next_in log x.task takes.begin part takes.made takes.lives

    w : Event D V
    w = next.0

    at : Found whole x.task w (history log x.task)
    at = find_older whole x.task w (history log x.task) next.1

    theirs : Takes P at.past w
    theirs = (run_older P (w ∷ at.past) whole at.older whole_runs).0

    task : w.task ≡ x.task
    task = at.task

    did : history at.past w.task ≡ history log w.task
    did = subst (λ t. history at.past t ≡ history log t) (sym task) at.did

    begins : takes.begin ≡ theirs.begin
    begins = some_inj takes.begin theirs.begin (sym (begun_same P whole log x.task takes.begin whole_runs part takes.made) ∙ subst (λ t. begun P whole t ≡ Some theirs.begin) task (begun_later P at.past whole w.task theirs.begin (older_tail w at.past whole at.older) theirs.made))

    act : x.act ≡ w.act
    act = P.one takes.begin (answers log x.task) takes.steps theirs.steps x.act w.act takes.acts (subst (λ d. P.acts d (answers log x.task) theirs.steps ≡ Some w.act) (sym begins) (subst (λ t. P.acts theirs.begin (answers log t) theirs.steps ≡ Some w.act) task (subst (λ h. P.acts theirs.begin (map (λ (e : Event D V). e.answer) h) theirs.steps ≡ Some w.act) did theirs.acts)))

    made : begun P log w.task ≡ Some takes.begin
    made = subst (λ t. begun P log t ≡ Some takes.begin) (sym task) takes.made

    can : Can log w.task w.act
    can = subst (λ a. Can log w.task a) act (subst (λ t. Can log t x.act) (sym task) takes.can)

    told : x.answer ≡ w.answer
    told = takes.told ∙ (ap (λ t. answer P log t x.act) (sym task) ∙ (ap (answer P log w.task) act ∙ (answer_same P whole whole_runs ordered log runs.1 part w at.older.0 at.past at.older.1 did takes.begin made can theirs.can ∙ sym theirs.told)))

    same : x ≡ w
    same = same_event x w (sym task) act told

    by_path : (x.task ≡ q) ⊎ (x.task ≡ q → ⊥) → Older (history (x ∷ log) q) (history whole q)
    by_path (inl h) = subst (λ t. Older t (history whole q)) (sym (history_own x log q h)) (subst (λ t. Older (x ∷ history log t) (history whole t)) h (subst (λ e. Older (e ∷ history log x.task) (history whole x.task)) (sym same) next.1))
    by_path (inr n) = subst (λ t. Older t (history whole q)) (sym (history_other x log q n)) (part q)

  parts : (log : Log D V) → IsRun P log → Part log whole
  parts [] runs = λ q. older_nil (history whole q)
  parts (x ∷ log) runs = part_step x log runs (parts log runs.1)

  module _ (log : Log D V) (runs : IsRun P log) (part : Part log whole) where
    -- the part has done all of this
    Reached : Log D V → Type 0
    Reached [] = Unit {0}
    Reached (e ∷ f) = (taken f e.task < taken log e.task) × Reached f

    -- the first event that it hasn't done
    record Left : Type 0 where
      pub event : Event D V
      pub past : Log D V
      pub older : Older (event ∷ past) whole
      pub before : Reached past
      pub left : taken log event.task ≤ taken past event.task

    first_left : (f : Log D V) → Older f whole → Reached f ⊎ Left
    unfolding Reached
    first_left [] o = inl tt
    first_left (e ∷ f) o = split (first_left f (older_tail e f whole o)) where
      split : Reached f ⊎ Left → Reached (e ∷ f) ⊎ Left
      split (inr l) = inr l
      split (inl r) = by_test (ltb (taken f e.task) (taken log e.task)) refl where
        by_test : (t : Bool) → ltb (taken f e.task) (taken log e.task) ≡ t → Reached (e ∷ f) ⊎ Left
        by_test true q = inl (ltb-true (taken f e.task) (taken log e.task) q, r)
        by_test false q = inr (record { event = e; past = f; older = o; before = r; left = ltb-false (taken f e.task) (taken log e.task) q })

    reached_taken : (f : Log D V) (p : Path) → Reached f → taken f p ≤ taken log p
    unfolding Reached
    reached_taken [] p r = omega arith
    reached_taken (e ∷ f) p r = split (path_cases e.task p) (reached_taken f p r.1) where
      split : (e.task ≡ p) ⊎ (e.task ≡ p → ⊥) → taken f p ≤ taken log p → taken (e ∷ f) p ≤ taken log p
      split (inl h) k = omega (arith, taken_own e f p h, subst (λ t. taken f t < taken log t) h r.0)
      split (inr n) k = omega (arith, k, taken_other e f p n)

    reached_part : (f : Log D V) → Older f whole → Reached f → Part f log
    reached_part f o r p = older_within (history f p) (history log p) (history whole p) (older_part f whole o p) (part p) (reached_taken f p r)

    inside_all : (f : Log D V) → Reached f → inside (taken log) f ≡ f
    unfolding Reached
    inside_all [] r = refl
    inside_all (e ∷ f) r = ap (λ t. cond t (e ∷ inside (taken log) f) (inside (taken log) f)) (lt-ltb (taken f e.task) (taken log e.task) r.0) ∙ ap (λ t. e ∷ t) (inside_all f r.1)

    -- ---- the first event that is left can be taken

    ended_more : (f : Log D V) (p : Path) → Part f whole → Part f log → Ended f p → Ended log p
    ended_more f p in_whole in_log e = (e.0, ap last_end (sym same) ∙ e.1) where
      same : history f p ≡ history log p
      same = older_equal (history f p) (history log p) (in_log p) (omega (arith, ap length (ended_whole P whole f p whole_runs in_whole e), older_length (history log p) (history whole p) (part p)))

    inside_more : (w : Act D V → ℕ) (c d : Counts) (f : Log D V) → ((p : Path) → c p ≤ d p) → weigh w (inside c f) ≤ weigh w (inside d f)
    inside_more w c d [] h = omega arith
    inside_more w c d (e ∷ f) h = split (ltb (taken f e.task) (c e.task)) refl (inside_more w c d f h) where
      bigger : (t : Bool) → weigh w (inside d f) ≤ weigh w (cond t (e ∷ inside d f) (inside d f))
      bigger true = omega arith
      bigger false = omega arith

      split : (t : Bool) → ltb (taken f e.task) (c e.task) ≡ t → weigh w (inside c f) ≤ weigh w (inside d f) → weigh w (cond (ltb (taken f e.task) (c e.task)) (e ∷ inside c f) (inside c f)) ≤ weigh w (cond (ltb (taken f e.task) (d e.task)) (e ∷ inside d f) (inside d f))
      split true q k = subst (λ t. weigh w (cond t (e ∷ inside c f) (inside c f)) ≤ weigh w (cond (ltb (taken f e.task) (d e.task)) (e ∷ inside d f) (inside d f))) (sym q) (subst (λ t. w e.act + weigh w (inside c f) ≤ weigh w (cond t (e ∷ inside d f) (inside d f))) (sym (lt-ltb (taken f e.task) (d e.task) (omega (arith, ltb-true (taken f e.task) (c e.task) q, h e.task)))) (omega (arith, k)))
      split false q k = subst (λ t. weigh w (cond t (e ∷ inside c f) (inside c f)) ≤ weigh w (cond (ltb (taken f e.task) (d e.task)) (e ∷ inside d f) (inside d f))) (sym q) (omega (arith, k, bigger (ltb (taken f e.task) (d e.task))))

    complete_more : (f : Log D V) (g : MadeName) → Part f whole → Part f log → IsComplete f g → IsComplete log g
    complete_more f g in_whole in_log full = record {
      most = full.most;
      created = size_same log f g full.most in_log full.created;
      full = omega (arith, full.full, members_weight g f, members_weight g log, same_weight (adds_to g) whole f in_whole, same_weight (adds_to g) whole log part, inside_more (adds_to g) (taken f) (taken log) whole (λ p. older_length (history f p) (history log p) (in_log p)));
      ended = each_map (λ x. is_some (outcome log (maker x)) ≡ true) (λ x. Ended log (maker x)) (members log g) (λ x. has_outcome (outcome log (maker x))) (each_passes test (members log g) none);
    } where
      test : ElementName → Bool
      test x = is_some (outcome log (maker x))

      has_outcome : (o : Option (Outcome V)) → is_some o ≡ true → (z : Outcome V) × (o ≡ Some z)
      has_outcome (Some z) h = (z, refl)
      has_outcome None h = absurd (true≢false (sym h))

      ended_there : failing test (members f g) ≡ 0
      ended_there = none_failing test (members f g) (each_map (λ x. Ended f (maker x)) (λ x. test x ≡ true) (members f g) (λ x e. ap is_some (ended_more f (maker x) in_whole in_log e).1) full.ended)

      none : failing test (members log g) ≡ 0
      none = omega (arith, ended_there, full_weight P whole whole_runs f g full.most test in_whole full.created full.full, failing_weight test g log, failing_weight test g whole, same_weight (fails_in test g) whole log part, inside_light (fails_in test g) (taken log) whole)

    room_more : (l : Left) (g : MadeName) (y : ElementName) (u : Bool) → l.event.act ≡ Adds g y u → Part l.past log → HasRoom l.past g → HasRoom log g
    room_more l g y u e in_log room = record { most = room.most; created = created; room = split (ltb (length (members log g)) room.most) refl } where
      created : size log g ≡ Some room.most
      created = size_same log l.past g room.most in_log room.created

      joined : joins l.event.act g ≡ y ∷ []
      joined = ap (λ a. joins a g) e ∙ ap (λ t. cond t (y ∷ []) []) (made_same g)

      split : (t : Bool) → ltb (length (members log g)) room.most ≡ t → length (members log g) < room.most
      split true q = ltb-true (length (members log g)) room.most q
      split false q = absurd (omega (arith, l.left, full_inside P whole log g room.most whole_runs part created (ltb-false (length (members log g)) room.most q) l.event l.past l.older (omega (arith, ap length joined))))

    can_more : (l : Left) → Part l.past log → history l.past l.event.task ≡ history log l.event.task → Can l.past l.event.task l.event.act → Can log l.event.task l.event.act
    can_more l in_log did can = by_act l.event.act refl can where
      in_whole : Part l.past whole
      in_whole = older_part l.past whole (older_tail l.event l.past whole l.older)

      by_act : (a : Act D V) → l.event.act ≡ a → Can l.past l.event.task a → Can log l.event.task a
      by_act (Adds g y u) e can = room_more l g y u e in_log can
      by_act JoinsAll e can = λ i m. subst (λ t. Ended log (iteration_of l.event.task t i)) (ap length did) (ended_more l.past (iteration_of l.event.task (taken l.past l.event.task) i) in_whole in_log (can i (subst (λ h. i < turns_in h) (sym did) m)))
      by_act (AwaitsOne y) e can = ended_more l.past (maker y) in_whole in_log can
      by_act (AwaitsAll g) e can = complete_more l.past g in_whole in_log can
      by_act (Reads b i) e can = tt
      by_act (Writes b i n) e can = tt
      by_act (Allocs n) e can = tt
      by_act (Creates n) e can = tt
      by_act (Launches d r) e can = tt
      by_act (Enters ds s) e can = tt
      by_act (Ends o) e can = tt

    left_enabled : (l : Left) → IsEnabled P log l.event.task
    left_enabled l = record {
      begin = takes.begin;
      made = begun_same P log l.past l.event.task takes.begin runs in_log takes.made;
      lives = ap last_end (sym did) ∙ takes.lives;
      steps = takes.steps;
      next = l.event.act;
      acts = subst (λ h. P.acts takes.begin (map (λ (e : Event D V). e.answer) h) takes.steps ≡ Some l.event.act) did takes.acts;
      can = can_more l in_log did takes.can;
    } where
      takes : Takes P l.past l.event
      takes = (run_older P (l.event ∷ l.past) whole l.older whole_runs).0

      in_log : Part l.past log
      in_log = reached_part l.past (older_tail l.event l.past whole l.older) l.before

      did : history l.past l.event.task ≡ history log l.event.task
      did = older_equal (history l.past l.event.task) (history log l.event.task) (in_log l.event.task) l.left

    -- ---- the end

    all_done : Reached whole → (p : Path) → history log p ≡ history whole p
    all_done r p = older_equal (history log p) (history whole p) (part p) (reached_taken whole p r)

    reached_finished : Reached whole → IsFinished P log
    reached_finished r p d made = let end = finished p d (begun_same P whole log p d whole_runs part made) in (end.0, ap last_end (all_done r p) ∙ end.1)

    finished_reached : IsFinished P log → Reached whole
    finished_reached done = split (first_left whole (older_same_list whole)) where
      split : Reached whole ⊎ Left → Reached whole
      split (inl r) = r
      split (inr l) = let on = left_enabled l in let end = done l.event.task on.begin on.made in absurd (none≢some end.0 (sym on.lives ∙ end.1))

    agrees : Agrees P whole log
    agrees = record {
      histories = part;
      goes_on = λ open_end. goes open_end (first_left whole (older_same_list whole));
      one_end = λ done p. ap last_end (all_done (finished_reached done) p);
      one_memory = λ done b i. cell_same P whole whole_runs ordered log runs part b i (inside_all whole (finished_reached done));
    } where
      goes : (IsFinished P log → ⊥) → Reached whole ⊎ Left → (p : Path) × IsEnabled P log p
      goes open_end (inl r) = absurd (open_end (reached_finished r))
      goes open_end (inr l) = (l.event.task, left_enabled l)

pub law : (D V : Type 0) → OneEnd D V
law D V P whole whole_runs finished ordered log runs = agrees P whole whole_runs finished (in_order whole ordered) log runs (parts P whole whole_runs finished (in_order whole ordered) log runs)
