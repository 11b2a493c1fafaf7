-- What a step that asks or ends does to a state and to the log that mirrors it.
use Rattle.std.specs.Prelude.{◌⊎◌, cond, map}
use mathlib.Core.Logic.{inl, inr}
use Rattle.std.specs.List.{find}
use Rattle.std.specs.Option.{option_map}
use Rattle.std.proofs.Common.{◌≡◌, ℕ, suc, ◌+◌, Bool, true, false, List, [], ◌∷◌, ◌++◌, length, Option, Some, None, refl, sym, ap, subst, ◌∙◌, arith}
use Rattle.std.proofs.lemmas.List.{length-map, map-append}
use Rattle.ir_forms.specs.declared.args.ArgValue.{ArgValue}
use Rattle.ir_forms.specs.declared.names.Action.{Action}
use Rattle.ir_forms.specs.declared.names.Action.TheVariants as act
use Rattle.ir_forms.specs.declared.names.MadeName.{MadeName}
use Rattle.ir_forms.specs.declared.names.ElementName.{ElementName}
use Rattle.ir_forms.specs.declared.ops.ValueNo.{ValueNo}
use Rattle.ir_forms.specs.Names.{Path, same_path}
use Rattle.one_end.specs.Programs as one
use Rattle.one_end.specs.Runs as runs
use Rattle.one_end.proofs.Basics.{path_cases, here, there}
use Rattle.one_end.proofs.Histories.{history_own, history_other, taken_own}
use Rattle.source_meaning.specs.Values.{nothing}
use Rattle.source_meaning.specs.Parts.{uses_of}
use Rattle.source_meaning.specs.Tasks.{Program, Task, Ask, Reads, Writes, Allocs, Creates, Adds, Launches, Enters, JoinsAll, AwaitsOne, AwaitsAll, Answer, Outcome, Asks, Ends, told, resumed}
use Rattle.source_meaning.specs.Steps.{next}
use Rattle.source_meaning.specs.World.{World, after, ended, enabled, shown, shown_end, numbers_from}
use Rattle.source_meaning.specs.World as world
use Rattle.source_meaning.specs.TaskOrder.{Live, Event, Order, newly, made_by, moved, replaced, without, logged, task_at, shown_in, history}
use Rattle.source_meaning.specs.TaskOrder as order
use Rattle.end_laws.specs.ModuleProgram.{Begin, Values, asked, acted, reply, ended_as}
use Rattle.end_laws.specs.ModuleProgram as program
use Rattle.end_laws.specs.Unread.{LikeTask, LikeAsk}
use Rattle.end_laws.specs.Unread as like
use Rattle.order_laws.specs.SameEnd.{used_answer, used_history}
use Rattle.order_laws.proofs.Held.{Names}
use Rattle.order_laws.proofs.Quiet.{Stands, NextIs, AskedNext, stands_asks, stands_ends, next_acts, stands_after, like_reply, resumed_like, rank_free}
use Rattle.order_laws.proofs.Shared.{Buf, Grp, shared_ended}
use Rattle.order_laws.proofs.Acting.{clipped, AllocFits, IsUsed, can_of, answer_is, shared_after}
use Rattle.order_laws.proofs.Holding.{Holds, HeldOutcome, Asking, holds_ends, holds_asks, holds_after, holds_mono, outcome_held, buf_after, grp_after, outcome_after}
use Rattle.order_laws.proofs.Found.{found, found_append, found_replaced, found_without, MadeIs, made_is}
use Rattle.order_laws.proofs.Shared.{either_none}
use Rattle.order_laws.proofs.Holding.{buf_same, grp_same}
use Rattle.order_laws.proofs.Mirror.{clipped_program, shown_like, shown_asked, good_end, showing, replies, Told, ToldBy, history_snoc, TaskIs, Mirrors, fresh, unborn_history, Living, living}

module _ (p : Program) (uses : p.uses ≡ map uses_of p.funcs) (entry : ℕ) (args : List ArgValue) (ext : MadeName → ℕ → Bool) (s : Order) (log : runs.Log Begin Values) (m : Mirrors p uses entry args ext s log) (l : Live) (at : task_at s l.path ≡ Some l) where
  abbrev pub Pr : one.Program Begin Values
  Pr = clipped_program ext p entry args

  abbrev a : Living p uses entry args ext s log m l at
  a = living p uses entry args ext s log m l at

  -- ---- another task's place, where no task is made

  other_kept : (w : World) (e : runs.Event Begin Values) (q : Path) (o : Option Live) (b : Option Begin) → ((c : MadeName) → Buf s.world c → Buf w c) → ((c : MadeName) → Grp s.world c → Grp w c) → runs.history (e ∷ log) q ≡ runs.history log q →
      TaskIs p uses entry args ext s.world log q o b (runs.outcome log q) → TaskIs p uses entry args ext w (e ∷ log) q o b (runs.outcome log q)
  other_kept w e q None None f g h t = t
  other_kept w e q None (Some b) f g h t = t
  other_kept w e q (Some x) None f g h t = t
  other_kept w e q (Some x) (Some b) f g h t = (
    record {
      named = t.0.named;
      path = t.0.path;
      stands = subst (λ xs. Stands p uses b (replies xs) x.task) (sym h) t.0.stands;
      taken = t.0.taken ∙ ap length (sym h);
      holds = holds_mono p s.world w log (e ∷ log) q x.task f g (ap runs.turns_in h) t.0.holds;
    },
    t.1,
  )

  -- ---- the end of a task

  module _ (o : Outcome) (e : next p l.task ≡ Ends o) where
    abbrev pub end_event : runs.Event Begin Values
    end_event = record { task = l.path; act = one.Ends (ended_as o); answer = one.Done }

    end_next : NextIs p uses a.begin (runs.answers log l.path) (Ends o)
    end_next = stands_ends p uses a.begin (runs.answers log l.path) l.task o a.is.stands e

    pub end_runs : runs.IsRun Pr (end_event ∷ log)
    end_runs = (
      record {
        begin = a.begin;
        made = a.made;
        lives = a.lives;
        steps = end_next.fuel;
        acts = ap (option_map (clipped ext)) (next_acts p uses a.begin (runs.answers log l.path) (Ends o) end_next);
        can = tt;
        told = refl;
      },
      m.run,
    )

    abbrev pub after_end : Order
    after_end = record { live = without l.path s.live; world = ended s.world l.path o; log = logged s l.path (shown_end o) None }

    end_shown : runs.entry_of end_event ≡ record { task = l.path; action = shown_end o }
    end_shown = ap (λ b. record { task = l.path; action = act.End b }) (good_end o)

    end_begun : (q : Path) → runs.begun Pr (end_event ∷ log) q ≡ runs.begun Pr log q
    end_begun q = either_none (runs.begun Pr log q)

    end_told : (q : Path) → (l.path ≡ q) ⊎ (l.path ≡ q → ⊥) → ToldBy p uses (runs.begun Pr log q) (runs.history (end_event ∷ log) q) (cond (same_path l.path q) (used_history q s.log ++ (shown_end o, used_answer (shown_end o) None) ∷ []) (used_history q s.log))
    end_told q (inr n) = subst (λ h. ToldBy p uses (runs.begun Pr log q) h (cond (same_path l.path q) (used_history q s.log ++ (shown_end o, used_answer (shown_end o) None) ∷ []) (used_history q s.log))) (sym (history_other end_event log q n))
        (subst (ToldBy p uses (runs.begun Pr log q) (runs.history log q)) (sym (there l.path q (used_history q s.log ++ (shown_end o, used_answer (shown_end o) None) ∷ []) (used_history q s.log) n)) (m.told q))
    end_told q (inl h) = subst (λ r. ToldBy p uses (runs.begun Pr log r) (runs.history (end_event ∷ log) r) (cond (same_path l.path r) (used_history r s.log ++ (shown_end o, used_answer (shown_end o) None) ∷ []) (used_history r s.log))) h
        (subst (λ xs. ToldBy p uses (runs.begun Pr log l.path) xs (cond (same_path l.path l.path) (used_history l.path s.log ++ (shown_end o, used_answer (shown_end o) None) ∷ []) (used_history l.path s.log))) (sym (history_own end_event log l.path refl))
        (subst (ToldBy p uses (runs.begun Pr log l.path) (end_event ∷ runs.history log l.path)) (sym (here l.path l.path (used_history l.path s.log ++ (shown_end o, used_answer (shown_end o) None) ∷ []) (used_history l.path s.log) refl))
        (subst (λ b. ToldBy p uses b (end_event ∷ runs.history log l.path) (used_history l.path s.log ++ (shown_end o, None) ∷ [])) (sym a.made)
        (Ends o, used_history l.path s.log, end_next, subst (λ b. ToldBy p uses b (runs.history log l.path) (used_history l.path s.log)) a.made (m.told l.path), refl))))

    end_task : (q : Path) → (l.path ≡ q) ⊎ (l.path ≡ q → ⊥) → TaskIs p uses entry args ext (ended s.world l.path o) (end_event ∷ log) q (cond (same_path l.path q) None (task_at s q)) (runs.begun Pr log q) (runs.outcome (end_event ∷ log) q)
    end_task q (inr n) = subst (λ x. TaskIs p uses entry args ext (ended s.world l.path o) (end_event ∷ log) q x (runs.begun Pr log q) (runs.outcome (end_event ∷ log) q)) (sym (there l.path q None (task_at s q) n))
        (subst (TaskIs p uses entry args ext (ended s.world l.path o) (end_event ∷ log) q (task_at s q) (runs.begun Pr log q)) (sym (ap runs.last_end (history_other end_event log q n)))
        (other_kept (ended s.world l.path o) end_event q (task_at s q) (runs.begun Pr log q) (λ c h. buf_same s.world (ended s.world l.path o) refl c h) (λ c h. grp_same s.world (ended s.world l.path o) refl c h) (history_other end_event log q n) (m.tasks q)))
    end_task q (inl h) = subst (λ r. TaskIs p uses entry args ext (ended s.world l.path o) (end_event ∷ log) r (cond (same_path l.path r) None (task_at s r)) (runs.begun Pr log r) (runs.outcome (end_event ∷ log) r)) h
        (subst (λ x. TaskIs p uses entry args ext (ended s.world l.path o) (end_event ∷ log) l.path x (runs.begun Pr log l.path) (runs.outcome (end_event ∷ log) l.path)) (sym (here l.path l.path None (task_at s l.path) refl))
        (subst (λ b. TaskIs p uses entry args ext (ended s.world l.path o) (end_event ∷ log) l.path None b (runs.outcome (end_event ∷ log) l.path)) (sym a.made)
        (ended_as o, ap runs.last_end (history_own end_event log l.path refl))))

    end_held : (q : Path) → (l.path ≡ q) ⊎ (l.path ≡ q → ⊥) → HeldOutcome p (ended s.world l.path o) (option_map (λ (e : Path × Outcome). e.1) (cond (same_path l.path q) (Some (l.path, o)) (find (λ (e : Path × Outcome). same_path e.0 q) s.world.ends)))
    end_held q (inr n) = subst (λ x. HeldOutcome p (ended s.world l.path o) (option_map (λ (e : Path × Outcome). e.1) x)) (sym (there l.path q (Some (l.path, o)) (find (λ (e : Path × Outcome). same_path e.0 q) s.world.ends) n))
        (outcome_held p s.world (ended s.world l.path o) (world.outcome s.world q) (λ c h. buf_same s.world (ended s.world l.path o) refl c h) (λ c h. grp_same s.world (ended s.world l.path o) refl c h) (m.held q))
    end_held q (inl h) = subst (λ x. HeldOutcome p (ended s.world l.path o) (option_map (λ (e : Path × Outcome). e.1) x)) (sym (here l.path q (Some (l.path, o)) (find (λ (e : Path × Outcome). same_path e.0 q) s.world.ends) h))
        (outcome_held p s.world (ended s.world l.path o) (Some o) (λ c h. buf_same s.world (ended s.world l.path o) refl c h) (λ c h. grp_same s.world (ended s.world l.path o) refl c h) (holds_ends p s.world log l.path l.task o a.is.holds e))

    pub mirrors_end : Mirrors p uses entry args ext after_end (end_event ∷ log)
    mirrors_end = record {
      run = end_runs;
      shared = shared_ended Pr args ext s.world log end_event m.shared l.path o refl refl;
      tasks = λ q. subst (λ b. TaskIs p uses entry args ext (ended s.world l.path o) (end_event ∷ log) q (task_at after_end q) b (runs.outcome (end_event ∷ log) q)) (sym (end_begun q))
          (subst (λ x. TaskIs p uses entry args ext (ended s.world l.path o) (end_event ∷ log) q x (runs.begun Pr log q) (runs.outcome (end_event ∷ log) q)) (sym (found_without l.path s.live q)) (end_task q (path_cases l.path q)));
      held = λ q. end_held q (path_cases l.path q);
      shows = ap (λ xs. xs ++ runs.entry_of end_event ∷ []) m.shows ∙ (ap (λ x. shown_in s.log ++ x ∷ []) end_shown ∙ sym (map-append (λ (e : Event). record { task = e.path; action = e.action }) s.log (record { path = l.path; action = shown_end o; answer = None } ∷ [])));
      told = λ q. subst (λ b. ToldBy p uses b (runs.history (end_event ∷ log) q) (used_history q after_end.log)) (sym (end_begun q))
          (subst (ToldBy p uses (runs.begun Pr log q) (runs.history (end_event ∷ log) q)) (sym (history_snoc s.log (record { path = l.path; action = shown_end o; answer = None }) q)) (end_told q (path_cases l.path q)));
    }

-- ---- the task behind the answer

used_or : (ask : Ask) → IsUsed ask ⊎ ((g : MadeName) × (x : ElementName) × (ask ≡ Adds g x false))
used_or (Adds g x true) = inl refl
used_or (Adds g x false) = inr (g, x, refl)
used_or (Reads b i) = inl tt
used_or (Writes b i n) = inl tt
used_or (Allocs dims) = inl tt
used_or (Creates n) = inl tt
used_or (Launches t r) = inl tt
used_or (Enters loop) = inl tt
used_or (JoinsAll loop) = inl tt
used_or (AwaitsOne x) = inl tt
used_or (AwaitsAll g) = inl tt

used_same : (ask : Ask) (r u : Answer) → (IsUsed ask → r ≡ u) → used_answer (shown ask) r ≡ used_answer (shown ask) u
used_same (Adds g x true) r u f = f refl
used_same (Adds g x false) r u f = refl
used_same (Reads b i) r u f = f tt
used_same (Writes b i n) r u f = f tt
used_same (Allocs dims) r u f = f tt
used_same (Creates n) r u f = f tt
used_same (Launches t n) r u f = f tt
used_same (Enters loop) r u f = f tt
used_same (JoinsAll loop) r u f = f tt
used_same (AwaitsOne x) r u f = f tt
used_same (AwaitsAll g) r u f = f tt

no_end : (ext : MadeName → ℕ → Bool) (q : Path) (k : ℕ) (a : Ask) → runs.ends_as (clipped ext (asked q k a)) ≡ None
no_end ext q k (Adds g x used) = refl
no_end ext q k (Reads b i) = refl
no_end ext q k (Writes b i n) = refl
no_end ext q k (Allocs dims) = refl
no_end ext q k (Creates n) = refl
no_end ext q k (Launches t r) = refl
no_end ext q k (Enters loop) = refl
no_end ext q k (JoinsAll loop) = refl
no_end ext q k (AwaitsOne x) = refl
no_end ext q k (AwaitsAll g) = refl

module _ (p : Program) (ext : MadeName → ℕ → Bool) (Pr : one.Program Begin Values) where
  unused_reply : (log : runs.Log Begin Values) (r : Path) (q : Path) (k : ℕ) (a b : Ask) (g : MadeName) (x : ElementName) → LikeAsk p a b → b ≡ Adds g x false → reply q k b (runs.answer Pr log r (clipped ext (asked q k a))) ≡ Some (nothing ∷ [])
  unused_reply log r q k a b g x (like.same c z) e = subst (λ c. reply q k c (runs.answer Pr log r (clipped ext (asked q k c))) ≡ Some (nothing ∷ [])) (sym e) refl
  unused_reply log r q k a b g x (like.launches t u n h) e = absurd (apart e) where
    apart : Launches u n ≡ Adds g x false → ⊥
    apart h = cc
  unused_reply log r q k a b g x (like.enters l m h) e = absurd (apart e) where
    apart : Enters m ≡ Adds g x false → ⊥
    apart h = cc
  unused_reply log r q k a b g x (like.joins_all l m h) e = absurd (apart e) where
    apart : JoinsAll m ≡ Adds g x false → ⊥
    apart h = cc

-- ---- an action

module _ (p : Program) (uses : p.uses ≡ map uses_of p.funcs) (entry : ℕ) (args : List ArgValue) (ext : MadeName → ℕ → Bool) (s : Order) (log : runs.Log Begin Values) (m : Mirrors p uses entry args ext s log) (l : Live) (at : task_at s l.path ≡ Some l)
    (n : ℕ) (ask : Ask) (xs : List ValueNo) (t : Task) (e : next p l.task ≡ Asks n ask xs t) (on : enabled s.world l.path l.taken ask ≡ true) where
  abbrev q : Path
  q = l.path

  abbrev b : Living p uses entry args ext s log m l at
  b = living p uses entry args ext s log m l at

  abbrev asking : Asking p s.world log l.path ask xs t
  asking = holds_asks p s.world log l.path l.task n ask xs t b.is.holds e

  abbrev nx : AskedNext p uses b.begin (runs.answers log l.path) n ask xs t
  nx = stands_asks p uses b.begin (runs.answers log l.path) l.task n ask xs t b.is.stands e

  abbrev pub event : runs.Event Begin Values
  event = record { task = l.path; act = clipped ext (asked l.path (suc l.taken) nx.asking); answer = runs.answer (clipped_program ext p entry args) log l.path (clipped ext (asked l.path (suc l.taken) nx.asking)) }

  abbrev result : Answer
  result = world.answer s.world l.path l.taken ask

  abbrev w : World
  w = after s.world l.path l.taken ask

  abbrev pub after_act : Order
  after_act = order.acts p s l ask (world.answer s.world l.path l.taken ask)

  count : suc (length (runs.answers log l.path)) ≡ suc l.taken
  count = ap suc (length-map (runs.history log l.path) _ ∙ sym b.is.taken)

  acts_so : option_map (clipped ext) (program.acts p b.begin (runs.answers log l.path) nx.next_is.fuel) ≡ Some event.act
  acts_so =
      ap (option_map (clipped ext)) (next_acts p uses b.begin (runs.answers log l.path) (Asks n nx.asking xs nx.onward) nx.next_is)
      ∙ (ap (λ r. Some (clipped ext (asked r (suc (length (runs.answers log l.path))) nx.asking))) b.is.path ∙ ap (λ k. Some (clipped ext (asked l.path k nx.asking))) count)

  pub act_runs : runs.IsRun (clipped_program ext p entry args) (event ∷ log)
  act_runs = (
    record {
      begin = b.begin;
      made = b.made;
      lives = b.lives;
      steps = nx.next_is.fuel;
      acts = acts_so;
      can = can_of p (clipped_program ext p entry args) args ext s.world log m.shared l.path l.taken b.is.taken nx.asking ask nx.like_ask asking.ok asking.fits on;
      told = refl;
    },
    m.run,
  )

  pub act_asked : LikeAsk p nx.asking ask
  act_asked = nx.like_ask

  used_reply : IsUsed ask → reply l.path (suc l.taken) ask event.answer ≡ result
  used_reply u = answer_is p (clipped_program ext p entry args) args ext s.world log m.shared l.path l.taken b.is.taken nx.asking ask nx.like_ask asking.fits u

  reply_here : reply b.begin.path (suc (length (runs.answers log l.path))) nx.asking event.answer ≡ reply l.path (suc l.taken) ask event.answer
  reply_here = ap (λ r. reply r (suc (length (runs.answers log l.path))) nx.asking event.answer) b.is.path ∙ (ap (λ k. reply l.path k nx.asking event.answer) count ∙ like_reply p l.path (suc l.taken) nx.asking ask event.answer nx.like_ask)

  resumed_so : LikeTask p (resumed n xs nx.onward (reply l.path (suc l.taken) ask event.answer)) (resumed n xs t result)
  resumed_so = split (used_or ask) where
    split : IsUsed ask ⊎ ((g : MadeName) × (x : ElementName) × (ask ≡ Adds g x false)) → LikeTask p (resumed n xs nx.onward (reply l.path (suc l.taken) ask event.answer)) (resumed n xs t result)
    split (inl u) = subst (λ r. LikeTask p (resumed n xs nx.onward r) (resumed n xs t result)) (sym (used_reply u)) (resumed_like p uses n xs nx.onward t result nx.like)
    split (inr h) =
        let names : Names p (Buf s.world) (Grp s.world) tt tt (Adds h.0 h.1 false) xs t = subst (λ a. Names p (Buf s.world) (Grp s.world) tt tt a xs t) h.2 asking.names in
        subst (λ r. LikeTask p (resumed n xs nx.onward r) (resumed n xs t result)) (sym (unused_reply p ext (clipped_program ext p entry args) log l.path l.path (suc l.taken) nx.asking ask h.0 h.1 nx.like_ask h.2))
        (subst (λ r. LikeTask p (resumed n xs nx.onward (Some (nothing ∷ []))) (resumed n xs t r)) (sym (ap (world.answer s.world l.path l.taken) h.2))
        (rank_free p uses n xs nx.onward t (length (world.members s.world h.0)) nx.like (sym names)))

  stands_so : Stands p uses b.begin (event.answer ∷ runs.answers log l.path) (resumed n xs t result)
  stands_so = stands_after p uses b.begin (runs.answers log l.path) n ask xs t nx event.answer (resumed n xs t result) (subst (λ r. LikeTask p (resumed n xs nx.onward r) (resumed n xs t result)) (sym reply_here) resumed_so)

  moved_task : told (next p l.task) l.task result ≡ resumed n xs t result
  moved_task = ap (λ x. told x l.task result) e

  -- ---- what is shown of it

  act_entry : runs.entry_of event ≡ record { task = l.path; action = shown ask }
  act_entry = ap (λ a. record { task = l.path; action = a }) (shown_asked ext l.path (suc l.taken) nx.asking ∙ shown_like p nx.asking ask nx.like_ask)

  showing_so : showing b.begin.path (suc (length (runs.history log l.path))) event.answer (Asks n nx.asking xs nx.onward) ≡ (shown ask, used_answer (shown ask) result)
  showing_so =
      ap (λ r. showing r (suc (length (runs.history log l.path))) event.answer (Asks n nx.asking xs nx.onward)) b.is.path
      ∙ (ap (λ k. showing l.path k event.answer (Asks n nx.asking xs nx.onward)) (ap suc (sym b.is.taken))
      ∙ (pair (shown_like p nx.asking ask nx.like_ask) (like_reply p l.path (suc l.taken) nx.asking ask event.answer nx.like_ask)
      ∙ ap (λ r. (shown ask, r)) (used_same ask (reply l.path (suc l.taken) ask event.answer) result used_reply))) where
        pair : {c d : Action} {r u : Answer} → c ≡ d → r ≡ u → ◌≡◌ {A = Action × Answer} (c, used_answer c r) (d, used_answer d u)
        pair h k = cc

  abbrev line : Action × Answer
  line = (shown ask, used_answer (shown ask) result)

  told_other : (r : Path) (o x : Option Begin) → runs.begun (clipped_program ext p entry args) log r ≡ o → ToldBy p uses o (runs.history log r) (used_history r s.log) → ToldBy p uses (runs.either o x) (runs.history log r) (used_history r s.log)
  told_other r (Some c) x h k = k
  told_other r None None h k = k
  told_other r None (Some d) h k = subst (λ hs. Told p uses d hs (used_history r s.log)) (sym (unborn_history p uses entry args ext log r m.run h)) k

  act_told : (r : Path) → (l.path ≡ r) ⊎ (l.path ≡ r → ⊥) → ToldBy p uses (runs.begun (clipped_program ext p entry args) (event ∷ log) r) (runs.history (event ∷ log) r) (cond (same_path l.path r) (used_history r s.log ++ line ∷ []) (used_history r s.log))
  act_told r (inr d) = subst (λ hs. ToldBy p uses (runs.begun (clipped_program ext p entry args) (event ∷ log) r) hs (cond (same_path l.path r) (used_history r s.log ++ line ∷ []) (used_history r s.log))) (sym (history_other event log r d))
      (subst (ToldBy p uses (runs.begun (clipped_program ext p entry args) (event ∷ log) r) (runs.history log r)) (sym (there l.path r (used_history r s.log ++ line ∷ []) (used_history r s.log) d))
      (told_other r (runs.begun (clipped_program ext p entry args) log r) (runs.made_by event.act l.path (suc (runs.taken log l.path)) r) refl (m.told r)))
  act_told r (inl h) = subst (λ r. ToldBy p uses (runs.begun (clipped_program ext p entry args) (event ∷ log) r) (runs.history (event ∷ log) r) (cond (same_path l.path r) (used_history r s.log ++ line ∷ []) (used_history r s.log))) h
      (subst (λ hs. ToldBy p uses (runs.begun (clipped_program ext p entry args) (event ∷ log) l.path) hs (cond (same_path l.path l.path) (used_history l.path s.log ++ line ∷ []) (used_history l.path s.log))) (sym (history_own event log l.path refl))
      (subst (ToldBy p uses (runs.begun (clipped_program ext p entry args) (event ∷ log) l.path) (event ∷ runs.history log l.path)) (sym (here l.path l.path (used_history l.path s.log ++ line ∷ []) (used_history l.path s.log) refl))
      (subst (λ c. ToldBy p uses (runs.either c (runs.made_by event.act l.path (suc (runs.taken log l.path)) l.path)) (event ∷ runs.history log l.path) (used_history l.path s.log ++ line ∷ [])) (sym b.made)
      (Asks n nx.asking xs nx.onward, used_history l.path s.log, nx.next_is, subst (λ c. ToldBy p uses c (runs.history log l.path) (used_history l.path s.log)) b.made (m.told l.path), ap (λ x. used_history l.path s.log ++ x ∷ []) (sym showing_so)))))

  -- ---- the tasks

  abbrev forth : Live
  forth = moved p l result (l.taken + 1)

  own_task : TaskIs p uses entry args ext w (event ∷ log) l.path (Some forth) (Some b.begin) (runs.outcome (event ∷ log) l.path)
  own_task = (
    record {
      named = refl;
      path = b.is.path;
      stands = subst (Stands p uses b.begin (runs.answers (event ∷ log) l.path)) (sym moved_task) (subst (λ hs. Stands p uses b.begin (replies hs) (resumed n xs t result)) (sym (history_own event log l.path refl)) stands_so);
      taken = omega (arith, b.is.taken, taken_own event log l.path refl);
      holds = subst (Holds p w (event ∷ log) l.path) (sym moved_task) (holds_after p ext s.world log event l.path l.taken (suc l.taken) refl m.held nx.asking ask n xs t nx.like_ask refl asking);
    },
    ap runs.last_end (history_own event log l.path refl) ∙ no_end ext l.path (suc l.taken) nx.asking,
  )

  other_task : (r : Path) → (l.path ≡ r → ⊥) → (o : Option Live) (c : Option Begin) → runs.begun (clipped_program ext p entry args) log r ≡ c → TaskIs p uses entry args ext s.world log r o c (runs.outcome log r) →
      (f : Option Live) (g : Option Begin) → runs.made_by event.act l.path (suc (runs.taken log l.path)) r ≡ g → MadeIs p uses s.world r f g → TaskIs p uses entry args ext w (event ∷ log) r (runs.either o f) (runs.either c g) (runs.outcome log r)
  other_task r d None None h k None None i j = k
  other_task r d None None h k (Some y) (Some z) i j = (
    record {
      named = j.named;
      path = j.path;
      stands = subst (λ hs. Stands p uses z (replies hs) y.task) (sym (history_other event log r d ∙ unborn_history p uses entry args ext log r m.run h)) (record { fuel = 0; stood = z.task; stands = refl; quiet = 0; here = z.task; quiets = refl; like = j.like });
      taken = j.taken ∙ sym (ap length (history_other event log r d ∙ unborn_history p uses entry args ext log r m.run h));
      holds = holds_mono p s.world w log (event ∷ log) r y.task (buf_after s.world l.path l.taken ask) (grp_after s.world l.path l.taken ask) (ap runs.turns_in (history_other event log r d)) (inl j.holds);
    },
    k,
  )
  other_task r d None None h k None (Some z) i j = absurd j
  other_task r d None None h k (Some y) None i j = absurd j
  other_task r d None (Some c) h k None g i j = k
  other_task r d None (Some c) h k (Some y) None i j = absurd j
  other_task r d None (Some c) h k (Some y) (Some z) i j = absurd (fresh p uses entry args ext log event r c z act_runs h i)
  other_task r d (Some x) None h k f g i j = absurd k
  other_task r d (Some x) (Some c) h k f g i j = other_kept p uses entry args ext s log m l at w event r (Some x) (Some c) (buf_after s.world l.path l.taken ask) (grp_after s.world l.path l.taken ask) (history_other event log r d) k

  made_so : (r : Path) → MadeIs p uses s.world r (found r (made_by l.path (l.taken + 1) ask)) (runs.made_by event.act l.path (suc (runs.taken log l.path)) r)
  made_so r = subst (λ k. MadeIs p uses s.world r (found r (made_by l.path k ask)) (runs.made_by event.act l.path (suc (runs.taken log l.path)) r)) (omega arith)
      (subst (λ k. MadeIs p uses s.world r (found r (made_by l.path (suc l.taken) ask)) (runs.made_by event.act l.path k r)) (ap suc b.is.taken) (made_is p uses s.world ext r l.path (suc l.taken) nx.asking ask nx.like_ask asking.ok))

  act_task : (r : Path) → (l.path ≡ r) ⊎ (l.path ≡ r → ⊥) → TaskIs p uses entry args ext w (event ∷ log) r (runs.either (cond (same_path l.path r) (option_map (λ x. forth) (task_at s r)) (task_at s r)) (found r (made_by l.path (l.taken + 1) ask))) (runs.begun (clipped_program ext p entry args) (event ∷ log) r) (runs.outcome (event ∷ log) r)
  act_task r (inr d) =
      subst (λ o. TaskIs p uses entry args ext w (event ∷ log) r (runs.either o (found r (made_by l.path (l.taken + 1) ask))) (runs.begun (clipped_program ext p entry args) (event ∷ log) r) (runs.outcome (event ∷ log) r)) (sym (there l.path r (option_map (λ x. forth) (task_at s r)) (task_at s r) d))
      (subst (TaskIs p uses entry args ext w (event ∷ log) r (runs.either (task_at s r) (found r (made_by l.path (l.taken + 1) ask))) (runs.begun (clipped_program ext p entry args) (event ∷ log) r)) (sym (ap runs.last_end (history_other event log r d)))
      (other_task r d (task_at s r) (runs.begun (clipped_program ext p entry args) log r) refl (m.tasks r) (found r (made_by l.path (l.taken + 1) ask)) (runs.made_by event.act l.path (suc (runs.taken log l.path)) r) refl (made_so r)))
  act_task r (inl h) =
      subst (λ r. TaskIs p uses entry args ext w (event ∷ log) r (runs.either (cond (same_path l.path r) (option_map (λ x. forth) (task_at s r)) (task_at s r)) (found r (made_by l.path (l.taken + 1) ask))) (runs.begun (clipped_program ext p entry args) (event ∷ log) r) (runs.outcome (event ∷ log) r)) h
      (subst (λ o. TaskIs p uses entry args ext w (event ∷ log) l.path (runs.either o (found l.path (made_by l.path (l.taken + 1) ask))) (runs.begun (clipped_program ext p entry args) (event ∷ log) l.path) (runs.outcome (event ∷ log) l.path)) (sym (here l.path l.path (option_map (λ x. forth) (task_at s l.path)) (task_at s l.path) refl ∙ ap (option_map (λ (x : Live). forth)) at))
      (subst (λ c. TaskIs p uses entry args ext w (event ∷ log) l.path (Some forth) (runs.either c (runs.made_by event.act l.path (suc (runs.taken log l.path)) l.path)) (runs.outcome (event ∷ log) l.path)) (sym b.made) own_task))

  pub mirrors_act : AllocFits ext l.path (suc l.taken) ask → Mirrors p uses entry args ext after_act (event ∷ log)
  mirrors_act fits = record {
    run = act_runs;
    shared = shared_after p (clipped_program ext p entry args) args ext s.world log m.shared l.path l.taken b.is.taken event refl b.lives nx.asking ask nx.like_ask asking.ok on fits refl;
    tasks = λ r. subst (λ o. TaskIs p uses entry args ext w (event ∷ log) r o (runs.begun (clipped_program ext p entry args) (event ∷ log) r) (runs.outcome (event ∷ log) r)) (sym (found_append r (replaced forth s.live) (made_by l.path (l.taken + 1) ask) ∙ ap (λ o. runs.either o (found r (made_by l.path (l.taken + 1) ask))) (found_replaced forth s.live r))) (act_task r (path_cases l.path r));
    held = λ r. subst (HeldOutcome p w) (sym (outcome_after s.world l.path l.taken ask r)) (outcome_held p s.world w (world.outcome s.world r) (buf_after s.world l.path l.taken ask) (grp_after s.world l.path l.taken ask) (m.held r));
    shows = ap (λ es. es ++ runs.entry_of event ∷ []) m.shows ∙ (ap (λ x. shown_in s.log ++ x ∷ []) act_entry ∙ sym (map-append (λ (e : Event). record { task = e.path; action = e.action }) s.log (record { path = l.path; action = shown ask; answer = result } ∷ [])));
    told = λ r. subst (ToldBy p uses (runs.begun (clipped_program ext p entry args) (event ∷ log) r) (runs.history (event ∷ log) r)) (sym (history_snoc s.log (record { path = l.path; action = shown ask; answer = result }) r)) (act_told r (path_cases l.path r));
  }
