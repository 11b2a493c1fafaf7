-- A state of small steps, and the log of actions that mirrors it.
use Rattle.std.specs.Prelude.{◌⊎◌, cond, map}
use mathlib.Core.Logic.{inl, inr}
use Rattle.std.specs.Option.{option_map}
use Rattle.std.proofs.Common.{◌≡◌, ℕ, suc, Bool, true, false, List, [], ◌∷◌, ◌++◌, length, Option, Some, None, refl, sym, ap, subst, ◌∙◌, arith}
use Rattle.std.proofs.lemmas.List.{length-map}
use Rattle.ir_forms.specs.declared.args.ArgValue.{ArgValue}
use Rattle.ir_forms.specs.declared.names.Action.{Action}
use Rattle.ir_forms.specs.declared.names.Action.TheVariants as act
use Rattle.ir_forms.specs.declared.names.MadeName.{MadeName}
use Rattle.ir_forms.specs.Names.{Path, same_path}
use Rattle.one_end.specs.Programs as one
use Rattle.one_end.specs.Runs as runs
use Rattle.one_end.proofs.Basics.{none≢some, some_inj, path_cases, here, there, Older, older_same_list, older_length, older_trans}
use Rattle.one_end.proofs.Histories.{history_own, older_history}
use Rattle.one_end.proofs.Makers.{made_how, Origin, begun_origin, SameMaker, one_maker}
use Rattle.one_end.proofs.Pairs.{made_not_root, taken_begun}
use Rattle.source_meaning.specs.Parts.{uses_of}
use Rattle.source_meaning.specs.Tasks.{Program, Task, Ask, Reads, Writes, Allocs, Creates, Adds, Launches, Enters, JoinsAll, AwaitsOne, AwaitsAll, Answer, Outcome, Gave, FailedAt, Next, Goes, Asks, Ends, told}
use Rattle.source_meaning.specs.Steps.{next}
use Rattle.source_meaning.specs.World.{World, after, ended, enabled, shown, shown_end, numbers_from}
use Rattle.source_meaning.specs.World as world
use Rattle.source_meaning.specs.Start.{first_world, root_task}
use Rattle.source_meaning.specs.TaskOrder.{Live, Event, Order, moved, replaced, task_at, shown_in, history}
use Rattle.end_laws.specs.ModuleProgram.{Begin, Values, asked, acted, reply, ended_as}
use Rattle.end_laws.specs.ModuleProgram as program
use Rattle.end_laws.specs.Unread.{LikeTask, LikeAsk}
use Rattle.end_laws.specs.Unread as like
use Rattle.end_laws.proofs.ModuleLaw.{functions_are_programs}
use Rattle.order_laws.specs.SameEnd.{used_answer, used_history}
use Rattle.order_laws.proofs.Quiet.{Stands, stands_quiet, NextIs}
use Rattle.order_laws.proofs.Shared.{Shared}
use Rattle.order_laws.proofs.Acting.{clipped}
use Rattle.order_laws.proofs.Holding.{numbers_many, Holds, HeldOutcome, holds_goes}
use Rattle.order_laws.proofs.Found.{found_replaced}

-- ---- the program whose writes have cells

module _ (ext : MadeName → ℕ → Bool) where
  pub mapped_some : (o : Option (one.Act Begin Values)) (a : one.Act Begin Values) → option_map (clipped ext) o ≡ Some a → (b : one.Act Begin Values) × (o ≡ Some b) × (clipped ext b ≡ a)
  mapped_some None a e = absurd (none≢some a e)
  mapped_some (Some b) a e = (b, refl, some_inj (clipped ext b) a e)

  abbrev pub clipped_program : Program → ℕ → List ArgValue → one.Program Begin Values
  clipped_program p entry args = record {
    root = record { path = []; task = root_task p entry args };
    cells = world.cell (first_world args);
    acts = λ b answers n. option_map (clipped ext) (program.acts p b answers n);
    one = λ b answers m n x y e h.
        let f = functions_are_programs p entry args in
        let c = mapped_some (program.acts p b answers m) x e in
        let d = mapped_some (program.acts p b answers n) y h in
        sym c.2 ∙ (ap (clipped ext) (f.0.one b answers m n c.0 d.0 (f.1.acts b answers m ∙ c.1) (f.1.acts b answers n ∙ d.1)) ∙ d.2);
  }

-- ---- what is shown

pub shown_like : (p : Program) (a b : Ask) → LikeAsk p a b → shown a ≡ shown b
shown_like p a b (like.same c z) = refl
shown_like p a b (like.launches t u r h) = refl
shown_like p a b (like.enters l m h) = ap (λ n. act.Enter n l.split) (sym h.total) ∙ ap (act.Enter m.total) (sym h.split)
shown_like p a b (like.joins_all l m h) = refl

pub shown_asked : (ext : MadeName → ℕ → Bool) (q : Path) (k : ℕ) (a : Ask) → one.shown (clipped ext (asked q k a)) ≡ shown a
shown_asked ext q k (Reads b i) = refl
shown_asked ext q k (Writes b i n) = refl
shown_asked ext q k (Allocs dims) = refl
shown_asked ext q k (Creates n) = refl
shown_asked ext q k (Adds g x used) = refl
shown_asked ext q k (Launches t r) = refl
shown_asked ext q k (Enters loop) = ap (λ n. act.Enter n loop.split) (length-map (numbers_from 0 loop.total) _ ∙ numbers_many 0 loop.total)
shown_asked ext q k (JoinsAll loop) = refl
shown_asked ext q k (AwaitsOne x) = refl
shown_asked ext q k (AwaitsAll g) = refl

pub good_end : (o : Outcome) → one.is_good (Some (ended_as o)) ≡ world.is_good (Some o)
good_end (Gave vs) = refl
good_end (FailedAt at) = refl

-- what a task's history shows of its next step, as its k-th action
abbrev pub showing : Path → ℕ → one.Answer Values → Next → Action × Answer
showing q k r (Asks at ask xs t) = (shown ask, used_answer (shown ask) (reply q k ask r))
showing q k r (Ends o) = (shown_end o, None)
showing q k r (Goes t) = (act.JoinAll, None)

abbrev pub replies : runs.Log Begin Values → List (one.Answer Values)
replies h = map (λ e. e.answer) h

-- a task's history shows these actions and answers
abbrev pub Told : (p : Program) → p.uses ≡ map uses_of p.funcs → Begin → runs.Log Begin Values → List (Action × Answer) → Type 0
Told p uses b [] ys = ys ≡ []
Told p uses b (e ∷ h) ys = (x : Next) × (zs : List (Action × Answer)) × NextIs p uses b (replies h) x × Told p uses b h zs × (ys ≡ zs ++ showing b.path (suc (length h)) e.answer x ∷ [])

abbrev pub ToldBy : (p : Program) → p.uses ≡ map uses_of p.funcs → Option Begin → runs.Log Begin Values → List (Action × Answer) → Type 0
ToldBy p uses None h ys = ys ≡ []
ToldBy p uses (Some b) h ys = Told p uses b h ys

abbrev pub seen : Action × Answer → Action × Answer
seen x = (x.0, used_answer x.0 x.1)

pub history_snoc : (log : List Event) (e : Event) (q : Path) → used_history q (log ++ e ∷ []) ≡ cond (same_path e.path q) (used_history q log ++ (e.action, used_answer e.action e.answer) ∷ []) (used_history q log)
history_snoc [] e q = split (same_path e.path q) where
  split : (t : Bool) → map seen (cond t ((e.action, e.answer) ∷ []) []) ≡ cond t ((e.action, used_answer e.action e.answer) ∷ []) []
  split true = refl
  split false = refl
history_snoc (d ∷ log) e q = split (same_path d.path q) (same_path e.path q) (history_snoc log e q) where
  split : (t u : Bool) → used_history q (log ++ e ∷ []) ≡ cond u (used_history q log ++ (e.action, used_answer e.action e.answer) ∷ []) (used_history q log) →
      map seen (cond t ((d.action, d.answer) ∷ history q (log ++ e ∷ [])) (history q (log ++ e ∷ []))) ≡ cond u (map seen (cond t ((d.action, d.answer) ∷ history q log) (history q log)) ++ (e.action, used_answer e.action e.answer) ∷ []) (map seen (cond t ((d.action, d.answer) ∷ history q log) (history q log)))
  split true true h = ap (λ xs. (d.action, used_answer d.action d.answer) ∷ xs) h
  split true false h = ap (λ xs. (d.action, used_answer d.action d.answer) ∷ xs) h
  split false u h = h

-- ---- the mirror

module _ (p : Program) (uses : p.uses ≡ map uses_of p.funcs) (entry : ℕ) (args : List ArgValue) (ext : MadeName → ℕ → Bool) where
  abbrev pub P : one.Program Begin Values
  P = clipped_program ext p entry args

  pub record LiveIs (w : World) (log : runs.Log Begin Values) (q : Path) (l : Live) (b : Begin) : Type 0 where
    pub named : l.path ≡ q
    pub path : b.path ≡ q
    pub stands : Stands p uses b (runs.answers log q) l.task
    pub taken : l.taken ≡ runs.taken log q
    pub holds : Holds p w log q l.task

  abbrev pub TaskIs : World → runs.Log Begin Values → Path → Option Live → Option Begin → Option (one.Outcome Values) → Type 0
  TaskIs w log q None None o = o ≡ None
  TaskIs w log q (Some l) (Some b) o = LiveIs w log q l b × (o ≡ None)
  TaskIs w log q None (Some b) o = (x : one.Outcome Values) × (o ≡ Some x)
  TaskIs w log q (Some l) None o = ⊥

  pub record Mirrors (s : Order) (log : runs.Log Begin Values) : Type 0 where
    pub run : runs.IsRun P log
    pub shared : Shared P args ext s.world log
    pub tasks : (q : Path) → TaskIs s.world log q (task_at s q) (runs.begun P log q) (runs.outcome log q)
    pub held : (q : Path) → HeldOutcome p s.world (world.outcome s.world q)
    pub shows : runs.trace_of log ≡ shown_in s.log
    pub told : (q : Path) → ToldBy p uses (runs.begun P log q) (runs.history log q) (used_history q s.log)

  -- ---- new tasks have new paths

  pub fresh : (log : runs.Log Begin Values) (e : runs.Event Begin Values) (q : Path) (c d : Begin) → runs.IsRun P (e ∷ log) → runs.begun P log q ≡ Some c → runs.made_by e.act e.task (suc (runs.taken log e.task)) q ≡ Some d → ⊥
  fresh log e q c d r h k = split (begun_origin P log q c h) where
    new : Origin (e ∷ log) q d
    new = record { by = e.task; event = e; did = runs.history log e.task; at = subst (λ t. Older t (runs.history (e ∷ log) e.task)) (history_own e log e.task refl) (older_same_list (runs.history (e ∷ log) e.task)); makes = k }

    split : ((q ≡ []) × (c ≡ P.root)) ⊎ Origin log q c → ⊥
    split (inl root) = made_not_root P e.act e.task (suc (runs.taken log e.task)) q root.0 (made_how e.act e.task (suc (runs.taken log e.task)) q d k)
    split (inr o) = again (one_maker P (e ∷ log) q c d r (record { by = o.by; event = o.event; did = o.did; at = older_trans (o.event ∷ o.did) (runs.history log o.by) (runs.history (e ∷ log) o.by) o.at (older_history log (e ∷ log) o.by (e ∷ [], refl)); makes = o.makes }) new) where
      again : SameMaker P o.by e.task o.did (runs.history log e.task) → ⊥
      again m = absurd (omega (arith, m.place, ap (λ t. runs.taken log t) m.path, older_length (o.event ∷ o.did) (runs.history log o.by) o.at))

  pub unborn_history : (log : runs.Log Begin Values) (q : Path) → runs.IsRun P log → runs.begun P log q ≡ None → runs.history log q ≡ []
  unborn_history log q r h = split (runs.history log q) refl where
    split : (xs : runs.Log Begin Values) → runs.history log q ≡ xs → runs.history log q ≡ []
    split [] e = e
    split (x ∷ xs) e = let b = taken_begun P log q r (omega (arith, ap length e)) in absurd (none≢some b.0 (sym h ∙ b.1))

  -- ---- quiet steps

  module _ (s : Order) (log : runs.Log Begin Values) (m : Mirrors s log) (l : Live) (at : task_at s l.path ≡ Some l) where
    pub record Living : Type 0 where
      pub begin : Begin
      pub made : runs.begun P log l.path ≡ Some begin
      pub is : LiveIs s.world log l.path l begin
      pub lives : runs.outcome log l.path ≡ None

    pub living : Living
    living = split (runs.begun P log l.path) refl (subst (λ o. TaskIs s.world log l.path o (runs.begun P log l.path) (runs.outcome log l.path)) at (m.tasks l.path)) where
      split : (o : Option Begin) → runs.begun P log l.path ≡ o → TaskIs s.world log l.path (Some l) o (runs.outcome log l.path) → Living
      split None e h = absurd h
      split (Some b) e h = record { begin = b; made = e; is = h.0; lives = h.1 }

    abbrev pub quieter : Order
    quieter = record s { live = replaced (moved p l None l.taken) s.live }

    pub mirrors_quiet : (t : Task) → next p l.task ≡ Goes t → Mirrors quieter log
    mirrors_quiet t e = record {
      run = m.run;
      shared = m.shared;
      tasks = λ q. subst (λ o. TaskIs s.world log q o (runs.begun P log q) (runs.outcome log q)) (sym (found_replaced (moved p l None l.taken) s.live q)) (task q (path_cases l.path q));
      held = m.held;
      shows = m.shows;
      told = m.told;
    } where
      now : told (next p l.task) l.task None ≡ t
      now = ap (λ n. told n l.task None) e

      a : Living
      a = living

      mine : TaskIs s.world log l.path (Some (moved p l None l.taken)) (runs.begun P log l.path) (runs.outcome log l.path)
      mine = subst (λ o. TaskIs s.world log l.path (Some (moved p l None l.taken)) o (runs.outcome log l.path)) (sym a.made) (
        record {
          named = refl;
          path = a.is.path;
          stands = subst (Stands p uses a.begin (runs.answers log l.path)) (sym now) (stands_quiet p uses a.begin (runs.answers log l.path) l.task t a.is.stands e);
          taken = a.is.taken;
          holds = subst (Holds p s.world log l.path) (sym now) (holds_goes p s.world log l.path l.task t a.is.holds e);
        },
        a.lives,
      )

      task : (q : Path) → (l.path ≡ q) ⊎ (l.path ≡ q → ⊥) → TaskIs s.world log q (cond (same_path l.path q) (option_map (λ x. moved p l None l.taken) (task_at s q)) (task_at s q)) (runs.begun P log q) (runs.outcome log q)
      task q (inr n) = subst (λ o. TaskIs s.world log q o (runs.begun P log q) (runs.outcome log q)) (sym (there l.path q (option_map (λ x. moved p l None l.taken) (task_at s q)) (task_at s q) n)) (m.tasks q)
      task q (inl h) = subst (λ r. TaskIs s.world log r (cond (same_path l.path r) (option_map (λ x. moved p l None l.taken) (task_at s r)) (task_at s r)) (runs.begun P log r) (runs.outcome log r)) h
          (subst (λ o. TaskIs s.world log l.path o (runs.begun P log l.path) (runs.outcome log l.path)) (sym (here l.path l.path (option_map (λ x. moved p l None l.taken) (task_at s l.path)) (task_at s l.path) refl ∙ ap (option_map (λ (x : Live). moved p l None l.taken)) at)) mine)
