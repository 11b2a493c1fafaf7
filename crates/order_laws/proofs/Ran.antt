-- Runs of small steps, and the logs that mirror them.
use Rattle.std.specs.Prelude.{nat_lt, cond, map}
use mathlib.Core.Logic.{inl}
use Rattle.std.specs.List.{find}
use Rattle.std.proofs.Common.{◌≡◌, ℕ, zero, suc, ◌+◌, Bool, true, false, List, [], ◌∷◌, ◌++◌, length, Option, Some, None, slice_get, refl, sym, ap, subst, ◌∙◌, arith}
use Rattle.std.proofs.lemmas.Bool.{true≢false}
use Rattle.ir_forms.specs.declared.args.ArgValue.{ArgValue}
use Rattle.ir_forms.specs.declared.names.Action.{Action}
use Rattle.ir_forms.specs.declared.names.Action.TheVariants as act
use Rattle.ir_forms.specs.declared.names.MadeName.{MadeName}
use Rattle.ir_forms.specs.declared.names.TraceEntry.{TraceEntry}
use Rattle.ir_forms.specs.declared.ops.ValueNo.{ValueNo}
use Rattle.ir_forms.specs.Names.{Path, same_path}
use Rattle.one_end.specs.Programs as one
use Rattle.one_end.specs.Runs as runs
use Rattle.one_end.proofs.Basics.{none≢some, some_inj}
use Rattle.source_meaning.specs.Parts.{uses_of}
use Rattle.source_meaning.specs.Tasks.{Program, Task, Ask, Next, Goes, Asks, Ends}
use Rattle.source_meaning.specs.Steps.{next}
use Rattle.source_meaning.specs.World.{World, after, ended, enabled, shown, shown_end, numbers_from}
use Rattle.source_meaning.specs.World as world
use Rattle.source_meaning.specs.Start.{first_world, root_task}
use Rattle.source_meaning.specs.TaskOrder.{Live, Event, Order, newly, made_by, moved, replaced, without, logged, task_at, shown_in, history}
use Rattle.source_meaning.specs.TaskOrder as order
use Rattle.end_laws.specs.ModuleProgram.{Begin, Values}
use Rattle.end_laws.specs.Unread.{LikeTask, LikeAsk}
use Rattle.end_laws.specs.Unread as like
use Rattle.order_laws.proofs.Shared.{Buf, Grp}
use Rattle.order_laws.proofs.Acting.{AllocFits}
use Rattle.order_laws.proofs.Found.{found_path}
use Rattle.std.specs.Prelude.{is_some}
use Rattle.std.proofs.lemmas.List.{length-append}
use Rattle.ir_forms.specs.Names.{same_made}
use Rattle.ir_forms.specs.declared.args.ArgValue.TheVariants as arg
use Rattle.ir_forms.specs.declared.names.MadeName.TheVariants.{Argument, Made}
use Rattle.one_end.proofs.Basics.{path_yes, append_assoc_lem}
use Rattle.source_meaning.specs.Parts.{names_of, func_params}
use Rattle.source_meaning.specs.World.{Store, cells_in, group_at}
use Rattle.source_meaning.specs.Start.{stores_of, arguments}
use Rattle.source_meaning.specs.TaskOrder.{and_then, steps_to, step, run, first_order}
use Rattle.end_laws.proofs.Unread.{func_read}
use Rattle.order_laws.proofs.Held.{OkVals, ok_bind}
use Rattle.order_laws.proofs.Shared.{SizeIs}
use Rattle.order_laws.proofs.Mirror.{clipped_program, ToldBy, TaskIs, Mirrors, quieter, mirrors_quiet}
use Rattle.order_laws.proofs.Acted.{end_event, after_end, mirrors_end, event, mirrors_act}

-- ---- one step

module _ (p : Program) (uses : p.uses ≡ map uses_of p.funcs) (entry : ℕ) (args : List ArgValue) (ext : MadeName → ℕ → Bool) where
  -- a buffer that this step makes has the cells that are foreseen
  abbrev pub Foreseen : (s s' : Order) (log : runs.Log Begin Values) → Mirrors p uses entry args ext s log → Type 0
  Foreseen s s' log m = (l : Live) (at : task_at s l.path ≡ Some l) (n : ℕ) (ask : Ask) (xs : List ValueNo) (t : Task) (e : next p l.task ≡ Asks n ask xs t) (on : enabled s.world l.path l.taken ask ≡ true) →
      order.acts p s l ask (world.answer s.world l.path l.taken ask) ≡ s' → AllocFits ext l.path (suc l.taken) ask

  -- the log that mirrors a state
  pub record Mirror (s : Order) : Type 0 where
    pub log : runs.Log Begin Values
    pub mirrors : Mirrors p uses entry args ext s log

  cond_both : (b : Bool) (x y : Order) → cond b (Some x) None ≡ Some y → (b ≡ true) × (x ≡ y)
  cond_both true x y h = (refl, some_inj x y h)
  cond_both false x y h = absurd (none≢some y h)

  pub mirror_step : (s s' : Order) (log : runs.Log Begin Values) (m : Mirrors p uses entry args ext s log) (q : Path) → step p q s ≡ Some s' → Foreseen s s' log m → Mirror s'
  mirror_step s s' log m q e f = by_task (task_at s q) refl e where
    by_next : (l : Live) → task_at s l.path ≡ Some l → (n : Next) → next p l.task ≡ n → steps_to p s l n ≡ Some s' → Mirror s'
    by_next l at (Goes t) h k = subst Mirror (some_inj (quieter p uses entry args ext s log m l at) s' k) (record { log = log; mirrors = mirrors_quiet p uses entry args ext s log m l at t h })
    by_next l at (Asks n ask xs t) h k =
        let c = cond_both (enabled s.world l.path l.taken ask) (order.acts p s l ask (world.answer s.world l.path l.taken ask)) s' k in
        subst Mirror c.1 (record { log = event p uses entry args ext s log m l at n ask xs t h c.0 ∷ log; mirrors = mirrors_act p uses entry args ext s log m l at n ask xs t h c.0 (f l at n ask xs t h c.0 c.1) })
    by_next l at (Ends o) h k = subst Mirror (some_inj (after_end p uses entry args ext s log m l at o h) s' k) (record { log = end_event p uses entry args ext s log m l at o h ∷ log; mirrors = mirrors_end p uses entry args ext s log m l at o h })

    by_task : (o : Option Live) → task_at s q ≡ o → and_then (λ l. steps_to p s l (next p l.task)) o ≡ Some s' → Mirror s'
    by_task None h k = absurd (none≢some s' k)
    by_task (Some l) h k = by_next l (subst (λ r. task_at s r ≡ Some l) (sym (found_path q s.live l h)) h) (next p l.task) refl k

  -- ---- the start

  no_store : (j : ℕ) (gs : List ArgValue) (q : Path) (k : ℕ) → find (λ (s : Store). same_made s.name (Made q k)) (stores_of j gs) ≡ None
  no_store j [] q k = refl
  no_store j (arg.Number n ∷ gs) q k = no_store (j + 1) gs q k
  no_store j (arg.Cells dims cells ∷ gs) q k = no_store (j + 1) gs q k

  arguments_held : (j : ℕ) (gs : List ArgValue) → OkVals p (Buf (first_world args)) (Grp (first_world args)) tt tt (arguments j gs)
  arguments_held j [] = tt
  arguments_held j (arg.Number n ∷ gs) = (tt, arguments_held (j + 1) gs)
  arguments_held j (arg.Cells dims cells ∷ gs) = (tt, arguments_held (j + 1) gs)

  root_like : LikeTask p (root_task p entry args) (root_task p entry args)
  root_like = record { pending = like.done; rest = refl; read = func_read p uses entry; frames = like.end; scope = record { func = refl; nest = refl; sees = λ x r. refl } }

  first_task : (q : Path) → TaskIs p uses entry args ext (first_world args) [] q (task_at (first_order p entry args) q) (runs.begun (clipped_program ext p entry args) [] q) None
  first_task q = split (same_path [] q) refl where
    split : (t : Bool) → same_path [] q ≡ t → TaskIs p uses entry args ext (first_world args) [] q (cond t (Some (newly [] (root_task p entry args))) None) (cond t (Some (record { path = []; task = root_task p entry args })) None) None
    split true e = (
      record {
        named = path_yes [] q e;
        path = path_yes [] q e;
        stands = record { fuel = 0; stood = root_task p entry args; stands = refl; quiet = 0; here = root_task p entry args; quiets = refl; like = root_like };
        taken = refl;
        holds = inl (record { pending = tt; frames = tt; env = ok_bind p (Buf (first_world args)) (Grp (first_world args)) tt tt (names_of (func_params (slice_get p.funcs entry))) (arguments 0 args) [] tt (arguments_held 0 args) });
      },
      refl,
    )
    split false e = refl

  pub mirror_first : ((j i : ℕ) → ext (Argument j) i ≡ nat_lt i (length (cells_in (first_world args) (Argument j)))) → Mirrors p uses entry args ext (first_order p entry args) []
  mirror_first h = record {
    run = tt;
    shared = record {
      cells = λ b i. refl;
      sized = sized;
      arguments = λ j. refl;
      buffers = λ q k b. absurd (true≢false (sym b ∙ ap is_some (no_store 0 args q k)));
      members = λ g. refl;
      sizes = sizes;
      groups = λ q k g. absurd (true≢false (sym g));
      outcomes = λ q. refl;
    };
    tasks = first_task;
    held = λ q. tt;
    shows = refl;
    told = told;
  } where
    sized : (b : MadeName) → Buf (first_world args) b → (i : ℕ) → ext b i ≡ nat_lt i (length (cells_in (first_world args) b))
    sized (Argument j) b i = h j i
    sized (Made q k) b i = absurd (true≢false (sym b ∙ ap is_some (no_store 0 args q k)))

    sizes : (g : MadeName) → SizeIs (group_at (first_world args) g) (runs.size {D = Begin} {V = Values} [] g) g
    sizes (Argument j) = (refl, refl)
    sizes (Made q k) = refl

    told : (q : Path) → ToldBy p uses (runs.begun (clipped_program ext p entry args) [] q) [] []
    told q = split (same_path [] q) where
      split : (t : Bool) → ToldBy p uses (cond t (Some (record { path = []; task = root_task p entry args })) None) [] []
      split true = refl
      split false = refl

-- ---- a task's actions in a trace

abbrev pub actions_of : Path → List TraceEntry → List Action
actions_of q [] = []
actions_of q (e ∷ trace) = cond (same_path e.task q) (e.action ∷ actions_of q trace) (actions_of q trace)

abbrev pub acts_in : runs.Log Begin Values → List Action
acts_in [] = []
acts_in (e ∷ h) = acts_in h ++ one.shown e.act ∷ []

pub actions_append : (q : Path) (xs ys : List TraceEntry) → actions_of q (xs ++ ys) ≡ actions_of q xs ++ actions_of q ys
actions_append q [] ys = refl
actions_append q (x ∷ xs) ys = split (same_path x.task q) (actions_append q xs ys) where
  split : (t : Bool) → actions_of q (xs ++ ys) ≡ actions_of q xs ++ actions_of q ys → cond t (x.action ∷ actions_of q (xs ++ ys)) (actions_of q (xs ++ ys)) ≡ cond t (x.action ∷ actions_of q xs) (actions_of q xs) ++ actions_of q ys
  split true h = ap (λ zs. x.action ∷ zs) h
  split false h = h

pub acts_length : (h : runs.Log Begin Values) → length (acts_in h) ≡ length h
acts_length [] = refl
acts_length (e ∷ h) = omega (arith, length-append (acts_in h) (one.shown e.act ∷ []), acts_length h)

pub append_nil : {X : Type 0} (xs : List X) → xs ++ [] ≡ xs
append_nil [] = refl
append_nil (x ∷ xs) = ap (λ ys. x ∷ ys) (append_nil xs)

pub acts_append : (m h : runs.Log Begin Values) → acts_in (m ++ h) ≡ acts_in h ++ acts_in m
acts_append [] h = sym (append_nil (acts_in h))
acts_append (e ∷ m) h = ap (λ xs. xs ++ one.shown e.act ∷ []) (acts_append m h) ∙ append_assoc_lem (acts_in h) (acts_in m) (one.shown e.act ∷ [])

pub actions_traced : (q : Path) (log : runs.Log Begin Values) → actions_of q (runs.trace_of log) ≡ acts_in (runs.history log q)
actions_traced q [] = refl
actions_traced q (e ∷ log) = actions_append q (runs.trace_of log) (runs.entry_of e ∷ []) ∙ split (same_path e.task q) (actions_traced q log) where
  split : (t : Bool) → actions_of q (runs.trace_of log) ≡ acts_in (runs.history log q) → actions_of q (runs.trace_of log) ++ cond t (one.shown e.act ∷ []) [] ≡ acts_in (cond t (e ∷ runs.history log q) (runs.history log q))
  split true h = ap (λ xs. xs ++ one.shown e.act ∷ []) h
  split false h = append_nil (actions_of q (runs.trace_of log)) ∙ h

abbrev pub cells_by : Action → ℕ
cells_by (act.Alloc n) = n
cells_by _ = 0

-- how many cells the k-th action makes
abbrev pub cells_at : List Action → ℕ → ℕ
cells_at [] k = 0
cells_at (x ∷ xs) zero = 0
cells_at (x ∷ xs) (suc zero) = cells_by x
cells_at (x ∷ xs) (suc (suc k)) = cells_at xs (suc k)

pub cells_there : (xs : List Action) (x : Action) (ys : List Action) → cells_at (xs ++ x ∷ ys) (suc (length xs)) ≡ cells_by x
cells_there [] x ys = refl
cells_there (z ∷ xs) x ys = cells_there xs x ys

-- the cells that a finished run's trace foresees
abbrev pub foreseen : List ArgValue → List TraceEntry → MadeName → ℕ → Bool
foreseen args trace (Argument j) i = nat_lt i (length (cells_in (first_world args) (Argument j)))
foreseen args trace (Made q k) i = nat_lt i (cells_at (actions_of q trace) k)
