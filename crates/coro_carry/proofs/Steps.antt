-- Steps of both machines, and states that agree after them.
use Rattle.std.specs.Prelude.{cond}
use Rattle.std.proofs.Common.{◌≡◌, ℕ, Bool, true, false, List, [], ◌∷◌, ◌++◌, map, length, Option, Some, None, refl, sym, ap, ◌∙◌, subst}
use Rattle.std.specs.Prelude.{slice_get, slice_set}
use Rattle.std.proofs.Math.Logic.{⊎_elim}
use Rattle.std.proofs.lemmas.List.{length-map}
use Rattle.std.proofs.lemmas.Bool.{cases_eq}
use Rattle.ir_forms.specs.declared.args.ArgValue.{ArgValue}
use Rattle.ir_forms.specs.declared.runs.FuncNo.{FuncNo}
use Rattle.ir_forms.specs.declared.runs.ObjNo.{ObjNo}
use Rattle.ir_forms.specs.declared.runs.TaskNo.{TaskNo}
use Rattle.low_forms.specs.declared.code.Block.{Block}
use Rattle.low_forms.specs.declared.code.LowFunc.{LowFunc}
use Rattle.low_forms.specs.declared.code.LowModule.{LowModule}
use Rattle.low_forms.specs.Places.{Remaining, remaining_of}
use Rattle.machines.specs.Machine as machine
use Rattle.machines.specs.Machine.{Machine, Reaches, IsNotStuck}
use Rattle.machines.specs.Reading.{taken, read, known}
use Rattle.machines.specs.Simulates.{IsSafe, Owes}
use Rattle.machines.proofs.Runs.{stays, one_step}
use Rattle.source_meaning.specs.declared.ends.SourceEnd.{SourceEnd}
use Rattle.source_meaning.specs.Values.{maybe, or_else}
use Rattle.async_objects.specs.declared.object.Object.{Object}
use Rattle.async_objects.specs.Objects.{is_done}
use Rattle.task_stack.specs.declared.frames.Place.{Place}
use Rattle.task_stack.specs.Frames.{Stack}
use Rattle.task_stack.specs.Local.{Standing, standing_in, standing, free_step}
use Rattle.step_core.specs.declared.tasks.Task.{Task}
use Rattle.step_core.specs.State.{Plain, task_at, with_task, with_objects, with_buffers, counted}
use Rattle.step_core.specs.Shared as core
use Rattle.step_core.specs.Shared.{Act, Took, Stuck, Idle, Takes}
use Rattle.step_core.specs.Plain as plain
use Rattle.step_core.specs.Plain.{plain_step}
use Rattle.step_core.specs.High as upper
use Rattle.step_core.specs.High.{High, high_step, with_plain}
use Rattle.code_machines.specs.Numbered.{Numbered}
use Rattle.code_machines.specs.HighCode.{high, high_shown, high_took}
use Rattle.code_machines.specs.CoreCode.{core_shown}
use Rattle.code_machines.specs.Objects.{Stands, Objects, objects}
use Rattle.coro_lower.specs.Shape.{lowered}
use Rattle.coro_laws.specs.Laws.{lowered_code}
use Rattle.register_laws.proofs.Lists.{mapped_there}
use Rattle.plain_carry.specs.Alike.{is_plain}
use Rattle.coro_carry.specs.Machines.{numbered_plain, strict_high, plain_took, gives}
use Rattle.coro_carry.specs.Relation.{View, face, view, Settled, Above, Below, Match, MatchAt, Agree}
use Rattle.coro_carry.specs.Laws.{AgreeAt, Followed}
use Rattle.coro_carry.proofs.Lists.{set_same, set_other}

module _ (code : LowModule) where
  abbrev pub low : LowModule
  low = lowered_code code

  -- ---- where frames stand

  pub above_stands : (p : Place) (f : LowFunc) (b : Block) (rest : Remaining) → Above code p f b rest → standing code p ≡ Some (record { func = f; rest = rest })
  above_stands p f b rest a =
      ap (λ (o : Option LowFunc). maybe None (standing_in p) o) a.func
      ∙ ap (λ (o : Option Block). maybe None (λ (r : Remaining). let st : Standing = record { func = f; rest = r } in Some st) (remaining_of o p.at)) a.block
      ∙ ap (λ (o : Option Remaining). maybe None (λ (r : Remaining). let st : Standing = record { func = f; rest = r } in Some st) o) a.here

  pub below_stands : (p p' : Place) (f : LowFunc) (rest : Remaining) → slice_get code.funcs p'.func.0 ≡ Some f → Below p p' f rest → standing low p ≡ Some (record { func = lowered f; rest = rest })
  below_stands p p' f rest there a =
      ap (λ (x : FuncNo). maybe None (standing_in p) (slice_get (map lowered code.funcs) x.0)) a.func
      ∙ ap (λ (o : Option LowFunc). maybe None (standing_in p) o) (mapped_there lowered code.funcs p'.func.0 f there)
      ∙ ap (λ (o : Option Remaining). maybe None (λ (r : Remaining). let st : Standing = record { func = lowered f; rest = r } in Some st) o) a.here

  -- ---- steps of tasks

  pub low_steps : (s : Plain) (t : ℕ) (task : Task) → slice_get s.tasks t ≡ Some (Some task) → task.parked ≡ None → plain_step low s t ≡ plain.by_local (free_step low task.stack) low s t task.stack
  low_steps s t task at ready =
      ap (λ (o : Option (Option Task)). maybe Idle (plain.ready_step low s t) (or_else None o)) at
      ∙ ap (λ (o : Option ObjNo). maybe (plain.by_local (free_step low task.stack) low s t task.stack) (λ x. Idle) o) ready

  pub low_parked : (s : Plain) (t : ℕ) (task : Task) (o : ObjNo) → slice_get s.tasks t ≡ Some (Some task) → task.parked ≡ Some o → plain_step low s t ≡ Idle
  low_parked s t task o at parked =
      ap (λ (x : Option (Option Task)). maybe Idle (plain.ready_step low s t) (or_else None x)) at
      ∙ ap (λ (x : Option ObjNo). maybe (plain.by_local (free_step low task.stack) low s t task.stack) (λ y. Idle) x) parked

  pub high_steps : (h : High) (t : ℕ) (task : Task) → slice_get h.plain.tasks t ≡ Some (Some task) → high_step code h t ≡ upper.by_local (free_step code task.stack) code h t task.stack
  high_steps h t task at = ap (λ (o : Option (Option Task)). maybe Idle (λ x. upper.by_local (free_step code x.stack) code h t x.stack) (or_else None o)) at

  -- ---- states that agree

  pub moves : (s : Plain) (k : Objects) (h : High) (t : ℕ) (task task' next next' : Task) (buffers buffers' : List (List ℕ)) → Agree code s k h → slice_get s.tasks t ≡ Some (Some task) → slice_get h.plain.tasks t ≡ Some (Some task') →
      buffers ≡ buffers' → Match code (view s k h) t next next' →
      Agree code (counted (with_task (with_buffers s buffers) t (Some next))) k (with_plain h (counted (with_task (with_buffers h.plain buffers') t (Some next'))))
  moves s k h t task task' next next' buffers buffers' a at at' same m = record { buffers = same; arguments = a.arguments; root_end = a.root_end; tasks = each; counted = a.counted; as_many = a.as_many; named = a.named; settled = a.settled }
    where
      each : (u : ℕ) → MatchAt code (view s k h) u (slice_get (slice_set s.tasks t (Some next)) u) (slice_get (slice_set h.plain.tasks t (Some next')) u)
      each u = ⊎_elim
          (λ e. subst (λ (x : ℕ). MatchAt code (view s k h) x (slice_get (slice_set s.tasks t (Some next)) x) (slice_get (slice_set h.plain.tasks t (Some next')) x)) (sym e)
          (subst (λ (o : Option (Option Task)). MatchAt code (view s k h) t o (slice_get (slice_set h.plain.tasks t (Some next')) t)) (sym (set_same s.tasks t (Some task) (Some next) at))
          (subst (λ (o : Option (Option Task)). MatchAt code (view s k h) t (Some (Some next)) o) (sym (set_same h.plain.tasks t (Some task') (Some next') at')) m)))
          (λ n. subst (λ (o : Option (Option Task)). MatchAt code (view s k h) u o (slice_get (slice_set h.plain.tasks t (Some next')) u)) (sym (set_other s.tasks t u (Some next) n))
          (subst (λ (o : Option (Option Task)). MatchAt code (view s k h) u (slice_get s.tasks u) o) (sym (set_other h.plain.tasks t u (Some next') n)) (a.tasks u)))
          (cases_eq u t)

  -- the first code's task alone goes on
  pub moves_alone : (s : Plain) (k : Objects) (h : High) (t : ℕ) (task task' next : Task) → Agree code s k h → slice_get s.tasks t ≡ Some (Some task) → slice_get h.plain.tasks t ≡ Some (Some task') →
      Match code (view s k h) t next task' → Agree code (counted (with_task s t (Some next))) k h
  moves_alone s k h t task task' next a at at' m = record { buffers = a.buffers; arguments = a.arguments; root_end = a.root_end; tasks = each; counted = a.counted; as_many = a.as_many; named = a.named; settled = a.settled }
    where
      each : (u : ℕ) → MatchAt code (view s k h) u (slice_get (slice_set s.tasks t (Some next)) u) (slice_get h.plain.tasks u)
      each u = ⊎_elim
          (λ e. subst (λ (x : ℕ). MatchAt code (view s k h) x (slice_get (slice_set s.tasks t (Some next)) x) (slice_get h.plain.tasks x)) (sym e)
          (subst (λ (o : Option (Option Task)). MatchAt code (view s k h) t o (slice_get h.plain.tasks t)) (sym (set_same s.tasks t (Some task) (Some next) at))
          (subst (λ (o : Option (Option Task)). MatchAt code (view s k h) t (Some (Some next)) o) (sym at') m)))
          (λ n. subst (λ (o : Option (Option Task)). MatchAt code (view s k h) u o (slice_get h.plain.tasks u)) (sym (set_other s.tasks t u (Some next) n)) (a.tasks u))
          (cases_eq u t)

  abbrev seen : Objects → High → List Object → View
  seen k h xs = record { faces = xs; stands = k.stands; refs = h.refs; outcomes = h.outcomes; groups = h.groups }

  lengths : (xs ys : List Object) → map face xs ≡ map face ys → length ys ≡ length xs
  lengths xs ys same = sym (length-map ys face) ∙ (sym (ap length same) ∙ length-map xs face)

  -- the same where who waits for objects changes
  pub moves_waiting : (s : Plain) (k : Objects) (h : High) (t : ℕ) (task task' next : Task) (objects' : List Object) → map face objects' ≡ map face s.objects → Agree code s k h → slice_get s.tasks t ≡ Some (Some task) →
      slice_get h.plain.tasks t ≡ Some (Some task') → Match code (view s k h) t next task' → Agree code (counted (with_task (with_objects s objects') t (Some next))) k h
  moves_waiting s k h t task task' next objects' same a at at' m =
      let after = moves_alone s k h t task task' next a at at' m in
      record {
        buffers = after.buffers;
        arguments = a.arguments;
        root_end = a.root_end;
        tasks = subst (λ (xs : List Object). (u : ℕ) → MatchAt code (seen k h xs) u (slice_get (slice_set s.tasks t (Some next)) u) (slice_get h.plain.tasks u)) (sym same) after.tasks;
        counted = a.counted;
        as_many = a.as_many ∙ lengths objects' s.objects same;
        named = subst (λ (xs : List Object). (o : ℕ) (what : Stands) → slice_get k.stands o ≡ Some what → (x : Object) × (slice_get xs o ≡ Some x)) (sym same) after.named;
        settled = subst (λ (xs : List Object). (o : ℕ) (x : Object) → slice_get xs o ≡ Some x → is_done x ≡ true → Settled (seen k h xs) x (slice_get k.stands o)) (sym same) after.settled;
      }

  module _ (n : FuncNo) (f g : LowFunc) (args : List ArgValue) where
    abbrev pub A : Machine Numbered SourceEnd
    A = numbered_plain low n f args

    abbrev pub B : Machine Numbered SourceEnd
    B = strict_high code n g args

    step_is : (s : Plain) (k : Objects) (t : ℕ) (took : Took Plain) → plain_step low s t ≡ took → A.step (s, k) t ≡ taken objects k (plain_took low s t took)
    step_is s k t took e = ap (λ (x : Took Plain). taken objects k (plain_took low s t x)) e

    -- it does nothing that others see, and the second code's task stays where it is
    pub silent : (s after : Plain) (k : Objects) (h : High) (t : ℕ) (wakes : List TaskNo) → plain_step low s t ≡ Takes after wakes core.Nothing → Agree code after k h → Followed code n f g args s k h t
    silent s after k h t wakes e a = subst (λ x. Owes A B (AgreeAt code) x h) (sym (step_is s k t (Takes after wakes core.Nothing) e)) (h, stays B h, a)

    pub idle : (s : Plain) (k : Objects) (h : High) (t : ℕ) → plain_step low s t ≡ Idle → Followed code n f g args s k h t
    idle s k h t e = subst (λ x. Owes A B (AgreeAt code) x h) (sym (step_is s k t Idle e)) tt

    needed : (b : Bool) (took : machine.Took High Numbered) → IsNotStuck B (cond b took machine.Stuck) → (b ≡ true) × IsNotStuck B took
    needed true took ok = (refl, ok)
    needed false took ok = elim ok [ ]

    -- the second code's step is taken, or nothing is to be done, and its await gives a value
    pub can_step : (h : High) (t : ℕ) → IsSafe A B (AgreeAt code) h → (gives code h t ≡ true) × IsNotStuck B (high_took code h t (high_step code h t))
    can_step h t safe = needed (gives code h t) (high_took code h t (high_step code h t)) (safe [] h (stays B h) t)

    pub never_stuck : (h : High) (t : ℕ) → IsSafe A B (AgreeAt code) h → high_step code h t ≡ Stuck → ⊥
    never_stuck h t safe e = subst (λ (x : Took High). IsNotStuck B (high_took code h t x)) e (can_step h t safe).1

    -- both go on, and show the same
    pub both : (s after : Plain) (k : Objects) (h after' : High) (t : ℕ) (wakes wakes' : List TaskNo) (act act' : Act) → IsSafe A B (AgreeAt code) h → plain_step low s t ≡ Takes after wakes act →
        high_step code h t ≡ Takes after' wakes' act' → read objects k (core_shown low s after t act) ≡ high_shown code h after' t act' → Agree code after (known objects k (core_shown low s after t act)) after' →
        Followed code n f g args s k h t
    both s after k h after' t wakes wakes' act act' safe e e' shown a =
        let steps : B.step h t ≡ machine.Takes after' (high_shown code h after' t act') =
        ap (λ (b : Bool). cond b (high_took code h t (high_step code h t)) machine.Stuck) (can_step h t safe).0 ∙ ap (λ (x : Took High). high_took code h t x) e' in
        subst (λ x. Owes A B (AgreeAt code) x h) (sym (step_is s k t (Takes after wakes act) e))
        (after', subst (λ l. Reaches B h l after') (sym shown) (one_step B h t after' (high_shown code h after' t act') steps), a)

    plain_shown : (act : Act) (s after : Plain) (k : Objects) (h after' : High) (t : ℕ) → is_plain act ≡ true → read objects k (core_shown low s after t act) ≡ high_shown code h after' t act
    plain_shown core.Nothing s after k h after' t is = refl
    plain_shown (core.Reads b c) s after k h after' t is = refl
    plain_shown (core.Writes b c) s after k h after' t is = refl
    plain_shown (core.Allocates b c) s after k h after' t is = refl
    plain_shown _ s after k h after' t is = cc

    plain_known : (act : Act) (s after : Plain) (k : Objects) (t : ℕ) → is_plain act ≡ true → k ≡ known objects k (core_shown low s after t act)
    plain_known core.Nothing s after k t is = refl
    plain_known (core.Reads b c) s after k t is = refl
    plain_known (core.Writes b c) s after k t is = refl
    plain_known (core.Allocates b c) s after k t is = refl
    plain_known _ s after k t is = cc

    pub both_plain : (s after : Plain) (k : Objects) (h after' : High) (t : ℕ) (wakes wakes' : List TaskNo) (act : Act) → IsSafe A B (AgreeAt code) h → is_plain act ≡ true → plain_step low s t ≡ Takes after wakes act →
        high_step code h t ≡ Takes after' wakes' act → Agree code after k after' → Followed code n f g args s k h t
    both_plain s after k h after' t wakes wakes' act safe is e e' a =
        both s after k h after' t wakes wakes' act act safe e e' (plain_shown act s after k h after' t is) (subst (λ (x : Objects). Agree code after x after') (plain_known act s after k t is) a)
