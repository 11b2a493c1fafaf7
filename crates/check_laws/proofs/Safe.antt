-- In a module with checks each operation that a task begins has a result.
use Rattle.std.specs.Prelude.{IfSome, ⊤}
use Rattle.std.proofs.Common.{◌≡◌, ◌⊎◌, ℕ, ◌+◌, Bool, true, false, cond, List, [], ◌∷◌, ◌++◌, map, Option, Some, None, refl, sym, ap, subst, ◌∙◌, inl, inr}
use Rattle.ir_forms.specs.declared.args.ArgValue.{ArgValue}
use Rattle.ir_forms.specs.declared.ops.Module.{Module}
use Rattle.ir_forms.specs.declared.ops.Op.{Op, out-Op}
use Rattle.ir_forms.specs.declared.ops.ValueNo.{ValueNo}
use Rattle.ir_forms.specs.Names.{Path, iteration_of, same_path}
use Rattle.ir_verify.specs.Calls.{AreMarks}
use Rattle.check_insert.specs.Shape as shape
use Rattle.source_meaning.specs.Values.{Env, named, values_at}
use Rattle.source_meaning.specs.Parts.{uses_of}
use Rattle.source_meaning.specs.Sequential.{IsProgram, iteration}
use Rattle.source_meaning.specs.Steps.{next, operands}
use Rattle.source_meaning.specs.Tasks.{Program, Pending, Loop, Task, Ask, Reads, Writes, Allocs, Creates, Adds, Launches, Enters, JoinsAll, AwaitsOne, AwaitsAll, Answer, Next, Goes, Asks, Ends, told, resumed}
use Rattle.source_meaning.specs.TaskOrder.{Live, Order, newly, made_by, moved, replaced, without, acts, steps_to, task_at, and_then, step, run, first_order, IsReached, Each}
use Rattle.source_meaning.specs.World.{World, answer, enabled, numbers_from}
use Rattle.carry_laws.specs.Agreement as carry
use Rattle.carry_laws.specs.Agreement.{IsTaskOf, HasNoTask}
use Rattle.carry_laws.proofs.Asked.{answer_like}
use Rattle.carry_laws.proofs.Basics.{none≢some, some_inj, found_path}
use Rattle.typed_laws.proofs.Ranged.{each_append, each_map}
use Rattle.typed_laws.proofs.Shared.{each_found}
use Rattle.check_laws.specs.Fits.{Fits, FitAt, HasSmallTypes}
use Rattle.check_laws.specs.Silent.{IsSafe, Ahead, here, goes_on}
use Rattle.typed_laws.specs.Ranges.{ArgInRange}
use Rattle.typed_laws.proofs.Reached.{values_are_in_range}
use Rattle.check_laws.specs.Laws.{ReadsBelow, FitsAhead, RanksAhead, OperationsHaveResults}
use Rattle.check_laws.proofs.Pass.{fits_by, sound_reads_below}
use Rattle.check_laws.proofs.Guarded.{Below}
use Rattle.check_laws.proofs.Alike.{LikeOps, none, more, LikeTask, LikePending, done, awaits, joining, failing, Kept, Sees, Mid, task_comes}
use Rattle.check_laws.proofs.Whole.{bounds, is_checked, roots_like, checks_call_nothing}

run_on : (p : Program) (qs rs : List Path) (s t u : Order) → run p qs s ≡ Some t → run p rs t ≡ Some u → run p (qs ++ rs) s ≡ Some u
run_on p [] rs s t u e f = subst (λ x. run p rs x ≡ Some u) (sym (some_inj s t e)) f
run_on p (q ∷ qs) rs s t u e f = split (step p q s) (λ x h. run_on p qs rs x t u h f) e where
  split : (o : Option Order) → ((x : Order) → run p qs x ≡ Some t → run p (qs ++ rs) x ≡ Some u) → and_then (run p qs) o ≡ Some t → and_then (run p (qs ++ rs)) o ≡ Some u
  split None m h = absurd (none≢some t h)
  split (Some x) m h = m x h

pub reached_on : (q : Program) (entry : ℕ) (args : List ArgValue) (r : Path) (s x : Order) → IsReached q entry args s → step q r s ≡ Some x → IsReached q entry args x
reached_on q entry args r s x h e = record { order = h.order ++ r ∷ []; comes = run_on q h.order (r ∷ []) (first_order q entry args) s x h.comes (ap (and_then (run q [])) e) }

same_values : (b : ℕ) (env other : Env) → Sees b env other → (xs : List ValueNo) → Below b xs → values_at other xs ≡ values_at env xs
same_values b env other h [] l = refl
same_values b env other h (x ∷ xs) l = ap (λ v. v ∷ values_at other xs) (h x.0 l.0) ∙ ap (λ vs. named env x.0 ∷ vs) (same_values b env other h xs l.1)

module _ (program : Module) (p q : Program) (entry : ℕ) (args : List ArgValue) (reads : Each ReadsBelow program.funcs) (small : Each HasSmallTypes program.funcs) (ip : IsProgram program p) (iq : IsProgram (shape.checked program) q) (ahead : FitsAhead q entry args) where
  abbrev bs : ℕ → ℕ
  bs = bounds program p q entry args reads small ip iq

  abbrev Like : Task → Task → Type 0
  Like = LikeTask bs

  abbrev Comes : Task → Task → Type 0
  Comes t u = Mid bs p q (is_checked program p q entry args reads small ip iq) t u

  -- the task is one with checks, or on its way to where it does what the one without does
  abbrev Good : Task → Type 0
  Good u = (t : Task) × (Like t u ⊎ Comes t u)

  -- ---- values that fit

  fit_ops : (t u : Task) → IsTaskOf q entry args u → Sees (bs t.scope.func) t.scope.env u.scope.env → u.pending ≡ [] → (ops other : List Op) → LikeOps (bs t.scope.func) ops other → u.rest ≡ other → FitAt [] ops t.scope.env
  fit_ops t u a h e ops other none f = tt
  fit_ops t u a h e ops other (more o free rs {rest = rest} {other = others} l mine own types w d) f =
      subst (λ vs. Fits (shape.guard_of (out-Op o).kind) (out-Op o) vs) (same_values (bs t.scope.func) t.scope.env u.scope.env h (out-Op o).operands mine) (ahead u a (out-Op o) free rs others e f)

  fit_pending : (t u : Task) → IsTaskOf q entry args u → Like t u → (ps qs : List Pending) → LikePending bs ps qs → u.pending ≡ qs → FitAt ps t.rest t.scope.env
  fit_pending t u a m ps qs done e = fit_ops t u a m.scope.sees e t.rest u.rest m.rest refl
  fit_pending t u a m ps qs (awaits n x xs l) e = tt
  fit_pending t u a m ps qs (joining n x y j l) e = tt
  fit_pending t u a m ps qs (failing n l) e = tt

  settled : (u : Task) → IsTaskOf q entry args u → Good u → (t : Task) × Comes t u
  settled u a g = go g.1 where
    go : Like g.0 u ⊎ Comes g.0 u → (t : Task) × Comes t u
    go (inl m) = (g.0, task_comes bs p q (is_checked program p q entry args reads small ip iq) g.0 u m (fit_pending g.0 u a m g.0.pending u.pending m.pending refl))
    go (inr m) = (g.0, m)

  safe_now : {v u : Task} → Ahead q v u → IsSafe v → IsSafe u
  safe_now here s = s
  safe_now (goes_on x e a) s = x

  -- ---- a step

  abbrev AskGood : Ask → Type 0
  AskGood (Launches u r) = Good u
  AskGood (Enters loop) = (i : ℕ) → Good (iteration loop i)
  AskGood _ = ⊤

  abbrev NextGood : Next → Type 0
  NextGood (Goes u) = Good u
  NextGood (Asks at_ ask xs u) = ((w : World) (r : Path) (k : ℕ) → Good (resumed at_ xs u (answer w r k ask))) × AskGood ask
  NextGood (Ends o) = ⊤

  plain_good : (a : Ask) → HasNoTask a → AskGood a
  plain_good (Launches t r) h = absurd h
  plain_good (Enters loop) h = absurd h
  plain_good (JoinsAll loop) h = absurd h
  plain_good (Reads b i) h = tt
  plain_good (Writes b i n) h = tt
  plain_good (Allocs dims) h = tt
  plain_good (Creates n) h = tt
  plain_good (Adds g x used) h = tt
  plain_good (AwaitsOne x) h = tt
  plain_good (AwaitsAll g) h = tt

  ask_good : {a b : Ask} → carry.LikeAsk Like a b → AskGood b
  ask_good (carry.same a h) = plain_good a h
  ask_good (carry.launches t u r h) = (t, inl h)
  ask_good (carry.enters l m h) = λ i. (iteration l i, inl (h.iterations i))
  ask_good (carry.joins_all l m h) = tt

  like_good : {m n : Next} → carry.LikeNext Like (Kept bs) m n → NextGood n
  like_good (carry.goes t u h) = (t, inl h)
  like_good (carry.asks at_ by a b xs ys t u l go) =
      ((λ w r k. (resumed at_ xs t (answer w r k a), inl (subst (λ x. Like (resumed at_ xs t (answer w r k a)) (resumed by ys u x)) (sym (answer_like Like w r k a b l)) (go w r k tt).0))), ask_good l)
  like_good (carry.ends o k) = tt

  next_good : (u : Task) → (t : Task) × Comes t u → NextGood (next q u)
  next_good u c = go c.1.ahead refl where
    go : {x : Task} → Ahead q c.1.to x → x ≡ u → NextGood (next q u)
    go here e = subst (λ x. NextGood (next q x)) e (like_good c.1.like)
    go (goes_on {u = w} s f a) e = subst NextGood (sym (subst (λ x. next q x ≡ Goes w) e f)) (c.0, inr (record { to = c.1.to; ahead = a; safe = c.1.safe; like = c.1.like }))

  -- ---- a run

  abbrev LiveGood : Live → Type 0
  LiveGood l = Good l.task

  replaced_good : (l : Live) (live : List Live) → LiveGood l → Each LiveGood live → Each LiveGood (replaced l live)
  replaced_good l live h k = each_map LiveGood LiveGood (λ m. cond (same_path m.path l.path) l m) (λ m. pick m (same_path m.path l.path)) live k where
    pick : (m : Live) (b : Bool) → LiveGood m → LiveGood (cond b l m)
    pick m true i = h
    pick m false i = i

  without_good : (r : Path) (live : List Live) → Each LiveGood live → Each LiveGood (without r live)
  without_good r [] h = tt
  without_good r (l ∷ live) h = split (same_path l.path r) (without_good r live h.1) where
    split : (b : Bool) → Each LiveGood (without r live) → Each LiveGood (cond b (without r live) (l ∷ without r live))
    split true k = k
    split false k = (h.0, k)

  iterations_good : (r : Path) (k : ℕ) (loop : Loop) → ((i : ℕ) → Good (iteration loop i)) → (is : List ℕ) → Each LiveGood (map (λ i. newly (iteration_of r k i) (iteration loop i)) is)
  iterations_good r k loop h [] = tt
  iterations_good r k loop h (i ∷ is) = (h i, iterations_good r k loop h is)

  made_good : (r : Path) (k : ℕ) (a : Ask) → AskGood a → Each LiveGood (made_by r k a)
  made_good r k (Launches t n) h = (h, tt)
  made_good r k (Enters loop) h = iterations_good r k loop h (numbers_from 0 loop.total)
  made_good r k (Reads b i) h = tt
  made_good r k (Writes b i n) h = tt
  made_good r k (Allocs dims) h = tt
  made_good r k (Creates n) h = tt
  made_good r k (Adds g x used) h = tt
  made_good r k (JoinsAll loop) h = tt
  made_good r k (AwaitsOne x) h = tt
  made_good r k (AwaitsAll g) h = tt

  asked_good : (s : Order) (l : Live) (at_ : ℕ) (a : Ask) (xs : List ValueNo) (t : Task) → Each LiveGood s.live → next q l.task ≡ Asks at_ a xs t → NextGood (Asks at_ a xs t) → (b : Bool) → (s' : Order) →
      cond b (Some (acts q s l a (answer s.world l.path l.taken a))) None ≡ Some s' → Each LiveGood s'.live
  asked_good s l at_ a xs t h e k false s' is = absurd (none≢some s' is)
  asked_good s l at_ a xs t h e k true s' is =
      let r : Answer = answer s.world l.path l.taken a in
      subst (λ (x : Order). Each LiveGood x.live) (some_inj _ s' is)
      (each_append LiveGood _ _ (replaced_good (moved q l r (l.taken + 1)) s.live (subst (λ n. Good (told n l.task r)) (sym e) (k.0 s.world l.path l.taken)) h) (made_good l.path (l.taken + 1) a k.1))

  step_to : (s : Order) (l : Live) → Each LiveGood s.live → (n : Next) → next q l.task ≡ n → NextGood n → (s' : Order) → steps_to q s l n ≡ Some s' → Each LiveGood s'.live
  step_to s l h (Goes t) e k s' is = subst (λ (x : Order). Each LiveGood x.live) (some_inj _ s' is) (replaced_good (moved q l None l.taken) s.live (subst (λ n. Good (told n l.task None)) (sym e) k) h)
  step_to s l h (Asks at_ a xs t) e k s' is = asked_good s l at_ a xs t h e k (enabled s.world l.path l.taken a) s' is
  step_to s l h (Ends o) e k s' is = subst (λ (x : Order). Each LiveGood x.live) (some_inj _ s' is) (without_good l.path s.live h)

  task_of : (s : Order) (r : Path) (l : Live) → IsReached q entry args s → task_at s r ≡ Some l → IsTaskOf q entry args l.task
  task_of s r l h e = record { at = s; reached = h; live = l; found = subst (λ x. task_at s x ≡ Some l) (sym (found_path r s.live l e)) e; task = refl }

  step_good : (s : Order) (r : Path) → IsReached q entry args s → Each LiveGood s.live → (o : Option Live) → task_at s r ≡ o → IfSome o LiveGood → (s' : Order) → and_then (λ l. steps_to q s l (next q l.task)) o ≡ Some s' → Each LiveGood s'.live
  step_good s r a h None e k s' is = absurd (none≢some s' is)
  step_good s r a h (Some l) e k s' is = step_to s l h (next q l.task) refl (next_good l.task (settled l.task (task_of s r l a e) k)) s' is

  run_good : (rs : List Path) (s s' : Order) → IsReached q entry args s → Each LiveGood s.live → run q rs s ≡ Some s' → Each LiveGood s'.live
  run_good [] s s' a h is = subst (λ (x : Order). Each LiveGood x.live) (some_inj s s' is) h
  run_good (r ∷ rs) s s' a h is =
      split (step q r s) refl (λ x e f. run_good rs x s' (reached_on q entry args r s x a e) (step_good s r a h (task_at s r) refl (each_found LiveGood (λ l. same_path l.path r) s.live h) x e) f) is where
        split : (o : Option Order) → step q r s ≡ o → ((x : Order) → step q r s ≡ Some x → run q rs x ≡ Some s' → Each LiveGood s'.live) → and_then (run q rs) o ≡ Some s' → Each LiveGood s'.live
        split None e m f = absurd (none≢some s' f)
        split (Some x) e m f = m x e f

  reached_good : (s : Order) → IsReached q entry args s → Each LiveGood s.live
  reached_good s a = run_good a.order (first_order q entry args) s (record { order = []; comes = refl }) ((_, inl (roots_like program p q entry args reads small ip iq)), tt) a.comes

  if_some : (o : Option Live) (l : Live) → o ≡ Some l → IfSome o LiveGood → LiveGood l
  if_some o l e h = subst (λ x. IfSome x LiveGood) e h

  pub safe : (u : Task) → IsTaskOf q entry args u → IsSafe u
  safe u a =
      let good : Good a.live.task = if_some (task_at a.at a.live.path) a.live a.found (each_found LiveGood (λ l. same_path l.path a.live.path) a.at.live (reached_good a.at a.reached)) in
      let c = settled u a (subst Good a.task good) in
      safe_now c.1.ahead c.1.safe

fits_ahead : (q : Program) (entry : ℕ) (args : List ArgValue) → Each ArgInRange args → RanksAhead q entry args → FitsAhead q entry args
fits_ahead q entry args range ranks u a o free rs rest e f = fits_by (shape.guard_of o.kind) o (operands u o) ((values_are_in_range q entry args range).operands u o a) (ranks u a o free rs rest e f)

pub operations_have_results : OperationsHaveResults
operations_have_results program q entry args sound small iq range ranks u a =
    let reads : Each ReadsBelow program.funcs = sound_reads_below program.funcs sound in
    let p : Program = record { funcs = program.funcs; called = q.called; uses = map uses_of program.funcs } in
    let ip : IsProgram program p = record { funcs = refl; called = subst (λ g. AreMarks g q.called) (checks_call_nothing program reads small) iq.called; uses = refl } in
    safe program p q entry args reads small ip iq (fits_ahead q entry args range ranks) u a
