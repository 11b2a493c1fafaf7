-- Each step of a task of one program is followed by steps of the same task of the other.
use Rattle.std.specs.Prelude.{cond, map, is_some}
use Rattle.std.specs.Option.{option_map}
use Rattle.std.proofs.Common.{◌≡◌, ℕ, ◌+◌, Bool, true, false, List, [], ◌∷◌, ◌++◌, Option, Some, None, refl, sym, ap, subst, ◌∙◌}
use Rattle.ir_forms.specs.declared.args.ArgValue.{ArgValue}
use Rattle.ir_forms.specs.declared.names.TraceEntry.{TraceEntry}
use Rattle.ir_forms.specs.declared.ops.ValueNo.{ValueNo}
use Rattle.ir_forms.specs.Names.{Path, launched_by, iteration_of, same_path}
use Rattle.source_meaning.specs.declared.ends.SourceEnd.{SourceEnd}
use Rattle.source_meaning.specs.Tasks.{Program, Loop, Task, Ask, Reads, Writes, Allocs, Creates, Adds, Launches, Enters, JoinsAll, AwaitsOne, AwaitsAll, Answer, Outcome, Next, Goes, Asks, told, resumed}
use Rattle.source_meaning.specs.Steps.{next}
use Rattle.source_meaning.specs.World.{World, answer, after, enabled, ended, outcome, numbers_from, shown, shown_end}
use Rattle.source_meaning.specs.Start.{first_world, root_task, end_of}
use Rattle.source_meaning.specs.Sequential.{iteration}
use Rattle.source_meaning.specs.TaskOrder.{Live, Event, Order, newly, made_by, moved, replaced, without, logged, acts, steps_to, task_at, and_then, step, run, first_order, IsReached, shown_in, end_in, Finishes}
use Rattle.carry_laws.specs.Agreement.{HasNoTask, LikeLoop, LikeAsk, same, launches, enters, joins_all, GoOn, LikeNext, goes, asks, ends, Meets, both, first, second, Agreement}
use Rattle.carry_laws.specs.Laws.{IsLike, FollowsEach}
use Rattle.carry_laws.proofs.Asked.{answer_like, after_like, enabled_like, shown_like}
use Rattle.carry_laws.proofs.Basics.{none≢some, some_inj, path_same, found, found_path, found_replaced, found_without, either, found_append, found_itself}

-- ---- runs one after another

pub run_on : (p : Program) (qs rs : List Path) (s t u : Order) → run p qs s ≡ Some t → run p rs t ≡ Some u → run p (qs ++ rs) s ≡ Some u
run_on p [] rs s t u e f = subst (λ x. run p rs x ≡ Some u) (sym (some_inj s t e)) f
run_on p (q ∷ qs) rs s t u e f = split (step p q s) (λ x h. run_on p qs rs x t u h f) e where
  split : (o : Option Order) → ((x : Order) → run p qs x ≡ Some t → run p (qs ++ rs) x ≡ Some u) → and_then (run p qs) o ≡ Some t → and_then (run p (qs ++ rs)) o ≡ Some u
  split None more h = absurd (none≢some t h)
  split (Some x) more h = more x h

pub run_one : (p : Program) (q : Path) (s t : Order) → step p q s ≡ Some t → run p (q ∷ []) s ≡ Some t
run_one p q s t e = ap (and_then (run p [])) e

module _ (Like : Task → Task → Type 0) (Kept : World → Type 0) (p q : Program) (entry : ℕ) (args : List ArgValue) (A : Agreement Like Kept p q entry args) where
  -- tasks that are alike, or that meet
  pub data Held : Task → Task → Type 0 where
    alike : (t u : Task) → Like t u → Held t u
    met : (t u : Task) → Meets Like Kept p q t u → Held t u

  -- the tasks that two states have under one path
  pub data SameFound : Option Live → Option Live → Type 0 where
    nowhere : SameFound None None
    twice : (l m : Live) → m.path ≡ l.path → m.taken ≡ l.taken → Held l.task m.task → SameFound (Some l) (Some m)

  -- under each path
  abbrev pub SameLive : List Live → List Live → Type 0
  SameLive ls ms = (r : Path) → SameFound (found r ls) (found r ms)

  pub data SameOrder : Order → Order → Type 0 where
    orders : (ls ms : List Live) (w : World) (log : List Event) → Kept w → SameLive ls ms →
        SameOrder (record { live = ls; world = w; log = log }) (record { live = ms; world = w; log = log })

  -- ---- lists of tasks

  same_cons : (l m : Live) (ls ms : List Live) → m.path ≡ l.path → m.taken ≡ l.taken → Held l.task m.task → SameLive ls ms → SameLive (l ∷ ls) (m ∷ ms)
  same_cons l m ls ms e n held h r =
      subst (λ x. SameFound (cond (same_path l.path r) (Some l) (found r ls)) (cond (same_path x r) (Some m) (found r ms))) (sym e) (split (same_path l.path r)) where
        split : (b : Bool) → SameFound (cond b (Some l) (found r ls)) (cond b (Some m) (found r ms))
        split true = twice l m e n held
        split false = h r

  same_none : SameLive [] []
  same_none r = nowhere

  same_either : (x y x' y' : Option Live) → SameFound x y → SameFound x' y' → SameFound (either x x') (either y y')
  same_either x y x' y' nowhere h = h
  same_either x y x' y' (twice l m e n held) h = twice l m e n held

  same_append : (ls ms ls' ms' : List Live) → SameLive ls ms → SameLive ls' ms' → SameLive (ls ++ ls') (ms ++ ms')
  same_append ls ms ls' ms' h h' r =
      subst (λ x. SameFound x (found r (ms ++ ms'))) (sym (found_append r ls ls'))
      (subst (λ x. SameFound (either (found r ls) (found r ls')) x) (sym (found_append r ms ms')) (same_either (found r ls) (found r ms) (found r ls') (found r ms') (h r) (h' r)))

  put : (l m : Live) → m.path ≡ l.path → m.taken ≡ l.taken → Held l.task m.task → (x y : Option Live) → SameFound x y → SameFound (option_map (λ z. l) x) (option_map (λ z. m) y)
  put l m e n held x y nowhere = nowhere
  put l m e n held x y (twice a b f k h) = twice l m e n held

  pub same_replaced : (l m : Live) (ls ms : List Live) → m.path ≡ l.path → m.taken ≡ l.taken → Held l.task m.task → SameLive ls ms → SameLive (replaced l ls) (replaced m ms)
  same_replaced l m ls ms e n held h r =
      subst (λ x. SameFound x (found r (replaced m ms))) (sym (found_replaced l ls r))
      (subst (λ x. SameFound (cond (same_path l.path r) (option_map (λ z. l) (found r ls)) (found r ls)) x) (sym (found_replaced m ms r))
      (subst (λ x. SameFound (cond (same_path l.path r) (option_map (λ z. l) (found r ls)) (found r ls)) (cond (same_path x r) (option_map (λ z. m) (found r ms)) (found r ms))) (sym e) (split (same_path l.path r)))) where
        split : (b : Bool) → SameFound (cond b (option_map (λ z. l) (found r ls)) (found r ls)) (cond b (option_map (λ z. m) (found r ms)) (found r ms))
        split true = put l m e n held (found r ls) (found r ms) (h r)
        split false = h r

  same_without : (at : Path) (ls ms : List Live) → SameLive ls ms → SameLive (without at ls) (without at ms)
  same_without at ls ms h r =
      subst (λ x. SameFound x (found r (without at ms))) (sym (found_without at ls r))
      (subst (λ x. SameFound (cond (same_path at r) None (found r ls)) x) (sym (found_without at ms r)) (split (same_path at r))) where
        split : (b : Bool) → SameFound (cond b None (found r ls)) (cond b None (found r ms))
        split true = nowhere
        split false = h r

  -- ---- the tasks that an action makes

  same_iterations : (at : Path) (k : ℕ) (l m : Loop) → LikeLoop Like l m → (is : List ℕ) →
      SameLive (map (λ i. newly (iteration_of at k i) (iteration l i)) is) (map (λ i. newly (iteration_of at k i) (iteration m i)) is)
  same_iterations at k l m h [] = same_none
  same_iterations at k l m h (i ∷ is) = same_cons (newly (iteration_of at k i) (iteration l i)) (newly (iteration_of at k i) (iteration m i)) _ _ refl refl (alike _ _ (h.iterations i)) (same_iterations at k l m h is)

  made_none : (at : Path) (k : ℕ) (a : Ask) → HasNoTask a → made_by at k a ≡ []
  made_none at k (Reads b i) n = refl
  made_none at k (Writes b i v) n = refl
  made_none at k (Allocs dims) n = refl
  made_none at k (Creates v) n = refl
  made_none at k (Adds g x used) n = refl
  made_none at k (Launches c r) n = absurd n
  made_none at k (Enters loop) n = absurd n
  made_none at k (JoinsAll loop) n = absurd n
  made_none at k (AwaitsOne x) n = refl
  made_none at k (AwaitsAll g) n = refl

  made_like : (at : Path) (k : ℕ) (a b : Ask) → LikeAsk Like a b → SameLive (made_by at k a) (made_by at k b)
  made_like at k a b (same c n) = subst (λ ls. SameLive ls ls) (sym (made_none at k c n)) same_none
  made_like at k a b (launches t u r h) = same_cons (newly (launched_by at k) t) (newly (launched_by at k) u) [] [] refl refl (alike t u h) same_none
  made_like at k a b (enters l m h) =
      subst (λ n. SameLive (map (λ i. newly (iteration_of at k i) (iteration l i)) (numbers_from 0 l.total)) (map (λ i. newly (iteration_of at k i) (iteration m i)) (numbers_from 0 n))) (sym h.total) (same_iterations at k l m h (numbers_from 0 l.total))
  made_like at k a b (joins_all l m h) = same_none

  -- ---- one step of a task

  -- the second program's run goes on from here to what is the same
  abbrev pub Led : Order → Order → Type 0
  Led t s' = (qs : List Path) × (t' : Order) × (run q qs t ≡ Some t') × SameOrder s' t'

  module _ (ls : List Live) (w : World) (log : List Event) (kept : Kept w) (l : Live) (here : found l.path ls ≡ Some l) where
    abbrev one_at : Order
    one_at = record { live = ls; world = w; log = log }

    abbrev other_at : List Live → Order
    other_at ms = record { live = ms; world = w; log = log }

    -- what the second program's task comes to by its step
    abbrev Stepped : List Live → Live → Next → Order → Type 0
    Stepped ms m n s' = (t' : Order) × (steps_to q (other_at ms) m n ≡ Some t') × SameOrder s' t'

    module _ (ms : List Live) (all : SameLive ls ms) (m : Live) (path : m.path ≡ l.path) (taken : m.taken ≡ l.taken) where
      told_goes : (x y : Next) → next p l.task ≡ x → next q m.task ≡ y → (r s : Answer) → Held (told x l.task r) (told y m.task s) → Held (told (next p l.task) l.task r) (told (next q m.task) m.task s)
      told_goes x y e f r s h =
          subst (λ n. Held (told n l.task r) (told (next q m.task) m.task s)) (sym e) (subst (λ n. Held (told x l.task r) (told n m.task s)) (sym f) h)

      asked : (at by : ℕ) (a b : Ask) (xs ys : List ValueNo) (t u : Task) → next p l.task ≡ Asks at a xs t → next q m.task ≡ Asks by b ys u → LikeAsk Like a b → GoOn Like Kept a (resumed at xs t) (resumed by ys u) →
          (s' : Order) (can : Bool) → enabled w l.path l.taken a ≡ can → cond can (Some (acts p one_at l a (answer w l.path l.taken a))) None ≡ Some s' → Stepped ms m (Asks by b ys u) s'
      asked at by a b xs ys t u e f like go s' false is h = absurd (none≢some s' h)
      asked at by a b xs ys t u e f like go s' true is h =
          let answered : answer w m.path m.taken b ≡ answer w l.path l.taken a = ap (λ n. answer w n m.taken b) path ∙ ap (λ n. answer w l.path n b) taken ∙ answer_like Like w l.path l.taken a b like in
          let can : enabled w m.path m.taken b ≡ true = ap (λ n. enabled w n m.taken b) path ∙ ap (λ n. enabled w l.path n b) taken ∙ enabled_like Like w l.path l.taken a b like ∙ is in
          let behind : after w m.path m.taken b ≡ after w l.path l.taken a = ap (λ n. after w n m.taken b) path ∙ ap (λ n. after w l.path n b) taken ∙ after_like Like w l.path l.taken a b like in
          let r : Answer = answer w l.path l.taken a in
          let to = go w l.path l.taken kept in
          let t' : Order = acts q (other_at ms) m b (answer w m.path m.taken b) in
          let l1 : Live = moved p l r (l.taken + 1) in
          let m1 : Live = moved q m (answer w m.path m.taken b) (m.taken + 1) in
          let held : Held l1.task m1.task = told_goes _ _ e f r (answer w m.path m.taken b) (subst (λ z. Held (resumed at xs t r) (resumed by ys u z)) (sym answered) (alike _ _ to.0)) in
          let made : SameLive (made_by l.path (l.taken + 1) a) (made_by m.path (m.taken + 1) b) =
          subst (λ n. SameLive (made_by l.path (l.taken + 1) a) (made_by n (m.taken + 1) b)) (sym path) (subst (λ n. SameLive (made_by l.path (l.taken + 1) a) (made_by l.path (n + 1) b)) (sym taken) (made_like l.path (l.taken + 1) a b like)) in
          let live = same_append _ _ _ _ (same_replaced l1 m1 ls ms path (ap (λ n. n + 1) taken) held all) made in
          let logs : logged (other_at ms) m.path (shown b) (answer w m.path m.taken b) ≡ logged one_at l.path (shown a) r =
          ap (λ n. logged (other_at ms) n (shown b) (answer w m.path m.taken b)) path ∙ ap (λ n. logged (other_at ms) l.path n (answer w m.path m.taken b)) (shown_like Like a b like) ∙ ap (logged (other_at ms) l.path (shown a)) answered in (
            t',
            ap (λ c. cond c (Some t') None) can,
            subst (λ x. SameOrder x t') (some_inj _ s' h)
                (subst (λ v. SameOrder (acts p one_at l a r) (record { live = t'.live; world = v; log = t'.log })) (sym behind)
                (subst (λ v. SameOrder (acts p one_at l a r) (record { live = t'.live; world = after w l.path l.taken a; log = v })) (sym logs)
                (orders _ t'.live (after w l.path l.taken a) (logged one_at l.path (shown a) r) to.1 live))),
          )

      next_like : (x y : Next) → LikeNext Like Kept x y → next p l.task ≡ x → next q m.task ≡ y → (s' : Order) → steps_to p one_at l x ≡ Some s' → Stepped ms m y s'
      next_like x y (goes t u h) e f s' is =
          let l1 : Live = moved p l None l.taken in
          let m1 : Live = moved q m None m.taken in
          let held : Held l1.task m1.task = told_goes _ _ e f None None (alike t u h) in (
            record { live = replaced m1 ms; world = w; log = log },
            refl,
            subst (λ x. SameOrder x (record { live = replaced m1 ms; world = w; log = log })) (some_inj _ s' is) (orders (replaced l1 ls) (replaced m1 ms) w log kept (same_replaced l1 m1 ls ms path taken held all)),
          )
      next_like x y (asks at by a b xs ys t u like go) e f s' is = asked at by a b xs ys t u e f like go s' (enabled w l.path l.taken a) refl is
      next_like x y (ends o k) e f s' is =
          let t' : Order = record { live = without m.path ms; world = ended w m.path o; log = logged (other_at ms) m.path (shown_end o) None } in
          let same_end : SameOrder (record { live = without l.path ls; world = ended w l.path o; log = logged one_at l.path (shown_end o) None }) t' =
          subst (λ n. SameOrder (record { live = without l.path ls; world = ended w l.path o; log = logged one_at l.path (shown_end o) None }) (record { live = without n ms; world = ended w n o; log = logged (other_at ms) n (shown_end o) None })) (sym path)
          (orders (without l.path ls) (without l.path ms) (ended w l.path o) (logged one_at l.path (shown_end o) None) (k w l.path kept) (same_without l.path ls ms all)) in
          (t', refl, subst (λ x. SameOrder x t') (some_inj _ s' is) same_end)

    -- a silent step of the first program's task alone
    one_alone : (ms : List Live) → SameLive ls ms → (m : Live) → found l.path ms ≡ Some m → m.path ≡ l.path → m.taken ≡ l.taken → (t' : Task) → next p l.task ≡ Goes t' → Held t' m.task → (s' : Order) →
        steps_to p one_at l (Goes t') ≡ Some s' → SameOrder s' (other_at ms)
    one_alone ms all m is path taken t' e held s' h =
        let l1 : Live = moved p l None l.taken in
        let to : Held l1.task m.task = subst (λ n. Held (told n l.task None) m.task) (sym e) held in
        let itself : found m.path ms ≡ Some m = subst (λ r. found r ms ≡ Some m) (sym path) is in
        let live : SameLive (replaced l1 ls) ms = λ r. subst (λ x. SameFound (found r (replaced l1 ls)) x) (found_itself m ms itself r) (same_replaced l1 m ls ms path taken to all r) in
        subst (λ x. SameOrder x (other_at ms)) (some_inj _ s' h) (orders (replaced l1 ls) ms w log kept live)

    drive : (t u : Task) → Meets Like Kept p q t u → t ≡ l.task → (ms : List Live) → SameLive ls ms → (m : Live) → found l.path ms ≡ Some m → m.path ≡ l.path → m.taken ≡ l.taken → u ≡ m.task → (s' : Order) →
        steps_to p one_at l (next p l.task) ≡ Some s' → Led (other_at ms) s'
    drive t u (both _ _ h) i ms all m is path taken j s' stepped =
        let like : LikeNext Like Kept (next p l.task) (next q m.task) = subst (λ x. LikeNext Like Kept (next p x) (next q m.task)) i (subst (λ x. LikeNext Like Kept (next p t) (next q x)) j h) in
        let to = next_like ms all m path taken _ _ like refl refl s' stepped in
        let moves : step q l.path (other_at ms) ≡ Some to.0 = ap (and_then (λ x. steps_to q (other_at ms) x (next q x.task))) is ∙ to.1 in
        (l.path ∷ [], to.0, run_one q l.path (other_at ms) to.0 moves, to.2)
    drive t u (first _ _ t' e h) i ms all m is path taken j s' stepped =
        let goes : next p l.task ≡ Goes t' = ap (next p) (sym i) ∙ e in
        ([], other_at ms, refl, one_alone ms all m is path taken t' goes (subst (Held t') j (met t' u h)) s' (subst (λ n. steps_to p one_at l n ≡ Some s') goes stepped))
    drive t u (second _ _ u' e h) i ms all m is path taken j s' stepped =
        let goes : next q m.task ≡ Goes u' = ap (next q) (sym j) ∙ e in
        let m1 : Live = moved q m None m.taken in
        let to : u' ≡ m1.task = sym (ap (λ n. told n m.task None) goes) in
        let held : Held l.task m1.task = subst (λ x. Held x m1.task) i (subst (Held t) to (met t u' h)) in
        let live : SameLive ls (replaced m1 ms) = λ r. subst (λ x. SameFound x (found r (replaced m1 ms))) (found_itself l ls here r) (same_replaced l m1 ls ms path taken held all r) in
        let put : found l.path (replaced m1 ms) ≡ Some m1 =
        found_replaced m1 ms l.path ∙ (ap (λ x. cond (same_path x l.path) (option_map (λ z. m1) (found l.path ms)) (found l.path ms)) path ∙ (ap (λ b. cond b (option_map (λ z. m1) (found l.path ms)) (found l.path ms)) (path_same l.path) ∙ ap (option_map (λ z. m1)) is)) in
        let then = drive t u' h i (replaced m1 ms) live m1 put path taken to s' stepped in
        let moves : step q l.path (other_at ms) ≡ Some (other_at (replaced m1 ms)) =
        ap (and_then (λ x. steps_to q (other_at ms) x (next q x.task))) is ∙ ap (steps_to q (other_at ms) m) goes in
        (l.path ∷ then.0, then.1, run_on q (l.path ∷ []) then.0 (other_at ms) (other_at (replaced m1 ms)) then.1 (run_one q l.path (other_at ms) _ moves) then.2, then.3)

  -- ---- the whole run

  pub meets_now : (s o : Order) → IsReached p entry args s → IsReached q entry args o → (l m : Live) → task_at s l.path ≡ Some l → task_at o m.path ≡ Some m → Held l.task m.task → Meets Like Kept p q l.task m.task
  meets_now s o here there l m e f (alike _ _ h) =
      A.meets l.task m.task h (record { at = s; reached = here; live = l; found = e; task = refl }) (record { at = o; reached = there; live = m; found = f; task = refl })
  meets_now s o here there l m e f (met _ _ h) = h

  found_step : (r : Path) (ls ms : List Live) (w : World) (log : List Event) → Kept w → SameLive ls ms →
      IsReached p entry args (record { live = ls; world = w; log = log }) → IsReached q entry args (record { live = ms; world = w; log = log }) →
      (x y : Option Live) → SameFound x y → found r ls ≡ x → found r ms ≡ y → (s' : Order) →
      and_then (λ l. steps_to p (record { live = ls; world = w; log = log }) l (next p l.task)) x ≡ Some s' → Led (record { live = ms; world = w; log = log }) s'
  found_step r ls ms w log kept all here there x y nowhere e f s' is = absurd (none≢some s' is)
  found_step r ls ms w log kept all here over x y (twice l m path taken held) e f s' is =
      let at : l.path ≡ r = found_path r ls l e in
      let el : found l.path ls ≡ Some l = subst (λ z. found z ls ≡ Some l) (sym at) e in
      let fl : found l.path ms ≡ Some m = subst (λ z. found z ms ≡ Some m) (sym at) f in
      let fm : found m.path ms ≡ Some m = subst (λ z. found z ms ≡ Some m) (sym path) fl in
      drive ls w log kept l el l.task m.task (meets_now _ _ here over l m el fm held) refl ms all m fl path taken refl s' is

  pub one_step : (r : Path) (s t s' : Order) → SameOrder s t → IsReached p entry args s → IsReached q entry args t → step p r s ≡ Some s' → Led t s'
  one_step r s t s' (orders ls ms w log kept all) here there is = found_step r ls ms w log kept all here there (found r ls) (found r ms) (all r) refl refl s' is

  pub reached_on : (o : Program) (s t : Order) (qs : List Path) → IsReached o entry args s → run o qs s ≡ Some t → IsReached o entry args t
  reached_on o s t qs h e = record { order = h.order ++ qs; comes = run_on o h.order qs (first_order o entry args) s t h.comes e }

  runs_so : (rs : List Path) (s t s' : Order) → SameOrder s t → IsReached p entry args s → IsReached q entry args t → run p rs s ≡ Some s' → (t' : Order) × IsReached q entry args t' × SameOrder s' t'
  runs_so [] s t s' h here there is = (t, there, subst (λ x. SameOrder x t) (some_inj s s' is) h)
  runs_so (r ∷ rs) s t s' h here there is = split (step p r s) refl (λ x t1 e h' there' f. runs_so rs x t1 s' h' (reached_on p s x (r ∷ []) here (run_one p r s x e)) there' f) is where
    split : (o : Option Order) → step p r s ≡ o →
        ((x t1 : Order) → step p r s ≡ Some x → SameOrder x t1 → IsReached q entry args t1 → run p rs x ≡ Some s' → (t' : Order) × IsReached q entry args t' × SameOrder s' t') →
        and_then (run p rs) o ≡ Some s' → (t' : Order) × IsReached q entry args t' × SameOrder s' t'
    split None e more f = absurd (none≢some s' f)
    split (Some x) e more f = let to = one_step r s t x h here there e in more x to.1 e to.3 (reached_on q t to.1 to.0 there to.2) f

  pub none_left : (ms : List Live) → SameLive [] ms → ms ≡ []
  none_left [] h = refl
  none_left (m ∷ ms) h = absurd (nobody (subst (λ b. SameFound None (cond b (Some m) (found m.path ms))) (path_same m.path) (h m.path))) where
    nobody : SameFound None (Some m) → ⊥
    nobody h = elim h [ ]

  pub started : SameOrder (first_order p entry args) (first_order q entry args)
  started =
      let l : Live = newly [] (root_task p entry args) in
      let m : Live = newly [] (root_task q entry args) in
      orders (l ∷ []) (m ∷ []) (first_world args) [] A.kept (same_cons l m [] [] refl refl (alike _ _ A.starts) same_none)

  finished : (s t : Order) → SameOrder s t → IsReached q entry args t → s.live ≡ [] → (trace : List TraceEntry) (end : SourceEnd) → shown_in s.log ≡ trace → end_in p entry s ≡ Some end → Finishes q entry args trace end
  finished s t (orders ls ms w log kept all) there is trace end shows e = record {
    last = record { live = ms; world = w; log = log };
    reached = there;
    finished = none_left ms (subst (λ xs. SameLive xs ms) is all);
    shows = shows;
    ends = split (outcome w []) e;
  }
    where
      split : (o : Option Outcome) → option_map (end_of p entry w) o ≡ Some end → option_map (end_of q entry w) o ≡ Some end
      split None h = absurd (none≢some end h)
      split (Some o) h = ap Some (A.ends w o) ∙ h

  pub finishes_so : (trace : List TraceEntry) (end : SourceEnd) → Finishes p entry args trace end → Finishes q entry args trace end
  finishes_so trace end f =
      let to = runs_so f.reached.order (first_order p entry args) (first_order q entry args) f.last started (record { order = []; comes = refl }) (record { order = []; comes = refl }) f.reached.comes in
      finished f.last to.0 to.2 to.1 f.finished trace end f.shows f.ends

  -- ---- each state

  found_alike : (x y : Option Live) → SameFound x y → is_some y ≡ is_some x
  found_alike x y nowhere = refl
  found_alike x y (twice l m e n held) = refl

  is_like : (s t : Order) → SameOrder s t → IsReached q entry args t → IsLike q entry args s
  is_like s t (orders ls ms w log kept all) there = record {
    at = record { live = ms; world = w; log = log };
    reached = there;
    world = refl;
    log = refl;
    live = λ r. found_alike (found r ls) (found r ms) (all r);
  }

  pub follows_each : FollowsEach p q entry args
  follows_each s h =
      let to = runs_so h.order (first_order p entry args) (first_order q entry args) s started (record { order = []; comes = refl }) (record { order = []; comes = refl }) h.comes in
      is_like s to.0 to.2 to.1
