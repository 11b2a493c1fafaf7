-- In each state that a run comes to the values of tasks have their types.
use Rattle.std.specs.Prelude.{IfSome}
use Rattle.std.specs.List.{find}
use Rattle.std.specs.Option.{option_map}
use Rattle.std.proofs.Common.{◌≡◌, ℕ, suc, ◌+◌, Bool, true, false, cond, List, [], ◌∷◌, ◌++◌, map, Option, Some, None, slice_get, refl, sym, ◌∙◌, subst}
use Rattle.std.proofs.lemmas.Bool.{true≢false}
use Rattle.ir_forms.specs.declared.args.ArgValue.{ArgValue}
use Rattle.ir_forms.specs.declared.args.ArgValue.TheVariants as arg
use Rattle.ir_forms.specs.declared.names.ElementName.{ElementName}
use Rattle.ir_forms.specs.declared.names.ElementName.TheVariants.{Token, Value}
use Rattle.ir_forms.specs.declared.ops.Func.{Func}
use Rattle.ir_forms.specs.declared.ops.ValueNo.{ValueNo}
use Rattle.ir_forms.specs.declared.types.Ty.{Ty}
use Rattle.ir_forms.specs.declared.types.Ty.TheVariants as ty
use Rattle.ir_forms.specs.Names.{Path, launched_by, iteration_of, same_path, maker}
use Rattle.ir_verify.specs.Places.{Seen, in_body}
use Rattle.source_meaning.specs.Start.{argument, arguments}
use Rattle.source_meaning.specs.Sequential.{iteration}
use Rattle.source_meaning.specs.Steps.{next}
use Rattle.source_meaning.specs.Tasks.{Program, Loop, Task, Ask, Reads, Writes, Allocs, Creates, Adds, Launches, Enters, JoinsAll, AwaitsOne, AwaitsAll, Answer, Outcome, Gave, FailedAt, Next, Goes, Asks, Ends, told, resumed}
use Rattle.source_meaning.specs.TaskOrder.{Live, Order, newly, made_by, moved, replaced, without, acts, steps_to, task_at, and_then, step, run, first_order, IsReached, Each}
use Rattle.source_meaning.specs.World.{World, members, outcome, is_good, all_of, all_below, unless_failed, awaited, answer, after, enabled, numbers_from}
use Rattle.carry_laws.specs.Agreement.{IsTaskOf}
use Rattle.carry_laws.proofs.Basics.{none≢some, some_inj, path_same, path_yes}
use Rattle.typed_laws.specs.Typed.{Typing, HasType, AreGood, ArgFits, ArgsFit, BuffersFit, ElementsFit}
use Rattle.typed_laws.proofs.Types.{Later, later_type, payload}
use Rattle.typed_laws.proofs.Ranged.{each_append}
use Rattle.typed_laws.proofs.Shared.{each_found}
use Rattle.typed_laws.proofs.Envs.{AreTyped, types_in}
use Rattle.typed_laws.proofs.Framed.{Payloads, bare, TaskTyped, task_later, AwaitFits, IsUnless, AsksTyped, NextTyped}
use Rattle.typed_laws.proofs.Rows.{body_task}
use Rattle.typed_laws.proofs.Nexts.{next_typed, buffer_typed, elements_typed}
use Rattle.typed_laws.proofs.Paths as paths
use Rattle.typed_laws.proofs.Paths.{NoneBelow, none_below, none_since, told_later, told_new, others_none, actor_none, new_below, is_iteration, iteration_made, iteration_is, launch_made}

-- ---- lists of tasks

replaced_each : (P Q : Live → Type 0) (l : Live) (live : List Live) → ((m : Live) → same_path m.path l.path ≡ false → P m → Q m) → Q l → Each P live → Each Q (replaced l live)
replaced_each P Q l [] f h k = tt
replaced_each P Q l (m ∷ live) f h k = (split (same_path m.path l.path) refl, replaced_each P Q l live f h k.1) where
  split : (b : Bool) → same_path m.path l.path ≡ b → Q (cond b l m)
  split true e = h
  split false e = f m e k.0

without_each : (P : Live → Type 0) (q : Path) (live : List Live) → Each P live → Each P (without q live)
without_each P q [] h = tt
without_each P q (l ∷ live) h = split (same_path l.path q) (without_each P q live h.1) where
  split : (b : Bool) → Each P (without q live) → Each P (cond b (without q live) (l ∷ without q live))
  split true k = k
  split false k = (h.0, k)

each_mapped : {X : Type 0} (P Q : X → Type 0) → ((x : X) → P x → Q x) → (xs : List X) → Each P xs → Each Q xs
each_mapped P Q f [] h = tt
each_mapped P Q f (x ∷ xs) h = (f x h.0, each_mapped P Q f xs h.1)

apart : (a b : Path) → same_path a b ≡ false → a ≡ b → ⊥
apart a b e f = absurd (true≢false (sym (subst (λ x. same_path a x ≡ true) f (path_same a)) ∙ e))

module _ (p : Program) (all : AreGood p.funcs) where
  -- ---- states

  record LiveTyped (typing : Typing) (l : Live) : Type 0 where
    claim : List Ty
    known : typing l.path ≡ Some claim
    task : TaskTyped p.funcs typing claim l.task
    none : NoneBelow typing l.path l.taken

  abbrev OutcomeTyped : Typing → List Ty → Outcome → Type 0
  OutcomeTyped typing claim (Gave vs) = Payloads typing claim vs
  OutcomeTyped typing claim (FailedAt at) = Unit {0}

  record EndTyped (typing : Typing) (e : Path × Outcome) : Type 0 where
    claim : List Ty
    known : typing e.0 ≡ Some claim
    outcome : OutcomeTyped typing claim e.1

  record StateTyped (s : Order) : Type 0 where
    typing : Typing
    live : Each (LiveTyped typing) s.live
    ends : Each (EndTyped typing) s.world.ends

  end_later : (typing later : Typing) → Later typing later → (e : Path × Outcome) → EndTyped typing e → EndTyped later e
  unfolding Later
  end_later typing later l e h = record { claim = h.claim; known = l e.0 h.claim h.known; outcome = by e.1 h.outcome } where
    by : (o : Outcome) → OutcomeTyped typing h.claim o → OutcomeTyped later h.claim o
    by (Gave vs) k = λ j w at. later_type typing later l (payload w) _ (k j w at)
    by (FailedAt at) k = tt

  -- ---- answers

  unless_is : (b : Bool) → IsUnless p.funcs (unless_failed b)
  unless_is true = tt
  unless_is false = tt

  found_end : (typing : Typing) (q : Path) (ends : List (Path × Outcome)) → Each (EndTyped typing) ends → IfSome (find (λ (e : Path × Outcome). same_path e.0 q) ends) (λ e. EndTyped typing (q, e.1))
  found_end typing q [] h = tt
  found_end typing q (e ∷ ends) h = split (same_path e.0 q) refl (found_end typing q ends h.1) where
    split : (b : Bool) → same_path e.0 q ≡ b → IfSome (find (λ (e : Path × Outcome). same_path e.0 q) ends) (λ e. EndTyped typing (q, e.1)) → IfSome (cond b (Some e) (find (λ (e : Path × Outcome). same_path e.0 q) ends)) (λ e. EndTyped typing (q, e.1))
    split true is k = subst (λ x. EndTyped typing (x, e.1)) (path_yes e.0 q is) h.0
    split false is k = k

  await_fits : (typing : Typing) (x : ElementName) (o : Option (Path × Outcome)) → IfSome o (λ e. EndTyped typing (maker x, e.1)) → AwaitFits p.funcs typing x (awaited x (option_map (λ (e : Path × Outcome). e.1) o))
  await_fits typing (Token q) None h = tt
  await_fits typing (Value q j) None h = tt
  await_fits typing (Token q) (Some e) h = by e.1 where
    by : (o : Outcome) → AwaitFits p.funcs typing (Token q) (awaited (Token q) (Some o))
    by (Gave vs) = refl
    by (FailedAt at) = tt
  await_fits typing (Value q j) (Some e) h = by e.1 h.outcome where
    by : (o : Outcome) → OutcomeTyped typing h.claim o → AwaitFits p.funcs typing (Value q j) (awaited (Value q j) (Some o))
    by (Gave vs) k = λ w says. (k j w (subst (λ (ts : List Ty). slice_get ts (suc j) ≡ Some (ty.Value w)) (some_inj says.types h.claim (sym says.known ∙ h.known)) says.type), tt)
    by (FailedAt at) k = tt

  -- ---- a step

  told_typed : (typing : Typing) (claim : List Ty) (l : Live) (n : Next) (r : Answer) → next p l.task ≡ n → TaskTyped p.funcs typing claim (told n l.task r) → TaskTyped p.funcs typing claim (told (next p l.task) l.task r)
  told_typed typing claim l n r e h = subst (λ m. TaskTyped p.funcs typing claim (told m l.task r)) (sym e) h

  -- a task goes on, and nothing new is known
  stays : (s : Order) (h : StateTyped s) (l : Live) (k : LiveTyped h.typing l) (r : Answer) (taken : ℕ) → NoneBelow h.typing l.path taken → TaskTyped p.funcs h.typing k.claim (told (next p l.task) l.task r) → Each (LiveTyped h.typing) (replaced (moved p l r taken) s.live)
  stays s h l k r taken none t = replaced_each (LiveTyped h.typing) (LiveTyped h.typing) (moved p l r taken) s.live (λ m e x. x) (record { claim = k.claim; known = k.known; task = t; none = none }) h.live

  -- it goes on, and tasks are new
  module _ (s : Order) (h : StateTyped s) (l : Live) (k : LiveTyped h.typing l) (size : ℕ) (is_new : Path → Bool) (types : List Ty) (made : (r : Path) → is_new r ≡ true → paths.Made l.path (l.taken + 1) size r) where
    abbrev later : Typing
    later = paths.told h.typing l.path l.taken size is_new types k.claim k.known k.none made

    goes_later : Later h.typing later
    goes_later = told_later h.typing l.path l.taken size is_new types k.claim k.known k.none made

    live_later : (m : Live) → same_path m.path l.path ≡ false → LiveTyped h.typing m → LiveTyped later m
    unfolding Later
    live_later m e x = record {
      claim = x.claim;
      known = later_known m.path x.claim x.known;
      task = task_later p.funcs h.typing later goes_later x.claim m.task x.task;
      none = others_none h.typing l.path l.taken size is_new types k.claim k.known k.none made m.path m.taken x.claim (apart m.path l.path e) x.known x.none;
    }
      where
        later_known : (q : Path) (ts : List Ty) → h.typing q ≡ Some ts → later q ≡ Some ts
        later_known q ts e = goes_later q ts e

    actor_later : (r : Answer) → TaskTyped p.funcs later k.claim (told (next p l.task) l.task r) → Each (LiveTyped later) (replaced (moved p l r (l.taken + 1)) s.live)
    unfolding Later
    actor_later r t = replaced_each (LiveTyped h.typing) (LiveTyped later) (moved p l r (l.taken + 1)) s.live live_later (record {
      claim = k.claim;
      known = actor_known;
      task = t;
      none = actor_none h.typing l.path l.taken size is_new types k.claim k.known k.none made;
    }) h.live
      where
        actor_known : later l.path ≡ Some k.claim
        actor_known = goes_later l.path k.claim k.known

    born_later : (r : Path) (t : Task) → is_new r ≡ true → TaskTyped p.funcs later types t → LiveTyped later (newly r t)
    born_later r t e x = record {
      claim = types;
      known = told_new h.typing l.path l.taken size is_new types k.claim k.known k.none made r e;
      task = x;
      none = new_below h.typing l.path l.taken size is_new types k.claim k.known k.none made r (made r e);
    }

    ends_later : Each (EndTyped later) s.world.ends
    ends_later = each_mapped (EndTyped h.typing) (EndTyped later) (λ e x. end_later h.typing later goes_later e x) s.world.ends h.ends

  same_ends : (w : World) (q : Path) (k : ℕ) (a : Ask) → (after w q k a).ends ≡ w.ends
  same_ends w q k (Reads b i) = refl
  same_ends w q k (Writes b i n) = refl
  same_ends w q k (Allocs dims) = refl
  same_ends w q k (Creates n) = refl
  same_ends w q k (Adds g x used) = refl
  same_ends w q k (Launches t r) = refl
  same_ends w q k (Enters loop) = refl
  same_ends w q k (JoinsAll loop) = refl
  same_ends w q k (AwaitsOne x) = refl
  same_ends w q k (AwaitsAll g) = refl

  module _ (s : Order) (h : StateTyped s) (l : Live) (k : LiveTyped h.typing l) (at : ℕ) (xs : List ValueNo) (t : Task) where
    abbrev reply : Ask → Answer
    reply a = answer s.world l.path l.taken a

    -- an action that makes no task
    plain : (a : Ask) → next p l.task ≡ Asks at a xs t → made_by l.path (l.taken + 1) a ≡ [] → TaskTyped p.funcs h.typing k.claim (resumed at xs t (reply a)) → StateTyped (acts p s l a (reply a))
    plain a e none x = record {
      typing = h.typing;
      live = subst (λ ls. Each (LiveTyped h.typing) (replaced (moved p l (reply a) (l.taken + 1)) s.live ++ ls)) (sym none)
          (each_append (LiveTyped h.typing) (replaced (moved p l (reply a) (l.taken + 1)) s.live) [] (stays s h l k (reply a) (l.taken + 1) (none_since h.typing l.path l.taken k.none) (told_typed h.typing k.claim l (Asks at a xs t) (reply a) e x)) tt);
      ends = subst (Each (EndTyped h.typing)) (sym (same_ends s.world l.path l.taken a)) h.ends;
    }

    launch : (c : Task) (r : ℕ) → next p l.task ≡ Asks at (Launches c r) xs t → AsksTyped p.funcs h.typing k.claim at (Launches c r) xs t → StateTyped (acts p s l (Launches c r) (reply (Launches c r)))
    launch c r e x =
        let q : Path = launched_by l.path (l.taken + 1) in
        let is_new : Path → Bool = λ r. same_path (l.path ++ (l.taken + 1) ∷ []) r in
        let made = λ (r : Path) (i : is_new r ≡ true). launch_made l.path (l.taken + 1) r i in
        let to : Typing = later s h l k 0 is_new x.0 made in
        let on : Later h.typing to = goes_later s h l k 0 is_new x.0 made in
        let known : to q ≡ Some x.0 = told_new h.typing l.path l.taken 0 is_new x.0 k.claim k.known k.none made q (path_same q) in
        record {
          typing = to;
          live = each_append (LiveTyped to) (replaced (moved p l (reply (Launches c r)) (l.taken + 1)) s.live) (newly q c ∷ [])
              (actor_later s h l k 0 is_new x.0 made (reply (Launches c r)) (told_typed to k.claim l (Asks at (Launches c r) xs t) (reply (Launches c r)) e (x.2 to q on known)))
              (born_later s h l k 0 is_new x.0 made q c (path_same q) (task_later p.funcs h.typing to on x.0 c x.1), tt);
          ends = ends_later s h l k 0 is_new x.0 made;
        }

    enter : (loop : Loop) → next p l.task ≡ Asks at (Enters loop) xs t → AsksTyped p.funcs h.typing k.claim at (Enters loop) xs t → StateTyped (acts p s l (Enters loop) (reply (Enters loop)))
    enter loop e x =
        let is_new : Path → Bool = is_iteration l.path (l.taken + 1) in
        let made = λ (r : Path) (i : is_new r ≡ true). iteration_made l.path (l.taken + 1) r i in
        let to : Typing = later s h l k 1 is_new [] made in
        let on : Later h.typing to = goes_later s h l k 1 is_new [] made in
        record {
          typing = to;
          live = each_append (LiveTyped to) (replaced (moved p l (Some []) (l.taken + 1)) s.live) (map (λ i. newly (iteration_of l.path (l.taken + 1) i) (iteration loop i)) (numbers_from 0 loop.total))
              (actor_later s h l k 1 is_new [] made (Some []) (told_typed to k.claim l (Asks at (Enters loop) xs t) (Some []) e (task_later p.funcs h.typing to on k.claim (resumed at xs t (Some [])) x.1)))
              (iterations to on (λ i y. born_later s h l k 1 is_new [] made (iteration_of l.path (l.taken + 1) i) (iteration loop i) (iteration_is l.path (l.taken + 1) i) y) (numbers_from 0 loop.total));
          ends = ends_later s h l k 1 is_new [] made;
        }
      where
        iterations : (to : Typing) → Later h.typing to → ((i : ℕ) → TaskTyped p.funcs to [] (iteration loop i) → LiveTyped to (newly (iteration_of l.path (l.taken + 1) i) (iteration loop i))) → (is : List ℕ) → Each (LiveTyped to) (map (λ i. newly (iteration_of l.path (l.taken + 1) i) (iteration loop i)) is)
        iterations to on f [] = tt
        iterations to on f (i ∷ is) = (f i (task_later p.funcs h.typing to on [] (iteration loop i) (x.0 i)), iterations to on f is)

    asked : (a : Ask) → next p l.task ≡ Asks at a xs t → AsksTyped p.funcs h.typing k.claim at a xs t → StateTyped (acts p s l a (reply a))
    asked (Reads b i) e x = plain (Reads b i) e refl (x _)
    asked (Writes b i n) e x = plain (Writes b i n) e refl x
    asked (Allocs dims) e x = plain (Allocs dims) e refl (x _)
    asked (Creates n) e x = plain (Creates n) e refl (x _)
    asked (Adds g y used) e x = plain (Adds g y used) e refl (x _)
    asked (Launches c r) e x = launch c r e x
    asked (Enters loop) e x = enter loop e x
    asked (JoinsAll loop) e x = plain (JoinsAll loop) e refl (x _ (unless_is (all_below (λ i. is_good (outcome s.world (iteration_of l.path l.taken i))) loop.total)))
    asked (AwaitsOne y) e x = plain (AwaitsOne y) e refl (x _ (await_fits h.typing y (find (λ (z : Path × Outcome). same_path z.0 (maker y)) s.world.ends) (found_end h.typing (maker y) s.world.ends h.ends)))
    asked (AwaitsAll g) e x = plain (AwaitsAll g) e refl (x _ (unless_is (all_of (λ y. is_good (outcome s.world (maker y))) (members s.world g))))

  asked_if : (b : Bool) (s' : Order) (o : Order) → StateTyped o → cond b (Some o) None ≡ Some s' → StateTyped s'
  asked_if true s' o h is = subst StateTyped (some_inj o s' is) h
  asked_if false s' o h is = absurd (none≢some s' is)

  next_state : (s : Order) (h : StateTyped s) (l : Live) (k : LiveTyped h.typing l) (n : Next) → next p l.task ≡ n → NextTyped p.funcs h.typing k.claim n → (s' : Order) → steps_to p s l n ≡ Some s' → StateTyped s'
  next_state s h l k (Goes t) e x s' is = subst StateTyped (some_inj _ s' is) (record { typing = h.typing; live = stays s h l k None l.taken k.none (told_typed h.typing k.claim l (Goes t) None e x); ends = h.ends })
  next_state s h l k (Asks at a xs t) e x s' is = asked_if (enabled s.world l.path l.taken a) s' (acts p s l a (answer s.world l.path l.taken a)) (asked s h l k at xs t a e x) is
  next_state s h l k (Ends o) e x s' is =
      subst StateTyped (some_inj _ s' is) (record { typing = h.typing; live = without_each (LiveTyped h.typing) l.path s.live h.live; ends = (record { claim = k.claim; known = k.known; outcome = by o x }, h.ends) }) where
        by : (o : Outcome) → NextTyped p.funcs h.typing k.claim (Ends o) → OutcomeTyped h.typing k.claim o
        by (Gave vs) y = y
        by (FailedAt at) y = tt

  step_state : (s : Order) (h : StateTyped s) (o : Option Live) → IfSome o (LiveTyped h.typing) → (s' : Order) → and_then (λ l. steps_to p s l (next p l.task)) o ≡ Some s' → StateTyped s'
  step_state s h None k s' is = absurd (none≢some s' is)
  step_state s h (Some l) k s' is = next_state s h l k (next p l.task) refl (next_typed p all h.typing k.claim l.task k.task) s' is

  run_state : (qs : List Path) (s s' : Order) → StateTyped s → run p qs s ≡ Some s' → StateTyped s'
  run_state [] s s' h is = subst StateTyped (some_inj s s' is) h
  run_state (q ∷ qs) s s' h is = split (step p q s) refl (λ x e f. run_state qs x s' (step_state s h (task_at s q) (each_found (LiveTyped h.typing) (λ l. same_path l.path q) s.live h.live) x e) f) is where
    split : (o : Option Order) → step p q s ≡ o → ((x : Order) → step p q s ≡ Some x → run p qs x ≡ Some s' → StateTyped s') → and_then (run p qs) o ≡ Some s' → StateTyped s'
    split None e more f = absurd (none≢some s' f)
    split (Some x) e more f = more x e f

  -- ---- the start

  argument_typed : (typing : Typing) (j : ℕ) (t : Ty) (a : ArgValue) → ArgFits t a → HasType typing t (argument j a)
  argument_typed typing j (ty.Int w) (arg.Number n) h = tt
  argument_typed typing j ty.Index (arg.Number n) h = tt
  argument_typed typing j (ty.Memref m) (arg.Cells dims cells) h = h
  argument_typed typing j t a h = elim h [ ]

  arguments_typed : (typing : Typing) (j : ℕ) (params : Seen) (args : List ArgValue) → ArgsFit params args → AreTyped typing (types_in params) (arguments j args)
  arguments_typed typing j [] [] h = tt
  arguments_typed typing j [] (a ∷ args) h = elim h [ ]
  arguments_typed typing j (x ∷ params) [] h = elim h [ ]
  arguments_typed typing j (x ∷ params) (a ∷ args) h = (argument_typed typing j x.1 a h.0, arguments_typed typing (j + 1) params args h.1)

  -- the root alone is known
  root_typing : Typing
  root_typing [] = Some []
  root_typing (x ∷ q) = None

  root_none : NoneBelow root_typing [] 0
  unfolding NoneBelow root_typing
  root_none i more less = refl

  root_known : root_typing [] ≡ Some []
  unfolding root_typing
  root_known = refl

  first_state : (entry : ℕ) (f : Func) (args : List ArgValue) → slice_get p.funcs entry ≡ Some f → ArgsFit f.params args → StateTyped (first_order p entry args)
  first_state entry f args at fit = record {
    typing = root_typing;
    live = (
      record {
        claim = [];
        known = root_known;
        task = body_task p.funcs all root_typing [] entry f at [] (λ seen. bare (in_body f false) seen refl) (arguments 0 args) (arguments_typed root_typing 0 f.params args fit);
        none = root_none;
      },
      tt,
    );
    ends = tt;
  }

  reached_state : (entry : ℕ) (f : Func) (args : List ArgValue) → slice_get p.funcs entry ≡ Some f → ArgsFit f.params args → (s : Order) → IsReached p entry args s → StateTyped s
  reached_state entry f args at fit s r = run_state r.order (first_order p entry args) s (first_state entry f args at fit) r.comes

  live_typed : (typing : Typing) (x : Option Live) (l : Live) → IfSome x (LiveTyped typing) → x ≡ Some l → LiveTyped typing l
  live_typed typing None l h e = absurd (none≢some l e)
  live_typed typing (Some m) l h e = subst (LiveTyped typing) (some_inj m l e) h

  pub task_typed : (entry : ℕ) (f : Func) (args : List ArgValue) → slice_get p.funcs entry ≡ Some f → ArgsFit f.params args → (t : Task) → IsTaskOf p entry args t → (typing : Typing) × (claim : List Ty) × TaskTyped p.funcs typing claim t
  task_typed entry f args at fit t task =
      let state = reached_state entry f args at fit task.at task.reached in
      let l = live_typed state.typing (task_at task.at task.live.path) task.live (each_found (LiveTyped state.typing) (λ l. same_path l.path task.live.path) task.at.live state.live) task.found in
      (state.typing, l.claim, subst (TaskTyped p.funcs state.typing l.claim) task.task l.task)

pub buffers_fit : BuffersFit
buffers_fit p entry f args all at fit t o rest task none is =
    let typed = task_typed p all entry f args at fit t task in buffer_typed p all typed.0 typed.1 t o rest typed.2 none is

pub elements_fit : ElementsFit
elements_fit p entry f args all at fit t o rest task none is =
    let typed = task_typed p all entry f args at fit t task in elements_typed p all typed.0 typed.1 t o rest typed.2 none is
