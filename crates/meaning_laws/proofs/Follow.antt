-- What a task is depends on how it began and on the answers to its steps alone.
use Rattle.std.specs.Prelude.{◌≡◌, ℕ, ◌+◌, cond, Bool, true, false, List, [], ◌∷◌, ◌++◌, map, Option, Some, None, IfSome}
use mathlib.Core.Path.{refl, sym, subst}
use Rattle.std.specs.List.{find}
use Rattle.ir_forms.specs.Names.{Path, same_path, iteration_of}
use Rattle.source_meaning.specs.Tasks.{Program, Task, Ask, Reads, Writes, Allocs, Creates, Adds, Launches, Enters, JoinsAll, AwaitsOne, AwaitsAll, Answer, Loop, Next, Goes, Asks, Ends, told}
use Rattle.source_meaning.specs.Steps.{next, after_answers}
use Rattle.source_meaning.specs.World.{answer, enabled, numbers_from}
use Rattle.source_meaning.specs.Sequential.{iteration}
use Rattle.source_meaning.specs.TaskOrder.{Live, Order, newly, made_by, moved, replaced, without, acts, steps_to, task_at, and_then, step, run, first_order, Each, FollowsAnswers, TasksFollowAnswers}

-- ---- lists

each-append : {X : Type 0} (P : X → Type 0) (xs ys : List X) → Each P xs → Each P ys → Each P (xs ++ ys)
each-append P [] ys h k = k
each-append P (x ∷ xs) ys h k = (h.0, each-append P xs ys h.1 k)

found_then : {X : Type 0} (P : X → Type 0) (test : X → Bool) (x : X) (rest : Option X) (b : Bool) → P x → IfSome rest P → IfSome (cond b (Some x) rest) P
found_then P test x rest true h k = h
found_then P test x rest false h k = k

each-find : {X : Type 0} (P : X → Type 0) (test : X → Bool) (xs : List X) → Each P xs → IfSome (find test xs) P
each-find P test [] h = tt
each-find P test (x ∷ xs) h = found_then P test x (find test xs) (test x) h.0 (each-find P test xs h.1)

then_all : {X Y : Type 0} (P : X → Type 0) (Q : Y → Type 0) (f : X → Option Y) (o : Option X) → IfSome o P → ((x : X) → P x → IfSome (f x) Q) → IfSome (and_then f o) Q
then_all P Q f None h k = tt
then_all P Q f (Some x) h k = k x h

cond_all : {X : Type 0} (P : X → Type 0) (b : Bool) (x y : X) → P x → P y → P (cond b x y)
cond_all P true x y h k = h
cond_all P false x y h k = k

-- ---- one more answer

after-snoc : (p : Program) (answers : List Answer) (a : Answer) (t : Task) →
    after_answers p (answers ++ a ∷ []) t ≡ told (next p (after_answers p answers t)) (after_answers p answers t) a
after-snoc p [] a t = refl
after-snoc p (b ∷ answers) a t = after-snoc p answers a (told (next p t) t b)

moved_follows : (p : Program) (l : Live) (a : Answer) (k : ℕ) → FollowsAnswers p l → FollowsAnswers p (moved p l a k)
moved_follows p l a k h = subst (λ (t : Task). told (next p t) t a ≡ after_answers p (l.answers ++ a ∷ []) l.first) (sym h) (sym (after-snoc p l.answers a l.first))

replaced_follows : (p : Program) (l : Live) (live : List Live) → FollowsAnswers p l → Each (FollowsAnswers p) live → Each (FollowsAnswers p) (replaced l live)
replaced_follows p l [] h k = tt
replaced_follows p l (m ∷ live) h k = (cond_all (FollowsAnswers p) (same_path m.path l.path) l m h k.0, replaced_follows p l live h k.1)

without_follows : (p : Program) (q : Path) (live : List Live) → Each (FollowsAnswers p) live → Each (FollowsAnswers p) (without q live)
without_follows p q [] h = tt
without_follows p q (l ∷ live) h =
    cond_all (Each (FollowsAnswers p)) (same_path l.path q) (without q live) (l ∷ without q live) (without_follows p q live h.1) (h.0, without_follows p q live h.1)

iterations_follow : (p : Program) (q : Path) (k : ℕ) (loop : Loop) (is : List ℕ) → Each (FollowsAnswers p) (map (λ i. newly (iteration_of q k i) (iteration loop i)) is)
iterations_follow p q k loop [] = tt
iterations_follow p q k loop (i ∷ is) = (refl, iterations_follow p q k loop is)

made_follow : (p : Program) (q : Path) (k : ℕ) (ask : Ask) → Each (FollowsAnswers p) (made_by q k ask)
made_follow p q k (Launches t r) = (refl, tt)
made_follow p q k (Enters loop) = iterations_follow p q k loop (numbers_from 0 loop.total)
made_follow p q k (Reads b i) = tt
made_follow p q k (Writes b i n) = tt
made_follow p q k (Allocs dims) = tt
made_follow p q k (Creates n) = tt
made_follow p q k (Adds g x used) = tt
made_follow p q k (JoinsAll loop) = tt
made_follow p q k (AwaitsOne x) = tt
made_follow p q k (AwaitsAll g) = tt

-- ---- steps and runs

Follows : Program → Order → Type 0
Follows p s = Each (FollowsAnswers p) s.live

acts_follow : (p : Program) (s : Order) (l : Live) (ask : Ask) (r : Answer) → Follows p s → FollowsAnswers p l → Follows p (acts p s l ask r)
unfolding Follows
acts_follow p s l ask r all h =
    each-append (FollowsAnswers p) (replaced (moved p l r (l.taken + 1)) s.live) (made_by l.path (l.taken + 1) ask)
    (replaced_follows p (moved p l r (l.taken + 1)) s.live (moved_follows p l r (l.taken + 1) h) all) (made_follow p l.path (l.taken + 1) ask)

if_enabled : (p : Program) (b : Bool) (s : Order) → Follows p s → IfSome (cond b (Some s) None) (Follows p)
if_enabled p true s h = h
if_enabled p false s h = tt

steps_follow : (p : Program) (s : Order) (l : Live) (n : Next) → Follows p s → FollowsAnswers p l → IfSome (steps_to p s l n) (Follows p)
unfolding Follows
steps_follow p s l (Goes t) all h = replaced_follows p (moved p l None l.taken) s.live (moved_follows p l None l.taken h) all
steps_follow p s l (Asks at ask xs t) all h =
    if_enabled p (enabled s.world l.path l.taken ask) (acts p s l ask (answer s.world l.path l.taken ask)) (acts_follow p s l ask _ all h)
steps_follow p s l (Ends o) all h = without_follows p l.path s.live all

step_follows : (p : Program) (q : Path) (s : Order) → Follows p s → IfSome (step p q s) (Follows p)
unfolding Follows
step_follows p q s all =
    then_all (FollowsAnswers p) (Follows p) (λ l. steps_to p s l (next p l.task)) (task_at s q)
    (each-find (FollowsAnswers p) (λ l. same_path l.path q) s.live all) (λ l h. steps_follow p s l (next p l.task) all h)

run_follows : (p : Program) (order : List Path) (s : Order) → Follows p s → IfSome (run p order s) (Follows p)
run_follows p [] s h = h
run_follows p (q ∷ order) s h = then_all (Follows p) (Follows p) (run p order) (step p q s) (step_follows p q s h) (λ s' h'. run_follows p order s' h')

pub tasks_follow_answers : TasksFollowAnswers
unfolding Follows
tasks_follow_answers p entry args s reached =
    subst (λ (o : Option Order). IfSome o (Follows p)) reached.comes (run_follows p reached.order (first_order p entry args) (refl, tt))
