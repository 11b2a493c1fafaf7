-- Each step of the sequential run of a program is followed by steps of the other.
use Rattle.std.specs.Prelude.{nat_lt, cond}
use Rattle.std.proofs.Common.{◌≡◌, ℕ, zero, suc, ◌+◌, Bool, true, false, List, [], ◌∷◌, ◌++◌, Option, Some, None, refl, sym, ap, subst, ◌∙◌}
use Rattle.ir_forms.specs.declared.args.ArgValue.{ArgValue}
use Rattle.ir_forms.specs.declared.names.TraceEntry.{TraceEntry}
use Rattle.ir_forms.specs.declared.ops.ValueNo.{ValueNo}
use Rattle.ir_forms.specs.Names.{Path, launched_by, iteration_of}
use Rattle.source_meaning.specs.declared.ends.SourceEnd.{SourceEnd}
use Rattle.source_meaning.specs.Tasks.{Program, Loop, Task, Ask, Reads, Writes, Allocs, Creates, Adds, Launches, Enters, JoinsAll, AwaitsOne, AwaitsAll, Answer, Outcome, Next, resumed}
use Rattle.source_meaning.specs.Steps.{next}
use Rattle.source_meaning.specs.World.{World, answer, after, ended, shown, shown_end}
use Rattle.source_meaning.specs.Start.{first_world, root_task, end_of}
use Rattle.source_meaning.specs.Sequential.{Running, iteration, Sequence, Moved, On, Over, stops, shows, launched, takes, begins_next, takes_or_begins, unless_stopped, finishes, moves_to, move, start, and_moves, moves}
use Rattle.meaning_laws.proofs.SeqRun.{turns_are_reached}
use Rattle.source_meaning.specs.TaskOrder.{task_at}
use Rattle.source_meaning.specs.Runs.{Ends as EndsSo}
use Rattle.carry_laws.specs.Agreement.{HasNoTask, LikeLoop, LikeAsk, same, launches, enters, joins_all, GoOn, LikeNext, goes, asks, ends, Meets, both, first, second, IsTaskOf, Agreement}
use Rattle.carry_laws.proofs.Asked.{answer_like, after_like, shown_like, stops_like}

-- ---- steps one after another

-- so many and then so many
plus : ℕ → ℕ → ℕ
plus zero n = n
plus (suc k) n = suc (plus k n)

module _ (p : Program) (entry : ℕ) where
  -- after some steps the run has come to this
  abbrev pub Comes : Sequence → Moved → Type 0
  Comes s m = (n : ℕ) × (moves p entry n s ≡ m)

  comes_plus : (k n : ℕ) (s t : Sequence) (m : Moved) → moves p entry n s ≡ On t → moves p entry k t ≡ m → moves p entry (plus k n) s ≡ m
  unfolding plus
  comes_plus zero n s t m e f = e ∙ f
  comes_plus (suc k) n s t m e f = ap (and_moves p entry) (comes_plus k n s t (moves p entry k t) e refl) ∙ f

  pub comes_on : (s t : Sequence) (m : Moved) → Comes s (On t) → Comes t m → Comes s m
  comes_on s t m here then = (plus then.0 here.0, comes_plus then.0 here.0 s t m here.1 then.1)

-- the task that takes a turn is one of a run in some order
task_of : (p : Program) (entry : ℕ) (args : List ArgValue) (n : ℕ) (s : Sequence) (top : Running) (below : List Running) → moves p entry n (start p entry args) ≡ On s → s.stack ≡ top ∷ below → IsTaskOf p entry args top.task
task_of p entry args n s top below comes e =
    let turn = turns_are_reached p entry args n s top below comes e in
    record { at = turn.at; reached = turn.reached; live = turn.live; found = subst (λ x. task_at turn.at x ≡ Some turn.live) (sym turn.path) turn.found; task = turn.task }

module _ (Like : Task → Task → Type 0) (Kept : World → Type 0) (p q : Program) (entry : ℕ) (args : List ArgValue) (A : Agreement Like Kept p q entry args) where
  -- tasks that are alike, or that meet
  data Held : Task → Task → Type 0 where
    alike : (t u : Task) → Like t u → Held t u
    met : (t u : Task) → Meets Like Kept p q t u → Held t u

  data SameStack : List Running → List Running → Type 0 where
    none : SameStack [] []
    more : (path : Path) (taken begun : ℕ) (t u : Task) (rs ss : List Running) → Held t u → SameStack rs ss →
        SameStack (record { path = path; taken = taken; begun = begun; task = t } ∷ rs) (record { path = path; taken = taken; begun = begun; task = u } ∷ ss)

  data SameMoved : Moved → Moved → Type 0 where
    on : (rs ss : List Running) (w : World) (trace : List TraceEntry) → Kept w → SameStack rs ss →
        SameMoved (On (record { stack = rs; world = w; trace = trace })) (On (record { stack = ss; world = w; trace = trace }))
    over : (e : SourceEnd) (trace : List TraceEntry) → SameMoved (Over e trace) (Over e trace)

  -- the second program's run goes on from here to what is the same
  abbrev Led : Sequence → Moved → Type 0
  Led s m = (m' : Moved) × Comes q entry s m' × SameMoved m m'

  -- the iterations that begin next
  data SameBegin : Option Task → Option Task → Type 0 where
    nothing : SameBegin None None
    one : (t u : Task) → Like t u → SameBegin (Some t) (Some u)

  module _ (path : Path) (taken begun : ℕ) (rs ss : List Running) (w : World) (trace : List TraceEntry) (kept : Kept w) (rest : SameStack rs ss) where
    abbrev now : Task → Running
    now t = record { path = path; taken = taken; begun = begun; task = t }

    abbrev one_at : Task → Sequence
    one_at t = record { stack = now t ∷ rs; world = w; trace = trace }

    abbrev other_at : Task → Sequence
    other_at u = record { stack = now u ∷ ss; world = w; trace = trace }

    begins_loop : (l m : Loop) → LikeLoop Like l m → (b : Bool) → SameBegin (cond b (Some (iteration l begun)) None) (cond b (Some (iteration m begun)) None)
    begins_loop l m h true = one (iteration l begun) (iteration m begun) (h.iterations begun)
    begins_loop l m h false = nothing

    begins_same : (t u : Task) (a : Ask) → HasNoTask a → SameBegin (begins_next (now t) a) (begins_next (now u) a)
    begins_same t u (Reads b i) n = nothing
    begins_same t u (Writes b i v) n = nothing
    begins_same t u (Allocs dims) n = nothing
    begins_same t u (Creates v) n = nothing
    begins_same t u (Adds g x used) n = nothing
    begins_same t u (Launches c r) n = absurd n
    begins_same t u (Enters loop) n = absurd n
    begins_same t u (JoinsAll loop) n = absurd n
    begins_same t u (AwaitsOne x) n = nothing
    begins_same t u (AwaitsAll g) n = nothing

    begins_like : (t u : Task) (a b : Ask) → LikeAsk Like a b → SameBegin (begins_next (now t) a) (begins_next (now u) b)
    begins_like t u a b (same c n) = begins_same t u c n
    begins_like t u a b (launches c d r h) = nothing
    begins_like t u a b (enters l m h) = nothing
    begins_like t u a b (joins_all l m h) =
        subst (λ k. SameBegin (cond (nat_lt begun l.total) (Some (iteration l begun)) None) (cond (nat_lt begun k) (Some (iteration m begun)) None)) (sym h.total) (begins_loop l m h (nat_lt begun l.total))

    launched_same : (a : Ask) → HasNoTask a → launched path (taken + 1) a ≡ []
    launched_same (Reads b i) n = refl
    launched_same (Writes b i v) n = refl
    launched_same (Allocs dims) n = refl
    launched_same (Creates v) n = refl
    launched_same (Adds g x used) n = refl
    launched_same (Launches c r) n = absurd n
    launched_same (Enters loop) n = absurd n
    launched_same (JoinsAll loop) n = absurd n
    launched_same (AwaitsOne x) n = refl
    launched_same (AwaitsAll g) n = refl

    launched_like : (a b : Ask) → LikeAsk Like a b → (rs ss : List Running) → SameStack rs ss → SameStack (launched path (taken + 1) a ++ rs) (launched path (taken + 1) b ++ ss)
    launched_like a b (same c n) rs ss h = subst (λ ls. SameStack (ls ++ rs) (ls ++ ss)) (sym (launched_same c n)) h
    launched_like a b (launches t u r like) rs ss h = more (launched_by path (taken + 1)) 0 0 t u rs ss (alike t u like) h
    launched_like a b (enters l m like) rs ss h = h
    launched_like a b (joins_all l m like) rs ss h = h

    -- the top tasks take the action
    takes_like : (t u t' u' : Task) (at by : ℕ) (xs ys : List ValueNo) (a b : Ask) → LikeAsk Like a b → GoOn Like Kept a (resumed at xs t') (resumed by ys u') →
        SameMoved (takes (one_at t) (now t) rs a (resumed at xs t')) (takes (other_at u) (now u) ss b (resumed by ys u'))
    takes_like t u t' u' at by xs ys a b like go =
        let to = go w path taken kept in
        let t1 : Task = resumed at xs t' (answer w path taken a) in
        let u1 : Task = resumed by ys u' (answer w path taken a) in
        let stacks = launched_like a b like _ _ (more path (taken + 1) 0 t1 u1 rs ss (alike t1 u1 to.0) rest) in
        let here = on _ _ (after w path taken a) (trace ++ shows path (shown a) ∷ []) to.1 stacks in
        subst (λ (x : Answer). SameMoved (takes (one_at t) (now t) rs a (resumed at xs t'))
        (On (record { stack = launched path (taken + 1) b ++ record { path = path; taken = taken + 1; begun = 0; task = resumed by ys u' x } ∷ ss; world = after w path taken b; trace = trace ++ shows path (shown b) ∷ [] }))) (sym (answer_like Like w path taken a b like))
        (subst (λ v. SameMoved (takes (one_at t) (now t) rs a (resumed at xs t'))
        (On (record { stack = launched path (taken + 1) b ++ record { path = path; taken = taken + 1; begun = 0; task = u1 } ∷ ss; world = v; trace = trace ++ shows path (shown b) ∷ [] }))) (sym (after_like Like w path taken a b like))
        (subst (λ z. SameMoved (takes (one_at t) (now t) rs a (resumed at xs t'))
        (On (record { stack = launched path (taken + 1) b ++ record { path = path; taken = taken + 1; begun = 0; task = u1 } ∷ ss; world = after w path taken a; trace = trace ++ shows path z ∷ [] }))) (sym (shown_like Like a b like))
        here))

    begins_or_takes : (t u t' u' : Task) (at by : ℕ) (xs ys : List ValueNo) (a b : Ask) → Held t u → LikeAsk Like a b → GoOn Like Kept a (resumed at xs t') (resumed by ys u') → (x y : Option Task) → SameBegin x y →
        SameMoved (takes_or_begins (one_at t) (now t) rs a (resumed at xs t') x) (takes_or_begins (other_at u) (now u) ss b (resumed by ys u') y)
    begins_or_takes t u t' u' at by xs ys a b held like go x y nothing = takes_like t u t' u' at by xs ys a b like go
    begins_or_takes t u t' u' at by xs ys a b held like go x y (one i j h) =
        on _ _ w trace kept (more (iteration_of path taken begun) 0 0 i j _ _ (alike i j h) (more path taken (begun + 1) t u rs ss held rest))

    unless_same : (o : Option SourceEnd) (m n : Moved) → SameMoved m n → SameMoved (unless_stopped o trace m) (unless_stopped o trace n)
    unless_same None m n h = h
    unless_same (Some e) m n h = over e trace

    finishes_like : (t u : Task) (o : Outcome) → ((w : World) (q : Path) → Kept w → Kept (ended w q o)) → (rs ss : List Running) → SameStack rs ss →
        SameMoved (finishes p entry (record { stack = now t ∷ rs; world = w; trace = trace }) (now t) rs o) (finishes q entry (record { stack = now u ∷ ss; world = w; trace = trace }) (now u) ss o)
    finishes_like t u o k rs ss none =
        subst (λ e. SameMoved (Over (end_of p entry w o) (trace ++ shows path (shown_end o) ∷ [])) (Over e (trace ++ shows path (shown_end o) ∷ []))) (sym (A.ends w o)) (over _ _)
    finishes_like t u o k rs ss (more r n b c d below under held h) = on _ _ (ended w path o) (trace ++ shows path (shown_end o) ∷ []) (k w path kept) (more r n b c d below under held h)

    next_like : (t u : Task) → Held t u → (m n : Next) → LikeNext Like Kept m n → SameMoved (moves_to p entry (one_at t) (now t) rs m) (moves_to q entry (other_at u) (now u) ss n)
    next_like t u held m n (goes t' u' h) = on _ _ w trace kept (more path taken begun t' u' rs ss (alike t' u' h) rest)
    next_like t u held m n (asks at by a b xs ys t' u' h go) =
        subst (λ o. SameMoved (unless_stopped (stops w a) trace (takes_or_begins (one_at t) (now t) rs a (resumed at xs t') (begins_next (now t) a))) (unless_stopped o trace (takes_or_begins (other_at u) (now u) ss b (resumed by ys u') (begins_next (now u) b)))) (sym (stops_like Like w a b h))
        (unless_same (stops w a) _ _ (begins_or_takes t u t' u' at by xs ys a b held h go _ _ (begins_like t u a b h)))
    next_like t u held m n (ends o k) = finishes_like t u o k rs ss rest

    drive : (t u : Task) → Meets Like Kept p q t u → Led (other_at u) (moves_to p entry (one_at t) (now t) rs (next p t))
    drive t u (both _ _ h) = (moves_to q entry (other_at u) (now u) ss (next q u), (suc zero, refl), next_like t u (met t u (both t u h)) (next p t) (next q u) h)
    drive t u (first _ _ t' e h) =
        (On (other_at u), (zero, refl), subst (λ n. SameMoved (moves_to p entry (one_at t) (now t) rs n) (On (other_at u))) (sym e) (on _ _ w trace kept (more path taken begun t' u rs ss (met t' u h) rest)))
    drive t u (second _ _ u' e h) =
        let then = drive t u' h in
        (then.0, comes_on q entry (other_at u) (other_at u') then.0 (suc zero, ap (moves_to q entry (other_at u) (now u) ss) e) then.1, then.2)

  -- ---- the whole run

  -- the task on top of the one program's stack and of the other's
  meets_now : (n : ℕ) (s o : Sequence) → moves p entry n (start p entry args) ≡ On s → Comes q entry (start q entry args) (On o) → (r r' : Running) (rs ss : List Running) → s.stack ≡ r ∷ rs → o.stack ≡ r' ∷ ss →
      Held r.task r'.task → Meets Like Kept p q r.task r'.task
  meets_now n s o here there r r' rs ss e f (alike _ _ h) = A.meets r.task r'.task h (task_of p entry args n s r rs here e) (task_of q entry args there.0 o r' ss there.1 f)
  meets_now n s o here there r r' rs ss e f (met _ _ h) = h

  moved : (n : ℕ) (rs ss : List Running) (w : World) (trace : List TraceEntry) → moves p entry n (start p entry args) ≡ On (record { stack = rs; world = w; trace = trace }) →
      Comes q entry (start q entry args) (On (record { stack = ss; world = w; trace = trace })) → Kept w → SameStack rs ss →
      Led (record { stack = ss; world = w; trace = trace }) (move p entry (record { stack = rs; world = w; trace = trace }))
  moved n rs ss w trace here there kept none = (On (record { stack = []; world = w; trace = trace }), (zero, refl), on [] [] w trace kept none)
  moved n rs ss w trace here there kept (more path taken begun t u below under held rest) =
      drive path taken begun below under w trace kept rest t u (meets_now n _ _ here there _ _ _ _ refl refl held)

  abbrev Follows : Moved → Type 0
  Follows m = Led (start q entry args) m

  goes_on : (n : ℕ) (m m' : Moved) → moves p entry n (start p entry args) ≡ m → Comes q entry (start q entry args) m' → SameMoved m m' → Follows (and_moves p entry m)
  goes_on n m m' here there (on rs ss w trace kept h) =
      let then = moved n rs ss w trace here there kept h in
      (then.0, comes_on q entry (start q entry args) _ then.0 there then.1, then.2)
  goes_on n m m' here there (over e trace) = (Over e trace, there, over e trace)

  follows : (n : ℕ) → Follows (moves p entry n (start p entry args))
  follows zero = (On (start q entry args), (zero, refl), on _ _ (first_world args) [] A.kept (more [] 0 0 (root_task p entry args) (root_task q entry args) [] [] (alike _ _ A.starts) none))
  follows (suc n) = let so = follows n in goes_on n (moves p entry n (start p entry args)) so.0 refl so.1 so.2

  same_over : (m m' : Moved) (e : SourceEnd) (trace : List TraceEntry) → SameMoved m m' → m ≡ Over e trace → m' ≡ Over e trace
  same_over m m' e trace (on rs ss w t kept h) is = absurd (cc is)
  same_over m m' e trace (over d t) is = is

  pub ends_so : (n : ℕ) (e : SourceEnd) (trace : List TraceEntry) → moves p entry n (start p entry args) ≡ Over e trace → Comes q entry (start q entry args) (Over e trace)
  ends_so n e trace is = let so = follows n in (so.1.0, so.1.1 ∙ same_over (moves p entry n (start p entry args)) so.0 e trace so.2 is)

  pub same_end : (end : SourceEnd) (trace : List TraceEntry) → EndsSo p entry args end trace → EndsSo q entry args end trace
  same_end end trace h = let so = ends_so h.steps end trace h.comes in record { steps = so.0; comes = so.1; is_end = h.is_end }
