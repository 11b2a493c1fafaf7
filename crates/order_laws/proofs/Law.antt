-- Each run of a module's function is mirrored by a run of one program, where one of them is finished and ordered.
use Rattle.std.specs.Prelude.{nat_lt, cond, map}
use Rattle.std.proofs.Common.{◌≡◌, ℕ, suc, Bool, true, false, List, [], ◌∷◌, ◌++◌, length, Option, Some, None, refl, sym, ap, subst, ◌∙◌}
use Rattle.std.proofs.lemmas.List.{map-append}
use Rattle.ir_forms.specs.declared.args.ArgValue.{ArgValue}
use Rattle.ir_forms.specs.declared.names.Action.{Action}
use Rattle.ir_forms.specs.declared.names.Action.TheVariants as act
use Rattle.ir_forms.specs.declared.names.MadeName.{MadeName}
use Rattle.ir_forms.specs.declared.names.TraceEntry.{TraceEntry}
use Rattle.ir_forms.specs.Names.{Path}
use Rattle.one_end.specs.Programs as one
use Rattle.one_end.specs.Runs as runs
use Rattle.one_end.proofs.Basics.{none≢some, some_inj, path_same, Older}
use Rattle.one_end.proofs.Histories.{history_own}
use Rattle.source_meaning.specs.Parts.{uses_of}
use Rattle.source_meaning.specs.Tasks.{Program, Ask, Reads, Writes, Allocs, Creates, Adds, Launches, Enters, JoinsAll, AwaitsOne, AwaitsAll, Next, Goes, Asks, Ends}
use Rattle.source_meaning.specs.Steps.{next}
use Rattle.source_meaning.specs.World.{World, after, ended, enabled, shown, shown_end, numbers_from}
use Rattle.source_meaning.specs.World as world
use Rattle.source_meaning.specs.TaskOrder.{Live, Event, Order, newly, made_by, moved, replaced, without, logged, task_at, shown_in, history}
use Rattle.source_meaning.specs.TaskOrder as order
use Rattle.end_laws.specs.ModuleProgram.{Begin, Values, asked}
use Rattle.end_laws.specs.Unread.{LikeTask, LikeAsk}
use Rattle.end_laws.specs.Unread as like
use Rattle.order_laws.proofs.Acting.{clipped}
use Rattle.order_laws.proofs.Found.{found}
use Rattle.ir_forms.specs.Shapes.{product}
use Rattle.ir_forms.specs.declared.names.MadeName.TheVariants.{Made}
use Rattle.one_end.proofs.Basics.{append_assoc_lem}
use Rattle.source_meaning.specs.World.{Store, cells_in, group_at}
use Rattle.source_meaning.specs.TaskOrder.{and_then, steps_to, step, run, first_order}
use Rattle.order_laws.proofs.Mirror.{clipped_program, TaskIs, Mirrors}
use Rattle.order_laws.proofs.Acted.{event, act_runs, act_asked}
use Rattle.one_end.specs.OneEnd as one_end
use Rattle.one_end.proofs.Law.{law}
use Rattle.race_order.specs.Race.{IsOrdered}
use Rattle.source_meaning.specs.TaskOrder.{IsReached, IsFinished}
use Rattle.order_laws.proofs.Ran.{Foreseen, Mirror, mirror_step, mirror_first, actions_of, acts_in, actions_append, acts_length, append_nil, acts_append, actions_traced, cells_by, cells_at, cells_there, foreseen}
use Rattle.order_laws.proofs.Mirror.{living}

module _ (p : Program) (uses : p.uses ≡ map uses_of p.funcs) (entry : ℕ) (args : List ArgValue) where
  -- ---- the log of a finished run

  record Went (s s' : Order) : Type 0 where
    pub more : List TraceEntry
    pub longer : shown_in s'.log ≡ shown_in s.log ++ more

  went_same : (s s' : Order) → s.log ≡ s'.log → Went s s'
  went_same s s' e = record { more = []; longer = ap shown_in (sym e) ∙ sym (append_nil (shown_in s.log)) }

  went_logged : (s s' : Order) (e : Event) → s.log ++ e ∷ [] ≡ s'.log → Went s s'
  went_logged s s' e h = record { more = shown_in (e ∷ []); longer = ap shown_in (sym h) ∙ map-append (λ (e : Event). record { task = e.path; action = e.action }) s.log (e ∷ []) }

  cond_is : (b : Bool) (x y : Order) → cond b (Some x) None ≡ Some y → x ≡ y
  cond_is true x y h = some_inj x y h
  cond_is false x y h = absurd (none≢some y h)

  went_to : (s s' : Order) (l : Live) (n : Next) → steps_to p s l n ≡ Some s' → Went s s'
  went_to s s' l (Goes t) e = went_same s s' (ap (λ (x : Order). x.log) (some_inj _ s' e))
  went_to s s' l (Asks n ask xs t) e = went_logged s s' _ (ap (λ (x : Order). x.log) (cond_is (enabled s.world l.path l.taken ask) (order.acts p s l ask (world.answer s.world l.path l.taken ask)) s' e))
  went_to s s' l (Ends o) e = went_logged s s' _ (ap (λ (x : Order). x.log) (some_inj _ s' e))

  went_step : (s s' : Order) (o : Option Live) → and_then (λ l. steps_to p s l (next p l.task)) o ≡ Some s' → Went s s'
  went_step s s' None e = absurd (none≢some s' e)
  went_step s s' (Some l) e = went_to s s' l (next p l.task) e

  went_on : (s t u : Order) → Went s t → Went t u → Went s u
  went_on s t u f g = record { more = f.more ++ g.more; longer = g.longer ∙ (ap (λ xs. xs ++ g.more) f.longer ∙ append_assoc_lem (shown_in s.log) f.more g.more) }

  record Then (o : Option Order) (qs : List Path) (s' : Order) : Type 0 where
    pub first : Order
    pub is : o ≡ Some first
    pub goes : run p qs first ≡ Some s'

  then_run : (o : Option Order) (qs : List Path) (s' : Order) → and_then (run p qs) o ≡ Some s' → Then o qs s'
  then_run None qs s' e = absurd (none≢some s' e)
  then_run (Some s) qs s' e = record { first = s; is = refl; goes = e }

  went_run : (qs : List Path) (s s' : Order) → run p qs s ≡ Some s' → Went s s'
  went_run [] s s' e = went_same s s' (ap (λ (x : Order). x.log) (some_inj s s' e))
  went_run (q ∷ qs) s s' e =
      let t = then_run (step p q s) qs s' e in
      went_on s t.first s' (went_step s t.first (task_at s q) t.is) (went_run qs t.first s' t.goes)

  module _ (last : Order) where
    abbrev pub ext : MadeName → ℕ → Bool
    ext = foreseen args (shown_in last.log)

    -- a task's action stands in the last log behind those that it took before
    foreseen_in : (s s' : Order) (log : runs.Log Begin Values) (m : Mirrors p uses entry args ext s log) (qs : List Path) → run p qs s' ≡ Some last → Foreseen p uses entry args ext s s' log m
    foreseen_in s s' log m qs goes l at n (Allocs dims) xs t e on is = (λ i. ap (nat_lt i) (sym cells)) where
      w : Went s' last
      w = went_run qs s' last goes

      before : List Action
      before = acts_in (runs.history log l.path)

      trace : shown_in last.log ≡ (shown_in s.log ++ record { task = l.path; action = act.Alloc (product dims) } ∷ []) ++ w.more
      trace = w.longer ∙ ap (λ xs. xs ++ w.more) (ap (λ (x : Order). shown_in x.log) (sym is) ∙ map-append (λ (e : Event). record { task = e.path; action = e.action }) s.log (record { path = l.path; action = act.Alloc (product dims); answer = world.answer s.world l.path l.taken (Allocs dims) } ∷ []))

      mine : actions_of l.path (shown_in last.log) ≡ acts_in (runs.history log l.path) ++ act.Alloc (product dims) ∷ actions_of l.path w.more
      mine = ap (actions_of l.path) trace
          ∙ (actions_append l.path (shown_in s.log ++ record { task = l.path; action = act.Alloc (product dims) } ∷ []) w.more
          ∙ (ap (λ xs. xs ++ actions_of l.path w.more) (actions_append l.path (shown_in s.log) (record { task = l.path; action = act.Alloc (product dims) } ∷ [])
          ∙ (ap (λ xs. xs ++ actions_of l.path (record { task = l.path; action = act.Alloc (product dims) } ∷ [])) (ap (actions_of l.path) (sym m.shows) ∙ actions_traced l.path log)
          ∙ ap (λ t. acts_in (runs.history log l.path) ++ cond t (act.Alloc (product dims) ∷ []) []) (path_same l.path)))
          ∙ append_assoc_lem (acts_in (runs.history log l.path)) (act.Alloc (product dims) ∷ []) (actions_of l.path w.more)))

      number : suc l.taken ≡ suc (length (acts_in (runs.history log l.path)))
      number = ap suc ((living p uses entry args ext s log m l at).is.taken ∙ sym (acts_length (runs.history log l.path)))

      cells : product dims ≡ cells_at (actions_of l.path (shown_in last.log)) (suc l.taken)
      cells = sym (ap (λ xs. cells_at xs (suc l.taken)) mine ∙ (ap (cells_at (acts_in (runs.history log l.path) ++ act.Alloc (product dims) ∷ actions_of l.path w.more)) number ∙ cells_there (acts_in (runs.history log l.path)) (act.Alloc (product dims)) (actions_of l.path w.more)))
    foreseen_in s s' log m qs goes l at n (Reads b i) xs t e on is = tt
    foreseen_in s s' log m qs goes l at n (Writes b i v) xs t e on is = tt
    foreseen_in s s' log m qs goes l at n (Creates v) xs t e on is = tt
    foreseen_in s s' log m qs goes l at n (Adds g x used) xs t e on is = tt
    foreseen_in s s' log m qs goes l at n (Launches c r) xs t e on is = tt
    foreseen_in s s' log m qs goes l at n (Enters loop) xs t e on is = tt
    foreseen_in s s' log m qs goes l at n (JoinsAll loop) xs t e on is = tt
    foreseen_in s s' log m qs goes l at n (AwaitsOne x) xs t e on is = tt
    foreseen_in s s' log m qs goes l at n (AwaitsAll g) xs t e on is = tt

    mirror_whole : (qs : List Path) (s : Order) (log : runs.Log Begin Values) → Mirrors p uses entry args ext s log → run p qs s ≡ Some last → Mirror p uses entry args ext last
    mirror_whole [] s log m e = subst (Mirror p uses entry args ext) (some_inj s last e) (record { log = log; mirrors = m })
    mirror_whole (q ∷ qs) s log m e =
        let t = then_run (step p q s) qs last e in
        let n = mirror_step p uses entry args ext s t.first log m q t.is (foreseen_in s t.first log m qs t.goes) in
        mirror_whole qs t.first n.log n.mirrors t.goes

    pub whole_of : IsReached p entry args last → Mirror p uses entry args ext last
    whole_of r = mirror_whole r.order (first_order p entry args) [] (mirror_first p uses entry args ext (λ j i. refl)) r.comes

    module _ (whole : runs.Log Begin Values) (mw : Mirrors p uses entry args ext last whole) (finished : IsFinished last) (ordered : IsOrdered (shown_in last.log)) where
      abbrev pub Pr : one.Program Begin Values
      Pr = clipped_program ext p entry args

      whole_finished : runs.IsFinished Pr whole
      whole_finished q d e = split (task_at last q) (ap (found q) finished) (subst (λ o. TaskIs p uses entry args ext last.world whole q (task_at last q) o (runs.outcome whole q)) e (mw.tasks q)) where
        split : (o : Option Live) → o ≡ None → TaskIs p uses entry args ext last.world whole q o (Some d) (runs.outcome whole q) → runs.Ended whole q
        split None h k = k
        split (Some l) h k = absurd (none≢some l (sym h))

      pub agrees : (log : runs.Log Begin Values) → runs.IsRun Pr log → one_end.Agrees Pr whole log
      agrees log r = law Begin Values Pr whole mw.run whole_finished (subst IsOrdered (sym mw.shows) ordered) log r

      -- what a task makes in the whole is foreseen
      whole_foresees : (q : Path) (x : runs.Event Begin Values) (h : runs.Log Begin Values) (n i : ℕ) → Older (x ∷ h) (runs.history whole q) → x.act ≡ one.Allocs n → ext (Made q (suc (length h))) i ≡ nat_lt i n
      whole_foresees q x h n i o a = ap (nat_lt i) (ap (λ xs. cells_at xs (suc (length h))) mine ∙ (ap (cells_at (acts_in h ++ one.shown x.act ∷ acts_in o.0)) (ap suc (sym (acts_length h))) ∙ (cells_there (acts_in h) (one.shown x.act) (acts_in o.0) ∙ ap (λ b. cells_by (one.shown b)) a))) where
        mine : actions_of q (shown_in last.log) ≡ acts_in h ++ one.shown x.act ∷ acts_in o.0
        mine = ap (actions_of q) (sym mw.shows) ∙ (actions_traced q whole ∙ (ap acts_in o.1 ∙ (acts_append o.0 (x ∷ h) ∙ append_assoc_lem (acts_in h) (one.shown x.act ∷ []) (acts_in o.0))))

      made_act : (q : Path) (k : ℕ) (a b : Ask) (dims : List ℕ) → LikeAsk p a b → b ≡ Allocs dims → clipped ext (asked q k a) ≡ one.Allocs (product dims)
      made_act q k a b dims (like.same c z) e = ap (λ x. clipped ext (asked q k x)) e
      made_act q k a b dims (like.launches t u n h) e = absurd (apart e) where
        apart : Launches u n ≡ Allocs dims → ⊥
        apart h = cc
      made_act q k a b dims (like.enters l m h) e = absurd (apart e) where
        apart : Enters m ≡ Allocs dims → ⊥
        apart h = cc
      made_act q k a b dims (like.joins_all l m h) e = absurd (apart e) where
        apart : JoinsAll m ≡ Allocs dims → ⊥
        apart h = cc

      foreseen_by : (s s' : Order) (log : runs.Log Begin Values) (m : Mirrors p uses entry args ext s log) → Foreseen p uses entry args ext s s' log m
      foreseen_by s s' log m l at n (Allocs dims) xs t e on is = λ i.
          ap (λ k. ext (Made l.path (suc k)) i) ((living p uses entry args ext s log m l at).is.taken)
          ∙ whole_foresees l.path (event p uses entry args ext s log m l at n (Allocs dims) xs t e on) (runs.history log l.path) (product dims) i
          (subst (λ h. Older h (runs.history whole l.path)) (history_own (event p uses entry args ext s log m l at n (Allocs dims) xs t e on) log l.path refl) ((agrees (event p uses entry args ext s log m l at n (Allocs dims) xs t e on ∷ log) (act_runs p uses entry args ext s log m l at n (Allocs dims) xs t e on)).histories l.path))
          (made_act l.path (suc l.taken) _ (Allocs dims) dims (act_asked p uses entry args ext s log m l at n (Allocs dims) xs t e on) refl)
      foreseen_by s s' log m l at n (Reads b i) xs t e on is = tt
      foreseen_by s s' log m l at n (Writes b i v) xs t e on is = tt
      foreseen_by s s' log m l at n (Creates v) xs t e on is = tt
      foreseen_by s s' log m l at n (Adds g x used) xs t e on is = tt
      foreseen_by s s' log m l at n (Launches c r) xs t e on is = tt
      foreseen_by s s' log m l at n (Enters loop) xs t e on is = tt
      foreseen_by s s' log m l at n (JoinsAll loop) xs t e on is = tt
      foreseen_by s s' log m l at n (AwaitsOne x) xs t e on is = tt
      foreseen_by s s' log m l at n (AwaitsAll g) xs t e on is = tt

      mirror_run : (qs : List Path) (s s' : Order) (log : runs.Log Begin Values) → Mirrors p uses entry args ext s log → run p qs s ≡ Some s' → Mirror p uses entry args ext s'
      mirror_run [] s s' log m e = subst (Mirror p uses entry args ext) (some_inj s s' e) (record { log = log; mirrors = m })
      mirror_run (q ∷ qs) s s' log m e =
          let t = then_run (step p q s) qs s' e in
          let n = mirror_step p uses entry args ext s t.first log m q t.is (foreseen_by s t.first log m) in
          mirror_run qs t.first s' n.log n.mirrors t.goes

      pub mirror_of : (s : Order) → IsReached p entry args s → Mirror p uses entry args ext s
      mirror_of s r = mirror_run r.order (first_order p entry args) s [] (mirror_first p uses entry args ext (λ j i. refl)) r.comes
