-- Each run of a module's function agrees with one that is finished and ordered.
use Rattle.std.specs.Prelude.{cond, map}
use Rattle.std.specs.Option.{option_map}
use Rattle.std.proofs.Common.{◌≡◌, ℕ, zero, suc, ◌+◌, Bool, true, false, List, [], ◌∷◌, ◌++◌, length, Option, Some, None, slice_get, refl, sym, ap, subst, ◌∙◌}
use Rattle.std.proofs.lemmas.List.{length-map}
use Rattle.ir_forms.specs.declared.args.ArgValue.{ArgValue}
use Rattle.ir_forms.specs.declared.names.Action.{Action}
use Rattle.ir_forms.specs.declared.names.MadeName.{MadeName}
use Rattle.ir_forms.specs.declared.ops.ValueNo.{ValueNo}
use Rattle.ir_forms.specs.Names.{Path}
use Rattle.one_end.specs.Programs as one
use Rattle.one_end.specs.Runs as runs
use Rattle.one_end.proofs.Basics.{none≢some, some_inj, here}
use Rattle.source_meaning.specs.Parts.{uses_of}
use Rattle.source_meaning.specs.Tasks.{Program, Task, Ask, Answer, Outcome, Gave, FailedAt, Next, Goes, Asks, Ends, told}
use Rattle.source_meaning.specs.Steps.{next}
use Rattle.source_meaning.specs.World.{World, after, ended, enabled, shown, shown_end, numbers_from}
use Rattle.source_meaning.specs.World as world
use Rattle.source_meaning.specs.TaskOrder.{Live, Event, Order, newly, made_by, moved, replaced, without, logged, task_at, shown_in, history}
use Rattle.source_meaning.specs.TaskOrder as order
use Rattle.end_laws.specs.ModuleProgram.{Begin, Values, asked, acted, reply, ended_as}
use Rattle.end_laws.specs.ModuleProgram as program
use Rattle.end_laws.specs.Unread.{LikeTask, LikeAsk}
use Rattle.end_laws.specs.Unread as like
use Rattle.order_laws.specs.SameEnd.{used_history}
use Rattle.order_laws.proofs.Quiet.{NextIs}
use Rattle.order_laws.proofs.Acting.{clipped, JoinFits}
use Rattle.order_laws.proofs.Holding.{Holds, Asking, holds_goes, holds_asks}
use Rattle.order_laws.proofs.Found.{found, found_replaced}
use Rattle.std.specs.Prelude.{is_some}
use Rattle.ir_forms.specs.declared.names.MadeName.TheVariants.{Argument}
use Rattle.one_end.proofs.Basics.{append_assoc_lem}
use Rattle.source_meaning.specs.Parts.{func_params}
use Rattle.source_meaning.specs.World.{Store, cells_in, group_at}
use Rattle.source_meaning.specs.TaskOrder.{and_then, steps_to, step, run, first_order}
use Rattle.order_laws.proofs.Mirror.{clipped_program, ToldBy, TaskIs, LiveIs, Mirrors}
use Rattle.one_end.specs.OneEnd as one_end
use Rattle.race_order.specs.Race.{IsOrdered}
use Rattle.source_meaning.specs.TaskOrder.{IsReached, IsFinished}
use Rattle.order_laws.proofs.Ran.{Mirror, append_nil}
use Rattle.std.specs.Prelude.{IsSome}
use Rattle.ir_forms.specs.declared.types.Ty.{Ty}
use Rattle.ir_forms.specs.declared.types.Ty.TheVariants as ty
use Rattle.one_end.proofs.Pairs.{begun_same}
use Rattle.source_meaning.specs.declared.ends.SourceEnd.TheVariants.{Done}
use Rattle.source_meaning.specs.Values.{maybe}
use Rattle.source_meaning.specs.Parts.{func_results}
use Rattle.source_meaning.specs.Start.{outs, out_cell, buffer_out, buffers_out, end_of}
use Rattle.source_meaning.specs.TaskOrder.{is_quiet, is_quiet_at, acts_within, IsEnabled, Finishes, end_in}
use Rattle.end_laws.specs.ModuleProgram.{settled, standing}
use Rattle.end_laws.specs.Unread.{LikeNext}
use Rattle.end_laws.proofs.Unread.{unread_is_unseen}
use Rattle.end_laws.proofs.ModuleLaw.{settled_one, standing_one}
use Rattle.meaning_laws.proofs.SeqRun.{sequential_is_a_run}
use Rattle.order_laws.specs.SameEnd.{IsPrefix, Agrees, IsOneEnd, FinishedRunsAgree, OneEndInAnyOrder}
use Rattle.order_laws.proofs.Quiet.{AsksAlike, like_asks, settled_from}
use Rattle.order_laws.proofs.Lists.{same_cells}
use Rattle.order_laws.proofs.Acting.{of_can}
use Rattle.order_laws.proofs.Mirror.{mapped_some, showing, replies, Told}
use Rattle.order_laws.proofs.Found.{none_found}
use Rattle.order_laws.proofs.Law.{ext, whole_of, mirror_of, agrees}

-- ---- what tasks did

module _ (p : Program) (uses : p.uses ≡ map uses_of p.funcs) where
  next_one : (b : Begin) (answers : List (one.Answer Values)) (x y : Next) → NextIs p uses b answers x → NextIs p uses b answers y → x ≡ y
  next_one b answers x y f g = settled_one p f.fuel g.fuel (next p f.stood) x y f.settles (subst (λ t. settled p g.fuel (next p t) ≡ Some y) (standing_one p b answers g.fuel f.fuel g.stood f.stood g.stands f.stands) g.settles)

  told_same : (b : Begin) (h : runs.Log Begin Values) (ys zs : List (Action × Answer)) → Told p uses b h ys → Told p uses b h zs → ys ≡ zs
  told_same b [] ys zs f g = f ∙ sym g
  told_same b (e ∷ h) ys zs f g =
      f.4 ∙ (ap (λ xs. xs ++ showing b.path (suc (length h)) e.answer f.0 ∷ []) (told_same b h f.1 g.1 f.3 g.3)
      ∙ (ap (λ x. g.1 ++ showing b.path (suc (length h)) e.answer x ∷ []) (next_one b (replies h) f.0 g.0 f.2 g.2) ∙ sym g.4))

  told_prefix : (b : Begin) (m h : runs.Log Begin Values) (ys zs : List (Action × Answer)) → Told p uses b h ys → Told p uses b (m ++ h) zs → IsPrefix ys zs
  told_prefix b [] h ys zs f g = ([], append_nil ys ∙ told_same b h ys zs f g)
  told_prefix b (e ∷ m) h ys zs f g =
      let r = told_prefix b m h ys g.1 f g.3 in
      (r.0 ++ showing b.path (suc (length (m ++ h))) e.answer g.0 ∷ [], sym (append_assoc_lem ys r.0 (showing b.path (suc (length (m ++ h))) e.answer g.0 ∷ [])) ∙ (ap (λ xs. xs ++ showing b.path (suc (length (m ++ h))) e.answer g.0 ∷ []) r.1 ∙ sym g.4))

-- ---- a task that can go on

module _ (p : Program) where
  stepped_to : (s : Order) (l : Live) → task_at s l.path ≡ Some l → step p l.path s ≡ steps_to p s l (next p l.task)
  stepped_to s l at = ap (and_then (λ l. steps_to p s l (next p l.task))) at

  quiet_at : (s : Order) (l : Live) → task_at s l.path ≡ Some l → is_quiet_at p s l.path ≡ is_quiet (next p l.task)
  quiet_at s l at = ap (maybe false (λ l. is_quiet (next p l.task))) at

  acts_now : (n : ℕ) (s : Order) (l : Live) (s' : Order) → is_quiet_at p s l.path ≡ false → step p l.path s ≡ Some s' → acts_within p n l.path s ≡ Some s'
  acts_now zero s l s' h e = ap (λ t. cond t None (step p l.path s)) h ∙ e
  acts_now (suc n) s l s' h e = ap (λ t. cond t (and_then (acts_within p n l.path) (step p l.path s)) (step p l.path s)) h ∙ e

  acts_on : (n : ℕ) (s : Order) (l : Live) (s' : Order) → is_quiet_at p s l.path ≡ true → step p l.path s ≡ Some s' → acts_within p (suc n) l.path s ≡ acts_within p n l.path s'
  acts_on n s l s' h e = ap (λ t. cond t (and_then (acts_within p n l.path) (step p l.path s)) (step p l.path s)) h ∙ ap (and_then (acts_within p n l.path)) e

  abbrev quieted : Order → Live → Order
  quieted s l = record s { live = replaced (moved p l None l.taken) s.live }

  quieted_at : (s : Order) (l : Live) → task_at s l.path ≡ Some l → task_at (quieted s l) l.path ≡ Some (moved p l None l.taken)
  quieted_at s l at = found_replaced (moved p l None l.taken) s.live l.path ∙ (here l.path l.path (option_map (λ x. moved p l None l.taken) (task_at s l.path)) (task_at s l.path) refl ∙ ap (option_map (λ (x : Live). moved p l None l.taken)) at)

  abbrev Ready : Order → runs.Log Begin Values → Live → Next → Type 0
  Ready s log l x = (k : ℕ) (ask : Ask) (xs : List ValueNo) (t : Task) → x ≡ Asks k ask xs t → Asking p s.world log l.path ask xs t → enabled s.world l.path l.taken ask ≡ true

  within : (n : ℕ) (y : Next) (s : Order) (log : runs.Log Begin Values) (l : Live) (at : task_at s l.path ≡ Some l) (x : Next) → next p l.task ≡ y → settled p n y ≡ Some x → Holds p s.world log l.path l.task → Ready s log l x → IsSome (acts_within p n l.path s)
  within zero (Goes t) s log l at x h e v on = absurd (none≢some x e)
  within (suc n) (Goes t) s log l at x h e v on =
      let now : told (next p l.task) l.task None ≡ t = ap (λ n. told n l.task None) h in
      ap is_some (acts_on n s l (quieted s l) (quiet_at s l at ∙ ap is_quiet h) (stepped_to s l at ∙ ap (steps_to p s l) h))
      ∙ within n (next p t) (quieted s l) log (moved p l None l.taken) (quieted_at s l at) x (ap (next p) now) e (subst (Holds p s.world log l.path) (sym now) (holds_goes p s.world log l.path l.task t v h)) on
  within n (Asks k ask xs t) s log l at x h e v on =
      ap is_some (acts_now n s l (order.acts p s l ask (world.answer s.world l.path l.taken ask)) (quiet_at s l at ∙ ap is_quiet h)
      (stepped_to s l at ∙ (ap (steps_to p s l) h ∙ ap (λ t. cond t (Some (order.acts p s l ask (world.answer s.world l.path l.taken ask))) None) (on k ask xs t (sym (some_inj (Asks k ask xs t) x e)) (holds_asks p s.world log l.path l.task k ask xs t v h)))))
  within n (Ends o) s log l at x h e v on =
      ap is_some (acts_now n s l (record { live = without l.path s.live; world = ended s.world l.path o; log = logged s l.path (shown_end o) None }) (quiet_at s l at ∙ ap is_quiet h) (stepped_to s l at ∙ ap (steps_to p s l) h))

  module _ (uses : p.uses ≡ map uses_of p.funcs) where
    -- the step of a task that is alike
    record Settled (n : ℕ) (x z : Next) : Type 0 where
      pub step : Next
      pub settles : settled p n z ≡ Some step
      pub like : LikeNext p x step

    settled_like : (n : ℕ) (y z x : Next) → LikeNext p y z → settled p n y ≡ Some x → Settled n x z
    settled_like zero y z x (like.goes t u m) e = absurd (none≢some x e)
    settled_like (suc n) y z x (like.goes t u m) e =
        let r = settled_like n (next p t) (next p u) x (unread_is_unseen p t u uses m) e in
        record { step = r.step; settles = r.settles; like = r.like }
    settled_like n y z x (like.asks at a b xs t u h m) e = record { step = Asks at b xs u; settles = refl; like = subst (λ x. LikeNext p x (Asks at b xs u)) (some_inj (Asks at a xs t) x e) (like.asks at a b xs t u h m) }
    settled_like n y z x (like.ends o) e = record { step = Ends o; settles = refl; like = subst (λ x. LikeNext p x (Ends o)) (some_inj (Ends o) x e) (like.ends o) }

then_is : {X Y : Type 0} (f : X → Option Y) (o : Option X) (y : Y) → and_then f o ≡ Some y → (x : X) × (o ≡ Some x) × (f x ≡ Some y)
then_is f None y e = absurd (none≢some y e)
then_is f (Some x) y e = (x, refl, e)

module _ (p : Program) (uses : p.uses ≡ map uses_of p.funcs) (entry : ℕ) (args : List ArgValue) (ext : MadeName → ℕ → Bool) (s : Order) (log : runs.Log Begin Values) (m : Mirrors p uses entry args ext s log) where
  record Waiting (q : Path) (b : Begin) : Type 0 where
    pub live : Live
    pub at : task_at s q ≡ Some live
    pub is : LiveIs p uses entry args ext s.world log q live b

  waiting : (q : Path) (b : Begin) → runs.begun (clipped_program ext p entry args) log q ≡ Some b → runs.outcome log q ≡ None → Waiting q b
  waiting q b made lives = split (task_at s q) refl (subst (λ c. TaskIs p uses entry args ext s.world log q (task_at s q) c (runs.outcome log q)) made (m.tasks q)) where
    split : (o : Option Live) → task_at s q ≡ o → TaskIs p uses entry args ext s.world log q o (Some b) (runs.outcome log q) → Waiting q b
    split None e h = absurd (none≢some h.0 (sym lives ∙ h.1))
    split (Some l) e h = record { live = l; at = e; is = h.0 }

  -- a task that goes on in the log goes on in the state
  pub goes_on_here : (q : Path) → runs.IsEnabled (clipped_program ext p entry args) log q → (r : Path) × IsEnabled p s r
  goes_on_here q en = (l.path, (en.steps, within p en.steps (next p l.task) s log l at z.step refl z.settles (subst (λ r. Holds p s.world log r l.task) (sym w.is.named) w.is.holds) ready)) where
    w : Waiting q en.begin
    w = waiting q en.begin en.made en.lives

    l : Live
    l = w.live

    at : task_at s l.path ≡ Some l
    at = subst (λ r. task_at s r ≡ Some l) (sym w.is.named) w.at

    c : (b : one.Act Begin Values) × (program.acts p en.begin (runs.answers log q) en.steps ≡ Some b) × (clipped ext b ≡ en.next)
    c = mapped_some ext (program.acts p en.begin (runs.answers log q) en.steps) en.next en.acts

    d : (t : Task) × (standing p en.begin (runs.answers log q) en.steps ≡ Some t) × (and_then (acted en.begin.path (suc (length (runs.answers log q)))) (settled p en.steps (next p t)) ≡ Some c.0)
    d = then_is (λ t. and_then (acted en.begin.path (suc (length (runs.answers log q)))) (settled p en.steps (next p t))) (standing p en.begin (runs.answers log q) en.steps) c.0 c.1

    f : (x : Next) × (settled p en.steps (next p d.0) ≡ Some x) × (acted en.begin.path (suc (length (runs.answers log q))) x ≡ Some c.0)
    f = then_is (acted en.begin.path (suc (length (runs.answers log q)))) (settled p en.steps (next p d.0)) c.0 d.2

    same : d.0 ≡ w.is.stands.stood
    same = standing_one p en.begin (runs.answers log q) en.steps w.is.stands.fuel d.0 w.is.stands.stood d.1 w.is.stands.stands

    z : Settled p uses en.steps f.0 (next p w.live.task)
    z = settled_like p uses en.steps (next p w.is.stands.here) (next p w.live.task) f.0 (unread_is_unseen p w.is.stands.here w.live.task uses w.is.stands.like)
        (settled_from p w.is.stands.quiet w.is.stands.stood w.is.stands.here w.is.stands.quiets en.steps f.0 (subst (λ t. settled p en.steps (next p t) ≡ Some f.0) same f.1))

    number : suc (length (runs.answers log q)) ≡ suc w.live.taken
    number = ap suc (length-map (runs.history log q) _ ∙ sym w.is.taken)

    ready : Ready p s log w.live z.step
    ready k ask xs t e a = subst (λ r. enabled s.world r w.live.taken ask ≡ true) (sym w.is.named) (of_can p (clipped_program ext p entry args) args ext s.world log m.shared q w.live.taken w.is.taken al.asking ask al.like_ask a.ok (subst (λ r. JoinFits log r ask) w.is.named a.fits) can) where
      al : AsksAlike p f.0 k ask xs t
      al = like_asks p f.0 z.step k ask xs t z.like e

      act_is : asked en.begin.path (suc (length (runs.answers log q))) al.asking ≡ c.0
      act_is = some_inj (asked en.begin.path (suc (length (runs.answers log q))) al.asking) c.0 (sym (ap (acted en.begin.path (suc (length (runs.answers log q)))) al.is) ∙ f.2)

      can : runs.Can log q (clipped ext (asked q (suc w.live.taken) al.asking))
      can = subst (runs.Can log q) (sym c.2 ∙ (ap (clipped ext) (sym act_is) ∙ (ap (λ r. clipped ext (asked r (suc (length (runs.answers log q))) al.asking)) w.is.path ∙ ap (λ n. clipped ext (asked q n al.asking)) number))) en.can

  -- the log is finished where the state is
  pub finished_log : IsFinished s → runs.IsFinished (clipped_program ext p entry args) log
  finished_log h q d e = split (task_at s q) (ap (found q) h) (subst (λ o. TaskIs p uses entry args ext s.world log q (task_at s q) o (runs.outcome log q)) e (m.tasks q)) where
    split : (o : Option Live) → o ≡ None → TaskIs p uses entry args ext s.world log q o (Some d) (runs.outcome log q) → runs.Ended log q
    split None h k = k
    split (Some l) h k = absurd (none≢some l (sym h))

  -- and the state where the log is
  pub finished_state : runs.IsFinished (clipped_program ext p entry args) log → IsFinished s
  finished_state h = none_found s.live (λ q. split q (task_at s q) refl (runs.begun (clipped_program ext p entry args) log q) refl (m.tasks q)) where
    split : (q : Path) (o : Option Live) → task_at s q ≡ o → (b : Option Begin) → runs.begun (clipped_program ext p entry args) log q ≡ b → TaskIs p uses entry args ext s.world log q o b (runs.outcome log q) → o ≡ None
    split q None e b f t = refl
    split q (Some l) e None f t = absurd t
    split q (Some l) e (Some b) f t = let x = h q b f in absurd (none≢some x.0 (sym t.1 ∙ x.1))

-- ---- the end

ended_inj : (a b : Option Outcome) → option_map ended_as a ≡ option_map ended_as b → a ≡ b
ended_inj None None e = refl
ended_inj None (Some b) e = absurd (none≢some (ended_as b) e)
ended_inj (Some a) None e = absurd (none≢some (ended_as a) (sym e))
ended_inj (Some a) (Some b) e = ap Some (inside a b (some_inj (ended_as a) (ended_as b) e)) where
  inside : (a b : Outcome) → ended_as a ≡ ended_as b → a ≡ b
  inside (Gave vs) (Gave us) h = cc
  inside (Gave vs) (FailedAt n) h = cc
  inside (FailedAt n) (Gave vs) h = cc
  inside (FailedAt n) (FailedAt k) h = cc

module _ (w v : World) (same : (j : ℕ) → cells_in w (Argument j) ≡ cells_in v (Argument j)) where
  buffer_same : (j : ℕ) (t : Ty) → buffer_out w j t ≡ buffer_out v j t
  buffer_same j (ty.Memref t) = ap (λ cs. record { argument = j; cells = map (λ n. record { ty = out_cell t.elem; bits = n }) cs } ∷ []) (same j)
  buffer_same j t = refl

  buffers_same : (j : ℕ) (params : List (ValueNo × Ty)) → buffers_out w j params ≡ buffers_out v j params
  buffers_same j [] = refl
  buffers_same j (param ∷ params) = ap (λ bs. bs ++ buffers_out w (j + 1) params) (buffer_same j param.1) ∙ ap (λ bs. buffer_out v j param.1 ++ bs) (buffers_same (j + 1) params)

  end_same : (p : Program) (k : ℕ) (o : Outcome) → end_of p k w o ≡ end_of p k v o
  end_same p k (Gave vs) = ap (Done (outs (func_results (slice_get p.funcs k)) vs)) (buffers_same 0 (func_params (slice_get p.funcs k)))
  end_same p k (FailedAt at) = refl

  ends_same : (p : Program) (k : ℕ) (o : Option Outcome) → option_map (end_of p k w) o ≡ option_map (end_of p k v) o
  ends_same p k None = refl
  ends_same p k (Some o) = ap Some (end_same p k o)

-- ---- every run

module _ (p : Program) (uses : p.uses ≡ map uses_of p.funcs) (entry : ℕ) (args : List ArgValue) (last : Order) (reached : IsReached p entry args last) (finished : IsFinished last) (ordered : IsOrdered (shown_in last.log)) (s : Order) (comes : IsReached p entry args s) where
  abbrev foresight : MadeName → ℕ → Bool
  foresight = ext p uses entry args last

  abbrev whole : Mirror p uses entry args foresight last
  whole = whole_of p uses entry args last reached

  abbrev part : Mirror p uses entry args foresight s
  part = mirror_of p uses entry args last whole.log whole.mirrors finished ordered s comes

  abbrev agreed : one_end.Agrees (clipped_program foresight p entry args) whole.log part.log
  agreed = agrees p uses entry args last whole.log whole.mirrors finished ordered part.log part.mirrors.run

  same_history : (q : Path) → IsPrefix (used_history q s.log) (used_history q last.log)
  same_history q = split (runs.begun (clipped_program foresight p entry args) part.log q) refl (part.mirrors.told q) where
    split : (b : Option Begin) → runs.begun (clipped_program foresight p entry args) part.log q ≡ b → ToldBy p uses b (runs.history part.log q) (used_history q s.log) → IsPrefix (used_history q s.log) (used_history q last.log)
    split None e h = (used_history q last.log, ap (λ xs. xs ++ used_history q last.log) h)
    split (Some b) e h =
        let there : runs.begun (clipped_program foresight p entry args) whole.log q ≡ Some b = begun_same (clipped_program foresight p entry args) whole.log part.log q b whole.mirrors.run agreed.histories e in
        told_prefix p uses b (agreed.histories q).0 (runs.history part.log q) (used_history q s.log) (used_history q last.log) h
        (subst (λ hs. Told p uses b hs (used_history q last.log)) (agreed.histories q).1 (subst (λ c. ToldBy p uses c (runs.history whole.log q) (used_history q last.log)) there (whole.mirrors.told q)))

  still_on : (IsFinished s → ⊥) → (q : Path) × IsEnabled p s q
  still_on n =
      let on = agreed.goes_on (λ f. n (finished_state p uses entry args foresight s part.log part.mirrors f)) in
      goes_on_here p uses entry args foresight s part.log part.mirrors on.0 on.1

  one_end_here : IsFinished s → end_in p entry s ≡ end_in p entry last
  one_end_here h = ends_same s.world last.world cells p entry (world.outcome s.world []) ∙ ap (option_map (end_of p entry last.world)) outcome where
    done : runs.IsFinished (clipped_program foresight p entry args) part.log
    done = finished_log p uses entry args foresight s part.log part.mirrors h

    cells : (j : ℕ) → cells_in s.world (Argument j) ≡ cells_in last.world (Argument j)
    cells j = same_cells (cells_in s.world (Argument j)) (cells_in last.world (Argument j)) (part.mirrors.shared.arguments j ∙ sym (whole.mirrors.shared.arguments j))
        (λ i. sym (part.mirrors.shared.cells (Argument j) i) ∙ (agreed.one_memory done (Argument j) i ∙ whole.mirrors.shared.cells (Argument j) i))

    outcome : world.outcome s.world [] ≡ world.outcome last.world []
    outcome = ended_inj (world.outcome s.world []) (world.outcome last.world []) (sym (part.mirrors.shared.outcomes []) ∙ (agreed.one_end done [] ∙ whole.mirrors.shared.outcomes []))

  pub agrees_here : Agrees p entry last s
  agrees_here = record { histories = same_history; goes_on = still_on; one_end = one_end_here }

pub finished_runs_agree : FinishedRunsAgree
finished_runs_agree program p entry args last s is reached finished ordered comes = agrees_here p (is.uses ∙ ap (map uses_of) (sym is.funcs)) entry args last reached finished ordered s comes

pub one_end_in_any_order : OneEndInAnyOrder
one_end_in_any_order program p entry args end trace is ends ordered = found_end (sequential_is_a_run p entry args end trace ends) where
  found_end : Finishes p entry args trace end → IsOneEnd p entry args end trace
  found_end f = record {
    last = f.last;
    reached = f.reached;
    finished = f.finished;
    shows = f.shows;
    ends = f.ends;
    others = λ s comes. finished_runs_agree program p entry args f.last s is f.reached f.finished (subst IsOrdered (sym f.shows) ordered) comes;
  }
