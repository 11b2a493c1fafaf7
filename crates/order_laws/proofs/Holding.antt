-- The buffers and groups that tasks hold are there, and what they ask fits.
use Rattle.std.specs.Prelude.{◌⊎◌, cond, is_some, map}
use mathlib.Core.Logic.{inl, inr}
use Rattle.std.specs.List.{find}
use Rattle.std.proofs.Common.{◌≡◌, ℕ, zero, suc, ◌+◌, Bool, true, false, List, [], ◌∷◌, ◌++◌, length, Option, Some, None, refl, sym, ap, subst, ◌∙◌}
use Rattle.std.proofs.lemmas.List.{length-map}
use Rattle.ir_forms.specs.declared.ops.ValueNo.{ValueNo}
use Rattle.ir_forms.specs.declared.names.ElementName.{ElementName}
use Rattle.ir_forms.specs.declared.names.ElementName.TheVariants.{Token, Value}
use Rattle.ir_forms.specs.declared.names.MadeName.{MadeName}
use Rattle.ir_forms.specs.declared.names.MadeName.TheVariants.{Argument, Made}
use Rattle.ir_forms.specs.Names.{Path, same_made, maker}
use Rattle.ir_forms.specs.Shapes.{product}
use Rattle.one_end.specs.Runs as runs
use Rattle.one_end.proofs.Groups.{made_same}
use Rattle.one_end.proofs.Histories.{history_own}
use Rattle.source_meaning.specs.declared.values.Val.TheVariants.{Element}
use Rattle.source_meaning.specs.Tasks.{Program, Loop, Joining, Task, Ask, Reads, Writes, Allocs, Creates, Adds, Launches, Enters, JoinsAll, AwaitsOne, AwaitsAll, Outcome, Gave, FailedAt, Answer, Goes, Asks, Ends, resumed}
use Rattle.source_meaning.specs.Steps.{next, next_pending}
use Rattle.source_meaning.specs.World.{Store, Gathering, World, group_at, written, joined_by, after, numbers_from}
use Rattle.source_meaning.specs.World as world
use Rattle.end_laws.specs.ModuleProgram.{Begin, Values, asked}
use Rattle.end_laws.specs.Unread.{LikeAsk}
use Rattle.end_laws.specs.Unread as like
use Rattle.order_laws.proofs.Held.{OkVals, OkTask, OkJoining, OkThen, OkAsk, OkOutcome, OkNext, Names, ok_next, ok_get, ok_resumed, task_mono, joining_mono, outcome_mono}
use Rattle.order_laws.proofs.Shared.{new_store, new_group, Buf, Grp, written_there, joined_there}
use Rattle.order_laws.proofs.Acting.{clipped, JoinFits}

pub numbers_many : (i n : ℕ) → length (numbers_from i n) ≡ n
numbers_many i zero = refl
numbers_many i (suc n) = ap suc (numbers_many (i + 1) n)

-- ---- what there is stays

buf_new : (w : World) (b c : MadeName) (s : Store) (used : ℕ) → Buf w c → Buf (record w { buffers = s ∷ w.buffers; used = used }) c
buf_new w b (Argument j) s used h = tt
buf_new w b (Made q k) s used h = split (same_made s.name (Made q k)) where
  split : (t : Bool) → is_some (cond t (Some s) (find (λ (s : Store). same_made s.name (Made q k)) w.buffers)) ≡ true
  split true = refl
  split false = h

grp_new : (w : World) (c : MadeName) (g : Gathering) → Grp w c → Grp (record w { groups = g ∷ w.groups }) c
grp_new w (Argument j) g h = tt
grp_new w (Made q k) g h = split (same_made g.name (Made q k)) where
  split : (t : Bool) → is_some (cond t (Some g) (group_at w (Made q k))) ≡ true
  split true = refl
  split false = h

buf_written : (w : World) (b : MadeName) (i n : ℕ) (c : MadeName) → Buf w c → Buf (record w { buffers = map (written b i n) w.buffers }) c
buf_written w b i n (Argument j) h = tt
buf_written w b i n (Made q k) h = written_there w b i n (Made q k) ∙ h

grp_joined : (w : World) (g : MadeName) (x : ElementName) (c : MadeName) → Grp w c → Grp (record w { groups = map (joined_by g x) w.groups }) c
grp_joined w g x (Argument j) h = tt
grp_joined w g x (Made q k) h = joined_there w g x (Made q k) ∙ h

pub buf_same : (w v : World) → v.buffers ≡ w.buffers → (c : MadeName) → Buf w c → Buf v c
buf_same w v e (Argument j) h = tt
buf_same w v e (Made q k) h = ap (λ bs. is_some (find (λ (s : Store). same_made s.name (Made q k)) bs)) e ∙ h

pub grp_same : (w v : World) → v.groups ≡ w.groups → (c : MadeName) → Grp w c → Grp v c
grp_same w v e (Argument j) h = tt
grp_same w v e (Made q k) h = ap (λ gs. is_some (find (λ (g : Gathering). same_made g.name (Made q k)) gs)) e ∙ h

module _ (w : World) (q : Path) (k : ℕ) where
  pub buf_after : (ask : Ask) (c : MadeName) → Buf w c → Buf (after w q k ask) c
  buf_after (Writes b i n) c h = buf_written w b i n c h
  buf_after (Allocs dims) c h = buf_new w c c (new_store q (k + 1) dims) (w.used + product dims) h
  buf_after (Creates n) c h = buf_same w (after w q k (Creates n)) refl c h
  buf_after (Adds g x used) c h = buf_same w (after w q k (Adds g x used)) refl c h
  buf_after (Reads b i) c h = h
  buf_after (Launches t r) c h = h
  buf_after (Enters loop) c h = h
  buf_after (JoinsAll loop) c h = h
  buf_after (AwaitsOne x) c h = h
  buf_after (AwaitsAll g) c h = h

  pub grp_after : (ask : Ask) (c : MadeName) → Grp w c → Grp (after w q k ask) c
  grp_after (Adds g x used) c h = grp_joined w g x c h
  grp_after (Creates n) c h = grp_new w c (new_group q (k + 1) n) h
  grp_after (Writes b i n) c h = grp_same w (after w q k (Writes b i n)) refl c h
  grp_after (Allocs dims) c h = grp_same w (after w q k (Allocs dims)) refl c h
  grp_after (Reads b i) c h = h
  grp_after (Launches t r) c h = h
  grp_after (Enters loop) c h = h
  grp_after (JoinsAll loop) c h = h
  grp_after (AwaitsOne x) c h = h
  grp_after (AwaitsAll g) c h = h

  pub outcome_after : (ask : Ask) (r : Path) → world.outcome (after w q k ask) r ≡ world.outcome w r
  outcome_after (Writes b i n) r = refl
  outcome_after (Allocs dims) r = refl
  outcome_after (Creates n) r = refl
  outcome_after (Adds g x used) r = refl
  outcome_after (Reads b i) r = refl
  outcome_after (Launches t n) r = refl
  outcome_after (Enters loop) r = refl
  outcome_after (JoinsAll loop) r = refl
  outcome_after (AwaitsOne x) r = refl
  outcome_after (AwaitsAll g) r = refl

module _ (p : Program) where
  joining_next : (t : Task) (at : ℕ) (loop : Loop) → t.pending ≡ Joining at loop ∷ [] → next p t ≡ Asks at (JoinsAll loop) [] (record t { pending = [] })
  joining_next t at loop e = ap (λ ps. next_pending p ps t) e

  -- a task that waits for the iterations of the loop that it entered
  pub record Joins (w : World) (log : runs.Log Begin Values) (q : Path) (t : Task) : Type 0 where
    pub loop : Loop
    pub joins : OkJoining p (Buf w) (Grp w) tt tt loop t
    pub fits : runs.turns log q ≡ loop.total

  abbrev pub Holds : World → runs.Log Begin Values → Path → Task → Type 0
  Holds w log q t = OkTask p (Buf w) (Grp w) tt tt t ⊎ Joins w log q t

  abbrev pub HeldOutcome : World → Option Outcome → Type 0
  HeldOutcome w None = Unit {0}
  HeldOutcome w (Some o) = OkOutcome p (Buf w) (Grp w) tt tt o

  abbrev pub HeldAnswer : World → Answer → Type 0
  HeldAnswer w None = Unit {0}
  HeldAnswer w (Some vs) = OkVals p (Buf w) (Grp w) tt tt vs

  pub holds_goes : (w : World) (log : runs.Log Begin Values) (q : Path) (t u : Task) → Holds w log q t → next p t ≡ Goes u → Holds w log q u
  holds_goes w log q t u (inl h) e = inl (subst (OkNext p (Buf w) (Grp w) tt tt) e (ok_next p (Buf w) (Grp w) tt tt t h))
  holds_goes w log q t u (inr j) e = absurd (apart (sym (joining_next t j.joins.at j.loop j.joins.pending) ∙ e)) where
    apart : Asks j.joins.at (JoinsAll j.loop) [] (record t { pending = [] }) ≡ Goes u → ⊥
    apart h = cc

  pub holds_ends : (w : World) (log : runs.Log Begin Values) (q : Path) (t : Task) (o : Outcome) → Holds w log q t → next p t ≡ Ends o → OkOutcome p (Buf w) (Grp w) tt tt o
  holds_ends w log q t o (inl h) e = subst (OkNext p (Buf w) (Grp w) tt tt) e (ok_next p (Buf w) (Grp w) tt tt t h)
  holds_ends w log q t o (inr j) e = absurd (apart (sym (joining_next t j.joins.at j.loop j.joins.pending) ∙ e)) where
    apart : Asks j.joins.at (JoinsAll j.loop) [] (record t { pending = [] }) ≡ Ends o → ⊥
    apart h = cc

  -- what follows the end of a loop
  pub record Joined (w : World) (ask : Ask) (u : Task) : Type 0 where
    pub loop : Loop
    pub is : ask ≡ JoinsAll loop
    pub task : OkTask p (Buf w) (Grp w) tt tt u

  -- what a task asks fits
  pub record Asking (w : World) (log : runs.Log Begin Values) (q : Path) (ask : Ask) (xs : List ValueNo) (u : Task) : Type 0 where
    pub ok : OkAsk p (Buf w) (Grp w) tt tt ask
    pub fits : JoinFits log q ask
    pub onward : OkThen p (Buf w) (Grp w) tt tt ask u ⊎ Joined w ask u
    pub names : Names p (Buf w) (Grp w) tt tt ask xs u

  fits_then : (w : World) (log : runs.Log Begin Values) (q : Path) (ask : Ask) (u : Task) → OkThen p (Buf w) (Grp w) tt tt ask u → JoinFits log q ask
  fits_then w log q (JoinsAll loop) u h = absurd h
  fits_then w log q (Reads b i) u h = tt
  fits_then w log q (Writes b i n) u h = tt
  fits_then w log q (Allocs dims) u h = tt
  fits_then w log q (Creates n) u h = tt
  fits_then w log q (Adds g x used) u h = tt
  fits_then w log q (Launches t r) u h = tt
  fits_then w log q (Enters loop) u h = tt
  fits_then w log q (AwaitsOne x) u h = tt
  fits_then w log q (AwaitsAll g) u h = tt

  pub holds_asks : (w : World) (log : runs.Log Begin Values) (q : Path) (t : Task) (at : ℕ) (ask : Ask) (xs : List ValueNo) (u : Task) → Holds w log q t → next p t ≡ Asks at ask xs u → Asking w log q ask xs u
  holds_asks w log q t at ask xs u (inl h) e =
      let n : OkNext p (Buf w) (Grp w) tt tt (Asks at ask xs u) = subst (OkNext p (Buf w) (Grp w) tt tt) e (ok_next p (Buf w) (Grp w) tt tt t h) in
      record { ok = n.0; fits = fits_then w log q ask u n.1; onward = inl n.1; names = n.2 }
  holds_asks w log q t at ask xs u (inr j) e = subst (λ (a : Ask). Asking w log q a xs u) (which same) (record {
    ok = tt;
    fits = j.fits;
    onward = inr (record { loop = j.loop; is = refl; task = subst (OkTask p (Buf w) (Grp w) tt tt) (task same) (record { pending = tt; frames = j.joins.frames; env = j.joins.env }) });
    names = tt;
  }) where
    same : Asks j.joins.at (JoinsAll j.loop) [] (record t { pending = [] }) ≡ Asks at ask xs u
    same = sym (joining_next t j.joins.at j.loop j.joins.pending) ∙ e

    which : Asks j.joins.at (JoinsAll j.loop) [] (record t { pending = [] }) ≡ Asks at ask xs u → JoinsAll j.loop ≡ ask
    which h = cc

    task : Asks j.joins.at (JoinsAll j.loop) [] (record t { pending = [] }) ≡ Asks at ask xs u → record t { pending = [] } ≡ u
    task h = cc

  -- ---- answers

  elements_held : (w : World) (r : Path) (js : List ℕ) → OkVals p (Buf w) (Grp w) tt tt (map (λ j. Element (Value r j)) js)
  elements_held w r [] = tt
  elements_held w r (j ∷ js) = (tt, elements_held w r js)

  unless_held : (w : World) (b : Bool) → HeldAnswer w (world.unless_failed b)
  unless_held w true = tt
  unless_held w false = tt

  awaited_held : (w : World) (x : ElementName) (o : Option Outcome) → HeldOutcome w o → HeldAnswer w (world.awaited x o)
  awaited_held w (Token r) (Some (Gave vs)) h = tt
  awaited_held w (Value r j) (Some (Gave vs)) h = (ok_get p (Buf w) (Grp w) tt tt vs j h, tt)
  awaited_held w (Token r) (Some (FailedAt at)) h = tt
  awaited_held w (Value r j) (Some (FailedAt at)) h = tt
  awaited_held w (Token r) None h = tt
  awaited_held w (Value r j) None h = tt

  answer_held : (w : World) (q : Path) (k : ℕ) (ask : Ask) → ((r : Path) → HeldOutcome w (world.outcome w r)) → HeldAnswer (after w q k ask) (world.answer w q k ask)
  answer_held w q k (Reads b i) h = (tt, tt)
  answer_held w q k (Writes b i n) h = tt
  answer_held w q k (Allocs dims) h = (ap (λ t. is_some (cond t (Some (new_store q (k + 1) dims)) (find (λ (s : Store). same_made s.name (Made q (k + 1))) w.buffers))) (made_same (Made q (k + 1))), tt)
  answer_held w q k (Creates n) h = (ap (λ t. is_some (cond t (Some (new_group q (k + 1) n)) (group_at w (Made q (k + 1))))) (made_same (Made q (k + 1))), tt)
  answer_held w q k (Adds g x used) h = (tt, tt)
  answer_held w q k (Launches t r) h = (tt, elements_held w (q ++ (k + 1) ∷ []) (numbers_from 0 r))
  answer_held w q k (Enters loop) h = tt
  answer_held w q k (JoinsAll loop) h = unless_held w _
  answer_held w q k (AwaitsOne x) h = awaited_held w x (world.outcome w (maker x)) (h (maker x))
  answer_held w q k (AwaitsAll g) h = unless_held w _

  turns_from : (ext : MadeName → ℕ → Bool) (q : Path) (k n : ℕ) (a b : Ask) (loop : Loop) → LikeAsk p a b → b ≡ Enters loop → runs.turns_of (clipped ext (asked q k a)) n ≡ loop.total
  turns_from ext q k n a b loop (like.same c z) e = absurd (subst (like.HasNoTask p) e z)
  turns_from ext q k n a b loop (like.enters l m h) e = length-map (numbers_from 0 l.total) _ ∙ (numbers_many 0 l.total ∙ (sym h.total ∙ ap (λ (x : Loop). x.total) (inside e))) where
    inside : Enters m ≡ Enters loop → m ≡ loop
    inside h = cc
  turns_from ext q k n a b loop (like.launches t u r h) e = absurd (apart e) where
    apart : Launches u r ≡ Enters loop → ⊥
    apart h = cc
  turns_from ext q k n a b loop (like.joins_all l m h) e = absurd (apart e) where
    apart : JoinsAll m ≡ Enters loop → ⊥
    apart h = cc

  pub turns_entered : (ext : MadeName → ℕ → Bool) (q : Path) (k n : ℕ) (a : Ask) (loop : Loop) → LikeAsk p a (Enters loop) → runs.turns_of (clipped ext (asked q k a)) n ≡ loop.total
  turns_entered ext q k n a loop l = turns_from ext q k n a (Enters loop) loop l refl

  module _ (ext : MadeName → ℕ → Bool) (w : World) (log : runs.Log Begin Values) (e : runs.Event Begin Values) (q : Path) (k m : ℕ) (of : e.task ≡ q) (held : (r : Path) → HeldOutcome w (world.outcome w r)) where
    task_after : (ask : Ask) (t : Task) → OkTask p (Buf w) (Grp w) tt tt t → OkTask p (Buf (after w q k ask)) (Grp (after w q k ask)) tt tt t
    task_after ask t h = task_mono p (Buf w) (Grp w) (Buf (after w q k ask)) (Grp (after w q k ask)) tt tt tt tt (buf_after w q k ask) (grp_after w q k ask) t h

    answered : (ask : Ask) (at : ℕ) (xs : List ValueNo) (u : Task) → OkTask p (Buf w) (Grp w) tt tt u → Holds (after w q k ask) (e ∷ log) q (resumed at xs u (world.answer w q k ask))
    answered ask at xs u h = inl (ok_resumed p (Buf (after w q k ask)) (Grp (after w q k ask)) tt tt at xs u (world.answer w q k ask) (task_after ask u h) (λ vs t. subst (HeldAnswer (after w q k ask)) t (answer_held w q k ask held)))

    then_after : (a ask : Ask) (at : ℕ) (xs : List ValueNo) (u : Task) → LikeAsk p a ask → e.act ≡ clipped ext (asked q m a) → OkThen p (Buf w) (Grp w) tt tt ask u → Holds (after w q k ask) (e ∷ log) q (resumed at xs u (world.answer w q k ask))
    then_after a (Enters loop) at xs u l t h = inr (record { loop = loop; joins = h; fits = ap runs.turns_in (history_own e log q of) ∙ (ap (λ x. runs.turns_of x (runs.turns log q)) t ∙ turns_entered ext q m (runs.turns log q) a loop l) })
    then_after a (JoinsAll loop) at xs u l t h = absurd h
    then_after a (Reads b i) at xs u l t h = answered (Reads b i) at xs u h
    then_after a (Writes b i n) at xs u l t h = answered (Writes b i n) at xs u h
    then_after a (Allocs dims) at xs u l t h = answered (Allocs dims) at xs u h
    then_after a (Creates n) at xs u l t h = answered (Creates n) at xs u h
    then_after a (Adds g x used) at xs u l t h = answered (Adds g x used) at xs u h
    then_after a (Launches c r) at xs u l t h = answered (Launches c r) at xs u h
    then_after a (AwaitsOne x) at xs u l t h = answered (AwaitsOne x) at xs u h
    then_after a (AwaitsAll g) at xs u l t h = answered (AwaitsAll g) at xs u h

    -- the task holds what is there behind the answer
    pub holds_after : (a ask : Ask) (at : ℕ) (xs : List ValueNo) (u : Task) → LikeAsk p a ask → e.act ≡ clipped ext (asked q m a) → Asking w log q ask xs u → Holds (after w q k ask) (e ∷ log) q (resumed at xs u (world.answer w q k ask))
    holds_after a ask at xs u l t h = split h.onward where
      split : OkThen p (Buf w) (Grp w) tt tt ask u ⊎ Joined w ask u → Holds (after w q k ask) (e ∷ log) q (resumed at xs u (world.answer w q k ask))
      split (inl n) = then_after a ask at xs u l t n
      split (inr j) = answered ask at xs u j.task

  -- other tasks hold what they held
  pub holds_mono : (w v : World) (log more : runs.Log Begin Values) (q : Path) (t : Task) → ((b : MadeName) → Buf w b → Buf v b) → ((g : MadeName) → Grp w g → Grp v g) → runs.turns more q ≡ runs.turns log q → Holds w log q t → Holds v more q t
  holds_mono w v log more q t f g e (inl h) = inl (task_mono p (Buf w) (Grp w) (Buf v) (Grp v) tt tt tt tt f g t h)
  holds_mono w v log more q t f g e (inr j) = inr (record { loop = j.loop; joins = joining_mono p (Buf w) (Grp w) (Buf v) (Grp v) tt tt tt tt f g j.loop t j.joins; fits = e ∙ j.fits })

  pub outcome_held : (w v : World) (o : Option Outcome) → ((b : MadeName) → Buf w b → Buf v b) → ((g : MadeName) → Grp w g → Grp v g) → HeldOutcome w o → HeldOutcome v o
  outcome_held w v None f g h = tt
  outcome_held w v (Some o) f g h = outcome_mono p (Buf w) (Grp w) (Buf v) (Grp v) tt tt tt tt f g o h
