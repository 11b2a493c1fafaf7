-- What tasks did, in a log and in one that it began as.
use Rattle.std.specs.Prelude.{◌⊎◌}
use mathlib.Core.Logic.{inl, inr}
use Rattle.std.proofs.Common.{◌≡◌, ◌≤◌, suc, [], ◌∷◌, ◌++◌, length, Some, None, refl, sym, ap, subst, ◌∙◌}
use Rattle.ir_forms.specs.Names.{Path}
use Rattle.one_end.specs.Programs.{Outcome, Program}
use Rattle.one_end.specs.Runs.{Event, Log, history, taken, last_end, ends_as, Takes, IsRun}
use Rattle.one_end.proofs.Basics.{path_cases, here, there, Older, older_cons, older_length, none≢some, next_after}

module _ {D V : Type 0} where
  pub history_own : (e : Event D V) (log : Log D V) (p : Path) → e.task ≡ p → history (e ∷ log) p ≡ e ∷ history log p
  history_own e log p h = here e.task p (e ∷ history log p) (history log p) h

  pub history_other : (e : Event D V) (log : Log D V) (p : Path) → (e.task ≡ p → ⊥) → history (e ∷ log) p ≡ history log p
  history_other e log p h = there e.task p (e ∷ history log p) (history log p) h

  pub taken_own : (e : Event D V) (log : Log D V) (p : Path) → e.task ≡ p → taken (e ∷ log) p ≡ suc (taken log p)
  taken_own e log p h = ap length (history_own e log p h)

  pub taken_other : (e : Event D V) (log : Log D V) (p : Path) → (e.task ≡ p → ⊥) → taken (e ∷ log) p ≡ taken log p
  taken_other e log p h = ap length (history_other e log p h)

  history_append : (b f : Log D V) (p : Path) → history (b ++ f) p ≡ history b p ++ history f p
  history_append [] f p = refl
  history_append (e ∷ b) f p = split (path_cases e.task p) (history_append b f p) where
    split : (e.task ≡ p) ⊎ (e.task ≡ p → ⊥) → history (b ++ f) p ≡ history b p ++ history f p → history (e ∷ b ++ f) p ≡ history (e ∷ b) p ++ history f p
    split (inl h) k = history_own e (b ++ f) p h ∙ (ap (λ t. e ∷ t) k ∙ ap (λ t. t ++ history f p) (sym (history_own e b p h)))
    split (inr h) k = history_other e (b ++ f) p h ∙ (k ∙ ap (λ t. t ++ history f p) (sym (history_other e b p h)))

  -- a log began as this one, and so did what each task did
  pub older_history : (f log : Log D V) (p : Path) → Older f log → Older (history f p) (history log p)
  older_history f log p o = (history o.0 p, ap (λ t. history t p) o.1 ∙ history_append o.0 f p)

  pub older_taken : (f log : Log D V) (p : Path) → Older f log → taken f p ≤ taken log p
  older_taken f log p o = older_length (history f p) (history log p) (older_history f log p o)

  -- the log that had an event last, with what its task had done
  pub record Found (log : Log D V) (p : Path) (e : Event D V) (h : Log D V) : Type 0 where
    pub past : Log D V
    pub older : Older (e ∷ past) log
    pub did : history past p ≡ h
    pub task : e.task ≡ p

  found_more : (x : Event D V) (log : Log D V) (p : Path) (e : Event D V) (h : Log D V) → Found log p e h → Found (x ∷ log) p e h
  found_more x log p e h f = record { past = f.past; older = older_cons x (e ∷ f.past) log f.older; did = f.did; task = f.task }

  pub find : (log : Log D V) (p : Path) (e : Event D V) (h m : Log D V) → history log p ≡ m ++ e ∷ h → Found log p e h
  find [] p e h [] q = cc
  find [] p e h (y ∷ m) q = cc
  find (x ∷ log) p e h m q = split (path_cases x.task p) m q (find log p e h) where
    split : (x.task ≡ p) ⊎ (x.task ≡ p → ⊥) → (m : Log D V) → history (x ∷ log) p ≡ m ++ e ∷ h → ((n : Log D V) → history log p ≡ n ++ e ∷ h → Found log p e h) → Found (x ∷ log) p e h
    split (inr n) m q k = found_more x log p e h (k m (sym (history_other x log p n) ∙ q))
    split (inl o) (y ∷ m) q k = found_more x log p e h (k m (tails (sym (history_own x log p o) ∙ q))) where
      tails : x ∷ history log p ≡ y ∷ (m ++ e ∷ h) → history log p ≡ m ++ e ∷ h
      tails w = cc
    split (inl o) [] q k = first (sym (history_own x log p o) ∙ q) where
      first : x ∷ history log p ≡ e ∷ h → Found (x ∷ log) p e h
      first w =
          let xe : x ≡ e = cc in
          let hh : history log p ≡ h = cc in
          record { past = log; older = ([], ap (λ t. t ∷ log) xe); did = hh; task = ap (λ (t : Event D V). t.task) (sym xe) ∙ o }

  pub find_older : (log : Log D V) (p : Path) (e : Event D V) (h : Log D V) → Older (e ∷ h) (history log p) → Found log p e h
  find_older log p e h o = find log p e h o.0 o.1

  -- what the task did when it took this
  pub older_at : (e : Event D V) (f log : Log D V) → Older (e ∷ f) log → Older (e ∷ history f e.task) (history log e.task)
  older_at e f log o = subst (λ t. Older t (history log e.task)) (history_own e f e.task refl) (older_history (e ∷ f) log e.task o)

module _ {D V : Type 0} (P : Program D V) where
  run_append : (b f : Log D V) → IsRun P (b ++ f) → IsRun P f
  run_append [] f r = r
  run_append (e ∷ b) f r = run_append b f r.1

  pub run_older : (f log : Log D V) → Older f log → IsRun P log → IsRun P f
  run_older f log o r = run_append o.0 f (subst (λ t. IsRun P t) o.1 r)

  -- a task that has ended has taken all that it takes
  pub ended_last : (log : Log D V) (p : Path) (z : Event D V) (h : Log D V) (o : Outcome V) → IsRun P log → ends_as z.act ≡ Some o → Older (z ∷ h) (history log p) → history log p ≡ z ∷ h
  ended_last log p z h o r e old = split old.0 old.1 where
    split : (m : Log D V) → history log p ≡ m ++ z ∷ h → history log p ≡ z ∷ h
    split [] q = q
    split (y ∷ m) q = absurd (none≢some o (sym lives ∙ e)) where
      next : (w : Event D V) × Older (w ∷ z ∷ h) (y ∷ m ++ z ∷ h)
      next = next_after y m (z ∷ h)

      at : Found log p next.0 (z ∷ h)
      at = find_older log p next.0 (z ∷ h) (subst (λ t. Older (next.0 ∷ z ∷ h) t) (sym q) next.1)

      takes : Takes P at.past next.0
      takes = (run_older (next.0 ∷ at.past) log at.older r).0

      lives : last_end (z ∷ h) ≡ None
      lives = ap last_end (sym at.did) ∙ subst (λ t. last_end (history at.past t) ≡ None) at.task takes.lives
