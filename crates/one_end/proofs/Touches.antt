-- An action finds what it touches as it finds it in the whole run.
use Rattle.std.specs.Prelude.{◌⊎◌, ltb, not, ◌&&◌, is_some}
use mathlib.Core.Logic.{inl, inr}
use Rattle.std.proofs.Common.{◌≡◌, ◌<◌, ◌≤◌, ℕ, suc, Bool, true, false, cond, List, [], ◌∷◌, ◌++◌, length, Option, Some, None, refl, sym, ap, subst, ◌∙◌, arith}
use Rattle.std.proofs.lemmas.Bool.{ltb-true, lt-ltb}
use Rattle.ir_forms.specs.declared.names.ElementName.{ElementName}
use Rattle.ir_forms.specs.declared.names.MadeName.{MadeName}
use Rattle.ir_forms.specs.declared.names.TraceEntry.{TraceEntry}
use Rattle.ir_forms.specs.Names.{Path, same_path}
use Rattle.race_order.specs.Known.{Counts}
use Rattle.race_order.specs.Race.{clash, in_conflict}
use Rattle.one_end.specs.Programs.{Act, Program, shown}
use Rattle.one_end.specs.Runs.{Event, Log, history, taken, IsRun, begun, written, cell, joins, members, or_else, Each, entry_of}
use Rattle.one_end.proofs.Orders.{known, AreKnown, InOrder}
use Rattle.one_end.proofs.Basics.{path_cases, path_no, here, there, Older, older_same_list, older_tail}
use Rattle.one_end.proofs.Histories.{taken_own, taken_other, Found, older_taken}
use Rattle.one_end.proofs.Pairs.{Part, part_older, taken_begun}
use Rattle.one_end.proofs.Weights.{inside, over, inside_before, inside_after, inside_none, place_in}
use Rattle.one_end.proofs.Sounds.{sound_at}

module _ {D V : Type 0} where
  ordered_at : (b : Log D V) (e : Event D V) (f : Log D V) → InOrder (b ++ e ∷ f) → AreKnown (known f e.task) (entry_of e) f
  ordered_at [] e f o = o.0
  ordered_at (x ∷ b) e f o = ordered_at b e f o.1

  are_known_at : (c : Counts) (t : TraceEntry) (b : Log D V) (e : Event D V) (f : Log D V) → AreKnown c t (b ++ e ∷ f) → in_conflict (entry_of e) t ≡ true → suc (taken f e.task) ≤ c e.task
  are_known_at c t [] e f k h = k.0 h
  are_known_at c t (x ∷ b) e f k h = are_known_at c t b e f k.1 h

  conflict : (e x : Event D V) → (e.task ≡ x.task → ⊥) → clash (shown e.act) (shown x.act) ≡ true → in_conflict (entry_of e) (entry_of x) ≡ true
  conflict e x n h = ap (λ t. not t && clash (shown e.act) (shown x.act)) (path_no e.task x.task n) ∙ h

  -- the events whose action passes the test
  abbrev pub only : (Act D V → Bool) → Log D V → Log D V
  only t [] = []
  only t (e ∷ log) = cond (t e.act) (e ∷ only t log) (only t log)

  only_append : (t : Act D V → Bool) (a b : Log D V) → only t (a ++ b) ≡ only t a ++ only t b
  only_append t [] b = refl
  only_append t (e ∷ a) b = split (t e.act) (only_append t a b) where
    split : (s : Bool) → only t (a ++ b) ≡ only t a ++ only t b → cond s (e ∷ only t (a ++ b)) (only t (a ++ b)) ≡ cond s (e ∷ only t a) (only t a) ++ only t b
    split true h = ap (λ z. e ∷ z) h
    split false h = h

  -- none of these clashes with the action
  abbrev pub Apart : Act D V → Log D V → Type 0
  Apart a log = Each (λ (y : Event D V). clash (shown a) (shown y.act) ≡ true → ⊥) log

  only_apart : (t : Act D V → Bool) (a : Act D V) (log : Log D V) → ((c : Act D V) → t c ≡ true → clash (shown a) (shown c) ≡ true) → Apart a log → only t log ≡ []
  only_apart t a [] h k = refl
  only_apart t a (e ∷ log) h k = split (t e.act) refl (only_apart t a log h k.1) where
    split : (s : Bool) → t e.act ≡ s → only t log ≡ [] → cond s (e ∷ only t log) (only t log) ≡ []
    split true q r = absurd (k.0 (h e.act q))
    split false q r = r

module _ {D V : Type 0} (P : Program D V) (whole : Log D V) (whole_runs : IsRun P whole) (ordered : InOrder whole) (log : Log D V) (runs : IsRun P log) (part : Part log whole) where
  module _ (x : Event D V) (f : Log D V) (next : taken f x.task ≡ taken log x.task) (d : D) (made : begun P log x.task ≡ Some d) where
    later_apart : (y : Event D V) (b : Log D V) → Older (y ∷ b ++ x ∷ f) whole → taken (b ++ x ∷ f) y.task < taken log y.task → clash (shown x.act) (shown y.act) ≡ true → ⊥
    later_apart y b o l h = split (path_cases x.task y.task) where
      more : suc (taken f x.task) ≤ taken (b ++ x ∷ f) x.task
      more = omega (arith, older_taken (x ∷ f) (b ++ x ∷ f) x.task (b, refl), taken_own x f x.task refl)

      there_is : (c : D) × (begun P log y.task ≡ Some c)
      there_is = taken_begun P log y.task runs (omega (arith, l))

      split : (x.task ≡ y.task) ⊎ (x.task ≡ y.task → ⊥) → ⊥
      split (inl s) = absurd (omega (arith, more, next, subst (λ t. taken (b ++ x ∷ f) t < taken log t) (sym s) l))
      split (inr n) =
          let known_to = are_known_at (known (b ++ x ∷ f) y.task) (entry_of y) b x f (ordered_at o.0 y (b ++ x ∷ f) (subst InOrder o.1 ordered)) (conflict x y n h) in
          let bound = sound_at P whole whole_runs log runs part (b ++ x ∷ f) (older_tail y (b ++ x ∷ f) whole o) y.task there_is.0 there_is.1 (omega (arith, l)) x.task in
          absurd (omega (arith, known_to, bound, next))

    pub apart : (b : Log D V) → Older (b ++ x ∷ f) whole → Apart x.act (over (taken log) b (x ∷ f))
    apart [] o = tt
    apart (y ∷ b) o = split (ltb (taken (b ++ x ∷ f) y.task) (taken log y.task)) refl (apart b (older_tail y (b ++ x ∷ f) whole o)) where
      split : (s : Bool) → ltb (taken (b ++ x ∷ f) y.task) (taken log y.task) ≡ s → Each (λ (y : Event D V). clash (shown x.act) (shown y.act) ≡ true → ⊥) (over (taken log) b (x ∷ f)) → Each (λ (y : Event D V). clash (shown x.act) (shown y.act) ≡ true → ⊥) (cond s (y ∷ over (taken log) b (x ∷ f)) (over (taken log) b (x ∷ f)))
      split true q r = (later_apart y b o (ltb-true (taken (b ++ x ∷ f) y.task) (taken log y.task) q), r)
      split false q r = r

    earlier_inside : (b : Log D V) → whole ≡ b ++ x ∷ f → (y : Event D V) (g : Log D V) → Older (y ∷ g) f → clash (shown y.act) (shown x.act) ≡ true → taken g y.task < taken log y.task
    earlier_inside b o y g older h = split (path_cases y.task x.task) where
      split : (y.task ≡ x.task) ⊎ (y.task ≡ x.task → ⊥) → taken g y.task < taken log y.task
      split (inl s) = omega (arith, older_taken (y ∷ g) f y.task older, taken_own y g y.task refl, subst (λ t. taken f t ≡ taken log t) (sym s) next)
      split (inr n) =
          let known_to = are_known_at (known f x.task) (entry_of x) older.0 y g (subst (AreKnown (known f x.task) (entry_of x)) older.1 (ordered_at b x f (subst InOrder o ordered))) (conflict y x n h) in
          let bound = sound_at P whole whole_runs log runs part f (older_tail x f whole (b, o)) x.task d made (omega (arith, next)) y.task in
          omega (arith, known_to, bound)

    only_earlier : (t : Act D V → Bool) → ((c : Act D V) → t c ≡ true → clash (shown c) (shown x.act) ≡ true) → (b : Log D V) → whole ≡ b ++ x ∷ f → (g : Log D V) → Older g f → only t (inside (taken log) g) ≡ only t g
    only_earlier t h b o [] older = refl
    only_earlier t h b o (y ∷ g) older = split (t y.act) refl (ltb (taken g y.task) (taken log y.task)) refl (only_earlier t h b o g (older_tail y g f older)) where
      split : (s : Bool) → t y.act ≡ s → (i : Bool) → ltb (taken g y.task) (taken log y.task) ≡ i → only t (inside (taken log) g) ≡ only t g → only t (cond (ltb (taken g y.task) (taken log y.task)) (y ∷ inside (taken log) g) (inside (taken log) g)) ≡ cond (t y.act) (y ∷ only t g) (only t g)
      split true q i w r = ap (λ z. only t (cond z (y ∷ inside (taken log) g) (inside (taken log) g))) (lt-ltb (taken g y.task) (taken log y.task) (earlier_inside b o y g older (h y.act q))) ∙ ap (λ z. cond (t y.act) (y ∷ z) z) r
      split false q true w r = ap (λ z. only t (cond z (y ∷ inside (taken log) g) (inside (taken log) g))) w ∙ ap (λ z. cond (t y.act) (y ∷ z) z) r
      split false q false w r = ap (λ z. only t (cond z (y ∷ inside (taken log) g) (inside (taken log) g))) w ∙ (r ∙ ap (λ z. cond z (y ∷ only t g) (only t g)) (sym q))

    -- what the action touches is what it touches in the whole
    pub touches_same : (t : Act D V → Bool) → ((c : Act D V) → t c ≡ true → clash (shown c) (shown x.act) ≡ true) → ((c : Act D V) → t c ≡ true → clash (shown x.act) (shown c) ≡ true) → (b : Log D V) → whole ≡ b ++ x ∷ f → only t (inside (taken log) whole) ≡ only t f
    touches_same t h k b o = ap (λ z. only t (inside (taken log) z)) o ∙ (ap (only t) (inside_before (taken log) (λ p. cond (same_path x.task p) (suc (taken log p)) (taken log p)) x f next (grown x.task) (λ p n. other p n) b) ∙ (only_append t (over (taken log) b (x ∷ f)) (inside (taken log) f) ∙ (ap (λ z. z ++ only t (inside (taken log) f)) (only_apart t x.act (over (taken log) b (x ∷ f)) k (apart b ([], o))) ∙ only_earlier t h b o f (older_same_list f)))) where
      grown : (p : Path) → cond (same_path p p) (suc (taken log p)) (taken log p) ≡ suc (taken log p)
      grown p = here p p (suc (taken log p)) (taken log p) refl

      other : (p : Path) → (x.task ≡ p → ⊥) → cond (same_path x.task p) (suc (taken log p)) (taken log p) ≡ taken log p
      other p n = there x.task p (suc (taken log p)) (taken log p) n

module _ {D V : Type 0} (P : Program D V) (whole : Log D V) (whole_runs : IsRun P whole) (ordered : InOrder whole) where
  -- actions that clash with each other come in one order
  pub kept_order : (t : Act D V → Bool) → ((a c : Act D V) → t a ≡ true → t c ≡ true → clash (shown a) (shown c) ≡ true) → (log : Log D V) → IsRun P log → Part log whole → only t log ≡ only t (inside (taken log) whole)
  kept_order t h [] runs part = ap (only t) (sym (inside_none whole))
  kept_order t h (x ∷ log) runs part = split (t x.act) refl (kept_order t h log runs.1 before_part) where
    before_part : Part log whole
    before_part = part_older log (x ∷ log) whole (x ∷ [], refl) part

    at : Found whole x.task x (history log x.task)
    at = place_in whole x log part

    b : Log D V
    b = at.older.0

    f : Log D V
    f = at.past

    before : only t (inside (taken log) whole) ≡ only t (over (taken log) b (x ∷ f)) ++ only t (inside (taken log) f)
    before = ap (λ z. only t (inside (taken log) z)) at.older.1 ∙ (ap (only t) (inside_before (taken log) (taken (x ∷ log)) x f (ap length at.did) (taken_own x log x.task refl) (λ p n. taken_other x log p n) b) ∙ only_append t (over (taken log) b (x ∷ f)) (inside (taken log) f))

    after : only t (inside (taken (x ∷ log)) whole) ≡ only t (over (taken log) b (x ∷ f)) ++ only t (x ∷ inside (taken log) f)
    after = ap (λ z. only t (inside (taken (x ∷ log)) z)) at.older.1 ∙ (ap (only t) (inside_after (taken log) (taken (x ∷ log)) x f (ap length at.did) (taken_own x log x.task refl) (λ p n. taken_other x log p n) b) ∙ only_append t (over (taken log) b (x ∷ f)) (x ∷ inside (taken log) f))

    none_over : t x.act ≡ true → only t (over (taken log) b (x ∷ f)) ≡ []
    none_over q = only_apart t x.act (over (taken log) b (x ∷ f)) (λ c w. h x.act c q w) (apart P whole whole_runs ordered log runs.1 before_part x f (ap length at.did) runs.0.begin runs.0.made b ([], at.older.1))

    split : (s : Bool) → t x.act ≡ s → only t log ≡ only t (inside (taken log) whole) → cond (t x.act) (x ∷ only t log) (only t log) ≡ only t (inside (taken (x ∷ log)) whole)
    split true q r = ap (λ z. cond z (x ∷ only t log) (only t log)) q ∙ (ap (λ z. x ∷ z) (r ∙ (before ∙ ap (λ z. z ++ only t (inside (taken log) f)) (none_over q))) ∙ sym (after ∙ (ap (λ z. z ++ only t (x ∷ inside (taken log) f)) (none_over q) ∙ ap (λ z. cond z (x ∷ only t (inside (taken log) f)) (only t (inside (taken log) f))) q)))
    split false q r = ap (λ z. cond z (x ∷ only t log) (only t log)) q ∙ (r ∙ (before ∙ sym (after ∙ ap (λ z. only t (over (taken log) b (x ∷ f)) ++ cond z (x ∷ only t (inside (taken log) f)) (only t (inside (taken log) f))) q)))

-- ---- what is read depends on what touches it alone

module _ {D V : Type 0} where
  -- the action writes the cell
  abbrev pub puts : MadeName → ℕ → Act D V → Bool
  puts b i a = is_some (written a b i)

module _ {D V : Type 0} (P : Program D V) where
  pub cell_only : (b : MadeName) (i : ℕ) (log : Log D V) → cell P log b i ≡ cell P (only (puts b i) log) b i
  cell_only b i [] = refl
  cell_only b i (e ∷ log) = split (written e.act b i) refl (cell_only b i log) where
    split : (o : Option ℕ) → written e.act b i ≡ o → cell P log b i ≡ cell P (only (puts b i) log) b i → or_else (cell P log b i) (written e.act b i) ≡ cell P (cond (is_some (written e.act b i)) (e ∷ only (puts b i) log) (only (puts b i) log)) b i
    split None q h = ap (or_else (cell P log b i)) q ∙ (h ∙ ap (λ o. cell P (cond (is_some o) (e ∷ only (puts b i) log) (only (puts b i) log)) b i) (sym q))
    split (Some n) q h = ap (λ c. or_else c (written e.act b i)) h ∙ ap (λ o. cell P (cond (is_some o) (e ∷ only (puts b i) log) (only (puts b i) log)) b i) (sym q)

module _ {X : Type 0} where
  abbrev pub is_any : List X → Bool
  is_any [] = false
  is_any (x ∷ xs) = true

module _ {D V : Type 0} where
  abbrev pub enters_group : MadeName → Act D V → Bool
  enters_group g a = is_any (joins a g)

  pub members_only : (g : MadeName) (log : Log D V) → members log g ≡ members (only (enters_group g) log) g
  members_only g [] = refl
  members_only g (e ∷ log) = split (joins e.act g) refl (members_only g log) where
    split : (xs : List ElementName) → joins e.act g ≡ xs → members log g ≡ members (only (enters_group g) log) g → joins e.act g ++ members log g ≡ members (cond (is_any (joins e.act g)) (e ∷ only (enters_group g) log) (only (enters_group g) log)) g
    split [] q h = ap (λ z. z ++ members log g) q ∙ (h ∙ ap (λ z. members (cond (is_any z) (e ∷ only (enters_group g) log) (only (enters_group g) log)) g) (sym q))
    split (x ∷ xs) q h = ap (λ z. joins e.act g ++ z) h ∙ ap (λ z. members (cond (is_any z) (e ∷ only (enters_group g) log) (only (enters_group g) log)) g) (sym q)
