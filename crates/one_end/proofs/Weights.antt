-- The part of a whole run that a part of it has done, in the order of the whole, and sums over it.
use Rattle.std.specs.Prelude.{◌⊎◌, ltb}
use mathlib.Core.Logic.{inl, inr}
use Rattle.std.proofs.Common.{◌≡◌, ◌<◌, ◌≤◌, ℕ, zero, suc, ◌+◌, Bool, true, false, cond, [], ◌∷◌, ◌++◌, length, refl, sym, ap, subst, ◌∙◌, arith}
use Rattle.std.proofs.lemmas.Bool.{ltb-true, lt-ltb, le-ltb}
use Rattle.ir_forms.specs.Names.{Path}
use Rattle.race_order.specs.Known.{Counts}
use Rattle.one_end.specs.Programs.{Act}
use Rattle.one_end.specs.Runs.{Event, Log, history, taken}
use Rattle.one_end.proofs.Basics.{path_cases, Older, older_same_list, older_tail}
use Rattle.one_end.proofs.Histories.{history_own, taken_own, taken_other, Found, find_older, older_taken}
use Rattle.one_end.proofs.Pairs.{Part, part_older}

module _ {D V : Type 0} where
  -- the events of which each is among the first so many of its task
  abbrev pub inside : Counts → Log D V → Log D V
  inside c [] = []
  inside c (e ∷ log) = cond (ltb (taken log e.task) (c e.task)) (e ∷ inside c log) (inside c log)

  -- those of the later part of a log
  abbrev pub over : Counts → Log D V → Log D V → Log D V
  over c [] f = []
  over c (e ∷ b) f = cond (ltb (taken (b ++ f) e.task) (c e.task)) (e ∷ over c b f) (over c b f)

  pub inside_append : (c : Counts) (b f : Log D V) → inside c (b ++ f) ≡ over c b f ++ inside c f
  inside_append c [] f = refl
  inside_append c (e ∷ b) f = split (ltb (taken (b ++ f) e.task) (c e.task)) (inside_append c b f) where
    split : (t : Bool) → inside c (b ++ f) ≡ over c b f ++ inside c f → cond t (e ∷ inside c (b ++ f)) (inside c (b ++ f)) ≡ cond t (e ∷ over c b f) (over c b f) ++ inside c f
    split true h = ap (λ t. e ∷ t) h
    split false h = h

  abbrev pub weigh : (Act D V → ℕ) → Log D V → ℕ
  weigh w [] = 0
  weigh w (e ∷ log) = w e.act + weigh w log

  pub weigh_append : (w : Act D V → ℕ) (a b : Log D V) → weigh w (a ++ b) ≡ weigh w a + weigh w b
  weigh_append w [] b = omega arith
  weigh_append w (e ∷ a) b = omega (arith, weigh_append w a b)

  pub inside_light : (w : Act D V → ℕ) (c : Counts) (log : Log D V) → weigh w (inside c log) ≤ weigh w log
  inside_light w c [] = omega arith
  inside_light w c (e ∷ log) = split (ltb (taken log e.task) (c e.task)) (inside_light w c log) where
    split : (t : Bool) → weigh w (inside c log) ≤ weigh w log → weigh w (cond t (e ∷ inside c log) (inside c log)) ≤ w e.act + weigh w log
    split true h = omega (arith, h)
    split false h = omega (arith, h)

  -- where all the weight is inside, so is each event that weighs
  pub heavy_inside : (w : Act D V → ℕ) (c : Counts) (b : Log D V) (e : Event D V) (f : Log D V) → weigh w (b ++ e ∷ f) ≤ weigh w (inside c (b ++ e ∷ f)) → zero < w e.act → taken f e.task < c e.task
  heavy_inside w c [] e f h l = split (ltb (taken f e.task) (c e.task)) refl where
    split : (t : Bool) → ltb (taken f e.task) (c e.task) ≡ t → taken f e.task < c e.task
    split true q = ltb-true (taken f e.task) (c e.task) q
    split false q = absurd (omega (arith, l, inside_light w c f, subst (λ t. w e.act + weigh w f ≤ weigh w (cond t (e ∷ inside c f) (inside c f))) q h))
  heavy_inside w c (x ∷ b) e f h l = heavy_inside w c b e f (split (ltb (taken (b ++ e ∷ f) x.task) (c x.task)) h) l where
    split : (t : Bool) → w x.act + weigh w (b ++ e ∷ f) ≤ weigh w (cond t (x ∷ inside c (b ++ e ∷ f)) (inside c (b ++ e ∷ f))) → weigh w (b ++ e ∷ f) ≤ weigh w (inside c (b ++ e ∷ f))
    split true q = omega (arith, q)
    split false q = omega (arith, q)

  -- ---- one event more

  -- as a part comes to the event x, which stands before f in the whole
  module _ (c d : Counts) (x : Event D V) (f : Log D V) (at : taken f x.task ≡ c x.task) (more : d x.task ≡ suc (c x.task)) (others : (p : Path) → (x.task ≡ p → ⊥) → d p ≡ c p) where
    below_same : (y : Event D V) (g : Log D V) → Older g f → Older (y ∷ g) f → ltb (taken g y.task) (d y.task) ≡ ltb (taken g y.task) (c y.task)
    below_same y g o o2 = split (path_cases x.task y.task) where
      split : (x.task ≡ y.task) ⊎ (x.task ≡ y.task → ⊥) → ltb (taken g y.task) (d y.task) ≡ ltb (taken g y.task) (c y.task)
      split (inr n) = ap (λ t. ltb (taken g y.task) t) (others y.task n)
      split (inl e) = lt-ltb (taken g y.task) (d y.task) (omega (arith, less, c2, d2)) ∙ sym (lt-ltb (taken g y.task) (c y.task) (omega (arith, less, c2))) where
        less : suc (taken g y.task) ≤ taken f y.task
        less = omega (arith, older_taken (y ∷ g) f y.task o2, taken_own y g y.task refl)

        c2 : taken f y.task ≡ c y.task
        c2 = subst (λ t. taken f t ≡ c t) e at

        d2 : d y.task ≡ suc (c y.task)
        d2 = subst (λ t. d t ≡ suc (c t)) e more

    inside_same : (g : Log D V) → Older g f → inside d g ≡ inside c g
    inside_same [] o = refl
    inside_same (y ∷ g) o = ap (λ t. cond t (y ∷ inside d g) (inside d g)) (below_same y g (older_tail y g f o) o) ∙ ap (λ t. cond (ltb (taken g y.task) (c y.task)) (y ∷ t) t) (inside_same g (older_tail y g f o))

    above_same : (y : Event D V) (b : Log D V) → ltb (taken (b ++ x ∷ f) y.task) (d y.task) ≡ ltb (taken (b ++ x ∷ f) y.task) (c y.task)
    above_same y b = split (path_cases x.task y.task) where
      split : (x.task ≡ y.task) ⊎ (x.task ≡ y.task → ⊥) → ltb (taken (b ++ x ∷ f) y.task) (d y.task) ≡ ltb (taken (b ++ x ∷ f) y.task) (c y.task)
      split (inr n) = ap (λ t. ltb (taken (b ++ x ∷ f) y.task) t) (others y.task n)
      split (inl e) = le-ltb (taken (b ++ x ∷ f) y.task) (d y.task) (omega (arith, less, c2, d2)) ∙ sym (le-ltb (taken (b ++ x ∷ f) y.task) (c y.task) (omega (arith, less, c2))) where
        less : suc (taken f y.task) ≤ taken (b ++ x ∷ f) y.task
        less = omega (arith, older_taken (x ∷ f) (b ++ x ∷ f) y.task (b, refl), taken_own x f y.task e)

        c2 : taken f y.task ≡ c y.task
        c2 = subst (λ t. taken f t ≡ c t) e at

        d2 : d y.task ≡ suc (c y.task)
        d2 = subst (λ t. d t ≡ suc (c t)) e more

    over_same : (b : Log D V) → over d b (x ∷ f) ≡ over c b (x ∷ f)
    over_same [] = refl
    over_same (y ∷ b) = ap (λ t. cond t (y ∷ over d b (x ∷ f)) (over d b (x ∷ f))) (above_same y b) ∙ ap (λ t. cond (ltb (taken (b ++ x ∷ f) y.task) (c y.task)) (y ∷ t) t) (over_same b)

    pub inside_before : (b : Log D V) → inside c (b ++ x ∷ f) ≡ over c b (x ∷ f) ++ inside c f
    inside_before b = inside_append c b (x ∷ f) ∙ ap (λ t. over c b (x ∷ f) ++ cond t (x ∷ inside c f) (inside c f)) (le-ltb (taken f x.task) (c x.task) (omega (arith, at)))

    pub inside_after : (b : Log D V) → inside d (b ++ x ∷ f) ≡ over c b (x ∷ f) ++ x ∷ inside c f
    inside_after b =
        inside_append d b (x ∷ f)
        ∙ (ap (λ t. over d b (x ∷ f) ++ cond t (x ∷ inside d f) (inside d f)) (lt-ltb (taken f x.task) (d x.task) (omega (arith, at, more)))
        ∙ (ap (λ t. t ++ x ∷ inside d f) (over_same b) ∙ ap (λ t. over c b (x ∷ f) ++ x ∷ t) (inside_same f (older_same_list f))))

  -- ---- a part weighs what it has done of the whole

  pub inside_none : (log : Log D V) → inside (λ p. 0) log ≡ []
  inside_none [] = refl
  inside_none (e ∷ log) = ap (λ t. cond t (e ∷ inside (λ p. 0) log) (inside (λ p. 0) log)) (le-ltb (taken log e.task) 0 (omega arith)) ∙ inside_none log

  -- where the last event of a part stands in the whole
  pub place_in : (whole : Log D V) (x : Event D V) (log : Log D V) → Part (x ∷ log) whole → Found whole x.task x (history log x.task)
  place_in whole x log part = find_older whole x.task x (history log x.task) (subst (λ t. Older t (history whole x.task)) (history_own x log x.task refl) (part x.task))

  pub same_weight : (w : Act D V → ℕ) (whole log : Log D V) → Part log whole → weigh w log ≡ weigh w (inside (taken log) whole)
  same_weight w whole [] part = ap (weigh w) (sym (inside_none whole))
  same_weight w whole (x ∷ log) part = omega (arith, same_weight w whole log (part_older log (x ∷ log) whole (x ∷ [], refl) part), before, after) where
    at : Found whole x.task x (history log x.task)
    at = place_in whole x log part

    b : Log D V
    b = at.older.0

    f : Log D V
    f = at.past

    before : weigh w (inside (taken log) whole) ≡ weigh w (over (taken log) b (x ∷ f)) + weigh w (inside (taken log) f)
    before = ap (λ t. weigh w (inside (taken log) t)) at.older.1 ∙ (ap (weigh w) (inside_before (taken log) (taken (x ∷ log)) x f (ap length at.did) (taken_own x log x.task refl) (λ p n. taken_other x log p n) b) ∙ weigh_append w (over (taken log) b (x ∷ f)) (inside (taken log) f))

    after : weigh w (inside (taken (x ∷ log)) whole) ≡ weigh w (over (taken log) b (x ∷ f)) + (w x.act + weigh w (inside (taken log) f))
    after = ap (λ t. weigh w (inside (taken (x ∷ log)) t)) at.older.1 ∙ (ap (weigh w) (inside_after (taken log) (taken (x ∷ log)) x f (ap length at.did) (taken_own x log x.task refl) (λ p n. taken_other x log p n) b) ∙ weigh_append w (over (taken log) b (x ∷ f)) (x ∷ inside (taken log) f))
