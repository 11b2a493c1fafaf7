-- Runs one after another.
use Rattle.std.proofs.Common.{◌≡◌, List, [], ◌∷◌, ◌++◌, Option, Some, None, refl, sym, ap, ◌∙◌, subst, append_assoc}
use Rattle.machines.specs.Machine.{Took, Stuck, Idle, Stopped, Takes, Machine, Run, run, shown_before, and_runs, Reaches}

pub append_none : {X : Type 0} (xs : List X) → xs ++ [] ≡ xs
append_none [] = refl
append_none (x ∷ xs) = ap (λ ys. x ∷ ys) (append_none xs)

abbrev first_or : {A B : Type 0} → A → Option (A × B) → A
first_or d None = d
first_or d (Some p) = p.0

abbrev second_or : {A B : Type 0} → B → Option (A × B) → B
second_or d None = d
second_or d (Some p) = p.1

-- a run of no steps
pub no_steps : {S V : Type 0} (s t : S) (shown : List V) → ◌≡◌ {A = Option (S × List V)} (Some (s, [])) (Some (t, shown)) → (s ≡ t) × ([] ≡ shown)
no_steps s t shown e = (ap (first_or s) e, ap (second_or shown) e)

module _ {V E : Type 0} (M : Machine V E) where
  pub stays : (s : M.State) → Reaches M s [] s
  unfolding run
  stays s = ([], refl)

  pub one_step : (s : M.State) (w : M.Who) (t : M.State) (shown : List V) → M.step s w ≡ Takes t shown → Reaches M s shown t
  unfolding run
  one_step s w t shown e = (w ∷ [], ap (and_runs M (run M [])) e ∙ ap (λ (l : List V). Some (t, l)) (append_none shown))

  -- a run of one step and more
  pub more_steps : (ws : List M.Who) (k : Took M.State V) (t : M.State) (shown : List V) → and_runs M (run M ws) k ≡ Some (t, shown) →
      (s : M.State) × (first : List V) × (rest : List V) × (k ≡ Takes s first) × (run M ws s ≡ Some (t, rest)) × (first ++ rest ≡ shown)
  more_steps ws Stuck t shown e = cc
  more_steps ws Idle t shown e = cc
  more_steps ws Stopped t shown e = cc
  more_steps ws (Takes s first) t shown e = inner (run M ws s) refl e where
    inner : (o : Run M) → run M ws s ≡ o → shown_before M first o ≡ Some (t, shown) →
        (s' : M.State) × (first' : List V) × (rest : List V) × (Takes s first ≡ Takes s' first') × (run M ws s' ≡ Some (t, rest)) × (first' ++ rest ≡ shown)
    inner None h g = cc
    inner (Some (u, rest)) h g =
        let same : u ≡ t = ap (first_or u) g in
        let whole : first ++ rest ≡ shown = ap (second_or shown) g in
        (s, first, rest, refl, h ∙ ap (λ (x : M.State). Some (x, rest)) same, whole)

  then_runs : (ws vs : List M.Who) (s t u : M.State) (shown more : List V) → run M ws s ≡ Some (t, shown) → run M vs t ≡ Some (u, more) → run M (ws ++ vs) s ≡ Some (u, shown ++ more)
  unfolding run
  then_runs [] vs s t u shown more e f =
      let none = no_steps s t shown e in
      subst (λ l. run M vs s ≡ Some (u, l ++ more)) none.1 (subst (λ x. run M vs x ≡ Some (u, more)) (sym none.0) f)
  then_runs (w ∷ ws) vs s t u shown more e f =
      let one = more_steps ws (M.step s w) t shown e in
      let rest = then_runs ws vs one.0 t u one.2 more one.4 f in
      ap (and_runs M (run M (ws ++ vs))) one.3 ∙ (ap (shown_before M one.1) rest ∙ ap (λ (l : List V). Some (u, l)) (sym (append_assoc one.1 one.2 more) ∙ ap (λ l. l ++ more) one.5))

  pub goes_on : (s t u : M.State) (shown more : List V) → Reaches M s shown t → Reaches M t more u → Reaches M s (shown ++ more) u
  goes_on s t u shown more (ws, e) (vs, f) = (ws ++ vs, then_runs ws vs s t u shown more e f)

  -- where the second shows nothing
  pub goes_on_silent : (s t u : M.State) (shown : List V) → Reaches M s shown t → Reaches M t [] u → Reaches M s shown u
  goes_on_silent s t u shown first second = subst (λ l. Reaches M s l u) (append_none shown) (goes_on s t u shown [] first second)
