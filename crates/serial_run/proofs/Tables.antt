-- Tasks that are counted and looked for one by one.
use Rattle.std.proofs.Common.{◌≡◌, ℕ, zero, suc, ◌+◌, ◌<◌, ◌≤◌, true, false, List, [], ◌∷◌, length, take, Option, Some, None, is_some, option_copied, Bor, refl, sym, ap, ◌∙◌, inl, inr, arith, add-one}
use Rattle.std.proofs.lemmas.Bool.{cases_lt}
use Rattle.std.proofs.lemmas.Option.{slice_get_past}
use Rattle.source_meaning.specs.Values.{or_else}
use Rattle.step_core.specs.declared.tasks.Task.{Task}
use Rattle.step_core.specs.State.{live_tasks}
use Rattle.step_core.specs.Tasks.{in_table, IsIdle}
use Rattle.step_core.proofs.Live.{idle_none}

more_live : (tasks : List (Option Task)) (k : ℕ) (x : Task) → in_table tasks k ≡ Some x → live_tasks (take (suc k) tasks) ≡ live_tasks (take k tasks) + 1
more_live [] zero x is = absurd (cc)
more_live [] (suc k) x is = absurd (cc)
more_live (Some y ∷ tasks) zero x is = refl
more_live (None ∷ tasks) zero x is = absurd (cc)
more_live (Some y ∷ tasks) (suc k) x is = ap (λ n. n + 1) (more_live tasks k x is)
more_live (None ∷ tasks) (suc k) x is = more_live tasks k x is

same_live : (tasks : List (Option Task)) (k : ℕ) → in_table tasks k ≡ None → live_tasks (take (suc k) tasks) ≡ live_tasks (take k tasks)
same_live [] zero is = refl
same_live [] (suc k) is = refl
same_live (Some y ∷ tasks) zero is = absurd (cc)
same_live (None ∷ tasks) zero is = refl
same_live (Some y ∷ tasks) (suc k) is = ap (λ n. n + 1) (same_live tasks k is)
same_live (None ∷ tasks) (suc k) is = same_live tasks k is

pub one_more : (tasks : List (Option Task)) (k : ℕ) (x : Task) → in_table tasks k ≡ Some x → live_tasks (take (k + 1) tasks) ≡ live_tasks (take k tasks) + 1
one_more tasks k x is = ap (λ n. live_tasks (take n tasks)) (add-one k) ∙ more_live tasks k x is

pub none_more : (tasks : List (Option Task)) (k : ℕ) → in_table tasks k ≡ None → live_tasks (take (k + 1) tasks) ≡ live_tasks (take k tasks)
none_more tasks k is = ap (λ n. live_tasks (take n tasks)) (add-one k) ∙ same_live tasks k is

-- one task more is counted where it is found
pub some_counted : (tasks : List (Option Task)) (k live new : ℕ) (found : Option (Bor Task)) → option_copied found ≡ in_table tasks k → is_some found ≡ true →
    (live ≡ live_tasks (take k tasks)) × (live ≤ k) → new ≡ live + 1 → (new ≡ live_tasks (take (k + 1) tasks)) × (new ≤ k + 1)
some_counted tasks k live new (Some x) there on so more = (more ∙ (ap (λ n. n + 1) so.0 ∙ sym (one_more tasks k x.now (sym there))), omega (arith, so.1, more))
some_counted tasks k live new None there on so more = absurd (cc)

pub none_counted : (tasks : List (Option Task)) (k live new : ℕ) (found : Option (Bor Task)) → option_copied found ≡ in_table tasks k → is_some found ≡ false →
    (live ≡ live_tasks (take k tasks)) × (live ≤ k) → new ≡ live → (new ≡ live_tasks (take (k + 1) tasks)) × (new ≤ k + 1)
none_counted tasks k live new (Some x) there none so same = absurd (cc)
none_counted tasks k live new None there none so same = (same ∙ (so.0 ∙ sym (none_more tasks k (sym there))), omega (arith, so.1, same))

pub all_live : (tasks : List (Option Task)) (n : ℕ) → length tasks ≤ n → live_tasks (take n tasks) ≡ live_tasks tasks
all_live [] zero most = refl
all_live [] (suc n) most = refl
all_live (x ∷ tasks) zero most = absurd (omega (arith, most))
all_live (Some x ∷ tasks) (suc n) most = ap (λ k. k + 1) (all_live tasks n (omega (arith, most)))
all_live (None ∷ tasks) (suc n) most = all_live tasks n (omega (arith, most))

-- none of the first n tasks is ready, and there are no more
pub all_idle : (tasks : List (Option Task)) (n : ℕ) → ((t : ℕ) → t < n → IsIdle tasks t) → length tasks ≤ n → (t : ℕ) → IsIdle tasks t
all_idle tasks n below most t = elim (cases_lt t n) [ inl low ↦ below t low | inr high ↦ idle_none tasks t (ap (or_else None) (slice_get_past tasks t (omega (arith, most, high)))) ]
