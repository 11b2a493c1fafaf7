-- Counts of references and objects, after a step that counts.
use Rattle.std.proofs.Common.{◌≡◌, ◌≤◌, ◌<◌, ℕ, zero, suc, ◌+◌, ◌-◌, ◌==◌, nat_lt, Bool, true, false, cond, List, [], ◌∷◌, refl, ap, arith}
use Rattle.std.proofs.lemmas.Bool.Decides.{nat_tests}
use Rattle.ir_forms.specs.declared.runs.ObjNo.{ObjNo}
use Rattle.async_objects.specs.Counts.{count_at, put_count, less, freed}
use Rattle.async_objects.specs.Tables.{Table, changed_to}
use Rattle.task_stack.specs.declared.steps.CountStep.{CountStep}
use Rattle.step_core.specs.Plain.{counting_change}
use Rattle.step_core.specs.Counting.{may_count}

pub put_same : (counts : List ℕ) (o : ℕ) → 0 < count_at counts o → put_count counts o (count_at counts o) ≡ counts
put_same [] o h = absurd (omega (arith, h))
put_same (n ∷ counts) zero h = refl
put_same (n ∷ counts) (suc o) h = ap (λ x. n ∷ x) (put_same counts o h)

less_none : (m : ℕ) → m + 0 - 0 ≡ m
less_none m = omega arith

some_left : (m : ℕ) → 0 < m → (m == 0) ≡ false
some_left m h = grind (arith, nat_tests, h)

-- to drop none changes nothing
pub less_nothing : (t : Table) (o : ObjNo) → 0 < count_at t.counts o.0 → (freed (less o 0 ∷ []) t.counts ≡ []) × (t ≡ changed_to t.objects (less o 0 ∷ []) t)
less_nothing t o h =
    let none : count_at t.counts o.0 + 0 - 0 ≡ count_at t.counts o.0 = less_none (count_at t.counts o.0) in
    (rw (none, some_left (count_at t.counts o.0) h) refl, rw (none, some_left (count_at t.counts o.0) h, put_same t.counts o.0 h) refl)

-- ---- what may be counted is there

first_of : (b rest : Bool) → cond b rest false ≡ true → b ≡ true
first_of true rest e = refl
first_of false rest e = cc

pub may_there : (t : Table) (s : CountStep) → may_count s t ≡ true → 0 < count_at t.counts s.object.0
may_there t s may = let there : nat_lt 0 (count_at t.counts s.object.0) ≡ true = first_of _ _ may in grind (arith, nat_tests, there)

pub count_none : (t : Table) (s : CountStep) → may_count s t ≡ true → s.adds ≡ false → s.n ≤ 0 → t ≡ changed_to t.objects (counting_change s ∷ []) t
count_none t s may a z = let zero : s.n ≡ 0 = omega (arith, z) in rw (a, zero) (less_nothing t s.object (may_there t s may)).1
