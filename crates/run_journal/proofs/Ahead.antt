-- How many steps a stack can take alone.
use Rattle.std.proofs.Common.{◌≡◌, ℕ, zero, suc, ◌+◌, ◌-◌, ◌<◌, ◌≤◌, ◌⊎◌, inl, inr, subst, sym, Option, refl, ap, ◌∙◌, arith}
use Rattle.low_forms.specs.declared.code.LowModule.{LowModule}
use Rattle.task_stack.specs.declared.steps.CountStep.{CountStep}
use Rattle.task_stack.specs.declared.steps.LocalStep.{LocalStep}
use Rattle.task_stack.specs.declared.steps.LocalStep.TheVariants as step
use Rattle.task_stack.specs.Frames.{Stack}
use Rattle.task_stack.specs.Local.{Local, Done, Shared, Stuck, Deep, local_step, IsLocal}
use Rattle.step_core.specs.Runs.{longest_burst}
use Rattle.run_journal.specs.Replay.{one_ahead, local_ahead}

more_ahead : (code : LowModule) (n : ℕ) (stack next : Stack) (counts : Option CountStep) → local_step code stack ≡ Done next counts →
    local_ahead code (suc n) stack ≡ local_ahead code n next + 1
unfolding local_ahead
more_ahead code n stack next counts is = ap (one_ahead (local_ahead code n)) is

-- the stack takes no step
abbrev pub Halts : Local → Type 0
Halts (Done next counts) = ⊥
Halts Shared = Unit {0}
Halts Stuck = Unit {0}
Halts Deep = Unit {0}

pub halted : (answer : LocalStep) (old new : Stack) (l : Local) → (answer ≡ step.Shared) ⊎ ((answer ≡ step.Stuck) ⊎ (answer ≡ step.Deep)) → IsLocal answer old new l → Halts l
halted answer old new l (inl same) is = let here : IsLocal step.Shared old new l = subst (λ a. IsLocal a old new l) same is in subst Halts (sym here.0) tt
halted answer old new l (inr (inl same)) is = let here : IsLocal step.Stuck old new l = subst (λ a. IsLocal a old new l) same is in subst Halts (sym here.0) tt
halted answer old new l (inr (inr same)) is = let here : IsLocal step.Deep old new l = subst (λ a. IsLocal a old new l) same is in subst Halts (sym here.0) tt

none_by : (code : LowModule) (n : ℕ) (l : Local) → Halts l → one_ahead (local_ahead code n) l ≡ 0
none_by code n (Done next counts) halts = absurd halts
none_by code n Shared halts = refl
none_by code n Stuck halts = refl
none_by code n Deep halts = refl

none_ahead : (code : LowModule) (n : ℕ) (stack : Stack) → Halts (local_step code stack) → local_ahead code n stack ≡ 0
unfolding local_ahead
none_ahead code zero stack halts = refl
none_ahead code (suc n) stack halts = none_by code n (local_step code stack) halts

zero_ahead : (code : LowModule) (stack : Stack) → local_ahead code 0 stack ≡ 0
unfolding local_ahead
zero_ahead code stack = refl

-- ---- the loop that takes them

abbrev pub IsAhead : LowModule → Stack → Stack → ℕ → Type 0
IsAhead code start now taken = local_ahead code longest_burst start ≡ local_ahead code (longest_burst - taken) now + taken

pub ahead_first : (code : LowModule) (start : Stack) → IsAhead code start start 0
ahead_first code start = omega arith

pub ahead_next : (code : LowModule) (start now next : Stack) (counts : Option CountStep) (taken : ℕ) → IsAhead code start now taken → taken < longest_burst →
    local_step code now ≡ Done next counts → IsAhead code start next (taken + 1)
ahead_next code start now next counts taken so below is =
    let left : longest_burst - taken ≡ suc (longest_burst - (taken + 1)) = omega (arith, below) in
    let one : local_ahead code (longest_burst - taken) now ≡ local_ahead code (longest_burst - (taken + 1)) next + 1 =
    ap (λ n. local_ahead code n now) left ∙ more_ahead code (longest_burst - (taken + 1)) now next counts is in
    omega (arith, so, one)

pub ahead_ends : (code : LowModule) (start now : Stack) (taken : ℕ) → IsAhead code start now taken → Halts (local_step code now) → taken ≡ local_ahead code longest_burst start
ahead_ends code start now taken so halts = let none = none_ahead code (longest_burst - taken) now halts in omega (arith, so, none)

pub ahead_whole : (code : LowModule) (start now : Stack) (taken : ℕ) → IsAhead code start now taken → longest_burst ≤ taken → taken ≤ longest_burst →
    longest_burst ≡ local_ahead code longest_burst start
ahead_whole code start now taken so high low =
    let none : longest_burst - taken ≡ 0 = omega (arith, high) in
    let last : local_ahead code (longest_burst - taken) now ≡ 0 = ap (λ n. local_ahead code n now) none ∙ zero_ahead code now in
    omega (arith, so, last, high, low)
