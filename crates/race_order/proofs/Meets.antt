-- Touches tell which actions clash.
use Rattle.std.proofs.Common.{◌≡◌, ℕ, ◌==◌, Bool, true, false, List, ◌∷◌, Option, Some, refl, sym, ap, ◌∙◌}
use Rattle.std.specs.Prelude.{◌&&◌, ◌||◌}
use Rattle.ir_forms.specs.declared.names.Action.{Action}
use Rattle.ir_forms.specs.declared.names.Action.TheVariants.{Read, Write, Alloc, Create, Add, Launch, Enter, JoinAll, Await, AwaitAll, End}
use Rattle.ir_forms.specs.declared.names.MadeName.{MadeName}
use Rattle.ir_forms.specs.Names.{same_path, same_made}
use Rattle.race_order.specs.Keys.{made_key}
use Rattle.race_order.specs.Race.{clash}
use Rattle.race_order.specs.Touch.{touched}
use Rattle.race_order.proofs.Learn.{key_tells}

-- two touches, or none
abbrev pub meets : Option (List ℕ × Bool) → Option (List ℕ × Bool) → Bool
meets (Some t) (Some u) = same_path t.0 u.0 && (t.1 || u.1)
meets _ _ = false

never : (a : Bool) → false ≡ (a && false)
never true = refl
never false = refl

cells : (b c : MadeName) (i j : ℕ) → (same_made b c && (i == j)) ≡ (((i == j) && same_path (made_key b) (made_key c)) && true)
cells b c i j = ap (λ t. t && (i == j)) (sym (key_tells b c)) ∙ turn (same_path (made_key b) (made_key c)) (i == j) where
  turn : (x y : Bool) → (x && y) ≡ ((y && x) && true)
  turn true true = refl
  turn true false = refl
  turn false true = refl
  turn false false = refl

pub clash_meets : (a b : Action) → clash a b ≡ meets (touched a) (touched b)
clash_meets (Read b i) (Read c j) = never (same_path (0 ∷ i ∷ made_key b) (0 ∷ j ∷ made_key c))
clash_meets (Read b i) (Write c j) = cells b c i j
clash_meets (Read b i) (Alloc c) = refl
clash_meets (Read b i) (Create c) = refl
clash_meets (Read b i) (Add h y used_too) = refl
clash_meets (Read b i) (Launch c) = refl
clash_meets (Read b i) (Enter c j) = refl
clash_meets (Read b i) JoinAll = refl
clash_meets (Read b i) (Await c) = refl
clash_meets (Read b i) (AwaitAll c) = refl
clash_meets (Read b i) (End c) = refl
clash_meets (Write b i) (Read c j) = cells b c i j
clash_meets (Write b i) (Write c j) = cells b c i j
clash_meets (Write b i) (Alloc c) = refl
clash_meets (Write b i) (Create c) = refl
clash_meets (Write b i) (Add h y used_too) = refl
clash_meets (Write b i) (Launch c) = refl
clash_meets (Write b i) (Enter c j) = refl
clash_meets (Write b i) JoinAll = refl
clash_meets (Write b i) (Await c) = refl
clash_meets (Write b i) (AwaitAll c) = refl
clash_meets (Write b i) (End c) = refl
clash_meets (Alloc n) b = refl
clash_meets (Create n) b = refl
clash_meets (Add g x used) (Read c j) = refl
clash_meets (Add g x used) (Write c j) = refl
clash_meets (Add g x used) (Alloc c) = refl
clash_meets (Add g x used) (Create c) = refl
clash_meets (Add g x used) (Add h y used_too) = ap (λ t. t && (used || used_too)) (sym (key_tells g h))
clash_meets (Add g x used) (Launch c) = refl
clash_meets (Add g x used) (Enter c j) = refl
clash_meets (Add g x used) JoinAll = refl
clash_meets (Add g x used) (Await c) = refl
clash_meets (Add g x used) (AwaitAll c) = refl
clash_meets (Add g x used) (End c) = refl
clash_meets (Launch n) b = refl
clash_meets (Enter n m) b = refl
clash_meets JoinAll b = refl
clash_meets (Await n) b = refl
clash_meets (AwaitAll n) b = refl
clash_meets (End n) b = refl
