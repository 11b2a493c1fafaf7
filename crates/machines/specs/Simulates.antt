-- How a machine is shown to carry another: by a relation of their states that each step keeps.
use Rattle.std.specs.Prelude.{◌≡◌, List, []}
use Rattle.machines.specs.Machine.{Took, Stuck, Idle, Stopped, Takes, Machine, Reaches, IsNotStuck, IsStill}

module _ {V E : Type 0} (A B : Machine V E) (Match : A.State → B.State → Type 0) where
  -- from this state on no step is stuck
  abbrev pub IsSafe : B.State → Type 0
  IsSafe b = (shown : List V) (c : B.State) → Reaches B b shown c → (w : B.Who) → IsNotStuck B (B.step c w)

  -- What B owes for a step of A: for one that is taken steps that show the same, to a state that matches again; for one that a
  -- limit stops, steps that show nothing, to one that a limit stops.
  abbrev pub Owes : Took A.State V → B.State → Type 0
  Owes Stuck b = ⊥
  Owes Idle b = Unit {0}
  Owes Stopped b = (c : B.State) × Reaches B b [] c × ((w : B.Who) × (B.step c w ≡ Stopped))
  Owes (Takes a shown) b = (c : B.State) × Reaches B b shown c × Match a c

  -- where A has ended, B comes to that end and shows nothing more
  abbrev pub Ends : A.State → B.State → Type 0
  Ends a b = (e : E) → A.Ended a e → (c : B.State) × Reaches B b [] c × B.Ended c e

  -- where nobody has anything to do in A, B comes to a state in which nobody has, and A has ended as B has
  abbrev pub Rests : A.State → B.State → Type 0
  Rests a b = IsStill A a → (c : B.State) × Reaches B b [] c × IsStill B c × ((e : E) → B.Ended c e → A.Ended a e)

  pub record Simulates : Type 0 where
    pub starts : Match A.start B.start
    pub follows : (a : A.State) (b : B.State) → Match a b → IsSafe b → (w : A.Who) → Owes (A.step a w) b
    pub ends : (a : A.State) (b : B.State) → Match a b → IsSafe b → Ends a b
    pub rests : (a : A.State) (b : B.State) → Match a b → IsSafe b → Rests a b
