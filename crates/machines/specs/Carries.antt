-- When a machine carries another: the one form in which a pass owes what it keeps.
use Rattle.std.specs.Prelude.{◌≢◌, List}
use Rattle.machines.specs.Machine.{Machine, Stopped, IsReached, IsNotStuck, IsStill}

module _ {V E : Type 0} (M : Machine V E) where
  -- in each state that is reached, a step that isn't taken is of one who isn't there or waits, or is stopped by a limit
  abbrev pub NeverStuck : Type 0
  NeverStuck = (shown : List V) (s : M.State) → IsReached M shown s → (w : M.Who) → IsNotStuck M (M.step s w)

  -- where nobody has anything to do, the run has ended
  abbrev pub NeverShort : Type 0
  NeverShort = (shown : List V) (s : M.State) → IsReached M shown s → IsStill M s → (e : E) × M.Ended s e

  -- no limit stops a step
  abbrev pub NeverStops : Type 0
  NeverStops = (shown : List V) (s : M.State) → IsReached M shown s → (w : M.Who) → M.step s w ≢ Stopped

-- a finished run shows this and ends so
abbrev pub Finishes : {V E : Type 0} → Machine V E → List V → E → Type 0
Finishes M shown e = (s : M.State) × IsReached M shown s × M.Ended s e

-- each run of A shows what a run of B shows
abbrev pub Shows : {V E : Type 0} → Machine V E → Machine V E → Type 0
Shows {V} A B = (shown : List V) (a : A.State) → IsReached A shown a → (b : B.State) × IsReached B shown b

-- each finished run of A shows what a finished run of B shows, and ends so
abbrev pub Refines : {V E : Type 0} → Machine V E → Machine V E → Type 0
Refines {V} {E} A B = (shown : List V) (e : E) → Finishes A shown e → Finishes B shown e

-- what A keeps of B, where B is never stuck
pub record Keeps {V E : Type 0} (A B : Machine V E) : Type 0 where
  pub never_stuck : NeverStuck A
  pub shows : Shows A B
  pub refines : Refines A B
  pub never_stops : NeverStops B → NeverStops A

-- A follows B: what every pass owes, also one that makes one task do the work of many.
abbrev pub Follows : {V E : Type 0} → Machine V E → Machine V E → Type 0
Follows A B = NeverStuck B → Keeps A B

-- A carries B: it follows it, and isn't short where B isn't.
abbrev pub Carries : {V E : Type 0} → Machine V E → Machine V E → Type 0
Carries A B = NeverStuck B → Keeps A B × (NeverShort B → NeverShort A)
