-- The laws.
use Rattle.std.specs.Prelude.{◌≡◌, Bool, List}
use Rattle.machines.specs.Machine.{Machine, IsReached}
use Rattle.machines.specs.Carries.{Follows, Carries}
use Rattle.machines.specs.Simulates.{Simulates}
use Rattle.machines.specs.Strict.{Strictly, HoldsAlways}
use Rattle.machines.specs.Reading.{Reader, known, read, Read}

-- a machine carries itself
abbrev pub CarriesItself : {V E : Type 0} → Machine V E → Type 0
CarriesItself M = Carries M M

-- what carries what carries a third carries the third
abbrev pub CarriesOn : {V E : Type 0} → Machine V E → Machine V E → Machine V E → Type 0
CarriesOn A B C = Carries A B → Carries B C → Carries A C

-- what follows what follows a third follows the third
abbrev pub FollowsOn : {V E : Type 0} → Machine V E → Machine V E → Machine V E → Type 0
FollowsOn A B C = Follows A B → Follows B C → Follows A C

-- what carries follows
abbrev pub CarriedFollows : {V E : Type 0} → Machine V E → Machine V E → Type 0
CarriedFollows A B = Carries A B → Follows A B

-- what simulates carries
abbrev pub SimulationCarries : {V E : Type 0} → (A B : Machine V E) → (A.State → B.State → Type 0) → Type 0
SimulationCarries A B match = Simulates A B match → Carries A B

-- a machine that is read reaches what the machine reaches, with the list as it is read
abbrev pub ReadReaches : {V W E : Type 0} → Reader V W → Machine V E → Type 0
ReadReaches {V} {W} R M =
    ((shown : List V) (s : M.State) → IsReached M shown s → IsReached (Read R M) (read R R.first shown) (s, known R R.first shown)) ×
    ((shown : List W) (s : M.State × R.Known) → IsReached (Read R M) shown s → (those : List V) × IsReached M those s.0 × (known R R.first those ≡ s.1) × (read R R.first those ≡ shown))

-- machines that are read alike carry as before
abbrev pub ReadCarries : {V W E : Type 0} → Reader V W → Machine V E → Machine V E → Type 0
ReadCarries R A B = Carries A B → Carries (Read R A) (Read R B)

-- a machine that asks for what always holds carries the one that doesn't ask
abbrev pub StrictCarries : {V E : Type 0} → (M : Machine V E) → (M.State → M.Who → Bool) → Type 0
StrictCarries M needs = HoldsAlways M needs → Carries (Strictly M needs) M
