-- A machine that is stuck where something doesn't hold.
use Rattle.std.specs.Prelude.{◌≡◌, cond, Bool, true, List}
use Rattle.machines.specs.Machine.{Stuck, Machine, IsReached}

-- the machine, stuck where a step's needs don't hold
abbrev pub Strictly : {V E : Type 0} → (M : Machine V E) → (M.State → M.Who → Bool) → Machine V E
Strictly M needs = record {
  State = M.State;
  Who = M.Who;
  start = M.start;
  step = λ s w. cond (needs s w) (M.step s w) Stuck;
  Ended = M.Ended;
}

-- the needs hold in each state that is reached
abbrev pub HoldsAlways : {V E : Type 0} → (M : Machine V E) → (M.State → M.Who → Bool) → Type 0
HoldsAlways {V} M needs = (shown : List V) (s : M.State) → IsReached M shown s → (w : M.Who) → needs s w ≡ true
