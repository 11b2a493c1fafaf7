-- What simulates carries.
use Rattle.std.proofs.Common.{◌≡◌, List, [], ◌∷◌, ◌++◌, Some, subst}
use Rattle.machines.specs.Machine.{Took, Stuck, Idle, Stopped, Takes, Machine, run, Reaches, IsReached, IsNotStuck}
use Rattle.machines.specs.Simulates.{IsSafe, Owes, Simulates}
use Rattle.machines.specs.Laws.{SimulationCarries}
use Rattle.machines.proofs.Runs.{no_steps, stays, more_steps, goes_on, goes_on_silent}

module _ {V E : Type 0} (A B : Machine V E) (Match : A.State → B.State → Type 0) where
  -- what is reached from a safe state is safe
  safe_on : (b c : B.State) (shown : List V) → IsSafe A B Match b → Reaches B b shown c → IsSafe A B Match c
  safe_on b c shown safe r more d r' w = safe (shown ++ more) d (goes_on B b c d shown more r r') w

  walk : Simulates A B Match → (ws : List A.Who) (a : A.State) (b : B.State) → Match a b → IsSafe A B Match b → (a' : A.State) (shown : List V) → run A ws a ≡ Some (a', shown) → (c : B.State) × Reaches B b shown c × Match a' c
  unfolding run
  walk sim [] a b m safe a' shown e =
      let none = no_steps a a' shown e in
      (b, subst (λ l. Reaches B b l b) none.1 (stays B b), subst (λ x. Match x b) none.0 m)
  walk sim (w ∷ ws) a b m safe a' shown e =
      let one = more_steps A ws (A.step a w) a' shown e in
      let on = subst (λ k. Owes A B Match k b) one.3 (sim.follows a b m safe w) in
      let rest = walk sim ws one.0 on.0 on.2 (safe_on b on.0 one.1 safe on.1) a' one.2 one.4 in
      (rest.0, subst (λ l. Reaches B b l rest.0) one.5 (goes_on B b on.0 rest.0 one.1 one.2 on.1 rest.1), rest.2)

  not_stuck : (k : Took A.State V) (b : B.State) → Owes A B Match k b → IsNotStuck A k
  not_stuck Stuck b f = f
  not_stuck Idle b f = tt
  not_stuck Stopped b f = tt
  not_stuck (Takes a shown) b f = tt

  pub simulation_carries : SimulationCarries A B Match
  simulation_carries sim never =
      let safe : IsSafe A B Match B.start = never in
      let reached : (shown : List V) (a : A.State) → IsReached A shown a → (b : B.State) × IsReached B shown b × Match a b = λ shown a r. walk sim r.0 A.start B.start sim.starts safe a shown r.1 in (
        record {
          never_stuck = λ shown a r w. (let on = reached shown a r in not_stuck (A.step a w) on.0 (sim.follows a on.0 on.2 (safe_on B.start on.0 shown safe on.1) w));
          shows = λ shown a r. (let on = reached shown a r in (on.0, on.1));
          refines = λ shown e f. (
              let on = reached shown f.0 f.1 in
              let end = sim.ends f.0 on.0 on.2 (safe_on B.start on.0 shown safe on.1) e f.2 in
              (end.0, goes_on_silent B B.start on.0 end.0 shown on.1 end.1, end.2));
          never_stops = λ runs_on shown a r w stop. (
              let on = reached shown a r in
              let stops = subst (λ k. Owes A B Match k on.0) stop (sim.follows a on.0 on.2 (safe_on B.start on.0 shown safe on.1) w) in
              runs_on shown stops.0 (goes_on_silent B B.start on.0 stops.0 shown on.1 stops.1) stops.2.0 stops.2.1);
        },
        λ short shown a r still. (
            let on = reached shown a r in
            let rest = sim.rests a on.0 on.2 (safe_on B.start on.0 shown safe on.1) still in
            let end = short shown rest.0 (goes_on_silent B B.start on.0 rest.0 shown on.1 rest.1) rest.2 in
            (end.0, rest.3 end.0 end.1)),
      )
