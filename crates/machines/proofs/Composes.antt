-- Carrying is reflexive and transitive.
use Rattle.machines.specs.Machine.{Machine}
use Rattle.machines.specs.Carries.{Keeps}
use Rattle.machines.specs.Laws.{CarriesItself, CarriesOn, FollowsOn, CarriedFollows}

pub carries_itself : {V E : Type 0} (M : Machine V E) → CarriesItself M
carries_itself M never = (record { never_stuck = never; shows = λ shown s r. (s, r); refines = λ shown e f. f; never_stops = λ h. h }, λ h. h)

keeps_on : {V E : Type 0} (A B C : Machine V E) → Keeps A B → Keeps B C → Keeps A C
keeps_on A B C a b = record {
  never_stuck = a.never_stuck;
  shows = λ shown s r. (let on = a.shows shown s r in b.shows shown on.0 on.1);
  refines = λ shown e f. b.refines shown e (a.refines shown e f);
  never_stops = λ h. a.never_stops (b.never_stops h);
}

pub follows_on : {V E : Type 0} (A B C : Machine V E) → FollowsOn A B C
follows_on A B C ab bc never = let b = bc never in keeps_on A B C (ab b.never_stuck) b

pub carries_on : {V E : Type 0} (A B C : Machine V E) → CarriesOn A B C
carries_on A B C ab bc never =
    let b = bc never in
    let a = ab b.0.never_stuck in
    (keeps_on A B C a.0 b.0, λ h. a.1 (b.1 h))

pub carried_follows : {V E : Type 0} (A B : Machine V E) → CarriedFollows A B
carried_follows A B ab never = (ab never).0
