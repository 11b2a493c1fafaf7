-- A machine whose shown list is read by a fold, as numbers are read as names. What the reader knows stands beside the state.
use Rattle.std.specs.Prelude.{List, [], ◌∷◌, ◌++◌}
use Rattle.machines.specs.Machine.{Took, Stuck, Idle, Stopped, Takes, Machine}

-- What is known, at the start and after each thing that is shown, and what that reads as.
pub record Reader (V W : Type 0) : Type 1 where
  pub Known : Type 0
  pub first : Known
  pub after : Known → V → Known
  pub reads : Known → V → List W

module _ {V W : Type 0} (R : Reader V W) where
  -- what is known after all these
  abbrev pub known : R.Known → List V → R.Known
  known k [] = k
  known k (v ∷ vs) = known (R.after k v) vs

  -- what they read as
  abbrev pub read : R.Known → List V → List W
  read k [] = []
  read k (v ∷ vs) = R.reads k v ++ read (R.after k v) vs

  abbrev pub taken : {S : Type 0} → R.Known → Took S V → Took (S × R.Known) W
  taken k Stuck = Stuck
  taken k Idle = Idle
  taken k Stopped = Stopped
  taken k (Takes s shown) = Takes (s, known k shown) (read k shown)

-- the machine, read so
abbrev pub Read : {V W E : Type 0} → Reader V W → Machine V E → Machine W E
Read R M = record {
  State = M.State × R.Known;
  Who = M.Who;
  start = (M.start, R.first);
  step = λ s w. taken R s.1 (M.step s.0 w);
  Ended = λ s e. M.Ended s.0 e;
}
