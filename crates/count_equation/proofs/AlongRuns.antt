-- A run whose steps are at covered rows or are branches keeps the equation.
use Rattle.std.proofs.Common.{◌≡◌, ◌⊎◌, inl, inr, ℕ, List, [], ◌∷◌, Option, Some, None, refl, subst}
use Rattle.low_forms.specs.declared.code.LowModule.{LowModule}
use Rattle.source_meaning.specs.Values.{maybe}
use Rattle.async_objects.proofs.ListLemmas.{some_is}
use Rattle.own_tables.specs.declared.table.OwnTable.{OwnTable}
use Rattle.own_tables.specs.Owns.{Fits}
use Rattle.step_core.specs.Core.{Core}
use Rattle.step_core.specs.Runs.{step, run}
use Rattle.count_equation.specs.Equation.{Holds}
use Rattle.count_equation.specs.Covers.{Covers, Branches, ParamsOnce}
use Rattle.count_equation.specs.Laws.{CoveredRunsKeep}
use Rattle.count_equation.proofs.Keeps.{covered_keeps}
use Rattle.count_equation.proofs.JumpKeeps.{branches_keep}

one_step : (code : LowModule) (table : OwnTable) → Fits code table → ParamsOnce code → (c next : Core) (t : ℕ) → Holds code table c → Covers code c t ⊎ Branches code c t → step code t c ≡ Some next → Holds code table next
one_step code table fits once c next t holds (inl cov) e = covered_keeps code table fits c next t holds cov e
one_step code table fits once c next t holds (inr cov) e = branches_keep code table fits once c next t holds cov e

on_step : (code : LowModule) (table : OwnTable) (ts : List ℕ) (c last : Core) (t : ℕ) → ((next : Core) → step code t c ≡ Some next → run code ts next ≡ Some last → Holds code table last)
    → (m : Option Core) → step code t c ≡ m → maybe None (run code ts) m ≡ Some last → Holds code table last
on_step code table ts c last t go None is e = cc
on_step code table ts c last t go (Some next) is e = go next is e

pub covered_runs_keep : CoveredRunsKeep
unfolding run
covered_runs_keep code table fits once [] c last holds all e = subst (Holds code table) (some_is c last e) holds
covered_runs_keep code table fits once (t ∷ ts) c last holds all e =
    on_step code table ts c last t (λ next is f. covered_runs_keep code table fits once ts next last (one_step code table fits once c next t holds all.0 is) (all.1 next is) f) (step code t c) refl e
