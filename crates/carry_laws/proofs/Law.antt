-- The laws of agreement.
use Rattle.std.specs.Prelude.{cond, ⊤}
use Rattle.std.specs.List.{find}
use Rattle.std.proofs.Common.{◌≡◌, ℕ, Bool, true, false, List, [], ◌∷◌, Some, subst}
use Rattle.ir_forms.specs.Names.{same_path}
use Rattle.ir_forms.specs.declared.args.ArgValue.{ArgValue}
use Rattle.ir_forms.specs.declared.names.TraceEntry.{TraceEntry}
use Rattle.ir_forms.specs.declared.ops.Module.{Module}
use Rattle.source_meaning.specs.declared.ends.SourceEnd.{SourceEnd}
use Rattle.source_meaning.specs.Tasks.{Program, Task}
use Rattle.source_meaning.specs.World.{World}
use Rattle.source_meaning.specs.Sequential.{IsProgram}
use Rattle.source_meaning.specs.TaskOrder.{Live, Order, IsReached, Each, Finishes}
use Rattle.source_meaning.specs.Runs.{Ends}
use Rattle.carry_laws.specs.Agreement.{IsTaskOf, Agreement}
use Rattle.carry_laws.specs.Laws.{BothWays, Relation, SameEnds, SameFinishes, FollowsEach, SameStates, FollowsIn, SameMeaning}
use Rattle.carry_laws.specs.Instances.{HaveSameRuns, RenamedProgramsRunAlike}
use Rattle.carry_laws.proofs.Asked.{turned}
use Rattle.carry_laws.proofs.Basics.{none≢some, some_inj}
use Rattle.carry_laws.proofs.Fuel.{means_so}
use Rattle.carry_laws.proofs.InOrder.{finishes_so, follows_each}
use Rattle.carry_laws.proofs.Renamed.{renamed_programs_agree}
use Rattle.source_meaning.specs.Renaming.{LikeTask}
use Rattle.carry_laws.proofs.InTurn.{same_end}

module _ (Like : Task → Task → Type 0) (Kept : World → Type 0) (p q : Program) (entry : ℕ) (args : List ArgValue) (A : Agreement Like Kept p q entry args) where
  pub ends_same : (end : SourceEnd) (trace : List TraceEntry) → BothWays (Ends p entry args end trace) (Ends q entry args end trace)
  ends_same end trace = (same_end Like Kept p q entry args A end trace, same_end (λ u t. Like t u) Kept q p entry args (turned Like Kept p q entry args A) end trace)

  pub finishes_same : (trace : List TraceEntry) (end : SourceEnd) → BothWays (Finishes p entry args trace end) (Finishes q entry args trace end)
  finishes_same trace end = (finishes_so Like Kept p q entry args A trace end, finishes_so (λ u t. Like t u) Kept q p entry args (turned Like Kept p q entry args A) trace end)

  pub means_same : (one other : Module) → IsProgram one p → IsProgram other q → FollowsIn one other entry args × FollowsIn other one entry args
  means_same one other a b = (means_so Like Kept one other p q entry args a b A, means_so (λ u t. Like t u) Kept other one q p entry args b a (turned Like Kept p q entry args A))

  pub states_same : FollowsEach p q entry args × FollowsEach q p entry args
  states_same = (follows_each Like Kept p q entry args A, follows_each (λ u t. Like t u) Kept q p entry args (turned Like Kept p q entry args A))

  pub same_runs : (one other : Module) → IsProgram one p → IsProgram other q → HaveSameRuns one other p q entry args
  same_runs one other a b = record { ends = ends_same; finishes = finishes_same; means = means_same one other a b; states = states_same }

pub same_ends : (like : Relation) (kept : World → Type 0) → SameEnds like kept
same_ends like kept p q entry args A = ends_same (like p q) kept p q entry args A

pub same_finishes : (like : Relation) (kept : World → Type 0) → SameFinishes like kept
same_finishes like kept p q entry args A = finishes_same (like p q) kept p q entry args A

pub same_meaning : (like : Relation) (kept : World → Type 0) → SameMeaning like kept
same_meaning like kept one other p q entry args a b A = means_same (like p q) kept p q entry args A one other a b

pub same_states : (like : Relation) (kept : World → Type 0) → SameStates like kept
same_states like kept p q entry args A = states_same (like p q) kept p q entry args A

pub renamed_programs_run_alike : RenamedProgramsRunAlike
renamed_programs_run_alike σ one other p q entry args inj renamed a b = same_runs (LikeTask σ) (λ w. ⊤) p q entry args (renamed_programs_agree σ p q entry args inj renamed) one other a b

-- ---- what holds of all tasks

each_found : (P : Live → Type 0) (test : Live → Bool) (live : List Live) (l : Live) → Each P live → find test live ≡ Some l → P l
each_found P test [] l h e = absurd (none≢some l e)
each_found P test (m ∷ live) l h e = split (test m) e (each_found P test live l h.1) where
  split : (b : Bool) → cond b (Some m) (find test live) ≡ Some l → (find test live ≡ Some l → P l) → P l
  split true k more = subst P (some_inj m l k) h.0
  split false k more = more k

-- what holds of each task in each state that a run comes to, holds of each task that agreement asks for
pub of_each : (P : Task → Type 0) (p : Program) (entry : ℕ) (args : List ArgValue) → ((s : Order) → IsReached p entry args s → Each (λ (l : Live). P l.task) s.live) → (t : Task) → IsTaskOf p entry args t → P t
of_each P p entry args all t h = subst P h.task (each_found (λ l. P l.task) (λ l. same_path l.path h.live.path) h.at.live h.live (all h.at h.reached) h.found)
