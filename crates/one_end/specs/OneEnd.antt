-- One end for every order of tasks.
use Rattle.std.specs.Prelude.{◌≡◌, ℕ, ◌++◌}
use Rattle.ir_forms.specs.declared.names.MadeName.{MadeName}
use Rattle.ir_forms.specs.Names.{Path}
use Rattle.one_end.specs.Programs.{Program}
use Rattle.one_end.specs.Runs.{Log, history, outcome, cell, IsRun, IsFinished, IsEnabled, trace_of}
use Rattle.race_order.specs.Race.{IsOrdered}

-- What holds of a run beside a finished and ordered one: what each task did is how it begins there, a run that isn't
-- finished goes on, and a finished one has the same end.
pub record Agrees {D V : Type 0} (program : Program D V) (whole log : Log D V) : Type 0 where
  pub histories : (p : Path) → (more : Log D V) × (history whole p ≡ more ++ history log p)
  pub goes_on : (IsFinished program log → ⊥) → (p : Path) × IsEnabled program log p
  pub one_end : IsFinished program log → (p : Path) → outcome log p ≡ outcome whole p
  pub one_memory : IsFinished program log → (b : MadeName) (i : ℕ) → cell program log b i ≡ cell program whole b i

-- a finished run of the program whose trace is ordered agrees with every run
abbrev pub OneEndOf : (D V : Type 0) → Program D V → Type 0
OneEndOf D V program = (whole : Log D V) → IsRun program whole → IsFinished program whole → IsOrdered (trace_of whole) →
    (log : Log D V) → IsRun program log → Agrees program whole log

-- so it is for each program
abbrev pub OneEnd : (D V : Type 0) → Type 0
OneEnd D V = (program : Program D V) → OneEndOf D V program
