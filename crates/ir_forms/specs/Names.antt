-- Names of tasks and of what they make.
use Rattle.std.specs.Prelude.{ℕ, ◌==◌, ◌&&◌, Bool, false, List, [], ◌∷◌, ◌++◌}
use Rattle.std.specs.Str.{bytes_eq}
use Rattle.ir_forms.specs.declared.names.MadeName.{MadeName}
use Rattle.ir_forms.specs.declared.names.MadeName.TheVariants.{Argument, Made}
use Rattle.ir_forms.specs.declared.names.ElementName.{ElementName}
use Rattle.ir_forms.specs.declared.names.ElementName.TheVariants.{Token, Value}

-- a task; the root's path is empty
abbrev pub Path : Type 0
Path = List ℕ

-- the task that is launched by the k-th action of p, counted from 1
abbrev pub launched_by : Path → ℕ → Path
launched_by p k = p ++ k ∷ []

-- iteration i, counted from 0, of the parallel loop that is entered by the k-th action of p
abbrev pub iteration_of : Path → ℕ → ℕ → Path
iteration_of p k i = p ++ k ∷ i ∷ []

-- two paths are one
abbrev pub same_path : Path → Path → Bool
same_path p q = bytes_eq p q

-- two names of a buffer or group are one
abbrev pub same_made : MadeName → MadeName → Bool
same_made (Argument j) (Argument k) = j == k
same_made (Made p j) (Made q k) = same_path p q && j == k
same_made _ _ = false

-- the task whose token or value it is
abbrev pub maker : ElementName → Path
maker (Token p) = p
maker (Value p j) = p
