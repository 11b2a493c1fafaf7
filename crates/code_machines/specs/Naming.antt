-- What holds of names: once given they stay, and different things have different names.
use Rattle.std.specs.Prelude.{◌≡◌, ◌<◌, ℕ, List, [], ◌∷◌, length, Some, slice_get}
use Rattle.ir_forms.specs.declared.args.ArgValue.{ArgValue}
use Rattle.ir_forms.specs.declared.names.MadeName.{MadeName}
use Rattle.ir_forms.specs.Names.{Path}
use Rattle.machines.specs.Reading.{known}
use Rattle.code_machines.specs.Numbered.{Numbered}
use Rattle.code_machines.specs.Paths.{Names, after, taker, paths}

-- the task of this number has this path
abbrev pub HasPath : Names → ℕ → Path → Type 0
HasPath k t p = (n : ℕ) × (slice_get k.tasks t ≡ Some (p, n))

-- what has a name in the first has it in the second
pub record Stay (k later : Names) : Type 0 where
  pub tasks : (t : ℕ) (p : Path) → HasPath k t p → HasPath later t p
  pub groups : (g : ℕ) (n : MadeName) → slice_get k.groups g ≡ Some n → slice_get later.groups g ≡ Some n
  pub buffers : (b : ℕ) (n : MadeName) → slice_get k.buffers b ≡ Some n → slice_get later.buffers b ≡ Some n

-- names stay, whatever is shown
abbrev pub NamesStay : Type 0
NamesStay = (args : List ArgValue) (k : Names) (xs : List Numbered) → Stay k (known (paths args) k xs)

-- no two tasks have one path, and no two groups or buffers one name
pub record Differ (k : Names) : Type 0 where
  pub tasks : (s t : ℕ) (p : Path) → HasPath k s p → HasPath k t p → s ≡ t
  pub groups : (g h : ℕ) (n : MadeName) → slice_get k.groups g ≡ Some n → slice_get k.groups h ≡ Some n → g ≡ h
  pub buffers : (b c : ℕ) (n : MadeName) → slice_get k.buffers b ≡ Some n → slice_get k.buffers c ≡ Some n → b ≡ c

-- each of these is taken by a task that was launched before
abbrev pub AreTaken : Names → List Numbered → Type 0
AreTaken k [] = Unit {0}
AreTaken k (x ∷ xs) = (taker x < length k.tasks) × AreTaken (after k x) xs

-- names of different things differ, where it is tasks that take what is shown
abbrev pub NamesDiffer : Type 0
NamesDiffer = (args : List ArgValue) (xs : List Numbered) → AreTaken (paths args).first xs → Differ (known (paths args) (paths args).first xs)
