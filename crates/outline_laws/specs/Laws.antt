-- The functions of a module whose tasks are functions.
use Rattle.std.specs.Prelude.{◌≡◌, ◌<◌, ◌≤◌, ◌^◌, ◌+◌, ℕ, List, [], ◌∷◌, ◌++◌, length, map, Some}
use Rattle.ir_forms.specs.declared.ops.Func.{Func}
use Rattle.ir_forms.specs.declared.ops.Module.{Module}
use Rattle.ir_verify.specs.Names.{first_named}
use Rattle.exec_outline.specs.Shape.{in_order, outlined, outlined_func, task_name}

abbrev pub name_of : Func → List ℕ
name_of f = f.name

-- these have the names of tasks, from this number on
abbrev pub NamedFrom : List Func → ℕ → List Func → Type 0
NamedFrom funcs k [] = Unit {0}
NamedFrom funcs k (t ∷ ts) = (t.name ≡ task_name funcs k) × NamedFrom funcs (k + 1) ts

-- the functions of a module, and those of its tasks
abbrev pub functions_of : Module → List Func
functions_of program = (in_order (map (outlined_func program.funcs) program.funcs) 0).0

abbrev pub tasks_of : Module → List Func
tasks_of program = (in_order (map (outlined_func program.funcs) program.funcs) 0).1

pub record InOrder (program : Module) : Type 0 where
  pub are : (outlined program).funcs ≡ functions_of program ++ tasks_of program
  pub names : map name_of (functions_of program) ≡ map name_of program.funcs
  pub tasks : NamedFrom program.funcs 0 (tasks_of program)

abbrev pub TasksInOrder : Type 0
TasksInOrder = (program : Module) → InOrder program

-- a name finds the function that it found before
abbrev pub FunctionsFound : Type 0
FunctionsFound = (program : Module) (name : List ℕ) (j : ℕ) → first_named program.funcs name ≡ Some j → first_named (outlined program).funcs name ≡ Some j

-- and the name of a task finds it behind all functions
abbrev pub TasksFound : Type 0
TasksFound =
    (program : Module) (k : ℕ) → length (tasks_of program) ≤ 2 ^ 64 → k < length (tasks_of program)
    → first_named (outlined program).funcs (task_name program.funcs k) ≡ Some (length program.funcs + k)
