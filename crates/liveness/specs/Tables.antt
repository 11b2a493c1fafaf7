-- Tables of what is live over edges, one for each function.
use Rattle.std.specs.Prelude.{◌≡◌, ◌<◌, ℕ, List, length, Option, Some, None, slice_get}
use Rattle.low_forms.specs.declared.code.LowFunc.{LowFunc}
use Rattle.low_forms.specs.Edges.{edges}
use Rattle.liveness.specs.declared.table.Table.{Table}
use Rattle.liveness.specs.State.{IsSolution}

-- the edges of the function, and what is live over them
pub record IsTableOf (f : LowFunc) (table : Table) : Type 0 where
  pub targets : table.targets.items ≡ edges f
  pub solution : IsSolution f table.sets.items

abbrev pub IsTableAt : LowFunc → Option Table → Type 0
IsTableAt f None = ⊥
IsTableAt f (Some table) = IsTableOf f table

-- of the first functions
abbrev pub AreTablesTo : List LowFunc → List Table → ℕ → Type 0
AreTablesTo funcs tables n = (k : ℕ) (f : LowFunc) → k < n → slice_get funcs k ≡ Some f → IsTableAt f (slice_get tables k)

abbrev pub AreTables : List LowFunc → List Table → Type 0
AreTables funcs tables = AreTablesTo funcs tables (length funcs)
