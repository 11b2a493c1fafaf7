-- The numbers of an ownership table.
use Rattle.std.specs.Prelude.{ℕ, zero, suc, ◌==◌, if◌then◌else◌, List, [], ◌∷◌}
use Rattle.own_tables.specs.declared.table.Owned.{Owned}
use Rattle.own_tables.specs.declared.table.OwnTable.{OwnTable}

-- the k-th list; one that is missing is empty
abbrev pub entries : {A : Type 0} → List (List A) → ℕ → List A
entries [] k = []
entries (xs ∷ lists) zero = xs
entries (xs ∷ lists) (suc k) = entries lists k

-- the number of a register; the first one counts
abbrev pub number_in : List Owned → ℕ → ℕ
number_in [] r = 0
number_in (o ∷ os) r = if o.reg.0 == r then o.count else number_in os r

-- in a function, at a place of a block
abbrev pub number_of : OwnTable → ℕ → ℕ → ℕ → ℕ → ℕ
number_of table func block place r = number_in (entries (entries (entries table.funcs func) block) place) r
