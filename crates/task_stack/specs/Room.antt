-- How many registers a list of them names at most.
use Rattle.std.specs.Prelude.{ℕ, ◌+◌, max, List, [], ◌∷◌}
use Rattle.low_forms.specs.declared.code.Reg.{Reg}

-- with so many registers, each of these is there
abbrev pub room_of : List Reg → ℕ
room_of [] = 0
room_of (r ∷ rs) = max (r.0 + 1) (room_of rs)
