-- A list whose elements are written anew.
use Rattle.std.specs.Prelude.{List, ◌++◌, length, take, drop}

-- other elements in place of these, from the first on: as many as there were
abbrev pub refilled : {A : Type 0} → List A → List A → List A
refilled old new = take (length old) (new ++ drop (length new) old)
