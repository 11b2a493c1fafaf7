-- What a map of places gives a number.
use Rattle.std.specs.Prelude.{ℕ, nat_eq, unwrap_or}
use Rattle.indexmap.specs.IndexMap.{IndexMap, get}
use Rattle.std.specs.declared.hash.FoldHasher.{FoldHasher}
use Rattle.std.specs.declared.hash.BuildHasherDefault.{BuildHasherDefault}
use Rattle.value_numbers.specs.Numbers.{unknown}

-- the number's place, or the unknown value's number
abbrev pub place_at : IndexMap ℕ ℕ (BuildHasherDefault FoldHasher) → ℕ → ℕ
place_at places x = unwrap_or (get nat_eq places x) unknown
