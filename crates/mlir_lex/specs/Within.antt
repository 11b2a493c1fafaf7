-- Lengths of what stands at the front of a text.
use Rattle.std.specs.Prelude.{◌<◌, ◌≤◌, ℕ, List, length}
use Rattle.mlir_lex.specs.declared.scan.Item.{Item}
use Rattle.mlir_lex.specs.declared.scan.Item.TheVariants.{Gap, Piece, OpenString, BadByte}

-- the item has a byte, and no more than the text
abbrev pub IsWithin : List ℕ → Item → Type 0
IsWithin text (Gap n) = (0 < n) × (n ≤ length text)
IsWithin text (Piece kind n) = (0 < n) × (n ≤ length text)
IsWithin text OpenString = Unit {0}
IsWithin text BadByte = Unit {0}
