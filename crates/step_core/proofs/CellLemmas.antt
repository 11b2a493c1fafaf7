-- How many cells there are, after a buffer more and after a change of a cell.
use Rattle.std.proofs.Common.{◌≡◌, ℕ, zero, suc, ◌+◌, List, [], ◌∷◌, ◌++◌, length, slice_set, refl, ap, arith}
use Rattle.std.proofs.lemmas.List.{length-set}
use Rattle.step_core.specs.State.{cells_used}
use Rattle.step_core.specs.Cells.{cells_in}

pub cells_push : (buffers : List (List ℕ)) (cells : List ℕ) → cells_used (buffers ++ cells ∷ []) ≡ cells_used buffers + length cells
cells_push [] cells = omega arith
cells_push (b ∷ buffers) cells = let more : cells_used (buffers ++ cells ∷ []) ≡ cells_used buffers + length cells = cells_push buffers cells in omega (arith, more)

pub cells_set : (buffers : List (List ℕ)) (b c n : ℕ) → cells_used (slice_set buffers b (slice_set (cells_in buffers b) c n)) ≡ cells_used buffers
cells_set [] zero c n = refl
cells_set [] (suc b) c n = refl
cells_set (cells ∷ buffers) zero c n = ap (λ l. l + cells_used buffers) (length-set cells c n)
cells_set (cells ∷ buffers) (suc b) c n = ap (λ l. length cells + l) (cells_set buffers b c n)
