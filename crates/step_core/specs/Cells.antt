-- The cells of buffers, as they are kept.
use Rattle.std.specs.Prelude.{ℕ, List, [], map, slice_get}
use Rattle.ir_forms.specs.declared.runs.Buffer.{Buffer}
use Rattle.ir_forms.specs.declared.runs.Out.{Out}
use Rattle.ir_forms.specs.declared.types.OutTy.{OutTy}
use Rattle.step_core.specs.declared.cells.ArgBuffer.{ArgBuffer}
use Rattle.source_meaning.specs.Values.{or_else}

-- by the buffers' numbers, and so many more buffers take no memory beside their cells
pub record Kept : Type 0 where
  pub buffers : List (List ℕ)
  pub room : ℕ

abbrev pub cells_in : List (List ℕ) → ℕ → List ℕ
cells_in buffers b = or_else [] (slice_get buffers b)

-- ---- what a run gives back

abbrev pub of_type : OutTy → ℕ → Out
of_type ty n = record { ty = ty; bits = n }

abbrev pub buffer_of : List (List ℕ) → ArgBuffer → Buffer
buffer_of buffers a = record { argument = a.argument; cells = map (λ n. of_type a.cell n) (cells_in buffers a.buffer) }
