-- A worked module whose tasks write one cell, the second behind the first: each finished run in any order leaves the number of the second.
use Rattle.std.specs.Prelude.{◌≡◌, List, [], ◌∷◌, Some}
use Rattle.ir_forms.specs.declared.args.ArgValue.{ArgValue}
use Rattle.ir_forms.specs.declared.args.ArgValue.TheVariants as arg
use Rattle.ir_forms.specs.declared.types.OutTy.TheVariants as out
use Rattle.int_ops.specs.declared.Width.TheVariants as wd
use Rattle.meaning_laws.specs.Worked.{ordered_writes_p}
use Rattle.source_meaning.specs.declared.ends.SourceEnd.TheVariants.{Done}
use Rattle.source_meaning.specs.TaskOrder.{Order, IsReached, IsFinished, end_in}

-- one cell of zero
abbrev pub one_cell : List ArgValue
one_cell = arg.Cells (1 ∷ []) (0 ∷ []) ∷ []

abbrev pub OrderedWritesHaveOneEnd : Type 0
OrderedWritesHaveOneEnd = (s : Order) → IsReached ordered_writes_p 0 one_cell s → IsFinished s →
    end_in ordered_writes_p 0 s ≡ Some (Done [] (record { argument = 0; cells = record { ty = out.Int wd.W64; bits = 2 } ∷ [] } ∷ []))
