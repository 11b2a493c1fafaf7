-- Plain code under the numbers of its text.
use Rattle.low_forms.specs.declared.code.LowFunc.{LowFunc}
use Rattle.low_forms.specs.declared.code.LowModule.{LowModule}
use Rattle.low_forms.specs.WellFormed.{IsWellFormed}
use Rattle.register_numbers.specs.Renumbered.{renumbered}
use Rattle.own_tables.specs.Owns.{Owns}
use Rattle.ref_counting.specs.Shape.{counted_func}
use Rattle.owned_laws.specs.Laws.{own_number}
use Rattle.uncounted_laws.specs.Laws.{IsPlainCode}

abbrev pub NumbersKeepPlain : Type 0
NumbersKeepPlain = (f : LowFunc) → IsPlainCode f → IsPlainCode (renumbered f)

abbrev pub NumberedCodeOwns : Type 0
NumberedCodeOwns = (code : LowModule) (f : LowFunc) → IsWellFormed code (renumbered f) → IsPlainCode f → Owns (counted_func (renumbered f)) (own_number (renumbered f))
