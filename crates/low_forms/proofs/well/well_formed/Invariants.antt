use Rattle.low_forms.proofs.WellLemmas.{KeptTo}
use Rattle.low_forms.proofs.well.well_formed.Given as goal

abbrev pub invariant-loop-func : goal.invariant-loop-func
invariant-loop-func l = KeptTo l.code l.func-index
