-- Operations whose types fit use only what is visible, and the rows of their blocks fit.
use Rattle.half_laws.proofs.Whole.{lowered_well_formed}
use Rattle.typed_rows.proofs.Whole.{typed_is_closed, typed_rows_fit}
use Rattle.closed_laws.specs.Laws.{TypedCodeWellFormed}

pub typed_code_well_formed : TypedCodeWellFormed
typed_code_well_formed program typed small =
    lowered_well_formed program
    (λ k f at. record { closed = typed_is_closed program f (typed k f at); few = (small k f at).few; held = (small k f at).held })
    (typed_rows_fit program typed)
