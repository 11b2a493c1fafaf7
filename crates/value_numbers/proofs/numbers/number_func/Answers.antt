use Rattle.std.proofs.Common.{◌++◌, ap, ◌∙◌}
use Rattle.value_numbers.specs.Numbers.{values_of}
use Rattle.value_numbers.proofs.PlaceLemmas.{numbered-by}
use Rattle.value_numbers.proofs.numbers.number_func.Goals as goal

pub returns-clause-numbers : goal.returns-clause-numbers
returns-clause-numbers c =
    numbered-by c.args.func.now c.rename_func.new.func c.in_ok-places.places c.deref.result.now
    c.rename_func.ensures
    (c.deref.ensures.value ∙ c.in_ok-collect_func.ensures ∙ ap (λ vs. vs ++ values_of c.args.func.now) c.new-values.ensures.items)
    c.in_ok-places.ensures.places
