-- Where no value is defined twice, each has the number of its place.
use Rattle.std.proofs.Common.{ap, ◌∙◌, arith}
use Rattle.std.proofs.lemmas.List.{length-map}
use Rattle.value_numbers.specs.Numbers.{place_in, values_of, defined_in}
use Rattle.number_laws.specs.Laws.{ValuesInOrder, numbers_from}
use Rattle.number_laws.proofs.Places.{counts, place-distinct}
use Rattle.number_laws.proofs.Trees.{defined-renamed}

pub values_in_order : ValuesInOrder
values_in_order f distinct =
    defined-renamed (place_in (defined_in f)) f
    ∙ counts (place_in (defined_in f)) (defined_in f) 0 (λ i x at. place-distinct (defined_in f) distinct i x at ∙ omega arith)
    ∙ ap (numbers_from 0) (length-map (values_of f) _)
