use Rattle.std.proofs.Common.{◌≡◌, drop}
use Rattle.check_insert.specs.Shape.{check_products_from}
use Rattle.check_insert.proofs.sizes.check_products.Given as goal

abbrev pub invariant-loop-number : goal.invariant-loop-number
invariant-loop-number l =
    check_products_from l.text l.limit l.product (drop l.number-index l.rest) l.made
    ≡ check_products_from l.text l.limit l.initial.product l.rest l.initial.made
