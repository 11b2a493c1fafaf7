use Rattle.ir_forms.proofs.NumberLaws.{numbers_in_order_lem}
use Rattle.ir_forms.proofs.laws.numbers_in_order.Goals as goal

pub returns : goal.returns
returns c = numbers_in_order_lem
