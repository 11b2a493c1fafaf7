use Rattle.ir_forms.proofs.NumberLaws.{numbers_alone_lem}
use Rattle.ir_forms.proofs.laws.numbers_alone.Goals as goal

pub returns : goal.returns
returns c = numbers_alone_lem
