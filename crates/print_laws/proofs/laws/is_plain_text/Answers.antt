use Rattle.mlir_print.proofs.AsciiTexts.{printed-utf8}
use Rattle.print_laws.proofs.laws.is_plain_text.Goals as goal

pub returns : goal.returns
returns c = printed-utf8 c.lists_each_kind.ensures
