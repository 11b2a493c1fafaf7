use Rattle.mlir_print.proofs.Taking.{takes_doc}
use Rattle.low_print.specs.Printed.{code_doc}
use Rattle.low_print_laws.proofs.laws.takes_words.Goals as goal

pub returns : goal.returns
returns c code = takes_doc (code_doc code)
