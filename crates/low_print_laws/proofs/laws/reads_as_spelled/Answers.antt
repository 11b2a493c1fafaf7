use Rattle.std.proofs.Common.{Ok}
use Rattle.mlir_print.proofs.Spacing.{reads_whole}
use Rattle.low_print.specs.Printed.{code_doc, printed_code}
use Rattle.low_print_laws.specs.Spelled.{spelled}
use Rattle.low_print_laws.proofs.Spacing.{code_is}
use Rattle.low_print_laws.proofs.laws.reads_as_spelled.Goals as goal

pub returns : goal.returns
returns c code =
    (c.one_reading.ensures (printed_code code) (Ok (spelled code))).0 (reads_whole c.read_back.ensures (code_doc code) (code_is c.lists_each_kind.ensures code))
