use Rattle.std.proofs.Common.{Ok}
use Rattle.mlir_print.specs.Printed.{module_doc, printed}
use Rattle.mlir_print.specs.Spelled.{spelled}
use Rattle.mlir_print.proofs.Spacing.{reads_whole}
use Rattle.mlir_print.proofs.TextSpacing.{module_is}
use Rattle.mlir_print.proofs.laws.reads_as_spelled.Goals as goal

pub returns : goal.returns
returns c m = (c.one_reading.ensures (printed m) (Ok (spelled m))).0 (reads_whole c.read_back.ensures (module_doc m) (module_is c.lists_each_kind.ensures m))
