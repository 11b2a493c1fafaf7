-- A printed text is UTF-8.
use Rattle.std.proofs.Common.{◌≡◌, subst, sym, refl}
use Rattle.std.specs.Str.{IsUtf8}
use Rattle.mlir_print.specs.Printed.{printed}
use Rattle.mlir_print.proofs.AsciiTexts.{printed-utf8}
use Rattle.mlir_print.proofs.print.Goals as goal

pub unreachable-requires : goal.unreachable-requires
unreachable-requires c =
    let bytes : c.into_text.result.items ≡ printed c.args.program.now =
    rw (c.into_text.ensures, c.in_ok-push_funcs.ensures, c.new-printer.ensures.text, c.new-printer.ensures.last, c.as_slice.ensures) refl in
    let failed = c.in-Err.ensures.succeeds (subst IsUtf8 (sym bytes) (printed-utf8 c.lists_each_kind.ensures c.args.program.now)) in
    cc failed
