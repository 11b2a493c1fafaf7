-- A printed text is UTF-8.
use Rattle.std.proofs.Common.{◌≡◌, [], subst, sym, refl, rules}
use Rattle.std.specs.Str.{IsUtf8}
use Rattle.low_print.specs.Printed.{printed_code}
use Rattle.low_print.proofs.AsciiCode.{code-utf8}
use Rattle.low_print.proofs.print_low.Goals as goal

pub unreachable-requires : goal.unreachable-requires
unreachable-requires c =
    let empty : c.new-text.result.items ≡ [] = search rules in
    let bytes : c.push_funcs.new.text.items ≡ printed_code c.args.code.now = rw (c.in_ok-push_funcs.ensures, empty) refl in
    let failed = c.in-Err.ensures.succeeds (subst IsUtf8 (sym bytes) (code-utf8 c.lists_each_kind.ensures c.args.code.now)) in
    cc failed
