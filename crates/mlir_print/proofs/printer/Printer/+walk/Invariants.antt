use Rattle.std.proofs.Common.{◌≡◌, ◌++◌, drop}
use Rattle.mlir_print.specs.Docs.{bytes_of, deeper}
use Rattle.mlir_print.specs.Printed.{printed_regions, printed_lines}
use Rattle.mlir_print.proofs.printer.Printer.+walk.Given as goal

-- the text so far, and what is left, are all
abbrev pub invariant-push_op-loop-place : goal.invariant-push_op-loop-place
invariant-push_op-loop-place l = record {
  text : l.self.text.items ++ bytes_of (printed_regions (drop l.place l.regions) l.op l.place l.indent l.self.last).doc
      ≡ l.initial.self.text.items ++ bytes_of (printed_regions l.regions l.op 0 l.indent l.initial.self.last).doc;
  last : (printed_regions (drop l.place l.regions) l.op l.place l.indent l.self.last).last
      ≡ (printed_regions l.regions l.op 0 l.indent l.initial.self.last).last;
}

abbrev pub invariant-push_region-loop-op : goal.invariant-push_region-loop-op
invariant-push_region-loop-op l = record {
  text : l.self.text.items ++ bytes_of (printed_lines (drop l.op-index l.ops) (deeper l.indent) l.self.last).doc
      ≡ l.initial.self.text.items ++ bytes_of (printed_lines l.ops (deeper l.indent) l.initial.self.last).doc;
  last : (printed_lines (drop l.op-index l.ops) (deeper l.indent) l.self.last).last
      ≡ (printed_lines l.ops (deeper l.indent) l.initial.self.last).last;
}
