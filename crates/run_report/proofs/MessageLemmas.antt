-- The messages of operations by their layers.
use Rattle.std.proofs.Common.{◌≡◌, ℕ, List, map, Option}
use Rattle.ir_forms.specs.declared.ops.Op.{Op}
use Rattle.ir_forms.specs.declared.ops.Op.TheFolds.{fold_out-Op, fold_out-Region}
use Rattle.ir_forms.specs.declared.ops.Region.{Region}
use Rattle.ir_forms.specs.Ops.{kind_of, attr_of, regions_of, ops_of}
use Rattle.run_report.specs.Messages.{own_message, number_of, or_later, first_of, message_here, message_under, message_at, message_in}

pub message_at_out : (number : ℕ) (op : Op) → message_at number op ≡ or_later (own_message number (number_of op) (kind_of op) (attr_of op)) (first_of (map (message_in number) (regions_of op)))
unfolding message_at message_in
message_at_out number op = fold_out-Op (Option (List ℕ)) (Option (List ℕ)) (message_here number) message_under op

pub message_in_out : (number : ℕ) (region : Region) → message_in number region ≡ first_of (map (message_at number) (ops_of region))
unfolding message_at message_in
message_in_out number region = fold_out-Region (Option (List ℕ)) (Option (List ℕ)) (message_here number) message_under region
