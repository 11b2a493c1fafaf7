use Rattle.std.proofs.Common.{◌≡◌, map, drop}
use Rattle.run_report.specs.Messages.{first_of, message_at, message_in}
use Rattle.run_report.proofs.messages.+messages.Given as goal

abbrev pub invariant-message_at-loop-region : goal.invariant-message_at-loop-region
invariant-message_at-loop-region l = first_of (map (message_in l.number) (drop l.region-index l.region-items)) ≡ message_at l.number l.op

abbrev pub invariant-message_in-loop-op : goal.invariant-message_in-loop-op
invariant-message_in-loop-op l = first_of (map (message_at l.number) (drop l.op-index l.op-items)) ≡ message_in l.number l.region
