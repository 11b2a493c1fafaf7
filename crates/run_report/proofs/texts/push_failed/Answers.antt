use Rattle.std.proofs.Common.{◌≡◌, ◌++◌, subst}
use Rattle.run_report.specs.Texts.{failed_line}
use Rattle.run_report.proofs.Chains.{three}
use Rattle.run_report.proofs.texts.push_failed.Goals as goal

pub returns : goal.returns
returns c =
    subst (λ n. c.extend_from_slice-2.new.self.items ≡ c.args.text.now.items ++ failed_line n c.args.note.now) c.from.ensures
    (three _ _ _ _ _ _ _ c.in_ok-push_numbered.ensures c.in_ok-extend_from_slice.ensures.items c.in_ok-extend_from_slice-2.ensures.items)
