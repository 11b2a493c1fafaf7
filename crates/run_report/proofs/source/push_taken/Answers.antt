use Rattle.std.proofs.Common.{◌≡◌, ◌++◌, ap, ◌∙◌}
use Rattle.run_report.specs.Source.{path_text}
use Rattle.run_report.proofs.Chains.{five}
use Rattle.run_report.proofs.source.push_taken.Goals as goal

pub returns : goal.returns
returns c =
    five _ _ _ _ _ _ _ _ _ _ _ c.in_ok-push_numbered.ensures
    (c.in_ok-push_path.ensures ∙ ap (λ path. c.push_numbered.new.text.items ++ path_text path) c.as_slice.ensures)
    c.in_ok-extend_from_slice.ensures.items c.in_ok-push_action.ensures c.in_ok-extend_from_slice-2.ensures.items
