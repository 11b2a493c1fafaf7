use Rattle.std.proofs.Common.{◌≡◌, ◌∙◌, sym, false}
use Rattle.async_cli.specs.Inputs.{is_heading}
use Rattle.async_cli.proofs.Places.{below_next}
use Rattle.async_cli.proofs.input.find_heading.Goals as goal

pub loop-at-preserved : goal.loop-at-preserved
loop-at-preserved c =
    below_next (λ at. is_heading c.args.bytes.now at ≡ false) c.loop-at.at c.loop-at.invariant
    (sym c.is_heading.ensures ∙ c.if-is_heading.false)
