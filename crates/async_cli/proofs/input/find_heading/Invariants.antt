use Rattle.std.proofs.Common.{◌≡◌, ℕ, ◌<◌, false}
use Rattle.async_cli.specs.Inputs.{is_heading}
use Rattle.async_cli.proofs.input.find_heading.Given as goal

-- no line before this place is the heading
abbrev pub invariant-loop-at : goal.invariant-loop-at
invariant-loop-at l = (before : ℕ) → before < l.at → is_heading l.bytes before ≡ false
