use Rattle.std.proofs.Common.{◌≡◌, ◌≤◌, ◌++◌, ◌∙◌, min, length, sym, ap, arith, append-nil}
use Rattle.step_core.proofs.StartLemmas.{ended}
use Rattle.step_core.proofs.start.argument_buffers.Goals as goal

pub returns : goal.returns
returns c =
    let least = c.min-place-end.ensures in
    let long : length c.as_slice-params.result.now ≡ length c.args.func.now.params = ap length c.as_slice-params.ensures in
    let over : min (length c.args.func.now.params) (length c.args.args.now) ≤ c.loop-place.place = omega (arith, least, long, c.loop-place-test.false) in
    sym (append-nil c.loop-place.buffers) ∙ (ap (λ xs. c.loop-place.buffers ++ xs) (sym (ended c.args.func.now c.loop-place.place c.loop-place.buffer c.args.func.now.params c.args.args.now c.loop-place.place over)) ∙ c.loop-place.invariant.0)
