-- The lists are gone through together.
use Rattle.std.proofs.Common.{◌≡◌, ◌<◌, ◌≤◌, length, true, false, rules, arith}
use Rattle.std.specs.Prelude.{slice_get}
use Rattle.low_forms.specs.Fits.{same_reg}
use Rattle.low_forms.proofs.PairLemmas.{differ, fails, goes_on, ends, regs_paired}
use Rattle.low_forms.proofs.targets.same_regs.Goals as goal

pub returns-then-regs-others : goal.returns-then-regs-others
returns-then-regs-others c = differ regs_paired c.args.regs.now c.args.others.now (λ same. search rules)

pub returns-then-not-is_same : goal.returns-then-not-is_same
returns-then-not-is_same c =
    let long : length c.args.regs.now ≡ length c.args.others.now = search rules in
    let inside : c.loop-place.place < length c.args.regs.now = search rules in
    let differs : same_reg (slice_get c.args.regs.now c.loop-place.place) (slice_get c.args.others.now c.loop-place.place) ≡ false = search rules in
    fails regs_paired c.args.regs.now c.args.others.now c.loop-place.place c.loop-place.invariant inside (omega (arith, inside, long)) differs

pub loop-place-preserved : goal.loop-place-preserved
loop-place-preserved c =
    let long : length c.args.regs.now ≡ length c.args.others.now = search rules in
    let inside : c.loop-place.place < length c.args.regs.now = search rules in
    let same : same_reg (slice_get c.args.regs.now c.loop-place.place) (slice_get c.args.others.now c.loop-place.place) ≡ true = search rules in
    goes_on regs_paired c.args.regs.now c.args.others.now c.loop-place.place c.loop-place.invariant inside (omega (arith, inside, long)) same

pub returns : goal.returns
returns c =
    let long : length c.args.regs.now ≡ length c.args.others.now = search rules in
    let past : length c.args.regs.now ≤ c.loop-place.place = search rules in
    ends regs_paired c.args.regs.now c.args.others.now c.loop-place.place c.loop-place.invariant past (omega (arith, past, long))
