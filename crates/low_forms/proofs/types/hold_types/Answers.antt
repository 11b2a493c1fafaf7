-- The lists are gone through together.
use Rattle.std.proofs.Common.{◌≡◌, ◌<◌, ◌≤◌, length, true, false, rules, arith}
use Rattle.std.specs.Prelude.{slice_get}
use Rattle.low_forms.specs.Registers.{type_of, on_types}
use Rattle.ir_verify.specs.Types.{holds}
use Rattle.low_forms.proofs.PairLemmas.{differ, fails, goes_on, ends, values_paired}
use Rattle.low_forms.proofs.types.hold_types.Goals as goal

pub returns-then-regs-all : goal.returns-then-regs-all
returns-then-regs-all c = differ (values_paired c.args.func.now) c.args.regs.now c.args.types.now (λ same. search rules)

pub returns-then-not-holds_this : goal.returns-then-not-holds_this
returns-then-not-holds_this c =
    let long : length c.args.regs.now ≡ length c.args.types.now = search rules in
    let inside : c.loop-place.place < length c.args.regs.now = search rules in
    let differs : on_types holds (type_of c.args.func.now (slice_get c.args.regs.now c.loop-place.place)) (slice_get c.args.types.now c.loop-place.place) ≡ false = search rules in
    fails (values_paired c.args.func.now) c.args.regs.now c.args.types.now c.loop-place.place c.loop-place.invariant inside (omega (arith, inside, long)) differs

pub loop-place-preserved : goal.loop-place-preserved
loop-place-preserved c =
    let long : length c.args.regs.now ≡ length c.args.types.now = search rules in
    let inside : c.loop-place.place < length c.args.regs.now = search rules in
    let same : on_types holds (type_of c.args.func.now (slice_get c.args.regs.now c.loop-place.place)) (slice_get c.args.types.now c.loop-place.place) ≡ true = search rules in
    goes_on (values_paired c.args.func.now) c.args.regs.now c.args.types.now c.loop-place.place c.loop-place.invariant inside (omega (arith, inside, long)) same

pub returns : goal.returns
returns c =
    let long : length c.args.regs.now ≡ length c.args.types.now = search rules in
    let past : length c.args.regs.now ≤ c.loop-place.place = search rules in
    ends (values_paired c.args.func.now) c.args.regs.now c.args.types.now c.loop-place.place c.loop-place.invariant past (omega (arith, past, long))
