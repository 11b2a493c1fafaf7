use Rattle.std.proofs.Common.{◌<◌, length, arith}
use Rattle.value_numbers.specs.Numbers.{HasNumbers, numbered_values}
use Rattle.value_numbers.proofs.InTurn.{whole-more, rest-more, within-more, within-all}
use Rattle.value_numbers.proofs.numbers.number_funcs.Goals as goal

pub loop-i-preserved : goal.loop-i-preserved
loop-i-preserved c =
    let funcs = c.loop-i.funcs in
    let first = c.args.funcs.now in
    let i = c.loop-i.i in
    let old = c.index-funcs-i.result in
    let new = c.number_func.new.func in
    record {
      whole = whole-more numbered_values funcs first i old new (omega arith) c.in_ok-number_func.ensures.numbers c.loop-i.invariant.whole;
      rest = rest-more funcs first i new c.loop-i.invariant.rest;
      within =
          (let less : i < length first = c.loop-i-test.true in
          let holds = c.in_ok-number_func.ensures.within in
          within-more HasNumbers funcs first i old c.loop-i.invariant.rest less holds c.loop-i.invariant.within);
    }

pub returns-clause-within : goal.returns-clause-within
returns-clause-within c = within-all HasNumbers c.args.funcs.now c.loop-i.i (omega arith) c.loop-i.invariant.within
