-- What else a kind could ask says nothing.
use Rattle.ir_verify.specs.Places.{Spot}
use Rattle.ir_verify.specs.Standing.{place_at}
use Rattle.ir_verify.proofs.BreakLemmas.{from_operands, from_end, from_count, from_callee, from_await, from_types}
use Rattle.ir_verify.proofs.breaks.breaks.Goals as goal

pub returns-in-Undefined : goal.returns-in-Undefined
returns-in-Undefined c = let s : Spot = record { seen = c.args.scope.now; place = place_at c.args.here.now } in from_operands s c.args.kind c.some_operand.result c.in-Undefined.is c.some_operand.ensures

pub returns-in-Terminator : goal.returns-in-Terminator
returns-in-Terminator c = let s : Spot = record { seen = c.args.scope.now; place = place_at c.args.here.now } in
    from_end s c.args.kind c.breaks_at_itself_or_region.result c.in-Terminator.is c.breaks_at_itself_or_region.ensures

pub returns-in-UnknownFunc : goal.returns-in-UnknownFunc
returns-in-UnknownFunc c = let s : Spot = record { seen = c.args.scope.now; place = place_at c.args.here.now } in
    from_callee s c.args.kind c.own_breaks-in-UnknownFunc.result c.in-UnknownFunc.is c.own_breaks-in-UnknownFunc.ensures

pub returns-in-Arity : goal.returns-in-Arity
returns-in-Arity c = let s : Spot = record { seen = c.args.scope.now; place = place_at c.args.here.now } in
    from_count s c.args.kind c.breaks_at_itself_or_region-in-Arity.result c.in-Arity.is c.breaks_at_itself_or_region-in-Arity.ensures

pub returns-in-AsyncInMemref : goal.returns-in-AsyncInMemref
returns-in-AsyncInMemref c = let s : Spot = record { seen = c.args.scope.now; place = place_at c.args.here.now } in
    from_types s c.args.kind c.breaks_at_type-in-AsyncInMemref.result c.in-AsyncInMemref.is c.breaks_at_type-in-AsyncInMemref.ensures

pub returns-in-BlockingAwait : goal.returns-in-BlockingAwait
returns-in-BlockingAwait c = let s : Spot = record { seen = c.args.scope.now; place = place_at c.args.here.now } in
    from_await s c.args.kind c.own_breaks-in-BlockingAwait.result c.in-BlockingAwait.is c.own_breaks-in-BlockingAwait.ensures
