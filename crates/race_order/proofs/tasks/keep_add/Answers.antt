use Rattle.std.proofs.Common.{◌∙◌, subst, sym, refl}
use Rattle.race_order.specs.Sights.{IsAddedTo}
use Rattle.race_order.proofs.tasks.keep_add.Goals as goal

pub returns-in_ok-push : goal.returns-in_ok-push
returns-in_ok-push c = subst (λ a. IsAddedTo a c.args.own c.args.adds.now c.push.new.self) (sym c.in-Add.is)
    (record { group = c.in_ok-group.group; maker = c.in_ok-maker.maker; adder = c.args.own }, c.in_ok-push.ensures.ok, c.in_ok-group.ensures, c.in_ok-maker.ensures ∙ c.maker.ensures, refl)
