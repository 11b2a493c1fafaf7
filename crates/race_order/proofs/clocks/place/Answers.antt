use Rattle.std.proofs.Common.{◌≡◌, subst, sym, length, arith}
use Rattle.std.proofs.lemmas.Grind.{common_steps}
use Rattle.race_order.specs.Clocks.{IsPlaced}
use Rattle.race_order.proofs.Trees.{placed_last}
use Rattle.race_order.proofs.clocks.place.Goals as goal

pub returns : goal.returns
returns c =
    let e : c.len-made.result ≡ length c.args.nodes.now.items = grind (arith, common_steps) in
    subst (λ made. IsPlaced c.args.nodes.now.items c.push.new.self.items (c.args.left, c.args.right) made) (sym e) (subst (λ after. IsPlaced c.args.nodes.now.items after (c.args.left, c.args.right) (length c.args.nodes.now.items)) (sym c.in_ok-push.ensures.items) (placed_last c.args.nodes.now.items (c.args.left, c.args.right)))
