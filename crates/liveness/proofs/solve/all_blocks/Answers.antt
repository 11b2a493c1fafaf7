use Rattle.std.proofs.Common.{◌≡◌, ◌-◌, ◌++◌, ◌∷◌, [], rules}
use Rattle.liveness.proofs.StateLemmas.{down_on}
use Rattle.liveness.proofs.solve.all_blocks.Goals as goal

pub loop-behind-preserved : goal.loop-behind-preserved
loop-behind-preserved c =
    let is : c.push_back.new.self.items ≡ c.loop-behind.waiting.items ++ (c.args.len - 1 - c.loop-behind.behind) ∷ [] = search rules in
    down_on c.loop-behind.waiting.items c.push_back.new.self.items c.args.len c.loop-behind.behind c.loop-behind-test.true is c.loop-behind.invariant
