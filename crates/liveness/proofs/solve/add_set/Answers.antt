use Rattle.std.proofs.Common.{◌≡◌, List, Bool, length, sym, ap, ◌∙◌}
use Rattle.bit_sets.specs.Members.{union}
use Rattle.liveness.specs.Flow.{set_at}
use Rattle.liveness.proofs.ListLemmas.{set_read, set_beyond}
use Rattle.liveness.proofs.FlowLemmas.{union_none, length_union}
use Rattle.liveness.proofs.solve.add_set.Goals as goal

pub unite-grows-requires : goal.unite-grows-requires
unite-grows-requires c =
    let read : c.index-sets-block.result ≡ set_at c.args.sets.now c.args.block = set_read c.args.sets.now c.args.block c.index-sets-block.result c.if-block-sets.true c.index-sets-block.is in
    sym (ap (λ (s : List Bool). length s) read ∙ c.requires c.args.block c.if-block-sets.true)

pub returns-then-block-sets : goal.returns-then-block-sets
returns-then-block-sets c =
    let read : c.index-sets-block.result ≡ set_at c.args.sets.now c.args.block = set_read c.args.sets.now c.args.block c.index-sets-block.result c.if-block-sets.true c.index-sets-block.is in
    record {
      union = c.unite-grows.ensures.union ∙ ap (λ (s : List Bool). union c.args.set.now s) read;
      len = ap (λ (s : List Bool). length s) c.unite-grows.ensures.union ∙ length_union c.args.set.now c.index-sets-block.result;
    }

pub returns-else-block-sets-clause-union : goal.returns-else-block-sets-clause-union
returns-else-block-sets-clause-union c =
    sym (ap (λ (s : List Bool). union c.args.set.now s) (set_beyond c.args.sets.now c.args.block c.if-block-sets.false) ∙ union_none c.args.set.now)
