use Rattle.std.proofs.Common.{◌≡◌, ◌≢◌, List, Bool, length, ap, ◌∙◌, subst}
use Rattle.std.specs.Prelude.{slice_set}
use Rattle.std.specs.Bool.{MatchBool}
use Rattle.bit_sets.specs.Members.{union}
use Rattle.liveness.specs.Flow.{set_at}
use Rattle.liveness.proofs.ListLemmas.{set_read}
use Rattle.liveness.proofs.solve.unite_at.Goals as goal

pub unite-requires : goal.unite-requires
unite-requires c =
    ap (λ (s : List Bool). length s) (set_read c.args.sets.now.items c.args.block c.index_mut.result.now c.requires.inside c.index_mut.ensures.value) ∙ c.requires.long

pub returns : goal.returns
returns c =
    let read : c.index_mut.result.now ≡ set_at c.args.sets.now.items c.args.block = set_read c.args.sets.now.items c.args.block c.index_mut.result.now c.requires.inside c.index_mut.ensures.value in
    let joins : c.unite.new.self ≡ union (set_at c.args.sets.now.items c.args.block) c.args.more.now = c.unite.ensures.union ∙ ap (λ (s : List Bool). union s c.args.more.now) read in
    record {
      sets = ap (λ (s : List Bool). slice_set c.args.sets.now.items c.args.block s) joins;
      changes =
          subst (λ (s : List Bool). MatchBool c.unite.result (s ≢ set_at c.args.sets.now.items c.args.block) (s ≡ set_at c.args.sets.now.items c.args.block)) joins
          (subst (λ (s : List Bool). MatchBool c.unite.result (c.unite.new.self ≢ s) (c.unite.new.self ≡ s)) read c.unite.ensures.new);
    }
