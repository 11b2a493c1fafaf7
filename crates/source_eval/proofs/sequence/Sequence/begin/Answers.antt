use Rattle.std.proofs.Common.{◌+◌, ◌∷◌, map, reverse, sym, ap, subst, ◌∙◌}
use Rattle.std.proofs.lemmas.Result.{on_ok_weaker}
use Rattle.ir_forms.specs.Names.{iteration_of}
use Rattle.source_meaning.specs.Sequential.{born}
use Rattle.source_state.specs.Seen.{Alike}
use Rattle.source_eval.specs.Following.{running_of}
use Rattle.source_eval.proofs.Moves.{iteration_moves}
use Rattle.source_eval.proofs.sequence.Sequence.begin.Goals as goal

pub returns : goal.returns
returns c =
    let old = c.args.self.now in
    let top = running_of old.top in
    let below = map running_of (reverse old.below.items) in
    on_ok_weaker c.put.result (λ put p k w left like. (
      record w { stack = born (iteration_of top.path top.taken top.begun) c.args.task ∷ record top { begun = top.begun + 1 } ∷ below },
      iteration_moves p k w top below c.args.task like.stack left,
      record {
        stack = sym (put.stack ∙ ap (λ q. born q c.args.task ∷ record top { begun = top.begun + 1 } ∷ below) (c.in_ok-path.ensures ∙ ap (λ q. iteration_of q top.taken top.begun) c.as_slice.ensures));
        world = subst (λ v. Alike v w.world) (sym put.shared) like.world;
        trace = like.trace ∙ sym put.entries;
      },
    )) c.put.ensures
