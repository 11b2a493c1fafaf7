use Rattle.std.proofs.Common.{◌∷◌, [], ◌++◌, map, reverse, sym, ap, subst, ◌∙◌}
use Rattle.ir_forms.specs.declared.names.Action.TheVariants.{End}
use Rattle.source_meaning.specs.World.{ended, shown_end}
use Rattle.source_meaning.specs.Sequential.{shows, finishes}
use Rattle.source_state.specs.Seen.{Alike, outcome_of}
use Rattle.source_eval.specs.Following.{running_of}
use Rattle.source_eval.proofs.Moves.{pushed}
use Rattle.source_eval.proofs.sequence.Sequence.finish.Goals as goal

pub returns-in_ok-end-in-Some : goal.returns-in_ok-end-in-Some
returns-in_ok-end-in-Some c p k w top entry like trace path =
    let o = outcome_of c.args.ended in
    let below = map running_of (reverse c.pop.new.self.items) in (
      record {
        stack = running_of c.in-Some.maker ∷ below;
        world = ended w.world top.path o;
        trace = w.trace ++ shows top.path (shown_end o) ∷ [];
      },
      ap (λ xs. finishes p k w top xs o) (ap (λ ys. map running_of (reverse ys)) c.in-Some.ensures.items ∙ pushed running_of c.pop.new.self.items c.in-Some.maker),
      record {
        stack = ap (λ r. running_of r ∷ below) (sym c.replace-over.ensures.after);
        world = subst (λ q. Alike c.end.new.self (ended w.world q o)) (c.as_slice-in-Some.ensures ∙ (ap (λ r. r.path) c.replace-over.ensures.value ∙ sym path)) (c.in_ok-end-in-Some.ensures w.world like);
        trace = (λ j. trace j ++ shows ((path ∙ sym c.as_slice.ensures) j) (End (sym c.ended_well-good.ensures j)) ∷ []) ∙ sym c.in_ok-show.ensures;
      },
    )
