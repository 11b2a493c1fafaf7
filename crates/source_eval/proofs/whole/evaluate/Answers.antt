use Rattle.std.proofs.Common.{◌≡◌, ◌≤◌, map, sym, subst}
use Rattle.ir_forms.specs.Shapes.{most_cells}
use Rattle.arguments.specs.Fits.{Fits, fitted_args}
use Rattle.source_meaning.specs.Start.{stores_of, cells_in_all}
use Rattle.source_meaning.specs.Sequential.{start}
use Rattle.source_eval.specs.Following.{IsLike}
use Rattle.source_eval.proofs.WholeFits.{fitted_bound}
use Rattle.source_eval.proofs.WholeSteps.{means, entry_is}
use Rattle.source_eval.proofs.whole.evaluate.Goals as goal

pub first-requires : goal.first-requires
first-requires c =
    subst (λ vs. cells_in_all (stores_of 0 vs) ≤ most_cells) (sym c.as_slice.ensures)
    (fitted_bound (map (λ p. p.1) c.entry_at-signature.result.params.now) c.args.args.now c.in_ok-values.values c.in_ok-values.ensures.ok)

pub returns-clause-ok : goal.returns-clause-ok
returns-clause-ok c =
    let program = c.args.verified.now.program in
    let facts = c.in_ok-facts.facts in
    let values = c.in_ok-values.values in
    let entry = c.entry_at-signature in (
      values,
      subst (λ params. fitted_args (map (λ p. p.1) params) c.args.args.now ≡ Fits values) entry.ensures.params c.in_ok-values.ensures.ok,
      means facts c.args.entry.0 c.args.fuel values program c.in_ok-end.end c.run.new.sequence c.in_ok-facts.ensures
          (c.in_ok-end.ensures c.args.entry.0 values
          (entry_is program facts c.args.entry.0 entry.result c.in_ok-facts.ensures entry.ensures.results entry.ensures.params)
          (subst (λ vs. IsLike c.in_ok-sequence.sequence (start facts c.args.entry.0 vs)) c.as_slice.ensures c.in_ok-sequence.ensures)),
    )
