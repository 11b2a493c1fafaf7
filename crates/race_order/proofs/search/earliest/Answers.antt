use Rattle.std.proofs.Common.{◌≡◌, ◌+◌, take, ◌∙◌, ap, sym, arith, cond}
use Rattle.ir_forms.specs.Names.{same_path}
use Rattle.race_order.specs.Race.{entries_of}
use Rattle.race_order.specs.Sights.{number_in}
use Rattle.race_order.specs.Touch.{touch_of}
use Rattle.race_order.proofs.Answer.{rank_few, ranks_next, rank_is, race_is, none_more}
use Rattle.race_order.proofs.search.earliest.Goals as goal

pub overflow_add-rank : goal.overflow_add-rank
overflow_add-rank g c =
    let rank : c.get-rank.result ≡ entries_of c.deref.result.now (take c.loop-at.at c.args.trace.now.entries) = c.get-rank.ensures ∙ c.loop-at.invariant.0 c.deref.result.now in
    omega (arith, rank, rank_few c.deref.result.now c.args.trace.now.entries c.loop-at.at, c.loop-at-test.true, c.ranges.place.fits)

pub returns-then-branch : goal.returns-then-branch
returns-then-branch g c =
    let rank : c.get-rank.result ≡ entries_of c.entry-earlier.result.now.task (take c.loop-at.at c.args.trace.now.entries) = c.get-rank.ensures ∙ (ap (number_in c.loop-at.ranks) (c.deref.ensures.value ∙ c.in_ok-key.ensures) ∙ c.loop-at.invariant.0 c.entry-earlier.result.now.task) in (
      c.loop-at-test.true,
      race_is c.args.trace.now.entries c.loop-at.at c.args.place (c.get-rank.result + 1) c.entry-earlier.result.now c.entry-later.result.now g.s (touch_of c.args.touch.now) c.entry-earlier.ensures c.entry-later.ensures c.requires.1.0
          (c.requires.1.1.1.1 c.entry-later.result.now c.entry-later.ensures) (rank_is c.args.trace.now.entries c.loop-at.at c.get-rank.result c.entry-earlier.result.now c.entry-earlier.ensures rank) ∙ (sym c.in_ok-is_racing.ensures ∙ c.if-branch.true),
      c.loop-at.invariant.1,
    )

pub loop-at-preserved : goal.loop-at-preserved
loop-at-preserved g c =
    let rank : c.get-rank.result ≡ entries_of c.entry-earlier.result.now.task (take c.loop-at.at c.args.trace.now.entries) = c.get-rank.ensures ∙ (ap (number_in c.loop-at.ranks) (c.deref.ensures.value ∙ c.in_ok-key.ensures) ∙ c.loop-at.invariant.0 c.entry-earlier.result.now.task) in (
      (λ p. ranks_next c.args.trace.now.entries c.loop-at.at c.get-rank.result c.entry-earlier.result.now p (number_in c.loop-at.ranks p) (number_in c.set.new.self p) c.entry-earlier.ensures rank (c.loop-at.invariant.0 p)
          (c.in_ok-set.ensures p ∙ ap (λ k. cond (same_path k p) (c.get-rank.result + 1) (number_in c.loop-at.ranks p)) c.in_ok-key.ensures)),
      none_more c.args.trace.now.entries c.loop-at.at c.args.place
          (race_is c.args.trace.now.entries c.loop-at.at c.args.place (c.get-rank.result + 1) c.entry-earlier.result.now c.entry-later.result.now g.s (touch_of c.args.touch.now) c.entry-earlier.ensures c.entry-later.ensures c.requires.1.0
          (c.requires.1.1.1.1 c.entry-later.result.now c.entry-later.ensures) (rank_is c.args.trace.now.entries c.loop-at.at c.get-rank.result c.entry-earlier.result.now c.entry-earlier.ensures rank) ∙ (sym c.in_ok-is_racing.ensures ∙ c.if-branch.false))
          c.loop-at.invariant.1,
    )
