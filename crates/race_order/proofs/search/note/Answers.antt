use Rattle.std.proofs.Common.{◌+◌, ◌∙◌, ap, sym}
use Rattle.race_order.specs.Sights.{number_in}
use Rattle.race_order.specs.Touch.{touch_of, touch_in}
use Rattle.race_order.proofs.Marked.{marked_next, rank_taken}
use Rattle.race_order.proofs.search.note.Goals as goal

pub returns-in_ok-mark-in-Some-clause-marked : goal.returns-in_ok-mark-in-Some-clause-marked
returns-in_ok-mark-in-Some-clause-marked c =
    marked_next c.args.trace.now.entries c.args.place (number_in c.args.tasks.now.numbers) c.args.tasks.now.depth c.get-number.result c.get-rank.result c.args.nodes.now.items c.mark.new.nodes.items c.args.marks.now c.mark.new.marks c.entry-entry.result.now (touch_of c.in-Some.touch)
    c.entry-entry.ensures (sym (ap touch_in c.in-Some.is) ∙ c.in_ok-touched.ensures)
    (c.get-number.ensures ∙ ap (number_in c.args.tasks.now.numbers) (c.deref.ensures.value ∙ c.in_ok-key-in-Some.ensures))
    (c.get-rank.ensures ∙ (ap (number_in c.args.tasks.now.taken) (c.deref-in-Some.ensures.value ∙ c.in_ok-key-in-Some.ensures) ∙ (c.requires.holds.taken c.entry-entry.result.now.task ∙ rank_taken c.args.trace.now.entries (c.args.place + 1) c.entry-entry.result.now.task)))
    (c.requires.numbered c.args.place c.entry-entry.result.now c.entry-entry.ensures) c.requires.numbers c.requires.marked c.in_ok-mark-in-Some.ensures
