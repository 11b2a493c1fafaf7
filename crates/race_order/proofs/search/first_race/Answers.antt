use Rattle.std.proofs.Common.{◌≡◌, ◌<◌, ℕ, subst, sym, Some}
use Rattle.std.specs.Prelude.{slice_get}
use Rattle.ir_forms.specs.declared.names.TraceEntry.{TraceEntry}
use Rattle.race_order.specs.declared.table.Table.{Table}
use Rattle.race_order.specs.Sights.{number_in}
use Rattle.race_order.proofs.Answer.{within_trace}
use Rattle.race_order.proofs.Marked.{marked_first}
use Rattle.race_order.proofs.search.first_race.Goals as goal

pub search-requires-clause-marked : goal.search-requires-clause-marked
search-requires-clause-marked c = marked_first c.args.trace.now.entries (number_in c.start-tasks.result.numbers) c.start-tasks.result.depth c.in_ok-nodes.nodes.items c.no_marks-marks.result c.in_ok-nodes.ensures c.no_marks-marks.ensures

pub search-requires-clause-numbered : goal.search-requires-clause-numbered
search-requires-clause-numbered c = subst (λ (t : Table). (i : ℕ) (e : TraceEntry) → slice_get c.args.trace.now.entries i ≡ Some e → 0 < number_in t e.task) (sym c.start-tasks.ensures.numbers.1)
    (λ i e h. c.in_ok-numbers.ensures.numbered i e (within_trace c.args.trace.now.entries i e h) h)
