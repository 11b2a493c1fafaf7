use Rattle.std.proofs.Common.{◌∙◌, List, ap, arith}
use Rattle.source_meaning.specs.declared.values.Val.{Val}
use Rattle.source_tasks.specs.Table.{kept}
use Rattle.source_tasks.proofs.Tables.{within_view, beyond_view}
use Rattle.source_tasks.proofs.env.Env.put.Goals as goal

pub returns-then-self-number : goal.returns-then-self-number
returns-then-self-number c =
    beyond_view c.self.inside.table c.put.new.self c.self.inside.len c.args.value.0 c.args.val c.args.self.now c.self.view_is c.if-self-number.true
    (c.in_ok-put.ensures.here ∙ c.in_ok-held.ensures)
    (λ k other. c.in_ok-put.ensures.others k other ∙ ap (λ (t : List (List Val)). kept t k) c.replace-table.ensures.value)
    c.self.invariant

pub returns-else-self-number : goal.returns-else-self-number
returns-else-self-number c =
    within_view c.self.inside.table c.put.new.self c.self.inside.len c.args.value.0 c.args.val c.args.self.now c.self.view_is (omega (arith, c.if-self-number.false))
    (c.in_ok-put.ensures.here ∙ c.in_ok-held.ensures)
    (λ k other. c.in_ok-put.ensures.others k other ∙ ap (λ (t : List (List Val)). kept t k) c.replace-table.ensures.value)
