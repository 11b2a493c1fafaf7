-- The leaf at the number's place is another; the other leaves stay.
use Rattle.std.proofs.Common.{◌∙◌, List, ap, rc_value}
use Rattle.source_meaning.specs.declared.values.Val.{Val}
use Rattle.source_tasks.specs.Table.{kept}
use Rattle.source_tasks.proofs.Tables.{kept_here, kept_others}
use Rattle.source_tasks.proofs.table.Table.put.Goals as goal

pub returns-clause-here : goal.returns-clause-here
returns-clause-here c =
    kept_here rc_value c.grow.new.leaves.items c.args.number c.in-Some.leaf.now c.put_in.new.leaf c.args.held
    c.in-Some.ensures.item.3.0 c.in-Some.ensures.value c.in_ok-put_in.ensures

pub returns-clause-others : goal.returns-clause-others
returns-clause-others c n other =
    kept_others rc_value c.self.inside.leaves.items c.grow.new.leaves.items c.args.number c.in-Some.leaf.now c.put_in.new.leaf c.args.held n
    c.in-Some.ensures.item.3.0 c.in-Some.ensures.value c.in_ok-put_in.ensures c.in_ok-grow.ensures other
    ∙ ap (λ (t : List (List Val)). kept t n) c.self.view_is
