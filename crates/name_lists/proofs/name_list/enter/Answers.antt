use Rattle.std.proofs.Common.{◌≡◌, ◌++◌, ap, ◌∙◌, rules}
use Rattle.name_lists.proofs.Firsts.{entered, is_entered}
use Rattle.name_lists.proofs.name_list.enter.Goals as goal

pub returns-clause-ok : goal.returns-clause-ok
returns-clause-ok c =
    entered c.args.places.now c.insert.new.self _ c.args.place c.args.name.now
    (c.in_ok-extend_from_slice.ensures.items ∙ ap (λ l. l ++ c.args.name.now) c.new-key.ensures.items)
    (search rules) c.in_ok-insert.ensures.updates
