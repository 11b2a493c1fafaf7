use Rattle.std.proofs.Common.{◌≡◌, ap, sym, ◌∙◌, rules}
use Rattle.name_lists.proofs.Firsts.{left, remains}
use Rattle.name_lists.proofs.name_list.leave.Goals as goal

pub returns-then-found-place : goal.returns-then-found-place
returns-then-found-place c = left c.args.places.now c.remove.new.self _ c.args.place (search rules) c.remove.ensures.updates
