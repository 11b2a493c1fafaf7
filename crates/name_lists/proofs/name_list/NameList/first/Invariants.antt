use Rattle.std.proofs.Common.{◌≡◌, take, None}
use Rattle.name_lists.specs.Names.{first_named}
use Rattle.name_lists.proofs.name_list.NameList.first.Given as goal

abbrev pub invariant-loop-place : goal.invariant-loop-place
invariant-loop-place g l = first_named g.T.HasName.text (take l.place l.items) l.name ≡ None
