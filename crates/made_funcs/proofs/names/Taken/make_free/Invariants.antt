use Rattle.std.proofs.Common.{◌≡◌, ◌-◌, length}
use Rattle.made_funcs.specs.Names.{free_name}
use Rattle.made_funcs.proofs.names.Taken.make_free.Given as goal

abbrev pub invariant-loop-turn : goal.invariant-loop-turn
invariant-loop-turn l = free_name l.self (length l.self - l._turn) l.name.items ≡ free_name l.self (length l.self) l.initial.name.items
