use Rattle.std.proofs.Common.{◌≡◌, ◌++◌, drop}
use Rattle.parallel_for.specs.Shape.{split_funcs}
use Rattle.parallel_for.proofs.walk.split_funcs.Given as goal

abbrev pub invariant-loop-place : goal.invariant-loop-place
invariant-loop-place l =
    (l.all ++ (split_funcs l.options l.funcs l.called l.place (drop l.place l.funcs) l.loops).0 ≡ (split_funcs l.options l.funcs l.called 0 l.funcs 0).0)
    × (l.made ++ (split_funcs l.options l.funcs l.called l.place (drop l.place l.funcs) l.loops).1 ≡ (split_funcs l.options l.funcs l.called 0 l.funcs 0).1)
