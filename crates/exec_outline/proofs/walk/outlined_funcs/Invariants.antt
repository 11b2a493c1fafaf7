use Rattle.std.proofs.Common.{◌≡◌, ◌++◌, drop, map}
use Rattle.exec_outline.specs.Shape.{in_order, outlined_func}
use Rattle.exec_outline.proofs.walk.outlined_funcs.Given as goal

abbrev pub invariant-loop-func : goal.invariant-loop-func
invariant-loop-func l =
    (l.all ++ (in_order (map (outlined_func l.funcs) (drop l.func-index l.funcs)) l.next).0 ≡ (in_order (map (outlined_func l.funcs) l.funcs) 0).0)
    × (l.tasks ++ (in_order (map (outlined_func l.funcs) (drop l.func-index l.funcs)) l.next).1 ≡ (in_order (map (outlined_func l.funcs) l.funcs) 0).1)
