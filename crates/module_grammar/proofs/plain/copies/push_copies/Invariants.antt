use Rattle.std.proofs.Common.{◌≡◌, ◌++◌, take}
use Rattle.module_grammar.proofs.plain.copies.push_copies.Given as goal

abbrev pub invariant-loop-ty : goal.invariant-loop-ty
invariant-loop-ty l = l.copies.items ≡ l.initial.copies.items ++ take l.ty-index l.types
