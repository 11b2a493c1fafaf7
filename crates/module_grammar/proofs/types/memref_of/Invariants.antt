use Rattle.std.proofs.Common.{◌≡◌, [], drop}
use Rattle.module_grammar.specs.Tokens.{memref_of}
use Rattle.module_grammar.specs.declared.types.DimSoFar.TheVariants as so_far
use Rattle.module_grammar.proofs.types.memref_of.Given as goal

abbrev pub invariant-loop-at : goal.invariant-loop-at
invariant-loop-at l = memref_of (drop l.at l.body) l.dims l.now ≡ memref_of l.body [] so_far.Nothing
