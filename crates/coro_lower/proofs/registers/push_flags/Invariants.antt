use Rattle.std.proofs.Common.{◌≡◌, ◌++◌, map, drop}
use Rattle.ir_forms.specs.declared.types.Ty.TheVariants as ty
use Rattle.int_ops.specs.declared.Width.TheVariants.{W1}
use Rattle.low_forms.specs.declared.code.Block.{Block}
use Rattle.coro_lower.proofs.registers.push_flags.Given as goal

abbrev pub invariant-loop-block : goal.invariant-loop-block
invariant-loop-block l = l.types ++ map (λ (b : Block). ty.Int W1) (drop l._block-index l.blocks) ≡ l.initial.types ++ map (λ (b : Block). ty.Int W1) l.blocks
