use Rattle.std.proofs.Common.{◌≡◌, ◌++◌, map, drop}
use Rattle.ir_forms.specs.declared.types.Ty.TheVariants as ty
use Rattle.low_forms.specs.declared.code.Block.{Block}
use Rattle.coro_lower.proofs.registers.push_states.Given as goal

abbrev pub invariant-loop-block : goal.invariant-loop-block
invariant-loop-block l = l.types ++ map (λ (b : Block). ty.CoroState) (drop l._block-index l.blocks) ≡ l.initial.types ++ map (λ (b : Block). ty.CoroState) l.blocks
