-- Numbers in range, and counts.
use Rattle.std.specs.Prelude.{◌^◌, ◌==◌, nat_lt, nat_le, ◌&&◌, Bool, true, false, List, [], ◌∷◌, length}
use Rattle.low_forms.specs.declared.code.Reg.{Reg}
use Rattle.low_forms.specs.declared.code.LowAttr.{LowAttr}
use Rattle.low_forms.specs.declared.code.LowAttr.TheVariants.{Callee, Count}
use Rattle.low_forms.specs.declared.code.Instr.{Instr}
use Rattle.low_forms.specs.declared.code.Target.{Target}
use Rattle.low_forms.specs.declared.code.Block.{Block}
use Rattle.low_forms.specs.declared.code.LowFunc.{LowFunc}
use Rattle.low_forms.specs.declared.code.LowModule.{LowModule}
use Rattle.low_forms.specs.Registers.{every}

-- ---- numbers in range

abbrev pub regs_within : LowFunc → List Reg → Bool
regs_within f rs = every (λ r. nat_lt r.0 (length f.regs)) rs

-- a function that is named is there
abbrev pub callee_within : LowModule → LowAttr → Bool
callee_within code (Callee g) = nat_lt g.0 (length code.funcs)
callee_within code _ = true

abbrev pub instr_within : LowModule → LowFunc → Instr → Bool
instr_within code f i = regs_within f i.operands && regs_within f i.results && callee_within code i.attr

abbrev pub target_within : LowFunc → Target → Bool
target_within f t = nat_lt t.block.0 (length f.blocks) && regs_within f t.args

abbrev pub block_within : LowModule → LowFunc → Block → Bool
block_within code f b =
    regs_within f b.params && every (instr_within code f) b.instrs && instr_within code f b.term.instr && every (target_within f) b.term.targets

-- ---- counts

abbrev pub count_is_small : LowAttr → Bool
count_is_small (Count n) = nat_le 1 n && nat_le n (2 ^ 23)
count_is_small _ = true

-- each count is 1 to 2^23
abbrev pub counts_small : Block → Bool
counts_small b = every (λ i. count_is_small i.attr) b.instrs && count_is_small b.term.instr.attr

-- ---- the first block

abbrev pub starts_bare : List Block → Bool
starts_bare [] = false
starts_bare (b ∷ blocks) = length b.params == 0

-- a function has a block, and the first one has no parameters
abbrev pub has_start : LowFunc → Bool
has_start f = starts_bare f.blocks
