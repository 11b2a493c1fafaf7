-- Whether a result of an instruction is read somewhere in its function.
use Rattle.std.specs.Prelude.{ℕ, nat_eq, cond, Bool, true, false, List, [], ◌∷◌, ◌++◌, slice_get}
use Rattle.low_forms.specs.declared.code.Reg.{Reg}
use Rattle.low_forms.specs.declared.code.Instr.{Instr}
use Rattle.low_forms.specs.declared.code.Target.{Target}
use Rattle.low_forms.specs.declared.code.Block.{Block}
use Rattle.low_forms.specs.declared.code.LowFunc.{LowFunc}
use Rattle.source_meaning.specs.Values.{maybe}

abbrev pub read_by : List Instr → List Reg
read_by [] = []
read_by (i ∷ instrs) = i.operands ++ read_by instrs

abbrev pub read_by_targets : List Target → List Reg
read_by_targets [] = []
read_by_targets (t ∷ targets) = t.args ++ read_by_targets targets

-- the registers that the blocks read
abbrev pub read_in : List Block → List Reg
read_in [] = []
read_in (b ∷ blocks) = (read_by b.instrs ++ b.term.instr.operands) ++ (read_by_targets b.term.targets ++ read_in blocks)

abbrev pub is_among : ℕ → List Reg → Bool
is_among r [] = false
is_among r (x ∷ xs) = cond (nat_eq x.0 r) true (is_among r xs)

-- the first result is read
abbrev pub is_used : LowFunc → Instr → Bool
is_used f i = maybe false (λ r. is_among r.0 (read_in f.blocks)) (slice_get i.results 0)
