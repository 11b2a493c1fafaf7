-- Uses of registers, and what is assigned on the paths to them.
use Rattle.std.specs.Prelude.{◌≡◌, ◌<◌, ℕ, zero, suc, true, List, [], ◌∷◌, ◌++◌, map, length, Some, slice_get}
use Rattle.low_flow.specs.Lists.{has}
use Rattle.low_flow.specs.Paths.{IsPath, last_of, assigned_on}
use Rattle.low_forms.specs.declared.code.Reg.{Reg}
use Rattle.low_forms.specs.declared.code.Instr.{Instr}
use Rattle.low_forms.specs.declared.code.Target.{Target}
use Rattle.low_forms.specs.declared.code.Term.{Term}
use Rattle.low_forms.specs.declared.code.Block.{Block}
use Rattle.low_forms.specs.declared.code.LowFunc.{LowFunc}
use Rattle.low_forms.specs.Edges.{edges}

abbrev pub numbers : List Reg → List ℕ
numbers rs = map (λ r. r.0) rs

-- what these instructions assign
abbrev pub assigned_by : List Instr → List ℕ
assigned_by [] = []
assigned_by (i ∷ instrs) = numbers i.results ++ assigned_by instrs

abbrev pub block_assigns : Block → List ℕ
block_assigns b = numbers b.params ++ assigned_by b.instrs

-- by block, what it assigns
abbrev pub assigns : LowFunc → List (List ℕ)
assigns f = map block_assigns f.blocks

abbrev pub args_of : List Target → List ℕ
args_of [] = []
args_of (t ∷ targets) = numbers t.args ++ args_of targets

-- what a terminator uses: its operands, and the arguments of its targets
abbrev pub used_at_end : Term → List ℕ
used_at_end t = numbers t.instr.operands ++ args_of t.targets

-- what the k-th of these instructions uses; the terminator stands behind the last
abbrev pub used_at : List Instr → Term → ℕ → List ℕ
used_at [] t zero = used_at_end t
used_at [] t (suc k) = []
used_at (i ∷ instrs) t zero = numbers i.operands
used_at (i ∷ instrs) t (suc k) = used_at instrs t k

-- what is assigned before the k-th of these instructions
abbrev pub assigned_before : List Instr → ℕ → List ℕ
assigned_before [] k = []
assigned_before (i ∷ instrs) zero = []
assigned_before (i ∷ instrs) (suc k) = numbers i.results ++ assigned_before instrs k

-- each use of a register is assigned on every path that leads to it from the first block
abbrev pub UsesAssigned : LowFunc → Type 0
UsesAssigned f =
    (path : List ℕ) (b : Block) (k r : ℕ) → IsPath (edges f) 0 path → slice_get f.blocks (last_of 0 path) ≡ Some b → r < length f.regs
    → has r (used_at b.instrs b.term k) ≡ true
    → has r (numbers f.params ++ (assigned_on (assigns f) 0 path ++ (numbers b.params ++ assigned_before b.instrs k))) ≡ true
