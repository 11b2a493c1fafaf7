-- When a register is live at a place of a function.
use Rattle.std.specs.Prelude.{◌≡◌, ◌<◌, ℕ, zero, suc, true, false, List, [], ◌∷◌, ◌++◌, length, Option, Some, None, slice_get}
use Rattle.low_flow.specs.Lists.{has}
use Rattle.low_flow.specs.Paths.{IsEdge}
use Rattle.low_forms.specs.declared.code.Instr.{Instr}
use Rattle.low_forms.specs.declared.code.Block.{Block}
use Rattle.low_forms.specs.declared.code.LowFunc.{LowFunc}
use Rattle.low_forms.specs.declared.code.LowModule.{LowModule}
use Rattle.low_forms.specs.Edges.{edges}
use Rattle.low_forms.specs.Assigned.{numbers, used_at}

-- A place: a block, and there the number of an instruction. The terminator stands behind the last one.
pub record Place : Type 0 where
  pub block : ℕ
  pub row : ℕ

abbrev pub instrs_of : Option Block → List Instr
instrs_of None = []
instrs_of (Some b) = b.instrs

abbrev pub instrs_in : LowFunc → ℕ → List Instr
instrs_in f block = instrs_of (slice_get f.blocks block)

-- ---- what is used at a place: the operands of its instruction, and the arguments of a terminator's targets too. What an
-- instruction takes is among them.

abbrev pub uses_of : Option Block → ℕ → List ℕ
uses_of None row = []
uses_of (Some b) row = used_at b.instrs b.term row

abbrev pub uses : LowFunc → Place → List ℕ
uses f p = uses_of (slice_get f.blocks p.block) p.row

-- ---- what is defined on the way to a place: the results of the instruction before it, and at the start of a block the
-- parameters of the block

abbrev pub results_of : List Instr → ℕ → List ℕ
results_of [] row = []
results_of (i ∷ instrs) zero = numbers i.results
results_of (i ∷ instrs) (suc row) = results_of instrs row

abbrev pub defines_of : Option Block → ℕ → List ℕ
defines_of None row = []
defines_of (Some b) zero = numbers b.params
defines_of (Some b) (suc row) = results_of b.instrs row

abbrev pub defines : LowFunc → Place → List ℕ
defines f p = defines_of (slice_get f.blocks p.block) p.row

-- ---- paths of places

-- The second place may come next: it is the next one in the block, or, behind the terminator, the start of a block to
-- which an edge leads.
pub data IsNext (f : LowFunc) (p q : Place) : Type 0 where
  inside : q.block ≡ p.block → q.row ≡ suc p.row → p.row < length (instrs_in f p.block) → IsNext f p q
  along : p.row ≡ length (instrs_in f p.block) → IsEdge (edges f) p.block q.block → q.row ≡ 0 → IsNext f p q

-- these places come one after another behind the first
abbrev pub IsPath : LowFunc → Place → List Place → Type 0
IsPath f p [] = Unit {0}
IsPath f p (q ∷ path) = IsNext f p q × IsPath f q path

abbrev pub last_of : Place → List Place → Place
last_of p [] = p
last_of p (q ∷ path) = last_of q path

-- what is defined on the way
abbrev pub defined_on : LowFunc → List Place → List ℕ
defined_on f [] = []
defined_on f (q ∷ path) = defines f q ++ defined_on f path

-- ---- some path leads from the place to a use of the register, and the register isn't defined on the way

pub record IsLive (f : LowFunc) (r : ℕ) (p : Place) : Type 0 where
  pub path : List Place
  pub follows : IsPath f p path
  pub undefined : has r (defined_on f path) ≡ false
  pub used : has r (uses f (last_of p path)) ≡ true

-- a register of a function is live at a place of it
pub record IsLiveIn (code : LowModule) (func block row r : ℕ) : Type 0 where
  pub of : LowFunc
  pub named : slice_get code.funcs func ≡ Some of
  pub live : IsLive of r (record { block = block; row = row })

-- the register is one of the function's, where the function is there
abbrev pub is_reg_of : Option LowFunc → ℕ → Type 0
is_reg_of None r = Unit {0}
is_reg_of (Some f) r = r < length f.regs

abbrev pub IsRegIn : LowModule → ℕ → ℕ → Type 0
IsRegIn code func r = is_reg_of (slice_get code.funcs func) r
