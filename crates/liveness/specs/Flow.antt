-- What is live where the rest of a block begins, and over edges, by sets of registers.
use Rattle.std.specs.Prelude.{ℕ, zero, suc, ◌+◌, ◌||◌, ◌&&◌, not, nat_lt, if◌then◌else◌, Bool, true, false, List, [], ◌∷◌, ◌++◌, length, replicate, slice_set}
use Rattle.bit_sets.specs.Members.{is_in, union}
use Rattle.low_flow.specs.Lists.{has, list_at}
use Rattle.low_forms.specs.declared.code.Reg.{Reg}
use Rattle.low_forms.specs.declared.code.Instr.{Instr}
use Rattle.low_forms.specs.declared.code.Target.{Target}
use Rattle.low_forms.specs.declared.code.Term.{Term}
use Rattle.low_forms.specs.declared.code.Block.{Block}
use Rattle.low_forms.specs.Assigned.{numbers, used_at_end}

-- ---- by register: `out` says whether it is live behind the terminator

abbrev pub live_before : List Instr → Term → Bool → ℕ → Bool
live_before [] t out r = has r (used_at_end t) || out
live_before (i ∷ instrs) t out r = has r (numbers i.operands) || (not (has r (numbers i.results)) && live_before instrs t out r)

-- over an edge to the block, whose parameters are defined there
abbrev pub enters : Block → Bool → ℕ → Bool
enters b out r = not (has r (numbers b.params)) && live_before b.instrs b.term out r

-- ---- by set: the sets say, by block, what is live over an edge to it

abbrev pub set_at : List (List Bool) → ℕ → List Bool
set_at [] b = []
set_at (set ∷ sets) zero = set
set_at (set ∷ sets) (suc b) = set_at sets b

-- live over an edge to one of these blocks
abbrev pub over : List (List Bool) → ℕ → List ℕ → Bool
over sets r [] = false
over sets r (c ∷ cs) = is_in (set_at sets c) r || over sets r cs

-- an argument of one of these targets
abbrev pub args_have : ℕ → List Target → Bool
args_have r [] = false
args_have r (t ∷ targets) = has r (numbers t.args) || args_have r targets

-- ---- sets that change

-- what is live over an edge to one of these blocks is added
abbrev pub joined : List (List Bool) → List ℕ → List Bool → List Bool
joined sets [] set = set
joined sets (c ∷ cs) set = joined sets cs (union set (set_at sets c))

abbrev pub with_regs : List Reg → List Bool → List Bool
with_regs [] set = set
with_regs (r ∷ rs) set = with_regs rs (slice_set set r.0 true)

abbrev pub without_regs : List Reg → List Bool → List Bool
without_regs [] set = set
without_regs (r ∷ rs) set = without_regs rs (slice_set set r.0 false)

abbrev pub with_args : List Target → List Bool → List Bool
with_args [] set = set
with_args (t ∷ targets) set = with_args targets (with_regs t.args set)

abbrev pub with_term : Term → List Bool → List Bool
with_term t set = with_args t.targets (with_regs t.instr.operands set)

abbrev pub back_over : List Instr → List Bool → List Bool
back_over [] set = set
back_over (i ∷ instrs) set = with_regs i.operands (without_regs i.results (back_over instrs set))

abbrev pub back_through : Block → List Bool → List Bool
back_through b set = without_regs b.params (back_over b.instrs (with_term b.term set))

-- ---- by block, from where edges lead to it

abbrev pub with_edge : ℕ → ℕ → List (List ℕ) → List (List ℕ)
with_edge from to lists = if nat_lt to (length lists) then slice_set lists to (list_at lists to ++ from ∷ []) else lists

abbrev pub with_edges : ℕ → List ℕ → List (List ℕ) → List (List ℕ)
with_edges from [] lists = lists
with_edges from (to ∷ targets) lists = with_edges from targets (with_edge from to lists)

abbrev pub with_all : ℕ → List (List ℕ) → List (List ℕ) → List (List ℕ)
with_all from [] lists = lists
with_all from (targets ∷ edges) lists = with_all (from + 1) edges (with_edges from targets lists)

abbrev pub before : List (List ℕ) → List (List ℕ)
before edges = with_all 0 edges (replicate (length edges) [])

-- the blocks from the last one down
abbrev pub countdown : ℕ → List ℕ
countdown zero = []
countdown (suc n) = n ∷ countdown n
