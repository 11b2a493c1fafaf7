-- The pass: where counts stand. A register has one reference where it is live.
use Rattle.std.specs.Prelude.{ℕ, ◌+◌, ◌-◌, ◌==◌, ◌||◌, ◌&&◌, not, nat_lt, if◌then◌else◌, Bool, true, false, List, [], ◌∷◌, ◌++◌, map, length, Option, Some, None, slice_get}
use Rattle.op_table.specs.declared.kind.OpKind.{OpKind}
use Rattle.op_table.specs.declared.kind.OpKind.TheVariants.{AsyncRuntimeAddRef, AsyncRuntimeDropRef}
use Rattle.low_flow.specs.Lists.{has, list_at}
use Rattle.low_forms.specs.declared.code.Reg.{Reg}
use Rattle.low_forms.specs.declared.code.LowAttr.TheVariants.{Count}
use Rattle.low_forms.specs.declared.code.LowKind.TheVariants.{Row}
use Rattle.low_forms.specs.declared.code.Instr.{Instr}
use Rattle.low_forms.specs.declared.code.Target.{Target}
use Rattle.low_forms.specs.declared.code.Term.{Term}
use Rattle.low_forms.specs.declared.code.Block.{Block}
use Rattle.low_forms.specs.declared.code.LowFunc.{LowFunc}
use Rattle.low_forms.specs.declared.code.LowModule.{LowModule}
use Rattle.low_forms.specs.declared.row.Targets.{Targets}
use Rattle.low_forms.specs.declared.row.Targets.TheVariants.{Suspend}
use Rattle.low_forms.specs.Rows.{row_of}
use Rattle.low_forms.specs.Assigned.{numbers}
use Rattle.low_forms.specs.Edges.{edges, count_to}
use Rattle.low_forms.specs.Owns.{params_of}
use Rattle.liveness.specs.Flow.{before}
use Rattle.live_truths.specs.Truths.{is_live}
use Rattle.ref_counting.specs.Objects.{counted, with_counted, taken, taken_at_end, touched, is_return}

abbrev pub count : OpKind → ℕ → ℕ → Instr
count kind r n = record { kind = Row kind; operands = record { 0 = r } ∷ []; results = []; attr = Count n }

abbrev pub add_ref : ℕ → ℕ → Instr
add_ref r n = count AsyncRuntimeAddRef r n

abbrev pub drop_ref : ℕ → Instr
drop_ref r = count AsyncRuntimeDropRef r 1

-- how often a register stands among these
abbrev pub times : ℕ → List Reg → ℕ
times r rs = count_to r (numbers rs)

-- ---- what is live over edges

abbrev pub is_param_of : LowFunc → ℕ → ℕ → Bool
is_param_of f c r = has r (numbers (params_of (slice_get f.blocks c)))

-- live where the block begins, and none of its parameters
abbrev pub is_live_into : LowFunc → ℕ → ℕ → Bool
is_live_into f r c = not (is_param_of f c r) && is_live f c 0 r

abbrev pub is_live_over : LowFunc → ℕ → List ℕ → Bool
is_live_over f r [] = false
is_live_over f r (c ∷ cs) = is_live_into f r c || is_live_over f r cs

-- ---- before an instruction: as many more of each register as it takes

abbrev pub adds : List Reg → List ℕ → List Instr
adds taken [] = []
adds taken (r ∷ rs) = add_ref r (times r taken) ∷ adds taken rs

-- ---- behind an instruction: what it uses, takes or defines, and isn't live there

abbrev pub dropped_dead : LowFunc → ℕ → ℕ → ℕ → List Instr
dropped_dead f block row r = if is_live f block row r then [] else drop_ref r ∷ []

abbrev pub drops : LowFunc → ℕ → ℕ → List ℕ → List Instr
drops f block row [] = []
drops f block row (r ∷ rs) = dropped_dead f block row r ++ drops f block row rs

abbrev pub around : LowFunc → ℕ → ℕ → Instr → List Instr
around f block row i = adds (taken i) (with_counted f (taken i) []) ++ (i ∷ drops f block (row + 1) (touched f i))

abbrev pub rows : LowFunc → ℕ → ℕ → List Instr → List Instr
rows f block row [] = []
rows f block row (i ∷ instrs) = around f block row i ++ rows f block (row + 1) instrs

-- ---- before a terminator: what it takes. A return takes one reference of each register that the frame owns; another
-- terminator takes none of these, and what isn't live behind it is dropped.

abbrev pub added_at_return : ℕ → ℕ → List Instr
added_at_return r n = if nat_lt 1 n then add_ref r (n - 1) ∷ [] else []

abbrev pub moved : LowFunc → List ℕ → ℕ → ℕ → List Instr
moved f targets r n = add_ref r n ∷ (if is_live_over f r targets then [] else drop_ref r ∷ [])

abbrev pub counts_at_end : LowFunc → List ℕ → Bool → ℕ → ℕ → List Instr
counts_at_end f targets returns r n = if returns then added_at_return r n else moved f targets r n

abbrev pub ends : LowFunc → List ℕ → Bool → List Reg → List ℕ → List Instr
ends f targets returns taken [] = []
ends f targets returns taken (r ∷ rs) = counts_at_end f targets returns r (times r taken) ++ ends f targets returns taken rs

abbrev pub before_end : LowFunc → ℕ → Term → List Instr
before_end f c t = ends f (list_at (edges f) c) (is_return t.instr.kind) (taken_at_end t) (with_counted f (taken_at_end t) [])

-- ---- where a block begins

-- where the frame that launches goes on
abbrev pub first_target : List Target → Option ℕ
first_target [] = None
first_target (t ∷ targets) = Some t.block.0

abbrev pub suspends_to : Targets → List Target → Option ℕ
suspends_to Suspend targets = first_target targets
suspends_to _ targets = None

abbrev pub suspended : List Block → Option ℕ
suspended [] = None
suspended (b ∷ blocks) = suspends_to (row_of b.term.instr.kind).targets b.term.targets

abbrev pub is_this : ℕ → Option ℕ → Bool
is_this c None = false
is_this c (Some d) = d == c

-- where the edges of the one block lead that stands before
abbrev pub beside_of : List (List ℕ) → List ℕ → List ℕ
beside_of targets (p ∷ []) = list_at targets p
beside_of targets _ = []

abbrev pub beside : LowFunc → ℕ → List ℕ
beside f c = beside_of (edges f) (list_at (before (edges f)) c)

-- live in a block beside this one, and not here
abbrev pub is_lost : LowFunc → ℕ → List ℕ → ℕ → Bool
is_lost f c others r = is_live_over f r others && not (is_live_into f r c)

-- or a parameter that isn't live
abbrev pub ends_here : LowFunc → ℕ → List Reg → List ℕ → ℕ → Bool
ends_here f c params others r = (has r (numbers params) && not (is_live f c 0 r)) || is_lost f c others r

abbrev pub dropped_one : LowFunc → ℕ → List Reg → List ℕ → ℕ → List Instr
dropped_one f c params others r = if ends_here f c params others r then drop_ref r ∷ [] else []

abbrev pub dropped_here : LowFunc → ℕ → List Reg → List ℕ → List ℕ → List Instr
dropped_here f c params others [] = []
dropped_here f c params others (r ∷ rs) = dropped_one f c params others r ++ dropped_here f c params others rs

-- the function's parameters where the first block begins
abbrev pub dropped_first : LowFunc → ℕ → List Instr
dropped_first f c = if c == 0 then dropped_here f 0 f.params [] (counted f) else []

-- a launching frame drops nothing where it goes on: what is live in its copy is the copy's
abbrev pub dropped_at : LowFunc → ℕ → Block → List Instr
dropped_at f c b = if is_this c (suspended f.blocks) then [] else dropped_here f c b.params (beside f c) (counted f)

abbrev pub starts : LowFunc → ℕ → Block → List Instr
starts f c b = dropped_first f c ++ dropped_at f c b

-- ---- code

abbrev pub counted_block : LowFunc → ℕ → Block → Block
counted_block f c b = record b {
  instrs = starts f c b ++ (rows f c 0 b.instrs ++ before_end f c b.term);
}

abbrev pub counted_blocks : LowFunc → ℕ → List Block → List Block
counted_blocks f c [] = []
counted_blocks f c (b ∷ blocks) = counted_block f c b ∷ counted_blocks f (c + 1) blocks

unfoldable pub counted_func : LowFunc → LowFunc
counted_func f = record f { blocks = counted_blocks f 0 f.blocks }

abbrev pub counted_code : LowModule → LowModule
counted_code code = record { funcs = map counted_func code.funcs }
