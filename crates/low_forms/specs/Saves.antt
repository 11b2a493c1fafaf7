-- Saves of coroutines, and what must follow them.
use Rattle.std.specs.Prelude.{◌==◌, ◌&&◌, ◌||◌, not, if◌then◌else◌, Bool, true, false, List, [], ◌∷◌}
use Rattle.op_table.specs.declared.kind.OpKind.TheVariants.{AsyncCoroSave, AsyncCoroSuspend, AsyncRuntimeResume, AsyncRuntimeAwaitAndResume}
use Rattle.low_forms.specs.declared.code.Reg.{Reg}
use Rattle.low_forms.specs.declared.code.LowKind.{LowKind}
use Rattle.low_forms.specs.declared.code.LowKind.TheVariants.{Row}
use Rattle.low_forms.specs.declared.code.Instr.{Instr}
use Rattle.low_forms.specs.declared.code.Term.{Term}
use Rattle.low_forms.specs.declared.code.Block.{Block}
use Rattle.low_forms.specs.Registers.{every}

abbrev pub is_save : LowKind → Bool
is_save (Row AsyncCoroSave) = true
is_save _ = false

abbrev pub is_resume : LowKind → Bool
is_resume (Row AsyncRuntimeResume) = true
is_resume _ = false

abbrev pub is_await_and_resume : LowKind → Bool
is_await_and_resume (Row AsyncRuntimeAwaitAndResume) = true
is_await_and_resume _ = false

abbrev pub is_suspend : LowKind → Bool
is_suspend (Row AsyncCoroSuspend) = true
is_suspend _ = false

-- the first operand of the second one is the result of the first one
abbrev pub is_of : List Reg → List Reg → Bool
is_of (r ∷ []) (s ∷ ss) = r.0 == s.0
is_of _ _ = false

-- ---- each save is followed at once by a resume in the first block, and in another by an await_and_resume; and that at
-- once by the suspend of the same save, which ends the block. So a block has one save at most.

abbrev pub is_next : Bool → LowKind → Bool
is_next is_first kind = if is_first then is_resume kind else is_await_and_resume kind

abbrev pub is_followed : Bool → Instr → List Instr → Term → Bool
is_followed is_first i (j ∷ []) t = is_next is_first j.kind && is_suspend t.instr.kind && is_of i.results t.instr.operands
is_followed is_first i _ t = false

abbrev pub saves_followed : Bool → List Instr → Term → Bool
saves_followed is_first [] t = true
saves_followed is_first (i ∷ instrs) t = (not (is_save i.kind) || is_followed is_first i instrs t) && saves_followed is_first instrs t

-- ---- these stand nowhere else: a resume or an await_and_resume directly after a save, and a suspend directly after these

abbrev pub resumes : LowKind → Bool
resumes kind = is_resume kind || is_await_and_resume kind

abbrev pub none_alone : Bool → Bool → List Instr → Term → Bool
none_alone saved resumed [] t = not (is_suspend t.instr.kind) || resumed
none_alone saved resumed (i ∷ instrs) t =
    (not (resumes i.kind) || saved) && not (is_suspend i.kind) && none_alone (is_save i.kind) (resumes i.kind) instrs t

-- ---- the first save stands in the first block

abbrev pub has_no_save : Block → Bool
has_no_save b = every (λ i. not (is_save i.kind)) b.instrs

abbrev pub saves_start : List Block → Bool
saves_start [] = true
saves_start (b ∷ blocks) = not (has_no_save b) || every has_no_save blocks

-- ---- by function

abbrev pub all_followed : Bool → List Block → Bool
all_followed is_first [] = true
all_followed is_first (b ∷ blocks) = saves_followed is_first b.instrs b.term && all_followed false blocks

abbrev pub nowhere_else : Block → Bool
nowhere_else b = none_alone false false b.instrs b.term
