-- These rows and those of coro_carry together.
use Rattle.std.proofs.Common.{◌≡◌, inl, inr, ℕ, List, [], ◌∷◌, refl, sym, subst}
use Rattle.ir_forms.specs.declared.args.ArgValue.{ArgValue}
use Rattle.ir_forms.specs.declared.runs.FuncNo.{FuncNo}
use Rattle.low_forms.specs.declared.code.Instr.{Instr}
use Rattle.low_forms.specs.declared.code.LowFunc.{LowFunc}
use Rattle.low_forms.specs.declared.code.LowModule.{LowModule}
use Rattle.step_core.specs.declared.tasks.Task.{Task}
use Rattle.step_core.specs.State.{Plain}
use Rattle.step_core.specs.High.{High}
use Rattle.code_machines.specs.Objects.{Objects}
use Rattle.coro_lower.specs.Layout.{end_of}
use Rattle.coro_carry.specs.Relation.{view, AtRow, at_row, at_failure, at_load, Match, lands, saves, suspends, tests, tested}
use Rattle.coro_carry.specs.Laws.{Running, Followed, CoversRow}
use Rattle.coro_carry.proofs.Inner.{inner_follows}
use Rattle.coro_carry.proofs.Covered.{covered_follows}
use Rattle.row_carry.specs.Laws.{CoversInstr, CoversMore, CoversRows, RowsFollow}
use Rattle.row_carry.proofs.Creating.{create_follows}
use Rattle.row_carry.proofs.Absent.{absent_follows, absent_end_follows}
use Rattle.row_carry.proofs.RootEnd.{root_end_follows}

module _ (code : LowModule) (n : FuncNo) (f g : LowFunc) (args : List ArgValue) (s : Plain) (k : Objects) (h : High) (t : ℕ) (task task' : Task) (r : Running code n f g args s k h t task task') where
  abbrev F : Type 0
  F = Followed code n f g args s k h t

  by_instr : (a : AtRow code (view s k h) t task task') (i : Instr) (is : List Instr) → a.rest.instrs ≡ i ∷ is → CoversInstr i.kind → F
  by_instr a i is next (inl kept) = inner_follows code n f g args s k h t task task' r a i is next kept
  by_instr a i is next (inr (inl makes)) = create_follows code n f g args s k h t task task' r a i is next makes
  by_instr a i is next (inr (inr absent)) = absent_follows code n f g args s k h t task task' r a i is next absent

  by_row : (a : AtRow code (view s k h) t task task') (instrs : List Instr) → a.rest.instrs ≡ instrs → CoversMore h t task' (end_of a.func a.block) instrs a.rest.term.instr.kind → F
  by_row a [] last (inr (inr stuck)) = absent_end_follows code n f g args s k h t task task' r a last stuck.0 stuck.1
  by_row a [] last (inr (inl e)) = root_end_follows code n f g args s k h t task task' r a last e.1 e.0 e.2
  by_row a [] last (inl c) =
      covered_follows code n f g args s k h t task task' r (lands (at_row a))
      (subst (λ (xs : List Instr). CoversRow (end_of a.func a.block) xs a.rest.term.instr.kind task'.stack.below) (sym last) c)
  by_row a (i ∷ is) next c = by_instr a i is next c

  by_phase : (m : Match code (view s k h) t task task') → CoversRows code (view s k h) h t task task' m → F
  by_phase (lands (at_row a)) c = by_row a a.rest.instrs refl c
  by_phase (lands (at_failure a)) c = covered_follows code n f g args s k h t task task' r (lands (at_failure a)) c
  by_phase (lands (at_load a)) c = covered_follows code n f g args s k h t task task' r (lands (at_load a)) c
  by_phase (saves a) c = covered_follows code n f g args s k h t task task' r (saves a) c
  by_phase (suspends a) c = covered_follows code n f g args s k h t task task' r (suspends a) c
  by_phase (tests a) c = covered_follows code n f g args s k h t task task' r (tests a) c
  by_phase (tested a) c = covered_follows code n f g args s k h t task task' r (tested a) c

pub rows_follow : RowsFollow
rows_follow code n f g args s k h t task task' r m c = by_phase code n f g args s k h t task task' r m c
