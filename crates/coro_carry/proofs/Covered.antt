-- The steps of all phases together.
use Rattle.std.proofs.Common.{◌≡◌, ◌⊎◌, inl, inr, ℕ, Bool, true, false, List, [], ◌∷◌, Option, Some, None, refl}
use Rattle.std.specs.Prelude.{slice_get}
use Rattle.std.proofs.Math.Logic.{⊎_elim}
use Rattle.ir_forms.specs.declared.args.ArgValue.{ArgValue}
use Rattle.ir_forms.specs.declared.runs.FuncNo.{FuncNo}
use Rattle.low_forms.specs.declared.code.Instr.{Instr}
use Rattle.low_forms.specs.declared.code.LowFunc.{LowFunc}
use Rattle.low_forms.specs.declared.code.LowKind.{LowKind}
use Rattle.low_forms.specs.declared.code.LowModule.{LowModule}
use Rattle.step_core.specs.declared.tasks.Task.{Task}
use Rattle.step_core.specs.State.{Plain}
use Rattle.step_core.specs.High.{High}
use Rattle.code_machines.specs.Objects.{Objects}
use Rattle.coro_lower.specs.declared.label.End.{End}
use Rattle.coro_lower.specs.declared.label.End.TheVariants as end
use Rattle.coro_lower.specs.Layout.{end_of}
use Rattle.coro_carry.specs.Relation.{view, AtRow, Lands, at_row, at_failure, at_load, Match, lands, saves, suspends, tests, tested}
use Rattle.coro_carry.specs.Laws.{Running, Followed, CoversEnd, CoversRow, Covers, CoveredFollows}
use Rattle.coro_carry.proofs.Inner.{inner_follows}
use Rattle.coro_carry.proofs.Jumps.{jump_follows}
use Rattle.coro_carry.proofs.Calls.{call_follows}
use Rattle.coro_carry.proofs.Backs.{return_follows}
use Rattle.coro_carry.proofs.Saving.{save_follows}
use Rattle.coro_carry.proofs.Resuming.{resume_follows}
use Rattle.coro_carry.proofs.Suspending.{suspend_follows}
use Rattle.coro_carry.proofs.PlainAwait.{wait_follows}
use Rattle.coro_carry.proofs.Testing.{test_follows}
use Rattle.coro_carry.proofs.Branching.{branch_follows}
use Rattle.coro_carry.proofs.Loading.{load_follows}

module _ (code : LowModule) (n : FuncNo) (f g : LowFunc) (args : List ArgValue) (s : Plain) (k : Objects) (h : High) (t : ℕ) (task task' : Task) (r : Running code n f g args s k h t task task') where
  abbrev F : Type 0
  F = Followed code n f g args s k h t

  at_end : (a : AtRow code (view s k h) t task task') → a.rest.instrs ≡ [] → (e : End) → end_of a.func a.block ≡ e → CoversEnd e a.rest.term.instr.kind task'.stack.below → F
  at_end a last end.Stays is (inl branches) = jump_follows code n f g args s k h t task task' r a last branches
  at_end a last end.Stays is (inr other) = ⊎_elim (λ calls. call_follows code n f g args s k h t task task' r a last calls) (λ returns. return_follows code n f g args s k h t task task' r a last is returns.1 returns.0) other
  at_end a last end.Waits is c = wait_follows code n f g args s k h t task task' r a last is
  at_end a last end.Suspends is c = save_follows code n f g args s k h t task task' r a last is
  at_end a last end.Gives is c = elim c [ ]
  at_end a last end.Fails is c = elim c [ ]

  by_row : (a : AtRow code (view s k h) t task task') (instrs : List Instr) → a.rest.instrs ≡ instrs → CoversRow (end_of a.func a.block) instrs a.rest.term.instr.kind task'.stack.below → F
  by_row a [] last c = at_end a last (end_of a.func a.block) refl c
  by_row a (i ∷ is) next c = inner_follows code n f g args s k h t task task' r a i is next c

  by_phase : (m : Match code (view s k h) t task task') → Covers code (view s k h) t task task' m → F
  by_phase (lands (at_row a)) c = by_row a a.rest.instrs refl c
  by_phase (lands (at_failure a)) c = elim c [ ]
  by_phase (lands (at_load a)) c = load_follows code n f g args s k h t task task' r a
  by_phase (saves a) c = resume_follows code n f g args s k h t task task' r a
  by_phase (suspends a) c = suspend_follows code n f g args s k h t task task' r a
  by_phase (tests a) c = test_follows code n f g args s k h t task task' r a
  by_phase (tested a) c = branch_follows code n f g args s k h t task task' r a

pub covered_follows : CoveredFollows
covered_follows code n f g args s k h t task task' r m c = by_phase code n f g args s k h t task task' r m c
