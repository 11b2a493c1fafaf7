-- The laws of places, and of what instructions take.
use Rattle.std.proofs.Common.{◌≡◌, inl, inr, ℕ, zero, suc, ◌<◌, ◌==◌, ◌||◌, if◌then◌else◌, Bool, true, false, List, [], ◌∷◌, length, Some, None, refl, arith}
use Rattle.low_flow.specs.Lists.{has}
use Rattle.low_flow.proofs.Membership.{or_splits, or_left, or_right}
use Rattle.low_forms.specs.declared.code.Reg.{Reg}
use Rattle.low_forms.specs.declared.code.Instr.{Instr}
use Rattle.low_forms.specs.declared.code.Term.{Term}
use Rattle.low_forms.specs.declared.code.LowFunc.{LowFunc}
use Rattle.low_forms.specs.Rows.{row_of}
use Rattle.low_forms.specs.Registers.{reg_type, on_type}
use Rattle.low_forms.specs.Assigned.{numbers}
use Rattle.low_forms.specs.Owns.{is_object, references}
use Rattle.low_forms.specs.Places.{remaining_in}
use Rattle.low_forms.specs.Laws.{TakesOperands, EndsAtTerm}

references_are : (f : LowFunc) (rs : List Reg) (r : ℕ) → has r (references f rs) ≡ true → has r (numbers rs) ≡ true
references_are f [] r is = is
references_are f (q ∷ rs) r is = step (on_type is_object (reg_type f q)) (references_are f rs r) is
  where
    step : (b : Bool) → (has r (references f rs) ≡ true → has r (numbers rs) ≡ true)
        → has r (if b then q.0 ∷ references f rs else references f rs) ≡ true → ((r == q.0) || has r (numbers rs)) ≡ true
    step true rest is = elim (or_splits (r == q.0) (has r (references f rs)) is) [
      | inl here ↦ or_left (r == q.0) (has r (numbers rs)) here
      | inr later ↦ or_right (r == q.0) (has r (numbers rs)) (rest later)
    ]
    step false rest is = or_right (r == q.0) (has r (numbers rs)) (rest is)

pub takes_operands : TakesOperands
takes_operands f i r is = step (row_of i.kind).takes is
  where
    step : (b : Bool) → has r (if b then references f i.operands else []) ≡ true → has r (numbers i.operands) ≡ true
    step true is = references_are f i.operands r is
    step false is = cc

term_remains : (instrs : List Instr) (t : Term) → remaining_in instrs t (length instrs) ≡ Some (record { instrs = []; term = t })
term_remains [] t = refl
term_remains (i ∷ instrs) t = term_remains instrs t

none_remains : (instrs : List Instr) (t : Term) (k : ℕ) → length instrs < k → remaining_in instrs t k ≡ None
none_remains [] t zero behind = absurd (omega arith)
none_remains [] t (suc k) behind = refl
none_remains (i ∷ instrs) t zero behind = absurd (omega arith)
none_remains (i ∷ instrs) t (suc k) behind = none_remains instrs t k (omega arith)

pub ends_at_term : EndsAtTerm
ends_at_term instrs t = (term_remains instrs t, none_remains instrs t)
