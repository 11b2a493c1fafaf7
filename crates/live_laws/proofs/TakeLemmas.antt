-- What is used or taken is used at its place.
use Rattle.std.proofs.Common.{◌≡◌, ◌⊎◌, inl, inr, ℕ, zero, suc, ◌==◌, ◌||◌, if◌then◌else◌, Bool, true, false, List, [], ◌∷◌, ◌++◌, length, take, Option, Some, None, refl, sym, ap, ◌∙◌, arith}
use Rattle.std.specs.Prelude.{slice_get}
use Rattle.low_flow.specs.Lists.{has}
use Rattle.low_forms.specs.declared.code.Reg.{Reg}
use Rattle.low_forms.specs.declared.code.Instr.{Instr}
use Rattle.low_forms.specs.declared.code.Target.{Target}
use Rattle.low_forms.specs.declared.code.Term.{Term}
use Rattle.low_forms.specs.declared.code.Block.{Block}
use Rattle.low_forms.specs.declared.code.LowFunc.{LowFunc}
use Rattle.low_forms.specs.Rows.{row_of}
use Rattle.low_forms.specs.Registers.{reg_type, on_type}
use Rattle.low_forms.specs.Assigned.{numbers, args_of, used_at, used_at_end}
use Rattle.low_forms.specs.Owns.{is_object, references, uses, takes, takes_at_end, first_args}
use Rattle.liveness.specs.Live.{IsLive, uses_of}
use Rattle.live_laws.specs.Laws.{TakesAreUses}

or_splits : (a b : Bool) → (a || b) ≡ true → (a ≡ true) ⊎ (b ≡ true)
or_splits true b is = inl refl
or_splits false b is = inr is

or_left : (a b : Bool) → a ≡ true → (a || b) ≡ true
or_left true b is = refl
or_left false b is = cc

or_right : (a b : Bool) → b ≡ true → (a || b) ≡ true
or_right true b is = refl
or_right false b is = is

or_assoc : (a b c : Bool) → ((a || b) || c) ≡ (a || (b || c))
or_assoc true b c = refl
or_assoc false b c = refl

has_append : (x : ℕ) (xs ys : List ℕ) → has x (xs ++ ys) ≡ (has x xs || has x ys)
has_append x [] ys = refl
has_append x (z ∷ xs) ys = ap (λ b. (x == z) || b) (has_append x xs ys) ∙ sym (or_assoc (x == z) (has x xs) (has x ys))

references_are : (f : LowFunc) (rs : List Reg) (r : ℕ) → has r (references f rs) ≡ true → has r (numbers rs) ≡ true
references_are f [] r is = is
references_are f (q ∷ rs) r is = step (on_type is_object (reg_type f q)) (references_are f rs r) is
  where
    step : (b : Bool) → (has r (references f rs) ≡ true → has r (numbers rs) ≡ true)
        → has r (if b then q.0 ∷ references f rs else references f rs) ≡ true → ((r == q.0) || has r (numbers rs)) ≡ true
    step true rest is = elim (or_splits (r == q.0) (has r (references f rs)) is) [
      | inl here ↦ or_left (r == q.0) (has r (numbers rs)) here
      | inr later ↦ or_right (r == q.0) (has r (numbers rs)) (rest later)
    ]
    step false rest is = or_right (r == q.0) (has r (numbers rs)) (rest is)

where_taken : (f : LowFunc) (b : Bool) (rs : List Reg) (r : ℕ) → has r (if b then references f rs else []) ≡ true → has r (numbers rs) ≡ true
where_taken f true rs r is = references_are f rs r is
where_taken f false rs r is = cc

has_take : (n : ℕ) (xs : List ℕ) (r : ℕ) → has r (take n xs) ≡ true → has r xs ≡ true
has_take zero xs r is = cc
has_take (suc n) [] r is = is
has_take (suc n) (x ∷ xs) r is = elim (or_splits (r == x) (has r (take n xs)) is) [
  | inl here ↦ or_left (r == x) (has r xs) here
  | inr later ↦ or_right (r == x) (has r xs) (has_take n xs r later)
]

operands_at : (instrs : List Instr) (t : Term) (row : ℕ) (i : Instr) → slice_get instrs row ≡ Some i → used_at instrs t row ≡ numbers i.operands
operands_at [] t row i at = cc
operands_at (j ∷ instrs) t zero i at = (let same : j ≡ i = cc in ap (λ (k : Instr). numbers k.operands) same)
operands_at (j ∷ instrs) t (suc row) i at = operands_at instrs t row i at

end_at : (instrs : List Instr) (t : Term) → used_at instrs t (length instrs) ≡ used_at_end t
end_at [] t = refl
end_at (i ∷ instrs) t = end_at instrs t

first_are : (targets : List Target) (r : ℕ) → has r (numbers (first_args targets)) ≡ true → has r (args_of targets) ≡ true
first_are [] r is = is
first_are (t ∷ targets) r is = has_append r (numbers t.args) (args_of targets) ∙ or_left (has r (numbers t.args)) (has r (args_of targets)) is

live_there : (f : LowFunc) (block row : ℕ) (b : Block) (r : ℕ) → slice_get f.blocks block ≡ Some b → has r (used_at b.instrs b.term row) ≡ true → IsLive f r (record { block = block; row = row })
live_there f block row b r at is = record { path = []; follows = tt; undefined = refl; used = ap (λ (o : Option Block). has r (uses_of o row)) at ∙ is }

among : (f : LowFunc) (i : Instr) (r : ℕ) → (has r (uses i) ≡ true) ⊎ (has r (takes f i) ≡ true) → has r (numbers i.operands) ≡ true
among f i r (inl is) = has_take (row_of i.kind).uses (numbers i.operands) r is
among f i r (inr is) = where_taken f (row_of i.kind).takes i.operands r is

at_end : (f : LowFunc) (t : Term) (r : ℕ) → (has r (uses t.instr) ≡ true) ⊎ (has r (takes_at_end f t) ≡ true) → has r (used_at_end t) ≡ true
at_end f t r (inl is) = has_append r (numbers t.instr.operands) (args_of t.targets) ∙ or_left (has r (numbers t.instr.operands)) (has r (args_of t.targets)) (among f t.instr r (inl is))
at_end f t r (inr is) = elim (or_splits (has r (takes f t.instr)) (has r (if (row_of t.instr.kind).takes then references f (first_args t.targets) else []))
    (sym (has_append r (takes f t.instr) (if (row_of t.instr.kind).takes then references f (first_args t.targets) else [])) ∙ is)) [
      | inl own ↦ has_append r (numbers t.instr.operands) (args_of t.targets) ∙ or_left (has r (numbers t.instr.operands)) (has r (args_of t.targets)) (among f t.instr r (inr own))
      | inr args ↦ has_append r (numbers t.instr.operands) (args_of t.targets)
          ∙ or_right (has r (numbers t.instr.operands)) (has r (args_of t.targets)) (first_are t.targets r (where_taken f (row_of t.instr.kind).takes (first_args t.targets) r args))
    ]

pub takes_are_uses : TakesAreUses
takes_are_uses f block b r at = (
  λ row i i_at given. live_there f block row b r at (ap (λ (xs : List ℕ). has r xs) (operands_at b.instrs b.term row i i_at) ∙ among f i r given),
  λ given. live_there f block (length b.instrs) b r at (ap (λ (xs : List ℕ). has r xs) (end_at b.instrs b.term) ∙ at_end f b.term r given),
)
