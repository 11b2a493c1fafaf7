-- Uses that are assigned, instruction by instruction.
use Rattle.std.proofs.Common.{◌≡◌, inl, inr, ℕ, zero, suc, ◌<◌, ◌==◌, ◌&&◌, nat_lt, Bool, true, false, List, [], ◌∷◌, ◌++◌, length, Some, sym, ap, ◌∙◌, subst, arith}
use Rattle.std.specs.Prelude.{slice_get}
use Rattle.std.proofs.lemmas.Bool.{ltb-true}
use Rattle.std.proofs.lemmas.Bool.Decides.{eqb_tells}
use Rattle.std.proofs.lemmas.List.{append-nil, append_assoc}
use Rattle.low_flow.specs.Lists.{has}
use Rattle.low_flow.specs.Paths.{IsPath, last_of, assigned_on}
use Rattle.low_flow.proofs.Membership.{or_splits, has_append}
use Rattle.low_forms.specs.declared.code.Reg.{Reg}
use Rattle.low_forms.specs.declared.code.Instr.{Instr}
use Rattle.low_forms.specs.declared.code.Target.{Target}
use Rattle.low_forms.specs.declared.code.Term.{Term}
use Rattle.low_forms.specs.declared.code.Block.{Block}
use Rattle.low_forms.specs.declared.code.LowFunc.{LowFunc}
use Rattle.low_forms.specs.declared.code.LowModule.{LowModule}
use Rattle.low_forms.specs.Registers.{every}
use Rattle.low_forms.specs.Numbers.{regs_within, callee_within, instr_within, target_within, block_within}
use Rattle.low_forms.specs.Edges.{edges}
use Rattle.low_forms.specs.Assigned.{numbers, assigned_by, assigns, args_of, used_at_end, used_at, assigned_before, UsesAssigned}
use Rattle.low_forms.proofs.Words.{and_left, and_right, and_both}
use Rattle.register_laws.specs.Laws.{used_by}
use Rattle.register_laws.proofs.Lists.{every_at, Sub, sub_left, sub_right, sub_then, sub_append}

-- ---- what instructions use is given before them, or by an earlier one

abbrev pub Good : List ℕ → List Instr → Term → Type 0
Good given [] t = Sub (used_at_end t) given
Good given (i ∷ instrs) t = Sub (numbers i.operands) given × Good (given ++ numbers i.results) instrs t

pub good_more : (given more : List ℕ) (instrs : List Instr) (t : Term) → Sub given more → Good given instrs t → Good more instrs t
good_more given more [] t sub good = sub_then (used_at_end t) given more good sub
good_more given more (i ∷ instrs) t sub good = (
  sub_then (numbers i.operands) given more good.0 sub,
  good_more (given ++ numbers i.results) (more ++ numbers i.results) instrs t (sub_append given (numbers i.results) more (numbers i.results) sub (λ r is. is)) good.1,
)

pub good_where : (given : List ℕ) (instrs : List Instr) (t : Term) → ((k r : ℕ) → has r (used_at instrs t k) ≡ true → has r (given ++ assigned_before instrs k) ≡ true) → Good given instrs t
good_where given [] t each = λ r is. subst (λ xs. has r xs ≡ true) (append-nil given) (each 0 r is)
good_where given (i ∷ instrs) t each = (
  λ r is. subst (λ xs. has r xs ≡ true) (append-nil given) (each 0 r is),
  good_where (given ++ numbers i.results) instrs t (λ k r is. subst (λ xs. has r xs ≡ true) (sym (append_assoc given (numbers i.results) (assigned_before instrs k))) (each (suc k) r is)),
)

pub uses_where : (given : List ℕ) (instrs : List Instr) (t : Term) → Good given instrs t → (k r : ℕ) → has r (used_at instrs t k) ≡ true → has r (given ++ assigned_before instrs k) ≡ true
uses_where given [] t good zero r is = sub_left given [] r (good r is)
uses_where given [] t good (suc k) r is = cc
uses_where given (i ∷ instrs) t good zero r is = sub_left given [] r (good.0 r is)
uses_where given (i ∷ instrs) t good (suc k) r is =
    subst (λ xs. has r xs ≡ true) (append_assoc given (numbers i.results) (assigned_before instrs k)) (uses_where (given ++ numbers i.results) instrs t good.1 k r is)

-- what stands at the end has all of the instructions before it
pub good_end : (given : List ℕ) (instrs : List Instr) (t : Term) → Good given instrs t → Sub (used_at_end t) (given ++ assigned_by instrs)
good_end given [] t good = sub_then (used_at_end t) given (given ++ []) good (sub_left given [])
good_end given (i ∷ instrs) t good = λ r is.
    subst (λ xs. has r xs ≡ true) (append_assoc given (numbers i.results) (assigned_by instrs)) (good_end (given ++ numbers i.results) instrs t good.1 r is)

-- ---- registers in range

pub within_has : (f : LowFunc) (rs : List Reg) (r : ℕ) → regs_within f rs ≡ true → has r (numbers rs) ≡ true → r < length f.regs
within_has f [] r within is = cc
within_has f (q ∷ rs) r within is = elim (or_splits (r == q.0) (has r (numbers rs)) is) [
  | inl here ↦ elim (eqb_tells r q.0) [
    | inl same ↦ (let less : q.0 < length f.regs = ltb-true q.0 (length f.regs) (and_left (nat_lt q.0 (length f.regs)) (regs_within f rs) within) in omega (arith, less, same.1))
    | inr other ↦ (let no : (r == q.0) ≡ false = other.0 in cc)
  ]
  | inr later ↦ within_has f rs r (and_right (nat_lt q.0 (length f.regs)) (regs_within f rs) within) later
]

pub args_within : (f : LowFunc) (ts : List Target) (r : ℕ) → every (target_within f) ts ≡ true → has r (args_of ts) ≡ true → r < length f.regs
args_within f [] r within is = cc
args_within f (t ∷ ts) r within is = elim (or_splits (has r (numbers t.args)) (has r (args_of ts)) (sym (has_append r (numbers t.args) (args_of ts)) ∙ is)) [
  | inl here ↦ within_has f t.args r (and_right (nat_lt t.block.0 (length f.blocks)) (regs_within f t.args) (and_left (target_within f t) (every (target_within f) ts) within)) here
  | inr later ↦ args_within f ts r (and_right (target_within f t) (every (target_within f) ts) within) later
]

module _ (code : LowModule) (f : LowFunc) where
  abbrev R : List Reg → Bool
  R rs = regs_within f rs

  pub instr_parts : (i : Instr) → instr_within code f i ≡ true → (regs_within f i.operands ≡ true) × (regs_within f i.results ≡ true) × (callee_within code i.attr ≡ true)
  instr_parts i is =
      let two : (R i.operands && R i.results) ≡ true = and_left (R i.operands && R i.results) (callee_within code i.attr) is in
      (and_left (R i.operands) (R i.results) two, and_right (R i.operands) (R i.results) two, and_right (R i.operands && R i.results) (callee_within code i.attr) is)

  pub record Parts (b : Block) : Type 0 where
    pub params : regs_within f b.params ≡ true
    pub instrs : every (instr_within code f) b.instrs ≡ true
    pub last : instr_within code f b.term.instr ≡ true
    pub targets : every (target_within f) b.term.targets ≡ true

  pub block_parts : (b : Block) → block_within code f b ≡ true → Parts b
  block_parts b is =
      let A : Bool = R b.params in
      let B : Bool = every (instr_within code f) b.instrs in
      let C : Bool = instr_within code f b.term.instr in
      let D : Bool = every (target_within f) b.term.targets in
      let abc : ((A && B) && C) ≡ true = and_left ((A && B) && C) D is in
      let ab : (A && B) ≡ true = and_left (A && B) C abc in
      record { params = and_left A B ab; instrs = and_right A B ab; last = and_right (A && B) C abc; targets = and_right ((A && B) && C) D is }

  pub block_from : (b : Block) → Parts b → block_within code f b ≡ true
  block_from b p =
      let A : Bool = R b.params in
      let B : Bool = every (instr_within code f) b.instrs in
      let C : Bool = instr_within code f b.term.instr in
      let D : Bool = every (target_within f) b.term.targets in
      and_both ((A && B) && C) D (and_both (A && B) C (and_both A B p.params p.instrs) p.last) p.targets

  uses_within : (instrs : List Instr) (t : Term) (k r : ℕ) → every (instr_within code f) instrs ≡ true → instr_within code f t.instr ≡ true → every (target_within f) t.targets ≡ true
      → has r (used_at instrs t k) ≡ true → r < length f.regs
  uses_within [] t zero r instrs last targets is = elim (or_splits (has r (numbers t.instr.operands)) (has r (args_of t.targets)) (sym (has_append r (numbers t.instr.operands) (args_of t.targets)) ∙ is)) [
    | inl operand ↦ within_has f t.instr.operands r (instr_parts t.instr last).0 operand
    | inr arg ↦ args_within f t.targets r targets arg
  ]
  uses_within [] t (suc k) r instrs last targets is = cc
  uses_within (i ∷ more) t zero r instrs last targets is = within_has f i.operands r (instr_parts i (and_left (instr_within code f i) (every (instr_within code f) more) instrs)).0 is
  uses_within (i ∷ more) t (suc k) r instrs last targets is = uses_within more t k r (and_right (instr_within code f i) (every (instr_within code f) more) instrs) last targets is

  -- ---- by function

  abbrev pub Before : List ℕ → Block → List ℕ
  Before path b = numbers f.params ++ (assigned_on (assigns f) 0 path ++ numbers b.params)

  abbrev pub AreGiven : Type 0
  AreGiven = (path : List ℕ) (b : Block) → IsPath (edges f) 0 path → slice_get f.blocks (last_of 0 path) ≡ Some b → Good (Before path b) b.instrs b.term

  regroup : (p a q e : List ℕ) → (p ++ (a ++ q)) ++ e ≡ p ++ (a ++ (q ++ e))
  regroup p a q e = append_assoc p (a ++ q) e ∙ ap (λ xs. p ++ xs) (append_assoc a q e)

  pub given_where : every (block_within code f) f.blocks ≡ true → UsesAssigned f → AreGiven
  given_where within uses path b follows at =
      let p : Parts b = block_parts b (every_at (block_within code f) f.blocks (last_of 0 path) b within at) in
      good_where (Before path b) b.instrs b.term (λ k r is.
      subst (λ xs. has r xs ≡ true) (sym (regroup (numbers f.params) (assigned_on (assigns f) 0 path) (numbers b.params) (assigned_before b.instrs k)))
      (uses path b k r follows at (uses_within b.instrs b.term k r p.instrs p.last p.targets is) is))

  pub assigned_where : AreGiven → UsesAssigned f
  assigned_where given = λ path b k r follows at inside is.
      subst (λ xs. has r xs ≡ true) (regroup (numbers f.params) (assigned_on (assigns f) 0 path) (numbers b.params) (assigned_before b.instrs k))
      (uses_where (Before path b) b.instrs b.term (given path b follows at) k r is)

-- ---- uses of a block, all together

pub uses_all : (instrs : List Instr) (t : Term) (k r : ℕ) → has r (used_at instrs t k) ≡ true → has r (used_by instrs ++ used_at_end t) ≡ true
uses_all [] t zero r is = is
uses_all [] t (suc k) r is = cc
uses_all (i ∷ instrs) t zero r is = sub_left (numbers i.operands ++ used_by instrs) (used_at_end t) r (sub_left (numbers i.operands) (used_by instrs) r is)
uses_all (i ∷ instrs) t (suc k) r is =
    subst (λ xs. has r xs ≡ true) (sym (append_assoc (numbers i.operands) (used_by instrs) (used_at_end t)))
    (sub_right (numbers i.operands) (used_by instrs ++ used_at_end t) r (uses_all instrs t k r is))
