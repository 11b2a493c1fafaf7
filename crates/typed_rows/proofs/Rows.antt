-- Instructions and terminators whose registers have types that fit.
use Rattle.std.proofs.Common.{◌≡◌, inl, inr, ◌<◌, ◌≤◌, ℕ, zero, suc, ◌+◌, ◌-◌, ◌^◌, ◌==◌, ◌&&◌, ◌||◌, nat_le, Bool, true, false, List, [], ◌∷◌, ◌++◌, map, length, Option, Some, None, refl, sym, ap, ap₂, ◌∙◌, subst, arith}
use Rattle.std.specs.Prelude.{not, slice_get}
use Rattle.std.proofs.lemmas.Bool.Decides.{eqb_tells, nat_tests}
use Rattle.op_table.specs.declared.kind.OpKind.TheVariants.{ArithAddi, ArithCmpi, ArithConstant, CfBr, CfCondBr, AioCall, AioFail, FuncReturn}
use Rattle.int_ops.specs.declared.Pred.TheVariants.{Slt}
use Rattle.ir_forms.specs.declared.types.Ty.{Ty}
use Rattle.ir_forms.specs.declared.types.Ty.TheVariants.{Index}
use Rattle.ir_verify.specs.Types.{same_type, holds, is_value, is_group, is_awaitable}
use Rattle.low_forms.specs.declared.code.LowKind.{LowKind}
use Rattle.low_forms.specs.declared.code.LowKind.TheVariants.{Row, Await}
use Rattle.low_forms.specs.declared.code.LowAttr.{LowAttr}
use Rattle.low_forms.specs.declared.code.LowAttr.TheVariants as low
use Rattle.low_forms.specs.declared.code.Reg.{Reg}
use Rattle.low_forms.specs.declared.code.BlockNo.{BlockNo}
use Rattle.low_forms.specs.declared.code.Instr.{Instr}
use Rattle.low_forms.specs.declared.code.Block.{Block}
use Rattle.low_forms.specs.declared.code.LowFunc.{LowFunc}
use Rattle.low_forms.specs.declared.code.LowModule.{LowModule}
use Rattle.low_forms.specs.declared.row.LowRow.{LowRow}
use Rattle.low_forms.specs.declared.row.Slot.{Slot}
use Rattle.low_forms.specs.declared.row.Slot.TheVariants as slot
use Rattle.low_forms.specs.Rows.{row_of}
use Rattle.low_forms.specs.Registers.{every, reg_type, on_type, on_types, like_types, have_types, callee, block_at}
use Rattle.low_forms.specs.Fits as fits
use Rattle.low_forms.proofs.Words.{and_left, and_right, and_both}
use Rattle.scf_blocks.specs.Code.{reg_no, regs_from, instr, target, br, cond_br, call, await, return, fail, constant, literal, add, less, truth, code_type}
use Rattle.register_laws.proofs.Views.{Sight, types, see, sight, fits_as, fits_is, likes, likes_is, haves, haves_is}
use Rattle.typed_rows.specs.Typed.{is_type, AreTypes, lone_func, lone_instr, row_fits, gives_held, IsCode}
use Rattle.typed_rows.proofs.Places.{Stand, stand_front, stand_back, stand_all}
use Rattle.typed_rows.proofs.Envs.{some_types, lone_typed}

-- ---- types of the grammar

pub likes_same : (ts : List Ty) → AreTypes ts → likes (some_types ts) (some_types ts) ≡ true
likes_same [] are = refl
likes_same (t ∷ ts) are = and_both (same_type t t) (likes (some_types ts) (some_types ts)) (and_left (is_type t) (every is_type ts) are) (likes_same ts (and_right (is_type t) (every is_type ts) are))

pub haves_same : (ts : List Ty) → AreTypes ts → haves (some_types ts) ts ≡ true
haves_same [] are = refl
haves_same (t ∷ ts) are = and_both (same_type t t) (haves (some_types ts) ts) (and_left (is_type t) (every is_type ts) are) (haves_same ts (and_right (is_type t) (every is_type ts) are))

same_self : (rs : List Reg) → fits.same_regs rs rs ≡ true
same_self [] = refl
same_self (r ∷ rs) = and_both (r.0 == r.0) (fits.same_regs rs rs) (elim (eqb_tells r.0 r.0) [ inl h ↦ h.0 | inr h ↦ absurd (h.1 refl) ]) (same_self rs)

code_fits : (at k : ℕ) → at < k → nat_le at (k - 1) ≡ true
code_fits at k lt = (let le : at ≤ k - 1 = omega (arith, lt) in grind (arith, nat_tests))

-- ---- rows

module _ (code : LowModule) (f : LowFunc) where
  -- an instruction of these types, as its fit sees it
  abbrev pub seen_as : LowAttr → List (Option Ty) → List (Option Ty) → Sight
  seen_as a ops res = record { attr = a; called = see (callee code a); given = f.results; operands = ops; results = res }

  module _ (kind : LowKind) (a : LowAttr) (ts us : List Ty) where
    abbrev lone : LowFunc
    lone = lone_func f.results ts us

    lone_operands : types lone (regs_from 0 ts) ≡ some_types ts
    lone_operands = lone_typed lone 0 ts (stand_front (ts ++ us) 0 ts us (stand_all [] (ts ++ us)))

    lone_results : types lone (regs_from (length ts) us) ≡ some_types us
    lone_results = lone_typed lone (length ts) us (stand_all ts us)

    -- what an instruction asks of the types of its registers, whichever these are
    pub same_fit : (ops res : List Reg) → types f ops ≡ some_types ts → types f res ≡ some_types us → fits.instr_fits code f (instr kind ops res a) ≡ fits.instr_fits code lone (lone_instr kind a ts us)
    same_fit ops res is_ops is_res =
        fits_is code f (instr kind ops res a) (row_of kind)
        ∙ ap₂ (λ (x y : List (Option Ty)). fits_as (row_of kind) (seen_as a x y)) (is_ops ∙ sym lone_operands) (is_res ∙ sym lone_results)
        ∙ sym (fits_is code lone (lone_instr kind a ts us) (row_of kind))

    -- a row fits by the types alone
    pub row_seen : row_fits code f.results kind a ts us ≡ (fits.is_instruction (row_of kind).targets && fits_as (row_of kind) (seen_as a (some_types ts) (some_types us)))
    row_seen = ap (λ b. fits.is_instruction (row_of kind).targets && b)
        (fits_is code lone (lone_instr kind a ts us) (row_of kind) ∙ ap₂ (λ (x y : List (Option Ty)). fits_as (row_of kind) (seen_as a x y)) lone_operands lone_results)

    pub inner_same : (ops res : List Reg) → types f ops ≡ some_types ts → types f res ≡ some_types us → row_fits code f.results kind a ts us ≡ true → fits.inner_fits code f (instr kind ops res a) ≡ true
    inner_same ops res is_ops is_res is = ap (λ b. fits.is_instruction (row_of kind).targets && b) (same_fit ops res is_ops is_res) ∙ is

    pub instr_same : (ops res : List Reg) → types f ops ≡ some_types ts → types f res ≡ some_types us → fits.instr_fits code lone (lone_instr kind a ts us) ≡ true → fits.instr_fits code f (instr kind ops res a) ≡ true
    instr_same ops res is_ops is_res is = same_fit ops res is_ops is_res ∙ is

  -- ---- the instructions that the pass makes

  one_type : (r : Reg) (t : Ty) → reg_type f r ≡ Some t → types f (r ∷ []) ≡ some_types (t ∷ [])
  one_type r t is = ap (λ (o : Option Ty). o ∷ []) is

  two_types : (r q : Reg) (t u : Ty) → reg_type f r ≡ Some t → reg_type f q ≡ Some u → types f (r ∷ q ∷ []) ≡ some_types (t ∷ u ∷ [])
  two_types r q t u is more = ap₂ (λ (o p : Option Ty). o ∷ p ∷ []) is more

  pub add_fits : (sum a b : Reg) → reg_type f sum ≡ Some Index → reg_type f a ≡ Some Index → reg_type f b ≡ Some Index → fits.inner_fits code f (add sum a b) ≡ true
  add_fits sum a b is is_a is_b = inner_same (Row ArithAddi) low.None (Index ∷ Index ∷ []) (Index ∷ []) (a ∷ b ∷ []) (sum ∷ []) (two_types a b Index Index is_a is_b) (one_type sum Index is) refl

  pub less_fits : (test a b : Reg) → reg_type f test ≡ Some truth → reg_type f a ≡ Some Index → reg_type f b ≡ Some Index → fits.inner_fits code f (less test a b) ≡ true
  less_fits test a b is is_a is_b = inner_same (Row ArithCmpi) (low.Pred Slt) (Index ∷ Index ∷ []) (truth ∷ []) (a ∷ b ∷ []) (test ∷ []) (two_types a b Index Index is_a is_b) (one_type test truth is) refl

  pub bit_fits : (r : Reg) (b : Bool) → reg_type f r ≡ Some truth → fits.inner_fits code f (constant r (low.Truth b)) ≡ true
  bit_fits r b is = inner_same (Row ArithConstant) (low.Truth b) [] (truth ∷ []) [] (r ∷ []) refl (one_type r truth is) refl

  pub literal_fits : (r : Reg) (at : ℕ) → IsCode at → reg_type f r ≡ Some code_type → fits.inner_fits code f (constant r (literal at)) ≡ true
  literal_fits r at small is =
      inner_same (Row ArithConstant) (literal at) [] (code_type ∷ []) [] (r ∷ []) refl (one_type r code_type is) (code_fits at (2 ^ 64) small)

  -- ---- targets

  -- the block is there, and takes values of these types
  pub record TakesAt (b : BlockNo) (ts : List Ty) : Type 0 where
    pub block : Block
    pub at : slice_get f.blocks b.0 ≡ Some block
    pub params : types f block.params ≡ some_types ts

  pub to_fits : (b : BlockNo) (ts : List Ty) (args : List Reg) → AreTypes ts → TakesAt b ts → types f args ≡ some_types ts → fits.target_fits f (target b args) ≡ true
  to_fits b ts args typed t is =
      ap (λ o. fits.args_fit o f args) t.at ∙ likes_is f args f t.block.params ∙ ap₂ likes is t.params ∙ likes_same ts typed

  pub br_fits : (b : BlockNo) (ts : List Ty) (args : List Reg) → AreTypes ts → TakesAt b ts → types f args ≡ some_types ts → fits.term_fits code f (br b args) ≡ true
  br_fits b ts args typed t is = to_fits b ts args typed t is

  pub cond_fits : (c : Reg) (b e : BlockNo) (ts : List Ty) (args : List Reg) → reg_type f c ≡ Some truth → AreTypes ts → TakesAt b ts → TakesAt e ts → types f args ≡ some_types ts → fits.term_fits code f (cond_br c b e args) ≡ true
  cond_fits c b e ts args is typed tb te are =
      and_both (fits.instr_fits code f (cond_br c b e args).instr) (fits.either_fits f (target b args) (target e args))
      (instr_same (Row CfCondBr) low.None (truth ∷ []) [] (c ∷ []) [] (one_type c truth is) refl refl)
      (and_both (fits.same_regs args args && fits.target_fits f (target b args)) (fits.target_fits f (target e args))
      (and_both (fits.same_regs args args) (fits.target_fits f (target b args)) (same_self args) (to_fits b ts args typed tb are)) (to_fits e ts args typed te are))

  pub fail_fits : (r : Reg) → reg_type f r ≡ Some code_type → fits.term_fits code f (fail r) ≡ true
  fail_fits r is = and_both (fits.instr_fits code f (fail r).instr) true (instr_same (Row AioFail) low.None (code_type ∷ []) [] (r ∷ []) [] (one_type r code_type is) refl refl) refl

  fill_absent : (row : LowRow) (ss : List Slot) (i : Instr) (rs : List Reg) → fits.fill (slot.Absent ∷ ss) row code f i rs ≡ fits.rest_fits row.rest code f i rs
  fill_absent row ss i [] = refl
  fill_absent row ss i (r ∷ rs) = refl

  pub return_fits : (vs : List Reg) → types f vs ≡ some_types f.results → AreTypes f.results → fits.term_fits code f (return vs) ≡ true
  return_fits vs is are =
      and_both (fits.instr_fits code f (return vs).instr) true
      (and_both (true && fits.fill (slot.Absent ∷ slot.Absent ∷ slot.Absent ∷ []) (row_of (Row FuncReturn)) code f (return vs).instr vs) true
      (fill_absent (row_of (Row FuncReturn)) (slot.Absent ∷ slot.Absent ∷ []) (return vs).instr vs ∙ haves_is f vs f.results ∙ ap (λ os. haves os f.results) is ∙ haves_same f.results are) refl) refl

  -- ---- calls and awaits

  pub record Callee (a : LowAttr) (takes results : List Ty) : Type 0 where
    pub func : LowFunc
    pub is : callee code a ≡ Some func
    pub plainly : func.coroutine ≡ false
    pub params : types func func.params ≡ some_types takes
    pub gives : func.results ≡ results
    pub are_taken : AreTypes takes
    pub are_given : AreTypes results

  -- the block that takes a failure's code
  pub record TakesCode (b : BlockNo) : Type 0 where
    pub block : Block
    pub at : slice_get f.blocks b.0 ≡ Some block
    pub reg : ℕ
    pub params : block.params ≡ reg_no reg ∷ []
    pub type : slice_get f.regs reg ≡ Some code_type

  code_taken : (b : BlockNo) → TakesCode b → fits.takes_code (block_at f b) f ≡ true
  code_taken b t = ap (λ o. fits.takes_code o f) t.at ∙ ap (λ rs. fits.are_code f rs) t.params ∙ ap (λ o. on_type fits.is_code o) t.type

  pub call_fits : (a : LowAttr) (ts us : List Ty) (args : List Reg) (ok failed : BlockNo) → Callee a ts us → types f args ≡ some_types ts → TakesAt ok us → TakesCode failed → fits.term_fits code f (call a args ok failed) ≡ true
  call_fits a ts us args ok failed g is t e =
      let i : Instr = instr (Row AioCall) args [] a in
      and_both (fits.instr_fits code f i) (fits.call_fits code f i (target ok []) (target failed []))
      (and_both (fits.is_plain (callee code a) && fits.fill (slot.Absent ∷ slot.Absent ∷ slot.Absent ∷ []) (row_of (Row AioCall)) code f i args) true
      (and_both (fits.is_plain (callee code a)) (fits.fill (slot.Absent ∷ slot.Absent ∷ slot.Absent ∷ []) (row_of (Row AioCall)) code f i args)
      (ap fits.is_plain g.is ∙ ap not g.plainly)
      (fill_absent (row_of (Row AioCall)) (slot.Absent ∷ slot.Absent ∷ []) i args ∙ ap (λ o. fits.fit_params o f args) g.is ∙ likes_is f args g.func g.func.params ∙ ap₂ likes is g.params ∙ likes_same ts g.are_taken)) refl)
      (and_both (fits.takes_results (block_at f ok) (callee code a) f) (fits.takes_code (block_at f failed) f)
      (ap₂ (λ o h. fits.takes_results o h f) t.at g.is ∙ haves_is f t.block.params g.func.results ∙ ap₂ haves t.params g.gives ∙ haves_same us g.are_given)
      (code_taken failed e))

  held_taken : (t : Ty) (us : List Ty) (params : List Reg) → types f params ≡ some_types us → gives_held t us ≡ true → fits.are_held f (Some t) params ≡ true
  held_taken t [] [] is held = held
  held_taken t [] (r ∷ params) is held = cc
  held_taken t (u ∷ us) [] is held = cc
  held_taken t (u ∷ []) (r ∷ []) is held = (let same : reg_type f r ≡ Some u = cc in ap (λ o. on_types holds (Some t) o) same ∙ held)
  held_taken t (u ∷ []) (r ∷ q ∷ params) is held = cc
  held_taken t (u ∷ v ∷ us) (r ∷ params) is held = cc

  pub await_fits : (o : Reg) (t : Ty) (us : List Ty) (go failed : BlockNo) → reg_type f o ≡ Some t → (is_awaitable t || is_group t) ≡ true → gives_held t us ≡ true → TakesAt go us → TakesAt failed [] → fits.term_fits code f (await o go failed) ≡ true
  await_fits o t us go failed is object held g e =
      let i : Instr = instr Await (o ∷ []) [] low.None in
      and_both (fits.instr_fits code f i) (fits.await_fits f i (target go []) (target failed []))
      (instr_same Await low.None (t ∷ []) [] (o ∷ []) [] (one_type o t is) refl (and_both ((is_awaitable t || is_group t) && true) true (and_both (is_awaitable t || is_group t) true object refl) refl))
      (and_both (fits.takes_held (block_at f go) f (reg_type f o)) (fits.target_fits f (target failed []))
      (ap₂ (λ b x. fits.takes_held b f x) g.at is ∙ held_taken t us g.block.params g.params held) (to_fits failed [] [] refl e refl))
