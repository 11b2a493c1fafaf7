-- Rows of code without counts: what of their registers may be an object.
use Rattle.std.proofs.Common.{◌≡◌, inl, inr, ℕ, zero, suc, ◌==◌, ◌&&◌, ◌||◌, not, if◌then◌else◌, Bool, true, false, List, [], ◌∷◌, length, take, refl, sym, ap, ◌∙◌, arith, subst}
use Rattle.std.specs.Prelude.{slice_get}
use Rattle.std.proofs.lemmas.Bool.Decides.{eqb_tells, nat_tests}
use Rattle.op_table.specs.declared.kind.OpKind.TheVariants as op
use Rattle.ir_forms.specs.declared.types.Ty.{Ty}
use Rattle.ir_forms.specs.declared.types.Ty.TheVariants as ty
use Rattle.ir_verify.specs.Types.{is_index, has_async_cells}
use Rattle.low_flow.specs.Lists.{has}
use Rattle.low_forms.specs.declared.code.Reg.{Reg}
use Rattle.low_forms.specs.declared.code.LowKind.{LowKind}
use Rattle.low_forms.specs.declared.code.LowKind.TheVariants.{Row, Launch, Await}
use Rattle.low_forms.specs.declared.code.Instr.{Instr}
use Rattle.low_forms.specs.declared.code.LowFunc.{LowFunc}
use Rattle.low_forms.specs.declared.code.LowModule.{LowModule}
use Rattle.low_forms.specs.declared.row.LowRow.{LowRow}
use Rattle.low_forms.specs.declared.row.Slot.{Slot}
use Rattle.low_forms.specs.declared.row.Slot.TheVariants as slot
use Rattle.low_forms.specs.declared.row.Rest.{Rest}
use Rattle.low_forms.specs.declared.row.Rest.TheVariants as rest
use Rattle.low_forms.specs.declared.row.Results.{Results}
use Rattle.low_forms.specs.declared.row.Results.TheVariants as results
use Rattle.low_forms.specs.declared.row.Targets.{Targets}
use Rattle.low_forms.specs.declared.row.Targets.TheVariants as to
use Rattle.low_forms.specs.declared.row.Change.{Change}
use Rattle.low_forms.specs.declared.row.Change.TheVariants as change
use Rattle.low_forms.specs.Rows.{row_of}
use Rattle.low_forms.specs.Registers.{every, reg_type, on_type, type_at}
use Rattle.low_forms.specs.Assigned.{numbers}
use Rattle.low_forms.specs.Fits.{is_absent, slot_fits, reg_fits, rest_fits, fill, operands_fit, result_fits, these_fit, results_fit, is_instruction}
use Rattle.low_forms.specs.Owns.{is_object, references, uses, takes}
use Rattle.low_forms.specs.Saves.{is_save, is_suspend}
use Rattle.liveness.proofs.ListLemmas.{and_both, or_splits, or_left, or_right}
use Rattle.own_tables.specs.Owns.{is_end}
use Rattle.ref_counting.specs.Objects.{is_return}
use Rattle.uncounted_laws.specs.Laws.{is_foreign}
use Rattle.uncounted_laws.proofs.Types.{is_basic, basic_none, basic_at, is_plain_slot, plain_none, on_none, cells_at}

-- ---- what the rows say

abbrev is_nothing : Change → Bool
is_nothing change.Nothing = true
is_nothing _ = false

abbrev is_own : Results → Bool
is_own results.Own = true
is_own _ = false

abbrev is_plain_rest : Rest → Bool
is_plain_rest rest.Nothing = true
is_plain_rest rest.Sizes = true
is_plain_rest (rest.Indices k) = true
is_plain_rest _ = false

-- behind the first n, which are used, no object stands
abbrev plain_from : LowRow → ℕ → List Slot → Bool
plain_from row n [] = true
plain_from row zero (s ∷ ss) = is_plain_slot row s && plain_from row zero ss
plain_from row (suc n) (s ∷ ss) = plain_from row n ss

abbrev slots_of : LowRow → List Slot
slots_of row = row.first ∷ row.second ∷ row.third ∷ []

abbrev operands_plain : LowRow → Bool
operands_plain row = is_plain_rest row.rest && plain_from row row.uses (slots_of row)

abbrev result_plain : LowRow → Bool
result_plain row = is_own row.results && is_plain_slot row row.result

-- targets that hand arguments on
abbrev pub hands_on : Targets → Bool
hands_on to.One = true
hands_on to.Either = true
hands_on _ = false

abbrev pub suspends : Targets → Bool
suspends to.Suspend = true
suspends _ = false

abbrev row_checks : LowRow → Bool
row_checks row =
    is_nothing row.change && ((row.takes || operands_plain row) && ((row.gives || result_plain row) && ((is_instruction row.targets || (row.uses == 0)) && (not (hands_on row.targets) || row.takes))))

abbrev kind_checks : LowKind → Bool
kind_checks k = row_checks (row_of k) && ((not (is_return k) || is_end (row_of k).targets) && (is_suspend k || not (suspends (row_of k).targets)))

checked : (k : LowKind) → (row_of k).stands ≡ true → is_foreign k ≡ false → kind_checks k ≡ true
checked (Row op.AioCall) stands mere = refl
checked (Row op.AioFail) stands mere = refl
checked (Row op.AioFinish) stands mere = refl
checked (Row op.AioTryCall) stands mere = cc
checked (Row op.ArithAddi) stands mere = refl
checked (Row op.ArithAndi) stands mere = refl
checked (Row op.ArithCmpi) stands mere = refl
checked (Row op.ArithConstant) stands mere = refl
checked (Row op.ArithDivsi) stands mere = refl
checked (Row op.ArithDivui) stands mere = refl
checked (Row op.ArithExtsi) stands mere = refl
checked (Row op.ArithExtui) stands mere = refl
checked (Row op.ArithIndexCast) stands mere = refl
checked (Row op.ArithIndexCastui) stands mere = refl
checked (Row op.ArithMaxsi) stands mere = refl
checked (Row op.ArithMaxui) stands mere = refl
checked (Row op.ArithMinsi) stands mere = refl
checked (Row op.ArithMinui) stands mere = refl
checked (Row op.ArithMuli) stands mere = refl
checked (Row op.ArithOri) stands mere = refl
checked (Row op.ArithRemsi) stands mere = refl
checked (Row op.ArithRemui) stands mere = refl
checked (Row op.ArithSelect) stands mere = refl
checked (Row op.ArithShli) stands mere = refl
checked (Row op.ArithShrsi) stands mere = refl
checked (Row op.ArithShrui) stands mere = refl
checked (Row op.ArithSubi) stands mere = refl
checked (Row op.ArithTrunci) stands mere = refl
checked (Row op.ArithXori) stands mere = refl
checked (Row op.AsyncAddToGroup) stands mere = cc
checked (Row op.AsyncAwait) stands mere = cc
checked (Row op.AsyncAwaitAll) stands mere = cc
checked (Row op.AsyncCoroBegin) stands mere = refl
checked (Row op.AsyncCoroEnd) stands mere = refl
checked (Row op.AsyncCoroFree) stands mere = refl
checked (Row op.AsyncCoroId) stands mere = refl
checked (Row op.AsyncCoroSave) stands mere = cc
checked (Row op.AsyncCoroSuspend) stands mere = refl
checked (Row op.AsyncCreateGroup) stands mere = cc
checked (Row op.AsyncExecute) stands mere = cc
checked (Row op.AsyncRuntimeAddRef) stands mere = cc
checked (Row op.AsyncRuntimeAddToGroup) stands mere = refl
checked (Row op.AsyncRuntimeAwait) stands mere = refl
checked (Row op.AsyncRuntimeAwaitAndResume) stands mere = refl
checked (Row op.AsyncRuntimeCreate) stands mere = refl
checked (Row op.AsyncRuntimeCreateGroup) stands mere = refl
checked (Row op.AsyncRuntimeDropRef) stands mere = cc
checked (Row op.AsyncRuntimeIsError) stands mere = refl
checked (Row op.AsyncRuntimeLoad) stands mere = refl
checked (Row op.AsyncRuntimeResume) stands mere = refl
checked (Row op.AsyncRuntimeSetAvailable) stands mere = cc
checked (Row op.AsyncRuntimeSetError) stands mere = cc
checked (Row op.AsyncRuntimeStore) stands mere = cc
checked (Row op.AsyncYield) stands mere = cc
checked (Row op.CfAssert) stands mere = cc
checked (Row op.CfBr) stands mere = refl
checked (Row op.CfCondBr) stands mere = refl
checked (Row op.FuncCall) stands mere = refl
checked (Row op.FuncFunc) stands mere = cc
checked (Row op.FuncReturn) stands mere = refl
checked (Row op.MemrefAlloc) stands mere = refl
checked (Row op.MemrefDealloc) stands mere = refl
checked (Row op.MemrefDim) stands mere = refl
checked (Row op.MemrefLoad) stands mere = refl
checked (Row op.MemrefStore) stands mere = refl
checked (Row op.BuiltinModule) stands mere = cc
checked (Row op.ScfCondition) stands mere = cc
checked (Row op.ScfFor) stands mere = cc
checked (Row op.ScfIf) stands mere = cc
checked (Row op.ScfParallel) stands mere = cc
checked (Row op.ScfReduce) stands mere = cc
checked (Row op.ScfWhile) stands mere = cc
checked (Row op.ScfYield) stands mere = cc
checked Launch stands mere = refl
checked Await stands mere = cc

pub save_foreign : (k : LowKind) → is_foreign k ≡ false → is_save k ≡ false
save_foreign (Row op.AioCall) mere = refl
save_foreign (Row op.AioFail) mere = refl
save_foreign (Row op.AioFinish) mere = refl
save_foreign (Row op.AioTryCall) mere = refl
save_foreign (Row op.ArithAddi) mere = refl
save_foreign (Row op.ArithAndi) mere = refl
save_foreign (Row op.ArithCmpi) mere = refl
save_foreign (Row op.ArithConstant) mere = refl
save_foreign (Row op.ArithDivsi) mere = refl
save_foreign (Row op.ArithDivui) mere = refl
save_foreign (Row op.ArithExtsi) mere = refl
save_foreign (Row op.ArithExtui) mere = refl
save_foreign (Row op.ArithIndexCast) mere = refl
save_foreign (Row op.ArithIndexCastui) mere = refl
save_foreign (Row op.ArithMaxsi) mere = refl
save_foreign (Row op.ArithMaxui) mere = refl
save_foreign (Row op.ArithMinsi) mere = refl
save_foreign (Row op.ArithMinui) mere = refl
save_foreign (Row op.ArithMuli) mere = refl
save_foreign (Row op.ArithOri) mere = refl
save_foreign (Row op.ArithRemsi) mere = refl
save_foreign (Row op.ArithRemui) mere = refl
save_foreign (Row op.ArithSelect) mere = refl
save_foreign (Row op.ArithShli) mere = refl
save_foreign (Row op.ArithShrsi) mere = refl
save_foreign (Row op.ArithShrui) mere = refl
save_foreign (Row op.ArithSubi) mere = refl
save_foreign (Row op.ArithTrunci) mere = refl
save_foreign (Row op.ArithXori) mere = refl
save_foreign (Row op.AsyncAddToGroup) mere = refl
save_foreign (Row op.AsyncAwait) mere = refl
save_foreign (Row op.AsyncAwaitAll) mere = refl
save_foreign (Row op.AsyncCoroBegin) mere = refl
save_foreign (Row op.AsyncCoroEnd) mere = refl
save_foreign (Row op.AsyncCoroFree) mere = refl
save_foreign (Row op.AsyncCoroId) mere = refl
save_foreign (Row op.AsyncCoroSave) mere = cc
save_foreign (Row op.AsyncCoroSuspend) mere = refl
save_foreign (Row op.AsyncCreateGroup) mere = refl
save_foreign (Row op.AsyncExecute) mere = refl
save_foreign (Row op.AsyncRuntimeAddRef) mere = refl
save_foreign (Row op.AsyncRuntimeAddToGroup) mere = refl
save_foreign (Row op.AsyncRuntimeAwait) mere = refl
save_foreign (Row op.AsyncRuntimeAwaitAndResume) mere = refl
save_foreign (Row op.AsyncRuntimeCreate) mere = refl
save_foreign (Row op.AsyncRuntimeCreateGroup) mere = refl
save_foreign (Row op.AsyncRuntimeDropRef) mere = refl
save_foreign (Row op.AsyncRuntimeIsError) mere = refl
save_foreign (Row op.AsyncRuntimeLoad) mere = refl
save_foreign (Row op.AsyncRuntimeResume) mere = refl
save_foreign (Row op.AsyncRuntimeSetAvailable) mere = refl
save_foreign (Row op.AsyncRuntimeSetError) mere = refl
save_foreign (Row op.AsyncRuntimeStore) mere = refl
save_foreign (Row op.AsyncYield) mere = refl
save_foreign (Row op.CfAssert) mere = refl
save_foreign (Row op.CfBr) mere = refl
save_foreign (Row op.CfCondBr) mere = refl
save_foreign (Row op.FuncCall) mere = refl
save_foreign (Row op.FuncFunc) mere = refl
save_foreign (Row op.FuncReturn) mere = refl
save_foreign (Row op.MemrefAlloc) mere = refl
save_foreign (Row op.MemrefDealloc) mere = refl
save_foreign (Row op.MemrefDim) mere = refl
save_foreign (Row op.MemrefLoad) mere = refl
save_foreign (Row op.MemrefStore) mere = refl
save_foreign (Row op.BuiltinModule) mere = refl
save_foreign (Row op.ScfCondition) mere = refl
save_foreign (Row op.ScfFor) mere = refl
save_foreign (Row op.ScfIf) mere = refl
save_foreign (Row op.ScfParallel) mere = refl
save_foreign (Row op.ScfReduce) mere = refl
save_foreign (Row op.ScfWhile) mere = refl
save_foreign (Row op.ScfYield) mere = refl
save_foreign Launch mere = refl
save_foreign Await mere = refl

-- ---- the same, one by one

nothing_is : (c : Change) → is_nothing c ≡ true → c ≡ change.Nothing
nothing_is change.Nothing is = refl
nothing_is change.Adds is = cc
nothing_is change.Drops is = cc

pub record Checked (k : LowKind) : Type 0 where
  pub counts_nothing : (row_of k).change ≡ change.Nothing
  pub operands : ((row_of k).takes || operands_plain (row_of k)) ≡ true
  pub results : ((row_of k).gives || result_plain (row_of k)) ≡ true
  pub uses : (is_instruction (row_of k).targets || ((row_of k).uses == 0)) ≡ true
  pub hands : (not (hands_on (row_of k).targets) || (row_of k).takes) ≡ true
  pub returns : (not (is_return k) || is_end (row_of k).targets) ≡ true
  pub suspended : (is_suspend k || not (suspends (row_of k).targets)) ≡ true

pub checks : (k : LowKind) → (row_of k).stands ≡ true → is_foreign k ≡ false → Checked k
checks k stands mere =
    let row : LowRow = row_of k in
    let all = and_both (row_checks row) ((not (is_return k) || is_end row.targets) && (is_suspend k || not (suspends row.targets))) (checked k stands mere) in
    let ends = and_both (not (is_return k) || is_end row.targets) (is_suspend k || not (suspends row.targets)) all.1 in
    let a = and_both (is_nothing row.change) ((row.takes || operands_plain row) && ((row.gives || result_plain row) && ((is_instruction row.targets || (row.uses == 0)) && (not (hands_on row.targets) || row.takes)))) all.0 in
    let b = and_both (row.takes || operands_plain row) ((row.gives || result_plain row) && ((is_instruction row.targets || (row.uses == 0)) && (not (hands_on row.targets) || row.takes))) a.1 in
    let c = and_both (row.gives || result_plain row) ((is_instruction row.targets || (row.uses == 0)) && (not (hands_on row.targets) || row.takes)) b.1 in
    let d = and_both (is_instruction row.targets || (row.uses == 0)) (not (hands_on row.targets) || row.takes) c.1 in
    record { counts_nothing = nothing_is row.change a.0; operands = b.0; results = c.0; uses = d.0; hands = d.1; returns = ends.0; suspended = ends.1 }

-- ---- registers that fit

pub some_long : (n : ℕ) → (suc n == 0) ≡ false
some_long n = grind (arith, nat_tests)

index_none : (t : Ty) → is_index t ≡ true → is_object t ≡ false
index_none (ty.Int w) is = cc
index_none ty.Index is = refl
index_none (ty.Memref m) is = cc
index_none ty.Token is = cc
index_none (ty.Value p) is = cc
index_none ty.Group is = cc
index_none ty.CoroId is = cc
index_none ty.CoroHandle is = cc
index_none ty.CoroState is = cc
index_none ty.Untyped is = cc

basic_there : (s : Slot) → is_basic s ≡ true → is_absent s ≡ false
basic_there s is = step (is_absent s) refl
  where
    absent : (s : Slot) → is_absent s ≡ true → is_basic s ≡ false
    absent slot.Absent a = refl
    absent slot.Number a = cc
    absent slot.Truth a = cc
    absent slot.Index a = cc
    absent slot.Code a = cc
    absent slot.Memref a = cc
    absent slot.Element a = cc
    absent slot.Value a = cc
    absent slot.Group a = cc
    absent slot.Object a = cc
    absent slot.CoroId a = cc
    absent slot.CoroHandle a = cc
    absent slot.CoroState a = cc
    absent (slot.Like k) a = cc
    absent (slot.CellOf k) a = cc
    absent (slot.HeldBy k) a = cc
    absent slot.Wider a = cc
    absent slot.Narrower a = cc
    absent slot.Recast a = cc
    absent slot.OfLiteral a = cc

    step : (b : Bool) → is_absent s ≡ b → b ≡ false
    step true a = (let e : is_basic s ≡ false = absent s a in cc)
    step false a = refl

module _ (f : LowFunc) (r : ℕ) (object : on_type is_object (slice_get f.regs r) ≡ true) where
  -- a register of no object isn't this one
  other : (q : Reg) → on_type is_object (reg_type f q) ≡ false → (r == q.0) ≡ false
  other q none = elim (eqb_tells r q.0) [
    | inl same ↦ (let e : on_type is_object (slice_get f.regs q.0) ≡ true = subst (λ x. on_type is_object (slice_get f.regs x) ≡ true) same.1 object in cc)
    | inr apart ↦ apart.0
  ]

  pub has_references : (rs : List Reg) → has r (references f rs) ≡ has r (numbers rs)
  has_references [] = refl
  has_references (q ∷ rs) = step (on_type is_object (reg_type f q)) refl (has_references rs)
    where
      step : (b : Bool) → on_type is_object (reg_type f q) ≡ b → has r (references f rs) ≡ has r (numbers rs)
          → has r (if b then q.0 ∷ references f rs else references f rs) ≡ ((r == q.0) || has r (numbers rs))
      step true is later = ap (λ b. (r == q.0) || b) later
      step false is later = later ∙ sym (ap (λ b. b || has r (numbers rs)) (other q is))

  -- ---- the rest

  indices_none : (rs : List Reg) → every (λ q. on_type is_index (reg_type f q)) rs ≡ true → has r (numbers rs) ≡ false
  indices_none [] all = refl
  indices_none (q ∷ rs) all =
      let both = and_both (on_type is_index (reg_type f q)) (every (λ q. on_type is_index (reg_type f q)) rs) all in
      ap (λ b. b || has r (numbers rs)) (other q (on_none is_index is_object index_none (reg_type f q) both.0)) ∙ indices_none rs both.1

  rest_none : (code : LowModule) (i : Instr) (asked : Rest) (rs : List Reg) → is_plain_rest asked ≡ true → rest_fits asked code f i rs ≡ true → has r (numbers rs) ≡ false
  rest_none code i rest.Nothing [] plain is = refl
  rest_none code i rest.Nothing (q ∷ rs) plain is = (let e : (length (q ∷ rs) == 0) ≡ false = some_long (length rs) in cc)
  rest_none code i rest.Sizes rs plain is = indices_none rs (and_both _ (every (λ q. on_type is_index (reg_type f q)) rs) is).1
  rest_none code i (rest.Indices k) rs plain is = indices_none rs (and_both _ (every (λ q. on_type is_index (reg_type f q)) rs) is).1
  rest_none code i rest.Params rs plain is = cc
  rest_none code i rest.Returned rs plain is = cc

-- ---- the first operands

module _ (code : LowModule) (f : LowFunc) (i : Instr) (row : LowRow) where
  first_none : (s : Slot) (ss : List Slot) (rs : List Reg) → is_basic s ≡ true → fill (s ∷ ss) row code f i rs ≡ true → on_type is_object (type_at f rs 0) ≡ false
  first_none s ss [] basic is = refl
  first_none s ss (q ∷ rs) basic is = on_none (slot_fits s f i.operands i.attr) is_object (λ t fits. basic_none s f i.operands i.attr t basic fits) (reg_type f q)
      (and_both (reg_fits s f i q) (fill ss row code f i rs) (sym (ap (λ b. if b then rest_fits row.rest code f i (q ∷ rs) else (reg_fits s f i q && fill ss row code f i rs)) (basic_there s basic)) ∙ is)).0

  second_none : (s u : Slot) (ss : List Slot) (rs : List Reg) → is_basic s ≡ true → is_basic u ≡ true → fill (s ∷ u ∷ ss) row code f i rs ≡ true → on_type is_object (type_at f rs 1) ≡ false
  second_none s u ss [] basic also is = refl
  second_none s u ss (q ∷ rs) basic also is = first_none u ss rs also
      (and_both (reg_fits s f i q) (fill (u ∷ ss) row code f i rs) (sym (ap (λ b. if b then rest_fits row.rest code f i (q ∷ rs) else (reg_fits s f i q && fill (u ∷ ss) row code f i rs)) (basic_there s basic)) ∙ is)).1

  likes_none : operands_fit row code f i ≡ true → (k : ℕ) → basic_at row k ≡ true → on_type is_object (type_at f i.operands k) ≡ false
  likes_none is zero basic = first_none row.first (row.second ∷ row.third ∷ []) i.operands basic is
  likes_none is (suc zero) basic =
      let both = and_both (is_basic row.first) (is_basic row.second) basic in
      second_none row.first row.second (row.third ∷ []) i.operands both.0 both.1 is
  likes_none is (suc (suc k)) basic = cc

  module _ (r : ℕ) (object : on_type is_object (slice_get f.regs r) ≡ true) (cells : every (λ t. not (has_async_cells t)) f.regs ≡ true) (fits : operands_fit row code f i ≡ true) where
    reg_none : (s : Slot) (q : Reg) → is_plain_slot row s ≡ true → reg_fits s f i q ≡ true → on_type is_object (reg_type f q) ≡ false
    reg_none s q plain is = on_none (slot_fits s f i.operands i.attr) is_object
        (λ t fit. plain_none row f i.operands i.attr (likes_none fits) (λ k. cells_at f i.operands k cells) s t plain fit) (reg_type f q) is

    -- an object among the operands is one of the first n
    fill_uses : (n : ℕ) (ss : List Slot) (rs : List Reg) → is_plain_rest row.rest ≡ true → plain_from row n ss ≡ true → fill ss row code f i rs ≡ true
        → has r (numbers rs) ≡ true → has r (take n (numbers rs)) ≡ true
    fill_uses n [] rs ends plain is there = (let e : has r (numbers rs) ≡ false = rest_none f r object code i row.rest rs ends is in cc)
    fill_uses n (s ∷ ss) [] ends plain is there = cc
    fill_uses zero (s ∷ ss) (q ∷ rs) ends plain is there =
        let both = and_both (is_plain_slot row s) (plain_from row zero ss) plain in
        step (is_absent s) refl both.0 (λ later named. fill_uses zero ss rs ends both.1 later named)
      where
        step : (b : Bool) → is_absent s ≡ b → is_plain_slot row s ≡ true → (fill ss row code f i rs ≡ true → has r (numbers rs) ≡ true → false ≡ true) → false ≡ true
        step true absent one go =
            let e : has r (numbers (q ∷ rs)) ≡ false = rest_none f r object code i row.rest (q ∷ rs) ends
            (sym (ap (λ b. if b then rest_fits row.rest code f i (q ∷ rs) else (reg_fits s f i q && fill ss row code f i rs)) absent) ∙ is) in cc
        step false absent one go =
            let parts = and_both (reg_fits s f i q) (fill ss row code f i rs)
            (sym (ap (λ b. if b then rest_fits row.rest code f i (q ∷ rs) else (reg_fits s f i q && fill ss row code f i rs)) absent) ∙ is) in
            go parts.1 (sym (ap (λ b. b || has r (numbers rs)) (other f r object q (reg_none s q one parts.0))) ∙ there)
    fill_uses (suc n) (s ∷ ss) (q ∷ rs) ends plain is there = step (is_absent s) refl (λ later named. fill_uses n ss rs ends plain later named)
      where
        step : (b : Bool) → is_absent s ≡ b → (fill ss row code f i rs ≡ true → has r (numbers rs) ≡ true → has r (take n (numbers rs)) ≡ true) → ((r == q.0) || has r (take n (numbers rs))) ≡ true
        step true absent go =
            let e : has r (numbers (q ∷ rs)) ≡ false = rest_none f r object code i row.rest (q ∷ rs) ends
            (sym (ap (λ b. if b then rest_fits row.rest code f i (q ∷ rs) else (reg_fits s f i q && fill ss row code f i rs)) absent) ∙ is) in cc
        step false absent go =
            let parts = and_both (reg_fits s f i q) (fill ss row code f i rs)
            (sym (ap (λ b. if b then rest_fits row.rest code f i (q ∷ rs) else (reg_fits s f i q && fill ss row code f i rs)) absent) ∙ is) in
            elim (or_splits (r == q.0) (has r (numbers rs)) there) [
              | inl now ↦ or_left (r == q.0) (has r (take n (numbers rs))) now
              | inr later ↦ or_right (r == q.0) (has r (take n (numbers rs))) (go parts.1 later)
            ]

    -- an object among the results comes from a row that gives
    result_gives : (gives : Bool) (asked : Results) → (gives || (is_own asked && is_plain_slot row row.result)) ≡ true → (rs : List Reg) → rs ≡ i.results
        → these_fit asked row code f i ≡ true → has r (numbers rs) ≡ true → gives ≡ true
    result_gives true asked plain rs same is there = refl
    result_gives false results.Own plain [] same is there = cc
    result_gives false results.Own plain (q ∷ []) same is there =
        let fit : reg_fits row.result f i q ≡ true = ap (λ (xs : List Reg). result_fits row.result f i xs) same ∙ is in
        let no : ((r == q.0) || false) ≡ false = ap (λ b. b || false) (other f r object q (reg_none row.result q plain fit)) in
        cc
    result_gives false results.Own plain (q ∷ p ∷ rs) same is there =
        (let no : false ≡ true = ap (λ (xs : List Reg). result_fits row.result f i xs) same ∙ is in cc)
    result_gives false results.Called plain rs same is there = cc
    result_gives false results.Launched plain rs same is there = cc

-- ---- an instruction that fits its row

module _ (code : LowModule) (f : LowFunc) (i : Instr) (r : ℕ) (object : on_type is_object (slice_get f.regs r) ≡ true) (cells : every (λ t. not (has_async_cells t)) f.regs ≡ true)
    (fits : operands_fit (row_of i.kind) code f i ≡ true) (check : Checked i.kind) where
  pub operands_named : has r (numbers i.operands) ≡ true → (has r (uses i) || has r (takes f i)) ≡ true
  operands_named there = step (row_of i.kind).takes check.operands
    where
      step : (b : Bool) → (b || operands_plain (row_of i.kind)) ≡ true → (has r (uses i) || has r (if b then references f i.operands else [])) ≡ true
      step true plain = or_right (has r (uses i)) (has r (references f i.operands)) (has_references f r object i.operands ∙ there)
      step false plain =
          let both = and_both (is_plain_rest (row_of i.kind).rest) (plain_from (row_of i.kind) (row_of i.kind).uses (slots_of (row_of i.kind))) plain in
          or_left (has r (uses i)) false (fill_uses code f i (row_of i.kind) r object cells fits (row_of i.kind).uses (slots_of (row_of i.kind)) i.operands both.0 both.1 fits there)

  pub results_given : results_fit (row_of i.kind) code f i ≡ true → has r (numbers i.results) ≡ true → (row_of i.kind).gives ≡ true
  results_given is there = result_gives code f i (row_of i.kind) r object cells fits (row_of i.kind).gives (row_of i.kind).results check.results i.results refl is there
