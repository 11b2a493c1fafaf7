-- Where a frame stands: its function, its block and its instruction; and what well formed code says of that instruction.
use Rattle.std.proofs.Common.{◌≡◌, ℕ, zero, suc, ◌&&◌, ◌||◌, Bool, true, false, List, [], ◌∷◌, Option, Some, None, refl, sym, ap, ◌∙◌, subst}
use Rattle.std.specs.Prelude.{slice_get}
use Rattle.ir_forms.specs.declared.types.Ty.{Ty}
use Rattle.low_forms.specs.declared.code.Reg.{Reg}
use Rattle.low_forms.specs.declared.code.Instr.{Instr}
use Rattle.low_forms.specs.declared.code.Term.{Term}
use Rattle.low_forms.specs.declared.code.Block.{Block}
use Rattle.low_forms.specs.declared.code.LowFunc.{LowFunc}
use Rattle.low_forms.specs.declared.code.LowModule.{LowModule}
use Rattle.low_forms.specs.declared.row.LowRow.{LowRow}
use Rattle.low_forms.specs.declared.row.Slot.{Slot}
use Rattle.low_forms.specs.declared.row.Slot.TheVariants as slot
use Rattle.low_forms.specs.declared.row.Results.TheVariants as results
use Rattle.low_forms.specs.Rows.{row_of}
use Rattle.low_forms.specs.Registers.{every, on_type, reg_type}
use Rattle.low_forms.specs.Places.{Remaining, remaining_in, remaining_of}
use Rattle.low_forms.specs.Owns.{is_object}
use Rattle.low_forms.specs.Fits.{is_absent, slot_fits, reg_fits, fill, result_fits, these_fit, instr_fits, inner_fits, term_fits, block_fits, operands_fit, results_fit, attr_fits, is_instruction}
use Rattle.low_forms.specs.WellFormed.{IsWellFormed}
use Rattle.source_meaning.specs.Values.{maybe}
use Rattle.task_stack.specs.declared.frames.Place.{Place}
use Rattle.task_stack.specs.Local.{Standing, standing, standing_in}
use Rattle.async_objects.proofs.ListLemmas.{some_is}
use Rattle.own_tables.specs.Owns.{is_object_reg}

pub untrue : {X : Type 0} → false ≡ true → X
untrue e = absurd (no e)
  where
    no : false ≡ true → ⊥
    no e = cc

pub and_first : (a b : Bool) → (a && b) ≡ true → a ≡ true
and_first true b is = refl
and_first false b is = untrue is

pub and_second : (a b : Bool) → (a && b) ≡ true → b ≡ true
and_second true b is = is
and_second false b is = untrue is

pub last_two : (a b c d : Bool) → (a && b && c && d) ≡ true → (c ≡ true) × (d ≡ true)
last_two true true true true is = (refl, refl)
last_two true true true false is = untrue is
last_two true true false d is = untrue is
last_two true false c d is = untrue is
last_two false b c d is = untrue is

-- ---- the place

pub record At (code : LowModule) (p : Place) (st : Standing) : Type 0 where
  pub block : Block
  pub func_there : slice_get code.funcs p.func.0 ≡ Some st.func
  pub block_there : slice_get st.func.blocks p.block.0 ≡ Some block
  pub rest : remaining_in block.instrs block.term p.at ≡ Some st.rest

module _ (code : LowModule) (p : Place) (st : Standing) where
  by_rest : (f : LowFunc) (b : Block) → slice_get code.funcs p.func.0 ≡ Some f → slice_get f.blocks p.block.0 ≡ Some b → (r : Option Remaining) → remaining_in b.instrs b.term p.at ≡ r
      → maybe None (λ (rest : Remaining). Some (record { func = f; rest = rest })) r ≡ Some st → At code p st
  by_rest f b there block None rest e = cc
  by_rest f b there block (Some r) rest e =
      subst (At code p) (some_is (record { func = f; rest = r }) st e) (record { block = b; func_there = there; block_there = block; rest = rest })

  by_block : (f : LowFunc) → slice_get code.funcs p.func.0 ≡ Some f → (b : Option Block) → slice_get f.blocks p.block.0 ≡ b
      → maybe None (λ (rest : Remaining). Some (record { func = f; rest = rest })) (remaining_of b p.at) ≡ Some st → At code p st
  by_block f there None block e = cc
  by_block f there (Some b) block e = by_rest f b there block (remaining_in b.instrs b.term p.at) refl e

  by_func : (m : Option LowFunc) → slice_get code.funcs p.func.0 ≡ m → maybe None (standing_in p) m ≡ Some st → At code p st
  by_func None there e = cc
  by_func (Some f) there e = by_block f there (slice_get f.blocks p.block.0) refl e

  pub at_standing : standing code p ≡ Some st → At code p st
  at_standing e = by_func (slice_get code.funcs p.func.0) refl e

-- the first that remains
abbrev head : List Instr → Option Instr
head [] = None
head (i ∷ is) = Some i

abbrev next_in : Option Remaining → Option Instr
next_in None = None
next_in (Some r) = head r.instrs

pub row_at : (xs : List Instr) (t term : Term) (k : ℕ) (i : Instr) (is : List Instr) → remaining_in xs t k ≡ Some (record { instrs = i ∷ is; term = term }) → slice_get xs k ≡ Some i
row_at [] t term zero i is e = ap next_in e
row_at [] t term (suc k) i is e = ap next_in e
row_at (x ∷ xs) t term zero i is e = ap next_in e
row_at (x ∷ xs) t term (suc k) i is e = row_at xs t term k i is e

-- ---- what well formed code says

pub every_at : {X : Type 0} (p : X → Bool) (xs : List X) (k : ℕ) (x : X) → every p xs ≡ true → slice_get xs k ≡ Some x → p x ≡ true
every_at p [] k x all there = cc
every_at p (y ∷ xs) zero x all there = subst (λ z. p z ≡ true) (some_is y x there) (and_first (p y) (every p xs) all)
every_at p (y ∷ xs) (suc k) x all there = every_at p xs k x (and_second (p y) (every p xs) all) there

-- a first operand is of an object
abbrev pub FirstIsObject : LowFunc → List Reg → Type 0
FirstIsObject f [] = ⊥
FirstIsObject f (q ∷ qs) = is_object_reg f q.0 ≡ true

pub record OneObject (f : LowFunc) (rs : List Reg) : Type 0 where
  pub reg : Reg
  pub alone : rs ≡ reg ∷ []
  pub object : is_object_reg f reg.0 ≡ true

or_left : (a b : Bool) → a ≡ true → (a || b) ≡ true
or_left true b is = refl
or_left false b is = untrue is

or_right : (a b : Bool) → b ≡ true → (a || b) ≡ true
or_right true b is = refl
or_right false b is = is

module _ (code : LowModule) (f : LowFunc) (i : Instr) where
  from_object : (o : Option Ty) → on_type (slot_fits slot.Object f i.operands i.attr) o ≡ true → on_type is_object o ≡ true
  from_object None e = e
  from_object (Some t) e = e

  from_element : (o : Option Ty) → on_type (slot_fits slot.Element f i.operands i.attr) o ≡ true → on_type is_object o ≡ true
  from_element None e = e
  from_element (Some t) e = or_left _ _ e

  from_group : (o : Option Ty) → on_type (slot_fits slot.Group f i.operands i.attr) o ≡ true → on_type is_object o ≡ true
  from_group None e = e
  from_group (Some t) e = or_right _ _ e

  first_filled : (ss : List Slot) (row : LowRow) (ops : List Reg) → fill (slot.Object ∷ ss) row code f i ops ≡ true → FirstIsObject f ops
  first_filled ss row [] e = absurd (untrue e)
  first_filled ss row (q ∷ ops) e = from_object (reg_type f q) (and_first (reg_fits slot.Object f i q) (fill ss row code f i ops) e)

  pub first_is_object : instr_fits code f i ≡ true → (row_of i.kind).first ≡ slot.Object → FirstIsObject f i.operands
  first_is_object fit first =
      let row : LowRow = row_of i.kind in
      let ops : operands_fit row code f i ≡ true = (last_two row.stands (attr_fits row.attr code i.attr) (operands_fit row code f i) (results_fit row code f i) fit).0 in
      first_filled (row.second ∷ row.third ∷ []) row i.operands (subst (λ s. fill (s ∷ row.second ∷ row.third ∷ []) row code f i i.operands ≡ true) first ops)

  one_result : (s : Slot) → is_absent s ≡ false → ((o : Option Ty) → on_type (slot_fits s f i.operands i.attr) o ≡ true → on_type is_object o ≡ true) → (rs : List Reg) → result_fits s f i rs ≡ true → OneObject f rs
  one_result s there object [] e = absurd (untrue (sym there ∙ e))
  one_result s there object (r ∷ []) e = record { reg = r; alone = refl; object = object (reg_type f r) e }
  one_result s there object (r ∷ q ∷ rs) e = absurd (untrue e)

  makes_one : (s : Slot) → is_absent s ≡ false → ((o : Option Ty) → on_type (slot_fits s f i.operands i.attr) o ≡ true → on_type is_object o ≡ true) → instr_fits code f i ≡ true
      → (row_of i.kind).results ≡ results.Own → (row_of i.kind).result ≡ s → OneObject f i.results
  makes_one s there object fit own result =
      let row : LowRow = row_of i.kind in
      let ends : results_fit row code f i ≡ true = (last_two row.stands (attr_fits row.attr code i.attr) (operands_fit row code f i) (results_fit row code f i) fit).1 in
      one_result s there object i.results (subst (λ t. result_fits t f i i.results ≡ true) result (subst (λ r. these_fit r row code f i ≡ true) own ends))

  pub makes_element : instr_fits code f i ≡ true → (row_of i.kind).results ≡ results.Own → (row_of i.kind).result ≡ slot.Element → OneObject f i.results
  makes_element fit own result = makes_one slot.Element refl from_element fit own result

  pub makes_group : instr_fits code f i ≡ true → (row_of i.kind).results ≡ results.Own → (row_of i.kind).result ≡ slot.Group → OneObject f i.results
  makes_group fit own result = makes_one slot.Group refl from_group fit own result

pub instr_at : (code : LowModule) (f : LowFunc) (c k : ℕ) (b : Block) (i : Instr) → IsWellFormed code f → slice_get f.blocks c ≡ Some b → slice_get b.instrs k ≡ Some i → instr_fits code f i ≡ true
instr_at code f c k b i formed block row =
    let fit : block_fits code f b ≡ true = every_at (block_fits code f) f.blocks c b formed.fits block in
    let inner : inner_fits code f i ≡ true = every_at (inner_fits code f) b.instrs k i (and_first (every (inner_fits code f) b.instrs) (term_fits code f b.term) fit) row in
    and_second (is_instruction (row_of i.kind).targets) (instr_fits code f i) inner
