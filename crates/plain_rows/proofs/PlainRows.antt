-- A plain operation that breaks no rule fits its row.
use Rattle.std.proofs.Common.{◌≡◌, inl, inr, ℕ, zero, suc, ◌+◌, ◌==◌, ◌&&◌, ◌||◌, nat_le, true, false, List, [], ◌∷◌, length, replicate, Option, Some, None, refl, sym, ap, ◌∙◌, subst, arith}
use Rattle.std.specs.Prelude.{slice_get}
use Rattle.std.proofs.lemmas.Bool.Decides.{eqb_tells}
use Rattle.int_ops.specs.declared.Width.TheVariants.{W1}
use Rattle.op_table.specs.declared.form.Form.{Form}
use Rattle.op_table.specs.declared.form.Form.TheVariants as form_is
use Rattle.op_table.specs.declared.kind.OpKind.{OpKind}
use Rattle.op_table.specs.declared.kind.OpKind.TheVariants as op
use Rattle.op_table.specs.Rows.{row_of}
use Rattle.ir_forms.specs.declared.ops.Attr.{Attr}
use Rattle.ir_forms.specs.declared.ops.Attr.TheVariants as attr
use Rattle.ir_forms.specs.declared.ops.Func.{Func}
use Rattle.ir_forms.specs.declared.ops.Op.{Op}
use Rattle.ir_forms.specs.declared.types.MemTy.{MemTy}
use Rattle.ir_forms.specs.declared.types.Ty.{Ty}
use Rattle.ir_forms.specs.declared.types.Ty.TheVariants as ty
use Rattle.ir_forms.specs.Ops.{kind_of, operands_of, written_of, attr_of}
use Rattle.ir_verify.specs.Forms.{form, form_of}
use Rattle.ir_verify.specs.Places.{Spot, types_of}
use Rattle.ir_verify.specs.Rules.{operand_fits, operands_given, first_type, counted}
use Rattle.ir_verify.specs.Types.{same_type, is_number, is_index, is_awaitable, is_element, open_dims, dims_of, extends, truncates, casts_index, literal_fits}
use Rattle.low_forms.specs.declared.code.LowKind.{LowKind}
use Rattle.low_forms.specs.declared.code.LowKind.TheVariants.{Row}
use Rattle.low_forms.specs.declared.code.LowAttr.{LowAttr}
use Rattle.low_forms.specs.declared.code.LowFunc.{LowFunc}
use Rattle.low_forms.specs.declared.code.LowModule.{LowModule}
use Rattle.low_forms.specs.declared.row.LowRow.{LowRow}
use Rattle.low_forms.specs.declared.row.Slot.{Slot}
use Rattle.low_forms.specs.declared.row.Slot.TheVariants as slot
use Rattle.low_forms.specs.declared.row.Rest.{Rest}
use Rattle.low_forms.specs.declared.row.Rest.TheVariants as rest
use Rattle.low_forms.specs.Registers.{every, on_type}
use Rattle.low_forms.specs.Fits as fits
use Rattle.low_forms.specs.Rows as low_rows
use Rattle.low_forms.proofs.Words.{and_left, and_both}
use Rattle.mlir_print.specs.Printable.{Has, HasParts, cell_type}
use Rattle.register_laws.proofs.Views.{Sight, fits_as, fills, rests, indices}
use Rattle.scf_blocks.specs.Code.{low_attr}
use Rattle.plain_rows.specs.Laws.{IsFine}
use Rattle.plain_rows.proofs.Facts.{operand_count}
use Rattle.typed_rows.specs.Typed.{HasTypes, row_fits}
use Rattle.typed_rows.proofs.Envs.{some_types}
use Rattle.typed_rows.proofs.Rows.{seen_as, row_seen}
use Rattle.plain_rows.proofs.Same.{type_same, number_self_type, truth_is, index_is, group_is, element_is, has_element}
use Rattle.plain_rows.proofs.Lone.{operands_are, written_so, result_so, replicate_length, replicate_at, or_index}

-- ---- rows by form

abbrev binary : LowRow
binary = record low_rows.plain { first = slot.Number; second = slot.Like 0; result = slot.Like 0 }

binary_row : (kind : OpKind) → form_of kind ≡ form_is.Binary → low_rows.row_of (Row kind) ≡ binary
binary_row op.ArithAddi e = refl
binary_row op.ArithSubi e = refl
binary_row op.ArithMuli e = refl
binary_row op.ArithDivsi e = refl
binary_row op.ArithDivui e = refl
binary_row op.ArithRemsi e = refl
binary_row op.ArithRemui e = refl
binary_row op.ArithAndi e = refl
binary_row op.ArithOri e = refl
binary_row op.ArithXori e = refl
binary_row op.ArithShli e = refl
binary_row op.ArithShrsi e = refl
binary_row op.ArithShrui e = refl
binary_row op.ArithMaxsi e = refl
binary_row op.ArithMinsi e = refl
binary_row op.ArithMaxui e = refl
binary_row op.ArithMinui e = refl
binary_row _ e = cc

abbrev wider : LowRow
wider = record low_rows.plain { first = slot.Number; result = slot.Wider }

wider_row : (kind : OpKind) → form_of kind ≡ form_is.Extend → low_rows.row_of (Row kind) ≡ wider
wider_row op.ArithExtsi e = refl
wider_row op.ArithExtui e = refl
wider_row _ e = cc

abbrev recast : LowRow
recast = record low_rows.plain { first = slot.Number; result = slot.Recast }

recast_row : (kind : OpKind) → form_of kind ≡ form_is.IndexCast → low_rows.row_of (Row kind) ≡ recast
recast_row op.ArithIndexCast e = refl
recast_row op.ArithIndexCastui e = refl
recast_row _ e = cc

-- the one kind of a form
only_narrows : (kind : OpKind) → form_of kind ≡ form_is.Truncate → kind ≡ op.ArithTrunci
only_narrows op.ArithTrunci e = refl
only_narrows _ e = cc

only_compares : (kind : OpKind) → form_of kind ≡ form_is.Compare → kind ≡ op.ArithCmpi
only_compares op.ArithCmpi e = refl
only_compares _ e = cc

only_selects : (kind : OpKind) → form_of kind ≡ form_is.Select → kind ≡ op.ArithSelect
only_selects op.ArithSelect e = refl
only_selects _ e = cc

only_constant : (kind : OpKind) → form_of kind ≡ form_is.Constant → kind ≡ op.ArithConstant
only_constant op.ArithConstant e = refl
only_constant _ e = cc

only_alloc : (kind : OpKind) → form_of kind ≡ form_is.Alloc → kind ≡ op.MemrefAlloc
only_alloc op.MemrefAlloc e = refl
only_alloc _ e = cc

only_dealloc : (kind : OpKind) → form_of kind ≡ form_is.Dealloc → kind ≡ op.MemrefDealloc
only_dealloc op.MemrefDealloc e = refl
only_dealloc _ e = cc

only_load : (kind : OpKind) → form_of kind ≡ form_is.Load → kind ≡ op.MemrefLoad
only_load op.MemrefLoad e = refl
only_load _ e = cc

only_store : (kind : OpKind) → form_of kind ≡ form_is.Store → kind ≡ op.MemrefStore
only_store op.MemrefStore e = refl
only_store _ e = cc

only_dim : (kind : OpKind) → form_of kind ≡ form_is.Dim → kind ≡ op.MemrefDim
only_dim op.MemrefDim e = refl
only_dim _ e = cc

-- ---- numbers of a class

extends_number : (t u : Ty) → extends t u ≡ true → is_number t ≡ true
extends_number (ty.Int v) (ty.Int w) e = refl
extends_number t u e = cc

truncates_number : (t u : Ty) → truncates t u ≡ true → is_number t ≡ true
truncates_number (ty.Int v) (ty.Int w) e = refl
truncates_number t u e = cc

casts_number : (t u : Ty) → casts_index t u ≡ true → is_number t ≡ true
casts_number (ty.Int v) ty.Index e = refl
casts_number ty.Index (ty.Int w) e = refl
casts_number t u e = cc

all_indices : (n : ℕ) → indices n (some_types (replicate n ty.Index)) ≡ true
all_indices n = and_both (length (some_types (replicate n ty.Index)) == n) (every (on_type is_index) (some_types (replicate n ty.Index))) (by_length n) (each n)
  where
    long : (n : ℕ) → length (some_types (replicate n ty.Index)) ≡ n
    long zero = refl
    long (suc n) = ap suc (long n)

    by_length : (n : ℕ) → (length (some_types (replicate n ty.Index)) == n) ≡ true
    by_length n = elim (eqb_tells (length (some_types (replicate n ty.Index))) n) [ inl h ↦ h.0 | inr h ↦ absurd (h.1 (long n)) ]

    each : (n : ℕ) → every (on_type is_index) (some_types (replicate n ty.Index)) ≡ true
    each zero = refl
    each (suc n) = each n

absent_fills : (ss : List Slot) (r : Rest) (v : Sight) (rs : List (Option Ty)) → fills (slot.Absent ∷ ss) r v rs ≡ rests r v rs
absent_fills ss r v [] = refl
absent_fills ss r v (t ∷ rs) = refl

module _ (code : LowModule) (f : LowFunc) (funcs : List Func) (s : Spot) (fine : IsFine s) where
  abbrev o : Op
  o = s.place.op

  -- the types of the operands, with which the row fits
  pub record Fitting (kind : LowKind) : Type 0 where
    pub types : List Ty
    pub has : HasTypes s.seen (operands_of o) types
    pub row : row_fits code f.results kind (low_attr funcs (attr_of o)) types (types_of o) ≡ true

  abbrev Fit : LowRow → LowAttr → List Ty → List Ty → Type 0
  Fit row a ts us = (fits.is_instruction row.targets && fits_as row (seen_as code f a (some_types ts) (some_types us))) ≡ true

  row_by : (kind : LowKind) (row : LowRow) (a : Attr) (ts us : List Ty) → low_rows.row_of kind ≡ row → attr_of o ≡ a → types_of o ≡ us → Fit row (low_attr funcs a) ts us
      → row_fits code f.results kind (low_attr funcs (attr_of o)) ts (types_of o) ≡ true
  row_by kind row a ts us is_row is_attr is_types fit =
      ap (λ (x : Attr). row_fits code f.results kind (low_attr funcs x) ts (types_of o)) is_attr
      ∙ ap (λ (xs : List Ty). row_fits code f.results kind (low_attr funcs a) ts xs) is_types
      ∙ row_seen code f kind (low_attr funcs a) ts us
      ∙ subst (λ (r : LowRow). Fit r (low_attr funcs a) ts us) (sym is_row) fit

  -- ---- the parts of an operation

  written_at : (ws : List Ty) → written_of o ≡ ws → (i : ℕ) (t : Ty) → slice_get ws i ≡ Some t → slice_get (written_of o) i ≡ Some t
  written_at ws is i t at = ap (λ (xs : List Ty). slice_get xs i) is ∙ at

  types_at : (us : List Ty) → types_of o ≡ us → (i : ℕ) (t : Ty) → slice_get us i ≡ Some t → slice_get (types_of o) i ≡ Some t
  types_at us is i t at = ap (λ (xs : List Ty). slice_get xs i) is ∙ at

  -- the first written type
  abbrev first_of : List Ty → Ty
  first_of ws = first_type ws

  binary_fits : (kind : OpKind) → kind_of o ≡ kind → form_of kind ≡ form_is.Binary → HasParts form_is.Binary o → Fitting (Row kind)
  binary_fits kind e g parts =
      let t = parts.0 in
      let h = parts.2 in
      let is_form : form o ≡ form_is.Binary = ap form_of e ∙ g in
      let w = written_so s fine form_is.Binary is_form 0 t (written_at (t ∷ t ∷ []) h.written_are 0 t refl) in
      let num : is_number t ≡ true = and_left (is_number t) (same_type (first_of (written_of o)) t) w in
      let own : same_type t t ≡ true = number_self_type t num in
      record {
        types = t ∷ t ∷ [];
        has = operands_are s fine form_is.Binary is_form (t ∷ t ∷ []) h.operand_count (λ i u v at fit. all_t t i u v at (subst (λ (ws : List Ty). same_type (first_of ws) u ≡ true) h.written_are fit));
        row = row_by (Row kind) binary attr.None (t ∷ t ∷ []) (t ∷ []) (binary_row kind g) h.attr_is h.types_are
            (and_both (is_number t && (same_type t t && true)) (same_type t t) (and_both (is_number t) (same_type t t && true) num (and_both (same_type t t) true own refl)) own);
      }
    where
      all_t : (t : Ty) (i : ℕ) (u v : Ty) → slice_get (t ∷ t ∷ []) i ≡ Some v → same_type t u ≡ true → u ≡ v
      all_t t zero u v at fit = (let same : t ≡ v = cc in sym (type_same t u fit) ∙ same)
      all_t t (suc zero) u v at fit = (let same : t ≡ v = cc in sym (type_same t u fit) ∙ same)
      all_t t (suc (suc i)) u v at fit = cc

  compare_fits : (kind : OpKind) → kind_of o ≡ kind → form_of kind ≡ form_is.Compare → HasParts form_is.Compare o → Fitting (Row kind)
  compare_fits kind e g parts =
      let p = parts.0 in
      let t = parts.1 in
      let h = parts.3 in
      let is_form : form o ≡ form_is.Compare = ap form_of e ∙ g in
      let w = written_so s fine form_is.Compare is_form 0 t (written_at (t ∷ t ∷ []) h.written_are 0 t refl) in
      let num : is_number t ≡ true = and_left (is_number t) (same_type (first_of (written_of o)) t) w in
      let own : same_type t t ≡ true = number_self_type t num in
      record {
        types = t ∷ t ∷ [];
        has = operands_are s fine form_is.Compare is_form (t ∷ t ∷ []) h.operand_count (λ i u v at fit. all_t t i u v at (subst (λ (ws : List Ty). same_type (first_of ws) u ≡ true) h.written_are fit));
        row = row_by (Row kind) (low_rows.row_of (Row op.ArithCmpi)) (attr.Pred p) (t ∷ t ∷ []) (ty.Int W1 ∷ []) (ap (λ k. low_rows.row_of (Row k)) (only_compares kind g)) h.attr_is h.types_are
            (and_both (is_number t && (same_type t t && true)) true (and_both (is_number t) (same_type t t && true) num (and_both (same_type t t) true own refl)) refl);
      }
    where
      all_t : (t : Ty) (i : ℕ) (u v : Ty) → slice_get (t ∷ t ∷ []) i ≡ Some v → same_type t u ≡ true → u ≡ v
      all_t t zero u v at fit = (let same : t ≡ v = cc in sym (type_same t u fit) ∙ same)
      all_t t (suc zero) u v at fit = (let same : t ≡ v = cc in sym (type_same t u fit) ∙ same)
      all_t t (suc (suc i)) u v at fit = cc

  select_fits : (kind : OpKind) → kind_of o ≡ kind → form_of kind ≡ form_is.Select → HasParts form_is.Select o → Fitting (Row kind)
  select_fits kind e g parts =
      let t = parts.0 in
      let h = parts.2 in
      let is_form : form o ≡ form_is.Select = ap form_of e ∙ g in
      let w = written_so s fine form_is.Select is_form 0 t (written_at (t ∷ t ∷ []) h.written_are 0 t refl) in
      let num : is_number t ≡ true = and_left (is_number t) (same_type (first_of (written_of o)) t) w in
      let own : same_type t t ≡ true = number_self_type t num in
      record {
        types = ty.Int W1 ∷ t ∷ t ∷ [];
        has = operands_are s fine form_is.Select is_form (ty.Int W1 ∷ t ∷ t ∷ []) h.operand_count (λ i u v at fit. each t h.written_are i u v at fit);
        row = row_by (Row kind) (low_rows.row_of (Row op.ArithSelect)) attr.None (ty.Int W1 ∷ t ∷ t ∷ []) (t ∷ []) (ap (λ k. low_rows.row_of (Row k)) (only_selects kind g)) h.attr_is h.types_are
            (and_both (is_number t && (same_type t t && true)) (same_type t t) (and_both (is_number t) (same_type t t && true) num (and_both (same_type t t) true own refl)) own);
      }
    where
      each : (t : Ty) → written_of o ≡ t ∷ t ∷ [] → (i : ℕ) (u v : Ty) → slice_get (ty.Int W1 ∷ t ∷ t ∷ []) i ≡ Some v → operand_fits form_is.Select s.place i u ≡ true → u ≡ v
      each t is zero u v at fit = (let same : ty.Int W1 ≡ v = cc in truth_is u fit ∙ same)
      each t is (suc zero) u v at fit = (let same : t ≡ v = cc in sym (type_same t u (subst (λ (ws : List Ty). same_type (first_of ws) u ≡ true) is fit)) ∙ same)
      each t is (suc (suc zero)) u v at fit = (let same : t ≡ v = cc in sym (type_same t u (subst (λ (ws : List Ty). same_type (first_of ws) u ≡ true) is fit)) ∙ same)
      each t is (suc (suc (suc i))) u v at fit = cc

  -- ---- casts

  one_t : (t : Ty) (i : ℕ) (u v : Ty) → slice_get (t ∷ []) i ≡ Some v → same_type t u ≡ true → u ≡ v
  one_t t zero u v at fit = (let same : t ≡ v = cc in sym (type_same t u fit) ∙ same)
  one_t t (suc i) u v at fit = cc

  extend_fits : (kind : OpKind) → kind_of o ≡ kind → form_of kind ≡ form_is.Extend → HasParts form_is.Extend o → Fitting (Row kind)
  extend_fits kind e g parts =
      let t = parts.0 in
      let u = parts.1 in
      let h = parts.4 in
      let is_form : form o ≡ form_is.Extend = ap form_of e ∙ g in
      let w : extends t u ≡ true = subst (λ (us : List Ty). extends t (first_of us) ≡ true) h.types_are (written_so s fine form_is.Extend is_form 0 t (written_at (t ∷ []) h.written_are 0 t refl)) in
      record {
        types = t ∷ [];
        has = operands_are s fine form_is.Extend is_form (t ∷ []) h.operand_count (λ i x v at fit. one_t t i x v at (subst (λ (ws : List Ty). same_type (first_of ws) x ≡ true) h.written_are fit));
        row = row_by (Row kind) wider attr.None (t ∷ []) (u ∷ []) (wider_row kind g) h.attr_is h.types_are (and_both (is_number t && true) (extends t u) (and_both (is_number t) true (extends_number t u w) refl) w);
      }

  truncate_fits : (kind : OpKind) → kind_of o ≡ kind → form_of kind ≡ form_is.Truncate → HasParts form_is.Truncate o → Fitting (Row kind)
  truncate_fits kind e g parts =
      let t = parts.0 in
      let u = parts.1 in
      let h = parts.4 in
      let is_form : form o ≡ form_is.Truncate = ap form_of e ∙ g in
      let w : truncates t u ≡ true = subst (λ (us : List Ty). truncates t (first_of us) ≡ true) h.types_are (written_so s fine form_is.Truncate is_form 0 t (written_at (t ∷ []) h.written_are 0 t refl)) in
      record {
        types = t ∷ [];
        has = operands_are s fine form_is.Truncate is_form (t ∷ []) h.operand_count (λ i x v at fit. one_t t i x v at (subst (λ (ws : List Ty). same_type (first_of ws) x ≡ true) h.written_are fit));
        row = row_by (Row kind) (low_rows.row_of (Row op.ArithTrunci)) attr.None (t ∷ []) (u ∷ []) (ap (λ k. low_rows.row_of (Row k)) (only_narrows kind g)) h.attr_is h.types_are
            (and_both (is_number t && true) (truncates t u) (and_both (is_number t) true (truncates_number t u w) refl) w);
      }

  cast_fits : (kind : OpKind) → kind_of o ≡ kind → form_of kind ≡ form_is.IndexCast → HasParts form_is.IndexCast o → Fitting (Row kind)
  cast_fits kind e g parts =
      let t = parts.0 in
      let u = parts.1 in
      let h = parts.4 in
      let is_form : form o ≡ form_is.IndexCast = ap form_of e ∙ g in
      let w : casts_index t u ≡ true = subst (λ (us : List Ty). casts_index t (first_of us) ≡ true) h.types_are (written_so s fine form_is.IndexCast is_form 0 t (written_at (t ∷ []) h.written_are 0 t refl)) in
      record {
        types = t ∷ [];
        has = operands_are s fine form_is.IndexCast is_form (t ∷ []) h.operand_count (λ i x v at fit. one_t t i x v at (subst (λ (ws : List Ty). same_type (first_of ws) x ≡ true) h.written_are fit));
        row = row_by (Row kind) recast attr.None (t ∷ []) (u ∷ []) (recast_row kind g) h.attr_is h.types_are (and_both (is_number t && true) (casts_index t u) (and_both (is_number t) true (casts_number t u w) refl) w);
      }

  -- ---- constants

  nothing_read : (g : Form) → form o ≡ g → length (operands_of o) ≡ 0 → HasTypes s.seen (operands_of o) []
  nothing_read g is_form len = operands_are s fine g is_form [] len (λ i u v at fit. cc)

  constant_by : (kind : OpKind) → kind_of o ≡ kind → form_of kind ≡ form_is.Constant → (a : Attr) (t : Ty) → Has o 0 a [] [] (t ∷ []) [] → (literal_fits a t ≡ true → Fit (low_rows.row_of (Row op.ArithConstant)) (low_attr funcs a) [] (t ∷ [])) → Fitting (Row kind)
  constant_by kind e g a t h fit =
      let is_form : form o ≡ form_is.Constant = ap form_of e ∙ g in
      let r = result_so s fine form_is.Constant is_form 0 t (types_at (t ∷ []) h.types_are 0 t refl) in
      record {
        types = [];
        has = nothing_read form_is.Constant is_form h.operand_count;
        row = row_by (Row kind) (low_rows.row_of (Row op.ArithConstant)) a [] (t ∷ []) (ap (λ k. low_rows.row_of (Row k)) (only_constant kind g)) h.attr_is h.types_are (fit (subst (λ (x : Attr). literal_fits x t ≡ true) h.attr_is r));
      }

  constant_fits : (kind : OpKind) → kind_of o ≡ kind → form_of kind ≡ form_is.Constant → HasParts form_is.Constant o → Fitting (Row kind)
  constant_fits kind e g (inl parts) = constant_by kind e g (attr.Truth parts.0) (ty.Int W1) parts.1 (λ is. refl)
  constant_fits kind e g (inr (inl parts)) = constant_by kind e g (attr.Literal false parts.0) parts.1 parts.4 (λ is. is)
  constant_fits kind e g (inr (inr parts)) = constant_by kind e g (attr.Literal true parts.0) parts.1 parts.4 (λ is. is)

  -- ---- buffers

  -- how many operands there are, by the kind's row
  counted_as : (kind : OpKind) → kind_of o ≡ kind → length (operands_of o) ≡ counted (row_of kind).operands (operands_given (row_of kind).form o)
  counted_as kind e = operand_count s fine ∙ ap (λ k. counted (row_of k).operands (operands_given (row_of k).form o)) e

  dealloc_fits : (kind : OpKind) → kind_of o ≡ kind → form_of kind ≡ form_is.Dealloc → HasParts form_is.Dealloc o → Fitting (Row kind)
  dealloc_fits kind e g parts =
      let m = parts.0 in
      let h = parts.2 in
      let is_form : form o ≡ form_is.Dealloc = ap form_of e ∙ g in
      record {
        types = ty.Memref m ∷ [];
        has = operands_are s fine form_is.Dealloc is_form (ty.Memref m ∷ []) h.operand_count (λ i x v at fit. one_t (ty.Memref m) i x v at (subst (λ (ws : List Ty). same_type (first_of ws) x ≡ true) h.written_are fit));
        row = row_by (Row kind) (low_rows.row_of (Row op.MemrefDealloc)) attr.None (ty.Memref m ∷ []) [] (ap (λ k. low_rows.row_of (Row k)) (only_dealloc kind g)) h.attr_is h.types_are refl;
      }

  dim_fits : (kind : OpKind) → kind_of o ≡ kind → form_of kind ≡ form_is.Dim → HasParts form_is.Dim o → Fitting (Row kind)
  dim_fits kind e g parts =
      let m = parts.0 in
      let h = parts.2 in
      let is_form : form o ≡ form_is.Dim = ap form_of e ∙ g in
      record {
        types = ty.Memref m ∷ ty.Index ∷ [];
        has = operands_are s fine form_is.Dim is_form (ty.Memref m ∷ ty.Index ∷ []) h.operand_count (λ i x v at fit. each m h.written_are i x v at fit);
        row = row_by (Row kind) (low_rows.row_of (Row op.MemrefDim)) attr.None (ty.Memref m ∷ ty.Index ∷ []) (ty.Index ∷ []) (ap (λ k. low_rows.row_of (Row k)) (only_dim kind g)) h.attr_is h.types_are refl;
      }
    where
      each : (m : MemTy) → written_of o ≡ ty.Memref m ∷ [] → (i : ℕ) (u v : Ty) → slice_get (ty.Memref m ∷ ty.Index ∷ []) i ≡ Some v → operand_fits form_is.Dim s.place i u ≡ true → u ≡ v
      each m is zero u v at fit = (let same : ty.Memref m ≡ v = cc in sym (type_same (ty.Memref m) u (subst (λ (ws : List Ty). same_type (first_of ws) u ≡ true) is fit)) ∙ same)
      each m is (suc zero) u v at fit = (let same : ty.Index ≡ v = cc in index_is u fit ∙ same)
      each m is (suc (suc i)) u v at fit = cc

  alloc_fits : (kind : OpKind) → kind_of o ≡ kind → form_of kind ≡ form_is.Alloc → HasParts form_is.Alloc o → Fitting (Row kind)
  alloc_fits kind e g parts =
      let m = parts.0 in
      let h = parts.2 in
      let is_form : form o ≡ form_is.Alloc = ap form_of e ∙ g in
      let n : ℕ = open_dims m.dims in
      let asked : length (operands_of o) ≡ n = counted_as op.MemrefAlloc (e ∙ only_alloc kind g) ∙ ap (λ (us : List Ty). open_dims (dims_of (first_of us))) h.types_are in
      record {
        types = replicate n ty.Index;
        has = operands_are s fine form_is.Alloc is_form (replicate n ty.Index) (asked ∙ sym (replicate_length n ty.Index)) (λ i x v at fit.
            (let r = replicate_at n ty.Index v i at in
            or_index n i x r.1 (subst (λ (us : List Ty). (nat_le (open_dims (dims_of (first_of us))) i || is_index x) ≡ true) h.types_are fit) ∙ r.0));
        row = row_by (Row kind) (low_rows.row_of (Row op.MemrefAlloc)) attr.None (replicate n ty.Index) (ty.Memref m ∷ []) (ap (λ k. low_rows.row_of (Row k)) (only_alloc kind g)) h.attr_is h.types_are
            (and_both (fills (slot.Absent ∷ slot.Absent ∷ slot.Absent ∷ []) rest.Sizes (seen_as code f (low_attr funcs attr.None) (some_types (replicate n ty.Index)) (some_types (ty.Memref m ∷ []))) (some_types (replicate n ty.Index))) true
            (absent_fills (slot.Absent ∷ slot.Absent ∷ []) rest.Sizes (seen_as code f (low_attr funcs attr.None) (some_types (replicate n ty.Index)) (some_types (ty.Memref m ∷ []))) (some_types (replicate n ty.Index)) ∙ all_indices n) refl);
      }

  -- an index for each dimension
  indexed : (m : MemTy) → written_of o ≡ ty.Memref m ∷ [] → (i : ℕ) (u v : Ty) → slice_get (replicate (length m.dims) ty.Index) i ≡ Some v → (nat_le (length (dims_of (first_of (written_of o)))) i || is_index u) ≡ true → u ≡ v
  indexed m is i u v at fit =
      let r = replicate_at (length m.dims) ty.Index v i at in
      or_index (length m.dims) i u r.1 (subst (λ (ws : List Ty). (nat_le (length (dims_of (first_of ws))) i || is_index u) ≡ true) is fit) ∙ r.0

  load_fits : (kind : OpKind) → kind_of o ≡ kind → form_of kind ≡ form_is.Load → HasParts form_is.Load o → Fitting (Row kind)
  load_fits kind e g parts =
      let m = parts.0 in
      let h = parts.3 in
      let is_form : form o ≡ form_is.Load = ap form_of e ∙ g in
      let n : ℕ = length m.dims in
      let asked : length (operands_of o) ≡ n + 1 = counted_as op.MemrefLoad (e ∙ only_load kind g) ∙ ap (λ (ws : List Ty). length (dims_of (first_of ws)) + 1) h.written_are in
      let long : length (replicate n ty.Index) ≡ n = replicate_length n ty.Index in
      let ts : List Ty = ty.Memref m ∷ replicate n ty.Index in
      let v : Sight = seen_as code f (low_attr funcs attr.None) (some_types ts) (some_types (cell_type m.elem ∷ [])) in
      record {
        types = ts;
        has = operands_are s fine form_is.Load is_form ts (omega (arith, asked, long)) (λ i x y at fit. each m h.written_are i x y at fit);
        row = row_by (Row kind) (low_rows.row_of (Row op.MemrefLoad)) attr.None ts (cell_type m.elem ∷ []) (ap (λ k. low_rows.row_of (Row k)) (only_load kind g)) h.attr_is h.types_are
            (and_both (fills (slot.Absent ∷ slot.Absent ∷ []) (rest.Indices 0) v (some_types (replicate n ty.Index))) (is_element (ty.Memref m) (cell_type m.elem))
            (absent_fills (slot.Absent ∷ []) (rest.Indices 0) v (some_types (replicate n ty.Index)) ∙ all_indices n) (has_element m));
      }
    where
      each : (m : MemTy) → written_of o ≡ ty.Memref m ∷ [] → (i : ℕ) (u v : Ty) → slice_get (ty.Memref m ∷ replicate (length m.dims) ty.Index) i ≡ Some v → operand_fits form_is.Load s.place i u ≡ true → u ≡ v
      each m is zero u v at fit = (let same : ty.Memref m ≡ v = cc in sym (type_same (ty.Memref m) u (subst (λ (ws : List Ty). same_type (first_of ws) u ≡ true) is fit)) ∙ same)
      each m is (suc i) u v at fit = indexed m is i u v at fit

  store_fits : (kind : OpKind) → kind_of o ≡ kind → form_of kind ≡ form_is.Store → HasParts form_is.Store o → Fitting (Row kind)
  store_fits kind e g parts =
      let m = parts.0 in
      let h = parts.3 in
      let is_form : form o ≡ form_is.Store = ap form_of e ∙ g in
      let n : ℕ = length m.dims in
      let asked : length (operands_of o) ≡ n + 2 = counted_as op.MemrefStore (e ∙ only_store kind g) ∙ ap (λ (ws : List Ty). length (dims_of (first_of ws)) + 2) h.written_are in
      let long : length (replicate n ty.Index) ≡ n = replicate_length n ty.Index in
      let ts : List Ty = cell_type m.elem ∷ ty.Memref m ∷ replicate n ty.Index in
      let v : Sight = seen_as code f (low_attr funcs attr.None) (some_types ts) [] in
      record {
        types = ts;
        has = operands_are s fine form_is.Store is_form ts (omega (arith, asked, long)) (λ i x y at fit. each m h.written_are i x y at fit);
        row = row_by (Row kind) (low_rows.row_of (Row op.MemrefStore)) attr.None ts [] (ap (λ k. low_rows.row_of (Row k)) (only_store kind g)) h.attr_is h.types_are
            (and_both (is_element (ty.Memref m) (cell_type m.elem) && fills (slot.Absent ∷ []) (rest.Indices 1) v (some_types (replicate n ty.Index))) true
            (and_both (is_element (ty.Memref m) (cell_type m.elem)) (fills (slot.Absent ∷ []) (rest.Indices 1) v (some_types (replicate n ty.Index))) (has_element m)
            (absent_fills [] (rest.Indices 1) v (some_types (replicate n ty.Index)) ∙ all_indices n)) refl);
      }
    where
      each : (m : MemTy) → written_of o ≡ ty.Memref m ∷ [] → (i : ℕ) (u v : Ty) → slice_get (cell_type m.elem ∷ ty.Memref m ∷ replicate (length m.dims) ty.Index) i ≡ Some v → operand_fits form_is.Store s.place i u ≡ true → u ≡ v
      each m is zero u v at fit = (let same : cell_type m.elem ≡ v = cc in element_is m u (subst (λ (ws : List Ty). is_element (first_of ws) u ≡ true) is fit) ∙ same)
      each m is (suc zero) u v at fit = (let same : ty.Memref m ≡ v = cc in sym (type_same (ty.Memref m) u (subst (λ (ws : List Ty). same_type (first_of ws) u ≡ true) is fit)) ∙ same)
      each m is (suc (suc i)) u v at fit = indexed m is i u v at fit

  -- ---- groups

  create_fits : (kind : OpKind) → kind_of o ≡ kind → form_of kind ≡ form_is.CreateGroup → HasParts form_is.CreateGroup o → Fitting (Row op.AsyncRuntimeCreateGroup)
  create_fits kind e g h =
      let is_form : form o ≡ form_is.CreateGroup = ap form_of e ∙ g in
      record {
        types = ty.Index ∷ [];
        has = operands_are s fine form_is.CreateGroup is_form (ty.Index ∷ []) h.operand_count (λ i x v at fit. each i x v at fit);
        row = row_by (Row op.AsyncRuntimeCreateGroup) (low_rows.row_of (Row op.AsyncRuntimeCreateGroup)) attr.None (ty.Index ∷ []) (ty.Group ∷ []) refl h.attr_is h.types_are refl;
      }
    where
      each : (i : ℕ) (u v : Ty) → slice_get (ty.Index ∷ []) i ≡ Some v → is_index u ≡ true → u ≡ v
      each zero u v at fit = (let same : ty.Index ≡ v = cc in index_is u fit ∙ same)
      each (suc i) u v at fit = cc

  member_fits : (kind : OpKind) → kind_of o ≡ kind → form_of kind ≡ form_is.AddToGroup → HasParts form_is.AddToGroup o → Fitting (Row op.AsyncRuntimeAddToGroup)
  member_fits kind e g parts =
      let t = parts.0 in
      let h = parts.2 in
      let is_form : form o ≡ form_is.AddToGroup = ap form_of e ∙ g in
      let w : is_awaitable t ≡ true = written_so s fine form_is.AddToGroup is_form 0 t (written_at (t ∷ []) h.written_are 0 t refl) in
      record {
        types = t ∷ ty.Group ∷ [];
        has = operands_are s fine form_is.AddToGroup is_form (t ∷ ty.Group ∷ []) h.operand_count (λ i x v at fit. each t h.written_are i x v at fit);
        row = row_by (Row op.AsyncRuntimeAddToGroup) (low_rows.row_of (Row op.AsyncRuntimeAddToGroup)) attr.None (t ∷ ty.Group ∷ []) (ty.Index ∷ []) refl h.attr_is h.types_are
            (and_both (is_awaitable t && true) true (and_both (is_awaitable t) true w refl) refl);
      }
    where
      each : (t : Ty) → written_of o ≡ t ∷ [] → (i : ℕ) (u v : Ty) → slice_get (t ∷ ty.Group ∷ []) i ≡ Some v → operand_fits form_is.AddToGroup s.place i u ≡ true → u ≡ v
      each t is zero u v at fit = (let same : t ≡ v = cc in sym (type_same t u (subst (λ (ws : List Ty). same_type (first_of ws) u ≡ true) is fit)) ∙ same)
      each t is (suc zero) u v at fit = (let same : ty.Group ≡ v = cc in group_is u fit ∙ same)
      each t is (suc (suc i)) u v at fit = cc

  -- ---- all of them

  -- what the plain operations fit, by their forms
  abbrev pub PlainBy : Form → OpKind → Type 0
  PlainBy form_is.Binary kind = Fitting (Row kind)
  PlainBy form_is.Compare kind = Fitting (Row kind)
  PlainBy form_is.Select kind = Fitting (Row kind)
  PlainBy form_is.Extend kind = Fitting (Row kind)
  PlainBy form_is.Truncate kind = Fitting (Row kind)
  PlainBy form_is.IndexCast kind = Fitting (Row kind)
  PlainBy form_is.Constant kind = Fitting (Row kind)
  PlainBy form_is.Alloc kind = Fitting (Row kind)
  PlainBy form_is.Dealloc kind = Fitting (Row kind)
  PlainBy form_is.Load kind = Fitting (Row kind)
  PlainBy form_is.Store kind = Fitting (Row kind)
  PlainBy form_is.Dim kind = Fitting (Row kind)
  PlainBy form_is.CreateGroup kind = Fitting (Row op.AsyncRuntimeCreateGroup)
  PlainBy form_is.AddToGroup kind = Fitting (Row op.AsyncRuntimeAddToGroup)
  PlainBy _ kind = Unit {0}

  pub plain_by : (g : Form) (kind : OpKind) → kind_of o ≡ kind → form_of kind ≡ g → HasParts g o → PlainBy g kind
  plain_by form_is.Binary kind e h parts = binary_fits kind e h parts
  plain_by form_is.Compare kind e h parts = compare_fits kind e h parts
  plain_by form_is.Select kind e h parts = select_fits kind e h parts
  plain_by form_is.Extend kind e h parts = extend_fits kind e h parts
  plain_by form_is.Truncate kind e h parts = truncate_fits kind e h parts
  plain_by form_is.IndexCast kind e h parts = cast_fits kind e h parts
  plain_by form_is.Constant kind e h parts = constant_fits kind e h parts
  plain_by form_is.Alloc kind e h parts = alloc_fits kind e h parts
  plain_by form_is.Dealloc kind e h parts = dealloc_fits kind e h parts
  plain_by form_is.Load kind e h parts = load_fits kind e h parts
  plain_by form_is.Store kind e h parts = store_fits kind e h parts
  plain_by form_is.Dim kind e h parts = dim_fits kind e h parts
  plain_by form_is.CreateGroup kind e h parts = create_fits kind e h parts
  plain_by form_is.AddToGroup kind e h parts = member_fits kind e h parts
  plain_by _ kind e h parts = tt
