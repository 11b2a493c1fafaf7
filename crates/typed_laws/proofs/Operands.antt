-- What an operation's operands are, and the types of its results.
use Rattle.std.proofs.Common.{◌≡◌, ◌<◌, ℕ, zero, suc, Bool, true, false, List, [], ◌∷◌, length, Some, slice_get, refl, sym, ap, ◌∙◌, subst, arith}
use Rattle.op_table.specs.declared.kind.OpKind.{OpKind}
use Rattle.op_table.specs.Rows.{row_of}
use Rattle.ir_forms.specs.declared.ops.Op.{Op}
use Rattle.ir_forms.specs.declared.ops.Func.{Func}
use Rattle.ir_forms.specs.declared.ops.ValueNo.{ValueNo}
use Rattle.ir_forms.specs.declared.types.CellTy.{CellTy}
use Rattle.ir_forms.specs.declared.types.CellTy.TheVariants as cell
use Rattle.ir_forms.specs.declared.types.Ty.{Ty}
use Rattle.ir_forms.specs.declared.types.Ty.TheVariants as ty
use Rattle.ir_forms.specs.Ops.{kind_of, operands_of, written_of}
use Rattle.ir_forms.specs.declared.ops.Attr.{Attr}
use Rattle.ir_forms.specs.declared.ops.Attr.TheVariants as att
use Rattle.ir_verify.specs.Forms.{form}
use Rattle.ir_verify.specs.Places.{Around, Spot, Seen, types_of, place_of}
use Rattle.ir_verify.specs.Rules.{first_type, is_asked, operand_fits, operands_given, written_fits, written_asked, result_fits, types_given, counted}
use Rattle.ir_verify.specs.Types.{is_cell, is_element, is_number, is_index, has_async_cells, is_async_cell, extends, truncates, casts_index, literal_fits}
use Rattle.source_meaning.specs.declared.values.Val.{Val}
use Rattle.source_meaning.specs.declared.values.Val.TheVariants.{Number}
use Rattle.source_meaning.specs.Values.{Env, named, values_at}
use Rattle.source_meaning.specs.Steps.{value}
use Rattle.typed_laws.specs.Typed.{Typing, HasType}
use Rattle.typed_laws.proofs.Types.{truth_number}
use Rattle.typed_laws.proofs.Facts.{reads, writes, gives_type, counts}
use Rattle.typed_laws.proofs.Envs.{EnvTyped, env_of, AreTyped, asked_same, values_typed}
use Rattle.typed_laws.proofs.Coded.{OpGood}
use Rattle.typed_laws.proofs.Leaving.{form_by, there_is}

pub value_there : (env : Env) (xs : List ValueNo) (i : ℕ) (x : ValueNo) → slice_get xs i ≡ Some x → value (values_at env xs) i ≡ named env x.0
value_there env [] i x e = cc
value_there env (y ∷ xs) zero x e = let same : y ≡ x = cc in ap (λ (z : ValueNo). named env z.0) same
value_there env (y ∷ xs) (suc i) x e = value_there env xs i x e

pub one_type : (ts : List Ty) → length ts ≡ 1 → (t : Ty) × (ts ≡ t ∷ [])
one_type [] e = absurd (omega (arith, e))
one_type (t ∷ []) e = (t, refl)
one_type (t ∷ u ∷ ts) e = absurd (omega (arith, e))

pub no_type : (ts : List Ty) → length ts ≡ 0 → ts ≡ []
no_type [] e = refl
no_type (t ∷ ts) e = absurd (omega (arith, e))

-- the first of some
pub first_there : (ts : List Ty) (n : ℕ) → length ts ≡ suc n → (t : Ty) × (slice_get ts 0 ≡ Some t) × (first_type ts ≡ t)
first_there [] n e = absurd (omega (arith, e))
first_there (t ∷ ts) n e = (t, refl, refl)

pub extends_number : (t u : Ty) → extends t u ≡ true → is_number u ≡ true
extends_number (ty.Int v) (ty.Int w) e = refl
extends_number t u e = cc

pub truncates_number : (t u : Ty) → truncates t u ≡ true → is_number u ≡ true
truncates_number (ty.Int v) (ty.Int w) e = refl
truncates_number t u e = cc

pub casts_number : (t u : Ty) → casts_index t u ≡ true → is_number u ≡ true
casts_number (ty.Int v) ty.Index e = refl
casts_number ty.Index (ty.Int w) e = refl
casts_number t u e = cc

pub literal_number : (a : Attr) (t : Ty) → literal_fits a t ≡ true → is_number t ≡ true
literal_number (att.Literal negative magnitude) (ty.Int w) e = refl
literal_number (att.Literal negative magnitude) ty.Index e = refl
literal_number (att.Truth bit) t e = truth_number t e
literal_number a t e = cc

pub index_number : (t : Ty) → is_index t ≡ true → is_number t ≡ true
index_number ty.Index e = refl
index_number t e = cc

cell_number : (c : CellTy) (t : Ty) → is_cell c t ≡ true → is_async_cell c ≡ false → is_number t ≡ true
cell_number (cell.Int v) (ty.Int w) e h = refl
cell_number cell.Index ty.Index e h = refl
cell_number c t e h = cc

pub element_number : (m t : Ty) → is_element m t ≡ true → has_async_cells m ≡ false → is_number t ≡ true
element_number (ty.Memref m) t e h = cell_number m.elem t e h
element_number m t e h = cc

module _ (funcs : List Func) (typing : Typing) (a : Around) (seen : Seen) (o : Op) (last : Bool) (good : OpGood funcs a seen o last) (env : Env) (h : EnvTyped typing seen env) where
  abbrev s : Spot
  s = record { seen = seen; place = place_of funcs a last o }

  abbrev vs : List Val
  vs = values_at env (operands_of o)

  -- an operand's value, which has a type that fits
  pub record Operand (i : ℕ) : Type 0 where
    pub type : Ty
    pub typed : HasType typing type (value vs i)
    pub fits : operand_fits (form o) s.place i type ≡ true

  pub operand : (n i : ℕ) → length (operands_of o) ≡ n → i < n → Operand i
  operand n i e less =
      let x = there_is (operands_of o) n i e less in
      let r = reads s good.spot.fine i x.0 x.1 in
      record { type = r.type; typed = subst (HasType typing r.type) (sym (value_there env (operands_of o) i x.0 x.1)) (env_of typing seen env h x.0.0 r.type r.visible); fits = r.fits }

  -- by the kind's row
  pub operands_count : (kind : OpKind) → kind_of o ≡ kind → length (operands_of o) ≡ counted (row_of kind).operands (operands_given (row_of kind).form o)
  operands_count kind e = (counts s good.spot.fine).operands ∙ ap (λ k. counted (row_of k).operands (operands_given (row_of k).form o)) e

  pub written_count : (kind : OpKind) → kind_of o ≡ kind → length (written_of o) ≡ written_asked (row_of kind).form s.place
  written_count kind e = (counts s good.spot.fine).written ∙ ap (λ k. written_asked (row_of k).form s.place) e

  pub types_count : (kind : OpKind) → kind_of o ≡ kind → length (types_of o) ≡ counted (row_of kind).results (types_given (row_of kind).form s.place)
  types_count kind e = (counts s good.spot.fine).types ∙ ap (λ k. counted (row_of k).results (types_given (row_of k).form s.place)) e

  pub operand_by : (kind : OpKind) → kind_of o ≡ kind → (i : ℕ) (t : Ty) → operand_fits (form o) s.place i t ≡ true → operand_fits (row_of kind).form s.place i t ≡ true
  operand_by kind e i t f = subst (λ g. operand_fits g s.place i t ≡ true) (form_by o kind e) f

  pub written_by : (kind : OpKind) → kind_of o ≡ kind → (i : ℕ) (t : Ty) → slice_get (written_of o) i ≡ Some t → written_fits (row_of kind).form s.place i t ≡ true
  written_by kind e i t at = subst (λ g. written_fits g s.place i t ≡ true) (form_by o kind e) (writes s good.spot.fine i t at)

  pub result_by : (kind : OpKind) → kind_of o ≡ kind → (i : ℕ) (t : Ty) → slice_get (types_of o) i ≡ Some t → result_fits (row_of kind).form s.place i t ≡ true
  result_by kind e i t at = subst (λ g. result_fits g s.place i t ≡ true) (form_by o kind e) (gives_type s good.spot.fine i t at)

  -- all operands, where each is asked by a list of types
  pub operands_typed : (ts : List Ty) → length (operands_of o) ≡ length ts → ((i : ℕ) (t : Ty) → operand_fits (form o) s.place i t ≡ true → is_asked (slice_get ts i) t ≡ true) → AreTyped typing ts vs
  operands_typed ts n f =
      values_typed typing ts (operands_of o) env n (λ i x t at there.
      (let r = reads s good.spot.fine i x at in
      subst (λ u. HasType typing u (named env x.0)) (sym (asked_same ts i t r.type there (f i r.type r.fits))) (env_of typing seen env h x.0 r.type r.visible)))

  -- ---- one result

  pub record OneResult (kind : OpKind) : Type 0 where
    pub type : Ty
    pub types : types_of o ≡ type ∷ []
    pub fits : result_fits (row_of kind).form s.place 0 type ≡ true

  pub one_result : (kind : OpKind) → kind_of o ≡ kind → counted (row_of kind).results (types_given (row_of kind).form s.place) ≡ 1 → OneResult kind
  one_result kind e n =
      let t = one_type (types_of o) (types_count kind e ∙ n) in
      record { type = t.0; types = t.1; fits = result_by kind e 0 t.0 (ap (λ (ts : List Ty). slice_get ts 0) t.1) }

  pub number_result : (kind : OpKind) (r : OneResult kind) (n : ℕ) → is_number r.type ≡ true → AreTyped typing (types_of o) (Number n ∷ [])
  number_result kind r n num = subst (λ ts. AreTyped typing ts (Number n ∷ [])) (sym r.types) (number_in r.type num, tt) where
    number_in : (t : Ty) → is_number t ≡ true → HasType typing t (Number n)
    number_in (ty.Int w) e = tt
    number_in ty.Index e = tt
    number_in t e = cc
