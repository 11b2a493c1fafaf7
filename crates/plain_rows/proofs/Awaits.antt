-- Awaits, assertions and calls that break no rule.
use Rattle.std.proofs.Common.{◌≡◌, ℕ, zero, suc, ◌||◌, Bool, true, false, List, [], ◌∷◌, Some, refl, sym, ap, ◌∙◌, subst}
use Rattle.std.specs.Prelude.{slice_get}
use Rattle.int_ops.specs.declared.Width.TheVariants.{W1}
use Rattle.op_table.specs.declared.form.Form.{Form}
use Rattle.op_table.specs.declared.form.Form.TheVariants as form_is
use Rattle.op_table.specs.declared.kind.OpKind.{OpKind}
use Rattle.ir_forms.specs.declared.types.Ty.{Ty}
use Rattle.ir_forms.specs.declared.types.Ty.TheVariants as ty
use Rattle.ir_forms.specs.declared.types.ValTy.TheVariants as val
use Rattle.ir_forms.specs.Ops.{kind_of, operands_of}
use Rattle.ir_verify.specs.Forms.{form}
use Rattle.ir_verify.specs.Places.{Spot}
use Rattle.ir_verify.specs.Rules.{first_type}
use Rattle.ir_verify.specs.Types.{same_type, is_group, is_truth, is_awaitable}
use Rattle.mlir_print.specs.Printable.{HasParts, payloads}
use Rattle.scf_blocks.specs.declared.role.Role.TheVariants as role
use Rattle.scf_blocks.specs.Tree.{role_by}
use Rattle.typed_rows.specs.Typed.{HasTypes, gives_held}
use Rattle.plain_rows.specs.Laws.{IsFine, AwaitFits, AwaitsFit, AssertionsFit}
use Rattle.plain_rows.proofs.Same.{type_same, truth_is, group_is, width_self, memref_self}
use Rattle.plain_rows.proofs.Lone.{operands_are, written_so}

-- what is awaited gives what it holds
held_payload : (t : Ty) → gives_held t (payloads t) ≡ true
held_payload (ty.Value (val.Int w)) = width_self w
held_payload (ty.Value val.Index) = refl
held_payload (ty.Value (val.Memref m)) = memref_self m
held_payload (ty.Int w) = refl
held_payload ty.Index = refl
held_payload (ty.Memref m) = refl
held_payload ty.Token = refl
held_payload ty.Group = refl
held_payload ty.CoroId = refl
held_payload ty.CoroHandle = refl
held_payload ty.CoroState = refl
held_payload ty.Untyped = refl

or_first : (a b : Bool) → a ≡ true → (a || b) ≡ true
or_first true b is = refl
or_first false b is = cc

module _ (s : Spot) (fine : IsFine s) where
  one_t : (t : Ty) (i : ℕ) (u v : Ty) → slice_get (t ∷ []) i ≡ Some v → same_type t u ≡ true → u ≡ v
  one_t t zero u v at fit = (let same : t ≡ v = cc in sym (type_same t u fit) ∙ same)
  one_t t (suc i) u v at fit = cc

  one_so : (test : Ty → Bool) (t : Ty) → ((u : Ty) → test u ≡ true → u ≡ t) → (i : ℕ) (u v : Ty) → slice_get (t ∷ []) i ≡ Some v → test u ≡ true → u ≡ v
  one_so test t so zero u v at fit = (let same : t ≡ v = cc in so u fit ∙ same)
  one_so test t so (suc i) u v at fit = cc

  await_fits : form s.place.op ≡ form_is.Await → HasParts form_is.Await s.place.op → AwaitFits s
  await_fits g parts =
      let t = parts.0 in
      let h = parts.2 in
      let w : is_awaitable t ≡ true = written_so s fine form_is.Await g 0 t (ap (λ (ws : List Ty). slice_get ws 0) h.written_are) in
      record {
        type = t;
        has = operands_are s fine form_is.Await g (t ∷ []) h.operand_count (λ i u v at fit. one_t t i u v at (subst (λ (ws : List Ty). same_type (first_type ws) u ≡ true) h.written_are fit));
        object = or_first (is_awaitable t) (is_group t) w;
        held = ap (λ (us : List Ty). gives_held t us) h.types_are ∙ held_payload t;
      }

  await_all_fits : form s.place.op ≡ form_is.AwaitAll → HasParts form_is.AwaitAll s.place.op → AwaitFits s
  await_all_fits g h = record {
    type = ty.Group;
    has = operands_are s fine form_is.AwaitAll g (ty.Group ∷ []) h.operand_count (λ i u v at fit. one_so is_group ty.Group group_is i u v at fit);
    object = refl;
    held = ap (λ (us : List Ty). gives_held ty.Group us) h.types_are;
  }

  -- by the role
  await_by : (g : Form) (kind : OpKind) → form s.place.op ≡ g → role_by g kind ≡ role.Await → HasParts g s.place.op → AwaitFits s
  await_by form_is.Await kind e is parts = await_fits e parts
  await_by form_is.AwaitAll kind e is parts = await_all_fits e parts
  await_by _ kind e is parts = cc

  assertion_by : (g : Form) (kind : OpKind) → form s.place.op ≡ g → role_by g kind ≡ role.Assertion → HasParts g s.place.op → HasTypes s.seen (operands_of s.place.op) (ty.Int W1 ∷ [])
  assertion_by form_is.Assert kind e is parts = operands_are s fine form_is.Assert e (ty.Int W1 ∷ []) (let h = parts.2 in h.operand_count) (λ i u v at fit. one_so is_truth (ty.Int W1) truth_is i u v at fit)
  assertion_by _ kind e is parts = cc

pub awaits_fit : AwaitsFit
awaits_fit s fine parts is = await_by s fine (form s.place.op) (kind_of s.place.op) refl is parts

pub assertions_fit : AssertionsFit
assertions_fit s fine parts is = assertion_by s fine (form s.place.op) (kind_of s.place.op) refl is parts
