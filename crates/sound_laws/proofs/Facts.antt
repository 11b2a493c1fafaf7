-- What an operation that breaks nothing has, list by list.
use Rattle.std.proofs.Common.{◌≡◌, ℕ, zero, suc, ◌+◌, ◌==◌, ◌||◌, not, Bool, true, false, List, [], ◌∷◌, length, Option, Some, None, slice_get, refl, sym, ap, subst, arith, zero-add}
use Rattle.std.specs.Option.{is_some}
use Rattle.ir_forms.specs.declared.ops.ValueNo.{ValueNo}
use Rattle.ir_forms.specs.declared.types.Ty.{Ty}
use Rattle.ir_forms.specs.declared.types.Ty.TheVariants as ty
use Rattle.ir_forms.specs.Ops.{operands_of, written_of, results_of, regions_of}
use Rattle.ir_verify.specs.declared.fault.VerifyKind.TheVariants.{Undefined, TypeMismatch, Arity, AsyncInMemref}
use Rattle.ir_verify.specs.Breaks.{some_from, misfits, operand_breaks, written_breaks, result_breaks, miscounts, tries_results}
use Rattle.ir_verify.specs.Forms.{form, row_at}
use Rattle.ir_verify.specs.Places.{Spot, types_of}
use Rattle.ir_verify.specs.Rules.{groups_fit, operand_fits, operands_asked, written_fits, written_asked, result_fits, types_asked}
use Rattle.ir_verify.specs.Scopes.{lookup}
use Rattle.ir_verify.specs.Types.{same_type, is_index, is_number, has_async_cells}
use Rattle.sound_laws.specs.Extended.{IsFine}
use Rattle.sound_laws.proofs.Sight.{or_left, or_right, equal}
use Rattle.sound_laws.proofs.Sound.{parted}
use Rattle.sound_laws.proofs.Growing.{same_bits}

-- no element passes a test that none does
none_at : {X : Type 0} → (test : ℕ → X → Bool) (k : ℕ) (xs : List X) → some_from test k xs ≡ false → (i : ℕ) (x : X) → slice_get xs i ≡ Some x → test (i + k) x ≡ false
none_at test k [] none i x at = cc
none_at test k (y ∷ xs) none zero x at =
    let same : y ≡ x = cc in
    subst (λ n. test n x ≡ false) (sym (zero-add k)) (subst (λ z. test k z ≡ false) same (or_left (test k y) (some_from test (k + 1) xs) none))
none_at test k (y ∷ xs) none (suc i) x at =
    let place : i + (k + 1) ≡ suc i + k = omega arith in
    subst (λ n. test n x ≡ false) place (none_at test (k + 1) xs (or_right (test k y) (some_from test (k + 1) xs) none) i x at)

none_here : {X : Type 0} → (test : ℕ → X → Bool) (xs : List X) → some_from test 0 xs ≡ false → (i : ℕ) (x : X) → slice_get xs i ≡ Some x → test i x ≡ false
none_here test xs none i x at = let place : i + 0 ≡ i = omega arith in subst (λ n. test n x ≡ false) place (none_at test 0 xs none i x at)

pub holds : (b : Bool) → not b ≡ false → b ≡ true
holds true h = refl
holds false h = cc

module _ (s : Spot) (fine : IsFine s) where
  -- a visible operand of a type that fits
  pub record Reads (i : ℕ) (v : ValueNo) : Type 0 where
    pub type : Ty
    pub visible : lookup s.seen v.0 ≡ Some type
    pub fits : operand_fits (form s.place.op) s.place i type ≡ true

  pub reads : (i : ℕ) (v : ValueNo) → slice_get (operands_of s.place.op) i ≡ Some v → Reads i v
  reads i v at = step (lookup s.seen v.0) refl
    where
      visible : not (is_some (lookup s.seen v.0)) ≡ false
      visible = none_here (operand_breaks Undefined s.seen s.place) (operands_of s.place.op) (parted s Undefined (fine Undefined)).operands i v at

      typed : misfits (operand_fits (form s.place.op) s.place i) (lookup s.seen v.0) ≡ false
      typed = none_here (operand_breaks TypeMismatch s.seen s.place) (operands_of s.place.op) (parted s TypeMismatch (fine TypeMismatch)).operands i v at

      step : (o : Option Ty) → lookup s.seen v.0 ≡ o → Reads i v
      step None is = let hidden : not (is_some (lookup s.seen v.0)) ≡ true = ap (λ (o : Option Ty). not (is_some o)) is in let seen : not (is_some (lookup s.seen v.0)) ≡ false = visible in cc
      step (Some t) is = record {
        type = t;
        visible = is;
        fits = holds (operand_fits (form s.place.op) s.place i t) (subst (λ (o : Option Ty). misfits (operand_fits (form s.place.op) s.place i) o ≡ false) is typed);
      }

  pub writes : (i : ℕ) (t : Ty) → slice_get (written_of s.place.op) i ≡ Some t → written_fits (form s.place.op) s.place i t ≡ true
  writes i t at = holds _ (none_here (written_breaks TypeMismatch s.place) (written_of s.place.op) (parted s TypeMismatch (fine TypeMismatch)).written i t at)

  pub writes_cells : (i : ℕ) (t : Ty) → slice_get (written_of s.place.op) i ≡ Some t → has_async_cells t ≡ false
  writes_cells i t at = none_here (written_breaks AsyncInMemref s.place) (written_of s.place.op) (parted s AsyncInMemref (fine AsyncInMemref)).written i t at

  pub gives_type : (i : ℕ) (t : Ty) → slice_get (types_of s.place.op) i ≡ Some t → result_fits (form s.place.op) s.place i t ≡ true
  gives_type i t at = holds _ (none_here (result_breaks TypeMismatch s.place) (types_of s.place.op) (parted s TypeMismatch (fine TypeMismatch)).results i t at)

  -- the lengths of the lists
  pub record Counts : Type 0 where
    pub operands : length (operands_of s.place.op) ≡ operands_asked s.place.op
    pub written : length (written_of s.place.op) ≡ written_asked (form s.place.op) s.place
    pub types : length (types_of s.place.op) ≡ types_asked s.place
    pub results : length (results_of s.place.op) ≡ length (types_of s.place.op)
    pub regions : length (regions_of s.place.op) ≡ (row_at s.place.op).regions
    pub groups : groups_fit (form s.place.op) s.place.op ≡ true

  pub counts : Counts
  counts =
      let all : miscounts s.place ≡ false = or_left (miscounts s.place) (tries_results (form s.place.op) s.place.callee) (parted s Arity (fine Arity)).own in
      six (length (operands_of s.place.op) == operands_asked s.place.op) (length (written_of s.place.op) == written_asked (form s.place.op) s.place) (length (types_of s.place.op) == types_asked s.place)
      (length (results_of s.place.op) == length (types_of s.place.op)) (length (regions_of s.place.op) == (row_at s.place.op).regions) (groups_fit (form s.place.op) s.place.op) refl refl refl refl refl refl all
    where
      six : (a b c d e f : Bool) → (length (operands_of s.place.op) == operands_asked s.place.op) ≡ a → (length (written_of s.place.op) == written_asked (form s.place.op) s.place) ≡ b → (length (types_of s.place.op) == types_asked s.place) ≡ c
          → (length (results_of s.place.op) == length (types_of s.place.op)) ≡ d → (length (regions_of s.place.op) == (row_at s.place.op).regions) ≡ e → groups_fit (form s.place.op) s.place.op ≡ f
          → (not a || (not b || (not c || (not d || (not e || not f))))) ≡ false → Counts
      six true true true true true true p q r x t u h = record { operands = equal _ _ p; written = equal _ _ q; types = equal _ _ r; results = equal _ _ x; regions = equal _ _ t; groups = u }
      six false b c d e f p q r x t u h = cc
      six true false c d e f p q r x t u h = cc
      six true true false d e f p q r x t u h = cc
      six true true true false e f p q r x t u h = cc
      six true true true true false f p q r x t u h = cc
      six true true true true true false p q r x t u h = cc

-- ---- types

pub index_type : (u : Ty) → is_index u ≡ true → u ≡ ty.Index
index_type ty.Index h = refl
index_type u h = cc

pub same_as_number : (w u : Ty) → is_number w ≡ true → same_type w u ≡ true → u ≡ w
same_as_number (ty.Int v) (ty.Int w) n e = ap ty.Int (sym (same_bits v w e))
same_as_number ty.Index ty.Index n e = refl
same_as_number (ty.Int v) u n e = cc
same_as_number ty.Index u n e = cc
same_as_number w u n e = cc
