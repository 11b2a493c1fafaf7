-- What an operation that breaks no rule has, list by list.
use Rattle.std.proofs.Common.{◌≡◌, inl, inr, ℕ, zero, suc, ◌+◌, ◌==◌, ◌&&◌, ◌||◌, not, Bool, true, false, List, [], ◌∷◌, length, Option, Some, None, refl, ap, subst, arith}
use Rattle.std.specs.Prelude.{slice_get}
use Rattle.std.specs.Option.{is_some}
use Rattle.std.proofs.lemmas.Bool.Decides.{eqb_tells}
use Rattle.ir_forms.specs.declared.ops.ValueNo.{ValueNo}
use Rattle.ir_forms.specs.declared.types.Ty.{Ty}
use Rattle.ir_forms.specs.Ops.{operands_of, written_of, results_of, regions_of}
use Rattle.ir_verify.specs.declared.fault.VerifyKind.{VerifyKind}
use Rattle.ir_verify.specs.declared.fault.VerifyKind.TheVariants.{Undefined, TypeMismatch, UnknownFunc, Arity}
use Rattle.ir_verify.specs.Breaks.{some_from, some_at, misfits, operand_breaks, written_breaks, result_breaks, region_breaks, own_breaks, is_call, miscounts, tries_results}
use Rattle.ir_verify.specs.Forms.{form, row_at}
use Rattle.ir_verify.specs.Places.{Place, Spot, types_of}
use Rattle.ir_verify.specs.Rules.{groups_fit, operand_fits, operands_asked, written_fits, written_asked, result_fits, types_asked}
use Rattle.ir_verify.specs.Scopes.{lookup}
use Rattle.plain_rows.specs.Laws.{IsFine}

or_left : (a b : Bool) → (a || b) ≡ false → a ≡ false
or_left true b h = cc
or_left false b h = refl

or_right : (a b : Bool) → (a || b) ≡ false → b ≡ false
or_right true b h = cc
or_right false b h = h

not_false : (b : Bool) → not b ≡ false → b ≡ true
not_false true h = refl
not_false false h = cc

equal : (a b : ℕ) → (a == b) ≡ true → a ≡ b
equal a b is = elim (eqb_tells a b) [
  | inl h ↦ h.1
  | inr h ↦ (let no : (a == b) ≡ false = h.0 in cc)
]

-- no element passes a test that none does
none_at : {X : Type 0} → (test : ℕ → X → Bool) (k : ℕ) (xs : List X) → some_from test k xs ≡ false → (i : ℕ) (x : X) → slice_get xs i ≡ Some x → test (k + i) x ≡ false
none_at test k [] none i x at = cc
none_at test k (y ∷ xs) none zero x at =
    let same : y ≡ x = cc in
    let place : k ≡ k + zero = omega arith in
    subst (λ n. test n x ≡ false) place (subst (λ z. test k z ≡ false) same (or_left (test k y) (some_from test (k + 1) xs) none))
none_at test k (y ∷ xs) none (suc i) x at =
    let place : (k + 1) + i ≡ k + suc i = omega arith in
    subst (λ n. test n x ≡ false) place (none_at test (k + 1) xs (or_right (test k y) (some_from test (k + 1) xs) none) i x at)

none_here : {X : Type 0} → (test : ℕ → X → Bool) (xs : List X) → some_from test 0 xs ≡ false → (i : ℕ) (x : X) → slice_get xs i ≡ Some x → test i x ≡ false
none_here test xs none i x at = let place : 0 + i ≡ i = omega arith in subst (λ n. test n x ≡ false) place (none_at test 0 xs none i x at)

module _ (s : Spot) (fine : IsFine s) where
  abbrev p : Place
  p = s.place

  record Parts (v : VerifyKind) : Type 0 where
    own : own_breaks v p ≡ false
    operands : some_at (operand_breaks v s.seen p) (operands_of p.op) ≡ false
    written : some_at (written_breaks v p) (written_of p.op) ≡ false
    results : some_at (result_breaks v p) (types_of p.op) ≡ false

  parts : (v : VerifyKind) → Parts v
  parts v =
      let a : Bool = own_breaks v p in
      let b : Bool = some_at (operand_breaks v s.seen p) (operands_of p.op) in
      let c : Bool = some_at (written_breaks v p) (written_of p.op) in
      let d : Bool = some_at (result_breaks v p) (types_of p.op) in
      let e : Bool = some_at (region_breaks v p.op) (regions_of p.op) in
      let h = fine v in
      let h1 = or_right a (b || (c || (d || e))) h in
      let h2 = or_right b (c || (d || e)) h1 in
      let h3 = or_right c (d || e) h2 in
      record { own = or_left a (b || (c || (d || e))) h; operands = or_left b (c || (d || e)) h1; written = or_left c (d || e) h2; results = or_left d e h3 }

  -- a visible operand of a type that fits
  pub record Reads (i : ℕ) (x : ValueNo) : Type 0 where
    pub type : Ty
    pub visible : lookup s.seen x.0 ≡ Some type
    pub fits : operand_fits (form p.op) p i type ≡ true

  pub reads : (i : ℕ) (x : ValueNo) → slice_get (operands_of p.op) i ≡ Some x → Reads i x
  reads i x at = step (lookup s.seen x.0) refl
    where
      visible : not (is_some (lookup s.seen x.0)) ≡ false
      visible = none_here (operand_breaks Undefined s.seen p) (operands_of p.op) (parts Undefined).operands i x at

      typed : misfits (operand_fits (form p.op) p i) (lookup s.seen x.0) ≡ false
      typed = none_here (operand_breaks TypeMismatch s.seen p) (operands_of p.op) (parts TypeMismatch).operands i x at

      step : (o : Option Ty) → lookup s.seen x.0 ≡ o → Reads i x
      step None is = let hidden : not (is_some (lookup s.seen x.0)) ≡ true = ap (λ (o : Option Ty). not (is_some o)) is in let seen : not (is_some (lookup s.seen x.0)) ≡ false = visible in cc
      step (Some t) is = record {
        type = t;
        visible = is;
        fits = not_false (operand_fits (form p.op) p i t) (subst (λ (o : Option Ty). misfits (operand_fits (form p.op) p i) o ≡ false) is typed);
      }

  pub writes : (i : ℕ) (t : Ty) → slice_get (written_of p.op) i ≡ Some t → written_fits (form p.op) p i t ≡ true
  writes i t at = not_false _ (none_here (written_breaks TypeMismatch p) (written_of p.op) (parts TypeMismatch).written i t at)

  pub gives_type : (i : ℕ) (t : Ty) → slice_get (types_of p.op) i ≡ Some t → result_fits (form p.op) p i t ≡ true
  gives_type i t at = not_false _ (none_here (result_breaks TypeMismatch p) (types_of p.op) (parts TypeMismatch).results i t at)

  -- the lengths of the lists
  pub record Counts : Type 0 where
    pub operands : length (operands_of p.op) ≡ operands_asked p.op
    pub written : length (written_of p.op) ≡ written_asked (form p.op) p
    pub types : length (types_of p.op) ≡ types_asked p
    pub results : length (results_of p.op) ≡ length (types_of p.op)

  pub counts : Counts
  counts =
      let all : miscounts p ≡ false = or_left (miscounts p) (tries_results (form p.op) p.callee) (parts Arity).own in
      let a : Bool = length (operands_of p.op) == operands_asked p.op in
      let b : Bool = length (written_of p.op) == written_asked (form p.op) p in
      let c : Bool = length (types_of p.op) == types_asked p in
      let d : Bool = length (results_of p.op) == length (types_of p.op) in
      let e : Bool = length (regions_of p.op) == (row_at p.op).regions in
      let f : Bool = groups_fit (form p.op) p.op in
      let h1 = or_right (not a) (not b || (not c || (not d || (not e || not f)))) all in
      let h2 = or_right (not b) (not c || (not d || (not e || not f))) h1 in
      let h3 = or_right (not c) (not d || (not e || not f)) h2 in
      record {
        operands = equal _ _ (not_false a (or_left (not a) (not b || (not c || (not d || (not e || not f)))) all));
        written = equal _ _ (not_false b (or_left (not b) (not c || (not d || (not e || not f))) h1));
        types = equal _ _ (not_false c (or_left (not c) (not d || (not e || not f)) h2));
        results = equal _ _ (not_false d (or_left (not d) (not e || not f) h3));
      }

  pub operand_count : length (operands_of p.op) ≡ operands_asked p.op
  operand_count = counts.operands

  -- a call names a function
  pub has_callee : is_call (form p.op) ≡ true → is_some p.callee ≡ true
  has_callee e = not_false (is_some p.callee) (ands (is_call (form p.op)) (not (is_some p.callee)) e (parts UnknownFunc).own)
    where
      ands : (a b : Bool) → a ≡ true → (a && b) ≡ false → b ≡ false
      ands true b e h = h
      ands false b e h = cc
