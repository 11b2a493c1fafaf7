-- Made operations without regions break nothing.
use Rattle.std.proofs.Common.{◌≡◌, ℕ, ◌+◌, ◌==◌, ◌&&◌, ◌||◌, not, Bool, true, false, List, [], ◌∷◌, length, Option, Some, refl, sym, ap, ◌∙◌, arith}
use Rattle.std.specs.Option.{is_some}
use Rattle.std.proofs.lemmas.Bool.Decides.{nat_tests}
use Rattle.op_table.specs.declared.kind.OpKind.{OpKind}
use Rattle.op_table.specs.declared.form.Form.{Form}
use Rattle.op_table.specs.declared.rows.Count.TheVariants.{Exactly}
use Rattle.op_table.specs.Rows.{row_of, is_other}
use Rattle.ir_forms.specs.declared.ops.Attr.{Attr}
use Rattle.ir_forms.specs.declared.ops.Op.{Op, Op-F, out-Op, roll-Op, out-roll-Op}
use Rattle.ir_forms.specs.declared.ops.Region.{Region}
use Rattle.ir_forms.specs.declared.ops.ValueNo.{ValueNo}
use Rattle.ir_forms.specs.declared.types.NumTy.{NumTy}
use Rattle.ir_forms.specs.declared.types.NumTy.TheVariants as num
use Rattle.ir_forms.specs.declared.types.Ty.{Ty}
use Rattle.ir_forms.specs.Ops.{kind_of, operands_of, written_of, results_of, attr_of, regions_of}
use Rattle.ir_verify.specs.declared.fault.VerifyKind.{VerifyKind}
use Rattle.ir_verify.specs.declared.fault.VerifyKind.TheVariants.{Undefined, TypeMismatch, Terminator, UnknownFunc, Arity, AsyncInMemref, BlockingAwait}
use Rattle.ir_verify.specs.Breaks.{some_from, some_at, misfits, operand_breaks, written_breaks, result_breaks, region_breaks, is_call, is_await, would_block, miscounts, tries_results, own_breaks}
use Rattle.ir_verify.specs.Forms.{form, is_ending}
use Rattle.ir_verify.specs.Places.{Place, Seen, types_of}
use Rattle.ir_verify.specs.Rules.{is_in_place, groups_of, groups_fit, operand_fits, operands_asked, operands_given, counted, written_fits, written_asked, result_fits, types_asked, types_given}
use Rattle.ir_verify.specs.Scopes.{lookup}
use Rattle.ir_verify.specs.Types.{same_type, is_number, has_async_cells}
use Rattle.made_ops.specs.Made.{type_of}
use Rattle.sound_laws.specs.Extended.{IsFine}
use Rattle.sound_laws.proofs.Sound.{from_parts}
use Rattle.sound_laws.proofs.Sight.{is_equal}

pub same_number_type : (t : NumTy) → same_type (type_of t) (type_of t) ≡ true
same_number_type (num.Int w) = grind (arith, nat_tests)
same_number_type num.Index = refl

pub is_number_type : (t : NumTy) → is_number (type_of t) ≡ true
is_number_type (num.Int w) = refl
is_number_type num.Index = refl

pub plain_type : (t : NumTy) → has_async_cells (type_of t) ≡ false
plain_type (num.Int w) = refl
plain_type num.Index = refl

-- ---- what an operation asks, list by list

-- a form that ends no region, calls nothing and awaits nothing
abbrev pub is_plain : Form → Bool
is_plain f = not (is_other f) && (not (is_ending f) && (not (is_call f) && not (is_await f)))

-- an operand is visible with a type that fits
pub record Serves (seen : Seen) (p : Place) (f : Form) (i : ℕ) (v : ValueNo) : Type 0 where
  pub type : Ty
  pub visible : lookup seen v.0 ≡ Some type
  pub fits : operand_fits f p i type ≡ true

module _ (p : Place) (f : Form) where
  abbrev pub Serve : Seen → ℕ → List ValueNo → Type 0
  Serve seen i [] = Unit {0}
  Serve seen i (v ∷ vs) = Serves seen p f i v × Serve seen (i + 1) vs

  abbrev pub AreWrittenSo : ℕ → List Ty → Type 0
  AreWrittenSo i [] = Unit {0}
  AreWrittenSo i (t ∷ ts) = (written_fits f p i t ≡ true) × (has_async_cells t ≡ false) × AreWrittenSo (i + 1) ts

  abbrev pub AreResults : ℕ → List Ty → Type 0
  AreResults i [] = Unit {0}
  AreResults i (t ∷ ts) = (result_fits f p i t ≡ true) × (has_async_cells t ≡ false) × AreResults (i + 1) ts

  pub operands_pass : (seen : Seen) (kind : VerifyKind) (form_is : form p.op ≡ f) (i : ℕ) (vs : List ValueNo) → Serve seen i vs → some_from (operand_breaks kind seen p) i vs ≡ false
  operands_pass seen kind form_is i [] h = refl
  operands_pass seen kind form_is i (v ∷ vs) h = ap (λ b. b || some_from (operand_breaks kind seen p) (i + 1) vs) (one kind) ∙ operands_pass seen kind form_is (i + 1) vs h.1
    where
      one : (kind : VerifyKind) → operand_breaks kind seen p i v ≡ false
      one Undefined = ap (λ (o : Option Ty). not (is_some o)) h.0.visible
      one TypeMismatch = ap (λ (o : Option Ty). misfits (operand_fits (form p.op) p i) o) h.0.visible ∙ ap (λ g. not (operand_fits g p i h.0.type)) form_is ∙ ap (λ b. not b) h.0.fits
      one k = refl

  pub written_pass : (kind : VerifyKind) (form_is : form p.op ≡ f) (i : ℕ) (ts : List Ty) → AreWrittenSo i ts → some_from (written_breaks kind p) i ts ≡ false
  written_pass kind form_is i [] h = refl
  written_pass kind form_is i (t ∷ ts) h = ap (λ b. b || some_from (written_breaks kind p) (i + 1) ts) (one kind) ∙ written_pass kind form_is (i + 1) ts h.2
    where
      one : (kind : VerifyKind) → written_breaks kind p i t ≡ false
      one TypeMismatch = ap (λ g. not (written_fits g p i t)) form_is ∙ ap (λ b. not b) h.0
      one AsyncInMemref = h.1
      one k = refl

  results_pass : (kind : VerifyKind) (form_is : form p.op ≡ f) (i : ℕ) (ts : List Ty) → AreResults i ts → some_from (result_breaks kind p) i ts ≡ false
  results_pass kind form_is i [] h = refl
  results_pass kind form_is i (t ∷ ts) h = ap (λ b. b || some_from (result_breaks kind p) (i + 1) ts) (one kind) ∙ results_pass kind form_is (i + 1) ts h.2
    where
      one : (kind : VerifyKind) → result_breaks kind p i t ≡ false
      one TypeMismatch = ap (λ g. not (result_fits g p i t)) form_is ∙ ap (λ b. not b) h.0
      one AsyncInMemref = h.1
      one k = refl

  own_pass : (form_is : form p.op ≡ f) → is_plain f ≡ true → miscounts p ≡ false → tries_results f p.callee ≡ false → (kind : VerifyKind) → own_breaks kind p ≡ false
  own_pass form_is plain counts tries Undefined = refl
  own_pass form_is plain counts tries TypeMismatch = ap is_other form_is ∙ not_first (is_other f) _ plain
    where
      not_first : (a b : Bool) → (not a && b) ≡ true → a ≡ false
      not_first true b h = cc
      not_first false b h = refl
  own_pass form_is plain counts tries Terminator = ap (λ g. is_ending g && not (is_in_place p)) form_is ∙ second (is_other f) (is_ending f) _ (not (is_in_place p)) plain
    where
      second : (a b c d : Bool) → (not a && (not b && c)) ≡ true → (b && d) ≡ false
      second true b c d h = cc
      second false true c d h = cc
      second false false c d h = refl
  own_pass form_is plain counts tries UnknownFunc = ap (λ g. is_call g && not (is_some p.callee)) form_is ∙ third (is_other f) (is_ending f) (is_call f) _ (not (is_some p.callee)) plain
    where
      third : (a b c d e : Bool) → (not a && (not b && (not c && d))) ≡ true → (c && e) ≡ false
      third true b c d e h = cc
      third false true c d e h = cc
      third false false true d e h = cc
      third false false false d e h = refl
  own_pass form_is plain counts tries Arity = ap (λ b. b || tries_results (form p.op) p.callee) counts ∙ ap (λ g. tries_results g p.callee) form_is ∙ tries
  own_pass form_is plain counts tries AsyncInMemref = refl
  own_pass form_is plain counts tries BlockingAwait =
      ap (λ g. is_await g && would_block p.around.nest p.around.is_called) form_is ∙ fourth (is_other f) (is_ending f) (is_call f) (is_await f) (would_block p.around.nest p.around.is_called) plain
    where
      fourth : (a b c d e : Bool) → (not a && (not b && (not c && not d))) ≡ true → (d && e) ≡ false
      fourth true b c d e h = cc
      fourth false true c d e h = cc
      fourth false false true d e h = cc
      fourth false false false true e h = cc
      fourth false false false false e h = refl

-- ---- an operation that is laid open

-- an operation's parts
pub record Is (o : Op) (k : OpKind) (vs : List ValueNo) (ws : List Ty) (rs : List ValueNo) (ts : List Ty) (a : Attr) (held : List Region) : Type 0 where
  pub kind : kind_of o ≡ k
  pub operands : operands_of o ≡ vs
  pub groups : groups_of o ≡ []
  pub written : written_of o ≡ ws
  pub results : results_of o ≡ rs
  pub types : types_of o ≡ ts
  pub attr : attr_of o ≡ a
  pub regions : regions_of o ≡ held

pub rolled : (k : OpKind) (at : ℕ) (vs : List ValueNo) (ws : List Ty) (rs : List ValueNo) (ts : List Ty) (a : Attr) (regions : List Region) →
    Is (roll-Op (record { kind = k; at = at; operands = vs; groups = []; written = ws; results = rs; types = ts; attr = a; regions = regions })) k vs ws rs ts a regions
rolled k at vs ws rs ts a regions =
    let x : Op-F Op Region = record { kind = k; at = at; operands = vs; groups = []; written = ws; results = rs; types = ts; attr = a; regions = regions } in
    let e : out-Op (roll-Op x) ≡ x = out-roll-Op x in
    record {
      kind = ap (λ (n : Op-F Op Region). n.kind) e;
      operands = ap (λ (n : Op-F Op Region). n.operands) e;
      groups = ap (λ (n : Op-F Op Region). n.groups) e;
      written = ap (λ (n : Op-F Op Region). n.written) e;
      results = ap (λ (n : Op-F Op Region). n.results) e;
      types = ap (λ (n : Op-F Op Region). n.types) e;
      attr = ap (λ (n : Op-F Op Region). n.attr) e;
      regions = ap (λ (n : Op-F Op Region). n.regions) e;
    }

module _ (p : Place) (k : OpKind) (vs : List ValueNo) (ws : List Ty) (rs : List ValueNo) (ts : List Ty) (a : Attr) (regions : List Region) (is : Is p.op k vs ws rs ts a regions) where
  pub form_is : form p.op ≡ (row_of k).form
  form_is = ap (λ x. (row_of x).form) is.kind

  -- the lists have these lengths, and so many are asked
  pub counts_are : (n m l : ℕ) → operands_asked p.op ≡ n → written_asked (form p.op) p ≡ m → types_asked p ≡ l → groups_fit (form p.op) p.op ≡ true →
      length vs ≡ n → length ws ≡ m → length ts ≡ l → length rs ≡ length ts → length regions ≡ (row_of k).regions → miscounts p ≡ false
  counts_are n m l asked written types groups v w t r s =
      let e1 : not (length (operands_of p.op) == operands_asked p.op) ≡ false = ap (λ b. not b) (is_equal _ _ (ap (λ (xs : List ValueNo). length xs) is.operands ∙ v ∙ sym asked)) in
      let e2 : not (length (written_of p.op) == written_asked (form p.op) p) ≡ false = ap (λ b. not b) (is_equal _ _ (ap (λ (xs : List Ty). length xs) is.written ∙ w ∙ sym written)) in
      let e3 : not (length (types_of p.op) == types_asked p) ≡ false = ap (λ b. not b) (is_equal _ _ (ap (λ (xs : List Ty). length xs) is.types ∙ t ∙ sym types)) in
      let e4 : not (length (results_of p.op) == length (types_of p.op)) ≡ false =
      ap (λ b. not b) (is_equal _ _ (ap (λ (xs : List ValueNo). length xs) is.results ∙ r ∙ sym (ap (λ (xs : List Ty). length xs) is.types))) in
      let e5 : not (length (regions_of p.op) == (row_of (kind_of p.op)).regions) ≡ false =
      ap (λ b. not b) (is_equal _ _ (ap (λ (xs : List Region). length xs) is.regions ∙ s ∙ sym (ap (λ x. (row_of x).regions) is.kind))) in
      let e6 : not (groups_fit (form p.op) p.op) ≡ false = ap (λ b. not b) groups in
      rw (e1, e2, e3, e4, e5) e6

  pub asked_are : (n : ℕ) → (row_of k).operands ≡ Exactly n → operands_asked p.op ≡ n
  asked_are n e = ap (λ x. counted (row_of x).operands (operands_given (row_of x).form p.op)) is.kind ∙ ap (λ c. counted c (operands_given (row_of k).form p.op)) e

  pub types_are : (n : ℕ) → (row_of k).results ≡ Exactly n → types_asked p ≡ n
  types_are n e = ap (λ x. counted (row_of x).results (types_given (row_of x).form p)) is.kind ∙ ap (λ c. counted c (types_given (row_of k).form p)) e

-- what breaks nothing
module _ (seen : Seen) (p : Place) (k : OpKind) (vs : List ValueNo) (ws : List Ty) (rs : List ValueNo) (ts : List Ty) (a : Attr) (regions : List Region) (is : Is p.op k vs ws rs ts a regions) (f : Form) (form_so : form p.op ≡ f) where
  pub plain_fine : is_plain f ≡ true → miscounts p ≡ false → tries_results f p.callee ≡ false → Serve p f seen 0 vs → AreWrittenSo p f 0 ws → AreResults p f 0 ts →
      ((kind : VerifyKind) → some_at (region_breaks kind p.op) regions ≡ false) → IsFine (record { seen = seen; place = p })
  plain_fine plain counts tries serve written results held kind =
      from_parts (record { seen = seen; place = p }) kind (record {
        own = own_pass p f form_so plain counts tries kind;
        operands = ap (λ (xs : List ValueNo). some_at (operand_breaks kind seen p) xs) is.operands ∙ operands_pass p f seen kind form_so 0 vs serve;
        written = ap (λ (xs : List Ty). some_at (written_breaks kind p) xs) is.written ∙ written_pass p f kind form_so 0 ws written;
        results = ap (λ (xs : List Ty). some_at (result_breaks kind p) xs) is.types ∙ results_pass p f kind form_so 0 ts results;
        regions = ap (λ (xs : List Region). some_at (region_breaks kind p.op) xs) is.regions ∙ held kind;
      })
