-- Operations that break no rule, one by one.
use Rattle.std.proofs.Common.{◌≡◌, ◌≤◌, ℕ, suc, ◌+◌, ◌==◌, not, cond, if◌then◌else◌, Bool, true, false, List, [], ◌∷◌, length, Option, Some, None, IsSome, slice_get, refl, sym, ap, ◌∙◌, subst, arith}
use Rattle.std.specs.Option.{is_some, option_map}
use Rattle.std.specs.Str.{bytes_eq}
use Rattle.ir_verify.specs.declared.fault.VerifyKind.TheVariants.{Arity}
use Rattle.op_table.specs.declared.form.Form.{Form}
use Rattle.op_table.specs.declared.form.Form.TheVariants as shape
use Rattle.op_table.specs.declared.kind.OpKind.{OpKind}
use Rattle.op_table.specs.declared.kind.OpKind.TheVariants as op
use Rattle.op_table.specs.Rows.{row_of}
use Rattle.ir_forms.specs.declared.ops.Attr.{Attr}
use Rattle.ir_forms.specs.declared.ops.Attr.TheVariants as attr
use Rattle.ir_forms.specs.declared.ops.Func.{Func}
use Rattle.ir_forms.specs.declared.ops.Op.{Op, out-Op}
use Rattle.ir_forms.specs.declared.ops.ValueNo.{ValueNo}
use Rattle.ir_forms.specs.declared.types.Ty.{Ty}
use Rattle.ir_forms.specs.declared.types.Ty.TheVariants as ty
use Rattle.ir_forms.specs.Ops.{kind_of, operands_of, written_of, results_of, attr_of}
use Rattle.ir_verify.specs.Breaks.{has_results, is_call, miscounts, own_breaks, tries_results}
use Rattle.ir_verify.specs.Calls.{callee_place}
use Rattle.ir_verify.specs.Forms.{form, form_of, ends, is_ending}
use Rattle.ir_verify.specs.Names.{first_named}
use Rattle.ir_verify.specs.Places.{Spot, types_of, named, called}
use Rattle.ir_verify.specs.Rules.{first_type, end_around, end_length, end_asks, operand_fits, operands_given, written_asked, types_given, counted, param_length}
use Rattle.ir_verify.specs.Types.{same_type}
use Rattle.ir_verify.proofs.NameLemmas.{named_at}
use Rattle.source_meaning.specs.Parts.{width_of, dims_of}
use Rattle.mlir_print.specs.Printable.{HasParts}
use Rattle.scf_blocks.specs.declared.role.Role.TheVariants as role
use Rattle.scf_blocks.specs.Tree.{Var, typed}
use Rattle.block_carry.specs.Rows.{Asks, alloc, dealloc, load, store, create_group}
use Rattle.typed_laws.specs.Typed.{Fresh, IsGood}
use Rattle.typed_laws.proofs.Facts.{reads, counts, in_place, has_callee, or_left, or_right, not_false, equal}
use Rattle.typed_laws.proofs.Types.{type_same, both_true}
use Rattle.laid_ops.specs.Suited as suited
use Rattle.laid_ops.specs.Suited.{type_in, with_known, AreSeen, Gives, AsksWell, IsCalled, IsSuited, results_in}
use Rattle.suited_ops.specs.Laws.{IsRead, KeepPlaces}
use Rattle.suited_ops.proofs.Known.{Agrees, defined_typed, fresh_vars, seen_all}
use Rattle.suited_ops.proofs.KindLemmas.{Quiet, Wide}

-- ---- the ends of regions

-- a region that ends so tests
abbrev pub tests_in : Form → Bool
tests_in shape.Condition = true
tests_in _ = false

-- and gives as many values, with the test
abbrev pub given : Form → ℕ → ℕ
given shape.Condition n = 1 + n
given _ n = n

pub ends_yield : (f : Form) → ends f shape.Yield ≡ true → f ≡ shape.Yield
ends_yield shape.Yield e = refl
ends_yield _ e = cc

pub ends_return : (f : Form) → ends f shape.Return ≡ true → f ≡ shape.Return
ends_return shape.Return e = refl
ends_return _ e = cc

pub ends_condition : (f : Form) → ends f shape.Condition ≡ true → f ≡ shape.Condition
ends_condition shape.Condition e = refl
ends_condition _ e = cc

-- ---- lists

one_of : {A : Type 0} (xs : List A) → length xs ≡ 1 → (x : A) × (xs ≡ x ∷ [])
one_of [] e = absurd (omega (arith, e))
one_of (x ∷ []) e = (x, refl)
one_of (x ∷ y ∷ xs) e = absurd (omega (arith, e))

pub some_of : {A : Type 0} (xs : List A) (n : ℕ) → length xs ≡ 1 + n → (x : A) × (more : List A) × (xs ≡ x ∷ more)
some_of [] n e = absurd (omega (arith, e))
some_of (x ∷ xs) n e = (x, xs, refl)

pub none_of : {A : Type 0} (xs : List A) → length xs ≡ 0 → xs ≡ []
none_of [] e = refl
none_of (x ∷ xs) e = absurd (omega (arith, e))

-- ---- functions that are named

some_next : (x : Option ℕ) → is_some x ≡ true → is_some (option_map suc x) ≡ true
some_next None h = cc
some_next (Some n) h = refl

place_named : (funcs : List Func) (name : List ℕ) → is_some (named funcs name) ≡ true → is_some (first_named funcs name) ≡ true
place_named [] name h = cc
place_named (f ∷ funcs) name h = step (bytes_eq f.name name) h (place_named funcs name)
  where
    step : (b : Bool) → is_some (cond b (Some f) (named funcs name)) ≡ true → (is_some (named funcs name) ≡ true → is_some (first_named funcs name) ≡ true) →
        is_some (cond b (Some 0) (option_map suc (first_named funcs name))) ≡ true
    step true h again = refl
    step false h again = some_next (first_named funcs name) (again h)

some_is : {A : Type 0} (x : Option A) → is_some x ≡ true → (y : A) × (x ≡ Some y)
some_is None h = cc
some_is (Some y) h = (y, refl)

callee_found : (funcs : List Func) (a : Attr) → is_some (called funcs a) ≡ true → (g : ℕ) × (f : Func) × (callee_place funcs a ≡ Some g) × (slice_get funcs g ≡ Some f) × (called funcs a ≡ Some f)
callee_found funcs (attr.Callee name) h =
    let g = some_is (first_named funcs name) (place_named funcs name h) in
    let f = some_is (named funcs name) h in
    (g.0, f.0, g.1, sym (named_at funcs name g.0 g.1) ∙ f.1, f.1)
callee_found funcs _ h = cc

callee_kept : (from to : List Func) → KeepPlaces from to → (a : Attr) (g : ℕ) → callee_place from a ≡ Some g → callee_place to a ≡ Some g
callee_kept from to keep (attr.Callee name) g e = keep name g e
callee_kept from to keep _ g e = cc

module _ (s : Spot) (good : IsGood s) (read : IsRead s) (vars : List Var) (agrees : Agrees s.seen vars) where
  abbrev o : Op
  o = s.place.op

  -- ---- what each has

  pub operand_seen : (i : ℕ) (x : ValueNo) → slice_get (operands_of o) i ≡ Some x → IsSome (type_in vars x.0)
  operand_seen i x at = let r = reads s good.fine i x at in subst IsSome (sym (agrees x.0 ∙ r.visible)) refl

  pub operands_seen : AreSeen vars (out-Op o).operands
  operands_seen = seen_all vars (operands_of o) operand_seen

  pub seen_as : (xs : List ValueNo) → operands_of o ≡ xs → AreSeen vars xs
  seen_as xs e = subst (AreSeen vars) e operands_seen

  pub new_results : Fresh s.seen (results_in (out-Op o))
  new_results = subst (Fresh s.seen) (defined_typed (results_of o) (types_of o)) good.results

  pub gives : Gives vars (out-Op o)
  gives = let c = counts s good.fine in record { many = sym c.results; fresh = fresh_vars s.seen vars (results_in (out-Op o)) agrees new_results }

  pub operands_for : (k : OpKind) → kind_of o ≡ k → length (operands_of o) ≡ counted (row_of k).operands (operands_given (row_of k).form o)
  operands_for k e = let c = counts s good.fine in c.operands ∙ ap (λ q. counted (row_of q).operands (operands_given (row_of q).form o)) e

  pub written_for : (g : Form) → form o ≡ g → length (written_of o) ≡ written_asked g s.place
  written_for g e = let c = counts s good.fine in c.written ∙ ap (λ q. written_asked q s.place) e

  pub types_for : (k : OpKind) → kind_of o ≡ k → length (types_of o) ≡ counted (row_of k).results (types_given (row_of k).form s.place)
  types_for k e = let c = counts s good.fine in c.types ∙ ap (λ q. counted (row_of q).results (types_given (row_of q).form s.place)) e

  pub results_for : (k : OpKind) → kind_of o ≡ k → length (results_of o) ≡ counted (row_of k).results (types_given (row_of k).form s.place)
  results_for k e = let c = counts s good.fine in c.results ∙ types_for k e

  pub one_result : (k : OpKind) → kind_of o ≡ k → counted (row_of k).results (types_given (row_of k).form s.place) ≡ 1 → length (results_of o) ≤ 1
  one_result k e one = let h : length (results_of o) ≡ 1 = results_for k e ∙ one in omega (arith, h)

  pub no_result : (k : OpKind) → kind_of o ≡ k → counted (row_of k).results (types_given (row_of k).form s.place) ≡ 0 → results_of o ≡ []
  no_result k e none = none_of (results_of o) (results_for k e ∙ none)

  -- ---- the width of the first operand

  width_by : (g : Form) → form o ≡ g → ((t : Ty) → operand_fits g s.place 0 t ≡ same_type (first_type (written_of o)) t) → (xs : List ValueNo) (ws : List Ty) → operands_of o ≡ xs → written_of o ≡ ws →
      (m n : ℕ) → length xs ≡ 1 + m → length ws ≡ 1 + n → width_of (suited.first_type vars xs) ≡ width_of (slice_get ws 0)
  width_by g f fit [] ws is ws_is m n some more = absurd (omega (arith, some))
  width_by g f fit (x ∷ xs) [] is ws_is m n some more = absurd (omega (arith, more))
  width_by g f fit (x ∷ xs) (w ∷ ws) is ws_is m n some more =
      let r = reads s good.fine 0 x (ap (λ (l : List ValueNo). slice_get l 0) is) in
      let fits : operand_fits g s.place 0 r.type ≡ true = subst (λ q. operand_fits q s.place 0 r.type ≡ true) f r.fits in
      let same : w ≡ r.type = type_same w r.type (subst (λ (l : List Ty). same_type (first_type l) r.type ≡ true) ws_is (sym (fit r.type) ∙ fits)) in
      ap width_of (agrees x.0 ∙ r.visible ∙ ap Some (sym same))

  pub first_width : (g : Form) → form o ≡ g → ((t : Ty) → operand_fits g s.place 0 t ≡ same_type (first_type (written_of o)) t) → (m n : ℕ) → length (operands_of o) ≡ 1 + m → written_asked g s.place ≡ 1 + n →
      width_of (suited.first_type vars (operands_of o)) ≡ width_of (slice_get (written_of o) 0)
  first_width g f fit m n some more = width_by g f fit (operands_of o) (written_of o) refl refl m n some (written_for g f ∙ more)

  -- ---- operations without regions

  module _ (from to : List Func) (d : Bool) (a : ℕ) (rest : List Op) where
    -- what follows
    abbrev pub Next : Type 0
    Next = IsSuited from to d a (with_known (results_in (out-Op o)) vars) rest

    abbrev pub Here : Type 0
    Here = IsSuited from to d a vars (o ∷ rest)

    pub quiet : (k : OpKind) → kind_of o ≡ k → Quiet k → Next → Here
    quiet k e q more =
        let c : Quiet (kind_of o) = subst Quiet (sym e) q in
        suited.computes d a vars o rest c.computing.m c.computing.computes (one_result (kind_of o) refl (c.computing.single _)) gives (λ w. absurd (c.quiet w)) operands_seen more

    pub wide : (g : Form) → form o ≡ g → ((t : Ty) → operand_fits g s.place 0 t ≡ same_type (first_type (written_of o)) t) → (n : ℕ) → written_asked g s.place ≡ 1 + n → Wide (kind_of o) → Next → Here
    wide g f fit n asked c more =
        suited.computes d a vars o rest c.computing.m c.computing.computes (one_result (kind_of o) refl (c.computing.single _)) gives
        (λ w. first_width g f fit c.more n (operands_for (kind_of o) refl ∙ c.many _) asked) operands_seen more

    -- with no results the same values stay visible
    pub unnamed : results_of o ≡ [] → Next → IsSuited from to d a vars rest
    unnamed none more = subst (λ (xs : List ValueNo). IsSuited from to d a (with_known (typed xs (types_of o)) vars) rest) none more

    pub asserts : kind_of o ≡ op.CfAssert → Next → Here
    asserts e more =
        let c = one_of (operands_of o) (operands_for op.CfAssert e) in
        suited.asserts d a vars o rest c.0 [] e c.1 (seen_as (c.0 ∷ []) c.1) read.small (unnamed (no_result op.CfAssert e refl) more)

    pub awaits : kind_of o ≡ op.AsyncAwait → Next → Here
    awaits e more =
        let c = one_of (operands_of o) (operands_for op.AsyncAwait e) in
        suited.awaits d a vars o rest c.0 [] e c.1 (seen_as (c.0 ∷ []) c.1) gives read.small more

    pub awaits_all : kind_of o ≡ op.AsyncAwaitAll → Next → Here
    awaits_all e more =
        let c = one_of (operands_of o) (operands_for op.AsyncAwaitAll e) in
        let none : results_of o ≡ [] = no_result op.AsyncAwaitAll e refl in
        suited.awaits_all d a vars o rest c.0 [] e c.1 (seen_as (c.0 ∷ []) c.1) none read.small (unnamed none more)

    asks_by : (k l : OpKind) (q : Asks k l) → kind_of o ≡ k → AsksWell q (out-Op o) → Next → Here
    asks_by k l q e well more =
        subst (λ j. (x : Asks j l) → AsksWell x (out-Op o) → Here) e (λ x w. suited.asks d a vars o rest l x w gives operands_seen more) q well

    pub deallocates : kind_of o ≡ op.MemrefDealloc → Next → Here
    deallocates e = asks_by op.MemrefDealloc op.MemrefDealloc dealloc e (no_result op.MemrefDealloc e refl)

    pub loads : kind_of o ≡ op.MemrefLoad → Next → Here
    loads e = asks_by op.MemrefLoad op.MemrefLoad load e (one_result op.MemrefLoad e refl)

    pub stores : kind_of o ≡ op.MemrefStore → Next → Here
    stores e = asks_by op.MemrefStore op.MemrefStore store e (no_result op.MemrefStore e refl)

    pub creates : kind_of o ≡ op.AsyncCreateGroup → Next → Here
    creates e = asks_by op.AsyncCreateGroup op.AsyncRuntimeCreateGroup create_group e (one_result op.AsyncCreateGroup e refl)

    -- the reader lets four dimensions through
    pub allocates : kind_of o ≡ op.MemrefAlloc → Next → Here
    allocates e =
        let h : HasParts shape.Alloc o = subst (λ k. HasParts (row_of k).form o) e read.parts in
        asks_by op.MemrefAlloc op.MemrefAlloc alloc e (subst (λ (ts : List Ty). length (dims_of (slice_get ts 0)) ≤ 4) (sym h.2.types_are) h.1.0, one_result op.MemrefAlloc e refl)

  -- ---- calls

  pub record Calls (from to : List Func) : Type 0 where
    pub g : ℕ
    pub callee : Func
    pub is : IsCalled from to (out-Op o) g callee
    pub found : s.place.callee ≡ Some callee

  pub calls_of : (from to : List Func) (k : OpKind) → KeepPlaces from to → s.place.callee ≡ called from (attr_of o) → kind_of o ≡ k → is_call (form_of k) ≡ true →
      counted (row_of k).operands (operands_given (row_of k).form o) ≡ length (written_of o) → written_asked (form_of k) s.place ≡ param_length s.place.callee (length (written_of o)) → Calls from to
  calls_of from to k keep callee e call many asked =
      let c = callee_found from (attr_of o) (subst (λ q. is_some q ≡ true) callee (has_callee s good.fine (ap (λ q. is_call (form_of q)) e ∙ call))) in
      let f : s.place.callee ≡ Some c.1 = callee ∙ c.4 in
      record {
        g = c.0;
        callee = c.1;
        is = record {
          place = c.2;
          again = callee_kept from to keep (attr_of o) c.0 c.2;
          func = c.3;
          many = operands_for k e ∙ many ∙ written_for (form_of k) (ap form_of e) ∙ asked ∙ ap (λ q. param_length q (length (written_of o))) f;
        };
        found = f;
      }

  pub gives_none : (f : Func) → form o ≡ shape.TryCall → s.place.callee ≡ Some f → length f.results ≡ 0
  gives_none f g found =
      let own : tries_results (form o) s.place.callee ≡ false = or_right (miscounts s.place) _ (or_left (own_breaks Arity s.place) _ (good.fine Arity)) in
      let none : not (length f.results == 0) ≡ false = subst (λ q. has_results q ≡ false) found (subst (λ q. tries_results q s.place.callee ≡ false) g own) in
      equal (length f.results) 0 (not_false (length f.results == 0) none)

  -- ---- the end of a region

  pub asked_end : is_ending (form o) ≡ true → ends (end_around s.place.around.holder s.place.around.region) (form o) ≡ true
  asked_end e = let b = both_true s.place.is_last _ (in_place s good.fine e) in b.1

  pub end_written : (g : Form) → form o ≡ g → is_ending g ≡ true → written_asked g s.place ≡ end_asks s.place → length (written_of o) ≡ end_length s.place.around
  end_written g f e asked =
      written_for g f ∙ asked
      ∙ ap (λ (b : Bool). if b then end_length s.place.around else length (written_of o)) (in_place s good.fine (ap is_ending f ∙ e))
