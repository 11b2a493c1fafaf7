-- A call of a function that is there and takes what it is given breaks nothing.
use Rattle.std.proofs.Common.{◌≡◌, ℕ, zero, suc, ◌+◌, ◌&&◌, ◌||◌, not, true, false, List, [], ◌∷◌, length, Option, Some, slice_get, refl, sym, ap, ◌∙◌, subst, arith}
use Rattle.std.specs.Option.{is_some, option_map}
use Rattle.op_table.specs.declared.kind.OpKind.{OpKind}
use Rattle.op_table.specs.declared.kind.OpKind.TheVariants.{AioTryCall, FuncCall}
use Rattle.op_table.specs.declared.form.Form.{Form}
use Rattle.op_table.specs.declared.form.Form.TheVariants.{Call, TryCall}
use Rattle.op_table.specs.declared.rows.Count.TheVariants.{Any}
use Rattle.op_table.specs.Rows.{is_other, row_of}
use Rattle.ir_forms.specs.declared.ops.Attr.{Attr}
use Rattle.ir_forms.specs.declared.ops.Attr.TheVariants as attr
use Rattle.ir_forms.specs.declared.ops.Op.{Op}
use Rattle.ir_forms.specs.declared.ops.Region.{Region}
use Rattle.ir_forms.specs.declared.ops.Func.{Func}
use Rattle.ir_forms.specs.declared.ops.ValueNo.{ValueNo}
use Rattle.ir_forms.specs.declared.types.Ty.{Ty}
use Rattle.ir_forms.specs.Ops.{attr_of, written_of}
use Rattle.ir_verify.specs.declared.fault.VerifyKind.{VerifyKind}
use Rattle.ir_verify.specs.declared.fault.VerifyKind.TheVariants.{Undefined, TypeMismatch, Terminator, UnknownFunc, Arity, AsyncInMemref, BlockingAwait}
use Rattle.ir_verify.specs.Breaks.{is_await, is_call, miscounts, operand_breaks, own_breaks, region_breaks, result_breaks, some_at, some_from, tries_results, would_block, written_breaks}
use Rattle.ir_verify.specs.Forms.{form, is_ending}
use Rattle.ir_verify.specs.Places.{Around, Place, Seen, called, named, place_of, places_held}
use Rattle.ir_verify.specs.Rules.{counted, groups_fit, is_asked, is_in_place, operand_fits, operands_given, param_length, param_type, result_fits, types_given, written_asked, written_fits}
use Rattle.ir_verify.proofs.PlaceLemmas.{places_at-out}
use Rattle.made_ops.specs.Made.{truth, type_of}
use Rattle.loop_blocks.specs.Made.{Typed, types_in, values_in}
use Rattle.sound_laws.specs.Extended.{AreFine, IsFine}
use Rattle.sound_laws.proofs.Sound.{from_parts}
use Rattle.sound_laws.proofs.Plain.{AreResults, AreWrittenSo, Is, Serve, counts_are, operands_pass, written_pass}
use Rattle.sound_loops.specs.Seen.{AreSeen, AreSound, FineAt}
use Rattle.sound_loops.proofs.Ends.{and_false}

-- the table has this row for a kind that calls
pub record IsCall (k : OpKind) (f : Form) : Type 0 where
  pub form : (row_of k).form ≡ f
  pub operands : (row_of k).operands ≡ Any
  pub regions : (row_of k).regions ≡ 0
  pub given : (o : Op) → operands_given f o ≡ length (written_of o)
  pub fits : (p : Place) (i : ℕ) (t : Ty) → operand_fits f p i t ≡ is_asked (slice_get (written_of p.op) i) t
  pub writes : (p : Place) (i : ℕ) (t : Ty) → written_fits f p i t ≡ is_asked (param_type p.callee i) t
  pub asks : (p : Place) → written_asked f p ≡ param_length p.callee (length (written_of p.op))
  pub groups : (o : Op) → groups_fit f o ≡ true
  pub other : is_other f ≡ false
  pub ending : is_ending f ≡ false
  pub await : is_await f ≡ false

pub try_is : IsCall AioTryCall TryCall
try_is = record { form = refl; operands = refl; regions = refl; given = λ o. refl; fits = λ p i t. refl; writes = λ p i t. refl; asks = λ p. refl; groups = λ o. refl; other = refl; ending = refl; await = refl }

pub call_is : IsCall FuncCall Call
call_is = record { form = refl; operands = refl; regions = refl; given = λ o. refl; fits = λ p i t. refl; writes = λ p i t. refl; asks = λ p. refl; groups = λ o. refl; other = refl; ending = refl; await = refl }

mapped : (ps : Typed) (i : ℕ) → option_map (λ q. q.1) (slice_get ps i) ≡ slice_get (types_in ps) i
mapped [] i = refl
mapped (p ∷ ps) zero = refl
mapped (p ∷ ps) (suc i) = mapped ps i

values_count : (ps : Typed) → length (values_in ps) ≡ length ps
values_count [] = refl
values_count (p ∷ ps) = ap suc (values_count ps)

types_count : (ps : Typed) → length (types_in ps) ≡ length ps
types_count [] = refl
types_count (p ∷ ps) = ap suc (types_count ps)

module _ (p : Place) (f : Form) where
  module _ (now : Seen) (fits : (i : ℕ) (t : Ty) → operand_fits f p i t ≡ is_asked (slice_get (written_of p.op) i) t) where
    serves : (i : ℕ) (args : Typed) → ((j : ℕ) (t : Ty) → slice_get (types_in args) j ≡ Some t → slice_get (written_of p.op) (i + j) ≡ Some t) → AreSeen now args → AreSound args → Serve p f now i (values_in args)
    serves i [] at seen sound = tt
    serves i (q ∷ args) at seen sound =
        let here : slice_get (written_of p.op) i ≡ Some q.1 = let same : i + 0 ≡ i = omega arith in subst (λ n. slice_get (written_of p.op) n ≡ Some q.1) same (at 0 q.1 refl) in (
          record { type = q.1; visible = seen.0; fits = fits i q.1 ∙ ap (λ (o : Option Ty). is_asked o q.1) here ∙ sound.0.same },
          serves (i + 1) args (λ j t is. let same : i + suc j ≡ (i + 1) + j = omega arith in subst (λ n. slice_get (written_of p.op) n ≡ Some t) same (at (suc j) t is)) seen.1 sound.1,
        )

  writes_so : (ts : ℕ → Option Ty) → ((i : ℕ) (t : Ty) → written_fits f p i t ≡ is_asked (ts i) t) → (i : ℕ) (args : Typed) → ((j : ℕ) (t : Ty) → slice_get (types_in args) j ≡ Some t → ts (i + j) ≡ Some t) → AreSound args → AreWrittenSo p f i (types_in args)
  writes_so ts fits i [] at sound = tt
  writes_so ts fits i (q ∷ args) at sound =
      let here : ts i ≡ Some q.1 = let same : i + 0 ≡ i = omega arith in subst (λ n. ts n ≡ Some q.1) same (at 0 q.1 refl) in (
        fits i q.1 ∙ ap (λ (o : Option Ty). is_asked o q.1) here ∙ sound.0.same,
        sound.0.cells,
        writes_so ts fits (i + 1) args (λ j t is. let same : i + suc j ≡ (i + 1) + j = omega arith in subst (λ n. ts n ≡ Some t) same (at (suc j) t is)) sound.1,
      )

from_zero : (ts : List Ty) (j : ℕ) (t : Ty) → slice_get ts j ≡ Some t → slice_get ts (0 + j) ≡ Some t
from_zero ts j t is = let same : j ≡ 0 + j = omega arith in subst (λ n. slice_get ts n ≡ Some t) same is

results_pass : (p : Place) (f : Form) (kind : VerifyKind) → form p.op ≡ f → (i : ℕ) (ts : List Ty) → AreResults p f i ts → some_from (result_breaks kind p) i ts ≡ false
results_pass p f kind form_is i [] h = refl
results_pass p f kind form_is i (t ∷ ts) h = ap (λ b. b || some_from (result_breaks kind p) (i + 1) ts) (one kind) ∙ results_pass p f kind form_is (i + 1) ts h.2
  where
    one : (kind : VerifyKind) → result_breaks kind p i t ≡ false
    one TypeMismatch = ap (λ g. not (result_fits g p i t)) form_is ∙ ap (λ b. not b) h.0
    one AsyncInMemref = h.1
    one k = refl

module _ (funcs : List Func) (now : Seen) (k : OpKind) (f : Form) (e : IsCall k f) (o : Op) (name : List ℕ) (args : Typed) (v : ValueNo)
    (is : Is o k (values_in args) (types_in args) (v ∷ []) (type_of truth ∷ []) (attr.Callee name) []) (callee : Func) (there : named funcs name ≡ Some callee) (types : types_in callee.params ≡ types_in args)
    (seen : AreSeen now args) (sound : AreSound args)
    (row_gives : (p : Place) → p.callee ≡ Some callee → counted (row_of k).results (types_given f p) ≡ 1)
    (tries : tries_results f (Some callee) ≡ false)
    (gives : (p : Place) → p.callee ≡ Some callee → result_fits f p 0 (type_of truth) ≡ true) where
  module _ (around : Around) where
    abbrev p : Place
    p = place_of funcs around false o

    o_form : form o ≡ f
    o_form = ap (λ z. (row_of z).form) is.kind ∙ e.form

    callee_is : called funcs (attr_of o) ≡ Some callee
    callee_is = ap (λ (a : Attr). called funcs a) is.attr ∙ there

    asked : written_asked f p ≡ length args
    asked = e.asks p ∙ ap (λ (c : Option Func). param_length c (length (written_of o))) callee_is ∙ sym (types_count callee.params) ∙ ap (λ (ts : List Ty). length ts) types ∙ types_count args

    counts : miscounts p ≡ false
    counts = counts_are p k (values_in args) (types_in args) (v ∷ []) (type_of truth ∷ []) (attr.Callee name) [] is (length args) (length args) 1
        (ap (λ z. counted (row_of z).operands (operands_given (row_of z).form o)) is.kind ∙ ap (λ c. counted c (operands_given (row_of k).form o)) e.operands
        ∙ ap (λ g. operands_given g o) e.form ∙ e.given o ∙ ap (λ (ws : List Ty). length ws) is.written ∙ types_count args)
        (ap (λ g. written_asked g p) o_form ∙ asked)
        (ap (λ z. counted (row_of z).results (types_given (row_of z).form p)) is.kind ∙ ap (λ g. counted (row_of k).results (types_given g p)) e.form ∙ row_gives p callee_is)
        (ap (λ g. groups_fit g o) o_form ∙ e.groups o) (values_count args) (types_count args) refl refl (sym e.regions)

    own : (kind : VerifyKind) → own_breaks kind p ≡ false
    own Undefined = refl
    own TypeMismatch = ap is_other o_form ∙ e.other
    own Terminator = ap (λ g. is_ending g && not (is_in_place p)) o_form ∙ ap (λ b. b && not (is_in_place p)) e.ending
    own UnknownFunc = ap (λ (c : Option Func). is_call (form o) && not (is_some c)) callee_is ∙ and_false (is_call (form o)) false refl
    own Arity = ap (λ b. b || tries_results (form o) p.callee) counts ∙ ap (λ g. tries_results g p.callee) o_form ∙ ap (λ (c : Option Func). tries_results f c) callee_is ∙ tries
    own AsyncInMemref = refl
    own BlockingAwait = ap (λ g. is_await g && would_block around.nest around.is_called) o_form ∙ ap (λ b. b && would_block around.nest around.is_called) e.await

    written_at : (j : ℕ) (t : Ty) → slice_get (types_in args) j ≡ Some t → slice_get (written_of o) (0 + j) ≡ Some t
    written_at j t at = ap (λ (ws : List Ty). slice_get ws (0 + j)) is.written ∙ from_zero (types_in args) j t at

    param_at : (j : ℕ) (t : Ty) → slice_get (types_in args) j ≡ Some t → param_type p.callee (0 + j) ≡ Some t
    param_at j t at = ap (λ (c : Option Func). param_type c (0 + j)) callee_is ∙ mapped callee.params (0 + j) ∙ ap (λ (ts : List Ty). slice_get ts (0 + j)) types ∙ from_zero (types_in args) j t at

    call_fine : IsFine (record { seen = now; place = p })
    call_fine kind = from_parts (record { seen = now; place = p }) kind (record {
      own = own kind;
      operands = ap (λ (xs : List ValueNo). some_at (operand_breaks kind now p) xs) is.operands ∙ operands_pass p f now kind o_form 0 (values_in args) (serves p f now (e.fits p) 0 args written_at seen sound);
      written = ap (λ (xs : List Ty). some_at (written_breaks kind p) xs) is.written ∙ written_pass p f kind o_form 0 (types_in args) (writes_so p f (param_type p.callee) (e.writes p) 0 args param_at sound);
      results = ap (λ (xs : List Ty). some_at (result_breaks kind p) xs) is.types ∙ results_pass p f kind o_form 0 (type_of truth ∷ []) (gives p callee_is, refl, tt);
      regions = ap (λ (xs : List Region). some_at (region_breaks kind o) xs) is.regions;
    })

  pub call_at : FineAt funcs now o
  call_at around = subst AreFine (sym (places_at-out funcs o around now false)) (call_fine around, subst (λ (rs : List Region). AreFine (places_held funcs rs around o 0 now)) (sym is.regions) tt)
