-- A module and the same with checks have the same runs.
use Rattle.std.proofs.Common.{◌≡◌, ◌<◌, ℕ, zero, suc, cond, List, [], ◌∷◌, map, Option, Some, None, slice_get, refl, sym, ap, ap₂, subst, ◌∙◌}
use Rattle.std.specs.Prelude.{⊤}
use Rattle.std.specs.Option.{option_map}
use Rattle.std.specs.Str.{bytes_eq}
use Rattle.std.proofs.lemmas.Option.{slice_get-map}
use Rattle.ir_forms.specs.declared.args.ArgValue.{ArgValue}
use Rattle.ir_forms.specs.declared.ops.Attr.{Attr}
use Rattle.ir_forms.specs.declared.ops.Attr.TheVariants as attr
use Rattle.ir_forms.specs.declared.ops.Func.{Func}
use Rattle.ir_forms.specs.declared.ops.Module.{Module}
use Rattle.ir_forms.specs.declared.ops.ValueNo.{ValueNo}
use Rattle.ir_verify.specs.declared.calls.Call.{Call}
use Rattle.ir_verify.specs.Calls.{AreMarks, callee_place, calls_of, graph_of}
use Rattle.ir_verify.specs.Names.{first_named}
use Rattle.check_insert.specs.Shape as shape
use Rattle.source_meaning.specs.Values.{or_else, named, bind}
use Rattle.source_meaning.specs.Parts.{uses_of, func_ops, func_params, func_results, names_of}
use Rattle.source_meaning.specs.Tasks.{Program, Outcome, Gave, FailedAt}
use Rattle.source_meaning.specs.Sequential.{IsProgram}
use Rattle.source_meaning.specs.Start.{root_task, arguments, end_of, outs, buffers_out}
use Rattle.source_meaning.specs.declared.ends.SourceEnd.TheVariants.{Done}
use Rattle.source_meaning.specs.Steps.{is_among}
use Rattle.source_meaning.specs.TaskOrder.{Each}
use Rattle.source_meaning.specs.World.{World}
use Rattle.carry_laws.specs.Agreement.{Agreement}
use Rattle.carry_laws.proofs.Law.{same_runs}
use Rattle.number_laws.proofs.Calls.{one-marks}
use Rattle.check_laws.specs.Fits.{HasSmallTypes, ValuesFit}
use Rattle.check_laws.specs.Laws.{ReadsBelow, ChecksCallNothing, ChecksChangeNoRun}
use Rattle.check_laws.proofs.Alike.{LikeOps, none, IsChecked, LikeTask, Kept, task_meets, done, end}
use Rattle.check_laws.proofs.Syntax.{func_like, body_called, ops_uses, region_uses}

-- ---- functions

-- the first number that is free in a function
abbrev bound_of : Option Func → ℕ
bound_of None = 0
bound_of (Some f) = shape.first_free f

abbrev gone : {X : Type 0} → Option X → Type 0
gone None = ⊤
gone (Some x) = ⊥

abbrev holds : {X : Type 0} → (X → Type 0) → Option X → Type 0
holds Q None = ⊤
holds Q (Some x) = Q x

each_at : {X : Type 0} (Q : X → Type 0) (xs : List X) (k : ℕ) (x : X) → Each Q xs → slice_get xs k ≡ Some x → Q x
each_at Q [] k x h e = absurd (subst gone e tt)
each_at Q (y ∷ xs) zero x h e = subst (holds Q) e h.0
each_at Q (y ∷ xs) (suc k) x h e = each_at Q xs k x h.1 e

first_same : (fs : List Func) (name : List ℕ) → first_named (map shape.checked_func fs) name ≡ first_named fs name
first_same [] name = refl
first_same (f ∷ fs) name = ap (λ o. cond (bytes_eq f.name name) (Some 0) (option_map suc o)) (first_same fs name)

pub callee_same : (fs : List Func) (a : Attr) → callee_place (map shape.checked_func fs) a ≡ callee_place fs a
callee_same fs attr.None = refl
callee_same fs (attr.Literal b n) = refl
callee_same fs (attr.Truth b) = refl
callee_same fs (attr.Pred p) = refl
callee_same fs (attr.Text t) = refl
callee_same fs (attr.Callee name) = first_same fs name

calls_same : (fs gs : List Func) → Each ReadsBelow gs → Each HasSmallTypes gs → map (calls_of (map shape.checked_func fs)) (map shape.checked_func gs) ≡ map (calls_of fs) gs
calls_same fs [] h small = refl
calls_same fs (g ∷ gs) h small =
    ap₂ (λ (c : List Call) (cs : List (List Call)). c ∷ cs) (body_called fs (map shape.checked_func fs) (callee_same fs) (shape.first_free g) g.body (shape.checked_func g).body (func_like g h.0 small.0)) (calls_same fs gs h.1 small.1)

pub checks_call_nothing : ChecksCallNothing
checks_call_nothing program h small = calls_same program.funcs program.funcs h small

-- ---- the agreement

module _ (program : Module) (p q : Program) (entry : ℕ) (args : List ArgValue) (reads : Each ReadsBelow program.funcs) (small : Each HasSmallTypes program.funcs) (ip : IsProgram program p) (iq : IsProgram (shape.checked program) q) where
  abbrev pub bounds : ℕ → ℕ
  bounds k = bound_of (slice_get program.funcs k)

  at_place : (k : ℕ) → slice_get q.funcs k ≡ option_map shape.checked_func (slice_get program.funcs k)
  at_place k = ap (λ fs. slice_get fs k) iq.funcs ∙ slice_get-map shape.checked_func program.funcs k

  bodies_from : (k : ℕ) (o : Option Func) → slice_get program.funcs k ≡ o → LikeOps (bound_of o) (func_ops o) (func_ops (option_map shape.checked_func o))
  bodies_from k None e = none
  bodies_from k (Some f) e = func_like f (each_at ReadsBelow program.funcs k f reads e) (each_at HasSmallTypes program.funcs k f small e)

  params_from : (o : Option Func) → func_params (option_map shape.checked_func o) ≡ func_params o
  params_from None = refl
  params_from (Some f) = refl

  results_from : (o : Option Func) → func_results (option_map shape.checked_func o) ≡ func_results o
  results_from None = refl
  results_from (Some f) = refl

  abbrev list_of : Option (List ValueNo) → List ValueNo
  list_of o = or_else [] o

  uses_from : (k : ℕ) (o : Option Func) → slice_get program.funcs k ≡ o → (x : ValueNo) → x.0 < bound_of o → is_among x.0 (list_of (option_map uses_of (option_map shape.checked_func o))) ≡ is_among x.0 (list_of (option_map uses_of o))
  uses_from k None e x l = refl
  uses_from k (Some f) e x l =
      ap (is_among x.0) (region_uses (shape.checked_func f).body) ∙ (ops_uses (shape.first_free f) x.0 l (func_like f (each_at ReadsBelow program.funcs k f reads e) (each_at HasSmallTypes program.funcs k f small e)) ∙ sym (ap (is_among x.0) (region_uses f.body)))

  params_at : (k : ℕ) → func_params (slice_get q.funcs k) ≡ func_params (slice_get p.funcs k)
  params_at k = ap func_params (at_place k) ∙ (params_from (slice_get program.funcs k) ∙ sym (ap (λ fs. func_params (slice_get fs k)) ip.funcs))

  pub is_checked : IsChecked bounds p q
  is_checked = record {
    bodies = λ k. subst (λ o. LikeOps (bounds k) (func_ops (slice_get p.funcs k)) (func_ops o)) (sym (at_place k))
        (subst (λ fs. LikeOps (bounds k) (func_ops (slice_get fs k)) (func_ops (option_map shape.checked_func (slice_get program.funcs k)))) (sym ip.funcs) (bodies_from k (slice_get program.funcs k) refl));
    params = params_at;
    callees = λ a. ap (λ fs. callee_place fs a) iq.funcs ∙ (callee_same program.funcs a ∙ sym (ap (λ fs. callee_place fs a) ip.funcs));
    called = one-marks (graph_of program.funcs) q.called p.called (subst (λ g. AreMarks g q.called) (checks_call_nothing program reads small) iq.called) ip.called;
    uses = λ k x l.
        ap (λ us. is_among x.0 (list_of (slice_get us k))) iq.uses
        ∙ (ap (λ o. is_among x.0 (list_of o)) (slice_get-map uses_of (map shape.checked_func program.funcs) k ∙ ap (option_map uses_of) (slice_get-map shape.checked_func program.funcs k))
        ∙ (uses_from k (slice_get program.funcs k) refl x l
        ∙ sym (ap (λ us. is_among x.0 (list_of (slice_get us k))) ip.uses ∙ ap (λ o. is_among x.0 (list_of o)) (slice_get-map uses_of program.funcs k))));
  }

  ends_same : (w : World) (o : Outcome) → end_of q entry w o ≡ end_of p entry w o
  ends_same w (FailedAt n) = refl
  ends_same w (Gave vs) =
      ap₂ (λ rs ps. Done (outs rs vs) (buffers_out w 0 ps))
      (ap func_results (at_place entry) ∙ (results_from (slice_get program.funcs entry) ∙ sym (ap (λ fs. func_results (slice_get fs entry)) ip.funcs))) (params_at entry)

  pub roots_like : LikeTask bounds (root_task p entry args) (root_task q entry args)
  roots_like = record {
    pending = done;
    rest = is_checked.bodies entry;
    frames = end;
    scope = record { func = refl; nest = refl; sees = λ x l. ap (λ ps. named (bind (names_of ps) (arguments 0 args) []) x) (params_at entry) };
  }

  pub checks_agree : ValuesFit p entry args → Agreement (LikeTask bounds) (Kept bounds) p q entry args
  checks_agree fit = record {
    starts = roots_like;
    kept = tt;
    meets = λ t u like a b. task_meets bounds p q is_checked t u like (fit t a);
    ends = ends_same;
  }

pub checks_change_no_run : ChecksChangeNoRun
checks_change_no_run program p q entry args reads small ip iq fit =
    same_runs (LikeTask (bounds program p q entry args reads small ip iq)) (Kept (bounds program p q entry args reads small ip iq)) p q entry args (checks_agree program p q entry args reads small ip iq fit) program (shape.checked program) ip iq
