-- The functions of an outlined module are typed, and so its code is well formed.
use Rattle.std.proofs.Common.{◌≡◌, ◌⊎◌, inl, inr, ℕ, zero, suc, ◌+◌, Bool, true, false, List, [], ◌∷◌, ◌++◌, length, map, Some, slice_get, refl, sym, ap, ◌∙◌, subst, arith, true≢false}
use Rattle.op_table.specs.declared.form.Form.TheVariants as form_is
use Rattle.op_table.specs.declared.rows.Level.{Level}
use Rattle.ir_forms.specs.declared.ops.Func.{Func}
use Rattle.ir_forms.specs.declared.ops.Module.{Module}
use Rattle.ir_forms.specs.declared.ops.Op.{Op}
use Rattle.ir_forms.specs.declared.ops.ValueNo.{ValueNo}
use Rattle.ir_forms.specs.declared.types.Ty.{Ty}
use Rattle.ir_forms.specs.Numbers.{joined}
use Rattle.ir_forms.specs.Ops.{ops_of}
use Rattle.ir_verify.specs.declared.fault.VerifyKind.TheVariants.{Terminator}
use Rattle.ir_verify.specs.Breaks.{lacks_end, last_form}
use Rattle.ir_verify.specs.Forms.{ends}
use Rattle.ir_verify.specs.Places.{Around, Seen, in_body, params_of, places_along}
use Rattle.ir_verify.specs.Verdict.{at_function}
use Rattle.ir_verify.proofs.PlaceLemmas.{places_in-out}
use Rattle.mlir_print.specs.Printable.{ArePrintable, IsPrintableFunc}
use Rattle.outline_laws.specs.Laws.{functions_of, tasks_of}
use Rattle.scf_blocks.specs.Lowered.{is_task}
use Rattle.scf_blocks.specs.Tree.{tree, types_in}
use Rattle.sound_laws.specs.Extended.{AreFine}
use Rattle.sound_laws.proofs.Whole.{sound_fine}
use Rattle.closed_laws.specs.Laws.{IsSmall}
use Rattle.closed_laws.proofs.Whole.{typed_code_well_formed}
use Rattle.typed_rows.specs.Typed.{AreTypes, Env, IsTyped, TypedOps, with_typed}
use Rattle.exec_outline.specs.Shape.{Typed, in_order, outlined, outlined_func, outlined_region, values_in, values_inside, values_of}
use Rattle.plain_rows.proofs.Same.{are_types}
use Rattle.outlined_types.specs.Ordered.{AreHeld, CountOn}
use Rattle.outlined_types.proofs.CalledFunctions.{ends_alike, no_task}
use Rattle.outlined_types.proofs.InOrder.{count_params, region_defines, values_are_held}
use Rattle.outlined_types.proofs.Operations.{types_map}
use Rattle.outlined_types.proofs.Words.{not_false}
use Rattle.outlined_code.specs.Laws.{AcceptedCodeWellFormed, HaveFewBlocks, IsSoundText, OutlinedTyped}
use Rattle.outlined_code.proofs.Launched.{nothing}
use Rattle.outlined_code.proofs.Placed.{OfOps, ops_region, placed, tasks_region}
use Rattle.outlined_code.proofs.Regions.{Closes}
use Rattle.outlined_code.proofs.Values.{AreTasks, Known, TasksIn, all_there, among_them, held_front, held_rest, known_on, task_at, tasks_both, tasks_front, tasks_rest}

-- a list joined of two has what one of them has
get_either : {A : Type 0} → (xs ys : List A) (k : ℕ) (x : A) → slice_get (xs ++ ys) k ≡ Some x → (slice_get xs k ≡ Some x) ⊎ ((i : ℕ) × (slice_get ys i ≡ Some x))
get_either [] ys k x at = inr (k, at)
get_either (y ∷ xs) ys zero x at = inl at
get_either (y ∷ xs) ys (suc k) x at = get_either xs ys k x at

is_false : (b : Bool) → (b ≡ true → ⊥) → b ≡ false
is_false true none = absurd (none refl)
is_false false none = refl

module _ (level : Level) (program : Module) (sound_text : IsSoundText level program) where
  abbrev funcs : List Func
  funcs = program.funcs

  abbrev all : Module
  all = outlined program

  -- a typed function that is no task
  record IsPlain (f : Func) : Type 0 where
    typed : IsTyped all f
    plain : is_task (ops_of f.body) ≡ false

  record Comes (x : Func × List Func) : Type 0 where
    func : IsPlain x.0
    tasks : AreTasks all x.1

  one_func : (j : ℕ) (f : Func) → slice_get funcs j ≡ Some f → IsPrintableFunc level f → (k : ℕ) → TasksIn (tasks_of program) k (outlined_func funcs f k).1 → Comes (outlined_func funcs f k)
  one_func j f at is k tasks =
      let values : Typed = values_of f in
      let os : List Op = ops_of f.body in
      let a : Around = in_body f false in
      let n : ℕ = 0 + length (map (λ (p : ValueNo × Ty). p.0) f.params) in
      let env : Env = with_typed f.params [] in
      let count : CountOn 0 n f.params = count_params 0 f.params is.5 in
      let held : AreHeld values (f.params ++ values_inside f.body) = values_are_held level f is in
      let own : AreHeld values (params_of f.body ++ joined (map values_in os)) = subst (λ (ps : Typed). AreHeld values ps) (region_defines f.body) (held_rest values f.params (values_inside f.body) held) in
      let types : AreTypes (types_in f.params) = subst AreTypes (sym (types_map f.params)) (are_types (map (λ (p : ValueNo × Ty). p.1) f.params) is.1) in
      let known : Known values f.params n = known_on values [] f.params 0 n (λ m t none. cc) count (held_front values f.params (values_inside f.body) held) types in
      let here : AreFine (places_along funcs os a (f.params ++ params_of f.body)) = subst AreFine (places_in-out funcs f.body a f.params) (sound_fine funcs sound_text.sound j f at) in
      let fine : AreFine (places_along funcs os a f.params) = subst (λ (seen : Seen). AreFine (places_along funcs os a seen)) (ap (λ (ps : Seen). f.params ++ ps) is.3 ∙ nothing f.params) here in
      let lacks : lacks_end form_is.Return os ≡ false = is_false (lacks_end form_is.Return os) (λ h. sound_text.sound _ (at_function j f Terminator at h)) in
      let closes : Closes a os = record { bare = λ e. cc; last = inr (not_false (ends form_is.Return (last_form os)) lacks) } in
      let same : (outlined_region funcs values f.body k).1 ≡ _ = tasks_region level program sound_text.sound sound_text.few_tasks values f.body k in
      let one : OfOps level program sound_text.sound sound_text.few_tasks values os k a f.results env = placed level program sound_text.sound sound_text.few_tasks values is.6.1 k a f.params f.results env (record {
        fine = fine;
        known = known;
        shows = λ m among t there. among_them f.params [] 0 n m t count there;
        own = held_rest values (params_of f.body) (joined (map values_in os)) own;
        tasks = subst (λ (fs : List Func). TasksIn (tasks_of program) k fs) same tasks;
      }) in
      record {
        func = record {
          typed = record {
            ops = subst (λ (qs : List Op). TypedOps all f.results (tree qs) env f.results) (sym (ops_region level program sound_text.sound sound_text.few_tasks values f.body k)) (one.typed closes);
            results = are_types f.results is.2;
          };
          plain = ends_alike funcs values f.body k ∙ no_task os lacks;
        };
        tasks = subst (λ (fs : List Func). AreTasks all fs) (sym same) one.tasks;
      }

  abbrev ArePlain : List Func → Type 0
  ArePlain [] = Unit {0}
  ArePlain (f ∷ fs) = IsPlain f × ArePlain fs

  record AllCome (x : List Func × List Func) : Type 0 where
    first : ArePlain x.0
    tasks : AreTasks all x.1

  all_funcs : (fs : List Func) (j k : ℕ) → ((i : ℕ) → slice_get fs i ≡ slice_get funcs (j + i)) → ArePrintable level fs → TasksIn (tasks_of program) k (in_order (map (outlined_func funcs) fs) k).1
      → AllCome (in_order (map (outlined_func funcs) fs) k)
  all_funcs [] j k at printable tasks = record { first = tt; tasks = tt }
  all_funcs (f ∷ fs) j k at printable tasks =
      let q : Func × List Func = outlined_func funcs f k in
      let later : List Func × List Func = in_order (map (outlined_func funcs) fs) (k + length q.1) in
      let here : j ≡ j + 0 = omega arith in
      let one : Comes q = one_func j f (ap (λ n. slice_get funcs n) here ∙ sym (at 0)) printable.0 k (tasks_front (tasks_of program) q.1 later.1 k tasks) in
      let others : AllCome later = all_funcs fs (j + 1) (k + length q.1) (λ i. at (suc i) ∙ ap (λ n. slice_get funcs n) (let e : j + suc i ≡ (j + 1) + i = omega arith in e)) printable.1 (tasks_rest (tasks_of program) q.1 later.1 k tasks) in
      record { first = (one.func, others.first); tasks = tasks_both all q.1 later.1 one.tasks others.tasks }

  plain_at : (fs : List Func) (k : ℕ) (f : Func) → ArePlain fs → slice_get fs k ≡ Some f → IsPlain f
  plain_at [] k f are at = cc
  plain_at (x ∷ fs) zero f are at = (let same : x ≡ f = cc in subst (λ g. IsPlain g) same are.0)
  plain_at (x ∷ fs) (suc k) f are at = plain_at fs k f are.1 at

  whole : AllCome (functions_of program, tasks_of program)
  whole = all_funcs funcs 0 0 (λ i. ap (λ n. slice_get funcs n) (let e : i ≡ 0 + i = omega arith in e)) sound_text.printable (all_there (tasks_of program))

  typed_at : (k : ℕ) (f : Func) → slice_get all.funcs k ≡ Some f → IsTyped all f
  typed_at k f at = elim (get_either (functions_of program) (tasks_of program) k f at) [
    | inl h ↦ (plain_at (functions_of program) k f whole.first h).typed
    | inr h ↦ (task_at all (tasks_of program) h.0 f whole.tasks h.1).typed
  ]

  small_at : HaveFewBlocks all → (k : ℕ) (f : Func) → slice_get all.funcs k ≡ Some f → IsSmall all.funcs f
  small_at few k f at = elim (get_either (functions_of program) (tasks_of program) k f at) [
    | inl h ↦ record { few = few k f at; held = λ is. absurd (true≢false (sym is ∙ (plain_at (functions_of program) k f whole.first h).plain)) }
    | inr h ↦ record { few = few k f at; held = λ is. (task_at all (tasks_of program) h.0 f whole.tasks h.1).held }
  ]

pub outlined_typed : OutlinedTyped
outlined_typed level program sound_text k f at = typed_at level program sound_text k f at

pub accepted_code_well_formed : AcceptedCodeWellFormed
accepted_code_well_formed level program sound_text few = typed_code_well_formed (outlined program) (λ k f at. typed_at level program sound_text k f at) (λ k f at. small_at level program sound_text few k f at)
