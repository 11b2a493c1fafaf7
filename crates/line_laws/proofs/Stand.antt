-- Each function of a sound module stands in its code at its own number.
use Rattle.std.proofs.Common.{◌≡◌, ℕ, Bool, true, false, cond, List, [], ◌∷◌, ◌++◌, map, Option, Some, refl, sym, ap, subst, ◌∙◌}
use Rattle.std.specs.Prelude.{◌+◌, slice_get}
use Rattle.std.specs.Option.{option_map}
use Rattle.std.proofs.lemmas.Option.{slice_get-map}
use Rattle.op_table.specs.declared.form.Form.TheVariants.{Return}
use Rattle.ir_forms.specs.declared.ops.Func.{Func}
use Rattle.ir_forms.specs.declared.ops.Module.{Module}
use Rattle.ir_forms.specs.declared.ops.ValueNo.{ValueNo}
use Rattle.ir_forms.specs.declared.types.Ty.{Ty}
use Rattle.ir_forms.specs.Numbers.{joined}
use Rattle.ir_forms.specs.Ops.{ops_of}
use Rattle.ir_verify.specs.declared.place.Nest.TheVariants.{InFunction}
use Rattle.ir_verify.specs.Breaks.{lacks_end}
use Rattle.ir_verify.specs.declared.fault.VerifyKind.TheVariants.{Terminator}
use Rattle.ir_verify.specs.Verdict.{IsSound, at_function}
use Rattle.source_meaning.specs.Renaming.{renamed_params}
use Rattle.value_numbers.specs.Numbers.{numbered_values, defined_in, place_in}
use Rattle.check_insert.specs.Laws.{CheckedIsSound}
use Rattle.check_insert.specs.Shape.{checked_func}
use Rattle.made_funcs.specs.Values.{first_free}
use Rattle.loop_blocks.specs.declared.options.Options.{Options}
use Rattle.parallel_for.specs.Shape.{split, split_func, split_funcs}
use Rattle.exec_outline.specs.Shape.{in_order, outlined, outlined_func, values_of}
use Rattle.low_forms.specs.declared.code.Reg.{Reg}
use Rattle.low_forms.specs.declared.code.LowFunc.{LowFunc}
use Rattle.low_forms.specs.declared.code.LowModule.{LowModule}
use Rattle.low_forms.specs.Assigned.{block_assigns}
use Rattle.low_forms.specs.Registers.{reg_type}
use Rattle.scf_blocks.specs.Tree.{Var, types_in}
use Rattle.scf_blocks.specs.Code.{regs_from}
use Rattle.scf_blocks.specs.Lowered.{is_task, lowered_func}
use Rattle.coro_lower.specs.Registers.{object_types, reg_types}
use Rattle.coro_lower.specs.Shape.{lowered, runtime_func}
use Rattle.ref_counting.specs.Shape.{counted_func}
use Rattle.pass_line.specs.Line.{code_of, prepared}
use Rattle.line_laws.specs.Laws.{IsCodeOf, FunctionsStand}
use Rattle.line_laws.proofs.Places.{get_front, type_at, params_stand, types_stand}
use Rattle.line_laws.proofs.Ends.{ends_alike, stands_at}
use Rattle.line_laws.proofs.Splits.{renamed_alike, split_at, split_plain}

-- ---- one function

module _ (funcs : List Func) (e : Func) where
  -- what its instructions define
  abbrev inner_definitions : List ℕ
  inner_definitions = joined (map block_assigns (lowered (lowered_func funcs e)).blocks)

  param_types : (j : ℕ) (p : Var) → slice_get e.params j ≡ Some p → slice_get (reg_types (lowered_func funcs e)) j ≡ Some p.1
  param_types j p at = get_front _ _ j p.1 (get_front _ _ j p.1 (get_front (types_in e.params) _ j p.1 (type_at e.params j p at)))

  -- one that is no task, in its code
  code_as : is_task (ops_of e.body) ≡ false → IsCodeOf e (runtime_func (lowered_func funcs e))
  unfolding runtime_func
  code_as plain = record {
    name = refl;
    plain = plain;
    params = params_stand e.params inner_definitions;
    types = ap (λ (rs : List Reg). map (reg_type (runtime_func (lowered_func funcs e))) rs) (params_stand e.params inner_definitions)
        ∙ types_stand e.params (reg_types (lowered_func funcs e)) inner_definitions param_types;
    results = ap (λ b. cond b (object_types e.results) e.results) plain;
  }

-- ---- under other numbers of values

regs_renamed : (σ : ℕ → ℕ) (n : ℕ) (ps : List (ValueNo × Ty)) → regs_from n (renamed_params σ ps) ≡ regs_from n ps
regs_renamed σ n [] = refl
regs_renamed σ n (p ∷ ps) = ap (λ (rs : List Reg). record { 0 = n } ∷ rs) (regs_renamed σ (n + 1) ps)

types_renamed : (σ : ℕ → ℕ) (ps : List (ValueNo × Ty)) → map (λ (p : ValueNo × Ty). Some p.1) (renamed_params σ ps) ≡ map (λ (p : ValueNo × Ty). Some p.1) ps
types_renamed σ [] = refl
types_renamed σ (p ∷ ps) = ap (λ (ts : List (Option Ty)). Some p.1 ∷ ts) (types_renamed σ ps)

code_alike : (f e : Func) (g : LowFunc) (σ : ℕ → ℕ) → e.name ≡ f.name → e.params ≡ renamed_params σ f.params → e.results ≡ f.results → IsCodeOf e g → IsCodeOf f g
code_alike f e g σ name params results code = record {
  name = code.name ∙ name;
  plain = code.plain;
  params = code.params ∙ ap (λ (ps : List (ValueNo × Ty)). regs_from 0 ps) params ∙ regs_renamed σ 0 f.params;
  types = code.types ∙ ap (λ (ps : List (ValueNo × Ty)). map (λ (p : ValueNo × Ty). Some p.1) ps) params ∙ types_renamed σ f.params;
  results = code.results ∙ results;
}

-- ---- a module

is_false : (b : Bool) → (b ≡ true → ⊥) → b ≡ false
is_false true never = absurd (never refl)
is_false false never = refl

returns_last : (funcs : List Func) → IsSound funcs → (k : ℕ) (f : Func) → slice_get funcs k ≡ Some f → lacks_end Return (ops_of f.body) ≡ false
returns_last funcs sound k f at = is_false (lacks_end Return (ops_of f.body)) (λ breaks. sound (record { op = f.at; kind = Terminator }) (at_function k f Terminator at breaks))

-- the counts leave all but the blocks
counted_alike : (f : Func) (g : LowFunc) → IsCodeOf f g → IsCodeOf f (counted_func g)
unfolding counted_func
counted_alike f g code = record { name = code.name; plain = code.plain; params = code.params; types = code.types; results = code.results }

module _ (options : Options) (called : List Bool) (program : Module) (n : ℕ) (f : Func) (at : slice_get program.funcs n ≡ Some f) where
  abbrev whole : List Func
  whole = (prepared program).funcs

  abbrev one : Func
  one = numbered_values (checked_func f)

  one_at : slice_get whole n ≡ Some one
  one_at =
      slice_get-map numbered_values (map checked_func program.funcs) n
      ∙ ap (λ (o : Option Func). option_map numbered_values o) (slice_get-map checked_func program.funcs n ∙ ap (λ (o : Option Func). option_map checked_func o) at)

  abbrev made : List Func × List Func
  made = split_funcs options whole called 0 whole 0

  abbrev halved : Module
  halved = split options called (prepared program)

  -- without parallel loops, before its values are numbered anew
  abbrev bare : Bool → ℕ → Func
  bare mark k = record one { body = (split_func options whole mark one k).0 }

  abbrev two : Bool → ℕ → Func
  two mark k = numbered_values (bare mark k)

  two_at : (mark : Bool) (k : ℕ) → slice_get made.0 n ≡ Some (bare mark k) → slice_get halved.funcs n ≡ Some (two mark k)
  two_at mark k e =
      slice_get-map numbered_values (made.0 ++ made.1) n ∙ ap (λ (o : Option Func). option_map numbered_values o) (get_front made.0 made.1 n (bare mark k) e)

  outlined_at : (e : Func) → slice_get halved.funcs n ≡ Some e → (j : ℕ) × (slice_get (outlined halved).funcs n ≡ Some (outlined_func halved.funcs e j).0)
  outlined_at e stands = stands_at (outlined_func halved.funcs) halved.funcs n 0 e (in_order (map (outlined_func halved.funcs) halved.funcs) 0).1 stands

  abbrev blocks : List LowFunc
  blocks = map (lowered_func (outlined halved).funcs) (outlined halved).funcs

  code_at : (e : Func) → slice_get (outlined halved).funcs n ≡ Some e → slice_get (code_of halved).funcs n ≡ Some (counted_func (runtime_func (lowered_func (outlined halved).funcs e)))
  code_at e stands =
      slice_get-map counted_func (map runtime_func blocks) n
      ∙ ap (λ (o : Option LowFunc). option_map counted_func o) (slice_get-map runtime_func blocks n)
      ∙ ap (λ (o : Option LowFunc). option_map counted_func (option_map runtime_func o))
      (slice_get-map (lowered_func (outlined halved).funcs) (outlined halved).funcs n ∙ ap (λ (o : Option Func). option_map (lowered_func (outlined halved).funcs) o) stands)

  -- its code, from the place where its tasks begin
  abbrev code : Func → LowFunc
  code e = runtime_func (lowered_func (outlined halved).funcs e)

  ends : IsSound whole → (mark : Bool) (k j : ℕ) → is_task (ops_of (outlined_func halved.funcs (two mark k) j).0.body) ≡ false
  ends sound mark k j =
      ends_alike halved.funcs (values_of (two mark k)) (two mark k).body j
      ∙ renamed_alike (place_in (defined_in (bare mark k))) (bare mark k).body
      ∙ split_plain options whole mark (values_of one) one.body InFunction (record { loops = k; free = first_free (values_of one) }) (returns_last whole sound n one one_at)

  is_code : IsSound whole → (mark : Bool) (k j : ℕ) → IsCodeOf f (code (outlined_func halved.funcs (two mark k) j).0)
  is_code sound mark k j =
      code_alike f (bare mark k) (code (outlined_func halved.funcs (two mark k) j).0) (place_in (defined_in (checked_func f))) refl refl refl
      (code_alike (bare mark k) (outlined_func halved.funcs (two mark k) j).0 (code (outlined_func halved.funcs (two mark k) j).0) (place_in (defined_in (bare mark k))) refl refl refl
      (code_as (outlined halved).funcs (outlined_func halved.funcs (two mark k) j).0 (ends sound mark k j)))

  stands_from : IsSound whole → (mark : Bool) (k : ℕ) → slice_get made.0 n ≡ Some (bare mark k) → (g : LowFunc) × ((slice_get (code_of halved).funcs n ≡ Some g) × IsCodeOf f g)
  stands_from sound mark k e =
      let out = outlined_at (two mark k) (two_at mark k e) in
      let last : Func = (outlined_func halved.funcs (two mark k) out.0).0 in
      (counted_func (code last), (code_at last out.1, counted_alike f (code last) (is_code sound mark k out.0)))

  stands : IsSound whole → (g : LowFunc) × ((slice_get (code_of halved).funcs n ≡ Some g) × IsCodeOf f g)
  stands sound = let e = split_at options whole called 0 whole 0 n one one_at in stands_from sound e.0 e.1 e.2

-- the code is of what the marks give
abbrev StandsIn : ℕ → Func → LowModule → Type 0
StandsIn n f code = (g : LowFunc) × ((slice_get code.funcs n ≡ Some g) × IsCodeOf f g)

pub functions_stand : CheckedIsSound → FunctionsStand
functions_stand keeps options program code n f sound lowered at =
    subst (StandsIn n f) (sym (lowered.is ∙ ap code_of lowered.split.is)) (stands options lowered.split.called program n f at (keeps program sound))
