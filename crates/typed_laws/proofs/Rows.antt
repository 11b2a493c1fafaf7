-- Each operation leaves a task whose values have their types.
use Rattle.std.specs.Prelude.{nat_eq, nat_le, max, if◌then◌else◌}
use Rattle.std.specs.Option.{option_map, is_some}
use Rattle.std.specs.Str.{bytes_eq}
use Rattle.std.proofs.Common.{◌≡◌, ◌==◌, ◌<◌, ◌≤◌, ℕ, zero, suc, ◌+◌, ◌-◌, ◌*◌, ◌||◌, not, Bool, true, false, cond, List, [], ◌∷◌, ◌++◌, map, length, drop, Option, Some, None, slice_get, refl, sym, ap, ◌∙◌, subst, arith, inl}
use Rattle.std.proofs.lemmas.Option.{slice_get-map}
use Rattle.std.proofs.lemmas.List.{length-map}
use Rattle.int_ops.specs.declared.BinOp.{BinOp}
use Rattle.int_ops.specs.declared.BinOp.TheVariants as bin
use Rattle.op_table.specs.declared.form.Form.TheVariants as form_is
use Rattle.op_table.specs.declared.kind.OpKind.{OpKind}
use Rattle.op_table.specs.declared.kind.OpKind.TheVariants as op
use Rattle.op_table.specs.Rows.{row_of, is_other}
use Rattle.ir_forms.specs.declared.ops.Attr.{Attr}
use Rattle.ir_forms.specs.declared.ops.Attr.TheVariants.{Callee}
use Rattle.ir_forms.specs.declared.ops.Func.{Func}
use Rattle.ir_forms.specs.declared.ops.Op.{Op, out-Op}
use Rattle.ir_forms.specs.declared.ops.Region.{Region}
use Rattle.ir_forms.specs.declared.ops.ValueNo.{ValueNo}
use Rattle.ir_forms.specs.declared.names.ElementName.TheVariants.{Token, Value}
use Rattle.ir_forms.specs.declared.names.MadeName.{MadeName}
use Rattle.ir_forms.specs.declared.types.MemTy.{MemTy}
use Rattle.ir_forms.specs.declared.types.Dim.{Dim}
use Rattle.ir_forms.specs.declared.types.Dim.TheVariants.{Fixed, Dynamic}
use Rattle.ir_forms.specs.declared.types.Ty.{Ty}
use Rattle.ir_forms.specs.declared.types.Ty.TheVariants as ty
use Rattle.ir_forms.specs.declared.types.ValTy.{ValTy}
use Rattle.ir_forms.specs.Ops.{kind_of, operands_of, written_of, results_of, regions_of, ops_of, attr_of}
use Rattle.ir_forms.specs.Shapes.{most_cells}
use Rattle.ir_verify.specs.declared.place.Nest.{Nest}
use Rattle.ir_verify.specs.declared.place.Nest.TheVariants.{InFunction, InTask, InLoop}
use Rattle.op_table.specs.declared.form.Form.TheVariants.{Return}
use Rattle.source_meaning.specs.TaskOrder.{Each}
use Rattle.ir_verify.specs.Calls.{callee_place}
use Rattle.ir_verify.specs.Forms.{form, end_asked, is_ending, ends}
use Rattle.ir_verify.specs.Names.{first_named}
use Rattle.ir_verify.specs.Breaks.{last_form, is_call}
use Rattle.ir_verify.specs.Places.{Around, Seen, Spot, types_of, params_of, defined, within, place_of, in_body, named, called as called_func}
use Rattle.ir_verify.specs.Rules.{is_held, is_in_place, dimensions, end_around, end_asks, end_length, end_type, groups_fit, param_fits, param_length, result_length, first_type, is_asked, param_type, result_type, operand_fits, written_fits, result_fits, counted, operands_given, types_given, written_asked, params_fit}
use Rattle.ir_verify.specs.Types.{is_value, is_awaitable, holds, is_element, same_type, is_number, is_memref}
use Rattle.ir_verify.proofs.PlaceLemmas.{places_in-out}
use Rattle.source_meaning.specs.declared.values.Val.{Val}
use Rattle.source_meaning.specs.declared.values.Val.TheVariants.{Number, Memory, Element, Group}
use Rattle.source_meaning.specs.Values.{Env, or_else, named as named_in, bind, values_at, number_in, element_in, dims_in}
use Rattle.source_meaning.specs.Parts.{grouped, ops_in, params_in, names_of, region_of, dims_of, func_ops, func_params}
use Rattle.source_meaning.specs.Rows.{variables, result_at, at_width, literal_bits, compared_at, sign_cast, cell_from, sizes, product_within, most_elements, are_bounds, turns_of, spans_of}
use Rattle.source_meaning.specs.Tasks.{Program, Span, After, Joins, Tests, Returns, Tries, Failing, Task, Creates, AwaitsOne, Answer, Next, Goes, Asks, bound, resumed}
use Rattle.source_meaning.specs.World.{elements_of}
use Rattle.source_meaning.specs.Flow.{entered, called, turned, gives, fails}
use Rattle.source_meaning.specs.Steps.{awaits_each, awaits_for, awaits_one, child_of, launches, loop_of, enters_loop, value, number, numbers, group, result_width, written_width, or_fails, computes, chosen, asked_sizes, does}
use Rattle.typed_laws.specs.Typed.{Typing, HasType, IsGood, IsGoodFunc, AreGood, HasRank, BufferFits}
use Rattle.typed_laws.proofs.Types.{Holds, type_same, both_true, truth_number, group_is, memref_is, holds_so, payload}
use Rattle.typed_laws.proofs.Facts.{typed_params, Reads, counts, reads, writes_cells, not_other, has_callee, counted_params, in_place, equal}
use Rattle.typed_laws.proofs.Envs.{within_more, EnvTyped, env_none, AreTyped, types_in, bind_typed, types_same, values_typed, asked_same, env_of, env_later}
use Rattle.typed_laws.proofs.Coded.{region_code, region_fresh, region_ends, EndsOk, Code, OpGood, ends_on}
use Rattle.typed_laws.proofs.Framed.{bare, launched, framed_later, Accepts, Behind, Framed, framed_more, joins, tests, returns, tries, TaskTyped, NextTyped, AwaitFits, IsUnless, behind_task, entered_task}
use Rattle.typed_laws.proofs.Given.{not_true, return_at, yield_at, condition_at, task_at, reduce_at}
use Rattle.typed_laws.proofs.Elements.{values_given}
use Rattle.typed_laws.proofs.Launched.{ready_each, pay_of, ready_for, elements_typed, three_groups, thirds, spans_length, variables_length, indexes_typed, first_is}
use Rattle.typed_laws.proofs.Leaving.{leaves_next, form_by, there_is, turned_task, round_task, caught_next}
use Rattle.typed_laws.proofs.Operands.{no_type, first_there, extends_number, truncates_number, casts_number, literal_number, index_number, element_number, operand, operands_count, written_count, types_count, operand_by, written_by, result_by, operands_typed, OneResult, one_result, number_result}

value_inside : (v w : ValTy) → ty.Value v ≡ ty.Value w → v ≡ w
value_inside v w e = cc

most_one : (n : ℕ) → 1 ≤ max 1 n
most_one zero = omega arith
most_one (suc n) = omega arith

some_is : {X : Type 0} (x y : X) → Some x ≡ Some y → x ≡ y
some_is x y e = cc

sizes_length : (dims : List Dim) (given : List ℕ) → length (sizes dims given) ≡ length dims
sizes_length [] given = refl
sizes_length (Fixed n ∷ dims) given = ap suc (sizes_length dims given)
sizes_length (Dynamic ∷ dims) [] = ap suc (sizes_length dims [])
sizes_length (Dynamic ∷ dims) (n ∷ given) = ap suc (sizes_length dims given)

no_results : (rs : List ValueNo) → length rs ≡ 0 → rs ≡ []
no_results [] e = refl
no_results (r ∷ rs) e = absurd (omega (arith, e))

-- the function that is named, at its place
record Called (funcs : List Func) (attr : Attr) (f : Func) : Type 0 where
  at : ℕ
  place : callee_place funcs attr ≡ Some at
  there : slice_get funcs at ≡ Some f

found_named : (funcs : List Func) (name : List ℕ) (f : Func) → named funcs name ≡ Some f → (j : ℕ) × (first_named funcs name ≡ Some j) × (slice_get funcs j ≡ Some f)
found_named [] name f e = cc
found_named (g ∷ funcs) name f e = split (bytes_eq g.name name) e (found_named funcs name f) where
  split : (b : Bool) → cond b (Some g) (named funcs name) ≡ Some f → (named funcs name ≡ Some f → (j : ℕ) × (first_named funcs name ≡ Some j) × (slice_get funcs j ≡ Some f)) →
      (j : ℕ) × (cond b (Some 0) (option_map suc (first_named funcs name)) ≡ Some j) × (slice_get (g ∷ funcs) j ≡ Some f)
  split true is more = (0, refl, is)
  split false is more = let m = more is in (suc m.0, ap (option_map suc) m.1, m.2)

is_called : (funcs : List Func) (attr : Attr) → is_some (called_func funcs attr) ≡ true → (f : Func) × (called_func funcs attr ≡ Some f)
is_called funcs attr e = some_of (called_func funcs attr) e where
  some_of : (o : Option Func) → is_some o ≡ true → (f : Func) × (o ≡ Some f)
  some_of None h = cc
  some_of (Some f) h = (f, refl)

called_there : (funcs : List Func) (attr : Attr) (f : Func) → called_func funcs attr ≡ Some f → Called funcs attr f
called_there funcs (Callee name) f e = let m = found_named funcs name f e in record { at = m.0; place = m.1; there = m.2 }
called_there funcs attr f e = cc

-- a function's body, with values of its parameters
pub body_task : (funcs : List Func) → AreGood funcs → (typing : Typing) (claim : List Ty) (j : ℕ) (f : Func) → slice_get funcs j ≡ Some f → (fs : List (After × List Op)) → ((seen : Seen) → Framed funcs typing claim (in_body f false) seen fs) → (vs : List Val) →
    AreTyped typing (types_in f.params) vs → TaskTyped funcs typing claim (record { pending = []; rest = func_ops (slice_get funcs j); frames = fs; scope = record { func = j; nest = InFunction; env = bind (names_of (func_params (slice_get funcs j))) vs [] } })
body_task funcs all typing claim j f at fs frames vs v =
    subst (λ x. TaskTyped funcs typing claim (record { pending = []; rest = func_ops x; frames = fs; scope = record { func = j; nest = InFunction; env = bind (names_of (func_params x)) vs [] } })) (sym at) (record {
      around = in_body f false;
      now = f.params;
      seen = f.params ++ params_of f.body;
      env = bind_typed typing f.params vs [] [] (env_none typing []) good.params v;
      ready = λ x t e. sym (good.again x) ∙ e;
      code = subst (Each IsGood) (places_in-out funcs f.body (in_body f false) f.params) good.places;
      ends = inl (ended (ends Return (last_form (ops_of f.body))) good.ends);
      frames = frames (f.params ++ params_of f.body);
    })
  where
    good : IsGoodFunc funcs f
    good = all j f at

    ended : (b : Bool) → not b ≡ false → b ≡ true
    ended true e = refl
    ended false e = cc

-- the operands behind the first three
drop_typed : (typing : Typing) (env : Env) (xs : List ValueNo) (ts : List Ty) → length xs ≡ length ts + 3 → ((i : ℕ) (x : ValueNo) (t : Ty) → slice_get xs (suc (suc (suc i))) ≡ Some x → slice_get ts i ≡ Some t → HasType typing t (named_in env x.0)) → AreTyped typing ts (drop 3 (values_at env xs))
drop_typed typing env [] ts e h = absurd (omega (arith, e))
drop_typed typing env (x ∷ []) ts e h = absurd (omega (arith, e))
drop_typed typing env (x ∷ y ∷ []) ts e h = absurd (omega (arith, e))
drop_typed typing env (x ∷ y ∷ z ∷ xs) ts e h = values_typed typing ts xs env (omega (arith, e)) h

no_params : (ps : Seen) → (length ps == 0) ≡ true → ps ≡ []
no_params [] e = refl
no_params (x ∷ ps) e = let none : length (x ∷ ps) ≡ 0 = equal (length (x ∷ ps)) 0 e in absurd (omega (arith, none))

module _ (p : Program) (all : AreGood p.funcs) (typing : Typing) (claim : List Ty) (a : Around) (seen : Seen) (o : Op) (last : Bool) (rest : List Op) (fs : List (After × List Op)) (k : ℕ) (n : Nest) (env : Env)
    (good : OpGood p.funcs a seen o last) (code : Code p.funcs a (seen ++ defined (results_of o) (types_of o)) rest) (ok : EndsOk a (o ∷ rest)) (frames : Framed p.funcs typing claim a seen fs) (h : EnvTyped typing seen env) where
  abbrev funcs : List Func
  funcs = p.funcs

  abbrev t : Task
  t = record { pending = []; rest = rest; frames = fs; scope = record { func = k; nest = n; env = env } }

  abbrev s : Spot
  s = record { seen = seen; place = place_of p.funcs a last o }

  abbrev vs : List Val
  vs = values_at env (operands_of o)

  abbrev Good : Next → Type 0
  Good x = NextTyped p.funcs typing claim x

  -- ---- what all operations do

  behind : (kind : OpKind) → kind_of o ≡ kind → is_ending (row_of kind).form ≡ false → Behind p.funcs a seen o rest
  behind kind e plain = record { last = last; good = good; code = code; ends = ends_on a o rest (ap is_ending (form_by o kind e) ∙ plain) ok }

  fails_next : Good (fails (out-Op o).at t)
  fails_next = caught_next p.funcs typing claim (out-Op o).at a seen fs rest fs (record { func = k; nest = n; env = env }) frames

  maybe_next : {X : Type 0} (g : X → Next) (x : Option X) → ((y : X) → x ≡ Some y → Good (g y)) → Good (or_fails (out-Op o) t g x)
  maybe_next g None m = fails_next
  maybe_next g (Some y) m = m y refl

  with_results : Behind p.funcs a seen o rest → (ws : List Val) → AreTyped typing (types_of o) ws → TaskTyped p.funcs typing claim (bound (results_of o) ws t)
  with_results b ws v = behind_task p.funcs typing claim a seen o rest fs k n env ws b frames h v

  none_left : (kind : OpKind) → kind_of o ≡ kind → counted (row_of kind).results (types_given (row_of kind).form s.place) ≡ 0 → types_of o ≡ []
  none_left kind e c = no_type (types_of o) (types_count p.funcs typing a seen o last good env h kind e ∙ c)

  goes_on : Behind p.funcs a seen o rest → types_of o ≡ [] → TaskTyped p.funcs typing claim t
  goes_on b none = with_results b [] (subst (λ ts. AreTyped typing ts []) (sym none) tt)

  -- where the answer was an error
  failing : Behind p.funcs a seen o rest → (at : ℕ) → TaskTyped p.funcs typing claim (record { pending = Failing at ∷ []; rest = rest; frames = fs; scope = record { func = k; nest = n; env = env } })
  failing b at = record {
    around = a;
    now = [];
    seen = seen ++ defined (results_of o) (types_of o);
    env = env_none typing env;
    ready = tt;
    code = code;
    ends = b.ends;
    frames = framed_more p.funcs typing claim a seen (seen ++ defined (results_of o) (types_of o)) fs (within_more seen (defined (results_of o) (types_of o))) frames;
  }

  -- ---- rows with a number

  computes_next : (kind : OpKind) (e : kind_of o ≡ kind) (plain : is_ending (row_of kind).form ≡ false) (r : OneResult p.funcs typing a seen o last good env h kind) → is_number r.type ≡ true → (x : Option ℕ) → Good (computes (out-Op o) t x)
  computes_next kind e plain r num x = maybe_next _ x (λ m is. with_results (behind kind e plain) (Number m ∷ []) (number_result p.funcs typing a seen o last good env h kind r m num))

  -- the first written type
  written_first : (kind : OpKind) → kind_of o ≡ kind → (m : ℕ) → written_asked (row_of kind).form s.place ≡ suc m → (w : Ty) × (slice_get (written_of o) 0 ≡ Some w) × (first_type (written_of o) ≡ w)
  written_first kind e m c = first_there (written_of o) m (written_count p.funcs typing a seen o last good env h kind e ∙ c)

  binary_number : (kind : OpKind) → kind_of o ≡ kind → (row_of kind).form ≡ form_is.Binary → (r : Ty) → result_fits (row_of kind).form s.place 0 r ≡ true → is_number r ≡ true
  binary_number kind e f r fit =
      let w = written_first kind e 1 (ap (λ g. written_asked g s.place) f) in
      let num = both_true (is_number w.0) (same_type (first_type (written_of o)) w.0) (subst (λ g. written_fits g s.place 0 w.0 ≡ true) f (written_by p.funcs typing a seen o last good env h kind e 0 w.0 w.1)) in
      let same : w.0 ≡ r = type_same w.0 r (subst (λ u. same_type u r ≡ true) w.2 (subst (λ g. result_fits g s.place 0 r ≡ true) f fit)) in
      subst (λ u. is_number u ≡ true) same num.0

  binary_next : (kind : OpKind) (b : BinOp) → kind_of o ≡ kind → (row_of kind).form ≡ form_is.Binary → counted (row_of kind).results (types_given (row_of kind).form s.place) ≡ 1 → Good (computes (out-Op o) t (result_at (result_width (out-Op o)) b (number vs 0) (number vs 1)))
  binary_next kind b e f c =
      let r = one_result p.funcs typing a seen o last good env h kind e c in
      computes_next kind e (ap is_ending f) r (binary_number kind e f r.type r.fits) (result_at (result_width (out-Op o)) b (number vs 0) (number vs 1))

  -- a cast
  pub cast_next : (kind : OpKind) → kind_of o ≡ kind → is_ending (row_of kind).form ≡ false → counted (row_of kind).results (types_given (row_of kind).form s.place) ≡ 1 → written_asked (row_of kind).form s.place ≡ 1 →
      ((w : Ty) → written_fits (row_of kind).form s.place 0 w ≡ true → is_number (first_type (types_of o)) ≡ true) → (x : ℕ) → Good (computes (out-Op o) t (Some x))
  cast_next kind e plain c d num x =
      let r = one_result p.funcs typing a seen o last good env h kind e c in
      let w = written_first kind e 0 d in
      let first : first_type (types_of o) ≡ r.type = ap first_type r.types in
      computes_next kind e plain r (subst (λ u. is_number u ≡ true) first (num w.0 (written_by p.funcs typing a seen o last good env h kind e 0 w.0 w.1))) (Some x)

  -- ---- accesses

  -- an operand of the first written type
  pub record First (kind : OpKind) (i : ℕ) : Type 0 where
    type : Ty
    there : slice_get (written_of o) 0 ≡ Some type
    typed : HasType typing type (value vs i)
    fits : written_fits (row_of kind).form s.place 0 type ≡ true

  pub first_operand : (kind : OpKind) → kind_of o ≡ kind → (m c i : ℕ) → length (operands_of o) ≡ c → i < c → written_asked (row_of kind).form s.place ≡ suc m → ((u : Ty) → operand_fits (row_of kind).form s.place i u ≡ true → same_type (first_type (written_of o)) u ≡ true) → First kind i
  first_operand kind e m c i count less d f =
      let w = written_first kind e m d in
      let x = operand p.funcs typing a seen o last good env h c i count less in
      let same : w.0 ≡ x.type = type_same w.0 x.type (subst (λ u. same_type u x.type ≡ true) w.2 (f x.type (operand_by p.funcs typing a seen o last good env h kind e i x.type x.fits))) in
      record { type = w.0; there = w.1; typed = subst (λ u. HasType typing u (value vs i)) (sym same) x.typed; fits = written_by p.funcs typing a seen o last good env h kind e 0 w.0 w.1 }

  -- ---- calls

  pub the_callee : (kind : OpKind) → kind_of o ≡ kind → is_call (row_of kind).form ≡ true → (f : Func) × (called_func p.funcs (attr_of o) ≡ Some f)
  the_callee kind e call = is_called p.funcs (attr_of o) (has_callee s good.spot.fine (ap is_call (form_by o kind e) ∙ call))

  called_values : (kind : OpKind) → kind_of o ≡ kind → (f : Func) → called_func p.funcs (attr_of o) ≡ Some f → counted (row_of kind).operands (operands_given (row_of kind).form o) ≡ length (written_of o) → written_asked (row_of kind).form s.place ≡ param_length (called_func p.funcs (attr_of o)) (length (written_of o)) →
      ((i : ℕ) (u : Ty) → operand_fits (row_of kind).form s.place i u ≡ true → is_asked (slice_get (written_of o) i) u ≡ true) → ((i : ℕ) (u : Ty) → written_fits (row_of kind).form s.place i u ≡ true → is_asked (param_type (called_func p.funcs (attr_of o)) i) u ≡ true) →
      AreTyped typing (types_in f.params) vs
  called_values kind e f is c d g m =
      let count : length (written_of o) ≡ length f.params = written_count p.funcs typing a seen o last good env h kind e ∙ d ∙ ap (λ x. param_length x (length (written_of o))) is in
      let same : written_of o ≡ types_in f.params =
      types_same (written_of o) (types_in f.params) (count ∙ sym (length-map f.params (λ x. x.1))) (λ i u at.
      (let asked : is_asked (param_type (Some f) i) u ≡ true = subst (λ x. is_asked (param_type x i) u ≡ true) is (m i u (written_by p.funcs typing a seen o last good env h kind e i u at)) in
      subst (λ x. is_asked x u ≡ true) (sym (slice_get-map (λ (x : ValueNo × Ty). x.1) f.params i)) asked)) in
      subst (λ ts. AreTyped typing ts vs) same
      (operands_typed p.funcs typing a seen o last good env h (written_of o) (operands_count p.funcs typing a seen o last good env h kind e ∙ c) (λ i u fit. g i u (operand_by p.funcs typing a seen o last good env h kind e i u fit)))

  called_next : (x : After) (f : Func) → called_func p.funcs (attr_of o) ≡ Some f → AreTyped typing (types_in f.params) vs → ((more : Seen) → Framed p.funcs typing claim (in_body f false) more ((x, rest) ∷ fs)) → TaskTyped p.funcs typing claim (called p x (callee_place p.funcs (attr_of o)) vs t)
  called_next x f is v fr =
      let c = called_there p.funcs (attr_of o) f is in
      subst (λ j. TaskTyped p.funcs typing claim (called p x j vs t)) (sym c.place) (body_task p.funcs all typing claim c.at f c.there ((x, rest) ∷ fs) fr vs v)

  call_next : kind_of o ≡ op.FuncCall → TaskTyped p.funcs typing claim (called p (Returns t.scope (results_of o)) (callee_place p.funcs (attr_of o)) vs t)
  call_next e =
      let f = the_callee op.FuncCall e refl in
      let count : length (types_of o) ≡ length f.0.results = types_count p.funcs typing a seen o last good env h op.FuncCall e ∙ ap (λ x. result_length x (length (types_of o))) f.1 in
      let types : types_of o ≡ f.0.results = types_same (types_of o) f.0.results count (λ i u at. subst (λ x. is_asked (result_type x i) u ≡ true) f.1 (result_by p.funcs typing a seen o last good env h op.FuncCall e i u at)) in
      called_next (Returns t.scope (results_of o)) f.0 f.1 (called_values op.FuncCall e f.0 f.1 refl refl (λ i u fit. fit) (λ i u fit. fit))
      (λ more. returns (in_body f.0 false) a more seen o t.scope rest fs refl types h (behind op.FuncCall e refl) frames)

  try_next : kind_of o ≡ op.AioTryCall → TaskTyped p.funcs typing claim (called p (Tries t.scope (results_of o)) (callee_place p.funcs (attr_of o)) vs t)
  try_next e =
      let f = the_callee op.AioTryCall e refl in
      let r = one_result p.funcs typing a seen o last good env h op.AioTryCall e refl in
      called_next (Tries t.scope (results_of o)) f.0 f.1 (called_values op.AioTryCall e f.0 f.1 refl refl (λ i u fit. fit) (λ i u fit. fit))
      (λ more. tries (in_body f.0 false) a more seen o r.type t.scope rest fs r.types (truth_number r.type r.fits) h (behind op.AioTryCall e refl) frames)

  -- ---- structures

  for_next : kind_of o ≡ op.ScfFor → TaskTyped p.funcs typing claim (turned (out-Op o) (number vs 0) (number vs 1) (number vs 2) (drop 3 vs) t)
  for_next e =
      turned_task p.funcs typing claim a seen o (number vs 0) (number vs 1) (number vs 2) rest fs k n env (drop 3 vs) e (behind op.ScfFor e refl) frames h
      (drop_typed typing env (operands_of o) (types_of o) (operands_count p.funcs typing a seen o last good env h op.ScfFor e) (λ i x u at there.
      (let r = reads s good.spot.fine (suc (suc (suc i))) x at in
      subst (λ w. HasType typing w (named_in env x.0)) (sym (asked_same (types_of o) i u r.type there (operand_by p.funcs typing a seen o last good env h op.ScfFor e (suc (suc (suc i))) r.type r.fits))) (env_of typing seen env h x.0 r.type r.visible))))

  branch_next : (r : ℕ) → r < 2 → kind_of o ≡ op.ScfIf → TaskTyped p.funcs typing claim (entered (Joins (results_of o)) (region_of (out-Op o) r) [] t)
  branch_next r less e =
      let b = behind op.ScfIf e refl in
      let region = there_is (regions_of o) 2 r ((counts s good.spot.fine).regions ∙ ap (λ x. (row_of x).regions) e) less in
      let none : params_of region.0 ≡ [] = no_params (params_of region.0) (subst (λ g. params_fit g o r (length (params_of region.0)) ≡ true) (form_by o op.ScfIf e) (counted_params s good.spot.fine r region.0 region.1)) in
      entered_task p.funcs typing claim a seen o r region.0 (Joins (results_of o)) rest fs k n env [] b region.1 (ap (λ g. is_ending (end_asked g r)) (form_by o op.ScfIf e))
      (joins a seen (seen ++ params_of region.0) o r rest fs e b (within_more seen (params_of region.0)) frames) h (subst (λ ps. AreTyped typing (types_in ps) []) (sym none) tt)

  while_next : kind_of o ≡ op.ScfWhile → TaskTyped p.funcs typing claim (entered (Tests (out-Op o)) (region_of (out-Op o) 0) vs t)
  while_next e =
      round_task p.funcs typing claim a seen o 0 (Tests (out-Op o)) rest fs k n env vs e (omega arith) (behind op.ScfWhile e refl) refl (λ more w. tests a seen more o rest fs e (behind op.ScfWhile e refl) w frames) h
      (operands_typed p.funcs typing a seen o last good env h (written_of o) (operands_count p.funcs typing a seen o last good env h op.ScfWhile e) (λ i u fit. operand_by p.funcs typing a seen o last good env h op.ScfWhile e i u fit))

  -- ---- buffers, groups and awaits

  alloc_next : kind_of o ≡ op.MemrefAlloc → (b : MadeName) → TaskTyped p.funcs typing claim (bound (results_of o) (Memory b (asked_sizes (out-Op o) vs) ∷ []) t)
  alloc_next e b =
      let r = one_result p.funcs typing a seen o last good env h op.MemrefAlloc e refl in
      let m = memref_is r.type r.fits in
      let types : types_of o ≡ ty.Memref m.0 ∷ [] = r.types ∙ ap (λ x. x ∷ []) m.1 in
      let dims : dims_of (slice_get (types_of o) 0) ≡ m.0.dims = ap (λ (ts : List Ty). dims_of (slice_get ts 0)) types in
      let count : length (asked_sizes (out-Op o) vs) ≡ length m.0.dims = sizes_length (dims_of (slice_get (types_of o) 0)) (numbers vs) ∙ ap length dims in
      with_results (behind op.MemrefAlloc e refl) (Memory b (asked_sizes (out-Op o) vs) ∷ []) (subst (λ ts. AreTyped typing ts (Memory b (asked_sizes (out-Op o) vs) ∷ [])) (sym types) (count, tt))

  load_next : kind_of o ≡ op.MemrefLoad → (m : ℕ) → TaskTyped p.funcs typing claim (bound (results_of o) (Number m ∷ []) t)
  load_next e m =
      let r = one_result p.funcs typing a seen o last good env h op.MemrefLoad e refl in
      let w = written_first op.MemrefLoad e 0 refl in
      let num = element_number w.0 r.type (subst (λ u. is_element u r.type ≡ true) w.2 r.fits) (writes_cells s good.spot.fine 0 w.0 w.1) in
      with_results (behind op.MemrefLoad e refl) (Number m ∷ []) (number_result p.funcs typing a seen o last good env h op.MemrefLoad r m num)

  creates_next : kind_of o ≡ op.AsyncCreateGroup → (g : MadeName) → TaskTyped p.funcs typing claim (bound (results_of o) (Group g ∷ []) t)
  creates_next e g =
      let r = one_result p.funcs typing a seen o last good env h op.AsyncCreateGroup e refl in
      with_results (behind op.AsyncCreateGroup e refl) (Group g ∷ []) (subst (λ ts. AreTyped typing ts (Group g ∷ [])) (sym (r.types ∙ ap (λ x. x ∷ []) (group_is r.type r.fits))) (tt, tt))

  adds_next : kind_of o ≡ op.AsyncAddToGroup → (m : ℕ) → TaskTyped p.funcs typing claim (bound (results_of o) (Number m ∷ []) t)
  adds_next e m =
      let r = one_result p.funcs typing a seen o last good env h op.AsyncAddToGroup e refl in
      with_results (behind op.AsyncAddToGroup e refl) (Number m ∷ []) (number_result p.funcs typing a seen o last good env h op.AsyncAddToGroup r m (index_number r.type r.fits))

  unless_next : (b : Behind p.funcs a seen o rest) → types_of o ≡ [] → (at : ℕ) (r : Answer) → IsUnless p.funcs r → TaskTyped p.funcs typing claim (resumed at [] t r)
  unless_next b none at None u = failing b at
  unless_next b none at (Some []) u = goes_on b none
  unless_next b none at (Some (v ∷ ws)) u = elim u [ ]

  -- `async.select`'s two values have the type of its result
  select_next : kind_of o ≡ op.ArithSelect → TaskTyped p.funcs typing claim (bound (results_of o) (chosen (number vs 0) (value vs 1) (value vs 2) ∷ []) t)
  select_next e =
      let r = one_result p.funcs typing a seen o last good env h op.ArithSelect e refl in
      let count = operands_count p.funcs typing a seen o last good env h op.ArithSelect e in
      let x = first_operand op.ArithSelect e 1 3 1 count (omega arith) refl (λ u fit. fit) in
      let y = first_operand op.ArithSelect e 1 3 2 count (omega arith) refl (λ u fit. fit) in
      let w = written_first op.ArithSelect e 1 refl in
      let same : w.0 ≡ r.type = type_same w.0 r.type (subst (λ u. same_type u r.type ≡ true) w.2 r.fits) in
      with_results (behind op.ArithSelect e refl) (chosen (number vs 0) (value vs 1) (value vs 2) ∷ [])
      (subst (λ ts. AreTyped typing ts (chosen (number vs 0) (value vs 1) (value vs 2) ∷ [])) (sym (r.types ∙ ap (λ u. u ∷ []) (sym same))) (pick (nat_eq (number vs 0) 0) w.0 (value vs 1) (value vs 2) (one_is (value vs 1) x.type w.0 x.there w.1 x.typed) (one_is (value vs 2) y.type w.0 y.there w.1 y.typed), tt))
    where
      one_is : (v : Val) (u w : Ty) → slice_get (written_of o) 0 ≡ Some u → slice_get (written_of o) 0 ≡ Some w → HasType typing u v → HasType typing w v
      one_is v u w e f g = let same : u ≡ w = some_is u w (sym e ∙ f) in subst (λ x. HasType typing x v) same g

      pick : (b : Bool) (u : Ty) (v w : Val) → HasType typing u v → HasType typing u w → HasType typing u (cond b w v)
      pick true u v w f g = g
      pick false u v w f g = f

  -- ---- ends of regions

  -- the end of the region round it
  ending : (kind : OpKind) → kind_of o ≡ kind → is_ending (row_of kind).form ≡ true → is_in_place s.place ≡ true
  ending kind e is = in_place s good.spot.fine (ap is_ending (form_by o kind e) ∙ is)

  asked_end : (kind : OpKind) → kind_of o ≡ kind → is_ending (row_of kind).form ≡ true → ends (end_around a.holder a.region) (row_of kind).form ≡ true
  asked_end kind e is = ap (ends (end_around a.holder a.region)) (sym (form_by o kind e)) ∙ (both_true last (ends (end_around a.holder a.region) (form o)) (ending kind e is)).1

  end_count : (kind : OpKind) → kind_of o ≡ kind → is_ending (row_of kind).form ≡ true → written_asked (row_of kind).form s.place ≡ end_asks s.place → length (written_of o) ≡ end_length a
  end_count kind e is c = written_count p.funcs typing a seen o last good env h kind e ∙ c ∙ ap (λ b. if b then end_length a else length (written_of o)) (ending kind e is)

  end_fits : (kind : OpKind) → kind_of o ≡ kind → is_ending (row_of kind).form ≡ true → (test : ℕ → Ty → Bool) → ((i : ℕ) (u : Ty) → written_fits (row_of kind).form s.place i u ≡ (not (is_in_place s.place) || test i u)) → (i : ℕ) (u : Ty) → slice_get (written_of o) i ≡ Some u → test i u ≡ true
  end_fits kind e is test says i u at = subst (λ b. (not b || test i u) ≡ true) (ending kind e is) (sym (says i u) ∙ written_by p.funcs typing a seen o last good env h kind e i u at)

  written_values : (kind : OpKind) → kind_of o ≡ kind → counted (row_of kind).operands (operands_given (row_of kind).form o) ≡ length (written_of o) → ((i : ℕ) (u : Ty) → operand_fits (row_of kind).form s.place i u ≡ true → is_asked (slice_get (written_of o) i) u ≡ true) → AreTyped typing (written_of o) vs
  written_values kind e c f = operands_typed p.funcs typing a seen o last good env h (written_of o) (operands_count p.funcs typing a seen o last good env h kind e ∙ c) (λ i u fit. f i u (operand_by p.funcs typing a seen o last good env h kind e i u fit))

  leaves_so : Accepts typing a vs → Good (gives vs t)
  leaves_so v = leaves_next p.funcs typing claim a seen fs rest fs k n env vs frames h v

  return_next : kind_of o ≡ op.FuncReturn → Good (gives vs t)
  return_next e =
      leaves_so (return_at typing a (written_of o) a.holder vs (asked_end op.FuncReturn e refl) (end_count op.FuncReturn e refl refl) (end_fits op.FuncReturn e refl (λ i u. is_asked (end_type a i) u) (λ i u. refl)) (written_values op.FuncReturn e refl (λ i u fit. fit)))

  yield_next : kind_of o ≡ op.ScfYield → Good (gives vs t)
  yield_next e =
      leaves_so (yield_at typing a (written_of o) a.holder vs (asked_end op.ScfYield e refl) (end_count op.ScfYield e refl refl) (end_fits op.ScfYield e refl (λ i u. is_asked (end_type a i) u) (λ i u. refl)) (written_values op.ScfYield e refl (λ i u fit. fit)))

  task_yield_next : kind_of o ≡ op.AsyncYield → Good (gives vs t)
  task_yield_next e =
      leaves_so (task_at typing a (written_of o) a.holder vs (asked_end op.AsyncYield e refl) (end_count op.AsyncYield e refl refl) (end_fits op.AsyncYield e refl (λ i u. is_held (end_type a i) u) (λ i u. refl)) (written_values op.AsyncYield e refl (λ i u fit. fit)))

  reduce_next : kind_of o ≡ op.ScfReduce → Good (gives vs t)
  reduce_next e = leaves_so (reduce_at typing a (written_of o) a.holder vs (asked_end op.ScfReduce e refl))

  condition_next : kind_of o ≡ op.ScfCondition → Good (gives vs t)
  condition_next e =
      split (operands_of o) (operands_count p.funcs typing a seen o last good env h op.ScfCondition e) (λ i x at. reads s good.spot.fine i x at)
    where
      split : (xs : List ValueNo) → length xs ≡ length (written_of o) + 1 → ((i : ℕ) (x : ValueNo) → slice_get xs i ≡ Some x → Reads s good.spot.fine i x) → Good (gives (values_at env xs) t)
      split [] c r = absurd (omega (arith, c))
      split (x ∷ xs) c r =
          leaves_next p.funcs typing claim a seen fs rest fs k n env (values_at env (x ∷ xs)) frames h
          (condition_at typing a (written_of o) a.holder (named_in env x.0) (values_at env xs) (asked_end op.ScfCondition e refl) (end_count op.ScfCondition e refl refl) (end_fits op.ScfCondition e refl (λ i u. is_asked (end_type a i) u) (λ i u. refl))
          (values_typed typing (written_of o) xs env (omega (arith, c)) (λ i y u at there.
          (let z = r (suc i) y at in
          subst (λ w. HasType typing w (named_in env y.0)) (sym (asked_same (written_of o) i u z.type there (operand_by p.funcs typing a seen o last good env h op.ScfCondition e (suc i) z.type z.fits))) (env_of typing seen env h y.0 z.type z.visible)))))

  -- ---- tasks and loops

  task_region : (kind : OpKind) → kind_of o ≡ kind → (row_of kind).regions ≡ 1 → (region : Region) × (slice_get (regions_of o) 0 ≡ Some region)
  task_region kind e c = there_is (regions_of o) 1 0 ((counts s good.spot.fine).regions ∙ ap (λ x. (row_of x).regions) e ∙ c) (omega arith)

  child_next : (e : kind_of o ≡ op.AsyncExecute) → TaskTyped p.funcs typing (types_of o) (child_of (out-Op o) vs t)
  child_next e =
      let region = task_region op.AsyncExecute e refl in
      let given : AreTyped typing (written_of o) (group (out-Op o) vs 1) = values_given p.funcs typing a seen o last good env h e in
      let fits : (length (params_of region.0) == length (written_of o)) ≡ true = subst (λ g. params_fit g o 0 (length (params_of region.0)) ≡ true) (form_by o op.AsyncExecute e) (counted_params s good.spot.fine 0 region.0 region.1) in
      let pay = pay_of p.funcs typing (params_of region.0) (written_of o) (group (out-Op o) vs 1) (equal _ _ fits) (λ i x at. subst (λ g. param_fits g o 0 i x.1 ≡ true) (form_by o op.AsyncExecute e) (typed_params s good.spot.fine 0 region.0 region.1 i x at)) given in
      subst (λ r. TaskTyped p.funcs typing (types_of o) (record { pending = awaits_each (out-Op o).at (group (out-Op o) vs 0) ++ awaits_for (out-Op o).at (params_in r) (group (out-Op o) vs 1); rest = ops_in r; frames = []; scope = record { func = k; nest = InTask; env = env } })) (sym region.1) (record {
        around = within a o 0;
        now = seen;
        seen = seen ++ params_of region.0;
        env = h;
        ready = ready_each p.funcs typing seen (awaits_for (out-Op o).at (names_of (params_of region.0)) (group (out-Op o) vs 1)) (seen ++ params_of region.0) (out-Op o).at (group (out-Op o) vs 0)
            (ready_for p.funcs typing (params_of region.0) (group (out-Op o) vs 1) seen (out-Op o).at (seen ++ params_of region.0) pay (region_fresh p.funcs a seen o last good 0 region.0 region.1) (λ x u is. is));
        code = region_code p.funcs a seen o last good 0 region.0 region.1;
        ends = region_ends p.funcs a seen o last good 0 region.0 region.1 (ap (λ g. is_ending (end_asked g 0)) (form_by o op.AsyncExecute e));
        frames = launched (within a o 0) (seen ++ params_of region.0) o refl e refl;
      })

  launches_next : (e : kind_of o ≡ op.AsyncExecute) → Good (launches (out-Op o) vs t)
  launches_next e = (
    types_of o,
    child_next e,
    λ later q l known.
        behind_task p.funcs later claim a seen o rest fs k n env (elements_of q (length (results_of o) - 1)) (behind op.AsyncExecute e refl) (framed_later p.funcs typing later l claim a seen fs frames) (env_later typing later seen env l h)
        (elements_typed later q (types_of o) known (length (results_of o) - 1)
        (let same = (counts s good.spot.fine).results in
        let most = types_count p.funcs typing a seen o last good env h op.AsyncExecute e in
        let least : 1 ≤ length (types_of o) = subst (λ m. 1 ≤ m) (sym most) (most_one (length (types_of o))) in
        omega (arith, same, least))
        (λ u at. result_by p.funcs typing a seen o last good env h op.AsyncExecute e 0 u at)
        (λ i u at. result_by p.funcs typing a seen o last good env h op.AsyncExecute e (suc i) u at)),
  )

  loop_next : (e : kind_of o ≡ op.ScfParallel) → (spans : List Span) → spans_of (numbers (group (out-Op o) vs 0)) (numbers (group (out-Op o) vs 1)) (numbers (group (out-Op o) vs 2)) ≡ Some spans → (m : ℕ) → Good (enters_loop (out-Op o) t (loop_of p (out-Op o) t spans m))
  loop_next e spans is m =
      let b = behind op.ScfParallel e refl in
      let region = task_region op.ScfParallel e refl in
      let many : ℕ = length (params_of region.0) in
      let firsts : dimensions o ≡ many = ap length (first_is (regions_of o) region.0 region.1) in
      let groups : (out-Op o).groups ≡ many ∷ many ∷ many ∷ [] =
      subst (λ d. (out-Op o).groups ≡ d ∷ d ∷ d ∷ []) firsts (three_groups (out-Op o).groups (dimensions o) (subst (λ g. groups_fit g o ≡ true) (form_by o op.ScfParallel e) (counts s good.spot.fine).groups)) in
      let count : length (operands_of o) ≡ 3 * many = operands_count p.funcs typing a seen o last good env h op.ScfParallel e ∙ ap (λ d. 3 * d) firsts in
      let values : length vs ≡ many + (many + many) = length-map (operands_of o) (λ (x : ValueNo). named_in env x.0) ∙ (count ∙ omega arith) in
      let third = thirds many vs values in
      let sized : (i : ℕ) → length (numbers (group (out-Op o) vs i)) ≡ length (or_else [] (slice_get (grouped (many ∷ many ∷ many ∷ []) vs) i)) =
      λ i. length-map (group (out-Op o) vs i) number_in ∙ ap (λ (gs : List ℕ). length (or_else [] (slice_get (grouped gs vs) i))) groups in
      let turns : length spans ≡ many = spans_length many _ _ _ spans (sized 0 ∙ third.lower) (sized 1 ∙ third.upper) (sized 2 ∙ third.step) is in
      let d = goes_on b (none_left op.ScfParallel e refl) in (
        λ i. subst (λ r. TaskTyped p.funcs typing [] (record { pending = []; rest = ops_in r; frames = []; scope = record { func = k; nest = InLoop; env = bind (params_in r) (map Number (variables spans i)) env } })) (sym region.1) (record {
          around = within a o 0;
          now = seen ++ params_of region.0;
          seen = seen ++ params_of region.0;
          env = bind_typed typing (params_of region.0) (map Number (variables spans i)) seen env h (region_fresh p.funcs a seen o last good 0 region.0 region.1)
              (indexes_typed typing (params_of region.0) (variables spans i) (sym turns ∙ sym (variables_length spans i)) (λ j x at. subst (λ g. param_fits g o 0 j x.1 ≡ true) (form_by o op.ScfParallel e) (typed_params s good.spot.fine 0 region.0 region.1 j x at)));
          ready = λ x u w. w;
          code = region_code p.funcs a seen o last good 0 region.0 region.1;
          ends = region_ends p.funcs a seen o last good 0 region.0 region.1 (ap (λ g. is_ending (end_asked g 0)) (form_by o op.ScfParallel e));
          frames = bare (within a o 0) (seen ++ params_of region.0) refl;
        }),
        record { around = d.around; now = d.now; seen = d.seen; env = d.env; ready = d.ready; code = d.code; ends = d.ends; frames = d.frames },
      )

  -- an await, by the type of what is awaited
  await_by : (e : kind_of o ≡ op.AsyncAwait) (w : Ty) → first_type (written_of o) ≡ w → is_awaitable w ≡ true → (v : Val) → HasType typing w v → Good (or_fails (out-Op o) t (λ x. Asks (out-Op o).at (AwaitsOne x) (results_of o) t) (element_in v))
  await_by e ty.Token f is (Element (Token q)) v = λ r fit. answered r fit where
    none : types_of o ≡ []
    none = no_type (types_of o) (types_count p.funcs typing a seen o last good env h op.AsyncAwait e ∙ ap (λ u. if is_value u then 1 else 0) f)

    answered : (r : Answer) → AwaitFits p.funcs typing (Token q) r → TaskTyped p.funcs typing claim (resumed (out-Op o).at (results_of o) t r)
    answered None fit = failing (behind op.AsyncAwait e refl) (out-Op o).at
    answered (Some ws) fit = with_results (behind op.AsyncAwait e refl) ws (subst (λ ts. AreTyped typing ts ws) (sym none) (subst (AreTyped typing []) (sym fit) tt))
  await_by e (ty.Value w) f is (Element (Value q j)) v = λ r fit. answered r fit where
    result : OneResult p.funcs typing a seen o last good env h op.AsyncAwait
    result = one_result p.funcs typing a seen o last good env h op.AsyncAwait e (ap (λ u. if is_value u then 1 else 0) f)

    held : Holds (ty.Value w) result.type
    held = holds_so (ty.Value w) result.type (subst (λ u. holds u result.type ≡ true) f result.fits)

    types : types_of o ≡ payload w ∷ []
    types = result.types ∙ ap (λ u. u ∷ []) (held.inner ∙ ap payload (sym (value_inside w held.held held.outer)))

    answered : (r : Answer) → AwaitFits p.funcs typing (Value q j) r → TaskTyped p.funcs typing claim (resumed (out-Op o).at (results_of o) t r)
    answered None fit = failing (behind op.AsyncAwait e refl) (out-Op o).at
    answered (Some ws) fit = with_results (behind op.AsyncAwait e refl) ws (subst (λ ts. AreTyped typing ts ws) (sym types) (fit w v))
  await_by e ty.Token f is (Number m) v = elim v [ ]
  await_by e ty.Token f is (Memory b dims) v = elim v [ ]
  await_by e ty.Token f is (Group g) v = elim v [ ]
  await_by e ty.Token f is (Element (Value q j)) v = elim v [ ]
  await_by e (ty.Value w) f is (Number m) v = elim v [ ]
  await_by e (ty.Value w) f is (Memory b dims) v = elim v [ ]
  await_by e (ty.Value w) f is (Group g) v = elim v [ ]
  await_by e (ty.Value w) f is (Element (Token q)) v = elim v [ ]
  await_by e w f is v u = no_await is where
    no_await : false ≡ true → Good (or_fails (out-Op o) t (λ x. Asks (out-Op o).at (AwaitsOne x) (results_of o) t) (element_in v))
    no_await i = absurd (not_true i)

  await_next : kind_of o ≡ op.AsyncAwait → Good (awaits_one (out-Op o) vs t)
  await_next e =
      let x = first_operand op.AsyncAwait e 0 1 0 (operands_count p.funcs typing a seen o last good env h op.AsyncAwait e) (omega arith) refl (λ u fit. fit) in
      let w = written_first op.AsyncAwait e 0 refl in
      let same : w.0 ≡ x.type = some_is w.0 x.type (sym w.1 ∙ x.there) in
      await_by e x.type (w.2 ∙ same) x.fits (value vs 0) x.typed

  -- ---- all rows

  no_form : (kind : OpKind) → kind_of o ≡ kind → is_other (row_of kind).form ≡ true → ⊥
  no_form kind e is = not_true (sym (not_other s good.spot.fine) ∙ (ap is_other (form_by o kind e) ∙ is))

  asserts_next : kind_of o ≡ op.CfAssert → (b : Bool) → Good (cond b (fails (out-Op o).at t) (Goes t))
  asserts_next e true = fails_next
  asserts_next e false = goes_on (behind op.CfAssert e refl) (none_left op.CfAssert e refl)

  -- one or the other
  either_next : (b : Bool) (x y : Next) → Good x → Good y → Good (cond b x y)
  either_next true x y f g = f
  either_next false x y f g = g

  number_next : (kind : OpKind) (e : kind_of o ≡ kind) → is_ending (row_of kind).form ≡ false → (c : counted (row_of kind).results (types_given (row_of kind).form s.place) ≡ 1) → ((u : Ty) → result_fits (row_of kind).form s.place 0 u ≡ true → is_number u ≡ true) → (x : Option ℕ) → Good (computes (out-Op o) t x)
  number_next kind e plain c num x = let r = one_result p.funcs typing a seen o last good env h kind e c in computes_next kind e plain r (num r.type r.fits) x

  does_next : (kind : OpKind) → kind_of o ≡ kind → Good (does kind p (out-Op o) vs t)
  does_next op.ArithAddi e = binary_next op.ArithAddi bin.Add e refl refl
  does_next op.ArithSubi e = binary_next op.ArithSubi bin.Sub e refl refl
  does_next op.ArithMuli e = binary_next op.ArithMuli bin.Mul e refl refl
  does_next op.ArithDivsi e = binary_next op.ArithDivsi bin.DivS e refl refl
  does_next op.ArithDivui e = binary_next op.ArithDivui bin.DivU e refl refl
  does_next op.ArithRemsi e = binary_next op.ArithRemsi bin.RemS e refl refl
  does_next op.ArithRemui e = binary_next op.ArithRemui bin.RemU e refl refl
  does_next op.ArithAndi e = binary_next op.ArithAndi bin.And e refl refl
  does_next op.ArithOri e = binary_next op.ArithOri bin.Or e refl refl
  does_next op.ArithXori e = binary_next op.ArithXori bin.Xor e refl refl
  does_next op.ArithShli e = binary_next op.ArithShli bin.Shl e refl refl
  does_next op.ArithShrsi e = binary_next op.ArithShrsi bin.ShrS e refl refl
  does_next op.ArithShrui e = binary_next op.ArithShrui bin.ShrU e refl refl
  does_next op.ArithMaxsi e = binary_next op.ArithMaxsi bin.MaxS e refl refl
  does_next op.ArithMinsi e = binary_next op.ArithMinsi bin.MinS e refl refl
  does_next op.ArithMaxui e = binary_next op.ArithMaxui bin.MaxU e refl refl
  does_next op.ArithMinui e = binary_next op.ArithMinui bin.MinU e refl refl
  does_next op.ArithConstant e = number_next op.ArithConstant e refl refl (λ u fit. literal_number (attr_of o) u fit) (Some (at_width (result_width (out-Op o)) (literal_bits (attr_of o))))
  does_next op.ArithCmpi e = number_next op.ArithCmpi e refl refl (λ u fit. truth_number u fit) (Some (compared_at (written_width (out-Op o)) (attr_of o) (number vs 0) (number vs 1)))
  does_next op.ArithSelect e = select_next e
  does_next op.ArithExtsi e = cast_next op.ArithExtsi e refl refl refl (λ w fit. extends_number w (first_type (types_of o)) fit) (sign_cast (written_width (out-Op o)) (result_width (out-Op o)) (number vs 0))
  does_next op.ArithIndexCast e = cast_next op.ArithIndexCast e refl refl refl (λ w fit. casts_number w (first_type (types_of o)) fit) (sign_cast (written_width (out-Op o)) (result_width (out-Op o)) (number vs 0))
  does_next op.ArithExtui e = cast_next op.ArithExtui e refl refl refl (λ w fit. extends_number w (first_type (types_of o)) fit) (at_width (result_width (out-Op o)) (number vs 0))
  does_next op.ArithTrunci e = cast_next op.ArithTrunci e refl refl refl (λ w fit. truncates_number w (first_type (types_of o)) fit) (at_width (result_width (out-Op o)) (number vs 0))
  does_next op.ArithIndexCastui e = cast_next op.ArithIndexCastui e refl refl refl (λ w fit. casts_number w (first_type (types_of o)) fit) (at_width (result_width (out-Op o)) (number vs 0))
  does_next op.CfAssert e = asserts_next e (nat_eq (number vs 0) 0)
  does_next op.FuncCall e = call_next e
  does_next op.AioTryCall e = try_next e
  does_next op.ScfFor e = either_next (are_bounds (number vs 0) (number vs 1) (number vs 2)) (Goes (turned (out-Op o) (number vs 0) (number vs 1) (number vs 2) (drop 3 vs) t)) (fails (out-Op o).at t) (for_next e) fails_next
  does_next op.ScfIf e = pick (nat_eq (number vs 0) 0) where
    pick : (b : Bool) → TaskTyped p.funcs typing claim (entered (Joins (results_of o)) (region_of (out-Op o) (cond b 1 0)) [] t)
    pick true = branch_next 1 (omega arith) e
    pick false = branch_next 0 (omega arith) e
  does_next op.ScfWhile e = while_next e
  does_next op.ScfParallel e = maybe_next _ (spans_of (numbers (group (out-Op o) vs 0)) (numbers (group (out-Op o) vs 1)) (numbers (group (out-Op o) vs 2))) (λ spans is. maybe_next _ (product_within most_elements (turns_of spans)) (λ m j. loop_next e spans is m))
  does_next op.MemrefAlloc e = maybe_next _ (product_within most_cells (asked_sizes (out-Op o) vs)) (λ m is. alloc_next e)
  does_next op.MemrefLoad e = maybe_next _ (cell_from 0 (dims_in (value vs 0)) (numbers (drop 1 vs))) (λ m is. load_next e)
  does_next op.MemrefStore e = maybe_next _ (cell_from 0 (dims_in (value vs 1)) (numbers (drop 2 vs))) (λ m is. goes_on (behind op.MemrefStore e refl) (none_left op.MemrefStore e refl))
  does_next op.MemrefDim e = number_next op.MemrefDim e refl refl (λ u fit. index_number u fit) (slice_get (dims_in (value vs 0)) (number vs 1))
  does_next op.AsyncExecute e = launches_next e
  does_next op.AsyncAwait e = await_next e
  does_next op.AsyncCreateGroup e = either_next (nat_le (number vs 0) most_elements) (Asks (out-Op o).at (Creates (number vs 0)) (results_of o) t) (fails (out-Op o).at t) (creates_next e) fails_next
  does_next op.AsyncAddToGroup e = maybe_next _ (element_in (value vs 0)) (λ x is. adds_next e)
  does_next op.AsyncAwaitAll e = unless_next (behind op.AsyncAwaitAll e refl) (none_left op.AsyncAwaitAll e refl) (out-Op o).at
  does_next op.FuncReturn e = return_next e
  does_next op.ScfYield e = yield_next e
  does_next op.ScfCondition e = condition_next e
  does_next op.ScfReduce e = reduce_next e
  does_next op.AsyncYield e = task_yield_next e
  does_next op.MemrefDealloc e = goes_on (behind op.MemrefDealloc e refl) (none_left op.MemrefDealloc e refl)
  does_next kind e = absurd (no_form kind e refl)

  -- the operation next
  pub op_next : Good (does (out-Op o).kind p (out-Op o) vs t)
  op_next = does_next (out-Op o).kind refl

  -- ---- buffers

  rank_of : (m : MemTy) (v : Val) → slice_get (written_of o) 0 ≡ Some (ty.Memref m) → HasType typing (ty.Memref m) v → HasRank (written_of o) v
  rank_of m (Memory b dims) at k = k ∙ ap (λ (x : Option Ty). length (dims_of x)) (sym at)
  rank_of m (Number i) at k = elim k [ ]
  rank_of m (Element x) at k = elim k [ ]
  rank_of m (Group g) at k = elim k [ ]

  first_rank : (kind : OpKind) (i : ℕ) → First kind i → ((u : Ty) → written_fits (row_of kind).form s.place 0 u ≡ true → is_memref u ≡ true) → HasRank (written_of o) (value vs i)
  first_rank kind i x f = let m = memref_is x.type (f x.type x.fits) in rank_of m.0 (value vs i) (x.there ∙ ap Some m.1) (subst (λ u. HasType typing u (value vs i)) m.1 x.typed)

  buffer_by : (kind : OpKind) → kind_of o ≡ kind → BufferFits (row_of kind).form (written_of o) vs
  buffer_by op.MemrefLoad e = first_rank op.MemrefLoad 0 (first_operand op.MemrefLoad e 0 _ 0 (operands_count p.funcs typing a seen o last good env h op.MemrefLoad e) (omega arith) refl (λ u fit. fit)) (λ u fit. fit)
  buffer_by op.MemrefStore e = first_rank op.MemrefStore 1 (first_operand op.MemrefStore e 0 _ 1 (operands_count p.funcs typing a seen o last good env h op.MemrefStore e) (omega arith) refl (λ u fit. fit)) (λ u fit. fit)
  buffer_by op.MemrefDim e = first_rank op.MemrefDim 0 (first_operand op.MemrefDim e 0 _ 0 (operands_count p.funcs typing a seen o last good env h op.MemrefDim e) (omega arith) refl (λ u fit. fit)) (λ u fit. fit)
  buffer_by kind e = tt

  pub buffer_next : BufferFits (form o) (written_of o) vs
  buffer_next = subst (λ g. BufferFits g (written_of o) vs) (sym (form_by o (kind_of o) refl)) (buffer_by (kind_of o) refl)
