-- Operations whose regions are typed.
use Rattle.std.proofs.Common.{◌≡◌, ℕ, true, false, List, [], ◌∷◌, length, map, drop, Some, refl, sym, ap, ap₂, ◌∙◌, subst, arith, true≢false}
use Rattle.std.specs.Prelude.{slice_get}
use Rattle.op_table.specs.declared.form.Form.{Form}
use Rattle.op_table.specs.declared.form.Form.TheVariants as form_is
use Rattle.op_table.specs.declared.kind.OpKind.{OpKind}
use Rattle.ir_forms.specs.declared.ops.Module.{Module}
use Rattle.ir_forms.specs.declared.ops.Op.{Op, out-Op}
use Rattle.ir_forms.specs.declared.ops.Region.{Region}
use Rattle.ir_forms.specs.declared.ops.ValueNo.{ValueNo}
use Rattle.ir_forms.specs.declared.types.Ty.{Ty}
use Rattle.ir_forms.specs.declared.types.Ty.TheVariants as ty
use Rattle.ir_forms.specs.Ops.{kind_of, attr_of, operands_of, ops_of, regions_of, results_of, written_of}
use Rattle.ir_verify.specs.Forms.{form}
use Rattle.ir_verify.specs.Places.{Seen, Spot, params_of, types_of}
use Rattle.low_forms.specs.declared.code.LowKind.TheVariants.{Row, Launch, Await}
use Rattle.mlir_print.specs.Printable.{HasForm, HasParts, param_types}
use Rattle.scf_blocks.specs.declared.role.Role.{Role}
use Rattle.scf_blocks.specs.declared.role.Role.TheVariants as role
use Rattle.scf_blocks.specs.Code.{low_attr, truth}
use Rattle.scf_blocks.specs.Lowered.{lowered}
use Rattle.scf_blocks.specs.Tree.{Nested, Ops, Parts, Var, nested_at, nested_of, op_before, role_by, role_of, tree, tree_before, typed, types_in, values_of}
use Rattle.scf_blocks.proofs.Trees.{before_is, ops_nested, params_nested, params_some, parts_in, tree_some}
use Rattle.typed_rows.specs.Typed.{AreTypes, Env, HasType, HasTypes, TypedOps, gives_held, row_fits, with_typed}
use Rattle.plain_rows.specs.Laws.{AwaitFits, CallFits, IsFine, RowFits}
use Rattle.plain_rows.proofs.Awaits.{assertions_fit, awaits_fit}
use Rattle.plain_rows.proofs.Calls.{calls_fit}
use Rattle.plain_rows.proofs.Facts.{counts}
use Rattle.plain_rows.proofs.Whole.{plain_rows_fit}
use Rattle.outlined_types.specs.Forms.{ChoiceFits, CountedFits, TestedFits, TriedFits, end_types, end_types_in, region_types}
use Rattle.outlined_types.specs.Operations.{AreShown, IsFound, OperationsTyped, Stands, is_end}
use Rattle.outlined_types.proofs.Ends.{conditions_fit, ends_fit}
use Rattle.outlined_types.proofs.Launches.{tried_calls_fit}
use Rattle.outlined_types.proofs.Structures.{choices_fit, loops_fit, tested_loops_fit}

-- ---- lists

pub types_typed : (vs : List ValueNo) (ts : List Ty) → length vs ≡ length ts → types_in (typed vs ts) ≡ ts
types_typed [] [] len = refl
types_typed [] (t ∷ ts) len = absurd (omega (arith, len))
types_typed (v ∷ vs) [] len = absurd (omega (arith, len))
types_typed (v ∷ vs) (t ∷ ts) len = ap (λ (us : List Ty). t ∷ us) (types_typed vs ts (omega (arith, len)))

values_typed : (vs : List ValueNo) (ts : List Ty) → values_of (typed vs ts) ≡ vs
values_typed [] ts = refl
values_typed (v ∷ vs) [] = ap (λ (us : List ValueNo). v ∷ us) (values_typed vs [])
values_typed (v ∷ vs) (t ∷ ts) = ap (λ (us : List ValueNo). v ∷ us) (values_typed vs ts)

pub types_map : (ps : List Var) → types_in ps ≡ map (λ (p : Var). p.1) ps
types_map [] = refl
types_map (p ∷ ps) = ap (λ (us : List Ty). p.1 ∷ us) (types_map ps)

none_typed : (ps : List Var) → map (λ (p : Var). p.1) ps ≡ [] → ps ≡ []
none_typed [] e = refl
none_typed (p ∷ ps) e = cc

-- what is visible there is visible here
pub shown : (seen : Seen) (env : Env) (vs : List ValueNo) (ts : List Ty) → AreShown seen env vs → HasTypes seen vs ts → HasTypes env vs ts
shown seen env [] [] are has = tt
shown seen env [] (t ∷ ts) are has = absurd has
shown seen env (v ∷ vs) [] are has = absurd has
shown seen env (v ∷ vs) (t ∷ ts) are has = (are.0 t has.0, shown seen env vs ts are.1 has.1)

first_has : (env : Env) (vs : List ValueNo) (t : Ty) (ts : List Ty) → HasTypes env vs (t ∷ ts) → HasType env (slice_get vs 0) t × HasTypes env (drop 1 vs) ts
first_has env [] t ts has = absurd has
first_has env (v ∷ vs) t ts has = (has.0, has.1)

three_have : (env : Env) (vs : List ValueNo) (t u w : Ty) (ts : List Ty) → HasTypes env vs (t ∷ u ∷ w ∷ ts)
    → HasType env (slice_get vs 0) t × HasType env (slice_get vs 1) u × HasType env (slice_get vs 2) w × HasTypes env (drop 3 vs) ts
three_have env [] t u w ts has = absurd has
three_have env (a ∷ []) t u w ts has = absurd has.1
three_have env (a ∷ b ∷ []) t u w ts has = absurd has.1.1
three_have env (a ∷ b ∷ c ∷ vs) t u w ts has = (has.0, has.1.0, has.1.1.0, has.1.1.1)

-- one instruction is a row of the table, or a launch
rows_alone : (g : Form) (kind : OpKind) → role_by g kind ≡ role.Plain Await → true ≡ false
rows_alone form_is.Execute kind e = cc
rows_alone _ kind e = cc

-- ---- regions

-- regions have the same types of parameters where they have the same parameters
same_params : (rs ss : List Region) → map params_of rs ≡ map params_of ss → map param_types rs ≡ map param_types ss
same_params [] [] e = refl
same_params [] (s ∷ ss) e = cc
same_params (r ∷ rs) [] e = cc
same_params (r ∷ rs) (s ∷ ss) e =
    let here : params_of r ≡ params_of s = cc in
    let rest : map params_of rs ≡ map params_of ss = cc in
    ap₂ (λ (x : List Ty) (xs : List (List Ty)). x ∷ xs) (ap (λ (ps : List Var). map (λ (p : Var). p.1) ps) here) (same_params rs ss rest)

module _ (program : Module) (given : List Ty) (env : Env) where
  -- each region is typed, to give these types
  abbrev Each : (ℕ → List Ty) → List Region → Type 0
  Each asked rs = (i : ℕ) (r : Region) → slice_get rs i ≡ Some r → TypedOps program given (tree (ops_of r)) (with_typed (params_of r) env) (asked i)

  -- the region at a place, in the tree
  pub record Has (rs : List Region) (k : ℕ) (params : List Ty) (ts : List Ty) : Type 0 where
    pub types : types_in (nested_at (map nested_of rs) k).params ≡ params
    pub ops : TypedOps program given (nested_at (map nested_of rs) k).ops (with_typed (nested_at (map nested_of rs) k).params env) ts

  has_region : (asked : ℕ → List Ty) (rs : List Region) → Each asked rs → (k : ℕ) (r : Region) (params : List Ty) → slice_get rs k ≡ Some r → param_types r ≡ params → Has rs k params (asked k)
  has_region asked rs each k r params at is =
      let ps : (nested_at (map nested_of rs) k).params ≡ params_of r = params_nested rs k ∙ sym (params_some rs k r (sym at)) in
      let os : (nested_at (map nested_of rs) k).ops ≡ tree (ops_of r) = ops_nested rs k ∙ sym (tree_some rs k r (sym at)) in
      record {
        types = ap types_in ps ∙ types_map (params_of r) ∙ is;
        ops = subst (λ (x : Ops). TypedOps program given x (with_typed (nested_at (map nested_of rs) k).params env) (asked k)) (sym os)
            (subst (λ (xs : List Var). TypedOps program given (tree (ops_of r)) (with_typed xs env) (asked k)) (sym ps) (each k r at));
      }

  one_region : (asked : ℕ → List Ty) (rs : List Region) (a : List Ty) → Each asked rs → map param_types rs ≡ a ∷ [] → Has rs 0 a (asked 0)
  one_region asked [] a each is = cc
  one_region asked (r ∷ rs) a each is = (let here : param_types r ≡ a = cc in has_region asked (r ∷ rs) each 0 r a refl here)

  two_regions : (asked : ℕ → List Ty) (rs : List Region) (a b : List Ty) → Each asked rs → map param_types rs ≡ a ∷ b ∷ [] → Has rs 0 a (asked 0) × Has rs 1 b (asked 1)
  two_regions asked [] a b each is = cc
  two_regions asked (r ∷ []) a b each is = cc
  two_regions asked (r ∷ q ∷ rs) a b each is =
      let here : param_types r ≡ a = cc in
      let next : param_types q ≡ b = cc in
      (has_region asked (r ∷ q ∷ rs) each 0 r a refl here, has_region asked (r ∷ q ∷ rs) each 1 q b refl next)

  -- one without parameters
  bare_ops : (rs : List Region) (k : ℕ) (ts : List Ty) → Has rs k [] ts → TypedOps program given (nested_at (map nested_of rs) k).ops env ts
  bare_ops rs k ts h =
      let none : (nested_at (map nested_of rs) k).params ≡ [] = none_typed _ (sym (types_map _) ∙ h.types) in
      subst (λ (xs : List Var). TypedOps program given (nested_at (map nested_of rs) k).ops (with_typed xs env) ts) none h.ops

-- ---- one operation

module _ (program : Module) (given : List Ty) (s : Spot) (p : Op) (env : Env) (rest : Ops) (ts : List Ty) (fine : IsFine s) (has : HasForm (kind_of s.place.op) s.place.op)
    (st : Stands program given s p env rest ts) where
  abbrev o : Op
  o = s.place.op

  abbrev vs : List ValueNo
  vs = operands_of o

  abbrev rs : List Var
  rs = typed (results_of o) (types_of o)

  abbrev nested : List Nested
  nested = map nested_of (regions_of p)

  abbrev Goal : Role → Type 0
  Goal r = TypedOps program given (op_before r (parts_in o) nested rest) env ts

  results : types_in rs ≡ types_of o
  results = types_typed (results_of o) (types_of o) (counts s fine).results

  here : (us : List Ty) → HasTypes s.seen vs us → HasTypes env vs us
  here us h = shown s.seen env vs us st.shown h

  -- what stands behind one that ends no region
  next : (r : Role) → role_of (kind_of o) ≡ r → (is_end r → ⊥) → TypedOps program given rest (with_typed rs env) ts
  next r e other = st.behind (λ h. other (subst is_end e h))

  row : (k : OpKind) → role_of (kind_of o) ≡ role.Plain (Row k) → Goal (role.Plain (Row k))
  row k e =
      let f : RowFits program given s (Row k) = plain_rows_fit program given s k fine has e in
      ((f.types, here f.types f.has, ap (λ (us : List Ty). row_fits (lowered program) given (Row k) (low_attr program.funcs (attr_of o)) f.types us) results ∙ f.fits), next (role.Plain (Row k)) e (λ h. h))

  -- behind an operation without results the same is visible
  bare : types_of o ≡ [] → TypedOps program given rest (with_typed rs env) ts → TypedOps program given rest env ts
  bare none behind =
      let no_values : results_of o ≡ [] = empty (results_of o) ((counts s fine).results ∙ ap (λ (us : List Ty). length us) none) in
      let no_results : rs ≡ [] = ap (λ (xs : List ValueNo). typed xs (types_of o)) no_values in
      subst (λ (xs : List Var). TypedOps program given rest (with_typed xs env) ts) no_results behind
    where
      empty : (xs : List ValueNo) → length xs ≡ 0 → xs ≡ []
      empty [] e = refl
      empty (x ∷ xs) e = absurd (omega (arith, e))

  only_assert : (g : Form) → form o ≡ g → (kind : OpKind) → role_by g kind ≡ role.Assertion → HasParts g o → types_of o ≡ []
  only_assert form_is.Assert e kind is parts = parts.2.types_are
  only_assert _ e kind is parts = cc

  asserted : role_of (kind_of o) ≡ role.Assertion → Goal role.Assertion
  asserted e = ((first_has env vs truth [] (here (truth ∷ []) (assertions_fit s fine has e))).0, st.code, bare (only_assert (form o) refl (kind_of o) e has) (next role.Assertion e (λ h. h)))

  awaited : role_of (kind_of o) ≡ role.Await → Goal role.Await
  awaited e =
      let f : AwaitFits s = awaits_fit s fine has e in
      ((f.type, (first_has env vs f.type [] (here (f.type ∷ []) f.has)).0, f.object, ap (λ (us : List Ty). gives_held f.type us) results ∙ f.held), st.code, next role.Await e (λ h. h))

  called : role_of (kind_of o) ≡ role.Call → Goal role.Call
  called e =
      let f : CallFits s = calls_fit s fine has e in
      let g : IsFound program o f.func = st.found f.func f.called in (
        (
          types_in f.func.params,
          here (types_in f.func.params) f.has,
          record { func = g.func; names = g.names; plainly = g.plainly; params = g.params; gives = g.results ∙ sym f.results ∙ sym results; are_taken = f.are_taken; are_given = subst AreTypes (sym f.results ∙ sym results) f.are_given },
        ),
        next role.Call e (λ h. h),
      )

  tried : role_of (kind_of o) ≡ role.TriedCall → Goal role.TriedCall
  tried e =
      let f : TriedFits s = tried_calls_fit s fine has e in
      let g : IsFound program o f.func = st.found f.func f.called in (
        (
          types_in f.func.params,
          here (types_in f.func.params) f.has,
          record { func = g.func; names = g.names; plainly = g.plainly; params = g.params; gives = g.results ∙ f.gives_nothing; are_taken = f.are_taken; are_given = refl },
        ),
        results ∙ f.truth_is,
        next role.TriedCall e (λ h. h),
      )

  ended : role_of (kind_of o) ≡ role.End → Goal role.End
  ended e = subst (λ (us : List Ty). HasTypes env vs us) (sym (st.ends (subst is_end (sym e) tt))) (here (end_types s.place.around) (ends_fit s fine e))

  decided : role_of (kind_of o) ≡ role.Condition → Goal role.Condition
  decided e =
      let both = first_has env vs truth (end_types s.place.around) (here (truth ∷ end_types s.place.around) (conditions_fit s fine e)) in
      (both.0, subst (λ (us : List Ty). HasTypes env (drop 1 vs) us) (sym (st.ends (subst is_end (sym e) tt))) both.1)

  -- what the regions are asked
  asked_by : (g : Form) → form o ≡ g → Each program given env (λ i. end_types_in g o i) (regions_of p)
  asked_by g e i r at = subst (λ h. TypedOps program given (tree (ops_of r)) (with_typed (params_of r) env) (end_types_in h o i)) e (st.regions i r at)

  params_kept : map param_types (regions_of p) ≡ region_types o
  params_kept = same_params (regions_of p) (regions_of o) st.kept.params

  only_choice : (g : Form) (kind : OpKind) → role_by g kind ≡ role.Choice → g ≡ form_is.If
  only_choice form_is.If kind e = refl
  only_choice _ kind e = cc

  only_counted : (g : Form) (kind : OpKind) → role_by g kind ≡ role.Counted → g ≡ form_is.For
  only_counted form_is.For kind e = refl
  only_counted _ kind e = cc

  only_tested : (g : Form) (kind : OpKind) → role_by g kind ≡ role.Tested → g ≡ form_is.While
  only_tested form_is.While kind e = refl
  only_tested _ kind e = cc

  chosen : role_of (kind_of o) ≡ role.Choice → Goal role.Choice
  chosen e =
      let f : ChoiceFits s = choices_fit s fine has e in
      let two = two_regions program given env (λ i. end_types_in form_is.If o i) (regions_of p) [] [] (asked_by form_is.If (only_choice (form o) (kind_of o) e)) (params_kept ∙ f.params) in
      let give : (k : ℕ) → TypedOps program given (nested_at nested k).ops env (types_of o) → TypedOps program given (nested_at nested k).ops env (types_in rs) =
      λ k h. subst (λ (us : List Ty). TypedOps program given (nested_at nested k).ops env us) (sym results) h in (
        (first_has env vs truth [] (here (truth ∷ []) f.has)).0,
        subst AreTypes (sym results) f.are_types,
        give 0 (bare_ops program given env (regions_of p) 0 (types_of o) two.0),
        give 1 (bare_ops program given env (regions_of p) 1 (types_of o) two.1),
        next role.Choice e (λ h. h),
      )

  looped : role_of (kind_of o) ≡ role.Counted → Goal role.Counted
  looped e =
      let f : CountedFits s = loops_fit s fine has e in
      let us : List Ty = types_of o in
      let one = one_region program given env (λ i. end_types_in form_is.For o i) (regions_of p) (ty.Index ∷ us) (asked_by form_is.For (only_counted (form o) (kind_of o) e)) (params_kept ∙ f.params) in
      let h = three_have env vs ty.Index ty.Index ty.Index us (here (ty.Index ∷ ty.Index ∷ ty.Index ∷ us) f.has) in
      let names : values_of rs ≡ results_of o = values_typed (results_of o) us in
      let many : length (results_of o) ≡ length us = (counts s fine).results in
      let long : length (values_of rs) ≡ length (results_of o) = ap (λ (xs : List ValueNo). length xs) names in (
        (h.0, h.1, h.2),
        (
          us,
          one.types,
          f.are_types,
          h.3,
          omega (arith, many, long),
          one.ops,
          subst (λ (xs : List ValueNo). TypedOps program given rest (with_typed (typed xs us) env) ts) (sym names) (next role.Counted e (λ h. h)),
        ),
      )

  cycled : role_of (kind_of o) ≡ role.Tested → Goal role.Tested
  cycled e =
      let f : TestedFits s = tested_loops_fit s fine has e in
      let us : List Ty = types_of o in
      let two = two_regions program given env (λ i. end_types_in form_is.While o i) (regions_of p) (written_of o) us (asked_by form_is.While (only_tested (form o) (kind_of o) e)) (params_kept ∙ f.params) in
      let first = two.0 in
      let second = two.1 in
      let before : TypedOps program given (nested_at nested 0).ops (with_typed (nested_at nested 0).params env) (types_in (nested_at nested 1).params) =
      subst (λ (xs : List Ty). TypedOps program given (nested_at nested 0).ops (with_typed (nested_at nested 0).params env) xs) (sym second.types) first.ops in
      let after : TypedOps program given (nested_at nested 1).ops (with_typed (nested_at nested 1).params env) (types_in (nested_at nested 0).params) =
      subst (λ (xs : List Ty). TypedOps program given (nested_at nested 1).ops (with_typed (nested_at nested 1).params env) xs) (sym first.types) second.ops in (
        (subst (λ (xs : List Ty). HasTypes env vs xs) (sym first.types) (here (written_of o) f.has), subst AreTypes (sym first.types) f.are_taken, subst AreTypes (sym second.types) f.are_given, results ∙ sym second.types),
        before,
        after,
        next role.Tested e (λ h. h),
      )

  -- one that isn't in the code has no results
  only_nothing : (g : Form) → form o ≡ g → (kind : OpKind) → role_by g kind ≡ role.Nothing → HasParts g o → types_of o ≡ []
  only_nothing form_is.Parallel e kind is parts = parts.7.types_are
  only_nothing form_is.Reduce e kind is parts = parts.types_are
  only_nothing form_is.Other e kind is parts = absurd parts
  only_nothing _ e kind is parts = cc

  passed : role_of (kind_of o) ≡ role.Nothing → Goal role.Nothing
  passed e = bare (only_nothing (form o) refl (kind_of o) e has) (next role.Nothing e (λ h. h))

  by_role : (r : Role) → role_of (kind_of o) ≡ r → (r ≡ role.Plain Launch → ⊥) → Goal r
  by_role (role.Plain (Row k)) e other = row k e
  by_role (role.Plain Launch) e other = absurd (other refl)
  by_role (role.Plain Await) e other = absurd (true≢false (rows_alone (form o) (kind_of o) e))
  by_role role.Assertion e other = asserted e
  by_role role.Choice e other = chosen e
  by_role role.Counted e other = looped e
  by_role role.Tested e other = cycled e
  by_role role.Call e other = called e
  by_role role.TriedCall e other = tried e
  by_role role.Await e other = awaited e
  by_role role.End e other = ended e
  by_role role.Condition e other = decided e
  by_role role.Nothing e other = passed e

  same_parts : parts_in p ≡ parts_in o
  same_parts =
      let k = st.kept in
      ap (λ n. let x : Parts = record { at = n; operands = operands_of p; results = typed (results_of p) (types_of p); attr = attr_of p } in x) k.at
      ∙ ap (λ n. let x : Parts = record { at = (out-Op o).at; operands = n; results = typed (results_of p) (types_of p); attr = attr_of p } in x) k.operands
      ∙ ap (λ n. let x : Parts = record { at = (out-Op o).at; operands = vs; results = typed n (types_of p); attr = attr_of p } in x) k.results
      ∙ ap (λ n. let x : Parts = record { at = (out-Op o).at; operands = vs; results = typed (results_of o) n; attr = attr_of p } in x) k.types
      ∙ ap (λ n. let x : Parts = record { at = (out-Op o).at; operands = vs; results = rs; attr = n } in x) k.attr

  pub operation_typed : (role_of (kind_of o) ≡ role.Plain Launch → ⊥) → TypedOps program given (tree_before p rest) env ts
  operation_typed other =
      let same : tree_before p rest ≡ op_before (role_of (kind_of o)) (parts_in o) nested rest =
      before_is p rest ∙ ap (λ k. op_before (role_of k) (parts_in p) nested rest) st.kept.kind ∙ ap (λ x. op_before (role_of (kind_of o)) x nested rest) same_parts in
      subst (λ (x : Ops). TypedOps program given x env ts) (sym same) (by_role (role_of (kind_of o)) refl other)

pub operations_typed : OperationsTyped
operations_typed program given s p env rest ts fine has other st = operation_typed program given s p env rest ts fine has st other
