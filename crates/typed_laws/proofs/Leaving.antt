-- Tasks leave regions, and fail, as their frames say.
use Rattle.std.specs.Prelude.{nat_eq}
use Rattle.std.proofs.Common.{◌≡◌, ◌<◌, ℕ, zero, suc, ◌+◌, Bool, true, false, cond, List, [], ◌∷◌, ◌++◌, length, Some, slice_get, refl, sym, ap, ◌∙◌, subst, arith}
use Rattle.op_table.specs.declared.form.Form.TheVariants as form_is
use Rattle.op_table.specs.declared.kind.OpKind.{OpKind}
use Rattle.op_table.specs.declared.kind.OpKind.TheVariants as op
use Rattle.op_table.specs.Rows.{row_of}
use Rattle.ir_forms.specs.declared.ops.Op.{Op, out-Op}
use Rattle.ir_forms.specs.declared.ops.Func.{Func}
use Rattle.ir_forms.specs.declared.ops.Region.{Region}
use Rattle.ir_forms.specs.declared.ops.ValueNo.{ValueNo}
use Rattle.ir_forms.specs.declared.types.Ty.{Ty}
use Rattle.ir_forms.specs.declared.types.Ty.TheVariants as ty
use Rattle.ir_forms.specs.Ops.{kind_of, results_of, regions_of}
use Rattle.ir_verify.specs.declared.place.Nest.{Nest}
use Rattle.ir_verify.specs.Forms.{form, end_asked, is_ending}
use Rattle.ir_verify.specs.Places.{Around, Seen, types_of, params_of, within, place_of}
use Rattle.ir_verify.specs.Rules.{is_asked, for_param, while_types, params_fit, param_fits}
use Rattle.source_meaning.specs.declared.values.Val.{Val}
use Rattle.source_meaning.specs.declared.values.Val.TheVariants.{Number}
use Rattle.source_meaning.specs.Values.{Env, number_in}
use Rattle.source_meaning.specs.Parts.{region_of}
use Rattle.source_meaning.specs.Rows.{is_below, stepped}
use Rattle.source_meaning.specs.Tasks.{Scope, After, Turns, Tests, Repeats, Task, bound}
use Rattle.source_meaning.specs.Flow.{entered, turned, tested, leaves, caught}
use Rattle.typed_laws.specs.Typed.{Typing, HasType}
use Rattle.typed_laws.proofs.Types.{type_same, index_is, number_typed}
use Rattle.typed_laws.proofs.Facts.{equal, counts, counted_params, typed_params}
use Rattle.typed_laws.proofs.Envs.{Within, within_more, EnvTyped, env_within, AreTyped, types_in}
use Rattle.typed_laws.proofs.Framed.{Payloads, AfterTruth, AcceptsIn, AcceptsAt, Accepts, Behind, Framed, bare, launched, joins, turns, tests, repeats, returns, tries, TaskTyped, NextTyped, one, behind_task, entered_task}

pub form_by : (o : Op) (k : OpKind) → kind_of o ≡ k → form o ≡ (row_of k).form
form_by o k e = ap (λ x. (row_of x).form) e

pub there_is : {X : Type 0} (xs : List X) (n i : ℕ) → length xs ≡ n → i < n → (x : X) × (slice_get xs i ≡ Some x)
there_is [] n i e h = absurd (omega (arith, e, h))
there_is (x ∷ xs) n zero e h = (x, refl)
there_is (x ∷ xs) zero (suc i) e h = absurd (omega (arith, h))
there_is (x ∷ xs) (suc n) (suc i) e h = there_is xs n i (omega (arith, e)) (omega (arith, h))

-- parameters of these types
pub params_same : (ps : Seen) (us : List Ty) → length ps ≡ length us → ((i : ℕ) (x : ValueNo × Ty) → slice_get ps i ≡ Some x → is_asked (slice_get us i) x.1 ≡ true) → types_in ps ≡ us
params_same [] [] n h = refl
params_same [] (u ∷ us) n h = absurd (omega (arith, n))
params_same (p ∷ ps) [] n h = absurd (omega (arith, n))
params_same (p ∷ ps) (u ∷ us) n h = ap (λ x. x ∷ types_in ps) (sym (type_same u p.1 (h zero p refl))) ∙ ap (λ xs. u ∷ xs) (params_same ps us (omega (arith, n)) (λ i. h (suc i)))

for_params : (typing : Typing) (o : Op) (ps : Seen) (i : ℕ) (vs : List Val) → length ps ≡ length (types_of o) + 1 → ((j : ℕ) (x : ValueNo × Ty) → slice_get ps j ≡ Some x → for_param o j x.1 ≡ true) → AreTyped typing (types_of o) vs → AreTyped typing (types_in ps) (Number i ∷ vs)
for_params typing o [] i vs n h v = absurd (omega (arith, n))
for_params typing o (p ∷ ps) i vs n h v = (
  subst (λ t. HasType typing t (Number i)) (sym (index_is p.1 (h zero p refl))) tt,
  subst (λ ts. AreTyped typing ts vs) (sym (params_same ps (types_of o) (omega (arith, n)) (λ j x e. h (suc j) x e))) v,
)

module _ (funcs : List Func) (typing : Typing) (claim : List Ty) where
  abbrev In : Typing → List Ty → Task → Type 0
  In = TaskTyped funcs

  -- ---- loops

  pub turned_task : (a : Around) (seen : Seen) (o : Op) (i upper step : ℕ) (rest : List Op) (fs : List (After × List Op)) (k : ℕ) (n : Nest) (env : Env) (vs : List Val) → kind_of o ≡ op.ScfFor → Behind funcs a seen o rest → Framed funcs typing claim a seen fs →
      EnvTyped typing seen env → AreTyped typing (types_of o) vs → TaskTyped funcs typing claim (turned (out-Op o) i upper step vs (one funcs typing claim rest fs k n env))
  turned_task a seen o i upper step rest fs k n env vs e b f h v = split (is_below i upper) where
    region : (x : Region) × (slice_get (regions_of o) 0 ≡ Some x)
    region = there_is (regions_of o) 1 0 ((counts (record { seen = seen; place = place_of funcs a b.last o }) b.good.spot.fine).regions ∙ ap (λ x. (row_of x).regions) e) (omega arith)

    count : params_fit form_is.For o 0 (length (params_of region.0)) ≡ true
    count = subst (λ g. params_fit g o 0 (length (params_of region.0)) ≡ true) (form_by o op.ScfFor e) (counted_params (record { seen = seen; place = place_of funcs a b.last o }) b.good.spot.fine 0 region.0 region.1)

    typed : (j : ℕ) (x : ValueNo × Ty) → slice_get (params_of region.0) j ≡ Some x → for_param o j x.1 ≡ true
    typed j x is = subst (λ g. param_fits g o 0 j x.1 ≡ true) (form_by o op.ScfFor e) (typed_params (record { seen = seen; place = place_of funcs a b.last o }) b.good.spot.fine 0 region.0 region.1 j x is)

    split : (c : Bool) → TaskTyped funcs typing claim (cond c (entered (Turns (out-Op o) i upper step) (region_of (out-Op o) 0) (Number i ∷ vs) (one funcs typing claim rest fs k n env)) (bound (results_of o) vs (one funcs typing claim rest fs k n env)))
    split true =
        entered_task funcs typing claim a seen o 0 region.0 (Turns (out-Op o) i upper step) rest fs k n env (Number i ∷ vs) b region.1 (ap (λ g. is_ending (end_asked g 0)) (form_by o op.ScfFor e))
        (turns a seen (seen ++ params_of region.0) o i upper step rest fs e b (within_more seen (params_of region.0)) f) h
        (for_params typing o (params_of region.0) i vs (equal _ _ count) typed v)
    split false = behind_task funcs typing claim a seen o rest fs k n env vs b f h v

  -- a round of `scf.while`: its test, or what follows it
  pub round_task : (a : Around) (seen : Seen) (o : Op) (r : ℕ) (x : After) (rest : List Op) (fs : List (After × List Op)) (k : ℕ) (n : Nest) (env : Env) (vs : List Val) → kind_of o ≡ op.ScfWhile → r < 2 → Behind funcs a seen o rest → is_ending (end_asked form_is.While r) ≡ true →
      ((more : Seen) → Within seen more → Framed funcs typing claim (within a o r) more ((x, rest) ∷ fs)) → EnvTyped typing seen env → AreTyped typing (while_types o r) vs → TaskTyped funcs typing claim (entered x (region_of (out-Op o) r) vs (one funcs typing claim rest fs k n env))
  round_task a seen o r x rest fs k n env vs e less b asked f h v =
      let region = there_is (regions_of o) 2 r ((counts (record { seen = seen; place = place_of funcs a b.last o }) b.good.spot.fine).regions ∙ ap (λ x. (row_of x).regions) e) less in
      let count : params_fit form_is.While o r (length (params_of region.0)) ≡ true =
      subst (λ g. params_fit g o r (length (params_of region.0)) ≡ true) (form_by o op.ScfWhile e) (counted_params (record { seen = seen; place = place_of funcs a b.last o }) b.good.spot.fine r region.0 region.1) in
      let same : types_in (params_of region.0) ≡ while_types o r =
      params_same (params_of region.0) (while_types o r) (equal _ _ count) (λ j y is. subst (λ g. param_fits g o r j y.1 ≡ true) (form_by o op.ScfWhile e) (typed_params (record { seen = seen; place = place_of funcs a b.last o }) b.good.spot.fine r region.0 region.1 j y is)) in
      entered_task funcs typing claim a seen o r region.0 x rest fs k n env vs b region.1 (ap (λ g. is_ending (end_asked g r)) (form_by o op.ScfWhile e) ∙ asked)
      (f (seen ++ params_of region.0) (within_more seen (params_of region.0))) h (subst (λ ts. AreTyped typing ts vs) (sym same) v)

  pub tested_task : (a : Around) (seen : Seen) (o : Op) (rest : List Op) (fs : List (After × List Op)) (k : ℕ) (n : Nest) (env : Env) (vs : List Val) → kind_of o ≡ op.ScfWhile → Behind funcs a seen o rest → Framed funcs typing claim a seen fs →
      EnvTyped typing seen env → AfterTruth typing (types_of o) vs → TaskTyped funcs typing claim (tested (out-Op o) vs (one funcs typing claim rest fs k n env))
  tested_task a seen o rest fs k n env [] e b f h v = elim v [ ]
  tested_task a seen o rest fs k n env (x ∷ vs) e b f h v = split (nat_eq (number_in x) 0) where
    split : (c : Bool) → TaskTyped funcs typing claim (cond c (bound (results_of o) vs (one funcs typing claim rest fs k n env)) (entered (Repeats (out-Op o)) (region_of (out-Op o) 1) vs (one funcs typing claim rest fs k n env)))
    split true = behind_task funcs typing claim a seen o rest fs k n env vs b f h v
    split false = round_task a seen o 1 (Repeats (out-Op o)) rest fs k n env vs e (omega arith) b refl (λ more w. repeats a seen more o rest fs e b w f) h v

  -- ---- ends of regions

  accepts_as : (o : Op) (kind : OpKind) (r : ℕ) (vs : List Val) → kind_of o ≡ kind → AcceptsIn typing (form o) o r vs → AcceptsIn typing (row_of kind).form o r vs
  accepts_as o kind r vs e h = subst (λ g. AcceptsIn typing g o r vs) (form_by o kind e) h

  pub leaves_next : (a : Around) (seen : Seen) (fs : List (After × List Op)) (r0 : List Op) (hs : List (After × List Op)) (k : ℕ) (n : Nest) (env : Env) (vs : List Val) → Framed funcs typing claim a seen fs → EnvTyped typing seen env → Accepts typing a vs →
      NextTyped funcs typing claim (leaves fs vs (one funcs typing claim r0 hs k n env))
  leaves_next a seen fs r0 hs k n env vs (bare _ _ e) h v = λ j w at. (let none : slice_get {X = Ty} [] (suc j) ≡ Some (ty.Value w) = subst (λ (ts : List Ty). slice_get ts (suc j) ≡ Some (ty.Value w)) e at in cc)
  leaves_next a seen fs r0 hs k n env vs (launched _ _ o e kind types) h v =
      subst (λ ts. Payloads typing ts vs) types (accepts_as o op.AsyncExecute a.region vs kind (subst (λ x. AcceptsAt typing x a.region a.func vs) e v))
  leaves_next a seen fs r0 hs k n env vs (joins b outer _ o r rest gs e behind w f) h v =
      behind_task funcs typing claim b outer o rest gs k n env vs behind f (env_within typing outer seen env w h) (accepts_as o op.ScfIf r vs e v)
  leaves_next a seen fs r0 hs k n env vs (turns b outer _ o i upper step rest gs e behind w f) h v =
      turned_task b outer o (stepped i step) upper step rest gs k n env vs e behind f (env_within typing outer seen env w h) (accepts_as o op.ScfFor 0 vs e v)
  leaves_next a seen fs r0 hs k n env vs (tests b outer _ o rest gs e behind w f) h v =
      tested_task b outer o rest gs k n env vs e behind f (env_within typing outer seen env w h) (accepts_as o op.ScfWhile 0 vs e v)
  leaves_next a seen fs r0 hs k n env vs (repeats b outer _ o rest gs e behind w f) h v =
      round_task b outer o 0 (Tests (out-Op o)) rest gs k n env vs e (omega arith) behind refl (λ more u. tests b outer more o rest gs e behind u f) (env_within typing outer seen env w h) (accepts_as o op.ScfWhile 1 vs e v)
  leaves_next a seen fs r0 hs k n env vs (returns _ b _ outer o s rest gs none types senv behind f) h v =
      behind_task funcs typing claim b outer o rest gs s.func s.nest s.env vs behind f senv (subst (λ ts. AreTyped typing ts vs) (sym types) (subst (λ x. AcceptsAt typing x a.region a.func vs) none v))
  leaves_next a seen fs r0 hs k n env vs (tries _ b _ outer o t s rest gs types num senv behind f) h v =
      behind_task funcs typing claim b outer o rest gs s.func s.nest s.env (Number 1 ∷ []) behind f senv (subst (λ ts. AreTyped typing ts (Number 1 ∷ [])) (sym types) (number_typed typing t 1 num, tt))

  -- ---- failures

  pub caught_next : (at : ℕ) (a : Around) (seen : Seen) (fs : List (After × List Op)) (r0 : List Op) (hs : List (After × List Op)) (c : Scope) → Framed funcs typing claim a seen fs →
      NextTyped funcs typing claim (caught at fs (record { pending = []; rest = r0; frames = hs; scope = c }))
  caught_next at a seen fs r0 hs c (bare _ _ e) = tt
  caught_next at a seen fs r0 hs c (launched _ _ o e kind types) = tt
  caught_next at a seen fs r0 hs c (joins b outer _ o r rest gs e behind w f) = caught_next at b outer gs r0 hs c f
  caught_next at a seen fs r0 hs c (turns b outer _ o i upper step rest gs e behind w f) = caught_next at b outer gs r0 hs c f
  caught_next at a seen fs r0 hs c (tests b outer _ o rest gs e behind w f) = caught_next at b outer gs r0 hs c f
  caught_next at a seen fs r0 hs c (repeats b outer _ o rest gs e behind w f) = caught_next at b outer gs r0 hs c f
  caught_next at a seen fs r0 hs c (returns _ b _ outer o s rest gs none types senv behind f) = caught_next at b outer gs r0 hs c f
  caught_next at a seen fs r0 hs c (tries _ b _ outer o t s rest gs types num senv behind f) =
      behind_task funcs typing claim b outer o rest gs s.func s.nest s.env (Number 0 ∷ []) behind f senv (subst (λ ts. AreTyped typing ts (Number 0 ∷ [])) (sym types) (number_typed typing t 0 num, tt))
