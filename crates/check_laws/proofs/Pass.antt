-- What the whole pass makes of a sound module has the runs of the module.
use Rattle.std.proofs.Common.{◌≡◌, ◌<◌, ◌≤◌, ℕ, zero, suc, ◌+◌, max, List, [], ◌∷◌, ◌++◌, map, length, slice_index_or, refl, sym, subst, ◌∙◌, arith}
use Rattle.std.specs.List.{All, Contains}
use Rattle.ir_forms.specs.declared.args.ArgValue.{ArgValue}
use Rattle.ir_forms.specs.declared.ops.Func.{Func}
use Rattle.ir_forms.specs.declared.ops.Module.{Module}
use Rattle.ir_forms.specs.declared.ops.Op.{Op, Op-F, out-Op, roll-Op}
use Rattle.ir_forms.specs.declared.ops.Region.{Region, Region-F, roll-Region}
use Rattle.ir_forms.specs.declared.ops.ValueNo.{ValueNo}
use Rattle.ir_forms.specs.declared.types.Ty.{Ty}
use Rattle.ir_verify.specs.Calls.{AreMarks}
use Rattle.ir_verify.specs.Verdict.{IsSound}
use Rattle.op_table.specs.declared.rows.Level.TheVariants.{Checked}
use Rattle.check_insert.specs.declared.guard.Guard.{Guard}
use Rattle.check_insert.specs.declared.guard.Guard.TheVariants as guard
use Rattle.check_insert.specs.Shape as shape
use Rattle.check_insert.proofs.Extended.{checked_extends, checked_names}
use Rattle.sound_laws.proofs.Sound.{extended_is_sound}
use Rattle.sound_laws.proofs.Uses.{sound_uses_own}
use Rattle.value_numbers.specs.Numbers.{values_in, values_inside, values_of, as_numbers, defined_in, value_numbered}
use Rattle.number_laws.specs.Laws.{places_of, IsRenaming}
use Rattle.number_laws.proofs.Renaming.{numbering_is_a_renaming}
use Rattle.number_laws.proofs.Trees.{values-made, values-held, each-all}
use Rattle.source_meaning.specs.declared.values.Val.{Val}
use Rattle.source_meaning.specs.declared.values.Val.TheVariants.{Number, Memory, Element, Group}
use Rattle.source_meaning.specs.Values.{dims_in, number_in}
use Rattle.source_meaning.specs.Parts.{Node, joined, uses_of, names_of}
use Rattle.source_meaning.specs.Tasks.{Program, Pending, Awaits, Joining, Failing}
use Rattle.source_meaning.specs.Sequential.{IsProgram}
use Rattle.source_meaning.specs.Steps.{operands, value}
use Rattle.source_meaning.specs.TaskOrder.{Each}
use Rattle.carry_laws.specs.Laws.{BothWays, FollowsEach, FollowsIn, IsLike, MeansAtLast}
use Rattle.carry_laws.specs.Instances.{HaveSameRuns}
use Rattle.carry_laws.proofs.Law.{renamed_programs_run_alike}
use Rattle.typed_laws.specs.Ranges.{IsInRange, AreInRange}
use Rattle.typed_laws.proofs.Reached.{values_are_in_range}
use Rattle.check_laws.specs.Rows.{IsNumber}
use Rattle.check_laws.specs.Fits.{AreNumbers, Fits, FitAt, HasRank, RankAt, RanksMakeFit}
use Rattle.check_laws.specs.Laws.{ReadsBelow, SoundReadsBelow, PassChangesNoRun}
use Rattle.check_laws.proofs.Syntax.{tree, above-made, above-held, first_part, second_part, below_above}
use Rattle.check_laws.proofs.Whole.{checks_call_nothing, checks_change_no_run}

-- ---- operands of sound functions

each_append : {X : Type 0} (Q : X → Type 0) (xs ys : List X) → Each Q xs → Each Q ys → Each Q (xs ++ ys)
each_append Q [] ys h g = g
each_append Q (x ∷ xs) ys h g = (h.0, each_append Q xs ys h.1 g)

module _ (b : ℕ) where
  abbrev AreBelow : List ValueNo → Type 0
  AreBelow vs = Each (λ v. v.0 < b) vs

  abbrev OpBelow : Op → Type 0
  OpBelow o = shape.above_op o ≤ b → AreBelow (values_in o)

  abbrev RegionBelow : Region → Type 0
  RegionBelow r = shape.above_region r ≤ b → AreBelow (values_inside r)

  regions_below : (rs : List Region) → Each RegionBelow rs → shape.greatest (map shape.above_region rs) ≤ b → AreBelow (joined (map values_inside rs))
  regions_below [] h l = tt
  regions_below (r ∷ rs) h l =
      each_append (λ v. v.0 < b) (values_inside r) (joined (map values_inside rs)) (h.0 (first_part (shape.above_region r) (shape.greatest (map shape.above_region rs)) b l))
      (regions_below rs h.1 (second_part (shape.above_region r) (shape.greatest (map shape.above_region rs)) b l))

  ops_below : (os : List Op) → Each OpBelow os → shape.greatest (map shape.above_op os) ≤ b → AreBelow (joined (map values_in os))
  ops_below [] h l = tt
  ops_below (o ∷ os) h l =
      each_append (λ v. v.0 < b) (values_in o) (joined (map values_in os)) (h.0 (first_part (shape.above_op o) (shape.greatest (map shape.above_op os)) b l))
      (ops_below os h.1 (second_part (shape.above_op o) (shape.greatest (map shape.above_op os)) b l))

  params_below : (ps : List (ValueNo × Ty)) → shape.above_params ps ≤ b → AreBelow (names_of ps)
  params_below [] l = tt
  params_below (p ∷ ps) l = ((let m = first_part (p.0.0 + 1) (shape.above_params ps) b l in omega arith), params_below ps (second_part (p.0.0 + 1) (shape.above_params ps) b l))

  op_below : (x : Op-F Op Region) → Each RegionBelow x.regions → OpBelow (roll-Op x)
  op_below x h l =
      let top : max (shape.above x.results) (shape.greatest (map shape.above_region x.regions)) ≤ b = subst (λ n. n ≤ b) (above-made x) l in
      subst AreBelow (sym (values-made x)) (each_append (λ v. v.0 < b) x.results (joined (map values_inside x.regions)) (below_above b x.results (first_part (shape.above x.results) (shape.greatest (map shape.above_region x.regions)) b top))
      (regions_below x.regions h (second_part (shape.above x.results) (shape.greatest (map shape.above_region x.regions)) b top)))

  region_below : (x : Region-F Op Region) → Each OpBelow x.ops → RegionBelow (roll-Region x)
  region_below x h l =
      let top : max (shape.above_params x.params) (shape.greatest (map shape.above_op x.ops)) ≤ b = subst (λ n. n ≤ b) (above-held x) l in
      subst AreBelow (sym (values-held x)) (each_append (λ v. v.0 < b) (names_of x.params) (joined (map values_in x.ops)) (params_below x.params (first_part (shape.above_params x.params) (shape.greatest (map shape.above_op x.ops)) b top))
      (ops_below x.ops h (second_part (shape.above_params x.params) (shape.greatest (map shape.above_op x.ops)) b top)))

  body_below : (r : Region) → RegionBelow r
  body_below = tree OpBelow RegionBelow op_below region_below

defined_below : (f : Func) → Each (λ v. v.0 < shape.first_free f) (values_of f)
defined_below f =
    each_append (λ v. v.0 < shape.first_free f) (names_of f.params) (values_inside f.body)
    (params_below (shape.first_free f) f.params (first_part (shape.above_params f.params) (shape.above_region f.body) (shape.first_free f) (omega arith)))
    (body_below (shape.first_free f) f.body (second_part (shape.above_params f.params) (shape.above_region f.body) (shape.first_free f) (omega arith)))

one_below : (b : ℕ) (vs : List ValueNo) (k x : ℕ) → Each (λ v. v.0 < b) vs → k < length (as_numbers vs) → slice_index_or (as_numbers vs) k x ≡ x → x < b
one_below b [] k x h l e = absurd (let m : k < 0 = l in omega arith)
one_below b (v ∷ vs) zero x h l e = subst (λ n. n < b) e h.0
one_below b (v ∷ vs) (suc k) x h l e = one_below b vs k x h.1 (let m : suc k < suc (length (as_numbers vs)) = l in omega arith) e

own_below : (f : Func) (us : List ValueNo) → Each (λ v. Contains (defined_in f) v.0) us → Each (λ v. v.0 < shape.first_free f) us
own_below f [] h = tt
own_below f (u ∷ us) h = (one_below (shape.first_free f) (values_of f) h.0.0 u.0 (defined_below f) h.0.1 h.0.2, own_below f us h.1)

funcs_below : (fs : List Func) → Each (λ f. All (λ v. Contains (defined_in f) v.0) (uses_of f)) fs → Each ReadsBelow fs
funcs_below [] h = tt
funcs_below (f ∷ fs) h = (own_below f (uses_of f) (each-all (λ v. Contains (defined_in f) v.0) (uses_of f) h.0), funcs_below fs h.1)

pub sound_reads_below : SoundReadsBelow
sound_reads_below funcs sound =
    let program : Module = record { funcs = funcs } in
    funcs_below funcs (each-all (λ f. All (λ v. Contains (defined_in f) v.0) (uses_of f)) funcs (sound_uses_own program sound))

-- ---- values that fit

number_of : (v : Val) → IsInRange v → IsNumber (number_in v)
number_of (Number n) h = h
number_of (Memory b dims) h = omega arith
number_of (Element x) h = omega arith
number_of (Group g) h = omega arith

numbers_of : (vs : List Val) → AreInRange vs → AreNumbers vs
numbers_of [] h = tt
numbers_of (v ∷ vs) h = (number_of v h.0, numbers_of vs h.1)

sizes_of : (v : Val) → IsInRange v → Each IsNumber (dims_in v)
sizes_of (Number n) h = tt
sizes_of (Memory b dims) h = h
sizes_of (Element x) h = tt
sizes_of (Group g) h = tt

value_in : (vs : List Val) (k : ℕ) → AreInRange vs → IsInRange (value vs k)
value_in [] k h = omega arith
value_in (v ∷ vs) zero h = h.0
value_in (v ∷ vs) (suc k) h = value_in vs k h.1

pub fits_by : (g : Guard) (o : Node) (vs : List Val) → AreInRange vs → HasRank g o vs → Fits g o vs
fits_by guard.Nothing o vs h r = tt
fits_by guard.Divisor o vs h r = tt
fits_by guard.Quotient o vs h r = tt
fits_by guard.Shift o vs h r = tt
fits_by guard.Load o vs h r = (numbers_of vs h, record { dimensions = r; sizes = sizes_of (value vs 0) (value_in vs 0 h) })
fits_by guard.Store o vs h r = (numbers_of vs h, record { dimensions = r; sizes = sizes_of (value vs 1) (value_in vs 1 h) })
fits_by guard.Dimension o vs h r = (numbers_of vs h, record { dimensions = r; sizes = sizes_of (value vs 0) (value_in vs 0 h) })
fits_by guard.Alloc o vs h r = numbers_of vs h
fits_by guard.Group o vs h r = numbers_of vs h
fits_by guard.Bounds o vs h r = numbers_of vs h
fits_by guard.Parallel o vs h r = numbers_of vs h

pub ranks_make_fit : RanksMakeFit
ranks_make_fit p entry args range ranks t a = go t.pending t.rest (ranks t a) where
  go : (ps : List Pending) (ops : List Op) → RankAt ps ops t.scope.env → FitAt ps ops t.scope.env
  go [] [] r = tt
  go [] (o ∷ ops) r = fits_by (shape.guard_of (out-Op o).kind) (out-Op o) (operands t (out-Op o)) ((values_are_in_range p entry args range).operands t (out-Op o) a) r
  go (Awaits n x xs ∷ ps) ops r = tt
  go (Joining n l ∷ ps) ops r = tt
  go (Failing n ∷ ps) ops r = tt

-- ---- one after another

both_then : {A B C : Type 0} → BothWays A B → BothWays B C → BothWays A C
both_then f g = (λ a. g.0 (f.0 a), λ c. f.1 (g.1 c))

in_then : (a b c : Module) (entry : ℕ) (args : List ArgValue) → FollowsIn a b entry args → FollowsIn b c entry args → FollowsIn a c entry args
in_then a b c entry args f g fuel end_ trace m u = let x : MeansAtLast b entry args end_ trace = f fuel end_ trace m u in g x.0 end_ trace (x.1 x.0 (omega arith)) u

each_then : (p q r : Program) (entry : ℕ) (args : List ArgValue) → FollowsEach p q entry args → FollowsEach q r entry args → FollowsEach p r entry args
each_then p q r entry args f g s h =
    let x : IsLike q entry args s = f s h in
    let y : IsLike r entry args x.at = g x.at x.reached in
    record { at = y.at; reached = y.reached; world = y.world ∙ x.world; log = y.log ∙ x.log; live = λ t. y.live t ∙ x.live t }

pub runs_then : (a b c : Module) (p q r : Program) (entry : ℕ) (args : List ArgValue) → HaveSameRuns a b p q entry args → HaveSameRuns b c q r entry args → HaveSameRuns a c p r entry args
runs_then a b c p q r entry args f g = record {
  ends = λ e trace. both_then (f.ends e trace) (g.ends e trace);
  finishes = λ trace e. both_then (f.finishes trace e) (g.finishes trace e);
  means = (in_then a b c entry args f.means.0 g.means.0, in_then c b a entry args g.means.1 f.means.1);
  states = (each_then p q r entry args f.states.0 g.states.0, each_then r q p entry args g.states.1 f.states.1);
}

-- ---- the pass

pub checked_sound : (program : Module) → IsSound program.funcs → IsSound (shape.checked program).funcs
checked_sound program sound = extended_is_sound Checked (checked_names program.funcs) program.funcs (shape.checked program).funcs (checked_extends program sound) sound

pub pass_changes_no_run : PassChangesNoRun
pass_changes_no_run program p r entry args sound small ip ir range ranks =
    let m : Module = shape.checked program in
    let reads = sound_reads_below program.funcs sound in
    let q : Program = record { funcs = m.funcs; called = p.called; uses = map uses_of m.funcs } in
    let iq : IsProgram m q = record { funcs = refl; called = subst (λ g. AreMarks g p.called) (sym (checks_call_nothing program reads small)) ip.called; uses = refl } in
    let named : IsRenaming m = numbering_is_a_renaming m (sound_uses_own m (checked_sound program sound)) in
    runs_then program m (value_numbered m) p q r entry args
    (checks_change_no_run program p q entry args reads small ip iq (ranks_make_fit p entry args range ranks))
    (renamed_programs_run_alike (places_of m) m (value_numbered m) q r entry args named.injective (named.renamed q r iq ir) iq ir)
