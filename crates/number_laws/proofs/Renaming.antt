-- Where each operand is a value that its function defines, numbering is a renaming.
use Rattle.std.proofs.Common.{◌≡◌, ℕ, suc, List, [], ◌∷◌, map, slice_get, Option, Some, None, refl, sym, ap, subst, ◌∙◌}
use Rattle.std.proofs.lemmas.Option.{slice_get-map, slice_get_within, get_or_from_slice_get}
use Rattle.std.specs.List.{All, Contains}
use Rattle.std.specs.Option.{option_map}
use Rattle.ir_forms.specs.declared.ops.Func.{Func}
use Rattle.ir_forms.specs.declared.ops.Module.{Module}
use Rattle.ir_forms.specs.declared.ops.ValueNo.{ValueNo}
use Rattle.ir_verify.specs.Calls.{AreMarks, callee_place, graph_of}
use Rattle.source_meaning.specs.Parts.{uses_of}
use Rattle.source_meaning.specs.Values.{maybe}
use Rattle.source_meaning.specs.Sequential.{IsProgram}
use Rattle.source_meaning.specs.Tasks.{Program}
use Rattle.source_meaning.specs.Renaming.{IsRenamed, renamed_func, renamed_values}
use Rattle.value_numbers.specs.Numbers.{place_in, values_of, as_numbers, defined_in, numbered_values, value_numbered}
use Rattle.number_laws.specs.Laws.{total_place, defined_at, places_of, UsesOwn, NumberingIsARenaming}
use Rattle.number_laws.proofs.Calls.{callees-stay, graph-stays, one-marks}
use Rattle.number_laws.proofs.Places.{total-injective, place-found, place-contained}
use Rattle.number_laws.proofs.Trees.{Each, each-all, Same, func-same, uses-renamed}

-- ---- one function

each-value : (xs : List ℕ) (vs : List ValueNo) → ((i x : ℕ) → slice_get (as_numbers vs) i ≡ Some x → place_in xs x ≡ total_place xs x) → Each (Same (place_in xs) (total_place xs)) vs
each-value xs [] each = tt
each-value xs (v ∷ vs) each = (each 0 v.0 refl, each-value xs vs (λ i. each (suc i)))

each-use : (xs : List ℕ) (vs : List ValueNo) → Each (λ v. Contains xs v.0) vs → Each (Same (place_in xs) (total_place xs)) vs
each-use xs [] each = tt
each-use xs (v ∷ vs) each = (place-contained xs v.0 each.0, each-use xs vs each.1)

func-renamed : (f : Func) → UsesOwn f → numbered_values f ≡ renamed_func (total_place (defined_in f)) f
func-renamed f own =
    func-same (place_in (defined_in f)) (total_place (defined_in f)) f
    (each-value (defined_in f) (values_of f) (place-found (defined_in f)))
    (each-use (defined_in f) (uses_of f) (each-all (λ v. Contains (defined_in f) v.0) (uses_of f) own))

-- ---- all functions

module _ (program : Module) (own : All UsesOwn program.funcs) where
  abbrev funcs : List Func
  funcs = program.funcs

  own-at : (k : ℕ) (f : Func) → slice_get funcs k ≡ Some f → UsesOwn f
  own-at k f at = subst UsesOwn (get_or_from_slice_get funcs k f f at) (own k f (slice_get_within funcs k f at))

  func-at : (k : ℕ) (o : Option Func) → slice_get funcs k ≡ o → option_map numbered_values o ≡ option_map (renamed_func (total_place (maybe [] defined_in o))) o
  func-at k None at = refl
  func-at k (Some f) at = ap (λ (g : Func). Some g) (func-renamed f (own-at k f at))

  funcs-at : (k : ℕ) → slice_get (map numbered_values funcs) k ≡ option_map (renamed_func (places_of program k)) (slice_get funcs k)
  funcs-at k = slice_get-map numbered_values funcs k ∙ func-at k (slice_get funcs k) refl

  uses-of-at : (k : ℕ) (o : Option Func) → slice_get funcs k ≡ o → option_map uses_of (option_map numbered_values o) ≡ option_map (renamed_values (total_place (maybe [] defined_in o))) (option_map uses_of o)
  uses-of-at k None at = refl
  uses-of-at k (Some f) at =
      ap (λ (g : Func). Some (uses_of g)) (func-renamed f (own-at k f at)) ∙ ap (λ (vs : List ValueNo). Some vs) (uses-renamed (total_place (defined_in f)) f)

  uses-at : (k : ℕ) → slice_get (map uses_of (map numbered_values funcs)) k ≡ option_map (renamed_values (places_of program k)) (slice_get (map uses_of funcs) k)
  uses-at k =
      slice_get-map uses_of (map numbered_values funcs) k ∙ ap (option_map uses_of) (slice_get-map numbered_values funcs k)
      ∙ uses-of-at k (slice_get funcs k) refl ∙ ap (option_map (renamed_values (places_of program k))) (sym (slice_get-map uses_of funcs k))

  is-renamed : (p q : Program) → IsProgram program p → IsProgram (value_numbered program) q → IsRenamed (places_of program) p q
  is-renamed p q a b = record {
    funcs = λ k. ap (λ (fs : List Func). slice_get fs k) b.funcs ∙ funcs-at k ∙ ap (λ (fs : List Func). option_map (renamed_func (places_of program k)) (slice_get fs k)) (sym a.funcs);
    callees = λ at. ap (λ (fs : List Func). callee_place fs at) b.funcs ∙ callees-stay funcs at ∙ ap (λ (fs : List Func). callee_place fs at) (sym a.funcs);
    called = one-marks (graph_of funcs) q.called p.called (subst (λ graph. AreMarks graph q.called) (graph-stays funcs) b.called) a.called;
    uses = λ k. ap (λ (us : List (List ValueNo)). slice_get us k) b.uses ∙ uses-at k ∙ ap (λ (us : List (List ValueNo)). option_map (renamed_values (places_of program k)) (slice_get us k)) (sym a.uses);
  }

pub numbering_is_a_renaming : NumberingIsARenaming
numbering_is_a_renaming program own = record {
  injective = λ k x y. total-injective (defined_at program.funcs k) x y;
  graph = graph-stays program.funcs;
  renamed = is-renamed program own;
}
