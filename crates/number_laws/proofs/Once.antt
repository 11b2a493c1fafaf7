-- A place is the place of a place.
use Rattle.std.proofs.Common.{◌≡◌, ◌<◌, ℕ, List, [], ◌∷◌, map, length, refl, sym, ap, subst, ◌∙◌}
use Rattle.std.proofs.lemmas.List.{length-map}
use Rattle.ir_forms.specs.declared.ops.Func.{Func}
use Rattle.ir_forms.specs.declared.ops.Module.{Module}
use Rattle.source_meaning.specs.Renaming.{renamed_func}
use Rattle.value_numbers.specs.Numbers.{place_in, unknown, values_of, defined_in, numbered_values, HasNumbers}
use Rattle.number_laws.specs.Laws.{NumberedOnce}
use Rattle.number_laws.proofs.Places.{twice}
use Rattle.number_laws.proofs.Trees.{Each, each-all, defined-renamed, func-twice}

func-once : (f : Func) → HasNumbers f → numbered_values (numbered_values f) ≡ numbered_values f
func-once f few =
    let σ : ℕ → ℕ = place_in (defined_in f) in
    let less : length (defined_in f) < unknown = subst (λ n. n < unknown) (sym (length-map (values_of f) _)) few in
    ap (λ ns. renamed_func (place_in ns) (numbered_values f)) (defined-renamed σ f)
    ∙ func-twice (place_in (map σ (defined_in f))) σ σ (twice (defined_in f) less) f

funcs-once : (funcs : List Func) → Each HasNumbers funcs → map numbered_values (map numbered_values funcs) ≡ map numbered_values funcs
funcs-once [] each = refl
funcs-once (f ∷ funcs) each =
    ap (λ (g : Func). g ∷ map numbered_values (map numbered_values funcs)) (func-once f each.0) ∙ ap (λ (gs : List Func). numbered_values f ∷ gs) (funcs-once funcs each.1)

abbrev program_of : List Func → Module
program_of funcs = record { funcs = funcs }

pub numbered_once : NumberedOnce
numbered_once program few = ap program_of (funcs-once program.funcs (each-all HasNumbers program.funcs few))
