-- A name among names is one that is found.
use Rattle.std.proofs.Common.{◌≡◌, ℕ, suc, Bool, true, false, cond, ◌||◌, List, [], ◌∷◌, Option, Some, None, refl, sym, ◌∙◌}
use Rattle.std.specs.Option.{option_map, is_some}
use Rattle.std.specs.Str.{bytes_eq}
use Rattle.name_lists.specs.Names.{first_named}
use Rattle.low_grammar.specs.State.{is_among}

is_some-suc : (o : Option ℕ) → is_some (option_map suc o) ≡ is_some o
is_some-suc None = refl
is_some-suc (Some n) = refl

later : (b : Bool) (o : Option ℕ) (there : Bool) → there ≡ is_some o → b || there ≡ is_some (cond b (Some 0) (option_map suc o))
later true o there is = refl
later false o there is = is ∙ sym (is_some-suc o)

pub among_first : (names : List (List ℕ)) (text : List ℕ) → is_among names text ≡ is_some (first_named (λ (n : List ℕ). n) names text)
among_first [] text = refl
among_first (n ∷ names) text = later (bytes_eq n text) (first_named (λ (m : List ℕ). m) names text) (is_among names text) (among_first names text)
