-- The place of the first function of a name.
use Rattle.std.specs.Prelude.{◌≡◌, ℕ, suc, cond, List, [], ◌∷◌, Option, Some, None}
use Rattle.std.specs.Borrow.{Bor}
use Rattle.std.specs.Option.{option_map}
use Rattle.std.specs.Str.{bytes_eq}
use Rattle.indexmap.specs.IndexMap.{IndexMap, get}
use Rattle.std.specs.declared.hash.FoldHasher.{FoldHasher}
use Rattle.std.specs.declared.hash.BuildHasherDefault.{BuildHasherDefault}
use Rattle.ir_forms.specs.declared.ops.Func.{Func}

abbrev pub first_named : List Func → List ℕ → Option ℕ
first_named [] name = None
first_named (f ∷ funcs) name = cond (bytes_eq f.name name) (Some 0) (option_map suc (first_named funcs name))

-- the map holds the place of the first function of each name
abbrev pub Places : IndexMap (Bor (List ℕ)) ℕ (BuildHasherDefault FoldHasher) → List Func → Type 0
Places places funcs = (name : Bor (List ℕ)) → get (λ p q. bytes_eq p.now q.now) places name ≡ first_named funcs name.now
