-- What holds of the whole table.
use Rattle.std.specs.Prelude.{◌≡◌, ◌≢◌, ◌≤◌, ℕ, Bool, List, Some, IsTrue, MatchOption}
use Rattle.std.specs.List.{list_all}
use Rattle.op_table.specs.Rows.{all_kinds, found, found_among, name_of, place_of, stands_at, stands_in_body, body_kinds, kept}
use Rattle.op_table.specs.declared.kind.OpKind.{OpKind}
use Rattle.op_table.specs.declared.rows.Level.{Level}

-- each kind is found by its own name
abbrev pub FindsEachName : Type 0
FindsEachName = (k : OpKind) → found (name_of k) ≡ Some k

-- two kinds of one name are one kind
abbrev pub HasDistinctNames : Type 0
HasDistinctNames = (j k : OpKind) → name_of j ≡ name_of k → j ≡ k

-- a kind that is found has the name, and where none is found no kind has it
abbrev pub FindsExactly : Type 0
FindsExactly = (text : List ℕ) → MatchOption (found text) ((k : OpKind) → name_of k ≢ text) (λ k. name_of k ≡ text)

-- a test that passes at all kinds of the list passes at each kind
abbrev pub ListsEachKind : Type 0
ListsEachKind = (test : OpKind → Bool) → IsTrue (list_all test all_kinds) → (k : OpKind) → IsTrue (test k)

-- a kind that stands at a level stands at each later one
abbrev pub StandsOn : Type 0
StandsOn = (k : OpKind) (l m : Level) → IsTrue (stands_at k l) → place_of l ≤ place_of m → IsTrue (stands_at k m)

-- by name, a kind is found among those of function bodies exactly where it is found and stands there
abbrev pub FindsInBodies : Type 0
FindsInBodies = (l : Level) (text : List ℕ) → found_among (body_kinds l) text ≡ kept (λ k. stands_in_body k l) (found text)

-- a test that passes at all kinds of function bodies of a level passes at each kind that stands there
abbrev pub ListsBodyKinds : Type 0
ListsBodyKinds = (test : OpKind → Bool) (l : Level) → IsTrue (list_all test (body_kinds l)) → (k : OpKind) → IsTrue (stands_in_body k l) → IsTrue (test k)
