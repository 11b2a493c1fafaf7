-- What objects stand for, as a fold over what a run shows: the tokens and values that a task makes before it launches another
-- are that task's, in order; groups are counted. A task ends where the first of its objects is set.
use Rattle.std.specs.Prelude.{ℕ, ◌+◌, ◌-◌, nat_eq, cond, Bool, true, false, List, [], ◌∷◌, ◌++◌, Option, Some, slice_get}
use Rattle.async_objects.specs.declared.kinds.Kind.{Kind}
use Rattle.async_objects.specs.declared.kinds.Kind.TheVariants as kind
use Rattle.machines.specs.Reading.{Reader}
use Rattle.source_meaning.specs.Values.{maybe}
use Rattle.code_machines.specs.Numbered.{Numbered}
use Rattle.code_machines.specs.Numbered as as_number
use Rattle.code_machines.specs.CoreCode.{ByObject, Reads, Writes, Allocs, Creates, Adds, Launches, Looks, Sets, Ends}

-- what an object stands for: the next launch of this task gives it a task; a task's token or value; a group
pub data Stands : Type 0 where
  Making : (task : ℕ) → Stands
  Element : (task place : ℕ) → Stands
  Group : (k : ℕ) → Stands

-- of each object by its number; how many groups there are; and the tasks that have ended
pub record Objects : Type 0 where
  pub stands : List Stands
  pub groups : ℕ
  pub ended : List ℕ

abbrev pub is_among : ℕ → List ℕ → Bool
is_among t [] = false
is_among t (q ∷ qs) = cond (nat_eq q t) true (is_among t qs)

-- the objects that the task t was making are those of q, from place j on
abbrev pub given_to : ℕ → ℕ → ℕ → List Stands → List Stands
given_to t q j [] = []
given_to t q j (Making u ∷ rest) = cond (nat_eq u t) (Element q j ∷ given_to t q (j + 1) rest) (Making u ∷ given_to t q j rest)
given_to t q j (x ∷ rest) = x ∷ given_to t q j rest

-- how many it was making
abbrev pub making : ℕ → List Stands → ℕ
making t [] = 0
making t (Making u ∷ rest) = cond (nat_eq u t) (making t rest + 1) (making t rest)
making t (x ∷ rest) = making t rest

-- ---- what is known after each thing

abbrev pub after_create : ℕ → Kind → Objects → Objects
after_create t (kind.Group size) k = record k { stands = k.stands ++ Group k.groups ∷ []; groups = k.groups + 1 }
after_create t _ k = record k { stands = k.stands ++ Making t ∷ [] }

abbrev pub after_set : Option Stands → Objects → Objects
after_set (Some (Element q j)) k = record k { ended = q ∷ k.ended }
after_set _ k = k

abbrev pub after : Objects → ByObject → Objects
after k (Creates t o kind) = after_create t kind k
after k (Launches t q) = record k { stands = given_to t q 0 k.stands }
after k (Sets t o ok) = after_set (slice_get k.stands o) k
after k _ = k

-- ---- what it reads as

abbrev pub reads_create : ℕ → Kind → Objects → List Numbered
reads_create t (kind.Group size) k = as_number.Creates t k.groups size ∷ []
reads_create t _ k = []

abbrev pub reads_add : ℕ → Option Stands → Option Stands → Bool → List Numbered
reads_add t (Some (Group g)) (Some (Element q j)) used = as_number.Adds t g q j used ∷ []
reads_add t _ _ used = []

abbrev pub reads_look : ℕ → Option Stands → List Numbered
reads_look t (Some (Element q j)) = as_number.Awaits t q j ∷ []
reads_look t (Some (Group g)) = as_number.AwaitsAll t g ∷ []
reads_look t _ = []

abbrev pub reads_set : Bool → Option Stands → Objects → List Numbered
reads_set ok (Some (Element q j)) k = cond (is_among q k.ended) [] (as_number.Ends q ok ∷ [])
reads_set ok _ k = []

abbrev pub reads : Objects → ByObject → List Numbered
reads k (Reads t b c) = as_number.Reads t b c ∷ []
reads k (Writes t b c) = as_number.Writes t b c ∷ []
reads k (Allocs t b n) = as_number.Allocs t b n ∷ []
reads k (Creates t o kind) = reads_create t kind k
reads k (Adds t g x used) = reads_add t (slice_get k.stands g) (slice_get k.stands x) used
reads k (Launches t q) = as_number.Launches t q (making t k.stands - 1) ∷ []
reads k (Looks t o) = reads_look t (slice_get k.stands o)
reads k (Sets t o ok) = reads_set ok (slice_get k.stands o) k
reads k (Ends t root) = maybe [] (λ ok. as_number.Ends t ok ∷ []) root

-- What objects stand for, along a run.
abbrev pub objects : Reader ByObject Numbered
objects = record { Known = Objects; first = record { stands = []; groups = 0; ended = [] }; after = after; reads = reads }
