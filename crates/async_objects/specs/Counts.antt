-- The counts of objects, by number, beside the objects: a list that is changed by a list of changes.
use Rattle.std.specs.Prelude.{ℕ, zero, suc, ◌+◌, ◌-◌, ◌==◌, ◌<◌, ◌&&◌, nat_lt, nat_le, Bool, true, cond, List, [], ◌∷◌, ◌++◌, map, length}
use Rattle.ir_forms.specs.declared.runs.ObjNo.{ObjNo}
use Rattle.async_objects.specs.declared.kinds.Kind.{Kind}
use Rattle.async_objects.specs.declared.kinds.Kind.TheVariants.{Group}
use Rattle.async_objects.specs.declared.kinds.State.{State}
use Rattle.async_objects.specs.declared.kinds.State.TheVariants.{Unset}
use Rattle.async_objects.specs.declared.object.Object.{Object}
use Rattle.async_objects.specs.Objects.{blank, object_at, put, one_if}

-- ---- counts by number; one that was never made has none

abbrev pub count_at : List ℕ → ℕ → ℕ
count_at [] o = 0
count_at (n ∷ counts) zero = n
count_at (n ∷ counts) (suc o) = count_at counts o

abbrev pub put_count : List ℕ → ℕ → ℕ → List ℕ
put_count [] zero n = n ∷ []
put_count [] (suc o) n = 0 ∷ put_count [] o n
put_count (m ∷ counts) zero n = n ∷ counts
put_count (m ∷ counts) (suc o) n = m ∷ put_count counts o n

-- an object is there where its count is at least 1
abbrev pub is_there : List ℕ → ObjNo → Bool
is_there counts o = nat_lt 0 (count_at counts o.0)

abbrev pub IsThere : List ℕ → ObjNo → Type 0
IsThere counts o = 0 < count_at counts o.0

-- how many are there
abbrev pub live : List ℕ → ℕ
live [] = 0
live (n ∷ counts) = live counts + one_if (nat_lt 0 n)

-- ---- changes

-- an object is made with this count, or its count grows or falls
pub record CountChange : Type 0 where
  pub object : ObjNo
  pub made : ℕ
  pub more : ℕ
  pub less : ℕ

abbrev pub made : ObjNo → ℕ → CountChange
made o n = record { object = o; made = n; more = 0; less = 0 }

abbrev pub more : ObjNo → ℕ → CountChange
more o n = record { object = o; made = 0; more = n; less = 0 }

abbrev pub less : ObjNo → ℕ → CountChange
less o n = record { object = o; made = 0; more = 0; less = n }

-- the count of the changed object, before it falls
abbrev pub raised : CountChange → List ℕ → ℕ
raised c counts = count_at counts c.object.0 + (c.made + c.more)

abbrev pub changed : CountChange → List ℕ → List ℕ
changed c counts = put_count counts c.object.0 (raised c counts - c.less)

-- these changes in turn
abbrev pub all_changed : List CountChange → List ℕ → List ℕ
all_changed [] counts = counts
all_changed (c ∷ cs) counts = all_changed cs (changed c counts)

-- no count falls below 0
abbrev pub can_change : List CountChange → List ℕ → Bool
can_change [] counts = true
can_change (c ∷ cs) counts = nat_le c.less (raised c counts) && can_change cs (changed c counts)

-- the objects whose counts come to 0, in order
abbrev pub freed : List CountChange → List ℕ → List ObjNo
freed [] counts = []
freed (c ∷ cs) counts = cond (raised c counts - c.less == 0) (c.object ∷ []) [] ++ freed cs (changed c counts)

-- what is left of the objects without these
abbrev pub without : List ObjNo → List Object → List Object
without [] objects = objects
without (o ∷ os) objects = without os (put objects o blank)

-- ---- the changes that calls make

-- a token or a value has a reference of its own, until it is set, beside its maker's
abbrev pub first_count : Kind → ℕ
first_count (Group size) = 1
first_count _ = 2

abbrev pub create_changes : Kind → List Object → List CountChange
create_changes kind objects = made (record { 0 = length objects }) (first_count kind) ∷ []

-- a group has a reference for each element that it waits for
abbrev pub joins : State → ObjNo → List CountChange
joins Unset group = more group 1 ∷ []
joins _ group = []

abbrev pub add_changes : ObjNo → ObjNo → List Object → List CountChange
add_changes element group objects = joins (object_at objects element).state group

-- a reference to each of these is dropped
abbrev pub all_less : List ObjNo → List CountChange
all_less os = map (λ o. less o 1) os

-- each group that waited drops its reference for the element, and the kept reference goes last
abbrev pub set_changes : ObjNo → List Object → List CountChange
set_changes o objects = all_less (object_at objects o).memberships ++ less o 1 ∷ []
