-- Values, and the list of those that a function's activation has so far.
use Rattle.std.specs.Prelude.{ℕ, zero, suc, List, [], ◌∷◌, map, Option, Some, None, slice_get}
use Rattle.ir_forms.specs.declared.ops.ValueNo.{ValueNo}
use Rattle.ir_forms.specs.declared.names.ElementName.{ElementName}
use Rattle.ir_forms.specs.declared.names.MadeName.{MadeName}
use Rattle.ir_forms.specs.declared.names.MadeName.TheVariants.{Argument}
use Rattle.source_meaning.specs.declared.values.Val.{Val}
use Rattle.source_meaning.specs.declared.values.Val.TheVariants.{Number, Memory, Element, Group}

-- what stands for a value that there isn't
abbrev pub nothing : Val
nothing = Number 0

-- what is made of a thing, or this where there is none
abbrev pub maybe : {X Y : Type 0} → Y → (X → Y) → Option X → Y
maybe d f None = d
maybe d f (Some x) = f x

-- the thing, or this where there is none
abbrev pub or_else : {X : Type 0} → X → Option X → X
or_else d o = maybe d (λ x. x) o

-- the values by their numbers
abbrev pub Env : Type 0
Env = List Val

-- the value of a number; one that was given none is nothing
abbrev pub named : Env → ℕ → Val
named env k = or_else nothing (slice_get env k)

-- with this value in the place of its number
abbrev pub put : Env → ℕ → Val → Env
put [] zero v = v ∷ []
put [] (suc k) v = nothing ∷ put [] k v
put (x ∷ env) zero v = v ∷ env
put (x ∷ env) (suc k) v = x ∷ put env k v

-- these values under these names, one after another
abbrev pub bind : List ValueNo → List Val → Env → Env
bind xs [] env = env
bind [] (v ∷ vs) env = env
bind (x ∷ xs) (v ∷ vs) env = bind xs vs (put env x.0 v)

-- the values of these names
abbrev pub values_at : Env → List ValueNo → List Val
values_at env xs = map (λ x. named env x.0) xs

-- ---- parts of a value; another kind of value has an empty part

-- the number
abbrev pub number_in : Val → ℕ
number_in (Number n) = n
number_in _ = 0

-- the buffer's name
abbrev pub buffer_in : Val → MadeName
buffer_in (Memory b dims) = b
buffer_in _ = Argument 0

-- its sizes
abbrev pub dims_in : Val → List ℕ
dims_in (Memory b dims) = dims
dims_in _ = []

-- the token or value
abbrev pub element_in : Val → Option ElementName
element_in (Element x) = Some x
element_in _ = None

-- the group's name
abbrev pub group_in : Val → MadeName
group_in (Group g) = g
group_in _ = Argument 0
