-- The registers of a frame, by number, and the parts of a value.
use Rattle.std.specs.Prelude.{ℕ, zero, suc, List, [], ◌∷◌, map, take, slice_get}
use Rattle.low_forms.specs.declared.code.Reg.{Reg}
use Rattle.source_meaning.specs.Values.{or_else}
use Rattle.async_objects.specs.declared.kinds.Val.{Val}
use Rattle.async_objects.specs.declared.kinds.Val.TheVariants.{Number, Buffer}

-- what a register holds that was given no value
abbrev pub nothing : Val
nothing = Number 0

-- what the register of a number holds
abbrev pub held : List Val → ℕ → Val
held regs k = or_else nothing (slice_get regs k)

-- with this value in the register; those before it that were given none hold nothing
abbrev pub put : List Val → ℕ → Val → List Val
put [] zero v = v ∷ []
put [] (suc k) v = nothing ∷ put [] k v
put (x ∷ regs) zero v = v ∷ regs
put (x ∷ regs) (suc k) v = x ∷ put regs k v

-- with these values in these registers, one after another
abbrev pub bind : List Reg → List Val → List Val → List Val
bind [] vs regs = regs
bind (r ∷ rs) [] regs = regs
bind (r ∷ rs) (v ∷ vs) regs = bind rs vs (put regs r.0 v)

-- what these registers hold
abbrev pub values_at : List Val → List Reg → List Val
values_at regs rs = map (λ r. held regs r.0) rs

-- ---- parts of a value; another kind of value has an empty part

-- the number
abbrev pub number_in : Val → ℕ
number_in (Number n) = n
number_in _ = 0

-- the sizes of a buffer
abbrev pub dims_in : Val → List ℕ
dims_in (Buffer number rank dims) = take rank dims
dims_in _ = []

-- one of the values; one that is missing is nothing
abbrev pub value : List Val → ℕ → Val
value vs i = or_else nothing (slice_get vs i)

-- one of them as a number
abbrev pub number : List Val → ℕ → ℕ
number vs i = number_in (value vs i)
