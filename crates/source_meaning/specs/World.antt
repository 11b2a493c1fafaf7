-- What tasks share: buffers, groups, and the ends of tasks. What it answers to an action, how the action changes it, and
-- where it can't be taken yet.
use Rattle.std.specs.Prelude.{ℕ, zero, suc, ◌+◌, nat_lt, nat_le, cond, Bool, true, false, ◌&&◌, List, [], ◌∷◌, ◌++◌, map, length, replicate, Option, Some, None, is_some, slice_get, slice_set}
use Rattle.std.specs.List.{find}
use Rattle.std.specs.Option.{option_map}
use Rattle.ir_forms.specs.declared.names.Action.{Action}
use Rattle.ir_forms.specs.declared.names.Action.TheVariants as act
use Rattle.ir_forms.specs.declared.names.ElementName.{ElementName}
use Rattle.ir_forms.specs.declared.names.ElementName.TheVariants.{Token, Value}
use Rattle.ir_forms.specs.declared.names.MadeName.{MadeName}
use Rattle.ir_forms.specs.declared.names.MadeName.TheVariants.{Made}
use Rattle.source_meaning.specs.declared.values.Val.{Val}
use Rattle.source_meaning.specs.declared.values.Val.TheVariants.{Number, Memory, Element, Group}
use Rattle.ir_forms.specs.Names.{Path, launched_by, iteration_of, same_path, same_made, maker}
use Rattle.source_meaning.specs.Values.{nothing, maybe, or_else}
use Rattle.ir_forms.specs.Shapes.{product}
use Rattle.source_meaning.specs.Tasks.{Ask, Reads, Writes, Allocs, Creates, Adds, Launches, Enters, JoinsAll, AwaitsOne, AwaitsAll, Answer, Outcome, Gave}

-- a buffer
pub record Store : Type 0 where
  pub name : MadeName
  pub cells : List ℕ

-- a group: its size, and its elements in the order in which they were added
pub record Gathering : Type 0 where
  pub name : MadeName
  pub size : ℕ
  pub members : List ElementName

-- the buffers, how many cells there are in all, the groups, and the tasks that have ended with their outcomes
pub record World : Type 0 where
  pub buffers : List Store
  pub used : ℕ
  pub groups : List Gathering
  pub ends : List (Path × Outcome)

-- ---- what is there

-- the cells of a buffer
abbrev pub cells_in : World → MadeName → List ℕ
cells_in w b = maybe [] (λ s. s.cells) (find (λ s. same_made s.name b) w.buffers)

-- one of them
abbrev pub cell : World → MadeName → ℕ → ℕ
cell w b i = or_else 0 (slice_get (cells_in w b) i)

-- the group of this name
abbrev pub group_at : World → MadeName → Option Gathering
group_at w name = find (λ g. same_made g.name name) w.groups

-- its elements
abbrev pub members : World → MadeName → List ElementName
members w g = maybe [] (λ h. h.members) (group_at w g)

-- its size
abbrev pub size : World → MadeName → ℕ
size w g = maybe 0 (λ h. h.size) (group_at w g)

-- the outcome of a task, if it has ended
abbrev pub outcome : World → Path → Option Outcome
outcome w p = option_map (λ e. e.1) (find (λ e. same_path e.0 p) w.ends)

-- the task ended without failure
abbrev pub is_good : Option Outcome → Bool
is_good (Some (Gave vs)) = true
is_good _ = false

-- each element passes the test
abbrev pub all_of : {X : Type 0} → (X → Bool) → List X → Bool
all_of test [] = true
all_of test (x ∷ xs) = cond (test x) (all_of test xs) false

-- all numbers below n have the property
abbrev pub all_below : (ℕ → Bool) → ℕ → Bool
all_below test zero = true
all_below test (suc n) = cond (test n) (all_below test n) false

-- the numbers from k on, n of them
abbrev pub numbers_from : ℕ → ℕ → List ℕ
numbers_from k zero = []
numbers_from k (suc n) = k ∷ numbers_from (k + 1) n

-- ---- what is answered

-- an object that isn't set counts as in error, which no run meets
abbrev pub awaited : ElementName → Option Outcome → Answer
awaited (Token p) (Some (Gave vs)) = Some []
awaited (Value p j) (Some (Gave vs)) = Some (or_else nothing (slice_get vs j) ∷ [])
awaited x _ = None

-- nothing, or the error
abbrev pub unless_failed : Bool → Answer
unless_failed good = cond good (Some []) None

-- the token and the values of a task
abbrev pub elements_of : Path → ℕ → List Val
elements_of q r = Element (Token q) ∷ map (λ j. Element (Value q j)) (numbers_from 0 r)

-- What the action that a task takes after k others answers.
abbrev pub answer : World → Path → ℕ → Ask → Answer
answer w p k (Reads b i) = Some (Number (cell w b i) ∷ [])
answer w p k (Writes b i n) = Some []
answer w p k (Allocs dims) = Some (Memory (Made p (k + 1)) dims ∷ [])
answer w p k (Creates n) = Some (Group (Made p (k + 1)) ∷ [])
answer w p k (Adds g x used) = Some (Number (length (members w g)) ∷ [])
answer w p k (Launches t r) = Some (elements_of (launched_by p (k + 1)) r)
answer w p k (Enters loop) = Some []
answer w p k (JoinsAll loop) = unless_failed (all_below (λ i. is_good (outcome w (iteration_of p k i))) loop.total)
answer w p k (AwaitsOne x) = awaited x (outcome w (maker x))
answer w p k (AwaitsAll g) = unless_failed (all_of (λ x. is_good (outcome w (maker x))) (members w g))

-- ---- how the shared state changes

-- a buffer with a cell written
abbrev pub written : MadeName → ℕ → ℕ → Store → Store
written b i n s = cond (same_made s.name b) (record s { cells = slice_set s.cells i n }) s

-- a group with one more element
abbrev pub joined_by : MadeName → ElementName → Gathering → Gathering
joined_by name x g = cond (same_made g.name name) (record g { members = g.members ++ x ∷ [] }) g

-- how such an action changes what is shared
abbrev pub after : World → Path → ℕ → Ask → World
after w p k (Writes b i n) = record w { buffers = map (written b i n) w.buffers }
after w p k (Allocs dims) = record w {
  buffers = record { name = Made p (k + 1); cells = replicate (product dims) 0 } ∷ w.buffers;
  used = w.used + product dims;
}
after w p k (Creates n) = record w { groups = record { name = Made p (k + 1); size = n; members = [] } ∷ w.groups }
after w p k (Adds g x used) = record w { groups = map (joined_by g x) w.groups }
after w p k _ = w

-- the task has ended so
abbrev pub ended : World → Path → Outcome → World
ended w p o = record w { ends = (p, o) ∷ w.ends }

-- ---- where an action can be taken

-- the task has ended
abbrev pub has_ended : World → Path → Bool
has_ended w p = is_some (outcome w p)

-- whether the action that a task takes after k others can be taken
abbrev pub enabled : World → Path → ℕ → Ask → Bool
enabled w p k (Adds g x used) = nat_lt (length (members w g)) (size w g)
enabled w p k (AwaitsOne x) = has_ended w (maker x)
enabled w p k (AwaitsAll g) = nat_le (size w g) (length (members w g)) && all_of (λ x. has_ended w (maker x)) (members w g)
enabled w p k (JoinsAll loop) = all_below (λ i. has_ended w (iteration_of p k i)) loop.total
enabled w p k _ = true

-- ---- what is shown

-- the action that an asking shows
abbrev pub shown : Ask → Action
shown (Reads b i) = act.Read b i
shown (Writes b i n) = act.Write b i
shown (Allocs dims) = act.Alloc (product dims)
shown (Creates n) = act.Create n
shown (Adds g x used) = act.Add g x used
shown (Launches t r) = act.Launch r
shown (Enters loop) = act.Enter loop.total loop.split
shown (JoinsAll loop) = act.JoinAll
shown (AwaitsOne x) = act.Await x
shown (AwaitsAll g) = act.AwaitAll g

-- the action that an end shows
abbrev pub shown_end : Outcome → Action
shown_end o = act.End (is_good (Some o))
