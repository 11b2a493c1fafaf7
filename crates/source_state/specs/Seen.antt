-- How what is shared is seen as the definitions' world, and when two worlds are alike to all tasks.
use Rattle.std.specs.Prelude.{◌≡◌, ℕ, ◌++◌, List, [], ◌∷◌, map, Option}
use Rattle.std.specs.List.{find}
use Rattle.std.specs.declared.vec.Vec.{Vec}
use Rattle.std.specs.Option.{option_map}
use Rattle.ir_forms.specs.declared.names.ElementName.{ElementName}
use Rattle.ir_forms.specs.declared.names.MadeName.{MadeName}
use Rattle.ir_forms.specs.declared.names.MadeName.TheVariants as made
use Rattle.ir_forms.specs.Names.{Path, same_path, same_made}
use Rattle.source_meaning.specs.Values.{maybe}
use Rattle.source_meaning.specs.Tasks.{Outcome, Gave, FailedAt}
use Rattle.source_meaning.specs.World.{Store, Gathering, World, cells_in, group_at, outcome}
use Rattle.source_state.specs.declared.ends.Ended.{Ended}
use Rattle.source_state.specs.declared.ends.Ended.TheVariants as ended
use Rattle.source_state.specs.declared.groups.Group.{Group}
use Rattle.source_state.specs.declared.names.Name.{Name}
use Rattle.source_state.specs.declared.names.Name.TheVariants as name

-- two worlds answer each look at a buffer, a group or a task alike
pub record Alike (v w : World) : Type 0 where
  pub cells : (b : MadeName) → cells_in v b ≡ cells_in w b
  pub used : v.used ≡ w.used
  pub groups : (g : MadeName) → group_at v g ≡ group_at w g
  pub ends : (p : Path) → outcome v p ≡ outcome w p

-- ---- the code's parts as those of a world

-- the name of a key
abbrev pub made_of : Name → MadeName
made_of (name.Argument j) = made.Argument j
made_of (name.Made task j) = made.Made task.items j

-- a buffer
abbrev pub store_of : Name × List ℕ → Store
store_of e = record { name = made_of e.0; cells = e.1 }

-- a group
abbrev pub gathering_of : Name × Group → Gathering
gathering_of e = record { name = made_of e.0; size = e.1.size; members = e.1.members }

-- how a task ended
abbrev pub outcome_of : Ended → Outcome
outcome_of (ended.Gave vs) = Gave vs
outcome_of (ended.FailedAt at) = FailedAt at

-- the tasks that have ended
abbrev pub ends_of : {Z : Type 0} → List (Vec ℕ Z × Ended) → List (Path × Outcome)
ends_of es = map (λ e. (e.0.items, outcome_of e.1)) es

-- ---- what is there of a name

-- the cells of a buffer among these
abbrev pub found : List Store → MadeName → List ℕ
found stores b = maybe [] (λ s. s.cells) (find (λ s. same_made s.name b) stores)

-- among these, and where it isn't there, these
abbrev pub found_before : List Store → MadeName → List ℕ → List ℕ
found_before stores b cells = maybe cells (λ s. s.cells) (find (λ s. same_made s.name b) stores)

-- among those of the code
abbrev pub cells_of : List (Name × List ℕ) → MadeName → List ℕ
cells_of es b = found (map store_of es) b

-- a group
abbrev pub group_of : List (Name × Group) → MadeName → Option Gathering
group_of es name = find (λ g. same_made g.name name) (map gathering_of es)

-- a group with one more element
abbrev pub more : ElementName → Gathering → Gathering
more x g = record g { members = g.members ++ x ∷ [] }

-- the end of a task, if it has ended
abbrev pub end_of : List (Path × Outcome) → Path → Option Outcome
end_of es p = option_map (λ e. e.1) (find (λ e. same_path e.0 p) es)
