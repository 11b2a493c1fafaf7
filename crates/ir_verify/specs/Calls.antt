-- Which functions tasks call.
use Rattle.std.specs.Prelude.{◌≡◌, ◌<◌, ℕ, ◌||◌, Bool, true, false, List, [], ◌∷◌, ◌++◌, length, map, Option, Some, None, slice_get, slice_set, if◌then◌else◌}
use Rattle.ir_forms.specs.declared.ops.Attr.{Attr}
use Rattle.ir_forms.specs.declared.ops.Attr.TheVariants.{Callee}
use Rattle.op_table.specs.declared.kind.OpKind.{OpKind}
use Rattle.ir_forms.specs.declared.ops.Op.{Op, Op-F}
use Rattle.ir_forms.specs.declared.ops.Op.TheFolds.{fold-Op, fold-Region}
use Rattle.ir_forms.specs.declared.ops.Region.{Region, Region-F}
use Rattle.ir_forms.specs.declared.ops.Func.{Func}
use Rattle.ir_verify.specs.declared.calls.Call.{Call}
use Rattle.ir_verify.specs.declared.place.Nest.{Nest}
use Rattle.ir_verify.specs.declared.place.Nest.TheVariants.{InFunction}
use Rattle.ir_verify.specs.Breaks.{is_call}
use Rattle.ir_verify.specs.Forms.{form_of}
use Rattle.ir_verify.specs.Names.{first_named}
use Rattle.ir_verify.specs.Places.{nest_in}

-- ---- the calls of a function

-- a call stands in a task or in a parallel body
abbrev pub is_in_task : Nest → Bool
is_in_task InFunction = false
is_in_task _ = true

-- the place of the function that is named
abbrev pub callee_place : List Func → Attr → Option ℕ
callee_place funcs (Callee name) = first_named funcs name
callee_place funcs _ = None

abbrev pub call_to : Option ℕ → Nest → List Call
call_to None nest = []
call_to (Some callee) nest = record { callee = callee; in_task = is_in_task nest } ∷ []

-- the call that an operation of this kind, which carries this, is, if it names a function
abbrev pub call_of : List Func → OpKind → Attr → Nest → List Call
call_of funcs kind attr nest = if is_call (form_of kind) then call_to (callee_place funcs attr) nest else []

abbrev pub CallsOf : Type 0
CallsOf = Nest → List Call

abbrev pub all_calls : List CallsOf → Nest → List Call
all_calls [] nest = []
all_calls (f ∷ fs) nest = f nest ++ all_calls fs nest

module _ (funcs : List Func) where
  abbrev pub op_calls : Op-F CallsOf CallsOf → CallsOf
  op_calls layer nest = call_of funcs layer.kind layer.attr nest ++ all_calls layer.regions (nest_in layer.kind nest)

  abbrev pub region_calls : Region-F CallsOf CallsOf → CallsOf
  region_calls layer nest = all_calls layer.ops nest

  -- the calls of an operation that stands here, those in its regions too
  unfoldable pub calls_at : Op → Nest → List Call
  calls_at op nest = fold-Op CallsOf CallsOf op_calls region_calls op nest

  -- the calls in a region
  unfoldable pub calls_in : Region → Nest → List Call
  calls_in region nest = fold-Region CallsOf CallsOf op_calls region_calls region nest

  abbrev pub calls_along : List Op → Nest → List Call
  calls_along [] nest = []
  calls_along (op ∷ ops) nest = calls_at op nest ++ calls_along ops nest

  abbrev pub calls_held : List Region → Nest → List Call
  calls_held [] nest = []
  calls_held (region ∷ regions) nest = calls_in region nest ++ calls_held regions nest

-- all calls of a function
abbrev pub calls_of : List Func → Func → List Call
calls_of funcs f = calls_in funcs f.body InFunction

-- the calls of each function
abbrev pub graph_of : List Func → List (List Call)
graph_of funcs = map (calls_of funcs) funcs

-- ---- reachability

-- a call of the function at this place stands among its calls
pub record HasCall (graph : List (List Call)) (caller : ℕ) (call : Call) : Type 0 where
  pub calls : List Call
  pub at : ℕ
  pub of_caller : slice_get graph caller ≡ Some calls
  pub stands : slice_get calls at ≡ Some call

-- A task calls a function if a call in a task or a parallel body names it, or a call in a function that a task calls.
pub data IsReached (graph : List (List Call)) : ℕ → Type 0 where
  from_task : (caller : ℕ) (call : Call) → HasCall graph caller call → call.in_task ≡ true → IsReached graph call.callee
  through : (caller : ℕ) (call : Call) → HasCall graph caller call → IsReached graph caller → IsReached graph call.callee

abbrev pub IsTaskCalled : List Func → ℕ → Type 0
IsTaskCalled funcs k = IsReached (graph_of funcs) k

-- the marks say of each function whether a task calls it
pub record AreMarks (graph : List (List Call)) (marks : List Bool) : Type 0 where
  pub each : length marks ≡ length graph
  pub sound : (k : ℕ) → slice_get marks k ≡ Some true → IsReached graph k
  pub complete : (k : ℕ) → IsReached graph k → k < length graph → slice_get marks k ≡ Some true

-- ---- marking

abbrev pub is_unmarked : Option Bool → Bool
is_unmarked (Some false) = true
is_unmarked _ = false

abbrev pub is_marked : Option Bool → Bool
is_marked (Some true) = true
is_marked _ = false

-- the marks so far, and the marked functions whose calls are still to be followed
pub record Marked : Type 0 where
  pub marks : List Bool
  pub waiting : List ℕ

-- a function without a mark gets one, and waits
abbrev pub with_mark : ℕ → Marked → Marked
with_mark k m = if is_unmarked (slice_get m.marks k) then record { marks = slice_set m.marks k true; waiting = m.waiting ++ k ∷ [] } else m

-- what these calls name is marked: all of it, or what those in tasks and parallel bodies name
abbrev pub with_callees : Bool → List Call → Marked → Marked
with_callees all [] m = m
with_callees all (call ∷ calls) m = with_callees all calls (if all || call.in_task then with_mark call.callee m else m)
