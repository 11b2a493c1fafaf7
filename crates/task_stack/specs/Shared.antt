-- What shared steps see of a stack, and do to it.
use Rattle.std.specs.Prelude.{◌≡◌, List, [], ◌∷◌, Option, Some, None}
use Rattle.low_forms.specs.declared.code.Reg.{Reg}
use Rattle.low_forms.specs.declared.code.Instr.{Instr}
use Rattle.low_forms.specs.declared.code.Term.{Term}
use Rattle.low_forms.specs.declared.code.LowFunc.{LowFunc}
use Rattle.low_forms.specs.declared.code.LowModule.{LowModule}
use Rattle.source_meaning.specs.Values.{maybe}
use Rattle.async_objects.specs.declared.kinds.AddError.{AddError}
use Rattle.async_objects.specs.declared.kinds.AddError.TheVariants as add_error
use Rattle.async_objects.specs.declared.kinds.CreateError.{CreateError}
use Rattle.async_objects.specs.declared.kinds.CreateError.TheVariants as create_error
use Rattle.async_objects.specs.declared.kinds.Kind.TheVariants.{Group}
use Rattle.async_objects.specs.declared.kinds.Val.{Val}
use Rattle.async_objects.specs.declared.object.Object.{Object}
use Rattle.async_objects.specs.Counts.{live}
use Rattle.async_objects.specs.Tables.{Table}
use Rattle.task_stack.specs.declared.frames.Activation.{Activation}
use Rattle.task_stack.specs.declared.frames.Saved.{Saved}
use Rattle.task_stack.specs.declared.frames.Saved.TheVariants as saved
use Rattle.task_stack.specs.Frames.{Stack, behind, went}
use Rattle.task_stack.specs.Local.{standing, with_top}

-- ---- the next instruction

pub record Next : Type 0 where
  pub func : LowFunc
  pub instr : Instr

abbrev pub first_of : List Instr → Term → Instr
first_of [] t = t.instr
first_of (i ∷ is) t = i

-- none where the working frame stands at no place of the code
abbrev pub next_of : LowModule → Stack → Option Next
next_of code stack =
    maybe None (λ st. Some (record { func = st.func; instr = first_of st.rest.instrs st.rest.term })) (standing code stack.top.current.place)

-- ---- how a stack goes on

-- behind its instruction, with these values in these registers
abbrev pub moved : List Reg → List Val → Stack → Stack
moved rs vs stack = with_top stack (went (behind rs) vs stack.top)

-- behind its instruction
abbrev pub passed : Stack → Stack
passed stack = moved [] [] stack

-- ---- kept copies

abbrev pub kept_in : Saved → Option Activation
kept_in (saved.Kept copy) = Some copy
kept_in _ = None

-- that of the working frame
abbrev pub kept : Stack → Option Activation
kept stack = kept_in stack.top.saved

-- its copy was taken to be a task, and it is behind its instruction
abbrev pub resumed : Stack → Stack
resumed stack = passed (with_top stack (record { current = stack.top.current; saved = saved.Taken }))

-- the working frame becomes the copy
abbrev pub becomes : Activation → Stack → Stack
becomes copy stack = with_top stack (record { current = copy; saved = saved.Copied })

-- ---- what a refusal says; want of memory says nothing

-- as many objects are there as may be
abbrev pub CreateRefusal : CreateError → Table → Type 0
CreateRefusal (create_error.ObjectsFull n) t = (n ≡ live t.counts) × (live t.counts ≡ t.limit)
CreateRefusal create_error.OutOfMemory t = Unit {0}

-- the group has as many elements as its size
abbrev pub AddRefusal : AddError → Object → Type 0
AddRefusal (add_error.GroupFull size) g = (g.kind ≡ Group size) × (g.members.added ≡ size)
AddRefusal add_error.OutOfMemory g = Unit {0}
