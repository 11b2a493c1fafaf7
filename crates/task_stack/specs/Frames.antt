-- The stack of one task: its frames, each with its kept copy. What a frame does that sees itself alone.
use Rattle.std.specs.Prelude.{ℕ, ◌+◌, Bool, true, false, List, [], ◌∷◌, length, Option, Some, None}
use Rattle.ir_forms.specs.declared.runs.FuncNo.{FuncNo}
use Rattle.low_forms.specs.declared.code.Reg.{Reg}
use Rattle.low_forms.specs.declared.code.BlockNo.{BlockNo}
use Rattle.low_forms.specs.declared.code.LowFunc.{LowFunc}
use Rattle.low_forms.specs.Registers.{block_at}
use Rattle.low_forms.specs.Owns.{params_of}
use Rattle.task_stack.specs.declared.frames.Place.{Place}
use Rattle.task_stack.specs.declared.frames.Activation.{Activation}
use Rattle.task_stack.specs.declared.frames.Frame.{Frame}
use Rattle.task_stack.specs.declared.frames.Saved.TheVariants.{Nothing, Kept, Copied}
use Rattle.async_objects.specs.declared.kinds.Val.{Val}
use Rattle.async_objects.specs.declared.kinds.Val.TheVariants.{Number}
use Rattle.task_stack.specs.Registers.{bind}

pub record Stack : Type 0 where
  -- whether it is the root's
  pub is_root : Bool
  -- the frame that works; the others wait in a call, the nearest first
  pub top : Frame
  pub below : List Frame

-- a task has at most so many frames
abbrev pub most_frames : ℕ
most_frames = 1024

abbrev pub depth : Stack → ℕ
depth s = length s.below + 1

-- how a frame goes on: which registers take the values that come to it, and the block at whose start it then stands, or
-- none where it stands behind its instruction
pub record Way : Type 0 where
  pub regs : List Reg
  pub block : Option BlockNo

-- behind an instruction, with its results
abbrev pub behind : List Reg → Way
behind rs = record { regs = rs; block = None }

-- into a block, with its parameters
abbrev pub into : LowFunc → BlockNo → Way
into f b = record { regs = params_of (block_at f b); block = Some b }

-- where a frame stands after that
abbrev pub place_after : Option BlockNo → Place → Place
place_after None p = record { func = p.func; block = p.block; at = p.at + 1 }
place_after (Some b) p = record { func = p.func; block = b; at = 0 }

abbrev pub advanced : Way → List Val → Activation → Activation
advanced way vs a = record { place = place_after way.block a.place; regs = bind way.regs vs a.regs }

abbrev pub went : Way → List Val → Frame → Frame
went way vs frame = record { current = advanced way vs frame.current; saved = frame.saved }

-- a new frame of a function
abbrev pub new_frame : FuncNo → LowFunc → List Val → Frame
new_frame n f vs = record {
  current = record { place = record { func = n; block = record { 0 = 0 }; at = 0 }; regs = bind f.params vs [] };
  saved = Nothing;
}

-- The frame keeps a copy of itself. Frame and copy have the save's result, which is 0; the copy stands behind what
-- follows the save, at the suspend.
abbrev pub saving : List Reg → Frame → Frame
saving rs frame =
    let after : Activation = advanced (behind rs) (Number 0 ∷ []) frame.current in
    record { current = after; saved = Kept (advanced (behind []) [] after) }

-- with nothing left of a save
abbrev pub settled : Frame → Frame
settled frame = record { current = frame.current; saved = Nothing }

-- ---- where stacks begin

-- the root's, in a function with these values of its parameters
abbrev pub root_stack : FuncNo → LowFunc → List Val → Stack
root_stack n f vs = record { is_root = true; top = new_frame n f vs; below = [] }

-- that of a task which is a kept copy
abbrev pub copied_stack : Activation → Stack
copied_stack copy = record { is_root = false; top = record { current = copy; saved = Copied }; below = [] }
