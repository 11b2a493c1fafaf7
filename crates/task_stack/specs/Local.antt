-- The local step of a task's stack.
use Rattle.std.specs.Prelude.{◌≡◌, ℕ, cond, nat_eq, nat_lt, Bool, true, false, List, [], ◌∷◌, Option, Some, None, slice_get}
use Rattle.low_forms.specs.declared.code.LowAttr.{LowAttr}
use Rattle.low_forms.specs.declared.code.LowAttr.TheVariants.{Callee}
use Rattle.low_forms.specs.declared.code.Instr.{Instr}
use Rattle.low_forms.specs.declared.code.Target.{Target}
use Rattle.low_forms.specs.declared.code.Term.{Term}
use Rattle.low_forms.specs.declared.code.LowFunc.{LowFunc}
use Rattle.low_forms.specs.declared.code.LowModule.{LowModule}
use Rattle.low_forms.specs.Owns.{count_of}
use Rattle.low_forms.specs.Places.{Remaining, remaining}
use Rattle.source_meaning.specs.Values.{maybe}
use Rattle.task_stack.specs.declared.effects.Effect.{Effect}
use Rattle.task_stack.specs.declared.effects.Effect.TheVariants as effect
use Rattle.task_stack.specs.declared.effects.Number as one
use Rattle.task_stack.specs.declared.frames.Place.{Place}
use Rattle.task_stack.specs.declared.frames.Frame.{Frame}
use Rattle.task_stack.specs.declared.frames.Saved.{Saved}
use Rattle.task_stack.specs.declared.frames.Saved.TheVariants as saved
use Rattle.task_stack.specs.declared.steps.CountStep.{CountStep}
use Rattle.async_objects.specs.declared.kinds.Val.{Val}
use Rattle.async_objects.specs.declared.kinds.Val.TheVariants.{Number, Object}
use Rattle.task_stack.specs.Effects.{effect_of}
use Rattle.task_stack.specs.Registers.{values_at, value, number}
use Rattle.task_stack.specs.Numbers.{computed}
use Rattle.task_stack.specs.declared.steps.LocalStep.{LocalStep}
use Rattle.task_stack.specs.declared.steps.LocalStep.TheVariants as step
use Rattle.task_stack.specs.Frames.{Stack, most_frames, depth, Way, behind, into, went, new_frame, saving, settled}

-- a step is taken, with what it counts; or the next instruction is shared; or its needs don't hold; or it is a call and
-- there are as many frames as may be
pub data Local : Type 0 where
  Done : (after : Stack) (counts : Option CountStep) → Local
  Shared : Local
  Stuck : Local
  Deep : Local

-- ---- where a frame stands

pub record Standing : Type 0 where
  pub func : LowFunc
  -- what remains of the block, from the next instruction on
  pub rest : Remaining

-- none where the function or the place isn't there
abbrev pub standing_in : Place → LowFunc → Option Standing
standing_in p f = maybe None (λ rest. Some (record { func = f; rest = rest })) (remaining f p.block.0 p.at)

abbrev pub standing : LowModule → Place → Option Standing
standing code p = maybe None (standing_in p) (slice_get code.funcs p.func.0)

-- ---- steps

-- the frame that works is this one now
abbrev pub with_top : Stack → Frame → Stack
with_top s frame = record { is_root = s.is_root; top = frame; below = s.below }

-- it goes on this way, with these values
abbrev pub goes : Way → List Val → Stack → Local
goes way vs s = Done (with_top s (went way vs s.top)) None

-- what the operands hold
abbrev pub operands : Stack → Instr → List Val
operands s i = values_at s.top.current.regs i.operands

abbrev pub computes : one.Number → LowFunc → Instr → Stack → Local
computes n f i s = maybe Stuck (λ v. goes (behind i.results) (v ∷ []) s) (computed n f i (operands s i))

-- a frame more, where there is room for one
abbrev pub pushes : Bool → Frame → Stack → Local
pushes room frame s = cond room (Done (record { is_root = s.is_root; top = frame; below = s.top ∷ s.below }) None) Deep

-- a call with these arguments; the frame that calls waits at the call
abbrev pub calls : Bool → LowModule → LowAttr → List Val → Stack → Local
calls room code (Callee n) vs s = maybe Stuck (λ f. pushes room (new_frame n f vs) s) (slice_get code.funcs n.0)
calls room code _ vs s = Stuck

-- a number is no object, and isn't counted
abbrev pub count_step : Bool → ℕ → Val → Option CountStep
count_step adds n (Object o) = Some (record { object = o; adds = adds; n = n })
count_step adds n _ = None

abbrev pub counts : Bool → Instr → Stack → Local
counts adds i s = Done (with_top s (went (behind []) [] s.top)) (count_step adds (count_of i.attr) (value (operands s i) 0))

-- to one of the targets, with what its arguments hold
abbrev pub jumps : LowFunc → Option Target → Stack → Local
jumps f target s = maybe Stuck (λ t. goes (into f t.block) (values_at s.top.current.regs t.args) s) target

-- which target a condition takes
abbrev pub branch : ℕ → ℕ
branch n = cond (nat_eq n 0) 1 0

-- a frame that was copied goes on at the first target, and its copy at the second
abbrev pub side : Saved → Option ℕ
side saved.Nothing = None
side (saved.Kept copy) = Some 0
side saved.Taken = Some 0
side saved.Copied = Some 1

-- to the start of one of the targets
abbrev pub target_way : LowFunc → Term → ℕ → Option Way
target_way f t k = maybe None (λ target. Some (into f target.block)) (slice_get t.targets k)

abbrev pub suspends : LowFunc → Term → Stack → Local
suspends f t s = maybe Stuck (λ k. maybe Stuck (λ way. goes way [] (with_top s (settled s.top))) (target_way f t k)) (side s.top.saved)

-- ---- ends of frames

-- A frame that waits in the call of a coroutine goes on behind it; one that waits in another call goes on at the call's
-- first target, or where the called frame fails, at the second.
abbrev pub behind_call : Effect → Instr → Option Way
behind_call effect.Launches i = Some (behind i.results)
behind_call _ i = None

abbrev pub way_behind : Bool → Instr → Option Way
way_behind fails i = cond fails None (behind_call (effect_of i.kind) i)

abbrev pub after_call : Effect → ℕ → LowFunc → Term → Option Way
after_call effect.Calls k f t = target_way f t k
after_call _ k f t = None

abbrev pub way_after : Bool → LowFunc → Term → Option Way
way_after fails f t = after_call (effect_of t.instr.kind) (cond fails 1 0) f t

abbrev pub way_in : Bool → LowFunc → List Instr → Term → Option Way
way_in fails f [] t = way_after fails f t
way_in fails f (i ∷ is) t = way_behind fails i

abbrev pub way_on : Bool → LowModule → Place → Option Way
way_on fails code p = maybe None (λ st. way_in fails st.func st.rest.instrs st.rest.term) (standing code p)

-- The frame that works is done, and the one that called it goes on with these values. The end of the root's last frame is
-- shared.
abbrev pub leaves : Bool → LowModule → List Val → List Frame → Stack → Local
leaves fails code vs [] s = cond s.is_root Shared Stuck
leaves fails code vs (caller ∷ below) s =
    maybe Stuck (λ way. Done (record { is_root = s.is_root; top = went way vs caller; below = below }) None) (way_on fails code caller.current.place)

-- ---- by the next instruction

abbrev pub inner_step : Effect → Bool → LowModule → LowFunc → Instr → Stack → Local
inner_step (effect.Computes n) room code f i s = computes n f i s
inner_step effect.Skips room code f i s = goes (behind i.results) [] s
inner_step effect.Launches room code f i s = calls room code i.attr (operands s i) s
inner_step effect.Saves room code f i s = Done (with_top s (saving i.results s.top)) None
inner_step effect.AddsReferences room code f i s = counts true i s
inner_step effect.DropsReferences room code f i s = counts false i s
inner_step effect.Shared room code f i s = Shared
inner_step _ room code f i s = Stuck

abbrev pub end_step : Effect → Bool → LowModule → LowFunc → Term → Stack → Local
end_step effect.Jumps room code f t s = jumps f (slice_get t.targets 0) s
end_step effect.Branches room code f t s = jumps f (slice_get t.targets (branch (number (operands s t.instr) 0))) s
end_step effect.Calls room code f t s = calls room code t.instr.attr (operands s t.instr) s
end_step effect.Returns room code f t s = leaves false code (operands s t.instr) s.below s
end_step effect.Fails room code f t s = leaves true code (Number (number (operands s t.instr) 0) ∷ []) s.below s
end_step effect.Suspends room code f t s = suspends f t s
end_step effect.Shared room code f t s = Shared
end_step _ room code f t s = Stuck

abbrev pub step_in : Bool → LowModule → LowFunc → List Instr → Term → Stack → Local
step_in room code f [] t s = end_step (effect_of t.instr.kind) room code f t s
step_in room code f (i ∷ is) t s = inner_step (effect_of i.kind) room code f i s

abbrev pub step_by : Bool → LowModule → Stack → Local
step_by room code s = maybe Stuck (λ st. step_in room code st.func st.rest.instrs st.rest.term s) (standing code s.top.current.place)

-- whether there may be a frame more
abbrev pub has_room : Stack → Bool
has_room s = nat_lt (depth s) most_frames

-- the local step, under the limit on frames
abbrev pub local_step : LowModule → Stack → Local
local_step code s = step_by (has_room s) code s

-- without that limit
abbrev pub free_step : LowModule → Stack → Local
free_step code s = step_by true code s

-- the answer of a step, after which the stack is the second of these, is the local step of the first
abbrev pub IsLocal : LocalStep → Stack → Stack → Local → Type 0
IsLocal (step.Done counts) old new l = l ≡ Done new counts
IsLocal step.Shared old new l = (l ≡ Shared) × (new ≡ old)
IsLocal step.Stuck old new l = (l ≡ Stuck) × (new ≡ old)
IsLocal step.Deep old new l = (l ≡ Deep) × (new ≡ old)
