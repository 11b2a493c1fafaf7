-- A call with room for a frame more.
use Rattle.std.proofs.Common.{◌≡◌, ◌<◌, ◌+◌, Bool, true, List, [], ◌∷◌, ◌++◌, length, reverse, nat_lt, Some, None, slice_get, refl, arith}
use Rattle.std.proofs.lemmas.Bool.Decides.{nat_tests}
use Rattle.std.proofs.lemmas.List.{length-reverse}
use Rattle.ir_forms.specs.declared.runs.FuncNo.{FuncNo}
use Rattle.low_forms.specs.declared.code.LowAttr.{LowAttr}
use Rattle.low_forms.specs.declared.code.LowAttr.TheVariants.{Callee}
use Rattle.low_forms.specs.declared.code.LowFunc.{LowFunc}
use Rattle.low_forms.specs.declared.code.LowModule.{LowModule}
use Rattle.async_objects.specs.declared.kinds.Val.{Val}
use Rattle.task_stack.specs.declared.frames.Frame.{Frame}
use Rattle.task_stack.specs.Frames.{Stack, new_frame}
use Rattle.task_stack.specs.Local.{calls, has_room, Done}
use Rattle.task_stack.proofs.Standings.{reverse_snoc}

-- the stack as it is seen
abbrev pub seen : Bool → Frame → List Frame → Stack
seen root top xs = record { is_root = root; top = top; below = reverse xs }

pub call_done : (code : LowModule) (a : LowAttr) (n : FuncNo) (f : LowFunc) (vs : List Val) (s : Stack) (root : Bool) (top new : Frame) (xs ys : List Frame) →
    s ≡ seen root top xs → a ≡ Callee n → slice_get code.funcs n.0 ≡ Some f → length xs + 1 < 1024 → new ≡ new_frame n f vs → ys ≡ xs ++ top ∷ [] →
    calls (has_room s) code a vs s ≡ Done (seen root new ys) None
call_done code a n f vs s root top new xs ys is_seen is there fits made pushed =
    let room : nat_lt (length (reverse xs) + 1) 1024 ≡ true = rw (length-reverse xs) (grind (arith, nat_tests, fits)) in
    rw (is_seen, is, there, room, made, pushed, reverse_snoc xs top) refl
