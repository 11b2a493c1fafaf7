-- What a step is, by what its instruction does.
use Rattle.std.proofs.Common.{◌≡◌, Bool, true, false, List, [], ◌∷◌, cond, Option, Some, None, slice_get, refl}
use Rattle.low_forms.specs.declared.code.LowAttr.{LowAttr}
use Rattle.low_forms.specs.declared.code.LowAttr.TheVariants as attr
use Rattle.low_forms.specs.declared.code.Instr.{Instr}
use Rattle.low_forms.specs.declared.code.Target.{Target}
use Rattle.low_forms.specs.declared.code.Term.{Term}
use Rattle.low_forms.specs.declared.code.LowFunc.{LowFunc}
use Rattle.low_forms.specs.declared.code.LowModule.{LowModule}
use Rattle.source_meaning.specs.Values.{maybe}
use Rattle.async_objects.specs.declared.kinds.Val.{Val}
use Rattle.task_stack.specs.declared.effects.Effect.{Effect}
use Rattle.task_stack.specs.declared.effects.Effect.TheVariants as effect
use Rattle.task_stack.specs.declared.effects.Number as one
use Rattle.task_stack.specs.declared.frames.Frame.{Frame}
use Rattle.task_stack.specs.Numbers.{computed}
use Rattle.task_stack.specs.Frames.{Stack, new_frame}
use Rattle.task_stack.specs.Local.{Local, Shared, Stuck, operands, computes, calls, jumps, suspends, leaves, pushes, side, target_way, way_on, inner_step, end_step}
use Rattle.task_stack.specs.Ahead.{is_shared, counted, inner_shared, end_shared, inner_counts, root_ends}

-- a step that is taken, or stuck, and counts nothing
abbrev pub Plain : Local → Type 0
Plain l = (is_shared l ≡ false) × (counted l ≡ None)

plain_maybe : {X : Type 0} (o : Option X) (f : X → Local) → ((x : X) → Plain (f x)) → Plain (maybe Stuck f o)
plain_maybe None f h = (refl, refl)
plain_maybe (Some x) f h = h x

plain_calls : (code : LowModule) (a : LowAttr) (vs : List Val) (s : Stack) → Plain (calls true code a vs s)
plain_calls code (attr.Callee n) vs s = plain_maybe (slice_get code.funcs n.0) (λ f. pushes true (new_frame n f vs) s) (λ f. (refl, refl))
plain_calls code attr.None vs s = (refl, refl)
plain_calls code (attr.Literal negative magnitude) vs s = (refl, refl)
plain_calls code (attr.Truth bit) vs s = (refl, refl)
plain_calls code (attr.Pred p) vs s = (refl, refl)
plain_calls code (attr.Count n) vs s = (refl, refl)

plain_computes : (n : one.Number) (f : LowFunc) (i : Instr) (s : Stack) → Plain (computes n f i s)
plain_computes n f i s = plain_maybe (computed n f i (operands s i)) _ (λ v. (refl, refl))

plain_jumps : (f : LowFunc) (target : Option Target) (s : Stack) → Plain (jumps f target s)
plain_jumps f target s = plain_maybe target _ (λ t. (refl, refl))

plain_suspends : (f : LowFunc) (t : Term) (s : Stack) → Plain (suspends f t s)
plain_suspends f t s = plain_maybe (side s.top.saved) _ (λ k. plain_maybe (target_way f t k) _ (λ way. (refl, refl)))

root_cond : (b : Bool) → (is_shared (cond b Shared Stuck) ≡ b) × (counted (cond b Shared Stuck) ≡ None)
root_cond true = (refl, refl)
root_cond false = (refl, refl)

leaves_is : (fails : Bool) (code : LowModule) (vs : List Val) (below : List Frame) (s : Stack) → (is_shared (leaves fails code vs below s) ≡ root_ends below s.is_root) × (counted (leaves fails code vs below s) ≡ None)
leaves_is fails code vs [] s = root_cond s.is_root
leaves_is fails code vs (caller ∷ below) s = plain_maybe (way_on fails code caller.current.place) _ (λ way. (refl, refl))

-- what a step within a block is
pub inner_is : (e : Effect) (code : LowModule) (f : LowFunc) (i : Instr) (s : Stack) → (is_shared (inner_step e true code f i s) ≡ inner_shared e) × (counted (inner_step e true code f i s) ≡ inner_counts e i s)
inner_is effect.Absent code f i s = (refl, refl)
inner_is (effect.Computes n) code f i s = plain_computes n f i s
inner_is effect.Skips code f i s = (refl, refl)
inner_is effect.Jumps code f i s = (refl, refl)
inner_is effect.Branches code f i s = (refl, refl)
inner_is effect.Launches code f i s = plain_calls code i.attr (operands s i) s
inner_is effect.Calls code f i s = (refl, refl)
inner_is effect.Returns code f i s = (refl, refl)
inner_is effect.Fails code f i s = (refl, refl)
inner_is effect.Saves code f i s = (refl, refl)
inner_is effect.Suspends code f i s = (refl, refl)
inner_is effect.AddsReferences code f i s = (refl, refl)
inner_is effect.DropsReferences code f i s = (refl, refl)
inner_is effect.Shared code f i s = (refl, refl)

-- what the end of a block is
pub end_is : (e : Effect) (code : LowModule) (f : LowFunc) (t : Term) (s : Stack) → (is_shared (end_step e true code f t s) ≡ end_shared e s) × (counted (end_step e true code f t s) ≡ None)
end_is effect.Absent code f t s = (refl, refl)
end_is (effect.Computes n) code f t s = (refl, refl)
end_is effect.Skips code f t s = (refl, refl)
end_is effect.Jumps code f t s = plain_jumps f _ s
end_is effect.Branches code f t s = plain_jumps f _ s
end_is effect.Launches code f t s = (refl, refl)
end_is effect.Calls code f t s = plain_calls code t.instr.attr (operands s t.instr) s
end_is effect.Returns code f t s = leaves_is false code _ s.below s
end_is effect.Fails code f t s = leaves_is true code _ s.below s
end_is effect.Saves code f t s = (refl, refl)
end_is effect.Suspends code f t s = plain_suspends f t s
end_is effect.AddsReferences code f t s = (refl, refl)
end_is effect.DropsReferences code f t s = (refl, refl)
end_is effect.Shared code f t s = (refl, refl)
