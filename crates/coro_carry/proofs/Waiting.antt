-- Objects that are awaited.
use Rattle.std.proofs.Common.{◌≡◌, ℕ, zero, suc, ◌==◌, cond, Bool, true, false, List, [], ◌∷◌, ◌++◌, map, Option, Some, None, refl, sym, ap, ◌∙◌, subst}
use Rattle.std.specs.Prelude.{slice_get, slice_set}
use Rattle.ir_forms.specs.declared.runs.ObjNo.{ObjNo}
use Rattle.ir_forms.specs.declared.runs.TaskNo.{TaskNo}
use Rattle.async_objects.specs.declared.kinds.Kind.{Kind}
use Rattle.async_objects.specs.declared.kinds.Kind.TheVariants as kind
use Rattle.async_objects.specs.declared.kinds.Val.{Val}
use Rattle.async_objects.specs.declared.kinds.Val.TheVariants as val
use Rattle.async_objects.specs.declared.object.Object.{Object}
use Rattle.async_objects.specs.Objects.{done_by, is_done, state_by, state_of, object_or, object_at, with_awaiter, awaited}
use Rattle.step_core.specs.State.{Plain}
use Rattle.step_core.specs.High.{High, Ref}
use Rattle.code_machines.specs.Objects.{Stands, Objects}
use Rattle.register_laws.proofs.Lists.{mapped_back, mapped_there}
use Rattle.plain_carry.specs.Alike.{stands_for, SameObject}
use Rattle.coro_carry.specs.Relation.{face, View, view, WaitsFor, Agree}
use Rattle.low_forms.specs.declared.code.LowModule.{LowModule}

done_kind : (k : Kind) (x : Object) → done_by k (face x) ≡ done_by k x
done_kind (kind.Group size) x = refl
done_kind kind.Token x = refl
done_kind kind.Value x = refl

pub done_face : (x : Object) → is_done (face x) ≡ is_done x
done_face x = done_kind x.kind x

state_kind : (k : Kind) (x : Object) → state_by k (face x) ≡ state_by k x
state_kind (kind.Group size) x = refl
state_kind kind.Token x = refl
state_kind kind.Value x = refl

pub state_face : (x : Object) → state_of (face x) ≡ state_of x
state_face x = state_kind x.kind x

awaiting_faces : (xs : List Object) (n : ℕ) (t : TaskNo) → map face (slice_set xs n (with_awaiter t (object_or (slice_get xs n)))) ≡ map face xs
awaiting_faces [] n t = refl
awaiting_faces (x ∷ xs) zero t = refl
awaiting_faces (x ∷ xs) (suc n) t = ap (λ (ys : List Object). face x ∷ ys) (awaiting_faces xs n t)

-- who waits changes no face
pub awaited_faces : (o : ObjNo) (t : TaskNo) (xs : List Object) → map face (awaited o t xs) ≡ map face xs
awaited_faces o t xs = by (is_done (object_at xs o))
  where
    by : (b : Bool) → map face (cond b xs (slice_set xs o.0 (with_awaiter t (object_at xs o)))) ≡ map face xs
    by true = refl
    by false = awaiting_faces xs o.0 t

-- an object whose face is there
pub record There (xs : List Object) (o : ObjNo) (x : Object) : Type 0 where
  pub object : Object
  pub at : slice_get xs o.0 ≡ Some object
  pub same : face object ≡ x
  pub is : object_at xs o ≡ object

pub there : (xs : List Object) (o : ObjNo) (x : Object) → slice_get (map face xs) o.0 ≡ Some x → There xs o x
there xs o x at =
    let back : (y : Object) × (slice_get xs o.0 ≡ Some y) × (face y ≡ x) = mapped_back face xs o.0 x at in
    record { object = back.0; at = back.1; same = back.2; is = ap object_or back.1 }

-- the object of a register that is alike to one of the second code
pub record Same (code : LowModule) (s : Plain) (k : Objects) (h : High) (o p : ObjNo) : Type 0 where
  pub ref : Ref
  pub refers : slice_get h.refs p.0 ≡ Some ref
  pub stands : slice_get k.stands o.0 ≡ Some (stands_for ref)
  pub face : Object
  pub faced : slice_get (view s k h).faces o.0 ≡ Some face
  pub object : There s.objects o face

pub same_there : (code : LowModule) (s : Plain) (k : Objects) (h : High) (o p : ObjNo) → Agree code s k h → SameObject k.stands h.refs o p → Same code s k h o p
same_there code s k h o p a same =
    let named : (x : Object) × (slice_get (view s k h).faces o.0 ≡ Some x) = a.named o.0 (stands_for same.0) same.2 in
    record { ref = same.0; refers = same.1; stands = same.2; face = named.0; faced = named.1; object = there s.objects o named.0 named.1 }

-- a task that awaits it is parked, unless it is done
pub waits_now : (code : LowModule) (s : Plain) (k : Objects) (h : High) (o p : ObjNo) (v : Val) → v ≡ val.Object o → Same code s k h o p → WaitsFor (view s k h) (cond (is_done (object_at s.objects o)) None (Some o)) v
waits_now code s k h o p v is same = by (is_done (object_at s.objects o)) refl
  where
    by : (b : Bool) → is_done (object_at s.objects o) ≡ b → WaitsFor (view s k h) (cond b None (Some o)) v
    by true done =
        let x : There s.objects o same.face = same.object in
        (o, same.face, is, same.faced, ap is_done (sym x.same) ∙ done_face x.object ∙ ap is_done (sym x.is) ∙ done)
    by false open' = is
