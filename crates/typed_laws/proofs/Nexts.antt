-- The next step of a task whose values have their types.
use Rattle.std.proofs.Common.{◌≡◌, ℕ, List, [], ◌∷◌, ◌++◌, Some, None, sym, subst}
use Rattle.ir_forms.specs.declared.names.ElementName.{ElementName}
use Rattle.ir_forms.specs.declared.names.ElementName.TheVariants.{Token, Value}
use Rattle.ir_forms.specs.declared.ops.Op.{Op, out-Op}
use Rattle.ir_forms.specs.declared.ops.ValueNo.{ValueNo}
use Rattle.ir_forms.specs.declared.types.Ty.{Ty}
use Rattle.ir_forms.specs.Ops.{written_of}
use Rattle.ir_verify.specs.declared.place.Nest.{Nest}
use Rattle.ir_verify.specs.Forms.{form}
use Rattle.ir_verify.specs.Places.{Around, Seen, is_none_left}
use Rattle.ir_verify.specs.Scopes.{lookup}
use Rattle.source_meaning.specs.declared.values.Val.{Val}
use Rattle.source_meaning.specs.Values.{Env}
use Rattle.source_meaning.specs.Tasks.{Program, After, Pending, Awaits, Joining, Failing, Task, Answer, Next, resumed}
use Rattle.source_meaning.specs.Steps.{operands, next, next_op}
use Rattle.typed_laws.specs.Typed.{Typing, AreGood, BufferFits, AreElements}
use Rattle.typed_laws.proofs.Envs.{Within, EnvTyped, env_within, AreTyped, bind_typed}
use Rattle.typed_laws.proofs.Coded.{EndsOk, Code, code_head, none_given}
use Rattle.typed_laws.proofs.Elements.{elements_next}
use Rattle.typed_laws.proofs.Framed.{AcceptsIn, AcceptsAt, Accepts, Framed, Ready, TaskTyped, NextTyped, AwaitFits}
use Rattle.typed_laws.proofs.Leaving.{leaves_next, caught_next}
use Rattle.typed_laws.proofs.Rows.{op_next, buffer_next}

module _ (p : Program) (all : AreGood p.funcs) (typing : Typing) (claim : List Ty) where
  abbrev Good : Next → Type 0
  Good x = NextTyped p.funcs typing claim x

  nothing_given : (a : Around) → EndsOk a [] → Accepts typing a []
  nothing_given a ends =
      let none = none_given a ends in
      subst (λ x. AcceptsAt typing x a.region a.func []) (sym none.1) (subst (λ g. AcceptsIn typing g none.0 a.region []) (sym none.2) (subst (λ ts. AreTyped typing ts []) (sym none.3) tt))

  module _ (a : Around) (now seen : Seen) (rest : List Op) (fs : List (After × List Op)) (k : ℕ) (n : Nest) (env : Env) (h : EnvTyped typing now env) (code : Code p.funcs a seen rest) (ends : EndsOk a rest) (frames : Framed p.funcs typing claim a seen fs) where
    abbrev with_pending : List Pending → Task
    with_pending ps = record { pending = ps; rest = rest; frames = fs; scope = record { func = k; nest = n; env = env } }

    -- where the answer was an error
    failing : (at : ℕ) → TaskTyped p.funcs typing claim (with_pending (Failing at ∷ []))
    failing at = record { around = a; now = now; seen = seen; env = h; ready = tt; code = code; ends = ends; frames = frames }

    ready_task : (ps : List Pending) → Ready p.funcs typing now ps seen → TaskTyped p.funcs typing claim (with_pending ps)
    ready_task ps ready = record { around = a; now = now; seen = seen; env = h; ready = ready; code = code; ends = ends; frames = frames }

    told_nothing : (at : ℕ) (ps : List Pending) → Ready p.funcs typing now ps seen → (r : Answer) → TaskTyped p.funcs typing claim (resumed at [] (with_pending ps) r)
    told_nothing at ps ready None = failing at
    told_nothing at ps ready (Some []) = ready_task ps ready
    told_nothing at ps ready (Some (v ∷ vs)) = ready_task ps ready

    told_value : (at : ℕ) (x : ValueNo) (w : Ty) (ps : List Pending) (vs : List Val) → Ready p.funcs typing (now ++ (x, w) ∷ []) ps seen → (lookup now x.0 ≡ None) → AreTyped typing (w ∷ []) vs → TaskTyped p.funcs typing claim (resumed at (x ∷ []) (with_pending ps) (Some vs))
    told_value at x w ps vs ready new v = record { around = a; now = now ++ (x, w) ∷ []; seen = seen; env = bind_typed typing ((x, w) ∷ []) vs now env h (new, tt) v; ready = ready; code = code; ends = ends; frames = frames }

    answered : (at : ℕ) (x : ElementName) (xs : List ValueNo) (more : List Pending) → Ready p.funcs typing now (Awaits at x xs ∷ more) seen → (r : Answer) → AwaitFits p.funcs typing x r → TaskTyped p.funcs typing claim (resumed at xs (with_pending more) r)
    answered at x [] more ready r fit = told_nothing at more ready r
    answered at (Value q j) (v ∷ []) more ready None fit = failing at
    answered at (Value q j) (v ∷ []) more ready (Some vs) fit = told_value at v _ more vs ready.3 ready.2 (fit ready.0 ready.1)
    answered at (Token q) (v ∷ []) more ready r fit = elim ready [ ]
    answered at (Token q) (v ∷ u ∷ xs) more ready r fit = elim ready [ ]
    answered at (Value q j) (v ∷ u ∷ xs) more ready r fit = elim ready [ ]

  rest_next : (a : Around) (seen : Seen) (rest : List Op) (fs : List (After × List Op)) (k : ℕ) (n : Nest) (env : Env) → EnvTyped typing seen env → Code p.funcs a seen rest → EndsOk a rest → Framed p.funcs typing claim a seen fs →
      Good (next_op p rest (record { pending = []; rest = rest; frames = fs; scope = record { func = k; nest = n; env = env } }))
  rest_next a seen [] fs k n env h code ends frames = leaves_next p.funcs typing claim a seen fs [] fs k n env [] frames h (nothing_given a ends)
  rest_next a seen (o ∷ rest) fs k n env h code ends frames = let head = code_head p.funcs a seen o rest code in op_next p all typing claim a seen o (is_none_left rest) rest fs k n env head.0 head.1 ends frames h

  pending_next : (ps : List Pending) (a : Around) (now seen : Seen) (rest : List Op) (fs : List (After × List Op)) (k : ℕ) (n : Nest) (env : Env) → EnvTyped typing now env → Ready p.funcs typing now ps seen → Code p.funcs a seen rest → EndsOk a rest → Framed p.funcs typing claim a seen fs →
      Good (next p (record { pending = ps; rest = rest; frames = fs; scope = record { func = k; nest = n; env = env } }))
  pending_next [] a now seen rest fs k n env h ready code ends frames = rest_next a seen rest fs k n env (env_within typing seen now env ready h) code ends frames
  pending_next (Awaits at x xs ∷ more) a now seen rest fs k n env h ready code ends frames = answered a now seen rest fs k n env h code ends frames at x xs more ready
  pending_next (Joining at loop ∷ more) a now seen rest fs k n env h ready code ends frames = λ r fit. told_nothing a now seen rest fs k n env h code ends frames at more ready r
  pending_next (Failing at ∷ more) a now seen rest fs k n env h ready code ends frames = caught_next p.funcs typing claim at a seen fs rest fs (record { func = k; nest = n; env = env }) frames

  pub next_typed : (t : Task) → TaskTyped p.funcs typing claim t → Good (next p t)
  next_typed t h = pending_next t.pending h.around h.now h.seen t.rest t.frames t.scope.func t.scope.nest t.scope.env h.env h.ready h.code h.ends h.frames

  -- the buffer of the operation next
  pub buffer_typed : (t : Task) (o : Op) (rest : List Op) → TaskTyped p.funcs typing claim t → t.pending ≡ [] → t.rest ≡ o ∷ rest → BufferFits (form o) (written_of o) (operands t (out-Op o))
  buffer_typed t o rest h none is =
      let code = code_head p.funcs h.around h.seen o rest (subst (Code p.funcs h.around h.seen) is h.code) in
      let ready : Within h.seen h.now = subst (λ ps. Ready p.funcs typing h.now ps h.seen) none h.ready in
      buffer_next p all typing claim h.around h.seen o (is_none_left rest) rest t.frames t.scope.func t.scope.nest t.scope.env code.0 code.1 (subst (EndsOk h.around) is h.ends) h.frames (env_within typing h.seen h.now t.scope.env ready h.env)

  -- its tokens and values of tasks
  pub elements_typed : (t : Task) (o : Op) (rest : List Op) → TaskTyped p.funcs typing claim t → t.pending ≡ [] → t.rest ≡ o ∷ rest → AreElements (form o) (out-Op o) (operands t (out-Op o))
  elements_typed t o rest h none is =
      let code = code_head p.funcs h.around h.seen o rest (subst (Code p.funcs h.around h.seen) is h.code) in
      let ready : Within h.seen h.now = subst (λ ps. Ready p.funcs typing h.now ps h.seen) none h.ready in
      elements_next p.funcs typing h.around h.seen o (is_none_left rest) code.0 t.scope.env (env_within typing h.seen h.now t.scope.env ready h.env)
