-- Tasks whose values have their types, and how they leave and enter regions.
use Rattle.std.proofs.Common.{◌≡◌, ℕ, zero, suc, Bool, true, List, [], ◌∷◌, ◌++◌, Option, Some, None, slice_get, sym, subst}
use Rattle.op_table.specs.declared.form.Form.{Form}
use Rattle.op_table.specs.declared.form.Form.TheVariants as form_is
use Rattle.op_table.specs.declared.kind.OpKind.TheVariants as op
use Rattle.ir_forms.specs.declared.names.ElementName.{ElementName}
use Rattle.ir_forms.specs.declared.names.ElementName.TheVariants.{Token, Value}
use Rattle.ir_forms.specs.declared.names.MadeName.{MadeName}
use Rattle.ir_forms.specs.declared.ops.Op.{Op, out-Op}
use Rattle.ir_forms.specs.declared.ops.Func.{Func}
use Rattle.ir_forms.specs.declared.ops.Region.{Region}
use Rattle.ir_forms.specs.declared.ops.ValueNo.{ValueNo}
use Rattle.ir_forms.specs.declared.types.Ty.{Ty}
use Rattle.ir_forms.specs.declared.types.Ty.TheVariants as ty
use Rattle.ir_forms.specs.declared.types.ValTy.{ValTy}
use Rattle.ir_forms.specs.Names.{Path}
use Rattle.ir_forms.specs.Ops.{kind_of, written_of, results_of, regions_of}
use Rattle.ir_verify.specs.declared.place.Nest.{Nest}
use Rattle.ir_verify.specs.Forms.{form, end_asked, is_ending}
use Rattle.ir_verify.specs.Places.{Around, Seen, types_of, params_of, defined, within, place_of}
use Rattle.ir_verify.specs.Scopes.{lookup}
use Rattle.ir_verify.specs.Types.{is_number}
use Rattle.source_meaning.specs.declared.values.Val.{Val}
use Rattle.source_meaning.specs.declared.values.Val.TheVariants.{Number, Memory, Group}
use Rattle.source_meaning.specs.Values.{Env, nothing, or_else}
use Rattle.source_meaning.specs.Parts.{region_of}
use Rattle.source_meaning.specs.Sequential.{iteration}
use Rattle.source_meaning.specs.Tasks.{Scope, After, Joins, Turns, Tests, Repeats, Returns, Tries, Pending, Awaits, Joining, Failing, Task, Ask, Reads, Writes, Allocs, Creates, Adds, Launches, Enters, JoinsAll, AwaitsOne, AwaitsAll, Answer, Gave, FailedAt, Next, Goes, Asks, Ends, bound, resumed}
use Rattle.source_meaning.specs.World.{elements_of}
use Rattle.source_meaning.specs.Flow.{entered}
use Rattle.typed_laws.specs.Typed.{Typing, Says, HasType}
use Rattle.typed_laws.proofs.Types.{Later, later_says, payload}
use Rattle.typed_laws.proofs.Facts.{counts}
use Rattle.typed_laws.proofs.Envs.{Within, within_more, within_on, EnvTyped, env_later, AreTyped, types_in, bind_typed, results_typed}
use Rattle.typed_laws.proofs.Coded.{EndsOk, Code, OpGood, region_code, region_fresh, region_ends}

-- ---- what a region gives

-- the values that a task ends with are those that its launch says
abbrev pub Payloads : Typing → List Ty → List Val → Type 0
Payloads typing types vs = (j : ℕ) (w : ValTy) → slice_get types (suc j) ≡ Some (ty.Value w) → HasType typing (payload w) (or_else nothing (slice_get vs j))

-- a truth, and values of these types
abbrev pub AfterTruth : Typing → List Ty → List Val → Type 0
AfterTruth typing ts [] = ⊥
AfterTruth typing ts (v ∷ vs) = AreTyped typing ts vs

abbrev pub AcceptsIn : Typing → Form → Op → ℕ → List Val → Type 0
AcceptsIn typing form_is.Execute o r vs = Payloads typing (types_of o) vs
AcceptsIn typing form_is.While o zero vs = AfterTruth typing (types_of o) vs
AcceptsIn typing form_is.While o (suc r) vs = AreTyped typing (written_of o) vs
AcceptsIn typing form_is.For o r vs = AreTyped typing (types_of o) vs
AcceptsIn typing form_is.If o r vs = AreTyped typing (types_of o) vs
AcceptsIn typing _ o r vs = Unit {0}

abbrev pub AcceptsAt : Typing → Option Op → ℕ → Func → List Val → Type 0
AcceptsAt typing None r f vs = AreTyped typing f.results vs
AcceptsAt typing (Some o) r f vs = AcceptsIn typing (form o) o r vs

abbrev pub Accepts : Typing → Around → List Val → Type 0
Accepts typing a vs = AcceptsAt typing a.holder a.region a.func vs

module _ (funcs : List Func) where
  -- an operation, and what stands behind it
  pub record Behind (a : Around) (seen : Seen) (o : Op) (rest : List Op) : Type 0 where
    pub last : Bool
    pub good : OpGood funcs a seen o last
    pub code : Code funcs a (seen ++ defined (results_of o) (types_of o)) rest
    pub ends : EndsOk a rest

  -- what follows a region, where the task's claim is the types of the results of its launch
  pub data Framed (typing : Typing) (claim : List Ty) : Around → Seen → List (After × List Op) → Type 0 where
    bare : (a : Around) (seen : Seen) → claim ≡ [] → Framed typing claim a seen []
    launched : (a : Around) (seen : Seen) (o : Op) → a.holder ≡ Some o → kind_of o ≡ op.AsyncExecute → types_of o ≡ claim → Framed typing claim a seen []
    joins : (a : Around) (seen more : Seen) (o : Op) (r : ℕ) (rest : List Op) (fs : List (After × List Op)) → kind_of o ≡ op.ScfIf → Behind a seen o rest → Within seen more → Framed typing claim a seen fs →
        Framed typing claim (within a o r) more ((Joins (results_of o), rest) ∷ fs)
    turns : (a : Around) (seen more : Seen) (o : Op) (i upper step : ℕ) (rest : List Op) (fs : List (After × List Op)) → kind_of o ≡ op.ScfFor → Behind a seen o rest → Within seen more → Framed typing claim a seen fs →
        Framed typing claim (within a o 0) more ((Turns (out-Op o) i upper step, rest) ∷ fs)
    tests : (a : Around) (seen more : Seen) (o : Op) (rest : List Op) (fs : List (After × List Op)) → kind_of o ≡ op.ScfWhile → Behind a seen o rest → Within seen more → Framed typing claim a seen fs →
        Framed typing claim (within a o 0) more ((Tests (out-Op o), rest) ∷ fs)
    repeats : (a : Around) (seen more : Seen) (o : Op) (rest : List Op) (fs : List (After × List Op)) → kind_of o ≡ op.ScfWhile → Behind a seen o rest → Within seen more → Framed typing claim a seen fs →
        Framed typing claim (within a o 1) more ((Repeats (out-Op o), rest) ∷ fs)
    returns : (inner a : Around) (more seen : Seen) (o : Op) (s : Scope) (rest : List Op) (fs : List (After × List Op)) → inner.holder ≡ None → types_of o ≡ inner.func.results → EnvTyped typing seen s.env → Behind a seen o rest → Framed typing claim a seen fs →
        Framed typing claim inner more ((Returns s (results_of o), rest) ∷ fs)
    tries : (inner a : Around) (more seen : Seen) (o : Op) (t : Ty) (s : Scope) (rest : List Op) (fs : List (After × List Op)) → types_of o ≡ t ∷ [] → is_number t ≡ true → EnvTyped typing seen s.env → Behind a seen o rest → Framed typing claim a seen fs →
        Framed typing claim inner more ((Tries s (results_of o), rest) ∷ fs)

  pub framed_more : (typing : Typing) (claim : List Ty) (a : Around) (seen more : Seen) (fs : List (After × List Op)) → Within seen more → Framed typing claim a seen fs → Framed typing claim a more fs
  framed_more typing claim a seen more fs w (bare _ _ e) = bare a more e
  framed_more typing claim a seen more fs w (launched _ _ o e f g) = launched a more o e f g
  framed_more typing claim a seen more fs w (joins b outer _ o r rest gs e h v k) = joins b outer more o r rest gs e h (within_on outer seen more v w) k
  framed_more typing claim a seen more fs w (turns b outer _ o i upper step rest gs e h v k) = turns b outer more o i upper step rest gs e h (within_on outer seen more v w) k
  framed_more typing claim a seen more fs w (tests b outer _ o rest gs e h v k) = tests b outer more o rest gs e h (within_on outer seen more v w) k
  framed_more typing claim a seen more fs w (repeats b outer _ o rest gs e h v k) = repeats b outer more o rest gs e h (within_on outer seen more v w) k
  framed_more typing claim a seen more fs w (returns _ b _ outer o s rest gs e f env h k) = returns a b more outer o s rest gs e f env h k
  framed_more typing claim a seen more fs w (tries _ b _ outer o t s rest gs e f env h k) = tries a b more outer o t s rest gs e f env h k

  pub framed_later : (typing later : Typing) → Later typing later → (claim : List Ty) (a : Around) (seen : Seen) (fs : List (After × List Op)) → Framed typing claim a seen fs → Framed later claim a seen fs
  framed_later typing later l claim a seen fs (bare _ _ e) = bare a seen e
  framed_later typing later l claim a seen fs (launched _ _ o e f g) = launched a seen o e f g
  framed_later typing later l claim a seen fs (joins b outer _ o r rest gs e h v k) = joins b outer seen o r rest gs e h v (framed_later typing later l claim b outer gs k)
  framed_later typing later l claim a seen fs (turns b outer _ o i upper step rest gs e h v k) = turns b outer seen o i upper step rest gs e h v (framed_later typing later l claim b outer gs k)
  framed_later typing later l claim a seen fs (tests b outer _ o rest gs e h v k) = tests b outer seen o rest gs e h v (framed_later typing later l claim b outer gs k)
  framed_later typing later l claim a seen fs (repeats b outer _ o rest gs e h v k) = repeats b outer seen o rest gs e h v (framed_later typing later l claim b outer gs k)
  framed_later typing later l claim a seen fs (returns _ b _ outer o s rest gs e f env h k) = returns a b seen outer o s rest gs e f (env_later typing later outer s.env l env) h (framed_later typing later l claim b outer gs k)
  framed_later typing later l claim a seen fs (tries _ b _ outer o t s rest gs e f env h k) = tries a b seen outer o t s rest gs e f (env_later typing later outer s.env l env) h (framed_later typing later l claim b outer gs k)

  -- ---- tasks

  -- what is pending makes visible what the operations see
  abbrev pub Ready : Typing → Seen → List Pending → Seen → Type 0
  Ready typing now [] seen = Within seen now
  Ready typing now (Awaits at x [] ∷ more) seen = Ready typing now more seen
  Ready typing now (Awaits at (Value q j) (v ∷ []) ∷ more) seen = (w : ValTy) × Says typing q j w × (lookup now v.0 ≡ None) × Ready typing (now ++ (v, payload w) ∷ []) more seen
  Ready typing now (Awaits at (Token q) (v ∷ []) ∷ more) seen = ⊥
  Ready typing now (Awaits at x (v ∷ u ∷ xs) ∷ more) seen = ⊥
  Ready typing now (Joining at loop ∷ more) seen = Ready typing now more seen
  Ready typing now (Failing at ∷ more) seen = Unit {0}

  ready_later : (typing later : Typing) → Later typing later → (now : Seen) (ps : List Pending) (seen : Seen) → Ready typing now ps seen → Ready later now ps seen
  ready_later typing later l now [] seen h = h
  ready_later typing later l now (Awaits at x [] ∷ more) seen h = ready_later typing later l now more seen h
  ready_later typing later l now (Awaits at (Value q j) (v ∷ []) ∷ more) seen h = (h.0, later_says typing later l q j h.0 h.1, h.2, ready_later typing later l (now ++ (v, payload h.0) ∷ []) more seen h.3)
  ready_later typing later l now (Awaits at (Token q) (v ∷ []) ∷ more) seen h = elim h [ ]
  ready_later typing later l now (Awaits at (Value q j) (v ∷ u ∷ xs) ∷ more) seen h = elim h [ ]
  ready_later typing later l now (Awaits at (Token q) (v ∷ u ∷ xs) ∷ more) seen h = elim h [ ]
  ready_later typing later l now (Joining at loop ∷ more) seen h = ready_later typing later l now more seen h
  ready_later typing later l now (Failing at ∷ more) seen h = tt

  pub record TaskTyped (typing : Typing) (claim : List Ty) (t : Task) : Type 0 where
    pub around : Around
    pub now : Seen
    pub seen : Seen
    pub env : EnvTyped typing now t.scope.env
    pub ready : Ready typing now t.pending seen
    pub code : Code funcs around seen t.rest
    pub ends : EndsOk around t.rest
    pub frames : Framed typing claim around seen t.frames

  pub task_later : (typing later : Typing) → Later typing later → (claim : List Ty) (t : Task) → TaskTyped typing claim t → TaskTyped later claim t
  task_later typing later l claim t h = record {
    around = h.around;
    now = h.now;
    seen = h.seen;
    env = env_later typing later h.now t.scope.env l h.env;
    ready = ready_later typing later l h.now t.pending h.seen h.ready;
    code = h.code;
    ends = h.ends;
    frames = framed_later typing later l claim h.around h.seen t.frames h.frames;
  }

  -- ---- steps

  -- what awaiting this gives
  abbrev pub AwaitFits : Typing → ElementName → Answer → Type 0
  AwaitFits typing x None = Unit {0}
  AwaitFits typing (Token q) (Some vs) = vs ≡ []
  AwaitFits typing (Value q j) (Some vs) = (w : ValTy) → Says typing q j w → AreTyped typing (payload w ∷ []) vs

  -- the error, or nothing
  abbrev pub IsUnless : Answer → Type 0
  IsUnless None = Unit {0}
  IsUnless (Some []) = Unit {0}
  IsUnless (Some (v ∷ vs)) = ⊥

  abbrev pub AsksTyped : Typing → List Ty → ℕ → Ask → List ValueNo → Task → Type 0
  AsksTyped typing claim at (Reads b i) xs t = (n : ℕ) → TaskTyped typing claim (resumed at xs t (Some (Number n ∷ [])))
  AsksTyped typing claim at (Writes b i n) xs t = TaskTyped typing claim (resumed at xs t (Some []))
  AsksTyped typing claim at (Allocs dims) xs t = (b : MadeName) → TaskTyped typing claim (resumed at xs t (Some (Memory b dims ∷ [])))
  AsksTyped typing claim at (Creates n) xs t = (g : MadeName) → TaskTyped typing claim (resumed at xs t (Some (Group g ∷ [])))
  AsksTyped typing claim at (Adds g x used) xs t = (n : ℕ) → TaskTyped typing claim (resumed at xs t (Some (Number n ∷ [])))
  AsksTyped typing claim at (Launches c k) xs t =
      (types : List Ty) × TaskTyped typing types c × ((later : Typing) (q : Path) → Later typing later → later q ≡ Some types → TaskTyped later claim (resumed at xs t (Some (elements_of q k))))
  AsksTyped typing claim at (Enters loop) xs t = ((i : ℕ) → TaskTyped typing [] (iteration loop i)) × TaskTyped typing claim (resumed at xs t (Some []))
  AsksTyped typing claim at (JoinsAll loop) xs t = (r : Answer) → IsUnless r → TaskTyped typing claim (resumed at xs t r)
  AsksTyped typing claim at (AwaitsOne x) xs t = (r : Answer) → AwaitFits typing x r → TaskTyped typing claim (resumed at xs t r)
  AsksTyped typing claim at (AwaitsAll g) xs t = (r : Answer) → IsUnless r → TaskTyped typing claim (resumed at xs t r)

  abbrev pub NextTyped : Typing → List Ty → Next → Type 0
  NextTyped typing claim (Goes t) = TaskTyped typing claim t
  NextTyped typing claim (Asks at ask xs t) = AsksTyped typing claim at ask xs t
  NextTyped typing claim (Ends (Gave vs)) = Payloads typing claim vs
  NextTyped typing claim (Ends (FailedAt at)) = Unit {0}

  module _ (typing : Typing) (claim : List Ty) where
    -- a task with nothing pending
    abbrev pub one : List Op → List (After × List Op) → ℕ → Nest → Env → Task
    one rest fs k n env = record { pending = []; rest = rest; frames = fs; scope = record { func = k; nest = n; env = env } }

    -- behind an operation, with its results
    pub behind_task : (a : Around) (seen : Seen) (o : Op) (rest : List Op) (fs : List (After × List Op)) (k : ℕ) (n : Nest) (env : Env) (vs : List Val) → Behind a seen o rest → Framed typing claim a seen fs → EnvTyped typing seen env → AreTyped typing (types_of o) vs →
        TaskTyped typing claim (bound (results_of o) vs (one rest fs k n env))
    behind_task a seen o rest fs k n env vs b f h v = record {
      around = a;
      now = seen ++ defined (results_of o) (types_of o);
      seen = seen ++ defined (results_of o) (types_of o);
      env = results_typed typing (results_of o) (types_of o) vs seen env (counts (record { seen = seen; place = place_of funcs a b.last o }) b.good.spot.fine).results h b.good.spot.results v;
      ready = λ v t e. e;
      code = b.code;
      ends = b.ends;
      frames = framed_more typing claim a seen (seen ++ defined (results_of o) (types_of o)) fs (within_more seen (defined (results_of o) (types_of o))) f;
    }

    -- into a region
    pub entered_task : (a : Around) (seen : Seen) (o : Op) (r : ℕ) (region : Region) (x : After) (rest : List Op) (fs : List (After × List Op)) (k : ℕ) (n : Nest) (env : Env) (vs : List Val) → Behind a seen o rest →
        slice_get (regions_of o) r ≡ Some region → is_ending (end_asked (form o) r) ≡ true → Framed typing claim (within a o r) (seen ++ params_of region) ((x, rest) ∷ fs) → EnvTyped typing seen env → AreTyped typing (types_in (params_of region)) vs →
        TaskTyped typing claim (entered x (region_of (out-Op o) r) vs (one rest fs k n env))
    entered_task a seen o r region x rest fs k n env vs b e asked f h v =
        subst (λ s. TaskTyped typing claim (entered x s vs (one rest fs k n env))) (sym e) (record {
          around = within a o r;
          now = seen ++ params_of region;
          seen = seen ++ params_of region;
          env = bind_typed typing (params_of region) vs seen env h (region_fresh funcs a seen o b.last b.good r region e) v;
          ready = λ v t e. e;
          code = region_code funcs a seen o b.last b.good r region e;
          ends = region_ends funcs a seen o b.last b.good r region e asked;
          frames = f;
        })
