-- Tasks that differ in values alone that nothing reads.
use Rattle.std.specs.Prelude.{◌≡◌, ℕ, true, false, List, [], ◌∷◌, map, slice_get}
use Rattle.ir_forms.specs.declared.names.ElementName.{ElementName}
use Rattle.ir_forms.specs.declared.ops.Op.{Op}
use Rattle.ir_forms.specs.declared.ops.Op.TheFolds.{fold-Op, fold-Region}
use Rattle.ir_forms.specs.declared.ops.Region.{Region}
use Rattle.ir_forms.specs.declared.ops.ValueNo.{ValueNo}
use Rattle.source_meaning.specs.declared.values.Val.{Val}
use Rattle.source_meaning.specs.Values.{Env, named, or_else}
use Rattle.source_meaning.specs.Parts.{Node, joined, uses_at, uses_under, uses_of}
use Rattle.source_meaning.specs.Tasks.{Program, Scope, After, Joins, Turns, Tests, Repeats, Returns, Tries, Loop, Pending, Awaits, Joining, Failing, Task, Ask, Adds, Launches, Enters, JoinsAll, Outcome, Next, Goes, Asks, Ends, bound}
use Rattle.source_meaning.specs.Steps.{is_among, next}
use Rattle.source_meaning.specs.TaskOrder.{Each}

-- all operands of an operation, those in its regions too
abbrev pub operands_of : Op → List ValueNo
operands_of o = fold-Op (List ValueNo) (List ValueNo) uses_at uses_under o

-- those of a region
abbrev pub operands_under : Region → List ValueNo
operands_under r = fold-Region (List ValueNo) (List ValueNo) uses_at uses_under r

module _ (p : Program) where
  -- the value is an operand somewhere in the function at this place
  abbrev pub IsRead : ℕ → ValueNo → Type 0
  IsRead k x = is_among x.0 (or_else [] (slice_get p.uses k)) ≡ true

  -- the operands of these operations are
  abbrev pub AreRead : ℕ → List Op → Type 0
  AreRead k ops = Each (IsRead k) (joined (map operands_of ops))

  -- those in the regions of an operation are
  abbrev pub AreReadUnder : ℕ → Node → Type 0
  AreReadUnder k o = Each (IsRead k) (joined (map operands_under o.regions))

  -- the same values but for those that nothing reads
  abbrev pub Sees : ℕ → Env → Env → Type 0
  Sees k env other = (x : ValueNo) → IsRead k x → named other x.0 ≡ named env x.0

  -- the same function with such values
  pub record LikeScope (s t : Scope) : Type 0 where
    pub func : t.func ≡ s.func
    pub nest : t.nest ≡ s.nest
    pub sees : Sees s.func s.env t.env

  -- what follows a region of the function at this place
  pub data LikeFrames : ℕ → List (After × List Op) → List (After × List Op) → Type 0 where
    end : {k : ℕ} → LikeFrames k [] []
    joins : {k : ℕ} (xs : List ValueNo) (rest : List Op) {fs gs : List (After × List Op)} → AreRead k rest → LikeFrames k fs gs →
        LikeFrames k ((Joins xs, rest) ∷ fs) ((Joins xs, rest) ∷ gs)
    turns : {k : ℕ} (op : Node) (i upper step : ℕ) (rest : List Op) {fs gs : List (After × List Op)} → AreReadUnder k op → AreRead k rest → LikeFrames k fs gs →
        LikeFrames k ((Turns op i upper step, rest) ∷ fs) ((Turns op i upper step, rest) ∷ gs)
    tests : {k : ℕ} (op : Node) (rest : List Op) {fs gs : List (After × List Op)} → AreReadUnder k op → AreRead k rest → LikeFrames k fs gs →
        LikeFrames k ((Tests op, rest) ∷ fs) ((Tests op, rest) ∷ gs)
    repeats : {k : ℕ} (op : Node) (rest : List Op) {fs gs : List (After × List Op)} → AreReadUnder k op → AreRead k rest → LikeFrames k fs gs →
        LikeFrames k ((Repeats op, rest) ∷ fs) ((Repeats op, rest) ∷ gs)
    returns : {k : ℕ} (s t : Scope) (xs : List ValueNo) (rest : List Op) {fs gs : List (After × List Op)} → LikeScope s t → AreRead s.func rest → LikeFrames s.func fs gs →
        LikeFrames k ((Returns s xs, rest) ∷ fs) ((Returns t xs, rest) ∷ gs)
    tries : {k : ℕ} (s t : Scope) (xs : List ValueNo) (rest : List Op) {fs gs : List (After × List Op)} → LikeScope s t → AreRead s.func rest → LikeFrames s.func fs gs →
        LikeFrames k ((Tries s xs, rest) ∷ fs) ((Tries t xs, rest) ∷ gs)

  -- the same loop but for such values
  pub record LikeLoop (l m : Loop) : Type 0 where
    pub scope : LikeScope l.scope m.scope
    pub params : m.params ≡ l.params
    pub body : m.body ≡ l.body
    pub read : AreRead l.scope.func l.body
    pub spans : m.spans ≡ l.spans
    pub total : m.total ≡ l.total
    pub split : m.split ≡ l.split

  -- what is pending
  pub data LikePending : List Pending → List Pending → Type 0 where
    done : LikePending [] []
    awaits : (at : ℕ) (x : ElementName) (xs : List ValueNo) {ps qs : List Pending} → LikePending ps qs → LikePending (Awaits at x xs ∷ ps) (Awaits at x xs ∷ qs)
    joining : (at : ℕ) (l m : Loop) {ps qs : List Pending} → LikeLoop l m → LikePending ps qs → LikePending (Joining at l ∷ ps) (Joining at m ∷ qs)
    failing : (at : ℕ) {ps qs : List Pending} → LikePending ps qs → LikePending (Failing at ∷ ps) (Failing at ∷ qs)

  -- the same task but for values that nothing reads
  pub record LikeTask (t u : Task) : Type 0 where
    pub pending : LikePending t.pending u.pending
    pub rest : u.rest ≡ t.rest
    pub read : AreRead t.scope.func t.rest
    pub frames : LikeFrames t.scope.func t.frames u.frames
    pub scope : LikeScope t.scope u.scope

  -- an asking in which there is no task
  abbrev pub HasNoTask : Ask → Type 0
  HasNoTask (Launches t r) = ⊥
  HasNoTask (Enters loop) = ⊥
  HasNoTask (JoinsAll loop) = ⊥
  HasNoTask _ = Unit {0}

  -- the same asking, of such tasks
  pub data LikeAsk : Ask → Ask → Type 0 where
    same : (a : Ask) → HasNoTask a → LikeAsk a a
    launches : (t u : Task) (r : ℕ) → LikeTask t u → LikeAsk (Launches t r) (Launches u r)
    enters : (l m : Loop) → LikeLoop l m → LikeAsk (Enters l) (Enters m)
    joins_all : (l m : Loop) → LikeLoop l m → LikeAsk (JoinsAll l) (JoinsAll m)

  -- the same step, of such tasks
  pub data LikeNext : Next → Next → Type 0 where
    goes : (t u : Task) → LikeTask t u → LikeNext (Goes t) (Goes u)
    asks : (at : ℕ) (a b : Ask) (xs : List ValueNo) (t u : Task) → LikeAsk a b → LikeTask t u → LikeNext (Asks at a xs t) (Asks at b xs u)
    ends : (o : Outcome) → LikeNext (Ends o) (Ends o)

-- Tasks that differ in values alone that nothing reads do the same next.
abbrev pub UnreadIsUnseen : Type 0
UnreadIsUnseen = (p : Program) (t u : Task) → p.uses ≡ map uses_of p.funcs → LikeTask p t u → LikeNext p (next p t) (next p u)

-- They stay so where one gets another value under a name that nothing reads.
abbrev pub UnreadIsFree : Type 0
UnreadIsFree = (p : Program) (t u : Task) (x : ValueNo) (v w : Val) → is_among x.0 (or_else [] (slice_get p.uses t.scope.func)) ≡ false → LikeTask p t u → LikeTask p (bound (x ∷ []) (v ∷ []) t) (bound (x ∷ []) (w ∷ []) u)
