-- Values under other names: a task whose values are renamed takes the same steps.
use Rattle.std.specs.Prelude.{◌≡◌, ℕ, List, [], ◌∷◌, map, slice_get}
use Rattle.std.specs.Option.{option_map}
use Rattle.ir_forms.specs.declared.ops.Attr.{Attr}
use Rattle.ir_forms.specs.declared.ops.Func.{Func}
use Rattle.ir_forms.specs.declared.ops.Op.{Op, Op-F, roll-Op}
use Rattle.ir_forms.specs.declared.ops.Op.TheFolds.{fold-Op, fold-Region}
use Rattle.ir_forms.specs.declared.ops.Region.{Region, Region-F, roll-Region}
use Rattle.ir_forms.specs.declared.ops.ValueNo.{ValueNo}
use Rattle.ir_forms.specs.declared.types.Ty.{Ty}
use Rattle.ir_verify.specs.Calls.{callee_place}
use Rattle.ir_forms.specs.declared.names.ElementName.{ElementName}
use Rattle.source_meaning.specs.Values.{Env, named}
use Rattle.source_meaning.specs.Parts.{Node}
use Rattle.source_meaning.specs.Tasks.{Program, Scope, After, Joins, Turns, Tests, Repeats, Returns, Tries, Loop, Pending, Awaits, Joining, Failing, Task, Ask, Launches, Enters, JoinsAll, Outcome, Next, Goes, Asks, Ends}
use Rattle.source_meaning.specs.Steps.{next}

-- ---- syntax

-- a value under its other name
abbrev pub renamed_value : (ℕ → ℕ) → ValueNo → ValueNo
renamed_value σ v = record { 0 = σ v.0 }

-- values under their other names
abbrev pub renamed_values : (ℕ → ℕ) → List ValueNo → List ValueNo
renamed_values σ xs = map (renamed_value σ) xs

-- parameters likewise
abbrev pub renamed_params : (ℕ → ℕ) → List (ValueNo × Ty) → List (ValueNo × Ty)
renamed_params σ params = map (λ param. (renamed_value σ param.0, param.1)) params

-- an operation, over its regions
abbrev pub op_renamed : (ℕ → ℕ) → Op-F Op Region → Op
op_renamed σ layer = roll-Op (record layer { operands = renamed_values σ layer.operands; results = renamed_values σ layer.results })

-- a region, over its operations
abbrev pub region_renamed : (ℕ → ℕ) → Region-F Op Region → Region
region_renamed σ layer = roll-Region (record layer { params = renamed_params σ layer.params })

-- an operation, and those in its regions, with other names
unfoldable pub renamed_op : (ℕ → ℕ) → Op → Op
renamed_op σ op = fold-Op Op Region (op_renamed σ) (region_renamed σ) op

-- operations likewise
abbrev pub renamed_ops : (ℕ → ℕ) → List Op → List Op
renamed_ops σ ops = map (renamed_op σ) ops

-- a region likewise
unfoldable pub renamed_region : (ℕ → ℕ) → Region → Region
renamed_region σ region = fold-Region Op Region (op_renamed σ) (region_renamed σ) region

-- an operation that is laid open, likewise
abbrev pub renamed_node : (ℕ → ℕ) → Node → Node
renamed_node σ o = record o { operands = renamed_values σ o.operands; results = renamed_values σ o.results; regions = map (renamed_region σ) o.regions }

-- a function with other names
abbrev pub renamed_func : (ℕ → ℕ) → Func → Func
renamed_func σ f = record f { params = renamed_params σ f.params; body = renamed_region σ f.body }

-- ---- what is the same but for the names

module _ (σ : ℕ → ℕ → ℕ) where
  -- each function's values have the other names that σ gives for its place
  pub record IsRenamed (p q : Program) : Type 0 where
    pub funcs : (k : ℕ) → slice_get q.funcs k ≡ option_map (renamed_func (σ k)) (slice_get p.funcs k)
    pub callees : (a : Attr) → callee_place q.funcs a ≡ callee_place p.funcs a
    pub called : q.called ≡ p.called
    pub uses : (k : ℕ) → slice_get q.uses k ≡ option_map (renamed_values (σ k)) (slice_get p.uses k)

  -- no two values of a function get one name
  abbrev pub IsInjective : Type 0
  IsInjective = (k x y : ℕ) → σ k x ≡ σ k y → x ≡ y

  -- each value has in the second list under its other name what it has in the first
  abbrev pub Sees : ℕ → Env → Env → Type 0
  Sees k env env' = (x : ℕ) → named env' (σ k x) ≡ named env x

  -- the same function, and values under other names
  pub record LikeScope (s t : Scope) : Type 0 where
    pub func : t.func ≡ s.func
    pub nest : t.nest ≡ s.nest
    pub sees : Sees s.func s.env t.env

  -- what follows a region of the function at this place
  pub data LikeFrames : ℕ → List (After × List Op) → List (After × List Op) → Type 0 where
    end : {k : ℕ} → LikeFrames k [] []
    joins : {k : ℕ} (xs : List ValueNo) (rest : List Op) {fs gs : List (After × List Op)} → LikeFrames k fs gs →
        LikeFrames k ((Joins xs, rest) ∷ fs) ((Joins (renamed_values (σ k) xs), renamed_ops (σ k) rest) ∷ gs)
    turns : {k : ℕ} (op : Node) (i upper step : ℕ) (rest : List Op) {fs gs : List (After × List Op)} → LikeFrames k fs gs →
        LikeFrames k ((Turns op i upper step, rest) ∷ fs) ((Turns (renamed_node (σ k) op) i upper step, renamed_ops (σ k) rest) ∷ gs)
    tests : {k : ℕ} (op : Node) (rest : List Op) {fs gs : List (After × List Op)} → LikeFrames k fs gs →
        LikeFrames k ((Tests op, rest) ∷ fs) ((Tests (renamed_node (σ k) op), renamed_ops (σ k) rest) ∷ gs)
    repeats : {k : ℕ} (op : Node) (rest : List Op) {fs gs : List (After × List Op)} → LikeFrames k fs gs →
        LikeFrames k ((Repeats op, rest) ∷ fs) ((Repeats (renamed_node (σ k) op), renamed_ops (σ k) rest) ∷ gs)
    returns : {k : ℕ} (s t : Scope) (xs : List ValueNo) (rest : List Op) {fs gs : List (After × List Op)} → LikeScope s t → LikeFrames s.func fs gs →
        LikeFrames k ((Returns s xs, rest) ∷ fs) ((Returns t (renamed_values (σ s.func) xs), renamed_ops (σ s.func) rest) ∷ gs)
    tries : {k : ℕ} (s t : Scope) (xs : List ValueNo) (rest : List Op) {fs gs : List (After × List Op)} → LikeScope s t → LikeFrames s.func fs gs →
        LikeFrames k ((Tries s xs, rest) ∷ fs) ((Tries t (renamed_values (σ s.func) xs), renamed_ops (σ s.func) rest) ∷ gs)

  -- the same loop but for the names
  pub record LikeLoop (l m : Loop) : Type 0 where
    pub scope : LikeScope l.scope m.scope
    pub params : m.params ≡ renamed_values (σ l.scope.func) l.params
    pub body : m.body ≡ renamed_ops (σ l.scope.func) l.body
    pub spans : m.spans ≡ l.spans
    pub total : m.total ≡ l.total
    pub split : m.split ≡ l.split

  -- what is pending in the function at this place
  pub data LikePending : ℕ → List Pending → List Pending → Type 0 where
    done : {k : ℕ} → LikePending k [] []
    awaits : {k : ℕ} (at : ℕ) (x : ElementName) (xs : List ValueNo) {ps qs : List Pending} → LikePending k ps qs →
        LikePending k (Awaits at x xs ∷ ps) (Awaits at x (renamed_values (σ k) xs) ∷ qs)
    joining : {k : ℕ} (at : ℕ) (l m : Loop) {ps qs : List Pending} → LikeLoop l m → LikePending k ps qs → LikePending k (Joining at l ∷ ps) (Joining at m ∷ qs)
    failing : {k : ℕ} (at : ℕ) {ps qs : List Pending} → LikePending k ps qs → LikePending k (Failing at ∷ ps) (Failing at ∷ qs)

  -- the same task but for the names
  pub record LikeTask (t u : Task) : Type 0 where
    pub pending : LikePending t.scope.func t.pending u.pending
    pub rest : u.rest ≡ renamed_ops (σ t.scope.func) t.rest
    pub frames : LikeFrames t.scope.func t.frames u.frames
    pub scope : LikeScope t.scope u.scope

  -- the same asking, of tasks that are the same but for the names
  pub data LikeAsk : Ask → Ask → Type 0 where
    same : (a : Ask) → LikeAsk a a
    launches : (t u : Task) (r : ℕ) → LikeTask t u → LikeAsk (Launches t r) (Launches u r)
    enters : (l m : Loop) → LikeLoop l m → LikeAsk (Enters l) (Enters m)
    joins_all : (l m : Loop) → LikeLoop l m → LikeAsk (JoinsAll l) (JoinsAll m)

  -- the same step, of such tasks
  pub data LikeNext : Next → Next → Type 0 where
    goes : (t u : Task) → LikeTask t u → LikeNext (Goes t) (Goes u)
    asks : (at : ℕ) (a b : Ask) (xs : List ValueNo) (t u : Task) → LikeAsk a b → LikeTask t u →
        LikeNext (Asks at a xs t) (Asks at b (renamed_values (σ t.scope.func) xs) u)
    ends : (o : Outcome) → LikeNext (Ends o) (Ends o)

-- a task with other names does next what it does with its own
abbrev pub NextIsRenamed : Type 0
NextIsRenamed = (σ : ℕ → ℕ → ℕ) (p q : Program) (t u : Task) → IsInjective σ → IsRenamed σ p q → LikeTask σ t u → LikeNext σ (next p t) (next q u)
