-- What operations do that nothing shared sees.
use Rattle.std.specs.Prelude.{◌≡◌, ◌<◌, ℕ, Bool, true, false, List, [], ◌∷◌, ◌++◌, ⊤}
use Rattle.ir_forms.specs.declared.ops.Op.{Op, out-Op}
use Rattle.ir_forms.specs.declared.ops.ValueNo.{ValueNo}
use Rattle.ir_verify.specs.declared.place.Nest.{Nest}
use Rattle.check_insert.specs.Shape.{guard_of, insertion}
use Rattle.source_meaning.specs.Values.{Env, named, values_at}
use Rattle.source_meaning.specs.Parts.{Node}
use Rattle.source_meaning.specs.Tasks.{Program, After, Pending, Task, Goes}
use Rattle.source_meaning.specs.Flow.{fails}
use Rattle.source_meaning.specs.Steps.{next}
use Rattle.source_meaning.specs.TaskOrder.{Each}
use Rattle.check_laws.specs.Fits.{SmallTypes, Fits, has_result}

-- a task of the function at this place with nothing pending, which has these operations left
abbrev pub standing : ℕ → Nest → List (After × List Op) → List Op → Env → Task
standing k n fs ops env = record { pending = []; rest = ops; frames = fs; scope = record { func = k; nest = n; env = env } }

-- the operation that a task begins has a result, where it begins one
abbrev pub SafeAt : List Pending → List Op → Env → Type 0
SafeAt [] (o ∷ rest) env = has_result (out-Op o).kind (out-Op o) (values_at env (out-Op o).operands) ≡ true
SafeAt _ _ env = ⊤

abbrev pub IsSafe : Task → Type 0
IsSafe t = SafeAt t.pending t.rest t.scope.env

module _ (q : Program) where
  -- steps that nothing shared sees lead to the task v from another; each operation on the way has a result
  pub data Ahead (v : Task) : Task → Type 0 where
    here : Ahead v v
    goes_on : {t u : Task} → IsSafe t → next q t ≡ Goes u → Ahead v u → Ahead v t

  -- with these values the operations lead to those, wherever they stand
  abbrev pub Runs : List Op → Env → Env → Type 0
  Runs ops env other = (k : ℕ) (n : Nest) (fs : List (After × List Op)) (r : List Op) → Ahead (standing k n fs r other) (standing k n fs (ops ++ r) env)

  -- the task comes to one that fails with this number, in the same function and frames, and not for want of a result
  pub record FailsAt (number : ℕ) (k : ℕ) (n : Nest) (fs : List (After × List Op)) (t : Task) : Type 0 where
    pub left : List Op
    pub env : Env
    pub ahead : Ahead (standing k n fs left env) t
    pub safe : IsSafe (standing k n fs left env)
    pub fails : next q (standing k n fs left env) ≡ fails number (standing k n fs left env)

  -- with these values one of the operations fails, wherever they stand
  abbrev pub Fails : ℕ → List Op → Env → Type 0
  Fails number ops env = (k : ℕ) (n : Nest) (fs : List (After × List Op)) (r : List Op) → FailsAt number k n fs (standing k n fs (ops ++ r) env)

-- the values below a number are the same
abbrev pub Keeps : ℕ → Env → Env → Type 0
Keeps free env other = (x : ℕ) → x < free → named other x ≡ named env x

-- the values behind operations that were passed
pub record Passes (q : Program) (free : ℕ) (ops : List Op) (env : Env) : Type 0 where
  pub other : Env
  pub runs : Runs q ops env other
  pub keeps : Keeps free env other

-- they are passed, or one of them fails with this number
abbrev pub Decides : Program → ℕ → ℕ → List Op → Env → Bool → Type 0
Decides q number free ops env true = Passes q free ops env
Decides q number free ops env false = Fails q number ops env

-- What is inserted before an operation is passed exactly where the operation has a result. So behind its checks each
-- operation has one, and where it has none, one of them fails with its number.
abbrev pub InsertionDecides : Type 0
InsertionDecides = (q : Program) (o : Node) (free : ℕ) (env : Env) → Each (λ (v : ValueNo). v.0 < free) o.operands → SmallTypes (o.written, o.types) → Fits (guard_of o.kind) o (values_at env o.operands) →
    Decides q o.at free (insertion o free).ops env (has_result o.kind o (values_at env o.operands))
