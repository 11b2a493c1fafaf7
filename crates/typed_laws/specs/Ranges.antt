-- Numbers of 64 bits, in all that tasks hold and share.
use Rattle.std.specs.Prelude.{◌≤◌, ◌<◌, ◌^◌, ℕ, List, ⊤}
use Rattle.ir_forms.specs.declared.args.ArgValue.{ArgValue}
use Rattle.ir_forms.specs.declared.args.ArgValue.TheVariants as arg
use Rattle.ir_forms.specs.declared.ops.Op.{Op}
use Rattle.source_meaning.specs.declared.values.Val.{Val}
use Rattle.source_meaning.specs.declared.values.Val.TheVariants.{Number, Memory}
use Rattle.source_meaning.specs.Parts.{Node}
use Rattle.source_meaning.specs.Rows.{most_elements}
use Rattle.source_meaning.specs.Tasks.{Program, After, Returns, Tries, Task, Outcome, Gave, FailedAt}
use Rattle.source_meaning.specs.World.{Store, Gathering, World}
use Rattle.source_meaning.specs.Steps.{operands}
use Rattle.source_meaning.specs.TaskOrder.{Order, IsReached, Each}
use Rattle.carry_laws.specs.Agreement.{IsTaskOf}

-- a number of 64 bits
abbrev pub IsNumber : ℕ → Type 0
IsNumber n = n < 2 ^ 64

-- a number has 64 bits, and so has each size of a buffer
abbrev pub IsInRange : Val → Type 0
IsInRange (Number n) = IsNumber n
IsInRange (Memory b dims) = Each IsNumber dims
IsInRange _ = ⊤

-- each of these values is so
abbrev pub AreInRange : List Val → Type 0
AreInRange vs = Each IsInRange vs

-- the values of a call that follows
abbrev pub AfterInRange : After → Type 0
AfterInRange (Returns scope xs) = AreInRange scope.env
AfterInRange (Tries scope xs) = AreInRange scope.env
AfterInRange _ = ⊤

-- all values that a task holds
pub record TaskInRange (t : Task) : Type 0 where
  pub frames : Each (λ (f : After × List Op). AfterInRange f.0) t.frames
  pub env : AreInRange t.scope.env

-- the values that a task ended with
abbrev pub OutcomeInRange : Outcome → Type 0
OutcomeInRange (Gave vs) = AreInRange vs
OutcomeInRange (FailedAt at) = ⊤

-- all that is shared
pub record WorldInRange (w : World) : Type 0 where
  pub cells : Each (λ (s : Store). Each IsNumber s.cells) w.buffers
  pub sizes : Each (λ (g : Gathering). g.size ≤ most_elements) w.groups
  pub ends : Each (λ (e : List ℕ × Outcome). OutcomeInRange e.1) w.ends

-- an argument whose numbers have 64 bits
abbrev pub ArgInRange : ArgValue → Type 0
ArgInRange (arg.Number n) = IsNumber n
ArgInRange (arg.Cells dims cells) = Each IsNumber dims × Each IsNumber cells

-- With such arguments all values of each task that a run comes to are in range, and so are the operands of whatever
-- operation it reads them for; and all that is shared is.
pub record RunInRange (p : Program) (entry : ℕ) (args : List ArgValue) : Type 0 where
  pub tasks : (t : Task) → IsTaskOf p entry args t → TaskInRange t
  pub operands : (t : Task) (o : Node) → IsTaskOf p entry args t → AreInRange (operands t o)
  pub shared : (s : Order) → IsReached p entry args s → WorldInRange s.world

abbrev pub ValuesAreInRange : Type 0
ValuesAreInRange = (p : Program) (entry : ℕ) (args : List ArgValue) → Each ArgInRange args → RunInRange p entry args
