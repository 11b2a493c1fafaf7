-- What is told where an operation fails.
use Rattle.std.specs.Prelude.{ℕ, ◌==◌, if◌then◌else◌, List, [], ◌∷◌, Option, Some, None, codes}
use Rattle.op_table.specs.declared.kind.OpKind.{OpKind}
use Rattle.op_table.specs.declared.kind.OpKind.TheVariants as op
use Rattle.ir_forms.specs.declared.ops.Attr.{Attr}
use Rattle.ir_forms.specs.declared.ops.Attr.TheVariants.{Text}
use Rattle.ir_forms.specs.declared.ops.Func.{Func}
use Rattle.ir_forms.specs.declared.ops.Module.{Module}
use Rattle.ir_forms.specs.declared.ops.Op.{Op, Op-F, out-Op}
use Rattle.ir_forms.specs.declared.ops.Op.TheFolds.{fold-Op, fold-Region}
use Rattle.ir_forms.specs.declared.ops.Region.{Region, Region-F}

-- an assertion's own text
abbrev pub text_of : Attr → Option (List ℕ)
text_of (Text text) = Some text
text_of _ = None

-- the message of an operation; most kinds have none, as they don't fail by themselves
abbrev pub message : OpKind → Attr → Option (List ℕ)
message op.CfAssert attr = text_of attr
message op.AsyncAwait attr = Some (codes "Awaited async operand is in error state")
message op.AsyncAwaitAll attr = Some (codes "Awaited async operand is in error state")
message op.ArithDivsi attr = Some (codes "division has no result")
message op.ArithDivui attr = Some (codes "division has no result")
message op.ArithRemsi attr = Some (codes "division has no result")
message op.ArithRemui attr = Some (codes "division has no result")
message op.ArithShli attr = Some (codes "shift out of range")
message op.ArithShrsi attr = Some (codes "shift out of range")
message op.ArithShrui attr = Some (codes "shift out of range")
message op.MemrefLoad attr = Some (codes "index out of range")
message op.MemrefStore attr = Some (codes "index out of range")
message op.MemrefDim attr = Some (codes "index out of range")
message op.MemrefAlloc attr = Some (codes "allocation out of range")
message op.AsyncCreateGroup attr = Some (codes "group size out of range")
message op.ScfFor attr = Some (codes "loop bounds out of range")
message op.ScfParallel attr = Some (codes "parallel loop failed")
message _ attr = None

abbrev pub or_later : Option (List ℕ) → Option (List ℕ) → Option (List ℕ)
or_later (Some text) later = Some text
or_later None later = later

-- the first that there is
abbrev pub first_of : List (Option (List ℕ)) → Option (List ℕ)
first_of [] = None
first_of (o ∷ os) = or_later o (first_of os)

-- an operation's number
abbrev pub number_of : Op → ℕ
number_of o = (out-Op o).at

-- an operation's own message, if this is its number
abbrev pub own_message : ℕ → ℕ → OpKind → Attr → Option (List ℕ)
own_message number at kind attr = if at == number then message kind attr else None

-- the message at this number, of an operation or of those in its regions
abbrev pub message_here : ℕ → Op-F (Option (List ℕ)) (Option (List ℕ)) → Option (List ℕ)
message_here number layer = or_later (own_message number layer.at layer.kind layer.attr) (first_of layer.regions)

abbrev pub message_under : Region-F (Option (List ℕ)) (Option (List ℕ)) → Option (List ℕ)
message_under layer = first_of layer.ops

unfoldable pub message_at : ℕ → Op → Option (List ℕ)
message_at number = fold-Op (Option (List ℕ)) (Option (List ℕ)) (message_here number) message_under

unfoldable pub message_in : ℕ → Region → Option (List ℕ)
message_in number = fold-Region (Option (List ℕ)) (Option (List ℕ)) (message_here number) message_under

abbrev pub message_in_funcs : ℕ → List Func → Option (List ℕ)
message_in_funcs number [] = None
message_in_funcs number (f ∷ fs) = or_later (message_in number f.body) (message_in_funcs number fs)

abbrev pub or_empty : Option (List ℕ) → List ℕ
or_empty None = []
or_empty (Some text) = text

-- the message of the first operation of the text that has this number and one; else it is empty
abbrev pub note_at : Module → ℕ → List ℕ
note_at program number = or_empty (message_in_funcs number program.funcs)
