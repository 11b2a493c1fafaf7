-- Faults and their order.
use Rattle.std.specs.Prelude.{ℕ, ◌==◌, nat_lt, ◌&&◌, ◌||◌, Bool, cond, List, Option, Some, None, codes}
use Rattle.ir_verify.specs.declared.fault.VerifyKind.{VerifyKind}
use Rattle.ir_verify.specs.declared.fault.VerifyKind.TheVariants.{Undefined, TypeMismatch, Terminator, UnknownFunc, Arity, AsyncInMemref, BlockingAwait}
use Rattle.ir_verify.specs.declared.fault.Broken.{Broken}

-- the place of a kind in the order of the kinds
abbrev pub rank : VerifyKind → ℕ
rank Undefined = 0
rank TypeMismatch = 1
rank Terminator = 2
rank UnknownFunc = 3
rank Arity = 4
rank AsyncInMemref = 5
rank BlockingAwait = 6

-- the bytes of a kind's name
abbrev pub name_of_kind : VerifyKind → List ℕ
name_of_kind Undefined = codes "Undefined"
name_of_kind TypeMismatch = codes "TypeMismatch"
name_of_kind Terminator = codes "Terminator"
name_of_kind UnknownFunc = codes "UnknownFunc"
name_of_kind Arity = codes "Arity"
name_of_kind AsyncInMemref = codes "AsyncInMemref"
name_of_kind BlockingAwait = codes "BlockingAwait"

-- an operation of a lesser number stands before, and at one operation a kind that is earlier in the order
abbrev pub is_before : Broken → Broken → Bool
is_before f g = nat_lt f.op g.op || (f.op == g.op && nat_lt (rank f.kind) (rank g.kind))

-- the earlier of a fault and the one before
abbrev pub earlier : Option Broken → Broken → Option Broken
earlier None f = Some f
earlier (Some g) f = cond (is_before f g) (Some f) (Some g)

abbrev pub noted : Option Broken → Bool → Broken → Option Broken
noted best is_broken f = cond is_broken (earlier best f) best
