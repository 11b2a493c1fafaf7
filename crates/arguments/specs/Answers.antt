-- What the calls answer.
use Rattle.std.specs.Prelude.{◌≡◌, ℕ, Bool, List, ⊤, Option, Some, None, MatchBool}
use Rattle.ir_forms.specs.declared.args.Arg.{Arg}
use Rattle.ir_forms.specs.declared.args.ArgValue.{ArgValue}
use Rattle.arguments.specs.declared.faults.ArgsBad.{ArgsBad}
use Rattle.arguments.specs.declared.faults.ArgsBad.TheVariants.{Byte, OutOfMemory}
use Rattle.arguments.specs.declared.faults.BadArgs.{BadArgs}
use Rattle.arguments.specs.declared.faults.BadArgs.TheVariants as bad
use Rattle.arguments.specs.Grammar.{Front, Verdict, Whole, Bad}
use Rattle.arguments.specs.Fits.{Fitted, Fits, Wrong}

-- why a text isn't read
abbrev pub IsBad : Verdict → ArgsBad → Type 0
IsBad v (Byte at) = v ≡ Bad at
IsBad v OutOfMemory = ⊤

-- why arguments don't fit
abbrev pub IsWrong : Fitted → BadArgs → Type 0
IsWrong f (bad.Argument at) = f ≡ Wrong at
IsWrong f bad.OutOfMemory = ⊤

-- the byte was taken, with this front behind it, or it can't stand there
abbrev pub Takes : Bool → Option Front → Front → Type 0
Takes went o front = MatchBool went (o ≡ Some front) (o ≡ None)

-- as many values as fit, and the place of the argument that doesn't, if there is one
abbrev pub IsFit : Fitted → Option ℕ → List ArgValue → Type 0
IsFit f None vs = f ≡ Fits vs
IsFit f (Some at) vs = f ≡ Wrong at

-- the arguments of a text, or the place of its first bad byte, if there is one
abbrev pub IsRead : Verdict → Option ℕ → List Arg → Type 0
IsRead v None args = v ≡ Whole args
IsRead v (Some at) args = v ≡ Bad at
