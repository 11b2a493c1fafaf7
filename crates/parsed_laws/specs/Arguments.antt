-- What arguments come to that fit a function.
use Rattle.std.specs.Prelude.{◌≡◌, ◌<◌, ◌^◌, ℕ, List, Some, map, slice_get, ⊤}
use Rattle.ir_forms.specs.declared.args.Arg.{Arg}
use Rattle.ir_forms.specs.declared.args.Arg.TheVariants as arg
use Rattle.ir_forms.specs.declared.args.ArgValue.{ArgValue}
use Rattle.ir_forms.specs.declared.ops.Func.{Func}
use Rattle.arguments.specs.Fits.{Fits, fitted_args}
use Rattle.arguments.specs.Grammar.{Whole, verdict}
use Rattle.source_meaning.specs.TaskOrder.{Each}
use Rattle.check_laws.specs.Laws.{AreArguments}

-- the sizes of a buffer are numbers of 32 bits
abbrev pub HasSizes : Arg → Type 0
HasSizes (arg.Cells dims values) = Each (λ n. n < 2 ^ 32) dims
HasSizes (arg.Fill dims value) = Each (λ n. n < 2 ^ 32) dims
HasSizes _ = ⊤

-- the arguments fit the parameters of the function at this place, and come to these values
pub record FitFunction (funcs : List Func) (entry : ℕ) (args : List Arg) (values : List ArgValue) : Type 0 where
  pub func : Func
  pub found : slice_get funcs entry ≡ Some func
  pub fit : fitted_args (map (λ p. p.1) func.params) args ≡ Fits values

-- What they come to has the shapes of the parameters, and its numbers have 64 bits.
abbrev pub FittedAreArguments : Type 0
FittedAreArguments = (funcs : List Func) (entry : ℕ) (args : List Arg) (values : List ArgValue) → Each HasSizes args → FitFunction funcs entry args values → AreArguments funcs entry values

-- the sizes in a text of arguments are such
abbrev pub ReadsSizes : Type 0
ReadsSizes = (text : List ℕ) (args : List Arg) → verdict text ≡ Whole args → Each HasSizes args

-- the arguments of this text fit the function at this place, and come to these values
pub record AreWritten (funcs : List Func) (entry : ℕ) (text : List ℕ) (values : List ArgValue) : Type 0 where
  pub args : List Arg
  pub read : verdict text ≡ Whole args
  pub fit : FitFunction funcs entry args values

abbrev pub WrittenAreArguments : Type 0
WrittenAreArguments = (funcs : List Func) (entry : ℕ) (text : List ℕ) (values : List ArgValue) → AreWritten funcs entry text values → AreArguments funcs entry values
