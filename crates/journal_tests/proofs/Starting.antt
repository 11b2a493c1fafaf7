-- A run that is made is at its start.
use Rattle.std.proofs.Common.{◌≡◌, ◌<◌, ◌^◌, List, length, Option, Some, None, MatchOption, ap}
use Rattle.ir_forms.specs.declared.args.ArgValue.{ArgValue}
use Rattle.ir_forms.specs.declared.runs.FuncNo.{FuncNo}
use Rattle.low_forms.specs.declared.code.LowFunc.{LowFunc}
use Rattle.low_forms.specs.declared.code.LowModule.{LowModule}
use Rattle.step_core.specs.declared.limits.Limits.{Limits}
use Rattle.step_core.specs.Core.{start}
use Rattle.step_core.specs.Running.{Running}
use Rattle.serial_run.specs.Outcomes.{IsStart}

pub is_start : (o : Option LowFunc) (code : LowModule) (l : Limits) (n : FuncNo) (args : List ArgValue) (now : Running) →
    MatchOption o ⊥ (λ f. now ≡ record { code = code; limits = l; core = start n f args }) → length args < 2 ^ 31 → IsStart now.core
is_start None code l n args now is few = absurd is
is_start (Some f) code l n args now is few = (n, f, args, ap (λ r. r.core) is, few)
