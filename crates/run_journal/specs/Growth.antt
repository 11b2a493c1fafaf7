-- How much steps, bursts and entries make.
use Rattle.std.specs.Prelude.{◌≡◌, ℕ, ◌+◌, ◌*◌, ◌≤◌, ◌<◌, ◌^◌, ◌-◌, List, length, Some}
use Rattle.ir_forms.specs.declared.args.ArgValue.{ArgValue}
use Rattle.ir_forms.specs.declared.runs.FuncNo.{FuncNo}
use Rattle.low_forms.specs.declared.code.LowFunc.{LowFunc}
use Rattle.low_forms.specs.declared.code.LowModule.{LowModule}
use Rattle.step_core.specs.declared.ends.Entry.{Entry}
use Rattle.step_core.specs.declared.limits.Limits.{Limits}
use Rattle.step_core.specs.Core.{Core, start}
use Rattle.run_journal.specs.Within.{entry_within}

-- there are numbers for one more entry
pub record HasRoom (c : Core) : Type 0 where
  pub steps : c.plain.steps + 4097 ≤ 2 ^ 40
  pub tasks : length c.plain.tasks < 2 ^ 32 - 1
  pub objects : length c.plain.objects < 2 ^ 32 - 1
  pub buffers : length c.plain.buffers < 2 ^ 32 - 1

-- after so many entries no more steps, tasks and objects were made than they can make, and no more buffers beside those of
-- fewer than 2^31 arguments
pub record IsWithin (entries : ℕ) (c : Core) : Type 0 where
  pub steps : c.plain.steps ≤ entries * 4097
  pub tasks : length c.plain.tasks ≤ entries + 1
  pub objects : length c.plain.objects ≤ entries
  pub buffers : length c.plain.buffers < entries + 2 ^ 31

-- each entry makes no more than that
abbrev pub EntriesStayWithin : Type 0
EntriesStayWithin =
    (l : Limits) (code : LowModule) (k : ℕ) (c next : Core) (entry : Entry) →
    IsWithin k c → entry_within l code c entry ≡ Some next → IsWithin (k + 1) next

-- and a start is within none
abbrev pub StartsAreWithin : Type 0
StartsAreWithin = (n : FuncNo) (f : LowFunc) (args : List ArgValue) → length args < 2 ^ 31 → IsWithin 0 (start n f args)
