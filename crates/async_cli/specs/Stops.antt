-- The status and the text of each answer.
use Rattle.std.specs.Prelude.{ℕ, if◌then◌else◌, ◌==◌, ◌++◌, List, [], Option, Some, None, codes, ◌≡◌, ⊤}
use Rattle.async_cli.specs.declared.stops.Stop.{Stop}
use Rattle.async_cli.specs.declared.stops.Stop.TheVariants.{Words, Read, TooLong, Module, NoEntry, EntryType, Args, Short, Objects, Tasks, Cells, Stack, Group, Spent, Write, OutOfMemory}
use Rattle.async_cli.specs.declared.answering.Written.{Written}
use Rattle.async_cli.specs.declared.answering.Written.TheVariants.{Whole, Broken, NoMemory}
use Rattle.async_cli.specs.declared.stops.ModuleFault.{ModuleFault}
use Rattle.async_cli.specs.declared.stops.ModuleFault.TheVariants.{Text, Verify}
use Rattle.mlir_lex.specs.declared.kinds.LexFault.{LexFault}
use Rattle.mlir_lex.specs.declared.kinds.LexFault.TheVariants as lex
use Rattle.module_grammar.specs.declared.faults.Limited.{Limited}
use Rattle.module_grammar.specs.declared.faults.Limited.TheVariants as limited
use Rattle.mlir_text.specs.declared.fault.TextFault.{TextFault}
use Rattle.mlir_text.specs.declared.fault.TextFault.TheVariants as text
use Rattle.ir_verify.specs.Faults.{name_of_kind}
use Rattle.step_core.specs.declared.ends.Entry.{Entry}
use Rattle.step_core.specs.declared.limits.Limit.{Limit}
use Rattle.step_core.specs.declared.limits.Limit.TheVariants as limit
use Rattle.run_journal.specs.declared.faults.TaskLook.{TaskLook}
use Rattle.async_cli.specs.declared.tool_stops.ToolStop.{ToolStop}
use Rattle.async_cli.specs.declared.tool_stops.ToolStop.TheVariants.{Shared, BadLine, NotARun, Unfinished}
use Rattle.async_cli.specs.Texts.{numbered, between}

abbrev pub stop_status : Stop → ℕ
stop_status Words = 2
stop_status (TooLong limit) = 3
stop_status (Module fault) = 3
stop_status NoEntry = 3
stop_status (EntryType op) = 3
stop_status (Args at) = 3
stop_status (Short parked) = 4
stop_status (Objects live) = 5
stop_status (Tasks live) = 5
stop_status (Cells used) = 5
stop_status (Stack depth) = 5
stop_status (Group size) = 5
stop_status (Spent entries) = 6
stop_status Read = 7
stop_status (Write written) = 8
stop_status OutOfMemory = 9

-- the status after what became of the text
abbrev pub status_after : ℕ → Written → ℕ
status_after status Whole = status
status_after status (Broken written) = 8
status_after status NoMemory = 9

-- the answer where a run would have passed this limit
abbrev pub limit_stop : Limit → Stop
limit_stop (limit.Objects live) = Objects live
limit_stop (limit.Tasks live) = Tasks live
limit_stop (limit.Cells used) = Cells used
limit_stop (limit.Stack depth) = Stack depth
limit_stop (limit.Group size) = Group size

-- the argument of this index doesn't fit; or its index has no room
abbrev pub IsUnfit : ℕ → Stop → Type 0
IsUnfit at (Args n) = n ≡ at
IsUnfit at OutOfMemory = ⊤
IsUnfit at _ = ⊥

-- ---- the lines of faults

-- a kind of fault, and where it stands
abbrev pub refusal : List ℕ → List ℕ → ℕ → List ℕ
refusal name where_it_is number = codes "refused: " ++ name ++ numbered where_it_is number (codes "\n")

-- a kind of fault, and its byte
abbrev pub at_byte : List ℕ → ℕ → List ℕ
at_byte name at = refusal name (codes " at byte ") at

abbrev pub memory_line : List ℕ
memory_line = codes "stopped: memory\n"

abbrev pub lex_line : LexFault → List ℕ
lex_line (lex.BadUtf8 at) = at_byte (codes "BadUtf8") at
lex_line (lex.OpenString at) = at_byte (codes "OpenString") at
lex_line (lex.BadByte at) = at_byte (codes "BadByte") at
lex_line lex.OutOfMemory = memory_line

abbrev pub limit_name : Limited → List ℕ
limit_name limited.Operations = codes "Limit Operations"
limit_name limited.Functions = codes "Limit Functions"
limit_name limited.Depth = codes "Limit Depth"
limit_name limited.Values = codes "Limit Values"

abbrev pub fault_line : TextFault → List ℕ
fault_line (text.Lex fault) = lex_line fault
fault_line (text.Syntax at) = at_byte (codes "Syntax") at
fault_line (text.UnknownOp at) = at_byte (codes "UnknownOp") at
fault_line (text.UnknownType at) = at_byte (codes "UnknownType") at
fault_line (text.WideNumber at) = at_byte (codes "WideNumber") at
fault_line (text.Limit which at) = at_byte (limit_name which) at
fault_line text.OutOfMemory = memory_line

abbrev pub module_line : ModuleFault → List ℕ
module_line (Text fault) = fault_line fault
module_line (Verify op kind) = refusal (name_of_kind kind) (codes " at operation ") op

-- ---- the texts

-- The line that tells why there is no end, where this entry is asked for. A failed write has none.
abbrev pub stop_text : List ℕ → Stop → List ℕ
stop_text entry Words = codes "refused: words\n"
stop_text entry Read = codes "refused: read fault\n"
stop_text entry (TooLong limit) = numbered (codes "refused: longer than ") limit (codes " bytes\n")
stop_text entry (Module fault) = module_line fault
stop_text entry NoEntry = between (codes "refused: no entry ") entry (codes "\n")
stop_text entry (EntryType op) = numbered (codes "refused: entry type at operation ") op (codes "\n")
stop_text entry (Args at) = numbered (codes "refused: argument ") at (codes "\n")
stop_text entry (Short parked) = numbered (codes "stopped: parked tasks ") parked (codes "\n")
stop_text entry (Objects live) = numbered (codes "stopped: objects ") live (codes "\n")
stop_text entry (Tasks live) = numbered (codes "stopped: tasks ") live (codes "\n")
stop_text entry (Cells used) = numbered (codes "stopped: cells ") used (codes "\n")
stop_text entry (Stack depth) = numbered (codes "stopped: frames ") depth (codes "\n")
stop_text entry (Group size) = numbered (codes "stopped: group is full at ") size (codes "\n")
stop_text entry (Spent entries) = numbered (codes "stopped: entries ") entries (codes "\n")
stop_text entry (Write written) = []
stop_text entry OutOfMemory = memory_line

-- ---- the answers of the commands that wait for nothing

abbrev pub tool_status : ToolStop → ℕ
tool_status (Shared stop) = stop_status stop
tool_status (BadLine line) = 3
tool_status (NotARun number named kept) = 11
tool_status (Unfinished entries) = 6

-- why an entry isn't possible whose task a run has so
abbrev pub why_not : Entry → Option TaskLook → List ℕ
why_not named None = codes ", which is not there\n"
why_not named (Some seen) =
    if seen.parked then codes ", which is parked\n"
    else (if seen.local == named.local then codes ", which cannot take its step\n"
    else numbered (codes ", which has ") seen.local (codes " local steps\n"))

abbrev pub tool_text : List ℕ → ToolStop → List ℕ
tool_text entry (Shared stop) = stop_text entry stop
tool_text entry (BadLine line) = numbered (codes "refused: journal line ") line (codes "\n")
tool_text entry (NotARun number named kept) =
    numbered (codes "refused: entry ") number (numbered (codes " names task ") named.task (why_not named kept))
tool_text entry (Unfinished entries) = numbered (codes "stopped: unfinished after ") entries (codes " entries\n")
