-- A printed text is read as the module that was printed.
use Rattle.std.specs.Prelude.{◌≡◌, ◌⊎◌, ◌<◌, ◌≤◌, ◌-◌, ◌^◌, ℕ, List, length, Result, Ok, Err, IsTrue}
use Rattle.op_table.specs.declared.rows.Level.{Level}
use Rattle.ir_forms.specs.declared.ops.Module.{Module}
use Rattle.module_grammar.specs.declared.faults.TextLimits.{TextLimits}
use Rattle.mlir_text.specs.declared.fault.TextFault.{TextFault}
use Rattle.mlir_text.specs.declared.fault.TextFault.TheVariants.{OutOfMemory}
use Rattle.mlir_text.specs.Texts.{IsTextOf, IsParsed}
use Rattle.mlir_print.specs.Printed.{printed}
use Rattle.mlir_print.specs.Printable.{AreBytes, IsPrintable}
use Rattle.mlir_print.specs.Depth.{depth_of}
use Rattle.read_forms.specs.Known.{has_no_unknown}

-- the widest limits, with regions to a depth of 512
abbrev pub widest : TextLimits
widest = record { operations = 4294967295; functions = 4294967295; depth = 512; values = 4294967295 }

-- the answer is the module, or want of memory
abbrev pub IsOnly : Module → Result Module TextFault → Type 0
IsOnly m answer = (answer ≡ Ok m) ⊎ (answer ≡ Err OutOfMemory)

-- The printed text of a printable module stands for it, where it isn't too long and the module isn't too deep.
abbrev pub PrintsBack : Type 0
PrintsBack = (level : Level) (m : Module) → IsPrintable level m → depth_of m ≤ 512 → length (printed m) < 2 ^ 32 → IsTextOf widest level (printed m) m

-- Whatever a text stands for, where it has no unknown value, prints as a text that is read as the same module, if that is shorter
-- than 2^32 bytes.
abbrev pub ReadsBack : Type 0
ReadsBack = (limits : TextLimits) (level : Level) (text : List ℕ) (m : Module) (answer : Result Module TextFault) → limits.values < 2 ^ 32 - 1 → limits.depth ≤ 512
    → AreBytes text → IsTextOf limits level text m → IsTrue (has_no_unknown m) → length (printed m) < 2 ^ 32
    → IsParsed widest level (printed m) answer → IsOnly m answer
