-- What the grammar reads can be printed.
use Rattle.std.specs.Prelude.{◌≡◌, ◌<◌, ◌-◌, ◌^◌, List, [], ◌∷◌, Ok, IsTrue, ⊤}
use Rattle.op_table.specs.declared.rows.Level.{Level}
use Rattle.ir_forms.specs.declared.ops.Module.{Module}
use Rattle.module_grammar.specs.declared.state.TextToken.{TextToken}
use Rattle.module_grammar.specs.declared.state.State.{State}
use Rattle.module_grammar.specs.Engine.{Leads}
use Rattle.module_grammar.specs.State.{at_start, module_of}
use Rattle.module_grammar.specs.Rules.{grammar}
use Rattle.module_grammar.specs.Texts.{whole}
use Rattle.module_grammar.specs.declared.faults.TextLimits.{TextLimits}
use Rattle.module_grammar.specs.Faults.{parsed}
use Rattle.mlir_print.specs.Printable.{AreBytes, IsPrintable}
use Rattle.read_forms.specs.Known.{has_no_unknown}

-- the text of each token is made of bytes
abbrev pub HaveBytes : List TextToken → Type 0
HaveBytes [] = ⊤
HaveBytes (t ∷ ts) = AreBytes t.text × HaveBytes ts

-- The tokens are a text of the level that stands for the module, and name fewer values than there are numbers.
abbrev pub IsSmallText : Level → List TextToken → Module → Type 0
IsSmallText level ts m =
    (s : State) × Leads (grammar level) whole at_start ts s × (m ≡ module_of s) × (s.counted < 2 ^ 32 - 1)

-- a text's module, where it has no unknown value, is the meaning of its printed text
abbrev pub ReadsPrintable : Type 0
ReadsPrintable = (level : Level) (ts : List TextToken) (m : Module)
    → HaveBytes ts → IsSmallText level ts m → IsTrue (has_no_unknown m) → IsPrintable level m

-- the same of a module that is the answer, within limits of fewer values than there are numbers
abbrev pub ParsesPrintable : Type 0
ParsesPrintable = (limits : TextLimits) (level : Level) (ts : List TextToken) (m : Module) → limits.values < 2 ^ 32 - 1
    → HaveBytes ts → parsed limits level ts ≡ Ok m → IsTrue (has_no_unknown m) → IsPrintable level m
