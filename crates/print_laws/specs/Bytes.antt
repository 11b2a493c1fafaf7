-- The bytes of a printed text, and the tokens of a text against its bytes.
use Rattle.std.specs.Prelude.{◌≡◌, ◌≤◌, ℕ, ◌+◌, List, length, Ok, IsUtf8}
use Rattle.mlir_lex.specs.declared.kinds.Token.{Token}
use Rattle.mlir_lex.specs.Scan.{reading}
use Rattle.ir_forms.specs.declared.ops.Module.{Module}
use Rattle.mlir_print.specs.Printed.{printed}

-- the printed text of each module is UTF-8
abbrev pub IsPlainText : Type 0
IsPlainText = (m : Module) → IsUtf8 (printed m)

-- a text has at most a token for each byte, and the one that ends it
abbrev pub HasFewTokens : Type 0
HasFewTokens = (text : List ℕ) (tokens : List Token) → reading text ≡ Ok tokens → length tokens ≤ length text + 1
