-- The grammar makes of the tokens of a printed text the module that was printed.
use Rattle.std.specs.Prelude.{◌≡◌, ◌<◌, ℕ, ◌+◌, Bool, List, [], ◌∷◌, ◌++◌, length}
use Rattle.mlir_lex.specs.declared.kinds.TokenKind.{TokenKind}
use Rattle.mlir_lex.specs.declared.kinds.TokenKind.TheVariants.{End}
use Rattle.op_table.specs.declared.rows.Level.{Level}
use Rattle.ir_forms.specs.declared.ops.Module.{Module}
use Rattle.module_grammar.specs.declared.state.TextToken.{TextToken}
use Rattle.module_grammar.specs.declared.state.State.{State}
use Rattle.module_grammar.specs.Engine.{Leads}
use Rattle.module_grammar.specs.State.{at_start, module_of}
use Rattle.module_grammar.specs.Rules.{grammar}
use Rattle.module_grammar.specs.Texts.{whole}
use Rattle.mlir_print.specs.Printed.{module_doc}
use Rattle.mlir_print.specs.Spelled.{words_of}
use Rattle.mlir_print.specs.Printable.{IsPrintable}

-- tokens with these kinds and bytes; where they stand, and whether they follow at once, is given by number
abbrev pub text_tokens : (ℕ → ℕ) → (ℕ → Bool) → ℕ → List (TokenKind × List ℕ) → List TextToken
text_tokens at joined n [] = []
text_tokens at joined n (w ∷ ws) = record { kind = w.0; text = w.1; at = at n; joined = joined n } ∷ text_tokens at joined (n + 1) ws

-- operations, functions and named values are fewer than this
pub record IsSmall (s : State) (tokens : ℕ) : Type 0 where
  pub operations : s.begun < tokens
  pub functions : s.functions < tokens
  pub values : s.counted < tokens

-- The tokens are a text of the level that stands for the module, and begins fewer things than it has tokens.
abbrev pub IsSmallText : Level → List TextToken → Module → Type 0
IsSmallText level ts m = (s : State) × Leads (grammar level) whole at_start ts s × (m ≡ module_of s) × IsSmall s (length ts)

-- so it is of the tokens of a printed text, wherever they stand
abbrev pub GivesBack : Type 0
GivesBack = (level : Level) (m : Module) (at : ℕ → ℕ) (joined : ℕ → Bool) → IsPrintable level m
    → IsSmallText level (text_tokens at joined 0 (words_of (module_doc m) ++ (End, []) ∷ [])) m

abbrev pub Few : Type 0
Few = (level : Level) (ts : List TextToken) (s : State) → Leads (grammar level) whole at_start ts s → s.begun < length ts
