-- A text has one answer.
use Rattle.std.proofs.Common.{◌≡◌, sym, ℕ, List, Result, Ok, Err}
use Rattle.op_table.specs.declared.rows.Level.{Level}
use Rattle.ir_forms.specs.declared.ops.Module.{Module}
use Rattle.module_grammar.specs.declared.state.TextToken.{TextToken}
use Rattle.module_grammar.specs.declared.faults.TextLimits.{TextLimits}
use Rattle.module_grammar.specs.declared.faults.GrammarFault.{GrammarFault}
use Rattle.module_grammar.specs.declared.faults.GrammarFault.TheVariants as grammar
use Rattle.module_grammar.specs.Faults.{parsed, AcceptsExactly, NamesFirstFault}
use Rattle.mlir_text.specs.Tokens.{AreTokensOf}
use Rattle.mlir_text.specs.Texts.{HasGrammarFault, IsRefused, IsParsed, told, answer_of}

-- ---- what a call tells

-- the answer of a text with these tokens
pub parsed_is : AcceptsExactly → NamesFirstFault → (limits : TextLimits) (level : Level) (text : List ℕ) (text_tokens : List TextToken) (found : Result Module GrammarFault)
    → AreTokensOf text text_tokens → found ≡ parsed limits level text_tokens → IsParsed limits level text (answer_of found)
parsed_is accepts names limits level text text_tokens (Ok m) are e = (text_tokens, are, (accepts limits level text_tokens m).0 (sym e))
parsed_is accepts names limits level text text_tokens (Err f) are e = by f e
  where
    has : (f : GrammarFault) → Err f ≡ parsed limits level text_tokens → HasGrammarFault limits level text f
    has f e = (text_tokens, are, sym e, names limits level text_tokens f (sym e))

    by : (f : GrammarFault) → Err f ≡ parsed limits level text_tokens → IsRefused limits level text (told f)
    by (grammar.Syntax at) e = has (grammar.Syntax at) e
    by (grammar.UnknownOp at) e = has (grammar.UnknownOp at) e
    by (grammar.UnknownType at) e = has (grammar.UnknownType at) e
    by (grammar.WideNumber at) e = has (grammar.WideNumber at) e
    by (grammar.Limit which at) e = has (grammar.Limit which at) e
