-- The tokens of printed code.
use Rattle.std.specs.Prelude.{◌≡◌, List, [], ◌∷◌, ◌++◌, length, map, Ok}
use Rattle.mlir_lex.specs.declared.kinds.Token.{Token}
use Rattle.mlir_lex.specs.declared.kinds.TokenKind.TheVariants.{End}
use Rattle.mlir_lex.specs.Grammar.{token_at}
use Rattle.mlir_lex.specs.Scan.{reading}
use Rattle.low_forms.specs.declared.code.LowModule.{LowModule}
use Rattle.mlir_print.specs.Spelled.{tokens_of, words_of, word_at}
use Rattle.low_print.specs.Printed.{code_doc, printed_code}

-- the tokens of the document of code, and the end of the text
abbrev pub spelled : LowModule → List Token
spelled code = tokens_of (code_doc code) 0 ++ token_at End (length (printed_code code)) (length (printed_code code)) ∷ []

-- the printed text of all code has exactly the tokens that it was made of
abbrev pub ReadsAsSpelled : Type 0
ReadsAsSpelled = (code : LowModule) → reading (printed_code code) ≡ Ok (spelled code)

-- the tokens of each printed text take the bytes that they were made of
abbrev pub TakesWords : Type 0
TakesWords = (code : LowModule) → map (word_at (printed_code code)) (spelled code) ≡ words_of (code_doc code) ++ (End, []) ∷ []
