-- The tokens of a printed text.
use Rattle.std.specs.Prelude.{◌≡◌, ℕ, ◌+◌, ◌-◌, List, [], ◌∷◌, ◌++◌, length, map, take, drop, Ok}
use Rattle.mlir_lex.specs.declared.kinds.Token.{Token}
use Rattle.mlir_lex.specs.declared.kinds.TokenKind.{TokenKind}
use Rattle.mlir_lex.specs.declared.kinds.TokenKind.TheVariants.{End}
use Rattle.mlir_lex.specs.Grammar.{token_at}
use Rattle.mlir_lex.specs.Scan.{reading}
use Rattle.ir_forms.specs.declared.ops.Module.{Module}
use Rattle.mlir_print.specs.Docs.{Doc, Empty, Token as Word, Blank, Line, ◌<>◌, bytes_of}
use Rattle.mlir_print.specs.Printed.{module_doc, printed}

-- the tokens of a document that begins at a byte of a text
abbrev pub tokens_of : Doc → ℕ → List Token
tokens_of Empty at = []
tokens_of (Word kind text) at = token_at kind at (at + length text) ∷ []
tokens_of Blank at = []
tokens_of (Line indent) at = []
tokens_of (d <> e) at = tokens_of d at ++ tokens_of e (at + length (bytes_of d))

-- the tokens of a module's document, and the end of the text
abbrev pub spelled : Module → List Token
spelled m = tokens_of (module_doc m) 0 ++ token_at End (length (printed m)) (length (printed m)) ∷ []

-- the kind and the bytes of each token of a document
abbrev pub words_of : Doc → List (TokenKind × List ℕ)
words_of Empty = []
words_of (Word kind text) = (kind, text) ∷ []
words_of Blank = []
words_of (Line indent) = []
words_of (d <> e) = words_of d ++ words_of e

-- the kind of a token, and the bytes of the text that it takes
abbrev pub word_at : List ℕ → Token → TokenKind × List ℕ
word_at text t = (t.kind, take (t.end - t.start) (drop t.start text))

-- the printed text of each module has exactly the tokens that it was made of
abbrev pub ReadsAsSpelled : Type 0
ReadsAsSpelled = (m : Module) → reading (printed m) ≡ Ok (spelled m)

-- the tokens of each printed text take the bytes that they were made of
abbrev pub TakesWords : Type 0
TakesWords = (m : Module) → map (word_at (printed m)) (spelled m) ≡ words_of (module_doc m) ++ (End, []) ∷ []
