-- A text as it is laid out: its tokens, and the blanks and new lines between them.
use Rattle.std.specs.Prelude.{ℕ, List, [], ◌∷◌, ◌++◌, Option, Some, None, decimal, codes}
use Rattle.mlir_lex.specs.declared.kinds.TokenKind.{TokenKind}
use Rattle.mlir_lex.specs.declared.kinds.TokenKind.TheVariants as kind

infixr 60 ◌<>◌
-- Nothing, a token with its bytes, a blank, a new line with its indentation, or one document directly after another.
pub data Doc : Type 0 where
  Empty : Doc
  Token : TokenKind → List ℕ → Doc
  Blank : Doc
  Line : List ℕ → Doc
  ◌<>◌ : Doc → Doc → Doc

-- the bytes of a document
abbrev pub bytes_of : Doc → List ℕ
bytes_of Empty = []
bytes_of (Token k text) = text
bytes_of Blank = 32 ∷ []
bytes_of (Line indent) = 10 ∷ indent
bytes_of (d <> e) = bytes_of d ++ bytes_of e

-- a region's lines stand two blanks further in
abbrev pub deeper : List ℕ → List ℕ
deeper indent = indent ++ 32 ∷ 32 ∷ []

abbrev pub word : List ℕ → Doc
word text = Token kind.Name text

abbrev pub mark : ℕ → Doc
mark b = Token (kind.Byte b) (b ∷ [])

abbrev pub comma : Doc
comma = mark 44 <> Blank

abbrev pub number : ℕ → Doc
number n = Token kind.Digits (decimal n)

-- ` : ` with a blank on both sides, likewise ` = ` and ` -> `
abbrev pub colon : Doc
colon = Blank <> mark 58 <> Blank

abbrev pub equals : Doc
equals = Blank <> mark 61 <> Blank

abbrev pub arrow : Doc
arrow = Blank <> Token kind.Arrow (codes "->") <> Blank

abbrev pub parens : Doc → Doc
parens d = mark 40 <> d <> mark 41

abbrev pub brackets : Doc → Doc
brackets d = mark 91 <> d <> mark 93

-- a keyword between blanks
abbrev pub keyword : List ℕ → Doc
keyword text = Blank <> word text <> Blank

-- what stands after the first of a list: a comma and the next, each time
abbrev pub more : {A : Type 0} → (A → Doc) → List A → Doc
more show [] = Empty
more show (x ∷ xs) = comma <> show x <> more show xs

-- a list with commas
abbrev pub commas : {A : Type 0} → (A → Doc) → List A → Doc
commas show [] = Empty
commas show (x ∷ xs) = show x <> more show xs

-- what is missing prints as nothing
abbrev pub shown : {A : Type 0} → (A → Doc) → Option A → Doc
shown show None = Empty
shown show (Some x) = show x
