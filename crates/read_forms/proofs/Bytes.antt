-- The bytes that a token says.
use Rattle.std.proofs.Common.{◌<◌, ℕ, Bool, true, false, cond, ◌==◌, List, [], ◌∷◌, drop, Option, Some, None, subst, arith}
use Rattle.std.specs.Prelude.{⊤}
use Rattle.mlir_lex.specs.declared.kinds.TokenKind.{TokenKind}
use Rattle.mlir_lex.specs.declared.kinds.TokenKind.TheVariants as kind
use Rattle.module_grammar.specs.declared.state.TextToken.{TextToken}
use Rattle.module_grammar.specs.Tokens.{hex_byte, short_escape, said, string_of, symbol_of_kind, symbol_of}
use Rattle.module_grammar.proofs.Runs.{by_option}
use Rattle.mlir_print.specs.Printable.{AreBytes}

IfByte : Option ℕ → Type 0
IfByte None = ⊤
IfByte (Some x) = x < 256

either : (b : Bool) (x y : Option ℕ) → IfByte x → IfByte y → IfByte (cond b x y)
either true x y h i = h
either false x y h i = i

short-byte : (b : ℕ) → IfByte (short_escape b)
unfolding IfByte
short-byte b =
    either (b == 34) (Some 34) _ (omega arith) (either (b == 92) (Some 92) _ (omega arith)
    (either (b == 110) (Some 10) _ (omega arith) (either (b == 116) (Some 9) None (omega arith) tt)))

either-bytes : (b : Bool) (x y : List ℕ) → AreBytes x → AreBytes y → AreBytes (cond b x y)
either-bytes true x y h i = h
either-bytes false x y h i = i

hex-small : (a b : ℕ) → hex_byte a b < 256
hex-small a b = omega arith

said-bytes : (bs : List ℕ) (hidden : Bool) (first : Option ℕ) → AreBytes bs → AreBytes (said bs hidden first)
unfolding IfByte
said-bytes [] hidden first h = tt
said-bytes (b ∷ bs) hidden (Some a) h = (hex-small a b, said-bytes bs false None h.1)
said-bytes (b ∷ bs) true None h =
    by_option (short_escape b)
    (λ x e. rw (e, said) (subst IfByte e (short-byte b), said-bytes bs false None h.1))
    (λ e. rw (e, said) (said-bytes bs false (Some b) h.1))
said-bytes (b ∷ bs) false None h =
    either-bytes (b == 92) (said bs true None) _ (said-bytes bs true None h.1)
    (either-bytes (b == 34) [] (b ∷ said bs false None) tt (h.0, said-bytes bs false None h.1))

drop-bytes : (bs : List ℕ) → AreBytes bs → AreBytes (drop 1 bs)
drop-bytes [] h = tt
drop-bytes (b ∷ bs) h = h.1

pub string-bytes : (text : List ℕ) → AreBytes text → AreBytes (string_of text)
string-bytes text h = said-bytes (drop 1 text) false None (drop-bytes text h)

of-kind : (k : TokenKind) (text : List ℕ) → AreBytes text → AreBytes (symbol_of_kind k text)
of-kind kind.SymbolText text h = string-bytes (drop 1 text) (drop-bytes text h)
of-kind _ text h = drop-bytes text h

pub symbol-bytes : (t : TextToken) → AreBytes t.text → AreBytes (symbol_of t)
symbol-bytes t h = of-kind t.kind t.text h
