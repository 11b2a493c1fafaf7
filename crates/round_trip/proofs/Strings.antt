-- What printed strings and symbols say: the bytes that they were written for.
use Rattle.std.proofs.Common.{◌≡◌, ◌<◌, ℕ, ◌/◌, Bool, true, false, ◌&&◌, ◌||◌, ◌==◌, nat_lt, List, [], ◌∷◌, ◌++◌, Option, Some, None, is_none, refl, sym, ap, subst, ◌∙◌, append_assoc, eqb-true}
use Rattle.mlir_lex.specs.declared.kinds.TokenKind.TheVariants as kind
use Rattle.module_grammar.specs.Tokens.{said, string_of, symbol_of_kind, short_escape, hex_byte}
use Rattle.mlir_print.specs.Printable.{AreBytes}
use Rattle.mlir_print.specs.Tokens.{hex_digit, escaped, all_escaped, quoted}
use Rattle.mlir_print.proofs.Words.{passes}

-- ---- one byte

and-both : (a b : Bool) → a && b ≡ true → (a ≡ true) × (b ≡ true)
and-both true b e = (refl, e)
and-both false b e = absurd cc

-- a byte's two digits say it, and the first is no escape of its own
abbrev is_said : ℕ → Bool
is_said b = is_none (short_escape (hex_digit (b / 16))) && (hex_byte (hex_digit (b / 16)) (hex_digit b) == b)

none-is : (o : Option ℕ) → is_none o ≡ true → o ≡ None
none-is None e = refl
none-is (Some l) e = absurd cc

hex-said : (b : ℕ) (rest : List ℕ) → b < 256 → said (92 ∷ hex_digit (b / 16) ∷ hex_digit b ∷ rest) false None ≡ b ∷ said rest false None
hex-said b rest h =
    let e = and-both _ _ (passes is_said 256 b refl h) in
    let n : short_escape (hex_digit (b / 16)) ≡ None = none-is _ e.0 in
    let s : hex_byte (hex_digit (b / 16)) (hex_digit b) ≡ b = eqb-true _ _ e.1 in
    rw (n, s) refl

plain-said : (b : ℕ) (rest : List ℕ) → (b == 34) ≡ false → (b == 92) ≡ false → said (b ∷ rest) false None ≡ b ∷ said rest false None
plain-said b rest no_quote no_backslash = rw (no_quote, no_backslash) refl

escaped-said : (b : ℕ) (rest : List ℕ) → b < 256 → said (escaped b ++ rest) false None ≡ b ∷ said rest false None
escaped-said b rest h = by_quote (b == 34) refl
  where
    by_range : (out : Bool) → (nat_lt b 32 || nat_lt 126 b) ≡ out → (b == 34) ≡ false → (b == 92) ≡ false
        → said (escaped b ++ rest) false None ≡ b ∷ said rest false None
    by_range true out no_quote no_backslash = rw (no_quote, no_backslash, out) (hex-said b rest h)
    by_range false out no_quote no_backslash = rw (no_quote, no_backslash, out) (plain-said b rest no_quote no_backslash)

    by_backslash : (is : Bool) → (b == 92) ≡ is → (b == 34) ≡ false → said (escaped b ++ rest) false None ≡ b ∷ said rest false None
    by_backslash true is no_quote = subst (λ x. said (escaped x ++ rest) false None ≡ x ∷ said rest false None) (sym (eqb-true b 92 is)) refl
    by_backslash false is no_quote = by_range (nat_lt b 32 || nat_lt 126 b) refl no_quote is

    by_quote : (is : Bool) → (b == 34) ≡ is → said (escaped b ++ rest) false None ≡ b ∷ said rest false None
    by_quote true is = subst (λ x. said (escaped x ++ rest) false None ≡ x ∷ said rest false None) (sym (eqb-true b 34 is)) refl
    by_quote false is = by_backslash (b == 92) refl is

-- ---- strings and symbols

all-said : (text : List ℕ) → AreBytes text → said (all_escaped text ++ 34 ∷ []) false None ≡ text
all-said [] are = refl
all-said (b ∷ bs) are =
    ap (λ (x : List ℕ). said x false None) (append_assoc (escaped b) (all_escaped bs) (34 ∷ []))
    ∙ escaped-said b (all_escaped bs ++ 34 ∷ []) are.0 ∙ ap (λ (x : List ℕ). b ∷ x) (all-said bs are.1)

pub string-back : (text : List ℕ) → AreBytes text → string_of (quoted text) ≡ text
string-back text are = all-said text are

pub symbol-back : (name : List ℕ) → AreBytes name → symbol_of_kind kind.SymbolText (64 ∷ quoted name) ≡ name
symbol-back name are = all-said name are
