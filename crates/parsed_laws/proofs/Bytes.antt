-- The bytes of a text's tokens are bytes.
use Rattle.std.proofs.Common.{◌≡◌, ◌<◌, ℕ, zero, suc, ◌+◌, ◌-◌, ◌/◌, ◌%◌, Bool, true, false, cond, nat_lt, List, [], ◌∷◌, ◌++◌, take, drop, Option, Some, IsUtf8, inl, inr, refl, subst, arith, ltb-true}
use Rattle.std.proofs.lemmas.Bool.{and_parts}
use Rattle.std.proofs.Math.Nat.{mod-lt}
use lib.Utf8.{scalar, scalars, scalar_cases, encode, encodes}
use Rattle.mlir_lex.specs.declared.kinds.Token.{Token}
use Rattle.mlir_text.specs.Tokens.{text_tokens_behind}
use Rattle.mlir_print.specs.Printable.{AreBytes}
use Rattle.read_forms.specs.Reads.{HaveBytes}

-- ---- UTF-8

both-are : (xs ys : List ℕ) → AreBytes xs → AreBytes ys → AreBytes (xs ++ ys)
both-are [] ys h g = g
both-are (x ∷ xs) ys h g = (h.0, both-are xs ys h.1 g)

next-is : (n : ℕ) → 128 + n % 64 < 256
next-is n = let low = mod-lt n {m = 64} (omega arith) in omega (arith, low)

scalar-below : (c : ℕ) → scalar c ≡ true → c < 1114112
scalar-below c e = elim (scalar_cases c e) [ inl low ↦ omega (arith, low) | inr high ↦ let h = high.1 in omega (arith, h) ]

one-is : (c : ℕ) → c < 1114112 → AreBytes (encode c)
unfolding encode
one-is c most = by (nat_lt c 128) (nat_lt c 2048) (nat_lt c 65536) (ltb-true c 128) (ltb-true c 2048) (ltb-true c 65536)
  where
    by : (a b d : Bool) → (a ≡ true → c < 128) → (b ≡ true → c < 2048) → (d ≡ true → c < 65536)
        → AreBytes (cond a (c ∷ []) (cond b ((192 + c / 64) ∷ (128 + c % 64) ∷ []) (cond d ((224 + c / 4096) ∷ (128 + (c / 64) % 64) ∷ (128 + c % 64) ∷ [])
        ((240 + c / 262144) ∷ (128 + (c / 4096) % 64) ∷ (128 + (c / 64) % 64) ∷ (128 + c % 64) ∷ []))))
    by true b d f g h = (let low = f refl in omega (arith, low), tt)
    by false true d f g h = (let low = g refl in omega (arith, low), (next-is c, tt))
    by false false true f g h = (let low = h refl in omega (arith, low), (next-is (c / 64), (next-is c, tt)))
    by false false false f g h = (omega (arith, most), (next-is (c / 4096), (next-is (c / 64), (next-is c, tt))))

all-are : (cs : List ℕ) → scalars cs ≡ true → AreBytes (encodes cs)
all-are [] e = tt
all-are (c ∷ cs) e =
    let parts = and_parts (scalar c) (scalars cs) e in
    both-are (encode c) (encodes cs) (one-is c (scalar-below c parts.0)) (all-are cs parts.1)

utf8-is : (text : List ℕ) → IsUtf8 text → AreBytes text
utf8-is text u = subst AreBytes u.1.1 (all-are u.0 u.1.0)

-- ---- tokens

front-is : (n : ℕ) (bs : List ℕ) → AreBytes bs → AreBytes (take n bs)
front-is zero bs are = tt
front-is (suc n) [] are = tt
front-is (suc n) (b ∷ bs) are = (are.0, front-is n bs are.1)

rest-is : (n : ℕ) (bs : List ℕ) → AreBytes bs → AreBytes (drop n bs)
rest-is zero bs are = are
rest-is (suc n) [] are = tt
rest-is (suc n) (b ∷ bs) are = rest-is n bs are.1

tokens-have : (text : List ℕ) (end : Option ℕ) (tokens : List Token) → AreBytes text → HaveBytes (text_tokens_behind text end tokens)
tokens-have text end [] are = tt
tokens-have text end (t ∷ ts) are = (front-is (t.end - t.start) (drop t.start text) (rest-is t.start text are), tokens-have text (Some t.end) ts are)

pub tokens_have_bytes : (text : List ℕ) (end : Option ℕ) (tokens : List Token) → IsUtf8 text → HaveBytes (text_tokens_behind text end tokens)
tokens_have_bytes text end tokens u = tokens-have text end tokens (utf8-is text u)
