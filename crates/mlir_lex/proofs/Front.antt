-- `front` gives the longest token, and gives none only where none begins.
use Rattle.std.proofs.Common.{◌≡◌, ◌⊎◌, inl, inr, ⊎_elim, ℕ, ◌<◌, ◌≤◌, min, true, false, List, [], ◌∷◌, ◌++◌, length, drop, take, Option, Some, None, ap, sym, ◌∙◌, subst, arith, length-take-le, take-append-drop}
use Rattle.std.proofs.lemmas.Bool.{false≢true, and_parts}
use Rattle.std.proofs.lemmas.List.{take_min}
use Rattle.std.proofs.lemmas.Option.{same_Some}
use Rattle.mlir_lex.specs.declared.kinds.TokenKind.{TokenKind}
use Rattle.mlir_lex.specs.declared.kinds.TokenKind.TheVariants.{Name, ValueName, BlockName, SymbolName, HashName, SymbolText, Digits, Hex, Text, Memref, BangName, Arrow, Byte, End}
use Rattle.mlir_lex.specs.declared.bytes.ByteClass.TheVariants.{Mark}
use Rattle.mlir_lex.specs.Bytes.{is_in}
use Rattle.mlir_lex.specs.Grammar.{is_token, IsLongest}
use Rattle.mlir_lex.specs.Laws.{is_apart}
use Rattle.mlir_lex.specs.Scan.{front}
use Rattle.mlir_lex.proofs.Longest.{ahead}
use Rattle.mlir_lex.proofs.Sound.{front_cuts}

-- a token has a byte
pub empty_token : (kind : TokenKind) → is_token kind [] ≡ true → ⊥
empty_token Name e = false≢true e
empty_token ValueName e = false≢true e
empty_token BlockName e = false≢true e
empty_token SymbolName e = false≢true e
empty_token HashName e = false≢true e
empty_token SymbolText e = false≢true e
empty_token Digits e = false≢true e
empty_token Hex e = false≢true e
empty_token Text e = false≢true e
empty_token Memref e = false≢true e
empty_token BangName e = false≢true e
empty_token Arrow e = false≢true e
empty_token (Byte mark) e = false≢true (and_parts (is_in Mark mark) false e).1
empty_token End e = false≢true e

-- a token at the front, and what `front` gives then
pub ahead_at : (kind : TokenKind) (n : ℕ) (text : List ℕ) → n ≤ length text → is_token kind (take n text) ≡ true
    → (t : TokenKind × ℕ) × (front text ≡ Some t) × ((n < t.1) ⊎ ((n ≡ t.1) × (kind ≡ t.0)))
ahead_at kind n text within e =
    let a = ahead kind (take n text) (drop n text) e in
    let len = length-take-le n text within in
    (a.0, ap front (sym (take-append-drop n text)) ∙ a.1, ⊎_elim (λ less. inl (omega (arith, less.0, len))) (λ same. inr (sym len ∙ same.0, same.1)) a.2)

pub front_longest : (b : ℕ) (bs : List ℕ) (t : TokenKind × ℕ) → front (b ∷ bs) ≡ Some t → IsLongest t.0 t.1 (b ∷ bs)
front_longest b bs t e =
    let cut = front_cuts b bs t e in
    record {
      within = cut.0;
      token = cut.1;
      longest = λ k m more within is.
          let a = ahead_at k m (b ∷ bs) within is in
          let same : a.0 ≡ t = same_Some a.0 t (sym a.1 ∙ e) in
          let len : a.0.1 ≡ t.1 = ap (λ x. x.1) same in
          ⊎_elim (λ less. omega (arith, less, more, len)) (λ equal. omega (arith, equal.0, more, len)) a.2;
    }

pub front_none : (text : List ℕ) → front text ≡ None → (kind : TokenKind) (n : ℕ) → is_token kind (take n text) ≡ true → ⊥
front_none text e kind n is =
    let m : ℕ = min n (length text) in
    let a = ahead_at kind m text (omega arith) (ap (is_token kind) (take_min n text) ∙ is) in
    none_some a.0 (sym e ∙ a.1)
  where
    none_some : (t : TokenKind × ℕ) → let x : Option (TokenKind × ℕ) = None in x ≡ Some t → ⊥
    none_some t h = cc

pub front_of_longest : (kind : TokenKind) (n : ℕ) (b : ℕ) (bs : List ℕ) → IsLongest kind n (b ∷ bs) → front (b ∷ bs) ≡ Some (kind, n)
front_of_longest kind n b bs is =
    let a = ahead_at kind n (b ∷ bs) is.within is.token in
    let cut = front_cuts b bs a.0 a.1 in
    a.1 ∙ ⊎_elim (λ less. absurd (is.longest a.0.0 a.0.1 less cut.0 cut.1)) (λ same. ap Some (λ i. (sym same.1 i, sym same.0 i))) a.2

-- a token with what can't lengthen it behind it
pub read_back : (kind : TokenKind) (s rest : List ℕ) → is_token kind s ≡ true → is_apart kind s rest ≡ true → IsLongest kind (length s) (s ++ rest)
read_back kind [] rest e apart = absurd (empty_token kind e)
read_back kind (b ∷ s) rest e apart =
    let a = ahead kind (b ∷ s) rest e in
    let longest = front_longest b (s ++ rest) a.0 a.1 in
    ⊎_elim (λ longer. absurd (false≢true (sym longer.1 ∙ apart)))
    (λ same. subst (λ n. IsLongest kind n (b ∷ (s ++ rest))) (sym same.0) (subst (λ k. IsLongest k a.0.1 (b ∷ (s ++ rest))) (sym same.1) longest)) a.2
