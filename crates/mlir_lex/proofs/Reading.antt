-- One turn of the reading of a text.
use Rattle.std.proofs.Common.{◌≡◌, ℕ, zero, suc, ◌+◌, ◌-◌, ◌<◌, ◌≤◌, Bool, false, List, [], ◌∷◌, ◌++◌, length, drop, Result, Ok, Err, refl, ap, sym, ◌∙◌, append_assoc, drop-drop, length-drop, arith}
use Rattle.mlir_lex.specs.declared.kinds.Token.{Token}
use Rattle.mlir_lex.specs.declared.kinds.TokenKind.{TokenKind}
use Rattle.mlir_lex.specs.declared.kinds.LexFault.{LexFault}
use Rattle.mlir_lex.specs.declared.kinds.LexFault.TheVariants as fault
use Rattle.mlir_lex.specs.declared.scan.Item.TheVariants as item
use Rattle.mlir_lex.specs.Grammar.{before, token_at, is_digits}
use Rattle.mlir_lex.specs.Scan.{item_of, read}

-- what was read already is left out
pub read-left : (bs : List ℕ) (at : ℕ) (digits : Bool) (left : ℕ) → left ≤ length bs → read bs at digits left ≡ read (drop left bs) (at + left) digits 0
read-left [] at digits zero within = ap (λ n. read [] n digits 0) (omega arith)
read-left [] at digits (suc left) within = absurd (omega arith)
read-left (b ∷ bs) at digits zero within = ap (λ n. read (b ∷ bs) n digits 0) (omega arith)
read-left (b ∷ bs) at digits (suc left) within =
    let e : at + 1 + left ≡ at + suc left = omega arith in
    read-left bs (at + 1) digits left (omega arith) ∙ ap (λ n. read (drop left bs) n digits 0) e

-- the rest after an item of n bytes
after_item : (b : ℕ) (bs : List ℕ) (at n : ℕ) (digits : Bool) → 0 < n → n ≤ length (b ∷ bs) → read bs (at + 1) digits (n - 1) ≡ read (drop n (b ∷ bs)) (at + n) digits 0
after_item b bs at zero digits some within = absurd (omega arith)
after_item b bs at (suc n) digits some within =
    let e : suc n - 1 ≡ n = omega arith in
    let f : at + 1 + n ≡ at + suc n = omega arith in
    ap (λ k. read bs (at + 1) digits k) e ∙ read-left bs (at + 1) digits n (omega arith) ∙ ap (λ k. read (drop n bs) k digits 0) f

pub read-gap : (text : List ℕ) (at : ℕ) (digits : Bool) (n : ℕ) → item_of digits text ≡ item.Gap n → 0 < n → n ≤ length text
    → read text at digits 0 ≡ read (drop n text) (at + n) false 0
read-gap [] at digits n e some within = absurd (omega arith)
read-gap (b ∷ bs) at digits n e some within = rw (e, read) (after_item b bs at n false some within)

pub read-piece : (text : List ℕ) (at : ℕ) (digits : Bool) (kind : TokenKind) (n : ℕ) → item_of digits text ≡ item.Piece kind n → 0 < n → n ≤ length text
    → read text at digits 0 ≡ before (token_at kind at (at + n)) (read (drop n text) (at + n) (is_digits kind) 0)
read-piece [] at digits kind n e some within = absurd (omega arith)
read-piece (b ∷ bs) at digits kind n e some within =
    rw (e, read) (ap (before (token_at kind at (at + n))) (after_item b bs at n (is_digits kind) some within))

pub read-open_string : (text : List ℕ) (at : ℕ) (digits : Bool) → item_of digits text ≡ item.OpenString → 0 < length text → read text at digits 0 ≡ Err (fault.OpenString at)
read-open_string [] at digits e some = absurd (omega arith)
read-open_string (b ∷ bs) at digits e some = rw (e, read) refl

pub read-bad_byte : (text : List ℕ) (at : ℕ) (digits : Bool) → item_of digits text ≡ item.BadByte → 0 < length text → read text at digits 0 ≡ Err (fault.BadByte at)
read-bad_byte [] at digits e some = absurd (omega arith)
read-bad_byte (b ∷ bs) at digits e some = rw (e, read) refl

-- tokens that stand before a reading
abbrev pub with_front : List Token → Result (List Token) LexFault → Result (List Token) LexFault
with_front front (Ok ts) = Ok (front ++ ts)
with_front front (Err e) = Err e

pub with_front-before : (front : List Token) (t : Token) (r : Result (List Token) LexFault) → with_front front (before t r) ≡ with_front (front ++ t ∷ []) r
with_front-before front t (Ok ts) = let r : Result (List Token) LexFault → Type 0 = λ x. x ≡ Ok ((front ++ t ∷ []) ++ ts) in ap Ok (sym (append_assoc front (t ∷ []) ts))
with_front-before front t (Err e) = refl

pub with_front-nil : (r : Result (List Token) LexFault) → with_front [] r ≡ r
with_front-nil (Ok ts) = refl
with_front-nil (Err e) = refl

-- One turn of a loop over the text: `part` is what is left of it at the turn's beginning.
module _ (text : List ℕ) (at : ℕ) (digits : Bool) (front : List Token) (whole : Result (List Token) LexFault) (part : List ℕ) (is : part ≡ drop at text)
    (same : with_front front (read (drop at text) at digits 0) ≡ whole) where
  so_far : with_front front (read part at digits 0) ≡ whole
  so_far = ap (λ l. with_front front (read l at digits 0)) is ∙ same

  rest_is : (n : ℕ) → drop n part ≡ drop (at + n) text
  rest_is n = ap (λ l. drop n l) is ∙ drop-drop n at text

  length_part : length part ≡ length text - at
  length_part = ap length is ∙ length-drop at text

  pub within_text : (n : ℕ) → at ≤ length text → n ≤ length part → at + n ≤ length text
  within_text n before_end within = omega (arith, length_part)

  pub some_left : at < length text → 0 < length part
  some_left before_end = omega (arith, length_part)

  pub turn-gap : (n : ℕ) → item.Gap n ≡ item_of digits part → (0 < n) × (n ≤ length part)
      → with_front front (read (drop (at + n) text) (at + n) false 0) ≡ whole
  turn-gap n e within =
      ap (λ l. with_front front (read l (at + n) false 0)) (sym (rest_is n)) ∙ ap (with_front front) (sym (read-gap part at digits n (sym e) within.0 within.1)) ∙ so_far

  pub turn-piece : (kind : TokenKind) (n : ℕ) (d : Bool) (after : List Token) → item.Piece kind n ≡ item_of digits part → (0 < n) × (n ≤ length part)
      → d ≡ is_digits kind → after ≡ front ++ token_at kind at (at + n) ∷ []
      → with_front after (read (drop (at + n) text) (at + n) d 0) ≡ whole
  turn-piece kind n d after e within is_d pushed =
      ap (λ x. with_front after (read (drop (at + n) text) (at + n) x 0)) is_d
      ∙ ap (λ x. with_front x (read (drop (at + n) text) (at + n) (is_digits kind) 0)) pushed
      ∙ sym (with_front-before front (token_at kind at (at + n)) (read (drop (at + n) text) (at + n) (is_digits kind) 0))
      ∙ ap (λ l. with_front front (before (token_at kind at (at + n)) (read l (at + n) (is_digits kind) 0))) (sym (rest_is n))
      ∙ ap (with_front front) (sym (read-piece part at digits kind n (sym e) within.0 within.1))
      ∙ so_far

  pub turn-open_string : item.OpenString ≡ item_of digits part → 0 < length part → whole ≡ Err (fault.OpenString at)
  turn-open_string e some = sym so_far ∙ ap (with_front front) (read-open_string part at digits (sym e) some)

  pub turn-bad_byte : item.BadByte ≡ item_of digits part → 0 < length part → whole ≡ Err (fault.BadByte at)
  turn-bad_byte e some = sym so_far ∙ ap (with_front front) (read-bad_byte part at digits (sym e) some)
