-- What a call answers for a whole text.
use Rattle.std.proofs.Common.{◌≡◌, ⊎_elim, ℕ, ◌+◌, Bool, true, false, List, [], ◌∷◌, length, Some, Result, Ok, Err, IsUtf8, ap, sym, ◌∙◌, arith, append-nil}
use Rattle.std.proofs.lemmas.Option.{same_Some}
use Rattle.mlir_lex.specs.declared.kinds.Token.{Token}
use Rattle.mlir_lex.specs.declared.kinds.TokenKind.{TokenKind}
use Rattle.mlir_lex.specs.declared.kinds.LexFault.{LexFault}
use Rattle.mlir_lex.specs.declared.kinds.LexFault.TheVariants.{BadUtf8, OpenString, BadByte, OutOfMemory}
use Rattle.mlir_lex.specs.Answer.{AreTokens, IsFault, Refuses}
use Rattle.mlir_lex.specs.Grammar.{is_token, is_digits, before, token_at, Reads}
use Rattle.mlir_lex.specs.Grammar.Reads.{ended, blank, comment, token, point, open_string, bad_byte}
use Rattle.mlir_lex.specs.Scan.{front, reading}
use Rattle.mlir_lex.proofs.Longest.{ahead}
use Rattle.mlir_lex.proofs.Sound.{front_cuts}
use Rattle.mlir_lex.proofs.Front.{empty_token}
use Rattle.mlir_lex.proofs.Means.{reading_means}

-- the grammar's faults are not about UTF-8
abbrev IsOther : Result (List Token) LexFault → Type 0
IsOther (Ok ts) = Unit {0}
IsOther (Err (BadUtf8 at)) = ⊥
IsOther (Err _) = Unit {0}

other_before : (t : Token) (o : Result (List Token) LexFault) → IsOther o → IsOther (before t o)
other_before t (Ok ts) h = tt
other_before t (Err (BadUtf8 at)) h = h
other_before t (Err (OpenString at)) h = tt
other_before t (Err (BadByte at)) h = tt
other_before t (Err OutOfMemory) h = tt

is_other : (at : ℕ) (digits : Bool) (text : List ℕ) (outcome : Result (List Token) LexFault) → Reads at digits text outcome → IsOther outcome
is_other at digits text outcome (ended at' digits') = tt
is_other at digits text outcome (blank at' digits' b rest outcome' is later) = is_other (at' + 1) false rest outcome' later
is_other at digits text outcome (comment at' digits' bytes rest outcome' is later) = is_other (at' + length bytes) false rest outcome' later
is_other at digits text outcome (token at' digits' text' kind n outcome' is later) =
    other_before (token_at kind at' (at' + n)) outcome' (is_other (at' + n) (is_digits kind) _ outcome' later)
is_other at digits text outcome (point at' rest outcome' later) = other_before _ outcome' (is_other (at' + 1) false rest outcome' later)
is_other at digits text outcome (open_string at' digits' text' is) = tt
is_other at digits text outcome (bad_byte at' digits' text' nothing no_open no_point) = tt

pub tokens_mean : (text : List ℕ) (ts : List Token) → IsUtf8 text → reading text ≡ Ok ts → AreTokens text ts
tokens_mean text ts utf8 e = (utf8, reading_means text (Ok ts) e)

pub fault_means : (text : List ℕ) (e : LexFault) → IsUtf8 text → Refuses e (reading text) → IsFault text e
fault_means text (BadUtf8 at) utf8 e = absurd (is_other 0 false text (Err (BadUtf8 at)) (reading_means text (Err (BadUtf8 at)) e))
fault_means text (OpenString at) utf8 e = (utf8, reading_means text (Err (OpenString at)) e)
fault_means text (BadByte at) utf8 e = (utf8, reading_means text (Err (BadByte at)) e)
fault_means text OutOfMemory utf8 e = utf8

-- ---- one kind

kind_is : (b : ℕ) (bs : List ℕ) (kind : TokenKind) → is_token kind (b ∷ bs) ≡ true → (t : TokenKind × ℕ) × (front (b ∷ bs) ≡ Some t) × (kind ≡ t.0)
kind_is b bs kind e =
    let a = ahead kind (b ∷ bs) [] e in
    let found : front (b ∷ bs) ≡ Some a.0 = ap front (sym (append-nil (b ∷ bs))) ∙ a.1 in
    let cut = front_cuts b bs a.0 found in
    (a.0, found, ⊎_elim (λ less. absurd (omega (arith, less.0, cut.0))) (λ same. same.1) a.2)

pub one_kind : (text : List ℕ) (kind other : TokenKind) → is_token kind text ≡ true → is_token other text ≡ true → kind ≡ other
one_kind [] kind other e f = absurd (empty_token kind e)
one_kind (b ∷ bs) kind other e f =
    let x = kind_is b bs kind e in
    let y = kind_is b bs other f in
    x.2 ∙ ap (λ t. t.0) (same_Some x.0 y.0 (sym x.1 ∙ y.1)) ∙ sym y.2
