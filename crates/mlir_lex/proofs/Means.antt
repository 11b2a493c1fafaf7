-- The computed reading of a text is what the grammar says, and nothing else is.
use Rattle.std.proofs.Common.{◌≡◌, ℕ, zero, suc, ◌+◌, ◌-◌, ◌<◌, ◌≤◌, Bool, true, false, ◌&&◌, cond, eqb, List, [], ◌∷◌, ◌++◌, length, drop, take, get_or, Option, Some, None, Result, Ok, Err, refl, ap, sym, ◌∙◌, subst, arith, length-take-le, take-append-drop, length-append, length-drop, ◌↔◌}
use Rattle.std.proofs.lemmas.Bool.{false≢true, true≢false, and_parts, and_from, eqb-true, eq-eqb}
use Rattle.std.proofs.lemmas.Bool.Decides.{nat_tests}
use Rattle.std.proofs.lemmas.List.Sums.{prefix_len-le-length}
use Rattle.std.proofs.Math.Seq.{drop-append_seam}
use Rattle.std.specs.List.{prefix_len, starts_with}
use Rattle.std.specs.Option.{is_none}
use Rattle.std.specs.Prelude.{nat_eq, codes}
use Rattle.mlir_lex.specs.declared.bytes.ByteClass.TheVariants.{Blank, Line}
use Rattle.mlir_lex.specs.declared.kinds.Token.{Token}
use Rattle.mlir_lex.specs.declared.kinds.TokenKind.{TokenKind}
use Rattle.mlir_lex.specs.declared.kinds.TokenKind.TheVariants.{Byte, End}
use Rattle.mlir_lex.specs.declared.kinds.LexFault.{LexFault}
use Rattle.mlir_lex.specs.declared.scan.Lead.TheVariants as lead
use Rattle.mlir_lex.specs.declared.scan.Item.TheVariants as item
use Rattle.mlir_lex.specs.Bytes.{is_in, past}
use Rattle.mlir_lex.specs.Grammar.{all_in, ends_quoted, is_quoted, is_token, IsLongest, EndsLine, IsComment, BeginsNothing, IsOpenQuote, is_digits, before, token_at, Reads}
use Rattle.mlir_lex.specs.Grammar.Reads.{ended, blank, comment, token, point, open_string, bad_byte}
use Rattle.mlir_lex.specs.Scan.{quoted_len, string_len, lead_of, front, piece_of, item_of, read, reading}
use Rattle.mlir_lex.specs.Answer.{is_end, AreInOrder, AreWithin}
use Rattle.mlir_lex.proofs.Longest.{leads-34, quoted-append, starts_tells}
use Rattle.mlir_lex.proofs.Sound.{all-take, quoted_passes}
use Rattle.mlir_lex.proofs.Front.{empty_token, front_longest, front_none, front_of_longest}
use Rattle.mlir_lex.proofs.Reading.{read-gap, read-piece, read-open_string, read-bad_byte}

-- ---- comments

line_end : (b : ℕ) → is_in Line b ≡ false → b ≡ 10
unfolding is_in
line_end b e = grind (arith, nat_tests)

end_no_line : (b : ℕ) → b ≡ 10 → is_in Line b ≡ false
unfolding is_in
end_no_line b e = grind (arith, nat_tests)

ends_after : (b : ℕ) (bs : List ℕ) (t : Bool) → is_in Line b ≡ t → EndsLine (drop (prefix_len (is_in Line) bs) bs)
    → EndsLine (drop (cond t (1 + prefix_len (is_in Line) bs) 0) (b ∷ bs))
ends_after b bs false is later = line_end b is
ends_after b bs true is later = let e : 1 + prefix_len (is_in Line) bs ≡ suc (prefix_len (is_in Line) bs) = omega arith in rw e later

ends_line : (bs : List ℕ) → EndsLine (drop (prefix_len (is_in Line) bs) bs)
ends_line [] = tt
ends_line (b ∷ bs) = ends_after b bs (is_in Line b) refl (ends_line bs)

line_len : (line rest : List ℕ) → all_in Line line ≡ true → EndsLine rest → prefix_len (is_in Line) (line ++ rest) ≡ length line
line_len [] [] all ends = refl
line_len [] (b ∷ rest) all ends = let other = end_no_line b ends in rw other refl
line_len (b ∷ line) rest all ends =
    let parts = and_parts (is_in Line b) (all_in Line line) all in
    let later = line_len line rest parts.1 ends in
    rw (parts.0, later) (omega arith)

slashes_line : (line : List ℕ) → all_in Line (codes "//" ++ line) ≡ all_in Line line
unfolding is_in
slashes_line line = refl

-- what stands from `//` to the end of its line
comment_at : (line : List ℕ) → let n : ℕ = past Line (codes "//" ++ line) 2 in
    IsComment (take n (codes "//" ++ line)) (drop n (codes "//" ++ line)) × (n ≤ length (codes "//" ++ line))
comment_at line =
    let k : ℕ = prefix_len (is_in Line) line in
    let e : 2 + k ≡ suc (suc k) = omega arith in
    let le = prefix_len-le-length (is_in Line) line in (
      subst (λ n. IsComment (take n (codes "//" ++ line)) (drop n (codes "//" ++ line))) (sym e)
          (record { begun = refl; one_line = slashes_line (take k line) ∙ all-take Line line; ended = ends_line line }),
      omega (arith, le),
    )

-- ---- what begins a text, by its first byte

blank_leads : (b : ℕ) → is_in Blank b ≡ true → lead_of b ≡ lead.Other
unfolding lead_of is_in
blank_leads b e = grind (arith, nat_tests)

leads-46 : lead_of 46 ≡ lead.Other
unfolding lead_of is_in
leads-46 = refl

leads-47 : lead_of 47 ≡ lead.Other
unfolding lead_of is_in
leads-47 = refl

no_front : (b : ℕ) (bs : List ℕ) → lead_of b ≡ lead.Other → front (b ∷ bs) ≡ None
unfolding front
no_front b bs e = rw e refl

no_blank-47 : is_in Blank 47 ≡ false
unfolding is_in
no_blank-47 = refl

no_blank-46 : is_in Blank 46 ≡ false
unfolding is_in
no_blank-46 = refl

no_blank-34 : is_in Blank 34 ≡ false
unfolding is_in
no_blank-34 = refl

no_some : {A : Type 0} (o : Option A) (x : A) → o ≡ None → o ≡ Some x → ⊥
no_some o x h e = cc

false_from : (t : Bool) → (t ≡ true → ⊥) → t ≡ false
false_from true h = absurd (h refl)
false_from false h = refl

-- ---- quotes

no_quote : (text : List ℕ) → quoted_len text ≡ None → (n : ℕ) → is_quoted (take n text) ≡ true → ⊥
no_quote text none n is = go (take n text) (drop n text) (take-append-drop n text) is
  where
    go : (s rest : List ℕ) → s ++ rest ≡ text → is_quoted s ≡ true → ⊥
    go [] rest whole is = false≢true is
    go (b ∷ s) rest whole is =
        let parts = and_parts (eqb b 34) (ends_quoted s false) is in
        let found : quoted_len (b ∷ (s ++ rest)) ≡ Some (1 + length s) = rw parts.0 (quoted-append s rest false 1 parts.1) in
        no_some (quoted_len text) (1 + length s) none (sym (ap quoted_len whole) ∙ found)

is_none_tells : (o : Option ℕ) → is_none o ≡ true → o ≡ None
is_none_tells None e = refl
is_none_tells (Some x) e = absurd (false≢true e)

none_is_none : (o : Option ℕ) → o ≡ None → is_none o ≡ true
none_is_none None e = refl
none_is_none (Some x) e = absurd (cc)

-- an open quote is one that the scan doesn't close
open_quote : (b : ℕ) (bs : List ℕ) → (eqb b 34 && is_none (quoted_len (b ∷ bs))) ≡ true → IsOpenQuote (b ∷ bs)
open_quote b bs e =
    let parts = and_parts (eqb b 34) (is_none (quoted_len (b ∷ bs))) e in
    record { quote = eqb-true b 34 parts.0; unclosed = no_quote (b ∷ bs) (is_none_tells (quoted_len (b ∷ bs)) parts.1) }

unclosed_none : (text : List ℕ) → IsOpenQuote text → quoted_len text ≡ None
unclosed_none text is = go (quoted_len text) refl
  where
    go : (o : Option ℕ) → quoted_len text ≡ o → o ≡ None
    go None e = refl
    go (Some n) e = absurd (is.unclosed n (quoted_passes text n e).1)

no_open_quote : (b : ℕ) (bs : List ℕ) → (eqb b 34 && is_none (quoted_len (b ∷ bs))) ≡ false → IsOpenQuote (b ∷ bs) → ⊥
no_open_quote b bs e is =
    true≢false (sym (and_from (eqb b 34) (is_none (quoted_len (b ∷ bs))) (eq-eqb b 34 is.quote) (none_is_none (quoted_len (b ∷ bs)) (unclosed_none (b ∷ bs) is))) ∙ e)

-- ---- what the grammar says is computed

item-blank : (digits : Bool) (b : ℕ) (bs : List ℕ) → is_in Blank b ≡ true → item_of digits (b ∷ bs) ≡ item.Gap 1
unfolding item_of
item-blank digits b bs is = rw is refl

item-comment : (digits : Bool) (line : List ℕ) → item_of digits (codes "//" ++ line) ≡ item.Gap (past Line (codes "//" ++ line) 2)
unfolding item_of
item-comment digits line = rw no_blank-47 refl

item-point : (rest : List ℕ) → item_of true (46 ∷ rest) ≡ item.Piece (Byte 46) 1
unfolding item_of
item-point rest = rw no_blank-46 refl

item-front : (digits : Bool) (b : ℕ) (bs : List ℕ) → is_in Blank b ≡ false → starts_with nat_eq (b ∷ bs) (codes "//") ≡ false → (digits && eqb b 46) ≡ false
    → item_of digits (b ∷ bs) ≡ piece_of (b ∷ bs) (front (b ∷ bs))
unfolding item_of
item-front digits b bs no_blank no_comment no_point = rw (no_blank, no_comment, no_point) refl

starts_slash : (b : ℕ) (bs : List ℕ) → starts_with nat_eq (b ∷ bs) (codes "//") ≡ true → b ≡ 47
starts_slash b bs e = ap (λ l. get_or l 0 0) (starts_tells (b ∷ bs) (codes "//") e)

-- no token begins as a gap or a point does
item-token : (digits : Bool) (b : ℕ) (bs : List ℕ) (t : TokenKind × ℕ) → front (b ∷ bs) ≡ Some t → item_of digits (b ∷ bs) ≡ item.Piece t.0 t.1
item-token digits b bs t e =
    let not_other : lead_of b ≡ lead.Other → ⊥ = λ h. no_some (front (b ∷ bs)) t (no_front b bs h) e in
    item-front digits b bs
    (false_from (is_in Blank b) (λ h. not_other (blank_leads b h)))
    (false_from (starts_with nat_eq (b ∷ bs) (codes "//")) (λ h. not_other (ap lead_of (starts_slash b bs h) ∙ leads-47)))
    (false_from (digits && eqb b 46) (λ h. not_other (ap lead_of (eqb-true b 46 (and_parts digits (eqb b 46) h).1) ∙ leads-46)))
    ∙ ap (piece_of (b ∷ bs)) e

quote_no_point : (b : ℕ) → b ≡ 34 → b ≡ 46 → ⊥
quote_no_point b e f = omega arith

quote_no_slash : (b : ℕ) → b ≡ 34 → b ≡ 47 → ⊥
quote_no_slash b e f = omega arith

quote_has_byte : (text : List ℕ) → length text ≡ 0 → get_or text 0 0 ≡ 34 → ⊥
quote_has_byte [] e q = omega arith
quote_has_byte (b ∷ bs) e q = omega arith

string_len_none : (text : List ℕ) → quoted_len text ≡ None → string_len text ≡ None
string_len_none text e = rw e refl

-- no token begins at an open quote
front_open : (b : ℕ) (bs : List ℕ) → b ≡ 34 → quoted_len (b ∷ bs) ≡ None → front (b ∷ bs) ≡ None
unfolding front
front_open b bs quote none =
    let leads : lead_of b ≡ lead.Quote = ap lead_of quote ∙ leads-34 in
    let no_string = string_len_none (b ∷ bs) none in
    rw (leads, no_string) refl

open_item : (digits : Bool) (b : ℕ) (bs : List ℕ) → IsOpenQuote (b ∷ bs) → item_of digits (b ∷ bs) ≡ item.OpenString
open_item digits b bs is =
    let none = unclosed_none (b ∷ bs) is in
    let no_point : (digits && eqb b 46) ≡ false = false_from (digits && eqb b 46) (λ h. quote_no_point b is.quote (eqb-true b 46 (and_parts digits (eqb b 46) h).1)) in
    item-front digits b bs
    (ap (is_in Blank) is.quote ∙ no_blank-34)
    (false_from (starts_with nat_eq (b ∷ bs) (codes "//")) (λ h. quote_no_slash b is.quote (starts_slash b bs h)))
    no_point
    ∙ ap (piece_of (b ∷ bs)) (front_open b bs is.quote none)
    ∙ (let t = and_from (eqb b 34) (is_none (quoted_len (b ∷ bs))) (eq-eqb b 34 is.quote) (none_is_none (quoted_len (b ∷ bs)) none) in rw t refl)

bad_item : (digits : Bool) (b : ℕ) (bs : List ℕ) → BeginsNothing (b ∷ bs) → (IsOpenQuote (b ∷ bs) → ⊥) → ((digits ≡ true) × (b ≡ 46) → ⊥) → item_of digits (b ∷ bs) ≡ item.BadByte
bad_item digits b bs nothing no_open no_point =
    item-front digits b bs nothing.no_blank nothing.no_comment
    (false_from (digits && eqb b 46) (λ h. let p = and_parts digits (eqb b 46) h in no_point (p.0, eqb-true b 46 p.1)))
    ∙ ap (piece_of (b ∷ bs)) (no_token (front (b ∷ bs)) refl)
    ∙ (let t = false_from (eqb b 34 && is_none (quoted_len (b ∷ bs))) (λ h. no_open (open_quote b bs h)) in rw t refl)
  where
    no_token : (o : Option (TokenKind × ℕ)) → front (b ∷ bs) ≡ o → front (b ∷ bs) ≡ None
    no_token None e = e
    no_token (Some t) e = absurd (nothing.no_token t.0 t.1 (front_longest b bs t e).token)

comment_item : (digits : Bool) (bytes rest : List ℕ) → IsComment bytes rest → item_of digits (bytes ++ rest) ≡ item.Gap (length bytes)
comment_item digits bytes rest is =
    let line = drop 2 bytes in
    let whole = starts_tells bytes (codes "//") is.begun in
    let all : all_in Line line ≡ true = sym (slashes_line line) ∙ sym (ap (all_in Line) whole) ∙ is.one_line in
    let len : 2 + prefix_len (is_in Line) (line ++ rest) ≡ length bytes = ap (λ n. 2 + n) (line_len line rest all is.ended) ∙ (omega (arith, ap length whole)) in
    ap (λ l. item_of digits (l ++ rest)) whole ∙ item-comment digits (line ++ rest) ∙ ap item.Gap len

-- a text that has a byte
abbrev HasByte : List ℕ → Type 0
HasByte text = (b : ℕ) × (bs : List ℕ) × (text ≡ b ∷ bs)

has_byte : (text : List ℕ) → (length text ≡ 0 → ⊥) → HasByte text
has_byte [] some = absurd (some refl)
has_byte (b ∷ bs) some = (b, bs, refl)

token_has_byte : (kind : TokenKind) (n : ℕ) (text : List ℕ) → IsLongest kind n text → HasByte text × (0 < n)
token_has_byte kind zero text is = absurd (empty_token kind is.token)
token_has_byte kind (suc n) text is = (has_byte text (λ h. omega (arith, is.within, h)), omega arith)

-- what the grammar says is what is computed, so it says one thing alone
pub Reads-read : (at : ℕ) (digits : Bool) (text : List ℕ) (outcome : Result (List Token) LexFault) → Reads at digits text outcome → read text at digits 0 ≡ outcome
Reads-read at digits text outcome (ended at' digits') = refl
Reads-read at digits text outcome (blank at' digits' b rest outcome' is later) =
    read-gap (b ∷ rest) at' digits' 1 (item-blank digits' b rest is) (omega arith) (omega arith) ∙ Reads-read (at' + 1) false rest outcome' later
Reads-read at digits text outcome (comment at' digits' bytes rest outcome' is later) =
    let long : 2 ≤ length bytes = omega (arith, ap length (starts_tells bytes (codes "//") is.begun)) in
    read-gap (bytes ++ rest) at' digits' (length bytes) (comment_item digits' bytes rest is) (omega arith) (omega (arith, length-append bytes rest))
    ∙ ap (λ l. read l (at' + length bytes) false 0) (drop-append_seam bytes rest)
    ∙ Reads-read (at' + length bytes) false rest outcome' later
Reads-read at digits text outcome (token at' digits' text' kind n outcome' is later) =
    let some = token_has_byte kind n text' is in
    let text_is = some.0.2 in
    let longest = subst (IsLongest kind n) text_is is in
    read-piece text' at' digits' kind n
    (ap (item_of digits') text_is ∙ item-token digits' some.0.0 some.0.1 (kind, n) (front_of_longest kind n some.0.0 some.0.1 longest))
    some.1 is.within
    ∙ ap (before (token_at kind at' (at' + n))) (Reads-read (at' + n) (is_digits kind) (drop n text') outcome' later)
Reads-read at digits text outcome (point at' rest outcome' later) =
    read-piece (46 ∷ rest) at' true (Byte 46) 1 (item-point rest) (omega arith) (omega arith)
    ∙ ap (before (token_at (Byte 46) at' (at' + 1))) (Reads-read (at' + 1) false rest outcome' later)
Reads-read at digits text outcome (open_string at' digits' text' is) =
    let some = has_byte text' (λ h. quote_has_byte text' h is.quote) in
    let text_is = some.2 in
    read-open_string text' at' digits' (ap (item_of digits') text_is ∙ open_item digits' some.0 some.1 (subst IsOpenQuote text_is is))
    (subst (λ l. 0 < length l) (sym text_is) (omega arith))
Reads-read at digits text outcome (bad_byte at' digits' text' nothing no_open no_point) =
    let some = has_byte text' nothing.some in
    let text_is = some.2 in
    read-bad_byte text' at' digits'
    (ap (item_of digits') text_is ∙ bad_item digits' some.0 some.1 (subst BeginsNothing text_is nothing)
    (λ h. no_open (subst IsOpenQuote (sym text_is) h)) (λ h. no_point (h.0, ap (λ l. get_or l 0 0) text_is ∙ h.1)))
    (subst (λ l. 0 < length l) (sym text_is) (omega arith))

-- ---- what is computed is what the grammar says

abbrev Later : ℕ → List ℕ → Type 0
Later at text = (n : ℕ) → 0 < n → n ≤ length text → (digits : Bool) → Reads (at + n) digits (drop n text) (read (drop n text) (at + n) digits 0)

one_turn : (b : ℕ) (bs : List ℕ) (at : ℕ) (digits : Bool) → Later at (b ∷ bs) → Reads at digits (b ∷ bs) (read (b ∷ bs) at digits 0)
one_turn b bs at digits later =
    if_blank (is_in Blank b) refl
  where
    text : List ℕ
    text = b ∷ bs

    in_front : is_in Blank b ≡ false → starts_with nat_eq text (codes "//") ≡ false → (digits && eqb b 46) ≡ false
        → (o : Option (TokenKind × ℕ)) → front text ≡ o → (t : Bool) → (eqb b 34 && is_none (quoted_len text)) ≡ t → Reads at digits text (read text at digits 0)
    in_front no_blank no_comment no_point (Some (kind, n)) e t f =
        let longest = front_longest b bs (kind, n) e in
        let some = (token_has_byte kind n text longest).1 in
        subst (Reads at digits text) (sym (read-piece text at digits kind n (item-token digits b bs (kind, n) e) some longest.within))
        (token at digits text kind n _ longest (later n some longest.within (is_digits kind)))
    in_front no_blank no_comment no_point None e true f =
        let is : item_of digits text ≡ item.OpenString = item-front digits b bs no_blank no_comment no_point ∙ ap (piece_of text) e ∙ rw f refl in
        subst (Reads at digits text) (sym (read-open_string text at digits is (omega arith))) (open_string at digits text (open_quote b bs f))
    in_front no_blank no_comment no_point None e false f =
        let is : item_of digits text ≡ item.BadByte = item-front digits b bs no_blank no_comment no_point ∙ ap (piece_of text) e ∙ rw f refl in
        let nothing : BeginsNothing text = record { some = λ h. omega (arith, h); no_blank = no_blank; no_comment = no_comment; no_token = front_none text e } in
        subst (Reads at digits text) (sym (read-bad_byte text at digits is (omega arith)))
        (bad_byte at digits text nothing (no_open_quote b bs f) (λ h. true≢false (sym (and_from digits (eqb b 46) h.0 (eq-eqb b 46 h.1)) ∙ no_point)))

    if_point : is_in Blank b ≡ false → starts_with nat_eq text (codes "//") ≡ false → (t : Bool) → (digits && eqb b 46) ≡ t → Reads at digits text (read text at digits 0)
    if_point no_blank no_comment false e = in_front no_blank no_comment e (front text) refl (eqb b 34 && is_none (quoted_len text)) refl
    if_point no_blank no_comment true e =
        let parts = and_parts digits (eqb b 46) e in
        subst (λ d. Reads at d text (read text at d 0)) (sym parts.0)
        (subst (λ x. Later at (x ∷ bs) → Reads at true (x ∷ bs) (read (x ∷ bs) at true 0)) (sym (eqb-true b 46 parts.1))
        (λ later. subst (Reads at true (46 ∷ bs)) (sym (read-piece (46 ∷ bs) at true (Byte 46) 1 (item-point bs) (omega arith) (omega arith))) (point at bs _ (later 1 (omega arith) (omega arith) false)))
        later)

    if_comment : is_in Blank b ≡ false → (t : Bool) → starts_with nat_eq text (codes "//") ≡ t → Reads at digits text (read text at digits 0)
    if_comment no_blank false e = if_point no_blank e (digits && eqb b 46) refl
    if_comment no_blank true e =
        let line = drop 2 text in
        let whole = starts_tells text (codes "//") e in
        subst (λ x. Later at x → Reads at digits x (read x at digits 0)) (sym whole)
        (λ later.
        let x = codes "//" ++ line in
        let n : ℕ = past Line x 2 in
        let c = comment_at line in
        let len = length-take-le n x c.1 in
        subst (Reads at digits x) (sym (read-gap x at digits n (item-comment digits line) (omega arith) c.1))
        (subst (λ l. Reads at digits l (read (drop n x) (at + n) false 0)) (take-append-drop n x)
        (comment at digits (take n x) (drop n x) (read (drop n x) (at + n) false 0) c.0
        (subst (λ m. Reads (at + m) false (drop n x) (read (drop n x) (at + n) false 0)) (sym len) (later n (omega arith) c.1 false)))))
        later

    if_blank : (t : Bool) → is_in Blank b ≡ t → Reads at digits text (read text at digits 0)
    if_blank false e = if_comment e (starts_with nat_eq text (codes "//")) refl
    if_blank true e =
        subst (Reads at digits text) (sym (read-gap text at digits 1 (item-blank digits b bs e) (omega arith) (omega arith)))
        (blank at digits b bs _ e (later 1 (omega arith) (omega arith) false))

pub read-Reads : (text : List ℕ) (at : ℕ) (digits : Bool) (left : ℕ) → left ≤ length text → Reads (at + left) digits (drop left text) (read (drop left text) (at + left) digits 0)
read-Reads [] at digits zero within = ended (at + 0) digits
read-Reads [] at digits (suc left) within = absurd (omega arith)
read-Reads (b ∷ bs) at digits (suc left) within =
    let e : at + 1 + left ≡ at + suc left = omega arith in
    subst (λ n. Reads n digits (drop left bs) (read (drop left bs) n digits 0)) e (read-Reads bs (at + 1) digits left (omega arith))
read-Reads (b ∷ bs) at digits zero within =
    one_turn b bs (at + 0) digits (λ n some in_text d. later n some in_text d (read-Reads bs (at + 1) d (n - 1) (omega arith)))
  where
    later : (n : ℕ) → 0 < n → n ≤ length (b ∷ bs) → (d : Bool) → Reads (at + 1 + (n - 1)) d (drop (n - 1) bs) (read (drop (n - 1) bs) (at + 1 + (n - 1)) d 0)
        → Reads (at + 0 + n) d (drop n (b ∷ bs)) (read (drop n (b ∷ bs)) (at + 0 + n) d 0)
    later zero some in_text d r = absurd (omega arith)
    later (suc n) some in_text d r =
        let e : suc n - 1 ≡ n = omega arith in
        let f : at + 1 + (suc n - 1) ≡ at + 0 + suc n = omega arith in
        subst (λ k. Reads (at + 0 + suc n) d (drop k bs) (read (drop k bs) (at + 0 + suc n) d 0)) e
        (subst (λ m. Reads m d (drop (suc n - 1) bs) (read (drop (suc n - 1) bs) m d 0)) f r)

-- ---- a whole text

pub reading_means : (text : List ℕ) (outcome : Result (List Token) LexFault) → reading text ≡ outcome → Reads 0 false text outcome
reading_means text outcome e = subst (Reads 0 false text) e (read-Reads text 0 false 0 (omega arith))

pub one_reading : (text : List ℕ) (outcome : Result (List Token) LexFault) → Reads 0 false text outcome ↔ (reading text ≡ outcome)
one_reading text outcome = (λ r. Reads-read 0 false text outcome r, reading_means text outcome)

-- ---- order

abbrev IfTokens : Result (List Token) LexFault → (List Token → Type 0) → Type 0
IfTokens (Ok ts) P = P ts
IfTokens (Err e) P = Unit {0}

no_end : (kind : TokenKind) (text : List ℕ) → is_token kind text ≡ true → is_end kind ≡ false
no_end End text e = absurd (false≢true e)
no_end _ text e = refl

-- tokens that are in order from here are so from any place before
earlier : (from at len : ℕ) (ts : List Token) → from ≤ at → AreInOrder at ts len → AreInOrder from ts len
earlier from at len [] le h = h
earlier from at len (t ∷ []) le h = (omega (arith, h.0), h.1)
earlier from at len (t ∷ u ∷ ts) le h = (omega (arith, h.0), h.1, h.2, h.3)

earlier_outcome : (from at len : ℕ) (o : Result (List Token) LexFault) → from ≤ at → IfTokens o (λ ts. AreInOrder at ts len) → IfTokens o (λ ts. AreInOrder from ts len)
earlier_outcome from at len (Ok ts) le h = earlier from at len ts le h
earlier_outcome from at len (Err e) le h = tt

one_more : (kind : TokenKind) (at end len : ℕ) (o : Result (List Token) LexFault) → at < end → is_end kind ≡ false
    → IfTokens o (λ ts. AreInOrder end ts len) → IfTokens (before (token_at kind at end) o) (λ ts. AreInOrder at ts len)
one_more kind at end len (Ok []) lt other h = absurd h
one_more kind at end len (Ok (t ∷ ts)) lt other h = (omega arith, lt, other, h)
one_more kind at end len (Err e) lt other h = tt

at_len : (o : Result (List Token) LexFault) (at m n : ℕ) → m ≡ n → IfTokens o (λ ts. AreInOrder at ts m) → IfTokens o (λ ts. AreInOrder at ts n)
at_len o at m n e h = subst (λ n. IfTokens o (λ ts. AreInOrder at ts n)) e h

ordered : (at : ℕ) (digits : Bool) (text : List ℕ) (outcome : Result (List Token) LexFault) → Reads at digits text outcome → IfTokens outcome (λ ts. AreInOrder at ts (at + length text))
ordered at digits text outcome (ended at' digits') = let e : at' ≡ at' + 0 = omega arith in (omega arith, ap (λ n. token_at End n n) e)
ordered at digits text outcome (blank at' digits' b rest outcome' is later) =
    earlier_outcome at' (at' + 1) _ outcome' (omega arith) (at_len outcome' (at' + 1) _ _ (omega arith) (ordered (at' + 1) false rest outcome' later))
ordered at digits text outcome (comment at' digits' bytes rest outcome' is later) =
    earlier_outcome at' (at' + length bytes) _ outcome' (omega arith)
    (at_len outcome' (at' + length bytes) _ _ (omega (arith, length-append bytes rest)) (ordered (at' + length bytes) false rest outcome' later))
ordered at digits text outcome (token at' digits' text' kind n outcome' is later) =
    let some = (token_has_byte kind n text' is).1 in
    one_more kind at' (at' + n) (at' + length text') outcome' (omega arith) (no_end kind (take n text') is.token)
    (at_len outcome' (at' + n) _ _ (omega (arith, length-drop n text', is.within)) (ordered (at' + n) (is_digits kind) (drop n text') outcome' later))
ordered at digits text outcome (point at' rest outcome' later) =
    one_more (Byte 46) at' (at' + 1) (at' + suc (length rest)) outcome' (omega arith) refl (at_len outcome' (at' + 1) _ _ (omega arith) (ordered (at' + 1) false rest outcome' later))
ordered at digits text outcome (open_string at' digits' text' is) = tt
ordered at digits text outcome (bad_byte at' digits' text' nothing no_open no_point) = tt

pub in_order : (text : List ℕ) (ts : List Token) → reading text ≡ Ok ts → AreInOrder 0 ts (length text)
in_order text ts e =
    let h = ordered 0 false text (Ok ts) (reading_means text (Ok ts) e) in
    let zero_len : 0 + length text ≡ length text = omega arith in
    subst (λ n. AreInOrder 0 ts n) zero_len h

below_length : (from len : ℕ) (ts : List Token) → AreInOrder from ts len → from ≤ len
below_length from len [] h = absurd h
below_length from len (t ∷ []) h = h.0
below_length from len (t ∷ u ∷ ts) h = omega (arith, h.0, h.1, below_length t.end len (u ∷ ts) h.3)

in_order_within : (from len : ℕ) (ts : List Token) → AreInOrder from ts len → AreWithin ts len
in_order_within from len [] h k d in_list = absurd h
in_order_within from len (t ∷ []) h zero d in_list = (omega (arith, ap (λ x. x.start) h.1, ap (λ x. x.end) h.1), omega (arith, ap (λ x. x.end) h.1))
in_order_within from len (t ∷ []) h (suc k) d in_list = absurd (omega arith)
in_order_within from len (t ∷ u ∷ ts) h zero d in_list = (omega (arith, h.1), below_length t.end len (u ∷ ts) h.3)
in_order_within from len (t ∷ u ∷ ts) h (suc k) d in_list = in_order_within t.end len (u ∷ ts) h.3 k d (omega arith)

pub within : (text : List ℕ) (ts : List Token) → reading text ≡ Ok ts → AreWithin ts (length text)
within text ts e = in_order_within 0 (length text) ts (in_order text ts e)
