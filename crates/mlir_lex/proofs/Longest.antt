-- No token at the front of a text is longer than the one that `front` gives.
use Rattle.std.proofs.Common.{◌≡◌, ◌⊎◌, inl, inr, ⊎_elim, ℕ, suc, ◌+◌, ◌<◌, ◌≤◌, Bool, true, false, not, ◌&&◌, cond, eqb, List, [], ◌∷◌, ◌++◌, length, drop, take, get_or, Option, Some, None, refl, ap, sym, ◌∙◌, subst, arith}
use Rattle.std.proofs.lemmas.Bool.{false≢true, and_parts, and_from, and_left, and_right, eqb-true, eq-eqb, cases_lt, cases_order}
use Rattle.std.proofs.lemmas.Bool.Decides.{nat_tests, Decides-eqb}
use Rattle.std.proofs.lemmas.Slice.Eq.{starts_is, bytes_eq-Decides}
use Rattle.std.proofs.Math.Seq.{take-append_seam, drop-append_seam}
use Rattle.std.specs.List.{prefix_len, starts_with}
use Rattle.std.specs.Prelude.{nat_eq, codes}
use Rattle.std.specs.Str.{bytes_eq}
use Rattle.mlir_lex.specs.declared.bytes.ByteClass.{ByteClass}
use Rattle.mlir_lex.specs.declared.bytes.ByteClass.TheVariants.{NameStart, NamePart, SuffixPart, Digit, HexDigit, Mark}
use Rattle.mlir_lex.specs.declared.strings.Escape.TheVariants as escape
use Rattle.mlir_lex.specs.declared.kinds.TokenKind.{TokenKind}
use Rattle.mlir_lex.specs.declared.kinds.TokenKind.TheVariants.{Name, ValueName, BlockName, SymbolName, HashName, SymbolText, Digits, Hex, Text, Memref, BangName, Arrow, Byte, End}
use Rattle.mlir_lex.specs.declared.scan.Lead.TheVariants as lead
use Rattle.mlir_lex.specs.Bytes.{is_in}
use Rattle.mlir_lex.specs.Grammar.{is_empty, all_in, some_in, is_name, is_signed_name, is_hex, ends_quoted, is_quoted, escapes_well, is_string, is_symbol_text, is_bang_name, open_after, ends_bracket, is_memref, is_mark, is_token}
use Rattle.mlir_lex.specs.Laws.{is_apart}
use Rattle.mlir_lex.specs.Scan.{quote_end, string_len, bracket_end, memref_len, lead_of, front}

-- ---- lengths

pub all-append : (c : ByteClass) (s rest : List ℕ) → all_in c s ≡ true → length s ≤ prefix_len (is_in c) (s ++ rest)
all-append c [] rest all = omega arith
all-append c (b ∷ s) rest all =
    let parts = and_parts (is_in c b) (all_in c s) all in
    let more = all-append c s rest parts.1 in
    rw parts.0 (omega arith)

empty_length : (s : List ℕ) → is_empty s ≡ true → length s ≡ 0
empty_length [] e = refl
empty_length (b ∷ s) e = absurd (false≢true e)

-- a scan that ends where a test says, beside the test that nothing follows
ends_here : (t u e r : Bool) (o : Option ℕ) (x y : ℕ) → cond t false (cond u e r) ≡ true → (e ≡ true → x ≡ y) → (r ≡ true → o ≡ Some y)
    → cond t None (cond u (Some x) o) ≡ Some y
ends_here true u e r o x y h here later = absurd (false≢true h)
ends_here false true e r o x y h here later = ap Some (here h)
ends_here false false e r o x y h here later = later h

pub quoted-append : (s rest : List ℕ) (hidden : Bool) (at : ℕ) → ends_quoted s hidden ≡ true → quote_end (s ++ rest) hidden at ≡ Some (at + length s)
quoted-append [] rest hidden at ends = absurd (false≢true ends)
quoted-append (b ∷ s) rest hidden at ends =
    ends_here (eqb b 10) (eqb b 34 && not hidden) (is_empty s) (ends_quoted s (eqb b 92 && not hidden)) (quote_end (s ++ rest) (eqb b 92 && not hidden) (at + 1)) (at + 1) (at + suc (length s)) ends
    (λ e. omega (arith, empty_length s e))
    (λ h. quoted-append s rest (eqb b 92 && not hidden) (at + 1) h ∙ ap Some (omega arith))

pub bracket-append : (s rest : List ℕ) (inner at : ℕ) → ends_bracket s inner ≡ true → bracket_end (s ++ rest) inner at ≡ Some (at + length s)
bracket-append [] rest inner at ends = absurd (false≢true ends)
bracket-append (b ∷ s) rest inner at ends =
    ends_here false (eqb b 62 && eqb inner 0) (is_empty s) (ends_bracket s (open_after b inner)) (bracket_end (s ++ rest) (open_after b inner) (at + 1)) (at + 1) (at + suc (length s)) ends
    (λ e. omega (arith, empty_length s e))
    (λ h. bracket-append s rest (open_after b inner) (at + 1) h ∙ ap Some (omega arith))

-- ---- leads

pub word_leads : (b : ℕ) → is_in NameStart b ≡ true → lead_of b ≡ lead.Word
unfolding lead_of
word_leads b e = rw e refl

digit_no_word : (b : ℕ) → is_in Digit b ≡ true → is_in NameStart b ≡ false
unfolding is_in
digit_no_word b e = grind (arith, nat_tests)

pub digit_leads : (b : ℕ) → is_in Digit b ≡ true → lead_of b ≡ lead.Number
unfolding lead_of
digit_leads b e = let other = digit_no_word b e in rw (other, e) refl

pub mark_leads : (b : ℕ) → is_in Mark b ≡ true → eqb b 45 ≡ false → lead_of b ≡ lead.Mark b
unfolding lead_of is_in
mark_leads b e other = grind (arith, nat_tests)

-- ---- each kind

-- `front` gives this token, or a longer one
abbrev pub Ahead : TokenKind → List ℕ → List ℕ → Type 0
Ahead kind s rest =
    (t : TokenKind × ℕ) × (front (s ++ rest) ≡ Some t) × (((length s < t.1) × (is_apart kind s rest ≡ false)) ⊎ ((length s ≡ t.1) × (kind ≡ t.0)))

abbrev at_most : (m n : ℕ) → m ≤ n → (m < n) ⊎ (m ≡ n)
at_most m n h = elim (cases_order m n) [ inl same ↦ inr same | inr other ↦ elim other [ inl less ↦ inl less | inr more ↦ absurd (omega arith) ] ]

-- a longest token of the same kind
by_length : (kind : TokenKind) (s rest : List ℕ) (n : ℕ) → front (s ++ rest) ≡ Some (kind, n) → length s ≤ n
    → (length s < n → is_apart kind s rest ≡ false) → Ahead kind s rest
by_length kind s rest n e h longer = ((kind, n), e, ⊎_elim (λ less. inl (less, longer less)) (λ same. inr (same, refl)) (at_most (length s) n h))

-- what goes on past the bytes of a class begins with one of the class
more_in : (c : ByteClass) (s rest : List ℕ) → all_in c s ≡ true → length s < prefix_len (is_in c) (s ++ rest) → is_in c (get_or rest 0 0) ≡ true
more_in c [] [] all more = absurd (omega arith)
more_in c [] (b ∷ rest) all more = first (is_in c b) refl more
  where
    first : (t : Bool) → is_in c b ≡ t → 0 < cond t (1 + prefix_len (is_in c) rest) 0 → is_in c b ≡ true
    first true is more = is
    first false is more = absurd (omega arith)
more_in c (b ∷ s) rest all more =
    let parts = and_parts (is_in c b) (all_in c s) all in
    let one : prefix_len (is_in c) (b ∷ (s ++ rest)) ≡ 1 + prefix_len (is_in c) (s ++ rest) = rw parts.0 refl in
    more_in c s rest parts.1 (omega (arith, more, one))

not_false : (t : Bool) → t ≡ true → not t ≡ false
not_false true e = refl
not_false false e = absurd (false≢true e)

some-parts : (c : ByteClass) (s : List ℕ) → some_in c s ≡ true → (b : ℕ) × (t : List ℕ) × (s ≡ b ∷ t) × (is_in c b ≡ true) × (all_in c t ≡ true)
some-parts c [] e = absurd (false≢true e)
some-parts c (b ∷ t) e = let p = and_parts (is_in c b) (all_in c t) e in (b, t, refl, p.0, p.1)

-- what a test lets through
pub let_through : {A : Type 0} (b : Bool) (o : Option A) (x : A) → cond b o None ≡ Some x → (b ≡ true) × (o ≡ Some x)
let_through true o x e = (refl, e)
let_through false o x e = absurd (cc)

ends_past : (t u : Bool) (o : Option ℕ) (x n at : ℕ) → cond t None (cond u (Some x) o) ≡ Some n → at < x → (o ≡ Some n → at < n) → at < n
ends_past true u o x n at e here later = absurd (cc)
ends_past false true o x n at e here later = let same : x ≡ n = cc in omega arith
ends_past false false o x n at e here later = later e

bracket_past : (bs : List ℕ) (inner at n : ℕ) → bracket_end bs inner at ≡ Some n → at < n
bracket_past [] inner at n e = absurd (cc)
bracket_past (b ∷ bs) inner at n e =
    ends_past false (eqb b 62 && eqb inner 0) (bracket_end bs (open_after b inner) (at + 1)) (at + 1) n at e (omega arith)
    (λ h. omega (arith, bracket_past bs (open_after b inner) (at + 1) n h))

pub starts_tells : (text p : List ℕ) → starts_with nat_eq text p ≡ true → text ≡ p ++ drop (length p) text
starts_tells text p e = (starts_is Decides-eqb text p (starts_with nat_eq text p) refl).0 e

-- `memref<` stands at the front, and its end is past it
memref_front : (text : List ℕ) (n : ℕ) → memref_len text ≡ Some n → (7 < n) × (text ≡ codes "memref<" ++ drop 7 text)
memref_front text n e =
    let h = let_through (starts_with nat_eq text (codes "memref<")) (bracket_end (drop 7 text) 0 7) n e in
    (bracket_past (drop 7 text) 0 7 n h.1, starts_tells text (codes "memref<") h.0)

-- as a name it takes the six letters
memref_name : (rest : List ℕ) → prefix_len (is_in NamePart) (drop 1 (codes "memref<" ++ rest)) ≡ 5
unfolding is_in
memref_name rest = refl

-- `memref` and `<`, where a name of six letters and the rest are `memref<` and more
memref_apart : (s rest more : List ℕ) → length s ≡ 6 → s ++ rest ≡ codes "memref<" ++ more → (bytes_eq s (codes "memref") && eqb (get_or rest 0 0) 60) ≡ true
memref_apart s rest more len whole =
    let front_is : s ≡ codes "memref" = sym (take-append_seam s rest) ∙ ap (λ n. take n (s ++ rest)) len ∙ ap (take 6) whole in
    let rest_is : get_or rest 0 0 ≡ 60 = ap (λ l. get_or l 0 0) (sym (drop-append_seam s rest) ∙ ap (λ n. drop n (s ++ rest)) len ∙ ap (drop 6) whole) in
    and_from (bytes_eq s (codes "memref")) (eqb (get_or rest 0 0) 60) ((bytes_eq-Decides s (codes "memref")).1 front_is) (eq-eqb (get_or rest 0 0) 60 rest_is)

ahead-name : (s rest : List ℕ) → is_name s ≡ true → Ahead Name s rest
unfolding front
ahead-name [] rest e = absurd (false≢true e)
ahead-name (b ∷ s) rest e = go (memref_len text) refl
  where
    text : List ℕ
    text = b ∷ (s ++ rest)

    parts : (is_in NameStart b ≡ true) × (all_in NamePart s ≡ true)
    parts = and_parts (is_in NameStart b) (all_in NamePart s) e

    name_len : length s ≤ prefix_len (is_in NamePart) (s ++ rest)
    name_len = all-append NamePart s rest parts.1

    go : (o : Option ℕ) → memref_len text ≡ o → Ahead Name (b ∷ s) rest
    go None is = by_length Name (b ∷ s) rest (1 + prefix_len (is_in NamePart) (s ++ rest)) (rw (word_leads b parts.0, is) refl) (omega (arith, name_len))
        (λ more. and_left (not (is_in NamePart (get_or rest 0 0))) _ (not_false _ (more_in NamePart s rest parts.1 (omega (arith, more)))))
    go (Some n) is =
        let m = memref_front text n is in
        let six : prefix_len (is_in NamePart) (s ++ rest) ≡ 5 = ap (λ l. prefix_len (is_in NamePart) (drop 1 l)) m.1 ∙ memref_name (drop 7 text) in (
          (Memref, n),
          rw (word_leads b parts.0, is) refl,
          inl (
            omega (arith, name_len, six, m.0),
            ⊎_elim
                (λ short. and_left (not (is_in NamePart (get_or rest 0 0))) _ (not_false _ (more_in NamePart s rest parts.1 (omega (arith, short, six)))))
                (λ long.
                let len : length (b ∷ s) ≡ 6 = omega (arith, name_len, six, long) in
                and_right (not (is_in NamePart (get_or rest 0 0))) _ (not_false _ (memref_apart (b ∷ s) rest (drop 7 text) len m.1)))
                (cases_lt (length s) 5),
          ),
        )

pub start_is_part : (b : ℕ) → is_in NameStart b ≡ true → is_in NamePart b ≡ true
unfolding is_in
start_is_part b e = grind (arith, nat_tests)

-- `0x` has one decimal digit at its front
hex_digits : (rest : List ℕ) → prefix_len (is_in Digit) (drop 1 (codes "0x" ++ rest)) ≡ 0
unfolding is_in
hex_digits rest = refl

leads-48 : lead_of 48 ≡ lead.Number
unfolding lead_of is_in
leads-48 = refl

leads-109 : lead_of 109 ≡ lead.Word
unfolding lead_of is_in
leads-109 = refl

ahead-signed_name : (kind : TokenKind) (sign : ℕ) (s rest : List ℕ) → lead_of sign ≡ lead.Signed kind
    → is_apart kind s rest ≡ not (is_in SuffixPart (get_or rest 0 0)) → is_signed_name sign s ≡ true → Ahead kind s rest
unfolding front
ahead-signed_name kind sign [] rest leads apart e = absurd (false≢true e)
ahead-signed_name kind sign (b ∷ s) rest leads apart e = go s (some-parts SuffixPart s parts.1) apart
  where
    parts : (eqb b sign ≡ true) × (some_in SuffixPart s ≡ true)
    parts = and_parts (eqb b sign) (some_in SuffixPart s) e

    leads_b : lead_of b ≡ lead.Signed kind
    leads_b = ap lead_of (eqb-true b sign parts.0) ∙ leads

    go : (x : List ℕ) → (c : ℕ) × (t : List ℕ) × (x ≡ c ∷ t) × (is_in SuffixPart c ≡ true) × (all_in SuffixPart t ≡ true)
        → is_apart kind (b ∷ x) rest ≡ not (is_in SuffixPart (get_or rest 0 0)) → Ahead kind (b ∷ x) rest
    go x (c, t, is, first, all) apart =
        let len = all-append SuffixPart (c ∷ t) rest (and_from (is_in SuffixPart c) (all_in SuffixPart t) first all) in
        subst (λ x. is_apart kind (b ∷ x) rest ≡ not (is_in SuffixPart (get_or rest 0 0)) → Ahead kind (b ∷ x) rest) (sym is)
        (λ apart. by_length kind (b ∷ c ∷ t) rest (1 + prefix_len (is_in SuffixPart) (c ∷ (t ++ rest))) (rw (leads_b, first) refl) (omega (arith, len))
        (λ more. apart ∙ not_false _ (more_in SuffixPart (c ∷ t) rest (and_from (is_in SuffixPart c) (all_in SuffixPart t) first all) (omega (arith, more)))))
        apart

leads-37 : lead_of 37 ≡ lead.Signed ValueName
unfolding lead_of is_in
leads-37 = refl

leads-94 : lead_of 94 ≡ lead.Signed BlockName
unfolding lead_of is_in
leads-94 = refl

leads-35 : lead_of 35 ≡ lead.Signed HashName
unfolding lead_of is_in
leads-35 = refl

leads-64 : lead_of 64 ≡ lead.Symbol
unfolding lead_of is_in
leads-64 = refl

pub leads-34 : lead_of 34 ≡ lead.Quote
unfolding lead_of is_in
leads-34 = refl

leads-33 : lead_of 33 ≡ lead.Bang
unfolding lead_of is_in
leads-33 = refl

leads-45 : lead_of 45 ≡ lead.Dash
unfolding lead_of is_in
leads-45 = refl

ahead-symbol_name : (s rest : List ℕ) → is_signed_name 64 s ≡ true → Ahead SymbolName s rest
unfolding front
ahead-symbol_name [] rest e = absurd (false≢true e)
ahead-symbol_name (b ∷ s) rest e = go s (some-parts SuffixPart s parts.1)
  where
    parts : (eqb b 64 ≡ true) × (some_in SuffixPart s ≡ true)
    parts = and_parts (eqb b 64) (some_in SuffixPart s) e

    leads_b : lead_of b ≡ lead.Symbol
    leads_b = ap lead_of (eqb-true b 64 parts.0) ∙ leads-64

    go : (x : List ℕ) → (c : ℕ) × (t : List ℕ) × (x ≡ c ∷ t) × (is_in SuffixPart c ≡ true) × (all_in SuffixPart t ≡ true) → Ahead SymbolName (b ∷ x) rest
    go x (c, t, is, first, all) =
        let len = all-append SuffixPart (c ∷ t) rest (and_from (is_in SuffixPart c) (all_in SuffixPart t) first all) in
        subst (λ x. Ahead SymbolName (b ∷ x) rest) (sym is)
        (by_length SymbolName (b ∷ c ∷ t) rest (1 + prefix_len (is_in SuffixPart) (c ∷ (t ++ rest))) (rw (leads_b, first) refl) (omega (arith, len))
        (λ more. not_false _ (more_in SuffixPart (c ∷ t) rest (and_from (is_in SuffixPart c) (all_in SuffixPart t) first all) (omega (arith, more)))))

-- a string is read whole
string-append : (s rest : List ℕ) → is_string s ≡ true → string_len (s ++ rest) ≡ Some (length s)
string-append [] rest e = absurd (false≢true e)
string-append (b ∷ s) rest e =
    let parts = and_parts (is_quoted (b ∷ s)) (escapes_well (b ∷ s) escape.Outside) e in
    let quoted = and_parts (eqb b 34) (ends_quoted s false) parts.0 in
    let end : quote_end (s ++ rest) false 1 ≡ Some (suc (length s)) = quoted-append s rest false 1 quoted.1 ∙ ap Some (omega arith) in
    rw (quoted.0, end, take-append_seam (b ∷ s) rest, parts.1) refl

quote_no_suffix : is_in SuffixPart 34 ≡ false
unfolding is_in
quote_no_suffix = refl

string_begins : (s : List ℕ) → is_string s ≡ true → (t : List ℕ) × (s ≡ 34 ∷ t)
string_begins [] e = absurd (false≢true e)
string_begins (b ∷ s) e =
    let quoted = (and_parts (is_quoted (b ∷ s)) (escapes_well (b ∷ s) escape.Outside) e).0 in
    (s, ap (λ x. x ∷ s) (eqb-true b 34 (and_parts (eqb b 34) (ends_quoted s false) quoted).0))

ahead-symbol_text : (s rest : List ℕ) → is_symbol_text s ≡ true → Ahead SymbolText s rest
unfolding front
ahead-symbol_text [] rest e = absurd (false≢true e)
ahead-symbol_text (b ∷ s) rest e =
    let parts = and_parts (eqb b 64) (is_string s) e in
    let leads_b : lead_of b ≡ lead.Symbol = ap lead_of (eqb-true b 64 parts.0) ∙ leads-64 in
    let begins = string_begins s parts.1 in
    let no_name : is_in SuffixPart (get_or (s ++ rest) 0 0) ≡ false = ap (λ x. is_in SuffixPart (get_or (x ++ rest) 0 0)) begins.1 ∙ quote_no_suffix in
    by_length SymbolText (b ∷ s) rest (length s + 1) (rw (leads_b, no_name, string-append s rest parts.1) refl) (omega arith) (λ more. absurd (omega (arith, more)))

ahead-text : (s rest : List ℕ) → is_string s ≡ true → Ahead Text s rest
unfolding front
ahead-text s rest e =
    let begins = string_begins s e in
    let leads : lead_of (get_or (s ++ rest) 0 0) ≡ lead.Quote = ap (λ x. lead_of (get_or (x ++ rest) 0 0)) begins.1 ∙ leads-34 in
    by_length Text s rest (length s) (rw (leads, string-append s rest e) refl) (omega arith) (λ more. absurd (omega (arith, more)))

ahead-bang_name : (s rest : List ℕ) → is_bang_name s ≡ true → Ahead BangName s rest
unfolding front
ahead-bang_name [] rest e = absurd (false≢true e)
ahead-bang_name (b ∷ []) rest e = absurd (false≢true (and_parts (eqb b 33) false e).1)
ahead-bang_name (b ∷ c ∷ s) rest e =
    let parts = and_parts (eqb b 33) (is_name (c ∷ s)) e in
    let leads_b : lead_of b ≡ lead.Bang = ap lead_of (eqb-true b 33 parts.0) ∙ leads-33 in
    let name = and_parts (is_in NameStart c) (all_in NamePart s) parts.1 in
    let len = all-append NamePart (c ∷ s) rest (and_from (is_in NamePart c) (all_in NamePart s) (start_is_part c name.0) name.1) in
    by_length BangName (b ∷ c ∷ s) rest (1 + prefix_len (is_in NamePart) (c ∷ (s ++ rest))) (rw (leads_b, name.0) refl) (omega (arith, len))
    (λ more. not_false _ (more_in NamePart (c ∷ s) rest (and_from (is_in NamePart c) (all_in NamePart s) (start_is_part c name.0) name.1) (omega (arith, more))))

-- `0` and `x`, where one digit and the rest are `0x` and more
zero_apart : (b : ℕ) (s rest more : List ℕ) → length s ≡ 0 → b ∷ (s ++ rest) ≡ codes "0x" ++ more → (bytes_eq (b ∷ s) (codes "0") && eqb (get_or rest 0 0) 120) ≡ true
zero_apart b [] rest more len whole =
    let first : b ≡ 48 = ap (λ l. get_or l 0 0) whole in
    let second : get_or rest 0 0 ≡ 120 = ap (λ l. get_or l 1 0) whole in
    and_from (bytes_eq (b ∷ []) (codes "0")) (eqb (get_or rest 0 0) 120) ((bytes_eq-Decides (b ∷ []) (codes "0")).1 (ap (λ b. b ∷ []) first)) (eq-eqb (get_or rest 0 0) 120 second)
zero_apart b (c ∷ s) rest more len whole = absurd (omega arith)

ahead-digits : (s rest : List ℕ) → some_in Digit s ≡ true → Ahead Digits s rest
unfolding front
ahead-digits [] rest e = absurd (false≢true e)
ahead-digits (b ∷ s) rest e = go (starts_with nat_eq text (codes "0x") && is_in HexDigit (get_or text 2 0)) refl
  where
    text : List ℕ
    text = b ∷ (s ++ rest)

    parts : (is_in Digit b ≡ true) × (all_in Digit s ≡ true)
    parts = and_parts (is_in Digit b) (all_in Digit s) e

    len : length s ≤ prefix_len (is_in Digit) (s ++ rest)
    len = all-append Digit s rest parts.1

    go : (t : Bool) → (starts_with nat_eq text (codes "0x") && is_in HexDigit (get_or text 2 0)) ≡ t → Ahead Digits (b ∷ s) rest
    go false is = by_length Digits (b ∷ s) rest (1 + prefix_len (is_in Digit) (s ++ rest)) (rw (digit_leads b parts.0, is) refl) (omega (arith, len))
        (λ more. and_left (not (is_in Digit (get_or rest 0 0))) _ (not_false _ (more_in Digit s rest parts.1 (omega (arith, more)))))
    go true is =
        let starts = starts_tells text (codes "0x") (and_parts (starts_with nat_eq text (codes "0x")) (is_in HexDigit (get_or text 2 0)) is).0 in
        let one : prefix_len (is_in Digit) (s ++ rest) ≡ 0 = ap (λ l. prefix_len (is_in Digit) (drop 1 l)) starts ∙ hex_digits (drop 2 text) in (
          (Hex, 2 + prefix_len (is_in HexDigit) (drop 2 text)),
          rw (digit_leads b parts.0, is) refl,
          inl (omega (arith, len, one), and_right (not (is_in Digit (get_or rest 0 0))) _ (not_false _ (zero_apart b s rest (drop 2 text) (omega (arith, len, one)) starts))),
        )

ahead-hex : (s rest : List ℕ) → is_hex s ≡ true → Ahead Hex s rest
unfolding front
ahead-hex s rest e = go (drop 2 s) (starts_tells s (codes "0x") parts.0) (some-parts HexDigit (drop 2 s) parts.1)
  where
    parts : (starts_with nat_eq s (codes "0x") ≡ true) × (some_in HexDigit (drop 2 s) ≡ true)
    parts = and_parts (starts_with nat_eq s (codes "0x")) (some_in HexDigit (drop 2 s)) e

    go : (x : List ℕ) → s ≡ codes "0x" ++ x → (d : ℕ) × (t : List ℕ) × (x ≡ d ∷ t) × (is_in HexDigit d ≡ true) × (all_in HexDigit t ≡ true) → Ahead Hex s rest
    go x starts (d, t, is, first, all) =
        let len = all-append HexDigit (d ∷ t) rest (and_from (is_in HexDigit d) (all_in HexDigit t) first all) in
        let whole : s ≡ 48 ∷ 120 ∷ d ∷ t = starts ∙ ap (λ x. 48 ∷ 120 ∷ x) is in
        subst (λ s. Ahead Hex s rest) (sym whole)
        (by_length Hex (48 ∷ 120 ∷ d ∷ t) rest (2 + prefix_len (is_in HexDigit) (d ∷ (t ++ rest))) (rw (leads-48, first) refl) (omega (arith, len))
        (λ more. not_false _ (more_in HexDigit (d ∷ t) rest (and_from (is_in HexDigit d) (all_in HexDigit t) first all) (omega (arith, more)))))

ahead-memref : (s rest : List ℕ) → is_memref s ≡ true → Ahead Memref s rest
unfolding front
ahead-memref s rest e =
    let parts = and_parts (starts_with nat_eq s (codes "memref<")) (ends_bracket (drop 7 s) 0) e in
    let starts = starts_tells s (codes "memref<") parts.0 in
    let end = bracket-append (drop 7 s) rest 0 7 parts.1 in
    subst (λ s. Ahead Memref s rest) (sym starts)
    (by_length Memref (codes "memref<" ++ drop 7 s) rest (7 + length (drop 7 s)) (rw (leads-109, end) refl) (omega arith) (λ more. absurd (omega (arith, more))))

ahead-arrow : (s rest : List ℕ) → bytes_eq s (codes "->") ≡ true → Ahead Arrow s rest
unfolding front
ahead-arrow s rest e =
    subst (λ s. Ahead Arrow s rest) (sym ((bytes_eq-Decides s (codes "->")).0 e)) (by_length Arrow (codes "->") rest 2 (rw leads-45 refl) (omega arith) (λ more. absurd (omega (arith, more))))

ahead-mark : (mark : ℕ) (s rest : List ℕ) → is_mark mark s ≡ true → Ahead (Byte mark) s rest
unfolding front
ahead-mark mark s rest e = subst (λ s. Ahead (Byte mark) s rest) (sym ((bytes_eq-Decides s (mark ∷ [])).0 parts.1)) (go (eqb mark 45) refl)
  where
    parts : (is_in Mark mark ≡ true) × (bytes_eq s (mark ∷ []) ≡ true)
    parts = and_parts (is_in Mark mark) (bytes_eq s (mark ∷ [])) e

    then_dash : (t : Bool) → eqb (get_or rest 0 0) 62 ≡ t → Ahead (Byte 45) (45 ∷ []) rest
    then_dash true is = ((Arrow, 2), rw (leads-45, is) refl, inl (omega arith, not_false _ is))
    then_dash false is = by_length (Byte 45) (45 ∷ []) rest 1 (rw (leads-45, is) refl) (omega arith) (λ more. absurd (omega (arith, more)))

    go : (t : Bool) → eqb mark 45 ≡ t → Ahead (Byte mark) (mark ∷ []) rest
    go true is = subst (λ m. Ahead (Byte m) (m ∷ []) rest) (sym (eqb-true mark 45 is)) (then_dash (eqb (get_or rest 0 0) 62) refl)
    go false is = by_length (Byte mark) (mark ∷ []) rest 1 (rw (mark_leads mark parts.0 is) refl) (omega arith) (λ more. absurd (omega (arith, more)))

-- `front` gives each token that begins the text, or a longer one
pub ahead : (kind : TokenKind) (s rest : List ℕ) → is_token kind s ≡ true → Ahead kind s rest
ahead Name s rest e = ahead-name s rest e
ahead ValueName s rest e = ahead-signed_name ValueName 37 s rest leads-37 refl e
ahead BlockName s rest e = ahead-signed_name BlockName 94 s rest leads-94 refl e
ahead SymbolName s rest e = ahead-symbol_name s rest e
ahead HashName s rest e = ahead-signed_name HashName 35 s rest leads-35 refl e
ahead SymbolText s rest e = ahead-symbol_text s rest e
ahead Digits s rest e = ahead-digits s rest e
ahead Hex s rest e = ahead-hex s rest e
ahead Text s rest e = ahead-text s rest e
ahead Memref s rest e = ahead-memref s rest e
ahead BangName s rest e = ahead-bang_name s rest e
ahead Arrow s rest e = ahead-arrow s rest e
ahead (Byte mark) s rest e = ahead-mark mark s rest e
ahead End s rest e = absurd (false≢true e)
