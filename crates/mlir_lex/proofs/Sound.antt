-- What `front` gives is a token of its kind.
use Rattle.std.proofs.Common.{◌≡◌, ℕ, suc, ◌+◌, ◌≤◌, Bool, true, false, not, ◌&&◌, cond, eqb, List, [], ◌∷◌, ◌++◌, length, drop, take, get_or, Option, Some, None, refl, ap, sym, ◌∙◌, subst, arith}
use Rattle.std.proofs.lemmas.Bool.{false≢true, and_from, eqb-true, eq-eqb}
use Rattle.std.proofs.lemmas.List.Sums.{prefix_len-le-length}
use Rattle.std.proofs.lemmas.Option.{same_Some}
use Rattle.std.specs.List.{prefix_len, starts_with}
use Rattle.std.specs.Option.{option_map, option_and_then}
use Rattle.std.specs.Prelude.{nat_eq, codes}
use Rattle.std.specs.Str.{bytes_eq}
use Rattle.mlir_lex.specs.declared.bytes.ByteClass.{ByteClass}
use Rattle.mlir_lex.specs.declared.bytes.ByteClass.TheVariants.{NameStart, NamePart, SuffixPart, Digit, HexDigit, Mark}
use Rattle.mlir_lex.specs.declared.strings.Escape.TheVariants as escape
use Rattle.mlir_lex.specs.declared.kinds.TokenKind.{TokenKind}
use Rattle.mlir_lex.specs.declared.kinds.TokenKind.TheVariants.{ValueName, BlockName, SymbolName, HashName, SymbolText, Digits, Hex, Text, BangName, Arrow, Byte}
use Rattle.mlir_lex.specs.declared.scan.Lead.{Lead}
use Rattle.mlir_lex.specs.declared.scan.Lead.TheVariants as lead
use Rattle.mlir_lex.specs.Bytes.{is_in, past}
use Rattle.mlir_lex.specs.Grammar.{is_empty, all_in, some_in, is_name, is_signed_name, is_hex, ends_quoted, is_quoted, escapes_well, is_string, is_bang_name, open_after, ends_bracket, is_memref, is_token}
use Rattle.mlir_lex.specs.Scan.{quote_end, quoted_len, string_len, bracket_end, memref_len, word, number, signed_name, symbol, bang_name, dash, lead_of, front_from, front}
use Rattle.mlir_lex.proofs.Longest.{let_through, starts_tells, start_is_part}

-- ---- lengths

take_or_none : (c : ByteClass) (b : ℕ) (bs : List ℕ) (t : Bool) → is_in c b ≡ t → all_in c (take (prefix_len (is_in c) bs) bs) ≡ true
    → all_in c (take (cond t (1 + prefix_len (is_in c) bs) 0) (b ∷ bs)) ≡ true
take_or_none c b bs false is later = refl
take_or_none c b bs true is later =
    let e : 1 + prefix_len (is_in c) bs ≡ suc (prefix_len (is_in c) bs) = omega arith in
    rw e (and_from (is_in c b) (all_in c (take (prefix_len (is_in c) bs) bs)) is later)

pub all-take : (c : ByteClass) (bs : List ℕ) → all_in c (take (prefix_len (is_in c) bs) bs) ≡ true
all-take c [] = refl
all-take c (b ∷ bs) = take_or_none c b bs (is_in c b) refl (all-take c bs)

-- a byte of the class, and those after it
some-take : (c : ByteClass) (b : ℕ) (bs : List ℕ) → is_in c b ≡ true → some_in c (take (prefix_len (is_in c) (b ∷ bs)) (b ∷ bs)) ≡ true
some-take c b bs is =
    let e : prefix_len (is_in c) (b ∷ bs) ≡ suc (prefix_len (is_in c) bs) = rw is (omega arith) in
    ap (λ n. some_in c (take n (b ∷ bs))) e ∙ and_from (is_in c b) (all_in c (take (prefix_len (is_in c) bs) bs)) is (all-take c bs)

-- n is k places past `at`, within the bytes, and the first k bytes pass the test
abbrev Ends : (List ℕ → Bool) → List ℕ → ℕ → ℕ → Type 0
Ends test bs at n = (k : ℕ) × (n ≡ at + k) × (k ≤ length bs) × (test (take k bs) ≡ true)

-- one more byte of a scan
scan_ends : (b : ℕ) (bs : List ℕ) (t u : Bool) (o : Option ℕ) (at n : ℕ) (test rest : List ℕ → Bool)
    → ((xs : List ℕ) → test (b ∷ xs) ≡ cond t false (cond u (is_empty xs) (rest xs)))
    → cond t None (cond u (Some (at + 1)) o) ≡ Some n → (o ≡ Some n → Ends rest bs (at + 1) n) → Ends test (b ∷ bs) at n
scan_ends b bs true u o at n test rest step e later = absurd (cc)
scan_ends b bs false true o at n test rest step e later = (1, (let same : at + 1 ≡ n = cc in omega arith), omega arith, step [])
scan_ends b bs false false o at n test rest step e later =
    let l = later e in (suc l.0, omega (arith, l.1), omega (arith, l.2), step (take l.0 bs) ∙ l.3)

quote_ends : (bs : List ℕ) (hidden : Bool) (at n : ℕ) → quote_end bs hidden at ≡ Some n → Ends (λ s. ends_quoted s hidden) bs at n
quote_ends [] hidden at n e = absurd (cc)
quote_ends (b ∷ bs) hidden at n e =
    scan_ends b bs (eqb b 10) (eqb b 34 && not hidden) (quote_end bs (eqb b 92 && not hidden) (at + 1)) at n (λ s. ends_quoted s hidden) (λ s. ends_quoted s (eqb b 92 && not hidden))
    (λ xs. refl) e (λ h. quote_ends bs (eqb b 92 && not hidden) (at + 1) n h)

bracket_ends : (bs : List ℕ) (inner at n : ℕ) → bracket_end bs inner at ≡ Some n → Ends (λ s. ends_bracket s inner) bs at n
bracket_ends [] inner at n e = absurd (cc)
bracket_ends (b ∷ bs) inner at n e =
    scan_ends b bs false (eqb b 62 && eqb inner 0) (bracket_end bs (open_after b inner) (at + 1)) at n (λ s. ends_bracket s inner) (λ s. ends_bracket s (open_after b inner))
    (λ xs. refl) e (λ h. bracket_ends bs (open_after b inner) (at + 1) n h)

-- ---- strings

-- the first n bytes pass the test
abbrev pub Passes : (List ℕ → Bool) → ℕ → List ℕ → Type 0
Passes test n text = (n ≤ length text) × (test (take n text) ≡ true)

pub quoted_passes : (text : List ℕ) (n : ℕ) → quoted_len text ≡ Some n → Passes is_quoted n text
quoted_passes [] n e = absurd (cc)
quoted_passes (b ∷ bs) n e =
    let h = let_through (eqb b 34) (quote_end bs false 1) n e in
    let ends = quote_ends bs false 1 n h.1 in
    let same : n ≡ suc ends.0 = omega (arith, ends.1) in
    (omega (arith, ends.2, same), ap (λ n. is_quoted (take n (b ∷ bs))) same ∙ and_from (eqb b 34) (ends_quoted (take ends.0 bs) false) h.0 ends.3)

pub string_passes : (text : List ℕ) (n : ℕ) → string_len text ≡ Some n → Passes is_string n text
string_passes text n e = go (quoted_len text) refl e
  where
    go : (o : Option ℕ) → quoted_len text ≡ o → option_and_then (λ n. cond (escapes_well (take n text) escape.Outside) (Some n) None) o ≡ Some n → Passes is_string n text
    go None is e = absurd (cc)
    go (Some m) is e =
        let h = let_through (escapes_well (take m text) escape.Outside) (Some m) n e in
        let same : m ≡ n = same_Some m n h.1 in
        let quoted = quoted_passes text m is in
        subst (λ n. Passes is_string n text) same (quoted.0, and_from (is_quoted (take m text)) (escapes_well (take m text) escape.Outside) quoted.1 h.0)

-- ---- leads

-- what the byte is where this is what it begins
abbrev Tells : Lead → ℕ → Type 0
Tells lead.Word b = is_in NameStart b ≡ true
Tells lead.Number b = is_in Digit b ≡ true
Tells (lead.Signed kind) b = (s : List ℕ) → is_token kind s ≡ is_signed_name b s
Tells lead.Symbol b = b ≡ 64
Tells lead.Quote b = b ≡ 34
Tells lead.Bang b = b ≡ 33
Tells lead.Dash b = b ≡ 45
Tells (lead.Mark mark) b = (mark ≡ b) × (is_in Mark b ≡ true)
Tells lead.Other b = Unit {0}

tells : (b : ℕ) (t1 t2 t3 t4 t5 t6 t7 t8 t9 t10 : Bool) → is_in NameStart b ≡ t1 → is_in Digit b ≡ t2 → eqb b 37 ≡ t3 → eqb b 94 ≡ t4 → eqb b 35 ≡ t5
    → eqb b 64 ≡ t6 → eqb b 34 ≡ t7 → eqb b 33 ≡ t8 → eqb b 45 ≡ t9 → is_in Mark b ≡ t10
    → Tells (cond t1 lead.Word (cond t2 lead.Number (cond t3 (lead.Signed ValueName) (cond t4 (lead.Signed BlockName) (cond t5 (lead.Signed HashName)
    (cond t6 lead.Symbol (cond t7 lead.Quote (cond t8 lead.Bang (cond t9 lead.Dash (cond t10 (lead.Mark b) lead.Other)))))))))) b
tells b true t2 t3 t4 t5 t6 t7 t8 t9 t10 e1 e2 e3 e4 e5 e6 e7 e8 e9 e10 = e1
tells b false true t3 t4 t5 t6 t7 t8 t9 t10 e1 e2 e3 e4 e5 e6 e7 e8 e9 e10 = e2
tells b false false true t4 t5 t6 t7 t8 t9 t10 e1 e2 e3 e4 e5 e6 e7 e8 e9 e10 = λ s. ap (λ b. is_signed_name b s) (sym (eqb-true b 37 e3))
tells b false false false true t5 t6 t7 t8 t9 t10 e1 e2 e3 e4 e5 e6 e7 e8 e9 e10 = λ s. ap (λ b. is_signed_name b s) (sym (eqb-true b 94 e4))
tells b false false false false true t6 t7 t8 t9 t10 e1 e2 e3 e4 e5 e6 e7 e8 e9 e10 = λ s. ap (λ b. is_signed_name b s) (sym (eqb-true b 35 e5))
tells b false false false false false true t7 t8 t9 t10 e1 e2 e3 e4 e5 e6 e7 e8 e9 e10 = eqb-true b 64 e6
tells b false false false false false false true t8 t9 t10 e1 e2 e3 e4 e5 e6 e7 e8 e9 e10 = eqb-true b 34 e7
tells b false false false false false false false true t9 t10 e1 e2 e3 e4 e5 e6 e7 e8 e9 e10 = eqb-true b 33 e8
tells b false false false false false false false false true t10 e1 e2 e3 e4 e5 e6 e7 e8 e9 e10 = eqb-true b 45 e9
tells b false false false false false false false false false true e1 e2 e3 e4 e5 e6 e7 e8 e9 e10 = (refl, e10)
tells b false false false false false false false false false false e1 e2 e3 e4 e5 e6 e7 e8 e9 e10 = tt

lead_tells : (b : ℕ) → Tells (lead_of b) b
unfolding lead_of
lead_tells b = tells b _ _ _ _ _ _ _ _ _ _ refl refl refl refl refl refl refl refl refl refl

-- ---- each lead

no_nul_suffix : is_in SuffixPart 0 ≡ false
unfolding is_in
no_nul_suffix = refl

no_nul_hex : is_in HexDigit 0 ≡ false
unfolding is_in
no_nul_hex = refl

no_nul_start : is_in NameStart 0 ≡ false
unfolding is_in
no_nul_start = refl

mark_45 : is_token (Byte 45) (45 ∷ []) ≡ true
unfolding is_in
mark_45 = refl

-- the first t.1 bytes are a token of kind t.0
abbrev pub IsCut : TokenKind × ℕ → List ℕ → Type 0
IsCut t text = (t.1 ≤ length text) × (is_token t.0 (take t.1 text) ≡ true)

-- one byte, and then some of a class
one_and_some : (c : ByteClass) (b : ℕ) (bs : List ℕ) → is_in c (get_or bs 0 0) ≡ true → is_in c 0 ≡ false
    → (1 + prefix_len (is_in c) bs ≤ length (b ∷ bs)) × (n : ℕ) × (1 + prefix_len (is_in c) bs ≡ suc n) × (some_in c (take n bs) ≡ true)
one_and_some c b [] is no_nul = absurd (false≢true (sym no_nul ∙ is))
one_and_some c b (d ∷ bs) is no_nul =
    let le = prefix_len-le-length (is_in c) (d ∷ bs) in
    (omega (arith, le), prefix_len (is_in c) (d ∷ bs), omega arith, some-take c d bs is)

cut-word : (b : ℕ) (bs : List ℕ) → is_in NameStart b ≡ true → IsCut (word (b ∷ bs) (memref_len (b ∷ bs))) (b ∷ bs)
cut-word b bs is = go (memref_len (b ∷ bs)) refl
  where
    go : (o : Option ℕ) → memref_len (b ∷ bs) ≡ o → IsCut (word (b ∷ bs) o) (b ∷ bs)
    go None none =
        let le = prefix_len-le-length (is_in NamePart) bs in
        let e : 1 + prefix_len (is_in NamePart) bs ≡ suc (prefix_len (is_in NamePart) bs) = omega arith in
        (omega (arith, le), ap (λ n. is_name (take n (b ∷ bs))) e ∙ and_from (is_in NameStart b) (all_in NamePart (take (prefix_len (is_in NamePart) bs) bs)) is (all-take NamePart bs))
    go (Some n) some =
        let h = let_through (starts_with nat_eq (b ∷ bs) (codes "memref<")) (bracket_end (drop 7 (b ∷ bs)) 0 7) n some in
        let text = starts_tells (b ∷ bs) (codes "memref<") h.0 in
        let rest = drop 7 (b ∷ bs) in
        let ends = bracket_ends rest 0 7 n h.1 in
        let long : length (b ∷ bs) ≡ 7 + length rest = ap length text ∙ omega arith in
        let seven : n ≡ suc (suc (suc (suc (suc (suc (suc ends.0)))))) = omega (arith, ends.1) in
        (omega (arith, ends.1, ends.2, long), (λ i. is_memref (take (seven i) (text i))) ∙ ends.3)

cut-number : (b : ℕ) (bs : List ℕ) → is_in Digit b ≡ true → IsCut (number (b ∷ bs)) (b ∷ bs)
cut-number b bs is = go (starts_with nat_eq (b ∷ bs) (codes "0x")) (is_in HexDigit (get_or (b ∷ bs) 2 0)) refl refl
  where
    digits : IsCut (Digits, past Digit (b ∷ bs) 1) (b ∷ bs)
    digits =
        let le = prefix_len-le-length (is_in Digit) bs in
        let e : 1 + prefix_len (is_in Digit) bs ≡ suc (prefix_len (is_in Digit) bs) = omega arith in
        (omega (arith, le), ap (λ n. some_in Digit (take n (b ∷ bs))) e ∙ and_from (is_in Digit b) (all_in Digit (take (prefix_len (is_in Digit) bs) bs)) is (all-take Digit bs))

    hex : (rest : List ℕ) → b ∷ bs ≡ codes "0x" ++ rest → is_in HexDigit (get_or rest 0 0) ≡ true → IsCut (Hex, past HexDigit (b ∷ bs) 2) (b ∷ bs)
    hex rest text first =
        let some = one_and_some HexDigit 120 rest first no_nul_hex in
        let e : 2 + prefix_len (is_in HexDigit) rest ≡ suc (suc some.1) = omega (arith, some.2) in
        subst (λ l. IsCut (Hex, past HexDigit l 2) l) (sym text) (omega (arith, some.0), ap (λ n. is_hex (take n (codes "0x" ++ rest))) e ∙ some.3)

    go : (t u : Bool) → starts_with nat_eq (b ∷ bs) (codes "0x") ≡ t → is_in HexDigit (get_or (b ∷ bs) 2 0) ≡ u
        → IsCut (cond (t && u) (Hex, past HexDigit (b ∷ bs) 2) (Digits, past Digit (b ∷ bs) 1)) (b ∷ bs)
    go false u x y = digits
    go true false x y = digits
    go true true x y =
        let text = starts_tells (b ∷ bs) (codes "0x") x in
        hex (drop 2 (b ∷ bs)) text (sym (ap (λ l. is_in HexDigit (get_or l 2 0)) text) ∙ y)

cut-signed_name : (kind : TokenKind) (b : ℕ) (bs : List ℕ) (t : TokenKind × ℕ) → ((s : List ℕ) → is_token kind s ≡ is_signed_name b s)
    → signed_name kind (b ∷ bs) ≡ Some t → IsCut t (b ∷ bs)
cut-signed_name kind b bs t is e =
    let h = let_through (is_in SuffixPart (get_or bs 0 0)) (Some (kind, past SuffixPart (b ∷ bs) 1)) t e in
    let some = one_and_some SuffixPart b bs h.0 no_nul_suffix in
    subst (λ t. IsCut t (b ∷ bs)) (same_Some (kind, past SuffixPart (b ∷ bs) 1) t h.1)
    (some.0, ap (λ n. is_token kind (take n (b ∷ bs))) some.2 ∙ is (b ∷ take some.1 bs) ∙ and_from (eqb b b) (some_in SuffixPart (take some.1 bs)) (eq-eqb b b refl) some.3)

cut-symbol : (bs : List ℕ) (t : TokenKind × ℕ) → symbol (64 ∷ bs) ≡ Some t → IsCut t (64 ∷ bs)
cut-symbol bs t e = go (is_in SuffixPart (get_or bs 0 0)) (string_len bs) refl refl e
  where
    go : (u : Bool) (o : Option ℕ) → is_in SuffixPart (get_or bs 0 0) ≡ u → string_len bs ≡ o
        → cond u (Some (SymbolName, past SuffixPart (64 ∷ bs) 1)) (option_map (λ n. (SymbolText, n + 1)) o) ≡ Some t → IsCut t (64 ∷ bs)
    go true o x y e =
        let some = one_and_some SuffixPart 64 bs x no_nul_suffix in
        subst (λ t. IsCut t (64 ∷ bs)) (same_Some (SymbolName, past SuffixPart (64 ∷ bs) 1) t e) (some.0, ap (λ n. is_token SymbolName (take n (64 ∷ bs))) some.2 ∙ some.3)
    go false None x y e = absurd (cc)
    go false (Some n) x y e =
        let passes = string_passes bs n y in
        let one : n + 1 ≡ suc n = omega arith in
        subst (λ t. IsCut t (64 ∷ bs)) (same_Some (SymbolText, n + 1) t e) (omega (arith, passes.0), ap (λ n. is_token SymbolText (take n (64 ∷ bs))) one ∙ passes.1)

cut-text : (text : List ℕ) (t : TokenKind × ℕ) → option_map (λ n. (Text, n)) (string_len text) ≡ Some t → IsCut t text
cut-text text t e = go (string_len text) refl e
  where
    go : (o : Option ℕ) → string_len text ≡ o → option_map (λ n. (Text, n)) o ≡ Some t → IsCut t text
    go None x e = absurd (cc)
    go (Some n) x e = subst (λ t. IsCut t text) (same_Some (Text, n) t e) (string_passes text n x)

cut-bang_name : (bs : List ℕ) (t : TokenKind × ℕ) → bang_name (33 ∷ bs) ≡ Some t → IsCut t (33 ∷ bs)
cut-bang_name [] t e = absurd (false≢true (sym no_nul_start ∙ (let_through (is_in NameStart 0) (Some (BangName, past NamePart (33 ∷ []) 1)) t e).0))
cut-bang_name (b ∷ bs) t e =
    let h = let_through (is_in NameStart b) (Some (BangName, past NamePart (33 ∷ b ∷ bs) 1)) t e in
    let le = prefix_len-le-length (is_in NamePart) bs in
    let two : past NamePart (33 ∷ b ∷ bs) 1 ≡ suc (suc (prefix_len (is_in NamePart) bs)) = rw (start_is_part b h.0) (omega arith) in
    subst (λ t. IsCut t (33 ∷ b ∷ bs)) (same_Some (BangName, past NamePart (33 ∷ b ∷ bs) 1) t h.1)
    (omega (arith, two, le), ap (λ n. is_bang_name (take n (33 ∷ b ∷ bs))) two ∙ and_from (is_in NameStart b) (all_in NamePart (take (prefix_len (is_in NamePart) bs) bs)) h.0 (all-take NamePart bs))

cut-dash : (bs : List ℕ) → IsCut (dash (45 ∷ bs)) (45 ∷ bs)
cut-dash [] = (omega arith, mark_45)
cut-dash (b ∷ bs) = go (eqb b 62) refl
  where
    go : (t : Bool) → eqb b 62 ≡ t → IsCut (cond t (Arrow, 2) (Byte 45, 1)) (45 ∷ b ∷ bs)
    go true is = (omega arith, and_from (eqb b 62) true is refl)
    go false is = (omega arith, mark_45)

-- what `front` gives is a token
pub front_cuts : (b : ℕ) (bs : List ℕ) (t : TokenKind × ℕ) → front (b ∷ bs) ≡ Some t → IsCut t (b ∷ bs)
unfolding front
front_cuts b bs t e = go (lead_of b) (lead_tells b) e
  where
    go : (l : Lead) → Tells l b → front_from l (b ∷ bs) ≡ Some t → IsCut t (b ∷ bs)
    go lead.Word is e = subst (λ t. IsCut t (b ∷ bs)) (same_Some (word (b ∷ bs) (memref_len (b ∷ bs))) t e) (cut-word b bs is)
    go lead.Number is e = subst (λ t. IsCut t (b ∷ bs)) (same_Some (number (b ∷ bs)) t e) (cut-number b bs is)
    go (lead.Signed kind) is e = cut-signed_name kind b bs t is e
    go lead.Symbol is e = subst (λ b. IsCut t (b ∷ bs)) (sym is) (cut-symbol bs t e)
    go lead.Quote is e = cut-text (b ∷ bs) t e
    go lead.Bang is e = subst (λ b. IsCut t (b ∷ bs)) (sym is) (cut-bang_name bs t e)
    go lead.Dash is e = subst (λ t. IsCut t (b ∷ bs)) (same_Some (dash (b ∷ bs)) t e) (subst (λ b. IsCut (dash (b ∷ bs)) (b ∷ bs)) (sym is) (cut-dash bs))
    go (lead.Mark mark) is e =
        subst (λ t. IsCut t (b ∷ bs)) (same_Some (Byte mark, 1) t e)
        (omega arith, and_from (is_in Mark mark) (bytes_eq (b ∷ []) (mark ∷ [])) (ap (is_in Mark) is.0 ∙ is.1) (and_from (eqb b mark) true (eq-eqb b mark (sym is.0)) refl))
    go lead.Other is e = absurd (cc)
