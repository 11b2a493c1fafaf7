-- Documents whose tokens stand apart are read back as these tokens.
use Rattle.std.proofs.Common.{◌≡◌, ℕ, suc, ◌+◌, Bool, true, false, ◌&&◌, List, [], ◌∷◌, ◌++◌, length, refl, sym, ap, subst, append_assoc, append-nil, length-append, arith, Result, Ok}
use Rattle.mlir_lex.specs.declared.bytes.ByteClass.TheVariants.{Blank}
use Rattle.mlir_lex.specs.declared.kinds.Token.{Token}
use Rattle.mlir_lex.specs.declared.kinds.TokenKind.{TokenKind}
use Rattle.mlir_lex.specs.declared.kinds.TokenKind.TheVariants.{End}
use Rattle.std.proofs.Math.Seq.{drop-append_seam}
use Rattle.mlir_lex.specs.declared.kinds.LexFault.{LexFault}
use Rattle.mlir_lex.specs.Bytes.{is_in}
use Rattle.mlir_lex.specs.Grammar.{Reads, blank, token, ended, is_token, is_digits, before, token_at, all_in}
use Rattle.mlir_lex.specs.Laws.{is_apart, ReadBack}
use Rattle.mlir_print.specs.Docs as doc
use Rattle.mlir_print.specs.Docs.{Doc, ◌<>◌, bytes_of}
use Rattle.mlir_print.specs.Spelled.{tokens_of}

-- each token is one, and what stands behind it, up to and with the rest, can't lengthen it
abbrev pub Stands : Doc → List ℕ → Type 0
Stands doc.Empty rest = Unit {0}
Stands (doc.Token kind text) rest = (is_token kind text ≡ true) × (is_apart kind text rest ≡ true)
Stands doc.Blank rest = Unit {0}
Stands (doc.Line indent) rest = all_in Blank indent ≡ true
Stands (d <> e) rest = Stands d (bytes_of e ++ rest) × Stands e rest

-- these tokens before the others
abbrev pub before_all : List Token → Result (List Token) LexFault → Result (List Token) LexFault
before_all [] outcome = outcome
before_all (t ∷ ts) outcome = before t (before_all ts outcome)

before_append : (ts us : List Token) (outcome : Result (List Token) LexFault) → before_all (ts ++ us) outcome ≡ before_all ts (before_all us outcome)
before_append [] us outcome = refl
before_append (t ∷ ts) us outcome = ap (before t) (before_append ts us outcome)

before_ok : (ts us : List Token) → before_all ts (Ok us) ≡ Ok (ts ++ us)
before_ok [] us = refl
before_ok (t ∷ ts) us = ap (before t) (before_ok ts us)

-- the text reads so from a byte on, whatever stands before it
abbrev Reading : ℕ → List ℕ → Result (List Token) LexFault → Type 0
Reading at text outcome = (digits : Bool) → Reads at digits text outcome

pub both : (a b : Bool) → (a && b) ≡ true → (a ≡ true) × (b ≡ true)
both true b e = (refl, e)
both false b e = cc

blanks : (indent rest : List ℕ) (at : ℕ) (outcome : Result (List Token) LexFault) → all_in Blank indent ≡ true
    → Reading (at + length indent) rest outcome → Reading at (indent ++ rest) outcome
blanks [] rest at outcome are reads digits = let same : at + 0 ≡ at = omega arith in subst (λ n. Reads n digits rest outcome) same (reads digits)
blanks (b ∷ bs) rest at outcome are reads digits =
    let p = both (is_in Blank b) (all_in Blank bs) are in
    let same : at + suc (length bs) ≡ at + 1 + length bs = omega arith in
    blank at digits b (bs ++ rest) outcome p.0 (blanks bs rest (at + 1) outcome p.1 (λ g. subst (λ n. Reads n g rest outcome) same (reads g)) false)

module _ (back : ReadBack) where
  word : (kind : TokenKind) (text rest : List ℕ) (at : ℕ) (outcome : Result (List Token) LexFault) → is_token kind text ≡ true → is_apart kind text rest ≡ true
      → Reading (at + length text) rest outcome → Reading at (text ++ rest) (before (token_at kind at (at + length text)) outcome)
  word kind text rest at outcome is apart reads digits =
      token at digits (text ++ rest) kind (length text) outcome (back kind text rest is apart)
      (subst (λ t. Reads (at + length text) (is_digits kind) t outcome) (sym (drop-append_seam text rest)) (reads (is_digits kind)))

  reads_doc : (d : Doc) (rest : List ℕ) (at : ℕ) (outcome : Result (List Token) LexFault) → Stands d rest
      → Reading (at + length (bytes_of d)) rest outcome → Reading at (bytes_of d ++ rest) (before_all (tokens_of d at) outcome)
  unfolding is_in
  reads_doc doc.Empty rest at outcome stands reads digits = let same : at + 0 ≡ at = omega arith in subst (λ n. Reads n digits rest outcome) same (reads digits)
  reads_doc (doc.Token kind text) rest at outcome stands reads digits = word kind text rest at outcome stands.0 stands.1 reads digits
  reads_doc doc.Blank rest at outcome stands reads digits = blank at digits 32 rest outcome refl (reads false)
  reads_doc (doc.Line indent) rest at outcome stands reads digits =
      let same : at + suc (length indent) ≡ at + 1 + length indent = omega arith in
      blank at digits 10 (indent ++ rest) outcome refl (blanks indent rest (at + 1) outcome stands (λ g. subst (λ n. Reads n g rest outcome) same (reads g)) false)
  reads_doc (d <> e) rest at outcome stands reads digits =
      let same : at + length (bytes_of d ++ bytes_of e) ≡ at + length (bytes_of d) + length (bytes_of e) = omega (arith, length-append (bytes_of d) (bytes_of e)) in
      let behind = reads_doc e rest (at + length (bytes_of d)) outcome stands.1 (λ g. subst (λ n. Reads n g rest outcome) same (reads g)) in
      let whole = reads_doc d (bytes_of e ++ rest) at (before_all (tokens_of e (at + length (bytes_of d))) outcome) stands.0 behind digits in
      rw (append_assoc, before_append) whole

  pub reads_whole : (d : Doc) → Stands d [] → Reads 0 false (bytes_of d) (Ok (tokens_of d 0 ++ token_at End (length (bytes_of d)) (length (bytes_of d)) ∷ []))
  reads_whole d stands =
      let same : 0 + length (bytes_of d) ≡ length (bytes_of d) = omega arith in
      let last : List Token = token_at End (length (bytes_of d)) (length (bytes_of d)) ∷ [] in
      let read = reads_doc d [] 0 (Ok last) stands (λ g. subst (λ n. Reads n g [] (Ok last)) (sym same) (ended (length (bytes_of d)) g)) false in
      subst (λ t. Reads 0 false t (Ok (tokens_of d 0 ++ last))) (append-nil (bytes_of d)) (subst (λ o. Reads 0 false (bytes_of d ++ []) o) (before_ok (tokens_of d 0) last) read)
