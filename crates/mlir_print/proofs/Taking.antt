-- The tokens of a document take its bytes.
use Rattle.std.proofs.Common.{◌≡◌, ℕ, ◌+◌, ◌-◌, List, [], ◌∷◌, ◌++◌, length, map, take, drop, refl, ap, subst, ◌∙◌, append_assoc, append-nil, length-append, arith}
use Rattle.std.proofs.Math.Seq.{drop-append_seam, take-append_seam}
use Rattle.std.proofs.lemmas.List.{map-append}
use Rattle.mlir_lex.specs.declared.kinds.TokenKind.{TokenKind}
use Rattle.mlir_lex.specs.declared.kinds.TokenKind.TheVariants.{End}
use Rattle.mlir_lex.specs.Grammar.{token_at}
use Rattle.ir_forms.specs.declared.ops.Module.{Module}
use Rattle.mlir_print.specs.Docs as doc
use Rattle.mlir_print.specs.Docs.{Doc, ◌<>◌, bytes_of}
use Rattle.mlir_print.specs.Printed.{module_doc, printed}
use Rattle.mlir_print.specs.Spelled.{tokens_of, words_of, word_at, spelled}

one : (k : TokenKind) (front text behind : List ℕ) → word_at (front ++ (text ++ behind)) (token_at k (length front) (length front + length text)) ≡ (k, text)
one k front text behind =
    let size : length front + length text - length front ≡ length text = omega arith in
    ap (λ bytes. (k, bytes)) (ap (λ n. take n (drop (length front) (front ++ (text ++ behind)))) size
    ∙ ap (λ bytes. take (length text) bytes) (drop-append_seam front (text ++ behind)) ∙ take-append_seam text behind)

words : (d : Doc) (front behind : List ℕ) → map (word_at (front ++ (bytes_of d ++ behind))) (tokens_of d (length front)) ≡ words_of d
words doc.Empty front behind = refl
words (doc.Token kind text) front behind = ap (λ w. w ∷ []) (one kind front text behind)
words doc.Blank front behind = refl
words (doc.Line indent) front behind = refl
words (d <> e) front behind =
    let first : map (word_at (front ++ ((bytes_of d ++ bytes_of e) ++ behind))) (tokens_of d (length front)) ≡ words_of d =
    rw append_assoc (words d front (bytes_of e ++ behind)) in
    let place : length (front ++ bytes_of d) ≡ length front + length (bytes_of d) = length-append front (bytes_of d) in
    let whole : (front ++ bytes_of d) ++ (bytes_of e ++ behind) ≡ front ++ ((bytes_of d ++ bytes_of e) ++ behind) = simp append_assoc in
    let second : map (word_at (front ++ ((bytes_of d ++ bytes_of e) ++ behind))) (tokens_of e (length front + length (bytes_of d))) ≡ words_of e =
    subst (λ n. map (word_at (front ++ ((bytes_of d ++ bytes_of e) ++ behind))) (tokens_of e n) ≡ words_of e) place
    (subst (λ text. map (word_at text) (tokens_of e (length (front ++ bytes_of d))) ≡ words_of e) whole (words e (front ++ bytes_of d) behind)) in
    map-append (word_at (front ++ ((bytes_of d ++ bytes_of e) ++ behind))) (tokens_of d (length front)) (tokens_of e (length front + length (bytes_of d)))
    ∙ ap (λ ws. ws ++ map (word_at (front ++ ((bytes_of d ++ bytes_of e) ++ behind))) (tokens_of e (length front + length (bytes_of d)))) first
    ∙ ap (λ ws. words_of d ++ ws) second

pub takes_doc : (d : Doc) → map (word_at (bytes_of d)) (tokens_of d 0 ++ token_at End (length (bytes_of d)) (length (bytes_of d)) ∷ []) ≡ words_of d ++ (End, []) ∷ []
takes_doc d =
    let n : ℕ = length (bytes_of d) in
    let none : n - n ≡ 0 = omega arith in
    let tokens : map (word_at (bytes_of d)) (tokens_of d 0) ≡ words_of d =
    subst (λ text. map (word_at text) (tokens_of d 0) ≡ words_of d) (append-nil (bytes_of d)) (words d [] []) in
    map-append (word_at (bytes_of d)) (tokens_of d 0) (token_at End n n ∷ [])
    ∙ ap (λ ws. ws ++ map (word_at (bytes_of d)) (token_at End n n ∷ [])) tokens
    ∙ ap (λ k. words_of d ++ (End, take k (drop n (bytes_of d))) ∷ []) none

pub takes : (m : Module) → map (word_at (printed m)) (spelled m) ≡ words_of (module_doc m) ++ (End, []) ∷ []
takes m = takes_doc (module_doc m)
