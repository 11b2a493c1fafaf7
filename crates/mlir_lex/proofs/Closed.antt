-- The table of closed brackets.
use Rattle.std.proofs.Common.{◌≡◌, ℕ, zero, suc, ◌+◌, ◌<◌, ◌≤◌, Bool, true, false, cond, List, [], ◌∷◌, length, drop, get_or, Option, None, refl, ap, sym, ◌∙◌, arith, ltb}
use Rattle.std.proofs.lemmas.Bool.Decides.{nat_tests}
use Rattle.std.proofs.lemmas.Bool.{ltb-false}
use Rattle.mlir_lex.specs.Grammar.{open_after}
use Rattle.mlir_lex.specs.Scan.{bracket_end, spare, closed_at}

-- where all spare brackets are used up by those that are open, none matches
pub bracket_end_none : (bs : List ℕ) (inner at : ℕ) → spare bs ≤ inner → bracket_end bs inner at ≡ None
bracket_end_none [] inner at few = refl
bracket_end_none (b ∷ bs) inner at few =
    let later = bracket_end_none bs (open_after b inner) (at + 1) in grind (arith, nat_tests, later)

-- the table, read
pub closed_at-get : (bs : List ℕ) (i : ℕ) (d : Bool) → i < length bs → get_or (closed_at bs) i d ≡ ltb 0 (spare (drop (suc i) bs))
closed_at-get [] i d within = absurd (omega arith)
closed_at-get (b ∷ bs) zero d within = refl
closed_at-get (b ∷ bs) (suc i) d within = closed_at-get bs i d (omega arith)

pub length-closed_at : (bs : List ℕ) → length (closed_at bs) ≡ length bs
length-closed_at [] = refl
length-closed_at (b ∷ bs) = ap suc (length-closed_at bs)

pub drop-closed_at : (n : ℕ) (bs : List ℕ) → drop n (closed_at bs) ≡ closed_at (drop n bs)
drop-closed_at zero bs = refl
drop-closed_at (suc n) [] = refl
drop-closed_at (suc n) (b ∷ bs) = drop-closed_at n bs

pub unclosed : (text : List ℕ) (closed : List Bool) → closed ≡ closed_at text → 7 ≤ length text → get_or closed 6 false ≡ false → bracket_end (drop 7 text) 0 7 ≡ None
unclosed text closed e long none =
    bracket_end_none (drop 7 text) 0 7 (ltb-false 0 (spare (drop 7 text)) (sym (closed_at-get text 6 false (omega arith)) ∙ sym (ap (λ c. get_or c 6 false) e) ∙ none))

pub none_either_way : (b : Bool) (o : Option ℕ) → o ≡ None → None ≡ cond b o None
none_either_way true o e = sym e
none_either_way false o e = refl

pub none_else : (b : Bool) (o : Option ℕ) → b ≡ false → None ≡ cond b o None
none_else true o e = absurd (cc)
none_else false o e = refl
