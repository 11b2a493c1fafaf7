-- A text has at most a token for each byte, and the one that ends it.
use Rattle.std.proofs.Common.{◌≡◌, ◌≤◌, ℕ, zero, suc, ◌+◌, ◌-◌, Bool, false, List, [], ◌∷◌, length, Result, Ok, Err, ap, arith}
use Rattle.mlir_lex.specs.declared.kinds.Token.{Token}
use Rattle.mlir_lex.specs.declared.kinds.TokenKind.TheVariants.{End}
use Rattle.mlir_lex.specs.declared.kinds.LexFault.{LexFault}
use Rattle.mlir_lex.specs.declared.kinds.LexFault.TheVariants as fault
use Rattle.mlir_lex.specs.declared.scan.Item.{Item}
use Rattle.mlir_lex.specs.declared.scan.Item.TheVariants as item
use Rattle.mlir_lex.specs.Grammar.{before, token_at, is_digits}
use Rattle.mlir_lex.specs.Scan.{item_of, read, reading}

-- a reading that answers tokens answers at most so many
abbrev AtMost : ℕ → Result (List Token) LexFault → Type 0
AtMost n outcome = (ts : List Token) → outcome ≡ Ok ts → length ts ≤ n

one : (t : Token) → AtMost 1 (Ok (t ∷ []))
one t ts is = let same : t ∷ [] ≡ ts = cc in omega (arith, ap length same)

fault-none : (n : ℕ) (e : LexFault) → AtMost n (Err e)
fault-none n e ts is = absurd cc

more : {m n : ℕ} (outcome : Result (List Token) LexFault) → m ≤ n → AtMost m outcome → AtMost n outcome
more outcome within few ts is = let h = few ts is in omega (arith, h, within)

before-more : (n : ℕ) (t : Token) (outcome : Result (List Token) LexFault) → AtMost n outcome → AtMost (suc n) (before t outcome)
before-more n t (Ok us) few ts is =
    let same : t ∷ us ≡ ts = cc in
    let h : length us ≤ n = few us (λ i. Ok us) in
    omega (arith, h, ap length same)
before-more n t (Err e) few ts is = absurd cc

-- what stands behind the first byte, which begins this
abbrev behind : List ℕ → ℕ → Item → Result (List Token) LexFault
behind bs at (item.Gap n) = read bs (at + 1) false (n - 1)
behind bs at (item.Piece kind n) = before (token_at kind at (at + n)) (read bs (at + 1) (is_digits kind) (n - 1))
behind bs at item.OpenString = Err (fault.OpenString at)
behind bs at item.BadByte = Err (fault.BadByte at)

few-behind : (bs : List ℕ) (at : ℕ) (i : Item) → ((at left : ℕ) (digits : Bool) → AtMost (length bs + 1) (read bs at digits left)) → AtMost (suc (length bs + 1)) (behind bs at i)
few-behind bs at (item.Gap n) few = more (read bs (at + 1) false (n - 1)) (omega arith) (few (at + 1) (n - 1) false)
few-behind bs at (item.Piece kind n) few =
    before-more (length bs + 1) (token_at kind at (at + n)) (read bs (at + 1) (is_digits kind) (n - 1)) (few (at + 1) (n - 1) (is_digits kind))
few-behind bs at item.OpenString few = fault-none (suc (length bs + 1)) (fault.OpenString at)
few-behind bs at item.BadByte few = fault-none (suc (length bs + 1)) (fault.BadByte at)

few : (text : List ℕ) (at left : ℕ) (digits : Bool) → AtMost (length text + 1) (read text at digits left)
few [] at left digits = more (Ok (token_at End at at ∷ [])) (omega arith) (one (token_at End at at))
few (b ∷ bs) at (suc left) digits = more (read bs (at + 1) digits left) (omega arith) (few bs (at + 1) left digits)
few (b ∷ bs) at zero digits = more (read (b ∷ bs) at digits zero) (omega arith) (few-behind bs at (item_of digits (b ∷ bs)) (few bs))

pub few-tokens : (text : List ℕ) (ts : List Token) → reading text ≡ Ok ts → length ts ≤ length text + 1
few-tokens text = few text 0 0 false
