-- What decimals say: each is the number that it was written for.
use Rattle.std.proofs.Common.{◌≡◌, ◌<◌, ◌≤◌, ℕ, ◌+◌, ◌-◌, ◌*◌, ◌/◌, ◌%◌, ◌^◌, Bool, true, false, not, eqb, List, [], ◌∷◌, ◌++◌, filter, Some, refl, ap, ◌∙◌, append_assoc, arith, decimal, bytes_eq, lt-ltb}
use Rattle.std.proofs.lemmas.Fmt.{decimal_by_steps, decimal_injective}
use Rattle.std.proofs.lemmas.Bool.Decides.{nat_tests}
use Rattle.std.proofs.lemmas.Slice.Eq.{bytes_eq-Decides}
use Rattle.std.proofs.lemmas.List.Elements.{filter-append}
use Rattle.mlir_lex.specs.declared.kinds.TokenKind.TheVariants as kind
use Rattle.ir_forms.specs.declared.types.Dim.{Dim}
use Rattle.module_grammar.specs.declared.types.DimSoFar.TheVariants as so_far
use Rattle.module_grammar.specs.Tokens.{number_in, number_of, digit_of, is_digit, is_blank, memref_of, grown}

-- ---- numbers

pub number-append : (base : ℕ) (xs : List ℕ) (y n : ℕ) → number_in base (xs ++ y ∷ []) n ≡ number_in base xs n * base + digit_of y
number-append base [] y n = refl
number-append base (x ∷ xs) y n = number-append base xs y (n * base + digit_of x)

digit-is : (d : ℕ) → d < 10 → digit_of (48 + d) ≡ d
digit-is d h = grind (arith, nat_tests)

pub decimal-number : (n : ℕ) → n < 2 ^ 64 → number_in 10 (decimal n) 0 ≡ n
decimal-number = decimal_by_steps (λ n ds. number_in 10 ds 0 ≡ n)
    (λ n low. let e : digit_of (48 + n) ≡ n = digit-is n low in omega arith)
    (λ n ds low is. number-append 10 ds (48 + n % 10) 0 ∙ let e : digit_of (48 + n % 10) ≡ n % 10 = digit-is (n % 10) (omega arith) in omega arith)

pub number-back : (n : ℕ) → n < 2 ^ 64 → number_of (record { kind = kind.Digits; text = decimal n; at = 0; joined = false }) ≡ Some n
unfolding number_of
number-back n h = rw (decimal-number n h) (rw (lt-ltb n 18446744073709551616 h) refl)

-- ---- names

same-text : (xs : List ℕ) → bytes_eq xs xs ≡ true
same-text xs = (bytes_eq-Decides xs xs).1 refl

by_truth : (b : Bool) → (b ≡ true → ⊥) → b ≡ false
by_truth true n = absurd (n refl)
by_truth false n = refl

pub decimal-same : (n : ℕ) → bytes_eq (decimal n) (decimal n) ≡ true
decimal-same n = same-text (decimal n)

pub decimal-other : (m n : ℕ) → m < 2 ^ 64 → n < 2 ^ 64 → (m ≡ n → ⊥) → bytes_eq (decimal m) (decimal n) ≡ false
decimal-other m n h i other = by_truth _ (λ e. other (decimal_injective m n h i ((bytes_eq-Decides (decimal m) (decimal n)).0 e)))

-- ---- dimensions

first-digit : (bs : List ℕ) (dims : List Dim) (d : ℕ) → d < 10 → memref_of ((48 + d) ∷ bs) dims so_far.Nothing ≡ memref_of bs dims (so_far.Size d)
first-digit bs dims d h =
    let a : eqb (48 + d) 63 ≡ false = grind (arith, nat_tests) in
    let b : is_digit (48 + d) ≡ true = grind (arith, nat_tests) in
    let e : 48 + d - 48 ≡ d = omega arith in
    rw (a, b, e) refl

next-digit : (bs : List ℕ) (dims : List Dim) (n d : ℕ) → d < 10 → memref_of ((48 + d) ∷ bs) dims (so_far.Size n) ≡ memref_of bs dims (so_far.Size (grown n d))
next-digit bs dims n d h =
    let b : is_digit (48 + d) ≡ true = grind (arith, nat_tests) in
    let e : 48 + d - 48 ≡ d = omega arith in
    rw (b, e) refl

grown-is : (n : ℕ) → n ≤ 2 ^ 24 → grown (n / 10) (n % 10) ≡ n
grown-is n h = omega arith

pub decimal-dim : (n : ℕ) → n < 2 ^ 64 → n ≤ 2 ^ 24 → (bs : List ℕ) (dims : List Dim)
    → memref_of (decimal n ++ bs) dims so_far.Nothing ≡ memref_of bs dims (so_far.Size n)
decimal-dim = decimal_by_steps
    (λ n ds. n ≤ 2 ^ 24 → (bs : List ℕ) (dims : List Dim) → memref_of (ds ++ bs) dims so_far.Nothing ≡ memref_of bs dims (so_far.Size n))
    (λ n low h bs dims. first-digit bs dims n low)
    (λ n ds low is h bs dims.
    ap (λ (xs : List ℕ). memref_of xs dims so_far.Nothing) (append_assoc ds ((48 + n % 10) ∷ []) bs)
    ∙ is (omega arith) ((48 + n % 10) ∷ bs) dims
    ∙ next-digit bs dims (n / 10) (n % 10) (omega arith)
    ∙ ap (λ (k : ℕ). memref_of bs dims (so_far.Size k)) (grown-is n h))

no-blank : (d : ℕ) → d < 10 → is_blank (48 + d) ≡ false
no-blank d h = grind (arith, nat_tests)

pub decimal-dense : (n : ℕ) → n < 2 ^ 64 → filter (λ b. not (is_blank b)) (decimal n) ≡ decimal n
decimal-dense = decimal_by_steps (λ n ds. filter (λ b. not (is_blank b)) ds ≡ ds)
    (λ n h. rw (no-blank n h) refl)
    (λ n ds low is. filter-append (λ b. not (is_blank b)) ds ((48 + n % 10) ∷ []) ∙ rw (is, no-blank (n % 10) (omega arith)) refl)
