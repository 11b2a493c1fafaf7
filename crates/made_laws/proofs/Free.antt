-- The name of a made function is that of no function, and two have two names.
use Rattle.std.proofs.Common.{◌≡◌, ◌⊎◌, inl, inr, ◌<◌, ◌≤◌, ℕ, zero, suc, ◌+◌, ◌/◌, ◌%◌, ◌==◌, ◌&&◌, if◌then◌else◌, cond, not, Bool, true, false, List, [], ◌∷◌, ◌++◌, length, Option, Some, None, refl, sym, ap, ◌∙◌, arith, codes, decimal, append_assoc, length-append}
use Rattle.std.specs.Fmt.{digits, digits_onto, digit_glyph}
use Rattle.std.specs.Option.{option_map, is_some}
use Rattle.std.specs.Str.{bytes_eq}
use Rattle.std.proofs.lemmas.Slice.Eq.{bytes_eq-Decides}
use Rattle.std.proofs.lemmas.Fmt.{decimal_injective}
use Rattle.std.proofs.lemmas.Bool.Decides.{eqb_tells}
use Rattle.ir_forms.specs.declared.ops.Func.{Func}
use Rattle.ir_verify.specs.Names.{first_named}
use Rattle.made_funcs.specs.Names.{is_taken, free_name, made_name}
use Rattle.made_laws.specs.Laws.{MadeNamesFree, MadeNamesDiffer}

and_left : (a b : Bool) → (a && b) ≡ true → a ≡ true
and_left true b is = refl
and_left false b is = cc

and_right : (a b : Bool) → (a && b) ≡ true → b ≡ true
and_right true b is = is
and_right false b is = cc

and_both : (a b : Bool) → a ≡ true → b ≡ true → (a && b) ≡ true
and_both true b is both = both
and_both false b is both = cc

-- ---- which names are taken

-- one of the names is this one
abbrev Among : List (List ℕ) → List ℕ → Type 0
Among [] name = ⊥
Among (x ∷ xs) name = (x ≡ name) ⊎ Among xs name

abbrev names_of : List Func → List (List ℕ)
names_of [] = []
names_of (f ∷ funcs) = f.name ∷ names_of funcs

taken_by : (b : Bool) (o : Option ℕ) → is_some (cond b (Some 0) (option_map suc o)) ≡ true → (b ≡ true) ⊎ (is_some o ≡ true)
taken_by true o is = inl refl
taken_by false None is = cc
taken_by false (Some k) is = inr refl

among_taken : (funcs : List Func) (name : List ℕ) → is_taken funcs name ≡ true → Among (names_of funcs) name
among_taken [] name is = cc
among_taken (f ∷ funcs) name is = elim (taken_by (bytes_eq f.name name) (first_named funcs name) is) [
  | inl same ↦ inl ((bytes_eq-Decides f.name name).0 same)
  | inr more ↦ inr (among_taken funcs name more)
]

names_length : (funcs : List Func) → length (names_of funcs) ≡ length funcs
names_length [] = refl
names_length (f ∷ funcs) = ap suc (names_length funcs)

-- ---- longer and longer names

abbrev mark : List ℕ
mark = codes "_"

abbrev marked : ℕ → List ℕ → List ℕ
marked zero name = name
marked (suc n) name = marked n (name ++ mark)

longer : (n : ℕ) (name : List ℕ) → length (marked n name) ≡ length name + n
longer zero name = (let e : length name ≡ length name + 0 = omega arith in e)
longer (suc n) name =
    let h : length (marked n (name ++ mark)) ≡ length (name ++ mark) + n = longer n (name ++ mark) in
    let l : length (name ++ mark) ≡ length name + 1 = length-append name mark in
    omega (arith, h, l)

-- without one that is among them
abbrev Without : List (List ℕ) → List (List ℕ) → List ℕ → Type 0
Without xs ys name = (length xs ≡ suc (length ys)) × ((other : List ℕ) → (other ≡ name → ⊥) → Among xs other → Among ys other)

removed : (xs : List (List ℕ)) (name : List ℕ) → Among xs name → (ys : List (List ℕ)) × Without xs ys name
removed [] name is = absurd is
removed (x ∷ xs) name (inl same) = (xs, (refl, λ other differs is. skip other differs is))
  where
    skip : (other : List ℕ) → (other ≡ name → ⊥) → Among (x ∷ xs) other → Among xs other
    skip other differs (inl here) = absurd (differs (sym here ∙ same))
    skip other differs (inr more) = more
removed (x ∷ xs) name (inr more) =
    let r = removed xs name more in
    (x ∷ r.0, (ap suc r.1.0, λ other differs is. keep r.0 r.1.1 other differs is))
  where
    keep : (ys : List (List ℕ)) → ((other : List ℕ) → (other ≡ name → ⊥) → Among xs other → Among ys other) → (other : List ℕ) → (other ≡ name → ⊥) → Among (x ∷ xs) other → Among (x ∷ ys) other
    keep ys f other differs (inl here) = inl here
    keep ys f other differs (inr m) = inr (f other differs m)

-- of as many names as there are and one more, one is none of these
all_taken : (n : ℕ) (xs : List (List ℕ)) (name : List ℕ) → length xs ≡ n → ((i : ℕ) → i ≤ n → Among xs (marked i name)) → ⊥
all_taken zero [] name len each = each 0 (omega arith)
all_taken zero (x ∷ xs) name len each = absurd (omega (arith, len))
all_taken (suc n) xs name len each =
    let r = removed xs name (each 0 (omega arith)) in
    let l = r.1.0 in
    all_taken n r.0 (name ++ mark) (omega (arith, len, l)) (λ i le. r.1.1 (marked i (name ++ mark)) (differs i) (each (suc i) (omega (arith, le))))
  where
    differs : (i : ℕ) → marked i (name ++ mark) ≡ name → ⊥
    differs i same =
        let h : length (marked i (name ++ mark)) ≡ length (name ++ mark) + i = longer i (name ++ mark) in
        let l : length (name ++ mark) ≡ length name + 1 = length-append name mark in
        let e : length (marked i (name ++ mark)) ≡ length name = ap length same in
        omega (arith, h, l, e)

-- ---- the free name

is_false : (b : Bool) → (b ≡ true → ⊥) → b ≡ false
is_false true never = absurd (never refl)
is_false false never = refl

-- where it is taken, so are all before it
free_taken : (funcs : List Func) (n : ℕ) (name : List ℕ) → is_taken funcs (free_name funcs n name) ≡ true → (i : ℕ) → i ≤ n → is_taken funcs (marked i name) ≡ true
free_taken funcs zero name is zero le = is
free_taken funcs zero name is (suc i) le = absurd (omega (arith, le))
free_taken funcs (suc n) name is i le = by (is_taken funcs name) refl (λ h j less. free_taken funcs n (name ++ mark) h j less) is i le
  where
    by : (b : Bool) → is_taken funcs name ≡ b → (is_taken funcs (free_name funcs n (name ++ mark)) ≡ true → (i : ℕ) → i ≤ n → is_taken funcs (marked i (name ++ mark)) ≡ true) → is_taken funcs (cond b (free_name funcs n (name ++ mark)) name) ≡ true → (i : ℕ) → i ≤ suc n → is_taken funcs (marked i name) ≡ true
    by true same again h zero less = same
    by true same again h (suc j) less = again h j (omega (arith, less))
    by false same again h j less = (let no : is_taken funcs name ≡ true = h in cc)

free_is : (funcs : List Func) (name : List ℕ) → is_taken funcs (free_name funcs (length funcs) name) ≡ false
free_is funcs name = is_false (is_taken funcs (free_name funcs (length funcs) name)) (λ is.
    all_taken (length funcs) (names_of funcs) name (names_length funcs) (λ i le. among_taken funcs (marked i name) (free_taken funcs (length funcs) name is i le)))

-- ---- two made functions

-- a free name is the name with marks behind it
free_marked : (funcs : List Func) (n : ℕ) (name : List ℕ) → (m : ℕ) × (free_name funcs n name ≡ marked m name)
free_marked funcs zero name = (0, refl)
free_marked funcs (suc n) name = by (is_taken funcs name) (free_marked funcs n (name ++ mark))
  where
    by : (b : Bool) → ((m : ℕ) × (free_name funcs n (name ++ mark) ≡ marked m (name ++ mark))) → (m : ℕ) × (cond b (free_name funcs n (name ++ mark)) name ≡ marked m name)
    by true more = (suc more.0, more.1)
    by false more = (0, refl)

-- the bytes before the first mark
abbrev before_mark : List ℕ → List ℕ
before_mark [] = []
before_mark (b ∷ bs) = cond (b == 95) [] (b ∷ before_mark bs)

abbrev has_no_mark : List ℕ → Bool
has_no_mark [] = true
has_no_mark (b ∷ bs) = not (b == 95) && has_no_mark bs

before_one : (bs more : List ℕ) → has_no_mark bs ≡ true → before_mark (bs ++ (mark ++ more)) ≡ bs
before_one [] more none = refl
before_one (b ∷ bs) more none = by (b == 95) (before_one bs more) none
  where
    by : (c : Bool) → (has_no_mark bs ≡ true → before_mark (bs ++ (mark ++ more)) ≡ bs) → (not c && has_no_mark bs) ≡ true → cond c [] (b ∷ before_mark (bs ++ (mark ++ more))) ≡ b ∷ bs
    by true again h = cc
    by false again h = ap (λ (xs : List ℕ). b ∷ xs) (again h)

before_all : (bs : List ℕ) → has_no_mark bs ≡ true → before_mark bs ≡ bs
before_all [] none = refl
before_all (b ∷ bs) none = by (b == 95) (before_all bs) none
  where
    by : (c : Bool) → (has_no_mark bs ≡ true → before_mark bs ≡ bs) → (not c && has_no_mark bs) ≡ true → cond c [] (b ∷ before_mark bs) ≡ b ∷ bs
    by true again h = cc
    by false again h = ap (λ (xs : List ℕ). b ∷ xs) (again h)

behind_marks : (m : ℕ) (bs more : List ℕ) → (rest : List ℕ) × (marked m (bs ++ (mark ++ more)) ≡ bs ++ (mark ++ rest))
behind_marks zero bs more = (more, refl)
behind_marks (suc m) bs more =
    let r = behind_marks m bs (more ++ mark) in
    (r.0, ap (marked m) (append_assoc bs (mark ++ more) mark) ∙ r.1)

before_marked : (m : ℕ) (bs : List ℕ) → has_no_mark bs ≡ true → before_mark (marked m bs) ≡ bs
before_marked zero bs none = before_all bs none
before_marked (suc m) bs none = let r = behind_marks m bs [] in ap before_mark r.1 ∙ before_one bs r.0 none

-- ---- the digits of a number

-- a test that passes below n passes at each number below n
abbrev all_below : (ℕ → Bool) → ℕ → Bool
all_below test zero = true
all_below test (suc n) = test n && all_below test n

passes : (test : ℕ → Bool) (n d : ℕ) → all_below test n ≡ true → d < n → test d ≡ true
passes test zero d all within = absurd (omega (arith, within))
passes test (suc n) d all within = elim (eqb_tells d n) [
  | inl h ↦ ap test h.1 ∙ and_left (test n) (all_below test n) all
  | inr h ↦ (let differs = h.1 in passes test n d (and_right (test n) (all_below test n) all) (omega (arith, within, differs)))
]

digit_unmarked : (n : ℕ) → not (digit_glyph false (n % 10) == 95) ≡ true
digit_unmarked n = passes (λ d. not (digit_glyph false d == 95)) 10 (n % 10) refl (omega arith)

chosen : (test : Bool) (x y : List ℕ) → has_no_mark x ≡ true → has_no_mark y ≡ true → has_no_mark (if test then x else y) ≡ true
chosen true x y p q = p
chosen false x y p q = q

more_digits : (k n : ℕ) (bs : List ℕ) → has_no_mark bs ≡ true → has_no_mark (digits_onto k 10 false n bs) ≡ true
more_digits zero n bs are = are
more_digits (suc k) n bs are =
    let more : has_no_mark (digit_glyph false (n % 10) ∷ bs) ≡ true = and_both (not (digit_glyph false (n % 10) == 95)) (has_no_mark bs) (digit_unmarked n) are in
    chosen (n / 10 == 0) _ _ more (more_digits k (n / 10) (digit_glyph false (n % 10) ∷ bs) more)

decimal_unmarked : (n : ℕ) → has_no_mark (decimal n) ≡ true
unfolding digits
decimal_unmarked n =
    let one : has_no_mark (digit_glyph false (n % 10) ∷ []) ≡ true = and_both (not (digit_glyph false (n % 10) == 95)) true (digit_unmarked n) refl in
    chosen (n / 10 == 0) _ _ one (more_digits 63 (n / 10) (digit_glyph false (n % 10) ∷ []) one)

-- ---- the laws

none_is : (o : Option ℕ) → is_some o ≡ false → o ≡ None
none_is None is = refl
none_is (Some k) is = cc

pub made_names_free : MadeNamesFree
made_names_free funcs prefix k = none_is (first_named funcs (made_name funcs prefix k)) (free_is funcs (prefix ++ decimal k))

-- marks stand behind all of a name
marks_behind : (m : ℕ) (xs ys : List ℕ) → marked m (xs ++ ys) ≡ xs ++ marked m ys
marks_behind zero xs ys = refl
marks_behind (suc m) xs ys = ap (marked m) (append_assoc xs ys mark) ∙ marks_behind m xs (ys ++ mark)

same_behind : (xs ys zs : List ℕ) → xs ++ ys ≡ xs ++ zs → ys ≡ zs
same_behind [] ys zs same = same
same_behind (x ∷ xs) ys zs same = same_behind xs ys zs cc

pub made_names_differ : MadeNamesDiffer
made_names_differ funcs prefix j k few fewer same =
    let r = free_marked funcs (length funcs) (prefix ++ decimal j) in
    let q = free_marked funcs (length funcs) (prefix ++ decimal k) in
    let both : prefix ++ marked r.0 (decimal j) ≡ prefix ++ marked q.0 (decimal k) = sym (r.1 ∙ marks_behind r.0 prefix (decimal j)) ∙ same ∙ (q.1 ∙ marks_behind q.0 prefix (decimal k)) in
    decimal_injective j k few fewer
    (sym (before_marked r.0 (decimal j) (decimal_unmarked j)) ∙ ap before_mark (same_behind prefix (marked r.0 (decimal j)) (marked q.0 (decimal k)) both) ∙ before_marked q.0 (decimal k) (decimal_unmarked k))
