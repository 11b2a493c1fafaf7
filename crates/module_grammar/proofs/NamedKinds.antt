-- The kind that a text names is found by its name.
use Rattle.std.proofs.Common.{◌≡◌, Bool, true, false, cond, ◌&&◌, List, [], ◌∷◌, ℕ, zero, suc, nat_lt, Option, Some, None, IsUtf8, IsAscii, arith, codes, refl, sym, ap, ◌∙◌, subst, bytes_eq}
use Rattle.std.proofs.lemmas.Bool.Decides.{nat_tests}
use Rattle.std.proofs.lemmas.Slice.Eq.{bytes_eq-Decides}
use Rattle.std.proofs.lemmas.Str.{IsUtf8-from_ascii}
use Rattle.op_table.specs.declared.kind.OpKind.{OpKind}
use Rattle.op_table.specs.declared.kind.OpKind.TheVariants as op
use Rattle.op_table.specs.declared.rows.Level.{Level}
use Rattle.op_table.specs.declared.rows.Level.TheVariants.{Source, Checked, Split, Low}
use Rattle.op_table.specs.Rows.{name_of, all_kinds, body_kinds, found, found_among, kept, stands_in_body}
use Rattle.op_table.specs.Laws.{FindsInBodies}
use Rattle.module_grammar.specs.Tokens.{is_name_of, kind_among}
use Rattle.module_grammar.specs.Rules.{kinds_at}
use Rattle.module_grammar.proofs.Runs.{by_test}
use Rattle.module_grammar.proofs.Ends.{and-left, and-right}

eq-sym : (a b : List ℕ) → bytes_eq a b ≡ bytes_eq b a
eq-sym a b =
    by_test (bytes_eq a b)
    (λ y. y ∙ sym (subst (λ (x : List ℕ). bytes_eq b x ≡ true) (sym ((bytes_eq-Decides a b).0 y)) (same b)))
    (λ n. by_test (bytes_eq b a)
    (λ y. subst (λ (x : List ℕ). bytes_eq a x ≡ true) (sym ((bytes_eq-Decides b a).0 y)) (same a) ∙ sym y)
    (λ m. n ∙ sym m))
  where
    same : (x : List ℕ) → bytes_eq x x ≡ true
    same x = (bytes_eq-Decides x x).1 refl

-- but for the short names of calls and returns, a text names the kind whose name it is
long-name : (k : OpKind) (text : List ℕ) → bytes_eq text (codes "call") ≡ false → bytes_eq text (codes "return") ≡ false
    → is_name_of k text ≡ bytes_eq (name_of k) text
long-name op.FuncCall text c r = rw c (eq-sym text (codes "func.call"))
long-name op.FuncReturn text c r = rw r (eq-sym text (codes "func.return"))
long-name k text c r = eq-sym text (name_of k)

among-found : (ks : List OpKind) (text : List ℕ) → bytes_eq text (codes "call") ≡ false → bytes_eq text (codes "return") ≡ false
    → kind_among ks text ≡ found_among ks text
among-found [] text c r = refl
among-found (k ∷ ks) text c r =
    rw (long-name k text c r) (ap (λ (o : Option OpKind). cond (bytes_eq (name_of k) text) (Some k) o) (among-found ks text c r))

pub named_call : (text : List ℕ) → bytes_eq text (codes "call") ≡ true → kind_among all_kinds text ≡ Some op.FuncCall
named_call text y = subst (λ (x : List ℕ). kind_among all_kinds x ≡ Some op.FuncCall) (sym ((bytes_eq-Decides text (codes "call")).0 y)) refl

pub named_return : (text : List ℕ) → bytes_eq text (codes "return") ≡ true → kind_among all_kinds text ≡ Some op.FuncReturn
named_return text y = subst (λ (x : List ℕ). kind_among all_kinds x ≡ Some op.FuncReturn) (sym ((bytes_eq-Decides text (codes "return")).0 y)) refl

pub named_found : (text : List ℕ) → bytes_eq text (codes "call") ≡ false → bytes_eq text (codes "return") ≡ false
    → kind_among all_kinds text ≡ found text
unfolding found
named_found text c r = among-found all_kinds text c r

-- names are UTF-8, so other bytes name no kind
abbrev all_ascii : List ℕ → Bool
all_ascii [] = true
all_ascii (b ∷ bs) = nat_lt b 128 && all_ascii bs

each-ascii : (bs : List ℕ) → all_ascii bs ≡ true → IsAscii bs
each-ascii [] are i = omega arith
each-ascii (b ∷ bs) are zero = let first = and-left (nat_lt b 128) (all_ascii bs) are in grind (arith, nat_tests, first)
each-ascii (b ∷ bs) are (suc i) = each-ascii bs (and-right (nat_lt b 128) (all_ascii bs) are) i

ascii-name : (k : OpKind) → all_ascii (name_of k) ≡ true
ascii-name op.AioCall = refl
ascii-name k = refl

name-utf8 : (k : OpKind) → IsUtf8 (name_of k)
name-utf8 k = IsUtf8-from_ascii (name_of k) (each-ascii (name_of k) (ascii-name k))

none-among : (ks : List OpKind) (text : List ℕ) → bytes_eq text (codes "call") ≡ false → bytes_eq text (codes "return") ≡ false → (IsUtf8 text → ⊥)
    → kind_among ks text ≡ None
none-among [] text c r bad = refl
none-among (k ∷ ks) text c r bad =
    by_test (is_name_of k text)
    (λ y. absurd (bad (subst IsUtf8 ((bytes_eq-Decides (name_of k) text).0 (sym (long-name k text c r) ∙ y)) (name-utf8 k))))
    (λ n. rw n (none-among ks text c r bad))

pub named_none : (text : List ℕ) → bytes_eq text (codes "call") ≡ false → bytes_eq text (codes "return") ≡ false → (IsUtf8 text → ⊥)
    → kind_among all_kinds text ≡ None
named_none text c r bad = none-among all_kinds text c r bad

-- ---- the kinds of a level

kinds-are : (l : Level) → kinds_at l ≡ body_kinds l
kinds-are Source = refl
kinds-are Checked = refl
kinds-are Split = refl
kinds-are Low = refl

call-kept : (l : Level) → kind_among (kinds_at l) (codes "call") ≡ kept (λ k. stands_in_body k l) (kind_among all_kinds (codes "call"))
call-kept Source = refl
call-kept Checked = refl
call-kept Split = refl
call-kept Low = refl

return-kept : (l : Level) → kind_among (kinds_at l) (codes "return") ≡ kept (λ k. stands_in_body k l) (kind_among all_kinds (codes "return"))
return-kept Source = refl
return-kept Checked = refl
return-kept Split = refl
return-kept Low = refl

-- the kind of a level that a text names is the kind that it names, where that stands there
pub kept_at : FindsInBodies → (l : Level) (text : List ℕ) → kind_among (kinds_at l) text ≡ kept (λ k. stands_in_body k l) (kind_among all_kinds text)
unfolding found
kept_at finds l text =
    by_test (bytes_eq text (codes "call"))
    (λ y. subst (λ (x : List ℕ). kind_among (kinds_at l) x ≡ kept (λ k. stands_in_body k l) (kind_among all_kinds x)) (sym ((bytes_eq-Decides text (codes "call")).0 y)) (call-kept l))
    (λ c. by_test (bytes_eq text (codes "return"))
    (λ y. subst (λ (x : List ℕ). kind_among (kinds_at l) x ≡ kept (λ k. stands_in_body k l) (kind_among all_kinds x)) (sym ((bytes_eq-Decides text (codes "return")).0 y)) (return-kept l))
    (λ r. among-found (kinds_at l) text c r ∙ (ap (λ (ks : List OpKind). found_among ks text) (kinds-are l) ∙ (finds l text ∙ ap (kept (λ k. stands_in_body k l)) (sym (among-found all_kinds text c r))))))
