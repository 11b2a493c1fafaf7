-- The kind that a text names is one.
use Rattle.std.proofs.Common.{◌≡◌, true, false, List, ℕ, Some, None, IsUtf8, codes, refl, sym, ◌∙◌, subst, bytes_eq}
use Rattle.std.proofs.lemmas.Slice.Eq.{bytes_eq-Decides}
use Rattle.op_table.specs.declared.kind.OpKind.{OpKind}
use Rattle.op_table.specs.declared.kind.OpKind.TheVariants as op
use Rattle.op_table.specs.Rows.{name_of, all_kinds, found}
use Rattle.op_table.specs.Laws.{HasDistinctNames}
use Rattle.module_grammar.specs.Tokens.{is_name_of, kind_among}
use Rattle.module_grammar.proofs.Runs.{by_test}
use Rattle.module_grammar.proofs.NamedKinds as named

pub named_call : (text : List ℕ) → bytes_eq text (codes "call") ≡ true → kind_among all_kinds text ≡ Some op.FuncCall
named_call text y = named.named_call text y

pub named_return : (text : List ℕ) → bytes_eq text (codes "return") ≡ true → kind_among all_kinds text ≡ Some op.FuncReturn
named_return text y = named.named_return text y

pub named_found : (text : List ℕ) → bytes_eq text (codes "call") ≡ false → bytes_eq text (codes "return") ≡ false
    → kind_among all_kinds text ≡ found text
named_found text c r = named.named_found text c r

pub named_none : (text : List ℕ) → bytes_eq text (codes "call") ≡ false → bytes_eq text (codes "return") ≡ false → (IsUtf8 text → ⊥)
    → kind_among all_kinds text ≡ None
named_none text c r bad = named.named_none text c r bad

-- ---- one kind a name

same : (x : List ℕ) → bytes_eq x x ≡ true
same x = (bytes_eq-Decides x x).1 refl

eq-sym : (a b : List ℕ) → bytes_eq a b ≡ bytes_eq b a
eq-sym a b =
    by_test (bytes_eq a b)
    (λ y. y ∙ sym (subst (λ (x : List ℕ). bytes_eq b x ≡ true) (sym ((bytes_eq-Decides a b).0 y)) (same b)))
    (λ n. by_test (bytes_eq b a)
    (λ y. subst (λ (x : List ℕ). bytes_eq a x ≡ true) (sym ((bytes_eq-Decides b a).0 y)) (same a) ∙ sym y)
    (λ m. n ∙ sym m))

long-name : (k : OpKind) (text : List ℕ) → bytes_eq text (codes "call") ≡ false → bytes_eq text (codes "return") ≡ false
    → is_name_of k text ≡ bytes_eq (name_of k) text
long-name op.FuncCall text c r = rw c (eq-sym text (codes "func.call"))
long-name op.FuncReturn text c r = rw r (eq-sym text (codes "func.return"))
long-name k text c r = eq-sym text (name_of k)

call-names : (k : OpKind) → is_name_of k (codes "call") ≡ true → k ≡ op.FuncCall
call-names op.FuncCall e = refl
call-names k e = absurd cc

return-names : (k : OpKind) → is_name_of k (codes "return") ≡ true → k ≡ op.FuncReturn
return-names op.FuncReturn e = refl
return-names k e = absurd cc

-- two kinds that a text names are one
pub names-one : HasDistinctNames → (j k : OpKind) (text : List ℕ) → is_name_of j text ≡ true → is_name_of k text ≡ true → j ≡ k
names-one distinct j k text a b =
    by_test (bytes_eq text (codes "call"))
    (λ y. let is : text ≡ codes "call" = (bytes_eq-Decides text (codes "call")).0 y in
    call-names j (subst (λ (x : List ℕ). is_name_of j x ≡ true) is a) ∙ sym (call-names k (subst (λ (x : List ℕ). is_name_of k x ≡ true) is b)))
    (λ c. by_test (bytes_eq text (codes "return"))
    (λ y. let is : text ≡ codes "return" = (bytes_eq-Decides text (codes "return")).0 y in
    return-names j (subst (λ (x : List ℕ). is_name_of j x ≡ true) is a) ∙ sym (return-names k (subst (λ (x : List ℕ). is_name_of k x ≡ true) is b)))
    (λ r. distinct j k
    ((bytes_eq-Decides (name_of j) text).0 (sym (long-name j text c r) ∙ a) ∙ sym ((bytes_eq-Decides (name_of k) text).0 (sym (long-name k text c r) ∙ b)))))
