-- Lists that are gone over side by side end with the shortest.
use Rattle.std.proofs.Common.{◌≡◌, ◌≤◌, ℕ, List, [], ◌∷◌, ◌++◌, length, drop, refl, ap, ◌∙◌, sym, append-nil}
use Rattle.std.proofs.lemmas.List.{drop_all}
use Rattle.ir_forms.specs.declared.ops.ValueNo.{ValueNo}
use Rattle.ir_forms.specs.declared.types.Dim.{Dim}
use Rattle.ir_forms.specs.declared.types.MemTy.{MemTy}
use Rattle.made_ops.specs.declared.insertion.Insertion.{Insertion}
use Rattle.check_insert.specs.declared.parts.Range.{Range}
use Rattle.check_insert.specs.Shape.{check_indexes, ranges}

no_indexes : (text : List ℕ) (m : MemTy) (b : ValueNo) (k : ℕ) (dims : List Dim) (i : Insertion) → check_indexes text m b k dims [] i ≡ i
no_indexes text m b k [] i = refl
no_indexes text m b k (d ∷ dims) i = refl

pub indexes_over : (text : List ℕ) (m : MemTy) (b : ValueNo) (j k : ℕ) (dims : List Dim) (vs : List ValueNo) (i whole : Insertion) → length vs ≤ k
    → check_indexes text m b j dims (drop k vs) i ≡ whole → i ≡ whole
indexes_over text m b j k dims vs i whole over so_far =
    sym (no_indexes text m b j dims i) ∙ ap (λ (rest : List ValueNo). check_indexes text m b j dims rest i) (sym (drop_all k vs over)) ∙ so_far

no_uppers : (ls ss : List ValueNo) → ranges ls [] ss ≡ []
no_uppers [] ss = refl
no_uppers (l ∷ ls) ss = refl

no_steps : (ls us : List ValueNo) → ranges ls us [] ≡ []
no_steps [] us = refl
no_steps (l ∷ ls) [] = refl
no_steps (l ∷ ls) (u ∷ us) = refl

ended : (list whole rest : List Range) → rest ≡ [] → list ++ rest ≡ whole → list ≡ whole
ended list whole rest none so_far = sym (append-nil list) ∙ ap (λ (x : List Range). list ++ x) (sym none) ∙ so_far

pub uppers_over : (ls us ss : List ValueNo) (k : ℕ) (list whole : List Range) → length us ≤ k
    → list ++ ranges (drop k ls) (drop k us) (drop k ss) ≡ whole → list ≡ whole
uppers_over ls us ss k list whole over so_far =
    ended list whole _ (ap (λ (rest : List ValueNo). ranges (drop k ls) rest (drop k ss)) (drop_all k us over) ∙ no_uppers (drop k ls) (drop k ss)) so_far

pub steps_over : (ls us ss : List ValueNo) (k : ℕ) (list whole : List Range) → length ss ≤ k
    → list ++ ranges (drop k ls) (drop k us) (drop k ss) ≡ whole → list ≡ whole
steps_over ls us ss k list whole over so_far =
    ended list whole _ (ap (λ (rest : List ValueNo). ranges (drop k ls) (drop k us) rest) (drop_all k ss over) ∙ no_steps (drop k ls) (drop k us)) so_far
