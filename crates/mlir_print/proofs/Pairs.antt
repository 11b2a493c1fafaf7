-- Lists that are printed side by side end with the shortest.
use Rattle.std.proofs.Common.{◌≡◌, ◌≤◌, ℕ, List, [], ◌∷◌, ◌++◌, length, drop, refl, ap, ◌∙◌, sym, append-nil}
use Rattle.std.proofs.lemmas.List.{drop_all}
use Rattle.ir_forms.specs.declared.ops.ValueNo.{ValueNo}
use Rattle.ir_forms.specs.declared.types.Ty.{Ty}
use Rattle.mlir_print.specs.Docs.{Doc, Empty, bytes_of}
use Rattle.mlir_print.specs.Forms.{more_inits, more_value_operands}

no_inits : (ps : List (ValueNo × Ty)) → more_inits ps [] ≡ Empty
no_inits [] = refl
no_inits (p ∷ ps) = refl

no_params : (vs : List ValueNo) (ts : List Ty) → more_value_operands vs [] ts ≡ Empty
no_params [] ts = refl
no_params (v ∷ vs) ts = refl

no_types : (vs : List ValueNo) (ps : List (ValueNo × Ty)) → more_value_operands vs ps [] ≡ Empty
no_types [] ps = refl
no_types (v ∷ vs) [] = refl
no_types (v ∷ vs) (p ∷ ps) = refl

ended : (text whole : List ℕ) (d : Doc) → d ≡ Empty → text ++ bytes_of d ≡ whole → text ≡ whole
ended text whole d none so_far = sym (append-nil text) ∙ ap (λ (x : Doc). text ++ bytes_of x) (sym none) ∙ so_far

pub inits_over : (ps : List (ValueNo × Ty)) (vs : List ValueNo) (i : ℕ) (text whole : List ℕ) → length vs ≤ i
    → text ++ bytes_of (more_inits (drop i ps) (drop i vs)) ≡ whole → text ≡ whole
inits_over ps vs i text whole over so_far =
    ended text whole _ (ap (λ (rest : List ValueNo). more_inits (drop i ps) rest) (drop_all i vs over) ∙ no_inits (drop i ps)) so_far

pub params_over : (vs : List ValueNo) (ps : List (ValueNo × Ty)) (ts : List Ty) (i : ℕ) (text whole : List ℕ) → length ps ≤ i
    → text ++ bytes_of (more_value_operands (drop i vs) (drop i ps) (drop i ts)) ≡ whole → text ≡ whole
params_over vs ps ts i text whole over so_far =
    ended text whole _ (ap (λ (rest : List (ValueNo × Ty)). more_value_operands (drop i vs) rest (drop i ts)) (drop_all i ps over) ∙ no_params (drop i vs) (drop i ts)) so_far

pub types_over : (vs : List ValueNo) (ps : List (ValueNo × Ty)) (ts : List Ty) (i : ℕ) (text whole : List ℕ) → length ts ≤ i
    → text ++ bytes_of (more_value_operands (drop i vs) (drop i ps) (drop i ts)) ≡ whole → text ≡ whole
types_over vs ps ts i text whole over so_far =
    ended text whole _ (ap (λ (rest : List Ty). more_value_operands (drop i vs) (drop i ps) rest) (drop_all i ts over) ∙ no_types (drop i vs) (drop i ps)) so_far
