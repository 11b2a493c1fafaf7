-- One value more is taken.
use Rattle.std.proofs.Common.{◌≡◌, ℕ, ◌+◌, ◌<◌, List, [], ◌∷◌, ◌++◌, drop, length, get_or, sym, ap, ◌∙◌, append_assoc}
use Rattle.std.proofs.lemmas.List.{drop_more}
use Rattle.ir_forms.specs.declared.ops.ValueNo.{ValueNo}
use Rattle.made_ops.specs.declared.insertion.Insertion.{Insertion}
use Rattle.made_ops.specs.Made.{next_value}
use Rattle.loop_blocks.specs.Made.{each_taken}

abbrev begun_with : ValueNo → List ValueNo → Insertion → List ValueNo × Insertion
begun_with w vs i = (w ∷ (each_taken vs i).0, (each_taken vs i).1)

pub each_more : (vs : List ValueNo) (k : ℕ) (d : ValueNo) (before after : List ValueNo) (made next : Insertion) (w : ValueNo) (whole : List ValueNo) (last : Insertion)
    → k < length vs → w ≡ next_value made → next ≡ record made { free = made.free + 1 } → after ≡ before ++ w ∷ []
    → (before ++ (each_taken (drop k vs) made).0 ≡ whole) × ((each_taken (drop k vs) made).1 ≡ last)
    → (after ++ (each_taken (drop (k + 1) vs) next).0 ≡ whole) × ((each_taken (drop (k + 1) vs) next).1 ≡ last)
each_more vs k d before after made next w whole last less is_w is_next is_after invariant = (
  ap (λ (xs : List ValueNo). xs ++ (each_taken (drop (k + 1) vs) next).0) is_after
      ∙ append_assoc before (w ∷ []) (each_taken (drop (k + 1) vs) next).0
      ∙ ap (λ (m : List ValueNo × Insertion). before ++ m.0) (sym step) ∙ invariant.0,
  ap (λ (m : List ValueNo × Insertion). m.1) (sym step) ∙ invariant.1,
)
  where
    step : each_taken (drop k vs) made ≡ begun_with w (drop (k + 1) vs) next
    step =
        ap (λ (xs : List ValueNo). each_taken xs made) (drop_more vs k d less)
        ∙ ap (λ (v : ValueNo). begun_with v (drop (k + 1) vs) (record made { free = made.free + 1 })) (sym is_w)
        ∙ ap (begun_with w (drop (k + 1) vs)) (sym is_next)
