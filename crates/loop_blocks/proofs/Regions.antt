-- A region that gives a value, from what is made in it.
use Rattle.std.proofs.Common.{◌≡◌, sym, ap, ◌∙◌}
use Rattle.ir_forms.specs.declared.ops.Region.{Region}
use Rattle.ir_forms.specs.declared.ops.ValueNo.{ValueNo}
use Rattle.ir_forms.specs.declared.types.NumTy.{NumTy}
use Rattle.made_ops.specs.declared.insertion.Insertion.{Insertion}
use Rattle.made_ops.specs.Made.{Makes, and_then, closed, inside, yielding, yields}

pub yielded : (t : NumTy) (f : Makes ValueNo) (i inner made last after : Insertion) (answer : ValueNo) (region : Region)
    → inner ≡ inside i → f inner ≡ (answer, made) → last ≡ yields t answer made → closed i last ≡ (region, after) → yielding t f i ≡ (region, after)
yielded t f i inner made last after answer region is_inner is_made is_last is_closed =
    ap (λ (j : Insertion). closed i (and_then f (yields t) j)) (sym is_inner)
    ∙ ap (λ (m : ValueNo × Insertion). closed i (yields t m.0 m.1)) is_made
    ∙ ap (closed i) (sym is_last)
    ∙ is_closed
