-- One more value of a name.
use Rattle.std.proofs.Common.{◌≡◌, ◌<◌, ℕ, suc, ◌+◌, ◌-◌, List, [], ◌∷◌, ◌++◌, refl, append_assoc, arith}
use Rattle.ir_forms.specs.declared.ops.ValueNo.{ValueNo}
use Rattle.module_grammar.specs.State.{value, number_up, counted_from}

pub counted-one : (vs : List ValueNo) (n e c : ℕ) → c < e
    → vs ++ counted_from n (e - c) ≡ (vs ++ value n ∷ []) ++ counted_from (number_up n 1) (e - (c + 1))
counted-one vs n e c h =
    let s : e - c ≡ suc (e - (c + 1)) = omega arith in
    rw (s, append_assoc) refl
