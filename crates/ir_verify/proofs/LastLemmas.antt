-- The last operation of a list.
use Rattle.std.proofs.Common.{◌≡◌, ℕ, zero, suc, List, [], ◌∷◌, length, get_or, ap, arith}
use Rattle.ir_forms.specs.declared.ops.Op.{Op}
use Rattle.ir_verify.specs.Breaks.{last_form}
use Rattle.ir_verify.specs.Forms.{form}

pub last_at : (ops : List Op) (n : ℕ) (o : Op) → length ops ≡ suc n → o ≡ get_or ops n o → form o ≡ last_form ops
last_at [] n o is at = absurd (omega arith)
last_at (op ∷ []) zero o is at = ap form at
last_at (op ∷ []) (suc n) o is at = absurd (omega arith)
last_at (op ∷ p ∷ ops) zero o is at = absurd (omega arith)
last_at (op ∷ p ∷ ops) (suc n) o is at = last_at (p ∷ ops) n o (omega arith) at
