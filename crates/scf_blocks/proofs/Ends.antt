-- What ends the open block.
use Rattle.std.proofs.Common.{◌≡◌, List, [], ◌∷◌, append-nil}
use Rattle.low_forms.specs.declared.code.Reg.{Reg}
use Rattle.low_forms.specs.declared.code.BlockNo.{BlockNo}
use Rattle.low_forms.specs.declared.code.Term.{Term}
use Rattle.scf_blocks.specs.declared.body.Body.{Body}
use Rattle.ir_forms.specs.declared.types.Ty.TheVariants.{Index}
use Rattle.scf_blocks.specs.Code.{ends_by, instr_then, add, br}
use Rattle.scf_blocks.specs.Bodies.{behind, ended, written, made, next_reg}

pub ended_law : (w : Body) (t : Term) → ended t w ≡ behind w w.scope (ends_by t []) [] []
ended_law w t = simp append-nil

pub repeated_law : (w : Body) (head : BlockNo) (variable step : Reg) (vs : List Reg) →
    ended (br head (next_reg w ∷ vs)) (written (add (next_reg w) variable step) (made Index w))
    ≡ behind w w.scope (instr_then (add (next_reg w) variable step) (ends_by (br head (next_reg w ∷ vs)) [])) (Index ∷ []) []
repeated_law w head variable step vs = simp append-nil
