use Rattle.std.proofs.Common.{◌≡◌, ◌<◌, ◌+◌, ◌^◌, length, sym, ap, ◌∙◌, subst, arith}
use Rattle.step_core.specs.State.{cells_used}
use Rattle.step_core.proofs.CellLemmas.{cells_push}
use Rattle.step_core.proofs.cells.Cells.push.Goals as goal

pub invariant_of-self : goal.invariant_of-self
invariant_of-self c =
    let few : cells_used c.self.inside.buffers.items + length c.args.cells < 2 ^ 32 = subst (λ k. cells_used k.buffers + length c.args.cells < 2 ^ 32) (sym c.self.view_is) c.requires.few in
    let pushed : cells_used c.push_reserved.new.self.items ≡ cells_used c.self.inside.buffers.items + length c.args.cells = ap cells_used c.push_reserved.ensures.items ∙ cells_push c.self.inside.buffers.items c.args.cells in
    let len : c.len.result ≡ length c.args.cells = c.len.ensures in
    let used : c.self.inside.used ≡ cells_used c.self.inside.buffers.items = c.self.invariant.0 in
    (omega (arith, pushed, len, used), omega (arith, few, len, used))
