use Rattle.std.proofs.Common.{◌≡◌, ◌≤◌, ◌+◌, ◌++◌, ◌∷◌, [], replicate, ap, ◌∙◌, arith}
use Rattle.ir_forms.specs.Shapes.{product}
use Rattle.step_core.specs.State.{cells_used}
use Rattle.step_core.proofs.RowLemmas.{given_both}
use Rattle.step_core.proofs.CellRows.{allocate_goes}
use Rattle.step_core.proofs.shared_cells.allocate_buffer.Goals as goal

pub returns-in-Ok-clause-row : goal.returns-in-Ok-clause-row
returns-in-Ok-clause-row c =
    let few : cells_used c.args.cells.now.buffers + product c.args.dims.now ≤ c.args.most = omega (arith, c.if-used-count.false, c.used-used.ensures, c.count_of-count.ensures, c.ranges.most) in
    let count : c.count_of-count.result ≡ product c.args.dims.now = omega (arith, c.if-used-count.false, c.used-used.ensures, c.count_of-count.ensures, c.ranges.most) in
    given_both c.add_buffer.result _ _ _ c.add_buffer.ensures.ok (λ made gives l most can rest w t.
    allocate_goes c.args.dims.now l c.args.instr.now c.args.cells.now.buffers c.add_buffer.new.cells.buffers rest w t c.args.stack.now c.add_buffer.new.stack can (omega (arith, few, most))
    (made ∙ (ap (λ zs. c.args.cells.now.buffers ++ zs ∷ []) c.in-Ok.ensures ∙ ap (λ n. c.args.cells.now.buffers ++ replicate n 0 ∷ []) count)) gives)
