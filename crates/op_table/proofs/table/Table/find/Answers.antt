use Rattle.std.proofs.Common.{◌+◌, ◌-◌, ◌/◌, sym, ◌∙◌, ap, arith}
use Rattle.op_table.specs.Rows.{name_of}
use Rattle.op_table.specs.declared.kind.OpKind.TheVariants.{AioCall}
use Rattle.op_table.proofs.Search.{compared, halved_at_start, halved_above, halved_below, found_here, found_nowhere}
use Rattle.op_table.proofs.table.Table.find.Goals as goal

pub loop-low-init : goal.loop-low-init
loop-low-init g c = let p = c.args.self.now in halved_at_start name_of AioCall p.kinds.now c.args.name.now g.row.N p.full

pub bounds-self-middle : goal.bounds-self-middle
bounds-self-middle g c = let p = c.args.self.now in omega (arith, p.full, c.loop-low.invariant.in_range)

pub loop-low-preserved-in-Less : goal.loop-low-preserved-in-Less
loop-low-preserved-in-Less g c = let p = c.args.self.now in
    halved_above name_of AioCall p.kinds.now p.ascending c.args.name.now c.loop-low.low c.loop-low.high (c.loop-low.low + (c.loop-low.high - c.loop-low.low) / 2) c.loop-low.invariant (omega arith) (sym (ap (λ r. compared r.name c.args.name.now) c.row.ensures) ∙ sym c.cmp.ensures ∙ c.in-Less.is)

pub loop-low-preserved : goal.loop-low-preserved
loop-low-preserved g c = let p = c.args.self.now in
    halved_below name_of AioCall p.kinds.now p.ascending c.args.name.now c.loop-low.low c.loop-low.high (c.loop-low.low + (c.loop-low.high - c.loop-low.low) / 2) c.loop-low.invariant (omega arith) (sym (ap (λ r. compared r.name c.args.name.now) c.row.ensures) ∙ sym c.cmp.ensures ∙ c.in-Greater.is)

pub returns-in-Equal : goal.returns-in-Equal
returns-in-Equal g c = let p = c.args.self.now in
    sym (found_here name_of AioCall p.kinds.now p.ascending c.args.name.now c.loop-low.low c.loop-low.high (c.loop-low.low + (c.loop-low.high - c.loop-low.low) / 2) c.loop-low.invariant (omega arith) (sym (ap (λ r. compared r.name c.args.name.now) c.row.ensures) ∙ sym c.cmp.ensures ∙ c.in-Equal.is))

pub returns : goal.returns
returns g c = let p = c.args.self.now in
    sym (found_nowhere name_of AioCall p.kinds.now c.args.name.now c.loop-low.low c.loop-low.high c.loop-low.invariant (omega arith))
