use Rattle.std.proofs.Common.{◌≡◌, ◌<◌, ◌^◌, ◌==◌, ℕ, List, cond, true, false}
use Rattle.ir_forms.specs.Names.{same_path}
use Rattle.race_order.specs.Clocks.{count, IsTree, Grows}
use Rattle.race_order.specs.Marks.{IsMarked}
use Rattle.race_order.specs.Sights.{number_in}
use Rattle.race_order.specs.Touch.{touch_of}
use Rattle.race_order.proofs.Marked.{on_ok3, marked_heavy, marked_light}
use Rattle.race_order.proofs.marks.mark.Goals as goal

pub mark_in-requires-clause-trees : goal.mark_in-requires-clause-trees
mark_in-requires-clause-trees c = λ other. c.requires.trees (other, true)

pub mark_in-requires-else-heavy-clause-trees : goal.mark_in-requires-else-heavy-clause-trees
mark_in-requires-else-heavy-clause-trees c = λ other. c.requires.trees (other, false)

pub returns-then-heavy : goal.returns-then-heavy
returns-then-heavy c = on_ok3 c.mark_in.result
    (Grows c.args.nodes.now.items c.mark_in.new.nodes.items)
    ((other : List ℕ) → IsTree c.mark_in.new.nodes.items c.args.depth (number_in c.mark_in.new.table other))
    ((other : List ℕ) (k : ℕ) → k < 2 ^ c.args.depth → count c.mark_in.new.nodes.items c.args.depth (number_in c.mark_in.new.table other) k ≡ cond (same_path c.args.touch.key.items other) (cond (c.args.number == k) c.args.rank (count c.args.nodes.now.items c.args.depth (number_in c.args.marks.now.heavy other) k)) (count c.args.nodes.now.items c.args.depth (number_in c.args.marks.now.heavy other) k))
    (IsMarked c.args.number c.args.rank c.args.depth c.args.nodes.now.items c.mark_in.new.nodes.items (touch_of c.args.touch) c.args.marks.now (record { light = c.args.marks.now.light; heavy = c.mark_in.new.table }))
    (λ g t v. marked_heavy c.args.number c.args.rank c.args.depth c.args.nodes.now.items c.mark_in.new.nodes.items c.args.touch.key.items c.args.touch.heavy c.args.marks.now c.mark_in.new.table c.if-heavy.true c.requires.trees g t v)
    c.mark_in.ensures.grows c.mark_in.ensures.trees c.mark_in.ensures.value

pub returns-else-heavy : goal.returns-else-heavy
returns-else-heavy c = on_ok3 c.mark_in-else-heavy.result
    (Grows c.args.nodes.now.items c.mark_in-else-heavy.new.nodes.items)
    ((other : List ℕ) → IsTree c.mark_in-else-heavy.new.nodes.items c.args.depth (number_in c.mark_in-else-heavy.new.table other))
    ((other : List ℕ) (k : ℕ) → k < 2 ^ c.args.depth → count c.mark_in-else-heavy.new.nodes.items c.args.depth (number_in c.mark_in-else-heavy.new.table other) k ≡ cond (same_path c.args.touch.key.items other) (cond (c.args.number == k) c.args.rank (count c.args.nodes.now.items c.args.depth (number_in c.args.marks.now.light other) k)) (count c.args.nodes.now.items c.args.depth (number_in c.args.marks.now.light other) k))
    (IsMarked c.args.number c.args.rank c.args.depth c.args.nodes.now.items c.mark_in-else-heavy.new.nodes.items (touch_of c.args.touch) c.args.marks.now (record { light = c.mark_in-else-heavy.new.table; heavy = c.args.marks.now.heavy }))
    (λ g t v. marked_light c.args.number c.args.rank c.args.depth c.args.nodes.now.items c.mark_in-else-heavy.new.nodes.items c.args.touch.key.items c.args.touch.heavy c.args.marks.now c.mark_in-else-heavy.new.table c.if-heavy.false c.requires.trees g t v)
    c.mark_in-else-heavy.ensures.grows c.mark_in-else-heavy.ensures.trees c.mark_in-else-heavy.ensures.value
