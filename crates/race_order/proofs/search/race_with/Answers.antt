use Rattle.std.proofs.Common.{◌≡◌, ◌≤◌, ℕ, List, Bool, true, ◌∙◌, ap, sym, subst, Some}
use Rattle.std.specs.Bool.{OnTrue}
use Rattle.race_order.specs.Clocks.{count}
use Rattle.race_order.specs.Marks.{mark_of}
use Rattle.race_order.specs.Sights.{number_in}
use Rattle.race_order.specs.Touch.{touch_of, touch_in, alike}
use Rattle.race_order.proofs.Marked.{clear_none}
use Rattle.race_order.proofs.search.race_with.Goals as goal

pub returns-then-is_clear : goal.returns-then-is_clear
returns-then-is_clear c =
    clear_none c.args.trace.now.entries c.args.place c.args.tasks.now c.args.nodes.now c.args.marks.now c.get-clock.result c.entry-later.result.now (touch_of c.in-Some.touch) c.requires.within c.entry-later.ensures
    (sym (ap touch_in c.in-Some.is) ∙ c.in_ok-touched.ensures) (c.get-clock.ensures ∙ ap (number_in c.args.tasks.now.clocks) (c.deref.ensures.value ∙ c.in_ok-key-in-Some.ensures)) c.requires.holds c.requires.marked
    (subst (λ b. OnTrue b ((t : List ℕ × Bool) → alike (Some t) (touch_of c.in-Some.touch) ≡ true → (k : ℕ) → count c.args.nodes.now c.args.tasks.now.depth (mark_of c.args.marks.now t) k ≤ count c.args.nodes.now c.args.tasks.now.depth c.get-clock.result k)) c.if-is_clear.true c.is_clear.ensures)
