use Rattle.std.proofs.Common.{◌≡◌, ◌++◌, ◌∷◌, [], true, false, refl, sym, ap, ◌∙◌}
use Rattle.async_objects.specs.Counts.{freed}
use Rattle.step_core.specs.Plain.{counting_change}
use Rattle.step_core.proofs.TakeLemmas.{count_not, count_done}
use Rattle.step_core.proofs.running.Core.count.Goals as goal

pub returns-then-not-may_count-clause-step : goal.returns-then-not-may_count-clause-step
returns-then-not-may_count-clause-step c =
    let off : c.may_count.result ≡ false = let h = c.if-not-may_count.true in cc in
    (count_not c.self.inside.code.now c.self.inside.limits c.self.inside.tasks.tasks c.self.inside.objects c.self.inside.cells.buffers c.self.inside.arguments c.self.inside.root_end c.self.inside.steps c.self.inside.gone.items c.args.task.0 c.args.self.now c.self.view_is c.requires.ready c.args.count c.requires.count (sym c.may_count.ensures ∙ off), refl)

pub returns-clause-step : goal.returns-clause-step
returns-clause-step c =
    let on : c.may_count.result ≡ true = let h = c.if-not-may_count.false in cc in
    count_done c.self.inside.code.now c.self.inside.limits c.self.inside.tasks.tasks c.self.inside.objects c.self.inside.cells.buffers c.self.inside.arguments c.self.inside.root_end c.self.inside.steps c.self.inside.gone.items c.args.task.0 c.args.self.now c.self.view_is c.requires.ready
    c.local.new.self.tasks (ap (λ k. k.tasks) c.local.ensures.rest) c.args.count c.requires.count c.in_ok-local.field-0 c.in_ok-local.ensures.step (sym c.may_count.ensures ∙ on)
    c.change_count.new.objects c.change_count.new.gone.items c.change_count.ensures.objects (c.change_count.ensures.gone ∙ ap (λ g. g ++ freed (counting_change c.args.count ∷ []) c.self.inside.objects.counts) c.reserve.ensures.items)
