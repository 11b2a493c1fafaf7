use Rattle.std.proofs.Common.{[], sym, subst, ◌∙◌}
use Rattle.async_objects.specs.Sound.{Fits}
use Rattle.step_core.specs.Running.{Running}
use Rattle.step_core.proofs.EnabledLemmas.{step_can}
use Rattle.step_core.proofs.running.Core.enabled.Goals as goal

pub returns : goal.returns
returns c =
    c.can_go.ensures ∙ sym (step_can c.args.self.now.limits c.args.self.now.code c.args.self.now.core c.args.task.0 (subst (λ (n : Running). Fits [] [] n.core.plain.objects n.core.counts) c.self.view_is c.live-live.ensures.sound.0))
