use Rattle.coro_laws.proofs.Counting.{one_suspend_each as law}
use Rattle.coro_laws.proofs.laws.one_suspend_each.Goals as goal

pub returns : goal.returns
returns c = law
