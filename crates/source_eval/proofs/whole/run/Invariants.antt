use Rattle.std.proofs.Common.{List, None}
use Rattle.ir_forms.specs.declared.args.ArgValue.{ArgValue}
use Rattle.std.specs.Prelude.{ℕ}
use Rattle.source_meaning.specs.Sequential.{start}
use Rattle.source_eval.specs.Following.{IsEntry, IsLike, HasCome}
use Rattle.source_eval.proofs.whole.run.Given as goal

abbrev pub invariant-loop-turn : goal.invariant-loop-turn
invariant-loop-turn l = (k : ℕ) (args : List ArgValue) → IsEntry l.facts k l.entry → IsLike l.fn.sequence (start l.facts k args) → HasCome l.facts k l.fuel args None l.begun l.sequence
