use Rattle.std.proofs.Common.{◌≡◌, ◌-◌, ◌*◌, ◌%◌, ◌^◌, true, arith, subst, ◌∙◌}
use Rattle.std.specs.Prelude.{IsTrue, not}
use Rattle.std.proofs.lemmas.Bool.{eq-eqb, false≢true}
use Rattle.std.proofs.lemmas.Nat.{one_shl}
use Rattle.int_ops.proofs.Readings.{bounds}
use Rattle.int_ops.proofs.Results.{divisible}
use Rattle.int_ops.proofs.fixed.Int.can_divide.Goals as goal
use Rattle.int_ops.proofs.fixed.Int.can_divide.Goals.{then-a, else-a}

pub returns-after-a-clause-fits : goal.returns-after-a-clause-fits
returns-after-a-clause-fits g c = λ yes. divisible g.row.W c.args.a c.args.b c.requires.width c.requires.left c.requires.right
    (λ e. let size = bounds g.row.W c.requires.width in
    let bit : (1 * 2 ^ (g.row.W - 1)) % 2 ^ 64 ≡ 2 ^ (g.row.W - 1) = one_shl (g.row.W - 1) 64 (omega arith) in
    elim c.if-a.branch [
      | then-a w ↦ let both : c.if-a.result ≡ true = w.result-is ∙ eq-eqb c.args.b w.mask.result (omega arith) in false≢true (subst (λ r. IsTrue (not r)) both yes)
      | else-a w ↦ absurd (omega arith)
    ])
    (omega arith)
