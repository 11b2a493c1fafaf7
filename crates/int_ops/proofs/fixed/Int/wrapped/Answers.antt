use Rattle.std.proofs.Common.{◌^◌, ◌%◌, ◌∙◌, ap}
use Rattle.std.specs.Int.{w64, cast_unsigned}
use Rattle.std.proofs.lemmas.Int.{to_z-of_z}
use Rattle.int_ops.proofs.Readings.{bounds, residue-bits}
use Rattle.int_ops.proofs.fixed.Int.wrapped.Goals as goal

pub returns-clause-value : goal.returns-clause-value
returns-clause-value g c =
    c.trunc.ensures.value
    ∙ ap (λ n. n % 2 ^ g.row.W) c.cast_unsigned.ensures
    ∙ ap (λ z. cast_unsigned w64 z % 2 ^ g.row.W) (to_z-of_z w64 c.args.z c.ranges.z)
    ∙ residue-bits g.row.W c.args.z (bounds g.row.W c.requires).1 c.ranges.z
