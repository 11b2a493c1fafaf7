use Rattle.std.proofs.Common.{arith}
use Rattle.read_forms.proofs.laws.parses_printable.Goals as goal

pub returns : goal.returns
returns c limits level ts m small bytes answer known =
    let t = (c.accepts_exactly.ensures limits level ts m).0 answer in
    c.reads_printable.ensures level ts m bytes (t.0, t.1, t.2, omega (arith, t.3.values, small)) known
