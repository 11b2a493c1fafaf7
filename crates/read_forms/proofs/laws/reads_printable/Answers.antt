use Rattle.read_forms.proofs.Law.{reads-printable}
use Rattle.read_forms.proofs.laws.reads_printable.Goals as goal

pub returns : goal.returns
returns c = reads-printable
