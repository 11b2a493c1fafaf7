use Rattle.print_laws.proofs.FewTokens.{few-tokens}
use Rattle.print_laws.proofs.laws.has_few_tokens.Goals as goal

pub returns : goal.returns
returns c = few-tokens
