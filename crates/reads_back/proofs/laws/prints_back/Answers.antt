use Rattle.reads_back.proofs.Composed.{stands-for}
use Rattle.reads_back.proofs.laws.prints_back.Goals as goal

pub returns : goal.returns
returns c = stands-for (record {
  one_reading = c.one_reading.ensures;
  reads_as_spelled = c.reads_as_spelled.ensures;
  takes_words = c.takes_words.ensures;
  is_plain_text = c.is_plain_text.ensures;
  has_few_tokens = c.has_few_tokens.ensures;
  sees_no_deeper = c.sees_no_deeper.ensures;
  gives_back = c.gives_back.ensures;
})
