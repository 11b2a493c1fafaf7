use Rattle.async_cli.proofs.Alike.{run_owes_one}
use Rattle.async_cli.proofs.ToolAlike.{tool_owes_one}
use Rattle.async_cli.proofs.laws.owes_one_answer.Goals as goal

pub returns : goal.returns
returns c = λ law. (
  run_owes_one law,
  tool_owes_one
      (record {
        one_journal = c.one_journal.ensures;
        one_bad_line = c.one_bad_line.ensures;
        no_bad_line = c.no_journal_with_bad_line.ensures;
        named = c.replayed_or_named.ensures;
      })
      law,
)
