use Rattle.std.proofs.Common.{ap, ◌∙◌, ◌++◌, append_assoc}
use Rattle.run_journal.specs.Lines.{journal_lines}
use Rattle.async_cli.proofs.texts.push_headed_journal.Goals as goal

pub returns : goal.returns
returns c =
    c.in_ok-push_journal.ensures.ok ∙ ap (λ l. l ++ journal_lines c.args.journal.now) c.in_ok-extend_from_slice.ensures.items
    ∙ append_assoc c.args.text.now.items _ (journal_lines c.args.journal.now)
