use Rattle.std.proofs.Common.{sym, ◌∙◌, arith}
use Rattle.mlir_lex.proofs.Closed.{unclosed, none_either_way, none_else}
use Rattle.mlir_lex.proofs.brackets.memref_len.Goals as goal
use Rattle.mlir_lex.proofs.brackets.memref_len.Goals.{else-starts_with-via-then-starts_with+else-closed, else-starts_with-via-else-starts_with}

pub returns-else-starts_with-clause-value : goal.returns-else-starts_with-clause-value
returns-else-starts_with-clause-value c =
    elim c.else-starts_with.branch [
      | else-starts_with-via-then-starts_with+else-closed w ↦
          none_either_way _ _ (unclosed c.args.text.now c.args.closed.now c.requires (omega arith) w.if-closed.false)
      | else-starts_with-via-else-starts_with w ↦ none_else _ _ (sym c.starts_with.ensures.value ∙ w.if-starts_with.false)
    ]
