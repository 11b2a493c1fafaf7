use Rattle.std.proofs.lemmas.Result.{IfOk-weaker, IfErr-weaker}
use Rattle.mlir_lex.proofs.Means.{in_order, within}
use Rattle.mlir_lex.proofs.Whole.{tokens_mean, fault_means}
use Rattle.mlir_lex.proofs.tokens.Goals as goal

pub returns-clause-tokens : goal.returns-clause-tokens
returns-clause-tokens c =
    IfOk-weaker c.cut.result _ _ (λ v read. tokens_mean c.args.bytes.now v.items c.in_default.ensures.cases.1 read) c.cut.ensures.ok

pub returns-clause-fault : goal.returns-clause-fault
returns-clause-fault c = IfErr-weaker c.cut.result _ _ (λ e read. fault_means c.args.bytes.now e c.in_default.ensures.cases.1 read) c.cut.ensures.err

pub returns-clause-in_order : goal.returns-clause-in_order
returns-clause-in_order c = IfOk-weaker c.cut.result _ _ (λ v read. in_order c.args.bytes.now v.items read) c.cut.ensures.ok

pub returns-clause-within : goal.returns-clause-within
returns-clause-within c = IfOk-weaker c.cut.result _ _ (λ v read. within c.args.bytes.now v.items read) c.cut.ensures.ok
