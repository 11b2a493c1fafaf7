use Rattle.std.proofs.Common.{sym, ap, ◌∙◌, subst}
use Rattle.module_grammar.specs.Faults.{parsed}
use Rattle.mlir_text.specs.Tokens.{text_tokens_of}
use Rattle.mlir_text.specs.Texts.{IsParsed}
use Rattle.mlir_text.proofs.Answers.{parsed_is}
use Rattle.mlir_text.proofs.reader.parse.Goals as goal

pub returns : goal.returns
returns c =
    let bytes = c.args.bytes.now in
    let limits = c.args.limits.now in
    let level = c.args.level in
    let text_tokens = c.in_ok-text_tokens.text_tokens.items in
    let are = c.in_ok-text_tokens.ensures ∙ ap (text_tokens_of bytes) c.as_slice.ensures.value in
    let is = c.in_ok-found.ensures ∙ ap (parsed limits level) c.as_slice-2.ensures.value in
    subst (IsParsed limits level bytes) (sym c.answer_of.ensures)
    (parsed_is c.accepts_exactly.ensures c.names_first_fault.ensures limits level bytes text_tokens c.in_ok-found.found (c.in-Ok.tokens.items, c.in-Ok.ensures.tokens, are) is)
