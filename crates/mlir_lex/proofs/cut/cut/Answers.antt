use Rattle.std.proofs.Common.{false, length, drop, ap, ◌∙◌, arith}
use Rattle.std.proofs.lemmas.List.{take_rest}
use Rattle.mlir_lex.specs.Scan.{read}
use Rattle.mlir_lex.proofs.Closed.{length-closed_at, drop-closed_at}
use Rattle.mlir_lex.proofs.Reading.{with_front, with_front-nil, within_text, some_left, turn-gap, turn-piece, turn-open_string, turn-bad_byte}
use Rattle.mlir_lex.proofs.cut.cut.Goals as goal

pub loop-at-init : goal.loop-at-init
loop-at-init c = record {
  same = ap (λ front. with_front front (read c.args.text.now 0 false 0)) c.new-tokens.ensures.items ∙ with_front-nil _;
  within = omega arith;
  table = ap length c.requires.closed ∙ length-closed_at c.args.text.now;
}

pub item_of-requires-clause-closed : goal.item_of-requires-clause-closed
item_of-requires-clause-closed c =
    let text = c.args.text.now in
    let at = c.loop-at.at in
    rw (take_rest c.args.closed.now at, take_rest text at) (ap (λ l. drop at l) c.requires.closed ∙ drop-closed_at at text)

pub loop-at-preserved-in-Gap : goal.loop-at-preserved-in-Gap
loop-at-preserved-in-Gap c =
    let is = take_rest c.args.text.now c.loop-at.at in
    record {
      same = turn-gap _ _ _ _ _ _ is c.loop-at.invariant.same c.in-Gap.len c.in-Gap.ensures.value c.in-Gap.ensures.within;
      within = within_text _ _ _ _ _ _ is c.loop-at.invariant.same c.in-Gap.len c.loop-at.invariant.within c.in-Gap.ensures.within.1;
      table = c.loop-at.invariant.table;
    }

pub loop-at-preserved : goal.loop-at-preserved
loop-at-preserved c =
    let is = take_rest c.args.text.now c.loop-at.at in
    record {
      same = turn-piece _ _ _ _ _ _ is c.loop-at.invariant.same c.in-Piece.kind c.in-Piece.len _ _
          c.in-Piece.ensures.value c.in-Piece.ensures.within c.is_digits-after_digits.ensures c.in_ok-push-in-Piece.ensures.items;
      within = within_text _ _ _ _ _ _ is c.loop-at.invariant.same c.in-Piece.len c.loop-at.invariant.within c.in-Piece.ensures.within.1;
      table = c.loop-at.invariant.table;
    }

pub returns-in-OpenString-clause-err : goal.returns-in-OpenString-clause-err
returns-in-OpenString-clause-err c =
    let is = take_rest c.args.text.now c.loop-at.at in
    turn-open_string _ _ _ _ _ _ is c.loop-at.invariant.same c.in-OpenString.ensures.value (some_left _ _ _ _ _ _ is c.loop-at.invariant.same c.loop-at-test.true)

pub returns-in-BadByte-clause-err : goal.returns-in-BadByte-clause-err
returns-in-BadByte-clause-err c =
    let is = take_rest c.args.text.now c.loop-at.at in
    turn-bad_byte _ _ _ _ _ _ is c.loop-at.invariant.same c.in-BadByte.ensures.value (some_left _ _ _ _ _ _ is c.loop-at.invariant.same c.loop-at-test.true)
