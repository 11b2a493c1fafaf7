use Rattle.std.proofs.Common.{◌≡◌, ◌<◌, ◌+◌, ℕ, Bool, true, false, not, List, length, get_or, Option, Some, sym, ap, subst, ◌∙◌}
use Rattle.std.specs.Option.{option_eq}
use Rattle.std.proofs.Math.Dec.{eqb}
use Rattle.module_grammar.specs.declared.state.TextToken.{TextToken}
use Rattle.module_grammar.proofs.Distinct.{first, not_first, still_distinct}
use Rattle.module_grammar.proofs.words.classes.are_distinct.Goals as goal

-- what the loop compares, in terms of the tokens
told : (ts : List TextToken) (i at : ℕ) (t : TextToken) (text : List ℕ) (o : Option ℕ) (r s : Bool) → at ≡ i → text ≡ t.text → o ≡ first ts text
    → r ≡ not (option_eq eqb o (Some at)) → r ≡ s → not (option_eq eqb (first ts t.text) (Some i)) ≡ s
told ts i at t text o r s place is found tells e =
    ap (λ p. not (option_eq eqb p (Some i))) (sym (found ∙ ap (first ts) is)) ∙ ap (λ a. not (option_eq eqb o (Some a))) (sym place) ∙ sym tells ∙ e

pub returns-then-ne : goal.returns-then-ne
returns-then-ne c =
    let ts : List TextToken = c.args.tokens.now in
    let i : ℕ = c.loop-token.token-index in
    let t : TextToken = c.token-item.result in
    let below : i < length ts = subst (λ (l : List TextToken). i < length l) c.as_slice-token-items.ensures c.loop-token-test.true in
    let is : t ≡ get_or ts i t = subst (λ (l : List TextToken). t ≡ get_or l i t) c.as_slice-token-items.ensures c.token-item.is in
    sym (not_first ts i t below is (told ts i c.loop-token.at t c.as_slice.result.now c.first.result c.ne.result true c.loop-token.invariant.0 c.as_slice.ensures c.first.ensures c.ne.ensures c.if-ne.true))

pub loop-token-preserved : goal.loop-token-preserved
loop-token-preserved c =
    let ts : List TextToken = c.args.tokens.now in
    let i : ℕ = c.loop-token.token-index in
    let t : TextToken = c.token-item.result in
    let below : i < length ts = subst (λ (l : List TextToken). i < length l) c.as_slice-token-items.ensures c.loop-token-test.true in
    let is : t ≡ get_or ts i t = subst (λ (l : List TextToken). t ≡ get_or l i t) c.as_slice-token-items.ensures c.token-item.is in (
      ap (λ n. n + 1) c.loop-token.invariant.0,
      still_distinct ts i t below is (told ts i c.loop-token.at t c.as_slice.result.now c.first.result c.ne.result false c.loop-token.invariant.0 c.as_slice.ensures c.first.ensures c.ne.ensures c.if-ne.false) c.loop-token.invariant.1,
    )
