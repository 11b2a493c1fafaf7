use Rattle.std.proofs.Common.{◌≤◌, ◌+◌, ◌*◌, ℕ, get_or, drop, sym, ap, ◌∙◌, subst, arith}
use Rattle.module_grammar.specs.Tokens.{below, digit_of}
use Rattle.module_grammar.proofs.Wide.{too-large, past, digit-step}
use Rattle.module_grammar.proofs.words.numbers.number_in.Goals as goal

pub returns-then-number-digit : goal.returns-then-number-digit
returns-then-number-digit c =
    let base : ℕ = c.args.base in
    let bytes = c.args.digits.now in
    let at : ℕ = c.loop-byte.byte-index in
    let n : ℕ = c.loop-byte.number in
    let some : 1 ≤ base = omega (arith, c.requires) in
    let wide : 18446744073709551616 ≤ n * base + digit_of (get_or bytes at 0) =
    subst (λ (d : ℕ). 18446744073709551616 ≤ n * base + d) c.digit_of-digit.ensures (past base n c.digit_of-digit.result some c.if-number-digit.true) in
    sym (ap below (sym c.loop-byte.invariant ∙ digit-step base bytes at n c.loop-byte-test.true)
    ∙ too-large base (drop (at + 1) bytes) (n * base + digit_of (get_or bytes at 0)) some wide)
