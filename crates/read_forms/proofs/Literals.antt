-- The rule of constants.
use Rattle.std.proofs.Common.{◌≡◌, ◌<◌, ◌≤◌, inl, inr, ℕ, true, false, nat_lt, List, [], Option, Some, None, refl, sym, ap, subst, arith, leb-true, ltb-true}
use Rattle.std.specs.Prelude.{unwrap_or}
use Rattle.int_ops.specs.declared.Width.TheVariants.{W1}
use Rattle.op_table.specs.declared.rows.Level.{Level}
use Rattle.ir_forms.specs.declared.types.Ty.{Ty}
use Rattle.ir_forms.specs.declared.types.Ty.TheVariants as ty
use Rattle.ir_forms.specs.declared.ops.Attr.TheVariants as attr
use Rattle.module_grammar.specs.declared.symbols.Rule.TheVariants as rule
use Rattle.module_grammar.specs.declared.state.TextToken.{TextToken}
use Rattle.module_grammar.specs.declared.state.State.{State}
use Rattle.module_grammar.specs.State.{does, is_true, literal}
use Rattle.module_grammar.specs.Tokens.{is_up_to, below, number_of, number_of_kind, is_number_kind}
use Rattle.module_grammar.specs.Rules.{is_of}
use Rattle.module_grammar.proofs.Runs.{by_test}
use Rattle.module_grammar.proofs.Ends.{and-right}
use Rattle.read_forms.proofs.Outcomes.{NumberRead}
use Rattle.read_forms.proofs.Words.{Lines}

up-to : (limit : ℕ) (o : Option ℕ) → is_up_to limit o ≡ true → unwrap_or o 0 ≤ limit
up-to limit None e = absurd cc
up-to limit (Some n) e = leb-true n limit e

below-limit : (n : ℕ) → unwrap_or (below n) 0 < 18446744073709551616
below-limit n =
    by_test (nat_lt n 18446744073709551616)
    (λ y. rw y (ltb-true n 18446744073709551616 y))
    (λ z. rw z (omega arith))

number-small : (t : TextToken) → unwrap_or (number_of t) 0 < 18446744073709551616
unfolding number_of
number-small t = below-limit (number_of_kind t.kind t.text)

kept : (s : State) (t : TextToken) → NumberRead s.op.at
kept s t = record { dict = record { last = t; entry = s.entry; entry_at = s.entry_at }; at = s.op.at; fits = λ h. h }

number-with : {before : ℕ} → NumberRead before → TextToken → NumberRead before
number-with x t = record { dict = record x.dict { last = t }; at = x.at; fits = x.fits }

literal-of : (level : Level) (s : State) → Lines level rule.Literal (record s { read = [] })
unfolding does is_of kept number-with
literal-of level s = (
  λ t b a. λ n. λ m. (record { attr = attr.Truth (is_true t.text); type = ty.Int W1; is = inl (is_true t.text, refl, refl); number = kept s t }, refl),
  (
    λ t b a. λ n. λ m. (record { attr = attr.Truth (is_true t.text); type = ty.Int W1; is = inl (is_true t.text, refl, refl); number = kept s t }, refl),
    (
      λ t b a. λ t1 b1 a1. λ n. (
        tt,
        λ x m. λ t2 b2 a2. (
          tt,
          λ u k. λ i. (
            record {
              attr = literal true t1;
              type = u.type;
              is = inr (inr (unwrap_or (number_of t1) 0, refl, up-to 9223372036854775808 (number_of t1) (and-right (is_number_kind t1.kind) (is_up_to 9223372036854775808 (number_of t1)) a1), u.written));
              number = number-with x u.last;
            },
            refl,
          ),
        ),
      ),
      (
        λ t b a. λ n. (
          tt,
          λ x m. λ t2 b2 a2. (
            tt,
            λ u k. λ i. (
              record {
                attr = literal false t;
                type = u.type;
                is = inr (inl (unwrap_or (number_of t) 0, refl, number-small t, u.written));
                number = number-with x u.last;
              },
              refl,
            ),
          ),
        ),
        tt,
      ),
    ),
  ),
)

pub literal-lines : (level : Level) (s : State) → s.read ≡ [] → Lines level rule.Literal s
literal-lines level s e = subst (λ (z : State). Lines level rule.Literal z) (ap (λ (r : List Ty). record s { read = r }) (sym e)) (literal-of level s)
