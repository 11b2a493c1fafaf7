-- The rules of operands.
use Rattle.std.proofs.Common.{◌≡◌, ◌≤◌, ℕ, ◌+◌, List, [], ◌∷◌, ◌++◌, refl, sym, ap, ◌∙◌, subst, arith, append_assoc}
use Rattle.std.proofs.lemmas.List.{append-nil}
use Rattle.op_table.specs.declared.rows.Level.{Level}
use Rattle.ir_forms.specs.declared.ops.ValueNo.{ValueNo}
use Rattle.module_grammar.specs.declared.symbols.Rule.TheVariants as rule
use Rattle.module_grammar.specs.declared.symbols.Symbol.{Symbol}
use Rattle.module_grammar.specs.declared.state.TextToken.{TextToken}
use Rattle.module_grammar.specs.declared.state.Name.{Name}
use Rattle.module_grammar.specs.declared.state.State.{State}
use Rattle.module_grammar.specs.State.{does, resolved, resolved_at, index_of, without_last, up}
use Rattle.module_grammar.specs.Rules.{operand, part, close_bracket}
use Rattle.module_grammar.proofs.Lists.{without_pushed}
use Rattle.read_forms.proofs.Triples.{Owes, Reached}
use Rattle.read_forms.proofs.Scopes.{seen_of, IsSeenOrNot, resolved-seen, resolved-at-seen}
use Rattle.read_forms.proofs.Outcomes.{UsesRead, with_uses, HasOperand, triples}
use Rattle.read_forms.proofs.Words.{Lines}

-- ---- one operand

pub index-lines : (level : Level) (s : State) → Lines level rule.Index s
unfolding does
index-lines level s =
    (λ t b a. λ n. (record { value = resolved_at s.visible s.used (index_of t); is_seen = resolved-at-seen s.visible s.used (index_of t); last = t }, refl), tt)

abbrev with_operands : State → List ValueNo → State
with_operands s vs = record s { op = record (s.op) { operands = vs } }

pub no-index : (level : Level) (s : State) → HasOperand s → Reached (triples level) rule.Index s s
no-index level s h = (
  record { value = h.value; is_seen = h.is_seen; last = s.last },
  ap (λ (l : List ValueNo). with_operands s (without_last l ++ h.value ∷ [])) h.are
      ∙ ap (λ (l : List ValueNo). with_operands s (l ++ h.value ∷ [])) (without_pushed h.others h.value)
      ∙ ap (with_operands s) (sym h.are),
)

-- one operand is read
pub record OperandRead (visible : List Name) (before : ℕ) : Type 0 where
  pub value : ValueNo
  pub is_seen : IsSeenOrNot (seen_of visible) value
  pub counted : ℕ
  pub rises : before + 1 ≤ counted
  pub used : List ℕ
  pub last : TextToken

abbrev pub with_operand : (s : State) → OperandRead s.visible s.counted → State
with_operand s x = record s { op = record (s.op) { operands = s.op.operands ++ x.value ∷ [] }; used = x.used; last = x.last; counted = x.counted }

pub operand-owes : (level : Level) (s : State) (ss : List Symbol) (Q : State → Type 0)
    → ((x : OperandRead s.visible s.counted) → Owes (triples level) ss Q (with_operand s x)) → Owes (triples level) (operand ++ ss) Q s
unfolding does
operand-owes level s ss Q f =
    λ t b a. λ n. (
      record { others = s.op.operands; value = resolved s.visible t.text; are = refl; is_seen = resolved-seen s.visible t.text },
      λ y m.
          let x : OperandRead s.visible s.counted = record {
            value = y.value;
            is_seen = y.is_seen;
            counted = up s.counted 1;
            rises = omega (arith, n);
            used = t.text;
            last = y.last;
          } in
          subst (λ (l : List ValueNo). Owes (triples level) ss Q (record (with_operand s x) { op = record (s.op) { operands = l ++ y.value ∷ [] } }))
          (sym (without_pushed s.op.operands (resolved s.visible t.text))) (f x),
    )

-- ---- several

unfoldable pub more-uses : (visible : List Name) (before : ℕ) (x : OperandRead visible before) → UsesRead visible x.counted → UsesRead visible before
more-uses visible before x y = record {
  values = x.value ∷ y.values;
  are_seen = (x.is_seen, y.are_seen);
  counted = y.counted;
  rises = omega (arith, x.rises, y.rises);
  used = y.used;
  last = y.last;
}

pub uses-joined : (s : State) (x : OperandRead s.visible s.counted) (y : UsesRead s.visible x.counted)
    → with_uses s (more-uses s.visible s.counted x y) ≡ with_uses (with_operand s x) y
unfolding more-uses
uses-joined s x y =
    ap (λ (l : List ValueNo). record (with_operands s l) { used = y.used; last = y.last; counted = y.counted })
    (sym (append_assoc s.op.operands (x.value ∷ []) y.values))

unfoldable pub no-uses : (s : State) → (x : UsesRead s.visible s.counted) × (with_uses s x ≡ s)
no-uses s = (
  record { values = []; are_seen = tt; counted = s.counted; rises = omega arith; used = s.used; last = s.last },
  ap (with_operands s) (append-nil s.op.operands),
)

pub uses-lines : (level : Level) (s : State) → Lines level rule.Uses s
uses-lines level s = (
  operand-owes level s (part rule.MoreUses) (Reached (triples level) rule.Uses s) (λ x. (tt, λ y n. (more-uses s.visible s.counted x y, uses-joined s x y))),
  tt,
)

pub more-uses-lines : (level : Level) (s : State) → Lines level rule.MoreUses s
more-uses-lines level s = (
  λ t b a. operand-owes level (record s { last = t }) (part rule.MoreUses) (Reached (triples level) rule.MoreUses s)
      (λ x. (tt, λ y n. (more-uses s.visible s.counted x y, uses-joined s x y))),
  tt,
)

with-last : {visible : List Name} {before : ℕ} → UsesRead visible before → TextToken → UsesRead visible before
with-last x t = record { values = x.values; are_seen = x.are_seen; counted = x.counted; rises = x.rises; used = x.used; last = t }

pub dependencies-lines : (level : Level) (s : State) → Lines level rule.Dependencies s
unfolding with-last
dependencies-lines level s = (
  λ t b a. operand-owes level (record s { last = t }) (part rule.MoreUses ++ close_bracket) (Reached (triples level) rule.Dependencies s)
      (λ x. (tt, λ y n. λ t2 b2 a2. (with-last (more-uses s.visible s.counted x y) t2, ap (λ (z : State). record z { last = t2 }) (uses-joined s x y)))),
  tt,
)
