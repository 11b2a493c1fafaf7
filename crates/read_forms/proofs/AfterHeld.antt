-- The rules of what follows a held name.
use Rattle.std.proofs.Common.{◌≡◌, ◌≤◌, ℕ, List, [], ◌∷◌, ◌++◌, length, refl, sym, ap, ◌∙◌, subst, arith, append_assoc, length-append}
use Rattle.op_table.specs.declared.rows.Level.{Level}
use Rattle.ir_forms.specs.declared.ops.ValueNo.{ValueNo}
use Rattle.ir_forms.specs.declared.types.Ty.{Ty}
use Rattle.module_grammar.specs.declared.symbols.Rule.TheVariants as rule
use Rattle.module_grammar.specs.declared.symbols.Act.TheVariants as act
use Rattle.module_grammar.specs.declared.state.TextToken.{TextToken}
use Rattle.module_grammar.specs.declared.state.State.{State}
use Rattle.module_grammar.specs.State.{does, resolved_at, index_of, without_last}
use Rattle.module_grammar.specs.Rules.{part, doing, colon, types_written, dict}
use Rattle.read_forms.proofs.Triples.{Owes}
use Rattle.read_forms.proofs.Scopes.{seen_of, AreSeenOrNot, both-seen, resolved-at-seen}
use Rattle.read_forms.proofs.Outcomes.{with_uses, AfterHeld, Rest, rest_of, with_rest, triples}
use Rattle.read_forms.proofs.Words.{Lines, type-then-owes, dict-owes}
use Rattle.read_forms.proofs.Held.{Formed, typed-form, still-held, held-operands, some-operands, results-owe, counted-owe, colon-owes}

-- ---- operands, a dictionary and types

-- the state with these operands and types
abbrev typed_with : State → Rest → List ValueNo → List Ty → ℕ → State
typed_with s rest vs ts number = with_rest rest (record s { op = record (s.op) { operands = vs; written = s.op.written ++ ts; at = number }; read = []; held = [] })

dict-held : (level : Level) (s : State) (t : TextToken) → AfterHeld level s
    → Owes (triples level) (doing act.HeldOperands ++ dict ++ doing act.OpAt ++ colon ++ types_written) (Formed level s) (record s { last = t })
unfolding does
dict-held level s t h =
    λ n. let r = held-operands s.held (record s { last = t; held = [] }) n in
    subst (λ (z : State). Owes (triples level) (dict ++ doing act.OpAt ++ colon ++ types_written) (Formed level s) z) r.2
    (dict-owes level (with_uses (record s { last = t; held = [] }) r.0) (colon ++ types_written) (Formed level s)
    (λ x. λ t2 b2 a2. (
      tt,
      λ u m. (
        tt,
        λ us k. λ i.
            let rest : Rest = record (rest_of s) { last = us.last; used = r.0.used; counted = r.0.counted; entry = x.dict.entry; entry_at = x.dict.entry_at } in
            typed-form level s _ h r.0.values u.type us.types r.0.are_seen (u.written, us.written)
            (some-operands h.others h.token s.held r.0.values h.held r.1) x.at x.fits rest (omega (arith, r.0.rises))
            (ap (λ (l : List Ty). typed_with s rest (s.op.operands ++ r.0.values) ((l ++ u.type ∷ []) ++ us.types) x.at) (sym h.read)),
      ),
    )))

-- ---- an index at the last operand

without-more : (xs ys : List ValueNo) → 1 ≤ length ys → without_last (xs ++ ys) ≡ xs ++ without_last ys
without-more [] ys h = refl
without-more (x ∷ []) [] h = absurd (omega (arith, h))
without-more (x ∷ []) (y ∷ ys) h = refl
without-more (x ∷ z ∷ xs) ys h = ap (λ (l : List ValueNo). x ∷ l) (without-more (z ∷ xs) ys h)

seen-without : (seen : List ℕ) (vs : List ValueNo) → AreSeenOrNot seen vs → AreSeenOrNot seen (without_last vs)
seen-without seen [] a = tt
seen-without seen (v ∷ []) a = tt
seen-without seen (v ∷ w ∷ vs) a = (a.0, seen-without seen (w ∷ vs) a.1)

-- the operands with the last one changed and more behind it
changed : (xs vs ys : List ValueNo) (v : ValueNo) → 1 ≤ length vs
    → xs ++ ((without_last vs ++ v ∷ []) ++ ys) ≡ (without_last (xs ++ vs) ++ v ∷ []) ++ ys
changed xs vs ys v h =
    sym (append_assoc xs (without_last vs ++ v ∷ []) ys)
    ∙ ap (λ (l : List ValueNo). l ++ ys) (sym (append_assoc xs (without_last vs) (v ∷ [])))
    ∙ ap (λ (l : List ValueNo). (l ++ v ∷ []) ++ ys) (sym (without-more xs vs h))

index-held : (level : Level) (s : State) (t : TextToken) → AfterHeld level s
    → Owes (triples level) (doing act.HeldOperands ++ doing act.OperandIndex ++ part rule.MoreUses ++ part rule.OpDict ++ colon ++ types_written) (Formed level s) (record s { last = t })
unfolding does
index-held level s t h =
    λ n. let r = held-operands s.held (record s { last = t; held = [] }) n in
    let some : 1 ≤ length r.0.values = some-operands h.others h.token s.held r.0.values h.held r.1 in
    subst (λ (z : State). Owes (triples level) (doing act.OperandIndex ++ part rule.MoreUses ++ part rule.OpDict ++ colon ++ types_written) (Formed level s) z) r.2
    (λ m. (
      tt,
      λ y k. (
        tt,
        λ x i. λ t2 b2 a2. (
          tt,
          λ u j. (
            tt,
            λ us l. λ e.
                let v : ValueNo = resolved_at s.visible r.0.used (index_of r.0.last) in
                let rest : Rest = record (rest_of s) { last = us.last; used = y.used; counted = y.counted; entry = x.dict.entry; entry_at = x.dict.entry_at } in
                typed-form level s _ h ((without_last r.0.values ++ v ∷ []) ++ y.values) u.type us.types
                (both-seen (seen_of s.visible) (without_last r.0.values ++ v ∷ []) y.values
                (both-seen (seen_of s.visible) (without_last r.0.values) (v ∷ []) (seen-without (seen_of s.visible) r.0.values r.0.are_seen) (resolved-at-seen s.visible r.0.used (index_of r.0.last), tt))
                y.are_seen) (u.written, us.written)
                (omega (arith, length-append (without_last r.0.values ++ v ∷ []) y.values, length-append (without_last r.0.values) (v ∷ [])))
                x.at x.fits rest (omega (arith, r.0.rises, y.rises))
                (ap (λ (o : List ValueNo). typed_with s rest o (u.type ∷ us.types) x.at) (changed s.op.operands r.0.values y.values v some)
                ∙ ap (λ (w : List Ty). typed_with s rest ((without_last (s.op.operands ++ r.0.values) ++ v ∷ []) ++ y.values) ((w ++ u.type ∷ []) ++ us.types) x.at) (sym h.read)),
          ),
        ),
      ),
    ))

-- ---- the rules

pub after-held-lines : (level : Level) (s : State) → AfterHeld level s → Lines level rule.AfterHeld s
unfolding does
after-held-lines level s h = (
  λ t b a. λ t1 b1 a1. λ n. (record { read = h.read; room = h.room; others = s.held; token = t1; held = refl; fits = h.fits; finishes = h.finishes }, λ x m. (x, refl)),
  (
    λ t b a. results-owe level s t h,
    (
      λ t b a. (still-held level s t h, λ x n. (x, refl)),
      (λ t b a. dict-held level s t h, (λ t b a. index-held level s t h, tt)),
    ),
  ),
)

pub after-colon-lines : (level : Level) (s : State) → AfterHeld level s → Lines level rule.AfterHeldColon s
after-colon-lines level s h = (
  λ t b a. counted-owe level s t h,
  type-then-owes level s (doing act.HeldOperands ++ part rule.MoreTypes ++ doing act.Written) (Formed level s) (λ u. colon-owes level s u h),
)
