-- The rules of names behind a terminator, which are its operands or the results of the next operation.
use Rattle.std.proofs.Common.{◌≡◌, ◌<◌, ◌≤◌, ℕ, zero, suc, ◌+◌, ◌-◌, List, [], ◌∷◌, ◌++◌, length, Some, refl, sym, ap, ◌∙◌, subst, arith, append_assoc, length-append}
use Rattle.std.specs.Prelude.{unwrap_or}
use Rattle.std.proofs.lemmas.List.{append-nil}
use Rattle.op_table.specs.declared.kind.OpKind.TheVariants as op
use Rattle.op_table.specs.declared.rows.Level.{Level}
use Rattle.ir_forms.specs.declared.ops.Op.{Op}
use Rattle.ir_forms.specs.declared.ops.ValueNo.{ValueNo}
use Rattle.ir_forms.specs.declared.types.Ty.{Ty}
use Rattle.module_grammar.specs.declared.symbols.Rule.TheVariants as rule
use Rattle.module_grammar.specs.declared.symbols.Act.TheVariants as act
use Rattle.module_grammar.specs.declared.state.TextToken.{TextToken}
use Rattle.module_grammar.specs.declared.state.Name.{Name}
use Rattle.module_grammar.specs.declared.state.OpenOp.{OpenOp}
use Rattle.module_grammar.specs.declared.state.State.{State}
use Rattle.module_grammar.specs.State.{does, resolved, up, as_number, op_of, name_at, number_up, values_of, last_counted, with_names, add_operand, add_operands, add_result, add_results, begin_op, end_op}
use Rattle.module_grammar.specs.Tokens.{number_of}
use Rattle.module_grammar.specs.Rules.{part, doing, equals}
use Rattle.module_grammar.proofs.Lists.{last_named}
use Rattle.mlir_print.specs.Printable.{AreWritten, HaveTypes, NumberOn}
use Rattle.read_forms.proofs.Triples.{Owes}
use Rattle.read_forms.proofs.Scopes.{seen_of, AreSeenOrNot, resolved-seen, IsNamed, named-none, named-more, named-all, counted-number}
use Rattle.read_forms.proofs.Shows.{Piece, Shows, shows-both}
use Rattle.read_forms.proofs.Outcomes.{UsesRead, with_uses, FormRead, with_form, Finishes, BeforeHeld, AfterHeld, MoreResultsRead, TypeRead, Rest, rest_of, with_rest, scope_at, opened, triples}
use Rattle.read_forms.proofs.Words.{Lines}
use Rattle.read_forms.proofs.Operands.{OperandRead, more-uses, uses-joined, no-uses}
use Rattle.read_forms.proofs.Results.{more-results}
use Rattle.read_forms.proofs.Regions.{clean-is}

-- the form of an operation is read
abbrev pub Formed : Level → State → State → Type 0
Formed level s s' = (x : FormRead level s.op.results s.visible s.next) × (with_form s x ≡ s')

-- ---- no names

-- the operation is whole with these operands and types
finished : (level : Level) (o : OpenOp) (visible : List Name) (next : ℕ) → Finishes level o visible next → (vs : List ValueNo) (ts : List Ty)
    → AreSeenOrNot (seen_of visible) vs → AreWritten ts → HaveTypes (length vs) ts → (number : ℕ) → number < 4294967296 → (rest : Rest) → next ≤ rest.counted
    → FormRead level o.results visible next
finished level o visible next f vs ts a w h number fits rest room = record {
  ops = [];
  names = [];
  op = record o { operands = o.operands ++ vs; written = o.written ++ ts; at = number };
  next = next;
  rest = rest;
  room = room;
  fits = fits;
  shows = λ n e g at i.
      subst (λ (l : List Name). Shows level (Piece.Ops (op_of (record o { operands = o.operands ++ vs; written = o.written ++ ts; at = at }) ∷ [])) (scope_at n visible) (scope_at next (l ++ o.results)))
      (sym (append-nil visible)) (f vs ts a w h n e g at i);
}

pub unmoved : (s : State) → record s { body = record (s.body) { ops = s.body.ops ++ [] }; visible = s.visible ++ [] } ≡ s
unmoved s =
    ap (λ (l : List Op). record s { body = record (s.body) { ops = l }; visible = s.visible ++ [] }) (append-nil s.body.ops)
    ∙ ap (λ (l : List Name). record s { visible = l }) (append-nil s.visible)

pub no-held : (level : Level) (s : State) → BeforeHeld level s → Formed level s s
unfolding finished
no-held level s h = (
  finished level s.op s.visible s.next h.finishes [] [] tt tt tt s.op.at h.fits (rest_of s) h.clean.room,
  ap (λ (l : List ValueNo). record s { body = record (s.body) { ops = s.body.ops ++ [] }; visible = s.visible ++ []; op = record (s.op) { operands = l; written = s.op.written ++ [] }; read = []; held = [] }) (append-nil s.op.operands)
      ∙ ap (λ (l : List Ty). record s { body = record (s.body) { ops = s.body.ops ++ [] }; visible = s.visible ++ []; op = record (s.op) { written = l }; read = []; held = [] }) (append-nil s.op.written)
      ∙ unmoved (record s { read = []; held = [] })
      ∙ clean-is s h.clean,
)

pub held-lines : (level : Level) (s : State) → BeforeHeld level s → Lines level rule.Held s
unfolding does
held-lines level s h = (
  λ t b a. λ n. (
    record { read = h.clean.read; room = h.clean.room; others = s.held; token = t; held = refl; fits = h.fits; finishes = h.finishes },
    λ x m. (x, refl),
  ),
  tt,
)

-- ---- operands

pub held-operands : (ts : List TextToken) (s : State) → (add_operands ts s).counted < 4294967295
    → (x : UsesRead s.visible s.counted) × (length x.values ≡ length ts) × (with_uses s x ≡ add_operands ts s)
unfolding no-uses more-uses
held-operands [] s h = let x = no-uses s in (x.0, refl, x.1)
held-operands (t ∷ ts) s h =
    let y = held-operands ts (add_operand t s) h in
    let x : OperandRead s.visible s.counted = record {
      value = resolved s.visible t.text;
      is_seen = resolved-seen s.visible t.text;
      counted = up s.counted 1;
      rises = omega (arith, y.0.rises, ap (λ (z : State). z.counted) y.2, h);
      used = t.text;
      last = s.last;
    } in
    (more-uses s.visible s.counted x y.0, ap suc y.1, uses-joined s x y.0 ∙ y.2)

-- some names are held, so there are some operands
pub some-operands : (others : List TextToken) (token : TextToken) (held : List TextToken) (vs : List ValueNo) → held ≡ others ++ token ∷ [] → length vs ≡ length held → 1 ≤ length vs
some-operands others token held vs e f = omega (arith, f, ap (λ (l : List TextToken). length l) e, length-append others (token ∷ []))

have-types : (n : ℕ) (t : Ty) (ts : List Ty) → 1 ≤ n → HaveTypes n (t ∷ ts)
have-types zero t ts h = absurd (omega (arith, h))
have-types (suc n) t ts h = tt

-- the operands and their types are read
pub typed-form : (level : Level) (s s' : State) → AfterHeld level s → (vs : List ValueNo) (t : Ty) (ts : List Ty) → AreSeenOrNot (seen_of s.visible) vs
    → AreWritten (t ∷ ts) → 1 ≤ length vs → (number : ℕ) → (s.op.at < 4294967296 → number < 4294967296) → (rest : Rest) → s.counted ≤ rest.counted
    → with_rest rest (record s { op = record (s.op) { operands = s.op.operands ++ vs; written = s.op.written ++ t ∷ ts; at = number }; read = []; held = [] }) ≡ s'
    → Formed level s s'
unfolding finished
typed-form level s s' h vs t ts a w some number fits rest rises e = (
  finished level s.op s.visible s.next h.finishes vs (t ∷ ts) a w (have-types (length vs) t ts some) number (fits h.fits) rest (omega (arith, h.room, rises)),
  unmoved (with_rest rest (record s { op = record (s.op) { operands = s.op.operands ++ vs; written = s.op.written ++ t ∷ ts; at = number }; read = []; held = [] })) ∙ e,
)

pub still-held : (level : Level) (s : State) (t : TextToken) → AfterHeld level s → AfterHeld level (record s { last = t })
still-held level s t h = record { read = h.read; room = h.room; others = h.others; token = h.token; held = h.held; fits = h.fits; finishes = h.finishes }

-- ---- results

held-results : (ts : List TextToken) (s : State)
    → (x : MoreResultsRead s.op.results s.next) × (record s { op = record (s.op) { results = s.op.results ++ x.results }; next = x.next } ≡ add_results ts s)
unfolding more-results
held-results [] s = (
  record { results = []; next = s.next; last = s.last; named = λ n a. subst (λ (l : List Name). IsNamed n l s.next) (sym (append-nil s.op.results)) a },
  ap (λ (l : List Name). record s { op = record (s.op) { results = l } }) (append-nil s.op.results),
)
held-results (t ∷ ts) s =
    let y = held-results ts (add_result t s) in (
      more-results s.op.results s.next t y.0,
      ap (λ (l : List Name). record s { op = record (s.op) { results = l }; next = y.0.next }) (sym (append_assoc s.op.results (name_at t s.next ∷ []) y.0.results)) ∙ y.1,
    )

-- the terminator is over, and the next operation has these results
begun-next : (s : State) → ℕ → List Name → ℕ → State
begun-next s at rs next = record s {
  body = record (s.body) { ops = s.body.ops ++ op_of s.op ∷ [] };
  visible = s.visible ++ s.op.results;
  op = opened op.ScfReduce at rs;
  next = next;
  held = [];
}

next-form : (level : Level) (s : State) → AfterHeld level s → (rs : List Name) (m : ℕ) → NumberOn s.next (values_of rs) → m ≡ s.next + length (values_of rs)
    → FormRead level rs (s.visible ++ s.op.results) m → FormRead level s.op.results s.visible s.next
next-form level s h rs m a e x = record {
  ops = op_of s.op ∷ x.ops;
  names = s.op.results ++ x.names;
  op = x.op;
  next = x.next;
  rest = x.rest;
  room = x.room;
  fits = x.fits;
  shows = λ n f g at i.
      subst (λ (l : List Name). Shows level (Piece.Ops (op_of s.op ∷ (x.ops ++ op_of (record x.op { at = at }) ∷ []))) (scope_at n s.visible) (scope_at x.next (l ++ x.op.results)))
      (append_assoc s.visible s.op.results x.names)
      (shows-both level (op_of s.op ∷ []) (x.ops ++ op_of (record x.op { at = at }) ∷ []) (scope_at n s.visible) (scope_at s.next (s.visible ++ s.op.results))
      (scope_at x.next (((s.visible ++ s.op.results) ++ x.names) ++ x.op.results)) (whole n f g) (x.shows s.next a e at i));
}
  where
    whole : (n : ℕ) → NumberOn n (values_of s.op.results) → s.next ≡ n + length (values_of s.op.results)
        → Shows level (Piece.Ops (op_of s.op ∷ [])) (scope_at n s.visible) (scope_at s.next (s.visible ++ s.op.results))
    whole n f g =
        subst (λ (l : List ValueNo). Shows level (Piece.Ops (op_of (record (s.op) { operands = l }) ∷ [])) (scope_at n s.visible) (scope_at s.next (s.visible ++ s.op.results))) (append-nil s.op.operands)
        (subst (λ (l : List Ty). Shows level (Piece.Ops (op_of (record (s.op) { operands = s.op.operands ++ []; written = l }) ∷ [])) (scope_at n s.visible) (scope_at s.next (s.visible ++ s.op.results))) (append-nil s.op.written)
        (h.finishes [] [] tt tt tt n f g s.op.at h.fits))

next-joined : (level : Level) (s : State) (h : AfterHeld level s) (at : ℕ) (rs : List Name) (m : ℕ) (a : NumberOn s.next (values_of rs)) (e : m ≡ s.next + length (values_of rs))
    (x : FormRead level rs (s.visible ++ s.op.results) m)
    → with_form s (next-form level s h rs m a e x) ≡ with_form (begun-next s at rs m) x
unfolding next-form begun-next
next-joined level s h at rs m a e x =
    ap (λ (l : List Op). with_rest x.rest (record s { body = record (s.body) { ops = l }; visible = s.visible ++ (s.op.results ++ x.names); next = x.next; op = x.op; held = []; read = [] }))
    (sym (append_assoc s.body.ops (op_of s.op ∷ []) x.ops))
    ∙ ap (λ (l : List Name). with_rest x.rest (record s { body = record (s.body) { ops = (s.body.ops ++ op_of s.op ∷ []) ++ x.ops }; visible = l; next = x.next; op = x.op; held = []; read = [] }))
    (sym (append_assoc s.visible s.op.results x.names))

-- what follows the results
form-owes : (level : Level) (s s1 : State) (h : AfterHeld level s) (at : ℕ) (rs : List Name) (m c : ℕ) (l : TextToken) (b : ℕ) → at < 4294967296 → IsNamed s.next rs m
    → with_names s.counted rs < 4294967295 → s1 ≡ record (begun-next s at rs m) { last = l; begun = b; counted = with_names s.counted rs }
    → Owes (triples level) (part rule.Form) (Formed level s) s1
unfolding begun-next
form-owes level s s1 h at rs m c l b fits named small is =
    let all = named-all s.next m s.counted rs named h.room small in
    subst (λ (z : State). Owes (triples level) (part rule.Form) (Formed level s) z) (sym is) (
      record { clean = record { read = h.read; held = refl; room = all.2 }; at = at; fits = fits; results = rs; op = refl },
      λ x n. (next-form level s h rs m all.0 all.1 x, next-joined level s h at rs m all.0 all.1 x),
    )

-- the last of the results stands for so many values
counted-last : (n m c : ℕ) (rs : List Name) (t : TextToken) → IsNamed n rs m → IsNamed n (last_counted (rs ++ name_at t m ∷ []) c) (number_up (number_up m 1 - 1) c)
counted-last n m c rs t a =
    subst (λ (l : List Name). IsNamed n l (number_up (number_up m 1 - 1) c)) (sym (last_named rs (name_at t m) c))
    (named-more n m rs (record (name_at t m) { count = Some c }) (Some c) (number_up (number_up m 1 - 1) c) a refl refl
    (λ h. omega (arith, h)) (λ h. counted-number m c (omega (arith, h))))

results-last : (xs : List TextToken) (t : TextToken) (s : State) → add_results (xs ++ t ∷ []) s ≡ add_result t (add_results xs s)
results-last [] t s = refl
results-last (x ∷ xs) t s = results-last xs t (add_result x s)

-- ---- the rules

pub results-owe : (level : Level) (s : State) (t : TextToken) → AfterHeld level s
    → Owes (triples level) (doing act.HeldResults ++ doing act.CountNames ++ part rule.Form) (Formed level s) (record s { last = t })
unfolding does begun-next
results-owe level s t h =
    λ n. let r = held-results s.held (begin_op (end_op (record s { last = t; held = [] }))) in
    subst (λ (z : State). Owes (triples level) (doing act.CountNames ++ part rule.Form) (Formed level s) z) r.1
    (λ m. form-owes level s _ h (as_number (up s.begun 1)) r.0.results r.0.next s.counted t (up s.begun 1) (omega arith)
    (r.0.named s.next (named-none s.next)) m refl)

pub counted-owe : (level : Level) (s : State) (t : TextToken) → AfterHeld level s
    → Owes (triples level) (doing act.HeldResults ++ doing act.ResultCount ++ doing act.CountNames ++ equals ++ part rule.Form) (Formed level s) (record s { last = t })
unfolding does begun-next
counted-owe level s t h =
    λ n. let s0 : State = begin_op (end_op (record s { last = t; held = [] })) in
    let r = held-results h.others s0 in
    subst (λ (l : List TextToken). Owes (triples level) (doing act.ResultCount ++ doing act.CountNames ++ equals ++ part rule.Form) (Formed level s) (add_results l s0)) (sym h.held)
    (subst (λ (z : State). Owes (triples level) (doing act.ResultCount ++ doing act.CountNames ++ equals ++ part rule.Form) (Formed level s) z)
    (ap (add_result h.token) r.1 ∙ sym (results-last h.others h.token s0))
    (λ i. λ m. λ t2 b2 a2. form-owes level s _ h (as_number (up s.begun 1)) (last_counted (r.0.results ++ name_at h.token r.0.next ∷ []) (unwrap_or (number_of t) 0))
    (number_up (number_up r.0.next 1 - 1) (unwrap_or (number_of t) 0)) s.counted t2 (up s.begun 1) (omega arith)
    (counted-last s.next r.0.next (unwrap_or (number_of t) 0) r.0.results h.token (r.0.named s.next (named-none s.next))) m refl))

-- the types read so far, and more, are those of the operands held
pub colon-owes : (level : Level) (s : State) (u : TypeRead) → AfterHeld level s
    → Owes (triples level) (doing act.HeldOperands ++ part rule.MoreTypes ++ doing act.Written) (Formed level s) (record s { read = s.read ++ u.type ∷ []; last = u.last })
unfolding does
colon-owes level s u h =
    λ n. let r = held-operands s.held (record s { read = s.read ++ u.type ∷ []; last = u.last; held = [] }) n in
    subst (λ (z : State). Owes (triples level) (part rule.MoreTypes ++ doing act.Written) (Formed level s) z) r.2 (
      tt,
      λ us m. λ i. typed-form level s _ h r.0.values u.type us.types r.0.are_seen (u.written, us.written)
          (some-operands h.others h.token s.held r.0.values h.held r.1) s.op.at (λ g. g)
          (record (rest_of s) { last = us.last; used = r.0.used; counted = r.0.counted }) (omega (arith, r.0.rises))
          (ap (λ (l : List Ty). with_rest (record (rest_of s) { last = us.last; used = r.0.used; counted = r.0.counted })
          (record s { op = record (s.op) { operands = s.op.operands ++ r.0.values; written = s.op.written ++ ((l ++ u.type ∷ []) ++ us.types) }; read = []; held = [] })) (sym h.read)),
    )
