-- The rules of operations.
use Rattle.std.proofs.Common.{◌≡◌, ◌<◌, ℕ, ◌+◌, List, [], ◌∷◌, ◌++◌, length, refl, sym, ap, ◌∙◌, subst, arith, append_assoc}
use Rattle.std.proofs.lemmas.List.{append-nil}
use Rattle.op_table.specs.declared.kind.OpKind.{OpKind}
use Rattle.op_table.specs.declared.kind.OpKind.TheVariants as op
use Rattle.op_table.specs.declared.rows.Level.{Level}
use Rattle.ir_forms.specs.declared.ops.Op.{Op}
use Rattle.module_grammar.specs.declared.symbols.Rule.TheVariants as rule
use Rattle.module_grammar.specs.declared.symbols.Act.TheVariants as act
use Rattle.module_grammar.specs.declared.state.Name.{Name}
use Rattle.module_grammar.specs.declared.state.OpenOp.{OpenOp}
use Rattle.module_grammar.specs.declared.state.State.{State}
use Rattle.module_grammar.specs.State.{does, no_op, op_of, up, as_number, values_of}
use Rattle.module_grammar.specs.Rules.{form, ends, doing}
use Rattle.mlir_print.specs.Printable.{NumberOn}
use Rattle.read_forms.proofs.Triples.{IsSmall, Owes, Reached, owes-more, owes-then}
use Rattle.read_forms.proofs.Scopes.{named-all}
use Rattle.read_forms.proofs.Shows.{Piece, Shows, shows-both}
use Rattle.read_forms.proofs.Outcomes.{HasRoom, BodyRead, with_body, Between, FormRead, with_form, BeforeForm, with_rest, rest_of, scope_at, triples}
use Rattle.read_forms.proofs.Words.{Lines}
use Rattle.read_forms.proofs.Regions.{clean-is}
use Rattle.read_forms.proofs.Held.{Formed}
use Rattle.read_forms.proofs.OneOp.{ready}
use Rattle.read_forms.proofs.Chosen.{form-owes, each-form}

-- ---- a form

form-of : (level : Level) (s : State) (at : ℕ) (rs : List Name) → at < 4294967296 → HasRoom s → IsSmall s → Lines level rule.Form (ready s op.ScfReduce at rs)
unfolding does
form-of level s at rs fits room small =
    each-form level [] [] (Formed level (ready s op.ScfReduce at rs)) (ready s op.ScfReduce at rs)
    (λ k f st t. λ n.
    owes-then (triples level) (form k) [] (Formed level (ready s op.ScfReduce at rs)) (ready (record s { last = t }) k at rs)
    (form-owes level k f st (record s { last = t }) at rs fits room))

pub form-lines : (level : Level) (s : State) → IsSmall s → BeforeForm s → Lines level rule.Form s
form-lines level s small h =
    subst (λ (z : State). Lines level rule.Form z)
    (ap (λ (o : OpenOp). record s { op = o; read = []; held = [] }) (sym h.op) ∙ clean-is s h.clean)
    (form-of level s h.at h.results h.fits h.clean.room small)

-- ---- an operation and those behind it

abbrev Bodied : Level → State → State → Type 0
Bodied level s s' = (z : BodyRead level s.visible s.next) × (with_body level s z ≡ s')

-- no type is read, no name is held, and no operation is open
abbrev between : State → State
between s = record s { read = []; held = []; op = no_op 0 }

nested : {A : Type 0} (a b c d : List A) → a ++ ((b ++ c) ++ d) ≡ ((a ++ b) ++ c) ++ d
nested a b c d = sym (append_assoc a (b ++ c) d) ∙ ap (λ (l : List _). l ++ d) (sym (append_assoc a b c))

one-more : (level : Level) (visible rs : List Name) (n m : ℕ) → NumberOn n (values_of rs) → m ≡ n + length (values_of rs)
    → (y : FormRead level rs visible m) (at : ℕ) → at < 4294967296 → BodyRead level ((visible ++ y.names) ++ y.op.results) y.next → BodyRead level visible n
one-more level visible rs n m named e y at fits z = record {
  ops = (y.ops ++ op_of (record y.op { at = at }) ∷ []) ++ z.ops;
  names = (y.names ++ y.op.results) ++ z.names;
  next = z.next;
  rest = z.rest;
  room = z.room;
  shows = subst (λ (l : List Name). Shows level (Piece.Ops ((y.ops ++ op_of (record y.op { at = at }) ∷ []) ++ z.ops)) (scope_at n visible) (scope_at z.next l))
      (sym (nested visible y.names y.op.results z.names))
      (shows-both level (y.ops ++ op_of (record y.op { at = at }) ∷ []) z.ops (scope_at n visible) (scope_at y.next ((visible ++ y.names) ++ y.op.results))
      (scope_at z.next (((visible ++ y.names) ++ y.op.results) ++ z.names)) (y.shows n named e at fits) z.shows);
}

ends-owe : (level : Level) (s : State) (rs : List Name) (m : ℕ) → NumberOn s.next (values_of rs) → m ≡ s.next + length (values_of rs)
    → (y : FormRead level rs s.visible m) → Owes (triples level) ends (Bodied level (between s)) (with_form s y)
unfolding does one-more
ends-owe level s rs m named e y = (
  tt,
  λ d n. (
    tt,
    λ l i. λ j. (
      record { clean = record { read = refl; held = refl; room = y.room }; op = refl },
      λ z k. (
        one-more level s.visible rs s.next m named e y d.at (d.fits y.fits) z,
        ap (λ (o : List Op). with_rest z.rest (record (between s) { body = record (s.body) { ops = o }; visible = s.visible ++ ((y.names ++ y.op.results) ++ z.names); next = z.next }))
            (nested s.body.ops y.ops (op_of (record y.op { at = d.at }) ∷ []) z.ops)
            ∙ ap (λ (v : List Name). with_rest z.rest (record (between s) { body = record (s.body) { ops = ((s.body.ops ++ y.ops) ++ op_of (record y.op { at = d.at }) ∷ []) ++ z.ops }; visible = v; next = z.next }))
            (nested s.visible y.names y.op.results z.names),
      ),
    ),
  ),
)

-- the same of what a form leads to
ends-after : (level : Level) (s : State) (rs : List Name) (m : ℕ) → NumberOn s.next (values_of rs) → m ≡ s.next + length (values_of rs)
    → (s' : State) → (y : FormRead level rs s.visible m) × (with_form s y ≡ s') → Owes (triples level) ends (Bodied level (between s)) s'
ends-after level s rs m named e s' x = subst (λ (z : State). Owes (triples level) ends (Bodied level (between s)) z) x.1 (ends-owe level s rs m named e x.0)

body-of : (level : Level) (s : State) → HasRoom s → IsSmall s → Lines level rule.Body (between s)
unfolding does
body-of level s room small = (
  λ t b a. λ n. λ n1. (
    record { token = t; number = s.next; is = refl; next_is = refl },
    λ x n2. λ n3. λ t2 b2 a2.
        let all = named-all s.next x.next s.counted x.results (x.named t s.next refl refl) room n3 in (
          record {
            clean = record { read = refl; held = refl; room = all.2 };
            at = as_number (up s.begun 1);
            fits = omega arith;
            results = x.results;
            op = refl;
          },
          λ y m. ends-owe level s x.results x.next all.0 all.1 y,
        ),
  ),
  each-form level (doing act.BeginOp) ends (Bodied level (between s)) (between s)
      (λ k f st t. λ n. λ n1.
      let s1 : State = record s { last = t; begun = up s.begun 1 } in
      owes-then (triples level) (form k) ends (Bodied level (between s)) (ready s1 k (as_number (up s.begun 1)) [])
      (owes-more (triples level) (form k) (Formed level (ready s1 k (as_number (up s.begun 1)) [])) (λ z. Owes (triples level) ends (Bodied level (between s)) z)
      (ready s1 k (as_number (up s.begun 1)) []) (λ z i x. ends-after level s [] s.next tt (omega arith) z x) small
      (form-owes level k f st s1 (as_number (up s.begun 1)) [] (omega arith) room))),
)

between-is : (s : State) → Between s → between s ≡ s
between-is s h = ap (λ (o : OpenOp). record s { read = []; held = []; op = o }) (sym h.op) ∙ clean-is s h.clean

pub body-lines : (level : Level) (s : State) → IsSmall s → Between s → Lines level rule.Body s
body-lines level s small h = subst (λ (z : State). Lines level rule.Body z) (between-is s h) (body-of level s h.clean.room small)

pub no-body : (level : Level) (s : State) → Between s → Reached (triples level) rule.Body s s
no-body level s h = (
  record {
    ops = [];
    names = [];
    next = s.next;
    rest = rest_of s;
    room = h.clean.room;
    shows = subst (λ (l : List Name). Shows level (Piece.Ops []) (scope_at s.next s.visible) (scope_at s.next l)) (sym (append-nil s.visible)) (Shows.no_ops (scope_at s.next s.visible));
  },
  ap (λ (l : List Op). record s { body = record (s.body) { ops = l }; visible = s.visible ++ []; op = no_op 0 }) (append-nil s.body.ops)
      ∙ ap (λ (l : List Name). record s { visible = l; op = no_op 0 }) (append-nil s.visible)
      ∙ ap (λ (o : OpenOp). record s { op = o }) (sym h.op),
)
