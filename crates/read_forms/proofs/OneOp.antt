-- One operation, of which everything is read.
use Rattle.std.proofs.Common.{◌≡◌, ◌<◌, ◌≤◌, ℕ, ◌+◌, true, List, [], ◌∷◌, ◌++◌, length, refl, sym, ap, ◌∙◌, subst}
use Rattle.std.proofs.lemmas.List.{append-nil}
use Rattle.op_table.specs.declared.kind.OpKind.{OpKind}
use Rattle.op_table.specs.declared.rows.Level.{Level}
use Rattle.op_table.specs.Rows.{stands_at}
use Rattle.ir_forms.specs.declared.ops.Region.{Region}
use Rattle.module_grammar.specs.declared.state.Name.{Name}
use Rattle.module_grammar.specs.declared.state.OpenOp.{OpenOp}
use Rattle.module_grammar.specs.declared.state.State.{State}
use Rattle.module_grammar.specs.State.{op_of, with_else, values_of}
use Rattle.mlir_print.specs.Printable.{HasForm, Scope, numbers, NumberOn}
use Rattle.read_forms.proofs.Scopes.{seen_of, AreSeenOrNot, seen-append}
use Rattle.read_forms.proofs.Shows.{Node, Piece, Shows}
use Rattle.read_forms.proofs.Outcomes.{FormRead, with_form, Rest, with_rest, scope_at, opened}
use Rattle.read_forms.proofs.Held.{Formed, unmoved}

-- what an operation that is open makes
abbrev pub node_of : OpenOp → Node
node_of x = record {
  kind = x.kind;
  at = x.at;
  operands = x.operands;
  groups = x.groups;
  written = x.written;
  results = values_of x.results;
  types = x.types;
  attr = x.attr;
  regions = with_else x.kind x.regions;
}

pub one-shown : (level : Level) (x : OpenOp) (visible : List Name) (n m next : ℕ) (end : Scope) → stands_at x.kind level ≡ true → HasForm x.kind (op_of x)
    → x.at < 4294967296 → NumberOn n (values_of x.results) → m ≡ n + length (values_of x.results) → AreSeenOrNot (seen_of visible) x.operands
    → Shows level (Piece.Regions x.kind x.types 0 (with_else x.kind x.regions)) (scope_at m visible) end → end.next ≡ next
    → Shows level (Piece.Ops (op_of x ∷ [])) (scope_at n visible) (scope_at next (visible ++ x.results))
one-shown level x visible n m next end st f fits named e seen regions g =
    Shows.one_op (node_of x) [] (scope_at n visible) end (scope_at next (visible ++ x.results)) st f fits named seen
    (subst (λ (k : ℕ). Shows level (Piece.Regions x.kind x.types 0 (with_else x.kind x.regions)) (scope_at k visible) end) e regions)
    (subst (λ (c : Scope). Shows level (Piece.Ops []) c (scope_at next (visible ++ x.results))) (sym same) (Shows.no_ops (scope_at next (visible ++ x.results))))
  where
    same : record { next = end.next; seen = seen_of visible ++ numbers (values_of x.results) } ≡ scope_at next (visible ++ x.results)
    same = ap (λ (k : ℕ). record { next = k; seen = seen_of visible ++ seen_of x.results }) g ∙ ap (λ (l : List ℕ). record { next = next; seen = l }) (sym (seen-append visible x.results))

-- the form of an operation is read, whose regions are shown
whole-form : (level : Level) (x : OpenOp) (visible : List Name) (m next : ℕ) (end : Scope) → stands_at x.kind level ≡ true
    → ((at : ℕ) → HasForm x.kind (op_of (record x { at = at }))) → AreSeenOrNot (seen_of visible) x.operands
    → Shows level (Piece.Regions x.kind x.types 0 (with_else x.kind x.regions)) (scope_at m visible) end → end.next ≡ next
    → x.at < 4294967296 → (rest : Rest) → next ≤ rest.counted → FormRead level x.results visible m
whole-form level x visible m next end st f seen regions g fits rest room = record {
  ops = [];
  names = [];
  op = x;
  next = next;
  rest = rest;
  room = room;
  fits = fits;
  shows = λ n named e at i.
      subst (λ (l : List Name). Shows level (Piece.Ops (op_of (record x { at = at }) ∷ [])) (scope_at n visible) (scope_at next (l ++ x.results))) (sym (append-nil visible))
      (one-shown level (record x { at = at }) visible n m next end st (f at) i named e seen regions g);
}

-- an operation of this kind, of which nothing is read yet
abbrev pub ready : State → OpKind → ℕ → List Name → State
ready s k at rs = record s { op = opened k at rs; read = []; held = [] }

-- what is known of the kind of an operation
pub record IsKind (level : Level) (k : OpKind) : Type 0 where
  pub stands : stands_at k level ≡ true
  pub no_else : with_else k [] ≡ []

-- the form of an operation with regions is read
pub formed-with : (level : Level) (s s' : State) (x : OpenOp) (next : ℕ) (end : Scope) → stands_at x.kind level ≡ true
    → ((at : ℕ) → HasForm x.kind (op_of (record x { at = at }))) → AreSeenOrNot (seen_of s.visible) x.operands
    → Shows level (Piece.Regions x.kind x.types 0 (with_else x.kind x.regions)) (scope_at s.next s.visible) end → end.next ≡ next
    → x.at < 4294967296 → (rest : Rest) → next ≤ rest.counted → x.results ≡ s.op.results
    → with_rest rest (record s { op = x; next = next; read = []; held = [] }) ≡ s' → Formed level s s'
unfolding whole-form
formed-with level s s' x next end st f seen regions g fits rest room same e =
    subst (λ (l : List Name). (y : FormRead level l s.visible s.next) × (with_form s y ≡ s')) same (
      whole-form level x s.visible s.next next end st f seen regions g fits rest room,
      unmoved (with_rest rest (record s { op = x; next = next; read = []; held = [] })) ∙ e,
    )

-- the form of an operation without regions is read
pub formed : (level : Level) (s : State) (k : OpKind) (at : ℕ) (rs : List Name) (s' : State) (x : OpenOp) → IsKind level k → x.kind ≡ k
    → ((number : ℕ) → HasForm k (op_of (record x { at = number }))) → AreSeenOrNot (seen_of s.visible) x.operands → x.regions ≡ []
    → x.at < 4294967296 → (rest : Rest) → s.next ≤ rest.counted → x.results ≡ rs
    → with_rest rest (record s { op = x; read = []; held = [] }) ≡ s' → Formed level (ready s k at rs) s'
formed level s k at rs s' x h e f seen none fits rest room same is =
    formed-with level (ready s k at rs) s' x s.next (scope_at s.next s.visible)
    (subst (λ (y : OpKind). stands_at y level ≡ true) (sym e) h.stands)
    (λ n. subst (λ (y : OpKind). HasForm y (op_of (record x { at = n }))) (sym e) (f n)) seen
    (subst (λ (l : List Region). Shows level (Piece.Regions x.kind x.types 0 l) (scope_at s.next s.visible) (scope_at s.next s.visible)) (sym regionless) (Shows.no_regions x.kind x.types 0 (scope_at s.next s.visible)))
    refl fits rest room same is
  where
    regionless : with_else x.kind x.regions ≡ []
    regionless = ap (with_else x.kind) none ∙ ap (λ (y : OpKind). with_else y []) e ∙ h.no_else
