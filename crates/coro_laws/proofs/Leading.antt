-- Where the blocks that the pass makes lead.
use Rattle.std.proofs.Common.{◌≡◌, ℕ, zero, suc, Bool, true, false, List, [], ◌∷◌, ◌++◌, map, Option, Some, None, refl, sym, ap, ◌∙◌, subst}
use Rattle.std.specs.Prelude.{slice_get}
use Rattle.op_table.specs.declared.kind.OpKind.{OpKind}
use Rattle.op_table.specs.declared.kind.OpKind.TheVariants as op
use Rattle.low_flow.specs.Lists.{list_at}
use Rattle.low_forms.specs.declared.code.LowKind.{LowKind}
use Rattle.low_forms.specs.declared.code.LowKind.TheVariants.{Row, Launch, Await}
use Rattle.low_forms.specs.declared.code.Target.{Target}
use Rattle.low_forms.specs.declared.code.Term.{Term}
use Rattle.low_forms.specs.declared.code.Block.{Block}
use Rattle.low_forms.specs.declared.code.LowFunc.{LowFunc}
use Rattle.low_forms.specs.declared.row.Targets.{Targets}
use Rattle.low_forms.specs.declared.row.Targets.TheVariants as to
use Rattle.low_forms.specs.Rows.{row_of}
use Rattle.low_forms.specs.Registers.{every}
use Rattle.low_forms.specs.Edges.{blocks_of, edges_of, edges_from, edges_in, edges}
use Rattle.coro_lower.specs.declared.label.Label.{Label}
use Rattle.coro_lower.specs.declared.label.Label.TheVariants.{Entry, Next, Body, SetsError, Cleanup, Suspended}
use Rattle.coro_lower.specs.declared.label.End.{End}
use Rattle.coro_lower.specs.declared.label.End.TheVariants as end
use Rattle.coro_lower.specs.Layout.{plain_end, end_of, target_at, errors_for, layout, place}
use Rattle.coro_lower.specs.Shape.{moved, term_of, body, next, label_block, lowered}
use Rattle.register_laws.proofs.Lists.{every_at, mapped_back}
use Rattle.coro_laws.specs.Half.{is_of_coroutines, holds_none}
use Rattle.coro_laws.proofs.Lists.{Among, among_left}
use Rattle.coro_laws.proofs.Labels.{behind_entry, staying, failures, task_layout, plain_layout, entry_apart}
use Rattle.coro_laws.proofs.Making.{none_holds, plain_is}
use Rattle.coro_laws.proofs.OneEdge.{EdgeAt}

-- ---- the labels to which a label leads

abbrev tests : List Target → List Label
tests targets = Body (target_at targets 1) ∷ Body (target_at targets 0) ∷ []

abbrev pub end_leads : End → ℕ → List Target → List Label
end_leads end.Stays k targets = map Body (blocks_of targets)
end_leads end.Waits k targets = tests targets
end_leads end.Suspends k targets = Next k ∷ []
end_leads end.Gives k targets = Cleanup ∷ []
end_leads end.Fails k targets = SetsError ∷ []

abbrev pub body_leads : LowFunc → ℕ → Option Block → List Label
body_leads f k None = []
body_leads f k (Some b) = end_leads (end_of f b) k b.term.targets

abbrev pub next_leads : Option Block → List Label
next_leads None = []
next_leads (Some b) = tests b.term.targets

abbrev pub leads : LowFunc → Label → List Label
leads f Entry = Suspended ∷ Body 0 ∷ []
leads f (Body k) = body_leads f k (slice_get f.blocks k)
leads f (Next k) = next_leads (slice_get f.blocks k)
leads f SetsError = Cleanup ∷ []
leads f Cleanup = []
leads f Suspended = []

-- ---- terminators that stay lead where they led

abbrev is_suspending : Targets → Bool
is_suspending to.Suspend = true
is_suspending _ = false

pub all_edges : (asked : Targets) (is_first : Bool) (bs : List ℕ) → is_suspending asked ≡ false → edges_of asked is_first bs ≡ bs
all_edges to.Suspend is_first bs is = cc
all_edges asked is_first bs is = refl

pub not_suspending : (kind : LowKind) → is_of_coroutines kind ≡ false → is_suspending (row_of kind).targets ≡ false
not_suspending Launch none = refl
not_suspending Await none = refl
not_suspending (Row kind) none = by kind none
  where
    by : (kind : OpKind) → is_of_coroutines (Row kind) ≡ false → is_suspending (row_of (Row kind)).targets ≡ false
    by op.AsyncCoroSuspend none = cc
    by kind none = refl

moved_blocks : (f : LowFunc) (ts : List Target) → blocks_of (map (moved f) ts) ≡ map (place f) (map Body (blocks_of ts))
moved_blocks f [] = refl
moved_blocks f (t ∷ ts) = ap (λ bs. place f (Body t.block.0) ∷ bs) (moved_blocks f ts)

module _ (f : LowFunc) (none : every holds_none f.blocks ≡ true) where
  end_edges : (e : End) (is_first : Bool) (k : ℕ) (t : Term) → is_of_coroutines t.instr.kind ≡ false → (is_first ≡ true → e ≡ end.Suspends → ⊥)
      → edges_from is_first (term_of e f k t) ≡ map (place f) (end_leads e k t.targets)
  end_edges end.Stays is_first k t kept first =
      all_edges (row_of t.instr.kind).targets is_first (blocks_of (map (moved f) t.targets)) (not_suspending t.instr.kind kept) ∙ moved_blocks f t.targets
  end_edges end.Waits is_first k t kept first = refl
  end_edges end.Suspends true k t kept first = absurd (first refl refl)
  end_edges end.Suspends false k t kept first = refl
  end_edges end.Gives is_first k t kept first = refl
  end_edges end.Fails is_first k t kept first = refl

  plain_never : (b : Block) → f.coroutine ≡ false → end_of f b ≡ end.Suspends → ⊥
  plain_never b plain is = by b.term.instr.kind (sym (plain_is f b plain) ∙ is)
    where
      by : (kind : LowKind) → plain_end kind ≡ end.Suspends → ⊥
      by Await e = cc
      by Launch e = cc
      by (Row kind) e = cc

  body_edges : (is_first : Bool) (k : ℕ) (o : Option Block) → slice_get f.blocks k ≡ o → (is_first ≡ true → f.coroutine ≡ false) → edges_from is_first (body f k o).term ≡ map (place f) (body_leads f k o)
  body_edges is_first k None at first = refl
  body_edges is_first k (Some b) at first =
      end_edges (end_of f b) is_first k b.term (none_holds b (every_at holds_none f.blocks k b none at)) (λ is suspends. plain_never b (first is) suspends)

  next_edges : (is_first : Bool) (k : ℕ) (o : Option Block) → edges_from is_first (next f k o).term ≡ map (place f) (next_leads o)
  next_edges is_first k None = refl
  next_edges is_first k (Some b) = refl

  label_edges : (is_first : Bool) (l : Label) → (l ≡ Entry → ⊥) → (is_first ≡ true → f.coroutine ≡ false) → edges_from is_first (label_block f l).term ≡ map (place f) (leads f l)
  label_edges is_first Entry other first = absurd (other refl)
  label_edges is_first (Body k) other first = body_edges is_first k (slice_get f.blocks k) refl first
  label_edges is_first (Next k) other first = next_edges is_first k (slice_get f.blocks k)
  label_edges is_first SetsError other first = refl
  label_edges is_first Cleanup other first = refl
  label_edges is_first Suspended other first = refl

  abbrev pub led : Label → List ℕ
  led l = map (place f) (leads f l)

  edges_all : (is_first : Bool) (ls : List Label) → ((l : Label) → Among l ls → l ≡ Entry → ⊥) → (is_first ≡ true → f.coroutine ≡ false) → edges_in is_first (map (label_block f) ls) ≡ map led ls
  edges_all is_first [] other first = refl
  edges_all is_first (l ∷ ls) other first =
      ap (λ es. es ∷ edges_in false (map (label_block f) ls)) (label_edges is_first l (other l (0, refl)) first)
      ∙ ap (λ lists. led l ∷ lists) (edges_all false ls (λ m a. other m (suc a.0, a.1)) (λ is. cc))

  staying_apart : (l : Label) → Among l (staying f) → l ≡ Entry → ⊥
  staying_apart l a same = entry_apart f (subst (λ m. Among m (behind_entry f)) same (among_left (staying f) (errors_for (failures f) ++ (Cleanup ∷ Suspended ∷ failures f)) l a))

  -- the edges of the code that is made, label by label
  pub new_edges : edges (lowered f) ≡ map led (layout f)
  new_edges = by f.coroutine refl
    where
      by : (c : Bool) → f.coroutine ≡ c → edges_in true (map (label_block f) (layout f)) ≡ map led (layout f)
      by true task =
          ap (λ ls. edges_in true (map (label_block f) ls)) (task_layout f task)
          ∙ ap (λ lists. led Entry ∷ lists) (edges_all false (behind_entry f) (λ l a same. entry_apart f (subst (λ m. Among m (behind_entry f)) same a)) (λ is. cc))
          ∙ ap (map led) (sym (task_layout f task))
      by false plain =
          ap (λ ls. edges_in true (map (label_block f) ls)) (plain_layout f plain)
          ∙ edges_all true (staying f) staying_apart (λ is. plain)
          ∙ ap (map led) (sym (plain_layout f plain))

  -- an edge of the code that is made
  pub record Lead (i a c : ℕ) : Type 0 where
    pub source : Label
    pub target : Label
    pub from : slice_get (layout f) i ≡ Some source
    pub at : slice_get (leads f source) a ≡ Some target
    pub place : place f target ≡ c

  list_of : {A : Type 0} → (h : A → List ℕ) (xs : List A) (i a c : ℕ) → slice_get (list_at (map h xs) i) a ≡ Some c → (x : A) × (slice_get xs i ≡ Some x) × (slice_get (h x) a ≡ Some c)
  list_of h [] i a c at = cc
  list_of h (x ∷ xs) zero a c at = (x, refl, at)
  list_of h (x ∷ xs) (suc i) a c at = list_of h xs i a c at

  pub lead_of : (i a c : ℕ) → EdgeAt (edges (lowered f)) i a c → Lead i a c
  lead_of i a c at =
      let r = list_of led (layout f) i a c (subst (λ es. EdgeAt es i a c) new_edges at) in
      let m = mapped_back (place f) (leads f r.0) a c r.2 in
      record { source = r.0; target = m.0; from = r.1; at = m.1; place = m.2 }
