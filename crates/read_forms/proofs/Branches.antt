-- The rules of a conditional.
use Rattle.std.proofs.Common.{◌≡◌, inl, ℕ, ◌+◌, List, [], ◌∷◌, ◌++◌, length, map, refl, sym, ap, ◌∙◌, subst, arith}
use Rattle.std.proofs.lemmas.List.{append-nil}
use Rattle.op_table.specs.declared.kind.OpKind.{OpKind}
use Rattle.op_table.specs.declared.kind.OpKind.TheVariants as op
use Rattle.op_table.specs.declared.rows.Level.{Level}
use Rattle.ir_forms.specs.declared.ops.Region.{Region}
use Rattle.ir_forms.specs.declared.types.Ty.{Ty}
use Rattle.module_grammar.specs.declared.symbols.Keyword.TheVariants as key
use Rattle.module_grammar.specs.declared.symbols.Rule.TheVariants as rule
use Rattle.module_grammar.specs.declared.symbols.Act.TheVariants as act
use Rattle.module_grammar.specs.declared.state.Name.{Name}
use Rattle.module_grammar.specs.declared.state.Param.{Param}
use Rattle.module_grammar.specs.declared.state.State.{State}
use Rattle.module_grammar.specs.State.{does, param_value, with_else}
use Rattle.module_grammar.specs.Rules.{part, doing, word, region, close_paren}
use Rattle.mlir_print.specs.Printable.{AreWritten, Scope, defining, param_types}
use Rattle.read_forms.proofs.Triples.{Owes, Reached}
use Rattle.read_forms.proofs.Shows.{Piece, Shows, region-types}
use Rattle.read_forms.proofs.Outcomes.{AreParams, HasRoom, IsClean, BeforeElse, ElseRead, BeforeBranches, BranchesRead, with_branches, rest_of, scope_at, empty_region, elses, triples}
use Rattle.read_forms.proofs.Words.{Lines, type-then-owes}
use Rattle.read_forms.proofs.Regions.{RegionRead, region_read, with_region, region-owes, rest-owes, region-shows, clean-is}

-- ---- `else`

-- a region without parameters
bare-shows : (level : Level) (k : OpKind) (types : List Ty) (ps : List Param) (visible : List Name) (next i : ℕ)
    (x : RegionRead level k types ps visible next) (rs : List Region) (end : Scope) → ps ≡ []
    → Shows level (Piece.Regions k types (i + 1) rs) (scope_at x.end visible) end
    → Shows level (Piece.Regions k types i (region_read x ∷ rs)) (scope_at next visible) end
bare-shows level k types ps visible next i x rs end e more =
    region-shows level k types ps visible next next [] i x rs end (subst (λ (l : List Param). AreParams next l []) (sym e) refl)
    (omega (arith, ap (λ (l : List Param). length l) e)) more

bare-types : (level : Level) (k : OpKind) (types : List Ty) (ps : List Param) (visible : List Name) (next : ℕ)
    (x : RegionRead level k types ps visible next) → ps ≡ [] → param_types (region_read x) ≡ []
bare-types level k types ps visible next x e =
    region-types (record { params = map param_value ps; ops = x.ops }) ∙ ap (λ (l : List Param). map (λ p. p.1) (map param_value l)) e

else-read : (level : Level) (s : State) → BeforeElse s → RegionRead level s.op.kind s.op.types s.op.params s.visible s.next → ElseRead level s.visible s.next
else-read level s h x = record {
  regions = region_read x ∷ [];
  end = scope_at x.end s.visible;
  shows = subst (λ (k : OpKind). Shows level (Piece.Regions k [] 1 (region_read x ∷ [])) (scope_at s.next s.visible) (scope_at x.end s.visible)) h.kind
      (subst (λ (l : List Ty). Shows level (Piece.Regions s.op.kind l 1 (region_read x ∷ [])) (scope_at s.next s.visible) (scope_at x.end s.visible)) h.types
      (bare-shows level s.op.kind s.op.types s.op.params s.visible s.next 1 x [] (scope_at x.end s.visible) h.params (Shows.no_regions s.op.kind s.op.types 2 _)));
  no_params = ap (λ (l : List Ty). l ∷ []) (bare-types level s.op.kind s.op.types s.op.params s.visible s.next x h.params);
  rest = x.rest;
  room = x.room;
}

pub else-lines : (level : Level) (s : State) → BeforeElse s → Lines level rule.Else s
unfolding else-read
else-lines level s h = (
  λ t b a. region-owes level (record s { last = t }) [] (Reached (triples level) rule.Else s) (record { read = h.clean.read; held = h.clean.held; room = h.clean.room })
      (λ x. (else-read level s h x, refl)),
  tt,
)

none-else : (level : Level) (s : State) → IsClean s → ElseRead level s.visible s.next
none-else level s h = record {
  regions = [];
  end = scope_at s.next s.visible;
  shows = subst (λ (n : ℕ). Shows level (Piece.Regions op.ScfIf [] 1 (empty_region ∷ [])) (scope_at s.next s.visible) (scope_at n s.visible)) zero-more
      (Shows.region op.ScfIf [] 1 (record { params = []; ops = [] }) [] (scope_at s.next s.visible) (defining (scope_at s.next s.visible) []) (scope_at (s.next + 0) s.visible)
      tt (inl refl) (Shows.no_ops (defining (scope_at s.next s.visible) [])) (Shows.no_regions op.ScfIf [] 2 (scope_at (s.next + 0) s.visible)));
  no_params = ap (λ (l : List Ty). l ∷ []) (region-types (record { params = []; ops = [] }));
  rest = rest_of s;
  room = h.room;
}
  where
    zero-more : s.next + 0 ≡ s.next
    zero-more = omega arith

pub no-else : (level : Level) (s : State) → BeforeElse s → Reached (triples level) rule.Else s s
unfolding none-else
no-else level s h = (
  none-else level s h.clean,
  ap (λ (l : List Region). record s { op = record (s.op) { regions = l; params = [] }; read = []; held = [] }) (append-nil s.op.regions)
      ∙ ap (λ (l : List Param). record s { op = record (s.op) { params = l }; read = []; held = [] }) (sym h.params)
      ∙ clean-is s h.clean,
)

-- ---- the branches

abbrev bare_if : State → List Ty → State
bare_if s ts = record s { op = record (s.op) { kind = op.ScfIf; types = ts; params = []; regions = [] }; read = []; held = [] }

abbrev Branched : Level → State → State → Type 0
Branched level s s' = (y : BranchesRead level s.visible s.next) × (with_branches level (bare_if s []) y ≡ s')

with-else-is : (r : Region) (rs : List Region) → r ∷ elses rs ≡ with_else op.ScfIf (r ∷ rs)
with-else-is r [] = refl
with-else-is r (q ∷ rs) = refl

-- a first region, and a second one where there is one
with-second : (level : Level) (s : State) (x : RegionRead level op.ScfIf [] [] s.visible s.next) → ElseRead level s.visible x.end → BranchesRead level s.visible s.next
with-second level s x y = record {
  types = [];
  written = tt;
  regions = region_read x ∷ y.regions;
  end = y.end;
  shows = subst (λ (l : List Region). Shows level (Piece.Regions op.ScfIf [] 0 l) (scope_at s.next s.visible) y.end) (with-else-is (region_read x) y.regions)
      (bare-shows level op.ScfIf [] [] s.visible s.next 0 x (elses y.regions) y.end refl y.shows);
  no_params = ap (map param_types) (sym (with-else-is (region_read x) y.regions))
      ∙ ap (λ (l : List Ty). l ∷ map param_types (elses y.regions)) (bare-types level op.ScfIf [] [] s.visible s.next x refl)
      ∙ ap (λ (l : List (List Ty)). [] ∷ l) y.no_params;
  rest = y.rest;
  room = y.room;
}

second-owes : (level : Level) (s : State) (x : RegionRead level op.ScfIf [] [] s.visible s.next)
    → Owes (triples level) (part rule.Else) (Branched level s) (with_region (bare_if s []) x)
unfolding with-second
second-owes level s x = (
  record { clean = record { read = refl; held = refl; room = x.room }; kind = refl; types = refl; params = refl },
  λ y n. (with-second level s x y, refl),
)

-- both regions
with-both : (level : Level) (s : State) (ts : List Ty) → AreWritten ts → (x : RegionRead level op.ScfIf ts [] s.visible s.next)
    → RegionRead level op.ScfIf ts [] s.visible x.end → BranchesRead level s.visible s.next
with-both level s ts w x y = record {
  types = ts;
  written = w;
  regions = region_read x ∷ region_read y ∷ [];
  end = scope_at y.end s.visible;
  shows = bare-shows level op.ScfIf ts [] s.visible s.next 0 x (region_read y ∷ []) (scope_at y.end s.visible) refl
      (bare-shows level op.ScfIf ts [] s.visible x.end 1 y [] (scope_at y.end s.visible) refl (Shows.no_regions op.ScfIf ts 2 _));
  no_params = ap (λ (l : List Ty). l ∷ map param_types (region_read y ∷ [])) (bare-types level op.ScfIf ts [] s.visible s.next x refl)
      ∙ ap (λ (l : List Ty). [] ∷ l ∷ []) (bare-types level op.ScfIf ts [] s.visible x.end y refl);
  rest = y.rest;
  room = y.room;
}

both-owes : (level : Level) (s : State) (ts : List Ty) → AreWritten ts → HasRoom s
    → Owes (triples level) (region ++ word key.Else ++ region) (Branched level s) (bare_if s ts)
unfolding with-both
both-owes level s ts w h =
    region-owes level (bare_if s ts) (word key.Else ++ region) (Branched level s) (record { read = refl; held = refl; room = h })
    (λ x. λ t b a. region-owes level (record (with_region (bare_if s ts) x) { last = t }) [] (Branched level s) (record { read = refl; held = refl; room = x.room })
    (λ y. (with-both level s ts w x y, refl)))

bare-before : (s : State) → HasRoom s → BeforeBranches (bare_if s [])
bare-before s h = record { clean = record { read = refl; held = refl; room = h }; kind = refl; types = refl; params = refl; regions = refl }

list-of : (level : Level) (s : State) → HasRoom s → Lines level rule.BranchTypeList (bare_if s [])
unfolding does
list-of level s h = (
  λ t b a. region-owes level (record (bare_if s []) { last = t }) (part rule.Else) (Branched level s) (record { read = refl; held = refl; room = h })
      (λ x. second-owes level s x),
  type-then-owes level (bare_if s []) (part rule.MoreTypes ++ close_paren ++ doing act.Results ++ region ++ word key.Else ++ region) (Branched level s)
      (λ x. (tt, λ y n. λ t b a. λ m. both-owes level (record s { last = t }) (x.type ∷ y.types) (x.written, y.written) h)),
)

types-of : (level : Level) (s : State) → HasRoom s → Lines level rule.BranchTypes (bare_if s [])
unfolding does
types-of level s h = (
  λ t b a. (record { clean = record { read = refl; held = refl; room = h }; kind = refl; types = refl; params = refl; regions = refl }, λ y n. (y, refl)),
  type-then-owes level (bare_if s []) (doing act.Results ++ region ++ word key.Else ++ region) (Branched level s)
      (λ x. λ m. both-owes level (record s { last = x.last }) (x.type ∷ []) (x.written, tt) h),
)

branches-of : (level : Level) (s : State) → HasRoom s → Lines level rule.Branches (bare_if s [])
branches-of level s h = (
  λ t b a. (record { clean = record { read = refl; held = refl; room = h }; kind = refl; types = refl; params = refl; regions = refl }, λ y n. (y, refl)),
  (
    λ t b a. rest-owes level (record (bare_if s []) { last = t }) (part rule.Else) (Branched level s) h (λ x. second-owes level s x),
    tt,
  ),
)

bare-is : (s : State) → BeforeBranches s → bare_if s [] ≡ s
bare-is s h =
    ap (λ (k : OpKind). record s { op = record (s.op) { kind = k; types = []; params = []; regions = [] }; read = []; held = [] }) (sym h.kind)
    ∙ ap (λ (l : List Ty). record s { op = record (s.op) { types = l; params = []; regions = [] }; read = []; held = [] }) (sym h.types)
    ∙ ap (λ (l : List Param). record s { op = record (s.op) { params = l; regions = [] }; read = []; held = [] }) (sym h.params)
    ∙ ap (λ (l : List Region). record s { op = record (s.op) { regions = l }; read = []; held = [] }) (sym h.regions)
    ∙ clean-is s h.clean

pub branches-lines : (level : Level) (s : State) → BeforeBranches s → Lines level rule.Branches s
branches-lines level s h = subst (λ (z : State). Lines level rule.Branches z) (bare-is s h) (branches-of level s h.clean.room)

pub branch-types-lines : (level : Level) (s : State) → BeforeBranches s → Lines level rule.BranchTypes s
branch-types-lines level s h = subst (λ (z : State). Lines level rule.BranchTypes z) (bare-is s h) (types-of level s h.clean.room)

pub branch-type-list-lines : (level : Level) (s : State) → BeforeBranches s → Lines level rule.BranchTypeList s
branch-type-list-lines level s h = subst (λ (z : State). Lines level rule.BranchTypeList z) (bare-is s h) (list-of level s h.clean.room)
