-- What the blocks that the pass makes assign, and what is given where they begin.
use Rattle.std.proofs.Common.{◌≡◌, inl, inr, ℕ, zero, suc, ◌<◌, ◌==◌, Bool, true, false, List, [], ◌∷◌, ◌++◌, map, length, Option, Some, None, refl, sym, ap, ◌∙◌, subst, arith}
use Rattle.std.specs.Prelude.{slice_get}
use Rattle.std.proofs.lemmas.Bool.Decides.{eqb_tells}
use Rattle.std.proofs.lemmas.List.{append-nil, append_assoc}
use Rattle.low_flow.specs.Lists.{has, list_at}
use Rattle.low_flow.specs.Paths.{IsEdge, IsPath, last_of, assigned_on}
use Rattle.low_flow.proofs.Membership.{or_left, or_right, or_splits}
use Rattle.low_forms.specs.declared.code.Reg.{Reg}
use Rattle.low_forms.specs.declared.code.Instr.{Instr}
use Rattle.low_forms.specs.declared.code.Term.{Term}
use Rattle.low_forms.specs.declared.code.Block.{Block}
use Rattle.low_forms.specs.declared.code.LowFunc.{LowFunc}
use Rattle.low_forms.specs.declared.code.LowModule.{LowModule}
use Rattle.low_forms.specs.Numbers.{starts_bare}
use Rattle.low_forms.specs.Edges.{blocks_of, edges_in, edges}
use Rattle.low_forms.specs.Assigned.{numbers, assigned_by, block_assigns, assigns, args_of, used_at_end}
use Rattle.low_forms.specs.WellFormed.{IsWellFormed}
use Rattle.low_forms.proofs.Words.{mapped_at}
use Rattle.coro_lower.specs.declared.label.Label.{Label}
use Rattle.coro_lower.specs.declared.label.Label.TheVariants.{Entry, Next, Body, SetsError, Cleanup, Suspended}
use Rattle.coro_lower.specs.declared.label.End.{End}
use Rattle.coro_lower.specs.declared.label.End.TheVariants as end
use Rattle.coro_lower.specs.Layout.{end_of, awaiting}
use Rattle.coro_lower.specs.Rows.{called}
use Rattle.coro_lower.specs.Shape.{before_end, loads, params_left, instrs_of, body, label_block}
use Rattle.register_laws.specs.Laws.{used_by}
use Rattle.register_laws.proofs.Lists.{Sub, sub_left, sub_right, sub_both, sub_then, sub_front, sub_back, sub_append, sub_same}
use Rattle.register_laws.proofs.Good.{Good, good_more, good_end, Before, given_where}
use Rattle.coro_laws.specs.Half.{is_emptied, IsHalfLowered}
use Rattle.coro_laws.proofs.Leading.{leads}
use Rattle.coro_laws.proofs.Awaiting.{AwaitsAt, edges_at, edge_inside, awaiting_from, one_go, go_edge}
use Rattle.coro_laws.proofs.Edging.{none_start}

-- ---- lists

pub sub_nothing : (xs : List ℕ) → Sub [] xs
sub_nothing xs r is = cc

pub sub_self : (xs : List ℕ) → Sub xs xs
sub_self xs r is = is

pub assigned_append : (xs ys : List Instr) → assigned_by (xs ++ ys) ≡ assigned_by xs ++ assigned_by ys
assigned_append [] ys = refl
assigned_append (i ∷ xs) ys = ap (λ ns. numbers i.results ++ ns) (assigned_append xs ys) ∙ sym (append_assoc (numbers i.results) (assigned_by xs) (assigned_by ys))

pub assigned_called : (xs : List Instr) → assigned_by (map called xs) ≡ assigned_by xs
assigned_called [] = refl
assigned_called (i ∷ xs) = ap (λ ns. numbers i.results ++ ns) (assigned_called xs)

-- where its operands are all given before
pub good_front : (given : List ℕ) (xs ys : List Instr) (t : Term) → Sub (used_by xs) given → Good (given ++ assigned_by xs) ys t → Good given (xs ++ ys) t
good_front given [] ys t used good = good_more (given ++ []) given ys t (sub_same (given ++ []) given (append-nil given)) good
good_front given (i ∷ xs) ys t used good = (
  sub_front (numbers i.operands) (used_by xs) given used,
  good_front (given ++ numbers i.results) xs ys t
      (sub_then (used_by xs) given (given ++ numbers i.results) (sub_back (numbers i.operands) (used_by xs) given used) (sub_left given (numbers i.results)))
      (good_more (given ++ (numbers i.results ++ assigned_by xs)) ((given ++ numbers i.results) ++ assigned_by xs) ys t
      (sub_same (given ++ (numbers i.results ++ assigned_by xs)) ((given ++ numbers i.results) ++ assigned_by xs) (sym (append_assoc given (numbers i.results) (assigned_by xs)))) good),
)

-- instructions that are kept need what they needed
pub good_called : (given more : List ℕ) (xs ys : List Instr) (t u : Term) → Sub given more → Good given xs t
    → (Sub (used_at_end t) (more ++ assigned_by xs) → Good (more ++ assigned_by xs) ys u) → Good more (map called xs ++ ys) u
good_called given more [] ys t u sub good then =
    good_more (more ++ []) more ys u (sub_same (more ++ []) more (append-nil more)) (then (sub_then (used_at_end t) given (more ++ []) good (sub_then given more (more ++ []) sub (sub_left more []))))
good_called given more (i ∷ xs) ys t u sub good then =
    let same : (more ++ numbers i.results) ++ assigned_by xs ≡ more ++ (numbers i.results ++ assigned_by xs) = append_assoc more (numbers i.results) (assigned_by xs) in (
      sub_then (numbers i.operands) given more good.0 sub,
      good_called (given ++ numbers i.results) (more ++ numbers i.results) xs ys t u (sub_append given (numbers i.results) more (numbers i.results) sub (sub_self (numbers i.results))) good.1
          (λ end. good_more (more ++ (numbers i.results ++ assigned_by xs)) ((more ++ numbers i.results) ++ assigned_by xs) ys u (sub_same (more ++ (numbers i.results ++ assigned_by xs)) ((more ++ numbers i.results) ++ assigned_by xs) (sym same))
          (then (sub_then (used_at_end t) ((more ++ numbers i.results) ++ assigned_by xs) (more ++ (numbers i.results ++ assigned_by xs)) end (sub_same ((more ++ numbers i.results) ++ assigned_by xs) (more ++ (numbers i.results ++ assigned_by xs)) same)))),
    )

pub has_at : (xs : List ℕ) (a c : ℕ) → slice_get xs a ≡ Some c → has c xs ≡ true
has_at [] a c at = cc
has_at (x ∷ xs) zero c at = (let same : x ≡ c = cc in or_left (c == x) (has c xs) (elim (eqb_tells c x) [ inl s ↦ s.0 | inr o ↦ absurd (o.1 (sym same)) ]))
has_at (x ∷ xs) (suc a) c at = or_right (c == x) (has c xs) (has_at xs a c at)

pub at_has : (xs : List ℕ) (c : ℕ) → has c xs ≡ true → (a : ℕ) × (slice_get xs a ≡ Some c)
at_has [] c is = cc
at_has (x ∷ xs) c is = elim (eqb_tells c x) [
  | inl same ↦ (0, ap (λ (n : ℕ). Some n) (sym same.1))
  | inr other ↦ elim (or_splits (c == x) (has c xs) is) [
    | inl here ↦ (let no : (c == x) ≡ false = other.0 in cc)
    | inr later ↦ (let r : (a : ℕ) × (slice_get xs a ≡ Some c) = at_has xs c later in (suc r.0, r.1))
  ]
]

-- ---- a path and one edge more

path_more : (es : List (List ℕ)) (s : ℕ) (path : List ℕ) (j : ℕ) → IsPath es s path → IsEdge es (last_of s path) j → IsPath es s (path ++ j ∷ [])
path_more es s [] j follows edge = (edge, tt)
path_more es s (c ∷ path) j follows edge = (follows.0, path_more es c path j follows.1 edge)

last_more : (s : ℕ) (path : List ℕ) (j : ℕ) → last_of s (path ++ j ∷ []) ≡ j
last_more s [] j = refl
last_more s (c ∷ path) j = last_more c path j

on_more : (gs : List (List ℕ)) (s : ℕ) (path : List ℕ) (j : ℕ) → assigned_on gs s (path ++ j ∷ []) ≡ assigned_on gs s path ++ list_at gs (last_of s path)
on_more gs s [] j = append-nil (list_at gs s)
on_more gs s (c ∷ path) j = ap (λ ns. list_at gs s ++ ns) (on_more gs c path j) ∙ sym (append_assoc (list_at gs s) (assigned_on gs c path) (list_at gs (last_of c path)))

edges_long : (is_first : Bool) (blocks : List Block) → length (edges_in is_first blocks) ≡ length blocks
edges_long is_first [] = refl
edges_long is_first (b ∷ blocks) = ap suc (edges_long false blocks)

-- ---- what a block keeps of what it assigned

pub params_kept : (f : LowFunc) (o : Option ℕ) (params : List Reg) → Sub (numbers params) (numbers (params_left o params) ++ assigned_by (loads f o params))
params_kept f None params = sub_left (numbers params) []
params_kept f (Some w) [] = sub_nothing []
params_kept f (Some w) (r ∷ rs) = sub_left (numbers (r ∷ rs)) []

instrs_kept : (e : End) (f : LowFunc) (k : ℕ) (b : Block) → is_emptied e ≡ false → (rest : List Instr) × (instrs_of e f k b ≡ loads f (awaiting f k) b.params ++ map called b.instrs ++ rest)
instrs_kept end.Fails f k b is = cc
instrs_kept end.Stays f k b is = ([], refl)
instrs_kept end.Waits f k b is = (before_end end.Waits f k b.term.instr.operands, refl)
instrs_kept end.Suspends f k b is = (before_end end.Suspends f k b.term.instr.operands, refl)
instrs_kept end.Gives f k b is = (before_end end.Gives f k b.term.instr.operands, refl)

pub block_kept : (e : End) (f : LowFunc) (k : ℕ) (b : Block) → is_emptied e ≡ false → Sub (block_assigns b) (numbers (params_left (awaiting f k) b.params) ++ assigned_by (instrs_of e f k b))
block_kept e f k b is =
    let L : List Instr = loads f (awaiting f k) b.params in
    let P : List ℕ = numbers (params_left (awaiting f k) b.params) in
    let r = instrs_kept e f k b is in
    let all : assigned_by (instrs_of e f k b) ≡ (assigned_by L ++ assigned_by b.instrs) ++ assigned_by r.0 =
    ap assigned_by r.1 ∙ assigned_append (L ++ map called b.instrs) r.0 ∙ ap (λ ns. ns ++ assigned_by r.0) (assigned_append L (map called b.instrs) ∙ ap (λ ns. assigned_by L ++ ns) (assigned_called b.instrs)) in
    let inner : Sub (assigned_by L ++ assigned_by b.instrs) (assigned_by (instrs_of e f k b)) =
    sub_then (assigned_by L ++ assigned_by b.instrs) ((assigned_by L ++ assigned_by b.instrs) ++ assigned_by r.0) (assigned_by (instrs_of e f k b)) (sub_left (assigned_by L ++ assigned_by b.instrs) (assigned_by r.0)) (sub_same ((assigned_by L ++ assigned_by b.instrs) ++ assigned_by r.0) (assigned_by (instrs_of e f k b)) (sym all)) in
    sub_both (numbers b.params) (assigned_by b.instrs) (P ++ assigned_by (instrs_of e f k b))
    (sub_then (numbers b.params) (P ++ assigned_by L) (P ++ assigned_by (instrs_of e f k b)) (params_kept f (awaiting f k) b.params)
    (sub_append P (assigned_by L) P (assigned_by (instrs_of e f k b)) (sub_self P) (sub_front (assigned_by L) (assigned_by b.instrs) (assigned_by (instrs_of e f k b)) inner)))
    (sub_then (assigned_by b.instrs) (assigned_by (instrs_of e f k b)) (P ++ assigned_by (instrs_of e f k b)) (sub_back (assigned_by L) (assigned_by b.instrs) (assigned_by (instrs_of e f k b)) inner) (sub_right P (assigned_by (instrs_of e f k b))))

pub some_blocks : (blocks : List Block) → starts_bare blocks ≡ true → 0 < length blocks
some_blocks [] is = cc
some_blocks (b ∷ blocks) is = omega arith

-- ---- what is given where a label's block begins

module _ (code : LowModule) (f : LowFunc) (well : IsWellFormed code f) (half : IsHalfLowered f) where
  abbrev pub defs : Label → List ℕ
  defs l = block_assigns (label_block f l)

  abbrev pub P : List ℕ
  P = numbers f.params

  abbrev pub O : List ℕ → List ℕ
  O path = assigned_on (assigns f) 0 path

  abbrev pub Base : List ℕ → Type 0
  Base acc = f.coroutine ≡ true → Sub (defs Entry) acc

  pub record BodyHolds (k : ℕ) (acc : List ℕ) : Type 0 where
    pub path : List ℕ
    pub follows : IsPath (edges f) 0 path
    pub last : last_of 0 path ≡ k
    pub given : Sub (P ++ O path) acc
    pub base : Base acc
    pub loaded : (w : ℕ) (x : Block) → awaiting f k ≡ Some w → slice_get f.blocks w ≡ Some x → Sub (numbers x.term.instr.operands) acc

  -- behind the code of a block
  pub record Out (k : ℕ) (acc : List ℕ) : Type 0 where
    pub block : Block
    pub at : slice_get f.blocks k ≡ Some block
    pub path : List ℕ
    pub follows : IsPath (edges f) 0 path
    pub last : last_of 0 path ≡ k
    pub given : Sub ((P ++ O path) ++ block_assigns block) acc
    pub base : Base acc

  abbrev pub Holds : Label → List ℕ → Type 0
  Holds Entry acc = Sub P acc
  Holds (Body k) acc = BodyHolds k acc
  Holds (Next k) acc = Out k acc
  Holds SetsError acc = Sub (defs Entry) acc
  Holds Cleanup acc = Sub (defs Entry) acc
  Holds Suspended acc = Sub (defs Entry) acc

  pub out_more : (k : ℕ) (acc more : List ℕ) → Out k acc → Out k (acc ++ more)
  out_more k acc more o = record {
    block = o.block;
    at = o.at;
    path = o.path;
    follows = o.follows;
    last = o.last;
    given = sub_then ((P ++ O o.path) ++ block_assigns o.block) acc (acc ++ more) o.given (sub_left acc more);
    base = λ task. sub_then (defs Entry) acc (acc ++ more) (o.base task) (sub_left acc more);
  }

  pub good_at_block : (k : ℕ) (b : Block) (path : List ℕ) → slice_get f.blocks k ≡ Some b → IsPath (edges f) 0 path → last_of 0 path ≡ k → Good ((P ++ O path) ++ numbers b.params) b.instrs b.term
  good_at_block k b path at follows last =
      good_more (Before code f path b) ((P ++ O path) ++ numbers b.params) b.instrs b.term (sub_same (Before code f path b) ((P ++ O path) ++ numbers b.params) (sym (append_assoc P (O path) (numbers b.params))))
      (given_where code f well.within well.assigned path b follows (ap (slice_get f.blocks) last ∙ at))

  -- what the end of a block uses is given there
  pub end_given : (k : ℕ) (acc : List ℕ) (o : Out k acc) → Sub (used_at_end o.block.term) acc
  end_given k acc o =
      sub_then (used_at_end o.block.term) (((P ++ O o.path) ++ numbers o.block.params) ++ assigned_by o.block.instrs) acc
      (good_end ((P ++ O o.path) ++ numbers o.block.params) o.block.instrs o.block.term (good_at_block k o.block o.path o.at o.follows o.last))
      (sub_then (((P ++ O o.path) ++ numbers o.block.params) ++ assigned_by o.block.instrs) ((P ++ O o.path) ++ block_assigns o.block) acc
      (sub_same (((P ++ O o.path) ++ numbers o.block.params) ++ assigned_by o.block.instrs) ((P ++ O o.path) ++ block_assigns o.block) (append_assoc (P ++ O o.path) (numbers o.block.params) (assigned_by o.block.instrs))) o.given)

  -- along an edge of half-lowered code
  pub enter : (k p j : ℕ) (acc : List ℕ) (o : Out k acc) → slice_get (blocks_of o.block.term.targets) p ≡ Some j → BodyHolds j acc
  enter k p j acc o leads =
      let inside : j < length f.blocks = edge_inside code f well half k o.block o.at p j leads in
      let listed : list_at (edges f) (last_of 0 o.path) ≡ blocks_of o.block.term.targets = ap (list_at (edges f)) o.last ∙ edges_at code f well half k o.block o.at in
      let there : has j (list_at (edges f) (last_of 0 o.path)) ≡ true = ap (has j) listed ∙ has_at (blocks_of o.block.term.targets) p j leads in
      let gives_all : list_at (assigns f) (last_of 0 o.path) ≡ block_assigns o.block = ap (list_at (assigns f)) o.last ∙ mapped_at block_assigns f.blocks k o.block o.at in
      let on : P ++ O (o.path ++ j ∷ []) ≡ (P ++ O o.path) ++ block_assigns o.block = ap (λ ns. P ++ ns) (on_more (assigns f) 0 o.path j ∙ ap (λ ns. O o.path ++ ns) gives_all) ∙ sym (append_assoc P (O o.path) (block_assigns o.block)) in
      record {
        path = o.path ++ j ∷ [];
        follows = path_more (edges f) 0 o.path j o.follows (there, (let same : length (edges f) ≡ length f.blocks = edges_long true f.blocks in omega (arith, inside, same)));
        last = last_more 0 o.path j;
        given = sub_then (P ++ O (o.path ++ j ∷ [])) ((P ++ O o.path) ++ block_assigns o.block) acc (sub_same (P ++ O (o.path ++ j ∷ [])) ((P ++ O o.path) ++ block_assigns o.block) on) o.given;
        base = o.base;
        loaded = λ w x waits here.
            (let a : AwaitsAt f w j = awaiting_from code f well half j w inside waits in
            let edge : slice_get (list_at (edges f) k) p ≡ Some j = ap (λ es. slice_get es p) (edges_at code f well half k o.block o.at) ∙ leads in
            let same : w ≡ k = (one_go code f well half w j a w 0 k p (go_edge code f well half w j a) edge).0 in
            let both : Some x ≡ Some o.block = sym here ∙ ap (slice_get f.blocks) same ∙ o.at in
            let block : x ≡ o.block = cc in
            subst (λ (y : Block). Sub (numbers y.term.instr.operands) acc) (sym block)
            (sub_front (numbers o.block.term.instr.operands) (args_of o.block.term.targets) acc (end_given k acc o)));
      }

  -- ---- along the edges of the code that is made

  pub start_holds : (acc : List ℕ) → Sub P acc → Base acc → BodyHolds 0 acc
  start_holds acc given base = record {
    path = [];
    follows = tt;
    last = refl;
    given = sub_both P [] acc given (sub_nothing acc);
    base = base;
    loaded = λ w x waits here. absurd (no_start w waits);
  }
    where
      no_start : (w : ℕ) → awaiting f 0 ≡ Some w → ⊥
      no_start w waits =
          let a : AwaitsAt f w 0 = awaiting_from code f well half 0 w (some_blocks f.blocks well.start) waits in
          none_start code f well half w 0 (go_edge code f well half w 0 a)

  pub stays_out : (k : ℕ) (b : Block) (acc : List ℕ) → slice_get f.blocks k ≡ Some b → is_emptied (end_of f b) ≡ false → BodyHolds k acc → Out k (acc ++ block_assigns (body f k (Some b)))
  stays_out k b acc at kept h =
      let made : List ℕ = block_assigns (body f k (Some b)) in
      record {
        block = b;
        at = at;
        path = h.path;
        follows = h.follows;
        last = h.last;
        given = sub_append (P ++ O h.path) (block_assigns b) acc made h.given (block_kept (end_of f b) f k b kept);
        base = λ task. sub_then (defs Entry) acc (acc ++ made) (h.base task) (sub_left acc made);
      }
