-- A register that no path to a place has assigned isn't live there.
use Rattle.std.proofs.Common.{◌≡◌, inl, inr, ℕ, zero, suc, ◌<◌, true, false, List, [], ◌∷◌, ◌++◌, length, Option, Some, refl, sym, ap, ◌∙◌, arith, subst}
use Rattle.std.specs.Prelude.{slice_get}
use Rattle.std.proofs.lemmas.Bool.Decides.{eqb_tells}
use Rattle.low_flow.specs.Lists.{has, list_at}
use Rattle.low_flow.specs.Paths.{IsEdge, assigned_on}
use Rattle.low_flow.specs.Paths as paths
use Rattle.low_forms.specs.declared.code.Instr.{Instr}
use Rattle.low_forms.specs.declared.code.Block.{Block}
use Rattle.low_forms.specs.declared.code.LowFunc.{LowFunc}
use Rattle.low_forms.specs.Assigned.{numbers, assigned_by, assigned_before, assigns, UsesAssigned}
use Rattle.low_forms.specs.Edges.{edges}
use Rattle.liveness.specs.Live.{Place, instrs_of, instrs_in, uses_of, uses, results_of, defines_of, defines, inside, along, IsPath, last_of, defined_on, IsLive}
use Rattle.liveness.proofs.ListLemmas.{is_either, or_none, neither, has_append}
use Rattle.liveness.proofs.LiveLemmas.{length_edges, get_within}
use Rattle.live_truths.specs.Truths.{is_live}
use Rattle.live_truths.proofs.TruthLemmas.{exact}
use Rattle.uncounted_laws.proofs.Once.{assigns_at}

-- ---- paths of blocks, and one edge more

path_more : (es : List (List ℕ)) (s : ℕ) (path : List ℕ) (d : ℕ) → paths.IsPath es s path → IsEdge es (paths.last_of s path) d → paths.IsPath es s (path ++ d ∷ [])
path_more es s [] d follows edge = (edge, tt)
path_more es s (c ∷ path) d follows edge = (follows.0, path_more es c path d follows.1 edge)

last_more : (s : ℕ) (path : List ℕ) (d : ℕ) → paths.last_of s (path ++ d ∷ []) ≡ d
last_more s [] d = refl
last_more s (c ∷ path) d = last_more c path d

on_more : (gs : List (List ℕ)) (r s : ℕ) (path : List ℕ) (d : ℕ) → has r (assigned_on gs s path) ≡ false → has r (list_at gs (paths.last_of s path)) ≡ false → has r (assigned_on gs s (path ++ d ∷ [])) ≡ false
on_more gs r s [] d none last = has_append r (list_at gs s) [] ∙ neither (has r (list_at gs s)) false last refl
on_more gs r s (c ∷ path) d none last =
    let parts = or_none (has r (list_at gs s)) (has r (assigned_on gs c path)) (sym (has_append r (list_at gs s) (assigned_on gs c path)) ∙ none) in
    has_append r (list_at gs s) (assigned_on gs c (path ++ d ∷ []))
    ∙ neither (has r (list_at gs s)) (has r (assigned_on gs c (path ++ d ∷ []))) parts.0 (on_more gs r c path d parts.1 last)

-- ---- in a block

before_start : (instrs : List Instr) → assigned_before instrs 0 ≡ []
before_start [] = refl
before_start (i ∷ instrs) = refl

before_next : (r : ℕ) (instrs : List Instr) (k : ℕ) → has r (assigned_before instrs k) ≡ false → has r (results_of instrs k) ≡ false → has r (assigned_before instrs (suc k)) ≡ false
before_next r [] k none also = refl
before_next r (i ∷ instrs) zero none also =
    has_append r (numbers i.results) (assigned_before instrs 0)
    ∙ neither (has r (numbers i.results)) (has r (assigned_before instrs 0)) also (ap (λ (xs : List ℕ). has r xs) (before_start instrs))
before_next r (i ∷ instrs) (suc k) none also =
    let parts = or_none (has r (numbers i.results)) (has r (assigned_before instrs k)) (sym (has_append r (numbers i.results) (assigned_before instrs k)) ∙ none) in
    has_append r (numbers i.results) (assigned_before instrs (suc k))
    ∙ neither (has r (numbers i.results)) (has r (assigned_before instrs (suc k))) parts.0 (before_next r instrs k parts.1 also)

before_end : (instrs : List Instr) → assigned_before instrs (length instrs) ≡ assigned_by instrs
before_end [] = refl
before_end (i ∷ instrs) = ap (λ (xs : List ℕ). numbers i.results ++ xs) (before_end instrs)

abbrev place : ℕ → ℕ → Place
place c k = record { block = c; row = k }

module _ (f : LowFunc) (r : ℕ) where
  -- nothing assigns the register on a path to a place of a block
  pub record IsUnassigned (path : List ℕ) (c k : ℕ) (b : Block) : Type 0 where
    pub follows : paths.IsPath (edges f) 0 path
    pub ends : paths.last_of 0 path ≡ c
    pub at : slice_get f.blocks c ≡ Some b
    pub on : has r (assigned_on (assigns f) 0 path) ≡ false
    pub params : has r (numbers b.params) ≡ false
    pub before : has r (assigned_before b.instrs k) ≡ false

module _ (f : LowFunc) (assigned : UsesAssigned f) (r : ℕ) (known : r < length f.regs) (no_param : has r (numbers f.params) ≡ false) where
  used_never : (path : List ℕ) (c k : ℕ) (b : Block) → IsUnassigned f r path c k b → has r (uses f (place c k)) ≡ true → ⊥
  used_never path c k b u used =
      let at_end : slice_get f.blocks (paths.last_of 0 path) ≡ Some b = ap (λ n. slice_get f.blocks n) u.ends ∙ u.at in
      let is = assigned path b k r u.follows at_end known (sym (ap (λ (o : Option Block). has r (uses_of o k)) u.at) ∙ used) in
      let no : has r (numbers f.params ++ (assigned_on (assigns f) 0 path ++ (numbers b.params ++ assigned_before b.instrs k))) ≡ false =
      has_append r (numbers f.params) (assigned_on (assigns f) 0 path ++ (numbers b.params ++ assigned_before b.instrs k))
      ∙ neither _ _ no_param
      (has_append r (assigned_on (assigns f) 0 path) (numbers b.params ++ assigned_before b.instrs k)
      ∙ neither _ _ u.on (has_append r (numbers b.params) (assigned_before b.instrs k) ∙ neither _ _ u.params u.before)) in
      cc

  never_used : (places : List Place) (path : List ℕ) (c k : ℕ) (b : Block) → IsUnassigned f r path c k b
      → IsPath f (place c k) places → has r (defined_on f places) ≡ false → has r (uses f (last_of (place c k) places)) ≡ true → ⊥
  never_used [] path c k b u follows free used = used_never path c k b u used
  never_used (q ∷ places) path c k b u follows free used =
      let parts : (has r (defines f q) ≡ false) × (has r (defined_on f places) ≡ false) =
      or_none (has r (defines f q)) (has r (defined_on f places)) (sym (has_append r (defines f q) (defined_on f places)) ∙ free) in
      elim follows.0 [
        | inside same next below ↦
            let at_q : slice_get f.blocks q.block ≡ Some b = ap (λ n. slice_get f.blocks n) same ∙ u.at in
            let undefined : has r (results_of b.instrs k) ≡ false =
            sym (ap (λ n. has r (defines_of (slice_get f.blocks q.block) n)) next ∙ ap (λ (o : Option Block). has r (defines_of o (suc k))) at_q) ∙ parts.0 in
            never_used places path q.block q.row b
            (record {
              follows = u.follows;
              ends = u.ends ∙ sym same;
              at = at_q;
              on = u.on;
              params = u.params;
              before = ap (λ n. has r (assigned_before b.instrs n)) next ∙ before_next r b.instrs k u.before undefined;
            })
            follows.1 parts.1 used
        | along end edge first ↦
            let long : length (instrs_in f c) ≡ length b.instrs = ap (λ (o : Option Block). length (instrs_of o)) u.at in
            let a : (a : Block) × (slice_get f.blocks q.block ≡ Some a) = get_within f.blocks q.block (omega (arith, edge.1, length_edges true f.blocks)) in
            let undefined : has r (numbers a.0.params) ≡ false =
            sym (ap (λ n. has r (defines_of (slice_get f.blocks q.block) n)) first ∙ ap (λ (o : Option Block). has r (defines_of o 0)) a.1) ∙ parts.0 in
            let all : has r (assigned_by b.instrs) ≡ false = sym (ap (λ n. has r (assigned_before b.instrs n)) (end ∙ long) ∙ ap (λ (xs : List ℕ). has r xs) (before_end b.instrs)) ∙ u.before in
            let block : has r (list_at (assigns f) c) ≡ false =
            ap (λ (xs : List ℕ). has r xs) (assigns_at f.blocks c b u.at) ∙ has_append r (numbers b.params) (assigned_by b.instrs) ∙ neither _ _ u.params all in
            never_used places (path ++ q.block ∷ []) q.block q.row a.0
            (record {
              follows = path_more (edges f) 0 path q.block u.follows (subst (λ n. IsEdge (edges f) n q.block) (sym u.ends) edge);
              ends = last_more 0 path q.block;
              at = a.1;
              on = on_more (assigns f) r 0 path q.block u.on (ap (λ n. has r (list_at (assigns f) n)) u.ends ∙ block);
              params = undefined;
              before = ap (λ n. has r (assigned_before a.0.instrs n)) first ∙ ap (λ (xs : List ℕ). has r xs) (before_start a.0.instrs);
            })
            follows.1 parts.1 used
      ]

  pub dead : (path : List ℕ) (c k : ℕ) (b : Block) → IsUnassigned f r path c k b → is_live f c k r ≡ false
  dead path c k b u = elim (is_either (is_live f c k r)) [
    | inl is ↦ (let l : IsLive f r (place c k) = (exact f c k r known).0 is in absurd (never_used l.path path c k b u l.follows l.undefined l.used))
    | inr not ↦ not
  ]

-- ---- where a path comes to a block for the first time

abbrev pub Avoids : ℕ → ℕ → List ℕ → Type 0
Avoids c s [] = s ≡ c → ⊥
Avoids c s (d ∷ path) = (s ≡ c → ⊥) × Avoids c d path

pub record Arrives (es : List (List ℕ)) (s c : ℕ) : Type 0 where
  pub path : List ℕ
  pub follows : paths.IsPath es s path
  pub avoids : Avoids c s path
  pub edge : IsEdge es (paths.last_of s path) c

pub arrives : (es : List (List ℕ)) (c s : ℕ) (path : List ℕ) → (s ≡ c → ⊥) → paths.IsPath es s path → paths.last_of s path ≡ c → Arrives es s c
arrives es c s [] other follows ends = absurd (other ends)
arrives es c s (d ∷ path) other follows ends = elim (eqb_tells d c) [
  | inl same ↦ record { path = []; follows = tt; avoids = other; edge = subst (λ n. IsEdge es s n) same.1 follows.0 }
  | inr apart ↦ (let a : Arrives es d c = arrives es c d path apart.1 follows.1 ends in record { path = d ∷ a.path; follows = (follows.0, a.follows); avoids = (other, a.avoids); edge = a.edge })
]

pub last_avoids : (c s : ℕ) (path : List ℕ) → Avoids c s path → paths.last_of s path ≡ c → ⊥
last_avoids c s [] avoids = avoids
last_avoids c s (d ∷ path) avoids = last_avoids c d path avoids.1

-- what block c alone assigns isn't assigned on such a path
pub avoided : (gs : List (List ℕ)) (r c s : ℕ) (path : List ℕ) → Avoids c s path → ((d : ℕ) → (d ≡ c → ⊥) → has r (list_at gs d) ≡ false) → has r (assigned_on gs s path) ≡ false
avoided gs r c s [] avoids none = refl
avoided gs r c s (d ∷ path) avoids none =
    has_append r (list_at gs s) (assigned_on gs d path) ∙ neither (has r (list_at gs s)) (has r (assigned_on gs d path)) (none s avoids.0) (avoided gs r c d path avoids.1 none)

-- and one edge on
pub avoided_more : (f : LowFunc) (r c d : ℕ) (a : Arrives (edges f) 0 c) → ((x : ℕ) → (x ≡ c → ⊥) → has r (list_at (assigns f) x) ≡ false) → IsEdge (edges f) (paths.last_of 0 a.path) d
    → (b : Block) → slice_get f.blocks d ≡ Some b → (k : ℕ) → has r (numbers b.params) ≡ false → has r (assigned_before b.instrs k) ≡ false → IsUnassigned f r (a.path ++ d ∷ []) d k b
avoided_more f r c d a none edge b at k params before = record {
  follows = path_more (edges f) 0 a.path d a.follows edge;
  ends = last_more 0 a.path d;
  at = at;
  on = on_more (assigns f) r 0 a.path d (avoided (assigns f) r c 0 a.path a.avoids none) (none (paths.last_of 0 a.path) (last_avoids c 0 a.path a.avoids));
  params = params;
  before = before;
}

pub no_row : (instrs : List Instr) (r : ℕ) → has r (assigned_before instrs 0) ≡ false
no_row instrs r = ap (λ (xs : List ℕ). has r xs) (before_start instrs)
