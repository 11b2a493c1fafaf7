-- What is live by the sets of a solution is live by paths, and the other way round.
use Rattle.std.proofs.Common.{◌≡◌, ◌↔◌, IsTrue, inl, inr, ℕ, zero, suc, ◌+◌, ◌<◌, ◌≤◌, ◌==◌, ◌&&◌, not, Bool, true, false, List, [], ◌∷◌, length, drop, Option, Some, None, refl, sym, ap, ◌∙◌, arith, subst, length-drop}
use Rattle.std.specs.Prelude.{slice_get}
use Rattle.std.proofs.lemmas.Bool.Decides.{nat_tests}
use Rattle.bit_sets.specs.Members.{is_in}
use Rattle.low_flow.specs.Lists.{has, list_at}
use Rattle.low_flow.specs.Paths.{IsEdge}
use Rattle.low_forms.specs.declared.code.Instr.{Instr}
use Rattle.low_forms.specs.declared.code.Term.{Term}
use Rattle.low_forms.specs.declared.code.Block.{Block}
use Rattle.low_forms.specs.declared.code.LowFunc.{LowFunc}
use Rattle.low_forms.specs.Assigned.{numbers, used_at, used_at_end}
use Rattle.low_forms.specs.Edges.{edges, edges_in}
use Rattle.liveness.specs.Live.{Place, instrs_of, instrs_in, uses_of, uses, results_of, defines_of, defines, IsNext, inside, along, IsPath, last_of, defined_on, IsLive}
use Rattle.liveness.specs.Flow.{live_before, enters, set_at, over}
use Rattle.liveness.specs.State.{Enters, AreSets, AreSound, IsSolution}
use Rattle.liveness.proofs.ListLemmas.{or_splits, or_left, or_right, and_both, and_all, not_true, not_false, or_none, neither, has_append, has_here, set_within, within}

abbrev pub place : ℕ → ℕ → Place
place c k = record { block = c; row = k }

-- ---- the k-th row of a block, by what remains there

uses_end : (instrs : List Instr) (t : Term) (k : ℕ) → k ≡ length instrs → used_at instrs t k ≡ used_at_end t
uses_end [] t zero is = refl
uses_end [] t (suc k) is = absurd (omega (arith, is))
uses_end (i ∷ instrs) t zero is = absurd (omega (arith, is))
uses_end (i ∷ instrs) t (suc k) is = uses_end instrs t k (omega (arith, is))

rest_end : (instrs : List Instr) (k : ℕ) → k ≡ length instrs → drop k instrs ≡ []
rest_end [] zero is = refl
rest_end [] (suc k) is = absurd (omega (arith, is))
rest_end (i ∷ instrs) zero is = absurd (omega (arith, is))
rest_end (i ∷ instrs) (suc k) is = rest_end instrs k (omega (arith, is))

pub record Row (instrs : List Instr) (t : Term) (k : ℕ) : Type 0 where
  pub instr : Instr
  pub rest : drop k instrs ≡ instr ∷ drop (suc k) instrs
  pub used : used_at instrs t k ≡ numbers instr.operands
  pub results : results_of instrs k ≡ numbers instr.results

row_at : (instrs : List Instr) (t : Term) (k : ℕ) → k < length instrs → Row instrs t k
row_at [] t k below = absurd (omega arith)
row_at (i ∷ instrs) t zero below = record { instr = i; rest = refl; used = refl; results = refl }
row_at (i ∷ instrs) t (suc k) below =
    let r : Row instrs t k = row_at instrs t k (omega arith) in
    record { instr = r.instr; rest = r.rest; used = r.used; results = r.results }

pub length_edges : (first : Bool) (blocks : List Block) → length (edges_in first blocks) ≡ length blocks
length_edges first [] = refl
length_edges first (b ∷ blocks) = ap suc (length_edges false blocks)

pub get_within : (blocks : List Block) (c : ℕ) → c < length blocks → (b : Block) × (slice_get blocks c ≡ Some b)
get_within [] c below = absurd (omega arith)
get_within (b ∷ blocks) zero below = (b, refl)
get_within (b ∷ blocks) (suc c) below = get_within blocks c (omega arith)

pub get_below : (blocks : List Block) (c : ℕ) (b : Block) → slice_get blocks c ≡ Some b → c < length blocks
get_below [] c b is = cc
get_below (a ∷ blocks) zero b is = omega arith
get_below (a ∷ blocks) (suc c) b is = omega (arith, get_below blocks c b is)

-- ---- steps of paths

module _ (f : LowFunc) (r : ℕ) where
  -- used right there
  live_here : (c k : ℕ) (b : Block) → slice_get f.blocks c ≡ Some b → has r (used_at b.instrs b.term k) ≡ true → IsLive f r (place c k)
  live_here c k b at used = record { path = []; follows = tt; undefined = refl; used = ap (λ (o : Option Block). has r (uses_of o k)) at ∙ used }

  live_next : (p q : Place) → IsNext f p q → has r (defines f q) ≡ false → IsLive f r q → IsLive f r p
  live_next p q next free l = record {
    path = q ∷ l.path;
    follows = (next, l.follows);
    undefined = has_append r (defines f q) (defined_on f l.path) ∙ neither (has r (defines f q)) (has r (defined_on f l.path)) free l.undefined;
    used = l.used;
  }

  -- ---- what is live by rows is live by paths

  -- behind the terminator
  abbrev pub BehindIs : ℕ → Bool → Type 0
  BehindIs c out = out ≡ true → (d : ℕ) × IsEdge (edges f) c d × Enters f r d

  pub live_by_rows : (rows : List Instr) (c k : ℕ) (b : Block) (out : Bool) → slice_get f.blocks c ≡ Some b → BehindIs c out → drop k b.instrs ≡ rows → k + length rows ≡ length b.instrs
      → live_before rows b.term out r ≡ true → IsLive f r (place c k)
  live_by_rows [] c k b out at behind rest long is = elim (or_splits (has r (used_at_end b.term)) out is) [
    | inl used ↦ live_here c k b at (ap (λ (xs : List ℕ). has r xs) (uses_end b.instrs b.term k (omega (arith, long))) ∙ used)
    | inr goes ↦
        let d : (d : ℕ) × IsEdge (edges f) c d × Enters f r d = behind goes in
        let e : Enters f r d.0 = d.2 in
        live_next (place c k) (place d.0 0)
        (along (omega (arith, long) ∙ sym (ap (λ (o : Option Block). length (instrs_of o)) at)) d.1 refl)
        (ap (λ (o : Option Block). has r (defines_of o 0)) e.at ∙ e.free) e.live
  ]
  live_by_rows (i ∷ rows) c k b out at behind rest long is =
      let below : k < length b.instrs = omega (arith, long) in
      let w : Row b.instrs b.term k = row_at b.instrs b.term k below in
      let both : w.instr ∷ drop (suc k) b.instrs ≡ i ∷ rows = sym w.rest ∙ rest in
      let same : w.instr ≡ i = cc in
      let later : drop (suc k) b.instrs ≡ rows = cc in
      elim (or_splits (has r (numbers i.operands)) (not (has r (numbers i.results)) && live_before rows b.term out r) is) [
        | inl used ↦ live_here c k b at (ap (λ (xs : List ℕ). has r xs) w.used ∙ ap (λ (j : Instr). has r (numbers j.operands)) same ∙ used)
        | inr goes ↦
            let parts : (not (has r (numbers i.results)) ≡ true) × (live_before rows b.term out r ≡ true) = and_both (not (has r (numbers i.results))) (live_before rows b.term out r) goes in
            live_next (place c k) (place c (suc k))
            (inside refl refl (subst (λ n. k < n) (sym (ap (λ (o : Option Block). length (instrs_of o)) at)) below))
            (ap (λ (o : Option Block). has r (defines_of o (suc k))) at ∙ ap (λ (xs : List ℕ). has r xs) w.results ∙ ap (λ (j : Instr). has r (numbers j.results)) same
            ∙ not_true (has r (numbers i.results)) parts.0)
            (live_by_rows rows c (suc k) b out at behind later (omega (arith, long)) parts.1)
      ]

  -- over one of these edges, some set says so
  pub over_one : (sets : List (List Bool)) (cs : List ℕ) → over sets r cs ≡ true → (d : ℕ) × (has d cs ≡ true) × (is_in (set_at sets d) r ≡ true)
  over_one sets [] is = cc
  over_one sets (c ∷ cs) is = elim (or_splits (is_in (set_at sets c) r) (over sets r cs) is) [
    | inl here ↦ (c, has_here c cs, here)
    | inr later ↦ (let d : (d : ℕ) × (has d cs ≡ true) × (is_in (set_at sets d) r ≡ true) = over_one sets cs later in (d.0, or_right (d.0 == c) (has d.0 cs) d.1, d.2))
  ]

  pub over_some : (sets : List (List Bool)) (cs : List ℕ) (d : ℕ) → has d cs ≡ true → is_in (set_at sets d) r ≡ true → over sets r cs ≡ true
  over_some sets [] d there is = cc
  over_some sets (c ∷ cs) d there is = elim (or_splits (d == c) (has d cs) there) [
    | inr later ↦ or_right (is_in (set_at sets c) r) (over sets r cs) (over_some sets cs d later is)
    | inl here ↦ or_left (is_in (set_at sets c) r) (over sets r cs) (same_in d c here is)
  ]
    where
      same_in : (d c : ℕ) → (d == c) ≡ true → is_in (set_at sets d) r ≡ true → is_in (set_at sets c) r ≡ true
      same_in d c here is = (let same : d ≡ c = grind (arith, nat_tests) in subst (λ x. is_in (set_at sets x) r ≡ true) same is)

  behind_sets : (sets : List (List Bool)) → AreSets f sets → AreSound f sets → (c : ℕ) → BehindIs c (over sets r (list_at (edges f) c))
  behind_sets sets are sound c is =
      let d : (d : ℕ) × (has d (list_at (edges f) c) ≡ true) × (is_in (set_at sets d) r ≡ true) = over_one sets (list_at (edges f) c) is in
      (d.0, (d.1, omega (arith, set_within sets d.0 r d.2, are.long, length_edges true f.blocks)), sound d.0 r d.2)

  pub live_by_sets : (sets : List (List Bool)) → AreSets f sets → AreSound f sets → (c k : ℕ) (b : Block) → slice_get f.blocks c ≡ Some b → k ≤ length b.instrs
      → live_before (drop k b.instrs) b.term (over sets r (list_at (edges f) c)) r ≡ true → IsLive f r (place c k)
  live_by_sets sets are sound c k b at fits is =
      live_by_rows (drop k b.instrs) c k b (over sets r (list_at (edges f) c)) at (behind_sets sets are sound c) refl (omega (arith, length-drop k b.instrs, fits)) is

  -- what a visit adds is live over an edge to the block
  pub enters_by_sets : (sets : List (List Bool)) → AreSets f sets → AreSound f sets → (c : ℕ) (b : Block) → slice_get f.blocks c ≡ Some b
      → enters b (over sets r (list_at (edges f) c)) r ≡ true → Enters f r c
  enters_by_sets sets are sound c b at is =
      let parts : (not (has r (numbers b.params)) ≡ true) × (live_before b.instrs b.term (over sets r (list_at (edges f) c)) r ≡ true) =
      and_both (not (has r (numbers b.params))) (live_before b.instrs b.term (over sets r (list_at (edges f) c)) r) is in
      record { block = b; at = at; free = not_true (has r (numbers b.params)) parts.0; live = live_by_sets sets are sound c 0 b at (omega arith) parts.1 }

  -- ---- what is live by paths is live by the sets of a solution

  module _ (sets : List (List Bool)) (s : IsSolution f sets) (known : r < length f.regs) where
    abbrev behind : ℕ → Bool
    behind c = over sets r (list_at (edges f) c)

    row_here : (c k : ℕ) (b : Block) → k ≤ length b.instrs → has r (used_at b.instrs b.term k) ≡ true → live_before (drop k b.instrs) b.term (behind c) r ≡ true
    row_here c k b fits is = elim (within k (length b.instrs)) [
      | inl below ↦
          let w : Row b.instrs b.term k = row_at b.instrs b.term k below in
          ap (λ (rows : List Instr). live_before rows b.term (behind c) r) w.rest
          ∙ or_left (has r (numbers w.instr.operands)) (not (has r (numbers w.instr.results)) && live_before (drop (suc k) b.instrs) b.term (behind c) r) (ap (λ (xs : List ℕ). has r xs) (sym w.used) ∙ is)
      | inr past ↦
          let e : k ≡ length b.instrs = omega (arith, fits, past) in
          ap (λ (rows : List Instr). live_before rows b.term (behind c) r) (rest_end b.instrs k e)
          ∙ or_left (has r (used_at_end b.term)) (behind c) (ap (λ (xs : List ℕ). has r xs) (sym (uses_end b.instrs b.term k e)) ∙ is)
    ]

    row_on : (c k : ℕ) (b : Block) → k < length b.instrs → has r (results_of b.instrs k) ≡ false → live_before (drop (suc k) b.instrs) b.term (behind c) r ≡ true
        → live_before (drop k b.instrs) b.term (behind c) r ≡ true
    row_on c k b below free later =
        let w : Row b.instrs b.term k = row_at b.instrs b.term k below in
        ap (λ (rows : List Instr). live_before rows b.term (behind c) r) w.rest
        ∙ or_right (has r (numbers w.instr.operands)) (not (has r (numbers w.instr.results)) && live_before (drop (suc k) b.instrs) b.term (behind c) r)
        (and_all (not (has r (numbers w.instr.results))) (live_before (drop (suc k) b.instrs) b.term (behind c) r)
        (not_false (has r (numbers w.instr.results)) (ap (λ (xs : List ℕ). has r xs) (sym w.results) ∙ free)) later)

    row_over : (c k d : ℕ) (b a : Block) → k ≡ length b.instrs → has d (list_at (edges f) c) ≡ true → slice_get f.blocks d ≡ Some a → has r (numbers a.params) ≡ false
        → live_before a.instrs a.term (behind d) r ≡ true → live_before (drop k b.instrs) b.term (behind c) r ≡ true
    row_over c k d b a end edge at free later =
        let enters_a : enters a (behind d) r ≡ true = and_all (not (has r (numbers a.params))) (live_before a.instrs a.term (behind d) r) (not_false (has r (numbers a.params)) free) later in
        let there : is_in (set_at sets d) r ≡ true = s.closed d a r at known enters_a in
        ap (λ (rows : List Instr). live_before rows b.term (behind c) r) (rest_end b.instrs k end)
        ∙ or_right (has r (used_at_end b.term)) (behind c) (over_some sets (list_at (edges f) c) d edge there)

    pub sets_by_path : (path : List Place) (c k : ℕ) (b : Block) → slice_get f.blocks c ≡ Some b → k ≤ length b.instrs
        → IsPath f (place c k) path → has r (defined_on f path) ≡ false → has r (uses f (last_of (place c k) path)) ≡ true → live_before (drop k b.instrs) b.term (behind c) r ≡ true
    sets_by_path [] c k b at fits follows free used = row_here c k b fits (sym (ap (λ (o : Option Block). has r (uses_of o k)) at) ∙ used)
    sets_by_path (q ∷ path) c k b at fits follows free used =
        let parts : (has r (defines f q) ≡ false) × (has r (defined_on f path) ≡ false) =
        or_none (has r (defines f q)) (has r (defined_on f path)) (sym (has_append r (defines f q) (defined_on f path)) ∙ free) in
        let long : length (instrs_in f c) ≡ length b.instrs = ap (λ (o : Option Block). length (instrs_of o)) at in
        elim follows.0 [
          | inside same next below ↦
              let at_q : slice_get f.blocks q.block ≡ Some b = ap (λ n. slice_get f.blocks n) same ∙ at in
              let short : k < length b.instrs = omega (arith, below, long) in
              let later : live_before (drop q.row b.instrs) b.term (behind q.block) r ≡ true = sets_by_path path q.block q.row b at_q (omega (arith, next, short)) follows.1 parts.1 used in
              let there : live_before (drop (suc k) b.instrs) b.term (behind c) r ≡ true =
              ap (λ n. live_before (drop n b.instrs) b.term (behind c) r) (sym next) ∙ ap (λ n. live_before (drop q.row b.instrs) b.term (behind n) r) (sym same) ∙ later in
              let undefined : has r (results_of b.instrs k) ≡ false =
              sym (ap (λ n. has r (defines_of (slice_get f.blocks q.block) n)) next ∙ ap (λ (o : Option Block). has r (defines_of o (suc k))) at_q) ∙ parts.0 in
              row_on c k b short undefined there
          | along end edge first ↦
              let a : (a : Block) × (slice_get f.blocks q.block ≡ Some a) = get_within f.blocks q.block (omega (arith, edge.1, length_edges true f.blocks)) in
              let later : live_before (drop q.row a.0.instrs) a.0.term (behind q.block) r ≡ true = sets_by_path path q.block q.row a.0 a.1 (omega (arith, first)) follows.1 parts.1 used in
              let undefined : has r (numbers a.0.params) ≡ false =
              sym (ap (λ n. has r (defines_of (slice_get f.blocks q.block) n)) first ∙ ap (λ (o : Option Block). has r (defines_of o 0)) a.1) ∙ parts.0 in
              row_over c k q.block b a.0 (end ∙ long) edge.0 a.1 undefined (ap (λ n. live_before (drop n a.0.instrs) a.0.term (behind q.block) r) (sym first) ∙ later)
        ]

    -- what the rows of the block and the sets say is what the paths say
    pub exact : (c k : ℕ) (b : Block) (answer : Bool) → slice_get f.blocks c ≡ Some b → k ≤ length b.instrs → answer ≡ live_before (drop k b.instrs) b.term (behind c) r
        → IsTrue answer ↔ IsLive f r (place c k)
    exact c k b answer at fits is = (
      λ yes. live_by_sets sets s.sets_are s.sound c k b at fits (sym is ∙ yes),
      λ (l : IsLive f r (place c k)). is ∙ sets_by_path l.path c k b at fits l.follows l.undefined l.used,
    )

  -- ---- no place, nothing live

  uses_past : (instrs : List Instr) (t : Term) (k : ℕ) → length instrs < k → used_at instrs t k ≡ []
  uses_past [] t zero past = absurd (omega arith)
  uses_past [] t (suc k) past = refl
  uses_past (i ∷ instrs) t zero past = absurd (omega arith)
  uses_past (i ∷ instrs) t (suc k) past = uses_past instrs t k (omega arith)

  edge_within : (lists : List (List ℕ)) (d c : ℕ) → has d (list_at lists c) ≡ true → c < length lists
  edge_within [] d c is = cc
  edge_within (xs ∷ lists) d zero is = omega arith
  edge_within (xs ∷ lists) d (suc c) is = omega (arith, edge_within lists d c is)

  never_missing : (path : List Place) (c k : ℕ) → slice_get f.blocks c ≡ None → IsPath f (place c k) path → has r (uses f (last_of (place c k) path)) ≡ true → ⊥
  never_missing [] c k none follows used = (let e : has r (uses f (place c k)) ≡ false = ap (λ (o : Option Block). has r (uses_of o k)) none in cc)
  never_missing (q ∷ path) c k none follows used = elim follows.0 [
    | inside same next below ↦ (let e : length (instrs_in f c) ≡ 0 = ap (λ (o : Option Block). length (instrs_of o)) none in absurd (omega (arith, below, e)))
    | along end edge first ↦
        let there : (b : Block) × (slice_get f.blocks c ≡ Some b) = get_within f.blocks c (omega (arith, edge_within (edges f) q.block c edge.0, length_edges true f.blocks)) in
        let some : slice_get f.blocks c ≡ Some there.0 = there.1 in
        cc
  ]

  never_past : (path : List Place) (c k : ℕ) (b : Block) → slice_get f.blocks c ≡ Some b → length b.instrs < k → IsPath f (place c k) path → has r (uses f (last_of (place c k) path)) ≡ true → ⊥
  never_past [] c k b at past follows used =
      (let e : has r (uses f (place c k)) ≡ false = ap (λ (o : Option Block). has r (uses_of o k)) at ∙ ap (λ (xs : List ℕ). has r xs) (uses_past b.instrs b.term k past) in cc)
  never_past (q ∷ path) c k b at past follows used =
      let long : length (instrs_in f c) ≡ length b.instrs = ap (λ (o : Option Block). length (instrs_of o)) at in
      elim follows.0 [
        | inside same next below ↦ absurd (omega (arith, below, long, past))
        | along end edge first ↦ absurd (omega (arith, end, long, past))
      ]

  pub not_missing : (c k : ℕ) → slice_get f.blocks c ≡ None → IsTrue false ↔ IsLive f r (place c k)
  not_missing c k none = ((λ yes. cc), λ (l : IsLive f r (place c k)). absurd (never_missing l.path c k none l.follows l.used))

  pub not_past : (c k : ℕ) (b : Block) → slice_get f.blocks c ≡ Some b → length b.instrs < k → IsTrue false ↔ IsLive f r (place c k)
  not_past c k b at past = ((λ yes. cc), λ (l : IsLive f r (place c k)). absurd (never_past l.path c k b at past l.follows l.used))
