-- The edges of the code that the pass makes.
use Rattle.std.proofs.Common.{◌≡◌, ◌⊎◌, inl, inr, ℕ, zero, suc, ◌+◌, ◌<◌, ◌≤◌, ◌==◌, nat_lt, cond, not, Bool, true, false, List, [], ◌∷◌, ◌++◌, length, Option, Some, None, refl, sym, ap, ◌∙◌, subst, arith}
use Rattle.std.specs.Prelude.{slice_get}
use Rattle.std.proofs.lemmas.Bool.{lt-ltb}
use Rattle.std.proofs.lemmas.Bool.Decides.{eqb_tells}
use Rattle.std.proofs.lemmas.List.{length-map}
use Rattle.std.proofs.lemmas.Option.{slice_get_within}
use Rattle.low_flow.specs.Lists.{list_at}
use Rattle.low_forms.specs.declared.code.Target.{Target}
use Rattle.low_forms.specs.declared.code.Block.{Block}
use Rattle.low_forms.specs.declared.code.LowFunc.{LowFunc}
use Rattle.low_forms.specs.declared.code.LowModule.{LowModule}
use Rattle.low_forms.specs.Registers.{every}
use Rattle.low_forms.specs.Numbers.{starts_bare}
use Rattle.low_forms.specs.Edges.{blocks_of, edges, has_one_before, predecessors, is_uncritical, none_is_start}
use Rattle.low_forms.specs.WellFormed.{IsWellFormed}
use Rattle.low_forms.proofs.Words.{and_both}
use Rattle.register_numbers.specs.FirstPlaces.{place_in}
use Rattle.register_numbers.specs.Renumbered.{definitions}
use Rattle.coro_lower.specs.declared.label.Label.{Label}
use Rattle.coro_lower.specs.declared.label.Label.TheVariants.{Entry, Next, Body, SetsError, Cleanup, Suspended}
use Rattle.coro_lower.specs.declared.label.End.{End}
use Rattle.coro_lower.specs.declared.label.End.TheVariants as end
use Rattle.coro_lower.specs.Layout.{task_end, end_of, target_at, awaiting, stands_among, tests_before, labels, layout, place}
use Rattle.coro_lower.specs.Shape.{lowered, runtime_func}
use Rattle.register_laws.proofs.Lists.{every_at, every_from, mapped_back}
use Rattle.register_laws.proofs.Renamed.{edges_renamed}
use Rattle.coro_laws.specs.Half.{IsHalfLowered}
use Rattle.coro_laws.specs.Laws.{EdgesKept}
use Rattle.coro_laws.proofs.Lists.{Among}
use Rattle.coro_laws.proofs.Labels.{Home, place_there, task_layout, plain_layout, body_there, layout_distinct}
use Rattle.coro_laws.proofs.Making.{task_is, is_task_end, no_task_end}
use Rattle.coro_laws.proofs.OneEdge.{EdgeAt, OneEdge, few_where, uncritical_where}
use Rattle.coro_laws.proofs.Leading.{end_leads, body_leads, next_leads, leads, led, new_edges, Lead, lead_of}
use Rattle.coro_laws.proofs.Awaiting.{cleanup_in, suspended_in, error_in, Stood, own, of_block, stood, own_task, body_in, next_in, waits, waits_await, Two, AwaitsAt, edges_at, edge_inside, one_old, awaiting_from, await_edges, go_inside, awaiting_is}

abbrev is_suspends : End → Bool
is_suspends end.Suspends = true
is_suspends _ = false

-- the label that leads on where a block with such an end led
abbrev source : ℕ → End → Label
source k e = cond (is_suspends e) (Next k) (Body k)

abbrev flip : ℕ → ℕ
flip zero = 1
flip (suc n) = 0

-- the two targets of an await change their places
abbrev turned : End → ℕ → ℕ
turned e a = cond (waits e) (flip a) a

missing : (lists : List (List ℕ)) (k : ℕ) → slice_get lists k ≡ None → list_at lists k ≡ []
missing [] k none = refl
missing (xs ∷ lists) zero none = cc
missing (xs ∷ lists) (suc k) none = missing lists k none

present : (lists : List (List ℕ)) (k : ℕ) (xs : List ℕ) → slice_get lists k ≡ Some xs → list_at lists k ≡ xs
present [] k xs is = cc
present (ys ∷ lists) zero xs is = cc
present (ys ∷ lists) (suc k) xs is = present lists k xs is

beyond : {A : Type 0} → (xs : List A) (k : ℕ) → k < length xs → slice_get xs k ≡ None → ⊥
beyond [] k less none = absurd (omega (arith, less))
beyond (x ∷ xs) zero less none = cc
beyond (x ∷ xs) (suc k) less none = beyond xs k (omega (arith, less)) none

-- a plain function's first label is its first block's
pub first_plain : (f : LowFunc) → f.coroutine ≡ false → 0 < length f.blocks → slice_get (layout f) 0 ≡ Some (Body 0)
first_plain f plain some = ap (λ ls. slice_get ls 0) (plain_layout f plain) ∙ by f.blocks some
  where
    by : (blocks : List Block) → 0 < length blocks → slice_get (labels f false 0 blocks) 0 ≡ Some (Body 0)
    by [] some = absurd (omega (arith, some))
    by (b ∷ blocks) some =
        ap (λ s. slice_get (cond s (tests_before f.coroutine (awaiting f 0) ++ Body 0 ∷ []) [] ++ labels f false 1 blocks) 0) (among (end_of f b) (no_task_end f b plain))
        ∙ ap (λ c. slice_get ((tests_before c (awaiting f 0) ++ Body 0 ∷ []) ++ labels f false 1 blocks) 0) plain
        ∙ none (awaiting f 0) (labels f false 1 blocks)
      where
        among : (e : End) → is_task_end e ≡ false → stands_among false e ≡ true
        among end.Fails is = cc
        among end.Stays is = refl
        among end.Waits is = refl
        among end.Suspends is = refl
        among end.Gives is = refl

        none : (o : Option ℕ) (ls : List Label) → slice_get ((tests_before false o ++ Body 0 ∷ []) ++ ls) 0 ≡ Some (Body 0)
        none None ls = refl
        none (Some n) ls = refl

module _ (code : LowModule) (f : LowFunc) (well : IsWellFormed code f) (half : IsHalfLowered f) where
  -- the edge of half-lowered code from which an edge comes
  pub record Came (l : Label) (a j : ℕ) : Type 0 where
    pub number : ℕ
    pub block : Block
    pub at : slice_get f.blocks number ≡ Some block
    pub place : ℕ
    pub edge : slice_get (blocks_of block.term.targets) place ≡ Some j
    pub source_is : l ≡ source number (end_of f block)
    pub place_is : a ≡ turned (end_of f block) place

  body_same : (i j : ℕ) → Body i ≡ Body j → i ≡ j
  body_same i j is = cc

  -- an end at which the block waits, or the coroutine is suspended
  await_of : (k : ℕ) (b : Block) → slice_get f.blocks k ≡ Some b → waits (end_of f b) ≡ true → Two code f b.term
  await_of k b at is = await_edges code f well half k b at (waits_await f.coroutine b.term.instr.kind is)

  from_tests : (l : Label) (k : ℕ) (b : Block) (at : slice_get f.blocks k ≡ Some b) → waits (end_of f b) ≡ true → l ≡ source k (end_of f b)
      → (a j : ℕ) → slice_get (next_leads (Some b)) a ≡ Some (Body j) → Came l a j
  from_tests l k b at is from zero j leads =
      let two : Two code f b.term = await_of k b at is in
      let failed : target_at b.term.targets 1 ≡ j = body_same (target_at b.term.targets 1) j (cc) in
      record {
        number = k;
        block = b;
        at = at;
        place = 1;
        edge = ap (λ ts. slice_get (blocks_of ts) 1) two.targets ∙ ap (λ (n : ℕ). Some n) (ap (λ ts. target_at ts 1) (sym two.targets) ∙ failed);
        source_is = from;
        place_is = ap (λ w. cond w (flip 1) 1) (sym is);
      }
  from_tests l k b at is from (suc zero) j leads =
      let two : Two code f b.term = await_of k b at is in
      let go : target_at b.term.targets 0 ≡ j = body_same (target_at b.term.targets 0) j (cc) in
      record {
        number = k;
        block = b;
        at = at;
        place = 0;
        edge = ap (λ ts. slice_get (blocks_of ts) 0) two.targets ∙ ap (λ (n : ℕ). Some n) (ap (λ ts. target_at ts 0) (sym two.targets) ∙ go);
        source_is = from;
        place_is = ap (λ w. cond w (flip 0) 0) (sym is);
      }
  from_tests l k b at is from (suc (suc a)) j leads = cc

  from_end : (k : ℕ) (b : Block) (at : slice_get f.blocks k ≡ Some b) → (e : End) → end_of f b ≡ e → (a j : ℕ) → slice_get (end_leads e k b.term.targets) a ≡ Some (Body j) → Came (Body k) a j
  from_end k b at end.Stays is a j leads =
      let m : (n : ℕ) × (slice_get (blocks_of b.term.targets) a ≡ Some n) × (Body n ≡ Body j) = mapped_back (λ (n : ℕ). Body n) (blocks_of b.term.targets) a (Body j) leads in
      let same : m.0 ≡ j = body_same m.0 j m.2 in
      record { number = k; block = b; at = at; place = a; edge = m.1 ∙ ap (λ (n : ℕ). Some n) same; source_is = ap (source k) (sym is); place_is = ap (λ e. turned e a) (sym is) }
  from_end k b at end.Waits is a j leads = from_tests (Body k) k b at (ap waits is) (ap (source k) (sym is)) a j leads
  from_end k b at end.Suspends is zero j leads = cc
  from_end k b at end.Suspends is (suc a) j leads = cc
  from_end k b at end.Gives is zero j leads = cc
  from_end k b at end.Gives is (suc a) j leads = cc
  from_end k b at end.Fails is zero j leads = cc
  from_end k b at end.Fails is (suc a) j leads = cc

  -- a test stands in the layout only of a block at which a coroutine is suspended
  pub record Suspending (k : ℕ) : Type 0 where
    pub block : Block
    pub at : slice_get f.blocks k ≡ Some block
    pub is : end_of f block ≡ end.Suspends
    pub task : f.coroutine ≡ true

  pub next_suspends : (k : ℕ) → Among (Next k) (layout f) → Suspending k
  next_suspends k a = by (stood f (Next k) a)
    where
      home : (m : ℕ) → m < length f.blocks → Home f m (Next k) → Suspending k
      home m less (inl is) = cc
      home m less (inr is) =
          let same : is.0 ≡ k = cc (is.1) in
          let w : AwaitsAt f is.0 m = awaiting_from code f well half m is.0 less is.3 in
          record {
            block = w.block;
            at = ap (slice_get f.blocks) (sym same) ∙ w.at;
            is = task_is f w.block is.2 ∙ ap task_end w.kind;
            task = is.2;
          }

      by : Stood f (Next k) → Suspending k
      by (own task it) = cc
      by (of_block failing r) =
          let inside : r.offset < length f.blocks = slice_get_within f.blocks r.offset r.block r.at in
          let counts : r.number ≡ 0 + r.offset = r.counts in
          home r.number (omega (arith, inside, counts)) r.home

  from_next : (k a j : ℕ) → Suspending k → (o : Option Block) → slice_get f.blocks k ≡ o → slice_get (next_leads o) a ≡ Some (Body j) → Came (Next k) a j
  from_next k a j s None at leads = cc
  from_next k a j s (Some b) at leads =
      let same : s.block ≡ b = cc (s.at, at) in
      let is : end_of f b ≡ end.Suspends = ap (end_of f) (sym same) ∙ s.is in
      from_tests (Next k) k b at (ap waits is) (ap (source k) (sym is)) a j leads

  from_body : (k a j : ℕ) (o : Option Block) → slice_get f.blocks k ≡ o → slice_get (body_leads f k o) a ≡ Some (Body j) → Came (Body k) a j
  from_body k a j None at leads = cc
  from_body k a j (Some b) at leads = from_end k b at (end_of f b) refl a j leads

  pub came : (l : Label) (a j : ℕ) → Among l (layout f) → slice_get (leads f l) a ≡ Some (Body j) → (l ≡ Entry → ⊥) → Came l a j
  came Entry a j among at other = absurd (other refl)
  came (Body k) a j among at other = from_body k a j (slice_get f.blocks k) refl at
  came (Next k) a j among at other = from_next k a j (next_suspends k among) (slice_get f.blocks k) refl at
  came SetsError zero j among at other = cc
  came SetsError (suc a) j among at other = cc
  came Cleanup a j among at other = cc
  came Suspended a j among at other = cc

  came_edge : (l : Label) (a j : ℕ) (c : Came l a j) → EdgeAt (edges f) c.number c.place j
  came_edge l a j c = ap (λ es. slice_get es c.place) (edges_at code f well half c.number c.block c.at) ∙ c.edge

  -- no edge comes to the first block
  start_at : (cs : List ℕ) (a : ℕ) → none_is_start cs ≡ true → slice_get cs a ≡ Some 0 → ⊥
  start_at cs a none at = (let no : not (0 == 0) ≡ true = every_at (λ c. not (c == 0)) cs a 0 none at in cc)

  pub none_start : (k a : ℕ) → EdgeAt (edges f) k a 0 → ⊥
  none_start k a at = by (slice_get (edges f) k) refl
    where
      by : (o : Option (List ℕ)) → slice_get (edges f) k ≡ o → ⊥
      by None none = (let empty : list_at (edges f) k ≡ [] = missing (edges f) k none in let no : slice_get (let nothing : List ℕ = [] in nothing) a ≡ Some 0 = ap (λ es. slice_get es a) (sym empty) ∙ at in cc)
      by (Some cs) is = start_at cs a (every_at none_is_start (edges f) k cs well.not_to_start is) (ap (λ es. slice_get es a) (sym (present (edges f) k cs is)) ∙ at)

  none_came : (l : Label) (a j : ℕ) → Came l a j → j ≡ 0 → ⊥
  none_came l a j c is = none_start c.number c.place (subst (λ n. EdgeAt (edges f) c.number c.place n) is (came_edge l a j c))

  -- ---- what is led to stands in the layout

  pub block_in : (j : ℕ) → j < length f.blocks → Among (Body j) (layout f)
  block_in j less = by (slice_get f.blocks j) refl
    where
      by : (o : Option Block) → slice_get f.blocks j ≡ o → Among (Body j) (layout f)
      by None none = absurd (beyond f.blocks j less none)
      by (Some b) at = body_in f j b at

  came_in : (l : Label) (a j : ℕ) → Came l a j → Among (Body j) (layout f)
  came_in l a j c = block_in j (edge_inside code f well half c.number c.block c.at c.place j c.edge)

  start_in : (blocks : List Block) → starts_bare blocks ≡ true → 0 < length blocks
  start_in [] is = cc
  start_in (b ∷ blocks) is = omega arith

  fails_among : (e : End) → e ≡ end.Fails → stands_among true e ≡ true
  fails_among e is = ap (stands_among true) is

  gives_task : (b : Block) → is_task_end (end_of f b) ≡ true → f.coroutine ≡ true
  gives_task b is = by f.coroutine refl
    where
      by : (c : Bool) → f.coroutine ≡ c → f.coroutine ≡ true
      by true task = task
      by false plain = (let not : is_task_end (end_of f b) ≡ false = no_task_end f b plain in cc)

  -- the label is one that the l leads to: a block's own edges
  pub end_in : (k : ℕ) (b : Block) (at : slice_get f.blocks k ≡ Some b) → (e : End) → end_of f b ≡ e → (a : ℕ) (m : Label) → slice_get (end_leads e k b.term.targets) a ≡ Some m → Among m (layout f)
  end_in k b at end.Stays is a m leads =
      let r : (n : ℕ) × (slice_get (blocks_of b.term.targets) a ≡ Some n) × (Body n ≡ m) = mapped_back (λ (n : ℕ). Body n) (blocks_of b.term.targets) a m leads in
      subst (λ x. Among x (layout f)) r.2 (came_in (Body k) a r.0 (from_end k b at end.Stays is a r.0 (leads ∙ ap (λ (x : Label). Some x) (sym r.2))))
  end_in k b at end.Waits is zero m leads =
      let same : Body (target_at b.term.targets 1) ≡ m = cc in
      subst (λ x. Among x (layout f)) same (came_in (Body k) 0 (target_at b.term.targets 1) (from_end k b at end.Waits is 0 (target_at b.term.targets 1) refl))
  end_in k b at end.Waits is (suc zero) m leads =
      let same : Body (target_at b.term.targets 0) ≡ m = cc in
      subst (λ x. Among x (layout f)) same (came_in (Body k) 1 (target_at b.term.targets 0) (from_end k b at end.Waits is 1 (target_at b.term.targets 0) refl))
  end_in k b at end.Waits is (suc (suc a)) m leads = cc
  end_in k b at end.Suspends is zero m leads =
      let same : Next k ≡ m = cc in
      let task : f.coroutine ≡ true = gives_task b (ap is_task_end is) in
      let w : AwaitsAt f k (target_at b.term.targets 0) = record { block = b; at = at; kind = waits_await f.coroutine b.term.instr.kind (ap waits is); go = refl } in
      subst (λ x. Among x (layout f)) same (after (target_at b.term.targets 0) task (awaiting_is code f well half k (target_at b.term.targets 0) w) (go_inside code f well half k (target_at b.term.targets 0) w))
    where
      after : (j : ℕ) → f.coroutine ≡ true → awaiting f j ≡ Some k → j < length f.blocks → Among (Next k) (layout f)
      after j task waits less = by (slice_get f.blocks j) refl
        where
          by : (o : Option Block) → slice_get f.blocks j ≡ o → Among (Next k) (layout f)
          by None none = absurd (beyond f.blocks j less none)
          by (Some c) there = next_in f j k c there task waits
  end_in k b at end.Suspends is (suc a) m leads = cc
  end_in k b at end.Gives is zero m leads = let same : Cleanup ≡ m = cc in subst (λ x. Among x (layout f)) same (cleanup_in f (gives_task b (ap is_task_end is)))
  end_in k b at end.Gives is (suc a) m leads = cc
  end_in k b at end.Fails is zero m leads =
      let same : SetsError ≡ m = cc in
      let counts : k ≡ 0 + k = omega arith in
      subst (λ x. Among x (layout f)) same (error_in f (Body k) (gives_task b (ap is_task_end is)) (body_there f true 0 f.blocks k k b at counts (fails_among (end_of f b) is)))
  end_in k b at end.Fails is (suc a) m leads = cc

  next_leads_in : (k a : ℕ) (m : Label) → Suspending k → (o : Option Block) → slice_get f.blocks k ≡ o → slice_get (next_leads o) a ≡ Some m → Among m (layout f)
  next_leads_in k a m s None at leads = cc
  next_leads_in k zero m s (Some b) at leads =
      let same : Body (target_at b.term.targets 1) ≡ m = cc in
      subst (λ x. Among x (layout f)) same (came_in (Next k) 0 (target_at b.term.targets 1) (from_next k 0 (target_at b.term.targets 1) s (Some b) at refl))
  next_leads_in k (suc zero) m s (Some b) at leads =
      let same : Body (target_at b.term.targets 0) ≡ m = cc in
      subst (λ x. Among x (layout f)) same (came_in (Next k) 1 (target_at b.term.targets 0) (from_next k 1 (target_at b.term.targets 0) s (Some b) at refl))
  next_leads_in k (suc (suc a)) m s (Some b) at leads = cc

  body_leads_in : (k a : ℕ) (m : Label) (o : Option Block) → slice_get f.blocks k ≡ o → slice_get (body_leads f k o) a ≡ Some m → Among m (layout f)
  body_leads_in k a m None at leads = cc
  body_leads_in k a m (Some b) at leads = end_in k b at (end_of f b) refl a m leads

  pub leads_in : (l : Label) → Among l (layout f) → (a : ℕ) (m : Label) → slice_get (leads f l) a ≡ Some m → Among m (layout f)
  leads_in Entry among zero m at = let same : Suspended ≡ m = cc in subst (λ x. Among x (layout f)) same (suspended_in f (own_task f Entry refl among))
  leads_in Entry among (suc zero) m at = let same : Body 0 ≡ m = cc in subst (λ x. Among x (layout f)) same (block_in 0 (start_in f.blocks well.start))
  leads_in Entry among (suc (suc a)) m at = cc
  leads_in (Body k) among a m at = body_leads_in k a m (slice_get f.blocks k) refl at
  leads_in (Next k) among a m at = next_leads_in k a m (next_suspends k among) (slice_get f.blocks k) refl at
  leads_in SetsError among zero m at = let same : Cleanup ≡ m = cc in subst (λ x. Among x (layout f)) same (cleanup_in f (own_task f SetsError refl among))
  leads_in SetsError among (suc a) m at = cc
  leads_in Cleanup among a m at = cc
  leads_in Suspended among a m at = cc

  -- ---- edges of the code that is made

  abbrev NewEdge : (i a c : ℕ) → Type 0
  NewEdge i a c = Lead f half.plain i a c

  target_in : (i a c : ℕ) (e : NewEdge i a c) → slice_get (layout f) c ≡ Some e.target
  target_in i a c e = subst (λ n. slice_get (layout f) n ≡ Some e.target) e.place (place_there f e.target (leads_in e.source (i, e.from) a e.target e.at))

  one_target : (c i a j b : ℕ) (d : NewEdge i a c) (e : NewEdge j b c) → d.target ≡ e.target
  one_target c i a j b d e = let both : Some d.target ≡ Some e.target = sym (target_in i a c d) ∙ target_in j b c e in cc

  same_source : (i j a b c : ℕ) (d : NewEdge i a c) (e : NewEdge j b c) → d.source ≡ e.source → i ≡ j
  same_source i j a b c d e same = layout_distinct f i j e.source (d.from ∙ ap (λ (l : Label). Some l) same) e.from

  entry_or : (l : Label) → (l ≡ Entry) ⊎ (l ≡ Entry → ⊥)
  entry_or Entry = inl refl
  entry_or (Body k) = inr (λ is. cc)
  entry_or (Next k) = inr (λ is. cc)
  entry_or SetsError = inr (λ is. cc)
  entry_or Cleanup = inr (λ is. cc)
  entry_or Suspended = inr (λ is. cc)

  entry_second : (a j : ℕ) → slice_get (leads f Entry) a ≡ Some (Body j) → (a ≡ 1) × (j ≡ 0)
  entry_second zero j at = cc
  entry_second (suc zero) j at = (refl, body_same j 0 (cc))
  entry_second (suc (suc a)) j at = cc

  same_came : (l m : Label) (a b j : ℕ) (c : Came l a j) (d : Came m b j) → OneEdge (edges f) j → (l ≡ m) × (a ≡ b)
  same_came l m a b j c d one =
      let same : (c.number ≡ d.number) × (c.place ≡ d.place) = one c.number c.place d.number d.place (came_edge l a j c) (came_edge m b j d) in
      let both : Some c.block ≡ Some d.block = sym c.at ∙ ap (slice_get f.blocks) same.0 ∙ d.at in
      let block : c.block ≡ d.block = cc in (
        c.source_is ∙ ap (λ n. source n (end_of f c.block)) same.0 ∙ ap (λ x. source d.number (end_of f x)) block ∙ sym d.source_is,
        c.place_is ∙ ap (turned (end_of f c.block)) same.1 ∙ ap (λ x. turned (end_of f x) d.place) block ∙ sym d.place_is,
      )

  -- one edge leads to a block, where one led to it; and to the first block one from the entry
  pub one_to_body : (c j : ℕ) → slice_get (layout f) c ≡ Some (Body j) → (j ≡ 0) ⊎ OneEdge (edges f) j → OneEdge (edges (lowered f)) c
  one_to_body c j there known i a i' a' at also =
      let d : NewEdge i a c = lead_of f half.plain i a c at in
      let e : NewEdge i' a' c = lead_of f half.plain i' a' c also in
      let d_is : d.target ≡ Body j = (let both : Some d.target ≡ Some (Body j) = sym (target_in i a c d) ∙ there in cc) in
      let e_is : e.target ≡ Body j = (let both : Some e.target ≡ Some (Body j) = sym (target_in i' a' c e) ∙ there in cc) in
      let d_at : slice_get (leads f d.source) a ≡ Some (Body j) = d.at ∙ ap (λ (l : Label). Some l) d_is in
      let e_at : slice_get (leads f e.source) a' ≡ Some (Body j) = e.at ∙ ap (λ (l : Label). Some l) e_is in
      elim (entry_or d.source) [
        | inl d_entry ↦ elim (entry_or e.source) [
          | inl e_entry ↦ (
            same_source i i' a a' c d e (d_entry ∙ sym e_entry),
            (entry_second a j (ap (λ l. slice_get (leads f l) a) (sym d_entry) ∙ d_at)).0 ∙ sym (entry_second a' j (ap (λ l. slice_get (leads f l) a') (sym e_entry) ∙ e_at)).0,
          )
          | inr e_other ↦ absurd (none_came e.source a' j (came e.source a' j (i', e.from) e_at e_other) (entry_second a j (ap (λ l. slice_get (leads f l) a) (sym d_entry) ∙ d_at)).1)
        ]
        | inr d_other ↦ elim (entry_or e.source) [
          | inl e_entry ↦ absurd (none_came d.source a j (came d.source a j (i, d.from) d_at d_other) (entry_second a' j (ap (λ l. slice_get (leads f l) a') (sym e_entry) ∙ e_at)).1)
          | inr e_other ↦ (let x : Came d.source a j = came d.source a j (i, d.from) d_at d_other in let y : Came e.source a' j = came e.source a' j (i', e.from) e_at e_other in
              elim known [
                | inl start ↦ absurd (none_came d.source a j x start)
                | inr one ↦ (let both : (d.source ≡ e.source) × (a ≡ a') = same_came d.source e.source a a' j x y one in (same_source i i' a a' c d e both.0, both.1))
              ])
        ]
      ]

  -- only the entry leads to where a coroutine gives its objects
  body_apart : (k a : ℕ) (e : End) (ts : List Target) → slice_get (end_leads e k ts) a ≡ Some Suspended → ⊥
  body_apart k a end.Stays ts at =
      let r : (n : ℕ) × (slice_get (blocks_of ts) a ≡ Some n) × (Body n ≡ Suspended) = mapped_back (λ (n : ℕ). Body n) (blocks_of ts) a Suspended at in
      let no : Body r.0 ≡ Suspended = r.2 in
      cc
  body_apart k zero end.Waits ts at = cc
  body_apart k (suc zero) end.Waits ts at = cc
  body_apart k (suc (suc a)) end.Waits ts at = cc
  body_apart k zero end.Suspends ts at = cc
  body_apart k (suc a) end.Suspends ts at = cc
  body_apart k zero end.Gives ts at = cc
  body_apart k (suc a) end.Gives ts at = cc
  body_apart k zero end.Fails ts at = cc
  body_apart k (suc a) end.Fails ts at = cc

  suspended_from : (l : Label) (a : ℕ) → slice_get (leads f l) a ≡ Some Suspended → (l ≡ Entry) × (a ≡ 0)
  suspended_from Entry zero at = (refl, refl)
  suspended_from Entry (suc zero) at = cc
  suspended_from Entry (suc (suc a)) at = cc
  suspended_from (Body k) a at = by (slice_get f.blocks k) at
    where
      by : (o : Option Block) → slice_get (body_leads f k o) a ≡ Some Suspended → (Body k ≡ Entry) × (a ≡ 0)
      by None at = cc
      by (Some b) at = absurd (body_apart k a (end_of f b) b.term.targets at)
  suspended_from (Next k) a at = by (slice_get f.blocks k) a at
    where
      by : (o : Option Block) (a : ℕ) → slice_get (next_leads o) a ≡ Some Suspended → (Next k ≡ Entry) × (a ≡ 0)
      by None a at = cc
      by (Some b) zero at = cc
      by (Some b) (suc zero) at = cc
      by (Some b) (suc (suc a)) at = cc
  suspended_from SetsError zero at = cc
  suspended_from SetsError (suc a) at = cc
  suspended_from Cleanup a at = cc
  suspended_from Suspended a at = cc

  one_to_suspended : (c : ℕ) → slice_get (layout f) c ≡ Some Suspended → OneEdge (edges (lowered f)) c
  one_to_suspended c there i a i' a' at also =
      let d : NewEdge i a c = lead_of f half.plain i a c at in
      let e : NewEdge i' a' c = lead_of f half.plain i' a' c also in
      let d_is : d.target ≡ Suspended = (let both : Some d.target ≡ Some Suspended = sym (target_in i a c d) ∙ there in cc) in
      let e_is : e.target ≡ Suspended = (let both : Some e.target ≡ Some Suspended = sym (target_in i' a' c e) ∙ there in cc) in
      let x : (d.source ≡ Entry) × (a ≡ 0) = suspended_from d.source a (d.at ∙ ap (λ (l : Label). Some l) d_is) in
      let y : (e.source ≡ Entry) × (a' ≡ 0) = suspended_from e.source a' (e.at ∙ ap (λ (l : Label). Some l) e_is) in
      (same_source i i' a a' c d e (x.0 ∙ sym y.0), x.1 ∙ sym y.1)

  -- ---- no critical edge

  -- the targets of an await
  tests_one : (l : Label) (k : ℕ) (b : Block) (at : slice_get f.blocks k ≡ Some b) → waits (end_of f b) ≡ true → l ≡ source k (end_of f b)
      → (a : ℕ) (m : Label) → slice_get (next_leads (Some b)) a ≡ Some m → (c : ℕ) → slice_get (layout f) c ≡ Some m → OneEdge (edges (lowered f)) c
  tests_one l k b at is from a m leads c there = by a leads
    where
      many : 2 ≤ length b.term.targets
      many = (let two : Two code f b.term = await_of k b at is in let n : length b.term.targets ≡ 2 = ap length two.targets in omega (arith, n))

      two_edges : (x : ℕ) (j : ℕ) → Body j ≡ m → slice_get (blocks_of b.term.targets) x ≡ Some j → OneEdge (edges (lowered f)) c
      two_edges x j same edge = one_to_body c j (there ∙ ap (λ (y : Label). Some y) (sym same)) (inr (one_old code f well half k b at many x j edge))

      two : Two code f b.term
      two = await_of k b at is

      by : (p : ℕ) → slice_get (next_leads (Some b)) p ≡ Some m → OneEdge (edges (lowered f)) c
      by zero leads = two_edges 1 (target_at b.term.targets 1) (cc) (ap (λ ts. slice_get (blocks_of ts) 1) two.targets ∙ ap (λ (n : ℕ). Some n) (ap (λ ts. target_at ts 1) (sym two.targets)))
      by (suc zero) leads = two_edges 0 (target_at b.term.targets 0) (cc) (ap (λ ts. slice_get (blocks_of ts) 0) two.targets ∙ ap (λ (n : ℕ). Some n) (ap (λ ts. target_at ts 0) (sym two.targets)))
      by (suc (suc p)) leads = cc

  end_one : (k : ℕ) (b : Block) (at : slice_get f.blocks k ≡ Some b) (e : End) → end_of f b ≡ e → 2 ≤ length (end_leads e k b.term.targets)
      → (a : ℕ) (m : Label) → slice_get (end_leads e k b.term.targets) a ≡ Some m → (c : ℕ) → slice_get (layout f) c ≡ Some m → OneEdge (edges (lowered f)) c
  end_one k b at end.Stays is many a m leads c there =
      let r : (n : ℕ) × (slice_get (blocks_of b.term.targets) a ≡ Some n) × (Body n ≡ m) = mapped_back (λ (n : ℕ). Body n) (blocks_of b.term.targets) a m leads in
      let long : length (end_leads end.Stays k b.term.targets) ≡ length b.term.targets = length-map (blocks_of b.term.targets) (λ (n : ℕ). Body n) ∙ length-map b.term.targets (λ t. t.block.0) in
      one_to_body c r.0 (there ∙ ap (λ (l : Label). Some l) (sym r.2)) (inr (one_old code f well half k b at (omega (arith, many, long)) a r.0 r.1))
  end_one k b at end.Waits is many a m leads c there = tests_one (Body k) k b at (ap waits is) (ap (source k) (sym is)) a m leads c there
  end_one k b at end.Suspends is many a m leads c there = absurd (omega (arith, many))
  end_one k b at end.Gives is many a m leads c there = absurd (omega (arith, many))
  end_one k b at end.Fails is many a m leads c there = absurd (omega (arith, many))

  body_one : (k : ℕ) (o : Option Block) → slice_get f.blocks k ≡ o → 2 ≤ length (body_leads f k o) → (a : ℕ) (m : Label) → slice_get (body_leads f k o) a ≡ Some m
      → (c : ℕ) → slice_get (layout f) c ≡ Some m → OneEdge (edges (lowered f)) c
  body_one k None at many a m leads c there = absurd (omega (arith, many))
  body_one k (Some b) at many a m leads c there = end_one k b at (end_of f b) refl many a m leads c there

  next_one : (k : ℕ) → Suspending k → (o : Option Block) → slice_get f.blocks k ≡ o → (a : ℕ) (m : Label) → slice_get (next_leads o) a ≡ Some m
      → (c : ℕ) → slice_get (layout f) c ≡ Some m → OneEdge (edges (lowered f)) c
  next_one k s None at a m leads c there = cc
  next_one k s (Some b) at a m leads c there =
      let same : s.block ≡ b = cc (s.at, at) in
      let is : end_of f b ≡ end.Suspends = ap (end_of f) (sym same) ∙ s.is in
      tests_one (Next k) k b at (ap waits is) (ap (source k) (sym is)) a m leads c there

  -- a label with two edges leads to blocks to which no other edge leads
  one_to : (l : Label) → Among l (layout f) → 2 ≤ length (leads f l) → (a : ℕ) (m : Label) → slice_get (leads f l) a ≡ Some m → (c : ℕ) → slice_get (layout f) c ≡ Some m → OneEdge (edges (lowered f)) c
  one_to Entry among two zero m at c there = let same : Suspended ≡ m = cc in one_to_suspended c (there ∙ ap (λ (l : Label). Some l) (sym same))
  one_to Entry among two (suc zero) m at c there = let same : Body 0 ≡ m = cc in one_to_body c 0 (there ∙ ap (λ (l : Label). Some l) (sym same)) (inl refl)
  one_to Entry among two (suc (suc a)) m at c there = cc
  one_to (Body k) among two a m at c there = body_one k (slice_get f.blocks k) refl two a m at c there
  one_to (Next k) among two a m at c there = next_one k (next_suspends k among) (slice_get f.blocks k) refl a m at c there
  one_to SetsError among two a m at c there = absurd (omega (arith, two))
  one_to Cleanup among two a m at c there = cc
  one_to Suspended among two a m at c there = cc

  abbrev made : List (List ℕ)
  made = edges (lowered f)

  made_length : length made ≡ length (layout f)
  made_length = ap length (new_edges f half.plain) ∙ length-map (layout f) (led f half.plain)

  uncritical_at : (l : Label) → Among l (layout f) → is_uncritical made (led f half.plain l) ≡ true
  uncritical_at l among = uncritical_where made (led f half.plain l) (λ two. every_from (has_one_before made) (led f half.plain l) (λ a c at.
      (let m : (t : Label) × (slice_get (leads f l) a ≡ Some t) × (place f t ≡ c) = mapped_back (place f) (leads f l) a c at in
      let there : slice_get (layout f) c ≡ Some m.0 = subst (λ n. slice_get (layout f) n ≡ Some m.0) m.2 (place_there f m.0 (leads_in l among a m.0 m.1)) in
      let inside : c < length (layout f) = slice_get_within (layout f) c m.0 there in
      let many : 2 ≤ length (leads f l) = (let n : length (led f half.plain l) ≡ length (leads f l) = length-map (leads f l) (place f) in omega (arith, two, n)) in
      let n : length made ≡ length (layout f) = made_length in
      and_both (nat_lt c (length made)) (nat_lt (predecessors made c) 2) (lt-ltb c (length made) (omega (arith, inside, n)))
      (few_where made c (one_to l among many a m.0 m.1 c there)))))

  pub lowered_uncritical : every (is_uncritical made) made ≡ true
  lowered_uncritical = every_from (is_uncritical made) made (λ k cs at.
      (let m : (l : Label) × (slice_get (layout f) k ≡ Some l) × (led f half.plain l ≡ cs) = mapped_back (led f half.plain) (layout f) k cs (subst (λ es. slice_get es k ≡ Some cs) (new_edges f half.plain) at) in
      subst (λ es. is_uncritical made es ≡ true) m.2 (uncritical_at m.0 (k, m.1))))

  -- ---- no edge to the first block

  abbrev StartsWith : Label → Type 0
  StartsWith m = slice_get (layout f) 0 ≡ Some m

  not_entry : (l : Label) (a : ℕ) → slice_get (leads f l) a ≡ Some Entry → ⊥
  not_entry Entry zero at = cc
  not_entry Entry (suc zero) at = cc
  not_entry Entry (suc (suc a)) at = cc
  not_entry (Body k) a at = by (slice_get f.blocks k) at
    where
      by_end : (e : End) (ts : List Target) (a : ℕ) → slice_get (end_leads e k ts) a ≡ Some Entry → ⊥
      by_end end.Stays ts a at =
          let r : (n : ℕ) × (slice_get (blocks_of ts) a ≡ Some n) × (Body n ≡ Entry) = mapped_back (λ (n : ℕ). Body n) (blocks_of ts) a Entry at in
          let no : Body r.0 ≡ Entry = r.2 in
          cc
      by_end end.Waits ts zero at = cc
      by_end end.Waits ts (suc zero) at = cc
      by_end end.Waits ts (suc (suc a)) at = cc
      by_end end.Suspends ts zero at = cc
      by_end end.Suspends ts (suc a) at = cc
      by_end end.Gives ts zero at = cc
      by_end end.Gives ts (suc a) at = cc
      by_end end.Fails ts zero at = cc
      by_end end.Fails ts (suc a) at = cc

      by : (o : Option Block) → slice_get (body_leads f k o) a ≡ Some Entry → ⊥
      by None at = cc
      by (Some b) at = by_end (end_of f b) b.term.targets a at
  not_entry (Next k) a at = by (slice_get f.blocks k) a at
    where
      by : (o : Option Block) (a : ℕ) → slice_get (next_leads o) a ≡ Some Entry → ⊥
      by None a at = cc
      by (Some b) zero at = cc
      by (Some b) (suc zero) at = cc
      by (Some b) (suc (suc a)) at = cc
  not_entry SetsError zero at = cc
  not_entry SetsError (suc a) at = cc
  not_entry Cleanup a at = cc
  not_entry Suspended a at = cc

  -- what stands first is the entry, or the first block of a plain function
  first_is : (c : Bool) → f.coroutine ≡ c → (StartsWith Entry) ⊎ ((f.coroutine ≡ false) × StartsWith (Body 0))
  first_is true task = inl (ap (λ ls. slice_get ls 0) (task_layout f task))
  first_is false plain = inr (plain, first_plain f plain (start_in f.blocks well.start))

  none_first : (i a : ℕ) → EdgeAt made i a 0 → ⊥
  none_first i a at =
      let e : NewEdge i a 0 = lead_of f half.plain i a 0 at in
      elim (first_is f.coroutine refl) [
        | inl entry ↦ (let both : Some e.target ≡ Some Entry = sym (target_in i a 0 e) ∙ entry in let same : e.target ≡ Entry = cc in not_entry e.source a (e.at ∙ ap (λ (l : Label). Some l) same))
        | inr first ↦ (let both : Some e.target ≡ Some (Body 0) = sym (target_in i a 0 e) ∙ first.1 in let same : e.target ≡ Body 0 = cc in
            let led_to : slice_get (leads f e.source) a ≡ Some (Body 0) = e.at ∙ ap (λ (l : Label). Some l) same in
            elim (entry_or e.source) [
              | inl entry ↦ (let task : f.coroutine ≡ true = own_task f Entry refl (subst (λ l. Among l (layout f)) entry (i, e.from)) in let plain : f.coroutine ≡ false = first.0 in cc)
              | inr other ↦ none_came e.source a 0 (came e.source a 0 (i, e.from) led_to other) refl
            ])
      ]

  start_none : (cs : List ℕ) → ((a : ℕ) → slice_get cs a ≡ Some 0 → ⊥) → none_is_start cs ≡ true
  start_none cs none = every_from (λ c. not (c == 0)) cs (λ a c at. elim (eqb_tells c 0) [
    | inl same ↦ absurd (none a (at ∙ ap (λ (n : ℕ). Some n) same.1))
    | inr other ↦ ap not other.0
  ])

  pub lowered_start : every none_is_start made ≡ true
  lowered_start = every_from none_is_start made (λ k cs at. start_none cs (λ a zero_at. none_first k a (ap (λ es. slice_get es a) (present made k cs at) ∙ zero_at)))

runtime_edges : (f : LowFunc) → edges (runtime_func f) ≡ edges (lowered f)
unfolding runtime_func
runtime_edges f = edges_renamed (place_in (definitions (lowered f))) true (lowered f).blocks

pub edges_kept : EdgesKept
edges_kept code f well half = (
  subst (λ es. every none_is_start es ≡ true) (sym (runtime_edges f)) (lowered_start code f well half),
  subst (λ es. every (is_uncritical es) es ≡ true) (sym (runtime_edges f)) (lowered_uncritical code f well half),
)
