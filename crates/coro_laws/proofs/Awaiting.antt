-- Where awaits go on, and which labels stand in the layout.
use Rattle.std.proofs.Common.{◌≡◌, inl, inr, ℕ, zero, suc, ◌+◌, ◌^◌, ◌<◌, ◌≤◌, nat_lt, cond, Bool, true, false, List, [], ◌∷◌, ◌++◌, length, Some, refl, sym, ap, ◌∙◌, subst, arith}
use Rattle.std.specs.Prelude.{slice_get}
use Rattle.std.proofs.lemmas.Bool.{ltb-true}
use Rattle.std.proofs.lemmas.List.{length-map}
use Rattle.std.proofs.lemmas.Option.{slice_get_within}
use Rattle.op_table.specs.declared.kind.OpKind.{OpKind}
use Rattle.op_table.specs.declared.kind.OpKind.TheVariants as op
use Rattle.low_flow.specs.Lists.{list_at}
use Rattle.low_forms.specs.declared.code.LowKind.{LowKind}
use Rattle.low_forms.specs.declared.code.LowKind.TheVariants.{Row, Launch, Await}
use Rattle.low_forms.specs.declared.code.Target.{Target}
use Rattle.low_forms.specs.declared.code.Term.{Term}
use Rattle.low_forms.specs.declared.code.Block.{Block}
use Rattle.low_forms.specs.declared.code.LowFunc.{LowFunc}
use Rattle.low_forms.specs.declared.code.LowModule.{LowModule}
use Rattle.low_forms.specs.declared.row.Targets.TheVariants as to
use Rattle.low_forms.specs.Rows.{row_of}
use Rattle.low_forms.specs.Registers.{every}
use Rattle.low_forms.specs.Numbers.{regs_within, target_within, block_within}
use Rattle.low_forms.specs.Edges.{blocks_of, edges_in, edges, is_uncritical}
use Rattle.low_forms.specs.Fits.{inner_fits, instr_fits, targets_fit, await_fits, term_fits, block_fits}
use Rattle.low_forms.specs.WellFormed.{IsWellFormed}
use Rattle.low_forms.proofs.Words.{and_left, and_right}
use Rattle.coro_lower.specs.declared.label.Label.{Label}
use Rattle.coro_lower.specs.declared.label.Label.TheVariants.{Entry, Next, Body, SetsError, Cleanup, Suspended}
use Rattle.coro_lower.specs.declared.label.End.{End}
use Rattle.coro_lower.specs.declared.label.End.TheVariants as end
use Rattle.coro_lower.specs.Layout.{plain_end, task_end, end_of, target_at, go_from, goes, awaiting, stands_among, errors_for, layout}
use Rattle.register_laws.proofs.Lists.{every_at, mapped_back, mapped_there}
use Rattle.register_laws.proofs.Places.{Found, found, stands}
use Rattle.register_laws.proofs.Good.{Parts, block_parts}
use Rattle.coro_laws.specs.Half.{holds_none, IsHalfLowered}
use Rattle.coro_laws.proofs.Lists.{Among, among_left, among_right, among_either}
use Rattle.coro_laws.proofs.Labels.{Home, behind_entry, staying, failures, task_layout, plain_layout, is_own, From, labels_from, body_there, next_there}
use Rattle.coro_laws.proofs.Making.{none_holds, is_task_end, no_task_end}
use Rattle.coro_laws.proofs.OneEdge.{EdgeAt, OneEdge, one_of_two}
use Rattle.coro_laws.proofs.Leading.{all_edges, not_suspending}

-- ---- which labels stand there

module _ (f : LowFunc) where
  pub in_task : (l : Label) → f.coroutine ≡ true → Among l (Entry ∷ behind_entry f) → Among l (layout f)
  in_task l task a = subst (λ ls. Among l ls) (sym (task_layout f task)) a

  later : (l : Label) → Among l (behind_entry f) → Among l (Entry ∷ behind_entry f)
  later l a = (suc a.0, a.1)

  abbrev ending : List Label
  ending = Cleanup ∷ Suspended ∷ failures f

  pub in_staying : (l : Label) → Among l (staying f) → Among l (layout f)
  in_staying l a = by f.coroutine refl
    where
      by : (c : Bool) → f.coroutine ≡ c → Among l (layout f)
      by true task = in_task l task (later l (among_left (staying f) (errors_for (failures f) ++ ending) l a))
      by false plain = subst (λ ls. Among l ls) (sym (plain_layout f plain)) a

  in_end : (l : Label) → Among l ending → Among l (behind_entry f)
  in_end l a = among_right (staying f) (errors_for (failures f) ++ ending) l (among_right (errors_for (failures f)) ending l a)

  pub in_failures : (l : Label) → f.coroutine ≡ true → Among l (failures f) → Among l (layout f)
  in_failures l task a = in_task l task (later l (in_end l (suc (suc a.0), a.1)))

  pub cleanup_in : f.coroutine ≡ true → Among Cleanup (layout f)
  cleanup_in task = in_task Cleanup task (later Cleanup (in_end Cleanup (0, refl)))

  pub suspended_in : f.coroutine ≡ true → Among Suspended (layout f)
  suspended_in task = in_task Suspended task (later Suspended (in_end Suspended (1, refl)))

  pub entry_in : f.coroutine ≡ true → Among Entry (layout f)
  entry_in task = in_task Entry task (0, refl)

  some_errors : (ls : List Label) (l : Label) → Among l ls → Among SetsError (errors_for ls)
  some_errors [] l a = cc (a.1)
  some_errors (m ∷ ls) l a = (0, refl)

  pub error_in : (l : Label) → f.coroutine ≡ true → Among l (failures f) → Among SetsError (layout f)
  error_in l task a =
      in_task SetsError task (later SetsError (among_right (staying f) (errors_for (failures f) ++ ending) SetsError (among_left (errors_for (failures f)) ending SetsError (some_errors (failures f) l a))))

  -- a label of the layout is one of a block, or one of a coroutine's own
  pub data Stood (l : Label) : Type 0 where
    own : f.coroutine ≡ true → is_own l ≡ true → Stood l
    of_block : (failing : Bool) → From f failing 0 f.blocks l → Stood l

  stood_errors : (ls : List Label) (l : Label) → Among l (errors_for ls) → is_own l ≡ true
  stood_errors [] l a = cc (a.1)
  stood_errors (m ∷ ls) l (zero, at) = let same : SetsError ≡ l = cc in ap is_own (sym same)
  stood_errors (m ∷ ls) l (suc n, at) = cc

  stood_ending : f.coroutine ≡ true → (l : Label) → Among l ending → Stood l
  stood_ending task l (zero, at) = own task (let same : Cleanup ≡ l = cc in ap is_own (sym same))
  stood_ending task l (suc zero, at) = own task (let same : Suspended ≡ l = cc in ap is_own (sym same))
  stood_ending task l (suc (suc n), at) = of_block true (labels_from f true 0 f.blocks l (n, at))

  stood_behind : f.coroutine ≡ true → (l : Label) → Among l (behind_entry f) → Stood l
  stood_behind task l a = elim (among_either (staying f) (errors_for (failures f) ++ ending) l a) [
    | inl s ↦ of_block false (labels_from f false 0 f.blocks l s)
    | inr more ↦ elim (among_either (errors_for (failures f)) ending l more) [
      | inl err ↦ own task (stood_errors (failures f) l err)
      | inr ends ↦ stood_ending task l ends
    ]
  ]

  stood_task : f.coroutine ≡ true → (l : Label) → Among l (Entry ∷ behind_entry f) → Stood l
  stood_task task l (zero, at) = own task (let same : Entry ≡ l = cc in ap is_own (sym same))
  stood_task task l (suc n, at) = stood_behind task l (n, at)

  pub stood : (l : Label) → Among l (layout f) → Stood l
  stood l a = by f.coroutine refl
    where
      by : (c : Bool) → f.coroutine ≡ c → Stood l
      by true task = stood_task task l (subst (λ ls. Among l ls) (task_layout f task) a)
      by false plain = of_block false (labels_from f false 0 f.blocks l (subst (λ ls. Among l ls) (plain_layout f plain) a))

  pub own_task : (l : Label) → is_own l ≡ true → Among l (layout f) → f.coroutine ≡ true
  own_task l is a = by (stood l a)
    where
      home : (k : ℕ) → Home f k l → ⊥
      home k (inl same) = (let not : is_own l ≡ false = ap is_own same in cc)
      home k (inr next) = (let not : is_own l ≡ false = ap is_own next.1 in cc)

      by : Stood l → f.coroutine ≡ true
      by (own task is_it) = task
      by (of_block failing r) = absurd (home r.number r.home)

  -- each block's label stands there
  pub body_in : (j : ℕ) (b : Block) → slice_get f.blocks j ≡ Some b → Among (Body j) (layout f)
  body_in j b at = by f.coroutine refl
    where
      counts : j ≡ 0 + j
      counts = omega arith

      task_by : f.coroutine ≡ true → (e : End) → end_of f b ≡ e → Among (Body j) (layout f)
      task_by task end.Fails is = in_failures (Body j) task (body_there f true 0 f.blocks j j b at counts (ap (stands_among true) is))
      task_by task end.Stays is = in_staying (Body j) (body_there f false 0 f.blocks j j b at counts (ap (stands_among false) is))
      task_by task end.Waits is = in_staying (Body j) (body_there f false 0 f.blocks j j b at counts (ap (stands_among false) is))
      task_by task end.Suspends is = in_staying (Body j) (body_there f false 0 f.blocks j j b at counts (ap (stands_among false) is))
      task_by task end.Gives is = in_staying (Body j) (body_there f false 0 f.blocks j j b at counts (ap (stands_among false) is))

      among : (e : End) → is_task_end e ≡ false → stands_among false e ≡ true
      among end.Fails is = cc
      among end.Stays is = refl
      among end.Waits is = refl
      among end.Suspends is = refl
      among end.Gives is = refl

      by : (c : Bool) → f.coroutine ≡ c → Among (Body j) (layout f)
      by true task = task_by task (end_of f b) refl
      by false plain = in_staying (Body j) (body_there f false 0 f.blocks j j b at counts (among (end_of f b) (no_task_end f b plain)))

  pub next_in : (m n : ℕ) (b : Block) → slice_get f.blocks m ≡ Some b → f.coroutine ≡ true → awaiting f m ≡ Some n → Among (Next n) (layout f)
  next_in m n b at task waits = by (end_of f b) refl
    where
      counts : m ≡ 0 + m
      counts = omega arith

      by : (e : End) → end_of f b ≡ e → Among (Next n) (layout f)
      by end.Fails is = in_failures (Next n) task (next_there f true 0 f.blocks m m n b at counts (ap (stands_among true) is) task waits)
      by end.Stays is = in_staying (Next n) (next_there f false 0 f.blocks m m n b at counts (ap (stands_among false) is) task waits)
      by end.Waits is = in_staying (Next n) (next_there f false 0 f.blocks m m n b at counts (ap (stands_among false) is) task waits)
      by end.Suspends is = in_staying (Next n) (next_there f false 0 f.blocks m m n b at counts (ap (stands_among false) is) task waits)
      by end.Gives is = in_staying (Next n) (next_there f false 0 f.blocks m m n b at counts (ap (stands_among false) is) task waits)

-- ---- blocks that end with an await

abbrev pub waits : End → Bool
waits end.Waits = true
waits end.Suspends = true
waits _ = false

pub waits_await : (c : Bool) (kind : LowKind) → waits (cond c (task_end kind) (plain_end kind)) ≡ true → kind ≡ Await
waits_await c Await is = refl
waits_await true Launch is = cc
waits_await false Launch is = cc
waits_await false (Row kind) is = cc
waits_await true (Row kind) is = by kind is
  where
    by : (kind : OpKind) → waits (task_end (Row kind)) ≡ true → Row kind ≡ Await
    by op.FuncReturn is = cc
    by op.AioFail is = cc
    by kind is = cc

-- its two targets
pub record Two (code : LowModule) (f : LowFunc) (t : Term) : Type 0 where
  pub go : Target
  pub failed : Target
  pub targets : t.targets ≡ go ∷ failed ∷ []
  pub fits : await_fits f t.instr go failed ≡ true

pub await_targets : (code : LowModule) (f : LowFunc) (t : Term) → term_fits code f t ≡ true → t.instr.kind ≡ Await → Two code f t
await_targets code f t fits is = by t.targets refl (subst (λ k. targets_fit (row_of k).targets code f t.instr t.targets ≡ true) is (and_right (instr_fits code f t.instr) (targets_fit (row_of t.instr.kind).targets code f t.instr t.targets) fits))
  where
    by : (ts : List Target) → t.targets ≡ ts → targets_fit to.Await code f t.instr t.targets ≡ true → Two code f t
    by [] same fit = (let no : targets_fit to.Await code f t.instr [] ≡ true = subst (λ us. targets_fit to.Await code f t.instr us ≡ true) same fit in cc)
    by (u ∷ []) same fit = (let no : targets_fit to.Await code f t.instr (u ∷ []) ≡ true = subst (λ us. targets_fit to.Await code f t.instr us ≡ true) same fit in cc)
    by (u ∷ v ∷ []) same fit = record { go = u; failed = v; targets = same; fits = subst (λ us. targets_fit to.Await code f t.instr us ≡ true) same fit }
    by (u ∷ v ∷ w ∷ []) same fit = (let no : targets_fit to.Await code f t.instr (u ∷ v ∷ w ∷ []) ≡ true = subst (λ us. targets_fit to.Await code f t.instr us ≡ true) same fit in cc)
    by (u ∷ v ∷ w ∷ x ∷ ts) same fit = (let no : targets_fit to.Await code f t.instr (u ∷ v ∷ w ∷ x ∷ ts) ≡ true = subst (λ us. targets_fit to.Await code f t.instr us ≡ true) same fit in cc)

-- ---- edges of half-lowered code

old_list : (is_first : Bool) (blocks : List Block) (k : ℕ) (b : Block) → every holds_none blocks ≡ true → slice_get blocks k ≡ Some b → list_at (edges_in is_first blocks) k ≡ blocks_of b.term.targets
old_list is_first [] k b none at = cc
old_list is_first (c ∷ blocks) zero b none at =
    let same : c ≡ b = cc in
    let kept = none_holds c (and_left (holds_none c) (every holds_none blocks) none) in
    all_edges (row_of c.term.instr.kind).targets is_first (blocks_of c.term.targets) (not_suspending c.term.instr.kind kept) ∙ ap (λ (x : Block). blocks_of x.term.targets) same
old_list is_first (c ∷ blocks) (suc k) b none at = old_list false blocks k b (and_right (holds_none c) (every holds_none blocks) none) at

-- the block awaits, and goes on in that one
pub record AwaitsAt (f : LowFunc) (k j : ℕ) : Type 0 where
  pub block : Block
  pub at : slice_get f.blocks k ≡ Some block
  pub kind : block.term.instr.kind ≡ Await
  pub go : target_at block.term.targets 0 ≡ j

module _ (code : LowModule) (f : LowFunc) (well : IsWellFormed code f) (half : IsHalfLowered f) where
  pub edges_at : (k : ℕ) (b : Block) → slice_get f.blocks k ≡ Some b → list_at (edges f) k ≡ blocks_of b.term.targets
  edges_at k b at = old_list true f.blocks k b half.plain at

  pub parts_at : (k : ℕ) (b : Block) → slice_get f.blocks k ≡ Some b → Parts code f b
  parts_at k b at = block_parts code f b (every_at (block_within code f) f.blocks k b well.within at)

  pub term_at : (k : ℕ) (b : Block) → slice_get f.blocks k ≡ Some b → term_fits code f b.term ≡ true
  term_at k b at = and_right (every (inner_fits code f) b.instrs) (term_fits code f b.term) (every_at (block_fits code f) f.blocks k b well.fits at)

  -- an edge leads to a block
  pub edge_inside : (k : ℕ) (b : Block) → slice_get f.blocks k ≡ Some b → (a j : ℕ) → slice_get (blocks_of b.term.targets) a ≡ Some j → j < length f.blocks
  edge_inside k b at a j leads =
      let m : (t : Target) × (slice_get b.term.targets a ≡ Some t) × (t.block.0 ≡ j) = mapped_back (λ t. t.block.0) b.term.targets a j leads in
      let t : Target = m.0 in
      let within : target_within f t ≡ true = every_at (target_within f) b.term.targets a t (parts_at k b at).targets m.1 in
      let less : t.block.0 < length f.blocks = ltb-true t.block.0 (length f.blocks) (and_left (nat_lt t.block.0 (length f.blocks)) (regs_within f t.args) within) in
      let same : t.block.0 ≡ j = m.2 in
      omega (arith, less, same)

  -- to a block to which one with two edges leads no other edge leads
  pub one_old : (k : ℕ) (b : Block) → slice_get f.blocks k ≡ Some b → 2 ≤ length b.term.targets → (a j : ℕ) → slice_get (blocks_of b.term.targets) a ≡ Some j → OneEdge (edges f) j
  one_old k b at two a j leads =
      let inside : k < length f.blocks = slice_get_within f.blocks k b at in
      let there : slice_get (edges f) k ≡ Some (blocks_of b.term.targets) = listed (edges f) k (blocks_of b.term.targets) (edges_at k b at) (λ none. (let short : length (blocks_of b.term.targets) ≡ length b.term.targets = length-map b.term.targets (λ t. t.block.0) in let empty : length (blocks_of b.term.targets) ≡ 0 = ap length none in omega (arith, two, short, empty))) in
      let fine : is_uncritical (edges f) (blocks_of b.term.targets) ≡ true = every_at (is_uncritical (edges f)) (edges f) k (blocks_of b.term.targets) well.uncritical there in
      let short : length (blocks_of b.term.targets) ≡ length b.term.targets = length-map b.term.targets (λ t. t.block.0) in
      one_of_two (edges f) (blocks_of b.term.targets) a j fine (omega (arith, two, short)) leads
    where
      listed : (lists : List (List ℕ)) (n : ℕ) (xs : List ℕ) → list_at lists n ≡ xs → (xs ≡ [] → ⊥) → slice_get lists n ≡ Some xs
      listed [] n xs is some = absurd (some (sym is))
      listed (ys ∷ lists) zero xs is some = ap (λ (zs : List ℕ). Some zs) is
      listed (ys ∷ lists) (suc n) xs is some = listed lists n xs is some

  go_kind : (kind : LowKind) (ts : List Target) (m : ℕ) → m < length f.blocks → go_from kind ts ≡ m → (kind ≡ Await) × (target_at ts 0 ≡ m)
  go_kind Await ts m less is = (refl, is)
  go_kind Launch ts m less is = (let few : length f.blocks ≤ 2 ^ 32 = half.few in let big : 2 ^ 32 ≡ m = is in absurd (omega (arith, less, few, big)))
  go_kind (Row kind) ts m less is = (let few : length f.blocks ≤ 2 ^ 32 = half.few in let big : 2 ^ 32 ≡ m = is in absurd (omega (arith, less, few, big)))

  goes_at : (m k : ℕ) → m < length f.blocks → slice_get (goes f) k ≡ Some m → AwaitsAt f k m
  goes_at m k less at =
      let r = mapped_back (λ b. go_from b.term.instr.kind b.term.targets) f.blocks k m at in
      let g = go_kind r.0.term.instr.kind r.0.term.targets m less r.2 in
      record { block = r.0; at = r.1; kind = g.0; go = g.1 }

  pub awaiting_from : (m k : ℕ) → m < length f.blocks → awaiting f m ≡ Some k → AwaitsAt f k m
  awaiting_from m k less is = goes_at m k less (stands (goes f) m k is)

  -- the edges of an await
  pub await_edges : (k : ℕ) (b : Block) (at : slice_get f.blocks k ≡ Some b) → (is : b.term.instr.kind ≡ Await) → Two code f b.term
  await_edges k b at is = await_targets code f b.term (term_at k b at) is

  pub go_edge : (k j : ℕ) (w : AwaitsAt f k j) → EdgeAt (edges f) k 0 j
  go_edge k j w =
      let two : Two code f w.block.term = await_edges k w.block w.at w.kind in
      let is : list_at (edges f) k ≡ blocks_of (two.go ∷ two.failed ∷ []) = edges_at k w.block w.at ∙ ap blocks_of two.targets in
      let go : two.go.block.0 ≡ j = ap (λ ts. target_at ts 0) (sym two.targets) ∙ w.go in
      ap (λ es. slice_get es 0) is ∙ ap (λ (n : ℕ). Some n) go

  pub one_go : (k j : ℕ) (w : AwaitsAt f k j) → OneEdge (edges f) j
  one_go k j w =
      let two : Two code f w.block.term = await_edges k w.block w.at w.kind in
      let many : length w.block.term.targets ≡ 2 = ap length two.targets in
      one_old k w.block w.at (omega (arith, many)) 0 j (ap (λ es. slice_get es 0) (sym (edges_at k w.block w.at)) ∙ go_edge k j w)

  pub go_inside : (k j : ℕ) (w : AwaitsAt f k j) → j < length f.blocks
  go_inside k j w = edge_inside k w.block w.at 0 j (ap (λ es. slice_get es 0) (sym (edges_at k w.block w.at)) ∙ go_edge k j w)

  -- no other block awaits and goes on there
  pub awaiting_is : (k j : ℕ) (w : AwaitsAt f k j) → awaiting f j ≡ Some k
  awaiting_is k j w =
      let there : slice_get (goes f) k ≡ Some j = mapped_there (λ b. go_from b.term.instr.kind b.term.targets) f.blocks k w.block w.at
      ∙ ap (λ (n : ℕ). Some n) (ap (λ kind. go_from kind w.block.term.targets) w.kind ∙ w.go) in
      let first : Found (goes f) j = found (goes f) k j there in
      let other : AwaitsAt f first.place j = goes_at j first.place (go_inside k j w) first.at in
      let same : first.place ≡ k = (one_go k j w first.place 0 k 0 (go_edge first.place j other) (go_edge k j w)).0 in
      first.first ∙ ap (λ (n : ℕ). Some n) same
