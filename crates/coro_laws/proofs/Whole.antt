-- Paths of the code that the pass makes, and all sentences together.
use Rattle.std.proofs.Common.{◌≡◌, ℕ, zero, suc, ◌+◌, ◌==◌, cond, not, Bool, true, false, List, [], ◌∷◌, ◌++◌, map, length, Option, Some, None, refl, sym, ap, ◌∙◌, subst, arith}
use Rattle.std.specs.Prelude.{slice_get}
use Rattle.std.proofs.lemmas.List.{append-nil, append_assoc}
use Rattle.std.proofs.lemmas.Bool.{eqb-true}
use Rattle.std.proofs.lemmas.Option.{slice_get_within}
use Rattle.ir_forms.specs.Numbers.{joined}
use Rattle.low_flow.specs.Lists.{has, list_at}
use Rattle.low_flow.specs.Paths.{IsPath, last_of, assigned_on}
use Rattle.low_forms.specs.declared.code.LowKind.{LowKind}
use Rattle.low_forms.specs.declared.code.LowKind.TheVariants.{Await}
use Rattle.low_forms.specs.declared.code.Reg.{Reg}
use Rattle.low_forms.specs.declared.code.Instr.{Instr}
use Rattle.low_forms.specs.declared.code.Term.{Term}
use Rattle.low_forms.specs.declared.code.Block.{Block}
use Rattle.low_forms.specs.declared.code.LowFunc.{LowFunc}
use Rattle.low_forms.specs.declared.code.LowModule.{LowModule}
use Rattle.low_forms.specs.Registers.{every}
use Rattle.low_forms.specs.Rows.{row_of}
use Rattle.low_forms.specs.Numbers.{count_is_small, counts_small, starts_bare, has_start}
use Rattle.low_forms.specs.Edges.{blocks_of, edges}
use Rattle.low_forms.specs.Fits.{instr_fits, targets_fit}
use Rattle.low_forms.specs.Assigned.{numbers, assigned_by, block_assigns, assigns, args_of, used_at_end, UsesAssigned}
use Rattle.low_forms.specs.WellFormed.{IsWellFormed, WellFormed}
use Rattle.low_forms.proofs.Words.{mapped_at, and_left, and_right, and_both}
use Rattle.register_numbers.specs.FirstPlaces.{place_in}
use Rattle.register_numbers.specs.Renumbered.{definitions, renumbered}
use Rattle.coro_lower.specs.declared.label.Label.{Label}
use Rattle.coro_lower.specs.declared.label.Label.TheVariants.{Entry, Next, Body, SetsError, Cleanup, Suspended}
use Rattle.coro_lower.specs.declared.label.End.{End}
use Rattle.coro_lower.specs.declared.label.End.TheVariants as end
use Rattle.coro_lower.specs.Layout.{plain_end, task_end, end_of, target_at, awaiting, layout}
use Rattle.coro_lower.specs.Rows.{called}
use Rattle.coro_lower.specs.Registers.{token, values}
use Rattle.coro_lower.specs.Shape.{begins, gives, before_end, loads, params_left, instrs_of, term_of, body, next, create, set_error, label_block, lowered, runtime_func}
use Rattle.register_laws.specs.Laws.{used_by, block_uses, UsesDefined, AllDefined}
use Rattle.register_laws.proofs.Lists.{every_at, every_from, every_append, mapped_back, mapped_there, Sub, sub_left, sub_right, sub_both, sub_then, sub_front, sub_back, sub_append, sub_same}
use Rattle.register_laws.proofs.Good.{Good, good_more, Before, AreGiven, assigned_where}
use Rattle.register_laws.proofs.Renamed.{joined_has, counts_renamed}
use Rattle.register_laws.proofs.Law.{renumbered_well_formed}
use Rattle.register_laws.proofs.Views.{types, haves, sight, fits_is, fits_as}
use Rattle.coro_laws.specs.Half.{is_emptied, stays, kept_assigns, kept_definitions, IsHalfLowered, HalfLowered}
use Rattle.coro_laws.specs.Laws.{lowered_code, CountsSmall, RuntimeWellFormed}
use Rattle.coro_laws.proofs.Lists.{Among}
use Rattle.coro_laws.proofs.Labels.{place_there, task_layout}
use Rattle.coro_laws.proofs.Making.{is_task_end, no_task_end}
use Rattle.coro_laws.proofs.Saving.{lowered_saves}
use Rattle.coro_laws.proofs.Leading.{end_leads, body_leads, next_leads, leads, Lead, lead_of}
use Rattle.coro_laws.proofs.Awaiting.{own_task, AwaitsAt, Two, await_edges, awaiting_from, term_at, waits, waits_await}
use Rattle.coro_laws.proofs.Edging.{first_plain, next_suspends, Suspending, leads_in, lowered_start, lowered_uncritical, block_in}
use Rattle.coro_laws.proofs.BlockFits.{return_haves, gives_is, all_within, all_fit}
use Rattle.coro_laws.proofs.Typed.{within_left}
use Rattle.coro_laws.proofs.Giving.{sub_nothing, sub_self, at_has, some_blocks, block_kept, BodyHolds, Out, Holds, good_at_block, end_given, enter, start_holds, stays_out, out_more}
use Rattle.coro_laws.proofs.Needing.{good_all, good_uses, Facts, body_good, next_good, entry_good, error_good, cleanup_good, suspended_good}

module _ (code : LowModule) (f : LowFunc) (well : IsWellFormed code f) (half : IsHalfLowered f) where
  abbrev new : LowFunc
  new = lowered f

  abbrev H : Label → List ℕ → Type 0
  H l acc = Holds code f well half l acc

  abbrev D : Label → List ℕ
  D l = block_assigns (label_block f l)

  task_at : (b : Block) → is_task_end (end_of f b) ≡ true → f.coroutine ≡ true
  task_at b is = by f.coroutine refl
    where
      by : (c : Bool) → f.coroutine ≡ c → f.coroutine ≡ true
      by true task = task
      by false plain = (let no : is_task_end (end_of f b) ≡ false = no_task_end f b plain in cc)

  -- the edges of an await
  await_to : (k : ℕ) (b : Block) → slice_get f.blocks k ≡ Some b → waits (end_of f b) ≡ true
      → (slice_get (blocks_of b.term.targets) 1 ≡ Some (target_at b.term.targets 1)) × (slice_get (blocks_of b.term.targets) 0 ≡ Some (target_at b.term.targets 0))
  await_to k b at is =
      let two : Two code f b.term = await_edges code f well half k b at (waits_await f.coroutine b.term.instr.kind is) in (
        ap (λ ts. slice_get (blocks_of ts) 1) two.targets ∙ ap (λ (n : ℕ). Some n) (ap (λ ts. target_at ts 1) (sym two.targets)),
        ap (λ ts. slice_get (blocks_of ts) 0) two.targets ∙ ap (λ (n : ℕ). Some n) (ap (λ ts. target_at ts 0) (sym two.targets)),
      )

  entered : (k p j : ℕ) (b : Block) (acc : List ℕ) → slice_get f.blocks k ≡ Some b → Out code f well half k acc → slice_get (blocks_of b.term.targets) p ≡ Some j → BodyHolds code f well half j acc
  entered k p j b acc at o leads =
      let both : Some b ≡ Some o.block = sym at ∙ o.at in
      let same : b ≡ o.block = cc in
      enter code f well half k p j acc o (subst (λ (x : Block). slice_get (blocks_of x.term.targets) p ≡ Some j) same leads)

  end_step : (k : ℕ) (b : Block) (at : slice_get f.blocks k ≡ Some b) (e : End) → end_of f b ≡ e → (a : ℕ) (m : Label) → slice_get (end_leads e k b.term.targets) a ≡ Some m
      → (acc : List ℕ) → BodyHolds code f well half k acc → H m (acc ++ block_assigns (body f k (Some b)))
  end_step k b at end.Stays is a m leads acc h =
      let r : (n : ℕ) × (slice_get (blocks_of b.term.targets) a ≡ Some n) × (Body n ≡ m) = mapped_back (λ (n : ℕ). Body n) (blocks_of b.term.targets) a m leads in
      subst (λ l. H l (acc ++ block_assigns (body f k (Some b)))) r.2
      (entered k a r.0 b (acc ++ block_assigns (body f k (Some b))) at (stays_out code f well half k b acc at (ap is_emptied is) h) r.1)
  end_step k b at end.Waits is zero m leads acc h =
      let same : Body (target_at b.term.targets 1) ≡ m = cc in
      subst (λ l. H l (acc ++ block_assigns (body f k (Some b)))) same
      (entered k 1 (target_at b.term.targets 1) b (acc ++ block_assigns (body f k (Some b))) at (stays_out code f well half k b acc at (ap is_emptied is) h) (await_to k b at (ap waits is)).0)
  end_step k b at end.Waits is (suc zero) m leads acc h =
      let same : Body (target_at b.term.targets 0) ≡ m = cc in
      subst (λ l. H l (acc ++ block_assigns (body f k (Some b)))) same
      (entered k 0 (target_at b.term.targets 0) b (acc ++ block_assigns (body f k (Some b))) at (stays_out code f well half k b acc at (ap is_emptied is) h) (await_to k b at (ap waits is)).1)
  end_step k b at end.Waits is (suc (suc a)) m leads acc h = cc
  end_step k b at end.Suspends is zero m leads acc h =
      let same : Next k ≡ m = cc in
      subst (λ l. H l (acc ++ block_assigns (body f k (Some b)))) same (stays_out code f well half k b acc at (ap is_emptied is) h)
  end_step k b at end.Suspends is (suc a) m leads acc h = cc
  end_step k b at end.Gives is zero m leads acc h =
      let same : Cleanup ≡ m = cc in
      subst (λ l. H l (acc ++ block_assigns (body f k (Some b)))) same
      (sub_then (D Entry) acc (acc ++ block_assigns (body f k (Some b))) (h.base (task_at b (ap is_task_end is))) (sub_left acc (block_assigns (body f k (Some b)))))
  end_step k b at end.Gives is (suc a) m leads acc h = cc
  end_step k b at end.Fails is zero m leads acc h =
      let same : SetsError ≡ m = cc in
      subst (λ l. H l (acc ++ block_assigns (body f k (Some b)))) same
      (sub_then (D Entry) acc (acc ++ block_assigns (body f k (Some b))) (h.base (task_at b (ap is_task_end is))) (sub_left acc (block_assigns (body f k (Some b)))))
  end_step k b at end.Fails is (suc a) m leads acc h = cc

  body_step : (k : ℕ) (o : Option Block) → slice_get f.blocks k ≡ o → (a : ℕ) (m : Label) → slice_get (body_leads f k o) a ≡ Some m → (acc : List ℕ) → BodyHolds code f well half k acc → H m (acc ++ block_assigns (body f k o))
  body_step k None at a m leads acc h = cc
  body_step k (Some b) at a m leads acc h = end_step k b at (end_of f b) refl a m leads acc h

  next_step : (k : ℕ) (s : Suspending code f well half k) (o : Option Block) → slice_get f.blocks k ≡ o → (a : ℕ) (m : Label) → slice_get (next_leads o) a ≡ Some m → (acc more : List ℕ) → Out code f well half k acc → H m (acc ++ more)
  next_step k s None at a m leads acc more h = cc
  next_step k s (Some b) at zero m leads acc more h =
      let block : s.block ≡ b = cc (s.at, at) in
      let is : end_of f b ≡ end.Suspends = ap (end_of f) (sym block) ∙ s.is in
      let same : Body (target_at b.term.targets 1) ≡ m = cc in
      subst (λ l. H l (acc ++ more)) same (entered k 1 (target_at b.term.targets 1) b (acc ++ more) at (out_more code f well half k acc more h) (await_to k b at (ap waits is)).0)
  next_step k s (Some b) at (suc zero) m leads acc more h =
      let block : s.block ≡ b = cc (s.at, at) in
      let is : end_of f b ≡ end.Suspends = ap (end_of f) (sym block) ∙ s.is in
      let same : Body (target_at b.term.targets 0) ≡ m = cc in
      subst (λ l. H l (acc ++ more)) same (entered k 0 (target_at b.term.targets 0) b (acc ++ more) at (out_more code f well half k acc more h) (await_to k b at (ap waits is)).1)
  next_step k s (Some b) at (suc (suc a)) m leads acc more h = cc

  step : (l : Label) → Among l (layout f) → (a : ℕ) (m : Label) → slice_get (leads f l) a ≡ Some m → (acc : List ℕ) → H l acc → H m (acc ++ D l)
  step Entry among zero m at acc h = let same : Suspended ≡ m = cc in subst (λ l. H l (acc ++ D Entry)) same (sub_right acc (D Entry))
  step Entry among (suc zero) m at acc h =
      let same : Body 0 ≡ m = cc in
      subst (λ l. H l (acc ++ D Entry)) same
      (start_holds code f well half (acc ++ D Entry) (sub_then (numbers f.params) acc (acc ++ D Entry) h (sub_left acc (D Entry))) (λ task. sub_right acc (D Entry)))
  step Entry among (suc (suc a)) m at acc h = cc
  step (Body k) among a m at acc h = body_step k (slice_get f.blocks k) refl a m at acc h
  step (Next k) among a m at acc h = next_step k (next_suspends code f well half k among) (slice_get f.blocks k) refl a m at acc (D (Next k)) h
  step SetsError among zero m at acc h = let same : Cleanup ≡ m = cc in subst (λ l. H l (acc ++ D SetsError)) same (sub_then (D Entry) acc (acc ++ D SetsError) h (sub_left acc (D SetsError)))
  step SetsError among (suc a) m at acc h = cc
  step Cleanup among a m at acc h = cc
  step Suspended among a m at acc h = cc

  made_at : (i : ℕ) (l : Label) → slice_get (layout f) i ≡ Some l → list_at (assigns new) i ≡ D l
  made_at i l at = mapped_at block_assigns new.blocks i (label_block f l) (mapped_there (label_block f) (layout f) i l at)

  walk : (path : List ℕ) (i : ℕ) (l m : Label) (acc : List ℕ) → slice_get (layout f) i ≡ Some l → H l acc → IsPath (edges new) i path → slice_get (layout f) (last_of i path) ≡ Some m → H m (acc ++ assigned_on (assigns new) i path)
  walk [] i l m acc at h follows there =
      let both : Some l ≡ Some m = sym at ∙ there in
      let same : l ≡ m = cc in
      subst (λ xs. H m xs) (sym (append-nil acc)) (subst (λ x. H x acc) same h)
  walk (c ∷ path) i l m acc at h follows there =
      let r : (a : ℕ) × (slice_get (list_at (edges new) i) a ≡ Some c) = at_has (list_at (edges new) i) c follows.0.0 in
      let e : Lead f half.plain i r.0 c = lead_of f half.plain i r.0 c r.1 in
      let both : Some e.source ≡ Some l = sym e.from ∙ at in
      let same : e.source ≡ l = cc in
      let leads_on : slice_get (leads f l) r.0 ≡ Some e.target = subst (λ x. slice_get (leads f x) r.0 ≡ Some e.target) same e.at in
      let stands_there : slice_get (layout f) c ≡ Some e.target = subst (λ n. slice_get (layout f) n ≡ Some e.target) e.place (place_there f e.target (leads_in code f well half l (i, at) r.0 e.target leads_on)) in
      let more : H e.target (acc ++ D l) = step l (i, at) r.0 e.target leads_on acc h in
      let all : H m ((acc ++ D l) ++ assigned_on (assigns new) c path) = walk path c e.target m (acc ++ D l) stands_there more follows.1 there in
      subst (λ xs. H m xs) (append_assoc acc (D l) (assigned_on (assigns new) c path) ∙ ap (λ xs. acc ++ (xs ++ assigned_on (assigns new) c path)) (sym (made_at i l at))) all

  -- ---- what the blocks use is given

  return_types : (k : ℕ) (b : Block) → slice_get f.blocks k ≡ Some b → end_of f b ≡ end.Gives → haves (types f b.term.instr.operands) f.results ≡ true
  return_types k b at is =
      let g = gives_is f.coroutine b.term.instr.kind is in
      let first : instr_fits code f b.term.instr ≡ true = and_left (instr_fits code f b.term.instr) (targets_fit (row_of b.term.instr.kind).targets code f b.term.instr b.term.targets) (term_at code f well half k b at) in
      let seen_so : fits_as (row_of b.term.instr.kind) (sight code f b.term.instr) ≡ true = sym (fits_is code f b.term.instr (row_of b.term.instr.kind)) ∙ first in
      return_haves (sight code f b.term.instr) (subst (λ x. fits_as (row_of x) (sight code f b.term.instr) ≡ true) g.1 seen_so)

  held_facts : (k : ℕ) (b : Block) (acc : List ℕ) → slice_get f.blocks k ≡ Some b → BodyHolds code f well half k acc → Facts f k b acc
  held_facts k b acc at h = record {
    inner = (numbers f.params ++ assigned_on (assigns f) 0 h.path) ++ numbers b.params;
    good = good_at_block code f well half k b h.path at h.follows h.last;
    has_inner = sub_append (numbers f.params ++ assigned_on (assigns f) 0 h.path) (numbers b.params) acc (numbers b.params) h.given (sub_self (numbers b.params));
    loaded = h.loaded;
    base = h.base;
    given = return_types k b at;
  }

  bare : (acc : List ℕ) (xs : List Instr) (t : Term) → Good acc xs t → Good (acc ++ []) xs t
  bare acc xs t good = good_more acc (acc ++ []) xs t (sub_left acc []) good

  abbrev Fine : Label → List ℕ → Type 0
  Fine l acc = Good (acc ++ numbers (label_block f l).params) (label_block f l).instrs (label_block f l).term

  body_fine : (k : ℕ) (o : Option Block) → slice_get f.blocks k ≡ o → (acc : List ℕ) → ((b : Block) → slice_get f.blocks k ≡ Some b → Facts f k b acc) → Good (acc ++ numbers (body f k o).params) (body f k o).instrs (body f k o).term
  body_fine k None at acc facts = sub_nothing (acc ++ [])
  body_fine k (Some b) at acc facts = body_good f k b acc (facts b at)

  next_fine : (k : ℕ) (o : Option Block) → slice_get f.blocks k ≡ o → (acc : List ℕ) → ((b : Block) → slice_get f.blocks k ≡ Some b → Sub (numbers b.term.instr.operands) acc) → Good (acc ++ numbers (next f k o).params) (next f k o).instrs (next f k o).term
  next_fine k None at acc used = sub_nothing (acc ++ [])
  next_fine k (Some b) at acc used = next_good f acc k b (used b at)

  next_ops : (k : ℕ) (acc : List ℕ) → Out code f well half k acc → (b : Block) → slice_get f.blocks k ≡ Some b → Sub (numbers b.term.instr.operands) acc
  next_ops k acc o b at =
      let both : Some o.block ≡ Some b = sym o.at ∙ at in
      let same : o.block ≡ b = cc in
      subst (λ (x : Block). Sub (numbers x.term.instr.operands) acc) same (sub_front (numbers o.block.term.instr.operands) (args_of o.block.term.targets) acc (end_given code f well half k acc o))

  label_good : (l : Label) (acc : List ℕ) → H l acc → Fine l acc
  label_good Entry acc h = bare acc (label_block f Entry).instrs (label_block f Entry).term (entry_good f acc)
  label_good (Body k) acc h = body_fine k (slice_get f.blocks k) refl acc (λ b at. held_facts k b acc at h)
  label_good (Next k) acc h = next_fine k (slice_get f.blocks k) refl acc (next_ops k acc h)
  label_good SetsError acc h = bare acc (label_block f SetsError).instrs (label_block f SetsError).term (error_good f acc h)
  label_good Cleanup acc h = bare acc (label_block f Cleanup).instrs (label_block f Cleanup).term (cleanup_good f acc h)
  label_good Suspended acc h = bare acc (label_block f Suspended).instrs (label_block f Suspended).term (suspended_good f acc h)

  -- where the code begins
  starts : (l : Label) × (slice_get (layout f) 0 ≡ Some l) × H l (numbers f.params)
  starts = by f.coroutine refl
    where
      by : (c : Bool) → f.coroutine ≡ c → (l : Label) × (slice_get (layout f) 0 ≡ Some l) × H l (numbers f.params)
      by true task = (Entry, ap (λ ls. slice_get ls 0) (task_layout f task), sub_self (numbers f.params))
      by false plain = (Body 0, first_plain f plain (some_blocks f.blocks well.start), start_holds code f well half (numbers f.params) (sub_self (numbers f.params)) (λ task. cc))

  given_new : AreGiven code new
  given_new path c follows there =
      let m : (l : Label) × (slice_get (layout f) (last_of 0 path) ≡ Some l) × (label_block f l ≡ c) = mapped_back (label_block f) (layout f) (last_of 0 path) c there in
      let h : H m.0 (numbers f.params ++ assigned_on (assigns new) 0 path) = walk path 0 starts.0 m.0 (numbers f.params) starts.1 starts.2 follows m.1 in
      let good : Fine m.0 (numbers f.params ++ assigned_on (assigns new) 0 path) = label_good m.0 (numbers f.params ++ assigned_on (assigns new) 0 path) h in
      subst (λ (x : Block). Good (Before code new path x) x.instrs x.term) m.2
      (good_more ((numbers f.params ++ assigned_on (assigns new) 0 path) ++ numbers (label_block f m.0).params) (Before code new path (label_block f m.0)) (label_block f m.0).instrs (label_block f m.0).term
      (sub_same ((numbers f.params ++ assigned_on (assigns new) 0 path) ++ numbers (label_block f m.0).params) (Before code new path (label_block f m.0)) (append_assoc (numbers f.params) (assigned_on (assigns new) 0 path) (numbers (label_block f m.0).params))) good)

  pub lowered_assigned : UsesAssigned new
  lowered_assigned = assigned_where code new given_new

  -- ---- each use is of a register that is defined

  abbrev all : List ℕ
  all = definitions new

  label_in : (l : Label) → Among l (layout f) → Sub (D l) all
  label_in l a = sub_then (D l) (joined (map block_assigns new.blocks)) all
      (joined_has block_assigns new.blocks a.0 (label_block f l) (mapped_there (label_block f) (layout f) a.0 l a.1)) (sub_right (numbers f.params) (joined (map block_assigns new.blocks)))

  kept_block : (k : ℕ) (b : Block) → slice_get f.blocks k ≡ Some b → (e : Bool) → is_emptied (end_of f b) ≡ e → Sub (cond (not e) (block_assigns b) []) all
  kept_block k b at true is = sub_nothing all
  kept_block k b at false is =
      sub_then (block_assigns b) (block_assigns (body f k (Some b))) all (block_kept (end_of f b) f k b is)
      (subst (λ o. Sub (block_assigns (body f k o)) all) at (label_in (Body k) (block_in code f well half k (slice_get_within f.blocks k b at))))

  kept_all : (blocks : List Block) → ((k : ℕ) (b : Block) → slice_get blocks k ≡ Some b → Sub (kept_assigns f b) all) → Sub (joined (map (kept_assigns f) blocks)) all
  kept_all [] each = sub_nothing all
  kept_all (b ∷ blocks) each = sub_both (kept_assigns f b) (joined (map (kept_assigns f) blocks)) all (each 0 b refl) (kept_all blocks (λ k c at. each (suc k) c at))

  kept_in : Sub (kept_definitions f) all
  kept_in = sub_both (numbers f.params) (joined (map (kept_assigns f) f.blocks)) all (sub_left (numbers f.params) (joined (map block_assigns new.blocks)))
      (kept_all f.blocks (λ k b at. kept_block k b at (is_emptied (end_of f b)) refl))

  kept_uses : (k : ℕ) (b : Block) → slice_get f.blocks k ≡ Some b → stays f b ≡ true → Sub (block_uses b) all
  kept_uses k b at kept r uses = kept_in r (half.kept k b r at kept uses)

  entry_in_all : f.coroutine ≡ true → Sub (D Entry) all
  entry_in_all task = label_in Entry (subst (λ ls. Among Entry ls) (sym (task_layout f task)) (0, refl))

  waits_stay : (e : End) → waits e ≡ true → not (is_emptied e) ≡ true
  waits_stay end.Waits is = refl
  waits_stay end.Suspends is = refl
  waits_stay e is = cc

  await_waits : (c : Bool) (kind : LowKind) → kind ≡ Await → waits (cond c (task_end kind) (plain_end kind)) ≡ true
  await_waits c kind is = subst (λ x. waits (cond c (task_end x) (plain_end x)) ≡ true) (sym is) (by c)
    where
      by : (c : Bool) → waits (cond c (task_end Await) (plain_end Await)) ≡ true
      by true = refl
      by false = refl

  await_ops : (k : ℕ) (b : Block) → slice_get f.blocks k ≡ Some b → waits (end_of f b) ≡ true → Sub (numbers b.term.instr.operands) all
  await_ops k b at is =
      sub_front (numbers b.term.instr.operands) (args_of b.term.targets) all (sub_back (used_by b.instrs) (used_at_end b.term) all (kept_uses k b at (waits_stay (end_of f b) is)))

  all_facts : (k : ℕ) (b : Block) → slice_get f.blocks k ≡ Some b → stays f b ≡ true → Facts f k b all
  all_facts k b at kept = record {
    inner = all;
    good = good_all all b.instrs b.term (sub_front (used_by b.instrs) (used_at_end b.term) all (kept_uses k b at kept)) (sub_back (used_by b.instrs) (used_at_end b.term) all (kept_uses k b at kept));
    has_inner = sub_left all (numbers b.params);
    loaded = λ w x is here.
        (let a : AwaitsAt f w k = awaiting_from code f well half k w (slice_get_within f.blocks k b at) is in
        let both : Some a.block ≡ Some x = sym a.at ∙ here in
        let same : a.block ≡ x = cc in
        await_ops w x here (await_waits f.coroutine x.term.instr.kind (ap (λ (y : Block). y.term.instr.kind) (sym same) ∙ a.kind)));
    base = entry_in_all;
    given = return_types k b at;
  }

  -- an emptied block uses nothing
  emptied_good : (e : End) (k : ℕ) (b : Block) → is_emptied e ≡ true → (acc : List ℕ) → Good acc (instrs_of e f k b) (term_of e f k b.term)
  emptied_good end.Fails k b is acc = sub_nothing acc
  emptied_good end.Stays k b is acc = cc
  emptied_good end.Waits k b is acc = cc
  emptied_good end.Suspends k b is acc = cc
  emptied_good end.Gives k b is acc = cc

  body_all : (k : ℕ) (o : Option Block) → slice_get f.blocks k ≡ o → Good (all ++ numbers (body f k o).params) (body f k o).instrs (body f k o).term
  body_all k None at = sub_nothing (all ++ [])
  body_all k (Some b) at = by (is_emptied (end_of f b)) refl
    where
      by : (c : Bool) → is_emptied (end_of f b) ≡ c → Good (all ++ numbers (body f k (Some b)).params) (body f k (Some b)).instrs (body f k (Some b)).term
      by true is = emptied_good (end_of f b) k b is (all ++ numbers (body f k (Some b)).params)
      by false is = body_good f k b all (all_facts k b at (ap not is))

  label_all : (l : Label) → Among l (layout f) → Fine l all
  label_all Entry a = bare all (label_block f Entry).instrs (label_block f Entry).term (entry_good f all)
  label_all (Body k) a = body_all k (slice_get f.blocks k) refl
  label_all (Next k) a =
      let s : Suspending code f well half k = next_suspends code f well half k a in
      next_fine k (slice_get f.blocks k) refl all (λ b at. (let same : s.block ≡ b = cc (s.at, at) in await_ops k b at (ap waits (ap (end_of f) (sym same) ∙ s.is))))
  label_all SetsError a = bare all (label_block f SetsError).instrs (label_block f SetsError).term (error_good f all (entry_in_all (own_task f SetsError refl a)))
  label_all Cleanup a = bare all (label_block f Cleanup).instrs (label_block f Cleanup).term (cleanup_good f all (entry_in_all (own_task f Cleanup refl a)))
  label_all Suspended a = bare all (label_block f Suspended).instrs (label_block f Suspended).term (suspended_good f all (entry_in_all (own_task f Suspended refl a)))

  label_uses : (l : Label) → Among l (layout f) → Sub (block_uses (label_block f l)) all
  label_uses l a =
      let b : Block = label_block f l in
      let own : Sub (numbers b.params ++ assigned_by b.instrs) all = label_in l a in
      sub_then (block_uses b) ((all ++ numbers b.params) ++ assigned_by b.instrs) all (good_uses (all ++ numbers b.params) b.instrs b.term (label_all l a))
      (sub_both (all ++ numbers b.params) (assigned_by b.instrs) all (sub_both all (numbers b.params) all (sub_self all) (sub_front (numbers b.params) (assigned_by b.instrs) all own)) (sub_back (numbers b.params) (assigned_by b.instrs) all own))

  pub lowered_defined : UsesDefined new
  lowered_defined k c r at uses =
      let m : (l : Label) × (slice_get (layout f) k ≡ Some l) × (label_block f l ≡ c) = mapped_back (label_block f) (layout f) k c at in
      label_uses m.0 (k, m.1) r (subst (λ (x : Block). has r (block_uses x) ≡ true) (sym m.2) uses)

  -- ---- the first block

  no_length : (rs : List Reg) → rs ≡ [] → (length rs == 0) ≡ true
  no_length rs is = ap (λ xs. length xs == 0) is

  starts_by : (ls : List Label) (l : Label) → slice_get ls 0 ≡ Some l → (label_block f l).params ≡ [] → starts_bare (map (label_block f) ls) ≡ true
  starts_by [] l at none = cc
  starts_by (m ∷ ls) l at none = (let same : m ≡ l = cc in no_length (label_block f m).params (ap (λ x. (label_block f x).params) same ∙ none))

  old_start : (blocks : List Block) (b : Block) → starts_bare blocks ≡ true → slice_get blocks 0 ≡ Some b → b.params ≡ []
  old_start [] b is at = cc
  old_start (c ∷ blocks) b is at = (let same : c ≡ b = cc in nil_by b.params (subst (λ (x : Block). (length x.params == 0) ≡ true) same is))
    where
      nil_by : (rs : List Reg) → (length rs == 0) ≡ true → rs ≡ []
      nil_by [] none = refl
      nil_by (r ∷ rs) none = (let zero_is : suc (length rs) ≡ 0 = eqb-true (suc (length rs)) 0 none in absurd (omega (arith, zero_is)))

  left_nothing : (o : Option ℕ) (rs : List Reg) → rs ≡ [] → params_left o rs ≡ []
  left_nothing None rs is = is
  left_nothing (Some n) rs is = refl

  first_params : (o : Option Block) → slice_get f.blocks 0 ≡ o → (body f 0 o).params ≡ []
  first_params None at = refl
  first_params (Some b) at = left_nothing (awaiting f 0) b.params (old_start f.blocks b well.start at)

  pub lowered_has_start : has_start new ≡ true
  lowered_has_start = by f.coroutine refl
    where
      by : (c : Bool) → f.coroutine ≡ c → has_start new ≡ true
      by true task = starts_by (layout f) Entry (ap (λ ls. slice_get ls 0) (task_layout f task)) refl
      by false plain = starts_by (layout f) (Body 0) (first_plain f plain (some_blocks f.blocks well.start)) (first_params (slice_get f.blocks 0) refl)

-- ---- counts

abbrev small : Instr → Bool
small i = count_is_small i.attr

small_called : (instrs : List Instr) → every small instrs ≡ true → every small (map called instrs) ≡ true
small_called [] each = refl
small_called (i ∷ instrs) each = and_both (small i) (every small (map called instrs)) (and_left (small i) (every small instrs) each) (small_called instrs (and_right (small i) (every small instrs) each))

module _ (f : LowFunc) where
  small_loads : (o : Option ℕ) (params : List Reg) → every small (loads f o params) ≡ true
  small_loads None params = refl
  small_loads (Some w) [] = refl
  small_loads (Some w) (r ∷ rs) = refl

  small_gives : (j : ℕ) (vs : List Reg) → every small (gives f j vs) ≡ true
  small_gives j [] = refl
  small_gives j (v ∷ vs) = small_gives (j + 1) vs

  small_before : (e : End) (k : ℕ) (rs : List Reg) → every small (before_end e f k rs) ≡ true
  small_before end.Stays k rs = refl
  small_before end.Waits k rs = refl
  small_before end.Suspends k rs = refl
  small_before end.Gives k rs = small_gives 1 rs
  small_before end.Fails k rs = refl

  small_end : (e : End) (k : ℕ) (b : Block) → counts_small b ≡ true → (every small (instrs_of e f k b) ≡ true) × (small (term_of e f k b.term).instr ≡ true)
  small_end e k b is = (by e, last e)
    where
      front : every small (loads f (awaiting f k) b.params ++ map called b.instrs) ≡ true
      front = every_append small (loads f (awaiting f k) b.params) (map called b.instrs) (small_loads (awaiting f k) b.params) (small_called b.instrs (and_left (every small b.instrs) (small b.term.instr) is))

      by : (e : End) → every small (instrs_of e f k b) ≡ true
      by end.Fails = refl
      by end.Stays = every_append small (loads f (awaiting f k) b.params ++ map called b.instrs) [] front refl
      by end.Waits = every_append small (loads f (awaiting f k) b.params ++ map called b.instrs) (before_end end.Waits f k b.term.instr.operands) front refl
      by end.Suspends = every_append small (loads f (awaiting f k) b.params ++ map called b.instrs) (before_end end.Suspends f k b.term.instr.operands) front refl
      by end.Gives = every_append small (loads f (awaiting f k) b.params ++ map called b.instrs) (before_end end.Gives f k b.term.instr.operands) front (small_gives 1 b.term.instr.operands)

      last : (e : End) → small (term_of e f k b.term).instr ≡ true
      last end.Stays = and_right (every small b.instrs) (small b.term.instr) is
      last end.Waits = refl
      last end.Suspends = refl
      last end.Gives = refl
      last end.Fails = refl

  small_creates : (rs : List Reg) → every small (map create rs) ≡ true
  small_creates [] = refl
  small_creates (r ∷ rs) = small_creates rs

  small_errors : (rs : List Reg) → every small (map set_error rs) ≡ true
  small_errors [] = refl
  small_errors (r ∷ rs) = small_errors rs

  module _ (is : every counts_small f.blocks ≡ true) where
    small_body : (k : ℕ) (o : Option Block) → slice_get f.blocks k ≡ o → counts_small (body f k o) ≡ true
    small_body k None at = refl
    small_body k (Some b) at =
        let r = small_end (end_of f b) k b (every_at counts_small f.blocks k b is at) in
        and_both (every small (instrs_of (end_of f b) f k b)) (small (term_of (end_of f b) f k b.term).instr) r.0 r.1

    small_next : (k : ℕ) (o : Option Block) → counts_small (next f k o) ≡ true
    small_next k None = refl
    small_next k (Some b) = refl

    small_label : (l : Label) → counts_small (label_block f l) ≡ true
    small_label Entry = and_both (every small (label_block f Entry).instrs) true (every_append small (map create (token f ∷ values f)) (begins f) (small_creates (token f ∷ values f)) refl) refl
    small_label (Body k) = small_body k (slice_get f.blocks k) refl
    small_label (Next k) = small_next k (slice_get f.blocks k)
    small_label SetsError = and_both (every small (label_block f SetsError).instrs) true (small_errors (values f ++ token f ∷ [])) refl
    small_label Cleanup = refl
    small_label Suspended = refl

    lowered_counts : every counts_small (lowered f).blocks ≡ true
    lowered_counts = every_from counts_small (lowered f).blocks (λ k c at.
        (let m = mapped_back (label_block f) (layout f) k c at in subst (λ (x : Block). counts_small x ≡ true) m.2 (small_label m.0)))

runtime_counts : (f : LowFunc) → every counts_small (runtime_func f).blocks ≡ every counts_small (lowered f).blocks
unfolding runtime_func
runtime_counts f = counts_renamed (place_in (definitions (lowered f))) (lowered f).blocks

pub counts_stay_small : CountsSmall
counts_stay_small f is = runtime_counts f ∙ lowered_counts f is

-- ---- all together

module _ (code : LowModule) (well : WellFormed code) (halves : HalfLowered code) where
  lowered_well : WellFormed (lowered_code code)
  lowered_well k g at =
      let m : (f : LowFunc) × (slice_get code.funcs k ≡ Some f) × (lowered f ≡ g) = mapped_back lowered code.funcs k g at in
      subst (λ x. IsWellFormed (lowered_code code) x) m.2 (func_well k m.0 m.1)
    where
      func_well : (k : ℕ) (f : LowFunc) → slice_get code.funcs k ≡ Some f → IsWellFormed (lowered_code code) (lowered f)
      func_well k f there =
          let is : IsWellFormed code f = well k f there in
          let half : IsHalfLowered f = halves k f there in
          record {
            params_within = within_left f f.params is.params_within;
            within = all_within code well halves k f there;
            start = lowered_has_start code f is half;
            fits = all_fit code well halves k f there;
            assigned = lowered_assigned code f is half;
            uncritical = lowered_uncritical code f is half;
            counts = lowered_counts f is.counts;
            not_to_start = lowered_start code f is half;
            saves = (lowered_saves f half.plain).saves;
            alone = (lowered_saves f half.plain).alone;
            first_save = (lowered_saves f half.plain).first_save;
          }

  lowered_all_defined : AllDefined (lowered_code code)
  lowered_all_defined k g at =
      let m : (f : LowFunc) × (slice_get code.funcs k ≡ Some f) × (lowered f ≡ g) = mapped_back lowered code.funcs k g at in
      subst (λ x. UsesDefined x) m.2 (lowered_defined code m.0 (well k m.0 m.1) (halves k m.0 m.1))

runtime_is : (f : LowFunc) → renumbered (lowered f) ≡ runtime_func f
unfolding runtime_func
runtime_is f = refl

runtime_funcs : (funcs : List LowFunc) → map renumbered (map lowered funcs) ≡ map runtime_func funcs
runtime_funcs [] = refl
runtime_funcs (f ∷ funcs) = ap (λ (g : LowFunc). g ∷ map renumbered (map lowered funcs)) (runtime_is f) ∙ ap (λ (gs : List LowFunc). runtime_func f ∷ gs) (runtime_funcs funcs)

abbrev code_of : List LowFunc → LowModule
code_of funcs = record { funcs = funcs }

pub runtime_well_formed : RuntimeWellFormed
runtime_well_formed code well halves =
    subst (λ funcs. WellFormed (code_of funcs)) (runtime_funcs code.funcs) (renumbered_well_formed (lowered_code code) (lowered_well code well halves) (lowered_all_defined code well halves))
