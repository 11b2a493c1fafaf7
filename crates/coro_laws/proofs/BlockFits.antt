-- Each block that the pass makes of a block fits.
use Rattle.std.proofs.Common.{◌≡◌, ℕ, zero, suc, ◌<◌, ◌==◌, ◌&&◌, nat_lt, cond, not, Bool, true, false, List, [], ◌∷◌, ◌++◌, map, length, Option, Some, None, refl, sym, ap, ◌∙◌, subst, arith}
use Rattle.std.specs.Prelude.{slice_get}
use Rattle.std.proofs.lemmas.Bool.{ltb-true, lt-ltb, eqb-true}
use Rattle.std.proofs.lemmas.Option.{slice_get_within}
use Rattle.op_table.specs.declared.kind.OpKind.{OpKind}
use Rattle.op_table.specs.declared.kind.OpKind.TheVariants as op
use Rattle.ir_forms.specs.declared.types.Ty.{Ty}
use Rattle.ir_verify.specs.Types.{holds}
use Rattle.low_flow.specs.Lists.{list_at}
use Rattle.low_forms.specs.declared.code.LowKind.{LowKind}
use Rattle.low_forms.specs.declared.code.LowKind.TheVariants.{Row, Launch, Await}
use Rattle.low_forms.specs.declared.code.Reg.{Reg}
use Rattle.low_forms.specs.declared.code.Instr.{Instr}
use Rattle.low_forms.specs.declared.code.Target.{Target}
use Rattle.low_forms.specs.declared.code.Term.{Term}
use Rattle.low_forms.specs.declared.code.Block.{Block}
use Rattle.low_forms.specs.declared.code.LowFunc.{LowFunc}
use Rattle.low_forms.specs.declared.code.LowModule.{LowModule}
use Rattle.low_forms.specs.declared.row.Targets.{Targets}
use Rattle.low_forms.specs.Rows.{row_of, row_of_kind}
use Rattle.low_forms.specs.Registers.{every, reg_type, on_types, type_at, like_types, block_at}
use Rattle.low_forms.specs.Numbers.{regs_within, instr_within, target_within, block_within, starts_bare}
use Rattle.low_forms.specs.Edges.{blocks_of, edges}
use Rattle.low_forms.specs.Fits as fits
use Rattle.low_forms.specs.WellFormed.{IsWellFormed, WellFormed}
use Rattle.low_forms.proofs.Words.{and_left, and_right, and_both}
use Rattle.coro_lower.specs.declared.label.Label.{Label}
use Rattle.coro_lower.specs.declared.label.Label.TheVariants.{Entry, Next, Body, SetsError, Cleanup, Suspended}
use Rattle.coro_lower.specs.declared.label.End.{End}
use Rattle.coro_lower.specs.declared.label.End.TheVariants as end
use Rattle.coro_lower.specs.Layout.{plain_end, task_end, end_of, target_at, awaiting, layout, place}
use Rattle.coro_lower.specs.Registers.{saved, object_types}
use Rattle.coro_lower.specs.Rows.{row, call_kind, called, idle}
use Rattle.coro_lower.specs.Shape.{moved, is_error, term_of, before_end, loads, awaited_at, params_left, instrs_of, body, next, label_block, lowered}
use Rattle.register_laws.proofs.Lists.{every_at, every_from, mapped_back, mapped_there}
use Rattle.register_laws.proofs.Views.{types, Sight, sight, fits_is, fits_as, haves, Aim, aim, params_seen, targets_as, targets_is, same_args, slots_of, carries_fit, fills, results_by}
use Rattle.register_laws.proofs.Law.{none_asked}
use Rattle.register_laws.proofs.Good.{Parts, instr_parts}
use Rattle.coro_laws.specs.Half.{is_of_coroutines, holds_none, IsHalfLowered, HalfLowered}
use Rattle.coro_laws.specs.Laws.{FitsKept}
use Rattle.coro_laws.proofs.Lists.{Among}
use Rattle.coro_laws.proofs.Labels.{place_there}
use Rattle.coro_laws.proofs.Making.{none_holds, task_is, is_task_end, no_task_end}
use Rattle.coro_laws.proofs.Awaiting.{cleanup_in, suspended_in, own_task, AwaitsAt, Two, await_edges, awaiting_from, awaiting_is, one_go, go_edge, go_inside, waits, waits_await, edges_at, parts_at, term_at, edge_inside}
use Rattle.coro_laws.proofs.Edging.{block_in, end_in, next_suspends, Suspending}
use Rattle.coro_laws.proofs.Typed.{Have, types_left, within_left, value_at, saved_type, is_returned, returned_is, beside, targets_beside, calls_plain, lowered_code}
use Rattle.coro_laws.proofs.Fitting.{AllOk, ok_none, ok_more, ok_append, row_ok, kept_within, kept_fits, sight_new, called_ok, awaited, waits_ok, suspends_ok, given_ok, TermOk, Bare, bare_at, jump_ok, suspend_ok, branch_ok, BlockOk, block_ok, load_fits, entry_ok, error_ok, cleanup_ok, suspended_ok}

-- what a coroutine's return gives
pub return_haves : (v : Sight) → fits_as (row_of_kind op.FuncReturn) v ≡ true → haves v.operands v.given ≡ true
return_haves v is =
    let row = row_of_kind op.FuncReturn in
    let last : Bool = results_by row.results row.result v in
    let first : Bool = row.stands && carries_fit row.attr v v.attr in
    let fill : Bool = fills (slots_of row) row.rest v v.operands in
    sym (same v.operands) ∙ and_right first fill (and_left (first && fill) last is)
  where
    same : (ops : List (Option Ty)) → fills (slots_of (row_of_kind op.FuncReturn)) (row_of_kind op.FuncReturn).rest v ops ≡ haves ops v.given
    same [] = refl
    same (t ∷ ts) = refl

pub gives_is : (c : Bool) (kind : LowKind) → cond c (task_end kind) (plain_end kind) ≡ end.Gives → (c ≡ true) × (kind ≡ Row op.FuncReturn)
gives_is true Await is = cc
gives_is false Await is = cc
gives_is true Launch is = cc
gives_is false Launch is = cc
gives_is false (Row kind) is = cc
gives_is true (Row kind) is = by kind is
  where
    by : (kind : OpKind) → task_end (Row kind) ≡ end.Gives → (true ≡ true) × (Row kind ≡ Row op.FuncReturn)
    by op.FuncReturn is = (refl, refl)
    by op.AioFail is = cc
    by kind is = cc

kept_kind : (kind : LowKind) → fits.is_instruction (row_of kind).targets ≡ false → call_kind kind ≡ kind
kept_kind Launch is = cc
kept_kind Await is = refl
kept_kind (Row kind) is = refl

abbrev aim_of : List (Option Ty) → Option (List (Option Ty)) → Aim
aim_of ts ps = record { args = ts; params = ps }

same_moved : (f : LowFunc) (ts : List Target) → same_args (map (moved f) ts) ≡ same_args ts
same_moved f [] = refl
same_moved f (t ∷ []) = refl
same_moved f (t ∷ u ∷ []) = refl
same_moved f (t ∷ u ∷ w ∷ ts) = refl

beyond : {A : Type 0} → (xs : List A) (k : ℕ) → k < length xs → slice_get xs k ≡ None → ⊥
beyond [] k less none = absurd (omega (arith, less))
beyond (x ∷ xs) zero less none = cc
beyond (x ∷ xs) (suc k) less none = beyond xs k (omega (arith, less)) none

none_left : (o : Option ℕ) (rs : List Reg) → rs ≡ [] → params_left o rs ≡ []
none_left None rs is = is
none_left (Some n) rs is = refl

module _ (code : LowModule) (well : WellFormed code) (halves : HalfLowered code) (k0 : ℕ) (f : LowFunc) (there : slice_get code.funcs k0 ≡ Some f) where
  abbrev is : IsWellFormed code f
  is = well k0 f there

  abbrev half : IsHalfLowered f
  half = halves k0 f there

  abbrev new : LowFunc
  new = lowered f

  abbrev all : LowModule
  all = lowered_code code

  abbrev Fine : Block → Type 0
  Fine b = BlockOk code well halves k0 f there b

  abbrev Ready : List Instr → Type 0
  Ready xs = AllOk code well halves k0 f there xs

  abbrev Ended : Term → Type 0
  Ended t = TermOk code well halves k0 f there t

  abbrev Open : ℕ → Type 0
  Open n = Bare code well halves k0 f there n

  bare_body : (j : ℕ) → j < length f.blocks → ((c : Block) → slice_get f.blocks j ≡ Some c → params_left (awaiting f j) c.params ≡ []) → Open (place f (Body j))
  bare_body j less none = bare_at code well halves k0 f there (Body j) (block_in code f is half j less) (by (slice_get f.blocks j) refl)
    where
      by : (o : Option Block) → slice_get f.blocks j ≡ o → (body f j o).params ≡ []
      by None at = refl
      by (Some c) at = none c at

  next_params : (k : ℕ) (o : Option Block) → (next f k o).params ≡ []
  next_params k None = refl
  next_params k (Some b) = refl

  inside : (k : ℕ) (b : Block) → slice_get f.blocks k ≡ Some b → k < length f.blocks
  inside k b at = slice_get_within f.blocks k b at

  suspended_open : f.coroutine ≡ true → Open (place f Suspended)
  suspended_open task = bare_at code well halves k0 f there Suspended (suspended_in f task) refl

  cleanup_open : f.coroutine ≡ true → Open (place f Cleanup)
  cleanup_open task = bare_at code well halves k0 f there Cleanup (cleanup_in f task) refl

  task_of : (k : ℕ) (b : Block) → slice_get f.blocks k ≡ Some b → end_of f b ≡ end.Suspends → f.coroutine ≡ true
  task_of k b at e_is = by f.coroutine refl
    where
      by : (c : Bool) → f.coroutine ≡ c → f.coroutine ≡ true
      by true task = task
      by false plain = (let no : is_task_end (end_of f b) ≡ false = no_task_end f b plain in let yes_so : is_task_end (end_of f b) ≡ true = ap is_task_end e_is in cc)

  -- ---- what an await that goes on loads

  type_first : (ops : List Reg) (t : Ty) → types f ops ≡ Some t ∷ [] → type_at f ops 0 ≡ Some t
  type_first [] t has = cc
  type_first (r ∷ rs) t has = cc

  held_parts : (t : Ty) (r : Reg) (rs : List Reg) → fits.are_held f (Some t) (r ∷ rs) ≡ true → (rs ≡ []) × ((u : Ty) × (reg_type f r ≡ Some u) × (holds t u ≡ true))
  held_parts t r [] held = (refl, by (reg_type f r) refl held)
    where
      by : (o : Option Ty) → reg_type f r ≡ o → on_types holds (Some t) o ≡ true → (u : Ty) × (reg_type f r ≡ Some u) × (holds t u ≡ true)
      by None at held = cc
      by (Some u) at held = (u, at, held)
  held_parts t r (q ∷ rs) held = cc

  loads_ok : (k : ℕ) (b : Block) → slice_get f.blocks k ≡ Some b → (o : Option ℕ) → awaiting f k ≡ o → (params : List Reg) → b.params ≡ params → Ready (loads f o params)
  loads_ok k b at None waits params same = ok_none code well halves k0 f there
  loads_ok k b at (Some w) waits [] same = ok_none code well halves k0 f there
  loads_ok k b at (Some w) waits (r ∷ rs) same =
      let a : AwaitsAt f w k = awaiting_from code f is half k w (inside k b at) waits in
      let two : Two code f a.block.term = await_edges code f is half w a.block a.at a.kind in
      let go : two.go.block.0 ≡ k = ap (λ ts. target_at ts 0) (sym two.targets) ∙ a.go in
      let x = awaited code well halves k0 f there w a.block a.at a.kind in
      let i : Instr = a.block.term.instr in
      let bare_go : Bool = fits.is_bare two.go in
      let takes : fits.takes_held (block_at f two.go.block) f (type_at f i.operands 0) ≡ true =
      and_right bare_go (fits.takes_held (block_at f two.go.block) f (type_at f i.operands 0)) (and_left (bare_go && fits.takes_held (block_at f two.go.block) f (type_at f i.operands 0)) (fits.bare_fits f two.failed) two.fits) in
      let block : block_at f two.go.block ≡ Some b = ap (slice_get f.blocks) go ∙ at in
      let held : fits.are_held f (Some x.0) (r ∷ rs) ≡ true =
      ap (λ ps. fits.are_held f (Some x.0) ps) (sym same) ∙ ap (λ o. fits.are_held f o b.params) (sym (type_first i.operands x.0 x.3)) ∙ ap (λ o. fits.takes_held o f (type_at f i.operands 0)) (sym block) ∙ takes in
      let p = held_parts x.0 r rs held in
      let ops : awaited_at (slice_get f.blocks w) ≡ i.operands = ap awaited_at a.at in
      let one : Ready (row op.AsyncRuntimeLoad i.operands (r ∷ []) ∷ []) =
      ok_more code well halves k0 f there (row op.AsyncRuntimeLoad i.operands (r ∷ [])) []
      (row_ok code well halves k0 f there op.AsyncRuntimeLoad i.operands (r ∷ []) (x.0 ∷ []) (p.1.0 ∷ []) x.1 (loaded k b at r rs same p.1.0 p.1.1) refl (load_fits new.results x.0 p.1.0 p.1.2)) (ok_none code well halves k0 f there) in
      subst (λ os. Ready (row op.AsyncRuntimeLoad os (r ∷ rs) ∷ [])) (sym ops) (subst (λ qs. Ready (row op.AsyncRuntimeLoad i.operands (r ∷ qs) ∷ [])) (sym p.0) one)
    where
      loaded : (k : ℕ) (b : Block) → slice_get f.blocks k ≡ Some b → (r : Reg) (rs : List Reg) → b.params ≡ r ∷ rs → (u : Ty) → reg_type f r ≡ Some u → Have f (r ∷ []) (u ∷ [])
      loaded k b at r rs same u typed =
          let within : regs_within f (r ∷ rs) ≡ true = ap (regs_within f) (sym same) ∙ (parts_at code f is half k b at).params in
          types_left f (r ∷ []) (and_both (nat_lt r.0 (length f.regs)) true (and_left (nat_lt r.0 (length f.regs)) (regs_within f rs) within) refl) ∙ ap (λ o. o ∷ []) typed

  front_ok : (k : ℕ) (b : Block) → slice_get f.blocks k ≡ Some b → Ready (loads f (awaiting f k) b.params ++ map called b.instrs)
  front_ok k b at =
      let p : Parts code f b = parts_at code f is half k b at in
      let none : holds_none b ≡ true = every_at holds_none f.blocks k b half.plain at in
      let fit : fits.block_fits code f b ≡ true = every_at (fits.block_fits code f) f.blocks k b is.fits at in
      ok_append code well halves k0 f there (loads f (awaiting f k) b.params) (map called b.instrs) (loads_ok k b at (awaiting f k) refl b.params refl)
      (called_ok code well halves k0 f there b.instrs (and_left (every (λ i. not (is_of_coroutines i.kind)) b.instrs) (not (is_of_coroutines b.term.instr.kind)) none) p.instrs
      (and_left (every (fits.inner_fits code f) b.instrs) (fits.term_fits code f b.term) fit))

  params_ok : (o : Option ℕ) (rs : List Reg) → regs_within f rs ≡ true → regs_within new (params_left o rs) ≡ true
  params_ok None rs within = within_left f rs within
  params_ok (Some n) rs within = refl

  -- ---- where awaits go

  no_args : (args : List Reg) (rs : List Reg) → (length args == 0) ≡ true → like_types f args f rs ≡ true → rs ≡ []
  no_args [] [] none likes = refl
  no_args [] (r ∷ rs) none likes = cc
  no_args (a ∷ args) rs none likes = (let zero_is : suc (length args) ≡ 0 = eqb-true (suc (length args)) 0 none in absurd (omega (arith, zero_is)))

  module _ (k : ℕ) (b : Block) (at : slice_get f.blocks k ≡ Some b) (wait : b.term.instr.kind ≡ Await) where
    two_of : Two code f b.term
    two_of = await_edges code f is half k b at wait

    awaits_go : AwaitsAt f k (target_at b.term.targets 0)
    awaits_go = record { block = b; at = at; kind = wait; go = refl }

    go_open : Open (place f (Body (target_at b.term.targets 0)))
    go_open = bare_body (target_at b.term.targets 0) (go_inside code f is half k (target_at b.term.targets 0) awaits_go)
        (λ c here. ap (λ o. params_left o c.params) (awaiting_is code f is half k (target_at b.term.targets 0) awaits_go))

    failed_open : Open (place f (Body (target_at b.term.targets 1)))
    failed_open =
        let two : Two code f b.term = two_of in
        let failed : target_at b.term.targets 1 ≡ two.failed.block.0 = ap (λ ts. target_at ts 1) two.targets in
        let within : every (target_within f) (two.go ∷ two.failed ∷ []) ≡ true = subst (λ ts. every (target_within f) ts ≡ true) two.targets (parts_at code f is half k b at).targets in
        let less : two.failed.block.0 < length f.blocks = ltb-true two.failed.block.0 (length f.blocks) (and_left (nat_lt two.failed.block.0 (length f.blocks)) (regs_within f two.failed.args) (and_left (target_within f two.failed) true (and_right (target_within f two.go) (target_within f two.failed && true) within))) in
        let bare : fits.bare_fits f two.failed ≡ true = and_right (fits.is_bare two.go && fits.takes_held (block_at f two.go.block) f (type_at f b.term.instr.operands 0)) (fits.bare_fits f two.failed) two.fits in
        subst (λ n. Open (place f (Body n))) (sym failed)
        (bare_body two.failed.block.0 less (λ c here. none_left (awaiting f two.failed.block.0) c.params
        (no_args two.failed.args c.params (and_left (fits.is_bare two.failed) (fits.target_fits f two.failed) bare)
        (subst (λ o. fits.args_fit o f two.failed.args ≡ true) here (and_right (fits.is_bare two.failed) (fits.target_fits f two.failed) bare)))))

  -- ---- terminators that stay

  waiting_end : (c : Bool) (kind : LowKind) → kind ≡ Await → cond c (task_end kind) (plain_end kind) ≡ end.Stays → ⊥
  waiting_end c kind await stays = by c (subst (λ k. cond c (task_end k) (plain_end k) ≡ end.Stays) await stays)
    where
      by : (c : Bool) → cond c (task_end Await) (plain_end Await) ≡ end.Stays → ⊥
      by true e = cc
      by false e = cc

  module _ (k : ℕ) (b : Block) (at : slice_get f.blocks k ≡ Some b) (stay : end_of f b ≡ end.Stays) where
    abbrev t : Term
    t = b.term

    no_await_to : (a j : ℕ) → slice_get (blocks_of t.targets) a ≡ Some j → j < length f.blocks → awaiting f j ≡ None
    no_await_to a j leads less = by (awaiting f j) refl
      where
        by : (o : Option ℕ) → awaiting f j ≡ o → o ≡ None
        by None waits = refl
        by (Some w) waits =
            let x : AwaitsAt f w j = awaiting_from code f is half j w less waits in
            let here : slice_get (list_at (edges f) k) a ≡ Some j = ap (λ es. slice_get es a) (edges_at code f is half k b at) ∙ leads in
            let same : w ≡ k = (one_go code f is half w j x w 0 k a (go_edge code f is half w j x) here).0 in
            let both : Some x.block ≡ Some b = sym x.at ∙ ap (slice_get f.blocks) same ∙ at in
            let block : x.block ≡ b = cc in
            absurd (waiting_end f.coroutine b.term.instr.kind (ap (λ (c : Block). c.term.instr.kind) (sym block) ∙ x.kind) stay)

    params_moved : (a j : ℕ) → slice_get (blocks_of t.targets) a ≡ Some j → (o : Option Block) → slice_get f.blocks j ≡ o → params_seen new (Some (body f j o)) ≡ params_seen f o
    params_moved a j leads None here = absurd (beyond f.blocks j (edge_inside code f is half k b at a j leads) here)
    params_moved a j leads (Some c) here =
        let none : awaiting f j ≡ None = no_await_to a j leads (inside j c here) in
        ap (λ o. Some (types new (params_left o c.params))) none ∙ ap (λ (ts : List (Option Ty)). Some ts) (types_left f c.params (parts_at code f is half j c here).params)

    moved_aim : (a : ℕ) (u : Target) → slice_get t.targets a ≡ Some u → (aim new (moved f u) ≡ aim f u) × (target_within new (moved f u) ≡ true)
    moved_aim a u here =
        let j : ℕ = u.block.0 in
        let leads : slice_get (blocks_of t.targets) a ≡ Some j = mapped_there (λ x. x.block.0) t.targets a u here in
        let within : target_within f u ≡ true = every_at (target_within f) t.targets a u (parts_at code f is half k b at).targets here in
        let args : regs_within f u.args ≡ true = and_right (nat_lt j (length f.blocks)) (regs_within f u.args) within in
        let less : j < length f.blocks = ltb-true j (length f.blocks) (and_left (nat_lt j (length f.blocks)) (regs_within f u.args) within) in
        let stood : slice_get new.blocks (place f (Body j)) ≡ Some (label_block f (Body j)) = mapped_there (label_block f) (layout f) (place f (Body j)) (Body j) (place_there f (Body j) (block_in code f is half j less)) in (
          ap (λ ts. aim_of ts (params_seen new (block_at new (moved f u).block))) (types_left f u.args args)
              ∙ ap (λ o. aim_of (types f u.args) (params_seen new o)) stood
              ∙ ap (aim_of (types f u.args)) (params_moved a j leads (slice_get f.blocks j) refl),
          and_both (nat_lt (place f (Body j)) (length new.blocks)) (regs_within new u.args) (lt-ltb (place f (Body j)) (length new.blocks) (slice_get_within new.blocks (place f (Body j)) (label_block f (Body j)) stood)) (within_left f u.args args),
        )

    all_moved : (us : List Target) → ((a : ℕ) (u : Target) → slice_get us a ≡ Some u → (aim new (moved f u) ≡ aim f u) × (target_within new (moved f u) ≡ true))
        → (map (aim new) (map (moved f) us) ≡ map (aim f) us) × (every (target_within new) (map (moved f) us) ≡ true)
    all_moved [] each = (refl, refl)
    all_moved (u ∷ us) each =
        let here = each 0 u refl in
        let more = all_moved us (λ a w w_at. each (suc a) w w_at) in
        (ap (λ x. x ∷ map (aim new) (map (moved f) us)) here.0 ∙ ap (λ xs. aim f u ∷ xs) more.0, and_both (target_within new (moved f u)) (every (target_within new) (map (moved f) us)) here.1 more.1)

    same_results : is_returned (row_of t.instr.kind).rest ≡ true → new.results ≡ f.results
    same_results returned = by f.coroutine refl
      where
        by : (c : Bool) → f.coroutine ≡ c → new.results ≡ f.results
        by false plain = ap (λ c. cond c (object_types f.results) f.results) plain
        by true task =
            let ends : task_end (Row op.FuncReturn) ≡ end.Stays = ap task_end (sym (returned_is t.instr.kind returned)) ∙ sym (task_is f b task) ∙ stay in
            cc

    stays_ok : Ended (record t { targets = map (moved f) t.targets })
    stays_ok =
        let i : Instr = t.instr in
        let p : Parts code f b = parts_at code f is half k b at in
        let asked : Targets = (row_of i.kind).targets in
        let fit : fits.term_fits code f t ≡ true = term_at code f is half k b at in
        let first : fits.instr_fits code f i ≡ true = and_left (fits.instr_fits code f i) (fits.targets_fit asked code f i t.targets) fit in
        let second : fits.targets_fit asked code f i t.targets ≡ true = and_right (fits.instr_fits code f i) (fits.targets_fit asked code f i t.targets) fit in
        let kind : is_of_coroutines i.kind ≡ false = none_holds b (every_at holds_none f.blocks k b half.plain at) in
        let kept : call_kind i.kind ≡ i.kind = kept_kind i.kind (none_asked asked code f i t.targets second) in
        let same : called i ≡ i = ap (λ x. record i { kind = x }) kept in
        let us = all_moved t.targets moved_aim in
        let v : Sight = sight code f i in
        let seen_so : fits_as (row_of i.kind) v ≡ true = sym (fits_is code f i (row_of i.kind)) ∙ first in (
          kept_within code well halves k0 f there i p.last,
          us.1,
          and_both (fits.instr_fits all new i) (fits.targets_fit asked all new i (map (moved f) t.targets))
              (subst (λ x. fits.instr_fits all new x ≡ true) same (kept_fits code well halves k0 f there i p.last kind same_results first))
              (targets_is all new i asked (map (moved f) t.targets)
              ∙ ap (λ c. targets_as asked c (sight all new i) (map (aim new) (map (moved f) t.targets))) (same_moved f t.targets)
              ∙ ap (λ x. targets_as asked (same_args t.targets) x (map (aim new) (map (moved f) t.targets))) (sight_new code well halves k0 f there i p.last)
              ∙ ap (λ xs. targets_as asked (same_args t.targets) (beside v new.results) xs) us.0
              ∙ targets_beside v new.results asked (same_args t.targets) (map (aim f) t.targets) (calls_plain v new.results i.kind seen_so)
              ∙ sym (targets_is code f i asked t.targets) ∙ second),
        )

  -- ---- the block of each end

  abbrev ended : End → ℕ → Block → Block
  ended e k b = record { params = params_left (awaiting f k) b.params; instrs = instrs_of e f k b; term = term_of e f k b.term }

  abbrev front : ℕ → Block → List Instr
  front k b = loads f (awaiting f k) b.params ++ map called b.instrs

  end_fine : (k : ℕ) (b : Block) (at : slice_get f.blocks k ≡ Some b) (e : End) → end_of f b ≡ e → Fine (ended e k b)
  end_fine k b at end.Stays stay =
      block_ok code well halves k0 f there (ended end.Stays k b) (params_ok (awaiting f k) b.params (parts_at code f is half k b at).params)
      (ok_append code well halves k0 f there (front k b) [] (front_ok k b at) (ok_none code well halves k0 f there)) (stays_ok k b at stay)
  end_fine k b at end.Waits e_is =
      let wait : b.term.instr.kind ≡ Await = waits_await f.coroutine b.term.instr.kind (ap waits e_is) in
      let x = awaited code well halves k0 f there k b at wait in
      block_ok code well halves k0 f there (ended end.Waits k b) (params_ok (awaiting f k) b.params (parts_at code f is half k b at).params)
      (ok_append code well halves k0 f there (front k b) (before_end end.Waits f k b.term.instr.operands) (front_ok k b at) (waits_ok code well halves k0 f there k b.term.instr.operands x.0 (inside k b at) x.1 x.2))
      (branch_ok code well halves k0 f there k b.term.targets (inside k b at) (failed_open k b at wait) (go_open k b at wait))
  end_fine k b at end.Suspends e_is =
      let wait : b.term.instr.kind ≡ Await = waits_await f.coroutine b.term.instr.kind (ap waits e_is) in
      let task : f.coroutine ≡ true = task_of k b at e_is in
      let x = awaited code well halves k0 f there k b at wait in
      block_ok code well halves k0 f there (ended end.Suspends k b) (params_ok (awaiting f k) b.params (parts_at code f is half k b at).params)
      (ok_append code well halves k0 f there (front k b) (before_end end.Suspends f k b.term.instr.operands) (front_ok k b at) (suspends_ok code well halves k0 f there task k b.term.instr.operands x.0 (inside k b at) x.1 x.2))
      (suspend_ok code well halves k0 f there (saved f k) (Next k) (saved_type f task k (inside k b at)) (suspended_open task)
      (bare_at code well halves k0 f there (Next k) (end_in code f is half k b at end.Suspends e_is 0 (Next k) refl) (next_params k (slice_get f.blocks k))) (cleanup_open task))
  end_fine k b at end.Gives e_is =
      let g = gives_is f.coroutine b.term.instr.kind e_is in
      let p : Parts code f b = parts_at code f is half k b at in
      let first : fits.instr_fits code f b.term.instr ≡ true = and_left (fits.instr_fits code f b.term.instr) (fits.targets_fit (row_of b.term.instr.kind).targets code f b.term.instr b.term.targets) (term_at code f is half k b at) in
      let seen_so : fits_as (row_of b.term.instr.kind) (sight code f b.term.instr) ≡ true = sym (fits_is code f b.term.instr (row_of b.term.instr.kind)) ∙ first in
      let has : haves (types f b.term.instr.operands) f.results ≡ true = return_haves (sight code f b.term.instr) (subst (λ x. fits_as (row_of x) (sight code f b.term.instr) ≡ true) g.1 seen_so) in
      block_ok code well halves k0 f there (ended end.Gives k b) (params_ok (awaiting f k) b.params p.params)
      (ok_append code well halves k0 f there (front k b) (before_end end.Gives f k b.term.instr.operands) (front_ok k b at)
      (given_ok code well halves k0 f there g.0 1 b.term.instr.operands f.results has (instr_parts code f b.term.instr p.last).0 (half.held g.0) (value_at f g.0)))
      (jump_ok code well halves k0 f there Cleanup (cleanup_open g.0))
  end_fine k b at end.Fails e_is =
      block_ok code well halves k0 f there (ended end.Fails k b) (params_ok (awaiting f k) b.params (parts_at code f is half k b at).params) (ok_none code well halves k0 f there)
      (jump_ok code well halves k0 f there SetsError (bare_at code well halves k0 f there SetsError (end_in code f is half k b at end.Fails e_is 0 SetsError refl) refl))

  -- ---- each label's block

  idle_fine : Fine idle
  idle_fine = (refl, refl)

  body_fine : (k : ℕ) (o : Option Block) → slice_get f.blocks k ≡ o → Fine (body f k o)
  body_fine k None at = idle_fine
  body_fine k (Some b) at = end_fine k b at (end_of f b) refl

  next_fine : (k : ℕ) → Suspending code f is half k → Fine (next f k (slice_get f.blocks k))
  next_fine k s =
      let wait : s.block.term.instr.kind ≡ Await = waits_await f.coroutine s.block.term.instr.kind (ap waits s.is) in
      let x = awaited code well halves k0 f there k s.block s.at wait in
      let rows = waits_ok code well halves k0 f there k s.block.term.instr.operands x.0 (inside k s.block s.at) x.1 x.2 in
      subst (λ o. Fine (next f k o)) (sym s.at)
      (block_ok code well halves k0 f there (next f k (Some s.block)) refl (
        and_right (instr_within all new (row op.AsyncRuntimeAwait s.block.term.instr.operands [])) (every (instr_within all new) (is_error f k s.block.term.instr.operands ∷ [])) rows.0,
        and_right (fits.inner_fits all new (row op.AsyncRuntimeAwait s.block.term.instr.operands [])) (every (fits.inner_fits all new) (is_error f k s.block.term.instr.operands ∷ [])) rows.1,
      )
      (branch_ok code well halves k0 f there k s.block.term.targets (inside k s.block s.at) (failed_open k s.block s.at wait) (go_open k s.block s.at wait)))

  start_open : Open (place f (Body 0))
  start_open = bare_body 0 (some_blocks f.blocks is.start) (λ c here. none_left (awaiting f 0) c.params (start_bare f.blocks c is.start here))
    where
      some_blocks : (blocks : List Block) → starts_bare blocks ≡ true → 0 < length blocks
      some_blocks [] none = cc
      some_blocks (b ∷ blocks) none = omega arith

      no_params : (rs : List Reg) → (length rs == 0) ≡ true → rs ≡ []
      no_params [] none = refl
      no_params (r ∷ rs) none = (let zero_is : suc (length rs) ≡ 0 = eqb-true (suc (length rs)) 0 none in absurd (omega (arith, zero_is)))

      start_bare : (blocks : List Block) (c : Block) → starts_bare blocks ≡ true → slice_get blocks 0 ≡ Some c → c.params ≡ []
      start_bare [] c none here = cc
      start_bare (b ∷ blocks) c none here = (let same : b ≡ c = cc in no_params c.params (subst (λ (x : Block). (length x.params == 0) ≡ true) same none))

  pub label_fine : (l : Label) → Among l (layout f) → Fine (label_block f l)
  label_fine Entry a = (let task : f.coroutine ≡ true = own_task f Entry refl a in entry_ok code well halves k0 f there task (suspended_open task) start_open (cleanup_open task))
  label_fine (Body k) a = body_fine k (slice_get f.blocks k) refl
  label_fine (Next k) a = next_fine k (next_suspends code f is half k a)
  label_fine SetsError a = (let task : f.coroutine ≡ true = own_task f SetsError refl a in error_ok code well halves k0 f there task (cleanup_open task))
  label_fine Cleanup a = cleanup_ok code well halves k0 f there (own_task f Cleanup refl a)
  label_fine Suspended a = suspended_ok code well halves k0 f there (own_task f Suspended refl a)

  pub all_within : every (block_within all new) new.blocks ≡ true
  all_within = every_from (block_within all new) new.blocks (λ n c at.
      (let m = mapped_back (label_block f) (layout f) n c at in subst (λ x. block_within all new x ≡ true) m.2 (label_fine m.0 (n, m.1)).0))

  pub all_fit : every (fits.block_fits all new) new.blocks ≡ true
  all_fit = every_from (fits.block_fits all new) new.blocks (λ n c at.
      (let m = mapped_back (label_block f) (layout f) n c at in subst (λ x. fits.block_fits all new x ≡ true) m.2 (label_fine m.0 (n, m.1)).1))

pub fits_kept : FitsKept
fits_kept code k f well halves at = (all_within code well halves k f at, all_fit code well halves k f at)
