-- Numbering the registers of well formed code.
use Rattle.std.proofs.Common.{◌≡◌, ℕ, ◌<◌, ◌&&◌, ◌||◌, nat_lt, Bool, true, false, List, [], ◌∷◌, ◌++◌, map, length, Option, Some, None, refl, sym, ap, ◌∙◌, subst, arith}
use Rattle.std.specs.Prelude.{slice_get}
use Rattle.std.specs.Option.{option_map}
use Rattle.std.proofs.lemmas.Bool.{lt-ltb, ltb-true}
use Rattle.std.proofs.lemmas.List.{length-map, map-append}
use Rattle.std.proofs.lemmas.Option.{slice_get-map, slice_get_within, slice_get-get_or, unwrap_or-slice_get}
use Rattle.ir_forms.specs.declared.types.Ty.{Ty}
use Rattle.ir_forms.specs.declared.types.Ty.TheVariants as ty
use Rattle.ir_forms.specs.Numbers.{joined}
use Rattle.low_flow.specs.Lists.{has}
use Rattle.low_flow.proofs.Membership.{has_here}
use Rattle.low_flow.specs.Paths.{IsPath, last_of, assigned_on}
use Rattle.low_forms.specs.declared.code.Reg.{Reg}
use Rattle.low_forms.specs.declared.code.LowAttr.{LowAttr}
use Rattle.low_forms.specs.declared.code.LowAttr.TheVariants as low
use Rattle.low_forms.specs.declared.code.Instr.{Instr}
use Rattle.low_forms.specs.declared.code.Target.{Target}
use Rattle.low_forms.specs.declared.code.Term.{Term}
use Rattle.low_forms.specs.declared.code.Block.{Block}
use Rattle.low_forms.specs.declared.code.LowFunc.{LowFunc}
use Rattle.low_forms.specs.declared.code.LowModule.{LowModule}
use Rattle.op_table.specs.declared.kind.OpKind.{OpKind}
use Rattle.op_table.specs.declared.kind.OpKind.TheVariants.{CfBr}
use Rattle.low_forms.specs.declared.code.LowKind.{LowKind}
use Rattle.low_forms.specs.declared.code.LowKind.TheVariants.{Row, Launch, Await}
use Rattle.low_forms.specs.declared.row.LowRow.{LowRow}
use Rattle.low_forms.specs.declared.row.Slot.{Slot}
use Rattle.low_forms.specs.declared.row.Slot.TheVariants as slot
use Rattle.low_forms.specs.declared.row.Results.{Results}
use Rattle.low_forms.specs.declared.row.Results.TheVariants as results
use Rattle.low_forms.specs.declared.row.Targets.{Targets}
use Rattle.low_forms.specs.declared.row.Targets.TheVariants as to
use Rattle.low_forms.specs.Rows.{row_of, row_of_kind}
use Rattle.low_forms.specs.Registers.{every, reg_type, on_type, callee, block_at}
use Rattle.low_forms.specs.Fits.{is_absent, is_instruction, attr_fits, operands_fit, slot_fits, results_fit, these_fit, result_fits, instr_fits, inner_fits, targets_fit, term_fits, block_fits}
use Rattle.low_forms.specs.Numbers.{regs_within, callee_within, instr_within, target_within, block_within}
use Rattle.low_forms.specs.Edges.{edges, is_uncritical, none_is_start}
use Rattle.low_forms.specs.Assigned.{numbers, assigned_by, block_assigns, assigns, args_of, used_at_end}
use Rattle.low_forms.specs.WellFormed.{IsWellFormed, WellFormed}
use Rattle.low_forms.proofs.Words.{and_left, and_right, and_both}
use Rattle.register_numbers.specs.FirstPlaces.{place_in}
use Rattle.register_numbers.specs.Renumbered.{definitions, type_of_reg, renamed_regs, renamed_instr, renamed_target, renamed_term, renamed_block, renumbered}
use Rattle.register_laws.specs.Laws.{used_by, block_uses, AllDefined, TypesStay, renumbered_code, RenumberedWellFormed}
use Rattle.register_laws.proofs.Lists.{every_at, every_from, mapped_back, mapped_there, Sub, sub_left, sub_right, sub_then, sub_front, sub_back, sub_same}
use Rattle.register_laws.proofs.Places.{Found, found_where, place_is}
use Rattle.register_laws.proofs.Views.{types, Seen, seen, see, Sight, sight, fits_as, fits_is, Aim, aim, params_seen, targets_as, targets_is, targets_same, same_args}
use Rattle.register_laws.proofs.Good.{Good, good_more, Parts, block_parts, block_from, instr_parts, Before, AreGiven, given_where, assigned_where}
use Rattle.register_laws.proofs.Renamed.{numbers_renamed, assigns_renamed, assigned_on_mapped, good_renamed, edges_renamed, counts_renamed, start_renamed, all_followed_renamed, alone_renamed, saves_start_renamed, same_renamed, joined_has}

-- ---- one function

abbrev reg : ℕ → Reg
reg n = record { 0 = n }

type_there : (ts : List Ty) (r : ℕ) → r < length ts → slice_get ts r ≡ Some (type_of_reg ts r)
type_there ts r inside = slice_get-get_or ts r ty.Untyped inside ∙ ap (λ (t : Ty). Some t) (sym (unwrap_or-slice_get ts r ty.Untyped))

pub types_stay : TypesStay
types_stay f r is inside =
    let defs : List ℕ = definitions f in
    let there : Found defs r = found_where defs r is in
    ap (λ n. slice_get (map (type_of_reg f.regs) defs) n) (place_is defs r there)
    ∙ mapped_there (type_of_reg f.regs) defs there.place r there.at
    ∙ sym (type_there f.regs r inside)

module _ (f : LowFunc) where
  abbrev defs : List ℕ
  defs = definitions f

  abbrev σ : ℕ → ℕ
  σ = place_in defs

  abbrev new : LowFunc
  new = renumbered f

  -- registers that are defined
  abbrev pub Known : List Reg → Type 0
  Known rs = Sub (numbers rs) defs

  known_head : (r : Reg) (rs : List Reg) → Known (r ∷ rs) → has r.0 defs ≡ true
  known_head r rs known = sub_front (r.0 ∷ []) (numbers rs) defs known r.0 (has_here r.0 [])

  known_tail : (r : Reg) (rs : List Reg) → Known (r ∷ rs) → Known rs
  known_tail r rs known = sub_back (r.0 ∷ []) (numbers rs) defs known

  pub types_same : (rs : List Reg) → Known rs → regs_within f rs ≡ true → types new (renamed_regs σ rs) ≡ types f rs
  types_same [] known within = refl
  types_same (r ∷ rs) known within =
      let first : reg_type new (reg (σ r.0)) ≡ reg_type f r = types_stay f r.0 (known_head r rs known) (ltb-true r.0 (length f.regs) (and_left (nat_lt r.0 (length f.regs)) (regs_within f rs) within)) in
      ap (λ t. t ∷ types new (renamed_regs σ rs)) first
      ∙ ap (λ ts. reg_type f r ∷ ts) (types_same rs (known_tail r rs known) (and_right (nat_lt r.0 (length f.regs)) (regs_within f rs) within))

  pub regs_in : (rs : List Reg) → Known rs → regs_within new (renamed_regs σ rs) ≡ true
  regs_in [] known = refl
  regs_in (r ∷ rs) known =
      let there : Found defs r.0 = found_where defs r.0 (known_head r rs known) in
      let less : there.place < length defs = slice_get_within defs there.place r.0 there.at in
      let count : length new.regs ≡ length defs = length-map defs (type_of_reg f.regs) in
      let here : σ r.0 ≡ there.place = place_is defs r.0 there in
      and_both (nat_lt (σ r.0) (length new.regs)) (regs_within new (renamed_regs σ rs))
      (lt-ltb (σ r.0) (length new.regs) (omega (arith, less, count, here))) (regs_in rs (known_tail r rs known))

  params_known : Known f.params
  params_known = sub_left (numbers f.params) (joined (map block_assigns f.blocks))

  block_known : (k : ℕ) (b : Block) → slice_get f.blocks k ≡ Some b → Sub (block_assigns b) defs
  block_known k b at =
      sub_then (block_assigns b) (joined (map block_assigns f.blocks)) defs
      (joined_has block_assigns f.blocks k b at) (sub_right (numbers f.params) (joined (map block_assigns f.blocks)))

pub seen_same : (g : LowFunc) → regs_within g g.params ≡ true → seen (renumbered g) ≡ seen g
seen_same g within = ap make (types_same g g.params (params_known g) within)
  where
    make : List (Option Ty) → Seen
    make ts = record { takes = ts; gives = g.results; task = g.coroutine }

-- ---- a terminator has no results

abbrev is_own : Results → Bool
is_own results.Own = true
is_own _ = false

-- a row of a terminator gives nothing
abbrev gives_none : LowRow → Bool
gives_none row = is_instruction row.targets || (is_own row.results && is_absent row.result)

end_gives_none : (kind : LowKind) → gives_none (row_of kind) ≡ true
end_gives_none (Row kind) = by kind
  where
    by : (kind : OpKind) → gives_none (row_of_kind kind) ≡ true
    by CfBr = refl
    by kind = refl
end_gives_none Launch = refl
end_gives_none Await = refl

pub none_asked : (asked : Targets) (code : LowModule) (f : LowFunc) (i : Instr) (ts : List Target) → targets_fit asked code f i ts ≡ true → is_instruction asked ≡ false
none_asked to.Instruction code f i [] fits = cc
none_asked to.Instruction code f i (t ∷ []) fits = cc
none_asked to.Instruction code f i (t ∷ u ∷ []) fits = cc
none_asked to.Instruction code f i (t ∷ u ∷ v ∷ []) fits = cc
none_asked to.Instruction code f i (t ∷ u ∷ v ∷ w ∷ ts) fits = cc
none_asked asked code f i ts fits = refl

module _ (row : LowRow) (code : LowModule) (f : LowFunc) (i : Instr) where
  none_there : (s : Slot) (rs : List Reg) → is_absent s ≡ true → result_fits s f i rs ≡ true → rs ≡ []
  none_there slot.Absent [] none fits = refl
  none_there slot.Absent (r ∷ []) none fits = typed (reg_type f r) fits
    where
      typed : (o : Option Ty) → on_type (slot_fits slot.Absent f i.operands i.attr) o ≡ true → r ∷ [] ≡ []
      typed None is = cc
      typed (Some t) is = cc
  none_there slot.Absent (r ∷ q ∷ rs) none fits = cc
  none_there s rs none fits = cc

  own_none : (r : Results) → is_own r ≡ true → is_absent row.result ≡ true → these_fit r row code f i ≡ true → i.results ≡ []
  own_none results.Own own none fits = none_there row.result i.results none fits
  own_none results.Called own none fits = cc
  own_none results.Launched own none fits = cc

  or_second : (a b : Bool) → a ≡ false → (a || b) ≡ true → b ≡ true
  or_second true b not either = cc
  or_second false b not either = either

  no_results : gives_none row ≡ true → is_instruction row.targets ≡ false → results_fit row code f i ≡ true → i.results ≡ []
  no_results none last fits =
      let both : (is_own row.results && is_absent row.result) ≡ true = or_second (is_instruction row.targets) (is_own row.results && is_absent row.result) last none in
      own_none row.results (and_left (is_own row.results) (is_absent row.result) both) (and_right (is_own row.results) (is_absent row.result) both) fits

term_none : (code : LowModule) (f : LowFunc) (t : Term) → term_fits code f t ≡ true → t.instr.results ≡ []
term_none code f t fits =
    let row : LowRow = row_of t.instr.kind in
    let targets : Bool = targets_fit row.targets code f t.instr t.targets in
    let first : instr_fits code f t.instr ≡ true = and_left (instr_fits code f t.instr) targets fits in
    let last : is_instruction row.targets ≡ false = none_asked row.targets code f t.instr t.targets (and_right (instr_fits code f t.instr) targets fits) in
    let before : Bool = (row.stands && attr_fits row.attr code t.instr.attr) && operands_fit row code f t.instr in
    no_results row code f t.instr (end_gives_none t.instr.kind) last (and_right before (results_fit row code f t.instr) first)

-- ---- in a module

module _ (code : LowModule) (well : WellFormed code) (all : AllDefined code) where
  abbrev made : LowModule
  made = renumbered_code code

  see_same : (n : ℕ) (o : Option LowFunc) → slice_get code.funcs n ≡ o → see (option_map renumbered o) ≡ see o
  see_same n None at = refl
  see_same n (Some g) at = ap (λ (s : Seen). Some s) (seen_same g (well n g at).params_within)

  callee_same : (a : LowAttr) → see (callee made a) ≡ see (callee code a)
  callee_same (low.Callee g) =
      ap see (slice_get-map renumbered code.funcs g.0) ∙ see_same g.0 (slice_get code.funcs g.0) refl
  callee_same a = refl

  callee_in : (a : LowAttr) → callee_within made a ≡ callee_within code a
  callee_in (low.Callee g) = ap (λ n. nat_lt g.0 n) (length-map code.funcs renumbered)
  callee_in a = refl

  module _ (k : ℕ) (f : LowFunc) (at : slice_get code.funcs k ≡ Some f) where
    abbrev is : IsWellFormed code f
    is = well k f at

    abbrev σf : ℕ → ℕ
    σf = place_in (definitions f)

    abbrev newf : LowFunc
    newf = renumbered f

    abbrev make : LowAttr → Option Seen → List (Option Ty) → List (Option Ty) → Sight
    make a c os rs = record { attr = a; called = c; given = f.results; operands = os; results = rs }

    sight_same : (i : Instr) → Known f i.operands → Known f i.results → instr_within code f i ≡ true → sight made newf (renamed_instr σf i) ≡ sight code f i
    sight_same i ops res within =
        let p = instr_parts code f i within in
        ap (λ c. make i.attr c (types newf (renamed_regs σf i.operands)) (types newf (renamed_regs σf i.results))) (callee_same i.attr)
        ∙ ap (λ ts. make i.attr (see (callee code i.attr)) ts (types newf (renamed_regs σf i.results))) (types_same f i.operands ops p.0)
        ∙ ap (λ ts. make i.attr (see (callee code i.attr)) (types f i.operands) ts) (types_same f i.results res p.1)

    fits_new : (i : Instr) → Known f i.operands → Known f i.results → instr_within code f i ≡ true → instr_fits made newf (renamed_instr σf i) ≡ instr_fits code f i
    fits_new i ops res within =
        fits_is made newf (renamed_instr σf i) (row_of i.kind)
        ∙ ap (fits_as (row_of i.kind)) (sight_same i ops res within)
        ∙ sym (fits_is code f i (row_of i.kind))

    within_new : (i : Instr) → Known f i.operands → Known f i.results → instr_within code f i ≡ true → instr_within made newf (renamed_instr σf i) ≡ true
    within_new i ops res within =
        let p = instr_parts code f i within in
        let A : Bool = regs_within newf (renamed_regs σf i.operands) in
        let B : Bool = regs_within newf (renamed_regs σf i.results) in
        and_both (A && B) (callee_within made i.attr) (and_both A B (regs_in f i.operands ops) (regs_in f i.results res)) (callee_in i.attr ∙ p.2)

    instrs_new : (instrs : List Instr) → Sub (used_by instrs) (definitions f) → Sub (assigned_by instrs) (definitions f)
        → every (instr_within code f) instrs ≡ true → every (inner_fits code f) instrs ≡ true
        → (every (instr_within made newf) (map (renamed_instr σf) instrs) ≡ true) × (every (inner_fits made newf) (map (renamed_instr σf) instrs) ≡ true)
    instrs_new [] used given within fits = (refl, refl)
    instrs_new (i ∷ instrs) used given within fits =
        let ops : Known f i.operands = sub_front (numbers i.operands) (used_by instrs) (definitions f) used in
        let res : Known f i.results = sub_front (numbers i.results) (assigned_by instrs) (definitions f) given in
        let here : instr_within code f i ≡ true = and_left (instr_within code f i) (every (instr_within code f) instrs) within in
        let fit : inner_fits code f i ≡ true = and_left (inner_fits code f i) (every (inner_fits code f) instrs) fits in
        let inner : Bool = is_instruction (row_of i.kind).targets in
        let more = instrs_new instrs (sub_back (numbers i.operands) (used_by instrs) (definitions f) used) (sub_back (numbers i.results) (assigned_by instrs) (definitions f) given)
        (and_right (instr_within code f i) (every (instr_within code f) instrs) within) (and_right (inner_fits code f i) (every (inner_fits code f) instrs) fits) in (
          and_both (instr_within made newf (renamed_instr σf i)) (every (instr_within made newf) (map (renamed_instr σf) instrs)) (within_new i ops res here) more.0,
          and_both (inner_fits made newf (renamed_instr σf i)) (every (inner_fits made newf) (map (renamed_instr σf) instrs))
              (and_both inner (instr_fits made newf (renamed_instr σf i)) (and_left inner (instr_fits code f i) fit) (fits_new i ops res here ∙ and_right inner (instr_fits code f i) fit)) more.1,
        )

    -- ---- targets

    params_same : (n : ℕ) (o : Option Block) → slice_get f.blocks n ≡ o → params_seen newf (option_map (renamed_block σf) o) ≡ params_seen f o
    params_same n None there = refl
    params_same n (Some b) there =
        let p : Parts code f b = block_parts code f b (every_at (block_within code f) f.blocks n b is.within there) in
        let known : Known f b.params = sub_front (numbers b.params) (assigned_by b.instrs) (definitions f) (block_known f n b there) in
        ap (λ (ts : List (Option Ty)). Some ts) (types_same f b.params known p.params)

    abbrev make_aim : List (Option Ty) → Option (List (Option Ty)) → Aim
    make_aim ts ps = record { args = ts; params = ps }

    aim_same : (t : Target) → Known f t.args → target_within f t ≡ true → aim newf (renamed_target σf t) ≡ aim f t
    aim_same t known within =
        ap (λ ts. make_aim ts (params_seen newf (block_at newf t.block))) (types_same f t.args known (and_right (nat_lt t.block.0 (length f.blocks)) (regs_within f t.args) within))
        ∙ ap (make_aim (types f t.args)) (ap (params_seen newf) (slice_get-map (renamed_block σf) f.blocks t.block.0) ∙ params_same t.block.0 (slice_get f.blocks t.block.0) refl)

    aims_same : (ts : List Target) → Sub (args_of ts) (definitions f) → every (target_within f) ts ≡ true → map (aim newf) (map (renamed_target σf) ts) ≡ map (aim f) ts
    aims_same [] known within = refl
    aims_same (t ∷ ts) known within =
        ap (λ a. a ∷ map (aim newf) (map (renamed_target σf) ts)) (aim_same t (sub_front (numbers t.args) (args_of ts) (definitions f) known) (and_left (target_within f t) (every (target_within f) ts) within))
        ∙ ap (λ them. aim f t ∷ them) (aims_same ts (sub_back (numbers t.args) (args_of ts) (definitions f) known) (and_right (target_within f t) (every (target_within f) ts) within))

    targets_in : (ts : List Target) → Sub (args_of ts) (definitions f) → every (target_within f) ts ≡ true → every (target_within newf) (map (renamed_target σf) ts) ≡ true
    targets_in [] known within = refl
    targets_in (t ∷ ts) known within =
        let less : nat_lt t.block.0 (length f.blocks) ≡ true = and_left (nat_lt t.block.0 (length f.blocks)) (regs_within f t.args) (and_left (target_within f t) (every (target_within f) ts) within) in
        and_both (target_within newf (renamed_target σf t)) (every (target_within newf) (map (renamed_target σf) ts))
        (and_both (nat_lt t.block.0 (length newf.blocks)) (regs_within newf (renamed_regs σf t.args))
        (ap (λ n. nat_lt t.block.0 n) (length-map f.blocks (renamed_block σf)) ∙ less)
        (regs_in f t.args (sub_front (numbers t.args) (args_of ts) (definitions f) known)))
        (targets_in ts (sub_back (numbers t.args) (args_of ts) (definitions f) known) (and_right (target_within f t) (every (target_within f) ts) within))

    same_new : (ts : List Target) → same_args ts ≡ true → same_args (map (renamed_target σf) ts) ≡ true
    same_new [] same = refl
    same_new (t ∷ []) same = refl
    same_new (t ∷ u ∷ []) same = same_renamed σf t.args u.args same
    same_new (t ∷ u ∷ w ∷ ts) same = refl

    term_new : (t : Term) → Known f t.instr.operands → Known f t.instr.results → Sub (args_of t.targets) (definitions f) → instr_within code f t.instr ≡ true → every (target_within f) t.targets ≡ true
        → term_fits code f t ≡ true → term_fits made newf (renamed_term σf t) ≡ true
    term_new t ops res known last within fits =
        let asked = (row_of t.instr.kind).targets in
        let first : Bool = instr_fits code f t.instr in
        let old : targets_fit asked code f t.instr t.targets ≡ true = and_right first (targets_fit asked code f t.instr t.targets) fits in
        let seen_old : targets_as asked (same_args t.targets) (sight code f t.instr) (map (aim f) t.targets) ≡ true = sym (targets_is code f t.instr asked t.targets) ∙ old in
        let seen_new : targets_as asked (same_args (map (renamed_target σf) t.targets)) (sight code f t.instr) (map (aim f) t.targets) ≡ true =
        targets_same asked (same_args t.targets) (same_args (map (renamed_target σf) t.targets)) (sight code f t.instr) (map (aim f) t.targets) (same_new t.targets) seen_old in
        and_both (instr_fits made newf (renamed_instr σf t.instr)) (targets_fit asked made newf (renamed_instr σf t.instr) (map (renamed_target σf) t.targets))
        (fits_new t.instr ops res last ∙ and_left first (targets_fit asked code f t.instr t.targets) fits)
        (targets_is made newf (renamed_instr σf t.instr) asked (map (renamed_target σf) t.targets)
        ∙ ap (λ v. targets_as asked (same_args (map (renamed_target σf) t.targets)) v (map (aim newf) (map (renamed_target σf) t.targets))) (sight_same t.instr ops res last)
        ∙ ap (λ them. targets_as asked (same_args (map (renamed_target σf) t.targets)) (sight code f t.instr) them) (aims_same t.targets known within)
        ∙ seen_new)

    -- ---- blocks

    blocks_new : (n : ℕ) (b : Block) → slice_get f.blocks n ≡ Some b → (block_within made newf (renamed_block σf b) ≡ true) × (block_fits made newf (renamed_block σf b) ≡ true)
    blocks_new n b there =
        let p : Parts code f b = block_parts code f b (every_at (block_within code f) f.blocks n b is.within there) in
        let fits : block_fits code f b ≡ true = every_at (block_fits code f) f.blocks n b is.fits there in
        let inner : Bool = every (inner_fits code f) b.instrs in
        let last : term_fits code f b.term ≡ true = and_right inner (term_fits code f b.term) fits in
        let used : Sub (block_uses b) (definitions f) = λ r holds. all k f at n b r there holds in
        let by_instrs : Sub (used_by b.instrs) (definitions f) = sub_front (used_by b.instrs) (used_at_end b.term) (definitions f) used in
        let at_end : Sub (used_at_end b.term) (definitions f) = sub_back (used_by b.instrs) (used_at_end b.term) (definitions f) used in
        let given : Sub (block_assigns b) (definitions f) = block_known f n b there in
        let ops : Known f b.term.instr.operands = sub_front (numbers b.term.instr.operands) (args_of b.term.targets) (definitions f) at_end in
        let args : Sub (args_of b.term.targets) (definitions f) = sub_back (numbers b.term.instr.operands) (args_of b.term.targets) (definitions f) at_end in
        let nothing : Known f [] = λ r holds. cc in
        let res : Known f b.term.instr.results = subst (λ rs. Known f rs) (sym (term_none code f b.term last)) nothing in
        let each = instrs_new b.instrs by_instrs (sub_back (numbers b.params) (assigned_by b.instrs) (definitions f) given) p.instrs (and_left inner (term_fits code f b.term) fits) in (
          block_from made newf (renamed_block σf b) (record {
            params = regs_in f b.params (sub_front (numbers b.params) (assigned_by b.instrs) (definitions f) given);
            instrs = each.0;
            last = within_new b.term.instr ops res p.last;
            targets = targets_in b.term.targets args p.targets;
          }),
          and_both (every (inner_fits made newf) (map (renamed_instr σf) b.instrs)) (term_fits made newf (renamed_term σf b.term)) each.1
              (term_new b.term ops res args p.last p.targets last),
        )

    within_all : every (block_within made newf) newf.blocks ≡ true
    within_all = every_from (block_within made newf) newf.blocks (λ n c there.
        (let m = mapped_back (renamed_block σf) f.blocks n c there in subst (λ d. block_within made newf d ≡ true) m.2 (blocks_new n m.0 m.1).0))

    fits_all : every (block_fits made newf) newf.blocks ≡ true
    fits_all = every_from (block_fits made newf) newf.blocks (λ n c there.
        (let m = mapped_back (renamed_block σf) f.blocks n c there in subst (λ d. block_fits made newf d ≡ true) m.2 (blocks_new n m.0 m.1).1))

    -- ---- edges, and what is assigned

    edges_same : edges newf ≡ edges f
    edges_same = edges_renamed σf true f.blocks

    before_same : (path : List ℕ) (b : Block) → Before code newf path (renamed_block σf b) ≡ map σf (Before code f path b)
    before_same path b =
        let A : List ℕ = numbers f.params in
        let B : List ℕ = assigned_on (assigns f) 0 path in
        let C : List ℕ = numbers b.params in
        ap (λ ns. ns ++ (assigned_on (assigns newf) 0 path ++ numbers (renamed_regs σf b.params))) (numbers_renamed σf f.params)
        ∙ ap (λ lists. map σf A ++ (assigned_on lists 0 path ++ numbers (renamed_regs σf b.params))) (assigns_renamed σf f.blocks)
        ∙ ap (λ ns. map σf A ++ (ns ++ numbers (renamed_regs σf b.params))) (assigned_on_mapped σf (assigns f) 0 path)
        ∙ ap (λ ns. map σf A ++ (map σf B ++ ns)) (numbers_renamed σf b.params)
        ∙ ap (λ ns. map σf A ++ ns) (sym (map-append σf B C))
        ∙ sym (map-append σf A (B ++ C))

    given_new : AreGiven made newf
    given_new path c follows there =
        let m = mapped_back (renamed_block σf) f.blocks (last_of 0 path) c there in
        let good : Good (Before code f path m.0) m.0.instrs m.0.term = given_where code f is.within is.assigned path m.0 (subst (λ es. IsPath es 0 path) edges_same follows) m.1 in
        let now : Good (map σf (Before code f path m.0)) (map (renamed_instr σf) m.0.instrs) (renamed_term σf m.0.term) = good_renamed σf (Before code f path m.0) m.0.instrs m.0.term good in
        subst (λ d. Good (Before made newf path d) d.instrs d.term) m.2
        (good_more (map σf (Before code f path m.0)) (Before made newf path (renamed_block σf m.0)) (map (renamed_instr σf) m.0.instrs) (renamed_term σf m.0.term)
        (sub_same (map σf (Before code f path m.0)) (Before made newf path (renamed_block σf m.0)) (sym (before_same path m.0))) now)

    func_well : IsWellFormed made newf
    func_well = record {
      params_within = regs_in f f.params (params_known f);
      within = within_all;
      start = start_renamed σf f.blocks ∙ is.start;
      fits = fits_all;
      assigned = assigned_where made newf given_new;
      uncritical = subst (λ es. every (is_uncritical es) es ≡ true) (sym edges_same) is.uncritical;
      counts = counts_renamed σf f.blocks ∙ is.counts;
      not_to_start = subst (λ es. every none_is_start es ≡ true) (sym edges_same) is.not_to_start;
      saves = all_followed_renamed σf true f.blocks is.saves;
      alone = alone_renamed σf f.blocks ∙ is.alone;
      first_save = saves_start_renamed σf f.blocks ∙ is.first_save;
    }

pub renumbered_well_formed : RenumberedWellFormed
renumbered_well_formed code well all = λ k g there.
    (let m = mapped_back renumbered code.funcs k g there in subst (λ h. IsWellFormed (renumbered_code code) h) m.2 (func_well code well all k m.0 m.1))
