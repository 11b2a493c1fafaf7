-- Well formed code without counts is as the ownership of its counts asks.
use Rattle.std.proofs.Common.{◌≡◌, inl, inr, ℕ, zero, suc, ◌<◌, ◌==◌, ◌&&◌, ◌||◌, not, if◌then◌else◌, Bool, true, false, List, [], ◌∷◌, ◌++◌, length, take, Option, Some, None, refl, sym, ap, ◌∙◌, arith, subst}
use Rattle.std.specs.Prelude.{slice_get, nat_lt}
use Rattle.std.proofs.lemmas.Bool.Decides.{eqb_tells, nat_tests}
use Rattle.low_flow.specs.Lists.{has, list_at}
use Rattle.low_flow.specs.Paths.{last_of}
use Rattle.low_forms.specs.declared.code.Reg.{Reg}
use Rattle.low_forms.specs.declared.code.Instr.{Instr}
use Rattle.low_forms.specs.declared.code.Target.{Target}
use Rattle.low_forms.specs.declared.code.Term.{Term}
use Rattle.low_forms.specs.declared.code.Block.{Block}
use Rattle.low_forms.specs.declared.code.LowFunc.{LowFunc}
use Rattle.low_forms.specs.declared.code.LowModule.{LowModule}
use Rattle.low_forms.specs.declared.row.Targets.{Targets}
use Rattle.low_forms.specs.declared.row.Targets.TheVariants as to
use Rattle.low_forms.specs.Rows.{row_of}
use Rattle.low_forms.specs.Registers.{every, on_type, block_at, callee, type_at}
use Rattle.low_forms.specs.Assigned.{numbers, assigned_before, args_of, used_at_end}
use Rattle.low_forms.specs.Edges.{edges, edges_in, edges_from, edges_of, suspend_edges, blocks_of, count_to}
use Rattle.low_forms.specs.Numbers.{starts_bare, target_within, block_within, regs_within, instr_within}
use Rattle.low_forms.specs.Owns.{is_object, references, uses, takes, first_args, params_of}
use Rattle.low_forms.specs.Saves.{is_save, is_suspend, resumes, none_alone, nowhere_else}
use Rattle.low_forms.specs.Fits.{attr_fits, operands_fit, results_fit, instr_fits, inner_fits, term_fits, block_fits, is_instruction, is_bare, target_fits, bare_fits, same_regs, takes_results, takes_code, takes_held, targets_fit, ends}
use Rattle.low_forms.specs.WellFormed.{IsWellFormed}
use Rattle.liveness.proofs.ListLemmas.{is_either, and_both, and_all, or_splits, or_left, or_right, neither, not_true, has_append}
use Rattle.liveness.proofs.LiveLemmas.{length_edges, get_within}
use Rattle.live_truths.specs.Truths.{is_live}
use Rattle.own_tables.specs.Owns.{IsReached, is_end}
use Rattle.ref_counting.specs.Objects.{is_counted, created, taken, taken_at_end, is_return}
use Rattle.ref_counting.specs.Shape.{is_live_over, is_live_into, beside, suspends_to, suspended}
use Rattle.count_laws.specs.Laws.{IsPlain}
use Rattle.count_laws.proofs.RowLemmas.{below, count_references}
use Rattle.owned_laws.specs.Laws.{has_no_save, IsUncounted}
use Rattle.owned_laws.proofs.Whole as owned
use Rattle.uncounted_laws.specs.Laws.{is_foreign, none_foreign, IsPlainCode, PlainCodeUncounted, PlainCodeOwns}
use Rattle.uncounted_laws.proofs.Rows.{some_long, Checked, save_foreign, checks, hands_on, suspends, operands_named, results_given}
use Rattle.uncounted_laws.proofs.Once as once
use Rattle.uncounted_laws.proofs.Dead as dead
use Rattle.uncounted_laws.proofs.Sides as sides

every_at : {A : Type 0} → (p : A → Bool) (xs : List A) (k : ℕ) (x : A) → every p xs ≡ true → slice_get xs k ≡ Some x → p x ≡ true
every_at p [] k x all at = cc
every_at p (y ∷ ys) zero x all at = (let same : y ≡ x = cc in subst (λ z. p z ≡ true) same (and_both (p y) (every p ys) all).0)
every_at p (y ∷ ys) (suc k) x all at = every_at p ys k x (and_both (p y) (every p ys) all).1 at

block_below : (blocks : List Block) (c : ℕ) (b : Block) → slice_get blocks c ≡ Some b → c < length blocks
block_below [] c b at = cc
block_below (d ∷ blocks) zero b at = omega arith
block_below (d ∷ blocks) (suc c) b at = omega (arith, block_below blocks c b at)

-- ---- saves and suspends

calm : (instrs : List Instr) → every (λ i. not (is_foreign i.kind)) instrs ≡ true → every (λ i. if is_save i.kind then false else true) instrs ≡ true
calm [] all = refl
calm (i ∷ instrs) all =
    let both = and_both (not (is_foreign i.kind)) (every (λ i. not (is_foreign i.kind)) instrs) all in
    and_all (if is_save i.kind then false else true) (every (λ i. if is_save i.kind then false else true) instrs)
    (ap (λ b. if b then false else true) (save_foreign i.kind (not_true (is_foreign i.kind) both.0))) (calm instrs both.1)

no_suspend : (saved resumed : Bool) (instrs : List Instr) (t : Term) → every (λ i. not (is_foreign i.kind)) instrs ≡ true → saved ≡ false → resumed ≡ false
    → none_alone saved resumed instrs t ≡ true → is_suspend t.instr.kind ≡ false
no_suspend saved resumed [] t all s e is = step (is_suspend t.instr.kind) (sym (ap (λ b. not (is_suspend t.instr.kind) || b) e) ∙ is)
  where
    step : (b : Bool) → (not b || false) ≡ true → b ≡ false
    step true is = cc
    step false is = refl
no_suspend saved resumed (i ∷ instrs) t all s e is =
    let mere = and_both (not (is_foreign i.kind)) (every (λ i. not (is_foreign i.kind)) instrs) all in
    let outer = and_both ((not (resumes i.kind) || saved) && not (is_suspend i.kind)) (none_alone (is_save i.kind) (resumes i.kind) instrs t) is in
    let inner = and_both (not (resumes i.kind) || saved) (not (is_suspend i.kind)) outer.0 in
    no_suspend (is_save i.kind) (resumes i.kind) instrs t mere.1 (save_foreign i.kind (not_true (is_foreign i.kind) mere.0))
    (step (resumes i.kind) (sym (ap (λ b. not (resumes i.kind) || b) s) ∙ inner.0)) outer.1
  where
    step : (b : Bool) → (not b || false) ≡ true → b ≡ false
    step true is = cc
    step false is = refl

-- ---- targets

-- targets of a row that hands nothing on have no arguments
bare_args : (t : Target) → is_bare t ≡ true → numbers t.args ≡ []
bare_args t is = step t.args is
  where
    step : (rs : List Reg) → (length rs == 0) ≡ true → numbers rs ≡ []
    step [] is = refl
    step (r ∷ rs) is = (let e : (length (r ∷ rs) == 0) ≡ false = some_long (length rs) in cc)

same_numbers : (rs ss : List Reg) → same_regs rs ss ≡ true → numbers rs ≡ numbers ss
same_numbers [] [] is = refl
same_numbers [] (s ∷ ss) is = cc
same_numbers (r ∷ rs) [] is = cc
same_numbers (r ∷ rs) (s ∷ ss) is =
    let both = and_both (r.0 == s.0) (same_regs rs ss) is in
    let head : r.0 ≡ s.0 = grind (arith, nat_tests, both.0) in
    ap (λ n. n ∷ numbers rs) head ∙ ap (λ (xs : List ℕ). s.0 ∷ xs) (same_numbers rs ss both.1)

two_bare : (t u : Target) → is_bare t ≡ true → is_bare u ≡ true → args_of (t ∷ u ∷ []) ≡ []
two_bare t u one other = ap (λ (xs : List ℕ). xs ++ (numbers u.args ++ [])) (bare_args t one) ∙ ap (λ (xs : List ℕ). xs ++ []) (bare_args u other)

-- an argument of a target is one of the first, which are taken
module _ (code : LowModule) (f : LowFunc) (i : Instr) (r : ℕ) where
  args_first : (asked : Targets) (targets : List Target) → targets_fit asked code f i targets ≡ true → has r (args_of targets) ≡ true
      → (hands_on asked ≡ true) × (has r (numbers (first_args targets)) ≡ true)
  args_first asked [] fits there = cc
  args_first to.One (t ∷ []) fits there = (refl, elim (or_splits (has r (numbers t.args)) false (sym (has_append r (numbers t.args) []) ∙ there)) [ inl is ↦ is | inr never ↦ cc ])
  args_first to.Instruction (t ∷ []) fits there = cc
  args_first to.Ends (t ∷ []) fits there = cc
  args_first to.Either (t ∷ []) fits there = cc
  args_first to.Call (t ∷ []) fits there = cc
  args_first to.Suspend (t ∷ []) fits there = cc
  args_first to.Await (t ∷ []) fits there = cc
  args_first to.Either (t ∷ u ∷ []) fits there =
      let outer = and_both (same_regs t.args u.args && target_fits f t) (target_fits f u) fits in
      let same : numbers t.args ≡ numbers u.args = same_numbers t.args u.args (and_both (same_regs t.args u.args) (target_fits f t) outer.0).0 in (
        refl,
        elim (or_splits (has r (numbers t.args)) (has r (numbers u.args ++ [])) (sym (has_append r (numbers t.args) (numbers u.args ++ [])) ∙ there)) [
          | inl is ↦ is
          | inr later ↦ elim (or_splits (has r (numbers u.args)) false (sym (has_append r (numbers u.args) []) ∙ later)) [ inl is ↦ ap (λ (xs : List ℕ). has r xs) same ∙ is | inr never ↦ cc ]
        ],
      )
  args_first to.Call (t ∷ u ∷ []) fits there =
      let a = and_both (is_bare t && is_bare u && takes_results (block_at f t.block) (callee code i.attr) f) (takes_code (block_at f u.block) f) fits in
      let b = and_both (is_bare t && is_bare u) (takes_results (block_at f t.block) (callee code i.attr) f) a.0 in
      let c = and_both (is_bare t) (is_bare u) b.0 in
      let no : has r (args_of (t ∷ u ∷ [])) ≡ false = ap (λ (xs : List ℕ). has r xs) (two_bare t u c.0 c.1) in
      cc
  args_first to.Await (t ∷ u ∷ []) fits there =
      let a = and_both (is_bare t && takes_held (block_at f t.block) f (type_at f i.operands 0)) (bare_fits f u) fits in
      let b = and_both (is_bare t) (takes_held (block_at f t.block) f (type_at f i.operands 0)) a.0 in
      let c = and_both (is_bare u) (target_fits f u) a.1 in
      let no : has r (args_of (t ∷ u ∷ [])) ≡ false = ap (λ (xs : List ℕ). has r xs) (two_bare t u b.0 c.0) in
      cc
  args_first to.Instruction (t ∷ u ∷ []) fits there = cc
  args_first to.Ends (t ∷ u ∷ []) fits there = cc
  args_first to.One (t ∷ u ∷ []) fits there = cc
  args_first to.Suspend (t ∷ u ∷ []) fits there = cc
  args_first to.Suspend (t ∷ u ∷ v ∷ []) fits there =
      let a = and_both (bare_fits f t && bare_fits f u) (bare_fits f v) fits in
      let b = and_both (bare_fits f t) (bare_fits f u) a.0 in
      let x = (and_both (is_bare t) (target_fits f t) b.0).0 in
      let y = (and_both (is_bare u) (target_fits f u) b.1).0 in
      let z = (and_both (is_bare v) (target_fits f v) a.1).0 in
      let none : args_of (t ∷ u ∷ v ∷ []) ≡ [] =
      ap (λ (xs : List ℕ). xs ++ (numbers u.args ++ (numbers v.args ++ []))) (bare_args t x) ∙ two_bare u v y z in
      let no : has r (args_of (t ∷ u ∷ v ∷ [])) ≡ false = ap (λ (xs : List ℕ). has r xs) none in
      cc
  args_first to.Instruction (t ∷ u ∷ v ∷ []) fits there = cc
  args_first to.Ends (t ∷ u ∷ v ∷ []) fits there = cc
  args_first to.One (t ∷ u ∷ v ∷ []) fits there = cc
  args_first to.Either (t ∷ u ∷ v ∷ []) fits there = cc
  args_first to.Call (t ∷ u ∷ v ∷ []) fits there = cc
  args_first to.Await (t ∷ u ∷ v ∷ []) fits there = cc
  args_first asked (t ∷ u ∷ v ∷ w ∷ ts) fits there = cc

  no_instruction : (asked : Targets) (targets : List Target) → targets_fit asked code f i targets ≡ true → is_instruction asked ≡ false
  no_instruction to.Instruction [] fits = cc
  no_instruction to.Instruction (t ∷ []) fits = cc
  no_instruction to.Instruction (t ∷ u ∷ []) fits = cc
  no_instruction to.Instruction (t ∷ u ∷ v ∷ []) fits = cc
  no_instruction to.Instruction (t ∷ u ∷ v ∷ w ∷ ts) fits = cc
  no_instruction to.Ends targets fits = refl
  no_instruction to.One targets fits = refl
  no_instruction to.Either targets fits = refl
  no_instruction to.Call targets fits = refl
  no_instruction to.Suspend targets fits = refl
  no_instruction to.Await targets fits = refl

-- a frame that ends leads nowhere
ends_nowhere : (code : LowModule) (f : LowFunc) (i : Instr) (first : Bool) (asked : Targets) (targets : List Target) → is_end asked ≡ true → targets_fit asked code f i targets ≡ true
    → edges_of asked first (blocks_of targets) ≡ []
ends_nowhere code f i first to.Ends [] is fits = refl
ends_nowhere code f i first to.Ends (t ∷ []) is fits = cc
ends_nowhere code f i first to.Ends (t ∷ u ∷ []) is fits = cc
ends_nowhere code f i first to.Ends (t ∷ u ∷ v ∷ []) is fits = cc
ends_nowhere code f i first to.Ends (t ∷ u ∷ v ∷ w ∷ ts) is fits = cc
ends_nowhere code f i first to.Instruction targets is fits = cc
ends_nowhere code f i first to.One targets is fits = cc
ends_nowhere code f i first to.Either targets is fits = cc
ends_nowhere code f i first to.Call targets is fits = cc
ends_nowhere code f i first to.Suspend targets is fits = cc
ends_nowhere code f i first to.Await targets is fits = cc

edges_at : (first : Bool) (blocks : List Block) (c : ℕ) (b : Block) → slice_get blocks c ≡ Some b → (x : Bool) × (list_at (edges_in first blocks) c ≡ edges_from x b.term)
edges_at first [] c b at = cc
edges_at first (d ∷ blocks) zero b at = (let e : d ≡ b = cc in (first, ap (λ (y : Block). edges_from first y.term) e))
edges_at first (d ∷ blocks) (suc c) b at = edges_at false blocks c b at

-- an edge leads to a block that is there
targets_below : (f : LowFunc) (targets : List Target) (d : ℕ) → every (target_within f) targets ≡ true → has d (blocks_of targets) ≡ true → d < length f.blocks
targets_below f [] d all there = cc
targets_below f (t ∷ targets) d all there =
    let both = and_both (target_within f t) (every (target_within f) targets) all in
    elim (or_splits (d == t.block.0) (has d (blocks_of targets)) there) [
      | inl now ↦
          let same : d ≡ t.block.0 = grind (arith, nat_tests, now) in
          let inside : t.block.0 < length f.blocks = (let e : nat_lt t.block.0 (length f.blocks) ≡ true = (and_both (nat_lt t.block.0 (length f.blocks)) (regs_within f t.args) both.0).0 in grind (arith, nat_tests, e)) in
          omega (arith, same, inside)
      | inr later ↦ targets_below f targets d both.1 later
    ]

suspend_within : (first : Bool) (bs : List ℕ) (d : ℕ) → has d (suspend_edges first bs) ≡ true → has d bs ≡ true
suspend_within first [] d there = cc
suspend_within first (b ∷ []) d there = cc
suspend_within true (b ∷ c ∷ bs) d there = elim (or_splits (d == b) ((d == c) || false) there) [
  | inl is ↦ or_left (d == b) ((d == c) || has d bs) is
  | inr later ↦ elim (or_splits (d == c) false later) [ inl is ↦ or_right (d == b) ((d == c) || has d bs) (or_left (d == c) (has d bs) is) | inr never ↦ cc ]
]
suspend_within false (b ∷ c ∷ bs) d there = elim (or_splits (d == c) false there) [
  | inl is ↦ or_right (d == b) ((d == c) || has d bs) (or_left (d == c) (has d bs) is)
  | inr never ↦ cc
]

edges_within : (asked : Targets) (first : Bool) (bs : List ℕ) (d : ℕ) → has d (edges_of asked first bs) ≡ true → has d bs ≡ true
edges_within to.Suspend first bs d there = suspend_within first bs d there
edges_within to.Instruction first bs d there = there
edges_within to.Ends first bs d there = there
edges_within to.One first bs d there = there
edges_within to.Either first bs d there = there
edges_within to.Call first bs d there = there
edges_within to.Await first bs d there = there

list_below : (lists : List (List ℕ)) (c d : ℕ) → has d (list_at lists c) ≡ true → c < length lists
list_below [] c d there = cc
list_below (xs ∷ lists) zero d there = omega arith
list_below (xs ∷ lists) (suc c) d there = omega (arith, list_below lists c d there)

-- no block suspends
suspended_none : (blocks : List Block) → ((c : ℕ) (b : Block) → slice_get blocks c ≡ Some b → suspends (row_of b.term.instr.kind).targets ≡ false) → suspended blocks ≡ None
suspended_none [] none = refl
suspended_none (b ∷ blocks) none = step (row_of b.term.instr.kind).targets (none 0 b refl)
  where
    step : (asked : Targets) → suspends asked ≡ false → suspends_to asked b.term.targets ≡ None
    step to.Suspend is = cc
    step to.Instruction is = refl
    step to.Ends is = refl
    step to.One is = refl
    step to.Either is = refl
    step to.Call is = refl
    step to.Await is = refl

-- ---- a function

module _ (code : LowModule) (f : LowFunc) (well : IsWellFormed code f) (p : IsPlainCode f) where
  module _ (c : ℕ) (b : Block) (at : slice_get f.blocks c ≡ Some b) where
    fits : (every (inner_fits code f) b.instrs ≡ true) × (term_fits code f b.term ≡ true)
    fits = and_both (every (inner_fits code f) b.instrs) (term_fits code f b.term) (every_at (block_fits code f) f.blocks c b well.fits at)

    mere : (every (λ i. not (is_foreign i.kind)) b.instrs ≡ true) × (not (is_foreign b.term.instr.kind) ≡ true)
    mere = and_both (every (λ i. not (is_foreign i.kind)) b.instrs) (not (is_foreign b.term.instr.kind)) (every_at none_foreign f.blocks c b p.rows at)

    unsaved : has_no_save b ≡ true
    unsaved = calm b.instrs mere.0

    unsuspended : is_suspend b.term.instr.kind ≡ false
    unsuspended = no_suspend false false b.instrs b.term mere.0 refl refl (every_at nowhere_else f.blocks c b well.alone at)

  parts : (i : Instr) → instr_fits code f i ≡ true → ((row_of i.kind).stands ≡ true) × (operands_fit (row_of i.kind) code f i ≡ true) × (results_fit (row_of i.kind) code f i ≡ true)
  parts i fit =
      let a = and_both ((row_of i.kind).stands && attr_fits (row_of i.kind).attr code i.attr && operands_fit (row_of i.kind) code f i) (results_fit (row_of i.kind) code f i) fit in
      let b = and_both ((row_of i.kind).stands && attr_fits (row_of i.kind).attr code i.attr) (operands_fit (row_of i.kind) code f i) a.0 in
      let d = and_both (row_of i.kind).stands (attr_fits (row_of i.kind).attr code i.attr) b.0 in
      (d.0, b.1, a.1)

  object_of : (r : ℕ) → is_counted f r ≡ true → on_type is_object (slice_get f.regs r) ≡ true
  object_of r it = (and_both (on_type is_object (slice_get f.regs r)) (not (has r (created f))) it).0

  known : (r : ℕ) → is_counted f r ≡ true → r < length f.regs
  known r it = below f.regs r (object_of r it)

  -- ---- terminators

  module _ (c : ℕ) (b : Block) (at : slice_get f.blocks c ≡ Some b) where
    end_parts : (instr_fits code f b.term.instr ≡ true) × (targets_fit (row_of b.term.instr.kind).targets code f b.term.instr b.term.targets ≡ true)
    end_parts = and_both (instr_fits code f b.term.instr) (targets_fit (row_of b.term.instr.kind).targets code f b.term.instr b.term.targets) (fits c b at).1

    end_check : Checked b.term.instr.kind
    end_check = checks b.term.instr.kind (parts b.term.instr end_parts.0).0 (not_true (is_foreign b.term.instr.kind) (mere c b at).1)

    none_used : uses b.term.instr ≡ []
    none_used = ap (λ n. take n (numbers b.term.instr.operands)) zero_uses
      where
        zero_uses : (row_of b.term.instr.kind).uses ≡ 0
        zero_uses =
            let e : ((row_of b.term.instr.kind).uses == 0) ≡ true =
            sym (ap (λ x. x || ((row_of b.term.instr.kind).uses == 0)) (no_instruction code f b.term.instr 0 (row_of b.term.instr.kind).targets b.term.targets end_parts.1)) ∙ end_check.uses in
            grind (arith, nat_tests, e)

    ends_there : is_end (row_of b.term.instr.kind).targets ≡ true → list_at (edges f) c ≡ []
    ends_there is =
        let e : (x : Bool) × (list_at (edges f) c ≡ edges_from x b.term) = edges_at true f.blocks c b at in
        e.1 ∙ ends_nowhere code f b.term.instr e.0 (row_of b.term.instr.kind).targets b.term.targets is end_parts.1

    returns_there : is_return b.term.instr.kind ≡ true → list_at (edges f) c ≡ []
    returns_there is = ends_there (sym (ap (λ x. not x || is_end (row_of b.term.instr.kind).targets) is) ∙ end_check.returns)

    suspends_none : suspends (row_of b.term.instr.kind).targets ≡ false
    suspends_none = not_true (suspends (row_of b.term.instr.kind).targets) (sym (ap (λ x. x || not (suspends (row_of b.term.instr.kind).targets)) (unsuspended c b at)) ∙ end_check.suspended)

    taken_there : (r : ℕ) → is_counted f r ≡ true → has r (used_at_end b.term) ≡ true → has r (numbers (taken_at_end b.term)) ≡ true
    taken_there r it there = elim (or_splits (has r (numbers b.term.instr.operands)) (has r (args_of b.term.targets)) (sym (has_append r (numbers b.term.instr.operands) (args_of b.term.targets)) ∙ there)) [
      | inl operand ↦
          let named : (has r (uses b.term.instr) || has r (takes f b.term.instr)) ≡ true =
          operands_named code f b.term.instr r (object_of r it) p.cells (parts b.term.instr end_parts.0).1 end_check operand in
          let takes_it : has r (takes f b.term.instr) ≡ true = sym (ap (λ (xs : List ℕ). has r xs || has r (takes f b.term.instr)) none_used) ∙ named in
          by_takes (row_of b.term.instr.kind).takes takes_it operand
      | inr argument ↦
          let first = args_first code f b.term.instr r (row_of b.term.instr.kind).targets b.term.targets end_parts.1 argument in
          let takes_is : (row_of b.term.instr.kind).takes ≡ true = sym (ap (λ x. not x || (row_of b.term.instr.kind).takes) first.0) ∙ end_check.hands in
          ap (λ x. has r (numbers ((if x then b.term.instr.operands else []) ++ (if x then first_args b.term.targets else [])))) takes_is
          ∙ both_have b.term.instr.operands (first_args b.term.targets) ∙ or_right (has r (numbers b.term.instr.operands)) (has r (numbers (first_args b.term.targets))) first.1
    ]
      where
        both_have : (rs ss : List Reg) → has r (numbers (rs ++ ss)) ≡ (has r (numbers rs) || has r (numbers ss))
        both_have [] ss = refl
        both_have (q ∷ rs) ss = ap (λ x. (r == q.0) || x) (both_have rs ss) ∙ turn (r == q.0)
          where
            turn : (x : Bool) → (x || (has r (numbers rs) || has r (numbers ss))) ≡ ((x || has r (numbers rs)) || has r (numbers ss))
            turn true = refl
            turn false = refl

        by_takes : (x : Bool) → has r (if x then references f b.term.instr.operands else []) ≡ true → has r (numbers b.term.instr.operands) ≡ true
            → has r (numbers ((if x then b.term.instr.operands else []) ++ (if x then first_args b.term.targets else []))) ≡ true
        by_takes false none operand = cc
        by_takes true some operand = both_have b.term.instr.operands (first_args b.term.targets) ∙ or_left (has r (numbers b.term.instr.operands)) (has r (numbers (first_args b.term.targets))) operand

  -- ---- blocks

  edge_below : (c d : ℕ) → has d (list_at (edges f) c) ≡ true → d < length f.blocks
  edge_below c d there =
      let o : (b : Block) × (slice_get f.blocks c ≡ Some b) = get_within f.blocks c (omega (arith, list_below (edges f) c d there, length_edges true f.blocks)) in
      let e : (x : Bool) × (list_at (edges f) c ≡ edges_from x o.0.term) = edges_at true f.blocks c o.0 o.1 in
      targets_below f o.0.term.targets d
      (and_both (regs_within f o.0.params && every (instr_within code f) o.0.instrs && instr_within code f o.0.term.instr) (every (target_within f) o.0.term.targets) (every_at (block_within code f) f.blocks c o.0 well.within o.1)).1
      (edges_within (row_of o.0.term.instr.kind).targets e.0 (blocks_of o.0.term.targets) d (sym (ap (λ (xs : List ℕ). has d xs) e.1) ∙ there))

  has_start : (slice_get f.blocks 0 ≡ None → ⊥) × ((b : Block) → slice_get f.blocks 0 ≡ Some b → b.params ≡ [])
  has_start = step f.blocks well.start
    where
      none : (rs : List Reg) → (length rs == 0) ≡ true → rs ≡ []
      none [] is = refl
      none (r ∷ rs) is = (let e : (length (r ∷ rs) == 0) ≡ false = some_long (length rs) in cc)

      step : (blocks : List Block) → starts_bare blocks ≡ true → (slice_get blocks 0 ≡ None → ⊥) × ((b : Block) → slice_get blocks 0 ≡ Some b → b.params ≡ [])
      step [] is = cc
      step (d ∷ blocks) is = (λ no. cc, λ b at. (let e : d ≡ b = cc in subst (λ (x : Block). x.params ≡ []) e (none d.params is)))

  some_block : 0 < length f.blocks
  some_block = step f.blocks well.start
    where
      step : (blocks : List Block) → starts_bare blocks ≡ true → 0 < length blocks
      step [] is = cc
      step (d ∷ blocks) is = omega arith

  -- a path comes to a block that isn't the first one
  comes : (c : ℕ) (b : Block) → slice_get f.blocks c ≡ Some b → (0 ≡ c → ⊥) → dead.Arrives (edges f) 0 c
  comes c b at later = (let reached : IsReached f c = p.reached c b at in dead.arrives (edges f) c 0 reached.path later reached.follows reached.ends)

  -- ---- what an instruction defines isn't live before it

  fresh : (c k r : ℕ) (b : Block) (i : Instr) → slice_get f.blocks c ≡ Some b → slice_get b.instrs k ≡ Some i → is_counted f r ≡ true → has r (numbers i.results) ≡ true
      → is_live f c k r ≡ false
  fresh c k r b i at at_k it named = elim (eqb_tells 0 c) [
    | inl same ↦ dead.dead f well.assigned r (known r it) no_param [] c k b (record { follows = tt; ends = same.1; at = at; on = refl; params = here; before = before })
    | inr later ↦
        let a : dead.Arrives (edges f) 0 c = comes c b at later.1 in
        dead.dead f well.assigned r (known r it) no_param (a.path ++ c ∷ []) c k b
        (dead.avoided_more f r c c a (once.result_elsewhere f r (p.once r) c b at k i at_k named) a.edge b at k here before)
  ]
    where
      no_param : has r (numbers f.params) ≡ false
      no_param = once.result_no_param f r (p.once r) c b at k i at_k named

      here : has r (numbers b.params) ≡ false
      here = once.result_not_here f r (p.once r) c b at k i at_k named

      before : has r (assigned_before b.instrs k) ≡ false
      before = once.result_not_before f r (p.once r) c b at k i at_k named

  row_plain : (c k r : ℕ) (b : Block) (i : Instr) → slice_get f.blocks c ≡ Some b → slice_get b.instrs k ≡ Some i → is_counted f r ≡ true → IsPlain f c k i r
  row_plain c k r b i at at_k it = record {
    counts_nothing = check.counts_nothing;
    operands = operands_named code f i r (object_of r it) p.cells fit.1 check;
    fresh = fresh c k r b i at at_k it;
    given = λ named. ap (λ x. count_to r (if x then references f i.results else [])) (results_given code f i r (object_of r it) p.cells fit.1 check fit.2 named)
        ∙ count_references f r (object_of r it) i.results ∙ once.result_once f r (p.once r) c b at k i at_k named;
  }
    where
      fit : ((row_of i.kind).stands ≡ true) × (operands_fit (row_of i.kind) code f i ≡ true) × (results_fit (row_of i.kind) code f i ≡ true)
      fit = parts i (and_both (is_instruction (row_of i.kind).targets) (instr_fits code f i) (every_at (inner_fits code f) b.instrs k i (fits c b at).0 at_k)).1

      check : Checked i.kind
      check = checks i.kind fit.0 (not_true (is_foreign i.kind) (every_at (λ i. not (is_foreign i.kind)) b.instrs k i (mere c b at).0 at_k))

  -- ---- a block's parameter isn't live beside the block

  module _ (c r : ℕ) (b : Block) (at : slice_get f.blocks c ≡ Some b) (named : has r (numbers b.params) ≡ true) where
    there : r < length f.regs
    there =
        let a = and_both (regs_within f b.params && every (instr_within code f) b.instrs && instr_within code f b.term.instr) (every (target_within f) b.term.targets) (every_at (block_within code f) f.blocks c b well.within at) in
        let d = and_both (regs_within f b.params && every (instr_within code f) b.instrs) (instr_within code f b.term.instr) a.0 in
        step b.params (and_both (regs_within f b.params) (every (instr_within code f) b.instrs) d.0).0 named
      where
        step : (rs : List Reg) → every (λ q. nat_lt q.0 (length f.regs)) rs ≡ true → has r (numbers rs) ≡ true → r < length f.regs
        step [] all is = cc
        step (q ∷ rs) all is =
            let both = and_both (nat_lt q.0 (length f.regs)) (every (λ q. nat_lt q.0 (length f.regs)) rs) all in
            elim (or_splits (r == q.0) (has r (numbers rs)) is) [
              | inl now ↦ (let same : r ≡ q.0 = grind (arith, nat_tests, now) in let l : q.0 < length f.regs = grind (arith, nat_tests, both.0) in omega (arith, same, l))
              | inr later ↦ step rs both.1 later
            ]

    not_first : 0 ≡ c → ⊥
    not_first same = (let none : b.params ≡ [] = has_start.1 b (subst (λ n. slice_get f.blocks n ≡ Some b) (sym same) at) in let e : has r (numbers b.params) ≡ false = ap (λ rs. has r (numbers rs)) none in cc)

    arrival : dead.Arrives (edges f) 0 c
    arrival = comes c b at not_first

    abbrev source : ℕ
    source = last_of 0 arrival.path

    not_into : (d : ℕ) → has d (list_at (edges f) source) ≡ true → is_live_into f r d ≡ false
    not_into d edge = step o.0 o.1 (has r (numbers o.0.params)) refl
      where
        o : (e : Block) × (slice_get f.blocks d ≡ Some e)
        o = get_within f.blocks d (edge_below source d edge)

        step : (e : Block) → slice_get f.blocks d ≡ Some e → (x : Bool) → has r (numbers e.params) ≡ x → is_live_into f r d ≡ false
        step e at_d true is = ap (λ (w : Option Block). not (has r (numbers (params_of w))) && is_live f d 0 r) at_d ∙ ap (λ x. not x && is_live f d 0 r) is
        step e at_d false is =
            ap (λ (w : Option Block). not (has r (numbers (params_of w))) && is_live f d 0 r) at_d ∙ ap (λ x. not x && is_live f d 0 r) is
            ∙ dead.dead f well.assigned r there (once.param_alone f r (p.once r) c b at named) (arrival.path ++ d ∷ []) d 0 e
            (dead.avoided_more f r c d arrival (once.param_elsewhere f r (p.once r) c b at named) (edge, (let l : d < length f.blocks = edge_below source d edge in omega (arith, l, length_edges true f.blocks))) e at_d 0 is (dead.no_row e.instrs r))

    not_over : (ds : List ℕ) → ((d : ℕ) → has d ds ≡ true → has d (list_at (edges f) source) ≡ true) → is_live_over f r ds ≡ false
    not_over [] each = refl
    not_over (d ∷ ds) each = neither (is_live_into f r d) (is_live_over f r ds) (not_into d (each d (or_left (d == d) (has d ds) (grind (arith, nat_tests)))))
        (not_over ds (λ e there. each e (or_right (e == d) (has e ds) there)))

    alone : is_live_over f r (beside f c) ≡ false
    alone = elim (sides.beside_cases f c) [
      | inl none ↦ ap (λ ds. is_live_over f r ds) none
      | inr one ↦
          let before_is = sides.before_is f source c (block_below f.blocks c b at) arrival.edge.0 in
          let same : source ≡ one.0 = sides.in_lone source one.0 (sym (ap (λ (xs : List ℕ). has source xs) one.1.0) ∙ before_is) in
          not_over (beside f c) (λ d is. sym (ap (λ (xs : List ℕ). has d xs) (one.1.1 ∙ ap (λ n. list_at (edges f) n) (sym same))) ∙ is)
    ]

  -- ---- all together

  pub uncounted : IsUncounted f
  uncounted = record {
    plain = p.plain;
    unsaved = unsaved;
    unsuspended = unsuspended;
    goes_on = suspended_none f.blocks suspends_none;
    rows = row_plain;
    ends = λ c r b at it. record { operands = taken_there c b at r it; returns = returns_there c b at };
    uses_none = none_used;
    ends_there = ends_there;
    sides = λ c d there. sides.sides f well.uncritical c d (edge_below c d there) there;
    alone = alone;
    once = λ c r b at it. once.is_once f r (p.once r) (object_of r it) b.params (once.block_once f r (p.once r) c b at);
    has_start = has_start.0;
    start = has_start.1;
    none_to_start = sides.beside_start f well.not_to_start some_block;
    not_to_start = sides.not_to_start f well.not_to_start;
    params_once = λ r it. once.is_once f r (p.once r) (object_of r it) f.params (once.params_once f r (p.once r));
    starts_with = starts_with;
  }
    where
      starts_with : (r : ℕ) → is_counted f r ≡ true → is_live f 0 0 r ≡ true → has r (numbers f.params) ≡ true
      starts_with r it live = elim (is_either (has r (numbers f.params))) [
        | inl is ↦ is
        | inr absent ↦
            let o : (b : Block) × (slice_get f.blocks 0 ≡ Some b) = get_within f.blocks 0 some_block in
            let none : has r (numbers o.0.params) ≡ false = ap (λ rs. has r (numbers rs)) (has_start.1 o.0 o.1) in
            let gone : is_live f 0 0 r ≡ false = dead.dead f well.assigned r (known r it) absent [] 0 0 o.0 (record { follows = tt; ends = refl; at = o.1; on = refl; params = none; before = dead.no_row o.0.instrs r }) in
            cc
      ]

pub plain_code_uncounted : PlainCodeUncounted
plain_code_uncounted code f well p = uncounted code f well p

pub plain_code_owns : PlainCodeOwns
plain_code_owns code f well p = owned.plain_functions_own f (uncounted code f well p)
