-- Blocks are half-lowered, and what coroutines make of them is well formed.
use Rattle.std.proofs.Common.{◌≡◌, ◌⊎◌, inl, inr, ℕ, zero, suc, ◌+◌, cond, Bool, true, false, List, [], ◌∷◌, ◌++◌, map, length, Some, refl, sym, subst}
use Rattle.std.specs.Prelude.{not, slice_get}
use Rattle.low_flow.specs.Lists.{has}
use Rattle.op_table.specs.declared.kind.OpKind.TheVariants.{AioFail, FuncReturn}
use Rattle.ir_forms.specs.declared.ops.Func.{Func}
use Rattle.ir_forms.specs.Numbers.{joined}
use Rattle.low_forms.specs.declared.code.LowKind.{LowKind}
use Rattle.low_forms.specs.declared.code.LowKind.TheVariants.{Row, Launch, Await}
use Rattle.low_forms.specs.declared.code.Block.{Block}
use Rattle.low_forms.specs.declared.code.LowFunc.{LowFunc}
use Rattle.low_forms.specs.Assigned.{numbers, block_assigns}
use Rattle.scf_blocks.specs.declared.body.Failure.{Failure}
use Rattle.scf_blocks.specs.declared.body.Failure.TheVariants.{Constant, Passed}
use Rattle.scf_blocks.specs.declared.body.Close.TheVariants.{Returns}
use Rattle.scf_blocks.specs.Tree.{values_of}
use Rattle.scf_blocks.specs.Code.{Code, code_of, blocks_of, regs_of, fails_of, failure_block, failure_blocks, with_vars}
use Rattle.scf_blocks.specs.Lowered.{lowered_func, lowered, func_tree}
use Rattle.coro_lower.specs.Layout.{plain_end, task_end}
use Rattle.register_laws.specs.Laws.{block_uses}
use Rattle.register_laws.proofs.Lists.{every_at, sub_left, sub_right, Sub}
use Rattle.register_laws.proofs.Renamed.{joined_has}
use Rattle.block_laws.specs.Closed.{Closed}
use Rattle.block_laws.proofs.Rows.{code_blocks}
use Rattle.block_laws.proofs.Scopes.{names_of, names_with}
use Rattle.block_laws.proofs.Flow.{AllIn, regs_in, more_vars}
use Rattle.block_laws.proofs.Whole.{Made, made_of, well_formed_if_fits}
use Rattle.coro_laws.specs.Half.{is_emptied, stays, kept_assigns, kept_definitions, UsesKept, IsHalfLowered}
use Rattle.coro_laws.proofs.Whole.{runtime_well_formed}
use Rattle.half_laws.specs.Laws.{IsReady, BlocksHalfLowered, LoweredWellFormed}
use Rattle.half_laws.proofs.Rows.{is_fail, lasts, none_held, code_lasts}
use Rattle.half_laws.proofs.Uses.{EachDefines, EachUses, code_used, block_used, opened}

-- ---- blocks that stay

kind_stays : (task : Bool) (kind : LowKind) → not (is_fail kind) ≡ true → not (is_emptied (cond task (task_end kind) (plain_end kind))) ≡ true
kind_stays true Await is = refl
kind_stays true Launch is = refl
kind_stays true (Row AioFail) is = cc
kind_stays true (Row FuncReturn) is = refl
kind_stays true (Row _) is = refl
kind_stays false Await is = refl
kind_stays false Launch is = refl
kind_stays false (Row k) is = refl

last_stays : (f : LowFunc) (b : Block) → lasts b ≡ true → stays f b ≡ true
last_stays f b is = kind_stays f.coroutine b.term.instr.kind is

-- ---- two lists of blocks

front_at : (xs ys : List Block) (k : ℕ) (b : Block) → slice_get xs k ≡ Some b → slice_get (xs ++ ys) k ≡ Some b
front_at [] ys k b at = cc
front_at (x ∷ xs) ys zero b at = at
front_at (x ∷ xs) ys (suc k) b at = front_at xs ys k b at

either_at : (xs ys : List Block) (k : ℕ) (b : Block) → slice_get (xs ++ ys) k ≡ Some b → (slice_get xs k ≡ Some b) ⊎ ((j : ℕ) × (slice_get ys j ≡ Some b))
either_at [] ys k b at = inr (k, at)
either_at (x ∷ xs) ys zero b at = inl at
either_at (x ∷ xs) ys (suc k) b at = either_at xs ys k b at

each_defines : (K : ℕ → Type 0) (bs : List Block) → ((k : ℕ) (b : Block) → slice_get bs k ≡ Some b → AllIn K (block_assigns b)) → EachDefines K bs
each_defines K [] is = tt
each_defines K (b ∷ bs) is = (is 0 b refl, each_defines K bs (λ k c at. is (suc k) c at))

uses_at : (K : ℕ → Type 0) (bs : List Block) (k : ℕ) (b : Block) → EachUses K bs → slice_get bs k ≡ Some b → AllIn K (block_uses b)
uses_at K [] k b is at = cc
uses_at K (c ∷ bs) zero b is at = let same : c ≡ b = cc in subst (λ (x : Block). AllIn K (block_uses x)) same is.0
uses_at K (c ∷ bs) (suc k) b is at = uses_at K bs k b is.1 at

-- a failure block uses what it defines
own_by : (m : ℕ) (f : Failure) → Sub (block_uses (failure_block m f)) (block_assigns (failure_block m f))
own_by m (Constant n) r h = h
own_by m Passed r h = h

own_uses : (m : ℕ) (fs : List Failure) (k : ℕ) (b : Block) → slice_get (failure_blocks m fs) k ≡ Some b → Sub (block_uses b) (block_assigns b)
own_uses m [] k b at = cc
own_uses m (f ∷ fs) zero b at = let same : failure_block m f ≡ b = cc in subst (λ (x : Block). Sub (block_uses x) (block_assigns x)) same (own_by m f)
own_uses m (f ∷ fs) (suc k) b at = own_uses (m + 1) fs k b at

-- ---- a function

module _ (funcs : List Func) (f : Func) (ready : IsReady funcs f) where
  abbrev low : LowFunc
  low = lowered_func funcs f

  abbrev failing : List Block
  failing = failure_blocks (length f.params + regs_of (func_tree f)) (fails_of (func_tree f))

  abbrev Kept : ℕ → Type 0
  Kept r = has r (kept_definitions low) ≡ true

  kept_at : (k : ℕ) (b : Block) → slice_get low.blocks k ≡ Some b → stays low b ≡ true → AllIn Kept (block_assigns b)
  kept_at k b at is r h =
      sub_right (numbers low.params) (joined (map (kept_assigns low) low.blocks)) r
      (joined_has (kept_assigns low) low.blocks k b at r (subst (λ (c : Bool). has r (cond c (block_assigns b) []) ≡ true) (sym is) h))

  params_kept : AllIn Kept (numbers low.params)
  params_kept = sub_left (numbers low.params) (joined (map (kept_assigns low) low.blocks))

  code_defines : EachDefines Kept (code_blocks funcs f)
  code_defines = each_defines Kept (code_blocks funcs f) (λ k b at.
      kept_at k b (front_at (code_blocks funcs f) failing k b at) (last_stays low b (every_at lasts (code_blocks funcs f) k b (code_lasts funcs f) at)))

  code_uses : EachUses Kept (code_blocks funcs f)
  code_uses =
      let n : ℕ = length f.params in
      let c : Code = code_of funcs (func_tree f) 0 n (blocks_of (func_tree f) + 1) (with_vars f.params 0 []) Returns in
      block_used Kept [] c (code_used Kept funcs (func_tree f) 0 n (blocks_of (func_tree f) + 1) (with_vars f.params 0 []) Returns closed known tt (opened Kept [] c code_defines).code)
    where
      closed : Closed (func_tree f) (names_of (with_vars f.params 0 []))
      closed = subst (λ names. Closed (func_tree f) names) (sym (names_with (values_of f.params) 0 [])) ready.closed

      known : AllIn Kept (regs_in (with_vars f.params 0 []))
      known r h = elim (more_vars f.params 0 [] r h) [
        | inl none ↦ cc
        | inr new ↦ params_kept r new
      ]

  uses_kept : UsesKept low
  uses_kept k b r at is h = elim (either_at (code_blocks funcs f) failing k b at) [
    | inl front ↦ uses_at Kept (code_blocks funcs f) k b code_uses front r h
    | inr back ↦ kept_at k b at is r (own_uses (length f.params + regs_of (func_tree f)) (fails_of (func_tree f)) back.0 b back.1 r h)
  ]

  half_lowered : IsHalfLowered low
  half_lowered = record { few = ready.few; plain = none_held funcs f; held = ready.held; kept = uses_kept }

pub blocks_half_lowered : BlocksHalfLowered
blocks_half_lowered program ready k low at =
    let m : Made (lowered_func program.funcs) program.funcs k low = made_of (lowered_func program.funcs) program.funcs k low at in
    subst (λ (l : LowFunc). IsHalfLowered l) m.same (half_lowered program.funcs m.func (ready k m.func m.at))

pub lowered_well_formed : LoweredWellFormed
lowered_well_formed program ready fits =
    runtime_well_formed (lowered program) (well_formed_if_fits program (λ k f at. (ready k f at).closed) fits) (blocks_half_lowered program ready)
