-- What an instruction's fit depends on: the types of its registers, what it carries, and what its callee takes and gives.
use Rattle.std.proofs.Common.{◌≡◌, ℕ, zero, suc, ◌==◌, ◌&&◌, ◌||◌, not, if◌then◌else◌, Bool, true, false, List, [], ◌∷◌, map, length, Option, Some, None, refl, sym, ap, ◌∙◌}
use Rattle.std.specs.Option.{option_map}
use Rattle.std.proofs.lemmas.List.{length-map}
use Rattle.ir_forms.specs.declared.types.Ty.{Ty}
use Rattle.ir_verify.specs.Types.{same_type, holds, is_number, is_truth, is_index, is_memref, is_token, is_value, is_group, is_awaitable, literal_fits}
use Rattle.low_forms.specs.declared.code.Reg.{Reg}
use Rattle.low_forms.specs.declared.code.LowAttr.{LowAttr}
use Rattle.low_forms.specs.declared.code.LowAttr.TheVariants as low
use Rattle.low_forms.specs.declared.code.Instr.{Instr}
use Rattle.low_forms.specs.declared.code.Target.{Target}
use Rattle.low_forms.specs.declared.code.Block.{Block}
use Rattle.low_forms.specs.declared.code.LowFunc.{LowFunc}
use Rattle.low_forms.specs.declared.code.LowModule.{LowModule}
use Rattle.low_forms.specs.declared.row.LowRow.{LowRow}
use Rattle.low_forms.specs.declared.row.Slot.{Slot}
use Rattle.low_forms.specs.declared.row.Slot.TheVariants as slot
use Rattle.low_forms.specs.declared.row.Rest.{Rest}
use Rattle.low_forms.specs.declared.row.Rest.TheVariants as rest
use Rattle.low_forms.specs.declared.row.Results.{Results}
use Rattle.low_forms.specs.declared.row.Results.TheVariants as results
use Rattle.low_forms.specs.declared.row.AttrSlot.{AttrSlot}
use Rattle.low_forms.specs.declared.row.AttrSlot.TheVariants as carries
use Rattle.low_forms.specs.declared.row.Targets.{Targets}
use Rattle.low_forms.specs.declared.row.Targets.TheVariants as to
use Rattle.low_forms.specs.Registers.{every, reg_type, type_at, on_type, on_types, like_types, have_types, hold_types, callee, block_at}
use Rattle.low_forms.specs.Fits as fits

-- the types of registers
abbrev pub types : LowFunc → List Reg → List (Option Ty)
types f rs = map (reg_type f) rs

abbrev pub nth : List (Option Ty) → ℕ → Option Ty
nth [] k = None
nth (t ∷ ts) zero = t
nth (t ∷ ts) (suc k) = nth ts k

-- what is seen of a called function
pub record Seen : Type 0 where
  pub takes : List (Option Ty)
  pub gives : List Ty
  pub task : Bool

abbrev pub seen : LowFunc → Seen
seen g = record { takes = types g g.params; gives = g.results; task = g.coroutine }

abbrev pub see : Option LowFunc → Option Seen
see o = option_map seen o

-- ---- the tests, over types

abbrev pub likes : List (Option Ty) → List (Option Ty) → Bool
likes [] [] = true
likes [] (s ∷ ss) = false
likes (r ∷ rs) [] = false
likes (r ∷ rs) (s ∷ ss) = on_types same_type s r && likes rs ss

abbrev pub haves : List (Option Ty) → List Ty → Bool
haves [] [] = true
haves [] (t ∷ ts) = false
haves (r ∷ rs) [] = false
haves (r ∷ rs) (t ∷ ts) = on_type (same_type t) r && haves rs ts

abbrev pub holdings : List (Option Ty) → List Ty → Bool
holdings [] [] = true
holdings [] (t ∷ ts) = false
holdings (r ∷ rs) [] = false
holdings (r ∷ rs) (t ∷ ts) = on_types holds r (Some t) && holdings rs ts

abbrev pub slotted : Slot → List (Option Ty) → LowAttr → Ty → Bool
slotted slot.Absent ops a t = false
slotted slot.Number ops a t = is_number t
slotted slot.Truth ops a t = is_truth t
slotted slot.Index ops a t = is_index t
slotted slot.Code ops a t = fits.is_code t
slotted slot.Memref ops a t = is_memref t
slotted slot.Element ops a t = is_awaitable t
slotted slot.Value ops a t = is_value t
slotted slot.Group ops a t = is_group t
slotted slot.Object ops a t = is_awaitable t || is_group t
slotted slot.CoroId ops a t = fits.is_coro_id t
slotted slot.CoroHandle ops a t = fits.is_coro_handle t
slotted slot.CoroState ops a t = fits.is_coro_state t
slotted (slot.Like k) ops a t = fits.beside (slot.Like k) (nth ops k) t
slotted (slot.CellOf k) ops a t = fits.beside (slot.CellOf k) (nth ops k) t
slotted (slot.HeldBy k) ops a t = fits.beside (slot.HeldBy k) (nth ops k) t
slotted slot.Wider ops a t = fits.beside slot.Wider (nth ops 0) t
slotted slot.Narrower ops a t = fits.beside slot.Narrower (nth ops 0) t
slotted slot.Recast ops a t = fits.beside slot.Recast (nth ops 0) t
slotted slot.OfLiteral ops a t = literal_fits (fits.literal_of a) t

abbrev pub indices : ℕ → List (Option Ty) → Bool
indices n rs = (length rs == n) && every (on_type is_index) rs

abbrev pub takes_these : Option Seen → List (Option Ty) → Bool
takes_these None rs = false
takes_these (Some g) rs = likes rs g.takes

abbrev pub gives_these : Option Seen → List (Option Ty) → Bool
gives_these None rs = false
gives_these (Some g) rs = haves rs g.gives

abbrev pub launches_these : Option Seen → List (Option Ty) → Bool
launches_these None rs = false
launches_these (Some g) [] = false
launches_these (Some g) (r ∷ rs) = on_type is_token r && holdings rs g.gives

-- an instruction as its fit sees it: what it carries, its callee, what its function gives, and the types of its registers
pub record Sight : Type 0 where
  pub attr : LowAttr
  pub called : Option Seen
  pub given : List Ty
  pub operands : List (Option Ty)
  pub results : List (Option Ty)

abbrev pub rests : Rest → Sight → List (Option Ty) → Bool
rests rest.Nothing v rs = length rs == 0
rests rest.Sizes v rs = indices (fits.open_rank_of (nth v.results 0)) rs
rests (rest.Indices k) v rs = indices (fits.rank_of (nth v.operands k)) rs
rests rest.Params v rs = takes_these v.called rs
rests rest.Returned v rs = haves rs v.given

abbrev pub fills : List Slot → Rest → Sight → List (Option Ty) → Bool
fills [] r v rs = rests r v rs
fills (s ∷ ss) r v [] = fits.is_absent s && rests r v []
fills (s ∷ ss) r v (t ∷ ts) = if fits.is_absent s then rests r v (t ∷ ts) else (on_type (slotted s v.operands v.attr) t && fills ss r v ts)

abbrev pub own_fits : Slot → Sight → List (Option Ty) → Bool
own_fits s v [] = fits.is_absent s
own_fits s v (r ∷ []) = on_type (slotted s v.operands v.attr) r
own_fits s v (r ∷ q ∷ rs) = false

abbrev pub results_by : Results → Slot → Sight → Bool
results_by results.Own s v = own_fits s v v.results
results_by results.Called s v = gives_these v.called v.results
results_by results.Launched s v = launches_these v.called v.results

abbrev pub is_task : Option Seen → Bool
is_task None = false
is_task (Some g) = g.task

abbrev pub is_no_task : Option Seen → Bool
is_no_task None = false
is_no_task (Some g) = not g.task

abbrev pub carries_fit : AttrSlot → Sight → LowAttr → Bool
carries_fit carries.Nothing v low.None = true
carries_fit carries.Literal v (low.Literal negative magnitude) = true
carries_fit carries.Literal v (low.Truth bit) = true
carries_fit carries.Pred v (low.Pred p) = true
carries_fit carries.Count v (low.Count n) = true
carries_fit carries.Coroutine v a = is_task v.called
carries_fit carries.Plain v a = is_no_task v.called
carries_fit _ v a = false

abbrev pub slots_of : LowRow → List Slot
slots_of row = row.first ∷ row.second ∷ row.third ∷ []

abbrev pub fits_as : LowRow → Sight → Bool
fits_as row v = ((row.stands && carries_fit row.attr v v.attr) && fills (slots_of row) row.rest v v.operands) && results_by row.results row.result v

-- ---- they say the same

pub nth_is : (f : LowFunc) (rs : List Reg) (k : ℕ) → type_at f rs k ≡ nth (types f rs) k
nth_is f [] k = refl
nth_is f (r ∷ rs) zero = refl
nth_is f (r ∷ rs) (suc k) = nth_is f rs k

pub likes_is : (f : LowFunc) (rs : List Reg) (g : LowFunc) (ss : List Reg) → like_types f rs g ss ≡ likes (types f rs) (types g ss)
likes_is f [] g [] = refl
likes_is f [] g (s ∷ ss) = refl
likes_is f (r ∷ rs) g [] = refl
likes_is f (r ∷ rs) g (s ∷ ss) = ap (λ b. on_types same_type (reg_type g s) (reg_type f r) && b) (likes_is f rs g ss)

pub haves_is : (f : LowFunc) (rs : List Reg) (ts : List Ty) → have_types f rs ts ≡ haves (types f rs) ts
haves_is f [] [] = refl
haves_is f [] (t ∷ ts) = refl
haves_is f (r ∷ rs) [] = refl
haves_is f (r ∷ rs) (t ∷ ts) = ap (λ b. on_type (same_type t) (reg_type f r) && b) (haves_is f rs ts)

holdings_is : (f : LowFunc) (rs : List Reg) (ts : List Ty) → hold_types f rs ts ≡ holdings (types f rs) ts
holdings_is f [] [] = refl
holdings_is f [] (t ∷ ts) = refl
holdings_is f (r ∷ rs) [] = refl
holdings_is f (r ∷ rs) (t ∷ ts) = ap (λ b. on_types holds (reg_type f r) (Some t) && b) (holdings_is f rs ts)

slotted_is : (s : Slot) (f : LowFunc) (ops : List Reg) (a : LowAttr) (t : Ty) → fits.slot_fits s f ops a t ≡ slotted s (types f ops) a t
slotted_is (slot.Like k) f ops a t = ap (λ o. fits.beside (slot.Like k) o t) (nth_is f ops k)
slotted_is (slot.CellOf k) f ops a t = ap (λ o. fits.beside (slot.CellOf k) o t) (nth_is f ops k)
slotted_is (slot.HeldBy k) f ops a t = ap (λ o. fits.beside (slot.HeldBy k) o t) (nth_is f ops k)
slotted_is slot.Wider f ops a t = ap (λ o. fits.beside slot.Wider o t) (nth_is f ops 0)
slotted_is slot.Narrower f ops a t = ap (λ o. fits.beside slot.Narrower o t) (nth_is f ops 0)
slotted_is slot.Recast f ops a t = ap (λ o. fits.beside slot.Recast o t) (nth_is f ops 0)
slotted_is s f ops a t = refl

on_same : (p q : Ty → Bool) → ((t : Ty) → p t ≡ q t) → (o : Option Ty) → on_type p o ≡ on_type q o
on_same p q same None = refl
on_same p q same (Some t) = same t

indices_every : (f : LowFunc) (rs : List Reg) → every (λ r. on_type is_index (reg_type f r)) rs ≡ every (on_type is_index) (types f rs)
indices_every f [] = refl
indices_every f (r ∷ rs) = ap (λ b. on_type is_index (reg_type f r) && b) (indices_every f rs)

indices_is : (f : LowFunc) (n : ℕ) (rs : List Reg) → fits.are_indices f n rs ≡ indices n (types f rs)
indices_is f n rs =
    ap (λ k. (k == n) && every (λ r. on_type is_index (reg_type f r)) rs) (sym (length-map rs (reg_type f)))
    ∙ ap (λ b. (length (types f rs) == n) && b) (indices_every f rs)

takes_is : (o : Option LowFunc) (f : LowFunc) (rs : List Reg) → fits.fit_params o f rs ≡ takes_these (see o) (types f rs)
takes_is None f rs = refl
takes_is (Some g) f rs = likes_is f rs g g.params

pub gives_is : (o : Option LowFunc) (f : LowFunc) (rs : List Reg) → fits.fit_results o f rs ≡ gives_these (see o) (types f rs)
gives_is None f rs = refl
gives_is (Some g) f rs = haves_is f rs g.results

launches_is : (o : Option LowFunc) (f : LowFunc) (rs : List Reg) → fits.fit_launched o f rs ≡ launches_these (see o) (types f rs)
launches_is None f rs = refl
launches_is (Some g) f [] = refl
launches_is (Some g) f (r ∷ rs) = ap (λ b. on_type is_token (reg_type f r) && b) (holdings_is f rs g.results)

task_is : (o : Option LowFunc) → fits.is_coroutine o ≡ is_task (see o)
task_is None = refl
task_is (Some g) = refl

no_task_is : (o : Option LowFunc) → fits.is_plain o ≡ is_no_task (see o)
no_task_is None = refl
no_task_is (Some g) = refl

module _ (code : LowModule) (f : LowFunc) (i : Instr) where
  abbrev pub sight : Sight
  sight = record { attr = i.attr; called = see (callee code i.attr); given = f.results; operands = types f i.operands; results = types f i.results }

  rests_is : (r : Rest) (rs : List Reg) → fits.rest_fits r code f i rs ≡ rests r sight (types f rs)
  rests_is rest.Nothing rs = ap (λ k. k == 0) (sym (length-map rs (reg_type f)))
  rests_is rest.Sizes rs = indices_is f (fits.open_rank_of (type_at f i.results 0)) rs ∙ ap (λ o. indices (fits.open_rank_of o) (types f rs)) (nth_is f i.results 0)
  rests_is (rest.Indices k) rs = indices_is f (fits.rank_of (type_at f i.operands k)) rs ∙ ap (λ o. indices (fits.rank_of o) (types f rs)) (nth_is f i.operands k)
  rests_is rest.Params rs = takes_is (callee code i.attr) f rs
  rests_is rest.Returned rs = haves_is f rs f.results

  reg_is : (s : Slot) (r : Reg) → fits.reg_fits s f i r ≡ on_type (slotted s (types f i.operands) i.attr) (reg_type f r)
  reg_is s r = on_same (fits.slot_fits s f i.operands i.attr) (slotted s (types f i.operands) i.attr) (slotted_is s f i.operands i.attr) (reg_type f r)

  fills_is : (row : LowRow) (ss : List Slot) (rs : List Reg) → fits.fill ss row code f i rs ≡ fills ss row.rest sight (types f rs)
  fills_is row [] rs = rests_is row.rest rs
  fills_is row (s ∷ ss) [] = ap (λ b. fits.is_absent s && b) (rests_is row.rest [])
  fills_is row (s ∷ ss) (r ∷ rs) =
      ap (λ b. if fits.is_absent s then b else (fits.reg_fits s f i r && fits.fill ss row code f i rs)) (rests_is row.rest (r ∷ rs))
      ∙ ap (λ b. if fits.is_absent s then rests row.rest sight (types f (r ∷ rs)) else (b && fits.fill ss row code f i rs)) (reg_is s r)
      ∙ ap (λ b. if fits.is_absent s then rests row.rest sight (types f (r ∷ rs)) else (on_type (slotted s (types f i.operands) i.attr) (reg_type f r) && b)) (fills_is row ss rs)

  own_is : (s : Slot) (rs : List Reg) → fits.result_fits s f i rs ≡ own_fits s sight (types f rs)
  own_is s [] = refl
  own_is s (r ∷ []) = reg_is s r
  own_is s (r ∷ q ∷ rs) = refl

  results_is : (row : LowRow) (r : Results) → fits.these_fit r row code f i ≡ results_by r row.result sight
  results_is row results.Own = own_is row.result i.results
  results_is row results.Called = gives_is (callee code i.attr) f i.results
  results_is row results.Launched = launches_is (callee code i.attr) f i.results

  carries_is : (c : AttrSlot) (a : LowAttr) → fits.attr_fits c code a ≡ carries_fit c (record sight { called = see (callee code a) }) a
  carries_is carries.Nothing low.None = refl
  carries_is carries.Coroutine a = task_is (callee code a)
  carries_is carries.Plain a = no_task_is (callee code a)
  carries_is c a = refl

  pub fits_is : (row : LowRow) → (((row.stands && fits.attr_fits row.attr code i.attr) && fits.operands_fit row code f i) && fits.results_fit row code f i) ≡ fits_as row sight
  fits_is row =
      ap (λ b. ((row.stands && b) && fits.operands_fit row code f i) && fits.results_fit row code f i) (carries_is row.attr i.attr)
      ∙ ap (λ b. ((row.stands && carries_fit row.attr sight i.attr) && b) && fits.results_fit row code f i) (fills_is row (slots_of row) i.operands)
      ∙ ap (λ b. ((row.stands && carries_fit row.attr sight i.attr) && fills (slots_of row) row.rest sight (types f i.operands)) && b) (results_is row row.results)

-- ---- targets

-- a target as its fit sees it: the types of its arguments, and those of its block's parameters
pub record Aim : Type 0 where
  pub args : List (Option Ty)
  pub params : Option (List (Option Ty))

abbrev pub params_seen : LowFunc → Option Block → Option (List (Option Ty))
params_seen f o = option_map (λ b. types f b.params) o

abbrev pub aim : LowFunc → Target → Aim
aim f t = record { args = types f t.args; params = params_seen f (block_at f t.block) }

abbrev pub with_params : (List (Option Ty) → Bool) → Option (List (Option Ty)) → Bool
with_params p None = false
with_params p (Some ts) = p ts

abbrev pub bare : Aim → Bool
bare t = length t.args == 0

abbrev pub aims : Aim → Bool
aims t = with_params (likes t.args) t.params

abbrev pub codes : List (Option Ty) → Bool
codes [] = false
codes (r ∷ []) = on_type fits.is_code r
codes (r ∷ q ∷ rs) = false

abbrev pub helds : Option Ty → List (Option Ty) → Bool
helds o [] = not (on_type is_value o)
helds o (r ∷ []) = on_types holds o r
helds o (r ∷ q ∷ rs) = false

abbrev pub two_aims : Targets → Bool → Sight → Aim → Aim → Bool
two_aims to.Either same v t u = (same && aims t) && aims u
two_aims to.Call same v t u = ((bare t && bare u) && with_params (gives_these v.called) t.params) && with_params codes u.params
two_aims to.Await same v t u = (bare t && with_params (helds (nth v.operands 0)) t.params) && (bare u && aims u)
two_aims _ same v t u = false

abbrev pub one_aim : Targets → Aim → Bool
one_aim to.One t = aims t
one_aim _ t = false

abbrev pub three_aims : Targets → Aim → Aim → Aim → Bool
three_aims to.Suspend t u w = ((bare t && aims t) && (bare u && aims u)) && (bare w && aims w)
three_aims _ t u w = false

abbrev pub targets_as : Targets → Bool → Sight → List Aim → Bool
targets_as asked same v [] = fits.ends asked
targets_as asked same v (t ∷ []) = one_aim asked t
targets_as asked same v (t ∷ u ∷ []) = two_aims asked same v t u
targets_as asked same v (t ∷ u ∷ w ∷ []) = three_aims asked t u w
targets_as asked same v (t ∷ u ∷ w ∷ x ∷ ts) = false

-- whether two targets have the same arguments
abbrev pub same_args : List Target → Bool
same_args (t ∷ u ∷ []) = fits.same_regs t.args u.args
same_args _ = true

bare_is : (f : LowFunc) (t : Target) → fits.is_bare t ≡ bare (aim f t)
bare_is f t = ap (λ k. k == 0) (sym (length-map t.args (reg_type f)))

args_is : (f : LowFunc) (o : Option Block) (args : List Reg) → fits.args_fit o f args ≡ with_params (likes (types f args)) (params_seen f o)
args_is f None args = refl
args_is f (Some b) args = likes_is f args f b.params

takes_code_is : (f : LowFunc) (o : Option Block) → fits.takes_code o f ≡ with_params codes (params_seen f o)
takes_code_is f None = refl
takes_code_is f (Some b) = by b.params
  where
    by : (rs : List Reg) → fits.are_code f rs ≡ codes (types f rs)
    by [] = refl
    by (r ∷ []) = refl
    by (r ∷ q ∷ rs) = refl

takes_held_is : (f : LowFunc) (t : Option Ty) (o : Option Block) → fits.takes_held o f t ≡ with_params (helds t) (params_seen f o)
takes_held_is f t None = refl
takes_held_is f t (Some b) = by b.params
  where
    by : (rs : List Reg) → fits.are_held f t rs ≡ helds t (types f rs)
    by [] = refl
    by (r ∷ []) = refl
    by (r ∷ q ∷ rs) = refl

takes_results_is : (f : LowFunc) (g : Option LowFunc) (o : Option Block) → fits.takes_results o g f ≡ with_params (gives_these (see g)) (params_seen f o)
takes_results_is f g None = refl
takes_results_is f g (Some b) = gives_is g f b.params

module _ (code : LowModule) (f : LowFunc) (i : Instr) where
  target_is : (t : Target) → fits.target_fits f t ≡ aims (aim f t)
  target_is t = args_is f (block_at f t.block) t.args

  bare_fits_is : (t : Target) → fits.bare_fits f t ≡ (bare (aim f t) && aims (aim f t))
  bare_fits_is t = ap (λ b. b && fits.target_fits f t) (bare_is f t) ∙ ap (λ b. bare (aim f t) && b) (target_is t)

  two_is : (asked : Targets) (t u : Target) → fits.two_fit asked code f i t u ≡ two_aims asked (fits.same_regs t.args u.args) (sight code f i) (aim f t) (aim f u)
  two_is to.Either t u =
      ap (λ b. (fits.same_regs t.args u.args && b) && fits.target_fits f u) (target_is t)
      ∙ ap (λ b. (fits.same_regs t.args u.args && aims (aim f t)) && b) (target_is u)
  two_is to.Call t u =
      ap (λ b. ((b && fits.is_bare u) && fits.takes_results (block_at f t.block) (callee code i.attr) f) && fits.takes_code (block_at f u.block) f) (bare_is f t)
      ∙ ap (λ b. ((bare (aim f t) && b) && fits.takes_results (block_at f t.block) (callee code i.attr) f) && fits.takes_code (block_at f u.block) f) (bare_is f u)
      ∙ ap (λ b. ((bare (aim f t) && bare (aim f u)) && b) && fits.takes_code (block_at f u.block) f) (takes_results_is f (callee code i.attr) (block_at f t.block))
      ∙ ap (λ b. ((bare (aim f t) && bare (aim f u)) && with_params (gives_these (see (callee code i.attr))) (params_seen f (block_at f t.block))) && b) (takes_code_is f (block_at f u.block))
  two_is to.Await t u =
      ap (λ b. (b && fits.takes_held (block_at f t.block) f (type_at f i.operands 0)) && fits.bare_fits f u) (bare_is f t)
      ∙ ap (λ b. (bare (aim f t) && b) && fits.bare_fits f u) (takes_held_is f (type_at f i.operands 0) (block_at f t.block) ∙ ap (λ o. with_params (helds o) (params_seen f (block_at f t.block))) (nth_is f i.operands 0))
      ∙ ap (λ b. (bare (aim f t) && with_params (helds (nth (types f i.operands) 0)) (params_seen f (block_at f t.block))) && b) (bare_fits_is u)
  two_is asked t u = refl

  one_is : (asked : Targets) (t : Target) → fits.one_fits asked f t ≡ one_aim asked (aim f t)
  one_is to.One t = target_is t
  one_is asked t = refl

  three_is : (asked : Targets) (t u w : Target) → fits.three_fit asked f t u w ≡ three_aims asked (aim f t) (aim f u) (aim f w)
  three_is to.Suspend t u w =
      ap (λ b. (b && fits.bare_fits f u) && fits.bare_fits f w) (bare_fits_is t)
      ∙ ap (λ b. ((bare (aim f t) && aims (aim f t)) && b) && fits.bare_fits f w) (bare_fits_is u)
      ∙ ap (λ b. ((bare (aim f t) && aims (aim f t)) && (bare (aim f u) && aims (aim f u))) && b) (bare_fits_is w)
  three_is asked t u w = refl

  pub targets_is : (asked : Targets) (ts : List Target) → fits.targets_fit asked code f i ts ≡ targets_as asked (same_args ts) (sight code f i) (map (aim f) ts)
  targets_is asked [] = refl
  targets_is asked (t ∷ []) = one_is asked t
  targets_is asked (t ∷ u ∷ []) = two_is asked t u
  targets_is asked (t ∷ u ∷ w ∷ []) = three_is asked t u w
  targets_is asked (t ∷ u ∷ w ∷ x ∷ ts) = refl

-- the same arguments are asked for alone
pub targets_same : (asked : Targets) (same also : Bool) (v : Sight) (ts : List Aim) → (same ≡ true → also ≡ true) → targets_as asked same v ts ≡ true → targets_as asked also v ts ≡ true
targets_same asked same also v [] so is = is
targets_same asked same also v (t ∷ []) so is = is
targets_same asked same also v (t ∷ u ∷ []) so is = two asked is
  where
    either : (a b c d : Bool) → (a ≡ true → b ≡ true) → ((a && c) && d) ≡ true → ((b && c) && d) ≡ true
    either true true c d so is = is
    either true false c d so is = (let no : false ≡ true = so refl in cc)
    either false b c d so is = cc

    two : (asked : Targets) → two_aims asked same v t u ≡ true → two_aims asked also v t u ≡ true
    two to.Either is = either same also (aims t) (aims u) so is
    two asked is = is
targets_same asked same also v (t ∷ u ∷ w ∷ []) so is = is
targets_same asked same also v (t ∷ u ∷ w ∷ x ∷ ts) so is = is
