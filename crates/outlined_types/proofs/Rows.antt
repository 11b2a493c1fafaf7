-- A launch of a task fits its row.
use Rattle.std.proofs.Common.{◌≡◌, ℕ, true, List, [], ◌∷◌, map, Option, Some, refl, sym, ap, ap₂, ◌∙◌}
use Rattle.ir_forms.specs.declared.ops.Attr.{Attr}
use Rattle.ir_forms.specs.declared.ops.Func.{Func}
use Rattle.ir_forms.specs.declared.ops.Module.{Module}
use Rattle.ir_forms.specs.declared.types.Ty.{Ty}
use Rattle.ir_forms.specs.declared.types.Ty.TheVariants as ty
use Rattle.ir_forms.specs.declared.types.ValTy.TheVariants as val
use Rattle.ir_forms.specs.Ops.{ops_of}
use Rattle.ir_verify.specs.Types.{holds, is_value}
use Rattle.low_forms.specs.declared.code.LowAttr.{LowAttr}
use Rattle.low_forms.specs.declared.code.LowFunc.{LowFunc}
use Rattle.low_forms.specs.declared.code.LowKind.TheVariants.{Launch}
use Rattle.low_forms.specs.declared.code.LowModule.{LowModule}
use Rattle.low_forms.specs.Registers.{callee, every}
use Rattle.low_forms.specs.Rows.{row_of}
use Rattle.low_forms.proofs.Words.{and_left, and_right, and_both}
use Rattle.register_laws.proofs.Lists.{mapped_there}
use Rattle.register_laws.proofs.Views.{Seen, Sight, fills, fits_as, holdings, likes, see, seen, slots_of, types}
use Rattle.scf_blocks.specs.Code.{callee_at, low_attr, regs_from}
use Rattle.scf_blocks.specs.Lowered.{is_task, lowered, lowered_func}
use Rattle.scf_blocks.specs.Tree.{types_in}
use Rattle.typed_rows.specs.Typed.{AreTypes, Names, lone_func, row_fits}
use Rattle.typed_rows.proofs.Envs.{some_types}
use Rattle.typed_rows.proofs.Fits.{params_typed}
use Rattle.typed_rows.proofs.Rows.{likes_same, row_seen}
use Rattle.exec_outline.specs.Shape.{held}
use Rattle.plain_rows.proofs.Same.{width_self, memref_self}
use Rattle.outlined_types.specs.Tasks.{LaunchRowsFit}

holds_held : (t : Ty) → is_value t ≡ true → holds t (held t) ≡ true
holds_held (ty.Value (val.Int w)) is = width_self w
holds_held (ty.Value val.Index) is = refl
holds_held (ty.Value (val.Memref m)) is = memref_self m
holds_held t is = cc

all_held : (ts : List Ty) → every is_value ts ≡ true → holdings (some_types ts) (map held ts) ≡ true
all_held [] is = refl
all_held (t ∷ ts) is =
    and_both (holds t (held t)) (holdings (some_types ts) (map held ts)) (holds_held t (and_left (is_value t) (every is_value ts) is)) (all_held ts (and_right (is_value t) (every is_value ts) is))

module _ (program : Module) (given : List Ty) (a : Attr) (g : Func) (values : List Ty) (names : Names program.funcs a g) where
  abbrev code : LowModule
  code = lowered program

  abbrev low : LowFunc
  low = lowered_func program.funcs g

  abbrev carried : LowAttr
  carried = low_attr program.funcs a

  -- the launched function, as the launch sees it
  called : callee code carried ≡ Some low
  called =
      ap (λ (x : Attr). callee code (low_attr program.funcs x)) names.carries
      ∙ ap (λ (o : Option ℕ). callee code (callee_at o)) names.first
      ∙ mapped_there (lowered_func program.funcs) program.funcs names.place g names.at

  abbrev view : Option Seen → Sight
  view o = record { attr = carried; called = o; given = given; operands = some_types (types_in g.params); results = some_types (ty.Token ∷ values) }

  abbrev params : List Ty
  params = types_in g.params

  row_is : row_fits code given Launch carried params (ty.Token ∷ values) ≡ fits_as (row_of Launch) (view (Some (seen low)))
  row_is = row_seen code (lone_func given [] []) Launch carried params (ty.Token ∷ values) ∙ ap (λ (o : Option LowFunc). fits_as (row_of Launch) (view (see o))) called

  taken : (os : List (Option Ty)) → os ≡ some_types params → likes os (types low (regs_from 0 g.params)) ≡ likes (some_types params) (some_types params)
  taken os is = ap₂ likes is (params_typed program.funcs g)

  fill_all : (os : List (Option Ty)) → fills (slots_of (row_of Launch)) (row_of Launch).rest (view (Some (seen low))) os ≡ likes os (types low (regs_from 0 g.params))
  fill_all [] = refl
  fill_all (o ∷ os) = refl

  launch_row_fits : is_task (ops_of g.body) ≡ true → AreTypes params → every is_value values ≡ true → map held values ≡ g.results → row_fits code given Launch carried params (ty.Token ∷ values) ≡ true
  launch_row_fits task are held_all gives =
      let os : List (Option Ty) = some_types params in
      row_is
      ∙ and_both _ _
      (and_both (is_task (ops_of g.body)) _ task (fill_all os ∙ taken os refl ∙ likes_same params are))
      (ap (λ (ts : List Ty). holdings (some_types values) ts) (sym gives) ∙ all_held values held_all)

pub launch_rows_fit : LaunchRowsFit
launch_rows_fit program given a g values names task are held_all gives = launch_row_fits program given a g values names task are held_all gives
