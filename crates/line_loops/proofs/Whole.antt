-- All laws.
use Rattle.std.proofs.Common.{◌≡◌, ℕ, Bool, true, false, List, [], ◌∷◌, map, Option, Some, None, refl, ◌∙◌}
use Rattle.op_table.specs.declared.kind.OpKind.{OpKind}
use Rattle.op_table.specs.declared.kind.OpKind.TheVariants as op
use Rattle.ir_forms.specs.declared.ops.Func.{Func}
use Rattle.ir_forms.specs.declared.ops.Module.{Module}
use Rattle.ir_forms.specs.declared.ops.Op.{Op, Op-F, roll-Op}
use Rattle.ir_forms.specs.declared.ops.Op.TheFolds.{fold-roll-Region}
use Rattle.ir_forms.specs.declared.ops.Region.{Region, Region-F, roll-Region}
use Rattle.ir_verify.specs.Levels.{kinds_at, kinds_in, kinds_along, kinds_held, kinds_of}
use Rattle.loop_blocks.specs.declared.options.Options.{Options}
use Rattle.parallel_for.specs.Shape.{is_parallel}
use Rattle.check_insert.specs.Laws.{CheckedIsSound}
use Rattle.exec_outline.specs.Shape.{outlined}
use Rattle.pass_line.specs.Line.{IsLowered, prepared}
use Rattle.low_forms.specs.declared.code.LowModule.{LowModule}
use Rattle.line_laws.specs.Parallels.{first_of, op_parallel, region_parallel, parallel_in, parallel_inside, parallel_under}
use Rattle.line_laws.proofs.Bare.{first_next, rolled}
use Rattle.split_kinds.specs.Laws.{NoLoopIsLeft}
use Rattle.split_kinds.proofs.Passing.{Each, tree, Pass, pass_front, pass_rest, op_passed, region_passed}
use Rattle.split_kinds.proofs.Fits.{no_loop}
use Rattle.split_kinds.proofs.Whole.{no_loops, passing}
use Rattle.line_loops.specs.Laws as laws
use Rattle.line_loops.proofs.Tasks.{outlined_passes}

pub tasks_bring_none : laws.TasksBringNone
tasks_bring_none program none = no_loops (kinds_of (outlined program).funcs) (outlined_passes no_loop refl program (passing (kinds_of program.funcs) none))

pub lowered_has_no_loop : CheckedIsSound → NoLoopIsLeft → laws.LoweredHasNoLoop
lowered_has_no_loop checked_is_sound no_loop_is_left options program code sound is = record {
  halved = is.halved;
  is = is.is;
  none = tasks_bring_none is.halved (no_loop_is_left options (prepared program) is.halved (checked_is_sound program sound) is.split);
}

-- ---- none is found

abbrev OpNone : Op → Type 0
OpNone o = Pass no_loop (kinds_at o) → parallel_in o ≡ None

abbrev RegionNone : Region → Type 0
RegionNone r = Pass no_loop (kinds_in r) → parallel_inside r ≡ None

regions_none : (rs : List Region) → Each RegionNone rs → Pass no_loop (kinds_held rs) → first_of (map parallel_inside rs) ≡ None
regions_none [] h p = refl
regions_none (r ∷ rs) h p = first_next (parallel_inside r) (map parallel_inside rs) (h.0 (pass_front no_loop (kinds_in r) (kinds_held rs) p)) (regions_none rs h.1 (pass_rest no_loop (kinds_in r) (kinds_held rs) p))

ops_none : (os : List Op) → Each OpNone os → Pass no_loop (kinds_along os) → first_of (map parallel_in os) ≡ None
ops_none [] h p = refl
ops_none (o ∷ os) h p = first_next (parallel_in o) (map parallel_in os) (h.0 (pass_front no_loop (kinds_at o) (kinds_along os) p)) (ops_none os h.1 (pass_rest no_loop (kinds_at o) (kinds_along os) p))

not_parallel : (k : OpKind) → no_loop k ≡ true → is_parallel k ≡ false
not_parallel op.ScfParallel e = cc
not_parallel _ e = refl

op_none : (x : Op-F Op Region) → Each RegionNone x.regions → OpNone (roll-Op x)
op_none x h p =
    let was : (no_loop x.kind ≡ true) × Pass no_loop (kinds_held x.regions) = op_passed no_loop x p in
    rolled x (not_parallel x.kind was.0) (regions_none x.regions h was.1)

region_none : (x : Region-F Op Region) → Each OpNone x.ops → RegionNone (roll-Region x)
region_none x h p = fold-roll-Region (Option ℕ) (Option ℕ) op_parallel region_parallel x ∙ ops_none x.ops h (region_passed no_loop x p)

funcs_none : (funcs : List Func) → Pass no_loop (kinds_of funcs) → first_of (map parallel_under funcs) ≡ None
funcs_none [] p = refl
funcs_none (f ∷ funcs) p =
    first_next (parallel_under f) (map parallel_under funcs) (tree OpNone RegionNone op_none region_none f.body (pass_front no_loop (kinds_in f.body) (kinds_of funcs) p))
    (funcs_none funcs (pass_rest no_loop (kinds_in f.body) (kinds_of funcs) p))

pub none_is_found : laws.NoneIsFound
none_is_found program none = funcs_none program.funcs (passing (kinds_of program.funcs) none)
