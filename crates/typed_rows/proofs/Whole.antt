-- Functions and modules whose types fit.
use Rattle.std.proofs.Common.{◌≡◌, ◌<◌, ◌≤◌, ℕ, zero, suc, ◌+◌, true, false, List, [], ◌∷◌, ◌++◌, map, length, Option, Some, None, refl, sym, ap, ◌∙◌, subst, arith}
use Rattle.std.specs.Prelude.{slice_get}
use Rattle.ir_forms.specs.declared.ops.Func.{Func}
use Rattle.ir_forms.specs.declared.ops.Module.{Module}
use Rattle.ir_forms.specs.declared.types.Ty.{Ty}
use Rattle.ir_forms.specs.declared.types.Ty.TheVariants.{Index}
use Rattle.low_forms.specs.declared.code.Block.{Block}
use Rattle.low_forms.specs.declared.code.LowFunc.{LowFunc}
use Rattle.low_forms.specs.Registers.{every}
use Rattle.low_forms.specs.Fits.{block_fits}
use Rattle.scf_blocks.specs.declared.body.Failure.{Failure}
use Rattle.scf_blocks.specs.declared.body.Close.TheVariants.{Returns}
use Rattle.scf_blocks.specs.Tree.{Var, types_in, typed, Ops, gives, decides, plain, asserts, branches, counts, cycles, calls, tries, awaits}
use Rattle.scf_blocks.specs.Code.{Scope, Code, code_of, block_of, blocks_of, types_of, regs_of, fails_of, failure_blocks, with_vars, code_types}
use Rattle.scf_blocks.specs.Lowered.{lowered_func, lowered, func_tree}
use Rattle.scf_blocks.proofs.Counts.{count_code, length_types}
use Rattle.block_laws.specs.Closed.{Closed, IsClosed, with_named}
use Rattle.block_laws.proofs.Words.{every_append}
use Rattle.block_laws.proofs.Whole.{Made, made_of, well_formed_if_fits}
use Rattle.typed_rows.specs.Typed.{Env, with_typed, TypedOps, IsTyped, AreTyped}
use Rattle.typed_rows.specs.Laws.{TypedIsClosed, TypedRowsFit, TypedWellFormed}
use Rattle.typed_rows.proofs.Places.{Stand, stand_front, stand_back, stand_all}
use Rattle.typed_rows.proofs.Envs.{names_in, names_typed, names_given, types_seen, one_seen, agrees_vars}
use Rattle.typed_rows.proofs.Fits.{Fine, Room, FailsAt, fails_at, block_fine, code_fine, codes_small, failures_fine}

-- ---- what is visible

module _ (program : Module) (given : List Ty) where
  behind : (rest : Ops) (rs : List Var) (env : Env) → Closed rest (names_in (with_typed rs env)) → Closed rest (with_named rs (names_in env))
  behind rest rs env is = subst (λ names. Closed rest names) (names_typed rs env) is

  closed : (ops : Ops) (env : Env) (ts : List Ty) → TypedOps program given ops env ts → Closed ops (names_in env)
  closed (gives vs) env ts is = types_seen env vs ts is
  closed (decides c vs) env ts is = (one_seen env c _ is.0, types_seen env vs ts is.1)
  closed (plain kind x args rs rest) env ts is = (types_seen env args is.0.0 is.0.1, behind rest rs env (closed rest (with_typed rs env) ts is.1))
  closed (asserts at c rest) env ts is = (one_seen env c _ is.0, closed rest env ts is.2)
  closed (branches c on off rs rest) env ts is = (one_seen env c _ is.0, closed on env (types_in rs) is.2, closed off env (types_in rs) is.3, behind rest rs env (closed rest (with_typed rs env) ts is.4))
  closed (counts lower upper step inits params body rs rest) env ts is =
      let us = is.1.0 in
      let few = is.1.4 in
      let size : length params ≡ suc (length us) = sym (length_types params) ∙ ap length is.1.1 in (
        one_seen env lower Index is.0.0,
        one_seen env upper Index is.0.1,
        one_seen env step Index is.0.2,
        types_seen env inits us is.1.3,
        (let lt : length rs < length params = omega (arith, size, few) in lt),
        behind body params env (closed body (with_typed params env) us is.1.5),
        subst (λ names. Closed rest names) (names_given rs us env) (closed rest (with_typed (typed rs us) env) ts is.1.6),
      )
  closed (cycles inits params before passed after rs rest) env ts is = (
    types_seen env inits (types_in params) is.0.0,
    behind before params env (closed before (with_typed params env) (types_in passed) is.1),
    behind after passed env (closed after (with_typed passed env) (types_in params) is.2),
    behind rest rs env (closed rest (with_typed rs env) ts is.3),
  )
  closed (calls x args rs rest) env ts is = (types_seen env args is.0.0 is.0.1, behind rest rs env (closed rest (with_typed rs env) ts is.1))
  closed (tries x args rs rest) env ts is = (types_seen env args is.0.0 is.0.1, behind rest rs env (closed rest (with_typed rs env) ts is.2))
  closed (awaits at o rs rest) env ts is = (one_seen env o is.0.0 is.0.1, behind rest rs env (closed rest (with_typed rs env) ts is.2))

pub typed_is_closed : TypedIsClosed
typed_is_closed program f is = subst (λ names. Closed (func_tree f) names) (names_typed f.params []) (closed program f.results (func_tree f) (with_typed f.params []) f.results is.ops)

-- ---- a function

module _ (program : Module) (f : Func) (is : IsTyped program f) where
  abbrev low : LowFunc
  low = lowered_func program.funcs f

  abbrev ops : Ops
  ops = func_tree f

  abbrev n : ℕ
  n = length f.params

  abbrev fs : List Failure
  fs = fails_of ops

  abbrev scope : Scope
  scope = with_vars f.params 0 []

  abbrev c : Code
  c = code_of program.funcs ops 0 n (blocks_of ops + 1) scope Returns

  abbrev failing : List Block
  failing = failure_blocks (n + regs_of ops) fs

  params_stand : Stand low.regs 0 (types_in f.params)
  params_stand = stand_front low.regs 0 (types_in f.params) (types_of ops ++ code_types fs) (stand_all [] low.regs)

  own_regs : Stand low.regs n (types_of ops ++ code_types fs)
  own_regs = subst (λ k. Stand low.regs k (types_of ops ++ code_types fs)) (length_types f.params) (stand_all (types_in f.params) (types_of ops ++ code_types fs))

  fail_regs : Stand low.regs (n + regs_of ops) (code_types fs)
  fail_regs = stand_back low.regs n (types_of ops) (code_types fs) own_regs

  own_blocks : Stand low.blocks 1 (c.blocks ++ failing)
  own_blocks = stand_all (record { params = []; instrs = c.instrs; term = c.term } ∷ []) (c.blocks ++ failing)

  fail_blocks : Stand low.blocks (blocks_of ops + 1) failing
  fail_blocks =
      let count : length c.blocks ≡ blocks_of ops = count_code program.funcs ops 0 n (blocks_of ops + 1) scope Returns in
      subst (λ k. Stand low.blocks k failing) (let e : 1 + length c.blocks ≡ blocks_of ops + 1 = omega (arith, count) in e) (stand_back low.blocks 1 c.blocks failing own_blocks)

  room : Room program low ops 0 n (blocks_of ops + 1) (n + regs_of ops) scope Returns
  room = record {
    regs = stand_front low.regs n (types_of ops) (code_types fs) own_regs;
    last = refl;
    blocks = stand_front low.blocks 1 c.blocks failing own_blocks;
    fails = fails_at program low (blocks_of ops + 1) (n + regs_of ops) fs fail_blocks fail_regs;
  }

  fine : Fine program low c
  fine = code_fine program low ops 0 n (blocks_of ops + 1) (n + regs_of ops) scope (with_typed f.params []) Returns f.results room
      (agrees_vars low f.params 0 [] [] params_stand tt) (refl, is.results) is.ops

  func_fits : every (block_fits (lowered program) low) low.blocks ≡ true
  func_fits = every_append (block_fits (lowered program) low) (block_of [] c) failing (block_fine program low [] c fine)
      (failures_fine program low (n + regs_of ops) fs (codes_small program low ops (with_typed f.params []) f.results is.ops) fail_regs)

-- ---- a module

pub typed_rows_fit : TypedRowsFit
typed_rows_fit program typed k low at =
    let m : Made (lowered_func program.funcs) program.funcs k low = made_of (lowered_func program.funcs) program.funcs k low at in
    subst (λ (l : LowFunc). every (block_fits (lowered program) l) l.blocks ≡ true) m.same (func_fits program m.func (typed k m.func m.at))

pub typed_well_formed : TypedWellFormed
typed_well_formed program typed = well_formed_if_fits program (λ k f at. typed_is_closed program f (typed k f at)) (typed_rows_fit program typed)
