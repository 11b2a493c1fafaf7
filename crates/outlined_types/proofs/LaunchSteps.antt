-- A launch of a task is typed.
use Rattle.std.proofs.Common.{◌≡◌, ℕ, zero, suc, true, List, [], ◌∷◌, ◌++◌, map, drop, refl, sym, ap, ◌∙◌, subst}
use Rattle.ir_forms.specs.declared.ops.Attr.TheVariants.{Callee}
use Rattle.ir_forms.specs.declared.ops.Op.{Op, Op-F, out-Op, out-roll-Op}
use Rattle.ir_forms.specs.declared.ops.Region.{Region}
use Rattle.ir_forms.specs.declared.ops.ValueNo.{ValueNo}
use Rattle.ir_forms.specs.declared.types.Ty.{Ty}
use Rattle.ir_forms.specs.declared.types.Ty.TheVariants as ty
use Rattle.ir_forms.specs.Ops.{operands_of, results_of, written_of}
use Rattle.ir_verify.specs.Places.{types_of}
use Rattle.ir_verify.specs.Rules.{groups_of}
use Rattle.low_forms.specs.declared.code.LowKind.TheVariants.{Launch}
use Rattle.low_forms.specs.Registers.{every}
use Rattle.low_forms.proofs.Words.{and_left, and_right, and_both}
use Rattle.scf_blocks.specs.declared.role.Role.TheVariants as role
use Rattle.scf_blocks.specs.Code.{low_attr}
use Rattle.scf_blocks.specs.Lowered.{lowered}
use Rattle.scf_blocks.specs.Tree.{Ops, Parts, nested_of, op_before, parts_of, role_of, tree_before, typed, types_in}
use Rattle.scf_blocks.proofs.Trees.{before_is}
use Rattle.typed_rows.specs.Typed.{AreTypes, Env, HasTypes, TypedOps, is_type, row_fits}
use Rattle.exec_outline.specs.Shape.{as_values, dependency_count, held, launch, tokens, typed_in}
use Rattle.plain_rows.proofs.Facts.{counts}
use Rattle.outlined_types.specs.Forms.{LaunchFits}
use Rattle.outlined_types.specs.Operations.{LaunchesTyped}
use Rattle.outlined_types.proofs.Launches.{launches_fit}
use Rattle.outlined_types.proofs.Operations.{shown, types_typed}
use Rattle.outlined_types.proofs.Rows.{launch_rows_fit}

have_both : (env : Env) (vs ws : List ValueNo) (ts us : List Ty) → HasTypes env vs ts → HasTypes env ws us → HasTypes env (vs ++ ws) (ts ++ us)
have_both env [] ws [] us h g = g
have_both env [] ws (t ∷ ts) us h g = absurd h
have_both env (v ∷ vs) ws [] us h g = absurd h
have_both env (v ∷ vs) ws (t ∷ ts) us h g = (h.0, have_both env vs ws ts us h.1 g)

types_both : (ts us : List Ty) → AreTypes ts → AreTypes us → AreTypes (ts ++ us)
types_both [] us h g = g
types_both (t ∷ ts) us h g = and_both (is_type t) (every is_type (ts ++ us)) (and_left (is_type t) (every is_type ts) h) (types_both ts us (and_right (is_type t) (every is_type ts) h) g)

tokens_types : (n : ℕ) → AreTypes (tokens n)
tokens_types zero = refl
tokens_types (suc n) = tokens_types n

pub launches_typed : LaunchesTyped
launches_typed program given s values name captured env rest ts fine has is l =
    let o : Op = s.place.op in
    let f : LaunchFits s = launches_fit s fine has is in
    let first : List Ty = tokens (dependency_count (groups_of o)) ++ written_of o in
    let last : List Ty = types_in (typed_in values captured) in
    let results : types_in (typed (results_of o) (types_of o)) ≡ types_of o = types_typed (results_of o) (types_of o) (counts s fine).results in
    let passed : HasTypes env (operands_of o ++ as_values captured) (first ++ last) = have_both env (operands_of o) (as_values captured) first last (shown s.seen env (operands_of o) first l.shown f.has) l.captures in
    let all : AreTypes (first ++ last) = types_both first last (types_both (tokens (dependency_count (groups_of o))) (written_of o) (tokens_types (dependency_count (groups_of o))) f.are_taken) l.are_types in
    let gives : map held f.values ≡ l.func.results = ap (λ (us : List Ty). map held (drop 1 us)) (sym f.types) ∙ sym l.results in
    let row : row_fits (lowered program) given Launch (low_attr program.funcs (Callee name)) (types_in l.func.params) (ty.Token ∷ f.values) ≡ true =
    launch_rows_fit program given (Callee name) l.func f.values l.names l.task (subst AreTypes (sym l.params) all) f.gives_values gives in
    let fits : row_fits (lowered program) given Launch (low_attr program.funcs (Callee name)) (first ++ last) (types_in (typed (results_of o) (types_of o))) ≡ true =
    subst (λ (us : List Ty). row_fits (lowered program) given Launch (low_attr program.funcs (Callee name)) (first ++ last) us ≡ true) (sym (results ∙ f.types))
    (subst (λ (us : List Ty). row_fits (lowered program) given Launch (low_attr program.funcs (Callee name)) us (ty.Token ∷ f.values) ≡ true) l.params row) in
    let parts : Parts = record { at = (out-Op o).at; operands = operands_of o ++ as_values captured; results = typed (results_of o) (types_of o); attr = Callee name } in
    let same : tree_before (launch (out-Op o) name captured) rest ≡ op_before (role.Plain Launch) parts [] rest =
    before_is (launch (out-Op o) name captured) rest ∙ ap (λ (x : Op-F Op Region). op_before (role_of x.kind) (parts_of x) (map nested_of x.regions) rest) (out-roll-Op _)
    ∙ ap (λ r. op_before r parts [] rest) is in
    subst (λ (x : Ops). TypedOps program given x env ts) (sym same) ((first ++ last, passed, fits), l.behind)
