-- What the pass makes of a sound module has the runs of the module, for all arguments that fit.
use Rattle.std.proofs.Common.{◌≡◌, List, [], ◌∷◌, length, Some, slice_get, refl, sym, subst, ◌∙◌}
use Rattle.op_table.specs.declared.kind.OpKind.{OpKind}
use Rattle.op_table.specs.declared.kind.OpKind.TheVariants as op
use Rattle.ir_forms.specs.declared.ops.Op.{Op, out-Op}
use Rattle.ir_forms.specs.declared.types.Ty.{Ty}
use Rattle.ir_forms.specs.declared.types.Ty.TheVariants as ty
use Rattle.ir_verify.specs.Forms.{form_of}
use Rattle.check_insert.specs.Shape.{guard_of, rank}
use Rattle.source_meaning.specs.declared.values.Val.{Val}
use Rattle.source_meaning.specs.Parts.{Node, dims_of}
use Rattle.source_meaning.specs.Steps.{operands}
use Rattle.source_meaning.specs.Tasks.{Pending, Awaits, Joining, Failing}
use Rattle.typed_laws.specs.Typed.{AreGood, BufferFits}
use Rattle.typed_laws.proofs.Typings.{buffers_fit}
use Rattle.check_laws.specs.Fits.{HasRank, RankAt}
use Rattle.check_laws.specs.Laws.{TypesMakeRanks, PassKeepsRuns}
use Rattle.check_laws.proofs.Defined.{funcs_good}
use Rattle.check_laws.proofs.Pass.{pass_changes_no_run}

rank_is : (ts : List Ty) → length (dims_of (slice_get ts 0)) ≡ rank ts
rank_is [] = refl
rank_is (ty.Memref m ∷ ts) = refl
rank_is (t ∷ ts) = refl

rank_by : (kind : OpKind) (o : Node) (vs : List Val) → BufferFits (form_of kind) o.written vs → HasRank (guard_of kind) o vs
rank_by op.MemrefLoad o vs h = h ∙ rank_is o.written
rank_by op.MemrefStore o vs h = h ∙ rank_is o.written
rank_by op.MemrefDim o vs h = h ∙ rank_is o.written
rank_by kind o vs h = tt

pub types_make_ranks : TypesMakeRanks
types_make_ranks program p entry args h ip a t is = go t.pending t.rest refl refl where
  good : AreGood p.funcs
  good = subst AreGood (sym ip.funcs) (funcs_good program.funcs h)

  found : slice_get p.funcs entry ≡ Some a.func
  found = subst (λ fs. slice_get fs entry ≡ Some a.func) (sym ip.funcs) a.found

  go : (ps : List Pending) (ops : List Op) → t.pending ≡ ps → t.rest ≡ ops → RankAt ps ops t.scope.env
  go [] [] e g = tt
  go [] (o ∷ ops) e g = rank_by (out-Op o).kind (out-Op o) (operands t (out-Op o)) (buffers_fit p entry a.func args good found a.fit t o ops is e g)
  go (Awaits n x xs ∷ ps) ops e g = tt
  go (Joining n l ∷ ps) ops e g = tt
  go (Failing n ∷ ps) ops e g = tt

pub pass_keeps_runs : PassKeepsRuns
pass_keeps_runs program p q entry args h ip iq a = pass_changes_no_run program p q entry args h.sound h.types ip iq a.range (types_make_ranks program p entry args h ip a)
