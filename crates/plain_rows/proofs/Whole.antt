-- By the role of an operation.
use Rattle.std.proofs.Common.{◌≡◌, List, [], refl, subst}
use Rattle.op_table.specs.declared.form.Form.{Form}
use Rattle.op_table.specs.declared.form.Form.TheVariants as form_is
use Rattle.op_table.specs.declared.kind.OpKind.{OpKind}
use Rattle.op_table.specs.declared.kind.OpKind.TheVariants as op
use Rattle.ir_forms.specs.declared.ops.Module.{Module}
use Rattle.ir_forms.specs.declared.types.Ty.{Ty}
use Rattle.ir_forms.specs.Ops.{kind_of}
use Rattle.ir_verify.specs.Forms.{form_of}
use Rattle.ir_verify.specs.Places.{Spot}
use Rattle.low_forms.specs.declared.code.LowKind.TheVariants.{Row}
use Rattle.scf_blocks.specs.declared.role.Role.TheVariants as role
use Rattle.scf_blocks.specs.Tree.{role_by}
use Rattle.scf_blocks.specs.Lowered.{lowered}
use Rattle.typed_rows.specs.Typed.{lone_func}
use Rattle.plain_rows.specs.Laws.{IsFine, PlainRowsFit}
use Rattle.plain_rows.proofs.PlainRows.{Fitting, PlainBy, plain_by}

module _ (program : Module) (given : List Ty) (s : Spot) (fine : IsFine s) where
  abbrev Fits : OpKind → Type 0
  Fits k = Fitting (lowered program) (lone_func given [] []) program.funcs s fine (Row k)

  abbrev By : Form → OpKind → Type 0
  By g kind = PlainBy (lowered program) (lone_func given [] []) program.funcs s fine g kind

  -- the row that an operation of this form becomes
  by_role : (g : Form) (kind k : OpKind) → role_by g kind ≡ role.Plain (Row k) → By g kind → Fits k
  by_role form_is.Binary kind k e h = subst Fits (let same : kind ≡ k = cc in same) h
  by_role form_is.Compare kind k e h = subst Fits (let same : kind ≡ k = cc in same) h
  by_role form_is.Select kind k e h = subst Fits (let same : kind ≡ k = cc in same) h
  by_role form_is.Extend kind k e h = subst Fits (let same : kind ≡ k = cc in same) h
  by_role form_is.Truncate kind k e h = subst Fits (let same : kind ≡ k = cc in same) h
  by_role form_is.IndexCast kind k e h = subst Fits (let same : kind ≡ k = cc in same) h
  by_role form_is.Constant kind k e h = subst Fits (let same : kind ≡ k = cc in same) h
  by_role form_is.Alloc kind k e h = subst Fits (let same : kind ≡ k = cc in same) h
  by_role form_is.Dealloc kind k e h = subst Fits (let same : kind ≡ k = cc in same) h
  by_role form_is.Load kind k e h = subst Fits (let same : kind ≡ k = cc in same) h
  by_role form_is.Store kind k e h = subst Fits (let same : kind ≡ k = cc in same) h
  by_role form_is.Dim kind k e h = subst Fits (let same : kind ≡ k = cc in same) h
  by_role form_is.CreateGroup kind k e h = subst Fits (let same : op.AsyncRuntimeCreateGroup ≡ k = cc in same) h
  by_role form_is.AddToGroup kind k e h = subst Fits (let same : op.AsyncRuntimeAddToGroup ≡ k = cc in same) h
  by_role _ kind k e h = cc

pub plain_rows_fit : PlainRowsFit
plain_rows_fit program given s k fine parts is =
    let kind : OpKind = kind_of s.place.op in
    let h : Fits program given s fine k = by_role program given s fine (form_of kind) kind k is (plain_by (lowered program) (lone_func given [] []) program.funcs s fine (form_of kind) kind refl refl parts) in
    record { types = h.types; has = h.has; fits = h.row }
