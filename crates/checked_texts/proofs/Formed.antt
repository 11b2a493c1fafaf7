-- The forms of operations, without the numbers of their values.
use Rattle.std.proofs.Common.{◌≡◌, ◌≤◌, ◌<◌, ◌⊎◌, inl, inr, ℕ, zero, suc, ◌+◌, ◌^◌, List, [], ◌∷◌, ◌++◌, map, length, IsTrue, refl, sym, ap, ◌∙◌, subst, arith}
use Rattle.std.specs.Prelude.{nat_le}
use Rattle.std.proofs.lemmas.Bool.Decides.{nat_tests}
use Rattle.op_table.specs.declared.kind.OpKind.{OpKind}
use Rattle.op_table.specs.declared.rows.Level.{Level}
use Rattle.op_table.specs.declared.form.Form.{Form}
use Rattle.op_table.specs.declared.form.Form.TheVariants as shape
use Rattle.op_table.specs.Rows.{row_of, place_of, stands_at}
use Rattle.ir_forms.specs.declared.ops.Attr.{Attr}
use Rattle.ir_forms.specs.declared.ops.Op.{Op, out-Op}
use Rattle.ir_forms.specs.declared.ops.Region.{Region}
use Rattle.ir_forms.specs.declared.types.Ty.{Ty}
use Rattle.ir_forms.specs.Ops.{kind_of, operands_of, written_of, results_of, attr_of, regions_of, ops_of}
use Rattle.ir_verify.specs.Rules.{groups_of}
use Rattle.mlir_print.specs.Printable.{Has, HasForm, HasParts, IsEnded, Part, Ops, Regions, Prints, no_ops, operation, no_regions, region, Scope, types_of, param_types, ends_with}

-- a part whose operations have what their forms write
pub data Formed (level : Level) : Part → Type 0 where
  formed_none : Formed level (Ops [])
  formed : (o : Op) (os : List Op) → IsTrue (stands_at (kind_of o) level) → HasForm (kind_of o) o → (out-Op o).at < 2 ^ 32
      → Formed level (Regions o 0 (regions_of o)) → Formed level (Ops os) → Formed level (Ops (o ∷ os))
  formed_no_regions : (o : Op) (i : ℕ) → Formed level (Regions o i [])
  formed_region : (o : Op) (i : ℕ) (r : Region) (rs : List Region) → IsEnded (kind_of o) i (types_of o) (ops_of r)
      → Formed level (Ops (ops_of r)) → Formed level (Regions o (i + 1) rs) → Formed level (Regions o i (r ∷ rs))

later_stands : (k : OpKind) (l m : Level) → place_of l ≤ place_of m → IsTrue (stands_at k l) → IsTrue (stands_at k m)
later_stands k l m le h = grind (arith, nat_tests)

-- what prints is formed, at each later level
pub prints_formed : {level : Level} {part : Part} {s end : Scope} (later : Level) → place_of level ≤ place_of later → Prints level part s end → Formed later part
prints_formed later le (no_ops s) = formed_none
prints_formed {level} later le (operation o os s inner end stands form at numbers seen regions rest) =
    formed o os (later_stands (kind_of o) level later le stands) form at (prints_formed later le regions) (prints_formed later le rest)
prints_formed later le (no_regions o i s) = formed_no_regions o i
prints_formed later le (region o i r rs s inner end numbers ended ops rest) = formed_region o i r rs ended (prints_formed later le ops) (prints_formed later le rest)

-- one list behind another
pub formed_both : (level : Level) (os ps : List Op) → Formed level (Ops os) → Formed level (Ops ps) → Formed level (Ops (os ++ ps))
formed_both level [] ps f g = g
formed_both level (o ∷ os) ps f g = step f (formed_both level os ps)
  where
    step : Formed level (Ops (o ∷ os)) → (Formed level (Ops os) → Formed level (Ops ps) → Formed level (Ops (os ++ ps))) → Formed level (Ops (o ∷ os ++ ps))
    step (formed o os stands form at regions rest) again = formed o (os ++ ps) stands form at regions (again rest g)

-- ---- what the forms read

-- the second operation has what the first one has, but for the numbers of values
pub record LikeText (o p : Op) : Type 0 where
  pub kind : kind_of p ≡ kind_of o
  pub count : length (operands_of p) ≡ length (operands_of o)
  pub attr : attr_of p ≡ attr_of o
  pub groups : groups_of p ≡ groups_of o
  pub written : written_of p ≡ written_of o
  pub types : types_of p ≡ types_of o
  pub params : map param_types (regions_of p) ≡ map param_types (regions_of o)

module _ (o p : Op) (l : LikeText o p) where
  has : {n : ℕ} {a : Attr} {gs : List ℕ} {ws ts : List Ty} {ps : List (List Ty)} → Has o n a gs ws ts ps → Has p n a gs ws ts ps
  has h = record {
    operand_count = l.count ∙ h.operand_count;
    attr_is = l.attr ∙ h.attr_is;
    groups_are = l.groups ∙ h.groups_are;
    written_are = l.written ∙ h.written_are;
    types_are = l.types ∙ h.types_are;
    params_are = l.params ∙ h.params_are;
  }

  -- the same where the number of operands is the operation's own
  has_own : {a : Attr} {gs : List ℕ} {ws ts : List Ty} {ps : List (List Ty)} → Has o (length (operands_of o)) a gs ws ts ps → Has p (length (operands_of p)) a gs ws ts ps
  has_own h = record {
    operand_count = refl;
    attr_is = l.attr ∙ h.attr_is;
    groups_are = l.groups ∙ h.groups_are;
    written_are = l.written ∙ h.written_are;
    types_are = l.types ∙ h.types_are;
    params_are = l.params ∙ h.params_are;
  }

  parts_like : (f : Form) → HasParts f o → HasParts f p
  parts_like shape.Binary h = (h.0, h.1, has h.2)
  parts_like shape.Compare h = (h.0, h.1, h.2, has h.3)
  parts_like shape.Select h = (h.0, h.1, has h.2)
  parts_like shape.Extend h = (h.0, h.1, h.2, h.3, has h.4)
  parts_like shape.Truncate h = (h.0, h.1, h.2, h.3, has h.4)
  parts_like shape.IndexCast h = (h.0, h.1, h.2, h.3, has h.4)
  parts_like shape.Constant (inl h) = inl (h.0, has h.1)
  parts_like shape.Constant (inr (inl h)) = inr (inl (h.0, h.1, h.2, h.3, has h.4))
  parts_like shape.Constant (inr (inr h)) = inr (inr (h.0, h.1, h.2, h.3, has h.4))
  parts_like shape.Assert h = (h.0, h.1, has h.2)
  parts_like shape.Call h = (h.0, h.1, h.2, h.3, h.4, h.5, h.6, has_own h.7)
  parts_like shape.TryCall h = (h.0, h.1, h.2, h.3, h.4, h.5, h.6, has_own h.7)
  parts_like shape.Return h = (h.0, h.1, h.2, h.3, has h.4)
  parts_like shape.For h = (h.0, h.1, h.2, h.3, has h.4)
  parts_like shape.If h = (h.0, h.1, has h.2)
  parts_like shape.While h = (
    h.0,
    h.1,
    h.2,
    h.3,
    h.4,
    h.5,
    subst (λ n. Has p (length (operands_of p)) Rattle.ir_forms.specs.declared.ops.Attr.TheVariants.None [] h.0 h.1 (Rattle.mlir_print.specs.Printable.typed_by n h.0 ∷ h.2 ∷ [])) (sym l.count) (has_own h.6),
  )
  parts_like shape.Condition h = (h.0, h.1, h.2, h.3, has h.4)
  parts_like shape.Parallel h = (h.0, h.1, h.2, h.3, h.4, h.5, h.6, has h.7)
  parts_like shape.Reduce h = has h
  parts_like shape.Yield h = (h.0, h.1, h.2, h.3, has h.4)
  parts_like shape.Alloc h = (h.0, h.1, has_own h.2)
  parts_like shape.Dealloc h = (h.0, h.1, has h.2)
  parts_like shape.Load h = (h.0, h.1, h.2, has h.3)
  parts_like shape.Store h = (h.0, h.1, h.2, has h.3)
  parts_like shape.Dim h = (h.0, h.1, has h.2)
  parts_like shape.Execute h = (h.0, h.1, h.2, h.3, h.4, h.5, h.6, has h.7)
  parts_like shape.TaskYield h = (h.0, h.1, h.2, h.3, has h.4)
  parts_like shape.Await h = (h.0, h.1, has h.2)
  parts_like shape.AwaitAll h = has h
  parts_like shape.CreateGroup h = has h
  parts_like shape.AddToGroup h = (h.0, h.1, has h.2)
  parts_like shape.Other h = h

  pub form_like : HasForm (kind_of o) o → HasForm (kind_of p) p
  form_like h = subst (λ k. HasForm k p) (sym l.kind) (parts_like (row_of (kind_of o)).form h)

  pub stands_like : (level : Level) → IsTrue (stands_at (kind_of o) level) → IsTrue (stands_at (kind_of p) level)
  stands_like level h = subst (λ k. IsTrue (stands_at k level)) (sym l.kind) h
