-- The ends of regions that break no rule.
use Rattle.std.proofs.Common.{◌≡◌, ℕ, zero, suc, ◌+◌, ◌-◌, ◌||◌, not, if◌then◌else◌, Bool, true, false, List, [], ◌∷◌, length, map, drop, Option, Some, None, refl, sym, ap, ◌∙◌, subst, arith}
use Rattle.std.specs.Prelude.{slice_get}
use Rattle.op_table.specs.declared.form.Form.{Form}
use Rattle.op_table.specs.declared.form.Form.TheVariants as form_is
use Rattle.op_table.specs.declared.kind.OpKind.{OpKind}
use Rattle.op_table.specs.declared.kind.OpKind.TheVariants as op
use Rattle.op_table.specs.declared.rows.Count.TheVariants.{Any}
use Rattle.op_table.specs.Rows.{row_of}
use Rattle.ir_forms.specs.declared.ops.Op.{Op}
use Rattle.ir_forms.specs.declared.types.Ty.{Ty}
use Rattle.ir_forms.specs.declared.types.Ty.TheVariants as ty
use Rattle.ir_forms.specs.Ops.{kind_of, operands_of, written_of}
use Rattle.ir_verify.specs.declared.fault.VerifyKind.TheVariants.{Terminator}
use Rattle.ir_verify.specs.Forms.{form, form_of, ends, end_asked, is_ending}
use Rattle.ir_verify.specs.Places.{Around, Spot, types_of}
use Rattle.ir_verify.specs.Rules.{counted, end_around, end_asks, end_length, end_length_in, end_type, end_type_in, is_asked, is_held, is_in_place, operand_fits, operands_given, written_asked, written_fits}
use Rattle.low_forms.proofs.Words.{and_right}
use Rattle.scf_blocks.specs.declared.role.Role.TheVariants as role
use Rattle.scf_blocks.specs.Code.{truth}
use Rattle.scf_blocks.specs.Tree.{role_by}
use Rattle.typed_rows.specs.Typed.{HasTypes}
use Rattle.exec_outline.specs.Shape.{held}
use Rattle.sound_laws.proofs.Sound.{parted}
use Rattle.plain_rows.specs.Laws.{IsFine}
use Rattle.plain_rows.proofs.Facts.{counts}
use Rattle.plain_rows.proofs.Same.{truth_is}
use Rattle.plain_rows.proofs.Lone.{asked_is, operands_are, written_so}
use Rattle.outlined_types.specs.Forms.{ConditionsFit, EndsFit, end_types, end_types_in, end_types_of}
use Rattle.outlined_types.proofs.Words.{and_false, asked_so, held_is, same_list}

-- ---- what a region asks of its end, by lists

module _ (g : Form) (plain : ends form_is.TaskYield g ≡ false) where
  type_in : (f : Form) (holder : Op) (r i : ℕ) → ends (end_asked f r) g ≡ true → end_type_in f holder r i ≡ slice_get (end_types_in f holder r) i
  type_in form_is.Execute holder r i is = cc
  type_in _ holder r i is = refl

  length_in : (f : Form) (holder : Op) (r : ℕ) → ends (end_asked f r) g ≡ true → end_length_in f holder r ≡ length (end_types_in f holder r)
  length_in form_is.Execute holder r is = cc
  length_in _ holder r is = refl

  type_by : (a : Around) (o : Option Op) → a.holder ≡ o → ends (end_around o a.region) g ≡ true → (i : ℕ) → end_type (record a { holder = o }) i ≡ slice_get (end_types_of o a.region a.func) i
  type_by a None e is i = refl
  type_by a (Some h) e is i = type_in (form h) h a.region i is

  length_by : (a : Around) (o : Option Op) → a.holder ≡ o → ends (end_around o a.region) g ≡ true → end_length (record a { holder = o }) ≡ length (end_types_of o a.region a.func)
  length_by a None e is = refl
  length_by a (Some h) e is = length_in (form h) h a.region is

-- a task's region ends with its yield
only_task : (f : Form) (r : ℕ) → ends (end_asked f r) form_is.TaskYield ≡ true → f ≡ form_is.Execute
only_task form_is.Execute r is = refl
only_task form_is.While zero is = cc
only_task form_is.While (suc r) is = cc
only_task _ r is = cc

drop_at : {A : Type 0} → (xs : List A) (i : ℕ) → slice_get xs (i + 1) ≡ slice_get (drop 1 xs) i
drop_at [] i = refl
drop_at (x ∷ xs) i = (let e : i + 1 ≡ suc i = omega arith in ap (λ n. slice_get (x ∷ xs) n) e)

drop_length : {A : Type 0} → (xs : List A) → length xs - 1 ≡ length (drop 1 xs)
drop_length [] = refl
drop_length (x ∷ xs) = (let e : suc (length xs) - 1 ≡ length xs = omega arith in e)

map_length : {A B : Type 0} → (h : A → B) (xs : List A) → length (map h xs) ≡ length xs
map_length h [] = refl
map_length h (x ∷ xs) = ap suc (map_length h xs)

held_at : (ts : List Ty) (i : ℕ) (t u : Ty) → slice_get (map held ts) i ≡ Some u → is_held (slice_get ts i) t ≡ true → t ≡ u
held_at [] i t u at is = cc
held_at (x ∷ ts) zero t u at is = (let same : held x ≡ u = cc in held_is x t is ∙ same)
held_at (x ∷ ts) (suc i) t u at is = held_at ts i t u at is

-- a task's end gives what the values hold
task_types : (a : Around) (o : Option Op) → ends (end_around o a.region) form_is.TaskYield ≡ true → (ws : List Ty)
    → length ws ≡ end_length (record a { holder = o }) → ((i : ℕ) (t : Ty) → slice_get ws i ≡ Some t → is_held (end_type (record a { holder = o }) i) t ≡ true)
    → ws ≡ end_types_of o a.region a.func
task_types a None is ws len each = cc
task_types a (Some h) is ws len each = by (form h) (only_task (form h) a.region is) len each
  where
    by : (f : Form) → f ≡ form_is.Execute → length ws ≡ end_length_in f h a.region → ((i : ℕ) (t : Ty) → slice_get ws i ≡ Some t → is_held (end_type_in f h a.region i) t ≡ true) → ws ≡ end_types_in f h a.region
    by form_is.Execute e len each =
        same_list ws (map held (drop 1 (types_of h))) (len ∙ drop_length (types_of h) ∙ sym (map_length held (drop 1 (types_of h))))
        (λ i t u at there. held_at (drop 1 (types_of h)) i t u there (subst (λ (x : Option Ty). is_held x t ≡ true) (drop_at (types_of h) i) (each i t at)))
    by _ e len each = cc

-- the row of an end counts no operands
any_return : (kind : OpKind) → form_of kind ≡ form_is.Return → (row_of kind).operands ≡ Any
any_return op.FuncReturn e = refl
any_return _ e = cc

any_yield : (kind : OpKind) → form_of kind ≡ form_is.Yield → (row_of kind).operands ≡ Any
any_yield op.ScfYield e = refl
any_yield _ e = cc

any_task : (kind : OpKind) → form_of kind ≡ form_is.TaskYield → (row_of kind).operands ≡ Any
any_task op.AsyncYield e = refl
any_task _ e = cc

any_condition : (kind : OpKind) → form_of kind ≡ form_is.Condition → (row_of kind).operands ≡ Any
any_condition op.ScfCondition e = refl
any_condition _ e = cc

module _ (s : Spot) (fine : IsFine s) where
  -- how many operands there are, where the row counts none
  counted_so : (g : Form) → form s.place.op ≡ g → (row_of (kind_of s.place.op)).operands ≡ Any → length (operands_of s.place.op) ≡ operands_given g s.place.op
  counted_so g e any = (counts s fine).operands ∙ ap (λ c. counted c (operands_given (form s.place.op) s.place.op)) any ∙ ap (λ k. operands_given k s.place.op) e

  in_place : (g : Form) → form s.place.op ≡ g → is_ending g ≡ true → is_in_place s.place ≡ true
  in_place g e is = and_false (is_ending (form s.place.op)) (is_in_place s.place) (ap is_ending e ∙ is) (parted s Terminator (fine Terminator)).own

  ends_so : (g : Form) → form s.place.op ≡ g → is_ending g ≡ true → ends (end_around s.place.around.holder s.place.around.region) g ≡ true
  ends_so g e is =
      subst (λ h. ends (end_around s.place.around.holder s.place.around.region) h ≡ true) e
      (and_right s.place.is_last (ends (end_around s.place.around.holder s.place.around.region) (form s.place.op)) (in_place g e is))

  asks_length : is_in_place s.place ≡ true → end_asks s.place ≡ end_length s.place.around
  asks_length is = ap (λ b. if b then end_length s.place.around else length (written_of s.place.op)) is

  written_length : (g : Form) → form s.place.op ≡ g → is_ending g ≡ true → written_asked g s.place ≡ end_asks s.place → length (written_of s.place.op) ≡ end_length s.place.around
  written_length g e is asked = (counts s fine).written ∙ ap (λ k. written_asked k s.place) e ∙ asked ∙ asks_length (in_place g e is)

  or_true : (a b : Bool) → a ≡ true → (not a || b) ≡ true → b ≡ true
  or_true true b is h = h
  or_true false b is h = cc

  -- what a plain end writes
  plain_types : (g : Form) → form s.place.op ≡ g → is_ending g ≡ true → ends form_is.TaskYield g ≡ false → written_asked g s.place ≡ end_asks s.place
      → ((i : ℕ) (t : Ty) → written_fits g s.place i t ≡ true → (not (is_in_place s.place) || is_asked (end_type s.place.around i) t) ≡ true)
      → written_of s.place.op ≡ end_types s.place.around
  plain_types g e is plain asked each =
      let a : Around = s.place.around in
      let there = ends_so g e is in
      same_list (written_of s.place.op) (end_types a) (written_length g e is asked ∙ length_by g plain a a.holder refl there)
      (λ i t u at here. asked_so (end_type a i) t u (type_by g plain a a.holder refl there i ∙ here)
      (or_true (is_in_place s.place) (is_asked (end_type a i) t) (in_place g e is) (each i t (written_so s fine g e i t at))))

  yielded : form s.place.op ≡ form_is.TaskYield → written_of s.place.op ≡ end_types s.place.around
  yielded e =
      let a : Around = s.place.around in
      task_types a a.holder (ends_so form_is.TaskYield e refl) (written_of s.place.op) (written_length form_is.TaskYield e refl refl)
      (λ i t at. or_true (is_in_place s.place) (is_held (end_type a i) t) (in_place form_is.TaskYield e refl) (written_so s fine form_is.TaskYield e i t at))

  -- the operands have the written types
  writes_operands : (g : Form) → form s.place.op ≡ g → ((i : ℕ) (t : Ty) → operand_fits g s.place i t ≡ is_asked (slice_get (written_of s.place.op) i) t)
      → length (operands_of s.place.op) ≡ length (written_of s.place.op) → HasTypes s.seen (operands_of s.place.op) (written_of s.place.op)
  writes_operands g e fits len = operands_are s fine g e (written_of s.place.op) len (λ i t u at fit. asked_is (written_of s.place.op) i t u at (sym (fits i t) ∙ fit))

  end_by : (g : Form) (kind : OpKind) → form s.place.op ≡ g → role_by g kind ≡ role.End → HasTypes s.seen (operands_of s.place.op) (end_types s.place.around)
  end_by form_is.Return kind e is =
      subst (λ (ts : List Ty). HasTypes s.seen (operands_of s.place.op) ts) (plain_types form_is.Return e refl refl refl (λ i t h. h))
      (writes_operands form_is.Return e (λ i t. refl) (counted_so form_is.Return e (any_return (kind_of s.place.op) e)))
  end_by form_is.Yield kind e is =
      subst (λ (ts : List Ty). HasTypes s.seen (operands_of s.place.op) ts) (plain_types form_is.Yield e refl refl refl (λ i t h. h))
      (writes_operands form_is.Yield e (λ i t. refl) (counted_so form_is.Yield e (any_yield (kind_of s.place.op) e)))
  end_by form_is.TaskYield kind e is =
      subst (λ (ts : List Ty). HasTypes s.seen (operands_of s.place.op) ts) (yielded e)
      (writes_operands form_is.TaskYield e (λ i t. refl) (counted_so form_is.TaskYield e (any_task (kind_of s.place.op) e)))
  end_by _ kind e is = cc

  decides : form s.place.op ≡ form_is.Condition → HasTypes s.seen (operands_of s.place.op) (truth ∷ end_types s.place.around)
  decides e =
      let len : length (operands_of s.place.op) ≡ length (written_of s.place.op) + 1 = counted_so form_is.Condition e (any_condition (kind_of s.place.op) e) in
      subst (λ (ts : List Ty). HasTypes s.seen (operands_of s.place.op) (truth ∷ ts)) (plain_types form_is.Condition e refl refl refl (λ i t h. h))
      (operands_are s fine form_is.Condition e (truth ∷ written_of s.place.op) (omega (arith, len)) each)
    where
      each : (i : ℕ) (t u : Ty) → slice_get (truth ∷ written_of s.place.op) i ≡ Some u → operand_fits form_is.Condition s.place i t ≡ true → t ≡ u
      each zero t u at fit = (let same : truth ≡ u = cc in truth_is t fit ∙ same)
      each (suc i) t u at fit = asked_is (written_of s.place.op) i t u at fit

  condition_by : (g : Form) (kind : OpKind) → form s.place.op ≡ g → role_by g kind ≡ role.Condition → HasTypes s.seen (operands_of s.place.op) (truth ∷ end_types s.place.around)
  condition_by form_is.Condition kind e is = decides e
  condition_by _ kind e is = cc

pub ends_fit : EndsFit
ends_fit s fine is = end_by s fine (form s.place.op) (kind_of s.place.op) refl is

pub conditions_fit : ConditionsFit
conditions_fit s fine is = condition_by s fine (form s.place.op) (kind_of s.place.op) refl is
