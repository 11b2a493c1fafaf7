-- The regions of an operation that breaks no rule, the types of its results, and how regions end.
use Rattle.std.proofs.Common.{◌≡◌, ◌⊎◌, inl, inr, ℕ, zero, suc, ◌+◌, ◌&&◌, not, Bool, true, false, List, [], ◌∷◌, length, map, replicate, Some, None, slice_get, refl, sym, ap, ◌∙◌, subst, arith}
use Rattle.op_table.specs.declared.form.Form.{Form}
use Rattle.op_table.specs.declared.form.Form.TheVariants as form_is
use Rattle.op_table.specs.declared.kind.OpKind.{OpKind}
use Rattle.op_table.specs.declared.kind.OpKind.TheVariants as op
use Rattle.op_table.specs.Rows.{row_of}
use Rattle.ir_forms.specs.declared.ops.Op.{Op}
use Rattle.ir_forms.specs.declared.ops.Region.{Region}
use Rattle.ir_forms.specs.declared.types.CellTy.{CellTy}
use Rattle.ir_forms.specs.declared.types.CellTy.TheVariants as cell
use Rattle.ir_forms.specs.declared.types.NumTy.TheVariants as num
use Rattle.ir_forms.specs.declared.types.Ty.{Ty}
use Rattle.ir_forms.specs.declared.types.Ty.TheVariants as ty
use Rattle.ir_forms.specs.declared.types.ValTy.TheVariants as val
use Rattle.ir_forms.specs.Ops.{kind_of, ops_of, regions_of, written_of}
use Rattle.ir_verify.specs.declared.fault.VerifyKind.TheVariants.{Terminator}
use Rattle.ir_verify.specs.Breaks.{lacks_end, last_form, may_be_empty, region_breaks}
use Rattle.ir_verify.specs.Forms.{end_asked, ends, form, form_of, is_ending}
use Rattle.ir_verify.specs.Places.{Around, Spot, types_of, within}
use Rattle.ir_verify.specs.Rules.{end_around}
use Rattle.ir_verify.specs.Types.{is_value}
use Rattle.low_forms.specs.Registers.{every}
use Rattle.low_forms.proofs.Words.{and_both, and_left, and_right}
use Rattle.mlir_print.specs.Printable.{HasForm, HasParts, IsConstant, cell_type, param_types, payload, payloads}
use Rattle.scf_blocks.specs.declared.role.Role.TheVariants as role
use Rattle.scf_blocks.specs.Tree.{params_of, role_by, role_of, types_in}
use Rattle.typed_rows.specs.Typed.{AreTypes, Env, HasTypes, is_type}
use Rattle.plain_rows.specs.Laws.{IsFine}
use Rattle.plain_rows.proofs.Same.{are_types, memref_self, width_self}
use Rattle.sound_laws.proofs.Facts.{counts}
use Rattle.sound_laws.proofs.Sound.{parted}
use Rattle.outlined_types.specs.Forms.{ChoiceFits, CountedFits, LaunchFits, TestedFits, end_types, end_types_in, region_types}
use Rattle.outlined_types.specs.Operations.{is_end}
use Rattle.outlined_types.proofs.Launches.{launches_fit}
use Rattle.outlined_types.proofs.Operations.{types_map}
use Rattle.outlined_types.proofs.Structures.{choices_fit, loops_fit, tested_loops_fit}
use Rattle.outlined_types.proofs.Words.{and_false, none_here}

-- ---- types of results

cell_self : (c : CellTy) → is_type (cell_type c) ≡ true
cell_self (cell.Int w) = width_self w
cell_self cell.Index = refl
cell_self cell.Token = refl
cell_self cell.Group = refl
cell_self (cell.Value (num.Int w)) = width_self w
cell_self (cell.Value num.Index) = refl

one_type : (t : Ty) → is_type t ≡ true → AreTypes (t ∷ [])
one_type t is = and_both (is_type t) true is refl

payloads_types : (t : Ty) → AreTypes (payloads t)
payloads_types (ty.Value (val.Int w)) = one_type (ty.Int w) (width_self w)
payloads_types (ty.Value val.Index) = refl
payloads_types (ty.Value (val.Memref m)) = one_type (ty.Memref m) (memref_self m)
payloads_types t = refl

constant_types : (o : Op) → IsConstant o → AreTypes (types_of o)
constant_types o (inl h) = subst AreTypes (sym h.1.types_are) refl
constant_types o (inr (inl h)) = subst AreTypes (sym h.4.types_are) (are_types (h.1 ∷ []) (h.3, tt))
constant_types o (inr (inr h)) = subst AreTypes (sym h.4.types_are) (are_types (h.1 ∷ []) (h.3, tt))

-- an operation that a text can write gives values of types that the grammar has
pub result_types : (g : Form) (o : Op) → HasParts g o → AreTypes (types_of o)
result_types form_is.Binary o h = subst AreTypes (sym h.2.types_are) (are_types (h.0 ∷ []) (h.1, tt))
result_types form_is.Compare o h = subst AreTypes (sym h.3.types_are) refl
result_types form_is.Select o h = subst AreTypes (sym h.2.types_are) (are_types (h.0 ∷ []) (h.1, tt))
result_types form_is.Extend o h = subst AreTypes (sym h.4.types_are) (are_types (h.1 ∷ []) (h.3, tt))
result_types form_is.Truncate o h = subst AreTypes (sym h.4.types_are) (are_types (h.1 ∷ []) (h.3, tt))
result_types form_is.IndexCast o h = subst AreTypes (sym h.4.types_are) (are_types (h.1 ∷ []) (h.3, tt))
result_types form_is.Constant o h = constant_types o h
result_types form_is.Assert o h = subst AreTypes (sym h.2.types_are) refl
result_types form_is.Call o h = subst AreTypes (sym h.7.types_are) (are_types h.2 h.5)
result_types form_is.TryCall o h = subst AreTypes (sym h.7.types_are) (are_types h.2 h.5)
result_types form_is.Return o h = subst AreTypes (sym h.4.types_are) refl
result_types form_is.For o h = subst AreTypes (sym h.4.types_are) (are_types h.1 h.2)
result_types form_is.If o h = subst AreTypes (sym h.2.types_are) (are_types h.0 h.1)
result_types form_is.While o h = subst AreTypes (sym h.6.types_are) (are_types h.1 h.4)
result_types form_is.Condition o h = subst AreTypes (sym h.4.types_are) refl
result_types form_is.Parallel o h = subst AreTypes (sym h.7.types_are) refl
result_types form_is.Reduce o h = subst AreTypes (sym h.types_are) refl
result_types form_is.Yield o h = subst AreTypes (sym h.4.types_are) refl
result_types form_is.Alloc o h = subst AreTypes (sym h.2.types_are) (one_type (ty.Memref h.0) (memref_self h.0))
result_types form_is.Dealloc o h = subst AreTypes (sym h.2.types_are) refl
result_types form_is.Load o h = subst AreTypes (sym h.3.types_are) (one_type (cell_type h.0.elem) (cell_self h.0.elem))
result_types form_is.Store o h = subst AreTypes (sym h.3.types_are) refl
result_types form_is.Dim o h = subst AreTypes (sym h.2.types_are) refl
result_types form_is.Execute o h = subst AreTypes (sym h.7.types_are) (are_types (ty.Token ∷ h.2) (tt, h.6))
result_types form_is.TaskYield o h = subst AreTypes (sym h.4.types_are) refl
result_types form_is.Await o h = subst AreTypes (sym h.2.types_are) (payloads_types h.0)
result_types form_is.AwaitAll o h = subst AreTypes (sym h.types_are) refl
result_types form_is.CreateGroup o h = subst AreTypes (sym h.types_are) refl
result_types form_is.AddToGroup o h = subst AreTypes (sym h.2.types_are) refl
result_types form_is.Other o h = absurd h

-- ---- how operations of a region end

-- They end as is asked, or there are none and the region gives nothing; the region of a parallel loop gives nothing.
pub record Closes (a : Around) (os : List Op) : Type 0 where
  pub bare : end_around a.holder a.region ≡ form_is.Reduce → end_types a ≡ []
  pub last : ((os ≡ []) × (end_types a ≡ [])) ⊎ (ends (end_around a.holder a.region) (last_form os) ≡ true)

ends_ending : (e g : Form) → ends e g ≡ true → (e ≡ g) × (is_ending g ≡ true)
ends_ending form_is.Return form_is.Return is = (refl, refl)
ends_ending form_is.Yield form_is.Yield is = (refl, refl)
ends_ending form_is.Condition form_is.Condition is = (refl, refl)
ends_ending form_is.Reduce form_is.Reduce is = (refl, refl)
ends_ending form_is.TaskYield form_is.TaskYield is = (refl, refl)
ends_ending e g is = cc

none_end : (e : Form) → ends e form_is.Other ≡ true → ⊥
none_end e is = (let both = ends_ending e form_is.Other is in absurd (false_true both.1))
  where
    false_true : is_ending form_is.Other ≡ true → ⊥
    false_true h = cc

-- what ends a region by its form is an end, a condition or what ends a parallel loop
only_reduce : (g : Form) (kind : OpKind) → is_ending g ≡ true → (is_end (role_by g kind) → ⊥) → g ≡ form_is.Reduce
only_reduce form_is.Return kind is other = absurd (other tt)
only_reduce form_is.Yield kind is other = absurd (other tt)
only_reduce form_is.Condition kind is other = absurd (other tt)
only_reduce form_is.TaskYield kind is other = absurd (other tt)
only_reduce form_is.Reduce kind is other = refl
only_reduce g kind is other = cc

pub closes_next : (o : Op) (os : List Op) (a : Around) → Closes a (o ∷ os) → (is_end (role_of (kind_of o)) → ⊥) → Closes a os
closes_next o [] a c other = record { bare = c.bare; last = inl (refl, c.bare (elim c.last [ inl h ↦ (let no : o ∷ [] ≡ [] = h.0 in cc) | inr h ↦ reduces h ])) }
  where
    reduces : ends (end_around a.holder a.region) (form o) ≡ true → end_around a.holder a.region ≡ form_is.Reduce
    reduces h = (let both = ends_ending (end_around a.holder a.region) (form o) h in both.0 ∙ only_reduce (form o) (kind_of o) both.1 other)
closes_next o (q ∷ os) a c other = record { bare = c.bare; last = elim c.last [ inl h ↦ (let no : o ∷ q ∷ os ≡ [] = h.0 in cc) | inr h ↦ inr h ] }

pub closes_none : (a : Around) (env : Env) → Closes a [] → HasTypes env [] (end_types a)
closes_none a env c = elim c.last [
  | inl h ↦ subst (λ (ts : List Ty). HasTypes env [] ts) (sym h.1) tt
  | inr h ↦ absurd (none_end (end_around a.holder a.region) h)
]

-- ---- regions

-- the regions close, and take values of types that the grammar has
abbrev pub AreClosed : Around → Op → ℕ → List Region → Type 0
AreClosed a h i [] = Unit {0}
AreClosed a h i (r ∷ rs) = Closes (within a h i) (ops_of r) × AreTypes (types_in (params_of r)) × AreClosed a h (i + 1) rs

abbrev EachTypes : List (List Ty) → Type 0
EachTypes [] = Unit {0}
EachTypes (ts ∷ tss) = AreTypes ts × EachTypes tss

-- an operation without regions, or one whose regions end
holders : (kind : OpKind) (i : ℕ) → ((row_of kind).regions ≡ 0) ⊎ ((is_ending (end_asked (form_of kind) i) ≡ true) ⊎ (form_of kind ≡ form_is.Other))
holders op.ScfFor i = inr (inl refl)
holders op.ScfIf i = inr (inl refl)
holders op.ScfWhile zero = inr (inl refl)
holders op.ScfWhile (suc i) = inr (inl refl)
holders op.ScfParallel i = inr (inl refl)
holders op.AsyncExecute i = inr (inl refl)
holders op.FuncFunc i = inr (inr refl)
holders op.BuiltinModule i = inr (inr refl)
holders _ i = inl refl

no_elements : (rs : List Region) → length rs ≡ 0 → rs ≡ []
no_elements [] e = refl
no_elements (r ∷ rs) e = absurd (omega (arith, e))

indexes : (n : ℕ) → AreTypes (replicate n ty.Index)
indexes zero = refl
indexes (suc n) = indexes n

payload_self : (t : Ty) → is_value t ≡ true → is_type (payload t) ≡ true
payload_self (ty.Value (val.Int w)) is = width_self w
payload_self (ty.Value val.Index) is = refl
payload_self (ty.Value (val.Memref m)) is = memref_self m
payload_self t is = cc

payload_types : (ts : List Ty) → every is_value ts ≡ true → AreTypes (map payload ts)
payload_types [] is = refl
payload_types (t ∷ ts) is =
    and_both (is_type (payload t)) (every is_type (map payload ts)) (payload_self t (and_left (is_value t) (every is_value ts) is)) (payload_types ts (and_right (is_value t) (every is_value ts) is))

empty_only : (g : Form) (i : ℕ) (ts : List Ty) (os : List Op) → may_be_empty g i ts os ≡ true → (g ≡ form_is.If) × (ts ≡ []) × (os ≡ [])
empty_only form_is.If (suc i) [] [] is = (refl, refl, refl)
empty_only form_is.If zero ts os is = cc
empty_only form_is.If (suc i) (t ∷ ts) os is = cc
empty_only form_is.If (suc i) [] (o ∷ os) is = cc
empty_only g i ts os is = cc

reduce_only : (g : Form) (i : ℕ) → end_asked g i ≡ form_is.Reduce → g ≡ form_is.Parallel
reduce_only form_is.Parallel i e = refl
reduce_only form_is.While zero e = cc
reduce_only form_is.While (suc i) e = cc
reduce_only g i e = cc

module _ (s : Spot) (fine : IsFine s) (has : HasForm (kind_of s.place.op) s.place.op) where
  abbrev o : Op
  o = s.place.op

  parallel_bare : (g : Form) (i : ℕ) → HasParts g o → g ≡ form_is.Parallel → end_types_in g o i ≡ []
  parallel_bare form_is.Parallel i parts e = parts.7.types_are
  parallel_bare g i parts e = cc

  chosen_bare : (g : Form) (i : ℕ) → types_of o ≡ [] → g ≡ form_is.If → end_types_in g o i ≡ []
  chosen_bare form_is.If i none e = none
  chosen_bare g i none e = cc

  no_form : form o ≡ form_is.Other → ⊥
  no_form e = (let none : HasParts form_is.Other o = subst (λ g. HasParts g o) e has in none)

  -- an operation with regions asks something of their ends
  asks_ends : (i : ℕ) (r : Region) → slice_get (regions_of o) i ≡ Some r → is_ending (end_asked (form o) i) ≡ true
  asks_ends i r at = elim (holders (kind_of o) i) [
    | inl none ↦ absurd (missing (no_elements (regions_of o) ((counts s fine).regions ∙ none)))
    | inr other ↦ elim other [ inl is ↦ is | inr e ↦ absurd (no_form e) ]
  ]
    where
      missing : regions_of o ≡ [] → ⊥
      missing e = (let gone : slice_get (regions_of o) i ≡ None = ap (λ (rs : List Region). slice_get rs i) e in cc)

  closes : (i : ℕ) (r : Region) → slice_get (regions_of o) i ≡ Some r → Closes (within s.place.around o i) (ops_of r)
  closes i r at = record { bare = λ e. parallel_bare (form o) i has (reduce_only (form o) i e); last = by (may_be_empty (form o) i (types_of o) (ops_of r)) refl whole }
    where
      whole : (not (may_be_empty (form o) i (types_of o) (ops_of r)) && lacks_end (end_asked (form o) i) (ops_of r)) ≡ false
      whole = none_here (region_breaks Terminator o) (regions_of o) (parted s Terminator (fine Terminator)).regions i r at

      by : (b : Bool) → may_be_empty (form o) i (types_of o) (ops_of r) ≡ b → (not b && lacks_end (end_asked (form o) i) (ops_of r)) ≡ false
          → ((ops_of r ≡ []) × (end_types (within s.place.around o i) ≡ [])) ⊎ (ends (end_asked (form o) i) (last_form (ops_of r)) ≡ true)
      by true e h = (let three = empty_only (form o) i (types_of o) (ops_of r) e in inl (three.2, chosen_bare (form o) i three.1 three.0))
      by false e h = inr (and_false (is_ending (end_asked (form o) i)) (ends (end_asked (form o) i) (last_form (ops_of r))) (asks_ends i r at) h)

  params_by : (g : Form) → form o ≡ g → HasParts g o → is_ending (end_asked g 0) ≡ true → EachTypes (region_types o)
  params_by form_is.For e parts is =
      let f : CountedFits s = loops_fit s fine has (ap (λ h. role_by h (kind_of o)) e) in
      subst EachTypes (sym f.params) (f.are_types, tt)
  params_by form_is.If e parts is =
      let f : ChoiceFits s = choices_fit s fine has (ap (λ h. role_by h (kind_of o)) e) in
      subst EachTypes (sym f.params) (refl, (refl, tt))
  params_by form_is.While e parts is =
      let f : TestedFits s = tested_loops_fit s fine has (ap (λ h. role_by h (kind_of o)) e) in
      subst EachTypes (sym f.params) (f.are_taken, (f.are_given, tt))
  params_by form_is.Parallel e parts is = subst EachTypes (sym parts.7.params_are) (indexes (suc parts.3), tt)
  params_by form_is.Execute e parts is =
      let f : LaunchFits s = launches_fit s fine has (ap (λ h. role_by h (kind_of o)) e) in
      subst EachTypes (sym f.params) (payload_types (written_of o) f.are_values, tt)
  params_by g e parts is = cc

  params_typed : EachTypes (region_types o)
  params_typed = elim (holders (kind_of o) 0) [
    | inl none ↦ subst (λ (rs : List Region). EachTypes (map param_types rs)) (sym (no_elements (regions_of o) ((counts s fine).regions ∙ none))) tt
    | inr other ↦ elim other [ inl is ↦ params_by (form o) refl has is | inr e ↦ absurd (no_form e) ]
  ]

  all_closed : (rs : List Region) (i : ℕ) → EachTypes (map param_types rs) → ((j : ℕ) (r : Region) → slice_get rs j ≡ Some r → Closes (within s.place.around o (i + j)) (ops_of r)) → AreClosed s.place.around o i rs
  all_closed [] i types each = tt
  all_closed (r ∷ rs) i types each = (
    subst (λ n. Closes (within s.place.around o n) (ops_of r)) (let e : i + 0 ≡ i = omega arith in e) (each 0 r refl),
    subst AreTypes (sym (types_map (params_of r))) types.0,
    all_closed rs (i + 1) types.1 (λ j q at. subst (λ n. Closes (within s.place.around o n) (ops_of q)) (let e : i + suc j ≡ (i + 1) + j = omega arith in e) (each (suc j) q at)),
  )

  pub are_closed : AreClosed s.place.around o 0 (regions_of o)
  are_closed = all_closed (regions_of o) 0 params_typed (λ j r at. subst (λ n. Closes (within s.place.around o n) (ops_of r)) (let e : j ≡ 0 + j = omega arith in e) (closes j r at))

  -- the operations of a task end with its yield
  pub task_ends : form o ≡ form_is.Execute → (r : Region) → slice_get (regions_of o) 0 ≡ Some r → ends form_is.TaskYield (last_form (ops_of r)) ≡ true
  task_ends e r at = elim (closes 0 r at).last [
    | inl h ↦ absurd (by (form o) e refl (none_here (region_breaks Terminator o) (regions_of o) (parted s Terminator (fine Terminator)).regions 0 r at) h.0)
    | inr h ↦ subst (λ g. ends (end_asked g 0) (last_form (ops_of r)) ≡ true) e h
  ]
    where
      by : (g : Form) → g ≡ form_is.Execute → form o ≡ g → (not (may_be_empty g 0 (types_of o) (ops_of r)) && lacks_end (end_asked g 0) (ops_of r)) ≡ false → ops_of r ≡ [] → ⊥
      by form_is.Execute e same h none = (let lacks : lacks_end form_is.TaskYield [] ≡ false = subst (λ (os : List Op). lacks_end form_is.TaskYield os ≡ false) none h in cc)
      by g e same h none = cc
