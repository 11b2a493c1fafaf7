-- Made operations have what their forms write.
use Rattle.std.proofs.Common.{◌≡◌, ◌≤◌, ◌<◌, ◌⊎◌, inl, inr, ℕ, zero, suc, ◌+◌, ◌-◌, ◌^◌, ◌==◌, ◌&&◌, not, Bool, true, false, if◌then◌else◌, List, [], ◌∷◌, ◌++◌, map, length, take, drop, IsTrue, Option, Some, None, slice_get, refl, sym, ap, ◌∙◌, subst, arith}
use Rattle.std.specs.Prelude.{nat_lt}
use Rattle.std.proofs.lemmas.Bool.Decides.{nat_tests}
use Rattle.int_ops.specs.declared.Pred.{Pred}
use Rattle.int_ops.specs.declared.Pred.TheVariants.{Ne, Sge, Sle, Ule, Ult}
use Rattle.int_ops.specs.declared.Width.TheVariants.{W1, W8, W16, W32, W64}
use Rattle.op_table.specs.declared.kind.OpKind.{OpKind}
use Rattle.op_table.specs.declared.kind.OpKind.TheVariants as op
use Rattle.op_table.specs.declared.form.Form.TheVariants.{Binary}
use Rattle.op_table.specs.declared.rows.Level.TheVariants.{Checked, Source}
use Rattle.op_table.specs.Rows.{row_of, stands_at}
use Rattle.ir_forms.specs.declared.ops.Attr.{Attr}
use Rattle.ir_forms.specs.declared.ops.Attr.TheVariants as attr
use Rattle.ir_forms.specs.declared.ops.Op.{Op, Op-F, out-Op, roll-Op, out-roll-Op}
use Rattle.ir_forms.specs.declared.ops.Region.{Region, Region-F, out-Region, roll-Region, out-roll-Region}
use Rattle.ir_forms.specs.declared.ops.ValueNo.{ValueNo}
use Rattle.ir_forms.specs.declared.types.Dim.{Dim}
use Rattle.ir_forms.specs.declared.types.MemTy.{MemTy}
use Rattle.ir_forms.specs.declared.types.NumTy.{NumTy}
use Rattle.ir_forms.specs.declared.types.NumTy.TheVariants as num
use Rattle.ir_forms.specs.declared.types.Ty.{Ty}
use Rattle.ir_forms.specs.declared.types.Ty.TheVariants as ty
use Rattle.ir_forms.specs.Ops.{kind_of, regions_of, ops_of}
use Rattle.made_ops.specs.Made.{Makes, acts, asserts, binary, chooses, closed, compare, constant, counted_turns, dimension, found, found_or_new, gives, inside, least, literal, made_op, minus_one, new_constant, next_value, operand, placed, signed_literal, truth, turns, type_of, width_of, yielding, yields}
use Rattle.made_ops.specs.declared.insertion.Insertion.{Insertion}
use Rattle.made_ops.specs.declared.insertion.Operand.{Operand}
use Rattle.made_ops.specs.declared.insertion.Operand.TheVariants.{Value, Number}
use Rattle.sound_laws.proofs.Making.{source_stands}
use Rattle.sound_laws.proofs.Plain.{Is, rolled}
use Rattle.mlir_print.specs.Printable.{AreBytes, AreWritten, Has, HasForm, HasParts, IsEnded, IsWritten, IsWrittenMemref, Ops, Part, Regions, param_types, params_of, types_of}
use Rattle.checked_texts.proofs.Formed.{Formed, formed, formed_both, formed_no_regions, formed_none, formed_region}

-- an insertion all of whose operations have what their forms write
abbrev pub IsFormed : Insertion → Type 0
IsFormed i = (i.at < 2 ^ 32) × Formed Checked (Ops i.ops)

pub number_written : (t : NumTy) → IsWritten (type_of t)
number_written (num.Int w) = tt
number_written num.Index = tt

has_is : (o : Op) (k : OpKind) (vs : List ValueNo) (ws : List Ty) (rs : List ValueNo) (ts : List Ty) (a : Attr) (held : List Region) (ps : List (List Ty)) → Is o k vs ws rs ts a held → map param_types held ≡ ps → Has o (length vs) a [] ws ts ps
has_is o k vs ws rs ts a held ps is e = record {
  operand_count = ap (λ (xs : List ValueNo). length xs) is.operands;
  attr_is = is.attr;
  groups_are = is.groups;
  written_are = is.written;
  types_are = is.types;
  params_are = ap (λ (xs : List Region). map param_types xs) is.regions ∙ e;
}

-- one made operation without regions
made_formed : (o : Op) (k : OpKind) (vs : List ValueNo) (ws : List Ty) (rs : List ValueNo) (ts : List Ty) (a : Attr) → Is o k vs ws rs ts a [] → (row_of k).level ≡ Source → (out-Op o).at < 2 ^ 32 → HasForm k o → Formed Checked (Ops (o ∷ []))
made_formed o k vs ws rs ts a is level at form =
    formed o [] (subst (λ x. IsTrue (stands_at x Checked)) (sym is.kind) (source_stands k Checked level)) (subst (λ x. HasForm x o) (sym is.kind) form) at
    (subst (λ (held : List Region). Formed Checked (Regions o 0 held)) (sym is.regions) (formed_no_regions o 0)) formed_none

placed_formed : (o : Op) (i : Insertion) → IsFormed i → Formed Checked (Ops (o ∷ [])) → IsFormed (placed o i)
placed_formed o i h f = (h.0, formed_both Checked i.ops (o ∷ []) h.1 f)

acts_formed : (k : OpKind) (vs : List ValueNo) (ws : List Ty) (a : Attr) (i : Insertion) → IsFormed i → (row_of k).level ≡ Source → ((o : Op) → Has o (length vs) a [] ws [] [] → HasForm k o) → IsFormed (acts k vs ws a i)
acts_formed k vs ws a i h level form =
    let o : Op = made_op k vs ws [] [] a [] i in
    let is : Is o k vs ws [] [] a [] = rolled k i.at vs ws [] [] a [] in
    placed_formed o i h (made_formed o k vs ws [] [] a is level (subst (λ n. n < 2 ^ 32) (sym (ap (λ (n : Op-F Op Region). n.at) (out-roll-Op _))) h.0) (form o (has_is o k vs ws [] [] a [] [] is refl)))

gives_formed : (k : OpKind) (vs : List ValueNo) (ws : List Ty) (t : Ty) (a : Attr) (i : Insertion) → IsFormed i → (row_of k).level ≡ Source → ((o : Op) → Has o (length vs) a [] ws (t ∷ []) [] → HasForm k o) → IsFormed (gives k vs ws t a i).1
gives_formed k vs ws t a i h level form =
    let o : Op = made_op k vs ws (next_value i ∷ []) (t ∷ []) a [] i in
    let is : Is o k vs ws (next_value i ∷ []) (t ∷ []) a [] = rolled k i.at vs ws (next_value i ∷ []) (t ∷ []) a [] in
    placed_formed o i h (made_formed o k vs ws (next_value i ∷ []) (t ∷ []) a is level (subst (λ n. n < 2 ^ 32) (sym (ap (λ (n : Op-F Op Region). n.at) (out-roll-Op _))) h.0) (form o (has_is o k vs ws (next_value i ∷ []) (t ∷ []) a [] [] is refl)))

-- ---- constants

least_fits : (n l : ℕ) → l ≤ 2 ^ 63 → nat_lt n l ≡ true → n < 2 ^ 64
least_fits n l le is = grind (arith, nat_tests)

rest_fits : (n l m : ℕ) → m ≤ l + l → l ≤ 2 ^ 63 → nat_lt n l ≡ false → m - n ≤ 2 ^ 63
rest_fits n l m le top is = grind (arith, nat_tests)

literal_formed : (t : NumTy) (n : ℕ) (o : Op) → Has o 0 (literal t n) [] [] (type_of t ∷ []) [] → HasForm op.ArithConstant o
literal_formed (num.Int W1) n o h = inl (not (n == 0), h)
literal_formed (num.Int W8) n o h = step (nat_lt n 128) refl h
  where
    step : (b : Bool) → nat_lt n 128 ≡ b → Has o 0 (if b then attr.Literal false n else attr.Literal true (256 - n)) [] [] (ty.Int W8 ∷ []) [] → HasForm op.ArithConstant o
    step true is h = inr (inl (n, ty.Int W8, least_fits n 128 (omega arith) is, tt, h))
    step false is h = inr (inr (256 - n, ty.Int W8, rest_fits n 128 256 (omega arith) (omega arith) is, tt, h))
literal_formed (num.Int W16) n o h = step (nat_lt n 32768) refl h
  where
    step : (b : Bool) → nat_lt n 32768 ≡ b → Has o 0 (if b then attr.Literal false n else attr.Literal true (65536 - n)) [] [] (ty.Int W16 ∷ []) [] → HasForm op.ArithConstant o
    step true is h = inr (inl (n, ty.Int W16, least_fits n 32768 (omega arith) is, tt, h))
    step false is h = inr (inr (65536 - n, ty.Int W16, rest_fits n 32768 65536 (omega arith) (omega arith) is, tt, h))
literal_formed (num.Int W32) n o h = step (nat_lt n 2147483648) refl h
  where
    step : (b : Bool) → nat_lt n 2147483648 ≡ b → Has o 0 (if b then attr.Literal false n else attr.Literal true (4294967296 - n)) [] [] (ty.Int W32 ∷ []) [] → HasForm op.ArithConstant o
    step true is h = inr (inl (n, ty.Int W32, least_fits n 2147483648 (omega arith) is, tt, h))
    step false is h = inr (inr (4294967296 - n, ty.Int W32, rest_fits n 2147483648 4294967296 (omega arith) (omega arith) is, tt, h))
literal_formed (num.Int W64) n o h = step (nat_lt n 9223372036854775808) refl h
  where
    step : (b : Bool) → nat_lt n 9223372036854775808 ≡ b → Has o 0 (if b then attr.Literal false n else attr.Literal true (18446744073709551616 - n)) [] [] (ty.Int W64 ∷ []) [] → HasForm op.ArithConstant o
    step true is h = inr (inl (n, ty.Int W64, least_fits n 9223372036854775808 (omega arith) is, tt, h))
    step false is h = inr (inr (18446744073709551616 - n, ty.Int W64, rest_fits n 9223372036854775808 18446744073709551616 (omega arith) (omega arith) is, tt, h))
literal_formed num.Index n o h = step (nat_lt n 9223372036854775808) refl h
  where
    step : (b : Bool) → nat_lt n 9223372036854775808 ≡ b → Has o 0 (if b then attr.Literal false n else attr.Literal true (18446744073709551616 - n)) [] [] (ty.Index ∷ []) [] → HasForm op.ArithConstant o
    step true is h = inr (inl (n, ty.Index, least_fits n 9223372036854775808 (omega arith) is, tt, h))
    step false is h = inr (inr (18446744073709551616 - n, ty.Index, rest_fits n 9223372036854775808 18446744073709551616 (omega arith) (omega arith) is, tt, h))

pub constant_formed : (t : NumTy) (n : ℕ) (i : Insertion) → IsFormed i → IsFormed (constant t n i).1
constant_formed t n i h = step (found t n i.known)
  where
    step : (o : Option ValueNo) → IsFormed (found_or_new t n o i).1
    step (Some v) = h
    step None = gives_formed op.ArithConstant [] [] (type_of t) (literal t n) i h refl (literal_formed t n)

-- ---- operations on numbers

operand_formed : (t : NumTy) (a : Operand) (i : Insertion) → IsFormed i → IsFormed (operand t a i).1
operand_formed t (Value v) i h = h
operand_formed t (Number n) i h = constant_formed t n i h

pub compare_formed : (p : Pred) (t : NumTy) (a b : Operand) (i : Insertion) → IsFormed i → IsFormed (compare p t a b i).1
compare_formed p t a b i h =
    let x : ValueNo × Insertion = operand t a i in
    let y : ValueNo × Insertion = operand t b x.1 in
    gives_formed op.ArithCmpi (x.0 ∷ y.0 ∷ []) (type_of t ∷ type_of t ∷ []) (ty.Int W1) (attr.Pred p) y.1 (operand_formed t b x.1 (operand_formed t a i h)) refl (λ o has. (p, type_of t, number_written t, has))

pub binary_formed : (k : OpKind) (t : NumTy) (a b : Operand) (i : Insertion) → (row_of k).form ≡ Binary → (row_of k).level ≡ Source → IsFormed i → IsFormed (binary k t a b i).1
binary_formed k t a b i form level h =
    let x : ValueNo × Insertion = operand t a i in
    let y : ValueNo × Insertion = operand t b x.1 in
    gives_formed k (x.0 ∷ y.0 ∷ []) (type_of t ∷ type_of t ∷ []) (type_of t) attr.None y.1 (operand_formed t b x.1 (operand_formed t a i h)) level
    (λ o has. subst (λ f. HasParts f o) (sym form) (type_of t, number_written t, has))

pub dimension_formed : (m : MemTy) (buffer : ValueNo) (k : ℕ) (i : Insertion) → IsWrittenMemref m → IsFormed i → IsFormed (dimension m buffer k i).1
dimension_formed m buffer k i written h =
    let x : ValueNo × Insertion = constant num.Index k i in
    gives_formed op.MemrefDim (buffer ∷ x.0 ∷ []) (ty.Memref m ∷ []) ty.Index attr.None x.1 (constant_formed num.Index k i h) refl (λ o has. (m, written, has))

pub asserts_formed : (text : List ℕ) (v : ValueNo) (i : Insertion) → AreBytes text → IsFormed i → IsFormed (asserts text v i)
asserts_formed text v i bytes h = acts_formed op.CfAssert (v ∷ []) [] (attr.Text text) i h refl (λ o has. (text, bytes, has))

-- ---- regions

region_formed : (t : NumTy) (f : Makes ValueNo) (i : Insertion) → IsFormed i → ((j : Insertion) → IsFormed j → IsFormed (f j).1) →
    Formed Checked (Ops (ops_of (yielding t f i).0)) × (params_of (yielding t f i).0 ≡ [])
region_formed t f i h makes =
    let r : ValueNo × Insertion = f (inside i) in
    let end : Insertion = yields t r.0 r.1 in
    let done : IsFormed end = acts_formed op.ScfYield (r.0 ∷ []) (type_of t ∷ []) attr.None r.1 (makes (inside i) (h.0, formed_none)) refl (λ o has. (1, type_of t ∷ [], (number_written t, tt), tt, has)) in
    let layer : Region-F Op Region = record { params = []; ops = end.ops } in
    let e : out-Region (roll-Region layer) ≡ layer = out-roll-Region layer in
    (subst (λ (os : List Op). Formed Checked (Ops os)) (sym (ap (λ (l : Region-F Op Region). l.ops) e)) done.1, ap (λ (l : Region-F Op Region). l.params) e)

pub chooses_formed : (t : NumTy) (c : ValueNo) (f g : Makes ValueNo) (i : Insertion) → IsFormed i → ((j : Insertion) → IsFormed j → IsFormed (f j).1) → ((j : Insertion) → IsFormed j → IsFormed (g j).1) → IsFormed (chooses t c f g i).1
chooses_formed t c f g i h makes_f makes_g =
    let i1 : Insertion = record i { free = i.free + 1 } in
    let i2 : Insertion = (yielding t f i1).1 in
    let i3 : Insertion = (yielding t g i2).1 in
    let r : Region = (yielding t f i1).0 in
    let s : Region = (yielding t g i2).0 in
    let one : Formed Checked (Ops (ops_of r)) × (params_of r ≡ []) = region_formed t f i1 h makes_f in
    let two : Formed Checked (Ops (ops_of s)) × (params_of s ≡ []) = region_formed t g i2 h makes_g in
    let o : Op = made_op op.ScfIf (c ∷ []) [] (next_value i ∷ []) (type_of t ∷ []) attr.None (r ∷ s ∷ []) i3 in
    let is : Is o op.ScfIf (c ∷ []) [] (next_value i ∷ []) (type_of t ∷ []) attr.None (r ∷ s ∷ []) = rolled op.ScfIf i3.at (c ∷ []) [] (next_value i ∷ []) (type_of t ∷ []) attr.None (r ∷ s ∷ []) in
    let params : map param_types (r ∷ s ∷ []) ≡ [] ∷ [] ∷ [] =
    ap (λ (ps : List (ValueNo × Ty)). map (λ p. p.1) ps ∷ param_types s ∷ []) one.1 ∙ ap (λ (ps : List (ValueNo × Ty)). [] ∷ map (λ p. p.1) ps ∷ []) two.1 in
    let has : Has o 1 attr.None [] [] (type_of t ∷ []) ([] ∷ [] ∷ []) = has_is o op.ScfIf (c ∷ []) [] (next_value i ∷ []) (type_of t ∷ []) attr.None (r ∷ s ∷ []) ([] ∷ [] ∷ []) is params in
    let ended : (k : ℕ) (os : List Op) → IsEnded op.ScfIf k (type_of t ∷ []) os → IsEnded (kind_of o) k (types_of o) os = λ k os e.
    subst (λ x. IsEnded x k (types_of o) os) (sym is.kind) (subst (λ (ts : List Ty). IsEnded op.ScfIf k ts os) (sym is.types) e) in
    let regions : Formed Checked (Regions o 0 (r ∷ s ∷ [])) =
    formed_region o 0 r (s ∷ []) (ended 0 (ops_of r) tt) one.0 (formed_region o 1 s [] (ended 1 (ops_of s) tt) two.0 (formed_no_regions o 2)) in
    placed_formed o i3 h
    (formed o [] (subst (λ x. IsTrue (stands_at x Checked)) (sym is.kind) (source_stands op.ScfIf Checked refl)) (subst (λ x. HasForm x o) (sym is.kind) (type_of t ∷ [], (number_written t, tt), has))
    (subst (λ n. n < 2 ^ 32) (sym (ap (λ (n : Op-F Op Region). n.at) (out-roll-Op _))) h.0)
    (subst (λ (held : List Region). Formed Checked (Regions o 0 held)) (sym is.regions) regions) formed_none)

-- ---- the turns of a loop

counted_turns_formed : (lower upper step : ValueNo) (i : Insertion) → IsFormed i → IsFormed (counted_turns lower upper step i).1
counted_turns_formed lower upper step i h =
    let a : ValueNo × Insertion = binary op.ArithSubi num.Index (Value upper) (Value lower) i in
    let fa : IsFormed a.1 = binary_formed op.ArithSubi num.Index (Value upper) (Value lower) i refl refl h in
    let b : ValueNo × Insertion = binary op.ArithSubi num.Index (Value a.0) (Number 1) a.1 in
    let fb : IsFormed b.1 = binary_formed op.ArithSubi num.Index (Value a.0) (Number 1) a.1 refl refl fa in
    let c : ValueNo × Insertion = binary op.ArithDivui num.Index (Value b.0) (Value step) b.1 in
    let fc : IsFormed c.1 = binary_formed op.ArithDivui num.Index (Value b.0) (Value step) b.1 refl refl fb in
    binary_formed op.ArithAddi num.Index (Value c.0) (Number 1) c.1 refl refl fc

pub turns_formed : (lower upper step : ValueNo) (i : Insertion) → IsFormed i → IsFormed (turns lower upper step i).1
turns_formed lower upper step i h =
    let a : ValueNo × Insertion = compare Sle num.Index (Value upper) (Value lower) i in
    chooses_formed num.Index a.0 (constant num.Index 0) (counted_turns lower upper step) a.1 (compare_formed Sle num.Index (Value upper) (Value lower) i h)
    (λ j g. constant_formed num.Index 0 j g) (λ j g. counted_turns_formed lower upper step j g)
