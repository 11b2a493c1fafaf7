-- What guards an operation has what its forms write.
use Rattle.std.proofs.Common.{◌≡◌, ◌<◌, ℕ, zero, suc, ◌+◌, ◌^◌, List, [], ◌∷◌, ◌++◌, length, drop, Option, Some, None, refl, sym, ap, subst, arith}
use Rattle.int_ops.specs.declared.Pred.{Pred}
use Rattle.int_ops.specs.declared.Pred.TheVariants.{Ne, Sge, Sle, Ule, Ult}
use Rattle.op_table.specs.declared.kind.OpKind.TheVariants as op
use Rattle.ir_forms.specs.declared.ops.Op.{Op, out-Op}
use Rattle.ir_forms.specs.declared.ops.ValueNo.{ValueNo}
use Rattle.ir_forms.specs.declared.types.Dim.{Dim}
use Rattle.ir_forms.specs.declared.types.MemTy.{MemTy}
use Rattle.ir_forms.specs.declared.types.NumTy.{NumTy}
use Rattle.ir_forms.specs.declared.types.NumTy.TheVariants as num
use Rattle.ir_forms.specs.declared.types.Ty.{Ty}
use Rattle.ir_forms.specs.declared.types.Ty.TheVariants as ty
use Rattle.ir_forms.specs.Ops.{operands_of, written_of}
use Rattle.made_ops.specs.Made.{asserts, binary, compare, dimension, least, minus_one, truth, turns, width_of}
use Rattle.made_ops.specs.declared.insertion.Insertion.{Insertion}
use Rattle.made_ops.specs.declared.insertion.Operand.{Operand}
use Rattle.made_ops.specs.declared.insertion.Operand.TheVariants.{Value, Number}
use Rattle.check_insert.specs.declared.guard.Guard.{Guard}
use Rattle.check_insert.specs.declared.guard.Guard.TheVariants as guard
use Rattle.check_insert.specs.declared.parts.Range.{Range}
use Rattle.check_insert.specs.Shape.{asked_sizes, check, check_access, check_between, check_bounds, check_divisor, check_given, check_index, check_indexes, check_most, check_products, check_products_from, check_quotient, check_range, check_ranges, check_sizes, check_turns, each, greatest_bound, guarded, least_bound, message, most_cells, most_elements, number_type, operand_at, ranges_of}
use Rattle.mlir_print.specs.Printable.{AreBytes, AreWritten, IsWrittenMemref}
use Rattle.checked_texts.proofs.MadeForms.{IsFormed, asserts_formed, binary_formed, compare_formed, dimension_formed, turns_formed}

module _ (text : List ℕ) (bytes : AreBytes text) where
  check_formed : (p : Pred) (t : NumTy) (a b : Operand) (i : Insertion) → IsFormed i → IsFormed (check text p t a b i)
  check_formed p t a b i h = asserts_formed text (compare p t a b i).0 (compare p t a b i).1 bytes (compare_formed p t a b i h)

  check_quotient_formed : (t : NumTy) (a b : Operand) (i : Insertion) → IsFormed i → IsFormed (check_quotient text t a b i)
  unfolding check_quotient
  check_quotient_formed t a b i h =
      let c : ValueNo × Insertion = compare Ne t b (Number 0) i in
      let fc : IsFormed c.1 = compare_formed Ne t b (Number 0) i h in
      let d : ValueNo × Insertion = compare Ne t a (Number (least t)) c.1 in
      let fd : IsFormed d.1 = compare_formed Ne t a (Number (least t)) c.1 fc in
      let e : ValueNo × Insertion = compare Ne t b (Number (minus_one t)) d.1 in
      let fe : IsFormed e.1 = compare_formed Ne t b (Number (minus_one t)) d.1 fd in
      let f : ValueNo × Insertion = binary op.ArithOri truth (Value d.0) (Value e.0) e.1 in
      let ff : IsFormed f.1 = binary_formed op.ArithOri truth (Value d.0) (Value e.0) e.1 refl refl fe in
      let g : ValueNo × Insertion = binary op.ArithAndi truth (Value c.0) (Value f.0) f.1 in
      asserts_formed text g.0 g.1 bytes (binary_formed op.ArithAndi truth (Value c.0) (Value f.0) f.1 refl refl ff)

  check_index_formed : (m : MemTy) (buffer : ValueNo) (k : ℕ) (v : ValueNo) (i : Insertion) → IsWrittenMemref m → IsFormed i → IsFormed (check_index text m buffer k v i)
  unfolding check_index
  check_index_formed m buffer k v i written h =
      let d : ValueNo × Insertion = dimension m buffer k i in
      check_formed Ult num.Index (Value v) (Value d.0) d.1 (dimension_formed m buffer k i written h)

  check_indexes_formed : (m : MemTy) (buffer : ValueNo) (k : ℕ) (dims : List Dim) (vs : List ValueNo) (i : Insertion) → IsWrittenMemref m → IsFormed i → IsFormed (check_indexes text m buffer k dims vs i)
  check_indexes_formed m buffer k [] vs i written h = h
  check_indexes_formed m buffer k (d ∷ dims) [] i written h = h
  check_indexes_formed m buffer k (d ∷ dims) (v ∷ vs) i written h = check_indexes_formed m buffer (k + 1) dims vs (check_index text m buffer k v i) written (check_index_formed m buffer k v i written h)

  check_access_formed : (ws : List Ty) (vs : List ValueNo) (i : Insertion) → AreWritten ws → IsFormed i → IsFormed (check_access text ws vs i)
  check_access_formed [] vs i written h = h
  check_access_formed (ty.Memref m ∷ ts) [] i written h = h
  check_access_formed (ty.Memref m ∷ ts) (buffer ∷ vs) i written h = check_indexes_formed m buffer 0 m.dims vs i written.0 h
  check_access_formed (t ∷ ts) vs i written h = h

  check_most_formed : (limit : ℕ) (n : Operand) (i : Insertion) → IsFormed i → IsFormed (check_most text limit n i)
  check_most_formed limit n i h = check_formed Ule num.Index n (Number limit) i h

  check_given_formed : (limit : ℕ) (n : Operand) (i : Insertion) → IsFormed i → IsFormed (check_given text limit n i)
  check_given_formed limit (Value v) i h = check_most_formed limit (Value v) i h
  check_given_formed limit (Number n) i h = h

  each_formed : {A : Type 0} (f : A → Insertion → Insertion) → ((x : A) (i : Insertion) → IsFormed i → IsFormed (f x i)) → (xs : List A) (i : Insertion) → IsFormed i → IsFormed (each f xs i)
  each_formed f ok [] i h = h
  each_formed f ok (x ∷ xs) i h = each_formed f ok xs (f x i) (ok x i h)

  check_products_from_formed : (limit : ℕ) (n : Operand) (ks : List Operand) (i : Insertion) → IsFormed i → IsFormed (check_products_from text limit n ks i)
  check_products_from_formed limit n [] i h = h
  check_products_from_formed limit n (k ∷ ks) i h =
      let p : ValueNo × Insertion = binary op.ArithMuli num.Index n k i in
      check_products_from_formed limit (Value p.0) ks (check_most text limit (Value p.0) p.1) (check_most_formed limit (Value p.0) p.1 (binary_formed op.ArithMuli num.Index n k i refl refl h))

  check_products_formed : (limit : ℕ) (ns : List Operand) (i : Insertion) → IsFormed i → IsFormed (check_products text limit ns i)
  check_products_formed limit [] i h = h
  check_products_formed limit (n ∷ ns) i h = check_products_from_formed limit n ns (check_most text limit n i) (check_most_formed limit n i h)

  check_sizes_formed : (ns : List Operand) (i : Insertion) → IsFormed i → IsFormed (check_sizes text ns i)
  check_sizes_formed ns i h = check_products_formed most_cells ns (each (check_given text most_cells) ns i) (each_formed (check_given text most_cells) (check_given_formed most_cells) ns i h)

  check_between_formed : (low : ℕ) (n : Operand) (i : Insertion) → IsFormed i → IsFormed (check_between text low n i)
  unfolding check_between
  check_between_formed low n i h = check_formed Sle num.Index n (Number greatest_bound) (check text Sge num.Index n (Number low) i) (check_formed Sge num.Index n (Number low) i h)

  check_bounds_formed : (lower upper step : Operand) (i : Insertion) → IsFormed i → IsFormed (check_bounds text lower upper step i)
  check_bounds_formed lower upper step i h =
      let j : Insertion = check_between text least_bound lower i in
      let k : Insertion = check_between text least_bound upper j in
      check_between_formed 1 step k (check_between_formed least_bound upper j (check_between_formed least_bound lower i h))

  check_turns_formed : (ns : List Operand) (rs : List Range) (i : Insertion) → IsFormed i → IsFormed (check_turns text ns rs i).1
  check_turns_formed ns [] i h = h
  check_turns_formed ns (r ∷ rs) i h =
      let n : ValueNo × Insertion = turns r.lower r.upper r.step i in
      check_turns_formed (ns ++ Value n.0 ∷ []) rs (check_most text most_elements (Value n.0) n.1) (check_most_formed most_elements (Value n.0) n.1 (turns_formed r.lower r.upper r.step i h))

  check_ranges_formed : (rs : List Range) (i : Insertion) → IsFormed i → IsFormed (check_ranges text rs i)
  check_ranges_formed rs i h =
      let j : Insertion = each (check_range text) rs i in
      let t : List Operand × Insertion = check_turns text [] rs j in
      check_products_formed most_elements t.0 t.1 (check_turns_formed [] rs j (each_formed (check_range text) (λ r k g. check_bounds_formed (Value r.lower) (Value r.upper) (Value r.step) k g) rs i h))

-- the texts of the messages are bytes
small : (b : ℕ) → b < 128 → b < 256
small b h = omega (arith, h)

message_bytes : (g : Guard) → AreBytes (message g)
message_bytes guard.Nothing = tt
message_bytes g = omega arith

-- what an access writes is a type that a text can write
abbrev pub Access : Guard → Op → Type 0
Access guard.Load o = AreWritten (written_of o)
Access guard.Store o = AreWritten (written_of o)
Access _ o = Unit {0}

pub guarded_formed : (g : Guard) (o : Op) (i : Insertion) → Access g o → IsFormed i → IsFormed (guarded g (out-Op o) i)
guarded_formed guard.Nothing o i written h = h
guarded_formed guard.Divisor o i written h = check_formed (message guard.Divisor) (message_bytes guard.Divisor) Ne (number_type (out-Op o).types) (operand_at (operands_of o) 1) (Number 0) i h
guarded_formed guard.Quotient o i written h = check_quotient_formed (message guard.Quotient) (message_bytes guard.Quotient) (number_type (out-Op o).types) (operand_at (operands_of o) 0) (operand_at (operands_of o) 1) i h
guarded_formed guard.Shift o i written h = check_formed (message guard.Shift) (message_bytes guard.Shift) Ult (number_type (out-Op o).types) (operand_at (operands_of o) 1) (Number (width_of (number_type (out-Op o).types))) i h
guarded_formed guard.Load o i written h = check_access_formed (message guard.Load) (message_bytes guard.Load) (written_of o) (operands_of o) i written h
guarded_formed guard.Store o i written h = check_access_formed (message guard.Store) (message_bytes guard.Store) (written_of o) (drop 1 (operands_of o)) i written h
guarded_formed guard.Dimension o i written h = check_formed (message guard.Dimension) (message_bytes guard.Dimension) Ult num.Index (operand_at (operands_of o) 1) (Number (Rattle.check_insert.specs.Shape.rank (written_of o))) i h
guarded_formed guard.Alloc o i written h = check_sizes_formed (message guard.Alloc) (message_bytes guard.Alloc) (asked_sizes (out-Op o).types (operands_of o)) i h
guarded_formed guard.Group o i written h = check_most_formed (message guard.Group) (message_bytes guard.Group) most_elements (operand_at (operands_of o) 0) i h
guarded_formed guard.Bounds o i written h = check_bounds_formed (message guard.Bounds) (message_bytes guard.Bounds) (operand_at (operands_of o) 0) (operand_at (operands_of o) 1) (operand_at (operands_of o) 2) i h
guarded_formed guard.Parallel o i written h = check_ranges_formed (message guard.Parallel) (message_bytes guard.Parallel) (ranges_of (out-Op o).groups (operands_of o)) i h
