-- The form of each operation without regions is read as what the operation has.
use Rattle.std.proofs.Common.{◌≡◌, ℕ, Bool, true, false, List, [], ◌∷◌, ◌++◌, length, inl, inr, refl, ap, subst, ◌∙◌, arith}
use Rattle.op_table.specs.declared.kind.OpKind.{OpKind}
use Rattle.op_table.specs.declared.kind.OpKind.TheVariants as op
use Rattle.op_table.specs.declared.form.Form.{Form}
use Rattle.op_table.specs.declared.form.Form.TheVariants as shape
use Rattle.op_table.specs.Rows.{row_of}
use Rattle.op_table.specs.declared.rows.Level.{Level}
use Rattle.ir_forms.specs.declared.types.Ty.{Ty}
use Rattle.ir_forms.specs.declared.types.Ty.TheVariants as ty
use Rattle.ir_forms.specs.declared.types.ValTy.TheVariants as val
use Rattle.ir_forms.specs.declared.types.CellTy.{CellTy}
use Rattle.ir_forms.specs.declared.types.CellTy.TheVariants as cell
use Rattle.ir_forms.specs.declared.types.NumTy.TheVariants as num
use Rattle.ir_forms.specs.declared.ops.Module.{Module}
use Rattle.ir_forms.specs.declared.ops.Op.{Op}
use Rattle.ir_forms.specs.declared.ops.ValueNo.{ValueNo}
use Rattle.ir_forms.specs.declared.ops.Attr.{Attr}
use Rattle.ir_forms.specs.declared.ops.Attr.TheVariants as attr
use Rattle.ir_forms.specs.Ops.{kind_of, operands_of, written_of, attr_of, regions_of}
use Rattle.module_grammar.specs.declared.state.Name.{Name}
use Rattle.module_grammar.specs.declared.symbols.Rule.TheVariants as rule
use Rattle.module_grammar.specs.declared.symbols.Act.TheVariants as act
use Rattle.module_grammar.specs.declared.symbols.Keyword.TheVariants as key
use Rattle.module_grammar.specs.declared.symbols.Symbol.{Symbol}
use Rattle.module_grammar.specs.declared.symbols.Symbol.TheVariants as symbol
use Rattle.module_grammar.specs.State.{payload_types, cell_type as cell_of}
use Rattle.module_grammar.specs.Rules.{operand, comma, typed, doing, word as keyword_of, part, ends, parts, form}
use Rattle.mlir_print.specs.Docs as Docs
use Rattle.mlir_print.specs.Docs.{Doc, Blank, ◌<>◌, commas, more}
use Rattle.mlir_print.specs.Types.{types}
use Rattle.mlir_print.specs.Tokens.{attr_doc}
use Rattle.mlir_print.specs.Forms.{uses, typed as typed_doc, typed_values, cast_form, compare_form, constant_form, call_form, load_form, store_form, condition_form, types_of, form_doc as parts_doc, form as form_doc}
use Rattle.mlir_print.specs.Printable.{Has, HasForm, HasParts, IsBinary, IsCast, IsConstant, IsYield, HaveTypes, cell_type, payloads}
use Rattle.round_trip.proofs.Core.{Word, Core}
use Rattle.round_trip.proofs.Machine.{Runs}
use Rattle.round_trip.proofs.Docs.{onto}
use Rattle.round_trip.proofs.Values.{Finds}
use Rattle.round_trip.proofs.Shapes.{op_with, blank, whole, at_op, whole-is, no-regions, After, after-op}
use Rattle.round_trip.proofs.FlatForms.{binary, ternary, compare, truth, literal, cast, add_to_group, await, await_all, create_group, assert, alloc, dealloc, dim, load, store, call, try_call}
use Rattle.round_trip.proofs.Terminators.{held, condition}

payloads-are : (t : Ty) → payloads t ≡ payload_types t
payloads-are (ty.Value (val.Int w)) = refl
payloads-are (ty.Value val.Index) = refl
payloads-are (ty.Value (val.Memref m)) = refl
payloads-are _ = refl

cell-is : (e : CellTy) → cell_type e ≡ cell_of e
cell-is (cell.Value (num.Int w)) = refl
cell-is (cell.Value num.Index) = refl
cell-is _ = refl

-- an operation with no regions and one group of operands
pub flat-is : (o : Op) (kd : OpKind) (n : ℕ) (a : Attr) (written types : List Ty) (at : ℕ) (rs : List Name) → kind_of o ≡ kd
    → Has o n a [] written types [] → whole o at rs ≡ op_with kd at rs (operands_of o) [] written types a []
flat-is o kd n a written types at rs e has =
    whole-is o n a [] written types [] at rs has
    ∙ ap (λ (x : OpKind). op_with x at rs (operands_of o) [] written types a (regions_of o)) e
    ∙ ap (λ rs'. op_with kd at rs (operands_of o) [] written types a rs') (no-regions (regions_of o) has.params_are)

no-values : (vs : List ValueNo) → length vs ≡ 0 → vs ≡ []
no-values [] n = refl
no-values (v ∷ vs) n = absurd (omega arith)

module _ {level : Level} {m : Module} {k : List Symbol} (ws : List Word) (c : Core) (kd : OpKind) (at : ℕ) (rs : List Name)
    (o : Op) (e : kind_of o ≡ kd) (f : Finds c.visible (operands_of o)) (after : After level m k (at_op c (whole o at rs)) ws) where
  now : (n : ℕ) (a : Attr) (written types : List Ty) → Has o n a [] written types []
      → After level m k (at_op c (op_with kd at rs (operands_of o) [] written types a [])) ws
  now n a written types has = after-op c _ _ (flat-is o kd n a written types at rs e has) after

  two : IsBinary 2 o → Runs level m (operand ++ comma ++ operand ++ typed ++ doing act.SameTypes ++ (ends ++ k)) (at_op c (blank kd at rs)) (onto (uses o <> typed_doc (types_of o)) ws)
  two h = rw h.2.types_are (binary ws c kd at rs (operands_of o) h.0 h.2.operand_count f h.1 (now _ _ _ _ h.2).ended)

  three : IsBinary 3 o → Runs level m (operand ++ comma ++ operand ++ comma ++ operand ++ typed ++ doing act.SameTypes ++ (ends ++ k)) (at_op c (blank kd at rs)) (onto (uses o <> typed_doc (types_of o)) ws)
  three h = rw h.2.types_are (ternary ws c kd at rs (operands_of o) h.0 h.2.operand_count f h.1 (now _ _ _ _ h.2).ended)

  cast-form : IsCast o → Runs level m (operand ++ typed ++ doing act.Written ++ keyword_of key.To ++ part rule.Type ++ doing act.Results ++ (ends ++ k)) (at_op c (blank kd at rs)) (onto (cast_form o) ws)
  cast-form h = rw (h.4.written_are, h.4.types_are) (cast ws c kd at rs (operands_of o) h.0 h.1 h.4.operand_count f h.2 h.3 (now _ _ _ _ h.4).ended)

  compare-form : HasForm op.ArithCmpi o → Runs level m (form op.ArithCmpi ++ (ends ++ k)) (at_op c (blank kd at rs)) (onto (compare_form o) ws)
  compare-form h = rw (h.3.attr_is, h.3.written_are) (compare ws c kd at rs (operands_of o) h.0 h.1 h.3.operand_count f h.2 (now _ _ _ _ h.3).ended)

  none : (a : Attr) (types : List Ty) → Has o 0 a [] [] types [] → After level m k (at_op c (op_with kd at rs [] [] [] types a [])) ws
  none a types has = after-op c _ _ (ap (λ (vs : List ValueNo). op_with kd at rs vs [] [] types a []) (no-values (operands_of o) has.operand_count)) (now _ _ _ _ has)

  constant-form : IsConstant o → Runs level m (form op.ArithConstant ++ (ends ++ k)) (at_op c (blank kd at rs)) (onto (constant_form o) ws)
  constant-form (inl h) = rw h.1.attr_is (truth ws c kd at rs h.0 (none _ _ h.1).ended)
  constant-form (inr (inl h)) =
      rw (h.4.attr_is, h.4.types_are) (literal ws c kd at rs false h.0 h.1 h.2 (λ e. absurd cc) h.3 (none _ _ h.4).ended)
  constant-form (inr (inr h)) =
      rw (h.4.attr_is, h.4.types_are) (literal ws c kd at rs true h.0 h.1 (omega (arith, h.2)) (λ e. h.2) h.3 (none _ _ h.4).ended)

  add_to_group-form : HasForm op.AsyncAddToGroup o → Runs level m (form op.AsyncAddToGroup ++ (ends ++ k)) (at_op c (blank kd at rs)) (onto (uses o <> typed_doc (written_of o)) ws)
  add_to_group-form h = rw h.2.written_are (add_to_group ws c kd at rs (operands_of o) h.0 h.2.operand_count f h.1 (now _ _ _ _ h.2).ended)

  await-form : HasForm op.AsyncAwait o → Runs level m (form op.AsyncAwait ++ (ends ++ k)) (at_op c (blank kd at rs)) (onto (uses o <> typed_doc (written_of o)) ws)
  await-form h =
      let next = after-op c _ _ (ap (λ (ts : List Ty). op_with kd at rs (operands_of o) [] (h.0 ∷ []) ts attr.None []) (payloads-are h.0)) (now _ _ _ _ h.2) in
      rw h.2.written_are (await ws c kd at rs (operands_of o) h.0 h.2.operand_count f h.1 next.ended)

  await_all-form : HasForm op.AsyncAwaitAll o → Runs level m (form op.AsyncAwaitAll ++ (ends ++ k)) (at_op c (blank kd at rs)) (onto (uses o) ws)
  await_all-form h = await_all ws c kd at rs (operands_of o) h.operand_count f after.stops (now _ _ _ _ h).ended

  create_group-form : HasForm op.AsyncCreateGroup o → Runs level m (form op.AsyncCreateGroup ++ (ends ++ k)) (at_op c (blank kd at rs)) (onto (uses o <> typed_doc (types_of o)) ws)
  create_group-form h = rw h.types_are (create_group ws c kd at rs (operands_of o) h.operand_count f (now _ _ _ _ h).ended)

  assert-form : HasForm op.CfAssert o → Runs level m (form op.CfAssert ++ (ends ++ k)) (at_op c (blank kd at rs)) (onto (uses o <> Docs.comma <> attr_doc (attr_of o)) ws)
  assert-form h = rw h.2.attr_is (assert ws c kd at rs (operands_of o) h.0 h.2.operand_count f h.1 (now _ _ _ _ h.2).ended)

  alloc-form : HasForm op.MemrefAlloc o → Runs level m (form op.MemrefAlloc ++ (ends ++ k)) (at_op c (blank kd at rs)) (onto (form_doc op.MemrefAlloc o) ws)
  alloc-form h = rw h.2.types_are (alloc ws c kd at rs (operands_of o) h.0 f h.1 (now _ _ _ _ h.2).ended)

  dealloc-form : HasForm op.MemrefDealloc o → Runs level m (form op.MemrefDealloc ++ (ends ++ k)) (at_op c (blank kd at rs)) (onto (form_doc op.MemrefDealloc o) ws)
  dealloc-form h = rw h.2.written_are (dealloc ws c kd at rs (operands_of o) h.0 h.2.operand_count f h.1 (now _ _ _ _ h.2).ended)

  dim-form : HasForm op.MemrefDim o → Runs level m (form op.MemrefDim ++ (ends ++ k)) (at_op c (blank kd at rs)) (onto (form_doc op.MemrefDim o) ws)
  dim-form h = rw h.2.written_are (dim ws c kd at rs (operands_of o) h.0 h.2.operand_count f h.1 (now _ _ _ _ h.2).ended)

  load-form : HasForm op.MemrefLoad o → Runs level m (form op.MemrefLoad ++ (ends ++ k)) (at_op c (blank kd at rs)) (onto (load_form o) ws)
  load-form h =
      let next = after-op c _ _ (ap (λ (t : Ty). op_with kd at rs (operands_of o) [] (ty.Memref h.0 ∷ []) (t ∷ []) attr.None []) (cell-is h.0.elem)) (now _ _ _ _ h.3) in
      rw h.3.written_are (load ws c kd at rs (operands_of o) h.1 h.0 h.3.operand_count f h.2 next.ended)

  store-form : HasForm op.MemrefStore o → Runs level m (form op.MemrefStore ++ (ends ++ k)) (at_op c (blank kd at rs)) (onto (store_form o) ws)
  store-form h = rw h.3.written_are (store ws c kd at rs (operands_of o) h.1 h.0 h.3.operand_count f h.2 (now _ _ _ _ h.3).ended)

  call-form : HasForm op.FuncCall o → Runs level m (form op.FuncCall ++ (ends ++ k)) (at_op c (blank kd at rs)) (onto (call_form o) ws)
  call-form h = rw (h.7.attr_is, h.7.written_are, h.7.types_are) (call ws c kd at rs (operands_of o) h.0 h.1 h.2 f h.3 h.4 h.5 (now _ _ _ _ h.7).ended)

  try_call-form : HasForm op.AioTryCall o → Runs level m (form op.AioTryCall ++ (ends ++ k)) (at_op c (blank kd at rs)) (onto (call_form o) ws)
  try_call-form h =
      let next = after-op c _ _ (ap (λ (us : List Ty). op_with kd at rs (operands_of o) [] h.1 us (attr.Callee h.0) []) h.6) (now _ _ _ _ h.7) in
      rw (h.7.attr_is, h.7.written_are, h.7.types_are, h.6) (try_call ws c kd at rs (operands_of o) h.0 h.1 f h.3 h.4 next.ended)

  reduce-form : HasForm op.ScfReduce o → Runs level m (ends ++ k) (at_op c (blank kd at rs)) ws
  reduce-form h = (none _ _ h).ended c.passing

  yield-form : IsYield 0 o → Runs level m (symbol.Rule rule.Held ∷ ends ++ k) (at_op c (blank kd at rs)) (onto (typed_values (operands_of o) (written_of o)) ws)
  yield-form h =
      let types = subst (λ (n : ℕ). HaveTypes n h.1) (omega (arith, h.4.operand_count)) h.3 in
      rw h.4.written_are (held c kd at rs [] (operands_of o) h.1 f h.2 types (now _ _ _ _ h.4) c.passing)

  condition-form : IsYield 1 o → Runs level m (form op.ScfCondition ++ (ends ++ k)) (at_op c (blank kd at rs)) (onto (condition_form o) ws)
  condition-form h = rw h.4.written_are (condition c kd at rs (operands_of o) h.1 h.0 h.4.operand_count f h.2 h.3 (now _ _ _ _ h.4))

abbrev pub writes_regions : Form → Bool
writes_regions shape.For = true
writes_regions shape.If = true
writes_regions shape.While = true
writes_regions shape.Parallel = true
writes_regions shape.Execute = true
writes_regions _ = false

abbrev pub has_regions : OpKind → Bool
has_regions kd = writes_regions (row_of kd).form

formed-parts : {level : Level} {m : Module} {k : List Symbol} (ws : List Word) (c : Core) (g : Form) (kd : OpKind) (at : ℕ) (rs : List Name) (o : Op)
    → writes_regions g ≡ false → kind_of o ≡ kd → HasParts g o → Finds c.visible (operands_of o)
    → After level m k (at_op c (whole o at rs)) ws
    → Runs level m (parts g ++ (ends ++ k)) (at_op c (blank kd at rs)) (onto (parts_doc g o) ws)
formed-parts ws c shape.Binary kd at rs o flat e h f after = two ws c kd at rs o e f after h
formed-parts ws c shape.Compare kd at rs o flat e h f after = compare-form ws c kd at rs o e f after h
formed-parts ws c shape.Select kd at rs o flat e h f after = three ws c kd at rs o e f after h
formed-parts ws c shape.Extend kd at rs o flat e h f after = cast-form ws c kd at rs o e f after h
formed-parts ws c shape.Truncate kd at rs o flat e h f after = cast-form ws c kd at rs o e f after h
formed-parts ws c shape.IndexCast kd at rs o flat e h f after = cast-form ws c kd at rs o e f after h
formed-parts ws c shape.Constant kd at rs o flat e h f after = constant-form ws c kd at rs o e f after h
formed-parts ws c shape.Assert kd at rs o flat e h f after = assert-form ws c kd at rs o e f after h
formed-parts ws c shape.Call kd at rs o flat e h f after = call-form ws c kd at rs o e f after h
formed-parts ws c shape.TryCall kd at rs o flat e h f after = try_call-form ws c kd at rs o e f after h
formed-parts ws c shape.Return kd at rs o flat e h f after = yield-form ws c kd at rs o e f after h
formed-parts ws c shape.For kd at rs o flat e h f after = absurd cc
formed-parts ws c shape.If kd at rs o flat e h f after = absurd cc
formed-parts ws c shape.While kd at rs o flat e h f after = absurd cc
formed-parts ws c shape.Condition kd at rs o flat e h f after = condition-form ws c kd at rs o e f after h
formed-parts ws c shape.Parallel kd at rs o flat e h f after = absurd cc
formed-parts ws c shape.Reduce kd at rs o flat e h f after = reduce-form ws c kd at rs o e f after h
formed-parts ws c shape.Yield kd at rs o flat e h f after = yield-form ws c kd at rs o e f after h
formed-parts ws c shape.Alloc kd at rs o flat e h f after = alloc-form ws c kd at rs o e f after h
formed-parts ws c shape.Dealloc kd at rs o flat e h f after = dealloc-form ws c kd at rs o e f after h
formed-parts ws c shape.Load kd at rs o flat e h f after = load-form ws c kd at rs o e f after h
formed-parts ws c shape.Store kd at rs o flat e h f after = store-form ws c kd at rs o e f after h
formed-parts ws c shape.Dim kd at rs o flat e h f after = dim-form ws c kd at rs o e f after h
formed-parts ws c shape.Execute kd at rs o flat e h f after = absurd cc
formed-parts ws c shape.TaskYield kd at rs o flat e h f after = yield-form ws c kd at rs o e f after h
formed-parts ws c shape.Await kd at rs o flat e h f after = await-form ws c kd at rs o e f after h
formed-parts ws c shape.AwaitAll kd at rs o flat e h f after = await_all-form ws c kd at rs o e f after h
formed-parts ws c shape.CreateGroup kd at rs o flat e h f after = create_group-form ws c kd at rs o e f after h
formed-parts ws c shape.AddToGroup kd at rs o flat e h f after = add_to_group-form ws c kd at rs o e f after h
formed-parts ws c shape.Other kd at rs o flat e h f after = absurd h

pub formed : {level : Level} {m : Module} {k : List Symbol} (ws : List Word) (c : Core) (kd : OpKind) (at : ℕ) (rs : List Name) (o : Op)
    → has_regions kd ≡ false → kind_of o ≡ kd → HasForm kd o → Finds c.visible (operands_of o)
    → After level m k (at_op c (whole o at rs)) ws
    → Runs level m (form kd ++ (ends ++ k)) (at_op c (blank kd at rs)) (onto (form_doc kd o) ws)
formed ws c kd at rs o flat e h f after = formed-parts ws c (row_of kd).form kd at rs o flat e h f after
