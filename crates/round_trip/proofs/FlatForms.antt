-- The forms without regions are read as what they were printed for.
use Rattle.std.proofs.Common.{◌≡◌, ◌<◌, ◌≤◌, ℕ, ◌+◌, ◌^◌, Bool, true, false, List, [], ◌∷◌, ◌++◌, take, drop, length, codes, refl, sym, subst, arith, le-leb}
use Rattle.mlir_lex.specs.declared.kinds.TokenKind.TheVariants as kind
use Rattle.op_table.specs.declared.kind.OpKind.{OpKind}
use Rattle.op_table.specs.declared.rows.Level.{Level}
use Rattle.int_ops.specs.declared.Width.TheVariants.{W1}
use Rattle.int_ops.specs.declared.Pred.{Pred}
use Rattle.int_ops.specs.declared.Pred.TheVariants as pred
use Rattle.ir_forms.specs.declared.types.Ty.{Ty}
use Rattle.ir_forms.specs.declared.types.Ty.TheVariants as ty
use Rattle.ir_forms.specs.declared.types.MemTy.{MemTy}
use Rattle.ir_forms.specs.declared.ops.Module.{Module}
use Rattle.ir_forms.specs.declared.ops.ValueNo.{ValueNo}
use Rattle.ir_forms.specs.declared.ops.Attr.{Attr}
use Rattle.ir_forms.specs.declared.ops.Attr.TheVariants as attr
use Rattle.module_grammar.specs.declared.state.Name.{Name}
use Rattle.module_grammar.specs.declared.symbols.Class.TheVariants as class
use Rattle.module_grammar.specs.declared.symbols.Rule.TheVariants as rule
use Rattle.module_grammar.specs.declared.symbols.Act.TheVariants as act
use Rattle.module_grammar.specs.declared.symbols.Keyword.TheVariants as key
use Rattle.module_grammar.specs.declared.symbols.Symbol.{Symbol}
use Rattle.module_grammar.specs.declared.symbols.Symbol.TheVariants as symbol
use Rattle.module_grammar.specs.State.{payload_types, cell_type as cell_of}
use Rattle.module_grammar.specs.Rules.{operand, comma, typed, typed_as, doing, word as keyword_of, part, token, line as line_of, indices, arguments, arrow, paren, close_paren}
use Rattle.mlir_print.specs.Types.{type_doc, types, result_types}
use Rattle.mlir_print.specs.Tokens.{attr_doc, symbol as symbol_doc}
use Rattle.mlir_print.specs.Forms.{values, value_at}
use Rattle.mlir_print.specs.Printable.{IsWritten, AreWritten, AreBytes, IsWrittenMemref}
use Rattle.round_trip.proofs.Core.{Word, Core, with_attr, said}
use Rattle.round_trip.proofs.Machine.{Runs, Any, word, act, line, skip}
use Rattle.round_trip.proofs.Docs.{onto, Stops, stops-plain}
use Rattle.round_trip.proofs.Numbers.{number-back}
use Rattle.round_trip.proofs.Strings.{string-back}
use Rattle.round_trip.proofs.Types.{with_read, a-type, results, memref-type, width-type, group-type}
use Rattle.round_trip.proofs.Values.{Finds}
use Rattle.round_trip.proofs.Segments.{mark, a-use, uses, a-typed, a-listed}
use Rattle.round_trip.proofs.Shapes.{op_with, blank, at_op, a-symbol}

abbrev name : List ℕ → Word
name text = (kind.Name, text)

module _ {level : Level} {m : Module} where
  a-pred : {k : List Symbol} {c : Core} {ws : List Word} (p : Pred) → Any level m k (record c { op = record (c.op) { attr = attr.Pred p } }) ws
      → Runs level m (symbol.Word class.Predicate ∷ symbol.Do act.Predicate ∷ k) c (onto (attr_doc (attr.Pred p)) ws)
  a-pred pred.Eq runs = word refl (act refl (runs _))
  a-pred pred.Ne runs = word refl (act refl (runs _))
  a-pred pred.Slt runs = word refl (act refl (runs _))
  a-pred pred.Sle runs = word refl (act refl (runs _))
  a-pred pred.Sgt runs = word refl (act refl (runs _))
  a-pred pred.Sge runs = word refl (act refl (runs _))
  a-pred pred.Ult runs = word refl (act refl (runs _))
  a-pred pred.Ule runs = word refl (act refl (runs _))
  a-pred pred.Ugt runs = word refl (act refl (runs _))
  a-pred pred.Uge runs = word refl (act refl (runs _))

  -- a memref behind a colon
  a-memref : {k : List Symbol} {c : Core} {ws : List Word} (t : MemTy) → IsWrittenMemref t → Any level m k (with_read c (ty.Memref t ∷ [])) ws
      → Runs level m (typed_as class.MemrefType ++ k) c (mark 58 ∷ onto (type_doc (ty.Memref t)) ws)
  a-memref t h runs = skip _ refl refl (word refl (word (rw (memref-type t h) refl) (act refl (rw (memref-type t h) (runs _)))))

  a-callee : {k : List Symbol} {c : Core} {ws : List Word} (callee : List ℕ) → AreBytes callee
      → Any level m k (record c { op = record (c.op) { attr = attr.Callee callee } }) ws
      → Runs level m (symbol.Word class.SymbolName ∷ symbol.Do act.Callee ∷ k) c (onto (symbol_doc callee) ws)
  a-callee {k} {c} {ws} callee h runs =
      a-symbol callee ws h (λ w is.
      act refl (subst (λ (n : List ℕ). Runs level m k (with_attr (attr.Callee n) (said w c)) ws) (sym is) (runs _)))

  a-truth : {k : List Symbol} {c : Core} {ws : List Word} → Any level m k (with_read c (ty.Int W1 ∷ [])) ws
      → Runs level m (symbol.Word class.TruthType ∷ symbol.Do act.PlainType ∷ k) c (name (codes "i1") ∷ ws)
  a-truth runs = word (rw (width-type W1) refl) (act refl (rw (width-type W1) (runs _)))

-- what is to follow, where the operation has these
abbrev pub GivesFlat : Level → Module → List Symbol → List Word → Core → OpKind → ℕ → List Name → List ValueNo → List Ty → List Ty → Attr → Type 0
GivesFlat level m k ws c kd at rs vs written ts a = Any level m k (at_op c (op_with kd at rs vs [] written ts a [])) ws

module _ {level : Level} {m : Module} {k : List Symbol} (ws : List Word) (c : Core) (kd : OpKind) (at : ℕ) (rs : List Name) where
  pub binary : (vs : List ValueNo) (t : Ty) → length vs ≡ 2 → Finds c.visible vs → IsWritten t → GivesFlat level m k ws c kd at rs vs (t ∷ t ∷ []) (t ∷ []) attr.None
      → Runs level m (operand ++ comma ++ operand ++ typed ++ doing act.SameTypes ++ k) (at_op c (blank kd at rs)) (onto (values vs) (mark 58 ∷ onto (type_doc t) ws))
  binary (u ∷ v ∷ []) t n f h runs = a-use u _ f.0 refl (λ p. word refl (a-use v _ f.1.0 refl (λ q. a-typed t h (λ r. act refl (runs _)))))
  binary [] t n f h runs = absurd (omega arith)
  binary (u ∷ []) t n f h runs = absurd (omega arith)
  binary (u ∷ v ∷ w ∷ vs) t n f h runs = absurd (omega arith)

  pub ternary : (vs : List ValueNo) (t : Ty) → length vs ≡ 3 → Finds c.visible vs → IsWritten t → GivesFlat level m k ws c kd at rs vs (t ∷ t ∷ []) (t ∷ []) attr.None
      → Runs level m (operand ++ comma ++ operand ++ comma ++ operand ++ typed ++ doing act.SameTypes ++ k) (at_op c (blank kd at rs)) (onto (values vs) (mark 58 ∷ onto (type_doc t) ws))
  ternary (u ∷ v ∷ w ∷ []) t n f h runs =
      a-use u _ f.0 refl (λ p. word refl (a-use v _ f.1.0 refl (λ q. word refl (a-use w _ f.1.1.0 refl (λ x. a-typed t h (λ r. act refl (runs _)))))))
  ternary [] t n f h runs = absurd (omega arith)
  ternary (u ∷ []) t n f h runs = absurd (omega arith)
  ternary (u ∷ v ∷ []) t n f h runs = absurd (omega arith)
  ternary (u ∷ v ∷ w ∷ x ∷ vs) t n f h runs = absurd (omega arith)

  pub compare : (vs : List ValueNo) (p : Pred) (t : Ty) → length vs ≡ 2 → Finds c.visible vs → IsWritten t
      → GivesFlat level m k ws c kd at rs vs (t ∷ t ∷ []) (ty.Int W1 ∷ []) (attr.Pred p)
      → Runs level m (token class.Predicate ++ doing act.Predicate ++ comma ++ operand ++ comma ++ operand ++ typed ++ doing act.Twice ++ doing act.TruthResult ++ k)
      (at_op c (blank kd at rs)) (onto (attr_doc (attr.Pred p)) (mark 44 ∷ onto (values vs) (mark 58 ∷ onto (type_doc t) ws)))
  compare (u ∷ v ∷ []) p t n f h runs =
      a-pred p (λ x. word refl
      (a-use u _ f.0 refl (λ y. word refl (a-use v _ f.1.0 refl (λ z. a-typed t h (λ q. act refl (act refl (runs _))))))))
  compare [] p t n f h runs = absurd (omega arith)
  compare (u ∷ []) p t n f h runs = absurd (omega arith)
  compare (u ∷ v ∷ w ∷ vs) p t n f h runs = absurd (omega arith)

  pub truth : (b : Bool) → GivesFlat level m k ws c kd at rs [] [] (ty.Int W1 ∷ []) (attr.Truth b)
      → Runs level m (symbol.Rule rule.Literal ∷ k) (at_op c (blank kd at rs)) (onto (attr_doc (attr.Truth b)) ws)
  truth true runs = line _ refl (act refl (act refl (runs _)))
  truth false runs = line _ refl (act refl (act refl (runs _)))

  pub literal : (b : Bool) (n : ℕ) (t : Ty) → n < 2 ^ 64 → (b ≡ true → n ≤ 2 ^ 63) → IsWritten t → GivesFlat level m k ws c kd at rs [] [] (t ∷ []) (attr.Literal b n)
      → Runs level m (symbol.Rule rule.Literal ∷ k) (at_op c (blank kd at rs)) (onto (attr_doc (attr.Literal b n)) (mark 58 ∷ onto (type_doc t) ws))
  literal false n t small low h runs =
      line (line_of class.Number (doing act.Literal ++ typed ++ doing act.Results)) (rw (number-back n small) refl) (act refl (rw (number-back n small) (a-typed t h (λ p. act refl (runs _)))))
  literal true n t small low h runs =
      line _ refl (word (rw (number-back n small, le-leb n 9223372036854775808 (low refl)) refl)
      (act refl (rw (number-back n small) (a-typed t h (λ p. act refl (runs _))))))

  pub cast : (vs : List ValueNo) (t u : Ty) → length vs ≡ 1 → Finds c.visible vs → IsWritten t → IsWritten u → GivesFlat level m k ws c kd at rs vs (t ∷ []) (u ∷ []) attr.None
      → Runs level m (operand ++ typed ++ doing act.Written ++ keyword_of key.To ++ part rule.Type ++ doing act.Results ++ k) (at_op c (blank kd at rs))
      (onto (values vs) (mark 58 ∷ onto (type_doc t) (name (codes "to") ∷ onto (type_doc u) ws)))
  cast (v ∷ []) t u n f h i runs =
      a-use v _ f.0 refl (λ p. a-typed t h (λ q. act refl (word refl (a-type u i (λ r. act refl (runs _))))))
  cast [] t u n f h i runs = absurd (omega arith)
  cast (v ∷ w ∷ vs) t u n f h i runs = absurd (omega arith)

  pub add_to_group : (vs : List ValueNo) (t : Ty) → length vs ≡ 2 → Finds c.visible vs → IsWritten t → GivesFlat level m k ws c kd at rs vs (t ∷ []) (ty.Index ∷ []) attr.None
      → Runs level m (operand ++ comma ++ operand ++ typed ++ doing act.Written ++ doing act.IndexResult ++ k) (at_op c (blank kd at rs))
      (onto (values vs) (mark 58 ∷ onto (type_doc t) ws))
  add_to_group (u ∷ v ∷ []) t n f h runs = a-use u _ f.0 refl (λ p. word refl (a-use v _ f.1.0 refl (λ q. a-typed t h (λ r. act refl (act refl (runs _))))))
  add_to_group [] t n f h runs = absurd (omega arith)
  add_to_group (u ∷ []) t n f h runs = absurd (omega arith)
  add_to_group (u ∷ v ∷ w ∷ vs) t n f h runs = absurd (omega arith)

  pub await : (vs : List ValueNo) (t : Ty) → length vs ≡ 1 → Finds c.visible vs → IsWritten t → GivesFlat level m k ws c kd at rs vs (t ∷ []) (payload_types t) attr.None
      → Runs level m (operand ++ typed ++ doing act.PayloadResult ++ doing act.Written ++ k) (at_op c (blank kd at rs))
      (onto (values vs) (mark 58 ∷ onto (type_doc t) ws))
  await (v ∷ []) t n f h runs = a-use v _ f.0 refl (λ p. a-typed t h (λ q. act refl (act refl (runs _))))
  await [] t n f h runs = absurd (omega arith)
  await (u ∷ v ∷ vs) t n f h runs = absurd (omega arith)

  pub await_all : (vs : List ValueNo) → length vs ≡ 1 → Finds c.visible vs → Stops ws → GivesFlat level m k ws c kd at rs vs [] [] attr.None
      → Runs level m (operand ++ k) (at_op c (blank kd at rs)) (onto (values vs) ws)
  await_all (v ∷ []) n f stops runs = a-use v ws f.0 (stops-plain ws stops) (λ p. runs _)
  await_all [] n f stops runs = absurd (omega arith)
  await_all (u ∷ v ∷ vs) n f stops runs = absurd (omega arith)

  pub create_group : (vs : List ValueNo) → length vs ≡ 1 → Finds c.visible vs → GivesFlat level m k ws c kd at rs vs [] (ty.Group ∷ []) attr.None
      → Runs level m (operand ++ typed_as class.GroupType ++ doing act.Results ++ k) (at_op c (blank kd at rs))
      (onto (values vs) (mark 58 ∷ onto (type_doc ty.Group) ws))
  create_group (v ∷ []) n f runs =
      a-use v _ f.0 refl (λ p. skip _ refl refl (word refl (word (rw group-type refl) (act refl (rw group-type (act refl (runs _)))))))
  create_group [] n f runs = absurd (omega arith)
  create_group (u ∷ v ∷ vs) n f runs = absurd (omega arith)

  pub assert : (vs : List ValueNo) (text : List ℕ) → length vs ≡ 1 → Finds c.visible vs → AreBytes text → GivesFlat level m k ws c kd at rs vs [] [] (attr.Text text)
      → Runs level m (operand ++ comma ++ token class.Message ++ doing act.Message ++ k) (at_op c (blank kd at rs))
      (onto (values vs) (mark 44 ∷ onto (attr_doc (attr.Text text)) ws))
  assert (v ∷ []) text n f h runs = a-use v _ f.0 refl (λ p. word refl (word refl (act refl (rw (string-back text h) (runs _)))))
  assert [] text n f h runs = absurd (omega arith)
  assert (u ∷ v ∷ vs) text n f h runs = absurd (omega arith)

  pub alloc : (vs : List ValueNo) (t : MemTy) → Finds c.visible vs → IsWrittenMemref t → GivesFlat level m k ws c kd at rs vs [] (ty.Memref t ∷ []) attr.None
      → Runs level m (paren ++ part rule.Uses ++ close_paren ++ typed_as class.MemrefType ++ doing act.Results ++ k) (at_op c (blank kd at rs))
      (mark 40 ∷ onto (values vs) (mark 41 ∷ mark 58 ∷ onto (type_doc (ty.Memref t)) ws))
  alloc vs t f h runs = word refl (uses 41 vs _ _ f refl (λ p. word refl (a-memref t h (λ q. act refl (runs _)))))

  pub dealloc : (vs : List ValueNo) (t : MemTy) → length vs ≡ 1 → Finds c.visible vs → IsWrittenMemref t → GivesFlat level m k ws c kd at rs vs (ty.Memref t ∷ []) [] attr.None
      → Runs level m (operand ++ typed_as class.MemrefType ++ doing act.Written ++ k) (at_op c (blank kd at rs))
      (onto (values vs) (mark 58 ∷ onto (type_doc (ty.Memref t)) ws))
  dealloc (v ∷ []) t n f h runs = a-use v _ f.0 refl (λ p. a-memref t h (λ q. act refl (runs _)))
  dealloc [] t n f h runs = absurd (omega arith)
  dealloc (u ∷ v ∷ vs) t n f h runs = absurd (omega arith)

  pub dim : (vs : List ValueNo) (t : MemTy) → length vs ≡ 2 → Finds c.visible vs → IsWrittenMemref t → GivesFlat level m k ws c kd at rs vs (ty.Memref t ∷ []) (ty.Index ∷ []) attr.None
      → Runs level m (operand ++ comma ++ operand ++ typed_as class.MemrefType ++ doing act.Written ++ doing act.IndexResult ++ k) (at_op c (blank kd at rs))
      (onto (values vs) (mark 58 ∷ onto (type_doc (ty.Memref t)) ws))
  dim (u ∷ v ∷ []) t n f h runs = a-use u _ f.0 refl (λ p. word refl (a-use v _ f.1.0 refl (λ q. a-memref t h (λ r. act refl (act refl (runs _))))))
  dim [] t n f h runs = absurd (omega arith)
  dim (u ∷ []) t n f h runs = absurd (omega arith)
  dim (u ∷ v ∷ w ∷ vs) t n f h runs = absurd (omega arith)

  pub load : (vs : List ValueNo) (n : ℕ) (t : MemTy) → length vs ≡ n + 1 → Finds c.visible vs → IsWrittenMemref t
      → GivesFlat level m k ws c kd at rs vs (ty.Memref t ∷ []) (cell_of t.elem ∷ []) attr.None
      → Runs level m (operand ++ indices ++ typed_as class.MemrefType ++ doing act.ElementResult ++ doing act.Written ++ k) (at_op c (blank kd at rs))
      (onto (value_at vs 0) (mark 91 ∷ onto (values (drop 1 vs)) (mark 93 ∷ mark 58 ∷ onto (type_doc (ty.Memref t)) ws)))
  load (v ∷ vs) n t e f h runs =
      a-use v _ f.0 refl (λ p. word refl (uses 93 vs _ _ f.1 refl (λ q. word refl (a-memref t h (λ r. act refl (act refl (runs _)))))))
  load [] n t e f h runs = absurd (omega arith)

  pub store : (vs : List ValueNo) (n : ℕ) (t : MemTy) → length vs ≡ n + 2 → Finds c.visible vs → IsWrittenMemref t
      → GivesFlat level m k ws c kd at rs vs (ty.Memref t ∷ []) [] attr.None
      → Runs level m (operand ++ comma ++ operand ++ indices ++ typed_as class.MemrefType ++ doing act.Written ++ k) (at_op c (blank kd at rs))
      (onto (values (take 2 vs)) (mark 91 ∷ onto (values (drop 2 vs)) (mark 93 ∷ mark 58 ∷ onto (type_doc (ty.Memref t)) ws)))
  store (u ∷ v ∷ vs) n t e f h runs =
      a-use u _ f.0 refl (λ x. word refl (a-use v _ f.1.0 refl (λ p. word refl (uses 93 vs _ _ f.1.1 refl (λ q. word refl (a-memref t h (λ r. act refl (runs _))))))))
  store [] n t e f h runs = absurd (omega arith)
  store (u ∷ []) n t e f h runs = absurd (omega arith)

  pub call : (vs : List ValueNo) (callee : List ℕ) (ts us : List Ty) → Finds c.visible vs → AreBytes callee → AreWritten ts → AreWritten us
      → GivesFlat level m k ws c kd at rs vs ts us (attr.Callee callee)
      → Runs level m (arguments ++ arrow ++ part rule.ResultTypes ++ doing act.Results ++ k) (at_op c (blank kd at rs))
      (onto (symbol_doc callee) (mark 40 ∷ onto (values vs) (mark 41 ∷ mark 58 ∷ mark 40 ∷ onto (types ts) (mark 41 ∷ (kind.Arrow, codes "->") ∷ onto (result_types us) ws))))
  call vs callee ts us f h i j runs =
      a-callee callee h (λ w. word refl (uses 41 vs _ _ f refl (λ p. word refl
      (a-listed ts _ _ i refl (λ q. word refl (results us _ _ j (λ r. act refl (runs _))))))))

  pub try_call : (vs : List ValueNo) (callee : List ℕ) (ts : List Ty) → Finds c.visible vs → AreBytes callee → AreWritten ts
      → GivesFlat level m k ws c kd at rs vs ts (ty.Int W1 ∷ []) (attr.Callee callee)
      → Runs level m (arguments ++ arrow ++ token class.TruthType ++ doing act.PlainType ++ doing act.Results ++ k) (at_op c (blank kd at rs))
      (onto (symbol_doc callee) (mark 40 ∷ onto (values vs) (mark 41 ∷ mark 58 ∷ mark 40 ∷ onto (types ts) (mark 41 ∷ (kind.Arrow, codes "->") ∷ name (codes "i1") ∷ ws))))
  try_call vs callee ts f h i runs =
      a-callee callee h (λ w. word refl (uses 41 vs _ _ f refl (λ p. word refl
      (a-listed ts _ _ i refl (λ q. word refl (a-truth (λ r. act refl (runs _))))))))
