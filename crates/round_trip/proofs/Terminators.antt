-- Terminators are read as what they were printed for: the names behind them are held until what follows tells whose they are.
use Rattle.std.proofs.Common.{◌≡◌, ℕ, ◌+◌, List, [], ◌∷◌, ◌++◌, map, drop, length, refl, sym, ap, subst, ◌∙◌, append_assoc, append-nil, arith}
use Rattle.op_table.specs.declared.kind.OpKind.{OpKind}
use Rattle.op_table.specs.declared.rows.Level.{Level}
use Rattle.ir_forms.specs.declared.types.Ty.{Ty}
use Rattle.ir_forms.specs.declared.ops.Module.{Module}
use Rattle.ir_forms.specs.declared.ops.ValueNo.{ValueNo}
use Rattle.ir_forms.specs.declared.ops.Attr.TheVariants as attr
use Rattle.module_grammar.specs.declared.state.Name.{Name}
use Rattle.module_grammar.specs.declared.symbols.Rule.TheVariants as rule
use Rattle.module_grammar.specs.declared.symbols.Act.TheVariants as act
use Rattle.module_grammar.specs.declared.symbols.Symbol.{Symbol}
use Rattle.module_grammar.specs.declared.symbols.Symbol.TheVariants as symbol
use Rattle.module_grammar.specs.Rules.{operand, part, paren, close_paren, ends}
use Rattle.mlir_print.specs.Docs.{more}
use Rattle.mlir_print.specs.Types.{type_doc}
use Rattle.mlir_print.specs.Tokens.{value}
use Rattle.mlir_print.specs.Forms.{typed_values, value_at}
use Rattle.mlir_print.specs.Printable.{AreWritten, HaveTypes}
use Rattle.round_trip.proofs.Core.{Word, Passing, Core, all_operands}
use Rattle.round_trip.proofs.Machine.{Runs, Any, word, act, line}
use Rattle.round_trip.proofs.Docs.{onto}
use Rattle.round_trip.proofs.Types.{TakesType, type-then, more-types}
use Rattle.round_trip.proofs.Values.{Finds, name_text}
use Rattle.round_trip.proofs.Segments.{mark, with_operands, a-use}
use Rattle.round_trip.proofs.Shapes.{op_with, blank, at_op, After}

operands-are : (vs : List ValueNo) (c : Core) → Finds c.visible vs → all_operands (map name_text vs) c ≡ with_operands c vs
operands-are [] c f = rw append-nil refl
operands-are (v ∷ vs) c f =
    ap (λ (u : ValueNo). all_operands (map name_text vs) (with_operands c (u ∷ []))) f.0
    ∙ operands-are vs (with_operands c (v ∷ [])) f.1 ∙ rw append_assoc refl

takes-held : (level : Level) → TakesType level rule.AfterHeldColon (symbol.Do act.HeldOperands ∷ symbol.Rule rule.MoreTypes ∷ symbol.Do act.Written ∷ [])
takes-held level = record { name = λ c text. refl; bang = λ c text. refl; memref = λ c text. refl }

module _ {level : Level} {m : Module} where
  more-held : {k : List Symbol} (vs : List ValueNo) (c : Core) (ws : List Word)
      → Any level m (symbol.Rule rule.AfterHeldColon ∷ k) (record c { held = c.held ++ map name_text vs }) ws
      → Runs level m (symbol.Rule rule.AfterHeld ∷ k) c (onto (more value vs) (mark 58 ∷ ws))
  more-held [] c ws runs = line _ refl (rw append-nil at (runs (record (c.passing) { last = mark 58 })))
  more-held (v ∷ vs) c ws runs = line _ refl (word refl (act refl (more-held vs _ ws (λ p. rw append_assoc (runs p)))))

  pub held : {k : List Symbol} {ws : List Word} (c : Core) (kd : OpKind) (at : ℕ) (rs : List Name) (us vs : List ValueNo) (ts : List Ty)
      → Finds c.visible vs → AreWritten ts → HaveTypes (length vs) ts
      → After level m k (at_op c (op_with kd at rs (us ++ vs) [] ts [] attr.None [])) ws → (p : Passing)
      → Runs level m (symbol.Rule rule.Held ∷ ends ++ k) (record (at_op c (op_with kd at rs us [] [] [] attr.None [])) { passing = p }) (onto (typed_values vs ts) ws)
  held c kd at rs us [] [] f h i after p = rw append-nil at (after.held p)
  held c kd at rs us [] (t ∷ ts) f h i after p = absurd i
  held c kd at rs us (v ∷ vs) [] f h i after p = absurd i
  held {k} {ws} c kd at rs us (v ∷ vs) (t ∷ ts) f h i after p =
      line _ refl (act refl (more-held vs _ _ (λ q.
      type-then (takes-held level) t h.0 (λ r.
      let now : Core = record (at_op c (op_with kd at rs us [] [] [] attr.None [])) { passing = r; read = t ∷ [] } in
      act refl (subst (λ (x : Core). Runs level m (symbol.Rule rule.MoreTypes ∷ symbol.Do act.Written ∷ ends ++ k) x (onto (more type_doc ts) ws))
      (sym (operands-are (v ∷ vs) now f)) (more-types ts (with_operands now (v ∷ vs)) ws h.1 after.stops (λ s. act refl (after.ended _))))))))

  pub condition : {k : List Symbol} {ws : List Word} (c : Core) (kd : OpKind) (at : ℕ) (rs : List Name) (vs : List ValueNo) (ts : List Ty) (n : ℕ)
      → length vs ≡ 1 + n → Finds c.visible vs → AreWritten ts → HaveTypes n ts
      → After level m k (at_op c (op_with kd at rs vs [] ts [] attr.None [])) ws
      → Runs level m (paren ++ operand ++ close_paren ++ part rule.Held ++ (ends ++ k)) (at_op c (blank kd at rs))
      (mark 40 ∷ onto (value_at vs 0) (mark 41 ∷ onto (typed_values (drop 1 vs) ts) ws))
  condition c kd at rs [] ts n e f h i after = absurd (omega arith)
  condition c kd at rs (v ∷ vs) ts n e f h i after =
      word refl (a-use v _ f.0 refl (λ p. word refl
      (held c kd at rs (v ∷ []) vs ts f.1 h (subst (λ (x : ℕ). HaveTypes x ts) (omega (arith, e)) i) after _)))
