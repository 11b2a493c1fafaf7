-- The parts of forms: uses of values, a type behind a colon, types in parentheses.
use Rattle.std.proofs.Common.{◌≡◌, ℕ, false, List, [], ◌∷◌, ◌++◌, refl, append_assoc, append-nil}
use Rattle.mlir_lex.specs.declared.kinds.TokenKind.TheVariants as kind
use Rattle.op_table.specs.declared.rows.Level.{Level}
use Rattle.ir_forms.specs.declared.types.Ty.{Ty}
use Rattle.ir_forms.specs.declared.ops.Module.{Module}
use Rattle.ir_forms.specs.declared.ops.ValueNo.{ValueNo}
use Rattle.module_grammar.specs.declared.symbols.Rule.TheVariants as rule
use Rattle.module_grammar.specs.declared.symbols.Act.TheVariants as act
use Rattle.module_grammar.specs.declared.symbols.Symbol.{Symbol}
use Rattle.module_grammar.specs.declared.symbols.Symbol.TheVariants as symbol
use Rattle.module_grammar.specs.State.{resolved}
use Rattle.module_grammar.specs.Rules.{is_byte, operand, typed, listed}
use Rattle.mlir_print.specs.Docs.{Doc, commas, more}
use Rattle.mlir_print.specs.Types.{type_doc, types}
use Rattle.mlir_print.specs.Tokens.{value}
use Rattle.mlir_print.specs.Printable.{IsWritten, AreWritten}
use Rattle.round_trip.proofs.Core.{Word, Core}
use Rattle.round_trip.proofs.Machine.{Runs, Any, word, act, line, skip, stop-skip, no-index}
use Rattle.round_trip.proofs.Docs.{onto, Stops, Plain, stops-plain}
use Rattle.round_trip.proofs.Types.{with_read, a-type, some-types}
use Rattle.round_trip.proofs.Values.{Finds, name_text}

abbrev pub mark : ℕ → Word
mark b = (kind.Byte b, b ∷ [])

abbrev pub with_operands : Core → List ValueNo → Core
with_operands c vs = record c { op = record (c.op) { operands = c.op.operands ++ vs } }

plain-more : {A : Type 0} (show : A → Doc) (xs : List A) (ws : List Word) → Stops ws → Plain (onto (more show xs) ws)
plain-more show [] ws stops = stops-plain ws stops
plain-more show (x ∷ xs) ws stops = refl

module _ {level : Level} {m : Module} where
  -- a use of a value
  pub a-use : {k : List Symbol} {c : Core} (v : ValueNo) (ws : List Word) → resolved c.visible (name_text v) ≡ v → Plain ws
      → Any level m k (with_operands c (v ∷ [])) ws → Runs level m (operand ++ k) c (onto (value v) ws)
  a-use v ws e plain runs = word refl (act refl (no-index ws plain (rw e (runs _))))

  -- likewise behind its name
  use-on : {k : List Symbol} {c : Core} (v : ValueNo) (ws : List Word) → resolved c.visible (name_text v) ≡ v → Plain ws
      → c.passing.last.1 ≡ name_text v
      → Any level m k (with_operands c (v ∷ [])) ws → Runs level m (symbol.Do act.Operand ∷ symbol.Rule rule.Index ∷ k) c ws
  use-on v ws e plain is runs = act refl (no-index ws plain (rw (is, e) (runs _)))

  pub more-uses : {k : List Symbol} (vs : List ValueNo) (c : Core) (ws : List Word) → Finds c.visible vs → Stops ws
      → Any level m k (with_operands c vs) ws → Runs level m (symbol.Rule rule.MoreUses ∷ k) c (onto (more value vs) ws)
  more-uses [] c ws h stops runs = stop-skip _ ws refl (λ c w. refl) stops (rw append-nil at (runs c.passing))
  more-uses (v ∷ vs) c ws h stops runs =
      line _ refl (a-use v (onto (more value vs) ws) h.0 (plain-more value vs ws stops)
      (λ p. more-uses vs _ ws h.1 stops (λ q. rw append_assoc (runs q))))

  -- uses in brackets, which may be none
  pub uses : {k : List Symbol} (b : ℕ) (vs : List ValueNo) (c : Core) (ws : List Word) → Finds c.visible vs → is_byte 44 (kind.Byte b) ≡ false
      → Any level m k (with_operands c vs) (mark b ∷ ws)
      → Runs level m (symbol.Rule rule.Uses ∷ k) c (onto (commas value vs) (mark b ∷ ws))
  uses b [] c ws h comma runs = skip _ refl refl (rw append-nil at (runs c.passing))
  uses b (v ∷ vs) c ws h comma runs =
      line _ refl (use-on v (onto (more value vs) (mark b ∷ ws)) h.0 (plain-more value vs (mark b ∷ ws) (rw comma refl)) refl
      (λ p. more-uses vs _ (mark b ∷ ws) h.1 (rw comma refl) (λ q. rw append_assoc (runs q))))

  -- a type behind a colon
  pub a-typed : {k : List Symbol} {c : Core} {ws : List Word} (t : Ty) → IsWritten t
      → Any level m k (with_read c (t ∷ [])) ws → Runs level m (typed ++ k) c (mark 58 ∷ onto (type_doc t) ws)
  a-typed t h runs = skip _ refl refl (word refl (a-type t h runs))

  -- types in parentheses behind a colon, which are those of the operands
  pub a-listed : {k : List Symbol} (ts : List Ty) (c : Core) (ws : List Word) → AreWritten ts → c.read ≡ []
      → Any level m k (record c { read = []; op = record (c.op) { written = c.op.written ++ ts } }) ws
      → Runs level m (listed ++ k) c (mark 58 ∷ mark 40 ∷ onto (types ts) (mark 41 ∷ ws))
  a-listed ts c ws h none runs = skip _ refl refl (word refl (word refl (some-types ts _ ws h (λ p. word refl (act refl (rw none (runs _)))))))
