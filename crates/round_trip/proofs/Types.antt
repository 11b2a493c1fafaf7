-- Printed types are read as what they are.
use Rattle.std.proofs.Common.{◌≡◌, ℕ, List, [], ◌∷◌, ◌++◌, Some, None, codes, refl, ◌∙◌, append_assoc, append-nil}
use Rattle.mlir_lex.specs.declared.kinds.TokenKind.TheVariants as kind
use Rattle.int_ops.specs.declared.Width.{Width}
use Rattle.int_ops.specs.declared.Width.TheVariants.{W1, W8, W16, W32, W64}
use Rattle.op_table.specs.declared.rows.Level.{Level}
use Rattle.ir_forms.specs.declared.types.Ty.{Ty}
use Rattle.ir_forms.specs.declared.types.Ty.TheVariants as ty
use Rattle.ir_forms.specs.declared.types.ValTy.{ValTy}
use Rattle.ir_forms.specs.declared.types.ValTy.TheVariants as val
use Rattle.ir_forms.specs.declared.types.MemTy.{MemTy}
use Rattle.ir_forms.specs.declared.ops.Module.{Module}
use Rattle.module_grammar.specs.declared.symbols.Class.TheVariants as class
use Rattle.module_grammar.specs.declared.symbols.Rule.{Rule}
use Rattle.module_grammar.specs.declared.symbols.Rule.TheVariants as rule
use Rattle.module_grammar.specs.declared.symbols.Act.TheVariants as act
use Rattle.module_grammar.specs.declared.symbols.Symbol.{Symbol}
use Rattle.module_grammar.specs.declared.symbols.Symbol.TheVariants as symbol
use Rattle.module_grammar.specs.Rules.{type_then, less, greater, token, doing, line as line_of}
use Rattle.module_grammar.specs.Tokens.{type_of}
use Rattle.mlir_print.specs.Docs.{more}
use Rattle.mlir_print.specs.Types.{width_name, value_word, memref_text, type_doc, types, result_types}
use Rattle.mlir_print.specs.Printable.{IsWritten, IsWrittenPayload, AreWritten}
use Rattle.round_trip.proofs.Core.{Word, Core, token_of}
use Rattle.round_trip.proofs.Machine.{Runs, Any, line_on, first_fit, word, act, line, skip, stop-skip}
use Rattle.round_trip.proofs.Docs.{onto, Stops}
use Rattle.round_trip.proofs.Memrefs.{memref-back}

-- ---- one token

pub width-type : (w : Width) → type_of (token_of (kind.Name, width_name w)) ≡ Some (ty.Int w)
unfolding type_of
width-type W1 = refl
width-type W8 = refl
width-type W16 = refl
width-type W32 = refl
width-type W64 = refl

index-type : type_of (token_of (kind.Name, codes "index")) ≡ Some ty.Index
unfolding type_of
index-type = refl

token-type : type_of (token_of (kind.BangName, codes "!async.token")) ≡ Some ty.Token
unfolding type_of
token-type = refl

pub group-type : type_of (token_of (kind.BangName, codes "!async.group")) ≡ Some ty.Group
unfolding type_of
group-type = refl

value-type : type_of (token_of (kind.BangName, value_word)) ≡ None
unfolding type_of value_word
value-type = refl

pub memref-type : (m : MemTy) → IsWritten (ty.Memref m) → type_of (token_of (kind.Memref, memref_text m)) ≡ Some (ty.Memref m)
unfolding type_of
memref-type m h = rw (memref-back m h) refl

-- ---- a rule that may begin with a type

-- where a type comes first the rule's lines are these
pub record TakesType (level : Level) (r : Rule) (ss : List Symbol) : Type 0 where
  pub name : (c : Core) (text : List ℕ) → line_on level r c (kind.Name, text) ≡ first_fit (type_then ss) c (kind.Name, text)
  pub bang : (c : Core) (text : List ℕ) → line_on level r c (kind.BangName, text) ≡ first_fit (type_then ss) c (kind.BangName, text)
  pub memref : (c : Core) (text : List ℕ) → line_on level r c (kind.Memref, text) ≡ first_fit (type_then ss) c (kind.Memref, text)

abbrev pub with_read : Core → List Ty → Core
with_read c ts = record c { read = c.read ++ ts }

value-line : {level : Level} {r : Rule} {ss : List Symbol} → TakesType level r ss → (c : Core) → line_on level r c (kind.BangName, value_word)
    ≡ Some (line_of class.ValueType (less ++ token class.Payload ++ doing act.ValueType ++ greater ++ ss))
unfolding value_word
value-line takes c = takes.bang c value_word ∙ rw value-type refl

module _ {level : Level} {m : Module} {r : Rule} {ss k : List Symbol} (takes : TakesType level r ss) where
  plain : {c : Core} {ws : List Word} (t : Ty) (text : List ℕ) → type_of (token_of (kind.Name, text)) ≡ Some t
      → Any level m (ss ++ k) (with_read c (t ∷ [])) ws → Runs level m (symbol.Rule r ∷ k) c ((kind.Name, text) ∷ ws)
  plain {c} t text is runs =
      line (line_of class.PlainType (doing act.PlainType ++ ss)) (takes.name c text ∙ rw is refl)
      (act refl (rw is (runs _)))

  bang : {c : Core} {ws : List Word} (t : Ty) (text : List ℕ) → type_of (token_of (kind.BangName, text)) ≡ Some t
      → Any level m (ss ++ k) (with_read c (t ∷ [])) ws → Runs level m (symbol.Rule r ∷ k) c ((kind.BangName, text) ∷ ws)
  bang {c} t text is runs =
      line (line_of class.PlainType (doing act.PlainType ++ ss)) (takes.bang c text ∙ rw is refl)
      (act refl (rw is (runs _)))

  memref : {c : Core} {ws : List Word} (t : Ty) (text : List ℕ) → type_of (token_of (kind.Memref, text)) ≡ Some t
      → Any level m (ss ++ k) (with_read c (t ∷ [])) ws → Runs level m (symbol.Rule r ∷ k) c ((kind.Memref, text) ∷ ws)
  memref {c} t text is runs =
      line (line_of class.PlainType (doing act.PlainType ++ ss)) (takes.memref c text ∙ rw is refl)
      (act refl (rw is (runs _)))

  value : {c : Core} {ws : List Word} (v : ValTy) → IsWrittenPayload v
      → Any level m (ss ++ k) (with_read c (ty.Value v ∷ [])) ws → Runs level m (symbol.Rule r ∷ k) c (onto (type_doc (ty.Value v)) ws)
  value {c} (val.Int w) h runs =
      line _ (value-line takes c) (word refl (word (rw (width-type w) refl) (act refl (word refl (rw (width-type w) (runs _))))))
  value {c} val.Index h runs =
      line _ (value-line takes c) (word refl (word (rw index-type refl) (act refl (word refl (rw index-type (runs _))))))
  value {c} (val.Memref t) h runs =
      line _ (value-line takes c) (word refl (word (rw (memref-type t h) refl) (act refl (word refl (rw (memref-type t h) (runs _))))))

  -- a rule that may begin with a type reads it
  pub type-then : {c : Core} {ws : List Word} (t : Ty) → IsWritten t
      → Any level m (ss ++ k) (with_read c (t ∷ [])) ws → Runs level m (symbol.Rule r ∷ k) c (onto (type_doc t) ws)
  type-then (ty.Int w) h runs = plain _ _ (width-type w) runs
  type-then ty.Index h runs = plain _ _ index-type runs
  type-then (ty.Memref t) h runs = memref _ _ (memref-type t h) runs
  type-then ty.Token h runs = bang _ _ token-type runs
  type-then (ty.Value v) h runs = value v h runs
  type-then ty.Group h runs = bang _ _ group-type runs
  type-then ty.CoroId h runs = absurd h
  type-then ty.CoroHandle h runs = absurd h
  type-then ty.CoroState h runs = absurd h
  type-then ty.Untyped h runs = absurd h

-- ---- types

takes-type : (level : Level) → TakesType level rule.Type []
takes-type level = record { name = λ c text. refl; bang = λ c text. refl; memref = λ c text. refl }

takes-types : (level : Level) → TakesType level rule.Types (symbol.Rule rule.MoreTypes ∷ [])
takes-types level = record { name = λ c text. refl; bang = λ c text. refl; memref = λ c text. refl }

takes-result-types : (level : Level) → TakesType level rule.ResultTypes []
takes-result-types level = record { name = λ c text. refl; bang = λ c text. refl; memref = λ c text. refl }

module _ {level : Level} {m : Module} where
  pub a-type : {k : List Symbol} {c : Core} {ws : List Word} (t : Ty) → IsWritten t
      → Any level m k (with_read c (t ∷ [])) ws → Runs level m (symbol.Rule rule.Type ∷ k) c (onto (type_doc t) ws)
  a-type t h runs = type-then (takes-type level) t h runs

  pub more-types : {k : List Symbol} (ts : List Ty) (c : Core) (ws : List Word) → AreWritten ts → Stops ws
      → Any level m k (with_read c ts) ws → Runs level m (symbol.Rule rule.MoreTypes ∷ k) c (onto (more type_doc ts) ws)
  more-types [] c ws h stops runs = stop-skip _ ws refl (λ c w. refl) stops (rw append-nil at (runs c.passing))
  more-types (t ∷ ts) c ws h stops runs = line _ refl (a-type t h.0 (λ p. more-types ts _ ws h.1 stops (λ q. rw append_assoc (runs q))))

  -- a list of types where one must stand, which may be empty
  pub some-types : {k : List Symbol} (ts : List Ty) (c : Core) (ws : List Word) → AreWritten ts
      → Any level m k (with_read c ts) ((kind.Byte 41, 41 ∷ []) ∷ ws)
      → Runs level m (symbol.Rule rule.Types ∷ k) c (onto (types ts) ((kind.Byte 41, 41 ∷ []) ∷ ws))
  some-types [] c ws h runs = skip _ refl refl (rw append-nil at (runs c.passing))
  some-types (t ∷ ts) c ws h runs = type-then (takes-types level) t h.0 (λ p. more-types ts _ _ h.1 refl (λ q. rw append_assoc (runs q)))

  pub results : {k : List Symbol} (ts : List Ty) (c : Core) (ws : List Word) → AreWritten ts
      → Any level m k (with_read c ts) ws
      → Runs level m (symbol.Rule rule.ResultTypes ∷ k) c (onto (result_types ts) ws)
  results [] c ws h runs = line _ refl (some-types [] _ ws h (λ p. word refl (runs _)))
  results (t ∷ []) c ws h runs = type-then (takes-result-types level) t h.0 runs
  results (t ∷ u ∷ ts) c ws h runs = line _ refl (some-types (t ∷ u ∷ ts) _ ws h (λ p. word refl (runs _)))
