-- What an operation whose form was read has, and what may follow it.
use Rattle.std.proofs.Common.{◌≡◌, ℕ, Bool, true, false, cond, not, ◌&&◌, List, [], ◌∷◌, ◌++◌, map, Some, refl, ap, subst, ◌∙◌, bytes_eq}
use Rattle.mlir_lex.specs.declared.kinds.TokenKind.TheVariants as kind
use Rattle.op_table.specs.declared.kind.OpKind.{OpKind}
use Rattle.op_table.specs.declared.rows.Level.{Level}
use Rattle.int_ops.specs.declared.Pred.{Pred}
use Rattle.int_ops.specs.declared.Pred.TheVariants as pred
use Rattle.ir_forms.specs.declared.types.Ty.{Ty}
use Rattle.ir_forms.specs.declared.ops.ValueNo.{ValueNo}
use Rattle.ir_forms.specs.declared.ops.Attr.{Attr}
use Rattle.ir_forms.specs.declared.ops.Attr.TheVariants as attr
use Rattle.ir_forms.specs.declared.ops.Op.{Op, out-Op, roll-out-Op}
use Rattle.ir_forms.specs.declared.ops.Region.{Region}
use Rattle.ir_forms.specs.declared.ops.Module.{Module}
use Rattle.ir_forms.specs.Ops.{kind_of, operands_of, written_of, results_of, attr_of, regions_of}
use Rattle.module_grammar.specs.declared.state.Name.{Name}
use Rattle.module_grammar.specs.declared.state.OpenOp.{OpenOp}
use Rattle.module_grammar.specs.declared.symbols.Class.TheVariants as class
use Rattle.module_grammar.specs.declared.symbols.Rule.TheVariants as rule
use Rattle.module_grammar.specs.declared.symbols.Symbol.{Symbol}
use Rattle.module_grammar.specs.declared.symbols.Symbol.TheVariants as symbol
use Rattle.module_grammar.specs.declared.symbols.Keyword.TheVariants as key
use Rattle.module_grammar.specs.State.{op_of, with_else, values_of}
use Rattle.module_grammar.specs.Rules.{ends, is_hash_name, is_byte, is_name, is_block_name}
use Rattle.module_grammar.specs.Tokens.{symbol_of, predicate_of, word_of}
use Rattle.mlir_print.specs.Docs.{Doc}
use Rattle.mlir_print.specs.Tokens.{symbol as symbol_doc, is_plain, quoted, pred_name}
use Rattle.mlir_print.specs.Printable.{Has, AreBytes, param_types}
use Rattle.round_trip.proofs.Core.{Word, Core, token_of, said}
use Rattle.round_trip.proofs.Machine.{Runs, Any, word}
use Rattle.round_trip.proofs.Docs.{onto, Stops}
use Rattle.round_trip.proofs.Strings.{symbol-back}

-- ---- the open operation

abbrev pub op_with : OpKind → ℕ → List Name → List ValueNo → List ℕ → List Ty → List Ty → Attr → List Region → OpenOp
op_with kind at results operands groups written types a regions = record {
  kind = kind;
  at = at;
  operands = operands;
  groups = groups;
  written = written;
  results = results;
  types = types;
  attr = a;
  regions = regions;
  params = [];
}

-- its name and its results are read
abbrev pub blank : OpKind → ℕ → List Name → OpenOp
blank kind at results = op_with kind at results [] [] [] [] attr.None []

-- everything of it is read, but it has the number of its place
abbrev pub whole : Op → ℕ → List Name → OpenOp
whole o at results = op_with (kind_of o) at results (operands_of o) (out-Op o).groups (written_of o) (out-Op o).types (attr_of o) (regions_of o)

abbrev pub at_op : Core → OpenOp → Core
at_op c o = record c { op = o; read = []; held = [] }

pub whole-is : (o : Op) (n : ℕ) (a : Attr) (groups : List ℕ) (written types : List Ty) (params : List (List Ty)) (at : ℕ) (results : List Name)
    → Has o n a groups written types params
    → whole o at results ≡ op_with (kind_of o) at results (operands_of o) groups written types a (regions_of o)
whole-is o n a groups written types params at results has = rw (has.attr_is, has.groups_are, has.written_are, has.types_are) refl

-- likewise with the kind and the regions given
pub whole-with : (o : Op) (kd : OpKind) (regions : List Region) (n : ℕ) (a : Attr) (groups : List ℕ) (written types : List Ty) (params : List (List Ty)) (at : ℕ) (results : List Name)
    → kind_of o ≡ kd → regions_of o ≡ regions → Has o n a groups written types params
    → whole o at results ≡ op_with kd at results (operands_of o) groups written types a regions
whole-with o kd regions n a groups written types params at results is are has =
    whole-is o n a groups written types params at results has
    ∙ ap (λ (x : OpKind). op_with x at results (operands_of o) groups written types a (regions_of o)) is
    ∙ ap (λ (x : List Region). op_with kd at results (operands_of o) groups written types a x) are

pub no-regions : (rs : List Region) → map param_types rs ≡ [] → rs ≡ []
no-regions [] e = refl
no-regions (r ∷ rs) e = absurd cc

-- ---- what follows

-- neither a dictionary, a block's name, a location nor an `else` comes, and no list goes on
pub record IsNext (w : Word) : Type 0 where
  pub stops : not (is_hash_name w.0) && not (is_byte 44 w.0) ≡ true
  pub no_dict : is_byte 123 w.0 ≡ false
  pub no_block : is_block_name w.0 ≡ false
  pub no_place : is_name w.0 && bytes_eq w.1 (word_of key.Loc) ≡ false
  pub no_else : is_name w.0 && bytes_eq w.1 (word_of key.Else) ≡ false

abbrev pub NextIs : List Word → Type 0
NextIs [] = Unit {0}
NextIs (w ∷ ws) = IsNext w

-- no `else` comes
abbrev pub HasNoElse : List Word → Type 0
HasNoElse [] = Unit {0}
HasNoElse (w ∷ ws) = (not (is_hash_name w.0) ≡ true) × (is_name w.0 && bytes_eq w.1 (word_of key.Else) ≡ false)

-- The words end the operation that is open, also where names may be held for it.
pub record After (level : Level) (m : Module) (k : List Symbol) (c : Core) (ws : List Word) : Type 0 where
  pub ended : Any level m (ends ++ k) c ws
  pub held : Any level m (symbol.Rule rule.Held ∷ ends ++ k) c ws
  pub stops : Stops ws
  pub no_else : HasNoElse ws

pub after-op : {level : Level} {m : Module} {k : List Symbol} {ws : List Word} (c : Core) (x y : OpenOp) → x ≡ y
    → After level m k (at_op c x) ws → After level m k (at_op c y) ws
after-op {level} {m} {k} {ws} c x y e a = subst (λ (z : OpenOp). After level m k (at_op c z) ws) e a

-- ---- words

pub pred-back : (p : Pred) → predicate_of (token_of (kind.Name, pred_name p)) ≡ Some p
pred-back pred.Eq = refl
pred-back pred.Ne = refl
pred-back pred.Slt = refl
pred-back pred.Sle = refl
pred-back pred.Sgt = refl
pred-back pred.Sge = refl
pred-back pred.Ult = refl
pred-back pred.Ule = refl
pred-back pred.Ugt = refl
pred-back pred.Uge = refl

module _ {level : Level} {m : Module} {k : List Symbol} {c : Core} where
  symbol-case : (name : List ℕ) (ws : List Word) (plain : Bool) → AreBytes name
      → ((w : Word) → symbol_of (token_of w) ≡ name → Runs level m k (said w c) ws)
      → Runs level m (symbol.Word class.SymbolName ∷ k) c
      (onto (cond plain (Doc.Token kind.SymbolName (64 ∷ name)) (Doc.Token kind.SymbolText (64 ∷ quoted name))) ws)
  symbol-case name ws true are runs = word refl (runs _ refl)
  symbol-case name ws false are runs = word refl (runs _ (symbol-back name are))

  pub a-symbol : (name : List ℕ) (ws : List Word) → AreBytes name
      → ((w : Word) → symbol_of (token_of w) ≡ name → Runs level m k (said w c) ws)
      → Runs level m (symbol.Word class.SymbolName ∷ k) c (onto (symbol_doc name) ws)
  a-symbol name ws are runs = symbol-case name ws (is_plain name) are runs

-- what is open will be this operation, once it has the operation's number
pub record Serves (o : Op) (at : ℕ) (results : List Name) (x : OpenOp) : Type 0 where
  pub place : x.at ≡ at
  pub names : x.results ≡ results
  pub makes : op_of (record x { at = (out-Op o).at }) ≡ o

pub serves : (o : Op) (kd : OpKind) (at : ℕ) (rs : List Name) (vs : List ValueNo) (gs : List ℕ) (ws ts : List Ty) (a : Attr) (regions : List Region)
    → kd ≡ kind_of o → vs ≡ operands_of o → gs ≡ (out-Op o).groups → ws ≡ written_of o → values_of rs ≡ results_of o → ts ≡ (out-Op o).types → a ≡ attr_of o
    → with_else kd regions ≡ regions_of o → Serves o at rs (op_with kd at rs vs gs ws ts a regions)
serves o kd at rs vs gs ws ts a regions e1 e2 e3 e4 e5 e6 e7 e8 = record {
  place = refl;
  names = refl;
  makes = rw (e8, e5) (rw (e1, e2, e3, e4, e6, e7) (roll-out-Op o));
}

pub serves-whole : (o : Op) (at : ℕ) (rs : List Name) → values_of rs ≡ results_of o → with_else (kind_of o) (regions_of o) ≡ regions_of o → Serves o at rs (whole o at rs)
serves-whole o at rs e f = serves o (kind_of o) at rs (operands_of o) (out-Op o).groups (written_of o) (out-Op o).types (attr_of o) (regions_of o) refl refl refl refl e refl refl f
