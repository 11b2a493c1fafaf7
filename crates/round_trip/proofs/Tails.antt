-- The end of an operation: the dictionary with its number, where it isn't that of its place, and what comes next.
use Rattle.std.proofs.Common.{◌≡◌, ◌<◌, ℕ, ◌^◌, Bool, true, false, cond, not, ◌&&◌, ◌==◌, nat_le, if◌then◌else◌, List, [], ◌∷◌, ◌++◌, Some, None, is_none, codes, decimal, refl, sym, ap, subst, ◌∙◌, arith, eqb-true, bytes_eq}
use Rattle.std.proofs.lemmas.Bool.Decides.{nat_tests}
use Rattle.mlir_lex.specs.declared.kinds.TokenKind.TheVariants as kind
use Rattle.op_table.specs.declared.rows.Level.{Level}
use Rattle.ir_forms.specs.declared.ops.Module.{Module}
use Rattle.module_grammar.specs.declared.state.DictEntry.TheVariants as entry
use Rattle.module_grammar.specs.declared.symbols.Class.TheVariants as class
use Rattle.module_grammar.specs.declared.symbols.Rule.TheVariants as rule
use Rattle.module_grammar.specs.declared.symbols.Act.TheVariants as act
use Rattle.module_grammar.specs.declared.symbols.Keyword.TheVariants as key
use Rattle.module_grammar.specs.declared.symbols.Symbol.{Symbol}
use Rattle.module_grammar.specs.declared.symbols.Symbol.TheVariants as symbol
use Rattle.module_grammar.specs.Engine.{Line}
use Rattle.module_grammar.specs.State.{as_number}
use Rattle.module_grammar.specs.Tokens.{word_of}
use Rattle.module_grammar.specs.Rules.{ends, is_hash_name, is_byte, is_name, doing, line as line_of}
use Rattle.mlir_print.specs.Docs.{Empty, Blank, ◌<>◌}
use Rattle.mlir_print.specs.Printed.{number_dict, op_number}
use Rattle.round_trip.proofs.Core.{Word, Passing, Core, ended_op}
use Rattle.round_trip.proofs.Machine.{Runs, Any, act, line, skip}
use Rattle.round_trip.proofs.Docs.{onto, Stops}
use Rattle.round_trip.proofs.Numbers.{number-back}
use Rattle.round_trip.proofs.Shapes.{After, NextIs, HasNoElse}

-- ---- rules that are over

and-both : (a b : Bool) → a && b ≡ true → (a ≡ true) × (b ≡ true)
and-both true b e = (refl, e)
and-both false b e = absurd cc

pub one-misses : (h b : Bool) (l : Line) → not h ≡ true → b ≡ false → not h && is_none (cond (not h && (b && true)) (Some l) None) ≡ true
one-misses true b l e f = absurd cc
one-misses false b l e f = rw f refl

module _ {level : Level} {m : Module} where
  pub no-dict : {k : List Symbol} {c : Core} (ws : List Word) → NextIs ws → Runs level m k c ws → Runs level m (symbol.Rule rule.OpDict ∷ k) c ws
  no-dict [] next runs = skip [] refl tt runs
  no-dict (w ∷ ws) next runs = skip (w ∷ ws) refl (one-misses (is_hash_name w.0) (is_byte 123 w.0) _ (and-both _ _ next.stops).0 next.no_dict) runs

  pub no-place : {k : List Symbol} {c : Core} (ws : List Word) → NextIs ws → Runs level m k c ws → Runs level m (symbol.Rule rule.Location ∷ k) c ws
  no-place [] next runs = skip [] refl tt runs
  no-place (w ∷ ws) next runs = skip (w ∷ ws) refl (one-misses (is_hash_name w.0) (is_name w.0 && bytes_eq w.1 (word_of key.Loc)) _ (and-both _ _ next.stops).0 next.no_place) runs

  -- ---- dictionaries

  entry-on : {k : List Symbol} {c : Core} {ws : List Word} (n : ℕ) → n < 2 ^ 64
      → Runs level m (symbol.Rule rule.Dict ∷ k) (record c { passing = record { last = (kind.Digits, decimal n); entry = entry.Numbered (Some n) 0; entry_at = c.passing.entry_at } }) ws
      → c.passing.entry ≡ entry.Equated
      → Runs level m (symbol.Rule rule.Dict ∷ k) c ((kind.Digits, decimal n) ∷ ws)
  entry-on n small runs is = line _ refl (act refl (rw (is, number-back n small) runs))

  pub number-dict : {k : List Symbol} {c : Core} (ws : List Word) (n : ℕ) → n < 2 ^ 32
      → ((p : Passing) → p.entry_at ≡ Some n → Runs level m k (record c { passing = p }) ws)
      → Runs level m (symbol.Do act.BeginDict ∷ symbol.Rule rule.Dict ∷ k) c
      ((kind.Name, codes "aio.at") ∷ (kind.Byte 61, 61 ∷ []) ∷ (kind.Digits, decimal n) ∷ (kind.Byte 58, 58 ∷ []) ∷ (kind.Name, codes "i64") ∷ (kind.Byte 125, 125 ∷ []) ∷ ws)
  number-dict ws n small runs =
      let narrow : nat_le 4294967296 n ≡ false = grind (arith, nat_tests) in
      act refl (line _ refl (act refl (line _ refl (act refl (entry-on n (omega arith)
      (line _ refl (act refl (line _ refl (act refl
      (line (line_of class.EntryClose (doing act.EndEntry)) (rw narrow refl) (act refl (runs _ refl))))))) refl)))))

  -- the dictionary behind an operation
  op-dict : {k : List Symbol} {c : Core} (ws : List Word) (n : ℕ) → n < 2 ^ 32
      → Any level m k (record c { op = record (c.op) { at = n } }) ws
      → Runs level m (symbol.Rule rule.OpDict ∷ k) c (onto (number_dict n) ws)
  op-dict {k} {c} ws n small runs =
      let low : as_number n ≡ n = omega arith in
      line _ refl (number-dict ws n small (λ p is. act refl (rw is (rw low (runs _)))))

-- ---- what follows an operation that is over

-- The words follow the operation that is open: as what comes behind it in its body, and also where names may be held for it.
pub record Follows (level : Level) (m : Module) (k : List Symbol) (c : Core) (ws : List Word) : Type 0 where
  pub body : Any level m (symbol.Rule rule.Body ∷ k) (ended_op c) ws
  pub held : Any level m (symbol.Rule rule.Held ∷ ends ++ k) c ws

next-stops : (ws : List Word) → NextIs ws → Stops ws
next-stops [] next = tt
next-stops (w ∷ ws) next = next.stops

next-no-else : (ws : List Word) → NextIs ws → HasNoElse ws
next-no-else [] next = tt
next-no-else (w ∷ ws) next = ((and-both _ _ next.stops).0, next.no_else)

module _ {level : Level} {m : Module} {k : List Symbol} (c : Core) (ws : List Word) (next : NextIs ws) where
  -- no dictionary is written
  plain-tail : Follows level m k c ws → After level m k c ws
  plain-tail f = record {
    ended = λ p. no-dict ws next (no-place ws next (act refl (f.body p)));
    held = f.held;
    stops = next-stops ws next;
    no_else = next-no-else ws next;
  }

  dict-ends : (n : ℕ) → n < 2 ^ 32 → Follows level m k (record c { op = record (c.op) { at = n } }) ws → Any level m (ends ++ k) c (onto (number_dict n) ws)
  dict-ends n small f p = op-dict ws n small (λ q. no-place ws next (act refl (f.body q)))

  dict-tail : (n : ℕ) → n < 2 ^ 32 → Follows level m k (record c { op = record (c.op) { at = n } }) ws → After level m k c (onto (number_dict n) ws)
  dict-tail n small f = record {
    ended = dict-ends n small f;
    held = λ p. skip _ refl refl (dict-ends n small f p);
    stops = refl;
    no_else = (refl, refl);
  }

  tail-by : (n place : ℕ) (same : Bool) → (n == place) ≡ same → n < 2 ^ 32 → c.op.at ≡ place
      → Follows level m k (record c { op = record (c.op) { at = n } }) ws
      → After level m k c (onto (if same then Empty else Blank <> number_dict n) ws)
  tail-by n place true is small at f =
      let e : record c { op = record (c.op) { at = n } } ≡ c = ap (λ x. record c { op = record (c.op) { at = x } }) (eqb-true n place is ∙ sym at) in
      plain-tail (subst (λ (x : Core). Follows level m k x ws) e f)
  tail-by n place false is small at f = dict-tail n small f

  -- the number of an operation is read, written or not
  pub tail : (n place : ℕ) → n < 2 ^ 32 → c.op.at ≡ place
      → Follows level m k (record c { op = record (c.op) { at = n } }) ws
      → After level m k c (onto (op_number n place) ws)
  tail n place small at f = tail-by n place (n == place) refl small at f
