-- The tokens of a printed module are a text that stands for it.
use Rattle.std.proofs.Common.{◌≡◌, ℕ, false, List, [], ◌∷◌, ◌++◌, refl, sym, ap, subst, ◌∙◌, append_assoc, append-nil, codes}
use Rattle.mlir_lex.specs.declared.kinds.TokenKind.TheVariants as kind
use Rattle.op_table.specs.declared.rows.Level.{Level}
use Rattle.ir_forms.specs.declared.ops.Module.{Module}
use Rattle.ir_forms.specs.declared.ops.Func.{Func}
use Rattle.ir_forms.specs.Ops.{ops_of}
use Rattle.module_grammar.specs.declared.state.Name.{Name}
use Rattle.module_grammar.specs.declared.symbols.Class.TheVariants as class
use Rattle.module_grammar.specs.declared.symbols.Rule.TheVariants as rule
use Rattle.module_grammar.specs.declared.symbols.Symbol.TheVariants as symbol
use Rattle.module_grammar.specs.Engine.{Leads}
use Rattle.module_grammar.specs.State.{as_number, up, at_start}
use Rattle.module_grammar.specs.Texts.{whole}
use Rattle.mlir_print.specs.Docs.{◌<>◌, deeper}
use Rattle.mlir_print.specs.Printed.{Printed, next, func_head, printed_region, printed_lines, printed_func, printed_funcs, module_doc}
use Rattle.mlir_print.specs.Printable.{ArePrintable}
use Rattle.round_trip.specs.GivesBack.{IsSmallText, GivesBack, text_tokens}
use Rattle.round_trip.proofs.Beginning.{few-operations, few-functions}
use Rattle.round_trip.proofs.Named.{few-values}
use Rattle.round_trip.proofs.Core.{Word, Core, core}
use Rattle.round_trip.proofs.Machine.{Runs, Any, word, line, skip}
use Rattle.round_trip.proofs.Docs.{onto, onto-is}
use Rattle.mlir_print.proofs.Foldings.{printed_region-out}
use Rattle.round_trip.proofs.Ops.{next-place}
use Rattle.round_trip.proofs.Funcs.{top, func_words, func-on}

-- the end of a text
abbrev end : List Word
end = (kind.End, []) ∷ []

-- what a function prints as
func-out : (f : Func) (last place : ℕ) → next last ≡ place
    → printed_func f last ≡ record {
      doc = func_head f place <> (printed_region f.body false [] place).doc;
      last = (printed_lines (ops_of f.body) (deeper []) place).last;
    }
func-out f last place e = rw e (rw printed_region-out refl)

words-out : (f : Func) (fs : List Func) (last place : ℕ) → next last ≡ place
    → onto (printed_funcs (f ∷ fs) last) end
    ≡ (kind.Name, codes "func.func") ∷ func_words f place (onto (printed_funcs fs (printed_lines (ops_of f.body) (deeper []) place).last) end)
words-out f fs last place e =
    ap (λ (pr : Printed). onto pr.doc (onto (printed_funcs fs pr.last) end)) (func-out f last place e)
    ∙ rw printed_region-out refl

module _ {level : Level} {m : Module} where
  ends-text : (c : Core) → c.funcs ≡ m.funcs → Runs level m [] c []
  ends-text c are = record { goes = λ at joined n s is. (s, Leads.ended s, ap (λ (fs : List Func). record { funcs = fs }) (sym are ∙ sym (ap (λ (x : Core). x.funcs) is)), tt) }

  -- the functions that are left, behind those that were read
  pub all-funcs : (fs gs : List Func) (begun last : ℕ) (seen : List Name) (n : ℕ) → ArePrintable level fs → last ≡ as_number begun → gs ++ fs ≡ m.funcs
      → Any level m (symbol.Rule rule.Funcs ∷ symbol.Word class.End ∷ []) (top gs begun seen n) (onto (printed_funcs fs last) end)
  all-funcs [] gs begun last seen n are counted e p = skip _ refl refl (word refl (ends-text _ (sym (append-nil gs) ∙ e)))
  all-funcs (f ∷ fs) gs begun last seen n are counted e p =
      let place : ℕ = as_number (up begun 1) in
      let inner : ℕ = (printed_lines (ops_of f.body) (deeper []) place).last in
      subst (λ (ws : List Word). Runs level m (symbol.Rule rule.Funcs ∷ symbol.Word class.End ∷ []) (record (top gs begun seen n) { passing = p }) ws)
      (sym (words-out f fs last place (next-place last begun counted)))
      (line _ refl (func-on gs f begun (onto (printed_funcs fs inner) end) are.0 seen n
      (λ after is_last seen n. all-funcs fs (gs ++ f ∷ []) after inner seen n are.1 is_last (append_assoc gs (f ∷ []) fs ∙ e)) _))

  text-runs : (fs : List Func) → ArePrintable level fs → fs ≡ m.funcs → Any level m whole (top [] 0 [] 0) (onto (printed_funcs fs 0) end)
  text-runs [] are e p = skip _ refl refl (word refl (ends-text _ e))
  text-runs (f ∷ fs) are e p =
      let place : ℕ = as_number (up 0 1) in
      let inner : ℕ = (printed_lines (ops_of f.body) (deeper []) place).last in
      subst (λ (ws : List Word). Runs level m whole (record (top [] 0 [] 0) { passing = p }) ws)
      (sym (words-out f fs 0 place (next-place 0 0 refl)))
      (line _ refl (func-on [] f 0 (onto (printed_funcs fs inner) end) are.0 [] 0
      (λ after is_last seen n. all-funcs fs (f ∷ []) after inner seen n are.1 is_last e) _))

pub gives-back : GivesBack
gives-back level m at joined h = subst (λ (ws : List Word). IsSmallText level (text_tokens at joined 0 ws) m) (sym (onto-is (module_doc m) end)) text
  where
    text : IsSmallText level (text_tokens at joined 0 (onto (module_doc m) end)) m
    text =
        let r = (text-runs {level = level} {m = m} m.funcs h refl (core at_start).passing).goes at joined 0 at_start refl in
        (r.0, r.1, r.2, record { operations = few-operations level r.0 _ r.1; functions = few-functions level r.0 _ r.1; values = few-values level r.0 _ r.1 r.3 })
