-- What limits count never falls while a text is read.
use Rattle.std.proofs.Common.{◌≤◌, ℕ, List, [], ◌∷◌, ◌++◌, Option, Some, None, arith, le_refl, le_trans}
use Rattle.op_table.specs.declared.kind.OpKind.{OpKind}
use Rattle.op_table.specs.declared.rows.Level.{Level}
use Rattle.module_grammar.specs.declared.symbols.Act.{Act}
use Rattle.module_grammar.specs.declared.symbols.Act.TheVariants as act
use Rattle.module_grammar.specs.declared.symbols.Symbol.{Symbol}
use Rattle.module_grammar.specs.Engine.{Leads}
use Rattle.module_grammar.specs.declared.state.TextToken.{TextToken}
use Rattle.module_grammar.specs.declared.state.Name.{Name}
use Rattle.module_grammar.specs.declared.state.Outer.{Outer}
use Rattle.module_grammar.specs.declared.state.State.{State}
use Rattle.module_grammar.specs.State.{up, count_of, with_names, last_of, does, add_operands, add_operand, add_results, add_result, close_into, begun_with, numbered_op, numbered_func, begin_op, end_op}
use Rattle.module_grammar.specs.Rules.{grammar}

pub record Grew (s s' : State) : Type 0 where
  pub begun : s.begun ≤ s'.begun
  pub functions : s.functions ≤ s'.functions
  pub deepest : s.deepest ≤ s'.deepest
  pub counted : s.counted ≤ s'.counted

pub stays : (s : State) → Grew s s
stays s = record { begun = le_refl _; functions = le_refl _; deepest = le_refl _; counted = le_refl _ }

pub grew-both : (a b c : State) → Grew a b → Grew b c → Grew a c
grew-both a b c h i = record {
  begun = omega (arith, h.begun, i.begun);
  functions = omega (arith, h.functions, i.functions);
  deepest = omega (arith, h.deepest, i.deepest);
  counted = omega (arith, h.counted, i.counted);
}

operands-grew : (ts : List TextToken) (s : State) → Grew s (add_operands ts s)
operands-grew [] s = stays s
operands-grew (t ∷ ts) s =
    grew-both s (add_operand t s) (add_operands ts (add_operand t s))
    (record { begun = le_refl _; functions = le_refl _; deepest = le_refl _; counted = omega arith }) (operands-grew ts (add_operand t s))

results-grew : (ts : List TextToken) (s : State) → Grew s (add_results ts s)
results-grew [] s = stays s
results-grew (t ∷ ts) s =
    grew-both s (add_result t s) (add_results ts (add_result t s))
    (record { begun = le_refl _; functions = le_refl _; deepest = le_refl _; counted = le_refl _ }) (results-grew ts (add_result t s))

begun-grew : (k : Option OpKind) (n : ℕ) → n ≤ begun_with k n
begun-grew None n = le_refl n
begun-grew (Some k) n = omega arith

pub names-grew : (ns : List Name) (n : ℕ) → n ≤ with_names n ns
names-grew [] n = le_refl n
names-grew (x ∷ ns) n = let h = names-grew ns (up n (count_of x.count)) in omega (arith, h)

close-grew : (o : Option Outer) (s : State) → Grew s (close_into o s)
close-grew None s = stays s
close-grew (Some o) s = record { begun = begun-grew _ _; functions = le_refl _; deepest = le_refl _; counted = le_refl _ }

numbered-op-grew : (n : Option ℕ) (s : State) → Grew s (numbered_op n s)
numbered-op-grew None s = stays s
numbered-op-grew (Some n) s = record { begun = le_refl _; functions = le_refl _; deepest = le_refl _; counted = le_refl _ }

numbered-func-grew : (n : Option ℕ) (s : State) → Grew s (numbered_func n s)
numbered-func-grew None s = stays s
numbered-func-grew (Some n) s = record { begun = le_refl _; functions = le_refl _; deepest = le_refl _; counted = le_refl _ }

pub does-grew : (a : Act) (s : State) → Grew s (does a s)
unfolding does
does-grew act.BeginFunc s = record { begun = omega arith; functions = omega arith; deepest = le_refl _; counted = le_refl _ }
does-grew act.OpenBody s = record { begun = le_refl _; functions = le_refl _; deepest = omega arith; counted = le_refl _ }
does-grew act.OpenRegion s = record { begun = le_refl _; functions = le_refl _; deepest = omega arith; counted = le_refl _ }
does-grew act.FuncAt s = numbered-func-grew s.entry_at s
does-grew act.OpAt s = numbered-op-grew s.entry_at s
does-grew act.CloseRegion s = close-grew (last_of s.outer) s
does-grew act.BeginOp s = record { begun = omega arith; functions = le_refl _; deepest = le_refl _; counted = le_refl _ }
does-grew act.HeldOperands s =
    let h = operands-grew s.held (record s { held = [] }) in
    record { begun = h.begun; functions = h.functions; deepest = h.deepest; counted = h.counted }
does-grew act.HeldResults s =
    let h = results-grew s.held (begin_op (end_op (record s { held = [] }))) in
    record { begun = le_trans (omega arith) h.begun; functions = h.functions; deepest = h.deepest; counted = h.counted }
does-grew act.CountNames s = record { begun = le_refl _; functions = le_refl _; deepest = le_refl _; counted = names-grew s.op.results s.counted }
does-grew act.Operand s = record { begun = le_refl _; functions = le_refl _; deepest = le_refl _; counted = omega arith }
does-grew act.Param s = record { begun = le_refl _; functions = le_refl _; deepest = le_refl _; counted = omega arith }
does-grew act.IndexParam s = record { begun = le_refl _; functions = le_refl _; deepest = le_refl _; counted = omega arith }
does-grew act.BlockParam s = record { begun = le_refl _; functions = le_refl _; deepest = le_refl _; counted = omega arith }
does-grew _ s = record { begun = le_refl _; functions = le_refl _; deepest = le_refl _; counted = le_refl _ }

pub leads-grew : (level : Level) (k : List Symbol) (s : State) (ts : List TextToken) (s' : State) → Leads (grammar level) k s ts s' → Grew s s'
leads-grew level _ _ _ _ (Leads.ended s) = stays s
leads-grew level _ _ _ _ (Leads.word c k s t ts s' e d) =
    let h = leads-grew level k (record s { last = t }) ts s' d in record { begun = h.begun; functions = h.functions; deepest = h.deepest; counted = h.counted }
leads-grew level _ _ _ _ (Leads.act a k s ts s' d) = grew-both s (does a s) s' (does-grew a s) (leads-grew level k (does a s) ts s' d)
leads-grew level _ _ _ _ (Leads.line r k s t ts s' l e d) =
    let h = leads-grew level (l.after ++ k) (record s { last = t }) ts s' d in record { begun = h.begun; functions = h.functions; deepest = h.deepest; counted = h.counted }
leads-grew level _ _ _ _ (Leads.nothing r k s ts s' e n d) = leads-grew level k s ts s' d
