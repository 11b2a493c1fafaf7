-- How many operations and functions a text begins, against its tokens.
use Rattle.std.proofs.Common.{◌≡◌, ◌<◌, ◌≤◌, ℕ, ◌+◌, true, List, [], ◌∷◌, length, Option, Some, None, refl, arith}
use Rattle.op_table.specs.declared.kind.OpKind.{OpKind}
use Rattle.op_table.specs.declared.rows.Level.{Level}
use Rattle.op_table.specs.declared.rows.Level.TheVariants.{Source, Checked, Split, Low}
use Rattle.module_grammar.specs.declared.symbols.Rule.{Rule}
use Rattle.module_grammar.specs.declared.symbols.Rule.TheVariants as rule
use Rattle.module_grammar.specs.declared.symbols.Act.{Act}
use Rattle.module_grammar.specs.declared.symbols.Act.TheVariants as act
use Rattle.module_grammar.specs.declared.state.TextToken.{TextToken}
use Rattle.module_grammar.specs.declared.state.Outer.{Outer}
use Rattle.module_grammar.specs.declared.state.State.{State}
use Rattle.module_grammar.specs.Engine.{Leads}
use Rattle.module_grammar.specs.State.{at_start, last_of, does, add_operands, add_operand, add_results, add_result, close_into, begun_with, numbered_op, numbered_func, begin_op, end_op}
use Rattle.module_grammar.specs.Rules.{grammar, lines}
use Rattle.module_grammar.specs.Texts.{whole}
use Rattle.round_trip.proofs.Weights.{all_lines, is_light, raised-by}

-- ---- what an act begins

abbrev pub begins : Act → ℕ
begins act.BeginFunc = 1
begins act.BeginOp = 1
begins act.HeldResults = 1
begins act.CloseRegion = 1
begins _ = 0

abbrev pub begins_func : Act → ℕ
begins_func act.BeginFunc = 1
begins_func _ = 0

operands-keep : (ts : List TextToken) (s : State) → ((add_operands ts s).begun ≡ s.begun) × ((add_operands ts s).functions ≡ s.functions)
operands-keep [] s = (refl, refl)
operands-keep (t ∷ ts) s = operands-keep ts (add_operand t s)

results-keep : (ts : List TextToken) (s : State) → ((add_results ts s).begun ≡ s.begun) × ((add_results ts s).functions ≡ s.functions)
results-keep [] s = (refl, refl)
results-keep (t ∷ ts) s = results-keep ts (add_result t s)

made-begun : (k : Option OpKind) (n : ℕ) → begun_with k n ≤ 1 + n
made-begun None n = omega arith
made-begun (Some k) n = omega arith

closed-begun : (o : Option Outer) (s : State) → (close_into o s).begun ≤ 1 + s.begun
closed-begun None s = omega arith
closed-begun (Some o) s = made-begun _ s.begun

closed-functions : (o : Option Outer) (s : State) → (close_into o s).functions ≤ 0 + s.functions
closed-functions None s = omega arith
closed-functions (Some o) s = omega arith

op-begun : (n : Option ℕ) (s : State) → (numbered_op n s).begun ≤ 0 + s.begun
op-begun None s = omega arith
op-begun (Some n) s = omega arith

op-functions : (n : Option ℕ) (s : State) → (numbered_op n s).functions ≤ 0 + s.functions
op-functions None s = omega arith
op-functions (Some n) s = omega arith

func-begun : (n : Option ℕ) (s : State) → (numbered_func n s).begun ≤ 0 + s.begun
func-begun None s = omega arith
func-begun (Some n) s = omega arith

func-functions : (n : Option ℕ) (s : State) → (numbered_func n s).functions ≤ 0 + s.functions
func-functions None s = omega arith
func-functions (Some n) s = omega arith

act-begins : (a : Act) (s : State) → (does a s).begun ≤ begins a + s.begun
unfolding does
act-begins act.BeginFunc s = omega arith
act-begins act.BeginOp s = omega arith
act-begins act.HeldResults s = let h = (results-keep s.held (begin_op (end_op (record s { held = [] })))).0 in omega (arith, h)
act-begins act.HeldOperands s = let h = (operands-keep s.held (record s { held = [] })).0 in omega (arith, h)
act-begins act.CloseRegion s = closed-begun (last_of s.outer) s
act-begins act.OpAt s = op-begun s.entry_at s
act-begins act.FuncAt s = func-begun s.entry_at s
act-begins _ s = omega arith

act-begins-func : (a : Act) (s : State) → (does a s).functions ≤ begins_func a + s.functions
unfolding does
act-begins-func act.BeginFunc s = omega arith
act-begins-func act.HeldResults s = let h = (results-keep s.held (begin_op (end_op (record s { held = [] })))).1 in omega (arith, h)
act-begins-func act.HeldOperands s = let h = (operands-keep s.held (record s { held = [] })).1 in omega (arith, h)
act-begins-func act.CloseRegion s = closed-functions (last_of s.outer) s
act-begins-func act.OpAt s = op-functions s.entry_at s
act-begins-func act.FuncAt s = func-functions s.entry_at s
act-begins-func _ s = omega arith

-- ---- the lines

begins-light : (level : Level) (r : Rule) → all_lines (is_light begins) (lines level r) ≡ true
begins-light Source rule.Body = refl
begins-light Checked rule.Body = refl
begins-light Split rule.Body = refl
begins-light Low rule.Body = refl
begins-light Source rule.Form = refl
begins-light Checked rule.Form = refl
begins-light Split rule.Form = refl
begins-light Low rule.Form = refl
begins-light level _ = refl

begins-func-light : (level : Level) (r : Rule) → all_lines (is_light begins_func) (lines level r) ≡ true
begins-func-light Source rule.Body = refl
begins-func-light Checked rule.Body = refl
begins-func-light Split rule.Body = refl
begins-func-light Low rule.Body = refl
begins-func-light Source rule.Form = refl
begins-func-light Checked rule.Form = refl
begins-func-light Split rule.Form = refl
begins-func-light Low rule.Form = refl
begins-func-light level _ = refl

pub few-operations : (level : Level) (s : State) (ts : List TextToken) → Leads (grammar level) whole at_start ts s → s.begun < length ts
few-operations level s ts d =
    let h = raised-by (λ x. x.begun) begins act-begins (λ t x. refl) level (begins-light level) whole at_start ts s d in omega (arith, h)

pub few-functions : (level : Level) (s : State) (ts : List TextToken) → Leads (grammar level) whole at_start ts s → s.functions < length ts
few-functions level s ts d =
    let h = raised-by (λ x. x.functions) begins_func act-begins-func (λ t x. refl) level (begins-func-light level) whole at_start ts s d in omega (arith, h)
