-- The machine that reads texts by a table, token by token.
use Rattle.std.specs.Prelude.{cond, List, [], ◌∷◌, ◌++◌, Option, Some, None, Result, Ok, Err}
use Rattle.rule_machine.specs.declared.symbol.Symbol.{Symbol}
use Rattle.rule_machine.specs.declared.symbol.Symbol.TheVariants as symbol
use Rattle.rule_machine.specs.Table.{Table, line_at}

-- the symbols that are left after one more token, and the state
pub record Place (C R A S : Type 0) : Type 0 where
  pub left : List (Symbol C R A)
  pub state : S

-- what a token makes of symbols and a state
abbrev pub step : {C R A T S : Type 0} → Table C R A T S → List (Symbol C R A) → S → T → Option (Place C R A S)
step g [] s t = None
step g (symbol.Word c ∷ k) s t = cond (g.accepts c s t) (Some (record { left = k; state = g.reads c t s })) None
step g (symbol.Do a ∷ k) s t = step g k (g.does a s) t
step g (symbol.Rule r ∷ k) s t = elim (line_at g r s t) [
  | Some l ↦ Some (record { left = l.after ++ k; state = g.reads l.first t s })
  | None ↦ cond (g.may_end r) (step g k s t) None
]

-- the state at the end of the tokens, where what is left may be nothing
abbrev pub close : {C R A T S : Type 0} → Table C R A T S → List (Symbol C R A) → S → Option S
close g [] s = Some s
close g (symbol.Word c ∷ k) s = None
close g (symbol.Do a ∷ k) s = close g k (g.does a s)
close g (symbol.Rule r ∷ k) s = cond (g.may_end r) (close g k s) None

abbrev pub closed : {T S : Type 0} → Option S → Result S (List T)
closed (Some s) = Ok s
closed None = Err []

-- the last state, or the tokens from the first on that doesn't fit
abbrev pub run : {C R A T S : Type 0} → Table C R A T S → List (Symbol C R A) → S → List T → Result S (List T)
run g k s [] = closed (close g k s)
run g k s (t ∷ ts) = elim (step g k s t) [
  | Some p ↦ run g p.left p.state ts
  | None ↦ Err (t ∷ ts)
]
