-- The lowered texts, and the code with names that each stands for.
use Rattle.std.specs.Prelude.{◌≡◌, List, [], ◌∷◌, Result, Ok, Err}
use Rattle.module_grammar.specs.declared.state.TextToken.{TextToken}
use Rattle.rule_machine.specs.declared.symbol.Symbol.TheVariants as symbol
use Rattle.rule_machine.specs.Table.{Leads}
use Rattle.rule_machine.specs.Machine.{run}
use Rattle.low_grammar.specs.declared.symbols.Class.TheVariants as class
use Rattle.low_grammar.specs.declared.symbols.Rule.TheVariants as rule
use Rattle.low_grammar.specs.declared.named.NamedFunc.{NamedFunc}
use Rattle.low_grammar.specs.declared.state.State.{State}
use Rattle.low_grammar.specs.State.{at_start}
use Rattle.low_grammar.specs.Rules.{Symbol, grammar}

-- a text, and its end
abbrev pub whole : List Symbol
whole = symbol.Rule rule.Text ∷ symbol.Word class.End ∷ []

-- The tokens, of which the last is the end, are a lowered text that stands for these functions.
abbrev pub IsLowText : List TextToken → List NamedFunc → Type 0
IsLowText ts funcs = (s : State) × Leads grammar whole at_start ts s × (funcs ≡ s.funcs)

abbrev pub finished : Result State (List TextToken) → Result (List NamedFunc) (List TextToken)
finished (Ok s) = Ok s.funcs
finished (Err rest) = Err rest

-- what the machine makes of tokens: the functions, or the tokens from the first on that it refuses
abbrev pub reading : List TextToken → Result (List NamedFunc) (List TextToken)
reading ts = finished (run grammar whole at_start ts)

-- every lowered text is read, as the functions that it stands for
abbrev pub ReadsEachText : Type 0
ReadsEachText = (ts : List TextToken) (funcs : List NamedFunc) → IsLowText ts funcs → reading ts ≡ Ok funcs

-- what is read is a lowered text, and stands for those functions
abbrev pub ReadsTextsAlone : Type 0
ReadsTextsAlone = (ts : List TextToken) (funcs : List NamedFunc) → reading ts ≡ Ok funcs → IsLowText ts funcs

-- a text stands for one list of functions
abbrev pub HasOneCode : Type 0
HasOneCode = (ts : List TextToken) (one other : List NamedFunc) → IsLowText ts one → IsLowText ts other → one ≡ other
