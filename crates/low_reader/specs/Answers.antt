-- What the reader answers.
use Rattle.std.specs.Prelude.{◌≡◌, ℕ, List, drop, Result, Ok, Err}
use Rattle.module_grammar.specs.declared.state.TextToken.{TextToken}
use Rattle.low_grammar.specs.declared.named.NamedFunc.{NamedFunc}
use Rattle.low_grammar.specs.Texts.{reading}

-- the functions that the tokens are read as, or the place of the first token that is refused
abbrev pub IsReading : List TextToken → Result (List NamedFunc) ℕ → Type 0
IsReading ts (Ok funcs) = reading ts ≡ Ok funcs
IsReading ts (Err at) = reading ts ≡ Err (drop at ts)
