-- Parts of the acts.
use Rattle.std.specs.Prelude.{◌++◌, ◌∷◌, []}
use Rattle.low_grammar.specs.declared.state.State.{State}

-- the function defines the register that the last token names
abbrev pub with_defined : State → State
with_defined s = record s { defined = s.defined ++ s.last.text ∷ [] }
