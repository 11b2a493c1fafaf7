-- The place at which a machine stands.
use Rattle.std.specs.Prelude.{◌≡◌, Bool, true, false, List, [], ◌∷◌, ◌++◌, reverse, Option, Some, None, Err}
use Rattle.op_table.specs.declared.rows.Level.{Level}
use Rattle.module_grammar.specs.declared.machine.stack.Machine.{Machine}
use Rattle.module_grammar.specs.declared.faults.TextLimits.{TextLimits}
use Rattle.module_grammar.specs.declared.faults.GrammarFault.{GrammarFault}
use Rattle.module_grammar.specs.declared.state.TextToken.{TextToken}
use Rattle.module_grammar.specs.declared.state.State.{State}
use Rattle.module_grammar.specs.Engine.{Place}
use Rattle.module_grammar.specs.State.{at_start}
use Rattle.module_grammar.specs.Texts.{whole}
use Rattle.module_grammar.specs.Faults.{reached, walk}

abbrev pub place_of : Machine → Place State
place_of m = record { left = reverse m.stack; state = m.state }

-- before the first token of a text
abbrev pub IsStart : Machine → Type 0
IsStart m = (reverse m.stack ≡ whole) × (m.state ≡ at_start)

-- at the end of the tokens the text is at its end, in this state, or it isn't
abbrev pub IsClosed : Bool → Option State → State → Type 0
IsClosed true end s = end ≡ Some s
IsClosed false end s = end ≡ None

-- at a place, the first of the tokens has a fault
abbrev pub IsStopped : TextLimits → Level → Place State → TextToken → List TextToken → GrammarFault → Type 0
IsStopped limits level before t rest f = walk limits level before.left before.state (t ∷ rest) ≡ Err f

-- from one place the token leads to the other
pub record IsLed (limits : TextLimits) (level : Level) (before after : Place State) (t : TextToken) : Type 0 where
  pub goes_on : (ts : List TextToken) → walk limits level before.left before.state (t ∷ ts) ≡ walk limits level after.left after.state ts
  pub reaches : (front : List TextToken) → reached level whole at_start front ≡ Some before → reached level whole at_start (front ++ t ∷ []) ≡ Some after

-- the token, before these, leads from one place to the other, or has this fault
abbrev pub IsTaken : TextLimits → Level → Place State → Place State → TextToken → List TextToken → Option GrammarFault → Type 0
IsTaken limits level before after t rest (Some f) = IsStopped limits level before t rest f
IsTaken limits level before after t rest None = IsLed limits level before after t
