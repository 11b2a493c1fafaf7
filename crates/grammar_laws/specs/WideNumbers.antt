-- Numbers that are too wide, in terms of texts.
use Rattle.std.specs.Prelude.{◌≡◌, ◌⊎◌, ℕ, Bool, true, ◌||◌, List, [], ◌∷◌, ◌++◌, None, Err}
use Rattle.op_table.specs.declared.rows.Level.{Level}
use Rattle.module_grammar.specs.declared.faults.TextLimits.{TextLimits}
use Rattle.module_grammar.specs.declared.faults.GrammarFault.TheVariants as fault
use Rattle.module_grammar.specs.declared.state.TextToken.{TextToken}
use Rattle.module_grammar.specs.declared.state.DictEntry.TheVariants as entry
use Rattle.module_grammar.specs.Tokens.{is_number_kind}
use Rattle.module_grammar.specs.Rules.{is_byte}
use Rattle.module_grammar.specs.Texts.{BeginsText}
use Rattle.module_grammar.specs.Faults.{LeadsWithin, IsUnknown, parsed}

abbrev pub is_number : TextToken → Bool
is_number t = is_number_kind t.kind

abbrev pub ends_entry : TextToken → Bool
ends_entry t = is_byte 44 t.kind || is_byte 125 t.kind

-- A dictionary's entry `aio.at = N : i64` ends at a token, where N, which stands at this place, isn't below 2^64.
pub record IsWideEntry (limits : TextLimits) (level : Level) (ts : List TextToken) (at : ℕ) : Type 0 where
  pub front : List TextToken
  pub token : TextToken
  pub rest : List TextToken
  pub parts : ts ≡ front ++ token ∷ rest
  pub within : LeadsWithin limits level front
  pub wide : within.place.state.entry ≡ entry.Whole None at
  pub ends : ends_entry token ≡ true
  pub fits : BeginsText level front
  pub refused : BeginsText level (front ++ token ∷ []) → ⊥

-- A number is answered as too wide where no text goes on with it, but with another number, or where it is that of an entry.
abbrev pub TellsWideNumber : Type 0
TellsWideNumber = (limits : TextLimits) (level : Level) (ts : List TextToken) (at : ℕ) → parsed limits level ts ≡ Err (fault.WideNumber at)
    → IsUnknown limits level ts at is_number is_number ⊎ IsWideEntry limits level ts at
