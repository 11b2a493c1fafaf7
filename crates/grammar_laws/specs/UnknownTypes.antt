-- Unknown types at numbers.
use Rattle.std.specs.Prelude.{◌≡◌, ℕ, true, List, [], ◌∷◌, ◌++◌, Err}
use Rattle.op_table.specs.declared.rows.Level.{Level}
use Rattle.module_grammar.specs.declared.faults.TextLimits.{TextLimits}
use Rattle.module_grammar.specs.declared.faults.GrammarFault.TheVariants as fault
use Rattle.module_grammar.specs.declared.state.TextToken.{TextToken}
use Rattle.module_grammar.specs.Tokens.{is_number_kind}
use Rattle.module_grammar.specs.Rules.{is_name}
use Rattle.module_grammar.specs.Texts.{BeginsText}
use Rattle.module_grammar.specs.Faults.{begins_type, begins_no_type, IsUnknown, parsed}

-- At a number an unknown type is answered too, where a token that begins a type would fit, but not each name, and no number.
abbrev pub FindsUnknownTypeAtNumber : Type 0
FindsUnknownTypeAtNumber = (limits : TextLimits) (level : Level) (ts : List TextToken) (at : ℕ)
    → (u : IsUnknown limits level ts at begins_no_type begins_type) → is_number_kind u.token.kind ≡ true
    → ((n : TextToken) → is_number_kind n.kind ≡ true → BeginsText level (u.front ++ n ∷ []) → ⊥)
    → (name : TextToken) → is_name name.kind ≡ true → (BeginsText level (u.front ++ name ∷ []) → ⊥)
    → parsed limits level ts ≡ Err (fault.UnknownType at)
