-- Limits, in terms of what was read and of the texts that begin with it.
use Rattle.std.specs.Prelude.{◌≡◌, ◌<◌, ℕ, List, [], ◌∷◌, ◌++◌, Some, Err}
use Rattle.op_table.specs.declared.rows.Level.{Level}
use Rattle.module_grammar.specs.declared.faults.TextLimits.{TextLimits}
use Rattle.module_grammar.specs.declared.faults.Limited.{Limited}
use Rattle.module_grammar.specs.declared.faults.Limited.TheVariants as limited
use Rattle.module_grammar.specs.declared.faults.GrammarFault.TheVariants as fault
use Rattle.module_grammar.specs.declared.state.TextToken.{TextToken}
use Rattle.module_grammar.specs.declared.state.State.{State}
use Rattle.module_grammar.specs.Engine.{Place, Leads}
use Rattle.module_grammar.specs.State.{at_start}
use Rattle.module_grammar.specs.Rules.{grammar}
use Rattle.module_grammar.specs.Texts.{whole, BeginsText}
use Rattle.module_grammar.specs.Faults.{IsWithin, op_place, value_place, reached, refusal, parsed}

-- how many of what a limit counts were read
abbrev pub number : Limited → State → ℕ
number limited.Operations s = s.begun
number limited.Functions s = s.functions
number limited.Depth s = s.deepest
number limited.Values s = s.counted

abbrev pub most : Limited → TextLimits → ℕ
most limited.Operations limits = limits.operations
most limited.Functions limits = limits.functions
most limited.Depth limits = limits.depth
most limited.Values limits = limits.values

-- each of the tokens fits, and so many of what a limit counts were read with them
abbrev pub HasRead : Level → Limited → List TextToken → ℕ → Type 0
HasRead level which front n = (place : Place State) × (reached level whole at_start front ≡ Some place) × (number which place.state ≡ n)

-- every text of the level that begins with these tokens has more than so many
abbrev pub HaveMore : Level → Limited → List TextToken → ℕ → Type 0
HaveMore level which front n =
    (more : List TextToken) (s : State) → Leads (grammar level) whole at_start (front ++ more) s → n < number which s

-- the place at which a token that fits passes a limit
abbrev pub place_of_limit : TextLimits → Limited → State → TextToken → ℕ
place_of_limit limits limited.Operations before t = op_place before t
place_of_limit limits limited.Functions before t = t.at
place_of_limit limits limited.Depth before t = t.at
place_of_limit limits limited.Values before t = value_place limits.values before t

-- what was read with these tokens is within the limits
abbrev pub ReadsWithin : TextLimits → Level → List TextToken → Place State → Type 0
ReadsWithin limits level front place = (reached level whole at_start front ≡ Some place) × IsWithin limits place.state

-- Why a limit is passed at a place. A token fits, with which more was read than the limit, and so has every text that begins with
-- what stands up to it; or no token is left, and the text has more; or a token doesn't fit, and names before it or it itself, which
-- aren't counted yet, pass the limit.
pub data IsPassed (limits : TextLimits) (level : Level) (ts : List TextToken) (which : Limited) (at : ℕ) : Type 0 where
  by_token : (front : List TextToken) (token : TextToken) (rest : List TextToken) (place : Place State) (n : ℕ) → ts ≡ front ++ token ∷ rest
      → ReadsWithin limits level front place → BeginsText level (front ++ token ∷ [])
      → HasRead level which (front ++ token ∷ []) n → most which limits < n
      → HaveMore level which (front ++ token ∷ []) (most which limits)
      → at ≡ place_of_limit limits which place.state token → IsPassed limits level ts which at
  by_end : ((s : State) → Leads (grammar level) whole at_start ts s → most which limits < number which s) → IsPassed limits level ts which at
  by_names : (front : List TextToken) (token : TextToken) (rest : List TextToken) (place : Place State) → ts ≡ front ++ token ∷ rest
      → ReadsWithin limits level front place → BeginsText level front → (BeginsText level (front ++ token ∷ []) → ⊥)
      → refusal limits level place.left place.state token rest ≡ fault.Limit which at → IsPassed limits level ts which at

-- where a limit is answered, it is passed
abbrev pub PassesLimit : Type 0
PassesLimit = (limits : TextLimits) (level : Level) (ts : List TextToken) (which : Limited) (at : ℕ)
    → parsed limits level ts ≡ Err (fault.Limit which at) → IsPassed limits level ts which at
