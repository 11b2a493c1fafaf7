-- The texts of the grammar, the module that each stands for, and the first fault of what is none.
use Rattle.std.specs.Prelude.{◌≡◌, List, [], ◌∷◌, ◌++◌, Result, Ok, Err}
use Rattle.op_table.specs.declared.rows.Level.{Level}
use Rattle.ir_forms.specs.declared.ops.Module.{Module}
use Rattle.module_grammar.specs.declared.symbols.Class.TheVariants as class
use Rattle.module_grammar.specs.declared.symbols.Rule.TheVariants as rule
use Rattle.module_grammar.specs.declared.symbols.Symbol.{Symbol}
use Rattle.module_grammar.specs.declared.symbols.Symbol.TheVariants as symbol
use Rattle.module_grammar.specs.Engine.{Leads, run}
use Rattle.module_grammar.specs.declared.state.TextToken.{TextToken}
use Rattle.module_grammar.specs.declared.state.State.{State}
use Rattle.module_grammar.specs.State.{at_start, module_of}
use Rattle.module_grammar.specs.Rules.{grammar}

-- a text, and its end
abbrev pub whole : List Symbol
whole = symbol.Rule rule.Text ∷ symbol.Word class.End ∷ []

-- The tokens, of which the last is the end, are a text of the level's grammar that stands for the module.
abbrev pub IsText : Level → List TextToken → Module → Type 0
IsText level ts m = (s : State) × Leads (grammar level) whole at_start ts s × (m ≡ module_of s)

-- some text of the level begins with these tokens
abbrev pub BeginsText : Level → List TextToken → Type 0
BeginsText level front = (more : List TextToken) × (m : Module) × IsText level (front ++ more) m

-- where there is a first token, it doesn't fit after the front
abbrev pub DoesntFit : Level → List TextToken → List TextToken → Type 0
DoesntFit level front [] = Unit {0}
DoesntFit level front (t ∷ rest) = BeginsText level (front ++ t ∷ []) → ⊥

-- The tokens are no text, and the rest begins at the first that doesn't fit.
pub record IsFault (level : Level) (ts rest : List TextToken) : Type 0 where
  pub front : List TextToken
  pub parts : ts ≡ front ++ rest
  pub fits : BeginsText level front
  pub no_text : (m : Module) → IsText level ts m → ⊥
  pub refused : DoesntFit level front rest

abbrev pub finished : Result State (List TextToken) → Result Module (List TextToken)
finished (Ok s) = Ok (module_of s)
finished (Err rest) = Err rest

-- what the machine makes of tokens: the module, or the tokens from the first on that it refuses
abbrev pub reading : Level → List TextToken → Result Module (List TextToken)
reading level ts = finished (run (grammar level) whole at_start ts)

-- ---- the laws

-- every text of the grammar is read, as the module that it stands for
abbrev pub ReadsEachText : Type 0
ReadsEachText = (level : Level) (ts : List TextToken) (m : Module) → IsText level ts m → reading level ts ≡ Ok m

-- what is read is a text of the grammar, and stands for that module
abbrev pub ReadsTextsAlone : Type 0
ReadsTextsAlone = (level : Level) (ts : List TextToken) (m : Module) → reading level ts ≡ Ok m → IsText level ts m

-- a text stands for one module
abbrev pub HasOneModule : Type 0
HasOneModule = (level : Level) (ts : List TextToken) (m n : Module) → IsText level ts m → IsText level ts n → m ≡ n

-- what is refused is no text, and is refused at the first token that doesn't fit
abbrev pub FindsFirstFault : Type 0
FindsFirstFault = (level : Level) (ts rest : List TextToken) → reading level ts ≡ Err rest → IsFault level ts rest
