-- What a reader answers: the module that a text stands for, or why it is refused.
use Rattle.std.specs.Prelude.{◌≡◌, ◌⊎◌, ℕ, Bool, true, false, List, Result, Ok, Err}
use Rattle.op_table.specs.declared.rows.Level.{Level}
use Rattle.op_table.specs.declared.rows.Level.TheVariants.{Low}
use Rattle.ir_forms.specs.declared.ops.Module.{Module}
use Rattle.mlir_lex.specs.declared.kinds.LexFault.{LexFault}
use Rattle.mlir_lex.specs.declared.kinds.LexFault.TheVariants as lex
use Rattle.mlir_lex.specs.Answer.{IsFault}
use Rattle.module_grammar.specs.declared.state.TextToken.{TextToken}
use Rattle.module_grammar.specs.declared.faults.TextLimits.{TextLimits}
use Rattle.module_grammar.specs.declared.faults.GrammarFault.{GrammarFault}
use Rattle.module_grammar.specs.declared.faults.GrammarFault.TheVariants as grammar
use Rattle.module_grammar.specs.State.{at_start}
use Rattle.module_grammar.specs.Texts.{whole}
use Rattle.module_grammar.specs.Faults.{IsTextWithin, HasFault, parsed}
use Rattle.mlir_text.specs.declared.fault.TextFault.{TextFault}
use Rattle.mlir_text.specs.declared.fault.TextFault.TheVariants.{Lex, Syntax, UnknownOp, UnknownType, WideNumber, Limit, OutOfMemory}
use Rattle.mlir_text.specs.Tokens.{AreTokensOf}

-- the levels of texts without blocks
abbrev pub is_structured : Level → Bool
is_structured Low = false
is_structured _ = true

-- the bytes are cut into tokens that are a text of the level, within the limits, and stand for the module
abbrev pub IsTextOf : TextLimits → Level → List ℕ → Module → Type 0
IsTextOf limits level text m = (text_tokens : List TextToken) × AreTokensOf text text_tokens × IsTextWithin limits level text_tokens m

-- the bytes are cut into tokens whose first fault is this one
abbrev pub HasGrammarFault : TextLimits → Level → List ℕ → GrammarFault → Type 0
HasGrammarFault limits level text f = (text_tokens : List TextToken) × AreTokensOf text text_tokens × (parsed limits level text_tokens ≡ Err f) × HasFault limits level whole at_start text_tokens f

-- the bytes are cut into no tokens, for this reason
abbrev pub HasLexFault : List ℕ → LexFault → Type 0
HasLexFault text lex.OutOfMemory = ⊥
HasLexFault text f = IsFault text f

-- Why a text is refused. A fault of its tokens stands before all others.
abbrev pub IsRefused : TextLimits → Level → List ℕ → TextFault → Type 0
IsRefused limits level text (Lex f) = HasLexFault text f
IsRefused limits level text (Syntax at) = HasGrammarFault limits level text (grammar.Syntax at)
IsRefused limits level text (UnknownOp at) = HasGrammarFault limits level text (grammar.UnknownOp at)
IsRefused limits level text (UnknownType at) = HasGrammarFault limits level text (grammar.UnknownType at)
IsRefused limits level text (WideNumber at) = HasGrammarFault limits level text (grammar.WideNumber at)
IsRefused limits level text (Limit which at) = HasGrammarFault limits level text (grammar.Limit which at)
IsRefused limits level text OutOfMemory = Unit {0}

abbrev pub IsParsed : TextLimits → Level → List ℕ → Result Module TextFault → Type 0
IsParsed limits level text (Ok m) = IsTextOf limits level text m
IsParsed limits level text (Err f) = IsRefused limits level text f

-- the fault of a text whose tokens have this one
abbrev pub told : GrammarFault → TextFault
told (grammar.Syntax at) = Syntax at
told (grammar.UnknownOp at) = UnknownOp at
told (grammar.UnknownType at) = UnknownType at
told (grammar.WideNumber at) = WideNumber at
told (grammar.Limit which at) = Limit which at

-- the answer to a text, of what its tokens stand for
abbrev pub answer_of : Result Module GrammarFault → Result Module TextFault
answer_of (Ok m) = Ok m
answer_of (Err f) = Err (told f)

-- ---- the laws

-- a text stands for one module
abbrev pub OneModule : Type 0
OneModule = (limits : TextLimits) (level : Level) (text : List ℕ) (m n : Module) → IsTextOf limits level text m → IsTextOf limits level text n → m ≡ n

-- A text has one answer, whatever the memory, where there is enough.
abbrev pub OneAnswer : Type 0
OneAnswer = (limits : TextLimits) (level : Level) (text : List ℕ) (a b : Result Module TextFault)
    → IsParsed limits level text a → IsParsed limits level text b → (a ≡ Err OutOfMemory) ⊎ ((b ≡ Err OutOfMemory) ⊎ (a ≡ b))

-- what stands for a module is read as it, where memory is enough
abbrev pub ReadsTexts : Type 0
ReadsTexts = (limits : TextLimits) (level : Level) (text : List ℕ) (m : Module) (answer : Result Module TextFault)
    → IsTextOf limits level text m → IsParsed limits level text answer → (answer ≡ Ok m) ⊎ (answer ≡ Err OutOfMemory)
