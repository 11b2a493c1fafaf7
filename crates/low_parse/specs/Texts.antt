-- What a reader of lowered texts answers.
use Rattle.std.specs.Prelude.{◌≡◌, ℕ, true, false, List, [], ◌∷◌, length, Result, Ok, Err}
use Rattle.low_forms.specs.declared.code.LowModule.{LowModule}
use Rattle.mlir_text.specs.Texts.{HasLexFault}
use Rattle.mlir_text.specs.Tokens.{AreTokensOf}
use Rattle.module_grammar.specs.declared.state.TextToken.{TextToken}
use Rattle.low_grammar.specs.declared.named.NamedFunc.{NamedFunc}
use Rattle.low_grammar.specs.Texts.{reading}
use Rattle.low_names.specs.Numbers.{code_of}
use Rattle.low_parse.specs.Scopes.{have_numbers}
use Rattle.low_parse.specs.declared.fault.LowFault.{LowFault}
use Rattle.low_parse.specs.declared.fault.LowFault.TheVariants.{Lex, Syntax, TooManyNames, OutOfMemory}

-- the bytes are cut into tokens that are read as functions, of which each name has a number, and which stand for the code
pub record IsLowTextOf (text : List ℕ) (code : LowModule) : Type 0 where
  pub text_tokens : List TextToken
  pub cut : AreTokensOf text text_tokens
  pub funcs : List NamedFunc
  pub read : reading text_tokens ≡ Ok funcs
  pub numbered : have_numbers funcs ≡ true
  pub stands : code ≡ code_of funcs

-- the byte at which the first of the tokens begins; where there is none, the end of the text
abbrev pub place_of : List ℕ → List TextToken → ℕ
place_of text [] = length text
place_of text (t ∷ ts) = t.at

-- the bytes are cut into tokens, of which the first that is refused begins at this byte
pub record HasSyntaxFault (text : List ℕ) (at : ℕ) : Type 0 where
  pub text_tokens : List TextToken
  pub cut : AreTokensOf text text_tokens
  pub rest : List TextToken
  pub read : reading text_tokens ≡ Err rest
  pub place : at ≡ place_of text rest

-- the bytes are cut into tokens that are read as functions with more names than there are numbers
pub record HasTooManyNames (text : List ℕ) : Type 0 where
  pub text_tokens : List TextToken
  pub cut : AreTokensOf text text_tokens
  pub funcs : List NamedFunc
  pub read : reading text_tokens ≡ Ok funcs
  pub numbered : have_numbers funcs ≡ false

abbrev pub IsRefused : List ℕ → LowFault → Type 0
IsRefused text (Lex f) = HasLexFault text f
IsRefused text (Syntax at) = HasSyntaxFault text at
IsRefused text TooManyNames = HasTooManyNames text
IsRefused text OutOfMemory = Unit {0}

abbrev pub IsParsed : List ℕ → Result LowModule LowFault → Type 0
IsParsed text (Ok code) = IsLowTextOf text code
IsParsed text (Err f) = IsRefused text f
