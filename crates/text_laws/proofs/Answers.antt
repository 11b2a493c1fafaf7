-- A text has one answer.
use Rattle.std.proofs.Common.{◌≡◌, refl, sym, ◌∙◌, ap, ◌⊎◌, inl, inr, ℕ, List, Result, Ok, Err}
use Rattle.std.proofs.lemmas.Str.{utf8_valid_len-IsValidUpTo}
use Rattle.op_table.specs.declared.rows.Level.{Level}
use Rattle.ir_forms.specs.declared.ops.Module.{Module}
use Rattle.mlir_lex.specs.declared.kinds.Token.{Token}
use Rattle.mlir_lex.specs.declared.kinds.LexFault.{LexFault}
use Rattle.mlir_lex.specs.declared.kinds.LexFault.TheVariants as lex
use Rattle.mlir_lex.specs.Laws.{OneReading}
use Rattle.mlir_lex.specs.Scan.{reading}
use Rattle.module_grammar.specs.declared.state.TextToken.{TextToken}
use Rattle.module_grammar.specs.declared.faults.TextLimits.{TextLimits}
use Rattle.module_grammar.specs.declared.faults.GrammarFault.{GrammarFault}
use Rattle.module_grammar.specs.declared.faults.GrammarFault.TheVariants as grammar
use Rattle.module_grammar.specs.Faults.{parsed, AcceptsExactly}
use Rattle.mlir_text.specs.declared.fault.TextFault.{TextFault}
use Rattle.mlir_text.specs.declared.fault.TextFault.TheVariants.{Lex, Syntax, UnknownOp, UnknownType, WideNumber, Limit, OutOfMemory}
use Rattle.mlir_text.specs.Tokens.{AreTokensOf, text_tokens_of}
use Rattle.mlir_text.specs.Texts.{HasGrammarFault, HasLexFault, IsParsed, told, answer_of, OneModule, OneAnswer, ReadsTexts}

abbrev cut_ok : List Token → Result (List Token) LexFault
cut_ok ts = Ok ts

abbrev cut_err : LexFault → Result (List Token) LexFault
cut_err f = Err f

abbrev read_ok : Module → Result Module TextFault
read_ok m = Ok m

abbrev read_err : TextFault → Result Module TextFault
read_err f = Err f

module _ (one : OneReading) (accepts : AcceptsExactly) (limits : TextLimits) (level : Level) (text : List ℕ) where
  reading_is : (text_tokens : List TextToken) → (are : AreTokensOf text text_tokens) → reading text ≡ Ok are.0
  reading_is text_tokens are = (one text (Ok are.0)).0 are.1.1

  pub one_text_tokens : (ts us : List TextToken) → AreTokensOf text ts → AreTokensOf text us → ts ≡ us
  one_text_tokens ts us are be =
      let both : cut_ok are.0 ≡ cut_ok be.0 = sym (reading_is ts are) ∙ reading_is us be in
      let same : are.0 ≡ be.0 = cc in
      are.2 ∙ ap (text_tokens_of text) same ∙ sym be.2

  -- an answer, and why it is given
  data IsFrom (a : Result Module TextFault) : Type 0 where
    by_grammar : (text_tokens : List TextToken) → AreTokensOf text text_tokens → answer_of (parsed limits level text_tokens) ≡ a → IsFrom a
    by_lex : (f : LexFault) → HasLexFault text f → a ≡ Err (Lex f) → IsFrom a
    by_want : a ≡ Err OutOfMemory → IsFrom a

  grammar_from : (f : GrammarFault) → HasGrammarFault limits level text f → IsFrom (Err (told f))
  grammar_from f has = by_grammar has.0 has.1 (ap answer_of has.2)

  from : (a : Result Module TextFault) → IsParsed limits level text a → IsFrom a
  from (Ok m) (text_tokens, are, is) = by_grammar text_tokens are (ap answer_of ((accepts limits level text_tokens m).1 is))
  from (Err (Lex f)) has = by_lex f has refl
  from (Err (Syntax at)) has = grammar_from (grammar.Syntax at) has
  from (Err (UnknownOp at)) has = grammar_from (grammar.UnknownOp at) has
  from (Err (UnknownType at)) has = grammar_from (grammar.UnknownType at) has
  from (Err (WideNumber at)) has = grammar_from (grammar.WideNumber at) has
  from (Err (Limit which at)) has = grammar_from (grammar.Limit which at) has
  from (Err OutOfMemory) has = by_want refl

  -- tokens and a fault of the tokens don't go together
  no_lex : (text_tokens : List TextToken) → AreTokensOf text text_tokens → (f : LexFault) → HasLexFault text f → ⊥
  no_lex text_tokens are (lex.BadUtf8 at) has = has.0 are.1.0
  no_lex text_tokens are (lex.OpenString at) has = let e : cut_ok are.0 ≡ cut_err (lex.OpenString at) = sym (reading_is text_tokens are) ∙ (one text (Err (lex.OpenString at))).0 has.1 in cc
  no_lex text_tokens are (lex.BadByte at) has = let e : cut_ok are.0 ≡ cut_err (lex.BadByte at) = sym (reading_is text_tokens are) ∙ (one text (Err (lex.BadByte at))).0 has.1 in cc
  no_lex text_tokens are lex.OutOfMemory has = has

  abbrev reads_fault : LexFault → Type 0
  reads_fault f = reading text ≡ Err f

  same_reading : (f g : LexFault) → reads_fault f → reads_fault g → f ≡ g
  same_reading f g d e = let both : cut_err f ≡ cut_err g = sym d ∙ e in cc

  one_lex : (f g : LexFault) → HasLexFault text f → HasLexFault text g → f ≡ g
  one_lex (lex.BadUtf8 at) (lex.BadUtf8 be) has have = ap lex.BadUtf8 (sym (utf8_valid_len-IsValidUpTo text at has.1) ∙ utf8_valid_len-IsValidUpTo text be have.1)
  one_lex (lex.BadUtf8 at) (lex.OpenString be) has have = absurd (has.0 have.0)
  one_lex (lex.BadUtf8 at) (lex.BadByte be) has have = absurd (has.0 have.0)
  one_lex (lex.OpenString at) (lex.BadUtf8 be) has have = absurd (have.0 has.0)
  one_lex (lex.OpenString at) (lex.OpenString be) has have = same_reading _ _ ((one text (Err (lex.OpenString at))).0 has.1) ((one text (Err (lex.OpenString be))).0 have.1)
  one_lex (lex.OpenString at) (lex.BadByte be) has have = same_reading _ _ ((one text (Err (lex.OpenString at))).0 has.1) ((one text (Err (lex.BadByte be))).0 have.1)
  one_lex (lex.BadByte at) (lex.BadUtf8 be) has have = absurd (have.0 has.0)
  one_lex (lex.BadByte at) (lex.OpenString be) has have = same_reading _ _ ((one text (Err (lex.BadByte at))).0 has.1) ((one text (Err (lex.OpenString be))).0 have.1)
  one_lex (lex.BadByte at) (lex.BadByte be) has have = same_reading _ _ ((one text (Err (lex.BadByte at))).0 has.1) ((one text (Err (lex.BadByte be))).0 have.1)
  one_lex (lex.BadUtf8 at) lex.OutOfMemory has have = absurd have
  one_lex (lex.OpenString at) lex.OutOfMemory has have = absurd have
  one_lex (lex.BadByte at) lex.OutOfMemory has have = absurd have
  one_lex lex.OutOfMemory g has have = absurd has

  abbrev Agree : Result Module TextFault → Result Module TextFault → Type 0
  Agree a b = (a ≡ Err OutOfMemory) ⊎ ((b ≡ Err OutOfMemory) ⊎ (a ≡ b))

  agree : (a b : Result Module TextFault) → IsFrom a → IsFrom b → Agree a b
  agree a b (by_want e) g = inl e
  agree a b f (by_want e) = inr (inl e)
  agree a b (by_grammar ts are d) (by_grammar us be e) = inr (inr (sym d ∙ ap (λ text_tokens. answer_of (parsed limits level text_tokens)) (one_text_tokens ts us are be) ∙ e))
  agree a b (by_grammar ts are d) (by_lex f has e) = absurd (no_lex ts are f has)
  agree a b (by_lex f has d) (by_grammar us be e) = absurd (no_lex us be f has)
  agree a b (by_lex f has d) (by_lex g have e) = inr (inr (d ∙ ap (λ h. Err (Lex h)) (one_lex f g has have) ∙ sym e))

  pub answers_agree : (a b : Result Module TextFault) → IsParsed limits level text a → IsParsed limits level text b → Agree a b
  answers_agree a b is be = agree a b (from a is) (from b be)

pub one_answer_lem : OneReading → AcceptsExactly → OneAnswer
one_answer_lem one accepts limits level text a b is be = answers_agree one accepts limits level text a b is be

pub reads_texts_lem : OneReading → AcceptsExactly → ReadsTexts
reads_texts_lem one accepts limits level text m answer is be = by (answers_agree one accepts limits level text (Ok m) answer is be)
  where
    by : (read_ok m ≡ read_err OutOfMemory) ⊎ ((answer ≡ Err OutOfMemory) ⊎ (read_ok m ≡ answer)) → (answer ≡ Ok m) ⊎ (answer ≡ Err OutOfMemory)
    by (inl e) = absurd (let no : read_ok m ≡ read_err OutOfMemory = e in cc)
    by (inr (inl e)) = inr e
    by (inr (inr e)) = inl (sym e)

pub one_module_lem : OneReading → AcceptsExactly → OneModule
one_module_lem one accepts limits level text m n is be = by (answers_agree one accepts limits level text (Ok m) (Ok n) is be)
  where
    by : (read_ok m ≡ read_err OutOfMemory) ⊎ ((read_ok n ≡ read_err OutOfMemory) ⊎ (read_ok m ≡ read_ok n)) → m ≡ n
    by (inl e) = absurd (let no : read_ok m ≡ read_err OutOfMemory = e in cc)
    by (inr (inl e)) = absurd (let no : read_ok n ≡ read_err OutOfMemory = e in cc)
    by (inr (inr e)) = cc
