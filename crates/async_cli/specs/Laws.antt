-- What is owed is a function of the words, the bytes and the journal, where each text has one answer of the reader, which is
-- the law `one_answer` of `text_laws`.
use Rattle.std.specs.Prelude.{ℕ, ◌≡◌, ◌≢◌, Bool, true, false, List, Option, Some, None}
use Rattle.step_core.specs.declared.ends.Entry.{Entry}
use Rattle.mlir_text.specs.Texts.{OneAnswer}
use Rattle.async_cli.specs.declared.stops.Stop.{Stop}
use Rattle.async_cli.specs.declared.stops.Stop.TheVariants.{Read, Objects, Tasks, Cells, Stack, Group, Write, OutOfMemory}
use Rattle.async_cli.specs.Answers.{Given}
use Rattle.async_cli.specs.Runs.{Owes}
use Rattle.async_cli.specs.Tools.{ToolOwes}

-- two calls are given the same words, and sources that tell the same bytes
pub record AreAlike (g h : Given) : Type 0 where
  pub words : g.words ≡ h.words
  pub bytes : List ℕ
  pub first : g.source.left ≡ Some bytes
  pub second : h.source.left ≡ Some bytes

-- neither a failed read or write nor want of memory, which nothing that is given decides
abbrev pub is_decided : Stop → Bool
is_decided Read = false
is_decided (Write written) = false
is_decided OutOfMemory = false
is_decided _ = true

-- Nor a limit of a run: where several tasks can take a step, the journal doesn't tell whose step would have passed it.
abbrev pub is_settled : Stop → Bool
is_settled (Objects live) = false
is_settled (Tasks live) = false
is_settled (Cells used) = false
is_settled (Stack depth) = false
is_settled (Group size) = false
is_settled stop = is_decided stop

abbrev pub is_settled_answer : Option Stop → Bool
is_settled_answer None = true
is_settled_answer (Some stop) = is_settled stop

-- decided, of a status
abbrev pub IsDecided : ℕ → Type 0
IsDecided status = (status ≢ 7) × ((status ≢ 8) × (status ≢ 9))

-- `run` owes one answer, one status and one text for the same words, bytes and journal
abbrev pub RunOwesOne : Type 0
RunOwesOne = (g h : Given) (journal : List Entry) (a b : Option Stop) (m n : ℕ) (s t : List ℕ) → AreAlike g h
    → is_settled_answer a ≡ true → is_settled_answer b ≡ true → Owes g journal a m s → Owes h journal b n t
    → (a ≡ b) × ((m ≡ n) × (s ≡ t))

-- `tool` owes one status and one text for the same words and bytes
abbrev pub ToolOwesOne : Type 0
ToolOwesOne = (g h : Given) (a b : ℕ) (s t : List ℕ) → AreAlike g h → IsDecided a → IsDecided b → ToolOwes g a s → ToolOwes h b t
    → (a ≡ b) × (s ≡ t)

abbrev pub OwesOneAnswer : Type 0
OwesOneAnswer = OneAnswer → RunOwesOne × ToolOwesOne
