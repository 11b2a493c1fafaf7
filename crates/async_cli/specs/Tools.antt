-- What `tool` owes for each answer.
use Rattle.std.specs.Prelude.{ℕ, ◌≡◌, List, [], Some, None}
use Rattle.aio_base.specs.Whole.{Told}
use Rattle.async_cli.specs.declared.answering.Written.{Written}
use Rattle.async_cli.specs.declared.stops.Stop.TheVariants.{Words, OutOfMemory}
use Rattle.async_cli.specs.declared.tool_stops.ToolStop.{ToolStop}
use Rattle.async_cli.specs.declared.tool_stops.ToolStop.TheVariants.{Shared}
use Rattle.async_cli.specs.declared.words.Command.{Command}
use Rattle.async_cli.specs.declared.words.Command.TheVariants.{Check, Compile, Run, Source, Replay}
use Rattle.async_cli.specs.Words.{Asked, asked_of}
use Rattle.async_cli.specs.Stops.{tool_text, tool_status, status_after}
use Rattle.async_cli.specs.Answers.{Given, Gave, IsWritten}
use Rattle.async_cli.specs.Checks.{CheckCauses, CheckEnds, CompileEnds}
use Rattle.async_cli.specs.Replays.{ReplayCauses, ReplayEnds}
use Rattle.async_cli.specs.Sources.{SourceCauses, SourceEnds}

-- The status and the text of a command's end. `tool` doesn't serve `run`.
abbrev pub CommandEnds : Command → Told → Asked → ℕ → List ℕ → Type 0
CommandEnds Check source asked status text = (status ≡ 0) × CheckEnds source text
CommandEnds Source source asked status text = SourceEnds source asked status text
CommandEnds Replay source asked status text = ReplayEnds source asked status text
CommandEnds Compile source asked status text = (status ≡ 0) × CompileEnds asked.options source text
CommandEnds Run source asked status text = ⊥

-- why a command has no end
abbrev pub CommandCauses : Command → Told → Asked → ToolStop → Type 0
CommandCauses Check source asked cause = CheckCauses source cause
CommandCauses Source source asked cause = SourceCauses source asked cause
CommandCauses Replay source asked cause = ReplayCauses source asked cause
CommandCauses Compile source asked cause = CheckCauses source cause
CommandCauses Run source asked cause = cause ≡ Shared Words

-- The status and the text that are owed for what was given.
pub data ToolOwes (given : Given) : ℕ → List ℕ → Type 0 where
  words : asked_of given.words ≡ None → ToolOwes given (tool_status (Shared Words)) (tool_text [] (Shared Words))
  no_memory : ToolOwes given (tool_status (Shared OutOfMemory)) (tool_text [] (Shared OutOfMemory))
  ended : (asked : Asked) (status : ℕ) (text : List ℕ) → asked_of given.words ≡ Some asked
      → CommandEnds asked.command given.source asked status text → ToolOwes given status text
  stopped : (asked : Asked) (cause : ToolStop) → asked_of given.words ≡ Some asked
      → CommandCauses asked.command given.source asked cause → ToolOwes given (tool_status cause) (tool_text asked.entry cause)

-- What a call owes for its status: the one owed, or one that tells why its text wasn't written.
pub record ToolAnswers (given : Given) (gave : Gave) (after : ℕ) : Type 0 where
  pub status : ℕ
  pub text : List ℕ
  pub written : Written
  pub owed : ToolOwes given status text
  pub told : IsWritten gave text written
  pub is : after ≡ status_after status written
