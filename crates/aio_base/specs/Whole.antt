-- What reading all and writing all do to the bytes that a source has left and a sink has taken, where those are told.
use Rattle.std.specs.Prelude.{ℕ, ◌≡◌, ◌+◌, ◌<◌, ◌≤◌, List, [], length, take, drop, ⊤, Option, Some, None}
use Rattle.std.specs.Io.KnownBytes.{Consumes, Appends}
use Rattle.aio_base.specs.Faults.{Rose}
use Rattle.aio_base.specs.declared.errors.ReadAllError.{ReadAllError}
use Rattle.aio_base.specs.declared.errors.ReadAllError.TheVariants.{ReadFault, TooLong, OutOfMemory}

-- all bytes that were left were read, and none is left
abbrev pub ReadsWhole : Option (List ℕ) → Option (List ℕ) → List ℕ → Type 0
ReadsWhole None after all = ⊤
ReadsWhole (Some bytes) after all = (all ≡ bytes) × (after ≡ Some [])

-- more than `limit` bytes were left, and the first limit + 1 of them were read
abbrev pub ReadsPast : Option (List ℕ) → Option (List ℕ) → ℕ → Type 0
ReadsPast None after limit = ⊤
ReadsPast (Some bytes) after limit = (limit < length bytes) × (after ≡ Some (drop (limit + 1) bytes))

-- at most this many first bytes were read
abbrev pub ReadsFront : Option (List ℕ) → Option (List ℕ) → ℕ → Type 0
ReadsFront before after most = (front : List ℕ) × (length front ≤ most) × Consumes before after front

-- what a source tells before and after a call
pub record Told : Type 0 where
  pub left : Option (List ℕ)
  pub left_after : Option (List ℕ)
  pub faults : ℕ
  pub faults_after : ℕ

-- why reading all ended with this error
abbrev pub ReadAllStops : ReadAllError → ℕ → Told → Type 0
ReadAllStops ReadFault limit told = Rose told.faults told.faults_after
ReadAllStops (TooLong stated) limit told = (stated ≡ limit) × ReadsPast told.left told.left_after limit
ReadAllStops OutOfMemory limit told = ⊤

-- the first `written` bytes were taken, and not all
pub record WritesFront (before after : Option (List ℕ)) (bytes : List ℕ) (written : ℕ) : Type 0 where
  pub short : written < length bytes
  pub taken : Appends before after (take written bytes)
