-- What `tool` owes is a function of what is given, by the stages of each command.
use Rattle.std.proofs.Common.{◌≡◌, ◌≤◌, ◌<◌, ◌⊎◌, ◌+◌, ◌&&◌, ℕ, List, [], length, take, drop, Bool, true, false, nat_le, Option, Some, None, IsSome, MatchOption, Result, Ok, Err, refl, sym, ap, subst, ◌∙◌, inl, inr, arith}
use Rattle.std.proofs.lemmas.Bool.{cases_order}
use Rattle.aio_base.specs.Whole.{Told}
use Rattle.ir_forms.specs.declared.names.TraceEntry.{TraceEntry}
use Rattle.ir_forms.specs.declared.ops.Module.{Module}
use Rattle.mlir_text.specs.Texts.{OneAnswer}
use Rattle.run_journal.specs.declared.faults.TaskLook.{TaskLook}
use Rattle.run_journal.specs.Laws.{OneJournal, OneBadLine, NoJournalWithBadLine, ReplayedOrNamed}
use Rattle.run_journal.specs.Lines.{journal_lines, IsFirstBadLine}
use Rattle.async_cli.specs.declared.stops.Stop.{Stop}
use Rattle.async_cli.specs.declared.stops.Stop.TheVariants as stop
use Rattle.async_cli.specs.declared.tool_stops.ToolStop.{ToolStop}
use Rattle.async_cli.specs.declared.tool_stops.ToolStop.TheVariants.{Shared, BadLine, NotARun, Unfinished}
use Rattle.async_cli.specs.declared.words.Command.{Command}
use Rattle.async_cli.specs.declared.words.Command.TheVariants.{Check, Compile, Run, Source, Replay}
use Rattle.async_cli.specs.Words.{Asked, asked_of}
use Rattle.async_cli.specs.Checks.{Accepts, IsSize, CheckCauses}
use Rattle.async_cli.specs.Inputs.{input_limit, is_heading, IsSplit}
use Rattle.async_cli.specs.Laws.{is_decided, IsDecided, ToolOwesOne}
use Rattle.ir_forms.specs.declared.runs.FuncNo.{FuncNo}
use Rattle.run_report.specs.Source.{has_ended, source_status, source_text}
use Rattle.source_meaning.specs.Sequential.{Means}
use Rattle.async_cli.proofs.OneRace.{one_race}
use Rattle.async_cli.proofs.OneRun.{one_run}
use Rattle.async_cli.specs.Stops.{tool_status, tool_text}
use Rattle.async_cli.specs.Tools.{CommandEnds, CommandCauses, ToolOwes}
use Rattle.arguments.specs.Fits.{Fits}
use Rattle.run_journal.specs.Replay.{first_fault}
use Rattle.run_journal.specs.Within.{replay_within}
use Rattle.run_report.specs.declared.note_list.Note.{Note}
use Rattle.run_report.specs.Notes.{notes_of}
use Rattle.serial_run.specs.Outcomes.{IsUnfinished}
use Rattle.step_core.specs.declared.ends.Entry.{Entry}
use Rattle.step_core.specs.Core.{Core}
use Rattle.step_core.specs.Runs.{IsFinished, and_then}
use Rattle.async_cli.specs.Answers.{Given, text_limit, IsAccepted, ModuleStops, entry_of, EntryStops}
use Rattle.async_cli.specs.Calls.{Call, Code, IsCodeOf, IsListing}
use Rattle.async_cli.specs.Replays.{IsGiven, AreLines, LineStops, EntryListStops, JournalStops, IsReplayed, ReplaysTo, replay_limits, first_bad, ReplayCauses, ReplayEnds}
use Rattle.async_cli.specs.Runs.{start_of}
use Rattle.async_cli.specs.Sources.{IsRace, IsReported, SourceEnds, SourceCauses}
use Rattle.async_cli.proofs.Modules.{CallGives, calls_alike, entry_stop, entry_why, named_stop, one_names, stops_alike, accepted_stays, one_accepted}
use Rattle.async_cli.proofs.Alike.{input_gives, input_stops, one_text, one_asked}
use Rattle.async_cli.proofs.OneCode.{one_code, one_listing}

-- a cause that what is given decides
abbrev pub is_decided_cause : ToolStop → Bool
is_decided_cause (Shared s) = is_decided s
is_decided_cause (BadLine line) = true
is_decided_cause (NotARun number named kept) = true
is_decided_cause (Unfinished entries) = true

-- a status and a text, or a cause
abbrev Reported : Type 0
Reported = Result (ℕ × List ℕ) ToolStop

-- ---- `check` and `compile`

-- what is told of a module is one text
abbrev OneTold : (Module → List ℕ → Type 0) → Type 0
OneTold Tells = (p : Module) (s t : List ℕ) → Tells p s → Tells p t → s ≡ t

-- the bytes are no text of a module that breaks no rule, or the text tells of it
abbrev ModuleGives : (Module → List ℕ → Type 0) → List ℕ → Result (List ℕ) ToolStop → Type 0
ModuleGives Tells bytes r =
    ((s : Stop) × ((is_decided s ≡ true) × (ModuleStops bytes s × (r ≡ Err (Shared s)))))
    ⊎ ((p : Module) × (IsAccepted bytes p × ((t : List ℕ) × (Tells p t × (r ≡ Ok t)))))

abbrev CheckGives : (Module → List ℕ → Type 0) → List ℕ → Result (List ℕ) ToolStop → Type 0
CheckGives Tells bytes r =
    ((text_limit < length bytes) × (r ≡ Err (Shared (stop.TooLong text_limit)))) ⊎ ((length bytes ≤ text_limit) × ModuleGives Tells bytes r)

modules_alike : (Tells : Module → List ℕ → Type 0) → OneTold Tells → OneAnswer → (bytes : List ℕ) (r q : Result (List ℕ) ToolStop) →
    ModuleGives Tells bytes r → ModuleGives Tells bytes q → r ≡ q
modules_alike Tells one law bytes r q a b =
    elim a [
      | inl x ↦ elim b [
        | inl y ↦
            x.1.1.1 ∙ ap (λ s. Err (Shared s)) (stops_alike law bytes x.0 y.0 x.1.0 y.1.0 x.1.1.0 y.1.1.0) ∙ sym y.1.1.1
        | inr y ↦ absurd (accepted_stays law bytes y.0 x.0 x.1.0 y.1.0 x.1.1.0)
      ]
      | inr x ↦ elim b [
        | inl y ↦ absurd (accepted_stays law bytes x.0 y.0 y.1.0 x.1.0 y.1.1.0)
        | inr y ↦
            let same : y.0 ≡ x.0 = one_accepted law bytes y.0 x.0 y.1.0 x.1.0 in
            let tells = subst (λ p. Tells p y.1.1.0) same y.1.1.1.0 in
            x.1.1.1.1 ∙ ap (λ (t : List ℕ). Ok t) (one x.0 x.1.1.0 y.1.1.0 x.1.1.1.0 tells) ∙ sym y.1.1.1.1
      ]
    ]

checks_alike : (Tells : Module → List ℕ → Type 0) → OneTold Tells → OneAnswer → (bytes : List ℕ) (r q : Result (List ℕ) ToolStop) →
    CheckGives Tells bytes r → CheckGives Tells bytes q → r ≡ q
checks_alike Tells one law bytes r q a b =
    elim a [
      | inl x ↦ elim b [ inl y ↦ x.1 ∙ sym y.1 | inr y ↦ absurd (omega (arith, x.0, y.0)) ]
      | inr x ↦ elim b [ inl y ↦ absurd (omega (arith, y.0, x.0)) | inr y ↦ modules_alike Tells one law bytes r q x.1 y.1 ]
    ]

check_ends : (Tells : Module → List ℕ → Type 0) (source : Told) (bytes text : List ℕ) → source.left ≡ Some bytes → Accepts Tells source text →
    CheckGives Tells bytes (Ok text)
check_ends Tells source bytes text told ends =
    let read = input_gives text_limit source bytes ends.bytes told ends.input in
    inr (read.1, inr (ends.program, (subst (λ b. IsAccepted b ends.program) read.0 ends.accepted, (text, (ends.told, refl)))))

check_stops : (Tells : Module → List ℕ → Type 0) (source : Told) (bytes : List ℕ) (cause : ToolStop) → source.left ≡ Some bytes →
    is_decided_cause cause ≡ true → CheckCauses source cause → CheckGives Tells bytes (Err cause)
check_stops Tells source bytes _ told decided (CheckCauses.input s why) =
    let input = input_stops text_limit source bytes s told decided why in inl (input.1, ap (λ s. Err (Shared s)) input.0)
check_stops Tells source bytes _ told decided (CheckCauses.no_module s all input why) =
    let read = input_gives text_limit source bytes all told input in
    inr (read.1, inl (s, (decided, (subst (λ b. ModuleStops b s) read.0 why, refl))))

one_size : OneTold IsSize
one_size p s t a b = a ∙ sym b

-- ---- `replay`

-- what the entries of a journal give
abbrev EntriesGive : Call → Asked → List Entry → Reported → Type 0
EntriesGive c asked entries (Ok told) =
    (code : Code) × (IsCodeOf asked.options c code × IsReplayed code (notes_of c.program) asked.flags entries told.0 told.1)
EntriesGive c asked entries (Err cause) =
    (is_decided_cause cause ≡ true) × ((code : Code) × (IsCodeOf asked.options c code × EntryListStops code entries cause))

abbrev LinesGive : Option (List ℕ) → Call → Asked → Reported → Type 0
LinesGive journal c asked r =
    ((cause : ToolStop) × ((is_decided_cause cause ≡ true) × (LineStops journal cause × (r ≡ Err cause))))
    ⊎ ((entries : List Entry) × (AreLines journal entries × EntriesGive c asked entries r))

abbrev PartsGive : List ℕ → Option (List ℕ) → Asked → Reported → Type 0
PartsGive text journal asked r =
    ((s : Stop) × (CallGives text asked (Err s) × (r ≡ Err (Shared s))))
    ⊎ ((c : Call) × (CallGives text asked (Ok c) × LinesGive journal c asked r))

abbrev SplitGives : List ℕ → Option (List ℕ) → Asked → Reported → Type 0
SplitGives text journal asked r =
    ((text_limit < length text) × (r ≡ Err (Shared (stop.TooLong text_limit)))) ⊎ ((length text ≤ text_limit) × PartsGive text journal asked r)

abbrev ReplayGives : List ℕ → Asked → Reported → Type 0
ReplayGives bytes asked r =
    ((input_limit < length bytes) × (r ≡ Err (Shared (stop.TooLong input_limit))))
    ⊎ ((length bytes ≤ input_limit)
    × ((text : List ℕ) × ((journal : Option (List ℕ)) × (IsSplit bytes text journal × SplitGives text journal asked r))))

-- the laws on journals
pub record Journals : Type 0 where
  pub one_journal : OneJournal
  pub one_bad_line : OneBadLine
  pub no_bad_line : NoJournalWithBadLine
  pub named : ReplayedOrNamed

leads_unnamed : ReplayedOrNamed → (c : Code) (entries : List Entry) (s : Core) → ReplaysTo c entries s → first_bad c entries ≡ None
leads_unnamed law c entries s leads = by (start_of c) refl leads
  where
    by : (o : Option Core) → start_of c ≡ o → and_then (replay_within replay_limits c.low entries) o ≡ Some s → first_bad c entries ≡ None
    by None at is = absurd (cc is)
    by (Some begin) at is =
        ap (and_then (first_fault replay_limits c.low 0 entries)) at
        ∙ subst (λ (o : Option Core). MatchOption o (IsSome (first_fault replay_limits c.low 0 entries begin)) (λ after. first_fault replay_limits c.low 0 entries begin ≡ None)) is
        (law replay_limits c.low 0 entries begin)

-- why entries are no finished run: one is named, or the run isn't finished
abbrev EntryWhy : Code → List Entry → ToolStop → Type 0
EntryWhy c entries cause =
    ((n : ℕ) × ((named : Entry) × ((kept : Option TaskLook) × ((cause ≡ NotARun n named kept) × EntryListStops c entries (NotARun n named kept)))))
    ⊎ ((cause ≡ Unfinished (length entries)) × ((s : Core) × (ReplaysTo c entries s × IsUnfinished s)))

list_why : (c : Code) (entries : List Entry) (cause : ToolStop) → is_decided_cause cause ≡ true → EntryListStops c entries cause →
    EntryWhy c entries cause
list_why c entries (NotARun n named kept) decided why = inl (n, (named, (kept, (refl, why))))
list_why c entries (Unfinished count) decided why = inr (ap Unfinished why.1.1.1, (why.0, (why.1.0, why.1.1.0)))
list_why c entries (BadLine line) decided why = absurd why
list_why c entries (Shared stop.Words) decided why = absurd why
list_why c entries (Shared stop.Read) decided why = absurd why
list_why c entries (Shared (stop.TooLong limit)) decided why = absurd why
list_why c entries (Shared (stop.Module fault)) decided why = absurd why
list_why c entries (Shared stop.NoEntry) decided why = absurd why
list_why c entries (Shared (stop.EntryType op)) decided why = absurd why
list_why c entries (Shared (stop.Args at)) decided why = absurd why
list_why c entries (Shared (stop.Short parked)) decided why = absurd why
list_why c entries (Shared (stop.Objects live)) decided why = absurd why
list_why c entries (Shared (stop.Tasks live)) decided why = absurd why
list_why c entries (Shared (stop.Cells used)) decided why = absurd why
list_why c entries (Shared (stop.Stack depth)) decided why = absurd why
list_why c entries (Shared (stop.Group size)) decided why = absurd why
list_why c entries (Shared (stop.Spent full)) decided why = absurd why
list_why c entries (Shared (stop.Write written)) decided why = absurd why
list_why c entries (Shared stop.OutOfMemory) decided why = absurd (cc decided)

one_end : (c : Code) (entries : List Entry) (s t : Core) → ReplaysTo c entries s → ReplaysTo c entries t → s ≡ t
one_end c entries s t a b = let both : Some s ≡ Some t = sym a ∙ b in cc both

ends_stay : Journals → (c : Code) (notes : List Note) (asked : Asked) (entries : List Entry) (status : ℕ) (text : List ℕ) (cause : ToolStop) →
    IsReplayed c notes asked.flags entries status text → EntryWhy c entries cause → ⊥
ends_stay laws c notes asked entries status text cause ends why =
    elim why [
      | inl x ↦ cc (sym (leads_unnamed laws.named c entries ends.finishes.state ends.within) ∙ x.1.1.1.1)
      | inr x ↦
          let same : ends.finishes.state ≡ x.1.0 = one_end c entries _ _ ends.within x.1.1.0 in
          x.1.1.1 (subst IsFinished same ends.finishes.finished)
    ]

causes_alike : Journals → (c : Code) (entries : List Entry) (x y : ToolStop) → EntryWhy c entries x → EntryWhy c entries y → x ≡ y
causes_alike laws c entries s t a b =
    elim a [
      | inl x ↦ elim b [
        | inl y ↦
            let both = sym x.1.1.1.1 ∙ y.1.1.1.1 in
            let first : s ≡ NotARun x.0 x.1.0 x.1.1.0 = x.1.1.1.0 in
            let second : t ≡ NotARun y.0 y.1.0 y.1.1.0 = y.1.1.1.0 in
            cc
        | inr y ↦ absurd (cc (sym (leads_unnamed laws.named c entries y.1.0 y.1.1.0) ∙ x.1.1.1.1))
      ]
      | inr x ↦ elim b [
        | inl y ↦ absurd (cc (sym (leads_unnamed laws.named c entries x.1.0 x.1.1.0) ∙ y.1.1.1.1))
        | inr y ↦ x.0 ∙ sym y.0
      ]
    ]

entries_run_alike : Journals → (c : Call) (asked : Asked) (entries : List Entry) (r q : Reported) →
    EntriesGive c asked entries r → EntriesGive c asked entries q → r ≡ q
entries_run_alike laws c asked entries (Ok t) (Ok u) a b =
    let same : b.0 ≡ a.0 = one_code asked.options c b.0 a.0 b.1.0 a.1.0 in
    let there = subst (λ k. IsReplayed k (notes_of c.program) asked.flags entries u.0 u.1) same b.1.1 in
    let one = one_text a.0 (notes_of c.program) asked.flags entries t.0 u.0 t.1 u.1 a.1.1.finishes there.finishes in
    ap (λ n. Ok (n, t.1)) one.0 ∙ ap (λ l. Ok (u.0, l)) one.1
entries_run_alike laws c asked entries (Ok t) (Err s) a b =
    let same : b.1.0 ≡ a.0 = one_code asked.options c b.1.0 a.0 b.1.1.0 a.1.0 in
    let stops = subst (λ k. EntryListStops k entries s) same b.1.1.1 in
    absurd (ends_stay laws a.0 (notes_of c.program) asked entries t.0 t.1 s a.1.1 (list_why a.0 entries s b.0 stops))
entries_run_alike laws c asked entries (Err s) (Ok t) a b =
    let same : a.1.0 ≡ b.0 = one_code asked.options c a.1.0 b.0 a.1.1.0 b.1.0 in
    let stops = subst (λ k. EntryListStops k entries s) same a.1.1.1 in
    absurd (ends_stay laws b.0 (notes_of c.program) asked entries t.0 t.1 s b.1.1 (list_why b.0 entries s a.0 stops))
entries_run_alike laws c asked entries (Err s) (Err t) a b =
    let same : b.1.0 ≡ a.1.0 = one_code asked.options c b.1.0 a.1.0 b.1.1.0 a.1.1.0 in
    let stops = subst (λ k. EntryListStops k entries t) same b.1.1.1 in
    ap Err (causes_alike laws a.1.0 entries s t (list_why a.1.0 entries s a.0 a.1.1.1) (list_why a.1.0 entries t b.0 stops))

-- the first line that is no entry
abbrev LineWhy : Option (List ℕ) → ToolStop → Type 0
LineWhy journal cause = (line : ℕ) × ((cause ≡ BadLine line) × LineStops journal (BadLine line))

line_why : (journal : Option (List ℕ)) (cause : ToolStop) → is_decided_cause cause ≡ true → LineStops journal cause → LineWhy journal cause
line_why None (BadLine line) decided why = (line, (refl, why))
line_why None (NotARun n named kept) decided why = absurd why
line_why None (Unfinished count) decided why = absurd why
line_why None (Shared stop.OutOfMemory) decided why = absurd (cc decided)
line_why None (Shared stop.Words) decided why = absurd why
line_why None (Shared stop.Read) decided why = absurd why
line_why None (Shared (stop.TooLong limit)) decided why = absurd why
line_why None (Shared (stop.Module fault)) decided why = absurd why
line_why None (Shared stop.NoEntry) decided why = absurd why
line_why None (Shared (stop.EntryType op)) decided why = absurd why
line_why None (Shared (stop.Args at)) decided why = absurd why
line_why None (Shared (stop.Short parked)) decided why = absurd why
line_why None (Shared (stop.Objects live)) decided why = absurd why
line_why None (Shared (stop.Tasks live)) decided why = absurd why
line_why None (Shared (stop.Cells used)) decided why = absurd why
line_why None (Shared (stop.Stack depth)) decided why = absurd why
line_why None (Shared (stop.Group size)) decided why = absurd why
line_why None (Shared (stop.Spent entries)) decided why = absurd why
line_why None (Shared (stop.Write written)) decided why = absurd why
line_why (Some lines) (BadLine line) decided why = (line, (refl, why))
line_why (Some lines) (NotARun n named kept) decided why = absurd why
line_why (Some lines) (Unfinished count) decided why = absurd why
line_why (Some lines) (Shared stop.OutOfMemory) decided why = absurd (cc decided)
line_why (Some lines) (Shared stop.Words) decided why = absurd why
line_why (Some lines) (Shared stop.Read) decided why = absurd why
line_why (Some lines) (Shared (stop.TooLong limit)) decided why = absurd why
line_why (Some lines) (Shared (stop.Module fault)) decided why = absurd why
line_why (Some lines) (Shared stop.NoEntry) decided why = absurd why
line_why (Some lines) (Shared (stop.EntryType op)) decided why = absurd why
line_why (Some lines) (Shared (stop.Args at)) decided why = absurd why
line_why (Some lines) (Shared (stop.Short parked)) decided why = absurd why
line_why (Some lines) (Shared (stop.Objects live)) decided why = absurd why
line_why (Some lines) (Shared (stop.Tasks live)) decided why = absurd why
line_why (Some lines) (Shared (stop.Cells used)) decided why = absurd why
line_why (Some lines) (Shared (stop.Stack depth)) decided why = absurd why
line_why (Some lines) (Shared (stop.Group size)) decided why = absurd why
line_why (Some lines) (Shared (stop.Spent entries)) decided why = absurd why
line_why (Some lines) (Shared (stop.Write written)) decided why = absurd why

one_line : Journals → (journal : Option (List ℕ)) (m n : ℕ) → LineStops journal (BadLine m) → LineStops journal (BadLine n) → m ≡ n
one_line laws None m n a b = a ∙ sym b
one_line laws (Some lines) m n a b = laws.one_bad_line lines m n a b

no_line : Journals → (journal : Option (List ℕ)) (entries : List Entry) (n : ℕ) → AreLines journal entries → LineStops journal (BadLine n) → ⊥
no_line laws None entries n are bad = cc are.0
no_line laws (Some lines) entries n are bad =
    let same : lines ≡ journal_lines entries = cc are.0 in
    laws.no_bad_line entries n are.1 (subst (λ l. IsFirstBadLine l n) same bad)

one_list : Journals → (journal : Option (List ℕ)) (xs ys : List Entry) → AreLines journal xs → AreLines journal ys → xs ≡ ys
one_list laws journal xs ys a b =
    let both : Some (journal_lines xs) ≡ Some (journal_lines ys) = sym a.0 ∙ b.0 in laws.one_journal xs ys a.1 b.1 (cc both)

lines_alike : Journals → (journal : Option (List ℕ)) (c : Call) (asked : Asked) (r q : Reported) →
    LinesGive journal c asked r → LinesGive journal c asked q → r ≡ q
lines_alike laws journal c asked r q a b =
    elim a [
      | inl x ↦
          let why = line_why journal x.0 x.1.0 x.1.1.0 in
          elim b [
            | inl y ↦
                let also = line_why journal y.0 y.1.0 y.1.1.0 in
                x.1.1.1
                ∙ ap Err (why.1.0 ∙ ap BadLine (one_line laws journal why.0 also.0 why.1.1 also.1.1) ∙ sym also.1.0)
                ∙ sym y.1.1.1
            | inr y ↦ absurd (no_line laws journal y.0 why.0 y.1.0 why.1.1)
          ]
      | inr x ↦ elim b [
        | inl y ↦
            let also = line_why journal y.0 y.1.0 y.1.1.0 in absurd (no_line laws journal x.0 also.0 x.1.0 also.1.1)
        | inr y ↦
            let same : y.0 ≡ x.0 = one_list laws journal y.0 x.0 y.1.0 x.1.0 in
            entries_run_alike laws c asked x.0 r q x.1.1 (subst (λ es. EntriesGive c asked es q) same y.1.1)
      ]
    ]

parts_alike : Journals → OneAnswer → (text : List ℕ) (journal : Option (List ℕ)) (asked : Asked) (r q : Reported) →
    PartsGive text journal asked r → PartsGive text journal asked q → r ≡ q
parts_alike laws law text journal asked r q a b =
    elim a [
      | inl x ↦ elim b [
        | inl y ↦
            let both : Err x.0 ≡ Err y.0 = calls_alike law text asked (Err x.0) (Err y.0) x.1.0 y.1.0 in
            let stops : x.0 ≡ y.0 = cc both in
            x.1.1 ∙ ap (λ s. Err (Shared s)) stops ∙ sym y.1.1
        | inr y ↦ absurd (cc (calls_alike law text asked (Err x.0) (Ok y.0) x.1.0 y.1.0))
      ]
      | inr x ↦ elim b [
        | inl y ↦ absurd (cc (calls_alike law text asked (Ok x.0) (Err y.0) x.1.0 y.1.0))
        | inr y ↦
            let both : Ok x.0 ≡ Ok y.0 = calls_alike law text asked (Ok x.0) (Ok y.0) x.1.0 y.1.0 in
            let same : x.0 ≡ y.0 = cc both in
            lines_alike laws journal y.0 asked r q (subst (λ h. LinesGive journal h asked r) same x.1.1) y.1.1
      ]
    ]

splits_alike : Journals → OneAnswer → (text : List ℕ) (journal : Option (List ℕ)) (asked : Asked) (r q : Reported) →
    SplitGives text journal asked r → SplitGives text journal asked q → r ≡ q
splits_alike laws law text journal asked r q a b =
    elim a [
      | inl x ↦ elim b [ inl y ↦ x.1 ∙ sym y.1 | inr y ↦ absurd (omega (arith, x.0, y.0)) ]
      | inr x ↦ elim b [
        | inl y ↦ absurd (omega (arith, y.0, x.0))
        | inr y ↦ parts_alike laws law text journal asked r q x.1 y.1
      ]
    ]

-- ---- the parts of the input

and_right : (a b : Bool) → (a && b) ≡ true → b ≡ true
and_right true b e = e
and_right false b e = absurd (cc e)

and_left : (a b : Bool) → (a && b) ≡ true → a ≡ true
and_left true b e = refl
and_left false b e = absurd (cc e)

le_of : (a b : ℕ) → nat_le a b ≡ true → a ≤ b
le_of a b e = grind (arith)

heading_within : (bytes : List ℕ) (at : ℕ) → is_heading bytes at ≡ true → at ≤ length bytes
heading_within bytes at is =
    let room : at + 10 ≤ length bytes = le_of (at + 10) (length bytes) (and_left _ _ (and_right _ _ is)) in omega (arith, room)

not_both : (x : Bool) → x ≡ true → x ≡ false → ⊥
not_both x holds fails = let both : true ≡ false = sym holds ∙ fails in cc both

one_split : (bytes t u : List ℕ) (j k : Option (List ℕ)) → IsSplit bytes t j → IsSplit bytes u k → (t ≡ u) × (j ≡ k)
one_split bytes t u None None a b = (a.0 ∙ sym b.0, refl)
one_split bytes t u None (Some k) a b =
    absurd (not_both _ b.1.0 (a.1 b.0 (heading_within bytes b.0 b.1.0)))
one_split bytes t u (Some j) None a b =
    absurd (not_both _ a.1.0 (b.1 a.0 (heading_within bytes a.0 a.1.0)))
one_split bytes t u (Some j) (Some k) a b =
    elim (cases_order a.0 b.0) [
      | inl same ↦ (
        a.1.1.1.0 ∙ ap (λ n. take n bytes) same ∙ sym b.1.1.1.0,
        ap Some (a.1.1.1.1 ∙ ap (λ n. drop (n + 11) bytes) same ∙ sym b.1.1.1.1),
      )
      | inr differs ↦ elim differs [
        | inl below ↦ absurd (not_both _ a.1.0 (b.1.1.0 a.0 below))
        | inr above ↦ absurd (not_both _ b.1.0 (a.1.1.0 b.0 above))
      ]
    ]

replays_alike : Journals → OneAnswer → (bytes : List ℕ) (asked : Asked) (r q : Reported) →
    ReplayGives bytes asked r → ReplayGives bytes asked q → r ≡ q
replays_alike laws law bytes asked r q a b =
    elim a [
      | inl x ↦ elim b [ inl y ↦ x.1 ∙ sym y.1 | inr y ↦ absurd (omega (arith, x.0, y.0)) ]
      | inr x ↦ elim b [
        | inl y ↦ absurd (omega (arith, y.0, x.0))
        | inr y ↦
            let same = one_split bytes y.1.0 x.1.0 y.1.1.0 x.1.1.0 y.1.1.1.0 x.1.1.1.0 in
            let text_is : SplitGives x.1.0 y.1.1.0 asked q = subst (λ t. SplitGives t y.1.1.0 asked q) same.0 y.1.1.1.1 in
            let all_is : SplitGives x.1.0 x.1.1.0 asked q = subst (λ j. SplitGives x.1.0 j asked q) same.1 text_is in
            splits_alike laws law x.1.0 x.1.1.0 asked r q x.1.1.1.1 all_is
      ]
    ]

given_parts : (source : Told) (bytes text : List ℕ) (journal : Option (List ℕ)) (asked : Asked) (r : Reported) →
    source.left ≡ Some bytes → IsGiven source text journal → SplitGives text journal asked r → ReplayGives bytes asked r
given_parts source bytes text journal asked r told given gives =
    let read = input_gives input_limit source bytes given.bytes told given.input in
    inr (read.1, (text, (journal, (subst (λ b. IsSplit b text journal) read.0 given.parts, gives))))

journal_stops : (journal : Option (List ℕ)) (c : Call) (code : Code) (asked : Asked) (cause : ToolStop) → is_decided_cause cause ≡ true →
    IsCodeOf asked.options c code → JournalStops code journal cause → LinesGive journal c asked (Err cause)
journal_stops journal c code asked cause decided is why =
    elim why [
      | inl lines ↦ inl (cause, (decided, (lines, refl)))
      | inr entries ↦ inr (entries.0, (entries.1.0, (decided, (code, (is, entries.1.1)))))
    ]

replay_ends : (source : Told) (bytes : List ℕ) (asked : Asked) (status : ℕ) (text : List ℕ) → source.left ≡ Some bytes →
    ReplayEnds source asked status text → ReplayGives bytes asked (Ok (status, text))
replay_ends source bytes asked status text told ends =
    given_parts source bytes ends.program ends.journal asked (Ok (status, text)) told ends.was_given
    (inr (ends.within, inr (ends.c, (ends.is, inr (ends.entries, (ends.lines, (ends.code, (ends.code_is, ends.replayed))))))))

replay_stops : (source : Told) (bytes : List ℕ) (asked : Asked) (cause : ToolStop) → source.left ≡ Some bytes →
    is_decided_cause cause ≡ true → ReplayCauses source asked cause → ReplayGives bytes asked (Err cause)
replay_stops source bytes asked _ told decided (ReplayCauses.input s why) =
    let input = input_stops input_limit source bytes s told decided why in inl (input.1, ap (λ s. Err (Shared s)) input.0)
replay_stops source bytes asked _ told decided (ReplayCauses.long_text text journal given long) =
    given_parts source bytes text journal asked _ told given (inl (long, refl))
replay_stops source bytes asked _ told decided (ReplayCauses.no_call s text journal given within why) =
    given_parts source bytes text journal asked _ told given (inr (within, inl (s, ((decided, why), refl))))
replay_stops source bytes asked cause told decided (ReplayCauses.no_run s text journal c code given within is code_is why) =
    given_parts source bytes text journal asked _ told given (inr (within, inr (c, (is, journal_stops journal c code asked cause decided code_is why))))

-- ---- `source`

reported_named : (p : Module) (asked : Asked) (status : ℕ) (text : List ℕ) → IsReported p asked status text →
    entry_stop p asked.args (entry_of p asked.entry) ≡ None
reported_named p asked status text is = named_stop p asked is.run.function (Fits is.run.values) is.run.names

same_race : (ended : Bool) (trace : List TraceEntry) (r q : Option (ℕ × ℕ)) → IsRace ended trace r → IsRace ended trace q → r ≡ q
same_race true trace r q a b = one_race trace r q a b
same_race false trace r q a b = a ∙ sym b

-- a module's run has one report
one_report : (p : Module) (asked : Asked) (m n : ℕ) (t u : List ℕ) → IsReported p asked m t → IsReported p asked n u → (m ≡ n) × (t ≡ u)
one_report p asked m n t u a b =
    let both = one_names p asked a.run.function b.run.function a.run.values b.run.values a.run.names b.run.names in
    let here : Means p a.run.function.0 b.run.values asked.fuel b.end b.trace =
    subst (λ (k : FuncNo). Means p k.0 b.run.values asked.fuel b.end b.trace) (sym both.0) b.run.means in
    let same : Means p a.run.function.0 a.run.values asked.fuel b.end b.trace =
    subst (λ vs. Means p a.run.function.0 vs asked.fuel b.end b.trace) (sym both.1) here in
    let one = one_run p a.run.function.0 a.run.values asked.fuel a.end b.end a.trace b.trace a.run.means same in
    let there : IsRace (has_ended a.end) b.trace b.race = subst (λ e. IsRace (has_ended e) b.trace b.race) (sym one.0) b.first in
    let races : a.race ≡ b.race =
    same_race (has_ended a.end) a.trace a.race b.race a.first (subst (λ l. IsRace (has_ended a.end) l b.race) (sym one.1) there) in (
      a.status_is ∙ ap (λ e. source_status e a.race) one.0 ∙ ap (source_status b.end) races ∙ sym b.status_is,
      a.told ∙ ap (λ e. source_text p e a.trace a.race) one.0 ∙ ap (λ l. source_text p b.end l a.race) one.1
          ∙ ap (source_text p b.end b.trace) races ∙ sym b.told,
    )

abbrev RunReports : Module → Asked → Reported → Type 0
RunReports p asked r =
    ((s : Stop) × ((is_decided s ≡ true) × (EntryStops p asked s × (r ≡ Err (Shared s)))))
    ⊎ ((status : ℕ) × ((text : List ℕ) × (IsReported p asked status text × (r ≡ Ok (status, text)))))

reports_alike : (p : Module) (asked : Asked) (r q : Reported) → RunReports p asked r → RunReports p asked q → r ≡ q
reports_alike p asked r q a b =
    elim a [
      | inl x ↦ elim b [
        | inl y ↦
            let both : Some x.0 ≡ Some y.0 = sym (entry_why p asked x.0 x.1.0 x.1.1.0) ∙ entry_why p asked y.0 y.1.0 y.1.1.0 in
            let stops : x.0 ≡ y.0 = cc both in
            x.1.1.1 ∙ ap (λ s. Err (Shared s)) stops ∙ sym y.1.1.1
        | inr y ↦ absurd (cc (sym (reported_named p asked y.0 y.1.0 y.1.1.0) ∙ entry_why p asked x.0 x.1.0 x.1.1.0))
      ]
      | inr x ↦ elim b [
        | inl y ↦ absurd (cc (sym (reported_named p asked x.0 x.1.0 x.1.1.0) ∙ entry_why p asked y.0 y.1.0 y.1.1.0))
        | inr y ↦
            let one = one_report p asked x.0 y.0 x.1.0 y.1.0 x.1.1.0 y.1.1.0 in
            x.1.1.1 ∙ ap (λ k. Ok (k, x.1.0)) one.0 ∙ ap (λ l. Ok (y.0, l)) one.1 ∙ sym y.1.1.1
      ]
    ]

abbrev ModuleRuns : List ℕ → Asked → Reported → Type 0
ModuleRuns bytes asked r =
    ((s : Stop) × ((is_decided s ≡ true) × (ModuleStops bytes s × (r ≡ Err (Shared s)))))
    ⊎ ((p : Module) × (IsAccepted bytes p × RunReports p asked r))

module_runs_alike : OneAnswer → (bytes : List ℕ) (asked : Asked) (r q : Reported) → ModuleRuns bytes asked r → ModuleRuns bytes asked q → r ≡ q
module_runs_alike law bytes asked r q a b =
    elim a [
      | inl x ↦ elim b [
        | inl y ↦ x.1.1.1 ∙ ap (λ s. Err (Shared s)) (stops_alike law bytes x.0 y.0 x.1.0 y.1.0 x.1.1.0 y.1.1.0) ∙ sym y.1.1.1
        | inr y ↦ absurd (accepted_stays law bytes y.0 x.0 x.1.0 y.1.0 x.1.1.0)
      ]
      | inr x ↦ elim b [
        | inl y ↦ absurd (accepted_stays law bytes x.0 y.0 y.1.0 x.1.0 y.1.1.0)
        | inr y ↦
            let same : y.0 ≡ x.0 = one_accepted law bytes y.0 x.0 y.1.0 x.1.0 in
            reports_alike x.0 asked r q x.1.1 (subst (λ p. RunReports p asked q) same y.1.1)
      ]
    ]

abbrev SourceGives : List ℕ → Asked → Reported → Type 0
SourceGives bytes asked r =
    ((text_limit < length bytes) × (r ≡ Err (Shared (stop.TooLong text_limit)))) ⊎ ((length bytes ≤ text_limit) × ModuleRuns bytes asked r)

sources_alike : OneAnswer → (bytes : List ℕ) (asked : Asked) (r q : Reported) → SourceGives bytes asked r → SourceGives bytes asked q → r ≡ q
sources_alike law bytes asked r q a b =
    elim a [
      | inl x ↦ elim b [ inl y ↦ x.1 ∙ sym y.1 | inr y ↦ absurd (omega (arith, x.0, y.0)) ]
      | inr x ↦ elim b [ inl y ↦ absurd (omega (arith, y.0, x.0)) | inr y ↦ module_runs_alike law bytes asked r q x.1 y.1 ]
    ]

source_ends : (source : Told) (bytes : List ℕ) (asked : Asked) (status : ℕ) (text : List ℕ) → source.left ≡ Some bytes →
    SourceEnds source asked status text → SourceGives bytes asked (Ok (status, text))
source_ends source bytes asked status text told ends =
    let read = input_gives text_limit source bytes ends.bytes told ends.input in
    inr (read.1, inr (ends.program, (subst (λ b. IsAccepted b ends.program) read.0 ends.accepted, inr (status, (text, (ends.reported, refl))))))

source_stops : (source : Told) (bytes : List ℕ) (asked : Asked) (cause : ToolStop) → source.left ≡ Some bytes → is_decided_cause cause ≡ true →
    SourceCauses source asked cause → SourceGives bytes asked (Err cause)
source_stops source bytes asked _ told decided (SourceCauses.input s why) =
    let input = input_stops text_limit source bytes s told decided why in inl (input.1, ap (λ s. Err (Shared s)) input.0)
source_stops source bytes asked _ told decided (SourceCauses.no_module s all input why) =
    let read = input_gives text_limit source bytes all told input in
    inr (read.1, inl (s, (decided, (subst (λ b. ModuleStops b s) read.0 why, refl))))
source_stops source bytes asked _ told decided (SourceCauses.no_run s all p input accepted why) =
    let read = input_gives text_limit source bytes all told input in
    inr (read.1, inr (p, (subst (λ b. IsAccepted b p) read.0 accepted, inl (s, (decided, (why, refl))))))

-- ---- each command

-- an end with status 0
abbrev with_zero : Result (List ℕ) ToolStop → Reported
with_zero (Ok text) = Ok (0, text)
with_zero (Err cause) = Err cause

abbrev CommandGives : Command → List ℕ → Asked → Reported → Type 0
CommandGives Check bytes asked r = (q : Result (List ℕ) ToolStop) × (CheckGives IsSize bytes q × (r ≡ with_zero q))
CommandGives Compile bytes asked r = (q : Result (List ℕ) ToolStop) × (CheckGives (IsListing asked.options) bytes q × (r ≡ with_zero q))
CommandGives Replay bytes asked r = ReplayGives bytes asked r
CommandGives Source bytes asked r = SourceGives bytes asked r
CommandGives Run bytes asked r = r ≡ Err (Shared stop.Words)

commands_alike : Journals → OneAnswer → (command : Command) (bytes : List ℕ) (asked : Asked) (r q : Reported) →
    CommandGives command bytes asked r → CommandGives command bytes asked q → r ≡ q
commands_alike laws law Check bytes asked r q a b =
    a.1.1 ∙ ap with_zero (checks_alike IsSize one_size law bytes a.0 b.0 a.1.0 b.1.0) ∙ sym b.1.1
commands_alike laws law Compile bytes asked r q a b =
    a.1.1 ∙ ap with_zero (checks_alike (IsListing asked.options) (one_listing asked.options) law bytes a.0 b.0 a.1.0 b.1.0) ∙ sym b.1.1
commands_alike laws law Replay bytes asked r q a b = replays_alike laws law bytes asked r q a b
commands_alike laws law Source bytes asked r q a b = sources_alike law bytes asked r q a b
commands_alike laws law Run bytes asked r q a b = a ∙ sym b

command_ends : (command : Command) (source : Told) (bytes : List ℕ) (asked : Asked) (status : ℕ) (text : List ℕ) → source.left ≡ Some bytes →
    CommandEnds command source asked status text → CommandGives command bytes asked (Ok (status, text))
command_ends Check source bytes asked status text told ends =
    (Ok text, (check_ends IsSize source bytes text told ends.1, ap (λ n. Ok (n, text)) ends.0))
command_ends Compile source bytes asked status text told ends =
    (Ok text, (check_ends (IsListing asked.options) source bytes text told ends.1, ap (λ n. Ok (n, text)) ends.0))
command_ends Replay source bytes asked status text told ends = replay_ends source bytes asked status text told ends
command_ends Source source bytes asked status text told ends = source_ends source bytes asked status text told ends
command_ends Run source bytes asked status text told ends = absurd ends

command_stops : (command : Command) (source : Told) (bytes : List ℕ) (asked : Asked) (cause : ToolStop) → source.left ≡ Some bytes →
    is_decided_cause cause ≡ true → CommandCauses command source asked cause → CommandGives command bytes asked (Err cause)
command_stops Check source bytes asked cause told decided why = (Err cause, (check_stops IsSize source bytes cause told decided why, refl))
command_stops Compile source bytes asked cause told decided why =
    (Err cause, (check_stops (IsListing asked.options) source bytes cause told decided why, refl))
command_stops Replay source bytes asked cause told decided why = replay_stops source bytes asked cause told decided why
command_stops Source source bytes asked cause told decided why = source_stops source bytes asked cause told decided why
command_stops Run source bytes asked cause told decided why = ap Err why

-- a status that isn't 7, 8 or 9 is that of a decided cause
cause_decided : (cause : ToolStop) → IsDecided (tool_status cause) → is_decided_cause cause ≡ true
cause_decided (BadLine line) is = refl
cause_decided (NotARun n named kept) is = refl
cause_decided (Unfinished entries) is = refl
cause_decided (Shared stop.Read) is = absurd (is.0 refl)
cause_decided (Shared (stop.Write written)) is = absurd (is.1.0 refl)
cause_decided (Shared stop.OutOfMemory) is = absurd (is.1.1 refl)
cause_decided (Shared stop.Words) is = refl
cause_decided (Shared (stop.TooLong limit)) is = refl
cause_decided (Shared (stop.Module fault)) is = refl
cause_decided (Shared stop.NoEntry) is = refl
cause_decided (Shared (stop.EntryType op)) is = refl
cause_decided (Shared (stop.Args at)) is = refl
cause_decided (Shared (stop.Short parked)) is = refl
cause_decided (Shared (stop.Objects live)) is = refl
cause_decided (Shared (stop.Tasks live)) is = refl
cause_decided (Shared (stop.Cells used)) is = refl
cause_decided (Shared (stop.Stack depth)) is = refl
cause_decided (Shared (stop.Group size)) is = refl
cause_decided (Shared (stop.Spent entries)) is = refl

-- a status and its text, as what they stand for
abbrev IsTold : List ℕ → ℕ → List ℕ → Reported → Type 0
IsTold entry status t (Ok told) = (status ≡ told.0) × (t ≡ told.1)
IsTold entry status t (Err cause) = (status ≡ tool_status cause) × (t ≡ tool_text entry cause)

same_told : (entry : List ℕ) (a b : ℕ) (s t : List ℕ) (r : Reported) → IsTold entry a s r → IsTold entry b t r → (a ≡ b) × (s ≡ t)
same_told entry a b s t (Ok text) x y = (x.0 ∙ sym y.0, x.1 ∙ sym y.1)
same_told entry a b s t (Err cause) x y = (x.0 ∙ sym y.0, x.1 ∙ sym y.1)

abbrev AskedGives : Asked → List ℕ → ℕ → List ℕ → Type 0
AskedGives asked bytes status t =
    (r : Reported) × (CommandGives asked.command bytes asked r × IsTold asked.entry status t r)

-- the words ask for nothing, or a command gives this
abbrev ToolGives : List (List ℕ) → List ℕ → ℕ → List ℕ → Type 0
ToolGives words bytes status t =
    ((asked_of words ≡ None) × IsTold [] status t (Err (Shared stop.Words)))
    ⊎ ((asked : Asked) × ((asked_of words ≡ Some asked) × AskedGives asked bytes status t))

tool_owed : (given : Given) (bytes : List ℕ) (status : ℕ) (t : List ℕ) → given.source.left ≡ Some bytes → IsDecided status →
    ToolOwes given status t → ToolGives given.words bytes status t
tool_owed given bytes _ _ told decided (ToolOwes.words none) = inl (none, (refl, refl))
tool_owed given bytes _ _ told decided ToolOwes.no_memory = absurd (decided.1.1 refl)
tool_owed given bytes status t told decided (ToolOwes.ended asked code text asks ends) =
    let gives = command_ends asked.command given.source bytes asked status t told ends in
    inr (asked, (asks, (Ok (status, t), (gives, (refl, refl)))))
tool_owed given bytes _ _ told decided (ToolOwes.stopped asked cause asks why) =
    inr (
      asked,
      (asks, (Err cause, (command_stops asked.command given.source bytes asked cause told (cause_decided cause decided) why, (refl, refl)))),
    )

asked_alike : Journals → OneAnswer → (asked : Asked) (bytes : List ℕ) (a b : ℕ) (s t : List ℕ) → AskedGives asked bytes a s →
    AskedGives asked bytes b t → (a ≡ b) × (s ≡ t)
asked_alike laws law asked bytes a b s t x y =
    let same : x.0 ≡ y.0 = commands_alike laws law asked.command bytes asked x.0 y.0 x.1.0 y.1.0 in
    same_told asked.entry a b s t y.0 (subst (IsTold asked.entry a s) same x.1.1) y.1.1

tool_alike : Journals → OneAnswer → (words : List (List ℕ)) (bytes : List ℕ) (a b : ℕ) (s t : List ℕ) → ToolGives words bytes a s →
    ToolGives words bytes b t → (a ≡ b) × (s ≡ t)
tool_alike laws law words bytes a b s t first second =
    elim first [
      | inl x ↦ elim second [
        | inl y ↦ (x.1.0 ∙ sym y.1.0, x.1.1 ∙ sym y.1.1)
        | inr y ↦ absurd (cc (sym x.0 ∙ y.1.0))
      ]
      | inr x ↦ elim second [
        | inl y ↦ absurd (cc (sym y.0 ∙ x.1.0))
        | inr y ↦
            let same : y.0 ≡ x.0 = one_asked words y.0 x.0 y.1.0 x.1.0 in
            asked_alike laws law x.0 bytes a b s t x.1.1 (subst (λ o. AskedGives o bytes b t) same y.1.1)
      ]
    ]

pub tool_owes_one : Journals → OneAnswer → ToolOwesOne
tool_owes_one laws law g h a b s t alike a_is b_is first second =
    let x = tool_owed g alike.bytes a s alike.first a_is first in
    let later = tool_owed h alike.bytes b t alike.second b_is second in
    tool_alike laws law g.words alike.bytes a b s t x (subst (λ w. ToolGives w alike.bytes b t) (sym alike.words) later)
