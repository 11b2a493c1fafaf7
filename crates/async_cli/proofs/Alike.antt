-- What is owed is a function of what is given, by the stages of each command.
use Rattle.std.proofs.Common.{◌≡◌, ◌≤◌, ◌<◌, ◌⊎◌, ℕ, List, ◌++◌, length, true, Option, Some, None, MatchOption, Result, Ok, Err, refl, sym, ap, subst, ◌∙◌, inl, inr, arith}
use Rattle.aio_base.specs.Whole.{Told, ReadsWhole, ReadsPast}
use Rattle.mlir_text.specs.Texts.{OneAnswer}
use Rattle.step_core.specs.declared.ends.End.{End}
use Rattle.step_core.specs.declared.ends.Entry.{Entry}
use Rattle.step_core.specs.Core.{Core}
use Rattle.step_core.specs.Runs.{IsFinished}
use Rattle.step_core.specs.State.{counts_of, end_of, live_tasks}
use Rattle.run_report.specs.declared.note_list.Note.{Note}
use Rattle.run_report.specs.Notes.{notes_of}
use Rattle.async_cli.specs.declared.stops.Stop.{Stop}
use Rattle.async_cli.specs.declared.stops.Stop.TheVariants as stop
use Rattle.async_cli.specs.declared.words.Bounds.{Bounds}
use Rattle.async_cli.specs.declared.words.Command.TheVariants.{Run}
use Rattle.async_cli.specs.declared.words.Flags.{Flags}
use Rattle.async_cli.specs.Words.{Asked, AsksFor, AsksNot, asked_of, entry_asked}
use Rattle.async_cli.specs.Answers.{Given, text_limit, IsInput, InputStops}
use Rattle.async_cli.specs.Calls.{Call, IsCall, TextStops, Code, IsCodeOf}
use Rattle.async_cli.specs.Laws.{is_decided, is_settled, is_settled_answer, RunOwesOne}
use Rattle.async_cli.specs.Runs.{Enters, LeadsTo, TellsEnd, Finishes, Ran, IsShort, IsSpent, RunStops, Causes, Owes}
use Rattle.async_cli.specs.Stops.{stop_status, stop_text}
use Rattle.async_cli.specs.Texts.{end_status, run_text}
use Rattle.async_cli.proofs.Modules.{CallGives, calls_alike}
use Rattle.async_cli.proofs.OneCode.{one_code, one_printed}

-- ---- what is read

-- where the source tells its bytes, all of them were read, or they are too many
abbrev pub InputGives : ℕ → List ℕ → Result (List ℕ) Stop → Type 0
InputGives limit bytes (Ok all) = (all ≡ bytes) × (length bytes ≤ limit)
InputGives limit bytes (Err s) = (s ≡ stop.TooLong limit) × (limit < length bytes)

pub input_gives : (limit : ℕ) (source : Told) (bytes all : List ℕ) → source.left ≡ Some bytes → IsInput limit source all →
    (all ≡ bytes) × (length bytes ≤ limit)
input_gives limit source bytes all told input =
    let whole : ReadsWhole (Some bytes) source.left_after all = subst (λ l. ReadsWhole l source.left_after all) told input.0 in
    (whole.0, subst (λ l. length l ≤ limit) whole.0 input.1)

pub input_stops : (limit : ℕ) (source : Told) (bytes : List ℕ) (s : Stop) → source.left ≡ Some bytes → is_decided s ≡ true →
    InputStops limit source s → (s ≡ stop.TooLong limit) × (limit < length bytes)
input_stops limit source bytes (stop.TooLong most) told decided why =
    let past : ReadsPast (Some bytes) source.left_after limit = subst (λ l. ReadsPast l source.left_after limit) told why.1 in
    (ap stop.TooLong why.0, past.0)
input_stops limit source bytes stop.Read told decided why = absurd (cc decided)
input_stops limit source bytes stop.OutOfMemory told decided why = absurd (cc decided)
input_stops limit source bytes stop.Words told decided why = absurd why
input_stops limit source bytes (stop.Module fault) told decided why = absurd why
input_stops limit source bytes stop.NoEntry told decided why = absurd why
input_stops limit source bytes (stop.EntryType op) told decided why = absurd why
input_stops limit source bytes (stop.Args at) told decided why = absurd why
input_stops limit source bytes (stop.Short parked) told decided why = absurd why
input_stops limit source bytes (stop.Objects live) told decided why = absurd why
input_stops limit source bytes (stop.Tasks live) told decided why = absurd why
input_stops limit source bytes (stop.Cells used) told decided why = absurd why
input_stops limit source bytes (stop.Stack depth) told decided why = absurd why
input_stops limit source bytes (stop.Group size) told decided why = absurd why
input_stops limit source bytes (stop.Spent entries) told decided why = absurd why
input_stops limit source bytes (stop.Write written) told decided why = absurd why

-- ---- a run

pub one_state : (c : Code) (journal : List Entry) (s t : Core) → LeadsTo c journal s → LeadsTo c journal t → s ≡ t
one_state c journal s t a b = let both : Some s ≡ Some t = sym a ∙ b in cc both

abbrev pub RunGives : Call → Asked → List Entry → Result (ℕ × List ℕ) Stop → Type 0
RunGives c asked journal (Ok told) = Ran asked c journal told.0 told.1
RunGives c asked journal (Err s) =
    (is_settled s ≡ true) × ((code : Code) × (IsCodeOf asked.options c code × RunStops code asked.bounds journal s))

-- why a run has no end: it is held up, or its journal is full
abbrev RunWhy : Code → Bounds → List Entry → Stop → Type 0
RunWhy c bounds journal s =
    ((n : ℕ) × ((s ≡ stop.Short n) × IsShort c bounds journal n)) ⊎ ((n : ℕ) × ((s ≡ stop.Spent n) × IsSpent c bounds journal n))

run_why : (c : Code) (bounds : Bounds) (journal : List Entry) (s : Stop) → is_settled s ≡ true → RunStops c bounds journal s → RunWhy c bounds journal s
run_why c bounds journal stop.Words settled why = absurd why
run_why c bounds journal stop.Read settled why = absurd why
run_why c bounds journal (stop.TooLong limit) settled why = absurd why
run_why c bounds journal (stop.Module fault) settled why = absurd why
run_why c bounds journal stop.NoEntry settled why = absurd why
run_why c bounds journal (stop.EntryType op) settled why = absurd why
run_why c bounds journal (stop.Args at) settled why = absurd why
run_why c bounds journal (stop.Short parked) settled why = inl (parked, (refl, why))
run_why c bounds journal (stop.Objects live) settled why = absurd (cc settled)
run_why c bounds journal (stop.Tasks live) settled why = absurd (cc settled)
run_why c bounds journal (stop.Cells used) settled why = absurd (cc settled)
run_why c bounds journal (stop.Stack depth) settled why = absurd (cc settled)
run_why c bounds journal (stop.Group size) settled why = absurd (cc settled)
run_why c bounds journal (stop.Spent entries) settled why = inr (entries, (refl, why))
run_why c bounds journal (stop.Write written) settled why = absurd why
run_why c bounds journal stop.OutOfMemory settled why = absurd (cc settled)

pub settled_decided : (s : Stop) → is_settled s ≡ true → is_decided s ≡ true
settled_decided stop.Words settled = settled
settled_decided stop.Read settled = settled
settled_decided (stop.TooLong limit) settled = settled
settled_decided (stop.Module fault) settled = settled
settled_decided stop.NoEntry settled = settled
settled_decided (stop.EntryType op) settled = settled
settled_decided (stop.Args at) settled = settled
settled_decided (stop.Short parked) settled = settled
settled_decided (stop.Objects live) settled = absurd (cc settled)
settled_decided (stop.Tasks live) settled = absurd (cc settled)
settled_decided (stop.Cells used) settled = absurd (cc settled)
settled_decided (stop.Stack depth) settled = absurd (cc settled)
settled_decided (stop.Group size) settled = absurd (cc settled)
settled_decided (stop.Spent entries) settled = settled
settled_decided (stop.Write written) settled = settled
settled_decided stop.OutOfMemory settled = settled

finished_stays : (c : Code) (bounds : Bounds) (journal : List Entry) (s : Stop) (t : Core) → LeadsTo c journal t → IsFinished t →
    is_settled s ≡ true → RunStops c bounds journal s → ⊥
finished_stays c bounds journal s t leads finished settled why =
    elim (run_why c bounds journal s settled why) [
      | inl w ↦ w.1.1.unfinished (subst IsFinished (one_state c journal _ _ leads w.1.1.replayed) finished)
      | inr w ↦ w.1.1.unfinished (subst IsFinished (one_state c journal _ _ leads w.1.1.replayed) finished)
    ]

both_stop : (c : Code) (bounds : Bounds) (journal : List Entry) (s t : Stop) → RunWhy c bounds journal s → RunWhy c bounds journal t → s ≡ t
both_stop c bounds journal s t a b =
    elim a [
      | inl x ↦ elim b [
        | inl y ↦
            let same : x.1.1.state ≡ y.1.1.state = one_state c journal _ _ x.1.1.replayed y.1.1.replayed in
            let counts : x.0 ≡ y.0 = x.1.1.left ∙ ap (λ (s : Core). live_tasks s.plain.tasks) same ∙ sym y.1.1.left in
            x.1.0 ∙ ap stop.Short counts ∙ sym y.1.0
        | inr y ↦ absurd (omega (arith, x.1.1.room, y.1.1.full))
      ]
      | inr x ↦ elim b [
        | inl y ↦ absurd (omega (arith, y.1.1.room, x.1.1.full))
        | inr y ↦ x.1.0 ∙ ap stop.Spent (x.1.1.told ∙ sym y.1.1.told) ∙ sym y.1.0
      ]
    ]

one_end : (notes : List Note) (flags : Flags) (s : Core) (journal : List Entry) (m n : ℕ) (t u : List ℕ) → TellsEnd notes flags s journal m t →
    TellsEnd notes flags s journal n u → (m ≡ n) × (t ≡ u)
one_end notes flags s journal m n t u a b = by (end_of s.plain) a b
  where
    by : (o : Option End) → MatchOption o ⊥ (λ end. (m ≡ end_status end) × (t ≡ run_text notes flags end (counts_of s.plain) journal)) →
        MatchOption o ⊥ (λ end. (n ≡ end_status end) × (u ≡ run_text notes flags end (counts_of s.plain) journal)) → (m ≡ n) × (t ≡ u)
    by None x y = absurd x
    by (Some end) x y = (x.0 ∙ sym y.0, x.1 ∙ sym y.1)

pub one_text : (c : Code) (notes : List Note) (flags : Flags) (journal : List Entry) (m n : ℕ) (t u : List ℕ) → Finishes c notes flags journal m t →
    Finishes c notes flags journal n u → (m ≡ n) × (t ≡ u)
one_text c notes flags journal m n t u a b =
    let same : b.state ≡ a.state = one_state c journal _ _ b.replayed a.replayed in
    one_end notes flags a.state journal m n t u a.told (subst (λ s. TellsEnd notes flags s journal n u) same b.told)

-- a run's end has one text
one_ran : (c : Call) (asked : Asked) (journal : List Entry) (m n : ℕ) (t u : List ℕ) → Ran asked c journal m t → Ran asked c journal n u →
    (m ≡ n) × (t ≡ u)
one_ran c asked journal m n t u a b =
    let same : b.code ≡ a.code = one_code asked.options c b.code a.code b.is a.is in
    let prints = one_printed asked.flags.print asked.options c.program a.printed b.printed a.texts b.texts in
    let one = one_text a.code (notes_of c.program) asked.flags journal m n a.end b.end a.finishes
    (subst (λ k. Finishes k (notes_of c.program) asked.flags journal n b.end) same b.finishes) in
    (one.0, a.told ∙ ap (λ p. p ++ a.end) prints ∙ ap (λ e. b.printed ++ e) one.1 ∙ sym b.told)

ran_stays : (c : Call) (asked : Asked) (journal : List Entry) (s : Stop) (n : ℕ) (t : List ℕ) → Ran asked c journal n t → is_settled s ≡ true →
    (code : Code) × (IsCodeOf asked.options c code × RunStops code asked.bounds journal s) → ⊥
ran_stays c asked journal s n t ran settled why =
    let same : why.0 ≡ ran.code = one_code asked.options c why.0 ran.code why.1.0 ran.is in
    finished_stays ran.code asked.bounds journal s ran.finishes.state ran.finishes.replayed ran.finishes.finished settled
    (subst (λ k. RunStops k asked.bounds journal s) same why.1.1)

runs_alike : (c : Call) (asked : Asked) (journal : List Entry) (r q : Result (ℕ × List ℕ) Stop) → RunGives c asked journal r →
    RunGives c asked journal q → r ≡ q
runs_alike c asked journal (Ok t) (Ok u) a b =
    let one = one_ran c asked journal t.0 u.0 t.1 u.1 a b in ap (λ n. Ok (n, t.1)) one.0 ∙ ap (λ l. Ok (u.0, l)) one.1
runs_alike c asked journal (Ok t) (Err s) a b = absurd (ran_stays c asked journal s t.0 t.1 a b.0 b.1)
runs_alike c asked journal (Err s) (Ok t) a b = absurd (ran_stays c asked journal s t.0 t.1 b a.0 a.1)
runs_alike c asked journal (Err s) (Err t) a b =
    let same : b.1.0 ≡ a.1.0 = one_code asked.options c b.1.0 a.1.0 b.1.1.0 a.1.1.0 in
    let stops = subst (λ k. RunStops k asked.bounds journal t) same b.1.1.1 in
    ap Err
    (both_stop a.1.0 asked.bounds journal s t (run_why a.1.0 asked.bounds journal s a.0 a.1.1.1) (run_why a.1.0 asked.bounds journal t b.0 stops))

-- ---- `run`, from its words on

-- the entry isn't there, or the run of it gives this
abbrev pub TextGives : List ℕ → Asked → List Entry → Result (ℕ × List ℕ) Stop → Type 0
TextGives bytes asked journal r =
    ((s : Stop) × (CallGives bytes asked (Err s) × (r ≡ Err s)))
    ⊎ ((c : Call) × (CallGives bytes asked (Ok c) × RunGives c asked journal r))

-- the bytes are too many, or their text gives this
abbrev pub BytesGive : List ℕ → Asked → List Entry → Result (ℕ × List ℕ) Stop → Type 0
BytesGive bytes asked journal r =
    ((text_limit < length bytes) × (r ≡ Err (stop.TooLong text_limit)))
    ⊎ ((length bytes ≤ text_limit) × TextGives bytes asked journal r)

-- the words ask for no run, or the bytes give this
abbrev pub WordsGive : List (List ℕ) → List ℕ → List Entry → Result (ℕ × List ℕ) Stop → Type 0
WordsGive words bytes journal r =
    (AsksNot Run words × (r ≡ Err stop.Words)) ⊎ ((asked : Asked) × (AsksFor Run words asked × BytesGive bytes asked journal r))

texts_alike : OneAnswer → (bytes : List ℕ) (asked : Asked) (journal : List Entry) (r q : Result (ℕ × List ℕ) Stop) →
    TextGives bytes asked journal r → TextGives bytes asked journal q → r ≡ q
texts_alike law bytes asked journal r q a b =
    elim a [
      | inl x ↦ elim b [
        | inl y ↦
            let both : Err x.0 ≡ Err y.0 = calls_alike law bytes asked (Err x.0) (Err y.0) x.1.0 y.1.0 in
            let stops : x.0 ≡ y.0 = cc both in
            x.1.1 ∙ ap Err stops ∙ sym y.1.1
        | inr y ↦ absurd (cc (calls_alike law bytes asked (Err x.0) (Ok y.0) x.1.0 y.1.0))
      ]
      | inr x ↦ elim b [
        | inl y ↦ absurd (cc (calls_alike law bytes asked (Ok x.0) (Err y.0) x.1.0 y.1.0))
        | inr y ↦
            let both : Ok x.0 ≡ Ok y.0 = calls_alike law bytes asked (Ok x.0) (Ok y.0) x.1.0 y.1.0 in
            let same : x.0 ≡ y.0 = cc both in
            runs_alike y.0 asked journal r q (subst (λ h. RunGives h asked journal r) same x.1.1) y.1.1
      ]
    ]

bytes_alike : OneAnswer → (bytes : List ℕ) (asked : Asked) (journal : List Entry) (r q : Result (ℕ × List ℕ) Stop) →
    BytesGive bytes asked journal r → BytesGive bytes asked journal q → r ≡ q
bytes_alike law bytes asked journal r q a b =
    elim a [
      | inl x ↦ elim b [ inl y ↦ x.1 ∙ sym y.1 | inr y ↦ absurd (omega (arith, x.0, y.0)) ]
      | inr x ↦ elim b [
        | inl y ↦ absurd (omega (arith, y.0, x.0))
        | inr y ↦ texts_alike law bytes asked journal r q x.1 y.1
      ]
    ]

pub one_asked : (words : List (List ℕ)) (a b : Asked) → asked_of words ≡ Some a → asked_of words ≡ Some b → a ≡ b
one_asked words a b first second = let both : Some a ≡ Some b = sym first ∙ second in cc both

words_alike : OneAnswer → (words : List (List ℕ)) (bytes : List ℕ) (journal : List Entry) (r q : Result (ℕ × List ℕ) Stop) →
    WordsGive words bytes journal r → WordsGive words bytes journal q → r ≡ q
words_alike law words bytes journal r q a b =
    elim a [
      | inl x ↦ elim b [ inl y ↦ x.1 ∙ sym y.1 | inr y ↦ absurd (x.0 y.0 y.1.0) ]
      | inr x ↦ elim b [
        | inl y ↦ absurd (y.0 x.0 x.1.0)
        | inr y ↦
            let same : y.0 ≡ x.0 = one_asked words y.0 x.0 y.1.0.0 x.1.0.0 in
            bytes_alike law bytes x.0 journal r q x.1.1 (subst (λ o. BytesGive bytes o journal q) same y.1.1)
      ]
    ]

-- an answer and its text, as what they stand for
abbrev IsAnswerOf : List (List ℕ) → Option Stop → ℕ → List ℕ → Result (ℕ × List ℕ) Stop → Type 0
IsAnswerOf words a n t (Ok told) = (a ≡ None) × ((n ≡ told.0) × (t ≡ told.1))
IsAnswerOf words a n t (Err s) = (a ≡ Some s) × ((n ≡ stop_status s) × (t ≡ stop_text (entry_asked words) s))

abbrev Gives : List (List ℕ) → List ℕ → List Entry → Option Stop → ℕ → List ℕ → Type 0
Gives words bytes journal a n t = (r : Result (ℕ × List ℕ) Stop) × (WordsGive words bytes journal r × IsAnswerOf words a n t r)

entered : (given : Given) (bytes : List ℕ) (asked : Asked) (c : Call) → given.source.left ≡ Some bytes → Enters given asked c →
    (length bytes ≤ text_limit) × CallGives bytes asked (Ok c)
entered given bytes asked c told enters =
    let input = input_gives text_limit given.source bytes enters.text told enters.input in
    (input.1, subst (λ b. IsCall b asked c) input.0 enters.is)

caused : (given : Given) (bytes : List ℕ) (journal : List Entry) (s : Stop) → given.source.left ≡ Some bytes → is_settled s ≡ true →
    Causes given journal s → WordsGive given.words bytes journal (Err s)
caused given bytes journal _ told settled (Causes.words empty none) = inl (none, refl)
caused given bytes journal s told settled (Causes.input stop asked empty asks why) =
    let input = input_stops text_limit given.source bytes s told (settled_decided s settled) why in
    inr (asked, (asks, inl (input.1, ap Err input.0)))
caused given bytes journal s told settled (Causes.call stop asked text empty asks input why) =
    let read = input_gives text_limit given.source bytes text told input in
    inr (asked, (asks, inr (read.1, inl (s, ((settled_decided s settled, subst (λ b. TextStops b asked s) read.0 why), refl)))))
caused given bytes journal _ told settled (Causes.no_memory empty) = absurd (cc settled)
caused given bytes journal s told settled (Causes.run stop asked c code enters is why) =
    let read = entered given bytes asked c told enters in
    inr (asked, (enters.asks, inr (read.0, inr (c, (read.1, (settled, (code, (is, why))))))))

owed : (given : Given) (bytes : List ℕ) (journal : List Entry) (a : Option Stop) (n : ℕ) (t : List ℕ) → given.source.left ≡ Some bytes →
    is_settled_answer a ≡ true → Owes given journal a n t → Gives given.words bytes journal a n t
owed given bytes journal None n t told settled ends =
    let read = entered given bytes ends.0 ends.1.0 told ends.1.1.0 in
    (Ok (n, t), (inr (ends.0, (ends.1.1.0.asks, inr (read.0, inr (ends.1.0, (read.1, ends.1.1.1))))), (refl, (refl, refl))))
owed given bytes journal (Some s) n t told settled owes =
    (Err s, (caused given bytes journal s told settled owes.0, (refl, owes.1)))

same_answer : (words : List (List ℕ)) (a b : Option Stop) (m n : ℕ) (s t : List ℕ) (r : Result (ℕ × List ℕ) Stop) → IsAnswerOf words a m s r →
    IsAnswerOf words b n t r → (a ≡ b) × ((m ≡ n) × (s ≡ t))
same_answer words a b m n s t (Ok told) x y = (x.0 ∙ sym y.0, (x.1.0 ∙ sym y.1.0, x.1.1 ∙ sym y.1.1))
same_answer words a b m n s t (Err cause) x y = (x.0 ∙ sym y.0, (x.1.0 ∙ sym y.1.0, x.1.1 ∙ sym y.1.1))

pub run_owes_one : OneAnswer → RunOwesOne
run_owes_one law g h journal a b m n s t alike a_is b_is first second =
    let x = owed g alike.bytes journal a m s alike.first a_is first in
    let later = owed h alike.bytes journal b n t alike.second b_is second in
    let y = subst (λ w. Gives w alike.bytes journal b n t) (sym alike.words) later in
    let same : x.0 ≡ y.0 = words_alike law g.words alike.bytes journal x.0 y.0 x.1.0 y.1.0 in
    same_answer g.words a b m n s t y.0 (subst (IsAnswerOf g.words a m s) same x.1.1) y.1.1
