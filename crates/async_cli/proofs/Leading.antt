-- What a run or a replay of a call's code comes to.
use Rattle.std.proofs.Common.{◌≡◌, ◌<◌, ◌≤◌, ◌^◌, ℕ, zero, suc, List, [], ◌∷◌, length, slice_get, Option, Some, None, IsSome, MatchOption, refl, sym, ap, subst, ◌∙◌, arith}
use Rattle.ir_forms.specs.declared.args.ArgValue.{ArgValue}
use Rattle.low_forms.specs.declared.code.LowFunc.{LowFunc}
use Rattle.step_core.specs.declared.ends.Entry.{Entry}
use Rattle.step_core.specs.declared.limits.Limit.TheVariants as limit
use Rattle.step_core.specs.declared.limits.Limits.{Limits}
use Rattle.source_meaning.specs.Values.{maybe}
use Rattle.step_core.specs.declared.ends.End.{End}
use Rattle.step_core.specs.declared.ends.RootEnd.{RootEnd}
use Rattle.step_core.specs.State.{Plain, counts_of, end_by, end_of}
use Rattle.step_core.specs.Core.{Core, start}
use Rattle.step_core.specs.Running.{Running}
use Rattle.step_core.specs.Runs.{IsFinished, and_then, replay}
use Rattle.run_journal.specs.declared.faults.ReplayFault.{ReplayFault}
use Rattle.run_journal.specs.Laws.{ReplaysWithinArePossible}
use Rattle.run_journal.specs.Replay.{first_fault}
use Rattle.run_journal.specs.Within.{replay_within}
use Rattle.serial_run.specs.declared.outcome.Outcome.{Outcome}
use Rattle.serial_run.specs.declared.outcome.Outcome.TheVariants as outcome
use Rattle.serial_run.specs.Outcomes.{HasOutcome, IsPossible, IsStart}
use Rattle.run_report.specs.declared.note_list.Note.{Note}
use Rattle.async_cli.specs.declared.stops.Stop.{Stop}
use Rattle.async_cli.specs.declared.stops.Stop.TheVariants.{OutOfMemory}
use Rattle.async_cli.specs.declared.words.Bounds.{Bounds}
use Rattle.async_cli.specs.declared.words.Flags.{Flags}
use Rattle.async_cli.specs.Texts.{end_status, run_text}
use Rattle.async_cli.specs.Calls.{Code, Stands}
use Rattle.async_cli.specs.Replays.{replay_limits, first_bad, IsReplayed, ReplaysTo}
use Rattle.async_cli.specs.Runs.{start_of, LeadsTo, TellsEnd, limits_of, outcome_stop, RunStops}

past : (fs : List LowFunc) (k : ℕ) → slice_get fs k ≡ None → length fs ≤ k
past [] k is = omega arith
past (f ∷ fs) zero is = absurd (cc is)
past (f ∷ fs) (suc k) is = let rest = past fs k is in omega (arith, rest)

-- the function that stands in code
pub stands_at : (fs : List LowFunc) (k : ℕ) → k < length fs → (f : LowFunc) × (slice_get fs k ≡ Some f)
stands_at fs k less = by (slice_get fs k) refl
  where
    by : (o : Option LowFunc) → slice_get fs k ≡ o → (f : LowFunc) × (slice_get fs k ≡ Some f)
    by (Some f) is = (f, is)
    by None is = absurd (omega (arith, less, past fs k is))

abbrev from_func : Code → Option LowFunc → Option Core
from_func c None = None
from_func c (Some f) = Some (start c.function f c.values)

-- a run begins
pub begins : (c : Code) → Stands c → (s : Core) × (start_of c ≡ Some s)
begins c stands =
    let there = stands_at c.low.funcs c.function.0 stands in
    (start c.function there.0 c.values, ap (from_func c) there.1)

pub leads : (c : Code) (begin s : Core) (journal : List Entry) → start_of c ≡ Some begin → replay c.low journal begin ≡ Some s → LeadsTo c journal s
leads c begin s journal starts replayed = ap (and_then (replay c.low journal)) starts ∙ replayed

-- an empty journal leads to the start
pub stops_at_start : (c : Code) (bounds : Bounds) (journal : List Entry) → Stands c → journal ≡ [] → RunStops c bounds journal OutOfMemory
stops_at_start c bounds journal stands none =
    let begin = begins c stands in
    (begin.0, leads c begin.0 begin.0 journal begin.1 (ap (λ j. replay c.low j begin.0) none))

-- the core that a run begins with
pub started : (c : Code) (limits : Limits) (r : Running) → length c.values < 2 ^ 31 →
    MatchOption (slice_get c.low.funcs c.function.0) ⊥ (λ f. r ≡ record { code = c.low; limits = limits; core = start c.function f c.values }) →
    ((r.code ≡ c.low) × (r.limits ≡ limits)) × ((start_of c ≡ Some r.core) × IsStart r.core)
started c limits r few is = by (slice_get c.low.funcs c.function.0) refl is
  where
    by : (o : Option LowFunc) → slice_get c.low.funcs c.function.0 ≡ o →
        MatchOption o ⊥ (λ f. r ≡ record { code = c.low; limits = limits; core = start c.function f c.values }) →
        ((r.code ≡ c.low) × (r.limits ≡ limits)) × ((start_of c ≡ Some r.core) × IsStart r.core)
    by None at is = absurd is
    by (Some f) at is =
        let core : r.core ≡ start c.function f c.values = ap (λ (x : Running). x.core) is in (
          (ap (λ (x : Running). x.code) is, ap (λ (x : Running). x.limits) is),
          (ap (from_func c) at ∙ ap Some (sym core), (c.function, f, c.values, core, few)),
        )

-- the same of arguments that are shown
pub starts_from : (c : Code) (limits : Limits) (r : Running) (shown : List ArgValue) → shown ≡ c.values → length c.values < 2 ^ 31 →
    MatchOption (slice_get c.low.funcs c.function.0) ⊥ (λ f. r ≡ record { code = c.low; limits = limits; core = start c.function f shown }) →
    ((r.code ≡ c.low) × (r.limits ≡ limits)) × ((start_of c ≡ Some r.core) × IsStart r.core)
starts_from c limits r shown same few is =
    started c limits r few
    (subst (λ (vs : List ArgValue). MatchOption (slice_get c.low.funcs c.function.0) ⊥ (λ f. r ≡ record { code = c.low; limits = limits; core = start c.function f vs })) same is)

-- what an outcome makes of a run
abbrev pub Gives : Code → Bounds → List Entry → Core → Option Stop → Type 0
Gives c bounds journal last None = LeadsTo c journal last × (IsFinished last × (length journal ≤ bounds.entries))
Gives c bounds journal last (Some stop) = RunStops c bounds journal stop

gives_here : (c : Code) (bounds : Bounds) (begin last : Core) (journal : List Entry) (o : Outcome) → start_of c ≡ Some begin →
    HasOutcome (limits_of bounds) c.low bounds.entries begin journal last o → Gives c bounds journal last (outcome_stop bounds.entries o)
gives_here c bounds begin last journal outcome.Finished starts has = (leads c begin last journal starts has.0, (has.1, has.2))
gives_here c bounds begin last journal (outcome.Short parked) starts has = record {
  state = has.0;
  replayed = leads c begin has.0 journal starts has.1;
  unfinished = has.2;
  left = has.3;
  held_up = has.4;
  room = has.5;
}
gives_here c bounds begin last journal outcome.Spent starts has = record {
  state = last;
  replayed = leads c begin last journal starts has.0;
  unfinished = has.1;
  told = refl;
  full = has.2;
}
gives_here c bounds begin last journal (outcome.Stopped (limit.Objects live)) starts has = record {
  state = has.0;
  replayed = leads c begin has.0 journal starts has.1;
  unfinished = has.2;
  meets = has.3;
  room = has.4;
}
gives_here c bounds begin last journal (outcome.Stopped (limit.Tasks live)) starts has = record {
  state = has.0;
  replayed = leads c begin has.0 journal starts has.1;
  unfinished = has.2;
  meets = has.3;
  room = has.4;
}
gives_here c bounds begin last journal (outcome.Stopped (limit.Cells used)) starts has = record {
  state = has.0;
  replayed = leads c begin has.0 journal starts has.1;
  unfinished = has.2;
  meets = has.3;
  room = has.4;
}
gives_here c bounds begin last journal (outcome.Stopped (limit.Stack depth)) starts has = record {
  state = has.0;
  replayed = leads c begin has.0 journal starts has.1;
  unfinished = has.2;
  meets = has.3;
  room = has.4;
}
gives_here c bounds begin last journal (outcome.Stopped (limit.Group size)) starts has = record {
  state = has.0;
  replayed = leads c begin has.0 journal starts has.1;
  unfinished = has.2;
  meets = has.3;
  room = has.4;
}

pub gives : (c : Code) (bounds : Bounds) (r : Running) (last : Core) (journal : List Entry) (o : Outcome) → r.code ≡ c.low →
    r.limits ≡ limits_of bounds → start_of c ≡ Some r.core →
    HasOutcome r.limits r.code bounds.entries r.core journal last o → Gives c bounds journal last (outcome_stop bounds.entries o)
gives c bounds r last journal o code limits starts has =
    let coded : HasOutcome r.limits c.low bounds.entries r.core journal last o =
    subst (λ low. HasOutcome r.limits low bounds.entries r.core journal last o) code has in
    gives_here c bounds r.core last journal o starts (subst (λ l. HasOutcome l c.low bounds.entries r.core journal last o) limits coded)

-- memory ran out after these entries
pub stops_possible : (c : Code) (bounds : Bounds) (r : Running) (journal : List Entry) → r.code ≡ c.low → start_of c ≡ Some r.core →
    IsPossible r.code r.core journal → RunStops c bounds journal OutOfMemory
stops_possible c bounds r journal code starts possible =
    (possible.0, leads c r.core possible.0 journal starts (subst (λ low. replay low journal r.core ≡ Some possible.0) code possible.1))

-- ---- ends

no_end : (p : Plain) (o : Option RootEnd) → IsSome o → maybe None (λ e. Some (end_by p e)) o ≡ None → ⊥
no_end p None some none = absurd (cc some)
no_end p (Some e) some none = absurd (cc none)

-- a finished run has an end
pub has_end : (s : Core) → IsFinished s → end_of s.plain ≡ None → ⊥
has_end s finished none = no_end s.plain s.plain.root_end finished.0 none

pub tells_end : (notes : List Note) (flags : Flags) (s : Core) (journal : List Entry) (end : End) (status : ℕ) (text : List ℕ) →
    Some end ≡ end_of s.plain → status ≡ end_status end → text ≡ run_text notes flags end (counts_of s.plain) journal →
    TellsEnd notes flags s journal status text
tells_end notes flags s journal end status text is code told =
    subst (λ (o : Option End). MatchOption o ⊥ (λ e. (status ≡ end_status e) × (text ≡ run_text notes flags e (counts_of s.plain) journal))) is
    (code, told)

-- ---- replays

pub replays : (c : Code) (r : Running) (entries : List Entry) →
    MatchOption (slice_get c.low.funcs c.function.0) ⊥ (λ f. (r.code ≡ c.low) × (r.limits ≡ replay_limits)
    × (replay_within replay_limits c.low entries (start c.function f c.values) ≡ Some r.core)) →
    ReplaysTo c entries r.core
replays c r entries is = by (slice_get c.low.funcs c.function.0) refl is
  where
    by : (o : Option LowFunc) → slice_get c.low.funcs c.function.0 ≡ o →
        MatchOption o ⊥ (λ f. (r.code ≡ c.low) × (r.limits ≡ replay_limits)
        × (replay_within replay_limits c.low entries (start c.function f c.values) ≡ Some r.core)) → ReplaysTo c entries r.core
    by None at is = absurd is
    by (Some f) at is = ap (λ o. and_then (replay_within replay_limits c.low entries) (from_func c o)) at ∙ is.2

-- the same of arguments that are shown
pub replays_from : (c : Code) (r : Running) (entries : List Entry) (shown : List ArgValue) → shown ≡ c.values →
    MatchOption (slice_get c.low.funcs c.function.0) ⊥ (λ f. (r.code ≡ c.low) × (r.limits ≡ replay_limits)
    × (replay_within replay_limits c.low entries (start c.function f shown) ≡ Some r.core)) →
    ReplaysTo c entries r.core
replays_from c r entries shown same is =
    replays c r entries
    (subst (λ (vs : List ArgValue). MatchOption (slice_get c.low.funcs c.function.0) ⊥ (λ f. (r.code ≡ c.low) × (r.limits ≡ replay_limits)
    × (replay_within replay_limits c.low entries (start c.function f vs) ≡ Some r.core))) same is)

pub replay_fails : (c : Code) (entries : List Entry) (fault : ReplayFault) (k : ℕ) →
    MatchOption (slice_get c.low.funcs c.function.0) ⊥ (λ f. first_fault replay_limits c.low 0 entries (start c.function f c.values) ≡ Some fault) →
    first_bad c entries ≡ Some fault
replay_fails c entries fault k is = by (slice_get c.low.funcs c.function.0) refl is
  where
    by : (o : Option LowFunc) → slice_get c.low.funcs c.function.0 ≡ o →
        MatchOption o ⊥ (λ f. first_fault replay_limits c.low 0 entries (start c.function f c.values) ≡ Some fault) → first_bad c entries ≡ Some fault
    by None at is = absurd is
    by (Some f) at is = ap (λ o. and_then (first_fault replay_limits c.low 0 entries) (from_func c o)) at ∙ is

-- what is possible within the limits of a replay is possible
within_leads : ReplaysWithinArePossible → (c : Code) (entries : List Entry) (s : Core) → ReplaysTo c entries s → LeadsTo c entries s
within_leads law c entries s is = by (start_of c) refl is
  where
    by : (o : Option Core) → start_of c ≡ o → and_then (replay_within replay_limits c.low entries) o ≡ Some s → LeadsTo c entries s
    by None at is = absurd (cc is)
    by (Some begin) at is = leads c begin s entries at (law replay_limits c.low entries begin s is)

pub replayed_end : ReplaysWithinArePossible → (c : Code) (notes : List Note) (flags : Flags) (entries : List Entry) (status : ℕ) (text : List ℕ) (s : Core) →
    ReplaysTo c entries s → IsFinished s → TellsEnd notes flags s entries status text → IsReplayed c notes flags entries status text
replayed_end law c notes flags entries status text s is finished told = record {
  finishes = record { state = s; replayed = within_leads law c entries s is; finished = finished; told = told };
  within = is;
}
