-- The entry's number is that of a function of the module.
use Rattle.std.proofs.Common.{◌≡◌, ◌<◌, ℕ, zero, suc, ◌+◌, List, [], ◌∷◌, length, map, Bool, true, false, cond, Result, Ok, Err, MatchResult, slice_get, refl, arith, subst, ap, sym, inr, Some, Vec, Global}
use Rattle.std.proofs.lemmas.Option.{none-some}
use Rattle.std.specs.Str.{bytes_eq}
use Rattle.ir_forms.specs.declared.ops.Func.{Func}
use Rattle.ir_forms.specs.declared.runs.FuncNo.{FuncNo}
use Rattle.ir_verify.specs.declared.entry.EntryFault.{EntryFault}
use Rattle.ir_verify.specs.declared.entry.EntryFault.TheVariants.{EntryType}
use Rattle.ir_verify.specs.Entry.{entry_from, is_refused_entry}
use Rattle.ir_verify.specs.Verdict.{IsSound}
use Rattle.ir_forms.specs.declared.ops.Module.{Module}
use Rattle.arguments.specs.Fits.{Fits, fitted_args}
use Rattle.ir_forms.specs.declared.args.ArgValue.{ArgValue}
use Rattle.ir_forms.specs.declared.ops.ValueNo.{ValueNo}
use Rattle.ir_forms.specs.declared.types.Ty.{Ty}
use Rattle.source_meaning.specs.Parts.{func_params}
use Rattle.low_forms.specs.declared.code.LowFunc.{LowFunc}
use Rattle.loop_blocks.specs.declared.options.Options.{Options}
use Rattle.line_laws.specs.Laws.{FunctionsStand}
use Rattle.pass_line.specs.declared.line.Compiled.{Compiled}
use Rattle.pass_line.specs.Line.{IsCompiled}
use Rattle.pass_line.specs.Texts.{all_texts}
use Rattle.async_cli.specs.declared.calls.EntryCall.{EntryCall}
use Rattle.async_cli.specs.declared.calls.Loaded.{Loaded}
use Rattle.async_cli.specs.declared.stops.Stop.{Stop}
use Rattle.async_cli.specs.declared.stops.Stop.TheVariants as stop
use Rattle.async_cli.specs.Words.{Asked}
use Rattle.async_cli.specs.Answers.{IsAccepted, entry_of, types_at, Names, FindStops, FitStops, EntryStops}
use Rattle.async_cli.specs.Calls.{Call, IsAsked, IsCall, TextStops, held, IsLoaded, Stands, IsMade, IsMadeFor}

-- a function at so many places behind the place k
abbrev pub IsThere : ℕ → List Func → ℕ → Type 0
IsThere k fs n = (i : ℕ) × ((n ≡ k + i) × ((f : Func) × (slice_get fs i ≡ Some f)))

abbrev number_or : Result FuncNo EntryFault → ℕ
number_or (Ok number) = number.0
number_or (Err fault) = 0

chosen : (b r : Bool) (k n : ℕ) (f : Func) (fs : List Func) (later : Result FuncNo EntryFault) →
    (later ≡ Ok (record { 0 = n }) → IsThere (k + 1) fs n) →
    cond b (cond r (Err (EntryType f.at)) (Ok (record { 0 = k }))) later ≡ Ok (record { 0 = n }) → IsThere k (f ∷ fs) n
chosen true true k n f fs later rest e = absurd (cc e)
chosen true false k n f fs later rest e =
    let same : k ≡ n = ap number_or e in (zero, (omega (arith, same), (f, refl)))
chosen false r k n f fs later rest e =
    let found = rest e in (suc found.0, (omega (arith, found.1.0), found.1.1))

pub entry_there : (fs : List Func) (k : ℕ) (name : List ℕ) (n : ℕ) → entry_from k fs name ≡ Ok (record { 0 = n }) → IsThere k fs n
entry_there [] k name n e = absurd (cc e)
entry_there (f ∷ fs) k name n e =
    chosen (bytes_eq f.name name) (is_refused_entry f) k n f fs (entry_from (k + 1) fs name) (entry_there fs (k + 1) name n) e

-- the function is there at the entry's number
pub entry_is_there : (fs : List Func) (name : List ℕ) (number : FuncNo) → entry_from 0 fs name ≡ Ok number →
    (f : Func) × (slice_get fs number.0 ≡ Some f)
entry_is_there fs name number e =
    let found = entry_there fs 0 name number.0 e in
    let same : found.0 ≡ number.0 = omega (arith, found.1.0) in
    (found.1.1.0, subst (λ k. slice_get fs k ≡ Some found.1.1.0) same found.1.1.1)

below : (fs : List Func) (k : ℕ) (f : Func) → slice_get fs k ≡ Some f → k < length fs
below [] k f is = absurd (none-some _ is)
below (g ∷ fs) zero f is = omega arith
below (g ∷ fs) (suc k) f is = let rest = below fs k f is in omega (arith, rest)

code_below : (fs : List LowFunc) (k : ℕ) (f : LowFunc) → slice_get fs k ≡ Some f → k < length fs
code_below [] k f is = absurd (none-some _ is)
code_below (g ∷ fs) zero f is = omega arith
code_below (g ∷ fs) (suc k) f is = let rest = code_below fs k f is in omega (arith, rest)

-- the entry's function stands in the code of its module
pub entry_stands : FunctionsStand → (asked : Asked) (options : Options) (print : Bool) (c : Call) (l : Loaded) → IsSound c.program.funcs → IsAsked asked c →
    IsLoaded options print c l → Stands (held l)
entry_stands law asked options print c l sound is loaded =
    let there = entry_is_there c.program.funcs asked.entry c.function is.found in
    let stands = law options c.program l.low c.function.0 there.0 sound loaded.code.low there.1 in
    subst (λ (f : FuncNo). f.0 < length l.low.funcs) (sym loaded.code.function) (code_below l.low.funcs c.function.0 stands.0 stands.1.0)

-- ---- why there is no call

-- why an entry isn't found is why it can't be called
pub find_stops : (program : Module) (asked : Asked) (s : Stop) → FindStops program asked.entry s → EntryStops program asked s
find_stops program asked stop.Words why = why
find_stops program asked stop.Read why = why
find_stops program asked (stop.TooLong limit) why = why
find_stops program asked (stop.Module fault) why = why
find_stops program asked stop.NoEntry why = why
find_stops program asked (stop.EntryType op) why = why
find_stops program asked (stop.Args at) why = absurd why
find_stops program asked (stop.Short parked) why = why
find_stops program asked (stop.Objects live) why = why
find_stops program asked (stop.Tasks live) why = why
find_stops program asked (stop.Cells used) why = why
find_stops program asked (stop.Stack depth) why = why
find_stops program asked (stop.Group size) why = why
find_stops program asked (stop.Spent entries) why = why
find_stops program asked (stop.Write written) why = why
find_stops program asked stop.OutOfMemory why = why

-- and so with arguments that don't fit
pub fit_stops : (program : Module) (asked : Asked) (function : FuncNo) (s : Stop) → entry_of program asked.entry ≡ Ok function →
    FitStops (types_at program function) asked.args s → EntryStops program asked s
fit_stops program asked function stop.Words found why = absurd why
fit_stops program asked function stop.Read found why = absurd why
fit_stops program asked function (stop.TooLong limit) found why = absurd why
fit_stops program asked function (stop.Module fault) found why = absurd why
fit_stops program asked function stop.NoEntry found why = absurd why
fit_stops program asked function (stop.EntryType op) found why = absurd why
fit_stops program asked function (stop.Args at) found why = (function, record { found = found; fits = why })
fit_stops program asked function (stop.Short parked) found why = absurd why
fit_stops program asked function (stop.Objects live) found why = absurd why
fit_stops program asked function (stop.Tasks live) found why = absurd why
fit_stops program asked function (stop.Cells used) found why = absurd why
fit_stops program asked function (stop.Stack depth) found why = absurd why
fit_stops program asked function (stop.Group size) found why = absurd why
fit_stops program asked function (stop.Spent entries) found why = absurd why
fit_stops program asked function (stop.Write written) found why = absurd why
fit_stops program asked function stop.OutOfMemory found why = tt

-- the entry with its arguments, which fit these parameters
pub named_fits : (program : Module) (asked : Asked) (function : FuncNo) (params : List (ValueNo × Ty)) (values : List ArgValue) →
    entry_of program asked.entry ≡ Ok function → params ≡ func_params (slice_get program.funcs function.0) →
    fitted_args (map (λ p. p.1) params) asked.args ≡ Fits values → Names program asked function (Fits values)
named_fits program asked function params values found same fits = record {
  found = found;
  fits = subst (λ (ps : List (ValueNo × Ty)). fitted_args (map (λ p. p.1) ps) asked.args ≡ Fits values) same fits;
}

pub unfit_stops : (program : Module) (asked : Asked) (function : FuncNo) (params : List (ValueNo × Ty)) (s : Stop) →
    entry_of program asked.entry ≡ Ok function → params ≡ func_params (slice_get program.funcs function.0) →
    FitStops (map (λ p. p.1) params) asked.args s → EntryStops program asked s
unfit_stops program asked function params s found same why =
    fit_stops program asked function s found (subst (λ (ps : List (ValueNo × Ty)). FitStops (map (λ p. p.1) ps) asked.args s) same why)

-- the code of a compiled module, and its texts
pub made_of : (options : Options) (program : Module) (compiled : Compiled) (printed : Vec ℕ Global) → IsCompiled options program compiled →
    printed.items ≡ all_texts compiled.texts → IsMade options true program (record { low = compiled.code; printed = printed })
made_of options program compiled printed is told = record {
  low = record { halved = is.halved; split = is.split; is = is.is };
  printed = (compiled, (is, told));
}

-- what is made of the module makes of the whole
pub loads : (program : Module) (asked : Asked) (options : Options) (print : Bool) (call : EntryCall) (result : Result Loaded Stop) →
    Names program asked call.function (Fits call.values) →
    MatchResult result (λ l. IsMadeFor options print program call l) (λ s. s ≡ stop.OutOfMemory) →
    MatchResult result (λ l. (c : Call) × ((c.program ≡ program) × (IsAsked asked c × IsLoaded options print c l))) (λ s. EntryStops program asked s)
loads program asked options print call (Ok l) names made =
    let c : Call = record { program = program; function = call.function; values = call.values } in (
      c,
      (
        refl,
        (
          names,
          record {
            code = record {
              low = made.low;
              function = ap (λ (e : EntryCall). e.function) made.call;
              values = ap (λ (e : EntryCall). e.values) made.call;
            };
            notes = made.notes;
            printed = made.printed;
          },
        ),
      ),
    )
loads program asked options print call (Err s) names made = subst (EntryStops program asked) (sym made) tt

-- what a module's call makes of its text
pub reads : FunctionsStand → (text : List ℕ) (asked : Asked) (options : Options) (print : Bool) (program : Module) (result : Result Loaded Stop) →
    IsAccepted text program →
    MatchResult result (λ l. (c : Call) × ((c.program ≡ program) × (IsAsked asked c × IsLoaded options print c l))) (λ s. EntryStops program asked s) →
    MatchResult result (λ l. (c : Call) × (IsCall text asked c × (IsLoaded options print c l × Stands (held l)))) (λ s. TextStops text asked s)
reads law text asked options print program (Ok l) accepted (c, (same, (is, loaded))) =
    let here : IsAccepted text c.program = subst (IsAccepted text) (sym same) accepted in
    (c, ((here, is), (loaded, entry_stands law asked options print c l here.1 is loaded)))
reads law text asked options print program (Err s) accepted why = inr (program, (accepted, why))
