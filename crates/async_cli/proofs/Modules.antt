-- A text gives one module that breaks no rule, or one cause why it gives none; and so with the entry of a name.
use Rattle.std.proofs.Common.{◌≡◌, ◌<◌, ℕ, List, Bool, true, false, if◌then◌else◌, ◌==◌, Option, Some, None, Result, Ok, Err, refl, sym, ap, subst, ◌∙◌, inl, inr, arith}
use Rattle.std.proofs.lemmas.Bool.{cases_order}
use Rattle.arguments.specs.Fits.{Fitted, Fits, Wrong, fitted_args}
use Rattle.ir_forms.specs.declared.args.Arg.{Arg}
use Rattle.ir_forms.specs.declared.args.ArgValue.{ArgValue}
use Rattle.ir_forms.specs.declared.ops.Func.{Func}
use Rattle.ir_forms.specs.declared.ops.Module.{Module}
use Rattle.ir_forms.specs.declared.runs.FuncNo.{FuncNo}
use Rattle.ir_forms.specs.Numbers.{renumbered}
use Rattle.op_table.specs.declared.rows.Level.TheVariants.{Source}
use Rattle.mlir_text.specs.declared.fault.TextFault.{TextFault}
use Rattle.mlir_text.specs.declared.fault.TextFault.TheVariants as text
use Rattle.mlir_text.specs.Texts.{IsRefused, OneAnswer}
use Rattle.ir_verify.specs.declared.entry.EntryFault.{EntryFault}
use Rattle.ir_verify.specs.declared.entry.EntryFault.TheVariants as entry_fault
use Rattle.ir_verify.specs.declared.fault.Broken.{Broken}
use Rattle.ir_verify.specs.declared.fault.VerifyKind.{VerifyKind}
use Rattle.ir_verify.specs.declared.fault.VerifyKind.TheVariants as kinds
use Rattle.ir_verify.specs.Faults.{rank, is_before}
use Rattle.ir_verify.specs.Verdict.{IsFirst}
use Rattle.mlir_text.specs.declared.reader.TheConstants.{PROGRAM_LIMITS}
use Rattle.async_cli.specs.declared.stops.Stop.{Stop}
use Rattle.async_cli.specs.declared.stops.Stop.TheVariants as stop
use Rattle.async_cli.specs.declared.stops.ModuleFault.{ModuleFault}
use Rattle.async_cli.specs.declared.stops.ModuleFault.TheVariants.{Text, Verify}
use Rattle.async_cli.specs.Answers.{ReadsModule, IsAccepted, ModuleStops, entry_of, types_at, Names, EntryStops}
use Rattle.async_cli.specs.Calls.{Call, IsAsked, IsCall, TextStops}
use Rattle.async_cli.specs.Laws.{is_decided}
use Rattle.async_cli.specs.Words.{Asked}

-- ---- the module that is read

one_read : OneAnswer → (bytes : List ℕ) (p q : Module) → ReadsModule bytes p → ReadsModule bytes q → p ≡ q
one_read law bytes p q a b =
    elim (law PROGRAM_LIMITS Source bytes (Ok a.0) (Ok b.0) a.1.0 b.1.0) [
      | inl e ↦ absurd (cc e)
      | inr rest ↦ elim rest [
        | inl e ↦ absurd (cc e)
        | inr e ↦ let same : a.0 ≡ b.0 = cc e in a.1.1 ∙ ap renumbered same ∙ sym b.1.1
      ]
    ]

text_why : (bytes : List ℕ) (f : TextFault) → ModuleStops bytes (stop.Module (Text f)) →
    (f ≡ text.OutOfMemory → ⊥) × IsRefused PROGRAM_LIMITS Source bytes f
text_why bytes (text.Lex fault) why = (λ e. cc e, why)
text_why bytes (text.Syntax at) why = (λ e. cc e, why)
text_why bytes (text.UnknownOp at) why = (λ e. cc e, why)
text_why bytes (text.UnknownType at) why = (λ e. cc e, why)
text_why bytes (text.WideNumber at) why = (λ e. cc e, why)
text_why bytes (text.Limit which at) why = (λ e. cc e, why)
text_why bytes text.OutOfMemory why = absurd why

one_fault : OneAnswer → (bytes : List ℕ) (f g : TextFault) → ModuleStops bytes (stop.Module (Text f)) →
    ModuleStops bytes (stop.Module (Text g)) → f ≡ g
one_fault law bytes f g a b =
    let first = text_why bytes f a in
    let second = text_why bytes g b in
    elim (law PROGRAM_LIMITS Source bytes (Err f) (Err g) first.1 second.1) [
      | inl e ↦ absurd (first.0 (cc e))
      | inr rest ↦ elim rest [ inl e ↦ absurd (second.0 (cc e)) | inr e ↦ cc e ]
    ]

no_fault : OneAnswer → (bytes : List ℕ) (p : Module) (f : TextFault) → ReadsModule bytes p → ModuleStops bytes (stop.Module (Text f)) → ⊥
no_fault law bytes p f a b =
    let second = text_why bytes f b in
    elim (law PROGRAM_LIMITS Source bytes (Ok a.0) (Err f) a.1.0 second.1) [
      | inl e ↦ cc e
      | inr rest ↦ elim rest [ inl e ↦ second.0 (cc e) | inr e ↦ cc e ]
    ]

-- ---- the first rule that is broken

abbrev kind_at : ℕ → VerifyKind
kind_at n =
    if n == 0 then kinds.Undefined
    else (if n == 1 then kinds.TypeMismatch
    else (if n == 2 then kinds.Terminator
    else (if n == 3 then kinds.UnknownFunc
    else (if n == 4 then kinds.Arity
    else (if n == 5 then kinds.AsyncInMemref
    else kinds.BlockingAwait)))))

kind_of_rank : (k : VerifyKind) → kind_at (rank k) ≡ k
kind_of_rank kinds.Undefined = refl
kind_of_rank kinds.TypeMismatch = refl
kind_of_rank kinds.Terminator = refl
kind_of_rank kinds.UnknownFunc = refl
kind_of_rank kinds.Arity = refl
kind_of_rank kinds.AsyncInMemref = refl
kind_of_rank kinds.BlockingAwait = refl

before_by_op : (b c : Broken) → b.op < c.op → is_before b c ≡ true
before_by_op b c less = grind (arith)

before_by_kind : (b c : Broken) → b.op ≡ c.op → rank b.kind < rank c.kind → is_before b c ≡ true
before_by_kind b c same less = grind (arith)

not_both : (x : Bool) → x ≡ true → x ≡ false → ⊥
not_both x holds fails = let both : true ≡ false = sym holds ∙ fails in cc both

abbrev broken : ℕ → VerifyKind → Broken
broken op kind = record { op = op; kind = kind }

same_broken : (b c : Broken) → b.op ≡ c.op → b.kind ≡ c.kind → b ≡ c
same_broken b c ops kinds_are = ap (λ n. broken n b.kind) ops ∙ ap (broken c.op) kinds_are

one_first : (funcs : List Func) (b c : Broken) → IsFirst funcs b → IsFirst funcs c → b ≡ c
one_first funcs b c first second =
    elim (cases_order b.op c.op) [
      | inl same ↦ elim (cases_order (rank b.kind) (rank c.kind)) [
        | inl ranks ↦
            let alike : b.kind ≡ c.kind = sym (kind_of_rank b.kind) ∙ ap kind_at ranks ∙ kind_of_rank c.kind in same_broken b c same alike
        | inr differs ↦ elim differs [
          | inl below ↦ absurd (not_both _ (before_by_kind b c same below) (second.none_before b first.broken))
          | inr above ↦ absurd (not_both _ (before_by_kind c b (sym same) above) (first.none_before c second.broken))
        ]
      ]
      | inr differs ↦ elim differs [
        | inl below ↦ absurd (not_both _ (before_by_op b c below) (second.none_before b first.broken))
        | inr above ↦ absurd (not_both _ (before_by_op c b above) (first.none_before c second.broken))
      ]
    ]

-- ---- a text's module

-- a decided cause why a text gives no module is a fault of it
module_why : (bytes : List ℕ) (s : Stop) → is_decided s ≡ true → ModuleStops bytes s → (f : ModuleFault) × (s ≡ stop.Module f)
module_why bytes (stop.Module fault) decided why = (fault, refl)
module_why bytes stop.OutOfMemory decided why = absurd (cc decided)
module_why bytes stop.Words decided why = absurd why
module_why bytes stop.Read decided why = absurd why
module_why bytes (stop.TooLong limit) decided why = absurd why
module_why bytes stop.NoEntry decided why = absurd why
module_why bytes (stop.EntryType op) decided why = absurd why
module_why bytes (stop.Args at) decided why = absurd why
module_why bytes (stop.Short parked) decided why = absurd why
module_why bytes (stop.Objects live) decided why = absurd why
module_why bytes (stop.Tasks live) decided why = absurd why
module_why bytes (stop.Cells used) decided why = absurd why
module_why bytes (stop.Stack depth) decided why = absurd why
module_why bytes (stop.Group size) decided why = absurd why
module_why bytes (stop.Spent entries) decided why = absurd why
module_why bytes (stop.Write written) decided why = absurd why

faults_alike : OneAnswer → (bytes : List ℕ) (f g : ModuleFault) → ModuleStops bytes (stop.Module f) → ModuleStops bytes (stop.Module g) → f ≡ g
faults_alike law bytes (Text f) (Text g) a b = ap Text (one_fault law bytes f g a b)
faults_alike law bytes (Text f) (Verify op kind) a b = absurd (no_fault law bytes b.0 f b.1.0 a)
faults_alike law bytes (Verify op kind) (Text g) a b = absurd (no_fault law bytes a.0 g a.1.0 b)
faults_alike law bytes (Verify op kind) (Verify on also) a b =
    let same : b.0 ≡ a.0 = one_read law bytes b.0 a.0 b.1.0 a.1.0 in
    let second : IsFirst a.0.funcs (record { op = on; kind = also }) =
    subst (λ (m : Module). IsFirst m.funcs (record { op = on; kind = also })) same b.1.1 in
    let one = one_first a.0.funcs (record { op = op; kind = kind }) (record { op = on; kind = also }) a.1.1 second in
    let ops : op ≡ on = ap (λ (b : Broken). b.op) one in
    let kinds_are : kind ≡ also = ap (λ (b : Broken). b.kind) one in
    cc

pub stops_alike : OneAnswer → (bytes : List ℕ) (s t : Stop) → is_decided s ≡ true → is_decided t ≡ true → ModuleStops bytes s →
    ModuleStops bytes t → s ≡ t
stops_alike law bytes s t s_is t_is a b =
    let first = module_why bytes s s_is a in
    let second = module_why bytes t t_is b in
    first.1
    ∙ ap stop.Module (faults_alike law bytes first.0 second.0 (subst (ModuleStops bytes) first.1 a) (subst (ModuleStops bytes) second.1 b))
    ∙ sym second.1

accepted_fault : OneAnswer → (bytes : List ℕ) (p : Module) (f : ModuleFault) → IsAccepted bytes p → ModuleStops bytes (stop.Module f) → ⊥
accepted_fault law bytes p (Text f) a b = no_fault law bytes p f a.0 b
accepted_fault law bytes p (Verify op kind) a b =
    let same : b.0 ≡ p = one_read law bytes b.0 p b.1.0 a.0 in
    a.1 (record { op = op; kind = kind }) (subst (λ (m : Module). IsFirst m.funcs (record { op = op; kind = kind })) same b.1.1).broken

-- an accepted text isn't refused
pub accepted_stays : OneAnswer → (bytes : List ℕ) (p : Module) (s : Stop) → is_decided s ≡ true → IsAccepted bytes p → ModuleStops bytes s → ⊥
accepted_stays law bytes p s s_is a b =
    let why = module_why bytes s s_is b in accepted_fault law bytes p why.0 a (subst (ModuleStops bytes) why.1 b)

pub one_accepted : OneAnswer → (bytes : List ℕ) (p q : Module) → IsAccepted bytes p → IsAccepted bytes q → p ≡ q
one_accepted law bytes p q a b = one_read law bytes p q a.0 b.0

-- ---- the entry

-- why a module has no entry that can be called
abbrev fit_stop : Fitted → Option Stop
fit_stop (Wrong at) = Some (stop.Args at)
fit_stop (Fits values) = None

abbrev pub entry_stop : Module → List Arg → Result FuncNo EntryFault → Option Stop
entry_stop p args (Err entry_fault.NoEntry) = Some stop.NoEntry
entry_stop p args (Err (entry_fault.EntryType op)) = Some (stop.EntryType op)
entry_stop p args (Ok function) = fit_stop (fitted_args (types_at p function) args)

pub named_stop : (p : Module) (asked : Asked) (function : FuncNo) (fitted : Fitted) → Names p asked function fitted →
    entry_stop p asked.args (entry_of p asked.entry) ≡ fit_stop fitted
named_stop p asked function fitted names = ap (entry_stop p asked.args) names.found ∙ ap fit_stop names.fits

pub entry_why : (p : Module) (asked : Asked) (s : Stop) → is_decided s ≡ true → EntryStops p asked s →
    entry_stop p asked.args (entry_of p asked.entry) ≡ Some s
entry_why p asked stop.Words decided why = absurd why
entry_why p asked stop.Read decided why = absurd why
entry_why p asked (stop.TooLong limit) decided why = absurd why
entry_why p asked (stop.Module fault) decided why = absurd why
entry_why p asked stop.NoEntry decided why = ap (entry_stop p asked.args) why
entry_why p asked (stop.EntryType op) decided why = ap (entry_stop p asked.args) why
entry_why p asked (stop.Args at) decided why = named_stop p asked why.0 (Wrong at) why.1
entry_why p asked (stop.Short parked) decided why = absurd why
entry_why p asked (stop.Objects live) decided why = absurd why
entry_why p asked (stop.Tasks live) decided why = absurd why
entry_why p asked (stop.Cells used) decided why = absurd why
entry_why p asked (stop.Stack depth) decided why = absurd why
entry_why p asked (stop.Group size) decided why = absurd why
entry_why p asked (stop.Spent entries) decided why = absurd why
entry_why p asked (stop.Write written) decided why = absurd why
entry_why p asked stop.OutOfMemory decided why = absurd (cc decided)

-- one call is asked for
pub one_names : (p : Module) (asked : Asked) (f g : FuncNo) (v w : List ArgValue) → Names p asked f (Fits v) → Names p asked g (Fits w) →
    (f ≡ g) × (v ≡ w)
one_names p asked f g v w a b =
    let founds : Ok f ≡ Ok g = sym a.found ∙ b.found in
    let numbers : f ≡ g = cc founds in
    let fits : fitted_args (types_at p f) asked.args ≡ Fits w =
    subst (λ k. fitted_args (types_at p k) asked.args ≡ Fits w) (sym numbers) b.fits in
    let both : Fits v ≡ Fits w = sym a.fits ∙ fits in
    (numbers, cc both)

-- ---- the call

abbrev call_with : Module → FuncNo → List ArgValue → Call
call_with p function values = record { program = p; function = function; values = values }

one_call : (asked : Asked) (c d : Call) → d.program ≡ c.program → IsAsked asked c → IsAsked asked d → c ≡ d
one_call asked c d same a b =
    let here : Names c.program asked d.function (Fits d.values) =
    subst (λ p. Names p asked d.function (Fits d.values)) same b in
    let both = one_names c.program asked c.function d.function c.values d.values a here in
    ap (λ p. call_with p c.function c.values) (sym same) ∙ ap (λ f. call_with d.program f c.values) both.0
    ∙ ap (call_with d.program d.function) both.1

-- what a text and what is asked give
abbrev pub CallGives : List ℕ → Asked → Result Call Stop → Type 0
CallGives bytes asked (Ok c) = IsCall bytes asked c
CallGives bytes asked (Err s) = (is_decided s ≡ true) × TextStops bytes asked s

call_not_stopped : OneAnswer → (bytes : List ℕ) (asked : Asked) (c : Call) (s : Stop) → IsCall bytes asked c → is_decided s ≡ true →
    TextStops bytes asked s → ⊥
call_not_stopped law bytes asked c s a s_is b =
    elim b [
      | inl why ↦ accepted_stays law bytes c.program s s_is a.0 why
      | inr why ↦
          let same : why.0 ≡ c.program = one_accepted law bytes why.0 c.program why.1.0 a.0 in
          let stopped = entry_why c.program asked s s_is (subst (λ m. EntryStops m asked s) same why.1.1) in
          let both : None ≡ Some s = sym (named_stop c.program asked c.function (Fits c.values) a.1) ∙ stopped in
          cc both
    ]

pub calls_alike : OneAnswer → (bytes : List ℕ) (asked : Asked) (r q : Result Call Stop) → CallGives bytes asked r → CallGives bytes asked q → r ≡ q
calls_alike law bytes asked (Ok c) (Ok d) a b =
    let same : d.program ≡ c.program = one_accepted law bytes d.program c.program b.0 a.0 in ap Ok (one_call asked c d same a.1 b.1)
calls_alike law bytes asked (Ok c) (Err s) a b = absurd (call_not_stopped law bytes asked c s a b.0 b.1)
calls_alike law bytes asked (Err s) (Ok c) a b = absurd (call_not_stopped law bytes asked c s b a.0 a.1)
calls_alike law bytes asked (Err s) (Err t) a b =
    elim a.1 [
      | inl why ↦ elim b.1 [
        | inl also ↦ ap Err (stops_alike law bytes s t a.0 b.0 why also)
        | inr also ↦ absurd (accepted_stays law bytes also.0 s a.0 also.1.0 why)
      ]
      | inr why ↦ elim b.1 [
        | inl also ↦ absurd (accepted_stays law bytes why.0 t b.0 why.1.0 also)
        | inr also ↦
            let same : also.0 ≡ why.0 = one_accepted law bytes also.0 why.0 also.1.0 why.1.0 in
            let first = entry_why why.0 asked s a.0 why.1.1 in
            let second = entry_why why.0 asked t b.0 (subst (λ m. EntryStops m asked t) same also.1.1) in
            let both : Some s ≡ Some t = sym first ∙ second in
            let stops : s ≡ t = cc both in
            ap Err stops
      ]
    ]
