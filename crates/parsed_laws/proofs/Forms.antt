-- The form of a module that is read.
use Rattle.std.proofs.Common.{◌<◌, ℕ, List, [], ◌∷◌, None, sym, subst, arith}
use Rattle.op_table.specs.declared.rows.Level.{Level}
use Rattle.ir_forms.specs.declared.ops.Func.{Func}
use Rattle.ir_forms.specs.declared.ops.Module.{Module}
use Rattle.module_grammar.specs.declared.state.TextToken.{TextToken}
use Rattle.module_grammar.specs.declared.faults.TextLimits.{TextLimits}
use Rattle.mlir_text.specs.Texts.{IsTextOf}
use Rattle.mlir_text.specs.Tokens.{AreTokensOf}
use Rattle.source_meaning.specs.TaskOrder.{Each}
use Rattle.check_laws.specs.Fits.{HasSmallTypes}
use Rattle.check_laws.specs.Laws.{HasNoBodyParams}
use Rattle.checked_values.specs.Laws.{DefinesOnce, IsInOrder}
use Rattle.read_forms.specs.Reads.{HaveBytes}
use Rattle.read_forms.proofs.Outcomes.{FuncShows, FuncsShow}
use Rattle.parsed_laws.specs.Texts.{IsRead, ReadsInOrder, ReadsWellFormed}
use Rattle.parsed_laws.proofs.Bytes.{tokens_have_bytes}
use Rattle.parsed_laws.proofs.Shown.{tokens_show}
use Rattle.parsed_laws.proofs.Types.{no_params, small_types}
use Rattle.parsed_laws.proofs.Values.{in_order, once}

pub token_bytes : (text : List ℕ) (ts : List TextToken) → AreTokensOf text ts → HaveBytes ts
token_bytes text ts (tokens, cut, are) = subst HaveBytes (sym are) (tokens_have_bytes text None tokens cut.0)

pub text_shows : (limits : TextLimits) (level : Level) (text : List ℕ) (m : Module) → limits.values < 4294967295 → IsTextOf limits level text m → FuncsShow level m.funcs
text_shows limits level text m few (ts, cut, (s, leads, is, within)) =
    let values = within.values in
    subst (λ (p : Module). FuncsShow level p.funcs) (sym is) (tokens_show level ts s leads (token_bytes text ts cut) (omega (arith, values, few)))

each-shows : (level : Level) (P : Func → Type 0) → ((f : Func) → FuncShows level f → P f) → (fs : List Func) → FuncsShow level fs → Each P fs
each-shows level P one [] h = tt
each-shows level P one (f ∷ fs) h = (one f h.0, each-shows level P one fs h.1)

pub reads_in_order : ReadsInOrder
reads_in_order limits level text m h = each-shows level IsInOrder (in_order level) m.funcs (text_shows limits level text m h.few h.is)

-- no function that is read defines a value twice or has parameters in its body, and its types are small
pub forms : (limits : TextLimits) (level : Level) (text : List ℕ) (m : Module) → IsRead limits level text m → Each DefinesOnce m.funcs × Each HasNoBodyParams m.funcs × Each HasSmallTypes m.funcs
forms limits level text m h =
    let shows = text_shows limits level text m h.few h.is in (
      each-shows level DefinesOnce (λ f s. once f (in_order level f s)) m.funcs shows,
      each-shows level HasNoBodyParams (no_params level) m.funcs shows,
      each-shows level HasSmallTypes (small_types level) m.funcs shows,
    )

pub reads_well_formed : ReadsWellFormed
reads_well_formed limits level text m h sound =
    let f = forms limits level text m h in
    record { sound = sound; once = f.0; bodies = f.1; types = f.2 }
