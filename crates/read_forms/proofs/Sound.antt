-- Each rule leads where it says.
use Rattle.std.proofs.Common.{◌≡◌, true, List, [], refl, sym, ap, ◌∙◌, subst}
use Rattle.std.proofs.lemmas.List.{append-nil}
use Rattle.op_table.specs.declared.rows.Level.{Level}
use Rattle.ir_forms.specs.declared.types.Ty.{Ty}
use Rattle.module_grammar.specs.declared.symbols.Rule.{Rule}
use Rattle.module_grammar.specs.declared.symbols.Rule.TheVariants as rule
use Rattle.module_grammar.specs.declared.state.State.{State}
use Rattle.module_grammar.specs.State.{does}
use Rattle.module_grammar.specs.Rules.{may_end}
use Rattle.read_forms.proofs.Triples.{IsSmall, Reached, AreSound}
use Rattle.read_forms.proofs.Outcomes.{Before, BeforeFuncResults, triples}
use Rattle.read_forms.proofs.Words.{Lines, type-lines, types-lines, more-types-lines, result-types-lines, no-types, inside-lines, module-attributes-lines, dropped-dict-lines, location-lines, dict-lines, op-dict-lines, func-attributes-lines}
use Rattle.read_forms.proofs.Operands.{index-lines, no-index, uses-lines, more-uses-lines, dependencies-lines, no-uses}
use Rattle.read_forms.proofs.Params.{params-lines, more-params-lines, no-head, more-index-params-lines, no-index-params, block-params-lines, more-block-params-lines, no-block}
use Rattle.read_forms.proofs.Inits.{inits-lines, more-inits-lines, no-inits, iter-args-lines, no-iter-args, value-operands-lines, more-value-operands-lines, no-values}
use Rattle.read_forms.proofs.Results.{results-lines, more-results-lines, no-results, no-more-results}
use Rattle.read_forms.proofs.Branches.{else-lines, no-else, branches-lines, branch-types-lines, branch-type-list-lines}
use Rattle.read_forms.proofs.Literals.{literal-lines}
use Rattle.read_forms.proofs.Held.{held-lines, no-held}
use Rattle.read_forms.proofs.AfterHeld.{after-held-lines, after-colon-lines}
use Rattle.read_forms.proofs.Bodies.{form-lines, body-lines, no-body}
use Rattle.read_forms.proofs.Functions.{funcs-lines, text-lines, no-funcs}

-- ---- types of results

abbrev unread : State → State
unread s = record s { read = [] }

func-results-of : (level : Level) (s : State) → Lines level rule.FuncResults (unread s)
unfolding does
func-results-of level s = (λ t b a. (tt, λ x n. λ m. (x, refl)), tt)

func-results-lines : (level : Level) (s : State) → BeforeFuncResults s → Lines level rule.FuncResults s
func-results-lines level s h = subst (λ (z : State). Lines level rule.FuncResults z) (ap (λ (l : List Ty). record s { read = l }) (sym h.read)) (func-results-of level s)

no-func-results : (level : Level) (s : State) → BeforeFuncResults s → Reached (triples level) rule.FuncResults s s
no-func-results level s h = (
  record { types = []; written = tt; last = s.last },
  ap (λ (l : List Ty). record s { func = record (s.func) { results = l }; read = [] }) (sym h.results) ∙ ap (λ (l : List Ty). record s { read = l }) (sym h.read),
)

op-results-of : (level : Level) (s : State) → Lines level rule.OpResults (unread s)
unfolding does
op-results-of level s = (λ t b a. (tt, λ x n. λ m. (x, refl)), tt)

op-results-lines : (level : Level) (s : State) → s.read ≡ [] → Lines level rule.OpResults s
op-results-lines level s e = subst (λ (z : State). Lines level rule.OpResults z) (ap (λ (l : List Ty). record s { read = l }) (sym e)) (op-results-of level s)

no-op-results : (level : Level) (s : State) → s.read ≡ [] → Reached (triples level) rule.OpResults s s
no-op-results level s e = (
  record { types = []; written = tt; last = s.last },
  ap (λ (l : List Ty). record s { op = record (s.op) { types = l }; read = [] }) (append-nil s.op.types) ∙ ap (λ (l : List Ty). record s { read = l }) (sym e),
)

-- ---- the rules

by-line : (level : Level) (r : Rule) (s : State) → IsSmall s → Before level r s → Lines level r s
by-line level rule.Text s m h = text-lines level s h
by-line level rule.ModuleName s m h = (λ t b a. (t, refl), tt)
by-line level rule.ModuleAttributes s m h = module-attributes-lines level s
by-line level rule.Funcs s m h = funcs-lines level s h
by-line level rule.Visibility s m h = (λ t b a. (t, refl), (λ t b a. (t, refl), tt))
by-line level rule.Params s m h = params-lines level s h
by-line level rule.MoreParams s m h = more-params-lines level s h
by-line level rule.DroppedDict s m h = dropped-dict-lines level s
by-line level rule.FuncResults s m h = func-results-lines level s h
by-line level rule.FuncAttributes s m h = func-attributes-lines level s
by-line level rule.Type s m h = type-lines level s
by-line level rule.Types s m h = types-lines level s
by-line level rule.MoreTypes s m h = more-types-lines level s
by-line level rule.ResultTypes s m h = result-types-lines level s
by-line level rule.OpDict s m h = op-dict-lines level s
by-line level rule.Dict s m h = dict-lines level s
by-line level rule.Inside s m h = inside-lines level s
by-line level rule.Location s m h = location-lines level s
by-line level rule.Body s m h = body-lines level s m h
by-line level rule.Results s m h = results-lines level s
by-line level rule.MoreResults s m h = more-results-lines level s
by-line level rule.Form s m h = form-lines level s m h
by-line level rule.Literal s m h = literal-lines level s h
by-line level rule.Index s m h = index-lines level s
by-line level rule.Uses s m h = uses-lines level s
by-line level rule.MoreUses s m h = more-uses-lines level s
by-line level rule.Held s m h = held-lines level s h
by-line level rule.AfterHeld s m h = after-held-lines level s h
by-line level rule.AfterHeldColon s m h = after-colon-lines level s h
by-line level rule.IterArgs s m h = iter-args-lines level s h
by-line level rule.Inits s m h = inits-lines level s h
by-line level rule.MoreInits s m h = more-inits-lines level s h
by-line level rule.Branches s m h = branches-lines level s h
by-line level rule.BranchTypes s m h = branch-types-lines level s h
by-line level rule.BranchTypeList s m h = branch-type-list-lines level s h
by-line level rule.Else s m h = else-lines level s h
by-line level rule.BlockParams s m h = block-params-lines level s h
by-line level rule.MoreBlockParams s m h = more-block-params-lines level s h
by-line level rule.MoreIndexParams s m h = more-index-params-lines level s h
by-line level rule.Dependencies s m h = dependencies-lines level s
by-line level rule.ValueOperands s m h = value-operands-lines level s h
by-line level rule.MoreValueOperands s m h = more-value-operands-lines level s h
by-line level rule.OpResults s m h = op-results-lines level s h

by-none : (level : Level) (r : Rule) (s : State) → IsSmall s → may_end r ≡ true → Before level r s → Reached (triples level) r s s
by-none level rule.Text s m e h = no-funcs level s h
by-none level rule.ModuleName s m e h = (s.last, refl)
by-none level rule.ModuleAttributes s m e h = (s.last, refl)
by-none level rule.Funcs s m e h = no-funcs level s h
by-none level rule.Visibility s m e h = (s.last, refl)
by-none level rule.Params s m e h = no-head s h
by-none level rule.MoreParams s m e h = no-head s h
by-none level rule.DroppedDict s m e h = (s.last, refl)
by-none level rule.FuncResults s m e h = no-func-results level s h
by-none level rule.FuncAttributes s m e h = (record { dict = record { last = s.last; entry = s.entry; entry_at = s.entry_at }; at = s.func.at; fits = λ g. g }, refl)
by-none level rule.Type s m e h = absurd cc
by-none level rule.Types s m e h = no-types s
by-none level rule.MoreTypes s m e h = no-types s
by-none level rule.ResultTypes s m e h = absurd cc
by-none level rule.OpDict s m e h = (record { dict = record { last = s.last; entry = s.entry; entry_at = s.entry_at }; at = s.op.at; fits = λ g. g }, refl)
by-none level rule.Dict s m e h = absurd cc
by-none level rule.Inside s m e h = (s.last, refl)
by-none level rule.Location s m e h = (s.last, refl)
by-none level rule.Body s m e h = no-body level s h
by-none level rule.Results s m e h = no-results s
by-none level rule.MoreResults s m e h = no-more-results s
by-none level rule.Form s m e h = absurd cc
by-none level rule.Literal s m e h = absurd cc
by-none level rule.Index s m e h = no-index level s h
by-none level rule.Uses s m e h = no-uses s
by-none level rule.MoreUses s m e h = no-uses s
by-none level rule.Held s m e h = no-held level s h
by-none level rule.AfterHeld s m e h = absurd cc
by-none level rule.AfterHeldColon s m e h = absurd cc
by-none level rule.IterArgs s m e h = no-iter-args level s h
by-none level rule.Inits s m e h = no-inits s
by-none level rule.MoreInits s m e h = no-inits s
by-none level rule.Branches s m e h = absurd cc
by-none level rule.BranchTypes s m e h = absurd cc
by-none level rule.BranchTypeList s m e h = absurd cc
by-none level rule.Else s m e h = no-else level s h
by-none level rule.BlockParams s m e h = no-block s h
by-none level rule.MoreBlockParams s m e h = no-block s h
by-none level rule.MoreIndexParams s m e h = no-index-params s
by-none level rule.Dependencies s m e h = no-uses s
by-none level rule.ValueOperands s m e h = no-values s h
by-none level rule.MoreValueOperands s m e h = no-values s h
by-none level rule.OpResults s m e h = no-op-results level s h

pub are-sound : (level : Level) → AreSound (triples level) level
are-sound level = record { by_line = by-line level; by_none = by-none level }
