-- The first fault of the tokens of a text, within limits.
use Rattle.std.specs.Prelude.{◌≡◌, ◌≤◌, ℕ, zero, suc, ◌+◌, ◌-◌, Bool, true, false, not, ◌&&◌, ◌||◌, ◌↔◌, if◌then◌else◌, nat_le, nat_lt, List, [], ◌∷◌, ◌++◌, length, Option, Some, None, is_some, unwrap_or, Result, Ok, Err}
use Rattle.op_table.specs.declared.kind.OpKind.{OpKind}
use Rattle.op_table.specs.declared.rows.Level.{Level}
use Rattle.op_table.specs.Rows.{all_kinds, stands_at}
use Rattle.ir_forms.specs.declared.ops.Module.{Module}
use Rattle.module_grammar.specs.declared.symbols.Class.{Class}
use Rattle.module_grammar.specs.declared.symbols.Class.TheVariants as class
use Rattle.module_grammar.specs.declared.symbols.Rule.TheVariants as rule
use Rattle.module_grammar.specs.declared.symbols.Act.TheVariants as act
use Rattle.module_grammar.specs.declared.symbols.Symbol.{Symbol}
use Rattle.module_grammar.specs.declared.symbols.Symbol.TheVariants as symbol
use Rattle.module_grammar.specs.declared.sought.Sought.{Sought}
use Rattle.module_grammar.specs.declared.sought.Sought.TheVariants as sought
use Rattle.module_grammar.specs.declared.faults.TextLimits.{TextLimits}
use Rattle.module_grammar.specs.declared.faults.Limited.TheVariants as limited
use Rattle.module_grammar.specs.declared.faults.GrammarFault.{GrammarFault}
use Rattle.module_grammar.specs.declared.faults.GrammarFault.TheVariants as fault
use Rattle.module_grammar.specs.Engine.{Line, Place, Leads, Begins, step, close}
use Rattle.module_grammar.specs.declared.state.TextToken.{TextToken}
use Rattle.module_grammar.specs.declared.state.Name.{Name}
use Rattle.module_grammar.specs.declared.state.State.{State}
use Rattle.module_grammar.specs.declared.state.DictEntry.{DictEntry}
use Rattle.module_grammar.specs.declared.state.DictEntry.TheVariants as entry
use Rattle.module_grammar.specs.Tokens.{kind_among, is_number_kind, number_of, type_of}
use Rattle.module_grammar.specs.State.{at_start, module_of, count_of, with_names, up, does}
use Rattle.module_grammar.specs.Rules.{grammar, kinds_at, is_of, is_name, is_value_name, is_byte, is_one, are_new, lines, may_end}
use Rattle.module_grammar.specs.Texts.{whole, BeginsText}

-- ---- limits

-- what a text has begun is within the limits
pub record IsWithin (limits : TextLimits) (s : State) : Type 0 where
  pub operations : s.begun ≤ limits.operations
  pub functions : s.functions ≤ limits.functions
  pub depth : s.deepest ≤ limits.depth
  pub values : s.counted ≤ limits.values

-- the tokens are a text of the level that stands for the module, and are within the limits
abbrev pub IsTextWithin : TextLimits → Level → List TextToken → Module → Type 0
IsTextWithin limits level ts m = (s : State) × Leads (grammar level) whole at_start ts s × (m ≡ module_of s) × IsWithin limits s

-- the place of the token of number n or of the last, or `at` where there is none
abbrev pub place_in : List TextToken → ℕ → ℕ → ℕ
place_in [] n at = at
place_in (t ∷ ts) zero at = t.at
place_in (t ∷ ts) (suc n) at = place_in ts n t.at

-- the place of the first name with which more than `room` values are named
abbrev pub name_past : List Name → ℕ → Option ℕ
name_past [] room = None
name_past (n ∷ ns) room = if nat_lt room (count_of n.count) then Some n.at else name_past ns (room - count_of n.count)

abbrev pub or_at : Option ℕ → ℕ → ℕ
or_at (Some at) other = at
or_at None other = other

-- where an operation begins with which the token ends: at the first of the names held, which are its results, or here
abbrev pub op_place : State → TextToken → ℕ
op_place before t = place_in before.held 0 t.at

-- the place of the last name, or the one before
abbrev pub last_place : List Name → Option ℕ → Option ℕ
last_place [] before = before
last_place (n ∷ ns) before = last_place ns (Some n.at)

-- the values' name that passes the limit, where the token settles what the names before it are: the names held, the results
-- that `=` ends, the result whose values a number counts, or the name here
abbrev pub value_place : ℕ → State → TextToken → ℕ
value_place limit before t =
    place_in before.held (limit - before.counted)
    (if is_byte 61 t.kind then or_at (name_past before.op.results (limit - before.counted)) t.at
    else (if is_number_kind t.kind then or_at (last_place before.op.results None) t.at else t.at))

-- what a text has begun passes a limit
abbrev pub passes : TextLimits → State → Bool
passes limits s =
    nat_lt limits.operations s.begun || nat_lt limits.functions s.functions || nat_lt limits.depth s.deepest || nat_lt limits.values s.counted

-- the limit that a token passes, by which the state is led to `now`
abbrev pub limit_passed : TextLimits → State → State → TextToken → Option GrammarFault
limit_passed limits before now t =
    if nat_lt limits.operations now.begun then Some (fault.Limit limited.Operations (op_place before t))
    else (if nat_lt limits.functions now.functions then Some (fault.Limit limited.Functions t.at)
    else (if nat_lt limits.depth now.deepest then Some (fault.Limit limited.Depth t.at)
    else (if nat_lt limits.values now.counted then Some (fault.Limit limited.Values (value_place limits.values before t))
    else None)))

-- ---- what fits

-- one of these classes is that of a first word of the lines
abbrev pub any_first : (Class → Bool) → List Line → Bool
any_first test [] = false
any_first test (l ∷ ls) = test l.first || any_first test ls

abbrev pub is_op_class : Class → Bool
is_op_class (class.OpName k) = true
is_op_class _ = false

abbrev pub is_type_class : Class → Bool
is_type_class class.PlainType = true
is_type_class class.ValueType = true
is_type_class class.Payload = true
is_type_class class.MemrefType = true
is_type_class class.GroupType = true
is_type_class class.TruthType = true
is_type_class _ = false

abbrev pub is_number_class : Class → Bool
is_number_class class.Number = true
is_number_class class.Negated = true
is_number_class _ = false

abbrev pub is_param_class : Class → Bool
is_param_class class.Param = true
is_param_class _ = false

abbrev pub is_result_class : Class → Bool
is_result_class class.Result = true
is_result_class _ = false

abbrev pub is_held_number : Class → Bool
is_held_number class.HeldNumber = true
is_held_number _ = false

abbrev pub is_entry_end : Class → Bool
is_entry_end class.EntryClose = true
is_entry_end _ = false

-- the classes that are sought
abbrev pub seeks : Sought → Class → Bool
seeks sought.Op c = is_op_class c
seeks sought.Type c = is_type_class c
seeks sought.Number c = is_number_class c
seeks sought.Param c = is_param_class c
seeks sought.Result c = is_result_class c
seeks sought.HeldNumber c = is_held_number c
seeks sought.EntryEnd c = is_entry_end c

-- a word of a class that is sought fits first
abbrev pub fits_first : Level → Sought → List Symbol → Bool
fits_first level w [] = false
fits_first level w (symbol.Word c ∷ k) = seeks w c
fits_first level w (symbol.Do a ∷ k) = fits_first level w k
fits_first level w (symbol.Rule r ∷ k) = any_first (seeks w) (lines level r) || (may_end r && fits_first level w k)

-- ---- the fault of a token that doesn't fit

abbrev pub stands_if : Level → Option OpKind → Bool
stands_if level (Some k) = stands_at k level
stands_if level None = false

-- an operation of the level has this name
abbrev pub has_row : Level → List ℕ → Bool
has_row level text = stands_if level (kind_among all_kinds text)

-- the token begins a type of the grammar
abbrev pub begins_type : TextToken → Bool
begins_type t = is_some (type_of t) || is_of class.ValueType t

-- the names on the left of an operation whose `=` isn't read yet
abbrev pub names_open : List Symbol → Bool
names_open (symbol.Do act.CountNames ∷ k) = true
names_open (symbol.Do act.Result ∷ k) = names_open k
names_open (symbol.Do act.ResultCount ∷ k) = names_open k
names_open (symbol.Word class.Result ∷ k) = names_open k
names_open (symbol.Word class.Number ∷ k) = names_open k
names_open (symbol.Rule rule.Results ∷ k) = names_open k
names_open (symbol.Rule rule.MoreResults ∷ k) = names_open k
names_open _ = false

abbrev pub results_open : List Symbol → State → List Name
results_open k s = if names_open k then s.op.results else []

-- a number is read as that of a name's values, which stands for more than any limit where it is wide
abbrev pub counts_values : List Symbol → Bool
counts_values (symbol.Word class.Number ∷ k) = names_open k
counts_values _ = false

-- the fault of the number of a whole entry that isn't below 2^32
abbrev pub wide_fault : DictEntry → Option GrammarFault
wide_fault (entry.Whole (Some n) at) = if nat_le 4294967296 n then Some (fault.Syntax at) else None
wide_fault (entry.Whole None at) = Some (fault.WideNumber at)
wide_fault _ = None

-- the fault of the entry of a dictionary that ends here
abbrev pub entry_fault : Level → List Symbol → State → TextToken → Option GrammarFault
entry_fault level k s t =
    if fits_first level sought.EntryEnd k && (is_byte 44 t.kind || is_byte 125 t.kind) then wide_fault s.entry else None

-- the results of the next operation are held, and the token is their number, but a wide one
abbrev pub counts_held : Level → List Symbol → State → TextToken → Bool
counts_held level k s t = fits_first level sought.HeldNumber k && is_number_kind t.kind && is_one s.held && are_new s s.held

-- how many values a name has that begins an operation, where these tokens follow it: as many as the number behind a colon says,
-- which stands for more than any limit where it is wide, else one
abbrev pub values_before : List TextToken → ℕ
values_before (c ∷ n ∷ ts) = if is_byte 58 c.kind && is_number_kind n.kind then unwrap_or (number_of n) 4294967296 else 1
values_before _ = 1

-- a second definition of a visible name, before these tokens: the limits that a new name would pass here, else Syntax
abbrev pub second_fault : TextLimits → Level → List Symbol → State → TextToken → List TextToken → GrammarFault
second_fault limits level k s t rest =
    if begins && nat_lt limits.operations (s.begun + 1) then fault.Limit limited.Operations t.at
    else (if nat_lt limits.values (up (with_names s.counted (results_open k s)) values) then fault.Limit limited.Values t.at else fault.Syntax t.at)
  where
    begins : Bool
    begins = fits_first level sought.Op k

    values : ℕ
    values = if begins then values_before rest else 1

-- an operation's name fits here, and the token is a name that no operation of the level has
abbrev pub is_unknown_op : Level → List Symbol → TextToken → Bool
is_unknown_op level k t = fits_first level sought.Op k && is_name t.kind && not (has_row level t.text)

-- a type fits here, and the token begins none
abbrev pub is_unknown_type : Level → List Symbol → TextToken → Bool
is_unknown_type level k t = fits_first level sought.Type k && not (begins_type t)

-- a number fits here, and the token is one
abbrev pub is_wide_number : Level → List Symbol → TextToken → Bool
is_wide_number level k t = fits_first level sought.Number k && is_number_kind t.kind

-- a new name fits here, and the token is a name
abbrev pub is_second_name : Level → List Symbol → TextToken → Bool
is_second_name level k t = is_value_name t.kind && (fits_first level sought.Param k || fits_first level sought.Result k)

-- the fault of a token that doesn't fit, where no name before it passes a limit
abbrev pub token_fault : TextLimits → Level → List Symbol → State → TextToken → List TextToken → GrammarFault
token_fault limits level k s t rest =
    if is_unknown_op level k t then fault.UnknownOp t.at
    else (if is_unknown_type level k t then fault.UnknownType t.at
    else (if is_wide_number level k t then fault.WideNumber t.at
    else (if is_second_name level k t then second_fault limits level k s t rest
    else fault.Syntax t.at)))

-- the operations begun pass their limit at the name held, or the values do
abbrev pub held_fault : TextLimits → State → TextToken → GrammarFault
held_fault limits s t =
    if nat_lt limits.operations (s.begun + 1) then fault.Limit limited.Operations (place_in s.held 0 t.at)
    else fault.Limit limited.Values (place_in s.held 0 t.at)

abbrev pub names_fault : Option ℕ → GrammarFault → GrammarFault
names_fault (Some at) other = fault.Limit limited.Values at
names_fault None other = other

-- the place of the name that passes the limit, or of the last where the token is a wide number of its values
abbrev pub past_or_wide : Option ℕ → List Symbol → State → TextToken → Option ℕ
past_or_wide (Some at) k s t = Some at
past_or_wide None k s t = if counts_values k && is_number_kind t.kind then last_place s.op.results None else None

-- the place of the name that passes the limit, among results whose `=` isn't read yet; a wide number counts more than any limit
abbrev pub open_name_past : TextLimits → List Symbol → State → TextToken → Option ℕ
open_name_past limits k s t = past_or_wide (name_past (results_open k s) (limits.values - s.counted)) k s t

abbrev pub fault_or : Option GrammarFault → GrammarFault → GrammarFault
fault_or (Some f) other = f
fault_or None other = other

-- the fault of a token that doesn't fit, where the names held are within the limit as far as they can only be operands
abbrev pub fault_there : TextLimits → Level → List Symbol → State → TextToken → List TextToken → GrammarFault
fault_there limits level k s t rest =
    if counts_held level k s t then held_fault limits s t
    else names_fault (open_name_past limits k s t) (fault_or (entry_fault level k s t) (token_fault limits level k s t rest))

-- the names held here can only be operands
abbrev pub holds_operands : List Symbol → State → Bool
holds_operands (symbol.Rule rule.AfterHeld ∷ k) s = not (are_new s s.held)
holds_operands (symbol.Word class.Use ∷ symbol.Do act.Hold ∷ k) s = not (are_new s s.held)
holds_operands (symbol.Rule rule.AfterHeldColon ∷ k) s = not (is_one s.held && are_new s s.held)
holds_operands _ s = false

-- the place of the name held that passes the limit, where they can only be operands
abbrev pub held_past : TextLimits → List Symbol → State → Option ℕ
held_past limits k s =
    if holds_operands k s && nat_lt (limits.values - s.counted) (length s.held) then Some (place_in s.held (limits.values - s.counted) 0) else None

-- the fault of a token that doesn't fit, before these tokens
abbrev pub refusal : TextLimits → Level → List Symbol → State → TextToken → List TextToken → GrammarFault
refusal limits level k s t rest = names_fault (held_past limits k s) (fault_there limits level k s t rest)

-- ---- the whole text

-- the symbols and the state behind the actions that stand first
abbrev pub settled : List Symbol → State → Place State
settled [] s = record { left = []; state = s }
settled (symbol.Do a ∷ k) s = settled k (does a s)
settled (symbol.Word c ∷ k) s = record { left = symbol.Word c ∷ k; state = s }
settled (symbol.Rule r ∷ k) s = record { left = symbol.Rule r ∷ k; state = s }

-- at the end of the tokens, which is that of a text where nothing is left
abbrev pub ended : TextLimits → Option State → State → Result State GrammarFault
ended limits None s = Err (fault.Syntax s.last.at)
ended limits (Some last) s = elim (limit_passed limits s last s.last) [
  | None ↦ Ok last
  | Some f ↦ Err f
]

-- The last state, or the first fault. `k` and `s` are settled.
abbrev pub walk : TextLimits → Level → List Symbol → State → List TextToken → Result State GrammarFault
walk limits level k s [] = ended limits (close (grammar level) k s) s
walk limits level k s (t ∷ ts) = elim (step (grammar level) k s t) [
  | None ↦ Err (refusal limits level k s t ts)
  | Some p ↦ elim (limit_passed limits s (settled p.left p.state).state t) [
    | Some f ↦ Err f
    | None ↦ walk limits level (settled p.left p.state).left (settled p.left p.state).state ts
  ]
]

abbrev pub module_or : Result State GrammarFault → Result Module GrammarFault
module_or (Ok s) = Ok (module_of s)
module_or (Err f) = Err f

-- the module that the tokens of a text stand for, or their first fault
abbrev pub parsed : TextLimits → Level → List TextToken → Result Module GrammarFault
parsed limits level ts = module_or (walk limits level whole at_start ts)

-- ---- the laws

-- the place to which tokens lead, where each of them fits
abbrev pub reached : Level → List Symbol → State → List TextToken → Option (Place State)
reached level k s [] = Some (record { left = k; state = s })
reached level k s (t ∷ ts) = elim (step (grammar level) k s t) [
  | None ↦ None
  | Some p ↦ reached level (settled p.left p.state).left (settled p.left p.state).state ts
]

-- Why a fault is that of a text, of which the front leads to the place and the rest is left: the next token doesn't fit, and the
-- names held that can only be operands are within the limit, or pass it; or the token fits and passes a limit; or no token is left
-- where the text isn't at its end, or what stands behind the last passes a limit.
pub data IsCause (limits : TextLimits) (level : Level) (k : List Symbol) (s : State) (front : List TextToken) (place : Place State) :
    List TextToken → GrammarFault → Type 0 where
  refused : (t : TextToken) (rest : List TextToken) → (Begins (grammar level) k s (front ++ t ∷ []) → ⊥)
      → held_past limits place.left place.state ≡ None
      → IsCause limits level k s front place (t ∷ rest) (fault_there limits level place.left place.state t rest)
  held : (t : TextToken) (rest : List TextToken) (at : ℕ) → (Begins (grammar level) k s (front ++ t ∷ []) → ⊥)
      → held_past limits place.left place.state ≡ Some at
      → IsCause limits level k s front place (t ∷ rest) (fault.Limit limited.Values at)
  passed : (t : TextToken) (rest : List TextToken) (p : Place State) (f : GrammarFault) → Begins (grammar level) k s (front ++ t ∷ [])
      → step (grammar level) place.left place.state t ≡ Some p
      → limit_passed limits place.state (settled p.left p.state).state t ≡ Some f
      → IsCause limits level k s front place (t ∷ rest) f
  cut : close (grammar level) place.left place.state ≡ None
      → IsCause limits level k s front place [] (fault.Syntax place.state.last.at)
  passed_last : (last : State) (f : GrammarFault) → close (grammar level) place.left place.state ≡ Some last
      → limit_passed limits place.state last place.state.last ≡ Some f → IsCause limits level k s front place [] f

-- The tokens, read from these symbols and this state on, have this first fault: what stands before it begins a text, is within
-- the limits, and leads to the place whose fault it is.
pub record HasFault (limits : TextLimits) (level : Level) (k : List Symbol) (s : State) (ts : List TextToken) (f : GrammarFault) : Type 0 where
  pub front : List TextToken
  pub rest : List TextToken
  pub parts : ts ≡ front ++ rest
  pub place : Place State
  pub leads : reached level k s front ≡ Some place
  pub within : IsWithin limits place.state
  pub fits : Begins (grammar level) k s front
  pub cause : IsCause limits level k s front place rest f

-- each fault that is answered is the first of the text
abbrev pub NamesFirstFault : Type 0
NamesFirstFault = (limits : TextLimits) (level : Level) (ts : List TextToken) (f : GrammarFault)
    → parsed limits level ts ≡ Err f → HasFault limits level whole at_start ts f

-- the module is that of a text within the limits, exactly where it is the answer
abbrev pub AcceptsExactly : Type 0
AcceptsExactly = (limits : TextLimits) (level : Level) (ts : List TextToken) (m : Module)
    → (parsed limits level ts ≡ Ok m) ↔ IsTextWithin limits level ts m

-- the token is a name that no operation of the level has
abbrev pub names_no_op : Level → TextToken → Bool
names_no_op level t = is_name t.kind && not (has_row level t.text)

-- the token is the name of an operation that stands in the bodies of the level
abbrev pub names_form : Level → TextToken → Bool
names_form level t = is_name t.kind && is_some (kind_among (kinds_at level) t.text)

abbrev pub begins_no_type : TextToken → Bool
begins_no_type t = not (begins_type t)

-- The tokens lead to a place, and what they begin is within the limits, with the names held as far as they can only be operands.
pub record LeadsWithin (limits : TextLimits) (level : Level) (front : List TextToken) : Type 0 where
  pub place : Place State
  pub leads : reached level whole at_start front ≡ Some place
  pub within : IsWithin limits place.state
  pub held : held_past limits place.left place.state ≡ None

-- Why something is unknown: at this place stands a wrong token, with which no text of the level goes on behind what stands
-- before it, and a right one, put in its place, goes on there.
pub record IsUnknown (limits : TextLimits) (level : Level) (ts : List TextToken) (at : ℕ) (wrong right : TextToken → Bool) : Type 0 where
  pub front : List TextToken
  pub token : TextToken
  pub rest : List TextToken
  pub parts : ts ≡ front ++ token ∷ rest
  pub here : token.at ≡ at
  pub is_wrong : wrong token ≡ true
  pub within : LeadsWithin limits level front
  pub fits : BeginsText level front
  pub refused : BeginsText level (front ++ token ∷ []) → ⊥
  pub other : TextToken
  pub is_right : right other ≡ true
  pub goes_on : BeginsText level (front ++ other ∷ [])

-- UnknownOp is answered exactly at a name that no operation of the level has, where that of one would fit
abbrev pub TellsUnknownOp : Type 0
TellsUnknownOp = (limits : TextLimits) (level : Level) (ts : List TextToken) (at : ℕ)
    → (parsed limits level ts ≡ Err (fault.UnknownOp at)) ↔ IsUnknown limits level ts at (names_no_op level) (names_form level)

-- UnknownType is answered at a token that begins no type, and only where one that begins a type would fit
abbrev pub TellsUnknownType : Type 0
TellsUnknownType = (limits : TextLimits) (level : Level) (ts : List TextToken) (at : ℕ)
    → parsed limits level ts ≡ Err (fault.UnknownType at) → IsUnknown limits level ts at begins_no_type begins_type

-- It is answered wherever a token that begins a type would fit, but not each name, as within the brackets of a dictionary, at
-- any token that begins none and is no number, which may be that of a name's values.
abbrev pub FindsUnknownType : Type 0
FindsUnknownType = (limits : TextLimits) (level : Level) (ts : List TextToken) (at : ℕ)
    → (u : IsUnknown limits level ts at begins_no_type begins_type) → is_number_kind u.token.kind ≡ false
    → (name : TextToken) → is_name name.kind ≡ true → (BeginsText level (u.front ++ name ∷ []) → ⊥)
    → parsed limits level ts ≡ Err (fault.UnknownType at)
