-- What is asked before each rule of the grammar, and what it may make of a state.
use Rattle.std.proofs.Common.{◌≡◌, ◌<◌, ◌≤◌, ◌⊎◌, ℕ, ◌+◌, Bool, true, false, List, [], ◌∷◌, ◌++◌, length, map, replicate, Option, None}
use Rattle.std.specs.Prelude.{⊤}
use Rattle.int_ops.specs.declared.Width.TheVariants.{W1}
use Rattle.op_table.specs.declared.kind.OpKind.{OpKind}
use Rattle.op_table.specs.declared.kind.OpKind.TheVariants as op
use Rattle.op_table.specs.declared.rows.Level.{Level}
use Rattle.ir_forms.specs.declared.ops.Op.{Op}
use Rattle.ir_forms.specs.declared.ops.Region.{Region, roll-Region}
use Rattle.ir_forms.specs.declared.ops.Func.{Func}
use Rattle.ir_forms.specs.declared.ops.ValueNo.{ValueNo}
use Rattle.ir_forms.specs.declared.ops.Attr.{Attr}
use Rattle.ir_forms.specs.declared.ops.Attr.TheVariants as attr
use Rattle.ir_forms.specs.declared.types.Ty.{Ty}
use Rattle.ir_forms.specs.declared.types.Ty.TheVariants as ty
use Rattle.module_grammar.specs.declared.symbols.Rule.{Rule}
use Rattle.module_grammar.specs.declared.symbols.Rule.TheVariants as rule
use Rattle.module_grammar.specs.declared.state.TextToken.{TextToken}
use Rattle.module_grammar.specs.declared.state.Name.{Name}
use Rattle.module_grammar.specs.declared.state.Param.{Param}
use Rattle.module_grammar.specs.declared.state.OpenOp.{OpenOp}
use Rattle.module_grammar.specs.declared.state.DictEntry.{DictEntry}
use Rattle.module_grammar.specs.declared.state.State.{State}
use Rattle.module_grammar.specs.State.{no_op, without_last, values_of, name_at, number_up, op_of, with_else, param_names}
use Rattle.mlir_print.specs.Printable.{AreBytes, IsWritten, AreWritten, HaveTypes, IsEnded, payload, typed_by, NumberOn, Scope, defining, param_types}
use Rattle.read_forms.proofs.Triples.{Triples}
use Rattle.read_forms.proofs.Scopes.{seen_of, IsSeenOrNot, AreSeenOrNot, IsNamed}
use Rattle.read_forms.proofs.Shows.{Piece, Shows}

-- ---- words and types

pub record TypeRead : Type 0 where
  pub type : Ty
  pub written : IsWritten type
  pub last : TextToken

pub record TypesRead : Type 0 where
  pub types : List Ty
  pub written : AreWritten types
  pub last : TextToken

pub record DictRead : Type 0 where
  pub last : TextToken
  pub entry : DictEntry
  pub entry_at : Option ℕ

-- a dictionary that may give a number
pub record NumberRead (before : ℕ) : Type 0 where
  pub dict : DictRead
  pub at : ℕ
  pub fits : before < 4294967296 → at < 4294967296

abbrev pub with_dict : DictRead → State → State
with_dict d s = record s { last = d.last; entry = d.entry; entry_at = d.entry_at }

-- ---- operands

pub record IndexRead (visible : List Name) : Type 0 where
  pub value : ValueNo
  pub is_seen : IsSeenOrNot (seen_of visible) value
  pub last : TextToken

pub record UsesRead (visible : List Name) (before : ℕ) : Type 0 where
  pub values : List ValueNo
  pub are_seen : AreSeenOrNot (seen_of visible) values
  pub counted : ℕ
  pub rises : before + length values ≤ counted
  pub used : List ℕ
  pub last : TextToken

abbrev pub with_uses : (s : State) → UsesRead s.visible s.counted → State
with_uses s x = record s { op = record (s.op) { operands = s.op.operands ++ x.values }; used = x.used; last = x.last; counted = x.counted }

-- the last operand may be no value or a visible one
pub record HasOperand (s : State) : Type 0 where
  pub others : List ValueNo
  pub value : ValueNo
  pub are : s.op.operands ≡ others ++ value ∷ []
  pub is_seen : IsSeenOrNot (seen_of s.visible) value

-- ---- parameters

-- the parameters number on from n and have these types
abbrev pub AreParams : ℕ → List Param → List Ty → Type 0
AreParams n [] ts = ts ≡ []
AreParams n (p ∷ ps) [] = ⊥
AreParams n (p ∷ ps) (t ∷ ts) = (p.name.first ≡ n) × (p.name.count ≡ None) × (p.ty ≡ t) × (n < 4294967295) × AreParams (n + 1) ps ts

-- there is room for the next value
abbrev pub HasRoom : State → Type 0
HasRoom s = s.next ≤ s.counted

pub record ParamsRead (first before : ℕ) : Type 0 where
  pub params : List Param
  pub types : List Ty
  pub are : AreParams first params types
  pub next : ℕ
  pub next_is : next ≡ first + length params
  pub counted : ℕ
  pub rises : before + length params ≤ counted
  pub last : TextToken

pub record HeadRead (first before : ℕ) : Type 0 where
  pub read : ParamsRead first before
  pub written : AreWritten read.types

pub record IndexParamsRead (first before : ℕ) : Type 0 where
  pub read : ParamsRead first before
  pub indices : read.types ≡ replicate (length read.params) ty.Index

-- parameters and as many operands
pub record InitsRead (visible : List Name) (first before : ℕ) : Type 0 where
  pub read : ParamsRead first before
  pub values : List ValueNo
  pub are_seen : AreSeenOrNot (seen_of visible) values
  pub untyped : read.types ≡ replicate (length values) ty.Untyped
  pub rises : before + length values ≤ read.counted
  pub used : List ℕ

pub record IterArgsRead (visible : List Name) (first before : ℕ) : Type 0 where
  pub read : ParamsRead first before
  pub values : List ValueNo
  pub are_seen : AreSeenOrNot (seen_of visible) values
  pub types : List Ty
  pub written : AreWritten types
  pub have : HaveTypes (length values) types
  pub typed : read.types ≡ typed_by (length values) types
  pub used : List ℕ

pub record ValuesRead (visible : List Name) (first before : ℕ) : Type 0 where
  pub read : ParamsRead first before
  pub values : List ValueNo
  pub are_seen : AreSeenOrNot (seen_of visible) values
  pub types : List Ty
  pub written : AreWritten types
  pub as_many : length values ≡ length types
  pub typed : read.types ≡ map payload types
  pub rises : before + length values ≤ read.counted
  pub used : List ℕ

abbrev pub with_params : (s : State) → ParamsRead s.next s.counted → State
with_params s x = record s { op = record (s.op) { params = s.op.params ++ x.params }; next = x.next; counted = x.counted; last = x.last }

-- ---- results

pub record ResultsRead (left : List Name) (first : ℕ) : Type 0 where
  pub results : List Name
  pub next : ℕ
  pub last : TextToken
  pub named : (t : TextToken) (n : ℕ) → left ≡ name_at t n ∷ [] → first ≡ number_up n 1 → IsNamed n results next

pub record MoreResultsRead (before : List Name) (first : ℕ) : Type 0 where
  pub results : List Name
  pub next : ℕ
  pub last : TextToken
  pub named : (n : ℕ) → IsNamed n before first → IsNamed n (before ++ results) next

pub record HasResult (s : State) : Type 0 where
  pub token : TextToken
  pub number : ℕ
  pub is : s.op.results ≡ name_at token number ∷ []
  pub next_is : s.next ≡ number_up number 1

-- ---- operations

-- parts of a state of which little is said
pub record Rest : Type 0 where
  pub last : TextToken
  pub used : List ℕ
  pub begun : ℕ
  pub deepest : ℕ
  pub counted : ℕ
  pub entry : DictEntry
  pub entry_at : Option ℕ

abbrev pub with_rest : Rest → State → State
with_rest r s = record s { last = r.last; used = r.used; begun = r.begun; deepest = r.deepest; counted = r.counted; entry = r.entry; entry_at = r.entry_at }

abbrev pub rest_of : State → Rest
rest_of s = record { last = s.last; used = s.used; begun = s.begun; deepest = s.deepest; counted = s.counted; entry = s.entry; entry_at = s.entry_at }

abbrev pub scope_at : ℕ → List Name → Scope
scope_at n names = record { next = n; seen = seen_of names }

-- an operation of this kind, with this number and these results, of which nothing else is read
abbrev pub opened : OpKind → ℕ → List Name → OpenOp
opened k at rs = record (no_op at) { kind = k; results = rs }

-- no type is read and no name is held
pub record IsClean (s : State) : Type 0 where
  pub read : s.read ≡ []
  pub held : s.held ≡ []
  pub room : HasRoom s

pub record BodyRead (level : Level) (visible : List Name) (first : ℕ) : Type 0 where
  pub ops : List Op
  pub names : List Name
  pub next : ℕ
  pub rest : Rest
  pub room : next ≤ rest.counted
  pub shows : Shows level (Piece.Ops ops) (scope_at first visible) (scope_at next (visible ++ names))

abbrev pub with_body : (level : Level) (s : State) → BodyRead level s.visible s.next → State
with_body level s x =
    with_rest x.rest (record s { body = record (s.body) { ops = s.body.ops ++ x.ops }; visible = s.visible ++ x.names; next = x.next; op = no_op 0 })

pub record Between (s : State) : Type 0 where
  pub clean : IsClean s
  pub op : s.op ≡ no_op 0

-- The form of an operation is read, which had these results, where these names were visible and the next value had this number:
-- up to then operations ended, and one is open.
pub record FormRead (level : Level) (results visible : List Name) (before : ℕ) : Type 0 where
  pub ops : List Op
  pub names : List Name
  pub op : OpenOp
  pub next : ℕ
  pub rest : Rest
  pub room : next ≤ rest.counted
  pub fits : op.at < 4294967296
  pub shows : (n : ℕ) → NumberOn n (values_of results) → before ≡ n + length (values_of results) → (at : ℕ) → at < 4294967296
      → Shows level (Piece.Ops (ops ++ op_of (record op { at = at }) ∷ [])) (scope_at n visible) (scope_at next ((visible ++ names) ++ op.results))

abbrev pub with_form : {level : Level} {results visible : List Name} {before : ℕ} (s : State) → FormRead level results visible before → State
with_form s x =
    with_rest x.rest (record s {
      body = record (s.body) { ops = s.body.ops ++ x.ops };
      visible = s.visible ++ x.names;
      next = x.next;
      op = x.op;
      held = [];
      read = [];
    })

pub record BeforeForm (s : State) : Type 0 where
  pub clean : IsClean s
  pub at : ℕ
  pub fits : at < 4294967296
  pub results : List Name
  pub op : s.op ≡ opened op.ScfReduce at results

-- with more operands and their types the operation is whole
abbrev pub Finishes : Level → OpenOp → List Name → ℕ → Type 0
Finishes level o visible next = (vs : List ValueNo) (ts : List Ty) → AreSeenOrNot (seen_of visible) vs → AreWritten ts → HaveTypes (length vs) ts
    → (n : ℕ) → NumberOn n (values_of o.results) → next ≡ n + length (values_of o.results) → (at : ℕ) → at < 4294967296
    → Shows level (Piece.Ops (op_of (record o { operands = o.operands ++ vs; written = o.written ++ ts; at = at }) ∷ []))
    (scope_at n visible) (scope_at next (visible ++ o.results))

pub record BeforeHeld (level : Level) (s : State) : Type 0 where
  pub clean : IsClean s
  pub fits : s.op.at < 4294967296
  pub finishes : Finishes level s.op s.visible s.next

pub record AfterHeld (level : Level) (s : State) : Type 0 where
  pub read : s.read ≡ []
  pub room : HasRoom s
  pub others : List TextToken
  pub token : TextToken
  pub held : s.held ≡ others ++ token ∷ []
  pub fits : s.op.at < 4294967296
  pub finishes : Finishes level s.op s.visible s.next

-- what a constant may be
abbrev pub IsLiteral : Attr → Ty → Type 0
IsLiteral a t =
    ((truth : Bool) × (a ≡ attr.Truth truth) × (t ≡ ty.Int W1))
    ⊎ ((n : ℕ) × (a ≡ attr.Literal false n) × (n < 18446744073709551616) × IsWritten t)
    ⊎ ((n : ℕ) × (a ≡ attr.Literal true n) × (n ≤ 9223372036854775808) × IsWritten t)

pub record LiteralRead (before : ℕ) : Type 0 where
  pub attr : Attr
  pub type : Ty
  pub is : IsLiteral attr type
  pub number : NumberRead before

-- ---- regions

-- one more region is read: that of this number, of an operation of this kind with these types of results
pub record RegionRead (level : Level) (k : OpKind) (ts : List Ty) (i : ℕ) (params : List (ValueNo × Ty)) (before : Scope) : Type 0 where
  pub ops : List Op
  pub end : Scope
  pub ended : IsEnded k i ts ops
  pub shows : Shows level (Piece.Ops ops) (defining before (map (λ p. p.0) params)) end

abbrev pub empty_region : Region
empty_region = roll-Region (record { params = []; ops = [] })

-- the second regions that a conditional without results has
abbrev pub elses : List Region → List Region
elses [] = empty_region ∷ []
elses (r ∷ rs) = r ∷ rs

pub record ElseRead (level : Level) (visible : List Name) (first : ℕ) : Type 0 where
  pub regions : List Region
  pub end : Scope
  pub shows : Shows level (Piece.Regions op.ScfIf [] 1 (elses regions)) (scope_at first visible) end
  pub no_params : map param_types (elses regions) ≡ [] ∷ []
  pub rest : Rest
  pub room : end.next ≤ rest.counted

pub record BeforeElse (s : State) : Type 0 where
  pub clean : IsClean s
  pub kind : s.op.kind ≡ op.ScfIf
  pub types : s.op.types ≡ []
  pub params : s.op.params ≡ []

pub record BranchesRead (level : Level) (visible : List Name) (first : ℕ) : Type 0 where
  pub types : List Ty
  pub written : AreWritten types
  pub regions : List Region
  pub end : Scope
  pub shows : Shows level (Piece.Regions op.ScfIf types 0 (with_else op.ScfIf regions)) (scope_at first visible) end
  pub no_params : map param_types (with_else op.ScfIf regions) ≡ [] ∷ [] ∷ []
  pub rest : Rest
  pub room : end.next ≤ rest.counted

pub record BeforeBranches (s : State) : Type 0 where
  pub clean : IsClean s
  pub kind : s.op.kind ≡ op.ScfIf
  pub types : s.op.types ≡ []
  pub params : s.op.params ≡ []
  pub regions : s.op.regions ≡ []

abbrev pub with_branches : (level : Level) (s : State) → BranchesRead level s.visible s.next → State
with_branches level s x =
    with_rest x.rest (record s { op = record (s.op) { types = x.types; regions = x.regions; params = [] }; next = x.end.next; read = []; held = [] })

-- ---- functions

-- the function prints but for operands that may be no value
pub record FuncShows (level : Level) (f : Func) : Type 0 where
  pub name : AreBytes f.name
  pub params : AreWritten (map (λ p. p.1) f.params)
  pub results : AreWritten f.results
  pub ops : List Op
  pub body : f.body ≡ roll-Region (record { params = []; ops = ops })
  pub at : f.at < 4294967296
  pub named : NumberOn 0 (map (λ p. p.0) f.params)
  pub end : Scope
  pub shows : Shows level (Piece.Ops ops) (defining (record { next = 0; seen = [] }) (map (λ p. p.0) f.params)) end

abbrev pub FuncsShow : Level → List Func → Type 0
FuncsShow level [] = ⊤
FuncsShow level (f ∷ fs) = FuncShows level f × FuncsShow level fs

pub record BeforeFuncs (level : Level) (s : State) : Type 0 where
  pub read : s.read ≡ []
  pub held : s.held ≡ []
  pub funcs : FuncsShow level s.funcs

pub record FuncsRead (level : Level) : Type 0 where
  pub state : State
  pub funcs : FuncsShow level state.funcs

pub record BeforeFuncResults (s : State) : Type 0 where
  pub read : s.read ≡ []
  pub results : s.func.results ≡ []

-- ---- the rules

abbrev pub IsUnread : State → Type 0
IsUnread s = s.read ≡ []

-- a loop has one parameter, an index, and no types
pub record BeforeIterArgs (s : State) : Type 0 where
  pub clean : IsClean s
  pub types : s.op.types ≡ []
  pub param : Param
  pub params : s.op.params ≡ param ∷ []
  pub index : param.ty ≡ ty.Index

pub record ReadyForParams (s : State) : Type 0 where
  pub read : s.read ≡ []
  pub room : HasRoom s

abbrev pub Before : Level → Rule → State → Type 0
Before level rule.Text s = BeforeFuncs level s
Before level rule.Funcs s = BeforeFuncs level s
Before level rule.Params s = ReadyForParams s
Before level rule.MoreParams s = ReadyForParams s
Before level rule.FuncResults s = BeforeFuncResults s
Before level rule.Body s = Between s
Before level rule.Results s = HasResult s
Before level rule.Form s = BeforeForm s
Before level rule.Literal s = IsUnread s
Before level rule.Index s = HasOperand s
Before level rule.Held s = BeforeHeld level s
Before level rule.AfterHeld s = AfterHeld level s
Before level rule.AfterHeldColon s = AfterHeld level s
Before level rule.IterArgs s = BeforeIterArgs s
Before level rule.Inits s = HasRoom s
Before level rule.MoreInits s = HasRoom s
Before level rule.Branches s = BeforeBranches s
Before level rule.BranchTypes s = BeforeBranches s
Before level rule.BranchTypeList s = BeforeBranches s
Before level rule.Else s = BeforeElse s
Before level rule.BlockParams s = ReadyForParams s
Before level rule.MoreBlockParams s = ReadyForParams s
Before level rule.MoreIndexParams s = HasRoom s
Before level rule.ValueOperands s = ReadyForParams s
Before level rule.MoreValueOperands s = ReadyForParams s
Before level rule.OpResults s = IsUnread s
Before level _ s = ⊤

abbrev pub Outcome : Level → Rule → State → Type 0
Outcome level rule.Text s = FuncsRead level
Outcome level rule.ModuleName s = TextToken
Outcome level rule.ModuleAttributes s = TextToken
Outcome level rule.Funcs s = FuncsRead level
Outcome level rule.Visibility s = TextToken
Outcome level rule.Params s = HeadRead s.next s.counted
Outcome level rule.MoreParams s = HeadRead s.next s.counted
Outcome level rule.DroppedDict s = TextToken
Outcome level rule.FuncResults s = TypesRead
Outcome level rule.FuncAttributes s = NumberRead s.func.at
Outcome level rule.Type s = TypeRead
Outcome level rule.Types s = TypesRead
Outcome level rule.MoreTypes s = TypesRead
Outcome level rule.ResultTypes s = TypesRead
Outcome level rule.OpDict s = NumberRead s.op.at
Outcome level rule.Dict s = DictRead
Outcome level rule.Inside s = TextToken
Outcome level rule.Location s = TextToken
Outcome level rule.Body s = BodyRead level s.visible s.next
Outcome level rule.Results s = ResultsRead s.op.results s.next
Outcome level rule.MoreResults s = MoreResultsRead s.op.results s.next
Outcome level rule.Form s = FormRead level s.op.results s.visible s.next
Outcome level rule.Literal s = LiteralRead s.op.at
Outcome level rule.Index s = IndexRead s.visible
Outcome level rule.Uses s = UsesRead s.visible s.counted
Outcome level rule.MoreUses s = UsesRead s.visible s.counted
Outcome level rule.Held s = FormRead level s.op.results s.visible s.next
Outcome level rule.AfterHeld s = FormRead level s.op.results s.visible s.next
Outcome level rule.AfterHeldColon s = FormRead level s.op.results s.visible s.next
Outcome level rule.IterArgs s = IterArgsRead s.visible s.next s.counted
Outcome level rule.Inits s = InitsRead s.visible s.next s.counted
Outcome level rule.MoreInits s = InitsRead s.visible s.next s.counted
Outcome level rule.Branches s = BranchesRead level s.visible s.next
Outcome level rule.BranchTypes s = BranchesRead level s.visible s.next
Outcome level rule.BranchTypeList s = BranchesRead level s.visible s.next
Outcome level rule.Else s = ElseRead level s.visible s.next
Outcome level rule.BlockParams s = HeadRead s.next s.counted
Outcome level rule.MoreBlockParams s = HeadRead s.next s.counted
Outcome level rule.MoreIndexParams s = IndexParamsRead s.next s.counted
Outcome level rule.Dependencies s = UsesRead s.visible s.counted
Outcome level rule.ValueOperands s = ValuesRead s.visible s.next s.counted
Outcome level rule.MoreValueOperands s = ValuesRead s.visible s.next s.counted
Outcome level rule.OpResults s = TypesRead

abbrev pub skipped : State → TextToken → State
skipped s t = record s { last = t }

abbrev pub with_types : State → TypesRead → State
with_types s x = record s { read = s.read ++ x.types; last = x.last }

abbrev pub with_head : (s : State) → HeadRead s.next s.counted → State
with_head s x = record (with_params s x.read) { read = [] }

abbrev pub with_block : (s : State) → HeadRead s.next s.counted → State
with_block s x = record s {
  body = record (s.body) { params = s.body.params ++ x.read.params };
  visible = s.visible ++ param_names x.read.params;
  next = x.read.next;
  counted = x.read.counted;
  last = x.read.last;
  read = [];
}

abbrev pub with_operands : List ValueNo → List ℕ → State → State
with_operands vs used s = record s { op = record (s.op) { operands = s.op.operands ++ vs }; used = used }

abbrev pub after : (level : Level) (r : Rule) (s : State) → Outcome level r s → State
after level rule.Text s x = x.state
after level rule.ModuleName s x = skipped s x
after level rule.ModuleAttributes s x = skipped s x
after level rule.Funcs s x = x.state
after level rule.Visibility s x = skipped s x
after level rule.Params s x = with_head s x
after level rule.MoreParams s x = with_head s x
after level rule.DroppedDict s x = skipped s x
after level rule.FuncResults s x = record s { func = record (s.func) { results = x.types }; read = []; last = x.last }
after level rule.FuncAttributes s x = with_dict x.dict (record s { func = record (s.func) { at = x.at } })
after level rule.Type s x = record s { read = s.read ++ x.type ∷ []; last = x.last }
after level rule.Types s x = with_types s x
after level rule.MoreTypes s x = with_types s x
after level rule.ResultTypes s x = with_types s x
after level rule.OpDict s x = with_dict x.dict (record s { op = record (s.op) { at = x.at } })
after level rule.Dict s x = with_dict x s
after level rule.Inside s x = skipped s x
after level rule.Location s x = skipped s x
after level rule.Body s x = with_body level s x
after level rule.Results s x = record s { op = record (s.op) { results = x.results }; next = x.next; last = x.last }
after level rule.MoreResults s x = record s { op = record (s.op) { results = s.op.results ++ x.results }; next = x.next; last = x.last }
after level rule.Form s x = with_form s x
after level rule.Literal s x =
    with_dict x.number.dict (record s { op = record (s.op) { attr = x.attr; types = s.op.types ++ x.type ∷ []; at = x.number.at }; read = [] })
after level rule.Index s x = record s { op = record (s.op) { operands = without_last s.op.operands ++ x.value ∷ [] }; last = x.last }
after level rule.Uses s x = with_uses s x
after level rule.MoreUses s x = with_uses s x
after level rule.Held s x = with_form s x
after level rule.AfterHeld s x = with_form s x
after level rule.AfterHeldColon s x = with_form s x
after level rule.IterArgs s x =
    let p : State = with_operands x.values x.used (with_params s x.read) in
    record p { op = record (p.op) { types = s.op.types ++ x.types }; read = [] }
after level rule.Inits s x = with_operands x.values x.used (with_params s x.read)
after level rule.MoreInits s x = with_operands x.values x.used (with_params s x.read)
after level rule.Branches s x = with_branches level s x
after level rule.BranchTypes s x = with_branches level s x
after level rule.BranchTypeList s x = with_branches level s x
after level rule.Else s x =
    with_rest x.rest (record s { op = record (s.op) { regions = s.op.regions ++ x.regions; params = [] }; next = x.end.next; read = []; held = [] })
after level rule.BlockParams s x = with_block s x
after level rule.MoreBlockParams s x = with_block s x
after level rule.MoreIndexParams s x = with_params s x.read
after level rule.Dependencies s x = with_uses s x
after level rule.ValueOperands s x =
    let p : State = with_operands x.values x.used (with_params s x.read) in
    record p { op = record (p.op) { written = s.op.written ++ x.types }; read = [] }
after level rule.MoreValueOperands s x =
    let p : State = with_operands x.values x.used (with_params s x.read) in
    record p { op = record (p.op) { written = s.op.written ++ x.types }; read = [] }
after level rule.OpResults s x = record s { op = record (s.op) { types = s.op.types ++ x.types }; read = []; last = x.last }

abbrev pub triples : Level → Triples
triples level = record { Before = Before level; Outcome = Outcome level; after = after level }
