-- The rules of parameters.
use Rattle.std.proofs.Common.{◌≡◌, ◌<◌, ◌≤◌, ℕ, ◌+◌, List, [], ◌∷◌, ◌++◌, None, refl, sym, ap, ◌∙◌, subst, arith, append_assoc, le_refl}
use Rattle.std.proofs.lemmas.List.{append-nil}
use Rattle.op_table.specs.declared.rows.Level.{Level}
use Rattle.ir_forms.specs.declared.types.Ty.{Ty}
use Rattle.ir_forms.specs.declared.types.Ty.TheVariants as ty
use Rattle.module_grammar.specs.declared.symbols.Class.TheVariants as class
use Rattle.module_grammar.specs.declared.symbols.Rule.TheVariants as rule
use Rattle.module_grammar.specs.declared.symbols.Act.TheVariants as act
use Rattle.module_grammar.specs.declared.symbols.Symbol.{Symbol}
use Rattle.module_grammar.specs.declared.state.TextToken.{TextToken}
use Rattle.module_grammar.specs.declared.state.Name.{Name}
use Rattle.module_grammar.specs.declared.state.Param.{Param}
use Rattle.module_grammar.specs.declared.state.State.{State}
use Rattle.module_grammar.specs.State.{does, number_up, up, name_at, param_names}
use Rattle.module_grammar.specs.Rules.{token, part, doing, type_of_param, index_param, block_param, close_paren, colon}
use Rattle.module_grammar.proofs.Lists.{last_given}
use Rattle.mlir_print.specs.Printable.{IsWritten}
use Rattle.read_forms.proofs.Triples.{Owes, Reached}
use Rattle.read_forms.proofs.Outcomes.{AreParams, HasRoom, ParamsRead, HeadRead, IndexParamsRead, ReadyForParams, with_params, with_head, with_block, triples}
use Rattle.read_forms.proofs.Words.{Lines}

-- ---- one parameter

pub record ParamRead (first before : ℕ) : Type 0 where
  pub param : Param
  pub type : Ty
  pub first_is : param.name.first ≡ first
  pub count_is : param.name.count ≡ None
  pub type_is : param.ty ≡ type
  pub small : first < 4294967295
  pub next : ℕ
  pub next_is : next ≡ first + 1
  pub counted : ℕ
  pub rises : before + 1 ≤ counted
  pub last : TextToken

abbrev pub with_param : (s : State) → ParamRead s.next s.counted → State
with_param s x = record s { op = record (s.op) { params = s.op.params ++ x.param ∷ [] }; next = x.next; counted = x.counted; last = x.last }

-- the parameter that a name makes
unfoldable pub named_param : (t : TextToken) (type : Ty) (first before : ℕ) (last : TextToken) → first ≤ before → up before 1 < 4294967295 → ParamRead first before
named_param t type first before last h n = record {
  param = record { name = name_at t first; ty = type };
  type = type;
  first_is = refl;
  count_is = refl;
  type_is = refl;
  small = omega (arith, h, n);
  next = number_up first 1;
  next_is = omega (arith, h, n);
  counted = up before 1;
  rises = omega (arith, n);
  last = last;
}

pub param-room : (first before : ℕ) (x : ParamRead first before) → first ≤ before → x.next ≤ x.counted
param-room first before x h = omega (arith, x.next_is, x.rises, h)

pub param-owes : (level : Level) (s : State) (ss : List Symbol) (Q : State → Type 0) → s.read ≡ [] → HasRoom s
    → ((x : ParamRead s.next s.counted) → IsWritten x.type → Owes (triples level) ss Q (record (with_param s x) { read = [] }))
    → Owes (triples level) (token class.Param ++ type_of_param ++ ss) Q s
unfolding does named_param
param-owes level s ss Q e = subst (λ (r : List Ty). HasRoom s
    → ((x : ParamRead s.next s.counted) → IsWritten x.type → Owes (triples level) ss Q (record (with_param s x) { read = [] }))
    → Owes (triples level) (token class.Param ++ type_of_param ++ ss) Q (record s { read = r })) (sym e) unread
  where
    unread : HasRoom s → ((x : ParamRead s.next s.counted) → IsWritten x.type → Owes (triples level) ss Q (record (with_param s x) { read = [] }))
        → Owes (triples level) (token class.Param ++ type_of_param ++ ss) Q (record s { read = [] })
    unread h f =
        λ t b a. λ n. λ t1 b1 a1. (
          tt,
          λ x m. λ i.
              let y : ParamRead s.next s.counted = named_param t x.type s.next s.counted x.last h n in
              subst (λ (l : List Param). Owes (triples level) ss Q (record (with_param s y) { op = record (s.op) { params = l }; read = [] }))
              (sym (last_given s.op.params (record { name = name_at t s.next; ty = ty.Untyped }) x.type)) (f y x.written),
        )

pub index-param-owes : (level : Level) (s : State) (ss : List Symbol) (Q : State → Type 0) → HasRoom s
    → ((x : ParamRead s.next s.counted) → x.type ≡ ty.Index → Owes (triples level) ss Q (with_param s x))
    → Owes (triples level) (index_param ++ ss) Q s
unfolding does named_param
index-param-owes level s ss Q h f = λ t b a. λ n. f (named_param t ty.Index s.next s.counted t h n) refl

pub bare-param-owes : (level : Level) (s : State) (ss : List Symbol) (Q : State → Type 0) → HasRoom s
    → ((x : ParamRead s.next s.counted) → x.type ≡ ty.Untyped → Owes (triples level) ss Q (with_param s x))
    → Owes (triples level) (token class.Param ++ doing act.Param ++ ss) Q s
unfolding does named_param
bare-param-owes level s ss Q h f = λ t b a. λ n. f (named_param t ty.Untyped s.next s.counted t h n) refl

-- ---- several

unfoldable pub more-params : (first before : ℕ) (x : ParamRead first before) (c : ℕ) → x.counted ≤ c → ParamsRead x.next c → ParamsRead first before
more-params first before x c h y = record {
  params = x.param ∷ y.params;
  types = x.type ∷ y.types;
  are = (x.first_is, x.count_is, x.type_is, x.small, subst (λ (n : ℕ). AreParams n y.params y.types) x.next_is y.are);
  next = y.next;
  next_is = omega (arith, x.next_is, y.next_is);
  counted = y.counted;
  rises = omega (arith, x.rises, h, y.rises);
  last = y.last;
}

abbrev pub with_param_list : State → List Param → State
with_param_list s ps = record s { op = record (s.op) { params = ps } }

unfoldable pub no-params : (first before : ℕ) → TextToken → ParamsRead first before
no-params first before t = record {
  params = [];
  types = [];
  are = refl;
  next = first;
  next_is = omega arith;
  counted = before;
  rises = omega arith;
  last = t;
}

params-joined : (s : State) (x : ParamRead s.next s.counted) (y : ParamsRead x.next x.counted)
    → with_params s (more-params s.next s.counted x x.counted (le_refl x.counted) y) ≡ with_params (with_param s x) y
unfolding more-params
params-joined s x y =
    ap (λ (l : List Param). record (with_param_list s l) { next = y.next; counted = y.counted; last = y.last })
    (sym (append_assoc s.op.params (x.param ∷ []) y.params))

-- ---- the parameters of functions

head-read : (s : State) (x : ParamRead s.next s.counted) → IsWritten x.type → HeadRead x.next x.counted → HeadRead s.next s.counted
unfolding more-params
head-read s x w y = record { read = more-params s.next s.counted x x.counted (le_refl x.counted) y.read; written = (w, y.written) }

head-joined : (s : State) (x : ParamRead s.next s.counted) (w : IsWritten x.type) (y : HeadRead x.next x.counted)
    → with_head s (head-read s x w y) ≡ with_head (record (with_param s x) { read = [] }) y
unfolding head-read
head-joined s x w y = ap (λ (z : State). record z { read = [] }) (params-joined s x y.read)

pub params-lines : (level : Level) (s : State) → ReadyForParams s → Lines level rule.Params s
params-lines level s h = (
  param-owes level s (part rule.DroppedDict ++ part rule.MoreParams) (Reached (triples level) rule.Params s) h.read h.room
      (λ x w. (tt, λ y n. (record { read = refl; room = param-room s.next s.counted x h.room }, λ z m. (head-read s x w z, head-joined s x w z)))),
  tt,
)

pub more-params-lines : (level : Level) (s : State) → ReadyForParams s → Lines level rule.MoreParams s
more-params-lines level s h = (
  λ t b a. param-owes level (record s { last = t }) (part rule.DroppedDict ++ part rule.MoreParams) (Reached (triples level) rule.MoreParams s) h.read h.room
      (λ x w. (tt, λ y n. (record { read = refl; room = param-room s.next s.counted x h.room }, λ z m. (head-read s x w z, head-joined s x w z)))),
  tt,
)

pub no-head : (s : State) → ReadyForParams s → (x : HeadRead s.next s.counted) × (with_head s x ≡ s)
unfolding no-params
no-head s h = (
  record { read = no-params s.next s.counted s.last; written = tt },
  ap (λ (l : List Param). record (with_param_list s l) { read = [] }) (append-nil s.op.params) ∙ ap (λ (r : List Ty). record s { read = r }) (sym h.read),
)

-- ---- indices

index-read : (s : State) (x : ParamRead s.next s.counted) → x.type ≡ ty.Index → IndexParamsRead x.next x.counted → IndexParamsRead s.next s.counted
unfolding more-params
index-read s x e y = record {
  read = more-params s.next s.counted x x.counted (le_refl x.counted) y.read;
  indices = ap (λ (t : Ty). t ∷ y.read.types) e ∙ ap (λ (l : List Ty). ty.Index ∷ l) y.indices;
}

pub more-index-params-lines : (level : Level) (s : State) → HasRoom s → Lines level rule.MoreIndexParams s
unfolding index-read
more-index-params-lines level s h = (
  λ t b a. index-param-owes level (record s { last = t }) (part rule.MoreIndexParams) (Reached (triples level) rule.MoreIndexParams s) h
      (λ x e. (param-room s.next s.counted x h, λ y n. (index-read s x e y, params-joined s x y.read))),
  tt,
)

pub no-index-params : (s : State) → (x : IndexParamsRead s.next s.counted) × (with_params s x.read ≡ s)
unfolding no-params
no-index-params s = (record { read = no-params s.next s.counted s.last; indices = refl }, ap (with_param_list s) (append-nil s.op.params))

-- ---- parameters that stand within their region

abbrev with_blocks : State → List Param → List Name → State
with_blocks s ps names = record s { body = record (s.body) { params = ps }; visible = names }

block-owes : (level : Level) (s : State) (ss : List Symbol) (Q : State → Type 0) → s.read ≡ [] → HasRoom s
    → ((x : ParamRead s.next s.counted) → IsWritten x.type
    → Owes (triples level) ss Q (record (with_blocks s (s.body.params ++ x.param ∷ []) (s.visible ++ x.param.name ∷ [])) { next = x.next; counted = x.counted; last = x.last; read = [] }))
    → Owes (triples level) (block_param ++ ss) Q s
unfolding does named_param
block-owes level s ss Q e = subst (λ (r : List Ty). HasRoom s
    → ((x : ParamRead s.next s.counted) → IsWritten x.type
    → Owes (triples level) ss Q (record (with_blocks s (s.body.params ++ x.param ∷ []) (s.visible ++ x.param.name ∷ [])) { next = x.next; counted = x.counted; last = x.last; read = [] }))
    → Owes (triples level) (block_param ++ ss) Q (record s { read = r })) (sym e) unread
  where
    unread : HasRoom s → ((x : ParamRead s.next s.counted) → IsWritten x.type
        → Owes (triples level) ss Q (record (with_blocks s (s.body.params ++ x.param ∷ []) (s.visible ++ x.param.name ∷ [])) { next = x.next; counted = x.counted; last = x.last; read = [] }))
        → Owes (triples level) (block_param ++ ss) Q (record s { read = [] })
    unread h f =
        λ t b a. λ n. λ t1 b1 a1. (
          tt,
          λ x m. λ i.
              let y : ParamRead s.next s.counted = named_param t x.type s.next s.counted x.last h n in
              subst (λ (l : List Param). Owes (triples level) ss Q (record (with_blocks s l (s.visible ++ y.param.name ∷ [])) { next = y.next; counted = y.counted; last = y.last; read = [] }))
              (sym (last_given s.body.params (record { name = name_at t s.next; ty = ty.Untyped }) x.type)) (f y x.written),
        )

block-joined : (s : State) (x : ParamRead s.next s.counted) (w : IsWritten x.type) (y : HeadRead x.next x.counted)
    → with_block s (head-read s x w y)
    ≡ with_block (record (with_blocks s (s.body.params ++ x.param ∷ []) (s.visible ++ x.param.name ∷ [])) { next = x.next; counted = x.counted; last = x.last; read = [] }) y
unfolding head-read more-params
block-joined s x w y =
    ap (λ (l : List Param). record (with_blocks s l (s.visible ++ x.param.name ∷ param_names y.read.params)) { next = y.read.next; counted = y.read.counted; last = y.read.last; read = [] })
    (sym (append_assoc s.body.params (x.param ∷ []) y.read.params))
    ∙ ap (λ (l : List Name). record (with_blocks s ((s.body.params ++ x.param ∷ []) ++ y.read.params) l) { next = y.read.next; counted = y.read.counted; last = y.read.last; read = [] })
    (sym (append_assoc s.visible (x.param.name ∷ []) (param_names y.read.params)))

pub more-block-params-lines : (level : Level) (s : State) → ReadyForParams s → Lines level rule.MoreBlockParams s
more-block-params-lines level s h = (
  λ t b a. block-owes level (record s { last = t }) (part rule.MoreBlockParams) (Reached (triples level) rule.MoreBlockParams s) h.read h.room
      (λ x w. (record { read = refl; room = param-room s.next s.counted x h.room }, λ z m. (head-read s x w z, block-joined s x w z))),
  tt,
)

head-last : (first before : ℕ) → HeadRead first before → TextToken → HeadRead first before
head-last first before x t = record { read = record x.read { last = t }; written = x.written }

pub block-params-lines : (level : Level) (s : State) → ReadyForParams s → Lines level rule.BlockParams s
unfolding head-last
block-params-lines level s h = (
  λ t b a. λ t1 b1 a1. block-owes level (record s { last = t1 }) (part rule.MoreBlockParams ++ close_paren ++ colon) (Reached (triples level) rule.BlockParams s) h.read h.room
      (λ x w. (
        record { read = refl; room = param-room s.next s.counted x h.room },
        λ z m. λ t2 b2 a2. λ t3 b3 a3.
            (head-last s.next s.counted (head-read s x w z) t3, ap (λ (y : State). record y { last = t3 }) (block-joined s x w z)),
      )),
  tt,
)

pub no-block : (s : State) → ReadyForParams s → (x : HeadRead s.next s.counted) × (with_block s x ≡ s)
unfolding no-params
no-block s h = (
  record { read = no-params s.next s.counted s.last; written = tt },
  ap (λ (l : List Param). record (with_blocks s l (s.visible ++ [])) { read = [] }) (append-nil s.body.params)
      ∙ ap (λ (l : List Name). record (with_blocks s s.body.params l) { read = [] }) (append-nil s.visible)
      ∙ ap (λ (r : List Ty). record s { read = r }) (sym h.read),
)
