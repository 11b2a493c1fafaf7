-- The rules of parameters that stand for operands.
use Rattle.std.proofs.Common.{◌≡◌, ◌≤◌, ℕ, zero, suc, ◌+◌, Bool, true, false, cond, List, [], ◌∷◌, ◌++◌, length, drop, replicate, refl, sym, ap, ◌∙◌, subst, arith, append_assoc, le_refl}
use Rattle.std.proofs.lemmas.List.{append-nil}
use Rattle.op_table.specs.declared.rows.Level.{Level}
use Rattle.ir_forms.specs.declared.types.Ty.{Ty}
use Rattle.ir_forms.specs.declared.types.Ty.TheVariants as ty
use Rattle.ir_forms.specs.declared.types.ValTy.TheVariants as val
use Rattle.ir_forms.specs.declared.ops.ValueNo.{ValueNo}
use Rattle.module_grammar.specs.declared.symbols.Class.TheVariants as class
use Rattle.module_grammar.specs.declared.symbols.Rule.TheVariants as rule
use Rattle.module_grammar.specs.declared.symbols.Keyword.TheVariants as key
use Rattle.module_grammar.specs.declared.symbols.Act.TheVariants as act
use Rattle.module_grammar.specs.declared.symbols.Symbol.{Symbol}
use Rattle.module_grammar.specs.declared.state.TextToken.{TextToken}
use Rattle.module_grammar.specs.declared.state.Param.{Param}
use Rattle.module_grammar.specs.declared.state.State.{State}
use Rattle.module_grammar.specs.State.{does, name_at, last_typed, first_type, payload_types, is_untyped, type_or, add_param}
use Rattle.module_grammar.specs.State as machine
use Rattle.module_grammar.specs.Rules.{token, part, doing, colon, close_paren, equals, operand, init, value_operand, arrow, paren}
use Rattle.module_grammar.proofs.Lists.{last_given}
use Rattle.mlir_print.specs.Printable.{IsWritten, payload, typed_by}
use Rattle.read_forms.proofs.Triples.{Owes, Reached}
use Rattle.read_forms.proofs.Outcomes.{AreParams, HasRoom, ParamsRead, InitsRead, IterArgsRead, ValuesRead, TypesRead, TypeRead, ReadyForParams, BeforeIterArgs, with_params, with_operands, triples}
use Rattle.read_forms.proofs.Words.{Lines}
use Rattle.read_forms.proofs.Operands.{OperandRead, with_operand, operand-owes}
use Rattle.read_forms.proofs.Params.{ParamRead, with_param, named_param, param-room, bare-param-owes, more-params, no-params}

-- ---- `%a = %x`

init-owes : (level : Level) (s : State) (ss : List Symbol) (Q : State → Type 0) → HasRoom s
    → ((x : ParamRead s.next s.counted) → x.type ≡ ty.Untyped → (y : OperandRead s.visible x.counted) → Owes (triples level) ss Q (with_operand (with_param s x) y))
    → Owes (triples level) (init ++ ss) Q s
init-owes level s ss Q h f =
    bare-param-owes level s (equals ++ operand ++ ss) Q h
    (λ x e. λ t b a. operand-owes level (record (with_param s x) { last = t }) ss Q (λ y. f x e y))

more-inits : (s : State) (x : ParamRead s.next s.counted) → x.type ≡ ty.Untyped → (y : OperandRead s.visible x.counted)
    → InitsRead s.visible x.next y.counted → InitsRead s.visible s.next s.counted
unfolding more-params
more-inits s x e y z = record {
  read = more-params s.next s.counted x y.counted (omega (arith, y.rises)) z.read;
  values = y.value ∷ z.values;
  are_seen = (y.is_seen, z.are_seen);
  untyped = ap (λ (t : Ty). t ∷ z.read.types) e ∙ ap (λ (l : List Ty). ty.Untyped ∷ l) z.untyped;
  rises = omega (arith, x.rises, y.rises, z.rises);
  used = z.used;
}

abbrev with_inits : State → List Param → List ValueNo → State
with_inits s ps vs = record s { op = record (s.op) { params = ps; operands = vs } }

inits-joined : (s : State) (x : ParamRead s.next s.counted) (e : x.type ≡ ty.Untyped) (y : OperandRead s.visible x.counted) (z : InitsRead s.visible x.next y.counted)
    → with_operands (more-inits s x e y z).values (more-inits s x e y z).used (with_params s (more-inits s x e y z).read)
    ≡ with_operands z.values z.used (with_params (with_operand (with_param s x) y) z.read)
unfolding more-inits more-params
inits-joined s x e y z =
    ap (λ (l : List Param). record (with_inits s l (s.op.operands ++ y.value ∷ z.values)) { next = z.read.next; counted = z.read.counted; last = z.read.last; used = z.used })
    (sym (append_assoc s.op.params (x.param ∷ []) z.read.params))
    ∙ ap (λ (l : List ValueNo). record (with_inits s ((s.op.params ++ x.param ∷ []) ++ z.read.params) l) { next = z.read.next; counted = z.read.counted; last = z.read.last; used = z.used })
    (sym (append_assoc s.op.operands (y.value ∷ []) z.values))

both-room : (s : State) (x : ParamRead s.next s.counted) (y : OperandRead s.visible x.counted) → HasRoom s → x.next ≤ y.counted
both-room s x y h = omega (arith, param-room s.next s.counted x h, y.rises)

pub more-inits-lines : (level : Level) (s : State) → HasRoom s → Lines level rule.MoreInits s
more-inits-lines level s h = (
  λ t b a. init-owes level (record s { last = t }) (part rule.MoreInits) (Reached (triples level) rule.MoreInits s) h
      (λ x e y. (both-room s x y h, λ z n. (more-inits s x e y z, inits-joined s x e y z))),
  tt,
)

inits-last : (s : State) → InitsRead s.visible s.next s.counted → TextToken → InitsRead s.visible s.next s.counted
inits-last s x t = record { read = record x.read { last = t }; values = x.values; are_seen = x.are_seen; untyped = x.untyped; rises = x.rises; used = x.used }

pub inits-lines : (level : Level) (s : State) → HasRoom s → Lines level rule.Inits s
unfolding inits-last
inits-lines level s h = (
  λ t b a. init-owes level (record s { last = t }) (part rule.MoreInits ++ close_paren) (Reached (triples level) rule.Inits s) h
      (λ x e y. (both-room s x y h, λ z n. λ t2 b2 a2. (inits-last s (more-inits s x e y z) t2, ap (λ (w : State). record w { last = t2 }) (inits-joined s x e y z)))),
  tt,
)

pub no-inits : (s : State) → (x : InitsRead s.visible s.next s.counted) × (with_operands x.values x.used (with_params s x.read) ≡ s)
unfolding no-params
no-inits s = (
  record { read = no-params s.next s.counted s.last; values = []; are_seen = tt; untyped = refl; rises = omega arith; used = s.used },
  ap (λ (l : List Param). with_inits s l (s.op.operands ++ [])) (append-nil s.op.params)
      ∙ ap (λ (l : List ValueNo). with_inits s s.op.params l) (append-nil s.op.operands),
)

-- ---- the arguments of a loop

-- bare parameters get types in order
pub typed-params : (n first : ℕ) (ps : List Param) (ts : List Ty) → AreParams first ps (replicate n ty.Untyped)
    → AreParams first (machine.typed_by ps ts) (typed_by n ts)
typed-params zero first [] ts h = refl
typed-params (suc n) first [] ts h = absurd cc
typed-params zero first (p ∷ ps) ts h = absurd h
typed-params (suc n) first (p ∷ ps) [] h = rw (ap is_untyped h.2) (h.0, h.1, h.2, h.3, typed-params n (first + 1) ps [] h.4)
typed-params (suc n) first (p ∷ ps) (t ∷ ts) h = rw (ap is_untyped h.2) (h.0, h.1, refl, h.3, typed-params n (first + 1) ps ts h.4)

either-length : {A : Type 0} (b : Bool) (xs ys : List A) (n : ℕ) → length xs ≡ n → length ys ≡ n → length (cond b xs ys) ≡ n
either-length true xs ys n h i = h
either-length false xs ys n h i = i

pub typed-length : (ps : List Param) (ts : List Ty) → length (machine.typed_by ps ts) ≡ length ps
typed-length [] ts = refl
typed-length (p ∷ ps) ts =
    either-length (is_untyped p.ty) (record p { ty = type_or ts p.ty } ∷ machine.typed_by ps (drop 1 ts)) (p ∷ machine.typed_by ps ts) (suc (length ps))
    (ap suc (typed-length ps (drop 1 ts))) (ap suc (typed-length ps ts))

typed-read : (first before n : ℕ) (r : ParamsRead first before) (ts : List Ty) → r.types ≡ replicate n ty.Untyped → TextToken → ParamsRead first before
typed-read first before n r ts e t = record {
  params = machine.typed_by r.params ts;
  types = typed_by n ts;
  are = typed-params n first r.params ts (subst (λ (l : List Ty). AreParams first r.params l) e r.are);
  next = r.next;
  next_is = omega (arith, r.next_is, typed-length r.params ts);
  counted = r.counted;
  rises = omega (arith, r.rises, typed-length r.params ts);
  last = t;
}

iter-read : (s : State) (x : ParamRead s.next s.counted) → x.type ≡ ty.Untyped → (y : OperandRead s.visible x.counted)
    → InitsRead s.visible x.next y.counted → (u : TypeRead) → TypesRead → TextToken → IterArgsRead s.visible s.next s.counted
unfolding more-inits typed-read
iter-read s x e y z u us t =
    let i : InitsRead s.visible s.next s.counted = more-inits s x e y z in
    record {
      read = typed-read s.next s.counted (length i.values) i.read (u.type ∷ us.types) i.untyped t;
      values = y.value ∷ z.values;
      are_seen = i.are_seen;
      types = u.type ∷ us.types;
      written = (u.written, us.written);
      have = tt;
      typed = refl;
      used = z.used;
    }

loop-typed : (p : Param) (ps : List Param) (ts : List Ty) → p.ty ≡ ty.Index → machine.typed_by (p ∷ ps) ts ≡ p ∷ machine.typed_by ps ts
loop-typed p ps ts e = rw (ap is_untyped e) refl

iter-args-of : (level : Level) (s : State) (p : Param) → p.ty ≡ ty.Index → HasRoom s
    → Lines level rule.IterArgs (record s { op = record (s.op) { params = p ∷ []; types = [] }; read = [] })
unfolding does iter-read typed-read more-inits more-params
iter-args-of level s p e h = (
  λ t b a. λ t1 b1 a1. init-owes level (record s { last = t1; op = record (s.op) { params = p ∷ []; types = [] }; read = [] })
      (part rule.MoreInits ++ close_paren ++ arrow ++ paren ++ part rule.Type ++ part rule.MoreTypes ++ close_paren ++ doing act.Results ++ doing act.ResultParams)
      (Reached (triples level) rule.IterArgs (record s { op = record (s.op) { params = p ∷ []; types = [] }; read = [] })) h
      (λ x e2 y. (
        both-room s x y h,
        λ z n. λ t2 b2 a2. λ t3 b3 a3. λ t4 b4 a4. (
          tt,
          λ u m. (
            tt,
            λ us k. λ t5 b5 a5. λ i. λ j.
                (iter-read s x e2 y z u us t5, rw (append_assoc s.op.operands (y.value ∷ []) z.values) (rw (ap is_untyped e) refl)),
          ),
        ),
      )),
  tt,
)

-- ---- `%v as %u : T`

payload-is : (t : Ty) → first_type (payload_types t) ≡ payload t
payload-is (ty.Value (val.Int w)) = refl
payload-is (ty.Value val.Index) = refl
payload-is (ty.Value (val.Memref m)) = refl
payload-is _ = refl

abbrev with_value : (s : State) (x : OperandRead s.visible s.counted) → ParamRead s.next x.counted → Ty → State
with_value s x p t = record s {
  op = record (s.op) { operands = s.op.operands ++ x.value ∷ []; params = s.op.params ++ p.param ∷ []; written = s.op.written ++ t ∷ [] };
  next = p.next;
  counted = p.counted;
  last = p.last;
  used = x.used;
  read = [];
}

value-operand-owes : (level : Level) (s : State) (ss : List Symbol) (Q : State → Type 0) → HasRoom s
    → ((x : OperandRead s.visible s.counted) (p : ParamRead s.next x.counted) (t : Ty) → IsWritten t → p.type ≡ payload t
    → Owes (triples level) ss Q (with_value s x p t))
    → Owes (triples level) (value_operand ++ ss) Q (record s { read = [] })
unfolding does named_param
value-operand-owes level s ss Q h f =
    operand-owes level (record s { read = [] }) (token (class.Key key.As) ++ token class.Param ++ doing act.Param ++ colon ++ part rule.Type ++ doing act.PayloadParam ++ doing act.Written ++ ss) Q
    (λ x. λ t b a. λ t1 b1 a1. λ n. λ t2 b2 a2. (
      tt,
      λ u m. λ i. λ j.
          let y : ParamRead s.next x.counted = named_param t1 (first_type (payload_types u.type)) s.next x.counted u.last (omega (arith, h, x.rises)) n in
          subst (λ (l : List Param). Owes (triples level) ss Q (record (with_value s x y u.type) { op = record ((with_value s x y u.type).op) { params = l } }))
          (sym (last_given s.op.params (record { name = name_at t1 s.next; ty = ty.Untyped }) (first_type (payload_types u.type))))
          (f x y u.type u.written (payload-is u.type)),
    ))

lower : (first low high : ℕ) → low ≤ high → ParamRead first high → ParamRead first low
lower first low high h p = record {
  param = p.param;
  type = p.type;
  first_is = p.first_is;
  count_is = p.count_is;
  type_is = p.type_is;
  small = p.small;
  next = p.next;
  next_is = p.next_is;
  counted = p.counted;
  rises = omega (arith, p.rises, h);
  last = p.last;
}

more-values : (s : State) (x : OperandRead s.visible s.counted) (p : ParamRead s.next x.counted) (t : Ty) → IsWritten t → p.type ≡ payload t
    → ValuesRead s.visible p.next p.counted → ValuesRead s.visible s.next s.counted
unfolding more-params lower
more-values s x p t w e z = record {
  read = more-params s.next s.counted (lower s.next s.counted x.counted (omega (arith, x.rises)) p) p.counted (le_refl p.counted) z.read;
  values = x.value ∷ z.values;
  are_seen = (x.is_seen, z.are_seen);
  types = t ∷ z.types;
  written = (w, z.written);
  as_many = ap suc z.as_many;
  typed = ap (λ (u : Ty). u ∷ z.read.types) e ∙ ap (λ (l : List Ty). payload t ∷ l) z.typed;
  rises = omega (arith, x.rises, p.rises, z.rises);
  used = z.used;
}

abbrev with_values : State → List ValueNo → List Param → List Ty → State
with_values s vs ps ts = record s { op = record (s.op) { operands = vs; params = ps; written = ts }; read = [] }

abbrev valued : (s : State) → ValuesRead s.visible s.next s.counted → State
valued s x =
    let p : State = with_operands x.values x.used (with_params s x.read) in
    record p { op = record (p.op) { written = s.op.written ++ x.types }; read = [] }

values-joined : (s : State) (x : OperandRead s.visible s.counted) (p : ParamRead s.next x.counted) (t : Ty) (w : IsWritten t) (e : p.type ≡ payload t)
    (z : ValuesRead s.visible p.next p.counted)
    → valued s (more-values s x p t w e z) ≡ valued (with_value s x p t) z
unfolding more-values more-params lower
values-joined s x p t w e z =
    ap (λ (l : List ValueNo). record (with_values s l (s.op.params ++ p.param ∷ z.read.params) (s.op.written ++ t ∷ z.types)) { next = z.read.next; counted = z.read.counted; last = z.read.last; used = z.used })
    (sym (append_assoc s.op.operands (x.value ∷ []) z.values))
    ∙ ap (λ (l : List Param). record (with_values s ((s.op.operands ++ x.value ∷ []) ++ z.values) l (s.op.written ++ t ∷ z.types)) { next = z.read.next; counted = z.read.counted; last = z.read.last; used = z.used })
    (sym (append_assoc s.op.params (p.param ∷ []) z.read.params))
    ∙ ap (λ (l : List Ty). record (with_values s ((s.op.operands ++ x.value ∷ []) ++ z.values) ((s.op.params ++ p.param ∷ []) ++ z.read.params) l) { next = z.read.next; counted = z.read.counted; last = z.read.last; used = z.used })
    (sym (append_assoc s.op.written (t ∷ []) z.types))

value-room : (s : State) (x : OperandRead s.visible s.counted) (p : ParamRead s.next x.counted) → HasRoom s → p.next ≤ p.counted
value-room s x p h = param-room s.next x.counted p (omega (arith, h, x.rises))

more-values-of : (level : Level) (s : State) → HasRoom s → Lines level rule.MoreValueOperands (record s { read = [] })
more-values-of level s h = (
  λ t b a. value-operand-owes level (record s { last = t }) (part rule.MoreValueOperands) (Reached (triples level) rule.MoreValueOperands (record s { read = [] })) h
      (λ x p u w e. (record { read = refl; room = value-room s x p h }, λ z n. (more-values s x p u w e z, values-joined s x p u w e z))),
  tt,
)

values-last : (s : State) → ValuesRead s.visible s.next s.counted → TextToken → ValuesRead s.visible s.next s.counted
values-last s x t = record {
  read = record x.read { last = t };
  values = x.values;
  are_seen = x.are_seen;
  types = x.types;
  written = x.written;
  as_many = x.as_many;
  typed = x.typed;
  rises = x.rises;
  used = x.used;
}

values-of : (level : Level) (s : State) → HasRoom s → Lines level rule.ValueOperands (record s { read = [] })
unfolding values-last
values-of level s h = (
  λ t b a. value-operand-owes level (record s { last = t }) (part rule.MoreValueOperands ++ close_paren) (Reached (triples level) rule.ValueOperands (record s { read = [] })) h
      (λ x p u w e. (
        record { read = refl; room = value-room s x p h },
        λ z n. λ t2 b2 a2.
            (values-last s (more-values s x p u w e z) t2, ap (λ (y : State). record y { last = t2 }) (values-joined s x p u w e z)),
      )),
  tt,
)

unread-is : (s : State) → s.read ≡ [] → record s { read = [] } ≡ s
unread-is s e = ap (λ (r : List Ty). record s { read = r }) (sym e)

pub more-value-operands-lines : (level : Level) (s : State) → ReadyForParams s → Lines level rule.MoreValueOperands s
more-value-operands-lines level s h = subst (λ (z : State). Lines level rule.MoreValueOperands z) (unread-is s h.read) (more-values-of level s h.room)

pub value-operands-lines : (level : Level) (s : State) → ReadyForParams s → Lines level rule.ValueOperands s
value-operands-lines level s h = subst (λ (z : State). Lines level rule.ValueOperands z) (unread-is s h.read) (values-of level s h.room)

pub no-values : (s : State) → ReadyForParams s → (x : ValuesRead s.visible s.next s.counted) × (valued s x ≡ s)
unfolding no-params
no-values s h = (
  record {
    read = no-params s.next s.counted s.last;
    values = [];
    are_seen = tt;
    types = [];
    written = tt;
    as_many = refl;
    typed = refl;
    rises = omega arith;
    used = s.used;
  },
  ap (λ (l : List ValueNo). with_values s l (s.op.params ++ []) (s.op.written ++ [])) (append-nil s.op.operands)
      ∙ ap (λ (l : List Param). with_values s s.op.operands l (s.op.written ++ [])) (append-nil s.op.params)
      ∙ ap (λ (l : List Ty). with_values s s.op.operands s.op.params l) (append-nil s.op.written)
      ∙ unread-is s h.read,
)

looping-is : (s : State) (h : BeforeIterArgs s) → record s { op = record (s.op) { params = h.param ∷ []; types = [] }; read = [] } ≡ s
looping-is s h =
    ap (λ (l : List Param). record s { op = record (s.op) { params = l; types = [] }; read = [] }) (sym h.params)
    ∙ ap (λ (l : List Ty). record s { op = record (s.op) { types = l }; read = [] }) (sym h.types)
    ∙ unread-is s h.clean.read

pub iter-args-lines : (level : Level) (s : State) → BeforeIterArgs s → Lines level rule.IterArgs s
iter-args-lines level s h = subst (λ (z : State). Lines level rule.IterArgs z) (looping-is s h) (iter-args-of level s h.param h.index h.clean.room)

pub no-iter-args : (level : Level) (s : State) → BeforeIterArgs s → Reached (triples level) rule.IterArgs s s
unfolding no-params
no-iter-args level s h = (
  record { read = no-params s.next s.counted s.last; values = []; are_seen = tt; types = []; written = tt; have = tt; typed = refl; used = s.used },
  ap (λ (l : List ValueNo). record s { op = record (s.op) { operands = l; params = s.op.params ++ []; types = s.op.types ++ [] }; read = [] }) (append-nil s.op.operands)
      ∙ ap (λ (l : List Param). record s { op = record (s.op) { params = l; types = s.op.types ++ [] }; read = [] }) (append-nil s.op.params)
      ∙ ap (λ (l : List Ty). record s { op = record (s.op) { types = l }; read = [] }) (append-nil s.op.types)
      ∙ unread-is s h.clean.read,
)
