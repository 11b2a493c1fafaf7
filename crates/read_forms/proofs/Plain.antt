-- The forms of the other operations without regions.
use Rattle.std.proofs.Common.{◌≡◌, ℕ, suc, ◌+◌, true, List, [], ◌∷◌, ◌++◌, length, Option, Some, is_some, refl, sym, subst, arith, length-append}
use Rattle.std.specs.Prelude.{unwrap_or}
use Rattle.int_ops.specs.declared.Width.TheVariants.{W1}
use Rattle.op_table.specs.declared.kind.OpKind.{OpKind}
use Rattle.op_table.specs.declared.kind.OpKind.TheVariants as op
use Rattle.op_table.specs.declared.rows.Level.{Level}
use Rattle.ir_forms.specs.declared.ops.Op.{Op}
use Rattle.ir_forms.specs.declared.ops.Region.{Region}
use Rattle.ir_forms.specs.declared.ops.ValueNo.{ValueNo}
use Rattle.ir_forms.specs.declared.ops.Attr.{Attr}
use Rattle.ir_forms.specs.declared.ops.Attr.TheVariants as attr
use Rattle.ir_forms.specs.declared.types.Ty.{Ty}
use Rattle.ir_forms.specs.declared.types.Ty.TheVariants as ty
use Rattle.ir_forms.specs.declared.types.ValTy.TheVariants as val
use Rattle.ir_forms.specs.declared.types.NumTy.TheVariants as num
use Rattle.ir_forms.specs.declared.types.CellTy.{CellTy}
use Rattle.ir_forms.specs.declared.types.CellTy.TheVariants as cell
use Rattle.ir_forms.specs.declared.types.MemTy.{MemTy}
use Rattle.ir_forms.specs.Ops.{operands_of}
use Rattle.module_grammar.specs.declared.symbols.Class.TheVariants as class
use Rattle.module_grammar.specs.declared.symbols.Rule.TheVariants as rule
use Rattle.module_grammar.specs.declared.symbols.Act.TheVariants as act
use Rattle.module_grammar.specs.declared.symbols.Symbol.{Symbol}
use Rattle.module_grammar.specs.declared.state.TextToken.{TextToken}
use Rattle.module_grammar.specs.declared.state.Name.{Name}
use Rattle.module_grammar.specs.declared.state.OpenOp.{OpenOp}
use Rattle.module_grammar.specs.declared.state.State.{State}
use Rattle.module_grammar.specs.State.{does, op_of, with_else, payload_types}
use Rattle.module_grammar.specs.State as machine
use Rattle.module_grammar.specs.Tokens.{type_of, is_memref_type, is_group_type, is_truth_type}
use Rattle.module_grammar.specs.Tokens as tokens
use Rattle.module_grammar.specs.Rules.{is_of, is_type_kind, token, comma, arrow, paren, close_paren, operand, indices, arguments, typed, typed_as, part, doing}
use Rattle.mlir_print.specs.Printable.{AreBytes, IsWritten, IsWrittenMemref, Has, HasForm, IsYield, payloads, cell_type}
use Rattle.read_forms.proofs.Triples.{Owes}
use Rattle.module_grammar.proofs.Ends.{and-right}
use Rattle.read_forms.proofs.Scopes.{seen_of, AreSeenOrNot, both-seen}
use Rattle.read_forms.proofs.Shows.{Piece, Shows}
use Rattle.read_forms.proofs.Outcomes.{NumberRead, TypesRead, UsesRead, Finishes, with_dict, with_uses, Rest, rest_of, scope_at, opened, triples}
use Rattle.read_forms.proofs.WrittenTypes.{type-written}
use Rattle.read_forms.proofs.Bytes.{string-bytes, symbol-bytes}
use Rattle.read_forms.proofs.Operands.{with_operand, operand-owes}
use Rattle.read_forms.proofs.Held.{Formed}
use Rattle.read_forms.proofs.OneOp.{one-shown, ready, IsKind, formed}
use Rattle.read_forms.proofs.Arithmetic.{FormOwes, rest_with, parts}

-- ---- asynchronous values

payloads-are : (t : Ty) → payload_types t ≡ payloads t
payloads-are (ty.Value (val.Int w)) = refl
payloads-are (ty.Value val.Index) = refl
payloads-are (ty.Value (val.Memref m)) = refl
payloads-are _ = refl

pub add-owes : (level : Level) → IsKind level op.AsyncAddToGroup
    → FormOwes level op.AsyncAddToGroup (operand ++ comma ++ operand ++ typed ++ doing act.Written ++ doing act.IndexResult)
unfolding does
add-owes level h s at rs fits room =
    let s0 : State = ready s op.AsyncAddToGroup at rs in
    operand-owes level s0 (comma ++ operand ++ typed ++ doing act.Written ++ doing act.IndexResult) (Formed level s0)
    (λ x. λ t b a. operand-owes level (record (with_operand s0 x) { last = t }) (typed ++ doing act.Written ++ doing act.IndexResult) (Formed level s0)
    (λ y. (
      tt,
      λ d n. λ t2 b2 a2. (
        tt,
        λ u m. λ i j.
            let o : OpenOp = record (opened op.AsyncAddToGroup d.at rs) { operands = x.value ∷ y.value ∷ []; written = u.type ∷ []; types = ty.Index ∷ [] } in
            formed level s op.AsyncAddToGroup at rs _ o h refl (λ c. (u.type, u.written, parts level op.AsyncAddToGroup h (record o { at = c }) refl refl))
            (x.is_seen, (y.is_seen, tt)) refl (d.fits fits) (rest_with s y d u.last) (omega (arith, x.rises, y.rises, room)) refl refl,
      ),
    )))

pub await-owes : (level : Level) → IsKind level op.AsyncAwait
    → FormOwes level op.AsyncAwait (operand ++ typed ++ doing act.PayloadResult ++ doing act.Written)
unfolding does
await-owes level h s at rs fits room =
    let s0 : State = ready s op.AsyncAwait at rs in
    operand-owes level s0 (typed ++ doing act.PayloadResult ++ doing act.Written) (Formed level s0)
    (λ x. (
      tt,
      λ d n. λ t2 b2 a2. (
        tt,
        λ u m. λ i j.
            let o : OpenOp = record (opened op.AsyncAwait d.at rs) { operands = x.value ∷ []; written = u.type ∷ []; types = payload_types u.type } in
            formed level s op.AsyncAwait at rs _ o h refl
            (λ c. (
              u.type,
              u.written,
              subst (λ (l : List Ty). Has (op_of (record o { at = c })) 1 attr.None [] (u.type ∷ []) l []) (payloads-are u.type)
                  (parts level op.AsyncAwait h (record o { at = c }) refl refl),
            ))
            (x.is_seen, tt) refl (d.fits fits) (rest_with s x d u.last) (omega (arith, x.rises, room)) refl refl,
      ),
    ))

pub await-all-owes : (level : Level) → IsKind level op.AsyncAwaitAll → FormOwes level op.AsyncAwaitAll operand
await-all-owes level h s at rs fits room =
    let s0 : State = ready s op.AsyncAwaitAll at rs in
    operand-owes level s0 [] (Formed level s0)
    (λ x.
    let o : OpenOp = record (opened op.AsyncAwaitAll at rs) { operands = x.value ∷ [] } in
    formed level s op.AsyncAwaitAll at rs _ o h refl (λ c. parts level op.AsyncAwaitAll h (record o { at = c }) refl refl)
    (x.is_seen, tt) refl fits (record (rest_of s) { last = x.last; used = x.used; counted = x.counted }) (omega (arith, x.rises, room)) refl refl)

group-is : (o : Option Ty) → is_group_type o ≡ true → unwrap_or o ty.Untyped ≡ ty.Group
group-is (Some ty.Group) e = refl
group-is _ e = absurd cc

pub create-owes : (level : Level) → IsKind level op.AsyncCreateGroup
    → FormOwes level op.AsyncCreateGroup (operand ++ typed_as class.GroupType ++ doing act.Results)
unfolding does is_of
create-owes level h s at rs fits room =
    let s0 : State = ready s op.AsyncCreateGroup at rs in
    operand-owes level s0 (typed_as class.GroupType ++ doing act.Results) (Formed level s0)
    (λ x. (
      tt,
      λ d n. λ t2 b2 a2. λ t b a. λ i j.
          let o : OpenOp = record (opened op.AsyncCreateGroup d.at rs) { operands = x.value ∷ []; types = unwrap_or (type_of t) ty.Untyped ∷ [] } in
          formed level s op.AsyncCreateGroup at rs _ o h refl
          (λ c. subst (λ (u : Ty). Has (op_of (record o { at = c })) 1 attr.None [] [] (u ∷ []) []) (group-is (type_of t) (and-right (is_type_kind t.kind) (is_group_type (type_of t)) a))
          (parts level op.AsyncCreateGroup h (record o { at = c }) refl refl))
          (x.is_seen, tt) refl (d.fits fits) (rest_with s x d t) (omega (arith, x.rises, room)) refl refl,
    ))

pub assert-owes : (level : Level) → IsKind level op.CfAssert → FormOwes level op.CfAssert (operand ++ comma ++ token class.Message ++ doing act.Message)
unfolding does
assert-owes level h s at rs fits room =
    let s0 : State = ready s op.CfAssert at rs in
    operand-owes level s0 (comma ++ token class.Message ++ doing act.Message) (Formed level s0)
    (λ x. λ t b a. λ t1 b1 a1. λ i.
    let o : OpenOp = record (opened op.CfAssert at rs) { operands = x.value ∷ []; attr = attr.Text (tokens.string_of t1.text) } in
    formed level s op.CfAssert at rs _ o h refl (λ c. (tokens.string_of t1.text, string-bytes t1.text b1, parts level op.CfAssert h (record o { at = c }) refl refl))
    (x.is_seen, tt) refl fits (record (rest_of s) { last = t1; used = x.used; counted = x.counted }) (omega (arith, x.rises, room)) refl refl)

-- ---- calls

-- as many operands as there are
pub own-count : (o : Op) (n : ℕ) (a : Attr) (groups : List ℕ) (written types : List Ty) (params : List (List Ty)) → Has o n a groups written types params
    → Has o (length (operands_of o)) a groups written types params
own-count o n a groups written types params h = subst (λ (c : ℕ). Has o c a groups written types params) (sym h.operand_count) h

arguments-owe : (level : Level) (k : OpKind) (s : State) (at : ℕ) (rs : List Name) (ss : List Symbol) (Q : State → Type 0)
    → ((name : List ℕ) → AreBytes name → (x : UsesRead s.visible s.counted) (d : NumberRead at) (us : TypesRead) (l : TextToken)
    → Owes (triples level) ss Q (record (with_dict d.dict (record (ready s k at rs) {
      op = record (opened k d.at rs) { attr = attr.Callee name; operands = x.values; written = us.types };
      used = x.used;
      counted = x.counted;
    })) { last = l }))
    → Owes (triples level) (arguments ++ ss) Q (ready s k at rs)
unfolding does
arguments-owe level k s at rs ss Q f =
    λ t b a. λ n. λ t1 b1 a1. (
      tt,
      λ x m. λ t2 b2 a2. (
        tt,
        λ d i. λ t3 b3 a3. λ t4 b4 a4. (
          tt,
          λ us j. λ t5 b5 a5. λ e.
              f (tokens.symbol_of t) (symbol-bytes t b) x d us t5,
        ),
      ),
    )

-- the rest that arguments, a dictionary and types leave
abbrev rest_after : (s : State) {visible : List Name} {before number : ℕ} → UsesRead visible before → NumberRead number → TextToken → Rest
rest_after s x d t = record (rest_of s) { last = t; used = x.used; counted = x.counted; entry = d.dict.entry; entry_at = d.dict.entry_at }

pub call-owes : (level : Level) → IsKind level op.FuncCall → FormOwes level op.FuncCall (arguments ++ arrow ++ part rule.ResultTypes ++ doing act.Results)
unfolding does
call-owes level h s at rs fits room =
    arguments-owe level op.FuncCall s at rs (arrow ++ part rule.ResultTypes ++ doing act.Results) (Formed level (ready s op.FuncCall at rs))
    (λ name bytes x d us l. λ t b a. (
      tt,
      λ vs n. λ i.
          let o : OpenOp = record (opened op.FuncCall d.at rs) { attr = attr.Callee name; operands = x.values; written = us.types; types = vs.types } in
          formed level s op.FuncCall at rs _ o h refl
          (λ c. (name, us.types, vs.types, bytes, us.written, vs.written, tt, own-count _ _ _ _ _ _ _ (parts level op.FuncCall h (record o { at = c }) refl refl)))
          x.are_seen refl (d.fits fits) (rest_after s x d vs.last) (omega (arith, x.rises, room)) refl refl,
    ))

truth-is : (o : Option Ty) → is_truth_type o ≡ true → unwrap_or o ty.Untyped ≡ ty.Int W1
truth-is (Some (ty.Int W1)) e = refl
truth-is _ e = absurd cc

pub try-call-owes : (level : Level) → IsKind level op.AioTryCall
    → FormOwes level op.AioTryCall (arguments ++ arrow ++ token class.TruthType ++ doing act.PlainType ++ doing act.Results)
unfolding does is_of
try-call-owes level h s at rs fits room =
    arguments-owe level op.AioTryCall s at rs (arrow ++ token class.TruthType ++ doing act.PlainType ++ doing act.Results) (Formed level (ready s op.AioTryCall at rs))
    (λ name bytes x d us l. λ t b a. λ t1 b1 a1. λ i j.
    let o : OpenOp = record (opened op.AioTryCall d.at rs) { attr = attr.Callee name; operands = x.values; written = us.types; types = unwrap_or (type_of t1) ty.Untyped ∷ [] } in
    let truth : unwrap_or (type_of t1) ty.Untyped ≡ ty.Int W1 = truth-is (type_of t1) (and-right (is_type_kind t1.kind) (is_truth_type (type_of t1)) a1) in
    formed level s op.AioTryCall at rs _ o h refl
    (λ c. (
      name,
      us.types,
      ty.Int W1 ∷ [],
      bytes,
      us.written,
      (tt, tt),
      refl,
      subst (λ (u : Ty). Has (op_of (record o { at = c })) (length (operands_of (op_of (record o { at = c })))) (attr.Callee name) [] us.types (u ∷ []) []) truth
          (own-count _ _ _ _ _ _ _ (parts level op.AioTryCall h (record o { at = c }) refl refl)),
    ))
    x.are_seen refl (d.fits fits) (rest_after s x d t1) (omega (arith, x.rises, room)) refl refl)

-- ---- terminators

finishes-of : (level : Level) (k : OpKind) (before : List ValueNo) (at : ℕ) (rs visible : List Name) (next : ℕ) → IsKind level k
    → ((o : Op) → IsYield (length before) o → HasForm k o) → AreSeenOrNot (seen_of visible) before
    → Finishes level (record (opened k at rs) { operands = before }) visible next
finishes-of level k before at rs visible next h is seen =
    λ vs ts a w types n named e number fits.
    let o : OpenOp = record (opened k number rs) { operands = before ++ vs; written = ts } in
    one-shown level o visible n next next (scope_at next visible) h.stands
    (is (op_of o) (length vs, ts, w, types, subst (λ (c : ℕ). Has (op_of o) c attr.None [] ts [] []) (length-append before vs) (parts level k h o refl refl)))
    fits named e (both-seen (seen_of visible) before vs seen a)
    (subst (λ (l : List Region). Shows level (Piece.Regions k [] 0 l) (scope_at next visible) (scope_at next visible)) (sym h.no_else) (Shows.no_regions k [] 0 (scope_at next visible)))
    refl

pub yield-owes : (level : Level) (k : OpKind) → IsKind level k → ((o : Op) → IsYield 0 o → HasForm k o) → FormOwes level k (part rule.Held)
yield-owes level k h is s at rs fits room = (
  record { clean = record { read = refl; held = refl; room = room }; fits = fits; finishes = finishes-of level k [] at rs s.visible s.next h is tt },
  λ x n. (x, refl),
)

pub condition-owes : (level : Level) → IsKind level op.ScfCondition → FormOwes level op.ScfCondition (paren ++ operand ++ close_paren ++ part rule.Held)
condition-owes level h s at rs fits room =
    let s0 : State = ready s op.ScfCondition at rs in
    λ t b a. operand-owes level (record s0 { last = t }) (close_paren ++ part rule.Held) (Formed level s0)
    (λ x. λ t1 b1 a1. (
      record {
        clean = record { read = refl; held = refl; room = omega (arith, x.rises, room) };
        fits = fits;
        finishes = finishes-of level op.ScfCondition (x.value ∷ []) at rs s.visible s.next h (λ o f. f) (x.is_seen, tt);
      },
      λ y n. (y, refl),
    ))

pub reduce-owes : (level : Level) → IsKind level op.ScfReduce → FormOwes level op.ScfReduce []
reduce-owes level h s at rs fits room =
    let o : OpenOp = opened op.ScfReduce at rs in
    formed level s op.ScfReduce at rs _ o h refl (λ c. parts level op.ScfReduce h (record o { at = c }) refl refl) tt refl fits (rest_of s) room refl refl

-- ---- buffers

cell-is : (c : CellTy) → machine.cell_type c ≡ cell_type c
cell-is (cell.Value (num.Int w)) = refl
cell-is (cell.Value num.Index) = refl
cell-is _ = refl

memref-is : (o : Option Ty) → is_memref_type o ≡ true → (m : MemTy) × (unwrap_or o ty.Untyped ≡ ty.Memref m) × (is_some o ≡ true)
memref-is (Some (ty.Memref m)) e = (m, refl, refl)
memref-is _ e = absurd cc

typed-memref-owes : (level : Level) (s : State) (ss : List Symbol) (Q : State → Type 0)
    → ((d : NumberRead s.op.at) (m : MemTy) → IsWrittenMemref m → (l : TextToken)
    → Owes (triples level) ss Q (record (with_dict d.dict (record s { op = record (s.op) { at = d.at } })) { read = s.read ++ ty.Memref m ∷ []; last = l }))
    → Owes (triples level) (typed_as class.MemrefType ++ ss) Q s
unfolding does is_of
typed-memref-owes level s ss Q f = (
  tt,
  λ d n. λ t b a. λ t2 b2 a2. λ i.
      let m = memref-is (type_of t2) (and-right (is_type_kind t2.kind) (is_memref_type (type_of t2)) a2) in
      subst (λ (u : Ty). Owes (triples level) ss Q (record (with_dict d.dict (record s { op = record (s.op) { at = d.at } })) { read = s.read ++ u ∷ []; last = t2 })) (sym m.1)
      (f d m.0 (subst (λ (u : Ty). IsWritten u) m.1 (type-written t2 m.2)) t2),
)

pub alloc-owes : (level : Level) → IsKind level op.MemrefAlloc
    → FormOwes level op.MemrefAlloc (paren ++ part rule.Uses ++ close_paren ++ typed_as class.MemrefType ++ doing act.Results)
unfolding does
alloc-owes level h s at rs fits room =
    let s0 : State = ready s op.MemrefAlloc at rs in
    λ t b a. (
      tt,
      λ x n. λ t2 b2 a2. typed-memref-owes level (record (with_uses s0 x) { last = t2 }) (doing act.Results) (Formed level s0)
          (λ d m w l. λ i.
          let o : OpenOp = record (opened op.MemrefAlloc d.at rs) { operands = x.values; types = ty.Memref m ∷ [] } in
          formed level s op.MemrefAlloc at rs _ o h refl (λ c. (m, w, own-count _ _ _ _ _ _ _ (parts level op.MemrefAlloc h (record o { at = c }) refl refl)))
          x.are_seen refl (d.fits fits) (rest_after s x d l) (omega (arith, x.rises, room)) refl refl),
    )

pub dealloc-owes : (level : Level) → IsKind level op.MemrefDealloc
    → FormOwes level op.MemrefDealloc (operand ++ typed_as class.MemrefType ++ doing act.Written)
unfolding does
dealloc-owes level h s at rs fits room =
    let s0 : State = ready s op.MemrefDealloc at rs in
    operand-owes level s0 (typed_as class.MemrefType ++ doing act.Written) (Formed level s0)
    (λ x. typed-memref-owes level (with_operand s0 x) (doing act.Written) (Formed level s0)
    (λ d m w l. λ i.
    let o : OpenOp = record (opened op.MemrefDealloc d.at rs) { operands = x.value ∷ []; written = ty.Memref m ∷ [] } in
    formed level s op.MemrefDealloc at rs _ o h refl (λ c. (m, w, parts level op.MemrefDealloc h (record o { at = c }) refl refl))
    (x.is_seen, tt) refl (d.fits fits) (rest_with s x d l) (omega (arith, x.rises, room)) refl refl))

pub dim-owes : (level : Level) → IsKind level op.MemrefDim
    → FormOwes level op.MemrefDim (operand ++ comma ++ operand ++ typed_as class.MemrefType ++ doing act.Written ++ doing act.IndexResult)
unfolding does
dim-owes level h s at rs fits room =
    let s0 : State = ready s op.MemrefDim at rs in
    operand-owes level s0 (comma ++ operand ++ typed_as class.MemrefType ++ doing act.Written ++ doing act.IndexResult) (Formed level s0)
    (λ x. λ t b a. operand-owes level (record (with_operand s0 x) { last = t }) (typed_as class.MemrefType ++ doing act.Written ++ doing act.IndexResult) (Formed level s0)
    (λ y. typed-memref-owes level (with_operand (with_operand s0 x) y) (doing act.Written ++ doing act.IndexResult) (Formed level s0)
    (λ d m w l. λ i j.
    let o : OpenOp = record (opened op.MemrefDim d.at rs) { operands = x.value ∷ y.value ∷ []; written = ty.Memref m ∷ []; types = ty.Index ∷ [] } in
    formed level s op.MemrefDim at rs _ o h refl (λ c. (m, w, parts level op.MemrefDim h (record o { at = c }) refl refl))
    (x.is_seen, (y.is_seen, tt)) refl (d.fits fits) (rest_with s y d l) (omega (arith, x.rises, y.rises, room)) refl refl)))

pub load-owes : (level : Level) → IsKind level op.MemrefLoad
    → FormOwes level op.MemrefLoad (operand ++ indices ++ typed_as class.MemrefType ++ doing act.ElementResult ++ doing act.Written)
unfolding does
load-owes level h s at rs fits room =
    let s0 : State = ready s op.MemrefLoad at rs in
    operand-owes level s0 (indices ++ typed_as class.MemrefType ++ doing act.ElementResult ++ doing act.Written) (Formed level s0)
    (λ x. λ t b a. (
      tt,
      λ y n. λ t2 b2 a2. typed-memref-owes level (record (with_uses (with_operand s0 x) y) { last = t2 }) (doing act.ElementResult ++ doing act.Written) (Formed level s0)
          (λ d m w l. λ i j.
          let o : OpenOp = record (opened op.MemrefLoad d.at rs) { operands = x.value ∷ y.values; written = ty.Memref m ∷ []; types = machine.cell_type m.elem ∷ [] } in
          formed level s op.MemrefLoad at rs _ o h refl
          (λ c. (
            m,
            length y.values,
            w,
            subst (λ (e : ℕ). Has (op_of (record o { at = c })) e attr.None [] (ty.Memref m ∷ []) (cell_type m.elem ∷ []) []) (one-more (length y.values))
                (subst (λ (u : Ty). Has (op_of (record o { at = c })) (suc (length y.values)) attr.None [] (ty.Memref m ∷ []) (u ∷ []) []) (cell-is m.elem)
                (parts level op.MemrefLoad h (record o { at = c }) refl refl)),
          ))
          (x.is_seen, y.are_seen) refl (d.fits fits) (rest_after s y d l) (omega (arith, x.rises, y.rises, room)) refl refl),
    ))
  where
    one-more : (n : ℕ) → suc n ≡ n + 1
    one-more n = omega arith

pub store-owes : (level : Level) → IsKind level op.MemrefStore
    → FormOwes level op.MemrefStore (operand ++ comma ++ operand ++ indices ++ typed_as class.MemrefType ++ doing act.Written)
unfolding does
store-owes level h s at rs fits room =
    let s0 : State = ready s op.MemrefStore at rs in
    operand-owes level s0 (comma ++ operand ++ indices ++ typed_as class.MemrefType ++ doing act.Written) (Formed level s0)
    (λ x. λ t b a. operand-owes level (record (with_operand s0 x) { last = t }) (indices ++ typed_as class.MemrefType ++ doing act.Written) (Formed level s0)
    (λ z. λ t1 b1 a1. (
      tt,
      λ y n. λ t2 b2 a2. typed-memref-owes level (record (with_uses (with_operand (with_operand s0 x) z) y) { last = t2 }) (doing act.Written) (Formed level s0)
          (λ d m w l. λ i.
          let o : OpenOp = record (opened op.MemrefStore d.at rs) { operands = x.value ∷ z.value ∷ y.values; written = ty.Memref m ∷ [] } in
          formed level s op.MemrefStore at rs _ o h refl
          (λ c. (
            m,
            length y.values,
            w,
            subst (λ (e : ℕ). Has (op_of (record o { at = c })) e attr.None [] (ty.Memref m ∷ []) [] []) (two-more (length y.values))
                (parts level op.MemrefStore h (record o { at = c }) refl refl),
          ))
          (x.is_seen, (z.is_seen, y.are_seen)) refl (d.fits fits) (rest_after s y d l) (omega (arith, x.rises, z.rises, y.rises, room)) refl refl),
    )))
  where
    two-more : (n : ℕ) → suc (suc n) ≡ n + 2
    two-more n = omega arith
