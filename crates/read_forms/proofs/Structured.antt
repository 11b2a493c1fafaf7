-- The forms of operations with regions.
use Rattle.std.proofs.Common.{◌≡◌, ◌<◌, ◌≤◌, ℕ, suc, ◌+◌, ◌-◌, List, [], ◌∷◌, ◌++◌, length, map, replicate, refl, sym, ap, ◌∙◌, subst, arith, length-append}
use Rattle.op_table.specs.declared.kind.OpKind.{OpKind}
use Rattle.op_table.specs.declared.kind.OpKind.TheVariants as op
use Rattle.op_table.specs.declared.rows.Level.{Level}
use Rattle.ir_forms.specs.declared.ops.Op.{Op}
use Rattle.ir_forms.specs.declared.ops.ValueNo.{ValueNo}
use Rattle.ir_forms.specs.declared.ops.Attr.TheVariants as attr
use Rattle.ir_forms.specs.declared.types.Ty.{Ty}
use Rattle.ir_forms.specs.declared.types.Ty.TheVariants as ty
use Rattle.ir_forms.specs.Ops.{operands_of}
use Rattle.module_grammar.specs.declared.symbols.Keyword.TheVariants as key
use Rattle.module_grammar.specs.declared.symbols.Rule.TheVariants as rule
use Rattle.module_grammar.specs.declared.symbols.Act.TheVariants as act
use Rattle.module_grammar.specs.declared.symbols.Symbol.{Symbol}
use Rattle.module_grammar.specs.declared.state.Name.{Name}
use Rattle.module_grammar.specs.declared.state.Param.{Param}
use Rattle.module_grammar.specs.declared.state.OpenOp.{OpenOp}
use Rattle.module_grammar.specs.declared.state.State.{State}
use Rattle.module_grammar.specs.State.{does, op_of, param_value, as_number, ungrouped}
use Rattle.module_grammar.specs.State as machine
use Rattle.module_grammar.specs.Rules.{word, arrow, paren, close_paren, equals, brace, operand, index_param, bounds, listed, region, rest_of_body, part, doing}
use Rattle.mlir_print.specs.Printable.{Has, payload, typed_by, param_types}
use Rattle.read_forms.proofs.Triples.{Owes}
use Rattle.read_forms.proofs.Scopes.{seen_of, both-seen}
use Rattle.read_forms.proofs.Shows.{Shows, has, region-types}
use Rattle.read_forms.proofs.Outcomes.{AreParams, UsesRead, with_params, with_uses, with_dict, scope_at, opened, after, triples}
use Rattle.read_forms.proofs.Operands.{with_operand, operand-owes, more-uses, uses-joined}
use Rattle.read_forms.proofs.Params.{with_param, param-room, index-param-owes}
use Rattle.read_forms.proofs.Inits.{typed-params, typed-length}
use Rattle.read_forms.proofs.Regions.{RegionRead, region_read, with_region, region-owes, block-region-owes, region-shows, params-types}
use Rattle.read_forms.proofs.Held.{Formed}
use Rattle.read_forms.proofs.OneOp.{node_of, ready, IsKind, formed-with}
use Rattle.read_forms.proofs.Arithmetic.{FormOwes}

-- the types of a region's parameters
types-are : (level : Level) (k : OpKind) (types : List Ty) (ps : List Param) (visible : List Name) (next n : ℕ) (ts : List Ty)
    (r : RegionRead level k types ps visible next) → AreParams n ps ts → param_types (region_read r) ≡ ts
types-are level k types ps visible next n ts r are = region-types (record { params = map param_value ps; ops = r.ops }) ∙ params-types n ps ts are

-- ---- `scf.if`

pub if-owes : (level : Level) → IsKind level op.ScfIf → FormOwes level op.ScfIf (operand ++ part rule.Branches)
if-owes level h s at rs fits room =
    let s0 : State = ready s op.ScfIf at rs in
    operand-owes level s0 (part rule.Branches) (Formed level s0)
    (λ x. (
      record { clean = record { read = refl; held = refl; room = omega (arith, x.rises, room) }; kind = refl; types = refl; params = refl; regions = refl },
      λ y n.
          let o : OpenOp = record (opened op.ScfIf at rs) { operands = x.value ∷ []; types = y.types; regions = y.regions } in
          formed-with level s0 _ o y.end.next y.end h.stands
          (λ c. (y.types, y.written, has (node_of (record o { at = c })) 1 attr.None [] [] y.types ([] ∷ [] ∷ []) (refl, refl, refl, refl, refl, y.no_params)))
          (x.is_seen, tt) y.shows refl fits y.rest y.room refl refl,
    ))

-- ---- `scf.for`

pub for-owes : (level : Level) → IsKind level op.ScfFor
    → FormOwes level op.ScfFor (index_param ++ equals ++ operand ++ word key.To ++ operand ++ word key.Step ++ operand ++ part rule.IterArgs ++ region)
for-owes level h s at rs fits room =
    let s0 : State = ready s op.ScfFor at rs in
    index-param-owes level s0 (equals ++ operand ++ word key.To ++ operand ++ word key.Step ++ operand ++ part rule.IterArgs ++ region) (Formed level s0) room
    (λ x e. λ t b a. operand-owes level (record (with_param s0 x) { last = t }) (word key.To ++ operand ++ word key.Step ++ operand ++ part rule.IterArgs ++ region) (Formed level s0)
    (λ v1. λ t1 b1 a1. operand-owes level (record (with_operand (with_param s0 x) v1) { last = t1 }) (word key.Step ++ operand ++ part rule.IterArgs ++ region) (Formed level s0)
    (λ v2. λ t2 b2 a2. operand-owes level (record (with_operand (with_operand (with_param s0 x) v1) v2) { last = t2 }) (part rule.IterArgs ++ region) (Formed level s0)
    (λ v3.
    let s3 : State = with_operand (with_operand (with_operand (with_param s0 x) v1) v2) v3 in
    let more : x.next ≤ v3.counted = omega (arith, param-room s.next s.counted x room, v1.rises, v2.rises, v3.rises) in (
      record { clean = record { read = refl; held = refl; room = more }; types = refl; param = x.param; params = refl; index = x.type_is ∙ e },
      λ y n. region-owes level (after level rule.IterArgs s3 y) [] (Formed level s0) (record { read = refl; held = refl; room = omega (arith, more, y.read.next_is, y.read.rises) })
          (λ r.
          let o : OpenOp = record (opened op.ScfFor at rs) { operands = v1.value ∷ v2.value ∷ v3.value ∷ y.values; types = y.types; regions = region_read r ∷ [] } in
          let are : AreParams s.next (x.param ∷ y.read.params) (ty.Index ∷ y.read.types) =
          (x.first_is, x.count_is, x.type_is ∙ e, x.small, subst (λ (c : ℕ). AreParams c y.read.params y.read.types) x.next_is y.read.are) in
          formed-with level s0 _ o r.end (scope_at r.end s.visible) h.stands
          (λ c. (
            length y.values,
            y.types,
            y.written,
            y.have,
            has (node_of (record o { at = c })) (3 + length y.values) attr.None [] [] y.types ((ty.Index ∷ typed_by (length y.values) y.types) ∷ []) (
              omega arith,
              refl,
              refl,
              refl,
              refl,
              ap (λ (l : List Ty). l ∷ []) (types-are level op.ScfFor y.types (x.param ∷ y.read.params) s.visible y.read.next s.next (ty.Index ∷ y.read.types) r are
                  ∙ ap (λ (l : List Ty). ty.Index ∷ l) y.typed),
            ),
          ))
          (v1.is_seen, (v2.is_seen, (v3.is_seen, y.are_seen)))
          (region-shows level op.ScfFor y.types (x.param ∷ y.read.params) s.visible s.next y.read.next (ty.Index ∷ y.read.types) 0 r [] (scope_at r.end s.visible) are
          (omega (arith, x.next_is, y.read.next_is)) (Shows.no_regions op.ScfFor y.types 1 (scope_at r.end s.visible)))
          refl fits r.rest r.room refl refl),
    )))))

-- ---- `scf.parallel`

-- one group of bounds
abbrev grouped : (s : State) → UsesRead s.visible s.counted → State
grouped s x = record (with_uses s x) { op = record ((with_uses s x).op) { groups = s.op.groups ++ as_number (ungrouped (length (s.op.operands ++ x.values)) s.op.groups) ∷ [] } }

bounds-owe : (level : Level) (s : State) (ss : List Symbol) (Q : State → Type 0)
    → ((x : UsesRead s.visible s.counted) → 1 ≤ length x.values → x.counted < 4294967295 → Owes (triples level) ss Q (grouped s x)) → Owes (triples level) (bounds ++ ss) Q s
unfolding does more-uses
bounds-owe level s ss Q f =
    λ t b a. operand-owes level (record s { last = t }) (part rule.MoreUses ++ close_paren ++ doing act.Group ++ ss) Q
    (λ x. (
      tt,
      λ y n. λ t2 b2 a2. λ i.
          let z : UsesRead s.visible s.counted = record (more-uses s.visible s.counted x y) { last = t2 } in
          subst (λ (c : State). Owes (triples level) ss Q (record c { last = t2; op = record (c.op) { groups = s.op.groups ++ as_number (ungrouped (length c.op.operands) s.op.groups) ∷ [] } }))
          (uses-joined s x y) (f z (omega arith) n),
    ))

three : (a b c x y z : ℕ) → a ≡ x → b ≡ y → c ≡ z → a ∷ b ∷ c ∷ [] ≡ x ∷ y ∷ z ∷ []
three a b c x y z e f g = ap (λ (n : ℕ). n ∷ b ∷ c ∷ []) e ∙ ap (λ (n : ℕ). x ∷ n ∷ c ∷ []) f ∙ ap (λ (n : ℕ). x ∷ y ∷ n ∷ []) g

-- the groups of bounds, as numbers of operands
groups-are : (xs ys zs : List ValueNo) → 1 ≤ length xs → 1 ≤ length ys → 1 ≤ length zs → length xs + length ys + length zs < 4294967295
    → as_number (length xs) ∷ as_number (length (xs ++ ys) - as_number (length xs))
    ∷ as_number (length ((xs ++ ys) ++ zs) - as_number (length xs) - as_number (length (xs ++ ys) - as_number (length xs))) ∷ []
    ≡ suc (length xs - 1) ∷ suc (length ys - 1) ∷ suc (length zs - 1) ∷ []
groups-are xs ys zs a b c h =
    three _ _ _ _ _ _ (omega (arith, a, h)) (omega (arith, a, b, h, length-append xs ys))
    (omega (arith, a, b, c, h, length-append xs ys, length-append (xs ++ ys) zs))

all-operands : (xs ys zs : List ValueNo) → 1 ≤ length xs → 1 ≤ length ys → 1 ≤ length zs
    → length ((xs ++ ys) ++ zs) ≡ suc (length xs - 1) + (suc (length ys - 1) + suc (length zs - 1))
all-operands xs ys zs a b c = omega (arith, a, b, c, length-append xs ys, length-append (xs ++ ys) zs)

index-types : (ts : List Ty) (n : ℕ) → ts ≡ replicate n ty.Index → ty.Index ∷ ts ≡ replicate (suc n) ty.Index
index-types ts n e = ap (λ (l : List Ty). ty.Index ∷ l) e

pub parallel-owes : (level : Level) → IsKind level op.ScfParallel
    → FormOwes level op.ScfParallel (paren ++ index_param ++ part rule.MoreIndexParams ++ close_paren ++ equals ++ bounds ++ word key.To ++ bounds ++ word key.Step ++ bounds ++ region)
parallel-owes level h s at rs fits room =
    let s0 : State = ready s op.ScfParallel at rs in
    λ t b a. index-param-owes level (record s0 { last = t }) (part rule.MoreIndexParams ++ close_paren ++ equals ++ bounds ++ word key.To ++ bounds ++ word key.Step ++ bounds ++ region) (Formed level s0) room
    (λ x e. (
      param-room s.next s.counted x room,
      λ z n. λ t1 b1 a1. λ t2 b2 a2.
          let s1 : State = record (with_params (with_param s0 x) z.read) { last = t2 } in
          bounds-owe level s1 (word key.To ++ bounds ++ word key.Step ++ bounds ++ region) (Formed level s0)
          (λ v1 l1 m1. λ t3 b3 a3.
          let s2 : State = record (grouped s1 v1) { last = t3 } in
          bounds-owe level s2 (word key.Step ++ bounds ++ region) (Formed level s0)
          (λ v2 l2 m2. λ t4 b4 a4.
          let s3 : State = record (grouped s2 v2) { last = t4 } in
          bounds-owe level s3 region (Formed level s0)
          (λ v3 l3 m3.
          region-owes level (grouped s3 v3) [] (Formed level s0)
          (record { read = refl; held = refl; room = omega (arith, param-room s.next s.counted x room, z.read.next_is, z.read.rises, v1.rises, v2.rises, v3.rises) })
          (λ r.
          let o : OpenOp = record (opened op.ScfParallel at rs) {
            operands = (v1.values ++ v2.values) ++ v3.values;
            groups = as_number (length v1.values) ∷ as_number (length (v1.values ++ v2.values) - as_number (length v1.values))
                ∷ as_number (length ((v1.values ++ v2.values) ++ v3.values) - as_number (length v1.values) - as_number (length (v1.values ++ v2.values) - as_number (length v1.values))) ∷ [];
            regions = region_read r ∷ [];
          } in
          let are : AreParams s.next (x.param ∷ z.read.params) (ty.Index ∷ z.read.types) =
          (x.first_is, x.count_is, x.type_is ∙ e, x.small, subst (λ (c : ℕ). AreParams c z.read.params z.read.types) x.next_is z.read.are) in
          formed-with level s0 _ o r.end (scope_at r.end s.visible) h.stands
          (λ c. (
            length v1.values - 1,
            length v2.values - 1,
            length v3.values - 1,
            length z.read.params,
            omega (arith, v1.rises, v2.rises, v3.rises, m3),
            omega (arith, v1.rises, v2.rises, v3.rises, m3),
            omega (arith, v1.rises, v2.rises, v3.rises, m3),
            has (node_of (record o { at = c })) (suc (length v1.values - 1) + (suc (length v2.values - 1) + suc (length v3.values - 1))) attr.None
                (suc (length v1.values - 1) ∷ suc (length v2.values - 1) ∷ suc (length v3.values - 1) ∷ []) [] [] (replicate (suc (length z.read.params)) ty.Index ∷ []) (
                  all-operands v1.values v2.values v3.values l1 l2 l3,
                  refl,
                  groups-are v1.values v2.values v3.values l1 l2 l3 (omega (arith, v1.rises, v2.rises, v3.rises, m3)),
                  refl,
                  refl,
                  ap (λ (l : List Ty). l ∷ []) (types-are level op.ScfParallel [] (x.param ∷ z.read.params) s.visible z.read.next s.next (ty.Index ∷ z.read.types) r are
                      ∙ index-types z.read.types (length z.read.params) z.indices),
                ),
          ))
          (both-seen (seen_of s.visible) (v1.values ++ v2.values) v3.values (both-seen (seen_of s.visible) v1.values v2.values v1.are_seen v2.are_seen) v3.are_seen)
          (region-shows level op.ScfParallel [] (x.param ∷ z.read.params) s.visible s.next z.read.next (ty.Index ∷ z.read.types) 0 r [] (scope_at r.end s.visible) are
          (omega (arith, x.next_is, z.read.next_is)) (Shows.no_regions op.ScfParallel [] 1 (scope_at r.end s.visible)))
          refl fits r.rest r.room refl refl)))),
    ))

-- ---- `async.execute`

execute-groups : (xs ys : List ValueNo) (n : ℕ) → length ys ≡ n → length xs + length ys < 4294967295
    → as_number (length xs) ∷ as_number (length (xs ++ ys) - as_number (length xs)) ∷ [] ≡ length xs ∷ n ∷ []
execute-groups xs ys n e h = ap (λ (c : ℕ). c ∷ as_number (length (xs ++ ys) - as_number (length xs)) ∷ []) a ∙ ap (λ (c : ℕ). length xs ∷ c ∷ []) b
  where
    a : as_number (length xs) ≡ length xs
    a = omega (arith, h)

    b : as_number (length (xs ++ ys) - as_number (length xs)) ≡ n
    b = omega (arith, h, e, length-append xs ys)

-- the operation in whose region the text stands
execute-op : (at : ℕ) (rs : List Name) (xs ys : List ValueNo) (written types : List Ty) → OpenOp
execute-op at rs xs ys written types = record (opened op.AsyncExecute at rs) {
  operands = xs ++ ys;
  groups = as_number (length xs) ∷ as_number (length (xs ++ ys) - as_number (length xs)) ∷ [];
  written = written;
  types = ty.Token ∷ types;
}

pub execute-owes : (level : Level) → IsKind level op.AsyncExecute
    → FormOwes level op.AsyncExecute (part rule.Dependencies ++ doing act.Group ++ part rule.ValueOperands ++ doing act.Group ++ doing act.TokenResult ++ part rule.OpResults ++ region)
unfolding does execute-op
execute-owes level h s at rs fits room =
    let s0 : State = ready s op.AsyncExecute at rs in (
      tt,
      λ x n. λ i. (
        record { read = refl; room = omega (arith, room, x.rises) },
        λ y m. λ j k. (
          refl,
          λ z l.
              let ps : List Param = y.read.params in
              let s1 : State = record s {
                op = record (execute-op at rs x.values y.values y.types z.types) { params = ps };
                read = [];
                held = [];
                next = y.read.next;
                counted = y.read.counted;
                last = z.last;
                used = y.used;
              } in
              region-owes level s1 [] (Formed level s0) (record { read = refl; held = refl; room = omega (arith, room, x.rises, y.read.next_is, y.read.rises) })
              (λ r.
              let o : OpenOp = record (execute-op at rs x.values y.values y.types z.types) { regions = region_read r ∷ [] } in
              formed-with level s0 _ o r.end (scope_at r.end s.visible) h.stands
              (λ c. (
                length x.values,
                y.types,
                z.types,
                omega (arith, x.rises, y.rises, l),
                omega (arith, x.rises, y.rises, y.as_many, l),
                y.written,
                z.written,
                has (node_of (record o { at = c })) (length x.values + length y.types) attr.None (length x.values ∷ length y.types ∷ []) y.types (ty.Token ∷ z.types) (map payload y.types ∷ []) (
                  omega (arith, length-append x.values y.values, y.as_many),
                  refl,
                  execute-groups x.values y.values (length y.types) y.as_many (omega (arith, x.rises, y.rises, l)),
                  refl,
                  refl,
                  ap (λ (w : List Ty). w ∷ []) (types-are level op.AsyncExecute (ty.Token ∷ z.types) ps s.visible y.read.next s.next y.read.types r y.read.are ∙ y.typed),
                ),
              ))
              (both-seen (seen_of s.visible) x.values y.values x.are_seen y.are_seen)
              (region-shows level op.AsyncExecute (ty.Token ∷ z.types) ps s.visible s.next y.read.next y.read.types 0 r [] (scope_at r.end s.visible) y.read.are y.read.next_is
              (Shows.no_regions op.AsyncExecute (ty.Token ∷ z.types) 1 (scope_at r.end s.visible)))
              refl fits r.rest r.room refl refl),
        ),
      ),
    )

-- ---- `scf.while`

-- the same with as many operands as there are
while-counts : (o : Op) (n : ℕ) (ws ts ps : List Ty) → Has o n attr.None [] ws ts (typed_by n ws ∷ ps ∷ [])
    → Has o (length (operands_of o)) attr.None [] ws ts (typed_by (length (operands_of o)) ws ∷ ps ∷ [])
while-counts o n ws ts ps h = subst (λ (c : ℕ). Has o c attr.None [] ws ts (typed_by c ws ∷ ps ∷ [])) (sym h.operand_count) h

pub while-owes : (level : Level) → IsKind level op.ScfWhile
    → FormOwes level op.ScfWhile (part rule.Inits ++ listed ++ doing act.WrittenParams ++ arrow ++ part rule.ResultTypes ++ doing act.Results ++ region ++ word key.Do ++ brace ++ doing act.OpenRegion ++ part rule.BlockParams ++ rest_of_body)
unfolding does
while-owes level h s at rs fits room =
    let s0 : State = ready s op.ScfWhile at rs in (
      room,
      λ x n. (
        tt,
        λ d m. λ t b a. λ t1 b1 a1. (
          tt,
          λ ws k. λ t2 b2 a2. λ i j. λ t3 b3 a3. (
            tt,
            λ ts l. λ e.
                let ps : List Param = machine.typed_by x.read.params ws.types in
                let are : AreParams s.next ps (typed_by (length x.values) ws.types) =
                typed-params (length x.values) s.next x.read.params ws.types (subst (λ (w : List Ty). AreParams s.next x.read.params w) x.untyped x.read.are) in
                let o0 : OpenOp = record (opened op.ScfWhile d.at rs) { operands = x.values; written = ws.types; types = ts.types } in
                let s1 : State = record (with_dict d.dict s) {
                  op = record o0 { params = ps };
                  read = [];
                  held = [];
                  next = x.read.next;
                  counted = x.read.counted;
                  last = ts.last;
                  used = x.used;
                } in
                region-owes level s1 (word key.Do ++ brace ++ doing act.OpenRegion ++ part rule.BlockParams ++ rest_of_body) (Formed level s0)
                (record { read = refl; held = refl; room = omega (arith, room, x.read.next_is, x.read.rises) })
                (λ r1. λ t4 b4 a4. λ t5 b5 a5.
                block-region-owes level (record (with_region s1 r1) { last = t5 }) [] (Formed level s0) (record { read = refl; held = refl; room = r1.room }) refl
                (λ p r2.
                let o : OpenOp = record o0 { regions = region_read r1 ∷ region_read r2 ∷ [] } in
                formed-with level s0 _ o r2.end (scope_at r2.end s.visible) h.stands
                (λ c. (
                  ws.types,
                  ts.types,
                  p.read.types,
                  ws.written,
                  ts.written,
                  p.written,
                  while-counts (op_of (record o { at = c })) (length x.values) ws.types ts.types p.read.types
                      (has (node_of (record o { at = c })) (length x.values) attr.None [] ws.types ts.types (typed_by (length x.values) ws.types ∷ p.read.types ∷ []) (
                        refl,
                        refl,
                        refl,
                        refl,
                        refl,
                        ap (λ (w : List Ty). w ∷ param_types (region_read r2) ∷ []) (types-are level op.ScfWhile ts.types ps s.visible x.read.next s.next (typed_by (length x.values) ws.types) r1 are)
                            ∙ ap (λ (w : List Ty). typed_by (length x.values) ws.types ∷ w ∷ []) (types-are level op.ScfWhile ts.types p.read.params s.visible p.read.next r1.end p.read.types r2 p.read.are),
                      )),
                ))
                x.are_seen
                (region-shows level op.ScfWhile ts.types ps s.visible s.next x.read.next (typed_by (length x.values) ws.types) 0 r1 (region_read r2 ∷ []) (scope_at r2.end s.visible) are
                (omega (arith, x.read.next_is, typed-length x.read.params ws.types))
                (region-shows level op.ScfWhile ts.types p.read.params s.visible r1.end p.read.next p.read.types 1 r2 [] (scope_at r2.end s.visible) p.read.are p.read.next_is
                (Shows.no_regions op.ScfWhile ts.types 2 (scope_at r2.end s.visible))))
                refl (d.fits fits) r2.rest r2.room refl refl)),
          ),
        ),
      ),
    )
