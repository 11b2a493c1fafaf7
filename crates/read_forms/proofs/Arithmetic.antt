-- The forms of operations on numbers.
use Rattle.std.proofs.Common.{◌≡◌, ◌<◌, inl, inr, ℕ, List, [], ◌∷◌, ◌++◌, length, map, refl, ap, ◌∙◌, subst, arith}
use Rattle.std.specs.Prelude.{unwrap_or}
use Rattle.int_ops.specs.declared.Pred.TheVariants.{Eq}
use Rattle.int_ops.specs.declared.Width.TheVariants.{W1}
use Rattle.op_table.specs.declared.kind.OpKind.{OpKind}
use Rattle.op_table.specs.declared.kind.OpKind.TheVariants as op
use Rattle.op_table.specs.declared.rows.Level.{Level}
use Rattle.ir_forms.specs.declared.ops.Op.{Op}
use Rattle.ir_forms.specs.declared.ops.Region.{Region}
use Rattle.ir_forms.specs.declared.ops.Attr.{Attr}
use Rattle.ir_forms.specs.declared.ops.Attr.TheVariants as attr
use Rattle.ir_forms.specs.declared.types.Ty.{Ty}
use Rattle.ir_forms.specs.declared.types.Ty.TheVariants as ty
use Rattle.module_grammar.specs.declared.symbols.Class.TheVariants as class
use Rattle.module_grammar.specs.declared.symbols.Keyword.TheVariants as key
use Rattle.module_grammar.specs.declared.symbols.Rule.TheVariants as rule
use Rattle.module_grammar.specs.declared.symbols.Act.TheVariants as act
use Rattle.module_grammar.specs.declared.symbols.Symbol.{Symbol}
use Rattle.module_grammar.specs.declared.state.TextToken.{TextToken}
use Rattle.module_grammar.specs.declared.state.Name.{Name}
use Rattle.module_grammar.specs.declared.state.OpenOp.{OpenOp}
use Rattle.module_grammar.specs.declared.state.State.{State}
use Rattle.module_grammar.specs.State.{does, op_of, with_else}
use Rattle.module_grammar.specs.Tokens.{predicate_of}
use Rattle.module_grammar.specs.Rules.{token, word, comma, operand, typed, part, doing}
use Rattle.mlir_print.specs.Printable.{Has, HasForm, IsBinary, IsCast, IsConstant, param_types}
use Rattle.read_forms.proofs.Triples.{Owes}
use Rattle.read_forms.proofs.Shows.{has}
use Rattle.read_forms.proofs.Outcomes.{HasRoom, NumberRead, IsLiteral, Rest, rest_of, opened, triples}
use Rattle.read_forms.proofs.Operands.{OperandRead, with_operand, operand-owes}
use Rattle.read_forms.proofs.Held.{Formed}
use Rattle.read_forms.proofs.OneOp.{node_of, ready, IsKind, formed}

-- what the form of a kind owes
abbrev pub FormOwes : Level → OpKind → List Symbol → Type 0
FormOwes level k ss = (s : State) (at : ℕ) (rs : List Name) → at < 4294967296 → HasRoom s
    → Owes (triples level) ss (Formed level (ready s k at rs)) (ready s k at rs)

-- a rest that an operand, a dictionary and a type leave
abbrev pub rest_with : (s : State) {visible : List Name} {before number : ℕ} → OperandRead visible before → NumberRead number → TextToken → Rest
rest_with s y d t = record (rest_of s) { last = t; used = y.used; counted = y.counted; entry = d.dict.entry; entry_at = d.dict.entry_at }

-- the parts of an operation of a kind without regions
pub parts : (level : Level) (k : OpKind) → IsKind level k → (x : OpenOp) → x.kind ≡ k → x.regions ≡ []
    → Has (op_of x) (length x.operands) x.attr x.groups x.written x.types []
parts level k h x e none = has (node_of x) (length x.operands) x.attr x.groups x.written x.types [] (refl, refl, refl, refl, refl, regionless)
  where
    regionless : map param_types (node_of x).regions ≡ []
    regionless = ap (λ (l : List Region). map param_types (with_else x.kind l)) none ∙ ap (λ (y : OpKind). map param_types (with_else y [])) e ∙ ap (map param_types) h.no_else

-- ---- two operands of one type

pub binary-owes : (level : Level) (k : OpKind) → IsKind level k → ((o : Op) → IsBinary 2 o → HasForm k o)
    → FormOwes level k (operand ++ comma ++ operand ++ typed ++ doing act.SameTypes)
unfolding does
binary-owes level k h is s at rs fits room =
    operand-owes level (ready s k at rs) (comma ++ operand ++ typed ++ doing act.SameTypes) (Formed level (ready s k at rs))
    (λ x. λ t b a. operand-owes level (record (with_operand (ready s k at rs) x) { last = t }) (typed ++ doing act.SameTypes) (Formed level (ready s k at rs))
    (λ y. (
      tt,
      λ d n. λ t2 b2 a2. (
        tt,
        λ u m. λ i.
            let o : OpenOp = record (opened k d.at rs) { operands = x.value ∷ y.value ∷ []; written = u.type ∷ u.type ∷ []; types = u.type ∷ [] } in
            formed level s k at rs _ o h refl (λ c. is _ (u.type, u.written, parts level k h (record o { at = c }) refl refl))
            (x.is_seen, (y.is_seen, tt)) refl (d.fits fits) (rest_with s y d u.last) (omega (arith, x.rises, y.rises, room)) refl refl,
      ),
    )))

pub select-owes : (level : Level) (k : OpKind) → IsKind level k → ((o : Op) → IsBinary 3 o → HasForm k o)
    → FormOwes level k (operand ++ comma ++ operand ++ comma ++ operand ++ typed ++ doing act.SameTypes)
unfolding does
select-owes level k h is s at rs fits room =
    operand-owes level (ready s k at rs) (comma ++ operand ++ comma ++ operand ++ typed ++ doing act.SameTypes) (Formed level (ready s k at rs))
    (λ x. λ t b a. operand-owes level (record (with_operand (ready s k at rs) x) { last = t }) (comma ++ operand ++ typed ++ doing act.SameTypes) (Formed level (ready s k at rs))
    (λ y. λ t1 b1 a1. operand-owes level (record (with_operand (with_operand (ready s k at rs) x) y) { last = t1 }) (typed ++ doing act.SameTypes) (Formed level (ready s k at rs))
    (λ z. (
      tt,
      λ d n. λ t2 b2 a2. (
        tt,
        λ u m. λ i.
            let o : OpenOp = record (opened k d.at rs) { operands = x.value ∷ y.value ∷ z.value ∷ []; written = u.type ∷ u.type ∷ []; types = u.type ∷ [] } in
            formed level s k at rs _ o h refl (λ c. is _ (u.type, u.written, parts level k h (record o { at = c }) refl refl))
            (x.is_seen, (y.is_seen, (z.is_seen, tt))) refl (d.fits fits) (rest_with s z d u.last) (omega (arith, x.rises, y.rises, z.rises, room)) refl refl,
      ),
    ))))

pub compare-owes : (level : Level) → IsKind level op.ArithCmpi
    → FormOwes level op.ArithCmpi (token class.Predicate ++ doing act.Predicate ++ comma ++ operand ++ comma ++ operand ++ typed ++ doing act.Twice ++ doing act.TruthResult)
unfolding does
compare-owes level h s at rs fits room =
    λ t b a. λ n. λ t1 b1 a1.
    let p = unwrap_or (predicate_of t) Eq in
    let s0 : State = record (ready s op.ArithCmpi at rs) { op = record (opened op.ArithCmpi at rs) { attr = attr.Pred p }; last = t1 } in
    operand-owes level s0 (comma ++ operand ++ typed ++ doing act.Twice ++ doing act.TruthResult) (Formed level (ready s op.ArithCmpi at rs))
    (λ x. λ t2 b2 a2. operand-owes level (record (with_operand s0 x) { last = t2 }) (typed ++ doing act.Twice ++ doing act.TruthResult) (Formed level (ready s op.ArithCmpi at rs))
    (λ y. (
      tt,
      λ d n2. λ t3 b3 a3. (
        tt,
        λ u m. λ i j.
            let o : OpenOp = record (opened op.ArithCmpi d.at rs) { operands = x.value ∷ y.value ∷ []; written = u.type ∷ u.type ∷ []; types = ty.Int W1 ∷ []; attr = attr.Pred p } in
            formed level s op.ArithCmpi at rs _ o h refl (λ c. (p, u.type, u.written, parts level op.ArithCmpi h (record o { at = c }) refl refl))
            (x.is_seen, (y.is_seen, tt)) refl (d.fits fits) (rest_with s y d u.last) (omega (arith, x.rises, y.rises, room)) refl refl,
      ),
    )))

pub cast-owes : (level : Level) (k : OpKind) → IsKind level k → ((o : Op) → IsCast o → HasForm k o)
    → FormOwes level k (operand ++ typed ++ doing act.Written ++ word key.To ++ part rule.Type ++ doing act.Results)
unfolding does
cast-owes level k h is s at rs fits room =
    operand-owes level (ready s k at rs) (typed ++ doing act.Written ++ word key.To ++ part rule.Type ++ doing act.Results) (Formed level (ready s k at rs))
    (λ x. (
      tt,
      λ d n. λ t2 b2 a2. (
        tt,
        λ u m. λ i. λ t3 b3 a3. (
          tt,
          λ v l. λ j.
              let o : OpenOp = record (opened k d.at rs) { operands = x.value ∷ []; written = u.type ∷ []; types = v.type ∷ [] } in
              formed level s k at rs _ o h refl (λ c. is _ (u.type, v.type, u.written, v.written, parts level k h (record o { at = c }) refl refl))
              (x.is_seen, tt) refl (d.fits fits) (rest_with s x d v.last) (omega (arith, x.rises, room)) refl refl,
        ),
      ),
    ))

-- ---- constants

constant-is : (level : Level) → IsKind level op.ArithConstant → (at : ℕ) (rs : List Name) (a : Attr) (t : Ty) → IsLiteral a t
    → IsConstant (op_of (record (opened op.ArithConstant at rs) { attr = a; types = t ∷ [] }))
constant-is level h at rs a t (inl is) =
    let o : OpenOp = record (opened op.ArithConstant at rs) { attr = a; types = t ∷ [] } in
    inl (
      is.0,
      subst (λ (b : Attr). Has (op_of o) 0 b [] [] (ty.Int W1 ∷ []) []) is.1
          (subst (λ (u : Ty). Has (op_of o) 0 a [] [] (u ∷ []) []) is.2 (parts level op.ArithConstant h o refl refl)),
    )
constant-is level h at rs a t (inr (inl is)) =
    let o : OpenOp = record (opened op.ArithConstant at rs) { attr = a; types = t ∷ [] } in
    inr (inl (is.0, t, is.2, is.3, subst (λ (b : Attr). Has (op_of o) 0 b [] [] (t ∷ []) []) is.1 (parts level op.ArithConstant h o refl refl)))
constant-is level h at rs a t (inr (inr is)) =
    let o : OpenOp = record (opened op.ArithConstant at rs) { attr = a; types = t ∷ [] } in
    inr (inr (is.0, t, is.2, is.3, subst (λ (b : Attr). Has (op_of o) 0 b [] [] (t ∷ []) []) is.1 (parts level op.ArithConstant h o refl refl)))

pub constant-owes : (level : Level) → IsKind level op.ArithConstant → FormOwes level op.ArithConstant (part rule.Literal)
constant-owes level h s at rs fits room = (
  refl,
  λ x n.
      let d = x.number.dict in
      let o : OpenOp = record (opened op.ArithConstant x.number.at rs) { attr = x.attr; types = x.type ∷ [] } in
      formed level s op.ArithConstant at rs _ o h refl (λ c. constant-is level h c rs x.attr x.type x.is) tt refl (x.number.fits fits)
      (record (rest_of s) { last = d.last; entry = d.entry; entry_at = d.entry_at }) room refl refl,
)
