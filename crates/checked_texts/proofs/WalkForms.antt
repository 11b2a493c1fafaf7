-- A module with its checks has what its forms write.
use Rattle.std.proofs.Common.{◌⊎◌, inl, inr, ◌≡◌, ◌<◌, ℕ, zero, suc, ◌+◌, ◌^◌, IsTrue, List, [], ◌∷◌, ◌++◌, map, length, refl, sym, ap, ◌∙◌, subst, arith, append_assoc}
use Rattle.op_table.specs.declared.kind.OpKind.{OpKind}
use Rattle.op_table.specs.declared.kind.OpKind.TheVariants as op
use Rattle.op_table.specs.declared.rows.Level.TheVariants.{Checked}
use Rattle.op_table.specs.Rows.{row_of, stands_at}
use Rattle.ir_forms.specs.declared.ops.Op.{Op, Op-F, out-Op, roll-Op, out-roll-Op}
use Rattle.ir_forms.specs.declared.ops.Op.TheFolds.{ind-Region}
use Rattle.ir_forms.specs.declared.ops.Region.{Region, Region-F, out-Region, roll-Region, out-roll-Region}
use Rattle.ir_forms.specs.declared.ops.ValueNo.{ValueNo}
use Rattle.ir_forms.specs.declared.types.Ty.{Ty}
use Rattle.ir_forms.specs.Numbers.{in_turn, joined}
use Rattle.ir_forms.specs.Ops.{kind_of, operands_of, written_of, attr_of, regions_of, ops_of}
use Rattle.ir_verify.specs.Rules.{groups_of}
use Rattle.made_ops.specs.Made.{begun}
use Rattle.made_ops.specs.declared.insertion.Insertion.{Insertion}
use Rattle.check_insert.specs.Shape.{checked_op, checked_region, guard_of, guarded}
use Rattle.checked_texts.proofs.Outs.{before, op_out, region_out, with_regions}
use Rattle.mlir_print.specs.Printable.{AreWritten, HasForm, IsEnded, Ops, Part, Regions, ends_with, param_types, params_of, types_of}
use Rattle.checked_texts.proofs.Formed.{Formed, LikeText, form_like, formed, formed_both, formed_no_regions, formed_none, formed_region}
use Rattle.checked_texts.proofs.MadeForms.{IsFormed}
use Rattle.checked_texts.proofs.RowForms.{Access, guarded_formed}

access_of : (k : OpKind) (o : Op) → HasForm k o → Access (guard_of k) o
access_of op.MemrefLoad o h = subst AreWritten (sym h.3.written_are) (h.2, tt)
access_of op.MemrefStore o h = subst AreWritten (sym h.3.written_are) (h.2, tt)
access_of op.ArithDivsi o h = tt
access_of k o h = tt

-- ---- ends

ends_behind : (k : OpKind) (xs : List Op) (q : Op) (qs : List Op) → ends_with k (q ∷ qs) → ends_with k (xs ++ q ∷ qs)
ends_behind k [] q qs h = h
ends_behind k (x ∷ []) q qs h = h
ends_behind k (x ∷ y ∷ xs) q qs h = ends_behind k (y ∷ xs) q qs h

pub ends_more : (k : OpKind) (p : Op) (ps : List Op) → ends_with k ps → ends_with k (p ∷ ps)
ends_more k p [] h = elim h [ ]
ends_more k p (q ∷ ps) h = h

pub ended_like : (k : OpKind) (i : ℕ) (ts : List Ty) (os ps : List Op) → ((x : OpKind) → ends_with x os → ends_with x ps) → (os ≡ [] → ps ≡ []) → IsEnded k i ts os → IsEnded k i ts ps
ended_like op.ScfFor i [] os ps ends none h = ends op.ScfYield h
ended_like op.ScfIf zero [] os ps ends none h = ends op.ScfYield h
ended_like op.ScfIf (suc i) [] os ps ends none h = step h
  where
    step : IsEnded op.ScfIf (suc i) [] os → IsEnded op.ScfIf (suc i) [] ps
    step (inl e) = inl (none e)
    step (inr e) = inr (ends op.ScfYield e)
ended_like op.AsyncExecute i (t ∷ []) os ps ends none h = ends op.AsyncYield h
ended_like op.ScfParallel i ts os ps ends none h = ends op.ScfReduce h
ended_like k i ts os ps ends none h = tt

-- ---- the walk

-- an operation behind its insertion, all formed
record OpForm (o : Op) (free : ℕ) : Type 0 where
  made : List Op
  kept : Op
  are : (checked_op o free).0 ≡ made ++ kept ∷ []
  made_formed : Formed Checked (Ops made)
  kind : kind_of kept ≡ kind_of o
  kept_formed : Formed Checked (Ops (kept ∷ []))

-- a region with its checks, all formed, that ends as before
pub record RegionForm (r s : Region) : Type 0 where
  pub params : param_types s ≡ param_types r
  pub ops : Formed Checked (Ops (ops_of s))
  pub ends : (k : OpKind) → ends_with k (ops_of r) → ends_with k (ops_of s)
  pub none : ops_of r ≡ [] → ops_of s ≡ []

abbrev OfOp : Op → Type 0
OfOp o = (free : ℕ) → Formed Checked (Ops (o ∷ [])) → OpForm o free

abbrev OfRegion : Region → Type 0
OfRegion r = (free : ℕ) → Formed Checked (Ops (ops_of r)) → RegionForm r (checked_region r free).0

-- the parts of what is formed
pub record OpParts (o : Op) (os : List Op) : Type 0 where
  pub stands : IsTrue (stands_at (kind_of o) Checked)
  pub form : HasForm (kind_of o) o
  pub at : (out-Op o).at < 2 ^ 32
  pub regions : Formed Checked (Regions o 0 (regions_of o))
  pub rest : Formed Checked (Ops os)

pub op_parts : (o : Op) (os : List Op) → Formed Checked (Ops (o ∷ os)) → OpParts o os
op_parts x xs (formed o os stands form at regions rest) = record { stands = stands; form = form; at = at; regions = regions; rest = rest }

pub record RegionParts (o : Op) (i : ℕ) (r : Region) (rs : List Region) : Type 0 where
  pub ended : IsEnded (kind_of o) i (types_of o) (ops_of r)
  pub ops : Formed Checked (Ops (ops_of r))
  pub rest : Formed Checked (Regions o (i + 1) rs)

pub parts_of_region : (o : Op) (i : ℕ) (r : Region) (rs : List Region) → Formed Checked (Regions o i (r ∷ rs)) → RegionParts o i r rs
parts_of_region x j y ys (formed_region o i r rs ended ops rest) = record { ended = ended; ops = ops; rest = rest }

held : (regions : List ((r : Region) × OfRegion r)) (o p : Op) (i : ℕ) (free : ℕ) → kind_of p ≡ kind_of o → types_of p ≡ types_of o → Formed Checked (Regions o i (map (λ e. e.0) regions)) →
    Formed Checked (Regions p i (in_turn (map checked_region (map (λ e. e.0) regions)) free).0) × (map param_types (in_turn (map checked_region (map (λ e. e.0) regions)) free).0 ≡ map param_types (map (λ e. e.0) regions))
held [] o p i free kind types h = (formed_no_regions p i, refl)
held (e ∷ regions) o p i free kind types h =
    let rs : List Region = map (λ e. e.0) regions in
    let parts : RegionParts o i e.0 rs = parts_of_region o i e.0 rs h in
    let one : RegionForm e.0 (checked_region e.0 free).0 = e.1 free parts.ops in
    let then : ℕ = (checked_region e.0 free).1 in
    let rest : Formed Checked (Regions p (i + 1) (in_turn (map checked_region rs) then).0) × (map param_types (in_turn (map checked_region rs) then).0 ≡ map param_types rs) = held regions o p (i + 1) then kind types parts.rest in
    let ended : IsEnded (kind_of p) i (types_of p) (ops_of (checked_region e.0 free).0) =
    subst (λ k. IsEnded k i (types_of p) (ops_of (checked_region e.0 free).0)) (sym kind)
    (subst (λ (ts : List Ty). IsEnded (kind_of o) i ts (ops_of (checked_region e.0 free).0)) (sym types)
    (ended_like (kind_of o) i (types_of o) (ops_of e.0) (ops_of (checked_region e.0 free).0) one.ends one.none parts.ended)) in (
      formed_region p i (checked_region e.0 free).0 (in_turn (map checked_region rs) then).0 ended one.ops rest.0,
      ap (λ (ts : List Ty). ts ∷ map param_types (in_turn (map checked_region rs) then).0) one.params ∙ ap (λ (tss : List (List Ty)). param_types e.0 ∷ tss) rest.1,
    )

along : (ops : List ((o : Op) × OfOp o)) (free : ℕ) → Formed Checked (Ops (map (λ e. e.0) ops)) →
    Formed Checked (Ops (joined (in_turn (map checked_op (map (λ e. e.0) ops)) free).0)) × ((k : OpKind) → ends_with k (map (λ e. e.0) ops) → ends_with k (joined (in_turn (map checked_op (map (λ e. e.0) ops)) free).0))
along [] free h = (formed_none, λ k e. e)
along (e ∷ ops) free h =
    let os : List Op = map (λ e. e.0) ops in
    let parts : OpParts e.0 os = op_parts e.0 os h in
    let one : OpForm e.0 free = e.1 free (formed e.0 [] parts.stands parts.form parts.at parts.regions formed_none) in
    let then : ℕ = (checked_op e.0 free).1 in
    let others : List Op = joined (in_turn (map checked_op os) then).0 in
    let rest : Formed Checked (Ops others) × ((k : OpKind) → ends_with k os → ends_with k others) = along ops then parts.rest in
    let whole : (checked_op e.0 free).0 ++ others ≡ one.made ++ (one.kept ∷ others) = ap (λ (xs : List Op). xs ++ others) one.are ∙ append_assoc one.made (one.kept ∷ []) others in
    let all : Formed Checked (Ops (one.made ++ (one.kept ∷ others))) = formed_both Checked one.made (one.kept ∷ others) one.made_formed (formed_both Checked (one.kept ∷ []) others one.kept_formed rest.0) in (
      subst (λ (qs : List Op). Formed Checked (Ops qs)) (sym whole) all,
      λ k end. subst (ends_with k) (sym whole) (ends_behind k one.made one.kept others (last k e.0 ops then one.kept one.kind end (rest.1 k))),
    )
  where
    last : (k : OpKind) (o : Op) (ops : List ((o : Op) × OfOp o)) (then : ℕ) (p : Op) → kind_of p ≡ kind_of o → ends_with k (o ∷ map (λ e. e.0) ops) →
        (ends_with k (map (λ e. e.0) ops) → ends_with k (joined (in_turn (map checked_op (map (λ e. e.0) ops)) then).0)) → ends_with k (p ∷ joined (in_turn (map checked_op (map (λ e. e.0) ops)) then).0)
    last k o [] then p kind end again = kind ∙ end
    last k o (x ∷ ops) then p kind end again = ends_more k p (joined (in_turn (map checked_op (map (λ e. e.0) (x ∷ ops))) then).0) (again end)

of_op : (o : Op) (regions : List ((r : Region) × OfRegion r)) → regions_of o ≡ map (λ e. e.0) regions → OfOp o
of_op o regions are = λ free h.
    let parts : OpParts o [] = op_parts o [] h in
    let i : Insertion = before o free in
    let insertion : IsFormed i = guarded_formed (guard_of (kind_of o)) o (begun (out-Op o).at free) (access_of (kind_of o) o parts.form) (parts.at, formed_none) in
    let p : Op = with_regions o (in_turn (map checked_region (regions_of o)) i.free).0 in
    let e : out-Op p ≡ record { kind = kind_of o; at = (out-Op o).at; operands = operands_of o; groups = groups_of o; written = written_of o; results = (out-Op o).results; types = types_of o; attr = attr_of o; regions = (in_turn (map checked_region (regions_of o)) i.free).0 } = out-roll-Op _ in
    let kind : kind_of p ≡ kind_of o = ap (λ (n : Op-F Op Region). n.kind) e in
    let types : types_of p ≡ types_of o = ap (λ (n : Op-F Op Region). n.types) e in
    let inner : Formed Checked (Regions p 0 (in_turn (map checked_region (map (λ e. e.0) regions)) i.free).0) × (map param_types (in_turn (map checked_region (map (λ e. e.0) regions)) i.free).0 ≡ map param_types (map (λ e. e.0) regions)) =
    held regions o p 0 i.free kind types (subst (λ (rs : List Region). Formed Checked (Regions o 0 rs)) are parts.regions) in
    let inside : Formed Checked (Regions p 0 (in_turn (map checked_region (regions_of o)) i.free).0) × (map param_types (in_turn (map checked_region (regions_of o)) i.free).0 ≡ map param_types (regions_of o)) =
    subst (λ (rs : List Region). Formed Checked (Regions p 0 (in_turn (map checked_region rs) i.free).0) × (map param_types (in_turn (map checked_region rs) i.free).0 ≡ map param_types rs)) (sym are) inner in
    let like : LikeText o p = record {
      kind = kind;
      count = ap (λ (n : Op-F Op Region). length n.operands) e;
      attr = ap (λ (n : Op-F Op Region). n.attr) e;
      groups = ap (λ (n : Op-F Op Region). n.groups) e;
      written = ap (λ (n : Op-F Op Region). n.written) e;
      types = types;
      params = ap (λ (n : Op-F Op Region). map param_types n.regions) e ∙ inside.1;
    } in
    record {
      made = i.ops;
      kept = p;
      are = ap (λ (x : List Op × ℕ). x.0) (op_out o free);
      made_formed = insertion.1;
      kind = kind;
      kept_formed = formed p [] (subst (λ k. IsTrue (stands_at k Checked)) (sym kind) parts.stands) (form_like o p like parts.form) (subst (λ n. n < 2 ^ 32) (sym (ap (λ (n : Op-F Op Region). n.at) e)) parts.at)
          (subst (λ (rs : List Region). Formed Checked (Regions p 0 rs)) (sym (ap (λ (n : Op-F Op Region). n.regions) e)) inside.0) formed_none;
    }

of_region : (r : Region) (ops : List ((o : Op) × OfOp o)) → ops_of r ≡ map (λ e. e.0) ops → OfRegion r
of_region r ops are = λ free h.
    let inner : Formed Checked (Ops (joined (in_turn (map checked_op (map (λ e. e.0) ops)) free).0)) × ((k : OpKind) → ends_with k (map (λ e. e.0) ops) → ends_with k (joined (in_turn (map checked_op (map (λ e. e.0) ops)) free).0)) =
    along ops free (subst (λ (os : List Op). Formed Checked (Ops os)) are h) in
    let inside : Formed Checked (Ops (joined (in_turn (map checked_op (ops_of r)) free).0)) × ((k : OpKind) → ends_with k (ops_of r) → ends_with k (joined (in_turn (map checked_op (ops_of r)) free).0)) =
    subst (λ (os : List Op). Formed Checked (Ops (joined (in_turn (map checked_op os) free).0)) × ((k : OpKind) → ends_with k os → ends_with k (joined (in_turn (map checked_op os) free).0))) (sym are) inner in
    let made : Region-F Op Region = record { params = params_of r; ops = joined (in_turn (map checked_op (ops_of r)) free).0 } in
    let e : out-Region (checked_region r free).0 ≡ made = ap (λ (x : Region × ℕ). out-Region x.0) (region_out r free) ∙ out-roll-Region made in
    let ops_are : ops_of (checked_region r free).0 ≡ joined (in_turn (map checked_op (ops_of r)) free).0 = ap (λ (l : Region-F Op Region). l.ops) e in
    record {
      params = ap (λ (l : Region-F Op Region). map (λ p. p.1) l.params) e;
      ops = subst (λ (os : List Op). Formed Checked (Ops os)) (sym ops_are) inside.0;
      ends = λ k end. subst (ends_with k) (sym ops_are) (inside.1 k end);
      none = λ empty. ops_are ∙ ap (λ (os : List Op). joined (in_turn (map checked_op os) free).0) empty;
    }

pub checked_formed : (r : Region) → OfRegion r
checked_formed = ind-Region OfOp OfRegion
    (λ x y is. of_op (roll-Op x) y.regions (ap (λ layer. layer.regions) (out-roll-Op x) ∙ sym (ap (λ layer. layer.regions) is)))
    (λ x y is. of_region (roll-Region x) y.ops (ap (λ layer. layer.ops) (out-roll-Region x) ∙ sym (ap (λ layer. layer.ops) is)))
