-- What made operations do, one after another.
use Rattle.std.proofs.Common.{◌≡◌, ◌⊎◌, ◌<◌, ◌≤◌, ℕ, zero, suc, ◌+◌, ◌^◌, nat_eq, not, Bool, true, false, cond, List, [], ◌∷◌, ◌++◌, Option, Some, None, refl, sym, ap, ap₂, subst, ◌∙◌, arith, inl, inr}
use Rattle.std.specs.Option.{is_some}
use Rattle.std.specs.Prelude.{◌&&◌, ◌==◌, IfSome}
use Rattle.std.proofs.lemmas.List.{append_assoc}
use Rattle.std.proofs.lemmas.Bool.{true≢false}
use Rattle.std.proofs.lemmas.Bool.Decides.{eqb_tells}
use Rattle.int_ops.specs.declared.BinOp.{BinOp}
use Rattle.int_ops.specs.declared.Pred.{Pred}
use Rattle.op_table.specs.declared.kind.OpKind.{OpKind}
use Rattle.op_table.specs.declared.kind.OpKind.TheVariants as op
use Rattle.ir_forms.specs.declared.ops.Attr.{Attr}
use Rattle.ir_forms.specs.declared.ops.Attr.TheVariants as attr
use Rattle.ir_forms.specs.declared.ops.Op.{Op, roll-Op, out-roll-Op}
use Rattle.ir_forms.specs.declared.ops.ValueNo.{ValueNo}
use Rattle.ir_forms.specs.declared.types.NumTy.{NumTy}
use Rattle.ir_forms.specs.declared.types.NumTy.TheVariants as num
use Rattle.ir_forms.specs.declared.types.MemTy.{MemTy}
use Rattle.ir_forms.specs.declared.types.Ty.{Ty}
use Rattle.ir_forms.specs.declared.types.Ty.TheVariants as ty
use Rattle.ir_verify.specs.declared.place.Nest.{Nest}
use Rattle.made_ops.specs.declared.insertion.Insertion.{Insertion}
use Rattle.made_ops.specs.declared.insertion.Known.{Known}
use Rattle.made_ops.specs.declared.insertion.Operand.{Operand}
use Rattle.made_ops.specs.declared.insertion.Operand.TheVariants as from
use Rattle.made_ops.specs.Made as made
use Rattle.source_meaning.specs.declared.values.Val.{Val}
use Rattle.source_meaning.specs.declared.values.Val.TheVariants.{Number}
use Rattle.source_meaning.specs.Values.{Env, named, put, values_at, number_in}
use Rattle.source_meaning.specs.Parts.{Node}
use Rattle.source_meaning.specs.Rows.{at_width, literal_bits, result_at, compared_at}
use Rattle.source_meaning.specs.Tasks.{Program, Scope, After, Task, Goes}
use Rattle.source_meaning.specs.Flow.{caught, caught_at, tried, fails}
use Rattle.source_meaning.specs.Steps.{result_width, next, acts, does, computes, number, binary}
use Rattle.source_meaning.specs.TaskOrder.{Each}
use Rattle.check_laws.specs.Rows.{passes}
use Rattle.check_laws.specs.Fits.{has_result}
use Rattle.check_laws.specs.Silent.{IsSafe, standing, Ahead, here, goes_on, Runs, FailsAt, Fails, Keeps}
use Rattle.check_laws.proofs.Literals.{literal_is, width_is}

-- ---- values under their names

pub named_put_same : (env : Env) (k : ℕ) (v : Val) → named (put env k v) k ≡ v
named_put_same [] zero v = refl
named_put_same [] (suc k) v = named_put_same [] k v
named_put_same (x ∷ env) zero v = refl
named_put_same (x ∷ env) (suc k) v = named_put_same env k v

pub named_put_other : (env : Env) (k j : ℕ) (v : Val) → (k ≡ j → ⊥) → named (put env k v) j ≡ named env j
named_put_other [] zero zero v n = absurd (n refl)
named_put_other [] zero (suc j) v n = refl
named_put_other [] (suc k) zero v n = refl
named_put_other [] (suc k) (suc j) v n = named_put_other [] k j v (λ e. n (ap suc e))
named_put_other (x ∷ env) zero zero v n = absurd (n refl)
named_put_other (x ∷ env) zero (suc j) v n = refl
named_put_other (x ∷ env) (suc k) zero v n = refl
named_put_other (x ∷ env) (suc k) (suc j) v n = named_put_other env k j v (λ e. n (ap suc e))

pub keeps_put : (free : ℕ) (env : Env) (v : Val) → Keeps free env (put env free v)
keeps_put free env v x h = named_put_other env free x v (λ e. let d : x < x = subst (λ y. x < y) e h in omega arith)

pub keeps_then : (n m : ℕ) (env other third : Env) → n ≤ m → Keeps n env other → Keeps m other third → Keeps n env third
keeps_then n m env other third l a b x h = b x (omega arith) ∙ a x h

-- ---- what extends an insertion

pub record Extends (i j : Insertion) : Type 0 where
  pub more : List Op
  pub ops : j.ops ≡ i.ops ++ more
  pub grows : i.free ≤ j.free
  pub at_same : j.at ≡ i.at

pub append_none : (ops : List Op) → ops ≡ ops ++ []
append_none [] = refl
append_none (o ∷ ops) = ap (λ xs. o ∷ xs) (append_none ops)

pub ext_same : (i : Insertion) → Extends i i
ext_same i = record { more = []; ops = append_none i.ops; grows = omega arith; at_same = refl }

pub ext_then : (i j l : Insertion) → Extends i j → Extends j l → Extends i l
ext_then i j l a b = record {
  more = a.more ++ b.more;
  ops = b.ops ∙ (ap (λ xs. xs ++ b.more) a.ops ∙ append_assoc i.ops a.more b.more);
  grows = let x = a.grows in let y = b.grows in omega arith;
  at_same = b.at_same ∙ a.at_same;
}

ext_one : (i : Insertion) (o : Op) (known : List Known) (free : ℕ) → i.free ≤ free → Extends i (record { ops = i.ops ++ o ∷ []; known = known; free = free; at = i.at })
ext_one i o known free l = record { more = o ∷ []; ops = refl; grows = l; at_same = refl }

pub ext_acts : (kind : OpKind) (operands : List ValueNo) (written : List Ty) (a : Attr) (i : Insertion) → Extends i (made.acts kind operands written a i)
ext_acts kind operands written a i = ext_one i (made.made_op kind operands written [] [] a [] i) i.known i.free (omega arith)

pub ext_gives : (kind : OpKind) (operands : List ValueNo) (written : List Ty) (t : Ty) (a : Attr) (i : Insertion) → Extends i (made.gives kind operands written t a i).1
ext_gives kind operands written t a i = ext_one i (made.made_op kind operands written (made.next_value i ∷ []) (t ∷ []) a [] i) i.known (i.free + 1) (omega arith)

ext_found : (t : NumTy) (n : ℕ) (v : Option ValueNo) (i : Insertion) → Extends i (made.found_or_new t n v i).1
ext_found t n (Some v) i = ext_same i
ext_found t n None i = ext_one i (made.made_op op.ArithConstant [] [] (made.next_value i ∷ []) (made.type_of t ∷ []) (made.literal t n) [] i) (i.known ++ record { ty = t; bits = n; value = made.next_value i } ∷ []) (i.free + 1) (omega arith)

pub ext_constant : (t : NumTy) (n : ℕ) (i : Insertion) → Extends i (made.constant t n i).1
ext_constant t n i = ext_found t n (made.found t n i.known) i

pub ext_operand : (t : NumTy) (a : Operand) (i : Insertion) → Extends i (made.operand t a i).1
ext_operand t (from.Value v) i = ext_same i
ext_operand t (from.Number n) i = ext_constant t n i

pub ext_binary : (kind : OpKind) (t : NumTy) (a b : Operand) (i : Insertion) → Extends i (made.binary kind t a b i).1
ext_binary kind t a b i =
    let j : Insertion = (made.operand t a i).1 in
    let l : Insertion = (made.operand t b j).1 in
    ext_then i j _ (ext_operand t a i) (ext_then j l _ (ext_operand t b j) (ext_gives kind ((made.operand t a i).0 ∷ (made.operand t b j).0 ∷ []) (made.type_of t ∷ made.type_of t ∷ []) (made.type_of t) attr.None l))

pub ext_compare : (p : Pred) (t : NumTy) (a b : Operand) (i : Insertion) → Extends i (made.compare p t a b i).1
ext_compare p t a b i =
    let j : Insertion = (made.operand t a i).1 in
    let l : Insertion = (made.operand t b j).1 in
    ext_then i j _ (ext_operand t a i) (ext_then j l _ (ext_operand t b j) (ext_gives op.ArithCmpi ((made.operand t a i).0 ∷ (made.operand t b j).0 ∷ []) (made.type_of t ∷ made.type_of t ∷ []) (made.type_of made.truth) (attr.Pred p) l))

pub ext_dimension : (m : MemTy) (buffer : ValueNo) (k : ℕ) (i : Insertion) → Extends i (made.dimension m buffer k i).1
ext_dimension m buffer k i =
    let j : Insertion = (made.constant num.Index k i).1 in
    ext_then i j _ (ext_constant num.Index k i) (ext_gives op.MemrefDim (buffer ∷ (made.constant num.Index k i).0 ∷ []) (ty.Memref m ∷ []) ty.Index attr.None j)

-- ---- silent steps

module _ (q : Program) where
  pub then_ahead : {v w t : Task} → Ahead q w t → Ahead q v w → Ahead q v t
  then_ahead here b = b
  then_ahead (goes_on s e a) b = goes_on s e (then_ahead a b)

  pub runs_more : (ops : List Op) (o : Op) (env other third : Env) → Runs q ops env other →
      ((k : ℕ) (n : Nest) (fs : List (After × List Op)) (r : List Op) → Ahead q (standing k n fs r third) (standing k n fs (o ∷ r) other)) → Runs q (ops ++ o ∷ []) env third
  runs_more ops o env other third h e k n fs r =
      subst (λ xs. Ahead q (standing k n fs r third) (standing k n fs xs env)) (sym (append_assoc ops (o ∷ []) r)) (then_ahead (h k n fs (o ∷ r)) (e k n fs r))

  fails_more : (at_ : ℕ) (ops more : List Op) (env : Env) → Fails q at_ ops env → Fails q at_ (ops ++ more) env
  fails_more at_ ops more env h k n fs r = subst (λ xs. FailsAt q at_ k n fs (standing k n fs xs env)) (sym (append_assoc ops more r)) (h k n fs (more ++ r))

  -- a failure is caught by what stands round, whatever is left
  pub caught_like : (at_ k k' : ℕ) (n n' : Nest) (fs gs hs : List (After × List Op)) (r r' : List Op) (env other : Env) → caught at_ fs (standing k n gs r env) ≡ caught at_ fs (standing k' n' hs r' other)
  caught_like at_ k k' n n' [] gs hs r r' env other = refl
  caught_like at_ k k' n n' (f ∷ fs) gs hs r r' env other = go (caught_like at_ k k' n n' fs gs hs r r' env other) (tried f.0) where
    go : caught at_ fs (standing k n gs r env) ≡ caught at_ fs (standing k' n' hs r' other) → (c : Option (Scope × List ValueNo)) → caught_at c (record (standing k n gs r env) { rest = f.1; frames = fs }) (caught at_ fs (standing k n gs r env)) ≡ caught_at c (record (standing k' n' hs r' other) { rest = f.1; frames = fs }) (caught at_ fs (standing k' n' hs r' other))
    go same None = same
    go same (Some c) = refl

  -- an operation that was made has a result where its layer has one
  pub made_safe : (k : ℕ) (n : Nest) (fs : List (After × List Op)) (r : List Op) (env : Env) (o : Node) → has_result o.kind o (values_at env o.operands) ≡ true → IsSafe (standing k n fs (roll-Op o ∷ r) env)
  made_safe k n fs r env o h = subst (λ (m : Node). has_result m.kind m (values_at env m.operands) ≡ true) (sym (out-roll-Op o)) h

  fails_here : (at_ : ℕ) (ops : List Op) (o : Op) (env other : Env) → Runs q ops env other → ((k : ℕ) (n : Nest) (fs : List (After × List Op)) (r : List Op) → IsSafe (standing k n fs (o ∷ r) other)) →
      ((k : ℕ) (n : Nest) (fs : List (After × List Op)) (r : List Op) → next q (standing k n fs (o ∷ r) other) ≡ fails at_ (standing k n fs r other)) → Fails q at_ (ops ++ o ∷ []) env
  fails_here at_ ops o env other h safe e k n fs r = record {
    left = o ∷ r;
    env = other;
    ahead = subst (λ xs. Ahead q (standing k n fs (o ∷ r) other) (standing k n fs xs env)) (sym (append_assoc ops (o ∷ []) r)) (h k n fs (o ∷ r));
    safe = safe k n fs r;
    fails = e k n fs r ∙ caught_like at_ k k n n fs fs fs r (o ∷ r) other other;
  }

  -- what an operation that was made does
  pub made_step : (k : ℕ) (n : Nest) (fs : List (After × List Op)) (r : List Op) (env : Env) (o : Node) → next q (standing k n fs (roll-Op o ∷ r) env) ≡ does o.kind q o (values_at env o.operands) (standing k n fs r env)
  made_step k n fs r env o = ap (λ m. acts q m (standing k n fs r env)) (out-roll-Op o)

  -- ---- an insertion under way

  -- a constant that is known has its value
  abbrev pub Knows : Env → ℕ → Known → Type 0
  Knows env free k = (k.value.0 < free) × (named env k.value.0 ≡ Number k.bits)

  -- from the values at the start, the operations so far lead to these
  pub record Stands (start : Env) (i : Insertion) (env : Env) : Type 0 where
    pub runs : Runs q i.ops start env
    pub known : Each (Knows env i.free) i.known

  -- and one more has been made, which has this number
  pub record Yields (start : Env) (i : Insertion) (env : Env) (r : ValueNo × Insertion) (n : ℕ) : Type 0 where
    pub other : Env
    pub stands : Stands start r.1 other
    pub keeps : Keeps i.free env other
    pub grows : i.free ≤ r.1.free
    pub below : r.0.0 < r.1.free
    pub value : number_in (named other r.0.0) ≡ n

  -- all assertions were passed
  pub record Passed (start : Env) (i : Insertion) (env : Env) (j : Insertion) : Type 0 where
    pub other : Env
    pub stands : Stands start j other
    pub keeps : Keeps i.free env other
    pub grows : i.free ≤ j.free

  -- they were, or one failed
  abbrev pub Checked : Env → Insertion → Env → Insertion → Bool → Type 0
  Checked start i env j true = Passed start i env j
  Checked start i env j false = Fails q i.at j.ops start

  -- what an operand reads
  abbrev pub numeral : Env → Operand → ℕ
  numeral env (from.Value v) = number_in (named env v.0)
  numeral env (from.Number n) = n

  -- it can be read at this width
  abbrev pub IsGiven : ℕ → ℕ → Operand → Type 0
  IsGiven w free (from.Value v) = v.0 < free
  IsGiven w free (from.Number n) = n < 2 ^ w

  pub given_more : (w free more : ℕ) (a : Operand) → free ≤ more → IsGiven w free a → IsGiven w more a
  given_more w free more (from.Value v) l h = omega arith
  given_more w free more (from.Number n) l h = h

  pub numeral_kept : (w free : ℕ) (env other : Env) (a : Operand) → Keeps free env other → IsGiven w free a → numeral other a ≡ numeral env a
  numeral_kept w free env other (from.Value v) k h = ap number_in (k v.0 h)
  numeral_kept w free env other (from.Number n) k h = refl

  knows_put : (env : Env) (free : ℕ) (v : Val) (known : List Known) → Each (Knows env free) known → Each (Knows (put env free v) (free + 1)) known
  knows_put env free v [] h = tt
  knows_put env free v (k ∷ known) h = ((let l : k.value.0 < free = h.0.0 in omega arith, keeps_put free env v k.value.0 h.0.0 ∙ h.0.1), knows_put env free v known h.1)

  pub knows_more : (env other : Env) (free more : ℕ) (known : List Known) → free ≤ more → Keeps free env other → Each (Knows env free) known → Each (Knows other more) known
  knows_more env other free more [] l k h = tt
  knows_more env other free more (x ∷ known) l k h = ((let m : x.value.0 < free = h.0.0 in omega arith, k x.value.0 h.0.0 ∙ h.0.1), knows_more env other free more known l k h.1)

  each_then : {X : Type 0} (Q : X → Type 0) (xs : List X) (x : X) → Each Q xs → Q x → Each Q (xs ++ x ∷ [])
  each_then Q [] x h g = (g, tt)
  each_then Q (y ∷ xs) x h g = (h.0, each_then Q xs x h.1 g)

  -- an operation that gives a number
  pub gives_number : (start env : Env) (i : Insertion) (kind : OpKind) (operands : List ValueNo) (written : List Ty) (t : Ty) (a : Attr) (n : ℕ) → Stands start i env →
      has_result kind (record { kind = kind; at = i.at; operands = operands; groups = []; written = written; results = made.next_value i ∷ []; types = t ∷ []; attr = a; regions = [] }) (values_at env operands) ≡ true →
      ((k : ℕ) (m : Nest) (fs : List (After × List Op)) (r : List Op) →
      does kind q (record { kind = kind; at = i.at; operands = operands; groups = []; written = written; results = made.next_value i ∷ []; types = t ∷ []; attr = a; regions = [] }) (values_at env operands) (standing k m fs r env) ≡ Goes (standing k m fs r (put env i.free (Number n)))) →
      Yields start i env (made.gives kind operands written t a i) n
  gives_number start env i kind operands written t a n s safe e = record {
    other = put env i.free (Number n);
    stands = record {
      runs = runs_more i.ops _ start env (put env i.free (Number n)) s.runs (λ k m fs r. goes_on (made_safe k m fs r env _ safe) (made_step k m fs r env _ ∙ e k m fs r) here);
      known = knows_put env i.free (Number n) i.known s.known;
    };
    keeps = keeps_put i.free env (Number n);
    grows = omega arith;
    below = omega arith;
    value = ap number_in (named_put_same env i.free (Number n));
  }

  -- ---- constants

  found_knows : (env : Env) (free : ℕ) (t : NumTy) (n : ℕ) (known : List Known) → Each (Knows env free) known → IfSome (made.found t n known) (λ v. (v.0 < free) × (named env v.0 ≡ Number n))
  found_knows env free t n [] h = tt
  found_knows env free t n (k ∷ known) h = go (found_knows env free t n known h.1) (made.same_number k.ty t) (k.bits == n) (tells (eqb_tells k.bits n)) where
    tells : ((k.bits == n) ≡ true) × (k.bits ≡ n) ⊎ ((k.bits == n) ≡ false) × (k.bits ≡ n → ⊥) → (k.bits == n) ≡ true → k.bits ≡ n
    tells (inl a) e = a.1
    tells (inr a) e = absurd (true≢false (sym e ∙ a.0))

    go : IfSome (made.found t n known) (λ v. (v.0 < free) × (named env v.0 ≡ Number n)) → (b c : Bool) → (c ≡ true → k.bits ≡ n) → IfSome (cond (b && c) (Some k.value) (made.found t n known)) (λ v. (v.0 < free) × (named env v.0 ≡ Number n))
    go later true true g = (h.0.0, h.0.1 ∙ ap Number (g refl))
    go later true false g = later
    go later false c g = later

  constant_from : (start env : Env) (i : Insertion) (t : NumTy) (n : ℕ) → Stands start i env → n < 2 ^ made.width_of t →
      (v : Option ValueNo) → IfSome v (λ v. (v.0 < i.free) × (named env v.0 ≡ Number n)) → Yields start i env (made.found_or_new t n v i) n
  unfolding gives_number
  constant_from start env i t n s l (Some v) h = record { other = env; stands = s; keeps = λ x b. refl; grows = omega arith; below = h.0; value = ap number_in h.1 }
  constant_from start env i t n s l None h =
      let y = gives_number start env i op.ArithConstant [] [] (made.type_of t) (made.literal t n) n s refl
      (λ k m fs r. ap (λ c. Goes (standing k m fs r (put env i.free (Number c)))) (ap (λ w. at_width w (literal_bits (made.literal t n))) (width_is t) ∙ literal_is t n l)) in
      record {
        other = put env i.free (Number n);
        stands = record {
          runs = y.stands.runs;
          known = each_then (Knows (put env i.free (Number n)) (i.free + 1)) i.known _ (knows_put env i.free (Number n) i.known s.known) (omega arith, named_put_same env i.free (Number n));
        };
        keeps = keeps_put i.free env (Number n);
        grows = omega arith;
        below = omega arith;
        value = ap number_in (named_put_same env i.free (Number n));
      }

  pub constant_made : (start env : Env) (i : Insertion) (t : NumTy) (n : ℕ) → Stands start i env → n < 2 ^ made.width_of t → Yields start i env (made.constant t n i) n
  constant_made start env i t n s l = constant_from start env i t n s l (made.found t n i.known) (found_knows env i.free t n i.known s.known)

  pub operand_made : (start env : Env) (i : Insertion) (t : NumTy) (a : Operand) → Stands start i env → IsGiven (made.width_of t) i.free a → Yields start i env (made.operand t a i) (numeral env a)
  operand_made start env i t (from.Value v) s g = record { other = env; stands = s; keeps = λ x b. refl; grows = omega arith; below = g; value = refl }
  operand_made start env i t (from.Number n) s g = constant_made start env i t n s g

  -- ---- operations on two numbers

  -- both are made, and the operation reads them
  two_made : (start env : Env) (i : Insertion) (t : NumTy) (a b : Operand) (kind : OpKind) (rt : Ty) (at_ : Attr) (n : ℕ) → Stands start i env →
      IsGiven (made.width_of t) i.free a → IsGiven (made.width_of t) i.free b →
      ((x y : ValueNo) (l : Insertion) (third : Env) → number_in (named third x.0) ≡ numeral env a → number_in (named third y.0) ≡ numeral env b →
      has_result kind (record { kind = kind; at = l.at; operands = x ∷ y ∷ []; groups = []; written = made.type_of t ∷ made.type_of t ∷ []; results = made.next_value l ∷ []; types = rt ∷ []; attr = at_; regions = [] }) (values_at third (x ∷ y ∷ [])) ≡ true) →
      ((x y : ValueNo) (l : Insertion) (third : Env) → number_in (named third x.0) ≡ numeral env a → number_in (named third y.0) ≡ numeral env b →
      (k : ℕ) (m : Nest) (fs : List (After × List Op)) (r : List Op) →
      does kind q (record { kind = kind; at = l.at; operands = x ∷ y ∷ []; groups = []; written = made.type_of t ∷ made.type_of t ∷ []; results = made.next_value l ∷ []; types = rt ∷ []; attr = at_; regions = [] }) (values_at third (x ∷ y ∷ [])) (standing k m fs r third) ≡ Goes (standing k m fs r (put third l.free (Number n)))) →
      Yields start i env (made.and_then (made.operand t a) (λ x. made.and_then (made.operand t b) (λ y. made.gives kind (x ∷ y ∷ []) (made.type_of t ∷ made.type_of t ∷ []) rt at_)) i) n
  two_made start env i t a b kind rt at_ n s ga gb safe e =
      let first = operand_made start env i t a s ga in
      let j : Insertion = (made.operand t a i).1 in
      let second = operand_made start first.other j t b first.stands (given_more (made.width_of t) i.free j.free b first.grows gb) in
      let l : Insertion = (made.operand t b j).1 in
      let third = gives_number start second.other l kind ((made.operand t a i).0 ∷ (made.operand t b j).0 ∷ []) (made.type_of t ∷ made.type_of t ∷ []) rt at_ n second.stands
      (safe (made.operand t a i).0 (made.operand t b j).0 l second.other
      (ap number_in (second.keeps (made.operand t a i).0.0 first.below) ∙ first.value)
      (second.value ∙ numeral_kept (made.width_of t) i.free env first.other b first.keeps gb))
      (e (made.operand t a i).0 (made.operand t b j).0 l second.other
      (ap number_in (second.keeps (made.operand t a i).0.0 first.below) ∙ first.value)
      (second.value ∙ numeral_kept (made.width_of t) i.free env first.other b first.keeps gb)) in
      record {
        other = third.other;
        stands = third.stands;
        keeps = keeps_then i.free j.free env first.other third.other first.grows first.keeps (keeps_then j.free l.free first.other second.other third.other second.grows second.keeps third.keeps);
        grows = let x = first.grows in let y = second.grows in let z = third.grows in omega arith;
        below = third.below;
        value = third.value;
      }

  pub compare_made : (start env : Env) (i : Insertion) (p : Pred) (t : NumTy) (a b : Operand) → Stands start i env → IsGiven (made.width_of t) i.free a → IsGiven (made.width_of t) i.free b →
      Yields start i env (made.compare p t a b i) (compared_at (made.width_of t) (attr.Pred p) (numeral env a) (numeral env b))
  compare_made start env i p t a b s ga gb =
      two_made start env i t a b op.ArithCmpi (made.type_of made.truth) (attr.Pred p) (compared_at (made.width_of t) (attr.Pred p) (numeral env a) (numeral env b)) s ga gb (λ x y l third ex ey. refl)
      (λ x y l third ex ey k m fs r. ap (λ c. Goes (standing k m fs r (put third l.free (Number c))))
      (ap (λ w. compared_at w (attr.Pred p) (number_in (named third x.0)) (number_in (named third y.0))) (width_is t) ∙ ap₂ (compared_at (made.width_of t) (attr.Pred p)) ex ey))

  -- kinds of operations on two numbers
  abbrev pub IsBinary : OpKind → BinOp → Type 0
  IsBinary kind b = (o : Node) (vs : List Val) (t : Task) → does kind q o vs t ≡ binary b o vs t

  -- it has a result where the numbers give one
  abbrev pub IsSure : OpKind → BinOp → Type 0
  IsSure kind b = (o : Node) (vs : List Val) → is_some (result_at (result_width o) b (number vs 0) (number vs 1)) ≡ true → has_result kind o vs ≡ true

  pub binary_made : (start env : Env) (i : Insertion) (kind : OpKind) (op_ : BinOp) (t : NumTy) (a b : Operand) (n : ℕ) → IsBinary kind op_ → IsSure kind op_ → Stands start i env →
      IsGiven (made.width_of t) i.free a → IsGiven (made.width_of t) i.free b → result_at (made.width_of t) op_ (numeral env a) (numeral env b) ≡ Some n →
      Yields start i env (made.binary kind t a b i) n
  binary_made start env i kind op_ t a b n is sure s ga gb e =
      two_made start env i t a b kind (made.type_of t) attr.None n s ga gb
      (λ x y l third ex ey. sure _ (values_at third (x ∷ y ∷ []))
      (ap is_some (ap (λ w. result_at w op_ (number_in (named third x.0)) (number_in (named third y.0))) (width_is t) ∙ (ap₂ (result_at (made.width_of t) op_) ex ey ∙ e))))
      (λ x y l third ex ey k m fs r.
      let o : Node = record { kind = kind; at = l.at; operands = x ∷ y ∷ []; groups = []; written = made.type_of t ∷ made.type_of t ∷ []; results = made.next_value l ∷ []; types = made.type_of t ∷ []; attr = attr.None; regions = [] } in
      is o (values_at third (x ∷ y ∷ [])) (standing k m fs r third) ∙ ap (computes o (standing k m fs r third))
      (ap (λ w. result_at w op_ (number_in (named third x.0)) (number_in (named third y.0))) (width_is t) ∙ (ap₂ (result_at (made.width_of t) op_) ex ey ∙ e)))

  -- ---- assertions

  assert_at : (start env : Env) (i : Insertion) (text : List ℕ) (v : ValueNo) (n : ℕ) → Stands start i env → number_in (named env v.0) ≡ n → (b : Bool) → passes n ≡ b → Checked start i env (made.asserts text v i) b
  assert_at start env i text v n s e true h = record {
    other = env;
    stands = record {
      runs = runs_more i.ops _ start env env s.runs (λ k m fs r. goes_on (made_safe k m fs r env _ refl) (made_step k m fs r env _ ∙ ap (λ c. cond c (fails i.at (standing k m fs r env)) (Goes (standing k m fs r env))) (passed (nat_eq (number_in (named env v.0)) 0) (ap passes e ∙ h))) here);
      known = s.known;
    };
    keeps = λ x l. refl;
    grows = omega arith;
  } where
    passed : (c : Bool) → not c ≡ true → c ≡ false
    passed true f = absurd (true≢false (sym f))
    passed false f = refl
  assert_at start env i text v n s e false h =
      fails_here i.at i.ops _ start env s.runs (λ k m fs r. made_safe k m fs r env _ refl) (λ k m fs r. made_step k m fs r env _ ∙ ap (λ c. cond c (fails i.at (standing k m fs r env)) (Goes (standing k m fs r env))) (failed (nat_eq (number_in (named env v.0)) 0) (ap passes e ∙ h))) where
        failed : (c : Bool) → not c ≡ false → c ≡ true
        failed true f = refl
        failed false f = absurd (true≢false f)

  pub assert_made : (start env : Env) (i : Insertion) (text : List ℕ) (v : ValueNo) (n : ℕ) → Stands start i env → number_in (named env v.0) ≡ n → Checked start i env (made.asserts text v i) (passes n)
  assert_made start env i text v n s e = assert_at start env i text v n s e (passes n) refl

  -- ---- one after another

  pub fails_on : (start : Env) (i j l : Insertion) → Extends i j → Extends j l → Fails q i.at j.ops start → Fails q i.at l.ops start
  fails_on start i j l a x f = subst (λ ops. Fails q i.at ops start) (sym x.ops) (fails_more i.at j.ops x.more start f)

  pub check_then : (start env : Env) (i j l : Insertion) (b c : Bool) → Extends i j → Extends j l → Checked start i env j b →
      ((p : Passed start i env j) → b ≡ true → Checked start j p.other l c) → Checked start i env l (b && c)
  check_then start env i j l false c a x h g = fails_on start i j l a x h
  check_then start env i j l true true a x h g =
      let p : Passed start j h.other l = g h refl in
      record { other = p.other; stands = p.stands; keeps = keeps_then i.free j.free env h.other p.other h.grows h.keeps p.keeps; grows = let y = h.grows in let z = p.grows in omega arith }
  check_then start env i j l true false a x h g = subst (λ n. Fails q n l.ops start) a.at_same (g h refl)

  -- an assertion behind a value
  pub yield_then : (start env : Env) (i : Insertion) (r : ValueNo × Insertion) (n : ℕ) (l : Insertion) (c : Bool) → Extends i r.1 → (y : Yields start i env r n) → Checked start r.1 y.other l c → Checked start i env l c
  yield_then start env i r n l true x y p =
      record { other = p.other; stands = p.stands; keeps = keeps_then i.free r.1.free env y.other p.other y.grows y.keeps p.keeps; grows = let a = y.grows in let b = p.grows in omega arith }
  yield_then start env i r n l false x y f = subst (λ m. Fails q m l.ops start) x.at_same f
