-- Sums change where a list, a number or a register does.
use Rattle.std.proofs.Common.{◌≡◌, ◌⊎◌, inl, inr, ℕ, zero, suc, ◌+◌, ◌==◌, if◌then◌else◌, Bool, true, false, List, [], ◌∷◌, ◌++◌, Option, Some, None, refl, sym, ap, ◌∙◌, arith}
use Rattle.std.specs.Prelude.{slice_get, slice_set}
use Rattle.std.proofs.lemmas.Bool.Decides.{eqb_tells}
use Rattle.low_forms.specs.Edges.{count_to}
use Rattle.low_forms.specs.declared.code.Reg.{Reg}
use Rattle.async_objects.specs.declared.kinds.Val.{Val}
use Rattle.async_objects.specs.declared.kinds.Val.TheVariants.{Number, Buffer, Object}
use Rattle.task_stack.specs.Registers.{held, put, bind}
use Rattle.count_sums.specs.Sums.{total, point, share, owned}
use Rattle.count_sums.specs.Laws.{WritesKeep, PointsMove, CountsMove}

pub decide : (a b : ℕ) → (a ≡ b) ⊎ (a ≡ b → ⊥)
decide zero zero = inl refl
decide zero (suc b) = inr (λ e. cc)
decide (suc a) zero = inr (λ e. cc)
decide (suc a) (suc b) = elim (decide a b) [ inl e ↦ inl (ap suc e) | inr n ↦ inr (λ e. n (suc_one a b e)) ]
  where
    suc_one : (a b : ℕ) → suc a ≡ suc b → a ≡ b
    suc_one a b e = cc

-- ---- lists

pub total_set : {X : Type 0} (f : X → ℕ) (xs : List X) (k : ℕ) (x y : X) → slice_get xs k ≡ Some x → total f (slice_set xs k y) + f x ≡ total f xs + f y
total_set f [] k x y e = cc
total_set f (z ∷ xs) zero x y e = let same : f z ≡ f x = ap (or_first f z) e in omega (arith, same)
  where
    or_first : {X : Type 0} (f : X → ℕ) (z : X) → Option X → ℕ
    or_first f z None = f z
    or_first f z (Some x) = f x
total_set f (z ∷ xs) (suc k) x y e = let h : total f (slice_set xs k y) + f x ≡ total f xs + f y = total_set f xs k x y e in omega (arith, h)

pub total_push : {X : Type 0} (f : X → ℕ) (xs : List X) (y : X) → total f (xs ++ y ∷ []) ≡ total f xs + f y
total_push f [] y = omega arith
total_push f (x ∷ xs) y = let h : total f (xs ++ y ∷ []) ≡ total f xs + f y = total_push f xs y in omega (arith, h)

-- ---- a number at one point

pub point_none : (p q : ℕ) → point p 0 q ≡ 0
point_none zero zero = refl
point_none zero (suc q) = refl
point_none (suc p) zero = refl
point_none (suc p) (suc q) = point_none p q

pub point_sum : (p a b q : ℕ) → point p (a + b) q ≡ point p a q + point p b q
point_sum zero a b zero = refl
point_sum zero a b (suc q) = omega arith
point_sum (suc p) a b zero = omega arith
point_sum (suc p) a b (suc q) = point_sum p a b q

pub point_here : (p n : ℕ) → point p n p ≡ n
point_here zero n = refl
point_here (suc p) n = point_here p n

pub point_other : (p n q : ℕ) → (p ≡ q → ⊥) → point p n q ≡ 0
point_other zero n zero d = absurd (d refl)
point_other zero n (suc q) d = refl
point_other (suc p) n zero d = refl
point_other (suc p) n (suc q) d = point_other p n q (λ e. d (ap suc e))

-- as a test says it
pub point_if : (q p n : ℕ) → (if q == p then n else 0) ≡ point p n q
point_if q p n = elim (eqb_tells q p) [
  | inl same ↦ ap (λ b. if b then n else 0) same.0 ∙ sym (ap (λ x. point p n x) same.1 ∙ point_here p n)
  | inr other ↦ ap (λ b. if b then n else 0) other.0 ∙ sym (point_other p n q (λ e. other.1 (sym e)))
]

pub count_point : (q r : ℕ) (rs : List ℕ) → count_to q (r ∷ rs) ≡ point r 1 q + count_to q rs
count_point q r rs =
    let a : (if q == r then count_to q rs + 1 else count_to q rs) ≡ (if q == r then 1 else 0) + count_to q rs = either (q == r) (count_to q rs) in
    let b : (if q == r then 1 else 0) ≡ point r 1 q = point_if q r 1 in
    a ∙ ap (λ x. x + count_to q rs) b
  where
    either : (b : Bool) (n : ℕ) → (if b then n + 1 else n) ≡ (if b then 1 else 0) + n
    either true n = omega arith
    either false n = omega arith

-- ---- values

pub share_none : (o : ℕ) (v : Val) → share o v 0 ≡ 0
share_none o (Number n) = refl
share_none o (Buffer b rank dims) = refl
share_none o (Object p) = point_none p.0 o

pub share_sum : (o : ℕ) (v : Val) (a b : ℕ) → share o v (a + b) ≡ share o v a + share o v b
share_sum o (Number n) a b = omega arith
share_sum o (Buffer n rank dims) a b = omega arith
share_sum o (Object p) a b = point_sum p.0 a b o

-- ---- registers

pub owned_same : (v w : ℕ → ℕ) (o : ℕ) (regs : List Val) → ((r : ℕ) → v r ≡ w r) → owned v o regs ≡ owned w o regs
owned_same v w o [] same = refl
owned_same v w o (x ∷ regs) same =
    let a : share o x (v 0) ≡ share o x (w 0) = ap (share o x) (same 0) in
    let b : owned (λ r. v (suc r)) o regs ≡ owned (λ r. w (suc r)) o regs = owned_same (λ r. v (suc r)) (λ r. w (suc r)) o regs (λ r. same (suc r)) in
    omega (arith, a, b)

pub owned_none : (w : ℕ → ℕ) (o : ℕ) (regs : List Val) → ((r : ℕ) → w r ≡ 0) → owned w o regs ≡ 0
owned_none w o [] none = refl
owned_none w o (x ∷ regs) none =
    let a : share o x (w 0) ≡ 0 = ap (share o x) (none 0) ∙ share_none o x in
    let b : owned (λ r. w (suc r)) o regs ≡ 0 = owned_none (λ r. w (suc r)) o regs (λ r. none (suc r)) in
    omega (arith, a, b)

pub owned_sum : (v w : ℕ → ℕ) (o : ℕ) (regs : List Val) → owned (λ r. v r + w r) o regs ≡ owned v o regs + owned w o regs
owned_sum v w o [] = omega arith
owned_sum v w o (x ∷ regs) =
    let a : share o x (v 0 + w 0) ≡ share o x (v 0) + share o x (w 0) = share_sum o x (v 0) (w 0) in
    let b : owned (λ r. v (suc r) + w (suc r)) o regs ≡ owned (λ r. v (suc r)) o regs + owned (λ r. w (suc r)) o regs = owned_sum (λ r. v (suc r)) (λ r. w (suc r)) o regs in
    omega (arith, a, b)

pub owned_put : (w : ℕ → ℕ) (o : ℕ) (regs : List Val) (r : ℕ) (v : Val) → owned w o (put regs r v) + share o (held regs r) (w r) ≡ owned w o regs + share o v (w r)
owned_put w o [] zero v = omega arith
owned_put w o [] (suc r) v =
    let b : owned (λ q. w (suc q)) o (put [] r v) + share o (held [] r) (w (suc r)) ≡ 0 + share o v (w (suc r)) = owned_put (λ q. w (suc q)) o [] r v in
    let c : share o (held [] r) (w (suc r)) ≡ 0 = empty r (w (suc r)) in
    omega (arith, b, c)
  where
    empty : (r n : ℕ) → share o (held [] r) n ≡ 0
    empty zero n = refl
    empty (suc r) n = refl
owned_put w o (x ∷ regs) zero v = omega arith
owned_put w o (x ∷ regs) (suc r) v =
    let b : owned (λ q. w (suc q)) o (put regs r v) + share o (held regs r) (w (suc r)) ≡ owned (λ q. w (suc q)) o regs + share o v (w (suc r)) = owned_put (λ q. w (suc q)) o regs r v in
    omega (arith, b)

pub owned_write : (w : ℕ → ℕ) (o : ℕ) (regs : List Val) (r : ℕ) (v : Val) → w r ≡ 0 → owned w o (put regs r v) ≡ owned w o regs
owned_write w o regs r v free =
    let b : owned w o (put regs r v) + share o (held regs r) (w r) ≡ owned w o regs + share o v (w r) = owned_put w o regs r v in
    let c : share o (held regs r) (w r) ≡ 0 = ap (share o (held regs r)) free ∙ share_none o (held regs r) in
    let d : share o v (w r) ≡ 0 = ap (share o v) free ∙ share_none o v in
    omega (arith, b, c, d)

pub put_held : (regs : List Val) (r : ℕ) (v : Val) → held (put regs r v) r ≡ v
put_held [] zero v = refl
put_held [] (suc r) v = put_held [] r v
put_held (x ∷ regs) zero v = refl
put_held (x ∷ regs) (suc r) v = put_held regs r v

pub owned_point : (w : ℕ → ℕ) (o : ℕ) (regs : List Val) (r n : ℕ) → owned (λ q. w q + point r n q) o regs ≡ owned w o regs + share o (held regs r) n
owned_point w o [] zero n = omega arith
owned_point w o [] (suc r) n = omega arith
owned_point w o (x ∷ regs) zero n =
    let a : share o x (w 0 + n) ≡ share o x (w 0) + share o x n = share_sum o x (w 0) n in
    let b : owned (λ q. w (suc q) + 0) o regs ≡ owned (λ q. w (suc q)) o regs = owned_same (λ q. w (suc q) + 0) (λ q. w (suc q)) o regs (λ q. omega arith) in
    omega (arith, a, b)
owned_point w o (x ∷ regs) (suc r) n =
    let a : share o x (w 0 + 0) ≡ share o x (w 0) = ap (share o x) (omega arith) in
    let b : owned (λ q. w (suc q) + point r n q) o regs ≡ owned (λ q. w (suc q)) o regs + share o (held regs r) n = owned_point (λ q. w (suc q)) o regs r n in
    omega (arith, a, b)

pub owned_counts : (w : ℕ → ℕ) (o : ℕ) (regs : List Val) (rs : List ℕ) → owned (λ q. w q + count_to q rs) o regs ≡ owned w o regs + total (λ r. share o (held regs r) 1) rs
owned_counts w o regs [] =
    let a : owned (λ q. w q + 0) o regs ≡ owned w o regs = owned_same (λ q. w q + 0) w o regs (λ q. omega arith) in
    omega (arith, a)
owned_counts w o regs (r ∷ rs) =
    let a : owned (λ q. w q + count_to q (r ∷ rs)) o regs ≡ owned (λ q. (w q + count_to q rs) + point r 1 q) o regs = owned_same (λ q. w q + count_to q (r ∷ rs)) (λ q. (w q + count_to q rs) + point r 1 q) o regs (λ q. let e : count_to q (r ∷ rs) ≡ point r 1 q + count_to q rs = count_point q r rs in omega (arith, e)) in
    let b : owned (λ q. (w q + count_to q rs) + point r 1 q) o regs ≡ owned (λ q. w q + count_to q rs) o regs + share o (held regs r) 1 = owned_point (λ q. w q + count_to q rs) o regs r 1 in
    let c : owned (λ q. w q + count_to q rs) o regs ≡ owned w o regs + total (λ r. share o (held regs r) 1) rs = owned_counts w o regs rs in
    omega (arith, a, b, c)

-- ---- several registers

-- none of them has a number
abbrev pub AreFree : (ℕ → ℕ) → List Reg → Type 0
AreFree w [] = Unit {0}
AreFree w (r ∷ rs) = (w r.0 ≡ 0) × AreFree w rs

pub owned_bind : (w : ℕ → ℕ) (o : ℕ) (rs : List Reg) (vs regs : List Val) → AreFree w rs → owned w o (bind rs vs regs) ≡ owned w o regs
owned_bind w o [] vs regs free = refl
owned_bind w o (r ∷ rs) [] regs free = refl
owned_bind w o (r ∷ rs) (v ∷ vs) regs free = owned_bind w o rs vs (put regs r.0 v) free.1 ∙ owned_write w o regs r.0 v free.0

-- ---- the laws

pub writes_keep : WritesKeep
writes_keep own o regs r v free = owned_write own o regs r v free

pub points_move : PointsMove
points_move own o regs r n = owned_point own o regs r n

pub counts_move : CountsMove
counts_move own o regs rs = owned_counts own o regs rs
