-- The list of a scope, and the map of its registers.
use Rattle.std.proofs.Common.{◌≡◌, ℕ, zero, suc, ◌+◌, ◌-◌, ◌<◌, ◌≤◌, cond, eqb, List, [], ◌∷◌, ◌++◌, length, drop, reverse, Option, Some, None, refl, ap, ap₂, sym, subst, ◌∙◌, arith}
use Rattle.std.proofs.Math.Logic.{⊎_elim}
use Rattle.std.proofs.lemmas.Bool.{eq-eqb}
use Rattle.std.proofs.lemmas.Bool.Decides.{eqb_tells}
use Rattle.std.proofs.lemmas.List.{reverse-append, length-reverse}
use Rattle.std.specs.BTreeMap.{BTreeMap, UpdatesBy, get}
use Rattle.std.specs.Cmp.{unsigned_tied}
use Rattle.std.specs.Ordering.{nat_cmp}
use Rattle.ir_forms.specs.declared.ops.ValueNo.{ValueNo}
use Rattle.low_forms.specs.declared.code.Reg.{Reg}
use Rattle.scf_blocks.specs.declared.scope.Visible.{Visible}
use Rattle.scf_blocks.specs.Code.{Scope, known, reg_no, with_values}
use Rattle.scf_blocks.specs.Bodies.{Extends}
use Rattle.scf_blocks.specs.Scopes.{shown, AreRegs, Hides}

length_shown : (vs : List Visible) → length (shown vs) ≡ length vs
length_shown [] = refl
length_shown (v ∷ vs) = ap suc (length_shown vs)

pub length_seen : (vs : List Visible) → length (shown (reverse vs)) ≡ length vs
length_seen vs = length_shown (reverse vs) ∙ length-reverse vs

-- one value more
pub seen_more : (vs : List Visible) (v : Visible) → shown (reverse (vs ++ v ∷ [])) ≡ (v.value, v.reg) ∷ shown (reverse vs)
seen_more vs v = ap shown (reverse-append vs (v ∷ []))

pub hides_more : (vs : List Visible) (v : Visible) → v.hidden ≡ known (shown (reverse vs)) v.value.0 → Hides (reverse vs) → Hides (reverse (vs ++ v ∷ []))
hides_more vs v e h = subst Hides (sym (reverse-append vs (v ∷ []))) (e, h)

pub hides_less : (vs : List Visible) (v : Visible) → Hides (reverse (vs ++ v ∷ [])) → (v.hidden ≡ known (shown (reverse vs)) v.value.0) × Hides (reverse vs)
hides_less vs v h = subst Hides (reverse-append vs (v ∷ [])) h

-- ---- what is visible afterwards

pub extends_none : (scope : Scope) → Extends scope scope
extends_none scope = record { more = 0; back = refl; len = omega arith }

drop_more : (xs : Scope) (k : ℕ) (y : ValueNo × Reg) (ys : Scope) → drop k xs ≡ y ∷ ys → drop (suc k) xs ≡ ys
drop_more [] zero y ys e = cc
drop_more [] (suc k) y ys e = cc
drop_more (x ∷ xs) zero y ys e = cc
drop_more (x ∷ xs) (suc k) y ys e = drop_more xs k y ys e

pub extends_values : (xs : List ValueNo) (n : ℕ) (scope : Scope) → Extends scope (with_values xs n scope)
extends_values [] n scope = extends_none scope
extends_values (x ∷ xs) n scope =
    let e : Extends ((x, reg_no n) ∷ scope) (with_values xs (n + 1) ((x, reg_no n) ∷ scope)) = extends_values xs (n + 1) ((x, reg_no n) ∷ scope) in
    record { more = suc e.more; back = drop_more (with_values xs (n + 1) ((x, reg_no n) ∷ scope)) e.more (x, reg_no n) scope e.back; len = omega (arith, e.len) }

drop_none : (n : ℕ) → drop {A = ValueNo × Reg} n [] ≡ []
drop_none zero = refl
drop_none (suc n) = refl

drop_twice : (c b a : Scope) (k n : ℕ) → drop k c ≡ b → drop n b ≡ a → drop (k + n) c ≡ a
drop_twice c b a zero n h h' = let z : 0 + n ≡ n = omega arith in ap (λ j. drop j c) z ∙ ap (λ l. drop n l) h ∙ h'
drop_twice [] b a (suc k) n h h' = let none : b ≡ [] = cc in drop_none (suc k + n) ∙ sym (drop_none n) ∙ ap (λ l. drop n l) (sym none) ∙ h'
drop_twice (y ∷ c) b a (suc k) n h h' = let s : suc k + n ≡ suc (k + n) = omega arith in ap (λ j. drop j (y ∷ c)) s ∙ drop_twice c b a k n h h'

pub extends_on : (a b c : Scope) → Extends a b → Extends b c → Extends a c
extends_on a b c first second =
    record { more = second.more + first.more; back = drop_twice c b a second.more first.more second.back first.back; len = omega (arith, first.len, second.len) }

-- what is more is forgotten
pub forgotten : (outer inner : Scope) → Extends outer inner → drop (length inner - length outer) inner ≡ outer
forgotten outer inner e =
    let n : length inner - length outer ≡ e.more = omega (arith, e.len) in
    ap (λ k. drop k inner) n ∙ e.back

-- one less
pub one_less : (xs : Scope) (n : ℕ) → n < length xs → drop (length (drop 1 xs) - n) (drop 1 xs) ≡ drop (length xs - n) xs
one_less [] n lt = absurd (omega (arith, lt))
one_less (x ∷ xs) n lt = let e : suc (length xs) - n ≡ suc (length xs - n) = omega (arith, lt) in sym (ap (λ k. drop k (x ∷ xs)) e)

pub none_less : (xs : Scope) (n : ℕ) → length xs ≤ n → drop (length xs - n) xs ≡ xs
none_less xs n le = let e : length xs - n ≡ 0 = omega (arith, le) in ap (λ k. drop k xs) e

pub fewer : (xs : Scope) (n : ℕ) → n < length xs → n ≤ length (drop 1 xs)
fewer [] n lt = absurd (omega (arith, lt))
fewer (x ∷ xs) n lt = omega (arith, lt)

-- ---- the map after a change

module _ (old new : BTreeMap ℕ Reg) (k : ℕ) where
  changed : (w : Option Reg) → UpdatesBy nat_cmp (nat_cmp k) old new w → (x : ℕ) → get nat_cmp new x ≡ cond (eqb k x) w (get nat_cmp old x)
  changed w h x = h.0 x ∙ ap (λ b. cond b w (get nat_cmp old x)) (unsigned_tied k x)

  pub defines : (value : ValueNo) (reg : Reg) (scope : Scope) → value.0 ≡ k → UpdatesBy nat_cmp (nat_cmp k) old new (Some reg) → AreRegs old scope → AreRegs new ((value, reg) ∷ scope)
  defines value reg scope same h are x =
      changed (Some reg) h x ∙ ap (λ o. cond (eqb k x) (Some reg) o) (are x) ∙ ap (λ n. cond (eqb n x) (Some reg) (known scope x)) (sym same)

  pub forgets : (value : ValueNo) (reg : Reg) (hidden : Option Reg) (scope : Scope) → value.0 ≡ k → hidden ≡ known scope value.0 → UpdatesBy nat_cmp (nat_cmp k) old new hidden → AreRegs old ((value, reg) ∷ scope) → AreRegs new scope
  forgets value reg hidden scope same is h are x =
      changed hidden h x
      ∙ ap₂ (λ (w : Option Reg) (o : Option Reg). cond (eqb k x) w o) (is ∙ ap (known scope) same) (are x ∙ ap (λ n. cond (eqb n x) (Some reg) (known scope x)) same)
      ∙ ⊎_elim
      (λ y. ap (λ b. cond b (known scope k) (cond b (Some reg) (known scope x))) y.0 ∙ ap (known scope) y.1)
      (λ n. ap (λ b. cond b (known scope k) (cond b (Some reg) (known scope x))) n.0)
      (eqb_tells k x)

  pub present : (value : ValueNo) (reg : Reg) (scope : Scope) → value.0 ≡ k → AreRegs old ((value, reg) ∷ scope) → get nat_cmp old k ≡ None → ⊥
  present value reg scope same are none =
      let h : Some reg ≡ None = sym (ap (λ b. cond b (Some reg) (known scope k)) (eq-eqb value.0 k same)) ∙ sym (are k) ∙ none in cc
