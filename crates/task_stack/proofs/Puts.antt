-- Registers as a list that grows when it is written.
use Rattle.std.proofs.Common.{◌≡◌, ℕ, zero, suc, ◌+◌, ◌<◌, ◌≤◌, min, List, [], ◌∷◌, ◌++◌, length, set, drop, slice_get, slice_index_or, refl, ap, arith}
use Rattle.source_meaning.specs.Values.{maybe}
use Rattle.low_forms.specs.declared.code.Reg.{Reg}
use Rattle.async_objects.specs.declared.kinds.Val.{Val}
use Rattle.task_stack.specs.Registers.{nothing, held, put, bind, values_at, value}
use Rattle.task_stack.specs.Room.{room_of}

pub value_of : (regs : List Val) (rs : List Reg) (i : ℕ) → value (values_at regs rs) i ≡ maybe nothing (λ r. held regs r.0) (slice_get rs i)
value_of regs [] i = refl
value_of regs (r ∷ rs) zero = refl
value_of regs (r ∷ rs) (suc i) = value_of regs rs i

pub put_within : (vs : List Val) (k : ℕ) (new : Val) → k < length vs → put vs k new ≡ set vs k new
put_within [] k new h = absurd (omega arith)
put_within (v ∷ vs) zero new h = refl
put_within (v ∷ vs) (suc k) new h = ap (λ x. v ∷ x) (put_within vs k new (omega arith))

pub put_past : (vs : List Val) (k : ℕ) (v : Val) → length vs ≤ k → put (vs ++ nothing ∷ []) k v ≡ put vs k v
put_past [] zero v h = refl
put_past [] (suc k) v h = refl
put_past (x ∷ vs) zero v h = absurd (omega (arith, h))
put_past (x ∷ vs) (suc k) v h = ap (λ ys. x ∷ ys) (put_past vs k v (omega (arith, h)))

pub put_last : (vs : List Val) (k : ℕ) (v : Val) → length vs ≡ k → put vs k v ≡ vs ++ v ∷ []
put_last [] zero v h = refl
put_last [] (suc k) v h = absurd (omega (arith, h))
put_last (x ∷ vs) zero v h = absurd (omega (arith, h))
put_last (x ∷ vs) (suc k) v h = ap (λ ys. x ∷ ys) (put_last vs k v (omega (arith, h)))

pub put_padded : (first vs last : List Val) (k : ℕ) (v : Val) → put vs k v ≡ put first k v → length vs ≤ k → last ≡ vs ++ nothing ∷ [] → put last k v ≡ put first k v
put_padded first vs last k v same at is = rw is (rw (put_past vs k v at) same)

-- each of the registers is there
pub room_at : (rs : List Reg) (i n : ℕ) (d : Reg) → i < length rs → room_of rs ≤ n → (slice_index_or rs i d).0 + 1 ≤ n
room_at [] i n d h within = absurd (omega (arith, h))
room_at (r ∷ rs) zero n d h within = grind (arith, within)
room_at (r ∷ rs) (suc i) n d h within = room_at rs i n d (omega (arith, h)) (grind (arith, within))

bind_none : (rs : List Reg) (regs : List Val) → bind rs [] regs ≡ regs
bind_none [] regs = refl
bind_none (r ∷ rs) regs = refl

-- where one of the lists is at its end nothing more is bound
pub bind_end : (rs : List Reg) (vs : List Val) (i : ℕ) (regs : List Val) → i ≡ min (length rs) (length vs) → bind (drop i rs) (drop i vs) regs ≡ regs
bind_end [] vs zero regs e = refl
bind_end (r ∷ rs) [] zero regs e = refl
bind_end (r ∷ rs) (v ∷ vs) zero regs e = absurd (grind (arith, e))
bind_end [] vs (suc i) regs e = refl
bind_end (r ∷ rs) [] (suc i) regs e = bind_none (drop i rs) regs
bind_end (r ∷ rs) (v ∷ vs) (suc i) regs e = bind_end rs vs i regs (grind (arith, e))
