-- Names and registers that hold the same values.
use Rattle.std.proofs.Common.{◌≡◌, ◌⊎◌, inl, inr, ◌<◌, ◌≤◌, ℕ, zero, suc, ◌+◌, nat_eq, cond, Bool, true, false, List, [], ◌∷◌, map, drop, length, Option, Some, None, IsSome, slice_get, refl, sym, ap, ap₂, subst, ◌∙◌, arith}
use Rattle.std.proofs.lemmas.Bool.Decides.{eqb_tells}
use Rattle.ir_forms.specs.declared.names.ElementName.{ElementName}
use Rattle.ir_forms.specs.declared.names.ElementName.TheVariants.{Token, Value}
use Rattle.ir_forms.specs.declared.names.MadeName.{MadeName}
use Rattle.ir_forms.specs.declared.ops.ValueNo.{ValueNo}
use Rattle.low_forms.specs.declared.code.Reg.{Reg}
use Rattle.source_meaning.specs.declared.values.Val as source
use Rattle.source_meaning.specs.declared.values.Val.TheVariants.{Number, Memory, Element, Group}
use Rattle.source_meaning.specs.Values.{Env, nothing, named, put, bind, values_at, number_in, dims_in}
use Rattle.source_meaning.specs.Steps.{value}
use Rattle.async_objects.specs.declared.kinds.Val.{Val}
use Rattle.async_objects.specs.declared.kinds.Val.TheVariants as val
use Rattle.task_stack.specs.Registers as low
use Rattle.task_stack.specs.Registers.{held}
use Rattle.step_core.specs.High.{Ref}
use Rattle.step_core.specs.High as high
use Rattle.scf_blocks.specs.Code.{Scope, known, reg, regs, reg_no, or_first, with_values, regs_from}
use Rattle.block_carry.specs.Same.{Known, IsElement, IsGroup, IsSame, AreSame, Agree, Later}
use Rattle.block_carry.specs.Rows.{AreVisible, AreNew, AreBefore}
use Rattle.block_carry.specs.Stands.{IsWithin}

pub none_is : {X : Type 0} (x : X) → None ≡ Some x → ⊥
none_is x e = cc

pub some_is : {X : Type 0} (x y : X) → Some x ≡ Some y → x ≡ y
some_is x y e = cc

pub by_eq : (x y : ℕ) (P : Bool → Type 0) → (x ≡ y → P true) → ((x ≡ y → ⊥) → P false) → P (nat_eq x y)
by_eq x y P same other = go (eqb_tells x y)
  where
    go : ((nat_eq x y) ≡ true) × (x ≡ y) ⊎ ((nat_eq x y) ≡ false) × (x ≡ y → ⊥) → P (nat_eq x y)
    go (inl t) = subst P (sym t.0) (same t.1)
    go (inr f) = subst P (sym f.0) (other f.1)

pub eq_same : (x : ℕ) → nat_eq x x ≡ true
eq_same x = by_eq x x (λ b. b ≡ true) (λ e. refl) (λ ne. absurd (ne refl))

-- ---- lists by number

pub held_put : (regs : List Val) (k : ℕ) (v : Val) → held (low.put regs k v) k ≡ v
held_put [] zero v = refl
held_put [] (suc k) v = held_put [] k v
held_put (x ∷ xs) zero v = refl
held_put (x ∷ xs) (suc k) v = held_put xs k v

pub held_other : (regs : List Val) (k j : ℕ) (v : Val) → (k ≡ j → ⊥) → held (low.put regs k v) j ≡ held regs j
held_other [] zero zero v ne = absurd (ne refl)
held_other [] zero (suc j) v ne = refl
held_other [] (suc k) zero v ne = refl
held_other [] (suc k) (suc j) v ne = held_other [] k j v (λ e. ne (ap suc e))
held_other (x ∷ xs) zero zero v ne = absurd (ne refl)
held_other (x ∷ xs) zero (suc j) v ne = refl
held_other (x ∷ xs) (suc k) zero v ne = refl
held_other (x ∷ xs) (suc k) (suc j) v ne = held_other xs k j v (λ e. ne (ap suc e))

pub named_put : (env : Env) (k : ℕ) (v : source.Val) → named (put env k v) k ≡ v
named_put [] zero v = refl
named_put [] (suc k) v = named_put [] k v
named_put (x ∷ xs) zero v = refl
named_put (x ∷ xs) (suc k) v = named_put xs k v

pub named_other : (env : Env) (k j : ℕ) (v : source.Val) → (k ≡ j → ⊥) → named (put env k v) j ≡ named env j
named_other [] zero zero v ne = absurd (ne refl)
named_other [] zero (suc j) v ne = refl
named_other [] (suc k) zero v ne = refl
named_other [] (suc k) (suc j) v ne = named_other [] k j v (λ e. ne (ap suc e))
named_other (x ∷ xs) zero zero v ne = absurd (ne refl)
named_other (x ∷ xs) zero (suc j) v ne = refl
named_other (x ∷ xs) (suc k) zero v ne = refl
named_other (x ∷ xs) (suc k) (suc j) v ne = named_other xs k j v (λ e. ne (ap suc e))

-- a register below those that are written
pub held_below : {A : Type 0} (rs vs : List Val) (n k : ℕ) (xs : List A) → k < n → held (low.bind (regs_from n xs) vs rs) k ≡ held rs k
held_below rs vs n k [] lt = refl
held_below rs [] n k (x ∷ xs) lt = refl
held_below rs (v ∷ vs) n k (x ∷ xs) lt = held_below (low.put rs n v) vs (n + 1) k xs (omega (arith, lt)) ∙ held_other rs n k v (λ e. omega (arith, lt, e))

-- as many registers
pub same_regs : {A B : Type 0} (n : ℕ) (xs : List A) (ys : List B) → length xs ≡ length ys → regs_from n xs ≡ regs_from n ys
same_regs n [] [] e = refl
same_regs n [] (y ∷ ys) e = absurd (omega (arith, e))
same_regs n (x ∷ xs) [] e = absurd (omega (arith, e))
same_regs n (x ∷ xs) (y ∷ ys) e = let h : length xs ≡ length ys = omega (arith, e) in ap (λ l. reg_no n ∷ l) (same_regs (n + 1) xs ys h)

-- ---- scopes

pub before_none : (n : ℕ) → AreBefore [] n
before_none n x r e = absurd (none_is r e)

pub before_more : (scope : Scope) (n k : ℕ) → n ≤ k → AreBefore scope n → AreBefore scope k
before_more scope n k le before x r e = omega (arith, before x r e, le)

pub before_next : (scope : Scope) (n : ℕ) (x : ValueNo) → AreBefore scope n → AreBefore ((x, reg_no n) ∷ scope) (n + 1)
before_next scope n x before y r =
    by_eq x.0 y (λ b. cond b (Some (reg_no n)) (known scope y) ≡ Some r → r.0 < n + 1)
    (λ e h. subst (λ (q : Reg). q.0 < n + 1) (some_is (reg_no n) r h) (omega arith)) (λ ne h. omega (arith, before y r h))

pub before_values : (scope : Scope) (xs : List ValueNo) (n : ℕ) → AreBefore scope n → AreBefore (with_values xs n scope) (n + length xs)
before_values scope [] n before = before_more scope n (n + 0) (omega arith) before
before_values scope (x ∷ xs) n before =
    before_more (with_values xs (n + 1) ((x, reg_no n) ∷ scope)) (n + 1 + length xs) (n + length (x ∷ xs)) (omega arith) (before_values ((x, reg_no n) ∷ scope) xs (n + 1) (before_next scope n x before))

pub within_new : (scope : Scope) (x : ValueNo) (r : Reg) → known scope x.0 ≡ None → IsWithin scope ((x, r) ∷ scope)
within_new scope x r new y q e =
    by_eq x.0 y (λ b. cond b (Some r) (known scope y) ≡ Some q)
    (λ same. absurd (none_is q (sym new ∙ subst (λ z. known scope z ≡ Some q) (sym same) e))) (λ ne. e)

pub within_values : (scope : Scope) (xs : List ValueNo) (n : ℕ) → AreNew scope n xs → IsWithin scope (with_values xs n scope)
within_values scope [] n new y q e = e
within_values scope (x ∷ xs) n new y q e = within_values ((x, reg_no n) ∷ scope) xs (n + 1) new.1 y q (within_new scope x (reg_no n) new.0 y q e)

pub known_first : (scope : Scope) (x : ValueNo) (r : Reg) → known ((x, r) ∷ scope) x.0 ≡ Some r
known_first scope x r = ap (λ b. cond b (Some r) (known scope x.0)) (eq_same x.0)

-- the register of a visible value
pub visible_reg : (scope : Scope) (x : ValueNo) → IsSome (known scope x.0) → known scope x.0 ≡ Some (reg scope x)
visible_reg scope x seen = go (known scope x.0) seen
  where
    go : (o : Option Reg) → IsSome o → o ≡ Some (or_first o)
    go None s = cc
    go (Some r) s = refl

-- what is visible outside is visible inside, in the same register
pub visible_within : (outer inner : Scope) (x : ValueNo) → IsWithin outer inner → IsSome (known outer x.0) → reg inner x ≡ reg outer x
visible_within outer inner x within seen = ap or_first (within x.0 (reg outer x) (visible_reg outer x seen))

-- ---- the same values

pub nothing_same : (k : Known) → IsSame k nothing low.nothing
nothing_same k = refl

pub number_same : (k : Known) (v : source.Val) (w : Val) → IsSame k v w → low.number_in w ≡ number_in v
number_same k (Number n) (val.Number m) h = h
number_same k (Number n) (val.Buffer b r s) h = absurd h
number_same k (Number n) (val.Object o) h = absurd h
number_same k (Memory b d) (val.Number m) h = absurd h
number_same k (Memory b d) (val.Buffer c r s) h = refl
number_same k (Memory b d) (val.Object o) h = absurd h
number_same k (Element x) (val.Number m) h = absurd h
number_same k (Element x) (val.Buffer c r s) h = absurd h
number_same k (Element x) (val.Object o) h = refl
number_same k (Group g) (val.Number m) h = absurd h
number_same k (Group g) (val.Buffer c r s) h = absurd h
number_same k (Group g) (val.Object o) h = refl

pub dims_same : (k : Known) (v : source.Val) (w : Val) → IsSame k v w → low.dims_in w ≡ dims_in v
dims_same k (Number n) (val.Number m) h = refl
dims_same k (Number n) (val.Buffer b r s) h = absurd h
dims_same k (Number n) (val.Object o) h = absurd h
dims_same k (Memory b d) (val.Number m) h = absurd h
dims_same k (Memory b d) (val.Buffer c r s) h = h.1
dims_same k (Memory b d) (val.Object o) h = absurd h
dims_same k (Element x) (val.Number m) h = absurd h
dims_same k (Element x) (val.Buffer c r s) h = absurd h
dims_same k (Element x) (val.Object o) h = refl
dims_same k (Group g) (val.Number m) h = absurd h
dims_same k (Group g) (val.Buffer c r s) h = absurd h
dims_same k (Group g) (val.Object o) h = refl

pub value_same : (k : Known) (vs : List source.Val) (ws : List Val) (i : ℕ) → AreSame k vs ws → IsSame k (value vs i) (low.value ws i)
value_same k [] [] i h = nothing_same k
value_same k [] (w ∷ ws) i h = absurd h
value_same k (v ∷ vs) [] i h = absurd h
value_same k (v ∷ vs) (w ∷ ws) zero h = h.0
value_same k (v ∷ vs) (w ∷ ws) (suc i) h = value_same k vs ws i h.1

pub numbers_same : (k : Known) (vs : List source.Val) (ws : List Val) → AreSame k vs ws → map low.number_in ws ≡ map number_in vs
numbers_same k [] [] h = refl
numbers_same k [] (w ∷ ws) h = absurd h
numbers_same k (v ∷ vs) [] h = absurd h
numbers_same k (v ∷ vs) (w ∷ ws) h = ap₂ (λ x xs. x ∷ xs) (number_same k v w h.0) (numbers_same k vs ws h.1)

pub tail_same : (k : Known) (vs : List source.Val) (ws : List Val) → AreSame k vs ws → AreSame k (drop 1 vs) (drop 1 ws)
tail_same k [] [] h = tt
tail_same k [] (w ∷ ws) h = absurd h
tail_same k (v ∷ vs) [] h = absurd h
tail_same k (v ∷ vs) (w ∷ ws) h = h.1

pub drop_same : (k : Known) (i : ℕ) (vs : List source.Val) (ws : List Val) → AreSame k vs ws → AreSame k (drop i vs) (drop i ws)
drop_same k zero vs ws h = h
drop_same k (suc i) [] [] h = tt
drop_same k (suc i) [] (w ∷ ws) h = absurd h
drop_same k (suc i) (v ∷ vs) [] h = absurd h
drop_same k (suc i) (v ∷ vs) (w ∷ ws) h = drop_same k i vs ws h.1

pub length_same : (k : Known) (vs : List source.Val) (ws : List Val) → AreSame k vs ws → length ws ≡ length vs
length_same k [] [] h = refl
length_same k [] (w ∷ ws) h = absurd h
length_same k (v ∷ vs) [] h = absurd h
length_same k (v ∷ vs) (w ∷ ws) h = ap suc (length_same k vs ws h.1)

pub values_length : (env : Env) (xs : List ValueNo) → length (values_at env xs) ≡ length xs
values_length env [] = refl
values_length env (x ∷ xs) = ap suc (values_length env xs)

-- ---- agreement

pub agree_at : (k : Known) (scope : Scope) (env : Env) (rs : List Val) (x : ValueNo) → Agree k scope env rs → IsSome (known scope x.0) → IsSame k (named env x.0) (held rs (reg scope x).0)
agree_at k scope env rs x agree seen = agree x.0 (reg scope x) (visible_reg scope x seen)

pub agree_number : (k : Known) (scope : Scope) (env : Env) (rs : List Val) (x : ValueNo) → Agree k scope env rs → IsSome (known scope x.0) → low.number_in (held rs (reg scope x).0) ≡ number_in (named env x.0)
agree_number k scope env rs x agree seen = number_same k _ _ (agree_at k scope env rs x agree seen)

pub agree_all : (k : Known) (scope : Scope) (env : Env) (rs : List Val) (xs : List ValueNo) → Agree k scope env rs → AreVisible scope xs → AreSame k (values_at env xs) (low.values_at rs (regs scope xs))
agree_all k scope env rs [] agree seen = tt
agree_all k scope env rs (x ∷ xs) agree seen = (agree_at k scope env rs x agree seen.0, agree_all k scope env rs xs agree seen.1)

pub agree_none : (k : Known) (env : Env) (rs : List Val) → Agree k [] env rs
agree_none k env rs x r e = absurd (none_is r e)

-- a register that no visible value has
pub agree_reg : (k : Known) (scope : Scope) (n m : ℕ) (env : Env) (rs : List Val) (w : Val) → AreBefore scope n → n ≤ m → Agree k scope env rs → Agree k scope env (low.put rs m w)
agree_reg k scope n m env rs w before le agree x r e =
    subst (λ z. IsSame k (named env x) z) (sym (held_other rs m r.0 w (λ h. omega (arith, before x r e, le, h)))) (agree x r e)

pub agree_put : (k : Known) (scope : Scope) (n : ℕ) (x : ValueNo) (env : Env) (rs : List Val) (v : source.Val) (w : Val) → AreBefore scope n → IsSame k v w → Agree k scope env rs →
    Agree k ((x, reg_no n) ∷ scope) (put env x.0 v) (low.put rs n w)
agree_put k scope n x env rs v w before same agree y r =
    by_eq x.0 y (λ b. cond b (Some (reg_no n)) (known scope y) ≡ Some r → IsSame k (named (put env x.0 v) y) (held (low.put rs n w) r.0))
    (λ e h. subst (λ z. IsSame k (named (put env x.0 v) z) (held (low.put rs n w) r.0)) e
    (subst (λ (q : Reg). IsSame k (named (put env x.0 v) x.0) (held (low.put rs n w) q.0)) (some_is (reg_no n) r h)
    (subst (λ z. IsSame k z (held (low.put rs n w) n)) (sym (named_put env x.0 v)) (subst (λ z. IsSame k v z) (sym (held_put rs n w)) same))))
    (λ ne h. subst (λ z. IsSame k z (held (low.put rs n w) r.0)) (sym (named_other env x.0 y v ne))
    (subst (λ z. IsSame k (named env y) z) (sym (held_other rs n r.0 w (λ e. omega (arith, before y r h, e)))) (agree y r h)))

-- new values in the registers from n on
pub agree_values : (k : Known) (scope : Scope) (xs : List ValueNo) (n : ℕ) (env : Env) (rs : List Val) (vs : List source.Val) (ws : List Val) → length xs ≤ length vs → AreBefore scope n → AreSame k vs ws → Agree k scope env rs →
    Agree k (with_values xs n scope) (bind xs vs env) (low.bind (regs_from n xs) ws rs)
agree_values k scope [] n env rs [] [] few before same agree = agree
agree_values k scope [] n env rs (v ∷ vs) [] few before same agree = absurd same
agree_values k scope [] n env rs [] (w ∷ ws) few before same agree = absurd same
agree_values k scope [] n env rs (v ∷ vs) (w ∷ ws) few before same agree = agree
agree_values k scope (x ∷ xs) n env rs [] ws few before same agree = absurd (omega (arith, few))
agree_values k scope (x ∷ xs) n env rs (v ∷ vs) [] few before same agree = absurd same
agree_values k scope (x ∷ xs) n env rs (v ∷ vs) (w ∷ ws) few before same agree =
    agree_values k ((x, reg_no n) ∷ scope) xs (n + 1) (put env x.0 v) (low.put rs n w) vs ws (omega (arith, few)) (before_next scope n x before) same.1 (agree_put k scope n x env rs v w before same.0 agree)

pub agree_within : (k : Known) (outer inner : Scope) (env : Env) (rs : List Val) → IsWithin outer inner → Agree k inner env rs → Agree k outer env rs
agree_within k outer inner env rs within agree x r e = agree x r (within x r e)

-- ---- what stays

-- a name that is visible is none of those that are new
pub named_new : (scope : Scope) (xs : List ValueNo) (n : ℕ) (env : Env) (vs : List source.Val) (y : ℕ) (r : Reg) → AreNew scope n xs → known scope y ≡ Some r → named (bind xs vs env) y ≡ named env y
named_new scope [] n env [] y r new e = refl
named_new scope [] n env (v ∷ vs) y r new e = refl
named_new scope (x ∷ xs) n env [] y r new e = refl
named_new scope (x ∷ xs) n env (v ∷ vs) y r new e =
    named_new ((x, reg_no n) ∷ scope) xs (n + 1) (put env x.0 v) vs y r new.1 (within_new scope x (reg_no n) new.0 y r e)
    ∙ named_other env x.0 y v (λ h. none_is r (sym new.0 ∙ subst (λ z. known scope z ≡ Some r) (sym h) e))

-- registers that no visible value has
pub agree_more : {A : Type 0} (k : Known) (scope : Scope) (n : ℕ) (env : Env) (rs : List Val) (xs : List A) (ws : List Val) → AreBefore scope n → Agree k scope env rs → Agree k scope env (low.bind (regs_from n xs) ws rs)
agree_more k scope n env rs xs ws before agree x r e = subst (λ z. IsSame k (named env x) z) (sym (held_below rs ws n r.0 xs (before x r e))) (agree x r e)

-- the first of new values
pub known_variable : (scope : Scope) (x : ValueNo) (xs : List ValueNo) (n : ℕ) → AreNew scope n (x ∷ xs) → known (with_values (x ∷ xs) n scope) x.0 ≡ Some (reg_no n)
known_variable scope x xs n new = within_values ((x, reg_no n) ∷ scope) xs (n + 1) new.1 x.0 (reg_no n) (known_first scope x (reg_no n))

pub bind_nothing : (xs : List ValueNo) (env : Env) → bind xs [] env ≡ env
bind_nothing [] env = refl
bind_nothing (x ∷ xs) env = refl

pub plus_none : (n : ℕ) → n ≡ n + 0
plus_none n = omega arith

-- ---- later

pub element_later : (k after : Known) → Later k after → (x : ElementName) (o : Option Ref) (o2 : Option Ref) → ((r : Ref) → o ≡ Some r → o2 ≡ Some r) → IsElement k x o → IsElement after x o2
element_later k after later (Token p) None o2 stays h = absurd h
element_later k after later (Token p) (Some (high.Group g)) o2 stays h = absurd h
element_later k after later (Token p) (Some (high.Element q zero)) o2 stays h = subst (IsElement after (Token p)) (sym (stays (high.Element q zero) refl)) (later.names.tasks q p h)
element_later k after later (Token p) (Some (high.Element q (suc i))) o2 stays h = absurd h
element_later k after later (Value p j) None o2 stays h = absurd h
element_later k after later (Value p j) (Some (high.Group g)) o2 stays h = absurd h
element_later k after later (Value p j) (Some (high.Element q zero)) o2 stays h = absurd h
element_later k after later (Value p j) (Some (high.Element q (suc i))) o2 stays h = subst (IsElement after (Value p j)) (sym (stays (high.Element q (suc i)) refl)) (later.names.tasks q p h.0, h.1)

pub group_later : (k after : Known) → Later k after → (g : MadeName) (o : Option Ref) (o2 : Option Ref) → ((r : Ref) → o ≡ Some r → o2 ≡ Some r) → IsGroup k g o → IsGroup after g o2
group_later k after later g None o2 stays h = absurd h
group_later k after later g (Some (high.Group n)) o2 stays h = subst (IsGroup after g) (sym (stays (high.Group n) refl)) (later.names.groups n g h)
group_later k after later g (Some (high.Element q i)) o2 stays h = absurd h

pub same_later : (k after : Known) → Later k after → (v : source.Val) (w : Val) → IsSame k v w → IsSame after v w
same_later k after later (Number n) (val.Number m) h = h
same_later k after later (Number n) (val.Buffer b r s) h = absurd h
same_later k after later (Number n) (val.Object o) h = absurd h
same_later k after later (Memory b d) (val.Number m) h = absurd h
same_later k after later (Memory b d) (val.Buffer c r s) h = (later.names.buffers c b h.0, h.1, later.cells c _ h.2)
same_later k after later (Memory b d) (val.Object o) h = absurd h
same_later k after later (Element x) (val.Number m) h = absurd h
same_later k after later (Element x) (val.Buffer c r s) h = absurd h
same_later k after later (Element x) (val.Object o) h = element_later k after later x (slice_get k.refs o.0) (slice_get after.refs o.0) (later.refs o.0) h
same_later k after later (Group g) (val.Number m) h = absurd h
same_later k after later (Group g) (val.Buffer c r s) h = absurd h
same_later k after later (Group g) (val.Object o) h = group_later k after later g (slice_get k.refs o.0) (slice_get after.refs o.0) (later.refs o.0) h

pub agree_later : (k after : Known) → Later k after → (scope : Scope) (env : Env) (rs : List Val) → Agree k scope env rs → Agree after scope env rs
agree_later k after later scope env rs agree x r e = same_later k after later _ _ (agree x r e)
