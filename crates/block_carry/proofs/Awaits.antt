-- Awaits before a launched task's operations.
use Rattle.std.proofs.Common.{◌≡◌, ◌<◌, ◌≤◌, ℕ, suc, ◌+◌, List, [], ◌∷◌, ◌++◌, length, Some, refl, sym, ap, subst, ◌∙◌, arith}
use Rattle.std.specs.Prelude.{cond}
use Rattle.ir_forms.specs.declared.ops.Op.{Op}
use Rattle.ir_forms.specs.declared.ops.ValueNo.{ValueNo}
use Rattle.low_forms.specs.declared.code.LowFunc.{LowFunc}
use Rattle.low_forms.specs.declared.code.LowModule.{LowModule}
use Rattle.low_forms.specs.declared.code.Reg.{Reg}
use Rattle.source_meaning.specs.declared.values.Val as source
use Rattle.source_meaning.specs.declared.values.Val.TheVariants.{Element}
use Rattle.source_meaning.specs.Values.{Env, named, values_at, element_in, maybe}
use Rattle.source_meaning.specs.Steps.{awaiting, awaits_each, awaits_for}
use Rattle.source_meaning.specs.Tasks.{Program, Pending, Awaits, Joining, Failing}
use Rattle.async_objects.specs.declared.kinds.Val.{Val}
use Rattle.task_stack.specs.Registers as low
use Rattle.task_stack.specs.Registers.{held}
use Rattle.scf_blocks.specs.declared.body.Close.{Close}
use Rattle.scf_blocks.specs.Code.{Scope, known, reg_no, regs_from, with_values}
use Rattle.block_carry.specs.Same.{Known, IsSame, AreSame, Agree, Later}
use Rattle.block_carry.specs.Rows.{AreBefore}
use Rattle.block_carry.specs.Laid.{IsLaid, names_for, AreAwaited}
use Rattle.block_carry.specs.Stands.{WaitsFrom, StandsAt}
use Rattle.block_carry.specs.Follows.{IsElementFor, AreElementsFor}
use Rattle.block_carry.proofs.Values.{some_is, by_eq, held_put, held_below, before_values, same_later}

module _ (p : Program) (code : LowModule) where
  pub waits_later : (k after : Known) → Later k after → (regs : List Val) (m r place : ℕ) (f : LowFunc) (end : Close) (a b i n : ℕ) (scope : Scope) (rest : List Op) (pending : List Pending) →
      WaitsFrom p code k regs m r place f end a b i n scope rest pending → WaitsFrom p code after regs m r place f end a b i n scope rest pending
  waits_later k after later regs m r place f end a b i n scope rest [] w = w
  waits_later k after later regs m r place f end a b i n scope rest (Failing number ∷ more) w = w
  waits_later k after later regs m r place f end a b i n scope rest (Joining number loop ∷ more) w = w
  waits_later k after later regs m r place f end a b i n scope rest (Awaits number x xs ∷ more) w = (
    same_later k after later (Element x) (held regs r) w.0,
    w.1,
    w.2,
    w.3,
    w.4,
    w.5,
    w.6,
    w.7,
    w.8,
    w.9,
    waits_later k after later regs m (r + 1) place f end a w.3 0 (w.5 + length xs) (with_values xs w.5 scope) rest more w.10,
  )

  -- registers of parameters that keep what they hold
  pub waits_keep : (k : Known) (regs other : List Val) (m r place : ℕ) (f : LowFunc) (end : Close) (a b i n : ℕ) (scope : Scope) (rest : List Op) (pending : List Pending) → ((j : ℕ) → j < m → held other j ≡ held regs j) →
      WaitsFrom p code k regs m r place f end a b i n scope rest pending → WaitsFrom p code k other m r place f end a b i n scope rest pending
  waits_keep k regs other m r place f end a b i n scope rest [] keep w = w
  waits_keep k regs other m r place f end a b i n scope rest (Failing number ∷ more) keep w = w
  waits_keep k regs other m r place f end a b i n scope rest (Joining number loop ∷ more) keep w = w
  waits_keep k regs other m r place f end a b i n scope rest (Awaits number x xs ∷ more) keep w = (
    subst (λ z. IsSame k (Element x) z) (sym (keep r w.1)) w.0,
    w.1,
    w.2,
    w.3,
    w.4,
    w.5,
    w.6,
    w.7,
    w.8,
    w.9,
    waits_keep k regs other m (r + 1) place f end a w.3 0 (w.5 + length xs) (with_values xs w.5 scope) rest more keep w.10,
  )

  pub stands_pending : (k : Known) (regs : List Val) (m r place : ℕ) (f : LowFunc) (end : Close) (a b i n : ℕ) (scope : Scope) (rest : List Op) (pending : List Pending) →
      WaitsFrom p code k regs m r place f end a b i n scope rest pending → StandsAt p code k regs place f end a b i n scope rest pending
  stands_pending k regs m r place f end a b i n scope rest [] w = w
  stands_pending k regs m r place f end a b i n scope rest (Failing number ∷ more) w = absurd w
  stands_pending k regs m r place f end a b i n scope rest (Joining number loop ∷ more) w = absurd w
  stands_pending k regs m r place f end a b i n scope rest (Awaits number x xs ∷ more) w = (m, r, w)

  pub stands_at_later : (k after : Known) → Later k after → (regs : List Val) (place : ℕ) (f : LowFunc) (end : Close) (a b i n : ℕ) (scope : Scope) (rest : List Op) (pending : List Pending) →
      StandsAt p code k regs place f end a b i n scope rest pending → StandsAt p code after regs place f end a b i n scope rest pending
  stands_at_later k after later regs place f end a b i n scope rest [] w = w
  stands_at_later k after later regs place f end a b i n scope rest (Failing number ∷ more) w = w
  stands_at_later k after later regs place f end a b i n scope rest (Joining number loop ∷ more) w = w
  stands_at_later k after later regs place f end a b i n scope rest (Awaits number x xs ∷ more) w =
      (w.0, w.1, waits_later k after later regs w.0 w.1 place f end a b i n scope rest (Awaits number x xs ∷ more) w.2)

-- ---- what a launched task awaits

-- awaits of these values for these names, one by one
abbrev pub awaits_of : ℕ → List (List ValueNo) → List source.Val → List Pending
awaits_of number [] vs = []
awaits_of number (xs ∷ names) [] = []
awaits_of number (xs ∷ names) (v ∷ vs) = awaiting number xs v ∷ awaits_of number names vs

for_none : (number : ℕ) (env : Env) (values : List ValueNo) → awaits_for number [] (values_at env values) ≡ awaits_of number (names_for [] values) (values_at env values)
for_none number env [] = refl
for_none number env (v ∷ values) = ap (λ l. awaiting number [] (named env v.0) ∷ l) (for_none number env values)

for_params : (number : ℕ) (env : Env) (params values : List ValueNo) → awaits_for number params (values_at env values) ≡ awaits_of number (names_for params values) (values_at env values)
for_params number env [] values = for_none number env values
for_params number env (x ∷ params) [] = refl
for_params number env (x ∷ params) (v ∷ values) = ap (λ l. awaiting number (x ∷ []) (named env v.0) ∷ l) (for_params number env params values)

pub awaits_are : (number : ℕ) (env : Env) (params tokens values : List ValueNo) →
    awaits_each number (values_at env tokens) ++ awaits_for number params (values_at env values) ≡ awaits_of number (names_for [] tokens ++ names_for params values) (values_at env (tokens ++ values))
awaits_are number env params [] values = for_params number env params values
awaits_are number env params (v ∷ tokens) values = ap (λ l. awaiting number [] (named env v.0) ∷ l) (awaits_are number env params tokens values)

pub names_length : (params values : List ValueNo) → length (names_for params values) ≡ length values
names_length [] [] = refl
names_length (x ∷ params) [] = refl
names_length [] (v ∷ values) = ap suc (names_length [] values)
names_length (x ∷ params) (v ∷ values) = ap suc (names_length params values)

-- ---- what registers hold

-- the registers from n on hold the same
abbrev pub AreHeld : Known → List Val → ℕ → List source.Val → Type 0
AreHeld k regs n [] = Unit {0}
AreHeld k regs n (v ∷ vs) = IsSame k v (held regs n) × AreHeld k regs (n + 1) vs

pub held_bound : {A : Type 0} (k : Known) (xs : List A) (vs : List source.Val) (ws : List Val) (n : ℕ) (base : List Val) → length xs ≡ length vs → AreSame k vs ws → AreHeld k (low.bind (regs_from n xs) ws base) n vs
held_bound k [] [] ws n base e same = tt
held_bound k [] (v ∷ vs) ws n base e same = absurd (omega (arith, e))
held_bound k (x ∷ xs) [] ws n base e same = absurd (omega (arith, e))
held_bound k (x ∷ xs) (v ∷ vs) [] n base e same = absurd same
held_bound k (x ∷ xs) (v ∷ vs) (w ∷ ws) n base e same = (
  subst (λ z. IsSame k v z) (sym (held_below (low.put base n w) ws (n + 1) n xs (omega arith) ∙ held_put base n w)) same.0,
  held_bound k xs vs ws (n + 1) (low.put base n w) (omega (arith, e)) same.1,
)

pub agree_held : (k : Known) (scope : Scope) (xs : List ValueNo) (n : ℕ) (env : Env) (regs : List Val) → AreHeld k regs n (values_at env xs) → Agree k scope env regs → Agree k (with_values xs n scope) env regs
agree_held k scope [] n env regs h agree = agree
agree_held k scope (x ∷ xs) n env regs h agree = agree_held k ((x, reg_no n) ∷ scope) xs (n + 1) env regs h.1 first
  where
    first : Agree k ((x, reg_no n) ∷ scope) env regs
    first y r = by_eq x.0 y (λ b. cond b (Some (reg_no n)) (known scope y) ≡ Some r → IsSame k (named env y) (held regs r.0))
        (λ e h2. subst (λ z. IsSame k (named env z) (held regs r.0)) e (subst (λ (q : Reg). IsSame k (named env x.0) (held regs q.0)) (some_is (reg_no n) r h2) h.0)) (λ ne h2. agree y r h2)

-- each is a token or value for these names
abbrev pub AreFor : List (List ValueNo) → List source.Val → Type 0
AreFor [] vs = Unit {0}
AreFor (xs ∷ names) [] = Unit {0}
AreFor (xs ∷ names) (v ∷ vs) = IsElementFor xs v × AreFor names vs

pub for_values : (env : Env) (params values : List ValueNo) → AreElementsFor params (values_at env values) → AreFor (names_for params values) (values_at env values)
for_values env [] [] h = tt
for_values env (x ∷ params) [] h = tt
for_values env [] (v ∷ values) h = (h.0, for_values env [] values h.1)
for_values env (x ∷ params) (v ∷ values) h = (h.0, for_values env params values h.1)

pub for_all : (env : Env) (params tokens values : List ValueNo) → AreElementsFor [] (values_at env tokens) → AreElementsFor params (values_at env values) → AreFor (names_for [] tokens ++ names_for params values) (values_at env (tokens ++ values))
for_all env params [] values g h = for_values env params values h
for_all env params (v ∷ tokens) values g h = (g.0, for_all env params tokens values g.1 h)

module _ (p : Program) (code : LowModule) where
  -- awaits that are laid out stand for what is pending
  pub waits_laid : (k : Known) (regs : List Val) (number m r place : ℕ) (f : LowFunc) (end : Close) (a b i n : ℕ) (scope : Scope) (rest : List Op) (names : List (List ValueNo)) (vs : List source.Val) (b2 i2 n2 : ℕ) (inner : Scope) →
      AreAwaited f number m r names b i n scope b2 i2 n2 inner → AreBefore scope n → length names ≡ length vs → r + length names ≤ m → AreFor names vs → AreHeld k regs r vs → IsLaid p code place f end a b2 i2 n2 inner rest →
      WaitsFrom p code k regs m r place f end a b i n scope rest (awaits_of number names vs)
  waits_laid k regs number m r place f end a b i n scope rest [] vs b2 i2 n2 inner aw bef many few elements same l =
      subst (λ q. AreBefore q n × IsLaid p code place f end a b i n q rest) (sym aw.3) (subst (λ q. AreBefore inner n × IsLaid p code place f end a q i n inner rest) (sym aw.0)
      (subst (λ q. AreBefore inner n × IsLaid p code place f end a b2 q n inner rest) (sym aw.1) (subst (λ q. AreBefore inner q × IsLaid p code place f end a b2 i2 q inner rest) (sym aw.2)
      (subst (λ q. AreBefore q n2) aw.3 (subst (λ q. AreBefore scope q) aw.2 bef), l))))
  waits_laid k regs number m r place f end a b i n scope rest (xs ∷ names) [] b2 i2 n2 inner aw bef many few elements same l = absurd (omega (arith, many))
  waits_laid k regs number m r place f end a b i n scope rest (xs ∷ names) (v ∷ vs) b2 i2 n2 inner aw bef many few elements same l =
      let e = elements.0 in
      let next : WaitsFrom p code k regs m (r + 1) place f end a aw.0 0 (aw.2 + length xs) (with_values xs aw.2 scope) rest (awaits_of number names vs) =
      waits_laid k regs number m (r + 1) place f end a aw.0 0 (aw.2 + length xs) (with_values xs aw.2 scope) rest names vs b2 i2 n2 inner aw.7
      (before_values scope xs aw.2 aw.5.before) (omega (arith, many)) (omega (arith, few)) elements.1 same.1 l in
      subst (λ z. WaitsFrom p code k regs m r place f end a b i n scope rest (maybe (Failing number) (λ y. Awaits number y xs) z ∷ awaits_of number names vs)) (sym (ap element_in e.1))
      (subst (λ z. IsSame k z (held regs r)) e.1 same.0, omega (arith, few), e.2, aw.0, aw.1, aw.2, aw.3, aw.4, aw.5, aw.6, next)
