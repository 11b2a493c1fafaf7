-- Values by their numbers: what is known of those that are visible, and where the tasks' functions stand.
use Rattle.std.proofs.Common.{◌≡◌, inl, inr, ◌<◌, ◌≤◌, ℕ, zero, suc, ◌+◌, ◌==◌, cond, Bool, true, false, List, [], ◌∷◌, ◌++◌, length, Option, Some, None, slice_get, refl, sym, ap, ◌∙◌, subst, arith}
use Rattle.ir_forms.specs.declared.ops.Func.{Func}
use Rattle.ir_forms.specs.declared.ops.Module.{Module}
use Rattle.ir_forms.specs.declared.ops.ValueNo.{ValueNo}
use Rattle.ir_forms.specs.declared.types.Ty.{Ty}
use Rattle.ir_forms.specs.declared.types.Ty.TheVariants as ty
use Rattle.ir_verify.specs.Places.{Seen, defined}
use Rattle.ir_verify.specs.Scopes.{lookup}
use Rattle.low_forms.specs.Registers.{every}
use Rattle.low_forms.proofs.Words.{and_left, and_right}
use Rattle.coro_laws.specs.Half.{can_be_held}
use Rattle.made_funcs.specs.Captures.{numbers}
use Rattle.made_laws.specs.Laws.{Among}
use Rattle.mlir_print.specs.Printable.{NumberOn}
use Rattle.scf_blocks.specs.Tree.{types_in, typed}
use Rattle.sound_laws.proofs.Sight.{equal, lookup_append, not_equal, or_else}
use Rattle.typed_rows.specs.Typed.{AreTypes, Env, IsTyped, is_type, with_typed}
use Rattle.exec_outline.specs.Shape.{Typed, first_free, type_in}
use Rattle.outlined_types.specs.Operations.{AreShown}
use Rattle.outlined_types.specs.Ordered.{AreHeld, CountOn}
use Rattle.outlined_types.proofs.InScope.{among_back, among_front}

-- ---- numbers that count on

pub count_up : (a b : ℕ) (xs : Typed) → CountOn a b xs → a ≤ b
count_up a b [] is = (let e : a ≡ b = is in omega (arith, e))
count_up a b (x ∷ xs) is = (let more = count_up (a + 1) b xs is.1 in omega (arith, more))

-- a number below them is looked up behind them
pub past_them : (d : Typed) (env : Env) (a b n : ℕ) → CountOn a b d → n < a → lookup (with_typed d env) n ≡ lookup env n
past_them [] env a b n is lt = refl
past_them (x ∷ xs) env a b n is lt =
    past_them xs (x ∷ env) (a + 1) b n is.1 (omega (arith, lt)) ∙ ap (λ c. cond c (Some x.1) (lookup env n)) (not_equal x.0.0 n apart)
  where
    apart : x.0.0 ≡ n → ⊥
    apart e = (let f = is.0 in absurd (omega (arith, lt, e, f)))

-- one of them is looked up among them
pub among_them : (d : Typed) (env : Env) (a b n : ℕ) (t : Ty) → CountOn a b d → lookup d n ≡ Some t → lookup (with_typed d env) n ≡ Some t
among_them [] env a b n t is at = cc
among_them (x ∷ xs) env a b n t is at = by (x.0.0 == n) refl at (among_them xs (x ∷ env) (a + 1) b n t is.1)
  where
    by : (c : Bool) → (x.0.0 == n) ≡ c → cond c (Some x.1) (lookup xs n) ≡ Some t → (lookup xs n ≡ Some t → lookup (with_typed xs (x ∷ env)) n ≡ Some t) → lookup (with_typed xs (x ∷ env)) n ≡ Some t
    by true e here again =
        let same : x.0.0 ≡ n = equal x.0.0 n e in
        let f = is.0 in
        past_them xs (x ∷ env) (a + 1) b n is.1 (omega (arith, same, f)) ∙ ap (λ c. cond c (Some x.1) (lookup env n)) e ∙ here
    by false e here again = again here

-- results with their types
pub defined_typed : (vs : List ValueNo) (ts : List Ty) → typed vs ts ≡ defined vs ts
defined_typed [] ts = refl
defined_typed (v ∷ vs) [] = ap (λ (ps : Typed). (v, ty.Untyped) ∷ ps) (defined_typed vs [])
defined_typed (v ∷ vs) (t ∷ ts) = ap (λ (ps : Typed). (v, t) ∷ ps) (defined_typed vs ts)

pub count_defined : (a : ℕ) (vs : List ValueNo) (ts : List Ty) → NumberOn a vs → CountOn a (a + length vs) (defined vs ts)
count_defined a [] ts is = (let e : a ≡ a + 0 = omega arith in e)
count_defined a (v ∷ vs) [] is = (is.0, subst (λ b. CountOn (a + 1) b (defined vs [])) (let e : a + 1 + length vs ≡ a + suc (length vs) = omega arith in e) (count_defined (a + 1) vs [] is.2))
count_defined a (v ∷ vs) (t ∷ ts) is = (is.0, subst (λ b. CountOn (a + 1) b (defined vs ts)) (let e : a + 1 + length vs ≡ a + suc (length vs) = omega arith in e) (count_defined (a + 1) vs ts is.2))

-- ---- what is known of visible values

-- the value has this type among all, which the grammar has, and a number below the first free one and the next one
pub record IsKnown (values : Typed) (next n : ℕ) (t : Ty) : Type 0 where
  pub type : type_in values n ≡ t
  pub free : n < first_free values
  pub less : n < next
  pub is : is_type t ≡ true

abbrev pub Known : Typed → Seen → ℕ → Type 0
Known values seen next = (n : ℕ) (t : Ty) → lookup seen n ≡ Some t → IsKnown values next n t

one_known : (values d : Typed) (a b : ℕ) → CountOn a b d → AreHeld values d → AreTypes (types_in d) → (n : ℕ) (t : Ty) → lookup d n ≡ Some t → IsKnown values b n t
one_known values [] a b is held are n t at = cc
one_known values (x ∷ xs) a b is held are n t at =
    by (x.0.0 == n) refl at (one_known values xs (a + 1) b is.1 held.2 (and_right (is_type x.1) (every is_type (types_in xs)) are) n t)
  where
    by : (c : Bool) → (x.0.0 == n) ≡ c → cond c (Some x.1) (lookup xs n) ≡ Some t → (lookup xs n ≡ Some t → IsKnown values b n t) → IsKnown values b n t
    by true e here again =
        let same : x.0.0 ≡ n = equal x.0.0 n e in
        let type : x.1 ≡ t = cc in
        let up : a + 1 ≤ b = count_up (a + 1) b xs is.1 in
        let f = is.0 in
        record {
          type = subst (λ k. type_in values k ≡ t) same (held.0 ∙ type);
          free = subst (λ k. k < first_free values) same held.1;
          less = omega (arith, same, f, up);
          is = subst (λ u. is_type u ≡ true) type (and_left (is_type x.1) (every is_type (types_in xs)) are);
        }
    by false e here again = again here

pub known_later : (values : Typed) (seen : Seen) (a b : ℕ) → Known values seen a → a ≤ b → Known values seen b
known_later values seen a b known le n t at =
    let k : IsKnown values a n t = known n t at in
    let low = k.less in
    record { type = k.type; free = k.free; less = omega (arith, low, le); is = k.is }

pub known_on : (values : Typed) (seen d : Seen) (a b : ℕ) → Known values seen a → CountOn a b d → AreHeld values d → AreTypes (types_in d) → Known values (seen ++ d) b
known_on values seen d a b known is held are n t at = by (lookup seen n) refl (sym (lookup_append seen d n) ∙ at)
  where
    by : (o : Option Ty) → lookup seen n ≡ o → or_else o (lookup d n) ≡ Some t → IsKnown values b n t
    by (Some u) there e = known_later values seen a b known (count_up a b d is) n t (there ∙ e)
    by None there e = one_known values d a b is held are n t e

pub held_front : (values xs ys : Typed) → AreHeld values (xs ++ ys) → AreHeld values xs
held_front values [] ys h = tt
held_front values (x ∷ xs) ys h = (h.0, h.1, held_front values xs ys h.2)

pub held_rest : (values xs ys : Typed) → AreHeld values (xs ++ ys) → AreHeld values ys
held_rest values [] ys h = h
held_rest values (x ∷ xs) ys h = held_rest values xs ys h.2

-- ---- what is used here is visible as it is there

abbrev pub Shows : List ℕ → Seen → Env → Type 0
Shows uses seen env = (n : ℕ) → Among uses n → (t : Ty) → lookup seen n ≡ Some t → lookup env n ≡ Some t

pub shows_front : (us ws : List ℕ) (seen : Seen) (env : Env) → Shows (us ++ ws) seen env → Shows us seen env
shows_front us ws seen env s n among = s n (among_front us ws n among)

pub shows_rest : (us ws : List ℕ) (seen : Seen) (env : Env) → Shows (us ++ ws) seen env → Shows ws seen env
shows_rest us ws seen env s n among = s n (among_back us ws n among)

pub shows_behind : (values : Typed) (uses : List ℕ) (seen d : Seen) (env : Env) (a b : ℕ) → Known values seen a → CountOn a b d → Shows uses seen env → Shows uses (seen ++ d) (with_typed d env)
shows_behind values uses seen d env a b known is shows n among t at = by (lookup seen n) refl (sym (lookup_append seen d n) ∙ at)
  where
    by : (o : Option Ty) → lookup seen n ≡ o → or_else o (lookup d n) ≡ Some t → lookup (with_typed d env) n ≡ Some t
    by (Some u) there e = past_them d env a b n is (known n t (there ∙ e)).less ∙ shows n among t (there ∙ e)
    by None there e = among_them d env a b n t is e

pub are_shown : (seen : Seen) (env : Env) (vs : List ValueNo) → Shows (numbers vs) seen env → AreShown seen env vs
are_shown seen env [] shows = tt
are_shown seen env (v ∷ vs) shows = (λ t at. shows v.0 (inl refl) t at, are_shown seen env vs (λ n among t at. shows n (inr among) t at))

-- ---- the functions of tasks

-- these stand among all, from this place on
abbrev pub TasksIn : List Func → ℕ → List Func → Type 0
TasksIn all k [] = Unit {0}
TasksIn all k (f ∷ fs) = (slice_get all k ≡ Some f) × TasksIn all (k + 1) fs

pub tasks_front : (all xs ys : List Func) (k : ℕ) → TasksIn all k (xs ++ ys) → TasksIn all k xs
tasks_front all [] ys k is = tt
tasks_front all (x ∷ xs) ys k is = (is.0, tasks_front all xs ys (k + 1) is.1)

pub tasks_rest : (all xs ys : List Func) (k : ℕ) → TasksIn all k (xs ++ ys) → TasksIn all (k + length xs) ys
tasks_rest all [] ys k is = (let e : k ≡ k + 0 = omega arith in subst (λ n. TasksIn all n ys) e is)
tasks_rest all (x ∷ xs) ys k is = (let e : k + 1 + length xs ≡ k + suc (length xs) = omega arith in subst (λ n. TasksIn all n ys) e (tasks_rest all xs ys (k + 1) is.1))

tasks_there : (all fs : List Func) (k : ℕ) → ((i : ℕ) → slice_get all (k + i) ≡ slice_get fs i) → TasksIn all k fs
tasks_there all [] k at = tt
tasks_there all (f ∷ fs) k at =
    let here : k + 0 ≡ k = omega arith in (
      sym (ap (λ n. slice_get all n) here) ∙ at 0,
      tasks_there all fs (k + 1) (λ i. ap (λ n. slice_get all n) (let e : (k + 1) + i ≡ k + suc i = omega arith in e) ∙ at (suc i)),
    )

pub all_there : (fs : List Func) → TasksIn fs 0 fs
all_there fs = tasks_there fs fs 0 (λ i. ap (λ n. slice_get fs n) (let e : 0 + i ≡ i = omega arith in e))

-- a task's function is typed, and values hold what it gives
pub record IsTask (program : Module) (f : Func) : Type 0 where
  pub typed : IsTyped program f
  pub held : every can_be_held f.results ≡ true

abbrev pub AreTasks : Module → List Func → Type 0
AreTasks program [] = Unit {0}
AreTasks program (f ∷ fs) = IsTask program f × AreTasks program fs

pub tasks_both : (program : Module) (xs ys : List Func) → AreTasks program xs → AreTasks program ys → AreTasks program (xs ++ ys)
tasks_both program [] ys f g = g
tasks_both program (x ∷ xs) ys f g = (f.0, tasks_both program xs ys f.1 g)

pub tasks_of_front : (program : Module) (xs ys : List Func) → AreTasks program (xs ++ ys) → AreTasks program xs
tasks_of_front program [] ys h = tt
tasks_of_front program (x ∷ xs) ys h = (h.0, tasks_of_front program xs ys h.1)

pub task_at : (program : Module) (fs : List Func) (k : ℕ) (f : Func) → AreTasks program fs → slice_get fs k ≡ Some f → IsTask program f
task_at program [] k f are at = cc
task_at program (x ∷ fs) zero f are at = (let same : x ≡ f = cc in subst (λ g. IsTask program g) same are.0)
task_at program (x ∷ fs) (suc k) f are at = task_at program fs k f are.1 at
