-- The function of a task is typed where the operations of its region are.
use Rattle.std.proofs.Common.{◌≡◌, ◌⊎◌, inl, inr, ◌<◌, ◌≤◌, ℕ, zero, suc, ◌+◌, ◌==◌, ◌||◌, cond, true, false, List, [], ◌∷◌, ◌++◌, length, map, Some, None, refl, sym, ap, ◌∙◌, subst, arith, append_assoc}
use Rattle.std.proofs.lemmas.Bool.Decides.{eqb_tells}
use Rattle.op_table.specs.declared.kind.OpKind.TheVariants as op
use Rattle.ir_forms.specs.declared.ops.Attr.TheVariants as attr
use Rattle.ir_forms.specs.declared.ops.Module.{Module}
use Rattle.ir_forms.specs.declared.ops.Op.{Op, Op-F, out-Op, out-roll-Op}
use Rattle.ir_forms.specs.declared.ops.Region.{Region, Region-F, out-roll-Region}
use Rattle.ir_forms.specs.declared.types.Ty.{Ty}
use Rattle.ir_forms.specs.declared.types.Ty.TheVariants as ty
use Rattle.ir_forms.specs.declared.types.ValTy.TheVariants as val
use Rattle.ir_forms.specs.Ops.{ops_of, written_of}
use Rattle.ir_verify.specs.Scopes.{lookup}
use Rattle.ir_verify.specs.Types.{holds, is_awaitable, is_group, is_value}
use Rattle.low_forms.specs.Registers.{every}
use Rattle.low_forms.proofs.Words.{and_left, and_right}
use Rattle.mlir_print.specs.Printable.{payload}
use Rattle.scf_blocks.specs.Tree.{Ops, Var, awaits, nested_of, op_before, params_of, parts_of, role_of, tree, typed, types_in}
use Rattle.scf_blocks.proofs.Trees.{before_is}
use Rattle.typed_rows.specs.Typed.{Env, IsCode, TypedOps, with_typed}
use Rattle.exec_outline.specs.Shape.{Typed, await, awaits_each, awaits_for, dependency_count, first_free, numbered, task, tokens, typed_in}
use Rattle.plain_rows.proofs.Same.{width_self, memref_self}
use Rattle.outlined_types.specs.Tasks.{Below, TasksTyped, results_of_task}

-- ---- values by their numbers

-- these have numbers from a on and below b
abbrev Within : ℕ → ℕ → Typed → Type 0
Within a b [] = Unit {0}
Within a b (p ∷ ps) = (a ≤ p.0.0) × (p.0.0 < b) × Within a b ps

-- each is visible with its type
abbrev Have : Env → Typed → Type 0
Have env [] = Unit {0}
Have env (p ∷ ps) = (lookup env p.0.0 ≡ Some p.1) × Have env ps

below_within : (n : ℕ) (ps : Typed) → Below n ps → Within 0 n ps
below_within n [] is = tt
below_within n (p ∷ ps) is = (omega arith, is.0, below_within n ps is.1)

wider : (a b c : ℕ) (ps : Typed) → c ≤ a → Within a b ps → Within c b ps
wider a b c [] le is = tt
wider a b c (p ∷ ps) le is = ((let l = is.0 in omega (arith, le, l)), is.1, wider a b c ps le is.2)

numbered_within : (n : ℕ) (ts : List Ty) → Within n (n + length ts) (numbered n ts)
numbered_within n [] = tt
numbered_within n (t ∷ ts) =
    let e : (n + 1) + length ts ≡ n + suc (length ts) = omega arith in
    (omega arith, omega arith, wider (n + 1) (n + suc (length ts)) n (numbered (n + 1) ts) (omega arith) (subst (λ b. Within (n + 1) b (numbered (n + 1) ts)) e (numbered_within (n + 1) ts)))

pub differs : (a b : ℕ) → (a ≡ b → ⊥) → (a == b) ≡ false
differs a b apart = elim (eqb_tells a b) [ inl h ↦ absurd (apart h.1) | inr h ↦ h.0 ]

pub itself : (a : ℕ) → (a == a) ≡ true
itself a = elim (eqb_tells a a) [ inl h ↦ h.0 | inr h ↦ absurd (h.1 refl) ]

-- a number outside is looked up behind them
past : (v a b : ℕ) (ys : Typed) (env : Env) → Within a b ys → (v < a) ⊎ (b ≤ v) → lookup (with_typed ys env) v ≡ lookup env v
past v a b [] env is out = refl
past v a b (y ∷ ys) env is out =
    past v a b ys (y ∷ env) is.2 out ∙ ap (λ c. cond c (Some y.1) (lookup env v)) (differs y.0.0 v (apart out))
  where
    apart : (v < a) ⊎ (b ≤ v) → y.0.0 ≡ v → ⊥
    apart (inl lt) e = (let l = is.0 in absurd (omega (arith, lt, l, e)))
    apart (inr le) e = (let l = is.1 in absurd (omega (arith, le, l, e)))

have_past : (xs ys : Typed) (a b c d : ℕ) (env : Env) → Within a b xs → Within c d ys → (b ≤ c) ⊎ (d ≤ a) → Have env xs → Have (with_typed ys env) xs
have_past [] ys a b c d env is are out have = tt
have_past (x ∷ xs) ys a b c d env is are out have =
    (past x.0.0 c d ys env are (outside out) ∙ have.0, have_past xs ys a b c d env is.2 are out have.1)
  where
    outside : (b ≤ c) ⊎ (d ≤ a) → (x.0.0 < c) ⊎ (d ≤ x.0.0)
    outside (inl le) = inl (let l = is.1 in omega (arith, le, l))
    outside (inr le) = inr (let l = is.0 in omega (arith, le, l))

numbered_have : (n : ℕ) (ts : List Ty) (env : Env) → Have (with_typed (numbered n ts) env) (numbered n ts)
numbered_have n [] env = tt
numbered_have n (t ∷ ts) env =
    let e : Var = (record { 0 = n }, t) in (
      past n (n + 1) ((n + 1) + length ts) (numbered (n + 1) ts) (e ∷ env) (numbered_within (n + 1) ts) (inl (omega arith)) ∙ ap (λ c. cond c (Some t) (lookup env n)) (itself n),
      numbered_have (n + 1) ts (e ∷ env),
    )

pub with_both : (xs ys : Typed) (env : Env) → with_typed (xs ++ ys) env ≡ with_typed ys (with_typed xs env)
with_both [] ys env = refl
with_both (x ∷ xs) ys env = with_both xs ys (x ∷ env)

tokens_length : (n : ℕ) → length (tokens n) ≡ n
tokens_length zero = refl
tokens_length (suc n) = ap suc (tokens_length n)

-- ---- awaits

await_tree : (at : ℕ) (p : Var) (rs : Typed) (ops : List Op) → tree (await at p rs ∷ ops) ≡ op_before (role_of op.AsyncAwait) (record { at = at; operands = p.0 ∷ []; results = typed (map (λ r. r.0) rs) (map (λ r. r.1) rs); attr = attr.None }) [] (tree ops)
await_tree at p rs ops = before_is (await at p rs) (tree ops) ∙ ap (λ (x : Op-F Op Region). op_before (role_of x.kind) (parts_of x) (map nested_of x.regions) (tree ops)) (out-roll-Op _)

held_payload : (w : Ty) → is_value w ≡ true → holds w (payload w) ≡ true
held_payload (ty.Value (val.Int w)) is = width_self w
held_payload (ty.Value val.Index) is = refl
held_payload (ty.Value (val.Memref m)) is = memref_self m
held_payload w is = cc

awaitable : (w : Ty) → is_value w ≡ true → (is_awaitable w || is_group w) ≡ true
awaitable (ty.Value v) is = refl
awaitable w is = cc

module _ (program : Module) (given : List Ty) (at : ℕ) (code : IsCode at) (ts : List Ty) where
  abbrev Typed_as : Ops → Env → Type 0
  Typed_as ops env = TypedOps program given ops env ts

  each_typed : (c n : ℕ) (ops : List Op) (env : Env) → Have env (numbered n (tokens c)) → Typed_as (tree ops) env → Typed_as (tree (awaits_each at (numbered n (tokens c)) ++ ops)) env
  each_typed zero n ops env have is = is
  each_typed (suc c) n ops env have is =
      subst (λ (x : Ops). Typed_as x env) (sym (await_tree at (record { 0 = n }, ty.Token) [] (awaits_each at (numbered (n + 1) (tokens c)) ++ ops)))
      ((ty.Token, have.0, refl, refl), code, each_typed c (n + 1) ops env have.1 is)

  values_typed : (ws : List Ty) (n f : ℕ) (qs : Typed) (ops : List Op) (env : Env) → f ≤ n → every is_value ws ≡ true → types_in qs ≡ map payload ws → Below f qs → Have env (numbered n ws)
      → Typed_as (tree ops) (with_typed qs env) → Typed_as (tree (awaits_for at (numbered n ws) qs ++ ops)) env
  values_typed [] n f [] ops env le are same below have is = is
  values_typed [] n f (q ∷ qs) ops env le are same below have is = cc
  values_typed (w ∷ ws) n f [] ops env le are same below have is = cc
  values_typed (w ∷ ws) n f (q ∷ qs) ops env le are same below have is =
      let here : q.1 ≡ payload w = cc in
      let rest : types_in qs ≡ map payload ws = cc in
      let value : is_value w ≡ true = and_left (is_value w) (every is_value ws) are in
      let l = below.0 in
      let one : Within 0 f (q ∷ []) = (omega arith, l, tt) in
      let more : Have (q ∷ env) (numbered (n + 1) ws) = have_past (numbered (n + 1) ws) (q ∷ []) (n + 1) ((n + 1) + length ws) 0 f env (numbered_within (n + 1) ws) one (inr (omega (arith, le))) have.1 in
      subst (λ (x : Ops). Typed_as x env) (sym (await_tree at (record { 0 = n }, w) (q ∷ []) (awaits_for at (numbered (n + 1) ws) qs ++ ops))) (
        (w, have.0, awaitable w value, ap (λ u. holds w u) here ∙ held_payload w value),
        code,
        values_typed ws (n + 1) f qs ops (q ∷ env) (omega (arith, le)) (and_right (is_value w) (every is_value ws) are) rest below.1 more is,
      )

-- ---- the task

pub tasks_typed : TasksTyped
tasks_typed program values o name captured body r =
    let f : ℕ = first_free values in
    let c : ℕ = dependency_count (out-Op o).groups in
    let deps : Typed = numbered f (tokens c) in
    let vals : Typed = numbered (f + c) (written_of o) in
    let caught : Typed = typed_in values captured in
    let ts : List Ty = results_of_task o in
    let e1 : Env = with_typed deps [] in
    let e2 : Env = with_typed vals e1 in
    let e3 : Env = with_typed caught e2 in
    let env : Env = with_typed ((deps ++ vals) ++ caught) [] in
    let same : env ≡ e3 = with_both (deps ++ vals) caught [] ∙ ap (λ e. with_typed caught e) (with_both deps vals []) in
    let deps_in : Within f (f + c) deps = subst (λ k. Within f (f + k) deps) (tokens_length c) (numbered_within f (tokens c)) in
    let vals_in : Within (f + c) ((f + c) + length (written_of o)) vals = numbered_within (f + c) (written_of o) in
    let caught_in : Within 0 f caught = below_within f caught r.captures in
    let deps2 : Have e2 deps = have_past deps vals f (f + c) (f + c) ((f + c) + length (written_of o)) e1 deps_in vals_in (inl (omega arith)) (numbered_have f (tokens c) []) in
    let deps3 : Have e3 deps = have_past deps caught f (f + c) 0 f e2 deps_in caught_in (inr (omega arith)) deps2 in
    let vals3 : Have e3 vals = have_past vals caught (f + c) ((f + c) + length (written_of o)) 0 f e2 vals_in caught_in (inr (omega arith)) (numbered_have (f + c) (written_of o) e1) in
    let own : TypedOps program ts (tree (ops_of body)) (with_typed (params_of body) e3) ts = subst (λ (e : Env). TypedOps program ts (tree (ops_of body)) (with_typed (params_of body) e) ts) same r.ops in
    let at : ℕ = (out-Op o).at in
    let second = values_typed program ts at r.code ts (written_of o) (f + c) f (params_of body) (ops_of body) e3 (omega arith) r.are_values r.params r.own vals3 own in
    let first = each_typed program ts at r.code ts c f (awaits_for at vals (params_of body) ++ ops_of body) e3 deps3 second in
    let joined : TypedOps program ts (tree ((awaits_each at deps ++ awaits_for at vals (params_of body)) ++ ops_of body)) e3 ts =
    subst (λ (ops : List Op). TypedOps program ts (tree ops) e3 ts) (sym (append_assoc (awaits_each at deps) (awaits_for at vals (params_of body)) (ops_of body))) first in
    let there : TypedOps program ts (tree ((awaits_each at deps ++ awaits_for at vals (params_of body)) ++ ops_of body)) env ts =
    subst (λ (e : Env). TypedOps program ts (tree ((awaits_each at deps ++ awaits_for at vals (params_of body)) ++ ops_of body)) e ts) (sym same) joined in
    record {
      ops = subst (λ (x : Region-F Op Region). TypedOps program ts (tree x.ops) env ts) (sym (out-roll-Region _)) there;
      results = r.results;
    }
