-- What is owed behind an operation, by its role.
use Rattle.std.proofs.Common.{◌≡◌, ℕ, ◌+◌, ◌-◌, Some, true, false, List, [], ◌∷◌, map, drop, slice_get, length, refl, ap, ap₂, sym, ◌∙◌, subst, arith}
use Rattle.std.proofs.lemmas.Bool.{true≢false}
use Rattle.ir_forms.specs.declared.ops.Func.{Func}
use Rattle.ir_forms.specs.declared.ops.Op.{Op, out-Op}
use Rattle.ir_forms.specs.declared.ops.ValueNo.{ValueNo}
use Rattle.ir_forms.specs.Ops.{kind_of, operands_of, results_of, attr_of, regions_of}
use Rattle.ir_forms.specs.declared.types.Ty.{Ty}
use Rattle.scf_blocks.specs.declared.body.Body.{Body}
use Rattle.scf_blocks.specs.declared.body.Close.{Close}
use Rattle.scf_blocks.specs.declared.role.Role.{Role}
use Rattle.scf_blocks.specs.declared.role.Role.TheVariants as role
use Rattle.scf_blocks.specs.Tree.{Var, values_of, typed, Ops, branches, counts, cycles, nested_at, op_before, role_of, ends_region, tree_before, nested_of, tree, params_at, tree_at}
use Rattle.scf_blocks.specs.Code.{Scope, blocks_of, with_values, with_vars}
use Rattle.scf_blocks.specs.Bodies.{finished, by_role, ends, own_blocks, results_in, operand_of, Extends, Behind, Ends}
use Rattle.scf_blocks.proofs.Trees.{before_is, parts_in, params_nested, ops_nested, tree_next}
use Rattle.scf_blocks.proofs.Scopes.{extends_none, extends_values, extends_on, forgotten}
use Rattle.scf_blocks.proofs.Laws.{kept, plain_law, assertion_law, choice_law, counted_law, cycle_law, call_law, tried_law, await_law}

-- typed results are as many values
values_typed : (op : Op) → values_of (results_in op) ≡ results_of op
values_typed op = by (results_of op) (out-Op op).types
  where
    by : (xs : List ValueNo) (ts : List Ty) → values_of (typed xs ts) ≡ xs
    by [] ts = refl
    by (x ∷ xs) [] = ap (λ l. x ∷ l) (by xs [])
    by (x ∷ xs) (t ∷ ts) = ap (λ l. x ∷ l) (by xs ts)

-- ---- operations that end their region

ends_by_role : (r : Role) (op : Op) (rest : Ops) → ends r ≡ true → op_before r (parts_in op) (map nested_of (regions_of op)) rest ≡ ends_region r (operands_of op)
ends_by_role role.End op rest e = refl
ends_by_role role.Condition op rest e = refl
ends_by_role (role.Plain kind) op rest e = absurd (true≢false (sym e))
ends_by_role role.Assertion op rest e = absurd (true≢false (sym e))
ends_by_role role.Choice op rest e = absurd (true≢false (sym e))
ends_by_role role.Counted op rest e = absurd (true≢false (sym e))
ends_by_role role.Tested op rest e = absurd (true≢false (sym e))
ends_by_role role.Call op rest e = absurd (true≢false (sym e))
ends_by_role role.TriedCall op rest e = absurd (true≢false (sym e))
ends_by_role role.Await op rest e = absurd (true≢false (sym e))
ends_by_role role.Nothing op rest e = absurd (true≢false (sym e))

pub op_ends : (op : Op) → ends (role_of (kind_of op)) ≡ true → Ends op
op_ends op e rest = before_is op rest ∙ ends_by_role (role_of (kind_of op)) op rest e

-- ---- the others

abbrev forget : Scope → Scope → Scope
forget scope inner = drop (length inner - length scope) inner

cycle_scope : (scope : Scope) (params passed rs : List Var) (n m k : ℕ) → Extends scope (with_vars rs k (forget scope (with_vars passed m (forget scope (with_vars params n scope)))))
cycle_scope scope params passed rs n m k =
    subst (λ (s : Scope). Extends scope (with_vars rs k (forget scope (with_vars passed m s)))) (sym (kept scope params n))
    (subst (λ (s : Scope). Extends scope (with_vars rs k s)) (sym (kept scope passed m)) (extends_values (values_of rs) k scope))

module _ (funcs : List Func) where
  law_by : (r : Role) (op : Op) (w : Body) (end : Close) (outer : Scope) (rest : Ops) → ends r ≡ false →
      finished funcs (by_role funcs r op w) outer end rest ≡ finished funcs w outer end (op_before r (parts_in op) (map nested_of (regions_of op)) rest)
  law_by (role.Plain kind) op w end outer rest e = plain_law funcs kind (attr_of op) (operands_of op) (results_in op) w end outer rest
  law_by role.Assertion op w end outer rest e = assertion_law funcs (out-Op op).at (operand_of op 0) w end outer rest
  law_by role.Choice op w end outer rest e =
      choice_law funcs (operand_of op 0) (tree_at (regions_of op) 0) (tree_at (regions_of op) 1) (results_in op) w end outer rest
      ∙ ap₂ (λ (x y : Ops). finished funcs w outer end (branches (operand_of op 0) x y (results_in op) rest)) (sym (ops_nested (regions_of op) 0)) (sym (ops_nested (regions_of op) 1))
  law_by role.Counted op w end outer rest e =
      counted_law funcs (operand_of op 0) (operand_of op 1) (operand_of op 2) (drop 3 (operands_of op)) (params_at (regions_of op) 0) (tree_at (regions_of op) 0) (results_of op) w end outer rest
      ∙ ap₂ (λ (ps : List Var) (x : Ops). finished funcs w outer end (counts (operand_of op 0) (operand_of op 1) (operand_of op 2) (drop 3 (operands_of op)) ps x (results_of op) rest)) (sym (params_nested (regions_of op) 0)) (sym (ops_nested (regions_of op) 0))
      ∙ ap (λ (rs : List ValueNo). finished funcs w outer end (counts (operand_of op 0) (operand_of op 1) (operand_of op 2) (drop 3 (operands_of op)) (nested_at (map nested_of (regions_of op)) 0).params (nested_at (map nested_of (regions_of op)) 0).ops rs rest)) (sym (values_typed op))
  law_by role.Tested op w end outer rest e =
      cycle_law funcs (operands_of op) (params_at (regions_of op) 0) (tree_at (regions_of op) 0) (params_at (regions_of op) 1) (tree_at (regions_of op) 1) (results_in op) w end outer rest
      ∙ ap₂ (λ (ps : List Var) (x : Ops). finished funcs w outer end (cycles (operands_of op) ps x (params_at (regions_of op) 1) (tree_at (regions_of op) 1) (results_in op) rest)) (sym (params_nested (regions_of op) 0)) (sym (ops_nested (regions_of op) 0))
      ∙ ap₂ (λ (ps : List Var) (x : Ops). finished funcs w outer end (cycles (operands_of op) (nested_at (map nested_of (regions_of op)) 0).params (nested_at (map nested_of (regions_of op)) 0).ops ps x (results_in op) rest)) (sym (params_nested (regions_of op) 1)) (sym (ops_nested (regions_of op) 1))
  law_by role.Call op w end outer rest e = call_law funcs (attr_of op) (operands_of op) (results_in op) w end outer rest
  law_by role.TriedCall op w end outer rest e = tried_law funcs (attr_of op) (operands_of op) (results_in op) w end outer rest
  law_by role.Await op w end outer rest e = await_law funcs (out-Op op).at (operand_of op 0) (results_in op) w end outer rest
  law_by role.End op w end outer rest e = absurd (true≢false e)
  law_by role.Condition op w end outer rest e = absurd (true≢false e)
  law_by role.Nothing op w end outer rest e = refl

  scope_by : (r : Role) (op : Op) (w : Body) → Extends w.scope (by_role funcs r op w).scope
  scope_by (role.Plain kind) op w = extends_values (values_of (results_in op)) (length w.types) w.scope
  scope_by role.Assertion op w = extends_none w.scope
  scope_by role.Choice op w = extends_values (values_of (results_in op)) _ w.scope
  scope_by role.Counted op w =
      subst (λ (s : Scope). Extends w.scope (with_values (results_of op) (length w.types + 1) s)) (sym (kept w.scope (params_at (regions_of op) 0) (length w.types)))
      (extends_values (results_of op) (length w.types + 1) w.scope)
  scope_by role.Tested op w = cycle_scope w.scope (params_at (regions_of op) 0) (params_at (regions_of op) 1) (results_in op) (length w.types) _ _
  scope_by role.Call op w = extends_values (values_of (results_in op)) _ w.scope
  scope_by role.TriedCall op w = extends_values (values_of (results_in op)) _ w.scope
  scope_by role.Await op w = extends_values (values_of (results_in op)) _ w.scope
  scope_by role.End op w = extends_none w.scope
  scope_by role.Condition op w = extends_none w.scope
  scope_by role.Nothing op w = extends_none w.scope

  pub behind_op : (op : Op) (w : Body) → ends (role_of (kind_of op)) ≡ false → Behind funcs w (by_role funcs (role_of (kind_of op)) op w) (tree_before op)
  behind_op op w e = record {
    whole = λ end outer rest. law_by (role_of (kind_of op)) op w end outer rest e ∙ ap (finished funcs w outer end) (sym (before_is op rest));
    scope = scope_by (role_of (kind_of op)) op w;
  }

  -- a region is written so far, and this is left
  pub record Left (old new : Body) (ops left : Ops) : Type 0 where
    pub whole : (end : Close) (outer : Scope) → finished funcs new outer end left ≡ finished funcs old outer end ops
    pub scope : Extends old.scope new.scope

  pub left_all : (w : Body) (ops : Ops) → Left w w ops ops
  left_all w ops = record { whole = λ end outer. refl; scope = extends_none w.scope }

  pub left_next : (old mid new : Body) (op : Op) (ops left more : Ops) → Left old mid ops left → left ≡ tree_before op more → ends (role_of (kind_of op)) ≡ false → new ≡ by_role funcs (role_of (kind_of op)) op mid → Left old new ops more
  left_next old mid new op ops left more rest is e same =
      let behind : Behind funcs mid new (tree_before op) = subst (λ v. Behind funcs mid v (tree_before op)) (sym same) (behind_op op mid e) in
      record {
        whole = λ end outer. behind.whole end outer more ∙ ap (finished funcs mid outer end) (sym is) ∙ rest.whole end outer;
        scope = extends_on old.scope mid.scope new.scope rest.scope behind.scope;
      }

-- ---- the blocks of an operation

own_by : (r : Role) (op : Op) (rest : Ops) → ends r ≡ false → blocks_of (op_before r (parts_in op) (map nested_of (regions_of op)) rest) ≡ own_blocks r (blocks_of (tree_at (regions_of op) 0)) (blocks_of (tree_at (regions_of op) 1)) + blocks_of rest
own_by (role.Plain kind) op rest e = omega arith
own_by role.Assertion op rest e = refl
own_by role.Choice op rest e = let h = ap blocks_of (ops_nested (regions_of op) 0) in let k = ap blocks_of (ops_nested (regions_of op) 1) in omega (arith, h, k)
own_by role.Counted op rest e = let h = ap blocks_of (ops_nested (regions_of op) 0) in omega (arith, h)
own_by role.Tested op rest e = let h = ap blocks_of (ops_nested (regions_of op) 0) in let k = ap blocks_of (ops_nested (regions_of op) 1) in omega (arith, h, k)
own_by role.Call op rest e = refl
own_by role.TriedCall op rest e = refl
own_by role.Await op rest e = refl
own_by role.End op rest e = absurd (true≢false e)
own_by role.Condition op rest e = absurd (true≢false e)
own_by role.Nothing op rest e = omega arith

pub own_op : (op : Op) (rest : Ops) → ends (role_of (kind_of op)) ≡ false → blocks_of (tree_before op rest) ≡ own_blocks (role_of (kind_of op)) (blocks_of (tree_at (regions_of op) 0)) (blocks_of (tree_at (regions_of op) 1)) + blocks_of rest
own_op op rest e = ap blocks_of (before_is op rest) ∙ own_by (role_of (kind_of op)) op rest e

pub none_op : (op : Op) (rest : Ops) → ends (role_of (kind_of op)) ≡ true → blocks_of (tree_before op rest) ≡ 0
none_op op rest e = ap blocks_of (op_ends op e rest) ∙ none (role_of (kind_of op)) (operands_of op)
  where
    none : (r : Role) (vs : List ValueNo) → blocks_of (ends_region r vs) ≡ 0
    none (role.Plain kind) vs = refl
    none role.Assertion vs = refl
    none role.Choice vs = refl
    none role.Counted vs = refl
    none role.Tested vs = refl
    none role.Call vs = refl
    none role.TriedCall vs = refl
    none role.Await vs = refl
    none role.End vs = refl
    none role.Condition vs = refl
    none role.Nothing vs = refl

-- ---- a region that is written

pub region_done : (funcs : List Func) (old mid last : Body) (ops left rest : Ops) (end : Close) (scope : Scope) (depth : ℕ) → Left funcs old mid ops left → left ≡ rest → last ≡ finished funcs mid mid.scope end rest
    → depth ≡ length old.scope → scope ≡ drop (length last.scope - depth) last.scope → record last { scope = scope } ≡ finished funcs old old.scope end ops
region_done funcs old mid last ops left rest end scope depth h is e d s =
    ap (λ (x : Scope). let u : Body = record last { scope = x } in u) (s ∙ ap (λ k. drop (length last.scope - k) last.scope) d)
    ∙ ap (λ (v : Body). let u : Body = record v { scope = drop (length v.scope - length old.scope) v.scope } in u) e
    ∙ ap (λ (x : Scope). finished funcs mid x end rest) (forgotten old.scope mid.scope h.scope)
    ∙ ap (finished funcs mid old.scope end) (sym is) ∙ h.whole end old.scope

-- the operation at a place ends the region
pub ends_here : (ops : List Op) (k : ℕ) (op : Op) → slice_get ops k ≡ Some op → ends (role_of (kind_of op)) ≡ true → tree (drop k ops) ≡ ends_region (role_of (kind_of op)) (operands_of op)
ends_here ops k op e is = tree_next ops k op e ∙ op_ends op is (tree (drop (k + 1) ops))

-- ---- counts

pub count_end : (ops : List Op) (k : ℕ) (op : Op) (n : ℕ) → slice_get ops k ≡ Some op → ends (role_of (kind_of op)) ≡ true → n + blocks_of (tree (drop k ops)) ≡ blocks_of (tree ops) → n ≡ blocks_of (tree ops)
count_end ops k op n e is h =
    let z : blocks_of (tree (drop k ops)) ≡ 0 = ap blocks_of (tree_next ops k op e) ∙ none_op op (tree (drop (k + 1) ops)) is in
    omega (arith, h, z)

pub count_next : (ops : List Op) (k : ℕ) (op : Op) (n own sum : ℕ) → slice_get ops k ≡ Some op → ends (role_of (kind_of op)) ≡ false
    → own ≡ own_blocks (role_of (kind_of op)) (blocks_of (tree_at (regions_of op) 0)) (blocks_of (tree_at (regions_of op) 1)) → sum ≡ n + own
    → n + blocks_of (tree (drop k ops)) ≡ blocks_of (tree ops) → sum + blocks_of (tree (drop (k + 1) ops)) ≡ blocks_of (tree ops)
count_next ops k op n own sum e is o s h =
    let z : blocks_of (tree (drop k ops)) ≡ own + blocks_of (tree (drop (k + 1) ops)) =
    ap blocks_of (tree_next ops k op e) ∙ own_op op (tree (drop (k + 1) ops)) is ∙ ap (λ x. x + blocks_of (tree (drop (k + 1) ops))) (sym o) in
    omega (arith, h, z, s)
