-- Operations that stand in blocks are laid out there.
use Rattle.std.proofs.Common.{◌≡◌, ◌≤◌, ℕ, ◌+◌, Bool, true, false, List, [], ◌∷◌, map, drop, length, slice_get, refl, sym, ap, subst, ◌∙◌, arith}
use Rattle.op_table.specs.declared.kind.OpKind.{OpKind}
use Rattle.ir_forms.specs.declared.ops.Func.{Func}
use Rattle.ir_forms.specs.declared.ops.Op.{Op, out-Op}
use Rattle.ir_forms.specs.declared.ops.ValueNo.{ValueNo}
use Rattle.ir_forms.specs.Ops.{regions_of}
use Rattle.low_forms.specs.declared.code.Instr.{Instr}
use Rattle.low_forms.specs.declared.code.LowAttr.{LowAttr}
use Rattle.low_forms.specs.declared.code.LowFunc.{LowFunc}
use Rattle.low_forms.specs.declared.code.LowModule.{LowModule}
use Rattle.low_forms.specs.declared.code.LowKind.TheVariants.{Row}
use Rattle.low_forms.specs.Registers.{type_at}
use Rattle.source_meaning.specs.Parts.{Node, region_of, ops_in, params_in, width_of, dims_of}
use Rattle.source_meaning.specs.Tasks.{Program}
use Rattle.task_stack.specs.declared.effects.Number as one
use Rattle.scf_blocks.specs.declared.body.Close.{Close}
use Rattle.scf_blocks.specs.declared.body.Close.TheVariants.{Joins, Repeats, Decides}
use Rattle.scf_blocks.specs.declared.role.Role.{Role}
use Rattle.scf_blocks.specs.declared.role.Role.TheVariants as role
use Rattle.scf_blocks.specs.Tree.{Var, values_of, types_in, typed, Ops, branches, counts, cycles, awaits, Nested, role_of, op_before, nested_at, nested_of, tree}
use Rattle.scf_blocks.specs.Code.{Scope, reg_no, block_no, operand, reg, regs, regs_from, with_values, with_vars, instr, cond_br, call, await, decide, low_attr, blocks_of, regs_of, failures_of}
use Rattle.scf_blocks.proofs.Counts.{length_types}
use Rattle.scf_blocks.proofs.Trees.{before_is, parts_in, ops_nested}
use Rattle.block_carry.specs.Rows.{AreNew, AreBefore, IsComputing, Computes, ReadsWidth, Asks, IsLike, alloc, dealloc, load, store, create_group, add_to_group}
use Rattle.block_carry.specs.Laid as laid
use Rattle.block_carry.specs.Laid.{Opens, Closes, IsLaid}
use Rattle.block_carry.proofs.Values.{before_more, before_values}
use Rattle.laid_blocks.specs.Placed.{Has, Takes, HaveTypes, EndsBy, IsPlaced}
use Rattle.laid_ops.specs.Suited as suited
use Rattle.laid_ops.specs.Suited.{Gives, results_in, region_params, with_known, AreSeen, AreFresh, AsksWell, first_type, IsSuited}
use Rattle.laid_ops.specs.Laws.{AreTyped, is_decision, SuitedIsLaid}
use Rattle.laid_ops.proofs.Scopes.{visible, new, typed_more, operand_type, result_type, values_typed, length_typed, from_typed, from_values, length_values, same_length}
use Rattle.laid_ops.proofs.Leaves.{literal_same, compare_same, computing_role, asking_role, named_so, region_tree, region_nested, region_names, fails_at, passes_on, gives_bit, closes, closes_test}

module _ (p : Program) (code : LowModule) (place : ℕ) (funcs : List Func) (f : LowFunc) where
  -- ---- an operation by its role

  turned : (o : Op) (rest : List Op) (r : Role) (b i n j m : ℕ) (scope : Scope) (end : Close) → role_of (out-Op o).kind ≡ r → IsPlaced f funcs (tree (o ∷ rest)) b i n j m scope end →
      IsPlaced f funcs (op_before r (parts_in o) (map nested_of (regions_of o)) (tree rest)) b i n j m scope end
  turned o rest r b i n j m scope end e h =
      subst (λ (q : Role). IsPlaced f funcs (op_before q (parts_in o) (map nested_of (regions_of o)) (tree rest)) b i n j m scope end) e
      (subst (λ (t : Ops). IsPlaced f funcs t b i n j m scope end) (before_is o (tree rest)) h)

  -- what stands behind results that have types, with their names alone
  behind : (t : Ops) (o : Node) (b i l j m : ℕ) (scope : Scope) (end : Close) → IsPlaced f funcs t b i (l + length (results_in o)) j m (with_vars (results_in o) l scope) end →
      IsPlaced f funcs t b i (l + length o.results) j m (with_values o.results l scope) end
  behind t o b i l j m scope end h =
      subst (λ (q : ℕ). IsPlaced f funcs t b i (l + q) j m (with_values o.results l scope) end) (length_typed o.results o.types)
      (subst (λ (xs : List ValueNo). IsPlaced f funcs t b i (l + length (results_in o)) j m (with_values xs l scope) end) (values_typed o.results o.types) h)

  new_results : (o : Node) (scope : Scope) (vars : List Var) (n : ℕ) → AreTyped f scope vars → HaveTypes f n (types_in (results_in o)) → Gives vars o → AreNew scope n o.results
  new_results o scope vars n h types g = subst (AreNew scope n) (values_typed o.results o.types) (new f scope vars (results_in o) n h types g.fresh)

  typed_results : (o : Node) (scope : Scope) (vars : List Var) (n : ℕ) → AreTyped f scope vars → HaveTypes f n (types_in (results_in o)) → AreTyped f (with_values o.results n scope) (with_known (results_in o) vars)
  typed_results o scope vars n h types =
      subst (λ (xs : List ValueNo). AreTyped f (with_values xs n scope) (with_known (results_in o) vars)) (values_typed o.results o.types) (typed_more f scope vars (results_in o) n h types)

  -- a block that takes an operation's results
  opens_results : (o : Node) (b n l : ℕ) (scope : Scope) (vars : List Var) → n ≤ l → AreBefore scope n → AreTyped f scope vars → HaveTypes f l (types_in (results_in o)) → Gives vars o →
      Takes f b (regs_from l (results_in o)) → Opens f b l o.results scope
  opens_results o b n l scope vars le bef h types g takes = record {
    params = takes ∙ from_typed o.results o.types l;
    before = before_more scope n l le bef;
    new = new_results o scope vars l h types g;
  }

  opens_none : (b n l : ℕ) (scope : Scope) → n ≤ l → AreBefore scope n → Takes f b [] → Opens f b l [] scope
  opens_none b n l scope le bef takes = record { params = takes; before = before_more scope n l le bef; new = tt }

  -- ---- parameters of regions

  opens_vars : (xs : List Var) (b n l : ℕ) (scope : Scope) (vars : List Var) → n ≤ l → AreBefore scope n → AreTyped f scope vars → HaveTypes f l (types_in xs) → AreFresh vars xs →
      Takes f b (regs_from l xs) → Opens f b l (values_of xs) scope
  opens_vars xs b n l scope vars le bef h types fresh takes = record {
    params = takes ∙ from_values xs l;
    before = before_more scope n l le bef;
    new = new f scope vars xs l h types fresh;
  }

  opens_named : (xs : List Var) (ys : List ValueNo) → values_of xs ≡ ys → (b n l : ℕ) (scope : Scope) (vars : List Var) → n ≤ l → AreBefore scope n → AreTyped f scope vars → HaveTypes f l (types_in xs) →
      AreFresh vars xs → Takes f b (regs_from l xs) → Opens f b l ys scope
  opens_named xs ys e b n l scope vars le bef h types fresh takes = subst (λ (zs : List ValueNo). Opens f b l zs scope) e (opens_vars xs b n l scope vars le bef h types fresh takes)

  typed_named : (xs : List Var) (ys : List ValueNo) → values_of xs ≡ ys → (l : ℕ) (scope : Scope) (vars : List Var) → AreTyped f scope vars → HaveTypes f l (types_in xs) → AreTyped f (with_values ys l scope) (with_known xs vars)
  typed_named xs ys e l scope vars h types = subst (λ (zs : List ValueNo). AreTyped f (with_values zs l scope) (with_known xs vars)) e (typed_more f scope vars xs l h types)

  placed_named : (xs : List Var) (ys : List ValueNo) → values_of xs ≡ ys → (t : Ops) (b i l j m : ℕ) (scope : Scope) (end : Close) → IsPlaced f funcs t b i (l + length xs) j m (with_vars xs l scope) end →
      IsPlaced f funcs t b i (l + length ys) j m (with_values ys l scope) end
  placed_named xs ys e t b i l j m scope end h =
      subst (λ (q : ℕ). IsPlaced f funcs t b i (l + q) j m (with_values ys l scope) end) (same_length xs ys e)
      (subst (λ (zs : List ValueNo). IsPlaced f funcs t b i (l + length xs) j m (with_values zs l scope) end) e h)

  -- ---- instructions that ask the shared state

  asking : (kind l : OpKind) (k : Asks kind l) (o : Node) (scope : Scope) (vars : List Var) (n : ℕ) → AsksWell k o → Gives vars o → HaveTypes f n (types_in (results_in o)) →
      IsLike k p place f o (instr (Row l) (regs scope o.operands) (regs_from n (results_in o)) (low_attr funcs o.attr))
  asking kind l alloc o scope vars n well g types =
      (ap dims_of (ap (λ rs. type_at f rs 0) (from_typed o.results o.types n) ∙ result_type f o.results o.types n g.many types), well.0, well.1)
  asking kind l dealloc o scope vars n well g types = well
  asking kind l load o scope vars n well g types = well
  asking kind l store o scope vars n well g types = well
  asking kind l create_group o scope vars n well g types = well
  asking kind l add_to_group o scope vars n well g types = absurd well

  -- ---- instructions that compute

  computing : (o : Node) (scope : Scope) (vars : List Var) (n : ℕ) (c : one.Number) → Computes o.kind c → length o.results ≤ 1 → Gives vars o →
      (ReadsWidth c → width_of (first_type vars o.operands) ≡ width_of (slice_get o.written 0)) → AreSeen vars o.operands → AreTyped f scope vars → HaveTypes f n (types_in (results_in o)) →
      IsComputing f o (instr (Row o.kind) (regs scope o.operands) (regs_from n (results_in o)) (low_attr funcs o.attr))
  computing o scope vars n c k few g wide seen h types = record {
    m = c;
    computes = k;
    few = few;
    literal = literal_same funcs o.attr;
    compare = compare_same funcs o.attr;
    result = ap width_of (ap (λ rs. type_at f rs 0) (from_typed o.results o.types n) ∙ result_type f o.results o.types n g.many types);
    operand = λ r. ap width_of (operand_type f scope vars o.operands h seen) ∙ wide r;
  }

  -- ---- operations

  lay : {d : Bool} {a : ℕ} {vars : List Var} {ops : List Op} → IsSuited p.funcs funcs d a vars ops → (end : Close) (b i n j m : ℕ) (scope : Scope) → d ≡ is_decision end → AreTyped f scope vars → AreBefore scope n →
      IsPlaced f funcs (tree ops) b i n j m scope end → IsLaid p code place f end a b i n scope ops
  lay (suited.gives a vars o rest kind r many seen) end b i n j m scope d h bef s =
      laid.gives f end a b i n scope o rest kind many (visible f scope vars (out-Op o).operands h seen)
      (closes f end b i n scope (out-Op o).operands d (turned o rest role.End b i n j m scope end r s))
  lay (suited.decides a vars o rest c vs kind args many seen) end b i n j m scope d h bef s =
      let t = turned o rest role.Condition b i n j m scope end (ap role_of kind) s in
      let u = subst (λ (xs : List ValueNo). EndsBy f end b i n (decide end n (operand scope (slice_get xs 0)) (regs scope (drop 1 xs)))) args t in
      laid.gives f end a b i n scope o rest (subst (λ (x : OpKind). laid.Ends x) (sym kind) laid.scf_condition) many (visible f scope vars (out-Op o).operands h seen)
      (subst (λ (xs : List ValueNo). Closes f end b i n scope xs) (sym args) (closes_test f end b i n scope c vs d u))
  lay (suited.gives_nothing a vars none) end b i n j m scope d h bef s = laid.gives_nothing f end a b i n scope none (closes f end b i n scope [] d s)
  lay (suited.computes d a vars o rest c k few g wide seen more) end b i n j m scope e h bef s =
      let t = turned o rest (role.Plain (Row (out-Op o).kind)) b i n j m scope end (computing_role (out-Op o).kind c k) s in
      let x : Instr = instr (Row (out-Op o).kind) (regs scope (out-Op o).operands) (regs_from n (results_in (out-Op o))) (low_attr funcs (out-Op o).attr) in
      laid.computes f end a b i n scope o rest x t.0.0 t.0.1 t.0.2
      (record {
        kind_is = refl;
        operands = refl;
        results = from_typed (out-Op o).results (out-Op o).types n;
        visible = visible f scope vars (out-Op o).operands h seen;
        new = new_results (out-Op o) scope vars n h t.1 g;
      })
      (computing (out-Op o) scope vars n c k few g wide seen h t.1)
      (lay more end b (i + 1) (n + length (out-Op o).results) j m (with_values (out-Op o).results n scope) e (typed_results (out-Op o) scope vars n h t.1) (before_values scope (out-Op o).results n bef)
      (behind (tree rest) (out-Op o) b (i + 1) n j m scope end t.2))
  lay (suited.asserts d a vars o rest c cs kind args seen small more) end b i n j m scope e h bef s =
      let t = turned o rest role.Assertion b i n j m scope end (ap role_of kind) s in
      laid.asserts f end a b i n scope o rest c cs (b + 1) j kind args (visible f scope vars (c ∷ []) h seen)
      (subst (λ (xs : List ValueNo). Has f b i [] (cond_br (operand scope (slice_get xs 0)) (block_no (b + 1)) (block_no j) [])) args t.0) (fails_at f j m (out-Op o).at t.1 small)
      (opens_none (b + 1) n n scope (let le : n ≤ n = omega arith in le) bef t.2)
      (lay more end (b + 1) 0 n (j + 1) (m + 1) scope e h bef t.3)
  lay (suited.branches d a vars o rest c cs kind args seen g first second more) end b i n j m scope e h bef s =
      let on : Ops = tree (ops_in (region_of (out-Op o) 0)) in
      let off : Ops = tree (ops_in (region_of (out-Op o) 1)) in
      let rs : List Var = results_in (out-Op o) in
      let b2 : ℕ = b + (2 + blocks_of on) in
      let b3 : ℕ = b + (3 + (blocks_of on + blocks_of off)) in
      let n2 : ℕ = n + regs_of on in
      let n3 : ℕ = n + regs_of on + regs_of off in
      let low : n ≤ n2 = omega arith in
      let high : n ≤ n3 = omega arith in
      let t = turned o rest role.Choice b i n j m scope end (ap role_of kind) s in
      let u = subst (λ (x : Ops). IsPlaced f funcs (branches (slice_get (out-Op o).operands 0) x (nested_at (map nested_of (regions_of o)) 1).ops rs (tree rest)) b i n j m scope end)
      (ops_nested (regions_of o) 0 ∙ region_tree (regions_of o) 0) t in
      let v = subst (λ (x : Ops). IsPlaced f funcs (branches (slice_get (out-Op o).operands 0) on x rs (tree rest)) b i n j m scope end)
      (ops_nested (regions_of o) 1 ∙ region_tree (regions_of o) 1) u in
      laid.branches f end a b i n scope o rest c cs (b + 1) b2 b3 n2 n3 kind args (visible f scope vars (c ∷ []) h seen)
      (subst (λ (xs : List ValueNo). Has f b i [] (cond_br (operand scope (slice_get xs 0)) (block_no (b + 1)) (block_no b2) [])) args v.0)
      (opens_none (b + 1) n n scope (let le : n ≤ n = omega arith in le) bef v.1) (lay first (Joins (block_no b3)) (b + 1) 0 n j m scope refl h bef v.2)
      (opens_none b2 n n2 scope low bef v.3)
      (lay second (Joins (block_no b3)) b2 0 n2 (j + failures_of on) (m + failures_of on) scope refl h (before_more scope n n2 low bef) v.4)
      (opens_results (out-Op o) b3 n n3 scope vars high bef h v.6 g v.5)
      (lay more end b3 0 (n3 + length (out-Op o).results) (j + failures_of on + failures_of off) (m + failures_of on + failures_of off) (with_values (out-Op o).results n3 scope) e
      (typed_results (out-Op o) scope vars n3 h v.6) (before_values scope (out-Op o).results n3 (before_more scope n n3 high bef))
      (behind (tree rest) (out-Op o) b3 0 n3 (j + failures_of on + failures_of off) (m + failures_of on + failures_of off) scope end v.7))
  lay (suited.awaits d a vars o rest c cs kind args seen g small more) end b i n j m scope e h bef s =
      let t = turned o rest role.Await b i n j m scope end (ap role_of kind) s in
      laid.awaits f end a b i n scope o rest c cs (b + 1) j n kind args (visible f scope vars (c ∷ []) h seen)
      (subst (λ (xs : List ValueNo). Has f b i [] (await (operand scope (slice_get xs 0)) (block_no (b + 1)) (block_no j))) args t.0) (fails_at f j m (out-Op o).at t.1 small)
      (opens_results (out-Op o) (b + 1) n n scope vars (let le : n ≤ n = omega arith in le) bef h t.3 g t.2)
      (lay more end (b + 1) 0 (n + length (out-Op o).results) (j + 1) (m + 1) (with_values (out-Op o).results n scope) e (typed_results (out-Op o) scope vars n h t.3)
      (before_values scope (out-Op o).results n bef) (behind (tree rest) (out-Op o) (b + 1) 0 n (j + 1) (m + 1) scope end t.4))
  lay (suited.awaits_all d a vars o rest c cs kind args seen none small more) end b i n j m scope e h bef s =
      let t = turned o rest role.Await b i n j m scope end (ap role_of kind) s in
      let u = subst (λ (xs : List ValueNo). IsPlaced f funcs (awaits (out-Op o).at (slice_get (out-Op o).operands 0) (typed xs (out-Op o).types) (tree rest)) b i n j m scope end) none t in
      let same : n + 0 ≡ n = omega arith in
      laid.awaits_all f end a b i n scope o rest c cs (b + 1) j kind args (visible f scope vars (c ∷ []) h seen)
      (subst (λ (xs : List ValueNo). Has f b i [] (await (operand scope (slice_get xs 0)) (block_no (b + 1)) (block_no j))) args u.0) (fails_at f j m (out-Op o).at u.1 small)
      (opens_none (b + 1) n n scope (let le : n ≤ n = omega arith in le) bef u.2)
      (lay more end (b + 1) 0 n (j + 1) (m + 1) scope e h bef (subst (λ (q : ℕ). IsPlaced f funcs (tree rest) (b + 1) 0 q (j + 1) (m + 1) scope end) same u.4))
  lay (suited.asks d a vars o rest l k well g seen more) end b i n j m scope e h bef s =
      let t = turned o rest (role.Plain (Row l)) b i n j m scope end (asking_role (out-Op o).kind l k) s in
      let x : Instr = instr (Row l) (regs scope (out-Op o).operands) (regs_from n (results_in (out-Op o))) (low_attr funcs (out-Op o).attr) in
      laid.asks f end a b i n scope o rest x t.0.0 t.0.1 l k t.0.2
      (record {
        kind_is = refl;
        operands = refl;
        results = from_typed (out-Op o).results (out-Op o).types n;
        visible = visible f scope vars (out-Op o).operands h seen;
        new = new_results (out-Op o) scope vars n h t.1 g;
      })
      (asking (out-Op o).kind l k (out-Op o) scope vars n well g t.1)
      (lay more end b (i + 1) (n + length (out-Op o).results) j m (with_values (out-Op o).results n scope) e (typed_results (out-Op o) scope vars n h t.1) (before_values scope (out-Op o).results n bef)
      (behind (tree rest) (out-Op o) b (i + 1) n j m scope end t.2))
  lay (suited.counts d a vars o rest lower upper step inits kind args seen c g turn more) end b i n j m scope e h bef s =
      let params : List Var = c.variable ∷ c.carried in
      let ys : List ValueNo = values_of c.carried in
      let body : Ops = tree (ops_in (region_of (out-Op o) 0)) in
      let rs : List Var = results_in (out-Op o) in
      let xs : List ValueNo = (out-Op o).operands in
      let n2 : ℕ = n + length params in
      let n3 : ℕ = n2 + 1 + regs_of body in
      let b3 : ℕ = b + (3 + blocks_of body) in
      let turning : Close = Repeats (block_no (b + 1)) (reg_no n) (reg scope step) in
      let inner : Scope = with_vars params n scope in
      let outer : Scope = with_values (out-Op o).results (n + 1) scope in
      let len : length ys ≡ length c.carried = length_values c.carried in
      let many : length (out-Op o).results ≡ length ys =
      sym (length_typed (out-Op o).results (out-Op o).types) ∙ sym (length_types rs) ∙ ap length c.types ∙ length_types c.carried ∙ sym len in
      let t = turned o rest role.Counted b i n j m scope end (ap role_of kind) s in
      let t1 = subst (λ (x : Nested). IsPlaced f funcs (counts (slice_get xs 0) (slice_get xs 1) (slice_get xs 2) (drop 3 xs) x.params x.ops (values_of rs) (tree rest)) b i n j m scope end) (region_nested (regions_of o) 0) t in
      let t2 = subst (λ (ps : List Var). IsPlaced f funcs (counts (slice_get xs 0) (slice_get xs 1) (slice_get xs 2) (drop 3 xs) ps body (values_of rs) (tree rest)) b i n j m scope end) c.params t1 in
      let t3 = subst (λ (zs : List ValueNo). IsPlaced f funcs (counts (slice_get xs 0) (slice_get xs 1) (slice_get xs 2) (drop 3 xs) params body zs (tree rest)) b i n j m scope end)
      (values_typed (out-Op o).results (out-Op o).types) t2 in
      let t4 = subst (λ (zs : List ValueNo). IsPlaced f funcs (counts (slice_get zs 0) (slice_get zs 1) (slice_get zs 2) (drop 3 zs) params body (out-Op o).results (tree rest)) b i n j m scope end) args t3 in
      let types = subst (λ ts. HaveTypes f (n + 1) ts) (sym c.types) t4.2.1 in
      let le1 : n + length (values_of params) ≤ n2 = omega (arith, len) in
      let le2 : n2 ≤ n2 + 1 = omega arith in
      let le3 : n + 1 + length (out-Op o).results ≤ n3 + 1 = omega (arith, len, many) in
      let bef2 : AreBefore inner n2 = before_more inner (n + length (values_of params)) n2 le1 (before_values scope (values_of params) n bef) in
      let bef3 : AreBefore outer (n + 1 + length (out-Op o).results) = before_values scope (out-Op o).results (n + 1) (before_more scope n (n + 1) (let le : n ≤ n + 1 = omega arith in le) bef) in
      laid.counts f end a b i n scope o rest lower upper step inits (b + 1) n (b + 2) (n2 + 1) b3 (n3 + 1) n2 c.variable.0 ys kind args (visible f scope vars (lower ∷ upper ∷ step ∷ inits) h seen) t4.0
      (region_names (out-Op o).regions 0 ∙ ap values_of c.params)
      (opens_vars params (b + 1) n n scope vars (let le : n ≤ n = omega arith in le) bef h t4.2 c.fresh t4.1)
      (ap width_of t4.2.0 ∙ c.wide) t4.4 (let le : n + 1 + length ys ≤ n2 = omega (arith, len) in le)
      (opens_none (b + 2) n2 (n2 + 1) inner le2 bef2 t4.5)
      (subst (λ (q : ℕ). IsLaid p code place f turning q (b + 2) 0 (n2 + 1) inner (ops_in (region_of (out-Op o) 0))) (sym len)
      (lay turn turning (b + 2) 0 (n2 + 1) j m inner refl (typed_more f scope vars params n h t4.2) (before_more inner n2 (n2 + 1) le2 bef2) t4.6))
      many (c.begins ∙ sym len) (new_results (out-Op o) scope vars (n + 1) h types g)
      (opens_none b3 (n + 1 + length (out-Op o).results) (n3 + 1) outer le3 bef3 t4.7)
      (lay more end b3 0 (n3 + 1) (j + failures_of body) (m + failures_of body) outer e (typed_results (out-Op o) scope vars (n + 1) h types)
      (before_more outer (n + 1 + length (out-Op o).results) (n3 + 1) le3 bef3) t4.8)
  lay (suited.cycles d a vars o rest kind seen c g first second more) end b i n j m scope e h bef s =
      let params : List Var = region_params (out-Op o) 0 in
      let passed : List Var = region_params (out-Op o) 1 in
      let xs : List ValueNo = params_in (region_of (out-Op o) 0) in
      let ys : List ValueNo = params_in (region_of (out-Op o) 1) in
      let ex : values_of params ≡ xs = sym (region_names (out-Op o).regions 0) in
      let ey : values_of passed ≡ ys = sym (region_names (out-Op o).regions 1) in
      let before : Ops = tree (ops_in (region_of (out-Op o) 0)) in
      let after : Ops = tree (ops_in (region_of (out-Op o) 1)) in
      let rs : List Var = results_in (out-Op o) in
      let b2 : ℕ = b + (2 + blocks_of before) in
      let b3 : ℕ = b + (3 + (blocks_of before + blocks_of after)) in
      let n2 : ℕ = n + length params + regs_of before in
      let n3 : ℕ = n2 + length passed + regs_of after in
      let low : n ≤ n2 = omega arith in
      let high : n ≤ n3 = omega arith in
      let test : Close = Decides (block_no b2) (block_no b3) in
      let again : Close = Joins (block_no (b + 1)) in
      let t = turned o rest role.Tested b i n j m scope end (ap role_of kind) s in
      let u = subst (λ (x : Nested). IsPlaced f funcs (cycles (out-Op o).operands x.params x.ops (nested_at (map nested_of (regions_of o)) 1).params (nested_at (map nested_of (regions_of o)) 1).ops rs (tree rest)) b i n j m scope end)
      (region_nested (regions_of o) 0) t in
      let v = subst (λ (x : Nested). IsPlaced f funcs (cycles (out-Op o).operands params before x.params x.ops rs (tree rest)) b i n j m scope end) (region_nested (regions_of o) 1) u in
      laid.cycles f end a b i n scope o rest (b + 1) n b2 n2 b3 n3 kind (c.begins ∙ same_length params xs ex) (c.ends ∙ same_length passed ys ey) (visible f scope vars (out-Op o).operands h seen) v.0
      (opens_named params xs ex (b + 1) n n scope vars (let le : n ≤ n = omega arith in le) bef h v.2 c.first v.1)
      (subst (λ (q : ℕ). IsLaid p code place f test (1 + q) (b + 1) 0 (n + length xs) (with_values xs n scope) (ops_in (region_of (out-Op o) 0))) (same_length passed ys ey)
      (lay first test (b + 1) 0 (n + length xs) j m (with_values xs n scope) refl (typed_named params xs ex n scope vars h v.2) (before_values scope xs n bef) (placed_named params xs ex before (b + 1) 0 n j m scope test v.3)))
      (opens_named passed ys ey b2 n n2 scope vars low bef h v.5 c.second v.4)
      (subst (λ (q : ℕ). IsLaid p code place f again q b2 0 (n2 + length ys) (with_values ys n2 scope) (ops_in (region_of (out-Op o) 1))) (same_length params xs ex)
      (lay second again b2 0 (n2 + length ys) (j + failures_of before) (m + failures_of before) (with_values ys n2 scope) refl (typed_named passed ys ey n2 scope vars h v.5)
      (before_values scope ys n2 (before_more scope n n2 low bef)) (placed_named passed ys ey after b2 0 n2 (j + failures_of before) (m + failures_of before) scope again v.6)))
      (opens_results (out-Op o) b3 n n3 scope vars high bef h v.8 g v.7)
      (lay more end b3 0 (n3 + length (out-Op o).results) (j + failures_of before + failures_of after) (m + failures_of before + failures_of after) (with_values (out-Op o).results n3 scope) e
      (typed_results (out-Op o) scope vars n3 h v.8) (before_values scope (out-Op o).results n3 (before_more scope n n3 high bef))
      (behind (tree rest) (out-Op o) b3 0 n3 (j + failures_of before + failures_of after) (m + failures_of before + failures_of after) scope end v.9))
  lay (suited.calls d a vars o rest q callee kind c many seen g more) end b i n j m scope e h bef s =
      let t = turned o rest role.Call b i n j m scope end (ap role_of kind) s in
      laid.calls f end a b i n scope o rest q (b + 1) j n callee kind many c.place c.func c.many (visible f scope vars (out-Op o).operands h seen)
      (subst (λ (x : LowAttr). Has f b i [] (call x (regs scope (out-Op o).operands) (block_no (b + 1)) (block_no j))) (named_so funcs (out-Op o).attr q c.again) t.0) (passes_on f j m t.1)
      (opens_results (out-Op o) (b + 1) n n scope vars (let le : n ≤ n = omega arith in le) bef h t.3 g t.2)
      (lay more end (b + 1) 0 (n + length (out-Op o).results) (j + 1) (m + 1) (with_values (out-Op o).results n scope) e (typed_results (out-Op o) scope vars n h t.3)
      (before_values scope (out-Op o).results n bef) (behind (tree rest) (out-Op o) (b + 1) 0 n (j + 1) (m + 1) scope end t.4))
  lay (suited.tries d a vars o rest q callee kind c none few seen g more) end b i n j m scope e h bef s =
      let t = turned o rest role.TriedCall b i n j m scope end (ap role_of kind) s in
      let le1 : n ≤ n + 1 = omega arith in
      let le2 : n ≤ n + 2 = omega arith in
      let le3 : n ≤ n + 3 = omega arith in
      laid.tries f end a b i n scope o rest q (b + 1) (b + 2) (n + 1) (b + 3) (n + 3) callee kind few none c.place c.func c.many (visible f scope vars (out-Op o).operands h seen)
      (subst (λ (x : LowAttr). Has f b i [] (call x (regs scope (out-Op o).operands) (block_no (b + 1)) (block_no (b + 2)))) (named_so funcs (out-Op o).attr q c.again) t.0)
      t.1 (gives_bit f (b + 1) n (b + 3) true scope bef t.2) t.3 (before_more scope n (n + 1) le1 bef) (gives_bit f (b + 2) (n + 2) (b + 3) false scope (before_more scope n (n + 2) le2 bef) t.5)
      (opens_results (out-Op o) (b + 3) n (n + 3) scope vars le3 bef h t.7 g t.6)
      (lay more end (b + 3) 0 (n + 3 + length (out-Op o).results) j m (with_values (out-Op o).results (n + 3) scope) e (typed_results (out-Op o) scope vars (n + 3) h t.7)
      (before_values scope (out-Op o).results (n + 3) (before_more scope n (n + 3) le3 bef)) (behind (tree rest) (out-Op o) (b + 3) 0 (n + 3) j m scope end t.8))

pub suited_is_laid : SuitedIsLaid
suited_is_laid p code place funcs f end a b i n j m scope vars ops s h bef placed = lay p code place funcs f s end b i n j m scope refl h bef placed
