-- What code does where a task begins an operation.
use Rattle.std.proofs.Common.{◌≡◌, ◌≤◌, ℕ, zero, suc, ◌+◌, ◌-◌, nat_eq, cond, Bool, true, false, List, [], ◌∷◌, take, drop, ◌++◌, length, Option, Some, None, IsSome, slice_get, refl, sym, ap, ap₂, subst, ◌∙◌, arith}
use Rattle.op_table.specs.declared.kind.OpKind.{OpKind}
use Rattle.op_table.specs.declared.kind.OpKind.TheVariants as op
use Rattle.ir_forms.specs.declared.ops.Op.{Op, out-Op}
use Rattle.ir_forms.specs.declared.ops.ValueNo.{ValueNo}
use Rattle.ir_forms.specs.declared.types.Ty.{Ty}
use Rattle.ir_forms.specs.Shapes.{most_cells}
use Rattle.ir_verify.specs.declared.place.Nest.{Nest}
use Rattle.low_forms.specs.declared.code.Instr.{Instr}
use Rattle.low_forms.specs.declared.code.LowFunc.{LowFunc}
use Rattle.low_forms.specs.declared.code.LowKind.TheVariants.{Row}
use Rattle.low_forms.specs.declared.code.LowModule.{LowModule}
use Rattle.low_forms.specs.declared.code.Term.{Term}
use Rattle.source_meaning.specs.declared.values.Val as source
use Rattle.source_meaning.specs.declared.values.Val.TheVariants.{Number, Group}
use Rattle.source_meaning.specs.Parts.{grouped, region_of, ops_in, params_in, names_of}
use Rattle.source_meaning.specs.Rows.{cell_from, sizes, product_within}
use Rattle.source_meaning.specs.Values.{Env, maybe, or_else, named, bind, values_at, buffer_in, dims_in, element_in, group_in}
use Rattle.source_meaning.specs.Values as source_values
use Rattle.source_meaning.specs.Flow.{entered, turned, fails}
use Rattle.source_meaning.specs.Steps.{value, number, numbers, or_fails, asked_sizes, is_used, group, awaits_each, awaits_for, child_of, does}
use Rattle.source_meaning.specs.Tasks.{Program, After, Joins, Tests, Task, Reads, Writes, Allocs, Creates, Adds, AwaitsOne, AwaitsAll, Goes, Asks, bound}
use Rattle.async_objects.specs.declared.kinds.Val.{Val}
use Rattle.async_objects.specs.declared.kinds.Val.TheVariants as val
use Rattle.task_stack.specs.declared.effects.Effect.TheVariants as effect
use Rattle.task_stack.specs.declared.frames.Frame.{Frame}
use Rattle.task_stack.specs.Effects.{effect_of_kind, effect_of}
use Rattle.task_stack.specs.Frames.{Stack}
use Rattle.task_stack.specs.Local as local
use Rattle.task_stack.specs.Local.{operands, inner_step, free_step}
use Rattle.task_stack.specs.Registers as low
use Rattle.task_stack.specs.Registers.{held, number_in}
use Rattle.task_stack.specs.Shared.{moved, passed}
use Rattle.step_core.specs.High.{launched_stack}
use Rattle.scf_blocks.specs.declared.body.Close.{Close}
use Rattle.scf_blocks.specs.declared.body.Close.TheVariants as close
use Rattle.scf_blocks.specs.Code.{Scope, known, reg, regs, block_no, regs_from, with_values, br, cond_br, await}
use Rattle.block_carry.specs.Same.{Known, IsSame, AreSame, Agree}
use Rattle.block_carry.specs.Rows as rows
use Rattle.block_carry.specs.Rows.{AreVisible, AreNew, AreBefore, IsRow, IsComputing, IsLike, computed}
use Rattle.block_carry.specs.Laid as laid
use Rattle.block_carry.specs.Laid.{Has, Takes, Opens, FailsAt, PassesOn, GivesBit, Closes, IsLaid, Begins, IsLaidFunc, AreLaid}
use Rattle.block_carry.specs.Stands.{Fits, StandsAt, Stands}
use Rattle.block_carry.specs.Stands as stand
use Rattle.block_carry.specs.Follows.{quiet_by, passes, Suits, HasResult, GoesOn, Splits, Comes, IsElementFor, IsGroup, AreElementsFor}
use Rattle.block_carry.proofs.Values.{before_none, before_more, before_values, number_same, value_same, numbers_same, drop_same, values_length, agree_at, agree_all, agree_none, agree_later, bind_nothing, plus_none}
use Rattle.block_carry.proofs.Moves.{free_is, next_is, to, jump_quiet, decide_quiet, compute_quiet, stack_of}
use Rattle.block_carry.proofs.Stays.{fits_later, task, lands, goes_on}
use Rattle.block_carry.proofs.Awaits.{AreHeld, held_bound, agree_held, awaits_of, awaits_are, names_length as names_for_length, for_all, stands_pending, waits_laid}
use Rattle.block_carry.proofs.Ends.{before, here, fails_here, at_head}
use Rattle.block_carry.proofs.Rows.{computes_row, effect_row, computed_same, memory_same, number_is, sizes_length}

names_length : (params : List (ValueNo × Ty)) → length (names_of params) ≡ length params
names_length [] = refl
names_length (x ∷ xs) = ap suc (names_length xs)

no_truth : false ≡ true → ⊥
no_truth h = cc

append_length : {X : Type 0} (xs ys : List X) → length (xs ++ ys) ≡ length xs + length ys
append_length [] ys = omega arith
append_length (x ∷ xs) ys = let e : length (xs ++ ys) ≡ length xs + length ys = append_length xs ys in omega (arith, e)

regs_length : (n : ℕ) (xs : List ValueNo) → length (regs_from n xs) ≡ length xs
regs_length n [] = refl
regs_length n (x ∷ xs) = ap suc (regs_length (n + 1) xs)

take_values : (env : Env) (xs ys : List ValueNo) → take (length xs) (values_at env (xs ++ ys)) ≡ values_at env xs
take_values env [] ys = refl
take_values env (x ∷ xs) ys = ap (λ l. named env x.0 ∷ l) (take_values env xs ys)

drop_values : (env : Env) (xs ys : List ValueNo) → drop (length xs) (values_at env (xs ++ ys)) ≡ values_at env ys
drop_values env [] ys = refl
drop_values env (x ∷ xs) ys = drop_values env xs ys

take_all : (env : Env) (xs : List ValueNo) → take (length xs) (values_at env xs) ≡ values_at env xs
take_all env [] = refl
take_all env (x ∷ xs) = ap (λ l. named env x.0 ∷ l) (take_all env xs)

held_first : (k : Known) (rs : List Val) (n : ℕ) (env : Env) (xs ys : List ValueNo) → AreHeld k rs n (values_at env (xs ++ ys)) → AreHeld k rs n (values_at env xs)
held_first k rs n env [] ys h = tt
held_first k rs n env (x ∷ xs) ys h = (h.0, held_first k rs (n + 1) env xs ys h.1)

held_second : (k : Known) (rs : List Val) (n m : ℕ) (env : Env) (xs ys : List ValueNo) → n + length xs ≡ m → AreHeld k rs n (values_at env (xs ++ ys)) → AreHeld k rs m (values_at env ys)
held_second k rs n m env [] ys e h = subst (λ q. AreHeld k rs q (values_at env ys)) (let z : n ≡ m = omega (arith, e) in z) h
held_second k rs n m env (x ∷ xs) ys e h = held_second k rs (n + 1) m env xs ys (omega (arith, e)) h.1

module _ (p : Program) (code : LowModule) (k : Known) (place : ℕ) (nest : Nest) (f : LowFunc) (end : Close) (a n : ℕ) (scope : Scope) (env : Env) (frames : List (After × List Op)) (root : Bool) (top : Frame) (below : List Frame)
    (is : slice_get code.funcs top.current.place.func.0 ≡ Some f) (agree : Agree k scope env top.current.regs) (bef : AreBefore scope n) (fits : Fits p code k place f end a scope env frames below) where
  abbrev s : Stack
  s = stack_of code root top below

  abbrev b : ℕ
  b = top.current.place.block.0

  abbrev i : ℕ
  i = top.current.place.at

  abbrev t : List Op → Task
  t rest = task p code place nest rest frames env

  abbrev vals : Op → List source.Val
  vals o = values_at env (out-Op o).operands

  -- an operation of this kind with these operands
  pub does_is : (o : Op) (kind : OpKind) (xs : List ValueNo) (rest : List Op) → (out-Op o).kind ≡ kind → (out-Op o).operands ≡ xs → does (out-Op o).kind p (out-Op o) (vals o) (t rest) ≡ does kind p (out-Op o) (values_at env xs) (t rest)
  does_is o kind xs rest e1 e2 = ap₂ (λ kd ys. does kd p (out-Op o) (values_at env ys) (t rest)) e1 e2

  pub suits_is : (o : Op) (kind : OpKind) (xs : List ValueNo) → (out-Op o).kind ≡ kind → (out-Op o).operands ≡ xs → Suits (out-Op o).kind (out-Op o) (vals o) → Suits kind (out-Op o) (values_at env xs)
  suits_is o kind xs e1 e2 h = subst (λ ys. Suits kind (out-Op o) (values_at env ys)) e2 (subst (λ kd. Suits kd (out-Op o) (vals o)) e1 h)

  operands_same : (o : Op) (kind : OpKind) (x : Instr) → IsRow (Row kind) scope n (out-Op o) x → AreSame k (vals o) (operands s x)
  operands_same o kind x r = subst (λ rs. AreSame k (vals o) (low.values_at top.current.regs rs)) (sym r.operands) (agree_all k scope env top.current.regs (out-Op o).operands agree r.visible)

  -- ---- operations that compute

  pub computing : (o : Op) (rest : List Op) (x : Instr) (more : List Instr) (tm : Term) → Has f b i (x ∷ more) tm → IsRow (Row (out-Op o).kind) scope n (out-Op o) x → IsComputing f (out-Op o) x →
      IsLaid p code place f end a b (i + 1) (n + length (out-Op o).results) (with_values (out-Op o).results n scope) rest → HasResult (out-Op o).kind (out-Op o) (vals o) →
      Comes p code k s (does (out-Op o).kind p (out-Op o) (vals o) (t rest))
  computing o rest x more tm has r c laid_on result =
      subst (λ z. Comes p code k s z) (sym (computes_row (out-Op o).kind c.m c.computes p (out-Op o) (vals o) (t rest))) (by (computed c.m (out-Op o) (vals o)) refl (result c.m c.computes))
    where
      by : (v : Option source.Val) → computed c.m (out-Op o) (vals o) ≡ v → IsSome v → Comes p code k s (or_fails (out-Op o) (t rest) (λ v. Goes (bound (out-Op o).results (v ∷ []) (t rest))) v)
      by None e h = absurd (no_truth h)
      by (Some v) e h =
          let w = computed_same k f (out-Op o) x c c.m refl (vals o) (operands s x) v (operands_same o (out-Op o).kind x r) e in
          here p code k s (moved x.results (w.0 ∷ []) s) (bound (out-Op o).results (v ∷ []) (t rest))
          (compute_quiet code s f x more tm c.m w.0 (ap effect_of r.kind_is ∙ effect_row (out-Op o).kind c.m c.computes) w.1 is has)
          (goes_on p code k place nest f end a n (out-Op o).results scope rest frames env (v ∷ []) (w.0 ∷ []) s x is r.results r.new bef laid_on agree (w.2, tt) c.few fits)

  -- ---- operations that ask by an instruction

  shared_is : (x : Instr) (more : List Instr) (tm : Term) (kind : OpKind) → x.kind ≡ Row kind → effect_of_kind kind ≡ effect.Shared → Has f b i (x ∷ more) tm → free_step code s ≡ local.Shared
  shared_is x more tm kind e shared has = free_is code s f (x ∷ more) tm is has ∙ ap (λ y. inner_step y true code f x s) (ap effect_of e ∙ shared)

  answered : (o : Op) (rest : List Op) (x : Instr) (kind : OpKind) → IsRow (Row kind) scope n (out-Op o) x →
      IsLaid p code place f end a b (i + 1) (n + length (out-Op o).results) (with_values (out-Op o).results n scope) rest → GoesOn p code k f x s (out-Op o).results (t rest)
  answered o rest x kind r laid_on after vs ws later same few =
      goes_on p code after place nest f end a n (out-Op o).results scope rest frames env vs ws s x is r.results r.new bef laid_on (agree_later k after later scope env top.current.regs agree) same few (fits_later p code k after later fits)

  pub asking : (o : Op) (rest : List Op) (x : Instr) (more : List Instr) (tm : Term) (kind l : OpKind) (q : rows.Asks kind l) → Has f b i (x ∷ more) tm → IsRow (Row l) scope n (out-Op o) x → IsLike q p place f (out-Op o) x →
      IsLaid p code place f end a b (i + 1) (n + length (out-Op o).results) (with_values (out-Op o).results n scope) rest → Suits kind (out-Op o) (vals o) → Comes p code k s (does kind p (out-Op o) (vals o) (t rest))
  asking o rest x more tm kind l rows.load has r like laid_on suits =
      subst (λ z. Comes p code k s (or_fails (out-Op o) (t rest) (λ c. Asks (out-Op o).at (Reads (buffer_in (value (vals o) 0)) c) (out-Op o).results (t rest)) z)) (sym suits.1.1) (
        zero,
        s,
        refl,
        record {
          f = f;
          i = x;
          is = next_is code s f (x ∷ more) tm is has;
          shared = shared_is x more tm op.MemrefLoad r.kind_is refl has;
          asks = (
            r.kind_is,
            dims_in (value (vals o) 0),
            memory_same k _ _ suits.0 (value_same k _ _ 0 (operands_same o op.MemrefLoad x r)),
            ap (cell_from 0 (dims_in (value (vals o) 0))) (numbers_same k _ _ (drop_same k 1 _ _ (operands_same o op.MemrefLoad x r))) ∙ suits.1.1,
            suits.1.2,
          );
          few = like;
          then = answered o rest x op.MemrefLoad r laid_on;
        },
      )
  asking o rest x more tm kind l rows.store has r like laid_on suits =
      subst (λ z. Comes p code k s (or_fails (out-Op o) (t rest) (λ c. Asks (out-Op o).at (Writes (buffer_in (value (vals o) 1)) c (number (vals o) 0)) [] (t rest)) z)) (sym suits.1.1) (
        zero,
        s,
        refl,
        record {
          f = f;
          i = x;
          is = next_is code s f (x ∷ more) tm is has;
          shared = shared_is x more tm op.MemrefStore r.kind_is refl has;
          asks = (
            r.kind_is,
            dims_in (value (vals o) 1),
            memory_same k _ _ suits.0 (value_same k _ _ 1 (operands_same o op.MemrefStore x r)),
            ap (cell_from 0 (dims_in (value (vals o) 1))) (numbers_same k _ _ (drop_same k 2 _ _ (operands_same o op.MemrefStore x r))) ∙ suits.1.1,
            suits.1.2,
            number_same k _ _ (value_same k _ _ 0 (operands_same o op.MemrefStore x r)),
          );
          few = omega arith;
          then = subst (λ ys. GoesOn p code k f x s ys (t rest)) like (answered o rest x op.MemrefStore r laid_on);
        },
      )
  asking o rest x more tm kind l rows.dealloc has r like laid_on suits =
      let stood = goes_on p code k place nest f end a n (out-Op o).results scope rest frames env [] [] s x is r.results r.new bef laid_on agree tt (let e : length (out-Op o).results ≡ 0 = ap length like in omega (arith, e)) fits in
      let none : x.results ≡ [] = r.results ∙ ap (regs_from n) like in
      here p code k s (passed s) (t rest)
      (ap (λ y. quiet_by y code s) (shared_is x more tm op.MemrefDealloc r.kind_is refl has)
      ∙ ap (maybe None (λ y. passes y s)) (next_is code s f (x ∷ more) tm is has) ∙ ap (λ kd. passes (record { func = f; instr = record x { kind = kd } }) s) r.kind_is)
      (subst (λ rs. Stands p code k (t rest) (moved rs [] s)) none (subst (λ e. Stands p code k (task p code place nest rest frames e) (moved x.results [] s)) (bind_nothing (out-Op o).results env) stood))
  asking o rest x more tm kind l rows.alloc has r like laid_on suits =
      by (product_within most_cells (asked_sizes (out-Op o) (vals o))) refl suits
    where
      by : (c : Option ℕ) → product_within most_cells (asked_sizes (out-Op o) (vals o)) ≡ c → IsSome c →
          Comes p code k s (or_fails (out-Op o) (t rest) (λ c. Asks (out-Op o).at (Allocs (asked_sizes (out-Op o) (vals o))) (out-Op o).results (t rest)) c)
      by None e h = absurd (no_truth h)
      by (Some c) e h = (
        zero,
        s,
        refl,
        record {
          f = f;
          i = x;
          is = next_is code s f (x ∷ more) tm is has;
          shared = shared_is x more tm op.MemrefAlloc r.kind_is refl has;
          asks = (r.kind_is, ap₂ sizes like.0 (numbers_same k _ _ (operands_same o op.MemrefAlloc x r)), subst (λ m. m ≤ 4) (sym (sizes_length _ (numbers (vals o)))) like.1, suits);
          few = like.2;
          then = answered o rest x op.MemrefAlloc r laid_on;
        },
      )
  asking o rest x more tm kind l rows.create_group has r like laid_on suits =
      subst (λ z. Comes p code k s (cond z (Asks (out-Op o).at (Creates (number (vals o) 0)) (out-Op o).results (t rest)) (fails (out-Op o).at (t rest)))) (sym suits) (
        zero,
        s,
        refl,
        record {
          f = f;
          i = x;
          is = next_is code s f (x ∷ more) tm is has;
          shared = shared_is x more tm op.AsyncRuntimeCreateGroup r.kind_is refl has;
          asks = (r.kind_is, number_same k _ _ (value_same k _ _ 0 (operands_same o op.AsyncRuntimeCreateGroup x r)));
          few = like;
          then = answered o rest x op.AsyncRuntimeCreateGroup r laid_on;
        },
      )
  asking o rest x more tm kind l rows.add_to_group has r like laid_on suits =
      subst (λ z. Comes p code k s (or_fails (out-Op o) (t rest) (λ e. Asks (out-Op o).at (Adds (group_in (value (vals o) 1)) e (used_in o)) (out-Op o).results (t rest)) z)) (sym (ap element_in suits.0.1)) (
        zero,
        s,
        refl,
        record {
          f = f;
          i = x;
          is = next_is code s f (x ∷ more) tm is has;
          shared = shared_is x more tm op.AsyncRuntimeAddToGroup r.kind_is refl has;
          asks = (
            r.kind_is,
            subst (λ z. IsSame k z (low.value (operands s x) 0)) suits.0.1 (value_same k _ _ 0 (operands_same o op.AsyncRuntimeAddToGroup x r)),
            subst (λ z. IsSame k (Group (group_in z)) (low.value (operands s x) 1)) (sym suits.1.1) (subst (λ z. IsSame k z (low.value (operands s x) 1)) suits.1.1 (value_same k _ _ 1 (operands_same o op.AsyncRuntimeAddToGroup x r))),
            sym like.0,
          );
          few = like.1;
          then = answered o rest x op.AsyncRuntimeAddToGroup r laid_on;
        },
      )
    where
      used_in : Op → Bool
      used_in o = is_used p place (slice_get (out-Op o).results 0)

  -- ---- operations with blocks

  pub empty_begins : (target : ℕ) (m : ℕ) (inner : Scope) (kind : Close) (many : ℕ) (ops : List Op) → Opens f target m [] inner → IsLaid p code place f kind many target 0 m inner ops → Begins p code place f kind many target m [] inner ops
  empty_begins target m inner kind many ops opens l = record { opens = opens; laid = subst (λ q. IsLaid p code place f kind many target 0 q inner ops) (plus_none m) l }

  pub asserting : (o : Op) (rest : List Op) (c : ValueNo) (go failure : ℕ) → IsSome (known scope c.0) → Has f b i [] (cond_br (reg scope c) (block_no go) (block_no failure) []) → FailsAt f failure (out-Op o).at → Opens f go n [] scope →
      IsLaid p code place f end a go 0 n scope rest → (z : Bool) → nat_eq (number_in (held top.current.regs (reg scope c).0)) 0 ≡ z → Comes p code k s (cond z (fails (out-Op o).at (t rest)) (Goes (t rest)))
  asserting o rest c go failure seen has fb opens l true e =
      before p code k s (to code f failure [] s) (fails (out-Op o).at (t rest)) (decide_quiet code s f (reg scope c) go failure [] true e is has)
      (fails_here p code k root (to code f failure [] s).top (out-Op o).at (t rest) refl fits is fb refl)
  asserting o rest c go failure seen has fb opens l false e =
      here p code k s (to code f go [] s) (t rest) (decide_quiet code s f (reg scope c) go failure [] false e is has)
      (lands p code k place nest f end a go n [] scope rest frames env [] [] s is (empty_begins go n scope end a rest opens l) agree tt (omega arith) fits)

  joining : (o : Op) (rest : List Op) (join l : ℕ) → Begins p code place f end a join l (out-Op o).results scope rest →
      Fits p code k place f (close.Joins (block_no join)) (length (out-Op o).results) scope env ((Joins (out-Op o).results, rest) ∷ frames) below
  joining o rest join l on = stand.joins place f (close.Joins (block_no join)) (length (out-Op o).results) scope env (out-Op o).results rest frames below
      (record { b = join; n = l; outer = scope; end_outer = end; a_outer = a; closes = refl; on = on; within = λ y r e. e; many = refl }) fits

  -- into a region without parameters of its own
  enters : (o : Op) (rest : List Op) (target m join : ℕ) (j : ℕ) → Begins p code place f (close.Joins (block_no join)) (length (out-Op o).results) target m [] scope (ops_in (region_of (out-Op o) j)) →
      Fits p code k place f (close.Joins (block_no join)) (length (out-Op o).results) scope env ((Joins (out-Op o).results, rest) ∷ frames) below →
      Stands p code k (entered (Joins (out-Op o).results) (region_of (out-Op o) j) [] (t rest)) (to code f target [] s)
  enters o rest target m join j begins inside =
      subst (λ e. Stands p code k (task p code place nest (ops_in (region_of (out-Op o) j)) ((Joins (out-Op o).results, rest) ∷ frames) e) (to code f target [] s)) (sym (bind_nothing (params_in (region_of (out-Op o) j)) env))
      (lands p code k place nest f (close.Joins (block_no join)) (length (out-Op o).results) target m [] scope (ops_in (region_of (out-Op o) j)) ((Joins (out-Op o).results, rest) ∷ frames) env [] [] s is begins agree tt (omega arith) inside)

  pub branching : (o : Op) (rest : List Op) (c : ValueNo) (first second join m l : ℕ) → Has f b i [] (cond_br (reg scope c) (block_no first) (block_no second) []) →
      Begins p code place f (close.Joins (block_no join)) (length (out-Op o).results) first n [] scope (ops_in (region_of (out-Op o) 0)) →
      Begins p code place f (close.Joins (block_no join)) (length (out-Op o).results) second m [] scope (ops_in (region_of (out-Op o) 1)) → Begins p code place f end a join l (out-Op o).results scope rest →
      (z : Bool) → nat_eq (number_in (held top.current.regs (reg scope c).0)) 0 ≡ z → Comes p code k s (Goes (entered (Joins (out-Op o).results) (region_of (out-Op o) (cond z 1 0)) [] (t rest)))
  branching o rest c first second join m l has one two on true e =
      here p code k s (to code f second [] s) (entered (Joins (out-Op o).results) (region_of (out-Op o) 1) [] (t rest)) (decide_quiet code s f (reg scope c) first second [] true e is has)
      (enters o rest second m join 1 two (joining o rest join l on))
  branching o rest c first second join m l has one two on false e =
      here p code k s (to code f first [] s) (entered (Joins (out-Op o).results) (region_of (out-Op o) 0) [] (t rest)) (decide_quiet code s f (reg scope c) first second [] false e is has)
      (enters o rest first n join 0 one (joining o rest join l on))

  pub counting : (o : Op) (rest : List Op) (lower upper step : ValueNo) (inits : List ValueNo) (head v : ℕ) → Has f b i [] (br (block_no head) (reg scope lower ∷ regs scope inits)) → AreVisible scope (lower ∷ upper ∷ step ∷ inits) →
      (loop : laid.IsLoop p code place f end a scope (out-Op o) rest upper step head v) → length inits ≡ length loop.carried → Suits op.ScfFor (out-Op o) (values_at env (lower ∷ upper ∷ step ∷ inits)) →
      Comes p code k s (does op.ScfFor p (out-Op o) (values_at env (lower ∷ upper ∷ step ∷ inits)) (t rest))
  counting o rest lower upper step inits head v has visible loop many suits =
      subst (λ z. Comes p code k s (cond z (Goes after) (fails (out-Op o).at (t rest)))) (sym suits.1)
      (before p code k s (to code f head (val.Number first ∷ ws) s) (Goes after) (jump_quiet code s f head (reg scope lower ∷ regs scope inits) is has ∙ ap (λ y. Some (to code f head (y ∷ ws) s)) first_is)
      (at_head p code k place nest f end a scope (out-Op o) rest upper step head v loop frames env first (source_values.number_in (named env upper.0)) (source_values.number_in (named env step.0)) (values_at env inits) ws s
      is agree suits.2 suits.3 refl refl (agree_all k scope env top.current.regs inits agree visible.1.1.1) (omega (arith, many, values_length env inits)) fits))
    where
      first : ℕ
      first = source_values.number_in (named env lower.0)

      ws : List Val
      ws = low.values_at top.current.regs (regs scope inits)

      after : Task
      after = turned (out-Op o) first (source_values.number_in (named env upper.0)) (source_values.number_in (named env step.0)) (values_at env inits) (t rest)

      named_is : named env lower.0 ≡ Number first
      named_is = subst (λ z. z ≡ Number (source_values.number_in z)) (sym suits.0.1) refl

      first_is : held top.current.regs (reg scope lower).0 ≡ val.Number first
      first_is = number_is k first _ (subst (λ z. IsSame k z (held top.current.regs (reg scope lower).0)) named_is (agree_at k scope env top.current.regs lower agree visible.0))

  pub cycling : (o : Op) (rest : List Op) (head second exit : ℕ) → Has f b i [] (br (block_no head) (regs scope (out-Op o).operands)) → AreVisible scope (out-Op o).operands → length (out-Op o).operands ≡ length (params_in (region_of (out-Op o) 0)) →
      laid.IsCycle p code place f end a scope (out-Op o) rest head second exit → Comes p code k s (Goes (entered (Tests (out-Op o)) (region_of (out-Op o) 0) (vals o) (t rest)))
  cycling o rest head second exit has visible many loop =
      let ws : List Val = low.values_at top.current.regs (regs scope (out-Op o).operands) in
      here p code k s (to code f head ws s) (entered (Tests (out-Op o)) (region_of (out-Op o) 0) (vals o) (t rest)) (jump_quiet code s f head (regs scope (out-Op o).operands) is has)
      (lands p code k place nest f (close.Decides (block_no second) (block_no exit)) (1 + length (params_in (region_of (out-Op o) 1))) head loop.v (params_in (region_of (out-Op o) 0)) scope (ops_in (region_of (out-Op o) 0)) ((Tests (out-Op o), rest) ∷ frames) env (vals o) ws s
      is loop.first agree (agree_all k scope env top.current.regs (out-Op o).operands agree visible) (omega (arith, many, values_length env (out-Op o).operands))
      (stand.tests place f (close.Decides (block_no second) (block_no exit)) (1 + length (params_in (region_of (out-Op o) 1))) scope env (out-Op o) rest frames below
      (record { head = head; second = second; exit = exit; outer = scope; end_outer = end; a_outer = a; loop = loop; closes = refl; within = λ y r e. e; many = refl }) fits))

  -- ---- awaits

  awaiting_on : (o : Op) (rest : List Op) (c : ValueNo) (go failure l : ℕ) (xs : List ValueNo) → Has f b i [] (await (reg scope c) (block_no go) (block_no failure)) → FailsAt f failure (out-Op o).at → Begins p code place f end a go l xs scope rest →
      Splits p code k f s (out-Op o).at xs (t rest)
  awaiting_on o rest c go failure l xs has fb begins = record {
    o = reg scope c;
    found = is;
    go = go;
    failure = failure;
    has = has;
    on = λ after vs ws later same few. lands p code after place nest f end a go l xs scope rest frames env vs ws s is begins (agree_later k after later scope env top.current.regs agree) same few (fits_later p code k after later fits);
    fails = λ after later. record {
      f = f;
      is = is;
      end = end;
      a = a;
      n = n;
      scope = scope;
      agree = subst (λ ps. Agree after scope env (low.bind ps [] top.current.regs)) (sym fb.params) (agree_later k after later scope env top.current.regs agree);
      here = (refl, fb);
      fits = fits_later p code k after later fits;
    };
  }

  pub awaiting_one : (o : Op) (rest : List Op) (c : ValueNo) (go failure l : ℕ) → IsSome (known scope c.0) → Has f b i [] (await (reg scope c) (block_no go) (block_no failure)) → FailsAt f failure (out-Op o).at →
      Begins p code place f end a go l (out-Op o).results scope rest → IsElementFor (out-Op o).results (named env c.0) →
      Comes p code k s (or_fails (out-Op o) (t rest) (λ x. Asks (out-Op o).at (AwaitsOne x) (out-Op o).results (t rest)) (element_in (named env c.0)))
  awaiting_one o rest c go failure l seen has fb begins e =
      subst (λ z. Comes p code k s (or_fails (out-Op o) (t rest) (λ x. Asks (out-Op o).at (AwaitsOne x) (out-Op o).results (t rest)) z)) (sym (ap element_in e.1)) (
        zero,
        s,
        refl,
        record {
          f = f;
          i = (await (reg scope c) (block_no go) (block_no failure)).instr;
          is = next_is code s f [] (await (reg scope c) (block_no go) (block_no failure)) is has;
          shared = free_is code s f [] (await (reg scope c) (block_no go) (block_no failure)) is has;
          asks = (refl, subst (λ z. IsSame k z (held top.current.regs (reg scope c).0)) e.1 (agree_at k scope env top.current.regs c agree seen));
          few = e.2;
          then = awaiting_on o rest c go failure l (out-Op o).results has fb begins;
        },
      )

  pub awaiting_all : (o : Op) (rest : List Op) (c : ValueNo) (go failure l : ℕ) → IsSome (known scope c.0) → Has f b i [] (await (reg scope c) (block_no go) (block_no failure)) → FailsAt f failure (out-Op o).at →
      Begins p code place f end a go l [] scope rest → IsGroup (named env c.0) → Comes p code k s (Asks (out-Op o).at (AwaitsAll (group_in (named env c.0))) [] (t rest))
  awaiting_all o rest c go failure l seen has fb begins g = (
    zero,
    s,
    refl,
    record {
      f = f;
      i = (await (reg scope c) (block_no go) (block_no failure)).instr;
      is = next_is code s f [] (await (reg scope c) (block_no go) (block_no failure)) is has;
      shared = free_is code s f [] (await (reg scope c) (block_no go) (block_no failure)) is has;
      asks = (refl, subst (λ z. IsSame k (Group (group_in z)) (held top.current.regs (reg scope c).0)) (sym g.1) (subst (λ z. IsSame k z (held top.current.regs (reg scope c).0)) g.1 (agree_at k scope env top.current.regs c agree seen)));
      few = omega arith;
      then = awaiting_on o rest c go failure l [] has fb begins;
    },
  )

  -- ---- launches

  launched_task : (o : Op) (rest : List Op) (x : Instr) (h : ℕ) (g : LowFunc) (tokens values captured : List ValueNo) (b2 i2 n2 : ℕ) (inner : Scope) → (out-Op o).operands ≡ tokens ++ values → (out-Op o).groups ≡ length tokens ∷ length values ∷ [] →
      laid.IsLaunch scope n (out-Op o) captured x h → slice_get code.funcs h ≡ Some g → g.params ≡ regs_from 0 ((out-Op o).operands ++ captured) →
      laid.AreAwaited g (out-Op o).at (length ((out-Op o).operands ++ captured)) 0 (laid.names_for [] tokens ++ laid.names_for (params_in (region_of (out-Op o) 0)) values) 0 0 (length ((out-Op o).operands ++ captured))
      (with_values captured (length (out-Op o).operands) []) b2 i2 n2 inner →
      IsLaid p code place g close.Returns (length (out-Op o).results - 1) b2 i2 n2 inner (ops_in (region_of (out-Op o) 0)) → Suits op.AsyncExecute (out-Op o) (vals o) →
      Stands p code k (child_of (out-Op o) (vals o) (t rest)) (launched_stack (record { 0 = h }) g (operands s x))
  launched_task o rest x h g tokens values captured b2 i2 n2 inner args groups launch gis params awaited body suits = record {
    f = g;
    is = gis;
    end = close.Returns;
    a = length (out-Op o).results - 1;
    n = length every;
    scope = first;
    agree = agree_held k [] captured (length own) env rs (held_second k rs 0 (length own) env own captured (let z : 0 + length own ≡ length own = omega arith in z) held_all) (agree_none k env rs);
    here = subst (λ q. StandsAt p code k rs place g close.Returns (length (out-Op o).results - 1) 0 0 (length every) first (ops_in (region_of (out-Op o) 0)) q) (sym pending_is)
        (stands_pending p code k rs (length every) 0 place g close.Returns (length (out-Op o).results - 1) 0 0 (length every) first (ops_in (region_of (out-Op o) 0)) (awaits_of (out-Op o).at names vs)
        (waits_laid p code k rs (out-Op o).at (length every) 0 place g close.Returns (length (out-Op o).results - 1) 0 0 (length every) first (ops_in (region_of (out-Op o) 0)) names vs b2 i2 n2 inner awaited before_all
        names_many (let z = names_count in omega (arith, z, own_count, every_count)) (for_all env region_params tokens values suits_tokens suits_values) held_own body));
    fits = stand.ends place g (length (out-Op o).results - 1) first env;
  }
    where
      own : List ValueNo
      own = (out-Op o).operands

      every : List ValueNo
      every = own ++ captured

      region_params : List ValueNo
      region_params = params_in (region_of (out-Op o) 0)

      first : Scope
      first = with_values captured (length own) []

      names : List (List ValueNo)
      names = laid.names_for [] tokens ++ laid.names_for region_params values

      vs : List source.Val
      vs = values_at env (tokens ++ values)

      ws : List Val
      ws = operands s x

      rs : List Val
      rs = low.bind g.params ws []

      same_all : AreSame k (values_at env every) ws
      same_all = subst (λ qs. AreSame k (values_at env every) (low.values_at top.current.regs qs)) (sym launch.operands) (agree_all k scope env top.current.regs every agree launch.visible)

      held_all : AreHeld k rs 0 (values_at env every)
      held_all = subst (λ ps. AreHeld k (low.bind ps ws []) 0 (values_at env every)) (sym params) (held_bound k every (values_at env every) ws 0 [] (sym (values_length env every)) same_all)

      held_own : AreHeld k rs 0 vs
      held_own = subst (λ ys. AreHeld k rs 0 (values_at env ys)) args (held_first k rs 0 env own captured held_all)

      every_count : length every ≡ length own + length captured
      every_count = append_length own captured

      own_count : length own ≡ length tokens + length values
      own_count = ap length args ∙ append_length tokens values

      names_count : length names ≡ length tokens + length values
      names_count = append_length (laid.names_for [] tokens) (laid.names_for region_params values) ∙ ap₂ (λ y z. y + z) (names_for_length [] tokens) (names_for_length region_params values)

      names_many : length names ≡ length vs
      names_many = names_count ∙ sym (append_length tokens values) ∙ sym (values_length env (tokens ++ values))

      before_all : AreBefore first (length every)
      before_all = before_more first (length own + length captured) (length every) (omega (arith, every_count)) (before_values [] captured (length own) (before_none (length own)))

      group_tokens : group (out-Op o) (vals o) 0 ≡ values_at env tokens
      group_tokens = ap₂ (λ gs ys. or_else [] (slice_get (grouped gs (values_at env ys)) 0)) groups args ∙ take_values env tokens values

      group_values : group (out-Op o) (vals o) 1 ≡ values_at env values
      group_values = ap₂ (λ gs ys. or_else [] (slice_get (grouped gs (values_at env ys)) 1)) groups args ∙ ap (take (length values)) (drop_values env tokens values) ∙ take_all env values

      pending_is : awaits_each (out-Op o).at (group (out-Op o) (vals o) 0) ++ awaits_for (out-Op o).at region_params (group (out-Op o) (vals o) 1) ≡ awaits_of (out-Op o).at names vs
      pending_is = ap₂ (λ y z. awaits_each (out-Op o).at y ++ awaits_for (out-Op o).at region_params z) group_tokens group_values ∙ awaits_are (out-Op o).at env region_params tokens values

      suits_tokens : AreElementsFor [] (values_at env tokens)
      suits_tokens = subst (AreElementsFor []) group_tokens suits.0

      suits_values : AreElementsFor region_params (values_at env values)
      suits_values = subst (AreElementsFor region_params) group_values suits.1

  pub launching : (o : Op) (rest : List Op) (x : Instr) (more : List Instr) (tm : Term) (h : ℕ) (g : LowFunc) (tokens values captured : List ValueNo) (b2 i2 n2 : ℕ) (inner : Scope) → (out-Op o).operands ≡ tokens ++ values → (out-Op o).groups ≡ length tokens ∷ length values ∷ [] →
      Has f b i (x ∷ more) tm → laid.IsLaunch scope n (out-Op o) captured x h → slice_get code.funcs h ≡ Some g → g.params ≡ regs_from 0 ((out-Op o).operands ++ captured) →
      laid.AreAwaited g (out-Op o).at (length ((out-Op o).operands ++ captured)) 0 (laid.names_for [] tokens ++ laid.names_for (params_in (region_of (out-Op o) 0)) values) 0 0 (length ((out-Op o).operands ++ captured))
      (with_values captured (length (out-Op o).operands) []) b2 i2 n2 inner →
      IsLaid p code place g close.Returns (length (out-Op o).results - 1) b2 i2 n2 inner (ops_in (region_of (out-Op o) 0)) →
      IsLaid p code place f end a b (i + 1) (n + length (out-Op o).results) (with_values (out-Op o).results n scope) rest → Suits op.AsyncExecute (out-Op o) (vals o) →
      Comes p code k s (does op.AsyncExecute p (out-Op o) (vals o) (t rest))
  launching o rest x more tm h g tokens values captured b2 i2 n2 inner args groups has launch gis params awaited body laid_on suits =
      let many : length x.results ≡ length (out-Op o).results = ap length launch.results ∙ regs_length n (out-Op o).results in (
        zero,
        s,
        refl,
        record {
          f = f;
          i = x;
          is = next_is code s f (x ∷ more) tm is has;
          shared = free_is code s f (x ∷ more) tm is has ∙ ap (λ y. inner_step (effect_of y) true code f x s) launch.kind_is;
          asks = (
            launch.kind_is,
            omega (arith, many, launch.some),
            record { 0 = h },
            g,
            launch.callee,
            gis,
            launched_task o rest x h g tokens values captured b2 i2 n2 inner args groups launch gis params awaited body suits,
          );
          few = omega (arith, launch.some);
          then = λ after vs ws later same few. goes_on p code after place nest f end a n (out-Op o).results scope rest frames env vs ws s x is launch.results launch.new bef laid_on
              (agree_later k after later scope env top.current.regs agree) same few (fits_later p code k after later fits);
        },
      )
