-- The rows of the code of operations fit where the types of the operations do.
use Rattle.std.proofs.Common.{◌≡◌, ◌<◌, ◌≤◌, ℕ, zero, suc, ◌+◌, ◌&&◌, ◌||◌, Bool, true, false, List, [], ◌∷◌, ◌++◌, map, length, Option, Some, None, refl, sym, ap, ap₂, ◌∙◌, subst, arith, length-append}
use Rattle.std.specs.Prelude.{slice_get}
use Rattle.ir_forms.specs.declared.ops.Attr.{Attr}
use Rattle.ir_forms.specs.declared.ops.Attr.TheVariants as attr
use Rattle.ir_forms.specs.declared.ops.Func.{Func}
use Rattle.ir_forms.specs.declared.ops.Module.{Module}
use Rattle.ir_forms.specs.declared.ops.ValueNo.{ValueNo}
use Rattle.ir_forms.specs.declared.types.Ty.{Ty}
use Rattle.ir_forms.specs.declared.types.Ty.TheVariants.{Index}
use Rattle.low_forms.specs.declared.code.LowKind.{LowKind}
use Rattle.low_forms.specs.declared.code.LowAttr.TheVariants as low
use Rattle.low_forms.specs.declared.code.Reg.{Reg}
use Rattle.low_forms.specs.declared.code.BlockNo.{BlockNo}
use Rattle.low_forms.specs.declared.code.Block.{Block}
use Rattle.low_forms.specs.declared.code.LowFunc.{LowFunc}
use Rattle.low_forms.specs.declared.code.LowModule.{LowModule}
use Rattle.low_forms.specs.Registers.{every, reg_type, callee}
use Rattle.low_forms.specs.Fits as fits
use Rattle.low_forms.proofs.Words.{and_left, and_right, and_both}
use Rattle.scf_blocks.specs.declared.body.Failure.{Failure}
use Rattle.scf_blocks.specs.declared.body.Failure.TheVariants.{Constant, Passed}
use Rattle.scf_blocks.specs.declared.body.Close.{Close}
use Rattle.scf_blocks.specs.declared.body.Close.TheVariants.{Returns, Joins, Repeats, Decides}
use Rattle.scf_blocks.specs.Tree.{Var, types_in, typed, Ops, gives, decides, plain, asserts, branches, counts, cycles, calls, tries, awaits}
use Rattle.scf_blocks.specs.Code.{Scope, Code, code_of, block_of, instr, blocks_of, types_of, regs_of, fails_of, failures_of, close, decide, reg_no, block_no, regs, regs_from, operand, with_values, with_vars, low_attr, callee_at, less, add, cond_br, constant, literal, fail, instr_then, ends_by, failure_block, failure_blocks, bit_code, truth, code_type, code_types}
use Rattle.scf_blocks.specs.Lowered.{lowered_func, lowered}
use Rattle.scf_blocks.proofs.Counts.{count_code, length_types}
use Rattle.register_laws.proofs.Lists.{mapped_there}
use Rattle.register_laws.proofs.Views.{types}
use Rattle.block_laws.proofs.Words.{every_append, types_before}
use Rattle.block_laws.proofs.Within.{choice_size, turn_size, cycle_size}
use Rattle.typed_rows.specs.Typed.{Env, with_typed, HasTypes, HasType, AreTypes, IsCode, IsCalled, TypedOps}
use Rattle.typed_rows.proofs.Places.{Stand, stand_front, stand_back, stand_all}
use Rattle.typed_rows.proofs.Envs.{some_types, Agrees, agrees_vars, agrees_values, regs_typed, operand_typed, from_typed}
use Rattle.typed_rows.proofs.Rows.{TakesAt, TakesCode, Callee, inner_same, add_fits, less_fits, bit_fits, literal_fits, br_fits, cond_fits, return_fits, fail_fits, call_fits, await_fits}

-- ---- called functions

-- the registers of a function's parameters
pub params_typed : (funcs : List Func) (g : Func) → types (lowered_func funcs g) (regs_from 0 g.params) ≡ some_types (types_in g.params)
params_typed funcs g =
    let low : LowFunc = lowered_func funcs g in
    from_typed low 0 g.params (stand_front low.regs 0 (types_in g.params) _ (stand_all [] low.regs))

module _ (program : Module) (f : LowFunc) where
  abbrev pub code : LowModule
  code = lowered program

  called_low : (a : Attr) (us vs : List Ty) → IsCalled program.funcs a us vs → Callee code f (low_attr program.funcs a) us vs
  called_low a us vs c = record {
    func = lowered_func program.funcs c.func;
    is = ap (λ (x : Attr). callee code (low_attr program.funcs x)) c.names.carries
        ∙ ap (λ (o : Option ℕ). callee code (callee_at o)) c.names.first
        ∙ mapped_there (lowered_func program.funcs) program.funcs c.names.place c.func c.names.at;
    plainly = c.plainly;
    params = params_typed program.funcs c.func ∙ ap some_types c.params;
    gives = c.gives;
    are_taken = c.are_taken;
    are_given = c.are_given;
  }

  -- ---- code that fits

  pub record Fine (c : Code) : Type 0 where
    instrs : every (fits.inner_fits code f) c.instrs ≡ true
    term : fits.term_fits code f c.term ≡ true
    blocks : every (fits.block_fits code f) c.blocks ≡ true

  pub block_fine : (params : List Reg) (c : Code) → Fine c → every (fits.block_fits code f) (block_of params c) ≡ true
  block_fine params c is =
      and_both (every (fits.inner_fits code f) c.instrs && fits.term_fits code f c.term) (every (fits.block_fits code f) c.blocks)
      (and_both (every (fits.inner_fits code f) c.instrs) (fits.term_fits code f c.term) is.instrs is.term) is.blocks

  three_fine : (X Y Z : Code) (p q r : List Reg) → Fine X → Fine Y → Fine Z → every (fits.block_fits code f) (block_of p X ++ (block_of q Y ++ block_of r Z)) ≡ true
  three_fine X Y Z p q r x y z =
      every_append (fits.block_fits code f) (block_of p X) (block_of q Y ++ block_of r Z) (block_fine p X x)
      (every_append (fits.block_fits code f) (block_of q Y) (block_of r Z) (block_fine q Y y) (block_fine r Z z))

  -- ---- failure blocks

  -- the failure block that stands at this number
  abbrev pub FailAt : ℕ → Failure → Type 0
  FailAt j x = (m : ℕ) × (slice_get f.blocks j ≡ Some (failure_block m x)) × (slice_get f.regs m ≡ Some code_type)

  abbrev pub FailsAt : ℕ → List Failure → Type 0
  FailsAt j [] = Unit {0}
  FailsAt j (x ∷ fs) = FailAt j x × FailsAt (j + 1) fs

  fails_front : (j : ℕ) (xs ys : List Failure) → FailsAt j (xs ++ ys) → FailsAt j xs
  fails_front j [] ys s = tt
  fails_front j (x ∷ xs) ys s = (s.0, fails_front (j + 1) xs ys s.1)

  fails_back : (j : ℕ) (xs ys : List Failure) → FailsAt j (xs ++ ys) → FailsAt (j + length xs) ys
  fails_back j [] ys s = subst (λ k. FailsAt k ys) (let e : j ≡ j + 0 = omega arith in e) s
  fails_back j (x ∷ xs) ys s = subst (λ k. FailsAt k ys) (let e : j + 1 + length xs ≡ j + suc (length xs) = omega arith in e) (fails_back (j + 1) xs ys s.1)

  pub fails_at : (j m : ℕ) (fs : List Failure) → Stand f.blocks j (failure_blocks m fs) → Stand f.regs m (code_types fs) → FailsAt j fs
  fails_at j m [] s r = tt
  fails_at j m (x ∷ fs) s r = ((m, s.0, r.0), fails_at (j + 1) (m + 1) fs s.1 r.1)

  constant_at : (j at : ℕ) → FailAt j (Constant at) → TakesAt code f (block_no j) []
  constant_at j at x = record { block = failure_block x.0 (Constant at); at = x.1; params = refl }

  passed_at : (j : ℕ) → FailAt j Passed → TakesCode code f (block_no j)
  passed_at j x = record { block = failure_block x.0 Passed; at = x.1; reg = x.0; params = refl; type = x.2 }

  -- ---- blocks and registers in their places

  bare_at : (b : ℕ) (c : Code) → slice_get f.blocks b ≡ Some (record { params = []; instrs = c.instrs; term = c.term }) → TakesAt code f (block_no b) []
  bare_at b c at = record { block = record { params = []; instrs = c.instrs; term = c.term }; at = at; params = refl }

  vars_at : (b n : ℕ) (xs : List Var) (c : Code) → slice_get f.blocks b ≡ Some (record { params = regs_from n xs; instrs = c.instrs; term = c.term }) → Stand f.regs n (types_in xs) → TakesAt code f (block_no b) (types_in xs)
  vars_at b n xs c at s = record { block = record { params = regs_from n xs; instrs = c.instrs; term = c.term }; at = at; params = from_typed f n xs s }

  record Parts3 (b : ℕ) (X Y Z : Code) (p q r : List Reg) (x y : ℕ) : Type 0 where
    at_x : slice_get f.blocks (b + 1) ≡ Some (record { params = p; instrs = X.instrs; term = X.term })
    in_x : Stand f.blocks (b + 1 + 1) X.blocks
    at_y : slice_get f.blocks (b + (2 + x)) ≡ Some (record { params = q; instrs = Y.instrs; term = Y.term })
    in_y : Stand f.blocks (b + (2 + x) + 1) Y.blocks
    at_z : slice_get f.blocks (b + (3 + (x + y))) ≡ Some (record { params = r; instrs = Z.instrs; term = Z.term })
    in_z : Stand f.blocks (b + (3 + (x + y)) + 1) Z.blocks

  parts : (b : ℕ) (X Y Z : Code) (p q r : List Reg) (x y : ℕ) → length X.blocks ≡ x → length Y.blocks ≡ y → Stand f.blocks (b + 1) (block_of p X ++ (block_of q Y ++ block_of r Z)) → Parts3 b X Y Z p q r x y
  parts b X Y Z p q r x y ex ey s =
      let front = stand_front f.blocks (b + 1) (block_of p X) (block_of q Y ++ block_of r Z) s in
      let more = stand_back f.blocks (b + 1) (block_of p X) (block_of q Y ++ block_of r Z) s in
      let middle = stand_front f.blocks (b + 1 + suc (length X.blocks)) (block_of q Y) (block_of r Z) more in
      let last = stand_back f.blocks (b + 1 + suc (length X.blocks)) (block_of q Y) (block_of r Z) more in
      let e2 : b + 1 + suc (length X.blocks) ≡ b + (2 + x) = omega (arith, ex) in
      let e3 : b + 1 + suc (length X.blocks) + suc (length Y.blocks) ≡ b + (3 + (x + y)) = omega (arith, ex, ey) in
      let gy = subst (λ n. Stand f.blocks n (block_of q Y)) e2 middle in
      let gz = subst (λ n. Stand f.blocks n (block_of r Z)) e3 last in
      record { at_x = front.0; in_x = front.1; at_y = gy.0; in_y = gy.1; at_z = gz.0; in_z = gz.1 }

  after_vars : (n : ℕ) (xs : List Var) (ts : List Ty) → Stand f.regs n (types_in xs ++ ts) → Stand f.regs (n + length xs) ts
  after_vars n xs ts s = subst (λ k. Stand f.regs (n + k) ts) (length_types xs) (stand_back f.regs n (types_in xs) ts s)

  -- ---- the ends of regions

  -- where a region ends with values of these types, and m is the register that a loop's step makes
  abbrev pub EndFits : Close → ℕ → List Ty → Type 0
  EndFits Returns m ts = (ts ≡ f.results) × AreTypes f.results
  EndFits (Joins b) m ts = TakesAt code f b ts × AreTypes ts
  EndFits (Repeats h v s) m ts = TakesAt code f h (Index ∷ ts) × AreTypes ts × (reg_type f v ≡ Some Index) × (reg_type f s ≡ Some Index) × (slice_get f.regs m ≡ Some Index)
  EndFits (Decides a e) m ts = TakesAt code f a ts × TakesAt code f e ts × AreTypes ts

  close_fine : (end : Close) (n m : ℕ) (vs : List Reg) (ts : List Ty) → n ≡ m → EndFits end m ts → types f vs ≡ some_types ts → Fine (close end n vs)
  close_fine Returns n m vs ts same ends is = record { instrs = refl; term = return_fits code f vs (is ∙ ap some_types ends.0) ends.1; blocks = refl }
  close_fine (Joins b) n m vs ts same ends is = record { instrs = refl; term = br_fits code f b ts vs ends.1 ends.0 is; blocks = refl }
  close_fine (Repeats h v s) n m vs ts same ends is =
      let own : slice_get f.regs n ≡ Some Index = subst (λ k. slice_get f.regs k ≡ Some Index) (sym same) ends.4 in
      record {
        instrs = and_both (fits.inner_fits code f (add (reg_no n) v s)) true (add_fits code f (reg_no n) v s own ends.2 ends.3) refl;
        term = br_fits code f h (Index ∷ ts) (reg_no n ∷ vs) ends.1 ends.0 (ap₂ (λ (o : Option Ty) (os : List (Option Ty)). o ∷ os) own is);
        blocks = refl;
      }
  close_fine (Decides a e) n m vs ts same ends is = record { instrs = refl; term = br_fits code f a ts vs ends.2 ends.0 is; blocks = refl }

  decide_fine : (end : Close) (n m : ℕ) (c : Reg) (vs : List Reg) (ts : List Ty) → n ≡ m → EndFits end m ts → reg_type f c ≡ Some truth → types f vs ≡ some_types ts → Fine (decide end n c vs)
  decide_fine Returns n m c vs ts same ends test is = close_fine Returns n m vs ts same ends is
  decide_fine (Joins b) n m c vs ts same ends test is = close_fine (Joins b) n m vs ts same ends is
  decide_fine (Repeats h v s) n m c vs ts same ends test is = close_fine (Repeats h v s) n m vs ts same ends is
  decide_fine (Decides a e) n m c vs ts same ends test is = record { instrs = refl; term = cond_fits code f c a e ts vs test ends.2 ends.0 ends.1 is; blocks = refl }

  -- ---- code

  pub record Room (ops : Ops) (b n j m : ℕ) (scope : Scope) (end : Close) : Type 0 where
    pub regs : Stand f.regs n (types_of ops)
    pub last : n + regs_of ops ≡ m
    pub blocks : Stand f.blocks (b + 1) (code_of program.funcs ops b n j scope end).blocks
    pub fails : FailsAt j (fails_of ops)

  abbrev pub Typed : Ops → Env → List Ty → Type 0
  Typed = TypedOps program f.results

  pub code_fine : (ops : Ops) (b n j m : ℕ) (scope : Scope) (env : Env) (end : Close) (ts : List Ty) → Room ops b n j m scope end → Agrees f scope env → EndFits end m ts → Typed ops env ts → Fine (code_of program.funcs ops b n j scope end)
  code_fine (gives vs) b n j m scope env end ts room a ends is =
      close_fine end n m (regs scope vs) ts (let l = room.last in omega (arith, l)) ends (regs_typed f scope env vs ts a is)
  code_fine (decides c vs) b n j m scope env end ts room a ends is =
      decide_fine end n m (operand scope c) (regs scope vs) ts (let l = room.last in omega (arith, l)) ends (operand_typed f scope env c truth a is.0) (regs_typed f scope env vs ts a is.1)
  code_fine (plain kind x args rs rest) b n j m scope env end ts room a ends is =
      let size : length (types_in rs ++ types_of rest) ≡ length rs + regs_of rest = types_before rs (types_of rest) in
      let l = room.last in
      let own = stand_front f.regs n (types_in rs) (types_of rest) room.regs in
      let r = code_fine rest b (n + length rs) j m (with_vars rs n scope) (with_typed rs env) end ts
      (record { regs = after_vars n rs (types_of rest) room.regs; last = omega (arith, l, size); blocks = room.blocks; fails = room.fails })
      (agrees_vars f rs n scope env own a) ends is.1 in
      record {
        instrs = and_both (fits.inner_fits code f (instr kind (regs scope args) (regs_from n rs) (low_attr program.funcs x)))
            (every (fits.inner_fits code f) (code_of program.funcs rest b (n + length rs) j (with_vars rs n scope) end).instrs)
            (inner_same code f kind (low_attr program.funcs x) is.0.0 (types_in rs) (regs scope args) (regs_from n rs) (regs_typed f scope env args is.0.0 a is.0.1) (from_typed f n rs own) is.0.2)
            r.instrs;
        term = r.term;
        blocks = r.blocks;
      }
  code_fine (asserts at c rest) b n j m scope env end ts room a ends is =
      let s = room.blocks in
      let l = room.last in
      record {
        instrs = refl;
        term = cond_fits code f (operand scope c) (block_no (b + 1)) (block_no j) [] [] (operand_typed f scope env c truth a is.0) refl (bare_at (b + 1) (code_of program.funcs rest (b + 1) n (j + 1) scope end) s.0) (constant_at j at room.fails.0) refl;
        blocks = block_fine [] _ (code_fine rest (b + 1) n (j + 1) m scope env end ts (record { regs = room.regs; last = l; blocks = s.1; fails = room.fails.1 }) a ends is.2);
      }
  code_fine (branches c on off rs rest) b n j m scope env end ts room a ends is =
      let b2 : ℕ = b + (2 + blocks_of on) in
      let b3 : ℕ = b + (3 + (blocks_of on + blocks_of off)) in
      let n2 : ℕ = n + regs_of on in
      let n3 : ℕ = n + regs_of on + regs_of off in
      let j2 : ℕ = j + failures_of on in
      let j3 : ℕ = j + failures_of on + failures_of off in
      let X : Code = code_of program.funcs on (b + 1) n j scope (Joins (block_no b3)) in
      let Y : Code = code_of program.funcs off b2 n2 j2 scope (Joins (block_no b3)) in
      let Z : Code = code_of program.funcs rest b3 (n3 + length rs) j3 (with_vars rs n3 scope) end in
      let s : Parts3 b X Y Z [] [] (regs_from n3 rs) (blocks_of on) (blocks_of off) = parts b X Y Z [] [] (regs_from n3 rs) (blocks_of on) (blocks_of off)
      (count_code program.funcs on (b + 1) n j scope (Joins (block_no b3))) (count_code program.funcs off b2 n2 j2 scope (Joins (block_no b3))) room.blocks in
      let size = choice_size on off rs rest in
      let l = room.last in
      let more = stand_back f.regs n (types_of on) (types_of off ++ (types_in rs ++ types_of rest)) room.regs in
      let last = stand_back f.regs n2 (types_of off) (types_in rs ++ types_of rest) more in
      let own = stand_front f.regs n3 (types_in rs) (types_of rest) last in
      let fmore = fails_back j (fails_of on) (fails_of off ++ fails_of rest) room.fails in
      let join : TakesAt code f (block_no b3) (types_in rs) × AreTypes (types_in rs) = (vars_at b3 n3 rs Z s.at_z own, is.1) in
      record {
        instrs = refl;
        term = cond_fits code f (operand scope c) (block_no (b + 1)) (block_no b2) [] [] (operand_typed f scope env c truth a is.0) refl (bare_at (b + 1) X s.at_x) (bare_at b2 Y s.at_y) refl;
        blocks = three_fine X Y Z [] [] (regs_from n3 rs)
            (code_fine on (b + 1) n j n2 scope env (Joins (block_no b3)) (types_in rs)
            (record { regs = stand_front f.regs n (types_of on) (types_of off ++ (types_in rs ++ types_of rest)) room.regs; last = refl; blocks = s.in_x; fails = fails_front j (fails_of on) (fails_of off ++ fails_of rest) room.fails }) a join is.2)
            (code_fine off b2 n2 j2 n3 scope env (Joins (block_no b3)) (types_in rs)
            (record { regs = stand_front f.regs n2 (types_of off) (types_in rs ++ types_of rest) more; last = refl; blocks = s.in_y; fails = fails_front j2 (fails_of off) (fails_of rest) fmore }) a join is.3)
            (code_fine rest b3 (n3 + length rs) j3 m (with_vars rs n3 scope) (with_typed rs env) end ts
            (record { regs = after_vars n3 rs (types_of rest) last; last = omega (arith, l, size); blocks = s.in_z; fails = fails_back j2 (fails_of off) (fails_of rest) fmore })
            (agrees_vars f rs n3 scope env own a) ends is.4);
      }
  code_fine (counts lower upper step inits params body rs rest) b n j m scope env end ts room a ends is =
      let n2 : ℕ = n + length params in
      let n3 : ℕ = n2 + 1 + regs_of body in
      let b3 : ℕ = b + (3 + blocks_of body) in
      let j3 : ℕ = j + failures_of body in
      let us = is.1.0 in
      let e = is.1.1 in
      let turn : Close = Repeats (block_no (b + 1)) (reg_no n) (operand scope step) in
      let X : Code = instr_then (less (reg_no n2) (reg_no n) (operand scope upper)) (ends_by (cond_br (reg_no n2) (block_no (b + 2)) (block_no b3) []) []) in
      let Y : Code = code_of program.funcs body (b + 2) (n2 + 1) j (with_vars params n scope) turn in
      let Z : Code = code_of program.funcs rest b3 (n3 + 1) j3 (with_values rs (n + 1) scope) end in
      let s : Parts3 b X Y Z (regs_from n params) [] [] 0 (blocks_of body) = parts b X Y Z (regs_from n params) [] [] 0 (blocks_of body) refl
      (count_code program.funcs body (b + 2) (n2 + 1) j (with_vars params n scope) turn) room.blocks in
      let e3 : b + (3 + (0 + blocks_of body)) ≡ b3 = omega arith in
      let at_z = subst (λ d. slice_get f.blocks d ≡ Some (record { params = []; instrs = Z.instrs; term = Z.term })) e3 s.at_z in
      let in_z = subst (λ d. Stand f.blocks (d + 1) Z.blocks) e3 s.in_z in
      let size = turn_size params body rest truth Index in
      let l = room.last in
      let own : Stand f.regs n (types_in params) = stand_front f.regs n (types_in params) (truth ∷ (types_of body ++ Index ∷ types_of rest)) room.regs in
      let given : Stand f.regs n (Index ∷ us) = subst (λ xs. Stand f.regs n xs) e own in
      let more : Stand f.regs n2 (truth ∷ (types_of body ++ Index ∷ types_of rest)) = after_vars n params (truth ∷ (types_of body ++ Index ∷ types_of rest)) room.regs in
      let last : Stand f.regs n3 (Index ∷ types_of rest) = stand_back f.regs (n2 + 1) (types_of body) (Index ∷ types_of rest) more.1 in
      let head : TakesAt code f (block_no (b + 1)) (Index ∷ us) = subst (λ xs. TakesAt code f (block_no (b + 1)) xs) e (vars_at (b + 1) n params X s.at_x own) in
      record {
        instrs = refl;
        term = br_fits code f (block_no (b + 1)) (Index ∷ us) (operand scope lower ∷ regs scope inits) is.1.2 head
            (ap₂ (λ (o : Option Ty) (os : List (Option Ty)). o ∷ os) (operand_typed f scope env lower Index a is.0.0) (regs_typed f scope env inits us a is.1.3));
        blocks = three_fine X Y Z (regs_from n params) [] []
            (record {
              instrs = and_both (fits.inner_fits code f (less (reg_no n2) (reg_no n) (operand scope upper))) true (less_fits code f (reg_no n2) (reg_no n) (operand scope upper) more.0 given.0 (operand_typed f scope env upper Index a is.0.1)) refl;
              term = cond_fits code f (reg_no n2) (block_no (b + 2)) (block_no b3) [] [] more.0 refl (bare_at (b + 2) Y s.at_y) (bare_at b3 Z at_z) refl;
              blocks = refl;
            })
            (code_fine body (b + 2) (n2 + 1) j n3 (with_vars params n scope) (with_typed params env) turn us
            (record { regs = stand_front f.regs (n2 + 1) (types_of body) (Index ∷ types_of rest) more.1; last = refl; blocks = s.in_y; fails = fails_front j (fails_of body) (fails_of rest) room.fails })
            (agrees_vars f params n scope env own a) (head, is.1.2, given.0, operand_typed f scope env step Index a is.0.2, last.0) is.1.5)
            (code_fine rest b3 (n3 + 1) j3 m (with_values rs (n + 1) scope) (with_typed (typed rs us) env) end ts
            (record { regs = last.1; last = omega (arith, l, size); blocks = in_z; fails = fails_back j (fails_of body) (fails_of rest) room.fails })
            (agrees_values f rs us (n + 1) scope env is.1.4 given.1 a) ends is.1.6);
      }
  code_fine (cycles inits params before passed after rs rest) b n j m scope env end ts room a ends is =
      let b2 : ℕ = b + (2 + blocks_of before) in
      let b3 : ℕ = b + (3 + (blocks_of before + blocks_of after)) in
      let n1 : ℕ = n + length params in
      let n2 : ℕ = n + length params + regs_of before in
      let n3 : ℕ = n2 + length passed + regs_of after in
      let j2 : ℕ = j + failures_of before in
      let j3 : ℕ = j + failures_of before + failures_of after in
      let X : Code = code_of program.funcs before (b + 1) n1 j (with_vars params n scope) (Decides (block_no b2) (block_no b3)) in
      let Y : Code = code_of program.funcs after b2 (n2 + length passed) j2 (with_vars passed n2 scope) (Joins (block_no (b + 1))) in
      let Z : Code = code_of program.funcs rest b3 (n3 + length rs) j3 (with_vars rs n3 scope) end in
      let s : Parts3 b X Y Z (regs_from n params) (regs_from n2 passed) (regs_from n3 rs) (blocks_of before) (blocks_of after) =
      parts b X Y Z (regs_from n params) (regs_from n2 passed) (regs_from n3 rs) (blocks_of before) (blocks_of after)
      (count_code program.funcs before (b + 1) n1 j (with_vars params n scope) (Decides (block_no b2) (block_no b3)))
      (count_code program.funcs after b2 (n2 + length passed) j2 (with_vars passed n2 scope) (Joins (block_no (b + 1)))) room.blocks in
      let size = cycle_size params before passed after rs rest in
      let l = room.last in
      let T3 : List Ty = types_in rs ++ types_of rest in
      let T2 : List Ty = types_in passed ++ (types_of after ++ T3) in
      let own1 = stand_front f.regs n (types_in params) (types_of before ++ T2) room.regs in
      let r1 : Stand f.regs n1 (types_of before ++ T2) = after_vars n params (types_of before ++ T2) room.regs in
      let r2 : Stand f.regs n2 T2 = stand_back f.regs n1 (types_of before) T2 r1 in
      let own2 = stand_front f.regs n2 (types_in passed) (types_of after ++ T3) r2 in
      let r3 : Stand f.regs (n2 + length passed) (types_of after ++ T3) = after_vars n2 passed (types_of after ++ T3) r2 in
      let r4 : Stand f.regs n3 T3 = stand_back f.regs (n2 + length passed) (types_of after) T3 r3 in
      let own3 = stand_front f.regs n3 (types_in rs) (types_of rest) r4 in
      let fmore = fails_back j (fails_of before) (fails_of after ++ fails_of rest) room.fails in
      let head : TakesAt code f (block_no (b + 1)) (types_in params) = vars_at (b + 1) n params X s.at_x own1 in
      let middle : TakesAt code f (block_no b2) (types_in passed) = vars_at b2 n2 passed Y s.at_y own2 in
      let exit : TakesAt code f (block_no b3) (types_in passed) = subst (λ xs. TakesAt code f (block_no b3) xs) is.0.3 (vars_at b3 n3 rs Z s.at_z own3) in
      record {
        instrs = refl;
        term = br_fits code f (block_no (b + 1)) (types_in params) (regs scope inits) is.0.1 head (regs_typed f scope env inits (types_in params) a is.0.0);
        blocks = three_fine X Y Z (regs_from n params) (regs_from n2 passed) (regs_from n3 rs)
            (code_fine before (b + 1) n1 j n2 (with_vars params n scope) (with_typed params env) (Decides (block_no b2) (block_no b3)) (types_in passed)
            (record { regs = stand_front f.regs n1 (types_of before) T2 r1; last = refl; blocks = s.in_x; fails = fails_front j (fails_of before) (fails_of after ++ fails_of rest) room.fails })
            (agrees_vars f params n scope env own1 a) (middle, exit, is.0.2) is.1)
            (code_fine after b2 (n2 + length passed) j2 n3 (with_vars passed n2 scope) (with_typed passed env) (Joins (block_no (b + 1))) (types_in params)
            (record { regs = stand_front f.regs (n2 + length passed) (types_of after) T3 r3; last = refl; blocks = s.in_y; fails = fails_front j2 (fails_of after) (fails_of rest) fmore })
            (agrees_vars f passed n2 scope env own2 a) (head, is.0.1) is.2)
            (code_fine rest b3 (n3 + length rs) j3 m (with_vars rs n3 scope) (with_typed rs env) end ts
            (record { regs = after_vars n3 rs (types_of rest) r4; last = omega (arith, l, size); blocks = s.in_z; fails = fails_back j2 (fails_of after) (fails_of rest) fmore })
            (agrees_vars f rs n3 scope env own3 a) ends is.3);
      }
  code_fine (calls x args rs rest) b n j m scope env end ts room a ends is =
      let size : length (types_in rs ++ types_of rest) ≡ length rs + regs_of rest = types_before rs (types_of rest) in
      let l = room.last in
      let s = room.blocks in
      let own = stand_front f.regs n (types_in rs) (types_of rest) room.regs in
      let Z : Code = code_of program.funcs rest (b + 1) (n + length rs) (j + 1) (with_vars rs n scope) end in
      record {
        instrs = refl;
        term = call_fits code f (low_attr program.funcs x) is.0.0 (types_in rs) (regs scope args) (block_no (b + 1)) (block_no j) (called_low x is.0.0 (types_in rs) is.0.2) (regs_typed f scope env args is.0.0 a is.0.1)
            (vars_at (b + 1) n rs Z s.0 own) (passed_at j room.fails.0);
        blocks = block_fine (regs_from n rs) Z (code_fine rest (b + 1) (n + length rs) (j + 1) m (with_vars rs n scope) (with_typed rs env) end ts
            (record { regs = after_vars n rs (types_of rest) room.regs; last = omega (arith, l, size); blocks = s.1; fails = room.fails.1 })
            (agrees_vars f rs n scope env own a) ends is.1);
      }
  code_fine (tries x args rs rest) b n j m scope env end ts room a ends is =
      let size : length (types_in rs ++ types_of rest) ≡ length rs + regs_of rest = types_before rs (types_of rest) in
      let l = room.last in
      let X : Code = bit_code (reg_no n) (low.Truth true) (block_no (b + 3)) in
      let Y : Code = bit_code (reg_no (n + 2)) (low.Truth false) (block_no (b + 3)) in
      let Z : Code = code_of program.funcs rest (b + 3) (n + 3 + length rs) j (with_vars rs (n + 3) scope) end in
      let s : Parts3 b X Y Z [] (reg_no (n + 1) ∷ []) (regs_from (n + 3) rs) 0 0 = parts b X Y Z [] (reg_no (n + 1) ∷ []) (regs_from (n + 3) rs) 0 0 refl refl room.blocks in
      let e2 : n + 1 + 1 ≡ n + 2 = omega arith in
      let e3 : n + 1 + 1 + 1 ≡ n + 3 = omega arith in
      let after1 : Stand f.regs (n + 1) (code_type ∷ truth ∷ (types_in rs ++ types_of rest)) = room.regs.1 in
      let after2 : Stand f.regs (n + 1 + 1) (truth ∷ (types_in rs ++ types_of rest)) = after1.1 in
      let at2 : slice_get f.regs (n + 2) ≡ Some truth = subst (λ k. slice_get f.regs k ≡ Some truth) e2 after2.0 in
      let r3 : Stand f.regs (n + 3) (types_in rs ++ types_of rest) = subst (λ k. Stand f.regs k (types_in rs ++ types_of rest)) e3 after2.1 in
      let own = stand_front f.regs (n + 3) (types_in rs) (types_of rest) r3 in
      let join : TakesAt code f (block_no (b + 3)) (truth ∷ []) = subst (λ xs. TakesAt code f (block_no (b + 3)) xs) is.1 (vars_at (b + 3) (n + 3) rs Z s.at_z own) in
      record {
        instrs = refl;
        term = call_fits code f (low_attr program.funcs x) is.0.0 [] (regs scope args) (block_no (b + 1)) (block_no (b + 2)) (called_low x is.0.0 [] is.0.2) (regs_typed f scope env args is.0.0 a is.0.1)
            (bare_at (b + 1) X s.at_x) (record { block = record { params = reg_no (n + 1) ∷ []; instrs = Y.instrs; term = Y.term }; at = s.at_y; reg = n + 1; params = refl; type = after1.0 });
        blocks = three_fine X Y Z [] (reg_no (n + 1) ∷ []) (regs_from (n + 3) rs)
            (bit_fine n (b + 3) true room.regs.0 join) (bit_fine (n + 2) (b + 3) false at2 join)
            (code_fine rest (b + 3) (n + 3 + length rs) j m (with_vars rs (n + 3) scope) (with_typed rs env) end ts
            (record { regs = after_vars (n + 3) rs (types_of rest) r3; last = omega (arith, l, size); blocks = s.in_z; fails = room.fails })
            (agrees_vars f rs (n + 3) scope env own a) ends is.2);
      }
    where
      bit_fine : (r to : ℕ) (bit : Bool) → slice_get f.regs r ≡ Some truth → TakesAt code f (block_no to) (truth ∷ []) → Fine (bit_code (reg_no r) (low.Truth bit) (block_no to))
      bit_fine r to bit is t = record {
        instrs = and_both (fits.inner_fits code f (constant (reg_no r) (low.Truth bit))) true (bit_fits code f (reg_no r) bit is) refl;
        term = br_fits code f (block_no to) (truth ∷ []) (reg_no r ∷ []) refl t (ap (λ (o : Option Ty). o ∷ []) is);
        blocks = refl;
      }
  code_fine (awaits at o rs rest) b n j m scope env end ts room a ends is =
      let size : length (types_in rs ++ types_of rest) ≡ length rs + regs_of rest = types_before rs (types_of rest) in
      let l = room.last in
      let s = room.blocks in
      let own = stand_front f.regs n (types_in rs) (types_of rest) room.regs in
      let Z : Code = code_of program.funcs rest (b + 1) (n + length rs) (j + 1) (with_vars rs n scope) end in
      record {
        instrs = refl;
        term = await_fits code f (operand scope o) is.0.0 (types_in rs) (block_no (b + 1)) (block_no j) (operand_typed f scope env o is.0.0 a is.0.1) is.0.2 is.0.3 (vars_at (b + 1) n rs Z s.0 own) (constant_at j at room.fails.0);
        blocks = block_fine (regs_from n rs) Z (code_fine rest (b + 1) (n + length rs) (j + 1) m (with_vars rs n scope) (with_typed rs env) end ts
            (record { regs = after_vars n rs (types_of rest) room.regs; last = omega (arith, l, size); blocks = s.1; fails = room.fails.1 })
            (agrees_vars f rs n scope env own a) ends is.2);
      }

  -- ---- failure blocks

  abbrev pub EachCode : List Failure → Type 0
  EachCode [] = Unit {0}
  EachCode (Constant at ∷ fs) = IsCode at × EachCode fs
  EachCode (Passed ∷ fs) = EachCode fs

  codes_both : (xs ys : List Failure) → EachCode xs → EachCode ys → EachCode (xs ++ ys)
  codes_both [] ys front back = back
  codes_both (Constant at ∷ xs) ys front back = (front.0, codes_both xs ys front.1 back)
  codes_both (Passed ∷ xs) ys front back = codes_both xs ys front back

  pub codes_small : (ops : Ops) (env : Env) (ts : List Ty) → Typed ops env ts → EachCode (fails_of ops)
  codes_small (gives vs) env ts is = tt
  codes_small (decides c vs) env ts is = tt
  codes_small (plain kind x args rs rest) env ts is = codes_small rest (with_typed rs env) ts is.1
  codes_small (asserts at c rest) env ts is = (is.1, codes_small rest env ts is.2)
  codes_small (branches c on off rs rest) env ts is =
      codes_both (fails_of on) (fails_of off ++ fails_of rest) (codes_small on env (types_in rs) is.2)
      (codes_both (fails_of off) (fails_of rest) (codes_small off env (types_in rs) is.3) (codes_small rest (with_typed rs env) ts is.4))
  codes_small (counts lower upper step inits params body rs rest) env ts is =
      codes_both (fails_of body) (fails_of rest) (codes_small body (with_typed params env) is.1.0 is.1.5) (codes_small rest (with_typed (typed rs is.1.0) env) ts is.1.6)
  codes_small (cycles inits params before passed after rs rest) env ts is =
      codes_both (fails_of before) (fails_of after ++ fails_of rest) (codes_small before (with_typed params env) (types_in passed) is.1)
      (codes_both (fails_of after) (fails_of rest) (codes_small after (with_typed passed env) (types_in params) is.2) (codes_small rest (with_typed rs env) ts is.3))
  codes_small (calls x args rs rest) env ts is = codes_small rest (with_typed rs env) ts is.1
  codes_small (tries x args rs rest) env ts is = codes_small rest (with_typed rs env) ts is.2
  codes_small (awaits at o rs rest) env ts is = (is.1, codes_small rest (with_typed rs env) ts is.2)

  pub failures_fine : (m : ℕ) (fs : List Failure) → EachCode fs → Stand f.regs m (code_types fs) → every (fits.block_fits code f) (failure_blocks m fs) ≡ true
  failures_fine m [] small s = refl
  failures_fine m (Constant at ∷ fs) small s =
      and_both (fits.block_fits code f (failure_block m (Constant at))) (every (fits.block_fits code f) (failure_blocks (m + 1) fs))
      (and_both (fits.inner_fits code f (constant (reg_no m) (literal at)) && true) (fits.term_fits code f (fail (reg_no m)))
      (and_both (fits.inner_fits code f (constant (reg_no m) (literal at))) true (literal_fits code f (reg_no m) at small.0 s.0) refl) (fail_fits code f (reg_no m) s.0))
      (failures_fine (m + 1) fs small.1 s.1)
  failures_fine m (Passed ∷ fs) small s =
      and_both (fits.block_fits code f (failure_block m Passed)) (every (fits.block_fits code f) (failure_blocks (m + 1) fs)) (fail_fits code f (reg_no m) s.0) (failures_fine (m + 1) fs small s.1)
