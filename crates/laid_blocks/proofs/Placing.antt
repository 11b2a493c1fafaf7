-- The operations of a function stand in its blocks.
use Rattle.std.proofs.Common.{◌≡◌, ℕ, zero, suc, ◌+◌, true, false, List, [], ◌∷◌, ◌++◌, map, length, Some, refl, ap, subst, ◌∙◌, arith}
use Rattle.std.specs.Prelude.{slice_get}
use Rattle.ir_forms.specs.declared.ops.Func.{Func}
use Rattle.ir_forms.specs.declared.types.Ty.{Ty}
use Rattle.ir_forms.specs.declared.types.Ty.TheVariants.{Index}
use Rattle.low_forms.specs.declared.code.Reg.{Reg}
use Rattle.low_forms.specs.declared.code.Instr.{Instr}
use Rattle.low_forms.specs.declared.code.LowAttr.{LowAttr}
use Rattle.low_forms.specs.declared.code.LowAttr.TheVariants as low
use Rattle.low_forms.specs.declared.code.LowFunc.{LowFunc}
use Rattle.low_forms.specs.Owns.{params_of}
use Rattle.low_forms.specs.Places.{remaining_of}
use Rattle.scf_blocks.specs.declared.body.Failure.{Failure}
use Rattle.scf_blocks.specs.declared.body.Failure.TheVariants.{Constant, Passed}
use Rattle.scf_blocks.specs.declared.body.Close.{Close}
use Rattle.scf_blocks.specs.declared.body.Close.TheVariants.{Returns, Joins, Repeats, Decides}
use Rattle.scf_blocks.specs.Tree.{Var, types_in, Ops, gives, decides, plain, asserts, branches, counts, cycles, calls, tries, awaits}
use Rattle.scf_blocks.specs.Code.{Scope, Code, code_of, block_of, blocks_of, types_of, regs_of, fails_of, failures_of, close_types, reg_no, block_no, regs, regs_from, operand, with_values, with_vars, low_attr, instr, less, cond_br, instr_then, ends_by, failure_block, failure_blocks, bit_code, truth, code_type, code_types}
use Rattle.scf_blocks.specs.Lowered.{lowered_func, func_tree}
use Rattle.scf_blocks.proofs.Counts.{count_code, length_types}
use Rattle.laid_blocks.specs.Placed.{From, Has, Takes, HaveTypes, Fails, Bit, IsPlaced}
use Rattle.laid_blocks.specs.Laws.{BlocksArePlaced, ModuleIsPlaced}
use Rattle.laid_blocks.proofs.Places.{cut, cut_first, joined, at_place, from_part, has_next}

-- ---- numbers of blocks

second_at : (b x p : ℕ) → x ≡ p → b + 1 + suc x ≡ b + (2 + p)
second_at b x p e = omega (arith, e)

third_at : (b p y q : ℕ) → y ≡ q → b + (2 + p) + suc y ≡ b + (3 + (p + q))
third_at b p y q e = omega (arith, e)

two_on : (b : ℕ) → b + 1 + 1 ≡ b + 2
two_on b = omega arith

three_on : (b y q : ℕ) → y ≡ q → b + 2 + suc y ≡ b + (3 + q)
three_on b y q e = omega (arith, e)

one_on : (b : ℕ) → b + 2 + 1 ≡ b + 3
one_on b = omega arith

after_none : (n : ℕ) → 0 + n ≡ n
after_none n = omega arith

module _ (f : LowFunc) where
  -- ---- code and failures that stand somewhere

  -- this code stands from an instruction of a block on, its other blocks behind that one
  record Stands (b i : ℕ) (c : Code) : Type 0 where
    here : Has f b i c.instrs c.term
    blocks : From f.blocks (b + 1) c.blocks

  record Opened (b : ℕ) (params : List Reg) (c : Code) : Type 0 where
    takes : Takes f b params
    stands : Stands b 0 c

  opened : (b : ℕ) (params : List Reg) (c : Code) → From f.blocks b (block_of params c) → Opened b params c
  opened b params c h = record {
    takes = ap params_of h.0;
    stands = record { here = ap (λ o. remaining_of o 0) h.0; blocks = h.1 };
  }

  -- one that has two others behind it
  record Three (b b2 b3 : ℕ) (X Y Z : Code) (xs ys zs : List Reg) : Type 0 where
    first : Opened (b + 1) xs X
    second : Opened b2 ys Y
    third : Opened b3 zs Z

  three : (b b2 b3 : ℕ) (X Y Z : Code) (xs ys zs : List Reg) → b + 1 + suc (length X.blocks) ≡ b2 → b2 + suc (length Y.blocks) ≡ b3 →
      From f.blocks (b + 1) (block_of xs X ++ (block_of ys Y ++ block_of zs Z)) → Three b b2 b3 X Y Z xs ys zs
  three b b2 b3 X Y Z xs ys zs e2 e3 h =
      let s = cut f.blocks (b + 1) (block_of xs X) (block_of ys Y ++ block_of zs Z) h in
      let t = cut f.blocks b2 (block_of ys Y) (block_of zs Z) (at_place f.blocks (b + 1 + suc (length X.blocks)) b2 (block_of ys Y ++ block_of zs Z) e2 s.1) in
      record {
        first = opened (b + 1) xs X s.0;
        second = opened b2 ys Y t.0;
        third = opened b3 zs Z (at_place f.blocks (b2 + suc (length Y.blocks)) b3 (block_of zs Z) e3 t.1);
      }

  -- the blocks of these failures
  abbrev AllFail : (j m : ℕ) → List Failure → Type 0
  AllFail j m [] = Unit {0}
  AllFail j m (x ∷ xs) = Fails f j m x × AllFail (j + 1) (m + 1) xs

  fails_cut : (j m : ℕ) (xs ys : List Failure) → AllFail j m (xs ++ ys) → AllFail j m xs × AllFail (j + length xs) (m + length xs) ys
  fails_cut j m [] ys h =
      (tt, subst (λ a. AllFail a (m + 0) ys) (let e : j ≡ j + 0 = omega arith in e) (subst (λ a. AllFail j a ys) (let e : m ≡ m + 0 = omega arith in e) h))
  fails_cut j m (x ∷ xs) ys h =
      let more = fails_cut (j + 1) (m + 1) xs ys h.1 in (
        (h.0, more.0),
        subst (λ a. AllFail a (m + suc (length xs)) ys) (let e : j + 1 + length xs ≡ j + suc (length xs) = omega arith in e)
            (subst (λ a. AllFail (j + 1 + length xs) a ys) (let e : m + 1 + length xs ≡ m + suc (length xs) = omega arith in e) more.1),
      )

  one_fails : (j m : ℕ) (x : Failure) → slice_get f.blocks j ≡ Some (failure_block m x) → slice_get f.regs m ≡ Some code_type → Fails f j m x
  one_fails j m (Constant at) e t = (ap params_of e, ap (λ o. remaining_of o 0) e, (t, tt))
  one_fails j m Passed e t = (ap params_of e, ap (λ o. remaining_of o 0) e, (t, tt))

  all_fail : (j m : ℕ) (xs : List Failure) → From f.blocks j (failure_blocks m xs) → From f.regs m (code_types xs) → AllFail j m xs
  all_fail j m [] blocks types = tt
  all_fail j m (x ∷ xs) blocks types = (one_fails j m x blocks.0 types.0, all_fail (j + 1) (m + 1) xs blocks.1 types.1)

  -- ---- types

  -- those of values, and what comes behind them
  vars_cut : (n : ℕ) (xs : List Var) (ts us : List Ty) → HaveTypes f n ((types_in xs ++ ts) ++ us) → HaveTypes f n (types_in xs) × HaveTypes f (n + length xs) (ts ++ us)
  vars_cut n xs ts us h =
      let s = cut_first f.regs n (types_in xs) ts us h in
      (s.0, at_place f.regs (n + length (types_in xs)) (n + length xs) (ts ++ us) (ap (λ k. n + k) (length_types xs)) s.1)

  -- those of a region that ends with none of its own
  with_none : (n : ℕ) (ts : List Ty) → HaveTypes f n ts → HaveTypes f n (ts ++ [])
  with_none n ts h = joined f.regs n ts [] h tt

  bit_placed : (b r : ℕ) (bit : LowAttr) (to : ℕ) → Stands b 0 (bit_code (reg_no r) bit (block_no to)) → HaveTypes f r (truth ∷ []) → Bit f b r bit to
  bit_placed b r bit to s t = (s.here, t)

  -- ---- operations

  module _ (funcs : List Func) where
    place : (ops : Ops) (b i n j m : ℕ) (scope : Scope) (end : Close) → Stands b i (code_of funcs ops b n j scope end) → HaveTypes f n (types_of ops ++ close_types end) → AllFail j m (fails_of ops) →
        IsPlaced f funcs ops b i n j m scope end
    place (gives vs) b i n j m scope end s t fails = (s.here, t)
    place (decides c vs) b i n j m scope end s t fails = (s.here, t)
    place (plain kind a args rs rest) b i n j m scope end s t fails =
        let c : Code = code_of funcs rest b (n + length rs) j (with_vars rs n scope) end in
        let x : Instr = instr kind (regs scope args) (regs_from n rs) (low_attr funcs a) in
        let ts = vars_cut n rs (types_of rest) (close_types end) t in
        let next : Stands b (i + 1) c = record { here = has_next (slice_get f.blocks b) i x c.instrs c.term s.here; blocks = s.blocks } in
        ((c.instrs, c.term, s.here), ts.0, place rest b (i + 1) (n + length rs) j m (with_vars rs n scope) end next ts.1 fails)
    place (asserts at c rest) b i n j m scope end s t fails =
        let o = opened (b + 1) [] (code_of funcs rest (b + 1) n (j + 1) scope end) s.blocks in
        (s.here, fails.0, o.takes, place rest (b + 1) 0 n (j + 1) (m + 1) scope end o.stands t fails.1)
    place (branches c on off rs rest) b i n j m scope end s t fails =
        let b2 : ℕ = b + (2 + blocks_of on) in
        let b3 : ℕ = b + (3 + (blocks_of on + blocks_of off)) in
        let n2 : ℕ = n + regs_of on in
        let n3 : ℕ = n + regs_of on + regs_of off in
        let X : Code = code_of funcs on (b + 1) n j scope (Joins (block_no b3)) in
        let Y : Code = code_of funcs off b2 n2 (j + failures_of on) scope (Joins (block_no b3)) in
        let Z : Code = code_of funcs rest b3 (n3 + length rs) (j + failures_of on + failures_of off) (with_vars rs n3 scope) end in
        let kx : length X.blocks ≡ blocks_of on = count_code funcs on (b + 1) n j scope (Joins (block_no b3)) in
        let ky : length Y.blocks ≡ blocks_of off = count_code funcs off b2 n2 (j + failures_of on) scope (Joins (block_no b3)) in
        let o = three b b2 b3 X Y Z [] [] (regs_from n3 rs) (second_at b (length X.blocks) (blocks_of on) kx) (third_at b (blocks_of on) (length Y.blocks) (blocks_of off) ky) s.blocks in
        let t1 = cut_first f.regs n (types_of on) (types_of off ++ (types_in rs ++ types_of rest)) (close_types end) t in
        let t2 = cut_first f.regs n2 (types_of off) (types_in rs ++ types_of rest) (close_types end) t1.1 in
        let t3 = vars_cut n3 rs (types_of rest) (close_types end) t2.1 in
        let f1 = fails_cut j m (fails_of on) (fails_of off ++ fails_of rest) fails in
        let f2 = fails_cut (j + failures_of on) (m + failures_of on) (fails_of off) (fails_of rest) f1.1 in (
          s.here,
          o.first.takes,
          place on (b + 1) 0 n j m scope (Joins (block_no b3)) o.first.stands (with_none n (types_of on) t1.0) f1.0,
          o.second.takes,
          place off b2 0 n2 (j + failures_of on) (m + failures_of on) scope (Joins (block_no b3)) o.second.stands (with_none n2 (types_of off) t2.0) f2.0,
          o.third.takes,
          t3.0,
          place rest b3 0 (n3 + length rs) (j + failures_of on + failures_of off) (m + failures_of on + failures_of off) (with_vars rs n3 scope) end o.third.stands t3.1 f2.1,
        )
    place (counts lower upper step inits params body rs rest) b i n j m scope end s t fails =
        let n2 : ℕ = n + length params in
        let n3 : ℕ = n2 + 1 + regs_of body in
        let b3 : ℕ = b + (3 + blocks_of body) in
        let turn : Close = Repeats (block_no (b + 1)) (reg_no n) (operand scope step) in
        let X : Code = instr_then (less (reg_no n2) (reg_no n) (operand scope upper)) (ends_by (cond_br (reg_no n2) (block_no (b + 2)) (block_no b3) []) []) in
        let Y : Code = code_of funcs body (b + 2) (n2 + 1) j (with_vars params n scope) turn in
        let Z : Code = code_of funcs rest b3 (n3 + 1) (j + failures_of body) (with_values rs (n + 1) scope) end in
        let ky : length Y.blocks ≡ blocks_of body = count_code funcs body (b + 2) (n2 + 1) j (with_vars params n scope) turn in
        let o = three b (b + 2) b3 X Y Z (regs_from n params) [] [] (two_on b) (three_on b (length Y.blocks) (blocks_of body) ky) s.blocks in
        let t1 = vars_cut n params (truth ∷ (types_of body ++ Index ∷ types_of rest)) (close_types end) t in
        let t2 = cut_first f.regs (n2 + 1) (types_of body) (Index ∷ types_of rest) (close_types end) t1.1.1 in
        let tb = joined f.regs (n2 + 1) (types_of body) (Index ∷ []) t2.0 (t2.1.0, tt) in
        let fs = fails_cut j m (fails_of body) (fails_of rest) fails in (
          s.here,
          o.first.takes,
          t1.0,
          (t1.1.0, tt),
          o.first.stands.here,
          o.second.takes,
          place body (b + 2) 0 (n2 + 1) j m (with_vars params n scope) turn o.second.stands tb fs.0,
          o.third.takes,
          place rest b3 0 (n3 + 1) (j + failures_of body) (m + failures_of body) (with_values rs (n + 1) scope) end o.third.stands t2.1.1 fs.1,
        )
    place (cycles inits params before passed after rs rest) b i n j m scope end s t fails =
        let b2 : ℕ = b + (2 + blocks_of before) in
        let b3 : ℕ = b + (3 + (blocks_of before + blocks_of after)) in
        let n1 : ℕ = n + length params in
        let n2 : ℕ = n + length params + regs_of before in
        let n3 : ℕ = n2 + length passed + regs_of after in
        let test : Close = Decides (block_no b2) (block_no b3) in
        let again : Close = Joins (block_no (b + 1)) in
        let X : Code = code_of funcs before (b + 1) n1 j (with_vars params n scope) test in
        let Y : Code = code_of funcs after b2 (n2 + length passed) (j + failures_of before) (with_vars passed n2 scope) again in
        let Z : Code = code_of funcs rest b3 (n3 + length rs) (j + failures_of before + failures_of after) (with_vars rs n3 scope) end in
        let kx : length X.blocks ≡ blocks_of before = count_code funcs before (b + 1) n1 j (with_vars params n scope) test in
        let ky : length Y.blocks ≡ blocks_of after = count_code funcs after b2 (n2 + length passed) (j + failures_of before) (with_vars passed n2 scope) again in
        let o = three b b2 b3 X Y Z (regs_from n params) (regs_from n2 passed) (regs_from n3 rs) (second_at b (length X.blocks) (blocks_of before) kx) (third_at b (blocks_of before) (length Y.blocks) (blocks_of after) ky) s.blocks in
        let t1 = vars_cut n params (types_of before ++ (types_in passed ++ (types_of after ++ (types_in rs ++ types_of rest)))) (close_types end) t in
        let t2 = cut_first f.regs n1 (types_of before) (types_in passed ++ (types_of after ++ (types_in rs ++ types_of rest))) (close_types end) t1.1 in
        let t3 = vars_cut n2 passed (types_of after ++ (types_in rs ++ types_of rest)) (close_types end) t2.1 in
        let t4 = cut_first f.regs (n2 + length passed) (types_of after) (types_in rs ++ types_of rest) (close_types end) t3.1 in
        let t5 = vars_cut n3 rs (types_of rest) (close_types end) t4.1 in
        let f1 = fails_cut j m (fails_of before) (fails_of after ++ fails_of rest) fails in
        let f2 = fails_cut (j + failures_of before) (m + failures_of before) (fails_of after) (fails_of rest) f1.1 in (
          s.here,
          o.first.takes,
          t1.0,
          place before (b + 1) 0 n1 j m (with_vars params n scope) test o.first.stands (with_none n1 (types_of before) t2.0) f1.0,
          o.second.takes,
          t3.0,
          place after b2 0 (n2 + length passed) (j + failures_of before) (m + failures_of before) (with_vars passed n2 scope) again o.second.stands (with_none (n2 + length passed) (types_of after) t4.0) f2.0,
          o.third.takes,
          t5.0,
          place rest b3 0 (n3 + length rs) (j + failures_of before + failures_of after) (m + failures_of before + failures_of after) (with_vars rs n3 scope) end o.third.stands t5.1 f2.1,
        )
    place (calls a args rs rest) b i n j m scope end s t fails =
        let o = opened (b + 1) (regs_from n rs) (code_of funcs rest (b + 1) (n + length rs) (j + 1) (with_vars rs n scope) end) s.blocks in
        let ts = vars_cut n rs (types_of rest) (close_types end) t in
        (s.here, fails.0, o.takes, ts.0, place rest (b + 1) 0 (n + length rs) (j + 1) (m + 1) (with_vars rs n scope) end o.stands ts.1 fails.1)
    place (tries a args rs rest) b i n j m scope end s t fails =
        let X : Code = bit_code (reg_no n) (low.Truth true) (block_no (b + 3)) in
        let Y : Code = bit_code (reg_no (n + 2)) (low.Truth false) (block_no (b + 3)) in
        let Z : Code = code_of funcs rest (b + 3) (n + 3 + length rs) j (with_vars rs (n + 3) scope) end in
        let o = three b (b + 2) (b + 3) X Y Z [] (reg_no (n + 1) ∷ []) (regs_from (n + 3) rs) (two_on b) (one_on b) s.blocks in
        let bad : HaveTypes f (n + 2) (truth ∷ []) = at_place f.regs (n + 1 + 1) (n + 2) (truth ∷ []) (let e : n + 1 + 1 ≡ n + 2 = omega arith in e) (t.1.1.0, tt) in
        let left = at_place f.regs (n + 1 + 1 + 1) (n + 3) ((types_in rs ++ types_of rest) ++ close_types end) (let e : n + 1 + 1 + 1 ≡ n + 3 = omega arith in e) t.1.1.1 in
        let ts = vars_cut (n + 3) rs (types_of rest) (close_types end) left in (
          s.here,
          o.first.takes,
          bit_placed (b + 1) n (low.Truth true) (b + 3) o.first.stands (t.0, tt),
          o.second.takes,
          (t.1.0, tt),
          bit_placed (b + 2) (n + 2) (low.Truth false) (b + 3) o.second.stands bad,
          o.third.takes,
          ts.0,
          place rest (b + 3) 0 (n + 3 + length rs) j m (with_vars rs (n + 3) scope) end o.third.stands ts.1 fails,
        )
    place (awaits at x rs rest) b i n j m scope end s t fails =
        let o = opened (b + 1) (regs_from n rs) (code_of funcs rest (b + 1) (n + length rs) (j + 1) (with_vars rs n scope) end) s.blocks in
        let ts = vars_cut n rs (types_of rest) (close_types end) t in
        (s.here, fails.0, o.takes, ts.0, place rest (b + 1) 0 (n + length rs) (j + 1) (m + 1) (with_vars rs n scope) end o.stands ts.1 fails.1)

-- ---- functions

pub blocks_are_placed : BlocksArePlaced
blocks_are_placed funcs g =
    let f : LowFunc = lowered_func funcs g in
    let ops : Ops = func_tree g in
    let n : ℕ = length g.params in
    let scope : Scope = with_vars g.params 0 [] in
    let c : Code = code_of funcs ops 0 n (blocks_of ops + 1) scope Returns in
    let blocks = cut f.blocks 0 (block_of [] c) (failure_blocks (n + regs_of ops) (fails_of ops)) (from_part f.blocks [] f.blocks refl) in
    let k : length c.blocks ≡ blocks_of ops = count_code funcs ops 0 n (blocks_of ops + 1) scope Returns in
    let size : 0 + suc (length c.blocks) ≡ blocks_of ops + 1 = omega (arith, k) in
    let last = at_place f.blocks (0 + suc (length c.blocks)) (blocks_of ops + 1) (failure_blocks (n + regs_of ops) (fails_of ops)) size blocks.1 in
    let params = cut f.regs 0 (types_in g.params) (types_of ops ++ code_types (fails_of ops)) (from_part f.regs [] f.regs refl) in
    let inner = at_place f.regs (0 + length (types_in g.params)) n (types_of ops ++ code_types (fails_of ops)) (after_none (length (types_in g.params)) ∙ length_types g.params) params.1 in
    let types = cut f.regs n (types_of ops) (code_types (fails_of ops)) inner in
    let fails = all_fail f (blocks_of ops + 1) (n + regs_of ops) (fails_of ops) last types.1 in
    let o = opened f 0 [] c blocks.0 in
    record {
      params = refl;
      types = params.0;
      takes = o.takes;
      placed = place f funcs ops 0 0 n (blocks_of ops + 1) (n + regs_of ops) scope Returns o.stands (with_none f n (types_of ops) types.0) fails;
    }

got_map : (funcs fs : List Func) (k : ℕ) (g : Func) → slice_get fs k ≡ Some g → slice_get (map (lowered_func funcs) fs) k ≡ Some (lowered_func funcs g)
got_map funcs [] k g e = cc
got_map funcs (x ∷ fs) zero g e = let h : x ≡ g = cc in ap (λ y. Some (lowered_func funcs y)) h
got_map funcs (x ∷ fs) (suc k) g e = got_map funcs fs k g e

pub module_is_placed : ModuleIsPlaced
module_is_placed program k g e = (lowered_func program.funcs g, got_map program.funcs program.funcs k g e, blocks_are_placed program.funcs g)
