-- What follows a failure, a loop's head, and the end of a region.
use Rattle.std.proofs.Common.{◌≡◌, ◌<◌, ◌≤◌, ◌^◌, ◌%◌, ℕ, zero, suc, ◌+◌, nat_eq, cond, Bool, true, false, List, [], ◌∷◌, length, Some, None, slice_get, refl, sym, ap, ap₂, subst, ◌∙◌, arith}
use Rattle.int_ops.specs.Arithmetic.{compares}
use Rattle.int_ops.specs.declared.Pred.TheVariants.{Slt}
use Rattle.ir_forms.specs.declared.ops.Op.{Op}
use Rattle.ir_forms.specs.declared.ops.ValueNo.{ValueNo}
use Rattle.ir_verify.specs.declared.place.Nest.{Nest}
use Rattle.low_forms.specs.declared.code.Instr.{Instr}
use Rattle.low_forms.specs.declared.code.LowAttr.TheVariants as low_attr
use Rattle.low_forms.specs.declared.code.LowFunc.{LowFunc}
use Rattle.low_forms.specs.declared.code.LowModule.{LowModule}
use Rattle.low_forms.specs.declared.code.Reg.{Reg}
use Rattle.source_meaning.specs.declared.values.Val as source
use Rattle.source_meaning.specs.declared.values.Val.TheVariants.{Number}
use Rattle.source_meaning.specs.Parts.{Node, region_of, ops_in}
use Rattle.source_meaning.specs.Rows.{bit, is_below}
use Rattle.source_meaning.specs.Values.{Env, maybe, named, bind, put, values_at}
use Rattle.source_meaning.specs.Values as source_values
use Rattle.source_meaning.specs.Flow.{entered, turned, caught, fails}
use Rattle.source_meaning.specs.Tasks.{Program, After, Turns, Tries, Task, Next, Goes, Asks, Ends, bound}
use Rattle.async_objects.specs.declared.kinds.Val.{Val}
use Rattle.async_objects.specs.declared.kinds.Val.TheVariants as val
use Rattle.task_stack.specs.declared.effects.Number.TheVariants as number
use Rattle.task_stack.specs.declared.frames.Frame.{Frame}
use Rattle.task_stack.specs.Frames.{Stack, went}
use Rattle.task_stack.specs.Local.{operands, with_top}
use Rattle.task_stack.specs.Numbers.{computed}
use Rattle.task_stack.specs.Registers as low
use Rattle.task_stack.specs.Registers.{held, number_in}
use Rattle.task_stack.specs.Shared.{moved}
use Rattle.scf_blocks.specs.declared.body.Close.{Close}
use Rattle.scf_blocks.specs.declared.body.Close.TheVariants as close
use Rattle.scf_blocks.specs.Code.{Scope, known, reg, reg_no, block_no, regs_from, with_values, br, cond_br, fail, constant, literal, less}
use Rattle.block_carry.specs.Same.{Known, AreSame, Agree}
use Rattle.block_carry.specs.Rows.{AreBefore}
use Rattle.block_carry.specs.Laid.{Has, FailsAt, GivesBit, Begins, IsLoop}
use Rattle.block_carry.specs.Stands.{HasNumber, Fits, ends, joins, turns, tests, repeats, returns, tries, Stands}
use Rattle.block_carry.specs.Follows.{quiet, quiets, Comes}
use Rattle.block_carry.proofs.Values.{held_put, held_below, same_regs, before_more, before_values, within_values, known_first, visible_reg, agree_number, agree_reg, agree_values, agree_more, named_put, named_new}
use Rattle.block_carry.proofs.Moves.{has_next, whole, to, jump_quiet, decide_quiet, compute_quiet, stack_of, fail_quiet}
use Rattle.block_carry.proofs.Stays.{wider, task, lands}

module _ (p : Program) (code : LowModule) (k : Known) where
  -- one step more in front
  pub before : (s a : Stack) (x : Next) → quiet code s ≡ Some a → Comes p code k a x → Comes p code k s x
  before s a (Goes t) q g = (suc g.0, g.1, ap (maybe None (quiets code (suc g.0))) q ∙ g.2, g.3)
  before s a (Asks number ask xs t) q g = (suc g.0, g.1, ap (maybe None (quiets code g.0)) q ∙ g.2, g.3)
  before s a (Ends o) q g = (suc g.0, g.1, ap (maybe None (quiets code g.0)) q ∙ g.2, g.3)

  -- one step
  pub here : (s a : Stack) (t : Task) → quiet code s ≡ Some a → Stands p code k t a → Comes p code k s (Goes t)
  here s a t q st = (zero, a, ap (maybe None (quiets code zero)) q, st)

  -- ---- bits

  bit_small : (b : Bool) → bit b % 2 ^ 1 ≡ bit b
  bit_small true = refl
  bit_small false = refl

  -- a block that gives a bit to another
  pub gives_bit : (place : ℕ) (nest : Nest) (f : LowFunc) (end : Close) (a b join n : ℕ) (xs : List ValueNo) (scope : Scope) (rest : List Op) (frames : List (After × List Op)) (env : Env) (b1 : Bool) (vs : List Val) (s : Stack) →
      slice_get code.funcs s.top.current.place.func.0 ≡ Some f → GivesBit f b b1 join scope → Begins p code place f end a join n xs scope rest → Agree k scope env (to code f b vs s).top.current.regs → length xs ≤ 1 →
      Fits p code k place f end a scope env frames s.below → Comes p code k (to code f b vs s) (Goes (task p code place nest rest frames (bind xs (Number (bit b1) ∷ []) env)))
  gives_bit place nest f end a b join n xs scope rest frames env b1 vs s is g begins agree few fits =
      let s0 : Stack = to code f b vs s in
      let x : Instr = constant (reg_no g.m) (low_attr.Truth b1) in
      let s1 : Stack = moved (reg_no g.m ∷ []) (val.Number (bit b1) ∷ []) s0 in
      let comes : computed number.Constant f x (operands s0 x) ≡ Some (val.Number (bit b1)) = ap (λ w. Some (val.Number (bit b1 % 2 ^ w))) g.narrow ∙ ap (λ y. Some (val.Number y)) (bit_small b1) in
      let s2 : quiet code s1 ≡ Some (to code f join (val.Number (bit b1) ∷ []) s1) =
      jump_quiet code s1 f join (reg_no g.m ∷ []) is (has_next f b 0 x [] (br (block_no join) (reg_no g.m ∷ [])) g.has)
      ∙ ap (λ y. Some (to code f join (y ∷ []) s1)) (held_put s0.top.current.regs g.m (val.Number (bit b1))) in
      let t : Task = task p code place nest rest frames (bind xs (Number (bit b1) ∷ []) env) in
      before s0 s1 (Goes t) (compute_quiet code s0 f x [] (br (block_no join) (reg_no g.m ∷ [])) number.Constant (val.Number (bit b1)) refl comes is g.has)
      (here s1 (to code f join (val.Number (bit b1) ∷ []) s1) t s2
      (lands p code k place nest f end a join n xs scope rest frames env (Number (bit b1) ∷ []) (val.Number (bit b1) ∷ []) s1 is begins
      (agree_reg k scope g.m g.m env s0.top.current.regs (val.Number (bit b1)) g.before (omega arith) agree) (refl, tt) few fits))

  -- ---- failures

  -- a failure goes down through the frames
  pub unwinds : {place : ℕ} {f : LowFunc} {end : Close} {a : ℕ} {scope : Scope} {env : Env} {frames : List (After × List Op)} {below : List Frame} (root : Bool) (top : Frame) (r : Reg) (x : ℕ) (t : Task) → t.pending ≡ [] →
      Fits p code k place f end a scope env frames below → slice_get code.funcs top.current.place.func.0 ≡ Some f → Has f top.current.place.block.0 top.current.place.at [] (fail r) → number_in (held top.current.regs r.0) ≡ x → x < 2 ^ 32 →
      Comes p code k (stack_of code root top below) (caught x frames t)
  unwinds root top r x t none (ends place f a scope env) is has num small = (zero, stack_of code root top [], refl, record { f = f; is = is; last = refl; ends = (r, has, num, small) })
  unwinds root top r x t none (joins place f end a scope env xs rest frames below w g) is has num small = unwinds root top r x t none g is has num small
  unwinds root top r x t none (turns place f end a scope env o i upper step rest frames below w g) is has num small = unwinds root top r x t none g is has num small
  unwinds root top r x t none (tests place f end a scope env o rest frames below w g) is has num small = unwinds root top r x t none g is has num small
  unwinds root top r x t none (repeats place f end a scope env o rest frames below w g) is has num small = unwinds root top r x t none g is has num small
  unwinds root top r x t none (returns place f end a scope env s xs rest frames frame below w g) is has num small =
      let c = w.called in
      let v : Val = val.Number (number_in (held top.current.regs r.0)) in
      let s1 : Stack = to code c.f c.failure (v ∷ []) (stack_of code root frame below) in
      before (stack_of code root top (frame ∷ below)) s1 (caught x frames t) (fail_quiet code p root top frame below f r c is has)
      (unwinds root s1.top (reg_no w.fails.m) x t none g c.is w.fails.has
      (ap (λ ps. number_in (held (low.bind ps (v ∷ []) frame.current.regs) w.fails.m)) w.fails.params ∙ ap number_in (held_put frame.current.regs w.fails.m v) ∙ num) small)
  unwinds root top r x t none (tries place f end a scope env s xs rest frames frame below w g) is has num small =
      let c = w.called in
      let v : Val = val.Number (number_in (held top.current.regs r.0)) in
      let s0 : Stack = stack_of code root frame below in
      let agree : Agree k w.outer s.env (to code c.f c.failure (v ∷ []) s0).top.current.regs =
      subst (λ ps. Agree k w.outer s.env (low.bind ps (v ∷ []) frame.current.regs)) (sym w.catches) (agree_reg k w.outer w.error w.error s.env frame.current.regs v w.before (omega arith) w.agree) in
      let done : Task = task p code s.func s.nest rest frames (bind xs (Number 0 ∷ []) s.env) in
      let same : done ≡ bound xs (Number 0 ∷ []) (record t { rest = rest; frames = frames; scope = s }) = ap (λ ps. record done { pending = ps }) (sym none) in
      before (stack_of code root top (frame ∷ below)) (to code c.f c.failure (v ∷ []) s0) (caught x ((Tries s xs, rest) ∷ frames) t) (fail_quiet code p root top frame below f r c is has)
      (subst (λ d. Comes p code k (to code c.f c.failure (v ∷ []) s0) (Goes d)) same
      (gives_bit s.func s.nest c.f w.end_outer w.a_outer c.failure w.join w.n xs w.outer rest frames s.env false (v ∷ []) s0 c.is w.bad w.on agree w.few g))

  number_small : (x : ℕ) → x < 2 ^ 32 → x % 2 ^ 64 % 2 ^ 64 ≡ x
  number_small x small = ap (λ y. y % 2 ^ 64) (whole x (omega (arith, small))) ∙ whole x (omega (arith, small))

  -- the failure block of an operation
  pub fails_here : {place : ℕ} {f : LowFunc} {end : Close} {a : ℕ} {scope : Scope} {env : Env} {below : List Frame} (root : Bool) (top : Frame) (x : ℕ) (t : Task) → t.pending ≡ [] →
      Fits p code k place f end a scope env t.frames below → slice_get code.funcs top.current.place.func.0 ≡ Some f → FailsAt f top.current.place.block.0 x → top.current.place.at ≡ 0 →
      Comes p code k (stack_of code root top below) (fails x t)
  fails_here {f = f} {below = below} root top x t none fits is fb start =
      let s0 : Stack = stack_of code root top below in
      let i : Instr = constant (reg_no fb.m) (literal x) in
      let s1 : Stack = moved (reg_no fb.m ∷ []) (val.Number x ∷ []) s0 in
      let has : Has f top.current.place.block.0 top.current.place.at (i ∷ []) (fail (reg_no fb.m)) = subst (λ j. Has f top.current.place.block.0 j (i ∷ []) (fail (reg_no fb.m))) (sym start) fb.has in
      let comes : computed number.Constant f i (operands s0 i) ≡ Some (val.Number x) = ap (λ w. Some (val.Number (x % 2 ^ 64 % 2 ^ w))) fb.wide ∙ ap (λ y. Some (val.Number y)) (number_small x fb.small) in
      before s0 s1 (fails x t) (compute_quiet code s0 f i [] (fail (reg_no fb.m)) number.Constant (val.Number x) refl comes is has)
      (unwinds root s1.top (reg_no fb.m) x t none fits is (has_next f top.current.place.block.0 top.current.place.at i [] (fail (reg_no fb.m)) has) (ap number_in (held_put top.current.regs fb.m (val.Number x))) fb.small)

  -- ---- loops

  below_is : (i upper : ℕ) → i < 2 ^ 64 → upper < 2 ^ 64 → bit (compares 64 Slt (i % 2 ^ 64) (upper % 2 ^ 64)) ≡ bit (is_below i upper)
  below_is i upper si su = ap₂ (λ x y. bit (compares 64 Slt x y)) (whole i si) (whole upper su)

  -- a loop's head decides between its body and what follows
  pub at_head : (place : ℕ) (nest : Nest) (f : LowFunc) (end : Close) (a : ℕ) (scope : Scope) (o : Node) (rest : List Op) (u s : ValueNo) (head v : ℕ) (loop : IsLoop p code place f end a scope o rest u s head v)
      (frames : List (After × List Op)) (env : Env) (i upper step : ℕ) (vs : List source.Val) (ws : List Val) (st : Stack) →
      slice_get code.funcs st.top.current.place.func.0 ≡ Some f → Agree k scope env st.top.current.regs → i < 2 ^ 64 → upper < 2 ^ 64 → HasNumber env u upper → HasNumber env s step → AreSame k vs ws → length loop.carried ≤ length vs →
      Fits p code k place f end a scope env frames st.below →
      Comes p code k (to code f head (val.Number i ∷ ws) st) (Goes (turned o i upper step vs (task p code place nest rest frames env)))
  at_head place nest f end a scope o rest u s head v loop frames env i upper step vs ws st is agree si su upper_is step_is same few fits =
      subst (λ (q : Stack). Comes p code k q (Goes (turned o i upper step vs t))) entry (before s0 (s1 (is_below i upper)) (Goes (turned o i upper step vs t)) first (by (is_below i upper)))
    where
      t : Task
      t = task p code place nest rest frames env

      xs : List ValueNo
      xs = loop.variable ∷ loop.carried

      at_block : List Reg → Stack
      at_block ps = with_top st (went (record { regs = ps; block = Some (block_no head) }) (val.Number i ∷ ws) st.top)

      s0 : Stack
      s0 = at_block (regs_from v xs)

      entry : s0 ≡ to code f head (val.Number i ∷ ws) st
      entry = ap at_block (sym loop.opens.params)

      regs1 : List Val
      regs1 = low.put st.top.current.regs v (val.Number i)

      test : Instr
      test = less (reg_no loop.test) (reg_no v) (reg scope u)

      s1 : Bool → Stack
      s1 z = moved (reg_no loop.test ∷ []) (val.Number (bit z) ∷ []) s0

      agree0 : Agree k scope env s0.top.current.regs
      agree0 = agree_more k scope v env st.top.current.regs xs (val.Number i ∷ ws) loop.opens.before agree

      left_is : number_in (held s0.top.current.regs v) ≡ i
      left_is = ap number_in (held_below regs1 ws (v + 1) v loop.carried (omega arith) ∙ held_put st.top.current.regs v (val.Number i))

      right_is : number_in (held s0.top.current.regs (reg scope u).0) ≡ upper
      right_is = agree_number k scope env s0.top.current.regs u agree0 loop.visible.0 ∙ upper_is

      comes : computed number.Compare f test (operands s0 test) ≡ Some (val.Number (bit (is_below i upper)))
      comes = ap (λ w. Some (val.Number (bit (compares w Slt (number_in (held s0.top.current.regs v) % 2 ^ w) (number_in (held s0.top.current.regs (reg scope u).0) % 2 ^ w))))) loop.wide
          ∙ ap₂ (λ x y. Some (val.Number (bit (compares 64 Slt (x % 2 ^ 64) (y % 2 ^ 64))))) left_is right_is ∙ ap (λ y. Some (val.Number y)) (below_is i upper si su)

      first : quiet code s0 ≡ Some (s1 (is_below i upper))
      first = compute_quiet code s0 f test [] (cond_br (reg_no loop.test) (block_no loop.body) (block_no loop.exit) []) number.Compare (val.Number (bit (is_below i upper))) refl comes is loop.has

      has1 : Has f head (0 + 1) [] (cond_br (reg_no loop.test) (block_no loop.body) (block_no loop.exit) [])
      has1 = has_next f head 0 test [] (cond_br (reg_no loop.test) (block_no loop.body) (block_no loop.exit) []) loop.has

      env1 : Env
      env1 = bind xs (Number i ∷ vs) env

      scope1 : Scope
      scope1 = with_values xs v scope

      test_before : AreBefore scope1 loop.test
      test_before = before_more scope1 (v + length xs) loop.test (omega (arith, loop.before)) (before_values scope xs v loop.opens.before)

      agree1 : (z : Bool) → Agree k scope1 env1 (s1 z).top.current.regs
      agree1 z = agree_reg k scope1 loop.test loop.test env1 s0.top.current.regs (val.Number (bit z)) test_before (omega arith)
          (agree_values k scope xs v env st.top.current.regs (Number i ∷ vs) (val.Number i ∷ ws) (omega (arith, few)) loop.opens.before (refl, same) agree)

      keeps : (x : ℕ) (r : Reg) → known scope x ≡ Some r → named env1 x ≡ named env x
      keeps x r e = named_new scope xs v env (Number i ∷ vs) x r loop.opens.new e

      fits1 : Fits p code k place f (close.Repeats (block_no head) (reg_no v) (reg scope s)) (length loop.carried) scope1 env1 ((Turns o i upper step, rest) ∷ frames) st.below
      fits1 = turns place f (close.Repeats (block_no head) (reg_no v) (reg scope s)) (length loop.carried) scope1 env1 o i upper step rest frames st.below
          (record {
            head = head;
            v = v;
            u = u;
            s = s;
            outer = scope;
            end_outer = end;
            a_outer = a;
            loop = loop;
            closes = refl;
            within = λ x r e. e;
            variable_is = ap source_values.number_in (named_new ((loop.variable, reg_no v) ∷ scope) loop.carried (v + 1) (put env loop.variable.0 (Number i)) vs loop.variable.0 (reg_no v) loop.opens.new.1 (known_first scope loop.variable (reg_no v)) ∙ named_put env loop.variable.0 (Number i));
            upper_is = ap source_values.number_in (keeps u.0 (reg scope u) (visible_reg scope u loop.visible.0)) ∙ upper_is;
            step_is = ap source_values.number_in (keeps s.0 (reg scope s) (visible_reg scope s loop.visible.1.0)) ∙ step_is;
            small = su;
            many = refl;
          })
          (wider p code k scope env1 (λ x r e. e) keeps fits)

      into_body : Stands p code k (task p code place nest (ops_in (region_of o 0)) ((Turns o i upper step, rest) ∷ frames) env1) (to code f loop.body [] (s1 true))
      into_body = lands p code k place nest f (close.Repeats (block_no head) (reg_no v) (reg scope s)) (length loop.carried) loop.body loop.m [] scope1 (ops_in (region_of o 0)) ((Turns o i upper step, rest) ∷ frames) env1 [] [] (s1 true)
          is loop.turn (agree1 true) tt (omega arith) fits1

      some_more : AreBefore scope (v + 1)
      some_more = before_more scope v (v + 1) (omega arith) loop.opens.before

      out_regs : Agree k (with_values o.results (v + 1) scope) (bind o.results vs env) s0.top.current.regs
      out_regs = subst (λ rs. Agree k (with_values o.results (v + 1) scope) (bind o.results vs env) (low.bind rs ws regs1)) (same_regs (v + 1) o.results loop.carried loop.many)
          (agree_values k scope o.results (v + 1) env regs1 vs ws (omega (arith, few, loop.many)) some_more same (agree_reg k scope v v env st.top.current.regs (val.Number i) loop.opens.before (omega arith) agree))

      out_before : AreBefore (with_values o.results (v + 1) scope) loop.test
      out_before = before_more (with_values o.results (v + 1) scope) (v + 1 + length o.results) loop.test (omega (arith, loop.before, loop.many)) (before_values scope o.results (v + 1) some_more)

      out : Stands p code k (task p code place nest rest frames (bind o.results vs env)) (to code f loop.exit [] (s1 false))
      out = lands p code k place nest f end a loop.exit loop.l [] (with_values o.results (v + 1) scope) rest frames (bind o.results vs env) [] [] (s1 false)
          is loop.on (agree_reg k (with_values o.results (v + 1) scope) loop.test loop.test (bind o.results vs env) s0.top.current.regs (val.Number (bit false)) out_before (omega arith) out_regs) tt (omega arith)
          (wider p code k (with_values o.results (v + 1) scope) (bind o.results vs env) (within_values scope o.results (v + 1) loop.new) (λ x r e. named_new scope o.results (v + 1) env vs x r loop.new e) fits)

      by : (z : Bool) → Comes p code k (s1 z) (Goes (cond z (entered (Turns o i upper step) (region_of o 0) (Number i ∷ vs) t) (bound o.results vs t)))
      by true = here (s1 true) (to code f loop.body [] (s1 true)) (entered (Turns o i upper step) (region_of o 0) (Number i ∷ vs) t)
          (decide_quiet code (s1 true) f (reg_no loop.test) loop.body loop.exit [] false (ap (λ y. nat_eq (number_in y) 0) (held_put s0.top.current.regs loop.test (val.Number 1))) is has1)
          (subst (λ ys. Stands p code k (task p code place nest (ops_in (region_of o 0)) ((Turns o i upper step, rest) ∷ frames) (bind ys (Number i ∷ vs) env)) (to code f loop.body [] (s1 true))) (sym loop.params) into_body)
      by false = here (s1 false) (to code f loop.exit [] (s1 false)) (bound o.results vs t)
          (decide_quiet code (s1 false) f (reg_no loop.test) loop.body loop.exit [] true (ap (λ y. nat_eq (number_in y) 0) (held_put s0.top.current.regs loop.test (val.Number 0))) is has1) out
