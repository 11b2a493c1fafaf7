-- The end of a region.
use Rattle.std.proofs.Common.{◌≡◌, ◌<◌, ◌≤◌, ◌^◌, ℕ, zero, ◌+◌, nat_eq, cond, Bool, true, false, List, [], ◌∷◌, length, Some, slice_get, refl, sym, ap, ap₂, subst, ◌∙◌, arith}
use Rattle.std.specs.Option.{option_map}
use Rattle.std.proofs.Math.Nat.{mod-lt}
use Rattle.int_ops.specs.declared.BinOp.TheVariants as bin
use Rattle.ir_forms.specs.declared.ops.Op.{Op}
use Rattle.ir_forms.specs.declared.ops.ValueNo.{ValueNo}
use Rattle.ir_verify.specs.declared.place.Nest.{Nest}
use Rattle.low_forms.specs.declared.code.Instr.{Instr}
use Rattle.low_forms.specs.declared.code.LowFunc.{LowFunc}
use Rattle.low_forms.specs.declared.code.LowModule.{LowModule}
use Rattle.source_meaning.specs.declared.values.Val as source
use Rattle.source_meaning.specs.declared.values.Val.TheVariants.{Number}
use Rattle.source_meaning.specs.Parts.{Node, region_of, ops_in, params_in}
use Rattle.source_meaning.specs.Rows.{result_at, stepped}
use Rattle.source_meaning.specs.Values.{Env, maybe, named, bind, values_at}
use Rattle.source_meaning.specs.Values as source_values
use Rattle.source_meaning.specs.Flow.{entered, turned, tested, leaves}
use Rattle.source_meaning.specs.Tasks.{Program, After, Tests, Repeats, Task, Goes, bound}
use Rattle.async_objects.specs.declared.kinds.Val.{Val}
use Rattle.async_objects.specs.declared.kinds.Val.TheVariants as val
use Rattle.task_stack.specs.declared.effects.Number.TheVariants as number
use Rattle.task_stack.specs.declared.frames.Frame.{Frame}
use Rattle.task_stack.specs.Frames.{Stack}
use Rattle.task_stack.specs.Local.{operands}
use Rattle.task_stack.specs.Numbers.{computed}
use Rattle.task_stack.specs.Registers as low
use Rattle.task_stack.specs.Registers.{held, number_in}
use Rattle.task_stack.specs.Shared.{moved}
use Rattle.scf_blocks.specs.declared.body.Close.{Close}
use Rattle.scf_blocks.specs.declared.body.Close.TheVariants as close
use Rattle.scf_blocks.specs.Code.{Scope, known, reg, regs, reg_no, block_no, with_values, br, add}
use Rattle.block_carry.specs.Same.{Known, Agree}
use Rattle.block_carry.specs.Rows.{AreVisible, AreBefore}
use Rattle.block_carry.specs.Laid.{Closes, IsLoop, IsCycle}
use Rattle.block_carry.specs.Stands.{IsWithin, Fits, ends, joins, turns, tests, repeats, returns, tries}
use Rattle.block_carry.specs.Follows.{quiet, Comes}
use Rattle.block_carry.proofs.Values.{held_put, within_values, values_length, agree_number, agree_all, agree_reg, agree_within, number_same, known_variable}
use Rattle.block_carry.proofs.Moves.{has_next, added, to, jump_quiet, decide_quiet, compute_quiet, stack_of, return_quiet}
use Rattle.block_carry.proofs.Stays.{task, lands}
use Rattle.block_carry.proofs.Ends.{before, here, gives_bit, at_head}

module _ (p : Program) (code : LowModule) (k : Known) where
  -- what stands at the end of a region of this kind
  closed : (f : LowFunc) (end kind : Close) (b i n : ℕ) (scope : Scope) (xs : List ValueNo) → end ≡ kind → Closes f end b i n scope xs → Closes f kind b i n scope xs
  closed f end kind b i n scope xs e c = subst (λ z. Closes f z b i n scope xs) e c

  -- the turn of a loop ends: the step is added, and its head comes next
  turns_on : {place : ℕ} (nest : Nest) {f : LowFunc} {end_outer : Close} {a_outer : ℕ} (scope outer : Scope) (env : Env) (o : Node) (i upper step : ℕ) (rest : List Op) {frames : List (After × List Op)} {below : List Frame} (root : Bool) (top : Frame) (n : ℕ) (xs : List ValueNo) (u s : ValueNo) (head v : ℕ)
      (loop : IsLoop p code place f end_outer a_outer outer o rest u s head v) → IsWithin (with_values (loop.variable ∷ loop.carried) v outer) scope →
      source_values.number_in (named env loop.variable.0) ≡ i → source_values.number_in (named env u.0) ≡ upper → source_values.number_in (named env s.0) ≡ step → upper < 2 ^ 64 →
      Fits p code k place f end_outer a_outer outer env frames below → slice_get code.funcs top.current.place.func.0 ≡ Some f → Agree k scope env top.current.regs → AreBefore scope n → AreVisible scope xs → length loop.carried ≤ length xs →
      Closes f (close.Repeats (block_no head) (reg_no v) (reg outer s)) top.current.place.block.0 top.current.place.at n scope xs →
      Comes p code k (stack_of code root top below) (Goes (turned o (stepped i step) upper step (values_at env xs) (task p code place nest rest frames env)))
  turns_on {place} nest {f} {end_outer} {a_outer} scope outer env o i upper step rest {frames} {below} root top n xs u s head v loop within variable_is upper_is step_is small g is agree bef visible many c =
      before p code k s0 s1 (Goes after) first (before p code k s1 (to code f head (val.Number next ∷ ws) s1) (Goes after) second
      (at_head p code k place nest f end_outer a_outer outer o rest u s head v loop frames env next upper step (values_at env xs) ws s1 is
      (agree_within k outer scope env s1.top.current.regs inner agree1) next_small small upper_is step_is
      (agree_all k scope env s1.top.current.regs xs agree1 visible) (omega (arith, many, values_length env xs)) g))
    where
      next : ℕ
      next = stepped i step

      after : Task
      after = turned o next upper step (values_at env xs) (task p code place nest rest frames env)

      next_small : next < 2 ^ 64
      next_small = mod-lt (i + step) (let pos : 0 < 2 ^ 64 = omega arith in pos)

      s0 : Stack
      s0 = stack_of code root top below

      x : Instr
      x = add (reg_no n) (reg_no v) (reg outer s)

      s1 : Stack
      s1 = moved (reg_no n ∷ []) (val.Number next ∷ []) s0

      ws : List Val
      ws = low.values_at s1.top.current.regs (regs scope xs)

      inner : IsWithin outer scope
      inner y r e = within y r (within_values outer (loop.variable ∷ loop.carried) v loop.opens.new y r e)

      known_v : known scope loop.variable.0 ≡ Some (reg_no v)
      known_v = within loop.variable.0 (reg_no v) (known_variable outer loop.variable loop.carried v loop.opens.new)

      left_is : number_in (held top.current.regs v) ≡ i
      left_is = number_same k _ _ (agree loop.variable.0 (reg_no v) known_v) ∙ variable_is

      right_is : number_in (held top.current.regs (reg outer s).0) ≡ step
      right_is = agree_number k outer env top.current.regs s (agree_within k outer scope env top.current.regs inner agree) loop.visible.1.0 ∙ step_is

      comes : computed (number.Binary bin.Add) f x (operands s0 x) ≡ Some (val.Number next)
      comes = ap (λ w. option_map val.Number (result_at w bin.Add (number_in (held top.current.regs v)) (number_in (held top.current.regs (reg outer s).0)))) c.1
          ∙ ap₂ (λ y z. option_map val.Number (result_at 64 bin.Add y z)) left_is right_is ∙ ap (option_map val.Number) (added i step)

      first : quiet code s0 ≡ Some s1
      first = compute_quiet code s0 f x [] (br (block_no head) (reg_no n ∷ regs scope xs)) (number.Binary bin.Add) (val.Number next) refl comes is c.0

      agree1 : Agree k scope env s1.top.current.regs
      agree1 = agree_reg k scope n n env top.current.regs (val.Number next) bef (omega arith) agree

      second : quiet code s1 ≡ Some (to code f head (val.Number next ∷ ws) s1)
      second = jump_quiet code s1 f head (reg_no n ∷ regs scope xs) is (has_next f top.current.place.block.0 top.current.place.at x [] (br (block_no head) (reg_no n ∷ regs scope xs)) c.0)
          ∙ ap (λ y. Some (to code f head (y ∷ ws) s1)) (held_put top.current.regs n (val.Number next))

  -- a test decides between the second region and what follows
  tests_on : {place : ℕ} (nest : Nest) {f : LowFunc} {end_outer : Close} {a_outer : ℕ} (scope outer : Scope) (env : Env) (o : Node) (rest : List Op) {frames : List (After × List Op)} {below : List Frame} (root : Bool) (top : Frame) (n : ℕ) (xs : List ValueNo) (head second exit : ℕ)
      (loop : IsCycle p code place f end_outer a_outer outer o rest head second exit) → IsWithin outer scope → 1 + length (params_in (region_of o 1)) ≡ length xs →
      Fits p code k place f end_outer a_outer outer env frames below → slice_get code.funcs top.current.place.func.0 ≡ Some f → Agree k scope env top.current.regs → AreVisible scope xs →
      Closes f (close.Decides (block_no second) (block_no exit)) top.current.place.block.0 top.current.place.at n scope xs →
      Comes p code k (stack_of code root top below) (Goes (tested o (values_at env xs) (task p code place nest rest frames env)))
  tests_on nest scope outer env o rest root top n [] head second exit loop within many g is agree visible c = absurd c
  tests_on {place} nest {f} {end_outer} {a_outer} scope outer env o rest {frames} {below} root top n (x ∷ xs) head second exit loop within many g is agree visible c =
      by (nat_eq (source_values.number_in (named env x.0)) 0) (ap (λ y. nat_eq y 0) (agree_number k scope env top.current.regs x agree visible.0))
    where
      s0 : Stack
      s0 = stack_of code root top below

      vs : List source.Val
      vs = values_at env xs

      ws : List Val
      ws = low.values_at top.current.regs (regs scope xs)

      t : Task
      t = task p code place nest rest frames env

      agree0 : Agree k outer env top.current.regs
      agree0 = agree_within k outer scope env top.current.regs within agree

      by : (z : Bool) → nat_eq (number_in (held top.current.regs (reg scope x).0)) 0 ≡ z → Comes p code k s0 (Goes (cond z (bound o.results vs t) (entered (Repeats o) (region_of o 1) vs t)))
      by true e = here p code k s0 (to code f exit ws s0) (bound o.results vs t) (decide_quiet code s0 f (reg scope x) second exit (regs scope xs) true e is c)
          (lands p code k place nest f end_outer a_outer exit loop.l o.results outer rest frames env vs ws s0 is loop.on agree0 (agree_all k scope env top.current.regs xs agree visible.1)
          (omega (arith, many, loop.many, values_length env xs)) g)
      by false e = here p code k s0 (to code f second ws s0) (entered (Repeats o) (region_of o 1) vs t) (decide_quiet code s0 f (reg scope x) second exit (regs scope xs) false e is c)
          (lands p code k place nest f (close.Joins (block_no head)) (length (params_in (region_of o 0))) second loop.m (params_in (region_of o 1)) outer (ops_in (region_of o 1)) ((Repeats o, rest) ∷ frames) env vs ws s0 is loop.then agree0
          (agree_all k scope env top.current.regs xs agree visible.1) (omega (arith, many, values_length env xs))
          (repeats place f (close.Joins (block_no head)) (length (params_in (region_of o 0))) outer env o rest frames below
          (record { head = head; second = second; exit = exit; outer = outer; end_outer = end_outer; a_outer = a_outer; loop = loop; closes = refl; within = λ y r e. e; many = refl }) g))

  -- the region that the task is in gives these values
  pub gives_at : {place : ℕ} {f : LowFunc} {end : Close} {a : ℕ} {scope : Scope} {env : Env} {frames : List (After × List Op)} {below : List Frame} (nest : Nest) (rest0 : List Op) (frames0 : List (After × List Op)) (root : Bool) (top : Frame) (n : ℕ) (xs : List ValueNo) →
      Fits p code k place f end a scope env frames below → slice_get code.funcs top.current.place.func.0 ≡ Some f → Agree k scope env top.current.regs → AreBefore scope n → AreVisible scope xs → length xs ≡ a →
      Closes f end top.current.place.block.0 top.current.place.at n scope xs →
      Comes p code k (stack_of code root top below) (leaves frames (values_at env xs) (task p code place nest rest0 frames0 env))
  gives_at nest rest0 frames0 root top n xs (ends place f a scope env) is agree bef visible many c =
      (zero, stack_of code root top [], refl, record { f = f; is = is; last = refl; ends = (regs scope xs, c, agree_all k scope env top.current.regs xs agree visible) })
  gives_at nest rest0 frames0 root top n xs (joins place f end a scope env ys rest frames below w g) is agree bef visible many c =
      let s0 : Stack = stack_of code root top below in
      let ws : List Val = low.values_at top.current.regs (regs scope xs) in
      here p code k s0 (to code f w.b ws s0) (task p code place nest rest frames (bind ys (values_at env xs) env)) (jump_quiet code s0 f w.b (regs scope xs) is (closed f end (close.Joins (block_no w.b)) top.current.place.block.0 top.current.place.at n scope xs w.closes c))
      (lands p code k place nest f w.end_outer w.a_outer w.b w.n ys w.outer rest frames env (values_at env xs) ws s0 is w.on (agree_within k w.outer scope env top.current.regs w.within agree)
      (agree_all k scope env top.current.regs xs agree visible) (omega (arith, many, w.many, values_length env xs)) g)
  gives_at nest rest0 frames0 root top n xs (turns place f end a scope env o i upper step rest frames below w g) is agree bef visible many c =
      turns_on nest scope w.outer env o i upper step rest root top n xs w.u w.s w.head w.v w.loop w.within w.variable_is w.upper_is w.step_is w.small g is agree bef visible (omega (arith, many, w.many))
      (closed f end (close.Repeats (block_no w.head) (reg_no w.v) (reg w.outer w.s)) top.current.place.block.0 top.current.place.at n scope xs w.closes c)
  gives_at nest rest0 frames0 root top n xs (tests place f end a scope env o rest frames below w g) is agree bef visible many c =
      tests_on nest scope w.outer env o rest root top n xs w.head w.second w.exit w.loop w.within (omega (arith, many, w.many)) g is agree visible
      (closed f end (close.Decides (block_no w.second) (block_no w.exit)) top.current.place.block.0 top.current.place.at n scope xs w.closes c)
  gives_at nest rest0 frames0 root top n xs (repeats place f end a scope env o rest frames below w g) is agree bef visible many c =
      let s0 : Stack = stack_of code root top below in
      let ws : List Val = low.values_at top.current.regs (regs scope xs) in
      here p code k s0 (to code f w.head ws s0) (entered (Tests o) (region_of o 0) (values_at env xs) (task p code place nest rest frames env)) (jump_quiet code s0 f w.head (regs scope xs) is (closed f end (close.Joins (block_no w.head)) top.current.place.block.0 top.current.place.at n scope xs w.closes c))
      (lands p code k place nest f (close.Decides (block_no w.second) (block_no w.exit)) (1 + length (params_in (region_of o 1))) w.head w.loop.v (params_in (region_of o 0)) w.outer (ops_in (region_of o 0)) ((Tests o, rest) ∷ frames) env (values_at env xs) ws s0 is w.loop.first
      (agree_within k w.outer scope env top.current.regs w.within agree) (agree_all k scope env top.current.regs xs agree visible) (omega (arith, many, w.many, values_length env xs))
      (tests place f (close.Decides (block_no w.second) (block_no w.exit)) (1 + length (params_in (region_of o 1))) w.outer env o rest frames below
      (record { head = w.head; second = w.second; exit = w.exit; outer = w.outer; end_outer = w.end_outer; a_outer = w.a_outer; loop = w.loop; closes = refl; within = λ y r e. e; many = refl }) g))
  gives_at nest rest0 frames0 root top n xs (returns place f end a scope env s ys rest frames frame below w g) is agree bef visible many c =
      let s0 : Stack = stack_of code root frame below in
      let ws : List Val = low.values_at top.current.regs (regs scope xs) in
      here p code k (stack_of code root top (frame ∷ below)) (to code w.called.f w.called.ok ws s0) (task p code s.func s.nest rest frames (bind ys (values_at env xs) s.env))
      (return_quiet code p root top frame below f (regs scope xs) w.called is (closed f end close.Returns top.current.place.block.0 top.current.place.at n scope xs w.closes c))
      (lands p code k s.func s.nest w.called.f w.end_outer w.a_outer w.called.ok w.n ys w.outer rest frames s.env (values_at env xs) ws s0 w.called.is w.on w.agree
      (agree_all k scope env top.current.regs xs agree visible) (omega (arith, many, w.many, values_length env xs)) g)
  gives_at nest rest0 frames0 root top n xs (tries place f end a scope env s ys rest frames frame below w g) is agree bef visible many c =
      let s0 : Stack = stack_of code root frame below in
      let ws : List Val = low.values_at top.current.regs (regs scope xs) in
      let agree0 : Agree k w.outer s.env (to code w.called.f w.called.ok ws s0).top.current.regs = subst (λ ps. Agree k w.outer s.env (low.bind ps ws frame.current.regs)) (sym w.takes) w.agree in
      before p code k (stack_of code root top (frame ∷ below)) (to code w.called.f w.called.ok ws s0) (Goes (task p code s.func s.nest rest frames (bind ys (Number 1 ∷ []) s.env)))
      (return_quiet code p root top frame below f (regs scope xs) w.called is (closed f end close.Returns top.current.place.block.0 top.current.place.at n scope xs w.closes c))
      (gives_bit p code k s.func s.nest w.called.f w.end_outer w.a_outer w.called.ok w.join w.n ys w.outer rest frames s.env true ws s0 w.called.is w.good w.on agree0 w.few g)
