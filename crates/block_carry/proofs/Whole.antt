-- Code follows a task from wherever it stands.
use Rattle.std.proofs.Common.{◌≡◌, ◌≤◌, ℕ, zero, suc, ◌+◌, nat_eq, Bool, List, [], ◌∷◌, length, Some, slice_get, refl, sym, ap, subst, arith}
use Rattle.op_table.specs.declared.kind.OpKind.TheVariants as op
use Rattle.ir_forms.specs.declared.names.ElementName.{ElementName}
use Rattle.ir_forms.specs.declared.ops.Func.{Func}
use Rattle.ir_forms.specs.declared.ops.Op.{Op, out-Op}
use Rattle.ir_forms.specs.declared.ops.ValueNo.{ValueNo}
use Rattle.ir_forms.specs.declared.types.Ty.{Ty}
use Rattle.ir_forms.specs.Ops.{ops_of}
use Rattle.ir_verify.specs.declared.place.Nest.{Nest}
use Rattle.ir_verify.specs.declared.place.Nest.TheVariants.{InFunction}
use Rattle.ir_verify.specs.Calls.{callee_place}
use Rattle.low_forms.specs.declared.code.LowAttr.TheVariants as low_attr
use Rattle.low_forms.specs.declared.code.LowFunc.{LowFunc}
use Rattle.low_forms.specs.declared.code.LowModule.{LowModule}
use Rattle.source_meaning.specs.declared.values.Val as source
use Rattle.source_meaning.specs.Parts.{region_of, ops_in, names_of, func_ops, func_params}
use Rattle.source_meaning.specs.Values.{Env, named, bind, values_at}
use Rattle.source_meaning.specs.Values as source_values
use Rattle.source_meaning.specs.Flow.{called}
use Rattle.source_meaning.specs.Steps.{next_op, next_pending}
use Rattle.source_meaning.specs.Tasks.{Program, Scope as TaskScope, After, Returns, Tries, Pending, Awaits, Joining, Failing, Task, AwaitsOne, Goes, Asks}
use Rattle.async_objects.specs.declared.kinds.Val.{Val}
use Rattle.task_stack.specs.declared.frames.Frame.{Frame}
use Rattle.task_stack.specs.Frames.{Stack, new_frame}
use Rattle.task_stack.specs.Registers as low
use Rattle.scf_blocks.specs.declared.body.Close.{Close}
use Rattle.scf_blocks.specs.declared.body.Close.TheVariants as close
use Rattle.scf_blocks.specs.Code.{Scope, reg, regs, reg_no, block_no, regs_from, with_values, await, call}
use Rattle.block_carry.specs.Same.{Known, AreSame, Agree}
use Rattle.block_carry.specs.Rows.{AreVisible, AreBefore}
use Rattle.block_carry.specs.Laid as laid
use Rattle.block_carry.specs.Laid.{Has, Takes, Opens, PassesOn, GivesBit, IsLaid, Begins, IsLaidFunc, AreLaid}
use Rattle.block_carry.specs.Stands.{Fits, WaitsFrom, Stands, StandsAt}
use Rattle.block_carry.specs.Stands as stand
use Rattle.block_carry.specs.Follows.{IsReadyFor, Comes}
use Rattle.block_carry.specs.Laws.{CodeFollows}
use Rattle.block_carry.proofs.Awaits.{waits_later, waits_keep, stands_pending}
use Rattle.block_carry.proofs.Values.{held_below, within_values, named_new, agree_later, before_none, before_more, before_values, agree_number, agree_all, agree_none, agree_values, values_length}
use Rattle.block_carry.proofs.Moves.{free_is, next_is, call_quiet, pushed, stack_of}
use Rattle.block_carry.proofs.Stays.{wider, fits_later, task}
use Rattle.block_carry.proofs.Ends.{here, fails_here}
use Rattle.block_carry.proofs.Regions.{gives_at}
use Rattle.block_carry.proofs.Rows.{ends_row}
use Rattle.block_carry.proofs.Forms.{does_is, suits_is, computing, asking, empty_begins, asserting, branching, counting, cycling, awaiting_one, awaiting_all, launching}

pub names_length : (params : List (ValueNo × Ty)) → length (names_of params) ≡ length params
names_length [] = refl
names_length (x ∷ xs) = ap suc (names_length xs)

module _ (p : Program) (code : LowModule) (all : AreLaid p code) (k : Known) where
  -- ---- calls

  -- a function with these arguments
  pub begins_in : (g : ℕ) (callee : Func) (l : IsLaidFunc p code g callee) (fs : List (After × List Op)) (vs : List source.Val) (ws : List Val) (root : Bool) (below : List Frame) →
      AreSame k vs ws → length (names_of callee.params) ≤ length vs →
      ((scope : Scope) (env : Env) → Fits p code k g l.f close.Returns (length callee.results) scope env fs below) →
      Stands p code k (task p code g InFunction (ops_of callee.body) fs (bind (names_of callee.params) vs [])) (stack_of code root (new_frame (record { 0 = g }) l.f ws) below)
  begins_in g callee l fs vs ws root below same few fits =
      let names : List ValueNo = names_of callee.params in
      let scope : Scope = with_values names 0 [] in
      record {
        f = l.f;
        is = l.is;
        end = close.Returns;
        a = length callee.results;
        n = length names;
        scope = scope;
        agree = subst (λ ps. Agree k scope (bind names vs []) (low.bind ps ws [])) (sym l.params) (agree_values k [] names 0 [] [] vs ws few (before_none 0) same (agree_none k [] []));
        here = (before_more scope (0 + length names) (length names) (omega arith) (before_values [] names 0 (before_none 0)), l.laid);
        fits = fits scope (bind names vs []);
      }

  module _ (place : ℕ) (nest : Nest) (f : LowFunc) (end : Close) (a n : ℕ) (scope : Scope) (env : Env) (frames : List (After × List Op)) (root : Bool) (top : Frame) (below : List Frame)
      (is : slice_get code.funcs top.current.place.func.0 ≡ Some f) (agree : Agree k scope env top.current.regs) (bef : AreBefore scope n) (fits : Fits p code k place f end a scope env frames below) where
    abbrev s : Stack
    s = stack_of code root top below

    abbrev t : List Op → Task
    t rest = task p code place nest rest frames env

    abbrev here_in : TaskScope
    here_in = record { func = place; nest = nest; env = env }

    calling : (o : Op) (rest : List Op) (g ok failure : ℕ) (callee : Func) (after : After) → callee_place p.funcs (out-Op o).attr ≡ Some g → slice_get p.funcs g ≡ Some callee → length (out-Op o).operands ≡ length callee.params → AreVisible scope (out-Op o).operands →
        Has f top.current.place.block.0 top.current.place.at [] (call (low_attr.Callee (record { 0 = g })) (regs scope (out-Op o).operands) (block_no ok) (block_no failure)) →
        ((h : LowFunc) (inner : Scope) (e : Env) → Fits p code k g h close.Returns (length callee.results) inner e ((after, rest) ∷ frames) (top ∷ below)) →
        Comes p code k s (Goes (called p after (callee_place p.funcs (out-Op o).attr) (values_at env (out-Op o).operands) (t rest)))
    calling o rest g ok failure callee after at_g is_g many visible has inside =
        let l : IsLaidFunc p code g callee = all g callee is_g in
        let vs : List source.Val = values_at env (out-Op o).operands in
        let ws : List Val = low.values_at top.current.regs (regs scope (out-Op o).operands) in
        let inner : Stack = pushed code (new_frame (record { 0 = g }) l.f ws) s in
        subst (λ c. Comes p code k s (Goes (called p after c vs (t rest)))) (sym at_g)
        (here p code k s inner (called p after (Some g) vs (t rest)) (call_quiet code s f (record { 0 = g }) l.f (regs scope (out-Op o).operands) ok failure is has l.is)
        (subst (λ c. Stands p code k (task p code g InFunction (func_ops c) ((after, rest) ∷ frames) (bind (names_of (func_params c)) vs [])) inner) (sym is_g)
        (begins_in g callee l ((after, rest) ∷ frames) vs ws root (top ∷ below) (agree_all k scope env top.current.regs (out-Op o).operands agree visible)
        (omega (arith, many, names_length callee.params, values_length env (out-Op o).operands)) (λ inner e. inside l.f inner e))))

    -- ---- by the operation that is laid out here

    follows_op : {ops : List Op} → IsLaid p code place f end a top.current.place.block.0 top.current.place.at n scope ops → IsReadyFor [] ops env → Comes p code k s (next_op p ops (t ops))
    follows_op (laid.gives f end a b i n scope o rest kind many visible c) ready =
        subst (λ z. Comes p code k s z) (sym (ends_row (out-Op o).kind kind p (out-Op o) (values_at env (out-Op o).operands) (t rest)))
        (gives_at p code k nest rest frames root top n (out-Op o).operands fits is agree bef visible many c)
    follows_op (laid.gives_nothing f end a b i n scope none c) ready = gives_at p code k nest [] frames root top n [] fits is agree bef tt none c
    follows_op (laid.computes f end a b i n scope o rest x more tm has r c l) ready =
        computing p code k place nest f end a n scope env frames root top below is agree bef fits o rest x more tm has r c l ready.1
    follows_op (laid.asks f end a b i n scope o rest x more tm kind q has r like l) ready =
        asking p code k place nest f end a n scope env frames root top below is agree bef fits o rest x more tm (out-Op o).kind kind q has r like l ready.0
    follows_op (laid.asserts f end a b i n scope o rest c cs go failure kind args visible has fb opens l) ready =
        subst (λ z. Comes p code k s z) (sym (does_is p code k place nest f end a n scope env frames root top below is agree bef fits o op.CfAssert (c ∷ cs) rest kind args))
        (asserting p code k place nest f end a n scope env frames root top below is agree bef fits o rest c go failure visible.0 has fb opens l
        (nat_eq (source_values.number_in (named env c.0)) 0) (ap (λ y. nat_eq y 0) (agree_number k scope env top.current.regs c agree visible.0)))
    follows_op (laid.branches f end a b i n scope o rest c cs first second join m l kind args visible has one two three four five six) ready =
        subst (λ z. Comes p code k s z) (sym (does_is p code k place nest f end a n scope env frames root top below is agree bef fits o op.ScfIf (c ∷ cs) rest kind args))
        (branching p code k place nest f end a n scope env frames root top below is agree bef fits o rest c first second join m l has
        (empty_begins p code k place nest f end a n scope env frames root top below is agree bef fits first n scope (close.Joins (block_no join)) (length (out-Op o).results) (ops_in (region_of (out-Op o) 0)) one two)
        (empty_begins p code k place nest f end a n scope env frames root top below is agree bef fits second m scope (close.Joins (block_no join)) (length (out-Op o).results) (ops_in (region_of (out-Op o) 1)) three four)
        (record { opens = five; laid = six })
        (nat_eq (source_values.number_in (named env c.0)) 0) (ap (λ y. nat_eq y 0) (agree_number k scope env top.current.regs c agree visible.0)))
    follows_op (laid.counts f end a b i n scope o rest lower upper step inits head v body m exit l test variable carried kind args visible has params opens wide tests after_test into turn many same new out on) ready =
        subst (λ z. Comes p code k s z) (sym (does_is p code k place nest f end a n scope env frames root top below is agree bef fits o op.ScfFor (lower ∷ upper ∷ step ∷ inits) rest kind args))
        (counting p code k place nest f end a n scope env frames root top below is agree bef fits o rest lower upper step inits head v has visible
        (record {
          variable = variable;
          carried = carried;
          body = body;
          m = m;
          exit = exit;
          l = l;
          test = test;
          params = params;
          opens = opens;
          wide = wide;
          has = tests;
          before = after_test;
          turn = empty_begins p code k place nest f end a n scope env frames root top below is agree bef fits body m (with_values (variable ∷ carried) v scope) (close.Repeats (block_no head) (reg_no v) (reg scope step)) (length carried) (ops_in (region_of (out-Op o) 0)) into turn;
          many = many;
          new = new;
          on = empty_begins p code k place nest f end a n scope env frames root top below is agree bef fits exit l (with_values (out-Op o).results (v + 1) scope) end a rest out on;
          visible = (visible.1.0, (visible.1.1.0, tt));
        })
        same (suits_is p code k place nest f end a n scope env frames root top below is agree bef fits o op.ScfFor (lower ∷ upper ∷ step ∷ inits) kind args ready.0))
    follows_op (laid.cycles f end a b i n scope o rest head v second m exit l kind many same visible has opens one opens_then two opens_on three) ready =
        subst (λ z. Comes p code k s z) (sym (does_is p code k place nest f end a n scope env frames root top below is agree bef fits o op.ScfWhile (out-Op o).operands rest kind refl))
        (cycling p code k place nest f end a n scope env frames root top below is agree bef fits o rest head second exit has visible many
        (record { v = v; m = m; l = l; many = same; first = record { opens = opens; laid = one }; then = record { opens = opens_then; laid = two }; on = record { opens = opens_on; laid = three } }))
    follows_op (laid.calls f end a b i n scope o rest g ok failure l callee kind results at_g is_g many visible has passes opens on) ready =
        subst (λ z. Comes p code k s z) (sym (does_is p code k place nest f end a n scope env frames root top below is agree bef fits o op.FuncCall (out-Op o).operands rest kind refl))
        (calling o rest g ok failure callee (Returns here_in (out-Op o).results) at_g is_g many visible has
        (λ h inner e. stand.returns g h close.Returns (length callee.results) inner e here_in (out-Op o).results rest frames top below
        (record {
          called = record { f = f; is = is; callee = low_attr.Callee (record { 0 = g }); args = regs scope (out-Op o).operands; ok = ok; failure = failure; has = has };
          n = l;
          outer = scope;
          end_outer = end;
          a_outer = a;
          closes = refl;
          on = record { opens = opens; laid = on };
          fails = passes;
          many = results;
          agree = agree;
        }) fits))
    follows_op (laid.tries f end a b i n scope o rest g ok failure error join l callee kind few none at_g is_g many visible has takes good catches free bad opens on) ready =
        subst (λ z. Comes p code k s z) (sym (does_is p code k place nest f end a n scope env frames root top below is agree bef fits o op.AioTryCall (out-Op o).operands rest kind refl))
        (calling o rest g ok failure callee (Tries here_in (out-Op o).results) at_g is_g many visible has
        (λ h inner e. stand.tries g h close.Returns (length callee.results) inner e here_in (out-Op o).results rest frames top below
        (record {
          called = record { f = f; is = is; callee = low_attr.Callee (record { 0 = g }); args = regs scope (out-Op o).operands; ok = ok; failure = failure; has = has };
          n = l;
          join = join;
          error = error;
          outer = scope;
          end_outer = end;
          a_outer = a;
          closes = refl;
          on = record { opens = opens; laid = on };
          takes = takes;
          none = sym none;
          few = few;
          good = good;
          catches = catches;
          before = free;
          bad = bad;
          agree = agree;
        }) fits))
    follows_op (laid.awaits f end a b i n scope o rest c cs go failure l kind args visible has fb opens on) ready =
        subst (λ z. Comes p code k s z) (sym (does_is p code k place nest f end a n scope env frames root top below is agree bef fits o op.AsyncAwait (c ∷ cs) rest kind args))
        (awaiting_one p code k place nest f end a n scope env frames root top below is agree bef fits o rest c go failure l visible.0 has fb (record { opens = opens; laid = on })
        (suits_is p code k place nest f end a n scope env frames root top below is agree bef fits o op.AsyncAwait (c ∷ cs) kind args ready.0))
    follows_op (laid.awaits_all f end a b i n scope o rest c cs go failure kind args visible has fb opens on) ready =
        subst (λ z. Comes p code k s z) (sym (does_is p code k place nest f end a n scope env frames root top below is agree bef fits o op.AsyncAwaitAll (c ∷ cs) rest kind args))
        (awaiting_all p code k place nest f end a n scope env frames root top below is agree bef fits o rest c go failure n visible.0 has fb
        (empty_begins p code k place nest f end a n scope env frames root top below is agree bef fits go n scope end a rest opens on)
        (suits_is p code k place nest f end a n scope env frames root top below is agree bef fits o op.AsyncAwaitAll (c ∷ cs) kind args ready.0))
    follows_op (laid.launches f end a b i n scope o rest x more tm h g tokens values captured b2 i2 n2 inner kind args groups has launch gis params awaited body on) ready =
        subst (λ z. Comes p code k s z) (sym (does_is p code k place nest f end a n scope env frames root top below is agree bef fits o op.AsyncExecute (out-Op o).operands rest kind refl))
        (launching p code k place nest f end a n scope env frames root top below is agree bef fits o rest x more tm h g tokens values captured b2 i2 n2 inner args groups has launch gis params awaited body on
        (suits_is p code k place nest f end a n scope env frames root top below is agree bef fits o op.AsyncExecute (out-Op o).operands kind refl ready.0))

  -- ---- with what is pending

  -- an await before the task's operations
  awaits_pending : (number : ℕ) (x : ElementName) (xs : List ValueNo) (more : List Pending) (rest : List Op) (frames : List (After × List Op)) (own : TaskScope) (s : Stack)
      (st : Stands p code k (record { pending = Awaits number x xs ∷ more; rest = rest; frames = frames; scope = own }) s) (m r : ℕ) →
      WaitsFrom p code k s.top.current.regs m r own.func st.f st.end st.a s.top.current.place.block.0 s.top.current.place.at st.n st.scope rest (Awaits number x xs ∷ more) →
      Comes p code k s (Asks number (AwaitsOne x) xs (record { pending = more; rest = rest; frames = frames; scope = own }))
  awaits_pending number x xs more rest frames own s st m r w = (
    zero,
    s,
    refl,
    record {
      f = st.f;
      i = (await (reg_no r) (block_no w.3) (block_no w.4)).instr;
      is = next_is code s st.f [] (await (reg_no r) (block_no w.3) (block_no w.4)) st.is w.6;
      shared = free_is code s st.f [] (await (reg_no r) (block_no w.3) (block_no w.4)) st.is w.6;
      asks = (refl, w.0);
      few = w.2;
      then = record {
        o = reg_no r;
        found = st.is;
        go = w.3;
        failure = w.4;
        has = w.6;
        on = λ after vs ws later same few. record {
          f = st.f;
          is = st.is;
          end = st.end;
          a = st.a;
          n = w.5 + length xs;
          scope = with_values xs w.5 st.scope;
          agree = subst (λ ps. Agree after (with_values xs w.5 st.scope) (bind xs vs own.env) (low.bind ps ws s.top.current.regs)) (sym w.8.params)
              (agree_values after st.scope xs w.5 own.env s.top.current.regs vs ws few w.8.before same (agree_later k after later st.scope own.env s.top.current.regs st.agree));
          here = subst (λ ps. StandsAt p code after (low.bind ps ws s.top.current.regs) own.func st.f st.end st.a w.3 0 (w.5 + length xs) (with_values xs w.5 st.scope) rest more) (sym w.8.params)
              (stands_pending p code after (low.bind (regs_from w.5 xs) ws s.top.current.regs) m (r + 1) own.func st.f st.end st.a w.3 0 (w.5 + length xs) (with_values xs w.5 st.scope) rest more
              (waits_keep p code after s.top.current.regs (low.bind (regs_from w.5 xs) ws s.top.current.regs) m (r + 1) own.func st.f st.end st.a w.3 0 (w.5 + length xs) (with_values xs w.5 st.scope) rest more
              (λ j lt. held_below s.top.current.regs ws w.5 j xs (let le = w.9 in omega (arith, lt, le)))
              (waits_later p code k after later s.top.current.regs m (r + 1) own.func st.f st.end st.a w.3 0 (w.5 + length xs) (with_values xs w.5 st.scope) rest more w.10)));
          fits = wider p code after (with_values xs w.5 st.scope) (bind xs vs own.env) (within_values st.scope xs w.5 w.8.new) (λ y q e. named_new st.scope xs w.5 own.env vs y q w.8.new e) (fits_later p code k after later st.fits);
        };
        fails = λ after later. record {
          f = st.f;
          is = st.is;
          end = st.end;
          a = st.a;
          n = st.n;
          scope = st.scope;
          agree = subst (λ ps. Agree after st.scope own.env (low.bind ps [] s.top.current.regs)) (sym w.7.params) (agree_later k after later st.scope own.env s.top.current.regs st.agree);
          here = (refl, w.7);
          fits = fits_later p code k after later st.fits;
        };
      };
    },
  )

  follows_pending : (pending : List Pending) (rest : List Op) (frames : List (After × List Op)) (own : TaskScope) (s : Stack) → Stands p code k (record { pending = pending; rest = rest; frames = frames; scope = own }) s →
      IsReadyFor pending rest own.env → Comes p code k s (next_pending p pending (record { pending = pending; rest = rest; frames = frames; scope = own }))
  follows_pending [] rest frames own s st ready =
      follows_op own.func own.nest st.f st.end st.a st.n st.scope own.env frames s.is_root s.top s.below st.is st.agree st.here.0 st.fits st.here.1 ready
  follows_pending (Failing number ∷ more) rest frames own s st ready =
      fails_here p code k s.is_root s.top number (record { pending = []; rest = rest; frames = frames; scope = own }) refl st.fits st.is st.here.1 st.here.0
  follows_pending (Joining number loop ∷ more) rest frames own s st ready = absurd st.here
  follows_pending (Awaits number x xs ∷ more) rest frames own s st ready = awaits_pending number x xs more rest frames own s st st.here.0 st.here.1 st.here.2

pub code_follows : CodeFollows
code_follows p code all k t s st ready = follows_pending p code all k t.pending t.rest t.frames t.scope s st ready
