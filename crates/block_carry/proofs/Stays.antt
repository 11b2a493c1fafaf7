-- What stays true of where a stack stands.
use Rattle.std.proofs.Common.{◌≡◌, ◌≤◌, ℕ, ◌+◌, List, [], ◌∷◌, length, Some, slice_get, sym, ap, subst, ◌∙◌}
use Rattle.ir_forms.specs.declared.ops.Op.{Op}
use Rattle.ir_forms.specs.declared.ops.ValueNo.{ValueNo}
use Rattle.ir_verify.specs.declared.place.Nest.{Nest}
use Rattle.low_forms.specs.declared.code.Instr.{Instr}
use Rattle.low_forms.specs.declared.code.LowFunc.{LowFunc}
use Rattle.low_forms.specs.declared.code.LowModule.{LowModule}
use Rattle.low_forms.specs.declared.code.Reg.{Reg}
use Rattle.source_meaning.specs.declared.values.Val as source
use Rattle.source_meaning.specs.Values.{Env, named, bind, number_in}
use Rattle.source_meaning.specs.Tasks.{Program, After, Task}
use Rattle.async_objects.specs.declared.kinds.Val.{Val}
use Rattle.task_stack.specs.declared.frames.Frame.{Frame}
use Rattle.task_stack.specs.Frames.{Stack}
use Rattle.task_stack.specs.Registers as low
use Rattle.task_stack.specs.Shared.{moved}
use Rattle.scf_blocks.specs.declared.body.Close.{Close}
use Rattle.scf_blocks.specs.Code.{Scope, known, reg, reg_no, regs_from, with_values}
use Rattle.block_carry.specs.Same.{Known, AreSame, Agree, Later}
use Rattle.block_carry.specs.Rows.{AreNew, AreBefore}
use Rattle.block_carry.specs.Laid.{IsLaid, Begins}
use Rattle.block_carry.specs.Laws.{StandsLater}
use Rattle.block_carry.specs.Stands.{IsWithin, Fits, ends, joins, turns, tests, repeats, returns, tries, Stands}
use Rattle.block_carry.proofs.Values.{visible_reg, within_values, before_values, named_new, known_variable, agree_values, agree_later}
use Rattle.block_carry.proofs.Moves.{to}
use Rattle.block_carry.proofs.Awaits.{stands_at_later}

-- visible names keep their values
abbrev pub Keeps : Scope → Env → Env → Type 0
Keeps scope env env2 = (x : ℕ) (r : Reg) → known scope x ≡ Some r → named env2 x ≡ named env x

module _ (p : Program) (code : LowModule) where
  -- more values are visible, and those that were keep what they are
  pub wider : (k : Known) {place : ℕ} {f : LowFunc} {end : Close} {a : ℕ} {scope : Scope} {env : Env} {frames : List (After × List Op)} {below : List Frame} (scope2 : Scope) (env2 : Env) →
      IsWithin scope scope2 → Keeps scope env env2 → Fits p code k place f end a scope env frames below → Fits p code k place f end a scope2 env2 frames below
  wider k scope2 env2 v keeps (ends place f a scope env) = ends place f a scope2 env2
  wider k scope2 env2 v keeps (joins place f end a scope env xs rest frames below w g) =
      joins place f end a scope2 env2 xs rest frames below
      (record { b = w.b; n = w.n; outer = w.outer; end_outer = w.end_outer; a_outer = w.a_outer; closes = w.closes; on = w.on; within = λ x r e. v x r (w.within x r e); many = w.many })
      (wider k w.outer env2 (λ x r e. e) (λ x r e. keeps x r (w.within x r e)) g)
  wider k scope2 env2 v keeps (turns place f end a scope env o i upper step rest frames below w g) =
      let inner : IsWithin w.outer scope = λ x r e. w.within x r (within_values w.outer (w.loop.variable ∷ w.loop.carried) w.v w.loop.opens.new x r e) in
      turns place f end a scope2 env2 o i upper step rest frames below
      (record {
        head = w.head;
        v = w.v;
        u = w.u;
        s = w.s;
        outer = w.outer;
        end_outer = w.end_outer;
        a_outer = w.a_outer;
        loop = w.loop;
        closes = w.closes;
        within = λ x r e. v x r (w.within x r e);
        variable_is = ap number_in (keeps w.loop.variable.0 (reg_no w.v) (w.within w.loop.variable.0 (reg_no w.v) (known_variable w.outer w.loop.variable w.loop.carried w.v w.loop.opens.new))) ∙ w.variable_is;
        upper_is = ap number_in (keeps w.u.0 (reg w.outer w.u) (inner w.u.0 (reg w.outer w.u) (visible_reg w.outer w.u w.loop.visible.0))) ∙ w.upper_is;
        step_is = ap number_in (keeps w.s.0 (reg w.outer w.s) (inner w.s.0 (reg w.outer w.s) (visible_reg w.outer w.s w.loop.visible.1.0))) ∙ w.step_is;
        small = w.small;
        many = w.many;
      })
      (wider k w.outer env2 (λ x r e. e) (λ x r e. keeps x r (inner x r e)) g)
  wider k scope2 env2 v keeps (tests place f end a scope env o rest frames below w g) =
      tests place f end a scope2 env2 o rest frames below
      (record { head = w.head; second = w.second; exit = w.exit; outer = w.outer; end_outer = w.end_outer; a_outer = w.a_outer; loop = w.loop; closes = w.closes; within = λ x r e. v x r (w.within x r e); many = w.many })
      (wider k w.outer env2 (λ x r e. e) (λ x r e. keeps x r (w.within x r e)) g)
  wider k scope2 env2 v keeps (repeats place f end a scope env o rest frames below w g) =
      repeats place f end a scope2 env2 o rest frames below
      (record { head = w.head; second = w.second; exit = w.exit; outer = w.outer; end_outer = w.end_outer; a_outer = w.a_outer; loop = w.loop; closes = w.closes; within = λ x r e. v x r (w.within x r e); many = w.many })
      (wider k w.outer env2 (λ x r e. e) (λ x r e. keeps x r (w.within x r e)) g)
  wider k scope2 env2 v keeps (returns place f end a scope env s xs rest frames frame below w g) = returns place f end a scope2 env2 s xs rest frames frame below w g
  wider k scope2 env2 v keeps (tries place f end a scope env s xs rest frames frame below w g) = tries place f end a scope2 env2 s xs rest frames frame below w g

  -- what is known grows
  pub fits_later : (k after : Known) → Later k after → {place : ℕ} {f : LowFunc} {end : Close} {a : ℕ} {scope : Scope} {env : Env} {frames : List (After × List Op)} {below : List Frame} →
      Fits p code k place f end a scope env frames below → Fits p code after place f end a scope env frames below
  fits_later k after later (ends place f a scope env) = ends place f a scope env
  fits_later k after later (joins place f end a scope env xs rest frames below w g) = joins place f end a scope env xs rest frames below w (fits_later k after later g)
  fits_later k after later (turns place f end a scope env o i upper step rest frames below w g) = turns place f end a scope env o i upper step rest frames below w (fits_later k after later g)
  fits_later k after later (tests place f end a scope env o rest frames below w g) = tests place f end a scope env o rest frames below w (fits_later k after later g)
  fits_later k after later (repeats place f end a scope env o rest frames below w g) = repeats place f end a scope env o rest frames below w (fits_later k after later g)
  fits_later k after later (returns place f end a scope env s xs rest frames frame below w g) =
      returns place f end a scope env s xs rest frames frame below
      (record {
        called = w.called;
        n = w.n;
        outer = w.outer;
        end_outer = w.end_outer;
        a_outer = w.a_outer;
        closes = w.closes;
        on = w.on;
        fails = w.fails;
        many = w.many;
        agree = agree_later k after later w.outer s.env frame.current.regs w.agree;
      })
      (fits_later k after later g)
  fits_later k after later (tries place f end a scope env s xs rest frames frame below w g) =
      tries place f end a scope env s xs rest frames frame below
      (record {
        called = w.called;
        n = w.n;
        join = w.join;
        error = w.error;
        outer = w.outer;
        end_outer = w.end_outer;
        a_outer = w.a_outer;
        closes = w.closes;
        on = w.on;
        takes = w.takes;
        none = w.none;
        few = w.few;
        good = w.good;
        catches = w.catches;
        before = w.before;
        bad = w.bad;
        agree = agree_later k after later w.outer s.env frame.current.regs w.agree;
      })
      (fits_later k after later g)

  pub stands_later : (k after : Known) (t : Task) (s : Stack) → Later k after → Stands p code k t s → Stands p code after t s
  stands_later k after t s later st = record {
    f = st.f;
    is = st.is;
    end = st.end;
    a = st.a;
    n = st.n;
    scope = st.scope;
    agree = agree_later k after later st.scope t.scope.env s.top.current.regs st.agree;
    here = stands_at_later p code k after later s.top.current.regs t.scope.func st.f st.end st.a s.top.current.place.block.0 s.top.current.place.at st.n st.scope t.rest t.pending st.here;
    fits = fits_later k after later st.fits;
  }

  -- ---- where a task goes on

  abbrev pub task : ℕ → Nest → List Op → List (After × List Op) → Env → Task
  task place nest rest frames env = record { pending = []; rest = rest; frames = frames; scope = record { func = place; nest = nest; env = env } }

  -- at the start of a block that takes values
  pub lands : (k : Known) (place : ℕ) (nest : Nest) (f : LowFunc) (end : Close) (a b n : ℕ) (xs : List ValueNo) (scope : Scope) (rest : List Op) (frames : List (After × List Op)) (env : Env) (vs : List source.Val) (ws : List Val) (s : Stack) →
      slice_get code.funcs s.top.current.place.func.0 ≡ Some f → Begins p code place f end a b n xs scope rest → Agree k scope env s.top.current.regs → AreSame k vs ws → length xs ≤ length vs → Fits p code k place f end a scope env frames s.below →
      Stands p code k (task place nest rest frames (bind xs vs env)) (to code f b ws s)
  lands k place nest f end a b n xs scope rest frames env vs ws s is begins agree same few fits = record {
    f = f;
    is = is;
    end = end;
    a = a;
    n = n + length xs;
    scope = with_values xs n scope;
    agree = subst (λ ps. Agree k (with_values xs n scope) (bind xs vs env) (low.bind ps ws s.top.current.regs)) (sym begins.opens.params) (agree_values k scope xs n env s.top.current.regs vs ws few begins.opens.before same agree);
    here = (before_values scope xs n begins.opens.before, begins.laid);
    fits = wider k (with_values xs n scope) (bind xs vs env) (within_values scope xs n begins.opens.new) (λ x r e. named_new scope xs n env vs x r begins.opens.new e) fits;
  }

  -- behind an instruction that gives values
  pub goes_on : (k : Known) (place : ℕ) (nest : Nest) (f : LowFunc) (end : Close) (a n : ℕ) (xs : List ValueNo) (scope : Scope) (rest : List Op) (frames : List (After × List Op)) (env : Env) (vs : List source.Val) (ws : List Val) (s : Stack) (x : Instr) →
      slice_get code.funcs s.top.current.place.func.0 ≡ Some f → x.results ≡ regs_from n xs → AreNew scope n xs → AreBefore scope n →
      IsLaid p code place f end a s.top.current.place.block.0 (s.top.current.place.at + 1) (n + length xs) (with_values xs n scope) rest →
      Agree k scope env s.top.current.regs → AreSame k vs ws → length xs ≤ length vs → Fits p code k place f end a scope env frames s.below →
      Stands p code k (task place nest rest frames (bind xs vs env)) (moved x.results ws s)
  goes_on k place nest f end a n xs scope rest frames env vs ws s x is results new before laid agree same few fits = record {
    f = f;
    is = is;
    end = end;
    a = a;
    n = n + length xs;
    scope = with_values xs n scope;
    agree = subst (λ ps. Agree k (with_values xs n scope) (bind xs vs env) (low.bind ps ws s.top.current.regs)) (sym results) (agree_values k scope xs n env s.top.current.regs vs ws few before same agree);
    here = (before_values scope xs n before, laid);
    fits = wider k (with_values xs n scope) (bind xs vs env) (within_values scope xs n new) (λ y r e. named_new scope xs n env vs y r new e) fits;
  }

pub later_stands : StandsLater
later_stands p code k after t s later st = stands_later p code k after t s later st
