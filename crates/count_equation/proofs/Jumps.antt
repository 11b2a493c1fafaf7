-- A branch keeps the equation: references go along with the arguments, and come to the parameters.
use Rattle.std.proofs.Common.{◌≡◌, ℕ, zero, suc, ◌+◌, ◌-◌, ◌≤◌, ◌==◌, ◌&&◌, ◌||◌, not, if◌then◌else◌, cond, Bool, true, false, List, [], ◌∷◌, ◌++◌, length, Option, Some, None, refl, sym, ap, ◌∙◌, subst, arith}
use Rattle.std.specs.Prelude.{slice_get, nat_le}
use Rattle.low_flow.specs.Lists.{has, list_at}
use Rattle.low_forms.specs.declared.code.Instr.{Instr}
use Rattle.low_forms.specs.declared.code.Target.{Target}
use Rattle.low_forms.specs.declared.code.Term.{Term}
use Rattle.low_forms.specs.declared.code.Block.{Block}
use Rattle.low_forms.specs.declared.code.LowFunc.{LowFunc}
use Rattle.low_forms.specs.declared.code.LowModule.{LowModule}
use Rattle.low_forms.specs.Rows.{row_of}
use Rattle.low_forms.specs.Registers.{like_types}
use Rattle.low_forms.specs.Assigned.{numbers}
use Rattle.low_forms.specs.Places.{Remaining, remaining_in}
use Rattle.low_forms.specs.Edges.{count_to, edges, edges_from, blocks_of}
use Rattle.low_forms.specs.Owns.{references, uses, takes, takes_at_end, first_args}
use Rattle.low_forms.specs.Saves.{is_suspend}
use Rattle.source_meaning.specs.Values.{maybe}
use Rattle.async_objects.specs.declared.kinds.Val.{Val}
use Rattle.async_objects.proofs.ListLemmas.{some_is}
use Rattle.task_stack.specs.declared.frames.Place.{Place}
use Rattle.task_stack.specs.Registers.{held, bind, values_at}
use Rattle.own_tables.specs.declared.table.OwnTable.{OwnTable}
use Rattle.own_tables.specs.Numbers.{number_of}
use Rattle.own_tables.specs.Owns.{IsReached, Fits, is_object_reg, allows_at_end, carried, left, part, arrives}
use Rattle.count_sums.specs.Sums.{total, share, owned}
use Rattle.count_sums.proofs.Sums.{owned_same, owned_counts}
use Rattle.count_equation.specs.Equation.{for_object, at_place, Stands}
use Rattle.count_equation.specs.Covers.{ParamsOnce}
use Rattle.count_equation.proofs.Places.{and_first, and_second, At}
use Rattle.count_equation.proofs.Numbers.{within, same_number, not_or}
use Rattle.count_equation.proofs.Moves.{gained, gained_is, shares, comes, fresh, like_many, like_shares, not_counted}
use Rattle.count_equation.proofs.Edges.{edge_at, target_block, reached_on}

-- ---- the terminator

abbrev next_in : Option Remaining → Option (List Instr)
next_in None = None
next_in (Some r) = Some r.instrs

abbrev term_in : Option Remaining → Option Term
term_in None = None
term_in (Some r) = Some r.term

some_more : {X : Type 0} (x : X) (xs : List X) → Some (x ∷ xs) ≡ Some [] → ⊥
some_more x xs e = cc

none_some : {X : Type 0} (x : X) → None ≡ Some x → ⊥
none_some x e = cc

pub term_at : (xs : List Instr) (u t : Term) (k : ℕ) → remaining_in xs u k ≡ Some (record { instrs = []; term = t }) → (k ≡ length xs) × (u ≡ t)
term_at [] u t zero e = (refl, some_is u t (ap term_in e))
term_at [] u t (suc k) e = absurd (none_some t (ap term_in e))
term_at (x ∷ xs) u t zero e = absurd (some_more x xs (ap next_in e))
term_at (x ∷ xs) u t (suc k) e = let later : (k ≡ length xs) × (u ≡ t) = term_at xs u t k e in (ap suc later.0, later.1)

-- the k-th target of a branch
pub record JumpsTo (f : LowFunc) (t : Term) (k : ℕ) (target : Target) (block : Block) : Type 0 where
  pub takes_them : (row_of t.instr.kind).takes ≡ true
  pub alone : references f t.instr.operands ≡ []
  pub there : slice_get t.targets k ≡ Some target
  pub same_args : references f (first_args t.targets) ≡ references f target.args
  pub block_there : slice_get f.blocks target.block.0 ≡ Some block
  pub like : like_types f target.args f block.params ≡ true
  pub leads : (is : Bool) → edges_from is t ≡ blocks_of t.targets
  pub goes_on : is_suspend t.instr.kind ≡ false

module _ (code : LowModule) (table : OwnTable) (fits : Fits code table) (once : ParamsOnce code) (p : Place) (f : LowFunc) (t : Term)
    (at' : At code p (record { func = f; rest = record { instrs = []; term = t } })) (reached : IsReached f p.block.0) (k : ℕ) (target : Target) (e : Block) (jump : JumpsTo f t k target e) where
  abbrev own : ℕ → ℕ
  own r = number_of table p.func.0 p.block.0 p.at r

  abbrev was : ℕ → ℕ
  was = at_place code table p

  abbrev there : Place
  there = record { func = p.func; block = target.block; at = 0 }

  abbrev args : List ℕ
  args = references f target.args

  -- what the branch leaves
  abbrev rests : ℕ → ℕ
  rests r = was r - count_to r args

  ends : (p.at ≡ length at'.block.instrs) × (at'.block.term ≡ t)
  ends = term_at at'.block.instrs at'.block.term t p.at at'.rest

  edge : slice_get (list_at (edges f) p.block.0) k ≡ Some target.block.0
  edge =
      let is : list_at (edges f) p.block.0 ≡ blocks_of t.targets =
      edge_at f p.block.0 at'.block at'.block_there (λ first. subst (λ (u : Term). edges_from first u ≡ blocks_of u.targets) (sym ends.1) (jump.leads first)) ∙ ap (λ (u : Term). blocks_of u.targets) ends.1 in
      ap (λ (xs : List ℕ). slice_get xs k) is ∙ target_block t.targets k target jump.there

  taken_are : (r : ℕ) → count_to r (takes_at_end f t) ≡ count_to r args
  taken_are r =
      ap (λ (b : Bool). count_to r ((if b then references f t.instr.operands else []) ++ (if b then references f (first_args t.targets) else []))) jump.takes_them
      ∙ ap (λ (xs : List ℕ). count_to r (xs ++ references f (first_args t.targets))) jump.alone ∙ ap (count_to r) jump.same_args

  was_object : (r : ℕ) → is_object_reg f r ≡ true → was r ≡ own r
  was_object r is = ap (λ m. maybe 0 (λ g. for_object (own r) g r) m) at'.func_there ∙ ap (λ o. cond o (own r) 0) is

  was_other : (r : ℕ) → is_object_reg f r ≡ false → was r ≡ 0
  was_other r is = ap (λ m. maybe 0 (λ g. for_object (own r) g r) m) at'.func_there ∙ ap (λ o. cond o (own r) 0) is

  enough : (r : ℕ) → is_object_reg f r ≡ true → count_to r args ≤ own r
  enough r is =
      let a : allows_at_end f at'.block.term r (number_of table p.func.0 p.block.0 (length at'.block.instrs) r) ≡ true = ((fits.owns p.func.0 f at'.func_there).ends p.block.0 r at'.block reached at'.block_there is).0 in
      let b : allows_at_end f t r (own r) ≡ true = subst (λ n. allows_at_end f t r (number_of table p.func.0 p.block.0 n r) ≡ true) (sym ends.0) (subst (λ u. allows_at_end f u r (number_of table p.func.0 p.block.0 (length at'.block.instrs) r) ≡ true) ends.1 a) in
      let c : count_to r (takes_at_end f t) ≤ own r = within (count_to r (takes_at_end f t)) (own r) (and_second (not (has r (uses t.instr)) || nat_le 1 (own r)) (nat_le (count_to r (takes_at_end f t)) (own r)) b) in
      subst (λ n. n ≤ own r) (taken_are r) c

  splits : (r : ℕ) → was r ≡ rests r + count_to r args
  splits r = step (is_object_reg f r) refl
    where
      step : (b : Bool) → is_object_reg f r ≡ b → was r ≡ rests r + count_to r args
      step true is = let a : was r ≡ own r = was_object r is in let b : count_to r args ≤ own r = enough r is in omega (arith, a, b)
      step false is = let a : was r ≡ 0 = was_other r is in let b : count_to r args ≡ 0 = not_counted f r target.args is in omega (arith, a, b)

  arrive : (r : ℕ) → is_object_reg f r ≡ true → arrives f e r (rests r) (number_of table p.func.0 target.block.0 0 r) ≡ true
  arrive r is =
      let a : arrives f e r (carried f p.block.0 at'.block k r (number_of table p.func.0 p.block.0 (length at'.block.instrs) r)) (number_of table p.func.0 target.block.0 0 r) ≡ true =
      (fits.owns p.func.0 f at'.func_there).goes p.block.0 target.block.0 k r at'.block e reached at'.block_there edge jump.block_there is in
      let n : number_of table p.func.0 p.block.0 (length at'.block.instrs) r ≡ own r = ap (λ m. number_of table p.func.0 p.block.0 m r) (sym ends.0) in
      let c : carried f p.block.0 at'.block k r (number_of table p.func.0 p.block.0 (length at'.block.instrs) r) ≡ rests r =
      ap (carried f p.block.0 at'.block k r) n
      ∙ ap (λ (u : Term). if is_suspend u.instr.kind && (p.block.0 == 0) then part at'.block.instrs k r (own r) else left f u r (own r)) ends.1
      ∙ ap (λ (b : Bool). if b && (p.block.0 == 0) then part at'.block.instrs k r (own r) else left f t r (own r)) jump.goes_on
      ∙ ap (λ m. own r - m) (taken_are r) ∙ ap (λ m. m - count_to r args) (sym (was_object r is)) in
      subst (λ m. arrives f e r m (number_of table p.func.0 target.block.0 0 r) ≡ true) c a

  -- the numbers at the target
  then_are : (r : ℕ) → at_place code table there r ≡ gained f rests e.params r
  then_are r = step (is_object_reg f r) refl
    where
      now : at_place code table there r ≡ for_object (number_of table p.func.0 target.block.0 0 r) f r
      now = ap (λ m. maybe 0 (λ g. for_object (number_of table p.func.0 target.block.0 0 r) g r) m) at'.func_there

      step : (b : Bool) → is_object_reg f r ≡ b → at_place code table there r ≡ gained f rests e.params r
      step true is =
          let a : at_place code table there r ≡ number_of table p.func.0 target.block.0 0 r = now ∙ ap (λ o. cond o (number_of table p.func.0 target.block.0 0 r) 0) is in
          let b : number_of table p.func.0 target.block.0 0 r ≡ rests r + count_to r (references f e.params) =
          same_number (number_of table p.func.0 target.block.0 0 r) (rests r + count_to r (references f e.params)) (and_second (not (has r (numbers e.params)) || (rests r == 0)) (number_of table p.func.0 target.block.0 0 r == rests r + count_to r (references f e.params)) (arrive r is)) in
          a ∙ b ∙ sym (gained_is f rests e.params r)
      step false is =
          let a : at_place code table there r ≡ 0 = now ∙ ap (λ o. cond o (number_of table p.func.0 target.block.0 0 r) 0) is in
          let b : was r ≡ 0 = was_other r is in
          let c : count_to r (references f e.params) ≡ 0 = not_counted f r e.params is in
          let d : gained f rests e.params r ≡ (was r - count_to r args) + count_to r (references f e.params) = gained_is f rests e.params r in
          let g : gained f rests e.params r ≡ 0 = omega (arith, b, c, d) in
          a ∙ sym g

  pub jump_owns : (o : ℕ) (regs : List Val) → owned (at_place code table there) o (bind e.params (values_at regs target.args) regs) ≡ owned was o regs
  jump_owns o regs =
      let a : owned (at_place code table there) o (bind e.params (values_at regs target.args) regs) ≡ owned (gained f rests e.params) o (bind e.params (values_at regs target.args) regs) =
      owned_same (at_place code table there) (gained f rests e.params) o (bind e.params (values_at regs target.args) regs) then_are in
      let new : owned (gained f rests e.params) o (bind e.params (values_at regs target.args) regs) ≡ owned rests o regs + shares f o e.params (values_at regs target.args) =
      comes f o rests e.params (values_at regs target.args) regs (like_many f target.args e.params regs jump.like) (fresh f rests e.params named others) in
      let old : owned was o regs ≡ owned rests o regs + total (λ r. share o (held regs r) 1) args =
      owned_same was (λ r. rests r + count_to r args) o regs splits ∙ owned_counts rests o regs args in
      let c : total (λ r. share o (held regs r) 1) args ≡ shares f o e.params (values_at regs target.args) = like_shares f o target.args e.params regs jump.like in
      omega (arith, a, new, old, c)
    where
      named : (q : ℕ) → is_object_reg f q ≡ true → has q (numbers e.params) ≡ true → rests q + count_to q (references f e.params) ≤ 1
      named q is has' =
          let z : rests q ≡ 0 = same_number (rests q) 0 (not_or (has q (numbers e.params)) (rests q == 0) (and_first (not (has q (numbers e.params)) || (rests q == 0)) (number_of table p.func.0 target.block.0 0 q == rests q + count_to q (references f e.params)) (arrive q is)) has') in
          let l : count_to q (references f e.params) ≤ 1 = once p.func.0 f at'.func_there target.block.0 e jump.block_there q is in
          omega (arith, z, l)

      others : (q : ℕ) → is_object_reg f q ≡ false → rests q ≡ 0
      others q is = let z : was q ≡ 0 = was_other q is in omega (arith, z)

  pub jump_stands : Stands code there
  jump_stands = record { func = f; there = at'.func_there; reached = reached_on f p.block.0 target.block.0 k e reached edge jump.block_there }
