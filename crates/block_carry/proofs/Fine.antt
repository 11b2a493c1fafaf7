-- Steps of tasks that are held aren't stuck.
use Rattle.std.proofs.Common.{◌≡◌, ℕ, ◌==◌, ◌++◌, nat_lt, cond, Bool, true, false, List, [], ◌∷◌, length, Option, Some, None, refl, sym, subst}
use Rattle.std.specs.Prelude.{slice_set}
use Rattle.ir_forms.specs.declared.ops.ValueNo.{ValueNo}
use Rattle.ir_forms.specs.declared.runs.ObjNo.{ObjNo}
use Rattle.low_forms.specs.declared.code.Instr.{Instr}
use Rattle.low_forms.specs.declared.code.LowFunc.{LowFunc}
use Rattle.low_forms.specs.declared.code.LowModule.{LowModule}
use Rattle.low_forms.specs.declared.code.Reg.{Reg}
use Rattle.source_meaning.specs.Steps.{next}
use Rattle.source_meaning.specs.Tasks.{Program, Task, Ask, Reads, Writes, Allocs, Creates, Adds, Launches, Enters, JoinsAll, AwaitsOne, AwaitsAll, Outcome, Gave, FailedAt, Next, Goes, Asks, Ends}
use Rattle.task_stack.specs.Frames.{Stack}
use Rattle.async_objects.specs.declared.kinds.Val.TheVariants as val
use Rattle.step_core.specs.declared.limits.Limit.TheVariants as limit
use Rattle.step_core.specs.Shared as core
use Rattle.step_core.specs.Shared.{Took, on}
use Rattle.step_core.specs.High as high
use Rattle.step_core.specs.High.{High, Gathering, outcome, goes_to, all_ended, one_failed, adds_to, awaits_group, high_step}
use Rattle.scf_blocks.specs.Code.{await, block_no}
use Rattle.block_carry.specs.Same.{Known}
use Rattle.block_carry.specs.Follows.{quiet, AsksSo, EndsSo}
use Rattle.block_carry.specs.Taken.{HasTask, looked}
use Rattle.block_carry.specs.Held.{DoesSo, IsFine, Knows, NeverStuckHere}
use Rattle.block_carry.proofs.Taking.{quiet_taken, reads_taken, writes_taken, allocs_taken, creates_taken}
use Rattle.block_carry.proofs.Over.{launches_taken, gave_taken, failed_taken, root_gave_taken, root_failed_taken}
use Rattle.block_carry.proofs.Looking.{awaits_taken}
use Rattle.block_carry.proofs.Gathered.{adds_taken, awaits_all_taken}
use Rattle.block_carry.proofs.Holding.{stops_so}

fine_goes : (h : High) (t : ℕ) (s : Stack) (f : LowFunc) (r : Reg) (go failure : ℕ) (o : ObjNo) (z : Bool) → IsFine (goes_to f (await r (block_no go) (block_no failure)) (cond z 1 0) [] o h t s)
fine_goes h t s f r go failure o true = tt
fine_goes h t s f r go failure o false = tt

-- an add goes on, or the group's size stops it
fine_adds : (group : Gathering) (j q : ℕ) (g o : ObjNo) (i : Instr) (h : High) (t : ℕ) (s : Stack) → IsFine (adds_to group j q g o i h t s)
fine_adds group j q g o i h t s = by (nat_lt (length group.members) group.size)
  where
    by : (z : Bool) → IsFine (cond z (high.goes_on (record h { groups = slice_set h.groups j (record group { members = group.members ++ q ∷ [] }) }) t (on s i (val.Number (length group.members) ∷ [])) (core.Adds g o (length group.members))) (core.Stopped (limit.Group group.size)))
    by true = tt
    by false = tt

-- an await of a group goes on, or is no step
fine_gathers : (group : Gathering) (f : LowFunc) (r : Reg) (go failure : ℕ) (o : ObjNo) (h : High) (t : ℕ) (s : Stack) → IsFine (awaits_group group f (await r (block_no go) (block_no failure)) o h t s)
fine_gathers group f r go failure o h t s = by (cond (length group.members == group.size) (all_ended h group.members) false)
  where
    by : (z : Bool) → IsFine (cond z (goes_to f (await r (block_no go) (block_no failure)) (cond (one_failed h group.members) 1 0) [] o h t s) core.Idle)
    by true = fine_goes h t s f r go failure o (one_failed h group.members)
    by false = tt

fine_looked : (h : High) (t : ℕ) (f : LowFunc) (s : Stack) (go failure place : ℕ) (o : ObjNo) (e : Option high.Outcome) → IsFine (looked h t f s go failure place o e)
fine_looked h t f s go failure place o None = tt
fine_looked h t f s go failure place o (Some (high.Gave vals)) = tt
fine_looked h t f s go failure place o (Some high.Failed) = tt

module _ (p : Program) (code : LowModule) (k : Known) (h : High) (t : ℕ) (s : Stack) (has : HasTask h t s) (knows : Knows k h) where
  fine_asks : (number : ℕ) (ask : Ask) (xs : List ValueNo) (v : Task) → AsksSo p code k number ask xs v s → IsFine (high_step code h t)
  fine_asks number (Reads b c) xs v d = subst IsFine (sym (reads_taken p code k h t s number b c xs v has knows.cells d).4) tt
  fine_asks number (Writes b c n) xs v d = subst IsFine (sym (writes_taken p code k h t s number b c n xs v has knows.cells d).2) tt
  fine_asks number (Allocs dims) xs v d = subst IsFine (sym (allocs_taken p code k h t s number dims xs v has d)) tt
  fine_asks number (Creates n) xs v d = subst IsFine (sym (creates_taken p code k h t s number n xs v has d)) tt
  fine_asks number (Adds g x used) xs v d =
      let one = adds_taken p code k h t s number g x used xs v has knows.refs knows.groups d in
      subst IsFine (sym one.11) (fine_adds one.5 one.2 one.3 one.0 one.1 d.i h t s)
  fine_asks number (Launches child r) xs v d = subst IsFine (sym (launches_taken p code k h t s number child r xs v has d).3) tt
  fine_asks number (Enters loop) xs v d = absurd d.asks
  fine_asks number (JoinsAll loop) xs v d = absurd d.asks
  fine_asks number (AwaitsOne x) xs v d =
      let one = awaits_taken p code k h t s number x xs v has knows.refs d in
      subst IsFine (sym one.5) (fine_looked h t d.f s d.then.go d.then.failure one.2 one.0 (outcome h one.1))
  fine_asks number (AwaitsAll g) xs v d =
      let one = awaits_all_taken p code k h t s number g xs v has knows.refs knows.groups d in
      subst IsFine (sym one.6) (fine_gathers one.2 d.f d.then.o d.then.go d.then.failure one.0 h t s)

  fine_ends : (o : Outcome) (root : Bool) → s.is_root ≡ root → EndsSo p code k o s → IsFine (high_step code h t)
  fine_ends (Gave vs) true root e = subst IsFine (sym (root_gave_taken p code k h t s vs has root e).2) tt
  fine_ends (Gave vs) false root e = subst IsFine (sym (gave_taken p code k h t s vs has root e).2) tt
  fine_ends (FailedAt number) true root e = subst IsFine (sym (root_failed_taken p code k h t s number has root e)) tt
  fine_ends (FailedAt number) false root e = subst IsFine (sym (failed_taken p code k h t s number has root e)) tt

  fine_does : (x : Next) → DoesSo p code k s x → IsFine (high_step code h t)
  fine_does (Goes v) d = absurd d
  fine_does (Asks number ask xs v) d = fine_asks number ask xs v d
  fine_does (Ends o) d = fine_ends o s.is_root refl d

pub never_stuck_here : NeverStuckHere
never_stuck_here p code all k h t u s has knows holds ready = by (quiet code s) refl
  where
    by : (q : Option Stack) → quiet code s ≡ q → IsFine (high_step code h t)
    by (Some a) e = subst IsFine (sym (quiet_taken code h t s a has e)) tt
    by None e = fine_does p code k h t s has knows (next p u) (stops_so p code all k u s holds ready e)
