-- What each task knows of the others: of each task how many entries of the trace.
use Rattle.std.specs.Prelude.{ℕ, zero, suc, cond, max, Bool, true, false, List, [], ◌∷◌}
use Rattle.ir_forms.specs.declared.names.Action.{Action}
use Rattle.ir_forms.specs.declared.names.ElementName.{ElementName}
use Rattle.ir_forms.specs.declared.names.MadeName.{MadeName}
use Rattle.ir_forms.specs.declared.names.TraceEntry.{TraceEntry}
use Rattle.ir_forms.specs.declared.names.Action.TheVariants.{Add, Launch, Enter, JoinAll, Await, AwaitAll}
use Rattle.ir_forms.specs.Names.{Path, launched_by, iteration_of, same_path, same_made, maker}

-- of each task a number of entries
abbrev pub Counts : Type 0
Counts = Path → ℕ

-- an element of a group, with what its adder knew directly after the add
pub record Added : Type 0 where
  pub group : MadeName
  pub element : ElementName
  pub adder : Counts

-- After a part of a trace: how many entries each task has, what it knows, how many iterations the parallel loop has that
-- it entered last, and the adds.
pub record Sight : Type 0 where
  pub taken : Counts
  pub knows : Path → Counts
  pub turns : Counts
  pub adds : List Added

-- the pointwise greatest
abbrev pub greatest : Counts → Counts → Counts
greatest c d q = max (c q) (d q)

-- one more entry of the task
abbrev pub one_more : Path → Counts → Counts
one_more p c q = cond (same_path p q) (suc (c q)) (c q)

-- what the first n iterations know of the loop that the k-th action of p entered
abbrev pub known_by_all : Path → ℕ → ℕ → Sight → Counts
known_by_all p k zero s q = 0
known_by_all p k (suc n) s q = max (s.knows (iteration_of p k n) q) (known_by_all p k n s q)

-- what the tasks of a group's members know, and their adders as they were directly after the add
abbrev pub known_by_members : MadeName → Sight → List Added → Counts
known_by_members g s [] q = 0
known_by_members g s (a ∷ adds) q =
    cond (same_made a.group g) (max (max (s.knows (maker a.element) q) (a.adder q)) (known_by_members g s adds q)) (known_by_members g s adds q)

-- what an action teaches its task p; a task that has ended knows what it knew at its end
abbrev pub learned : Path → Action → Sight → Counts
learned p (Await x) s = s.knows (maker x)
learned p (AwaitAll g) s = known_by_members g s s.adds
learned p JoinAll s = known_by_all p (s.taken p) (s.turns p) s
learned p _ s = λ q. 0

-- q is one of the first n iterations of that loop
abbrev pub is_iteration : Path → ℕ → ℕ → Path → Bool
is_iteration p k zero q = false
is_iteration p k (suc n) q = cond (same_path (iteration_of p k n) q) true (is_iteration p k n q)

-- the k-th action of p makes the task q
abbrev pub makes : Action → Path → ℕ → Path → Bool
makes (Launch r) p k q = same_path (launched_by p k) q
makes (Enter n is_split) p k q = is_iteration p k n q
makes _ p k q = false

-- what the entry's task knows directly after it
abbrev pub own : TraceEntry → Sight → Counts
own e s = greatest (one_more e.task (s.knows e.task)) (learned e.task e.action s)

-- the iterations of the loop that was entered last
abbrev pub entered : Action → ℕ → ℕ
entered (Enter n is_split) before = n
entered _ before = before

-- the adds with one more
abbrev pub added : Action → Counts → List Added → List Added
added (Add g x used) c adds = record { group = g; element = x; adder = c } ∷ adds
added _ c adds = adds

-- What is known after one more entry: tasks that it makes begin with what its own task knows.
abbrev pub after_entry : TraceEntry → Sight → Sight
after_entry e s = record {
  taken = one_more e.task s.taken;
  knows = λ q. cond (same_path e.task q) (own e s) (cond (makes e.action e.task (suc (s.taken e.task)) q) (own e s) (s.knows q));
  turns = λ q. cond (same_path e.task q) (entered e.action (s.turns q)) (s.turns q);
  adds = added e.action (own e s) s.adds;
}

-- before the first entry
abbrev pub knows_nothing : Sight
knows_nothing = record { taken = λ q. 0; knows = λ p q. 0; turns = λ q. 0; adds = [] }

-- what is known after more entries
abbrev pub after_entries : List TraceEntry → Sight → Sight
after_entries [] s = s
after_entries (e ∷ trace) s = after_entries trace (after_entry e s)

-- how many of each task's entries p knows after this trace
abbrev pub known : List TraceEntry → Path → Counts
known trace p = (after_entries trace knows_nothing).knows p
