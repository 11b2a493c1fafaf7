-- What is there stays where more is made, and so tasks stand where they stood.
use Rattle.std.proofs.Common.{◌≡◌, ◌≤◌, ◌<◌, ℕ, zero, suc, ◌+◌, ◌==◌, cond, Bool, true, false, List, [], ◌∷◌, ◌++◌, map, length, Option, Some, None, refl, sym, ap, ◌∙◌, subst, arith}
use Rattle.std.specs.Prelude.{slice_get}
use Rattle.ir_forms.specs.declared.runs.ObjNo.{ObjNo}
use Rattle.low_forms.specs.declared.code.LowFunc.{LowFunc}
use Rattle.low_forms.specs.declared.code.LowModule.{LowModule}
use Rattle.async_objects.specs.declared.kinds.Val.{Val}
use Rattle.async_objects.specs.declared.kinds.Val.TheVariants as val
use Rattle.async_objects.specs.declared.object.Object.{Object}
use Rattle.task_stack.specs.declared.frames.Frame.{Frame}
use Rattle.step_core.specs.declared.tasks.Task.{Task}
use Rattle.step_core.specs.High as upper
use Rattle.code_machines.specs.Objects as as_object
use Rattle.code_machines.specs.Objects.{Stands}
use Rattle.plain_carry.specs.Alike.{AlikeVal}
use Rattle.coro_carry.specs.Relation.{View, Holds, Data, Waits, AllWait, Under, AtRow, AtFailure, AtLoad, Awaits, WaitsFor, Saves, Suspends, Tests, Lands, at_row, at_failure, at_load, Tested, Match, lands, saves, suspends, tests, tested, Grows}
use Rattle.coro_carry.specs.Laws.{MatchGrows}

module _ (code : LowModule) (V after : View) (grows : Grows V after) where
  pub alike_grows : (v w : Val) → AlikeVal V.stands V.refs v w → AlikeVal after.stands after.refs v w
  alike_grows (val.Number n) (val.Number m) a = a
  alike_grows (val.Number n) (val.Buffer b rank dims) a = a
  alike_grows (val.Number n) (val.Object o) a = a
  alike_grows (val.Buffer b rank dims) (val.Number m) a = a
  alike_grows (val.Buffer b rank dims) (val.Buffer c rank' dims') a = a
  alike_grows (val.Buffer b rank dims) (val.Object o) a = a
  alike_grows (val.Object o) (val.Number m) a = a
  alike_grows (val.Object o) (val.Buffer b rank dims) a = a
  alike_grows (val.Object o) (val.Object p) a = (a.0, grows.refs p.0 a.0 a.1, grows.stands o.0 a.0 a.2)

  holds_grows : (v : Val) (t j : ℕ) → Holds V v (as_object.Element t j) → Holds after v (as_object.Element t j)
  holds_grows v t j h = record {
    object = h.object;
    holds = h.holds;
    stands = grows.stands h.object.0 (upper.Element t j) h.stands;
    face = h.face;
    there = grows.faces h.object.0 h.face h.there;
    unset = h.unset;
  }

  module _ (t : ℕ) where
    pub data_grows : (f : LowFunc) (regs regs' : List Val) → Data V t f regs regs' → Data after t f regs regs'
    data_grows f regs regs' d = record { own = λ r below. alike_grows _ _ (d.own r below); objects = λ is j le. holds_grows _ t j (d.objects is j le) }

    waits_grow : (frames frames' : List Frame) → AllWait code V t frames frames' → AllWait code after t frames frames'
    waits_grow [] [] w = tt
    waits_grow [] (y ∷ ys) w = elim w [ ]
    waits_grow (x ∷ xs) [] w = elim w [ ]
    waits_grow (x ∷ xs) (y ∷ ys) w = (record { func = w.0.func; block = w.0.block; rest = w.0.rest; last = w.0.last; row = w.0.row; both = data_grows w.0.func _ _ w.0.both; saved = w.0.saved }, waits_grow xs ys w.1)

    pub under_grows : (task task' : Task) → Under code V t task task' → Under code after t task task'
    under_grows task task' u = record { root = u.root; frames = waits_grow _ _ u.frames }

    row_grows : (task task' : Task) → AtRow code V t task task' → AtRow code after t task task'
    row_grows task task' a = record {
      func = a.func;
      block = a.block;
      rest = a.rest;
      row = a.row;
      both = data_grows a.func _ _ a.both;
      saved = a.saved;
      ready = a.ready;
      under = under_grows task task' a.under;
    }

    failure_grows : (task task' : Task) → AtFailure code V t task task' → AtFailure code after t task task'
    failure_grows task task' a = record {
      func = a.func;
      block = a.block;
      rest = a.rest;
      above = a.above;
      fails = a.fails;
      below = a.below;
      objects = λ is j le. holds_grows _ t j (a.objects is j le);
      saved = a.saved;
      ready = a.ready;
      under = under_grows task task' a.under;
    }

    load_grows : (task task' : Task) → AtLoad code V t task task' → AtLoad code after t task task'
    load_grows task task' a = record {
      func = a.func;
      block = a.block;
      rest = a.rest;
      awaited = a.awaited;
      to = a.to;
      others = a.others;
      above = a.above;
      stays = a.stays;
      below = a.below;
      few = a.few;
      before = a.before;
      both = data_grows a.func _ _ a.both;
      object = a.object;
      holds = a.holds;
      face = a.face;
      there = grows.faces a.object.0 a.face a.there;
      value = a.value;
      value' = a.value';
      payload = a.payload;
      alike = alike_grows a.value a.value' a.alike;
      loaded = a.loaded;
      saved = a.saved;
      ready = a.ready;
      under = under_grows task task' a.under;
    }

    lands_grow : (task task' : Task) → Lands code V t task task' → Lands code after t task task'
    lands_grow task task' (at_row is) = at_row (row_grows task task' is)
    lands_grow task task' (at_failure is) = at_failure (failure_grows task task' is)
    lands_grow task task' (at_load is) = at_load (load_grows task task' is)

    awaits_grow : (task task' : Task) (regs : List Val) → Awaits code V t task task' regs → Awaits code after t task task' regs
    awaits_grow task task' regs a = record {
      func = a.func;
      block = a.block;
      term = a.term;
      awaited = a.awaited;
      above = a.above;
      kind = a.kind;
      one = a.one;
      both = data_grows a.func _ _ a.both;
      under = under_grows task task' a.under;
    }

    waits_for_grows : (o : Option ObjNo) (v : Val) → WaitsFor V o v → WaitsFor after o v
    waits_for_grows (Some o) v w = w
    waits_for_grows None v w = (w.0, w.1, w.2, grows.faces w.0.0 w.1 w.3, w.4)

    pub match_grows_at : (task task' : Task) → Match code V t task task' → Match code after t task task'
    unfolding awaits_grow
    match_grows_at task task' (lands is) = lands (lands_grow task task' is)
    match_grows_at task task' (saves is) = saves (record { copy = is.copy; kept = is.kept; at = awaits_grow task task' _ is.at; same = is.same; ends = is.ends; below = is.below; behind = is.behind; ready = is.ready })
    match_grows_at task task' (suspends is) = suspends (record { copied = is.copied; at = awaits_grow task task' _ is.at; ends = is.ends; below = is.below; waits = waits_for_grows task.parked _ is.waits })
    match_grows_at task task' (tests is) = tests (record { at = awaits_grow task task' _ is.at; saved = is.saved; below = is.below; waits = waits_for_grows task.parked _ is.waits })
    match_grows_at task task' (tested is) = tested (record {
      func = is.func;
      number = is.number;
      targets = is.targets;
      below = is.below;
      there = is.there;
      failed = is.failed;
      flagged = is.flagged;
      ready = is.ready;
      lands = lands_grow _ task' is.lands;
    })

pub match_grows : MatchGrows
match_grows code V after t task task' grows m = match_grows_at code V after grows t task task' m
