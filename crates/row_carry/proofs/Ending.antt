-- The end of a run.
use Rattle.std.proofs.Common.{◌≡◌, ℕ, suc, ◌+◌, List, [], ◌∷◌, map, Option, Some, None, refl, sym, ap, ◌∙◌, arith}
use Rattle.std.specs.Prelude.{slice_get}
use Rattle.std.specs.Option.{option_map}
use Rattle.ir_forms.specs.declared.runs.Buffer.{Buffer}
use Rattle.low_forms.specs.declared.code.LowModule.{LowModule}
use Rattle.machines.proofs.Runs.{stays}
use Rattle.source_meaning.specs.declared.ends.SourceEnd.{SourceEnd}
use Rattle.source_meaning.specs.Values.{maybe, or_else}
use Rattle.step_core.specs.declared.cells.ArgBuffer.{ArgBuffer}
use Rattle.step_core.specs.declared.ends.End.{End}
use Rattle.step_core.specs.declared.ends.End.TheVariants as end
use Rattle.step_core.specs.declared.ends.RootEnd.{RootEnd}
use Rattle.step_core.specs.declared.ends.RootEnd.TheVariants.{Returned, FailedAt}
use Rattle.step_core.specs.declared.tasks.Task.{Task}
use Rattle.step_core.specs.State.{Plain, live_tasks, buffer_out, end_by, end_of}
use Rattle.step_core.specs.High.{High}
use Rattle.code_machines.specs.Numbered.{source_end}
use Rattle.code_machines.specs.HighCode.{HasEnded}
use Rattle.code_machines.specs.Objects.{Objects}
use Rattle.coro_carry.specs.Machines.{strict_high}
use Rattle.coro_carry.specs.Relation.{View, view, MatchAt, Agree}
use Rattle.row_carry.specs.Laws.{EndsFollow}

-- where no task is left in the first code, none is in the second
module _ (code : LowModule) (V : View) where
  none_left : (go : ℕ → ℕ) (xs ys : List (Option Task)) → ((t : ℕ) → MatchAt code V (go t) (slice_get xs t) (slice_get ys t)) → live_tasks xs ≡ 0 → live_tasks ys ≡ 0
  none_left go [] [] m none = refl
  none_left go [] (y ∷ ys) m none = elim (m 0) [ ]
  none_left go (None ∷ xs) [] m none = elim (m 0) [ ]
  none_left go (None ∷ xs) (None ∷ ys) m none = none_left (λ t. go (suc t)) xs ys (λ t. m (suc t)) none
  none_left go (None ∷ xs) (Some y ∷ ys) m none = elim (m 0) [ ]
  none_left go (Some x ∷ xs) ys m none = (let left : live_tasks xs + 1 ≡ 0 = none in absurd (omega (arith, left)))

-- ends of states with the same arguments
module _ (x y : Plain) (buffers : x.buffers ≡ y.buffers) (arguments : x.arguments ≡ y.arguments) where
  abbrev out_of : List (List ℕ) → ArgBuffer → Buffer
  out_of cells a = record { argument = a.argument; cells = map (λ n. record { ty = a.cell; bits = n }) (or_else [] (slice_get cells a.buffer)) }

  outs_same : map (buffer_out x) x.arguments ≡ map (buffer_out y) y.arguments
  outs_same = ap (λ (xs : List ArgBuffer). map (out_of x.buffers) xs) arguments ∙ ap (λ (cells : List (List ℕ)). map (out_of cells) y.arguments) buffers

  by_same : (e : RootEnd) → end_by x e ≡ end_by y e
  by_same (Returned results) = ap (λ (xs : List Buffer). end.Done results xs) outs_same
  by_same (FailedAt op) = refl

  ends_by : (o : Option RootEnd) → maybe None (λ e. Some (end_by x e)) o ≡ maybe None (λ e. Some (end_by y e)) o
  ends_by None = refl
  ends_by (Some e) = ap (λ (z : End). Some z) (by_same e)

  pub ends_same : x.root_end ≡ y.root_end → end_of x ≡ end_of y
  ends_same same = ends_by x.root_end ∙ ap (λ (o : Option RootEnd). maybe None (λ e. Some (end_by y e)) o) same

ends_too : (code : LowModule) (s : Plain) (k : Objects) (h : High) (e : SourceEnd) → Agree code s k h → HasEnded s e → HasEnded h.plain e
ends_too code s k h e a ended = (
  none_left code (view s k h) (λ t. t) s.tasks h.plain.tasks a.tasks ended.0,
  ap (λ (o : Option End). option_map source_end o) (sym (ends_same s h.plain a.buffers a.arguments a.root_end)) ∙ ended.1,
)

pub ends_follow : EndsFollow
ends_follow code n f g args s k h a e ended = (h, stays (strict_high code n g args) h, ends_too code s k h e a ended)
