-- A run of some steps, and one step more.
use Rattle.std.proofs.Common.{◌≡◌, ◌<◌, ◌≤◌, ℕ, suc, ◌+◌, Bool, true, false, cond, List, Option, Some, None, refl, sym, ap, subst, ◌∙◌}
use Rattle.std.specs.Prelude.{slice_get}
use Rattle.std.proofs.lemmas.Bool.{lt-ltb, le-ltb}
use Rattle.ir_forms.specs.declared.args.ArgValue.{ArgValue}
use Rattle.ir_forms.specs.declared.ops.Module.{Module}
use Rattle.source_meaning.specs.declared.ends.SourceEnd.{SourceEnd}
use Rattle.source_meaning.specs.declared.ends.SourceEnd.TheVariants.{Spent}
use Rattle.source_meaning.specs.Parts.{func_params, func_results}
use Rattle.source_meaning.specs.Tasks.{Program}
use Rattle.source_meaning.specs.Steps.{begins}
use Rattle.source_meaning.specs.Sequential as run
use Rattle.source_meaning.specs.Sequential.{Moved, On, Over, Metered, metered, metered_on, burns, top_begins, move, start, IsProgram, Means}
use Rattle.source_eval.specs.declared.sequence.Entry.{Entry}
use Rattle.source_eval.specs.declared.sequence.Sequence.{Sequence}
use Rattle.source_eval.specs.Following.{IsEntry, IsLike, IsMoved, HasCome}

module _ (p : Program) (k fuel : ℕ) (args : List ArgValue) where
  -- what n steps come to
  abbrev after : ℕ → Metered
  after n = metered p k fuel n (start p k args)

  one_more : (n begun : ℕ) (w : run.Sequence) (t : Bool) → (after n).0 ≡ begun → (after n).1 ≡ On w → top_begins w.stack ≡ t → after (suc n) ≡ burns p k fuel begun t w
  one_more n begun w t counts goes is =
      ap (λ b. metered_on p k fuel b (after n).1) counts ∙ (ap (metered_on p k fuel begun) goes ∙ ap (λ b. burns p k fuel begun b w) is)

  top_is : (s : Sequence) (w : run.Sequence) (t : Bool) → IsLike s w → begins s.top.task ≡ t → top_begins w.stack ≡ t
  top_is s w t like is = ap top_begins like.stack ∙ is

  metered_as : (end : Option SourceEnd) (begun : ℕ) (s : Sequence) (m : Moved) (n : ℕ) → after n ≡ (begun, m) → IsMoved end s m → HasCome p k fuel args end begun s
  metered_as None begun s m n is moved = (n, (ap (λ a. a.0) is, subst (IsMoved None s) (sym (ap (λ a. a.1) is)) moved))
  metered_as (Some end) begun s m n is moved = (n, subst (IsMoved (Some end) s) (sym (ap (λ a. a.1) is)) moved)

  -- nothing was done yet
  pub at_start : (s : Sequence) → IsLike s (start p k args) → HasCome p k fuel args None 0 s
  at_start s like = (0, (refl, (start p k args, refl, like)))

  -- a step that begins an operation
  pub begins_more : (begun : ℕ) (s new : Sequence) (end : Option SourceEnd) → HasCome p k fuel args None begun s → begins s.top.task ≡ true → begun < fuel →
      ((w : run.Sequence) → IsLike s w → IsMoved end new (move p k w)) → HasCome p k fuel args end (begun + 1) new
  begins_more begun s new end (n, (counts, (w, goes, like))) is left moves =
      metered_as end (begun + 1) new (move p k w) (suc n)
      (one_more n begun w true counts goes (top_is s w true like is) ∙ ap (λ t. cond t (begun + 1, move p k w) (begun, Over (Spent fuel) w.trace)) (lt-ltb begun fuel left))
      (moves w like)

  -- another step
  pub goes_more : (begun : ℕ) (s new : Sequence) (end : Option SourceEnd) → HasCome p k fuel args None begun s → begins s.top.task ≡ false →
      ((w : run.Sequence) → IsLike s w → IsMoved end new (move p k w)) → HasCome p k fuel args end begun new
  goes_more begun s new end (n, (counts, (w, goes, like))) is moves =
      metered_as end begun new (move p k w) (suc n) (one_more n begun w false counts goes (top_is s w false like is)) (moves w like)

  -- no fuel is left for it
  pub no_fuel : (begun : ℕ) (s : Sequence) → HasCome p k fuel args None begun s → begins s.top.task ≡ true → fuel ≤ begun → HasCome p k fuel args (Some (Spent fuel)) begun s
  no_fuel begun s (n, (counts, (w, goes, like))) is none =
      metered_as (Some (Spent fuel)) begun s (Over (Spent fuel) w.trace) (suc n)
      (one_more n begun w true counts goes (top_is s w true like is) ∙ ap (λ t. cond t (begun + 1, move p k w) (begun, Over (Spent fuel) w.trace)) (le-ltb begun fuel none))
      (ap (Over (Spent fuel)) like.trace)

  -- the run that is over is what the module means
  pub means : (built : Module) (end : SourceEnd) (s : Sequence) → IsProgram built p → (begun : ℕ) × HasCome p k fuel args (Some end) begun s → Means built k args fuel end s.entries
  means built end s exact (begun, (n, is)) = record { p = p; exact = exact; steps = n; begun = (after n).0; comes = ap (λ m. ((after n).0, m)) is }

-- the function that is run is the entry
pub entry_is : (built : Module) (p : Program) (k : ℕ) (e : Entry) → IsProgram built p → e.results.now ≡ func_results (slice_get built.funcs k) → e.params.now ≡ func_params (slice_get built.funcs k) → IsEntry p k e
entry_is built p k e exact results params =
    (ap (λ funcs. func_results (slice_get funcs k)) exact.funcs ∙ sym results, ap (λ funcs. func_params (slice_get funcs k)) exact.funcs ∙ sym params)
