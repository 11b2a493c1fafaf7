-- The tasks of a program agree with those of one whose values have other names.
use Rattle.std.specs.Prelude.{map, slice_get, ⊤}
use Rattle.std.specs.Option.{option_map}
use Rattle.std.proofs.Common.{◌≡◌, ℕ, ◌+◌, List, [], ◌∷◌, ◌++◌, Option, Some, None, refl, sym, ap, subst, ◌∙◌}
use Rattle.ir_forms.specs.declared.args.ArgValue.{ArgValue}
use Rattle.ir_forms.specs.declared.ops.Func.{Func}
use Rattle.ir_forms.specs.declared.ops.ValueNo.{ValueNo}
use Rattle.ir_forms.specs.declared.types.Ty.{Ty}
use Rattle.meaning_laws.specs.RenamedSteps as step
use Rattle.meaning_laws.proofs.Renamed.{sees_bind, bound_like, func_ops_like, scope_like, step_is_renamed}
use Rattle.source_meaning.specs.declared.values.Val.{Val}
use Rattle.source_meaning.specs.declared.values.Val.TheVariants.{Number}
use Rattle.source_meaning.specs.Parts.{func_ops, func_params, func_results}
use Rattle.source_meaning.specs.Renaming.{renamed_values, renamed_params, renamed_func, IsRenamed, IsInjective, Sees, end, LikeLoop, done, failing, LikeTask}
use Rattle.source_meaning.specs.Rows.{variables}
use Rattle.source_meaning.specs.Start.{arguments, outs, buffer_out, buffers_out, root_task, end_of}
use Rattle.source_meaning.specs.declared.ends.SourceEnd.TheVariants.{Done}
use Rattle.source_meaning.specs.Sequential.{iteration}
use Rattle.source_meaning.specs.Steps.{next}
use Rattle.source_meaning.specs.Tasks.{Program, Loop, Task, Ask, Reads, Writes, Allocs, Creates, Adds, Launches, Enters, JoinsAll, AwaitsOne, AwaitsAll, Answer, Outcome, Gave, FailedAt, Next, resumed}
use Rattle.source_meaning.specs.World.{World, answer}
use Rattle.source_meaning.specs.Values.{bind}
use Rattle.carry_laws.specs.Agreement as alike
use Rattle.carry_laws.specs.Agreement.{LikeAsk, LikeNext, Meets, both}
use Rattle.carry_laws.specs.Instances.{RenamedProgramsAgree}

abbrev Any : World → Type 0
Any w = ⊤

-- ---- the end

module _ (σ : ℕ → ℕ) where
  buffers_same : (w : World) (j : ℕ) (params : List (ValueNo × Ty)) → buffers_out w j (renamed_params σ params) ≡ buffers_out w j params
  buffers_same w j [] = refl
  buffers_same w j (param ∷ params) = ap (λ bs. buffer_out w j param.1 ++ bs) (buffers_same w (j + 1) params)

  results_same : (f : Option Func) → func_results (option_map (renamed_func σ) f) ≡ func_results f
  results_same None = refl
  results_same (Some f) = refl

  buffers_like : (w : World) (f : Option Func) → buffers_out w 0 (func_params (option_map (renamed_func σ) f)) ≡ buffers_out w 0 (func_params f)
  buffers_like w None = refl
  buffers_like w (Some f) = buffers_same w 0 f.params

  done_like : (w : World) (vs : List Val) (f : Option Func) →
      Done (outs (func_results (option_map (renamed_func σ) f)) vs) (buffers_out w 0 (func_params (option_map (renamed_func σ) f))) ≡ Done (outs (func_results f) vs) (buffers_out w 0 (func_params f))
  done_like w vs f =
      ap (λ ts. Done (outs ts vs) (buffers_out w 0 (func_params (option_map (renamed_func σ) f)))) (results_same f) ∙ ap (λ bs. Done (outs (func_results f) vs) bs) (buffers_like w f)

module _ (σ : ℕ → ℕ → ℕ) (inj : IsInjective σ) (p q : Program) (entry : ℕ) (args : List ArgValue) (renamed : IsRenamed σ p q) where
  -- ---- loops and askings

  iteration_like : (l m : Loop) → LikeLoop σ l m → (i : ℕ) → LikeTask σ (iteration l i) (iteration m i)
  iteration_like l m h i = record {
    pending = done;
    rest = h.body;
    frames = end;
    scope = record {
      func = h.scope.func;
      nest = h.scope.nest;
      sees = subst (λ spans. Sees σ l.scope.func (bind l.params (map Number (variables l.spans i)) l.scope.env) (bind m.params (map Number (variables spans i)) m.scope.env)) (sym h.spans)
          (subst (λ xs. Sees σ l.scope.func (bind l.params (map Number (variables l.spans i)) l.scope.env) (bind xs (map Number (variables l.spans i)) m.scope.env)) (sym h.params)
          (sees_bind σ inj l.scope.func l.params (map Number (variables l.spans i)) l.scope.env m.scope.env h.scope.sees));
    };
  }

  loop_like : (l m : Loop) → LikeLoop σ l m → alike.LikeLoop (LikeTask σ) l m
  loop_like l m h = record { total = h.total; split = h.split; iterations = iteration_like l m h }

  same_ask : (a : Ask) → step.HasNoTask a → LikeAsk (LikeTask σ) a a
  same_ask (Reads b i) n = alike.same (Reads b i) tt
  same_ask (Writes b i v) n = alike.same (Writes b i v) tt
  same_ask (Allocs dims) n = alike.same (Allocs dims) tt
  same_ask (Creates v) n = alike.same (Creates v) tt
  same_ask (Adds g x used) n = alike.same (Adds g x used) tt
  same_ask (Launches c r) n = absurd n
  same_ask (Enters loop) n = absurd n
  same_ask (JoinsAll loop) n = absurd n
  same_ask (AwaitsOne x) n = alike.same (AwaitsOne x) tt
  same_ask (AwaitsAll g) n = alike.same (AwaitsAll g) tt

  ask_like : (a b : Ask) → step.LikeAsk σ a b → LikeAsk (LikeTask σ) a b
  ask_like a b (step.same c n) = same_ask c n
  ask_like a b (step.launches t u r h) = alike.launches t u r h
  ask_like a b (step.enters l m h) = alike.enters l m (loop_like l m h)
  ask_like a b (step.joins_all l m h) = alike.joins_all l m (loop_like l m h)

  -- ---- steps

  resumed_like : (at : ℕ) (xs : List ValueNo) (t u : Task) → LikeTask σ t u → (r : Answer) → LikeTask σ (resumed at xs t r) (resumed at (renamed_values (σ t.scope.func) xs) u r)
  resumed_like at xs t u h None = record { pending = failing at done; rest = h.rest; frames = h.frames; scope = h.scope }
  resumed_like at xs t u h (Some vs) = bound_like σ inj xs vs t u h

  pub next_like : (m n : Next) → step.LikeNext σ m n → LikeNext (LikeTask σ) Any m n
  next_like m n (step.goes t u h) = alike.goes t u h
  next_like m n (step.asks at a b xs t u like h) =
      alike.asks at at a b xs (renamed_values (σ t.scope.func) xs) t u (ask_like a b like) (λ w r k any. (resumed_like at xs t u h (answer w r k a), tt))
  next_like m n (step.ends o) = alike.ends o (λ w r any. tt)

  pub root_like : LikeTask σ (root_task p entry args) (root_task q entry args)
  root_like = record {
    pending = done;
    rest = ap func_ops (renamed.funcs entry) ∙ func_ops_like σ inj p q renamed entry (slice_get p.funcs entry);
    frames = end;
    scope = scope_like σ inj p q renamed entry (arguments 0 args);
  }

  end_like : (w : World) (o : Outcome) → end_of q entry w o ≡ end_of p entry w o
  end_like w (Gave vs) = ap (λ f. Done (outs (func_results f) vs) (buffers_out w 0 (func_params f))) (renamed.funcs entry) ∙ done_like (σ entry) w vs (slice_get p.funcs entry)
  end_like w (FailedAt at) = refl

pub renamed_programs_agree : RenamedProgramsAgree
renamed_programs_agree σ p q entry args inj renamed = record {
  starts = root_like σ inj p q entry args renamed;
  kept = tt;
  meets = λ t u h there here. both t u (next_like σ inj p q entry args renamed (next p t) (next q u) (step_is_renamed σ p q t u inj renamed h));
  ends = end_like σ inj p q entry args renamed;
}
