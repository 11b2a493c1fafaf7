-- Answers in worlds that are alike.
use Rattle.std.proofs.Common.{◌≡◌, ◌<◌, ◌≤◌, ℕ, ◌+◌, ◌^◌, List, [], ◌∷◌, length, Bool, Option, Some, None, refl, sym, ap, subst, ◌∙◌, arith}
use Rattle.std.specs.Prelude.{nat_lt, nat_le}
use Rattle.std.proofs.lemmas.Bool.{cond-true, cond-false, lt-ltb, le-ltb, le-leb}
use Rattle.ir_forms.specs.declared.names.Action.{Action}
use Rattle.ir_forms.specs.declared.names.Action.TheVariants as act
use Rattle.ir_forms.specs.declared.names.ElementName.{ElementName}
use Rattle.ir_forms.specs.declared.names.MadeName.{MadeName}
use Rattle.ir_forms.specs.declared.names.MadeName.TheVariants.{Made}
use Rattle.ir_forms.specs.Names.{Path, launched_by, iteration_of, maker}
use Rattle.ir_forms.specs.Shapes.{product, most_cells}
use Rattle.source_meaning.specs.declared.ends.SourceEnd.TheVariants as end
use Rattle.source_meaning.specs.declared.values.Val.{Val}
use Rattle.source_meaning.specs.declared.values.Val.TheVariants.{Number, Memory, Group}
use Rattle.source_meaning.specs.Values.{maybe}
use Rattle.source_meaning.specs.Tasks.{Task, Loop, Answer, Ask, Writes, Allocs, Creates, Adds, Launches, JoinsAll, AwaitsAll}
use Rattle.source_meaning.specs.World.{World, Gathering, members, size, outcome, is_good, all_of, all_below, after, elements_of, unless_failed}
use Rattle.source_state.specs.Seen.{Alike}
use Rattle.source_tasks.specs.Numbers.{capped}
use Rattle.source_eval.specs.Answered.{IsAnswered}
use Rattle.source_eval.specs.declared.answers.Answered.{Answered}
use Rattle.source_eval.specs.declared.answers.Answered.TheVariants as answered

capped_is : (c i : ℕ) → c ≡ capped i → c < 2 ^ 32 → i ≡ c
capped_is c i e h = omega (arith, e, h)

-- a group has the same elements and the same size
same_members : (v w : World) → Alike v w → (g : MadeName) → members v g ≡ members w g
same_members v w like g = ap (λ (o : Option Gathering). maybe [] (λ h. h.members) o) (like.groups g)

same_size : (v w : World) → Alike v w → (g : MadeName) → size v g ≡ size w g
same_size v w like g = ap (λ (o : Option Gathering). maybe 0 (λ h. h.size) o) (like.groups g)

fits : (m n a : ℕ) → m + a ≤ 16777216 → m ≡ n → n + a ≤ most_cells
fits m n a h e = subst (λ x. x + a ≤ most_cells) e h

module _ (v new w : World) (p : Path) (k : ℕ) (like : Alike v w) (r : Answered) where
  goes_so : (ask : Ask) (action : Action) (given : Answer) (child : Option Task) → r ≡ answered.Goes action given child → IsAnswered (answered.Goes action given child) new w p k ask → IsAnswered r new w p k ask
  goes_so ask action given child e h = subst (λ x. IsAnswered x new w p k ask) (sym e) h

  pub write_answered : (b : MadeName) (c i place n : ℕ) (vals : List Val) → r ≡ answered.Goes (act.Write b place) (Some vals) None → vals ≡ [] → place ≡ c → c < 2 ^ 32 → c ≡ capped i → Alike new (after w p k (Writes b c n)) → IsAnswered r new w p k (Writes b i n)
  write_answered b c i place n vals e vs at small from kept =
      let same : i ≡ c = capped_is c i from small in
      goes_so (Writes b i n) (act.Write b place) (Some vals) None e
      (refl, ap Some vs, ap (λ j. act.Write b j) (at ∙ sym same), subst (λ j. Alike new (after w p k (Writes b j n))) (sym same) kept, refl)

  pub make_answered : (dims : List ℕ) (used cells : ℕ) (b : MadeName) (vals : List Val) → r ≡ answered.Goes (act.Alloc cells) (Some vals) None → vals ≡ Memory b dims ∷ [] → b ≡ Made p (k + 1) → used ≡ v.used → used + cells ≤ 16777216 → cells ≡ product dims → Alike new (after w p k (Allocs dims)) → IsAnswered r new w p k (Allocs dims)
  make_answered dims used cells b vals e vs at u room product_is kept =
      let within : w.used + product dims ≤ most_cells = subst (λ x. w.used + x ≤ most_cells) product_is (fits used w.used cells room (u ∙ like.used)) in
      goes_so (Allocs dims) (act.Alloc cells) (Some vals) None e
      (cond-true (nat_le (w.used + product dims) most_cells) None (Some (end.Cells w.used)) (le-leb (w.used + product dims) most_cells within), ap Some (vs ∙ ap (λ x. Memory x dims ∷ []) at), ap act.Alloc product_is, kept, refl)

  pub group_answered : (n : ℕ) (g : MadeName) (vals : List Val) → r ≡ answered.Goes (act.Create n) (Some vals) None → vals ≡ Group g ∷ [] → g ≡ Made p (k + 1) → Alike new (after w p k (Creates n)) → IsAnswered r new w p k (Creates n)
  group_answered n g vals e vs at kept =
      goes_so (Creates n) (act.Create n) (Some vals) None e (refl, ap Some (vs ∙ ap (λ x. Group x ∷ []) at), refl, kept, refl)

  pub add_answered : (g : MadeName) (x member : ElementName) (used : Bool) (added room : ℕ) (vals : List Val) → r ≡ answered.Goes (act.Add g x used) (Some vals) None → vals ≡ Number added ∷ [] → added ≡ length (members v g) → room ≡ size v g → added < room → member ≡ x → Alike new (after w p k (Adds g member used)) → IsAnswered r new w p k (Adds g x used)
  add_answered g x member used added room vals e vs count bound less copy kept =
      let counted : added ≡ length (members w g) = count ∙ ap length (same_members v w like g) in
      let fewer : length (members w g) < size w g = subst (λ n. length (members w g) < n) (bound ∙ same_size v w like g) (subst (λ n. n < room) counted less) in
      goes_so (Adds g x used) (act.Add g x used) (Some vals) None e
      (cond-true (nat_lt (length (members w g)) (size w g)) None (Some (end.Overfull g (size w g))) (lt-ltb (length (members w g)) (size w g) fewer), ap Some (vs ∙ ap (λ n. Number n ∷ []) counted), refl, subst (λ y. Alike new (after w p k (Adds g y used))) copy kept, refl)

  pub launch_answered : (t : Task) (results count : ℕ) (vals : List Val) → r ≡ answered.Goes (act.Launch count) (Some vals) (Some t) → vals ≡ elements_of (launched_by p (k + 1)) count → count ≡ results → Alike new w → IsAnswered r new w p k (Launches t results)
  launch_answered t results count vals e vs same kept =
      goes_so (Launches t results) (act.Launch count) (Some vals) (Some t) e
      (refl, ap Some (vs ∙ ap (elements_of (launched_by p (k + 1))) same), ap act.Launch same, kept, refl)

  pub join_answered : (loop : Loop) (total : ℕ) (good : Bool) (given : Answer) → r ≡ answered.Goes act.JoinAll given None → given ≡ unless_failed good → good ≡ all_below (λ i. is_good (outcome v (iteration_of p k i))) total → loop.total ≡ total → Alike new w → IsAnswered r new w p k (JoinsAll loop)
  join_answered loop total good given e g all t kept =
      let ends_alike : all_below (λ i. is_good (outcome v (iteration_of p k i))) total ≡ all_below (λ i. is_good (outcome w (iteration_of p k i))) loop.total =
      (λ j. all_below (λ i. is_good (like.ends (iteration_of p k i) j)) (sym t j)) in
      goes_so (JoinsAll loop) act.JoinAll given None e (refl, g ∙ ap unless_failed (all ∙ ends_alike), refl, kept, refl)

  pub await_all_answered : (g : MadeName) (added room : ℕ) (good : Bool) (given : Answer) → r ≡ answered.Goes (act.AwaitAll g) given None → given ≡ unless_failed good → good ≡ all_of (λ x. is_good (outcome v (maker x))) (members v g) → added ≡ length (members v g) → room ≡ size v g → room ≤ added → Alike new w → IsAnswered r new w p k (AwaitsAll g)
  await_all_answered g added room good given e gives all count bound full kept =
      let counted : added ≡ length (members w g) = count ∙ ap length (same_members v w like g) in
      let sized : room ≡ size w g = bound ∙ same_size v w like g in
      let filled : size w g ≤ length (members w g) = subst (λ n. n ≤ length (members w g)) sized (subst (λ n. room ≤ n) counted full) in
      let ends_alike : all_of (λ x. is_good (outcome v (maker x))) (members v g) ≡ all_of (λ x. is_good (outcome w (maker x))) (members w g) =
      (λ j. all_of (λ x. is_good (like.ends (maker x) j)) (same_members v w like g j)) in
      goes_so (AwaitsAll g) (act.AwaitAll g) given None e
      (cond-false (nat_lt (length (members w g)) (size w g)) (Some (end.Short g (length (members w g)) (size w g))) None (le-ltb (length (members w g)) (size w g) filled), gives ∙ ap unless_failed (all ∙ ends_alike), refl, kept, refl)
