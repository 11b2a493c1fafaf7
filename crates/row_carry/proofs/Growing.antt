-- Lists that have one element more at the end, and states that agree after an object was made.
use Rattle.std.proofs.Common.{◌≡◌, ◌⊎◌, inl, inr, ℕ, zero, suc, ◌+◌, true, List, [], ◌∷◌, ◌++◌, map, length, Option, Some, None, refl, sym, ap, ◌∙◌, subst}
use Rattle.std.specs.Prelude.{slice_get, slice_set}
use Rattle.std.proofs.Math.Logic.{⊎_elim}
use Rattle.std.proofs.lemmas.Bool.{cases_eq}
use Rattle.low_forms.specs.declared.code.LowModule.{LowModule}
use Rattle.async_objects.specs.declared.object.Object.{Object}
use Rattle.async_objects.specs.Objects.{is_done}
use Rattle.step_core.specs.declared.tasks.Task.{Task}
use Rattle.step_core.specs.High as upper
use Rattle.step_core.specs.High.{Ref, Outcome, Gathering}
use Rattle.code_machines.specs.Objects as as_object
use Rattle.code_machines.specs.Objects.{Stands}
use Rattle.plain_carry.specs.Alike.{stands_for}
use Rattle.coro_carry.specs.Relation.{View, Holding, Settled, Match, MatchAt, Grows}
use Rattle.coro_carry.proofs.Lists.{get_push, get_last, pushed, set_same, set_other}
use Rattle.coro_carry.proofs.Growing.{alike_grows, match_grows}

pub map_push : {A B : Type 0} (f : A → B) (xs : List A) (y : A) → map f (xs ++ y ∷ []) ≡ map f xs ++ f y ∷ []
map_push f [] y = refl
map_push f (x ∷ xs) y = ap (λ zs. f x ∷ zs) (map_push f xs y)

-- ---- a group more

-- one more object, which stands for a group
abbrev pub grown : View → Object → Stands → Ref → Gathering → View
grown V x what ref group = record { faces = V.faces ++ x ∷ []; stands = V.stands ++ what ∷ []; refs = V.refs ++ ref ∷ []; outcomes = V.outcomes; groups = V.groups ++ group ∷ [] }

module _ (code : LowModule) (V : View) (x : Object) (what : Stands) (ref : Ref) (group : Gathering) where
  abbrev after : View
  after = grown V x what ref group

  pub grows : Grows V after
  grows = record {
    faces = λ o y at. get_push V.faces x o y at;
    stands = λ o r at. get_push V.stands what o (stands_for r) at;
    refs = λ o r at. get_push V.refs ref o r at;
  }

  holding_grows : (y : Object) (e : Outcome) (j : ℕ) → Holding V y e j → Holding after y e j
  holding_grows y (upper.Gave vals) (suc j) h = λ w at. (let it = h w at in (it.0, it.1, alike_grows code V after grows it.0 w it.2))
  holding_grows y (upper.Gave vals) zero h = tt
  holding_grows y upper.Failed j h = tt

  settled_grows : (y : Object) (o : Option Stands) → Settled V y o → Settled after y o
  settled_grows y (Some (as_object.Element q j)) g = record { outcome = g.outcome; ended = g.ended; failed = g.failed; holding = holding_grows y g.outcome j g.holding }
  settled_grows y (Some (as_object.Group m)) g = record { group = g.group; there = get_push V.groups group m g.group g.there; full = g.full; over = g.over; failed = g.failed }
  settled_grows y (Some (as_object.Making u)) g = elim g [ ]
  settled_grows y None g = elim g [ ]

  match_at : (u : ℕ) (o o' : Option (Option Task)) → MatchAt code V u o o' → MatchAt code after u o o'
  match_at u None None m = tt
  match_at u None (Some p) m = elim m [ ]
  match_at u (Some None) None m = elim m [ ]
  match_at u (Some None) (Some None) m = tt
  match_at u (Some None) (Some (Some p)) m = elim m [ ]
  match_at u (Some (Some p)) None m = elim m [ ]
  match_at u (Some (Some p)) (Some None) m = elim m [ ]
  match_at u (Some (Some p)) (Some (Some p')) m = match_grows code V after u p p' grows m

  -- the other tasks stand where they stood
  pub each_grows : (tasks tasks' : List (Option Task)) (t : ℕ) (task task' next next' : Task) → slice_get tasks t ≡ Some (Some task) → slice_get tasks' t ≡ Some (Some task') →
      ((u : ℕ) → MatchAt code V u (slice_get tasks u) (slice_get tasks' u)) → Match code after t next next' → (u : ℕ) → MatchAt code after u (slice_get (slice_set tasks t (Some next)) u) (slice_get (slice_set tasks' t (Some next')) u)
  each_grows tasks tasks' t task task' next next' at at' each m u = ⊎_elim
      (λ e. subst (λ (y : ℕ). MatchAt code after y (slice_get (slice_set tasks t (Some next)) y) (slice_get (slice_set tasks' t (Some next')) y)) (sym e)
      (subst (λ (o : Option (Option Task)). MatchAt code after t o (slice_get (slice_set tasks' t (Some next')) t)) (sym (set_same tasks t (Some task) (Some next) at))
      (subst (λ (o : Option (Option Task)). MatchAt code after t (Some (Some next)) o) (sym (set_same tasks' t (Some task') (Some next') at')) m)))
      (λ n. subst (λ (o : Option (Option Task)). MatchAt code after u o (slice_get (slice_set tasks' t (Some next')) u)) (sym (set_other tasks t u (Some next) n))
      (subst (λ (o : Option (Option Task)). MatchAt code after u (slice_get tasks u) o) (sym (set_other tasks' t u (Some next') n)) (match_at u (slice_get tasks u) (slice_get tasks' u) (each u))))
      (cases_eq u t)

  -- what is done is settled, where the new object is
  pub all_settled : length V.stands ≡ length V.faces → ((o : ℕ) (y : Object) → slice_get V.faces o ≡ Some y → is_done y ≡ true → Settled V y (slice_get V.stands o)) → (is_done x ≡ true → Settled after x (Some what)) →
      (o : ℕ) (y : Object) → slice_get after.faces o ≡ Some y → is_done y ≡ true → Settled after y (slice_get after.stands o)
  all_settled many settled new o y at done = elim (pushed V.faces x o y at) [
    | inl before ↦ old (slice_get V.stands o) refl before (settled o y before done)
    | inr last ↦ subst (λ (z : Option Stands). Settled after y z) (sym (get_last V.stands what o (last.0 ∙ sym many))) (subst (λ (z : Object). Settled after z (Some what)) last.1 (new (ap is_done last.1 ∙ done)))
  ]
    where
      old : (w : Option Stands) → slice_get V.stands o ≡ w → slice_get V.faces o ≡ Some y → Settled V y (slice_get V.stands o) → Settled after y (slice_get after.stands o)
      old None none before it = elim (subst (λ (z : Option Stands). Settled V y z) none it) [ ]
      old (Some w) there before it = subst (λ (z : Option Stands). Settled after y z) (sym (get_push V.stands what o w there)) (settled_grows y (Some w) (subst (λ (z : Option Stands). Settled V y z) there it))

  pub all_named : length V.stands ≡ length V.faces → ((o : ℕ) (w : Stands) → slice_get V.stands o ≡ Some w → (y : Object) × (slice_get V.faces o ≡ Some y)) →
      (o : ℕ) (w : Stands) → slice_get after.stands o ≡ Some w → (y : Object) × (slice_get after.faces o ≡ Some y)
  all_named many named o w at = elim (pushed V.stands what o w at) [
    | inl before ↦ (let it = named o w before in (it.0, get_push V.faces x o it.0 it.1))
    | inr last ↦ (x, get_last V.faces x o (last.0 ∙ many))
  ]
