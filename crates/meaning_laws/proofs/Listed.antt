-- What a list of tasks says of a path.
use Rattle.std.proofs.Common.{◌≡◌, ℕ, Bool, true, false, cond, List, [], ◌∷◌, ◌++◌, map, Option, Some, None, refl, sym, ap, subst, ◌∙◌}
use Rattle.std.proofs.lemmas.Slice.Eq.{bytes_eq-Decides}
use Rattle.std.proofs.lemmas.Bool.{true≢false}
use Rattle.std.specs.List.{find}
use Rattle.ir_forms.specs.Names.{Path, same_path}
use Rattle.source_meaning.specs.Values.{maybe}
use Rattle.source_meaning.specs.Tasks.{Task, Answer}
use Rattle.source_meaning.specs.TaskOrder.{Live, replaced, without}

-- ---- options

pub none≢some : {X : Type 0} (x : X) → None ≡ Some x → ⊥
none≢some {X} x e = subst IsNothing e tt where
  IsNothing : Option X → Type 0
  IsNothing None = Unit {0}
  IsNothing (Some y) = ⊥

pub some_inj : {X : Type 0} (x y : X) → Some x ≡ Some y → x ≡ y
some_inj x y e = ap (λ o. maybe x (λ z. z) o) e

pub cond_false : {X : Type 0} (b : Bool) (x y z : X) → b ≡ false → y ≡ z → cond b x y ≡ z
cond_false true x y z e f = absurd (true≢false e)
cond_false false x y z e f = f

pub cond_true : {X : Type 0} (b : Bool) (x y : X) → b ≡ true → cond b x y ≡ x
cond_true true x y e = refl
cond_true false x y e = absurd (true≢false (sym e))

-- ---- paths

pub path_yes : (a b : Path) → same_path a b ≡ true → a ≡ b
path_yes a b e = (bytes_eq-Decides a b).0 e

pub path_same : (a : Path) → same_path a a ≡ true
path_same a = (bytes_eq-Decides a a).1 refl

pub path_no : (a b : Path) → (a ≡ b → ⊥) → same_path a b ≡ false
path_no a b n = split (same_path a b) refl where
  split : (c : Bool) → same_path a b ≡ c → same_path a b ≡ false
  split true e = absurd (n (path_yes a b e))
  split false e = e

pub path_sym : (a b : Path) → same_path a b ≡ false → (b ≡ a → ⊥)
path_sym a b e i = true≢false (sym (path_same a) ∙ (ap (λ x. same_path a x) (sym i) ∙ e))

-- ---- what a list says of a path

abbrev pub V : Type 0
V = Task × ℕ

abbrev pub at : List (Path × V) → Path → Option V
at [] q = None
at (x ∷ xs) q = cond (same_path x.0 q) (Some x.1) (at xs q)

abbrev pub or : Option V → Option V → Option V
or None y = y
or (Some x) y = Some x

pub cond_or : (b : Bool) (v : V) (x y z : Option V) → x ≡ or y z → cond b (Some v) x ≡ or (cond b (Some v) y) z
cond_or true v x y z e = refl
cond_or false v x y z e = e

pub at_append : (xs ys : List (Path × V)) (q : Path) → at (xs ++ ys) q ≡ or (at xs q) (at ys q)
at_append [] ys q = refl
at_append (x ∷ xs) ys q = cond_or (same_path x.0 q) x.1 (at (xs ++ ys) q) (at xs q) (at ys q) (at_append xs ys q)

abbrev pub assoc : List Live → List (Path × V)
assoc live = map (λ l. (l.path, (l.task, l.taken))) live

pub replaced_other : (l : Live) (live : List Live) (q : Path) → same_path l.path q ≡ false → at (assoc (replaced l live)) q ≡ at (assoc live) q
replaced_other l [] q n = refl
replaced_other l (m ∷ live) q n = split (same_path m.path l.path) refl (replaced_other l live q n) where
  split : (b : Bool) → same_path m.path l.path ≡ b → at (assoc (replaced l live)) q ≡ at (assoc live) q → at (assoc (cond b l m ∷ replaced l live)) q ≡ at (assoc (m ∷ live)) q
  split true e ih = rw (n, path_yes m.path l.path e, n) ih
  split false e ih = ap (λ x. cond (same_path m.path q) (Some (m.task, m.taken)) x) ih

pub replaced_same : (l : Live) (live : List Live) (w : V) → at (assoc live) l.path ≡ Some w → at (assoc (replaced l live)) l.path ≡ Some (l.task, l.taken)
replaced_same l [] w h = absurd (none≢some w h)
replaced_same l (m ∷ live) w h = split (same_path m.path l.path) refl (replaced_same l live w) where
  split : (b : Bool) → same_path m.path l.path ≡ b → (at (assoc live) l.path ≡ Some w → at (assoc (replaced l live)) l.path ≡ Some (l.task, l.taken)) → at (assoc (cond b l m ∷ replaced l live)) l.path ≡ Some (l.task, l.taken)
  split true e ih = rw (path_same l.path) refl
  split false e ih = rw e (ih (subst (λ b. cond b (Some (m.task, m.taken)) (at (assoc live) l.path) ≡ Some w) e h))

pub without_other : (p : Path) (live : List Live) (q : Path) → same_path p q ≡ false → at (assoc (without p live)) q ≡ at (assoc live) q
without_other p [] q n = refl
without_other p (m ∷ live) q n = split (same_path m.path p) refl (without_other p live q n) where
  split : (b : Bool) → same_path m.path p ≡ b → at (assoc (without p live)) q ≡ at (assoc live) q → at (assoc (cond b (without p live) (m ∷ without p live))) q ≡ at (assoc (m ∷ live)) q
  split true e ih = rw (path_yes m.path p e, n) ih
  split false e ih = ap (λ x. cond (same_path m.path q) (Some (m.task, m.taken)) x) ih

pub without_same : (p : Path) (live : List Live) → at (assoc (without p live)) p ≡ None
without_same p [] = refl
without_same p (m ∷ live) = split (same_path m.path p) refl (without_same p live) where
  split : (b : Bool) → same_path m.path p ≡ b → at (assoc (without p live)) p ≡ None → at (assoc (cond b (without p live) (m ∷ without p live))) p ≡ None
  split true e ih = ih
  split false e ih = rw e ih

-- the task that the list has for the path
pub record Found (live : List Live) (q : Path) (v : V) : Type 0 where
  pub first : Task
  pub answers : List Answer
  pub found : find (λ l. same_path l.path q) live ≡ Some (record { path = q; first = first; answers = answers; task = v.0; taken = v.1 })

pub is_live : (l : Live) (q : Path) (v : V) → l.path ≡ q → (l.task, l.taken) ≡ v → Some l ≡ Some (record { path = q; first = l.first; answers = l.answers; task = v.0; taken = v.1 })
is_live l q v e f =
    subst (λ q. Some l ≡ Some (record { path = q; first = l.first; answers = l.answers; task = v.0; taken = v.1 })) e
    (subst (λ v. Some l ≡ Some (record { path = l.path; first = l.first; answers = l.answers; task = v.0; taken = v.1 })) f refl)

pub found_at : (live : List Live) (q : Path) (v : V) → at (assoc live) q ≡ Some v → Found live q v
found_at [] q v h = absurd (none≢some v h)
found_at (m ∷ live) q v h = split (same_path m.path q) refl (found_at live q v) where
  split : (b : Bool) → same_path m.path q ≡ b → (at (assoc live) q ≡ Some v → Found live q v) → Found (m ∷ live) q v
  split true e ih = record {
    first = m.first;
    answers = m.answers;
    found = rw e (is_live m q v (path_yes m.path q e) (some_inj (m.task, m.taken) v (subst (λ b. cond b (Some (m.task, m.taken)) (at (assoc live) q) ≡ Some v) e h)));
  }
  split false e ih =
      let f : Found live q v = ih (subst (λ b. cond b (Some (m.task, m.taken)) (at (assoc live) q) ≡ Some v) e h) in
      record { first = f.first; answers = f.answers; found = cond_false (same_path m.path q) (Some m) (find (λ l. same_path l.path q) live) _ e f.found }

pub none_left : (live : List Live) → ((q : Path) → at (assoc live) q ≡ None) → live ≡ []
none_left [] h = refl
none_left (m ∷ live) h = absurd (none≢some (m.task, m.taken) (sym (h m.path) ∙ rw (path_same m.path) refl))
