-- Names stay, and those of different things differ.
use Rattle.std.proofs.Common.{◌≡◌, ◌<◌, ◌≤◌, ◌⊎◌, inl, inr, ℕ, zero, suc, ◌+◌, List, [], ◌∷◌, ◌++◌, length, Option, Some, None, slice_get, refl, sym, ap, subst, ◌∙◌, arith}
use Rattle.std.specs.Prelude.{slice_set}
use Rattle.ir_forms.specs.declared.args.ArgValue.{ArgValue}
use Rattle.ir_forms.specs.declared.args.ArgValue.TheVariants as arg
use Rattle.ir_forms.specs.declared.names.MadeName.{MadeName}
use Rattle.ir_forms.specs.declared.names.MadeName.TheVariants.{Argument, Made}
use Rattle.ir_forms.specs.Names.{Path, launched_by}
use Rattle.machines.specs.Reading.{known}
use Rattle.source_meaning.specs.Values.{or_else}
use Rattle.code_machines.specs.Numbered.{Numbered, Reads, Writes, Allocs, Creates, Adds, Launches, Awaits, AwaitsAll, Ends}
use Rattle.code_machines.specs.Paths.{Names, task_of, path_of, made_next, counted, after, taker, argument_names, paths}
use Rattle.code_machines.specs.Naming.{HasPath, Stay, NamesStay, Differ, AreTaken, NamesDiffer}

-- ---- lists

some_is : {X : Type 0} (x y : X) → Some x ≡ Some y → x ≡ y
some_is x y e = cc

none_is : {X : Type 0} (x : X) → None ≡ Some x → ⊥
none_is x e = cc

get_more : {X : Type 0} (xs ys : List X) (i : ℕ) (x : X) → slice_get xs i ≡ Some x → slice_get (xs ++ ys) i ≡ Some x
get_more [] ys i x e = absurd (none_is x e)
get_more (y ∷ xs) ys zero x e = e
get_more (y ∷ xs) ys (suc i) x e = get_more xs ys i x e

-- of a list with one more
get_pushed : {X : Type 0} (xs : List X) (y : X) (i : ℕ) (x : X) → slice_get (xs ++ y ∷ []) i ≡ Some x → (slice_get xs i ≡ Some x) ⊎ ((i ≡ length xs) × (x ≡ y))
get_pushed [] y zero x e = inr (refl, sym (some_is y x e))
get_pushed [] y (suc i) x e = absurd (none_is x e)
get_pushed (z ∷ xs) y zero x e = inl e
get_pushed (z ∷ xs) y (suc i) x e = go (get_pushed xs y i x e) where
  go : (slice_get xs i ≡ Some x) ⊎ ((i ≡ length xs) × (x ≡ y)) → (slice_get xs i ≡ Some x) ⊎ ((suc i ≡ suc (length xs)) × (x ≡ y))
  go (inl h) = inl h
  go (inr h) = inr (ap suc h.0, h.1)

-- of a list with another element in one place
get_put : {X : Type 0} (xs : List X) (t : ℕ) (y : X) (i : ℕ) (x : X) → slice_get (slice_set xs t y) i ≡ Some x → ((i ≡ t) × (x ≡ y)) ⊎ ((i ≡ t → ⊥) × (slice_get xs i ≡ Some x))
get_put [] t y i x e = absurd (none_is x e)
get_put (z ∷ xs) zero y zero x e = inl (refl, sym (some_is y x e))
get_put (z ∷ xs) zero y (suc i) x e = inr ((λ h. cc), e)
get_put (z ∷ xs) (suc t) y zero x e = inr ((λ h. cc), e)
get_put (z ∷ xs) (suc t) y (suc i) x e = go (get_put xs t y i x e) where
  go : ((i ≡ t) × (x ≡ y)) ⊎ ((i ≡ t → ⊥) × (slice_get xs i ≡ Some x)) → ((suc i ≡ suc t) × (x ≡ y)) ⊎ ((suc i ≡ suc t → ⊥) × (slice_get xs i ≡ Some x))
  go (inl h) = inl (ap suc h.0, h.1)
  go (inr h) = inr ((λ g. h.0 (omega (arith, g))), h.1)

put_there : {X : Type 0} (xs : List X) (t : ℕ) (y x : X) → slice_get xs t ≡ Some x → slice_get (slice_set xs t y) t ≡ Some y
put_there [] t y x e = absurd (none_is x e)
put_there (z ∷ xs) zero y x e = refl
put_there (z ∷ xs) (suc t) y x e = put_there xs t y x e

put_elsewhere : {X : Type 0} (xs : List X) (t : ℕ) (y : X) (i : ℕ) (x : X) → slice_get xs i ≡ Some x → (slice_get (slice_set xs t y) i ≡ Some x) ⊎ ((i ≡ t) × (slice_get (slice_set xs t y) i ≡ Some y))
put_elsewhere [] t y i x e = absurd (none_is x e)
put_elsewhere (z ∷ xs) zero y zero x e = inr (refl, refl)
put_elsewhere (z ∷ xs) zero y (suc i) x e = inl e
put_elsewhere (z ∷ xs) (suc t) y zero x e = inl e
put_elsewhere (z ∷ xs) (suc t) y (suc i) x e = go (put_elsewhere xs t y i x e) where
  go : (slice_get (slice_set xs t y) i ≡ Some x) ⊎ ((i ≡ t) × (slice_get (slice_set xs t y) i ≡ Some y)) → (slice_get (slice_set xs t y) i ≡ Some x) ⊎ ((suc i ≡ suc t) × (slice_get (slice_set xs t y) i ≡ Some y))
  go (inl h) = inl h
  go (inr h) = inr (ap suc h.0, h.1)

is_in : {X : Type 0} (xs : List X) (t : ℕ) → t < length xs → (x : X) × (slice_get xs t ≡ Some x)
is_in [] t h = absurd (omega (arith, h))
is_in (x ∷ xs) zero h = (x, refl)
is_in (x ∷ xs) (suc t) h = is_in xs t (omega (arith, h))

-- ---- names stay

stay_itself : (k : Names) → Stay k k
stay_itself k = record { tasks = λ t p h. h; groups = λ g n h. h; buffers = λ b n h. h }

stay_on : (k l m : Names) → Stay k l → Stay l m → Stay k m
stay_on k l m a b = record { tasks = λ t p h. b.tasks t p (a.tasks t p h); groups = λ g n h. b.groups g n (a.groups g n h); buffers = λ c n h. b.buffers c n (a.buffers c n h) }

path_counted : (k : Names) (t s : ℕ) (p : Path) → HasPath k s p → HasPath (counted t k) s p
path_counted k t s p h = go (put_elsewhere k.tasks t ((task_of k t).0, (task_of k t).1 + 1) s (p, h.0) h.1) where
  go : (slice_get (counted t k).tasks s ≡ Some (p, h.0)) ⊎ ((s ≡ t) × (slice_get (counted t k).tasks s ≡ Some ((task_of k t).0, (task_of k t).1 + 1))) → HasPath (counted t k) s p
  go (inl e) = (h.0, e)
  go (inr e) =
      let at : slice_get k.tasks t ≡ Some (p, h.0) = subst (λ z. slice_get k.tasks z ≡ Some (p, h.0)) e.0 h.1 in
      let is : (task_of k t).0 ≡ p = ap (λ (o : Option (Path × ℕ)). (or_else ([], 0) o).0) at in
      ((task_of k t).1 + 1, e.1 ∙ ap (λ (z : Path). Some (z, (task_of k t).1 + 1)) is)

stay_counted : (k : Names) (t : ℕ) → Stay k (counted t k)
stay_counted k t = record { tasks = path_counted k t; groups = λ g n h. h; buffers = λ b n h. h }

stay_after : (k : Names) (x : Numbered) → Stay k (after k x)
stay_after k (Reads t b c) = stay_counted k t
stay_after k (Writes t b c) = stay_counted k t
stay_after k (Allocs t b n) =
    let l : Names = record k { buffers = k.buffers ++ made_next k t ∷ [] } in
    stay_on k l (counted t l) (record { tasks = λ s p h. h; groups = λ g m h. h; buffers = λ c m h. get_more k.buffers (made_next k t ∷ []) c m h }) (stay_counted l t)
stay_after k (Creates t g n) =
    let l : Names = record k { groups = k.groups ++ made_next k t ∷ [] } in
    stay_on k l (counted t l) (record { tasks = λ s p h. h; groups = λ c m h. get_more k.groups (made_next k t ∷ []) c m h; buffers = λ c m h. h }) (stay_counted l t)
stay_after k (Adds t g q j used) = stay_counted k t
stay_after k (Launches t q r) =
    let new : Path × ℕ = (launched_by (path_of k t) ((task_of k t).1 + 1), 0) in
    let l : Names = record k { tasks = k.tasks ++ new ∷ [] } in
    stay_on k l (counted t l) (record { tasks = λ s p h. (h.0, get_more k.tasks (new ∷ []) s (p, h.0) h.1); groups = λ c m h. h; buffers = λ c m h. h }) (stay_counted l t)
stay_after k (Awaits t q j) = stay_counted k t
stay_after k (AwaitsAll t g) = stay_counted k t
stay_after k (Ends t ok) = stay_counted k t

pub names_stay : NamesStay
names_stay args k [] = stay_itself k
names_stay args k (x ∷ xs) = stay_on k (after k x) (known (paths args) (after k x) xs) (stay_after k x) (names_stay args (after k x) xs)

-- ---- names differ

-- the task of this path is there, and has taken the action of this number
abbrev Took : List (Path × ℕ) → Path → ℕ → Type 0
Took ts p j = (t : ℕ) × (n : ℕ) × (slice_get ts t ≡ Some (p, n)) × (j ≤ n)

-- tasks have different paths, and each that an action made has its maker
record Tasks (ts : List (Path × ℕ)) : Type 0 where
  paths : (s t : ℕ) (p : Path) (m n : ℕ) → slice_get ts s ≡ Some (p, m) → slice_get ts t ≡ Some (p, n) → s ≡ t
  makers : (s : ℕ) (p : Path) (j m : ℕ) → slice_get ts s ≡ Some (p ++ j ∷ [], m) → Took ts p j

-- names likewise
record Distinct (ts : List (Path × ℕ)) (xs : List MadeName) : Type 0 where
  names : (g h : ℕ) (n : MadeName) → slice_get xs g ≡ Some n → slice_get xs h ≡ Some n → g ≡ h
  makers : (g : ℕ) (p : Path) (j : ℕ) → slice_get xs g ≡ Some (Made p j) → Took ts p j

same_pair : (p q : Path) (m n : ℕ) → ◌≡◌ {A = Path × ℕ} (p, m) (q, n) → (p ≡ q) × (m ≡ n)
same_pair p q m n e = (ap (λ (x : Path × ℕ). x.0) e, ap (λ (x : Path × ℕ). x.1) e)

two_of : {X : Type 0} (xs : List X) (i : ℕ) (x y : X) → slice_get xs i ≡ Some x → slice_get xs i ≡ Some y → x ≡ y
two_of xs i x y e f = some_is x y (sym e ∙ f)

not_nil : (p : Path) (b : ℕ) → [] ≡ p ++ b ∷ [] → ⊥
not_nil [] b e = cc
not_nil (x ∷ p) b e = cc

last_same : (q p : Path) (a b : ℕ) → q ++ a ∷ [] ≡ p ++ b ∷ [] → (q ≡ p) × (a ≡ b)
last_same [] [] a b e = (refl, cc)
last_same [] (x ∷ p) a b e = let rest : [] ≡ p ++ b ∷ [] = cc in absurd (not_nil p b rest)
last_same (y ∷ q) [] a b e = let rest : q ++ a ∷ [] ≡ [] = cc in absurd (not_nil q a (sym rest))
last_same (y ∷ q) (x ∷ p) a b e =
    let first : y ≡ x = cc in
    let rest : q ++ a ∷ [] ≡ p ++ b ∷ [] = cc in
    let on = last_same q p a b rest in
    (subst (λ z. y ∷ q ≡ z ∷ p) first (ap (λ z. y ∷ z) on.0), on.1)

module _ (ts : List (Path × ℕ)) (t : ℕ) (p : Path) (n : ℕ) (here : slice_get ts t ≡ Some (p, n)) where
  abbrev one_more : List (Path × ℕ)
  one_more = slice_set ts t (p, n + 1)

  took_more : (q : Path) (j : ℕ) → Took ts q j → Took one_more q j
  took_more q j h = go (put_elsewhere ts t (p, n + 1) h.0 (q, h.1) h.2) where
    go : (slice_get one_more h.0 ≡ Some (q, h.1)) ⊎ ((h.0 ≡ t) × (slice_get one_more h.0 ≡ Some (p, n + 1))) → Took one_more q j
    go (inl e) = (h.0, h.1, e, h.3)
    go (inr e) =
        let is = same_pair q p h.1 n (two_of ts t (q, h.1) (p, n) (subst (λ z. slice_get ts z ≡ Some (q, h.1)) e.0 h.2) here) in
        let le : j ≤ h.1 = h.3 in
        let same : h.1 ≡ n = is.1 in
        (h.0, n + 1, e.1 ∙ ap (λ (z : Path). Some (z, n + 1)) (sym is.0), omega (arith, le, same))

  -- it was there with this path
  was_there : (s : ℕ) (q : Path) (m : ℕ) → slice_get one_more s ≡ Some (q, m) → (k : ℕ) × (slice_get ts s ≡ Some (q, k))
  was_there s q m e = go (get_put ts t (p, n + 1) s (q, m) e) where
    go : ((s ≡ t) × (◌≡◌ {A = Path × ℕ} (q, m) (p, n + 1))) ⊎ ((s ≡ t → ⊥) × (slice_get ts s ≡ Some (q, m))) → (k : ℕ) × (slice_get ts s ≡ Some (q, k))
    go (inl h) = (n, subst (λ z. slice_get ts z ≡ Some (q, n)) (sym h.0) (here ∙ ap (λ (z : Path). Some (z, n)) (sym (same_pair q p m (n + 1) h.1).0)))
    go (inr h) = (m, h.1)

  tasks_more : Tasks ts → Tasks one_more
  tasks_more h = record {
    paths = λ s u q m k e f. (let a = was_there s q m e in let b = was_there u q k f in h.paths s u q a.0 b.0 a.1 b.1);
    makers = λ s q j m e. (let a = was_there s (q ++ j ∷ []) m e in took_more q j (h.makers s q j a.0 a.1));
  }

  names_more : (xs : List MadeName) → Distinct ts xs → Distinct one_more xs
  names_more xs h = record { names = h.names; makers = λ g q j e. took_more q j (h.makers g q j e) }

  -- the next action wasn't taken yet
  not_yet : Tasks ts → Took ts p (n + 1) → ⊥
  not_yet h took =
      let same : took.0 ≡ t = h.paths took.0 t p took.1 n took.2 here in
      let is : took.1 ≡ n = (same_pair p p took.1 n (two_of ts t (p, took.1) (p, n) (subst (λ z. slice_get ts z ≡ Some (p, took.1)) same took.2) here)).1 in
      let le : n + 1 ≤ took.1 = took.3 in
      omega (arith, is, le)

  now_taken : Took one_more p (n + 1)
  now_taken = (t, n + 1, put_there ts t (p, n + 1) (p, n) here, omega arith)

  -- what that action makes has a new name
  names_made : Tasks ts → (xs : List MadeName) → Distinct ts xs → Distinct one_more (xs ++ Made p (n + 1) ∷ [])
  names_made h xs d = record {
    names = λ g k x e f. distinct g k x (get_pushed xs (Made p (n + 1)) g x e) (get_pushed xs (Made p (n + 1)) k x f);
    makers = λ g q j e. made g q j (get_pushed xs (Made p (n + 1)) g (Made q j) e);
  }
    where
      new_one : (g : ℕ) (x : MadeName) → slice_get xs g ≡ Some x → x ≡ Made p (n + 1) → ⊥
      new_one g x e is = not_yet h (d.makers g p (n + 1) (e ∙ ap Some is))

      distinct : (g k : ℕ) (x : MadeName) → (slice_get xs g ≡ Some x) ⊎ ((g ≡ length xs) × (x ≡ Made p (n + 1))) → (slice_get xs k ≡ Some x) ⊎ ((k ≡ length xs) × (x ≡ Made p (n + 1))) → g ≡ k
      distinct g k x (inl e) (inl f) = d.names g k x e f
      distinct g k x (inl e) (inr f) = absurd (new_one g x e f.1)
      distinct g k x (inr e) (inl f) = absurd (new_one k x f e.1)
      distinct g k x (inr e) (inr f) = e.0 ∙ sym f.0

      made : (g : ℕ) (q : Path) (j : ℕ) → (slice_get xs g ≡ Some (Made q j)) ⊎ ((g ≡ length xs) × (Made q j ≡ Made p (n + 1))) → Took one_more q j
      made g q j (inl e) = took_more q j (d.makers g q j e)
      made g q j (inr e) =
          let path : p ≡ q = cc in
          let number : n + 1 ≡ j = cc in
          subst (λ z. Took one_more z j) path (subst (λ z. Took one_more p z) number now_taken)

  -- a task that it launches
  abbrev child : Path × ℕ
  child = (p ++ (n + 1) ∷ [], 0)

  abbrev with_child : List (Path × ℕ)
  with_child = one_more ++ child ∷ []

  took_child : (q : Path) (j : ℕ) → Took one_more q j → Took with_child q j
  took_child q j h = (h.0, h.1, get_more one_more (child ∷ []) h.0 (q, h.1) h.2, h.3)

  tasks_child : Tasks ts → Tasks with_child
  tasks_child h = record {
    paths = λ s u q m k e f. distinct s u q m k (get_pushed one_more child s (q, m) e) (get_pushed one_more child u (q, k) f);
    makers = λ s q j m e. made s q j m (get_pushed one_more child s (q ++ j ∷ [], m) e);
  }
    where
      new_one : (s : ℕ) (q : Path) (m : ℕ) → slice_get one_more s ≡ Some (q, m) → q ≡ p ++ (n + 1) ∷ [] → ⊥
      new_one s q m e is = let a = was_there s q m e in not_yet h (h.makers s p (n + 1) a.0 (a.1 ∙ ap (λ (z : Path). Some (z, a.0)) is))

      distinct : (s u : ℕ) (q : Path) (m k : ℕ) → (slice_get one_more s ≡ Some (q, m)) ⊎ ((s ≡ length one_more) × (◌≡◌ {A = Path × ℕ} (q, m) child)) → (slice_get one_more u ≡ Some (q, k)) ⊎ ((u ≡ length one_more) × (◌≡◌ {A = Path × ℕ} (q, k) child)) → s ≡ u
      distinct s u q m k (inl e) (inl f) = (tasks_more h).paths s u q m k e f
      distinct s u q m k (inl e) (inr f) = absurd (new_one s q m e (same_pair q (p ++ (n + 1) ∷ []) k 0 f.1).0)
      distinct s u q m k (inr e) (inl f) = absurd (new_one u q k f (same_pair q (p ++ (n + 1) ∷ []) m 0 e.1).0)
      distinct s u q m k (inr e) (inr f) = e.0 ∙ sym f.0

      made : (s : ℕ) (q : Path) (j m : ℕ) → (slice_get one_more s ≡ Some (q ++ j ∷ [], m)) ⊎ ((s ≡ length one_more) × (◌≡◌ {A = Path × ℕ} (q ++ j ∷ [], m) child)) → Took with_child q j
      made s q j m (inl e) = took_child q j ((tasks_more h).makers s q j m e)
      made s q j m (inr e) =
          let is = last_same q p j (n + 1) (same_pair (q ++ j ∷ []) (p ++ (n + 1) ∷ []) m 0 e.1).0 in
          subst (λ z. Took with_child z j) (sym is.0) (subst (λ z. Took with_child p z) (sym is.1) (took_child p (n + 1) now_taken))

  names_child : (xs : List MadeName) → Distinct ts xs → Distinct with_child xs
  names_child xs d = record { names = d.names; makers = λ g q j e. took_child q j (took_more q j (d.makers g q j e)) }

put_in_first : {X : Type 0} (xs ys : List X) (t : ℕ) (y x : X) → slice_get xs t ≡ Some x → slice_set (xs ++ ys) t y ≡ slice_set xs t y ++ ys
put_in_first [] ys t y x e = absurd (none_is x e)
put_in_first (z ∷ xs) ys zero y x e = refl
put_in_first (z ∷ xs) ys (suc t) y x e = ap (λ l. z ∷ l) (put_in_first xs ys t y x e)

-- ---- along a run

record Sound (k : Names) : Type 0 where
  tasks : Tasks k.tasks
  groups : Distinct k.tasks k.groups
  buffers : Distinct k.tasks k.buffers

task_there : (k : Names) (t : ℕ) → t < length k.tasks → slice_get k.tasks t ≡ Some (task_of k t)
task_there k t h = let x = is_in k.tasks t h in x.1 ∙ ap Some (sym (ap (λ (o : Option (Path × ℕ)). or_else ([], 0) o) x.1))

module _ (k : Names) (s : Sound k) (t : ℕ) (inside : t < length k.tasks) where
  abbrev path : Path
  path = (task_of k t).0

  abbrev count : ℕ
  count = (task_of k t).1

  sound_counted : Sound (counted t k)
  sound_counted = let at = task_there k t inside in record {
    tasks = tasks_more k.tasks t path count at s.tasks;
    groups = names_more k.tasks t path count at k.groups s.groups;
    buffers = names_more k.tasks t path count at k.buffers s.buffers;
  }

  sound_buffer : Sound (counted t (record k { buffers = k.buffers ++ made_next k t ∷ [] }))
  sound_buffer = let at = task_there k t inside in record {
    tasks = tasks_more k.tasks t path count at s.tasks;
    groups = names_more k.tasks t path count at k.groups s.groups;
    buffers = names_made k.tasks t path count at s.tasks k.buffers s.buffers;
  }

  sound_group : Sound (counted t (record k { groups = k.groups ++ made_next k t ∷ [] }))
  sound_group = let at = task_there k t inside in record {
    tasks = tasks_more k.tasks t path count at s.tasks;
    groups = names_made k.tasks t path count at s.tasks k.groups s.groups;
    buffers = names_more k.tasks t path count at k.buffers s.buffers;
  }

  abbrev child_of : Path × ℕ
  child_of = (launched_by path (count + 1), 0)

  sound_launch : Sound (counted t (record k { tasks = k.tasks ++ child_of ∷ [] }))
  sound_launch =
      let at : slice_get k.tasks t ≡ Some (path, count) = task_there k t inside in
      let same : ◌≡◌ {A = Path × ℕ} (or_else ([], 0) (slice_get (k.tasks ++ child_of ∷ []) t)) (path, count) = ap (λ (o : Option (Path × ℕ)). or_else ([], 0) o) (get_more k.tasks (child_of ∷ []) t (path, count) at) in
      let list : slice_set (k.tasks ++ child_of ∷ []) t (path, count + 1) ≡ with_child k.tasks t path count at = put_in_first k.tasks (child_of ∷ []) t (path, count + 1) (path, count) at in
      subst (λ (z : Path × ℕ). Sound (record { tasks = slice_set (k.tasks ++ child_of ∷ []) t (z.0, z.1 + 1); groups = k.groups; buffers = k.buffers })) (sym same)
      (subst (λ (l : List (Path × ℕ)). Sound (record { tasks = l; groups = k.groups; buffers = k.buffers })) (sym list) (record {
        tasks = tasks_child k.tasks t path count at s.tasks;
        groups = names_child k.tasks t path count at k.groups s.groups;
        buffers = names_child k.tasks t path count at k.buffers s.buffers;
      }))

sound_after : (k : Names) (x : Numbered) → Sound k → taker x < length k.tasks → Sound (after k x)
sound_after k (Reads t b c) s h = sound_counted k s t h
sound_after k (Writes t b c) s h = sound_counted k s t h
sound_after k (Allocs t b m) s h = sound_buffer k s t h
sound_after k (Creates t g m) s h = sound_group k s t h
sound_after k (Adds t g q j used) s h = sound_counted k s t h
sound_after k (Launches t q r) s h = sound_launch k s t h
sound_after k (Awaits t q j) s h = sound_counted k s t h
sound_after k (AwaitsAll t g) s h = sound_counted k s t h
sound_after k (Ends t ok) s h = sound_counted k s t h

sound_known : (args : List ArgValue) (k : Names) (xs : List Numbered) → Sound k → AreTaken k xs → Sound (known (paths args) k xs)
sound_known args k [] s h = s
sound_known args k (x ∷ xs) s h = sound_known args (after k x) xs (sound_after k x s h.0) h.1

-- ---- the start

argument_from : (j : ℕ) (args : List ArgValue) (g : ℕ) (x : MadeName) → slice_get (argument_names j args) g ≡ Some x → (i : ℕ) × (x ≡ Argument i) × (j + g ≤ i)
argument_from j [] g x e = absurd (none_is x e)
argument_from j (arg.Number m ∷ args) g x e =
    let on = argument_from (j + 1) args g x e in
    let le : (j + 1) + g ≤ on.0 = on.2 in
    (on.0, on.1, omega (arith, le))
argument_from j (arg.Cells dims cells ∷ args) zero x e = (j, sym (some_is (Argument j) x e), omega arith)
argument_from j (arg.Cells dims cells ∷ args) (suc g) x e =
    let on = argument_from (j + 1) args g x e in
    let le : (j + 1) + g ≤ on.0 = on.2 in
    (on.0, on.1, omega (arith, le))

arguments_differ : (j : ℕ) (args : List ArgValue) (g h : ℕ) (x : MadeName) → slice_get (argument_names j args) g ≡ Some x → slice_get (argument_names j args) h ≡ Some x → g ≡ h
arguments_differ j [] g h x e f = absurd (none_is x e)
arguments_differ j (arg.Number m ∷ args) g h x e f = arguments_differ (j + 1) args g h x e f
arguments_differ j (arg.Cells dims cells ∷ args) zero zero x e f = refl
arguments_differ j (arg.Cells dims cells ∷ args) zero (suc h) x e f =
    let on = argument_from (j + 1) args h x f in
    let first : Argument j ≡ x = some_is (Argument j) x e in
    let same : Argument j ≡ Argument on.0 = first ∙ on.1 in
    let is : j ≡ on.0 = cc in
    let le : (j + 1) + h ≤ on.0 = on.2 in
    absurd (omega (arith, is, le))
arguments_differ j (arg.Cells dims cells ∷ args) (suc g) zero x e f =
    let on = argument_from (j + 1) args g x e in
    let first : Argument j ≡ x = some_is (Argument j) x f in
    let same : Argument j ≡ Argument on.0 = first ∙ on.1 in
    let is : j ≡ on.0 = cc in
    let le : (j + 1) + g ≤ on.0 = on.2 in
    absurd (omega (arith, is, le))
arguments_differ j (arg.Cells dims cells ∷ args) (suc g) (suc h) x e f = ap suc (arguments_differ (j + 1) args g h x e f)

sound_first : (args : List ArgValue) → Sound (paths args).first
sound_first args = record {
  tasks = record {
    paths = λ s t p m n e f. only s e ∙ sym (only t f);
    makers = λ s p j m e. absurd (root s p j m e);
  };
  groups = record { names = λ g h n e f. absurd (none_is n e); makers = λ g p j e. absurd (none_is (Made p j) e) };
  buffers = record { names = arguments_differ 0 args; makers = λ g p j e. absurd (no_made p j g (argument_from 0 args g (Made p j) e)) };
}
  where
    only : {p : Path} {m : ℕ} (s : ℕ) → slice_get {X = Path × ℕ} (([], 0) ∷ []) s ≡ Some (p, m) → s ≡ 0
    only zero e = refl
    only {p} {m} (suc s) e = absurd (none_is (p, m) e)

    root : (s : ℕ) (p : Path) (j m : ℕ) → slice_get {X = Path × ℕ} (([], 0) ∷ []) s ≡ Some (p ++ j ∷ [], m) → ⊥
    root zero p j m e = not_nil p j (same_pair [] (p ++ j ∷ []) 0 m (some_is ([], 0) (p ++ j ∷ [], m) e)).0
    root (suc s) p j m e = none_is (p ++ j ∷ [], m) e

    no_made : (p : Path) (j g : ℕ) → (i : ℕ) × (Made p j ≡ Argument i) × (0 + g ≤ i) → ⊥
    no_made p j g h = let e : Made p j ≡ Argument h.0 = h.1 in cc

differ_so : (k : Names) → Sound k → Differ k
differ_so k s = record {
  tasks = λ a b p h g. s.tasks.paths a b p h.0 g.0 h.1 g.1;
  groups = s.groups.names;
  buffers = s.buffers.names;
}

pub names_differ : NamesDiffer
names_differ args xs h = differ_so (known (paths args) (paths args).first xs) (sound_known args (paths args).first xs (sound_first args) h)
