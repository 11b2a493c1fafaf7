-- Groups have no more members than their size; where a part of a run has a full one, it has all its adds.
use Rattle.std.specs.Prelude.{◌⊎◌, nat_eq, ◌&&◌}
use mathlib.Core.Logic.{inl, inr}
use Rattle.std.proofs.Common.{◌≡◌, ◌<◌, ◌≤◌, ℕ, zero, suc, ◌+◌, Bool, true, false, cond, List, [], ◌∷◌, ◌++◌, length, Option, Some, None, refl, sym, ap, subst, ◌∙◌, arith}
use Rattle.std.proofs.lemmas.List.{length-append}
use Rattle.std.proofs.lemmas.Bool.{eq-eqb, eqb-true, true≢false}
use Rattle.ir_forms.specs.declared.names.ElementName.{ElementName}
use Rattle.ir_forms.specs.declared.names.MadeName.{MadeName}
use Rattle.ir_forms.specs.declared.names.MadeName.TheVariants.{Argument, Made}
use Rattle.ir_forms.specs.Names.{Path, same_path, same_made}
use Rattle.one_end.specs.Programs.{Act, Reads, Writes, Allocs, Creates, Adds, Launches, Enters, JoinsAll, AwaitsOne, AwaitsAll, Ends, Program}
use Rattle.one_end.specs.Runs.{Event, Log, taken, IsRun, size, size_made, either, members, joins, Each, HasRoom, Can}
use Rattle.one_end.proofs.Basics.{path_yes, path_same, option_cases, Older, none≢some, some_inj}
use Rattle.one_end.proofs.Pairs.{Part, size_same}
use Rattle.one_end.proofs.Weights.{weigh, inside, heavy_inside, same_weight}

pub made_yes : (a b : MadeName) → same_made a b ≡ true → a ≡ b
made_yes (Argument j) (Argument k) e = ap Argument (eqb-true j k e)
made_yes (Made p j) (Made q k) e = split (same_path p q) refl (nat_eq j k) refl e where
  split : (s : Bool) → same_path p q ≡ s → (t : Bool) → nat_eq j k ≡ t → s && t ≡ true → Made p j ≡ Made q k
  split true h true i w = ap (λ t. Made t j) (path_yes p q h) ∙ ap (Made q) (eqb-true j k i)
  split true h false i w = absurd (true≢false (sym w))
  split false h t i w = absurd (true≢false (sym w))
made_yes (Argument j) (Made q k) e = absurd (true≢false (sym e))
made_yes (Made p j) (Argument k) e = absurd (true≢false (sym e))

pub made_same : (a : MadeName) → same_made a a ≡ true
made_same (Argument j) = eq-eqb j j refl
made_same (Made p j) = ap (λ t. t && nat_eq j j) (path_same p) ∙ eq-eqb j j refl

pub each_first : {X : Type 0} (Q : X → Type 0) (xs ys : List X) → Each Q (xs ++ ys) → Each Q xs
each_first Q [] ys h = tt
each_first Q (x ∷ xs) ys h = (h.0, each_first Q xs ys h.1)

pub each_second : {X : Type 0} (Q : X → Type 0) (xs ys : List X) → Each Q (xs ++ ys) → Each Q ys
each_second Q [] ys h = h
each_second Q (x ∷ xs) ys h = each_second Q xs ys h.1

module _ {D V : Type 0} where
  -- how many elements the action adds
  abbrev pub adds_to : MadeName → Act D V → ℕ
  adds_to g a = length (joins a g)

  pub members_weight : (g : MadeName) (log : Log D V) → length (members log g) ≡ weigh (adds_to g) log
  members_weight g [] = refl
  members_weight g (e ∷ log) = length-append (joins e.act g) (members log g) ∙ ap (λ n. length (joins e.act g) + n) (members_weight g log)

  pub record Joined (log : Log D V) (a : Act D V) (g : MadeName) : Type 0 where
    pub element : ElementName
    pub used : Bool
    pub is_add : a ≡ Adds g element used
    pub room : HasRoom log g
    pub one : joins a g ≡ element ∷ []

  pub joins_can : (log : Log D V) (p : Path) (a : Act D V) (g : MadeName) → Can log p a → (joins a g ≡ []) ⊎ Joined log a g
  joins_can log p (Adds h x u) g can = split (same_made h g) refl where
    split : (t : Bool) → same_made h g ≡ t → (cond (same_made h g) (x ∷ []) [] ≡ []) ⊎ Joined log (Adds h x u) g
    split true e = inr (record {
      element = x;
      used = u;
      is_add = ap (λ t. Adds t x u) (made_yes h g e);
      room = subst (λ t. HasRoom log t) (made_yes h g e) can;
      one = ap (λ t. cond t (x ∷ []) []) e;
    })
    split false e = inl (ap (λ t. cond t (x ∷ []) []) e)
  joins_can log p (Reads b i) g can = inl refl
  joins_can log p (Writes b i n) g can = inl refl
  joins_can log p (Allocs n) g can = inl refl
  joins_can log p (Creates n) g can = inl refl
  joins_can log p (Launches d r) g can = inl refl
  joins_can log p (Enters ds s) g can = inl refl
  joins_can log p JoinsAll g can = inl refl
  joins_can log p (AwaitsOne x) g can = inl refl
  joins_can log p (AwaitsAll h) g can = inl refl
  joins_can log p (Ends o) g can = inl refl

either_none : (o p : Option ℕ) → either o p ≡ None → o ≡ None
either_none None p e = refl
either_none (Some x) p e = absurd (none≢some x (sym e))

either_known : (o p : Option ℕ) (m n : ℕ) → o ≡ Some m → either o p ≡ Some n → m ≡ n
either_known o p m n e h = some_inj m n (sym (ap (λ t. either t p) e) ∙ h)

module _ {D V : Type 0} (P : Program D V) where
  empty_group : (log : Log D V) (g : MadeName) → IsRun P log → size log g ≡ None → members log g ≡ []
  empty_group [] g r e = refl
  empty_group (x ∷ log) g r e = split (joins_can log x.task x.act g r.0.can) (either_none (size log g) (size_made x.act x.task (suc (taken log x.task)) g) e) (empty_group log g r.1) where
    split : (joins x.act g ≡ []) ⊎ Joined log x.act g → size log g ≡ None → (size log g ≡ None → members log g ≡ []) → joins x.act g ++ members log g ≡ []
    split (inl h) s f = ap (λ t. t ++ members log g) h ∙ f s
    split (inr j) s f = absurd (none≢some j.room.most (sym s ∙ j.room.created))

  -- a group has no more members than its size
  pub room_for : (log : Log D V) (g : MadeName) (n : ℕ) → IsRun P log → size log g ≡ Some n → length (members log g) ≤ n
  room_for [] g n r e = omega arith
  room_for (x ∷ log) g n r e = split (joins_can log x.task x.act g r.0.can) (option_cases (size log g)) (room_for log g) where
    split : (joins x.act g ≡ []) ⊎ Joined log x.act g → (size log g ≡ None) ⊎ ((m : ℕ) × (size log g ≡ Some m)) → ((n : ℕ) → IsRun P log → size log g ≡ Some n → length (members log g) ≤ n) → length (joins x.act g ++ members log g) ≤ n
    split (inl h) (inl s) f = subst (λ t. length (t ++ members log g) ≤ n) (sym h) (subst (λ t. length t ≤ n) (sym (empty_group log g r.1 s)) (omega arith))
    split (inl h) (inr s) f = subst (λ t. length (t ++ members log g) ≤ n) (sym h) (subst (λ t. length (members log g) ≤ t) (either_known (size log g) (size_made x.act x.task (suc (taken log x.task)) g) s.0 n s.1 e) (f s.0 r.1 s.1))
    split (inr j) s f = subst (λ t. length (t ++ members log g) ≤ n) (sym j.one) (omega (arith, j.room.room, either_known (size log g) (size_made x.act x.task (suc (taken log x.task)) g) j.room.most n j.room.created e))

  -- where a part has a full group, each add to it is in the part
  pub full_inside : (whole log : Log D V) (g : MadeName) (n : ℕ) → IsRun P whole → Part log whole → size log g ≡ Some n → n ≤ length (members log g) → (e : Event D V) (f : Log D V) → Older (e ∷ f) whole → zero < length (joins e.act g) → taken f e.task < taken log e.task
  full_inside whole log g n r part s full e f o l = heavy_inside (adds_to g) (taken log) o.0 e f (subst (λ t. weigh (adds_to g) t ≤ weigh (adds_to g) (inside (taken log) t)) o.1 heavy) l where
    heavy : weigh (adds_to g) whole ≤ weigh (adds_to g) (inside (taken log) whole)
    heavy = omega (arith, full, room_for whole g n r (size_same whole log g n part s), members_weight g whole, members_weight g log, same_weight (adds_to g) whole log part)

module _ {D V : Type 0} where
  pub member_each : (Q : ElementName → Type 0) (b : Log D V) (e : Event D V) (f : Log D V) (g : MadeName) → Each Q (members (b ++ e ∷ f) g) → Each Q (joins e.act g)
  member_each Q [] e f g h = each_first Q (joins e.act g) (members f g) h
  member_each Q (x ∷ b) e f g h = member_each Q b e f g (each_second Q (joins x.act g) (members (b ++ e ∷ f) g) h)
