-- What tasks share, in a state of small steps and in a log of actions.
use Rattle.std.specs.Prelude.{◌⊎◌, ◌&&◌, nat_eq, nat_lt, cond, is_some, slice_set, replicate, map}
use mathlib.Core.Logic.{inl, inr}
use Rattle.std.specs.List.{find}
use Rattle.std.specs.Option.{option_map}
use Rattle.std.proofs.Common.{◌≡◌, ◌≤◌, ℕ, suc, ◌+◌, Bool, true, false, List, [], ◌∷◌, ◌++◌, length, Option, Some, None, refl, sym, ap, subst, ◌∙◌, arith}
use Rattle.std.proofs.lemmas.List.{length-set, length-replicate}
use Rattle.std.proofs.lemmas.Bool.{true≢false}
use Rattle.ir_forms.specs.declared.args.ArgValue.{ArgValue}
use Rattle.ir_forms.specs.declared.names.ElementName.{ElementName}
use Rattle.ir_forms.specs.declared.names.MadeName.{MadeName}
use Rattle.ir_forms.specs.declared.names.MadeName.TheVariants.{Argument, Made}
use Rattle.ir_forms.specs.Names.{Path, same_path, same_made}
use Rattle.ir_forms.specs.Shapes.{product}
use Rattle.one_end.specs.Programs as one
use Rattle.one_end.specs.Runs as runs
use Rattle.one_end.proofs.Basics.{none≢some, path_cases, here, there}
use Rattle.one_end.proofs.Groups.{made_yes, made_same}
use Rattle.one_end.proofs.Histories.{history_own, history_other, taken_own, older_taken}
use Rattle.source_meaning.specs.Values.{maybe}
use Rattle.source_meaning.specs.Tasks.{Outcome}
use Rattle.source_meaning.specs.World.{Store, Gathering, World, cells_in, group_at, written, joined_by, after, ended}
use Rattle.source_meaning.specs.World as world
use Rattle.source_meaning.specs.Start.{first_world}
use Rattle.end_laws.specs.ModuleProgram.{Begin, Values, ended_as}
use Rattle.order_laws.proofs.Lists.{turned_round, cell_of, cell_zero, cell_set}

made_cases : (a b : MadeName) → (a ≡ b) ⊎ (same_made a b ≡ false)
made_cases a b = split (same_made a b) refl where
  split : (t : Bool) → same_made a b ≡ t → (a ≡ b) ⊎ (same_made a b ≡ false)
  split true e = inl (made_yes a b e)
  split false e = inr e

made_sym : (a b : MadeName) → same_made a b ≡ same_made b a
made_sym a b = split (made_cases a b) (made_cases b a) where
  split : (a ≡ b) ⊎ (same_made a b ≡ false) → (b ≡ a) ⊎ (same_made b a ≡ false) → same_made a b ≡ same_made b a
  split (inl e) h = subst (λ c. same_made a c ≡ same_made c a) e refl
  split (inr e) (inl h) = subst (λ c. same_made c b ≡ same_made b c) h refl
  split (inr e) (inr h) = e ∙ sym h

-- a buffer with no number yet
abbrev pub new_store : Path → ℕ → List ℕ → Store
new_store q k dims = record { name = Made q k; cells = replicate (product dims) 0 }

abbrev pub with_store : World → Path → ℕ → List ℕ → World
with_store w q k dims = record w { buffers = new_store q k dims ∷ w.buffers; used = w.used + product dims }

-- a group with no element yet
abbrev pub new_group : Path → ℕ → ℕ → Gathering
new_group q k n = record { name = Made q k; size = n; members = [] }

abbrev pub with_group : World → Path → ℕ → ℕ → World
with_group w q k n = record w { groups = new_group q k n ∷ w.groups }

-- ---- what is found under a name where some are changed

module _ {X : Type 0} (name : X → MadeName) (f : X → X) (keeps : (x : X) → name (f x) ≡ name x) (b : MadeName) where
  change : X → X
  change x = cond (same_made (name x) b) (f x) x

  change_name : (x : X) → name (change x) ≡ name x
  unfolding change
  change_name x = split (same_made (name x) b) where
    split : (t : Bool) → name (cond t (f x) x) ≡ name x
    split true = keeps x
    split false = refl

  pub found_changed : (c : MadeName) (xs : List X) → find (λ x. same_made (name x) c) (map (λ x. cond (same_made (name x) b) (f x) x) xs) ≡ cond (same_made b c) (option_map f (find (λ x. same_made (name x) c) xs)) (find (λ x. same_made (name x) c) xs)
  unfolding change
  found_changed c [] = split (same_made b c) where
    split : (t : Bool) → None ≡ cond t (option_map f None) None
    split true = refl
    split false = refl
  found_changed c (x ∷ xs) =
      ap (λ n. cond (same_made n c) (Some (change x)) (find (λ x. same_made (name x) c) (map (λ x. cond (same_made (name x) b) (f x) x) xs))) (change_name x)
      ∙ split (same_made (name x) c) refl (found_changed c xs) where
        split : (u : Bool) → same_made (name x) c ≡ u →
            find (λ x. same_made (name x) c) (map (λ x. cond (same_made (name x) b) (f x) x) xs) ≡ cond (same_made b c) (option_map f (find (λ x. same_made (name x) c) xs)) (find (λ x. same_made (name x) c) xs) →
            cond u (Some (cond (same_made (name x) b) (f x) x)) (find (λ x. same_made (name x) c) (map (λ x. cond (same_made (name x) b) (f x) x) xs)) ≡ cond (same_made b c) (option_map f (cond u (Some x) (find (λ x. same_made (name x) c) xs))) (cond u (Some x) (find (λ x. same_made (name x) c) xs))
        split false e h = h
        split true e h = ap (λ t. Some (cond t (f x) x)) (made_sym (name x) b ∙ ap (same_made b) (made_yes (name x) c e)) ∙ out (same_made b c) where
          out : (t : Bool) → Some (cond t (f x) x) ≡ cond t (Some (f x)) (Some x)
          out true = refl
          out false = refl

changed_cells : (i n : ℕ) (t : Bool) (o : Option Store) → maybe [] (λ (s : Store). s.cells) (cond t (option_map (λ (s : Store). record s { cells = slice_set s.cells i n }) o) o) ≡ cond t (slice_set (maybe [] (λ (s : Store). s.cells) o) i n) (maybe [] (λ (s : Store). s.cells) o)
changed_cells i n true None = refl
changed_cells i n true (Some s) = refl
changed_cells i n false o = refl

changed_there : {X : Type 0} (f : X → X) (t : Bool) (o : Option X) → is_some (cond t (option_map f o) o) ≡ is_some o
changed_there f true None = refl
changed_there f true (Some x) = refl
changed_there f false o = refl

none_there : {X : Type 0} (o : Option X) → (is_some o ≡ true → ⊥) → o ≡ None
none_there None h = refl
none_there (Some x) h = absurd (h refl)

pub either_none : {X : Type 0} (o : Option X) → runs.either o None ≡ o
either_none None = refl
either_none (Some x) = refl

cond_none : {X : Type 0} (t : Bool) → cond {A = Option X} t None None ≡ None
cond_none true = refl
cond_none false = refl

-- the cells of a buffer after a write
written_cells : (w : World) (b : MadeName) (i n : ℕ) (c : MadeName) → cells_in (record w { buffers = map (written b i n) w.buffers }) c ≡ cond (same_made b c) (slice_set (cells_in w c) i n) (cells_in w c)
written_cells w b i n c =
    ap (maybe [] (λ (s : Store). s.cells)) (found_changed (λ (s : Store). s.name) (λ s. record s { cells = slice_set s.cells i n }) (λ s. refl) b c w.buffers)
    ∙ changed_cells i n (same_made b c) (find (λ s. same_made s.name c) w.buffers)

pub written_there : (w : World) (b : MadeName) (i n : ℕ) (c : MadeName) → is_some (find (λ (s : Store). same_made s.name c) (map (written b i n) w.buffers)) ≡ is_some (find (λ (s : Store). same_made s.name c) w.buffers)
written_there w b i n c =
    ap is_some (found_changed (λ (s : Store). s.name) (λ s. record s { cells = slice_set s.cells i n }) (λ s. refl) b c w.buffers)
    ∙ changed_there (λ (s : Store). record s { cells = slice_set s.cells i n }) (same_made b c) (find (λ s. same_made s.name c) w.buffers)

written_length : (w : World) (b : MadeName) (i n : ℕ) (c : MadeName) → length (cells_in (record w { buffers = map (written b i n) w.buffers }) c) ≡ length (cells_in w c)
written_length w b i n c = ap length (written_cells w b i n c) ∙ split (same_made b c) where
  split : (t : Bool) → length (cond t (slice_set (cells_in w c) i n) (cells_in w c)) ≡ length (cells_in w c)
  split true = length-set (cells_in w c) i n
  split false = refl

-- a group after an add
joined_group : (w : World) (g : MadeName) (x : ElementName) (c : MadeName) → group_at (record w { groups = map (joined_by g x) w.groups }) c ≡ cond (same_made g c) (option_map (λ (h : Gathering). record h { members = h.members ++ x ∷ [] }) (group_at w c)) (group_at w c)
joined_group w g x c = found_changed (λ (h : Gathering). h.name) (λ h. record h { members = h.members ++ x ∷ [] }) (λ h. refl) g c w.groups

pub joined_there : (w : World) (g : MadeName) (x : ElementName) (c : MadeName) → is_some (group_at (record w { groups = map (joined_by g x) w.groups }) c) ≡ is_some (group_at w c)
joined_there w g x c = ap is_some (joined_group w g x c) ∙ changed_there (λ (h : Gathering). record h { members = h.members ++ x ∷ [] }) (same_made g c) (group_at w c)

module _ {D V : Type 0} where
  pub record Plain (a : one.Act D V) : Type 0 where
    pub writes : (b : MadeName) (i : ℕ) → runs.written a b i ≡ None
    pub joins : (g : MadeName) → runs.joins a g ≡ []
    pub sizes : runs.size_in a ≡ None
    pub ends : runs.ends_as a ≡ None

  pub size_kept : (e : runs.Event D V) (log : runs.Log D V) (g : MadeName) → runs.size_in e.act ≡ None → runs.size (e ∷ log) g ≡ runs.size log g
  size_kept e log (Argument j) h = either_none (runs.size log (Argument j))
  size_kept e log (Made q n) h = ap (λ o. runs.either (runs.size log (Made q n)) (cond (same_path e.task q && nat_eq (suc (runs.taken log e.task)) n) o None)) h ∙ (ap (runs.either (runs.size log (Made q n))) (cond_none (same_path e.task q && nat_eq (suc (runs.taken log e.task)) n)) ∙ either_none (runs.size log (Made q n)))

  pub outcome_kept : (e : runs.Event D V) (log : runs.Log D V) (q : Path) → runs.ends_as e.act ≡ None → runs.outcome log e.task ≡ None → runs.outcome (e ∷ log) q ≡ runs.outcome log q
  outcome_kept e log q h l = split (path_cases e.task q) where
    split : (e.task ≡ q) ⊎ (e.task ≡ q → ⊥) → runs.outcome (e ∷ log) q ≡ runs.outcome log q
    split (inl s) = ap runs.last_end (history_own e log q s) ∙ (h ∙ sym (subst (λ p. runs.outcome log p ≡ None) s l))
    split (inr n) = ap runs.last_end (history_other e log q n)

  pub taken_more : (e : runs.Event D V) (log : runs.Log D V) (q : Path) → runs.taken log q ≤ runs.taken (e ∷ log) q
  taken_more e log q = older_taken log (e ∷ log) q (e ∷ [], refl)

abbrev pub Buf : World → MadeName → Type 0
Buf w (Argument j) = Unit {0}
Buf w (Made q k) = is_some (find (λ (s : Store). same_made s.name (Made q k)) w.buffers) ≡ true

abbrev pub Grp : World → MadeName → Type 0
Grp w (Argument j) = Unit {0}
Grp w (Made q k) = is_some (group_at w (Made q k)) ≡ true

abbrev pub SizeIs : Option Gathering → Option ℕ → MadeName → Type 0
SizeIs o n (Argument j) = (o ≡ None) × (n ≡ Some 0)
SizeIs o n (Made q k) = n ≡ option_map (λ (g : Gathering). g.size) o

module _ (P : one.Program Begin Values) (args : List ArgValue) (ext : MadeName → ℕ → Bool) where
  pub record Shared (w : World) (log : runs.Log Begin Values) : Type 0 where
    pub cells : (b : MadeName) (i : ℕ) → runs.cell P log b i ≡ cell_of (cells_in w b) i
    pub sized : (b : MadeName) → Buf w b → (i : ℕ) → ext b i ≡ nat_lt i (length (cells_in w b))
    pub arguments : (j : ℕ) → length (cells_in w (Argument j)) ≡ length (cells_in (first_world args) (Argument j))
    pub buffers : (q : Path) (k : ℕ) → Buf w (Made q k) → k ≤ runs.taken log q
    pub members : (g : MadeName) → world.members w g ≡ turned_round (runs.members log g)
    pub sizes : (g : MadeName) → SizeIs (group_at w g) (runs.size log g) g
    pub groups : (q : Path) (k : ℕ) → Grp w (Made q k) → k ≤ runs.taken log q
    pub outcomes : (q : Path) → runs.outcome log q ≡ option_map ended_as (world.outcome w q)

  module _ (w : World) (log : runs.Log Begin Values) (e : runs.Event Begin Values) (s : Shared w log) where
    young : (q : Path) (k : ℕ) → k ≤ runs.taken log q → k ≤ runs.taken (e ∷ log) q
    young q k l = omega (arith, l, taken_more e log q)

    members_kept : ((g : MadeName) → runs.joins e.act g ≡ []) → (g : MadeName) → world.members w g ≡ turned_round (runs.members (e ∷ log) g)
    members_kept h g = s.members g ∙ sym (ap (λ xs. turned_round (xs ++ runs.members log g)) (h g))

    sizes_kept : runs.size_in e.act ≡ None → (g : MadeName) → SizeIs (group_at w g) (runs.size (e ∷ log) g) g
    sizes_kept h g = subst (λ n. SizeIs (group_at w g) n g) (sym (size_kept e log g h)) (s.sizes g)

    outcomes_kept : runs.ends_as e.act ≡ None → runs.outcome log e.task ≡ None → (q : Path) → runs.outcome (e ∷ log) q ≡ option_map ended_as (world.outcome w q)
    outcomes_kept h l q = outcome_kept e log q h l ∙ s.outcomes q

    cells_kept : ((b : MadeName) (i : ℕ) → runs.written e.act b i ≡ None) → (b : MadeName) (i : ℕ) → runs.cell P (e ∷ log) b i ≡ cell_of (cells_in w b) i
    cells_kept h b i = ap (runs.or_else (runs.cell P log b i)) (h b i) ∙ s.cells b i

    pub shared_plain : Plain e.act → runs.outcome log e.task ≡ None → Shared w (e ∷ log)
    shared_plain h l = record {
      cells = cells_kept h.writes;
      sized = s.sized;
      arguments = s.arguments;
      buffers = λ q k b. young q k (s.buffers q k b);
      members = members_kept h.joins;
      sizes = sizes_kept h.sizes;
      groups = λ q k g. young q k (s.groups q k g);
      outcomes = outcomes_kept h.ends l;
    }

    buf_written : (b : MadeName) (i n : ℕ) (c : MadeName) → Buf (record w { buffers = map (written b i n) w.buffers }) c → Buf w c
    buf_written b i n (Argument j) h = tt
    buf_written b i n (Made q k) h = sym (written_there w b i n (Made q k)) ∙ h

    pub shared_written : (b : MadeName) (i n : ℕ) → e.act ≡ one.Writes b i (cond (ext b i) n 0) → Buf w b → runs.outcome log e.task ≡ None → Shared (record w { buffers = map (written b i n) w.buffers }) (e ∷ log)
    shared_written b i n a is_there l = record {
      cells = λ c j. ap (λ x. runs.or_else (runs.cell P log c j) (runs.written x c j)) a ∙ (cell_now c j (made_cases b c) ∙ sym (ap (λ cs. cell_of cs j) (written_cells w b i n c)));
      sized = λ c h j. s.sized c (buf_written b i n c h) j ∙ ap (nat_lt j) (sym (written_length w b i n c));
      arguments = λ j. written_length w b i n (Argument j) ∙ s.arguments j;
      buffers = λ q k h. young q k (s.buffers q k (buf_written b i n (Made q k) h));
      members = members_kept (λ g. ap (λ x. runs.joins x g) a);
      sizes = sizes_kept (ap runs.size_in a);
      groups = λ q k g. young q k (s.groups q k g);
      outcomes = outcomes_kept (ap runs.ends_as a) l;
    } where
      cell_now : (c : MadeName) (j : ℕ) → (b ≡ c) ⊎ (same_made b c ≡ false) → runs.or_else (runs.cell P log c j) (cond (same_made b c && nat_eq i j) (Some (cond (ext b i) n 0)) None) ≡ cell_of (cond (same_made b c) (slice_set (cells_in w c) i n) (cells_in w c)) j
      cell_now c j (inr h) = ap (λ t. runs.or_else (runs.cell P log c j) (cond (t && nat_eq i j) (Some (cond (ext b i) n 0)) None)) h ∙ (s.cells c j ∙ sym (ap (λ t. cell_of (cond t (slice_set (cells_in w c) i n) (cells_in w c)) j) h))
      cell_now c j (inl h) = subst (λ c. runs.or_else (runs.cell P log c j) (cond (same_made b c && nat_eq i j) (Some (cond (ext b i) n 0)) None) ≡ cell_of (cond (same_made b c) (slice_set (cells_in w c) i n) (cells_in w c)) j) h
          (ap (λ t. runs.or_else (runs.cell P log b j) (cond (t && nat_eq i j) (Some (cond (ext b i) n 0)) None)) (made_same b)
          ∙ (ap (λ t. runs.or_else (runs.cell P log b j) (cond (nat_eq i j) (Some (cond t n 0)) None)) (s.sized b is_there i)
          ∙ (ap (λ x. runs.or_else x (cond (nat_eq i j) (Some (cond (nat_lt i (length (cells_in w b))) n 0)) None)) (s.cells b j)
          ∙ (sym (cell_set (cells_in w b) i n j) ∙ sym (ap (λ t. cell_of (cond t (slice_set (cells_in w b) i n) (cells_in w b)) j) (made_same b))))))

    -- a buffer's name is new
    pub shared_made : (q : Path) (k : ℕ) (dims : List ℕ) → e.task ≡ q → k ≡ suc (runs.taken log q) → e.act ≡ one.Allocs (product dims) → ((i : ℕ) → ext (Made q k) i ≡ nat_lt i (product dims)) → runs.outcome log e.task ≡ None →
        Shared (with_store w q k dims) (e ∷ log)
    shared_made q k dims t num a fits l = record {
      cells = λ c j. ap (λ x. runs.or_else (runs.cell P log c j) (runs.written x c j)) a ∙ cell_now c j (made_cases (Made q k) c);
      sized = λ c h j. sized_now c h j (made_cases (Made q k) c);
      arguments = s.arguments;
      buffers = λ p n h. young_now p n h (made_cases (Made q k) (Made p n));
      members = members_kept (λ g. ap (λ x. runs.joins x g) a);
      sizes = sizes_kept (ap runs.size_in a);
      groups = λ p n g. young p n (s.groups p n g);
      outcomes = outcomes_kept (ap runs.ends_as a) l;
    } where
      fresh : find (λ (s : Store). same_made s.name (Made q k)) w.buffers ≡ None
      fresh = none_there (find (λ (s : Store). same_made s.name (Made q k)) w.buffers) (λ h. absurd (omega (arith, s.buffers q k h, num)))

      cell_now : (c : MadeName) (j : ℕ) → (Made q k ≡ c) ⊎ (same_made (Made q k) c ≡ false) → runs.cell P log c j ≡ cell_of (maybe [] (λ (s : Store). s.cells) (cond (same_made (Made q k) c) (Some (new_store q k dims)) (find (λ (s : Store). same_made s.name c) w.buffers))) j
      cell_now c j (inr h) = s.cells c j ∙ sym (ap (λ t. cell_of (maybe [] (λ (s : Store). s.cells) (cond t (Some (new_store q k dims)) (find (λ (s : Store). same_made s.name c) w.buffers))) j) h)
      cell_now c j (inl h) = subst (λ c. runs.cell P log c j ≡ cell_of (maybe [] (λ (s : Store). s.cells) (cond (same_made (Made q k) c) (Some (new_store q k dims)) (find (λ (s : Store). same_made s.name c) w.buffers))) j) h
          (s.cells (Made q k) j ∙ (ap (λ o. cell_of (maybe [] (λ (s : Store). s.cells) o) j) fresh ∙ (sym (cell_zero (product dims) j)
          ∙ sym (ap (λ t. cell_of (maybe [] (λ (s : Store). s.cells) (cond t (Some (new_store q k dims)) (find (λ (s : Store). same_made s.name (Made q k)) w.buffers))) j) (made_same (Made q k))))))

      before : (c : MadeName) → same_made (Made q k) c ≡ false → Buf (with_store w q k dims) c → Buf w c
      before (Argument j) h b = tt
      before (Made p n) h b = subst (λ t. is_some (cond t (Some (new_store q k dims)) (find (λ (s : Store). same_made s.name (Made p n)) w.buffers)) ≡ true) h b

      sized_now : (c : MadeName) → Buf (with_store w q k dims) c → (j : ℕ) → (Made q k ≡ c) ⊎ (same_made (Made q k) c ≡ false) →
          ext c j ≡ nat_lt j (length (maybe [] (λ (s : Store). s.cells) (cond (same_made (Made q k) c) (Some (new_store q k dims)) (find (λ (s : Store). same_made s.name c) w.buffers))))
      sized_now c b j (inr h) = s.sized c (before c h b) j ∙ sym (ap (λ t. nat_lt j (length (maybe [] (λ (s : Store). s.cells) (cond t (Some (new_store q k dims)) (find (λ (s : Store). same_made s.name c) w.buffers))))) h)
      sized_now c b j (inl h) = subst (λ c. ext c j ≡ nat_lt j (length (maybe [] (λ (s : Store). s.cells) (cond (same_made (Made q k) c) (Some (new_store q k dims)) (find (λ (s : Store). same_made s.name c) w.buffers))))) h
          (fits j ∙ (sym (ap (nat_lt j) (length-replicate (product dims) 0)) ∙ sym (ap (λ t. nat_lt j (length (maybe [] (λ (s : Store). s.cells) (cond t (Some (new_store q k dims)) (find (λ (s : Store). same_made s.name (Made q k)) w.buffers))))) (made_same (Made q k)))))

      number_of : MadeName → ℕ
      number_of (Argument j) = 0
      number_of (Made p n) = n

      maker_of : MadeName → Path
      maker_of (Argument j) = []
      maker_of (Made p n) = p

      young_now : (p : Path) (n : ℕ) → Buf (with_store w q k dims) (Made p n) → (Made q k ≡ Made p n) ⊎ (same_made (Made q k) (Made p n) ≡ false) → n ≤ runs.taken (e ∷ log) p
      young_now p n b (inr h) = young p n (s.buffers p n (before (Made p n) h b))
      young_now p n b (inl h) = same p n (ap maker_of h) (ap number_of h) where
        same : (p : Path) (n : ℕ) → q ≡ p → k ≡ n → n ≤ runs.taken (e ∷ log) p
        same p n w u = subst (λ p. n ≤ runs.taken (e ∷ log) p) w (omega (arith, num, u, taken_own e log q t))

    -- a group's name is new
    pub shared_created : (q : Path) (k n : ℕ) → e.task ≡ q → k ≡ suc (runs.taken log q) → e.act ≡ one.Creates n → runs.outcome log e.task ≡ None →
        Shared (with_group w q k n) (e ∷ log)
    shared_created q k n t num a l = record {
      cells = cells_kept (λ b i. ap (λ x. runs.written x b i) a);
      sized = s.sized;
      arguments = s.arguments;
      buffers = λ p m h. young p m (s.buffers p m h);
      members = λ c. members_now c (made_cases (Made q k) c);
      sizes = λ c. sizes_now c (made_cases (Made q k) c);
      groups = λ p m h. young_now p m h (made_cases (Made q k) (Made p m));
      outcomes = outcomes_kept (ap runs.ends_as a) l;
    } where
      fresh : group_at w (Made q k) ≡ None
      fresh = none_there (group_at w (Made q k)) (λ h. absurd (omega (arith, s.groups q k h, num)))

      members_now : (c : MadeName) → (Made q k ≡ c) ⊎ (same_made (Made q k) c ≡ false) → maybe [] (λ (h : Gathering). h.members) (cond (same_made (Made q k) c) (Some (new_group q k n)) (group_at w c)) ≡ turned_round (runs.members (e ∷ log) c)
      members_now c (inr h) = ap (λ t. maybe [] (λ (h : Gathering). h.members) (cond t (Some (new_group q k n)) (group_at w c))) h ∙ members_kept (λ g. ap (λ x. runs.joins x g) a) c
      members_now c (inl h) = subst (λ c. maybe [] (λ (h : Gathering). h.members) (cond (same_made (Made q k) c) (Some (new_group q k n)) (group_at w c)) ≡ turned_round (runs.members (e ∷ log) c)) h
          (ap (λ t. maybe [] (λ (h : Gathering). h.members) (cond t (Some (new_group q k n)) (group_at w (Made q k)))) (made_same (Made q k))
          ∙ (sym (ap (maybe [] (λ (h : Gathering). h.members)) fresh) ∙ members_kept (λ g. ap (λ x. runs.joins x g) a) (Made q k)))

      made_here : (p : Path) (m : ℕ) → Made q k ≡ Made p m → (q ≡ p) × (k ≡ m)
      made_here p m h = (ap maker_of h, ap number_of h) where
        number_of : MadeName → ℕ
        number_of (Argument j) = 0
        number_of (Made p n) = n

        maker_of : MadeName → Path
        maker_of (Argument j) = []
        maker_of (Made p n) = p

      sizes_now : (c : MadeName) → (Made q k ≡ c) ⊎ (same_made (Made q k) c ≡ false) → SizeIs (cond (same_made (Made q k) c) (Some (new_group q k n)) (group_at w c)) (runs.size (e ∷ log) c) c
      sizes_now (Argument j) h = ((s.sizes (Argument j)).0, either_none (runs.size log (Argument j)) ∙ (s.sizes (Argument j)).1)
      sizes_now (Made p m) (inr h) =
          ap (λ x. runs.either (runs.size log (Made p m)) (runs.size_made x e.task (suc (runs.taken log e.task)) (Made p m))) a
          ∙ (ap (λ x. runs.either (runs.size log (Made p m)) (cond (same_path x p && nat_eq (suc (runs.taken log x)) m) (Some n) None)) t
          ∙ (ap (λ x. runs.either (runs.size log (Made p m)) (cond (same_path q p && nat_eq x m) (Some n) None)) (sym num)
          ∙ (ap (λ x. runs.either (runs.size log (Made p m)) (cond x (Some n) None)) h
          ∙ (either_none (runs.size log (Made p m)) ∙ (s.sizes (Made p m)
          ∙ ap (λ x. option_map (λ (g : Gathering). g.size) (cond x (Some (new_group q k n)) (group_at w (Made p m)))) (sym h))))))
      sizes_now (Made p m) (inl h) =
          ap (λ x. runs.either (runs.size log (Made p m)) (runs.size_made x e.task (suc (runs.taken log e.task)) (Made p m))) a
          ∙ (ap (λ x. runs.either (runs.size log (Made p m)) (cond (same_path x p && nat_eq (suc (runs.taken log x)) m) (Some n) None)) t
          ∙ (ap (λ x. runs.either (runs.size log (Made p m)) (cond (same_path q p && nat_eq x m) (Some n) None)) (sym num)
          ∙ (ap (λ x. runs.either (runs.size log (Made p m)) (cond x (Some n) None)) same
          ∙ (ap (λ o. runs.either o (Some n)) (s.sizes (Made p m) ∙ ap (option_map (λ (g : Gathering). g.size)) (subst (λ c. group_at w c ≡ None) h fresh))
          ∙ ap (λ x. option_map (λ (g : Gathering). g.size) (cond x (Some (new_group q k n)) (group_at w (Made p m)))) (sym same))))) where
            same : same_made (Made q k) (Made p m) ≡ true
            same = subst (λ c. same_made (Made q k) c ≡ true) h (made_same (Made q k))

      young_now : (p : Path) (m : ℕ) → is_some (cond (same_made (Made q k) (Made p m)) (Some (new_group q k n)) (group_at w (Made p m))) ≡ true → (Made q k ≡ Made p m) ⊎ (same_made (Made q k) (Made p m) ≡ false) → m ≤ runs.taken (e ∷ log) p
      young_now p m b (inr h) = young p m (s.groups p m (subst (λ t. is_some (cond t (Some (new_group q k n)) (group_at w (Made p m))) ≡ true) h b))
      young_now p m b (inl h) = let two = made_here p m h in subst (λ p. m ≤ runs.taken (e ∷ log) p) two.0 (omega (arith, num, two.1, taken_own e log q t))

    -- one more element
    pub shared_joined : (g : MadeName) (x : ElementName) (used : Bool) → e.act ≡ one.Adds g x used → is_some (group_at w g) ≡ true → runs.outcome log e.task ≡ None →
        Shared (record w { groups = map (joined_by g x) w.groups }) (e ∷ log)
    shared_joined g x used a is_there l = record {
      cells = cells_kept (λ b i. ap (λ x. runs.written x b i) a);
      sized = s.sized;
      arguments = s.arguments;
      buffers = λ p m h. young p m (s.buffers p m h);
      members = λ c. ap (maybe [] (λ (h : Gathering). h.members)) (joined_group w g x c) ∙ (members_now c (made_cases g c) ∙ sym (ap (λ y. turned_round (runs.joins y c ++ runs.members log c)) a));
      sizes = λ c. sizes_now c;
      groups = λ p m h. young p m (s.groups p m (sym (joined_there w g x (Made p m)) ∙ h));
      outcomes = outcomes_kept (ap runs.ends_as a) l;
    } where
      some_members : (o : Option Gathering) → is_some o ≡ true → maybe [] (λ (h : Gathering). h.members) (option_map (λ (h : Gathering). record h { members = h.members ++ x ∷ [] }) o) ≡ maybe [] (λ (h : Gathering). h.members) o ++ x ∷ []
      some_members None h = absurd (true≢false (sym h))
      some_members (Some o) h = refl

      members_now : (c : MadeName) → (g ≡ c) ⊎ (same_made g c ≡ false) → maybe [] (λ (h : Gathering). h.members) (cond (same_made g c) (option_map (λ (h : Gathering). record h { members = h.members ++ x ∷ [] }) (group_at w c)) (group_at w c)) ≡ turned_round (cond (same_made g c) (x ∷ []) [] ++ runs.members log c)
      members_now c (inr h) = ap (λ t. maybe [] (λ (h : Gathering). h.members) (cond t (option_map (λ (h : Gathering). record h { members = h.members ++ x ∷ [] }) (group_at w c)) (group_at w c))) h ∙ (s.members c ∙ sym (ap (λ t. turned_round (cond t (x ∷ []) [] ++ runs.members log c)) h))
      members_now c (inl h) = subst (λ c. maybe [] (λ (h : Gathering). h.members) (cond (same_made g c) (option_map (λ (h : Gathering). record h { members = h.members ++ x ∷ [] }) (group_at w c)) (group_at w c)) ≡ turned_round (cond (same_made g c) (x ∷ []) [] ++ runs.members log c)) h
          (ap (λ t. maybe [] (λ (h : Gathering). h.members) (cond t (option_map (λ (h : Gathering). record h { members = h.members ++ x ∷ [] }) (group_at w g)) (group_at w g))) (made_same g)
          ∙ (some_members (group_at w g) is_there ∙ (ap (λ xs. xs ++ x ∷ []) (s.members g) ∙ sym (ap (λ t. turned_round (cond t (x ∷ []) [] ++ runs.members log g)) (made_same g)))))

      same_size : (t : Bool) (o : Option Gathering) → option_map (λ (g : Gathering). g.size) (cond t (option_map (λ (h : Gathering). record h { members = h.members ++ x ∷ [] }) o) o) ≡ option_map (λ (g : Gathering). g.size) o
      same_size true None = refl
      same_size true (Some o) = refl
      same_size false o = refl

      still_none : (t : Bool) (o : Option Gathering) → o ≡ None → cond t (option_map (λ (h : Gathering). record h { members = h.members ++ x ∷ [] }) o) o ≡ None
      still_none true None h = refl
      still_none true (Some o) h = absurd (none≢some o (sym h))
      still_none false o h = h

      sizes_now : (c : MadeName) → SizeIs (group_at (record w { groups = map (joined_by g x) w.groups }) c) (runs.size (e ∷ log) c) c
      sizes_now (Argument j) = (joined_group w g x (Argument j) ∙ still_none (same_made g (Argument j)) (group_at w (Argument j)) ((s.sizes (Argument j)).0), size_kept e log (Argument j) (ap runs.size_in a) ∙ (s.sizes (Argument j)).1)
      sizes_now (Made p m) = size_kept e log (Made p m) (ap runs.size_in a) ∙ (s.sizes (Made p m) ∙ sym (ap (option_map (λ (g : Gathering). g.size)) (joined_group w g x (Made p m)) ∙ same_size (same_made g (Made p m)) (group_at w (Made p m))))

    -- the task has ended
    pub shared_ended : (q : Path) (o : Outcome) → e.task ≡ q → e.act ≡ one.Ends (ended_as o) → Shared (ended w q o) (e ∷ log)
    shared_ended q o t a = record {
      cells = cells_kept (λ b i. ap (λ x. runs.written x b i) a);
      sized = s.sized;
      arguments = s.arguments;
      buffers = λ p m h. young p m (s.buffers p m h);
      members = members_kept (λ g. ap (λ x. runs.joins x g) a);
      sizes = sizes_kept (ap runs.size_in a);
      groups = λ p m h. young p m (s.groups p m h);
      outcomes = λ r. outcome_now r (path_cases q r);
    } where
      outcome_now : (r : Path) → (q ≡ r) ⊎ (q ≡ r → ⊥) → runs.outcome (e ∷ log) r ≡ option_map ended_as (option_map (λ (e : Path × Outcome). e.1) (cond (same_path q r) (Some (q, o)) (find (λ (e : Path × Outcome). same_path e.0 r) w.ends)))
      outcome_now r (inl h) = ap runs.last_end (history_own e log r (t ∙ h)) ∙ (ap runs.ends_as a ∙ sym (ap (λ x. option_map ended_as (option_map (λ (e : Path × Outcome). e.1) x)) (here q r (Some (q, o)) (find (λ (e : Path × Outcome). same_path e.0 r) w.ends) h)))
      outcome_now r (inr n) = ap runs.last_end (history_other e log r (λ h. n (sym t ∙ h))) ∙ (s.outcomes r ∙ sym (ap (λ x. option_map ended_as (option_map (λ (e : Path × Outcome). e.1) x)) (there q r (Some (q, o)) (find (λ (e : Path × Outcome). same_path e.0 r) w.ends) n)))
