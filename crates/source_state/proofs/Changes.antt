-- What each change leaves is alike to what the definitions say.
use Rattle.std.proofs.Common.{◌≡◌, ℕ, zero, suc, ◌+◌, Bool, true, false, cond, List, [], ◌∷◌, ◌++◌, map, Option, Some, None, slice_set, refl, sym, ap, subst, ◌∙◌}
use Rattle.std.specs.Prelude.{replicate, IsSome}
use Rattle.std.specs.List.{find}
use Rattle.std.specs.Option.{option_map}
use Rattle.std.specs.Map.{lookup}
use Rattle.std.specs.BTreeMap.{BTreeMap, is_at, UpdatesBy, WritesThrough}
use Rattle.ir_forms.specs.declared.names.ElementName.{ElementName}
use Rattle.ir_forms.specs.declared.names.MadeName.{MadeName}
use Rattle.ir_forms.specs.Names.{Path, same_path, same_made}
use Rattle.source_meaning.specs.Values.{maybe}
use Rattle.source_meaning.specs.Tasks.{Outcome}
use Rattle.source_meaning.specs.World.{Store, Gathering, World, members, size, group_at, written, joined_by}
use Rattle.source_state.specs.declared.groups.Group.{Group}
use Rattle.source_state.specs.declared.names.Name.{Name}
use Rattle.source_state.specs.Seen.{Alike, made_of, store_of, gathering_of, cells_of, group_of, more, end_of}
use Rattle.source_state.proofs.NameLaws.{made_is, name_cmp}
use Rattle.source_state.proofs.Looks.{maybe_cond, map_cond, gathered, cells_looked, group_looked, cells_put, group_put}

-- the world of these parts
abbrev pub world_of : List (Name × List ℕ) → ℕ → List (Name × Group) → List (Path × Outcome) → World
world_of bs u gs es = record { buffers = map store_of bs; used = u; groups = map gathering_of gs; ends = es }

-- ---- a change of what has a name

module _ {S : Type 0} (f : S → S) (test : S → Bool) (keeps : (s : S) → test (f s) ≡ test s) where
  hit : (ss : List S) → find test (map (λ s. cond (test s) (f s) s) ss) ≡ option_map f (find test ss)
  hit [] = refl
  hit (s ∷ ss) = split (test s) refl (hit ss) where
    split : (t : Bool) → test s ≡ t → find test (map (λ s. cond (test s) (f s) s) ss) ≡ option_map f (find test ss) → cond (test (cond t (f s) s)) (Some (cond t (f s) s)) (find test (map (λ s. cond (test s) (f s) s) ss)) ≡ option_map f (cond t (Some s) (find test ss))
    split true e more = ap (λ x. cond x (Some (f s)) (find test (map (λ s. cond (test s) (f s) s) ss))) (keeps s ∙ e)
    split false e more = ap (λ x. cond x (Some s) (find test (map (λ s. cond (test s) (f s) s) ss))) e ∙ more

  missed : (other : S → Bool) → ((s : S) → other s ≡ true → test s ≡ false) → (ss : List S) → find test (map (λ s. cond (other s) (f s) s) ss) ≡ find test ss
  missed other apart [] = refl
  missed other apart (s ∷ ss) = split (other s) refl (missed other apart ss) where
    split : (t : Bool) → other s ≡ t → find test (map (λ s. cond (other s) (f s) s) ss) ≡ find test ss → cond (test (cond t (f s) s)) (Some (cond t (f s) s)) (find test (map (λ s. cond (other s) (f s) s) ss)) ≡ cond (test s) (Some s) (find test ss)
    split true e more = ap (λ x. cond x (Some (f s)) (find test (map (λ s. cond (other s) (f s) s) ss))) (keeps s ∙ apart s e) ∙ (more ∙ sym (ap (λ x. cond x (Some s) (find test ss)) (apart s e)))
    split false e more = ap (λ o. cond (test s) (Some s) o) more

changed : {S : Type 0} (called : S → MadeName) (f : S → S) → ((s : S) → called (f s) ≡ called s) → (name b : MadeName) (ss : List S) →
    find (λ s. same_made (called s) b) (map (λ s. cond (same_made (called s) name) (f s) s) ss) ≡ cond (same_made name b) (option_map f (find (λ s. same_made (called s) b) ss)) (find (λ s. same_made (called s) b) ss)
changed {S} called f keeps name b ss = split (same_made name b) refl where
  split : (t : Bool) → same_made name b ≡ t → find (λ s. same_made (called s) b) (map (λ s. cond (same_made (called s) name) (f s) s) ss) ≡ cond t (option_map f (find (λ s. same_made (called s) b) ss)) (find (λ s. same_made (called s) b) ss)
  split true e = subst (λ n. find (λ s. same_made (called s) b) (map (λ s. cond (same_made (called s) n) (f s) s) ss) ≡ option_map f (find (λ s. same_made (called s) b) ss)) (sym (made_is name b e)) (hit f (λ s. same_made (called s) b) (λ s. ap (λ n. same_made n b) (keeps s)) ss)
  split false e = missed f (λ s. same_made (called s) b) (λ s. ap (λ n. same_made n b) (keeps s)) (λ s. same_made (called s) name) (λ s h. ap (λ n. same_made n b) (made_is (called s) name h) ∙ e) ss

-- ---- a cell is written

set_none : (i n : ℕ) → slice_set [] i n ≡ []
set_none zero n = refl
set_none (suc i) n = refl

-- a buffer with a cell written
abbrev pub with_cell : ℕ → ℕ → Store → Store
with_cell i n s = record s { cells = slice_set s.cells i n }

set_cond : (t : Bool) (i n : ℕ) (o : Option Store) → maybe [] (λ s. s.cells) (cond t (option_map (with_cell i n) o) o) ≡ cond t (slice_set (maybe [] (λ s. s.cells) o) i n) (maybe [] (λ s. s.cells) o)
set_cond true i n None = sym (set_none i n)
set_cond true i n (Some s) = refl
set_cond false i n o = refl

pub write_alike : (bs cs : List (Name × List ℕ)) (u : ℕ) (gs : List (Name × Group)) (es : List (Path × Outcome)) (w : World) (name : MadeName) (i n : ℕ) → Alike (world_of bs u gs es) w →
    ((b : MadeName) → cells_of cs b ≡ cond (same_made name b) (slice_set (cells_of bs b) i n) (cells_of bs b)) →
    Alike (world_of cs u gs es) (record w { buffers = map (written name i n) w.buffers })
write_alike bs cs u gs es w name i n v h = record {
  cells = λ b. h b ∙ ((λ j. cond (same_made name b) (slice_set (v.cells b j) i n) (v.cells b j)) ∙ (sym (set_cond (same_made name b) i n (find (λ s. same_made s.name b) w.buffers)) ∙ sym (ap (maybe [] (λ s. s.cells)) (changed (λ (s : Store). s.name) (with_cell i n) (λ s. refl) name b w.buffers))));
  used = v.used;
  groups = v.groups;
  ends = v.ends;
}

-- after a write through what the map lent, or where it lent nothing
pub written_there : (m n : BTreeMap Name (List ℕ)) (k : Name) (old new : List ℕ) (i x : ℕ) → Some old ≡ lookup (is_at (name_cmp k)) m.entries → new ≡ slice_set old i x → WritesThrough name_cmp (name_cmp k) m new n → (b : MadeName) →
    cells_of n.entries b ≡ cond (same_made (made_of k) b) (slice_set (cells_of m.entries b) i x) (cells_of m.entries b)
written_there m n k old new i x at set u b = cells_put m n k new (u.3 (subst (λ o. IsSome o) at refl)) b ∙ split (same_made (made_of k) b) refl where
  split : (t : Bool) → same_made (made_of k) b ≡ t → cond t new (cells_of m.entries b) ≡ cond t (slice_set (cells_of m.entries b) i x) (cells_of m.entries b)
  split true e = set ∙ ap (λ cs. slice_set cs i x) (ap (maybe [] (λ cells. cells)) at ∙ (cells_looked m.entries k ∙ ap (cells_of m.entries) (made_is (made_of k) b e)))
  split false e = refl

pub written_nowhere : (es fs : List (Name × List ℕ)) (k : Name) (i x : ℕ) → None ≡ lookup (is_at (name_cmp k)) es → fs ≡ es → (b : MadeName) →
    cells_of fs b ≡ cond (same_made (made_of k) b) (slice_set (cells_of es b) i x) (cells_of es b)
written_nowhere es fs k i x at same b = ap (λ ys. cells_of ys b) same ∙ split (same_made (made_of k) b) refl where
  split : (t : Bool) → same_made (made_of k) b ≡ t → cells_of es b ≡ cond t (slice_set (cells_of es b) i x) (cells_of es b)
  split true e =
      let none : [] ≡ cells_of es b = ap (maybe [] (λ cells. cells)) at ∙ (cells_looked es k ∙ ap (cells_of es) (made_is (made_of k) b e)) in
      sym none ∙ (sym (set_none i x) ∙ ap (λ cs. slice_set cs i x) none)
  split false e = refl

-- ---- a buffer is made

pub buffer_alike : (m n : BTreeMap Name (List ℕ)) (u : ℕ) (gs : List (Name × Group)) (es : List (Path × Outcome)) (w : World) (k : Name) (name : MadeName) (zeros : List ℕ) (c d : ℕ) → Alike (world_of m.entries u gs es) w →
    made_of k ≡ name → zeros ≡ replicate c 0 → c ≡ d → UpdatesBy name_cmp (name_cmp k) m n (Some zeros) →
    Alike (world_of n.entries (u + c) gs es) (record w { buffers = record { name = name; cells = replicate d 0 } ∷ w.buffers; used = w.used + d })
buffer_alike m n u gs es w k name zeros c d v is z s up = record {
  cells = λ b. cells_put m n k zeros up b ∙ ((λ j. cond (same_made (is j) b) ((z ∙ ap (λ x. replicate x 0) s) j) (v.cells b j)) ∙ sym (maybe_cond [] (λ s. s.cells) (same_made name b) (record { name = name; cells = replicate d 0 }) (find (λ s. same_made s.name b) w.buffers)));
  used = (λ j. v.used j + s j);
  groups = v.groups;
  ends = v.ends;
}

-- ---- a group is made, and an element joins it

-- a group without elements
abbrev fresh : MadeName → Group → Gathering
fresh name g = record { name = name; size = g.size; members = [] }

pub group_alike : (bs : List (Name × List ℕ)) (u : ℕ) (m n : BTreeMap Name Group) (es : List (Path × Outcome)) (w : World) (k : Name) (name : MadeName) (g : Group) → Alike (world_of bs u m.entries es) w →
    made_of k ≡ name → g.members ≡ [] → UpdatesBy name_cmp (name_cmp k) m n (Some g) →
    Alike (world_of bs u n.entries es) (record w { groups = record { name = name; size = g.size; members = [] } ∷ w.groups })
group_alike bs u m n es w k name g v is empty up = record {
  cells = v.cells;
  used = v.used;
  groups = λ b. group_put m n k g up b ∙ ((λ j. cond (same_made (is j) b) (Some (gathered b g)) (v.groups b j)) ∙ split b (same_made name b) refl);
  ends = v.ends;
} where
  split : (b : MadeName) (t : Bool) → same_made name b ≡ t → cond t (Some (gathered b g)) (group_at w b) ≡ cond t (Some (fresh name g)) (group_at w b)
  split b true e = (λ j. Some (record { name = sym (made_is name b e) j; size = g.size; members = empty j }))
  split b false e = refl

pub add_alike : (bs : List (Name × List ℕ)) (u : ℕ) (gs hs : List (Name × Group)) (es : List (Path × Outcome)) (w : World) (name : MadeName) (x : ElementName) → Alike (world_of bs u gs es) w →
    ((g : MadeName) → group_of hs g ≡ cond (same_made name g) (option_map (more x) (group_of gs g)) (group_of gs g)) →
    Alike (world_of bs u hs es) (record w { groups = map (joined_by name x) w.groups })
add_alike bs u gs hs es w name x v h = record {
  cells = v.cells;
  used = v.used;
  groups = λ g. h g ∙ ((λ j. cond (same_made name g) (option_map (more x) (v.groups g j)) (v.groups g j)) ∙ sym (changed (λ (s : Gathering). s.name) (more x) (λ s. refl) name g w.groups));
  ends = v.ends;
}

pub added_there : (m n : BTreeMap Name Group) (k : Name) (old new : Group) (x : ElementName) → Some old ≡ lookup (is_at (name_cmp k)) m.entries → new.size ≡ old.size → new.members ≡ old.members ++ x ∷ [] → WritesThrough name_cmp (name_cmp k) m new n → (b : MadeName) →
    group_of n.entries b ≡ cond (same_made (made_of k) b) (option_map (more x) (group_of m.entries b)) (group_of m.entries b)
added_there m n k old new x at sized grown u b = group_put m n k new (u.3 (subst (λ o. IsSome o) at refl)) b ∙ split (same_made (made_of k) b) refl where
  split : (t : Bool) → same_made (made_of k) b ≡ t → cond t (Some (gathered b new)) (group_of m.entries b) ≡ cond t (option_map (more x) (group_of m.entries b)) (group_of m.entries b)
  split true e =
      let is = made_is (made_of k) b e in
      let was : Some (gathered (made_of k) old) ≡ group_of m.entries (made_of k) = ap (option_map (gathered (made_of k))) at ∙ group_looked m.entries k in
      let now : Some (gathered b old) ≡ group_of m.entries b = subst (λ c. Some (gathered c old) ≡ group_of m.entries c) is was in
      (λ i. Some (record { name = b; size = sized i; members = grown i })) ∙ ap (option_map (more x)) now
  split false e = refl

pub added_nowhere : (es fs : List (Name × Group)) (k : Name) (x : ElementName) → None ≡ lookup (is_at (name_cmp k)) es → fs ≡ es → (b : MadeName) →
    group_of fs b ≡ cond (same_made (made_of k) b) (option_map (more x) (group_of es b)) (group_of es b)
added_nowhere es fs k x at same b = ap (λ ys. group_of ys b) same ∙ split (same_made (made_of k) b) refl where
  split : (t : Bool) → same_made (made_of k) b ≡ t → group_of es b ≡ cond t (option_map (more x) (group_of es b)) (group_of es b)
  split true e =
      let none : None ≡ group_of es b = ap (option_map (gathered (made_of k))) at ∙ (group_looked es k ∙ ap (group_of es) (made_is (made_of k) b e)) in
      sym none ∙ ap (option_map (more x)) none
  split false e = refl

-- a group that is found
pub group_found : (bs : List (Name × List ℕ)) (u : ℕ) (gs : List (Name × Group)) (es : List (Path × Outcome)) (w : World) (k : Name) (b : MadeName) (o : Option Group) → world_of bs u gs es ≡ w → made_of k ≡ b → o ≡ lookup (is_at (name_cmp k)) gs →
    (maybe [] (λ g. g.members) o ≡ members w b) × (maybe 0 (λ g. g.size) o ≡ size w b)
group_found bs u gs es w k b o v is at =
    let there : option_map (gathered (made_of k)) o ≡ group_at w b = ap (option_map (gathered (made_of k))) at ∙ (group_looked gs k ∙ (λ i. group_at (v i) (is i))) in
    (in_members (made_of k) o ∙ ap (maybe [] (λ h. h.members)) there, in_size (made_of k) o ∙ ap (maybe 0 (λ h. h.size)) there)
  where
    in_members : (c : MadeName) (o : Option Group) → maybe [] (λ g. g.members) o ≡ maybe [] (λ h. h.members) (option_map (gathered c) o)
    in_members c None = refl
    in_members c (Some g) = refl

    in_size : (c : MadeName) (o : Option Group) → maybe 0 (λ g. g.size) o ≡ maybe 0 (λ h. h.size) (option_map (gathered c) o)
    in_size c None = refl
    in_size c (Some g) = refl

-- ---- a task ends

pub end_alike : (bs : List (Name × List ℕ)) (u : ℕ) (gs : List (Name × Group)) (es fs : List (Path × Outcome)) (w : World) (q r : Path) (o : Outcome) → Alike (world_of bs u gs es) w → q ≡ r →
    ((p : Path) → end_of fs p ≡ cond (same_path q p) (Some o) (end_of es p)) →
    Alike (world_of bs u gs fs) (record w { ends = (r, o) ∷ w.ends })
end_alike bs u gs es fs w q r o v is h = record {
  cells = v.cells;
  used = v.used;
  groups = v.groups;
  ends = λ p. h p ∙ ((λ j. cond (same_path (is j) p) (Some o) (v.ends p j)) ∙ sym (map_cond (λ e. e.1) (same_path r p) (r, o) (find (λ e. same_path e.0 p) w.ends)));
}
