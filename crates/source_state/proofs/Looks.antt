-- What is read of buffers, groups and ends by their names, and what a change leaves.
use Rattle.std.proofs.Common.{◌≡◌, ℕ, Bool, true, false, cond, List, [], ◌∷◌, map, Option, Some, refl, sym, ap, ◌∙◌}
use Rattle.std.specs.List.{find}
use Rattle.std.specs.Option.{option_map}
use Rattle.std.specs.Map.{lookup}
use Rattle.std.specs.Ordering.{is_eq, nat_cmp}
use Rattle.std.specs.Cmp.Lexicographic.{slice_cmp}
use Rattle.std.specs.BTreeMap.{BTreeMap, is_at, UpdatesBy}
use Rattle.std.specs.declared.vec.Vec.{Vec}
use Rattle.ir_forms.specs.declared.names.MadeName.{MadeName}
use Rattle.ir_forms.specs.Names.{Path, same_path, same_made}
use Rattle.source_meaning.specs.Values.{maybe}
use Rattle.source_meaning.specs.World.{Gathering}
use Rattle.source_state.specs.declared.ends.Ended.{Ended}
use Rattle.source_state.specs.declared.groups.Group.{Group}
use Rattle.source_state.specs.declared.names.Name.{Name}
use Rattle.source_state.specs.Seen.{made_of, store_of, gathering_of, outcome_of, ends_of, cells_of, group_of, more, end_of}
use Rattle.source_state.proofs.NameLaws.{same_itself, same_is, paths_tie, made_itself, made_is, name_cmp, names_tie}
use Rattle.source_state.proofs.Maps.{at_name, looked, query, updated}

-- ---- a search among what the entries stand for is a look-up

pub maybe_cond : {X Y : Type 0} (d : Y) (f : X → Y) (t : Bool) (x : X) (o : Option X) → maybe d f (cond t (Some x) o) ≡ cond t (f x) (maybe d f o)
maybe_cond d f true x o = refl
maybe_cond d f false x o = refl

pub map_cond : {X Y : Type 0} (f : X → Y) (t : Bool) (x : X) (o : Option X) → option_map f (cond t (Some x) o) ≡ cond t (Some (f x)) (option_map f o)
map_cond f true x o = refl
map_cond f false x o = refl

-- the cells that a look-up finds
pub cells_there : (es : List (Name × List ℕ)) (b : MadeName) → cells_of es b ≡ maybe [] (λ cells. cells) (lookup (at_name made_of same_made b) es)
cells_there [] b = refl
cells_there (e ∷ es) b =
    maybe_cond [] (λ s. s.cells) (same_made (made_of e.0) b) (store_of e) (find (λ s. same_made s.name b) (map store_of es))
    ∙ (ap (λ cs. cond (same_made (made_of e.0) b) e.1 cs) (cells_there es b)
    ∙ sym (maybe_cond [] (λ cells. cells) (same_made (made_of e.0) b) e.1 (lookup (at_name made_of same_made b) es)))

-- the group
abbrev pub gathered : MadeName → Group → Gathering
gathered b g = record { name = b; size = g.size; members = g.members }

pub group_there : (es : List (Name × Group)) (b : MadeName) → group_of es b ≡ option_map (gathered b) (lookup (at_name made_of same_made b) es)
group_there [] b = refl
group_there (e ∷ es) b = split (same_made (made_of e.0) b) refl (group_there es b) where
  split : (t : Bool) → same_made (made_of e.0) b ≡ t → group_of es b ≡ option_map (gathered b) (lookup (at_name made_of same_made b) es) →
      cond t (Some (gathering_of e)) (group_of es b) ≡ option_map (gathered b) (cond t (Some e.1) (lookup (at_name made_of same_made b) es))
  split true h more = ap (λ c. Some (gathered c e.1)) (made_is (made_of e.0) b h)
  split false h more = more

-- the end of a task
abbrev pub path_name : {Z : Type 0} → Vec ℕ Z → Path
path_name v = v.items

pub end_there : {Z : Type 0} (es : List (Vec ℕ Z × Ended)) (p : Path) → end_of (ends_of es) p ≡ option_map outcome_of (lookup (at_name path_name same_path p) es)
end_there [] p = refl
end_there (e ∷ es) p =
    map_cond (λ x. x.1) (same_path e.0.items p) (e.0.items, outcome_of e.1) (find (λ x. same_path x.0 p) (ends_of es))
    ∙ (ap (λ o. cond (same_path e.0.items p) (Some (outcome_of e.1)) o) (end_there es p)
    ∙ sym (map_cond outcome_of (same_path e.0.items p) e.1 (lookup (at_name path_name same_path p) es)))

-- ---- what a query finds

pub name_query : {X : Type 0} (es : List (Name × X)) (k : Name) → lookup (is_at (name_cmp k)) es ≡ lookup (at_name made_of same_made (made_of k)) es
name_query es k = looked (is_at (name_cmp k)) (at_name made_of same_made (made_of k)) es (query made_of same_made name_cmp made_itself made_is names_tie k (made_of k) refl)

path_query : {X Z : Type 0} (es : List (Vec ℕ Z × X)) (p : Path) → lookup (λ (v : Vec ℕ Z). is_eq (slice_cmp nat_cmp p v.items)) es ≡ lookup (at_name path_name same_path p) es
path_query es p = looked (λ v. is_eq (slice_cmp nat_cmp p v.items)) (at_name path_name same_path p) es
    (λ v. query (λ (q : Path). q) same_path (slice_cmp nat_cmp) same_itself same_is (λ q r. sym (paths_tie q r)) p p refl v.items)

-- the cells that a map has at a key
pub cells_looked : (es : List (Name × List ℕ)) (k : Name) → maybe [] (λ cells. cells) (lookup (is_at (name_cmp k)) es) ≡ cells_of es (made_of k)
cells_looked es k = ap (maybe [] (λ cells. cells)) (name_query es k) ∙ sym (cells_there es (made_of k))

-- the group
pub group_looked : (es : List (Name × Group)) (k : Name) → option_map (gathered (made_of k)) (lookup (is_at (name_cmp k)) es) ≡ group_of es (made_of k)
group_looked es k = ap (option_map (gathered (made_of k))) (name_query es k) ∙ sym (group_there es (made_of k))

-- the end
pub end_looked : {Z : Type 0} (es : List (Vec ℕ Z × Ended)) (p : Path) → option_map outcome_of (lookup (λ (v : Vec ℕ Z). is_eq (slice_cmp nat_cmp p v.items)) es) ≡ end_of (ends_of es) p
end_looked es p = ap (option_map outcome_of) (path_query es p) ∙ sym (end_there es p)

-- ---- what a change of a map leaves

pub cells_put : (m n : BTreeMap Name (List ℕ)) (k : Name) (cells : List ℕ) → UpdatesBy name_cmp (name_cmp k) m n (Some cells) → (b : MadeName) →
    cells_of n.entries b ≡ cond (same_made (made_of k) b) cells (cells_of m.entries b)
cells_put m n k cells u b =
    cells_there n.entries b
    ∙ (ap (maybe [] (λ cs. cs)) (updated made_of same_made name_cmp made_itself made_is names_tie m n k cells u b)
    ∙ (maybe_cond [] (λ cs. cs) (same_made (made_of k) b) cells (lookup (at_name made_of same_made b) m.entries)
    ∙ ap (λ cs. cond (same_made (made_of k) b) cells cs) (sym (cells_there m.entries b))))

pub group_put : (m n : BTreeMap Name Group) (k : Name) (g : Group) → UpdatesBy name_cmp (name_cmp k) m n (Some g) → (b : MadeName) →
    group_of n.entries b ≡ cond (same_made (made_of k) b) (Some (gathered b g)) (group_of m.entries b)
group_put m n k g u b =
    group_there n.entries b
    ∙ (ap (option_map (gathered b)) (updated made_of same_made name_cmp made_itself made_is names_tie m n k g u b)
    ∙ (map_cond (gathered b) (same_made (made_of k) b) g (lookup (at_name made_of same_made b) m.entries)
    ∙ ap (λ o. cond (same_made (made_of k) b) (Some (gathered b g)) o) (sym (group_there m.entries b))))

pub end_put : {Z : Type 0} (m n : BTreeMap (Vec ℕ Z) Ended) (v : Vec ℕ Z) (o : Ended) → UpdatesBy (λ v w. slice_cmp nat_cmp v.items w.items) (λ w. slice_cmp nat_cmp v.items w.items) m n (Some o) → (p : Path) →
    end_of (ends_of n.entries) p ≡ cond (same_path v.items p) (Some (outcome_of o)) (end_of (ends_of m.entries) p)
end_put {Z} m n v o u p =
    end_there n.entries p
    ∙ (ap (option_map outcome_of) (updated {K = Vec ℕ Z} path_name same_path (λ v w. slice_cmp nat_cmp v.items w.items) same_itself same_is (λ v w. sym (paths_tie v.items w.items)) m n v o u p)
    ∙ (map_cond outcome_of (same_path v.items p) o (lookup (at_name path_name same_path p) m.entries)
    ∙ ap (λ x. cond (same_path v.items p) (Some (outcome_of o)) x) (sym (end_there m.entries p))))
