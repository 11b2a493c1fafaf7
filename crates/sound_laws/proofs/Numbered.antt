-- Values under other names, no two under one: the code is extended by nothing.
use Rattle.std.proofs.Common.{◌≡◌, ℕ, zero, suc, ◌==◌, cond, Bool, true, false, List, [], ◌∷◌, ◌++◌, map, length, Option, Some, None, slice_get, refl, sym, ap, ◌∙◌, subst}
use Rattle.std.specs.Option.{is_some, option_map}
use Rattle.std.specs.Prelude.{unwrap_or}
use Rattle.op_table.specs.declared.rows.Level.{Level}
use Rattle.op_table.specs.declared.rows.Level.TheVariants.{Low}
use Rattle.ir_forms.specs.declared.ops.Op.{Op, out-Op, roll-Op, out-roll-Op}
use Rattle.ir_forms.specs.declared.ops.Op.TheFolds.{fold_out-Op, fold_out-Region, ind-Region}
use Rattle.ir_forms.specs.declared.ops.Region.{Region, out-Region, roll-Region, out-roll-Region}
use Rattle.ir_forms.specs.declared.ops.Func.{Func}
use Rattle.ir_forms.specs.declared.ops.Module.{Module}
use Rattle.ir_forms.specs.declared.ops.ValueNo.{ValueNo}
use Rattle.ir_forms.specs.Ops.{results_of, regions_of, ops_of}
use Rattle.ir_verify.specs.Places.{Seen, params_of, types_of, defined}
use Rattle.source_meaning.specs.Parts.{Node, joined, names_of}
use Rattle.source_meaning.specs.Renaming.{renamed_params, op_renamed, region_renamed, renamed_op, renamed_ops, renamed_region, renamed_node, renamed_func}
use Rattle.value_numbers.specs.Numbers.{op_values, region_values, values_in, values_inside, values_of, as_numbers, defined_in, first_place, place_in, numbered_values, value_numbered}
use Rattle.sound_laws.specs.Extended.{Names, IsDistinct, AreOwn, AreOwnParams, Ops, Regions, Extends, no_ops, keeps, no_regions, region, IsExtended}
use Rattle.sound_laws.specs.Laws.{AreExtended, NumberedIsSound}
use Rattle.sound_laws.proofs.Sight.{equal, is_equal}
use Rattle.sound_laws.proofs.Sound.{extended_is_sound}

module _ (σ : ℕ → ℕ) where
  parts : (o : Op) → out-Op (renamed_op σ o) ≡ renamed_node σ (out-Op o)
  unfolding renamed_op renamed_region
  parts o = ap out-Op (fold_out-Op Op Region (op_renamed σ) (region_renamed σ) o) ∙ out-roll-Op _

  region_parts : (r : Region) → out-Region (renamed_region σ r) ≡ record { params = renamed_params σ (out-Region r).params; ops = map (renamed_op σ) (out-Region r).ops }
  unfolding renamed_op renamed_region
  region_parts r = ap out-Region (fold_out-Region Op Region (op_renamed σ) (region_renamed σ) r) ∙ out-roll-Region _

-- ---- what is defined is own

own_front : (names : Names) (xs ys : List ValueNo) → AreOwn names (xs ++ ys) → AreOwn names xs
own_front names [] ys h = tt
own_front names (x ∷ xs) ys h = (h.0, own_front names xs ys h.1)

own_rest : (names : Names) (xs ys : List ValueNo) → AreOwn names (xs ++ ys) → AreOwn names ys
own_rest names [] ys h = h
own_rest names (x ∷ xs) ys h = own_rest names xs ys h.1

own_names : (names : Names) (params : Seen) → AreOwn names (names_of params) → AreOwnParams names params
own_names names [] h = tt
own_names names (p ∷ params) h = (h.0, own_names names params h.1)

pub values_at : (o : Op) → values_in o ≡ results_of o ++ joined (map values_inside (regions_of o))
values_at o = fold_out-Op (List ValueNo) (List ValueNo) op_values region_values o

pub values_under : (r : Region) → values_inside r ≡ names_of (params_of r) ++ joined (map values_in (ops_of r))
values_under r = fold_out-Region (List ValueNo) (List ValueNo) op_values region_values r

module _ (funcs : List Func) (level : Level) (names : Names) where
  abbrev OfOp : Op → Type 0
  OfOp o = (seen : Seen) → AreOwn names (values_in o) → Extends funcs level names (Regions (regions_of o)) (Regions (map (renamed_region names.renamed) (regions_of o))) seen

  abbrev OfRegion : Region → Type 0
  OfRegion r = (seen : Seen) → AreOwn names (values_inside r) → Extends funcs level names (Ops (ops_of r)) (Ops (renamed_ops names.renamed (ops_of r))) seen

  held : (regions : List ((r : Region) × OfRegion r)) (seen : Seen) → AreOwn names (joined (map values_inside (map (λ e. e.0) regions))) →
      Extends funcs level names (Regions (map (λ e. e.0) regions)) (Regions (map (renamed_region names.renamed) (map (λ e. e.0) regions))) seen
  held [] seen own = no_regions seen
  held (e ∷ regions) seen own =
      let mine : AreOwn names (values_inside e.0) = own_front names (values_inside e.0) (joined (map values_inside (map (λ e. e.0) regions))) own in
      let split : AreOwn names (names_of (params_of e.0) ++ joined (map values_in (ops_of e.0))) = subst (AreOwn names) (values_under e.0) mine in
      region e.0 (renamed_region names.renamed e.0) (map (λ e. e.0) regions) (map (renamed_region names.renamed) (map (λ e. e.0) regions)) seen
      (ap (λ l. l.params) (region_parts names.renamed e.0))
      (own_names names (params_of e.0) (own_front names (names_of (params_of e.0)) (joined (map values_in (ops_of e.0))) split))
      (subst (λ (os : List Op). Extends funcs level names (Ops (ops_of e.0)) (Ops os) (seen ++ params_of (renamed_region names.renamed e.0))) (sym (ap (λ l. l.ops) (region_parts names.renamed e.0)))
      (e.1 (seen ++ params_of (renamed_region names.renamed e.0)) mine))
      (held regions seen (own_rest names (values_inside e.0) (joined (map values_inside (map (λ e. e.0) regions))) own))

  along : (ops : List ((o : Op) × OfOp o)) (seen : Seen) → AreOwn names (joined (map values_in (map (λ e. e.0) ops))) →
      Extends funcs level names (Ops (map (λ e. e.0) ops)) (Ops (renamed_ops names.renamed (map (λ e. e.0) ops))) seen
  along [] seen own = no_ops seen
  along (e ∷ ops) seen own =
      let mine : AreOwn names (values_in e.0) = own_front names (values_in e.0) (joined (map values_in (map (λ e. e.0) ops))) own in
      let split : AreOwn names (results_of e.0 ++ joined (map values_inside (regions_of e.0))) = subst (AreOwn names) (values_at e.0) mine in
      let o : Op = renamed_op names.renamed e.0 in
      let p : out-Op o ≡ renamed_node names.renamed (out-Op e.0) = parts names.renamed e.0 in
      keeps e.0 o (map (λ e. e.0) ops) (renamed_ops names.renamed (map (λ e. e.0) ops)) seen
      (record {
        kind = ap (λ (n : Node). n.kind) p;
        operands = ap (λ (n : Node). n.operands) p;
        groups = ap (λ (n : Node). n.groups) p;
        written = ap (λ (n : Node). n.written) p;
        results = ap (λ (n : Node). n.results) p;
        types = ap (λ (n : Node). n.types) p;
        attr = ap (λ (n : Node). n.attr) p;
      })
      (own_front names (results_of e.0) (joined (map values_inside (regions_of e.0))) split)
      (subst (λ (rs : List Region). Extends funcs level names (Regions (regions_of e.0)) (Regions rs) seen) (sym (ap (λ (n : Node). n.regions) p)) (e.1 seen mine))
      (along ops (seen ++ defined (results_of o) (types_of o)) (own_rest names (values_in e.0) (joined (map values_in (map (λ e. e.0) ops))) own))

  pub renamed_extends : (r : Region) → OfRegion r
  renamed_extends = ind-Region OfOp OfRegion
      (λ x y is. λ seen own.
      let e : regions_of (roll-Op x) ≡ map (λ e. e.0) y.regions = ap (λ layer. layer.regions) (out-roll-Op x) ∙ sym (ap (λ layer. layer.regions) is) in
      let split : AreOwn names (results_of (roll-Op x) ++ joined (map values_inside (regions_of (roll-Op x)))) = subst (AreOwn names) (values_at (roll-Op x)) own in
      let inner : AreOwn names (joined (map values_inside (regions_of (roll-Op x)))) = own_rest names (results_of (roll-Op x)) (joined (map values_inside (regions_of (roll-Op x)))) split in
      subst (λ (rs : List Region). Extends funcs level names (Regions rs) (Regions (map (renamed_region names.renamed) rs)) seen) (sym e)
      (held y.regions seen (subst (λ (rs : List Region). AreOwn names (joined (map values_inside rs))) e inner)))
      (λ x y is. λ seen own.
      let e : ops_of (roll-Region x) ≡ map (λ e. e.0) y.ops = ap (λ layer. layer.ops) (out-roll-Region x) ∙ sym (ap (λ layer. layer.ops) is) in
      let split : AreOwn names (names_of (params_of (roll-Region x)) ++ joined (map values_in (ops_of (roll-Region x)))) = subst (AreOwn names) (values_under (roll-Region x)) own in
      let inner : AreOwn names (joined (map values_in (ops_of (roll-Region x)))) = own_rest names (names_of (params_of (roll-Region x))) (joined (map values_in (ops_of (roll-Region x)))) split in
      subst (λ (os : List Op). Extends funcs level names (Ops os) (Ops (renamed_ops names.renamed os)) seen) (sym e)
      (along y.ops seen (subst (λ (os : List Op). AreOwn names (joined (map values_in os))) e inner)))

  pub func_renamed : (f : Func) → AreOwn names (values_of f) → IsExtended funcs level names f (renamed_func names.renamed f)
  func_renamed f own =
      let inner : AreOwn names (values_inside f.body) = own_rest names (names_of f.params) (values_inside f.body) own in
      let split : AreOwn names (names_of (params_of f.body) ++ joined (map values_in (ops_of f.body))) = subst (AreOwn names) (values_under f.body) inner in
      record {
        name = refl;
        results = refl;
        params = refl;
        own = own_names names f.params (own_front names (names_of f.params) (values_inside f.body) own);
        body_params = ap (λ l. l.params) (region_parts names.renamed f.body);
        body_own = own_names names (params_of f.body) (own_front names (names_of (params_of f.body)) (joined (map values_in (ops_of f.body))) split);
        body = subst (λ (os : List Op). Extends funcs level names (Ops (ops_of f.body)) (Ops os) (renamed_params names.renamed f.params ++ params_of (renamed_region names.renamed f.body)))
            (sym (ap (λ l. l.ops) (region_parts names.renamed f.body))) (renamed_extends f.body (renamed_params names.renamed f.params ++ params_of (renamed_region names.renamed f.body)) inner);
      }

-- ---- a function's own values, under their places

abbrev pub placed_names : List ℕ → Names
placed_names xs = record { is_own = λ v. is_some (first_place xs v); renamed = place_in xs }

-- the number at its first place
pub place_holds : (xs : List ℕ) (v p : ℕ) → first_place xs v ≡ Some p → slice_get xs p ≡ Some v
place_holds [] v p is = cc
place_holds (x ∷ xs) v p is = step (x == v) refl p is (place_holds xs v)
  where
    deeper : (o : Option ℕ) (p : ℕ) → option_map suc o ≡ Some p → ((q : ℕ) → o ≡ Some q → slice_get xs q ≡ Some v) → slice_get (x ∷ xs) p ≡ Some v
    deeper None p is again = cc
    deeper (Some q) zero is again = cc
    deeper (Some q) (suc p) is again = let same : q ≡ p = cc in again p (ap (λ k. Some k) same)

    step : (b : Bool) → (x == v) ≡ b → (p : ℕ) → cond b (Some 0) (option_map suc (first_place xs v)) ≡ Some p → ((q : ℕ) → first_place xs v ≡ Some q → slice_get xs q ≡ Some v) → slice_get (x ∷ xs) p ≡ Some v
    step true e zero is again = ap (λ k. Some k) (equal x v e)
    step true e (suc p) is again = cc
    step false e p is again = deeper (first_place xs v) p is again

pub placed_distinct : (xs : List ℕ) → IsDistinct (placed_names xs)
placed_distinct xs v w own_v own_w e = step (first_place xs v) (first_place xs w) refl refl own_v own_w e
  where
    step : (a b : Option ℕ) → first_place xs v ≡ a → first_place xs w ≡ b → is_some a ≡ true → is_some b ≡ true → unwrap_or a 4294967295 ≡ unwrap_or b 4294967295 → v ≡ w
    step None b is_v is_w h g e = cc
    step (Some p) None is_v is_w h g e = cc
    step (Some p) (Some q) is_v is_w h g e =
        let at_v : slice_get xs p ≡ Some v = place_holds xs v p is_v in
        let at_w : slice_get xs q ≡ Some w = place_holds xs w q is_w in
        let same : p ≡ q = e in
        cc

-- each of these numbers has a first place
there : (xs : List ℕ) (v : ℕ) (x : ℕ) → is_some (first_place xs v) ≡ true → is_some (first_place (x ∷ xs) v) ≡ true
there xs v x h = step (x == v) (first_place xs v) h
  where
    step : (b : Bool) (o : Option ℕ) → is_some o ≡ true → is_some (cond b (Some 0) (option_map suc o)) ≡ true
    step true o h = refl
    step false None h = h
    step false (Some p) h = refl

all_own : (xs : List ℕ) (vs : List ValueNo) → ((v : ℕ) → is_some (first_place (as_numbers vs) v) ≡ true → is_some (first_place xs v) ≡ true) → AreOwn (placed_names xs) vs
all_own xs [] h = tt
all_own xs (v ∷ vs) h = (
  h v.0 (ap (λ b. is_some (cond b (Some 0) (option_map suc (first_place (as_numbers vs) v.0)))) (is_equal v.0 v.0 refl)),
  all_own xs vs (λ w is. h w (there (as_numbers vs) w v.0 is)),
)

pub numbered_func : (funcs : List Func) (level : Level) (f : Func) → IsExtended funcs level (placed_names (defined_in f)) f (numbered_values f)
numbered_func funcs level f = func_renamed funcs level (placed_names (defined_in f)) f (all_own (defined_in f) (values_of f) (λ v is. is))

-- the names of the function at a place
abbrev pub values_at_place : Option Func → List ℕ
values_at_place None = []
values_at_place (Some f) = defined_in f

abbrev pub names_at : List Func → ℕ → Names
names_at funcs k = placed_names (values_at_place (slice_get funcs k))

count_mapped : {X Y : Type 0} (h : X → Y) (xs : List X) → length (map h xs) ≡ length xs
count_mapped h [] = refl
count_mapped h (x ∷ xs) = ap suc (count_mapped h xs)

mapped : {X Y : Type 0} (h : X → Y) (xs : List X) (k : ℕ) (x : X) (y : Y) → slice_get xs k ≡ Some x → slice_get (map h xs) k ≡ Some y → h x ≡ y
mapped h [] k x y p q = cc
mapped h (z ∷ xs) zero x y p q = let e : z ≡ x = cc in let f : h z ≡ y = cc in ap h (sym e) ∙ f
mapped h (z ∷ xs) (suc k) x y p q = mapped h xs k x y p q

pub numbered_extends : (level : Level) (program : Module) → AreExtended level (names_at program.funcs) program.funcs (value_numbered program).funcs
numbered_extends level program = record {
  count = count_mapped numbered_values program.funcs;
  distinct = λ k. placed_distinct (values_at_place (slice_get program.funcs k));
  each = λ k f g p q.
      let same : numbered_values f ≡ g = mapped numbered_values program.funcs k f g p q in
      subst (λ (names : Names). IsExtended (value_numbered program).funcs level names f g) (named k f p)
      (subst (λ (h : Func). IsExtended (value_numbered program).funcs level (placed_names (defined_in f)) f h) same (numbered_func (value_numbered program).funcs level f));
}
  where
    named : (k : ℕ) (f : Func) → slice_get program.funcs k ≡ Some f → placed_names (defined_in f) ≡ names_at program.funcs k
    named k f at = sym (ap (λ (o : Option Func). placed_names (values_at_place o)) at)

pub numbered_is_sound : NumberedIsSound
numbered_is_sound program sound = extended_is_sound Low (names_at program.funcs) program.funcs (value_numbered program).funcs (numbered_extends Low program) sound
