-- Insertions grow by sound operations.
use Rattle.std.proofs.Common.{◌≡◌, ◌≤◌, ◌<◌, ℕ, ◌+◌, ◌==◌, ◌&&◌, not, cond, Bool, true, false, IsTrue, if◌then◌else◌, List, [], ◌∷◌, ◌++◌, map, length, Option, Some, None, refl, sym, ap, ◌∙◌, subst, arith, append_assoc}
use Rattle.std.specs.Prelude.{nat_le, nat_lt}
use Rattle.std.proofs.lemmas.Bool.Decides.{nat_tests}
use Rattle.int_ops.specs.declared.Pred.{Pred}
use Rattle.int_ops.specs.declared.Width.TheVariants.{W1}
use Rattle.op_table.specs.declared.kind.OpKind.{OpKind}
use Rattle.op_table.specs.declared.kind.OpKind.TheVariants.{ArithCmpi, ArithConstant, CfAssert, MemrefDim}
use Rattle.op_table.specs.declared.form.Form.{Form}
use Rattle.op_table.specs.declared.form.Form.TheVariants.{Binary, Compare, Constant, Assert, Dim}
use Rattle.op_table.specs.declared.rows.Count.TheVariants.{Exactly}
use Rattle.op_table.specs.declared.rows.Level.{Level}
use Rattle.op_table.specs.declared.rows.Level.TheVariants.{Source, Checked, Split, Low}
use Rattle.op_table.specs.Rows.{row_of, place_of as level_place, stands_at, is_other}
use Rattle.ir_forms.specs.declared.ops.Attr.{Attr}
use Rattle.ir_forms.specs.declared.ops.Attr.TheVariants as attr
use Rattle.ir_forms.specs.declared.ops.Op.{Op}
use Rattle.ir_forms.specs.declared.ops.Region.{Region}
use Rattle.ir_forms.specs.declared.ops.Func.{Func}
use Rattle.ir_forms.specs.declared.ops.ValueNo.{ValueNo}
use Rattle.ir_forms.specs.declared.types.MemTy.{MemTy}
use Rattle.ir_forms.specs.declared.types.NumTy.{NumTy}
use Rattle.ir_forms.specs.declared.types.Ty.{Ty}
use Rattle.ir_forms.specs.declared.types.Ty.TheVariants as ty
use Rattle.ir_forms.specs.Ops.{kind_of, written_of, results_of, attr_of, regions_of}
use Rattle.ir_verify.specs.Breaks.{is_call, is_await, miscounts, tries_results}
use Rattle.ir_verify.specs.Calls.{call_of, call_to, callee_place, calls_held}
use Rattle.ir_verify.specs.Forms.{form, is_ending}
use Rattle.ir_verify.specs.Levels.{kinds_held}
use Rattle.ir_verify.specs.Places.{Around, Place, Seen, place_of, types_of, defined, nest_in, places_held}
use Rattle.ir_verify.specs.Rules.{groups_fit, written_asked, first_type}
use Rattle.ir_verify.specs.Scopes.{lookup}
use Rattle.ir_verify.specs.Types.{same_type, is_number, has_async_cells, literal_fits}
use Rattle.ir_verify.proofs.PlaceLemmas.{places_at-out}
use Rattle.ir_verify.proofs.KindLemmas.{kinds_at-out}
use Rattle.made_ops.specs.Made.{type_of, placed, found}
use Rattle.made_ops.specs.declared.insertion.Insertion.{Insertion}
use Rattle.made_ops.specs.declared.insertion.Known.{Known}
use Rattle.sound_laws.specs.Extended.{IsFine, AreFine, StandAt, IsMade, AreNew}
use Rattle.source_meaning.specs.Parts.{joined}
use Rattle.value_numbers.specs.Numbers.{values_in, values_inside}
use Rattle.sound_laws.specs.Made.{below, behind, Runs, values_along, AreVisible, AreMade, IsGood, Grows, Gives}
use Rattle.sound_laws.proofs.Sight.{equal, is_equal, lookup_append, or_else, or_none}
use Rattle.sound_laws.proofs.Sound.{calls_out}
use Rattle.sound_laws.proofs.Numbered.{values_at}
use Rattle.sound_laws.proofs.Plain.{is_plain, Serve, AreWrittenSo, AreResults, Is, form_is, asked_are, types_are, counts_are, plain_fine, same_number_type, is_number_type, plain_type}

-- ---- what is visible behind operations

pub behind_append : (seen : Seen) (os ps : List Op) → behind seen (os ++ ps) ≡ behind (behind seen os) ps
behind_append seen [] ps = refl
behind_append seen (o ∷ os) ps = behind_append (seen ++ defined (results_of o) (types_of o)) os ps

pub stays_visible : (seen d : Seen) (v : ℕ) (t : Ty) → lookup seen v ≡ Some t → lookup (seen ++ d) v ≡ Some t
stays_visible seen d v t is = lookup_append seen d v ∙ ap (λ o. or_else o (lookup d v)) is

pub behind_visible : (seen : Seen) (os : List Op) (v : ℕ) (t : Ty) → lookup seen v ≡ Some t → lookup (behind seen os) v ≡ Some t
behind_visible seen [] v t is = is
behind_visible seen (o ∷ os) v t is = behind_visible (seen ++ defined (results_of o) (types_of o)) os v t (stays_visible seen (defined (results_of o) (types_of o)) v t is)

pub constants_visible : (seen more : Seen) (known : List Known) → ((v : ℕ) (t : Ty) → lookup seen v ≡ Some t → lookup more v ≡ Some t) → AreVisible seen known → AreVisible more known
constants_visible seen more [] keeps h = tt
constants_visible seen more (k ∷ known) keeps h = (keeps k.value.0 (type_of k.ty) h.0, constants_visible seen more known keeps h.1)

pub known_behind : (seen : Seen) (known : List Known) (k : Known) → AreVisible seen known → lookup seen k.value.0 ≡ Some (type_of k.ty) → AreVisible seen (known ++ k ∷ [])
known_behind seen [] k h is = (is, tt)
known_behind seen (x ∷ known) k h is = (h.0, known_behind seen known k h.1 is)

-- ---- numbers that run on

pub nothing_more : {X : Type 0} (xs : List X) → xs ++ [] ≡ xs
nothing_more [] = refl
nothing_more (x ∷ xs) = ap (λ rest. x ∷ rest) (nothing_more xs)

pub runs_on : (a b c : ℕ) (xs ys : List ValueNo) → Runs a b xs → Runs b c ys → Runs a c (xs ++ ys)
runs_on a b c [] ys f g = subst (λ n. Runs n c ys) (sym f) g
runs_on a b c (x ∷ xs) ys f g = (f.0, runs_on (a + 1) b c xs ys f.1 g)

pub values_both : (os ps : List Op) → values_along (os ++ ps) ≡ values_along os ++ values_along ps
values_both [] ps = refl
values_both (o ∷ os) ps = ap (λ (rest : List ValueNo). values_in o ++ rest) (values_both os ps) ∙ sym (append_assoc (values_in o) (values_along os) (values_along ps))

-- an operation without regions defines its results
pub plain_values : (o : Op) → regions_of o ≡ [] → values_in o ≡ results_of o
plain_values o none = values_at o ∙ ap (λ (rs : List Region). results_of o ++ joined (map values_inside rs)) none ∙ nothing_more (results_of o)

module _ (funcs : List Func) (level : Level) (first : ℕ) where
  pub made_behind : (seen : Seen) (os : List Op) (o : Op) → AreMade funcs level first seen os → IsMade funcs level (behind seen os) o → AreNew (below first) (results_of o) → AreMade funcs level first seen (os ++ o ∷ [])
  made_behind seen [] o h is new = (is, new, tt)
  made_behind seen (x ∷ os) o h is new = (h.0, h.1, made_behind (seen ++ defined (results_of x) (types_of x)) os o h.2 is new)

  pub grows_self : (seen : Seen) (i : Insertion) → IsGood funcs level first seen i → Grows funcs level first seen i i
  grows_self seen i good = record { good = good; added = []; are = sym (nothing_more i.ops); numbers = refl; keeps = λ v t is. is; free = omega arith }

  pub grows_on : (seen : Seen) (i j k : Insertion) → Grows funcs level first seen i j → Grows funcs level first seen j k → Grows funcs level first seen i k
  grows_on seen i j k f g = record {
    good = g.good;
    added = f.added ++ g.added;
    are = g.are ∙ ap (λ (os : List Op). os ++ g.added) f.are ∙ append_assoc i.ops f.added g.added;
    numbers = subst (Runs i.free k.free) (sym (values_both f.added g.added)) (runs_on i.free j.free k.free (values_along f.added) (values_along g.added) f.numbers g.numbers);
    keeps = λ v t is. g.keeps v t (f.keeps v t is);
    free = omega (arith, f.free, g.free);
  }

  -- ---- one more operation

  new_number : (v w : ℕ) → first ≤ w → nat_lt v first ≡ true → v ≡ w → ⊥
  new_number v w above is e = grind (arith, nat_tests)

  -- without a result
  pub acts_so : (seen : Seen) (i : Insertion) (o : Op) → IsGood funcs level first seen i → IsMade funcs level (behind seen i.ops) o → results_of o ≡ [] → regions_of o ≡ [] → Grows funcs level first seen i (placed o i)
  acts_so seen i o good is none plain =
      let now : behind seen (i.ops ++ o ∷ []) ≡ behind seen i.ops ++ defined (results_of o) (types_of o) = behind_append seen i.ops (o ∷ []) in
      let back : (v : ℕ) → lookup (behind seen (i.ops ++ o ∷ [])) v ≡ lookup (behind seen i.ops) v = λ v.
      ap (λ (s : Seen). lookup s v) now ∙ lookup_append (behind seen i.ops) (defined (results_of o) (types_of o)) v
      ∙ ap (λ (vs : List ValueNo). or_else (lookup (behind seen i.ops) v) (lookup (defined vs (types_of o)) v)) none
      ∙ or_none (lookup (behind seen i.ops) v) in
      record {
        good = record {
          made = made_behind seen i.ops o good.made is (subst (AreNew (below first)) (sym none) tt);
          bounded = λ v t found. good.bounded v t (sym (back v) ∙ found);
          above = good.above;
          known = constants_visible (behind seen i.ops) (behind seen (i.ops ++ o ∷ [])) i.known (λ v t found. back v ∙ found) good.known;
        };
        added = o ∷ [];
        are = refl;
        numbers = subst (Runs i.free i.free) (sym (nothing_more (values_in o) ∙ plain_values o plain ∙ none)) refl;
        keeps = λ v t found. back v ∙ found;
        free = omega arith;
      }

  -- what is known behind an operation with a new result
  pub record Added (seen : Seen) (i j : Insertion) (v : ValueNo) (t : Ty) : Type 0 where
    pub good : IsGood funcs level first seen j
    pub keeps : (w : ℕ) (u : Ty) → lookup (behind seen i.ops) w ≡ Some u → lookup (behind seen j.ops) w ≡ Some u
    pub has : lookup (behind seen j.ops) v.0 ≡ Some t

  -- with a new result
  pub adds_so : (seen : Seen) (i : Insertion) (o : Op) (v : ValueNo) (t : Ty) (free : ℕ) → IsGood funcs level first seen i → IsMade funcs level (behind seen i.ops) o → results_of o ≡ v ∷ [] → types_of o ≡ t ∷ [] →
      first ≤ v.0 → v.0 < free → i.free ≤ free → lookup (behind seen i.ops) v.0 ≡ None → Added seen i (record (placed o i) { free = free }) v t
  adds_so seen i o v t free good is results types above under later fresh = record {
    good = record {
      made = made_behind seen i.ops o good.made is (subst (AreNew (below first)) (sym results) ((λ w own e. new_number w v.0 above own e), tt));
      bounded = λ w u found. bounded w u (lookup (behind seen i.ops) w) refl (sym (ahead w) ∙ found);
      above = omega (arith, good.above, later);
      known = constants_visible (behind seen i.ops) (behind seen (i.ops ++ o ∷ [])) i.known keeps good.known;
    };
    keeps = keeps;
    has = ahead v.0 ∙ ap (λ (x : Option Ty). or_else x (cond (v.0 == v.0) (Some t) None)) fresh ∙ ap (λ b. cond b (Some t) None) (is_equal v.0 v.0 refl);
  }
    where
      ahead : (w : ℕ) → lookup (behind seen (i.ops ++ o ∷ [])) w ≡ or_else (lookup (behind seen i.ops) w) (cond (v.0 == w) (Some t) None)
      ahead w =
          ap (λ (s : Seen). lookup s w) (behind_append seen i.ops (o ∷ []))
          ∙ lookup_append (behind seen i.ops) (defined (results_of o) (types_of o)) w
          ∙ ap (λ (vs : List ValueNo). or_else (lookup (behind seen i.ops) w) (lookup (defined vs (types_of o)) w)) results
          ∙ ap (λ (ts : List Ty). or_else (lookup (behind seen i.ops) w) (lookup (defined (v ∷ []) ts) w)) types

      keeps : (w : ℕ) (u : Ty) → lookup (behind seen i.ops) w ≡ Some u → lookup (behind seen (i.ops ++ o ∷ [])) w ≡ Some u
      keeps w u found = ahead w ∙ ap (λ (x : Option Ty). or_else x (cond (v.0 == w) (Some t) None)) found

      one : (w : ℕ) (u : Ty) (b : Bool) → (v.0 == w) ≡ b → cond b (Some t) None ≡ Some u → w < free
      one w u true e found = let same : v.0 ≡ w = equal v.0 w e in omega (arith, same, under)
      one w u false e found = cc

      bounded : (w : ℕ) (u : Ty) (x : Option Ty) → lookup (behind seen i.ops) w ≡ x → or_else x (cond (v.0 == w) (Some t) None) ≡ Some u → w < free
      bounded w u (Some s) is found = let low : w < i.free = good.bounded w s is in omega (arith, low, later)
      bounded w u None is found = one w u (v.0 == w) refl found

  pub gives_so : (seen : Seen) (i : Insertion) (o : Op) (v : ValueNo) (t : Ty) (free : ℕ) → IsGood funcs level first seen i → IsMade funcs level (behind seen i.ops) o → results_of o ≡ v ∷ [] → types_of o ≡ t ∷ [] →
      first ≤ v.0 → v.0 < free → i.free ≤ free → lookup (behind seen i.ops) v.0 ≡ None → Runs i.free free (values_in o) → Gives funcs level first seen t i (v, record (placed o i) { free = free })
  gives_so seen i o v t free good is results types above under later fresh run =
      let a : Added seen i (record (placed o i) { free = free }) v t = adds_so seen i o v t free good is results types above under later fresh in
      record {
        grows = record { good = a.good; added = o ∷ []; are = refl; numbers = subst (Runs i.free free) (sym (nothing_more (values_in o))) run; keeps = a.keeps; free = later };
        has = a.has;
      }

  -- the next value isn't there yet
  pub next_fresh : (seen : Seen) (i : Insertion) → IsGood funcs level first seen i → lookup (behind seen i.ops) i.free ≡ None
  next_fresh seen i good = step (lookup (behind seen i.ops) i.free) refl
    where
      step : (o : Option Ty) → lookup (behind seen i.ops) i.free ≡ o → o ≡ None
      step None is = refl
      step (Some t) is = let low : i.free < i.free = good.bounded i.free t is in absurd (omega (arith, low))

-- ---- operations without regions

-- the table has this row for a kind of the source level without regions
pub record HasRow (k : OpKind) (f : Form) (n l : ℕ) : Type 0 where
  pub form : (row_of k).form ≡ f
  pub operands : (row_of k).operands ≡ Exactly n
  pub results : (row_of k).results ≡ Exactly l
  pub regions : (row_of k).regions ≡ 0
  pub level : (row_of k).level ≡ Source

pub source_stands : (k : OpKind) (level : Level) → (row_of k).level ≡ Source → IsTrue (stands_at k level)
source_stands k level e = subst (λ l. IsTrue (nat_le (level_place l) (level_place level))) (sym e) (low level)
  where
    low : (level : Level) → IsTrue (nat_le 0 (level_place level))
    low Source = refl
    low Checked = refl
    low Split = refl
    low Low = refl

not_call : (f : Form) → is_plain f ≡ true → is_call f ≡ false
not_call f plain = third (is_other f) (is_ending f) (is_call f) (not (is_await f)) plain
  where
    third : (a b c d : Bool) → (not a && (not b && (not c && d))) ≡ true → c ≡ false
    third true b c d h = cc
    third false true c d h = cc
    third false false true d h = cc
    third false false false d h = refl

module _ (funcs : List Func) (level : Level) (seen : Seen) (o : Op) (k : OpKind) (vs : List ValueNo) (ws : List Ty) (rs : List ValueNo) (ts : List Ty) (a : Attr) (is : Is o k vs ws rs ts a []) (f : Form) where
  abbrev at_place : Around → Place
  at_place around = place_of funcs around false o

  pub plain_made : (n l m : ℕ) → HasRow k f n l → is_plain f ≡ true → ((p : Place) → written_asked f p ≡ m) → groups_fit f o ≡ true → ((c : Option Func) → tries_results f c ≡ false) →
      length vs ≡ n → length ws ≡ m → length ts ≡ l → length rs ≡ length ts →
      ((around : Around) → Serve (at_place around) f seen 0 vs) → ((around : Around) → AreWrittenSo (at_place around) f 0 ws) → ((around : Around) → AreResults (at_place around) f 0 ts) → IsMade funcs level seen o
  plain_made n l m row plain asked groups tries v w t r serve written results = record {
    fine = λ around.
        let p : Place = at_place around in
        let form_so : form o ≡ f = form_is p k vs ws rs ts a [] is ∙ row.form in
        let counts : miscounts p ≡ false =
        counts_are p k vs ws rs ts a [] is n m l (asked_are p k vs ws rs ts a [] is n row.operands) (ap (λ g. written_asked g p) form_so ∙ asked p) (types_are p k vs ws rs ts a [] is l row.results)
        (ap (λ g. groups_fit g o) form_so ∙ groups) v w t r (sym row.regions) in
        let one : IsFine (record { seen = seen; place = p }) = plain_fine seen p k vs ws rs ts a [] is f form_so plain counts (tries p.callee) (serve around) (written around) (results around) (λ kind. refl) in
        subst AreFine (sym (places_at-out funcs o around seen false)) (one, subst (λ (held : List Region). AreFine (places_held funcs held around o 0 seen)) (sym is.regions) tt);
    calls_nothing = λ nest.
        calls_out funcs o nest
        ∙ ap (λ (held : List Region). call_of funcs (kind_of o) (attr_of o) nest ++ calls_held funcs held (nest_in (kind_of o) nest)) is.regions
        ∙ ap (λ x. call_of funcs x (attr_of o) nest ++ []) is.kind
        ∙ ap (λ b. (if b then call_to (callee_place funcs (attr_of o)) nest else []) ++ []) (ap is_call row.form ∙ not_call f plain);
    stands = subst (StandAt level) (sym (kinds_at-out o))
        (subst (λ x. IsTrue (stands_at x level)) (sym is.kind) (source_stands k level row.level), subst (λ (held : List Region). StandAt level (kinds_held held)) (sym is.regions) tt);
  }

module _ (funcs : List Func) (level : Level) (seen : Seen) where
  -- a comparison of two numbers of a type
  pub compared_made : (o : Op) (p : Pred) (t : NumTy) (x y v : ValueNo) → Is o ArithCmpi (x ∷ y ∷ []) (type_of t ∷ type_of t ∷ []) (v ∷ []) (ty.Int W1 ∷ []) (attr.Pred p) [] →
      lookup seen x.0 ≡ Some (type_of t) → lookup seen y.0 ≡ Some (type_of t) → IsMade funcs level seen o
  compared_made o p t x y v is hx hy =
      let same : same_type (first_type (written_of o)) (type_of t) ≡ true = ap (λ (ws : List Ty). same_type (first_type ws) (type_of t)) is.written ∙ same_number_type t in
      let both : (is_number (type_of t) && same_type (first_type (written_of o)) (type_of t)) ≡ true = rw (is_number_type t) same in
      plain_made funcs level seen o ArithCmpi (x ∷ y ∷ []) (type_of t ∷ type_of t ∷ []) (v ∷ []) (ty.Int W1 ∷ []) (attr.Pred p) is Compare 2 1 2
      (record { form = refl; operands = refl; results = refl; regions = refl; level = refl }) refl (λ p. refl) refl (λ c. refl) refl refl refl refl
      (λ around. (record { type = type_of t; visible = hx; fits = same }, (record { type = type_of t; visible = hy; fits = same }, tt)))
      (λ around. (both, plain_type t, (both, plain_type t, tt)))
      (λ around. (refl, refl, tt))

  -- an operation on two numbers of a type
  pub binary_made : (o : Op) (k : OpKind) (t : NumTy) (x y v : ValueNo) → HasRow k Binary 2 1 → Is o k (x ∷ y ∷ []) (type_of t ∷ type_of t ∷ []) (v ∷ []) (type_of t ∷ []) attr.None [] →
      lookup seen x.0 ≡ Some (type_of t) → lookup seen y.0 ≡ Some (type_of t) → IsMade funcs level seen o
  binary_made o k t x y v row is hx hy =
      let same : same_type (first_type (written_of o)) (type_of t) ≡ true = ap (λ (ws : List Ty). same_type (first_type ws) (type_of t)) is.written ∙ same_number_type t in
      let both : (is_number (type_of t) && same_type (first_type (written_of o)) (type_of t)) ≡ true = rw (is_number_type t) same in
      plain_made funcs level seen o k (x ∷ y ∷ []) (type_of t ∷ type_of t ∷ []) (v ∷ []) (type_of t ∷ []) attr.None is Binary 2 1 2
      row refl (λ p. refl) refl (λ c. refl) refl refl refl refl
      (λ around. (record { type = type_of t; visible = hx; fits = same }, (record { type = type_of t; visible = hy; fits = same }, tt)))
      (λ around. (both, plain_type t, (both, plain_type t, tt)))
      (λ around. (same, plain_type t, tt))

  -- a constant
  pub constant_made : (o : Op) (t : NumTy) (a : Attr) (v : ValueNo) → Is o ArithConstant [] [] (v ∷ []) (type_of t ∷ []) a [] → literal_fits a (type_of t) ≡ true → IsMade funcs level seen o
  constant_made o t a v is fits =
      plain_made funcs level seen o ArithConstant [] [] (v ∷ []) (type_of t ∷ []) a is Constant 0 1 0
      (record { form = refl; operands = refl; results = refl; regions = refl; level = refl }) refl (λ p. refl) refl (λ c. refl) refl refl refl refl
      (λ around. tt) (λ around. tt)
      (λ around. (ap (λ b. literal_fits b (type_of t)) is.attr ∙ fits, plain_type t, tt))

  -- an assertion
  pub asserted_made : (o : Op) (a : Attr) (x : ValueNo) → Is o CfAssert (x ∷ []) [] [] [] a [] → lookup seen x.0 ≡ Some (ty.Int W1) → IsMade funcs level seen o
  asserted_made o a x is hx =
      plain_made funcs level seen o CfAssert (x ∷ []) [] [] [] a is Assert 1 0 0
      (record { form = refl; operands = refl; results = refl; regions = refl; level = refl }) refl (λ p. refl) refl (λ c. refl) refl refl refl refl
      (λ around. (record { type = ty.Int W1; visible = hx; fits = refl }, tt)) (λ around. tt) (λ around. tt)

  -- the size of a buffer's dimension
  pub dimension_made : (o : Op) (m : MemTy) (u : Ty) (x y v : ValueNo) → Is o MemrefDim (x ∷ y ∷ []) (ty.Memref m ∷ []) (v ∷ []) (ty.Index ∷ []) attr.None [] →
      lookup seen x.0 ≡ Some u → same_type (ty.Memref m) u ≡ true → lookup seen y.0 ≡ Some ty.Index → has_async_cells (ty.Memref m) ≡ false → IsMade funcs level seen o
  dimension_made o m u x y v is hx fits hy cells =
      plain_made funcs level seen o MemrefDim (x ∷ y ∷ []) (ty.Memref m ∷ []) (v ∷ []) (ty.Index ∷ []) attr.None is Dim 2 1 1
      (record { form = refl; operands = refl; results = refl; regions = refl; level = refl }) refl (λ p. refl) refl (λ c. refl) refl refl refl refl
      (λ around. (record { type = u; visible = hx; fits = ap (λ (ws : List Ty). same_type (first_type ws) u) is.written ∙ fits }, (record { type = ty.Index; visible = hy; fits = refl }, tt)))
      (λ around. (refl, cells, tt))
      (λ around. (refl, refl, tt))
