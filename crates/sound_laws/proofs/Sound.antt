-- Inserted operations keep a module sound.
use Rattle.op_table.specs.declared.kind.OpKind.{OpKind}
use Rattle.std.proofs.Common.{◌==◌, ◌&&◌, if◌then◌else◌, ◌≡◌, ℕ, zero, suc, ◌+◌, ◌||◌, not, cond, Bool, true, false, List, [], ◌∷◌, ◌++◌, map, length, Some, None, slice_get, refl, sym, ap, ◌∙◌, subst, arith}
use Rattle.std.specs.Option.{option_map}
use Rattle.std.specs.Str.{bytes_eq}
use Rattle.op_table.specs.declared.rows.Level.{Level}
use Rattle.op_table.specs.declared.form.Form.TheVariants.{Return}
use Rattle.ir_forms.specs.declared.ops.Op.{Op}
use Rattle.ir_forms.specs.declared.ops.Region.{Region}
use Rattle.ir_forms.specs.declared.ops.Func.{Func}
use Rattle.ir_forms.specs.declared.ops.Attr.{Attr}
use Rattle.ir_forms.specs.declared.ops.Attr.TheVariants as attr
use Rattle.ir_forms.specs.declared.ops.ValueNo.{ValueNo}
use Rattle.ir_forms.specs.declared.types.Ty.{Ty}
use Rattle.ir_forms.specs.Ops.{kind_of, operands_of, written_of, results_of, attr_of, regions_of, ops_of}
use Rattle.ir_verify.specs.declared.fault.Broken.{Broken}
use Rattle.ir_verify.specs.declared.fault.VerifyKind.{VerifyKind}
use Rattle.ir_verify.specs.declared.fault.VerifyKind.TheVariants.{Undefined, Terminator, AsyncInMemref}
use Rattle.ir_verify.specs.declared.place.Nest.{Nest}
use Rattle.ir_verify.specs.declared.place.Nest.TheVariants.{InFunction}
use Rattle.ir_verify.specs.Breaks.{is_call, some_from, some_at, operand_breaks, written_breaks, result_breaks, region_breaks, own_breaks, last_form, breaks, number_of}
use Rattle.ir_verify.specs.Calls.{IsReached, call_of, call_to, callee_place, calls_at, calls_in, calls_along, calls_held, calls_of, graph_of}
use Rattle.ir_verify.specs.Forms.{form, form_of, end_asked, ends as ends_in}
use Rattle.ir_verify.specs.Names.{first_named}
use Rattle.ir_verify.specs.Places.{Around, Spot, Seen, types_of, params_of, defined, is_none_left, nest_in, within, in_body, named, called, place_of, places_at, places_in, places_along, places_held}
use Rattle.ir_verify.specs.Rules.{end_type_in, end_length_in}
use Rattle.ir_verify.specs.Verdict.{is_place, param_has_async, type_has_async, func_breaks, body_places, Tells, Breaks, at_function, at_operation, IsSound}
use Rattle.ir_verify.proofs.PlaceLemmas.{places_at-out, places_in-out}
use Rattle.ir_verify.proofs.GraphLemmas.{op_begins, region_begins}
use Rattle.source_meaning.specs.Renaming.{renamed_values, renamed_params}
use Rattle.sound_laws.specs.Extended.{IsFine, AreFine, Names, IsDistinct, AreOwn, IsKept, Part, Ops, Regions, Extends, no_ops, inserts, keeps, no_regions, region, IsExtended}
use Rattle.sound_laws.specs.Laws.{AreExtended, ExtendedIsSound}
use Rattle.sound_laws.proofs.Alike.{LikeCallee, LikeAround, AreLike, LikeOp, LikePlace, regions_count, first_count, form_like, end_type_like, end_length_like, regions_like, own_passes, written_breaks_like, result_breaks_like, renamed_length}
use Rattle.sound_laws.proofs.Sight.{Sees, sees_none, sees_own, sees_new, defined_renamed, own_defined, operands_fine}

-- ---- lists of places

pub fine_both : (xs ys : List Spot) → AreFine xs → AreFine ys → AreFine (xs ++ ys)
fine_both [] ys f g = g
fine_both (x ∷ xs) ys f g = (f.0, fine_both xs ys f.1 g)

pub fine_front : (xs ys : List Spot) → AreFine (xs ++ ys) → AreFine xs
fine_front [] ys h = tt
fine_front (x ∷ xs) ys h = (h.0, fine_front xs ys h.1)

pub fine_rest : (xs ys : List Spot) → AreFine (xs ++ ys) → AreFine ys
fine_rest [] ys h = h
fine_rest (x ∷ xs) ys h = fine_rest xs ys h.1

-- ---- one operation

some_same : {X : Type 0} (f g : ℕ → X → Bool) → ((i : ℕ) (x : X) → g i x ≡ f i x) → (k : ℕ) (xs : List X) → some_from g k xs ≡ some_from f k xs
some_same f g same k [] = refl
some_same f g same k (x ∷ xs) = ap (λ b. b || some_from g (k + 1) xs) (same k x) ∙ ap (λ b. f k x || b) (some_same f g same (k + 1) xs)

or_false : (a b : Bool) → a ≡ false → b ≡ false → (a || b) ≡ false
or_false a b e f = ap (λ x. x || b) e ∙ f

renamed_count : (σ : ℕ → ℕ) (vs : List ValueNo) → length (renamed_values σ vs) ≡ length vs
renamed_count σ [] = refl
renamed_count σ (v ∷ vs) = ap suc (renamed_count σ vs)

kept_like : (names : Names) (o p : Op) → IsKept names o p → LikeOp o p
kept_like names o p k = record {
  kind = k.kind;
  operands = ap (λ (vs : List ValueNo). length vs) k.operands ∙ renamed_count names.renamed (operands_of o);
  groups = k.groups;
  written = k.written;
  results = ap (λ (vs : List ValueNo). length vs) k.results ∙ renamed_count names.renamed (results_of o);
  types = k.types;
  attr = k.attr;
}

split : (a b c d e : Bool) → (a || (b || (c || (d || e)))) ≡ false → (a ≡ false) × (b ≡ false) × (c ≡ false) × (d ≡ false) × (e ≡ false)
split true b c d e h = cc
split false true c d e h = cc
split false false true d e h = cc
split false false false true e h = cc
split false false false false e h = (refl, refl, refl, refl, h)

joined : (a b c d e : Bool) → a ≡ false → b ≡ false → c ≡ false → d ≡ false → e ≡ false → (a || (b || (c || (d || e)))) ≡ false
joined a b c d e p q r s t = rw (p, q, r, s) t

-- what breaks nothing breaks nothing at any of its parts
pub record Parts (s : Spot) (kind : VerifyKind) : Type 0 where
  pub own : own_breaks kind s.place ≡ false
  pub operands : some_at (operand_breaks kind s.seen s.place) (operands_of s.place.op) ≡ false
  pub written : some_at (written_breaks kind s.place) (written_of s.place.op) ≡ false
  pub results : some_at (result_breaks kind s.place) (types_of s.place.op) ≡ false
  pub regions : some_at (region_breaks kind s.place.op) (regions_of s.place.op) ≡ false

pub parted : (s : Spot) (kind : VerifyKind) → breaks kind s ≡ false → Parts s kind
parted s kind h =
    let p : (own_breaks kind s.place ≡ false) × (some_at (operand_breaks kind s.seen s.place) (operands_of s.place.op) ≡ false) × (some_at (written_breaks kind s.place) (written_of s.place.op) ≡ false)
    × (some_at (result_breaks kind s.place) (types_of s.place.op) ≡ false) × (some_at (region_breaks kind s.place.op) (regions_of s.place.op) ≡ false) =
    split (own_breaks kind s.place) (some_at (operand_breaks kind s.seen s.place) (operands_of s.place.op)) (some_at (written_breaks kind s.place) (written_of s.place.op)) (some_at (result_breaks kind s.place) (types_of s.place.op)) (some_at (region_breaks kind s.place.op) (regions_of s.place.op)) h in
    record { own = p.0; operands = p.1; written = p.2; results = p.3; regions = p.4 }

pub from_parts : (s : Spot) (kind : VerifyKind) → Parts s kind → breaks kind s ≡ false
from_parts s kind p = joined (own_breaks kind s.place) (some_at (operand_breaks kind s.seen s.place) (operands_of s.place.op)) (some_at (written_breaks kind s.place) (written_of s.place.op)) (some_at (result_breaks kind s.place) (types_of s.place.op)) (some_at (region_breaks kind s.place.op) (regions_of s.place.op)) p.own p.operands p.written p.results p.regions

module _ (names : Names) (s t : Spot) (l : LikePlace s.place t.place) (operands : operands_of t.place.op ≡ renamed_values names.renamed (operands_of s.place.op))
    (regions : AreLike names.renamed (regions_of s.place.op) (regions_of t.place.op)) (sees : Sees names s.seen t.seen) (fine : IsFine s) where
  like_parts : (kind : VerifyKind) → Parts s kind → Parts s Undefined → Parts t kind
  like_parts kind p seen_there = record {
    own = own_passes s.place t.place l kind p.own;
    operands =
        ap (λ (vs : List ValueNo). some_at (operand_breaks kind t.seen t.place) vs) operands
        ∙ operands_fine names s.place t.place l s.seen t.seen sees kind 0 (operands_of s.place.op) seen_there.operands p.operands;
    written =
        ap (λ (ts : List Ty). some_at (written_breaks kind t.place) ts) l.op.written
        ∙ some_same (written_breaks kind s.place) (written_breaks kind t.place) (written_breaks_like s.place t.place l kind) 0 (written_of s.place.op)
        ∙ p.written;
    results =
        ap (λ (ts : List Ty). some_at (result_breaks kind t.place) ts) l.op.types
        ∙ some_same (result_breaks kind s.place) (result_breaks kind t.place) (result_breaks_like s.place t.place l kind) 0 (types_of s.place.op)
        ∙ p.results;
    regions = regions_like s.place.op t.place.op l.op names.renamed kind 0 (regions_of s.place.op) (regions_of t.place.op) regions ∙ p.regions;
  }

  pub fine_like : IsFine t
  fine_like kind = from_parts t kind (like_parts kind (parted s kind (fine kind)) (parted s Undefined (fine Undefined)))

-- ---- what is round the operations of a region

pub within_like : (o p : Op) (a b : Around) (r : ℕ) → LikeOp o p → LikeAround a b → LikeAround (within a o r) (within b p r)
within_like o p a b r l h = record {
  calm = h.calm;
  nest = ap (λ n. nest_in (kind_of p) n) h.nest ∙ ap (λ k. nest_in k a.nest) l.kind;
  asked = ap (λ f. end_asked f r) (form_like o p l);
  types = λ i. ap (λ f. end_type_in f p r i) (form_like o p l) ∙ end_type_like o p l (form o) r i;
  count = ap (λ f. end_length_in f p r) (form_like o p l) ∙ end_length_like o p l (form o) r;
}

-- ---- the extended code

module _ (funcs more : List Func) (level : Level) (names : Names) (distinct : IsDistinct names)
    (callees : (a : Attr) → LikeCallee (called funcs a) (called more a)) where
  -- where extended code ends, and what its regions' heads are
  abbrev Ends : Part → Part → Type 0
  Ends (Ops os) (Ops ps) = (last_form ps ≡ last_form os) × (is_none_left ps ≡ is_none_left os)
  Ends (Regions rs) (Regions ss) = AreLike names.renamed rs ss
  Ends _ _ = Unit {0}

  last_behind : (o : Op) (os : List Op) (p : Op) (ps : List Op) → last_form (o ∷ os) ≡ last_form ps → is_none_left ps ≡ false → last_form (p ∷ ps) ≡ last_form (o ∷ os)
  last_behind o os p [] last left = cc
  last_behind o os p (q ∷ ps) last left = sym last

  last_with : (o p : Op) (os ps : List Op) → form p ≡ form o → last_form ps ≡ last_form os → is_none_left ps ≡ is_none_left os → last_form (p ∷ ps) ≡ last_form (o ∷ os)
  last_with o p [] [] f last left = f
  last_with o p [] (y ∷ ps) f last left = cc
  last_with o p (x ∷ os) [] f last left = cc
  last_with o p (x ∷ os) (y ∷ ps) f last left = last

  ends : {a b : Part} {seen : Seen} → Extends more level names a b seen → Ends a b
  ends (no_ops seen) = (refl, refl)
  ends (inserts made o os ps seen is new rest) =
      let again : (last_form ps ≡ last_form (o ∷ os)) × (is_none_left ps ≡ false) = ends rest in
      (last_behind o os made ps (sym again.0) again.1, refl)
  ends (keeps o p os ps seen kept own regions rest) =
      let again : (last_form ps ≡ last_form os) × (is_none_left ps ≡ is_none_left os) = ends rest in
      (last_with o p os ps (form_like o p (kept_like names o p kept)) again.0 again.1, refl)
  ends (no_regions seen) = tt
  ends (region r s rs ss seen params own ops rest) =
      let inner : (last_form (ops_of s) ≡ last_form (ops_of r)) × (is_none_left (ops_of s) ≡ is_none_left (ops_of r)) = ends ops in
      (record { params = params; last = inner.0; is_empty = inner.1 }, ends rest)

  callee_like : (o p : Op) → attr_of p ≡ attr_of o → LikeCallee (called funcs (attr_of o)) (called more (attr_of p))
  callee_like o p e = subst (λ a. LikeCallee (called funcs (attr_of o)) (called more a)) (sym e) (callees (attr_of o))

  -- what breaks nothing, breaks nothing in the extended code
  abbrev Carries : Part → Part → Seen → Type 0
  Carries (Ops os) (Ops ps) now = (a b : Around) (seen : Seen) → LikeAround a b → Sees names seen now → AreFine (places_along funcs os a seen) → AreFine (places_along more ps b now)
  Carries (Regions rs) (Regions ss) now =
      (a b : Around) (seen : Seen) (o p : Op) (r : ℕ) → LikeAround a b → LikeOp o p → Sees names seen now → AreFine (places_held funcs rs a o r seen) → AreFine (places_held more ss b p r now)
  Carries _ _ now = Unit {0}

  kept_place : (o p : Op) (a b : Around) (last : Bool) → IsKept names o p → AreLike names.renamed (regions_of o) (regions_of p) → LikeAround a b → LikePlace (place_of funcs a last o) (place_of more b last p)
  kept_place o p a b last kept regions around = record {
    op = kept_like names o p kept;
    regions = regions_count names.renamed (regions_of o) (regions_of p) regions;
    dims = first_count names.renamed (regions_of o) (regions_of p) regions;
    around = around;
    last = refl;
    callee = callee_like o p kept.attr;
  }

  kept_fine : (o p : Op) (a b : Around) (seen now : Seen) (last : Bool) → IsKept names o p → AreLike names.renamed (regions_of o) (regions_of p) → LikeAround a b → Sees names seen now →
      Carries (Regions (regions_of o)) (Regions (regions_of p)) now → AreFine (places_at funcs o a seen last) → AreFine (places_at more p b now last)
  kept_fine o p a b seen now last kept regions around sees inner fine =
      let was : AreFine (record { seen = seen; place = place_of funcs a last o } ∷ places_held funcs (regions_of o) a o 0 seen) = subst AreFine (places_at-out funcs o a seen last) fine in
      let is : AreFine (record { seen = now; place = place_of more b last p } ∷ places_held more (regions_of p) b p 0 now) = (
        fine_like names (record { seen = seen; place = place_of funcs a last o }) (record { seen = now; place = place_of more b last p }) (kept_place o p a b last kept regions around) kept.operands regions sees was.0,
        inner a b seen o p 0 around (kept_like names o p kept) sees was.1,
      ) in
      subst AreFine (sym (places_at-out more p b now last)) is

  pub own_sees : (o p : Op) (seen now : Seen) → IsKept names o p → AreOwn names (results_of o) → Sees names seen now → Sees names (seen ++ defined (results_of o) (types_of o)) (now ++ defined (results_of p) (types_of p))
  own_sees o p seen now kept own sees =
      let same : defined (results_of p) (types_of p) ≡ renamed_params names.renamed (defined (results_of o) (types_of o)) =
      ap (λ ts. defined (results_of p) ts) kept.types ∙ ap (λ vs. defined vs (types_of o)) kept.results ∙ defined_renamed names.renamed (results_of o) (types_of o) in
      subst (λ (d : Seen). Sees names (seen ++ defined (results_of o) (types_of o)) (now ++ d)) (sym same)
      (sees_own names distinct seen now (defined (results_of o) (types_of o)) sees (own_defined names (results_of o) (types_of o) own))

  pub carries : {a b : Part} {now : Seen} → Extends more level names a b now → Carries a b now
  carries (no_ops now) = λ a b seen around sees fine. tt
  carries (inserts made o os ps now is new rest) = λ a b seen around sees fine.
      let left : is_none_left ps ≡ false = (ends rest).1 in
      fine_both (places_at more made b now (is_none_left ps)) (places_along more ps b (now ++ defined (results_of made) (types_of made)))
      (subst (λ l. AreFine (places_at more made b now l)) (sym left) (is.fine b))
      (carries rest a b seen around (sees_new names distinct seen now (results_of made) (types_of made) sees new) fine)
  carries (keeps o p os ps now kept own regions rest) = λ a b seen around sees fine.
      let left : is_none_left ps ≡ is_none_left os = (ends rest).1 in
      fine_both (places_at more p b now (is_none_left ps)) (places_along more ps b (now ++ defined (results_of p) (types_of p)))
      (subst (λ l. AreFine (places_at more p b now l)) (sym left)
      (kept_fine o p a b seen now (is_none_left os) kept (ends regions) around sees (carries regions) (fine_front (places_at funcs o a seen (is_none_left os)) (places_along funcs os a (seen ++ defined (results_of o) (types_of o))) fine)))
      (carries rest a b (seen ++ defined (results_of o) (types_of o)) around (own_sees o p seen now kept own sees)
      (fine_rest (places_at funcs o a seen (is_none_left os)) (places_along funcs os a (seen ++ defined (results_of o) (types_of o))) fine))
  carries (no_regions now) = λ a b seen o p r around l sees fine. tt
  carries (region x y rs ss now params own ops rest) = λ a b seen o p r around l sees fine.
      let was : AreFine (places_along funcs (ops_of x) (within a o r) (seen ++ params_of x)) =
      subst AreFine (places_in-out funcs x (within a o r) seen) (fine_front (places_in funcs x (within a o r) seen) (places_held funcs rs a o (r + 1) seen) fine) in
      let inside : Sees names (seen ++ params_of x) (now ++ params_of y) = subst (λ (d : Seen). Sees names (seen ++ params_of x) (now ++ d)) (sym params) (sees_own names distinct seen now (params_of x) sees own) in
      fine_both (places_in more y (within b p r) now) (places_held more ss b p (r + 1) now)
      (subst AreFine (sym (places_in-out more y (within b p r) now)) (carries ops (within a o r) (within b p r) (seen ++ params_of x) (within_like o p a b r l around) inside was))
      (carries rest a b seen o p (r + 1) around l sees (fine_rest (places_in funcs x (within a o r) seen) (places_held funcs rs a o (r + 1) seen) fine))

-- ---- functions, one list beside the other

-- what holds of each two functions of one place
abbrev pub Each : (Func → Func → Type 0) → List Func → List Func → Type 0
Each P fs gs = (k : ℕ) (f g : Func) → slice_get fs k ≡ Some f → slice_get gs k ≡ Some g → P f g

maps_same : {X : Type 0} (F G : Func → X) (fs gs : List Func) → length gs ≡ length fs → Each (λ f g. G g ≡ F f) fs gs → map G gs ≡ map F fs
maps_same F G [] [] count same = refl
maps_same F G [] (g ∷ gs) count same = absurd (omega arith)
maps_same F G (f ∷ fs) [] count same = absurd (omega arith)
maps_same F G (f ∷ fs) (g ∷ gs) count same = ap (λ x. x ∷ map G gs) (same 0 f g refl refl) ∙ ap (λ xs. F f ∷ xs) (maps_same F G fs gs (omega arith) (λ k a b p q. same (suc k) a b p q))

first_same : (fs gs : List Func) (name : List ℕ) → length gs ≡ length fs → Each (λ f g. g.name ≡ f.name) fs gs → first_named gs name ≡ first_named fs name
first_same [] [] name count same = refl
first_same [] (g ∷ gs) name count same = absurd (omega arith)
first_same (f ∷ fs) [] name count same = absurd (omega arith)
first_same (f ∷ fs) (g ∷ gs) name count same =
    ap (λ n. cond (bytes_eq n name) (Some 0) (option_map suc (first_named gs name))) (same 0 f g refl refl)
    ∙ ap (λ o. cond (bytes_eq f.name name) (Some 0) (option_map suc o)) (first_same fs gs name (omega arith) (λ k a b p q. same (suc k) a b p q))

-- what a call reads of a function
pub record LikeFunc (f g : Func) : Type 0 where
  pub name : g.name ≡ f.name
  pub callee : LikeCallee (Some f) (Some g)

pub none_like : LikeCallee None None
none_like = record { is_there = refl; params = λ i. refl; results = λ i. refl; param_count = λ n. refl; result_count = λ n. refl; has = refl }

named_like : (fs gs : List Func) (name : List ℕ) → length gs ≡ length fs → Each LikeFunc fs gs → LikeCallee (named fs name) (named gs name)
named_like [] [] name count like = none_like
named_like [] (g ∷ gs) name count like = absurd (omega arith)
named_like (f ∷ fs) [] name count like = absurd (omega arith)
named_like (f ∷ fs) (g ∷ gs) name count like =
    let here : LikeFunc f g = like 0 f g refl refl in
    subst (λ n. LikeCallee (cond (bytes_eq f.name name) (Some f) (named fs name)) (cond (bytes_eq n name) (Some g) (named gs name))) (sym here.name)
    (step (bytes_eq f.name name) here.callee (named_like fs gs name (omega arith) (λ k a b p q. like (suc k) a b p q)))
  where
    step : (b : Bool) → LikeCallee (Some f) (Some g) → LikeCallee (named fs name) (named gs name) → LikeCallee (cond b (Some f) (named fs name)) (cond b (Some g) (named gs name))
    step true now later = now
    step false now later = later

beside : (fs gs : List Func) (k : ℕ) (g : Func) → length gs ≡ length fs → slice_get gs k ≡ Some g → (f : Func) × (slice_get fs k ≡ Some f)
beside fs [] k g count at = cc
beside [] (x ∷ gs) k g count at = absurd (omega arith)
beside (f ∷ fs) (x ∷ gs) zero g count at = (f, refl)
beside (f ∷ fs) (x ∷ gs) (suc k) g count at = beside fs gs k g (omega arith) at

param_types_like : (σ : ℕ → ℕ) (params : Seen) (i : ℕ) → option_map (λ p. p.1) (slice_get (renamed_params σ params) i) ≡ option_map (λ p. p.1) (slice_get params i)
param_types_like σ [] i = refl
param_types_like σ (p ∷ params) zero = refl
param_types_like σ (p ∷ params) (suc i) = param_types_like σ params i

module _ (more : List Func) (level : Level) (names : Names) (f g : Func) (e : IsExtended more level names f g) where
  func_like : LikeFunc f g
  func_like = record {
    name = e.name;
    callee = record {
      is_there = refl;
      params = λ i. ap (λ (ps : Seen). option_map (λ p. p.1) (slice_get ps i)) e.params ∙ param_types_like names.renamed f.params i;
      results = λ i. ap (λ (ts : List Ty). slice_get ts i) e.results;
      param_count = λ n. ap (λ (ps : Seen). length ps) e.params ∙ renamed_length names.renamed f.params;
      result_count = λ n. ap (λ (ts : List Ty). length ts) e.results;
      has = ap (λ (ts : List Ty). not (length ts == 0)) e.results;
    };
  }

  pub body_like : (is_called calls : Bool) → (calls ≡ true → is_called ≡ true) → LikeAround (in_body f is_called) (in_body g calls)
  body_like is_called calls calm = record {
    calm = calm;
    nest = refl;
    asked = refl;
    types = λ i. ap (λ (ts : List Ty). slice_get ts i) e.results;
    count = ap (λ (ts : List Ty). length ts) e.results;
  }

  module _ (funcs : List Func) (distinct : IsDistinct names) (callees : (a : Attr) → LikeCallee (called funcs a) (called more a)) where
    -- a body that breaks nothing
    body_fine : (is_called : Bool) → AreFine (body_places funcs f is_called) → AreFine (body_places more g is_called)
    body_fine is_called fine =
        let heads : Sees names f.params g.params = subst (λ (d : Seen). Sees names f.params d) (sym e.params) (sees_own names distinct [] [] f.params (sees_none names) e.own) in
        let inside : Sees names (f.params ++ params_of f.body) (g.params ++ params_of g.body) =
        subst (λ (d : Seen). Sees names (f.params ++ params_of f.body) (g.params ++ d)) (sym e.body_params) (sees_own names distinct f.params g.params (params_of f.body) heads e.body_own) in
        let was : AreFine (places_along funcs (ops_of f.body) (in_body f is_called) (f.params ++ params_of f.body)) = subst AreFine (places_in-out funcs f.body (in_body f is_called) f.params) fine in
        subst AreFine (sym (places_in-out more g.body (in_body g is_called) g.params))
        (carries funcs more level names distinct callees e.body (in_body f is_called) (in_body g is_called) (f.params ++ params_of f.body) (body_like is_called is_called (λ c. c)) inside was)

    body_last : last_form (ops_of g.body) ≡ last_form (ops_of f.body)
    body_last = (ends funcs more level names distinct callees e.body).0

    params_alike : (k : ℕ) (ps : Seen) → some_from param_has_async k (renamed_params names.renamed ps) ≡ some_from param_has_async k ps
    params_alike k [] = refl
    params_alike k (p ∷ ps) = ap (λ b. param_has_async k p || b) (params_alike (k + 1) ps)

    -- and a head
    head_like : (kind : VerifyKind) (k : ℕ) → first_named more f.name ≡ first_named funcs f.name → func_breaks kind more k g ≡ func_breaks kind funcs k f
    head_like Undefined k first = ap (λ n. not (is_place (first_named more n) k)) e.name ∙ ap (λ o. not (is_place o k)) first
    head_like Terminator k first = ap (λ l. true && not (ends_in Return l)) body_last
    head_like AsyncInMemref k first =
        ap (λ (ps : Seen). some_at param_has_async ps || some_at type_has_async g.results) e.params
        ∙ ap (λ b. b || some_at type_has_async g.results) (params_alike 0 f.params)
        ∙ ap (λ (ts : List Ty). some_at param_has_async f.params || some_at type_has_async ts) e.results
    head_like kind k first = refl

-- ---- calls

pub calls_out : (fs : List Func) (o : Op) (nest : Nest) → calls_at fs o nest ≡ call_of fs (kind_of o) (attr_of o) nest ++ calls_held fs (regions_of o) (nest_in (kind_of o) nest)
calls_out fs o nest = sym (op_begins fs o (regions_of o) nest (nest_in (kind_of o) nest) [] (call_of fs (kind_of o) (attr_of o) nest) refl refl refl)

pub calls_inside : (fs : List Func) (r : Region) (nest : Nest) → calls_in fs r nest ≡ calls_along fs (ops_of r) nest
calls_inside fs r nest = sym (region_begins fs r (ops_of r) nest [] refl)

module _ (funcs more : List Func) (first : (name : List ℕ) → first_named more name ≡ first_named funcs name) where
  place_same : (a : Attr) → callee_place more a ≡ callee_place funcs a
  place_same (attr.Callee name) = first name
  place_same a = refl

  own_call : (k : OpKind) (a : Attr) (nest : Nest) → call_of more k a nest ≡ call_of funcs k a nest
  own_call k a nest = ap (λ o. if is_call (form_of k) then call_to o nest else []) (place_same a)

  abbrev CallsAlike : Part → Part → Type 0
  CallsAlike (Ops os) (Ops ps) = (nest : Nest) → calls_along more ps nest ≡ calls_along funcs os nest
  CallsAlike (Regions rs) (Regions ss) = (nest : Nest) → calls_held more ss nest ≡ calls_held funcs rs nest
  CallsAlike _ _ = Unit {0}

  calls_alike : {level : Level} {names : Names} {a b : Part} {now : Seen} → Extends more level names a b now → CallsAlike a b
  calls_alike (no_ops now) = λ nest. refl
  calls_alike (inserts made o os ps now is new rest) = λ nest. ap (λ cs. cs ++ calls_along more ps nest) (is.calls_nothing nest) ∙ calls_alike rest nest
  calls_alike (keeps o p os ps now kept own regions rest) = λ nest.
      let here : calls_at more p nest ≡ calls_at funcs o nest =
      calls_out more p nest
      ∙ ap (λ k. call_of more k (attr_of p) nest ++ calls_held more (regions_of p) (nest_in k nest)) kept.kind
      ∙ ap (λ a. call_of more (kind_of o) a nest ++ calls_held more (regions_of p) (nest_in (kind_of o) nest)) kept.attr
      ∙ ap (λ cs. cs ++ calls_held more (regions_of p) (nest_in (kind_of o) nest)) (own_call (kind_of o) (attr_of o) nest)
      ∙ ap (λ cs. call_of funcs (kind_of o) (attr_of o) nest ++ cs) (calls_alike regions (nest_in (kind_of o) nest))
      ∙ sym (calls_out funcs o nest) in
      ap (λ cs. cs ++ calls_along more ps nest) here ∙ ap (λ cs. calls_at funcs o nest ++ cs) (calls_alike rest nest)
  calls_alike (no_regions now) = λ nest. refl
  calls_alike (region r s rs ss now params own ops rest) = λ nest.
      let here : calls_in more s nest ≡ calls_in funcs r nest = calls_inside more s nest ∙ calls_alike ops nest ∙ sym (calls_inside funcs r nest) in
      ap (λ cs. cs ++ calls_held more ss nest) here ∙ ap (λ cs. calls_in funcs r nest ++ cs) (calls_alike rest nest)

  func_calls : (level : Level) (names : Names) (f g : Func) → IsExtended more level names f g → calls_of more g ≡ calls_of funcs f
  func_calls level names f g e = calls_inside more g.body InFunction ∙ calls_alike e.body InFunction ∙ sym (calls_inside funcs f.body InFunction)

-- ---- the module

pub all_fine : (spots : List Spot) → ((i : ℕ) (s : Spot) (kind : VerifyKind) → slice_get spots i ≡ Some s → breaks kind s ≡ false) → AreFine spots
all_fine [] h = tt
all_fine (s ∷ spots) h = (λ kind. h 0 s kind refl, all_fine spots (λ i t kind at. h (suc i) t kind at))

pub each_fine : (spots : List Spot) (i : ℕ) (s : Spot) (kind : VerifyKind) → AreFine spots → slice_get spots i ≡ Some s → breaks kind s ≡ false
each_fine [] i s kind fine at = cc
each_fine (x ∷ spots) zero s kind fine at = let same : x ≡ s = cc in subst (λ t. breaks kind t ≡ false) same (fine.0 kind)
each_fine (x ∷ spots) (suc i) s kind fine at = each_fine spots i s kind fine.1 at

pub is_false : (b : Bool) → (b ≡ true → ⊥) → b ≡ false
is_false true h = absurd (h refl)
is_false false h = refl

not_both : (b : Bool) → b ≡ true → b ≡ false → ⊥
not_both b h e = cc

pub sound_bodies : (funcs : List Func) → IsSound funcs → (k : ℕ) (f : Func) (is_called : Bool) → slice_get funcs k ≡ Some f → Tells funcs k is_called → AreFine (body_places funcs f is_called)
sound_bodies funcs sound k f is_called at tells =
    all_fine (body_places funcs f is_called)
    (λ i s kind stands. is_false (breaks kind s) (λ broken. sound (record { op = number_of s.place.op; kind = kind }) (at_operation k f is_called i s kind at tells stands broken)))

module _ (level : Level) (names : ℕ → Names) (funcs more : List Func) (e : AreExtended level names funcs more) where
  first_alike : (name : List ℕ) → first_named more name ≡ first_named funcs name
  first_alike name = first_same funcs more name e.count (λ k f g p q. (e.each k f g p q).name)

  callees_alike : (a : Attr) → LikeCallee (called funcs a) (called more a)
  callees_alike (attr.Callee name) = named_like funcs more name e.count (λ k f g p q. func_like more level (names k) f g (e.each k f g p q))
  callees_alike a = none_like

  pub graph_alike : graph_of more ≡ graph_of funcs
  graph_alike = maps_same (calls_of funcs) (calls_of more) funcs more e.count (λ k f g p q. func_calls funcs more first_alike level (names k) f g (e.each k f g p q))

  tells_alike : (k : ℕ) (is_called : Bool) → Tells more k is_called → Tells funcs k is_called
  tells_alike k is_called tells = record {
    sound = λ is. subst (λ graph. IsReached graph k) graph_alike (tells.sound is);
    complete = λ reached. tells.complete (subst (λ graph. IsReached graph k) (sym graph_alike) reached);
  }

  stays_sound : IsSound funcs → (b : Broken) → Breaks more b → ⊥
  stays_sound sound b (at_function k g kind at is) =
      let other : (f : Func) × (slice_get funcs k ≡ Some f) = beside funcs more k g e.count at in
      let ext : IsExtended more level (names k) other.0 g = e.each k other.0 g other.1 at in
      let same : func_breaks kind more k g ≡ func_breaks kind funcs k other.0 = head_like more level (names k) other.0 g ext funcs (e.distinct k) callees_alike kind k (first_alike other.0.name) in
      sound (record { op = other.0.at; kind = kind }) (at_function k other.0 kind other.1 (sym same ∙ is))
  stays_sound sound b (at_operation k g is_called i s kind at tells stands is) =
      let other : (f : Func) × (slice_get funcs k ≡ Some f) = beside funcs more k g e.count at in
      let ext : IsExtended more level (names k) other.0 g = e.each k other.0 g other.1 at in
      let was : AreFine (body_places funcs other.0 is_called) = sound_bodies funcs sound k other.0 is_called other.1 (tells_alike k is_called tells) in
      not_both (breaks kind s) is (each_fine (body_places more g is_called) i s kind (body_fine more level (names k) other.0 g ext funcs (e.distinct k) callees_alike is_called was) stands)

pub extended_is_sound : ExtendedIsSound
extended_is_sound level names funcs more e sound = stays_sound level names funcs more e sound
