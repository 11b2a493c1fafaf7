-- The fault that is noted is the first of all that there are.
use Rattle.std.proofs.Common.{◌≡◌, ℕ, zero, suc, ◌+◌, ◌<◌, ◌==◌, nat_lt, ◌&&◌, ◌||◌, cond, Bool, true, false, List, [], ◌∷◌, length, map, Option, Some, None, refl, sym, ap, arith, subst, zero-add}
use Rattle.std.specs.Prelude.{slice_get}
use Rattle.std.proofs.lemmas.Bool.Decides.{nat_tests}
use Rattle.std.proofs.lemmas.Option.{slice_get_within}
use Rattle.ir_forms.specs.declared.ops.Func.{Func}
use Rattle.ir_verify.specs.declared.fault.Broken.{Broken}
use Rattle.ir_verify.specs.declared.fault.VerifyKind.{VerifyKind}
use Rattle.ir_verify.specs.declared.fault.VerifyKind.TheVariants.{Undefined, TypeMismatch, Terminator, UnknownFunc, Arity, AsyncInMemref, BlockingAwait}
use Rattle.ir_verify.specs.Breaks.{breaks, number_of, noted_kind, noted_spot, noted_all}
use Rattle.ir_verify.specs.Calls.{AreMarks, graph_of, calls_of, is_marked}
use Rattle.ir_verify.specs.Faults.{noted, earlier, is_before, rank}
use Rattle.ir_verify.specs.Places.{Spot}
use Rattle.ir_verify.specs.Verdict.{func_breaks, noted_head, noted_func, noted_funcs, body_places, IsNoted, Tells, Breaks, at_function, at_operation, IsVerdict}

-- ---- the order

abbrev lex : ℕ → ℕ → ℕ → ℕ → Bool
lex a p b q = nat_lt a b || (a == b && nat_lt p q)

lex_through : (a p b q c r : ℕ) → lex a p b q ≡ true → lex b q c r ≡ true → lex a p c r ≡ true
lex_through a p b q c r first second = grind (arith, nat_tests)

lex_self : (a p : ℕ) → lex a p a p ≡ false
lex_self a p = grind (arith, nat_tests)

true_false : (b : Bool) → b ≡ true → b ≡ false → ⊥
true_false b holds fails = cc

-- what is not before the earliest fault is not before an earlier one
stays_after : (c f g : Broken) → is_before c g ≡ false → is_before f g ≡ true → is_before c f ≡ false
stays_after c f g after earlier_is = step (is_before c f) refl
  where
    step : (b : Bool) → is_before c f ≡ b → b ≡ false
    step false is = refl
    step true is = absurd (true_false (is_before c g) (lex_through c.op (rank c.kind) f.op (rank f.kind) g.op (rank g.kind) is earlier_is) after)

-- ---- one fault more

-- there is an earliest fault, and this one is not before it
pub record AtMost (best : Option Broken) (c : Broken) : Type 0 where
  pub first : Broken
  pub is : best ≡ Some first
  pub after : is_before c first ≡ false

keep_earlier : (best : Option Broken) (f c : Broken) → AtMost best c → AtMost (earlier best f) c
keep_earlier None f c h = let e : None ≡ Some h.first = h.is in cc
keep_earlier (Some g) f c h = step (is_before f g) refl
  where
    same : g ≡ h.first
    same = let e : Some g ≡ Some h.first = h.is in cc

    after : is_before c g ≡ false
    after = subst (λ (x : Broken). is_before c x ≡ false) (sym same) h.after

    step : (b : Bool) → is_before f g ≡ b → AtMost (cond b (Some f) (Some g)) c
    step true is = record { first = f; is = refl; after = stays_after c f g after is }
    step false is = record { first = g; is = refl; after = after }

new_earlier : (best : Option Broken) (f : Broken) → AtMost (earlier best f) f
new_earlier None f = record { first = f; is = refl; after = lex_self f.op (rank f.kind) }
new_earlier (Some g) f = step (is_before f g) refl
  where
    step : (b : Bool) → is_before f g ≡ b → AtMost (cond b (Some f) (Some g)) f
    step true is = record { first = f; is = refl; after = lex_self f.op (rank f.kind) }
    step false is = record { first = g; is = refl; after = is }

keep_noted : (best : Option Broken) (b : Bool) (f c : Broken) → AtMost best c → AtMost (noted best b f) c
keep_noted best true f c h = keep_earlier best f c h
keep_noted best false f c h = h

new_noted : (best : Option Broken) (b : Bool) (f : Broken) → b ≡ true → AtMost (noted best b f) f
new_noted best true f is = new_earlier best f
new_noted best false f is = cc

-- ---- where the earliest fault comes from

module _ (P : Broken → Type 0) where
  abbrev pub From : Option Broken → Type 0
  From best = (g : Broken) → best ≡ Some g → P g

  from_earlier : (best : Option Broken) (f : Broken) → From best → P f → From (earlier best f)
  from_earlier None f before new = λ g is. let same : f ≡ g = cc in subst P same new
  from_earlier (Some h) f before new = step (is_before f h)
    where
      step : (b : Bool) → From (cond b (Some f) (Some h))
      step true = λ g is. let same : f ≡ g = cc in subst P same new
      step false = before

  from_noted : (best : Option Broken) (b : Bool) (f : Broken) → From best → (b ≡ true → P f) → From (noted best b f)
  from_noted best true f before new = from_earlier best f before (new refl)
  from_noted best false f before new = before

-- ---- an operation

abbrev fault_at : Spot → VerifyKind → Broken
fault_at s kind = record { op = number_of s.place.op; kind = kind }

module _ (s : Spot) (best : Option Broken) where
  abbrev b1 : Option Broken
  b1 = noted_kind Undefined s best

  abbrev b2 : Option Broken
  b2 = noted_kind TypeMismatch s b1

  abbrev b3 : Option Broken
  b3 = noted_kind Terminator s b2

  abbrev b4 : Option Broken
  b4 = noted_kind UnknownFunc s b3

  abbrev b5 : Option Broken
  b5 = noted_kind Arity s b4

  abbrev b6 : Option Broken
  b6 = noted_kind AsyncInMemref s b5

  k1 : (c : Broken) → AtMost best c → AtMost b1 c
  k1 c h = keep_noted best (breaks Undefined s) (fault_at s Undefined) c h

  k2 : (c : Broken) → AtMost b1 c → AtMost b2 c
  k2 c h = keep_noted b1 (breaks TypeMismatch s) (fault_at s TypeMismatch) c h

  k3 : (c : Broken) → AtMost b2 c → AtMost b3 c
  k3 c h = keep_noted b2 (breaks Terminator s) (fault_at s Terminator) c h

  k4 : (c : Broken) → AtMost b3 c → AtMost b4 c
  k4 c h = keep_noted b3 (breaks UnknownFunc s) (fault_at s UnknownFunc) c h

  k5 : (c : Broken) → AtMost b4 c → AtMost b5 c
  k5 c h = keep_noted b4 (breaks Arity s) (fault_at s Arity) c h

  k6 : (c : Broken) → AtMost b5 c → AtMost b6 c
  k6 c h = keep_noted b5 (breaks AsyncInMemref s) (fault_at s AsyncInMemref) c h

  k7 : (c : Broken) → AtMost b6 c → AtMost (noted_spot s best) c
  k7 c h = keep_noted b6 (breaks BlockingAwait s) (fault_at s BlockingAwait) c h

  keep_spot : (c : Broken) → AtMost best c → AtMost (noted_spot s best) c
  keep_spot c h = k7 c (k6 c (k5 c (k4 c (k3 c (k2 c (k1 c h))))))

  new_spot : (kind : VerifyKind) → breaks kind s ≡ true → AtMost (noted_spot s best) (fault_at s kind)
  new_spot Undefined is = let c = fault_at s Undefined in k7 c (k6 c (k5 c (k4 c (k3 c (k2 c (new_noted best (breaks Undefined s) c is))))))
  new_spot TypeMismatch is = let c = fault_at s TypeMismatch in k7 c (k6 c (k5 c (k4 c (k3 c (new_noted b1 (breaks TypeMismatch s) c is)))))
  new_spot Terminator is = let c = fault_at s Terminator in k7 c (k6 c (k5 c (k4 c (new_noted b2 (breaks Terminator s) c is))))
  new_spot UnknownFunc is = let c = fault_at s UnknownFunc in k7 c (k6 c (k5 c (new_noted b3 (breaks UnknownFunc s) c is)))
  new_spot Arity is = let c = fault_at s Arity in k7 c (k6 c (new_noted b4 (breaks Arity s) c is))
  new_spot AsyncInMemref is = let c = fault_at s AsyncInMemref in k7 c (new_noted b5 (breaks AsyncInMemref s) c is)
  new_spot BlockingAwait is = new_noted b6 (breaks BlockingAwait s) (fault_at s BlockingAwait) is

  from_spot : (P : Broken → Type 0) → From P best → ((kind : VerifyKind) → breaks kind s ≡ true → P (fault_at s kind)) → From P (noted_spot s best)
  from_spot P before new =
      from_noted P b6 (breaks BlockingAwait s) (fault_at s BlockingAwait)
      (from_noted P b5 (breaks AsyncInMemref s) (fault_at s AsyncInMemref)
      (from_noted P b4 (breaks Arity s) (fault_at s Arity)
      (from_noted P b3 (breaks UnknownFunc s) (fault_at s UnknownFunc)
      (from_noted P b2 (breaks Terminator s) (fault_at s Terminator)
      (from_noted P b1 (breaks TypeMismatch s) (fault_at s TypeMismatch)
      (from_noted P best (breaks Undefined s) (fault_at s Undefined) before (new Undefined)) (new TypeMismatch)) (new Terminator)) (new UnknownFunc)) (new Arity)) (new AsyncInMemref)) (new BlockingAwait)

-- ---- a list of places

keep_all : (spots : List Spot) (best : Option Broken) (c : Broken) → AtMost best c → AtMost (noted_all spots best) c
keep_all [] best c h = h
keep_all (s ∷ spots) best c h = keep_all spots (noted_spot s best) c (keep_spot s best c h)

new_all : (spots : List Spot) (best : Option Broken) (i : ℕ) (s : Spot) (kind : VerifyKind) → slice_get spots i ≡ Some s → breaks kind s ≡ true → AtMost (noted_all spots best) (fault_at s kind)
new_all [] best i s kind at is = cc
new_all (t ∷ spots) best zero s kind at is =
    let same : t ≡ s = cc in
    subst (λ (x : Spot). AtMost (noted_all spots (noted_spot x best)) (fault_at s kind)) (sym same) (keep_all spots (noted_spot s best) (fault_at s kind) (new_spot s best kind is))
new_all (t ∷ spots) best (suc i) s kind at is = new_all spots (noted_spot t best) i s kind at is

from_all : (P : Broken → Type 0) (spots : List Spot) (best : Option Broken) → From P best → ((i : ℕ) (s : Spot) (kind : VerifyKind) → slice_get spots i ≡ Some s → breaks kind s ≡ true → P (fault_at s kind)) → From P (noted_all spots best)
from_all P [] best before new = before
from_all P (s ∷ spots) best before new = from_all P spots (noted_spot s best) (from_spot s best P before (λ kind is. new 0 s kind refl is)) (λ i t kind at is. new (suc i) t kind at is)

-- ---- a function

module _ (funcs : List Func) (k : ℕ) (f : Func) (best : Option Broken) where
  abbrev head_fault : VerifyKind → Broken
  head_fault kind = record { op = f.at; kind = kind }

  abbrev h1 : Option Broken
  h1 = noted_head Undefined funcs k f best

  abbrev h2 : Option Broken
  h2 = noted_head Terminator funcs k f h1

  keep_func : (c : Broken) → AtMost best c → AtMost (noted_func funcs k f best) c
  keep_func c h =
      keep_noted h2 (func_breaks AsyncInMemref funcs k f) (head_fault AsyncInMemref) c
      (keep_noted h1 (func_breaks Terminator funcs k f) (head_fault Terminator) c (keep_noted best (func_breaks Undefined funcs k f) (head_fault Undefined) c h))

  new_func : (kind : VerifyKind) → func_breaks kind funcs k f ≡ true → AtMost (noted_func funcs k f best) (head_fault kind)
  new_func Undefined is =
      keep_noted h2 (func_breaks AsyncInMemref funcs k f) (head_fault AsyncInMemref) (head_fault Undefined)
      (keep_noted h1 (func_breaks Terminator funcs k f) (head_fault Terminator) (head_fault Undefined) (new_noted best (func_breaks Undefined funcs k f) (head_fault Undefined) is))
  new_func Terminator is = keep_noted h2 (func_breaks AsyncInMemref funcs k f) (head_fault AsyncInMemref) (head_fault Terminator) (new_noted h1 (func_breaks Terminator funcs k f) (head_fault Terminator) is)
  new_func AsyncInMemref is = new_noted h2 (func_breaks AsyncInMemref funcs k f) (head_fault AsyncInMemref) is
  new_func TypeMismatch is = cc
  new_func UnknownFunc is = cc
  new_func Arity is = cc
  new_func BlockingAwait is = cc

  from_func : (P : Broken → Type 0) → From P best → ((kind : VerifyKind) → func_breaks kind funcs k f ≡ true → P (head_fault kind)) → From P (noted_func funcs k f best)
  from_func P before new =
      from_noted P h2 (func_breaks AsyncInMemref funcs k f) (head_fault AsyncInMemref)
      (from_noted P h1 (func_breaks Terminator funcs k f) (head_fault Terminator)
      (from_noted P best (func_breaks Undefined funcs k f) (head_fault Undefined) before (new Undefined)) (new Terminator)) (new AsyncInMemref)

-- ---- all functions

module _ (funcs : List Func) (marks : List Bool) where
  abbrev places_of : ℕ → Func → List Spot
  places_of k f = body_places funcs f (is_marked (slice_get marks k))

  keep_funcs : (rest : List Func) (k : ℕ) (best : Option Broken) (c : Broken) → AtMost best c → AtMost (noted_funcs funcs marks k rest best) c
  keep_funcs [] k best c h = h
  keep_funcs (f ∷ rest) k best c h = keep_funcs rest (k + 1) (noted_all (places_of k f) (noted_func funcs k f best)) c (keep_all (places_of k f) (noted_func funcs k f best) c (keep_func funcs k f best c h))

  new_head : (rest : List Func) (k : ℕ) (best : Option Broken) (j : ℕ) (f : Func) (kind : VerifyKind) → slice_get rest j ≡ Some f → func_breaks kind funcs (j + k) f ≡ true →
      AtMost (noted_funcs funcs marks k rest best) (record { op = f.at; kind = kind })
  new_head [] k best j f kind at is = cc
  new_head (g ∷ rest) k best zero f kind at is =
      let same : f ≡ g = cc in
      let here : func_breaks kind funcs k g ≡ true = subst (λ (x : Func). func_breaks kind funcs k x ≡ true) same (subst (λ n. func_breaks kind funcs n f ≡ true) (zero-add k) is) in
      subst (λ (x : Func). AtMost (noted_funcs funcs marks k (g ∷ rest) best) (record { op = x.at; kind = kind })) (sym same)
      (keep_funcs rest (k + 1) (noted_all (places_of k g) (noted_func funcs k g best)) (record { op = g.at; kind = kind }) (keep_all (places_of k g) (noted_func funcs k g best) (record { op = g.at; kind = kind }) (new_func funcs k g best kind here)))
  new_head (g ∷ rest) k best (suc j) f kind at is =
      let place : suc j + k ≡ j + (k + 1) = omega arith in
      new_head rest (k + 1) (noted_all (places_of k g) (noted_func funcs k g best)) j f kind at (subst (λ n. func_breaks kind funcs n f ≡ true) place is)

  new_body : (rest : List Func) (k : ℕ) (best : Option Broken) (j : ℕ) (f : Func) (i : ℕ) (s : Spot) (kind : VerifyKind) → slice_get rest j ≡ Some f → slice_get (places_of (j + k) f) i ≡ Some s → breaks kind s ≡ true →
      AtMost (noted_funcs funcs marks k rest best) (fault_at s kind)
  new_body [] k best j f i s kind at stands is = cc
  new_body (g ∷ rest) k best zero f i s kind at stands is =
      let same : f ≡ g = cc in
      let here : slice_get (places_of k g) i ≡ Some s = subst (λ (x : Func). slice_get (places_of k x) i ≡ Some s) same (subst (λ n. slice_get (places_of n f) i ≡ Some s) (zero-add k) stands) in
      keep_funcs rest (k + 1) (noted_all (places_of k g) (noted_func funcs k g best)) (fault_at s kind) (new_all (places_of k g) (noted_func funcs k g best) i s kind here is)
  new_body (g ∷ rest) k best (suc j) f i s kind at stands is =
      let place : suc j + k ≡ j + (k + 1) = omega arith in
      new_body rest (k + 1) (noted_all (places_of k g) (noted_func funcs k g best)) j f i s kind at (subst (λ n. slice_get (places_of n f) i ≡ Some s) place stands) is

  from_funcs : (P : Broken → Type 0) (rest : List Func) (k : ℕ) (best : Option Broken) → From P best →
      ((j : ℕ) (f : Func) (kind : VerifyKind) → slice_get rest j ≡ Some f → func_breaks kind funcs (j + k) f ≡ true → P (record { op = f.at; kind = kind })) →
      ((j : ℕ) (f : Func) (i : ℕ) (s : Spot) (kind : VerifyKind) → slice_get rest j ≡ Some f → slice_get (places_of (j + k) f) i ≡ Some s → breaks kind s ≡ true → P (fault_at s kind)) →
      From P (noted_funcs funcs marks k rest best)
  from_funcs P [] k best before heads bodies = before
  from_funcs P (f ∷ rest) k best before heads bodies =
      from_funcs P rest (k + 1) (noted_all (places_of k f) (noted_func funcs k f best))
      (from_all P (places_of k f) (noted_func funcs k f best)
      (from_func funcs k f best P before (λ kind is. heads 0 f kind refl (subst (λ n. func_breaks kind funcs n f ≡ true) (sym (zero-add k)) is)))
      (λ i s kind stands is. bodies 0 f i s kind refl (subst (λ n. slice_get (places_of n f) i ≡ Some s) (sym (zero-add k)) stands) is))
      (λ j g kind at is. heads (suc j) g kind at (let place : j + (k + 1) ≡ suc j + k = omega arith in subst (λ n. func_breaks kind funcs n g ≡ true) place is))
      (λ j g i s kind at stands is. bodies (suc j) g i s kind at (let place : j + (k + 1) ≡ suc j + k = omega arith in subst (λ n. slice_get (places_of n g) i ≡ Some s) place stands) is)

-- ---- the marks tell

mark_true : (o : Option Bool) → is_marked o ≡ true → o ≡ Some true
mark_true None h = cc
mark_true (Some true) h = refl
mark_true (Some false) h = cc

true_mark : (o : Option Bool) → o ≡ Some true → is_marked o ≡ true
true_mark None h = cc
true_mark (Some true) h = refl
true_mark (Some false) h = cc

length_mapped : {X Y : Type 0} → (f : X → Y) (xs : List X) → length (map f xs) ≡ length xs
length_mapped f [] = refl
length_mapped f (x ∷ xs) = ap suc (length_mapped f xs)

told : (funcs : List Func) (marks : List Bool) → AreMarks (graph_of funcs) marks → (k : ℕ) (f : Func) → slice_get funcs k ≡ Some f → Tells funcs k (is_marked (slice_get marks k))
told funcs marks exact k f at = record {
  sound = λ is. exact.sound k (mark_true (slice_get marks k) is);
  complete = λ reached. true_mark (slice_get marks k) (exact.complete k reached
      (let inside : k < length funcs = slice_get_within funcs k f at in let same : length (graph_of funcs) ≡ length funcs = length_mapped (calls_of funcs) funcs in omega arith));
}

same_told : (funcs : List Func) (k : ℕ) (a b : Bool) → Tells funcs k a → Tells funcs k b → a ≡ b
same_told funcs k true true x y = refl
same_told funcs k false false x y = refl
same_told funcs k true false x y = let is : false ≡ true = y.complete (x.sound refl) in cc
same_told funcs k false true x y = let is : false ≡ true = x.complete (y.sound refl) in cc

covered : (funcs : List Func) (marks : List Bool) → AreMarks (graph_of funcs) marks → (c : Broken) → Breaks funcs c → AtMost (noted_funcs funcs marks 0 funcs None) c
covered funcs marks exact c (at_function k f kind at is) =
    let place : k ≡ k + 0 = omega arith in
    new_head funcs marks funcs 0 None k f kind at (subst (λ n. func_breaks kind funcs n f ≡ true) place is)
covered funcs marks exact c (at_operation k f is_called i s kind at tells stands is) =
    let place : k ≡ k + 0 = omega arith in
    let same : is_called ≡ is_marked (slice_get marks k) = same_told funcs k is_called (is_marked (slice_get marks k)) tells (told funcs marks exact k f at) in
    new_body funcs marks funcs 0 None k f i s kind at
    (subst (λ n. slice_get (body_places funcs f (is_marked (slice_get marks n))) i ≡ Some s) place (subst (λ b. slice_get (body_places funcs f b) i ≡ Some s) same stands)) is

comes_from : (funcs : List Func) (marks : List Bool) → AreMarks (graph_of funcs) marks → (g : Broken) → noted_funcs funcs marks 0 funcs None ≡ Some g → Breaks funcs g
comes_from funcs marks exact =
    from_funcs funcs marks (Breaks funcs) funcs 0 None (λ g is. cc)
    (λ j f kind at is. let place : j + 0 ≡ j = omega arith in at_function j f kind at (subst (λ n. func_breaks kind funcs n f ≡ true) place is))
    (λ j f i s kind at stands is.
    let place : j + 0 ≡ j = omega arith in
    at_operation j f (is_marked (slice_get marks j)) i s kind at (told funcs marks exact j f at) (subst (λ n. slice_get (body_places funcs f (is_marked (slice_get marks n))) i ≡ Some s) place stands) is)

pub verdict_is : (funcs : List Func) (best : Option Broken) → IsNoted funcs best → IsVerdict funcs best
verdict_is funcs None n = λ c broken. let h : AtMost (noted_funcs funcs n.marks 0 funcs None) c = covered funcs n.marks n.exact c broken in let e : noted_funcs funcs n.marks 0 funcs None ≡ Some h.first = h.is in let is : None ≡ noted_funcs funcs n.marks 0 funcs None = n.is in cc
verdict_is funcs (Some b) n = record {
  broken = comes_from funcs n.marks n.exact b (sym n.is);
  none_before = λ c broken.
      let h : AtMost (noted_funcs funcs n.marks 0 funcs None) c = covered funcs n.marks n.exact c broken in
      let e : noted_funcs funcs n.marks 0 funcs None ≡ Some h.first = h.is in
      let is : Some b ≡ noted_funcs funcs n.marks 0 funcs None = n.is in
      let same : h.first ≡ b = cc in
      subst (λ (x : Broken). is_before c x ≡ false) same h.after;
}
