-- Each label stands once in the layout.
use Rattle.std.proofs.Common.{◌≡◌, ◌⊎◌, inl, inr, ℕ, zero, suc, ◌+◌, cond, Bool, true, false, List, [], ◌∷◌, ◌++◌, map, Option, Some, None, refl, sym, ap, ◌∙◌, subst, arith}
use Rattle.std.specs.Prelude.{slice_get}
use Rattle.std.proofs.lemmas.List.{append_assoc}
use Rattle.low_forms.specs.declared.code.Block.{Block}
use Rattle.low_forms.specs.declared.code.LowFunc.{LowFunc}
use Rattle.coro_lower.specs.declared.label.Label.{Label}
use Rattle.coro_lower.specs.declared.label.Label.TheVariants.{Entry, Next, Body, SetsError, Cleanup, Suspended}
use Rattle.coro_lower.specs.declared.label.End.{End}
use Rattle.coro_lower.specs.declared.label.End.TheVariants as end
use Rattle.coro_lower.specs.Layout.{end_of, goes, awaiting, tests_before, stands_among, labels, errors_for, coroutine_layout, layout, key, place}
use Rattle.coro_lower.specs.Shape.{label_block}
use Rattle.register_laws.proofs.Lists.{mapped_back, mapped_there}
use Rattle.register_laws.proofs.Places.{Found, found, place_is, stands}
use Rattle.coro_laws.specs.Laws.{LabelsStand}
use Rattle.coro_laws.proofs.Lists.{Among, Distinct, among_left, among_right, among_either, distinct_none, distinct_one, distinct_append}

-- ---- a label by its number

pub key_same : (l m : Label) → key l ≡ key m → l ≡ m
key_same Entry Entry is = refl
key_same Entry SetsError is = absurd (omega (arith, is))
key_same Entry Cleanup is = absurd (omega (arith, is))
key_same Entry Suspended is = absurd (omega (arith, is))
key_same Entry (Body k) is = absurd (omega (arith, is))
key_same Entry (Next k) is = absurd (omega (arith, is))
key_same SetsError Entry is = absurd (omega (arith, is))
key_same SetsError SetsError is = refl
key_same SetsError Cleanup is = absurd (omega (arith, is))
key_same SetsError Suspended is = absurd (omega (arith, is))
key_same SetsError (Body k) is = absurd (omega (arith, is))
key_same SetsError (Next k) is = absurd (omega (arith, is))
key_same Cleanup Entry is = absurd (omega (arith, is))
key_same Cleanup SetsError is = absurd (omega (arith, is))
key_same Cleanup Cleanup is = refl
key_same Cleanup Suspended is = absurd (omega (arith, is))
key_same Cleanup (Body k) is = absurd (omega (arith, is))
key_same Cleanup (Next k) is = absurd (omega (arith, is))
key_same Suspended Entry is = absurd (omega (arith, is))
key_same Suspended SetsError is = absurd (omega (arith, is))
key_same Suspended Cleanup is = absurd (omega (arith, is))
key_same Suspended Suspended is = refl
key_same Suspended (Body k) is = absurd (omega (arith, is))
key_same Suspended (Next k) is = absurd (omega (arith, is))
key_same (Body j) Entry is = absurd (omega (arith, is))
key_same (Body j) SetsError is = absurd (omega (arith, is))
key_same (Body j) Cleanup is = absurd (omega (arith, is))
key_same (Body j) Suspended is = absurd (omega (arith, is))
key_same (Body j) (Body k) is = let same : j ≡ k = omega (arith, is) in ap (λ (n : ℕ). Body n) same
key_same (Body j) (Next k) is = absurd (omega (arith, is))
key_same (Next j) Entry is = absurd (omega (arith, is))
key_same (Next j) SetsError is = absurd (omega (arith, is))
key_same (Next j) Cleanup is = absurd (omega (arith, is))
key_same (Next j) Suspended is = absurd (omega (arith, is))
key_same (Next j) (Body k) is = absurd (omega (arith, is))
key_same (Next j) (Next k) is = let same : j ≡ k = omega (arith, is) in ap (λ (n : ℕ). Next n) same

-- where the label stands in the layout, it stands at its number
pub place_there : (f : LowFunc) (l : Label) → Among l (layout f) → slice_get (layout f) (place f l) ≡ Some l
place_there f l a =
    let there : Found (map key (layout f)) (key l) = found (map key (layout f)) a.0 (key l) (mapped_there key (layout f) a.0 l a.1) in
    let back : (m : Label) × (slice_get (layout f) there.place ≡ Some m) × (key m ≡ key l) = mapped_back key (layout f) there.place (key l) there.at in
    let same : back.0 ≡ l = key_same back.0 l back.2 in
    ap (slice_get (layout f)) (place_is (map key (layout f)) (key l) there) ∙ back.1 ∙ ap (λ (m : Label). Some m) same

-- ---- the labels of a block

-- the label is one of the k-th block
abbrev pub Home : LowFunc → ℕ → Label → Type 0
Home f k l = (l ≡ Body k) ⊎ ((b : ℕ) × (l ≡ Next b) × (f.coroutine ≡ true) × (awaiting f k ≡ Some b))

home_once : (f : LowFunc) (j k : ℕ) (l : Label) → Home f j l → Home f k l → j ≡ k
home_once f j k l (inl one) (inl two) = (let same : Body j ≡ Body k = sym one ∙ two in cc)
home_once f j k l (inl one) (inr two) = (let same : Body j ≡ Next two.0 = sym one ∙ two.1 in cc)
home_once f j k l (inr one) (inl two) = (let same : Next one.0 ≡ Body k = sym one.1 ∙ two in cc)
home_once f j k l (inr one) (inr two) =
    let next : Next one.0 ≡ Next two.0 = sym one.1 ∙ two.1 in
    let same : one.0 ≡ two.0 = cc in
    let here : slice_get (goes f) one.0 ≡ Some j = stands (goes f) j one.0 one.3 in
    let also : slice_get (goes f) two.0 ≡ Some k = stands (goes f) k two.0 two.3 in
    let both : Some j ≡ Some k = sym here ∙ ap (slice_get (goes f)) same ∙ also in
    cc

abbrev grouped : Bool → Bool → Option ℕ → ℕ → List Label
grouped s c o k = cond s (tests_before c o ++ Body k ∷ []) []

grouped_home : (s c : Bool) (o : Option ℕ) (k n : ℕ) (l : Label) → slice_get (grouped s c o k) n ≡ Some l
    → (s ≡ true) × ((l ≡ Body k) ⊎ ((b : ℕ) × (l ≡ Next b) × (c ≡ true) × (o ≡ Some b)))
grouped_home false c o k n l at = cc
grouped_home true true (Some b) k zero l at = (refl, inr (b, cc, refl, refl))
grouped_home true true (Some b) k (suc zero) l at = (refl, inl (cc))
grouped_home true true (Some b) k (suc (suc n)) l at = cc
grouped_home true true None k zero l at = (refl, inl (cc))
grouped_home true true None k (suc n) l at = cc
grouped_home true false (Some b) k zero l at = (refl, inl (cc))
grouped_home true false (Some b) k (suc n) l at = cc
grouped_home true false None k zero l at = (refl, inl (cc))
grouped_home true false None k (suc n) l at = cc

grouped_distinct : (s c : Bool) (o : Option ℕ) (k : ℕ) → Distinct (grouped s c o k)
grouped_distinct false c o k = distinct_none
grouped_distinct true true (Some b) k = distinct_append (Next b ∷ []) (Body k ∷ []) (distinct_one (Next b)) (distinct_one (Body k)) apart
  where
    one_is : (x y : Label) → Among x (y ∷ []) → y ≡ x
    one_is x y (zero, at) = cc
    one_is x y (suc n, at) = cc

    apart : (x : Label) → Among x (Next b ∷ []) → Among x (Body k ∷ []) → ⊥
    apart x a c = (let same : Next b ≡ Body k = one_is x (Next b) a ∙ sym (one_is x (Body k) c) in cc)
grouped_distinct true true None k = distinct_one (Body k)
grouped_distinct true false (Some b) k = distinct_one (Body k)
grouped_distinct true false None k = distinct_one (Body k)

grouped_body : (c : Bool) (o : Option ℕ) (k : ℕ) → Among (Body k) (grouped true c o k)
grouped_body true (Some b) k = (1, refl)
grouped_body true None k = (0, refl)
grouped_body false (Some b) k = (0, refl)
grouped_body false None k = (0, refl)

-- ---- the labels of blocks

module _ (f : LowFunc) (failing : Bool) where
  abbrev group : ℕ → Block → List Label
  group k b = grouped (stands_among failing (end_of f b)) f.coroutine (awaiting f k) k

  -- of which block a label is
  pub record From (k : ℕ) (blocks : List Block) (l : Label) : Type 0 where
    pub number : ℕ
    pub offset : ℕ
    pub block : Block
    pub at : slice_get blocks offset ≡ Some block
    pub counts : number ≡ k + offset
    pub among : stands_among failing (end_of f block) ≡ true
    pub home : Home f number l

  pub labels_from : (k : ℕ) (blocks : List Block) (l : Label) → Among l (labels f failing k blocks) → From k blocks l
  labels_from k [] l a = cc (a.1)
  labels_from k (b ∷ blocks) l a = elim (among_either (group k b) (labels f failing (k + 1) blocks) l a) [
    | inl front ↦ (let h = grouped_home (stands_among failing (end_of f b)) f.coroutine (awaiting f k) k front.0 l front.1 in
        record { number = k; offset = 0; block = b; at = refl; counts = omega arith; among = h.0; home = h.1 })
    | inr back ↦ (let r : From (k + 1) blocks l = labels_from (k + 1) blocks l back in
        record { number = r.number; offset = suc r.offset; block = r.block; at = r.at; counts = (let c : r.number ≡ k + 1 + r.offset = r.counts in omega (arith, c)); among = r.among; home = r.home })
  ]

  pub labels_distinct : (k : ℕ) (blocks : List Block) → Distinct (labels f failing k blocks)
  labels_distinct k [] = distinct_none
  labels_distinct k (b ∷ blocks) =
      distinct_append (group k b) (labels f failing (k + 1) blocks) (grouped_distinct (stands_among failing (end_of f b)) f.coroutine (awaiting f k) k) (labels_distinct (k + 1) blocks)
      (λ l front back.
      (let h = grouped_home (stands_among failing (end_of f b)) f.coroutine (awaiting f k) k front.0 l front.1 in
      let r : From (k + 1) blocks l = labels_from (k + 1) blocks l back in
      let same : k ≡ r.number = home_once f k r.number l h.1 r.home in
      let c : r.number ≡ k + 1 + r.offset = r.counts in
      absurd (omega (arith, same, c))))

  group_there : (k : ℕ) (b : Block) (l : Label) → stands_among failing (end_of f b) ≡ true → Among l (grouped true f.coroutine (awaiting f k) k) → Among l (group k b)
  group_there k b l among a = subst (λ s. Among l (grouped s f.coroutine (awaiting f k) k)) (sym among) a

  pub body_there : (k : ℕ) (blocks : List Block) (j m : ℕ) (b : Block) → slice_get blocks j ≡ Some b → m ≡ k + j → stands_among failing (end_of f b) ≡ true → Among (Body m) (labels f failing k blocks)
  body_there k [] j m b at is among = cc
  body_there k (c ∷ blocks) zero m b at is among =
      let same : c ≡ b = cc in
      let here : k ≡ m = omega (arith, is) in
      among_left (group k c) (labels f failing (k + 1) blocks) (Body m)
      (subst (λ n. Among (Body n) (group k c)) here (group_there k c (Body k) (ap (λ x. stands_among failing (end_of f x)) same ∙ among) (grouped_body f.coroutine (awaiting f k) k)))
  body_there k (c ∷ blocks) (suc j) m b at is among =
      among_right (group k c) (labels f failing (k + 1) blocks) (Body m) (body_there (k + 1) blocks j m b at (omega (arith, is)) among)

  pub next_there : (k : ℕ) (blocks : List Block) (j m n : ℕ) (b : Block) → slice_get blocks j ≡ Some b → m ≡ k + j → stands_among failing (end_of f b) ≡ true
      → f.coroutine ≡ true → awaiting f m ≡ Some n → Among (Next n) (labels f failing k blocks)
  next_there k [] j m n b at is among task waits = cc
  next_there k (c ∷ blocks) zero m n b at is among task waits =
      let same : c ≡ b = cc in
      let here : m ≡ k = omega (arith, is) in
      let so : awaiting f k ≡ Some n = subst (λ i. awaiting f i ≡ Some n) here waits in
      let first : Among (Next n) (grouped true true (Some n) k) = (0, refl) in
      let also : Among (Next n) (grouped true true (awaiting f k) k) = subst (λ o. Among (Next n) (grouped true true o k)) (sym so) first in
      let all : Among (Next n) (grouped true f.coroutine (awaiting f k) k) = subst (λ t. Among (Next n) (grouped true t (awaiting f k) k)) (sym task) also in
      among_left (group k c) (labels f failing (k + 1) blocks) (Next n) (group_there k c (Next n) (ap (λ x. stands_among failing (end_of f x)) same ∙ among) all)
  next_there k (c ∷ blocks) (suc j) m n b at is among task waits =
      among_right (group k c) (labels f failing (k + 1) blocks) (Next n) (next_there (k + 1) blocks j m n b at (omega (arith, is)) among task waits)

-- ---- the layout

apart_ends : (e : End) → stands_among false e ≡ true → stands_among true e ≡ true → ⊥
apart_ends end.Stays one two = cc
apart_ends end.Waits one two = cc
apart_ends end.Suspends one two = cc
apart_ends end.Gives one two = cc
apart_ends end.Fails one two = cc

-- labels of blocks, and those that only coroutines have
abbrev pub is_own : Label → Bool
is_own (Body k) = false
is_own (Next k) = false
is_own _ = true

home_own : (f : LowFunc) (k : ℕ) (l : Label) → Home f k l → is_own l ≡ false
home_own f k l (inl is) = ap is_own is
home_own f k l (inr is) = ap is_own is.1

module _ (f : LowFunc) where
  abbrev pub staying : List Label
  staying = labels f false 0 f.blocks

  abbrev pub failures : List Label
  failures = labels f true 0 f.blocks

  -- behind its entry
  abbrev pub behind_entry : List Label
  behind_entry = staying ++ (errors_for failures ++ (Cleanup ∷ Suspended ∷ failures))

  regroup : (xs ys zs : List Label) → (Entry ∷ xs) ++ ys ++ zs ≡ Entry ∷ (xs ++ (ys ++ zs))
  regroup xs ys zs = ap (λ ls. Entry ∷ ls) (append_assoc xs ys zs)

  pub task_layout : f.coroutine ≡ true → layout f ≡ Entry ∷ behind_entry
  task_layout task = ap (λ c. cond c (coroutine_layout staying failures) staying) task ∙ regroup staying (errors_for failures) (Cleanup ∷ Suspended ∷ failures)

  pub plain_layout : f.coroutine ≡ false → layout f ≡ staying
  plain_layout plain = ap (λ c. cond c (coroutine_layout staying failures) staying) plain

  own_not : (failing : Bool) (l : Label) → is_own l ≡ true → Among l (labels f failing 0 f.blocks) → ⊥
  own_not failing l own a =
      let r : From f failing 0 f.blocks l = labels_from f failing 0 f.blocks l a in
      let not : is_own l ≡ false = home_own f r.number l r.home in
      cc

  apart : (l : Label) → Among l staying → Among l failures → ⊥
  apart l one two =
      let r : From f false 0 f.blocks l = labels_from f false 0 f.blocks l one in
      let s : From f true 0 f.blocks l = labels_from f true 0 f.blocks l two in
      let same : r.number ≡ s.number = home_once f r.number s.number l r.home s.home in
      let c : r.number ≡ 0 + r.offset = r.counts in
      let d : s.number ≡ 0 + s.offset = s.counts in
      let off : r.offset ≡ s.offset = omega (arith, same, c, d) in
      let both : Some r.block ≡ Some s.block = sym r.at ∙ ap (slice_get f.blocks) off ∙ s.at in
      let block : r.block ≡ s.block = cc in
      apart_ends (end_of f s.block) (subst (λ b. stands_among false (end_of f b) ≡ true) block r.among) s.among

  abbrev ending : List Label
  ending = Cleanup ∷ Suspended ∷ failures

  one_is : (x y : Label) → Among x (y ∷ []) → y ≡ x
  one_is x y (zero, at) = cc
  one_is x y (suc n, at) = cc

  ending_own : (l : Label) → Among l ending → (l ≡ Cleanup) ⊎ ((l ≡ Suspended) ⊎ Among l failures)
  ending_own l (zero, at) = inl (cc)
  ending_own l (suc zero, at) = inr (inl (cc))
  ending_own l (suc (suc n), at) = inr (inr (n, at))

  ending_distinct : Distinct ending
  ending_distinct =
      distinct_append (Cleanup ∷ []) (Suspended ∷ failures) (distinct_one Cleanup)
      (distinct_append (Suspended ∷ []) failures (distinct_one Suspended) (labels_distinct f true 0 f.blocks)
      (λ x a b. own_not true x (ap is_own (sym (one_is x Suspended a))) b))
      (λ x a b. (let is : Cleanup ≡ x = one_is x Cleanup a in not_first x is b))
    where
      not_first : (x : Label) → Cleanup ≡ x → Among x (Suspended ∷ failures) → ⊥
      not_first x is (zero, at) = (let e : Suspended ≡ Cleanup = (let s : Suspended ≡ x = cc in s ∙ sym is) in cc)
      not_first x is (suc n, at) = own_not true x (ap is_own (sym is)) (n, at)

  errors_is : (ls : List Label) (x : Label) → Among x (errors_for ls) → SetsError ≡ x
  errors_is [] x a = cc (a.1)
  errors_is (l ∷ ls) x a = one_is x SetsError a

  errors_distinct : (ls : List Label) → Distinct (errors_for ls)
  errors_distinct [] = distinct_none
  errors_distinct (l ∷ ls) = distinct_one SetsError

  not_error : (x : Label) → SetsError ≡ x → Among x ending → ⊥
  not_error x is a = elim (ending_own x a) [
    | inl c ↦ (let e : SetsError ≡ Cleanup = is ∙ c in cc)
    | inr more ↦ elim more [
      | inl s ↦ (let e : SetsError ≡ Suspended = is ∙ s in cc)
      | inr fails ↦ own_not true x (ap is_own (sym is)) fails
    ]
  ]

  later_distinct : Distinct (errors_for failures ++ ending)
  later_distinct = distinct_append (errors_for failures) ending (errors_distinct failures) ending_distinct (λ x a b. not_error x (errors_is failures x a) b)

  staying_apart : (x : Label) → Among x staying → Among x (errors_for failures ++ ending) → ⊥
  staying_apart x a b = elim (among_either (errors_for failures) ending x b) [
    | inl err ↦ own_not false x (ap is_own (sym (errors_is failures x err))) a
    | inr ends ↦ elim (ending_own x ends) [
      | inl c ↦ own_not false x (ap is_own c) a
      | inr more ↦ elim more [
        | inl s ↦ own_not false x (ap is_own s) a
        | inr fails ↦ apart x a fails
      ]
    ]
  ]

  pub behind_distinct : Distinct behind_entry
  behind_distinct = distinct_append staying (errors_for failures ++ ending) (labels_distinct f false 0 f.blocks) later_distinct staying_apart

  -- no label behind the entry is the entry
  pub entry_apart : Among Entry behind_entry → ⊥
  entry_apart a = elim (among_either staying (errors_for failures ++ ending) Entry a) [
    | inl s ↦ own_not false Entry refl s
    | inr more ↦ elim (among_either (errors_for failures) ending Entry more) [
      | inl err ↦ (let e : SetsError ≡ Entry = errors_is failures Entry err in cc)
      | inr ends ↦ elim (ending_own Entry ends) [
        | inl c ↦ cc
        | inr rest ↦ elim rest [ inl s ↦ cc | inr fails ↦ own_not true Entry refl fails ]
      ]
    ]
  ]

  by_kind : (c : Bool) → f.coroutine ≡ c → Distinct (layout f)
  by_kind true task = subst (λ ls. Distinct ls) (sym (task_layout task))
      (distinct_append (Entry ∷ []) behind_entry (distinct_one Entry) behind_distinct (λ x a b. entry_apart (subst (λ y. Among y behind_entry) (sym (one_is x Entry a)) b)))
  by_kind false plain = subst (λ ls. Distinct ls) (sym (plain_layout plain)) (labels_distinct f false 0 f.blocks)

  pub layout_distinct : Distinct (layout f)
  layout_distinct = by_kind f.coroutine refl

pub place_at : (f : LowFunc) (n : ℕ) (l : Label) → slice_get (layout f) n ≡ Some l → place f l ≡ n
place_at f n l at = layout_distinct f (place f l) n l (place_there f l (n, at)) at

pub labels_stand : LabelsStand
labels_stand f n l at = (place_at f n l at, mapped_there (label_block f) (layout f) n l at)
