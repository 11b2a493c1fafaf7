-- What each call keeps of a whole table.
use Rattle.std.proofs.Common.{◌≡◌, ◌≤◌, ◌<◌, ℕ, zero, suc, ◌+◌, ◌-◌, ◌^◌, ◌==◌, nat_lt, Bool, true, false, List, [], ◌∷◌, ◌++◌, length, refl, sym, ap, subst, ◌∙◌, arith, length-append, ⊎_elim}
use Rattle.std.proofs.lemmas.Bool.{true≢false}
use Rattle.std.proofs.lemmas.Bool.Decides.{eqb_tells, leb_tells}
use Rattle.ir_forms.specs.declared.runs.ObjNo.{ObjNo}
use Rattle.ir_forms.specs.declared.runs.TaskNo.{TaskNo}
use Rattle.async_objects.specs.declared.kinds.Kind.{Kind}
use Rattle.async_objects.specs.declared.kinds.Kind.TheVariants.{Token, Value, Group}
use Rattle.async_objects.specs.declared.kinds.Val.{Val}
use Rattle.std.specs.Prelude.{Option}
use Rattle.async_objects.specs.declared.object.Object.{Object}
use Rattle.async_objects.specs.Objects.{blank, new_object, object_at, put, one_if, is_group, is_open, takes_more, with_added, with_membership, counted_down}
use Rattle.async_objects.specs.Counts.{count_at, put_count, live, less, changed, first_count}
use Rattle.async_objects.specs.Slots.{Kept}
use Rattle.async_objects.specs.Kept.{with_kept, lowered, joined, CanCount, IsFilled, filled_by}
use Rattle.async_objects.specs.Sound.{Fits, IsSound, times, waited, awaiting, pending}
use Rattle.async_objects.specs.Tables.{CanDrop, CanRelease}
use Rattle.async_objects.proofs.ListLemmas.{by_eq}
use Rattle.async_objects.proofs.ViewLemmas.{count_past}
use Rattle.async_objects.proofs.SoundLemmas.{put_other, awaiting_same, awaiting_grows, awaiting_end, fits_like, fits_added, fits_joined, fits_counts, fits_gone, fits_created}
use Rattle.async_objects.proofs.LoopLemmas.{length_put, length_count, count_same, count_other, numbered, group_size, one_most, live_counted, fits_down, fits_lowered, length_lowered}

-- what a table keeps, with so many spare places
abbrev pub Keeps : Kept → (limit waiters places spare : ℕ) → Type 0
Keeps k limit waiters places spare = IsSound k.objects k.counts × (live k.counts ≤ limit) × (spare + awaiting k.objects ≡ places) × (waiters ≤ places) × (places < 2 ^ 62)

-- ---- how many are there

pub live_end : (counts : List ℕ) (n : ℕ) → live (counts ++ n ∷ []) ≤ live counts + 1
live_end [] n = omega (arith, one_most (nat_lt 0 n))
live_end (c ∷ counts) n = omega (arith, live_end counts n)

-- ---- who awaits and what is held

pub like_keeps : (k : Kept) (limit waiters places places' spare spare' : ℕ) (o : ObjNo) (y : Object) (p : Option Val) (a : List TaskNo) → Keeps k limit waiters places spare → 0 < count_at k.counts o.0 → y ≡ object_at k.objects o → spare' + length a + places ≡ spare + length y.awaiters + places' → places ≤ places' → places' < 2 ^ 62 →
    Keeps (with_kept (put k.objects o (record { kind = y.kind; state = y.state; payload = p; awaiters = a; memberships = y.memberships; members = y.members })) k) limit waiters places' spare'
like_keeps k limit waiters places places' spare spare' o y p a keeps some is moved grows most =
    let h : o.0 < length k.objects = numbered k.objects k.counts o.0 keeps.0.1 some in
    let x : Object = record { kind = y.kind; state = y.state; payload = p; awaiters = a; memberships = y.memberships; members = y.members } in
    let sum : awaiting (put k.objects o x) + length (object_at k.objects o).awaiters ≡ awaiting k.objects + length a = awaiting_grows k.objects o.0 x h in
    let had : length y.awaiters ≡ length (object_at k.objects o).awaiters = ap (λ z. length z.awaiters) is in
    let was : spare + awaiting k.objects ≡ places = keeps.2 in (
      (
        subst (λ z. Fits [] [] (put k.objects o (record { kind = z.kind; state = z.state; payload = p; awaiters = a; memberships = z.memberships; members = z.members })) k.counts) (sym is) (fits_like [] [] k.objects k.counts o p a h keeps.0.0),
        length_put k.objects o.0 x ∙ keeps.0.1,
      ),
      keeps.1,
      omega (arith, sum, had, was, moved),
      omega (arith, keeps.3, grows),
      most,
    )

-- ---- references

pub raise_keeps : (k : Kept) (limit waiters places spare : ℕ) (o : ObjNo) (n : ℕ) → Keeps k limit waiters places spare → 0 < count_at k.counts o.0 → count_at k.counts o.0 ≤ n → Keeps (record { objects = k.objects; counts = put_count k.counts o.0 n; room = k.room }) limit waiters places spare
raise_keeps k limit waiters places spare o n keeps some up =
    let h : o.0 < length k.counts = subst (λ m. o.0 < m) keeps.0.1 (numbered k.objects k.counts o.0 keeps.0.1 some) in
    let higher : (g : ObjNo) → count_at k.counts g.0 ≤ count_at (put_count k.counts o.0 n) g.0 = λ g. ⊎_elim (λ t. subst (λ j. count_at k.counts j ≤ count_at (put_count k.counts o.0 n) j) (sym t.1) (let new : count_at (put_count k.counts o.0 n) o.0 ≡ n = count_same k.counts o.0 n in omega (arith, new, up))) (λ f. let new : count_at (put_count k.counts o.0 n) g.0 ≡ count_at k.counts g.0 = count_other k.counts o.0 g.0 n f.1 in omega (arith, new)) (eqb_tells g.0 o.0) in (
      (
        fits_counts [] [] [] k.objects k.counts (put_count k.counts o.0 n) keeps.0.0 (λ g. let old : waited g.0 k.objects + 0 ≤ count_at k.counts g.0 = keeps.0.0.counted g in omega (arith, old, higher g)) (λ g l. absurd (omega (arith, l))) (λ x opened. let old : 0 < count_at k.counts x.0 = keeps.0.0.open_there x opened in omega (arith, old, higher x)),
        keeps.0.1 ∙ sym (length_count k.counts o.0 n h),
      ),
      (let fewer : live (put_count k.counts o.0 n) ≤ live k.counts = live_counted k.counts o.0 n h some in omega (arith, fewer, keeps.1)),
      keeps.2,
      keeps.3,
      keeps.4,
    )

-- a group's elements that it waits for are those that wait for it, and nothing else is waited for
pub waited_pending : (objects : List Object) (counts : List ℕ) (o : ObjNo) (n : ℕ) → Fits [] [] objects counts → (is_group (object_at objects o).kind ≡ true → pending (object_at objects o) ≤ n) → waited o.0 objects ≤ n
waited_pending objects counts o n fits enough = ⊎_elim
    (λ t. let grouped : is_group (object_at objects o).kind ≡ true = fits.groups o (omega (arith, t.1)) in
    let size = group_size (object_at objects o).kind grouped in
    let all_of : waited o.0 objects + 0 + (object_at objects o).members.done ≡ (object_at objects o).members.added = fits.elements o size.0 size.1 in
    let left : (object_at objects o).members.added - (object_at objects o).members.done ≤ n = enough grouped in omega (arith, all_of, left))
    (λ f. omega (arith, f.1)) (leb_tells 1 (waited o.0 objects))

pub lower_keeps : (k k' : Kept) (limit waiters places spare spare' : ℕ) (o : ObjNo) (n : ℕ) → Keeps k limit waiters places spare → CanDrop n (count_at k.counts o.0) (object_at k.objects o) → k' ≡ lowered o n k → spare' + awaiting k'.objects ≡ spare + awaiting k.objects → Keeps k' limit waiters places spare'
lower_keeps k k' limit waiters places spare spare' o n keeps can is moved =
    let some : 0 < count_at k.counts o.0 = omega (arith, can.0, can.1) in
    let h : o.0 < length k.objects = numbered k.objects k.counts o.0 keeps.0.1 some in
    let few : waited o.0 k.objects ≤ count_at k.counts o.0 - n = waited_pending k.objects k.counts o (count_at k.counts o.0 - n) keeps.0.0 can.3 in
    let longs = length_lowered k o n (subst (λ m. o.0 < m) keeps.0.1 h) in
    let all_of : spare' + awaiting k'.objects ≡ places = moved ∙ keeps.2 in
    let fewer : live (changed (less o n) k.counts) ≤ live k.counts = live_counted k.counts o.0 _ (subst (λ m. o.0 < m) keeps.0.1 h) some in (
      subst (λ j. IsSound j.objects j.counts) (sym is) (fits_lowered [] k o n h can.1 can.2 (omega (arith, few, can.1)) keeps.0.0, longs.0 ∙ (keeps.0.1 ∙ sym longs.1)),
      subst (λ j. live j.counts ≤ limit) (sym is) (omega (arith, fewer, keeps.1)),
      all_of,
      keeps.3,
      keeps.4,
    )

pub gone_keeps : (k k' : Kept) (limit waiters places spare spare' : ℕ) (o : ObjNo) → Keeps k limit waiters places spare → 0 < count_at k.counts o.0 → CanRelease (object_at k.objects o) → k' ≡ record { objects = put k.objects o blank; counts = put_count k.counts o.0 0; room = k.room } → spare' ≡ spare + length (object_at k.objects o).awaiters → Keeps k' limit waiters places spare'
gone_keeps k k' limit waiters places spare spare' o keeps some can is moved =
    let h : o.0 < length k.objects = numbered k.objects k.counts o.0 keeps.0.1 some in
    let h' : o.0 < length k.counts = subst (λ m. o.0 < m) keeps.0.1 h in
    let none : waited o.0 k.objects ≤ 0 = waited_pending k.objects k.counts o 0 keeps.0.0 (λ g. let is : pending (object_at k.objects o) ≡ 0 = can.1 g in omega (arith, is)) in
    let sum : awaiting (put k.objects o blank) + length (object_at k.objects o).awaiters ≡ awaiting k.objects + 0 = awaiting_grows k.objects o.0 blank h in
    let was : spare + awaiting k.objects ≡ places = keeps.2 in
    let fewer : live (put_count k.counts o.0 0) ≤ live k.counts = live_counted k.counts o.0 0 h' some in
    subst (λ j. Keeps j limit waiters places spare') (sym is) (
      (fits_gone [] [] k.objects k.counts (put_count k.counts o.0 0) o h can.0 (omega (arith, none)) (λ g d. count_other k.counts o.0 g.0 0 d) keeps.0.0, length_put k.objects o.0 blank ∙ (keeps.0.1 ∙ sym (length_count k.counts o.0 0 h'))),
      omega (arith, fewer, keeps.1),
      omega (arith, sum, was, moved),
      keeps.3,
      keeps.4,
    )

-- ---- making

pub count_end : (counts : List ℕ) (n : ℕ) → count_at (counts ++ n ∷ []) (length counts) ≡ n
count_end [] n = refl
count_end (c ∷ counts) n = count_end counts n

pub count_before : (counts : List ℕ) (n g : ℕ) → (g ≡ length counts → ⊥) → count_at (counts ++ n ∷ []) g ≡ count_at counts g
count_before [] n zero d = absurd (d refl)
count_before [] n (suc g) d = refl
count_before (c ∷ counts) n zero d = refl
count_before (c ∷ counts) n (suc g) d = count_before counts n g (λ e. d (ap suc e))

pub put_end : (counts : List ℕ) (n : ℕ) → put_count counts (length counts) n ≡ counts ++ n ∷ []
put_end [] n = refl
put_end (c ∷ counts) n = ap (λ cs. c ∷ cs) (put_end counts n)

pub create_keeps : (k k' : Kept) (limit waiters places spare : ℕ) (kind : Kind) (n : ℕ) → Keeps k limit waiters places spare → 0 < n → live k.counts < limit → k' ≡ record { objects = k.objects ++ new_object kind ∷ []; counts = k.counts ++ n ∷ []; room = k.room } → Keeps k' limit waiters places spare
create_keeps k k' limit waiters places spare kind n keeps some space is =
    let sum : awaiting (k.objects ++ new_object kind ∷ []) ≡ awaiting k.objects + 0 = awaiting_end k.objects (new_object kind) in
    let was : spare + awaiting k.objects ≡ places = keeps.2 in
    let most : live (k.counts ++ n ∷ []) ≤ live k.counts + 1 = live_end k.counts n in
    let longer : length (k.objects ++ new_object kind ∷ []) ≡ length k.objects + 1 = length-append k.objects (new_object kind ∷ []) in
    let longer' : length (k.counts ++ n ∷ []) ≡ length k.counts + 1 = length-append k.counts (n ∷ []) in
    let known : length k.objects ≡ length k.counts = keeps.0.1 in
    subst (λ j. Keeps j limit waiters places spare) (sym is) (
      (
        fits_created k.objects k.counts (k.counts ++ n ∷ []) kind (λ g d. count_before k.counts n g.0 (λ e. d (e ∙ sym known))) (subst (λ m. 0 < count_at (k.counts ++ n ∷ []) m) (sym known) (let at : count_at (k.counts ++ n ∷ []) (length k.counts) ≡ n = count_end k.counts n in omega (arith, at, some))) keeps.0.0,
        omega (arith, longer, longer', known),
      ),
      omega (arith, most, space),
      omega (arith, sum, was),
      keeps.3,
      keeps.4,
    )

-- ---- adding to a group

pub is_filled : (k : Kept) (g : ObjNo) → Fits [] [] k.objects k.counts → is_group (object_at k.objects g).kind ≡ true → IsFilled (object_at k.objects g)
is_filled k g fits grouped =
    let size = group_size (object_at k.objects g).kind grouped in
    subst (λ kind. filled_by kind (object_at k.objects g).members.added) (sym size.1) (fits.within g size.0 size.1)

pub apart : (objects : List Object) (g e : ObjNo) → is_group (object_at objects g).kind ≡ true → is_group (object_at objects e).kind ≡ false → g.0 ≡ e.0 → ⊥
apart objects g e grouped single is = true≢false (sym grouped ∙ (ap (λ n. is_group (object_at objects (record { 0 = n })).kind) is ∙ single))

pub can_count : (k : Kept) (g : ObjNo) → Fits [] [] k.objects k.counts → is_group (object_at k.objects g).kind ≡ true → CanCount (with_added (object_at k.objects g))
can_count k g fits grouped =
    let size = group_size (object_at k.objects g).kind grouped in
    let all_of : waited g.0 k.objects + 0 + (object_at k.objects g).members.done ≡ (object_at k.objects g).members.added = fits.elements g size.0 size.1 in
    (omega (arith, all_of), fits.failed g size.0 size.1)

pub join_keeps : (k k' : Kept) (limit waiters places spare : ℕ) (e g : ObjNo) → Keeps k limit waiters places spare → 0 < count_at k.counts e.0 → 0 < count_at k.counts g.0 → takes_more (object_at k.objects g) ≡ true → is_open (object_at k.objects e) ≡ true → (g.0 ≡ e.0 → ⊥) → k' ≡ joined e g k → Keeps k' limit waiters places spare
join_keeps k k' limit waiters places spare e g keeps there_e there_g takes opened d is =
    let grouped : List Object = put k.objects g (with_added (object_at k.objects g)) in
    let he : e.0 < length k.objects = numbered k.objects k.counts e.0 keeps.0.1 there_e in
    let hg : g.0 < length k.objects = numbered k.objects k.counts g.0 keeps.0.1 there_g in
    let hg' : g.0 < length k.counts = subst (λ m. g.0 < m) keeps.0.1 hg in
    let long : length grouped ≡ length k.objects = length_put k.objects g.0 _ in
    let n : ℕ = count_at k.counts g.0 + (0 + 1) - 0 in
    let counts : List ℕ = put_count k.counts g.0 n in
    let added : Fits (g ∷ []) [] grouped k.counts = fits_added [] [] k.objects k.counts g hg takes keeps.0.0 in
    let new : count_at counts g.0 ≡ n = count_same k.counts g.0 n in
    let higher : (h : ObjNo) → count_at k.counts h.0 + times h.0 (g ∷ []) ≤ count_at counts h.0 = λ h. ⊎_elim (λ t. subst (λ j. count_at k.counts j + times j (g ∷ []) ≤ count_at counts j) (sym t.1) (omega (arith, new, one_most (g.0 == g.0)))) (λ f. let other : count_at counts h.0 ≡ count_at k.counts h.0 = count_other k.counts g.0 h.0 n f.1 in let none : times h.0 (g ∷ []) ≡ 0 = by_eq g.0 h.0 (λ b. 0 + one_if b ≡ 0) (λ s. absurd (f.1 (sym s))) (λ _. refl) in omega (arith, other, none)) (eqb_tells h.0 g.0) in
    let raised_fits : Fits (g ∷ []) (g ∷ []) grouped counts = fits_counts (g ∷ []) [] (g ∷ []) grouped k.counts counts added (λ h. let old : waited h.0 grouped + 0 ≤ count_at k.counts h.0 = added.counted h in omega (arith, old, higher h)) (λ h l. added.groups h (omega (arith, l))) (λ x o. let old : 0 < count_at k.counts x.0 = added.open_there x o in omega (arith, old, higher x)) in
    let other : object_at grouped e ≡ object_at k.objects e = put_other k.objects g e _ (λ s. d (sym s)) in
    let same : awaiting grouped ≡ awaiting k.objects = awaiting_same k.objects g _ refl in
    let same' : awaiting (put grouped e (with_membership g (object_at grouped e))) ≡ awaiting grouped = awaiting_same grouped e _ refl in
    let was : spare + awaiting k.objects ≡ places = keeps.2 in
    let fewer : live counts ≤ live k.counts = live_counted k.counts g.0 n hg' there_g in
    subst (λ j. Keeps j limit waiters places spare) (sym is) (
      (fits_joined grouped counts e g (omega (arith, long, he)) (ap is_open other ∙ opened) raised_fits, length_put grouped e.0 _ ∙ (long ∙ (keeps.0.1 ∙ sym (length_count k.counts g.0 n hg')))),
      omega (arith, fewer, keeps.1),
      omega (arith, same, same', was),
      keeps.3,
      keeps.4,
    )

pub added_keeps : (k k' : Kept) (limit waiters places spare spare' : ℕ) (g : ObjNo) (failed : Bool) → Keeps k limit waiters places spare → 0 < count_at k.counts g.0 → takes_more (object_at k.objects g) ≡ true →
    k' ≡ with_kept (counted_down failed g (put k.objects g (with_added (object_at k.objects g)))).objects k → spare' + awaiting k'.objects ≡ spare + awaiting k.objects → Keeps k' limit waiters places spare'
added_keeps k k' limit waiters places spare spare' g failed keeps there_g takes is moved =
    let grouped : List Object = put k.objects g (with_added (object_at k.objects g)) in
    let hg : g.0 < length k.objects = numbered k.objects k.counts g.0 keeps.0.1 there_g in
    let long : length grouped ≡ length k.objects = length_put k.objects g.0 _ in
    let all_of : spare' + awaiting k'.objects ≡ places = moved ∙ keeps.2 in (
      subst (λ j. IsSound j.objects j.counts) (sym is) (fits_down g [] [] grouped k.counts failed (omega (arith, long, hg)) (fits_added [] [] k.objects k.counts g hg takes keeps.0.0), length_put grouped g.0 _ ∙ (long ∙ keeps.0.1)),
      subst (λ j. live j.counts ≤ limit) (sym is) keeps.1,
      all_of,
      keeps.3,
      keeps.4,
    )

pub first_some : (kind : Kind) (n : ℕ) → n ≡ first_count kind → 0 < n
first_some Token n e = omega (arith, e)
first_some Value n e = omega (arith, e)
first_some (Group size) n e = omega (arith, e)

-- one more count, as a change
pub created_seen : (counts : List ℕ) (o n m : ℕ) → o ≡ length counts → m ≡ n → counts ++ m ∷ [] ≡ put_count counts o (count_at counts o + (n + 0) - 0)
created_seen counts o n m is same =
    let none : count_at counts o ≡ 0 = count_past counts o (omega (arith, is)) in
    let value : m ≡ count_at counts o + (n + 0) - 0 = omega (arith, none, same) in
    sym (put_end counts m) ∙ (ap (λ j. put_count counts j m) (sym is) ∙ ap (put_count counts o) value)
