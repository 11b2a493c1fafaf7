-- Quiet steps, and what a task is after the answers to its actions.
use Rattle.std.proofs.Common.{◌≡◌, ◌≤◌, ℕ, zero, suc, ◌+◌, false, List, [], ◌∷◌, length, Option, Some, None, slice_get, refl, sym, ap, subst, ◌∙◌, arith}
use Rattle.ir_forms.specs.declared.ops.ValueNo.{ValueNo}
use Rattle.ir_forms.specs.Names.{Path}
use Rattle.one_end.specs.Programs as one
use Rattle.one_end.proofs.Basics.{none≢some}
use Rattle.source_meaning.specs.declared.values.Val.TheVariants.{Number}
use Rattle.source_meaning.specs.Values.{nothing, or_else}
use Rattle.source_meaning.specs.Parts.{uses_of}
use Rattle.source_meaning.specs.Tasks.{Program, Task, Ask, Answer, Outcome, Next, Goes, Asks, Ends, resumed}
use Rattle.source_meaning.specs.Steps.{next, is_among, is_used}
use Rattle.source_meaning.specs.TaskOrder.{and_then}
use Rattle.std.specs.Prelude.{map}
use Rattle.end_laws.specs.ModuleProgram.{Begin, Values, settled, reply, replied, standing, acted, acts}
use Rattle.end_laws.specs.Unread.{LikeTask, LikeAsk, LikeNext, LikePending, goes, asks, ends, failing, done}
use Rattle.end_laws.specs.Unread as like
use Rattle.end_laws.proofs.Unread.{bound_like, unread_is_unseen, unread_is_free}

and_then_more : {X Y : Type 0} (f g : X → Option Y) (o r : Option X) (y : Y) → ((x : X) → o ≡ Some x → r ≡ Some x) → ((x : X) (z : Y) → f x ≡ Some z → g x ≡ Some z) → and_then f o ≡ Some y → and_then g r ≡ Some y
and_then_more f g None r y h k e = absurd (none≢some y e)
and_then_more f g (Some x) r y h k e = ap (and_then g) (h x refl) ∙ k x y e

module _ (p : Program) where
  settled_more : (m n : ℕ) (s x : Next) → m ≤ n → settled p m s ≡ Some x → settled p n s ≡ Some x
  settled_more zero n (Goes t) x l e = absurd (none≢some x e)
  settled_more (suc m) zero (Goes t) x l e = absurd (omega (arith, l))
  settled_more (suc m) (suc n) (Goes t) x l e = settled_more m n (next p t) x (omega (arith, l)) e
  settled_more m n (Asks at ask xs t) x l e = e
  settled_more m n (Ends o) x l e = e

  pub standing_more : (b : Begin) (answers : List (one.Answer Values)) (m n : ℕ) (t : Task) → m ≤ n → standing p b answers m ≡ Some t → standing p b answers n ≡ Some t
  standing_more b [] m n t l e = e
  standing_more b (a ∷ older) m n t l e =
      and_then_more (λ t. and_then (replied b.path (suc (length older)) a) (settled p m (next p t))) (λ t. and_then (replied b.path (suc (length older)) a) (settled p n (next p t))) (standing p b older m) (standing p b older n) t
      (λ x. standing_more b older m n x l)
      (λ x z. and_then_more (replied b.path (suc (length older)) a) (replied b.path (suc (length older)) a) (settled p m (next p x)) (settled p n (next p x)) z (λ s. settled_more m n (next p x) s l) (λ s y h. h)) e

  -- the first becomes the second by so many quiet steps
  abbrev pub Quiets : ℕ → Task → Task → Type 0
  Quiets zero t v = t ≡ v
  Quiets (suc n) t v = (u : Task) × Quiets n t u × (next p u ≡ Goes v)

  settled_through : (k : ℕ) (t u : Task) → Quiets k t u → (n : ℕ) (x : Next) → settled p n (next p u) ≡ Some x → settled p (k + n) (next p t) ≡ Some x
  settled_through zero t u q n x e = subst (λ m. settled p m (next p t) ≡ Some x) (omega arith) (subst (λ v. settled p n (next p v) ≡ Some x) (sym q) e)
  settled_through (suc k) t u q n x e =
      subst (λ m. settled p m (next p t) ≡ Some x) (omega arith)
      (settled_through k t q.0 q.1 (suc n) x (subst (λ s. settled p (suc n) s ≡ Some x) (sym q.2) e))

  settled_goes : (n : ℕ) (u : Task) (x : Next) → settled p n (Goes u) ≡ Some x → settled p n (next p u) ≡ Some x
  settled_goes zero u x e = absurd (none≢some x e)
  settled_goes (suc n) u x e = settled_more n (suc n) (next p u) x (omega arith) e

  pub settled_from : (k : ℕ) (t u : Task) → Quiets k t u → (n : ℕ) (x : Next) → settled p n (next p t) ≡ Some x → settled p n (next p u) ≡ Some x
  settled_from zero t u q n x e = subst (λ v. settled p n (next p v) ≡ Some x) q e
  settled_from (suc k) t u q n x e = settled_goes n u x (subst (λ s. settled p n s ≡ Some x) q.2 (settled_from k t q.0 q.1 n x e))

  -- ---- steps that are alike

  pub like_goes : (x y : Next) (u : Task) → LikeNext p x y → y ≡ Goes u → (w : Task) × (x ≡ Goes w) × LikeTask p w u
  like_goes x y u (goes t v m) e = (t, refl, subst (LikeTask p t) (inside e) m) where
    inside : Goes v ≡ Goes u → v ≡ u
    inside h = cc
  like_goes x y u (asks at a b xs t v m h) e = absurd (apart e) where
    apart : Asks at b xs v ≡ Goes u → ⊥
    apart h = cc
  like_goes x y u (ends o) e = absurd (apart e) where
    apart : Ends o ≡ Goes u → ⊥
    apart h = cc

  -- the step asks the same, and goes on alike
  pub record AsksAlike (x : Next) (at : ℕ) (ask : Ask) (xs : List ValueNo) (u : Task) : Type 0 where
    pub asking : Ask
    pub onward : Task
    pub is : x ≡ Asks at asking xs onward
    pub like_ask : LikeAsk p asking ask
    pub like : LikeTask p onward u

  pub like_asks : (x y : Next) (at : ℕ) (ask : Ask) (xs : List ValueNo) (u : Task) → LikeNext p x y → y ≡ Asks at ask xs u → AsksAlike x at ask xs u
  like_asks x y at ask xs u (asks at' a b xs' t v m h) e = record { asking = a; onward = t; is = ap (λ n. Asks n a xs' t) (place e) ∙ ap (λ ys. Asks at a ys t) (names e); like_ask = subst (LikeAsk p a) (asked_same e) m; like = subst (LikeTask p t) (task e) h } where
    place : Asks at' b xs' v ≡ Asks at ask xs u → at' ≡ at
    place w = cc

    names : Asks at' b xs' v ≡ Asks at ask xs u → xs' ≡ xs
    names w = cc

    asked_same : Asks at' b xs' v ≡ Asks at ask xs u → b ≡ ask
    asked_same w = cc

    task : Asks at' b xs' v ≡ Asks at ask xs u → v ≡ u
    task w = cc
  like_asks x y at ask xs u (goes t v m) e = absurd (apart e) where
    apart : Goes v ≡ Asks at ask xs u → ⊥
    apart h = cc
  like_asks x y at ask xs u (ends o) e = absurd (apart e) where
    apart : Ends o ≡ Asks at ask xs u → ⊥
    apart h = cc

  pub like_ends : (x y : Next) (o : Outcome) → LikeNext p x y → y ≡ Ends o → x ≡ Ends o
  like_ends x y o (ends o') e = e
  like_ends x y o (goes t v m) e = absurd (apart e) where
    apart : Goes v ≡ Ends o → ⊥
    apart h = cc
  like_ends x y o (asks at a b xs t v m h) e = absurd (apart e) where
    apart : Asks at b xs v ≡ Ends o → ⊥
    apart h = cc

  pub like_reply : (q : Path) (k : ℕ) (a b : Ask) (r : one.Answer Values) → LikeAsk p a b → reply q k a r ≡ reply q k b r
  like_reply q k a b r (like.same c z) = refl
  like_reply q k a b r (like.launches t u n m) = refl
  like_reply q k a b r (like.enters l m h) = refl
  like_reply q k a b one.Done (like.joins_all l m h) = refl
  like_reply q k a b (one.Number n) (like.joins_all l m h) = refl
  like_reply q k a b (one.Gives vs) (like.joins_all l m h) = refl
  like_reply q k a b one.Error (like.joins_all l m h) = refl

  module _ (uses : p.uses ≡ map uses_of p.funcs) where
    pub resumed_like : (at : ℕ) (xs : List ValueNo) (t u : Task) (r : Answer) → LikeTask p t u → LikeTask p (resumed at xs t r) (resumed at xs u r)
    resumed_like at xs t u None h = record { pending = failing at done; rest = h.rest; read = h.read; frames = h.frames; scope = h.scope }
    resumed_like at xs t u (Some vs) h = bound_like p uses xs vs t u h

    -- a rank that nothing reads may be any
    pub rank_free : (at : ℕ) (xs : List ValueNo) (t u : Task) (n : ℕ) → LikeTask p t u → is_used p u.scope.func (slice_get xs 0) ≡ false →
        LikeTask p (resumed at xs t (Some (nothing ∷ []))) (resumed at xs u (Some (Number n ∷ [])))
    rank_free at [] t u n h e = record { pending = h.pending; rest = h.rest; read = h.read; frames = h.frames; scope = record { func = h.scope.func; nest = h.scope.nest; sees = h.scope.sees } }
    rank_free at (x ∷ xs) t u n h e = unread_is_free p t u x nothing (Number n) (subst (λ f. is_among x.0 (or_else [] (slice_get p.uses f)) ≡ false) h.scope.func e) h

    -- ---- a task after the answers to its actions, some quiet steps on

    pub record Stands (b : Begin) (answers : List (one.Answer Values)) (t : Task) : Type 0 where
      pub fuel : ℕ
      pub stood : Task
      pub stands : standing p b answers fuel ≡ Some stood
      pub quiet : ℕ
      pub here : Task
      pub quiets : Quiets quiet stood here
      pub like : LikeTask p here t

    pub stands_quiet : (b : Begin) (answers : List (one.Answer Values)) (t u : Task) → Stands b answers t → next p t ≡ Goes u → Stands b answers u
    stands_quiet b answers t u s e =
        let g = like_goes (next p s.here) (next p t) u (unread_is_unseen p s.here t uses s.like) e in
        record { fuel = s.fuel; stood = s.stood; stands = s.stands; quiet = suc s.quiet; here = g.0; quiets = (s.here, s.quiets, g.1); like = g.2 }

    -- what it does next, within so many quiet steps
    pub record NextIs (b : Begin) (answers : List (one.Answer Values)) (x : Next) : Type 0 where
      pub fuel : ℕ
      pub stood : Task
      pub stands : standing p b answers fuel ≡ Some stood
      pub settles : settled p fuel (next p stood) ≡ Some x

    stands_next : (b : Begin) (answers : List (one.Answer Values)) (t : Task) (x : Next) → (s : Stands b answers t) → next p s.here ≡ x → settled p 0 x ≡ Some x → NextIs b answers x
    stands_next b answers t x s e h = record {
      fuel = s.fuel + s.quiet;
      stood = s.stood;
      stands = standing_more b answers s.fuel (s.fuel + s.quiet) s.stood (omega arith) s.stands;
      settles = settled_more (s.quiet + 0) (s.fuel + s.quiet) (next p s.stood) x (omega arith) (settled_through s.quiet s.stood s.here s.quiets 0 x (ap (settled p 0) e ∙ h));
    }

    pub record AskedNext (b : Begin) (answers : List (one.Answer Values)) (at : ℕ) (ask : Ask) (xs : List ValueNo) (u : Task) : Type 0 where
      pub asking : Ask
      pub onward : Task
      pub next_is : NextIs b answers (Asks at asking xs onward)
      pub like_ask : LikeAsk p asking ask
      pub like : LikeTask p onward u

    pub stands_asks : (b : Begin) (answers : List (one.Answer Values)) (t : Task) (at : ℕ) (ask : Ask) (xs : List ValueNo) (u : Task) → Stands b answers t → next p t ≡ Asks at ask xs u → AskedNext b answers at ask xs u
    stands_asks b answers t at ask xs u s e =
        let a = like_asks (next p s.here) (next p t) at ask xs u (unread_is_unseen p s.here t uses s.like) e in
        record { asking = a.asking; onward = a.onward; next_is = stands_next b answers t (Asks at a.asking xs a.onward) s a.is refl; like_ask = a.like_ask; like = a.like }

    pub stands_ends : (b : Begin) (answers : List (one.Answer Values)) (t : Task) (o : Outcome) → Stands b answers t → next p t ≡ Ends o → NextIs b answers (Ends o)
    stands_ends b answers t o s e =
        stands_next b answers t (Ends o) s (like_ends (next p s.here) (next p t) o (unread_is_unseen p s.here t uses s.like) e) refl

    -- so it acts
    pub next_acts : (b : Begin) (answers : List (one.Answer Values)) (x : Next) (n : NextIs b answers x) → acts p b answers n.fuel ≡ acted b.path (suc (length answers)) x
    next_acts b answers x n =
        ap (and_then (λ t. and_then (acted b.path (suc (length answers))) (settled p n.fuel (next p t)))) n.stands ∙ ap (and_then (acted b.path (suc (length answers)))) n.settles

    -- and stands behind the answer
    pub stands_after : (b : Begin) (answers : List (one.Answer Values)) (at : ℕ) (ask : Ask) (xs : List ValueNo) (u : Task) (a : AskedNext b answers at ask xs u) (r : one.Answer Values) (v : Task) →
        LikeTask p (resumed at xs a.onward (reply b.path (suc (length answers)) a.asking r)) v → Stands b (r ∷ answers) v
    stands_after b answers at ask xs u a r v m = record {
      fuel = a.next_is.fuel;
      stood = resumed at xs a.onward (reply b.path (suc (length answers)) a.asking r);
      stands = ap (and_then (λ t. and_then (replied b.path (suc (length answers)) r) (settled p a.next_is.fuel (next p t)))) a.next_is.stands ∙ ap (and_then (replied b.path (suc (length answers)) r)) a.next_is.settles;
      quiet = 0;
      here = resumed at xs a.onward (reply b.path (suc (length answers)) a.asking r);
      quiets = refl;
      like = m;
    }
