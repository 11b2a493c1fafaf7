-- Every stack of symbols that a text reaches can be completed to a text.
use Rattle.std.proofs.Common.{◌≡◌, ℕ, zero, suc, Bool, true, false, cond, ◌&&◌, ◌||◌, List, [], ◌∷◌, ◌++◌, Option, Some, None, refl, sym, ap, ◌∙◌, subst}
use Rattle.rule_machine.specs.declared.symbol.Symbol.{Symbol}
use Rattle.rule_machine.specs.declared.symbol.Symbol.TheVariants as symbol
use Rattle.rule_machine.specs.Table.{Line, Table, Leads, line_at, first_line, BeginsNone}
use Rattle.rule_machine.specs.Machine.{Place, step}
use Rattle.rule_machine.specs.Faults.{Begins}
use Rattle.rule_machine.specs.Endings.{Endings, first_then, good_then, all_good, all_rules, ends_within, IsBegun, Done, CanEnd}
use Rattle.rule_machine.proofs.Runs.{by_test, by_option, step-line, step-word, step-nothing, step-refused}

pub and-left : (a b : Bool) → a && b ≡ true → a ≡ true
and-left true b e = refl
and-left false b e = absurd cc

pub and-right : (a b : Bool) → a && b ≡ true → b ≡ true
and-right true b e = e
and-right false b e = absurd cc

pub and-both : (a b : Bool) → a ≡ true → b ≡ true → a && b ≡ true
and-both true b e f = f
and-both false b e f = absurd cc

-- ---- symbols put before others

first-append : {C R A T S : Type 0} (g : Table C R A T S) (e : Endings C R A T S) (ss k : List (Symbol C R A)) (c : C)
    → first_then g e (ss ++ k) c ≡ first_then g e ss (first_then g e k c)
first-append g e [] k c = refl
first-append g e (symbol.Word d ∷ ss) k c = refl
first-append g e (symbol.Do a ∷ ss) k c = first-append g e ss k c
first-append g e (symbol.Rule r ∷ ss) k c = ap (λ x. cond (g.may_end r) x (e.start r).first) (first-append g e ss k c)

good-append : {C R A T S : Type 0} (g : Table C R A T S) (e : Endings C R A T S) (ss k : List (Symbol C R A)) (c : C)
    → good_then g e ss (first_then g e k c) ≡ true → good_then g e k c ≡ true → good_then g e (ss ++ k) c ≡ true
good-append g e [] k c h i = i
good-append g e (symbol.Word d ∷ ss) k c h i = and-both _ _ (and-left _ _ h) (good-append g e ss k c (and-right (e.usable d) _ h) i)
good-append g e (symbol.Do a ∷ ss) k c h i = good-append g e ss k c h i
good-append g e (symbol.Rule r ∷ ss) k c h i =
    and-both _ _
    (subst (λ x. e.follows r x ≡ true) (sym (first-append g e ss k c)) (and-left _ _ h))
    (good-append g e ss k c (and-right (e.follows r (first_then g e ss (first_then g e k c))) _ h) i)

-- the line that is found is one of the good ones
found-good : {C R A T S : Type 0} (g : Table C R A T S) (e : Endings C R A T S) (ls : List (Line C R A)) (c : C) (s : S) (t : T) (l : Line C R A)
    → all_good g e ls c ≡ true → first_line g ls s t ≡ Some l → good_then g e l.after c ≡ true
found-good g e [] c s t l h f = absurd cc
found-good {C} {R} {A} {T} {S} g e (x ∷ ls) c s t l h f =
    by_test (g.accepts x.first s t)
    (λ y. let a : Some x ≡ Some l = subst (λ b. cond {A = Option (Line C R A)} b (Some x) (first_line g ls s t) ≡ Some l) y f in
    let same : x ≡ l = cc in subst (λ (z : Line C R A). good_then g e z.after c ≡ true) same (and-left _ _ h))
    (λ n. found-good g e ls c s t l (and-right (good_then g e x.after c) _ h)
    (subst (λ b. cond {A = Option (Line C R A)} b (Some x) (first_line g ls s t) ≡ Some l) n f))

module _ {C R A T S : Type 0} (g : Table C R A T S) (e : Endings C R A T S) (can : CanEnd g e) (last : C) where
  -- ---- what is good stays good

  line-keeps : (r : R) (k : List (Symbol C R A)) (s : S) (t : T) (l : Line C R A)
      → good_then g e (symbol.Rule r ∷ k) last ≡ true → line_at g r s t ≡ Some l → good_then g e (l.after ++ k) last ≡ true
  line-keeps r k s t l h f =
      good-append g e l.after k last
      (found-good g e (g.lines r) (first_then g e k last) s t l (can.lines_good r (first_then g e k last) (and-left _ _ h)) f)
      (and-right (e.follows r (first_then g e k last)) _ h)

  pub step-keeps : (k : List (Symbol C R A)) (s : S) (t : T) (p : Place C R A S)
      → good_then g e k last ≡ true → step g k s t ≡ Some p → good_then g e p.left last ≡ true
  step-keeps [] s t p h f = absurd cc
  step-keeps (symbol.Word c ∷ k) s t p h f =
      by_test (g.accepts c s t)
      (λ y. let q : Place C R A S = record { left = k; state = g.reads c t s } in
      let a : Some q ≡ Some p = sym (step-word g c k s t y) ∙ f in
      let same : q ≡ p = cc in subst (λ (z : Place C R A S). good_then g e z.left last ≡ true) same (and-right (e.usable c) _ h))
      (λ n. let a : None ≡ Some p = subst (λ b. cond {A = Option (Place C R A S)} b (Some (record { left = k; state = g.reads c t s })) None ≡ Some p) n f in absurd cc)
  step-keeps (symbol.Do a ∷ k) s t p h f = step-keeps k (g.does a s) t p h f
  step-keeps (symbol.Rule r ∷ k) s t p h f =
      by_option (line_at g r s t)
      (λ l i. let q : Place C R A S = record { left = l.after ++ k; state = g.reads l.first t s } in
      let a : Some q ≡ Some p = sym (step-line g r k s t l i) ∙ f in
      let same : q ≡ p = cc in subst (λ (z : Place C R A S). good_then g e z.left last ≡ true) same (line-keeps r k s t l h i))
      (λ i. by_test (g.may_end r)
      (λ y. step-keeps k s t p (and-right (e.follows r (first_then g e k last)) _ h) (sym (step-nothing g r k s t y i) ∙ f))
      (λ n. let a : None ≡ Some p = sym (step-refused g r k s t n i) ∙ f in absurd cc))

  -- ---- completions

  done-word : (c : C) (k : List (Symbol C R A)) (s : S) (d : C) → e.usable c ≡ true
      → Done g e k (g.reads c (e.sample c s) s) d → Done g e (symbol.Word c ∷ k) s c
  done-word c k s d u r = record {
    more = e.sample c s ∷ r.more;
    last_state = r.last_state;
    leads = Leads.word c k s (e.sample c s) r.more r.last_state (can.sampled c u s) r.leads;
    begun = (s, refl);
  }

  done-act : (a : A) (k : List (Symbol C R A)) (s : S) (c : C) → Done g e k (g.does a s) c → Done g e (symbol.Do a ∷ k) s c
  done-act a k s c r = record {
    more = r.more;
    last_state = r.last_state;
    leads = Leads.act a k s r.more r.last_state r.leads;
    begun = r.begun;
  }

  begins-none : (r : R) (c : C) → e.follows r c ≡ true → g.may_end r ≡ true → (s : S) (ts : List T) → IsBegun e ts c → BeginsNone g r s ts
  begins-none r c f y s [] b = tt
  begins-none r c f y s (t ∷ ts) b = subst (λ x. line_at g r s x ≡ None) (sym b.1) (can.avoids r c f y s b.0)

  done-nothing : (r : R) (k : List (Symbol C R A)) (s : S) (c : C) → e.follows r c ≡ true → g.may_end r ≡ true
      → Done g e k s c → Done g e (symbol.Rule r ∷ k) s c
  done-nothing r k s c f y d = record {
    more = d.more;
    last_state = d.last_state;
    leads = Leads.nothing r k s d.more d.last_state y (begins-none r c f y s d.more d.begun) d.leads;
    begun = d.begun;
  }

  done-line : (r : R) (k : List (Symbol C R A)) (s : S) (c : C) → g.may_end r ≡ false
      → Done g e ((e.start r).after ++ k) (g.reads (e.start r).first (e.sample (e.start r).first s) s) c
      → Done g e (symbol.Rule r ∷ k) s (e.start r).first
  done-line r k s c n d = record {
    more = e.sample (e.start r).first s ∷ d.more;
    last_state = d.last_state;
    leads = Leads.line r k s (e.sample (e.start r).first s) d.more d.last_state (e.start r) (can.starts r n s) d.leads;
    begun = (s, refl);
  }

  -- each rule that passes the test can be completed
  abbrev IsDone : (R → Bool) → Type 0
  IsDone test =
      (r : R) → test r ≡ true → (k : List (Symbol C R A)) (c : C) → e.follows r c ≡ true
      → ((s : S) → Done g e k s c) → (s : S) → Done g e (symbol.Rule r ∷ k) s (cond (g.may_end r) c (e.start r).first)

  rules-done : (test : R → Bool) → IsDone test → (ss k : List (Symbol C R A)) (c : C) → all_rules test ss ≡ true → good_then g e ss c ≡ true
      → ((s : S) → Done g e k s c) → (s : S) → Done g e (ss ++ k) s (first_then g e ss c)
  rules-done test f [] k c p h d s = d s
  rules-done test f (symbol.Word x ∷ ss) k c p h d s =
      done-word x (ss ++ k) s _ (and-left _ _ h) (rules-done test f ss k c p (and-right (e.usable x) _ h) d _)
  rules-done test f (symbol.Do a ∷ ss) k c p h d s = done-act a (ss ++ k) s _ (rules-done test f ss k c p h d _)
  rules-done test f (symbol.Rule r ∷ ss) k c p h d s =
      f r (and-left _ _ p) (ss ++ k) (first_then g e ss c) (and-left _ _ h)
      (rules-done test f ss k c (and-right (test r) _ p) (and-right (e.follows r (first_then g e ss c)) _ h) d) s

  left-out : (r : R) (k : List (Symbol C R A)) (c : C) → e.follows r c ≡ true → g.may_end r ≡ true
      → ((s : S) → Done g e k s c) → (s : S) → Done g e (symbol.Rule r ∷ k) s (cond (g.may_end r) c (e.start r).first)
  left-out r k c f y d s =
      subst (λ b. Done g e (symbol.Rule r ∷ k) s (cond b c (e.start r).first)) (sym y) (done-nothing r k s c f y (d s))

  by-line : (test : R → Bool) → IsDone test → (r : R) (k : List (Symbol C R A)) (c : C) → e.follows r c ≡ true → g.may_end r ≡ false
      → all_rules test (e.start r).after ≡ true
      → ((s : S) → Done g e k s c) → (s : S) → Done g e (symbol.Rule r ∷ k) s (cond (g.may_end r) c (e.start r).first)
  by-line test f r k c h n a d s =
      subst (λ b. Done g e (symbol.Rule r ∷ k) s (cond b c (e.start r).first)) (sym n)
      (done-line r k s _ n
      (rules-done test f (e.start r).after k c a
      (found-good g e (g.lines r) c s _ (e.start r) (can.lines_good r c h) (can.starts r n s)) d _))

  either : (a b : Bool) → a || b ≡ true → (a ≡ false → b ≡ true)
  either true b h n = absurd cc
  either false b h n = h

  within-done : (n : ℕ) → IsDone (ends_within g e n)
  within-done zero r p k c f d s =
      by_test (g.may_end r)
      (λ y. left-out r k c f y d s)
      (λ n. can.special r (either (g.may_end r) (e.is_special r) p n) k c d s)
  within-done (suc n) r p k c f d s =
      by_test (ends_within g e n r)
      (λ y. within-done n r y k c f d s)
      (λ z. by_test (g.may_end r)
      (λ y. left-out r k c f y d s)
      (λ m. by-line (ends_within g e n) (within-done n) r k c f m (either (ends_within g e n r) (all_rules (ends_within g e n) (e.start r).after) p z) d s))

  all-done : (k : List (Symbol C R A)) → good_then g e k last ≡ true → (s : S) → Done g e k s (first_then g e k last)
  all-done [] h s = record { more = []; last_state = s; leads = Leads.ended s; begun = tt }
  all-done (symbol.Word c ∷ k) h s = done-word c k s _ (and-left _ _ h) (all-done k (and-right (e.usable c) _ h) _)
  all-done (symbol.Do a ∷ k) h s = done-act a k s _ (all-done k h _)
  all-done (symbol.Rule r ∷ k) h s =
      within-done can.depth r (can.soon r) k (first_then g e k last) (and-left _ _ h)
      (all-done k (and-right (e.follows r (first_then g e k last)) _ h)) s

  pub completes : (k : List (Symbol C R A)) (s : S) → good_then g e k last ≡ true → Begins g k s []
  completes k s h = let d = all-done k h s in (d.more, d.last_state, d.leads)
