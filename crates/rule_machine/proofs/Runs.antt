-- What the symbols lead over, runs; and what runs, they lead over.
use Rattle.std.proofs.Common.{◌≡◌, Bool, true, false, cond, List, [], ◌∷◌, ◌++◌, Option, Some, None, Ok, Err, refl, sym, ap, ◌∙◌, subst}
use Rattle.rule_machine.specs.declared.symbol.Symbol.{Symbol}
use Rattle.rule_machine.specs.declared.symbol.Symbol.TheVariants as symbol
use Rattle.rule_machine.specs.Table.{Line, Table, Leads, line_at, BeginsNone}
use Rattle.rule_machine.specs.Machine.{Place, step, close, closed, run}
use Rattle.rule_machine.specs.Faults.{Begins}

-- ---- one token of a run

pub run-some : {C R A T S : Type 0} (g : Table C R A T S) (k : List (Symbol C R A)) (s : S) (t : T) (ts : List T) (p : Place C R A S)
    → step g k s t ≡ Some p → run g k s (t ∷ ts) ≡ run g p.left p.state ts
run-some g k s t ts p e = rw (e, run) refl

pub run-none : {C R A T S : Type 0} (g : Table C R A T S) (k : List (Symbol C R A)) (s : S) (t : T) (ts : List T)
    → step g k s t ≡ None → run g k s (t ∷ ts) ≡ Err (t ∷ ts)
run-none g k s t ts e = rw (e, run) refl

pub run-act : {C R A T S : Type 0} (g : Table C R A T S) (a : A) (k : List (Symbol C R A)) (s : S) (ts : List T)
    → run g (symbol.Do a ∷ k) s ts ≡ run g k (g.does a s) ts
run-act g a k s [] = refl
run-act g a k s (t ∷ ts) = refl

pub step-nothing : {C R A T S : Type 0} (g : Table C R A T S) (r : R) (k : List (Symbol C R A)) (s : S) (t : T)
    → g.may_end r ≡ true → line_at g r s t ≡ None → step g (symbol.Rule r ∷ k) s t ≡ step g k s t
step-nothing g r k s t e n = rw (n, step) (rw e refl)

pub step-refused : {C R A T S : Type 0} (g : Table C R A T S) (r : R) (k : List (Symbol C R A)) (s : S) (t : T)
    → g.may_end r ≡ false → line_at g r s t ≡ None → step g (symbol.Rule r ∷ k) s t ≡ None
step-refused g r k s t e n = rw (n, step) (rw e refl)

pub step-line : {C R A T S : Type 0} (g : Table C R A T S) (r : R) (k : List (Symbol C R A)) (s : S) (t : T) (l : Line C R A)
    → line_at g r s t ≡ Some l → step g (symbol.Rule r ∷ k) s t ≡ Some (record { left = l.after ++ k; state = g.reads l.first t s })
step-line g r k s t l e = rw (e, step) refl

pub step-word : {C R A T S : Type 0} (g : Table C R A T S) (c : C) (k : List (Symbol C R A)) (s : S) (t : T)
    → g.accepts c s t ≡ true → step g (symbol.Word c ∷ k) s t ≡ Some (record { left = k; state = g.reads c t s })
step-word g c k s t e = rw e refl

pub run-nothing : {C R A T S : Type 0} (g : Table C R A T S) (r : R) (k : List (Symbol C R A)) (s : S) (ts : List T)
    → g.may_end r ≡ true → BeginsNone g r s ts → run g (symbol.Rule r ∷ k) s ts ≡ run g k s ts
run-nothing g r k s [] e n = rw (e, close) refl
run-nothing g r k s (t ∷ ts) e n = rw (step-nothing g r k s t e n, run) refl

-- ---- a text runs

pub leads-run : {C R A T S : Type 0} (g : Table C R A T S) (k : List (Symbol C R A)) (s : S) (ts : List T) (s' : S) → Leads g k s ts s' → run g k s ts ≡ Ok s'
leads-run g _ _ _ _ (Leads.ended s) = refl
leads-run g _ _ _ _ (Leads.word c k s t ts s' e d) = run-some g (symbol.Word c ∷ k) s t ts _ (step-word g c k s t e) ∙ leads-run g _ _ _ _ d
leads-run g _ _ _ _ (Leads.act a k s ts s' d) = run-act g a k s ts ∙ leads-run g _ _ _ _ d
leads-run g _ _ _ _ (Leads.line r k s t ts s' l e d) = run-some g (symbol.Rule r ∷ k) s t ts _ (step-line g r k s t l e) ∙ leads-run g _ _ _ _ d
leads-run g _ _ _ _ (Leads.nothing r k s ts s' e n d) = run-nothing g r k s ts e n ∙ leads-run g _ _ _ _ d

-- ---- what runs is a text

pub by_test : {X : Type 0} (b : Bool) → (b ≡ true → X) → (b ≡ false → X) → X
by_test true y n = y refl
by_test false y n = n refl

pub by_option : {B X : Type 0} (o : Option B) → ((a : B) → o ≡ Some a → X) → (o ≡ None → X) → X
by_option (Some a) y n = y a refl
by_option None y n = n refl

close-leads : {C R A T S : Type 0} (g : Table C R A T S) (k : List (Symbol C R A)) (s s' : S) → close g k s ≡ Some s' → Leads g k s [] s'
close-leads g [] s s' e = let h : s ≡ s' = cc in subst (λ x. Leads g [] s [] x) h (Leads.ended s)
close-leads g (symbol.Word c ∷ k) s s' e = absurd cc
close-leads g (symbol.Do a ∷ k) s s' e = Leads.act a k s [] s' (close-leads g k (g.does a s) s' e)
close-leads {C} {R} {A} {T} {S} g (symbol.Rule r ∷ k) s s' e =
    by_test (g.may_end r)
    (λ y. Leads.nothing r k s [] s' y tt
    (close-leads g k s s' (subst (λ b. cond {A = Option S} b (close g k s) None ≡ Some s') y e)))
    (λ n. let h : None ≡ Some s' = subst (λ b. cond {A = Option S} b (close g k s) None ≡ Some s') n e in absurd cc)

after-line : {C R A T S : Type 0} (g : Table C R A T S) (r : R) (k : List (Symbol C R A)) (s : S) (t : T) (ts : List T) (p : Place C R A S) (s' : S) (l : Line C R A)
    → line_at g r s t ≡ Some l → step g (symbol.Rule r ∷ k) s t ≡ Some p → Leads g p.left p.state ts s'
    → Leads g (symbol.Rule r ∷ k) s (t ∷ ts) s'
after-line {C} {R} {A} {T} {S} g r k s t ts p s' l f e d =
    let q : Place C R A S = record { left = l.after ++ k; state = g.reads l.first t s } in
    let h : p ≡ q = let a : Some q ≡ Some p = sym (step-line g r k s t l f) ∙ e in cc in
    Leads.line r k s t ts s' l f (subst (λ (x : Place C R A S). Leads g x.left x.state ts s') h d)

pub step-leads : {C R A T S : Type 0} (g : Table C R A T S) (k : List (Symbol C R A)) (s : S) (t : T) (ts : List T) (p : Place C R A S) (s' : S)
    → step g k s t ≡ Some p → Leads g p.left p.state ts s' → Leads g k s (t ∷ ts) s'
step-leads g [] s t ts p s' e d = absurd cc
step-leads {C} {R} {A} {T} {S} g (symbol.Word c ∷ k) s t ts p s' e d =
    by_test (g.accepts c s t)
    (λ y. let q : Place C R A S = record { left = k; state = g.reads c t s } in
    let h : p ≡ q = let a : Some q ≡ Some p = sym (step-word g c k s t y) ∙ e in cc in
    Leads.word c k s t ts s' y (subst (λ (x : Place C R A S). Leads g x.left x.state ts s') h d))
    (λ n. let h : None ≡ Some p = subst (λ b. cond {A = Option (Place C R A S)} b (Some (record { left = k; state = g.reads c t s })) None ≡ Some p) n e in absurd cc)
step-leads g (symbol.Do a ∷ k) s t ts p s' e d = Leads.act a k s (t ∷ ts) s' (step-leads g k (g.does a s) t ts p s' e d)
step-leads {C} {R} {A} {T} {S} g (symbol.Rule r ∷ k) s t ts p s' e d =
    by_option (line_at g r s t)
    (λ l f. after-line g r k s t ts p s' l f e d)
    (λ f. by_test (g.may_end r)
    (λ y. Leads.nothing r k s (t ∷ ts) s' y f (step-leads g k s t ts p s' (sym (step-nothing g r k s t y f) ∙ e) d))
    (λ n. let h : None ≡ Some p = sym (step-refused g r k s t n f) ∙ e in absurd cc))

run-none-leads : {C R A T S : Type 0} (g : Table C R A T S) (k : List (Symbol C R A)) (s s' : S) (o : Option S) → close g k s ≡ o → closed {T = T} o ≡ Ok s' → Leads g k s [] s'
run-none-leads g k s s' (Some x) f e = close-leads g k s s' (let h : x ≡ s' = cc in f ∙ ap Some h)
run-none-leads g k s s' None f e = absurd cc

pub run-leads : {C R A T S : Type 0} (g : Table C R A T S) (ts : List T) (k : List (Symbol C R A)) (s s' : S) → run g k s ts ≡ Ok s' → Leads g k s ts s'
run-leads g [] k s s' e = run-none-leads g k s s' (close g k s) refl e
run-leads g (t ∷ ts) k s s' e =
    by_option (step g k s t)
    (λ p f. step-leads g k s t ts p s' f (run-leads g ts p.left p.state s' (sym (run-some g k s t ts p f) ∙ e)))
    (λ f. let h : Err (t ∷ ts) ≡ Ok s' = sym (run-none g k s t ts f) ∙ e in absurd cc)

-- ---- what begins a text

-- behind a token that fits, a text goes on from where it leads
pub leads-after : {C R A T S : Type 0} (g : Table C R A T S) (k : List (Symbol C R A)) (s : S) (t : T) (ts : List T) (p : Place C R A S) (s' : S)
    → step g k s t ≡ Some p → Leads g k s (t ∷ ts) s' → Leads g p.left p.state ts s'
leads-after g k s t ts p s' e d = run-leads g ts p.left p.state s' (sym (run-some g k s t ts p e) ∙ leads-run g k s (t ∷ ts) s' d)

pub begins-after : {C R A T S : Type 0} (g : Table C R A T S) (k : List (Symbol C R A)) (s : S) (t : T) (front : List T) (p : Place C R A S)
    → step g k s t ≡ Some p → Begins g k s (t ∷ front) → Begins g p.left p.state front
begins-after g k s t front p e b = (b.0, b.1, leads-after g k s t (front ++ b.0) p b.1 e b.2)

pub begins-before : {C R A T S : Type 0} (g : Table C R A T S) (k : List (Symbol C R A)) (s : S) (t : T) (front : List T) (p : Place C R A S)
    → step g k s t ≡ Some p → Begins g p.left p.state front → Begins g k s (t ∷ front)
begins-before g k s t front p e b = (b.0, b.1, step-leads g k s t (front ++ b.0) p b.1 e b.2)

-- a text leads to one state
pub one-end : {C R A T S : Type 0} (g : Table C R A T S) (k : List (Symbol C R A)) (s : S) (ts : List T) (p q : S)
    → Leads g k s ts p → Leads g k s ts q → p ≡ q
one-end {T = T} {S = S} g k s ts p q d e =
    let same : Ok p ≡ Ok q = sym (leads-run g k s ts p d) ∙ leads-run g k s ts q e in cc
