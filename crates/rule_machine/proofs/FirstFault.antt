-- Where the machine refuses a token, the first fault of the text stands.
use Rattle.std.proofs.Common.{◌≡◌, true, List, [], ◌∷◌, ◌++◌, Option, Some, None, Ok, Err, refl, sym, ap, ◌∙◌, subst}
use Rattle.rule_machine.specs.declared.symbol.Symbol.{Symbol}
use Rattle.rule_machine.specs.Table.{Table}
use Rattle.rule_machine.specs.Machine.{Place, step, close, closed, run}
use Rattle.rule_machine.specs.Faults.{Begins, IsRefused, IsFirstFault}
use Rattle.rule_machine.specs.Endings.{Endings, CanEnd, good_then}
use Rattle.rule_machine.proofs.Ends.{step-keeps, completes}
use Rattle.rule_machine.proofs.Runs.{leads-run, leads-after, begins-after, begins-before, run-some, run-none, by_option}

refused-before : {C R A T S : Type 0} (g : Table C R A T S) (k : List (Symbol C R A)) (s : S) (t : T) (front rest : List T) (p : Place C R A S)
    → step g k s t ≡ Some p → IsRefused g p.left p.state front rest → IsRefused g k s (t ∷ front) rest
refused-before g k s t front [] p e h = tt
refused-before g k s t front (x ∷ rest) p e h = λ b. h (begins-after g k s t (front ++ x ∷ []) p e b)

fault-before : {C R A T S : Type 0} (g : Table C R A T S) (k : List (Symbol C R A)) (s : S) (t : T) (ts rest : List T) (p : Place C R A S)
    → step g k s t ≡ Some p → IsFirstFault g p.left p.state ts rest → IsFirstFault g k s (t ∷ ts) rest
fault-before {T = T} g k s t ts rest p e f = record {
  front = t ∷ f.front;
  parts = ap (λ (x : List T). t ∷ x) f.parts;
  fits = begins-before g k s t f.front p e f.fits;
  no_text = λ s' d. f.no_text s' (leads-after g k s t ts p s' e d);
  refused = refused-before g k s t f.front rest p e f.refused;
}

module _ {C R A T S : Type 0} (g : Table C R A T S) (Good : List (Symbol C R A) → Type 0)
    (keeps : (k : List (Symbol C R A)) (s : S) (t : T) (p : Place C R A S) → Good k → step g k s t ≡ Some p → Good p.left)
    (completes : (k : List (Symbol C R A)) (s : S) → Good k → Begins g k s []) where
  at-end : (k : List (Symbol C R A)) (s : S) (rest : List T) (o : Option S) → Good k → close g k s ≡ o → closed {T = T} o ≡ Err rest → IsFirstFault g k s [] rest
  at-end k s rest (Some x) h f e = absurd cc
  at-end k s rest None h f e =
      let r : [] ≡ rest = cc in
      subst (λ (x : List T). IsFirstFault g k s [] x) r (record {
        front = [];
        parts = refl;
        fits = completes k s h;
        no_text = λ s' d. let a : closed (close g k s) ≡ Ok s' = leads-run g k s [] s' d in
            let b : closed {T = T} None ≡ Ok s' = subst (λ (x : Option S). closed {T = T} x ≡ Ok s') f a in absurd cc;
        refused = tt;
      })

  at-token : (k : List (Symbol C R A)) (s : S) (t : T) (ts : List T) → Good k → step g k s t ≡ None → IsFirstFault g k s (t ∷ ts) (t ∷ ts)
  at-token k s t ts h f = record {
    front = [];
    parts = refl;
    fits = completes k s h;
    no_text = λ s' d. let a : Err (t ∷ ts) ≡ Ok s' = sym (run-none g k s t ts f) ∙ leads-run g k s (t ∷ ts) s' d in absurd cc;
    refused = λ b. let a : Err (t ∷ b.0) ≡ Ok b.1 = sym (run-none g k s t b.0 f) ∙ leads-run g k s (t ∷ b.0) b.1 b.2 in absurd cc;
  }

  pub first-fault : (ts : List T) (k : List (Symbol C R A)) (s : S) (rest : List T) → Good k → run g k s ts ≡ Err rest → IsFirstFault g k s ts rest
  first-fault [] k s rest h e = at-end k s rest (close g k s) h refl e
  first-fault (t ∷ ts) k s rest h e =
      by_option (step g k s t)
      (λ p f. fault-before g k s t ts rest p f
      (first-fault ts p.left p.state rest (keeps k s t p h f) (sym (run-some g k s t ts p f) ∙ e)))
      (λ f. let r : t ∷ ts ≡ rest = let a : Err (t ∷ ts) ≡ Err rest = sym (run-none g k s t ts f) ∙ e in cc in
      subst (λ (x : List T). IsFirstFault g k s (t ∷ ts) x) r (at-token k s t ts h f))

-- the first fault of what is refused, where the table can end
pub fault-at : {C R A T S : Type 0} (g : Table C R A T S) (e : Endings C R A T S) → CanEnd g e → (last : C) (k : List (Symbol C R A)) (s : S) (ts rest : List T)
    → good_then g e k last ≡ true → run g k s ts ≡ Err rest → IsFirstFault g k s ts rest
fault-at g e can last k s ts rest h f =
    first-fault g (λ x. good_then g e x last ≡ true)
    (λ x s t p i j. step-keeps g e can last x s t p i j) (λ x s i. completes g e can last x s i) ts k s rest h f
