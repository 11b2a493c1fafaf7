-- What is alike of askings, and agreement the other way round.
use Rattle.std.proofs.Common.{◌≡◌, ℕ, List, refl, sym, ap, subst, ◌∙◌}
use Rattle.ir_forms.specs.declared.args.ArgValue.{ArgValue}
use Rattle.ir_forms.specs.declared.names.Action.TheVariants as act
use Rattle.ir_forms.specs.Names.{Path, iteration_of}
use Rattle.source_meaning.specs.Tasks.{Program, Loop, Task, Ask, Next, resumed}
use Rattle.source_meaning.specs.Steps.{next}
use Rattle.source_meaning.specs.World.{World, is_good, outcome, has_ended, all_below, unless_failed, answer, after, enabled, shown}
use Rattle.source_meaning.specs.Sequential.{stops}
use Rattle.carry_laws.specs.Agreement.{LikeLoop, LikeAsk, same, launches, enters, joins_all, LikeNext, goes, asks, ends, Meets, both, first, second, Agreement}

module _ (Like : Task → Task → Type 0) where
  pub answer_like : (w : World) (q : Path) (k : ℕ) (a b : Ask) → LikeAsk Like a b → answer w q k b ≡ answer w q k a
  answer_like w q k a b (same c n) = refl
  answer_like w q k a b (launches t u r h) = refl
  answer_like w q k a b (enters l m h) = refl
  answer_like w q k a b (joins_all l m h) = ap (λ n. unless_failed (all_below (λ i. is_good (outcome w (iteration_of q k i))) n)) h.total

  pub after_like : (w : World) (q : Path) (k : ℕ) (a b : Ask) → LikeAsk Like a b → after w q k b ≡ after w q k a
  after_like w q k a b (same c n) = refl
  after_like w q k a b (launches t u r h) = refl
  after_like w q k a b (enters l m h) = refl
  after_like w q k a b (joins_all l m h) = refl

  pub enabled_like : (w : World) (q : Path) (k : ℕ) (a b : Ask) → LikeAsk Like a b → enabled w q k b ≡ enabled w q k a
  enabled_like w q k a b (same c n) = refl
  enabled_like w q k a b (launches t u r h) = refl
  enabled_like w q k a b (enters l m h) = refl
  enabled_like w q k a b (joins_all l m h) = ap (all_below (λ i. has_ended w (iteration_of q k i))) h.total

  pub shown_like : (a b : Ask) → LikeAsk Like a b → shown b ≡ shown a
  shown_like a b (same c n) = refl
  shown_like a b (launches t u r h) = refl
  shown_like a b (enters l m h) = ap (λ n. act.Enter n m.split) h.total ∙ ap (act.Enter l.total) h.split
  shown_like a b (joins_all l m h) = refl

  pub stops_like : (w : World) (a b : Ask) → LikeAsk Like a b → stops w b ≡ stops w a
  stops_like w a b (same c n) = refl
  stops_like w a b (launches t u r h) = refl
  stops_like w a b (enters l m h) = refl
  stops_like w a b (joins_all l m h) = refl

-- ---- the other way round

module _ (p q : Program) (Like : Task → Task → Type 0) (Kept : World → Type 0) where
  abbrev Back : Task → Task → Type 0
  Back u t = Like t u

  loop_back : (l m : Loop) → LikeLoop Like l m → LikeLoop Back m l
  loop_back l m h = record { total = sym h.total; split = sym h.split; iterations = h.iterations }

  ask_back : (a b : Ask) → LikeAsk Like a b → LikeAsk Back b a
  ask_back a b (same c n) = same c n
  ask_back a b (launches t u r h) = launches u t r h
  ask_back a b (enters l m h) = enters m l (loop_back l m h)
  ask_back a b (joins_all l m h) = joins_all m l (loop_back l m h)

  next_back : (m n : Next) → LikeNext Like Kept m n → LikeNext Back Kept n m
  next_back m n (goes t u h) = goes u t h
  next_back m n (asks at by a b xs ys t u h go) =
      asks by at b a ys xs u t (ask_back a b h) (λ w r k kept.
      (let to = go w r k kept in
      (subst (λ x. Like (resumed at xs t x) (resumed by ys u x)) (sym (answer_like Like w r k a b h)) to.0, subst Kept (sym (after_like Like w r k a b h)) to.1)))
  next_back m n (ends o k) = ends o k

  pub meets_back : (t u : Task) → Meets Like Kept p q t u → Meets Back Kept q p u t
  meets_back t u (both _ _ h) = both u t (next_back (next p t) (next q u) h)
  meets_back t u (first _ _ t' e h) = second u t t' e (meets_back t' u h)
  meets_back t u (second _ _ u' e h) = first u t u' e (meets_back t u' h)

pub turned : (Like : Task → Task → Type 0) (Kept : World → Type 0) (p q : Program) (entry : ℕ) (args : List ArgValue) →
    Agreement Like Kept p q entry args → Agreement (λ u t. Like t u) Kept q p entry args
turned Like Kept p q entry args A = record {
  starts = A.starts;
  kept = A.kept;
  meets = λ u t h there here. meets_back p q Like Kept t u (A.meets t u h here there);
  ends = λ w o. sym (A.ends w o);
}
