-- A task of a module comes to one action at most, so the law of one end holds.
use Rattle.std.proofs.Common.{◌≡◌, ℕ, zero, suc, List, [], ◌∷◌, length, Option, Some, None, refl, sym, ap, subst, ◌∙◌}
use Rattle.ir_forms.specs.declared.args.ArgValue.{ArgValue}
use Rattle.one_end.specs.Programs as one
use Rattle.one_end.proofs.Basics.{none≢some, some_inj}
use Rattle.one_end.proofs.Law.{law}
use Rattle.source_meaning.specs.Tasks.{Program, Task, Next, Goes, Asks, Ends}
use Rattle.source_meaning.specs.Steps.{next}
use Rattle.source_meaning.specs.World.{cell}
use Rattle.source_meaning.specs.Start.{first_world, root_task}
use Rattle.source_meaning.specs.TaskOrder.{and_then}
use Rattle.end_laws.specs.ModuleProgram.{Begin, Values, settled, replied, standing, acted, acts, IsProgram, FunctionsAreProgramsOfOneEnd}

record Then {X Y : Type 0} (f : X → Option Y) (o : Option X) (y : Y) : Type 0 where
  pub first : X
  pub there : o ≡ Some first
  pub gives : f first ≡ Some y

then_from : {X Y : Type 0} (f : X → Option Y) (o : Option X) (y : Y) → and_then f o ≡ Some y → Then f o y
then_from f None y e = absurd (none≢some y e)
then_from f (Some x) y e = record { first = x; there = refl; gives = e }

-- one value at most, by one that is one at most
one_then : {X Y : Type 0} (f g : X → Option Y) (o p : Option X) (y z : Y) → ((x w : X) → o ≡ Some x → p ≡ Some w → x ≡ w) → ((x : X) (a b : Y) → f x ≡ Some a → g x ≡ Some b → a ≡ b) → and_then f o ≡ Some y → and_then g p ≡ Some z → y ≡ z
one_then f g o p y z same then e h = step (then_from f o y e) (then_from g p z h) where
  step : Then f o y → Then g p z → y ≡ z
  step a b = then a.first y z a.gives (subst (λ x. g x ≡ Some z) (sym (same a.first b.first a.there b.there)) b.gives)

pub settled_one : (p : Program) (m n : ℕ) (s x y : Next) → settled p m s ≡ Some x → settled p n s ≡ Some y → x ≡ y
settled_one p zero n (Goes t) x y e h = absurd (none≢some x e)
settled_one p (suc m) zero (Goes t) x y e h = absurd (none≢some y h)
settled_one p (suc m) (suc n) (Goes t) x y e h = settled_one p m n (next p t) x y e h
settled_one p m n (Asks at ask xs t) x y e h = some_inj x y (sym e ∙ h)
settled_one p m n (Ends o) x y e h = some_inj x y (sym e ∙ h)

same_some : {X Y : Type 0} (f : X → Option Y) (x : X) (a b : Y) → f x ≡ Some a → f x ≡ Some b → a ≡ b
same_some f x a b e h = some_inj a b (sym e ∙ h)

pub standing_one : (p : Program) (b : Begin) (answers : List (one.Answer Values)) (m n : ℕ) (t u : Task) → standing p b answers m ≡ Some t → standing p b answers n ≡ Some u → t ≡ u
standing_one p b [] m n t u e h = some_inj t u (sym e ∙ h)
standing_one p b (a ∷ older) m n t u e h =
    one_then (λ t. and_then (replied b.path (suc (length older)) a) (settled p m (next p t))) (λ t. and_then (replied b.path (suc (length older)) a) (settled p n (next p t))) (standing p b older m) (standing p b older n) t u (standing_one p b older m n)
    (λ t x y. one_then (replied b.path (suc (length older)) a) (replied b.path (suc (length older)) a) (settled p m (next p t)) (settled p n (next p t)) x y (settled_one p m n (next p t)) (same_some (replied b.path (suc (length older)) a))) e h

acts_one : (p : Program) (b : Begin) (answers : List (one.Answer Values)) (m n : ℕ) (x y : one.Act Begin Values) → acts p b answers m ≡ Some x → acts p b answers n ≡ Some y → x ≡ y
acts_one p b answers m n x y e h =
    one_then (λ t. and_then (acted b.path (suc (length answers))) (settled p m (next p t))) (λ t. and_then (acted b.path (suc (length answers))) (settled p n (next p t))) (standing p b answers m) (standing p b answers n) x y (standing_one p b answers m n)
    (λ t x y. one_then (acted b.path (suc (length answers))) (acted b.path (suc (length answers))) (settled p m (next p t)) (settled p n (next p t)) x y (settled_one p m n (next p t)) (same_some (acted b.path (suc (length answers))))) e h

pub functions_are_programs : FunctionsAreProgramsOfOneEnd
functions_are_programs p entry args = (program, record { root = refl; cells = λ b i. refl; acts = λ b answers n. refl }, law Begin Values program) where
  program : one.Program Begin Values
  program = record {
    root = record { path = []; task = root_task p entry args };
    cells = cell (first_world args);
    acts = acts p;
    one = acts_one p;
  }
