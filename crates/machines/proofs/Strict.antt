-- A machine that asks for what always holds.
use Rattle.std.specs.Prelude.{cond}
use Rattle.std.proofs.Common.{◌≡◌, Bool, true, List, [], refl, sym, ap, ◌∙◌, subst}
use Rattle.machines.specs.Machine.{Took, Stuck, Idle, Stopped, Takes, Machine, Reaches, IsReached, IsNotStuck}
use Rattle.machines.specs.Simulates.{Owes, Simulates}
use Rattle.machines.specs.Strict.{Strictly, HoldsAlways}
use Rattle.machines.specs.Laws.{StrictCarries}
use Rattle.machines.proofs.Runs.{stays, one_step, goes_on}
use Rattle.machines.proofs.Simulated.{simulation_carries}

module _ {V E : Type 0} (M : Machine V E) (needs : M.State → M.Who → Bool) (always : HoldsAlways M needs) where
  -- they are in the same state, which the machine reaches
  abbrev Same : M.State → M.State → Type 0
  Same a b = (a ≡ b) × ((shown : List V) × IsReached M shown b)

  -- a step that isn't stuck leads to the same state
  follows : (s : M.State) → ((shown : List V) × IsReached M shown s) → (w : M.Who) → (k : Took M.State V) → M.step s w ≡ k → IsNotStuck M k → Owes (Strictly M needs) M Same k s
  follows s r w Stuck e h = h
  follows s r w Idle e h = tt
  follows s r w Stopped e h = (s, stays M s, (w, e))
  follows s r w (Takes t shown) e h =
      let one : Reaches M s shown t = one_step M s w t shown e in
      (t, one, (refl, (_, goes_on M M.start s t r.0 shown r.1 one)))

  simulates : Simulates (Strictly M needs) M Same
  simulates = record {
    starts = (refl, ([], stays M M.start));
    follows = λ a b same safe w. (
        let so : needs b w ≡ true = always same.1.0 b same.1.1 w in
        subst (λ (x : M.State). Owes (Strictly M needs) M Same (cond (needs x w) (M.step x w) Stuck) b) (sym same.0)
        (subst (λ (x : Bool). Owes (Strictly M needs) M Same (cond x (M.step b w) Stuck) b) (sym so) (follows b same.1 w (M.step b w) refl (safe [] b (stays M b) w))));
    ends = λ a b same safe e ended. (b, stays M b, subst (λ (x : M.State). M.Ended x e) same.0 ended);
    rests = λ a b same safe still. (
      b,
      stays M b,
      (λ w. (
          let so : needs b w ≡ true = always same.1.0 b same.1.1 w in
          let idle : cond (needs b w) (M.step b w) Stuck ≡ Idle = subst (λ (x : M.State). cond (needs x w) (M.step x w) Stuck ≡ Idle) same.0 (still w) in
          sym (ap (λ (x : Bool). cond x (M.step b w) Stuck) so) ∙ idle)),
      (λ e ended. subst (λ (x : M.State). M.Ended x e) (sym same.0) ended),
    );
  }

pub strict_carries : {V E : Type 0} (M : Machine V E) (needs : M.State → M.Who → Bool) → StrictCarries M needs
strict_carries M needs always = simulation_carries (Strictly M needs) M (Same M needs always) (simulates M needs always)
