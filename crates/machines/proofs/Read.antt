-- Machines that are read.
use Rattle.std.proofs.Common.{◌≡◌, List, [], ◌∷◌, ◌++◌, Some, refl, sym, ap, ap₂, ◌∙◌, subst, append_assoc}
use Rattle.machines.specs.Machine.{Took, Stuck, Idle, Stopped, Takes, Machine, run, and_runs, shown_before, IsReached, IsNotStuck}
use Rattle.machines.specs.Carries.{NeverStuck, NeverShort, NeverStops}
use Rattle.machines.specs.Reading.{Reader, known, read, taken, Read}
use Rattle.machines.specs.Laws.{ReadReaches, ReadCarries}
use Rattle.machines.proofs.Runs.{no_steps, more_steps}

module _ {V W : Type 0} (R : Reader V W) where
  known_on : (k : R.Known) (xs ys : List V) → known R k (xs ++ ys) ≡ known R (known R k xs) ys
  known_on k [] ys = refl
  known_on k (x ∷ xs) ys = known_on (R.after k x) xs ys

  read_on : (k : R.Known) (xs ys : List V) → read R k (xs ++ ys) ≡ read R k xs ++ read R (known R k xs) ys
  read_on k [] ys = refl
  read_on k (x ∷ xs) ys = ap (λ l. R.reads k x ++ l) (read_on (R.after k x) xs ys) ∙ sym (append_assoc (R.reads k x) (read R (R.after k x) xs) (read R (known R (R.after k x) xs) ys))

  module _ {E : Type 0} (M : Machine V E) where
    forth : (ws : List M.Who) (s t : M.State) (k : R.Known) (shown : List V) → run M ws s ≡ Some (t, shown) → run (Read R M) ws (s, k) ≡ Some ((t, known R k shown), read R k shown)
    unfolding run
    forth [] s t k shown e =
        let none = no_steps s t shown e in
        subst (λ (l : List V). run (Read R M) [] (s, k) ≡ Some ((t, known R k l), read R k l)) none.1 (ap (λ (x : M.State). Some ((x, k), [])) none.0)
    forth (w ∷ ws) s t k shown e =
        let one = more_steps M ws (M.step s w) t shown e in
        let rest = forth ws one.0 t (known R k one.1) one.2 one.4 in
        subst (λ (l : List V). run (Read R M) (w ∷ ws) (s, k) ≡ Some ((t, known R k l), read R k l)) one.5
        (subst (λ (x : R.Known). run (Read R M) (w ∷ ws) (s, k) ≡ Some ((t, x), read R k (one.1 ++ one.2))) (sym (known_on k one.1 one.2))
        (subst (λ (l : List W). run (Read R M) (w ∷ ws) (s, k) ≡ Some ((t, known R (known R k one.1) one.2), l)) (sym (read_on k one.1 one.2))
        (ap (λ x. and_runs (Read R M) (run (Read R M) ws) (taken R k x)) one.3 ∙ ap (shown_before (Read R M) (read R k one.1)) rest)))

    -- what is read was shown
    was_taken : (k : R.Known) (took : Took M.State V) (t : M.State × R.Known) (shown : List W) → taken R k took ≡ Takes t shown →
        (those : List V) × (took ≡ Takes t.0 those) × (known R k those ≡ t.1) × (read R k those ≡ shown)
    was_taken k Stuck t shown e = cc
    was_taken k Idle t shown e = cc
    was_taken k Stopped t shown e = cc
    was_taken k (Takes s those) t shown e =
        let both : (s, known R k those) ≡ t = cc in
        let list : read R k those ≡ shown = cc in
        (those, ap (λ (x : M.State). Takes x those) (ap (λ (x : M.State × R.Known). x.0) both), ap (λ (x : M.State × R.Known). x.1) both, list)

    back : (ws : List M.Who) (s : M.State) (t : M.State × R.Known) (k : R.Known) (shown : List W) → run (Read R M) ws (s, k) ≡ Some (t, shown) →
        (those : List V) × (run M ws s ≡ Some (t.0, those)) × (known R k those ≡ t.1) × (read R k those ≡ shown)
    unfolding run
    back [] s t k shown e =
        let none = no_steps (s, k) t shown e in
        ([], ap (λ (x : M.State). Some (x, [])) (ap (λ (x : M.State × R.Known). x.0) none.0), ap (λ (x : M.State × R.Known). x.1) none.0, none.1)
    back (w ∷ ws) s t k shown e =
        let one = more_steps (Read R M) ws (taken R k (M.step s w)) t shown e in
        let was = was_taken k (M.step s w) one.0 one.1 one.3 in
        let on = back ws one.0.0 t one.0.1 one.2 one.4 in
        joined k was.0 on.0 one.0.1 t.1 one.1 one.2 shown ((ap (and_runs M (run M ws)) was.1 ∙ ap (shown_before M was.0) on.1)) was.2 was.3 on.2 on.3 one.5 where
          joined : (k : R.Known) (those more : List V) (at end : R.Known) (first rest shown : List W) → run M (w ∷ ws) s ≡ Some (t.0, those ++ more) →
              known R k those ≡ at → read R k those ≡ first → known R at more ≡ end → read R at more ≡ rest → first ++ rest ≡ shown →
              (all : List V) × (run M (w ∷ ws) s ≡ Some (t.0, all)) × (known R k all ≡ end) × (read R k all ≡ shown)
          joined k those more at end first rest shown runs knows reads knows' reads' whole = (
            those ++ more,
            runs,
            known_on k those more ∙ (ap (λ (x : R.Known). known R x more) knows ∙ knows'),
            read_on k those more ∙ (ap₂ (λ l m. l ++ m) reads (ap (λ (x : R.Known). read R x more) knows ∙ reads') ∙ whole),
          )

    pub read_reaches : ReadReaches R M
    read_reaches = (
      (λ shown s r. (r.0, forth r.0 M.start s R.first shown r.1)),
      (λ shown s r. (let b = back r.0 M.start s R.first shown r.1 in (b.0, (r.0, b.1), b.2, b.3))),
    )

    -- a step that is read is what the step is
    pub stuck_read : (k : R.Known) (took : Took M.State V) → IsNotStuck (Read R M) (taken R k took) → IsNotStuck M took
    stuck_read k Stuck h = h
    stuck_read k Idle h = tt
    stuck_read k Stopped h = tt
    stuck_read k (Takes s those) h = tt

    pub read_stuck : (k : R.Known) (took : Took M.State V) → IsNotStuck M took → IsNotStuck (Read R M) (taken R k took)
    read_stuck k Stuck h = h
    read_stuck k Idle h = tt
    read_stuck k Stopped h = tt
    read_stuck k (Takes s those) h = tt

    pub idle_read : (k : R.Known) (took : Took M.State V) → taken R k took ≡ Idle → took ≡ Idle
    idle_read k Stuck e = cc
    idle_read k Idle e = refl
    idle_read k Stopped e = cc
    idle_read k (Takes s those) e = cc

    pub stopped_read : (k : R.Known) (took : Took M.State V) → taken R k took ≡ Stopped → took ≡ Stopped
    stopped_read k Stuck e = cc
    stopped_read k Idle e = cc
    stopped_read k Stopped e = refl
    stopped_read k (Takes s those) e = cc

    -- what holds of the machine holds of it as it is read, and the other way round
    never_stuck_back : NeverStuck (Read R M) → NeverStuck M
    never_stuck_back h shown s r w = stuck_read (known R R.first shown) (M.step s w) (h (read R R.first shown) (s, known R R.first shown) (read_reaches.0 shown s r) w)

    never_stuck_forth : NeverStuck M → NeverStuck (Read R M)
    never_stuck_forth h shown s r w = let b = read_reaches.1 shown s r in read_stuck s.1 (M.step s.0 w) (h b.0 s.0 b.1 w)

    never_short_back : NeverShort (Read R M) → NeverShort M
    never_short_back h shown s r still = h (read R R.first shown) (s, known R R.first shown) (read_reaches.0 shown s r) (λ w. ap (taken R (known R R.first shown)) (still w))

    never_short_forth : NeverShort M → NeverShort (Read R M)
    never_short_forth h shown s r still = let b = read_reaches.1 shown s r in h b.0 s.0 b.1 (λ w. idle_read s.1 (M.step s.0 w) (still w))

    never_stops_back : NeverStops (Read R M) → NeverStops M
    never_stops_back h shown s r w stop = h (read R R.first shown) (s, known R R.first shown) (read_reaches.0 shown s r) w (ap (taken R (known R R.first shown)) stop)

    never_stops_forth : NeverStops M → NeverStops (Read R M)
    never_stops_forth h shown s r w stop = let b = read_reaches.1 shown s r in h b.0 s.0 b.1 w (stopped_read s.1 (M.step s.0 w) stop)

  pub read_carries : {E : Type 0} (A B : Machine V E) → ReadCarries R A B
  read_carries A B carries never =
      let keeps = carries (never_stuck_back B never) in (
        record {
          never_stuck = never_stuck_forth A keeps.0.never_stuck;
          shows = λ shown a r. (
              let was = (read_reaches A).1 shown a r in
              let on = keeps.0.shows was.0 a.0 was.1 in
              ((on.0, known R R.first was.0), subst (λ l. IsReached (Read R B) l (on.0, known R R.first was.0)) was.3 ((read_reaches B).0 was.0 on.0 on.1)));
          refines = λ shown e f. (
              let was = (read_reaches A).1 shown f.0 f.1 in
              let on = keeps.0.refines was.0 e (f.0.0, was.1, f.2) in
              ((on.0, known R R.first was.0), subst (λ l. IsReached (Read R B) l (on.0, known R R.first was.0)) was.3 ((read_reaches B).0 was.0 on.0 on.1), on.2));
          never_stops = λ h. never_stops_forth A (keeps.0.never_stops (never_stops_back B h));
        },
        λ h. never_short_forth A (keeps.1 (never_short_back B h)),
      )
