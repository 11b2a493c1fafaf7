-- Lemmas on the first things of names, and on the map of them.
use Rattle.std.proofs.Common.{◌≡◌, ◌<◌, ◌≤◌, ℕ, zero, suc, ◌+◌, Bool, true, false, cond, List, [], ◌∷◌, ◌++◌, length, take, get_or, slice_get, Option, Some, None, refl, sym, ap, subst, ◌∙◌, arith, rules}
use Rattle.std.proofs.Math.Logic.{⊎_elim}
use Rattle.std.proofs.lemmas.Bool.{cases_Bool, eq-eqb, true≢false}
use Rattle.std.proofs.lemmas.Bool.Decides.{eqb_tells}
use Rattle.std.proofs.lemmas.Map.Text.{is_eq-slice_cmp}
use Rattle.std.proofs.lemmas.Slice.Eq.{bytes_eq-Decides}
use Rattle.std.specs.BTreeMap.{BTreeMap, UpdatesBy}
use Rattle.std.specs.Cmp.{eq_by_cmp_equiv}
use Rattle.std.specs.Cmp.Lexicographic.{slice_cmp, nat_list_cmp_total}
use Rattle.std.specs.Global.{Vec}
use Rattle.std.specs.Map.{lookup, IsKeyTest, AreApart, KeepsOthers}
use Rattle.std.specs.Option.{option_map, is_some}
use Rattle.std.proofs.lemmas.Option.{none-some}
use Rattle.std.specs.Ordering.{is_eq, nat_cmp}
use Rattle.std.specs.Str.{bytes_eq}
use Rattle.name_lists.specs.Names.{first_named, place_at, or_place, without_place, AreFirsts}

module _ {A : Type 0} (name : A → List ℕ) where
  step : (b here : Bool) (o p : Option ℕ) (n : ℕ) → p ≡ or_place o here n → cond b (Some 0) (option_map suc p) ≡ or_place (cond b (Some 0) (option_map suc o)) here (suc n)
  step true here o p n is = refl
  step false here (Some k) p n is = ap (option_map suc) is
  step false true None p n is = ap (option_map suc) is
  step false false None p n is = ap (option_map suc) is

  -- with one thing more
  pub first_more : (xs : List A) (x : A) (sought : List ℕ) → first_named name (xs ++ x ∷ []) sought ≡ or_place (first_named name xs sought) (bytes_eq (name x) sought) (length xs)
  first_more [] x sought = refl
  first_more (y ∷ xs) x sought = step (bytes_eq (name y) sought) (bytes_eq (name x) sought) (first_named name xs sought) (first_named name (xs ++ x ∷ []) sought) (length xs) (first_more xs x sought)

  -- a thing behind so many of which none has the name
  unnamed : (b : Bool) (o : Option ℕ) → cond b (Some 0) (option_map suc o) ≡ None → (b ≡ false) × (o ≡ None)
  unnamed true o is = absurd (none-some _ (sym is))
  unnamed false None is = (refl, refl)
  unnamed false (Some k) is = absurd (none-some _ (sym is))

  pub first_here : (xs : List A) (i : ℕ) (d : A) (sought : List ℕ) → i < length xs → first_named name (take i xs) sought ≡ None → bytes_eq (name (get_or xs i d)) sought ≡ true → first_named name xs sought ≡ Some i
  first_here [] i d sought less none is = absurd (omega (arith, less))
  first_here (x ∷ xs) zero d sought less none is = ap (λ b. cond b (Some 0) (option_map suc (first_named name xs sought))) is
  first_here (x ∷ xs) (suc i) d sought less none is =
      let both = unnamed (bytes_eq (name x) sought) (first_named name (take i xs) sought) none in
      ap (λ b. cond b (Some 0) (option_map suc (first_named name xs sought))) both.0 ∙ ap (option_map suc) (first_here xs i d sought (omega (arith, less)) both.1 is)

  pub none_here : (xs : List A) (i : ℕ) (d : A) (sought : List ℕ) → i < length xs → first_named name (take i xs) sought ≡ None → bytes_eq (name (get_or xs i d)) sought ≡ false → first_named name (take (suc i) xs) sought ≡ None
  none_here [] i d sought less none is = absurd (omega (arith, less))
  none_here (x ∷ xs) zero d sought less none is = ap (λ b. cond b (Some 0) None) is
  none_here (x ∷ xs) (suc i) d sought less none is =
      let both = unnamed (bytes_eq (name x) sought) (first_named name (take i xs) sought) none in
      ap (λ b. cond b (Some 0) (option_map suc (first_named name (take (suc i) xs) sought))) both.0 ∙ ap (option_map suc) (none_here xs i d sought (omega (arith, less)) both.1 is)

  -- one that is found among the first things is found among all
  deeper : (b : Bool) (o p : Option ℕ) (k : ℕ) → ((m : ℕ) → o ≡ Some m → p ≡ Some m) → cond b (Some 0) (option_map suc o) ≡ Some k → cond b (Some 0) (option_map suc p) ≡ Some k
  deeper true o p k again is = is
  deeper false None p k again is = absurd (none-some _ is)
  deeper false (Some m) p k again is = ap (option_map suc) (again m refl) ∙ is

  pub first_of_more : (xs : List A) (i k : ℕ) (sought : List ℕ) → first_named name (take i xs) sought ≡ Some k → first_named name xs sought ≡ Some k
  first_of_more [] zero k sought is = is
  first_of_more [] (suc i) k sought is = is
  first_of_more (x ∷ xs) zero k sought is = absurd (none-some _ is)
  first_of_more (x ∷ xs) (suc i) k sought is = deeper (bytes_eq (name x) sought) (first_named name (take i xs) sought) (first_named name xs sought) k (λ m was. first_of_more xs i m sought was) is

  -- what the map says of a list
  pub first_mapped : (xs all : List A) (places : BTreeMap (Vec ℕ) ℕ) (mapped k : ℕ) (sought : List ℕ) → AreFirsts name xs places mapped → place_at places sought ≡ Some k → all ≡ xs → Some k ≡ first_named name all sought
  first_mapped xs all places mapped k sought are is same = sym (ap (λ l. first_named name l sought) same ∙ first_of_more xs mapped k sought (sym (are.firsts sought) ∙ is))

  take_whole : (xs : List A) (i : ℕ) → length xs ≤ i → take i xs ≡ xs
  take_whole [] zero le = refl
  take_whole [] (suc i) le = refl
  take_whole (x ∷ xs) zero le = absurd (omega (arith, le))
  take_whole (x ∷ xs) (suc i) le = ap (λ l. x ∷ l) (take_whole xs i (omega (arith, le)))

  pub none_in_all : (xs all : List A) (i : ℕ) (sought : List ℕ) → length xs ≤ i → first_named name (take i xs) sought ≡ None → all ≡ xs → None ≡ first_named name all sought
  none_in_all xs all i sought le is same = sym (ap (λ l. first_named name l sought) same ∙ ap (λ l. first_named name l sought) (sym (take_whole xs i le)) ∙ is)

  pub first_unmapped : (xs : List A) (places : BTreeMap (Vec ℕ) ℕ) (mapped : ℕ) (sought : List ℕ) → AreFirsts name xs places mapped → place_at places sought ≡ None → first_named name (take mapped xs) sought ≡ None
  first_unmapped xs places mapped sought are is = sym (are.firsts sought) ∙ is

-- ---- the map after a change

kept : (test : Vec ℕ → Bool) (old new : List (Vec ℕ × ℕ)) (eq : Vec ℕ → Vec ℕ → Bool) → KeepsOthers eq test old new → (other : Vec ℕ → Bool) → IsKeyTest eq other → AreApart test other → lookup other new ≡ lookup other old
unfolding KeepsOthers
kept test old new eq h = h

apart : (bs cs ks : List ℕ) → bytes_eq bs cs ≡ false → is_eq (slice_cmp nat_cmp bs ks) ≡ true → is_eq (slice_cmp nat_cmp cs ks) ≡ false
apart bs cs ks n y =
    let same : bs ≡ ks = (bytes_eq-Decides bs ks).0 (sym (is_eq-slice_cmp bs ks) ∙ y) in
    is_eq-slice_cmp cs ks ∙ by (bytes_eq cs ks) refl same
  where
    by : (b : Bool) → bytes_eq cs ks ≡ b → bs ≡ ks → b ≡ false
    by false is same = refl
    by true is same = sym ((bytes_eq-Decides bs cs).1 (same ∙ sym ((bytes_eq-Decides cs ks).0 is))) ∙ n

pub updated : (places new : BTreeMap (Vec ℕ) ℕ) (bs : List ℕ) (w : Option ℕ) → UpdatesBy (λ x y. slice_cmp nat_cmp x.items y.items) (λ k. slice_cmp nat_cmp bs k.items) places new w
    → (cs : List ℕ) → place_at new cs ≡ cond (bytes_eq bs cs) w (place_at places cs)
updated places new bs w h cs =
    ⊎_elim
    (λ y. subst (λ l. place_at new l ≡ w) ((bytes_eq-Decides bs cs).0 y) h.1 ∙ sym (ap (λ b. cond b w (place_at places cs)) y))
    (λ n. kept _ _ _ _ h.3 _ (λ x y. (eq_by_cmp_equiv nat_list_cmp_total).congr cs x.items y.items) (λ k. apart bs cs k.items n) ∙ sym (ap (λ b. cond b w (place_at places cs)) n))
    (cases_Bool (bytes_eq bs cs))

-- ---- places entered and left

apart_stays : (o : Option ℕ) (n : ℕ) → or_place o false n ≡ o
apart_stays (Some k) n = refl
apart_stays None n = refl

apart_remains : (o : Option ℕ) (n : ℕ) → without_place o false n ≡ o
apart_remains (Some k) n = refl
apart_remains None n = refl

none : (o : Option ℕ) → is_some o ≡ false → o ≡ None
none None is = refl
none (Some k) is = absurd (true≢false is)

some_stays : (o : Option ℕ) (b : Bool) (n : ℕ) → is_some o ≡ true → or_place o b n ≡ o
some_stays (Some k) b n is = refl
some_stays None b n is = absurd (true≢false (sym is))

module _ (places new : BTreeMap (Vec ℕ) ℕ) (bs : List ℕ) (n : ℕ) where
  pub entered : (name : List ℕ) → bs ≡ name → is_some (place_at places name) ≡ false → UpdatesBy (λ x y. slice_cmp nat_cmp x.items y.items) (λ k. slice_cmp nat_cmp bs k.items) places new (Some n)
      → (sought : List ℕ) → place_at new sought ≡ or_place (place_at places sought) (bytes_eq name sought) n
  entered name same absent h sought = updated places new bs (Some n) h sought ∙ ap (λ l. cond (bytes_eq l sought) (Some n) (place_at places sought)) same ∙ by (bytes_eq name sought) refl
    where
      by : (b : Bool) → bytes_eq name sought ≡ b → cond b (Some n) (place_at places sought) ≡ or_place (place_at places sought) b n
      by true is = sym (ap (λ o. or_place o true n) (ap (place_at places) (sym ((bytes_eq-Decides name sought).0 is)) ∙ none (place_at places name) absent))
      by false is = sym (apart_stays (place_at places sought) n)

  pub is_entered : is_some (place_at places bs) ≡ true → (sought : List ℕ) → place_at places sought ≡ or_place (place_at places sought) (bytes_eq bs sought) n
  is_entered there sought = by (bytes_eq bs sought) refl
    where
      by : (b : Bool) → bytes_eq bs sought ≡ b → place_at places sought ≡ or_place (place_at places sought) b n
      by true is = sym (some_stays (place_at places sought) true n (subst (λ l. is_some (place_at places l) ≡ true) ((bytes_eq-Decides bs sought).0 is) there))
      by false is = sym (apart_stays (place_at places sought) n)

  pub left : place_at places bs ≡ Some n → UpdatesBy (λ x y. slice_cmp nat_cmp x.items y.items) (λ k. slice_cmp nat_cmp bs k.items) places new None
      → (sought : List ℕ) → place_at new sought ≡ without_place (place_at places sought) (bytes_eq bs sought) n
  left there h sought = updated places new bs None h sought ∙ by (bytes_eq bs sought) refl
    where
      itself : (m : ℕ) → without_place (Some m) true m ≡ None
      itself m = ap (λ b. cond b None (Some m)) (eq-eqb m m refl)

      by : (b : Bool) → bytes_eq bs sought ≡ b → cond b None (place_at places sought) ≡ without_place (place_at places sought) b n
      by true is = sym (ap (λ o. without_place o true n) (ap (place_at places) (sym ((bytes_eq-Decides bs sought).0 is)) ∙ there) ∙ itself n)
      by false is = sym (apart_remains (place_at places sought) n)

  pub remains : (place_at places bs ≡ Some n → ⊥) → (sought : List ℕ) → place_at places sought ≡ without_place (place_at places sought) (bytes_eq bs sought) n
  remains other sought = by (bytes_eq bs sought) refl
    where
      differs : (o : Option ℕ) → (o ≡ Some n → ⊥) → o ≡ without_place o true n
      differs None is = refl
      differs (Some k) is = ⊎_elim (λ same. absurd (is (ap (λ m. Some m) same.1))) (λ not. sym (ap (λ b. cond b None (Some k)) not.0)) (eqb_tells k n)

      by : (b : Bool) → bytes_eq bs sought ≡ b → place_at places sought ≡ without_place (place_at places sought) b n
      by true is = differs (place_at places sought) (subst (λ l. place_at places l ≡ Some n → ⊥) ((bytes_eq-Decides bs sought).0 is) other)
      by false is = sym (apart_remains (place_at places sought) n)

-- ---- the map of a list that grows or shrinks

module _ {A : Type 0} (name : A → List ℕ) where
  at_first : (b : Bool) → cond b (Some 0) None ≡ or_place None b 0
  at_first b = refl

  first_taken : (xs : List A) (m : ℕ) (x : A) (sought : List ℕ) → slice_get xs m ≡ Some x → first_named name (take (suc m) xs) sought ≡ or_place (first_named name (take m xs) sought) (bytes_eq (name x) sought) m
  first_taken [] m x sought is = absurd (none-some _ is)
  first_taken (y ∷ xs) zero x sought is = let same : y ≡ x = cc in ap (λ z. cond (bytes_eq (name z) sought) (Some 0) None) same
  first_taken (y ∷ xs) (suc m) x sought is = step name (bytes_eq (name y) sought) (bytes_eq (name x) sought) (first_named name (take m xs) sought) (first_named name (take (suc m) xs) sought) m (first_taken xs m x sought is)

  pub at_place : (xs : List A) (m : ℕ) (d : A) → m < length xs → slice_get xs m ≡ Some (get_or xs m d)
  at_place [] m d less = absurd (omega (arith, less))
  at_place (x ∷ xs) zero d less = refl
  at_place (x ∷ xs) (suc m) d less = at_place xs m d (omega (arith, less))

  pub mapped_next : (xs : List A) (x : A) (places new : BTreeMap (Vec ℕ) ℕ) (m n : ℕ) (bs : List ℕ) → AreFirsts name xs places m → m < length xs → n ≡ suc m → get_or xs m x ≡ x → bs ≡ name x
      → ((sought : List ℕ) → place_at new sought ≡ or_place (place_at places sought) (bytes_eq bs sought) m) → AreFirsts name xs new n
  mapped_next xs x places new m n bs are less next here same put = record {
    within = omega (arith, less, next);
    firsts = λ sought.
        put sought
        ∙ ap (λ o. or_place o (bytes_eq bs sought) m) (are.firsts sought)
        ∙ ap (λ l. or_place (first_named name (take m xs) sought) (bytes_eq l sought) m) same
        ∙ sym (first_taken xs m x sought (at_place xs m x less ∙ ap (λ y. Some y) here))
        ∙ ap (λ k. first_named name (take k xs) sought) (sym next);
  }

  take_front : (xs ys : List A) (m : ℕ) → m ≤ length xs → take m (xs ++ ys) ≡ take m xs
  take_front [] ys zero le = refl
  take_front [] ys (suc m) le = absurd (omega (arith, le))
  take_front (x ∷ xs) ys zero le = refl
  take_front (x ∷ xs) ys (suc m) le = ap (λ l. x ∷ l) (take_front xs ys m (omega (arith, le)))

  length_more : (xs : List A) (x : A) → length (xs ++ x ∷ []) ≡ suc (length xs)
  length_more [] x = refl
  length_more (y ∷ xs) x = ap suc (length_more xs x)

  pub pushed : (xs all : List A) (x : A) (places : BTreeMap (Vec ℕ) ℕ) (m : ℕ) → AreFirsts name xs places m → all ≡ xs ++ x ∷ [] → AreFirsts name all places m
  pushed xs all x places m are same =
      let longer = ap length same ∙ length_more xs x in
      let within = are.within in record {
        within = omega (arith, longer, within);
        firsts = λ sought. are.firsts sought ∙ ap (λ l. first_named name l sought) (sym (take_front xs (x ∷ []) m within) ∙ ap (take m) (sym same));
      }

  pub popped : (xs all : List A) (x : A) (places : BTreeMap (Vec ℕ) ℕ) (m : ℕ) → AreFirsts name all places m → all ≡ xs ++ x ∷ [] → m ≤ length xs → AreFirsts name xs places m
  popped xs all x places m are same le = record {
    within = le;
    firsts = λ sought. are.firsts sought ∙ ap (λ l. first_named name l sought) (ap (take m) same ∙ take_front xs (x ∷ []) m le);
  }

  first_below : (xs : List A) (sought : List ℕ) (k : ℕ) → first_named name xs sought ≡ Some k → k < length xs
  first_below [] sought k is = absurd (none-some _ is)
  first_below (x ∷ xs) sought k is = by (bytes_eq (name x) sought) (first_named name xs sought) k (λ m was. first_below xs sought m was) is
    where
      by : (b : Bool) (o : Option ℕ) (j : ℕ) → ((m : ℕ) → o ≡ Some m → m < length xs) → cond b (Some 0) (option_map suc o) ≡ Some j → j < suc (length xs)
      by true o zero again was = omega arith
      by true o (suc j) again was = absurd (cc)
      by false None j again was = absurd (none-some _ was)
      by false (Some m) j again was = let less = again m refl in let same : suc m ≡ j = cc in omega (arith, less, same)

  back : (o : Option ℕ) (b : Bool) (n : ℕ) → ((k : ℕ) → o ≡ Some k → k < n) → without_place (or_place o b n) b n ≡ o
  back None true n below = ap (λ b. cond b None (Some n)) (eq-eqb n n refl)
  back None false n below = refl
  back (Some k) true n below = ⊎_elim (λ same. let less = below k refl in let eq = same.1 in absurd (omega (arith, less, eq))) (λ not. ap (λ b. cond b None (Some k)) not.0) (eqb_tells k n)
  back (Some k) false n below = refl

  pub popped_mapped : (xs all : List A) (x : A) (places new : BTreeMap (Vec ℕ) ℕ) (m n : ℕ) (bs : List ℕ) → AreFirsts name all places m → all ≡ xs ++ x ∷ [] → n ≡ length xs → n < m → bs ≡ name x
      → ((sought : List ℕ) → place_at new sought ≡ without_place (place_at places sought) (bytes_eq bs sought) n) → AreFirsts name xs new n
  popped_mapped xs all x places new m n bs are same counted less named put =
      let longer = ap length same ∙ length_more xs x in
      let within = are.within in record {
        within = omega (arith, counted);
        firsts = λ sought.
            put sought
            ∙ ap (λ o. without_place o (bytes_eq bs sought) n) (are.firsts sought ∙ ap (λ l. first_named name l sought) (take_whole name all m (omega (arith, longer, counted, less)) ∙ same) ∙ first_more name xs x sought ∙ ap (or_place (first_named name xs sought) (bytes_eq (name x) sought)) (sym counted) ∙ ap (λ l. or_place (first_named name xs sought) (bytes_eq l sought) n) (sym named))
            ∙ back (first_named name xs sought) (bytes_eq bs sought) n (λ k is. let below = first_below xs sought k is in omega (arith, below, counted))
            ∙ ap (λ l. first_named name l sought) (sym (take_whole name xs n (omega (arith, counted))));
      }
