-- Numbers along the first instructions of a list.
use Rattle.std.proofs.Common.{◌≡◌, ℕ, zero, suc, ◌+◌, ◌&&◌, Bool, true, false, List, [], ◌∷◌, ◌++◌, length, take, Some, refl, sym, ap, ◌∙◌}
use Rattle.std.specs.Prelude.{slice_get}
use Rattle.low_forms.specs.declared.code.Instr.{Instr}
use Rattle.low_forms.specs.declared.code.LowFunc.{LowFunc}
use Rattle.own_tables.specs.Owns.{allows, after}
use Rattle.count_laws.specs.Laws.{along, allowed}

pub and_first : (a b : Bool) → (a && b) ≡ true → a ≡ true
and_first true b is = refl
and_first false b is = cc

pub and_second : (a b : Bool) → (a && b) ≡ true → b ≡ true
and_second true b is = is
and_second false b is = cc

module _ (f : LowFunc) (r : ℕ) where
  pub along_next : (xs : List Instr) (k n : ℕ) (i : Instr) → slice_get xs k ≡ Some i → along f r (take (suc k) xs) n ≡ after f i r (along f r (take k xs) n)
  along_next [] k n i is = cc
  along_next (x ∷ xs) zero n i is = (let e : x ≡ i = cc in ap (λ y. after f y r n) e)
  along_next (x ∷ xs) (suc k) n i is = along_next xs k (after f x r n) i is

  pub allowed_at : (xs : List Instr) (k n : ℕ) (i : Instr) → slice_get xs k ≡ Some i → allowed f r xs n ≡ true → allows f i r (along f r (take k xs) n) ≡ true
  allowed_at [] k n i is all = cc
  allowed_at (x ∷ xs) zero n i is all =
      let e : x ≡ i = cc in
      sym (ap (λ y. allows f y r n) e) ∙ and_first (allows f x r n) (allowed f r xs (after f x r n)) all
  allowed_at (x ∷ xs) (suc k) n i is all = allowed_at xs k (after f x r n) i is (and_second (allows f x r n) (allowed f r xs (after f x r n)) all)

  pub along_all : (xs : List Instr) (n : ℕ) → along f r (take (length xs) xs) n ≡ along f r xs n
  along_all [] n = refl
  along_all (x ∷ xs) n = along_all xs (after f x r n)
