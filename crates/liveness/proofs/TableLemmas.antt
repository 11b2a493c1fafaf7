-- Tables of functions, one by one.
use Rattle.std.proofs.Common.{◌≡◌, ◌↔◌, IsTrue, inl, inr, ℕ, zero, suc, ◌+◌, ◌<◌, ◌≤◌, Bool, false, List, [], ◌∷◌, ◌++◌, length, drop, get_or, Option, Some, None, refl, sym, ap, ◌∙◌, arith, subst, add-one}
use Rattle.std.specs.Prelude.{slice_get}
use Rattle.std.proofs.lemmas.Bool.Decides.{eqb_tells}
use Rattle.low_forms.specs.declared.code.LowFunc.{LowFunc}
use Rattle.low_forms.specs.declared.code.LowModule.{LowModule}
use Rattle.liveness.specs.declared.table.Table.{Table}
use Rattle.liveness.specs.Live.{IsLive, IsLiveIn}
use Rattle.liveness.specs.Tables.{IsTableOf, IsTableAt, AreTablesTo, AreTables}
use Rattle.liveness.specs.Visits.{most_of, most_in}

func_at : (funcs : List LowFunc) (k : ℕ) (f : LowFunc) → k < length funcs → f ≡ get_or funcs k f → slice_get funcs k ≡ Some f
func_at [] k f inside is = absurd (omega arith)
func_at (g ∷ funcs) zero f inside is = ap Some (sym is)
func_at (g ∷ funcs) (suc k) f inside is = func_at funcs k f (omega arith) is

func_below : (funcs : List LowFunc) (k : ℕ) (f : LowFunc) → slice_get funcs k ≡ Some f → k < length funcs
func_below [] k f is = cc
func_below (g ∷ funcs) zero f is = omega arith
func_below (g ∷ funcs) (suc k) f is = omega (arith, func_below funcs k f is)

drop_func : (funcs : List LowFunc) (k : ℕ) (f : LowFunc) → k < length funcs → f ≡ get_or funcs k f → drop k funcs ≡ f ∷ drop (suc k) funcs
drop_func [] k f inside is = absurd (omega arith)
drop_func (g ∷ funcs) zero f inside is = ap (λ (h : LowFunc). h ∷ funcs) (sym is)
drop_func (g ∷ funcs) (suc k) f inside is = drop_func funcs k f (omega arith) is

last_table : (tables : List Table) (t : Table) (k : ℕ) → length tables ≡ k → slice_get (tables ++ t ∷ []) k ≡ Some t
last_table [] t zero is = refl
last_table [] t (suc k) is = absurd (omega (arith, is))
last_table (u ∷ tables) t zero is = absurd (omega (arith, is))
last_table (u ∷ tables) t (suc k) is = last_table tables t k (omega (arith, is))

front_table : (tables : List Table) (t : Table) (k : ℕ) → k < length tables → slice_get (tables ++ t ∷ []) k ≡ slice_get tables k
front_table [] t k below = absurd (omega arith)
front_table (u ∷ tables) t zero below = refl
front_table (u ∷ tables) t (suc k) below = front_table tables t k (omega arith)

pub tables_next : (funcs : List LowFunc) (tables news : List Table) (k : ℕ) (f : LowFunc) (t : Table) → k < length funcs → f ≡ get_or funcs k f → IsTableOf f t → length tables ≡ k → news ≡ tables ++ t ∷ []
    → AreTablesTo funcs tables k → AreTablesTo funcs news (k + 1)
tables_next funcs tables news k f t inside is table long news_are so_far = λ j g below at. elim (eqb_tells k j) [
  | inl same ↦
      let at_k : slice_get funcs k ≡ Some g = subst (λ x. slice_get funcs x ≡ Some g) (sym same.1) at in
      let known : slice_get funcs k ≡ Some f = func_at funcs k f inside is in
      let one : f ≡ g = cc in
      let there : slice_get news j ≡ Some t = subst (λ x. slice_get news x ≡ Some t) same.1 (ap (λ (ts : List Table). slice_get ts k) news_are ∙ last_table tables t k long) in
      subst (λ (o : Option Table). IsTableAt g o) (sym there) (subst (λ (h : LowFunc). IsTableOf h t) one table)
  | inr other ↦
      let earlier : j < k = (let e : k ≡ j → ⊥ = other.1 in omega (arith, below, e)) in
      let there : slice_get news j ≡ slice_get tables j = ap (λ (ts : List Table). slice_get ts j) news_are ∙ front_table tables t j (omega (arith, earlier, long)) in
      subst (λ (o : Option Table). IsTableAt g o) (sym there) (so_far j g earlier at)
]

pub visits_next : (funcs : List LowFunc) (k : ℕ) (f : LowFunc) (first before now : ℕ) → k < length funcs → f ≡ get_or funcs k f → now ≤ before + most_of f
    → before + most_in (drop k funcs) ≤ first + most_in funcs → now + most_in (drop (k + 1) funcs) ≤ first + most_in funcs
visits_next funcs k f first before now inside is less so_far =
    rw add-one (let e : most_in (drop k funcs) ≡ most_of f + most_in (drop (suc k) funcs) = ap (λ (fs : List LowFunc). most_in fs) (drop_func funcs k f inside is) in omega (arith, e, less, so_far))

pub table_known : (funcs : List LowFunc) (tables : List Table) (k : ℕ) (f : LowFunc) (t : Table) → AreTables funcs tables → slice_get funcs k ≡ Some f → slice_get tables k ≡ Some t → IsTableOf f t
table_known funcs tables k f t are at is = subst (λ (o : Option Table). IsTableAt f o) is (are k f (func_below funcs k f at) at)

pub table_there : (funcs : List LowFunc) (tables : List Table) (k : ℕ) (f : LowFunc) → AreTables funcs tables → slice_get funcs k ≡ Some f → slice_get tables k ≡ None → ⊥
table_there funcs tables k f are at none = subst (λ (o : Option Table). IsTableAt f o) none (are k f (func_below funcs k f at) at)

pub live_in : (code : LowModule) (k block row r : ℕ) (f : LowFunc) (answer : Bool) → slice_get code.funcs k ≡ Some f
    → (IsTrue answer ↔ IsLive f r (record { block = block; row = row })) → IsTrue answer ↔ IsLiveIn code k block row r
live_in code k block row r f answer at both = (
  λ is. record { of = f; named = at; live = both.0 is },
  λ (l : IsLiveIn code k block row r).
      (let named : slice_get code.funcs k ≡ Some l.of = l.named in
      let one : l.of ≡ f = cc in
      both.1 (subst (λ (g : LowFunc). IsLive g r (record { block = block; row = row })) one l.live)),
)

pub not_in : (code : LowModule) (k block row r : ℕ) → slice_get code.funcs k ≡ None → IsTrue false ↔ IsLiveIn code k block row r
not_in code k block row r none = ((λ is. cc), λ (l : IsLiveIn code k block row r). (let named : slice_get code.funcs k ≡ Some l.of = l.named in cc))
