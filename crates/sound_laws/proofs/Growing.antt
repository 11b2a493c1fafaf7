-- What makes operations keeps an insertion good.
use Rattle.std.proofs.Common.{◌≡◌, ◌≤◌, ◌<◌, ℕ, ◌+◌, ◌-◌, ◌==◌, ◌&&◌, Bool, true, false, if◌then◌else◌, List, [], ◌∷◌, ◌++◌, map, Option, Some, None, refl, sym, ap, ◌∙◌, subst, arith}
use Rattle.std.specs.Prelude.{nat_le, nat_lt}
use Rattle.std.proofs.lemmas.Bool.Decides.{nat_tests}
use Rattle.int_ops.specs.Arithmetic.{bits_of}
use Rattle.int_ops.specs.declared.Pred.{Pred}
use Rattle.int_ops.specs.declared.Pred.TheVariants.{Sle}
use Rattle.int_ops.specs.declared.Width.{Width}
use Rattle.int_ops.specs.declared.Width.TheVariants.{W1, W8, W16, W32, W64}
use Rattle.op_table.specs.declared.kind.OpKind.{OpKind}
use Rattle.op_table.specs.declared.kind.OpKind.TheVariants.{ArithAddi, ArithCmpi, ArithConstant, ArithDivui, ArithSubi, CfAssert, MemrefDim, ScfIf, ScfYield}
use Rattle.op_table.specs.declared.form.Form.TheVariants.{Binary}
use Rattle.op_table.specs.declared.rows.Level.{Level}
use Rattle.ir_forms.specs.declared.ops.Attr.{Attr}
use Rattle.ir_forms.specs.declared.ops.Attr.TheVariants as attr
use Rattle.ir_forms.specs.declared.ops.Op.{Op}
use Rattle.ir_forms.specs.declared.ops.Region.{Region, Region-F, out-Region, roll-Region, out-roll-Region}
use Rattle.ir_forms.specs.declared.ops.Func.{Func}
use Rattle.ir_forms.specs.declared.ops.ValueNo.{ValueNo}
use Rattle.ir_forms.specs.declared.types.MemTy.{MemTy}
use Rattle.ir_forms.specs.declared.types.NumTy.{NumTy}
use Rattle.ir_forms.specs.declared.types.NumTy.TheVariants as num
use Rattle.ir_forms.specs.declared.types.Ty.{Ty}
use Rattle.ir_forms.specs.declared.types.Ty.TheVariants as ty
use Rattle.ir_forms.specs.Ops.{results_of}
use Rattle.ir_verify.specs.Places.{Seen}
use Rattle.ir_verify.specs.Scopes.{lookup}
use Rattle.ir_verify.specs.Types.{same_type, has_async_cells, literal_fits}
use Rattle.made_ops.specs.Made.{Makes, type_of, literal, made_op, placed, next_value, gives, found, new_constant, found_or_new, constant, operand, binary, compare, dimension, asserts, same_number, inside, yielding, chooses, counted_turns, turns}
use Rattle.made_ops.specs.declared.insertion.Insertion.{Insertion}
use Rattle.made_ops.specs.declared.insertion.Known.{Known}
use Rattle.made_ops.specs.declared.insertion.Operand.{Operand}
use Rattle.made_ops.specs.declared.insertion.Operand.TheVariants.{Value, Number}
use Rattle.sound_laws.specs.Extended.{IsMade}
use Rattle.source_meaning.specs.Parts.{joined, names_of}
use Rattle.value_numbers.specs.Numbers.{values_in, values_inside}
use Rattle.sound_laws.proofs.Numbered.{values_at, values_under}
use Rattle.sound_laws.specs.Made.{behind, Runs, values_along, AreVisible, Fits, IsGood, Grows, Gives}
use Rattle.sound_laws.proofs.Plain.{Is, rolled}
use Rattle.sound_laws.proofs.Making.{HasRow, known_behind, grows_self, grows_on, acts_so, Added, adds_so, gives_so, next_fresh, nothing_more, runs_on, values_both, plain_values, compared_made, binary_made, constant_made, asserted_made, dimension_made}
use Rattle.sound_laws.proofs.Choosing.{Yields, chosen_made}

-- ---- literals

low : (n l m : ℕ) → l ≤ m → nat_lt n l ≡ true → nat_le n m ≡ true
low n l m le is = grind (arith, nat_tests)

high : (n l m : ℕ) → m ≤ l + l → nat_lt n l ≡ false → nat_le (m - n) l ≡ true
high n l m le is = grind (arith, nat_tests)

-- a literal fits its type
pub literal_is_fit : (t : NumTy) (n : ℕ) → literal_fits (literal t n) (type_of t) ≡ true
literal_is_fit (num.Int W1) n = refl
literal_is_fit (num.Int W8) n = step (nat_lt n 128) refl
  where
    step : (b : Bool) → nat_lt n 128 ≡ b → literal_fits (if b then attr.Literal false n else attr.Literal true (256 - n)) (ty.Int W8) ≡ true
    step true is = low n 128 255 (omega arith) is
    step false is = high n 128 256 (omega arith) is
literal_is_fit (num.Int W16) n = step (nat_lt n 32768) refl
  where
    step : (b : Bool) → nat_lt n 32768 ≡ b → literal_fits (if b then attr.Literal false n else attr.Literal true (65536 - n)) (ty.Int W16) ≡ true
    step true is = low n 32768 65535 (omega arith) is
    step false is = high n 32768 65536 (omega arith) is
literal_is_fit (num.Int W32) n = step (nat_lt n 2147483648) refl
  where
    step : (b : Bool) → nat_lt n 2147483648 ≡ b → literal_fits (if b then attr.Literal false n else attr.Literal true (4294967296 - n)) (ty.Int W32) ≡ true
    step true is = low n 2147483648 4294967295 (omega arith) is
    step false is = high n 2147483648 4294967296 (omega arith) is
literal_is_fit (num.Int W64) n = step (nat_lt n 9223372036854775808) refl
  where
    step : (b : Bool) → nat_lt n 9223372036854775808 ≡ b → literal_fits (if b then attr.Literal false n else attr.Literal true (18446744073709551616 - n)) (ty.Int W64) ≡ true
    step true is = low n 9223372036854775808 18446744073709551615 (omega arith) is
    step false is = high n 9223372036854775808 18446744073709551616 (omega arith) is
literal_is_fit num.Index n = step (nat_lt n 9223372036854775808) refl
  where
    step : (b : Bool) → nat_lt n 9223372036854775808 ≡ b → literal_fits (if b then attr.Literal false n else attr.Literal true (18446744073709551616 - n)) ty.Index ≡ true
    step true is = low n 9223372036854775808 18446744073709551615 (omega arith) is
    step false is = high n 9223372036854775808 18446744073709551616 (omega arith) is

pub same_bits : (v w : Width) → (bits_of v == bits_of w) ≡ true → v ≡ w
same_bits W1 W1 e = refl
same_bits W8 W8 e = refl
same_bits W16 W16 e = refl
same_bits W32 W32 e = refl
same_bits W64 W64 e = refl
same_bits v w e = cc

pub same_numbers : (t u : NumTy) → same_number t u ≡ true → type_of t ≡ type_of u
same_numbers (num.Int v) (num.Int w) e = ap ty.Int (same_bits v w e)
same_numbers num.Index num.Index e = refl
same_numbers (num.Int v) num.Index e = cc
same_numbers num.Index (num.Int w) e = cc

and_first : (a b : Bool) → (a && b) ≡ true → a ≡ true
and_first true b e = refl
and_first false b e = cc

-- a constant that is found is visible
found_visible : (t : NumTy) (n : ℕ) (known : List Known) (now : Seen) (v : ValueNo) → AreVisible now known → found t n known ≡ Some v → lookup now v.0 ≡ Some (type_of t)
found_visible t n [] now v h is = cc
found_visible t n (k ∷ known) now v h is = step (same_number k.ty t && k.bits == n) refl is (found_visible t n known now v h.1)
  where
    step : (b : Bool) → (same_number k.ty t && k.bits == n) ≡ b → (if b then Some k.value else found t n known) ≡ Some v → (found t n known ≡ Some v → lookup now v.0 ≡ Some (type_of t)) → lookup now v.0 ≡ Some (type_of t)
    step true e found again =
        let same : k.value ≡ v = cc in
        subst (λ (w : ValueNo). lookup now w.0 ≡ Some (type_of t)) same (h.0 ∙ ap (λ (u : Ty). Some u) (same_numbers k.ty t (and_first _ _ e)))
    step false e found again = again found

module _ (funcs : List Func) (level : Level) (first : ℕ) (seen : Seen) where
  abbrev pub Good : Insertion → Type 0
  Good i = IsGood funcs level first seen i

  abbrev pub now : Insertion → Seen
  now i = behind seen i.ops

  pub fits_later : (i j : Insertion) (t : NumTy) (a : Operand) → Grows funcs level first seen i j → Fits (now i) t a → Fits (now j) t a
  fits_later i j t (Value v) g h = g.keeps v.0 (type_of t) h
  fits_later i j t (Number n) g h = tt

  -- what gives a value behind more operations
  pub gives_later : (u : Ty) (i j : Insertion) (r : ValueNo × Insertion) → Grows funcs level first seen i j → Gives funcs level first seen u j r → Gives funcs level first seen u i r
  gives_later u i j r g h = record { grows = grows_on funcs level first seen i j r.1 g h.grows; has = h.has }

  -- an operation with a result
  pub gives_value : (i : Insertion) (kind : OpKind) (vs : List ValueNo) (ws : List Ty) (u : Ty) (a : Attr) → Good i →
      ((o : Op) → Is o kind vs ws (next_value i ∷ []) (u ∷ []) a [] → IsMade funcs level (now i) o) → Gives funcs level first seen u i (gives kind vs ws u a i)
  gives_value i kind vs ws u a good made =
      let o : Op = made_op kind vs ws (next_value i ∷ []) (u ∷ []) a [] i in
      let is : Is o kind vs ws (next_value i ∷ []) (u ∷ []) a [] = rolled kind i.at vs ws (next_value i ∷ []) (u ∷ []) a [] in
      gives_so funcs level first seen i o (next_value i) u (i.free + 1) good (made o is) is.results is.types good.above (omega arith) (omega arith) (next_fresh funcs level first seen i good)
      (subst (Runs i.free (i.free + 1)) (sym (plain_values o is.regions ∙ is.results)) (refl, refl))

  -- ---- constants

  new_constant_good : (t : NumTy) (n : ℕ) (i : Insertion) → Good i → Gives funcs level first seen (type_of t) i (new_constant t n i)
  new_constant_good t n i good =
      let g : Gives funcs level first seen (type_of t) i (gives ArithConstant [] [] (type_of t) (literal t n) i) =
      gives_value i ArithConstant [] [] (type_of t) (literal t n) good (λ o is. constant_made funcs level (now i) o t (literal t n) (next_value i) is (literal_is_fit t n)) in
      let j : Insertion = (gives ArithConstant [] [] (type_of t) (literal t n) i).1 in
      record {
        grows = record {
          good = record {
            made = g.grows.good.made;
            bounded = g.grows.good.bounded;
            above = g.grows.good.above;
            known = known_behind (now j) j.known (record { ty = t; bits = n; value = next_value i }) g.grows.good.known g.has;
          };
          added = g.grows.added;
          are = g.grows.are;
          numbers = g.grows.numbers;
          keeps = g.grows.keeps;
          free = g.grows.free;
        };
        has = g.has;
      }

  pub constant_good : (t : NumTy) (n : ℕ) (i : Insertion) → Good i → Gives funcs level first seen (type_of t) i (constant t n i)
  constant_good t n i good = step (found t n i.known) refl
    where
      step : (o : Option ValueNo) → found t n i.known ≡ o → Gives funcs level first seen (type_of t) i (found_or_new t n o i)
      step (Some v) is = record { grows = grows_self funcs level first seen i good; has = found_visible t n i.known (now i) v good.known is }
      step None is = new_constant_good t n i good

  -- ---- operations on numbers

  pub operand_good : (t : NumTy) (a : Operand) (i : Insertion) → Good i → Fits (now i) t a → Gives funcs level first seen (type_of t) i (operand t a i)
  operand_good t (Value v) i good fits = record { grows = grows_self funcs level first seen i good; has = fits }
  operand_good t (Number n) i good fits = constant_good t n i good

  -- an operation on two operands that are read one after the other
  pub pair_good : (kind : OpKind) (t : NumTy) (u : Ty) (at : Attr) (a b : Operand) (i : Insertion) → Good i → Fits (now i) t a → Fits (now i) t b →
      ((now : Seen) (o : Op) (x y v : ValueNo) → Is o kind (x ∷ y ∷ []) (type_of t ∷ type_of t ∷ []) (v ∷ []) (u ∷ []) at [] → lookup now x.0 ≡ Some (type_of t) → lookup now y.0 ≡ Some (type_of t) → IsMade funcs level now o) →
      Gives funcs level first seen u i
      (gives kind ((operand t a i).0 ∷ (operand t b (operand t a i).1).0 ∷ []) (type_of t ∷ type_of t ∷ []) u at (operand t b (operand t a i).1).1)
  pair_good kind t u at a b i good fits_a fits_b made =
      let j : Insertion = (operand t a i).1 in
      let x : ValueNo = (operand t a i).0 in
      let k : Insertion = (operand t b j).1 in
      let y : ValueNo = (operand t b j).0 in
      let f : Gives funcs level first seen (type_of t) i (operand t a i) = operand_good t a i good fits_a in
      let g : Gives funcs level first seen (type_of t) j (operand t b j) = operand_good t b j f.grows.good (fits_later i j t b f.grows fits_b) in
      let h : Gives funcs level first seen u k (gives kind (x ∷ y ∷ []) (type_of t ∷ type_of t ∷ []) u at k) =
      gives_value k kind (x ∷ y ∷ []) (type_of t ∷ type_of t ∷ []) u at g.grows.good (λ o is. made (now k) o x y (next_value k) is (g.grows.keeps x.0 (type_of t) f.has) g.has) in
      gives_later u i k (gives kind (x ∷ y ∷ []) (type_of t ∷ type_of t ∷ []) u at k) (grows_on funcs level first seen i j k f.grows g.grows) h

  pub compare_good : (p : Pred) (t : NumTy) (a b : Operand) (i : Insertion) → Good i → Fits (now i) t a → Fits (now i) t b → Gives funcs level first seen (ty.Int W1) i (compare p t a b i)
  compare_good p t a b i good fits_a fits_b = pair_good ArithCmpi t (ty.Int W1) (attr.Pred p) a b i good fits_a fits_b (λ at o x y v is hx hy. compared_made funcs level at o p t x y v is hx hy)

  pub binary_good : (kind : OpKind) (t : NumTy) (a b : Operand) (i : Insertion) → HasRow kind Binary 2 1 → Good i → Fits (now i) t a → Fits (now i) t b → Gives funcs level first seen (type_of t) i (binary kind t a b i)
  binary_good kind t a b i row good fits_a fits_b = pair_good kind t (type_of t) attr.None a b i good fits_a fits_b (λ at o x y v is hx hy. binary_made funcs level at o kind t x y v row is hx hy)

  -- a buffer that is visible with a type like this one
  pub record HasBuffer (s : Seen) (m : MemTy) (v : ValueNo) : Type 0 where
    pub type : Ty
    pub visible : lookup s v.0 ≡ Some type
    pub same : same_type (ty.Memref m) type ≡ true
    pub cells : has_async_cells (ty.Memref m) ≡ false

  pub dimension_good : (m : MemTy) (buffer : ValueNo) (k : ℕ) (i : Insertion) → Good i → HasBuffer (now i) m buffer → Gives funcs level first seen ty.Index i (dimension m buffer k i)
  dimension_good m buffer k i good h =
      let j : Insertion = (constant num.Index k i).1 in
      let x : ValueNo = (constant num.Index k i).0 in
      let f : Gives funcs level first seen ty.Index i (constant num.Index k i) = constant_good num.Index k i good in
      let g : Gives funcs level first seen ty.Index j (gives MemrefDim (buffer ∷ x ∷ []) (ty.Memref m ∷ []) ty.Index attr.None j) =
      gives_value j MemrefDim (buffer ∷ x ∷ []) (ty.Memref m ∷ []) ty.Index attr.None f.grows.good
      (λ o is. dimension_made funcs level (now j) o m h.type buffer x (next_value j) is (f.grows.keeps buffer.0 h.type h.visible) h.same f.has h.cells) in
      gives_later ty.Index i j (gives MemrefDim (buffer ∷ x ∷ []) (ty.Memref m ∷ []) ty.Index attr.None j) f.grows g

  pub asserts_good : (text : List ℕ) (v : ValueNo) (i : Insertion) → Good i → lookup (now i) v.0 ≡ Some (ty.Int W1) → Grows funcs level first seen i (asserts text v i)
  asserts_good text v i good h =
      let o : Op = made_op CfAssert (v ∷ []) [] [] [] (attr.Text text) [] i in
      let is : Is o CfAssert (v ∷ []) [] [] [] (attr.Text text) [] = rolled CfAssert i.at (v ∷ []) [] [] [] (attr.Text text) [] in
      acts_so funcs level first seen i o good (asserted_made funcs level (now i) o (attr.Text text) v is h) is.results is.regions

-- ---- regions

module _ (funcs : List Func) (level : Level) (first : ℕ) where
  -- where an insertion is good, a region of it begins
  pub begins : (seen : Seen) (i : Insertion) → IsGood funcs level first seen i → IsGood funcs level first (behind seen i.ops) (inside i)
  begins seen i good = record { made = tt; bounded = good.bounded; above = good.above; known = good.known }

  -- later numbers are free
  pub frees : (seen : Seen) (i : Insertion) (free : ℕ) → IsGood funcs level first seen i → i.free ≤ free → IsGood funcs level first seen (record i { free = free })
  frees seen i free good le = record {
    made = good.made;
    bounded = λ v t is. let under : v < i.free = good.bounded v t is in omega (arith, under, le);
    above = omega (arith, good.above, le);
    known = good.known;
  }

  -- the region of what gives a number
  pub region_good : (seen : Seen) (t : NumTy) (f : Makes ValueNo) (i : Insertion) → IsGood funcs level first seen i → Gives funcs level first (behind seen i.ops) (type_of t) (inside i) (f (inside i)) →
      Yields funcs level first t (behind seen i.ops) (yielding t f i).0 × IsGood funcs level first seen (yielding t f i).1 × (i.free ≤ (yielding t f i).1.free) × Runs i.free (yielding t f i).1.free (values_inside (yielding t f i).0)
  region_good seen t f i good g =
      let r : ValueNo × Insertion = f (inside i) in
      let o : Op = made_op ScfYield (r.0 ∷ []) (type_of t ∷ []) [] [] attr.None [] r.1 in
      let layer : Region-F Op Region = record { params = []; ops = r.1.ops ++ o ∷ [] } in
      let e : out-Region (roll-Region layer) ≡ layer = out-roll-Region layer in
      let is : Is o ScfYield (r.0 ∷ []) (type_of t ∷ []) [] [] attr.None [] = rolled ScfYield r.1.at (r.0 ∷ []) (type_of t ∷ []) [] [] attr.None [] in
      let none : values_in o ≡ [] = plain_values o is.regions ∙ is.results in
      let values : values_inside (roll-Region layer) ≡ values_along g.grows.added =
      values_under (roll-Region layer) ∙ ap (λ (l : Region-F Op Region). names_of l.params ++ joined (map values_in l.ops)) e
      ∙ values_both r.1.ops (o ∷ []) ∙ ap (λ (vs : List ValueNo). values_along r.1.ops ++ (vs ++ [])) none ∙ nothing_more (values_along r.1.ops) ∙ ap values_along g.grows.are in (
        record {
          ops = r.1.ops;
          last = o;
          value = r.0;
          no_params = ap (λ (l : Region-F Op Region). l.params) e;
          are = ap (λ (l : Region-F Op Region). l.ops) e;
          made = g.grows.good.made;
          is = rolled ScfYield r.1.at (r.0 ∷ []) (type_of t ∷ []) [] [] attr.None [];
          has = g.has;
        },
        frees seen i r.1.free good g.grows.free,
        g.grows.free,
        subst (Runs i.free r.1.free) (sym values) g.grows.numbers,
      )

  -- one of two numbers, each made in its region
  pub chooses_good : (seen : Seen) (t : NumTy) (c : ValueNo) (f g : Makes ValueNo) (i : Insertion) → IsGood funcs level first seen i → lookup (behind seen i.ops) c.0 ≡ Some (ty.Int W1) →
      ((j : Insertion) → IsGood funcs level first (behind seen i.ops) (inside j) → Gives funcs level first (behind seen i.ops) (type_of t) (inside j) (f (inside j))) →
      ((j : Insertion) → IsGood funcs level first (behind seen i.ops) (inside j) → Gives funcs level first (behind seen i.ops) (type_of t) (inside j) (g (inside j))) →
      Gives funcs level first seen (type_of t) i (chooses t c f g i)
  chooses_good seen t c f g i good has made_f made_g =
      let i1 : Insertion = record i { free = i.free + 1 } in
      let good1 : IsGood funcs level first seen i1 = frees seen i (i.free + 1) good (omega arith) in
      let one : Yields funcs level first t (behind seen i.ops) (yielding t f i1).0 × IsGood funcs level first seen (yielding t f i1).1 × (i1.free ≤ (yielding t f i1).1.free) × Runs i1.free (yielding t f i1).1.free (values_inside (yielding t f i1).0) =
      region_good seen t f i1 good1 (made_f i1 (begins seen i1 good1)) in
      let i2 : Insertion = (yielding t f i1).1 in
      let two : Yields funcs level first t (behind seen i.ops) (yielding t g i2).0 × IsGood funcs level first seen (yielding t g i2).1 × (i2.free ≤ (yielding t g i2).1.free) × Runs i2.free (yielding t g i2).1.free (values_inside (yielding t g i2).0) =
      region_good seen t g i2 one.1 (made_g i2 (begins seen i2 one.1)) in
      let i3 : Insertion = (yielding t g i2).1 in
      let r : Region = (yielding t f i1).0 in
      let s : Region = (yielding t g i2).0 in
      let o : Op = made_op ScfIf (c ∷ []) [] (next_value i ∷ []) (type_of t ∷ []) attr.None (r ∷ s ∷ []) i3 in
      let is : Is o ScfIf (c ∷ []) [] (next_value i ∷ []) (type_of t ∷ []) attr.None (r ∷ s ∷ []) = rolled ScfIf i3.at (c ∷ []) [] (next_value i ∷ []) (type_of t ∷ []) attr.None (r ∷ s ∷ []) in
      let later : i.free + 1 ≤ i3.free = omega (arith, one.2, two.2) in
      let last : Added funcs level first seen i3 (record (placed o i3) { free = i3.free }) (next_value i) (type_of t) =
      adds_so funcs level first seen i3 o (next_value i) (type_of t) i3.free two.1 (chosen_made funcs level first t (behind seen i.ops) o c (next_value i) r s is has one.0 two.0) is.results is.types
      good.above (omega (arith, later)) (omega arith) (next_fresh funcs level first seen i good) in
      let values : values_in o ≡ next_value i ∷ (values_inside r ++ (values_inside s ++ [])) =
      values_at o ∙ ap (λ (rs : List Region). results_of o ++ joined (map values_inside rs)) is.regions ∙ ap (λ (vs : List ValueNo). vs ++ (values_inside r ++ (values_inside s ++ []))) is.results in
      let run : Runs i.free i3.free (next_value i ∷ (values_inside r ++ (values_inside s ++ []))) =
      (refl, runs_on i1.free i2.free i3.free (values_inside r) (values_inside s ++ []) one.3 (subst (Runs i2.free i3.free) (sym (nothing_more (values_inside s))) two.3)) in
      record {
        grows = record { good = last.good; added = o ∷ []; are = refl; numbers = subst (Runs i.free i3.free) (sym (nothing_more (values_in o) ∙ values)) run; keeps = last.keeps; free = omega (arith, later) };
        has = last.has;
      }

  -- ---- the turns of a loop

  index_row : HasRow ArithSubi Binary 2 1
  index_row = record { form = refl; operands = refl; results = refl; regions = refl; level = refl }

  division_row : HasRow ArithDivui Binary 2 1
  division_row = record { form = refl; operands = refl; results = refl; regions = refl; level = refl }

  sum_row : HasRow ArithAddi Binary 2 1
  sum_row = record { form = refl; operands = refl; results = refl; regions = refl; level = refl }

  pub counted_turns_good : (seen : Seen) (lower upper step : ValueNo) (i : Insertion) → IsGood funcs level first seen i →
      lookup (behind seen i.ops) lower.0 ≡ Some ty.Index → lookup (behind seen i.ops) upper.0 ≡ Some ty.Index → lookup (behind seen i.ops) step.0 ≡ Some ty.Index → Gives funcs level first seen ty.Index i (counted_turns lower upper step i)
  counted_turns_good seen lower upper step i good hl hu hs =
      let a : ValueNo × Insertion = binary ArithSubi num.Index (Value upper) (Value lower) i in
      let ga : Gives funcs level first seen ty.Index i a = binary_good funcs level first seen ArithSubi num.Index (Value upper) (Value lower) i index_row good hu hl in
      let b : ValueNo × Insertion = binary ArithSubi num.Index (Value a.0) (Number 1) a.1 in
      let gb : Gives funcs level first seen ty.Index a.1 b = binary_good funcs level first seen ArithSubi num.Index (Value a.0) (Number 1) a.1 index_row ga.grows.good ga.has tt in
      let c : ValueNo × Insertion = binary ArithDivui num.Index (Value b.0) (Value step) b.1 in
      let ib : Grows funcs level first seen i b.1 = grows_on funcs level first seen i a.1 b.1 ga.grows gb.grows in
      let gc : Gives funcs level first seen ty.Index b.1 c = binary_good funcs level first seen ArithDivui num.Index (Value b.0) (Value step) b.1 division_row gb.grows.good gb.has (ib.keeps step.0 ty.Index hs) in
      let ic : Grows funcs level first seen i c.1 = grows_on funcs level first seen i b.1 c.1 ib gc.grows in
      gives_later funcs level first seen ty.Index i c.1 (binary ArithAddi num.Index (Value c.0) (Number 1) c.1) ic
      (binary_good funcs level first seen ArithAddi num.Index (Value c.0) (Number 1) c.1 sum_row gc.grows.good gc.has tt)

  pub turns_good : (seen : Seen) (lower upper step : ValueNo) (i : Insertion) → IsGood funcs level first seen i →
      lookup (behind seen i.ops) lower.0 ≡ Some ty.Index → lookup (behind seen i.ops) upper.0 ≡ Some ty.Index → lookup (behind seen i.ops) step.0 ≡ Some ty.Index → Gives funcs level first seen ty.Index i (turns lower upper step i)
  turns_good seen lower upper step i good hl hu hs =
      let a : ValueNo × Insertion = compare Sle num.Index (Value upper) (Value lower) i in
      let ga : Gives funcs level first seen (ty.Int W1) i a = compare_good funcs level first seen Sle num.Index (Value upper) (Value lower) i good hu hl in
      let at : Seen = behind seen a.1.ops in
      gives_later funcs level first seen ty.Index i a.1 (chooses num.Index a.0 (constant num.Index 0) (counted_turns lower upper step) a.1) ga.grows
      (chooses_good seen num.Index a.0 (constant num.Index 0) (counted_turns lower upper step) a.1 ga.grows.good ga.has
      (λ j inner. constant_good funcs level first at num.Index 0 (inside j) inner)
      (λ j inner. counted_turns_good at lower upper step (inside j) inner (ga.grows.keeps lower.0 ty.Index hl) (ga.grows.keeps upper.0 ty.Index hu) (ga.grows.keeps step.0 ty.Index hs)))
