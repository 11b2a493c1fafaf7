-- Insertions grow by operations that break nothing, calls among them.
use Rattle.std.proofs.Common.{◌≡◌, ◌≤◌, ◌<◌, ℕ, ◌+◌, ◌==◌, ◌&&◌, cond, Bool, true, false, if◌then◌else◌, List, [], ◌∷◌, ◌++◌, Option, Some, None, refl, sym, ap, ◌∙◌, subst, arith}
use Rattle.int_ops.specs.declared.Pred.{Pred}
use Rattle.int_ops.specs.declared.Width.TheVariants.{W1}
use Rattle.op_table.specs.declared.kind.OpKind.{OpKind}
use Rattle.op_table.specs.declared.kind.OpKind.TheVariants.{ArithCmpi, ArithConstant, CfAssert}
use Rattle.op_table.specs.declared.form.Form.TheVariants.{Binary}
use Rattle.op_table.specs.declared.rows.Level.TheVariants.{Low}
use Rattle.ir_forms.specs.declared.ops.Attr.{Attr}
use Rattle.ir_forms.specs.declared.ops.Attr.TheVariants as attr
use Rattle.ir_forms.specs.declared.ops.Op.{Op}
use Rattle.ir_forms.specs.declared.ops.Func.{Func}
use Rattle.ir_forms.specs.declared.ops.ValueNo.{ValueNo}
use Rattle.ir_forms.specs.declared.types.NumTy.{NumTy}
use Rattle.ir_forms.specs.declared.types.Ty.{Ty}
use Rattle.ir_forms.specs.declared.types.Ty.TheVariants as ty
use Rattle.ir_forms.specs.Ops.{results_of}
use Rattle.ir_verify.specs.Places.{Seen, defined, types_of}
use Rattle.ir_verify.specs.Scopes.{lookup}
use Rattle.made_ops.specs.Made.{asserts, binary, compare, constant, found, found_or_new, gives, literal, made_op, new_constant, next_value, operand, placed, same_number, type_of}
use Rattle.made_ops.specs.declared.insertion.Insertion.{Insertion}
use Rattle.made_ops.specs.declared.insertion.Known.{Known}
use Rattle.made_ops.specs.declared.insertion.Operand.{Operand}
use Rattle.made_ops.specs.declared.insertion.Operand.TheVariants.{Value, Number}
use Rattle.sound_laws.specs.Extended.{IsMade}
use Rattle.sound_laws.specs.Made.{behind, AreVisible, Fits}
use Rattle.sound_laws.proofs.Sight.{equal, is_equal, lookup_append, or_else, or_none}
use Rattle.sound_laws.proofs.Plain.{Is, rolled}
use Rattle.sound_laws.proofs.Making.{HasRow, behind_append, constants_visible, known_behind, compared_made, binary_made, constant_made, asserted_made}
use Rattle.sound_laws.proofs.Growing.{literal_is_fit, same_numbers}
use Rattle.sound_loops.specs.Seen.{FineAt, Front}

and_first : (a b : Bool) → (a && b) ≡ true → a ≡ true
and_first true b e = refl
and_first false b e = cc

-- a constant that is found is visible
found_visible : (t : NumTy) (n : ℕ) (known : List Known) (now : Seen) (v : ValueNo) → AreVisible now known → found t n known ≡ Some v → lookup now v.0 ≡ Some (type_of t)
found_visible t n [] now v h is = cc
found_visible t n (k ∷ known) now v h is = step (same_number k.ty t && k.bits == n) refl is (found_visible t n known now v h.1)
  where
    step : (b : Bool) → (same_number k.ty t && k.bits == n) ≡ b → (if b then Some k.value else found t n known) ≡ Some v → (found t n known ≡ Some v → lookup now v.0 ≡ Some (type_of t)) → lookup now v.0 ≡ Some (type_of t)
    step true e found again =
        let same : k.value ≡ v = cc in
        subst (λ (w : ValueNo). lookup now w.0 ≡ Some (type_of t)) same (h.0 ∙ ap (λ (u : Ty). Some u) (same_numbers k.ty t (and_first _ _ e)))
    step false e found again = again found

module _ (funcs : List Func) where
  pub front_behind : (seen : Seen) (os : List Op) (o : Op) → Front funcs seen os → FineAt funcs (behind seen os) o → Front funcs seen (os ++ o ∷ [])
  front_behind seen [] o h is = (is, tt)
  front_behind seen (x ∷ os) o h is = (h.0, front_behind (seen ++ defined (results_of x) (types_of x)) os o h.1 is)

  -- an insertion where these values are visible
  pub record IsGood (seen : Seen) (i : Insertion) : Type 0 where
    pub made : Front funcs seen i.ops
    pub bounded : (v : ℕ) (t : Ty) → lookup (behind seen i.ops) v ≡ Some t → v < i.free
    pub known : AreVisible (behind seen i.ops) i.known

  -- the second one extends the first one
  pub record Grows (seen : Seen) (i j : Insertion) : Type 0 where
    pub good : IsGood seen j
    pub keeps : (v : ℕ) (t : Ty) → lookup (behind seen i.ops) v ≡ Some t → lookup (behind seen j.ops) v ≡ Some t
    pub free : i.free ≤ j.free

  -- and gives a value of this type
  pub record Gives (seen : Seen) (t : Ty) (i : Insertion) (r : ValueNo × Insertion) : Type 0 where
    pub grows : Grows seen i r.1
    pub has : lookup (behind seen r.1.ops) r.0.0 ≡ Some t

  module _ (seen : Seen) where
    abbrev pub now : Insertion → Seen
    now i = behind seen i.ops

    pub grows_self : (i : Insertion) → IsGood seen i → Grows seen i i
    grows_self i good = record { good = good; keeps = λ v t is. is; free = omega arith }

    pub grows_on : (i j k : Insertion) → Grows seen i j → Grows seen j k → Grows seen i k
    grows_on i j k f g = record { good = g.good; keeps = λ v t is. g.keeps v t (f.keeps v t is); free = omega (arith, f.free, g.free) }

    pub gives_later : (u : Ty) (i j : Insertion) (r : ValueNo × Insertion) → Grows seen i j → Gives seen u j r → Gives seen u i r
    gives_later u i j r g h = record { grows = grows_on i j r.1 g h.grows; has = h.has }

    -- later numbers are free
    pub frees : (i : Insertion) (free : ℕ) → IsGood seen i → i.free ≤ free → IsGood seen (record i { free = free })
    frees i free good le = record {
      made = good.made;
      bounded = λ v t is. let under : v < i.free = good.bounded v t is in omega (arith, under, le);
      known = good.known;
    }

    -- a number that isn't below the next one isn't there
    pub fresh : (i : Insertion) (v : ℕ) → IsGood seen i → i.free ≤ v → lookup (now i) v ≡ None
    fresh i v good le = step (lookup (now i) v) refl
      where
        step : (o : Option Ty) → lookup (now i) v ≡ o → o ≡ None
        step None is = refl
        step (Some t) is = let low : v < i.free = good.bounded v t is in absurd (omega (arith, low, le))

    -- ---- one more operation

    -- without a result
    pub acts_so : (i : Insertion) (o : Op) → IsGood seen i → FineAt funcs (now i) o → results_of o ≡ [] → Grows seen i (placed o i)
    acts_so i o good is none =
        let back : (v : ℕ) → lookup (behind seen (i.ops ++ o ∷ [])) v ≡ lookup (behind seen i.ops) v = λ v.
        ap (λ (s : Seen). lookup s v) (behind_append seen i.ops (o ∷ [])) ∙ lookup_append (behind seen i.ops) (defined (results_of o) (types_of o)) v
        ∙ ap (λ (vs : List ValueNo). or_else (lookup (behind seen i.ops) v) (lookup (defined vs (types_of o)) v)) none
        ∙ or_none (lookup (behind seen i.ops) v) in
        record {
          good = record {
            made = front_behind seen i.ops o good.made is;
            bounded = λ v t found. good.bounded v t (sym (back v) ∙ found);
            known = constants_visible (behind seen i.ops) (behind seen (i.ops ++ o ∷ [])) i.known (λ v t found. back v ∙ found) good.known;
          };
          keeps = λ v t found. back v ∙ found;
          free = omega arith;
        }

    -- with a new result
    pub adds_so : (i : Insertion) (o : Op) (v : ValueNo) (t : Ty) (free : ℕ) → IsGood seen i → FineAt funcs (now i) o → results_of o ≡ v ∷ [] → types_of o ≡ t ∷ [] →
        v.0 < free → i.free ≤ free → lookup (now i) v.0 ≡ None → Gives seen t i (v, record (placed o i) { free = free })
    adds_so i o v t free good is results types under later unseen = record {
      grows = record {
        good = record {
          made = front_behind seen i.ops o good.made is;
          bounded = λ w u found. bounded w u (lookup (behind seen i.ops) w) refl (sym (ahead w) ∙ found);
          known = constants_visible (behind seen i.ops) (behind seen (i.ops ++ o ∷ [])) i.known keeps good.known;
        };
        keeps = keeps;
        free = later;
      };
      has = ahead v.0 ∙ ap (λ (x : Option Ty). or_else x (cond (v.0 == v.0) (Some t) None)) unseen ∙ ap (λ b. cond b (Some t) None) (is_equal v.0 v.0 refl);
    }
      where
        ahead : (w : ℕ) → lookup (behind seen (i.ops ++ o ∷ [])) w ≡ or_else (lookup (behind seen i.ops) w) (cond (v.0 == w) (Some t) None)
        ahead w =
            ap (λ (s : Seen). lookup s w) (behind_append seen i.ops (o ∷ []))
            ∙ lookup_append (behind seen i.ops) (defined (results_of o) (types_of o)) w
            ∙ ap (λ (vs : List ValueNo). or_else (lookup (behind seen i.ops) w) (lookup (defined vs (types_of o)) w)) results
            ∙ ap (λ (ts : List Ty). or_else (lookup (behind seen i.ops) w) (lookup (defined (v ∷ []) ts) w)) types

        keeps : (w : ℕ) (u : Ty) → lookup (behind seen i.ops) w ≡ Some u → lookup (behind seen (i.ops ++ o ∷ [])) w ≡ Some u
        keeps w u found = ahead w ∙ ap (λ (x : Option Ty). or_else x (cond (v.0 == w) (Some t) None)) found

        one : (w : ℕ) (u : Ty) (b : Bool) → (v.0 == w) ≡ b → cond b (Some t) None ≡ Some u → w < free
        one w u true e found = let same : v.0 ≡ w = equal v.0 w e in omega (arith, same, under)
        one w u false e found = cc

        bounded : (w : ℕ) (u : Ty) (x : Option Ty) → lookup (behind seen i.ops) w ≡ x → or_else x (cond (v.0 == w) (Some t) None) ≡ Some u → w < free
        bounded w u (Some s) is found = let low : w < i.free = good.bounded w s is in omega (arith, low, later)
        bounded w u None is found = one w u (v.0 == w) refl found

    pub gives_value : (i : Insertion) (kind : OpKind) (vs : List ValueNo) (ws : List Ty) (u : Ty) (a : Attr) → IsGood seen i →
        ((o : Op) → Is o kind vs ws (next_value i ∷ []) (u ∷ []) a [] → FineAt funcs (now i) o) → Gives seen u i (gives kind vs ws u a i)
    gives_value i kind vs ws u a good made =
        let o : Op = made_op kind vs ws (next_value i ∷ []) (u ∷ []) a [] i in
        let is : Is o kind vs ws (next_value i ∷ []) (u ∷ []) a [] = rolled kind i.at vs ws (next_value i ∷ []) (u ∷ []) a [] in
        adds_so i o (next_value i) u (i.free + 1) good (made o is) is.results is.types (omega arith) (omega arith) (fresh i i.free good (omega arith))

    -- ---- constants

    new_constant_good : (t : NumTy) (n : ℕ) (i : Insertion) → IsGood seen i → Gives seen (type_of t) i (new_constant t n i)
    new_constant_good t n i good =
        let g : Gives seen (type_of t) i (gives ArithConstant [] [] (type_of t) (literal t n) i) =
        gives_value i ArithConstant [] [] (type_of t) (literal t n) good (λ o is. λ around. (constant_made funcs Low (now i) o t (literal t n) (next_value i) is (literal_is_fit t n)).fine around) in
        let j : Insertion = (gives ArithConstant [] [] (type_of t) (literal t n) i).1 in
        record {
          grows = record {
            good = record {
              made = g.grows.good.made;
              bounded = g.grows.good.bounded;
              known = known_behind (now j) j.known (record { ty = t; bits = n; value = next_value i }) g.grows.good.known g.has;
            };
            keeps = g.grows.keeps;
            free = g.grows.free;
          };
          has = g.has;
        }

    pub constant_good : (t : NumTy) (n : ℕ) (i : Insertion) → IsGood seen i → Gives seen (type_of t) i (constant t n i)
    constant_good t n i good = step (found t n i.known) refl
      where
        step : (o : Option ValueNo) → found t n i.known ≡ o → Gives seen (type_of t) i (found_or_new t n o i)
        step (Some v) is = record { grows = grows_self i good; has = found_visible t n i.known (now i) v good.known is }
        step None is = new_constant_good t n i good

    -- ---- operations on numbers

    pub operand_good : (t : NumTy) (a : Operand) (i : Insertion) → IsGood seen i → Fits (now i) t a → Gives seen (type_of t) i (operand t a i)
    operand_good t (Value v) i good fits = record { grows = grows_self i good; has = fits }
    operand_good t (Number n) i good fits = constant_good t n i good

    pub fits_later : (i j : Insertion) (t : NumTy) (a : Operand) → Grows seen i j → Fits (now i) t a → Fits (now j) t a
    fits_later i j t (Value v) g h = g.keeps v.0 (type_of t) h
    fits_later i j t (Number n) g h = tt

    pair_good : (kind : OpKind) (t : NumTy) (u : Ty) (at : Attr) (a b : Operand) (i : Insertion) → IsGood seen i → Fits (now i) t a → Fits (now i) t b →
        ((s : Seen) (o : Op) (x y v : ValueNo) → Is o kind (x ∷ y ∷ []) (type_of t ∷ type_of t ∷ []) (v ∷ []) (u ∷ []) at [] → lookup s x.0 ≡ Some (type_of t) → lookup s y.0 ≡ Some (type_of t) → IsMade funcs Low s o) →
        Gives seen u i (gives kind ((operand t a i).0 ∷ (operand t b (operand t a i).1).0 ∷ []) (type_of t ∷ type_of t ∷ []) u at (operand t b (operand t a i).1).1)
    pair_good kind t u at a b i good fits_a fits_b made =
        let j : Insertion = (operand t a i).1 in
        let x : ValueNo = (operand t a i).0 in
        let k : Insertion = (operand t b j).1 in
        let y : ValueNo = (operand t b j).0 in
        let f : Gives seen (type_of t) i (operand t a i) = operand_good t a i good fits_a in
        let g : Gives seen (type_of t) j (operand t b j) = operand_good t b j f.grows.good (fits_later i j t b f.grows fits_b) in
        let h : Gives seen u k (gives kind (x ∷ y ∷ []) (type_of t ∷ type_of t ∷ []) u at k) =
        gives_value k kind (x ∷ y ∷ []) (type_of t ∷ type_of t ∷ []) u at g.grows.good
        (λ o is. λ around. (made (now k) o x y (next_value k) is (g.grows.keeps x.0 (type_of t) f.has) g.has).fine around) in
        gives_later u i k (gives kind (x ∷ y ∷ []) (type_of t ∷ type_of t ∷ []) u at k) (grows_on i j k f.grows g.grows) h

    pub compare_good : (p : Pred) (t : NumTy) (a b : Operand) (i : Insertion) → IsGood seen i → Fits (now i) t a → Fits (now i) t b → Gives seen (ty.Int W1) i (compare p t a b i)
    compare_good p t a b i good fits_a fits_b = pair_good ArithCmpi t (ty.Int W1) (attr.Pred p) a b i good fits_a fits_b (λ s o x y v is hx hy. compared_made funcs Low s o p t x y v is hx hy)

    pub binary_good : (kind : OpKind) (t : NumTy) (a b : Operand) (i : Insertion) → HasRow kind Binary 2 1 → IsGood seen i → Fits (now i) t a → Fits (now i) t b → Gives seen (type_of t) i (binary kind t a b i)
    binary_good kind t a b i row good fits_a fits_b = pair_good kind t (type_of t) attr.None a b i good fits_a fits_b (λ s o x y v is hx hy. binary_made funcs Low s o kind t x y v row is hx hy)

    -- an assertion
    pub asserts_good : (text : List ℕ) (v : ValueNo) (i : Insertion) → IsGood seen i → lookup (now i) v.0 ≡ Some (ty.Int W1) → Grows seen i (asserts text v i)
    asserts_good text v i good h =
        let o : Op = made_op CfAssert (v ∷ []) [] [] [] (attr.Text text) [] i in
        let is : Is o CfAssert (v ∷ []) [] [] [] (attr.Text text) [] = rolled CfAssert i.at (v ∷ []) [] [] [] (attr.Text text) [] in
        acts_so i o good (λ around. (asserted_made funcs Low (now i) o (attr.Text text) v is h).fine around) is.results
