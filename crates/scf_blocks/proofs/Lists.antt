-- One more element of a list of values.
use Rattle.std.proofs.Common.{◌≡◌, ℕ, zero, suc, ◌+◌, ◌<◌, ◌≤◌, List, [], ◌∷◌, ◌++◌, length, drop, get_or, Some, None, slice_get, refl, ap, ap₂, sym, ◌∙◌, append_assoc, length-append, arith}
use Rattle.std.proofs.lemmas.Option.{slice_get-get_or}
use Rattle.ir_forms.specs.declared.ops.ValueNo.{ValueNo}
use Rattle.ir_forms.specs.declared.types.Ty.{Ty}
use Rattle.low_forms.specs.declared.code.Reg.{Reg}
use Rattle.scf_blocks.specs.declared.body.Body.{Body}
use Rattle.scf_blocks.specs.Tree.{Var, values_of, types_in, typed, or_untyped}
use Rattle.scf_blocks.specs.Code.{Scope, reg_no, regs, reg, regs_from, with_values}
use Rattle.scf_blocks.specs.Bodies.{defined, next_reg}

pub drop_got : {A : Type 0} (xs : List A) (k : ℕ) (x : A) → slice_get xs k ≡ Some x → drop k xs ≡ x ∷ drop (k + 1) xs
drop_got [] k x e = cc
drop_got (y ∷ xs) zero x e = let h : y ≡ x = cc in ap (λ z. z ∷ xs) h
drop_got (y ∷ xs) (suc k) x e =
    let n : suc k + 1 ≡ suc (k + 1) = omega arith in
    drop_got xs k x e ∙ ap (λ j. x ∷ drop j (y ∷ xs)) (sym n)

pub got : {A : Type 0} (xs : List A) (k : ℕ) (x : A) → k < length xs → x ≡ get_or xs k x → slice_get xs k ≡ Some x
got xs k x lt e = slice_get-get_or xs k x lt ∙ ap Some (sym e)

pub drop_end : {A : Type 0} (xs : List A) (k : ℕ) → length xs ≤ k → drop k xs ≡ []
drop_end [] zero le = refl
drop_end [] (suc k) le = refl
drop_end (x ∷ xs) zero le = absurd (omega (arith, le))
drop_end (x ∷ xs) (suc k) le = let h : length xs ≤ k = omega (arith, le) in drop_end xs k h

-- the registers of values
pub regs_next : (xs : List ValueNo) (k : ℕ) (x : ValueNo) (scope : Scope) (list all : List Reg) → slice_get xs k ≡ Some x → list ++ regs scope (drop k xs) ≡ all → (list ++ reg scope x ∷ []) ++ regs scope (drop (k + 1) xs) ≡ all
regs_next xs k x scope list all e h = append_assoc list (reg scope x ∷ []) _ ∙ sym (ap (λ l. list ++ regs scope l) (drop_got xs k x e)) ∙ h

pub regs_end : (xs : List ValueNo) (k : ℕ) (scope : Scope) → length xs ≤ k → regs scope (drop k xs) ≡ []
regs_end xs k scope le = ap (regs scope) (drop_end xs k le)

-- values are defined one after another
pub defined_cons : (x : Var) (xs : List Var) (w : Body) → defined (x ∷ xs) w ≡ defined xs (defined (x ∷ []) w)
defined_cons x xs w =
    let len : length (w.types ++ x.1 ∷ []) ≡ length w.types + 1 = length-append w.types (x.1 ∷ []) in
    ap₂ (λ (ts : List Ty) (s : Scope). let v : Body = record w { types = ts; scope = s } in v) (sym (append_assoc w.types (x.1 ∷ []) (types_in xs)))
    (ap (λ n. with_values (values_of xs) n ((x.0, reg_no (length w.types)) ∷ w.scope)) (sym len))

pub defined_next : (xs rest : List Var) (x : Var) (w w' all : Body) → xs ≡ x ∷ rest → w' ≡ defined (x ∷ []) w → defined xs w ≡ all → defined rest w' ≡ all
defined_next xs rest x w w' all e is h = ap (defined rest) is ∙ sym (defined_cons x rest w) ∙ sym (ap (λ l. defined l w) e) ∙ h

pub made_next : (xs rest : List Var) (x : Var) (w w' : Body) (list all : List Reg) → xs ≡ x ∷ rest → w' ≡ defined (x ∷ []) w → list ++ regs_from (length w.types) xs ≡ all → (list ++ next_reg w ∷ []) ++ regs_from (length w'.types) rest ≡ all
made_next xs rest x w w' list all e is h =
    let len : length w'.types ≡ length w.types + 1 = ap (λ v. length v.types) is ∙ length-append w.types (x.1 ∷ []) in
    ap (λ n. (list ++ next_reg w ∷ []) ++ regs_from n rest) len ∙ append_assoc list (next_reg w ∷ []) _ ∙ sym (ap (λ l. list ++ regs_from (length w.types) l) e) ∙ h

drop_nil : (k : ℕ) → drop {A = Ty} k [] ≡ []
drop_nil zero = refl
drop_nil (suc k) = refl

pub typed_next : (xs : List ValueNo) (ts : List Ty) (k : ℕ) (x : ValueNo) → slice_get xs k ≡ Some x → typed (drop k xs) (drop k ts) ≡ (x, or_untyped (slice_get ts k)) ∷ typed (drop (k + 1) xs) (drop (k + 1) ts)
typed_next [] ts k x e = cc
typed_next (y ∷ xs) [] zero x e = let h : y ≡ x = cc in ap (λ (z : ValueNo). let v : Var = (z, or_untyped None) in v ∷ typed xs []) h
typed_next (y ∷ xs) (t ∷ ts) zero x e = let h : y ≡ x = cc in ap (λ (z : ValueNo). let v : Var = (z, t) in v ∷ typed xs ts) h
typed_next (y ∷ xs) [] (suc k) x e =
    let n : suc k + 1 ≡ suc (k + 1) = omega arith in
    ap (λ l. typed (drop k xs) l) (sym (drop_nil k)) ∙ typed_next xs [] k x e
    ∙ ap (λ l. (x, or_untyped None) ∷ typed (drop (k + 1) xs) l) (drop_nil (k + 1) ∙ sym (drop_nil (suc k + 1)))
    ∙ ap (λ j. (x, or_untyped None) ∷ typed (drop j (y ∷ xs)) (drop (suc k + 1) [])) (sym n)
typed_next (y ∷ xs) (t ∷ ts) (suc k) x e =
    let n : suc k + 1 ≡ suc (k + 1) = omega arith in
    typed_next xs ts k x e ∙ ap (λ j. (x, or_untyped (slice_get ts k)) ∷ typed (drop j (y ∷ xs)) (drop j (t ∷ ts))) (sym n)

pub typed_end : (xs : List ValueNo) (ts : List Ty) (k : ℕ) → length xs ≤ k → typed (drop k xs) (drop k ts) ≡ []
typed_end xs ts k le = ap (λ l. typed l (drop k ts)) (drop_end xs k le)
