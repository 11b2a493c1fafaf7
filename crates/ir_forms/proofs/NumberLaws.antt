-- What numbering does, by induction over operations and regions.
use Rattle.std.proofs.Common.{◌≡◌, ℕ, zero, suc, ◌+◌, List, [], ◌∷◌, ◌++◌, map, refl, ap, sym, subst, ◌∙◌, arith}
use Rattle.ir_forms.specs.declared.ops.Op.{Op, Op-F, roll-Op}
use Rattle.ir_forms.specs.declared.ops.Op.TheFolds.{fold-roll-Op, fold-roll-Region, ind-Region}
use Rattle.ir_forms.specs.declared.ops.Region.{Region, Region-F, roll-Region}
use Rattle.ir_forms.specs.declared.ops.Func.{Func}
use Rattle.ir_forms.specs.declared.ops.Module.{Module}
use Rattle.ir_forms.specs.Numbers.{sum_of, op_size, region_size, operations_in, operations_inside, operations_under, Numbering, op_numbers, region_numbers, in_turn, numbered_op, numbered_region, numbered_func, joined, numbers_at, numbers_under, numbers_in, numbers_inside, func_numbers, numbers_behind, op_unnumbered, unnumbered_op, unnumbered_region, unnumbered_func, NumbersInOrder, RenumberedOnce, NumbersAlone}

pub behind-append : (n a b : ℕ) → numbers_behind n a ++ numbers_behind (n + a) b ≡ numbers_behind n (a + b)
behind-append n zero b =
    let e : n + 0 ≡ n = omega arith in let f : 0 + b ≡ b = omega arith in rw (e, f) refl
behind-append n (suc a) b =
    let e : n + suc a ≡ n + 1 + a = omega arith in
    let f : suc a + b ≡ suc (a + b) = omega arith in
    rw (e, f) (ap (λ ns. (n + 1) ∷ ns) (behind-append (n + 1) a b))

-- ---- what holds of one thing that is numbered

module _ {A : Type 0} (number : A → ℕ → A × ℕ) (size : A → ℕ) (numbers : A → List ℕ) (plain : A → A) where
  pub record IsNumbered (x : A) (n : ℕ) : Type 0 where
    pub last : (number x n).1 ≡ n + size x
    pub order : numbers (number x n).0 ≡ numbers_behind n (size x)
    pub once : (k : ℕ) → number (number x n).0 k ≡ number x k
    pub alone : plain (number x n).0 ≡ plain x

  abbrev pub Lawful : A → Type 0
  Lawful x = (n : ℕ) → IsNumbered x n

abbrev pub Each : {A : Type 0} → (A → Type 0) → List A → Type 0
Each P [] = Unit {0}
Each P (x ∷ xs) = P x × Each P xs

each_of : {A : Type 0} (P : A → Type 0) (ys : List ((x : A) × P x)) → Each P (map (λ e. e.0) ys)
each_of P [] = tt
each_of P (y ∷ ys) = (y.1, each_of P ys)

module _ {A : Type 0} (number : A → ℕ → A × ℕ) (size : A → ℕ) (numbers : A → List ℕ) (plain : A → A) where
  abbrev numbered_all : List A → ℕ → List A × ℕ
  numbered_all xs = in_turn (map number xs)

  pub lawful_all : (xs : List A) → Each (Lawful number size numbers plain) xs →
      Lawful (λ xs. in_turn (map number xs)) (λ xs. sum_of (map size xs)) (λ xs. joined (map numbers xs)) (map plain) xs
  lawful_all [] each n = record { last = omega arith; order = refl; once = λ k. refl; alone = refl }
  lawful_all (x ∷ xs) each n =
      let first = each.0 n in
      let rest = lawful_all xs each.1 (number x n).1 in
      record {
        last = rest.last ∙ omega (arith, first.last);
        order =
            ap (λ ns. ns ++ joined (map numbers (numbered_all xs (number x n).1).0)) first.order
            ∙ ap (λ ns. numbers_behind n (size x) ++ ns) (rest.order ∙ ap (λ m. numbers_behind m (sum_of (map size xs))) first.last)
            ∙ behind-append n (size x) (sum_of (map size xs));
        once = λ k.
            ap (λ (p : A × ℕ). (p.0 ∷ (numbered_all (numbered_all xs (number x n).1).0 p.1).0, (numbered_all (numbered_all xs (number x n).1).0 p.1).1)) (first.once k)
            ∙ ap (λ (q : List A × ℕ). ((number x k).0 ∷ q.0, q.1)) (rest.once (number x k).1);
        alone = ap (λ y. y ∷ map plain (numbered_all xs (number x n).1).0) first.alone ∙ ap (λ ys. plain x ∷ ys) rest.alone;
      }

-- ---- operations and regions

abbrev OpLaws : Op → Type 0
OpLaws = Lawful numbered_op operations_in numbers_in unnumbered_op

abbrev RegionLaws : Region → Type 0
RegionLaws = Lawful numbered_region operations_inside numbers_inside unnumbered_region

abbrev regions_numbered : List Region → ℕ → List Region × ℕ
regions_numbered rs = in_turn (map numbered_region rs)

abbrev ops_numbered : List Op → ℕ → List Op × ℕ
ops_numbered ops = in_turn (map numbered_op ops)

-- this layer with another number and other regions
abbrev made : Op-F Op Region → ℕ → List Region → Op
made x a rs = roll-Op (record x { at = a; regions = rs })

abbrev held : Region-F Op Region → List Op → Region
held x ops = roll-Region (record x { ops = ops })

numbered-made : (x : Op-F Op Region) (a : ℕ) (rs : List Region) (n : ℕ) →
    numbered_op (made x a rs) n ≡ (made x (n + 1) (regions_numbered rs (n + 1)).0, (regions_numbered rs (n + 1)).1)
numbered-made x a rs n = ap (λ (f : Numbering Op). f n) (fold-roll-Op (Numbering Op) (Numbering Region) op_numbers region_numbers (record x { at = a; regions = rs }))

numbers-made : (x : Op-F Op Region) (a : ℕ) (rs : List Region) → numbers_in (made x a rs) ≡ a ∷ joined (map numbers_inside rs)
numbers-made x a rs = fold-roll-Op (List ℕ) (List ℕ) numbers_at numbers_under (record x { at = a; regions = rs })

size-made : (x : Op-F Op Region) (a : ℕ) (rs : List Region) → operations_in (made x a rs) ≡ 1 + sum_of (map operations_inside rs)
size-made x a rs = fold-roll-Op ℕ ℕ op_size region_size (record x { at = a; regions = rs })

unnumbered-made : (x : Op-F Op Region) (a : ℕ) (rs : List Region) → unnumbered_op (made x a rs) ≡ made x 0 (map unnumbered_region rs)
unnumbered-made x a rs = fold-roll-Op Op Region op_unnumbered roll-Region (record x { at = a; regions = rs })

numbered-held : (x : Region-F Op Region) (ops : List Op) (n : ℕ) →
    numbered_region (held x ops) n ≡ (held x (ops_numbered ops n).0, (ops_numbered ops n).1)
numbered-held x ops n = ap (λ (f : Numbering Region). f n) (fold-roll-Region (Numbering Op) (Numbering Region) op_numbers region_numbers (record x { ops = ops }))

numbers-held : (x : Region-F Op Region) (ops : List Op) → numbers_inside (held x ops) ≡ joined (map numbers_in ops)
numbers-held x ops = fold-roll-Region (List ℕ) (List ℕ) numbers_at numbers_under (record x { ops = ops })

size-held : (x : Region-F Op Region) (ops : List Op) → operations_inside (held x ops) ≡ sum_of (map operations_in ops)
size-held x ops = fold-roll-Region ℕ ℕ op_size region_size (record x { ops = ops })

unnumbered-held : (x : Region-F Op Region) (ops : List Op) → unnumbered_region (held x ops) ≡ held x (map unnumbered_op ops)
unnumbered-held x ops = fold-roll-Region Op Region op_unnumbered roll-Region (record x { ops = ops })

abbrev RegionsLaws : List Region → Type 0
RegionsLaws = Lawful (λ xs. in_turn (map numbered_region xs)) (λ xs. sum_of (map operations_inside xs)) (λ xs. joined (map numbers_inside xs)) (map unnumbered_region)

abbrev OpsLaws : List Op → Type 0
OpsLaws = Lawful (λ xs. in_turn (map numbered_op xs)) (λ xs. sum_of (map operations_in xs)) (λ xs. joined (map numbers_in xs)) (map unnumbered_op)

op_step : (x : Op-F Op Region) → RegionsLaws x.regions → OpLaws (roll-Op x)
op_step x laws n =
    let rs = regions_numbered x.regions (n + 1) in
    let inner = laws (n + 1) in
    let seen = numbered-made x x.at x.regions n in
    record {
      last = ap (λ (p : Op × ℕ). p.1) seen ∙ inner.last ∙ (rw (size-made x x.at x.regions) (omega arith));
      order =
          ap (λ (p : Op × ℕ). numbers_in p.0) seen ∙ numbers-made x (n + 1) rs.0 ∙ ap (λ ns. (n + 1) ∷ ns) inner.order
          ∙ ap (λ m. numbers_behind n m) (let e : suc (sum_of (map operations_inside x.regions)) ≡ 1 + sum_of (map operations_inside x.regions) = omega arith in e ∙ sym (size-made x x.at x.regions));
      once = λ k.
          ap (λ (p : Op × ℕ). numbered_op p.0 k) seen ∙ numbered-made x (n + 1) rs.0 k
          ∙ ap (λ (q : List Region × ℕ). (made x (k + 1) q.0, q.1)) (inner.once (k + 1))
          ∙ sym (numbered-made x x.at x.regions k);
      alone =
          ap (λ (p : Op × ℕ). unnumbered_op p.0) seen ∙ unnumbered-made x (n + 1) rs.0 ∙ ap (λ rs. made x 0 rs) inner.alone
          ∙ sym (unnumbered-made x x.at x.regions);
    }

region_step : (x : Region-F Op Region) → OpsLaws x.ops → RegionLaws (roll-Region x)
region_step x laws n =
    let ops = ops_numbered x.ops n in
    let inner = laws n in
    let seen = numbered-held x x.ops n in
    record {
      last = ap (λ (p : Region × ℕ). p.1) seen ∙ inner.last ∙ ap (λ m. n + m) (sym (size-held x x.ops));
      order =
          ap (λ (p : Region × ℕ). numbers_inside p.0) seen ∙ numbers-held x ops.0 ∙ inner.order
          ∙ ap (λ m. numbers_behind n m) (sym (size-held x x.ops));
      once = λ k.
          ap (λ (p : Region × ℕ). numbered_region p.0 k) seen ∙ numbered-held x ops.0 k
          ∙ ap (λ (q : List Op × ℕ). (held x q.0, q.1)) (inner.once k)
          ∙ sym (numbered-held x x.ops k);
      alone =
          ap (λ (p : Region × ℕ). unnumbered_region p.0) seen ∙ unnumbered-held x ops.0 ∙ ap (λ os. held x os) inner.alone
          ∙ sym (unnumbered-held x x.ops);
    }

pub region_laws : (region : Region) → RegionLaws region
region_laws = ind-Region OpLaws RegionLaws
    (λ x y is. op_step x (lawful_all numbered_region operations_inside numbers_inside unnumbered_region x.regions
    (subst (λ (z : Op-F Op Region). Each RegionLaws z.regions) is (each_of RegionLaws y.regions))))
    (λ x y is. region_step x (lawful_all numbered_op operations_in numbers_in unnumbered_op x.ops
    (subst (λ (z : Region-F Op Region). Each OpLaws z.ops) is (each_of OpLaws y.ops))))

-- ---- functions and modules

func_laws : (f : Func) → Lawful numbered_func operations_under func_numbers unnumbered_func f
func_laws f n =
    let inner = region_laws f.body (n + 1) in
    record {
      last = inner.last ∙ omega arith;
      order = ap (λ ns. (n + 1) ∷ ns) inner.order ∙ ap (λ m. numbers_behind n m) (let e : suc (operations_inside f.body) ≡ 1 + operations_inside f.body = omega arith in e);
      once = λ k. ap (λ (q : Region × ℕ). let p : Func × ℕ = (record f { at = k + 1; body = q.0 }, q.1) in p) (inner.once (k + 1));
      alone = ap (λ (body : Region). let g : Func = record f { at = 0; body = body } in g) inner.alone;
    }

each_func : (funcs : List Func) → Each (Lawful numbered_func operations_under func_numbers unnumbered_func) funcs
each_func [] = tt
each_func (f ∷ funcs) = (func_laws f, each_func funcs)

abbrev module_laws : (program : Module) → Lawful (λ xs. in_turn (map numbered_func xs)) (λ xs. sum_of (map operations_under xs)) (λ xs. joined (map func_numbers xs)) (map unnumbered_func) program.funcs
module_laws program = lawful_all numbered_func operations_under func_numbers unnumbered_func program.funcs (each_func program.funcs)

abbrev program_of : List Func → Module
program_of funcs = record { funcs = funcs }

pub numbers_in_order_lem : NumbersInOrder
numbers_in_order_lem program = (module_laws program 0).order

pub renumbered_once_lem : RenumberedOnce
renumbered_once_lem program = ap (λ (q : List Func × ℕ). program_of q.0) ((module_laws program 0).once 0)

pub numbers_alone_lem : NumbersAlone
numbers_alone_lem program = ap program_of ((module_laws program 0).alone)
