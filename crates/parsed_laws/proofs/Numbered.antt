-- Numbering a module's operations leaves its form as it is.
use Rattle.std.proofs.Common.{◌≡◌, List, [], ◌∷◌, ◌++◌, map, refl, sym, ap, ap₂, ◌∙◌, subst}
use Rattle.ir_forms.specs.declared.ops.Func.{Func}
use Rattle.ir_forms.specs.declared.ops.Module.{Module}
use Rattle.ir_forms.specs.declared.ops.Op.{Op, Op-F, roll-Op}
use Rattle.ir_forms.specs.declared.ops.Op.TheFolds.{fold-Op, fold-Region, fold-roll-Op, fold-roll-Region, fold_out-Region}
use Rattle.ir_forms.specs.declared.ops.Region.{Region, Region-F, roll-Region, out-roll-Region}
use Rattle.ir_forms.specs.declared.ops.ValueNo.{ValueNo}
use Rattle.ir_forms.specs.Numbers.{op_unnumbered, unnumbered_op, unnumbered_region, unnumbered_func, NumbersAlone}
use Rattle.ir_verify.specs.Places.{params_of}
use Rattle.source_meaning.specs.Parts.{names_of}
use Rattle.source_meaning.specs.TaskOrder.{Each}
use Rattle.value_numbers.specs.Numbers.{op_values, as_numbers, region_values, values_inside, values_of}
use Rattle.number_laws.specs.Laws.{IsDistinct}
use Rattle.check_laws.specs.Fits.{HasSmallTypes, SmallTypes, types_at, types_under, types_inside}
use Rattle.check_laws.specs.Laws.{HasNoBodyParams}
use Rattle.check_laws.proofs.Syntax.{tree}
use Rattle.checked_values.specs.Laws.{DefinesOnce}
use Rattle.parsed_laws.specs.Texts.{AcceptsWellFormed}
use Rattle.parsed_laws.proofs.Forms.{forms}

-- ---- what doesn't see the numbers

same-map : {A B : Type 0} (f : A → B) (g : A → A) (xs : List A) → Each (λ x. f (g x) ≡ f x) xs → map f (map g xs) ≡ map f xs
same-map f g [] h = refl
same-map f g (x ∷ xs) h = ap₂ (λ y ys. y ∷ ys) h.0 (same-map f g xs h.1)

-- what is computed of an operation by its fields but its number, and of a region, is the same without numbers
module _ {X : Type 0} (at_op : Op-F X X → X) (at_region : Region-F X X → X) (blind : (x : Op-F X X) → at_op (record x { at = 0 }) ≡ at_op x) where
  abbrev of_op : Op → X
  of_op = fold-Op X X at_op at_region

  abbrev of_region : Region → X
  of_region = fold-Region X X at_op at_region

  op-blind : (x : Op-F Op Region) → Each (λ r. of_region (unnumbered_region r) ≡ of_region r) x.regions → of_op (unnumbered_op (roll-Op x)) ≡ of_op (roll-Op x)
  op-blind x h =
      let held : List X → Op-F X X = λ rs. record { kind = x.kind; at = x.at; operands = x.operands; groups = x.groups; written = x.written; results = x.results; types = x.types; attr = x.attr; regions = rs } in
      ap of_op (fold-roll-Op Op Region op_unnumbered roll-Region x)
      ∙ fold-roll-Op X X at_op at_region (record x { at = 0; regions = map unnumbered_region x.regions })
      ∙ blind (held (map of_region (map unnumbered_region x.regions)))
      ∙ ap (λ rs. at_op (held rs)) (same-map of_region unnumbered_region x.regions h)
      ∙ sym (fold-roll-Op X X at_op at_region x)

  region-blind : (y : Region-F Op Region) → Each (λ o. of_op (unnumbered_op o) ≡ of_op o) y.ops → of_region (unnumbered_region (roll-Region y)) ≡ of_region (roll-Region y)
  region-blind y h =
      ap of_region (fold-roll-Region Op Region op_unnumbered roll-Region y)
      ∙ fold-roll-Region X X at_op at_region (record y { ops = map unnumbered_op y.ops })
      ∙ ap (λ (os : List X). at_region (record { params = y.params; ops = os })) (same-map of_op unnumbered_op y.ops h)
      ∙ sym (fold-roll-Region X X at_op at_region y)

  pub same_inside : (r : Region) → of_region (unnumbered_region r) ≡ of_region r
  same_inside = tree (λ o. of_op (unnumbered_op o) ≡ of_op o) (λ r. of_region (unnumbered_region r) ≡ of_region r) op-blind region-blind

same-values : (r : Region) → values_inside (unnumbered_region r) ≡ values_inside r
same-values = same_inside op_values region_values (λ x. refl)

same-types : (r : Region) → types_inside (unnumbered_region r) ≡ types_inside r
same-types = same_inside types_at types_under (λ x. refl)

same-params : (r : Region) → params_of (unnumbered_region r) ≡ params_of r
same-params r = ap params_of (fold_out-Region Op Region op_unnumbered roll-Region r) ∙ ap (λ (z : Region-F Op Region). z.params) (out-roll-Region _)

-- ---- functions

-- they differ in numbers alone
abbrev pub AreAlike : Func → Func → Type 0
AreAlike f g = unnumbered_func g ≡ unnumbered_func f

pub alike : {X : Type 0} (of : Func → X) → ((f : Func) → of (unnumbered_func f) ≡ of f) → (f g : Func) → AreAlike f g → of f ≡ of g
alike of same f g e = sym (same f) ∙ ap of (sym e) ∙ same g

pub each-alike : (P : Func → Type 0) → ((f g : Func) → AreAlike f g → P f → P g) → (fs gs : List Func) → map unnumbered_func gs ≡ map unnumbered_func fs → Each P fs → Each P gs
each-alike P one [] [] e h = tt
each-alike P one [] (g ∷ gs) e h = absurd cc
each-alike P one (f ∷ fs) [] e h = absurd cc
each-alike P one (f ∷ fs) (g ∷ gs) e h =
    let first : unnumbered_func g ≡ unnumbered_func f = cc in
    let rest : map unnumbered_func gs ≡ map unnumbered_func fs = cc in
    (one f g first h.0, each-alike P one fs gs rest h.1)

once-alike : (f g : Func) → AreAlike f g → DefinesOnce f → DefinesOnce g
once-alike f g e = subst (λ (vs : List ValueNo). IsDistinct (as_numbers vs)) (alike values_of (λ f. ap (λ (vs : List ValueNo). names_of f.params ++ vs) (same-values f.body)) f g e)

bodies-alike : (f g : Func) → AreAlike f g → HasNoBodyParams f → HasNoBodyParams g
bodies-alike f g e = subst (λ (ps : List _). ps ≡ []) (alike (λ f. params_of f.body) (λ f. same-params f.body) f g e)

types-alike : (f g : Func) → AreAlike f g → HasSmallTypes f → HasSmallTypes g
types-alike f g e = subst (Each SmallTypes) (alike (λ f. types_inside f.body) (λ f. same-types f.body) f g e)

-- ---- a program

pub accepts_well_formed : NumbersAlone → AcceptsWellFormed
accepts_well_formed alone limits level text program h =
    let f = forms limits level text h.m h.read in
    let same : map unnumbered_func program.funcs ≡ map unnumbered_func h.m.funcs =
    ap (λ (p : Module). map unnumbered_func p.funcs) h.numbered ∙ ap (λ (p : Module). p.funcs) (alone h.m) in
    record {
      sound = h.sound;
      once = each-alike DefinesOnce once-alike h.m.funcs program.funcs same f.0;
      bodies = each-alike HasNoBodyParams bodies-alike h.m.funcs program.funcs same f.1;
      types = each-alike HasSmallTypes types-alike h.m.funcs program.funcs same f.2;
    }
