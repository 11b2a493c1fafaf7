-- An operation that is open, before its regions.
use Rattle.std.proofs.Common.{◌≡◌, ◌<◌, ℕ, zero, suc, ◌+◌, ◌^◌, List, [], ◌∷◌, ◌++◌, map, drop, length, refl, ap, subst, ◌∙◌, append-nil, arith}
use Rattle.std.proofs.lemmas.List.{length-map, length-append}
use Rattle.op_table.specs.declared.kind.OpKind.{OpKind}
use Rattle.op_table.specs.declared.rows.Level.{Level}
use Rattle.ir_forms.specs.declared.types.Ty.{Ty}
use Rattle.ir_forms.specs.declared.types.Ty.TheVariants as ty
use Rattle.ir_forms.specs.declared.ops.Module.{Module}
use Rattle.ir_forms.specs.declared.ops.Region.{Region}
use Rattle.ir_forms.specs.declared.ops.ValueNo.{ValueNo}
use Rattle.ir_forms.specs.declared.ops.Attr.TheVariants as attr
use Rattle.module_grammar.specs.declared.state.Name.{Name}
use Rattle.module_grammar.specs.declared.state.Param.{Param}
use Rattle.module_grammar.specs.declared.state.OpenOp.{OpenOp}
use Rattle.module_grammar.specs.declared.symbols.Symbol.{Symbol}
use Rattle.module_grammar.specs.State.{ungrouped, as_number}
use Rattle.mlir_print.specs.Types.{types}
use Rattle.mlir_print.specs.Printable.{Scope, typed_by}
use Rattle.round_trip.proofs.Core.{Word}
use Rattle.round_trip.proofs.Types.{results}
use Rattle.round_trip.proofs.Values.{shown as shown_name, Finds}
use Rattle.round_trip.proofs.Shapes.{After}
use Rattle.round_trip.proofs.Scopes.{IsGood, under-below}
use Rattle.round_trip.proofs.Params.{IsFresh, seconds}
use Rattle.round_trip.proofs.Regions.{Around, during, value_params}

abbrev pub open_with : OpKind → ℕ → List Name → List ValueNo → List ℕ → List Ty → List Ty → List Region → List Param → OpenOp
open_with kind at results operands groups written types regions params = record {
  kind = kind;
  at = at;
  operands = operands;
  groups = groups;
  written = written;
  results = results;
  types = types;
  attr = attr.None;
  regions = regions;
  params = params;
}

-- the scope once these parameters are numbered
abbrev pub later : Scope → List (ValueNo × Ty) → Scope
later s ps = record { next = s.next + length ps; seen = s.seen }

-- no name is taken but by what is visible
pub fresh-at : (a : Around) (s : Scope) (begun : ℕ) (x : OpenOp) → IsGood s → x.params ≡ [] → IsFresh (during a s begun x)
fresh-at a s begun x good none = rw none (rw (append-nil (map shown_name s.seen)) (under-below s.next s.seen good.under))

pub after-is : {level : Level} {m : Module} {k : List Symbol} {ws : List Word} (a : Around) (s : Scope) (begun : ℕ) (x y : OpenOp) → x ≡ y
    → After level m k (during a s begun x) ws → After level m k (during a s begun y) ws
after-is {level} {m} {k} {ws} a s begun x y e after = subst (λ (z : OpenOp). After level m k (during a s begun z) ws) e after

-- a list's length and its parts
pub long-as : (all all' : List (ValueNo × Ty)) → all ≡ all' → length (value_params all) ≡ length all'
long-as all all' e = length-map {B = ValueNo} all (λ q. q.0) ∙ ap length e

pub length-typed : (n : ℕ) (ts : List Ty) → length (typed_by n ts) ≡ n
length-typed zero ts = refl
length-typed (suc n) [] = let e = length-typed n [] in omega arith
length-typed (suc n) (t ∷ ts) = let e = length-typed n ts in omega arith

pub first-of-all : (x y : List Ty) → x ∷ [] ≡ y ∷ [] → x ≡ y
first-of-all x y e = cc

-- the parameter that counts, and the others
pub record Counting (all : List (ValueNo × Ty)) (others : List Ty) : Type 0 where
  pub index : ValueNo
  pub rest : List (ValueNo × Ty)
  pub parts : all ≡ (index, ty.Index) ∷ rest
  pub types : seconds rest ≡ others

pub counting : (all : List (ValueNo × Ty)) (others : List Ty) → seconds all ≡ ty.Index ∷ others → Counting all others
counting [] others e = absurd cc
counting (p ∷ ps) others e =
    let first : p.1 ≡ ty.Index = cc in
    record { index = p.0; rest = ps; parts = ap (λ (t : Ty). (p.0, t) ∷ ps) first; types = cc }

-- ---- groups of operands

pub drop-seam : (xs ys : List ValueNo) → drop (length xs) (xs ++ ys) ≡ ys
drop-seam [] ys = refl
drop-seam (x ∷ xs) ys = drop-seam xs ys

pub finds-left : (names : List Name) (xs ys : List ValueNo) → Finds names (xs ++ ys) → Finds names xs
finds-left names [] ys f = tt
finds-left names (x ∷ xs) ys f = (f.0, finds-left names xs ys f.1)

pub finds-right : (names : List Name) (xs ys : List ValueNo) → Finds names (xs ++ ys) → Finds names ys
finds-right names [] ys f = f
finds-right names (x ∷ xs) ys f = finds-right names xs ys f.1

pub second-size : (xs ys : List ValueNo) → length ys < 2 ^ 32 → as_number (ungrouped (length (xs ++ ys)) (length xs ∷ [])) ≡ length ys
second-size xs ys h = omega (arith, length-append xs ys)
