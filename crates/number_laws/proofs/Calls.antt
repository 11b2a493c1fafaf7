-- Renaming changes no call.
use Rattle.std.proofs.Common.{◌≡◌, ℕ, zero, suc, cond, Bool, true, false, List, [], ◌∷◌, ◌++◌, map, length, slice_get, Option, Some, refl, sym, ap, ◌∙◌, arith}
use Rattle.std.proofs.lemmas.Option.{slice_get_within}
use Rattle.std.specs.Option.{option_map}
use Rattle.std.specs.Str.{bytes_eq}
use Rattle.ir_forms.specs.declared.ops.Attr.{Attr}
use Rattle.ir_forms.specs.declared.ops.Attr.TheVariants as attr
use Rattle.ir_forms.specs.declared.ops.Func.{Func}
use Rattle.ir_forms.specs.declared.ops.Op.{Op, Op-F, roll-Op}
use Rattle.ir_forms.specs.declared.ops.Op.TheFolds.{fold-roll-Op, fold-roll-Region}
use Rattle.ir_forms.specs.declared.ops.Region.{Region, Region-F, roll-Region}
use Rattle.ir_verify.specs.declared.calls.Call.{Call}
use Rattle.ir_verify.specs.declared.place.Nest.{Nest}
use Rattle.ir_verify.specs.declared.place.Nest.TheVariants.{InFunction}
use Rattle.ir_verify.specs.Breaks.{is_call}
use Rattle.ir_verify.specs.Calls.{AreMarks, CallsOf, all_calls, call_of, call_to, calls_at, calls_in, calls_of, callee_place, graph_of, op_calls, region_calls}
use Rattle.ir_verify.specs.Forms.{form_of}
use Rattle.ir_verify.specs.Names.{first_named}
use Rattle.ir_verify.specs.Places.{nest_in}
use Rattle.source_meaning.specs.Renaming.{renamed_op, renamed_region}
use Rattle.value_numbers.specs.Numbers.{numbered_values}
use Rattle.number_laws.proofs.Trees.{Each, tree, made, held, renamed-made, renamed-held}

-- ---- the functions that are named

pub names-stay : (funcs : List Func) (name : List ℕ) → first_named (map numbered_values funcs) name ≡ first_named funcs name
names-stay [] name = refl
names-stay (f ∷ funcs) name = ap (λ (o : Option ℕ). cond (bytes_eq f.name name) (Some 0) (option_map suc o)) (names-stay funcs name)

pub callees-stay : (funcs : List Func) (a : Attr) → callee_place (map numbered_values funcs) a ≡ callee_place funcs a
callees-stay funcs (attr.Callee name) = names-stay funcs name
callees-stay funcs attr.None = refl
callees-stay funcs (attr.Literal negative magnitude) = refl
callees-stay funcs (attr.Truth b) = refl
callees-stay funcs (attr.Pred p) = refl
callees-stay funcs (attr.Text t) = refl

-- ---- the calls of what is renamed

calls-made : (funcs : List Func) (x : Op-F Op Region) (nest : Nest) → calls_at funcs (roll-Op x) nest ≡ call_of funcs x.kind x.attr nest ++ all_calls (map (calls_in funcs) x.regions) (nest_in x.kind nest)
unfolding calls_at calls_in
calls-made funcs x nest = ap (λ (f : CallsOf). f nest) (fold-roll-Op CallsOf CallsOf (op_calls funcs) (region_calls funcs) x)

calls-held : (funcs : List Func) (x : Region-F Op Region) (nest : Nest) → calls_in funcs (roll-Region x) nest ≡ all_calls (map (calls_at funcs) x.ops) nest
unfolding calls_at calls_in
calls-held funcs x nest = ap (λ (f : CallsOf). f nest) (fold-roll-Region CallsOf CallsOf (op_calls funcs) (region_calls funcs) x)

all-calls : {X : Type 0} (f g : X → CallsOf) (k : X → X) (xs : List X) (nest : Nest) → Each (λ x. (nest : Nest) → f (k x) nest ≡ g x nest) xs → all_calls (map f (map k xs)) nest ≡ all_calls (map g xs) nest
all-calls f g k [] nest each = refl
all-calls f g k (x ∷ xs) nest each =
    ap (λ (cs : List Call). cs ++ all_calls (map f (map k xs)) nest) (each.0 nest) ∙ ap (λ (cs : List Call). g x nest ++ cs) (all-calls f g k xs nest each.1)

module _ (σ : ℕ → ℕ) (fs gs : List Func) (named : (a : Attr) → callee_place fs a ≡ callee_place gs a) where
  abbrev OpCalls : Op → Type 0
  OpCalls op = (nest : Nest) → calls_at fs (renamed_op σ op) nest ≡ calls_at gs op nest

  abbrev RegionCalls : Region → Type 0
  RegionCalls region = (nest : Nest) → calls_in fs (renamed_region σ region) nest ≡ calls_in gs region nest

  op-calls : (x : Op-F Op Region) → Each RegionCalls x.regions → OpCalls (roll-Op x)
  op-calls x each nest =
      ap (λ (op : Op). calls_at fs op nest) (renamed-made σ x) ∙ calls-made fs (made σ x (map (renamed_region σ) x.regions)) nest
      ∙ ap (λ (o : Option ℕ). cond (is_call (form_of x.kind)) (call_to o nest) [] ++ all_calls (map (calls_in fs) (map (renamed_region σ) x.regions)) (nest_in x.kind nest)) (named x.attr)
      ∙ ap (λ (cs : List Call). call_of gs x.kind x.attr nest ++ cs) (all-calls (calls_in fs) (calls_in gs) (renamed_region σ) x.regions (nest_in x.kind nest) each)
      ∙ sym (calls-made gs x nest)

  region-calls : (x : Region-F Op Region) → Each OpCalls x.ops → RegionCalls (roll-Region x)
  region-calls x each nest =
      ap (λ (region : Region). calls_in fs region nest) (renamed-held σ x) ∙ calls-held fs (held σ x (map (renamed_op σ) x.ops)) nest
      ∙ all-calls (calls_at fs) (calls_at gs) (renamed_op σ) x.ops nest each
      ∙ sym (calls-held gs x nest)

  pub calls-renamed : (region : Region) → RegionCalls region
  calls-renamed = tree OpCalls RegionCalls op-calls region-calls

-- ---- the graph

mapped-same : {X Y : Type 0} (f g : X → Y) (k : X → X) (xs : List X) → ((x : X) → f (k x) ≡ g x) → map f (map k xs) ≡ map g xs
mapped-same f g k [] same = refl
mapped-same {X} {Y} f g k (x ∷ xs) same = ap (λ (y : Y). y ∷ map f (map k xs)) (same x) ∙ ap (λ (ys : List Y). g x ∷ ys) (mapped-same f g k xs same)

pub graph-stays : (funcs : List Func) → graph_of (map numbered_values funcs) ≡ graph_of funcs
graph-stays funcs =
    mapped-same (calls_of (map numbered_values funcs)) (calls_of funcs) numbered_values funcs
    (λ f. calls-renamed _ (map numbered_values funcs) funcs (callees-stay funcs) f.body InFunction)

-- ---- the marks

alike : (m n : List Bool) → length m ≡ length n → ((k : ℕ) → slice_get m k ≡ Some true → slice_get n k ≡ Some true) → ((k : ℕ) → slice_get n k ≡ Some true → slice_get m k ≡ Some true) → m ≡ n
alike [] [] same there back = refl
alike [] (y ∷ n) same there back = absurd (omega (arith, same))
alike (x ∷ m) [] same there back = absurd (omega (arith, same))
alike (x ∷ m) (y ∷ n) same there back = by x y (there zero) (back zero) (alike m n (omega (arith, same)) (λ k. there (suc k)) (λ k. back (suc k)))
  where
    by : (a b : Bool) → (Some a ≡ Some true → Some b ≡ Some true) → (Some b ≡ Some true → Some a ≡ Some true) → m ≡ n → a ∷ m ≡ b ∷ n
    by true true f g rest = ap (λ l. true ∷ l) rest
    by false false f g rest = ap (λ l. false ∷ l) rest
    by true false f g rest = absurd (cc (f refl))
    by false true f g rest = absurd (cc (g refl))

marked : (graph : List (List Call)) (m n : List Bool) → AreMarks graph m → AreMarks graph n → (k : ℕ) → slice_get m k ≡ Some true → slice_get n k ≡ Some true
marked graph m n a b k is = let less = slice_get_within m k true is in let each = a.each in b.complete k (a.sound k is) (omega (arith, less, each))

-- a graph has one list of marks
pub one-marks : (graph : List (List Call)) (m n : List Bool) → AreMarks graph m → AreMarks graph n → m ≡ n
one-marks graph m n a b = alike m n (a.each ∙ sym b.each) (marked graph m n a b) (marked graph n m b a)
