-- Where the functions of tasks stand, and that names find them.
use Rattle.std.proofs.Common.{◌≡◌, ◌<◌, ◌≤◌, ℕ, zero, suc, ◌+◌, ◌^◌, cond, Bool, true, false, List, [], ◌∷◌, ◌++◌, length, map, Option, Some, None, refl, sym, ap, ap₂, ◌∙◌, subst, arith}
use Rattle.std.specs.Prelude.{slice_get, codes}
use Rattle.std.specs.Option.{option_map}
use Rattle.std.specs.Str.{bytes_eq}
use Rattle.std.proofs.lemmas.Slice.Eq.{bytes_eq-Decides}
use Rattle.ir_forms.specs.declared.ops.Func.{Func}
use Rattle.ir_forms.specs.declared.ops.Op.{Op, Op-F, roll-Op}
use Rattle.ir_forms.specs.declared.ops.Op.TheFolds.{fold_out-Region, fold-roll-Op, fold-roll-Region, ind-Op}
use Rattle.ir_forms.specs.declared.ops.Region.{Region, Region-F, out-Region, roll-Region}
use Rattle.ir_verify.specs.Names.{first_named}
use Rattle.exec_outline.specs.Shape.{Outlining, in_order, is_execute, op_outlined, outlined_as, outlined_func, outlined_op, outlined_region, region_outlined, task_name}
use Rattle.made_funcs.specs.Values.{Typed, values_of}
use Rattle.made_laws.proofs.Free.{made_names_free, made_names_differ}
use Rattle.outline_laws.specs.Laws.{name_of, NamedFrom, functions_of, tasks_of, TasksInOrder, FunctionsFound, TasksFound}

-- ---- tasks, by their numbers

module _ (funcs : List Func) where
  named_append : (k : ℕ) (xs ys : List Func) → NamedFrom funcs k xs → NamedFrom funcs (k + length xs) ys → NamedFrom funcs k (xs ++ ys)
  named_append k [] ys front back = subst (λ n. NamedFrom funcs n ys) (let e : k + 0 ≡ k = omega arith in e) back
  named_append k (x ∷ xs) ys front back =
      (front.0, named_append (k + 1) xs ys front.1 (subst (λ n. NamedFrom funcs n ys) (let e : k + suc (length xs) ≡ k + 1 + length xs = omega arith in e) back))

  -- each of these makes tasks whose numbers go on
  abbrev Each : {X A : Type 0} → (X → Outlining A) → List X → Type 0
  Each f [] = Unit {0}
  Each f (x ∷ xs) = ((k : ℕ) → NamedFrom funcs k (f x k).1) × Each f xs

  order_named : {X A : Type 0} → (f : X → Outlining A) (xs : List X) → Each f xs → (k : ℕ) → NamedFrom funcs k (in_order (map f xs) k).1
  order_named f [] each k = tt
  order_named f (x ∷ xs) each k = named_append k (f x k).1 (in_order (map f xs) (k + length (f x k).1)).1 (each.0 k) (order_named f xs each.1 (k + length (f x k).1))

  module _ (values : Typed) where
    abbrev OpNamed : Op → Type 0
    OpNamed op = (k : ℕ) → NamedFrom funcs k (outlined_op funcs values op k).1

    abbrev RegionNamed : Region → Type 0
    RegionNamed r = (k : ℕ) → NamedFrom funcs k (outlined_region funcs values r k).1

    abbrev layer : Op-F Op Region → Op-F (Outlining Op) (Outlining Region)
    layer o = record { kind = o.kind; at = o.at; operands = o.operands; groups = o.groups; written = o.written; results = o.results; types = o.types; attr = o.attr; regions = map (outlined_region funcs values) o.regions }

    -- a launch, by whether there is a region
    by_region : (o : Op-F Op Region) (rs : List Region) → Each (outlined_region funcs values) rs → Each (outlined_region funcs values) o.regions → (b : Bool) (k : ℕ)
        → NamedFrom funcs k (outlined_as funcs values (layer o) (cond b (slice_get (map (outlined_region funcs values) rs) 0) None) k).1
    by_region o rs each all false k = order_named (outlined_region funcs values) o.regions all k
    by_region o [] each all true k = order_named (outlined_region funcs values) o.regions all k
    by_region o (r ∷ rs) each all true k = (refl, each.0 (k + 1))

    made_named : (x : Op-F Op Region) → Each (outlined_region funcs values) x.regions → OpNamed (roll-Op x)
    made_named x each k =
        subst (λ (f : Outlining Op). NamedFrom funcs k (f k).1) (sym (fold-roll-Op (Outlining Op) (Outlining Region) (op_outlined funcs values) (region_outlined funcs values) x))
        (by_region x x.regions each each (is_execute x.kind) k)

    held_named : (x : Region-F Op Region) → Each (outlined_op funcs values) x.ops → RegionNamed (roll-Region x)
    held_named x each k =
        subst (λ (f : Outlining Region). NamedFrom funcs k (f k).1) (sym (fold-roll-Region (Outlining Op) (Outlining Region) (op_outlined funcs values) (region_outlined funcs values) x))
        (order_named (outlined_op funcs values) x.ops each k)

    regions_each : (ys : List ((r : Region) × RegionNamed r)) → Each (outlined_region funcs values) (map (λ y. y.0) ys)
    regions_each [] = tt
    regions_each (y ∷ ys) = (y.1, regions_each ys)

    ops_each : (ys : List ((op : Op) × OpNamed op)) → Each (outlined_op funcs values) (map (λ y. y.0) ys)
    ops_each [] = tt
    ops_each (y ∷ ys) = (y.1, ops_each ys)

    op_named : (op : Op) → OpNamed op
    op_named = ind-Op OpNamed RegionNamed
        (λ x y is. made_named x (subst (λ (z : Op-F Op Region). Each (outlined_region funcs values) z.regions) is (regions_each y.regions)))
        (λ x y is. held_named x (subst (λ (z : Region-F Op Region). Each (outlined_op funcs values) z.ops) is (ops_each y.ops)))

    ops_named : (ops : List Op) → Each (outlined_op funcs values) ops
    ops_named [] = tt
    ops_named (op ∷ ops) = (op_named op, ops_named ops)

    region_named : (r : Region) → RegionNamed r
    region_named r k =
        subst (λ (f : Outlining Region). NamedFrom funcs k (f k).1) (sym (fold_out-Region (Outlining Op) (Outlining Region) (op_outlined funcs values) (region_outlined funcs values) r))
        (order_named (outlined_op funcs values) (out-Region r).ops (ops_named (out-Region r).ops) k)

  funcs_named : (fs : List Func) → Each (outlined_func funcs) fs
  funcs_named [] = tt
  funcs_named (f ∷ fs) = (region_named (values_of f) f.body, funcs_named fs)

  names_kept : (fs : List Func) (k : ℕ) → map name_of (in_order (map (outlined_func funcs) fs) k).0 ≡ map name_of fs
  names_kept [] k = refl
  names_kept (f ∷ fs) k = ap (λ (xs : List (List ℕ)). f.name ∷ xs) (names_kept fs (k + length (outlined_func funcs f k).1))

pub tasks_in_order : TasksInOrder
tasks_in_order program = record { are = refl; names = names_kept program.funcs program.funcs 0; tasks = order_named program.funcs (outlined_func program.funcs) program.funcs (funcs_named program.funcs program.funcs) 0 }

-- ---- what names find

front_named : (xs ys : List Func) (name : List ℕ) (j : ℕ) → first_named xs name ≡ Some j → first_named (xs ++ ys) name ≡ Some j
front_named [] ys name j at = cc
front_named (x ∷ xs) ys name j at = by (bytes_eq x.name name) (first_named xs name) refl (λ i is. front_named xs ys name i is) at
  where
    by : (b : Bool) (o : Option ℕ) → first_named xs name ≡ o → ((i : ℕ) → first_named xs name ≡ Some i → first_named (xs ++ ys) name ≡ Some i) → cond b (Some 0) (option_map suc o) ≡ Some j
        → cond b (Some 0) (option_map suc (first_named (xs ++ ys) name)) ≡ Some j
    by true o is again at = at
    by false None is again at = cc
    by false (Some i) is again at = ap (option_map suc) (again i is) ∙ at

behind_named : (xs ys : List Func) (name : List ℕ) (j : ℕ) → first_named xs name ≡ None → first_named ys name ≡ Some j → first_named (xs ++ ys) name ≡ Some (length xs + j)
behind_named [] ys name j none at = at ∙ ap (λ (n : ℕ). Some n) (let e : j ≡ 0 + j = omega arith in e)
behind_named (x ∷ xs) ys name j none at = by (bytes_eq x.name name) (first_named xs name) refl none (λ none. behind_named xs ys name j none at)
  where
    by : (b : Bool) (o : Option ℕ) → first_named xs name ≡ o → cond b (Some 0) (option_map suc o) ≡ None → (first_named xs name ≡ None → first_named (xs ++ ys) name ≡ Some (length xs + j))
        → cond b (Some 0) (option_map suc (first_named (xs ++ ys) name)) ≡ Some (suc (length xs) + j)
    by true o is none again = cc
    by false None is none again = ap (option_map suc) (again is) ∙ ap (λ (n : ℕ). Some n) (let e : suc (length xs + j) ≡ suc (length xs) + j = omega arith in e)
    by false (Some i) is none again = cc

-- names alone say what is found
same_named : (xs ys : List Func) (name : List ℕ) → map name_of xs ≡ map name_of ys → first_named xs name ≡ first_named ys name
same_named [] [] name same = refl
same_named [] (y ∷ ys) name same = cc
same_named (x ∷ xs) [] name same = cc
same_named (x ∷ xs) (y ∷ ys) name same =
    let here : x.name ≡ y.name = cc in
    let rest : map name_of xs ≡ map name_of ys = cc in
    ap₂ (λ (n : List ℕ) (o : Option ℕ). cond (bytes_eq n name) (Some 0) (option_map suc o)) here (same_named xs ys name rest)

same_length : (xs ys : List Func) → map name_of xs ≡ map name_of ys → length xs ≡ length ys
same_length [] [] same = refl
same_length [] (y ∷ ys) same = cc
same_length (x ∷ xs) [] same = cc
same_length (x ∷ xs) (y ∷ ys) same = let rest : map name_of xs ≡ map name_of ys = cc in ap suc (same_length xs ys rest)

pub functions_found : FunctionsFound
functions_found program name j at =
    front_named (functions_of program) (tasks_of program) name j (same_named (functions_of program) program.funcs name (names_kept program.funcs program.funcs 0) ∙ at)

-- the name of a task among tasks from number j on
found_task : (funcs : List Func) (ts : List Func) (j i : ℕ) → NamedFrom funcs j ts → i < length ts → j + length ts ≤ 2 ^ 64 → first_named ts (task_name funcs (j + i)) ≡ Some i
found_task funcs [] j i named lt few = absurd (omega (arith, lt))
found_task funcs (t ∷ ts) j zero named lt few =
    let same : t.name ≡ task_name funcs (j + 0) = named.0 ∙ ap (task_name funcs) (let e : j ≡ j + 0 = omega arith in e) in
    ap (λ b. cond b (Some 0) (option_map suc (first_named ts (task_name funcs (j + 0))))) ((bytes_eq-Decides t.name (task_name funcs (j + 0))).1 same)
found_task funcs (t ∷ ts) j (suc i) named lt few =
    by (bytes_eq t.name (task_name funcs (j + suc i))) refl
    (ap (λ n. first_named ts (task_name funcs n)) (let e : j + suc i ≡ j + 1 + i = omega arith in e) ∙ found_task funcs ts (j + 1) i named.1 (omega (arith, lt)) (omega (arith, few)))
  where
    by : (b : Bool) → bytes_eq t.name (task_name funcs (j + suc i)) ≡ b → first_named ts (task_name funcs (j + suc i)) ≡ Some i → cond b (Some 0) (option_map suc (first_named ts (task_name funcs (j + suc i)))) ≡ Some (suc i)
    by true same more =
        let names : task_name funcs j ≡ task_name funcs (j + suc i) = sym named.0 ∙ (bytes_eq-Decides t.name (task_name funcs (j + suc i))).0 same in
        let e : j ≡ j + suc i = made_names_differ funcs (codes "aio.task.") j (j + suc i) (omega (arith, lt, few)) (omega (arith, lt, few)) names in
        absurd (omega (arith, e))
    by false same more = ap (option_map suc) more

pub tasks_found : TasksFound
tasks_found program k few lt =
    let funcs : List Func = program.funcs in
    let kept = names_kept funcs funcs 0 in
    let none : first_named (functions_of program) (task_name funcs k) ≡ None = same_named (functions_of program) funcs (task_name funcs k) kept ∙ made_names_free funcs (codes "aio.task.") k in
    let there : first_named (tasks_of program) (task_name funcs k) ≡ Some k =
    ap (λ n. first_named (tasks_of program) (task_name funcs n)) (let e : k ≡ 0 + k = omega arith in e) ∙ found_task funcs (tasks_of program) 0 k (tasks_in_order program).tasks lt (omega (arith, few)) in
    behind_named (functions_of program) (tasks_of program) (task_name funcs k) k none there ∙ ap (λ (n : ℕ). Some (n + k)) (same_length (functions_of program) funcs kept)
