-- Blocks of failures, ends of regions, and instructions that compute.
use Rattle.std.proofs.Common.{◌≡◌, ◌<◌, ◌^◌, ℕ, true, false, List, [], ◌∷◌, Bool, map, Option, Some, None, zero, suc, slice_get, refl, ap, ap₂, ◌∙◌}
use Rattle.op_table.specs.declared.kind.OpKind.{OpKind}
use Rattle.ir_forms.specs.declared.ops.Attr.{Attr}
use Rattle.ir_forms.specs.declared.ops.Attr.TheVariants as attr
use Rattle.ir_forms.specs.declared.ops.Func.{Func}
use Rattle.ir_forms.specs.declared.ops.Region.{Region}
use Rattle.ir_forms.specs.declared.ops.ValueNo.{ValueNo}
use Rattle.ir_verify.specs.Calls.{callee_place}
use Rattle.ir_verify.specs.Names.{first_named}
use Rattle.low_forms.specs.declared.code.LowAttr.TheVariants as low
use Rattle.low_forms.specs.declared.code.LowFunc.{LowFunc}
use Rattle.low_forms.specs.declared.code.LowKind.TheVariants.{Row}
use Rattle.source_meaning.specs.Parts.{width_of, ops_in, params_in, names_of}
use Rattle.source_meaning.specs.Rows.{literal_bits, compared_at}
use Rattle.task_stack.specs.declared.effects.Number as one
use Rattle.task_stack.specs.Numbers.{carried}
use Rattle.scf_blocks.specs.declared.body.Failure.TheVariants.{Constant, Passed}
use Rattle.scf_blocks.specs.declared.body.Close.{Close}
use Rattle.scf_blocks.specs.declared.body.Close.TheVariants.{Returns, Joins, Repeats, Decides}
use Rattle.scf_blocks.specs.declared.role.Role.TheVariants as role
use Rattle.scf_blocks.specs.Tree.{Var, values_of, Nested, nested_at, nested_of, role_of, tree, tree_at, params_at}
use Rattle.scf_blocks.proofs.Trees.{params_nested, ops_nested}
use Rattle.scf_blocks.specs.Code.{Scope, reg, regs, close, decide, callee_at, low_attr}
use Rattle.block_carry.specs.Rows.{Computes, addi, subi, muli, divsi, divui, remsi, remui, andi, ori, xori, shli, shrsi, shrui, maxsi, minsi, maxui, minui, constant, cmpi, select, extsi, index_cast, extui, trunci, index_castui, dim, Asks, alloc, dealloc, load, store, create_group, add_to_group, AreBefore}
use Rattle.block_carry.specs.Laid.{FailsAt, PassesOn, GivesBit, Closes}
use Rattle.laid_blocks.specs.Placed.{Fails, EndsBy, Bit}
use Rattle.laid_ops.specs.Laws.{is_decision}

-- ---- what an instruction carries

callee_bits : (k : Option ℕ) → literal_bits (carried (callee_at k)) ≡ 0
callee_bits None = refl
callee_bits (Some k) = refl

pub literal_same : (funcs : List Func) (a : Attr) → literal_bits (carried (low_attr funcs a)) ≡ literal_bits a
literal_same funcs attr.None = refl
literal_same funcs (attr.Literal negative magnitude) = refl
literal_same funcs (attr.Truth bit) = refl
literal_same funcs (attr.Pred p) = refl
literal_same funcs (attr.Text text) = refl
literal_same funcs (attr.Callee name) = callee_bits (first_named funcs name)

callee_compares : (k : Option ℕ) (w x y : ℕ) → compared_at w (carried (callee_at k)) x y ≡ 0
callee_compares None w x y = refl
callee_compares (Some k) w x y = refl

pub compare_same : (funcs : List Func) (a : Attr) (w x y : ℕ) → compared_at w (carried (low_attr funcs a)) x y ≡ compared_at w a x y
compare_same funcs attr.None w x y = refl
compare_same funcs (attr.Literal negative magnitude) w x y = refl
compare_same funcs (attr.Truth bit) w x y = refl
compare_same funcs (attr.Pred p) w x y = refl
compare_same funcs (attr.Text text) w x y = refl
compare_same funcs (attr.Callee name) w x y = callee_compares (first_named funcs name) w x y

pub computing_role : (kind : OpKind) (m : one.Number) → Computes kind m → role_of kind ≡ role.Plain (Row kind)
computing_role kind m addi = refl
computing_role kind m subi = refl
computing_role kind m muli = refl
computing_role kind m divsi = refl
computing_role kind m divui = refl
computing_role kind m remsi = refl
computing_role kind m remui = refl
computing_role kind m andi = refl
computing_role kind m ori = refl
computing_role kind m xori = refl
computing_role kind m shli = refl
computing_role kind m shrsi = refl
computing_role kind m shrui = refl
computing_role kind m maxsi = refl
computing_role kind m minsi = refl
computing_role kind m maxui = refl
computing_role kind m minui = refl
computing_role kind m constant = refl
computing_role kind m cmpi = refl
computing_role kind m select = refl
computing_role kind m extsi = refl
computing_role kind m index_cast = refl
computing_role kind m extui = refl
computing_role kind m trunci = refl
computing_role kind m index_castui = refl
computing_role kind m dim = refl

pub asking_role : (kind l : OpKind) → Asks kind l → role_of kind ≡ role.Plain (Row l)
asking_role kind l alloc = refl
asking_role kind l dealloc = refl
asking_role kind l load = refl
asking_role kind l store = refl
asking_role kind l create_group = refl
asking_role kind l add_to_group = refl

-- a call names its function by its place
pub named_so : (funcs : List Func) (a : Attr) (g : ℕ) → callee_place funcs a ≡ Some g → low_attr funcs a ≡ low.Callee (record { 0 = g })
named_so funcs (attr.Callee name) g e = ap callee_at e
named_so funcs _ g e = cc

-- ---- regions

pub region_tree : (rs : List Region) (k : ℕ) → tree_at rs k ≡ tree (ops_in (slice_get rs k))
region_tree [] k = refl
region_tree (r ∷ rs) zero = refl
region_tree (r ∷ rs) (suc k) = region_tree rs k

-- a region's parameters and its operations
pub region_nested : (rs : List Region) (k : ℕ) → nested_at (map nested_of rs) k ≡ record { params = params_at rs k; ops = tree (ops_in (slice_get rs k)) }
region_nested rs k = ap₂ (λ ps t. let n : Nested = record { params = ps; ops = t } in n) (params_nested rs k) (ops_nested rs k ∙ region_tree rs k)

pub values_named : (ps : List Var) → names_of ps ≡ values_of ps
values_named [] = refl
values_named (x ∷ ps) = ap (λ l. x.0 ∷ l) (values_named ps)

pub region_names : (rs : List Region) (k : ℕ) → params_in (slice_get rs k) ≡ values_of (params_at rs k)
region_names [] k = refl
region_names (r ∷ rs) zero = values_named (params_at (r ∷ rs) zero)
region_names (r ∷ rs) (suc k) = region_names rs k

-- ---- blocks

module _ (f : LowFunc) where
  pub fails_at : (j m at : ℕ) → Fails f j m (Constant at) → at < 2 ^ 32 → FailsAt f j at
  fails_at j m at h small = record { m = m; params = h.0; has = h.1; wide = ap width_of h.2.0; small = small }

  pub passes_on : (j m : ℕ) → Fails f j m Passed → PassesOn f j
  passes_on j m h = record { m = m; params = h.0; has = h.1 }

  pub closes : (end : Close) (b i n : ℕ) (scope : Scope) (vs : List ValueNo) → false ≡ is_decision end → EndsBy f end b i n (close end n (regs scope vs)) → Closes f end b i n scope vs
  closes Returns b i n scope vs d h = h.0
  closes (Joins to) b i n scope vs d h = h.0
  closes (Repeats head variable step) b i n scope vs d h = (h.0, ap width_of h.1.0)
  closes (Decides after exit) b i n scope vs d h = cc

  pub closes_test : (end : Close) (b i n : ℕ) (scope : Scope) (c : ValueNo) (vs : List ValueNo) → true ≡ is_decision end → EndsBy f end b i n (decide end n (reg scope c) (regs scope vs)) → Closes f end b i n scope (c ∷ vs)
  closes_test Returns b i n scope c vs d h = cc
  closes_test (Joins to) b i n scope c vs d h = cc
  closes_test (Repeats head variable step) b i n scope c vs d h = cc
  closes_test (Decides after exit) b i n scope c vs d h = h.0

  pub gives_bit : (b m to : ℕ) (bit : Bool) (scope : Scope) → AreBefore scope m → Bit f b m (low.Truth bit) to → GivesBit f b bit to scope
  gives_bit b m to bit scope bef h = record { m = m; has = h.0; narrow = ap width_of h.1.0; before = bef }
