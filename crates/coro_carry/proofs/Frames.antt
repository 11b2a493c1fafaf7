-- Registers of frames, and types in the code that the pass makes.
use Rattle.std.proofs.Common.{◌≡◌, ◌≢◌, ◌≤◌, ◌<◌, ℕ, zero, suc, ◌+◌, ◌*◌, Bool, true, List, [], ◌∷◌, ◌++◌, map, length, Option, Some, None, refl, sym, ap, ◌∙◌, subst, arith}
use Rattle.std.specs.Prelude.{cond, slice_get}
use Rattle.int_ops.specs.declared.Width.TheVariants.{W1}
use Rattle.ir_forms.specs.declared.types.Ty.TheVariants as ty
use Rattle.low_forms.specs.declared.code.Block.{Block}
use Rattle.low_forms.specs.declared.code.Instr.{Instr}
use Rattle.low_forms.specs.declared.code.LowFunc.{LowFunc}
use Rattle.low_forms.specs.declared.code.LowModule.{LowModule}
use Rattle.low_forms.specs.declared.code.Reg.{Reg}
use Rattle.low_forms.specs.Numbers.{regs_within, instr_within}
use Rattle.low_forms.specs.Registers.{reg_type, type_of, type_at}
use Rattle.low_forms.specs.WellFormed.{IsWellFormed}
use Rattle.source_meaning.specs.Parts.{width_of, dims_of}
use Rattle.async_objects.specs.declared.kinds.Val.{Val}
use Rattle.task_stack.specs.Registers.{held, put, bind}
use Rattle.code_machines.specs.Objects.{Stands}
use Rattle.coro_lower.specs.Registers.{made, coroutine_types}
use Rattle.coro_lower.specs.Shape.{lowered}
use Rattle.coro_laws.specs.Half.{IsHalfLowered}
use Rattle.coro_laws.proofs.Awaiting.{parts_at}
use Rattle.register_laws.proofs.Lists.{every_at}
use Rattle.register_laws.proofs.Good.{Parts, instr_parts}
use Rattle.plain_carry.specs.Alike.{AllAlike, AllBelow, SameTypes}
use Rattle.plain_carry.proofs.Values.{bind_alike, bind_other, put_other, more_alike}
use Rattle.coro_carry.specs.Relation.{View, Holds, Data}
use Rattle.coro_carry.proofs.Lists.{get_first, all_below}

module _ (f : LowFunc) where
  made_far : (j : ℕ) → length f.regs ≤ (made f j).0
  made_far j = omega arith

  -- ---- types of registers

  pub type_stays : (r : Reg) → r.0 < length f.regs → reg_type (lowered f) r ≡ reg_type f r
  type_stays r less = get_first f.regs (map (λ (b : Block). ty.Int W1) f.blocks) (cond f.coroutine (coroutine_types f) []) r.0 less

  type_at_stays : (rs : List Reg) (i : ℕ) → AllBelow (length f.regs) rs → type_at (lowered f) rs i ≡ type_at f rs i
  type_at_stays [] i below = refl
  type_at_stays (r ∷ rs) zero below = type_stays r below.0
  type_at_stays (r ∷ rs) (suc i) below = type_at_stays rs i below.1

  pub types_stay : (i : Instr) → AllBelow (length f.regs) i.operands → AllBelow (length f.regs) i.results → SameTypes (lowered f) f i
  types_stay i operands results = record {
    results = ap width_of (type_at_stays i.results 0 results);
    operands = ap width_of (type_at_stays i.operands 0 operands);
    dims = ap dims_of (type_at_stays i.results 0 results);
  }

  -- ---- registers

  module _ (V : View) (t : ℕ) where
    holds_as : (v w : Val) (what : Stands) → v ≡ w → Holds V w what → Holds V v what
    holds_as v w what e h = subst (λ (x : Val). Holds V x what) (sym e) h

    pub data_bound : (these : List Reg) (vs ws regs regs' : List Val) → AllBelow (length f.regs) these → AllAlike V.stands V.refs vs ws → Data V t f regs regs' → Data V t f (bind these vs regs) (bind these ws regs')
    data_bound these vs ws regs regs' below a d = record {
      own = bind_alike V.stands V.refs (length f.regs) these vs ws regs regs' a d.own;
      objects = λ is j le. holds_as (held (bind these vs regs) (made f j).0) (held regs (made f j).0) _ (bind_other (length f.regs) (made f j).0 these vs regs below (made_far j)) (d.objects is j le);
    }

    -- a register that the pass made, and that holds no object
    pub data_put : (k : ℕ) (v : Val) (regs regs' : List Val) → length f.regs ≤ k → ((j : ℕ) → (made f j).0 ≢ k) → Data V t f regs regs' → Data V t f (put regs k v) regs'
    data_put k v regs regs' far other d = record {
      own = more_alike V.stands V.refs (length f.regs) k v regs regs' far d.own;
      objects = λ is j le. holds_as (held (put regs k v) (made f j).0) (held regs (made f j).0) _ (put_other regs k (made f j).0 v (other j)) (d.objects is j le);
    }

-- ---- what instructions name is there

pub record Within (f : LowFunc) (i : Instr) : Type 0 where
  pub operands : AllBelow (length f.regs) i.operands
  pub results : AllBelow (length f.regs) i.results

module _ (code : LowModule) (f : LowFunc) where
  pub instr_in : (i : Instr) → instr_within code f i ≡ true → Within f i
  instr_in i is =
      let p = instr_parts code f i is in
      record { operands = all_below (length f.regs) i.operands p.0; results = all_below (length f.regs) i.results p.1 }

  pub inner_in : (well : IsWellFormed code f) (half : IsHalfLowered f) (k : ℕ) (b : Block) → slice_get f.blocks k ≡ Some b → (p : ℕ) (i : Instr) → slice_get b.instrs p ≡ Some i → Within f i
  inner_in well half k b at p i here = instr_in i (every_at (instr_within code f) b.instrs p i (parts_at code f well half k b at).instrs here)

  pub last_in : (well : IsWellFormed code f) (half : IsHalfLowered f) (k : ℕ) (b : Block) → slice_get f.blocks k ≡ Some b → Within f b.term.instr
  last_in well half k b at = instr_in b.term.instr (parts_at code f well half k b at).last
