-- A function whose registers are numbered in the order in which its text defines them.
use Rattle.std.specs.Prelude.{ℕ, List, ◌++◌, map, slice_get, unwrap_or}
use Rattle.ir_forms.specs.declared.types.Ty.{Ty}
use Rattle.ir_forms.specs.declared.types.Ty.TheVariants as ty
use Rattle.ir_forms.specs.Numbers.{joined}
use Rattle.low_forms.specs.declared.code.Reg.{Reg}
use Rattle.low_forms.specs.declared.code.Instr.{Instr}
use Rattle.low_forms.specs.declared.code.Target.{Target}
use Rattle.low_forms.specs.declared.code.Term.{Term}
use Rattle.low_forms.specs.declared.code.Block.{Block}
use Rattle.low_forms.specs.declared.code.LowFunc.{LowFunc}
use Rattle.low_forms.specs.Assigned.{numbers, block_assigns}
use Rattle.register_numbers.specs.FirstPlaces.{place_in}

-- ---- what a function defines, in the order of its text: its parameters, and by block its parameters and what its
-- instructions give

abbrev pub definitions : LowFunc → List ℕ
definitions f = numbers f.params ++ joined (map block_assigns f.blocks)

-- the type of a register; one that isn't there has none
abbrev pub type_of_reg : List Ty → ℕ → Ty
type_of_reg types r = unwrap_or (slice_get types r) ty.Untyped

-- ---- code under other registers

module _ (σ : ℕ → ℕ) where
  abbrev pub renamed_regs : List Reg → List Reg
  renamed_regs rs = map (λ r. record { 0 = σ r.0 }) rs

  abbrev pub renamed_instr : Instr → Instr
  renamed_instr i = record i { operands = renamed_regs i.operands; results = renamed_regs i.results }

  abbrev pub renamed_target : Target → Target
  renamed_target t = record t { args = renamed_regs t.args }

  abbrev pub renamed_term : Term → Term
  renamed_term t = record { instr = renamed_instr t.instr; targets = map renamed_target t.targets }

  abbrev pub renamed_block : Block → Block
  renamed_block b = record { params = renamed_regs b.params; instrs = map renamed_instr b.instrs; term = renamed_term b.term }

-- each register's number is the place of its first definition, and so it is where its type stands
abbrev pub renumbered : LowFunc → LowFunc
renumbered f = record f {
  params = renamed_regs (place_in (definitions f)) f.params;
  regs = map (type_of_reg f.regs) (definitions f);
  blocks = map (renamed_block (place_in (definitions f))) f.blocks;
}
