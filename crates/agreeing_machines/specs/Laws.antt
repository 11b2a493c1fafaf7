-- The machines of programs whose tasks agree one by one.
use Rattle.std.specs.Prelude.{ℕ, List}
use Rattle.ir_forms.specs.declared.args.ArgValue.{ArgValue}
use Rattle.carry_laws.specs.Agreement.{Agreement}
use Rattle.carry_laws.specs.Laws.{Relation}
use Rattle.machines.specs.Carries.{Carries}
use Rattle.source_machine.specs.Source.{source}
use Rattle.source_meaning.specs.Tasks.{Program}
use Rattle.source_meaning.specs.World.{World}
use Rattle.source_meaning.specs.Renaming.{IsRenamed, IsInjective}

-- each of two machines carries the other
abbrev pub CarryEachOther : Program → Program → ℕ → List ArgValue → Type 0
CarryEachOther p q entry args = Carries (source q entry args) (source p entry args) × Carries (source p entry args) (source q entry args)

-- so it is for agreeing programs
abbrev pub AgreeingCarry : Relation → (World → Type 0) → Type 0
AgreeingCarry like kept = (p q : Program) (entry : ℕ) (args : List ArgValue) → Agreement (like p q) kept p q entry args → CarryEachOther p q entry args

-- and for a program and the same with its values under other names
abbrev pub RenamedCarry : Type 0
RenamedCarry = (σ : ℕ → ℕ → ℕ) (p q : Program) (entry : ℕ) (args : List ArgValue) → IsInjective σ → IsRenamed σ p q → CarryEachOther p q entry args
