-- The machine over a stack, of which the list's last element is the top.
use Rattle.std.specs.Prelude.{◌≡◌, Bool, true, false, List, ◌++◌, Option, Some, None, reverse}
use Rattle.rule_machine.specs.declared.symbol.Symbol.{Symbol}
use Rattle.rule_machine.specs.Table.{Line, Table}
use Rattle.rule_machine.specs.Machine.{Place, step, close}

abbrev pub place_of : {C R A S : Type 0} → List (Symbol C R A) → S → Place C R A S
place_of stack state = record { left = reverse stack; state = state }

-- the token leads from one stack and state to the other, or it doesn't fit
abbrev pub IsStep : {C R A T S : Type 0} → Table C R A T S → List (Symbol C R A) → S → T → Bool → List (Symbol C R A) → S → Type 0
IsStep g before s t true after s' = step g (reverse before) s t ≡ Some (place_of after s')
IsStep g before s t false after s' = step g (reverse before) s t ≡ None

-- the text may end here, in this state, or it may not
abbrev pub IsEnd : {C R A T S : Type 0} → Table C R A T S → List (Symbol C R A) → S → Bool → S → Type 0
IsEnd g before s true s' = close g (reverse before) s ≡ Some s'
IsEnd g before s false s' = close g (reverse before) s ≡ None

-- what follows the first word of the line, whose class is given, is put on a stack
pub record IsLine {C R A : Type 0} (line : Option (Line C R A)) (c : C) (before after : List (Symbol C R A)) : Type 0 where
  pub rest : List (Symbol C R A)
  pub is : line ≡ Some (record { first = c; after = rest })
  pub pushed : reverse after ≡ rest ++ reverse before

-- the same where there is a line, and else nothing is done
abbrev pub IsPushed : {C R A : Type 0} → Option (Line C R A) → Option C → List (Symbol C R A) → List (Symbol C R A) → Type 0
IsPushed line (Some c) before after = IsLine line c before after
IsPushed line None before after = (line ≡ None) × (after ≡ before)
