-- The laws of the machine, of each table.
use Rattle.std.specs.Prelude.{◌≡◌, true, List, Ok, Err}
use Rattle.rule_machine.specs.declared.symbol.Symbol.{Symbol}
use Rattle.rule_machine.specs.Table.{Table, Leads}
use Rattle.rule_machine.specs.Machine.{run}
use Rattle.rule_machine.specs.Faults.{IsFirstFault}
use Rattle.rule_machine.specs.Endings.{Endings, CanEnd, good_then}

-- each text of the table runs to the state to which it leads
abbrev pub RunsEachText : {C R A T S : Type 0} → Table C R A T S → Type 0
RunsEachText {C} {R} {A} {T} {S} g = (k : List (Symbol C R A)) (s : S) (ts : List T) (s' : S) → Leads g k s ts s' → run g k s ts ≡ Ok s'

-- what runs to a state is a text that leads to it
abbrev pub RunsTextsAlone : {C R A T S : Type 0} → Table C R A T S → Type 0
RunsTextsAlone {C} {R} {A} {T} {S} g = (k : List (Symbol C R A)) (s : S) (ts : List T) (s' : S) → run g k s ts ≡ Ok s' → Leads g k s ts s'

-- a text leads to one state
abbrev pub LeadsToOne : {C R A T S : Type 0} → Table C R A T S → Type 0
LeadsToOne {C} {R} {A} {T} {S} g =
    (k : List (Symbol C R A)) (s : S) (ts : List T) (p q : S) → Leads g k s ts p → Leads g k s ts q → p ≡ q

-- where the table can end, what is refused is no text, and is refused at the first token that doesn't fit
abbrev pub FindsFirstFault : {C R A T S : Type 0} → Table C R A T S → Endings C R A T S → Type 0
FindsFirstFault {C} {R} {A} {T} {S} g e =
    CanEnd g e → (last : C) (k : List (Symbol C R A)) (s : S) (ts rest : List T)
    → good_then g e k last ≡ true → run g k s ts ≡ Err rest → IsFirstFault g k s ts rest
