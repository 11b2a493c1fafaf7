-- What begins a text, and the first fault of what is none.
use Rattle.std.specs.Prelude.{◌≡◌, List, [], ◌∷◌, ◌++◌}
use Rattle.rule_machine.specs.declared.symbol.Symbol.{Symbol}
use Rattle.rule_machine.specs.Table.{Table, Leads}

-- some text that the symbols lead over begins with these tokens
abbrev pub Begins : {C R A T S : Type 0} → Table C R A T S → List (Symbol C R A) → S → List T → Type 0
Begins {C} {R} {A} {T} {S} g k s front = (more : List T) × (s' : S) × Leads g k s (front ++ more) s'

-- where there is a first token, no text goes on with it behind the front
abbrev pub IsRefused : {C R A T S : Type 0} → Table C R A T S → List (Symbol C R A) → S → List T → List T → Type 0
IsRefused g k s front [] = Unit {0}
IsRefused g k s front (t ∷ rest) = Begins g k s (front ++ t ∷ []) → ⊥

-- The tokens are no text. What stands before the rest begins one, and with the first token of the rest it begins none.
pub record IsFirstFault {C R A T S : Type 0} (g : Table C R A T S) (k : List (Symbol C R A)) (s : S) (ts rest : List T) : Type 0 where
  pub front : List T
  pub parts : ts ≡ front ++ rest
  pub fits : Begins g k s front
  pub no_text : (s' : S) → Leads g k s ts s' → ⊥
  pub refused : IsRefused g k s front rest
