-- A table of rules, and the texts that it has.
use Rattle.std.specs.Prelude.{◌≡◌, Bool, true, cond, List, [], ◌∷◌, ◌++◌, Option, Some, None}
use Rattle.rule_machine.specs.declared.symbol.Symbol.{Symbol}
use Rattle.rule_machine.specs.declared.symbol.Symbol.TheVariants as symbol

-- one line of a rule: the class of its first word, and what follows that word
pub record Line (C R A : Type 0) : Type 0 where
  pub first : C
  pub after : List (Symbol C R A)

-- A table over classes C of words, rules R, actions A, tokens T and states S. A rule has lines; where `may_end` holds it has
-- besides the empty line. A word of a class is a token that `accepts` accepts. `reads` and `does` say what a word and an action
-- make of the state.
pub record Table (C R A T S : Type 0) : Type 0 where
  pub lines : R → List (Line C R A)
  pub may_end : R → Bool
  pub accepts : C → S → T → Bool
  pub reads : C → T → S → S
  pub does : A → S → S

-- the first of these lines whose word the token is
abbrev pub first_line : {C R A T S : Type 0} → Table C R A T S → List (Line C R A) → S → T → Option (Line C R A)
first_line g [] s t = None
first_line g (l ∷ ls) s t = cond (g.accepts l.first s t) (Some l) (first_line g ls s t)

-- the line of a rule that a token begins
abbrev pub line_at : {C R A T S : Type 0} → Table C R A T S → R → S → T → Option (Line C R A)
line_at g r s t = first_line g (g.lines r) s t

-- no line of the rule begins with the first of the tokens
abbrev pub BeginsNone : {C R A T S : Type 0} → Table C R A T S → R → S → List T → Type 0
BeginsNone g r s [] = Unit {0}
BeginsNone g r s (t ∷ ts) = line_at g r s t ≡ None

-- The symbols lead over the tokens from one state to another. A rule is replaced by the line that the next token begins,
-- and by nothing only where the next token begins none of its lines.
pub data Leads {C R A T S : Type 0} (g : Table C R A T S) : List (Symbol C R A) → S → List T → S → Type 0 where
  ended : (s : S) → Leads g [] s [] s
  word : (c : C) (k : List (Symbol C R A)) (s : S) (t : T) (ts : List T) (s' : S)
      → g.accepts c s t ≡ true → Leads g k (g.reads c t s) ts s' → Leads g (symbol.Word c ∷ k) s (t ∷ ts) s'
  act : (a : A) (k : List (Symbol C R A)) (s : S) (ts : List T) (s' : S)
      → Leads g k (g.does a s) ts s' → Leads g (symbol.Do a ∷ k) s ts s'
  line : (r : R) (k : List (Symbol C R A)) (s : S) (t : T) (ts : List T) (s' : S) (l : Line C R A)
      → line_at g r s t ≡ Some l → Leads g (l.after ++ k) (g.reads l.first t s) ts s' → Leads g (symbol.Rule r ∷ k) s (t ∷ ts) s'
  nothing : (r : R) (k : List (Symbol C R A)) (s : S) (ts : List T) (s' : S)
      → g.may_end r ≡ true → BeginsNone g r s ts → Leads g k s ts s' → Leads g (symbol.Rule r ∷ k) s ts s'
