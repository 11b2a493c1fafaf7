-- A table of rules, the texts that it has, and the machine that reads them token by token.
use Rattle.std.specs.Prelude.{◌≡◌, ℕ, zero, suc, Bool, true, false, cond, ◌&&◌, ◌||◌, List, [], ◌∷◌, ◌++◌, Option, Some, None, Result, Ok, Err}
use Rattle.module_grammar.specs.declared.symbols.Class.{Class}
use Rattle.module_grammar.specs.declared.symbols.Rule.{Rule}
use Rattle.module_grammar.specs.declared.symbols.Act.{Act}
use Rattle.module_grammar.specs.declared.symbols.Symbol.{Symbol}
use Rattle.module_grammar.specs.declared.symbols.Symbol.TheVariants as symbol

-- one line of a rule: the class of its first word, and what follows that word
pub record Line : Type 0 where
  pub first : Class
  pub after : List Symbol

-- A table over tokens T and states S. A rule has lines; where `may_end` holds it has besides the empty line. A word of a
-- class is a token that `accepts` accepts. `reads` and `does` say what a word and an action make of the state.
pub record Table (T S : Type 0) : Type 0 where
  pub lines : Rule → List Line
  pub may_end : Rule → Bool
  pub accepts : Class → S → T → Bool
  pub reads : Class → T → S → S
  pub does : Act → S → S

-- the first of these lines whose word the token is
abbrev pub first_line : {T S : Type 0} → Table T S → List Line → S → T → Option Line
first_line g [] s t = None
first_line g (l ∷ ls) s t = cond (g.accepts l.first s t) (Some l) (first_line g ls s t)

-- the line of a rule that a token begins
abbrev pub line_at : {T S : Type 0} → Table T S → Rule → S → T → Option Line
line_at g r s t = first_line g (g.lines r) s t

-- no line of the rule begins with the first of the tokens
abbrev pub BeginsNone : {T S : Type 0} → Table T S → Rule → S → List T → Type 0
BeginsNone g r s [] = Unit {0}
BeginsNone g r s (t ∷ ts) = line_at g r s t ≡ None

-- The symbols lead over the tokens from one state to another. A rule is replaced by the line that the next token begins,
-- and by nothing only where the next token begins none of its lines.
pub data Leads {T S : Type 0} (g : Table T S) : List Symbol → S → List T → S → Type 0 where
  ended : (s : S) → Leads g [] s [] s
  word : (c : Class) (k : List Symbol) (s : S) (t : T) (ts : List T) (s' : S)
      → g.accepts c s t ≡ true → Leads g k (g.reads c t s) ts s' → Leads g (symbol.Word c ∷ k) s (t ∷ ts) s'
  act : (a : Act) (k : List Symbol) (s : S) (ts : List T) (s' : S)
      → Leads g k (g.does a s) ts s' → Leads g (symbol.Do a ∷ k) s ts s'
  line : (r : Rule) (k : List Symbol) (s : S) (t : T) (ts : List T) (s' : S) (l : Line)
      → line_at g r s t ≡ Some l → Leads g (l.after ++ k) (g.reads l.first t s) ts s' → Leads g (symbol.Rule r ∷ k) s (t ∷ ts) s'
  nothing : (r : Rule) (k : List Symbol) (s : S) (ts : List T) (s' : S)
      → g.may_end r ≡ true → BeginsNone g r s ts → Leads g k s ts s' → Leads g (symbol.Rule r ∷ k) s ts s'

-- ---- the machine

-- the symbols that are left after one more token, and the state
pub record Place (S : Type 0) : Type 0 where
  pub left : List Symbol
  pub state : S

-- what a token makes of symbols and a state
abbrev pub step : {T S : Type 0} → Table T S → List Symbol → S → T → Option (Place S)
step g [] s t = None
step g (symbol.Word c ∷ k) s t = cond (g.accepts c s t) (Some (record { left = k; state = g.reads c t s })) None
step g (symbol.Do a ∷ k) s t = step g k (g.does a s) t
step g (symbol.Rule r ∷ k) s t = elim (line_at g r s t) [
  | Some l ↦ Some (record { left = l.after ++ k; state = g.reads l.first t s })
  | None ↦ cond (g.may_end r) (step g k s t) None
]

-- the state at the end of the tokens, where what is left may be nothing
abbrev pub close : {T S : Type 0} → Table T S → List Symbol → S → Option S
close g [] s = Some s
close g (symbol.Word c ∷ k) s = None
close g (symbol.Do a ∷ k) s = close g k (g.does a s)
close g (symbol.Rule r ∷ k) s = cond (g.may_end r) (close g k s) None

abbrev pub closed : {T S : Type 0} → Option S → Result S (List T)
closed (Some s) = Ok s
closed None = Err []

-- the last state, or the tokens from the first on that doesn't fit
abbrev pub run : {T S : Type 0} → Table T S → List Symbol → S → List T → Result S (List T)
run g k s [] = closed (close g k s)
run g k s (t ∷ ts) = elim (step g k s t) [
  | Some p ↦ run g p.left p.state ts
  | None ↦ Err (t ∷ ts)
]

-- ---- the first fault

-- some text that the symbols lead over begins with these tokens
abbrev pub Begins : {T S : Type 0} → Table T S → List Symbol → S → List T → Type 0
Begins {T} {S} g k s front = (more : List T) × (s' : S) × Leads g k s (front ++ more) s'

-- where there is a first token, no text goes on with it behind the front
abbrev pub IsRefused : {T S : Type 0} → Table T S → List Symbol → S → List T → List T → Type 0
IsRefused g k s front [] = Unit {0}
IsRefused g k s front (t ∷ rest) = Begins g k s (front ++ t ∷ []) → ⊥

-- The tokens are no text. What stands before the rest begins one, and with the first token of the rest it begins none.
pub record IsFirstFault {T S : Type 0} (g : Table T S) (k : List Symbol) (s : S) (ts rest : List T) : Type 0 where
  pub front : List T
  pub parts : ts ≡ front ++ rest
  pub fits : Begins g k s front
  pub no_text : (s' : S) → Leads g k s ts s' → ⊥
  pub refused : IsRefused g k s front rest

-- ---- how symbols are completed

-- How each stack of symbols can be completed to a text: by a token of each class, and for each rule that has no empty line by
-- a line of it. `follows` says which classes of words may stand directly after a rule. A rule is special where a completion of
-- its own is given.
pub record Endings (T S : Type 0) : Type 0 where
  pub sample : Class → S → T
  pub usable : Class → Bool
  pub start : Rule → Line
  pub follows : Rule → Class → Bool
  pub is_special : Rule → Bool

-- the class of the first token of the completion, where `c` is that of what comes after the symbols
abbrev pub first_then : {T S : Type 0} → Table T S → Endings T S → List Symbol → Class → Class
first_then g e [] c = c
first_then g e (symbol.Word d ∷ k) c = d
first_then g e (symbol.Do a ∷ k) c = first_then g e k c
first_then g e (symbol.Rule r ∷ k) c = cond (g.may_end r) (first_then g e k c) (e.start r).first

-- each rule among the symbols is followed by a class that may follow it
abbrev pub good_then : {T S : Type 0} → Table T S → Endings T S → List Symbol → Class → Bool
good_then g e [] c = true
good_then g e (symbol.Word d ∷ k) c = e.usable d && good_then g e k c
good_then g e (symbol.Do a ∷ k) c = good_then g e k c
good_then g e (symbol.Rule r ∷ k) c = e.follows r (first_then g e k c) && good_then g e k c

abbrev pub all_good : {T S : Type 0} → Table T S → Endings T S → List Line → Class → Bool
all_good g e [] c = true
all_good g e (l ∷ ls) c = good_then g e l.after c && all_good g e ls c

-- all rules among the symbols pass the test
abbrev pub all_rules : (Rule → Bool) → List Symbol → Bool
all_rules test [] = true
all_rules test (symbol.Word d ∷ k) = all_rules test k
all_rules test (symbol.Do a ∷ k) = all_rules test k
all_rules test (symbol.Rule r ∷ k) = test r && all_rules test k

-- the rule may be left out or is special, or a line of rules that end one step sooner completes it
abbrev pub ends_within : {T S : Type 0} → Table T S → Endings T S → ℕ → Rule → Bool
ends_within g e zero r = g.may_end r || e.is_special r
ends_within g e (suc n) r = ends_within g e n r || all_rules (ends_within g e n) (e.start r).after

-- the tokens begin with one of the class
abbrev pub IsBegun : {T S : Type 0} → Endings T S → List T → Class → Type 0
IsBegun e [] c = Unit {0}
IsBegun {T} {S} e (t ∷ ts) c = (s : S) × (t ≡ e.sample c s)

-- a text that the symbols lead over, which begins with a token of the class
pub record Done {T S : Type 0} (g : Table T S) (e : Endings T S) (k : List Symbol) (s : S) (c : Class) : Type 0 where
  pub more : List T
  pub last_state : S
  pub leads : Leads g k s more last_state
  pub begun : IsBegun e more c

-- What a table and its endings have to meet, so that every stack of symbols that a text reaches can be completed.
pub record CanEnd {T S : Type 0} (g : Table T S) (e : Endings T S) : Type 0 where
  pub sampled : (c : Class) → e.usable c ≡ true → (s : S) → g.accepts c s (e.sample c s) ≡ true
  pub lines_good : (r : Rule) (c : Class) → e.follows r c ≡ true → all_good g e (g.lines r) c ≡ true
  pub avoids : (r : Rule) (c : Class) → e.follows r c ≡ true → g.may_end r ≡ true → (s s' : S) → line_at g r s (e.sample c s') ≡ None
  pub starts : (r : Rule) → g.may_end r ≡ false → (s : S) → line_at g r s (e.sample (e.start r).first s) ≡ Some (e.start r)
  pub depth : ℕ
  pub soon : (r : Rule) → ends_within g e depth r ≡ true
  pub special : (r : Rule) → e.is_special r ≡ true → (k : List Symbol) (c : Class)
      → ((s : S) → Done g e k s c) → (s : S) → Done g e (symbol.Rule r ∷ k) s (cond (g.may_end r) c (e.start r).first)
