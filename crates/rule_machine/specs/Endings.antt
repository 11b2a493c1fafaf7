-- How symbols are completed to texts.
use Rattle.std.specs.Prelude.{◌≡◌, ℕ, zero, suc, Bool, true, false, cond, ◌&&◌, ◌||◌, List, [], ◌∷◌, Some, None}
use Rattle.rule_machine.specs.declared.symbol.Symbol.{Symbol}
use Rattle.rule_machine.specs.declared.symbol.Symbol.TheVariants as symbol
use Rattle.rule_machine.specs.Table.{Line, Table, line_at, Leads}

-- How each stack of symbols can be completed to a text: by a token of each class, and for each rule that has no empty line by
-- a line of it. `follows` says which classes of words may stand directly after a rule. A rule is special where a completion of
-- its own is given.
pub record Endings (C R A T S : Type 0) : Type 0 where
  pub sample : C → S → T
  pub usable : C → Bool
  pub start : R → Line C R A
  pub follows : R → C → Bool
  pub is_special : R → Bool

-- the class of the first token of the completion, where `c` is that of what comes after the symbols
abbrev pub first_then : {C R A T S : Type 0} → Table C R A T S → Endings C R A T S → List (Symbol C R A) → C → C
first_then g e [] c = c
first_then g e (symbol.Word d ∷ k) c = d
first_then g e (symbol.Do a ∷ k) c = first_then g e k c
first_then g e (symbol.Rule r ∷ k) c = cond (g.may_end r) (first_then g e k c) (e.start r).first

-- each rule among the symbols is followed by a class that may follow it
abbrev pub good_then : {C R A T S : Type 0} → Table C R A T S → Endings C R A T S → List (Symbol C R A) → C → Bool
good_then g e [] c = true
good_then g e (symbol.Word d ∷ k) c = e.usable d && good_then g e k c
good_then g e (symbol.Do a ∷ k) c = good_then g e k c
good_then g e (symbol.Rule r ∷ k) c = e.follows r (first_then g e k c) && good_then g e k c

abbrev pub all_good : {C R A T S : Type 0} → Table C R A T S → Endings C R A T S → List (Line C R A) → C → Bool
all_good g e [] c = true
all_good g e (l ∷ ls) c = good_then g e l.after c && all_good g e ls c

-- all rules among the symbols pass the test
abbrev pub all_rules : {C R A : Type 0} → (R → Bool) → List (Symbol C R A) → Bool
all_rules test [] = true
all_rules test (symbol.Word d ∷ k) = all_rules test k
all_rules test (symbol.Do a ∷ k) = all_rules test k
all_rules test (symbol.Rule r ∷ k) = test r && all_rules test k

-- the rule may be left out or is special, or a line of rules that end one step sooner completes it
abbrev pub ends_within : {C R A T S : Type 0} → Table C R A T S → Endings C R A T S → ℕ → R → Bool
ends_within g e zero r = g.may_end r || e.is_special r
ends_within g e (suc n) r = ends_within g e n r || all_rules (ends_within g e n) (e.start r).after

-- the tokens begin with one of the class
abbrev pub IsBegun : {C R A T S : Type 0} → Endings C R A T S → List T → C → Type 0
IsBegun e [] c = Unit {0}
IsBegun {C} {R} {A} {T} {S} e (t ∷ ts) c = (s : S) × (t ≡ e.sample c s)

-- a text that the symbols lead over, which begins with a token of the class
pub record Done {C R A T S : Type 0} (g : Table C R A T S) (e : Endings C R A T S) (k : List (Symbol C R A)) (s : S) (c : C) : Type 0 where
  pub more : List T
  pub last_state : S
  pub leads : Leads g k s more last_state
  pub begun : IsBegun e more c

-- What a table and its endings have to meet, so that every stack of symbols that a text reaches can be completed.
pub record CanEnd {C R A T S : Type 0} (g : Table C R A T S) (e : Endings C R A T S) : Type 0 where
  pub sampled : (c : C) → e.usable c ≡ true → (s : S) → g.accepts c s (e.sample c s) ≡ true
  pub lines_good : (r : R) (c : C) → e.follows r c ≡ true → all_good g e (g.lines r) c ≡ true
  pub avoids : (r : R) (c : C) → e.follows r c ≡ true → g.may_end r ≡ true → (s s' : S) → line_at g r s (e.sample c s') ≡ None
  pub starts : (r : R) → g.may_end r ≡ false → (s : S) → line_at g r s (e.sample (e.start r).first s) ≡ Some (e.start r)
  pub depth : ℕ
  pub soon : (r : R) → ends_within g e depth r ≡ true
  pub special : (r : R) → e.is_special r ≡ true → (k : List (Symbol C R A)) (c : C)
      → ((s : S) → Done g e k s c) → (s : S) → Done g e (symbol.Rule r ∷ k) s (cond (g.may_end r) c (e.start r).first)
