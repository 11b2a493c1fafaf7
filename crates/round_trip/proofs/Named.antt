-- A text in which no name is given a number of values names no more values than it has tokens.
use Rattle.std.proofs.Common.{◌≡◌, ◌<◌, ◌≤◌, suc, ◌+◌, Bool, true, false, not, ◌&&◌, ◌||◌, List, ◌∷◌, ◌++◌, length, refl, ap, ◌∙◌, arith}
use Rattle.std.specs.Prelude.{⊤}
use Rattle.std.proofs.lemmas.Bool.{leb-true}
use Rattle.op_table.specs.declared.rows.Level.{Level}
use Rattle.op_table.specs.declared.rows.Level.TheVariants.{Source, Checked, Split, Low}
use Rattle.module_grammar.specs.declared.symbols.Rule.{Rule}
use Rattle.module_grammar.specs.declared.symbols.Rule.TheVariants as rule
use Rattle.module_grammar.specs.declared.symbols.Symbol.{Symbol}
use Rattle.module_grammar.specs.declared.symbols.Symbol.TheVariants as symbol
use Rattle.module_grammar.specs.declared.state.TextToken.{TextToken}
use Rattle.module_grammar.specs.declared.state.State.{State}
use Rattle.module_grammar.specs.Engine.{Line, Leads}
use Rattle.module_grammar.specs.State.{at_start, does}
use Rattle.module_grammar.specs.Rules.{grammar, lines}
use Rattle.module_grammar.specs.Texts.{whole}
use Rattle.round_trip.proofs.Weights.{words, weight, words-append, weight-append, all_lines, both, chosen, is_light}
use Rattle.round_trip.proofs.Counting.{is_results, pending, in_order, counts_values, lets, pending-append, order-append, named, names, act-names}
use Rattle.module_grammar.proofs.Ends.{and-both}

-- no name is given a number of values on the way
abbrev pub CountsNone : (level : Level) {k : List Symbol} {s : State} {ts : List TextToken} {s' : State} → Leads (grammar level) k s ts s' → Type 0
CountsNone level (Leads.ended s) = ⊤
CountsNone level (Leads.word c k s t ts s' fits d) = CountsNone level d
CountsNone level (Leads.act a k s ts s' d) = (counts_values a ≡ false) × CountsNone level d
CountsNone level (Leads.line r k s t ts s' l is d) = CountsNone level d
CountsNone level (Leads.nothing r k s ts s' ends n d) = CountsNone level d

-- ---- the lines

-- what a rule that isn't of results has in its lines, and what one of results has
abbrev pub keeps_order : Bool → List Symbol → Bool
keeps_order true after = (in_order false after && in_order true after) && (not (pending false after) && pending true after)
keeps_order false after = in_order false after && not (pending false after)

abbrev pub is_checked : Rule → Line → Bool
is_checked r l = is_light names l && keeps_order (is_results r) l.after

all-checked : (level : Level) (r : Rule) → all_lines (is_checked r) (lines level r) ≡ true
all-checked Source rule.Body = refl
all-checked Checked rule.Body = refl
all-checked Split rule.Body = refl
all-checked Low rule.Body = refl
all-checked Source rule.Form = refl
all-checked Checked rule.Form = refl
all-checked Split rule.Form = refl
all-checked Low rule.Form = refl
all-checked level _ = refl

-- ---- how many values are named

-- so many values are named at the end
abbrev Ends : List Symbol → State → List TextToken → State → Type 0
Ends k s ts s' = s'.counted + words k ≤ (named (pending false k) s + weight names k) + length ts

not-true : (b : Bool) → not b ≡ true → b ≡ false
not-true true e = absurd cc
not-true false e = refl

-- a line that keeps the order, in front of what stood behind its rule
kept : (results : Bool) (after : List Symbol) (p : Bool) → keeps_order results after ≡ true → (results || not p) ≡ true
    → (in_order p after ≡ true) × (pending p after ≡ results && p)
kept true after true e o =
    let b = both (in_order false after && in_order true after) (not (pending false after) && pending true after) e in
    ((both (in_order false after) (in_order true after) b.0).1, (both (not (pending false after)) (pending true after) b.1).1)
kept true after false e o =
    let b = both (in_order false after && in_order true after) (not (pending false after) && pending true after) e in
    ((both (in_order false after) (in_order true after) b.0).0, not-true (pending false after) (both (not (pending false after)) (pending true after) b.1).0)
kept false after true e o = absurd cc
kept false after false e o =
    let b = both (in_order false after) (not (pending false after)) e in
    (b.0, not-true (pending false after) b.1)

last-named : (p : Bool) (s : State) (t : TextToken) → named p (record s { last = t }) ≡ named p s
last-named true s t = refl
last-named false s t = refl

one-line : (r : Rule) (l : Line) (k : List Symbol) (s : State) (t : TextToken) (ts : List TextToken) (s' : State) → is_checked r l ≡ true
    → (is_results r || not (pending false k)) ≡ true → in_order false k ≡ true → (in_order false (l.after ++ k) ≡ true → Ends (l.after ++ k) (record s { last = t }) ts s')
    → Ends (symbol.Rule r ∷ k) s (t ∷ ts) s'
one-line r l k s t ts s' checked order orders again =
    let g = both (is_light names l) (keeps_order (is_results r) l.after) checked in
    let o = kept (is_results r) l.after (pending false k) g.1 order in
    let small = leb-true (weight names l.after) (suc (words l.after)) g.0 in
    let h = again (order-append l.after k false ∙ and-both (in_order (pending false k) l.after) (in_order false k) o.0 orders) in
    let many = words-append l.after k in
    let heavy = weight-append names l.after k in
    let same : named (pending false (l.after ++ k)) (record s { last = t }) ≡ named (is_results r && pending false k) s =
    ap (λ p. named p (record s { last = t })) (pending-append l.after k false ∙ o.1) ∙ last-named (is_results r && pending false k) s t in
    omega (arith, h, many, heavy, same, small)

skipped : (s : State) (results p : Bool) → results || not p ≡ true → named p s ≡ named (results && p) s
skipped s true p o = refl
skipped s false true o = absurd cc
skipped s false false o = refl

values-end : (level : Level) (k : List Symbol) (s : State) (ts : List TextToken) (s' : State) (d : Leads (grammar level) k s ts s') → CountsNone level d
    → in_order false k ≡ true → Ends k s ts s'
values-end level _ _ _ _ (Leads.ended s) none order = omega arith
values-end level _ _ _ _ (Leads.word c k s t ts s' fits d) none order =
    let h = values-end level k (record s { last = t }) ts s' d none order in
    let same = last-named (pending false k) s t in
    omega (arith, h, same)
values-end level _ _ _ _ (Leads.act a k s ts s' d) none order =
    let o = both (lets a || not (pending false k)) (in_order false k) order in
    let h = values-end level k (does a s) ts s' d none.1 o.1 in
    let more = act-names a (pending false k) s none.0 o.0 in
    omega (arith, h, more)
values-end level _ _ _ _ (Leads.line r k s t ts s' l is d) none order =
    let o = both (is_results r || not (pending false k)) (in_order false k) order in
    one-line r l k s t ts s' (chosen (grammar level) (is_checked r) (lines level r) s t l is (all-checked level r)) o.0 o.1
    (λ orders. values-end level (l.after ++ k) (record s { last = t }) ts s' d none orders)
values-end level _ _ _ _ (Leads.nothing r k s ts s' ends n d) none order =
    let o = both (is_results r || not (pending false k)) (in_order false k) order in
    let h = values-end level k s ts s' d none o.1 in
    let same = skipped s (is_results r) (pending false k) o.0 in
    omega (arith, h, same)

pub few-values : (level : Level) (s : State) (ts : List TextToken) (d : Leads (grammar level) whole at_start ts s) → CountsNone level d → s.counted < length ts
few-values level s ts d none = let h = values-end level whole at_start ts s d none refl in omega (arith, h)
