-- The table of the source grammar can end.
use Rattle.std.proofs.Common.{◌≡◌, ℕ, ◌≤◌, Bool, true, false, cond, not, ◌&&◌, ◌||◌, List, [], ◌∷◌, ◌++◌, length, Some, None, refl, sym, ap, subst, arith, eqb-true, eq-eqb, length-append}
use Rattle.op_table.specs.declared.rows.Level.{Level}
use Rattle.op_table.specs.declared.rows.Level.TheVariants.{Source, Checked, Split, Low}
use Rattle.module_grammar.specs.declared.symbols.Class.{Class}
use Rattle.module_grammar.specs.declared.symbols.Class.TheVariants as class
use Rattle.module_grammar.specs.declared.symbols.Keyword.{Keyword}
use Rattle.module_grammar.specs.declared.symbols.Keyword.TheVariants as key
use Rattle.module_grammar.specs.declared.symbols.Rule.{Rule}
use Rattle.module_grammar.specs.declared.symbols.Rule.TheVariants as rule
use Rattle.std.specs.Str.{bytes_eq}
use Rattle.std.proofs.lemmas.Slice.Eq.{bytes_eq-Decides}
use Rattle.module_grammar.specs.declared.symbols.Act.TheVariants as act
use Rattle.module_grammar.specs.declared.symbols.Symbol.{Symbol}
use Rattle.module_grammar.specs.declared.symbols.Symbol.TheVariants as symbol
use Rattle.module_grammar.specs.Engine.{Line, Leads, line_at, first_line, good_then, all_good, ends_within, Done, CanEnd}
use Rattle.module_grammar.specs.declared.state.TextToken.{TextToken}
use Rattle.module_grammar.specs.declared.state.Name.{Name}
use Rattle.module_grammar.specs.declared.state.State.{State}
use Rattle.module_grammar.specs.declared.state.DictEntry.{DictEntry}
use Rattle.module_grammar.specs.declared.state.DictEntry.TheVariants as entry
use Rattle.module_grammar.specs.Tokens.{number_of, type_of, memref_type}
use Rattle.module_grammar.specs.State.{is_named, param_names, is_wide, entry_after, does}
use Rattle.module_grammar.specs.Rules.{grammar, is_of, allows, lines, may_end}
use Rattle.module_grammar.specs.Endings.{endings, usable, is_dict, longer, follow, same_class, same_key, is_among, sample, plain_sample, start}
use Rattle.module_grammar.specs.Texts.{whole}
use Rattle.module_grammar.proofs.Runs.{by_test}
use Rattle.module_grammar.proofs.Ends.{and-left, and-right}

or-right : (a b : Bool) → a || b ≡ true → a ≡ false → b ≡ true
or-right true b h n = absurd cc
or-right false b h n = h

-- ---- tests over the table

-- behind each line of a rule stands what may follow
abbrev good_before : Level → List Line → List Class → Bool
good_before level ls [] = true
good_before level ls (c ∷ cs) = all_good (grammar level) (endings level) ls c && good_before level ls cs

lines-good : (level : Level) (r : Rule) → good_before level (lines level r) (follow r) ≡ true
unfolding is_of allows number_of type_of memref_type
lines-good Source rule.Text = refl
lines-good Source _ = refl
lines-good Checked rule.Text = refl
lines-good Checked _ = refl
lines-good Split rule.Text = refl
lines-good Split _ = refl
lines-good Low rule.Text = refl
lines-good Low _ = refl

-- no line begins with the token
abbrev none_of : List Line → TextToken → Bool
none_of [] t = true
none_of (l ∷ ls) t = not (is_of l.first t) && none_of ls t

abbrev all_avoid : List Line → List Class → Bool
all_avoid ls [] = true
all_avoid ls (c ∷ cs) = none_of ls (plain_sample c) && all_avoid ls cs

-- what may follow a rule that may be left out begins none of its lines
lines-avoid : (level : Level) (r : Rule) → not (may_end r) || all_avoid (lines level r) (follow r) ≡ true
unfolding is_of allows number_of type_of memref_type
lines-avoid Source rule.Text = refl
lines-avoid Source _ = refl
lines-avoid Checked rule.Text = refl
lines-avoid Checked _ = refl
lines-avoid Split rule.Text = refl
lines-avoid Split _ = refl
lines-avoid Low rule.Text = refl
lines-avoid Low _ = refl

starts-with : (level : Level) (r : Rule) (s : State) → may_end r ≡ false
    → line_at (grammar level) r s (sample (start level r).first s) ≡ Some (start level r)
unfolding is_of allows number_of type_of memref_type
starts-with Source rule.Form s n = refl
starts-with Checked rule.Form s n = refl
starts-with Split rule.Form s n = refl
starts-with Low rule.Form s n = refl
starts-with level rule.Type s n = refl
starts-with level rule.ResultTypes s n = refl
starts-with level rule.Dict s n = refl
starts-with level rule.Literal s n = refl
starts-with level rule.AfterHeld s n = refl
starts-with level rule.AfterHeldColon s n = refl
starts-with level rule.Branches s n = refl
starts-with level rule.BranchTypes s n = refl
starts-with level rule.BranchTypeList s n = refl
starts-with level _ s n = absurd cc

ends-soon : (level : Level) (r : Rule) → ends_within (grammar level) (endings level) 3 r ≡ true
unfolding is_of allows number_of type_of memref_type
ends-soon Source rule.Text = refl
ends-soon Source _ = refl
ends-soon Checked rule.Text = refl
ends-soon Checked _ = refl
ends-soon Split rule.Text = refl
ends-soon Split _ = refl
ends-soon Low rule.Text = refl
ends-soon Low _ = refl

-- ---- classes

same-key-sound : (a b : Keyword) → same_key a b ≡ true → a ≡ b
same-key-sound key.As key.As e = refl
same-key-sound key.Step key.Step e = refl
same-key-sound key.To key.To e = refl
same-key-sound _ _ e = absurd cc

same-sound : (c d : Class) → same_class c d ≡ true → c ≡ d
same-sound (class.Byte a) (class.Byte b) e = ap (λ x. class.Byte x) (eqb-true a b e)
same-sound (class.Key a) (class.Key b) e = ap (λ x. class.Key x) (same-key-sound a b e)
same-sound class.SymbolName class.SymbolName e = refl
same-sound class.End class.End e = refl
same-sound _ _ e = absurd cc

good-at : (level : Level) (ls : List Line) (c : Class) (cs : List Class)
    → good_before level ls cs ≡ true → is_among c cs ≡ true → all_good (grammar level) (endings level) ls c ≡ true
good-at level ls c [] h m = absurd cc
good-at level ls c (d ∷ ds) h m =
    by_test (same_class c d)
    (λ y. subst (λ x. all_good (grammar level) (endings level) ls x ≡ true) (sym (same-sound c d y)) (and-left _ _ h))
    (λ n. good-at level ls c ds (and-right (all_good (grammar level) (endings level) ls d) _ h) (or-right (same_class c d) _ m n))

-- of the classes that follow rules the state asks nothing
same-sample : (c d : Class) (s : State) → same_class c d ≡ true → sample c s ≡ plain_sample d
same-sample (class.Byte a) (class.Byte b) s e = ap (λ x. plain_sample (class.Byte x)) (eqb-true a b e)
same-sample (class.Key a) (class.Key b) s e = ap (λ x. plain_sample (class.Key x)) (same-key-sound a b e)
same-sample class.SymbolName class.SymbolName s e = refl
same-sample class.End class.End s e = refl
same-sample _ _ s e = absurd cc

none-at : (ls : List Line) (c : Class) (cs : List Class) (s : State) → all_avoid ls cs ≡ true → is_among c cs ≡ true → none_of ls (sample c s) ≡ true
none-at ls c [] s h m = absurd cc
none-at ls c (d ∷ ds) s h m =
    by_test (same_class c d)
    (λ y. subst (λ x. none_of ls x ≡ true) (sym (same-sample c d s y)) (and-left _ _ h))
    (λ n. none-at ls c ds s (and-right (none_of ls (plain_sample d)) _ h) (or-right (same_class c d) _ m n))

not-true : (b : Bool) → not b ≡ true → b ≡ false
not-true true e = absurd cc
not-true false e = refl

none-line : (level : Level) (ls : List Line) (s : State) (t : TextToken) → none_of ls t ≡ true → first_line (grammar level) ls s t ≡ None
none-line level [] s t h = refl
none-line level (l ∷ ls) s t h =
    let n : is_of l.first t ≡ false = not-true _ (and-left _ _ h) in
    rw n (none-line level ls s t (and-right (not (is_of l.first t)) _ h))

avoids : (level : Level) (r : Rule) (c : Class) → is_among c (follow r) ≡ true → may_end r ≡ true → (s s' : State)
    → line_at (grammar level) r s (sample c s') ≡ None
avoids level r c m y s s' =
    none-line level (lines level r) s (sample c s')
    (none-at (lines level r) c (follow r) s'
    (or-right (not (may_end r)) _ (lines-avoid level r) (ap not y)) m)

-- ---- samples

longer-names : (n : Name) (ns : List Name) (x : List ℕ) → length (longer (n ∷ ns)) ≤ length x → bytes_eq n.text x ≡ false
longer-names n ns x h =
    by_test (bytes_eq n.text x)
    (λ y. let e : n.text ≡ x = (bytes_eq-Decides n.text x).0 y in absurd (omega (arith, ap length e, length-append n.text (longer ns))))
    (λ z. z)

is-new : (ns : List Name) (x : List ℕ) → length (longer ns) ≤ length x → is_named ns x ≡ false
is-new [] x h = refl
is-new (n ∷ ns) x h = rw (longer-names n ns x h) (is-new ns x (omega (arith, length-append n.text (longer ns))))

new-name : (ns : List Name) → not (is_named ns (longer ns)) ≡ true
new-name ns = rw (is-new ns (longer ns) (omega arith)) refl

sampled : (c : Class) → usable c ≡ true → (s : State) → is_of c (sample c s) && allows c s (sample c s) ≡ true
unfolding is_of allows number_of type_of memref_type
sampled (class.Byte b) u s = rw (eq-eqb b b refl) refl
sampled (class.Key key.As) u s = refl
sampled (class.Key _) u s = refl
sampled class.Param u s = new-name (s.visible ++ param_names s.op.params)
sampled class.Result u s = new-name (s.visible ++ s.op.results)
sampled (class.OpName k) u s = absurd cc
sampled class.HeldEquals u s = absurd cc
sampled class.HeldNumber u s = absurd cc
sampled class.EntryComma u s = absurd cc
sampled class.EntryClose u s = absurd cc
sampled _ u s = refl

-- ---- dictionaries

-- after the word `x` no entry is whole
not-wide : (e : DictEntry) → is_wide (entry_after e (plain_sample class.EntryWord)) ≡ false
unfolding number_of
not-wide entry.Fresh = refl
not-wide entry.Keyed = refl
not-wide entry.Equated = refl
not-wide (entry.Numbered n at) = refl
not-wide (entry.Typed n at) = refl
not-wide (entry.Whole n at) = refl
not-wide entry.Other = refl

-- a dictionary is completed by a word and its brace
dict-done : (level : Level) (k : List Symbol) (c : Class) → ((s : State) → Done (grammar level) (endings level) k s c)
    → (s : State) → Done (grammar level) (endings level) (symbol.Rule rule.Dict ∷ k) s class.EntryWord
unfolding is_of allows does number_of
dict-done level k c d s =
    let x : TextToken = plain_sample class.EntryWord in
    let z : TextToken = plain_sample class.EntryClose in
    let s1 : State = record s { last = x } in
    let s2 : State = does act.Entry s1 in
    let s3 : State = record s2 { last = z } in
    let r = d (does act.EndEntry s3) in
    record {
      more = x ∷ z ∷ r.more;
      last_state = r.last_state;
      leads = Leads.line rule.Dict k s x (z ∷ r.more) r.last_state
          (record { first = class.EntryWord; after = symbol.Do act.Entry ∷ symbol.Rule rule.Dict ∷ [] }) refl
          (Leads.act act.Entry (symbol.Rule rule.Dict ∷ k) s1 (z ∷ r.more) r.last_state
          (Leads.line rule.Dict k s2 z r.more r.last_state
          (record { first = class.EntryClose; after = symbol.Do act.EndEntry ∷ [] }) (rw (not-wide s.entry) refl)
          (Leads.act act.EndEntry k s3 r.more r.last_state r.leads)));
      begun = (s, refl);
    }

special-done : (level : Level) (r : Rule) → is_dict r ≡ true → (k : List Symbol) (c : Class)
    → ((s : State) → Done (grammar level) (endings level) k s c)
    → (s : State) → Done (grammar level) (endings level) (symbol.Rule r ∷ k) s (cond (may_end r) c (start level r).first)
unfolding is_of allows number_of type_of memref_type
special-done level rule.Dict h k c d s = dict-done level k c d s
special-done level _ h k c d s = absurd cc

pub can-end : (level : Level) → CanEnd (grammar level) (endings level)
can-end level = record {
  sampled = sampled;
  lines_good = λ r c h. good-at level (lines level r) c (follow r) (lines-good level r) h;
  avoids = λ r c h y s s'. avoids level r c h y s s';
  starts = λ r n s. starts-with level r s n;
  depth = 3;
  soon = λ r. ends-soon level r;
  special = λ r h k c d s. special-done level r h k c d s;
}

pub whole-good : (level : Level) → good_then (grammar level) (endings level) whole class.End ≡ true
unfolding is_of allows number_of type_of memref_type
whole-good Source = refl
whole-good Checked = refl
whole-good Split = refl
whole-good Low = refl
