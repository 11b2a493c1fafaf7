-- Symbols lead over words: tokens of which only the kind and the bytes are known.
use Rattle.std.proofs.Common.{◌≡◌, ℕ, ◌+◌, Bool, true, false, cond, not, ◌&&◌, ◌||◌, List, [], ◌∷◌, ◌++◌, map, length, ◌==◌, Option, Some, None, is_none, is_some, codes, refl, sym, ap, subst, ap₂, ◌∙◌, bytes_eq}
use Rattle.std.proofs.lemmas.List.{map-append, length-map}
use Rattle.op_table.specs.declared.rows.Level.{Level}
use Rattle.ir_forms.specs.declared.ops.Module.{Module}
use Rattle.module_grammar.specs.declared.symbols.Class.{Class}
use Rattle.module_grammar.specs.declared.symbols.Class.TheVariants as class
use Rattle.module_grammar.specs.declared.symbols.Rule.{Rule}
use Rattle.module_grammar.specs.declared.symbols.Rule.TheVariants as rule
use Rattle.module_grammar.specs.declared.symbols.Act.{Act}
use Rattle.module_grammar.specs.declared.symbols.Act.TheVariants as acts
use Rattle.module_grammar.specs.declared.symbols.Symbol.{Symbol}
use Rattle.module_grammar.specs.declared.symbols.Symbol.TheVariants as symbol
use Rattle.module_grammar.specs.declared.state.TextToken.{TextToken}
use Rattle.module_grammar.specs.declared.state.Name.{Name}
use Rattle.module_grammar.specs.declared.state.DictEntry.{DictEntry}
use Rattle.module_grammar.specs.declared.state.DictEntry.TheVariants as entry
use Rattle.module_grammar.specs.declared.state.State.{State}
use Rattle.module_grammar.specs.Engine.{Line, Leads, line_at, first_line}
use Rattle.module_grammar.specs.State.{is_named, is_wide, param_names, module_of, does}
use Rattle.module_grammar.specs.Tokens.{number_of, type_of, is_number_kind, is_up_to, predicate_of, payload_of, is_memref_type, is_group_type, is_truth_type, word_of, is_name_of}
use Rattle.module_grammar.specs.Rules.{grammar, lines, may_end, is_of, allows, is_hash_name, none_named, are_distinct, holds_text, are_new, is_byte, is_arrow, is_name, is_symbol, is_string, is_value_name, is_type_kind, is_bang_name, is_block_name, is_inner, is_end}
use Rattle.round_trip.specs.GivesBack.{text_tokens}
use Rattle.round_trip.proofs.Core.{Word, spoken, token_of, bare, bare_entry, Passing, Core, text_of, core, said, done}
use Rattle.round_trip.proofs.Counting.{counts_values}
use Rattle.round_trip.proofs.Named.{CountsNone}
use Rattle.round_trip.proofs.Docs.{Stops, Plain}
use Rattle.round_trip.proofs.Acts.{core-does, is_printed, param-names-bare}
use Rattle.module_grammar.proofs.Runs.{by_test}

-- ---- what a word is of

abbrev pub none_of : List Name → List (List ℕ) → Bool
none_of names [] = true
none_of names (x ∷ xs) = not (is_named names x) && none_of names xs

abbrev pub holds : List (List ℕ) → List ℕ → Bool
holds [] text = false
holds (x ∷ xs) text = bytes_eq x text || holds xs text

abbrev pub all_distinct : List (List ℕ) → Bool
all_distinct [] = true
all_distinct (x ∷ xs) = not (holds xs x) && all_distinct xs

abbrev pub all_new : Core → List (List ℕ) → Bool
all_new c xs = none_of c.visible xs && none_of c.op.results xs && all_distinct xs

-- what a word is of itself
abbrev pub of_word : Class → Word → Bool
of_word (class.Byte b) w = is_byte b w.0
of_word class.Arrow w = is_arrow w.0
of_word (class.Key k) w = is_name w.0 && bytes_eq w.1 (word_of k)
of_word (class.OpName k) w = is_name w.0 && is_name_of k w.1
of_word class.SymbolName w = is_symbol w.0
of_word class.Message w = is_string w.0
of_word class.Use w = is_value_name w.0
of_word class.Param w = is_value_name w.0
of_word class.Result w = is_value_name w.0
of_word class.Index w = false
of_word class.Number w = is_number_kind w.0 && is_some (number_of (token_of w))
of_word class.Negated w = is_number_kind w.0 && is_up_to 9223372036854775808 (number_of (token_of w))
of_word class.Predicate w = is_name w.0 && is_some (predicate_of (token_of w))
of_word class.PlainType w = is_type_kind w.0 && is_some (type_of (token_of w))
of_word class.ValueType w = is_bang_name w.0 && bytes_eq w.1 (codes "!async.value")
of_word class.Payload w = is_type_kind w.0 && is_some (payload_of (token_of w))
of_word class.MemrefType w = is_type_kind w.0 && is_memref_type (type_of (token_of w))
of_word class.GroupType w = is_type_kind w.0 && is_group_type (type_of (token_of w))
of_word class.TruthType w = is_type_kind w.0 && is_truth_type (type_of (token_of w))
of_word class.BlockName w = is_block_name w.0
of_word class.HeldEquals w = is_byte 61 w.0
of_word class.HeldNumber w = is_number_kind w.0 && is_some (number_of (token_of w))
of_word class.EntryComma w = is_byte 44 w.0
of_word class.EntryClose w = is_byte 125 w.0
of_word class.EntryWord w = is_inner w.0 && not (is_byte 44 w.0)
of_word class.AnyWord w = is_inner w.0
of_word class.End w = is_end w.0

-- what the core asks besides
abbrev pub grants : Class → Core → Word → Bool
grants class.Param c w = not (is_named (c.visible ++ param_names c.op.params) w.1)
grants class.Result c w = not (is_named (c.visible ++ c.op.results) w.1)
grants class.HeldEquals c w = all_new c c.held
grants class.HeldNumber c w = length c.held == 1 && all_new c c.held
grants class.EntryComma c w = not (is_wide c.passing.entry)
grants class.EntryClose c w = not (is_wide c.passing.entry)
grants _ c w = true

-- `#` stands in no printed text
abbrev pub fits : Class → Core → Word → Bool
fits a c w = not (is_hash_name w.0) && (of_word a w && grants a c w)

abbrev pub first_fit : List Line → Core → Word → Option Line
first_fit [] c w = None
first_fit (l ∷ ls) c w = cond (fits l.first c w) (Some l) (first_fit ls c w)

abbrev pub line_on : Level → Rule → Core → Word → Option Line
line_on level r c w = first_fit (lines level r) c w

-- the words begin no line of the rule
abbrev pub Misses : Level → Rule → Core → List Word → Type 0
Misses level r c [] = Unit {0}
Misses level r c (w ∷ ws) = not (is_hash_name w.0) && is_none (line_on level r c w) ≡ true

-- ---- a word is what its token is

named-bare : (ns : List Name) (text : List ℕ) → is_named (map bare ns) text ≡ is_named ns text
named-bare [] text = refl
named-bare (n ∷ ns) text = ap (λ (b : Bool). bytes_eq n.text text || b) (named-bare ns text)

none-bare : (ns : List Name) (ts : List TextToken) → none_of (map bare ns) (map text_of ts) ≡ none_named ns ts
none-bare ns [] = refl
none-bare ns (t ∷ ts) = rw (named-bare, none-bare ns ts) refl

holds-bare : (ts : List TextToken) (text : List ℕ) → holds (map text_of ts) text ≡ holds_text ts text
holds-bare [] text = refl
holds-bare (t ∷ ts) text = ap (λ (b : Bool). bytes_eq t.text text || b) (holds-bare ts text)

distinct-bare : (ts : List TextToken) → all_distinct (map text_of ts) ≡ are_distinct ts
distinct-bare [] = refl
distinct-bare (t ∷ ts) = ap₂ (λ (a b : Bool). not a && b) (holds-bare ts t.text) (distinct-bare ts)

new-bare : (s : State) (ts : List TextToken) → all_new (core s) (map text_of ts) ≡ are_new s ts
new-bare s ts = rw (none-bare, none-bare, distinct-bare) refl

wide-bare : (e : DictEntry) → is_wide (bare_entry e) ≡ is_wide e
wide-bare entry.Fresh = refl
wide-bare entry.Keyed = refl
wide-bare entry.Equated = refl
wide-bare (entry.Numbered n at) = refl
wide-bare (entry.Typed n at) = refl
wide-bare (entry.Whole (Some n) at) = refl
wide-bare (entry.Whole None at) = refl
wide-bare entry.Other = refl

grants-core : (a : Class) (s : State) (t : TextToken) → grants a (core s) (spoken t) ≡ allows a s t
unfolding allows
grants-core class.Param s t = rw (param-names-bare, ← map-append bare s.visible (param_names s.op.params), named-bare) refl
grants-core class.Result s t = rw (← map-append bare s.visible s.op.results, named-bare) refl
grants-core class.HeldEquals s t = new-bare s s.held
grants-core class.HeldNumber s t = rw (length-map, new-bare s s.held) refl
grants-core class.EntryComma s t = ap not (wide-bare s.entry)
grants-core class.EntryClose s t = ap not (wide-bare s.entry)
grants-core _ s t = refl

of-core : (a : Class) (t : TextToken) → is_hash_name t.kind ≡ false → of_word a (spoken t) ≡ is_of a t
unfolding is_of number_of type_of
of-core class.Index t n = rw n refl
of-core _ t n = refl

-- ---- lines

chosen : (b : Bool) (l : Line) {x y : Option Line} → x ≡ y → cond b (Some l) x ≡ cond b (Some l) y
chosen true l e = refl
chosen false l e = e

no-hash : (b : Bool) → b ≡ false → (x : Bool) → not b && x ≡ x
no-hash b e x = rw e refl

accepts-core : (a : Class) (s : State) (t : TextToken) → is_hash_name t.kind ≡ false
    → fits a (core s) (spoken t) ≡ (is_of a t && allows a s t)
accepts-core a s t n =
    no-hash (is_hash_name t.kind) n _ ∙ ap₂ (λ (x y : Bool). x && y) (of-core a t n) (grants-core a s t)

first-core : (level : Level) (ls : List Line) (s : State) (t : TextToken) → is_hash_name t.kind ≡ false
    → first_fit ls (core s) (spoken t) ≡ first_line (grammar level) ls s t
first-core level [] s t n = refl
first-core level (l ∷ ls) s t n =
    ap (λ (b : Bool). cond b (Some l) (first_fit ls (core s) (spoken t))) (accepts-core l.first s t n)
    ∙ chosen _ l (first-core level ls s t n)

-- a `#` begins no line
first-hash : (ls : List Line) (c : Core) (w : Word) → is_hash_name w.0 ≡ true → first_fit ls c w ≡ None
first-hash [] c w h = refl
first-hash (l ∷ ls) c w h = rw h (first-hash ls c w h)

pub line-core : (level : Level) (r : Rule) (l : Line) (s : State) (t : TextToken)
    → line_on level r (core s) (spoken t) ≡ Some l → line_at (grammar level) r s t ≡ Some l
line-core level r l s t e =
    by_test (is_hash_name t.kind)
    (λ h. let a : None ≡ Some l = sym (first-hash (lines level r) (core s) (spoken t) h) ∙ e in absurd cc)
    (λ n. sym (first-core level (lines level r) s t n) ∙ e)

none-is : (o : Option Line) → is_none o ≡ true → o ≡ None
none-is None e = refl
none-is (Some l) e = absurd cc

and-both : (a b : Bool) → a && b ≡ true → (a ≡ true) × (b ≡ true)
and-both true b e = (refl, e)
and-both false b e = absurd cc

not-true : (b : Bool) → not b ≡ true → b ≡ false
not-true true e = absurd cc
not-true false e = refl

pub misses-core : (level : Level) (r : Rule) (s : State) (t : TextToken)
    → (not (is_hash_name t.kind) && is_none (line_on level r (core s) (spoken t)) ≡ true) → line_at (grammar level) r s t ≡ None
misses-core level r s t e =
    let b = and-both _ _ e in
    sym (first-core level (lines level r) s t (not-true _ b.0)) ∙ none-is _ b.1

pub fits-core : (level : Level) (a : Class) (s : State) (t : TextToken) → fits a (core s) (spoken t) ≡ true
    → (is_of a t && allows a s t) ≡ true
fits-core level a s t e =
    by_test (is_hash_name t.kind)
    (λ h. let f : false ≡ true = sym (rw h refl) ∙ e in absurd cc)
    (λ n. sym (accepts-core a s t n) ∙ e)

-- ---- words

counts-none : (a : Act) → is_printed a ≡ true → counts_values a ≡ false
counts-none acts.ResultCount e = absurd cc
counts-none _ e = refl

-- From each state with this core the symbols lead over tokens of these words, no name is given a number of values, and in the end
-- stands the module.
pub record Runs (level : Level) (m : Module) (k : List Symbol) (c : Core) (ws : List Word) : Type 0 where
  pub goes : (at : ℕ → ℕ) (joined : ℕ → Bool) (n : ℕ) (s : State) → core s ≡ c
      → (s' : State) × (d : Leads (grammar level) k s (text_tokens at joined n ws) s') × (m ≡ module_of s') × CountsNone level d

-- likewise whatever token was the last
abbrev pub Any : Level → Module → List Symbol → Core → List Word → Type 0
Any level m k c ws = (p : Passing) → Runs level m k (record c { passing = p }) ws

module _ {level : Level} {m : Module} where
  pub word : {a : Class} {k : List Symbol} {c : Core} {w : Word} {ws : List Word} → fits a c w ≡ true
      → Runs level m k (said w c) ws → Runs level m (symbol.Word a ∷ k) c (w ∷ ws)
  word {a} {k} {c} {w} {ws} e r = record {
    goes = λ at joined n s is.
        let t : TextToken = record { kind = w.0; text = w.1; at = at n; joined = joined n } in
        let g = r.goes at joined (n + 1) (record s { last = t }) (ap (said w) is) in
        (g.0, Leads.word a k s t _ g.0 (fits-core level a s t (subst (λ (x : Core). fits a x w ≡ true) (sym is) e)) g.1, g.2, g.3);
  }

  pub act : {a : Act} {k : List Symbol} {c : Core} {ws : List Word} → is_printed a ≡ true
      → Runs level m k (done a c) ws → Runs level m (symbol.Do a ∷ k) c ws
  act {a} {k} {c} {ws} e r = record {
    goes = λ at joined n s is.
        let g = r.goes at joined n (does a s) (core-does a e s ∙ ap (done a) is) in
        (g.0, Leads.act a k s _ g.0 g.1, g.2, (counts-none a e, g.3));
  }

  pub line : {r : Rule} {k : List Symbol} {c : Core} {w : Word} {ws : List Word} (l : Line) → line_on level r c w ≡ Some l
      → Runs level m (l.after ++ k) (said w c) ws → Runs level m (symbol.Rule r ∷ k) c (w ∷ ws)
  line {r} {k} {c} {w} {ws} l e run = record {
    goes = λ at joined n s is.
        let t : TextToken = record { kind = w.0; text = w.1; at = at n; joined = joined n } in
        let g = run.goes at joined (n + 1) (record s { last = t }) (ap (said w) is) in
        (g.0, Leads.line r k s t _ g.0 l (line-core level r l s t (subst (λ (x : Core). line_on level r x w ≡ Some l) (sym is) e)) g.1, g.2, g.3);
  }

  pub skip : {r : Rule} {k : List Symbol} {c : Core} (ws : List Word) → may_end r ≡ true → Misses level r c ws
      → Runs level m k c ws → Runs level m (symbol.Rule r ∷ k) c ws
  skip {r} {k} {c} [] e misses run = record {
    goes = λ at joined n s is. let g = run.goes at joined n s is in (g.0, Leads.nothing r k s _ g.0 e tt g.1, g.2, g.3);
  }
  skip {r} {k} {c} (w ∷ ws) e misses run = record {
    goes = λ at joined n s is.
        let t : TextToken = record { kind = w.0; text = w.1; at = at n; joined = joined n } in
        let g = run.goes at joined n s is in
        (g.0, Leads.nothing r k s _ g.0 e (misses-core level r s t (subst (λ (x : Core). not (is_hash_name w.0) && is_none (line_on level r x w) ≡ true) (sym is) misses)) g.1, g.2, g.3);
  }

-- ---- lists

stop-misses : (h b : Bool) (l : Line) → not h && not b ≡ true → not h && is_none (cond (not h && (b && true)) (Some l) None) ≡ true
stop-misses true b l e = absurd cc
stop-misses false true l e = absurd cc
stop-misses false false l e = refl

hash-misses : (h : Bool) (l : Line) → not h ≡ true → not h && is_none (cond (not h && false) (Some l) None) ≡ true
hash-misses true l e = absurd cc
hash-misses false l e = refl

module _ {level : Level} {m : Module} where
  -- a rule whose one line begins with a comma is over where none comes
  pub stop-skip : {r : Rule} {k : List Symbol} {c : Core} (l : Line) (ws : List Word) → may_end r ≡ true
      → ((c : Core) (w : Word) → line_on level r c w ≡ cond (fits (class.Byte 44) c w) (Some l) None) → Stops ws
      → Runs level m k c ws → Runs level m (symbol.Rule r ∷ k) c ws
  stop-skip l [] e is stops runs = skip [] e tt runs
  stop-skip {c = c} l (w ∷ ws) e is stops runs = skip (w ∷ ws) e (rw (is c w) (stop-misses (is_hash_name w.0) (is_byte 44 w.0) l stops)) runs

  -- no number of a value follows a name
  pub no-index : {k : List Symbol} {c : Core} (ws : List Word) → Plain ws
      → Runs level m k c ws → Runs level m (symbol.Rule rule.Index ∷ k) c ws
  no-index [] plain runs = skip [] refl tt runs
  no-index (w ∷ ws) plain runs = skip (w ∷ ws) refl (hash-misses (is_hash_name w.0) _ plain) runs
