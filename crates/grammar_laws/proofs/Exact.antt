-- Where the name of a form fits, or a token that begins a type, one that is none is answered as unknown.
use Rattle.std.proofs.lemmas.Bool.Decides.{Decides-eqb}
use Rattle.std.proofs.Common.{◌≡◌, ℕ, Bool, true, false, cond, ◌&&◌, ◌||◌, ◌-◌, List, [], ◌∷◌, ◌++◌, Option, Some, None, Ok, Err, is_some, refl, sym, ap, ◌∙◌, subst}
use Rattle.mlir_lex.specs.declared.kinds.TokenKind.{TokenKind}
use Rattle.mlir_lex.specs.declared.kinds.TokenKind.TheVariants as kind
use Rattle.op_table.specs.declared.rows.Level.{Level}
use Rattle.op_table.specs.declared.rows.Level.TheVariants.{Source, Checked, Split, Low}
use Rattle.module_grammar.specs.declared.symbols.Class.{Class}
use Rattle.module_grammar.specs.declared.symbols.Class.TheVariants as class
use Rattle.module_grammar.specs.declared.symbols.Rule.{Rule}
use Rattle.module_grammar.specs.declared.symbols.Rule.TheVariants as rule
use Rattle.module_grammar.specs.declared.symbols.Symbol.{Symbol}
use Rattle.module_grammar.specs.declared.symbols.Symbol.TheVariants as symbol
use Rattle.module_grammar.specs.declared.sought.Sought.{Sought}
use Rattle.module_grammar.specs.declared.sought.Sought.TheVariants as sought
use Rattle.module_grammar.specs.declared.faults.TextLimits.{TextLimits}
use Rattle.module_grammar.specs.declared.faults.GrammarFault.{GrammarFault}
use Rattle.module_grammar.specs.declared.faults.GrammarFault.TheVariants as fault
use Rattle.module_grammar.specs.declared.state.TextToken.{TextToken}
use Rattle.module_grammar.specs.declared.state.State.{State}
use Rattle.module_grammar.specs.Engine.{Place, Begins, first_then, good_then, line_at, step}
use Rattle.module_grammar.specs.State.{at_start, does}
use Rattle.module_grammar.specs.Rules.{grammar, lines, may_end, is_of, allows, is_name, is_byte}
use Rattle.module_grammar.specs.Tokens.{is_number_kind, number_of, type_of}
use Rattle.module_grammar.specs.Endings.{endings, usable, follow, is_among, same_class, start}
use Rattle.module_grammar.specs.Texts.{whole}
use Rattle.module_grammar.specs.Faults.{seeks, is_op_class, is_type_class, any_first, fits_first, settled, reached, walk, parsed, module_or, fault_there, held_past, refusal, held_fault, names_fault, fault_or, entry_fault, token_fault, name_past, open_name_past, names_open, results_open, counts_held, counts_values, is_unknown_op, is_unknown_type, names_no_op, names_form, IsWithin, IsUnknown, TellsUnknownOp, FindsUnknownType}
use Rattle.module_grammar.proofs.Runs.{by_test, by_option, leads-run, run-none, step-line, step-nothing, step-refused, step-word}
use Rattle.module_grammar.proofs.Source.{whole-good}
use Rattle.module_grammar.proofs.Ends.{and-left, and-right, and-both}
use Rattle.grammar_laws.proofs.Texts.{text-begins, begins-text}
use Rattle.module_grammar.proofs.Grows.{Grew, stays, grew-both, does-grew}
use Rattle.module_grammar.proofs.Walks.{begins-from, next_state, none-passed, within-before, walk-on, walk-refused}
use Rattle.grammar_laws.proofs.Unknown.{reached-some, reached-none, reached-good, begins-there, told-unknown-op}
use Rattle.grammar_laws.proofs.Fitting.{or-left, only, step-sought}
use Rattle.grammar_laws.proofs.TokenClasses.{op-class, type-class}

-- ---- what a token makes of the state, limits count no less

word-grew : (s : State) (t : TextToken) → Grew s (record s { last = t })
word-grew s t = let h = stays s in record { begun = h.begun; functions = h.functions; deepest = h.deepest; counted = h.counted }

step-grew : (level : Level) (k : List Symbol) (s : State) (t : TextToken) (p : Place State) → step (grammar level) k s t ≡ Some p → Grew s p.state
step-grew level [] s t p e = absurd cc
step-grew level (symbol.Word c ∷ k) s t p e =
    by_test ((grammar level).accepts c s t)
    (λ y. let q : Place State = record { left = k; state = record s { last = t } } in
    let a : Some q ≡ Some p = sym (step-word (grammar level) c k s t y) ∙ e in
    let same : q ≡ p = cc in subst (λ (x : Place State). Grew s x.state) same (word-grew s t))
    (λ n. let a : None ≡ Some p =
    subst (λ b. cond {A = Option (Place State)} b (Some (record { left = k; state = record s { last = t } })) None ≡ Some p) n e in absurd cc)
step-grew level (symbol.Do a ∷ k) s t p e = grew-both s (does a s) p.state (does-grew a s) (step-grew level k (does a s) t p e)
step-grew level (symbol.Rule r ∷ k) s t p e =
    by_option (line_at (grammar level) r s t)
    (λ l f. let q : Place State = record { left = l.after ++ k; state = record s { last = t } } in
    let a : Some q ≡ Some p = sym (step-line (grammar level) r k s t l f) ∙ e in
    let same : q ≡ p = cc in subst (λ (x : Place State). Grew s x.state) same (word-grew s t))
    (λ f. by_test (may_end r)
    (λ y. step-grew level k s t p (sym (step-nothing (grammar level) r k s t y f) ∙ e))
    (λ n. let a : None ≡ Some p = sym (step-refused (grammar level) r k s t n f) ∙ e in absurd cc))

settle-grew : (k : List Symbol) (s : State) → Grew s (settled k s).state
settle-grew [] s = stays s
settle-grew (symbol.Do a ∷ k) s = grew-both s (does a s) (settled k (does a s)).state (does-grew a s) (settle-grew k (does a s))
settle-grew (symbol.Word c ∷ k) s = stays s
settle-grew (symbol.Rule r ∷ k) s = stays s

reached-grew : (level : Level) (front : List TextToken) (k : List Symbol) (s : State) (q : Place State) → reached level k s front ≡ Some q → Grew s q.state
reached-grew level [] k s q e =
    let same : record { left = k; state = s } ≡ q = cc in subst (λ (x : Place State). Grew s x.state) same (stays s)
reached-grew level (u ∷ front) k s q e =
    by_option (step (grammar level) k s u)
    (λ p f. grew-both s p.state q.state (step-grew level k s u p f)
    (grew-both p.state (next_state level p) q.state (settle-grew p.left p.state)
    (reached-grew level front (settled p.left p.state).left (next_state level p) q (reached-some level k s u front p q f e))))
    (λ f. reached-none level k s u front q f e)

-- ---- tokens within the limits are walked to the place that they lead to

walks-there : (limits : TextLimits) (level : Level) (front : List TextToken) (k : List Symbol) (s : State) (q : Place State) (ts : List TextToken)
    → reached level k s front ≡ Some q → IsWithin limits q.state
    → walk limits level k s (front ++ ts) ≡ walk limits level q.left q.state ts
walks-there limits level [] k s q ts e h =
    let same : record { left = k; state = s } ≡ q = cc in
    ap (λ (x : Place State). walk limits level x.left x.state ts) same
walks-there limits level (u ∷ front) k s q ts e h =
    by_option (step (grammar level) k s u)
    (λ p f. let r = reached-some level k s u front p q f e in
    let g = reached-grew level front (settled p.left p.state).left (next_state level p) q r in
    walk-on limits level k s u (front ++ ts) p f
    (none-passed limits s (next_state level p) u (within-before limits (next_state level p) q.state g h))
    ∙ walks-there limits level front (settled p.left p.state).left (next_state level p) q ts r h)
    (λ f. reached-none level k s u front q f e)

-- a token with which a text begins is taken at the place that those before it lead to
taken-here : (level : Level) (k : List Symbol) (s : State) (t : TextToken) → Begins (grammar level) k s (t ∷ [])
    → (p : Place State) × (step (grammar level) k s t ≡ Some p)
taken-here level k s t b =
    by_option (step (grammar level) k s t)
    (λ p f. (p, f))
    (λ f. let a : Err (t ∷ b.0) ≡ Ok b.1 = sym (run-none (grammar level) k s t b.0 f) ∙ leads-run (grammar level) k s (t ∷ b.0) b.1 b.2 in absurd cc)

pub taken-there : (level : Level) (front : List TextToken) (k : List Symbol) (s : State) (q : Place State) (t : TextToken)
    → reached level k s front ≡ Some q → Begins (grammar level) k s (front ++ t ∷ [])
    → (p : Place State) × (step (grammar level) q.left q.state t ≡ Some p)
taken-there level [] k s q t e b =
    let same : record { left = k; state = s } ≡ q = cc in
    subst (λ (x : Place State). (p : Place State) × (step (grammar level) x.left x.state t ≡ Some p)) same (taken-here level k s t b)
taken-there level (u ∷ front) k s q t e b =
    by_option (step (grammar level) k s u)
    (λ p f. taken-there level front (settled p.left p.state).left (next_state level p) q t (reached-some level k s u front p q f e)
    (begins-from level k s u (front ++ t ∷ []) p f b))
    (λ f. reached-none level k s u front q f e)

pub refused-there : (level : Level) (front : List TextToken) (q : Place State) (t : TextToken) → reached level whole at_start front ≡ Some q
    → (Begins (grammar level) whole at_start (front ++ t ∷ []) → ⊥) → step (grammar level) q.left q.state t ≡ None
refused-there level front q t e h =
    by_option (step (grammar level) q.left q.state t)
    (λ p f. absurd (h (begins-there level front whole at_start q t (whole-good level) e (ap is_some f))))
    (λ f. f)

-- ---- no action stands first

abbrev pub begins_still : List Symbol → Bool
begins_still (symbol.Do a ∷ k) = false
begins_still _ = true

settles : (k : List Symbol) (s : State) → begins_still (settled k s).left ≡ true
settles [] s = refl
settles (symbol.Do a ∷ k) s = settles k (does a s)
settles (symbol.Word c ∷ k) s = refl
settles (symbol.Rule r ∷ k) s = refl

pub reached-still : (level : Level) (front : List TextToken) (k : List Symbol) (s : State) (q : Place State) → begins_still k ≡ true
    → reached level k s front ≡ Some q → begins_still q.left ≡ true
reached-still level [] k s q h e =
    let same : record { left = k; state = s } ≡ q = cc in subst (λ (x : Place State). begins_still x.left ≡ true) same h
reached-still level (u ∷ front) k s q h e =
    by_option (step (grammar level) k s u)
    (λ p f. reached-still level front (settled p.left p.state).left (next_state level p) q (settles p.left p.state) (reached-some level k s u front p q f e))
    (λ f. reached-none level k s u front q f e)

-- ---- the class of the word with which a place is completed tells what fits there

pub either : (a b : Bool) → a || b ≡ true → a ≡ false → b ≡ true
either true b h n = absurd cc
either false b h n = h

byte-class : (c : Class) (b : ℕ) → same_class c (class.Byte b) ≡ true → c ≡ class.Byte b
byte-class (class.Byte a) b e = ap (λ (x : ℕ). class.Byte x) ((Decides-eqb a b).0 e)
byte-class _ b e = absurd cc

abbrev pub first : Level → List Symbol → Class
first level k = first_then (grammar level) (endings level) k class.End

abbrev pub IsGood : Level → List Symbol → Type 0
IsGood level k = good_then (grammar level) (endings level) k class.End ≡ true

-- where a word that is sought fits first, the first class passes a test that each such word and rule passes
pub first-sought : (level : Level) (w : Sought) (test : Class → Bool)
    → ((c : Class) → usable c ≡ true → seeks w c ≡ true → test c ≡ true)
    → ((r : Rule) → any_first (seeks w) (lines level r) ≡ true → (c : Class) → is_among c (follow r) ≡ true
    → test (cond (may_end r) c (start level r).first) ≡ true)
    → (k : List Symbol) → IsGood level k → fits_first level w k ≡ true → test (first level k) ≡ true
first-sought level w test in_words in_rules [] g f = absurd cc
first-sought level w test in_words in_rules (symbol.Word c ∷ k) g f = in_words c (and-left (usable c) _ g) f
first-sought level w test in_words in_rules (symbol.Do a ∷ k) g f = first-sought level w test in_words in_rules k g f
first-sought level w test in_words in_rules (symbol.Rule r ∷ k) g f =
    by_test (any_first (seeks w) (lines level r))
    (λ y. in_rules r y (first level k) (and-left _ _ g))
    (λ n. let h = either (any_first (seeks w) (lines level r)) (may_end r && fits_first level w k) f n in
    subst (λ (b : Bool). test (cond b (first level k) (start level r).first) ≡ true) (sym (and-left (may_end r) _ h))
    (first-sought level w test in_words in_rules k (and-right (is_among (first level k) (follow r)) _ g) (and-right (may_end r) _ h)))

-- ---- operations

abbrev ends_ops : Class → Bool
ends_ops c = same_class c (class.Byte 125) || is_op_class c

op-words : (c : Class) → usable c ≡ true → seeks sought.Op c ≡ true → ends_ops c ≡ true
op-words (class.OpName k) u e = absurd cc
op-words _ u e = absurd cc

op-rules : (level : Level) (r : Rule) → any_first (seeks sought.Op) (lines level r) ≡ true → (c : Class) → is_among c (follow r) ≡ true
    → ends_ops (cond (may_end r) c (start level r).first) ≡ true
unfolding is_of allows
op-rules Source rule.Body e c h = or-left _ _ (only _ h)
op-rules Checked rule.Body e c h = or-left _ _ (only _ h)
op-rules Split rule.Body e c h = or-left _ _ (only _ h)
op-rules Low rule.Body e c h = or-left _ _ (only _ h)
op-rules Source rule.Form e c h = refl
op-rules Checked rule.Form e c h = refl
op-rules Split rule.Form e c h = refl
op-rules Low rule.Form e c h = refl
op-rules level _ e c h = absurd cc

op-first : (level : Level) (k : List Symbol) → IsGood level k → fits_first level sought.Op k ≡ true → ends_ops (first level k) ≡ true
op-first level = first-sought level sought.Op ends_ops op-words (op-rules level)

-- ---- types

abbrev ends_types : Class → Bool
ends_types c = same_class c (class.Byte 41) || (same_class c (class.Byte 40) || is_type_class c)

type-words : (c : Class) → usable c ≡ true → seeks sought.Type c ≡ true → ends_types c ≡ true
type-words class.PlainType u e = refl
type-words class.ValueType u e = refl
type-words class.Payload u e = refl
type-words class.MemrefType u e = refl
type-words class.GroupType u e = refl
type-words class.TruthType u e = refl
type-words _ u e = absurd cc

type-rules : (level : Level) (r : Rule) → any_first (seeks sought.Type) (lines level r) ≡ true → (c : Class) → is_among c (follow r) ≡ true
    → ends_types (cond (may_end r) c (start level r).first) ≡ true
unfolding is_of allows number_of type_of
type-rules level rule.Type e c h = refl
type-rules level rule.Types e c h = or-left _ _ (only _ h)
type-rules level rule.ResultTypes e c h = refl
type-rules level rule.AfterHeldColon e c h = refl
type-rules level rule.BranchTypes e c h = refl
type-rules level rule.BranchTypeList e c h = refl
type-rules Source rule.Body e c h = absurd cc
type-rules Checked rule.Body e c h = absurd cc
type-rules Split rule.Body e c h = absurd cc
type-rules Low rule.Body e c h = absurd cc
type-rules Source rule.Form e c h = absurd cc
type-rules Checked rule.Form e c h = absurd cc
type-rules Split rule.Form e c h = absurd cc
type-rules Low rule.Form e c h = absurd cc
type-rules level _ e c h = absurd cc

type-first : (level : Level) (k : List Symbol) → IsGood level k → fits_first level sought.Type k ≡ true → ends_types (first level k) ≡ true
type-first level = first-sought level sought.Type ends_types type-words (type-rules level)

-- ---- the end of an entry

abbrev is_entry_word : Class → Bool
is_entry_word class.EntryWord = true
is_entry_word _ = false

entry-words : (c : Class) → usable c ≡ true → seeks sought.EntryEnd c ≡ true → is_entry_word c ≡ true
entry-words class.EntryClose u e = absurd cc
entry-words _ u e = absurd cc

entry-rules : (level : Level) (r : Rule) → any_first (seeks sought.EntryEnd) (lines level r) ≡ true → (c : Class) → is_among c (follow r) ≡ true
    → is_entry_word (cond (may_end r) c (start level r).first) ≡ true
unfolding is_of allows
entry-rules level rule.Dict e c h = refl
entry-rules Source rule.Body e c h = absurd cc
entry-rules Checked rule.Body e c h = absurd cc
entry-rules Split rule.Body e c h = absurd cc
entry-rules Low rule.Body e c h = absurd cc
entry-rules Source rule.Form e c h = absurd cc
entry-rules Checked rule.Form e c h = absurd cc
entry-rules Split rule.Form e c h = absurd cc
entry-rules Low rule.Form e c h = absurd cc
entry-rules level _ e c h = absurd cc

entry-first : (level : Level) (k : List Symbol) → IsGood level k → fits_first level sought.EntryEnd k ≡ true → is_entry_word (first level k) ≡ true
entry-first level = first-sought level sought.EntryEnd is_entry_word entry-words (entry-rules level)

-- ---- names on the left

abbrev ends_names : Class → Bool
ends_names class.Result = true
ends_names class.Number = true
ends_names c = same_class c (class.Byte 61)

equals-next : (c : Class) → is_among c (class.Byte 61 ∷ []) ≡ true → ends_names c ≡ true
equals-next (class.Byte b) h = only _ h
equals-next _ h = absurd cc

names-first : (level : Level) (k : List Symbol) → IsGood level k → begins_still k ≡ true → names_open k ≡ true → ends_names (first level k) ≡ true
names-first level [] g b o = absurd cc
names-first level (symbol.Do a ∷ k) g b o = absurd cc
names-first level (symbol.Word class.Result ∷ k) g b o = refl
names-first level (symbol.Word class.Number ∷ k) g b o = refl
names-first level (symbol.Word _ ∷ k) g b o = absurd cc
names-first level (symbol.Rule rule.Results ∷ k) g b o = equals-next (first level k) (and-left _ _ g)
names-first level (symbol.Rule rule.MoreResults ∷ k) g b o = equals-next (first level k) (and-left _ _ g)
names-first level (symbol.Rule _ ∷ k) g b o = absurd cc

-- ---- what doesn't fit at one place

op-no-names : (c : Class) → is_op_class c ≡ true → ends_names c ≡ false
op-no-names (class.OpName k) e = refl
op-no-names _ e = absurd cc

op-no-types : (c : Class) → is_op_class c ≡ true → ends_types c ≡ false
op-no-types (class.OpName k) e = refl
op-no-types _ e = absurd cc

ops-no-names : (c : Class) → ends_ops c ≡ true → ends_names c ≡ false
ops-no-names c e =
    by_test (same_class c (class.Byte 125))
    (λ y. subst (λ (x : Class). ends_names x ≡ false) (sym (byte-class c 125 y)) refl)
    (λ n. op-no-names c (either (same_class c (class.Byte 125)) (is_op_class c) e n))

ops-no-types : (c : Class) → ends_ops c ≡ true → ends_types c ≡ false
ops-no-types c e =
    by_test (same_class c (class.Byte 125))
    (λ y. subst (λ (x : Class). ends_types x ≡ false) (sym (byte-class c 125 y)) refl)
    (λ n. op-no-types c (either (same_class c (class.Byte 125)) (is_op_class c) e n))

entry-no-types : (c : Class) → is_entry_word c ≡ true → ends_types c ≡ false
entry-no-types class.EntryWord e = refl
entry-no-types _ e = absurd cc

names-no-types : (c : Class) → ends_names c ≡ true → ends_types c ≡ false
names-no-types class.Result e = refl
names-no-types class.Number e = refl
names-no-types (class.Byte b) e = subst (λ (x : Class). ends_types x ≡ false) (sym (byte-class (class.Byte b) 61 e)) refl
names-no-types _ e = absurd cc

pub not-both : (a : Bool) → (a ≡ true → ⊥) → a ≡ false
not-both true h = absurd (h refl)
not-both false h = refl

op-names : (level : Level) (k : List Symbol) → IsGood level k → begins_still k ≡ true → fits_first level sought.Op k ≡ true → names_open k ≡ false
op-names level k g b f =
    not-both (names_open k)
    (λ o. let a : true ≡ false = sym (names-first level k g b o) ∙ ops-no-names (first level k) (op-first level k g f) in absurd cc)

pub type-names : (level : Level) (k : List Symbol) → IsGood level k → begins_still k ≡ true → fits_first level sought.Type k ≡ true → names_open k ≡ false
type-names level k g b f =
    not-both (names_open k)
    (λ o. let a : true ≡ false = sym (type-first level k g f) ∙ names-no-types (first level k) (names-first level k g b o) in absurd cc)

pub type-ops : (level : Level) (k : List Symbol) → IsGood level k → fits_first level sought.Type k ≡ true → fits_first level sought.Op k ≡ false
type-ops level k g f =
    not-both (fits_first level sought.Op k)
    (λ o. let a : true ≡ false = sym (type-first level k g f) ∙ ops-no-types (first level k) (op-first level k g o) in absurd cc)

pub type-entries : (level : Level) (k : List Symbol) → IsGood level k → fits_first level sought.Type k ≡ true → fits_first level sought.EntryEnd k ≡ false
type-entries level k g f =
    not-both (fits_first level sought.EntryEnd k)
    (λ o. let a : true ≡ false = sym (type-first level k g f) ∙ entry-no-types (first level k) (entry-first level k g o) in absurd cc)

-- ---- the fault that is answered there

and-false : (a b : Bool) → b ≡ false → a && b ≡ false
and-false true b e = e
and-false false b e = refl

pub and-right-false : (a b : Bool) → a ≡ false → a && b ≡ false
and-right-false true b e = absurd cc
and-right-false false b e = refl

name-is : (k : TokenKind) → is_name k ≡ true → (is_number_kind k ≡ false) × (is_byte 44 k || is_byte 125 k ≡ false)
name-is kind.Name e = (refl, refl)
name-is _ e = absurd cc

and-three : (a b c : Bool) → a ≡ true → (b && c) ≡ true → (a && b && c) ≡ true
and-three true b c e f = f
and-three false b c e f = absurd cc

pub first-of-three : (a b c : Bool) → a ≡ false → (a && b && c) ≡ false
first-of-three true b c e = absurd cc
first-of-three false b c e = refl

second-of-four : (a b c d : Bool) → b ≡ false → (a && b && c && d) ≡ false
second-of-four true b c d e = first-of-three b c d e
second-of-four false b c d e = refl

-- where the token is no number and no names are open, no name held or open passes a limit
no-held : (level : Level) (k : List Symbol) (s : State) (t : TextToken) → is_number_kind t.kind ≡ false → counts_held level k s t ≡ false
no-held level k s t n = second-of-four (fits_first level sought.HeldNumber k) (is_number_kind t.kind) _ _ n

no-open : (limits : TextLimits) (k : List Symbol) (s : State) (t : TextToken) → is_number_kind t.kind ≡ false → names_open k ≡ false
    → open_name_past limits k s t ≡ None
no-open limits k s t n o =
    let e : results_open k s ≡ [] = rw o refl in
    let f : name_past (results_open k s) (limits.values - s.counted) ≡ None = rw e refl in
    let g : counts_values k && is_number_kind t.kind ≡ false = and-false (counts_values k) (is_number_kind t.kind) n in
    rw f (rw g refl)

pub no-entry : (level : Level) (k : List Symbol) (s : State) (t : TextToken) → fits_first level sought.EntryEnd k && (is_byte 44 t.kind || is_byte 125 t.kind) ≡ false
    → entry_fault level k s t ≡ None
no-entry level k s t e = rw e refl

pub told : (a : Bool) (held : GrammarFault) (o : Option ℕ) (e : Option GrammarFault) (f : GrammarFault) → a ≡ false → o ≡ None → e ≡ None
    → cond a held (names_fault o (fault_or e f)) ≡ f
told false held None None f a o e = refl
told true held o e f a p q = absurd cc
told false held (Some x) e f a p q = absurd cc
told false held None (Some x) f a p q = absurd cc

fault-told : (limits : TextLimits) (level : Level) (k : List Symbol) (s : State) (t : TextToken) (ts : List TextToken) → is_number_kind t.kind ≡ false
    → names_open k ≡ false → fits_first level sought.EntryEnd k && (is_byte 44 t.kind || is_byte 125 t.kind) ≡ false
    → fault_there limits level k s t ts ≡ token_fault limits level k s t ts
fault-told limits level k s t ts n o e =
    told (counts_held level k s t) (held_fault limits s t) (open_name_past limits k s t) (entry_fault level k s t) (token_fault limits level k s t ts)
    (no-held level k s t n) (no-open limits k s t n o) (no-entry level k s t e)

op-told : (limits : TextLimits) (level : Level) (k : List Symbol) (s : State) (t : TextToken) (ts : List TextToken) → is_unknown_op level k t ≡ true
    → token_fault limits level k s t ts ≡ fault.UnknownOp t.at
op-told limits level k s t ts u = rw u refl

pub type-told : (limits : TextLimits) (level : Level) (k : List Symbol) (s : State) (t : TextToken) (ts : List TextToken) → is_unknown_op level k t ≡ false
    → is_unknown_type level k t ≡ true → token_fault limits level k s t ts ≡ fault.UnknownType t.at
type-told limits level k s t ts n u = rw n (rw u refl)

-- ---- the laws

pub parsed-there : (limits : TextLimits) (level : Level) (front : List TextToken) (q : Place State) (t : TextToken) (rest : List TextToken) (f : GrammarFault)
    → reached level whole at_start front ≡ Some q → IsWithin limits q.state → held_past limits q.left q.state ≡ None
    → step (grammar level) q.left q.state t ≡ None → fault_there limits level q.left q.state t rest ≡ f
    → parsed limits level (front ++ t ∷ rest) ≡ Err f
parsed-there limits level front q t rest f r h n e g =
    let same : refusal limits level q.left q.state t rest ≡ fault_there limits level q.left q.state t rest = rw n refl in
    ap module_or (walks-there limits level front whole at_start q (t ∷ rest) r h ∙ walk-refused limits level q.left q.state t rest e)
    ∙ ap (λ (x : GrammarFault). Err x) (same ∙ g)

pub unknown-op : (limits : TextLimits) (level : Level) (ts : List TextToken) (at : ℕ)
    → IsUnknown limits level ts at (names_no_op level) (names_form level) → parsed limits level ts ≡ Err (fault.UnknownOp at)
unknown-op limits level ts at u =
    let q = u.within.place in
    let r = u.within.leads in
    let good = reached-good level u.front whole at_start q (whole-good level) r in
    let still = reached-still level u.front whole at_start q refl r in
    let refuses = refused-there level u.front q u.token r (λ b. u.refused (text-begins level (u.front ++ u.token ∷ []) b)) in
    let takes = taken-there level u.front whole at_start q u.other r (begins-text level (u.front ++ u.other ∷ []) u.goes_on) in
    let named = and-left (is_name u.token.kind) _ u.is_wrong in
    let fits = step-sought level sought.Op u.other u.token (op-class level u.other u.token u.is_right named) q.left q.state takes.0 takes.1 refuses in
    let plain = name-is u.token.kind named in
    subst (λ (x : List TextToken). parsed limits level x ≡ Err (fault.UnknownOp at)) (sym u.parts)
    (parsed-there limits level u.front q u.token u.rest (fault.UnknownOp at) r u.within.within u.within.held refuses
    (fault-told limits level q.left q.state u.token u.rest plain.0 (op-names level q.left good still fits)
    (and-false (fits_first level sought.EntryEnd q.left) _ plain.1)
    ∙ op-told limits level q.left q.state u.token u.rest (and-three _ _ _ fits u.is_wrong)
    ∙ ap (λ (x : ℕ). fault.UnknownOp x) u.here))

pub finds-unknown-type : FindsUnknownType
finds-unknown-type limits level ts at u number x x_named x_refused =
    let q = u.within.place in
    let r = u.within.leads in
    let good = reached-good level u.front whole at_start q (whole-good level) r in
    let still = reached-still level u.front whole at_start q refl r in
    let refuses = refused-there level u.front q u.token r (λ b. u.refused (text-begins level (u.front ++ u.token ∷ []) b)) in
    let takes = taken-there level u.front whole at_start q u.other r (begins-text level (u.front ++ u.other ∷ []) u.goes_on) in
    let x_refuses = refused-there level u.front q x r (λ b. x_refused (text-begins level (u.front ++ x ∷ []) b)) in
    let fits = step-sought level sought.Type u.other x (type-class u.other x u.is_right x_named) q.left q.state takes.0 takes.1 x_refuses in
    subst (λ (y : List TextToken). parsed limits level y ≡ Err (fault.UnknownType at)) (sym u.parts)
    (parsed-there limits level u.front q u.token u.rest (fault.UnknownType at) r u.within.within u.within.held refuses
    (fault-told limits level q.left q.state u.token u.rest number (type-names level q.left good still fits)
    (and-right-false (fits_first level sought.EntryEnd q.left) _ (type-entries level q.left good fits))
    ∙ type-told limits level q.left q.state u.token u.rest (first-of-three (fits_first level sought.Op q.left) _ _ (type-ops level q.left good fits))
    (and-both _ _ fits u.is_wrong)
    ∙ ap (λ (y : ℕ). fault.UnknownType y) u.here))

pub tells-unknown-op : TellsUnknownOp
tells-unknown-op limits level ts at = (told-unknown-op limits level ts at, unknown-op limits level ts at)
