-- The rules of types, of dictionaries and of what is skipped.
use Rattle.std.proofs.Common.{◌≡◌, ℕ, List, [], ◌∷◌, ◌++◌, Option, Some, None, is_some, refl, sym, ap, subst, arith, append_assoc}
use Rattle.std.specs.Prelude.{unwrap_or}
use Rattle.std.proofs.lemmas.List.{append-nil}
use Rattle.op_table.specs.declared.rows.Level.{Level}
use Rattle.ir_forms.specs.declared.types.Ty.{Ty}
use Rattle.ir_forms.specs.declared.types.Ty.TheVariants as ty
use Rattle.module_grammar.specs.declared.symbols.Act.TheVariants as act
use Rattle.module_grammar.specs.declared.symbols.Rule.{Rule}
use Rattle.module_grammar.specs.declared.symbols.Rule.TheVariants as rule
use Rattle.module_grammar.specs.declared.symbols.Symbol.{Symbol}
use Rattle.module_grammar.specs.declared.state.TextToken.{TextToken}
use Rattle.module_grammar.specs.declared.state.DictEntry.{DictEntry}
use Rattle.module_grammar.specs.declared.state.State.{State}
use Rattle.module_grammar.specs.declared.state.DictEntry.TheVariants as entry
use Rattle.module_grammar.specs.State.{does, entry_number, numbered_op, numbered_func, as_number, value_type}
use Rattle.module_grammar.specs.Tokens.{type_of, payload_of}
use Rattle.module_grammar.specs.Rules.{lines, type_then, brackets_then, is_of, is_type_kind, part, doing, dict}
use Rattle.read_forms.proofs.Triples.{Owes, EachOwes, Reached}
use Rattle.module_grammar.proofs.Ends.{and-right}
use Rattle.read_forms.proofs.Outcomes.{TypeRead, TypesRead, NumberRead, with_types, with_dict, triples}
use Rattle.read_forms.proofs.WrittenTypes.{type-written, payload-written}

abbrev pub Lines : Level → Rule → State → Type 0
Lines level r s = EachOwes (triples level) (lines level r) (Reached (triples level) r s) s

-- ---- types

pub type-then-owes : (level : Level) (s : State) (ss : List Symbol) (Q : State → Type 0)
    → ((x : TypeRead) → Owes (triples level) ss Q (record s { read = s.read ++ x.type ∷ []; last = x.last }))
    → EachOwes (triples level) (type_then ss) Q s
unfolding does is_of
type-then-owes level s ss Q f = (
  λ t b a n. f (record { type = unwrap_or (type_of t) ty.Untyped; written = type-written t (and-right (is_type_kind t.kind) (is_some (type_of t)) a); last = t }),
  (
    λ t b a. λ t1 b1 a1. λ t2 b2 a2. λ n. λ t3 b3 a3.
        f (record { type = value_type (payload_of t2); written = payload-written t2 (and-right (is_type_kind t2.kind) (is_some (payload_of t2)) a2); last = t3 }),
    tt,
  ),
)

more-types : (s : State) (x : TypeRead) (y : TypesRead) → TypesRead
more-types s x y = record { types = x.type ∷ y.types; written = (x.written, y.written); last = y.last }

joined : (s : State) (x : TypeRead) (y : TypesRead) → with_types s (more-types s x y) ≡ with_types (record s { read = s.read ++ x.type ∷ []; last = x.last }) y
unfolding more-types
joined s x y = ap (λ (r : List Ty). record s { read = r; last = y.last }) (sym (append_assoc s.read (x.type ∷ []) y.types))

pub type-lines : (level : Level) (s : State) → Lines level rule.Type s
type-lines level s = type-then-owes level s [] (Reached (triples level) rule.Type s) (λ x. (x, refl))

pub types-lines : (level : Level) (s : State) → Lines level rule.Types s
types-lines level s =
    type-then-owes level s (part rule.MoreTypes) (Reached (triples level) rule.Types s) (λ x. (tt, λ y n. (more-types s x y, joined s x y)))

pub more-types-lines : (level : Level) (s : State) → Lines level rule.MoreTypes s
more-types-lines level s = (λ t b a. (tt, λ x n. (tt, λ y m. (more-types s x y, joined s x y))), tt)

one-type : (s : State) (x : TypeRead) → TypesRead
one-type s x = record { types = x.type ∷ []; written = (x.written, tt); last = x.last }

pub result-types-lines : (level : Level) (s : State) → Lines level rule.ResultTypes s
unfolding one-type
result-types-lines level s = (
  λ t b a. (tt, λ x n. λ t2 b2 a2. (record { types = x.types; written = x.written; last = t2 }, refl)),
  type-then-owes level s [] (Reached (triples level) rule.ResultTypes s) (λ x. (one-type s x, refl)),
)

pub no-types : (s : State) → (x : TypesRead) × (with_types s x ≡ s)
no-types s = (record { types = []; written = tt; last = s.last }, ap (λ (r : List Ty). record s { read = r }) (append-nil s.read))

-- ---- what is skipped

pub brackets-then-owes : (level : Level) (s : State) (ss : List Symbol) (Q : State → Type 0)
    → ((t : TextToken) → Owes (triples level) ss Q (record s { last = t })) → EachOwes (triples level) (brackets_then ss) Q s
brackets-then-owes level s ss Q f = (
  λ t b a. (tt, λ x n. λ t2 b2 a2. f t2),
  (λ t b a. (tt, λ x n. λ t2 b2 a2. f t2), (λ t b a. (tt, λ x n. λ t2 b2 a2. f t2), (λ t b a. (tt, λ x n. λ t2 b2 a2. f t2), tt))),
)

pub inside-lines : (level : Level) (s : State) → Lines level rule.Inside s
inside-lines level s = (
  λ t b a. (tt, λ x n. (x, refl)),
  brackets-then-owes level s (part rule.Inside) (Reached (triples level) rule.Inside s) (λ t. (tt, λ x n. (x, refl))),
)

pub module-attributes-lines : (level : Level) (s : State) → Lines level rule.ModuleAttributes s
module-attributes-lines level s = (λ t b a. λ t1 b1 a1. (tt, λ x n. λ t2 b2 a2. (t2, refl)), tt)

pub dropped-dict-lines : (level : Level) (s : State) → Lines level rule.DroppedDict s
dropped-dict-lines level s = (λ t b a. (tt, λ x n. λ t2 b2 a2. (t2, refl)), tt)

pub location-lines : (level : Level) (s : State) → Lines level rule.Location s
location-lines level s = (λ t b a. λ t1 b1 a1. (tt, λ x n. λ t2 b2 a2. (t2, refl)), tt)

-- ---- dictionaries

pub dict-lines : (level : Level) (s : State) → Lines level rule.Dict s
unfolding does
dict-lines level s = (
  λ t b a. λ n. (record { last = t; entry = entry.Fresh; entry_at = entry_number s.entry s.entry_at }, refl),
  (
    λ t b a. λ n. (tt, λ x m. (x, refl)),
    (
      λ t b a. λ n. (tt, λ x m. (x, refl)),
      brackets-then-owes level s (doing act.OtherEntry ++ part rule.Dict) (Reached (triples level) rule.Dict s) (λ t. λ n. (tt, λ x m. (x, refl))),
    ),
  ),
)

pub op-numbered : (level : Level) (s : State) (o : Option ℕ) (l : TextToken) (e : DictEntry)
    → Reached (triples level) rule.OpDict s (numbered_op o (with_dict (record { last = l; entry = e; entry_at = o }) s))
op-numbered level s None l e = (record { dict = record { last = l; entry = e; entry_at = None }; at = s.op.at; fits = λ h. h }, refl)
op-numbered level s (Some n) l e = (record { dict = record { last = l; entry = e; entry_at = Some n }; at = as_number n; fits = λ h. omega arith }, refl)

-- a dictionary that may give the operation's number
pub dict-owes : (level : Level) (s : State) (ss : List Symbol) (Q : State → Type 0)
    → ((x : NumberRead s.op.at) → Owes (triples level) ss Q (with_dict x.dict (record s { op = record (s.op) { at = x.at } })))
    → Owes (triples level) (dict ++ doing act.OpAt ++ ss) Q s
unfolding does
dict-owes level s ss Q f = λ n. (
  tt,
  λ x m. λ i.
      let r = op-numbered level s x.entry_at x.last x.entry in subst (λ (z : State). Owes (triples level) ss Q z) r.1 (f r.0),
)

func-numbered : (level : Level) (s : State) (o : Option ℕ) (l : TextToken) (e : DictEntry)
    → Reached (triples level) rule.FuncAttributes s (numbered_func o (with_dict (record { last = l; entry = e; entry_at = o }) s))
func-numbered level s None l e = (record { dict = record { last = l; entry = e; entry_at = None }; at = s.func.at; fits = λ h. h }, refl)
func-numbered level s (Some n) l e = (record { dict = record { last = l; entry = e; entry_at = Some n }; at = as_number n; fits = λ h. omega arith }, refl)

pub op-dict-lines : (level : Level) (s : State) → Lines level rule.OpDict s
unfolding does
op-dict-lines level s = (λ t b a. λ n. (tt, λ x m. λ i. op-numbered level s x.entry_at x.last x.entry), tt)

pub func-attributes-lines : (level : Level) (s : State) → Lines level rule.FuncAttributes s
unfolding does
func-attributes-lines level s = (λ t b a. λ t1 b1 a1. λ n. (tt, λ x m. λ i. func-numbered level s x.entry_at x.last x.entry), tt)
