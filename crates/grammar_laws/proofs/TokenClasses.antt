-- Which classes have a name of a form, or a token that begins a type, but not each name.
use Rattle.std.proofs.Common.{◌≡◌, ℕ, Bool, true, false, cond, not, ◌&&◌, List, [], ◌∷◌, Option, Some, None, is_some, bytes_eq, codes, option_map, refl, sym, ap, subst}
use Rattle.std.proofs.lemmas.Slice.Eq.{bytes_eq-Decides}
use Rattle.mlir_lex.specs.declared.kinds.TokenKind.{TokenKind}
use Rattle.mlir_lex.specs.declared.kinds.TokenKind.TheVariants as kind
use Rattle.op_table.specs.declared.kind.OpKind.{OpKind}
use Rattle.op_table.specs.declared.kind.OpKind.TheVariants as op
use Rattle.op_table.specs.declared.rows.Level.{Level}
use Rattle.op_table.specs.declared.rows.Level.TheVariants.{Source, Checked, Split, Low}
use Rattle.ir_forms.specs.declared.types.Ty.{Ty}
use Rattle.ir_forms.specs.declared.types.Ty.TheVariants as ty
use Rattle.module_grammar.specs.declared.symbols.Class.{Class}
use Rattle.module_grammar.specs.declared.symbols.Class.TheVariants as class
use Rattle.module_grammar.specs.declared.symbols.Keyword.{Keyword}
use Rattle.module_grammar.specs.declared.symbols.Keyword.TheVariants as key
use Rattle.module_grammar.specs.declared.sought.Sought.TheVariants as sought
use Rattle.module_grammar.specs.declared.state.TextToken.{TextToken}
use Rattle.module_grammar.specs.declared.state.State.{State}
use Rattle.module_grammar.specs.Tokens.{word_of, is_name_of, among, kind_among, widths, number_type, type_of, payload_of_type, is_memref_type, is_group_type, is_truth_type, predicates}
use Rattle.module_grammar.specs.Rules.{kinds_at, plain_kinds, is_name, is_of, allows, is_type_kind}
use Rattle.module_grammar.specs.Faults.{seeks, names_form, begins_type}
use Rattle.module_grammar.proofs.Runs.{by_test}
use Rattle.module_grammar.proofs.Ends.{and-left, and-right}
use Rattle.grammar_laws.proofs.Fitting.{only}

-- ---- names

abbrev name_tok : List ℕ → ℕ → Bool → TextToken
name_tok text at joined = record { kind = kind.Name; text = text; at = at; joined = joined }

name-kind : (k : TokenKind) → is_name k ≡ true → k ≡ kind.Name
name-kind kind.Name e = refl
name-kind _ e = absurd cc

as-name : (t : TextToken) → is_name t.kind ≡ true → t ≡ name_tok t.text t.at t.joined
as-name t e = ap (λ (x : TokenKind). record t { kind = x }) (name-kind t.kind e)

bytes-same : (xs ys : List ℕ) → bytes_eq xs ys ≡ true → xs ≡ ys
bytes-same xs ys e = (bytes_eq-Decides xs ys).0 e

-- ---- texts that name no form

abbrev is_form : List ℕ → Bool
is_form text = is_some (kind_among (op.AioTryCall ∷ plain_kinds) text)

abbrev no_form : List ℕ → Bool
no_form text = not (is_form text)

form-kept : (level : Level) (text : List ℕ) → is_some (kind_among (kinds_at level) text) ≡ true → is_form text ≡ true
form-kept Split text e = e
form-kept Low text e = e
form-kept Source text e = later (is_name_of op.AioTryCall text)
  where
    later : (b : Bool) → is_some (cond b (Some op.AioTryCall) (kind_among plain_kinds text)) ≡ true
    later true = refl
    later false = e
form-kept Checked text e = later (is_name_of op.AioTryCall text)
  where
    later : (b : Bool) → is_some (cond b (Some op.AioTryCall) (kind_among plain_kinds text)) ≡ true
    later true = refl
    later false = e

both : {X : Type 0} (b : Bool) → b ≡ true → not b ≡ true → X
both true e f = absurd cc
both false e f = absurd cc

-- what holds of each text of a list holds of what is found by it
abbrev each_text : {A : Type 0} → (List ℕ → Bool) → List (List ℕ × A) → Bool
each_text test [] = true
each_text test (x ∷ xs) = test x.0 && each_text test xs

among-each : {A : Type 0} (test : List ℕ → Bool) (xs : List (List ℕ × A)) (text : List ℕ) → each_text test xs ≡ true
    → is_some (among xs text) ≡ true → test text ≡ true
among-each test [] text h e = absurd cc
among-each {A} test (x ∷ xs) text h e =
    by_test (bytes_eq text x.0)
    (λ y. subst (λ z. test z ≡ true) (sym (bytes-same text x.0 y)) (and-left (test x.0) _ h))
    (λ n. among-each test xs text (and-right (test x.0) _ h) (subst (λ b. is_some (cond {A = Option A} b (Some x.1) (among xs text)) ≡ true) n e))

key-no-form : (k : Keyword) → no_form (word_of k) ≡ true
key-no-form key.As = refl
key-no-form key.Attributes = refl
key-no-form key.Do = refl
key-no-form key.Else = refl
key-no-form key.False = refl
key-no-form key.Func = refl
key-no-form key.IterArgs = refl
key-no-form key.Loc = refl
key-no-form key.Module = refl
key-no-form key.Private = refl
key-no-form key.Public = refl
key-no-form key.Step = refl
key-no-form key.To = refl
key-no-form key.True = refl

mapped-some : {A B : Type 0} (f : A → B) (o : Option A) → is_some (option_map f o) ≡ true → is_some o ≡ true
mapped-some f (Some x) e = refl
mapped-some f None e = absurd cc

-- what holds of `index` and the names of the widths holds of a name of a number type
number-type-each : (test : List ℕ → Bool) (text : List ℕ) → test (codes "index") ≡ true → each_text test widths ≡ true
    → is_some (number_type text) ≡ true → test text ≡ true
number-type-each test text i h e =
    by_test (bytes_eq text (codes "index"))
    (λ y. subst (λ z. test z ≡ true) (sym (bytes-same text (codes "index") y)) i)
    (λ n. among-each test widths text h (mapped-some (λ w. ty.Int w) (among widths text)
    (subst (λ b. is_some (cond {A = Option Ty} b (Some ty.Index) (option_map (λ w. ty.Int w) (among widths text))) ≡ true) n e)))

type-no-form : (text : List ℕ) → is_some (number_type text) ≡ true → no_form text ≡ true
type-no-form text e = number-type-each no_form text refl refl e

-- ---- what has a type

payload-some : (o : Option Ty) → is_some (payload_of_type o) ≡ true → is_some o ≡ true
payload-some (Some t) e = refl
payload-some None e = absurd cc

memref-some : (o : Option Ty) → is_memref_type o ≡ true → is_some o ≡ true
memref-some (Some t) e = refl
memref-some None e = absurd cc

group-some : (o : Option Ty) → is_group_type o ≡ true → is_some o ≡ true
group-some (Some t) e = refl
group-some None e = absurd cc

truth-some : (o : Option Ty) → is_truth_type o ≡ true → is_some o ≡ true
truth-some (Some t) e = refl
truth-some None e = absurd cc

-- ---- classes of names

-- a class that has the name of a form, but not each name, is that of operations
op-class-at : (c : Class) (s : State) (a : List ℕ) (i : ℕ) (j : Bool) (b : List ℕ) (m : ℕ) (n : Bool) → is_form a ≡ true
    → is_of c (name_tok a i j) && allows c s (name_tok a i j) ≡ true → is_of c (name_tok b m n) && allows c s (name_tok b m n) ≡ false
    → seeks sought.Op c ≡ true
unfolding is_of allows type_of
op-class-at (class.OpName k) s a i j b m n f y z = refl
op-class-at (class.Key k) s a i j b m n f y z =
    both (is_form a) f (subst (λ x. no_form x ≡ true) (sym (bytes-same a (word_of k) (and-left (bytes_eq a (word_of k)) _ y))) (key-no-form k))
op-class-at class.Predicate s a i j b m n f y z =
    both (is_form a) f (among-each no_form predicates a refl (and-left (is_some (among predicates a)) _ y))
op-class-at class.PlainType s a i j b m n f y z = both (is_form a) f (type-no-form a (and-left (is_some (number_type a)) _ y))
op-class-at class.Payload s a i j b m n f y z =
    both (is_form a) f (type-no-form a (payload-some (number_type a) (and-left (is_some (payload_of_type (number_type a))) _ y)))
op-class-at class.MemrefType s a i j b m n f y z =
    both (is_form a) f (type-no-form a (memref-some (number_type a) (and-left (is_memref_type (number_type a)) _ y)))
op-class-at class.GroupType s a i j b m n f y z =
    both (is_form a) f (type-no-form a (group-some (number_type a) (and-left (is_group_type (number_type a)) _ y)))
op-class-at class.TruthType s a i j b m n f y z =
    both (is_form a) f (type-no-form a (truth-some (number_type a) (and-left (is_truth_type (number_type a)) _ y)))
op-class-at class.EntryWord s a i j b m n f y z = absurd cc
op-class-at class.AnyWord s a i j b m n f y z = absurd cc
op-class-at _ s a i j b m n f y z = absurd cc

pub op-class : (level : Level) (right wrong : TextToken) → names_form level right ≡ true → is_name wrong.kind ≡ true → (c : Class) (s : State)
    → is_of c right && allows c s right ≡ true → is_of c wrong && allows c s wrong ≡ false → seeks sought.Op c ≡ true
op-class level right wrong f n c s y z =
    let r = as-name right (and-left (is_name right.kind) _ f) in
    let w = as-name wrong n in
    op-class-at c s right.text right.at right.joined wrong.text wrong.at wrong.joined
    (form-kept level right.text (and-right (is_name right.kind) _ f))
    (subst (λ (x : TextToken). is_of c x && allows c s x ≡ true) r y)
    (subst (λ (x : TextToken). is_of c x && allows c s x ≡ false) w z)

-- ---- classes of types

abbrev is_type_name : List ℕ → Bool
is_type_name text = is_some (number_type text)

abbrev no_type : List ℕ → Bool
no_type text = not (is_type_name text)

key-no-type : (w : Keyword) → no_type (word_of w) ≡ true
key-no-type key.As = refl
key-no-type key.Attributes = refl
key-no-type key.Do = refl
key-no-type key.Else = refl
key-no-type key.False = refl
key-no-type key.Func = refl
key-no-type key.IterArgs = refl
key-no-type key.Loc = refl
key-no-type key.Module = refl
key-no-type key.Private = refl
key-no-type key.Public = refl
key-no-type key.Step = refl
key-no-type key.To = refl
key-no-type key.True = refl

-- no operation has the name of a number type
op-apart : (p : OpKind) → (not (is_name_of p (codes "index")) ≡ true) × (each_text (λ x. not (is_name_of p x)) widths ≡ true)
op-apart op.AioCall = (refl, refl)
op-apart op.AioFail = (refl, refl)
op-apart op.AioFinish = (refl, refl)
op-apart op.AioTryCall = (refl, refl)
op-apart op.ArithAddi = (refl, refl)
op-apart op.ArithAndi = (refl, refl)
op-apart op.ArithCmpi = (refl, refl)
op-apart op.ArithConstant = (refl, refl)
op-apart op.ArithDivsi = (refl, refl)
op-apart op.ArithDivui = (refl, refl)
op-apart op.ArithExtsi = (refl, refl)
op-apart op.ArithExtui = (refl, refl)
op-apart op.ArithIndexCast = (refl, refl)
op-apart op.ArithIndexCastui = (refl, refl)
op-apart op.ArithMaxsi = (refl, refl)
op-apart op.ArithMaxui = (refl, refl)
op-apart op.ArithMinsi = (refl, refl)
op-apart op.ArithMinui = (refl, refl)
op-apart op.ArithMuli = (refl, refl)
op-apart op.ArithOri = (refl, refl)
op-apart op.ArithRemsi = (refl, refl)
op-apart op.ArithRemui = (refl, refl)
op-apart op.ArithSelect = (refl, refl)
op-apart op.ArithShli = (refl, refl)
op-apart op.ArithShrsi = (refl, refl)
op-apart op.ArithShrui = (refl, refl)
op-apart op.ArithSubi = (refl, refl)
op-apart op.ArithTrunci = (refl, refl)
op-apart op.ArithXori = (refl, refl)
op-apart op.AsyncAddToGroup = (refl, refl)
op-apart op.AsyncAwait = (refl, refl)
op-apart op.AsyncAwaitAll = (refl, refl)
op-apart op.AsyncCoroBegin = (refl, refl)
op-apart op.AsyncCoroEnd = (refl, refl)
op-apart op.AsyncCoroFree = (refl, refl)
op-apart op.AsyncCoroId = (refl, refl)
op-apart op.AsyncCoroSave = (refl, refl)
op-apart op.AsyncCoroSuspend = (refl, refl)
op-apart op.AsyncCreateGroup = (refl, refl)
op-apart op.AsyncExecute = (refl, refl)
op-apart op.AsyncRuntimeAddRef = (refl, refl)
op-apart op.AsyncRuntimeAddToGroup = (refl, refl)
op-apart op.AsyncRuntimeAwait = (refl, refl)
op-apart op.AsyncRuntimeAwaitAndResume = (refl, refl)
op-apart op.AsyncRuntimeCreate = (refl, refl)
op-apart op.AsyncRuntimeCreateGroup = (refl, refl)
op-apart op.AsyncRuntimeDropRef = (refl, refl)
op-apart op.AsyncRuntimeIsError = (refl, refl)
op-apart op.AsyncRuntimeLoad = (refl, refl)
op-apart op.AsyncRuntimeResume = (refl, refl)
op-apart op.AsyncRuntimeSetAvailable = (refl, refl)
op-apart op.AsyncRuntimeSetError = (refl, refl)
op-apart op.AsyncRuntimeStore = (refl, refl)
op-apart op.AsyncYield = (refl, refl)
op-apart op.CfAssert = (refl, refl)
op-apart op.CfBr = (refl, refl)
op-apart op.CfCondBr = (refl, refl)
op-apart op.FuncCall = (refl, refl)
op-apart op.FuncFunc = (refl, refl)
op-apart op.FuncReturn = (refl, refl)
op-apart op.MemrefAlloc = (refl, refl)
op-apart op.MemrefDealloc = (refl, refl)
op-apart op.MemrefDim = (refl, refl)
op-apart op.MemrefLoad = (refl, refl)
op-apart op.MemrefStore = (refl, refl)
op-apart op.BuiltinModule = (refl, refl)
op-apart op.ScfCondition = (refl, refl)
op-apart op.ScfFor = (refl, refl)
op-apart op.ScfIf = (refl, refl)
op-apart op.ScfParallel = (refl, refl)
op-apart op.ScfReduce = (refl, refl)
op-apart op.ScfWhile = (refl, refl)
op-apart op.ScfYield = (refl, refl)

op-no-type : (p : OpKind) (text : List ℕ) → is_name_of p text ≡ true → is_type_name text ≡ true → ⊥
op-no-type p text n e = both (is_name_of p text) n (number-type-each (λ x. not (is_name_of p x)) text (op-apart p).0 (op-apart p).1 e)

named-type : (text : List ℕ) (at : ℕ) (joined : Bool) → begins_type (name_tok text at joined) ≡ true → is_type_name text ≡ true
unfolding is_of type_of
named-type text at joined e = only (is_type_name text) e

type-kind : (k : TokenKind) (text : List ℕ) (at : ℕ) (joined : Bool)
    → begins_type (record { kind = k; text = text; at = at; joined = joined }) ≡ true → is_type_kind k ≡ true
unfolding is_of type_of
type-kind kind.Name text at joined e = refl
type-kind kind.BangName text at joined e = refl
type-kind kind.Memref text at joined e = refl
type-kind _ text at joined e = absurd cc

-- the classes beside those of types, of any word, and of words by their texts
abbrev is_rest : Class → Bool
is_rest class.PlainType = false
is_rest class.ValueType = false
is_rest class.Payload = false
is_rest class.MemrefType = false
is_rest class.GroupType = false
is_rest class.TruthType = false
is_rest class.EntryWord = false
is_rest class.AnyWord = false
is_rest (class.Key w) = false
is_rest (class.OpName p) = false
is_rest class.Predicate = false
is_rest _ = true

-- no token of the kinds of types is of these
wrong-kind : (k : TokenKind) (c : Class) (s : State) (text : List ℕ) (at : ℕ) (joined : Bool) → is_type_kind k ≡ true → is_rest c ≡ true
    → is_of c (record { kind = k; text = text; at = at; joined = joined }) && allows c s (record { kind = k; text = text; at = at; joined = joined }) ≡ true
    → ⊥
unfolding is_of allows
wrong-kind kind.Name class.PlainType s text at joined t r y = absurd cc
wrong-kind kind.Name _ s text at joined t r y = absurd cc
wrong-kind kind.BangName class.PlainType s text at joined t r y = absurd cc
wrong-kind kind.BangName _ s text at joined t r y = absurd cc
wrong-kind kind.Memref class.PlainType s text at joined t r y = absurd cc
wrong-kind kind.Memref _ s text at joined t r y = absurd cc
wrong-kind _ c s text at joined t r y = absurd cc

-- a class that has a token that begins a type, but not each name, is that of types
type-class-at : (c : Class) (s : State) (k : TokenKind) (text : List ℕ) (at : ℕ) (joined : Bool) (b : List ℕ) (m : ℕ) (n : Bool)
    → begins_type (record { kind = k; text = text; at = at; joined = joined }) ≡ true
    → is_of c (record { kind = k; text = text; at = at; joined = joined }) && allows c s (record { kind = k; text = text; at = at; joined = joined }) ≡ true
    → is_of c (name_tok b m n) && allows c s (name_tok b m n) ≡ false → seeks sought.Type c ≡ true
unfolding is_of allows type_of
type-class-at class.PlainType s k text at joined b m n e y z = refl
type-class-at class.ValueType s k text at joined b m n e y z = refl
type-class-at class.Payload s k text at joined b m n e y z = refl
type-class-at class.MemrefType s k text at joined b m n e y z = refl
type-class-at class.GroupType s k text at joined b m n e y z = refl
type-class-at class.TruthType s k text at joined b m n e y z = refl
type-class-at class.EntryWord s k text at joined b m n e y z = absurd cc
type-class-at class.AnyWord s k text at joined b m n e y z = absurd cc
type-class-at (class.Key w) s kind.Name text at joined b m n e y z =
    both (is_type_name text) (named-type text at joined e)
    (subst (λ x. no_type x ≡ true) (sym (bytes-same text (word_of w) (and-left (bytes_eq text (word_of w)) _ y))) (key-no-type w))
type-class-at (class.OpName p) s kind.Name text at joined b m n e y z =
    absurd (op-no-type p text (and-left (is_name_of p text) _ y) (named-type text at joined e))
type-class-at class.Predicate s kind.Name text at joined b m n e y z =
    both (is_type_name text) (named-type text at joined e) (among-each no_type predicates text refl (and-left (is_some (among predicates text)) _ y))
type-class-at (class.Key w) s _ text at joined b m n e y z = absurd cc
type-class-at (class.OpName p) s _ text at joined b m n e y z = absurd cc
type-class-at class.Predicate s _ text at joined b m n e y z = absurd cc
type-class-at c s k text at joined b m n e y z = absurd (wrong-kind k c s text at joined (type-kind k text at joined e) refl y)

pub type-class : (right wrong : TextToken) → begins_type right ≡ true → is_name wrong.kind ≡ true → (c : Class) (s : State)
    → is_of c right && allows c s right ≡ true → is_of c wrong && allows c s wrong ≡ false → seeks sought.Type c ≡ true
type-class right wrong f n c s y z =
    type-class-at c s right.kind right.text right.at right.joined wrong.text wrong.at wrong.joined f y
    (subst (λ (x : TextToken). is_of c x && allows c s x ≡ false) (as-name wrong n) z)
