-- The names of operations are read as the kinds that they name.
use Rattle.std.proofs.Common.{◌≡◌, ℕ, Bool, true, false, cond, List, [], ◌∷◌, ◌++◌, Option, Some, None, IsTrue, not, ◌&&◌, refl, sym, ap, subst, bytes_eq}
use Rattle.std.specs.List.{list_all}
use Rattle.std.proofs.lemmas.Slice.Eq.{bytes_eq-Decides}
use Rattle.mlir_lex.specs.declared.kinds.TokenKind.TheVariants as kind
use Rattle.op_table.specs.declared.kind.OpKind.{OpKind}
use Rattle.op_table.specs.declared.kind.OpKind.TheVariants as op
use Rattle.op_table.specs.declared.rows.Level.{Level}
use Rattle.op_table.specs.declared.rows.Level.TheVariants.{Source, Checked, Split, Low}
use Rattle.op_table.specs.declared.form.Form.{Form}
use Rattle.op_table.specs.declared.form.Form.TheVariants as shape
use Rattle.op_table.specs.Rows.{row_of, is_other, name_of, stands_at, body_kinds}
use Rattle.op_table.proofs.Finding.{body_kind, distinct}
use Rattle.ir_forms.specs.declared.ops.Op.{Op}
use Rattle.module_grammar.specs.declared.symbols.Class.TheVariants as class
use Rattle.module_grammar.specs.declared.symbols.Act.TheVariants as act
use Rattle.module_grammar.specs.declared.symbols.Keyword.TheVariants as key
use Rattle.module_grammar.specs.declared.symbols.Symbol.{Symbol}
use Rattle.module_grammar.specs.Tokens.{is_name_of, kind_among, word_of}
use Rattle.module_grammar.specs.Rules.{kinds_at, forms_then, doing, form, line as line_of}
use Rattle.mlir_print.specs.Printable.{HasForm, HasParts}
use Rattle.round_trip.proofs.Core.{Core}
use Rattle.round_trip.proofs.Machine.{first_fit}
use Rattle.round_trip.proofs.Shapes.{IsNext}

-- the line of a form among those of others
pub form-line : (before ss : List Symbol) (ks : List OpKind) (text : List ℕ) (kd : OpKind) (c : Core) → kind_among ks text ≡ Some kd
    → first_fit (forms_then before ss ks) c (kind.Name, text) ≡ Some (line_of (class.OpName kd) (before ++ doing (act.Kind kd) ++ form kd ++ ss))
form-line before ss [] text kd c e = absurd cc
form-line before ss (k ∷ ks) text kd c e = by_name (is_name_of k text) refl (form-line before ss ks text kd c)
  where
    by_name : (b : Bool) → is_name_of k text ≡ b
        → (kind_among ks text ≡ Some kd → first_fit (forms_then before ss ks) c (kind.Name, text) ≡ Some (line_of (class.OpName kd) (before ++ doing (act.Kind kd) ++ form kd ++ ss)))
        → first_fit (forms_then before ss (k ∷ ks)) c (kind.Name, text) ≡ Some (line_of (class.OpName kd) (before ++ doing (act.Kind kd) ++ form kd ++ ss))
    by_name true is more =
        let found : Some k ≡ Some kd = subst (λ (b : Bool). cond {A = Option OpKind} b (Some k) (kind_among ks text) ≡ Some kd) is e in
        let same : k ≡ kd = cc in
        rw is (ap (λ (x : OpKind). Some (line_of (class.OpName x) (before ++ doing (act.Kind x) ++ form x ++ ss))) same)
    by_name false is more =
        rw is (more (subst (λ (b : Bool). cond {A = Option OpKind} b (Some k) (kind_among ks text) ≡ Some kd) is e))

no-loc : (kd : OpKind) → bytes_eq (name_of kd) (word_of key.Loc) ≡ false
no-loc op.AioCall = refl
no-loc _ = refl

no-else : (kd : OpKind) → bytes_eq (name_of kd) (word_of key.Else) ≡ false
no-else op.AioCall = refl
no-else _ = refl

-- an operation's name is neither `loc` nor `else`
pub name-next : (kd : OpKind) → IsNext (kind.Name, name_of kd)
name-next kd = record { stops = refl; no_dict = refl; no_block = refl; no_place = no-loc kd; no_else = no-else kd }

-- the kind that is found by the name of another is this one
abbrev is_same : OpKind → Option OpKind → Bool
is_same kd None = false
is_same kd (Some k) = bytes_eq (name_of k) (name_of kd)

all-found : (level : Level) → list_all (λ k. is_same k (kind_among (kinds_at level) (name_of k))) (kinds_at level) ≡ true
all-found Source = refl
all-found Checked = refl
all-found Split = refl
all-found Low = refl

same-kind : (kd : OpKind) (found : Option OpKind) → is_same kd found ≡ true → found ≡ Some kd
same-kind kd None e = absurd cc
same-kind kd (Some k) e = ap (λ (x : OpKind). Some x) (distinct k kd ((bytes_eq-Decides (name_of k) (name_of kd)).0 e))

has-form : (f : Form) (o : Op) → HasParts f o → not (is_other f) ≡ true
has-form shape.Other o h = absurd h
has-form _ o h = refl

both : (a b : Bool) → a ≡ true → b ≡ true → (a && b) ≡ true
both true true e f = refl
both true false e f = f
both false b e f = e

kinds-are : (level : Level) → body_kinds level ≡ kinds_at level
kinds-are Source = refl
kinds-are Checked = refl
kinds-are Split = refl
kinds-are Low = refl

pub kind-stands : (level : Level) (kd : OpKind) (o : Op) → IsTrue (stands_at kd level) → HasForm kd o → kind_among (kinds_at level) (name_of kd) ≡ Some kd
kind-stands level kd o s h =
    same-kind kd (kind_among (kinds_at level) (name_of kd))
    (body_kind (λ k. is_same k (kind_among (kinds_at level) (name_of k))) level (subst (λ ks. list_all (λ k. is_same k (kind_among (kinds_at level) (name_of k))) ks ≡ true) (sym (kinds-are level)) (all-found level)) kd (both (not (is_other (row_of kd).form)) (stands_at kd level) (has-form (row_of kd).form o h) s))
