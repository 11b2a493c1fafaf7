-- The line of a form is found by its name.
use Rattle.std.proofs.Common.{◌≡◌, Bool, true, false, ◌&&◌, List, [], ◌∷◌, filter, length, None, refl, sym, ◌∙◌, subst}
use Rattle.op_table.specs.declared.kind.OpKind.{OpKind}
use Rattle.op_table.specs.Rows.{all_kinds, row_of, kept}
use Rattle.op_table.specs.Laws.{HasDistinctNames}
use Rattle.low_forms.specs.Rows.{row_of_kind}
use Rattle.module_grammar.specs.declared.state.TextToken.{TextToken}
use Rattle.module_grammar.specs.Tokens.{is_name_of, kind_among}
use Rattle.module_grammar.specs.Rules.{is_name}
use Rattle.module_grammar.proofs.Runs.{by_test}
use Rattle.rule_machine.specs.Table.{first_line}
use Rattle.low_grammar.specs.declared.state.State.{State}
use Rattle.low_grammar.specs.Rules.{grammar, forms, low_kinds, is_of, allows, has_results}
use Rattle.low_reader.specs.Choices.{stands_in, kind_here, line_of_kind}
use Rattle.low_reader.proofs.OneKind.{names-one}

abbrev stands : OpKind → Bool
stands k = (row_of_kind k).stands

abbrev fits : State → OpKind → Bool
fits s k = has_results (row_of k).results (length s.instr.results)

-- no line of a form begins with what is no name
unnamed : (ks : List OpKind) (s : State) (t : TextToken) → is_name t.kind ≡ false → first_line grammar (forms ks) s t ≡ None
unfolding is_of allows
unnamed [] s t n = refl
unnamed (k ∷ ks) s t n = rw n (unnamed ks s t n)

both : (a b : Bool) → a ≡ true → b ≡ true → a && b ≡ true
both a b p q = rw (p, q) refl

clash : (s : State) (k : OpKind) → stands_in s k ≡ true → stands_in s k ≡ false → ⊥
clash s k here away = let e : true ≡ false = sym here ∙ away in cc

-- where the kind that a text names may not stand here, no line of a form begins
others : HasDistinctNames → (ks : List OpKind) (s : State) (t : TextToken) (k : OpKind) → is_name t.kind ≡ true → is_name_of k t.text ≡ true
    → stands_in s k ≡ false → first_line grammar (forms (filter stands ks)) s t ≡ None
unfolding is_of allows
others distinct [] s t k name named away = refl
others distinct (j ∷ ks) s t k name named away =
    by_test (stands j)
    (λ y. by_test (is_name_of j t.text)
    (λ n. by_test (fits s j)
    (λ f. absurd (clash s k (subst (λ (i : OpKind). stands_in s i ≡ true) (names-one distinct j k t.text n named) (both (stands j) (fits s j) y f)) away))
    (λ f. rw (y, name, n, f) (others distinct ks s t k name named away)))
    (λ n. rw (y, name, n) (others distinct ks s t k name named away)))
    (λ y. rw y (others distinct ks s t k name named away))

-- the line of a form that a name begins
chosen : HasDistinctNames → (ks : List OpKind) (s : State) (t : TextToken) → is_name t.kind ≡ true
    → first_line grammar (forms (filter stands ks)) s t ≡ line_of_kind (kept (stands_in s) (kind_among ks t.text))
unfolding is_of allows
chosen distinct [] s t name = refl
chosen distinct (k ∷ ks) s t name =
    by_test (is_name_of k t.text)
    (λ n. by_test (stands k)
    (λ y. by_test (fits s k)
    (λ f. rw (n, y, name, n, f) refl)
    (λ f. rw (n, y, name, n, f) (others distinct ks s t k name n (rw (y, f) refl))))
    (λ y. rw (n, y) (others distinct ks s t k name n (rw y refl))))
    (λ n. by_test (stands k)
    (λ y. rw (n, y, name, n) (chosen distinct ks s t name))
    (λ y. rw (n, y) (chosen distinct ks s t name)))

-- the line of a form that a token begins
pub form_at : HasDistinctNames → (s : State) (t : TextToken) → first_line grammar (forms low_kinds) s t ≡ line_of_kind (kind_here s t)
form_at distinct s t =
    by_test (is_name t.kind)
    (λ y. chosen distinct all_kinds s t y ∙ rw y refl)
    (λ n. unnamed low_kinds s t n ∙ rw n refl)
