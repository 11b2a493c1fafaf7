-- The line of a form is found by its name.
use Rattle.std.proofs.Common.{◌≡◌, true, false, List, [], ◌∷◌, None, refl}
use Rattle.op_table.specs.declared.kind.OpKind.{OpKind}
use Rattle.op_table.specs.declared.rows.Level.{Level}
use Rattle.module_grammar.specs.declared.symbols.Symbol.{Symbol}
use Rattle.module_grammar.specs.declared.state.TextToken.{TextToken}
use Rattle.module_grammar.specs.declared.state.State.{State}
use Rattle.module_grammar.specs.Engine.{first_line}
use Rattle.module_grammar.specs.Tokens.{is_name_of, kind_among}
use Rattle.module_grammar.specs.Rules.{grammar, is_of, allows, is_name, forms_then, form_or_none, form_chosen, kinds_at}
use Rattle.module_grammar.proofs.Runs.{by_test}

named-lines : (level : Level) (before ss : List Symbol) (ks : List OpKind) (s : State) (t : TextToken) → is_name t.kind ≡ true
    → first_line (grammar level) (forms_then before ss ks) s t ≡ form_or_none before ss (kind_among ks t.text)
unfolding is_of allows
named-lines level before ss [] s t n = refl
named-lines level before ss (k ∷ ks) s t n =
    by_test (is_name_of k t.text)
    (λ y. rw (n, y) refl)
    (λ z. rw (n, z) (named-lines level before ss ks s t n))

unnamed-lines : (level : Level) (before ss : List Symbol) (ks : List OpKind) (s : State) (t : TextToken) → is_name t.kind ≡ false
    → first_line (grammar level) (forms_then before ss ks) s t ≡ None
unfolding is_of allows
unnamed-lines level before ss [] s t n = refl
unnamed-lines level before ss (k ∷ ks) s t n = rw n (unnamed-lines level before ss ks s t n)

pub form_lines : (level : Level) (before ss : List Symbol) (s : State) (t : TextToken)
    → first_line (grammar level) (forms_then before ss (kinds_at level)) s t ≡ form_chosen level before ss t
form_lines level before ss s t =
    by_test (is_name t.kind)
    (λ y. rw y (named-lines level before ss (kinds_at level) s t y))
    (λ n. rw n (unnamed-lines level before ss (kinds_at level) s t n))
