-- The rules of an operation's results.
use Rattle.std.proofs.Common.{◌≡◌, ℕ, ◌-◌, List, [], ◌∷◌, ◌++◌, Some, refl, sym, ap, subst, arith, append_assoc}
use Rattle.std.specs.Prelude.{unwrap_or}
use Rattle.std.proofs.lemmas.List.{append-nil}
use Rattle.op_table.specs.declared.rows.Level.{Level}
use Rattle.module_grammar.specs.declared.symbols.Rule.TheVariants as rule
use Rattle.module_grammar.specs.declared.state.TextToken.{TextToken}
use Rattle.module_grammar.specs.declared.state.Name.{Name}
use Rattle.module_grammar.specs.declared.state.State.{State}
use Rattle.module_grammar.specs.State.{does, name_at, number_up, last_counted}
use Rattle.module_grammar.specs.Tokens.{number_of}
use Rattle.read_forms.proofs.Scopes.{IsNamed, named-none, named-one, named-more, counted-number}
use Rattle.read_forms.proofs.Outcomes.{ResultsRead, MoreResultsRead}
use Rattle.read_forms.proofs.Words.{Lines}

unfoldable pub more-results : (before : List Name) (first : ℕ) (t : TextToken) → MoreResultsRead (before ++ name_at t first ∷ []) (number_up first 1) → MoreResultsRead before first
more-results before first t x = record {
  results = name_at t first ∷ x.results;
  next = x.next;
  last = x.last;
  named = λ n a. subst (λ (l : List Name). IsNamed n l x.next) (append_assoc before (name_at t first ∷ []) x.results) (x.named n (named-one n first before t a));
}

abbrev with_results : State → List Name → State
with_results s rs = record s { op = record (s.op) { results = rs } }

pub more-results-lines : (level : Level) (s : State) → Lines level rule.MoreResults s
unfolding does more-results
more-results-lines level s = (
  λ t b a. λ t1 b1 a1. λ n. (
    tt,
    λ x m. (
      more-results s.op.results s.next t1 x,
      ap (λ (l : List Name). record (with_results s l) { next = x.next; last = x.last }) (sym (append_assoc s.op.results (name_at t1 s.next ∷ []) x.results)),
    ),
  ),
  tt,
)

pub no-more-results : (s : State) → (x : MoreResultsRead s.op.results s.next) × (record s { op = record (s.op) { results = s.op.results ++ x.results }; next = x.next; last = x.last } ≡ s)
no-more-results s = (
  record { results = []; next = s.next; last = s.last; named = λ n a. subst (λ (l : List Name). IsNamed n l s.next) (sym (append-nil s.op.results)) a },
  ap (with_results s) (append-nil s.op.results),
)

-- one result is named
one-named : (left : List Name) (first : ℕ) (t : TextToken) (n : ℕ) → left ≡ name_at t n ∷ [] → first ≡ number_up n 1 → IsNamed n left first
one-named left first t n e f =
    subst (λ (l : List Name). IsNamed n l first) (sym e) (subst (λ (m : ℕ). IsNamed n (name_at t n ∷ []) m) (sym f) (named-one n n [] t (named-none n)))

all-results : (left : List Name) (first : ℕ) → MoreResultsRead left first → ResultsRead left first
all-results left first x = record {
  results = left ++ x.results;
  next = x.next;
  last = x.last;
  named = λ t n e f. x.named n (one-named left first t n e f);
}

counted-results : (left : List Name) (first c : ℕ) → TextToken → ResultsRead left first
counted-results left first c last = record {
  results = last_counted left c;
  next = number_up (first - 1) c;
  last = last;
  named = λ t n e f.
      subst (λ (l : List Name). IsNamed n (last_counted l c) (number_up (first - 1) c)) (sym e)
      (named-more n n [] (record (name_at t n) { count = Some c }) (Some c) (number_up (first - 1) c) (named-none n) refl refl
      (λ h. omega (arith, f, h)) (λ h. counted-number n c (omega (arith, h))));
}

pub results-lines : (level : Level) (s : State) → Lines level rule.Results s
unfolding does more-results all-results counted-results
results-lines level s = (
  λ t b a. λ t1 b1 a1. λ n. (
    tt,
    λ x m. (
      all-results s.op.results s.next (more-results s.op.results s.next t1 x),
      ap (λ (l : List Name). record (with_results s l) { next = x.next; last = x.last }) (sym (append_assoc s.op.results (name_at t1 s.next ∷ []) x.results)),
    ),
  ),
  (λ t b a. λ t1 b1 a1. λ n. (counted-results s.op.results s.next (unwrap_or (number_of t1) 0) t1, refl), tt),
)

pub no-results : (s : State) → (x : ResultsRead s.op.results s.next) × (record s { op = record (s.op) { results = x.results }; next = x.next; last = x.last } ≡ s)
no-results s = (record { results = s.op.results; next = s.next; last = s.last; named = λ t n e f. one-named s.op.results s.next t n e f }, refl)
