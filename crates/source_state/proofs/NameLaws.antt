-- Names that compare as equal are one.
use Rattle.std.proofs.Common.{◌≡◌, Bool, true, false, refl, sym, ap, ◌∙◌}
use Rattle.std.specs.Prelude.{◌&&◌, ◌==◌}
use Rattle.std.specs.declared.cmp.Ordering.{Ordering}
use Rattle.std.specs.Ordering.{is_eq, nat_cmp}
use Rattle.std.specs.Cmp.{unsigned_ties, both_tied}
use Rattle.std.specs.Cmp.Lexicographic.{slice_cmp, lists_ties}
use Rattle.std.proofs.lemmas.Slice.Eq.{bytes_eq-Decides}
use Rattle.std.proofs.lemmas.Bool.{true≢false, eq-eqb, eqb-true}
use Rattle.ir_forms.specs.declared.names.MadeName.{MadeName}
use Rattle.ir_forms.specs.declared.names.MadeName.TheVariants as made
use Rattle.ir_forms.specs.Names.{Path, same_path, same_made}
use Rattle.source_state.specs.declared.names.Name.{Name}
use Rattle.source_state.specs.declared.names.Name.TheVariants as name
use Rattle.source_state.specs.contracts.names.NameOrd.TheImpl.{cmp-value}
use Rattle.source_state.specs.Seen.{made_of}

pub same_itself : (p : Path) → same_path p p ≡ true
same_itself p = (bytes_eq-Decides p p).1 refl

pub same_is : (p q : Path) → same_path p q ≡ true → p ≡ q
same_is p q e = (bytes_eq-Decides p q).0 e

pub paths_tie : (p q : Path) → same_path p q ≡ is_eq (slice_cmp nat_cmp p q)
paths_tie p q = lists_ties nat_cmp unsigned_ties p q

and_true : (a b : Bool) → a && b ≡ true → (a ≡ true) × (b ≡ true)
and_true true b e = (refl, e)
and_true false b e = absurd (true≢false (sym e))

pub made_itself : (n : MadeName) → same_made n n ≡ true
made_itself (made.Argument j) = eq-eqb j j refl
made_itself (made.Made p j) = ap (λ t. t && j == j) (same_itself p) ∙ eq-eqb j j refl

pub made_is : (m n : MadeName) → same_made m n ≡ true → m ≡ n
made_is (made.Argument j) (made.Argument k) e = ap (λ i. made.Argument i) (eqb-true j k e)
made_is (made.Argument j) (made.Made q k) e = absurd (true≢false (sym e))
made_is (made.Made p j) (made.Argument k) e = absurd (true≢false (sym e))
made_is (made.Made p j) (made.Made q k) e =
    let both = and_true (same_path p q) (j == k) e in
    ap (λ r. made.Made r j) (same_is p q both.0) ∙ ap (λ i. made.Made q i) (eqb-true j k both.1)

-- the order of keys
abbrev pub name_cmp : Name → Name → Ordering
name_cmp k q = cmp-value.it k q

pub names_tie : (k q : Name) → is_eq (name_cmp k q) ≡ same_made (made_of k) (made_of q)
names_tie (name.Argument j) (name.Argument k) = sym (unsigned_ties j k)
names_tie (name.Argument j) (name.Made q k) = refl
names_tie (name.Made p j) (name.Argument k) = refl
names_tie (name.Made p j) (name.Made q k) = sym (both_tied (same_path p.items q.items) (j == k) (slice_cmp nat_cmp p.items q.items) (nat_cmp j k) (paths_tie p.items q.items) (unsigned_ties j k))
