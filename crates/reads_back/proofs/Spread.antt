-- The tokens of a text, by their numbers.
use Rattle.std.proofs.Common.{◌≡◌, ◌≤◌, ℕ, ◌+◌, ◌==◌, Bool, false, cond, List, [], ◌∷◌, map, Option, Some, refl, ap, arith, le_refl}
use Rattle.std.proofs.Math.Logic.{⊎_elim}
use Rattle.std.proofs.lemmas.Bool.Decides.{eqb_tells}
use Rattle.mlir_lex.specs.declared.kinds.TokenKind.{TokenKind}
use Rattle.mlir_lex.specs.declared.kinds.Token.{Token}
use Rattle.mlir_print.specs.Spelled.{word_at}
use Rattle.mlir_text.specs.Tokens.{is_at, text_tokens_behind}
use Rattle.round_trip.specs.GivesBack.{text_tokens}

-- what a number has, and what the others have
abbrev at_first : {A : Type 0} → ℕ → A → (ℕ → A) → ℕ → A
at_first n x f i = cond (i == n) x (f i)

first-is : {A : Type 0} (n : ℕ) (x : A) (f : ℕ → A) → at_first n x f n ≡ x
first-is n x f = ⊎_elim (λ e. ap (λ b. cond b x (f n)) e.0) (λ e. absurd (e.1 refl)) (eqb_tells n n)

later-is : {A : Type 0} (n : ℕ) (x : A) (f : ℕ → A) (i : ℕ) → n + 1 ≤ i → at_first n x f i ≡ f i
later-is n x f i later = ⊎_elim (λ e. let same = e.1 in absurd (omega (arith, same, later))) (λ e. ap (λ b. cond b x (f i)) e.0) (eqb_tells i n)

-- tokens depend on the numbers from the first on alone
alike : (at at' : ℕ → ℕ) (joined joined' : ℕ → Bool) (n : ℕ) (ws : List (TokenKind × List ℕ)) → ((i : ℕ) → n ≤ i → at i ≡ at' i) → ((i : ℕ) → n ≤ i → joined i ≡ joined' i)
    → text_tokens at joined n ws ≡ text_tokens at' joined' n ws
alike at at' joined joined' n [] same likewise = refl
alike at at' joined joined' n (w ∷ ws) same likewise =
    rw (same n (le_refl n), likewise n (le_refl n), alike at at' joined joined' (n + 1) ws (λ i later. same i (omega (arith, later))) (λ i later. likewise i (omega (arith, later)))) refl

pub record Spread (text : List ℕ) (end : Option ℕ) (tokens : List Token) (n : ℕ) : Type 0 where
  pub at : ℕ → ℕ
  pub joined : ℕ → Bool
  pub same : text_tokens at joined n (map (word_at text) tokens) ≡ text_tokens_behind text end tokens

pub spread : (text : List ℕ) (end : Option ℕ) (tokens : List Token) (n : ℕ) → Spread text end tokens n
spread text end [] n = record { at = λ i. 0; joined = λ i. false; same = refl }
spread text end (t ∷ ts) n =
    let rest : Spread text (Some t.end) ts (n + 1) = spread text (Some t.end) ts (n + 1) in
    record {
      at = at_first n t.start rest.at;
      joined = at_first n (is_at end t.start) rest.joined;
      same = rw (
        first-is n t.start rest.at,
        first-is n (is_at end t.start) rest.joined,
        alike (at_first n t.start rest.at) rest.at (at_first n (is_at end t.start) rest.joined) rest.joined (n + 1) (map (word_at text) ts)
            (later-is n t.start rest.at) (later-is n (is_at end t.start) rest.joined),
        rest.same,
      ) refl;
    }
