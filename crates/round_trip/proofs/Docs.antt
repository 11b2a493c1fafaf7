-- The words of a document, in front of others.
use Rattle.std.proofs.Common.{◌≡◌, Bool, true, false, not, ◌&&◌, List, [], ◌∷◌, ◌++◌, refl, ap, ◌∙◌, append_assoc}
use Rattle.mlir_print.specs.Docs.{Doc, Empty, Token, Blank, Line, ◌<>◌}
use Rattle.mlir_print.specs.Spelled.{words_of}
use Rattle.module_grammar.specs.Rules.{is_hash_name, is_byte}
use Rattle.round_trip.proofs.Core.{Word}

abbrev pub onto : Doc → List Word → List Word
onto Empty ws = ws
onto (Token kind text) ws = (kind, text) ∷ ws
onto Blank ws = ws
onto (Line indent) ws = ws
onto (d <> e) ws = onto d (onto e ws)

pub onto-is : (d : Doc) (ws : List Word) → words_of d ++ ws ≡ onto d ws
onto-is Empty ws = refl
onto-is (Token kind text) ws = refl
onto-is Blank ws = refl
onto-is (Line indent) ws = refl
onto-is (d <> e) ws = append_assoc (words_of d) (words_of e) ws ∙ onto-is d (words_of e ++ ws) ∙ ap (λ (x : List Word). onto d x) (onto-is e ws)

-- neither `#` nor a comma comes first
abbrev pub Stops : List Word → Type 0
Stops [] = Unit {0}
Stops (w ∷ ws) = not (is_hash_name w.0) && not (is_byte 44 w.0) ≡ true

-- no `#` comes first
abbrev pub Plain : List Word → Type 0
Plain [] = Unit {0}
Plain (w ∷ ws) = not (is_hash_name w.0) ≡ true

and-first : (a b : Bool) → a && b ≡ true → a ≡ true
and-first true b e = refl
and-first false b e = cc

pub stops-plain : (ws : List Word) → Stops ws → Plain ws
stops-plain [] h = tt
stops-plain (w ∷ ws) h = and-first _ _ h
