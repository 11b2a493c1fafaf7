-- One byte after another.
use Rattle.std.proofs.Common.{◌≡◌, ◌<◌, ℕ, ◌+◌, List, ◌∷◌, drop, length, get_or, Option, Some, None, ap, ◌∙◌}
use Rattle.std.proofs.lemmas.List.{drop_more}
use Rattle.arguments.specs.Grammar.{Front, Bad, after_byte, judged, verdict_from}

front_byte : (at b : ℕ) (f : Front) (bytes : List ℕ) (o : Option Front) → after_byte b f ≡ o →
    verdict_from at f (b ∷ bytes) ≡ judged at (λ g. verdict_from (at + 1) g bytes) o
front_byte at b f bytes o e = ap (judged at (λ g. verdict_from (at + 1) g bytes)) e

pub next_byte : (bytes : List ℕ) (at : ℕ) (f g : Front) → at < length bytes → after_byte (get_or bytes at 0) f ≡ Some g →
    verdict_from at f (drop at bytes) ≡ verdict_from (at + 1) g (drop (at + 1) bytes)
next_byte bytes at f g h e = ap (verdict_from at f) (drop_more bytes at 0 h) ∙ front_byte at (get_or bytes at 0) f (drop (at + 1) bytes) (Some g) e

pub bad_byte : (bytes : List ℕ) (at : ℕ) (f : Front) → at < length bytes → after_byte (get_or bytes at 0) f ≡ None → verdict_from at f (drop at bytes) ≡ Bad at
bad_byte bytes at f h e = ap (verdict_from at f) (drop_more bytes at 0 h) ∙ front_byte at (get_or bytes at 0) f (drop (at + 1) bytes) None e
