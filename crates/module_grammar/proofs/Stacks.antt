-- A stack, of which the list's last element is the top.
use Rattle.std.proofs.Common.{◌≡◌, List, [], ◌∷◌, ◌++◌, reverse, refl, sym, ap, ◌∙◌, append_assoc}
use Rattle.std.proofs.lemmas.List.{append-nil, reverse-append, reverse-reverse}
use Rattle.module_grammar.specs.declared.symbols.Symbol.{Symbol}

pub reverse_pushed : (xs : List Symbol) (x : Symbol) → reverse (xs ++ x ∷ []) ≡ x ∷ reverse xs
reverse_pushed xs x = reverse-append xs (x ∷ [])

pub three_pushed : (a b c s : List Symbol) → a ++ (b ++ (c ++ s)) ≡ (a ++ b ++ c) ++ s
three_pushed a b c s = rw (append_assoc (a ++ b) c s, append_assoc a b (c ++ s)) refl

pub turned : (left stack : List Symbol) → reverse left ≡ stack ++ [] → left ≡ reverse stack
turned left stack e = sym (reverse-reverse left) ∙ ap reverse (e ∙ append-nil stack)
