-- Texts that are added one after another.
use Rattle.std.proofs.Common.{◌≡◌, List, [], ◌∷◌, ◌++◌, refl, ap, ◌∙◌}

joined : {X : Type 0} (xs ys zs : List X) → (xs ++ ys) ++ zs ≡ xs ++ (ys ++ zs)
joined [] ys zs = refl
joined (x ∷ xs) ys zs = ap (λ l. x ∷ l) (joined xs ys zs)

pub two : {X : Type 0} (t x y a b : List X) → a ≡ t ++ x → b ≡ a ++ y → b ≡ t ++ (x ++ y)
two t x y a b first second = second ∙ ap (λ l. l ++ y) first ∙ joined t x y

pub three : {X : Type 0} (t x y z a b c : List X) → a ≡ t ++ x → b ≡ a ++ y → c ≡ b ++ z → c ≡ t ++ (x ++ y ++ z)
three t x y z a b c first second third = two t (x ++ y) z b c (two t x y a b first second) third

pub five : {X : Type 0} (t v w x y z a b c d e : List X) → a ≡ t ++ v → b ≡ a ++ w → c ≡ b ++ x → d ≡ c ++ y → e ≡ d ++ z → e ≡ t ++ (v ++ w ++ x ++ y ++ z)
five t v w x y z a b c d e first second third fourth fifth = two t (v ++ w ++ x ++ y) z d e (two t (v ++ w ++ x) y c d (three t v w x a b c first second third) fourth) fifth
