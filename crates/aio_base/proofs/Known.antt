-- One more call of a source or a sink, after what earlier calls read or took.
use Rattle.std.proofs.Common.{ℕ, ◌+◌, ◌-◌, List, ◌++◌, length, take, drop, ap, sym, subst, ◌∙◌, Option}
use Rattle.std.proofs.lemmas.List.{take_rest}
use Rattle.std.proofs.Math.Seq.{take-add}
use Rattle.std.proofs.KnownBytes.{Appends-trans}
use Rattle.std.specs.Io.KnownBytes.{Appends}

-- the first k bytes were taken, and then n of the bytes after them
pub taken_more : (a b c : Option (List ℕ)) (bytes : List ℕ) (k n : ℕ) → Appends a b (take k bytes)
    → Appends b c (take n (take (length bytes - k) (drop k bytes))) → Appends a c (take (k + n) bytes)
taken_more a b c bytes k n first more =
    subst (Appends a c) (ap (λ rest. take k bytes ++ take n rest) (take_rest bytes k) ∙ sym (take-add k n bytes))
    (Appends-trans a b c _ _ first more)
