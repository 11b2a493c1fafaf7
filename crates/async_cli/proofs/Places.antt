-- Places in bytes, and how many entries they can hold.
use Rattle.std.proofs.Common.{◌≡◌, ◌≤◌, ◌<◌, ℕ, ◌+◌, ◌*◌, ◌^◌, List, [], ◌∷◌, ◌++◌, length, decimal, arith, subst, sym, ap, inl, inr, length-append, Some}
use Rattle.std.proofs.Math.Nat.{eq-or-lt_of_le}
use Rattle.std.proofs.lemmas.Fmt.{decimal_nonempty}
use Rattle.step_core.specs.declared.ends.Entry.{Entry}
use Rattle.run_journal.specs.Lines.{entry_line, journal_lines, AreEntries, IsEntry}
use Rattle.async_cli.specs.Inputs.{input_limit}
use Rattle.async_cli.specs.Replays.{AreLines}

pub below_next : (P : ℕ → Type 0) (n : ℕ) → ((k : ℕ) → k < n → P k) → P n → (k : ℕ) → k < n + 1 → P k
below_next P n all one k less =
    elim (eq-or-lt_of_le {n = k} {m = n} (omega (arith, less))) [
      | inl same ↦ subst P (sym same) one
      | inr lower ↦ all k lower
    ]

line_room : (e : Entry) → IsEntry e → 4 ≤ length (entry_line e)
line_room e is =
    let task = decimal_nonempty e.task (omega (arith, is.0)) in
    let local = decimal_nonempty e.local (omega (arith, is.1)) in
    let whole : length (entry_line e) ≡ length (decimal e.task ++ 32 ∷ decimal e.local) + 1 =
    length-append (decimal e.task ++ 32 ∷ decimal e.local) (10 ∷ []) in
    let first : length (decimal e.task ++ 32 ∷ decimal e.local) ≡ length (decimal e.task) + length (32 ∷ decimal e.local) =
    length-append (decimal e.task) (32 ∷ decimal e.local) in
    omega (arith, task, local, first, whole)

-- each entry has a line of four bytes at least
lines_room : (es : List Entry) → AreEntries es → length es * 4 ≤ length (journal_lines es)
lines_room [] are = omega arith
lines_room (e ∷ es) are =
    let front : 4 ≤ length (entry_line e) = line_room e are.0 in
    let whole : length (journal_lines (e ∷ es)) ≡ length (entry_line e) + length (journal_lines es) =
    length-append (entry_line e) (journal_lines es) in
    omega (arith, front, lines_room es are.1, whole)

-- the entries of a journal within the input's limit
pub lines_are : (bytes : List ℕ) (es : List Entry) → bytes ≡ journal_lines es → AreEntries es → length bytes ≤ input_limit →
    AreLines (Some bytes) es × (length es ≤ 2 ^ 27)
lines_are bytes es same are within =
    let room = lines_room es are in
    let size : length bytes ≡ length (journal_lines es) = ap length same in
    ((ap (λ b. Some b) same, are), omega (arith, room, size, within))
