-- How often rows stand in blocks.
use Rattle.std.specs.Prelude.{ℕ, ◌+◌, cond, Bool, true, false, List, [], ◌∷◌}
use Rattle.op_table.specs.declared.kind.OpKind.TheVariants.{AsyncRuntimeAwait}
use Rattle.low_forms.specs.declared.code.LowKind.{LowKind}
use Rattle.low_forms.specs.declared.code.LowKind.TheVariants.{Row, Await}
use Rattle.low_forms.specs.declared.code.Instr.{Instr}
use Rattle.low_forms.specs.declared.code.Block.{Block}

-- how many of the instructions and terminators of these blocks are of such a kind
abbrev pub count_in : (LowKind → Bool) → List Instr → ℕ
count_in p [] = 0
count_in p (i ∷ instrs) = cond (p i.kind) 1 0 + count_in p instrs

abbrev pub count_of : (LowKind → Bool) → List Block → ℕ
count_of p [] = 0
count_of p (b ∷ blocks) = (count_in p b.instrs + cond (p b.term.instr.kind) 1 0) + count_of p blocks

-- how many of the blocks end with such a kind
abbrev pub ends_with : (LowKind → Bool) → List Block → ℕ
ends_with p [] = 0
ends_with p (b ∷ blocks) = cond (p b.term.instr.kind) 1 0 + ends_with p blocks

abbrev pub is_await : LowKind → Bool
is_await Await = true
is_await _ = false

-- an await in which the whole task waits
abbrev pub is_waiting : LowKind → Bool
is_waiting (Row AsyncRuntimeAwait) = true
is_waiting _ = false
