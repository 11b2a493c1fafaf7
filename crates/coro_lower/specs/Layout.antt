-- The blocks of a function of runtime rows, and their order.
use Rattle.std.specs.Prelude.{ℕ, ◌+◌, ◌*◌, ◌^◌, cond, not, Bool, true, false, List, [], ◌∷◌, ◌++◌, map, Option, Some, None, slice_get}
use Rattle.op_table.specs.declared.kind.OpKind.TheVariants.{AioFail, FuncReturn}
use Rattle.low_forms.specs.declared.code.LowKind.{LowKind}
use Rattle.low_forms.specs.declared.code.LowKind.TheVariants.{Row, Await}
use Rattle.low_forms.specs.declared.code.Target.{Target}
use Rattle.low_forms.specs.declared.code.Block.{Block}
use Rattle.low_forms.specs.declared.code.LowFunc.{LowFunc}
use Rattle.register_numbers.specs.FirstPlaces.{first_place, place_in, unknown}
use Rattle.coro_lower.specs.declared.label.Label.{Label}
use Rattle.coro_lower.specs.declared.label.Label.TheVariants.{Entry, Next, Body, SetsError, Cleanup, Suspended}
use Rattle.coro_lower.specs.declared.label.End.{End}
use Rattle.coro_lower.specs.declared.label.End.TheVariants as end

-- ---- how blocks end

abbrev pub plain_end : LowKind → End
plain_end Await = end.Waits
plain_end _ = end.Stays

abbrev pub task_end : LowKind → End
task_end Await = end.Suspends
task_end (Row FuncReturn) = end.Gives
task_end (Row AioFail) = end.Fails
task_end _ = end.Stays

abbrev pub end_of : LowFunc → Block → End
end_of f b = cond f.coroutine (task_end b.term.instr.kind) (plain_end b.term.instr.kind)

-- ---- where awaits go on

-- the block that a target leads to
abbrev pub block_of : Option Target → ℕ
block_of None = unknown
block_of (Some t) = t.block.0

abbrev pub target_at : List Target → ℕ → ℕ
target_at targets k = block_of (slice_get targets k)

-- the number of no block
abbrev pub no_block : ℕ
no_block = 2 ^ 32

abbrev pub go_from : LowKind → List Target → ℕ
go_from Await targets = target_at targets 0
go_from _ targets = no_block

-- by block, the one in which its await goes on
abbrev pub goes : LowFunc → List ℕ
goes f = map (λ b. go_from b.term.instr.kind b.term.targets) f.blocks

-- the block whose await goes on in this one
abbrev pub awaiting : LowFunc → ℕ → Option ℕ
awaiting f k = first_place (goes f) k

-- ---- the order of the blocks

-- in a coroutine the test of what was awaited stands before the block that goes on
abbrev pub tests_before : Bool → Option ℕ → List Label
tests_before true (Some b) = Next b ∷ []
tests_before _ _ = []

-- failure blocks stand apart
abbrev pub stands_among : Bool → End → Bool
stands_among failing end.Fails = failing
stands_among failing _ = not failing

abbrev pub labels : LowFunc → Bool → ℕ → List Block → List Label
labels f failing k [] = []
labels f failing k (b ∷ blocks) =
    cond (stands_among failing (end_of f b)) (tests_before f.coroutine (awaiting f k) ++ Body k ∷ []) [] ++ labels f failing (k + 1) blocks

-- errors are set in a block of their own, where there is a failure block
abbrev pub errors_for : List Label → List Label
errors_for [] = []
errors_for (l ∷ failing) = SetsError ∷ []

abbrev pub coroutine_layout : List Label → List Label → List Label
coroutine_layout body failing = (Entry ∷ body) ++ errors_for failing ++ (Cleanup ∷ Suspended ∷ failing)

abbrev pub layout : LowFunc → List Label
layout f = cond f.coroutine (coroutine_layout (labels f false 0 f.blocks) (labels f true 0 f.blocks)) (labels f false 0 f.blocks)

-- ---- a label's number is its place there

abbrev pub key : Label → ℕ
key Entry = 0
key SetsError = 1
key Cleanup = 2
key Suspended = 3
key (Body k) = 2 * k + 4
key (Next k) = 2 * k + 5

abbrev pub place : LowFunc → Label → ℕ
place f l = place_in (map key (layout f)) (key l)
