-- What the pass of coroutines makes of half-lowered code.
use Rattle.std.specs.Prelude.{◌≡◌, ◌+◌, ℕ, Bool, true, map, cond, Some, slice_get}
use Rattle.low_forms.specs.declared.code.LowFunc.{LowFunc}
use Rattle.low_forms.specs.declared.code.LowModule.{LowModule}
use Rattle.low_forms.specs.Registers.{every}
use Rattle.low_forms.specs.Edges.{no_critical_edge, none_to_start}
use Rattle.low_forms.specs.Saves.{is_suspend, all_followed, nowhere_else, saves_start}
use Rattle.low_forms.specs.Numbers.{counts_small, block_within}
use Rattle.low_forms.specs.Fits.{block_fits}
use Rattle.low_forms.specs.WellFormed.{IsWellFormed, WellFormed}
use Rattle.coro_lower.specs.declared.label.Label.{Label}
use Rattle.coro_lower.specs.Layout.{layout, place}
use Rattle.coro_lower.specs.Shape.{label_block, lowered, runtime_func, runtime_code}
use Rattle.coro_laws.specs.Half.{holds_none, IsHalfLowered, HalfLowered}
use Rattle.coro_laws.specs.Counts.{count_of, ends_with, is_await, is_waiting}

-- ---- blocks and their numbers

-- each label stands once in the layout: its number is its place there, and there its block stands
abbrev pub LabelsStand : Type 0
LabelsStand = (f : LowFunc) (n : ℕ) (l : Label) → slice_get (layout f) n ≡ Some l → (place f l ≡ n) × (slice_get (lowered f).blocks n ≡ Some (label_block f l))

-- ---- coroutines, and where they are suspended

abbrev pub is_task : LowFunc → Bool
is_task f = f.coroutine

-- there are as many functions, and coroutines stay coroutines
abbrev pub CoroutinesStay : Type 0
CoroutinesStay = (code : LowModule) → map is_task (runtime_code code).funcs ≡ map is_task code.funcs

-- a coroutine has a suspend for each await, and one more; no other function has one
abbrev pub OneSuspendEach : Type 0
OneSuspendEach = (f : LowFunc) → every holds_none f.blocks ≡ true → count_of is_suspend (runtime_func f).blocks ≡ cond f.coroutine (ends_with is_await f.blocks + 1) 0

-- in a coroutine nothing waits
abbrev pub CoroutinesNeverWait : Type 0
CoroutinesNeverWait = (f : LowFunc) → every holds_none f.blocks ≡ true → f.coroutine ≡ true → count_of is_waiting (runtime_func f).blocks ≡ 0

-- no block ends with an await
abbrev pub NoAwaitsLeft : Type 0
NoAwaitsLeft = (f : LowFunc) → ends_with is_await (runtime_func f).blocks ≡ 0

-- ---- well formed code

-- saves, and what must follow them
pub record SavesKeep (f : LowFunc) : Type 0 where
  pub saves : all_followed true f.blocks ≡ true
  pub alone : every nowhere_else f.blocks ≡ true
  pub first_save : saves_start f.blocks ≡ true

abbrev pub SavesFollowed : Type 0
SavesFollowed = (f : LowFunc) → every holds_none f.blocks ≡ true → SavesKeep (runtime_func f)

-- edges, and counts
abbrev pub EdgesKept : Type 0
EdgesKept = (code : LowModule) (f : LowFunc) → IsWellFormed code f → IsHalfLowered f → (none_to_start (runtime_func f) ≡ true) × (no_critical_edge (runtime_func f) ≡ true)

-- the code before its registers are numbered
abbrev pub lowered_code : LowModule → LowModule
lowered_code code = record { funcs = map lowered code.funcs }

-- numbers in range, and types that fit their rows
abbrev pub FitsKept : Type 0
FitsKept =
    (code : LowModule) (k : ℕ) (f : LowFunc) → WellFormed code → HalfLowered code → slice_get code.funcs k ≡ Some f
    → (every (block_within (lowered_code code) (lowered f)) (lowered f).blocks ≡ true) × (every (block_fits (lowered_code code) (lowered f)) (lowered f).blocks ≡ true)

abbrev pub CountsSmall : Type 0
CountsSmall = (f : LowFunc) → every counts_small f.blocks ≡ true → every counts_small (runtime_func f).blocks ≡ true

-- what the pass makes of well formed code is well formed
abbrev pub RuntimeWellFormed : Type 0
RuntimeWellFormed = (code : LowModule) → WellFormed code → HalfLowered code → WellFormed (runtime_code code)
