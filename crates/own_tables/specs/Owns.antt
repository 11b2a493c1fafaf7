-- When numbers, by block, place and register, say how many references a frame of a function owns there.
use Rattle.std.specs.Prelude.{◌≡◌, ℕ, zero, suc, ◌+◌, ◌-◌, ◌==◌, nat_le, ◌&&◌, ◌||◌, not, if◌then◌else◌, Bool, true, false, List, [], ◌∷◌, ◌++◌, length, Some, slice_get}
use Rattle.op_table.specs.declared.kind.OpKind.TheVariants.{AsyncRuntimeCreate}
use Rattle.low_flow.specs.Lists.{has, list_at}
use Rattle.low_flow.specs.Paths.{IsPath, last_of}
use Rattle.low_forms.specs.declared.code.Reg.{Reg}
use Rattle.low_forms.specs.declared.code.LowKind.{LowKind}
use Rattle.low_forms.specs.declared.code.LowKind.TheVariants.{Row}
use Rattle.low_forms.specs.declared.code.Instr.{Instr}
use Rattle.low_forms.specs.declared.code.Term.{Term}
use Rattle.low_forms.specs.declared.code.Block.{Block}
use Rattle.low_forms.specs.declared.code.LowFunc.{LowFunc}
use Rattle.low_forms.specs.declared.code.LowModule.{LowModule}
use Rattle.low_forms.specs.declared.row.Targets.{Targets}
use Rattle.low_forms.specs.declared.row.Targets.TheVariants as to
use Rattle.low_forms.specs.Rows.{row_of}
use Rattle.low_forms.specs.Registers.{on_type}
use Rattle.low_forms.specs.Assigned.{numbers}
use Rattle.low_forms.specs.Edges.{edges, count_to}
use Rattle.low_forms.specs.Saves.{is_save, is_suspend}
use Rattle.low_forms.specs.Owns.{is_object, references, uses, takes, takes_at_end, gives, adds, drops}
use Rattle.low_forms.specs.WellFormed.{WellFormed}
use Rattle.own_tables.specs.declared.table.OwnTable.{OwnTable}
use Rattle.own_tables.specs.Numbers.{number_of}

-- a register of an object
abbrev pub is_object_reg : LowFunc → ℕ → Bool
is_object_reg f r = on_type is_object (slice_get f.regs r)

-- some path leads to the block from the first one
pub record IsReached (f : LowFunc) (c : ℕ) : Type 0 where
  pub path : List ℕ
  pub follows : IsPath (edges f) 0 path
  pub ends : last_of 0 path ≡ c

-- ---- instructions: n is the number of the register before one

abbrev pub is_first : ℕ → List Reg → Bool
is_first r [] = false
is_first r (q ∷ qs) = r == q.0

-- what goes from the frame
abbrev pub lost : LowFunc → Instr → ℕ → ℕ
lost f i r = count_to r (takes f i) + (if is_first r i.operands then drops i else 0)

-- what comes to it
abbrev pub got : LowFunc → Instr → ℕ → ℕ
got f i r = count_to r (gives f i) + (if is_first r i.operands then adds i else 0)

-- The frame owns one of what is used, and as many as go from it. It owns none of a register that is defined.
abbrev pub allows : LowFunc → Instr → ℕ → ℕ → Bool
allows f i r n = (not (has r (uses i)) || nat_le 1 n) && nat_le (lost f i r) n && (not (has r (numbers i.results)) || (n == 0))

abbrev pub after : LowFunc → Instr → ℕ → ℕ → ℕ
after f i r n = (n - lost f i r) + got f i r

-- ---- saves: from a save to its suspend the numbers count the frame and its copy together

abbrev pub is_create : LowKind → Bool
is_create (Row AsyncRuntimeCreate) = true
is_create _ = false

-- what is created before the first save
abbrev pub made : List Instr → List ℕ
made [] = []
made (i ∷ instrs) = if is_save i.kind then [] else (if is_create i.kind then numbers i.results else []) ++ made instrs

-- one reference of each of these is the frame's part
abbrev pub kept : List Instr → ℕ → ℕ
kept instrs r = if has r (made instrs) then 1 else 0

abbrev pub save_allows : ℕ → List Instr → Instr → ℕ → ℕ → Bool
save_allows c instrs i r n = not (is_save i.kind && (c == 0)) || nat_le (kept instrs r) n

-- ---- terminators

abbrev pub allows_at_end : LowFunc → Term → ℕ → ℕ → Bool
allows_at_end f t r n = (not (has r (uses t.instr)) || nat_le 1 n) && nat_le (count_to r (takes_at_end f t)) n

abbrev pub left : LowFunc → Term → ℕ → ℕ → ℕ
left f t r n = n - count_to r (takes_at_end f t)

-- a frame that ends owns nothing more
abbrev pub is_end : Targets → Bool
is_end to.Ends = true
is_end _ = false

abbrev pub ends_well : LowFunc → Term → ℕ → ℕ → Bool
ends_well f t r n = not (is_end (row_of t.instr.kind).targets) || (left f t r n == 0)

-- The j-th edge carries what is left; where a frame is first suspended, the first one the frame's part, and the second
-- one what the copy has beside it.
abbrev pub part : List Instr → ℕ → ℕ → ℕ → ℕ
part instrs zero r n = kept instrs r
part instrs (suc j) r n = n - kept instrs r

abbrev pub carried : LowFunc → ℕ → Block → ℕ → ℕ → ℕ → ℕ
carried f c b j r n = if is_suspend b.term.instr.kind && (c == 0) then part b.instrs j r n else left f b.term r n

-- a block's parameters come with one reference each, and the frame owns none of them before
abbrev pub arrives : LowFunc → Block → ℕ → ℕ → ℕ → Bool
arrives f e r n m = (not (has r (numbers e.params)) || (n == 0)) && (m == n + count_to r (references f e.params))

-- ---- a function

pub record Owns (f : LowFunc) (own : ℕ → ℕ → ℕ → ℕ) : Type 0 where
  pub starts : (r : ℕ) → is_object_reg f r ≡ true → own 0 0 r ≡ count_to r (references f f.params)
  pub rows : (c k r : ℕ) (b : Block) (i : Instr) → IsReached f c → slice_get f.blocks c ≡ Some b → slice_get b.instrs k ≡ Some i → is_object_reg f r ≡ true
      → (allows f i r (own c k r) ≡ true) × (save_allows c b.instrs i r (own c k r) ≡ true) × (own c (suc k) r ≡ after f i r (own c k r))
  pub ends : (c r : ℕ) (b : Block) → IsReached f c → slice_get f.blocks c ≡ Some b → is_object_reg f r ≡ true
      → (allows_at_end f b.term r (own c (length b.instrs) r) ≡ true) × (ends_well f b.term r (own c (length b.instrs) r) ≡ true)
  pub goes : (c d j r : ℕ) (b e : Block) → IsReached f c → slice_get f.blocks c ≡ Some b → slice_get (list_at (edges f) c) j ≡ Some d → slice_get f.blocks d ≡ Some e
      → is_object_reg f r ≡ true → arrives f e r (carried f c b j r (own c (length b.instrs) r)) (own d 0 r) ≡ true

-- ---- code

-- well formed code, and a table that fits it
pub record Fits (code : LowModule) (table : OwnTable) : Type 0 where
  pub well_formed : WellFormed code
  pub owns : (k : ℕ) (f : LowFunc) → slice_get code.funcs k ≡ Some f → Owns f (number_of table k)
