-- The numbers that the pass of counts goes by are an ownership table of what it makes.
use Rattle.std.specs.Prelude.{◌≡◌, ◌⊎◌, ℕ, zero, suc, if◌then◌else◌, Bool, true, false, List, [], ◌∷◌, take, Option, Some, None, slice_get}
use Rattle.low_flow.specs.Lists.{has, list_at}
use Rattle.low_forms.specs.declared.code.Reg.{Reg}
use Rattle.low_forms.specs.declared.code.Instr.{Instr}
use Rattle.low_forms.specs.declared.code.Block.{Block}
use Rattle.low_forms.specs.declared.code.LowFunc.{LowFunc}
use Rattle.low_forms.specs.Rows.{row_of}
use Rattle.low_forms.specs.Registers.{every}
use Rattle.low_forms.specs.Assigned.{numbers}
use Rattle.low_forms.specs.Edges.{edges, count_to}
use Rattle.low_forms.specs.Owns.{uses, references}
use Rattle.low_forms.specs.Saves.{is_save, is_suspend}
use Rattle.live_truths.specs.Truths.{is_live}
use Rattle.own_tables.specs.Owns.{Owns, is_end}
use Rattle.ref_counting.specs.Objects.{is_counted}
use Rattle.ref_counting.specs.Shape.{is_live_over, beside, suspended, counted_func}
use Rattle.count_laws.specs.Laws.{along, one_if, arriving, IsPlain, IsPlainEnd}

-- the blocks over whose edges what is live comes to a block: those beside it, or it alone
abbrev pub or_alone : ℕ → List ℕ → List ℕ
or_alone c [] = c ∷ []
or_alone c (d ∷ ds) = d ∷ ds

abbrev pub coming : LowFunc → ℕ → ℕ → Option Block → ℕ
coming f c r None = 0
coming f c r (Some b) = arriving f r b.params (or_alone c (beside f c))

-- the number of a register where a block begins, before the drops there
abbrev pub number_at_start : LowFunc → ℕ → ℕ → ℕ
number_at_start f zero r = one_if (has r (numbers f.params))
number_at_start f (suc c) r = coming f (suc c) r (slice_get f.blocks (suc c))

abbrev pub number_in : LowFunc → ℕ → ℕ → ℕ → Option Block → ℕ
number_in f c k r None = 0
number_in f c k r (Some b) = along f r (take k b.instrs) (number_at_start f c r)

-- at a place of a block with counts: as the instructions before it have made it
abbrev pub own_number : LowFunc → ℕ → ℕ → ℕ → ℕ
own_number f c k r = number_in f c k r (slice_get (counted_func f).blocks c)

abbrev pub has_no_save : Block → Bool
has_no_save b = every (λ i. if is_save i.kind then false else true) b.instrs

-- each of these registers once
abbrev pub IsOnce : LowFunc → List Reg → ℕ → Type 0
IsOnce f rs r = count_to r (references f rs) ≡ one_if (has r (numbers rs))

-- A function that is no coroutine, without counts. Its instructions use or take each reference that they name, and define
-- only what isn't live before; its terminators take what they name. Each edge leads from the one block before another one,
-- or is its block's only one. Only parameters are live where it begins, and a block's parameters aren't live beside it.
pub record IsUncounted (f : LowFunc) : Type 0 where
  pub plain : f.coroutine ≡ false
  pub unsaved : (c : ℕ) (b : Block) → slice_get f.blocks c ≡ Some b → has_no_save b ≡ true
  pub unsuspended : (c : ℕ) (b : Block) → slice_get f.blocks c ≡ Some b → is_suspend b.term.instr.kind ≡ false
  pub goes_on : suspended f.blocks ≡ None
  pub rows : (c k r : ℕ) (b : Block) (i : Instr) → slice_get f.blocks c ≡ Some b → slice_get b.instrs k ≡ Some i → is_counted f r ≡ true → IsPlain f c k i r
  pub ends : (c r : ℕ) (b : Block) → slice_get f.blocks c ≡ Some b → is_counted f r ≡ true → IsPlainEnd f c b.term r
  pub uses_none : (c : ℕ) (b : Block) → slice_get f.blocks c ≡ Some b → uses b.term.instr ≡ []
  pub ends_there : (c : ℕ) (b : Block) → slice_get f.blocks c ≡ Some b → is_end (row_of b.term.instr.kind).targets ≡ true → list_at (edges f) c ≡ []
  pub sides : (c d : ℕ) → has d (list_at (edges f) c) ≡ true → (beside f d ≡ list_at (edges f) c) ⊎ ((beside f d ≡ []) × (list_at (edges f) c ≡ d ∷ []))
  pub alone : (c r : ℕ) (b : Block) → slice_get f.blocks c ≡ Some b → has r (numbers b.params) ≡ true → is_live_over f r (beside f c) ≡ false
  pub once : (c r : ℕ) (b : Block) → slice_get f.blocks c ≡ Some b → is_counted f r ≡ true → IsOnce f b.params r
  pub has_start : slice_get f.blocks 0 ≡ None → ⊥
  pub start : (b : Block) → slice_get f.blocks 0 ≡ Some b → b.params ≡ []
  pub none_to_start : beside f 0 ≡ []
  pub not_to_start : (c : ℕ) → has 0 (list_at (edges f) c) ≡ false
  pub params_once : (r : ℕ) → is_counted f r ≡ true → IsOnce f f.params r
  pub starts_with : (r : ℕ) → is_counted f r ≡ true → is_live f 0 0 r ≡ true → has r (numbers f.params) ≡ true

abbrev pub PlainFunctionsOwn : Type 0
PlainFunctionsOwn = (f : LowFunc) → IsUncounted f → Owns (counted_func f) (own_number f)
