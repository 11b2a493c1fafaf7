-- A function with counts has the types, edges and blocks of the one without.
use Rattle.std.proofs.Common.{◌≡◌, ℕ, zero, suc, ◌+◌, ◌==◌, ◌&&◌, if◌then◌else◌, Bool, true, false, List, [], ◌∷◌, ◌++◌, Some, refl, sym, ap, ◌∙◌, arith}
use Rattle.std.specs.Prelude.{slice_get}
use Rattle.low_forms.specs.declared.code.Reg.{Reg}
use Rattle.low_forms.specs.declared.code.Instr.{Instr}
use Rattle.low_forms.specs.declared.code.Term.{Term}
use Rattle.low_forms.specs.declared.code.Block.{Block}
use Rattle.low_forms.specs.declared.code.LowFunc.{LowFunc}
use Rattle.low_forms.specs.Rows.{row_of}
use Rattle.low_forms.specs.Registers.{reg_type, on_type}
use Rattle.low_forms.specs.Edges.{edges, edges_in, edges_from, count_to}
use Rattle.low_forms.specs.Owns.{is_object, references, takes, takes_at_end, gives, first_args, adds, drops}
use Rattle.own_tables.specs.Owns.{is_first, lost, got}
use Rattle.ref_counting.specs.Shape.{counted_block, counted_blocks, counted_func}

-- ---- types

module _ (f g : LowFunc) (same : g.regs ≡ f.regs) where
  pub references_same : (rs : List Reg) → references g rs ≡ references f rs
  references_same [] = refl
  references_same (r ∷ rs) =
      ap (λ b. if b then r.0 ∷ references g rs else references g rs) (ap (λ types. on_type is_object (slice_get types r.0)) same)
      ∙ ap (λ rest. if on_type is_object (reg_type f r) then r.0 ∷ rest else rest) (references_same rs)

  pub takes_same : (i : Instr) → takes g i ≡ takes f i
  takes_same i = ap (λ rest. if (row_of i.kind).takes then rest else []) (references_same i.operands)

  pub gives_same : (i : Instr) → gives g i ≡ gives f i
  gives_same i = ap (λ rest. if (row_of i.kind).gives then rest else []) (references_same i.results)

  pub lost_same : (i : Instr) (r : ℕ) → lost g i r ≡ lost f i r
  lost_same i r = ap (λ rest. lost_of rest) (takes_same i)
    where
      lost_of : List ℕ → ℕ
      lost_of rest = count_to r rest + (if is_first r i.operands then drops i else 0)

  pub got_same : (i : Instr) (r : ℕ) → got g i r ≡ got f i r
  got_same i r = ap (λ rest. got_of rest) (gives_same i)
    where
      got_of : List ℕ → ℕ
      got_of rest = count_to r rest + (if is_first r i.operands then adds i else 0)

  pub takes_at_end_same : (t : Term) → takes_at_end g t ≡ takes_at_end f t
  takes_at_end_same t =
      ap (λ rest. rest ++ (if (row_of t.instr.kind).takes then references g (first_args t.targets) else [])) (takes_same t.instr)
      ∙ ap (λ rest. takes f t.instr ++ (if (row_of t.instr.kind).takes then rest else [])) (references_same (first_args t.targets))

-- ---- blocks

pub counted_at : (f : LowFunc) (c k : ℕ) (blocks : List Block) (made : Block) → slice_get (counted_blocks f c blocks) k ≡ Some made
    → (b : Block) × (slice_get blocks k ≡ Some b) × (made ≡ counted_block f (c + k) b)
counted_at f c k [] made is = cc
counted_at f c zero (b ∷ blocks) made is = (b, refl, (let e : c ≡ c + 0 = omega arith in (let s : counted_block f c b ≡ made = cc in sym s ∙ ap (λ n. counted_block f n b) e)))
counted_at f c (suc k) (b ∷ blocks) made is =
    let e : (d : Block) × (slice_get blocks k ≡ Some d) × (made ≡ counted_block f (c + 1 + k) d) = counted_at f (c + 1) k blocks made is in
    let n : c + 1 + k ≡ c + suc k = omega arith in
    (e.0, e.1, e.2 ∙ ap (λ m. counted_block f m e.0) n)

pub counted_there : (f : LowFunc) (c k : ℕ) (blocks : List Block) (b : Block) → slice_get blocks k ≡ Some b → slice_get (counted_blocks f c blocks) k ≡ Some (counted_block f (c + k) b)
counted_there f c k [] b is = cc
counted_there f c zero (d ∷ blocks) b is =
    let e : d ≡ b = cc in
    let n : c ≡ c + 0 = omega arith in
    ap (λ (x : Block). Some (counted_block f c x)) e ∙ ap (λ m. Some (counted_block f m b)) n
counted_there f c (suc k) (d ∷ blocks) b is =
    let n : c + 1 + k ≡ c + suc k = omega arith in
    counted_there f (c + 1) k blocks b is ∙ ap (λ m. Some (counted_block f m b)) n

pub edges_same : (f : LowFunc) (first : Bool) (c : ℕ) (blocks : List Block) → edges_in first (counted_blocks f c blocks) ≡ edges_in first blocks
edges_same f first c [] = refl
edges_same f first c (b ∷ blocks) = ap (λ rest. edges_from first b.term ∷ rest) (edges_same f false (c + 1) blocks)

pub blocks_are : (f : LowFunc) → (counted_func f).blocks ≡ counted_blocks f 0 f.blocks
unfolding counted_func
blocks_are f = refl

pub regs_are : (f : LowFunc) → (counted_func f).regs ≡ f.regs
unfolding counted_func
regs_are f = refl

pub params_are : (f : LowFunc) → (counted_func f).params ≡ f.params
unfolding counted_func
params_are f = refl

pub edges_are : (f : LowFunc) → edges (counted_func f) ≡ edges f
edges_are f = ap (λ blocks. edges_in true blocks) (blocks_are f) ∙ edges_same f true 0 f.blocks
