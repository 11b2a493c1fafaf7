-- What a block needs, by marks of the registers that are given.
use Rattle.std.specs.Prelude.{ℕ, Bool, true, false, List, [], ◌∷◌, ◌++◌, length, replicate, Option, Some, slice_get, slice_set, if◌then◌else◌}
use Rattle.low_forms.specs.declared.code.Reg.{Reg}
use Rattle.low_forms.specs.declared.code.Instr.{Instr}
use Rattle.low_forms.specs.declared.code.Target.{Target}
use Rattle.low_forms.specs.declared.code.Block.{Block}
use Rattle.low_forms.specs.declared.code.LowFunc.{LowFunc}

abbrev pub is_free : Option Bool → Bool
is_free (Some false) = true
is_free _ = false

abbrev pub with_one : ℕ → List Bool → List Bool
with_one k marks = if is_free (slice_get marks k) then slice_set marks k true else marks

abbrev pub with_given : List Reg → List Bool → List Bool
with_given [] marks = marks
with_given (r ∷ rs) marks = with_given rs (with_one r.0 marks)

abbrev pub free_of : List Bool → List Reg → List ℕ
free_of marks [] = []
free_of marks (r ∷ rs) = if is_free (slice_get marks r.0) then r.0 ∷ free_of marks rs else free_of marks rs

abbrev pub free_args : List Bool → List Target → List ℕ
free_args marks [] = []
free_args marks (t ∷ targets) = free_of marks t.args ++ free_args marks targets

abbrev pub with_results : List Instr → List Bool → List Bool
with_results [] marks = marks
with_results (i ∷ instrs) marks = with_results instrs (with_given i.results marks)

abbrev pub free_by : List Bool → List Instr → List ℕ
free_by marks [] = []
free_by marks (i ∷ instrs) = free_of marks i.operands ++ free_by (with_given i.results marks) instrs

-- the parameters of a function are given in all of its blocks
abbrev pub params_given : LowFunc → List Bool
params_given f = with_given f.params (replicate (length f.regs) false)

abbrev pub given_at_start : LowFunc → Block → List Bool
given_at_start f b = with_given b.params (params_given f)

-- what a block needs, with these registers given before it
abbrev pub frees_from : List Bool → Block → List ℕ
frees_from given b =
    let marks : List Bool = with_given b.params given in
    let last : List Bool = with_results b.instrs marks in
    (free_by marks b.instrs ++ free_of last b.term.instr.operands) ++ free_args last b.term.targets

abbrev pub block_frees : LowFunc → Block → List ℕ
block_frees f b = frees_from (params_given f) b
