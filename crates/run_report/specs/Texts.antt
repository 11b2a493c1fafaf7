-- Parts of the texts of answers. Each line ends with a newline.
use Rattle.std.specs.Prelude.{ℕ, ◌+◌, ◌-◌, ◌^◌, ◌==◌, nat_lt, if◌then◌else◌, List, [], ◌∷◌, ◌++◌, codes, decimal}
use Rattle.ir_forms.specs.declared.runs.Buffer.{Buffer}
use Rattle.ir_forms.specs.declared.runs.Out.{Out}
use Rattle.ir_forms.specs.declared.types.OutTy.{OutTy}
use Rattle.ir_forms.specs.declared.types.OutTy.TheVariants.{Int, Index}
use Rattle.int_ops.specs.declared.Width.TheVariants.{W1, W8, W16, W32, W64}

abbrev pub line : List ℕ → List ℕ
line text = text ++ 10 ∷ []

-- a text between two others
abbrev pub between : List ℕ → List ℕ → List ℕ → List ℕ
between before middle after = before ++ middle ++ after

-- a number in decimal, between two texts
abbrev pub numbered : List ℕ → ℕ → List ℕ → List ℕ
numbered before n after = before ++ decimal n ++ after

-- a number of this many bits, read as signed, in decimal
abbrev pub signed_text : ℕ → ℕ → List ℕ
signed_text bits n = if nat_lt n (2 ^ (bits - 1)) then decimal n else codes "-" ++ decimal (2 ^ bits - n)

-- a number that a run gives back: one of i1 as a truth, all others signed
abbrev pub number_text : OutTy → ℕ → List ℕ
number_text (Int W1) n = if n == 0 then codes "false" else codes "true"
number_text (Int W8) n = signed_text 8 n
number_text (Int W16) n = signed_text 16 n
number_text (Int W32) n = signed_text 32 n
number_text (Int W64) n = signed_text 64 n
number_text Index n = signed_text 64 n

abbrev pub result_line : ℕ → Out → List ℕ
result_line k out = line (numbered (codes "result ") k (codes ": ") ++ number_text out.ty out.bits)

-- a line for each result, numbered from here on
abbrev pub result_lines : ℕ → List Out → List ℕ
result_lines k [] = []
result_lines k (out ∷ outs) = result_line k out ++ result_lines (k + 1) outs

-- the others, each behind a comma
abbrev pub more_listed : List Out → List ℕ
more_listed [] = []
more_listed (out ∷ outs) = codes ", " ++ number_text out.ty out.bits ++ more_listed outs

-- numbers with commas
abbrev pub listed : List Out → List ℕ
listed [] = []
listed (out ∷ outs) = number_text out.ty out.bits ++ more_listed outs

-- the cells of a parameter
abbrev pub buffer_line : Buffer → List ℕ
buffer_line b = line (between (numbered (codes "argument ") b.argument (codes ": [")) (listed b.cells) (codes "]"))

abbrev pub buffer_lines : List Buffer → List ℕ
buffer_lines [] = []
buffer_lines (b ∷ bs) = buffer_line b ++ buffer_lines bs

-- where a run failed, and why
abbrev pub failed_line : ℕ → List ℕ → List ℕ
failed_line op note = numbered (codes "failed at operation ") op (codes ": ") ++ note ++ codes "\n"
