-- Texts behind one another, each with the name of its pass.
use Rattle.std.specs.Prelude.{ℕ, List, ◌++◌, codes, string_bytes}
use Rattle.pass_line.specs.declared.texts.Texts.{Texts}

-- a text behind the line that names its pass
abbrev pub headed : List ℕ → List ℕ → List ℕ
headed name text = codes "// " ++ (name ++ (codes "\n" ++ text))

abbrev pub all_texts : Texts → List ℕ
all_texts texts =
    headed (codes "async-parallel-for") (string_bytes texts.split)
    ++ (headed (codes "async-to-async-runtime") (string_bytes texts.runtime)
    ++ (headed (codes "async-runtime-ref-counting") (string_bytes texts.counted)
    ++ headed (codes "async-runtime-ref-counting-opt") (string_bytes texts.optimised)))
