-- A module has one code, and its texts are the same.
use Rattle.std.proofs.Common.{◌≡◌, Bool, List, sym, ap, subst, ◌∙◌, ◌++◌}
use Rattle.std.specs.Prelude.{ℕ, codes, string_bytes}
use Rattle.ir_forms.specs.declared.ops.Module.{Module}
use Rattle.ir_verify.specs.Calls.{graph_of}
use Rattle.number_laws.proofs.Calls.{one-marks}
use Rattle.loop_blocks.specs.declared.options.Options.{Options}
use Rattle.parallel_for.specs.Shape.{IsSplit, split}
use Rattle.low_forms.specs.declared.code.LowModule.{LowModule}
use Rattle.mlir_print.specs.Printed.{printed}
use Rattle.low_print.specs.Printed.{printed_code}
use Rattle.pass_line.specs.declared.line.Compiled.{Compiled}
use Rattle.pass_line.specs.declared.texts.Texts.{Texts}
use Rattle.pass_line.specs.Line.{AreTexts, IsCompiled, IsLowered, code_of, prepared, runtime_of}
use Rattle.pass_line.specs.Texts.{all_texts, headed}
use Rattle.line_laws.specs.Laws.{OneCode, SameTexts, TextsWithCode}

one_split : (options : Options) (program a b : Module) → IsSplit options program a → IsSplit options program b → a ≡ b
one_split options program a b x y =
    x.is ∙ ap (λ (called : List Bool). split options called program) (one-marks (graph_of program.funcs) x.called y.called x.marks y.marks) ∙ sym y.is

pub one_code : OneCode
one_code options program a b x y = x.is ∙ ap code_of (one_split options (prepared program) x.halved y.halved x.split y.split) ∙ sym y.is

pub texts_with_code : TextsWithCode
texts_with_code options program made x = record { halved = x.halved; split = x.split; is = x.is }

-- the texts of this module
abbrev bodies : List ℕ → List ℕ → List ℕ → List ℕ → List ℕ
bodies split runtime counted optimised =
    headed (codes "async-parallel-for") split
    ++ (headed (codes "async-to-async-runtime") runtime
    ++ (headed (codes "async-runtime-ref-counting") counted
    ++ headed (codes "async-runtime-ref-counting-opt") optimised))

abbrev owed : Module → List ℕ
owed halved = bodies (printed halved) (printed_code (runtime_of halved)) (printed_code (code_of halved)) (printed_code (code_of halved))

are_owed : (halved : Module) (texts : Texts) → AreTexts halved texts → all_texts texts ≡ owed halved
are_owed halved texts x =
    ap (λ (t : List ℕ). bodies t (string_bytes texts.runtime) (string_bytes texts.counted) (string_bytes texts.optimised)) x.split
    ∙ ap (λ (t : List ℕ). bodies (printed halved) t (string_bytes texts.counted) (string_bytes texts.optimised)) x.runtime
    ∙ ap (λ (t : List ℕ). bodies (printed halved) (printed_code (runtime_of halved)) t (string_bytes texts.optimised)) x.counted
    ∙ ap (λ (t : List ℕ). bodies (printed halved) (printed_code (runtime_of halved)) (printed_code (code_of halved)) t) x.optimised

pub same_texts : SameTexts
same_texts options program a b x y =
    are_owed x.halved a.texts x.texts ∙ ap owed (one_split options (prepared program) x.halved y.halved x.split y.split) ∙ sym (are_owed y.halved b.texts y.texts)
