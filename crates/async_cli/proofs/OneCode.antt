-- A module has one code and one listing for the same options.
use Rattle.std.proofs.Common.{◌≡◌, ◌++◌, ℕ, List, Bool, true, false, codes, string_bytes, sym, ap, subst, ◌∙◌}
use Rattle.ir_forms.specs.declared.args.ArgValue.{ArgValue}
use Rattle.ir_forms.specs.declared.ops.Module.{Module}
use Rattle.ir_forms.specs.declared.runs.FuncNo.{FuncNo}
use Rattle.low_forms.specs.declared.code.LowModule.{LowModule}
use Rattle.loop_blocks.specs.declared.options.Options.{Options}
use Rattle.ir_verify.specs.Calls.{graph_of}
use Rattle.parallel_for.specs.Shape.{IsSplit, split}
use Rattle.pass_line.specs.declared.texts.Texts.{Texts}
use Rattle.pass_line.specs.Line.{AreTexts, IsLowered, code_of, prepared}
use Rattle.pass_line.specs.Texts.{all_texts, headed}
use Rattle.async_cli.specs.Calls.{Call, Code, IsCodeOf, IsListing, IsPrinted}
use Rattle.async_cli.proofs.OneRun.{one_marks}

one_split : (options : Options) (program m n : Module) → IsSplit options program m → IsSplit options program n → m ≡ n
one_split options program m n a b =
    let marks = one_marks (graph_of program.funcs) a.called b.called a.marks b.marks in
    a.is ∙ ap (λ called. split options called program) marks ∙ sym b.is

one_low : (options : Options) (program : Module) (a b : LowModule) → IsLowered options program a → IsLowered options program b → a ≡ b
one_low options program a b x y =
    x.is ∙ ap code_of (one_split options (prepared program) x.halved y.halved x.split y.split) ∙ sym y.is

abbrev code_with : LowModule → FuncNo → List ArgValue → Code
code_with low function values = record { low = low; function = function; values = values }

pub one_code : (options : Options) (c : Call) (a b : Code) → IsCodeOf options c a → IsCodeOf options c b → a ≡ b
one_code options c a b x y =
    ap (λ low. code_with low a.function a.values) (one_low options c.program a.low b.low x.low y.low)
    ∙ ap (λ f. code_with b.low f a.values) (x.function ∙ sym y.function)
    ∙ ap (code_with b.low b.function) (x.values ∙ sym y.values)

-- the four texts by their bytes
abbrev four : List ℕ → List ℕ → List ℕ → List ℕ → List ℕ
four split runtime counted optimised =
    headed (codes "async-parallel-for") split
    ++ (headed (codes "async-to-async-runtime") runtime
    ++ (headed (codes "async-runtime-ref-counting") counted ++ headed (codes "async-runtime-ref-counting-opt") optimised))

same_texts : (halved : Module) (a b : Texts) → AreTexts halved a → AreTexts halved b → all_texts a ≡ all_texts b
same_texts halved a b x y =
    ap (λ t. four t (string_bytes a.runtime) (string_bytes a.counted) (string_bytes a.optimised)) (x.split ∙ sym y.split)
    ∙ ap (λ t. four (string_bytes b.split) t (string_bytes a.counted) (string_bytes a.optimised)) (x.runtime ∙ sym y.runtime)
    ∙ ap (λ t. four (string_bytes b.split) (string_bytes b.runtime) t (string_bytes a.optimised)) (x.counted ∙ sym y.counted)
    ∙ ap (four (string_bytes b.split) (string_bytes b.runtime) (string_bytes b.counted)) (x.optimised ∙ sym y.optimised)

pub one_listing : (options : Options) (program : Module) (s t : List ℕ) → IsListing options program s → IsListing options program t → s ≡ t
one_listing options program s t a b =
    let same : b.1.0.halved ≡ a.1.0.halved = one_split options (prepared program) b.1.0.halved a.1.0.halved b.1.0.split a.1.0.split in
    a.1.1
    ∙ same_texts a.1.0.halved a.0.texts b.0.texts a.1.0.texts (subst (λ h. AreTexts h b.0.texts) same b.1.0.texts)
    ∙ sym b.1.1

pub one_printed : (print : Bool) (options : Options) (program : Module) (s t : List ℕ) → IsPrinted print options program s →
    IsPrinted print options program t → s ≡ t
one_printed true options program s t a b = one_listing options program s t a b
one_printed false options program s t a b = a ∙ sym b
