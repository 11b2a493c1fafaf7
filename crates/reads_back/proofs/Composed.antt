-- What the laws of printing, of tokens and of the grammar make together.
use Rattle.std.proofs.Common.{◌≡◌, ◌≤◌, ◌<◌, ℕ, zero, suc, ◌+◌, ◌-◌, List, [], ◌∷◌, ◌++◌, length, take, drop, Option, Some, None, Ok, refl, sym, ap, subst, ◌∙◌, arith}
use Rattle.mlir_lex.specs.declared.kinds.Token.{Token}
use Rattle.mlir_lex.specs.declared.kinds.TokenKind.TheVariants.{End}
use Rattle.mlir_lex.specs.Laws.{OneReading}
use Rattle.ir_forms.specs.declared.ops.Module.{Module}
use Rattle.module_grammar.specs.declared.state.TextToken.{TextToken}
use Rattle.module_grammar.specs.declared.state.State.{State}
use Rattle.module_grammar.specs.Faults.{IsWithin}
use Rattle.mlir_print.specs.Printed.{module_doc, printed}
use Rattle.mlir_print.specs.Spelled.{spelled, words_of, ReadsAsSpelled, TakesWords}
use Rattle.mlir_print.specs.Printable.{AreBytes}
use Rattle.mlir_print.specs.Depth.{depth_of}
use Rattle.mlir_text.specs.Tokens.{text_tokens_behind, text_tokens_of}
use Rattle.mlir_text.specs.Texts.{ReadsTexts}
use Rattle.read_forms.specs.Reads.{HaveBytes, ReadsPrintable}
use Rattle.round_trip.specs.GivesBack.{text_tokens, IsSmall, IsSmallText, GivesBack}
use Rattle.read_forms.specs.Depths.{ReadsDepth, SeesNoDeeper}
use Rattle.print_laws.specs.Bytes.{IsPlainText, HasFewTokens}
use Rattle.reads_back.specs.ReadsBack.{widest, PrintsBack, ReadsBack}
use Rattle.reads_back.proofs.Spread.{Spread, spread}

-- ---- the printed text stands for the module

as-many : (text : List ℕ) (end : Option ℕ) (tokens : List Token) → length (text_tokens_behind text end tokens) ≡ length tokens
as-many text end [] = refl
as-many text end (t ∷ ts) = ap suc (as-many text (Some t.end) ts)

within : (s : State) (n bytes deep : ℕ) → IsSmall s n → s.deepest ≤ deep → n ≤ bytes + 1 → bytes < 4294967296 → deep ≤ 512 → IsWithin widest s
within s n bytes deep small depth few short shallow =
    let operations = small.operations in
    let functions = small.functions in
    let values = small.values in
    record {
      operations = omega (arith, operations, few, short);
      functions = omega (arith, functions, few, short);
      depth = omega (arith, depth, shallow);
      values = omega (arith, values, few, short);
    }

-- what the laws of other crates say
pub record Known : Type 0 where
  pub one_reading : OneReading
  pub reads_as_spelled : ReadsAsSpelled
  pub takes_words : TakesWords
  pub is_plain_text : IsPlainText
  pub has_few_tokens : HasFewTokens
  pub sees_no_deeper : SeesNoDeeper
  pub gives_back : GivesBack

pub stands-for : Known → PrintsBack
stands-for k level m printable shallow short =
    (ts, (spelled m, (k.is_plain_text m, (k.one_reading (printed m) (Ok (spelled m))).1 (k.reads_as_spelled m)), refl), (g.0, g.1, g.2, within g.0 (length ts) (length (printed m)) (depth_of m) g.3 deep many short shallow))
  where
    ts : List TextToken
    ts = text_tokens_of (printed m) (spelled m)

    s : Spread (printed m) None (spelled m) 0
    s = spread (printed m) None (spelled m) 0

    same : text_tokens s.at s.joined 0 (words_of (module_doc m) ++ (End, []) ∷ []) ≡ ts
    same = ap (text_tokens s.at s.joined 0) (sym (k.takes_words m)) ∙ s.same

    g : IsSmallText level ts m
    g = subst (λ (l : List TextToken). IsSmallText level l m) same (k.gives_back level m s.at s.joined printable)

    deep : g.0.deepest ≤ depth_of m
    deep = subst (λ (n : Module). g.0.deepest ≤ depth_of n) (sym g.2) (k.sees_no_deeper level ts g.0 g.1)

    many : length ts ≤ length (printed m) + 1
    many = let h = k.has_few_tokens (printed m) (spelled m) (k.reads_as_spelled m) in let size = as-many (printed m) None (spelled m) in omega (arith, h, size)

-- ---- the bytes of tokens

bytes-of-front : (n : ℕ) (bs : List ℕ) → AreBytes bs → AreBytes (take n bs)
bytes-of-front zero bs are = tt
bytes-of-front (suc n) [] are = tt
bytes-of-front (suc n) (b ∷ bs) are = (are.0, bytes-of-front n bs are.1)

bytes-behind : (n : ℕ) (bs : List ℕ) → AreBytes bs → AreBytes (drop n bs)
bytes-behind zero bs are = are
bytes-behind (suc n) [] are = tt
bytes-behind (suc n) (b ∷ bs) are = bytes-behind n bs are.1

pub bytes-of-tokens : (text : List ℕ) (end : Option ℕ) (tokens : List Token) → AreBytes text → HaveBytes (text_tokens_behind text end tokens)
bytes-of-tokens text end [] are = tt
bytes-of-tokens text end (t ∷ ts) are = (bytes-of-front (t.end - t.start) (drop t.start text) (bytes-behind t.start text are), bytes-of-tokens text (Some t.end) ts are)

-- ---- what is read, and printed

pub reads-again : PrintsBack → ReadsPrintable → ReadsDepth → ReadsTexts → ReadsBack
reads-again prints printable deep reads limits level text m answer few shallow bytes (ts, (tokens, cut, are), (s, leads, is, in_limits)) known short parsed =
    reads widest level (printed m) m answer (prints level m (printable level ts m have (s, leads, is, omega (arith, values, few)) known) depth short) parsed
  where
    values : s.counted ≤ limits.values
    values = in_limits.values

    have : HaveBytes ts
    have = subst HaveBytes (sym are) (bytes-of-tokens text None tokens bytes)

    depth : depth_of m ≤ 512
    depth =
        let most = in_limits.depth in
        let h = deep level ts s leads (omega (arith, most, shallow)) in
        let same = ap depth_of is in
        omega (arith, h, most, shallow, same)
