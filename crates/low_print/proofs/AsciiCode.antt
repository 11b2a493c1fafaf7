-- The bytes of printed code are ASCII.
use Rattle.std.proofs.Common.{ℕ, ◌+◌, Bool, true, false, if◌then◌else◌, List, [], ◌∷◌, take, drop, slice_get, Option, Some, None, IsUtf8, refl, codes}
use Rattle.std.proofs.lemmas.Str.{IsUtf8-from_ascii}
use Rattle.op_table.specs.declared.kind.OpKind.{OpKind}
use Rattle.op_table.specs.declared.kind.OpKind.TheVariants as op
use Rattle.op_table.specs.Laws.{ListsEachKind}
use Rattle.ir_forms.specs.declared.ops.Attr.TheVariants as attr
use Rattle.low_forms.specs.declared.code.Reg.{Reg}
use Rattle.low_forms.specs.declared.code.LowKind.{LowKind}
use Rattle.low_forms.specs.declared.code.LowKind.TheVariants as low
use Rattle.low_forms.specs.declared.code.LowAttr.{LowAttr}
use Rattle.low_forms.specs.declared.code.LowAttr.TheVariants as carries
use Rattle.low_forms.specs.declared.code.Instr.{Instr}
use Rattle.low_forms.specs.declared.code.Target.{Target}
use Rattle.low_forms.specs.declared.code.Term.{Term}
use Rattle.low_forms.specs.declared.code.Block.{Block}
use Rattle.low_forms.specs.declared.code.LowFunc.{LowFunc}
use Rattle.low_forms.specs.declared.code.LowModule.{LowModule}
use Rattle.low_forms.specs.Registers.{reg_type, type_at, callee}
use Rattle.mlir_print.specs.Docs as doc
use Rattle.mlir_print.specs.Docs.{◌<>◌, bytes_of, keyword}
use Rattle.mlir_print.specs.Types.{type_doc}
use Rattle.mlir_print.proofs.AsciiWords.{all_ascii, each-ascii, Ascii, seq, ascii-decimal, ascii-number, ascii-symbol, ascii-attr, ascii-type}
use Rattle.mlir_print.proofs.AsciiForms.{ascii-empty, ascii-blank, ascii-comma, ascii-colon, ascii-equals, ascii-arrow, ascii-to, ascii-parens, ascii-brackets, ascii-commas, ascii-shown, ascii-result_types, ascii-results}
use Rattle.mlir_print.proofs.AsciiTexts.{ascii-line, ascii-name}
use Rattle.low_print.specs.declared.form.Typed.{Typed}
use Rattle.low_print.specs.declared.form.Typed.TheVariants as by
use Rattle.low_print.specs.declared.form.LowForm.{LowForm}
use Rattle.low_print.specs.declared.form.LowForm.TheVariants as form
use Rattle.low_print.specs.Forms.{form_of, reg_doc, regs_doc, reg_ty, reg_types, ty_at, reg_result_types, uses, typed, carried, constant_type, count, func_name, func_results, call, typed_uses, cell, form_doc, block_name, target_args, target_doc, before_targets, targets_doc}
use Rattle.low_print.specs.Printed.{results_doc, kind_doc, instr_doc, term_doc, gap, param_doc, params_doc, block_params, instr_lines, block_doc, block_docs, is_private, privacy, coroutine_dict, func_head, func_doc, func_docs, printed_code}

-- ---- registers and their types

ascii-reg : (r : Reg) → Ascii (reg_doc r)
ascii-reg r = record { ascii = ascii-decimal r.0 }

ascii-regs : (rs : List Reg) → Ascii (regs_doc rs)
ascii-regs rs = ascii-commas reg_doc ascii-reg rs

ascii-reg_ty : (f : LowFunc) (r : Reg) → Ascii (reg_ty f r)
ascii-reg_ty f r = ascii-shown type_doc ascii-type (reg_type f r)

ascii-reg_types : (f : LowFunc) (rs : List Reg) → Ascii (reg_types f rs)
ascii-reg_types f rs = ascii-commas (reg_ty f) (ascii-reg_ty f) rs

ascii-ty_at : (f : LowFunc) (rs : List Reg) (k : ℕ) → Ascii (ty_at f rs k)
ascii-ty_at f rs k = ascii-shown type_doc ascii-type (type_at f rs k)

ascii-reg_result_types : (f : LowFunc) (rs : List Reg) → Ascii (reg_result_types f rs)
ascii-reg_result_types f [] = ascii-parens (ascii-reg_types f [])
ascii-reg_result_types f (r ∷ []) = ascii-reg_ty f r
ascii-reg_result_types f (r ∷ q ∷ rs) = ascii-parens (ascii-reg_types f (r ∷ q ∷ rs))

-- ---- pieces of forms

ascii-uses : (rs : List Reg) → Ascii (uses rs)
ascii-uses [] = ascii-empty
ascii-uses (r ∷ rs) = seq ascii-blank (ascii-regs (r ∷ rs))

ascii-typed : (f : LowFunc) (t : Typed) (i : Instr) → Ascii (typed f t i)
ascii-typed f by.Nothing i = ascii-empty
ascii-typed f (by.Operand k) i = seq ascii-colon (ascii-ty_at f i.operands k)
ascii-typed f by.Result i = seq ascii-colon (ascii-ty_at f i.results 0)

ascii-carried : (a : LowAttr) → Ascii (carried a)
ascii-carried carries.None = ascii-empty
ascii-carried (carries.Literal negative magnitude) = ascii-attr (attr.Literal negative magnitude)
ascii-carried (carries.Truth truth) = ascii-attr (attr.Truth truth)
ascii-carried (carries.Pred pred) = ascii-attr (attr.Pred pred)
ascii-carried (carries.Count n) = ascii-empty
ascii-carried (carries.Callee g) = ascii-empty

ascii-constant_type : (a : LowAttr) (f : LowFunc) (rs : List Reg) → Ascii (constant_type a f rs)
ascii-constant_type carries.None f rs = seq ascii-colon (ascii-ty_at f rs 0)
ascii-constant_type (carries.Literal negative magnitude) f rs = seq ascii-colon (ascii-ty_at f rs 0)
ascii-constant_type (carries.Truth truth) f rs = ascii-empty
ascii-constant_type (carries.Pred pred) f rs = seq ascii-colon (ascii-ty_at f rs 0)
ascii-constant_type (carries.Count n) f rs = seq ascii-colon (ascii-ty_at f rs 0)
ascii-constant_type (carries.Callee g) f rs = seq ascii-colon (ascii-ty_at f rs 0)

ascii-count : (a : LowAttr) → Ascii (count a)
ascii-count carries.None = ascii-empty
ascii-count (carries.Literal negative magnitude) = ascii-empty
ascii-count (carries.Truth truth) = ascii-empty
ascii-count (carries.Pred pred) = ascii-empty
ascii-count (carries.Count n) =
    seq ascii-blank (seq (record { ascii = refl }) (seq (record { ascii = refl }) (seq ascii-equals (seq (ascii-number n)
    (seq ascii-colon (seq (record { ascii = refl }) (record { ascii = refl })))))))
ascii-count (carries.Callee g) = ascii-empty

ascii-call : (code : LowModule) (f : LowFunc) (i : Instr) → Ascii (call code f i)
ascii-call code f i =
    seq ascii-blank (seq (ascii-shown func_name (λ g. ascii-symbol g.name) (callee code i.attr)) (seq (ascii-parens (ascii-regs i.operands))
    (seq ascii-colon (seq (ascii-parens (ascii-reg_types f i.operands)) ascii-arrow))))

ascii-typed_uses : (f : LowFunc) (rs : List Reg) → Ascii (typed_uses f rs)
ascii-typed_uses f [] = ascii-empty
ascii-typed_uses f (r ∷ rs) = seq ascii-blank (seq (ascii-regs (r ∷ rs)) (seq ascii-colon (ascii-reg_types f (r ∷ rs))))

ascii-form : (code : LowModule) (f : LowFunc) (k : LowForm) (i : Instr) → Ascii (form_doc code f k i)
ascii-form code f form.Constant i = seq ascii-blank (seq (ascii-carried i.attr) (ascii-constant_type i.attr f i.results))
ascii-form code f form.Compare i =
    seq ascii-blank (seq (ascii-carried i.attr) (seq ascii-comma (seq (ascii-regs i.operands) (ascii-typed f (by.Operand 0) i))))
ascii-form code f form.Cast i = seq (ascii-uses i.operands) (seq (ascii-typed f (by.Operand 0) i) (seq ascii-to (ascii-ty_at f i.results 0)))
ascii-form code f form.Alloc i = seq (ascii-parens (ascii-regs i.operands)) (ascii-typed f by.Result i)
ascii-form code f (form.Cell k) i =
    seq ascii-blank (seq (ascii-regs (take (k + 1) i.operands)) (seq (ascii-brackets (ascii-regs (drop (k + 1) i.operands))) (ascii-typed f (by.Operand k) i)))
ascii-form code f form.Launch i = seq (ascii-call code f i) (ascii-reg_result_types f i.results)
ascii-form code f form.Call i = seq (ascii-call code f i) (ascii-shown func_results (λ g. ascii-result_types g.results) (callee code i.attr))
ascii-form code f form.Return i = ascii-typed_uses f i.operands
ascii-form code f (form.Uses t) i = seq (ascii-uses i.operands) (seq (ascii-count i.attr) (ascii-typed f t i))

-- ---- targets

ascii-block_name : (n : ℕ) → Ascii (block_name n)
ascii-block_name n = record { ascii = ascii-decimal n }

ascii-target_args : (f : LowFunc) (rs : List Reg) → Ascii (target_args f rs)
ascii-target_args f [] = ascii-empty
ascii-target_args f (r ∷ rs) = ascii-parens (seq (ascii-regs (r ∷ rs)) (seq ascii-colon (ascii-reg_types f (r ∷ rs))))

ascii-target : (f : LowFunc) (t : Target) → Ascii (target_doc f t)
ascii-target f t = seq (ascii-block_name t.block.0) (ascii-target_args f t.args)

ascii-params : (spaced : Bool) (f : LowFunc) (rs : List Reg) → Ascii (params_doc spaced f rs)
ascii-params spaced f rs = ascii-parens (ascii-commas (param_doc spaced f) (λ r. seq (ascii-reg r) (seq (gapped spaced) (seq (record { ascii = refl }) (seq ascii-blank (ascii-reg_ty f r))))) rs)
  where
    gapped : (spaced : Bool) → Ascii (gap spaced)
    gapped true = ascii-blank
    gapped false = ascii-empty

ascii-block_params : (f : LowFunc) (rs : List Reg) → Ascii (block_params f rs)
ascii-block_params f [] = ascii-empty
ascii-block_params f (r ∷ rs) = ascii-params false f (r ∷ rs)

ascii-results_doc : (rs : List Reg) → Ascii (results_doc rs)
ascii-results_doc [] = ascii-empty
ascii-results_doc (r ∷ rs) = seq (ascii-regs (r ∷ rs)) ascii-equals

ascii-coroutine : (is : Bool) → Ascii (coroutine_dict is)
ascii-coroutine true = record { ascii = refl }
ascii-coroutine false = ascii-empty

ascii-privacy : (name : List ℕ) → Ascii (privacy name)
ascii-privacy name = by_case (is_private name)
  where
    by_case : (is : Bool) → Ascii (if is then keyword (codes "private") else doc.Blank)
    by_case true = record { ascii = refl }
    by_case false = ascii-blank

module _ (each : ListsEachKind) where
  ascii-before : (k : LowKind) → Ascii (before_targets k)
  ascii-before (low.Row k) = record { ascii = each (λ j. all_ascii (bytes_of (before_targets (low.Row j)))) refl k }
  ascii-before low.Launch = ascii-comma
  ascii-before low.Await = ascii-comma

  ascii-targets : (k : LowKind) (f : LowFunc) (ts : List Target) → Ascii (targets_doc k f ts)
  ascii-targets k f [] = ascii-empty
  ascii-targets k f (t ∷ ts) = seq (ascii-before k) (ascii-commas (target_doc f) (ascii-target f) (t ∷ ts))

  ascii-kind : (k : LowKind) → Ascii (kind_doc k)
  ascii-kind (low.Row k) = ascii-name each k
  ascii-kind low.Launch = ascii-empty
  ascii-kind low.Await = ascii-empty

  ascii-instr : (code : LowModule) (f : LowFunc) (i : Instr) → Ascii (instr_doc code f i)
  ascii-instr code f i = seq (ascii-results_doc i.results) (seq (ascii-kind i.kind) (ascii-form code f (form_of i.kind) i))

  ascii-term : (code : LowModule) (f : LowFunc) (t : Term) → Ascii (term_doc code f t)
  ascii-term code f t = seq (ascii-instr code f t.instr) (ascii-targets t.instr.kind f t.targets)

  ascii-lines : (code : LowModule) (f : LowFunc) (is : List Instr) → Ascii (instr_lines code f is)
  ascii-lines code f [] = ascii-empty
  ascii-lines code f (i ∷ is) = seq (record { ascii = refl }) (seq (ascii-instr code f i) (ascii-lines code f is))

  ascii-block : (code : LowModule) (f : LowFunc) (n : ℕ) (b : Block) → Ascii (block_doc code f n b)
  ascii-block code f n b =
      seq (ascii-line [] refl) (seq (ascii-block_name n) (seq (ascii-block_params f b.params) (seq (record { ascii = refl })
      (seq (ascii-lines code f b.instrs) (seq (record { ascii = refl }) (ascii-term code f b.term))))))

  ascii-blocks : (code : LowModule) (f : LowFunc) (n : ℕ) (bs : List Block) → Ascii (block_docs code f n bs)
  ascii-blocks code f n [] = ascii-empty
  ascii-blocks code f n (b ∷ bs) = seq (ascii-block code f n b) (ascii-blocks code f (n + 1) bs)

  ascii-head : (f : LowFunc) → Ascii (func_head f)
  ascii-head f =
      seq (record { ascii = refl }) (seq (ascii-privacy f.name) (seq (ascii-symbol f.name) (seq (ascii-params true f f.params)
      (seq (ascii-results f.results) (seq (ascii-coroutine f.coroutine) ascii-blank)))))

  ascii-funcs : (code : LowModule) (fs : List LowFunc) → Ascii (func_docs code fs)
  ascii-funcs code [] = ascii-empty
  ascii-funcs code (f ∷ fs) =
      seq (seq (ascii-head f) (seq (record { ascii = refl }) (seq (ascii-blocks code f 0 f.blocks) (seq (ascii-line [] refl) (record { ascii = refl })))))
      (seq (ascii-line [] refl) (ascii-funcs code fs))

  pub code-utf8 : (code : LowModule) → IsUtf8 (printed_code code)
  code-utf8 code = IsUtf8-from_ascii (printed_code code) (each-ascii (printed_code code) (ascii-funcs code code.funcs).ascii)
