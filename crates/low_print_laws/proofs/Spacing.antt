-- The tokens of printed code stand apart.
use Rattle.std.proofs.Common.{◌≡◌, ℕ, ◌+◌, Bool, true, false, not, ◌&&◌, if◌then◌else◌, List, [], ◌∷◌, ◌++◌, take, drop, refl, append_assoc, codes, decimal, slice_index, Option}
use Rattle.mlir_lex.specs.declared.bytes.ByteClass.TheVariants.{SuffixPart}
use Rattle.mlir_lex.specs.Bytes.{is_in}
use Rattle.mlir_lex.specs.Grammar.{is_empty, all_in, some_in}
use Rattle.op_table.specs.declared.kind.OpKind.TheVariants as op
use Rattle.op_table.specs.Rows.{name_of}
use Rattle.op_table.specs.Laws.{ListsEachKind}
use Rattle.ir_forms.specs.declared.ops.Attr.TheVariants as attr
use Rattle.low_forms.specs.declared.code.Reg.{Reg}
use Rattle.low_forms.specs.declared.code.LowKind.{LowKind}
use Rattle.low_forms.specs.declared.code.LowKind.TheVariants as low
use Rattle.low_forms.specs.declared.code.LowAttr.{LowAttr}
use Rattle.low_forms.specs.declared.code.LowAttr.TheVariants as carries
use Rattle.low_forms.specs.declared.code.Instr.{Instr}
use Rattle.low_forms.specs.declared.code.Target.{Target}
use Rattle.low_forms.specs.declared.code.Term.{Term}
use Rattle.low_forms.specs.declared.code.Block.{Block}
use Rattle.low_forms.specs.declared.code.LowFunc.{LowFunc}
use Rattle.low_forms.specs.declared.code.LowModule.{LowModule}
use Rattle.low_forms.specs.Registers.{reg_type, type_at, callee}
use Rattle.mlir_print.specs.Docs as doc
use Rattle.mlir_print.specs.Docs.{Doc, ◌<>◌, bytes_of, mark, colon, arrow, keyword, parens, commas, shown}
use Rattle.mlir_print.specs.Types.{type_doc}
use Rattle.mlir_print.proofs.Spacing.{Stands, both}
use Rattle.mlir_print.proofs.Separators.{Ends, Fits, Free, Good, Closed, good_fits, good_empty, closed_blank, behind, seq, free_first, free_behind, seq_closed, blank_first, blank_closed, free_colon, free_equals, free_arrow, fits_word, free_keyword, colon_first, equals_first, comma_first, keyword_first, free_parens, good_parens, fits_parens, good_brackets, free_open, good_close, fits_commas, fits_shown, suffix_at, line_end, blank, open_paren}
use Rattle.mlir_print.proofs.Words.{some_decimal, digit_is_suffix, fits_number, fits_symbol, fits_attr, fits_type}
use Rattle.mlir_print.proofs.FormSpacing.{fits_result_types, good_results}
use Rattle.mlir_print.proofs.TextSpacing.{good_line, name_is}
use Rattle.low_print.specs.declared.form.Typed.{Typed}
use Rattle.low_print.specs.declared.form.Typed.TheVariants as by
use Rattle.low_print.specs.declared.form.LowForm.{LowForm}
use Rattle.low_print.specs.declared.form.LowForm.TheVariants as form
use Rattle.low_print.specs.Forms.{form_of, reg_doc, regs_doc, reg_ty, reg_types, ty_at, reg_result_types, uses, typed, carried, constant_type, count, func_name, func_results, call, typed_uses, form_doc, block_name, target_args, target_doc, before_targets, targets_doc}
use Rattle.low_print.specs.Printed.{results_doc, kind_doc, instr_doc, term_doc, param_doc, params_doc, block_params, inner, instr_lines, block_doc, block_docs, is_private, coroutine_dict, func_head, func_doc, func_docs, code_doc}

-- ---- what stands behind one another

-- what may stand behind a name and is followed by anything, and then what stands where a separator follows
closed_first : {a b : Doc} → Closed a → Fits b → Good (a <> b)
closed_first {a} {b} ca fb = record {
  stand = λ rest ends. (ca.stand (bytes_of b ++ rest), fb.stand rest ends);
  opens = λ rest ends. rw append_assoc (ca.opens (bytes_of b ++ rest));
}

closed_then : {a b : Doc} → Closed a → Free b → Closed (a <> b)
closed_then {a} {b} ca fb = record {
  stand = λ rest. (ca.stand (bytes_of b ++ rest), fb.stand rest);
  opens = λ rest. rw append_assoc (ca.opens (bytes_of b ++ rest));
}

closed_arrow : Closed arrow
closed_arrow = record { stand = free_arrow.stand; opens = λ rest. blank }

good_colon : Good colon
good_colon = record { stand = λ rest ends. free_colon.stand rest; opens = λ rest ends. blank }

-- ---- registers and their types

reg_named : (r : Reg) → some_in SuffixPart (decimal r.0) ≡ true
reg_named r = some_decimal SuffixPart digit_is_suffix r.0

fits_reg : (r : Reg) → Fits (reg_doc r)
fits_reg r = record { stand = λ rest ends. (reg_named r, suffix_at (slice_index rest 0) ends) }

fits_regs : (rs : List Reg) → Fits (regs_doc rs)
fits_regs rs = fits_commas reg_doc fits_reg rs

fits_reg_ty : (f : LowFunc) (r : Reg) → Fits (reg_ty f r)
fits_reg_ty f r = fits_shown type_doc fits_type (reg_type f r)

fits_reg_types : (f : LowFunc) (rs : List Reg) → Fits (reg_types f rs)
fits_reg_types f rs = fits_commas (reg_ty f) (fits_reg_ty f) rs

fits_ty_at : (f : LowFunc) (rs : List Reg) (k : ℕ) → Fits (ty_at f rs k)
fits_ty_at f rs k = fits_shown type_doc fits_type (type_at f rs k)

fits_reg_result_types : (f : LowFunc) (rs : List Reg) → Fits (reg_result_types f rs)
fits_reg_result_types f [] = fits_parens (fits_reg_types f [])
fits_reg_result_types f (r ∷ []) = fits_reg_ty f r
fits_reg_result_types f (r ∷ q ∷ rs) = fits_parens (fits_reg_types f (r ∷ q ∷ rs))

-- ---- pieces of forms

good_uses : (rs : List Reg) → Good (uses rs)
good_uses [] = good_empty
good_uses (r ∷ rs) = blank_first (fits_regs (r ∷ rs))

good_typed : (f : LowFunc) (t : Typed) (i : Instr) → Good (typed f t i)
good_typed f by.Nothing i = good_empty
good_typed f (by.Operand k) i = colon_first (fits_ty_at f i.operands k)
good_typed f by.Result i = colon_first (fits_ty_at f i.results 0)

fits_carried : (a : LowAttr) → Fits (carried a)
fits_carried carries.None = good_fits good_empty
fits_carried (carries.Literal negative magnitude) = fits_attr (attr.Literal negative magnitude)
fits_carried (carries.Truth truth) = fits_attr (attr.Truth truth)
fits_carried (carries.Pred pred) = fits_attr (attr.Pred pred)
fits_carried (carries.Count n) = good_fits good_empty
fits_carried (carries.Callee g) = good_fits good_empty

good_constant_type : (a : LowAttr) (f : LowFunc) (rs : List Reg) → Good (constant_type a f rs)
good_constant_type carries.None f rs = colon_first (fits_ty_at f rs 0)
good_constant_type (carries.Literal negative magnitude) f rs = colon_first (fits_ty_at f rs 0)
good_constant_type (carries.Truth truth) f rs = good_empty
good_constant_type (carries.Pred pred) f rs = colon_first (fits_ty_at f rs 0)
good_constant_type (carries.Count n) f rs = colon_first (fits_ty_at f rs 0)
good_constant_type (carries.Callee g) f rs = colon_first (fits_ty_at f rs 0)

good_count : (a : LowAttr) → Good (count a)
unfolding is_in
good_count carries.None = good_empty
good_count (carries.Literal negative magnitude) = good_empty
good_count (carries.Truth truth) = good_empty
good_count (carries.Pred pred) = good_empty
good_count (carries.Count n) =
    blank_first (free_first free_open (behind (fits_word (codes "count") refl) (equals_first (behind (fits_number n)
    (colon_first (behind (fits_word (codes "i64") refl) good_close))))))
good_count (carries.Callee g) = good_empty

closed_call : (code : LowModule) (f : LowFunc) (i : Instr) → Closed (call code f i)
closed_call code f i =
    blank_closed (free_behind (fits_shown func_name (λ g. fits_symbol g.name) (callee code i.attr))
    (seq_closed (good_parens (fits_regs i.operands)) (seq_closed good_colon (seq_closed (good_parens (fits_reg_types f i.operands)) closed_arrow))))

good_typed_uses : (f : LowFunc) (rs : List Reg) → Good (typed_uses f rs)
good_typed_uses f [] = good_empty
good_typed_uses f (r ∷ rs) = blank_first (behind (fits_regs (r ∷ rs)) (colon_first (fits_reg_types f (r ∷ rs))))

-- ---- forms

good_form : (code : LowModule) (f : LowFunc) (k : LowForm) (i : Instr) → Good (form_doc code f k i)
unfolding is_in
good_form code f form.Constant i = blank_first (behind (fits_carried i.attr) (good_constant_type i.attr f i.results))
good_form code f form.Compare i =
    blank_first (behind (fits_carried i.attr) (comma_first (behind (fits_regs i.operands) (good_typed f (by.Operand 0) i))))
good_form code f form.Cast i =
    seq (good_uses i.operands) (seq (good_typed f (by.Operand 0) i) (keyword_first (codes "to") refl (fits_ty_at f i.results 0)))
good_form code f form.Alloc i = seq (good_parens (fits_regs i.operands)) (good_typed f by.Result i)
good_form code f (form.Cell k) i =
    blank_first (behind (fits_regs (take (k + 1) i.operands)) (seq (good_brackets (fits_regs (drop (k + 1) i.operands))) (good_typed f (by.Operand k) i)))
good_form code f form.Launch i = closed_first (closed_call code f i) (fits_reg_result_types f i.results)
good_form code f form.Call i = closed_first (closed_call code f i) (fits_shown func_results (λ g. fits_result_types g.results) (callee code i.attr))
good_form code f form.Return i = good_typed_uses f i.operands
good_form code f (form.Uses t) i = seq (good_uses i.operands) (seq (good_count i.attr) (good_typed f t i))

-- ---- targets

block_named : (n : ℕ) → all_in SuffixPart (decimal n) ≡ true
block_named n = (both (not (is_empty (decimal n))) (all_in SuffixPart (decimal n)) (some_decimal SuffixPart digit_is_suffix n)).1

fits_block_name : (n : ℕ) → Fits (block_name n)
unfolding is_in
fits_block_name n = record { stand = λ rest ends. (block_named n, suffix_at (slice_index rest 0) ends) }

good_target_args : (f : LowFunc) (rs : List Reg) → Good (target_args f rs)
good_target_args f [] = good_empty
good_target_args f (r ∷ rs) = good_parens (behind (fits_regs (r ∷ rs)) (colon_first (fits_reg_types f (r ∷ rs))))

fits_target : (f : LowFunc) (t : Target) → Fits (target_doc f t)
fits_target f t = behind (fits_block_name t.block.0) (good_target_args f t.args)

good_before : (k : LowKind) {d : Doc} → Fits d → Good (before_targets k <> d)
good_before (low.Row op.CfBr) fd = blank_first fd
good_before _ fd = comma_first fd

good_targets : (k : LowKind) (f : LowFunc) (ts : List Target) → Good (targets_doc k f ts)
good_targets k f [] = good_empty
good_targets k f (t ∷ ts) = good_before k (fits_commas (target_doc f) (fits_target f) (t ∷ ts))

-- ---- parameters

fits_param : (spaced : Bool) (f : LowFunc) (r : Reg) → Fits (param_doc spaced f r)
unfolding is_in
fits_param true f r = record { stand = λ rest ends. ((reg_named r, refl), (tt, ((refl, refl), (tt, (fits_reg_ty f r).stand rest ends)))) }
fits_param false f r = record { stand = λ rest ends. ((reg_named r, refl), (tt, ((refl, refl), (tt, (fits_reg_ty f r).stand rest ends)))) }

free_params : (spaced : Bool) (f : LowFunc) (rs : List Reg) → Free (params_doc spaced f rs)
free_params spaced f rs = free_parens (fits_commas (param_doc spaced f) (fits_param spaced f) rs)

-- a block behind its name and parameters
abbrev body_doc : LowModule → LowFunc → Block → Doc
body_doc code f b = mark 58 <> instr_lines code f b.instrs <> inner <> term_doc code f b.term

-- ---- instructions and blocks

free_results : (rs : List Reg) → Free (results_doc rs)
free_results [] = record { stand = λ rest. tt }
free_results (r ∷ rs) = record { stand = λ rest. ((fits_regs (r ∷ rs)).stand (32 ∷ 61 ∷ 32 ∷ rest) blank, free_equals.stand rest) }

closed_privacy : (is : Bool) → Closed (if is then keyword (codes "private") else doc.Blank)
unfolding is_in
closed_privacy true = record { stand = (free_keyword (codes "private") refl).stand; opens = λ rest. blank }
closed_privacy false = closed_blank

good_coroutine : (is : Bool) → Good (coroutine_dict is)
unfolding is_in
good_coroutine true = keyword_first (codes "attributes") refl (free_first free_open (behind (fits_word (codes "aio.coroutine") refl) good_close))
good_coroutine false = good_empty

free_head : (f : LowFunc) → Free (func_head f)
unfolding is_in
free_head f =
    free_behind (fits_word (codes "func.func") refl) (closed_then (closed_privacy (is_private f.name))
    (free_behind (fits_symbol f.name) (seq_closed (good_parens (fits_commas (param_doc true f) (fits_param true f) f.params))
    (seq_closed (good_results f.results) (seq_closed (good_coroutine f.coroutine) closed_blank)))))

module _ (each : ListsEachKind) where
  fits_kind : (k : LowKind) → Fits (kind_doc k)
  fits_kind (low.Row k) = fits_word (name_of k) (name_is each k)
  fits_kind low.Launch = good_fits good_empty
  fits_kind low.Await = good_fits good_empty

  fits_instr : (code : LowModule) (f : LowFunc) (i : Instr) → Fits (instr_doc code f i)
  fits_instr code f i = free_first (free_results i.results) (behind (fits_kind i.kind) (good_form code f (form_of i.kind) i))

  fits_term : (code : LowModule) (f : LowFunc) (t : Term) → Fits (term_doc code f t)
  fits_term code f t = behind (fits_instr code f t.instr) (good_targets t.instr.kind f t.targets)

  good_lines : (code : LowModule) (f : LowFunc) (is : List Instr) → Good (instr_lines code f is)
  unfolding is_in
  good_lines code f [] = good_empty
  good_lines code f (i ∷ is) = good_line (codes "  ") refl (behind (fits_instr code f i) (good_lines code f is))

  -- the block behind its name and parameters
  fits_body : (code : LowModule) (f : LowFunc) (b : Block) (rest : List ℕ) → Ends rest → Stands (body_doc code f b) rest
  unfolding is_in
  fits_body code f b rest ends = ((refl, refl), ((good_lines code f b.instrs).stand _ line_end, (refl, (fits_term code f b.term).stand rest ends)))

  -- the same with name and parameters
  fits_label : (code : LowModule) (f : LowFunc) (n : ℕ) (b : Block) (rs : List Reg) (rest : List ℕ) → Ends rest
      → Stands (block_name n <> block_params f rs <> body_doc code f b) rest
  unfolding is_in
  fits_label code f n b [] rest ends = ((block_named n, refl), (tt, fits_body code f b rest ends))
  fits_label code f n b (r ∷ rs) rest ends = ((block_named n, refl), ((free_params false f (r ∷ rs)).stand _, fits_body code f b rest ends))

  good_block : (code : LowModule) (f : LowFunc) (n : ℕ) (b : Block) → Good (block_doc code f n b)
  good_block code f n b = good_line [] refl (record { stand = fits_label code f n b b.params })

  good_blocks : (code : LowModule) (f : LowFunc) (n : ℕ) (bs : List Block) → Good (block_docs code f n bs)
  good_blocks code f n [] = good_empty
  good_blocks code f n (b ∷ bs) = seq (good_block code f n b) (good_blocks code f (n + 1) bs)

  free_func : (code : LowModule) (f : LowFunc) → Free (func_doc code f)
  unfolding is_in
  free_func code f = record {
    stand = λ rest. ((free_head f).stand _, ((refl, refl), ((good_blocks code f 0 f.blocks).stand _ line_end, (refl, (refl, refl)))));
  }

  free_funcs : (code : LowModule) (fs : List LowFunc) → Free (func_docs code fs)
  free_funcs code [] = record { stand = λ rest. tt }
  free_funcs code (f ∷ fs) = record { stand = λ rest. ((free_func code f).stand _, (refl, (free_funcs code fs).stand rest)) }

  pub code_is : (code : LowModule) → Stands (code_doc code) []
  code_is code = (free_funcs code code.funcs).stand []
