-- A function's blocks with its failure blocks behind them.
use Rattle.std.proofs.Common.{◌≡◌, ℕ, ◌+◌, List, [], ◌∷◌, ◌++◌, drop, slice_get, length, Some, ap, ap₂, sym, ◌∙◌, append_assoc, append-nil, length-append, arith}
use Rattle.ir_forms.specs.declared.ops.Func.{Func}
use Rattle.ir_forms.specs.declared.types.Ty.{Ty}
use Rattle.low_forms.specs.declared.code.Block.{Block}
use Rattle.scf_blocks.specs.declared.body.Body.{Body}
use Rattle.scf_blocks.specs.declared.body.Failure.{Failure}
use Rattle.scf_blocks.specs.declared.body.Close.TheVariants.{Returns}
use Rattle.low_forms.specs.declared.code.LowFunc.{LowFunc}
use Rattle.scf_blocks.specs.Tree.{Ops, types_in}
use Rattle.scf_blocks.specs.Code.{Scope, code_of, block_of, with_vars, blocks_of, regs_of, types_of, fails_of, failure_block, failure_blocks, code_type, code_types, regs_from}
use Rattle.scf_blocks.specs.Bodies.{begun, defined, finished}
use Rattle.scf_blocks.specs.Lowered.{func_tree, lowered_func, with_failure, with_failures, with_func, low_func}
use Rattle.scf_blocks.proofs.Counts.{length_types}
use Rattle.scf_blocks.proofs.Laws.{with_more}
use Rattle.scf_blocks.proofs.Lists.{drop_got}

failures_law : (fs : List Failure) (w : Body) → with_failures fs w ≡ record w { done = w.done ++ failure_blocks (length w.types) fs; types = w.types ++ code_types fs }
failures_law [] w = ap₂ (λ (d : List Block) (t : List Ty). let v : Body = record w { done = d; types = t } in v) (sym (append-nil w.done)) (sym (append-nil w.types))
failures_law (f ∷ fs) w =
    let n : length (w.types ++ code_type ∷ []) ≡ length w.types + 1 = length-append w.types (code_type ∷ []) in
    failures_law fs (with_failure f w)
    ∙ ap₂ (λ (d : List Block) (t : List Ty). let v : Body = record w { done = d; types = t } in v)
    (ap (λ k. (w.done ++ failure_block (length w.types) f ∷ []) ++ failure_blocks k fs) n ∙ append_assoc w.done (failure_block (length w.types) f ∷ []) (failure_blocks (length w.types + 1) fs))
    (append_assoc w.types (code_type ∷ []) (code_types fs))

pub func_law : (funcs : List Func) (f : Func) (first : ℕ) → first ≡ blocks_of (func_tree f) + 1 → low_func f (regs_from 0 f.params) (with_func funcs f (begun first)) ≡ lowered_func funcs f
func_law funcs f first e =
    let ops : Ops = func_tree f in
    let fs : List Failure = fails_of ops in
    let scope : Scope = with_vars f.params 0 [] in
    let all : Body = finished funcs (defined f.params (begun first)) (defined f.params (begun first)).scope Returns ops in
    let n0 : length (types_in f.params) ≡ length f.params = length_types f.params in
    let n1 : length (types_in f.params ++ (types_of ops ++ [])) ≡ length f.params + regs_of ops = (let h = with_more (types_in f.params) ops in omega (arith, h, n0)) in
    let j : first + 0 ≡ blocks_of ops + 1 = omega (arith, e) in
    let made : List Block → List Ty → LowFunc = λ d t. low_func f (regs_from 0 f.params) (record all { done = d; types = t }) in
    ap (low_func f (regs_from 0 f.params)) (failures_law all.failures all)
    ∙ ap₂ made
    (ap₂ (λ n k. block_of [] (code_of funcs ops 0 n k scope Returns) ++ failure_blocks (length (types_in f.params ++ (types_of ops ++ []))) fs) n0 j
    ∙ ap (λ m. block_of [] (code_of funcs ops 0 (length f.params) (blocks_of ops + 1) scope Returns) ++ failure_blocks m fs) n1)
    (append_assoc (types_in f.params) (types_of ops ++ []) (code_types fs) ∙ ap (λ (l : List Ty). types_in f.params ++ l) (append_assoc (types_of ops) [] (code_types fs)))

pub failures_next : (all : List Failure) (k : ℕ) (f : Failure) (w w' end : Body) → slice_get all k ≡ Some f → with_failures (drop k all) w ≡ end → w' ≡ with_failure f w → with_failures (drop (k + 1) all) w' ≡ end
failures_next all k f w w' end e h same = ap (with_failures (drop (k + 1) all)) same ∙ sym (ap (λ l. with_failures l w) (drop_got all k f e)) ∙ h
