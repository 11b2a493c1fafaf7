-- Code of structured operations neither saves nor counts.
use Rattle.std.proofs.Common.{◌≡◌, ℕ, ◌&&◌, ◌||◌, Bool, true, false, List, [], ◌∷◌, Option, Some, None, refl}
use Rattle.std.specs.Prelude.{not}
use Rattle.op_table.specs.declared.kind.OpKind.{OpKind}
use Rattle.op_table.specs.declared.kind.OpKind.TheVariants.{AsyncCoroSave, AsyncCoroSuspend, AsyncRuntimeResume, AsyncRuntimeAwaitAndResume}
use Rattle.ir_forms.specs.declared.ops.Attr.{Attr}
use Rattle.ir_forms.specs.declared.ops.Attr.TheVariants as attr
use Rattle.ir_forms.specs.declared.ops.Func.{Func}
use Rattle.ir_verify.specs.Names.{first_named}
use Rattle.low_forms.specs.declared.code.LowKind.{LowKind}
use Rattle.low_forms.specs.declared.code.Instr.{Instr}
use Rattle.low_forms.specs.declared.code.Term.{Term}
use Rattle.low_forms.specs.declared.code.Block.{Block}
use Rattle.low_forms.specs.Registers.{every}
use Rattle.low_forms.specs.Numbers.{count_is_small, counts_small}
use Rattle.low_forms.specs.Saves.{is_save, resumes, is_suspend, saves_followed, is_followed, none_alone, has_no_save, saves_start, all_followed, nowhere_else}
use Rattle.low_forms.proofs.Words.{and_left, and_right, and_both}
use Rattle.scf_blocks.specs.declared.role.Role.{Role}
use Rattle.scf_blocks.specs.declared.role.Role.TheVariants as role
use Rattle.scf_blocks.specs.Tree.{role_of}
use Rattle.scf_blocks.specs.Code.{low_attr, callee_at}
use Rattle.scf_blocks.specs.Lowered.{lowered_func}
use Rattle.block_laws.specs.Laws.{NoneSaved}
use Rattle.block_laws.proofs.Words.{every_more}
use Rattle.block_laws.proofs.Rows.{Test, Passes, EachPasses, instr_passes, block_passes, blocks_pass}

-- ---- rows

abbrev is_calm : LowKind → Bool
is_calm kind = not (is_save kind) && (not (resumes kind) && not (is_suspend kind))

abbrev calm : Test
calm kind a = is_calm kind && count_is_small a

abbrev calm_instr : Instr → Bool
calm_instr = instr_passes calm

abbrev calm_block : Block → Bool
calm_block = block_passes calm

callee_small : (k : Option ℕ) → count_is_small (callee_at k) ≡ true
callee_small None = refl
callee_small (Some k) = refl

attr_small : (funcs : List Func) (a : Attr) → count_is_small (low_attr funcs a) ≡ true
attr_small funcs attr.None = refl
attr_small funcs (attr.Literal negative magnitude) = refl
attr_small funcs (attr.Truth bit) = refl
attr_small funcs (attr.Pred p) = refl
attr_small funcs (attr.Text text) = refl
attr_small funcs (attr.Callee name) = callee_small (first_named funcs name)

abbrev calm_role : Role → Bool
calm_role (role.Plain kind) = is_calm kind
calm_role _ = true

-- no operation becomes an instruction that saves, resumes or suspends
each_calm : (kind : OpKind) → calm_role (role_of kind) ≡ true
each_calm AsyncCoroSave = refl
each_calm AsyncCoroSuspend = refl
each_calm AsyncRuntimeResume = refl
each_calm AsyncRuntimeAwaitAndResume = refl
each_calm _ = refl

passes_calm : (funcs : List Func) (r : Role) → calm_role r ≡ true → Passes calm funcs r
passes_calm funcs (role.Plain kind) is = λ a. and_both (is_calm kind) (count_is_small (low_attr funcs a)) is (attr_small funcs a)
passes_calm funcs role.Assertion is = tt
passes_calm funcs role.Choice is = tt
passes_calm funcs role.Counted is = tt
passes_calm funcs role.Tested is = tt
passes_calm funcs role.Call is = tt
passes_calm funcs role.TriedCall is = tt
passes_calm funcs role.Await is = tt
passes_calm funcs role.End is = tt
passes_calm funcs role.Condition is = tt
passes_calm funcs role.Nothing is = tt

all_calm : (funcs : List Func) → EachPasses calm funcs
all_calm funcs = record {
  own = λ kind. passes_calm funcs (role_of kind) (each_calm kind);
  adds = refl;
  compares = refl;
  bit = λ b. refl;
  goes = refl;
  chooses = refl;
  called = λ a. attr_small funcs a;
  waits = refl;
  returns = refl;
}

blocks_calm : (funcs : List Func) (f : Func) → every calm_block (lowered_func funcs f).blocks ≡ true
blocks_calm funcs f = blocks_pass calm funcs (all_calm funcs) (record { constant = λ n. refl; ends = refl }) f

-- ---- what calm blocks keep

small_count : (b : Block) → calm_block b ≡ true → counts_small b ≡ true
small_count b is = and_both _ _
    (every_more calm_instr (λ i. count_is_small i.attr) b.instrs (λ i calm. and_right (is_calm i.kind) (count_is_small i.attr) calm) (and_left (every calm_instr b.instrs) (calm_instr b.term.instr) is))
    (and_right (is_calm b.term.instr.kind) (count_is_small b.term.instr.attr) (and_right (every calm_instr b.instrs) (calm_instr b.term.instr) is))

no_save : (i : Instr) → calm_instr i ≡ true → not (is_save i.kind) ≡ true
no_save i is = and_left _ _ (and_left (is_calm i.kind) (count_is_small i.attr) is)

no_resume : (i : Instr) → calm_instr i ≡ true → not (resumes i.kind) ≡ true
no_resume i is = and_left _ _ (and_right _ _ (and_left (is_calm i.kind) (count_is_small i.attr) is))

no_suspend : (i : Instr) → calm_instr i ≡ true → not (is_suspend i.kind) ≡ true
no_suspend i is = and_right _ _ (and_right _ _ (and_left (is_calm i.kind) (count_is_small i.attr) is))

or_first : (a b : Bool) → a ≡ true → (a || b) ≡ true
or_first true b is = refl
or_first false b is = cc

followed : (first : Bool) (instrs : List Instr) (t : Term) → every calm_instr instrs ≡ true → saves_followed first instrs t ≡ true
followed first [] t is = refl
followed first (i ∷ instrs) t is =
    and_both (not (is_save i.kind) || is_followed first i instrs t) (saves_followed first instrs t)
    (or_first (not (is_save i.kind)) (is_followed first i instrs t) (no_save i (and_left (calm_instr i) (every calm_instr instrs) is)))
    (followed first instrs t (and_right (calm_instr i) (every calm_instr instrs) is))

blocks_followed : (first : Bool) (bs : List Block) → every calm_block bs ≡ true → all_followed first bs ≡ true
blocks_followed first [] is = refl
blocks_followed first (b ∷ bs) is =
    and_both (saves_followed first b.instrs b.term) (all_followed false bs)
    (followed first b.instrs b.term (and_left (every calm_instr b.instrs) (calm_instr b.term.instr) (and_left (calm_block b) (every calm_block bs) is)))
    (blocks_followed false bs (and_right (calm_block b) (every calm_block bs) is))

none_here : (saved resumed : Bool) (instrs : List Instr) (t : Term) → every calm_instr instrs ≡ true → calm_instr t.instr ≡ true → none_alone saved resumed instrs t ≡ true
none_here saved resumed [] t is end = or_first (not (is_suspend t.instr.kind)) resumed (no_suspend t.instr end)
none_here saved resumed (i ∷ instrs) t is end =
    let here : calm_instr i ≡ true = and_left (calm_instr i) (every calm_instr instrs) is in
    three_hold (not (resumes i.kind) || saved) (not (is_suspend i.kind)) (none_alone (is_save i.kind) (resumes i.kind) instrs t)
    (or_first (not (resumes i.kind)) saved (no_resume i here)) (no_suspend i here)
    (none_here (is_save i.kind) (resumes i.kind) instrs t (and_right (calm_instr i) (every calm_instr instrs) is) end)
  where
    three_hold : (a b c : Bool) → a ≡ true → b ≡ true → c ≡ true → (a && b && c) ≡ true
    three_hold true b c is_a is_b is_c = and_both b c is_b is_c
    three_hold false b c is_a is_b is_c = cc

alone_nowhere : (b : Block) → calm_block b ≡ true → nowhere_else b ≡ true
alone_nowhere b is = none_here false false b.instrs b.term (and_left (every calm_instr b.instrs) (calm_instr b.term.instr) is) (and_right (every calm_instr b.instrs) (calm_instr b.term.instr) is)

saves_none : (b : Block) → calm_block b ≡ true → has_no_save b ≡ true
saves_none b is = every_more calm_instr (λ i. not (is_save i.kind)) b.instrs no_save (and_left (every calm_instr b.instrs) (calm_instr b.term.instr) is)

start_saves : (bs : List Block) → every calm_block bs ≡ true → saves_start bs ≡ true
start_saves [] is = refl
start_saves (b ∷ bs) is = or_second (not (has_no_save b)) (every has_no_save bs) (every_more calm_block has_no_save bs saves_none (and_right (calm_block b) (every calm_block bs) is))
  where
    or_second : (a b : Bool) → b ≡ true → (a || b) ≡ true
    or_second true b is = refl
    or_second false b is = is

pub none_saved : NoneSaved
none_saved funcs f =
    let is_so : every calm_block (lowered_func funcs f).blocks ≡ true = blocks_calm funcs f in
    let bs : List Block = (lowered_func funcs f).blocks in
    (refl, every_more calm_block counts_small bs small_count is_so, blocks_followed true bs is_so, every_more calm_block nowhere_else bs alone_nowhere is_so, start_saves bs is_so)
