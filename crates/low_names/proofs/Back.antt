-- Code in order is what its names stand for.
use Rattle.std.proofs.Common.{◌≡◌, ◌<◌, ◌≤◌, ◌^◌, ◌==◌, nat_lt, ◌&&◌, ℕ, zero, suc, ◌+◌, Bool, true, false, List, [], ◌∷◌, ◌++◌, map, length, Option, Some, None, decimal, refl, sym, ap, ◌∙◌, subst, arith, add-one, append-nil, eqb-true}
use Rattle.std.specs.Prelude.{slice_get, unwrap_or}
use Rattle.std.proofs.lemmas.Bool.Decides.{nat_tests}
use Rattle.std.proofs.lemmas.List.{map-append}
use Rattle.ir_forms.specs.declared.types.Ty.{Ty}
use Rattle.ir_forms.specs.Numbers.{joined}
use Rattle.low_forms.specs.declared.code.Reg.{Reg}
use Rattle.low_forms.specs.declared.code.LowKind.{LowKind}
use Rattle.low_forms.specs.declared.code.LowKind.TheVariants as low
use Rattle.low_forms.specs.declared.code.LowAttr.{LowAttr}
use Rattle.low_forms.specs.declared.code.LowAttr.TheVariants as attr
use Rattle.low_forms.specs.declared.code.Instr.{Instr}
use Rattle.low_forms.specs.declared.code.Target.{Target}
use Rattle.low_forms.specs.declared.code.Term.{Term}
use Rattle.low_forms.specs.declared.code.Block.{Block}
use Rattle.low_forms.specs.declared.code.LowFunc.{LowFunc}
use Rattle.low_forms.specs.declared.code.LowModule.{LowModule}
use Rattle.low_forms.specs.Registers.{every, callee}
use Rattle.low_forms.specs.Assigned.{numbers, assigned_by, block_assigns}
use Rattle.low_forms.specs.Numbers.{regs_within, callee_within, instr_within, target_within, block_within}
use Rattle.low_forms.proofs.Words.{and_left, and_right}
use Rattle.register_numbers.specs.Renumbered.{definitions, type_of_reg}
use Rattle.low_grammar.specs.declared.named.NamedParam.{NamedParam}
use Rattle.low_grammar.specs.declared.named.NamedInstr.{NamedInstr}
use Rattle.low_grammar.specs.declared.named.NamedBlock.{NamedBlock}
use Rattle.low_grammar.specs.declared.named.NamedFunc.{NamedFunc}
use Rattle.low_grammar.specs.Named.{reg_name, kind_of, callee_name, named_attr, type_of, named_param, named_target, named_instr, named_instrs, named_blocks, named_func, named_code}
use Rattle.low_names.specs.Numbers.{number_of, name_place, param_names, param_types, results_of, types_of, block_names, block_types, register_names, register_types, labels, func_names, Scope, reg_of, regs_of, params_of, attr_of, instr_of, target_of, term_of, instrs_of, last_of, block_of, scope_of, func_in, func_of, code_of}
use Rattle.low_names.specs.Order.{from, has_text, block_has_text, IsInOrder, AreInOrder, GivesNumbersBack}
use Rattle.low_names.proofs.Places.{number_is, reg_text, block_text, regs_apart, blocks_apart, types_are}

below : (m n : ℕ) → nat_lt m n ≡ true → m < n
below m n e = grind (arith, nat_tests)

-- ---- what named code defines

params_named : (f : LowFunc) (rs : List Reg) → param_names (map (named_param f) rs) ≡ map reg_text (numbers rs)
params_named f [] = refl
params_named f (r ∷ rs) = ap (λ (ns : List (List ℕ)). reg_text r.0 ∷ ns) (params_named f rs)

params_typed : (f : LowFunc) (rs : List Reg) → param_types (map (named_param f) rs) ≡ map (type_of_reg f.regs) (numbers rs)
params_typed f [] = refl
params_typed f (r ∷ rs) = ap (λ (ts : List Ty). type_of f r ∷ ts) (params_typed f rs)

regs_named : (rs : List Reg) → map reg_name rs ≡ map reg_text (numbers rs)
regs_named [] = refl
regs_named (r ∷ rs) = ap (λ (ns : List (List ℕ)). reg_text r.0 ∷ ns) (regs_named rs)

regs_typed : (f : LowFunc) (rs : List Reg) → map (type_of f) rs ≡ map (type_of_reg f.regs) (numbers rs)
regs_typed f [] = refl
regs_typed f (r ∷ rs) = ap (λ (ts : List Ty). type_of f r ∷ ts) (regs_typed f rs)

none_of : {X : Type 0} (xs : List X) → (length xs == 0) ≡ true → xs ≡ []
none_of [] e = refl
none_of (x ∷ xs) e = let no : suc (length xs) ≡ 0 = eqb-true (suc (length xs)) 0 e in absurd (omega arith)

module _ (code : LowModule) (f : LowFunc) where
  results_named : (is : List Instr) (t : Term) → t.instr.results ≡ [] → results_of (named_instrs code f is t) ≡ map reg_text (assigned_by is)
  results_named [] t none = ap (λ (rs : List Reg). map reg_name rs ++ []) none
  results_named (i ∷ is) t none =
      ap (λ (ns : List (List ℕ)). ns ++ results_of (named_instrs code f is t)) (regs_named i.results)
      ∙ ap (λ (ns : List (List ℕ)). map reg_text (numbers i.results) ++ ns) (results_named is t none)
      ∙ sym (map-append reg_text (numbers i.results) (assigned_by is))

  results_typed : (is : List Instr) (t : Term) → t.instr.results ≡ [] → types_of (named_instrs code f is t) ≡ map (type_of_reg f.regs) (assigned_by is)
  results_typed [] t none = ap (λ (rs : List Reg). map (type_of f) rs ++ []) none
  results_typed (i ∷ is) t none =
      ap (λ (ts : List Ty). ts ++ types_of (named_instrs code f is t)) (regs_typed f i.results)
      ∙ ap (λ (ts : List Ty). map (type_of_reg f.regs) (numbers i.results) ++ ts) (results_typed is t none)
      ∙ sym (map-append (type_of_reg f.regs) (numbers i.results) (assigned_by is))

  no_results : (b : Block) → block_has_text b ≡ true → b.term.instr.results ≡ []
  no_results b is =
      none_of b.term.instr.results
      (and_right (every (λ i. has_text i.kind) b.instrs && has_text b.term.instr.kind) (length b.term.instr.results == 0) is)

  blocks_named : (bs : List Block) (n : ℕ) → every block_has_text bs ≡ true
      → joined (map block_names (named_blocks code f n bs)) ≡ map reg_text (joined (map block_assigns bs))
  blocks_named [] n are = refl
  blocks_named (b ∷ bs) n are =
      let none = no_results b (and_left (block_has_text b) (every block_has_text bs) are) in
      let one : block_names (record { name = block_text n; params = map (named_param f) b.params; instrs = named_instrs code f b.instrs b.term }) ≡ map reg_text (block_assigns b) =
      ap (λ (ns : List (List ℕ)). ns ++ results_of (named_instrs code f b.instrs b.term)) (params_named f b.params)
      ∙ ap (λ (ns : List (List ℕ)). map reg_text (numbers b.params) ++ ns) (results_named b.instrs b.term none)
      ∙ sym (map-append reg_text (numbers b.params) (assigned_by b.instrs)) in
      ap (λ (ns : List (List ℕ)). ns ++ joined (map block_names (named_blocks code f (n + 1) bs))) one
      ∙ ap (λ (ns : List (List ℕ)). map reg_text (block_assigns b) ++ ns) (blocks_named bs (n + 1) (and_right (block_has_text b) (every block_has_text bs) are))
      ∙ sym (map-append reg_text (block_assigns b) (joined (map block_assigns bs)))

  blocks_typed : (bs : List Block) (n : ℕ) → every block_has_text bs ≡ true
      → joined (map block_types (named_blocks code f n bs)) ≡ map (type_of_reg f.regs) (joined (map block_assigns bs))
  blocks_typed [] n are = refl
  blocks_typed (b ∷ bs) n are =
      let none = no_results b (and_left (block_has_text b) (every block_has_text bs) are) in
      let one : block_types (record { name = block_text n; params = map (named_param f) b.params; instrs = named_instrs code f b.instrs b.term }) ≡ map (type_of_reg f.regs) (block_assigns b) =
      ap (λ (ts : List Ty). ts ++ types_of (named_instrs code f b.instrs b.term)) (params_typed f b.params)
      ∙ ap (λ (ts : List Ty). map (type_of_reg f.regs) (numbers b.params) ++ ts) (results_typed b.instrs b.term none)
      ∙ sym (map-append (type_of_reg f.regs) (numbers b.params) (assigned_by b.instrs)) in
      ap (λ (ts : List Ty). ts ++ joined (map block_types (named_blocks code f (n + 1) bs))) one
      ∙ ap (λ (ts : List Ty). map (type_of_reg f.regs) (block_assigns b) ++ ts) (blocks_typed bs (n + 1) (and_right (block_has_text b) (every block_has_text bs) are))
      ∙ sym (map-append (type_of_reg f.regs) (block_assigns b) (joined (map block_assigns bs)))

  names_are : IsInOrder code f → register_names (named_func code f) ≡ map reg_text (from (length f.regs) 0)
  names_are order =
      ap (λ (ns : List (List ℕ)). ns ++ joined (map block_names (named_blocks code f 0 f.blocks))) (params_named f f.params)
      ∙ ap (λ (ns : List (List ℕ)). map reg_text (numbers f.params) ++ ns) (blocks_named f.blocks 0 order.texts)
      ∙ sym (map-append reg_text (numbers f.params) (joined (map block_assigns f.blocks)))
      ∙ ap (λ (ns : List ℕ). map reg_text ns) order.registers

  types_back : IsInOrder code f → register_types (named_func code f) ≡ f.regs
  types_back order =
      ap (λ (ts : List Ty). ts ++ joined (map block_types (named_blocks code f 0 f.blocks))) (params_typed f f.params)
      ∙ ap (λ (ts : List Ty). map (type_of_reg f.regs) (numbers f.params) ++ ts) (blocks_typed f.blocks 0 order.texts)
      ∙ sym (map-append (type_of_reg f.regs) (numbers f.params) (joined (map block_assigns f.blocks)))
      ∙ ap (λ (ns : List ℕ). map (type_of_reg f.regs) ns) order.registers ∙ types_are f.regs

  labels_are : (bs : List Block) (n : ℕ) → labels (named_blocks code f n bs) ≡ map block_text (from (length bs) n)
  labels_are [] n = refl
  labels_are (b ∷ bs) n = ap (λ (ns : List (List ℕ)). block_text n ∷ ns) (labels_are bs (n + 1))

-- ---- back again

module _ (code : LowModule) (ordered : AreInOrder code) (f : LowFunc) (order : IsInOrder code f) (s : Scope)
    (funcs_are : s.funcs ≡ map (λ g. g.name) code.funcs) (blocks_are : s.blocks ≡ map block_text (from (length f.blocks) 0))
    (registers_are : s.registers ≡ map reg_text (from (length f.regs) 0)) where
  reg_back : (r : Reg) → r.0 < length f.regs → reg_of s (reg_name r) ≡ r
  reg_back r within =
      let few : length f.regs ≤ 2 ^ 64 = let h = order.few_registers in omega (arith, h) in
      let same : number_of s.registers (reg_text r.0) ≡ r.0 = number_is reg_text regs_apart s.registers (length f.regs) r.0 registers_are within few in
      rw same refl

  regs_back : (rs : List Reg) → regs_within f rs ≡ true → regs_of s (map reg_name rs) ≡ rs
  regs_back [] within = refl
  regs_back (r ∷ rs) within =
      let one : reg_of s (reg_name r) ≡ r = reg_back r (below r.0 (length f.regs) (and_left (nat_lt r.0 (length f.regs)) (regs_within f rs) within)) in
      let more = regs_back rs (and_right (nat_lt r.0 (length f.regs)) (regs_within f rs) within) in
      ap (λ (x : Reg). x ∷ regs_of s (map reg_name rs)) one ∙ ap (λ (xs : List Reg). r ∷ xs) more

  params_back : (rs : List Reg) → regs_within f rs ≡ true → params_of s (map (named_param f) rs) ≡ rs
  params_back [] within = refl
  params_back (r ∷ rs) within =
      let one : reg_of s (reg_name r) ≡ r = reg_back r (below r.0 (length f.regs) (and_left (nat_lt r.0 (length f.regs)) (regs_within f rs) within)) in
      let more = params_back rs (and_right (nat_lt r.0 (length f.regs)) (regs_within f rs) within) in
      ap (λ (x : Reg). x ∷ params_of s (map (named_param f) rs)) one ∙ ap (λ (xs : List Reg). r ∷ xs) more

  called : (n : ℕ) (o : Option LowFunc) → slice_get code.funcs n ≡ o → n < length code.funcs → number_of s.funcs (callee_name o) ≡ n
  called n (Some g) at within =
      ap (λ (ns : List (List ℕ)). number_of ns g.name) funcs_are ∙ ap (λ (o : Option ℕ). unwrap_or o 4294967295) (ordered.first n g at)
  called n None at within = absurd (there code.funcs n at within)
    where
      there : (fs : List LowFunc) (k : ℕ) → slice_get fs k ≡ None → k < length fs → ⊥
      there [] k e h = absurd (omega arith)
      there (g ∷ fs) zero e h = absurd cc
      there (g ∷ fs) (suc k) e h = there fs k e (omega arith)

  attr_back : (a : LowAttr) → callee_within code a ≡ true → attr_of s (named_attr code a) ≡ a
  attr_back attr.None within = refl
  attr_back (attr.Literal negative magnitude) within = refl
  attr_back (attr.Truth truth) within = refl
  attr_back (attr.Pred p) within = refl
  attr_back (attr.Count n) within = refl
  attr_back (attr.Callee g) within =
      let same : number_of s.funcs (callee_name (slice_get code.funcs g.0)) ≡ g.0 = called g.0 (slice_get code.funcs g.0) refl (below g.0 (length code.funcs) within) in
      rw same refl

  kind_back : (k : LowKind) → has_text k ≡ true → low.Row (kind_of k) ≡ k
  kind_back (low.Row k) is = refl
  kind_back low.Launch is = absurd cc
  kind_back low.Await is = absurd cc

  instr_back : (i : Instr) (ts : List Target) → has_text i.kind ≡ true → instr_within code f i ≡ true → instr_of s (named_instr code f i ts) ≡ i
  instr_back i ts text within =
      let a = and_left (regs_within f i.operands && regs_within f i.results) (callee_within code i.attr) within in
      let kind = kind_back i.kind text in
      let operands = regs_back i.operands (and_left (regs_within f i.operands) (regs_within f i.results) a) in
      let results = regs_back i.results (and_right (regs_within f i.operands) (regs_within f i.results) a) in
      let carried = attr_back i.attr (and_right (regs_within f i.operands && regs_within f i.results) (callee_within code i.attr) within) in
      rw (kind, operands, results, carried) refl

  target_back : (t : Target) → target_within f t ≡ true → target_of s (named_target t) ≡ t
  target_back t within =
      let few : length f.blocks ≤ 2 ^ 64 = let h = order.few_blocks in omega (arith, h) in
      let there : t.block.0 < length f.blocks = below t.block.0 (length f.blocks) (and_left (nat_lt t.block.0 (length f.blocks)) (regs_within f t.args) within) in
      let number : number_of s.blocks (block_text t.block.0) ≡ t.block.0 = number_is block_text blocks_apart s.blocks (length f.blocks) t.block.0 blocks_are there few in
      let args = regs_back t.args (and_right (nat_lt t.block.0 (length f.blocks)) (regs_within f t.args) within) in
      rw (number, args) refl

  targets_back : (ts : List Target) → every (target_within f) ts ≡ true → map (target_of s) (map named_target ts) ≡ ts
  targets_back [] within = refl
  targets_back (t ∷ ts) within =
      let one = target_back t (and_left (target_within f t) (every (target_within f) ts) within) in
      let more = targets_back ts (and_right (target_within f t) (every (target_within f) ts) within) in
      ap (λ (x : Target). x ∷ map (target_of s) (map named_target ts)) one ∙ ap (λ (xs : List Target). t ∷ xs) more

  not_last : (i : NamedInstr) (is : List Instr) (t : Term) → instrs_of s (i ∷ named_instrs code f is t) ≡ instr_of s i ∷ instrs_of s (named_instrs code f is t)
  not_last i [] t = refl
  not_last i (j ∷ is) t = refl

  still_last : (i : NamedInstr) (is : List Instr) (t : Term) → last_of s (i ∷ named_instrs code f is t) ≡ last_of s (named_instrs code f is t)
  still_last i [] t = refl
  still_last i (j ∷ is) t = refl

  instrs_back : (is : List Instr) (t : Term) → every (λ i. has_text i.kind) is ≡ true → every (instr_within code f) is ≡ true
      → instrs_of s (named_instrs code f is t) ≡ is
  instrs_back [] t texts within = refl
  instrs_back (i ∷ is) t texts within =
      let one = instr_back i [] (and_left (has_text i.kind) (every (λ j. has_text j.kind) is) texts) (and_left (instr_within code f i) (every (instr_within code f) is) within) in
      let more = instrs_back is t (and_right (has_text i.kind) (every (λ j. has_text j.kind) is) texts) (and_right (instr_within code f i) (every (instr_within code f) is) within) in
      not_last (named_instr code f i []) is t
      ∙ ap (λ (x : Instr). x ∷ instrs_of s (named_instrs code f is t)) one ∙ ap (λ (xs : List Instr). i ∷ xs) more

  last_back : (is : List Instr) (t : Term) → has_text t.instr.kind ≡ true → instr_within code f t.instr ≡ true → every (target_within f) t.targets ≡ true
      → last_of s (named_instrs code f is t) ≡ t
  last_back [] t text within targets =
      let one = instr_back t.instr t.targets text within in
      let two = targets_back t.targets targets in
      rw (one, two) refl
  last_back (i ∷ is) t text within targets = still_last (named_instr code f i []) is t ∙ last_back is t text within targets

  block_back : (n : ℕ) (b : Block) → block_within code f b ≡ true → block_has_text b ≡ true
      → block_of s (record { name = block_text n; params = map (named_param f) b.params; instrs = named_instrs code f b.instrs b.term }) ≡ b
  block_back n b within texts =
      let a = and_left (regs_within f b.params && every (instr_within code f) b.instrs && instr_within code f b.term.instr) (every (target_within f) b.term.targets) within in
      let c = and_left (regs_within f b.params && every (instr_within code f) b.instrs) (instr_within code f b.term.instr) a in
      let d = and_left (every (λ i. has_text i.kind) b.instrs && has_text b.term.instr.kind) (length b.term.instr.results == 0) texts in
      let ps = params_back b.params (and_left (regs_within f b.params) (every (instr_within code f) b.instrs) c) in
      let instrs =
      instrs_back b.instrs b.term (and_left (every (λ i. has_text i.kind) b.instrs) (has_text b.term.instr.kind) d)
      (and_right (regs_within f b.params) (every (instr_within code f) b.instrs) c) in
      let last =
      last_back b.instrs b.term (and_right (every (λ i. has_text i.kind) b.instrs) (has_text b.term.instr.kind) d)
      (and_right (regs_within f b.params && every (instr_within code f) b.instrs) (instr_within code f b.term.instr) a)
      (and_right (regs_within f b.params && every (instr_within code f) b.instrs && instr_within code f b.term.instr) (every (target_within f) b.term.targets) within) in
      rw (ps, instrs, last) refl

  blocks_back : (bs : List Block) (n : ℕ) → every (block_within code f) bs ≡ true → every block_has_text bs ≡ true
      → map (block_of s) (named_blocks code f n bs) ≡ bs
  blocks_back [] n within texts = refl
  blocks_back (b ∷ bs) n within texts =
      let one = block_back n b (and_left (block_within code f b) (every (block_within code f) bs) within) (and_left (block_has_text b) (every block_has_text bs) texts) in
      let more = blocks_back bs (n + 1) (and_right (block_within code f b) (every (block_within code f) bs) within) (and_right (block_has_text b) (every block_has_text bs) texts) in
      ap (λ (x : Block). x ∷ map (block_of s) (named_blocks code f (n + 1) bs)) one ∙ ap (λ (xs : List Block). b ∷ xs) more

  func_back : regs_within f f.params ≡ true → func_in s (named_func code f) ≡ f
  func_back within =
      let ps = params_back f.params within in
      let types = types_back code f order in
      let blocks = blocks_back f.blocks 0 order.within order.texts in
      rw (ps, types, blocks) refl

-- ---- parameters are there, since they are defined

begins : (rs : List Reg) (more : List ℕ) (first count : ℕ) → numbers rs ++ more ≡ from count first → every (λ r. nat_lt r.0 (first + count)) rs ≡ true
begins [] more first count e = refl
begins (r ∷ rs) more first zero e = absurd cc
begins (r ∷ rs) more first (suc count) e =
    let is : r.0 ≡ first = cc in
    let rest : numbers rs ++ more ≡ from count (first + 1) = cc in
    let inside : nat_lt r.0 (first + suc count) ≡ true = grind (arith, nat_tests) in
    let same : first + 1 + count ≡ first + suc count = omega arith in
    let others : every (λ q. nat_lt q.0 (first + suc count)) rs ≡ true =
    subst (λ (n : ℕ). every (λ q. nat_lt q.0 n) rs ≡ true) same (begins rs more (first + 1) count rest) in
    rw (inside, others) refl

params_within : (code : LowModule) (f : LowFunc) → IsInOrder code f → regs_within f f.params ≡ true
params_within code f order =
    let same : 0 + length f.regs ≡ length f.regs = omega arith in
    subst (λ (n : ℕ). every (λ r. nat_lt r.0 n) f.params ≡ true) same (begins f.params (joined (map block_assigns f.blocks)) 0 (length f.regs) order.registers)

-- ---- all functions

funcs_named : (code : LowModule) (fs : List LowFunc) → func_names (map (named_func code) fs) ≡ map (λ g. g.name) fs
funcs_named code [] = refl
funcs_named code (f ∷ fs) = ap (λ (ns : List (List ℕ)). f.name ∷ ns) (funcs_named code fs)

one_back : (code : LowModule) → AreInOrder code → (f : LowFunc) → IsInOrder code f → func_of (func_names (named_code code)) (named_func code f) ≡ f
one_back code ordered f order =
    func_back code ordered f order (scope_of (func_names (named_code code)) (named_func code f)) (funcs_named code code.funcs)
    (labels_are code f f.blocks 0) (names_are code f order) (params_within code f order)

funcs_back : (code : LowModule) → AreInOrder code → (fs : List LowFunc) → ((k : ℕ) (f : LowFunc) → slice_get fs k ≡ Some f → IsInOrder code f)
    → map (func_of (func_names (named_code code))) (map (named_func code) fs) ≡ fs
funcs_back code ordered [] each = refl
funcs_back code ordered (f ∷ fs) each =
    let one = one_back code ordered f (each 0 f refl) in
    let more = funcs_back code ordered fs (λ k. each (suc k)) in
    ap (λ (x : LowFunc). x ∷ map (func_of (func_names (named_code code))) (map (named_func code) fs)) one ∙ ap (λ (xs : List LowFunc). f ∷ xs) more

pub gives_back : GivesNumbersBack
gives_back code ordered = let all = funcs_back code ordered code.funcs ordered.each in rw all refl
