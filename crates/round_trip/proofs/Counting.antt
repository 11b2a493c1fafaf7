-- How many values a text names, against its tokens. The results of an operation are counted where its `=` or its form begins.
use Rattle.std.proofs.Common.{◌≡◌, ◌≤◌, ℕ, suc, ◌+◌, Bool, true, false, not, ◌&&◌, ◌||◌, List, [], ◌∷◌, ◌++◌, length, Option, Some, None, refl, ap, arith}
use Rattle.module_grammar.specs.declared.symbols.Rule.{Rule}
use Rattle.module_grammar.specs.declared.symbols.Rule.TheVariants as rule
use Rattle.module_grammar.specs.declared.symbols.Act.{Act}
use Rattle.module_grammar.specs.declared.symbols.Act.TheVariants as act
use Rattle.module_grammar.specs.declared.symbols.Symbol.{Symbol}
use Rattle.module_grammar.specs.declared.symbols.Symbol.TheVariants as symbol
use Rattle.module_grammar.specs.declared.state.TextToken.{TextToken}
use Rattle.module_grammar.specs.declared.state.Name.{Name}
use Rattle.module_grammar.specs.declared.state.Outer.{Outer}
use Rattle.module_grammar.specs.declared.state.State.{State}
use Rattle.module_grammar.specs.State.{up, count_of, with_names, name_at, last_of, does, add_operands, add_operand, add_results, add_result, close_into, numbered_op, numbered_func, begin_op, end_op}

-- ---- where results are still to be counted

abbrev pub is_results : Rule → Bool
is_results rule.Results = true
is_results rule.MoreResults = true
is_results _ = false

abbrev pub is_pending_at : Act → Bool → Bool
is_pending_at act.CountNames behind = true
is_pending_at act.Result behind = behind
is_pending_at act.ResultCount behind = behind
is_pending_at _ behind = false

-- Before these symbols the open operation's results are still to be counted; `behind` says so of what comes after them.
abbrev pub pending : Bool → List Symbol → Bool
pending behind [] = behind
pending behind (symbol.Word c ∷ k) = pending behind k
pending behind (symbol.Do a ∷ k) = is_pending_at a (pending behind k)
pending behind (symbol.Rule r ∷ k) = is_results r && pending behind k

-- acts after which results may be uncounted
abbrev pub lets : Act → Bool
lets act.Result = true
lets act.ResultCount = true
lets act.BeginOp = true
lets act.HeldResults = true
lets _ = false

-- nothing else stands before what counts results
abbrev pub in_order : Bool → List Symbol → Bool
in_order behind [] = true
in_order behind (symbol.Word c ∷ k) = in_order behind k
in_order behind (symbol.Do a ∷ k) = (lets a || not (pending behind k)) && in_order behind k
in_order behind (symbol.Rule r ∷ k) = (is_results r || not (pending behind k)) && in_order behind k

abbrev pub counts_values : Act → Bool
counts_values act.ResultCount = true
counts_values _ = false

-- ---- symbols in front of others

pub pending-append : (xs k : List Symbol) (behind : Bool) → pending behind (xs ++ k) ≡ pending (pending behind k) xs
pending-append [] k behind = refl
pending-append (symbol.Word c ∷ xs) k behind = pending-append xs k behind
pending-append (symbol.Do a ∷ xs) k behind = ap (is_pending_at a) (pending-append xs k behind)
pending-append (symbol.Rule r ∷ xs) k behind = ap (λ b. is_results r && b) (pending-append xs k behind)

and-assoc : (a b c : Bool) → a && (b && c) ≡ (a && b) && c
and-assoc true b c = refl
and-assoc false b c = refl

pub order-append : (xs k : List Symbol) (behind : Bool) → in_order behind (xs ++ k) ≡ in_order (pending behind k) xs && in_order behind k
order-append [] k behind = refl
order-append (symbol.Word c ∷ xs) k behind = order-append xs k behind
order-append (symbol.Do a ∷ xs) k behind =
    rw (pending-append xs k behind, order-append xs k behind) (and-assoc (lets a || not (pending (pending behind k) xs)) (in_order (pending behind k) xs) (in_order behind k))
order-append (symbol.Rule r ∷ xs) k behind =
    rw (pending-append xs k behind, order-append xs k behind) (and-assoc (is_results r || not (pending (pending behind k) xs)) (in_order (pending behind k) xs) (in_order behind k))

-- ---- what a state has named

abbrev pub values_named : List Name → ℕ
values_named [] = 0
values_named (n ∷ ns) = count_of n.count + values_named ns

abbrev pub results_named : Bool → State → ℕ
results_named true s = values_named s.op.results
results_named false s = 0

-- the values counted, the names held, and the results that are still to be counted
abbrev pub named : Bool → State → ℕ
named p s = s.counted + (length s.held + results_named p s)

-- how many values an act names
abbrev pub names : Act → ℕ
names act.Operand = 1
names act.Param = 1
names act.IndexParam = 1
names act.BlockParam = 1
names act.Result = 1
names act.Hold = 1
names _ = 0

values-append : (xs ys : List Name) → values_named (xs ++ ys) ≡ values_named xs + values_named ys
values-append [] ys = omega arith
values-append (x ∷ xs) ys = let h = values-append xs ys in omega (arith, h)

length-one-more : {A : Type 0} (xs : List A) (x : A) → length (xs ++ x ∷ []) ≡ suc (length xs)
length-one-more [] x = refl
length-one-more (y ∷ xs) x = ap suc (length-one-more xs x)

with-names-le : (ns : List Name) (n : ℕ) → with_names n ns ≤ n + values_named ns
with-names-le [] n = omega arith
with-names-le (x ∷ ns) n = let h = with-names-le ns (up n (count_of x.count)) in omega (arith, h)

operands-counted : (ts : List TextToken) (s : State) → (add_operands ts s).counted ≤ s.counted + length ts
operands-counted [] s = omega arith
operands-counted (t ∷ ts) s = let h = operands-counted ts (add_operand t s) in omega (arith, h)

operands-held : (ts : List TextToken) (s : State) → (add_operands ts s).held ≡ s.held
operands-held [] s = refl
operands-held (t ∷ ts) s = operands-held ts (add_operand t s)

results-counted : (ts : List TextToken) (s : State) → (add_results ts s).counted ≡ s.counted
results-counted [] s = refl
results-counted (t ∷ ts) s = results-counted ts (add_result t s)

results-held : (ts : List TextToken) (s : State) → (add_results ts s).held ≡ s.held
results-held [] s = refl
results-held (t ∷ ts) s = results-held ts (add_result t s)

results-named : (ts : List TextToken) (s : State) → values_named (add_results ts s).op.results ≡ values_named s.op.results + length ts
results-named [] s = omega arith
results-named (t ∷ ts) s =
    let h = results-named ts (add_result t s) in
    let one = values-append s.op.results (name_at t s.next ∷ []) in
    omega (arith, h, one)

-- ---- what an act names

closed-named : (o : Option Outer) (s : State) → named false (close_into o s) ≤ 0 + named false s
closed-named None s = omega arith
closed-named (Some o) s = omega arith

op-numbered : (n : Option ℕ) (s : State) → named false (numbered_op n s) ≤ 0 + named false s
op-numbered None s = omega arith
op-numbered (Some n) s = omega arith

func-numbered : (n : Option ℕ) (s : State) → named false (numbered_func n s) ≤ 0 + named false s
func-numbered None s = omega arith
func-numbered (Some n) s = omega arith

held-results : (p : Bool) (s : State) → named p (add_results s.held (begin_op (end_op (record s { held = [] })))) ≤ 0 + named false s
held-results p s =
    let before : State = begin_op (end_op (record s { held = [] })) in
    let counted = results-counted s.held before in
    let held = ap (λ (l : List TextToken). length l) (results-held s.held before) in
    by p counted held (results-named s.held before)
  where
    by : (p : Bool) → (add_results s.held (begin_op (end_op (record s { held = [] })))).counted ≡ s.counted
        → length (add_results s.held (begin_op (end_op (record s { held = [] })))).held ≡ 0
        → values_named (add_results s.held (begin_op (end_op (record s { held = [] })))).op.results ≡ 0 + length s.held
        → named p (add_results s.held (begin_op (end_op (record s { held = [] })))) ≤ 0 + named false s
    by true counted held more = omega (arith, counted, held, more)
    by false counted held more = omega (arith, counted, held)

held-operands : (s : State) → named false (add_operands s.held (record s { held = [] })) ≤ 0 + named false s
held-operands s =
    let counted = operands-counted s.held (record s { held = [] }) in
    let held = ap (λ (l : List TextToken). length l) (operands-held s.held (record s { held = [] })) in
    omega (arith, counted, held)

-- an act names no more than its number
pub act-names : (a : Act) (p : Bool) (s : State) → counts_values a ≡ false → lets a || not p ≡ true → named p (does a s) ≤ names a + named (is_pending_at a p) s
unfolding does
act-names act.ResultCount p s c e = absurd cc
act-names act.Result true s c e =
    let more = values-append s.op.results (name_at s.last s.next ∷ []) in
    omega (arith, more)
act-names act.Result false s c e = omega arith
act-names act.BeginOp true s c e = omega arith
act-names act.BeginOp false s c e = omega arith
act-names act.HeldResults p s c e = held-results p s
act-names act.CountNames false s c e = let h = with-names-le s.op.results s.counted in omega (arith, h)
act-names act.HeldOperands false s c e = held-operands s
act-names act.CloseRegion false s c e = closed-named (last_of s.outer) s
act-names act.OpAt false s c e = op-numbered s.entry_at s
act-names act.FuncAt false s c e = func-numbered s.entry_at s
act-names act.Hold false s c e = let more = length-one-more s.held s.last in omega (arith, more)
act-names act.Operand false s c e = omega arith
act-names act.Param false s c e = omega arith
act-names act.IndexParam false s c e = omega arith
act-names act.BlockParam false s c e = omega arith
act-names _ false s c e = omega arith
act-names _ true s c e = absurd cc
