-- Each act makes of what is kept of a state what is kept of the state that it makes.
use Rattle.std.proofs.Common.{◌≡◌, ℕ, zero, suc, Bool, true, false, cond, List, [], ◌∷◌, ◌++◌, map, take, Option, Some, None, refl, ap, ◌∙◌, bytes_eq, codes, option_map}
use Rattle.module_grammar.specs.State.{resolved, values_of, param_names, param_value, last_typed, typed_by, op_of, entry_after, entry_number, last_of, without_last, does, first_of, values_of_name, add_operands, add_results, add_result, add_operand, close_into, end_op, begin_op, is_untyped}
use Rattle.round_trip.proofs.Core.{spoken, token_of, bare, bare_param, bare_op, bare_outer, bare_entry, Core, text_of, core, done, one_result, all_results, one_operand, all_operands, closed_into, ended_op, begun_op}
use Rattle.std.proofs.lemmas.List.{map-append, length-map}
use Rattle.ir_forms.specs.declared.types.Ty.{Ty}
use Rattle.ir_forms.specs.declared.ops.ValueNo.{ValueNo}
use Rattle.module_grammar.specs.declared.symbols.Act.{Act}
use Rattle.module_grammar.specs.declared.symbols.Act.TheVariants as act
use Rattle.module_grammar.specs.declared.state.TextToken.{TextToken}
use Rattle.module_grammar.specs.declared.state.Name.{Name}
use Rattle.module_grammar.specs.declared.state.Param.{Param}
use Rattle.module_grammar.specs.declared.state.OpenOp.{OpenOp}
use Rattle.module_grammar.specs.declared.state.Outer.{Outer}
use Rattle.module_grammar.specs.declared.state.DictEntry.{DictEntry}
use Rattle.module_grammar.specs.declared.state.DictEntry.TheVariants as entry
use Rattle.module_grammar.specs.declared.state.State.{State}
use Rattle.module_grammar.specs.Tokens.{is_number_kind, number_of, type_of}

-- ---- names without their places

pub resolved-bare : (ns : List Name) (text : List ℕ) → resolved (map bare ns) text ≡ resolved ns text
resolved-bare [] text = refl
resolved-bare (n ∷ ns) text = ap (λ (v : ValueNo). cond (bytes_eq n.text text) (first_of n n.count) v) (resolved-bare ns text)

pub values-bare : (ns : List Name) → values_of (map bare ns) ≡ values_of ns
values-bare [] = refl
values-bare (n ∷ ns) = ap (λ (vs : List ValueNo). values_of_name n n.count ++ vs) (values-bare ns)

pub param-names-bare : (ps : List Param) → param_names (map bare_param ps) ≡ map bare (param_names ps)
param-names-bare [] = refl
param-names-bare (p ∷ ps) = ap (λ (ns : List Name). bare p.name ∷ ns) (param-names-bare ps)

pub param-values-bare : (ps : List Param) → map param_value (map bare_param ps) ≡ map param_value ps
param-values-bare [] = refl
param-values-bare (p ∷ ps) = ap (λ (vs : List (ValueNo × Ty)). param_value p ∷ vs) (param-values-bare ps)

last-typed-bare : (ps : List Param) (t : Ty) → map bare_param (last_typed ps t) ≡ last_typed (map bare_param ps) t
last-typed-bare [] t = refl
last-typed-bare (p ∷ []) t = refl
last-typed-bare (p ∷ q ∷ ps) t = ap (λ (l : List Param). bare_param p ∷ l) (last-typed-bare (q ∷ ps) t)

typed-by-bare : (ps : List Param) (ts : List Ty) → map bare_param (typed_by ps ts) ≡ typed_by (map bare_param ps) ts
typed-by-bare [] ts = refl
typed-by-bare (p ∷ ps) ts = chosen (is_untyped p.ty) _ _ _ _ _ _ (typed-by-bare ps _) (typed-by-bare ps ts)
  where
    chosen : (b : Bool) (q r : Param) (xs ys us vs : List Param) → map bare_param xs ≡ us → map bare_param ys ≡ vs
        → map bare_param (cond b (q ∷ xs) (r ∷ ys)) ≡ cond b (bare_param q ∷ us) (bare_param r ∷ vs)
    chosen true q r xs ys us vs e f = ap (λ (l : List Param). bare_param q ∷ l) e
    chosen false q r xs ys us vs e f = ap (λ (l : List Param). bare_param r ∷ l) f

op-of-bare : (o : OpenOp) → op_of (bare_op o) ≡ op_of o
op-of-bare o = rw values-bare refl

-- ---- lists

last-of-map : {A B : Type 0} (f : A → B) (xs : List A) → last_of (map f xs) ≡ option_map f (last_of xs)
last-of-map f [] = refl
last-of-map f (x ∷ []) = refl
last-of-map f (x ∷ y ∷ xs) = last-of-map f (y ∷ xs)

without-last-map : {A B : Type 0} (f : A → B) (xs : List A) → without_last (map f xs) ≡ map f (without_last xs)
without-last-map f [] = refl
without-last-map f (x ∷ []) = refl
without-last-map f (x ∷ y ∷ xs) = ap (λ l. f x ∷ l) (without-last-map f (y ∷ xs))

pub take-map : {A B : Type 0} (f : A → B) (n : ℕ) (xs : List A) → take n (map f xs) ≡ map f (take n xs)
take-map f zero xs = refl
take-map f (suc n) [] = refl
take-map f (suc n) (x ∷ xs) = ap (λ l. f x ∷ l) (take-map f n xs)

-- ---- the acts

add-operands-core : (ts : List TextToken) (s : State) → core (add_operands ts s) ≡ all_operands (map text_of ts) (core s)
add-operands-core [] s = refl
add-operands-core (t ∷ ts) s = add-operands-core ts (add_operand t s) ∙ ap (λ (c : Core). all_operands (map text_of ts) c) (one t s)
  where
    one : (t : TextToken) (s : State) → core (add_operand t s) ≡ one_operand t.text (core s)
    one t s = rw resolved-bare refl

result-core : (t : TextToken) (s : State) → core (add_result t s) ≡ one_result t.text (core s)
result-core t s = rw map-append refl

add-results-core : (ts : List TextToken) (s : State) → core (add_results ts s) ≡ all_results (map text_of ts) (core s)
add-results-core [] s = refl
add-results-core (t ∷ ts) s = add-results-core ts (add_result t s) ∙ ap (λ (c : Core). all_results (map text_of ts) c) (result-core t s)

end-core : (s : State) → core (end_op s) ≡ ended_op (core s)
end-core s = rw (map-append, op-of-bare s.op) refl

close-core : (u : Option Outer) (s : State) → core (close_into u s) ≡ closed_into (option_map bare_outer u) (core s)
close-core None s = refl
close-core (Some u) s = rw (take-map, without-last-map, param-values-bare) refl

numbered-core : (n : Option ℕ) (s : State) → core (does act.OpAt (record s { entry_at = n })) ≡ done act.OpAt (core (record s { entry_at = n }))
unfolding does
numbered-core None s = refl
numbered-core (Some n) s = refl

func-numbered-core : (n : Option ℕ) (s : State) → core (does act.FuncAt (record s { entry_at = n })) ≡ done act.FuncAt (core (record s { entry_at = n }))
unfolding does
func-numbered-core None s = refl
func-numbered-core (Some n) s = refl

entry-chosen : (b : Bool) (x y z : DictEntry) → bare_entry x ≡ bare_entry y → bare_entry (cond b x z) ≡ bare_entry (cond b y z)
entry-chosen true x y z e = e
entry-chosen false x y z e = refl

entry-core : (e : DictEntry) (t : TextToken) → bare_entry (entry_after e t) ≡ bare_entry (entry_after (bare_entry e) (token_of (spoken t)))
unfolding number_of
entry-core entry.Fresh t = refl
entry-core entry.Keyed t = refl
entry-core entry.Equated t = entry-chosen (is_number_kind t.kind) _ _ entry.Other refl
entry-core (entry.Numbered n at) t = entry-chosen (bytes_eq t.text (codes ":")) _ _ entry.Other refl
entry-core (entry.Typed n at) t = entry-chosen (bytes_eq t.text (codes "i64")) _ _ entry.Other refl
entry-core (entry.Whole n at) t = refl
entry-core entry.Other t = refl

entry-number-core : (e : DictEntry) (n : Option ℕ) → entry_number e n ≡ entry_number (bare_entry e) n
entry-number-core (entry.Whole m at) n = refl
entry-number-core _ n = refl

-- printed texts have no such acts
abbrev pub is_printed : Act → Bool
is_printed act.ResultCount = false
is_printed act.OperandIndex = false
is_printed act.OtherEntry = false
is_printed _ = true

pub core-does : (a : Act) → is_printed a ≡ true → (s : State) → core (does a s) ≡ done a (core s)
unfolding does number_of type_of
core-does act.FuncAt e s = func-numbered-core s.entry_at s
core-does act.OpenBody e s = rw param-names-bare refl
core-does act.EndFunc e s = rw param-values-bare refl
core-does act.EndOp e s = end-core s
core-does act.OpAt e s = numbered-core s.entry_at s
core-does act.OpenRegion e s = rw (map-append, map-append, length-map, param-names-bare) refl
core-does act.CloseRegion e s = close-core (last_of s.outer) s ∙ rw last-of-map refl
core-does act.Result e s = result-core s.last s
core-does act.Operand e s = rw resolved-bare refl
core-does act.Hold e s = rw map-append refl
core-does act.HeldOperands e s = add-operands-core s.held (record s { held = [] })
core-does act.HeldResults e s =
    let t : State = record s { held = [] } in
    add-results-core s.held (begin_op (end_op t))
    ∙ ap (λ (c : Core). all_results (map text_of s.held) (begun_op c)) (end-core t)
core-does act.Param e s = rw map-append refl
core-does act.IndexParam e s = rw map-append refl
core-does act.ParamType e s = rw last-typed-bare refl
core-does act.BlockParam e s = rw (map-append, map-append) refl
core-does act.BlockParamType e s = rw last-typed-bare refl
core-does act.PayloadParam e s = rw last-typed-bare refl
core-does act.ResultParams e s = rw typed-by-bare refl
core-does act.WrittenParams e s = rw typed-by-bare refl
core-does act.Entry e s = rw (entry-core s.entry s.last) refl
core-does act.EndEntry e s = rw (entry-number-core s.entry s.entry_at) refl
core-does act.ResultCount e s = absurd cc
core-does act.OperandIndex e s = absurd cc
core-does act.OtherEntry e s = absurd cc
core-does _ e s = refl
