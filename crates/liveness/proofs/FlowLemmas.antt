-- What the way back through a block does to a set, register by register.
use Rattle.std.proofs.Common.{◌≡◌, inl, inr, ℕ, zero, suc, ◌<◌, ◌==◌, ◌||◌, ◌&&◌, not, Bool, true, false, List, [], ◌∷◌, ◌++◌, length, replicate, get_or, if◌then◌else◌, refl, sym, ap, ◌∙◌, arith, subst}
use Rattle.std.specs.Prelude.{slice_set, nat_lt}
use Rattle.std.proofs.lemmas.List.{length-replicate}
use Rattle.std.proofs.lemmas.Bool.Decides.{eqb_tells, nat_tests}
use Rattle.std.proofs.Math.ListN.{length-set}
use Rattle.bit_sets.specs.Members.{is_in, union}
use Rattle.low_flow.specs.Lists.{has, list_at}
use Rattle.low_forms.specs.declared.code.Reg.{Reg}
use Rattle.low_forms.specs.declared.code.Instr.{Instr}
use Rattle.low_forms.specs.declared.code.Target.{Target}
use Rattle.low_forms.specs.declared.code.Term.{Term}
use Rattle.low_forms.specs.declared.code.Block.{Block}
use Rattle.low_forms.specs.Assigned.{numbers, args_of, used_at_end}
use Rattle.liveness.specs.Flow.{live_before, enters, args_have, set_at, over, joined, with_edge, with_regs, without_regs, with_args, with_term, back_over, back_through}
use Rattle.liveness.proofs.ListLemmas.{has_append, within, set_beyond, at_read}

in_set : (set : List Bool) (n : ℕ) (b : Bool) → n < length set → is_in (slice_set set n b) n ≡ b
in_set [] n b inside = absurd (omega arith)
in_set (a ∷ set) zero b inside = refl
in_set (a ∷ set) (suc n) b inside = in_set set n b (omega arith)

in_set_other : (set : List Bool) (n m : ℕ) (b : Bool) → (n ≡ m → ⊥) → is_in (slice_set set n b) m ≡ is_in set m
in_set_other [] n m b other = refl
in_set_other (a ∷ set) zero zero b other = absurd (other refl)
in_set_other (a ∷ set) zero (suc m) b other = refl
in_set_other (a ∷ set) (suc n) zero b other = refl
in_set_other (a ∷ set) (suc n) (suc m) b other = in_set_other set n m b (λ same. other (ap suc same))

or_true : (a : Bool) → (a || true) ≡ true
or_true true = refl
or_true false = refl

or_swap : (a b c : Bool) → (a || (b || c)) ≡ ((b || a) || c)
or_swap true true c = refl
or_swap true false c = refl
or_swap false true c = refl
or_swap false false c = refl

pub length_with : (rs : List Reg) (set : List Bool) → length (with_regs rs set) ≡ length set
length_with [] set = refl
length_with (x ∷ rs) set = length_with rs (slice_set set x.0 true) ∙ length-set set x.0 true

pub length_without : (rs : List Reg) (set : List Bool) → length (without_regs rs set) ≡ length set
length_without [] set = refl
length_without (x ∷ rs) set = length_without rs (slice_set set x.0 false) ∙ length-set set x.0 false

pub length_args : (ts : List Target) (set : List Bool) → length (with_args ts set) ≡ length set
length_args [] set = refl
length_args (t ∷ ts) set = length_args ts (with_regs t.args set) ∙ length_with t.args set

pub length_term : (t : Term) (set : List Bool) → length (with_term t set) ≡ length set
length_term t set = length_args t.targets (with_regs t.instr.operands set) ∙ length_with t.instr.operands set

pub length_back : (instrs : List Instr) (set : List Bool) → length (back_over instrs set) ≡ length set
length_back [] set = refl
length_back (i ∷ instrs) set = length_with i.operands (without_regs i.results (back_over instrs set)) ∙ length_without i.results (back_over instrs set) ∙ length_back instrs set

pub length_through : (b : Block) (set : List Bool) → length (back_through b set) ≡ length set
length_through b set = length_without b.params (back_over b.instrs (with_term b.term set)) ∙ length_back b.instrs (with_term b.term set) ∙ length_term b.term set

module _ (r : ℕ) where
  set_true : (x : ℕ) (set : List Bool) → r < length set → is_in (slice_set set x true) r ≡ ((r == x) || is_in set r)
  set_true x set inside = elim (eqb_tells r x) [
    | inl same ↦ subst (λ y. is_in (slice_set set y true) r ≡ true) same.1 (in_set set r true inside) ∙ sym (ap (λ b. b || is_in set r) same.0)
    | inr other ↦ in_set_other set x r true (λ same. other.1 (sym same)) ∙ sym (ap (λ b. b || is_in set r) other.0)
  ]

  set_false : (x : ℕ) (set : List Bool) → r < length set → is_in (slice_set set x false) r ≡ (not (r == x) && is_in set r)
  set_false x set inside = elim (eqb_tells r x) [
    | inl same ↦ subst (λ y. is_in (slice_set set y false) r ≡ false) same.1 (in_set set r false inside) ∙ sym (ap (λ b. not b && is_in set r) same.0)
    | inr other ↦ in_set_other set x r false (λ same. other.1 (sym same)) ∙ sym (ap (λ b. not b && is_in set r) other.0)
  ]

  pub in_with : (rs : List Reg) (set : List Bool) → r < length set → is_in (with_regs rs set) r ≡ (has r (numbers rs) || is_in set r)
  in_with [] set inside = refl
  in_with (x ∷ rs) set inside =
      in_with rs (slice_set set x.0 true) (omega (arith, inside, length-set set x.0 true))
      ∙ ap (λ b. has r (numbers rs) || b) (set_true x.0 set inside) ∙ or_swap (has r (numbers rs)) (r == x.0) (is_in set r)

  and_swap : (a b c : Bool) → (not a && (not b && c)) ≡ (not (b || a) && c)
  and_swap true true c = refl
  and_swap true false c = refl
  and_swap false true c = refl
  and_swap false false c = refl

  pub in_without : (rs : List Reg) (set : List Bool) → r < length set → is_in (without_regs rs set) r ≡ (not (has r (numbers rs)) && is_in set r)
  in_without [] set inside = refl
  in_without (x ∷ rs) set inside =
      in_without rs (slice_set set x.0 false) (omega (arith, inside, length-set set x.0 false))
      ∙ ap (λ b. not (has r (numbers rs)) && b) (set_false x.0 set inside) ∙ and_swap (has r (numbers rs)) (r == x.0) (is_in set r)

  pub in_args : (ts : List Target) (set : List Bool) → r < length set → is_in (with_args ts set) r ≡ (has r (args_of ts) || is_in set r)
  in_args [] set inside = refl
  in_args (t ∷ ts) set inside =
      in_args ts (with_regs t.args set) (omega (arith, inside, length_with t.args set))
      ∙ ap (λ b. has r (args_of ts) || b) (in_with t.args set inside)
      ∙ or_swap (has r (args_of ts)) (has r (numbers t.args)) (is_in set r) ∙ sym (ap (λ b. b || is_in set r) (has_append r (numbers t.args) (args_of ts)))

  pub in_term : (t : Term) (set : List Bool) → r < length set → is_in (with_term t set) r ≡ (has r (used_at_end t) || is_in set r)
  in_term t set inside =
      in_args t.targets (with_regs t.instr.operands set) (omega (arith, inside, length_with t.instr.operands set))
      ∙ ap (λ b. has r (args_of t.targets) || b) (in_with t.instr.operands set inside)
      ∙ or_swap (has r (args_of t.targets)) (has r (numbers t.instr.operands)) (is_in set r)
      ∙ sym (ap (λ b. b || is_in set r) (has_append r (numbers t.instr.operands) (args_of t.targets)))

  pub in_back : (instrs : List Instr) (t : Term) (set : List Bool) → r < length set → is_in (back_over instrs (with_term t set)) r ≡ live_before instrs t (is_in set r) r
  in_back [] t set inside = in_term t set inside
  in_back (i ∷ instrs) t set inside =
      let rest : List Bool = back_over instrs (with_term t set) in
      let long : length rest ≡ length set = length_back instrs (with_term t set) ∙ length_term t set in
      in_with i.operands (without_regs i.results rest) (omega (arith, inside, long, length_without i.results rest))
      ∙ ap (λ b. has r (numbers i.operands) || b) (in_without i.results rest (omega (arith, inside, long)) ∙ ap (λ b. not (has r (numbers i.results)) && b) (in_back instrs t set inside))

  pub in_through : (b : Block) (set : List Bool) → r < length set → is_in (back_through b set) r ≡ enters b (is_in set r) r
  in_through b set inside =
      in_without b.params (back_over b.instrs (with_term b.term set)) (omega (arith, inside, length_back b.instrs (with_term b.term set), length_term b.term set))
      ∙ ap (λ c. not (has r (numbers b.params)) && c) (in_back b.instrs b.term set inside)

args_same : (ts : List Target) (r : ℕ) → has r (args_of ts) ≡ args_have r ts
args_same [] r = refl
args_same (t ∷ ts) r = has_append r (numbers t.args) (args_of ts) ∙ ap (λ b. has r (numbers t.args) || b) (args_same ts r)

pub ends_same : (t : Term) (r : ℕ) → has r (used_at_end t) ≡ (has r (numbers t.instr.operands) || args_have r t.targets)
ends_same t r = has_append r (numbers t.instr.operands) (args_of t.targets) ∙ ap (λ b. has r (numbers t.instr.operands) || b) (args_same t.targets r)

-- ---- sets that are joined

pub union_none : (set : List Bool) → union set [] ≡ set
union_none [] = refl
union_none (a ∷ set) = refl

pub length_union : (set other : List Bool) → length (union set other) ≡ length set
length_union [] other = refl
length_union (a ∷ set) [] = refl
length_union (a ∷ set) (b ∷ other) = ap suc (length_union set other)

pub in_union : (set other : List Bool) (n : ℕ) → length set ≡ length other → is_in (union set other) n ≡ (is_in set n || is_in other n)
in_union [] [] n long = refl
in_union [] (b ∷ other) n long = absurd (omega (arith, long))
in_union (a ∷ set) [] n long = absurd (omega (arith, long))
in_union (a ∷ set) (b ∷ other) zero long = refl
in_union (a ∷ set) (b ∷ other) (suc n) long = in_union set other n (omega (arith, long))

in_replicate : (limit n : ℕ) → is_in (replicate limit false) n ≡ false
in_replicate zero n = refl
in_replicate (suc limit) zero = refl
in_replicate (suc limit) (suc n) = in_replicate limit n

pub length_joined : (sets : List (List Bool)) (cs : List ℕ) (set : List Bool) → length (joined sets cs set) ≡ length set
length_joined sets [] set = refl
length_joined sets (c ∷ cs) set = length_joined sets cs (union set (set_at sets c)) ∙ length_union set (set_at sets c)

-- all sets have this length
abbrev pub AreLong : List (List Bool) → ℕ → Type 0
AreLong sets len = (c : ℕ) → c < length sets → length (set_at sets c) ≡ len

in_one : (sets : List (List Bool)) (set : List Bool) (c r : ℕ) → AreLong sets (length set) → is_in (union set (set_at sets c)) r ≡ (is_in set r || is_in (set_at sets c) r)
in_one sets set c r long = elim (within c (length sets)) [
  | inl there ↦ in_union set (set_at sets c) r (sym (long c there))
  | inr beyond ↦
      let none : set_at sets c ≡ [] = set_beyond sets c beyond in
      ap (λ (s : List Bool). is_in (union set s) r) none ∙ ap (λ (s : List Bool). is_in s r) (union_none set) ∙ sym (ap (λ (s : List Bool). is_in set r || is_in s r) none ∙ or_false (is_in set r))
]
  where
    or_false : (b : Bool) → (b || false) ≡ b
    or_false true = refl
    or_false false = refl

in_joined : (sets : List (List Bool)) (cs : List ℕ) (set : List Bool) (r : ℕ) → AreLong sets (length set) → is_in (joined sets cs set) r ≡ (over sets r cs || is_in set r)
in_joined sets [] set r long = refl
in_joined sets (c ∷ cs) set r long =
    in_joined sets cs (union set (set_at sets c)) r (λ d there. long d there ∙ sym (length_union set (set_at sets c)))
    ∙ ap (λ b. over sets r cs || b) (in_one sets set c r long) ∙ turn (over sets r cs) (is_in set r) (is_in (set_at sets c) r)
  where
    turn : (a b c : Bool) → (a || (b || c)) ≡ ((c || a) || b)
    turn true true true = refl
    turn true true false = refl
    turn true false true = refl
    turn true false false = refl
    turn false true true = refl
    turn false true false = refl
    turn false false true = refl
    turn false false false = refl

pub in_over : (sets : List (List Bool)) (cs : List ℕ) (registers r : ℕ) → AreLong sets registers → is_in (joined sets cs (replicate registers false)) r ≡ over sets r cs
in_over sets cs registers r long =
    in_joined sets cs (replicate registers false) r (λ c there. long c there ∙ sym (length-replicate registers false))
    ∙ ap (λ b. over sets r cs || b) (in_replicate registers r) ∙ or_false (over sets r cs)
  where
    or_false : (b : Bool) → (b || false) ≡ b
    or_false true = refl
    or_false false = refl

pub placed : (from to : ℕ) (lists : List (List ℕ)) (old new : List ℕ) → to < length lists → old ≡ get_or lists to old → new ≡ old ++ from ∷ [] → slice_set lists to new ≡ with_edge from to lists
placed from to lists old new inside read is = step (nat_lt to (length lists)) (grind (arith, nat_tests))
  where
    step : (b : Bool) → b ≡ true → slice_set lists to new ≡ (if b then slice_set lists to (list_at lists to ++ from ∷ []) else lists)
    step true inside_is = ap (λ (l : List ℕ). slice_set lists to l) (is ∙ ap (λ (l : List ℕ). l ++ from ∷ []) (at_read lists to old inside read))
    step false inside_is = cc
