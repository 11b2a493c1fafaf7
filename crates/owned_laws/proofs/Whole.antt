-- A function with counts owns what its counts say.
use Rattle.std.proofs.Common.{◌≡◌, ◌⊎◌, inl, inr, ℕ, zero, suc, ◌+◌, ◌-◌, ◌≤◌, ◌==◌, ◌&&◌, ◌||◌, not, if◌then◌else◌, Bool, true, false, List, [], ◌∷◌, length, take, Option, Some, None, refl, sym, ap, ◌∙◌, arith, subst}
use Rattle.std.specs.Prelude.{slice_get, nat_le}
use Rattle.std.proofs.lemmas.Bool.Decides.{nat_tests}
use Rattle.low_flow.specs.Lists.{has, list_at}
use Rattle.low_flow.specs.Paths.{IsPath, last_of}
use Rattle.low_forms.specs.declared.code.Instr.{Instr}
use Rattle.low_forms.specs.declared.code.Term.{Term}
use Rattle.low_forms.specs.declared.code.Block.{Block}
use Rattle.low_forms.specs.declared.code.LowFunc.{LowFunc}
use Rattle.low_forms.specs.Rows.{row_of}
use Rattle.low_forms.specs.Registers.{on_type}
use Rattle.low_forms.specs.Assigned.{numbers}
use Rattle.low_forms.specs.Edges.{edges, count_to}
use Rattle.low_forms.specs.Owns.{is_object, references, uses, takes_at_end, params_of}
use Rattle.low_forms.specs.Saves.{is_suspend}
use Rattle.live_truths.specs.Truths.{is_live}
use Rattle.own_tables.specs.Owns.{is_object_reg, IsReached, lost, got, allows, after, kept, save_allows, allows_at_end, left, is_end, ends_well, part, carried, arrives}
use Rattle.ref_counting.specs.Objects.{is_counted, created_in}
use Rattle.ref_counting.specs.Shape.{counted_block, counted_blocks, counted_func, is_live_over, beside}
use Rattle.count_laws.specs.Laws.{along, one_if, arriving}
use Rattle.count_laws.proofs.NumberLemmas as number
use Rattle.owned_laws.specs.Laws.{number_at_start, number_in, own_number, IsUncounted, PlainFunctionsOwn}
use Rattle.owned_laws.proofs.Same.{references_same, lost_same, got_same, takes_at_end_same, counted_at, blocks_are, regs_are, params_are, edges_are}
use Rattle.owned_laws.proofs.Along.{along_next, allowed_at, along_all}
use Rattle.owned_laws.proofs.Blocks.{calm_at, calm_block, IsEntered, coming_is, block_allowed, left_is, enough_at_end}

-- ---- lists

has_at : (xs : List ℕ) (j d : ℕ) → slice_get xs j ≡ Some d → has d xs ≡ true
has_at [] j d is = cc
has_at (x ∷ xs) zero d is = (let e : x ≡ d = cc in number.or_left (d == x) (has d xs) (let s : d ≡ x = sym e in grind (arith, nat_tests, s)))
has_at (x ∷ xs) (suc j) d is = number.or_right (d == x) (has d xs) (has_at xs j d is)

is_zero : (n : ℕ) → n ≡ 0 → (n == 0) ≡ true
is_zero n e = grind (arith, nat_tests, e)

is_same : (m n : ℕ) → m ≡ n → (m == n) ≡ true
is_same m n e = grind (arith, nat_tests, e)

-- a block that a path reaches is entered
entered : (f : LowFunc) (targets : List (List ℕ)) (b : ℕ) (path : List ℕ) (c : ℕ) → IsPath targets b path → last_of b path ≡ c → targets ≡ edges f → IsEntered f b → IsEntered f c
entered f targets b [] c follows ends same from = subst (λ x. IsEntered f x) ends from
entered f targets b (d ∷ path) c follows ends same from = entered f targets d path c follows.1 ends same (step d follows.0.0)
  where
    step : (x : ℕ) → has x (list_at targets b) ≡ true → IsEntered f x
    step zero there = tt
    step (suc x) there = (b, subst (λ ts. has (suc x) (list_at ts b) ≡ true) same there)

module _ (f : LowFunc) (u : IsUncounted f) where
  abbrev g : LowFunc
  g = counted_func f

  counted_is : (r : ℕ) → is_object_reg g r ≡ true → is_counted f r ≡ true
  counted_is r object = number.and_all (on_type is_object (slice_get f.regs r)) (not (has r (if f.coroutine then created_in f.blocks else [])))
      (sym (ap (λ types. on_type is_object (slice_get types r)) (regs_are f)) ∙ object) (ap (λ x. not (has r (if x then created_in f.blocks else []))) u.plain)

  reached_is : (c : ℕ) → IsReached g c → IsEntered f c
  reached_is c r = entered f (edges g) 0 r.path c r.follows r.ends (edges_are f) tt

  block_of : (c : ℕ) (made : Block) → slice_get g.blocks c ≡ Some made → (b : Block) × (slice_get f.blocks c ≡ Some b) × (made ≡ counted_block f c b)
  block_of c made is =
      let o : (b : Block) × (slice_get f.blocks c ≡ Some b) × (made ≡ counted_block f (0 + c) b) = counted_at f 0 c f.blocks made (sym (ap (λ blocks. slice_get blocks c) (blocks_are f)) ∙ is) in
      let e : 0 + c ≡ c = omega arith in
      (o.0, o.1, o.2 ∙ ap (λ n. counted_block f n o.0) e)

  own_is : (c k r : ℕ) (made : Block) → slice_get g.blocks c ≡ Some made → own_number f c k r ≡ along f r (take k made.instrs) (number_at_start f c r)
  own_is c k r made is = ap (λ (o : Option Block). number_in f c k r o) is

  -- ---- the tests speak of types alone

  allows_is : (i : Instr) (r n : ℕ) → allows g i r n ≡ allows f i r n
  allows_is i r n = ap (λ l. (not (has r (uses i)) || nat_le 1 n) && nat_le l n && (not (has r (numbers i.results)) || (n == 0))) (lost_same f g (regs_are f) i r)

  after_is : (i : Instr) (r n : ℕ) → after g i r n ≡ after f i r n
  after_is i r n = ap (λ l. (n - l) + got g i r) (lost_same f g (regs_are f) i r) ∙ ap (λ x. (n - lost f i r) + x) (got_same f g (regs_are f) i r)

  left_same : (t : Term) (r n : ℕ) → left g t r n ≡ left f t r n
  left_same t r n = ap (λ ts. n - count_to r ts) (takes_at_end_same f g (regs_are f) t)

  -- ---- rows

  module _ (c : ℕ) (made b : Block) (at : slice_get g.blocks c ≡ Some made) (is : slice_get f.blocks c ≡ Some b) (same : made ≡ counted_block f c b) (enters : IsEntered f c) (r : ℕ) (it : is_counted f r ≡ true) where
    abbrev first : ℕ
    first = number_at_start f c r

    instrs_are : made.instrs ≡ (counted_block f c b).instrs
    instrs_are = ap (λ (x : Block). x.instrs) same

    term_is : made.term ≡ b.term
    term_is = ap (λ (x : Block). x.term) same

    row_holds : (k : ℕ) (i : Instr) → slice_get made.instrs k ≡ Some i
        → (allows g i r (own_number f c k r) ≡ true) × (save_allows c made.instrs i r (own_number f c k r) ≡ true) × (own_number f c (suc k) r ≡ after g i r (own_number f c k r))
    row_holds k i named = (
      ap (λ n. allows g i r n) own_here ∙ allows_is i r (along f r (take k (counted_block f c b).instrs) first)
          ∙ allowed_at f r (counted_block f c b).instrs k first i named_there (block_allowed f u r it c b is enters),
      ap (λ x. not (x && (c == 0)) || nat_le (kept made.instrs r) (own_number f c k r)) (calm_at (counted_block f c b).instrs k i (calm_block f c b (u.unsaved c b is)) named_there),
      own_is c (suc k) r made at ∙ ap (λ (xs : List Instr). along f r (take (suc k) xs) first) instrs_are
          ∙ along_next f r (counted_block f c b).instrs k first i named_there
          ∙ sym (ap (λ n. after g i r n) own_here ∙ after_is i r (along f r (take k (counted_block f c b).instrs) first)),
    )
      where
        named_there : slice_get (counted_block f c b).instrs k ≡ Some i
        named_there = sym (ap (λ (xs : List Instr). slice_get xs k) instrs_are) ∙ named

        own_here : own_number f c k r ≡ along f r (take k (counted_block f c b).instrs) first
        own_here = own_is c k r made at ∙ ap (λ (xs : List Instr). along f r (take k xs) first) instrs_are

    -- ---- ends

    whole : own_number f c (length made.instrs) r ≡ along f r (counted_block f c b).instrs first
    whole =
        own_is c (length made.instrs) r made at ∙ ap (λ (xs : List Instr). along f r (take (length xs) xs) first) instrs_are
        ∙ along_all f r (counted_block f c b).instrs first

    left_here : left g made.term r (own_number f c (length made.instrs) r) ≡ one_if (is_live_over f r (list_at (edges f) c))
    left_here =
        ap (λ n. left g made.term r n) whole ∙ left_same made.term r (along f r (counted_block f c b).instrs first)
        ∙ ap (λ t. left f t r (along f r (counted_block f c b).instrs first)) term_is ∙ left_is f u r it c b is enters

    end_holds : (allows_at_end g made.term r (own_number f c (length made.instrs) r) ≡ true) × (ends_well g made.term r (own_number f c (length made.instrs) r) ≡ true)
    end_holds = (
      number.and_all (not (has r (uses made.term.instr)) || nat_le 1 (own_number f c (length made.instrs) r)) (nat_le (count_to r (takes_at_end g made.term)) (own_number f c (length made.instrs) r))
          (ap (λ xs. not (has r xs) || nat_le 1 (own_number f c (length made.instrs) r)) (ap (λ (t : Term). uses t.instr) term_is ∙ u.uses_none c b is)) (number.le_true _ _ enough),
      ends (is_end (row_of made.term.instr.kind).targets) refl,
    )
      where
        enough : count_to r (takes_at_end g made.term) ≤ own_number f c (length made.instrs) r
        enough =
            let t : takes_at_end g made.term ≡ takes_at_end f b.term = takes_at_end_same f g (regs_are f) made.term ∙ ap (λ x. takes_at_end f x) term_is in
            let e : count_to r (takes_at_end f b.term) ≤ along f r (counted_block f c b).instrs first = enough_at_end f u r it c b is enters in
            subst (λ n. count_to r (takes_at_end g made.term) ≤ n) (sym whole) (subst (λ ts. count_to r ts ≤ along f r (counted_block f c b).instrs first) (sym t) e)

        ends : (x : Bool) → is_end (row_of made.term.instr.kind).targets ≡ x → (not x || (left g made.term r (own_number f c (length made.instrs) r) == 0)) ≡ true
        ends false it_ends = refl
        ends true it_ends =
            let none : list_at (edges f) c ≡ [] = u.ends_there c b is (sym (ap (λ (t : Term). is_end (row_of t.instr.kind).targets) term_is) ∙ it_ends) in
            is_zero _ (left_here ∙ ap (λ ts. one_if (is_live_over f r ts)) none)

    -- ---- edges

    carried_is : (j : ℕ) → carried g c made j r (own_number f c (length made.instrs) r) ≡ one_if (is_live_over f r (list_at (edges f) c))
    carried_is j =
        ap (λ x. if x && (c == 0) then part made.instrs j r (own_number f c (length made.instrs) r) else left g made.term r (own_number f c (length made.instrs) r))
        (ap (λ (t : Term). is_suspend t.instr.kind) term_is ∙ u.unsuspended c b is)
        ∙ left_here

    goes_to : (d j : ℕ) (e : Block) → slice_get (list_at (edges g) c) j ≡ Some d → slice_get g.blocks d ≡ Some e
        → arrives g e r (carried g c made j r (own_number f c (length made.instrs) r)) (own_number f d 0 r) ≡ true
    goes_to d j e named there =
        ap (λ n. arrives g e r n (own_number f d 0 r)) (carried_is j) ∙ ap (λ n. arrives g e r (one_if (is_live_over f r (list_at (edges f) c))) n) (own_is d 0 r e there)
        ∙ step d (has_at (list_at (edges f) c) j d (sym (ap (λ ts. slice_get (list_at ts c) j) (edges_are f)) ∙ named)) (block_of d e there)
      where
        step : (x : ℕ) → has x (list_at (edges f) c) ≡ true → (o : Block) × (slice_get f.blocks x ≡ Some o) × (e ≡ counted_block f x o)
            → arrives g e r (one_if (is_live_over f r (list_at (edges f) c))) (number_at_start f x r) ≡ true
        step zero to it_is = (let n : has 0 (list_at (edges f) c) ≡ false = u.not_to_start c in cc)
        step (suc x) to it_is =
            ap (λ n. arrives g e r (one_if (is_live_over f r (list_at (edges f) c))) n) (coming_is f u r it x c it_is.0 it_is.1 to)
            ∙ by_param (has r (numbers it_is.0.params)) refl
          where
            params_are_same : e.params ≡ it_is.0.params
            params_are_same = ap (λ (o : Block). o.params) it_is.2

            named_once : count_to r (references g e.params) ≡ one_if (has r (numbers it_is.0.params))
            named_once =
                ap (λ rs. count_to r rs) (references_same f g (regs_are f) e.params) ∙ ap (λ rs. count_to r (references f rs)) params_are_same ∙ u.once (suc x) r it_is.0 it_is.1 it

            not_over : has r (numbers it_is.0.params) ≡ true → is_live_over f r (list_at (edges f) c) ≡ false
            not_over named_there = aside (u.sides c (suc x) to)
              where
                aside : (beside f (suc x) ≡ list_at (edges f) c) ⊎ ((beside f (suc x) ≡ []) × (list_at (edges f) c ≡ suc x ∷ [])) → is_live_over f r (list_at (edges f) c) ≡ false
                aside (inl one) = sym (ap (λ ts. is_live_over f r ts) one) ∙ u.alone (suc x) r it_is.0 it_is.1 named_there
                aside (inr both) =
                    ap (λ ts. is_live_over f r ts) both.1
                    ∙ ap (λ (o : Option Block). (not (has r (numbers (params_of o))) && is_live f (suc x) 0 r) || false) it_is.1
                    ∙ ap (λ y. (not y && is_live f (suc x) 0 r) || false) named_there

            by_param : (p : Bool) → has r (numbers it_is.0.params) ≡ p
                → arrives g e r (one_if (is_live_over f r (list_at (edges f) c))) (arriving f r it_is.0.params (list_at (edges f) c)) ≡ true
            by_param true p = number.and_all (not (has r (numbers e.params)) || (one_if (is_live_over f r (list_at (edges f) c)) == 0)) (arriving f r it_is.0.params (list_at (edges f) c) == one_if (is_live_over f r (list_at (edges f) c)) + count_to r (references g e.params))
                (number.or_right (not (has r (numbers e.params))) (one_if (is_live_over f r (list_at (edges f) c)) == 0) (is_zero (one_if (is_live_over f r (list_at (edges f) c))) none))
                (is_same (arriving f r it_is.0.params (list_at (edges f) c)) (one_if (is_live_over f r (list_at (edges f) c)) + count_to r (references g e.params)) (omega (arith, m, none, o)))
              where
                none : one_if (is_live_over f r (list_at (edges f) c)) ≡ 0
                none = ap one_if (not_over p)

                m : arriving f r it_is.0.params (list_at (edges f) c) ≡ 1
                m = ap (λ y. if y then 1 else one_if (is_live_over f r (list_at (edges f) c))) p

                o : count_to r (references g e.params) ≡ 1
                o = named_once ∙ ap one_if p
            by_param false p = number.and_all (not (has r (numbers e.params)) || (one_if (is_live_over f r (list_at (edges f) c)) == 0)) (arriving f r it_is.0.params (list_at (edges f) c) == one_if (is_live_over f r (list_at (edges f) c)) + count_to r (references g e.params))
                (number.or_left (not (has r (numbers e.params))) (one_if (is_live_over f r (list_at (edges f) c)) == 0) (ap (λ rs. not (has r (numbers rs))) params_are_same ∙ ap not p))
                (is_same (arriving f r it_is.0.params (list_at (edges f) c)) (one_if (is_live_over f r (list_at (edges f) c)) + count_to r (references g e.params)) (omega (arith, m, o)))
              where
                m : arriving f r it_is.0.params (list_at (edges f) c) ≡ one_if (is_live_over f r (list_at (edges f) c))
                m = ap (λ y. if y then 1 else one_if (is_live_over f r (list_at (edges f) c))) p

                o : count_to r (references g e.params) ≡ 0
                o = named_once ∙ ap one_if p

  starts_well : (r : ℕ) → is_object_reg g r ≡ true → own_number f 0 0 r ≡ count_to r (references g g.params)
  starts_well r object = first_block (slice_get g.blocks 0) refl
    where
      given : count_to r (references g g.params) ≡ one_if (has r (numbers f.params))
      given = ap (λ rs. count_to r rs) (references_same f g (regs_are f) g.params) ∙ ap (λ rs. count_to r (references f rs)) (params_are f) ∙ u.params_once r (counted_is r object)

      first_block : (o : Option Block) → slice_get g.blocks 0 ≡ o → own_number f 0 0 r ≡ count_to r (references g g.params)
      first_block (Some made) is = own_is 0 0 r made is ∙ sym given
      first_block None is = absurd (u.has_start (blocks_none is))
        where
          blocks_none : slice_get g.blocks 0 ≡ None → slice_get f.blocks 0 ≡ None
          blocks_none none = empty f.blocks (sym (ap (λ blocks. slice_get blocks 0) (blocks_are f)) ∙ none)
            where
              empty : (blocks : List Block) → slice_get (counted_blocks f 0 blocks) 0 ≡ None → slice_get blocks 0 ≡ None
              empty [] e = refl
              empty (b ∷ blocks) e = cc

pub plain_functions_own : PlainFunctionsOwn
plain_functions_own f u = record {
  starts = starts_well f u;
  rows = λ c k r made i reached at named object. (
      let o : (b : Block) × (slice_get f.blocks c ≡ Some b) × (made ≡ counted_block f c b) = block_of f u c made at in
      row_holds f u c made o.0 at o.1 o.2 (reached_is f u c reached) r (counted_is f u r object) k i named
      );
  ends = λ c r made reached at object. (
      let o : (b : Block) × (slice_get f.blocks c ≡ Some b) × (made ≡ counted_block f c b) = block_of f u c made at in
      end_holds f u c made o.0 at o.1 o.2 (reached_is f u c reached) r (counted_is f u r object)
      );
  goes = λ c d j r made e reached at named there object. (
      let o : (b : Block) × (slice_get f.blocks c ≡ Some b) × (made ≡ counted_block f c b) = block_of f u c made at in
      goes_to f u c made o.0 at o.1 o.2 (reached_is f u c reached) r (counted_is f u r object) d j e named there
      );
}
