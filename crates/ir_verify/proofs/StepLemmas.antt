-- The faults of a list of places, one operation or region after another.
use Rattle.std.proofs.Common.{◌≡◌, ℕ, zero, suc, ◌+◌, ◌<◌, ◌≤◌, ◌==◌, Bool, List, [], ◌∷◌, ◌++◌, length, drop, take, get_or, Option, refl, sym, ap, ◌∙◌, arith, add-one}
use Rattle.std.proofs.Math.Seq.{drop-cons}
use Rattle.std.proofs.lemmas.Bool.Decides.{nat_tests}
use Rattle.ir_forms.specs.declared.ops.Op.{Op}
use Rattle.ir_forms.specs.declared.ops.Region.{Region}
use Rattle.ir_forms.specs.declared.ops.Func.{Func}
use Rattle.ir_forms.specs.Ops.{results_of, regions_of, ops_of}
use Rattle.ir_verify.specs.declared.fault.Broken.{Broken}
use Rattle.ir_verify.specs.Places.{Around, Seen, Spot, places_at, places_in, places_along, places_held, place_of, within, params_of, defined, types_of, is_none_left}
use Rattle.ir_verify.specs.Breaks.{noted_all, noted_spot}
use Rattle.ir_verify.proofs.PlaceLemmas.{places_at-out, places_in-out}

pub noted_append : (xs ys : List Spot) (best : Option Broken) → noted_all (xs ++ ys) best ≡ noted_all ys (noted_all xs best)
noted_append [] ys best = refl
noted_append (x ∷ xs) ys best = noted_append xs ys (noted_spot x best)

past : {X : Type 0} → (xs : List X) (n : ℕ) → length xs ≤ n → drop n xs ≡ []
past [] zero within = refl
past [] (suc n) within = refl
past (x ∷ xs) zero within = absurd (omega arith)
past (x ∷ xs) (suc n) within = past xs n (omega arith)

module _ (funcs : List Func) where
  pub op_begins : (op : Op) (around : Around) (seen : Seen) (last : Bool) (best now : Option Broken) → now ≡ noted_spot (record { seen = seen; place = place_of funcs around last op }) best →
      noted_all (places_held funcs (regions_of op) around op 0 seen) now ≡ noted_all (places_at funcs op around seen last) best
  op_begins op around seen last best now is = rw is (sym (ap (λ (places : List Spot). noted_all places best) (places_at-out funcs op around seen last)))

  pub held_next : (regions : List Region) (region : Region) (i : ℕ) (around : Around) (op : Op) (seen : Seen) (best after whole : Option Broken) →
      i < length regions → region ≡ get_or regions i region → after ≡ noted_all (places_in funcs region (within around op i) seen) best →
      noted_all (places_held funcs (drop i regions) around op i seen) best ≡ whole → noted_all (places_held funcs (drop (i + 1) regions) around op (i + 1) seen) after ≡ whole
  held_next regions region i around op seen best after whole inside at is so_far =
      let front : drop i regions ≡ region ∷ drop (suc i) regions = drop-cons regions i region inside ∙ ap (λ x. x ∷ drop (suc i) regions) (sym at) in
      let split : noted_all (places_held funcs (drop i regions) around op i seen) best ≡ noted_all (places_held funcs (drop (suc i) regions) around op (i + 1) seen) (noted_all (places_in funcs region (within around op i) seen) best) =
      ap (λ (rest : List Region). noted_all (places_held funcs rest around op i seen) best) front ∙ noted_append (places_in funcs region (within around op i) seen) (places_held funcs (drop (suc i) regions) around op (i + 1) seen) best in
      rw (is, add-one) (rw add-one at (sym split)) ∙ so_far

  pub held_done : (regions : List Region) (i : ℕ) (around : Around) (op : Op) (seen : Seen) (best whole : Option Broken) → length regions ≤ i →
      noted_all (places_held funcs (drop i regions) around op i seen) best ≡ whole → best ≡ whole
  held_done regions i around op seen best whole done so_far = ap (λ (rest : List Region). noted_all (places_held funcs rest around op i seen) best) (sym (past regions i done)) ∙ so_far

  pub region_begins : (region : Region) (around : Around) (seen now : Seen) (best : Option Broken) → now ≡ seen ++ params_of region →
      noted_all (places_along funcs (ops_of region) around now) best ≡ noted_all (places_in funcs region around seen) best
  region_begins region around seen now best is = rw is (sym (ap (λ (places : List Spot). noted_all places best) (places_in-out funcs region around seen)))

  last_of : (ops : List Op) (i : ℕ) → i < length ops → (suc i == length ops) ≡ is_none_left (drop (suc i) ops)
  last_of [] i inside = absurd (omega arith)
  last_of (op ∷ []) zero inside = refl
  last_of (op ∷ o ∷ ops) zero inside = grind (arith, nat_tests)
  last_of (op ∷ []) (suc i) inside = absurd (omega arith)
  last_of (op ∷ o ∷ ops) (suc i) inside = shift (suc i) (length (o ∷ ops)) ∙ last_of (o ∷ ops) i (omega arith)
    where
      shift : (a b : ℕ) → (suc a == suc b) ≡ (a == b)
      shift a b = grind (arith, nat_tests)

  pub along_next : (ops : List Op) (op : Op) (i : ℕ) (around : Around) (seen now : Seen) (last : Bool) (best after whole : Option Broken) →
      i < length ops → op ≡ get_or ops i op → last ≡ (i + 1 == length ops) → now ≡ seen ++ defined (results_of op) (types_of op) →
      after ≡ noted_all (places_at funcs op around seen last) best →
      noted_all (places_along funcs (drop i ops) around seen) best ≡ whole → noted_all (places_along funcs (drop (i + 1) ops) around now) after ≡ whole
  along_next ops op i around seen now last best after whole inside at ending visible is so_far =
      let front : drop i ops ≡ op ∷ drop (suc i) ops = drop-cons ops i op inside ∙ ap (λ x. x ∷ drop (suc i) ops) (sym at) in
      let ends : last ≡ is_none_left (drop (suc i) ops) = ending ∙ rw add-one (last_of ops i inside) in
      let split : noted_all (places_along funcs (drop i ops) around seen) best
      ≡ noted_all (places_along funcs (drop (suc i) ops) around (seen ++ defined (results_of op) (types_of op))) (noted_all (places_at funcs op around seen (is_none_left (drop (suc i) ops))) best) =
      ap (λ (rest : List Op). noted_all (places_along funcs rest around seen) best) front
      ∙ noted_append (places_at funcs op around seen (is_none_left (drop (suc i) ops))) (places_along funcs (drop (suc i) ops) around (seen ++ defined (results_of op) (types_of op))) best in
      rw (is, visible, ends, add-one) (sym split) ∙ so_far

  pub along_done : (ops : List Op) (i : ℕ) (around : Around) (seen : Seen) (best whole : Option Broken) → length ops ≤ i →
      noted_all (places_along funcs (drop i ops) around seen) best ≡ whole → best ≡ whole
  along_done ops i around seen best whole done so_far = ap (λ (rest : List Op). noted_all (places_along funcs rest around seen) best) (sym (past ops i done)) ∙ so_far

pub take_front : {X : Type 0} → (xs ys : List X) → take (length xs) (xs ++ ys) ≡ xs
take_front [] ys = refl
take_front (x ∷ xs) ys = ap (λ rest. x ∷ rest) (take_front xs ys)
