-- What is shared stays in range, and so do the answers.
use Rattle.std.specs.Prelude.{◌≤◌, IfSome, length, replicate, slice_set, slice_get}
use Rattle.std.specs.List.{find}
use Rattle.std.specs.Option.{option_map}
use Rattle.std.proofs.Common.{◌≡◌, ◌<◌, ◌+◌, ℕ, zero, suc, Bool, true, false, cond, List, [], ◌∷◌, ◌++◌, map, Option, Some, None, arith}
use Rattle.std.proofs.lemmas.Bool.{ltb-true}
use Rattle.ir_forms.specs.declared.names.ElementName.{ElementName}
use Rattle.ir_forms.specs.declared.names.ElementName.TheVariants.{Token, Value}
use Rattle.ir_forms.specs.declared.names.MadeName.{MadeName}
use Rattle.ir_forms.specs.Names.{Path, launched_by, iteration_of, same_path, same_made, maker}
use Rattle.ir_forms.specs.Shapes.{product}
use Rattle.source_meaning.specs.declared.values.Val.{Val}
use Rattle.source_meaning.specs.declared.values.Val.TheVariants.{Element}
use Rattle.source_meaning.specs.Values.{maybe, or_else, nothing}
use Rattle.source_meaning.specs.Rows.{most_elements}
use Rattle.source_meaning.specs.Tasks.{Ask, Reads, Writes, Allocs, Creates, Adds, Launches, Enters, JoinsAll, AwaitsOne, AwaitsAll, Outcome, Gave, FailedAt}
use Rattle.source_meaning.specs.World.{Store, Gathering, World, cells_in, cell, group_at, members, size, outcome, is_good, all_of, all_below, numbers_from, awaited, unless_failed, answer, written, joined_by, after, enabled}
use Rattle.source_meaning.specs.TaskOrder.{Each}
use Rattle.typed_laws.specs.Ranges.{IsNumber, IsInRange, AreInRange, OutcomeInRange, WorldInRange}
use Rattle.typed_laws.proofs.Ranged.{AskInRange, each_map}

pub each_found : {X : Type 0} (P : X → Type 0) (test : X → Bool) (xs : List X) → Each P xs → IfSome (find test xs) P
each_found P test [] h = tt
each_found P test (x ∷ xs) h = split (test x) (each_found P test xs h.1) where
  split : (b : Bool) → IfSome (find test xs) P → IfSome (cond b (Some x) (find test xs)) P
  split true k = h.0
  split false k = k

-- ---- what is there

number_at : (ns : List ℕ) (i : ℕ) → Each IsNumber ns → IsNumber (or_else 0 (slice_get ns i))
number_at [] i h = omega arith
number_at (n ∷ ns) zero h = h.0
number_at (n ∷ ns) (suc i) h = number_at ns i h.1

cells_found : (o : Option Store) → IfSome o (λ s. Each IsNumber s.cells) → Each IsNumber (maybe [] (λ (s : Store). s.cells) o)
cells_found None h = tt
cells_found (Some s) h = h

cell_number : (w : World) (b : MadeName) (i : ℕ) → WorldInRange w → IsNumber (cell w b i)
cell_number w b i h = number_at (cells_in w b) i (cells_found (find (λ s. same_made s.name b) w.buffers) (each_found (λ (s : Store). Each IsNumber s.cells) (λ s. same_made s.name b) w.buffers h.cells))

size_found : (o : Option Gathering) → IfSome o (λ g. g.size ≤ most_elements) → maybe 0 (λ (g : Gathering). g.size) o ≤ most_elements
size_found None h = omega arith
size_found (Some g) h = h

size_most : (w : World) (g : MadeName) → WorldInRange w → size w g ≤ most_elements
size_most w g h = size_found (group_at w g) (each_found (λ (x : Gathering). x.size ≤ most_elements) (λ x. same_made x.name g) w.groups h.sizes)

outcome_found : (o : Option (Path × Outcome)) → IfSome o (λ e. OutcomeInRange e.1) → IfSome (option_map (λ (e : Path × Outcome). e.1) o) OutcomeInRange
outcome_found None h = tt
outcome_found (Some e) h = h

outcome_in : (w : World) (q : Path) → WorldInRange w → IfSome (outcome w q) OutcomeInRange
outcome_in w q h = outcome_found (find (λ (e : Path × Outcome). same_path e.0 q) w.ends) (each_found (λ (e : Path × Outcome). OutcomeInRange e.1) (λ e. same_path e.0 q) w.ends h.ends)

-- ---- answers

value_of : (vs : List Val) (j : ℕ) → AreInRange vs → IsInRange (or_else nothing (slice_get vs j))
value_of [] j h = omega arith
value_of (v ∷ vs) zero h = h.0
value_of (v ∷ vs) (suc j) h = value_of vs j h.1

awaited_in : (x : ElementName) (o : Option Outcome) → IfSome o OutcomeInRange → IfSome (awaited x o) AreInRange
awaited_in (Token p) None h = tt
awaited_in (Token p) (Some (Gave vs)) h = tt
awaited_in (Token p) (Some (FailedAt at)) h = tt
awaited_in (Value p j) None h = tt
awaited_in (Value p j) (Some (Gave vs)) h = (value_of vs j h, tt)
awaited_in (Value p j) (Some (FailedAt at)) h = tt

unless_in : (b : Bool) → IfSome (unless_failed b) AreInRange
unless_in true = tt
unless_in false = tt

elements_in : (q : Path) (js : List ℕ) → AreInRange (map (λ j. Element (Value q j)) js)
elements_in q [] = tt
elements_in q (j ∷ js) = (tt, elements_in q js)

pub answer_in : (w : World) (q : Path) (k : ℕ) (a : Ask) → WorldInRange w → AskInRange a → enabled w q k a ≡ true → IfSome (answer w q k a) AreInRange
answer_in w q k (Reads b i) h m e = (cell_number w b i h, tt)
answer_in w q k (Writes b i n) h m e = tt
answer_in w q k (Allocs dims) h m e = (m, tt)
answer_in w q k (Creates n) h m e = (tt, tt)
answer_in w q k (Adds g x used) h m e =
    let less : length (members w g) < size w g = ltb-true (length (members w g)) (size w g) e in
    let most : size w g ≤ most_elements = size_most w g h in
    (omega (arith, less, most), tt)
answer_in w q k (Launches t r) h m e = (tt, elements_in (launched_by q (k + 1)) (numbers_from 0 r))
answer_in w q k (Enters loop) h m e = tt
answer_in w q k (JoinsAll loop) h m e = unless_in (all_below (λ i. is_good (outcome w (iteration_of q k i))) loop.total)
answer_in w q k (AwaitsOne x) h m e = awaited_in x (outcome w (maker x)) (outcome_in w (maker x) h)
answer_in w q k (AwaitsAll g) h m e = unless_in (all_of (λ x. is_good (outcome w (maker x))) (members w g))

-- ---- how it changes

set_numbers : (ns : List ℕ) (i n : ℕ) → Each IsNumber ns → IsNumber n → Each IsNumber (slice_set ns i n)
set_numbers [] i n h k = tt
set_numbers (m ∷ ns) zero n h k = (k, h.1)
set_numbers (m ∷ ns) (suc i) n h k = (h.0, set_numbers ns i n h.1 k)

zeros : (n : ℕ) → Each IsNumber (replicate n 0)
zeros zero = tt
zeros (suc n) = (omega arith, zeros n)

written_in : (b : MadeName) (i n : ℕ) (s : Store) → IsNumber n → Each IsNumber s.cells → Each IsNumber (written b i n s).cells
written_in b i n s k h = split (same_made s.name b) where
  split : (c : Bool) → Each IsNumber (cond c (record s { cells = slice_set s.cells i n }) s).cells
  split true = set_numbers s.cells i n h k
  split false = h

joined_in : (b : MadeName) (x : ElementName) (g : Gathering) → g.size ≤ most_elements → (joined_by b x g).size ≤ most_elements
joined_in b x g h = split (same_made g.name b) where
  split : (c : Bool) → (cond c (record g { members = g.members ++ x ∷ [] }) g).size ≤ most_elements
  split true = h
  split false = h

pub after_in : (w : World) (q : Path) (k : ℕ) (a : Ask) → WorldInRange w → AskInRange a → WorldInRange (after w q k a)
after_in w q k (Reads b i) h m = h
after_in w q k (Writes b i n) h m = record {
  cells = each_map (λ (s : Store). Each IsNumber s.cells) (λ (s : Store). Each IsNumber s.cells) (written b i n) (λ s. written_in b i n s m) w.buffers h.cells;
  sizes = h.sizes;
  ends = h.ends;
}
after_in w q k (Allocs dims) h m = record { cells = (zeros (product dims), h.cells); sizes = h.sizes; ends = h.ends }
after_in w q k (Creates n) h m = record { cells = h.cells; sizes = (m, h.sizes); ends = h.ends }
after_in w q k (Adds g x used) h m = record {
  cells = h.cells;
  sizes = each_map (λ (y : Gathering). y.size ≤ most_elements) (λ (y : Gathering). y.size ≤ most_elements) (joined_by g x) (λ y. joined_in g x y) w.groups h.sizes;
  ends = h.ends;
}
after_in w q k (Launches t r) h m = h
after_in w q k (Enters loop) h m = h
after_in w q k (JoinsAll loop) h m = h
after_in w q k (AwaitsOne x) h m = h
after_in w q k (AwaitsAll g) h m = h
