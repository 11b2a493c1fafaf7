-- The worked module's trace is ordered, by computing.
use Rattle.std.proofs.Common.{◌≡◌, ℕ, zero, suc, List, [], ◌∷◌, ◌++◌, map, None, Some, refl, sym, ap, subst, ◌∙◌}
use Rattle.ir_forms.specs.Ops.{ops_of}
use Rattle.ir_forms.specs.declared.ops.ValueNo.{ValueNo}
use Rattle.ir_forms.specs.declared.ops.Op.{Op, roll-Op, out-Op}
use Rattle.ir_forms.specs.declared.ops.Region.{roll-Region, out-Region}
use Rattle.ir_forms.specs.declared.ops.Op.TheBlock.{shown-the_row-Op-1}
use Rattle.ir_forms.specs.declared.types.OutTy.TheVariants as out
use Rattle.int_ops.specs.declared.Width.TheVariants as wd
use Rattle.race_order.specs.Race.{IsAnswer, IsOrdered, first_race_in}
use Rattle.race_order.proofs.FirstRace.{first_race_tells}
use Rattle.meaning_laws.specs.Worked.{ordered_writes_f0, ordered_writes_p, ordered_writes_trace}
use Rattle.meaning_laws.proofs.Examples.{worked_modules}
use Rattle.meaning_laws.proofs.SeqRun.{sequential_is_a_run}
use Rattle.source_meaning.specs.declared.ends.SourceEnd.{SourceEnd}
use Rattle.source_meaning.specs.declared.ends.SourceEnd.TheVariants.{Done}
use Rattle.source_meaning.specs.Parts.{joined, uses_of}
use Rattle.end_laws.specs.Unread.{operands_of, operands_under}
use Rattle.end_laws.proofs.Unread.{op_operands, region_operands}
use Rattle.source_meaning.specs.TaskOrder.{Finishes, end_in}
use Rattle.source_meaning.specs.Runs.{Ends}
use Rattle.order_laws.specs.Worked.{one_cell, OrderedWritesHaveOneEnd}
use Rattle.order_laws.proofs.Same.{agrees_here}
use Rattle.order_laws.proofs.Meant.{meant_ends}

map_same : {X Y : Type 0} (f g : X → Y) → ((x : X) → f x ≡ g x) → (xs : List X) → map f xs ≡ map g xs
map_same f g h [] = refl
map_same f g h (x ∷ xs) = ap (λ y. y ∷ map f xs) (h x) ∙ ap (λ ys. g x ∷ ys) (map_same f g h xs)

-- the operands of these operations, computed to this depth
uses_deep : ℕ → List Op → List ValueNo
uses_deep zero ops = joined (map operands_of ops)
uses_deep (suc n) ops = joined (map (λ o. (out-Op o).operands ++ joined (map (λ r. uses_deep n (ops_of r)) (out-Op o).regions)) ops)

deep_same : (n : ℕ) (ops : List Op) → uses_deep n ops ≡ joined (map operands_of ops)
unfolding uses_deep
deep_same zero ops = refl
deep_same (suc n) ops = ap joined (map_same (λ o. (out-Op o).operands ++ joined (map (λ r. uses_deep n (ops_of r)) (out-Op o).regions)) operands_of
    (λ o. ap (λ xs. (out-Op o).operands ++ joined xs) (map_same (λ r. uses_deep n (ops_of r)) operands_under (λ r. deep_same n (ops_of r) ∙ sym (region_operands r)) (out-Op o).regions) ∙ sym (op_operands o)) ops)

computed : ordered_writes_p.uses ≡ uses_deep 2 (ops_of ordered_writes_f0.body) ∷ []
unfolding uses_deep out-Op roll-Op out-Region roll-Region denote.Hole.Carrier.out denote.Hole.Carrier.roll shown-the_row-Op-1 denote.Hole.Carrier.shown denote.Hole.Carrier.hidden
computed = refl

uses_so : ordered_writes_p.uses ≡ map uses_of ordered_writes_p.funcs
uses_so = computed ∙ ap (λ xs. xs ∷ []) (deep_same 2 (ops_of ordered_writes_f0.body) ∙ sym (region_operands ordered_writes_f0.body))

is_ordered : IsOrdered ordered_writes_trace
is_ordered = subst (IsAnswer ordered_writes_trace) none (first_race_tells ordered_writes_trace) where
  none : first_race_in ordered_writes_trace ≡ None
  none = refl

abbrev two : SourceEnd
two = Done [] (record { argument = 0; cells = record { ty = out.Int wd.W64; bits = 2 } ∷ [] } ∷ [])

ends_so : Ends ordered_writes_p 0 one_cell two ordered_writes_trace
ends_so = meant_ends ordered_writes_p 0 1000 52 12 one_cell two ordered_writes_trace worked_modules.ordered_writes tt

pub ordered_writes_have_one_end : OrderedWritesHaveOneEnd
ordered_writes_have_one_end s comes done = by_last (sequential_is_a_run ordered_writes_p 0 one_cell two ordered_writes_trace ends_so) where
  by_last : Finishes ordered_writes_p 0 one_cell ordered_writes_trace two → end_in ordered_writes_p 0 s ≡ Some two
  by_last f = (agrees_here ordered_writes_p uses_so 0 one_cell f.last f.reached f.finished (subst IsOrdered (sym f.shows) is_ordered) s comes).one_end done ∙ f.ends
