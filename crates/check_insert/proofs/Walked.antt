-- What an operation becomes, by its parts.
use Rattle.std.proofs.Common.{◌≡◌, refl, ap, sym, ◌∙◌, append_assoc, ℕ, List, [], ◌∷◌, ◌++◌, map}
use Rattle.ir_forms.specs.declared.ops.Op.{Op, Op-F, out-Op, roll-Op}
use Rattle.ir_forms.specs.declared.ops.Op.TheFolds.{fold_out-Op}
use Rattle.ir_forms.specs.declared.ops.Region.{Region}
use Rattle.ir_forms.specs.Numbers.{Numbering, in_turn}
use Rattle.made_ops.specs.declared.insertion.Insertion.{Insertion}
use Rattle.check_insert.specs.declared.guard.Guard.{Guard}
use Rattle.check_insert.specs.declared.guard.Guard.TheVariants as guard
use Rattle.check_insert.specs.Shape.{behind_insertion, checked_op, checked_region, guarded, guard_of, insertion, op_checked, region_checked}
use Rattle.made_ops.specs.Made.{begun}

-- an operation with the numberings of its regions in their place
abbrev layer : Op-F Op Region → Op-F (Numbering (List Op)) (Numbering Region)
layer o = record { kind = o.kind; at = o.at; operands = o.operands; groups = o.groups; written = o.written; results = o.results; types = o.types; attr = o.attr; regions = map checked_region o.regions }

-- what guards an operation doesn't depend on its regions
same_guards : (g : Guard) (o : Op-F Op Region) (i : Insertion) → guarded g (layer o) i ≡ guarded g o i
same_guards guard.Nothing o i = refl
same_guards guard.Divisor o i = refl
same_guards guard.Quotient o i = refl
same_guards guard.Shift o i = refl
same_guards guard.Load o i = refl
same_guards guard.Store o i = refl
same_guards guard.Dimension o i = refl
same_guards guard.Alloc o i = refl
same_guards guard.Group o i = refl
same_guards guard.Bounds o i = refl
same_guards guard.Parallel o i = refl

-- an operation becomes its insertion and itself, with the checks in its regions
pub checked_parts : (op : Op) (free : ℕ) → checked_op op free ≡ behind_insertion (layer (out-Op op)) (insertion (out-Op op) free)
checked_parts op free =
    ap (λ (f : Numbering (List Op)). f free) (fold_out-Op (Numbering (List Op)) (Numbering Region) op_checked region_checked op)
    ∙ ap (behind_insertion (layer (out-Op op))) (same_guards (guard_of (out-Op op).kind) (out-Op op) (begun (out-Op op).at free))

parts : (op : Op) (free last : ℕ) (regions : List Region) (made : Insertion)
    → made ≡ insertion (out-Op op) free → in_turn (map checked_region (out-Op op).regions) made.free ≡ (regions, last)
    → checked_op op free ≡ (made.ops ++ roll-Op (record (out-Op op) { regions = regions }) ∷ [], last)
parts op free last regions made is_made is_regions =
    checked_parts op free ∙ ap (behind_insertion (layer (out-Op op))) (sym is_made)
    ∙ ap (λ (x : List Region × ℕ). (made.ops ++ roll-Op (record (out-Op op) { regions = x.0 }) ∷ [], x.1)) is_regions

-- what is added for an operation, from what each step gives
pub added : (op copy : Op) (free last : ℕ) (given regions : List Region) (made : Insertion) (before between after : List Op)
    → made ≡ insertion (out-Op op) free → between ≡ before ++ made.ops → given ≡ (out-Op op).regions → in_turn (map checked_region given) made.free ≡ (regions, last)
    → copy ≡ roll-Op (record (out-Op op) { regions = regions }) → after ≡ between ++ copy ∷ []
    → (after ≡ before ++ (checked_op op free).0) × (last ≡ (checked_op op free).1)
added op copy free last given regions made before between after is_made is_between is_given is_turn is_copy is_after = (
  is_after ∙ ap (λ (x : List Op). x ++ copy ∷ []) is_between ∙ append_assoc before made.ops (copy ∷ [])
      ∙ ap (λ (x : Op). before ++ (made.ops ++ x ∷ [])) is_copy ∙ ap (λ (x : List Op × ℕ). before ++ x.0) (sym (parts op free last regions made is_made is_regions)),
  ap (λ (x : List Op × ℕ). x.1) (sym (parts op free last regions made is_made is_regions)),
)
  where
    is_regions : in_turn (map checked_region (out-Op op).regions) made.free ≡ (regions, last)
    is_regions = ap (λ (rs : List Region). in_turn (map checked_region rs) made.free) (sym is_given) ∙ is_turn
