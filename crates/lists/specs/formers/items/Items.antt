-- How an `Items` holds its elements, so that a type may reach itself through it: it is the list that
-- contracts see, and owns and lends what its `Vec` does.
use mathlib.Core.Path.{◌≡◌, refl, sym}
use mathlib.Core.List.{List, []}
use mathlib.Core.Former.{Former, this, list, via, children}
use base.Stored.{code_map}
use denote.RattleType.{RattleType}
use denote.HoleLaws.{Alike}
use denote.HolePlaces.{Recodes, struct_places, laid}
use denote.Hole.Carrier.{listed, list-listed}
use denote.Hole.Fix.{over}
use denote.Param.Weighed.{Weighed, w_list}
use denote.Model.Placed.{view_places}
use Rattle.std.specs.formers.vec.Vec as inner
use Rattle.std.specs.declared.alloc.Global.{Global}
use Rattle.std.specs.contracts.alloc.Global as global
use Rattle.std.specs.contracts.impls.GlobalAllocator.TheImpl.{ghosts}
use Rattle.lists.specs.declared.items.Items.TheInside.{Inside}
use Rattle.lists.specs.declared.items.Items.TheView.{view, invariant}
use Rattle.lists.specs.contracts.items.Items as Row
use Rattle.lists.specs.contracts.items.Items.TheInside as Fields

abbrev pub the_former : Former {0} → Former {0}
the_former elements = list elements

abbrev pub the_weighed : {elements : Former {0}} → Weighed elements → Weighed (the_former elements)
the_weighed weights = w_list weights

pub the_empty : List ⊥
the_empty = []

abbrev pub the_items : (X : Type 0) → List X → List X
the_items X xs = xs

pub the_items_listed : (X : Type 0) (xs : List X) → listed _ (children (the_former this) X xs) ≡ the_items X xs
the_items_listed X xs = list-listed X xs

-- the struct's one field, a `Vec`
abbrev the_fields : Former {0}
the_fields = via (inner.the_former this Global) Inside (λ X s. s.elements) (λ X v. record { elements = v }) (λ X s. refl) (λ X v. refl)

module _ (R R' : RattleType) (h : R.Denot → R'.Denot) where
  pub the_places : Alike R R' h → Alike (Row.the_row R) (Row.the_row R') ((the_former this).map R.Denot R'.Denot h)
  the_places same =
      view_places the_fields (list this) view (λ X Y k s. refl) (λ X s. refl) R.Denot R'.Denot h
      (Row.the_row R).coded (Row.the_row R').coded (invariant R.Denot) (invariant R'.Denot)
      (λ s p q. refl) (λ s p q. refl) (λ s holds. tt) (λ s holds. tt)
      (over (Fields.the_row R)) (over (Fields.the_row R'))
      (struct_places (Fields.the_type R) (Fields.the_type R') (inner.mapped h, tt) _ (λ s. refl) refl
      (laid _ _ _ (inner.the_places global.the_row ghosts R R' h same), tt))

  pub the_codes_placed : Recodes R R' h → Recodes (Row.the_row R) (Row.the_row R') ((the_former this).map R.Denot R'.Denot h)
  the_codes_placed same xs = sym (code_map R.coded.code R'.coded.code h (λ x. sym (same x)) xs)
