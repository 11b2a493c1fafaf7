use Rattle.std.proofs.Common.{◌≡◌, ◌≤◌, ◌<◌, ◌+◌, ◌++◌, ◌∷◌, [], List, true, length, refl, sym, ap, subst, ◌∙◌, arith, length-append}
use Rattle.ir_forms.specs.declared.runs.ObjNo.{ObjNo}
use Rattle.async_objects.specs.Objects.{object_at, is_open, all_counted_down}
use Rattle.async_objects.specs.Counts.{count_at, less, all_less, freed, live, set_changes}
use Rattle.async_objects.specs.Reserved.{grown}
use Rattle.async_objects.specs.Kept.{with_kept, all_lowered}
use Rattle.async_objects.specs.Sound.{Fits}
use Rattle.async_objects.specs.Tables.{Table, with_set}
use Rattle.async_objects.proofs.LoopLemmas.{numbered, grown_twice}
use Rattle.async_objects.proofs.SoundLemmas.{fits_set}
use Rattle.async_objects.proofs.SetLemmas.{not_among, set_count, set_plain, set_whole, set_freed, set_can_drop}
use Rattle.async_objects.proofs.TableLemmas.{lower_keeps}
use Rattle.async_objects.proofs.objects.Objects.set.Goals as goal

pub count_down_all-requires-clause-fits : goal.count_down_all-requires-clause-fits
count_down_all-requires-clause-fits c =
    subst (λ g. Fits g g c.set_open-groups.new.slots.objects c.set_open-groups.new.slots.counts) (sym (c.as_slice.ensures ∙ c.set_open-groups.ensures.groups))
    (subst (λ j. Fits (object_at c.self.inside.slots.objects c.args.o).memberships (object_at c.self.inside.slots.objects c.args.o).memberships j.objects j.counts) (sym c.set_open-groups.ensures.slots) (fits_set c.self.inside.slots.objects c.self.inside.slots.counts c.args.o c.args.state (numbered c.self.inside.slots.objects c.self.inside.slots.counts c.args.o.0 c.self.invariant.0.1 (subst (λ t. 0 < count_at t.counts c.args.o.0) (sym c.self.view_is) c.requires.there)) (subst (λ t. is_open (object_at t.objects c.args.o) ≡ true) (sym c.self.view_is) c.requires.opened) c.requires.state c.self.invariant.0.0))

pub lower_all-requires-clause-room : goal.lower_all-requires-clause-room
lower_all-requires-clause-room c =
    let first : List ObjNo = freed (all_less c.as_slice-2.result.now) c.count_down_all.new.slots.counts in
    let last : List ObjNo = freed (less c.args.o 1 ∷ []) (all_lowered c.as_slice-2.result.now c.count_down_all.new.slots).counts in
    let both : first ++ last ≡ freed (set_changes c.args.o c.self.inside.slots.objects) c.self.inside.slots.counts = set_freed c.self.inside.slots c.set_open-groups.new.slots c.count_down_all.new.slots (all_lowered c.as_slice-2.result.now c.count_down_all.new.slots) c.args.o c.args.state c.as_slice.result.now c.as_slice-2.result.now (c.as_slice.ensures ∙ c.set_open-groups.ensures.groups) (c.as_slice-2.ensures ∙ c.set_open-groups.ensures.groups) c.set_open-groups.ensures.slots (c.count_down_all.ensures.slots ∙ ap (λ b. with_kept (all_counted_down b c.as_slice.result.now c.set_open-groups.new.slots.objects).objects c.set_open-groups.new.slots) c.is_error.ensures) refl (numbered c.self.inside.slots.objects c.self.inside.slots.counts c.args.o.0 c.self.invariant.0.1 (subst (λ t. 0 < count_at t.counts c.args.o.0) (sym c.self.view_is) c.requires.there)) (not_among c.self.inside.slots.objects c.self.inside.slots.counts c.args.o c.self.invariant.0.0 (subst (λ t. is_open (object_at t.objects c.args.o) ≡ true) (sym c.self.view_is) c.requires.opened)) in
    let most : length (freed (set_changes c.args.o c.self.inside.slots.objects) c.self.inside.slots.counts) ≤ c.args.gone.now.room = (subst (λ t. length (freed (set_changes c.args.o t.objects) t.counts) ≤ c.args.gone.now.room) (sym c.self.view_is) c.requires.gone) in
    let sum : length (first ++ last) ≡ length first + length last = length-append first last in
    omega (arith, sum, most, ap length both)

pub lower_one-requires-clause-there : goal.lower_one-requires-clause-there
lower_one-requires-clause-there c = subst (λ n. 0 < n) (sym (set_count c.self.inside.slots c.set_open-groups.new.slots c.count_down_all.new.slots c.lower_all.new.slots c.args.o c.args.state c.as_slice.result.now c.as_slice-2.result.now (c.as_slice.ensures ∙ c.set_open-groups.ensures.groups) (c.as_slice-2.ensures ∙ c.set_open-groups.ensures.groups) c.set_open-groups.ensures.slots (c.count_down_all.ensures.slots ∙ ap (λ b. with_kept (all_counted_down b c.as_slice.result.now c.set_open-groups.new.slots.objects).objects c.set_open-groups.new.slots) c.is_error.ensures) c.lower_all.ensures.slots (numbered c.self.inside.slots.objects c.self.inside.slots.counts c.args.o.0 c.self.invariant.0.1 (subst (λ t. 0 < count_at t.counts c.args.o.0) (sym c.self.view_is) c.requires.there)) (not_among c.self.inside.slots.objects c.self.inside.slots.counts c.args.o c.self.invariant.0.0 (subst (λ t. is_open (object_at t.objects c.args.o) ≡ true) (sym c.self.view_is) c.requires.opened)))) (subst (λ t. 0 < count_at t.counts c.args.o.0) (sym c.self.view_is) c.requires.there)

pub lower_one-requires-clause-room : goal.lower_one-requires-clause-room
lower_one-requires-clause-room c =
    let first : List ObjNo = freed (all_less c.as_slice-2.result.now) c.count_down_all.new.slots.counts in
    let last : List ObjNo = freed (less c.args.o 1 ∷ []) c.lower_all.new.slots.counts in
    let both : first ++ last ≡ freed (set_changes c.args.o c.self.inside.slots.objects) c.self.inside.slots.counts = set_freed c.self.inside.slots c.set_open-groups.new.slots c.count_down_all.new.slots c.lower_all.new.slots c.args.o c.args.state c.as_slice.result.now c.as_slice-2.result.now (c.as_slice.ensures ∙ c.set_open-groups.ensures.groups) (c.as_slice-2.ensures ∙ c.set_open-groups.ensures.groups) c.set_open-groups.ensures.slots (c.count_down_all.ensures.slots ∙ ap (λ b. with_kept (all_counted_down b c.as_slice.result.now c.set_open-groups.new.slots.objects).objects c.set_open-groups.new.slots) c.is_error.ensures) c.lower_all.ensures.slots (numbered c.self.inside.slots.objects c.self.inside.slots.counts c.args.o.0 c.self.invariant.0.1 (subst (λ t. 0 < count_at t.counts c.args.o.0) (sym c.self.view_is) c.requires.there)) (not_among c.self.inside.slots.objects c.self.inside.slots.counts c.args.o c.self.invariant.0.0 (subst (λ t. is_open (object_at t.objects c.args.o) ≡ true) (sym c.self.view_is) c.requires.opened)) in
    let most : length (freed (set_changes c.args.o c.self.inside.slots.objects) c.self.inside.slots.counts) ≤ c.args.gone.now.room = (subst (λ t. length (freed (set_changes c.args.o t.objects) t.counts) ≤ c.args.gone.now.room) (sym c.self.view_is) c.requires.gone) in
    let sum : length (first ++ last) ≡ length first + length last = length-append first last in
    subst (λ r. length last ≤ r.room) (sym c.lower_all.ensures.gone) (omega (arith, sum, most, ap length both))

pub invariant_of-self : goal.invariant_of-self
invariant_of-self c =
    let fewer : live c.lower_all.new.slots.counts ≤ live c.count_down_all.new.slots.counts = c.lower_all.ensures.live in
    let same : live c.count_down_all.new.slots.counts ≡ live c.self.inside.slots.counts = ap (λ j. live j.counts) (set_plain c.self.inside.slots c.set_open-groups.new.slots c.count_down_all.new.slots c.lower_all.new.slots c.args.o c.args.state c.as_slice.result.now c.as_slice-2.result.now (c.as_slice.ensures ∙ c.set_open-groups.ensures.groups) (c.as_slice-2.ensures ∙ c.set_open-groups.ensures.groups) c.set_open-groups.ensures.slots (c.count_down_all.ensures.slots ∙ ap (λ b. with_kept (all_counted_down b c.as_slice.result.now c.set_open-groups.new.slots.objects).objects c.set_open-groups.new.slots) c.is_error.ensures) c.lower_all.ensures.slots (numbered c.self.inside.slots.objects c.self.inside.slots.counts c.args.o.0 c.self.invariant.0.1 (subst (λ t. 0 < count_at t.counts c.args.o.0) (sym c.self.view_is) c.requires.there)) (not_among c.self.inside.slots.objects c.self.inside.slots.counts c.args.o c.self.invariant.0.0 (subst (λ t. is_open (object_at t.objects c.args.o) ≡ true) (sym c.self.view_is) c.requires.opened))) in
    lower_keeps c.lower_all.new.slots c.lower_one.new.slots c.self.inside.limit c.self.inside.waiters c.self.inside.places (length c.lower_all.new.spare) (length c.lower_one.new.spare) c.args.o 1
    ((c.lower_all.ensures.fits, c.lower_all.ensures.known), omega (arith, fewer, same, c.self.invariant.1), c.lower_all.ensures.places ∙ (c.count_down_all.ensures.places ∙ (c.set_open-groups.ensures.places ∙ c.self.invariant.2)), c.self.invariant.3, c.self.invariant.4)
    (set_can_drop c.self.inside.slots c.set_open-groups.new.slots c.count_down_all.new.slots c.lower_all.new.slots c.args.o c.args.state c.as_slice.result.now c.as_slice-2.result.now (c.as_slice.ensures ∙ c.set_open-groups.ensures.groups) (c.as_slice-2.ensures ∙ c.set_open-groups.ensures.groups) c.set_open-groups.ensures.slots (c.count_down_all.ensures.slots ∙ ap (λ b. with_kept (all_counted_down b c.as_slice.result.now c.set_open-groups.new.slots.objects).objects c.set_open-groups.new.slots) c.is_error.ensures) c.lower_all.ensures.slots (numbered c.self.inside.slots.objects c.self.inside.slots.counts c.args.o.0 c.self.invariant.0.1 (subst (λ t. 0 < count_at t.counts c.args.o.0) (sym c.self.view_is) c.requires.there)) (not_among c.self.inside.slots.objects c.self.inside.slots.counts c.args.o c.self.invariant.0.0 (subst (λ t. is_open (object_at t.objects c.args.o) ≡ true) (sym c.self.view_is) c.requires.opened)) (subst (λ t. 0 < count_at t.counts c.args.o.0) (sym c.self.view_is) c.requires.there) (subst (λ t. is_open (object_at t.objects c.args.o) ≡ true) (sym c.self.view_is) c.requires.opened) c.requires.state) c.lower_one.ensures.slots c.lower_one.ensures.places

pub returns-clause-table : goal.returns-clause-table
returns-clause-table c =
    ap (λ j. let t : Table = record { limit = c.self.inside.limit; room = j.room; waiters = c.self.inside.waiters; objects = j.objects; counts = j.counts } in t) (c.lower_one.ensures.slots ∙ set_whole c.self.inside.slots c.set_open-groups.new.slots c.count_down_all.new.slots c.lower_all.new.slots c.args.o c.args.state c.as_slice.result.now c.as_slice-2.result.now (c.as_slice.ensures ∙ c.set_open-groups.ensures.groups) (c.as_slice-2.ensures ∙ c.set_open-groups.ensures.groups) c.set_open-groups.ensures.slots (c.count_down_all.ensures.slots ∙ ap (λ b. with_kept (all_counted_down b c.as_slice.result.now c.set_open-groups.new.slots.objects).objects c.set_open-groups.new.slots) c.is_error.ensures) c.lower_all.ensures.slots (numbered c.self.inside.slots.objects c.self.inside.slots.counts c.args.o.0 c.self.invariant.0.1 (subst (λ t. 0 < count_at t.counts c.args.o.0) (sym c.self.view_is) c.requires.there)) (not_among c.self.inside.slots.objects c.self.inside.slots.counts c.args.o c.self.invariant.0.0 (subst (λ t. is_open (object_at t.objects c.args.o) ≡ true) (sym c.self.view_is) c.requires.opened)))
    ∙ ap (with_set c.args.state c.args.o) c.self.view_is

pub returns-clause-gone : goal.returns-clause-gone
returns-clause-gone c =
    let first : List ObjNo = freed (all_less c.as_slice-2.result.now) c.count_down_all.new.slots.counts in
    let last : List ObjNo = freed (less c.args.o 1 ∷ []) c.lower_all.new.slots.counts in
    c.lower_one.ensures.gone ∙ (ap (grown last) c.lower_all.ensures.gone ∙ (grown_twice first last c.args.gone.now ∙ (ap (λ xs. grown xs c.args.gone.now) (set_freed c.self.inside.slots c.set_open-groups.new.slots c.count_down_all.new.slots c.lower_all.new.slots c.args.o c.args.state c.as_slice.result.now c.as_slice-2.result.now (c.as_slice.ensures ∙ c.set_open-groups.ensures.groups) (c.as_slice-2.ensures ∙ c.set_open-groups.ensures.groups) c.set_open-groups.ensures.slots (c.count_down_all.ensures.slots ∙ ap (λ b. with_kept (all_counted_down b c.as_slice.result.now c.set_open-groups.new.slots.objects).objects c.set_open-groups.new.slots) c.is_error.ensures) c.lower_all.ensures.slots (numbered c.self.inside.slots.objects c.self.inside.slots.counts c.args.o.0 c.self.invariant.0.1 (subst (λ t. 0 < count_at t.counts c.args.o.0) (sym c.self.view_is) c.requires.there)) (not_among c.self.inside.slots.objects c.self.inside.slots.counts c.args.o c.self.invariant.0.0 (subst (λ t. is_open (object_at t.objects c.args.o) ≡ true) (sym c.self.view_is) c.requires.opened)))
    ∙ ap (λ t. grown (freed (set_changes c.args.o t.objects) t.counts) c.args.gone.now) c.self.view_is)))
