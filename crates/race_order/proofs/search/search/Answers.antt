use Rattle.std.proofs.Common.{◌≡◌, ◌<◌, ◌+◌, ℕ, length, ◌∙◌, subst, sym, arith, Some}
use Rattle.std.specs.Prelude.{slice_get}
use Rattle.ir_forms.specs.declared.names.TraceEntry.{TraceEntry}
use Rattle.race_order.specs.declared.table.Table.{Table}
use Rattle.race_order.specs.Known.{Sight}
use Rattle.race_order.specs.Sights.{number_in, sight, AreNumbers, Holds}
use Rattle.race_order.specs.Touch.{IsEarliest}
use Rattle.race_order.specs.Marks.{AreMarked}
use Rattle.race_order.proofs.Learn.{holds_grows}
use Rattle.race_order.proofs.Marked.{marks_grow}
use Rattle.race_order.proofs.Answer.{knows_few, taken_few, entry_at, sight_next, pairs_more, ordered}
use Rattle.race_order.proofs.search.search.Goals as goal

pub pass-requires : goal.pass-requires
pass-requires c =
    let l : c.loop-place.place < length c.args.trace.now.entries = omega (arith, c.loop-place-test.true, c.len-place-end.ensures) in (
      l,
      (
        c.loop-place.invariant.0,
        (
          subst (λ d. AreNumbers d (number_in c.loop-place.tasks.numbers)) (sym c.loop-place.invariant.1) (subst (λ (t : Table). AreNumbers c.args.tasks.now.depth (number_in t)) (sym c.loop-place.invariant.2) c.requires.numbers),
          (
            subst (λ (t : Table). (i : ℕ) (e : TraceEntry) → slice_get c.args.trace.now.entries i ≡ Some e → 0 < number_in t e.task) (sym c.loop-place.invariant.2) c.requires.numbered,
            (
              (λ p. omega (arith, knows_few c.args.trace.now.entries c.loop-place.place p p, c.loop-place-test.true, c.len-place-end.type_inv)),
              (λ p. omega (arith, taken_few c.args.trace.now.entries c.loop-place.place p, c.loop-place-test.true, c.len-place-end.type_inv)),
            ),
          ),
        ),
      ),
    )

pub note-requires : goal.note-requires
note-requires c =
    let l : c.loop-place.place < length c.args.trace.now.entries = omega (arith, c.loop-place-test.true, c.len-place-end.ensures) in
    let e : (e : TraceEntry) × (slice_get c.args.trace.now.entries c.loop-place.place ≡ Some e) = entry_at c.args.trace.now.entries c.loop-place.place l in
    let depth : c.pass.new.tasks.depth ≡ c.args.tasks.now.depth = c.in_ok-pass-in-None.ensures.same.0 ∙ c.loop-place.invariant.1 in
    let numbers : c.pass.new.tasks.numbers ≡ c.args.tasks.now.numbers = c.in_ok-pass-in-None.ensures.same.1 ∙ c.loop-place.invariant.2 in
    record {
      within = l;
      holds = subst (λ (s : Sight). Holds s c.pass.new.tasks c.pass.new.nodes.items) (sym (sight_next c.args.trace.now.entries c.loop-place.place e.0 e.1)) (c.in_ok-pass-in-None.ensures.holds e.0 e.1);
      numbers = subst (λ d. AreNumbers d (number_in c.pass.new.tasks.numbers)) (sym depth) (subst (λ (t : Table). AreNumbers c.args.tasks.now.depth (number_in t)) (sym numbers) c.requires.numbers);
      numbered = subst (λ (t : Table). (i : ℕ) (e : TraceEntry) → slice_get c.args.trace.now.entries i ≡ Some e → 0 < number_in t e.task) (sym numbers) c.requires.numbered;
      marked = marks_grow c.args.trace.now.entries c.loop-place.place (number_in c.pass.new.tasks.numbers) c.pass.new.tasks.depth c.loop-place.nodes.items c.pass.new.nodes.items c.loop-place.marks c.in_ok-pass-in-None.ensures.grows
          (subst (λ d. AreMarked c.args.trace.now.entries c.loop-place.place (number_in c.pass.new.tasks.numbers) d c.loop-place.nodes.items c.loop-place.marks) (sym c.in_ok-pass-in-None.ensures.same.0)
          (subst (λ (t : Table). AreMarked c.args.trace.now.entries c.loop-place.place (number_in t) c.loop-place.tasks.depth c.loop-place.nodes.items c.loop-place.marks) (sym c.in_ok-pass-in-None.ensures.same.1) c.loop-place.invariant.3));
    }

pub loop-place-preserved : goal.loop-place-preserved
loop-place-preserved c =
    let l : c.loop-place.place < length c.args.trace.now.entries = omega (arith, c.loop-place-test.true, c.len-place-end.ensures) in
    let e : (e : TraceEntry) × (slice_get c.args.trace.now.entries c.loop-place.place ≡ Some e) = entry_at c.args.trace.now.entries c.loop-place.place l in (
      holds_grows (sight c.args.trace.now.entries (c.loop-place.place + 1)) c.pass.new.tasks c.pass.new.nodes.items c.note.new.nodes.items c.in_ok-note-in-None.ensures.grows
          (subst (λ (s : Sight). Holds s c.pass.new.tasks c.pass.new.nodes.items) (sym (sight_next c.args.trace.now.entries c.loop-place.place e.0 e.1)) (c.in_ok-pass-in-None.ensures.holds e.0 e.1)),
      c.in_ok-pass-in-None.ensures.same.0 ∙ c.loop-place.invariant.1,
      c.in_ok-pass-in-None.ensures.same.1 ∙ c.loop-place.invariant.2,
      c.in_ok-note-in-None.ensures.marked,
      pairs_more c.args.trace.now.entries c.loop-place.place (subst (λ f. IsEarliest c.args.trace.now.entries c.loop-place.place f) c.in-None.is c.in_ok-first.ensures) c.loop-place.invariant.4,
    )

pub returns : goal.returns
returns c = ordered c.args.trace.now.entries c.loop-place.place (omega (arith, c.loop-place-test.false, c.len-place-end.ensures)) c.loop-place.invariant.4
