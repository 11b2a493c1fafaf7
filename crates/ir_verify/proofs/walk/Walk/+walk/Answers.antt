-- The walk counts the faults of one region, and of one operation, more.
use Rattle.std.proofs.Common.{◌≡◌, ◌++◌, ap, ◌∙◌, refl, Option, append_assoc}
use Rattle.ir_forms.specs.declared.ops.Func.{Func}
use Rattle.ir_forms.specs.Ops.{results_of}
use Rattle.ir_verify.specs.Breaks.{noted_all, noted_spot}
use Rattle.ir_verify.specs.Places.{Around, Seen, places_in, within, params_of, defined, types_of}
use Rattle.ir_verify.specs.Standing.{around_of}
use Rattle.ir_verify.proofs.StepLemmas.{op_begins, held_next, region_begins, along_next}
use Rattle.ir_verify.proofs.walk.Walk.+walk.Goals as goal

pub walk_op-loop-place-init : goal.walk_op-loop-place-init
walk_op-loop-place-init t c = record {
  seen = refl;
  best = rw c.as_slice-regions.ensures (op_begins c.args.names.now c.args.op.now (around_of c.args.around.now) c.args.self.now.scope c.args.is_last c.args.self.now.best c.noted_spot-self.result
      (c.noted_spot-self.ensures ∙ ap (λ (f : Option Func). noted_spot (record { seen = c.args.self.now.scope; place = record { around = around_of c.args.around.now; is_last = c.args.is_last; callee = f; op = c.args.op.now } }) c.args.self.now.best) c.called.ensures));
}

pub walk_op-loop-place-preserved : goal.walk_op-loop-place-preserved
walk_op-loop-place-preserved t c = record {
  seen = c.in_ok-walk_region.ensures.seen ∙ c.loop-place.invariant.seen;
  best = held_next c.args.names.now c.as_slice-regions.result.now c.index-regions-place.result c.loop-place.place (around_of c.args.around.now) c.args.op.now c.args.self.now.scope
      c.loop-place.self.best c.walk_region.new.self.best _ c.loop-place-test.true c.index-regions-place.is
      (c.in_ok-walk_region.ensures.best
      ∙ ap (λ (around : Around). noted_all (places_in c.args.names.now c.index-regions-place.result around c.loop-place.self.scope) c.loop-place.self.best) c.within.ensures
      ∙ ap (λ (seen : Seen). noted_all (places_in c.args.names.now c.index-regions-place.result (within (around_of c.args.around.now) c.args.op.now c.loop-place.place) seen) c.loop-place.self.best) c.loop-place.invariant.seen)
      c.loop-place.invariant.best;
}

pub walk_region-loop-place-init : goal.walk_region-loop-place-init
walk_region-loop-place-init t c =
    let visible : c.define_params.new.scope ≡ c.args.self.now.scope ++ params_of c.args.region.now = c.in_ok-define_params.ensures ∙ ap (λ (ps : Seen). c.args.self.now.scope ++ ps) c.as_slice.ensures in
    record {
      seen = (params_of c.args.region.now, visible);
      best = rw c.as_slice-ops.ensures (region_begins c.args.names.now c.args.region.now (around_of c.args.around.now) c.args.self.now.scope c.define_params.new.scope c.args.self.now.best visible);
    }

pub walk_region-loop-place-preserved : goal.walk_region-loop-place-preserved
walk_region-loop-place-preserved t c = record {
  seen = (
    c.loop-place.invariant.seen.0 ++ defined (results_of c.index-ops-place.result) (types_of c.index-ops-place.result),
    c.in_ok-walk_op.ensures.seen ∙ ap (λ (s : Seen). s ++ defined (results_of c.index-ops-place.result) (types_of c.index-ops-place.result)) c.loop-place.invariant.seen.1 ∙ append_assoc c.args.self.now.scope c.loop-place.invariant.seen.0 (defined (results_of c.index-ops-place.result) (types_of c.index-ops-place.result)),
  );
  best = along_next c.args.names.now c.as_slice-ops.result.now c.index-ops-place.result c.loop-place.place (around_of c.args.around.now) c.loop-place.self.scope c.walk_op.new.self.scope _
      c.loop-place.self.best c.walk_op.new.self.best _ c.loop-place-test.true c.index-ops-place.is refl c.in_ok-walk_op.ensures.seen c.in_ok-walk_op.ensures.best c.loop-place.invariant.best;
}
