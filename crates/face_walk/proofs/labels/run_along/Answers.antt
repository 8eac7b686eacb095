use Rattle.std.proofs.Common.{ℕ}
use Rattle.face_walk.specs.declared.ring_steps.RingStep.{RingStep}
use Rattle.face_walk.proofs.RunPlaces.{run_between}
use Rattle.face_walk.proofs.labels.run_along.Goals as goal

abbrev arc_of : RingStep → ℕ
arc_of s = s.arc

pub returns-then-first-stop : goal.returns-then-first-stop
returns-then-first-stop c = record {
  exact = run_between arc_of c.args.steps.now c.args.arc c.start_at-first.result c.start_at-stop.result c.if-first-stop.true (c.ends_at.ensures.there c.if-ends_at.true)
      (c.begins_at.ensures.parted c.if-begins_at.true) (c.ends_at.ensures.parted c.if-ends_at.true);
}
