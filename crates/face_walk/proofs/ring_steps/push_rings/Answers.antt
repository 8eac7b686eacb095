use Rattle.std.proofs.Common.{◌≡◌, sym, subst, List, ◌∷◌, [], take, get_or}
use Rattle.plane_model.specs.Points.{Path}
use Rattle.face_walk.specs.RingSteps.{AreAdded}
use Rattle.face_walk.proofs.RingStepLemmas.{added_more, take_item}
use Rattle.face_walk.proofs.ring_steps.push_rings.Goals as goal

pub loop-ring-preserved : goal.loop-ring-preserved
loop-ring-preserved c =
    let arcs = c.args.t.now in
    let rings = c.args.rings.now in
    let k = c.loop-ring.ring-index in
    let ring = c.ring-item.result in
    let old = c.args.steps.now.items in
    let mid = c.loop-ring.steps.items in
    let new = c.push_steps.new.steps.items in
    let here : get_or rings k ring ≡ ring = sym c.ring-item.is in
    subst (λ (paths : List Path). AreAdded arcs c.args.item paths old new) (sym (take_item rings k ring c.loop-ring-test.true here))
    (added_more arcs c.args.item (take k rings) (ring ∷ []) old mid new c.loop-ring.invariant c.in_ok-push_steps.ensures.added)
