use Rattle.std.proofs.Common.{◌≡◌, ◌∙◌, ap, sym, subst, arith, List, ◌∷◌, [], map, take}
use Rattle.std.proofs.lemmas.List.{take_all, map-append, length-map, length-take-le}
use Rattle.std.proofs.lemmas.Option.{slice_get_within}
use Rattle.plane_model.specs.Points.{Path}
use Rattle.face_walk.specs.RingSteps.{AreStepsFrom}
use Rattle.face_walk.proofs.RingStepLemmas.{steps_more, take_found}
use Rattle.face_walk.proofs.ring_steps.box_steps.Goals as goal

abbrev alone : Path → List Path
alone path = path ∷ []

pub loop-b-preserved : goal.loop-b-preserved
loop-b-preserved c =
    let arcs = c.args.t.now in
    let boxes = c.args.s.now.boxes in
    let b = c.loop-b.b in
    let ring = c.box_of.result.now in
    let found = c.box_of.ensures.found in
    let within = slice_get_within boxes b ring found in
    let next = take_found boxes b ring found in
    let size = length-take-le b boxes (omega arith) in
    let sized = length-map (take b boxes) alone in
    subst (λ (items : List (List Path)). AreStepsFrom arcs 0 items c.push_steps.new.steps.items) (sym (map-append alone (take b boxes) (ring ∷ [])) ∙ ap (λ (xs : List Path). map alone xs) (sym next))
    (steps_more arcs 0 (map alone (take b boxes)) (ring ∷ []) c.loop-b.steps.items c.push_steps.new.steps.items b (omega arith) c.loop-b.invariant c.in_ok-push_steps.ensures.added)

pub returns : goal.returns
returns c =
    let boxes = c.args.s.now.boxes in
    let count = c.box_count-b-end.ensures.count in
    let done = c.loop-b-test.false in
    let all : take c.loop-b.b boxes ≡ boxes = take_all c.loop-b.b boxes (omega arith) in
    record {
      steps = record {
        taken = c.loop-b.steps.items;
        each = subst (λ (xs : List Path). AreStepsFrom c.args.t.now 0 (map alone xs) c.loop-b.steps.items) all c.loop-b.invariant;
        moved = c.in_ok-sort_by_arc.ensures.moved;
        by_arc = c.in_ok-sort_by_arc.ensures.sorted;
      };
    }
