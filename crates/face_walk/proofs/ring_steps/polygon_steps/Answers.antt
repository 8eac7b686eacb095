use Rattle.std.specs.Prelude.{slice_get}
use Rattle.std.proofs.Common.{◌≡◌, ◌∙◌, ap, sym, subst, arith, ℕ, Some, List, ◌++◌, length, map, take}
use Rattle.std.proofs.lemmas.List.{take_all, length-take-le}
use Rattle.std.proofs.lemmas.Option.{slice_get_within}
use Rattle.lists.specs.Lists.{joined_up}
use Rattle.plane_model.specs.Points.{Path}
use Rattle.plane_model.specs.Drawing.{Polygon}
use Rattle.face_walk.specs.RingSteps.{AreStepsFrom, owners_from}
use Rattle.face_walk.proofs.RingStepLemmas.{joined_more, owners_counted, owners_more, take_found}
use Rattle.face_walk.proofs.ring_steps.polygon_steps.Goals as goal

pub loop-f-preserved : goal.loop-f-preserved
loop-f-preserved c =
    let arcs = c.args.t.now in
    let features = c.args.s.now.polygons in
    let f = c.loop-f.f in
    let polygons = c.rings_of.result.now in
    let made : c.new-feature.result ≡ f = c.new-feature.ensures.made in
    let found = subst (λ (n : ℕ). slice_get features n ≡ Some polygons) made c.rings_of.ensures.found in
    let within = slice_get_within features f polygons found in
    let next = take_found features f polygons found in
    let size = length-take-le f features (omega arith) in
    let counted : length c.loop-f.all.owners.items ≡ length (joined_up (take f features)) = ap (λ (xs : List ℕ). length xs) c.loop-f.invariant.owners ∙ owners_counted 0 (take f features) in
    record {
      owners = c.in_ok-push_polygons.ensures.owners
          ∙ (λ i. c.loop-f.invariant.owners i ++ map (λ (p : Polygon). made i) polygons)
          ∙ sym (owners_more 0 (take f features) polygons f (omega arith))
          ∙ ap (owners_from 0) (sym next);
      steps = subst (λ (items : List (List Path)). AreStepsFrom arcs 0 items c.push_polygons.new.all.steps.items) (sym (joined_more (take f features) polygons) ∙ ap (λ (xs : List (List Polygon)). joined_up xs) (sym next))
          (c.in_ok-push_polygons.ensures.steps (joined_up (take f features)) counted c.loop-f.invariant.steps);
    }

pub returns-clause-steps : goal.returns-clause-steps
returns-clause-steps c =
    let features = c.args.s.now.polygons in
    let count = c.polygon_count-f-end.ensures.count in
    let done = c.loop-f-test.false in
    let all : take c.loop-f.f features ≡ features = take_all c.loop-f.f features (omega arith) in
    record {
      taken = c.loop-f.all.steps.items;
      each = subst (λ (xs : List (List Polygon)). AreStepsFrom c.args.t.now 0 (joined_up xs) c.loop-f.all.steps.items) all c.loop-f.invariant.steps;
      moved = c.in_ok-sort_by_arc.ensures.moved;
      by_arc = c.in_ok-sort_by_arc.ensures.sorted;
    }
