use Rattle.std.proofs.Common.{◌≡◌, ◌∙◌, ap, sym, subst, arith, ℕ, ◌+◌, List, ◌++◌, ◌∷◌, [], length, map, take, get_or}
use Rattle.std.proofs.lemmas.List.{append_assoc, map-append}
use Rattle.plane_model.specs.Points.{Path}
use Rattle.plane_model.specs.Drawing.{Polygon}
use Rattle.face_walk.specs.RingSteps.{AreAdded, AreStepsFrom}
use Rattle.face_walk.proofs.RingStepLemmas.{item_number, steps_more, take_item}
use Rattle.face_walk.proofs.ring_steps.push_polygons.Goals as goal

pub loop-polygon-preserved : goal.loop-polygon-preserved
loop-polygon-preserved c =
    let arcs = c.args.t.now in
    let polygons = c.as_slice-polygon-items.result.now in
    let k = c.loop-polygon.polygon-index in
    let polygon = c.polygon-item.result in
    let feature : ℕ = c.args.feature in
    let old = c.args.all.now.owners.items in
    let owners = c.loop-polygon.all.owners.items in
    let here : get_or polygons k polygon ≡ polygon = sym c.polygon-item.is in
    let next = take_item polygons k polygon c.loop-polygon-test.true here in
    record {
      owners = c.in_ok-push.ensures.items ∙ ap (λ (xs : List ℕ). xs ++ feature ∷ []) c.loop-polygon.invariant.owners
          ∙ append_assoc old (map (λ (p : Polygon). feature) (take k polygons)) (feature ∷ [])
          ∙ ap (λ (xs : List ℕ). old ++ xs) (sym (map-append (λ (p : Polygon). feature) (take k polygons) (polygon ∷ [])) ∙ ap (map (λ (p : Polygon). feature)) (sym next));
      steps = λ before counted h.
          let number = item_number old owners before polygons feature k c.loop-polygon.invariant.owners counted in
          let len = c.len.ensures in
          let added = subst (λ (rings : List Path). AreAdded arcs c.in_ok-number.number rings c.loop-polygon.all.steps.items c.push_rings.new.steps.items) c.as_slice.ensures.all c.in_ok-push_rings.ensures.added in
          let size = c.loop-polygon.all.owners.ok in
          let said = c.in_ok-number.ensures.exact in
          let same : c.in_ok-number.number ≡ 0 + length (before ++ take k polygons) = omega (arith, number) in
          subst (λ (items : List (List Path)). AreStepsFrom arcs 0 items c.push_rings.new.steps.items) (append_assoc before (take k polygons) (polygon ∷ []) ∙ ap (λ (xs : List (List Path)). before ++ xs) (sym next))
          (steps_more arcs 0 (before ++ take k polygons) polygon c.loop-polygon.all.steps.items c.push_rings.new.steps.items c.in_ok-number.number same (c.loop-polygon.invariant.steps before counted h) added);
    }
