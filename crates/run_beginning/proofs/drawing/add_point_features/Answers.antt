use Rattle.std.proofs.Common.{◌≡◌, ◌++◌, ◌∙◌, ap, append_assoc, rules, sym, List, [], ◌∷◌}
use Rattle.std.specs.Vec.Iter.{into_iter_items}
use Rattle.geojson_io.specs.declared.shape.GeoShape.{GeoShape}
use Rattle.snap_round.specs.Paths.{with_points}
use Rattle.run_beginning.proofs.DrawingLemmas.{point_features_next, with_point_features}
use Rattle.run_beginning.proofs.drawing.add_point_features.Goals as goal

pub loop-shape-preserved : goal.loop-shape-preserved
loop-shape-preserved c =
    let steps = c.in-Some.ensures.steps in
    let shape = c.in-Some.shape in
    let rest = into_iter_items c.next.new.self in
    let before = c.loop-shape.drawing in
    let grown : c.add_feature.new.self ≡ record before { points = before.points ++ [] ∷ [] } = λ i. (c.in_ok-add_feature.ensures.ok i).1 in
    record {
      added = ap (with_point_features rest) (c.in_ok-add_points.ensures.added ∙ (λ i. with_points ((c.as_slice.ensures.all ∙ c.points_in-points.ensures.exact) i) (grown i)))
          ∙ point_features_next before shape rest
          ∙ ap (λ (shapes : List GeoShape). with_point_features shapes before) (sym steps.0)
          ∙ c.loop-shape.invariant.added;
      kept = search (rules, append_assoc);
      count = search rules;
    }
