use Rattle.std.proofs.Common.{◌≡◌, ◌++◌, ◌∙◌, ap, rules, subst, sym, List, [], ◌∷◌}
use Rattle.std.specs.Prelude.{All}
use Rattle.std.specs.Vec.Iter.{into_iter_items}
use Rattle.std.proofs.lemmas.List.Elements.{All-tail}
use Rattle.geojson_io.specs.Sound.{ShapeIsSound}
use Rattle.geojson_io.specs.declared.shape.GeoShape.{GeoShape}
use Rattle.snap_round.specs.Paths.{with_lines}
use Rattle.run_beginning.specs.Drawing.{lines_of}
use Rattle.run_beginning.proofs.DrawingLemmas.{line_features_next, with_line_features}
use Rattle.run_beginning.proofs.drawing.add_line_features.Goals as goal

pub loop-shape-preserved : goal.loop-shape-preserved
loop-shape-preserved c =
    let steps = c.in-Some.ensures.steps in
    let shape = c.in-Some.shape in
    let rest = into_iter_items c.next.new.self in
    let before = c.loop-shape.drawing in
    let so_far = c.loop-shape.invariant in
    let grown : c.add_feature.new.self ≡ record before { lines = before.lines ++ [] ∷ [] } = λ i. (c.in_ok-add_feature.ensures.ok i).1 in
    record {
      added = ap (with_line_features rest) (c.in_ok-add_shape_lines.ensures.added ∙ ap (with_lines (lines_of shape)) grown)
          ∙ line_features_next before shape rest
          ∙ ap (λ (shapes : List GeoShape). with_line_features shapes before) (sym steps.0)
          ∙ so_far.added;
      sound = All-tail ShapeIsSound shape rest (subst (All ShapeIsSound) steps.0 so_far.sound);
      count = search rules;
    }
