use Rattle.std.proofs.Common.{[], List, arith, codes, length, subst, sym}
use Rattle.std.proofs.lemmas.List.{take_all}
use Rattle.geojson_io.specs.Texts.{before_item}
use Rattle.geojson_io.specs.declared.shape.GeoShape.{GeoShape}
use Rattle.geojson_io.proofs.TextLemmas.{no_features, width_at}
use Rattle.run_plane.specs.declared.layer.Shape.{Shape}
use Rattle.run_texts.specs.Pictures.{AreWritten, IsDrawn}
use Rattle.run_texts.proofs.Drawing.{drawn_points, nothing_drawn, points_drawn, points_printed, written_on}
use Rattle.run_texts.proofs.pictures.write_shapes.Goals.{in-Nothing, in-Faces+in_ok-drawn-in-Faces, in-Paths+in_ok-drawn-in-Paths}
use Rattle.run_texts.proofs.pictures.write_shapes.Goals as goal

pub write_next_points-requires-clause-width : goal.write_next_points-requires-clause-width
write_next_points-requires-clause-width c =
    width_at (length c.args.keys.now) c.args.rows.now c.loop-i.i c.index-rows-i.result c.requires.widths (let l = c.loop-i-test.true in let e = c.requires.count in omega arith) c.index-rows-i.is

pub write_next_feature-requires-clause-width : goal.write_next_feature-requires-clause-width
write_next_feature-requires-clause-width c =
    width_at (length c.args.keys.now) c.args.rows.now c.loop-i.i c.index-rows-i.result c.requires.widths (let l = c.loop-i-test.true in let e = c.requires.count in omega arith) c.index-rows-i.is

pub loop-i-init : goal.loop-i-init
loop-i-init c = record { drawn = []; each = tt; is = no_features c.args.places c.args.keys.now c.args.rows.now c.args.out.now }

pub loop-i-preserved-in-Points : goal.loop-i-preserved-in-Points
loop-i-preserved-in-Points c =
    let plane = c.args.plane.now in
    let points = c.in-Points.points in
    let drawn = drawn_points plane points in
    let is_drawn : IsDrawn plane c.index-shapes-i.result drawn = subst (λ (s : Shape). IsDrawn plane s drawn) (sym c.in-Points.is) (points_drawn plane points) in
    written_on plane c.args.places c.args.keys.now c.args.rows.now c.args.shapes.now c.loop-i.i c.index-rows-i.result c.index-shapes-i.result drawn c.args.out.now c.loop-i.out c.write_next_points.new.out
    c.requires.count c.loop-i-test.true c.index-rows-i.is c.index-shapes-i.is c.loop-i.invariant is_drawn
    (points_printed plane c.args.places c.args.keys.now c.index-rows-i.result points c.as_slice.result.now (before_item (codes ",\n") c.loop-i.i) c.loop-i.out c.write_next_points.new.out
    c.as_slice.ensures.all c.in_ok-write_next_points-in-Points.ensures.written)

pub loop-i-preserved : goal.loop-i-preserved
loop-i-preserved c =
    let plane = c.args.plane.now in
    let s = c.index-shapes-i.result in
    let drawn : GeoShape = c.match-shape.drawn in
    let is_drawn : IsDrawn plane s drawn =
    elim c.match-shape.branch [
      | in-Nothing w ↦ rw (w.in-Nothing.is, w.drawn-is) (nothing_drawn plane)
      | in-Faces+in_ok-drawn-in-Faces w ↦ rw (w.in-Faces.is, w.drawn-is) w.in_ok-drawn-in-Faces.ensures.drawn
      | in-Paths+in_ok-drawn-in-Paths w ↦ rw (w.in-Paths.is, w.drawn-is) w.in_ok-drawn-in-Paths.ensures.drawn
    ] in
    written_on plane c.args.places c.args.keys.now c.args.rows.now c.args.shapes.now c.loop-i.i c.index-rows-i.result s drawn c.args.out.now c.loop-i.out c.write_next_feature.new.out
    c.requires.count c.loop-i-test.true c.index-rows-i.is c.index-shapes-i.is c.loop-i.invariant is_drawn c.in_ok-write_next_feature.ensures.written

pub returns : goal.returns
returns c =
    record {
      written = subst (λ (ss : List Shape). AreWritten c.args.plane.now c.args.places c.args.keys.now c.args.rows.now ss c.args.out.now c.loop-i.out)
          (take_all c.loop-i.i c.args.shapes.now c.loop-i-test.false) c.loop-i.invariant;
    }
