use Rattle.std.proofs.Common.{◌∷◌, []}
use Rattle.std.proofs.lemmas.Result.{on_ok_weaker}
use Rattle.geojson_io.specs.Texts.{point_text}
use Rattle.geojson_io.proofs.TextLemmas.{written_more, list_written}
use Rattle.geojson_io.proofs.writing.geometries.write_path.Goals as goal

pub loop-i-preserved : goal.loop-i-preserved
loop-i-preserved c =
    written_more (point_text c.args.places) (44 ∷ []) c.loop-i.out c.push.new.self c.write_comma.new.out c.write_point.new.out c.args.points.now c.loop-i.i c.index-points-i.result c.loop-i-test.true c.index-points-i.is c.loop-i.invariant c.in_ok-write_comma.ensures.written c.in_ok-write_point.ensures.written

pub returns : goal.returns
returns c =
    record { written = on_ok_weaker c.push-2.result (λ h. list_written (point_text c.args.places) c.args.out.now c.push.new.self c.loop-i.out c.push-2.new.self c.args.points.now c.loop-i.i c.loop-i-test.false c.in_ok-push.ensures.ok c.loop-i.invariant h) c.push-2.ensures.ok }
