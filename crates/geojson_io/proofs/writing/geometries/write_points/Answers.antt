use Rattle.std.proofs.Common.{codes}
use Rattle.std.proofs.lemmas.Result.{on_ok_weaker}
use Rattle.geojson_io.specs.Texts.{point_text}
use Rattle.geojson_io.proofs.TextLemmas.{one_written, many_written}
use Rattle.geojson_io.proofs.writing.geometries.write_points.Goals as goal

pub returns-in_ok-write_point-in-len1 : goal.returns-in_ok-write_point-in-len1
returns-in_ok-write_point-in-len1 c =
    record {
      written = on_ok_weaker c.push.result (λ h.
          one_written (codes "Point") (codes "MultiPoint") (point_text c.args.places) c.args.points.now c.point-item.result c.args.out.now c.write_type.new.out c.write_point.new.out c.push.new.self
          c.in-len1.len_at_least c.in-len1.len_below c.point-item.is c.in_ok-write_type-in-len1.ensures.written c.in_ok-write_point-in-len1.ensures.written h) c.push.ensures.ok;
    }

pub returns-in_ok-write_path-in_default : goal.returns-in_ok-write_path-in_default
returns-in_ok-write_path-in_default c =
    record {
      written = on_ok_weaker c.push-in_default.result (λ h.
          many_written (codes "Point") (codes "MultiPoint") (point_text c.args.places) c.args.points.now c.args.out.now c.write_type-in_default.new.out c.write_path.new.out c.push-in_default.new.self
          c.in_default.len_at_least c.in_ok-write_type-in_default.ensures.written c.in_ok-write_path-in_default.ensures.written h) c.push-in_default.ensures.ok;
    }
