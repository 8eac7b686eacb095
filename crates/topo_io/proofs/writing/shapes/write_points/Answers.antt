use Rattle.std.proofs.Common.{codes}
use Rattle.std.proofs.lemmas.Result.{on_ok_weaker}
use Rattle.geojson_io.specs.Texts.{point_text}
use Rattle.topo_io.proofs.TextLemmas.{one_written, many_written}
use Rattle.topo_io.proofs.writing.shapes.write_points.Goals as goal

pub returns-in_ok-write_type-in-len1 : goal.returns-in_ok-write_type-in-len1
returns-in_ok-write_type-in-len1 c =
    record {
      written = on_ok_weaker c.write_point.result (λ h.
          one_written (codes "Point") (codes "MultiPoint") (codes "coordinates") (point_text 0) c.args.points.now c.point-item.result c.args.out.now c.write_type.new.out c.write_point.new.out
          c.in-len1.len_at_least c.in-len1.len_below c.point-item.is c.in_ok-write_type-in-len1.ensures.written h) c.write_point.ensures.written;
    }

pub returns-in_ok-write_type-in_default : goal.returns-in_ok-write_type-in_default
returns-in_ok-write_type-in_default c =
    record {
      written = on_ok_weaker c.write_positions.result (λ h.
          many_written (codes "Point") (codes "MultiPoint") (codes "coordinates") (point_text 0) c.args.points.now c.args.out.now c.write_type-in_default.new.out c.write_positions.new.out
          c.in_default.len_at_least c.in_ok-write_type-in_default.ensures.written h) c.write_positions.ensures.written;
    }
