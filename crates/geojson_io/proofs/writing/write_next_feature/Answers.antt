use Rattle.std.proofs.Common.{codes}
use Rattle.std.proofs.lemmas.Result.{on_ok_weaker}
use Rattle.geojson_io.specs.Texts.{before_item}
use Rattle.geojson_io.proofs.TextLemmas.{feature_written}
use Rattle.geojson_io.proofs.writing.write_next_feature.Goals as goal

pub returns : goal.returns
returns c =
    record {
      written = on_ok_weaker c.end_feature.result (λ h.
          feature_written c.args.places c.args.keys.now c.args.row.now c.args.shape.now (before_item (codes ",\n") c.args.i) c.args.out.now c.start_feature.new.out c.write_geometry.new.out c.end_feature.new.out
          c.in_ok-start_feature.ensures.written c.in_ok-write_geometry.ensures.written h) c.end_feature.ensures.written;
    }
