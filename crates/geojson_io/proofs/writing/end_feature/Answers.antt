use Rattle.std.proofs.lemmas.Result.{on_ok_weaker}
use Rattle.geojson_io.proofs.TextLemmas.{feature_ended}
use Rattle.geojson_io.proofs.writing.end_feature.Goals as goal

pub returns : goal.returns
returns c =
    record {
      written =
          on_ok_weaker c.push.result (λ h.
          feature_ended c.args.keys.now c.args.row.now c.args.out.now c.extend.new.self c.write_properties.new.out c.push.new.self
          c.in_ok-extend.ensures.ok c.in_ok-write_properties.ensures.written h) c.push.ensures.ok;
    }
