use Rattle.std.proofs.Common.{None, false, refl}
use Rattle.json_values.specs.Seen.{json_value}
use Rattle.geojson_io.specs.declared.reading.straight_features.PartTaker.{PartTaker}
use Rattle.geojson_io.proofs.StraightLemmas.{feature_read}
use Rattle.geojson_io.proofs.reading.straight_features.straight_feature.Goals as goal

pub returns : goal.returns
returns c =
    let first : PartTaker = record { width = c.args.width; places = c.args.places; left = c.args.left.now; is_feature = false; fields = None; shape = None } in
    let h = c.in_ok-members_by.ensures.read c.if-not-branch.false first in
    record { read = (h.0, h.1, feature_read first c.members_by.new.taker c.in-Some-Some.fields c.in-Some-Some.shape (json_value h.0) h.2 refl refl refl c.if-not-taker.false c.in-Some-Some.is-0 c.in-Some-Some.is-1) }
