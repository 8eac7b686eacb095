use Rattle.std.proofs.Common.{◌+◌, refl}
use Rattle.json_values.specs.Seen.{json_value}
use Rattle.geojson_io.specs.declared.reading.taking.FeatureTaker.{FeatureTaker}
use Rattle.geojson_io.proofs.StraightLemmas.{feature_numbered}
use Rattle.geojson_io.proofs.TakingLemmas.{one_read_more}
use Rattle.geojson_io.proofs.reading.taking.FeatureTaker.take_straight.Goals as goal

pub returns-clause-taken : goal.returns-clause-taken
returns-clause-taken c =
    let old = c.args.self.now in
    let left = c.straight_feature.new.left in
    let new : FeatureTaker = record { alloc = old.alloc; places = old.places; limit = old.limit; left = left; number = old.number + 1; straight = old.number + 1; features = c.push.new.self; fault = old.fault } in
    let h = rw c.in-Some.is at c.in_ok-feature.ensures.read in
    λ e first. (
      h.0,
      h.1,
      one_read_more first old new (json_value h.0) c.in-Some.feature (λ l. feature_numbered old.places old.limit old.number old.left (json_value h.0) c.in-Some.feature left c.requires.room h.2)
          c.requires.room c.requires.sound refl refl refl c.in_ok-push.ensures.items c.requires.sound,
    )
