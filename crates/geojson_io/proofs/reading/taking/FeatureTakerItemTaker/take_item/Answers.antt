use Rattle.std.proofs.Common.{◌≡◌, refl, sym, subst, ◌∙◌, None}
use Rattle.json_values.specs.Seen.{json_value}
use Rattle.json_read.specs.Taking.{TakesOne}
use Rattle.geojson_io.specs.Taking.{HasTaken}
use Rattle.geojson_io.specs.declared.reading.taking.FeatureTaker.{FeatureTaker}
use Rattle.geojson_io.proofs.TakingLemmas.{one_read_more, fault_found, none_there}
use Rattle.geojson_io.proofs.reading.taking.FeatureTakerItemTaker.take_item.Goals.{in-Ok+in_ok-push-in-Ok, in-Err}
use Rattle.geojson_io.proofs.reading.taking.FeatureTakerItemTaker.take_item.Goals as goal

pub returns : goal.returns
returns c =
    let none : c.args.self.now.fault ≡ None = none_there c.args.self.now.fault (sym c.is_some.ensures ∙ c.if-is_some.false) in
    elim c.match-numbered.branch [
      | in-Ok+in_ok-push-in-Ok w ↦ record {
        taken = λ first. subst (λ (t : FeatureTaker). TakesOne (HasTaken first c.args.self.now) (HasTaken first t) (json_value c.args.item)) (sym w.self-is)
            (one_read_more first c.args.self.now _ (json_value c.args.item) w.in-Ok.feature w.in-Ok.ensures.read w.in-Ok.ensures.room none refl refl refl w.in_ok-push-in-Ok.ensures.items none);
      }
      | in-Err w ↦ record {
        taken = λ first. subst (λ (t : FeatureTaker). TakesOne (HasTaken first c.args.self.now) (HasTaken first t) (json_value c.args.item)) (sym w.self-is)
            (fault_found first c.args.self.now _ (json_value c.args.item) w.in-Err.fault w.in-Err.ensures.read none refl refl refl);
      }
    ]
