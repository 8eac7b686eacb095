use Rattle.std.proofs.Common.{subst, List, ℕ}
use Rattle.json_values.specs.Seen.{json_value}
use Rattle.json_read.specs.Taking.{HasValue}
use Rattle.geojson_io.specs.declared.reading.straight_features.PropertyTaker.{PropertyTaker}
use Rattle.geojson_io.proofs.StraightLemmas.{no_properties, properties_read}
use Rattle.geojson_io.proofs.reading.straight_features.straight_properties.Goals as goal

pub returns-then-null : goal.returns-then-null
returns-then-null c =
    let h = c.null.ensures.taken c.if-null.true c.args.depth in
    record { read = (h.0, h.1, no_properties c.new.result (json_value h.0) c.new.ensures.empty h.2) }

pub returns : goal.returns
returns c =
    let first : PropertyTaker = record { fields = c.in_ok-with_capacity.field-0 } in
    let h = c.in_ok-members_by.ensures.read c.if-not-branch.false first in
    let there = subst (λ (bytes : List ℕ). HasValue c.args.depth h.0 bytes c.members_by.new.self.rest.now) (c.null.ensures.stays c.if-null.false) h.1 in
    record { read = (h.0, there, properties_read first c.members_by.new.taker (json_value h.0) (c.in_ok-with_capacity.ensures.empty) h.2) }
