use Rattle.std.proofs.Common.{arith, length, ◌<◌}
use Rattle.json_values.specs.Lists.{fields_list}
use Rattle.geojson_io.proofs.PropertyLemmas.{next_is_new, one_property_more}
use Rattle.geojson_io.proofs.reading.features.properties_of.Goals as goal

pub put_property-requires : goal.put_property-requires
put_property-requires c =
    let within : c.loop-i.i < length (fields_list c.args.object.now) = (let t = c.loop-i-test.true in let n = c.len-i-end.ensures.count in omega arith) in
    record { within = within; new = next_is_new (fields_list c.args.object.now) c.loop-i.i c.loop-i.fields within c.len-i-end.ensures.distinct c.loop-i.invariant }

pub loop-i-preserved : goal.loop-i-preserved
loop-i-preserved c =
    one_property_more (fields_list c.args.object.now) c.loop-i.i c.loop-i.fields c.put_property.new.fields (let t = c.loop-i-test.true in let n = c.len-i-end.ensures.count in omega arith) c.loop-i.invariant c.in_ok-put_property.ensures.ok
