use Rattle.std.proofs.Common.{◌≡◌, map, take}
use Rattle.json_values.specs.Lists.{fields_list}
use Rattle.geojson_io.specs.Features.{property}
use Rattle.geojson_io.proofs.reading.features.properties_of.Given as goal

abbrev pub invariant-loop-i : goal.invariant-loop-i
invariant-loop-i l = l.fields ≡ map property (take l.i (fields_list l.object))
