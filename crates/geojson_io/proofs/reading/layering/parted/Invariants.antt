use Rattle.std.proofs.Common.{◌≡◌, filter}
use Rattle.geojson_io.specs.Layers.{is_of_kind}
use Rattle.geojson_io.specs.Layering.{is_of_another}
use Rattle.geojson_io.proofs.reading.layering.parted.Given as goal

abbrev pub invariant-loop-feature : goal.invariant-loop-feature
invariant-loop-feature l = (l.chosen.items ≡ filter (is_of_kind l.first l.kind) l.yielded) × (l.others.items ≡ filter (is_of_another l.first l.kind) l.yielded)
