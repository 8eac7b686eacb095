use Rattle.std.proofs.Common.{◌≡◌, drop}
use Rattle.geojson_io.specs.Layers.{kinds_of}
use Rattle.geojson_io.specs.Layering.{kinds_from}
use Rattle.geojson_io.proofs.reading.layering.kinds_of.Given as goal

abbrev pub invariant-loop-feature : goal.invariant-loop-feature
invariant-loop-feature l = kinds_from l.kinds.items (drop l.feature-index l.features) ≡ kinds_of l.features
