use Rattle.std.proofs.Common.{◌≡◌, ◌++◌, drop}
use Rattle.geojson_io.specs.Layering.{split_layers}
use Rattle.geojson_io.proofs.reading.layering.split_layers.Given as goal

abbrev pub invariant-loop-kind : goal.invariant-loop-kind
invariant-loop-kind l = l.layers ++ split_layers l.name l.first (drop l.kind-index l.kinds) l.left.items ≡ split_layers l.name l.first l.kinds l.fn.features.items
