use Rattle.std.proofs.Common.{◌≡◌, map}
use Rattle.geojson_io.specs.declared.reading.features.Feature.{Feature}
use Rattle.geojson_io.proofs.reading.layering.layer_of.Given as goal

abbrev pub invariant-loop-feature : goal.invariant-loop-feature
invariant-loop-feature l = (l.rows ≡ map (λ (f : Feature). f.fields) l.yielded) × (l.shapes ≡ map (λ (f : Feature). f.shape) l.yielded)
