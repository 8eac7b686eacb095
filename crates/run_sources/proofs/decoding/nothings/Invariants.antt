use Rattle.std.proofs.Common.{◌≡◌, replicate}
use Rattle.geojson_io.specs.declared.shape.GeoShape.TheVariants.{Nothing}
use Rattle.run_sources.proofs.decoding.nothings.Given as goal

abbrev pub invariant-loop-row : goal.invariant-loop-row
invariant-loop-row l = l.shapes ≡ replicate l._row Nothing
