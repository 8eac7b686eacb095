use Rattle.std.proofs.Common.{◌≡◌, ◌≤◌}
use Rattle.geojson_io.specs.Features.{numbered}
use Rattle.geojson_io.proofs.FeatureLemmas.{IsNumberedTo}
use Rattle.geojson_io.proofs.reading.features.members.Given as goal

abbrev pub invariant-loop-item : goal.invariant-loop-item
invariant-loop-item l = (l.n ≡ l.item-index) × (l.n ≤ l.limit) × IsNumberedTo (numbered l.kind l.places l.limit) l.items l.n l.initial.left l.features.items l.left
