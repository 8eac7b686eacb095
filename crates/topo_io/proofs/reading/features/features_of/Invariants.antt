use Rattle.std.proofs.Common.{◌≡◌, ◌≤◌, ◌+◌, All, length}
use Rattle.geojson_io.proofs.FeatureLemmas.{IsNumberedTo}
use Rattle.geojson_io.specs.Sound.{FeatureIsSound}
use Rattle.topo_io.specs.Topologies.{numbered_feature}
use Rattle.topo_io.proofs.reading.features.features_of.Given as goal

abbrev pub invariant-loop-item : goal.invariant-loop-item
invariant-loop-item l =
    (l.n ≡ l.item-index) × (l.n ≡ length l.features.items) × (l.numbers.before + l.n ≤ l.numbers.limit) × All FeatureIsSound l.features.items
    × IsNumberedTo (numbered_feature l.topology l.numbers) l.items l.n l.initial.left l.features.items l.left
