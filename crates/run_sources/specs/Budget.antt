-- What a run may still read: bytes, positions and features, which all its sources share.
use Rattle.std.specs.Prelude.{ℕ, ◌-◌, List, length, sum_by}
use Rattle.plane_model.specs.Points.{Path}
use Rattle.geojson_io.specs.LayerContent.{LayerContent}
use Rattle.geojson_io.specs.declared.shape.GeoShape.{GeoShape}
use Rattle.geojson_io.specs.declared.shape.GeoShape.TheVariants.{Nothing, Polygons, Lines, Points}
use Rattle.run_sources.specs.declared.sources.Budget.{Budget}

-- the most bytes that the sources of a run have together
abbrev pub most_bytes : ℕ
most_bytes = 67108864

abbrev pub whole_budget : Budget
whole_budget = record { bytes = most_bytes; room = record { positions = 2000000; features = 500000 } }

-- ---- what layers take

abbrev pub positions_along : List Path → ℕ
positions_along paths = sum_by (λ (path : Path). length path) paths

abbrev pub positions_in : GeoShape → ℕ
positions_in Nothing = 0
positions_in (Points points) = length points
positions_in (Lines lines) = positions_along lines
positions_in (Polygons polygons) = sum_by positions_along polygons

abbrev pub position_count : LayerContent → ℕ
position_count layer = sum_by positions_in layer.shapes

abbrev pub feature_count : LayerContent → ℕ
feature_count layer = length layer.shapes

-- what is left after `bytes` bytes, which gave these layers
abbrev pub budget_after : Budget → ℕ → List LayerContent → Budget
budget_after b bytes layers = record {
  bytes = b.bytes - bytes;
  room = record { positions = b.room.positions - sum_by position_count layers; features = b.room.features - sum_by feature_count layers };
}
