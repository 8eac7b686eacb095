-- Laws of existence: each region of a view has polygons that fit it, and each layer has a picture.
use Rattle.std.specs.Prelude.{List}
use Rattle.plane_model.specs.Drawing.{Polygon}
use Rattle.geojson_io.specs.LayerContent.{LayerContent}
use Rattle.region_model.specs.Region.{Region}
use Rattle.region_model.specs.Printed.{Fits}
use Rattle.chain_model.specs.Pictures.{Shows}
use Rattle.chain_model.specs.State.{StateLayer}
use Rattle.layer_laws.specs.Shown.{View, IsView, plane_of}

-- whatever the region is made of
abbrev pub EachRegionIsPictured : Type 0
EachRegionIsPictured = (v : View) → IsView v → (r : Region) → (polygons : List Polygon) × Fits (plane_of v) v.answers r polygons

abbrev pub EachLayerIsPictured : Type 0
EachLayerIsPictured = (v : View) → IsView v → (l : StateLayer) → (picture : LayerContent) × Shows (plane_of v) v.answers l picture
