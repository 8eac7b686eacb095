-- What is left of the sources of a run once they are drawn.
use Rattle.std.specs.Prelude.{◌≡◌, ℕ, List, length}
use Rattle.std.specs.List.{AllZip}
use Rattle.json_values.specs.Table.{TableContent}
use Rattle.plane_model.specs.Points.{Path}
use Rattle.grid_base.specs.declared.kinds.Kind.{Kind}
use Rattle.grid_base.specs.declared.kinds.Kind.TheVariants as kinds
use Rattle.geojson_io.specs.LayerContent.{LayerContent}
use Rattle.run_sources.specs.declared.sources.ReadSource.{ReadSource}
use Rattle.run_beginning.specs.BegunLayers.{IsBegunLayer, Left, left_after}
use Rattle.run_beginning.specs.declared.drawing.DrawnLayer.{DrawnLayer}
use Rattle.run_beginning.specs.declared.drawing.DrawnLayer.TheVariants as drawn
use Rattle.run_beginning.specs.declared.drawing.DrawnSource.{DrawnSource}

-- all of a layer but its shapes, of which it had one for each row
pub record IsAllButShapes (given : LayerContent) (kind : Kind) (name : List ℕ) (table : TableContent) : Type 0 where
  pub of_name : name ≡ given.name
  pub of_kind : kind ≡ given.kind
  pub of_table : table ≡ given.table
  pub each : length given.shapes ≡ length table.rows

-- a layer of polygons or lines without its shapes; any other as it begins, and it takes none of the features left
abbrev pub IsDrawn : LayerContent → DrawnLayer → Type 0
IsDrawn given (drawn.Polygons name table) = IsAllButShapes given kinds.Polygon name table
IsDrawn given (drawn.Lines name table) = IsAllButShapes given kinds.Line name table
IsDrawn given (drawn.Whole layer) = (arcs : List Path) (left : Left) → IsBegunLayer arcs left given layer × (left_after given left ≡ left)

-- the layers of a source, each drawn, with their owner
abbrev pub IsDrawnSource : ReadSource → DrawnSource → Type 0
IsDrawnSource read drawn = (drawn.owner ≡ read.owner) × AllZip IsDrawn read.layers drawn.layers.items
