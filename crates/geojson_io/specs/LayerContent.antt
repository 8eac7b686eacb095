-- What a layer holds.
use Rattle.std.specs.Prelude.{ℕ, List}
use Rattle.json_values.specs.Table.{TableContent}
use Rattle.grid_base.specs.declared.kinds.Kind.{Kind}
use Rattle.geojson_io.specs.declared.shape.GeoShape.{GeoShape}

-- a layer has as many shapes as rows
pub record LayerContent : Type 0 where
  pub name : List ℕ
  pub kind : Kind
  pub table : TableContent
  pub shapes : List GeoShape
