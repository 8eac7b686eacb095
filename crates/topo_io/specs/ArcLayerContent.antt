-- What a layer in arcs holds.
use Rattle.std.specs.Prelude.{ℕ, List}
use Rattle.json_values.specs.Table.{TableContent}
use Rattle.grid_base.specs.declared.kinds.Kind.{Kind}
use Rattle.topo_io.specs.declared.arc_layer.ArcShape.{ArcShape}

-- a layer has as many shapes as rows
pub record ArcLayerContent : Type 0 where
  pub name : List ℕ
  pub kind : Kind
  pub table : TableContent
  pub shapes : List ArcShape
