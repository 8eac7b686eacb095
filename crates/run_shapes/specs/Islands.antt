-- Layers without their islands.
use Rattle.std.specs.Prelude.{ℕ, Bool, not, List, length}
use Rattle.calc_ops.specs.Islands.{AreWithoutIslands}
use Rattle.run_state.specs.FaceSets.{HasSets, sets_in}
use Rattle.run_plane.specs.declared.layer.Layer.{Layer}
use Rattle.run_plane.specs.declared.plane.Plane.{Plane}

-- of each feature what is left without its islands; features without faces stay then, or all of them go
pub record IsMainland (least_area least_links : ℕ) (remove_empty : Bool) (plane : Plane) (layer made : Layer) : Type 0 where
  pub sets : List (List ℕ)
  pub left : AreWithoutIslands plane.arcs plane.faces (sets_in layer.shapes.items) least_area least_links (length (sets_in layer.shapes.items)) sets
  pub has : HasSets (not remove_empty) layer sets made
