-- The steps of the polygons and boxes of a drawing along the arcs of a table.
use Rattle.std.specs.Prelude.{◌≡◌, List, [], ◌∷◌, map}
use Rattle.lists.specs.Lists.{joined_up}
use Rattle.plane_model.specs.Points.{Path}
use Rattle.plane_model.specs.Drawing.{Drawing}
use Rattle.face_walk.specs.RingSteps.{AreStepsOf, owners_from}
use Rattle.face_walk.specs.declared.ring_steps.PathSteps.{PathSteps}

-- those of its polygons, with the feature of each polygon, and those of its boxes
pub record AreAllStepsOf (arcs : List Path) (d : Drawing) (steps : PathSteps) : Type 0 where
  pub of_polygons : AreStepsOf arcs (joined_up d.polygons) steps.polygon_steps.items
  pub of_owners : steps.owners.items ≡ owners_from 0 d.polygons
  pub of_boxes : AreStepsOf arcs (map (λ (path : Path). path ∷ []) d.boxes) steps.box_steps.items
