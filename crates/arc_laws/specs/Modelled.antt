-- The arcs of a table are those of the model.
use Rattle.std.specs.Prelude.{◌≡◌, All, List}
use Rattle.plane_model.specs.Points.{Path}
use Rattle.plane_model.specs.Drawing.{Drawing}
use Rattle.plane_model.specs.Arcs.{arcs_of}
use Rattle.plane_model.specs.Snapped.{links_of}
use Rattle.grid_base.specs.Drawn.{HasPaths}
use Rattle.arc_table.specs.Direction.{IsForward}
use Rattle.arc_table.specs.Order.{AreNumbered}
use Rattle.arc_table.specs.PathArcs.{AreArcsOf}
use Rattle.arc_table.specs.WholeArcs.{StartsAtLeast}

-- The whole arcs of a drawing whose links meet at common ends alone, each in its direction, closed ones without a node
-- begun at their least vertices, and numbered as the paths come to them, are those that the model takes along the steps
-- of the paths.
abbrev pub ArcsAreModelled : Type 0
ArcsAreModelled = (d : Drawing) (arcs : List Path) → HasPaths d → AreArcsOf d arcs → All IsForward arcs → All (StartsAtLeast d) arcs → AreNumbered d arcs → arcs ≡ arcs_of d (links_of d)
