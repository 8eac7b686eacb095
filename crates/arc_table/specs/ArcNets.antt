-- What arcs are made of beside the paths of a snapped drawing.
use Rattle.std.specs.Prelude.{List, length}
use Rattle.plane_model.specs.Points.{GridPoint}
use Rattle.plane_model.specs.Drawing.{Drawing}
use Rattle.plane_model.specs.Snapped.{links_of}
use Rattle.arc_table.specs.Nodes.{AreTurns}
use Rattle.arc_table.specs.Steps.{AreLinks, AreOnward, AreSteps}
use Rattle.arc_table.specs.declared.half_links.Net.{Net}

-- the steps along the links of a drawing, each with the step that follows it where its end is no node
pub record IsNetOf (d : Drawing) (net : Net) : Type 0 where
  pub turns : List GridPoint
  pub are_turns : AreTurns d turns
  pub links : AreLinks (links_of d)
  pub steps : AreSteps (links_of d) net.steps
  pub on : AreOnward net.steps net.twins.items turns net.onward.items (length net.steps)
