-- A link of the border has one side where the test holds.
use Rattle.plane_faces.proofs.Classes as classes
use Rattle.plane_faces.proofs.borders_are_boundaries.Goals as goal

pub returns : goal.returns
returns c = record { holds = classes.borders_are_boundaries }
