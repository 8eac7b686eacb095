-- Each side is seen by some point, and all that see it have one label.
use Rattle.plane_faces.proofs.Classes as classes
use Rattle.plane_faces.proofs.sides_are_tested.Goals as goal

pub returns : goal.returns
returns c = record { holds = classes.sides_are_tested }
