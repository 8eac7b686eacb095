-- One label: no even list; two labels: a ring.
use Rattle.plane_faces.proofs.Classes as classes
use Rattle.plane_faces.proofs.labels_are_the_faces.Goals as goal

pub returns : goal.returns
returns c = record { holds = classes.labels_are_faces }
