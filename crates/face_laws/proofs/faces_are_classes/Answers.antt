-- By the joins of the table.
use Rattle.face_laws.proofs.ClassLemmas.{faces_are_classes}
use Rattle.face_laws.proofs.faces_are_classes.Goals as goal

pub returns : goal.returns
returns c = record { holds = faces_are_classes }
