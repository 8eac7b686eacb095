-- Points of one label are of one face.
use Rattle.plane_faces.proofs.Classes as classes
use Rattle.plane_faces.proofs.labels_have_one_list_of_holders.Goals as goal

pub returns : goal.returns
returns c = record { holds = classes.labels_have_one_list_of_holders }
