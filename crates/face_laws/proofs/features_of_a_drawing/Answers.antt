-- By the owners of the polygons.
use Rattle.face_laws.proofs.FeatureLemmas.{features_of_a_drawing}
use Rattle.face_laws.proofs.features_of_a_drawing.Goals as goal

pub returns : goal.returns
returns c = record { holds = features_of_a_drawing }
