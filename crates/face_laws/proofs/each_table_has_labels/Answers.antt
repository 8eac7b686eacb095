-- By the darts along the arcs, each with its number.
use Rattle.face_laws.proofs.LabelLemmas.{each_table_has_labels}
use Rattle.face_laws.proofs.each_table_has_labels.Goals as goal

pub returns : goal.returns
returns c = record { holds = each_table_has_labels }
