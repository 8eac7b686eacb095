-- By the sector law and the ray law.
use Rattle.plane_faces.proofs.Connected.{parity_agrees}
use Rattle.plane_faces.proofs.parity_where_places_meet.Goals as goal

pub returns : goal.returns
returns c = record { holds = parity_agrees }
