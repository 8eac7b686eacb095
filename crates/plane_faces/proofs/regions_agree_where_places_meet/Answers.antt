-- Each parity does.
use Rattle.plane_faces.proofs.Sighted.{region_agrees}
use Rattle.plane_faces.proofs.regions_agree_where_places_meet.Goals as goal

pub returns : goal.returns
returns c = record { holds = region_agrees }
