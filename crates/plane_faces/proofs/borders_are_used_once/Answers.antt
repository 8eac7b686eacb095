-- A step has one dart, and a dart one step.
use Rattle.plane_faces.proofs.UsedOnce as used
use Rattle.plane_faces.proofs.borders_are_used_once.Goals as goal

pub returns : goal.returns
returns c = record { holds = used.borders_are_used_once }
