-- The law is proved in `proofs/ArcsBetween.antt`.
use Rattle.line_laws.proofs.ArcsBetween.{sets_stand_for_points}
use Rattle.line_laws.proofs.sets_stand_for_points.Goals as goal

pub returns : goal.returns
returns c = record { holds = sets_stand_for_points }
