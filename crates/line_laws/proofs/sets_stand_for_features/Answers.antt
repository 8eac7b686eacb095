-- The law is proved in `proofs/ArcsBetween.antt`.
use Rattle.line_laws.proofs.ArcsBetween.{sets_stand_for_features}
use Rattle.line_laws.proofs.sets_stand_for_features.Goals as goal

pub returns : goal.returns
returns c = record { holds = sets_stand_for_features }
