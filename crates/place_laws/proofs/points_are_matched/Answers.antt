-- The law is proved in `proofs/MatchLaws.antt`.
use Rattle.place_laws.proofs.MatchLaws.{points_are_matched}
use Rattle.place_laws.proofs.points_are_matched.Goals as goal

pub returns : goal.returns
returns c = record { holds = points_are_matched }
