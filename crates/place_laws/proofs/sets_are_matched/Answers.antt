-- The law is proved in `proofs/MatchLaws.antt`.
use Rattle.place_laws.proofs.MatchLaws.{sets_are_matched}
use Rattle.place_laws.proofs.sets_are_matched.Goals as goal

pub returns : goal.returns
returns c = record { holds = sets_are_matched }
