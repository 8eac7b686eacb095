-- The law is proved in `proofs/MatchLaws.antt`.
use Rattle.place_laws.proofs.MatchLaws.{matches_are_inside}
use Rattle.place_laws.proofs.matches_are_inside.Goals as goal

pub returns : goal.returns
returns c = record { holds = matches_are_inside }
