-- Each point is in one part.
use Rattle.printed_laws.proofs.Counted.{none_is_held_twice}
use Rattle.printed_laws.proofs.none_is_held_twice.Goals as goal

pub returns : goal.returns
returns c = record { holds = none_is_held_twice }
