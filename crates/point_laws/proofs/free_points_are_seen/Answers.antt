-- A point near it, to its right.
use Rattle.point_laws.proofs.SightLemmas.{free_points_are_seen}
use Rattle.point_laws.proofs.free_points_are_seen.Goals as goal

pub returns : goal.returns
returns c = record { holds = free_points_are_seen }
